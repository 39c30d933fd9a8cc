-- The clauses of a circuit that has gained gates, and parts.
use Rattle.std.proofs.Common.{◌≡◌, refl, ℕ, suc, ◌+◌, List, [], ◌∷◌, ◌++◌, sym, ◌∙◌, ap, arith, append_assoc}
use Rattle.std.proofs.lemmas.List.{append-nil, map-append, length-append}
use Rattle.circuit_laws.specs.Literals.{Lit, numbers_of, all_numbers_of}
use Rattle.circuit_laws.specs.Gates.{Gate, gate_clauses, clauses_of}
use Rattle.circuit_laws.specs.Blocks.{behind}
use Rattle.circuit_laws.specs.RuleClauses.{Part, part_clauses, parts_gates, parts_clauses}
use Rattle.bit_circuit.specs.declared.circuit.Circuit.{Circuit}
use Rattle.bit_circuit.specs.Growth.{with_variable, asked, all_asked, with_gate, grown}
use Rattle.bit_circuit.specs.Asking.{with_part, with_parts, with_variables}
use Rattle.bit_circuit.proofs.GrowthLemmas.{all_asked-next, with_gate-next, grown-next}

-- ---- clauses

all_asked-clauses : (k : Circuit) (cs : List (List Lit)) → (all_asked k cs).clauses ≡ k.clauses ++ all_numbers_of cs
unfolding asked
all_asked-clauses k [] = sym (append-nil k.clauses)
all_asked-clauses k (c ∷ cs) = all_asked-clauses (asked k c) cs ∙ append_assoc k.clauses (numbers_of c ∷ []) (all_numbers_of cs)

with_gate-clauses : (k : Circuit) (g : Gate) → (with_gate k g).clauses ≡ k.clauses ++ all_numbers_of (gate_clauses k.next g)
unfolding with_gate with_variable
with_gate-clauses k g = all_asked-clauses (with_variable k) (gate_clauses k.next g)

pub grown-clauses : (k : Circuit) (gs : List Gate) → (grown k gs).clauses ≡ k.clauses ++ all_numbers_of (clauses_of k.next gs)
grown-clauses k [] = sym (append-nil k.clauses)
grown-clauses k (g ∷ gs) =
    grown-clauses (with_gate k g) gs
    ∙ ap (λ n. (with_gate k g).clauses ++ all_numbers_of (clauses_of n gs)) (with_gate-next k g)
    ∙ ap (λ l. l ++ all_numbers_of (clauses_of (suc k.next) gs)) (with_gate-clauses k g)
    ∙ append_assoc k.clauses (all_numbers_of (gate_clauses k.next g)) (all_numbers_of (clauses_of (suc k.next) gs))
    ∙ ap (λ l. k.clauses ++ l) (sym (map-append numbers_of (gate_clauses k.next g) (clauses_of (suc k.next) gs)))

-- ---- parts

with_part-next : (k : Circuit) (part : Part) → (with_part k part).next ≡ behind k.next part.gates
with_part-next k part = all_asked-next (grown k part.gates) part.demands ∙ grown-next k part.gates

with_part-clauses : (k : Circuit) (part : Part) → (with_part k part).clauses ≡ k.clauses ++ all_numbers_of (part_clauses k.next part)
with_part-clauses k part =
    all_asked-clauses (grown k part.gates) part.demands
    ∙ ap (λ l. l ++ all_numbers_of part.demands) (grown-clauses k part.gates)
    ∙ append_assoc k.clauses (all_numbers_of (clauses_of k.next part.gates)) (all_numbers_of part.demands)
    ∙ ap (λ l. k.clauses ++ l) (sym (map-append numbers_of (clauses_of k.next part.gates) part.demands))

pub with_parts-append : (k : Circuit) (a b : List Part) → with_parts k (a ++ b) ≡ with_parts (with_parts k a) b
with_parts-append k [] b = refl
with_parts-append k (part ∷ a) b = with_parts-append (with_part k part) a b

pub with_parts-next : (k : Circuit) (parts : List Part) → (with_parts k parts).next ≡ behind k.next (parts_gates parts)
with_parts-next k [] = omega arith
with_parts-next k (part ∷ parts) =
    let rest = with_parts-next (with_part k part) parts in
    let both = length-append part.gates (parts_gates parts) in
    omega (arith, rest, with_part-next k part, both)

pub with_parts-clauses : (k : Circuit) (parts : List Part) → (with_parts k parts).clauses ≡ k.clauses ++ all_numbers_of (parts_clauses k.next parts)
with_parts-clauses k [] = sym (append-nil k.clauses)
with_parts-clauses k (part ∷ parts) =
    let own = part_clauses k.next part in
    let rest = parts_clauses (behind k.next part.gates) parts in
    with_parts-clauses (with_part k part) parts
    ∙ ap (λ n. (with_part k part).clauses ++ all_numbers_of (parts_clauses n parts)) (with_part-next k part)
    ∙ ap (λ l. l ++ all_numbers_of rest) (with_part-clauses k part)
    ∙ append_assoc k.clauses (all_numbers_of own) (all_numbers_of rest)
    ∙ ap (λ l. k.clauses ++ l) (sym (map-append numbers_of own rest))

-- ---- variables

pub variable_next : (k k1 : Circuit) → k1 ≡ with_variable k → k1.next ≡ suc k.next
unfolding with_variable
variable_next k k1 is = ap (λ (x : Circuit). x.next) is

pub variable_more : (start k k1 : Circuit) (count : ℕ) → k ≡ with_variables start count → k1 ≡ with_variable k → k1 ≡ with_variables start (count + 1)
unfolding with_variable
variable_more start k k1 count is more =
    let e : suc (start.next + count) ≡ start.next + (count + 1) = omega arith in
    more ∙ ap (λ (x : Circuit). record x { next = suc x.next }) is ∙ ap (λ n. record start { next = n }) e
