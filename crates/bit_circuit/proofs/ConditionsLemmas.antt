-- What the conditions of terms ask, term by term: sizes play no part.
use Rattle.std.proofs.Common.{◌≡◌, refl, ℕ, ℤ, suc, ◌+◌, ◌<◌, Bool, Option, List, [], ◌∷◌, ◌++◌, length, drop, get_or, sym, ◌∙◌, ap, arith}
use Rattle.std.proofs.lemmas.List.{length-append}
use Rattle.nir_ops.specs.declared.op.Op.{Op}
use Rattle.nir_ops.specs.declared.width.Width.{Width}
use Rattle.rule_term.specs.declared.cond.Cond.{Cond}
use Rattle.rule_term.specs.declared.term.Term.{Term}
use Rattle.rule_term.specs.declared.term.Term.TheVariants as term
use Rattle.rule_term.specs.Terms.{Terms, Nil, VarThen, LitThen, AppThen, terms_of}
use Rattle.rule_term.specs.Typings.{size_of, Occurrence, occurrences}
use Rattle.rule_term.specs.declared.cond.Cond.TheVariants.{PosPow2, NegPow2}
use Rattle.circuit_laws.specs.Literals.{Lit, negated, constant}
use Rattle.circuit_laws.specs.Gates.{Gate}
use Rattle.circuit_laws.specs.Blocks.{Block, Sum, behind, and_word, subtracter, negation, top}
use Rattle.circuit_laws.specs.Opcodes.{word_at}
use Rattle.circuit_laws.specs.RuleClauses.{Part, part_of, parts_of, parts_gates, all_false, below_top, cond_part}
use Rattle.bit_circuit.specs.declared.circuit.Circuit.{Circuit}
use Rattle.bit_circuit.specs.Asking.{with_part, with_parts}
use Rattle.bit_circuit.specs.Growth.{asked, all_asked, grown}
use Rattle.bit_circuit.proofs.AskedLemmas.{with_parts-append, with_parts-next}
use Rattle.bit_circuit.proofs.GrowthLemmas.{grown-append, grown-next}
use Rattle.bit_circuit.proofs.Walks.{occurrences-var, occurrences-lit, occurrences-app, occurrences-step}

pub all_asked-append : (k : Circuit) (a b : List (List Lit)) → all_asked k (a ++ b) ≡ all_asked (all_asked k a) b
all_asked-append k [] b = refl
all_asked-append k (c ∷ a) b = all_asked-append (asked k c) a b

regroup : (vars : List (List Lit)) (b : List Occurrence) (n : ℕ) (gs hs : List Gate) → parts_of vars b (behind (behind n gs) hs) ≡ parts_of vars b (behind n (gs ++ hs))
regroup vars b n gs hs = let e : behind (behind n gs) hs ≡ behind n (gs ++ hs) = omega (arith, length-append gs hs) in ap (parts_of vars b) e

pub parts_of-append : (vars : List (List Lit)) (a b : List Occurrence) (n : ℕ) → parts_of vars (a ++ b) n ≡ parts_of vars a n ++ parts_of vars b (behind n (parts_gates (parts_of vars a n)))
parts_of-append vars [] b n = let e : n ≡ n + 0 = omega arith in ap (parts_of vars b) e
parts_of-append vars (o ∷ a) b n =
    let part : Part = part_of o.cond (word_at vars o.var) n in
    let from : ℕ = behind n part.gates in
    ap (λ l. part ∷ l) (parts_of-append vars a b from ∙ ap (λ l. parts_of vars a from ++ l) (regroup vars b n part.gates (parts_gates (parts_of vars a from))))

-- the parts of terms at two lists of sizes are the same
pub parts_of-sizes : (terms : Terms) (widths others : List Width) (vars : List (List Lit)) (n : ℕ) → parts_of vars (occurrences terms widths) n ≡ parts_of vars (occurrences terms others) n
parts_of-sizes Nil widths others vars n = refl
parts_of-sizes (VarThen var constant size cond rest) widths others vars n =
    let part : Part = part_of cond (word_at vars var) n in
    ap (λ l. part ∷ l) (parts_of-sizes rest (drop 1 widths) (drop 1 others) vars (behind n part.gates))
parts_of-sizes (LitThen value boolean rest) widths others vars n = parts_of-sizes rest (drop 1 widths) (drop 1 others) vars n
parts_of-sizes (AppThen op size once args rest) widths others vars n =
    let outer : List Width → List Occurrence = λ w. occurrences rest (drop (suc (size_of args)) w) in
    let inner : List Width → List Occurrence = λ w. occurrences args (drop 1 w) in
    parts_of-append vars (inner widths) (outer widths) n
    ∙ ap (λ l. l ++ parts_of vars (outer widths) (behind n (parts_gates l))) (parts_of-sizes args (drop 1 widths) (drop 1 others) vars n)
    ∙ ap (λ l. parts_of vars (inner others) n ++ l)
    (parts_of-sizes rest (drop (suc (size_of args)) widths) (drop (suc (size_of args)) others) vars (behind n (parts_gates (parts_of vars (inner others) n))))
    ∙ sym (parts_of-append vars (inner others) (outer others) n)

-- ---- a term alone, and a loop over a list of terms

abbrev pub asks : Circuit → List (List Lit) → Terms → Circuit
asks k vars terms = with_parts k (parts_of vars (occurrences terms []) k.next)

pub asks-var : (t : Term) (var : ℕ) (constant : Bool) (size : Option Width) (cond : Option Cond) (k : Circuit) (vars : List (List Lit)) → t ≡ term.Var var constant size cond →
    asks k vars (terms_of (t ∷ [])) ≡ with_part k (part_of cond (word_at vars var) k.next)
asks-var t var constant size cond k vars is =
    ap (λ u. asks k vars (terms_of (u ∷ []))) is ∙ ap (λ os. with_parts k (parts_of vars os k.next)) (occurrences-var var constant size cond [])

pub asks-lit : (t : Term) (value : ℤ) (boolean : Bool) (k : Circuit) (vars : List (List Lit)) → t ≡ term.Lit value boolean → asks k vars (terms_of (t ∷ [])) ≡ k
asks-lit t value boolean k vars is =
    ap (λ u. asks k vars (terms_of (u ∷ []))) is ∙ ap (λ os. with_parts k (parts_of vars os k.next)) (occurrences-lit value boolean [])

pub asks-app : (t : Term) (op : Op) (size : Option Width) (once : Bool) (args : List Term) (k : Circuit) (vars : List (List Lit)) → t ≡ term.App op size once args →
    asks k vars (terms_of (t ∷ [])) ≡ asks k vars (terms_of args)
asks-app t op size once args k vars is =
    ap (λ u. asks k vars (terms_of (u ∷ []))) is
    ∙ ap (λ os. with_parts k (parts_of vars os k.next)) (occurrences-app op size once args [])
    ∙ ap (with_parts k) (parts_of-sizes (terms_of args) (drop 1 []) [] vars k.next)

pub asks-step : (list : List Term) (i : ℕ) (t : Term) (k : Circuit) (vars : List (List Lit)) → i < length list → t ≡ get_or list i t →
    asks k vars (terms_of (drop i list)) ≡ asks (asks k vars (terms_of (t ∷ []))) vars (terms_of (drop (i + 1) list))
asks-step list i t k vars within at =
    let own : List Occurrence = occurrences (terms_of (t ∷ [])) [] in
    let next : ℕ = 0 + size_of (terms_of (t ∷ [])) in
    let rest : List Occurrence = occurrences (terms_of (drop (i + 1) list)) (drop next []) in
    let parts : List Part = parts_of vars own k.next in
    ap (λ os. with_parts k (parts_of vars os k.next)) (occurrences-step list i t [] 0 next within at refl)
    ∙ ap (with_parts k) (parts_of-append vars own rest k.next)
    ∙ with_parts-append k parts (parts_of vars rest (behind k.next (parts_gates parts)))
    ∙ ap (λ n. with_parts (with_parts k parts) (parts_of vars rest n)) (sym (with_parts-next k parts))
    ∙ ap (with_parts (with_parts k parts)) (parts_of-sizes (terms_of (drop (i + 1) list)) (drop next []) [] vars (with_parts k parts).next)

-- ---- powers of two

module _ (k : Circuit) (xs : List Lit) where
  -- two steps of gates, then literals that are false, then more
  abbrev steps : List Gate → List Gate → List Lit → List (List Lit) → Circuit
  steps first second ls more = all_asked (all_asked (grown (grown k first) second) (all_false ls)) more

  steps_are : (first second : List Gate) (ls : List Lit) (more : List (List Lit)) → steps first second ls more ≡ with_part k (record { gates = first ++ second; demands = all_false ls ++ more })
  steps_are first second ls more =
      ap (λ x. all_asked (all_asked x (all_false ls)) more) (grown-append k first second)
      ∙ sym (all_asked-append (grown k (first ++ second)) (all_false ls) more)

pub positive_is : (k k1 k2 k3 k4 : Circuit) (xs one before both low : List Lit) (t : Lit) → one ≡ constant (length xs) 1
    → before ≡ (subtracter xs one k.next).word → k1 ≡ grown k (subtracter xs one k.next).gates
    → both ≡ (and_word xs before k1.next).word → k2 ≡ grown k1 (and_word xs before k1.next).gates
    → k3 ≡ all_asked k2 (all_false both) → low ≡ below_top xs → k4 ≡ asked k3 low → t ≡ negated (top xs)
    → asked k4 (t ∷ []) ≡ with_part k (cond_part PosPow2 xs k.next)
unfolding cond_part
positive_is k k1 k2 k3 k4 xs one before both low t one_is before_is k1_is both_is k2_is k3_is low_is k4_is t_is =
    let gates : List Gate = (subtracter xs (constant (length xs) 1) k.next).gates in
    let word : List Lit = (subtracter xs (constant (length xs) 1) k.next).word in
    let from : k1.next ≡ behind k.next gates =
    ap (λ (x : Circuit). x.next) k1_is ∙ grown-next k (subtracter xs one k.next).gates ∙ ap (λ o. behind k.next (subtracter xs o k.next).gates) one_is in
    let made : k1 ≡ grown k gates = k1_is ∙ ap (λ o. grown k (subtracter xs o k.next).gates) one_is in
    let before_made : before ≡ word = before_is ∙ ap (λ o. (subtracter xs o k.next).word) one_is in
    let second : ℕ → Block = λ n. and_word xs word n in
    let both_made : both ≡ (second (behind k.next gates)).word = both_is ∙ ap (λ b. (and_word xs b k1.next).word) before_made ∙ ap (λ n. (second n).word) from in
    let k2_made : k2 ≡ grown (grown k gates) (second (behind k.next gates)).gates =
    k2_is ∙ ap (λ b. grown k1 (and_word xs b k1.next).gates) before_made ∙ ap (λ n. grown k1 (second n).gates) from ∙ ap (λ x. grown x (second (behind k.next gates)).gates) made in
    rw (t_is, k4_is, low_is, k3_is, k2_made, both_made)
    (steps_are k xs gates (second (behind k.next gates)).gates (second (behind k.next gates)).word (below_top xs ∷ (negated (top xs) ∷ []) ∷ []))

pub negative_is : (k k0 k1 k2 k3 : Circuit) (xs minus one before both : List Lit) → minus ≡ (negation xs k.next).word → k0 ≡ grown k (negation xs k.next).gates → one ≡ constant (length xs) 1
    → before ≡ (subtracter minus one k0.next).word → k1 ≡ grown k0 (subtracter minus one k0.next).gates
    → both ≡ (and_word minus before k1.next).word → k2 ≡ grown k1 (and_word minus before k1.next).gates
    → k3 ≡ all_asked k2 (all_false both)
    → asked k3 minus ≡ with_part k (cond_part NegPow2 xs k.next)
unfolding cond_part
negative_is k k0 k1 k2 k3 xs minus one before both minus_is k0_is one_is before_is k1_is both_is k2_is k3_is =
    let zero_gates : List Gate = (negation xs k.next).gates in
    let m : List Lit = (negation xs k.next).word in
    let n : ℕ = behind k.next zero_gates in
    let n_is : k0.next ≡ n = ap (λ (x : Circuit). x.next) k0_is ∙ grown-next k zero_gates in
    let sub : Sum = subtracter m (constant (length xs) 1) n in
    let sum_is : subtracter minus one k0.next ≡ sub = ap (λ x. subtracter x one k0.next) minus_is ∙ ap (λ o. subtracter m o k0.next) one_is ∙ ap (subtracter m (constant (length xs) 1)) n_is in
    let before_made : before ≡ sub.word = before_is ∙ ap (λ (s : Sum). s.word) sum_is in
    let k1_made : k1 ≡ grown (grown k zero_gates) sub.gates = k1_is ∙ ap (λ (s : Sum). grown k0 s.gates) sum_is ∙ ap (λ x. grown x sub.gates) k0_is in
    let whole : k1 ≡ grown k (zero_gates ++ sub.gates) = k1_made ∙ grown-append k zero_gates sub.gates in
    let from : k1.next ≡ behind n sub.gates =
    ap (λ (x : Circuit). x.next) k1_made ∙ grown-next (grown k zero_gates) sub.gates ∙ ap (λ i. behind i sub.gates) (grown-next k zero_gates) in
    let second_is : and_word minus before k1.next ≡ and_word m sub.word (behind n sub.gates) =
    ap (λ x. and_word x before k1.next) minus_is ∙ ap (λ b. and_word m b k1.next) before_made ∙ ap (and_word m sub.word) from in
    let second : Block = and_word m sub.word (behind n sub.gates) in
    let both_made : both ≡ second.word = both_is ∙ ap (λ (b : Block). b.word) second_is in
    let k2_made : k2 ≡ grown (grown k (zero_gates ++ sub.gates)) second.gates = k2_is ∙ ap (λ (b : Block). grown k1 b.gates) second_is ∙ ap (λ x. grown x second.gates) whole in
    rw (minus_is, k3_is, k2_made, both_made) (steps_are k xs (zero_gates ++ sub.gates) second.gates second.word (m ∷ []))
