-- Values that meet the conditions make the clauses of the conditions true.
use Rattle.std.proofs.Common.{◌≡◌, ℕ, ◌<◌, List, [], ◌∷◌, length, refl, sym, subst, arith, Bool, true, Option, Some, None}
use Rattle.std.specs.List.{list_all}
use Rattle.std.proofs.lemmas.Bool.{and_parts}
use Rattle.nir_ops.specs.declared.width.Width.{Width}
use Rattle.nir_ops.specs.Width.{width_bits}
use Rattle.rule_term.specs.declared.cond.Cond.{Cond}
use Rattle.rule_term.specs.Conditions.{cond_holds}
use Rattle.rule_term.specs.Typings.{Occurrence}
use Rattle.rule_term.specs.Holds.{meets_cond, is_met}
use Rattle.circuit_laws.specs.Literals.{Lit, word, all_of}
use Rattle.circuit_laws.specs.Gates.{AreMade, AreBelow, AreOrdered, clauses_of}
use Rattle.circuit_laws.specs.Blocks.{behind}
use Rattle.circuit_laws.specs.Opcodes.{word_at}
use Rattle.circuit_laws.specs.Computes.{AllBelow}
use Rattle.circuit_laws.specs.RuleClauses.{Part, part_of, part_clauses, parts_of, parts_gates, parts_clauses}
use Rattle.circuit_laws.specs.GateLaws.{all_joined, full, made_parts, ordered_joined}
use Rattle.circuit_laws.specs.ConditionLaws.{demands_true, cond_ordered}
use Rattle.circuit_laws.specs.TermsLaws.{AreFit, StandForAll, all_later, word_below}

part_ordered : (cond : Option Cond) (xs : List Lit) (n : ℕ) → 0 < n → AreBelow n xs → AreOrdered n (part_of cond xs n).gates
part_ordered None xs n p f = tt
part_ordered (Some cond) xs n p f = cond_ordered cond xs n p f

part_demands : (cond : Option Cond) (width : Width) (α : ℕ → Bool) (xs : List Lit) (n : ℕ) → α 0 ≡ true → length xs ≡ width_bits width → meets_cond cond width (word α xs) ≡ true
    → AreMade α n (part_of cond xs n).gates → all_of α (part_of cond xs n).demands ≡ true
part_demands None width α xs n t e met made = refl
part_demands (Some cond) width α xs n t e met made = demands_true cond α xs n t (subst (λ w. cond_holds cond w (word α xs) ≡ true) (sym e) met) made

pub parts_ordered : (vars : List (List Lit)) (os : List Occurrence) (n : ℕ) → 0 < n → AllBelow n vars → AreOrdered n (parts_gates (parts_of vars os n))
parts_ordered vars [] n p below = tt
parts_ordered vars (o ∷ os) n p below =
    let part : Part = part_of o.cond (word_at vars o.var) n in
    let from : ℕ = behind n part.gates in
    ordered_joined n part.gates (parts_gates (parts_of vars os from)) (part_ordered o.cond (word_at vars o.var) n p (word_below n vars o.var below))
    (parts_ordered vars os from (omega (arith, p)) (all_later n from vars (omega arith) below))

-- where the gates make what they are to make, and the values meet the conditions
pub parts_true : (vars : List (List Lit)) (os : List Occurrence) (n : ℕ) (α : ℕ → Bool) (values : List ℕ) → α 0 ≡ true → AreFit vars os → StandForAll α vars values
    → list_all (is_met values) os ≡ true → AreMade α n (parts_gates (parts_of vars os n)) → all_of α (parts_clauses n (parts_of vars os n)) ≡ true
parts_true vars [] n α values t fit stand met made = refl
parts_true vars (o ∷ os) n α values t fit stand met made =
    let xs : List Lit = word_at vars o.var in
    let part : Part = part_of o.cond xs n in
    let from : ℕ = behind n part.gates in
    let rest : List Part = parts_of vars os from in
    let both = and_parts (is_met values o) (list_all (is_met values) os) met in
    let own = made_parts α n part.gates (parts_gates rest) made in
    let here : meets_cond o.cond o.width (word α xs) ≡ true = subst (λ v. meets_cond o.cond o.width v ≡ true) (sym (stand o.var)) both.0 in
    all_joined α (part_clauses n part) (parts_clauses from rest)
    (all_joined α (clauses_of n part.gates) part.demands (full α n part.gates own.0) (part_demands o.cond o.width α xs n t fit.0 here own.0))
    (parts_true vars os from α values t fit.1 stand both.1 own.1)
