-- A verdict means what it is to mean.
use Rattle.std.specs.Prelude.{◌≡◌, refl, ◌+◌, ◌*◌, ◌/◌, ◌%◌, ◌^◌, ◌<◌, ◌≤◌, ℕ, zero, suc, Bool, true, false, not, ◌&&◌, Option, Some, None, List, [], ◌∷◌, map, sum, length, nat_eq, nat_lt, slice_get, ◌⊎◌, cond}
use Rattle.std.specs.List.{AllByRecursion}
use Rattle.std.specs.Option.{option_map, option_or}
use Rattle.std.specs.Cmp.Lexicographic.{pointwise, bytes_decides, slice_cmp}
use Rattle.std.specs.Ordering.{nat_cmp, ordering_then}
use Rattle.std.specs.declared.cmp.Ordering.{Ordering}
use Rattle.std.specs.declared.cmp.Ordering.TheVariants.{Less, Equal, Greater}
use Rattle.std.proofs.Common.{sym, ◌∙◌, ap, subst, ⊎_elim, inl, inr, arith}
use Rattle.std.proofs.lemmas.Bool.{and_parts, ltb-true, ltb-false, not-true, not-false, both_ways}
use Rattle.std.proofs.lemmas.Nat.{pow_pos, mul-add-lt, mod_below}
use Rattle.std.proofs.lemmas.Cmp.{ranked}
use Rattle.std.proofs.Math.Nat.{div-add-mod, mul_comm}
use Rattle.nir_ops.specs.declared.width.Width.{Width}
use Rattle.rule_term.specs.Rule.{Rule}
use Rattle.rule_term.specs.Formed.{IsFormed}
use Rattle.rule_term.specs.Typings.{is_typing, search_part, replace_part, typings}
use Rattle.rule_term.specs.Holds.{values_of, are_words, are_met, EqualAt, Holds}
use Rattle.size_laws.specs.MembersLaws.{all_typings, each_typing}
use Rattle.size_infer.specs.SizeFaults.{size_fault}
use Rattle.size_infer.specs.SizeFaultsLaws.{fault_means, none_means}
use Rattle.size_infer.specs.declared.fault.SizeFault.{SizeFault}
use Rattle.rule_spelling.specs.Files as said
use Rattle.rule_spelling.specs.Files.{LogStep, Proof, Step}
use Rattle.nir_ops.specs.declared.op.Op.{Op}
use Rattle.law_derive.specs.declared.fault.DeriveFault.{DeriveFault}
use Rattle.law_derive.specs.Derivations.{derivation_fault}
use Rattle.law_derive.specs.DerivationsLaws.{derivations_are_sound}
use Rattle.clause_check.specs.declared.fault.LogFault.{LogFault}
use Rattle.clause_check.specs.LogsLaws.{log_shows}
use Rattle.circuit_laws.specs.RuleClauses.{first_without, rule_clauses}
use Rattle.circuit_laws.specs.ClausesLaws.{clauses_show}
use Rattle.rule_check.specs.declared.cases.Trial.TheVariants as trial
use Rattle.rule_check.specs.declared.refused.RuleCause.{RuleCause}
use Rattle.rule_check.specs.declared.refused.RuleCause.TheVariants as cause
use Rattle.rule_check.specs.declared.refused.Refused.{Refused}
use Rattle.rule_check.specs.Accepted.{cause_of_trial, cause_by, cause_at, checked_step, chosen_line, Claim, claim_of, fault_of_log, refused_at, refused_by_size, refused_among, refused_for, refusal_on}
use Rattle.rule_check.specs.Cases.{trial_answer, trial_of, tuple, tuples, differs_at, first_difference}
use Rattle.circuit_laws.specs.Variables.{var_bits, free_bits}
use Rattle.rule_check.specs.CasesLaws.{number, number_small, tuple-number, tuple_within, words_of_tuple, length-tuple, find_some, equal_from_none}
use Rattle.circuit_laws.specs.VariableLaws.{are_within, within_from_words, length-var_bits}
use Rattle.rule_check.specs.SaidLaws.{refusal_as_said}
use Rattle.rule_check.specs.Verdicts.{AreEqualAt, IsFirstDifference, IsGood, IsBad, IsRefusal, AcceptedHold, RefusedAreJust}

-- the first of two lists that differ has the lesser first item, or the same and a lesser rest
first_less : (o : Ordering) (x y : ℕ) (rest : Ordering) → o ≡ nat_cmp x y → ordering_then o rest ≡ Less → (x < y) ⊎ ((x ≡ y) × (rest ≡ Less))
first_less Less x y rest e less = inl (ranked x y Less e)
first_less Equal x y rest e less = inr (ranked x y Equal e, less)
first_less Greater x y rest e less = cc

-- the order of the tuples is that of their numbers
number_less : (bits a b : List ℕ) → are_within bits a ≡ true → are_within bits b ≡ true → slice_cmp nat_cmp a b ≡ Less → number bits a < number bits b
number_less [] [] [] h i less = cc
number_less [] [] (y ∷ ys) h i less = cc
number_less [] (x ∷ xs) b h i less = cc
number_less (w ∷ ws) [] b h i less = cc
number_less (w ∷ ws) (x ∷ xs) [] h i less = cc
number_less (w ∷ ws) (x ∷ xs) (y ∷ ys) h i less =
    let own = and_parts (nat_lt x (2 ^ w)) (are_within ws xs) h in
    let other = and_parts (nat_lt y (2 ^ w)) (are_within ws ys) i in
    ⊎_elim (λ lower.
    let small : x * 2 ^ sum ws + number ws xs < 2 ^ sum ws * y = mul-add-lt x (2 ^ sum ws) (number ws xs) y lower (number_small ws xs own.1) in
    let turned : 2 ^ sum ws * y ≡ y * 2 ^ sum ws = mul_comm (2 ^ sum ws) y in
    omega (arith, small, turned))
    (λ same.
    let behind : number ws xs < number ws ys = number_less ws xs ys own.1 other.1 same.1 in
    let front : x * 2 ^ sum ws ≡ y * 2 ^ sum ws = ap (λ n. n * 2 ^ sum ws) same.0 in
    omega (arith, behind, front))
    (first_less (nat_cmp x y) x y (slice_cmp nat_cmp xs ys) refl less)

number-tuple : (bits : List ℕ) (k : ℕ) → k < 2 ^ sum bits → number bits (tuple bits k) ≡ k
number-tuple [] k small = omega (arith, small)
number-tuple (b ∷ bs) k small =
    let behind : number bs (tuple bs (k % 2 ^ sum bs)) ≡ k % 2 ^ sum bs = number-tuple bs (k % 2 ^ sum bs) (mod_below k (2 ^ sum bs) (pow_pos (sum bs))) in
    let whole : 2 ^ sum bs * (k / 2 ^ sum bs) + k % 2 ^ sum bs ≡ k = div-add-mod k (2 ^ sum bs) in
    let turned : 2 ^ sum bs * (k / 2 ^ sum bs) ≡ k / 2 ^ sum bs * 2 ^ sum bs = mul_comm (2 ^ sum bs) (k / 2 ^ sum bs) in
    omega (arith, behind, whole, turned)

-- where nothing differs, the sides are equal
equal_from_same : (rule : Rule) (widths : List Width) (values : List ℕ) → are_met rule widths values ≡ true → differs_at rule widths values ≡ false → AreEqualAt rule widths values
unfolding differs_at
equal_from_same rule widths values met same =
    let search : List ℕ = values_of rule.search (search_part rule widths) values in
    let replace : List ℕ = values_of rule.replace (replace_part rule widths) values in
    let equal : not (pointwise nat_eq search replace) ≡ false = subst (λ b. (b && not (pointwise nat_eq search replace)) ≡ false) met same in
    (bytes_decides search replace).0 (not-false (pointwise nat_eq search replace) equal)

unequal_from_differs : (rule : Rule) (widths : List Width) (values : List ℕ) → differs_at rule widths values ≡ true → (are_met rule widths values ≡ true) × (AreEqualAt rule widths values → ⊥)
unfolding differs_at
unequal_from_differs rule widths values other =
    let search : List ℕ = values_of rule.search (search_part rule widths) values in
    let replace : List ℕ = values_of rule.replace (replace_part rule widths) values in
    let parts = and_parts (are_met rule widths values) (not (pointwise nat_eq search replace)) other in
    (parts.0, λ equal. both_ways (pointwise nat_eq search replace) (not-true (pointwise nat_eq search replace) parts.1) ((bytes_decides search replace).1 equal))

pub first_from_some : (rule : Rule) → IsFormed rule → (widths : List Width) (values : List ℕ) → is_typing rule widths ≡ true → first_difference rule widths ≡ Some values → IsFirstDifference rule widths values
unfolding first_difference tuples
first_from_some rule formed widths values typing found =
    let bits : List ℕ = var_bits rule widths in
    let at = find_some (differs_at rule widths) (tuple bits) 0 (2 ^ free_bits rule widths) values found in
    let small : at.0 < 2 ^ free_bits rule widths = omega (arith, at.1) in
    let here = unequal_from_differs rule widths values at.3 in
    let within : are_within bits values ≡ true = ap (are_within bits) (sym at.2) ∙ tuple_within bits at.0 small in
    let placed : number bits values ≡ at.0 = ap (number bits) (sym at.2) ∙ number-tuple bits at.0 small in
    record {
      may_stand = record {
        count = ap length (sym at.2) ∙ length-tuple bits at.0 ∙ length-var_bits rule widths;
        words = ap (are_words rule widths) (sym at.2) ∙ words_of_tuple rule widths typing at.0 small;
        met = here.0;
      };
      differ = here.1;
      first = λ others stands less.
          let other : are_within bits others ≡ true = within_from_words rule formed widths others stands.count stands.words in
          let before : number bits others < number bits values = number_less bits others values other within less in
          let low : 0 ≤ number bits others = omega arith in
          let earlier : number bits others < at.0 = omega (arith, before, placed) in
          equal_from_same rule widths others stands.met (ap (differs_at rule widths) (sym (tuple-number bits others other)) ∙ at.4 (number bits others) low earlier);
    }

-- ---- the evidence at a typing

-- what the trial finds, by the bits and the first difference
abbrev Told : Rule → List Width → Option RuleCause → Type 0
Told rule widths None = (free_bits rule widths ≤ 16) × EqualAt rule widths
Told rule widths (Some cause) = IsBad rule widths (Some said.Cases) cause

told : (rule : Rule) → IsFormed rule → (widths : List Width) → is_typing rule widths ≡ true → (many : Bool) (found : Option (List ℕ)) → many ≡ nat_lt 16 (free_bits rule widths)
    → found ≡ first_difference rule widths → Told rule widths (cause_of_trial (cond many trial.TooMany (trial_answer found)))
told rule formed widths typing true found large first = (tt, ltb-true 16 (free_bits rule widths) (sym large))
told rule formed widths typing false None large first = (ltb-false 16 (free_bits rule widths) (sym large), equal_from_none rule formed widths (sym first))
told rule formed widths typing false (Some values) large first =
    (tt, ltb-false 16 (free_bits rule widths) (sym large), first_from_some rule formed widths values typing (sym first))

told_of_trial : (rule : Rule) → IsFormed rule → (widths : List Width) → is_typing rule widths ≡ true → Told rule widths (cause_of_trial (trial_of rule widths))
unfolding trial_of
told_of_trial rule formed widths typing = told rule formed widths typing (nat_lt 16 (free_bits rule widths)) (first_difference rule widths) refl refl

-- the evidence is good where no cause is told, and bad for the cause that is told
abbrev Judged : Rule → List Width → Option Proof → Option RuleCause → Type 0
Judged rule widths evidence None = IsGood rule widths evidence
Judged rule widths evidence (Some cause) = IsBad rule widths evidence cause

judged_by_trial : (rule : Rule) (widths : List Width) (found : Option RuleCause) → Told rule widths found → Judged rule widths (Some said.Cases) found
judged_by_trial rule widths None told = record { through = told.0; equal = told.1 }
judged_by_trial rule widths (Some cause) told = told

judged_by_derivation : (rule : Rule) → IsFormed rule → (widths : List Width) → is_typing rule widths ≡ true → (steps : List Step) (found : Option DeriveFault)
    → derivation_fault (record { rule = rule; widths = widths }) steps ≡ found → Judged rule widths (Some (said.Derive steps)) (option_map cause.Derive found)
judged_by_derivation rule formed widths typing steps None is = record { through = is; equal = derivations_are_sound rule widths steps formed typing is }
judged_by_derivation rule formed widths typing steps (Some wrong) is = is

judged_by_log : (rule : Rule) → IsFormed rule → (widths : List Width) → is_typing rule widths ≡ true → (log : List LogStep) (without : Option Op) (found : Option LogFault)
    → first_without rule ≡ without → fault_of_log rule widths log ≡ found
    → Judged rule widths (Some (said.Logged log)) (option_or (option_map cause.NoCircuit without) (option_map cause.Log found))
judged_by_log rule formed widths typing log (Some op) found lacks is = (tt, lacks)
judged_by_log rule formed widths typing log None (Some wrong) none is = (none, is)
judged_by_log rule formed widths typing log None None none is = record {
  through = (none, is);
  equal = clauses_show rule widths formed typing none (log_shows (rule_clauses rule widths) (map checked_step log) is);
}

judged_by : (rule : Rule) → IsFormed rule → (widths : List Width) → is_typing rule widths ≡ true → (evidence : Option Proof) → Judged rule widths evidence (cause_by rule widths evidence)
judged_by rule formed widths typing None = refl
judged_by rule formed widths typing (Some said.Cases) = judged_by_trial rule widths (cause_of_trial (trial_of rule widths)) (told_of_trial rule formed widths typing)
judged_by rule formed widths typing (Some (said.Derive steps)) =
    judged_by_derivation rule formed widths typing steps (derivation_fault (record { rule = rule; widths = widths }) steps) refl
judged_by rule formed widths typing (Some (said.Logged log)) = judged_by_log rule formed widths typing log (first_without rule) (fault_of_log rule widths log) refl refl

judged : (claim : Claim) → IsFormed claim.rule → (number : ℕ) (widths : List Width) → is_typing claim.rule widths ≡ true → Judged claim.rule widths (chosen_line number claim.lines) (cause_at claim number widths)
unfolding cause_at
judged claim formed number widths typing = judged_by claim.rule formed widths typing (chosen_line number claim.lines)

-- ---- the first typing without good evidence

-- the typings of a list from a number on, each before one has good evidence
abbrev GoodFrom : Claim → ℕ → List (List Width) → ℕ → Type 0
GoodFrom claim from list count = (k : ℕ) (widths : List Width) → k < count → slice_get list k ≡ Some widths → IsGood claim.rule widths (chosen_line (from + k) claim.lines)

record BadAmong (claim : Claim) (from : ℕ) (list : List (List Width)) (refused : Refused) : Type 0 where
  place : ℕ
  widths : List Width
  cause : RuleCause
  is : refused ≡ refused_at claim (from + place) cause
  at : slice_get list place ≡ Some widths
  bad : IsBad claim.rule widths (chosen_line (from + place) claim.lines) cause
  before : GoodFrom claim from list place

abbrev Among : Claim → ℕ → List (List Width) → Option Refused → Type 0
Among claim from list None = AllByRecursion (EqualAt claim.rule) list
Among claim from list (Some refused) = BadAmong claim from list refused

good_more : (claim : Claim) (from : ℕ) (widths : List Width) (rest : List (List Width)) (count : ℕ) → IsGood claim.rule widths (chosen_line from claim.lines) → GoodFrom claim (from + 1) rest count → GoodFrom claim from (widths ∷ rest) (suc count)
good_more claim from widths rest count here behind zero others less at =
    let same : widths ≡ others = cc in
    subst (λ w. IsGood claim.rule w (chosen_line (from + 0) claim.lines)) same (subst (λ n. IsGood claim.rule widths (chosen_line n claim.lines)) (let e : from ≡ from + 0 = omega arith in e) here)
good_more claim from widths rest count here behind (suc k) others less at =
    subst (λ n. IsGood claim.rule others (chosen_line n claim.lines)) (let e : from + 1 + k ≡ from + suc k = omega arith in e) (behind k others (omega (arith, less)) at)

among_step : (claim : Claim) (from : ℕ) (widths : List Width) (rest : List (List Width)) (here : Option RuleCause) (later : Option Refused) → Judged claim.rule widths (chosen_line from claim.lines) here → Among claim (from + 1) rest later
    → Among claim from (widths ∷ rest) (option_or (option_map (refused_at claim from) here) later)
among_step claim from widths rest (Some cause) later bad behind = record {
  place = 0;
  widths = widths;
  cause = cause;
  is = ap (λ n. refused_at claim n cause) (let e : from ≡ from + 0 = omega arith in e);
  at = refl;
  bad = subst (λ n. IsBad claim.rule widths (chosen_line n claim.lines) cause) (let e : from ≡ from + 0 = omega arith in e) bad;
  before = λ k others less at. absurd (omega (arith, less));
}
among_step claim from widths rest None None good behind = (good.equal, behind)
among_step claim from widths rest None (Some refused) good behind = record {
  place = suc behind.place;
  widths = behind.widths;
  cause = behind.cause;
  is = behind.is ∙ ap (λ n. refused_at claim n behind.cause) (let e : from + 1 + behind.place ≡ from + suc behind.place = omega arith in e);
  at = behind.at;
  bad = subst (λ n. IsBad claim.rule behind.widths (chosen_line n claim.lines) behind.cause) (let e : from + 1 + behind.place ≡ from + suc behind.place = omega arith in e) behind.bad;
  before = good_more claim from widths rest behind.place good behind.before;
}

among : (claim : Claim) → IsFormed claim.rule → (from : ℕ) (list : List (List Width)) → AllByRecursion (λ widths. is_typing claim.rule widths ≡ true) list → Among claim from list (refused_among claim from list)
among claim formed from [] all = tt
among claim formed from (widths ∷ rest) all =
    among_step claim from widths rest (cause_at claim from widths) (refused_among claim (from + 1) rest) (judged claim formed from widths all.0) (among claim formed (from + 1) rest all.1)

among_typings : (claim : Claim) → IsFormed claim.rule → Among claim 0 (typings claim.rule) (refused_among claim 0 (typings claim.rule))
among_typings claim formed = among claim formed 0 (typings claim.rule) (all_typings claim.rule (λ widths. is_typing claim.rule widths ≡ true) (λ widths typing. typing))

-- ---- the verdict on a rule

accepted : (claim : Claim) (fault : Option SizeFault) → refused_for claim fault ≡ None → (fault ≡ None) × (refused_among claim 0 (typings claim.rule) ≡ None)
accepted claim (Some fault) none = cc
accepted claim None none = (refl, none)

claims_hold : (claim : Claim) → IsFormed claim.rule → refusal_on claim ≡ None → Holds claim.rule
unfolding refusal_on
claims_hold claim formed none =
    let parts = accepted claim (size_fault claim.rule) none in
    let equal : AllByRecursion (EqualAt claim.rule) (typings claim.rule) = subst (Among claim 0 (typings claim.rule)) parts.1 (among_typings claim formed) in
    let definite = none_means claim.rule parts.0 in
    record {
      unambiguous = λ widths others typing other same. definite widths others typing other same;
      equal = λ widths typing. each_typing claim.rule (EqualAt claim.rule) equal widths typing;
    }

first_bad : (claim : Claim) (refused : Refused) → size_fault claim.rule ≡ None → BadAmong claim 0 (typings claim.rule) refused → IsRefusal claim refused
first_bad claim refused sizes bad =
    let e : 0 + bad.place ≡ bad.place = omega arith in
    subst (IsRefusal claim) (sym (bad.is ∙ ap (λ n. refused_at claim n bad.cause) e))
    (record {
      rule = refl;
      cause = record {
        sizes = sizes;
        widths = bad.widths;
        at = bad.at;
        bad = subst (λ n. IsBad claim.rule bad.widths (chosen_line n claim.lines) bad.cause) e bad.bad;
        before = λ k widths less at. subst (λ n. IsGood claim.rule widths (chosen_line n claim.lines)) (let f : 0 + k ≡ k = omega arith in f) (bad.before k widths less at);
      };
    })

refused_case : (claim : Claim) (fault : Option SizeFault) (refused : Refused) → fault ≡ size_fault claim.rule → IsFormed claim.rule → refused_for claim fault ≡ Some refused → IsRefusal claim refused
refused_case claim (Some fault) refused is formed told =
    let same : refused_by_size claim fault ≡ refused = cc in
    subst (IsRefusal claim) same (record { rule = refl; cause = fault_means claim.rule fault (sym is) })
refused_case claim None refused is formed told = first_bad claim refused (sym is) (subst (Among claim 0 (typings claim.rule)) told (among_typings claim formed))

claims_are_just : (claim : Claim) (refused : Refused) → IsFormed claim.rule → refusal_on claim ≡ Some refused → IsRefusal claim refused
unfolding refusal_on
claims_are_just claim refused formed told = refused_case claim (size_fault claim.rule) refused refl formed told

-- ---- what a file says of its entries is what they claim

pub accepted_hold : AcceptedHold
accepted_hold entry formed none = claims_hold (claim_of entry) formed (refusal_as_said entry ∙ none)

pub refused_are_just : RefusedAreJust
refused_are_just entry refused formed told = claims_are_just (claim_of entry) refused formed (refusal_as_said entry ∙ told)
