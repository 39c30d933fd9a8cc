-- A log in which nothing is wrong shows that no assignment makes all the first clauses true.
use Rattle.std.proofs.Common.{◌≡◌, ℕ, zero, suc, ℤ, pos, negsuc, Bool, true, false, List, [], ◌∷◌, ◌++◌, Option, Some, None, refl, sym, ap, ◌∙◌, subst, ⊎_elim}
use Rattle.std.specs.Prelude.{◌||◌, not, filter, slice_get, nat_lt, length, if◌then◌else◌}
use Rattle.std.specs.List.{AllByRecursion, list_all}
use Rattle.std.specs.Option.{option_or}
use Rattle.std.specs.Ordering.{int_eq}
use Rattle.std.proofs.Math.IntN.{neg_ℤ}
use Rattle.std.proofs.lemmas.Bool.{and_from, and_parts, cases_Bool}
use Rattle.std.proofs.lemmas.Bool.Decides.{Decides-int_eq}
use Rattle.clause_check.specs.declared.clause.LogStep.{LogStep}
use Rattle.clause_check.specs.declared.fault.LogFault.{LogFault}
use Rattle.clause_check.specs.declared.fault.LogFault.TheVariants as fault
use Rattle.clause_check.specs.declared.step.StepFault.{StepFault}
use Rattle.clause_check.specs.declared.step.StepFault.TheVariants.{NotUnit}
use Rattle.clause_check.specs.declared.step.Left.{Left}
use Rattle.clause_check.specs.declared.step.Left.TheVariants.{NoneLeft, OneLeft, MoreLeft}
use Rattle.clause_check.specs.Logs.{Clause, IsUnsatisfiable, clashes, clause_true, end_fault, fault_from, faulted, follow, has_empty, hinted, is_among, is_empty, left_in, left_of, literal_true, log_fault, numbered, step_fault, taken}

-- ---- lists

or_parts : (a b : Bool) → (a || b) ≡ false → (a ≡ false) × (b ≡ false)
or_parts true b is = absurd cc
or_parts false b is = (refl, is)

at_true : (assignment : ℕ → Bool) (clauses : List Clause) (k : ℕ) (clause : Clause) → list_all (clause_true assignment) clauses ≡ true → slice_get clauses k ≡ Some clause
    → clause_true assignment clause ≡ true
at_true assignment [] k clause all is = absurd cc
at_true assignment (first ∷ clauses) zero clause all is =
    let e : first ≡ clause = cc in
    subst (λ c. clause_true assignment c ≡ true) e (and_parts (clause_true assignment first) (list_all (clause_true assignment) clauses) all).0
at_true assignment (first ∷ clauses) (suc k) clause all is = at_true assignment clauses k clause (and_parts (clause_true assignment first) (list_all (clause_true assignment) clauses) all).1 is

numbered_true : (assignment : ℕ → Bool) (clauses : List Clause) (number : ℕ) (clause : Clause) → list_all (clause_true assignment) clauses ≡ true → numbered clauses number ≡ Some clause
    → clause_true assignment clause ≡ true
numbered_true assignment clauses zero clause all is = absurd cc
numbered_true assignment clauses (suc k) clause all is = at_true assignment clauses k clause all is

-- ---- literals

no_more : (b : Bool) → not b ≡ true → b ≡ false
no_more true is = absurd cc
no_more false is = refl

-- the negation of a true literal is false
negated : (assignment : ℕ → Bool) (literal : ℤ) → literal_true assignment literal ≡ true → literal_true assignment (neg_ℤ literal) ≡ false
negated assignment (pos zero) is = absurd cc
negated assignment (pos (suc n)) is = ap not is
negated assignment (negsuc n) is = no_more (assignment (suc n)) is

-- these literals are false
abbrev AreFalse : (ℕ → Bool) → List ℤ → Type 0
AreFalse assignment falses = AllByRecursion (λ literal. literal_true assignment literal ≡ false) falses

among_false : (assignment : ℕ → Bool) (falses : List ℤ) (literal : ℤ) → AreFalse assignment falses → is_among literal falses ≡ true → literal_true assignment literal ≡ false
among_false assignment [] literal all is = absurd cc
among_false assignment (first ∷ falses) literal all is =
    ⊎_elim (λ same. subst (λ l. literal_true assignment l ≡ false) (sym ((Decides-int_eq literal first).0 same)) all.0)
    (λ other. among_false assignment falses literal all.1 (sym (ap (λ b. b || is_among literal falses) other) ∙ is))
    (cases_Bool (int_eq literal first))

false_last : (assignment : ℕ → Bool) (falses : List ℤ) (literal : ℤ) → AreFalse assignment falses → literal_true assignment literal ≡ false → AreFalse assignment (falses ++ literal ∷ [])
false_last assignment [] literal all is = (is, tt)
false_last assignment (first ∷ falses) literal all is = (all.0, false_last assignment falses literal all.1 is)

all_false : (assignment : ℕ → Bool) (clause : Clause) → clause_true assignment clause ≡ false → AreFalse assignment clause
all_false assignment [] is = tt
all_false assignment (literal ∷ clause) is =
    let both = or_parts (literal_true assignment literal) (clause_true assignment clause) is in
    (both.0, all_false assignment clause both.1)

-- ---- what is left of a true clause

module _ (assignment : ℕ → Bool) (falses : List ℤ) (are : AreFalse assignment falses) where
  abbrev still : Clause → List ℤ
  still clause = filter (λ literal. not (is_among literal falses)) clause

  kept_true : (literal : ℤ) (clause : Clause) (own : Bool) → literal_true assignment literal ≡ own → (clause_true assignment clause ≡ true → clause_true assignment (still clause) ≡ true)
      → (literal_true assignment literal || clause_true assignment clause) ≡ true → (literal_true assignment literal || clause_true assignment (still clause)) ≡ true
  kept_true literal clause true own behind is = ap (λ b. b || clause_true assignment (still clause)) own
  kept_true literal clause false own behind is =
      ap (λ b. b || clause_true assignment (still clause)) own ∙ behind (sym (ap (λ b. b || clause_true assignment clause) own) ∙ is)

  -- a true clause keeps a true literal
  still_true : (clause : Clause) → clause_true assignment clause ≡ true → clause_true assignment (still clause) ≡ true
  still_true [] is = is
  still_true (literal ∷ clause) is =
      ⊎_elim
      (λ gone.
      let off = among_false assignment falses literal are gone in
      let rest : clause_true assignment clause ≡ true = sym (ap (λ b. b || clause_true assignment clause) off) ∙ is in
      rw gone (still_true clause rest))
      (λ kept. rw kept (kept_true literal clause (literal_true assignment literal) refl (still_true clause) is))
      (cases_Bool (is_among literal falses))

all_same : (assignment : ℕ → Bool) (literal : ℤ) (others : List ℤ) → list_all (int_eq literal) others ≡ true → clause_true assignment (literal ∷ others) ≡ true → literal_true assignment literal ≡ true
all_same assignment literal [] all is = or_none (literal_true assignment literal) is
  where
    or_none : (b : Bool) → (b || false) ≡ true → b ≡ true
    or_none true is = refl
    or_none false is = is
all_same assignment literal (first ∷ others) all is =
    let parts = and_parts (int_eq literal first) (list_all (int_eq literal) others) all in
    let e : literal ≡ first = (Decides-int_eq literal first).0 parts.0 in
    all_same assignment literal others parts.1 (merged (literal_true assignment literal) (literal_true assignment first) (clause_true assignment others) (ap (literal_true assignment) e) is)
  where
    merged : (a b c : Bool) → a ≡ b → (a || (b || c)) ≡ true → (a || c) ≡ true
    merged true b c same is = refl
    merged false true c same is = absurd cc
    merged false false c same is = is

-- ---- hints

-- what a unit step leaves is so
abbrev IsLeft : (ℕ → Bool) → Left → Type 0
IsLeft assignment NoneLeft = ⊥
IsLeft assignment (OneLeft literal) = literal_true assignment literal ≡ true
IsLeft assignment MoreLeft = Unit {0}

left_true : (assignment : ℕ → Bool) (literals : List ℤ) → clause_true assignment literals ≡ true → IsLeft assignment (left_of literals)
left_true assignment [] is = absurd cc
left_true assignment (literal ∷ others) is =
    ⊎_elim (λ one. rw one (all_same assignment literal others one is)) (λ more. rw more tt) (cases_Bool (list_all (int_eq literal) others))

module _ (assignment : ℕ → Bool) (clauses : List Clause) (all : list_all (clause_true assignment) clauses ≡ true) where
  -- hints never end well where all clauses are true
  abbrev NeverEnd : (List ℤ → Option StepFault) → Type 0
  NeverEnd others = (falses : List ℤ) → AreFalse assignment falses → others falses ≡ None → ⊥

  taken_never : (falses : List ℤ) → AreFalse assignment falses → (left : Left) → IsLeft assignment left → (others : List ℤ → Option StepFault) → NeverEnd others → taken falses left others ≡ None → ⊥
  taken_never falses are NoneLeft is others never ends = is
  taken_never falses are (OneLeft literal) is others never ends =
      never (falses ++ neg_ℤ literal ∷ []) (false_last assignment falses (neg_ℤ literal) are (negated assignment literal is)) ends
  taken_never falses are MoreLeft is others never ends = cc

  hinted_never : (falses : List ℤ) → AreFalse assignment falses → (number : ℕ) (found : Option Clause) → numbered clauses number ≡ found → (others : List ℤ → Option StepFault) → NeverEnd others
      → hinted falses found others ≡ None → ⊥
  hinted_never falses are number None is others never ends = cc
  hinted_never falses are number (Some clause) is others never ends =
      let true_there = still_true assignment falses are clause (numbered_true assignment clauses number clause all is) in
      taken_never falses are (left_in falses clause) (left_true assignment (filter (λ literal. not (is_among literal falses)) clause) true_there) others never ends

  follow_never : (hints : List ℕ) → NeverEnd (follow clauses hints)
  follow_never [] falses are ends = cc
  follow_never (hint ∷ hints) falses are ends = hinted_never falses are hint (numbered clauses hint) refl (follow clauses hints) (follow_never hints) ends

  -- so the clause of a step that ends well is true
  step_true : (step : LogStep) → step_fault clauses step ≡ None → clause_true assignment step.clause ≡ true
  unfolding step_fault
  step_true step ends =
      ⊎_elim (λ true_there. true_there)
      (λ off. ⊎_elim (λ both. absurd (let never : Some NotUnit ≡ None = sym (rw both refl) ∙ ends in cc))
      (λ apart. absurd (follow_never step.hints step.clause (all_false assignment step.clause off) (sym (rw apart refl) ∙ ends)))
      (cases_Bool (clashes [] step.clause)))
      (cases_Bool (clause_true assignment step.clause))

-- ---- logs

-- clauses with the clause of a step behind them
all_last : (assignment : ℕ → Bool) (clauses : List Clause) (clause : Clause) → list_all (clause_true assignment) clauses ≡ true → clause_true assignment clause ≡ true
    → list_all (clause_true assignment) (clauses ++ clause ∷ []) ≡ true
all_last assignment [] clause all own = and_from (clause_true assignment clause) true own refl
all_last assignment (first ∷ clauses) clause all own =
    let parts = and_parts (clause_true assignment first) (list_all (clause_true assignment) clauses) all in
    and_from (clause_true assignment first) (list_all (clause_true assignment) (clauses ++ clause ∷ [])) parts.0 (all_last assignment clauses clause parts.1 own)

abbrev IsTrueStep : (ℕ → Bool) → LogStep → Type 0
IsTrueStep assignment step = clause_true assignment step.clause ≡ true

no_fault : (k : ℕ) (found : Option StepFault) (others : Option LogFault) → faulted k found others ≡ None → (found ≡ None) × (others ≡ None)
no_fault k None others is = (refl, is)
no_fault k (Some fault) others is = absurd cc

steps_true : (assignment : ℕ → Bool) (k : ℕ) (clauses : List Clause) (steps : List LogStep) → list_all (clause_true assignment) clauses ≡ true
    → fault_from k clauses steps ≡ None → AllByRecursion (IsTrueStep assignment) steps
steps_true assignment k clauses [] all none = tt
steps_true assignment k clauses (step ∷ steps) all none =
    let both = no_fault k (step_fault clauses step) (fault_from (suc k) (clauses ++ step.clause ∷ []) steps) none in
    let own = step_true assignment clauses all step both.0 in
    (own, steps_true assignment (suc k) (clauses ++ step.clause ∷ []) steps (all_last assignment clauses step.clause all own) both.1)

-- the empty clause is not true
no_empty_at : (assignment : ℕ → Bool) (clause : Clause) (more : Bool) → (more ≡ true → ⊥) → clause_true assignment clause ≡ true → (is_empty clause || more) ≡ true → ⊥
no_empty_at assignment [] more behind own is = cc
no_empty_at assignment (literal ∷ clause) more behind own is = behind is

no_empty : (assignment : ℕ → Bool) (steps : List LogStep) → AllByRecursion (IsTrueStep assignment) steps → has_empty steps ≡ true → ⊥
no_empty assignment [] all is = cc
no_empty assignment (step ∷ steps) all is = no_empty_at assignment step.clause (has_empty steps) (no_empty assignment steps all.1) all.0 is

no_end_fault : (steps : List LogStep) → end_fault steps ≡ None → has_empty steps ≡ true
no_end_fault steps none = ⊎_elim (λ some. some) (λ no. absurd (let never : Some fault.NoEmpty ≡ None = sym (rw no refl) ∙ none in cc)) (cases_Bool (has_empty steps))

no_either : (a b : Option LogFault) → option_or a b ≡ None → (a ≡ None) × (b ≡ None)
no_either None b none = (refl, none)
no_either (Some found) b none = absurd cc

-- no assignment makes all the clauses true where all steps end well and one has the empty clause
pub steps_show : (clauses : List Clause) (log : List LogStep) → fault_from 0 clauses log ≡ None → has_empty log ≡ true → IsUnsatisfiable clauses
steps_show clauses log none empty assignment =
    ⊎_elim (λ all. absurd (no_empty assignment log (steps_true assignment 0 clauses log all none) empty)) (λ off. off) (cases_Bool (list_all (clause_true assignment) clauses))

not_long : (b : Bool) (others : Option LogFault) → (if b then Some fault.TooLong else others) ≡ None → b ≡ false
not_long true others is = absurd cc
not_long false others is = refl

pub log_shows : (clauses : List Clause) (log : List LogStep) → log_fault clauses log ≡ None → IsUnsatisfiable clauses
unfolding log_fault
log_shows clauses log none =
    let few : nat_lt 4194304 (length log) ≡ false = not_long (nat_lt 4194304 (length log)) _ none in
    let both = no_either (fault_from 0 clauses log) (end_fault log) (sym (rw few refl) ∙ none) in
    steps_show clauses log both.0 (no_end_fault log both.1)
