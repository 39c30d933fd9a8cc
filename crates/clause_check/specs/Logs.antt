-- Logs of clauses (clausal proofs by unit propagation with hints, as in the LRAT format of SAT solvers): each clause follows from those before
-- it by unit steps that its hints name, and where the empty clause follows, no assignment makes the first clauses true.
use Rattle.std.specs.Prelude.{◌≡◌, ℕ, zero, suc, ℤ, pos, negsuc, Bool, true, false, not, ◌||◌, List, [], ◌∷◌, ◌++◌, filter, length, nat_lt, Option, Some, None, Result, Ok, Err, slice_get, if◌then◌else◌}
use Rattle.std.specs.List.{list_all, list_any}
use Rattle.std.specs.Option.{option_or}
use Rattle.std.specs.Ordering.{int_eq}
use Rattle.std.proofs.Math.IntN.{neg_ℤ}
use Rattle.clause_check.specs.declared.clause.LogStep.{LogStep}
use Rattle.clause_check.specs.declared.fault.LogFault.{LogFault}
use Rattle.clause_check.specs.declared.fault.LogFault.TheVariants as fault
use Rattle.clause_check.specs.declared.step.StepFault.{StepFault}
use Rattle.clause_check.specs.declared.step.StepFault.TheVariants.{BadHint, NotUnit}
use Rattle.clause_check.specs.declared.step.Left.{Left}
use Rattle.clause_check.specs.declared.step.Left.TheVariants.{NoneLeft, OneLeft, MoreLeft}

abbrev pub Clause : Type 0
Clause = List ℤ

abbrev pub is_among : ℤ → List ℤ → Bool
is_among literal list = list_any (int_eq literal) list

-- ---- a unit step

-- what is left of a clause where its false literals go: nothing, one literal, or several distinct ones
abbrev pub left_of : List ℤ → Left
left_of [] = NoneLeft
left_of (literal ∷ others) = if list_all (int_eq literal) others then OneLeft literal else MoreLeft

abbrev pub left_in : List ℤ → Clause → Left
left_in falses clause = left_of (filter (λ literal. not (is_among literal falses)) clause)

-- clauses have the numbers from 1 on
abbrev pub numbered : List Clause → ℕ → Option Clause
numbered clauses zero = None
numbered clauses (suc k) = slice_get clauses k

-- where nothing is left the step ends well, and one literal that is left becomes true
abbrev pub taken : List ℤ → Left → (List ℤ → Option StepFault) → Option StepFault
taken falses NoneLeft others = None
taken falses (OneLeft literal) others = others (falses ++ neg_ℤ literal ∷ [])
taken falses MoreLeft others = Some NotUnit

abbrev pub hinted : List ℤ → Option Clause → (List ℤ → Option StepFault) → Option StepFault
hinted falses None others = Some BadHint
hinted falses (Some clause) others = taken falses (left_in falses clause) others

-- what is wrong with hints where these literals are false, None where they end well
abbrev pub follow : List Clause → List ℕ → List ℤ → Option StepFault
follow clauses [] falses = Some NotUnit
follow clauses (hint ∷ hints) falses = hinted falses (numbered clauses hint) (follow clauses hints)

-- a literal whose negation stands before it, or among these
abbrev pub clashes : List ℤ → Clause → Bool
clashes before [] = false
clashes before (literal ∷ others) = is_among (neg_ℤ literal) before || clashes (before ++ literal ∷ []) others

-- what is wrong with a step: its literals are assumed false, and the hints are followed
unfoldable pub step_fault : List Clause → LogStep → Option StepFault
step_fault clauses step = if clashes [] step.clause then Some NotUnit else follow clauses step.hints step.clause

-- ---- a log

abbrev pub fault_at : ℕ → StepFault → LogFault
fault_at k BadHint = fault.BadHint k
fault_at k NotUnit = fault.NotUnit k

abbrev pub faulted : ℕ → Option StepFault → Option LogFault → Option LogFault
faulted k None others = others
faulted k (Some found) others = Some (fault_at k found)

-- the first step that fails, where these clauses stand before it
abbrev pub fault_from : ℕ → List Clause → List LogStep → Option LogFault
fault_from k clauses [] = None
fault_from k clauses (step ∷ steps) = faulted k (step_fault clauses step) (fault_from (suc k) (clauses ++ step.clause ∷ []) steps)

abbrev pub is_empty : Clause → Bool
is_empty [] = true
is_empty (literal ∷ others) = false

abbrev pub has_empty : List LogStep → Bool
has_empty log = list_any (λ (step : LogStep). is_empty step.clause) log

abbrev pub end_fault : List LogStep → Option LogFault
end_fault log = if has_empty log then None else Some fault.NoEmpty

-- what is wrong with a log of clauses that follow from these
unfoldable pub log_fault : List Clause → List LogStep → Option LogFault
log_fault clauses log = if nat_lt 4194304 (length log) then Some fault.TooLong else option_or (fault_from 0 clauses log) (end_fault log)

-- the answer tells what is wrong, or that nothing is; memory may be wanting at any time
abbrev pub TellsFault : Option LogFault → Result Unit LogFault → Type 0
TellsFault found (Ok done) = found ≡ None
TellsFault found (Err fault.OutOfMemory) = Unit {0}
TellsFault found (Err told) = found ≡ Some told

-- ---- what a log shows

-- a literal, a clause, and all clauses where the variables have these truth values; 0 is no literal, and never true
abbrev pub literal_true : (ℕ → Bool) → ℤ → Bool
literal_true assignment (pos zero) = false
literal_true assignment (pos (suc n)) = assignment (suc n)
literal_true assignment (negsuc n) = not (assignment (suc n))

abbrev pub clause_true : (ℕ → Bool) → Clause → Bool
clause_true assignment clause = list_any (literal_true assignment) clause

abbrev pub IsUnsatisfiable : List Clause → Type 0
IsUnsatisfiable clauses = (assignment : ℕ → Bool) → list_all (clause_true assignment) clauses ≡ false
