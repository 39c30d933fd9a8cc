-- Literals that are false, by a flag for each.
use Rattle.std.specs.Prelude.{◌≡◌, ◌<◌, ◌+◌, ◌*◌, ℕ, zero, suc, ℤ, pos, negsuc, Bool, false, not, List, ◌++◌, filter, map, length, if◌then◌else◌}
use Rattle.std.specs.List.{AllByRecursion, list_all}
use Rattle.std.specs.Ordering.{int_eq}
use Rattle.std.proofs.Common.{get_or}
use Rattle.clause_check.specs.declared.clause.LogStep.{LogStep}
use Rattle.clause_check.specs.declared.step.Before.{Before}
use Rattle.clause_check.specs.declared.step.Left.{Left}
use Rattle.clause_check.specs.declared.step.Left.TheVariants.{NoneLeft, OneLeft, MoreLeft}
use Rattle.clause_check.specs.Logs.{Clause, is_among, left_of}

-- the places of a variable and of its negation are neighbours
abbrev pub place_of : ℤ → ℕ
place_of (pos n) = 2 * n
place_of (negsuc n) = 2 * n + 1

abbrev pub away : ℤ → ℤ
away (pos n) = pos (suc n)
away (negsuc n) = negsuc (suc n)

-- the literal of a place
abbrev pub literal_of : ℕ → ℤ
literal_of zero = pos 0
literal_of (suc zero) = negsuc 0
literal_of (suc (suc place)) = away (literal_of place)

abbrev pub literals_of : List ℕ → List ℤ
literals_of places = map literal_of places

-- each flag tells whether its literal is among those of these places, and each of them has a flag
pub record AreMarked (flags : List Bool) (places : List ℕ) : Type 0 where
  pub told : (literal : ℤ) → get_or flags (place_of literal) false ≡ is_among literal (literals_of places)
  pub placed : AllByRecursion (λ place. place < length flags) places

-- the clauses before a step
abbrev pub clauses_of : List LogStep → List Clause
clauses_of steps = map (λ (step : LogStep). step.clause) steps

abbrev pub clauses_before : Before → List Clause
clauses_before before = before.clauses.now ++ clauses_of before.steps.now

-- what is left of a clause of which this is left and these literals stand behind it
abbrev pub left_with : Left → List ℤ → Left
left_with NoneLeft others = left_of others
left_with (OneLeft literal) others = if list_all (int_eq literal) others then OneLeft literal else MoreLeft
left_with MoreLeft others = MoreLeft

abbrev pub not_false : List ℤ → Clause → List ℤ
not_false falses clause = filter (λ literal. not (is_among literal falses)) clause
