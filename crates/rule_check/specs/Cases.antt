-- The trial of all cases of a rule at a typing: the tuples of words that its variables can have, in lexicographic order, and the first at which its sides differ.
use Rattle.std.specs.Prelude.{◌≡◌, refl, ◌/◌, ◌%◌, ◌^◌, ℕ, Bool, not, ◌&&◌, Option, Some, None, List, [], ◌∷◌, map, sum, nat_eq, nat_lt, if◌then◌else◌}
use Rattle.std.specs.List.{find, range_with_len}
use Rattle.std.specs.Cmp.Lexicographic.{pointwise}
use Rattle.nir_ops.specs.declared.width.Width.{Width}
use Rattle.rule_term.specs.Rule.{Rule}
use Rattle.rule_term.specs.Typings.{search_part, replace_part}
use Rattle.rule_term.specs.Holds.{values_of, are_met}
use Rattle.circuit_laws.specs.Variables.{var_bits, free_bits}
use Rattle.rule_check.specs.declared.cases.Trial.{Trial}
use Rattle.rule_check.specs.declared.cases.Trial.TheVariants.{Equal, Differ, TooMany}

-- tuple number k of words of so many bits, where the first word counts slowest: the order of the numbers is the lexicographic order of the tuples
abbrev pub tuple : List ℕ → ℕ → List ℕ
tuple [] k = []
tuple (b ∷ bs) k = k / 2 ^ sum bs ∷ tuple bs (k % 2 ^ sum bs)

-- worked: two variables of 8 bits, and one of 1 bit before one of 8
tuple-worked : tuple (8 ∷ 8 ∷ []) 258 ≡ 1 ∷ 2 ∷ []
tuple-worked = refl

tuple-worked-mixed : tuple (1 ∷ 8 ∷ []) 511 ≡ 1 ∷ 255 ∷ []
tuple-worked-mixed = refl

-- the values meet the conditions, and the sides differ
unfoldable pub differs_at : Rule → List Width → List ℕ → Bool
differs_at rule widths values =
    are_met rule widths values
    && not (pointwise nat_eq (values_of rule.search (search_part rule widths) values) (values_of rule.replace (replace_part rule widths) values))

-- all tuples of words of so many bits, in lexicographic order
unfoldable pub tuples : List ℕ → List (List ℕ)
tuples bits = map (tuple bits) (range_with_len 0 (2 ^ sum bits))

-- the first tuple at which the sides differ
unfoldable pub first_difference : Rule → List Width → Option (List ℕ)
first_difference rule widths = find (differs_at rule widths) (tuples (var_bits rule widths))

abbrev pub trial_answer : Option (List ℕ) → Trial
trial_answer None = Equal
trial_answer (Some values) = Differ values

-- what the trial answers: the first difference, where there are at most 16 bits
unfoldable pub trial_of : Rule → List Width → Trial
trial_of rule widths = if nat_lt 16 (free_bits rule widths) then TooMany else trial_answer (first_difference rule widths)
