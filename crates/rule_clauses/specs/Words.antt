-- The words of the program: a rule file, the number of a rule in it, and the number of one of the rule's typings.
use Rattle.std.specs.Prelude.{ℕ, ◌^◌, List, [], ◌∷◌, Option, Some, None, codes, nat_eq, nat_lt, if◌then◌else◌}
use Rattle.std.specs.List.{starts_with}
use Rattle.std.specs.Option.{option_and_then, option_map}
use Rattle.eval_words.specs.EvalWords.{decimal_of}
use Rattle.rule_clauses.specs.declared.words.Choice.{Choice}

-- a number below 2^32 in decimal digits, which do not begin with 0 unless they are 0
abbrev pub below_2_32 : ℕ → Option ℕ
below_2_32 number = if nat_lt number (2 ^ 32) then Some number else None

abbrev pub number_in : List ℕ → Option ℕ
number_in word = option_and_then below_2_32 (decimal_of word)

abbrev pub chosen_by : Option ℕ → Option ℕ → Option Choice
chosen_by rule typing = option_and_then (λ r. option_map (λ t. record { rule = r; typing = t }) typing) rule

-- RULES is any word that does not begin with `--`
unfoldable pub choice_of : List (List ℕ) → Option Choice
choice_of [] = None
choice_of (rules ∷ []) = None
choice_of (rules ∷ rule ∷ []) = None
choice_of (rules ∷ rule ∷ typing ∷ []) =
    if starts_with nat_eq rules (codes "--") then None else chosen_by (number_in rule) (number_in typing)
choice_of (rules ∷ rule ∷ typing ∷ another ∷ others) = None
