-- The words with which a shader is optimised: the rule file, then in any order a limit on rewrites, options that are set, and two wishes.
use Rattle.std.specs.Prelude.{ℕ, Bool, true, false, List, [], ◌∷◌, ◌++◌, length, drop, Option, Some, None, codes, nat_eq, nat_le, nat_lt, is_none, if◌then◌else◌}
use Rattle.std.specs.List.{starts_with}
use Rattle.std.specs.Option.{option_and_then, option_map}
use Rattle.std.specs.Str.{bytes_eq}
use Rattle.nir_lex.specs.Classes.{is_word}
use Rattle.eval_words.specs.EvalWords.{decimal_of}

-- how many rewrites there may be, where it is said; the names of the options that are set; whether the steps are printed behind the shader, and
-- whether rules that are not accepted are left out
pub record Given : Type 0 where
  pub limit : Option ℕ
  pub names : List (List ℕ)
  pub remarks : Bool
  pub skip : Bool

abbrev pub nothing_said : Given
nothing_said = record { limit = None; names = []; remarks = false; skip = false }

-- what one word says
pub data Said : Type 0 where
  Limit : ℕ → Said
  Set : List ℕ → Said
  Remarks : Said
  Skip : Said

-- at most 1,000,000
abbrev pub limited : ℕ → Option Said
limited number = if nat_le number 1000000 then Some (Limit number) else None

abbrev pub named : List ℕ → Option Said
named name = if is_word name then Some (Set name) else None

unfoldable pub said : List ℕ → Option Said
said word =
    if starts_with nat_eq word (codes "--limit=") then option_and_then limited (decimal_of (drop 8 word))
    else (if starts_with nat_eq word (codes "--option=") then named (drop 9 word)
    else (if bytes_eq word (codes "--remarks") then Some Remarks
    else (if bytes_eq word (codes "--skip") then Some Skip
    else None)))

-- one thing more is said: each but an option once, and at most 64 options
abbrev pub also : Given → Said → Option Given
also given (Limit number) = if is_none given.limit then Some (record given { limit = Some number }) else None
also given (Set name) = if nat_lt (length given.names) 64 then Some (record given { names = given.names ++ name ∷ [] }) else None
also given Remarks = if given.remarks then None else Some (record given { remarks = true })
also given Skip = if given.skip then None else Some (record given { skip = true })

-- what words say behind those before them
abbrev pub all_said : Given → List (List ℕ) → Option Given
all_said given [] = Some given
all_said given (word ∷ words) = option_and_then (λ more. all_said more words) (option_and_then (also given) (said word))

-- the word RULES: any that does not begin with `--`
abbrev pub begins_with_dashes : List ℕ → Bool
begins_with_dashes word = starts_with nat_eq word (codes "--")

-- the reading of words: RULES and what the others say
unfoldable pub run_words : List (List ℕ) → Option Given
run_words [] = None
run_words (rules ∷ words) = if begins_with_dashes rules then None else all_said nothing_said words

-- the reading of words that are RULES alone
unfoldable pub is_rules_alone : List (List ℕ) → Bool
is_rules_alone [] = false
is_rules_alone (rules ∷ []) = if begins_with_dashes rules then false else true
is_rules_alone (rules ∷ another ∷ others) = false
