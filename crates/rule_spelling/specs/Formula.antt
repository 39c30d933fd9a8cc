-- Formulas over options, the third part of a rule: options->NAME with !, && and ||, as in Mesa's nir_opt_algebraic.py.
use Rattle.std.specs.Prelude.{ℕ, zero, suc, ◌+◌, ◌&&◌, Bool, ◌==◌, List, [], ◌∷◌, length, take, drop, Option, Some, None, Result, Ok, Err, codes, nat_le, refl, if◌then◌else◌}
use Rattle.std.specs.List.{prefix_len}
use Rattle.std.specs.Option.{option_map}
use Rattle.std.specs.Str.{bytes_eq}
use Rattle.nir_lex.specs.Classes.{begins as begins_with, is_in_word, starts_word}
use Rattle.nir_lex.specs.declared.token.TokenKind.TheVariants.{Word, Punct}
use Rattle.grammar.specs.Terminals.{Terminal, Class, TheMark, WordBut}
use Rattle.grammar.specs.Lookahead.{Lookahead, begins}
use Rattle.grammar.specs.Grammar.{Vocabulary, Grammar, empty, named, widened, Productions}
use Rattle.grammar.specs.Reading.{Stop, read_deep}
use Rattle.grammar.specs.Words.{◌>>=◌, ◌>>◌, ◌or◌, bytes, each, between, mark}

-- a formula that always holds, one that holds where an option is set, and the others as in logic
pub data Formula : Type 0 where
  Always : Formula
  Has : List ℕ → Formula
  Not : Formula → Formula
  Both : Formula → Formula → Formula
  Either : Formula → Formula → Formula

-- ---- the terminals of a formula: `!`, `&&`, `||`, parentheses, and options->NAME as the word NAME; spaces may stand around them

abbrev pub sign : ℕ → Terminal
sign byte = record { kind = Punct byte; text = byte ∷ [] }

abbrev pub option : List ℕ → Terminal
option name = record { kind = Word; text = name }

-- whether the bytes begin with these
abbrev pub starts_with : List ℕ → List ℕ → Bool
starts_with front bytes = bytes_eq (take (length front) bytes) front

abbrev pub is_option : List ℕ → Bool
is_option bytes = starts_with (codes "options->") bytes && begins_with starts_word (drop 9 bytes)

abbrev pub name_size : List ℕ → ℕ
name_size bytes = prefix_len is_in_word (drop 9 bytes)

-- the terminals of what is left of a text, of which so many bytes belong to the terminal before; None where a byte belongs to none
abbrev pub terminals_from : ℕ → List ℕ → Option (List Terminal)
terminals_from skip [] = Some []
terminals_from (suc skip) (byte ∷ rest) = terminals_from skip rest
terminals_from zero (byte ∷ rest) =
    if byte == 32 then terminals_from 0 rest
    else (if byte == 33 then option_map (λ ts. sign 33 ∷ ts) (terminals_from 0 rest)
    else (if byte == 40 then option_map (λ ts. sign 40 ∷ ts) (terminals_from 0 rest)
    else (if byte == 41 then option_map (λ ts. sign 41 ∷ ts) (terminals_from 0 rest)
    else (if starts_with (codes "&&") (byte ∷ rest) then option_map (λ ts. sign 38 ∷ ts) (terminals_from 1 rest)
    else (if starts_with (codes "||") (byte ∷ rest) then option_map (λ ts. sign 124 ∷ ts) (terminals_from 1 rest)
    else (if is_option (byte ∷ rest)
    then option_map (λ ts. option (take (name_size (byte ∷ rest)) (drop 8 rest)) ∷ ts) (terminals_from (8 + name_size (byte ∷ rest)) rest)
    else None))))))

-- ---- the grammar: `!` binds strongest and `||` weakest, and equal operators group to the left

pub data Part : Type 0 where
  Whole : Part
  Operand : Part

abbrev pub operand_firsts : List Class
operand_firsts = TheMark 33 ∷ TheMark 40 ∷ WordBut [] ∷ []

abbrev pub ahead_of : Part → Lookahead
ahead_of Whole = begins operand_firsts (TheMark 124 ∷ TheMark 38 ∷ [])
ahead_of Operand = begins operand_firsts []

abbrev pub formulas : Vocabulary
formulas = record {
  state = Unit {0};
  fault = Unit {0};
  expected = tt;
  too_deep = tt;
  nonterminal = Part;
  denoted = λ part. Formula;
  ahead = ahead_of;
}

-- grouped to the left
abbrev pub grouped : (Formula → Formula → Formula) → Formula → List Formula → Formula
grouped join first [] = first
grouped join first (second ∷ others) = grouped join (join first second) others

abbrev pub operand : Grammar formulas (begins operand_firsts []) Formula
operand =
    (mark formulas 33 >> named Operand >>= λ inner. empty (Not inner))
    or between formulas 40 41 (named Whole)
    or (bytes formulas (WordBut []) >>= λ name. empty (Has name))

abbrev pub conjunction : Grammar formulas (begins operand_firsts (TheMark 38 ∷ [])) Formula
conjunction = operand >>= λ first. each formulas (mark formulas 38 >> operand) >>= λ others. empty (grouped Both first others)

abbrev pub disjunction : Grammar formulas (begins operand_firsts (TheMark 124 ∷ TheMark 38 ∷ [])) Formula
disjunction =
    widened (begins operand_firsts (TheMark 124 ∷ TheMark 38 ∷ [])) refl
    (conjunction >>= λ first. each formulas (mark formulas 124 >> conjunction) >>= λ others. empty (grouped Either first others))

abbrev pub productions : Productions formulas
productions Whole = disjunction
productions Operand = operand

-- ---- whole texts

abbrev pub value_of : Result (Formula × Unit {0}) (Stop formulas) → Option Formula
value_of (Ok read) = Some read.0
value_of (Err stop) = None

abbrev pub formula_of_terminals : Option (List Terminal) → Option Formula
formula_of_terminals None = None
formula_of_terminals (Some ts) = value_of (read_deep formulas productions disjunction tt ts)

-- the formula of a text of at most 256 bytes
unfoldable pub formula_of : List ℕ → Option Formula
formula_of text = if nat_le (length text) 256 then formula_of_terminals (terminals_from 0 text) else None
