-- Formulas over options as the code holds them: what they say, their terminals, and how an operator joins what was read before it.
use Rattle.std.specs.Prelude.{◌≡◌, ℕ, ◌+◌, ◌==◌, List, [], ◌∷◌, ◌++◌, take, drop, map, Option, Some, None, Result, Ok, Err, codes, if◌then◌else◌}
use Rattle.std.specs.Box.{box_value}
use Rattle.std.specs.Option.{option_map, option_to_list}
use Rattle.rule_term.specs.declared.when.When.{When, When-F, fold-When}
use Rattle.rule_term.specs.declared.when.When.TheOpen as layer
use Rattle.grammar.specs.Terminals.{Terminal, Class, TheMark, has}
use Rattle.grammar.specs.Reading.{Reading, Outcome, Reader, and_then, read_each}
use Rattle.rule_spelling.specs.Formula.{Formula, Always, Has, Not, Both, Either, formulas, grouped, is_option, name_size, option, sign, starts_with, terminals_from}
use Rattle.formula_read.specs.declared.parse.Front.{Front}
use Rattle.formula_read.specs.declared.parse.Rest.{Rest}
use Rattle.formula_read.specs.declared.formula_text.Piece.{Piece}
use Rattle.formula_read.specs.declared.formula_text.Sign.{Sign}
use Rattle.formula_read.specs.declared.formula_text.Sign.TheVariants as is
use Rattle.formula_read.specs.declared.parse.Unread.{Unread}
use Rattle.formula_read.specs.declared.parse.Unread.TheVariants.{Malformed, OutOfMemory}

abbrev pub layer_says : When-F Formula → Formula
layer_says layer.Always = Always
layer_says (layer.Has name) = Has name
layer_says (layer.Not inner) = Not (box_value inner)
layer_says (layer.Both left right) = Both (box_value left) (box_value right)
layer_says (layer.Either left right) = Either (box_value left) (box_value right)

-- what a formula of the code says: its boxes play no part
unfoldable pub when_says : When → Formula
when_says = fold-When Formula layer_says

-- ---- terminals

abbrev pub terminal : Sign → Terminal
terminal is.Not = sign 33
terminal is.Open = sign 40
terminal is.Close = sign 41
terminal is.And = sign 38
terminal is.Or = sign 124
terminal (is.Has name) = option name.now

abbrev pub terminals : List Sign → List Terminal
terminals signs = map terminal signs

-- a terminal or a space at the front of a text, and how many bytes it takes
pub record Begun : Type 0 where
  pub sign : Option Terminal
  pub size : ℕ

abbrev pub begun : Piece → Begun
begun piece = record { sign = option_map terminal piece.sign; size = piece.size }

abbrev pub mark_begun : ℕ → ℕ → Option Begun
mark_begun mark size = Some (record { sign = Some (sign mark); size = size })

-- what stands at the front, if it is something
unfoldable pub piece_of : ℕ → List ℕ → Option Begun
piece_of byte text =
    if byte == 32 then Some (record { sign = None; size = 1 })
    else (if byte == 33 then mark_begun 33 1
    else (if byte == 40 then mark_begun 40 1
    else (if byte == 41 then mark_begun 41 1
    else (if starts_with (codes "&&") text then mark_begun 38 2
    else (if starts_with (codes "||") text then mark_begun 124 2
    else (if is_option text
    then Some (record { sign = Some (option (take (name_size text) (drop 9 text))); size = 9 + name_size text })
    else None))))))

-- terminals behind those at the front
abbrev pub with_signs : List Terminal → Option (List Terminal) → Option (List Terminal)
with_signs front others = option_map (λ ts. front ++ ts) others

abbrev pub begun_then : Option Begun → List ℕ → Option (List Terminal)
begun_then None text = None
begun_then (Some piece) text = with_signs (option_to_list piece.sign) (terminals_from 0 (drop piece.size text))

-- ---- reading

abbrev pub found : Front → Reading formulas Formula
found front = record { value = when_says front.when; state = tt; rest = terminals front.rest.signs.now }

abbrev pub Stops : Outcome formulas Formula → Type 0
Stops (Ok read) = ⊥
Stops (Err stop) = Unit {0}

abbrev pub Fails : Unread → Outcome formulas Formula → Type 0
Fails Malformed outcome = Stops outcome
Fails OutOfMemory outcome = Unit {0}

-- what a function returned is what the grammar reads, unless memory ran out
abbrev pub Gives : Result Front Unread → Outcome formulas Formula → Type 0
Gives (Ok front) outcome = outcome ≡ Ok (found front)
Gives (Err unread) outcome = Fails unread outcome

abbrev pub joined_to : (Formula → Formula → Formula) → Formula → Reading formulas (List Formula) → Outcome formulas Formula
joined_to join left others = Ok (record { value = grouped join left others.value; state = others.state; rest = others.rest })

-- the first of the terminals that are left, and those behind it
abbrev pub all_of : Option (Sign × Rest) → List Terminal
all_of None = []
all_of (Some x) = terminal x.0 ∷ terminals x.1.signs.now

-- what stands behind this mark
abbrev pub behind_mark : ℕ → List Terminal → Option (List Terminal)
behind_mark byte [] = None
behind_mark byte (first ∷ rest) = if has (TheMark byte) first then Some rest else None

-- what was read, joined with so many others at most
abbrev pub chain_of : (Formula → Formula → Formula) → List Class → Reader formulas (Option Formula) → ℕ → Formula → List Terminal → Outcome formulas Formula
chain_of join firsts item turns left ts = and_then formulas (read_each formulas firsts item turns tt ts) (joined_to join left)
