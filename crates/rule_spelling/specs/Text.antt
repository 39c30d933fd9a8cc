-- Rule files as bytes: their terminals are the tokens of the text, and a fault stands at the first byte of its token.
use Rattle.std.specs.Prelude.{◌≡◌, ℕ, ◌-◌, List, [], ◌∷◌, ◌++◌, length, drop, map, Result, Ok, Err}
use Rattle.nir_lex.specs.declared.fault.LexFault.{LexFault}
use Rattle.nir_lex.specs.declared.token.Token.{Token}
use Rattle.nir_lex.specs.Laws.{token_text}
use Rattle.nir_lex.specs.Reading.{read_tokens}
use Rattle.grammar.specs.Reading.{Stop}
use Rattle.grammar.specs.Terminals.{Terminal}
use Rattle.rule_spelling.specs.Files.{Item, Fault}
use Rattle.rule_spelling.specs.RuleFiles.{rule_files, read_file, IsFile}
use Rattle.rule_spelling.specs.Tokens.{State}

abbrev pub terminal_of : List ℕ → Token → Terminal
terminal_of text token = record { kind = token.kind; text = token_text text token }

abbrev pub terminals_of : List ℕ → List Token → List Terminal
terminals_of text tokens = map (terminal_of text) tokens

abbrev pub start_of : List Token → ℕ
start_of [] = 0
start_of (token ∷ rest) = token.start

-- where the last so many of the tokens begin
abbrev pub place_of_last : List Token → ℕ → ℕ
place_of_last tokens left = start_of (drop (length tokens - left) tokens)

-- a text has no tokens, or they have this fault at this place
pub data TextFault : Type 0 where
  Lex : LexFault → TextFault
  At : Fault → ℕ → TextFault

abbrev pub placed : List Token → Result (List Item × State) (Stop rule_files) → Result (List Item) TextFault
placed tokens (Ok read) = Ok read.0
placed tokens (Err stop) = Err (At stop.fault (place_of_last tokens (length stop.rest)))

abbrev pub of_tokens : List ℕ → Result (List Token) LexFault → Result (List Item) TextFault
of_tokens text (Ok tokens) = placed tokens (read_file (terminals_of text tokens))
of_tokens text (Err fault) = Err (Lex fault)

-- what a text says, or its first fault
unfoldable pub read_text : List ℕ → Result (List Item) TextFault
read_text text = of_tokens text (read_tokens text)

-- the text has tokens, and they spell these items
pub record Says (text : List ℕ) (items : List Item) : Type 0 where
  pub tokens : List Token
  pub are : read_tokens text ≡ Ok tokens
  pub state : State
  pub spelled : IsFile items state (terminals_of text tokens)

-- The text has tokens, but no text that has terminals up to and with the one at this place says anything.
pub record StandsAt (text : List ℕ) (place : ℕ) : Type 0 where
  pub tokens : List Token
  pub are : read_tokens text ≡ Ok tokens
  pub before : List Terminal
  pub rest : List Terminal
  pub whole : terminals_of text tokens ≡ before ++ rest
  pub at : place ≡ place_of_last tokens (length rest)
  pub first : (wrong : Terminal) (behind : List Terminal) → rest ≡ wrong ∷ behind
      → (other : List Terminal) (items : List Item) (z : State) → IsFile items z (before ++ wrong ∷ other) → ⊥
