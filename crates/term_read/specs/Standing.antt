-- Where a reader stands in a text: at one of its tokens, behind which the others stand up to the end of the text.
use Rattle.std.specs.Prelude.{◌≡◌, ℕ, ◌-◌, ◌≤◌, Bool, true, false, List, [], ◌∷◌, length, drop, Result, Ok, Err}
use Rattle.std.specs.Coded.{Coded-set, coded_bool, coded_list, le_prop}
use Rattle.nir_lex.specs.declared.fault.LexFault.{LexFault}
use Rattle.nir_lex.specs.declared.token.Token.{Token}
use Rattle.nir_lex.specs.contracts.token.Token as token
use Rattle.nir_lex.specs.From.{tokens_behind}
use Rattle.nir_lex.specs.Reading.{read_tokens}

abbrev pub has_tokens : Result (List Token) LexFault → Bool
has_tokens (Ok tokens) = true
has_tokens (Err fault) = false

abbrev pub tokens_or_none : Result (List Token) LexFault → List Token
tokens_or_none (Ok tokens) = tokens
tokens_or_none (Err fault) = []

-- all tokens of a text
abbrev pub all_tokens : List ℕ → List Token
all_tokens text = tokens_or_none (read_tokens text)

-- the tokens of a text from one on
abbrev pub tokens_from : List ℕ → Token → List Token
tokens_from text first = first ∷ tokens_or_none (tokens_behind text first)

-- a token lies in the text, and it and those behind it are the last tokens of the text
pub record Stands (text : List ℕ) (first : Token) : Type 0 where
  pub ordered : first.start ≤ first.end
  pub inside : first.end ≤ length text
  pub read : has_tokens (tokens_behind text first) ≡ true
  pub last : drop (length (all_tokens text) - length (tokens_from text first)) (all_tokens text) ≡ tokens_from text first

pub Stands-prop : (text : List ℕ) (first : Token) → IsProp (Stands text first)
Stands-prop text first a b = λ i. record {
  ordered = le_prop a.ordered b.ordered i;
  inside = le_prop a.inside b.inside i;
  read = Coded-set coded_bool _ _ a.read b.read i;
  last = Coded-set (coded_list token.the_row.coded) _ _ a.last b.last i;
}
