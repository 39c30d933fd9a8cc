-- What holds of the tokens of every text: they stand in it one behind the other, up to its end.
use Rattle.std.specs.Prelude.{◌≡◌, ℕ, ◌+◌, ◌-◌, ◌^◌, ◌≤◌, List, [], ◌∷◌, length, slice_range, Ok, ℤ, pos, negsuc, ◌≤ℤ◌}
use Rattle.nir_lex.specs.declared.token.Token.{Token}
use Rattle.nir_lex.specs.declared.token.TokenKind.{TokenKind}
use Rattle.nir_lex.specs.declared.token.TokenKind.TheVariants.{Word, Number, Name, Quoted, Punct, End}
use Rattle.nir_lex.specs.Reading.{end_token, read_tokens}

-- the bytes of a text that a token takes
abbrev pub token_text : List ℕ → Token → List ℕ
token_text text token = slice_range text token.start token.end

-- the fewest bytes that a token of a kind takes
abbrev pub least_size : TokenKind → ℕ
least_size Word = 1
least_size (Number value) = 1
least_size Name = 2
least_size Quoted = 2
least_size (Punct byte) = 1
least_size End = 0

-- from -2^63 to 2^64 - 1
pub record IsInLimits (value : ℤ) : Type 0 where
  pub low : negsuc (2 ^ 63 - 1) ≤ℤ value
  pub high : value ≤ℤ pos (2 ^ 64 - 1)

abbrev pub HasLimits : TokenKind → Type 0
HasLimits Word = Unit {0}
HasLimits (Number value) = IsInLimits value
HasLimits Name = Unit {0}
HasLimits Quoted = Unit {0}
HasLimits (Punct byte) = Unit {0}
HasLimits End = Unit {0}

-- a token ends within a text of this length, and is large enough for its kind
pub record IsWithin (text_length : ℕ) (token : Token) : Type 0 where
  pub size : token.start + least_size token.kind ≤ token.end
  pub end : token.end ≤ text_length
  pub limits : HasLimits token.kind

-- The tokens from a place on, of a text of this length. Each begins where the one before ended or behind
-- that, and the last, and no other, is the end of the text.
abbrev pub AreTokensFrom : ℕ → ℕ → List Token → Type 0
AreTokensFrom place text_length [] = ⊥
AreTokensFrom place text_length (token ∷ []) = (token ≡ end_token text_length) × (place ≤ text_length)
AreTokensFrom place text_length (token ∷ next ∷ others) = (place ≤ token.start) × IsWithin text_length token × (token.kind ≡ End → ⊥) × AreTokensFrom token.end text_length (next ∷ others)

-- the tokens that a text has are its tokens from its start on
abbrev pub TokensAreInOrder : Type 0
TokensAreInOrder = (text : List ℕ) (tokens : List Token) → read_tokens text ≡ Ok tokens → AreTokensFrom 0 (length text) tokens
