-- The classes of bytes of which the tokens of a text are made, as in the texts of Mesa's NIR.
use Rattle.std.specs.Prelude.{ℕ, Bool, false, not, ◌&&◌, ◌||◌, ◌==◌, List, [], ◌∷◌, length}
use Rattle.std.specs.List.{list_any, prefix_len}
use Rattle.std.specs.Int.{is_in_range}
use Rattle.std.specs.Char.{is_ascii_alphabetic, is_ascii_alphanumeric}
use Rattle.std.specs.Prelude.{codes}

-- a letter or `_`
unfoldable pub starts_word : ℕ → Bool
starts_word byte = is_ascii_alphabetic byte || byte == 95

-- a letter, a digit or `_`
unfoldable pub is_in_word : ℕ → Bool
is_in_word byte = is_ascii_alphanumeric byte || byte == 95

-- a space, a tab, a carriage return or a line feed
unfoldable pub is_blank : ℕ → Bool
is_blank byte = list_any (λ blank. blank == byte) (32 ∷ 9 ∷ 13 ∷ 10 ∷ [])

-- any byte but the line feed, which ends a comment
abbrev pub is_in_comment : ℕ → Bool
is_in_comment byte = not (byte == 10)

-- `'` or `"`
unfoldable pub is_quote : ℕ → Bool
is_quote byte = byte == 39 || byte == 34

-- what may stand between two quotes of one kind
unfoldable pub is_inside_quotes : ℕ → ℕ → Bool
is_inside_quotes quote byte = is_in_range 0x20 0x7E byte && not (byte == quote)

unfoldable pub is_punctuation : ℕ → Bool
is_punctuation byte = list_any (λ mark. mark == byte) (codes "()[]{},:;=@.*")

-- the first of the bytes is of this class
abbrev pub begins : (ℕ → Bool) → List ℕ → Bool
begins class [] = false
begins class (byte ∷ bytes) = class byte

-- the bytes are one word: the first starts it, and all are in it
unfoldable pub is_word : List ℕ → Bool
is_word bytes = begins starts_word bytes && prefix_len is_in_word bytes == length bytes
