-- A token that is something is there.
use Rattle.std.proofs.Common.{◌≡◌, ℕ, ◌<◌, List, [], ◌∷◌, length, true, arith}
use Rattle.nir_text.specs.Signs.{Sign, is_word, first_of}

-- where a word stands, something stands
pub word_there : (word : List ℕ) (signs : List Sign) → is_word word (first_of signs) ≡ true → 0 < length signs
word_there word [] e = absurd (cc)
word_there word (sign ∷ signs) e = omega arith

pub ruleset starts = (word_there)
