-- What holds of what is found holds of what is answered.
use Rattle.std.specs.Prelude.{◌≡◌, refl, ℕ, List, Option, Some, None, IfSome}
use Rattle.std.specs.Option.{option_map}

pub if_words : {A : Type 0} (list_of : A → List ℕ) (result : Option A) (P : List ℕ → Type 0) → ((list : List ℕ) → option_map list_of result ≡ Some list → P list) → IfSome result (λ a. P (list_of a))
if_words list_of None P all = tt
if_words list_of (Some a) P all = all (list_of a) refl
