-- Laws of places in lists: what is read where something was written, and elsewhere.
use Rattle.std.specs.Prelude.{◌≡◌, refl, ℕ, zero, suc, List, [], ◌∷◌, length, slice_get, slice_set, Some}
use Rattle.std.proofs.Common.{◌∙◌, ap, take}
use Rattle.std.proofs.Math.Seq.{take-length}
use Rattle.std.proofs.lemmas.Option.{none-some}

pub get_set_same : {A : Type 0} (list : List A) (at : ℕ) (old new : A) → slice_get list at ≡ Some old → slice_get (slice_set list at new) at ≡ Some new
get_set_same [] at old new h = absurd (none-some old h)
get_set_same (a ∷ list) zero old new h = refl
get_set_same (a ∷ list) (suc at) old new h = get_set_same list at old new h

pub get_set_other : {A : Type 0} (list : List A) (at other : ℕ) (new : A) → (other ≡ at → ⊥) → slice_get (slice_set list at new) other ≡ slice_get list other
get_set_other [] at other new differ = refl
get_set_other (a ∷ list) zero zero new differ = absurd (differ refl)
get_set_other (a ∷ list) zero (suc other) new differ = refl
get_set_other (a ∷ list) (suc at) zero new differ = refl
get_set_other (a ∷ list) (suc at) (suc other) new differ = get_set_other list at other new (λ h. differ (ap suc h))

-- as many as there are are all
pub take_whole : {A : Type 0} (list : List A) (count : ℕ) → count ≡ length list → take count list ≡ list
take_whole list count all = ap (λ n. take n list) all ∙ take-length list
