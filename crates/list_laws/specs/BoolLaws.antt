-- Laws of choices by a truth value.
use Rattle.std.specs.Prelude.{◌≡◌, refl, Bool, true, false, cond}
use Rattle.std.proofs.Common.{◌⊎◌, inl, inr}

-- which way a test went
pub chosen : {A : Type 0} (test : Bool) (x y z : A) → cond test x y ≡ z → ((test ≡ true) × (x ≡ z)) ⊎ ((test ≡ false) × (y ≡ z))
chosen true x y z h = inl (refl, h)
chosen false x y z h = inr (refl, h)
