-- What is known of steps of reading that did not fail.
use Rattle.std.specs.Prelude.{◌≡◌, refl, Bool, true, false, cond, Option, Some, None, Result, Ok, Err}
use Rattle.std.proofs.Common.{ap}
use Rattle.nir_text.specs.declared.fault.TextFault.{TextFault}
use Rattle.nir_text.specs.Reading.{Point, next, ◌>>=◌, wanted}

abbrev pub done : {A : Type 0} → A → Result A TextFault
done x = Ok x

pub ok_is : {A : Type 0} (x y : A) → done x ≡ done y → x ≡ y
ok_is x y e = cc

pub bind_ok : {A B : Type 0} (r : Result A TextFault) (f : A → Result B TextFault) (y : B) → (r >>= f) ≡ Ok y → (x : A) × (r ≡ Ok x) × (f x ≡ Ok y)
bind_ok (Ok x) f y e = (x, refl, e)
bind_ok (Err d) f y e = absurd cc

-- a test that has to hold, and one that must not
pub held : {A : Type 0} (b : Bool) (fault : TextFault) (r : Result A TextFault) (y : A) → cond b r (Err fault) ≡ Ok y → (b ≡ true) × (r ≡ Ok y)
held true fault r y e = (refl, e)
held false fault r y e = absurd cc

pub not_held : {A : Type 0} (b : Bool) (fault : TextFault) (r : Result A TextFault) (y : A) → cond b (Err fault) r ≡ Ok y → (b ≡ false) × (r ≡ Ok y)
not_held true fault r y e = absurd cc
not_held false fault r y e = (refl, e)

pub wanted_ok : {A : Type 0} (o : Option A) (p : Point) (x : A × Point) → wanted o p ≡ Ok x → (o ≡ Some x.0) × (next p ≡ x.1)
wanted_ok None p x e = absurd cc
wanted_ok (Some a) p x e =
    let same = ok_is (a, next p) x e in
    (ap (λ y. Some y.0) same, ap (λ y. y.1) same)
