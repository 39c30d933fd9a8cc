-- Shifts and rotations of words are those of the machine.
use Rattle.std.proofs.Common.{◌≡◌, ℕ, zero, suc, ◌+◌, ◌-◌, ◌*◌, ◌/◌, ◌%◌, ◌^◌, ◌<◌, pos, negsuc, refl, sym, ◌∙◌, ap, subst, arith, bit_or, mod-eq_of_lt, mod-lt, mul-one, div-one, add-zero}
use Rattle.std.specs.Prelude.{ℤ}
use Rattle.std.proofs.Math.Pow.{mod-pow-add, high, low, shr_lt}
use Rattle.std.proofs.lemmas.Nat.{or_shifted, or_comm}
use Rattle.std.specs.Int.Bits.{or_self}
use Rattle.std.proofs.Math.Nat.{div-eq_of_lt, mod_self}
use Rattle.std.specs.Int.{int_shr}
use Rattle.op_eval.specs.Word.{floor_div, rotated}

pub floor_div_shr : (z : ℤ) (k : ℕ) → floor_div z (pos (2 ^ k)) ≡ int_shr z k
unfolding floor_div
floor_div_shr (pos n) k = refl
floor_div_shr (negsuc n) k = refl

-- the bits that a rotation up by k of j + k bits makes
rotated_parts : (j k x lo : ℕ) → lo < 2 ^ k → (x * 2 ^ k + lo) % 2 ^ (j + k) ≡ (x % 2 ^ j) * 2 ^ k + lo
rotated_parts j k x lo h = mod-pow-add (x * 2 ^ k + lo) j k ∙ rw (high x k h, low x k h) refl

raised_part : (j k x : ℕ) → 0 < 2 ^ k → (x * 2 ^ k) % 2 ^ (j + k) ≡ (x % 2 ^ j) * 2 ^ k
raised_part j k x h = ap (λ n. n % 2 ^ (j + k)) (sym (add-zero (x * 2 ^ k))) ∙ rotated_parts j k x 0 h ∙ add-zero ((x % 2 ^ j) * 2 ^ k)

rotated_by : (j k x : ℕ) → x < 2 ^ (k + j) → bit_or ((x * 2 ^ k) % 2 ^ (j + k)) (x / 2 ^ j) ≡ (x * 2 ^ k + x / 2 ^ j) % 2 ^ (j + k)
rotated_by j k x f =
    let small : x / 2 ^ j < 2 ^ k = shr_lt k j f in
    let positive : 0 < 2 ^ k = omega arith in
    rw (raised_part j k x positive) (or_shifted (x % 2 ^ j) k (x / 2 ^ j) small ∙ sym (rotated_parts j k x (x / 2 ^ j) small))

-- a rotation up, as the machine makes it
pub rotated_up : (w k x : ℕ) → k < w → x < 2 ^ w → bit_or ((x * 2 ^ k) % 2 ^ w) (x / 2 ^ ((w - k) % w)) ≡ rotated w x k % 2 ^ w
unfolding rotated
rotated_up w zero x h f =
    let still : x / 2 ^ w ≡ 0 = div-eq_of_lt f in
    let same : w - 0 ≡ w = omega arith in
    let left : bit_or ((x * 1) % 2 ^ w) (x / 2 ^ ((w - 0) % w)) ≡ x = rw (same, mod_self w, mul-one x, mod-eq_of_lt f, div-one x) (or_self x) in
    let right : (x * 1 + x / 2 ^ (w - 0)) % 2 ^ w ≡ x = rw (same, mul-one x, still, add-zero x) (mod-eq_of_lt f) in
    left ∙ sym right
rotated_up w (suc k) x h f =
    let whole : w ≡ (w - suc k) + suc k = omega arith in
    let other : w ≡ suc k + (w - suc k) = omega arith in
    let e : (w - suc k) % w ≡ w - suc k = mod-eq_of_lt (omega arith) in
    let g : x < 2 ^ (suc k + (w - suc k)) = subst (λ n. x < 2 ^ n) other f in
    rw e (subst (λ n. bit_or ((x * 2 ^ suc k) % 2 ^ n) (x / 2 ^ (w - suc k)) ≡ (x * 2 ^ suc k + x / 2 ^ (w - suc k)) % 2 ^ n) (sym whole) (rotated_by (w - suc k) (suc k) x g))

places_back : (w k : ℕ) → k < w → (w - (w - k) % w) % w ≡ k
places_back w zero h = let same : w - 0 ≡ w = omega arith in rw (same, mod_self w, same) (mod_self w)
places_back w (suc k) h = let e : (w - suc k) % w ≡ w - suc k = mod-eq_of_lt (omega arith) in rw e (let back : w - (w - suc k) ≡ suc k = omega arith in rw back (mod-eq_of_lt h))

-- a rotation down
pub rotated_down : (w k x : ℕ) → k < w → x < 2 ^ w → bit_or (x / 2 ^ k) ((x * 2 ^ ((w - k) % w)) % 2 ^ w) ≡ rotated w x ((w - k) % w) % 2 ^ w
rotated_down w k x h f =
    let places : ℕ = (w - k) % w in
    let within : places < w = mod-lt (w - k) (omega arith) in
    or_comm (x / 2 ^ k) ((x * 2 ^ places) % 2 ^ w) ∙ subst (λ n. bit_or ((x * 2 ^ places) % 2 ^ w) (x / 2 ^ n) ≡ rotated w x places % 2 ^ w) (places_back w k h) (rotated_up w places x within f)
