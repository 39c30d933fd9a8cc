-- Laws of shifts and powers of two at every number of bits.
use Rattle.std.proofs.Common.{◌≡◌, ℕ, zero, suc, ◌+◌, ◌-◌, ◌*◌, ◌/◌, ◌%◌, ◌^◌, ◌<◌, ◌≤◌, [], ◌∷◌, refl, sym, ◌∙◌, ap, arith, mod-eq_of_lt, mod-lt, lt_of_lt_of_le, false, pow-suc, le_of_lt, mul_assoc}
use Rattle.std.specs.Prelude.{◌==◌}
use Rattle.std.specs.Int.Count.{count_trailing_zeros}
use Rattle.std.proofs.lemmas.Nat.{pow_pos, and_mask}
use Rattle.std.proofs.lemmas.Bool.{ne_eqb}
use Rattle.std.proofs.Math.Nat.{zero-mod, mul-one, div-one, mul-add, div-add-mod'}
use Rattle.op_laws.specs.Sums.{same_rest, neg_is}
use lib.Pow.{pow-lt, high_ones}
use Rattle.nir_ops.specs.declared.op.Op.TheVariants.{Ineg, Imul, Ishl, Ushr, Udiv, Umod, Iand, Iadd, FindLsb}
use Rattle.op_eval.specs.Meaning.{meaning, op_mean}
use Rattle.op_eval.specs.Word.{residue, lowest_one}

pub ishl_zero : (w x : ℕ) → x < 2 ^ w → op_mean Ishl w w (x ∷ 0 ∷ []) ≡ x
unfolding op_mean meaning residue
ishl_zero w x h = rw (zero-mod w) (ap (λ n. n % 2 ^ w) (mul-one x) ∙ mod-eq_of_lt h)

pub ushr_zero : (w x : ℕ) → x < 2 ^ w → op_mean Ushr w w (x ∷ 0 ∷ []) ≡ x
unfolding op_mean meaning residue
ushr_zero w x h = rw (zero-mod w) (ap (λ n. n % 2 ^ w) (div-one x) ∙ mod-eq_of_lt h)

-- the zeros below the one of a power of two
pub trailing_pow : (f k : ℕ) → k < f → count_trailing_zeros f (2 ^ k) ≡ k
unfolding count_trailing_zeros
trailing_pow zero k h = elim h [ ]
trailing_pow (suc f) zero h = refl
trailing_pow (suc f) (suc k) h =
    let double : 2 ^ suc k ≡ 2 ^ k * 2 = pow-suc 2 k in
    let even : 2 ^ suc k % 2 ≡ 0 = omega (arith, double) in
    let half : 2 ^ suc k / 2 ≡ 2 ^ k = omega (arith, double) in
    rw (even, half) (ap suc (trailing_pow f k (omega arith)))

pub lsb_pow : (k : ℕ) → k < 64 → (w : ℕ) → op_mean FindLsb w 32 (2 ^ k ∷ []) ≡ k
unfolding op_mean meaning residue lowest_one
lsb_pow k h w =
    let p : 0 < 2 ^ k = pow_pos k in
    let apart : (2 ^ k == 0) ≡ false = ne_eqb (2 ^ k) 0 (λ e. omega (arith, e)) in
    rw (apart, trailing_pow 64 k h) (mod-eq_of_lt (omega arith))

shifted : (w x k : ℕ) → k < w → op_mean Imul w w (x ∷ 2 ^ k ∷ []) ≡ op_mean Ishl w w (x ∷ k ∷ [])
unfolding op_mean meaning residue
shifted w x k h = ap (λ n. (x * 2 ^ n) % 2 ^ w) (sym (mod-eq_of_lt h))

pub imul_power : (w x k : ℕ) → k < w → w ≤ 64 → op_mean Imul w w (x ∷ 2 ^ k ∷ []) ≡ op_mean Ishl w w (x ∷ op_mean FindLsb w 32 (2 ^ k ∷ []) ∷ [])
imul_power w x k h le = shifted w x k h ∙ ap (λ n. op_mean Ishl w w (x ∷ n ∷ [])) (sym (lsb_pow k (lt_of_lt_of_le h le) w))

shifted_down : (w x k : ℕ) → k < w → op_mean Udiv w w (x ∷ 2 ^ k ∷ []) ≡ op_mean Ushr w w (x ∷ k ∷ [])
unfolding op_mean meaning residue
shifted_down w x k h =
    let p : 0 < 2 ^ k = pow_pos k in
    rw (ne_eqb (2 ^ k) 0 (λ e. omega (arith, e)), mod-eq_of_lt h) refl

pub udiv_power : (w x k : ℕ) → k < w → w ≤ 64 → op_mean Udiv w w (x ∷ 2 ^ k ∷ []) ≡ op_mean Ushr w w (x ∷ op_mean FindLsb w 32 (2 ^ k ∷ []) ∷ [])
udiv_power w x k h le = shifted_down w x k h ∙ ap (λ n. op_mean Ushr w w (x ∷ n ∷ [])) (sym (lsb_pow k (lt_of_lt_of_le h le) w))

pub umod_power : (w x k : ℕ) → k < w → op_mean Umod w w (x ∷ 2 ^ k ∷ []) ≡ op_mean Iand w w (x ∷ op_mean Iadd w w (2 ^ k ∷ (2 ^ w - 1) ∷ []) ∷ [])
unfolding op_mean meaning residue
umod_power w x k h =
    let p : 0 < 2 ^ k = pow_pos k in
    let small : 2 ^ k < 2 ^ w = pow-lt h in
    let mask : (2 ^ k + (2 ^ w - 1)) % 2 ^ w ≡ 2 ^ k - 1 = same_rest (2 ^ w) (2 ^ k + (2 ^ w - 1)) (2 ^ k - 1) 0 1 (omega arith) ∙ mod-eq_of_lt (omega arith) in
    rw (ne_eqb (2 ^ k) 0 (λ e. omega (arith, e)), mask, and_mask x k) refl

-- the zeros below an odd number that was shifted up
pub trailing_odd : (f k odd : ℕ) → k < f → odd % 2 ≡ 1 → count_trailing_zeros f (odd * 2 ^ k) ≡ k
unfolding count_trailing_zeros
trailing_odd zero k odd h o = elim h [ ]
trailing_odd (suc f) zero odd h o = rw (mul-one odd, o) refl
trailing_odd (suc f) (suc k) odd h o =
    let double : odd * 2 ^ suc k ≡ (odd * 2 ^ k) * 2 = ap (λ n. odd * n) (pow-suc 2 k) ∙ sym (mul_assoc odd (2 ^ k) 2) in
    let even : odd * 2 ^ suc k % 2 ≡ 0 = omega (arith, double) in
    let half : odd * 2 ^ suc k / 2 ≡ odd * 2 ^ k = omega (arith, double) in
    rw (even, half) (ap suc (trailing_odd f k odd (omega arith) o))

lsb_neg : (w k : ℕ) → k < w → w ≤ 64 → op_mean FindLsb w 32 ((2 ^ w - 2 ^ k) ∷ []) ≡ k
unfolding op_mean meaning residue lowest_one
lsb_neg w k h le =
    let small : 2 ^ k < 2 ^ w = pow-lt h in
    let j : ℕ = w - suc k in
    let size : suc j + k ≡ w = omega arith in
    let factors : 2 ^ w - 2 ^ k ≡ (2 ^ suc j - 1) * 2 ^ k = ap (λ n. 2 ^ n - 2 ^ k) (sym size) ∙ high_ones (suc j) k in
    let p : 0 < 2 ^ j = pow_pos j in
    let double : 2 ^ suc j ≡ 2 ^ j * 2 = pow-suc 2 j in
    let is_odd : (2 ^ suc j - 1) % 2 ≡ 1 = omega (arith, double) in
    rw (ne_eqb (2 ^ w - 2 ^ k) 0 (λ e. omega (arith, e))) (rw factors (rw (trailing_odd 64 k (2 ^ suc j - 1) (omega arith) is_odd) (mod-eq_of_lt (omega arith))))

less_product : (m x c : ℕ) → c ≤ m → 0 < m → (x * (m - c)) % m ≡ (m - (x * c) % m) % m
less_product m x c le p =
    let s : ℕ = x * c in
    let parts : s / m * m + s % m ≡ s = div-add-mod' s m in
    let below : s % m < m = mod-lt s p in
    let whole : m - c + c ≡ m = omega arith in
    let product : x * (m - c) + x * c ≡ x * m = sym (mul-add x (m - c) c) ∙ ap (λ n. x * n) whole in
    same_rest m (x * (m - c)) (m - s % m) (suc (s / m)) x (omega (arith, parts, product))

negated_shift : (w x k : ℕ) → k < w → op_mean Imul w w (x ∷ (2 ^ w - 2 ^ k) ∷ []) ≡ op_mean Ineg w w (op_mean Ishl w w (x ∷ k ∷ []) ∷ [])
unfolding op_mean meaning residue
negated_shift w x k h =
    let p : 0 < 2 ^ w = pow_pos w in
    rw (mod-eq_of_lt h) (less_product (2 ^ w) x (2 ^ k) (le_of_lt (pow-lt h)) p ∙ sym (neg_is w ((x * 2 ^ k) % 2 ^ w) (mod-lt (x * 2 ^ k) p)))

pub imul_negated_power : (w x k : ℕ) → k < w → w ≤ 64 → op_mean Imul w w (x ∷ (2 ^ w - 2 ^ k) ∷ []) ≡ op_mean Ineg w w (op_mean Ishl w w (x ∷ op_mean FindLsb w 32 ((2 ^ w - 2 ^ k) ∷ []) ∷ []) ∷ [])
imul_negated_power w x k h le = negated_shift w x k h ∙ ap (λ n. op_mean Ineg w w (op_mean Ishl w w (x ∷ n ∷ []) ∷ [])) (sym (lsb_neg w k h le))
