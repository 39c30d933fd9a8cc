-- Laws of sums and products at every number of bits.
use Rattle.std.proofs.Common.{◌≡◌, ℕ, zero, suc, ◌+◌, ◌-◌, ◌*◌, ◌%◌, ◌^◌, ◌<◌, ◌≤◌, [], ◌∷◌, pos, negsuc, neg_ℤ, ◌-ℤ◌, sym, ◌∙◌, ap, arith, mod-eq_of_lt, add-zero, ⊎_elim, add_comm, add_assoc, mul_comm, mul_assoc, mul-zero}
use Rattle.std.proofs.lemmas.Nat.{pow_pos, mul-mod_second, mul-mod_first}
use Rattle.std.proofs.lemmas.Bool.{cases_lt}
use Rattle.std.proofs.lemmas.Int.{ints}
use Rattle.std.proofs.Math.Nat.{mod_self, mod-add-mod, add-mod-mod, add-mod, add-mul-mod_self_right, mul-add, mul-one, zero-mod}
use Rattle.nir_ops.specs.declared.op.Op.TheVariants.{Iadd, Isub, Imul, Ineg, Inot}
use Rattle.op_eval.specs.Meaning.{meaning, op_mean}
use Rattle.op_eval.specs.Word.{residue}

-- numbers that differ by multiples of the modulus leave one rest
pub same_rest : (m a b k l : ℕ) → a + k * m ≡ b + l * m → a % m ≡ b % m
same_rest m a b k l e = sym (add-mul-mod_self_right a k m) ∙ ap (λ n. n % m) e ∙ add-mul-mod_self_right b l m

pub neg_is : (w x : ℕ) → x < 2 ^ w → residue w (neg_ℤ (pos x)) ≡ (2 ^ w - x) % 2 ^ w
unfolding residue
neg_is w zero h = let same : 2 ^ w - 0 ≡ 2 ^ w = omega arith in zero-mod (2 ^ w) ∙ sym (ap (λ n. n % 2 ^ w) same ∙ mod_self (2 ^ w))
neg_is w (suc n) h =
    let inner : n % 2 ^ w ≡ n = mod-eq_of_lt (omega arith) in
    let outer : (2 ^ w - suc n) % 2 ^ w ≡ 2 ^ w - suc n = mod-eq_of_lt (omega arith) in
    rw (inner, outer) (omega arith)

pub sub_is : (w x y : ℕ) → x < 2 ^ w → y < 2 ^ w → residue w (pos x -ℤ pos y) ≡ (x + (2 ^ w - y)) % 2 ^ w
unfolding residue
sub_is w x y f g = ⊎_elim below above (cases_lt x y) where
  below : x < y → residue w (pos x -ℤ pos y) ≡ (x + (2 ^ w - y)) % 2 ^ w
  below h =
      let z : pos x -ℤ pos y ≡ negsuc (y - suc x) = omega (arith, ints) in
      let inner : (y - suc x) % 2 ^ w ≡ y - suc x = mod-eq_of_lt (omega arith) in
      let outer : (x + (2 ^ w - y)) % 2 ^ w ≡ x + (2 ^ w - y) = mod-eq_of_lt (omega arith) in
      ap (residue w) z ∙ rw (inner, outer) (omega arith)

  above : y ≤ x → residue w (pos x -ℤ pos y) ≡ (x + (2 ^ w - y)) % 2 ^ w
  above h =
      let z : pos x -ℤ pos y ≡ pos (x - y) = omega (arith, ints) in
      ap (residue w) z ∙ same_rest (2 ^ w) (x - y) (x + (2 ^ w - y)) 1 0 (omega arith)

pub iadd_commutes : (w x y : ℕ) → op_mean Iadd w w (x ∷ y ∷ []) ≡ op_mean Iadd w w (y ∷ x ∷ [])
unfolding op_mean meaning residue
iadd_commutes w x y = ap (λ n. n % 2 ^ w) (add_comm x y)

pub iadd_associates : (w x y z : ℕ) → op_mean Iadd w w (op_mean Iadd w w (x ∷ y ∷ []) ∷ z ∷ []) ≡ op_mean Iadd w w (x ∷ op_mean Iadd w w (y ∷ z ∷ []) ∷ [])
unfolding op_mean meaning residue
iadd_associates w x y z = mod-add-mod (x + y) (2 ^ w) z ∙ ap (λ n. n % 2 ^ w) (add_assoc x y z) ∙ sym (add-mod-mod x (y + z) (2 ^ w))

pub iadd_zero : (w x : ℕ) → x < 2 ^ w → op_mean Iadd w w (x ∷ 0 ∷ []) ≡ x
unfolding op_mean meaning residue
iadd_zero w x h = ap (λ n. n % 2 ^ w) (add-zero x) ∙ mod-eq_of_lt h

pub iadd_ineg : (w x : ℕ) → x < 2 ^ w → op_mean Iadd w w (x ∷ op_mean Ineg w w (x ∷ []) ∷ []) ≡ 0
unfolding op_mean meaning residue
iadd_ineg w x h =
    let whole : x + (2 ^ w - x) ≡ 2 ^ w = omega arith in
    ap (λ n. (x + n) % 2 ^ w) (neg_is w x h) ∙ add-mod-mod x (2 ^ w - x) (2 ^ w) ∙ ap (λ n. n % 2 ^ w) whole ∙ mod_self (2 ^ w)

pub isub_is_iadd : (w x y : ℕ) → x < 2 ^ w → y < 2 ^ w → op_mean Isub w w (x ∷ y ∷ []) ≡ op_mean Iadd w w (x ∷ op_mean Ineg w w (y ∷ []) ∷ [])
unfolding op_mean meaning residue
isub_is_iadd w x y f g = sub_is w x y f g ∙ sym (add-mod-mod x (2 ^ w - y) (2 ^ w)) ∙ ap (λ n. (x + n) % 2 ^ w) (sym (neg_is w y g))

pub ineg_ineg : (w x : ℕ) → x < 2 ^ w → op_mean Ineg w w (op_mean Ineg w w (x ∷ []) ∷ []) ≡ x
unfolding op_mean meaning residue
ineg_ineg w zero h = let p : 0 < 2 ^ w = pow_pos w in rw (zero-mod (2 ^ w)) (zero-mod (2 ^ w))
ineg_ineg w (suc n) h =
    let less : residue w (neg_ℤ (pos (suc n))) ≡ 2 ^ w - suc n = neg_is w (suc n) h ∙ mod-eq_of_lt (omega arith) in
    let back : 2 ^ w - (2 ^ w - suc n) ≡ suc n = omega arith in
    ap (λ r. residue w (neg_ℤ (pos r))) less ∙ neg_is w (2 ^ w - suc n) (omega arith) ∙ ap (λ r. r % 2 ^ w) back ∙ mod-eq_of_lt h

pub ineg_is_inot : (w x : ℕ) → x < 2 ^ w → op_mean Ineg w w (x ∷ []) ≡ op_mean Iadd w w (op_mean Inot w w (x ∷ []) ∷ 1 ∷ [])
unfolding op_mean meaning residue
ineg_is_inot w x h =
    let whole : 2 ^ w - 1 - x + 1 ≡ 2 ^ w - x = omega arith in
    neg_is w x h ∙ sym (mod-add-mod (2 ^ w - 1 - x) (2 ^ w) 1 ∙ ap (λ n. n % 2 ^ w) whole)

pub imul_commutes : (w x y : ℕ) → op_mean Imul w w (x ∷ y ∷ []) ≡ op_mean Imul w w (y ∷ x ∷ [])
unfolding op_mean meaning residue
imul_commutes w x y = ap (λ n. n % 2 ^ w) (mul_comm x y)

pub imul_associates : (w x y z : ℕ) → op_mean Imul w w (op_mean Imul w w (x ∷ y ∷ []) ∷ z ∷ []) ≡ op_mean Imul w w (x ∷ op_mean Imul w w (y ∷ z ∷ []) ∷ [])
unfolding op_mean meaning residue
imul_associates w x y z = mul-mod_first (x * y) z (2 ^ w) ∙ ap (λ n. n % 2 ^ w) (mul_assoc x y z) ∙ sym (mul-mod_second x (y * z) (2 ^ w))

pub imul_zero : (w x : ℕ) → op_mean Imul w w (x ∷ 0 ∷ []) ≡ 0
unfolding op_mean meaning residue
imul_zero w x = ap (λ n. n % 2 ^ w) (mul-zero x) ∙ zero-mod (2 ^ w)

pub imul_one : (w x : ℕ) → x < 2 ^ w → op_mean Imul w w (x ∷ 1 ∷ []) ≡ x
unfolding op_mean meaning residue
imul_one w x h = ap (λ n. n % 2 ^ w) (mul-one x) ∙ mod-eq_of_lt h

pub imul_distributes : (w x y z : ℕ) → op_mean Imul w w (x ∷ op_mean Iadd w w (y ∷ z ∷ []) ∷ []) ≡ op_mean Iadd w w (op_mean Imul w w (x ∷ y ∷ []) ∷ op_mean Imul w w (x ∷ z ∷ []) ∷ [])
unfolding op_mean meaning residue
imul_distributes w x y z = mul-mod_second x (y + z) (2 ^ w) ∙ ap (λ n. n % 2 ^ w) (mul-add x y z) ∙ add-mod (x * y) (x * z) (2 ^ w)

pub imul_ones : (w x : ℕ) → x < 2 ^ w → op_mean Imul w w (x ∷ (2 ^ w - 1) ∷ []) ≡ op_mean Ineg w w (x ∷ [])
unfolding op_mean meaning residue
imul_ones w x h =
    let p : 0 < 2 ^ w = pow_pos w in
    let whole : 2 ^ w - 1 + 1 ≡ 2 ^ w = omega arith in
    let product : x * (2 ^ w - 1) + x ≡ x * 2 ^ w = sym (ap (λ n. x * (2 ^ w - 1) + n) (mul-one x)) ∙ sym (mul-add x (2 ^ w - 1) 1) ∙ ap (λ n. x * n) whole in
    sym (neg_is w x h ∙ sym (same_rest (2 ^ w) (x * (2 ^ w - 1)) (2 ^ w - x) 1 x (omega (arith, product))))
