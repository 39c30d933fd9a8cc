-- Laws of comparisons, selection, and the lesser and greater, at every number of bits.
use Rattle.std.proofs.Common.{◌≡◌, ℕ, zero, suc, ◌+◌, ◌-◌, ◌%◌, ◌^◌, ◌<◌, ◌≤◌, min, max, [], ◌∷◌, refl, sym, ◌∙◌, ap, arith, mod-eq_of_lt, Bool, true, false, cond, not, nat_lt, pos, negsuc, ⊎_elim, inl, inr, ◌⊎◌}
use Rattle.std.specs.Prelude.{◌==◌, ℤ, nat_le, ◌-ℤ◌, ◌*ℤ◌, neg_ℤ}
use Rattle.std.specs.Int.RustNames.{int_lt, int_le, int_div}
use Rattle.std.proofs.lemmas.Int.{ints}
use Rattle.std.proofs.lemmas.Nat.{pow_pos}
use Rattle.std.proofs.Math.Nat.{mod_self, div-one}
use Rattle.std.proofs.lemmas.Bool.{cases_lt, lt-ltb, le-ltb, le-leb, lt-leb, eq-eqb, ne_eqb, cases_eq}
use Rattle.std.specs.Int.{int_min, int_max}
use Rattle.nir_ops.specs.declared.op.Op.TheVariants.{Inot, Ult, Uge, Ilt, Ige, Ieq, Ine, Bcsel, Imin, Imax, Umin, Umax, Isub, Idiv, Irem}
use Rattle.op_eval.specs.Meaning.{meaning, op_mean}
use Rattle.op_eval.specs.Word.{residue, truth, signed, truncated_rest}
use Rattle.op_eval.proofs.WordLemmas.{residue_below}
use lib.Pow.{pow_mono}
use Rattle.op_laws.specs.Sums.{sub_is, same_rest}

-- a signed reading leaves its word
pub residue_signed : (w x : ℕ) → 1 ≤ w → x < 2 ^ w → residue w (signed w x) ≡ x
unfolding residue signed
residue_signed w x one h = ⊎_elim low high (cases_lt x (2 ^ (w - 1))) where
  low : x < 2 ^ (w - 1) → residue w (signed w x) ≡ x
  low f = rw (lt-ltb x (2 ^ (w - 1)) f) (mod-eq_of_lt h)

  high : 2 ^ (w - 1) ≤ x → residue w (signed w x) ≡ x
  high f = rw (le-ltb x (2 ^ (w - 1)) f) (let inner : (2 ^ w - suc x) % 2 ^ w ≡ 2 ^ w - suc x = mod-eq_of_lt (omega arith) in rw inner (omega arith))

-- a test negated, as a word of one bit
pub negated_truth : (b : Bool) → residue 1 (truth (not b)) ≡ op_mean Inot 1 1 (residue 1 (truth b) ∷ [])
unfolding op_mean meaning residue
negated_truth true = refl
negated_truth false = refl

-- what a bcsel on a test gives
pub select : (w y z : ℕ) (b : Bool) → y < 2 ^ w → z < 2 ^ w → op_mean Bcsel w w (residue 1 (truth b) ∷ y ∷ z ∷ []) ≡ cond b y z
unfolding op_mean meaning residue
select w y z true f g = mod-eq_of_lt f
select w y z false f g = mod-eq_of_lt g

not_lt : (x y : ℕ) → nat_le y x ≡ not (nat_lt x y)
not_lt x y = ⊎_elim (λ h. rw (lt-ltb x y h, lt-leb y x h) refl) (λ h. rw (le-ltb x y h, le-leb y x h) refl) (cases_lt x y)

not_lt_z : (a b : ℤ) → int_le b a ≡ not (int_lt a b)
not_lt_z a b = grind (arith, ints)

pub ine_is_inot : (w x y : ℕ) → op_mean Ine w 1 (x ∷ y ∷ []) ≡ op_mean Inot 1 1 (op_mean Ieq w 1 (x ∷ y ∷ []) ∷ [])
unfolding op_mean meaning
ine_is_inot w x y = negated_truth (x == y)

pub ige_is_inot : (w x y : ℕ) → op_mean Ige w 1 (x ∷ y ∷ []) ≡ op_mean Inot 1 1 (op_mean Ilt w 1 (x ∷ y ∷ []) ∷ [])
unfolding op_mean meaning
ige_is_inot w x y = ap (λ b. residue 1 (truth b)) (not_lt_z (signed w x) (signed w y)) ∙ negated_truth (int_lt (signed w x) (signed w y))

pub uge_is_inot : (w x y : ℕ) → op_mean Uge w 1 (x ∷ y ∷ []) ≡ op_mean Inot 1 1 (op_mean Ult w 1 (x ∷ y ∷ []) ∷ [])
unfolding op_mean meaning
uge_is_inot w x y = ap (λ b. residue 1 (truth b)) (not_lt x y) ∙ negated_truth (nat_lt x y)

diff_zero : (m x y : ℕ) → x < m → y < m → ((x + (m - y)) % m == 0) ≡ (x == y)
diff_zero m x y f g = ⊎_elim same other (cases_eq x y) where
  same : x ≡ y → ((x + (m - y)) % m == 0) ≡ (x == y)
  same e = let whole : x + (m - y) ≡ m = omega (arith, e) in rw (eq-eqb x y e, whole) (eq-eqb (m % m) 0 (mod_self m))

  other : (x ≡ y → ⊥) → ((x + (m - y)) % m == 0) ≡ (x == y)
  other e = rw (ne_eqb x y e) (ne_eqb ((x + (m - y)) % m) 0 (λ z. e (rest z (cases_lt x y)))) where
    rest : (x + (m - y)) % m ≡ 0 → (x < y) ⊎ (y ≤ x) → x ≡ y
    rest z (inl h) = let small : (x + (m - y)) % m ≡ x + (m - y) = mod-eq_of_lt (omega arith) in omega (arith, z, small)
    rest z (inr h) =
        let turned : (x + (m - y)) % m ≡ x - y = same_rest m (x + (m - y)) (x - y) 0 1 (omega arith) ∙ mod-eq_of_lt (omega arith) in
        omega (arith, z, turned)

pub ieq_isub : (w x y : ℕ) → x < 2 ^ w → y < 2 ^ w → op_mean Ieq w 1 (op_mean Isub w w (x ∷ y ∷ []) ∷ 0 ∷ []) ≡ op_mean Ieq w 1 (x ∷ y ∷ [])
unfolding op_mean meaning
ieq_isub w x y f g = ap (λ n. residue 1 (truth (n == 0))) (sub_is w x y f g) ∙ ap (λ b. residue 1 (truth b)) (diff_zero (2 ^ w) x y f g)

lesser : (a b : ℤ) → int_min a b ≡ cond (int_lt a b) a b
lesser a b = grind (arith, ints)

greater : (a b : ℤ) → int_max a b ≡ cond (int_lt a b) b a
greater a b = grind (arith, ints)

residue_cond : (w : ℕ) (b : Bool) (a c : ℤ) → residue w (cond b a c) ≡ cond b (residue w a) (residue w c)
residue_cond w true a c = refl
residue_cond w false a c = refl

-- the lesser and the greater by a test
pub imin_is_bcsel : (w x y : ℕ) → 1 ≤ w → x < 2 ^ w → y < 2 ^ w → op_mean Imin w w (x ∷ y ∷ []) ≡ op_mean Bcsel w w (op_mean Ilt w 1 (x ∷ y ∷ []) ∷ x ∷ y ∷ [])
unfolding op_mean meaning
imin_is_bcsel w x y one f g =
    let test : Bool = int_lt (signed w x) (signed w y) in
    ap (residue w) (lesser (signed w x) (signed w y)) ∙ residue_cond w test (signed w x) (signed w y)
    ∙ rw (residue_signed w x one f, residue_signed w y one g) refl ∙ sym (select w x y test f g)

pub imax_is_bcsel : (w x y : ℕ) → 1 ≤ w → x < 2 ^ w → y < 2 ^ w → op_mean Imax w w (x ∷ y ∷ []) ≡ op_mean Bcsel w w (op_mean Ilt w 1 (x ∷ y ∷ []) ∷ y ∷ x ∷ [])
unfolding op_mean meaning
imax_is_bcsel w x y one f g =
    let test : Bool = int_lt (signed w x) (signed w y) in
    ap (residue w) (greater (signed w x) (signed w y)) ∙ residue_cond w test (signed w y) (signed w x)
    ∙ rw (residue_signed w x one f, residue_signed w y one g) refl ∙ sym (select w y x test g f)

pub lesser_nat : (x y : ℕ) → min x y ≡ cond (nat_lt x y) x y
lesser_nat x y = grind arith

cond_small : (b : Bool) (x y m : ℕ) → x < m → y < m → cond b x y % m ≡ cond b x y
cond_small true x y m f g = mod-eq_of_lt f
cond_small false x y m f g = mod-eq_of_lt g

pub umin_is_bcsel : (w x y : ℕ) → x < 2 ^ w → y < 2 ^ w → op_mean Umin w w (x ∷ y ∷ []) ≡ op_mean Bcsel w w (op_mean Ult w 1 (x ∷ y ∷ []) ∷ x ∷ y ∷ [])
unfolding op_mean meaning residue
umin_is_bcsel w x y f g = ap (λ n. n % 2 ^ w) (lesser_nat x y) ∙ cond_small (nat_lt x y) x y (2 ^ w) f g ∙ sym (select w x y (nat_lt x y) f g)

greater_nat : (x y : ℕ) → max x y ≡ cond (nat_lt x y) y x
greater_nat x y = grind arith

pub umax_is_bcsel : (w x y : ℕ) → x < 2 ^ w → y < 2 ^ w → op_mean Umax w w (x ∷ y ∷ []) ≡ op_mean Bcsel w w (op_mean Ult w 1 (x ∷ y ∷ []) ∷ y ∷ x ∷ [])
unfolding op_mean meaning residue
umax_is_bcsel w x y f g = ap (λ n. n % 2 ^ w) (greater_nat x y) ∙ cond_small (nat_lt x y) y x (2 ^ w) g f ∙ sym (select w y x (nat_lt x y) g f)

pub ieq_itself : (w x : ℕ) → op_mean Ieq w 1 (x ∷ x ∷ []) ≡ 1
unfolding op_mean meaning residue
ieq_itself w x = rw (eq-eqb x x refl) refl

equal_turned : (x y : ℕ) → (x == y) ≡ (y == x)
equal_turned x y = grind arith

pub ieq_commutes : (w x y : ℕ) → op_mean Ieq w 1 (x ∷ y ∷ []) ≡ op_mean Ieq w 1 (y ∷ x ∷ [])
unfolding op_mean meaning
ieq_commutes w x y = ap (λ b. residue 1 (truth b)) (equal_turned x y)

none_below_itself : (z : ℤ) → int_lt z z ≡ false
none_below_itself z = grind (arith, ints)

pub ilt_itself : (w x : ℕ) → op_mean Ilt w 1 (x ∷ x ∷ []) ≡ 0
unfolding op_mean meaning residue
ilt_itself w x = rw (none_below_itself (signed w x)) refl

pub ult_itself : (w x : ℕ) → op_mean Ult w 1 (x ∷ x ∷ []) ≡ 0
unfolding op_mean meaning residue
ult_itself w x = rw (le-ltb x x (omega arith)) refl

pub ult_zero : (w x : ℕ) → op_mean Ult w 1 (x ∷ 0 ∷ []) ≡ 0
unfolding op_mean meaning residue
ult_zero w x = rw (le-ltb x 0 (omega arith)) refl

below_one : (x : ℕ) → nat_lt x 1 ≡ (x == 0)
below_one x = grind arith

pub ult_one : (w x : ℕ) → op_mean Ult w 1 (x ∷ 1 ∷ []) ≡ op_mean Ieq w 1 (x ∷ 0 ∷ [])
unfolding op_mean meaning
ult_one w x = ap (λ b. residue 1 (truth b)) (below_one x)

pub bcsel_true : (w x y : ℕ) → x < 2 ^ w → op_mean Bcsel w w (1 ∷ x ∷ y ∷ []) ≡ x
unfolding op_mean meaning residue
bcsel_true w x y h = mod-eq_of_lt h

pub bcsel_false : (w x y : ℕ) → y < 2 ^ w → op_mean Bcsel w w (0 ∷ x ∷ y ∷ []) ≡ y
unfolding op_mean meaning residue
bcsel_false w x y h = mod-eq_of_lt h

pub bcsel_same : (w b x : ℕ) → b < 2 ^ 1 → x < 2 ^ w → op_mean Bcsel w w (b ∷ x ∷ x ∷ []) ≡ x
unfolding op_mean meaning residue
bcsel_same w zero x f h = mod-eq_of_lt h
bcsel_same w (suc zero) x f h = mod-eq_of_lt h
bcsel_same w (suc (suc b)) x f h = absurd (omega (arith, f))

pub bcsel_inot : (w b x y : ℕ) → b < 2 ^ 1 → op_mean Bcsel w w (op_mean Inot 1 1 (b ∷ []) ∷ x ∷ y ∷ []) ≡ op_mean Bcsel w w (b ∷ y ∷ x ∷ [])
unfolding op_mean meaning residue
bcsel_inot w zero x y f = refl
bcsel_inot w (suc zero) x y f = refl
bcsel_inot w (suc (suc b)) x y f = absurd (omega (arith, f))

-- ---- by one

signed_one : (w : ℕ) → 2 ≤ w → signed w 1 ≡ pos 1
unfolding signed
signed_one w h = let above : 1 ≤ w - 1 = omega arith in let big : 2 ^ 1 ≤ 2 ^ (w - 1) = pow_mono above in rw (lt-ltb 1 (2 ^ (w - 1)) (omega (arith, big))) refl

div_by_one : (z : ℤ) → int_div z (pos 1) ≡ z
div_by_one (pos n) = ap pos (div-one n)
div_by_one (negsuc n) = ap (λ m. neg_ℤ (pos m)) (div-one (suc n))

rest_by_one : (z : ℤ) → truncated_rest z (pos 1) ≡ pos 0
unfolding truncated_rest
rest_by_one z = rw (div_by_one z) (rest_none z) where
  rest_none : (y : ℤ) → y -ℤ (pos 1 *ℤ y) ≡ pos 0
  rest_none y = omega (arith, ints)

pub idiv_one : (w x : ℕ) → 2 ≤ w → x < 2 ^ w → op_mean Idiv w w (x ∷ 1 ∷ []) ≡ x
unfolding op_mean meaning
idiv_one w x h f = rw (signed_one w h, div_by_one (signed w x)) (residue_signed w x (omega arith) f)

pub irem_one : (w x : ℕ) → 2 ≤ w → op_mean Irem w w (x ∷ 1 ∷ []) ≡ 0
unfolding op_mean meaning
irem_one w x h = rw (signed_one w h, rest_by_one (signed w x)) (residue_below w 0 (pow_pos w))
