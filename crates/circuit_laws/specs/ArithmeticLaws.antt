-- The circuits of sums, differences, negations, carries and saturation are right.
use Rattle.std.proofs.Common.{◌≡◌, ℕ, suc, ◌+◌, ◌-◌, ◌*◌, ◌%◌, ◌^◌, ◌<◌, ◌≤◌, min, List, [], ◌∷◌, length, replicate, refl, sym, ◌∙◌, ap, subst, arith, Bool, true, false, cond, not, mod-eq_of_lt, nat_lt, pos, ⊎_elim}
use Rattle.std.specs.Prelude.{nat_le}
use Rattle.std.specs.Int.RustNames.{unsigned_abs}
use Rattle.std.proofs.lemmas.Bool.{lt-ltb, le-ltb, lt-leb, le-leb, cases_lt, not-true, not-false}
use Rattle.std.proofs.lemmas.List.{length-replicate}
use Rattle.std.proofs.lemmas.Nat.{pow_pos}
use Rattle.nir_ops.specs.declared.op.Op.TheVariants.{Iadd, Isub, Ineg, Iabs, UaddCarry, UsubBorrow, UaddSat, UsubSat}
use Rattle.op_eval.specs.Meaning.{meaning, op_mean}
use Rattle.op_eval.specs.Word.{residue, signed, truth}
use Rattle.op_laws.specs.Sums.{neg_is, sub_is, same_rest}
use Rattle.circuit_laws.specs.Literals.{Lit, lit, bit, word, yes, no}
use Rattle.circuit_laws.specs.Gates.{AreBelow}
use Rattle.circuit_laws.specs.Blocks.{Sum, adder, subtracter, negation, sum_of, less_unsigned, top, behind}
use Rattle.circuit_laws.specs.Opcodes.{circuit, none}
use Rattle.circuit_laws.specs.Computes.{Computes, IsBlock}
use Rattle.circuit_laws.specs.WordLaws.{word_small, word_none, word_ones, below_later, below_filled}
use Rattle.circuit_laws.specs.SumLaws.{adder_rest, adder_length, adder_ordered, adder_below, carry_below, subtracter_rest, subtracter_length, subtracter_ordered, subtracter_below, borrow_below, negation_is, negation_length, negation_ordered, negation_below}
use Rattle.circuit_laws.specs.CompareLaws.{carry_of_sum, borrow_is, less_unsigned_is, less_unsigned_ordered, less_unsigned_below}
use Rattle.circuit_laws.specs.ResizeLaws.{top_is, top_below, resized_is, resized_length, resized_below}
use Rattle.circuit_laws.specs.SequenceLaws.{choice_after, choice_after_is}

pub iadd_computes : (n : ℕ) (x y : List Lit) → length x ≡ length y → 0 < n → AreBelow n x → AreBelow n y → Computes Iadd (length x) (length x) n (x ∷ y ∷ [])
unfolding circuit op_mean meaning residue
iadd_computes n x y e p f g = record {
  block = record { long = adder_length x y no n e; ordered = adder_ordered x y no n f g p; below = adder_below x y no n };
  value = λ α t h. adder_rest α x y no n e h ∙ rw t (ap (λ m. m % 2 ^ length x) (omega arith));
}

pub isub_computes : (n : ℕ) (x y : List Lit) → length x ≡ length y → 0 < n → AreBelow n x → AreBelow n y → Computes Isub (length x) (length x) n (x ∷ y ∷ [])
unfolding circuit op_mean meaning
isub_computes n x y e p f g = record {
  block = record { long = subtracter_length x y n e; ordered = subtracter_ordered x y n p f g; below = subtracter_below x y n };
  value = λ α t h.
      subtracter_rest α x y n e t h
      ∙ sym (sub_is (length x) (word α x) (word α y) (word_small α x) (subst (λ m. word α y < 2 ^ m) (sym e) (word_small α y)));
}

pub ineg_computes : (n : ℕ) (x : List Lit) → 0 < n → AreBelow n x → Computes Ineg (length x) (length x) n (x ∷ [])
unfolding circuit op_mean meaning
ineg_computes n x p f = record {
  block = record { long = negation_length x n; ordered = negation_ordered x n p f; below = negation_below x n };
  value = λ α t h. negation_is α x n t h ∙ sym (neg_is (length x) (word α x) (word_small α x));
}

-- ---- saturation

sat_add : (b : Bool) (w t s : ℕ) → b ≡ nat_le (2 ^ w) t → s ≡ t % 2 ^ w → cond b (2 ^ w - 1) s ≡ min t (2 ^ w - 1) % 2 ^ w
sat_add b w t s e f = ⊎_elim few many (cases_lt t (2 ^ w))
  where
    few : t < 2 ^ w → cond b (2 ^ w - 1) s ≡ min t (2 ^ w - 1) % 2 ^ w
    few h =
        let least : min t (2 ^ w - 1) ≡ t = omega (arith, h) in
        rw (e ∙ lt-leb (2 ^ w) t h, f, least) refl

    many : 2 ^ w ≤ t → cond b (2 ^ w - 1) s ≡ min t (2 ^ w - 1) % 2 ^ w
    many h =
        let p : 0 < 2 ^ w = pow_pos w in
        let least : min t (2 ^ w - 1) ≡ 2 ^ w - 1 = omega (arith, h) in
        rw (e ∙ le-leb (2 ^ w) t h, least) (sym (mod-eq_of_lt (omega (arith, p))))

pub uadd_sat_computes : (n : ℕ) (x y : List Lit) → length x ≡ length y → 0 < n → AreBelow n x → AreBelow n y → Computes UaddSat (length x) (length x) n (x ∷ y ∷ [])
unfolding circuit op_mean meaning residue
uadd_sat_computes n x y e p f g =
    let sum : Sum = adder x y no n in
    let ones : List Lit = replicate (length x) yes in
    let count : length ones ≡ length x = length-replicate (length x) yes in
    let fit : length ones ≡ length sum.word = count ∙ sym (adder_length x y no n e) in
    let later : n ≤ behind n sum.gates = omega arith in
    record {
      block = subst (λ d. IsBlock n d (circuit UaddSat (length x) x y [] n)) count
          (choice_after n (sum_of sum) sum.carry ones sum.word fit (adder_ordered x y no n f g p) (carry_below x y no n p)
          (below_filled (behind n sum.gates) (length x) yes (omega (arith, p, later))) (adder_below x y no n));
      value = λ α t h.
          let own = choice_after_is α n (sum_of sum) sum.carry ones sum.word fit h in
          let filled : word α ones ≡ 2 ^ length x - 1 = omega (arith, word_ones α (length x) t) in
          own.1 ∙ ap (λ m. cond (lit α sum.carry) m (word α sum.word)) filled
          ∙ sat_add (lit α sum.carry) (length x) (word α x + word α y) (word α sum.word) (carry_of_sum α x y n e t own.0)
          (adder_rest α x y no n e own.0 ∙ rw t (ap (λ m. m % 2 ^ length x) (omega arith)));
    }

sat_sub : (b : Bool) (m x y d : ℕ) → x < m → not b ≡ nat_lt x y → d ≡ (x + (m - y)) % m → y < m → cond b d 0 ≡ (x - y) % m
sat_sub true m x y d small e f fits =
    ⊎_elim (λ h. let bad = e ∙ lt-ltb x y h in cc)
    (λ h. f ∙ same_rest m (x + (m - y)) (x - y) 0 1 (omega (arith, h, fits)))
    (cases_lt x y)
sat_sub false m x y d small e f fits =
    ⊎_elim (λ h. let none : x - y ≡ 0 = omega (arith, h) in rw none (sym (mod-eq_of_lt (omega (arith, small)))))
    (λ h. let bad = e ∙ le-ltb x y h in cc)
    (cases_lt x y)

pub usub_sat_computes : (n : ℕ) (x y : List Lit) → length x ≡ length y → 0 < n → AreBelow n x → AreBelow n y → Computes UsubSat (length x) (length x) n (x ∷ y ∷ [])
unfolding circuit op_mean meaning residue
usub_sat_computes n x y e p f g =
    let sum : Sum = subtracter x y n in
    let zeros : List Lit = none (length x) in
    let fit : length sum.word ≡ length zeros = subtracter_length x y n e ∙ sym (length-replicate (length x) no) in
    let later : n ≤ behind n sum.gates = omega arith in
    record {
      block = subst (λ d. IsBlock n d (circuit UsubSat (length x) x y [] n)) (subtracter_length x y n e)
          (choice_after n (sum_of sum) sum.carry sum.word zeros fit (subtracter_ordered x y n p f g) (borrow_below x y n p)
          (subtracter_below x y n) (below_filled (behind n sum.gates) (length x) no (omega (arith, p, later))));
      value = λ α t h.
          let own = choice_after_is α n (sum_of sum) sum.carry sum.word zeros fit h in
          let fits : word α y < 2 ^ length x = subst (λ m. word α y < 2 ^ m) (sym e) (word_small α y) in
          own.1 ∙ ap (λ m. cond (lit α sum.carry) (word α sum.word) m) (word_none α (length x) t)
          ∙ sat_sub (lit α sum.carry) (2 ^ length x) (word α x) (word α y) (word α sum.word) (word_small α x) (borrow_is α x y n e t own.0)
          (subtracter_rest α x y n e t own.0) fits;
    }

-- ---- carries and borrows

bit_residue : (w : ℕ) (b : Bool) → (bit b + 2 * 0) % 2 ^ w ≡ residue w (truth b)
unfolding residue
bit_residue w true = refl
bit_residue w false = refl

pub uadd_carry_computes : (n : ℕ) (x y : List Lit) → length x ≡ length y → 0 < n → AreBelow n x → AreBelow n y → Computes UaddCarry (length x) (length x) n (x ∷ y ∷ [])
unfolding circuit op_mean meaning
uadd_carry_computes n x y e p f g =
    let sum : Sum = adder x y no n in
    let later : 0 < behind n sum.gates = omega (arith, p) in
    record {
      block = record {
        long = resized_length no (length x) (sum.carry ∷ []);
        ordered = adder_ordered x y no n f g p;
        below = resized_below (behind n sum.gates) no (length x) (sum.carry ∷ []) later (carry_below x y no n p, tt);
      };
      value = λ α t h.
          resized_is α (length x) (sum.carry ∷ []) t ∙ ap (λ b. (bit b + 2 * 0) % 2 ^ length x) (carry_of_sum α x y n e t h)
          ∙ bit_residue (length x) (nat_le (2 ^ length x) (word α x + word α y));
    }

pub usub_borrow_computes : (n : ℕ) (x y : List Lit) → length x ≡ length y → 0 < n → AreBelow n x → AreBelow n y → Computes UsubBorrow (length x) (length x) n (x ∷ y ∷ [])
unfolding circuit op_mean meaning
usub_borrow_computes n x y e p f g =
    let gates = (less_unsigned x y n).gates in
    let later : 0 < behind n gates = omega (arith, p) in
    record {
      block = record {
        long = resized_length no (length x) (less_unsigned x y n).word;
        ordered = less_unsigned_ordered x y n p f g;
        below = resized_below (behind n gates) no (length x) (less_unsigned x y n).word later (less_unsigned_below x y n p);
      };
      value = λ α t h.
          resized_is α (length x) (less_unsigned x y n).word t ∙ ap (λ b. (bit b + 2 * 0) % 2 ^ length x) (less_unsigned_is α x y n e t h)
          ∙ bit_residue (length x) (nat_lt (word α x) (word α y));
    }

-- ---- magnitude

magnitude_word : (w v : ℕ) (high : Bool) → v < 2 ^ w → high ≡ not (nat_lt v (2 ^ (w - 1))) → cond high ((2 ^ w - v) % 2 ^ w) v ≡ residue w (pos (unsigned_abs (signed w v)))
unfolding residue signed
magnitude_word w v true small e =
    let high : nat_lt v (2 ^ (w - 1)) ≡ false = not-true (nat_lt v (2 ^ (w - 1))) (sym e) in
    let whole : 2 ^ w - v ≡ suc (2 ^ w - suc v) = omega (arith, small) in
    rw (high, whole) refl
magnitude_word w v false small e =
    let low : nat_lt v (2 ^ (w - 1)) ≡ true = not-false (nat_lt v (2 ^ (w - 1))) (sym e) in
    rw low (sym (mod-eq_of_lt small))

pub iabs_computes : (n : ℕ) (x : List Lit) → 1 ≤ length x → 0 < n → AreBelow n x → Computes Iabs (length x) (length x) n (x ∷ [])
unfolding circuit op_mean meaning
iabs_computes n x some p f =
    let minus : Sum = negation x n in
    let from : ℕ = behind n minus.gates in
    let later : n ≤ from = omega arith in
    let fit : length minus.word ≡ length x = negation_length x n in
    let own : AreBelow from x = below_later n from x later f in
    record {
      block = subst (λ d. IsBlock n d (circuit Iabs (length x) x [] [] n)) fit
          (choice_after n (sum_of minus) (top x) minus.word x fit (negation_ordered x n p f) (top_below from x (omega (arith, p, later)) own) (negation_below x n) own);
      value = λ α t h.
          let made = choice_after_is α n (sum_of minus) (top x) minus.word x fit h in
          made.1 ∙ ap (λ m. cond (lit α (top x)) m (word α x)) (negation_is α x n t made.0)
          ∙ magnitude_word (length x) (word α x) (lit α (top x)) (word_small α x) (top_is α x some);
    }
