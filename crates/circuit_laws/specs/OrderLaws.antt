-- The circuits of comparisons, and of the lesser and the greater, are right.
use Rattle.std.proofs.Common.{◌≡◌, ℕ, ◌+◌, ◌*◌, ◌^◌, ◌<◌, ◌≤◌, List, [], ◌∷◌, length, refl, sym, ◌∙◌, ap, subst, arith, Bool, true, false, cond, nat_lt}
use Rattle.std.specs.Prelude.{◌==◌}
use Rattle.std.specs.Int.RustNames.{int_lt}
use Rattle.nir_ops.specs.declared.op.Op.TheVariants.{Inot, Ilt, Ige, Ult, Uge, Ieq, Ine, Imin, Imax, Umin, Umax}
use Rattle.op_eval.specs.Meaning.{meaning, op_mean}
use Rattle.op_eval.specs.Word.{residue, signed, truth}
use Rattle.op_laws.specs.Bits.{not_is}
use Rattle.op_laws.specs.Orders.{ine_is_inot, ige_is_inot, uge_is_inot, select, imin_is_bcsel, imax_is_bcsel, umin_is_bcsel, umax_is_bcsel}
use Rattle.circuit_laws.specs.Literals.{Lit, bit, word, yes}
use Rattle.circuit_laws.specs.Gates.{AreBelow}
use Rattle.circuit_laws.specs.Blocks.{Block, less_unsigned, less_signed, equality, flipped, top, behind}
use Rattle.circuit_laws.specs.Opcodes.{circuit, inverse, choice_by}
use Rattle.circuit_laws.specs.Computes.{Computes, IsBlock}
use Rattle.circuit_laws.specs.WordLaws.{word_small, word_flipped, flipped_length, below_later, below_flipped}
use Rattle.circuit_laws.specs.ResizeLaws.{top_below}
use Rattle.circuit_laws.specs.SequenceLaws.{choice_after, choice_after_is}
use Rattle.circuit_laws.specs.CompareLaws.{less_unsigned_is, less_unsigned_ordered, less_unsigned_below, less_signed_is, less_signed_ordered, less_signed_below, equality_is, equality_length, equality_ordered, equality_below}

-- the word of a test
pub test_word : (b : Bool) → bit b + 2 * 0 ≡ residue 1 (truth b)
unfolding residue
test_word true = refl
test_word false = refl

bit_test : (b : Bool) → bit b ≡ residue 1 (truth b)
unfolding residue
bit_test true = refl
bit_test false = refl

-- each bit negated
pub flipped_is : (α : ℕ → Bool) (k : ℕ) (ls : List Lit) → length ls ≡ k → word α (flipped ls) ≡ op_mean Inot k k (word α ls ∷ [])
flipped_is α k ls e =
    let whole : word α (flipped ls) + word α ls + 1 ≡ 2 ^ k = word_flipped α ls ∙ ap (λ m. 2 ^ m) e in
    sym (not_is k (word α ls) ∙ omega (arith, whole))

pub inverse_block : (n d : ℕ) (block : Block) → IsBlock n d block → IsBlock n d (inverse block)
inverse_block n d block h = record { long = flipped_length block.word ∙ h.long; ordered = h.ordered; below = below_flipped (behind n block.gates) block.word h.below }

-- ---- less

less_unsigned_block : (n : ℕ) (x y : List Lit) → 0 < n → AreBelow n x → AreBelow n y → IsBlock n 1 (less_unsigned x y n)
less_unsigned_block n x y p f g = record { long = refl; ordered = less_unsigned_ordered x y n p f g; below = less_unsigned_below x y n p }

less_signed_block : (n : ℕ) (x y : List Lit) → 0 < n → AreBelow n x → AreBelow n y → IsBlock n 1 (less_signed x y n)
less_signed_block n x y p f g = record { long = refl; ordered = less_signed_ordered x y n p f g; below = less_signed_below x y n p }

pub ult_computes : (n : ℕ) (x y : List Lit) → length x ≡ length y → 0 < n → AreBelow n x → AreBelow n y → Computes Ult (length x) 1 n (x ∷ y ∷ [])
unfolding circuit op_mean meaning
ult_computes n x y e p f g = record {
  block = less_unsigned_block n x y p f g;
  value = λ α t h. ap (λ b. bit b + 2 * 0) (less_unsigned_is α x y n e t h) ∙ test_word (nat_lt (word α x) (word α y));
}

pub ilt_computes : (n : ℕ) (x y : List Lit) → 1 ≤ length x → length x ≡ length y → 0 < n → AreBelow n x → AreBelow n y → Computes Ilt (length x) 1 n (x ∷ y ∷ [])
unfolding circuit op_mean meaning
ilt_computes n x y some e p f g = record {
  block = less_signed_block n x y p f g;
  value = λ α t h.
      ap (λ b. bit b + 2 * 0) (less_signed_is α x y n some e t h) ∙ test_word (int_lt (signed (length x) (word α x)) (signed (length x) (word α y)));
}

pub ieq_computes : (n : ℕ) (x y : List Lit) → length x ≡ length y → 0 < n → AreBelow n x → AreBelow n y → Computes Ieq (length x) 1 n (x ∷ y ∷ [])
unfolding circuit op_mean meaning
ieq_computes n x y e p f g = record {
  block = record { long = equality_length x y yes n; ordered = equality_ordered x y yes n f g p; below = equality_below x y yes n p };
  value = λ α t h. equality_is α x y yes n e h ∙ rw t (bit_test (word α x == word α y));
}

-- ---- negated tests

pub uge_computes : (n : ℕ) (x y : List Lit) → length x ≡ length y → 0 < n → AreBelow n x → AreBelow n y → Computes Uge (length x) 1 n (x ∷ y ∷ [])
unfolding circuit
uge_computes n x y e p f g =
    let own = ult_computes n x y e p f g in
    record {
      block = inverse_block n 1 (less_unsigned x y n) own.block;
      value = λ α t h.
          flipped_is α 1 (less_unsigned x y n).word own.block.long ∙ ap (λ v. op_mean Inot 1 1 (v ∷ [])) (own.value α t h) ∙ sym (uge_is_inot (length x) (word α x) (word α y));
    }

pub ige_computes : (n : ℕ) (x y : List Lit) → 1 ≤ length x → length x ≡ length y → 0 < n → AreBelow n x → AreBelow n y → Computes Ige (length x) 1 n (x ∷ y ∷ [])
unfolding circuit
ige_computes n x y some e p f g =
    let own = ilt_computes n x y some e p f g in
    record {
      block = inverse_block n 1 (less_signed x y n) own.block;
      value = λ α t h.
          flipped_is α 1 (less_signed x y n).word own.block.long ∙ ap (λ v. op_mean Inot 1 1 (v ∷ [])) (own.value α t h) ∙ sym (ige_is_inot (length x) (word α x) (word α y));
    }

pub ine_computes : (n : ℕ) (x y : List Lit) → length x ≡ length y → 0 < n → AreBelow n x → AreBelow n y → Computes Ine (length x) 1 n (x ∷ y ∷ [])
unfolding circuit
ine_computes n x y e p f g =
    let own = ieq_computes n x y e p f g in
    record {
      block = inverse_block n 1 (equality x y yes n) own.block;
      value = λ α t h.
          flipped_is α 1 (equality x y yes n).word own.block.long ∙ ap (λ v. op_mean Inot 1 1 (v ∷ [])) (own.value α t h) ∙ sym (ine_is_inot (length x) (word α x) (word α y));
    }

-- ---- a choice by a test

-- between words that stand before the test
choice_by_block : (n : ℕ) (test : Block) (x y : List Lit) → IsBlock n 1 test → length x ≡ length y → 0 < n → AreBelow n x → AreBelow n y → IsBlock n (length x) (choice_by test x y n)
choice_by_block n test x y h e p f g =
    let later : n ≤ behind n test.gates = omega arith in
    choice_after n test (top test.word) x y e h.ordered (top_below (behind n test.gates) test.word (omega (arith, p, later)) h.below)
    (below_later n (behind n test.gates) x later f) (below_later n (behind n test.gates) y later g)

fits : (α : ℕ → Bool) (x y : List Lit) → length x ≡ length y → word α y < 2 ^ length x
fits α x y e = subst (λ m. word α y < 2 ^ m) (sym e) (word_small α y)

pub umin_computes : (n : ℕ) (x y : List Lit) → length x ≡ length y → 0 < n → AreBelow n x → AreBelow n y → Computes Umin (length x) (length x) n (x ∷ y ∷ [])
unfolding circuit op_mean meaning
umin_computes n x y e p f g =
    let test : Block = less_unsigned x y n in
    record {
      block = choice_by_block n test x y (less_unsigned_block n x y p f g) e p f g;
      value = λ α t h.
          let own = choice_after_is α n test (top test.word) x y e h in
          own.1 ∙ ap (λ b. cond b (word α x) (word α y)) (less_unsigned_is α x y n e t own.0)
          ∙ sym (umin_is_bcsel (length x) (word α x) (word α y) (word_small α x) (fits α x y e) ∙ select (length x) (word α x) (word α y) (nat_lt (word α x) (word α y)) (word_small α x) (fits α x y e));
    }

pub umax_computes : (n : ℕ) (x y : List Lit) → length x ≡ length y → 0 < n → AreBelow n x → AreBelow n y → Computes Umax (length x) (length x) n (x ∷ y ∷ [])
unfolding circuit op_mean meaning
umax_computes n x y e p f g =
    let test : Block = less_unsigned x y n in
    record {
      block = subst (λ d. IsBlock n d (choice_by test y x n)) (sym e) (choice_by_block n test y x (less_unsigned_block n x y p f g) (sym e) p g f);
      value = λ α t h.
          let own = choice_after_is α n test (top test.word) y x (sym e) h in
          own.1 ∙ ap (λ b. cond b (word α y) (word α x)) (less_unsigned_is α x y n e t own.0)
          ∙ sym (umax_is_bcsel (length x) (word α x) (word α y) (word_small α x) (fits α x y e) ∙ select (length x) (word α y) (word α x) (nat_lt (word α x) (word α y)) (fits α x y e) (word_small α x));
    }

pub imin_computes : (n : ℕ) (x y : List Lit) → 1 ≤ length x → length x ≡ length y → 0 < n → AreBelow n x → AreBelow n y → Computes Imin (length x) (length x) n (x ∷ y ∷ [])
unfolding circuit op_mean meaning
imin_computes n x y some e p f g =
    let test : Block = less_signed x y n in
    record {
      block = choice_by_block n test x y (less_signed_block n x y p f g) e p f g;
      value = λ α t h.
          let own = choice_after_is α n test (top test.word) x y e h in
          let less : Bool = int_lt (signed (length x) (word α x)) (signed (length x) (word α y)) in
          own.1 ∙ ap (λ b. cond b (word α x) (word α y)) (less_signed_is α x y n some e t own.0)
          ∙ sym (imin_is_bcsel (length x) (word α x) (word α y) some (word_small α x) (fits α x y e) ∙ select (length x) (word α x) (word α y) less (word_small α x) (fits α x y e));
    }

pub imax_computes : (n : ℕ) (x y : List Lit) → 1 ≤ length x → length x ≡ length y → 0 < n → AreBelow n x → AreBelow n y → Computes Imax (length x) (length x) n (x ∷ y ∷ [])
unfolding circuit op_mean meaning
imax_computes n x y some e p f g =
    let test : Block = less_signed x y n in
    record {
      block = subst (λ d. IsBlock n d (choice_by test y x n)) (sym e) (choice_by_block n test y x (less_signed_block n x y p f g) (sym e) p g f);
      value = λ α t h.
          let own = choice_after_is α n test (top test.word) y x (sym e) h in
          let less : Bool = int_lt (signed (length x) (word α x)) (signed (length x) (word α y)) in
          own.1 ∙ ap (λ b. cond b (word α y) (word α x)) (less_signed_is α x y n some e t own.0)
          ∙ sym (imax_is_bcsel (length x) (word α x) (word α y) some (word_small α x) (fits α x y e) ∙ select (length x) (word α y) (word α x) less (fits α x y e) (word_small α x));
    }
