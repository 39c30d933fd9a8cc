-- The circuits of bitwise opcodes, of the choice by a bit and by a mask, are right.
use Rattle.std.proofs.Common.{◌≡◌, ℕ, ◌+◌, ◌-◌, ◌*◌, ◌^◌, ◌<◌, List, [], ◌∷◌, length, refl, sym, ◌∙◌, ap, subst, arith, Bool, true, false, cond, mod-eq_of_lt, bit_and, bit_or, lt_of_le_of_lt}
use Rattle.std.proofs.lemmas.Nat.{and_le_l, or_lt}
use lib.Bits.{and_le_r}
use Rattle.nir_ops.specs.declared.op.Op.TheVariants.{Inot, Iand, Ior, Ixor, Bcsel, BitfieldSelect}
use Rattle.op_eval.specs.Meaning.{meaning, op_mean}
use Rattle.op_eval.specs.Word.{residue, picked}
use Rattle.op_laws.specs.Bits as bits
use Rattle.circuit_laws.specs.Literals.{Lit, lit, bit, word}
use Rattle.circuit_laws.specs.Gates.{And, Xor, AreBelow}
use Rattle.circuit_laws.specs.Blocks.{Block, and_word, xor_word, flipped}
use Rattle.circuit_laws.specs.Opcodes.{circuit}
use Rattle.circuit_laws.specs.Computes.{Computes, IsBlock}
use Rattle.circuit_laws.specs.WordLaws.{word_small, word_flipped, flipped_length, below_flipped}
use Rattle.circuit_laws.specs.RowLaws.{and_is, xor_is, choice_is, selection_is, each_length, each_below, each_ordered, and_safe, xor_safe, row_below, row_length, chosen_length, chosen_ordered}
use Rattle.circuit_laws.specs.SequenceLaws.{plain_block, choice_block}
use Rattle.circuit_laws.specs.OrderLaws.{flipped_is, inverse_block}

small : (α : ℕ → Bool) (x y : List Lit) → length x ≡ length y → word α y < 2 ^ length x
small α x y e = subst (λ m. word α y < 2 ^ m) (sym e) (word_small α y)

pub inot_computes : (n : ℕ) (x : List Lit) → 0 < n → AreBelow n x → Computes Inot (length x) (length x) n (x ∷ [])
unfolding circuit
inot_computes n x p f = record {
  block = plain_block n (length x) (flipped x) (flipped_length x) (below_flipped n x f);
  value = λ α t h. flipped_is α (length x) x refl;
}

pub and_block : (n : ℕ) (x y : List Lit) → length x ≡ length y → AreBelow n x → AreBelow n y → IsBlock n (length x) (and_word x y n)
and_block n x y e f g = record { long = each_length And x y n e; ordered = each_ordered And x y n (and_safe n) f g; below = each_below And x y n }

pub xor_block : (n : ℕ) (x y : List Lit) → length x ≡ length y → AreBelow n x → AreBelow n y → IsBlock n (length x) (xor_word x y n)
xor_block n x y e f g = record { long = each_length Xor x y n e; ordered = each_ordered Xor x y n (xor_safe n) f g; below = each_below Xor x y n }

pub iand_computes : (n : ℕ) (x y : List Lit) → length x ≡ length y → 0 < n → AreBelow n x → AreBelow n y → Computes Iand (length x) (length x) n (x ∷ y ∷ [])
unfolding circuit
iand_computes n x y e p f g = record {
  block = and_block n x y e f g;
  value = λ α t h. and_is α x y n e h ∙ sym (bits.and_is (length x) (word α x) (word α y) (word_small α x));
}

pub ixor_computes : (n : ℕ) (x y : List Lit) → length x ≡ length y → 0 < n → AreBelow n x → AreBelow n y → Computes Ixor (length x) (length x) n (x ∷ y ∷ [])
unfolding circuit
ixor_computes n x y e p f g = record {
  block = xor_block n x y e f g;
  value = λ α t h. xor_is α x y n e h ∙ sym (bits.xor_is (length x) (word α x) (word α y) (word_small α x) (small α x y e));
}

-- by De Morgan
pub ior_computes : (n : ℕ) (x y : List Lit) → length x ≡ length y → 0 < n → AreBelow n x → AreBelow n y → Computes Ior (length x) (length x) n (x ∷ y ∷ [])
unfolding circuit
ior_computes n x y e p f g =
    let w : ℕ = length x in
    let long : length (flipped x) ≡ w = flipped_length x in
    let fit : length (flipped x) ≡ length (flipped y) = long ∙ e ∙ sym (flipped_length y) in
    let block : Block = and_word (flipped x) (flipped y) n in
    let own : IsBlock n w block = subst (λ d. IsBlock n d block) long (and_block n (flipped x) (flipped y) fit (below_flipped n x f) (below_flipped n y g)) in
    record {
      block = inverse_block n w block own;
      value = λ α t h.
          let left : word α (flipped x) < 2 ^ w = subst (λ m. word α (flipped x) < 2 ^ m) long (word_small α (flipped x)) in
          let right : word α (flipped y) < 2 ^ w = subst (λ m. word α (flipped y) < 2 ^ m) (sym fit ∙ long) (word_small α (flipped y)) in
          flipped_is α w block.word own.long
          ∙ ap (λ v. op_mean Inot w w (v ∷ [])) (and_is α (flipped x) (flipped y) n fit h ∙ sym (bits.and_is w (word α (flipped x)) (word α (flipped y)) left))
          ∙ bits.inot_iand w (word α (flipped x)) (word α (flipped y)) left right
          ∙ ap (λ v. op_mean Ior w w (op_mean Inot w w (v ∷ []) ∷ op_mean Inot w w (word α (flipped y) ∷ []) ∷ [])) (flipped_is α w x refl)
          ∙ ap (λ v. op_mean Ior w w (op_mean Inot w w (op_mean Inot w w (word α x ∷ []) ∷ []) ∷ op_mean Inot w w (v ∷ []) ∷ [])) (flipped_is α w y (sym e))
          ∙ ap (λ v. op_mean Ior w w (v ∷ op_mean Inot w w (op_mean Inot w w (word α y ∷ []) ∷ []) ∷ [])) (bits.not_not w (word α x) (word_small α x))
          ∙ ap (λ v. op_mean Ior w w (word α x ∷ v ∷ [])) (bits.not_not w (word α y) (small α x y e));
    }

-- ---- choices

chosen_by_bit : (b : Bool) (w y z : ℕ) → y < 2 ^ w → z < 2 ^ w → cond b y z ≡ op_mean Bcsel w w ((bit b + 2 * 0) ∷ y ∷ z ∷ [])
unfolding op_mean meaning residue
chosen_by_bit true w y z f g = sym (mod-eq_of_lt f)
chosen_by_bit false w y z f g = sym (mod-eq_of_lt g)

pub bcsel_computes : (n : ℕ) (b y z : List Lit) → length b ≡ 1 → length y ≡ length z → 0 < n → AreBelow n b → AreBelow n y → AreBelow n z → Computes Bcsel (length y) (length y) n (b ∷ y ∷ z ∷ [])
unfolding circuit
bcsel_computes n [] y z one e p f g h = absurd (omega (arith, one))
bcsel_computes n (s ∷ []) y z one e p f g h = record {
  block = choice_block n s y z e f.0 g h;
  value = λ α t made. choice_is α s y z n e made ∙ chosen_by_bit (lit α s) (length y) (word α y) (word α z) (word_small α y) (small α y z e);
}
bcsel_computes n (s ∷ r ∷ rest) y z one e p f g h = absurd (omega (arith, one))

pub bitfield_select_computes : (n : ℕ) (x y z : List Lit) → length x ≡ length y → length x ≡ length z → 0 < n → AreBelow n x → AreBelow n y → AreBelow n z
    → Computes BitfieldSelect (length x) (length x) n (x ∷ y ∷ z ∷ [])
unfolding circuit op_mean meaning residue picked
bitfield_select_computes n x y z e i p f g h =
    let w : ℕ = length x in
    record {
      block = record {
        long = row_length _ n ∙ chosen_length x y z e i;
        ordered = chosen_ordered x y z n f g h;
        below = row_below _ n;
      };
      value = λ α t made.
          let whole : word α (flipped x) + word α x + 1 ≡ 2 ^ w = word_flipped α x in
          let mask : word α (flipped x) ≡ 2 ^ w - 1 - word α x = omega (arith, whole) in
          let left : bit_and (word α x) (word α y) < 2 ^ w = lt_of_le_of_lt (and_le_l (word α x) (word α y)) (word_small α x) in
          let right : bit_and (2 ^ w - 1 - word α x) (word α z) < 2 ^ w = lt_of_le_of_lt (and_le_r (2 ^ w - 1 - word α x) (word α z)) (small α x z i) in
          selection_is α x y z n e i made ∙ ap (λ m. bit_or (bit_and (word α x) (word α y)) (bit_and m (word α z))) mask
          ∙ sym (mod-eq_of_lt (or_lt w (bit_and (word α x) (word α y)) (bit_and (2 ^ w - 1 - word α x) (word α z)) left right));
    }
