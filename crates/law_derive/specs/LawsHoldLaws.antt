-- Each row of the table of laws holds, by the law of its opcodes.
use Rattle.std.proofs.Common.{◌≡◌, ◌+◌, ◌-◌, ◌^◌, ◌<◌, ◌≤◌, ℕ, zero, suc, true, [], ◌∷◌, pos, negsuc, ap, arith, mod-eq_of_lt, lit≤, ⊎_elim}
use Rattle.std.specs.Prelude.{nat_eq}
use Rattle.std.specs.List.{list_any, range_with_len}
use Rattle.std.proofs.lemmas.Bool.{false≢true, or_cases, eqb-true}
use Rattle.std.proofs.Math.Nat.{zero-mod}
use lib.Pow.{pow_mono}
use Rattle.nir_ops.specs.declared.op.Op.TheVariants.{Imul, Ineg, Ishl, Udiv, Ushr, Umod, Iand, Iadd, FindLsb}
use Rattle.nir_ops.specs.declared.width.Width.{Width}
use Rattle.nir_ops.specs.declared.width.Width.TheVariants.{W1, W8, W16, W32, W64}
use Rattle.nir_ops.specs.Opcodes.{op_info, row_of}
use Rattle.nir_ops.specs.Width.{width_bits}
use Rattle.op_eval.specs.Calls.{result_width, source_widths, unsized_width}
use Rattle.op_eval.specs.Meaning.{op_mean}
use Rattle.op_eval.specs.Word.{residue}
use Rattle.rule_term.specs.declared.cond.Cond.TheVariants.{PosPow2, NegPow2}
use Rattle.rule_term.specs.Conditions.{cond_holds}
use Rattle.op_laws.specs.Bits.{iand_commutes, iand_associates, iand_itself, iand_zero, iand_ones, ior_commutes, ior_associates, ior_itself, ior_zero, ixor_commutes, ixor_associates, ixor_itself, ixor_zero, inot_is_ixor, inot_iand, iand_distributes, iand_inot}
use Rattle.op_laws.specs.Orders.{idiv_one, irem_one, ieq_itself, ieq_commutes, ine_is_inot, ige_is_inot, uge_is_inot, ilt_itself, ult_itself, ieq_isub, ult_zero, ult_one, bcsel_true, bcsel_false, bcsel_same, bcsel_inot, imin_is_bcsel, imax_is_bcsel, umin_is_bcsel, umax_is_bcsel}
use Rattle.op_laws.specs.Powers.{imul_power, imul_negated_power, udiv_power, umod_power, ishl_zero, ushr_zero}
use Rattle.op_laws.specs.Sums.{iadd_commutes, iadd_associates, iadd_zero, iadd_ineg, isub_is_iadd, ineg_ineg, ineg_is_inot, imul_commutes, imul_associates, imul_zero, imul_one, imul_distributes, imul_ones}
use Rattle.law_derive.specs.LawsHold.{LawsHold}

-- ---- the words of numbers

word_zero : (w : ℕ) → residue w (pos 0) ≡ 0
unfolding residue
word_zero w = zero-mod (2 ^ w)

word_ones : (w : ℕ) → residue w (negsuc 0) ≡ 2 ^ w - 1
unfolding residue
word_ones w = rw (zero-mod (2 ^ w)) (omega arith)

word_one : (w : ℕ) → 1 ≤ w → residue w (pos 1) ≡ 1
unfolding residue
word_one w some = let big : 2 ^ 1 ≤ 2 ^ w = pow_mono some in mod-eq_of_lt (omega (arith, big))

size_small : (width : Width) → width_bits width ≤ 64
size_small W1 = lit≤ tt
size_small W8 = lit≤ tt
size_small W16 = lit≤ tt
size_small W32 = lit≤ tt
size_small W64 = lit≤ tt

-- ---- conditions as exponents

some_power : (f : ℕ → ℕ) (v from count : ℕ) → list_any (λ k. nat_eq v (f k)) (range_with_len from count) ≡ true → (k : ℕ) × (k < from + count) × (v ≡ f k)
some_power f v from zero met = absurd (false≢true met)
some_power f v from (suc count) met =
    ⊎_elim (λ here. (from, omega arith, eqb-true v (f from) here))
    (λ behind. let found = some_power f v (from + 1) count behind in (found.0, omega (arith, found.1), found.2))
    (or_cases (nat_eq v (f from)) (list_any (λ k. nat_eq v (f k)) (range_with_len (from + 1) count)) met)

power_met : (w c : ℕ) → cond_holds PosPow2 w c ≡ true → (k : ℕ) × (k < w) × (c ≡ 2 ^ k)
unfolding cond_holds
power_met w c met = let found = some_power (λ k. 2 ^ k) c 0 (w - 1) met in (found.0, omega (arith, found.1), found.2)

imul_power_met : (w x c : ℕ) → w ≤ 64 → cond_holds PosPow2 w c ≡ true → op_mean Imul w w (x ∷ c ∷ []) ≡ op_mean Ishl w w (x ∷ op_mean FindLsb w 32 (c ∷ []) ∷ [])
imul_power_met w x c few met = let found = power_met w c met in rw found.2 (imul_power w x found.0 found.1 few)

imul_negated_power_met : (w x c : ℕ) → w ≤ 64 → cond_holds NegPow2 w c ≡ true
    → op_mean Imul w w (x ∷ c ∷ []) ≡ op_mean Ineg w w (op_mean Ishl w w (x ∷ op_mean FindLsb w 32 (c ∷ []) ∷ []) ∷ [])
unfolding cond_holds
imul_negated_power_met w x c few met =
    let found = some_power (λ k. 2 ^ w - 2 ^ k) c 0 w met in
    let small : found.0 < w = omega (arith, found.1) in
    rw found.2 (imul_negated_power w x found.0 small few)

udiv_power_met : (w x c : ℕ) → w ≤ 64 → cond_holds PosPow2 w c ≡ true → op_mean Udiv w w (x ∷ c ∷ []) ≡ op_mean Ushr w w (x ∷ op_mean FindLsb w 32 (c ∷ []) ∷ [])
udiv_power_met w x c few met = let found = power_met w c met in rw found.2 (udiv_power w x found.0 found.1 few)

umod_power_met : (w x c : ℕ) → w ≤ 64 → cond_holds PosPow2 w c ≡ true
    → op_mean Umod w w (x ∷ c ∷ []) ≡ op_mean Iand w w (x ∷ op_mean Iadd w w (c ∷ residue w (negsuc 0) ∷ []) ∷ [])
umod_power_met w x c few met = let found = power_met w c met in rw (found.2, word_ones w) (umod_power w x found.0 found.1)

-- ---- the table

value : {a b : ℕ} → a ≡ b → a ∷ [] ≡ b ∷ []
value same = ap (λ v. v ∷ []) same

least_one : {bits : ℕ} → 8 ≤ bits → 1 ≤ bits
least_one enough = omega (arith, enough)

least_two : {bits : ℕ} → 8 ≤ bits → 2 ≤ bits
least_two enough = omega (arith, enough)

-- a fact before others
infixr 4 ◌also◌
abbrev ◌also◌ : {A B : Type 0} → A → B → A × B
a also b = (a, b)

pub laws_hold : LawsHold
unfolding op_info row_of result_width source_widths unsized_width
laws_hold =
    (λ width enough words are met. value (iadd_commutes _ _ _))
    also (λ width enough words are met. value (iadd_associates _ _ _ _))
    also (λ width enough words are met. rw (word_zero (width_bits width)) (value (iadd_zero _ _ are.x)))
    also (λ width enough words are met. rw (word_zero (width_bits width)) (value (iadd_ineg _ _ are.x)))
    also (λ width enough words are met. value (isub_is_iadd _ _ _ are.x are.y))
    also (λ width enough words are met. value (ineg_ineg _ _ are.x))
    also (λ width enough words are met. rw (word_one (width_bits width) (least_one enough)) (value (ineg_is_inot _ _ are.x)))
    also (λ width enough words are met. rw (word_one (width_bits width) (least_one enough)) (value (idiv_one _ _ (least_two enough) are.x)))
    also (λ width enough words are met. value (imul_commutes _ _ _))
    also (λ width enough words are met. value (imul_associates _ _ _ _))
    also (λ width enough words are met. rw (word_zero (width_bits width)) (value (imul_zero _ _)))
    also (λ width enough words are met. rw (word_one (width_bits width) (least_one enough)) (value (imul_one _ _ are.x)))
    also (λ width enough words are met. value (imul_distributes _ _ _ _))
    also (λ width enough words are met. rw (word_ones (width_bits width)) (value (imul_ones _ _ are.x)))
    also (λ width enough words are met. value (imul_power_met _ _ _ (size_small width) met))
    also (λ width enough words are met. value (imul_negated_power_met _ _ _ (size_small width) met))
    also (λ width enough words are met. value (iand_commutes _ _ _))
    also (λ width enough words are met. value (iand_associates _ _ _ _ are.x are.y))
    also (λ width enough words are met. value (iand_itself _ _ are.x))
    also (λ width enough words are met. rw (word_zero (width_bits width)) (value (iand_zero _ _ are.x)))
    also (λ width enough words are met. rw (word_ones (width_bits width)) (value (iand_ones _ _ are.x)))
    also (λ width enough words are met. value (ior_commutes _ _ _))
    also (λ width enough words are met. value (ior_associates _ _ _ _ are.x are.y are.z))
    also (λ width enough words are met. value (ior_itself _ _ are.x))
    also (λ width enough words are met. rw (word_zero (width_bits width)) (value (ior_zero _ _ are.x)))
    also (λ width enough words are met. value (ixor_commutes _ _ _))
    also (λ width enough words are met. value (ixor_associates _ _ _ _ are.x are.y are.z))
    also (λ width enough words are met. rw (word_zero (width_bits width)) (value (ixor_itself _ _ are.x)))
    also (λ width enough words are met. rw (word_zero (width_bits width)) (value (ixor_zero _ _ are.x)))
    also (λ width enough words are met. rw (word_ones (width_bits width)) (value (inot_is_ixor _ _ are.x)))
    also (λ width enough words are met. value (inot_iand _ _ _ are.x are.y))
    also (λ width enough words are met. value (iand_distributes _ _ _ _ are.x are.y are.z))
    also (λ width enough words are met. rw (word_zero (width_bits width)) (value (iand_inot _ _ are.x)))
    also (λ width enough words are met. rw (word_zero (width_bits width), word_one (width_bits width) (least_one enough)) (value (irem_one _ _ (least_two enough))))
    also (λ width enough words are met. rw (word_one 1 (lit≤ tt)) (value (ieq_itself _ _)))
    also (λ width enough words are met. value (ieq_commutes _ _ _))
    also (λ width enough words are met. value (ine_is_inot _ _ _))
    also (λ width enough words are met. value (ige_is_inot _ _ _))
    also (λ width enough words are met. value (uge_is_inot _ _ _))
    also (λ width enough words are met. rw (word_zero 1) (value (ilt_itself _ _)))
    also (λ width enough words are met. rw (word_zero 1) (value (ult_itself _ _)))
    also (λ width enough words are met. rw (word_zero (width_bits width)) (value (ieq_isub _ _ _ are.x are.y)))
    also (λ width enough words are met. rw (word_zero (width_bits width), word_zero 1) (value (ult_zero _ _)))
    also (λ width enough words are met. rw (word_zero (width_bits width), word_one (width_bits width) (least_one enough)) (value (ult_one _ _)))
    also (λ width enough words are met. rw (word_one 1 (lit≤ tt)) (value (bcsel_true _ _ _ are.x)))
    also (λ width enough words are met. rw (word_zero 1) (value (bcsel_false _ _ _ are.y)))
    also (λ width enough words are met. value (bcsel_same _ _ _ are.b are.x))
    also (λ width enough words are met. value (bcsel_inot _ _ _ _ are.b))
    also (λ width enough words are met. value (imin_is_bcsel _ _ _ (least_one enough) are.x are.y))
    also (λ width enough words are met. value (imax_is_bcsel _ _ _ (least_one enough) are.x are.y))
    also (λ width enough words are met. value (umin_is_bcsel _ _ _ are.x are.y))
    also (λ width enough words are met. value (umax_is_bcsel _ _ _ are.x are.y))
    also (λ width enough words are met. value (udiv_power_met _ _ _ (size_small width) met))
    also (λ width enough words are met. value (umod_power_met _ _ _ (size_small width) met))
    also (λ width enough words are met. rw (word_zero 32) (value (ishl_zero _ _ are.x)))
    also (λ width enough words are met. rw (word_zero 32) (value (ushr_zero _ _ are.x)))
    also tt
