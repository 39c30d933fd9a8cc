-- A commutative opcode makes the same of its first two sources where they change places, and asks for one size of both.
use Rattle.std.specs.Prelude.{◌≡◌, refl, ◌+◌, ◌-◌, ◌/◌, ◌^◌, min, ℕ, pos, Bool, true, false, not, ◌||◌, ◌==◌, nat_le, ℤ, List, [], ◌∷◌, map, Option, Some, None, slice_index}
use Rattle.std.proofs.Common.{sym, ◌∙◌, ap, subst, arith}
use Rattle.std.proofs.Math.Nat.{add_comm, mul_comm, min_comm, max_comm}
use Rattle.std.proofs.Math.IntN.{+ℤ_comm, *ℤ_comm, ◌+ℤ◌}
use Rattle.std.proofs.lemmas.Nat.{and_comm, or_comm, xor_comm}
use Rattle.std.proofs.lemmas.Int.{ints, clamps}
use Rattle.std.proofs.lemmas.Bool.{and_parts, false≢true, eqb-true, eq-eqb}
use Rattle.std.specs.Int.{int_min, int_max, saturate_to_bits}
use Rattle.std.specs.Cmp.Lexicographic.{pointwise}
use Rattle.nir_ops.specs.declared.op.Op.{Op}
use Rattle.nir_ops.specs.declared.op.Op.TheVariants.{Vec2, Iadd, Imul, Iand, Ior, Ixor, Ieq, Ine, Imin, Imax, Umin, Umax, UaddCarry, IaddSat, UaddSat, Uhadd, Ihadd, Urhadd, Irhadd, ImulHigh, UmulHigh, Imul2x32_64, Umul2x32_64, BallIequal2, BallIequal3, BallIequal4, BanyInequal2, BanyInequal3, BanyInequal4}
use Rattle.nir_ops.specs.declared.width.Width.{Width}
use Rattle.nir_ops.specs.declared.row.OpInput.{OpInput}
use Rattle.nir_ops.specs.Opcodes.{op_info, row_of}
use Rattle.op_eval.specs.Calls.{same_width, size_at, sizes_fit, source_widths, unsized_width}
use Rattle.op_eval.specs.Sizes.{same_width-same}
use Rattle.op_eval.specs.Meaning.{meaning, op_mean}
use Rattle.op_eval.specs.Word.{signed, residue, truth, floor_div}
use Rattle.rule_term.specs.Variants.{is_commutative}

same_test : (a b : Bool) → (a ≡ true → b ≡ true) → (b ≡ true → a ≡ true) → a ≡ b
same_test true b there back = sym (there refl)
same_test false true there back = back refl
same_test false false there back = refl

eqb_comm : (x y : ℕ) → (x == y) ≡ (y == x)
eqb_comm x y = same_test (x == y) (y == x) (λ e. eq-eqb y x (sym (eqb-true x y e))) (λ e. eq-eqb x y (sym (eqb-true y x e)))

int_min_comm : (x y : ℤ) → int_min x y ≡ int_min y x
int_min_comm x y = omega (arith, ints, clamps)

int_max_comm : (x y : ℤ) → int_max x y ≡ int_max y x
int_max_comm x y = omega (arith, ints, clamps)

meaning_swapped : (op : Op) (w x y z : ℕ) → is_commutative op ≡ true → meaning op w x y z ≡ meaning op w y x z
unfolding meaning op_info row_of
meaning_swapped Iadd w x y z h = ap pos (add_comm x y)
meaning_swapped Imul w x y z h = ap pos (mul_comm x y)
meaning_swapped Iand w x y z h = ap pos (and_comm x y)
meaning_swapped Ior w x y z h = ap pos (or_comm x y)
meaning_swapped Ixor w x y z h = ap pos (xor_comm x y)
meaning_swapped Ieq w x y z h = ap truth (eqb_comm x y)
meaning_swapped Ine w x y z h = ap (λ b. truth (not b)) (eqb_comm x y)
meaning_swapped Imin w x y z h = int_min_comm (signed w x) (signed w y)
meaning_swapped Imax w x y z h = int_max_comm (signed w x) (signed w y)
meaning_swapped Umin w x y z h = ap pos (min_comm x y)
meaning_swapped Umax w x y z h = ap pos (max_comm x y)
meaning_swapped UaddCarry w x y z h = ap (λ n. truth (nat_le (2 ^ w) n)) (add_comm x y)
meaning_swapped IaddSat w x y z h = ap (saturate_to_bits (w - 1)) (+ℤ_comm (signed w x) (signed w y))
meaning_swapped UaddSat w x y z h = ap (λ n. pos (min n (2 ^ w - 1))) (add_comm x y)
meaning_swapped Uhadd w x y z h = ap (λ n. pos (n / 2)) (add_comm x y)
meaning_swapped Ihadd w x y z h = ap (λ n. floor_div n (pos 2)) (+ℤ_comm (signed w x) (signed w y))
meaning_swapped Urhadd w x y z h = ap (λ n. pos ((n + 1) / 2)) (add_comm x y)
meaning_swapped Irhadd w x y z h = ap (λ n. floor_div (n +ℤ pos 1) (pos 2)) (+ℤ_comm (signed w x) (signed w y))
meaning_swapped ImulHigh w x y z h = ap (λ n. floor_div n (pos (2 ^ w))) (*ℤ_comm (signed w x) (signed w y))
meaning_swapped UmulHigh w x y z h = ap (λ n. pos (n / 2 ^ w)) (mul_comm x y)
meaning_swapped Imul2x32_64 w x y z h = *ℤ_comm (signed 32 x) (signed 32 y)
meaning_swapped Umul2x32_64 w x y z h = ap pos (mul_comm x y)
meaning_swapped BallIequal2 w x y z h = refl
meaning_swapped BallIequal3 w x y z h = refl
meaning_swapped BallIequal4 w x y z h = refl
meaning_swapped BanyInequal2 w x y z h = refl
meaning_swapped BanyInequal3 w x y z h = refl
meaning_swapped BanyInequal4 w x y z h = refl
meaning_swapped op w x y z h = absurd (false≢true h)

-- the first two change places
pub op_mean_swapped : (op : Op) (w d a b : ℕ) (rest : List ℕ) → is_commutative op ≡ true → op_mean op w d (b ∷ a ∷ rest) ≡ op_mean op w d (a ∷ b ∷ rest)
unfolding op_mean
op_mean_swapped op w d a b rest h = ap (residue d) (meaning_swapped op w b a (slice_index rest 0) h)

-- two sizes that an opcode asks for are one
abbrev same_size : Option Width → Option Width → Bool
same_size None None = true
same_size (Some a) (Some b) = same_width a b
same_size a b = false

abbrev first_two_alike : List OpInput → Bool
first_two_alike (a ∷ b ∷ rest) = same_size a.kind.size b.kind.size
first_two_alike inputs = false

-- the first case splits, and the second is tried at each opcode that is left
alike_inputs : (op : Op) → (not (is_commutative op) || first_two_alike (op_info op).inputs) ≡ true
unfolding op_info row_of
alike_inputs Vec2 = refl
alike_inputs op = refl

same_size-at : (a b : Option Width) (width : Width) → same_size a b ≡ true → size_at a width ≡ size_at b width
same_size-at None None width h = refl
same_size-at None (Some b) width h = absurd (false≢true h)
same_size-at (Some a) None width h = absurd (false≢true h)
same_size-at (Some a) (Some b) width h = same_width-same a b h

two_alike : (inputs : List OpInput) (width x y : Width) (rest : List Width) → first_two_alike inputs ≡ true → pointwise same_width (map (λ input. size_at input.kind.size width) inputs) (x ∷ y ∷ rest) ≡ true → x ≡ y
two_alike [] width x y rest alike fit = absurd (false≢true alike)
two_alike (a ∷ []) width x y rest alike fit = absurd (false≢true alike)
two_alike (a ∷ b ∷ inputs) width x y rest alike fit =
    let one = and_parts (same_width (size_at a.kind.size width) x) (pointwise same_width (map (λ input. size_at input.kind.size width) (b ∷ inputs)) (y ∷ rest)) fit in
    let two = and_parts (same_width (size_at b.kind.size width) y) (pointwise same_width (map (λ input. size_at input.kind.size width) inputs) rest) one.1 in
    sym (same_width-same (size_at a.kind.size width) x one.0) ∙ same_size-at a.kind.size b.kind.size width alike ∙ same_width-same (size_at b.kind.size width) y two.0

-- where the sizes of its sources fit, the first two are one
pub same_sizes : (op : Op) (dst x y : Width) (rest : List Width) → is_commutative op ≡ true → sizes_fit op dst (x ∷ y ∷ rest) ≡ true → x ≡ y
unfolding sizes_fit source_widths
same_sizes op dst x y rest commutative fit =
    let alike : first_two_alike (op_info op).inputs ≡ true = subst (λ b. (not b || first_two_alike (op_info op).inputs) ≡ true) commutative (alike_inputs op) in
    two_alike (op_info op).inputs (unsized_width op dst (x ∷ y ∷ rest)) x y rest alike (and_parts _ _ fit).1
