-- Bit sizes that are the same by their number of bits are equal, and sizes that fit an opcode are those of a call of it.
use Rattle.std.specs.Prelude.{◌≡◌, ◌&&◌, refl, true, List, [], ◌∷◌, replicate, ℕ, zero, suc}
use Rattle.std.proofs.Common.{◌∙◌, ap, subst}
use Rattle.std.proofs.lemmas.Bool.{and_parts, and_from, false≢true}
use Rattle.std.specs.List.{list_all}
use Rattle.std.specs.Cmp.Lexicographic.{pointwise}
use Rattle.nir_ops.specs.declared.op.Op.{Op}
use Rattle.nir_ops.specs.declared.width.Width.{Width}
use Rattle.nir_ops.specs.declared.width.Width.TheVariants.{W1, W8, W16, W32, W64}
use Rattle.op_eval.specs.Calls.{Fits, result_width, same_width, sizes_fit, source_widths, unsized_width}
use Rattle.nir_ops.specs.Opcodes.{op_allows}

pub same_width-refl : (a : Width) → same_width a a ≡ true
same_width-refl W1 = refl
same_width-refl W8 = refl
same_width-refl W16 = refl
same_width-refl W32 = refl
same_width-refl W64 = refl

pub same_width-same : (a b : Width) → same_width a b ≡ true → a ≡ b
same_width-same W1 W1 h = refl
same_width-same W8 W8 h = refl
same_width-same W16 W16 h = refl
same_width-same W32 W32 h = refl
same_width-same W64 W64 h = refl
same_width-same a b h = absurd (false≢true h)

pub same_widths-same : (xs ys : List Width) → pointwise same_width xs ys ≡ true → xs ≡ ys
same_widths-same [] [] h = refl
same_widths-same [] (y ∷ ys) h = absurd (false≢true h)
same_widths-same (x ∷ xs) [] h = absurd (false≢true h)
same_widths-same (x ∷ xs) (y ∷ ys) h =
    let parts = and_parts (same_width x y) (pointwise same_width xs ys) h in
    ap (λ z. z ∷ xs) (same_width-same x y parts.0) ∙ ap (λ t. y ∷ t) (same_widths-same xs ys parts.1)

pub same_widths-refl : (xs : List Width) → pointwise same_width xs xs ≡ true
same_widths-refl [] = refl
same_widths-refl (x ∷ xs) = and_from (same_width x x) (pointwise same_width xs xs) (same_width-refl x) (same_widths-refl xs)

-- one size, so often, is the same everywhere
pub same_width-replicate : (n : ℕ) (width : Width) → list_all (same_width width) (replicate n width) ≡ true
same_width-replicate zero width = refl
same_width-replicate (suc n) width = and_from (same_width width width) (list_all (same_width width) (replicate n width)) (same_width-refl width) (same_width-replicate n width)

pub Fits-from_sizes_fit : (op : Op) (dst : Width) (widths : List Width) → sizes_fit op dst widths ≡ true → Fits op dst widths
unfolding sizes_fit
Fits-from_sizes_fit op dst widths h =
    let outer = and_parts _ _ h in
    let inner = and_parts _ _ outer.0 in
    record { allowed = inner.0; result = same_width-same _ _ inner.1; sources = same_widths-same _ _ outer.1 }

pub same_width-from_equal : (a b : Width) → a ≡ b → same_width a b ≡ true
same_width-from_equal a b same = subst (λ w. same_width a w ≡ true) same (same_width-refl a)

-- and sizes that fit by the record pass the test
pub sizes_fit-from_Fits : (op : Op) (dst : Width) (widths : List Width) → Fits op dst widths → sizes_fit op dst widths ≡ true
unfolding sizes_fit
sizes_fit-from_Fits op dst widths fits =
    let free : Width = unsized_width op dst widths in
    and_from (op_allows op free && same_width (result_width op free) dst) (pointwise same_width (source_widths op free) widths)
    (and_from (op_allows op free) (same_width (result_width op free) dst) fits.allowed (same_width-from_equal (result_width op free) dst fits.result))
    (subst (λ list. pointwise same_width (source_widths op free) list ≡ true) fits.sources (same_widths-refl (source_widths op free)))
