-- The least sizes of terms whose roots and variables have given sizes (bit sizes in rules as in Mesa's nir_algebraic.py).
use Rattle.std.specs.Prelude.{ℕ, Bool, true, false, ◌&&◌, Option, Some, None, List, [], ◌∷◌, ◌++◌, slice_get, is_some, if◌then◌else◌}
use Rattle.std.specs.List.{find}
use Rattle.std.specs.Option.{option_and_then, unwrap_or}
use Rattle.std.proofs.Common.{drop, set}
use Rattle.nir_ops.specs.declared.op.Op.{Op}
use Rattle.nir_ops.specs.declared.width.Width.{Width}
use Rattle.nir_ops.specs.declared.width.Width.TheVariants.{W1, W8, W16, W32, W64}
use Rattle.nir_ops.specs.Opcodes.{op_allows}
use Rattle.op_eval.specs.Calls.{result_width, same_width, source_widths}
use Rattle.rule_term.specs.Terms.{Terms, Nil, VarThen, LitThen, AppThen}
use Rattle.rule_term.specs.Typings.{first_of, has_size, literal_fits, Occurrence}
use Rattle.rule_term.specs.declared.width_set.WidthSet.{WidthSet}

-- all sizes, in order
abbrev pub every_width : List Width
every_width = W1 ∷ W8 ∷ W16 ∷ W32 ∷ W64 ∷ []

-- the set of the sizes that pass a test, and whether a set has a size
abbrev pub set_of : (Width → Bool) → WidthSet
set_of test = record { w1 = test W1; w8 = test W8; w16 = test W16; w32 = test W32; w64 = test W64 }

abbrev pub set_has : WidthSet → Width → Bool
set_has set W1 = set.w1
set_has set W8 = set.w8
set_has set W16 = set.w16
set_has set W32 = set.w32
set_has set W64 = set.w64

-- whether terms can have roots of these sizes, where a test tells which sizes each variable can have
unfoldable pub can : (ℕ → Width → Bool) → Terms → List Width → Bool
can fit Nil roots = true
can fit (VarThen var constant size cond rest) roots = has_size size (first_of roots) && fit var (first_of roots) && can fit rest (drop 1 roots)
can fit (LitThen value boolean rest) roots = literal_fits value boolean (first_of roots) && can fit rest (drop 1 roots)
can fit (AppThen op size once args rest) roots =
    has_size size (first_of roots)
    && is_some (find (λ width. op_allows op width && can fit args (source_widths op width) && same_width (result_width op width) (first_of roots)) every_width)
    && can fit rest (drop 1 roots)

-- the least unsized size of an opcode over these sources whose result has this size
abbrev pub is_unsized_for : (ℕ → Width → Bool) → Op → Terms → Width → Width → Bool
is_unsized_for fit op args result width = op_allows op width && can fit args (source_widths op width) && same_width (result_width op width) result

abbrev pub unsized_for : (ℕ → Width → Bool) → Op → Terms → Width → Width
unsized_for fit op args result = unwrap_or (find (is_unsized_for fit op args result) every_width) W1

-- the least sizes of terms with roots of these sizes, in preorder
unfoldable pub least : (ℕ → Width → Bool) → Terms → List Width → List Width
least fit Nil roots = []
least fit (VarThen var constant size cond rest) roots = first_of roots ∷ least fit rest (drop 1 roots)
least fit (LitThen value boolean rest) roots = first_of roots ∷ least fit rest (drop 1 roots)
least fit (AppThen op size once args rest) roots =
    first_of roots ∷ least fit args (source_widths op (unsized_for fit op args (first_of roots))) ++ least fit rest (drop 1 roots)

-- the sizes of variables as far as they are known: a variable has the size with which it was noted
abbrev pub is_known : Option (Option Width) → Width → Bool
is_known None width = false
is_known (Some None) width = false
is_known (Some (Some known)) width = same_width known width

abbrev pub knows : List (Option Width) → ℕ → Width → Bool
knows known var width = is_known (slice_get known var) width

-- an occurrence of a variable is noted; None where there is no place for it, or it was noted with another size
abbrev pub noted_at : Option (Option Width) → ℕ → Width → List (Option Width) → Option (List (Option Width))
noted_at None var width known = None
noted_at (Some None) var width known = Some (set known var (Some width))
noted_at (Some (Some old)) var width known = if same_width old width then Some known else None

abbrev pub noted_one : ℕ → Width → List (Option Width) → Option (List (Option Width))
noted_one var width known = noted_at (slice_get known var) var width known

abbrev pub noted : List Occurrence → List (Option Width) → Option (List (Option Width))
noted [] known = Some known
noted (occurrence ∷ rest) known = option_and_then (noted rest) (noted_one occurrence.var occurrence.width known)
