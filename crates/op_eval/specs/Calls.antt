-- Calls of an opcode: the bit sizes that fit it, and how many bits each source and the result have.
use Rattle.std.specs.Prelude.{ℕ, ◌≡◌, ◌==◌, ◌&&◌, List, [], ◌∷◌, Option, Some, None, Bool, true, map, nat_eq}
use Rattle.std.specs.Cmp.Lexicographic.{pointwise}
use Rattle.std.specs.List.{list_all}
use Rattle.nir_ops.specs.declared.op.Op.{Op}
use Rattle.nir_ops.specs.declared.width.Width.{Width}
use Rattle.nir_ops.specs.Width.{width_bits}
use Rattle.nir_ops.specs.Opcodes.{op_info, op_allows}

-- whether the opcode works component by component in all its places
unfoldable pub per_component : Op → Bool
per_component op = (op_info op).out_count == 0 && list_all (λ input. input.count == 0) (op_info op).inputs

-- the bit size of a source or result of this size, where the unsized ones have another
abbrev pub size_at : Option Width → Width → Width
size_at None width = width
size_at (Some size) width = size

-- the unsized bit size: that of the result where it is unsized, else that of the first source
abbrev pub unsized_of : Option Width → Width → List Width → Width
unsized_of None dst widths = dst
unsized_of (Some size) dst [] = dst
unsized_of (Some size) dst (first ∷ rest) = first

unfoldable pub unsized_width : Op → Width → List Width → Width
unsized_width op dst widths = unsized_of (op_info op).out.size dst widths

-- the bit sizes of the sources at an unsized bit size
unfoldable pub source_widths : Op → Width → List Width
source_widths op width = map (λ input. size_at input.kind.size width) (op_info op).inputs

-- the bit size of the result
unfoldable pub result_width : Op → Width → Width
result_width op width = size_at (op_info op).out.size width

-- a result and sources of these bit sizes fit the opcode
pub record Fits (op : Op) (dst : Width) (widths : List Width) : Type 0 where
  pub allowed : op_allows op (unsized_width op dst widths) ≡ true
  pub result : result_width op (unsized_width op dst widths) ≡ dst
  pub sources : source_widths op (unsized_width op dst widths) ≡ widths

-- bit sizes are the same where they have as many bits
abbrev pub same_width : Width → Width → Bool
same_width a b = nat_eq (width_bits a) (width_bits b)

-- the test for that
unfoldable pub sizes_fit : Op → Width → List Width → Bool
sizes_fit op dst widths =
    op_allows op (unsized_width op dst widths)
    && same_width (result_width op (unsized_width op dst widths)) dst
    && pointwise same_width (source_widths op (unsized_width op dst widths)) widths

-- how many bits a source has, and 0 where there is none
abbrev pub bits_of : Option Width → ℕ
bits_of None = 0
bits_of (Some width) = width_bits width
