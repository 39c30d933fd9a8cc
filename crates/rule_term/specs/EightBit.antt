-- Rules that stand at 8 bits alone: no opcode has a size of its own, and a variable asks for 8 bits.
use Rattle.op_eval.specs.Calls.{same_width}
use Rattle.std.specs.Prelude.{◌+◌, Bool, true, false, not, ◌&&◌, Option, Some, None, List, replicate, is_none}
use Rattle.std.specs.List.{list_all, list_any}
use Rattle.nir_ops.specs.declared.op.Op.{Op}
use Rattle.nir_ops.specs.declared.width.Width.{Width}
use Rattle.nir_ops.specs.declared.width.Width.TheVariants.{W8}
use Rattle.nir_ops.specs.Opcodes.{op_info, op_allows}
use Rattle.rule_term.specs.Pieces.{Piece, VarPiece, LitPiece, AppPiece, pieces}
use Rattle.rule_term.specs.Rule.{Rule}
use Rattle.rule_term.specs.Typings.{literal_fits, size_of}

-- all sources and the result have the unsized size, which may be 8
unfoldable pub is_unsized : Op → Bool
is_unsized op = op_allows op W8 && is_none (op_info op).out.size && list_all (λ input. is_none input.kind.size) (op_info op).inputs

-- no size but 8 is written
abbrev pub eight_or_none : Option Width → Bool
eight_or_none None = true
eight_or_none (Some width) = same_width width W8

abbrev pub is_eight : Option Width → Bool
is_eight None = false
is_eight (Some width) = same_width width W8

abbrev pub eight_piece : Piece → Bool
eight_piece (VarPiece var constant size cond) = eight_or_none size
eight_piece (LitPiece value boolean) = not boolean && literal_fits value false W8
eight_piece (AppPiece op size once sources) = is_unsized op && eight_or_none size

abbrev pub asks_eight : Piece → Bool
asks_eight (VarPiece var constant size cond) = is_eight size
asks_eight (LitPiece value boolean) = false
asks_eight (AppPiece op size once sources) = false

unfoldable pub is_eight_bit : Rule → Bool
is_eight_bit rule = list_all eight_piece (pieces rule.search) && list_all eight_piece (pieces rule.replace) && list_any asks_eight (pieces rule.search)

-- 8 bits for each node
abbrev pub all_eight : Rule → List Width
all_eight rule = replicate (size_of rule.search + size_of rule.replace) W8
