-- What the code of this crate holds, as the definitions see it.
use Rattle.std.specs.Prelude.{ℕ, Bool, List, [], map, nat_eq, Option, Some, None, if◌then◌else◌}
use Rattle.nir_ops.specs.declared.width.Width.{Width}
use Rattle.nir_ops.specs.Opcodes.{op_info}
use Rattle.nir_ops.specs.Width.{width_bits}
use Rattle.op_eval.specs.Calls.{source_widths}
use Rattle.op_eval.specs.Word.{residue}
use Rattle.law_derive.specs.declared.law.Law as code
use Rattle.law_derive.specs.declared.law.LawNode.{LawNode}
use Rattle.law_derive.specs.declared.law.LawNode.TheVariants.{App, Letter, Lit}
use Rattle.law_derive.specs.declared.node.Kind.TheVariants as kind
use Rattle.law_derive.specs.declared.node.Node.{Node}
use Rattle.law_derive.specs.declared.matching.Filled as code_filled
use Rattle.law_derive.specs.LawTable.{Law, unsized_in}
use Rattle.law_derive.specs.Matching.{Filling}

-- the number of a letter by its byte: x, y, z, b and c in this order, and no letter's for another byte
abbrev pub letter_number : ℕ → ℕ
letter_number byte =
    if nat_eq byte 120 then 0
    else (if nat_eq byte 121 then 1
    else (if nat_eq byte 122 then 2
    else (if nat_eq byte 98 then 3
    else (if nat_eq byte 99 then 4 else 5))))

-- the table holds letters by their bytes, and the definitions by their numbers
abbrev pub part_says : LawNode → LawNode
part_says (App op) = App op
part_says (Letter byte) = Letter (letter_number byte)
part_says (Lit value boolean) = Lit value boolean

abbrev pub side_says : List LawNode → List LawNode
side_says side = map part_says side

abbrev pub law_says : code.Law → Law
law_says law = record { left = side_says law.left.now; right = side_says law.right.now; bit = law.bit; cond = law.cond }

-- the node of a part of a side, at its size
abbrev pub node_at : LawNode → Width → Node
node_at (App op) size = record { kind = kind.App op; width = size }
node_at (Letter byte) size = record { kind = kind.Var (letter_number byte); width = size }
node_at (Lit value boolean) size = record { kind = kind.Lit (residue (width_bits size) value); width = size }

-- the sizes of the sources of a part, where the law has one size and the part another
abbrev pub sources_at : Width → LawNode → Width → List Width
sources_at width (App op) size = source_widths op (unsized_in width (op_info op).out.size size)
sources_at width (Letter letter) size = []
sources_at width (Lit value boolean) size = []

-- ---- fillings

abbrev pub filling_says : List code_filled.Filled → Filling
filling_says list = map (λ one. (one.letter, one.term.now)) list

-- a filling, where the answer is yes
abbrev pub answer_of : Bool → Filling → Option Filling
answer_of is filling = if is then Some filling else None

-- what stands behind is matched next, where something matched
abbrev pub goes_on : Option (List Node) → (List Node → Filling → Option Filling) → Filling → Option Filling
goes_on None others filling = None
goes_on (Some behind) others filling = others behind filling
