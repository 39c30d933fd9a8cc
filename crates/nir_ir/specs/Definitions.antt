-- What defines the values of a shader, as in static single assignment form: each value has one phi or one instruction.
use Rattle.std.specs.Prelude.{ℕ, List, [], ◌∷◌, Option, Bool, nat_eq, count_by}
use Rattle.std.specs.Option.{option_and_then, option_map, option_map_or, option_or, option_to_list}
use Rattle.std.specs.List.{flat_map, find, list_any}
use Rattle.nir_ops.specs.declared.op.Op.{Op}
use Rattle.nir_ops.specs.declared.width.Width.{Width}
use Rattle.nir_ops.specs.declared.width.Width.TheVariants.{W1}
use Rattle.nir_ir.specs.declared.ids.ValueId.{ValueId}
use Rattle.nir_ir.specs.declared.instr.Src.{Src}
use Rattle.nir_ir.specs.declared.instr.Instr.{Instr}
use Rattle.nir_ir.specs.declared.kind.Kind.{Kind}
use Rattle.nir_ir.specs.declared.node.Phi.{Phi}
use Rattle.nir_ir.specs.Parts.{parts}
use Rattle.nir_ir.specs.declared.node.PhiSource.{PhiSource}
use Rattle.nir_ir.specs.declared.ids.BlockId.{BlockId}
use Rattle.nir_ir.specs.Nodes.{Nodes}
use Rattle.nir_ir.specs.Items.{Item, BlockHead, PhiItem, InstrItem, JumpItem, IfHead, LoopHead, items, target}

-- the phi, and the instruction, that an item is
abbrev pub phi_of : Item → List Phi
phi_of (BlockHead id) = []
phi_of (PhiItem phi) = phi ∷ []
phi_of (InstrItem instr) = []
phi_of (JumpItem jump) = []
phi_of (IfHead id cond) = []
phi_of (LoopHead id) = []

abbrev pub instr_of : Item → List Instr
instr_of (BlockHead id) = []
instr_of (PhiItem phi) = []
instr_of (InstrItem instr) = instr ∷ []
instr_of (JumpItem jump) = []
instr_of (IfHead id cond) = []
instr_of (LoopHead id) = []

-- all phis, and all instructions, in text order
abbrev pub phis : Nodes → List Phi
phis nodes = flat_map phi_of (items nodes)

abbrev pub instrs : Nodes → List Instr
instrs nodes = flat_map instr_of (items nodes)

-- the phi, and the instruction, defines the value
abbrev pub is_phi_of : ValueId → Phi → Bool
is_phi_of value phi = nat_eq phi.value.0 value.0

abbrev pub is_target : ValueId → Instr → Bool
is_target value instr = list_any (λ id. nat_eq id.0 value.0) (option_to_list (target instr))

-- the first phi, and the first instruction, that defines the value
abbrev pub phi_defining : ValueId → Nodes → Option Phi
phi_defining value nodes = find (is_phi_of value) (phis nodes)

abbrev pub instr_defining : ValueId → Nodes → Option Instr
instr_defining value nodes = find (is_target value) (instrs nodes)

-- how many instructions define the value
abbrev pub definition_count : ValueId → Nodes → ℕ
definition_count value nodes = count_by (is_target value) (instrs nodes)

-- the kind of the value that an instruction defines
abbrev pub kind_of_target : Instr → Option Kind
kind_of_target instr = option_map (λ defined. defined.1) (parts instr).defines

abbrev pub kinds_of : Item → List Kind
kinds_of (BlockHead id) = []
kinds_of (PhiItem phi) = phi.kind ∷ []
kinds_of (InstrItem instr) = option_to_list (kind_of_target instr)
kinds_of (JumpItem jump) = []
kinds_of (IfHead id cond) = []
kinds_of (LoopHead id) = []

-- the kinds of the values that a list defines, place by place those of `values_defined`
abbrev pub kinds_defined : Nodes → List Kind
kinds_defined nodes = flat_map kinds_of (items nodes)

-- the opcode and the sources of the instruction that writes the value, where it is one with an opcode
abbrev pub alu_of : Instr → Option (Op × List Src)
alu_of instr = (parts instr).alu

-- the components of a const
abbrev pub const_of : Instr → Option (List ℕ)
const_of instr = (parts instr).comps

abbrev pub alu_at : Nodes → ValueId → Option (Op × List Src)
alu_at body value = option_and_then alu_of (instr_defining value body)

abbrev pub const_at : Nodes → ValueId → Option (List ℕ)
const_at body value = option_and_then const_of (instr_defining value body)

-- whether a phi's source is the one for the block that control comes from; none is the entry of the shader
abbrev pub is_from : Option BlockId → PhiSource → Bool
is_from from source = list_any (λ id. nat_eq id.0 source.from.0) (option_to_list from)

-- the kind of a value: that of the instruction or phi that defines it
abbrev pub kind_at : Nodes → ValueId → Option Kind
kind_at body value = option_or (option_and_then kind_of_target (instr_defining value body)) (option_map (λ phi. phi.kind) (phi_defining value body))

-- the kinds of values, where they are defined
abbrev pub Kinds : Type 0
Kinds = ValueId → Option Kind

abbrev pub width_in : Kinds → ValueId → Width
width_in kinds value = option_map_or (λ kind. kind.width) (kinds value) W1

abbrev pub width_at : Nodes → ValueId → Width
width_at body value = width_in (kind_at body) value
