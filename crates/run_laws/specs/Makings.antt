-- Of what values are made: an equation for each value that an opcode or a const writes, as in global value numbering.
use Rattle.std.specs.Prelude.{◌≡◌, refl, ℕ, List, [], map, Option, Some, None}
use Rattle.std.specs.List.{AllByRecursion}
use Rattle.std.specs.Option.{option_and_then}
use Rattle.nir_ops.specs.declared.op.Op.{Op}
use Rattle.nir_ir.specs.declared.ids.ValueId.{ValueId}
use Rattle.nir_ir.specs.declared.instr.Instr.{Instr}
use Rattle.nir_ir.specs.declared.instr.Instr.TheVariants.{Alu, Const, Undef, Input, Output, LoadBuf, StoreBuf}
use Rattle.nir_ir.specs.declared.instr.Src.{Src}
use Rattle.nir_ir.specs.declared.kind.Kind.{Kind}
use Rattle.nir_ir.specs.Definitions.{Kinds, instr_defining}
use Rattle.nir_ir.specs.Nodes.{Nodes}
use Rattle.nir_validate.specs.Edges.{Set}
use Rattle.walk_laws.specs.SetsLaws.{IsIn}
use Rattle.nir_mean.specs.Reads.{alu_mean-same}
use Rattle.nir_mean.specs.Values.{Values, alu_mean}
use Rattle.run_laws.specs.KindsLaws.{all_get}

-- the values of which a value is made, and what is made of them: the same wherever these have the same components
pub record Making : Type 0 where
  pub reads : List ValueId
  pub made : Values → List ℕ
  pub local : (f g : Values) → AllByRecursion (λ id. f id.0 ≡ g id.0) reads → made f ≡ made g

-- an equation for each value that has one
abbrev pub Makings : Type 0
Makings = ValueId → Option Making

pub alu_local : (kinds : Kinds) (op : Op) (kind : Kind) (srcs : List Src) (f g : Values)
    → AllByRecursion (λ id. f id.0 ≡ g id.0) (map (λ src. src.value) srcs) → alu_mean kinds op kind srcs f ≡ alu_mean kinds op kind srcs g
alu_local kinds op kind srcs f g all =
    alu_mean-same kinds kinds op kind srcs f g (λ id at. all_get (λ v. f v.0 ≡ g v.0) (map (λ src. src.value) srcs) all id at.0 at.1) (λ _ _. refl)

-- what an opcode and a const make; what is loaded, given or undefined has no equation
abbrev pub making_of : Kinds → Instr → Option Making
making_of kinds (Alu id op kind srcs) = Some (record {
  reads = map (λ src. src.value) srcs;
  made = alu_mean kinds op kind srcs;
  local = alu_local kinds op kind srcs;
})
making_of kinds (Const id kind comps) = Some (record { reads = []; made = λ values. comps; local = λ f g all. refl })
making_of kinds (Undef id kind) = None
making_of kinds (Input id kind slot) = None
making_of kinds (Output effect slot src) = None
making_of kinds (LoadBuf id kind buffer offset) = None
making_of kinds (StoreBuf effect buffer offset src) = None

-- the equations of the instructions of a list of nodes
abbrev pub makings_of : Kinds → Nodes → Makings
makings_of kinds body id = option_and_then (making_of kinds) (instr_defining id body)

-- the values of which a value of the set is made are in the set
abbrev pub Closed : Makings → Set → Type 0
Closed makings set = (id : ValueId) (making : Making) → IsIn set id → makings id ≡ Some making → AllByRecursion (IsIn set) making.reads
