-- What the equations of a point say of single values: of what an opcode writes, and of a const.
use Rattle.std.specs.Prelude.{◌≡◌, ℕ, List, map, Some}
use Rattle.std.specs.List.{AllByRecursion}
use Rattle.std.specs.Option.{option_and_then}
use Rattle.std.proofs.Common.{ap}
use Rattle.nir_ops.specs.declared.op.Op.{Op}
use Rattle.nir_ir.specs.declared.ids.ValueId.{ValueId}
use Rattle.nir_ir.specs.declared.instr.Instr.TheVariants.{Alu, Const}
use Rattle.nir_ir.specs.declared.instr.Src.{Src}
use Rattle.nir_ir.specs.declared.kind.Kind.{Kind}
use Rattle.nir_ir.specs.Definitions.{Kinds, instr_defining}
use Rattle.nir_ir.specs.Nodes.{Nodes}
use Rattle.nir_validate.specs.Edges.{Set}
use Rattle.walk_laws.specs.SetsLaws.{IsIn}
use Rattle.nir_mean.specs.State.{State}
use Rattle.nir_mean.specs.Values.{alu_mean}
use Rattle.run_laws.specs.Good.{TellsInstrs}
use Rattle.run_laws.specs.Known.{Known}
use Rattle.run_laws.specs.Makings.{Closed, Makings, making_of, makings_of}

pub makings_tell : (kinds : Kinds) (body : Nodes) → TellsInstrs kinds (makings_of kinds body) body
makings_tell kinds body id instr found = ap (option_and_then (making_of kinds)) found

module _ (kinds : Kinds) (makings : Makings) (body : Nodes) (tells : TellsInstrs kinds makings body) where
  -- a value that an opcode writes has what the opcode makes of its sources as they are now
  pub alu_value : (set : Set) (state : State) → Known kinds makings set state → (id : ValueId) (op : Op) (kind : Kind) (srcs : List Src) → IsIn set id → instr_defining id body ≡ Some (Alu id op kind srcs)
      → state.values id.0 ≡ alu_mean kinds op kind srcs state.values
  alu_value set state known id op kind srcs inside found = known.equations id _ inside (tells id (Alu id op kind srcs) found)

  -- and its sources are defined there too
  pub alu_sources : (set : Set) → Closed makings set → (id : ValueId) (op : Op) (kind : Kind) (srcs : List Src) → IsIn set id → instr_defining id body ≡ Some (Alu id op kind srcs)
      → AllByRecursion (IsIn set) (map (λ src. src.value) srcs)
  alu_sources set closed id op kind srcs inside found = closed id _ inside (tells id (Alu id op kind srcs) found)

  -- a const has its components
  pub const_value : (set : Set) (state : State) → Known kinds makings set state → (id : ValueId) (kind : Kind) (comps : List ℕ) → IsIn set id → instr_defining id body ≡ Some (Const id kind comps)
      → state.values id.0 ≡ comps
  const_value set state known id kind comps inside found = known.equations id _ inside (tells id (Const id kind comps) found)
