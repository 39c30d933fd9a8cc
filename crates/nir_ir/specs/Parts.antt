-- The parts of an instruction, one record for each sort: what it defines and does, and what it is made of. All but running, printing and reading it stands on them.
use Rattle.std.specs.Prelude.{ℕ, List, [], ◌∷◌, map, Option, Some, None}
use Rattle.nir_ops.specs.declared.op.Op.{Op}
use Rattle.nir_ir.specs.declared.ids.EffectId.{EffectId}
use Rattle.nir_ir.specs.declared.ids.ValueId.{ValueId}
use Rattle.nir_ir.specs.declared.instr.Instr.{Instr}
use Rattle.nir_ir.specs.declared.instr.Instr.TheVariants.{Alu, Const, Undef, Input, Output, LoadBuf, StoreBuf}
use Rattle.nir_ir.specs.declared.instr.Src.{Src}
use Rattle.nir_ir.specs.declared.kind.Kind.{Kind}

-- a place in a buffer, of which a value tells the offset
pub record Address : Type 0 where
  pub buffer : ℕ
  pub offset : ValueId

pub record Parts : Type 0 where
  -- the value that it defines, and its kind
  pub defines : Option (ValueId × Kind)
  -- the output or store that it is
  pub effect : Option EffectId
  -- the values that it uses, source by source
  pub reads : List ValueId
  -- its opcode, and the sources with their swizzles
  pub alu : Option (Op × List Src)
  -- the components that it writes down
  pub comps : Option (List ℕ)
  -- where it loads or stores
  pub address : Option Address

abbrev pub parts : Instr → Parts
parts (Alu value op kind srcs) =
    record { defines = Some (value, kind); effect = None; reads = map (λ src. src.value) srcs; alu = Some (op, srcs); comps = None; address = None }
parts (Const value kind comps) =
    record { defines = Some (value, kind); effect = None; reads = []; alu = None; comps = Some comps; address = None }
parts (Undef value kind) =
    record { defines = Some (value, kind); effect = None; reads = []; alu = None; comps = None; address = None }
parts (Input value kind slot) =
    record { defines = Some (value, kind); effect = None; reads = []; alu = None; comps = None; address = None }
parts (Output effect slot src) =
    record { defines = None; effect = Some effect; reads = src ∷ []; alu = None; comps = None; address = None }
parts (LoadBuf value kind buffer offset) =
    record { defines = Some (value, kind); effect = None; reads = offset ∷ []; alu = None; comps = None; address = Some (record { buffer = buffer; offset = offset }) }
parts (StoreBuf effect buffer offset src) =
    record { defines = None; effect = Some effect; reads = offset ∷ src ∷ []; alu = None; comps = None; address = Some (record { buffer = buffer; offset = offset }) }
