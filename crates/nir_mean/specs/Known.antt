-- What is known of the values of a set: each has the components that the instruction which writes it makes of its sources, as many and as wide as its kind says, and its sources are in the set.
use Rattle.std.specs.Prelude.{◌≡◌, ◌<◌, ◌^◌, ℕ, true, List, Some, length, slice_index}
use Rattle.nir_ops.specs.declared.op.Op.{Op}
use Rattle.nir_ops.specs.Width.{width_bits}
use Rattle.nir_ir.specs.declared.ids.ValueId.{ValueId}
use Rattle.nir_ir.specs.declared.kind.Kind.{Kind}
use Rattle.nir_ir.specs.declared.instr.Instr.{Instr}
use Rattle.nir_ir.specs.declared.instr.Instr.TheVariants.{Alu, Const, Undef, Input, Output, LoadBuf, StoreBuf}
use Rattle.nir_ir.specs.declared.instr.Src.{Src}
use Rattle.nir_ir.specs.Definitions.{instr_defining, kind_at}
use Rattle.nir_ir.specs.Nodes.{Nodes}
use Rattle.nir_validate.specs.Edges.{Set}
use Rattle.nir_validate.specs.Kept.{IsRead}
use Rattle.nir_mean.specs.Values.{Values, alu_mean}

-- the value of what an opcode or a const writes
abbrev pub Equation : Nodes → Values → Instr → List ℕ → Type 0
Equation body values (Alu id op kind srcs) comps = comps ≡ alu_mean (kind_at body) op kind srcs values
Equation body values (Const id kind list) comps = comps ≡ list
Equation body values (Undef id kind) comps = Unit {0}
Equation body values (Input id kind slot) comps = Unit {0}
Equation body values (Output effect slot src) comps = Unit {0}
Equation body values (LoadBuf id kind buffer offset) comps = Unit {0}
Equation body values (StoreBuf effect buffer offset src) comps = Unit {0}

-- as many components as the kind says, each a word of its width
pub record HasKind (kind : Kind) (comps : List ℕ) : Type 0 where
  pub count : length comps ≡ kind.count
  pub words : (at : ℕ) → slice_index comps at < 2 ^ width_bits kind.width

pub record IsKnown (body : Nodes) (set : Set) (values : Values) : Type 0 where
  -- the equations
  pub equal : (value : ValueId) (instr : Instr) → set value.0 ≡ true → instr_defining value body ≡ Some instr → Equation body values instr (values value.0)
  -- counts and widths
  pub kinds : (value : ValueId) (kind : Kind) → set value.0 ≡ true → kind_at body value ≡ Some kind → HasKind kind (values value.0)
  -- the sources of what an opcode writes
  pub closed : (value source : ValueId) (op : Op) (kind : Kind) (srcs : List Src) → set value.0 ≡ true → instr_defining value body ≡ Some (Alu value op kind srcs) → IsRead (Alu value op kind srcs) source → set source.0 ≡ true
