-- The shader in work, as contracts see it, and the instructions that may take the place of one of its own.
use Rattle.std.specs.Coded.{Coded, code_by}
use Rattle.std.specs.Prelude.{refl, ℕ, ◌+◌, ◌-◌, ◌<◌, ◌^◌, List, length, IsSome}
use Rattle.nir_ir.specs.declared.ids.ValueId.{ValueId}
use Rattle.nir_ir.specs.declared.instr.Instr.{Instr}
use Rattle.nir_ir.specs.Definitions.{instr_defining}
use Rattle.nir_ir.specs.Edits.{ArePlaced, with_news}
use Rattle.nir_ir.specs.Shader.{Shader, shader_code}
use Rattle.nir_ir.specs.Shaped.{IsShaped}
use Rattle.nir_validate.specs.Valid.{Valid}
use Rattle.rule_term.specs.Rule.{Rule}

-- what is in work
pub record InWork : Type 0 where
  pub shader : Shader

-- a work is told by its shader
abbrev pub work_code : Coded InWork
work_code = code_by Shader shader_code (λ work. work.shader) (λ s. record { shader = s }) (λ work. refl)

-- what a work keeps by its type
pub record IsKept (work : InWork) : Type 0 where
  pub shaped : IsShaped work.shader
  pub valid : Valid work.shader

-- with which tables it is searched: with each, since a work keeps nothing of a table
abbrev pub Fits : InWork → List Rule → Type 0
Fits work table = Unit {0}

-- the next fresh number behind instructions of which the last one defines a number that is there
abbrev pub next_behind : Shader → List Instr → ℕ
next_behind s news = s.next_value + (length news - 1)

-- the shader with these instructions in the place of the one that defines the value
abbrev pub replaced_by : Shader → ValueId → List Instr → Shader
replaced_by s value news = with_news s value news (next_behind s news)

-- The instructions may take the place of the one that defines the value: the last of them defines it, those before it define fresh numbers in order,
-- and the shader is shaped and valid with them.
pub record MayReplace (s : Shader) (value : ValueId) (news : List Instr) : Type 0 where
  pub defined : IsSome (instr_defining value s.body)
  pub placed : ArePlaced s.next_value (next_behind s news) value news
  pub small : next_behind s news < 2 ^ 32
  pub shaped : IsShaped (replaced_by s value news)
  pub valid : Valid (replaced_by s value news)
