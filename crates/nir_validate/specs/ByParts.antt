-- What a valid shader is, part by part: nodes in order, jumps in loops, kinds that fit, and what is reached and defined along the walk.
use Rattle.std.specs.Prelude.{◌↔◌, false, [], ◌∷◌}
use Rattle.nir_ir.specs.Shader.{Shader}
use Rattle.nir_validate.specs.Alternates.{Alternates, JumpsIn}
use Rattle.nir_validate.specs.Each.{BlockDefines, ConditionDefined, Each, Lives}
use Rattle.nir_validate.specs.Typed.{NodesFit}
use Rattle.nir_validate.specs.Valid.{Valid}
use Rattle.nir_validate.specs.Walk.{entry}

-- all but the order of nodes
pub record IsWhole (s : Shader) : Type 0 where
  pub jumps : JumpsIn false s.body
  pub fits : NodesFit s s.body
  pub lives : Lives s.body (entry ∷ [])
  pub defines : Each BlockDefines ConditionDefined s.body (entry ∷ []) []

pub record IsValidByParts (s : Shader) : Type 0 where
  pub order : Alternates s.body
  pub whole : IsWhole s

abbrev pub ValidIsByParts : Type 0
ValidIsByParts = (s : Shader) → Valid s ↔ IsValidByParts s
