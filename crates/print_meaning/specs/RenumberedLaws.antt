-- That a shader in text order is the shader: it is shaped and valid where the shader is, and means the same.
use Rattle.nir_ir.specs.Shaped.{IsShaped}
use Rattle.nir_ir.specs.Shader.{Shader}
use Rattle.nir_mean.specs.Same.{Same}
use Rattle.nir_print.specs.Renumber.{renumber}
use Rattle.nir_validate.specs.Valid.{Valid}

-- Numbering a shader in text order keeps it shaped.
abbrev pub RenumberedIsShaped : Type 0
RenumberedIsShaped = (s : Shader) → IsShaped s → IsShaped (renumber s)

-- It keeps a shader valid.
abbrev pub RenumberedIsValid : Type 0
RenumberedIsValid = (s : Shader) → IsShaped s → Valid s → Valid (renumber s)

-- It keeps what a shader means.
abbrev pub RenumberedIsSame : Type 0
RenumberedIsSame = (s : Shader) → IsShaped s → Same s (renumber s)
