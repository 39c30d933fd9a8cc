-- The laws of spelling: the reader of shader texts reads what the grammar spells, under names that resolve and within the limits, and nothing else.
use Rattle.std.specs.Prelude.{◌≡◌, ℕ, List, Ok}
use Rattle.nir_ir.specs.Shader.{Shader}
use Rattle.nir_text.specs.Naming.{Naming, naming_of}
use Rattle.nir_text.specs.Signs.{Sign}
use Rattle.nir_text.specs.Tree.{read_signs, Reads}
use Rattle.nir_spelling.specs.Lexemes.{lexemes_of}
use Rattle.nir_spelling.specs.Resolving.{IsSpelled, Denotes}

-- a text that is read as a shader spells it
abbrev pub ReadIsSpelled : Type 0
ReadIsSpelled = (text : List ℕ) (shader : Shader) → Reads text shader → Denotes text shader

-- a text that spells a shader is read as it
abbrev pub SpelledIsRead : Type 0
SpelledIsRead = (text : List ℕ) (shader : Shader) → Denotes text shader → Reads text shader

-- so are the tokens themselves, wherever they stand
abbrev pub SpelledSignsAreRead : Type 0
SpelledSignsAreRead = (names : Naming) (shader : Shader) (signs : List Sign) → IsSpelled names shader (lexemes_of signs) → read_signs signs ≡ Ok shader

-- the names that are found in a spelled text are those under which it is spelled
abbrev pub NamesAreFound : Type 0
NamesAreFound = (names : Naming) (shader : Shader) (signs : List Sign) → IsSpelled names shader (lexemes_of signs) → naming_of signs ≡ names
