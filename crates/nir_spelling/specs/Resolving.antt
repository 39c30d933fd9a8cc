-- How the names of a text resolve: what a text defines is numbered in text order, and called by the names of the naming in their order; and the limits within which a text is read.
use Rattle.std.specs.Prelude.{◌≡◌, ℕ, suc, ◌≤◌, max, List, map, length, Ok}
use Rattle.std.specs.List.{IsDistinct, range_with_len}
use Rattle.std.specs.Str.{bytes_eq}
use Rattle.nir_lex.specs.declared.token.Token.{Token}
use Rattle.nir_lex.specs.Reading.{read_tokens}
use Rattle.nir_ir.specs.Nodes.{Nodes, Nil, BlockThen, IfThen, LoopThen}
use Rattle.nir_ir.specs.Items.{values_defined, blocks_defined, effects_defined, ifs_defined, loops_defined}
use Rattle.nir_ir.specs.Definitions.{kinds_defined}
use Rattle.nir_ir.specs.Shader.{Shader}
use Rattle.nir_text.specs.Naming.{Naming}
use Rattle.nir_text.specs.Signs.{signs_of}
use Rattle.nir_spelling.specs.Lexemes.{Lexeme, lexemes_of}
use Rattle.nir_spelling.specs.Spelling.{Spells}

-- the numbers from 0 on
abbrev pub AreInOrder : List ℕ → Type 0
AreInOrder numbers = numbers ≡ range_with_len 0 (length numbers)

pub record Resolves (names : Naming) (shader : Shader) : Type 0 where
  -- the number of each thing that is defined is that of the things of its sort before it
  pub values : AreInOrder (values_defined shader.body)
  pub blocks : AreInOrder (blocks_defined shader.body)
  pub effects : AreInOrder (effects_defined shader.body)
  pub ifs : AreInOrder (ifs_defined shader.body)
  pub loops : AreInOrder (loops_defined shader.body)
  pub next_value : shader.next_value ≡ length (values_defined shader.body)
  -- each value has a name, each block a word, and no two have the same
  pub value_names : length names.values ≡ length (values_defined shader.body)
  pub block_words : length names.blocks ≡ length (blocks_defined shader.body)
  pub distinct_names : IsDistinct bytes_eq names.values
  pub distinct_words : IsDistinct bytes_eq names.blocks
  -- how many components each value has is told by its definition
  pub counts : names.counts ≡ map (λ kind. kind.count) (kinds_defined shader.body)

-- how many lists stand inside one another at most, the outermost among them
abbrev pub depth : Nodes → ℕ
depth Nil = 1
depth (BlockThen block rest) = depth rest
depth (IfThen id cond first second rest) = max (suc (max (depth first) (depth second))) (depth rest)
depth (LoopThen id body rest) = max (suc (depth body)) (depth rest)

pub record IsWithinLimits (shader : Shader) : Type 0 where
  pub values : length (values_defined shader.body) ≤ 16384
  pub inputs : length shader.inputs ≤ 64
  pub outputs : length shader.outputs ≤ 64
  pub buffers : shader.buffers ≤ 16
  pub depth : depth shader.body ≤ 64

-- lexemes that spell the shader under a naming by which their names resolve, within the limits
pub record IsSpelled (names : Naming) (shader : Shader) (lexemes : List Lexeme) : Type 0 where
  pub spelled : Spells names shader lexemes
  pub resolves : Resolves names shader
  pub within : IsWithinLimits shader

-- the tokens of the text spell the shader
abbrev pub Denotes : List ℕ → Shader → Type 0
Denotes text shader = (tokens : List Token) × (names : Naming) × (read_tokens text ≡ Ok tokens) × IsSpelled names shader (lexemes_of (signs_of text tokens))
