-- That the canonical text of a shader is read again as the shader in text order.
use Rattle.std.specs.Prelude.{Bool, true, nat_lt, ℕ, ◌^◌, ◌<◌, List, [], ◌∷◌, ◌++◌, map, length, Ok, ◌≡◌, codes, decimal}
use Rattle.std.specs.List.{flat_map, list_all, range_with_len}
use Rattle.nir_ir.specs.declared.instr.Instr.{Instr}
use Rattle.nir_ir.specs.declared.instr.Instr.TheVariants.{Alu, Const, Undef, Input, Output, LoadBuf, StoreBuf}
use Rattle.nir_ir.specs.Nodes.{Nodes}
use Rattle.nir_ir.specs.Items.{values_defined, blocks_defined}
use Rattle.nir_ir.specs.Definitions.{kinds_defined, instrs}
use Rattle.nir_ir.specs.Shader.{Shader}
use Rattle.nir_ir.specs.Shaped.{IsShaped}
use Rattle.nir_lex.specs.declared.token.Token.{Token}
use Rattle.nir_lex.specs.Reading.{read_tokens}
use Rattle.nir_text.specs.Naming.{Naming}
use Rattle.nir_text.specs.Signs.{signs_of}
use Rattle.nir_text.specs.Tree.{Reads}
use Rattle.nir_spelling.specs.Lexemes.{lexemes_of}
use Rattle.nir_spelling.specs.Spelling.{Spells}
use Rattle.nir_spelling.specs.Resolving.{Resolves, IsWithinLimits}
use Rattle.nir_print.specs.Renumber.{renumber}
use Rattle.nir_print.specs.Text.{text_of}

-- the slot of an input or output, and the buffer of a load or store
abbrev pub addresses_of : Instr → List ℕ
addresses_of (Alu value op kind srcs) = []
addresses_of (Const value kind comps) = []
addresses_of (Undef value kind) = []
addresses_of (Input value kind slot) = slot ∷ []
addresses_of (Output effect slot src) = slot ∷ []
addresses_of (LoadBuf value kind buffer offset) = buffer ∷ []
addresses_of (StoreBuf effect buffer offset src) = buffer ∷ []

-- all slots and buffers of a body
abbrev pub addresses : Nodes → List ℕ
addresses body = flat_map addresses_of (instrs body)

-- each is a number of 32 bits
abbrev pub are_words : List ℕ → Bool
are_words numbers = list_all (λ n. nat_lt n (2 ^ 32)) numbers

-- the numbers of a shader are those of a machine: slots and buffers have 32 bits, and values and blocks are counted by 64
pub record HasMachineNumbers (shader : Shader) : Type 0 where
  pub addresses : are_words (addresses shader.body) ≡ true
  pub buffers : shader.buffers < 2 ^ 32
  pub values : length (values_defined shader.body) < 2 ^ 64
  pub blocks : length (blocks_defined shader.body) < 2 ^ 64

-- the names %0, %1, .. and the words b0, b1, ..
abbrev pub value_name : ℕ → List ℕ
value_name k = codes "%" ++ decimal k

abbrev pub block_word : ℕ → List ℕ
block_word k = codes "b" ++ decimal k

-- the names of a text that a body is printed as
abbrev pub printed_names : Nodes → Naming
printed_names body =
    record {
      values = map value_name (range_with_len 0 (length (values_defined body)));
      counts = map (λ kind. kind.count) (kinds_defined body);
      blocks = map block_word (range_with_len 0 (length (blocks_defined body)));
    }

-- the tokens of the text spell the shader under these names, which resolve so; it may be larger than what is read
pub record IsTextOf (text : List ℕ) (names : Naming) (shader : Shader) : Type 0 where
  pub tokens : List Token
  pub read : read_tokens text ≡ Ok tokens
  pub spelled : Spells names shader (lexemes_of (signs_of text tokens))
  pub resolves : Resolves names shader

-- The canonical text is in the grammar, and denotes the shader in text order.
abbrev pub TextDenotes : Type 0
TextDenotes = (shader : Shader) → IsShaped shader → HasMachineNumbers shader → IsTextOf (text_of shader) (printed_names shader.body) (renumber shader)

-- Reading the canonical text gives the shader in text order, where that is within the limits of texts.
abbrev pub ReadingGivesRenumbered : Type 0
ReadingGivesRenumbered = (shader : Shader) → IsShaped shader → HasMachineNumbers shader → IsWithinLimits (renumber shader) → Reads (text_of shader) (renumber shader)
