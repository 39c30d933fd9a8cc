-- The grammar of shader texts: which lexemes spell a shader under a naming (this project's own form of Mesa's NIR).
use Rattle.std.specs.Prelude.{◌≡◌, ℕ, suc, ◌+◌, ◌-◌, ◌^◌, ◌<◌, ◌⊎◌, List, ◌++◌, map, length, get_or, slice_get, ℤ, pos, negsuc, Option, Some, None, codes, decimal}
use Rattle.std.specs.List.{range_with_len}
use Rattle.nir_ops.specs.Opcodes.{name_of, op_info}
use Rattle.nir_ops.specs.Width.{width_bits}
use Rattle.nir_ir.specs.declared.ids.BlockId.{BlockId}
use Rattle.nir_ir.specs.declared.ids.ValueId.{ValueId}
use Rattle.nir_ir.specs.declared.instr.Instr.{Instr}
use Rattle.nir_ir.specs.declared.instr.Instr.TheVariants.{Alu, Const, Undef, Input, Output, LoadBuf, StoreBuf}
use Rattle.nir_ir.specs.declared.instr.Src.{Src}
use Rattle.nir_ir.specs.declared.kind.Kind.{Kind}
use Rattle.nir_ir.specs.declared.node.Block.{Block}
use Rattle.nir_ir.specs.declared.node.Jump.{Jump}
use Rattle.nir_ir.specs.declared.node.Jump.TheVariants.{Break, Continue}
use Rattle.nir_ir.specs.declared.node.Phi.{Phi}
use Rattle.nir_ir.specs.declared.node.PhiSource.{PhiSource}
use Rattle.nir_ir.specs.Nodes.{Nodes, Nil, BlockThen, IfThen, LoopThen}
use Rattle.nir_ir.specs.Shader.{Shader}
use Rattle.nir_ir.specs.Shaped.{IsCount, IsSwizzle}
use Rattle.nir_lex.specs.declared.token.TokenKind.TheVariants.{Word, Number, Name}
use Rattle.nir_text.specs.Naming.{Naming}
use Rattle.nir_spelling.specs.Lexemes.{Lexeme, Form, Part, ◌▹◌, Nothing, IsWord, IsMark, IsIndex, IsEnd, Each, Separated}

-- ---- kinds and numbers

-- w, the width, x, the count
abbrev pub kind_word : Kind → List ℕ
kind_word kind = codes "w" ++ decimal (width_bits kind.width) ++ codes "x" ++ decimal kind.count

abbrev pub IsKind : Kind → Form
IsKind kind lexeme = IsWord (kind_word kind) lexeme × IsCount kind.count

-- a number and the component of so many bits that it gives: one below 0 counts from 2^bits
abbrev pub Gives : ℕ → ℤ → ℕ → Type 0
Gives bits (pos n) component = (n ≡ component) × (n < 2 ^ bits)
Gives bits (negsuc n) component = (component + suc n ≡ 2 ^ bits) × (n < 2 ^ (bits - 1))

-- a number that gives the component, however it is written
abbrev pub IsComponent : Kind → ℕ → Form
IsComponent kind component lexeme = (number : ℤ) × (lexeme.kind ≡ Number number) × Gives (width_bits kind.width) number component

abbrev pub SpellsComponent : Kind → ℕ → Part
SpellsComponent kind component behind = IsComponent kind component ▹ behind

-- kinds in brackets
abbrev pub SpellsKinds : List Kind → Part
SpellsKinds kinds behind = IsMark 91 ▹ Separated (λ kind behind. IsKind kind ▹ behind) kinds (IsMark 93 ▹ behind)

-- x, y, z, w
abbrev pub swizzle_word : List ℕ → List ℕ
swizzle_word swizzle = map (λ component. get_or (codes "xyzw") component 0) swizzle

module _ (names : Naming) where
  -- ---- names

  -- the name of a value, where it is defined and where it is used
  abbrev pub IsValue : ValueId → Form
  IsValue value lexeme = (lexeme.kind ≡ Name) × (slice_get names.values value.0 ≡ Some lexeme.text)

  -- the word of a block, likewise
  abbrev pub IsBlock : BlockId → Form
  IsBlock block lexeme = (lexeme.kind ≡ Word) × (slice_get names.blocks block.0 ≡ Some lexeme.text)

  -- ---- instructions

  -- the source takes all components of its value in order
  abbrev pub TakesAll : Src → Type 0
  TakesAll src = (count : ℕ) × (slice_get names.counts src.value.0 ≡ Some count) × (src.swizzle ≡ range_with_len 0 count)

  -- a swizzle behind the name of a value, which may be left out where the source takes all components in order
  abbrev pub SpellsSwizzle : Src → Part
  SpellsSwizzle src behind lexemes = IsSwizzle src.swizzle × (IsMark 46 ▹ IsWord (swizzle_word src.swizzle) ▹ behind) lexemes ⊎ TakesAll src × behind lexemes

  abbrev pub SpellsSrc : Src → Part
  SpellsSrc src behind = IsValue src.value ▹ SpellsSwizzle src behind

  -- an opcode with as many sources as its table says, and a const with as many numbers as its kind
  abbrev pub SpellsInstr : Instr → Part
  SpellsInstr (Alu value op kind srcs) behind lexemes =
      (length srcs ≡ length (op_info op).inputs) × (IsValue value ▹ IsMark 61 ▹ IsWord (name_of op) ▹ IsKind kind ▹ Separated SpellsSrc srcs behind) lexemes
  SpellsInstr (Const value kind comps) behind lexemes =
      (length comps ≡ kind.count) × (IsValue value ▹ IsMark 61 ▹ IsWord (codes "const") ▹ IsKind kind ▹ IsMark 40 ▹ Separated (SpellsComponent kind) comps (IsMark 41 ▹ behind)) lexemes
  SpellsInstr (Undef value kind) behind lexemes = (IsValue value ▹ IsMark 61 ▹ IsWord (codes "undef") ▹ IsKind kind ▹ behind) lexemes
  SpellsInstr (Input value kind slot) behind lexemes = (IsValue value ▹ IsMark 61 ▹ IsWord (codes "input") ▹ IsKind kind ▹ IsMark 64 ▹ IsIndex slot ▹ behind) lexemes
  SpellsInstr (Output effect slot src) behind lexemes = (IsWord (codes "output") ▹ IsMark 64 ▹ IsIndex slot ▹ IsMark 44 ▹ IsValue src ▹ behind) lexemes
  SpellsInstr (LoadBuf value kind buffer offset) behind lexemes =
      (IsValue value ▹ IsMark 61 ▹ IsWord (codes "load") ▹ IsKind kind ▹ IsMark 64 ▹ IsIndex buffer ▹ IsMark 44 ▹ IsValue offset ▹ behind) lexemes
  SpellsInstr (StoreBuf effect buffer offset src) behind lexemes =
      (IsWord (codes "store") ▹ IsMark 64 ▹ IsIndex buffer ▹ IsMark 44 ▹ IsValue offset ▹ IsMark 44 ▹ IsValue src ▹ behind) lexemes

  -- ---- blocks

  abbrev pub SpellsPhiSource : PhiSource → Part
  SpellsPhiSource source behind = IsBlock source.from ▹ IsMark 58 ▹ IsValue source.value ▹ behind

  abbrev pub SpellsPhi : Phi → Part
  SpellsPhi phi behind = IsValue phi.value ▹ IsMark 61 ▹ IsWord (codes "phi") ▹ IsKind phi.kind ▹ IsMark 91 ▹ Separated SpellsPhiSource phi.sources (IsMark 93 ▹ behind)

  abbrev pub SpellsJump : Option Jump → Part
  SpellsJump None behind = behind
  SpellsJump (Some Break) behind = IsWord (codes "break") ▹ behind
  SpellsJump (Some Continue) behind = IsWord (codes "continue") ▹ behind

  abbrev pub SpellsBlock : Block → Part
  SpellsBlock block behind =
      IsWord (codes "block") ▹ IsBlock block.id ▹ IsMark 123 ▹ Each SpellsPhi block.phis (Each SpellsInstr block.instrs (SpellsJump block.jump (IsMark 125 ▹ behind)))

  -- ---- lists of nodes

  -- a list, without its braces
  abbrev pub SpellsNodes : Nodes → Part
  SpellsNodes Nil behind = behind
  SpellsNodes (BlockThen block rest) behind = SpellsBlock block (SpellsNodes rest behind)
  SpellsNodes (IfThen id cond first second rest) behind =
      IsWord (codes "if") ▹ IsValue cond ▹ IsMark 123 ▹ SpellsNodes first (IsMark 125 ▹ IsWord (codes "else") ▹ IsMark 123 ▹ SpellsNodes second (IsMark 125 ▹ SpellsNodes rest behind))
  SpellsNodes (LoopThen id body rest) behind = IsWord (codes "loop") ▹ IsMark 123 ▹ SpellsNodes body (IsMark 125 ▹ SpellsNodes rest behind)

  -- the whole text of a shader
  abbrev pub Spells : Shader → List Lexeme → Type 0
  Spells shader =
      IsWord (codes "shader")
      ▹ IsWord (codes "inputs")
      ▹ SpellsKinds shader.inputs
      (IsWord (codes "outputs")
      ▹ SpellsKinds shader.outputs
      (IsWord (codes "buffers") ▹ IsIndex shader.buffers ▹ IsMark 123 ▹ SpellsNodes shader.body (IsMark 125 ▹ IsEnd ▹ Nothing)))
