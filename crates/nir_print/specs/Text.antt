-- The canonical text of a shader: one line for each part, two spaces for each list or block around it (this project's own form of Mesa's NIR).
use Rattle.std.specs.Prelude.{ℕ, List, [], ◌++◌, map, Bool, false, cond, codes, decimal}
use Rattle.std.specs.Option.{option_to_list, option_map_or}
use Rattle.std.specs.List.{flat_map, range_with_len}
use Rattle.std.specs.Str.{bytes_eq}
use Rattle.text_bytes.specs.Lists.{listed, numbers_text}
use Rattle.nir_ops.specs.Opcodes.{name_of}
use Rattle.nir_ir.specs.declared.ids.BlockId.{BlockId}
use Rattle.nir_ir.specs.declared.ids.ValueId.{ValueId}
use Rattle.nir_ir.specs.declared.instr.Instr.{Instr}
use Rattle.nir_ir.specs.declared.instr.Instr.TheVariants.{Alu, Const, Undef, Input, Output, LoadBuf, StoreBuf}
use Rattle.nir_ir.specs.declared.instr.Src.{Src}
use Rattle.nir_ir.specs.declared.kind.Kind.{Kind}
use Rattle.nir_ir.specs.declared.node.Block.{Block}
use Rattle.nir_ir.specs.declared.node.Jump.{Jump}
use Rattle.nir_ir.specs.declared.node.Jump.TheVariants.{Break, Continue}
use Rattle.nir_ir.specs.declared.node.Phi.{Phi}
use Rattle.nir_ir.specs.declared.node.PhiSource.{PhiSource}
use Rattle.nir_ir.specs.Nodes.{Nodes, Nil, BlockThen, IfThen, LoopThen}
use Rattle.nir_ir.specs.Shader.{Shader}
use Rattle.nir_spelling.specs.Spelling.{kind_word, swizzle_word}
use Rattle.nir_print.specs.Naming.{Naming, naming_of, value_place, block_place, kind_of, in_block_order}

-- %k and bk, where k is the place in text order
abbrev pub value_text : Naming → ValueId → List ℕ
value_text naming value = codes "%" ++ decimal (value_place naming value)

abbrev pub block_name : Naming → BlockId → List ℕ
block_name naming block = codes "b" ++ decimal (block_place naming block)

-- a swizzle that is all components of its value in order
abbrev pub is_whole : Naming → Src → Bool
is_whole naming src = option_map_or (λ kind. bytes_eq src.swizzle (range_with_len 0 kind.count)) (kind_of naming src.value) false

-- a source of an ALU instruction; a whole swizzle is left out
abbrev pub src_text : Naming → Src → List ℕ
src_text naming src = value_text naming src.value ++ cond (is_whole naming src) [] (codes "." ++ swizzle_word src.swizzle)

-- what defines a value: its name, the word, and the kind
abbrev pub defining : Naming → ValueId → List ℕ → Kind → List ℕ
defining naming value word kind = value_text naming value ++ codes " = " ++ word ++ codes " " ++ kind_word kind

abbrev pub instr_text : Naming → Instr → List ℕ
instr_text naming (Alu value op kind srcs) = defining naming value (name_of op) kind ++ codes " " ++ listed (map (src_text naming) srcs)
instr_text naming (Const value kind comps) = defining naming value (codes "const") kind ++ codes " (" ++ numbers_text comps ++ codes ")"
instr_text naming (Undef value kind) = defining naming value (codes "undef") kind
instr_text naming (Input value kind slot) = defining naming value (codes "input") kind ++ codes " @" ++ decimal slot
instr_text naming (Output effect slot src) = codes "output @" ++ decimal slot ++ codes ", " ++ value_text naming src
instr_text naming (LoadBuf value kind buffer offset) =
    defining naming value (codes "load") kind ++ codes " @" ++ decimal buffer ++ codes ", " ++ value_text naming offset
instr_text naming (StoreBuf effect buffer offset src) =
    codes "store @" ++ decimal buffer ++ codes ", " ++ value_text naming offset ++ codes ", " ++ value_text naming src

abbrev pub phi_source_text : Naming → PhiSource → List ℕ
phi_source_text naming source = block_name naming source.from ++ codes ": " ++ value_text naming source.value

abbrev pub phi_text : Naming → Phi → List ℕ
phi_text naming phi =
    defining naming phi.value (codes "phi") phi.kind ++ codes " [" ++ listed (map (phi_source_text naming) (in_block_order naming phi.sources)) ++ codes "]"

abbrev pub jump_text : Jump → List ℕ
jump_text Break = codes "break"
jump_text Continue = codes "continue"

-- a line: the spaces before it, what it says, and a line feed
abbrev pub line : List ℕ → List ℕ → List ℕ
line indent words = indent ++ words ++ codes "\n"

-- two spaces more
abbrev pub deeper : List ℕ → List ℕ
deeper indent = indent ++ codes "  "

abbrev pub block_text : Naming → List ℕ → Block → List ℕ
block_text naming indent block =
    line indent (codes "block " ++ block_name naming block.id ++ codes " {")
    ++ flat_map (λ phi. line (deeper indent) (phi_text naming phi)) block.phis
    ++ flat_map (λ instr. line (deeper indent) (instr_text naming instr)) block.instrs
    ++ flat_map (λ jump. line (deeper indent) (jump_text jump)) (option_to_list block.jump)
    ++ line indent (codes "}")

-- an if and a loop, given the texts of their lists
abbrev pub if_text : Naming → List ℕ → ValueId → List ℕ → List ℕ → List ℕ
if_text naming indent cond first second =
    line indent (codes "if " ++ value_text naming cond ++ codes " {") ++ first ++ line indent (codes "} else {") ++ second ++ line indent (codes "}")

abbrev pub loop_text : List ℕ → List ℕ → List ℕ
loop_text indent body = line indent (codes "loop {") ++ body ++ line indent (codes "}")

-- a list of nodes
abbrev pub nodes_text : Naming → List ℕ → Nodes → List ℕ
nodes_text naming indent Nil = []
nodes_text naming indent (BlockThen block rest) = block_text naming indent block ++ nodes_text naming indent rest
nodes_text naming indent (IfThen id cond first second rest) =
    if_text naming indent cond (nodes_text naming (deeper indent) first) (nodes_text naming (deeper indent) second) ++ nodes_text naming indent rest
nodes_text naming indent (LoopThen id body rest) = loop_text indent (nodes_text naming (deeper indent) body) ++ nodes_text naming indent rest

-- the declared kinds of inputs or outputs
abbrev pub kinds_text : List ℕ → List Kind → List ℕ
kinds_text word kinds = word ++ codes " [" ++ listed (map kind_word kinds) ++ codes "]"

abbrev pub text_of : Shader → List ℕ
text_of shader =
    line [] (codes "shader")
    ++ line [] (kinds_text (codes "inputs") shader.inputs)
    ++ line [] (kinds_text (codes "outputs") shader.outputs)
    ++ line [] (codes "buffers " ++ decimal shader.buffers)
    ++ line [] (codes "{")
    ++ nodes_text (naming_of shader.body) (deeper []) shader.body
    ++ line [] (codes "}")
