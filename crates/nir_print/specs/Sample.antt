-- A shader with each sort of node, of instruction and of jump, numbered in no order, and its text: a worked example of the definitions.
use Rattle.std.specs.Prelude.{◌≡◌, refl, ℕ, List, [], ◌∷◌, ◌++◌, Some, None, codes}
use Rattle.std.specs.Fmt.{digits}
use Rattle.nir_ops.specs.Opcodes.{name_of, row_of}
use Rattle.nir_ops.specs.declared.op.Op.TheVariants.{Mov, Iadd}
use Rattle.nir_ops.specs.declared.width.Width.TheVariants.{W1, W8, W32}
use Rattle.nir_ir.specs.declared.instr.Instr.{Instr}
use Rattle.nir_ir.specs.declared.instr.Instr.TheVariants.{Alu, Const, Undef, Input, Output, LoadBuf, StoreBuf}
use Rattle.nir_ir.specs.declared.kind.Kind.{Kind}
use Rattle.nir_ir.specs.declared.node.Block.{Block}
use Rattle.nir_ir.specs.declared.node.Jump.{Jump}
use Rattle.nir_ir.specs.declared.node.Jump.TheVariants.{Break, Continue}
use Rattle.nir_ir.specs.declared.node.Phi.{Phi}
use Rattle.nir_ir.specs.Nodes.{Nodes, Nil, BlockThen, IfThen, LoopThen}
use Rattle.nir_ir.specs.Shader.{Shader}
use Rattle.nir_print.specs.Renumber.{renumber}
use Rattle.nir_print.specs.Text.{text_of}

abbrev pub truth : Kind
truth = record { width = W1; count = 1 }

abbrev pub word : Kind
word = record { width = W32; count = 1 }

abbrev pub pair : Kind
pair = record { width = W32; count = 2 }

abbrev pub first_instrs : List Instr
first_instrs =
    Input (record { 0 = 9 }) pair 0
    ∷ Const (record { 0 = 4 }) truth (1 ∷ [])
    ∷ Alu (record { 0 = 8 }) Mov word (record { value = record { 0 = 9 }; swizzle = 1 ∷ [] } ∷ [])
    ∷ Alu (record { 0 = 2 }) Iadd pair (record { value = record { 0 = 9 }; swizzle = 0 ∷ 1 ∷ [] } ∷ record { value = record { 0 = 9 }; swizzle = 1 ∷ 0 ∷ [] } ∷ [])
    ∷ []

-- the sources stand in the reverse of block order
abbrev pub counter : Phi
counter = record { value = record { 0 = 1 }; kind = word; sources = record { from = record { 0 = 4 }; value = record { 0 = 0 } } ∷ record { from = record { 0 = 0 }; value = record { 0 = 8 } } ∷ [] }

-- a block of some instructions, and one of a jump
abbrev pub plain : ℕ → List Instr → Block
plain id instrs = record { id = record { 0 = id }; phis = []; instrs = instrs; jump = None }

abbrev pub jumping : ℕ → Jump → Block
jumping id jump = record { id = record { 0 = id }; phis = []; instrs = []; jump = Some jump }

abbrev pub loop_body : Nodes
loop_body =
    BlockThen (record { id = record { 0 = 6 }; phis = counter ∷ []; instrs = []; jump = None })
    (IfThen (record { 0 = 0 }) (record { 0 = 4 }) (BlockThen (jumping 7 Break) Nil) (BlockThen (jumping 2 Continue) Nil)
    (BlockThen (plain 4 (Undef (record { 0 = 0 }) (record { width = W8; count = 3 }) ∷ [])) Nil))

abbrev pub sample_body : Nodes
sample_body =
    BlockThen (plain 5 first_instrs)
    (IfThen (record { 0 = 1 }) (record { 0 = 4 })
    (BlockThen (plain 3 (StoreBuf (record { 0 = 1 }) 0 (record { 0 = 8 }) (record { 0 = 2 }) ∷ [])) Nil)
    (BlockThen (plain 1 []) Nil)
    (BlockThen (plain 0 (LoadBuf (record { 0 = 3 }) word 0 (record { 0 = 8 }) ∷ []))
    (LoopThen (record { 0 = 0 }) loop_body
    (BlockThen (plain 8 (Output (record { 0 = 0 }) 0 (record { 0 = 1 }) ∷ [])) Nil))))

abbrev pub sample : Shader
sample = record { inputs = pair ∷ []; outputs = word ∷ []; buffers = 1; body = sample_body; next_value = 10 }

abbrev pub sample_text : List ℕ
sample_text =
    codes "shader\n"
    ++ codes "inputs [w32x2]\n"
    ++ codes "outputs [w32x1]\n"
    ++ codes "buffers 1\n"
    ++ codes "{\n"
    ++ codes "  block b0 {\n"
    ++ codes "    %0 = input w32x2 @0\n"
    ++ codes "    %1 = const w1x1 (1)\n"
    ++ codes "    %2 = mov w32x1 %0.y\n"
    ++ codes "    %3 = iadd w32x2 %0, %0.yx\n"
    ++ codes "  }\n"
    ++ codes "  if %1 {\n"
    ++ codes "    block b1 {\n"
    ++ codes "      store @0, %2, %3\n"
    ++ codes "    }\n"
    ++ codes "  } else {\n"
    ++ codes "    block b2 {\n"
    ++ codes "    }\n"
    ++ codes "  }\n"
    ++ codes "  block b3 {\n"
    ++ codes "    %4 = load w32x1 @0, %2\n"
    ++ codes "  }\n"
    ++ codes "  loop {\n"
    ++ codes "    block b4 {\n"
    ++ codes "      %5 = phi w32x1 [b3: %2, b7: %6]\n"
    ++ codes "    }\n"
    ++ codes "    if %1 {\n"
    ++ codes "      block b5 {\n"
    ++ codes "        break\n"
    ++ codes "      }\n"
    ++ codes "    } else {\n"
    ++ codes "      block b6 {\n"
    ++ codes "        continue\n"
    ++ codes "      }\n"
    ++ codes "    }\n"
    ++ codes "    block b7 {\n"
    ++ codes "      %6 = undef w8x3\n"
    ++ codes "    }\n"
    ++ codes "  }\n"
    ++ codes "  block b8 {\n"
    ++ codes "    output @0, %5\n"
    ++ codes "  }\n"
    ++ codes "}\n"

pub text_of-sample : text_of sample ≡ sample_text
unfolding digits name_of row_of
text_of-sample = refl

-- numbered in text order, it has the same text
pub text_of-renumber-sample : text_of (renumber sample) ≡ sample_text
unfolding digits name_of row_of
text_of-renumber-sample = refl
