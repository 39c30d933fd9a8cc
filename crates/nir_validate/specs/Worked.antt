-- The rules computed on shaders that were worked out by hand.
use Rattle.std.specs.Prelude.{◌≡◌, refl, ℕ, List, [], ◌∷◌, map, Option, Some, None}
use Rattle.nir_ops.specs.declared.op.Op.TheVariants.{Ineg}
use Rattle.nir_ops.specs.declared.width.Width.TheVariants.{W1, W8, W32}
use Rattle.nir_ops.specs.Opcodes.{op_allows, op_info, row_of}
use Rattle.op_eval.specs.Calls.{result_width, sizes_fit, source_widths, unsized_width}
use Rattle.nir_ir.specs.declared.ids.BlockId.{BlockId}
use Rattle.nir_ir.specs.declared.ids.ValueId.{ValueId}
use Rattle.nir_ir.specs.declared.instr.Instr.{Instr}
use Rattle.nir_ir.specs.declared.instr.Instr.TheVariants.{Alu, Input, Output}
use Rattle.nir_ir.specs.declared.kind.Kind.{Kind}
use Rattle.nir_ir.specs.declared.node.Block as block
use Rattle.nir_ir.specs.declared.node.Jump.{Jump}
use Rattle.nir_ir.specs.declared.node.Jump.TheVariants.{Break, Continue}
use Rattle.nir_ir.specs.declared.node.Phi.{Phi}
use Rattle.nir_ir.specs.declared.node.PhiSource.{PhiSource}
use Rattle.nir_ir.specs.Nodes.{Nodes, Nil, BlockThen, IfThen, LoopThen}
use Rattle.nir_ir.specs.Shader.{Shader}
use Rattle.nir_validate.specs.Edges.{Edge}
use Rattle.nir_validate.specs.Rules.{counts_fit}
use Rattle.nir_validate.specs.Valid.{first_invalid}
use Rattle.nir_validate.specs.Walk.{entry, walk}

abbrev value : ℕ → ValueId
value n = record { 0 = n }

abbrev w1x1 : Kind
w1x1 = record { width = W1; count = 1 }

abbrev w8x1 : Kind
w8x1 = record { width = W8; count = 1 }

abbrev w32x1 : Kind
w32x1 = record { width = W32; count = 1 }

-- the value n, which is negated value a of 32 bits
abbrev negated : ℕ → ℕ → Instr
negated n a = Alu (value n) Ineg w32x1 (record { value = value a; swizzle = 0 ∷ [] } ∷ [])

abbrev output : ℕ → ℕ → Instr
output effect n = Output (record { 0 = effect }) 0 (value n)

-- the source of a phi: value a, from block x
abbrev from : ℕ → ℕ → PhiSource
from x a = record { from = record { 0 = x }; value = value a }

abbrev phi : ℕ → List PhiSource → Phi
phi n sources = record { value = value n; kind = w32x1; sources = sources }

-- a block with this number, and a list of one block
abbrev block_of : ℕ → List Phi → List Instr → Option Jump → block.Block
block_of n phis instrs jump = record { id = record { 0 = n }; phis = phis; instrs = instrs; jump = jump }

abbrev alone : ℕ → List Phi → List Instr → Option Jump → Nodes
alone n phis instrs jump = BlockThen (block_of n phis instrs jump) Nil

abbrev if_then : ℕ → ℕ → Nodes → Nodes → Nodes → Nodes
if_then id cond first second rest = IfThen (record { 0 = id }) (value cond) first second rest

abbrev loop_then : ℕ → Nodes → Nodes → Nodes
loop_then id body rest = LoopThen (record { 0 = id }) body rest

-- a first block of 3 items, with input 0 of 32 bits and input 1 of one, and what follows
abbrev given : Nodes → Shader
given rest = record {
  inputs = w32x1 ∷ w1x1 ∷ [];
  outputs = w32x1 ∷ [];
  buffers = 0;
  body = BlockThen (block_of 0 [] (Input (value 0) w32x1 0 ∷ Input (value 1) w1x1 1 ∷ []) None) rest;
  next_value = 9;
}

-- the blocks from which edges come
abbrev origins : List Edge → List (Option BlockId)
origins edges = map (λ edge. edge.from) edges

-- nothing at all: the last node of an empty body is item 0
pub empty_body : first_invalid (record { inputs = []; outputs = []; buffers = 0; body = Nil; next_value = 0 }) ≡ Some (record { rule = 3; item = 0 })
unfolding first_invalid
empty_body = refl

-- a jump outside of loops, behind the head of its block
pub jump_outside : first_invalid (record { inputs = []; outputs = []; buffers = 0; body = alone 0 [] [] (Some Break); next_value = 0 }) ≡ Some (record { rule = 4; item = 1 })
unfolding first_invalid
jump_outside = refl

-- two ifs without a block between: items 3 to 5, and 6
pub two_ifs : first_invalid (given (
    if_then 0 1 (alone 1 [] [] None) (alone 2 [] [] None)
    (if_then 1 1 (alone 3 [] [] None) (alone 4 [] [] None) (alone 5 [] [] None)))) ≡ Some (record { rule = 3; item = 6 })
unfolding first_invalid
two_ifs = refl

-- an if is the last node, and its second list is empty: both are told at the if
pub if_at_end : first_invalid (given (if_then 0 1 (alone 1 [] [] None) Nil Nil)) ≡ Some (record { rule = 3; item = 3 })
unfolding first_invalid
if_at_end = refl

-- a value of one list is used behind an if whose other list falls through
pub leaks_out : first_invalid (given (
    if_then 0 1 (alone 1 [] (negated 2 0 ∷ []) None) (alone 2 [] [] None)
    (alone 3 [] (output 0 2 ∷ []) None))) ≡ Some (record { rule = 7; item = 8 })
unfolding first_invalid sizes_fit counts_fit op_info row_of op_allows unsized_width source_widths result_width
leaks_out = refl

-- the same use where the other list breaks out of a loop
pub stays_in : first_invalid (given (
    loop_then 0 (BlockThen (block_of 1 [] [] None) (
    if_then 0 1 (alone 2 [] (negated 2 0 ∷ []) None) (alone 3 [] [] (Some Break))
    (alone 4 [] (output 0 2 ∷ []) None))) (alone 5 [] [] None))) ≡ None
unfolding first_invalid sizes_fit counts_fit op_info row_of op_allows unsized_width source_widths result_width
stays_in = refl

-- the edges out of an if of which the first list falls, and out of a loop with two breaks, a continue and a last block that falls
abbrev one_falls : Nodes → Nodes
one_falls rest = if_then 0 1 (alone 1 [] [] None) (alone 2 [] [] (Some Break)) rest

abbrev two_breaks : Nodes
two_breaks = loop_then 0 (BlockThen (block_of 1 [] [] None) (
    if_then 0 1 (alone 2 [] [] (Some Break)) (alone 3 [] [] None)
    (BlockThen (block_of 4 [] [] None) (
    if_then 1 1 (alone 5 [] [] (Some Continue)) (BlockThen (block_of 6 [] [] None) (
    if_then 2 1 (alone 7 [] [] (Some Break)) (alone 8 [] [] None) (alone 9 [] [] None)))
    (alone 10 [] [] None))))) Nil

pub falls_of_if : origins (walk (one_falls Nil) (entry ∷ [])).falls ≡ Some (record { 0 = 1 }) ∷ []
falls_of_if = refl

pub breaks_of_if : origins (walk (one_falls Nil) (entry ∷ [])).breaks ≡ Some (record { 0 = 2 }) ∷ []
breaks_of_if = refl

pub falls_of_loop : origins (walk two_breaks (entry ∷ [])).falls ≡ Some (record { 0 = 2 }) ∷ Some (record { 0 = 7 }) ∷ []
falls_of_loop = refl

-- phis behind an if, in the first block of one of its lists, in the first block of a loop and in the block behind a loop
pub phis_everywhere : first_invalid (given (
    if_then 0 1 (alone 1 [] (negated 2 0 ∷ []) None) (alone 2 (phi 3 (from 0 0 ∷ []) ∷ []) [] None)
    (BlockThen (block_of 3 (phi 4 (from 1 2 ∷ from 2 3 ∷ []) ∷ []) [] None) (
    loop_then 0 (BlockThen (block_of 4 (phi 5 (from 3 4 ∷ from 6 6 ∷ []) ∷ []) (negated 6 5 ∷ []) None) (
    if_then 1 1 (alone 5 [] [] (Some Break)) (alone 6 [] [] None) (alone 7 [] [] None)))
    (alone 8 (phi 7 (from 5 6 ∷ []) ∷ []) (output 0 7 ∷ []) None))))) ≡ Some (record { rule = 6; item = 12 })
unfolding first_invalid sizes_fit counts_fit op_info row_of op_allows unsized_width source_widths result_width
phis_everywhere = refl

-- the same where the loop's phi names the block by which its body falls
pub phis_right : first_invalid (given (
    if_then 0 1 (alone 1 [] (negated 2 0 ∷ []) None) (alone 2 (phi 3 (from 0 0 ∷ []) ∷ []) [] None)
    (BlockThen (block_of 3 (phi 4 (from 1 2 ∷ from 2 3 ∷ []) ∷ []) [] None) (
    loop_then 0 (BlockThen (block_of 4 (phi 5 (from 3 4 ∷ from 7 6 ∷ []) ∷ []) (negated 6 5 ∷ []) None) (
    if_then 1 1 (alone 5 [] [] (Some Break)) (alone 6 [] [] None) (alone 7 [] [] None)))
    (alone 8 (phi 7 (from 5 6 ∷ []) ∷ []) (output 0 7 ∷ []) None))))) ≡ None
unfolding first_invalid sizes_fit counts_fit op_info row_of op_allows unsized_width source_widths result_width
phis_right = refl

-- behind a loop that only continues nothing is reached: an empty last block may stand there, one with an instruction may not
pub idle_block : first_invalid (given (loop_then 0 (alone 1 [] [] (Some Continue)) (alone 2 [] [] None))) ≡ None
unfolding first_invalid
idle_block = refl

pub unreached_block : first_invalid (given (loop_then 0 (alone 1 [] [] (Some Continue)) (alone 2 [] (output 0 0 ∷ []) None))) ≡ Some (record { rule = 5; item = 6 })
unfolding first_invalid
unreached_block = refl

-- the first round goes before the second: the wrong condition of item 7 is told, and not the unreached block of item 6
pub rounds_in_order : first_invalid (given (loop_then 0 (alone 1 [] [] (Some Continue))
    (BlockThen (block_of 2 [] [] None) (if_then 0 0 (alone 3 [] [] None) (alone 4 [] [] None) (alone 5 [] [] None))))) ≡ Some (record { rule = 9; item = 7 })
unfolding first_invalid
rounds_in_order = refl
