-- The definitions computed on shaders that were worked out by hand.
use Rattle.std.specs.Prelude.{◌≡◌, refl, ℕ, List, [], ◌∷◌, Some, None}
use Rattle.nir_ops.specs.declared.op.Op.TheVariants.{Iadd, Ineg}
use Rattle.nir_ops.specs.declared.width.Width.TheVariants.{W1, W8, W16, W32}
use Rattle.nir_ops.specs.Opcodes.{op_info, row_of}
use Rattle.op_eval.specs.Calls.{unsized_width}
use Rattle.op_eval.specs.Meaning.{meaning, op_mean}
use Rattle.op_eval.specs.Views.{shape_of, view_mean}
use Rattle.op_eval.specs.Word.{residue}
use Rattle.nir_ir.specs.declared.ids.ValueId.{ValueId}
use Rattle.nir_ir.specs.declared.instr.Instr.{Instr}
use Rattle.nir_ir.specs.declared.instr.Instr.TheVariants.{Alu, Const, Input, Output, LoadBuf, StoreBuf}
use Rattle.nir_ir.specs.declared.instr.Src.{Src}
use Rattle.nir_ir.specs.declared.kind.Kind.{Kind}
use Rattle.nir_ir.specs.declared.node.Block as block
use Rattle.nir_ir.specs.declared.node.Jump.TheVariants.{Break}
use Rattle.nir_ir.specs.declared.node.Phi.{Phi}
use Rattle.nir_ir.specs.Nodes.{Nil, BlockThen, IfThen, LoopThen}
use Rattle.nir_ir.specs.Shader.{Shader}
use Rattle.nir_mean.specs.declared.outcome.Ending.TheVariants.{Done, Cut}
use Rattle.nir_mean.specs.Outcome.{outcome}
use Rattle.nir_mean.specs.Values.{alu_mean}

abbrev value : ℕ → ValueId
value n = record { 0 = n }

abbrev w1x1 : Kind
w1x1 = record { width = W1; count = 1 }

abbrev w8x1 : Kind
w8x1 = record { width = W8; count = 1 }

abbrev w16x2 : Kind
w16x2 = record { width = W16; count = 2 }

abbrev pub w32x1 : Kind
w32x1 = record { width = W32; count = 1 }

abbrev first_of : ℕ → Src
first_of n = record { value = value n; swizzle = 0 ∷ [] }

-- the phi of the value n, which takes value a from block x and value b from block y
abbrev phi_of : ℕ → ℕ → ℕ → ℕ → ℕ → Phi
phi_of n x a y b = record {
  value = value n;
  kind = w8x1;
  sources = record { from = record { 0 = x }; value = value a } ∷ record { from = record { 0 = y }; value = value b } ∷ [];
}

abbrev block_of : ℕ → List Phi → List Instr → block.Block
block_of n phis instrs = record { id = record { 0 = n }; phis = phis; instrs = instrs; jump = None }

-- the sum of two inputs at 8 bits
abbrev sum_of_inputs : Shader
sum_of_inputs = record {
  inputs = w8x1 ∷ w8x1 ∷ [];
  outputs = w8x1 ∷ [];
  buffers = 0;
  body = BlockThen (block_of 0 [] (
      Input (value 0) w8x1 0
      ∷ Input (value 1) w8x1 1
      ∷ Alu (value 2) Iadd w8x1 (first_of 0 ∷ first_of 1 ∷ [])
      ∷ Output (record { 0 = 0 }) 0 (value 2)
      ∷ [])) Nil;
  next_value = 3;
}

pub sum_worked : outcome sum_of_inputs ((200 ∷ []) ∷ (100 ∷ []) ∷ []) [] 0 ≡ record { ending = Done; stores = []; outputs = (44 ∷ []) ∷ [] }
unfolding outcome alu_mean view_mean shape_of unsized_width op_info row_of op_mean meaning residue
sum_worked = refl

-- two words of 16 bits stored and loaded as one of 32, and again where the second is not inside the buffer
abbrev store_and_load : ℕ → Shader
store_and_load offset = record {
  inputs = [];
  outputs = w32x1 ∷ [];
  buffers = 1;
  body = BlockThen (block_of 0 [] (
      Const (value 0) w32x1 (offset ∷ [])
      ∷ Const (value 1) w16x2 (4660 ∷ 22136 ∷ [])
      ∷ StoreBuf (record { 0 = 0 }) 0 (value 0) (value 1)
      ∷ LoadBuf (value 2) w32x1 0 (value 0)
      ∷ Output (record { 0 = 1 }) 0 (value 2)
      ∷ [])) Nil;
  next_value = 3;
}

pub store_worked : outcome (store_and_load 1) [] ((1 ∷ 2 ∷ 3 ∷ 4 ∷ 5 ∷ 6 ∷ []) ∷ []) 0 ≡ record {
  ending = Done;
  stores = record { buffer = 0; offset = 1; kind = w16x2; comps = 4660 ∷ 22136 ∷ [] } ∷ [];
  outputs = (1450709556 ∷ []) ∷ [];
}
unfolding outcome
store_worked = refl

pub outside_worked : outcome (store_and_load 3) [] ((1 ∷ 2 ∷ 3 ∷ 4 ∷ 5 ∷ 6 ∷ []) ∷ []) 0 ≡ record {
  ending = Done;
  stores = record { buffer = 0; offset = 3; kind = w16x2; comps = 4660 ∷ 22136 ∷ [] } ∷ [];
  outputs = (0 ∷ []) ∷ [];
}
unfolding outcome
outside_worked = refl

-- a loop without an end that doubles its phi
abbrev doubling : Shader
doubling = record {
  inputs = [];
  outputs = w8x1 ∷ [];
  buffers = 0;
  body = BlockThen (block_of 0 [] (Const (value 0) w8x1 (1 ∷ []) ∷ []))
      (LoopThen (record { 0 = 0 }) (BlockThen (block_of 1 (phi_of 1 0 0 1 2 ∷ []) (
      Alu (value 2) Iadd w8x1 (first_of 1 ∷ first_of 1 ∷ [])
      ∷ Output (record { 0 = 0 }) 0 (value 2)
      ∷ [])) Nil)
      (BlockThen (block_of 2 [] []) Nil));
  next_value = 3;
}

pub doubling_worked : outcome doubling [] [] 3 ≡ record { ending = Cut; stores = []; outputs = (16 ∷ []) ∷ [] }
unfolding outcome alu_mean view_mean shape_of unsized_width op_info row_of op_mean meaning residue
doubling_worked = refl

-- a choice of two consts by an input
abbrev choice : Shader
choice = record {
  inputs = w1x1 ∷ [];
  outputs = w8x1 ∷ [];
  buffers = 0;
  body = BlockThen (block_of 0 [] (Input (value 0) w1x1 0 ∷ []))
      (IfThen (record { 0 = 0 }) (value 0)
      (BlockThen (block_of 1 [] (Const (value 1) w8x1 (5 ∷ []) ∷ [])) Nil)
      (BlockThen (block_of 2 [] (Const (value 2) w8x1 (7 ∷ []) ∷ [])) Nil)
      (BlockThen (block_of 3 (phi_of 3 1 1 2 2 ∷ []) (Output (record { 0 = 0 }) 0 (value 3) ∷ [])) Nil));
  next_value = 4;
}

pub first_worked : outcome choice ((1 ∷ []) ∷ []) [] 0 ≡ record { ending = Done; stores = []; outputs = (5 ∷ []) ∷ [] }
unfolding outcome
first_worked = refl

pub second_worked : outcome choice ((0 ∷ []) ∷ []) [] 0 ≡ record { ending = Done; stores = []; outputs = (7 ∷ []) ∷ [] }
unfolding outcome
second_worked = refl

-- loads and stores that are not wholly inside: components outside are 0, and are dropped
abbrev w16x1 : Kind
w16x1 = record { width = W16; count = 1 }

abbrev w16x3 : Kind
w16x3 = record { width = W16; count = 3 }

abbrev straddling : Shader
straddling = record {
  inputs = [];
  outputs = w32x1 ∷ w16x3 ∷ w16x1 ∷ [];
  buffers = 1;
  body = BlockThen (block_of 0 [] (
      Const (value 0) w32x1 (4 ∷ [])
      ∷ Const (value 1) w32x1 (2 ∷ [])
      ∷ LoadBuf (value 2) w32x1 0 (value 0)
      ∷ LoadBuf (value 3) w16x3 0 (value 1)
      ∷ Const (value 4) w16x2 (257 ∷ 258 ∷ [])
      ∷ StoreBuf (record { 0 = 0 }) 0 (value 0) (value 4)
      ∷ LoadBuf (value 5) w16x1 0 (value 0)
      ∷ Output (record { 0 = 1 }) 0 (value 2)
      ∷ Output (record { 0 = 2 }) 1 (value 3)
      ∷ Output (record { 0 = 3 }) 2 (value 5)
      ∷ [])) Nil;
  next_value = 6;
}

pub straddling_worked : outcome straddling [] ((1 ∷ 2 ∷ 3 ∷ 4 ∷ 5 ∷ 6 ∷ []) ∷ []) 0 ≡ record {
  ending = Done;
  stores = record { buffer = 0; offset = 4; kind = w16x2; comps = 257 ∷ 258 ∷ [] } ∷ [];
  outputs = (0 ∷ []) ∷ (1027 ∷ 1541 ∷ 0 ∷ []) ∷ (257 ∷ []) ∷ [];
}
unfolding outcome
straddling_worked = refl

-- a loop that does nothing, for ever
abbrev idle : Shader
idle = record {
  inputs = w32x1 ∷ [];
  outputs = w32x1 ∷ [];
  buffers = 0;
  body = BlockThen (block_of 0 [] (Input (value 0) w32x1 0 ∷ Output (record { 0 = 0 }) 0 (value 0) ∷ []))
      (LoopThen (record { 0 = 0 }) (BlockThen (block_of 1 [] []) Nil)
      (BlockThen (block_of 2 [] []) Nil));
  next_value = 1;
}

pub idle_worked : outcome idle ((5 ∷ []) ∷ []) [] 3 ≡ record { ending = Cut; stores = []; outputs = (5 ∷ []) ∷ [] }
unfolding outcome
idle_worked = refl

-- a loop whose body breaks is run once, with no repeat
abbrev pub once : Shader
once = record {
  inputs = w32x1 ∷ [];
  outputs = w32x1 ∷ [];
  buffers = 0;
  body = BlockThen (block_of 0 [] (Input (value 0) w32x1 0 ∷ []))
      (LoopThen (record { 0 = 0 }) (BlockThen (record { id = record { 0 = 1 }; phis = []; instrs = Alu (value 1) Ineg w32x1 (first_of 0 ∷ []) ∷ []; jump = Some Break }) Nil)
      (BlockThen (block_of 2 [] (Output (record { 0 = 0 }) 0 (value 1) ∷ [])) Nil));
  next_value = 2;
}

pub once_worked : outcome once ((5 ∷ []) ∷ []) [] 0 ≡ record { ending = Done; stores = []; outputs = (4294967291 ∷ []) ∷ [] }
unfolding outcome alu_mean view_mean shape_of unsized_width op_info row_of op_mean meaning residue
once_worked = refl

-- two phis that change places at each turn
abbrev swapping : Shader
swapping = record {
  inputs = [];
  outputs = w8x1 ∷ w8x1 ∷ [];
  buffers = 0;
  body = BlockThen (block_of 0 [] (Const (value 0) w8x1 (1 ∷ []) ∷ Const (value 1) w8x1 (2 ∷ []) ∷ []))
      (LoopThen (record { 0 = 0 }) (BlockThen (block_of 1 (phi_of 2 0 0 1 3 ∷ phi_of 3 0 1 1 2 ∷ []) (
      Output (record { 0 = 0 }) 0 (value 2)
      ∷ Output (record { 0 = 1 }) 1 (value 3)
      ∷ [])) Nil)
      (BlockThen (block_of 2 [] []) Nil));
  next_value = 4;
}

pub swapped_worked : outcome swapping [] [] 3 ≡ record { ending = Cut; stores = []; outputs = (2 ∷ []) ∷ (1 ∷ []) ∷ [] }
unfolding outcome
swapped_worked = refl

pub swapped_back_worked : outcome swapping [] [] 4 ≡ record { ending = Cut; stores = []; outputs = (1 ∷ []) ∷ (2 ∷ []) ∷ [] }
unfolding outcome
swapped_back_worked = refl
