-- What is told of each opcode: none has more than four sources.
use Rattle.std.specs.Prelude.{◌≡◌, refl, ◌≤◌, true, length, nat_le}
use Rattle.std.proofs.lemmas.Bool.{leb-true}
use Rattle.nir_ops.specs.declared.op.Op.{Op}
use Rattle.nir_ops.specs.declared.op.Op.TheVariants.{Vec2}
use Rattle.nir_ops.specs.Opcodes.{op_info, row_of}

-- the first case splits, and the second is tried at each opcode that is left
few : (op : Op) → nat_le (length (op_info op).inputs) 4 ≡ true
unfolding op_info row_of
few Vec2 = refl
few op = refl

pub few_inputs : (op : Op) → length (op_info op).inputs ≤ 4
few_inputs op = leb-true (length (op_info op).inputs) 4 (few op)
