-- What each opcode gives of the bits x, y and z of its sources at the unsized bit size w: one formula an opcode for all bit sizes, over unbounded whole numbers. What is left of it in the bits of the result is the word that the opcode makes.
use Rattle.std.specs.Prelude.{ℕ, ◌+◌, ◌-◌, ◌*◌, ◌/◌, ◌%◌, ◌^◌, min, max, ℤ, pos, neg_ℤ, ◌+ℤ◌, ◌-ℤ◌, ◌*ℤ◌, cond, not, nat_lt, nat_le, ◌==◌, List, slice_index}
use Rattle.std.specs.Int.{w32, abs_diff, int_min, int_max, saturate_to_bits, reverse_bits}
use Rattle.std.specs.Int.RustNames.{bit_and, bit_or, bit_xor, count_ones, unsigned_abs, int_lt, int_le, int_div}
use Rattle.std.specs.Int.Count.{count_trailing_zeros}
use Rattle.nir_ops.specs.declared.op.Op.{Op}
use Rattle.nir_ops.specs.declared.op.Op.TheVariants.{Iadd, Isub, Imul, Ineg, Iabs, Idiv, Udiv, Irem, Imod, Umod, Ishl, Ishr, Ushr, Urol, Uror, Inot, Iand, Ior, Ixor, Ilt, Ige, Ult, Uge, Ieq, Ine, Bcsel, Imin, Imax, Umin, Umax, UaddCarry, UsubBorrow, IaddSat, IsubSat, UaddSat, UsubSat, Uhadd, Ihadd, Urhadd, Irhadd, UabsIsub, UabsUsub, ImulHigh, UmulHigh, Imul2x32_64, Umul2x32_64, BitCount, UfindMsb, FindLsb, IfindMsb, BitfieldReverse, Bfm, Bfi, Ubfe, Ibfe, BitfieldSelect, I2i8, I2i16, I2i32, I2i64, U2u8, U2u16, U2u32, U2u64, B2i8, B2i16, B2i32, B2i64, Pack64_2x32Split, Unpack64_2x32SplitX, Unpack64_2x32SplitY, Pack32_2x16Split, Unpack32_2x16SplitX, Unpack32_2x16SplitY, ExtractU8, ExtractU16, ExtractI8, ExtractI16, Mov, Vec2, Vec3, Vec4, BallIequal2, BallIequal3, BallIequal4, BanyInequal2, BanyInequal3, BanyInequal4}
use Rattle.op_eval.specs.Word.{signed, residue, truth, floor_div, truncated_rest, floored_rest, rotated, negated, picked, highest_one, lowest_one, field, signed_field, signed_piece}

unfoldable pub meaning : Op → ℕ → ℕ → ℕ → ℕ → ℤ
meaning Iadd w x y z = pos (x + y)
meaning Isub w x y z = pos x -ℤ pos y
meaning Imul w x y z = pos (x * y)
meaning Ineg w x y z = neg_ℤ (pos x)
meaning Iabs w x y z = pos (unsigned_abs (signed w x))
meaning Idiv w x y z = cond (y == 0) (pos 0) (int_div (signed w x) (signed w y))
meaning Udiv w x y z = cond (y == 0) (pos 0) (pos (x / y))
meaning Irem w x y z = cond (y == 0) (pos 0) (truncated_rest (signed w x) (signed w y))
meaning Imod w x y z = cond (y == 0) (pos 0) (floored_rest (signed w x) (signed w y))
meaning Umod w x y z = cond (y == 0) (pos 0) (pos (x % y))
meaning Ishl w x y z = pos (x * 2 ^ (y % w))
meaning Ishr w x y z = floor_div (signed w x) (pos (2 ^ (y % w)))
meaning Ushr w x y z = pos (x / 2 ^ (y % w))
meaning Urol w x y z = pos (rotated w x (y % w))
meaning Uror w x y z = pos (rotated w x ((w - y % w) % w))
meaning Inot w x y z = pos (negated w x)
meaning Iand w x y z = pos (bit_and x y)
meaning Ior w x y z = pos (bit_or x y)
meaning Ixor w x y z = pos (bit_xor x y)
meaning Ilt w x y z = truth (int_lt (signed w x) (signed w y))
meaning Ige w x y z = truth (int_le (signed w y) (signed w x))
meaning Ult w x y z = truth (nat_lt x y)
meaning Uge w x y z = truth (nat_le y x)
meaning Ieq w x y z = truth (x == y)
meaning Ine w x y z = truth (not (x == y))
meaning Bcsel w x y z = cond (x == 1) (pos y) (pos z)
meaning Imin w x y z = int_min (signed w x) (signed w y)
meaning Imax w x y z = int_max (signed w x) (signed w y)
meaning Umin w x y z = pos (min x y)
meaning Umax w x y z = pos (max x y)
meaning UaddCarry w x y z = truth (nat_le (2 ^ w) (x + y))
meaning UsubBorrow w x y z = truth (nat_lt x y)
meaning IaddSat w x y z = saturate_to_bits (w - 1) (signed w x +ℤ signed w y)
meaning IsubSat w x y z = saturate_to_bits (w - 1) (signed w x -ℤ signed w y)
meaning UaddSat w x y z = pos (min (x + y) (2 ^ w - 1))
meaning UsubSat w x y z = pos (x - y)
meaning Uhadd w x y z = pos ((x + y) / 2)
meaning Ihadd w x y z = floor_div (signed w x +ℤ signed w y) (pos 2)
meaning Urhadd w x y z = pos ((x + y + 1) / 2)
meaning Irhadd w x y z = floor_div (signed w x +ℤ signed w y +ℤ pos 1) (pos 2)
meaning UabsIsub w x y z = pos (unsigned_abs (signed w x -ℤ signed w y))
meaning UabsUsub w x y z = pos (abs_diff x y)
meaning ImulHigh w x y z = floor_div (signed w x *ℤ signed w y) (pos (2 ^ w))
meaning UmulHigh w x y z = pos (x * y / 2 ^ w)
meaning Imul2x32_64 w x y z = signed 32 x *ℤ signed 32 y
meaning Umul2x32_64 w x y z = pos (x * y)
meaning BitCount w x y z = pos (count_ones x)
meaning UfindMsb w x y z = highest_one x
meaning FindLsb w x y z = lowest_one x
meaning IfindMsb w x y z = highest_one (cond (nat_lt x (2 ^ 31)) x (negated 32 x))
meaning BitfieldReverse w x y z = pos (reverse_bits w32 x)
meaning Bfm w x y z = pos ((2 ^ (x % 32) - 1) * 2 ^ (y % 32))
meaning Bfi w x y z = cond (x == 0) (pos z) (pos (picked 32 x (y * 2 ^ count_trailing_zeros 64 x) z))
meaning Ubfe w x y z = cond (z % 32 == 0) (pos 0) (pos (field x (y % 32) (z % 32)))
meaning Ibfe w x y z = cond (z % 32 == 0) (pos 0) (signed_field x (y % 32) (z % 32))
meaning BitfieldSelect w x y z = pos (picked w x y z)
meaning I2i8 w x y z = signed w x
meaning I2i16 w x y z = signed w x
meaning I2i32 w x y z = signed w x
meaning I2i64 w x y z = signed w x
meaning U2u8 w x y z = pos x
meaning U2u16 w x y z = pos x
meaning U2u32 w x y z = pos x
meaning U2u64 w x y z = pos x
meaning B2i8 w x y z = pos x
meaning B2i16 w x y z = pos x
meaning B2i32 w x y z = pos x
meaning B2i64 w x y z = pos x
meaning Pack64_2x32Split w x y z = pos (x + 2 ^ 32 * y)
meaning Unpack64_2x32SplitX w x y z = pos (x % 2 ^ 32)
meaning Unpack64_2x32SplitY w x y z = pos (x / 2 ^ 32)
meaning Pack32_2x16Split w x y z = pos (x + 2 ^ 16 * y)
meaning Unpack32_2x16SplitX w x y z = pos (x % 2 ^ 16)
meaning Unpack32_2x16SplitY w x y z = pos (x / 2 ^ 16)
meaning ExtractU8 w x y z = pos (field x (8 * y) 8)
meaning ExtractU16 w x y z = pos (field x (16 * y) 16)
meaning ExtractI8 w x y z = signed_piece 8 (signed w x) y
meaning ExtractI16 w x y z = signed_piece 16 (signed w x) y
meaning Mov w x y z = pos x
-- these work on whole lists of components
meaning Vec2 w x y z = pos 0
meaning Vec3 w x y z = pos 0
meaning Vec4 w x y z = pos 0
meaning BallIequal2 w x y z = pos 0
meaning BallIequal3 w x y z = pos 0
meaning BallIequal4 w x y z = pos 0
meaning BanyInequal2 w x y z = pos 0
meaning BanyInequal3 w x y z = pos 0
meaning BanyInequal4 w x y z = pos 0

-- the word of d bits that the opcode makes of the bits of its sources at the unsized bit size w
unfoldable pub op_mean : Op → ℕ → ℕ → List ℕ → ℕ
op_mean op w d args = residue d (meaning op w (slice_index args 0) (slice_index args 1) (slice_index args 2))
