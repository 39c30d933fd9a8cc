-- The opcode of a name: the first in the order of the table.
use Rattle.std.specs.Prelude.{ℕ, ◌≡◌, List, [], ◌∷◌, Option, find}
use Rattle.std.specs.Str.{bytes_eq}
use Rattle.nir_ops.specs.declared.op.Op.{Op}
use Rattle.nir_ops.specs.declared.op.Op.TheVariants.{Iadd, Isub, Imul, Ineg, Iabs, Idiv, Udiv, Irem, Imod, Umod, Ishl, Ishr, Ushr, Urol, Uror, Inot, Iand, Ior, Ixor, Ilt, Ige, Ult, Uge, Ieq, Ine, Bcsel, Imin, Imax, Umin, Umax, UaddCarry, UsubBorrow, IaddSat, IsubSat, UaddSat, UsubSat, Uhadd, Ihadd, Urhadd, Irhadd, UabsIsub, UabsUsub, ImulHigh, UmulHigh, Imul2x32_64, Umul2x32_64, BitCount, UfindMsb, FindLsb, IfindMsb, BitfieldReverse, Bfm, Bfi, Ubfe, Ibfe, BitfieldSelect, I2i8, I2i16, I2i32, I2i64, U2u8, U2u16, U2u32, U2u64, B2i8, B2i16, B2i32, B2i64, Pack64_2x32Split, Unpack64_2x32SplitX, Unpack64_2x32SplitY, Pack32_2x16Split, Unpack32_2x16SplitX, Unpack32_2x16SplitY, ExtractU8, ExtractU16, ExtractI8, ExtractI16, Mov, Vec2, Vec3, Vec4, BallIequal2, BallIequal3, BallIequal4, BanyInequal2, BanyInequal3, BanyInequal4}
use Rattle.nir_ops.specs.Opcodes.{name_of}

-- all opcodes, in the order of the table
unfoldable pub all_ops : List Op
all_ops =
    Iadd ∷ Isub ∷ Imul ∷ Ineg ∷ Iabs ∷ Idiv ∷ Udiv ∷ Irem ∷ Imod ∷ Umod ∷ Ishl ∷ Ishr ∷ Ushr ∷ Urol ∷ Uror ∷ Inot ∷ Iand ∷ Ior ∷ Ixor ∷ Ilt ∷ Ige ∷ Ult ∷ Uge ∷ Ieq ∷ Ine ∷ Bcsel ∷ Imin ∷ Imax ∷ Umin ∷ Umax ∷ UaddCarry ∷ UsubBorrow ∷ IaddSat ∷ IsubSat ∷ UaddSat ∷ UsubSat ∷ Uhadd ∷ Ihadd ∷ Urhadd ∷ Irhadd ∷ UabsIsub ∷ UabsUsub ∷ ImulHigh ∷ UmulHigh ∷ Imul2x32_64 ∷ Umul2x32_64 ∷ BitCount ∷ UfindMsb ∷ FindLsb ∷ IfindMsb ∷ BitfieldReverse ∷ Bfm ∷ Bfi ∷ Ubfe ∷ Ibfe ∷ BitfieldSelect ∷ I2i8 ∷ I2i16 ∷ I2i32 ∷ I2i64 ∷ U2u8 ∷ U2u16 ∷ U2u32 ∷ U2u64 ∷ B2i8 ∷ B2i16 ∷ B2i32 ∷ B2i64 ∷ Pack64_2x32Split ∷ Unpack64_2x32SplitX ∷ Unpack64_2x32SplitY ∷ Pack32_2x16Split ∷ Unpack32_2x16SplitX ∷ Unpack32_2x16SplitY ∷ ExtractU8 ∷ ExtractU16 ∷ ExtractI8 ∷ ExtractI16 ∷ Mov ∷ Vec2 ∷ Vec3 ∷ Vec4 ∷ BallIequal2 ∷ BallIequal3 ∷ BallIequal4 ∷ BanyInequal2 ∷ BanyInequal3 ∷ BanyInequal4
    ∷ []

unfoldable pub op_named : List ℕ → Option Op
op_named name = find (λ op. bytes_eq (name_of op) name) all_ops

-- no two opcodes have one name
abbrev pub NamesAreDistinct : Type 0
NamesAreDistinct = (a b : Op) → name_of a ≡ name_of b → a ≡ b
