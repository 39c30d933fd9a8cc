-- The name of each opcode leads back to it, and an opcode that is found has the name that was asked for.
use Rattle.std.specs.Prelude.{ℕ, ◌≡◌, List, [], ◌∷◌, Option, Some, None, Bool, true, false, cond, find, IfSome, refl}
use Rattle.std.specs.Str.{bytes_eq}
use Rattle.std.proofs.lemmas.Slice.Eq.{bytes_eq-Decides}
use Rattle.nir_ops.specs.declared.op.Op.{Op}
use Rattle.nir_ops.specs.declared.op.Op.TheVariants.{Iadd, Isub, Imul, Ineg, Iabs, Idiv, Udiv, Irem, Imod, Umod, Ishl, Ishr, Ushr, Urol, Uror, Inot, Iand, Ior, Ixor, Ilt, Ige, Ult, Uge, Ieq, Ine, Bcsel, Imin, Imax, Umin, Umax, UaddCarry, UsubBorrow, IaddSat, IsubSat, UaddSat, UsubSat, Uhadd, Ihadd, Urhadd, Irhadd, UabsIsub, UabsUsub, ImulHigh, UmulHigh, Imul2x32_64, Umul2x32_64, BitCount, UfindMsb, FindLsb, IfindMsb, BitfieldReverse, Bfm, Bfi, Ubfe, Ibfe, BitfieldSelect, I2i8, I2i16, I2i32, I2i64, U2u8, U2u16, U2u32, U2u64, B2i8, B2i16, B2i32, B2i64, Pack64_2x32Split, Unpack64_2x32SplitX, Unpack64_2x32SplitY, Pack32_2x16Split, Unpack32_2x16SplitX, Unpack32_2x16SplitY, ExtractU8, ExtractU16, ExtractI8, ExtractI16, Mov, Vec2, Vec3, Vec4, BallIequal2, BallIequal3, BallIequal4, BanyInequal2, BanyInequal3, BanyInequal4}
use Rattle.nir_ops.specs.Opcodes.{row_of, name_of}
use Rattle.nir_ops.specs.Lookup.{all_ops, op_named}

pub op_named-name_of : (op : Op) → op_named (name_of op) ≡ Some op
unfolding op_named all_ops name_of row_of
op_named-name_of Iadd = refl
op_named-name_of Isub = refl
op_named-name_of Imul = refl
op_named-name_of Ineg = refl
op_named-name_of Iabs = refl
op_named-name_of Idiv = refl
op_named-name_of Udiv = refl
op_named-name_of Irem = refl
op_named-name_of Imod = refl
op_named-name_of Umod = refl
op_named-name_of Ishl = refl
op_named-name_of Ishr = refl
op_named-name_of Ushr = refl
op_named-name_of Urol = refl
op_named-name_of Uror = refl
op_named-name_of Inot = refl
op_named-name_of Iand = refl
op_named-name_of Ior = refl
op_named-name_of Ixor = refl
op_named-name_of Ilt = refl
op_named-name_of Ige = refl
op_named-name_of Ult = refl
op_named-name_of Uge = refl
op_named-name_of Ieq = refl
op_named-name_of Ine = refl
op_named-name_of Bcsel = refl
op_named-name_of Imin = refl
op_named-name_of Imax = refl
op_named-name_of Umin = refl
op_named-name_of Umax = refl
op_named-name_of UaddCarry = refl
op_named-name_of UsubBorrow = refl
op_named-name_of IaddSat = refl
op_named-name_of IsubSat = refl
op_named-name_of UaddSat = refl
op_named-name_of UsubSat = refl
op_named-name_of Uhadd = refl
op_named-name_of Ihadd = refl
op_named-name_of Urhadd = refl
op_named-name_of Irhadd = refl
op_named-name_of UabsIsub = refl
op_named-name_of UabsUsub = refl
op_named-name_of ImulHigh = refl
op_named-name_of UmulHigh = refl
op_named-name_of Imul2x32_64 = refl
op_named-name_of Umul2x32_64 = refl
op_named-name_of BitCount = refl
op_named-name_of UfindMsb = refl
op_named-name_of FindLsb = refl
op_named-name_of IfindMsb = refl
op_named-name_of BitfieldReverse = refl
op_named-name_of Bfm = refl
op_named-name_of Bfi = refl
op_named-name_of Ubfe = refl
op_named-name_of Ibfe = refl
op_named-name_of BitfieldSelect = refl
op_named-name_of I2i8 = refl
op_named-name_of I2i16 = refl
op_named-name_of I2i32 = refl
op_named-name_of I2i64 = refl
op_named-name_of U2u8 = refl
op_named-name_of U2u16 = refl
op_named-name_of U2u32 = refl
op_named-name_of U2u64 = refl
op_named-name_of B2i8 = refl
op_named-name_of B2i16 = refl
op_named-name_of B2i32 = refl
op_named-name_of B2i64 = refl
op_named-name_of Pack64_2x32Split = refl
op_named-name_of Unpack64_2x32SplitX = refl
op_named-name_of Unpack64_2x32SplitY = refl
op_named-name_of Pack32_2x16Split = refl
op_named-name_of Unpack32_2x16SplitX = refl
op_named-name_of Unpack32_2x16SplitY = refl
op_named-name_of ExtractU8 = refl
op_named-name_of ExtractU16 = refl
op_named-name_of ExtractI8 = refl
op_named-name_of ExtractI16 = refl
op_named-name_of Mov = refl
op_named-name_of Vec2 = refl
op_named-name_of Vec3 = refl
op_named-name_of Vec4 = refl
op_named-name_of BallIequal2 = refl
op_named-name_of BallIequal3 = refl
op_named-name_of BallIequal4 = refl
op_named-name_of BanyInequal2 = refl
op_named-name_of BanyInequal3 = refl
op_named-name_of BanyInequal4 = refl

-- what is found in a list passes the test
find-passes : {X : Type 0} (test : X → Bool) (list : List X) → IfSome (find test list) (λ x. test x ≡ true)
find-passes test [] = tt
find-passes {X} test (x ∷ list) =
    let chosen : (b : Bool) → test x ≡ b → IfSome (cond b (Some x) (find test list)) (λ y. test y ≡ true) = λ b. elim b as (λ v. test x ≡ v → IfSome (cond v (Some x) (find test list)) (λ y. test y ≡ true)) [ true ↦ λ e. e | false ↦ λ e. find-passes test list ] in
    chosen (test x) refl

same_name : (name : List ℕ) (found : Option Op) → IfSome found (λ op. bytes_eq (name_of op) name ≡ true) → IfSome found (λ op. name_of op ≡ name)
same_name name None h = tt
same_name name (Some op) h = (bytes_eq-Decides (name_of op) name).0 h

pub op_named-named : (name : List ℕ) → IfSome (op_named name) (λ op. name_of op ≡ name)
unfolding op_named
op_named-named name = same_name name (op_named name) (find-passes (λ op. bytes_eq (name_of op) name) all_ops)
