-- The table of the opcodes: of each its name, its bit sizes, its sources, its result and its marks. The names are those of nir_opcodes.py in Mesa's NIR.
use Rattle.std.specs.Prelude.{ℕ, List, [], ◌∷◌, Option, Some, None, cond, nat_eq, codes, map, replicate, Bool as Truth, true, false}
use Rattle.nir_ops.specs.declared.op.Op.{Op}
use Rattle.nir_ops.specs.declared.op.Op.TheVariants.{Iadd, Isub, Imul, Ineg, Iabs, Idiv, Udiv, Irem, Imod, Umod, Ishl, Ishr, Ushr, Urol, Uror, Inot, Iand, Ior, Ixor, Ilt, Ige, Ult, Uge, Ieq, Ine, Bcsel, Imin, Imax, Umin, Umax, UaddCarry, UsubBorrow, IaddSat, IsubSat, UaddSat, UsubSat, Uhadd, Ihadd, Urhadd, Irhadd, UabsIsub, UabsUsub, ImulHigh, UmulHigh, Imul2x32_64, Umul2x32_64, BitCount, UfindMsb, FindLsb, IfindMsb, BitfieldReverse, Bfm, Bfi, Ubfe, Ibfe, BitfieldSelect, I2i8, I2i16, I2i32, I2i64, U2u8, U2u16, U2u32, U2u64, B2i8, B2i16, B2i32, B2i64, Pack64_2x32Split, Unpack64_2x32SplitX, Unpack64_2x32SplitY, Pack32_2x16Split, Unpack32_2x16SplitX, Unpack32_2x16SplitY, ExtractU8, ExtractU16, ExtractI8, ExtractI16, Mov, Vec2, Vec3, Vec4, BallIequal2, BallIequal3, BallIequal4, BanyInequal2, BanyInequal3, BanyInequal4}
use Rattle.nir_ops.specs.declared.width.Width.{Width}
use Rattle.nir_ops.specs.declared.width.Width.TheVariants.{W1, W8, W16, W32, W64}
use Rattle.nir_ops.specs.declared.row.Base.{Base}
use Rattle.nir_ops.specs.declared.row.Base.TheVariants.{Int, Uint, Bool}
use Rattle.nir_ops.specs.declared.row.Sizes.{Sizes}
use Rattle.nir_ops.specs.declared.row.Sizes.TheVariants.{Whole, Every, Fixed}
use Rattle.nir_ops.specs.declared.row.OpType.{OpType}
use Rattle.nir_ops.specs.declared.row.OpInput.{OpInput}
use Rattle.nir_ops.specs.declared.row.OpInfo.{OpInfo}
use Rattle.nir_ops.specs.declared.props.Props.{Props}

-- a row: the bytes of the name, the bit sizes, and the rest as a program is told it
pub record Row : Type 0 where
  pub name : List ℕ
  pub sizes : Sizes
  pub info : OpInfo

-- the sizes of a source or result: u is unsized, n8 has 8 bits
abbrev pub u : Option Width
u = None

abbrev pub n1 : Option Width
n1 = Some W1

abbrev pub n8 : Option Width
n8 = Some W8

abbrev pub n16 : Option Width
n16 = Some W16

abbrev pub n32 : Option Width
n32 = Some W32

abbrev pub n64 : Option Width
n64 = Some W64

-- the marks, by their bits: 1 is commutative, 2 is associative
abbrev pub none : Props
none = record { 0 = 0 }

abbrev pub commutative : Props
commutative = record { 0 = 1 }

abbrev pub both : Props
both = record { 0 = 3 }

-- Int where the name begins with the letter i, else Uint
abbrev pub base_named : List ℕ → Base
base_named [] = Uint
base_named (letter ∷ rest) = cond (nat_eq letter 105) Int Uint

-- what has one bit is a truth value, and all else is as the name says
abbrev pub base_at : Base → Option Width → Base
base_at named None = named
base_at named (Some W1) = Bool
base_at named (Some W8) = named
base_at named (Some W16) = named
base_at named (Some W32) = named
base_at named (Some W64) = named

abbrev pub type_at : Base → Option Width → OpType
type_at named size = record { base = base_at named size; size = size }

-- a source of so many components, where 0 means as many as the result
abbrev pub source_at : Base → ℕ → Option Width → OpInput
source_at named count size = record { count = count; kind = type_at named size }

-- an opcode that works component by component
abbrev pub each : List ℕ → Sizes → List (Option Width) → Option Width → Props → Row
each name sizes sources out props = record {
  name = name;
  sizes = sizes;
  info = record {
    out_count = 0;
    out = type_at (base_named name) out;
    inputs = map (source_at (base_named name) 0) sources;
    props = props;
  };
}

-- an opcode that gathers so many sources of one component
abbrev pub gather : List ℕ → ℕ → Row
gather name count = record {
  name = name;
  sizes = Every;
  info = record {
    out_count = count;
    out = type_at (base_named name) u;
    inputs = replicate count (source_at (base_named name) 1 u);
    props = none;
  };
}

-- an opcode that makes one truth value of two sources of so many components
abbrev pub reduce : List ℕ → ℕ → Row
reduce name count = record {
  name = name;
  sizes = Every;
  info = record {
    out_count = 1;
    out = type_at (base_named name) n1;
    inputs = source_at (base_named name) count u ∷ source_at (base_named name) count u ∷ [];
    props = commutative;
  };
}

unfoldable pub row_of : Op → Row
row_of Iadd = each (codes "iadd") Whole (u ∷ u ∷ []) u both
row_of Isub = each (codes "isub") Whole (u ∷ u ∷ []) u none
row_of Imul = each (codes "imul") Whole (u ∷ u ∷ []) u both
row_of Ineg = each (codes "ineg") Whole (u ∷ []) u none
row_of Iabs = each (codes "iabs") Whole (u ∷ []) u none
row_of Idiv = each (codes "idiv") Whole (u ∷ u ∷ []) u none
row_of Udiv = each (codes "udiv") Whole (u ∷ u ∷ []) u none
row_of Irem = each (codes "irem") Whole (u ∷ u ∷ []) u none
row_of Imod = each (codes "imod") Whole (u ∷ u ∷ []) u none
row_of Umod = each (codes "umod") Whole (u ∷ u ∷ []) u none
row_of Ishl = each (codes "ishl") Whole (u ∷ n32 ∷ []) u none
row_of Ishr = each (codes "ishr") Whole (u ∷ n32 ∷ []) u none
row_of Ushr = each (codes "ushr") Whole (u ∷ n32 ∷ []) u none
row_of Urol = each (codes "urol") Whole (u ∷ n32 ∷ []) u none
row_of Uror = each (codes "uror") Whole (u ∷ n32 ∷ []) u none
row_of Inot = each (codes "inot") Every (u ∷ []) u none
row_of Iand = each (codes "iand") Every (u ∷ u ∷ []) u both
row_of Ior = each (codes "ior") Every (u ∷ u ∷ []) u both
row_of Ixor = each (codes "ixor") Every (u ∷ u ∷ []) u both
row_of Ilt = each (codes "ilt") Whole (u ∷ u ∷ []) n1 none
row_of Ige = each (codes "ige") Whole (u ∷ u ∷ []) n1 none
row_of Ult = each (codes "ult") Whole (u ∷ u ∷ []) n1 none
row_of Uge = each (codes "uge") Whole (u ∷ u ∷ []) n1 none
row_of Ieq = each (codes "ieq") Every (u ∷ u ∷ []) n1 commutative
row_of Ine = each (codes "ine") Every (u ∷ u ∷ []) n1 commutative
row_of Bcsel = each (codes "bcsel") Every (n1 ∷ u ∷ u ∷ []) u none
row_of Imin = each (codes "imin") Whole (u ∷ u ∷ []) u both
row_of Imax = each (codes "imax") Whole (u ∷ u ∷ []) u both
row_of Umin = each (codes "umin") Whole (u ∷ u ∷ []) u both
row_of Umax = each (codes "umax") Whole (u ∷ u ∷ []) u both
row_of UaddCarry = each (codes "uadd_carry") Whole (u ∷ u ∷ []) u commutative
row_of UsubBorrow = each (codes "usub_borrow") Whole (u ∷ u ∷ []) u none
row_of IaddSat = each (codes "iadd_sat") Whole (u ∷ u ∷ []) u commutative
row_of IsubSat = each (codes "isub_sat") Whole (u ∷ u ∷ []) u none
row_of UaddSat = each (codes "uadd_sat") Whole (u ∷ u ∷ []) u commutative
row_of UsubSat = each (codes "usub_sat") Whole (u ∷ u ∷ []) u none
row_of Uhadd = each (codes "uhadd") Whole (u ∷ u ∷ []) u commutative
row_of Ihadd = each (codes "ihadd") Whole (u ∷ u ∷ []) u commutative
row_of Urhadd = each (codes "urhadd") Whole (u ∷ u ∷ []) u commutative
row_of Irhadd = each (codes "irhadd") Whole (u ∷ u ∷ []) u commutative
row_of UabsIsub = each (codes "uabs_isub") Whole (u ∷ u ∷ []) u none
row_of UabsUsub = each (codes "uabs_usub") Whole (u ∷ u ∷ []) u none
row_of ImulHigh = each (codes "imul_high") Whole (u ∷ u ∷ []) u commutative
row_of UmulHigh = each (codes "umul_high") Whole (u ∷ u ∷ []) u commutative
row_of Imul2x32_64 = each (codes "imul_2x32_64") Fixed (n32 ∷ n32 ∷ []) n64 commutative
row_of Umul2x32_64 = each (codes "umul_2x32_64") Fixed (n32 ∷ n32 ∷ []) n64 commutative
row_of BitCount = each (codes "bit_count") Whole (u ∷ []) n32 none
row_of UfindMsb = each (codes "ufind_msb") Whole (u ∷ []) n32 none
row_of FindLsb = each (codes "find_lsb") Whole (u ∷ []) n32 none
row_of IfindMsb = each (codes "ifind_msb") Fixed (n32 ∷ []) n32 none
row_of BitfieldReverse = each (codes "bitfield_reverse") Fixed (n32 ∷ []) n32 none
row_of Bfm = each (codes "bfm") Fixed (n32 ∷ n32 ∷ []) n32 none
row_of Bfi = each (codes "bfi") Fixed (n32 ∷ n32 ∷ n32 ∷ []) n32 none
row_of Ubfe = each (codes "ubfe") Fixed (n32 ∷ n32 ∷ n32 ∷ []) n32 none
row_of Ibfe = each (codes "ibfe") Fixed (n32 ∷ n32 ∷ n32 ∷ []) n32 none
row_of BitfieldSelect = each (codes "bitfield_select") Whole (u ∷ u ∷ u ∷ []) u none
row_of I2i8 = each (codes "i2i8") Whole (u ∷ []) n8 none
row_of I2i16 = each (codes "i2i16") Whole (u ∷ []) n16 none
row_of I2i32 = each (codes "i2i32") Whole (u ∷ []) n32 none
row_of I2i64 = each (codes "i2i64") Whole (u ∷ []) n64 none
row_of U2u8 = each (codes "u2u8") Whole (u ∷ []) n8 none
row_of U2u16 = each (codes "u2u16") Whole (u ∷ []) n16 none
row_of U2u32 = each (codes "u2u32") Whole (u ∷ []) n32 none
row_of U2u64 = each (codes "u2u64") Whole (u ∷ []) n64 none
row_of B2i8 = each (codes "b2i8") Fixed (n1 ∷ []) n8 none
row_of B2i16 = each (codes "b2i16") Fixed (n1 ∷ []) n16 none
row_of B2i32 = each (codes "b2i32") Fixed (n1 ∷ []) n32 none
row_of B2i64 = each (codes "b2i64") Fixed (n1 ∷ []) n64 none
row_of Pack64_2x32Split = each (codes "pack_64_2x32_split") Fixed (n32 ∷ n32 ∷ []) n64 none
row_of Unpack64_2x32SplitX = each (codes "unpack_64_2x32_split_x") Fixed (n64 ∷ []) n32 none
row_of Unpack64_2x32SplitY = each (codes "unpack_64_2x32_split_y") Fixed (n64 ∷ []) n32 none
row_of Pack32_2x16Split = each (codes "pack_32_2x16_split") Fixed (n16 ∷ n16 ∷ []) n32 none
row_of Unpack32_2x16SplitX = each (codes "unpack_32_2x16_split_x") Fixed (n32 ∷ []) n16 none
row_of Unpack32_2x16SplitY = each (codes "unpack_32_2x16_split_y") Fixed (n32 ∷ []) n16 none
row_of ExtractU8 = each (codes "extract_u8") Whole (u ∷ u ∷ []) u none
row_of ExtractU16 = each (codes "extract_u16") Whole (u ∷ u ∷ []) u none
row_of ExtractI8 = each (codes "extract_i8") Whole (u ∷ u ∷ []) u none
row_of ExtractI16 = each (codes "extract_i16") Whole (u ∷ u ∷ []) u none
row_of Mov = each (codes "mov") Every (u ∷ []) u none
row_of Vec2 = gather (codes "vec2") 2
row_of Vec3 = gather (codes "vec3") 3
row_of Vec4 = gather (codes "vec4") 4
row_of BallIequal2 = reduce (codes "ball_iequal2") 2
row_of BallIequal3 = reduce (codes "ball_iequal3") 3
row_of BallIequal4 = reduce (codes "ball_iequal4") 4
row_of BanyInequal2 = reduce (codes "bany_inequal2") 2
row_of BanyInequal3 = reduce (codes "bany_inequal3") 3
row_of BanyInequal4 = reduce (codes "bany_inequal4") 4

-- the bytes of the name
unfoldable pub name_of : Op → List ℕ
name_of op = (row_of op).name

-- what a program is told of the opcode
unfoldable pub op_info : Op → OpInfo
op_info op = (row_of op).info

-- whether unsized sources and results may have this bit size
abbrev pub sizes_allow : Sizes → Width → Truth
sizes_allow Whole W1 = false
sizes_allow Whole W8 = true
sizes_allow Whole W16 = true
sizes_allow Whole W32 = true
sizes_allow Whole W64 = true
sizes_allow Every width = true
sizes_allow Fixed width = true

unfoldable pub op_allows : Op → Width → Truth
op_allows op width = sizes_allow (row_of op).sizes width
