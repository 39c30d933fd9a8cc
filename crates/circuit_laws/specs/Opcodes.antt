-- The circuit of each opcode that has one, over the words of its sources and so many bits of its result.
use Rattle.std.specs.Prelude.{ℕ, Bool, true, false, List, [], ◌∷◌, ◌++◌, length, replicate, take, drop}
use Rattle.std.specs.List.{slice_index_or}
use Rattle.std.specs.Int.Count.{count_trailing_zeros}
use Rattle.nir_ops.specs.declared.op.Op.{Op}
use Rattle.nir_ops.specs.declared.op.Op.TheVariants.{Iadd, Isub, Imul, Ineg, Iabs, Ishl, Ishr, Ushr, Urol, Uror, Inot, Iand, Ior, Ixor, Ilt, Ige, Ult, Uge, Ieq, Ine, Bcsel, Imin, Imax, Umin, Umax, UaddCarry, UsubBorrow, UaddSat, UsubSat, FindLsb, BitfieldSelect, I2i8, I2i16, I2i32, I2i64, U2u8, U2u16, U2u32, U2u64, B2i8, B2i16, B2i32, B2i64, Pack64_2x32Split, Unpack64_2x32SplitX, Unpack64_2x32SplitY, Pack32_2x16Split, Unpack32_2x16SplitX, Unpack32_2x16SplitY}
use Rattle.circuit_laws.specs.Literals.{Lit, yes, no}
use Rattle.circuit_laws.specs.Gates.{Gate}
use Rattle.circuit_laws.specs.Blocks.{Block, plain, after, behind, and_word, xor_word, choice, selection, flipped, Sum, adder, sum_of, subtracter, negation, less_unsigned, less_signed, equality, shifter, raised, lowered, turned_up, turned_down, product, lowest_place, top, resized}

abbrev pub has_circuit : Op → Bool
has_circuit Iadd = true
has_circuit Isub = true
has_circuit Imul = true
has_circuit Ineg = true
has_circuit Iabs = true
has_circuit Ishl = true
has_circuit Ishr = true
has_circuit Ushr = true
has_circuit Urol = true
has_circuit Uror = true
has_circuit Inot = true
has_circuit Iand = true
has_circuit Ior = true
has_circuit Ixor = true
has_circuit Ilt = true
has_circuit Ige = true
has_circuit Ult = true
has_circuit Uge = true
has_circuit Ieq = true
has_circuit Ine = true
has_circuit Bcsel = true
has_circuit Imin = true
has_circuit Imax = true
has_circuit Umin = true
has_circuit Umax = true
has_circuit UaddCarry = true
has_circuit UsubBorrow = true
has_circuit UaddSat = true
has_circuit UsubSat = true
has_circuit FindLsb = true
has_circuit BitfieldSelect = true
has_circuit I2i8 = true
has_circuit I2i16 = true
has_circuit I2i32 = true
has_circuit I2i64 = true
has_circuit U2u8 = true
has_circuit U2u16 = true
has_circuit U2u32 = true
has_circuit U2u64 = true
has_circuit B2i8 = true
has_circuit B2i16 = true
has_circuit B2i32 = true
has_circuit B2i64 = true
has_circuit Pack64_2x32Split = true
has_circuit Unpack64_2x32SplitX = true
has_circuit Unpack64_2x32SplitY = true
has_circuit Pack32_2x16Split = true
has_circuit Unpack32_2x16SplitX = true
has_circuit Unpack32_2x16SplitY = true
has_circuit _ = false

-- the bits of a shift's count that tell by how many places a word is moved: the places of the greatest count, where the word has a power of two bits
abbrev pub count_bits : List Lit → List Lit → List Lit
count_bits xs ks = take (count_trailing_zeros 64 (length xs)) ks

abbrev pub moved_by : (ℕ → List Lit → List Lit) → List Lit → List Lit → ℕ → Block
moved_by moved xs ks n = shifter moved xs (count_bits xs ks) 0 n

-- the word of a test negated
abbrev pub inverse : Block → Block
inverse block = record { word = flipped block.word; gates = block.gates }

-- a choice by a test, behind its gates
abbrev pub choice_by : Block → List Lit → List Lit → ℕ → Block
choice_by test xs ys n = after test (choice (top test.word) xs ys (behind n test.gates))

-- a choice by the carry of a sum, behind its gates
abbrev pub choice_by_carry : Sum → List Lit → List Lit → ℕ → Block
choice_by_carry sum xs ys n = after (sum_of sum) (choice sum.carry xs ys (behind n sum.gates))

abbrev pub with_word : List Lit → List Gate → Block
with_word ls gates = record { word = ls; gates = gates }

abbrev pub none : ℕ → List Lit
none count = replicate count no

abbrev pub magnitude : List Lit → Sum → ℕ → Block
magnitude xs sum n = after (sum_of sum) (choice (top xs) sum.word xs (behind n sum.gates))

-- of d bits, from the words of the sources
unfoldable pub circuit : Op → ℕ → List Lit → List Lit → List Lit → ℕ → Block
circuit Iadd d x y z n = sum_of (adder x y no n)
circuit Isub d x y z n = sum_of (subtracter x y n)
circuit Imul d x y z n = product x y 0 (none (length x)) n
circuit Ineg d x y z n = sum_of (negation x n)
circuit Iabs d x y z n = magnitude x (negation x n) n
circuit Ishl d x y z n = moved_by (raised no) x y n
circuit Ishr d x y z n = moved_by (lowered (top x)) x y n
circuit Ushr d x y z n = moved_by (lowered no) x y n
circuit Urol d x y z n = moved_by turned_up x y n
circuit Uror d x y z n = moved_by turned_down x y n
circuit Inot d x y z n = plain (flipped x)
circuit Iand d x y z n = and_word x y n
circuit Ior d x y z n = inverse (and_word (flipped x) (flipped y) n)
circuit Ixor d x y z n = xor_word x y n
circuit Ilt d x y z n = less_signed x y n
circuit Ige d x y z n = inverse (less_signed x y n)
circuit Ult d x y z n = less_unsigned x y n
circuit Uge d x y z n = inverse (less_unsigned x y n)
circuit Ieq d x y z n = equality x y yes n
circuit Ine d x y z n = inverse (equality x y yes n)
circuit Bcsel d x y z n = choice (top x) y z n
circuit Imin d x y z n = choice_by (less_signed x y n) x y n
circuit Imax d x y z n = choice_by (less_signed x y n) y x n
circuit Umin d x y z n = choice_by (less_unsigned x y n) x y n
circuit Umax d x y z n = choice_by (less_unsigned x y n) y x n
circuit UaddCarry d x y z n = with_word (resized no d ((adder x y no n).carry ∷ [])) (adder x y no n).gates
circuit UsubBorrow d x y z n = with_word (resized no d (less_unsigned x y n).word) (less_unsigned x y n).gates
circuit UaddSat d x y z n = choice_by_carry (adder x y no n) (replicate (length x) yes) (adder x y no n).word n
circuit UsubSat d x y z n = choice_by_carry (subtracter x y n) (subtracter x y n).word (none (length x)) n
circuit FindLsb d x y z n = lowest_place x 0 n
circuit BitfieldSelect d x y z n = selection x y z n
circuit I2i8 d x y z n = plain (resized (top x) d x)
circuit I2i16 d x y z n = plain (resized (top x) d x)
circuit I2i32 d x y z n = plain (resized (top x) d x)
circuit I2i64 d x y z n = plain (resized (top x) d x)
circuit U2u8 d x y z n = plain (resized no d x)
circuit U2u16 d x y z n = plain (resized no d x)
circuit U2u32 d x y z n = plain (resized no d x)
circuit U2u64 d x y z n = plain (resized no d x)
circuit B2i8 d x y z n = plain (resized no d x)
circuit B2i16 d x y z n = plain (resized no d x)
circuit B2i32 d x y z n = plain (resized no d x)
circuit B2i64 d x y z n = plain (resized no d x)
circuit Pack64_2x32Split d x y z n = plain (x ++ y)
circuit Unpack64_2x32SplitX d x y z n = plain (take 32 x)
circuit Unpack64_2x32SplitY d x y z n = plain (drop 32 x)
circuit Pack32_2x16Split d x y z n = plain (x ++ y)
circuit Unpack32_2x16SplitX d x y z n = plain (take 16 x)
circuit Unpack32_2x16SplitY d x y z n = plain (drop 16 x)
-- the others have none
circuit _ d x y z n = plain []

-- the word at a place, none past the end
abbrev pub word_at : List (List Lit) → ℕ → List Lit
word_at words place = slice_index_or words place []

abbrev pub op_circuit : Op → ℕ → List (List Lit) → ℕ → Block
op_circuit op d words n = circuit op d (word_at words 0) (word_at words 1) (word_at words 2) n
