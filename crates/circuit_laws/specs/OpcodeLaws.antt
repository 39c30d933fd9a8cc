-- The circuit of each opcode that has one is right, at all bit sizes that fit the opcode.
use Rattle.std.proofs.Common.{◌≡◌, ℕ, ◌+◌, ◌*◌, ◌/◌, ◌%◌, ◌^◌, ◌<◌, ◌≤◌, List, [], ◌∷◌, ◌++◌, length, take, drop, sym, ◌∙◌, ap, subst, arith, Bool, true, ◌&&◌, mod-eq_of_lt, lit≤}
use Rattle.std.specs.Cmp.Lexicographic.{pointwise}
use Rattle.std.proofs.lemmas.Bool.{and_parts, eqb-true, false≢true}
use Rattle.std.proofs.lemmas.Nat.{shr_below}
use Rattle.std.proofs.Math.Nat.{mod-mod}
use Rattle.std.proofs.lemmas.List.{length-append, length-take-le, length-drop}
use Rattle.nir_ops.specs.declared.op.Op.{Op}
use Rattle.nir_ops.specs.declared.op.Op.TheVariants.{Iadd, Isub, Imul, Ineg, Iabs, Ishl, Ishr, Ushr, Urol, Uror, Inot, Iand, Ior, Ixor, Ilt, Ige, Ult, Uge, Ieq, Ine, Bcsel, Imin, Imax, Umin, Umax, UaddCarry, UsubBorrow, UaddSat, UsubSat, FindLsb, BitfieldSelect, I2i8, I2i16, I2i32, I2i64, U2u8, U2u16, U2u32, U2u64, B2i8, B2i16, B2i32, B2i64, Pack64_2x32Split, Unpack64_2x32SplitX, Unpack64_2x32SplitY, Pack32_2x16Split, Unpack32_2x16SplitX, Unpack32_2x16SplitY}
use Rattle.nir_ops.specs.declared.width.Width.{Width}
use Rattle.nir_ops.specs.declared.width.Width.TheVariants.{W1, W8, W16, W32, W64}
use Rattle.nir_ops.specs.Width.{width_bits}
use Rattle.nir_ops.specs.Opcodes.{op_info, row_of, op_allows}
use Rattle.op_eval.specs.Calls.{same_width, sizes_fit, source_widths, result_width, unsized_width}
use Rattle.op_eval.specs.Meaning.{meaning, op_mean}
use Rattle.op_eval.specs.Word.{residue, signed}
use Rattle.op_eval.proofs.WordLemmas.{width_small}
use Rattle.circuit_laws.specs.MoveLaws.{IsPower, width_power}
use Rattle.circuit_laws.specs.ShiftLaws.{ishl_computes, ishr_computes, ushr_computes}
use Rattle.circuit_laws.specs.TurnLaws.{urol_computes, uror_computes}
use Rattle.circuit_laws.specs.ProductLaws.{imul_computes}
use Rattle.circuit_laws.specs.LowestLaws.{find_lsb_computes}
use Rattle.circuit_laws.specs.Literals.{Lit, word, no}
use Rattle.circuit_laws.specs.Gates.{AreBelow}
use Rattle.circuit_laws.specs.Blocks.{plain, top, resized}
use Rattle.circuit_laws.specs.Opcodes.{circuit, has_circuit}
use Rattle.circuit_laws.specs.Computes.{AreSized, AllBelow, IsBlock, Computes}
use Rattle.circuit_laws.specs.WordLaws.{word_small, word_append, word_take, word_drop, below_append, below_take, below_drop}
use Rattle.circuit_laws.specs.ResizeLaws.{resized_is, resized_signed, resized_length, resized_below, top_below}
use Rattle.circuit_laws.specs.SequenceLaws.{plain_block}
use Rattle.circuit_laws.specs.ArithmeticLaws.{iadd_computes, isub_computes, ineg_computes, iabs_computes, uadd_carry_computes, usub_borrow_computes, uadd_sat_computes, usub_sat_computes}
use Rattle.circuit_laws.specs.OrderLaws.{ilt_computes, ige_computes, ult_computes, uge_computes, ieq_computes, ine_computes, imin_computes, imax_computes, umin_computes, umax_computes}
use Rattle.circuit_laws.specs.BitLaws.{inot_computes, iand_computes, ior_computes, ixor_computes, bcsel_computes, bitfield_select_computes}

-- ---- the words of one, two or three sources

one : (made : List (List Lit) → Type 0) (n : ℕ) (a : Width) (words : List (List Lit)) → AreSized (a ∷ []) words → AllBelow n words
    → ((x : List Lit) → length x ≡ width_bits a → AreBelow n x → made (x ∷ [])) → made words
one made n a [] e f g = absurd e
one made n a (x ∷ []) e f g = g x e.0 f.0
one made n a (x ∷ y ∷ rest) e f g = absurd e.1

two : (made : List (List Lit) → Type 0) (n : ℕ) (a b : Width) (words : List (List Lit)) → AreSized (a ∷ b ∷ []) words → AllBelow n words
    → ((x y : List Lit) → length x ≡ width_bits a → length y ≡ width_bits b → AreBelow n x → AreBelow n y → made (x ∷ y ∷ [])) → made words
two made n a b [] e f g = absurd e
two made n a b (x ∷ []) e f g = absurd e.1
two made n a b (x ∷ y ∷ []) e f g = g x y e.0 e.1.0 f.0 f.1.0
two made n a b (x ∷ y ∷ z ∷ rest) e f g = absurd e.1.1

three : (made : List (List Lit) → Type 0) (n : ℕ) (a b c : Width) (words : List (List Lit)) → AreSized (a ∷ b ∷ c ∷ []) words → AllBelow n words
    → ((x y z : List Lit) → length x ≡ width_bits a → length y ≡ width_bits b → length z ≡ width_bits c → AreBelow n x → AreBelow n y → AreBelow n z → made (x ∷ y ∷ z ∷ [])) → made words
three made n a b c [] e f g = absurd e
three made n a b c (x ∷ []) e f g = absurd e.1
three made n a b c (x ∷ y ∷ []) e f g = absurd e.1.1
three made n a b c (x ∷ y ∷ z ∷ []) e f g = g x y z e.0 e.1.0 e.1.1.0 f.0 f.1.0 f.1.1.0
three made n a b c (x ∷ y ∷ z ∷ v ∷ rest) e f g = absurd e.1.1.1

-- ---- opcodes by the sizes of their sources and result

some_bits : (u : Width) → 1 ≤ width_bits u
some_bits W1 = lit≤ tt
some_bits W8 = lit≤ tt
some_bits W16 = lit≤ tt
some_bits W32 = lit≤ tt
some_bits W64 = lit≤ tt

-- a result as large as all sources
unary : (op : Op) (u : Width) (n : ℕ) (words : List (List Lit)) → 0 < n → AllBelow n words → AreSized (u ∷ []) words
    → ((x : List Lit) → 1 ≤ length x → AreBelow n x → Computes op (length x) (length x) n (x ∷ [])) → Computes op (width_bits u) (width_bits u) n words
unary op u n words p f e law =
    one (Computes op (width_bits u) (width_bits u) n) n u words e f
    (λ x h g. subst (λ w. Computes op w w n (x ∷ [])) h (law x (subst (λ w. 1 ≤ w) (sym h) (some_bits u)) g))

binary : (op : Op) (u : Width) (n : ℕ) (words : List (List Lit)) → 0 < n → AllBelow n words → AreSized (u ∷ u ∷ []) words
    → ((x y : List Lit) → 1 ≤ length x → length x ≡ length y → AreBelow n x → AreBelow n y → Computes op (length x) (length x) n (x ∷ y ∷ [])) → Computes op (width_bits u) (width_bits u) n words
binary op u n words p f e law =
    two (Computes op (width_bits u) (width_bits u) n) n u u words e f
    (λ x y h i g k. subst (λ w. Computes op w w n (x ∷ y ∷ [])) h (law x y (subst (λ w. 1 ≤ w) (sym h) (some_bits u)) (h ∙ sym i) g k))

-- a result of one bit
test : (op : Op) (u : Width) (n : ℕ) (words : List (List Lit)) → 0 < n → AllBelow n words → AreSized (u ∷ u ∷ []) words
    → ((x y : List Lit) → 1 ≤ length x → length x ≡ length y → AreBelow n x → AreBelow n y → Computes op (length x) 1 n (x ∷ y ∷ [])) → Computes op (width_bits u) 1 n words
test op u n words p f e law =
    two (Computes op (width_bits u) 1 n) n u u words e f
    (λ x y h i g k. subst (λ w. Computes op w 1 n (x ∷ y ∷ [])) h (law x y (subst (λ w. 1 ≤ w) (sym h) (some_bits u)) (h ∙ sym i) g k))

-- a word moved by a count of 32 bits
moved : (op : Op) (u : Width) (n : ℕ) (words : List (List Lit)) → AllBelow n words → AreSized (u ∷ W32 ∷ []) words
    → ((x y : List Lit) → IsPower (length x) → 1 ≤ length x → AreBelow n x → AreBelow n y → Computes op (length x) (length x) n (x ∷ y ∷ [])) → Computes op (width_bits u) (width_bits u) n words
moved op u n words f e law =
    two (Computes op (width_bits u) (width_bits u) n) n u W32 words e f
    (λ x y h i g k. subst (λ w. Computes op w w n (x ∷ y ∷ [])) h (law x y (width_power u (length x) h) (subst (λ w. 1 ≤ w) (sym h) (some_bits u)) g k))

-- a result of a size of its own
converted : (op : Op) (u a : Width) (d n : ℕ) (words : List (List Lit)) → 0 < n → AllBelow n words → AreSized (a ∷ []) words
    → ((x : List Lit) → length x ≡ width_bits a → AreBelow n x → Computes op (width_bits u) d n (x ∷ [])) → Computes op (width_bits u) d n words
converted op u a d n words p f e law = one (Computes op (width_bits u) d n) n a words e f law

-- ---- sizes

extended : (d n : ℕ) (x : List Lit) → 0 < n → AreBelow n x → IsBlock n d (plain (resized no d x))
extended d n x p f = plain_block n d (resized no d x) (resized_length no d x) (resized_below n no d x p f)

extended_signed : (d n : ℕ) (x : List Lit) → 0 < n → AreBelow n x → IsBlock n d (plain (resized (top x) d x))
extended_signed d n x p f = plain_block n d (resized (top x) d x) (resized_length (top x) d x) (resized_below n (top x) d x (top_below n x p f) f)

signed_from : (α : ℕ → Bool) (d w : ℕ) (x : List Lit) → 1 ≤ w → length x ≡ w → word α (resized (top x) d x) ≡ residue d (signed w (word α x))
signed_from α d w x some e = resized_signed α d x (subst (λ m. 1 ≤ m) (sym e) some) ∙ ap (λ m. residue d (signed m (word α x))) e

-- ---- each opcode

-- at each unsized bit size
abbrev pub IsRight : Op → Type 0
IsRight op =
    (u : Width) (n : ℕ) (words : List (List Lit)) → 0 < n → AllBelow n words → AreSized (source_widths op u) words
    → Computes op (width_bits u) (width_bits (result_width op u)) n words

iadd_right : IsRight Iadd
unfolding source_widths result_width op_info row_of
iadd_right u n words p f e = binary Iadd u n words p f e (λ x y some h g k. iadd_computes n x y h p g k)

isub_right : IsRight Isub
unfolding source_widths result_width op_info row_of
isub_right u n words p f e = binary Isub u n words p f e (λ x y some h g k. isub_computes n x y h p g k)

imul_right : IsRight Imul
unfolding source_widths result_width op_info row_of
imul_right u n words p f e = binary Imul u n words p f e (λ x y some h g k. imul_computes n x y h p g k)

iand_right : IsRight Iand
unfolding source_widths result_width op_info row_of
iand_right u n words p f e = binary Iand u n words p f e (λ x y some h g k. iand_computes n x y h p g k)

ior_right : IsRight Ior
unfolding source_widths result_width op_info row_of
ior_right u n words p f e = binary Ior u n words p f e (λ x y some h g k. ior_computes n x y h p g k)

ixor_right : IsRight Ixor
unfolding source_widths result_width op_info row_of
ixor_right u n words p f e = binary Ixor u n words p f e (λ x y some h g k. ixor_computes n x y h p g k)

imin_right : IsRight Imin
unfolding source_widths result_width op_info row_of
imin_right u n words p f e = binary Imin u n words p f e (λ x y some h g k. imin_computes n x y some h p g k)

imax_right : IsRight Imax
unfolding source_widths result_width op_info row_of
imax_right u n words p f e = binary Imax u n words p f e (λ x y some h g k. imax_computes n x y some h p g k)

umin_right : IsRight Umin
unfolding source_widths result_width op_info row_of
umin_right u n words p f e = binary Umin u n words p f e (λ x y some h g k. umin_computes n x y h p g k)

umax_right : IsRight Umax
unfolding source_widths result_width op_info row_of
umax_right u n words p f e = binary Umax u n words p f e (λ x y some h g k. umax_computes n x y h p g k)

uadd_carry_right : IsRight UaddCarry
unfolding source_widths result_width op_info row_of
uadd_carry_right u n words p f e = binary UaddCarry u n words p f e (λ x y some h g k. uadd_carry_computes n x y h p g k)

usub_borrow_right : IsRight UsubBorrow
unfolding source_widths result_width op_info row_of
usub_borrow_right u n words p f e = binary UsubBorrow u n words p f e (λ x y some h g k. usub_borrow_computes n x y h p g k)

uadd_sat_right : IsRight UaddSat
unfolding source_widths result_width op_info row_of
uadd_sat_right u n words p f e = binary UaddSat u n words p f e (λ x y some h g k. uadd_sat_computes n x y h p g k)

usub_sat_right : IsRight UsubSat
unfolding source_widths result_width op_info row_of
usub_sat_right u n words p f e = binary UsubSat u n words p f e (λ x y some h g k. usub_sat_computes n x y h p g k)

ineg_right : IsRight Ineg
unfolding source_widths result_width op_info row_of
ineg_right u n words p f e = unary Ineg u n words p f e (λ x some g. ineg_computes n x p g)

iabs_right : IsRight Iabs
unfolding source_widths result_width op_info row_of
iabs_right u n words p f e = unary Iabs u n words p f e (λ x some g. iabs_computes n x some p g)

inot_right : IsRight Inot
unfolding source_widths result_width op_info row_of
inot_right u n words p f e = unary Inot u n words p f e (λ x some g. inot_computes n x p g)

ilt_right : IsRight Ilt
unfolding source_widths result_width op_info row_of
ilt_right u n words p f e = test Ilt u n words p f e (λ x y some h g k. ilt_computes n x y some h p g k)

ige_right : IsRight Ige
unfolding source_widths result_width op_info row_of
ige_right u n words p f e = test Ige u n words p f e (λ x y some h g k. ige_computes n x y some h p g k)

ult_right : IsRight Ult
unfolding source_widths result_width op_info row_of
ult_right u n words p f e = test Ult u n words p f e (λ x y some h g k. ult_computes n x y h p g k)

uge_right : IsRight Uge
unfolding source_widths result_width op_info row_of
uge_right u n words p f e = test Uge u n words p f e (λ x y some h g k. uge_computes n x y h p g k)

ieq_right : IsRight Ieq
unfolding source_widths result_width op_info row_of
ieq_right u n words p f e = test Ieq u n words p f e (λ x y some h g k. ieq_computes n x y h p g k)

ine_right : IsRight Ine
unfolding source_widths result_width op_info row_of
ine_right u n words p f e = test Ine u n words p f e (λ x y some h g k. ine_computes n x y h p g k)

ishl_right : IsRight Ishl
unfolding source_widths result_width op_info row_of
ishl_right u n words p f e = moved Ishl u n words f e (λ x y power some g k. ishl_computes n x y power p g k)

ishr_right : IsRight Ishr
unfolding source_widths result_width op_info row_of
ishr_right u n words p f e = moved Ishr u n words f e (λ x y power some g k. ishr_computes n x y power p g k)

ushr_right : IsRight Ushr
unfolding source_widths result_width op_info row_of
ushr_right u n words p f e = moved Ushr u n words f e (λ x y power some g k. ushr_computes n x y power p g k)

urol_right : IsRight Urol
unfolding source_widths result_width op_info row_of
urol_right u n words p f e = moved Urol u n words f e (λ x y power some g k. urol_computes n x y power g k)

uror_right : IsRight Uror
unfolding source_widths result_width op_info row_of
uror_right u n words p f e = moved Uror u n words f e (λ x y power some g k. uror_computes n x y power g k)

bcsel_right : IsRight Bcsel
unfolding source_widths result_width op_info row_of
bcsel_right u n words p f e =
    three (Computes Bcsel (width_bits u) (width_bits u) n) n W1 u u words e f
    (λ b y z h i j g k l. subst (λ w. Computes Bcsel w w n (b ∷ y ∷ z ∷ [])) i (bcsel_computes n b y z h (i ∙ sym j) p g k l))

bitfield_select_right : IsRight BitfieldSelect
unfolding source_widths result_width op_info row_of
bitfield_select_right u n words p f e =
    three (Computes BitfieldSelect (width_bits u) (width_bits u) n) n u u u words e f
    (λ x y z h i j g k l. subst (λ w. Computes BitfieldSelect w w n (x ∷ y ∷ z ∷ [])) h (bitfield_select_computes n x y z (h ∙ sym i) (h ∙ sym j) p g k l))

find_lsb_right : IsRight FindLsb
unfolding source_widths result_width op_info row_of
find_lsb_right u n words p f e =
    converted FindLsb u u 32 n words p f e (λ x h g. subst (λ w. Computes FindLsb w 32 n (x ∷ [])) h (find_lsb_computes n x (subst (λ w. w ≤ 64) (sym h) (width_small u)) p g))

i2i8_right : IsRight I2i8
unfolding source_widths result_width op_info row_of circuit op_mean meaning
i2i8_right u n words p f e =
    converted I2i8 u u 8 n words p f e (λ x h g. record { block = extended_signed 8 n x p g; value = λ α t made. signed_from α 8 (width_bits u) x (some_bits u) h })

i2i16_right : IsRight I2i16
unfolding source_widths result_width op_info row_of circuit op_mean meaning
i2i16_right u n words p f e =
    converted I2i16 u u 16 n words p f e (λ x h g. record { block = extended_signed 16 n x p g; value = λ α t made. signed_from α 16 (width_bits u) x (some_bits u) h })

i2i32_right : IsRight I2i32
unfolding source_widths result_width op_info row_of circuit op_mean meaning
i2i32_right u n words p f e =
    converted I2i32 u u 32 n words p f e (λ x h g. record { block = extended_signed 32 n x p g; value = λ α t made. signed_from α 32 (width_bits u) x (some_bits u) h })

i2i64_right : IsRight I2i64
unfolding source_widths result_width op_info row_of circuit op_mean meaning
i2i64_right u n words p f e =
    converted I2i64 u u 64 n words p f e (λ x h g. record { block = extended_signed 64 n x p g; value = λ α t made. signed_from α 64 (width_bits u) x (some_bits u) h })

u2u8_right : IsRight U2u8
unfolding source_widths result_width op_info row_of circuit op_mean meaning residue
u2u8_right u n words p f e = converted U2u8 u u 8 n words p f e (λ x h g. record { block = extended 8 n x p g; value = λ α t made. resized_is α 8 x t })

u2u16_right : IsRight U2u16
unfolding source_widths result_width op_info row_of circuit op_mean meaning residue
u2u16_right u n words p f e = converted U2u16 u u 16 n words p f e (λ x h g. record { block = extended 16 n x p g; value = λ α t made. resized_is α 16 x t })

u2u32_right : IsRight U2u32
unfolding source_widths result_width op_info row_of circuit op_mean meaning residue
u2u32_right u n words p f e = converted U2u32 u u 32 n words p f e (λ x h g. record { block = extended 32 n x p g; value = λ α t made. resized_is α 32 x t })

u2u64_right : IsRight U2u64
unfolding source_widths result_width op_info row_of circuit op_mean meaning residue
u2u64_right u n words p f e = converted U2u64 u u 64 n words p f e (λ x h g. record { block = extended 64 n x p g; value = λ α t made. resized_is α 64 x t })

b2i8_right : IsRight B2i8
unfolding source_widths result_width op_info row_of circuit op_mean meaning residue
b2i8_right u n words p f e = converted B2i8 u W1 8 n words p f e (λ x h g. record { block = extended 8 n x p g; value = λ α t made. resized_is α 8 x t })

b2i16_right : IsRight B2i16
unfolding source_widths result_width op_info row_of circuit op_mean meaning residue
b2i16_right u n words p f e = converted B2i16 u W1 16 n words p f e (λ x h g. record { block = extended 16 n x p g; value = λ α t made. resized_is α 16 x t })

b2i32_right : IsRight B2i32
unfolding source_widths result_width op_info row_of circuit op_mean meaning residue
b2i32_right u n words p f e = converted B2i32 u W1 32 n words p f e (λ x h g. record { block = extended 32 n x p g; value = λ α t made. resized_is α 32 x t })

b2i64_right : IsRight B2i64
unfolding source_widths result_width op_info row_of circuit op_mean meaning residue
b2i64_right u n words p f e = converted B2i64 u W1 64 n words p f e (λ x h g. record { block = extended 64 n x p g; value = λ α t made. resized_is α 64 x t })

-- two halves, the low one first
joined_is : (α : ℕ → Bool) (h : ℕ) (x y : List Lit) → length x ≡ h → length y ≡ h → word α (x ++ y) ≡ (word α x + 2 ^ h * word α y) % 2 ^ (h + h)
joined_is α h x y e f =
    let long : length (x ++ y) ≡ h + h = length-append x y ∙ omega (arith, e, f) in
    let small : word α (x ++ y) < 2 ^ (h + h) = subst (λ m. word α (x ++ y) < 2 ^ m) long (word_small α (x ++ y)) in
    let whole : word α (x ++ y) ≡ word α x + 2 ^ h * word α y = word_append α x y ∙ ap (λ m. word α x + 2 ^ m * word α y) e in
    whole ∙ sym (mod-eq_of_lt (subst (λ m. m < 2 ^ (h + h)) whole small))

joined_block : (n h : ℕ) (x y : List Lit) → length x ≡ h → length y ≡ h → AreBelow n x → AreBelow n y → IsBlock n (h + h) (plain (x ++ y))
joined_block n h x y e f g k = plain_block n (h + h) (x ++ y) (length-append x y ∙ omega (arith, e, f)) (below_append n x y g k)

-- the lower and the upper half of a word
low_is : (α : ℕ → Bool) (h : ℕ) (x : List Lit) → word α (take h x) ≡ (word α x % 2 ^ h) % 2 ^ h
low_is α h x = word_take α h x ∙ sym (mod-mod (word α x) (2 ^ h))

low_block : (n h : ℕ) (x : List Lit) → length x ≡ h + h → AreBelow n x → IsBlock n h (plain (take h x))
low_block n h x e f = plain_block n h (take h x) (length-take-le h x (omega (arith, e))) (below_take n h x f)

high_is : (α : ℕ → Bool) (h : ℕ) (x : List Lit) → length x ≡ h + h → word α (drop h x) ≡ (word α x / 2 ^ h) % 2 ^ h
high_is α h x e =
    let small : word α x < 2 ^ (h + h) = subst (λ m. word α x < 2 ^ m) e (word_small α x) in
    word_drop α h x ∙ sym (mod-eq_of_lt (shr_below (word α x) h h small))

high_block : (n h : ℕ) (x : List Lit) → length x ≡ h + h → AreBelow n x → IsBlock n h (plain (drop h x))
high_block n h x e f = plain_block n h (drop h x) (length-drop h x ∙ omega (arith, e)) (below_drop n h x f)

pack_64_right : IsRight Pack64_2x32Split
unfolding source_widths result_width op_info row_of circuit op_mean meaning residue
pack_64_right u n words p f e =
    two (Computes Pack64_2x32Split (width_bits u) 64 n) n W32 W32 words e f
    (λ x y i j g k. record { block = joined_block n 32 x y i j g k; value = λ α t made. joined_is α 32 x y i j })

unpack_64_x_right : IsRight Unpack64_2x32SplitX
unfolding source_widths result_width op_info row_of circuit op_mean meaning residue
unpack_64_x_right u n words p f e = converted Unpack64_2x32SplitX u W64 32 n words p f e (λ x i g. record { block = low_block n 32 x i g; value = λ α t made. low_is α 32 x })

unpack_64_y_right : IsRight Unpack64_2x32SplitY
unfolding source_widths result_width op_info row_of circuit op_mean meaning residue
unpack_64_y_right u n words p f e = converted Unpack64_2x32SplitY u W64 32 n words p f e (λ x i g. record { block = high_block n 32 x i g; value = λ α t made. high_is α 32 x i })

pack_32_right : IsRight Pack32_2x16Split
unfolding source_widths result_width op_info row_of circuit op_mean meaning residue
pack_32_right u n words p f e =
    two (Computes Pack32_2x16Split (width_bits u) 32 n) n W16 W16 words e f
    (λ x y i j g k. record { block = joined_block n 16 x y i j g k; value = λ α t made. joined_is α 16 x y i j })

unpack_32_x_right : IsRight Unpack32_2x16SplitX
unfolding source_widths result_width op_info row_of circuit op_mean meaning residue
unpack_32_x_right u n words p f e = converted Unpack32_2x16SplitX u W32 16 n words p f e (λ x i g. record { block = low_block n 16 x i g; value = λ α t made. low_is α 16 x })

unpack_32_y_right : IsRight Unpack32_2x16SplitY
unfolding source_widths result_width op_info row_of circuit op_mean meaning residue
unpack_32_y_right u n words p f e = converted Unpack32_2x16SplitY u W32 16 n words p f e (λ x i g. record { block = high_block n 16 x i g; value = λ α t made. high_is α 16 x i })

-- an opcode that has a circuit
pub op_right : (op : Op) → has_circuit op ≡ true → IsRight op
op_right Iadd has = iadd_right
op_right Isub has = isub_right
op_right Imul has = imul_right
op_right Ineg has = ineg_right
op_right Iabs has = iabs_right
op_right Ishl has = ishl_right
op_right Ishr has = ishr_right
op_right Ushr has = ushr_right
op_right Urol has = urol_right
op_right Uror has = uror_right
op_right Inot has = inot_right
op_right Iand has = iand_right
op_right Ior has = ior_right
op_right Ixor has = ixor_right
op_right Ilt has = ilt_right
op_right Ige has = ige_right
op_right Ult has = ult_right
op_right Uge has = uge_right
op_right Ieq has = ieq_right
op_right Ine has = ine_right
op_right Bcsel has = bcsel_right
op_right Imin has = imin_right
op_right Imax has = imax_right
op_right Umin has = umin_right
op_right Umax has = umax_right
op_right UaddCarry has = uadd_carry_right
op_right UsubBorrow has = usub_borrow_right
op_right UaddSat has = uadd_sat_right
op_right UsubSat has = usub_sat_right
op_right FindLsb has = find_lsb_right
op_right BitfieldSelect has = bitfield_select_right
op_right I2i8 has = i2i8_right
op_right I2i16 has = i2i16_right
op_right I2i32 has = i2i32_right
op_right I2i64 has = i2i64_right
op_right U2u8 has = u2u8_right
op_right U2u16 has = u2u16_right
op_right U2u32 has = u2u32_right
op_right U2u64 has = u2u64_right
op_right B2i8 has = b2i8_right
op_right B2i16 has = b2i16_right
op_right B2i32 has = b2i32_right
op_right B2i64 has = b2i64_right
op_right Pack64_2x32Split has = pack_64_right
op_right Unpack64_2x32SplitX has = unpack_64_x_right
op_right Unpack64_2x32SplitY has = unpack_64_y_right
op_right Pack32_2x16Split has = pack_32_right
op_right Unpack32_2x16SplitX has = unpack_32_x_right
op_right Unpack32_2x16SplitY has = unpack_32_y_right
op_right _ has = absurd (false≢true has)

-- sizes that fit an opcode, part by part
sizes_sized : (sizes widths : List Width) (words : List (List Lit)) → pointwise same_width sizes widths ≡ true → AreSized widths words → AreSized sizes words
sizes_sized [] [] words h e = e
sizes_sized [] (v ∷ vs) words h e = absurd (false≢true h)
sizes_sized (w ∷ ws) [] words h e = absurd (false≢true h)
sizes_sized (w ∷ ws) (v ∷ vs) [] h e = absurd e
sizes_sized (w ∷ ws) (v ∷ vs) (x ∷ xs) h e =
    let parts = and_parts (same_width w v) (pointwise same_width ws vs) h in
    (e.0 ∙ sym (eqb-true (width_bits w) (width_bits v) parts.0), sizes_sized ws vs xs parts.1 e.1)

-- the circuit of an opcode is right at all sizes that fit
pub op_computes : (op : Op) (dst : Width) (widths : List Width) (n : ℕ) (words : List (List Lit)) → has_circuit op ≡ true → sizes_fit op dst widths ≡ true → 0 < n → AllBelow n words
    → AreSized widths words → Computes op (width_bits (unsized_width op dst widths)) (width_bits dst) n words
unfolding sizes_fit
op_computes op dst widths n words has fit p f e =
    let unsized : Width = unsized_width op dst widths in
    let outer = and_parts (op_allows op unsized && same_width (result_width op unsized) dst) (pointwise same_width (source_widths op unsized) widths) fit in
    let inner = and_parts (op_allows op unsized) (same_width (result_width op unsized) dst) outer.0 in
    subst (λ d. Computes op (width_bits unsized) d n words) (eqb-true (width_bits (result_width op unsized)) (width_bits dst) inner.1)
    (op_right op has unsized n words p f (sizes_sized (source_widths op unsized) widths words outer.1 e))
