-- The phis, instructions and jumps of a block as texts.
use Rattle.std.specs.Prelude.{ℕ, zero, suc, ◌+◌, ◌-◌, ◌^◌, Bool, true, ◌&&◌, ◌==◌, List, [], ◌∷◌, length, drop, ℤ, pos, negsuc, Option, Some, None, Result, Ok, Err, nat_lt, codes, if◌then◌else◌}
use Rattle.std.specs.Option.{option_and_then}
use Rattle.std.specs.List.{list_any, range_with_len}
use Rattle.std.specs.Str.{bytes_eq}
use Rattle.nir_ops.specs.declared.op.Op.{Op}
use Rattle.nir_ops.specs.Opcodes.{op_info}
use Rattle.nir_ops.specs.Lookup.{op_named}
use Rattle.nir_ops.specs.Width.{width_bits}
use Rattle.nir_ir.specs.declared.ids.EffectId.{EffectId}
use Rattle.nir_ir.specs.declared.ids.ValueId.{ValueId}
use Rattle.nir_ir.specs.declared.instr.Instr.{Instr}
use Rattle.nir_ir.specs.declared.instr.Instr.TheVariants.{Alu, Const, Undef, Input, Output, LoadBuf, StoreBuf}
use Rattle.nir_ir.specs.declared.instr.Src.{Src}
use Rattle.nir_ir.specs.declared.kind.Kind.{Kind}
use Rattle.nir_ir.specs.declared.node.Jump.{Jump}
use Rattle.nir_ir.specs.declared.node.Jump.TheVariants.{Break, Continue}
use Rattle.nir_ir.specs.declared.node.Phi.{Phi}
use Rattle.nir_ir.specs.declared.node.PhiSource.{PhiSource}
use Rattle.nir_text.specs.declared.fault.TextFault.{TextFault}
use Rattle.nir_text.specs.declared.fault.TextFault.TheVariants.{Expected, UnknownOp}
use Rattle.nir_text.specs.Signs.{Sign, word_of, number_of_kind, kind_is_name, is_mark, is_word, first_of}
use Rattle.nir_text.specs.Naming.{Naming}
use Rattle.nir_text.specs.Reading.{Point, here, next, ◌>>=◌, mark_at, word_at, wanted, kind_at, index_at, value_defined_at, value_used_at, block_used_at, separated_at, bracketed_at}

-- the words of the grammar, none of which names an opcode
abbrev pub keywords : List (List ℕ)
keywords =
    codes "shader" ∷ codes "inputs" ∷ codes "outputs" ∷ codes "buffers" ∷ codes "block" ∷ codes "break" ∷ codes "continue" ∷ codes "if"
    ∷ codes "else" ∷ codes "loop" ∷ codes "phi" ∷ codes "const" ∷ codes "undef" ∷ codes "input" ∷ codes "load" ∷ codes "output" ∷ codes "store" ∷ []

unfoldable pub is_keyword : List ℕ → Bool
is_keyword word = list_any (λ keyword. bytes_eq keyword word) keywords

-- a component as a word of so many bits: a number below 0 counts from 2^bits
abbrev pub component_of : ℕ → ℤ → Option ℕ
component_of bits (pos n) = if nat_lt n (2 ^ bits) then Some n else None
component_of bits (negsuc n) = if nat_lt n (2 ^ (bits - 1)) then Some (2 ^ bits - suc n) else None

unfoldable pub component_at : Kind → Point → Result (ℕ × Point) TextFault
component_at kind p = wanted (option_and_then (component_of (width_bits kind.width)) (number_of_kind (here p).kind)) p

-- x, y, z, w
abbrev pub letter_of : ℕ → Option ℕ
letter_of byte =
    if byte == 120 then Some 0
    else (if byte == 121 then Some 1
    else (if byte == 122 then Some 2
    else (if byte == 119 then Some 3
    else None)))

abbrev pub letter_before : ℕ → Option (List ℕ) → Option (List ℕ)
letter_before component None = None
letter_before component (Some others) = Some (component ∷ others)

-- the letters of a swizzle, however many
abbrev pub letters_of : List ℕ → Option (List ℕ)
letters_of [] = Some []
letters_of (byte ∷ bytes) = option_and_then (λ component. letter_before component (letters_of bytes)) (letter_of byte)

-- 1 to 4 of them
unfoldable pub swizzle_of : List ℕ → Option (List ℕ)
swizzle_of word = if nat_lt 0 (length word) && nat_lt (length word) 5 then letters_of word else None

-- the number of components of a value, as its definition says
abbrev pub count_of : Naming → ValueId → ℕ
count_of names value = count_at names.counts value.0
  where
    count_at : List ℕ → ℕ → ℕ
    count_at [] n = 1
    count_at (count ∷ counts) zero = count
    count_at (count ∷ counts) (suc n) = count_at counts n

-- a value, with a swizzle or all of its components in order
unfoldable pub src_at : Naming → Point → Result (Src × Point) TextFault
src_at names p = do
  value ← value_used_at names p
  if is_mark 46 (here value.1)
      then (do
        swizzle ← wanted (option_and_then swizzle_of (word_of (here (next value.1)))) (next value.1)
        Ok (record { value = value.0; swizzle = swizzle.0 }, swizzle.1))
      else Ok (record { value = value.0; swizzle = range_with_len 0 (count_of names value.0) }, value.1)

-- what an opcode's word names
abbrev pub named_or : Option Op → Point → Result (Op × Point) TextFault
named_or None p = Err (UnknownOp (here p).place)
named_or (Some op) p = Ok (op, next p)

abbrev pub opcode_of : Option (List ℕ) → Point → Result (Op × Point) TextFault
opcode_of None p = Err (Expected (here p).place)
opcode_of (Some word) p = if is_keyword word then Err (Expected (here p).place) else named_or (op_named word) p

unfoldable pub opcode_at : Point → Result (Op × Point) TextFault
opcode_at p = opcode_of (word_of (here p)) p

unfoldable pub alu_at : Naming → ValueId → Point → Result (Instr × Point) TextFault
alu_at names value p = do
  op ← opcode_at p
  kind ← kind_at op.1
  srcs ← separated_at (λ k. src_at names) (length (op_info op.0).inputs) kind.1
  Ok (Alu value op.0 kind.0 srcs.0, srcs.1)

unfoldable pub const_at : ValueId → Point → Result (Instr × Point) TextFault
const_at value p = do
  kind ← kind_at p
  begun ← mark_at 40 kind.1
  comps ← separated_at (λ k. component_at kind.0) kind.0.count begun
  close ← mark_at 41 comps.1
  Ok (Const value kind.0 comps.0, close)

unfoldable pub undef_at : ValueId → Point → Result (Instr × Point) TextFault
undef_at value p = do
  kind ← kind_at p
  Ok (Undef value kind.0, kind.1)

unfoldable pub input_at : ValueId → Point → Result (Instr × Point) TextFault
input_at value p = do
  kind ← kind_at p
  at ← mark_at 64 kind.1
  slot ← index_at at
  Ok (Input value kind.0 slot.0, slot.1)

unfoldable pub load_at : Naming → ValueId → Point → Result (Instr × Point) TextFault
load_at names value p = do
  kind ← kind_at p
  at ← mark_at 64 kind.1
  buffer ← index_at at
  comma ← mark_at 44 buffer.1
  offset ← value_used_at names comma
  Ok (LoadBuf value kind.0 buffer.0 offset.0, offset.1)

-- an output or a store takes the next number of an effect
abbrev pub effect_begun : Point → Point
effect_begun p = record { rest = drop 1 p.rest; counts = record p.counts { effects = p.counts.effects + 1 } }

abbrev pub effect_here : Point → EffectId
effect_here p = record { 0 = p.counts.effects }

unfoldable pub output_at : Naming → Point → Result (Instr × Point) TextFault
output_at names p = do
  at ← mark_at 64 (effect_begun p)
  slot ← index_at at
  comma ← mark_at 44 slot.1
  src ← value_used_at names comma
  Ok (Output (effect_here p) slot.0 src.0, src.1)

unfoldable pub store_at : Naming → Point → Result (Instr × Point) TextFault
store_at names p = do
  at ← mark_at 64 (effect_begun p)
  buffer ← index_at at
  comma ← mark_at 44 buffer.1
  offset ← value_used_at names comma
  second ← mark_at 44 offset.1
  src ← value_used_at names second
  Ok (StoreBuf (effect_here p) buffer.0 offset.0 src.0, src.1)

-- what stands behind the name of a value and `=`
unfoldable pub definition_at : Naming → ValueId → Point → Result (Instr × Point) TextFault
definition_at names value p =
    if is_word (codes "const") (here p) then const_at value (next p)
    else (if is_word (codes "undef") (here p) then undef_at value (next p)
    else (if is_word (codes "input") (here p) then input_at value (next p)
    else (if is_word (codes "load") (here p) then load_at names value (next p)
    else alu_at names value p)))

unfoldable pub instr_at : Naming → Point → Result (Instr × Point) TextFault
instr_at names p =
    if is_word (codes "output") (here p) then output_at names p
    else (if is_word (codes "store") (here p) then store_at names p
    else (do
      value ← value_defined_at names p
      equals ← mark_at 61 value.1
      definition_at names value.0 equals))

-- what begins with a name, `output` or `store` is an instruction
unfoldable pub begins_instr : Sign → Bool
begins_instr sign = if kind_is_name sign.kind then true else (if is_word (codes "output") sign then true else is_word (codes "store") sign)

unfoldable pub instrs_at : Naming → ℕ → Point → Result (List Instr × Point) TextFault
instrs_at names zero p = Err (Expected (here p).place)
instrs_at names (suc fuel) p =
    if begins_instr (here p)
    then (do
      first ← instr_at names p
      others ← instrs_at names fuel first.1
      Ok (first.0 ∷ others.0, others.1))
    else Ok ([], p)

unfoldable pub source_at : Naming → Point → Result (PhiSource × Point) TextFault
source_at names p = do
  block ← block_used_at names p
  colon ← mark_at 58 block.1
  value ← value_used_at names colon
  Ok (record { from = block.0; value = value.0 }, value.1)

unfoldable pub phi_at : Naming → Point → Result (Phi × Point) TextFault
phi_at names p = do
  value ← value_defined_at names p
  equals ← mark_at 61 value.1
  word ← word_at (codes "phi") equals
  kind ← kind_at word
  sources ← bracketed_at (λ k. source_at names) kind.1
  Ok (record { value = value.0; kind = kind.0; sources = sources.0 }, sources.1)

-- a name, `=` and the word `phi` begin a phi
unfoldable pub begins_phi : List Sign → Bool
begins_phi signs = kind_is_name (first_of signs).kind && is_mark 61 (first_of (drop 1 signs)) && is_word (codes "phi") (first_of (drop 2 signs))

unfoldable pub phis_at : Naming → ℕ → Point → Result (List Phi × Point) TextFault
phis_at names zero p = Err (Expected (here p).place)
phis_at names (suc fuel) p =
    if begins_phi p.rest
    then (do
      first ← phi_at names p
      others ← phis_at names fuel first.1
      Ok (first.0 ∷ others.0, others.1))
    else Ok ([], p)

-- `break`, `continue` or neither
unfoldable pub jump_at : Point → Result (Option Jump × Point) TextFault
jump_at p =
    if is_word (codes "break") (here p) then Ok (Some Break, next p)
    else (if is_word (codes "continue") (here p) then Ok (Some Continue, next p)
    else Ok (None, p))
