-- Buffers hold bytes: a store keeps that, and what is loaded is made of words of its bit size.
use Rattle.std.specs.Prelude.{ℕ, zero, suc, ◌+◌, ◌*◌, ◌/◌, ◌^◌, ◌<◌, Bool, true, false, cond, List, [], ◌∷◌, ◌++◌}
use Rattle.std.specs.List.{AllByRecursion, range_with_len, slice_index_or}
use Rattle.std.proofs.Common.{sym, subst, arith, lit<, take, drop}
use Rattle.std.proofs.Math.ListN.{set}
use Rattle.std.proofs.Math.Nat.{mod-lt, pow-suc}
use Rattle.std.proofs.lemmas.List.FromFn.{length-map-range_with_len}
use Rattle.std.proofs.lemmas.Nat.{pow_pos}
use Rattle.list_laws.specs.AllLaws.{all_append}
use Rattle.nir_ops.specs.declared.width.Width.{Width}
use Rattle.nir_ops.specs.declared.width.Width.TheVariants.{W1, W8, W16, W32, W64}
use Rattle.nir_ops.specs.Width.{width_bits}
use Rattle.nir_ir.specs.declared.kind.Kind.{Kind}
use Rattle.nir_mean.specs.Known.{HasKind}
use Rattle.nir_mean.specs.declared.outcome.Stored.{Stored}
use Rattle.nir_mean.specs.State.{World, bytes_of, is_inside, load, loaded, number_of, store, store_all, stored, width_bytes}
use Rattle.nir_mean.specs.ViewLaws.{are_words-map}

abbrev pub AreBytes : List ℕ → Type 0
AreBytes bytes = AllByRecursion (λ byte. byte < 256) bytes

abbrev pub BuffersHold : List (List ℕ) → Type 0
BuffersHold buffers = AllByRecursion AreBytes buffers

-- what holds of each of a list holds of each of a part of it
all_take : {A : Type 0} (P : A → Type 0) (n : ℕ) (list : List A) → AllByRecursion P list → AllByRecursion P (take n list)
all_take P zero list all = tt
all_take P (suc n) [] all = tt
all_take P (suc n) (a ∷ list) all = (all.0, all_take P n list all.1)

all_drop : {A : Type 0} (P : A → Type 0) (n : ℕ) (list : List A) → AllByRecursion P list → AllByRecursion P (drop n list)
all_drop P zero list all = all
all_drop P (suc n) [] all = tt
all_drop P (suc n) (a ∷ list) all = all_drop P n list all.1

all_set : {A : Type 0} (P : A → Type 0) (list : List A) (at : ℕ) (new : A) → AllByRecursion P list → P new → AllByRecursion P (set list at new)
all_set P [] at new all is = tt
all_set P (a ∷ list) zero new all is = (is, all.1)
all_set P (a ∷ list) (suc at) new all is = (all.0, all_set P list at new all.1 is)

all_at : {A : Type 0} (P : A → Type 0) (list : List A) (at : ℕ) (default : A) → AllByRecursion P list → P default → P (slice_index_or list at default)
all_at P [] at default all is = is
all_at P (a ∷ list) zero default all is = all.0
all_at P (a ∷ list) (suc at) default all is = all_at P list at default all.1 is

by_test : {A : Type 0} (P : A → Type 0) (test : Bool) (a b : A) → P a → P b → P (cond test a b)
by_test P true a b first second = first
by_test P false a b first second = second

-- the number that bytes make
bytes_pos : (size : ℕ) → 0 < 256 ^ size
bytes_pos zero = lit< tt
bytes_pos (suc size) = let p : 0 < 256 ^ size = bytes_pos size in subst (λ (n : ℕ). 0 < n) (sym (pow-suc 256 size)) (omega arith)

number_below : (size : ℕ) (bytes : List ℕ) → AreBytes bytes → number_of (take size bytes) < 256 ^ size
number_below zero bytes all = lit< tt
number_below (suc size) [] all = bytes_pos (suc size)
number_below (suc size) (byte ∷ bytes) all =
    let rest : number_of (take size bytes) < 256 ^ size = number_below size bytes all.1 in
    let first : byte < 256 = all.0 in
    subst (λ (n : ℕ). byte + 256 * number_of (take size bytes) < n) (sym (pow-suc 256 size)) (omega arith)

width_fits : (width : Width) (bytes : List ℕ) → AreBytes bytes → number_of (take (width_bytes width) bytes) < 2 ^ width_bits width
width_fits W1 bytes all = lit< tt
width_fits W8 bytes all = number_below 1 bytes all
width_fits W16 bytes all = number_below 2 bytes all
width_fits W32 bytes all = number_below 4 bytes all
width_fits W64 bytes all = number_below 8 bytes all

loaded_word : (width : Width) (bytes : List ℕ) (place : ℕ) → AreBytes bytes → loaded bytes (width_bytes width) place < 2 ^ width_bits width
loaded_word width bytes place all =
    by_test (λ n. n < 2 ^ width_bits width) (is_inside bytes (width_bytes width) place) (number_of (take (width_bytes width) (drop place bytes))) 0
    (width_fits width (drop place bytes) (all_drop (λ byte. byte < 256) place bytes all)) (pow_pos (width_bits width))

-- what is loaded has as many components as its kind says, each a word of its bit size
pub load_kind : (world : World) (kind : Kind) (buffer offset : ℕ) → BuffersHold world.buffers → HasKind kind (load world kind buffer offset)
load_kind world kind buffer offset hold =
    let bytes : List ℕ = slice_index_or world.buffers buffer [] in
    let component = λ (at : ℕ). loaded bytes (width_bytes kind.width) (offset + at * width_bytes kind.width) in
    record {
      count = length-map-range_with_len component 0 kind.count;
      words = are_words-map (width_bits kind.width) component (range_with_len 0 kind.count) (λ at. loaded_word kind.width bytes (offset + at * width_bytes kind.width) (all_at AreBytes world.buffers buffer [] hold tt));
    }

-- a number is stored as bytes
bytes_of-bytes : (count number : ℕ) → AreBytes (bytes_of count number)
bytes_of-bytes zero number = tt
bytes_of-bytes (suc count) number = (mod-lt number (lit< tt), bytes_of-bytes count (number / 256))

stored_bytes : (comp : ℕ) (bytes : List ℕ) (size place : ℕ) → AreBytes bytes → AreBytes (stored comp bytes size place)
stored_bytes comp bytes size place all =
    let is_byte = λ (byte : ℕ). byte < 256 in
    by_test AreBytes (is_inside bytes size place) (take place bytes ++ bytes_of size comp ++ drop (place + size) bytes) bytes
    (all_append is_byte (take place bytes ++ bytes_of size comp) (drop (place + size) bytes)
    (all_append is_byte (take place bytes) (bytes_of size comp) (all_take is_byte place bytes all) (bytes_of-bytes size comp))
    (all_drop is_byte (place + size) bytes all))
    all

store_all_bytes : (comps bytes : List ℕ) (size offset : ℕ) → AreBytes bytes → AreBytes (store_all comps bytes size offset)
store_all_bytes [] bytes size offset all = all
store_all_bytes (comp ∷ comps) bytes size offset all = store_all_bytes comps (stored comp bytes size offset) size (offset + size) (stored_bytes comp bytes size offset all)

-- after a store the buffers hold bytes
pub store_holds : (made : Stored) (world : World) → BuffersHold world.buffers → BuffersHold (store made world).buffers
store_holds made world hold =
    all_set AreBytes world.buffers made.buffer (store_all made.comps (slice_index_or world.buffers made.buffer []) (width_bytes made.kind.width) made.offset) hold
    (store_all_bytes made.comps (slice_index_or world.buffers made.buffer []) (width_bytes made.kind.width) made.offset (all_at AreBytes world.buffers made.buffer [] hold tt))
