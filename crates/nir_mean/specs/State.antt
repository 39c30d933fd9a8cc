-- The state of a shader as it runs: the components of each value, and what is outside of it: the bytes of the buffers, the outputs, and the stores that were made.
use Rattle.std.specs.Prelude.{ℕ, ◌+◌, ◌*◌, ◌/◌, ◌%◌, suc, zero, Bool, cond, nat_eq, nat_le, List, [], ◌∷◌, ◌++◌, length, map, replicate, Option, Some, None}
use Rattle.std.specs.List.{range_with_len, slice_index_or}
use Rattle.std.specs.Option.{option_map_or}
use Rattle.std.proofs.Common.{take, drop}
use Rattle.std.proofs.Math.ListN.{set}
use Rattle.nir_ops.specs.declared.width.Width.{Width}
use Rattle.nir_ops.specs.Width.{width_bits}
use Rattle.nir_ir.specs.declared.ids.ValueId.{ValueId}
use Rattle.nir_ir.specs.declared.kind.Kind.{Kind}
use Rattle.nir_ir.specs.Definitions.{kind_at}
use Rattle.nir_ir.specs.Nodes.{Nodes}
use Rattle.nir_mean.specs.declared.outcome.Stored.{Stored}
use Rattle.nir_mean.specs.Values.{Values}

-- the buffers as lists of bytes, one component list an output slot, and the stores in the order in which they were made
pub record World : Type 0 where
  pub buffers : List (List ℕ)
  pub outputs : List (List ℕ)
  pub stores : List Stored

pub record State : Type 0 where
  pub values : Values
  pub world : World

-- as many components of 0 as the kind says
abbrev pub zeros : Kind → List ℕ
zeros kind = replicate kind.count 0

-- a value that was never written is 0 in each component
abbrev pub unwritten : Nodes → Values
unwritten body n = option_map_or zeros (kind_at body (record { 0 = n })) []

-- the values, where this one has these components
abbrev pub with_value : ValueId → List ℕ → Values → Values
with_value id comps values n = cond (nat_eq n id.0) comps (values n)

abbrev pub with_target : Option ValueId → List ℕ → Values → Values
with_target None comps values = values
with_target (Some id) comps values = with_value id comps values

-- how many bytes a component of this size has
abbrev pub width_bytes : Width → ℕ
width_bytes width = width_bits width / 8

-- a number and its bytes, least byte first
abbrev pub number_of : List ℕ → ℕ
number_of [] = 0
number_of (byte ∷ bytes) = byte + 256 * number_of bytes

abbrev pub bytes_of : ℕ → ℕ → List ℕ
bytes_of zero number = []
bytes_of (suc count) number = number % 256 ∷ bytes_of count (number / 256)

-- a component of so many bytes at a place is wholly inside the buffer
abbrev pub is_inside : List ℕ → ℕ → ℕ → Bool
is_inside bytes size place = nat_le (place + size) (length bytes)

-- what is loaded there: 0 where the component is not wholly inside
abbrev pub loaded : List ℕ → ℕ → ℕ → ℕ
loaded bytes size place = cond (is_inside bytes size place) (number_of (take size (drop place bytes))) 0

-- the buffer after a component is stored there: as it was where the component is not wholly inside
abbrev pub stored : ℕ → List ℕ → ℕ → ℕ → List ℕ
stored comp bytes size place = cond (is_inside bytes size place) (take place bytes ++ bytes_of size comp ++ drop (place + size) bytes) bytes

-- components of this many bytes, one behind another from the offset on
abbrev pub load_all : List ℕ → ℕ → ℕ → ℕ → List ℕ
load_all bytes size count offset = map (λ at. loaded bytes size (offset + at * size)) (range_with_len 0 count)

abbrev pub store_all : List ℕ → List ℕ → ℕ → ℕ → List ℕ
store_all [] bytes size offset = bytes
store_all (comp ∷ comps) bytes size offset = store_all comps (stored comp bytes size offset) size (offset + size)

-- a load of a kind from a buffer
abbrev pub load : World → Kind → ℕ → ℕ → List ℕ
load world kind buffer offset = load_all (slice_index_or world.buffers buffer []) (width_bytes kind.width) kind.count offset

-- a store to a buffer
abbrev pub store : Stored → World → World
store made world = record world {
  buffers = set world.buffers made.buffer (store_all made.comps (slice_index_or world.buffers made.buffer []) (width_bytes made.kind.width) made.offset);
  stores = world.stores ++ made ∷ [];
}

-- an output to a slot replaces what was there
abbrev pub put_out : ℕ → List ℕ → World → World
put_out slot comps world = record world { outputs = set world.outputs slot comps }
