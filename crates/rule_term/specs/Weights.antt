-- Weights of opcodes: a list of them in the order of the table of opcodes, of which that of a move is 0.
use Rattle.std.specs.Prelude.{ℕ, ◌≡◌, ◌≤◌, List, length, slice_index, All, cond}
use denote.Enum.Bare.{sameb}
use denote.Enum.Declared.{tag_of}
use Rattle.nir_ops.specs.contracts.op.Op as op
use Rattle.nir_ops.specs.declared.op.Op.{Op}
use Rattle.nir_ops.specs.declared.op.Op.TheVariants.{Mov}
use Rattle.nir_ops.specs.Lookup.{all_ops}

-- where an opcode stands in the table of opcodes
abbrev pub place_of : Op → ℕ
place_of o = tag_of op.the_type o

-- the weight of an opcode
abbrev pub weight_at : List ℕ → Op → ℕ
weight_at weights o = slice_index weights (place_of o)

-- the weight of an opcode for which none was set
abbrev pub initial_weight : Op → ℕ
initial_weight o = cond (sameb op.the_type o Mov) 0 1

-- a weight for each opcode, none above 60, and none for a move
pub record IsWeighed (weights : List ℕ) : Type 0 where
  pub count : length weights ≡ length all_ops
  pub few : All (λ weight. weight ≤ 60) weights
  pub mov : weight_at weights Mov ≡ 0
