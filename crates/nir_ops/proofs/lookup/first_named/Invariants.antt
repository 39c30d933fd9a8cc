use Rattle.std.proofs.Common.{◌≡◌, drop}
use Rattle.std.specs.Prelude.{find}
use Rattle.std.specs.Str.{bytes_eq}
use Rattle.nir_ops.specs.Opcodes.{name_of}
use Rattle.nir_ops.proofs.lookup.first_named.Given as goal

-- what the rest of the list answers is the answer
abbrev pub invariant-loop-op : goal.invariant-loop-op
invariant-loop-op l =
    find (λ op. bytes_eq (name_of op) l.text) (drop l.op-index l.ops) ≡ find (λ op. bytes_eq (name_of op) l.text) l.ops
