use Rattle.std.proofs.Common.{◌≡◌, replicate}
use Rattle.nir_ops.specs.Opcodes.{source_at, u}
use Rattle.nir_ops.specs.declared.row.Base.TheVariants.{Uint}
use Rattle.nir_ops.proofs.table.gather.Given as goal

abbrev pub invariant-loop-at : goal.invariant-loop-at
invariant-loop-at l = l.inputs ≡ replicate l._at (source_at Uint 1 u)
