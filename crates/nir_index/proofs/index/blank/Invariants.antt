-- as many as were passed
use Rattle.std.proofs.Common.{◌≡◌}
use Rattle.std.specs.Prelude.{None, replicate}
use Rattle.nir_index.proofs.index.blank.Given as goal

abbrev pub invariant-loop-value : goal.invariant-loop-value
invariant-loop-value l = (l.definers ≡ replicate l._value (record { instr = None; phi = None })) × (l.counts ≡ replicate l._value 0)
