-- so many sizes are there
use Rattle.std.proofs.Common.{◌≡◌, replicate}
use Rattle.nir_ops.specs.declared.width.Width.TheVariants.{W8}
use Rattle.rule_term.proofs.eight.eights.Given as goal

abbrev pub invariant-loop-at : goal.invariant-loop-at
invariant-loop-at l = l.widths ≡ replicate l._at W8
