use Rattle.std.proofs.Common.{◌≡◌, ◌++◌, drop}
use Rattle.nir_mean.specs.OutcomeText.{outputs_text}
use Rattle.nir_mean.proofs.lines.push_outputs.Given as goal

abbrev pub invariant-loop-comps : goal.invariant-loop-comps
invariant-loop-comps l = (l.out.items ++ outputs_text l.slot (drop l.comps-index l.fn.outputs) ≡ l.initial.out.items ++ outputs_text 0 l.fn.outputs) × (l.slot ≡ l.comps-index)
