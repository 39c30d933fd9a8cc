use Rattle.std.proofs.Common.{◌≡◌, ◌++◌, drop}
use Rattle.std.specs.List.{flat_map}
use Rattle.nir_mean.specs.OutcomeText.{store_text}
use Rattle.nir_mean.proofs.lines.push_stores.Given as goal

abbrev pub invariant-loop-made : goal.invariant-loop-made
invariant-loop-made l = l.out.items ++ flat_map store_text (drop l.made-index l.fn.stores) ≡ l.initial.out.items ++ flat_map store_text l.fn.stores
