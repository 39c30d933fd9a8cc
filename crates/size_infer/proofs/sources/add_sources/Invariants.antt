-- the sources before the place have the sizes of their inputs
use Rattle.std.proofs.Common.{◌≡◌, ◌++◌, drop, map}
use Rattle.size_laws.specs.NodeRules.{source_rules}
use Rattle.size_infer.specs.Meant.{meant}
use Rattle.size_infer.proofs.sources.add_sources.Given as goal

abbrev pub invariant-loop-at : goal.invariant-loop-at
invariant-loop-at l =
    map meant l.rules ++ source_rules (λ input. input.kind.size) l.free (drop l.at l.inputs) (drop l.at l.sources)
    ≡ map meant l.fn.rules ++ source_rules (λ input. input.kind.size) l.free l.inputs l.sources
