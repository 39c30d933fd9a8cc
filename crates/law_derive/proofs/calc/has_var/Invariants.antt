use Rattle.std.proofs.Common.{◌≡◌, drop}
use Rattle.law_derive.specs.Derivations.{has_var}
use Rattle.law_derive.proofs.calc.has_var.Given as goal

-- whether a variable is among the nodes that are left
abbrev pub invariant-loop-node : goal.invariant-loop-node
invariant-loop-node l = record { so_far : has_var (drop l.node-index l.nodes) ≡ has_var l.nodes }
