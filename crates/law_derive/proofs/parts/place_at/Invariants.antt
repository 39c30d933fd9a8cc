use Rattle.std.proofs.Common.{◌≡◌, ◌+◌, length}
use Rattle.std.specs.Option.{option_map}
use Rattle.law_derive.specs.Nodes.{place_at}
use Rattle.law_derive.proofs.parts.place_at.Given as goal

-- the nodes that were passed, and the place behind them to which the rest of the path leads
abbrev pub invariant-path : goal.invariant-path
invariant-path l = record {
  so_far : option_map (λ q. l.place + q) (place_at l.left l.rest) ≡ place_at l.path l.nodes;
  whole : l.place + length l.rest ≡ length l.nodes;
}

abbrev pub decreases-path : goal.decreases-path
decreases-path l = length l.left
