use Rattle.std.proofs.Common.{◌≡◌, drop, map}
use Rattle.grammar.specs.Terminals.{is_among}
use Rattle.term_read.proofs.state.is_among.Given as goal

-- what the rest of the list answers is the answer
abbrev pub invariant-loop-one : goal.invariant-loop-one
invariant-loop-one l = is_among l.name (map (λ one. one.now) (drop l.one-index l.list)) ≡ is_among l.name (map (λ one. one.now) l.list)
