use Rattle.std.proofs.Common.{◌≡◌, drop, map}
use Rattle.rule_spelling.specs.Tokens.{place_of}
use Rattle.term_read.proofs.NamesLemmas.{behind}
use Rattle.term_read.proofs.state.place_of.Given as goal

-- the place in the rest of the list, behind those before it, is the place
abbrev pub invariant-loop-place : goal.invariant-loop-place
invariant-loop-place l =
    behind l.place (place_of l.name (drop l.place (map (λ one. one.now) l.list)))
    ≡ place_of l.name (map (λ one. one.now) l.list)
