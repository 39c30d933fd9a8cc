-- no source before the place has a size of its own
use Rattle.std.proofs.Common.{◌≡◌, drop, is_none}
use Rattle.std.specs.List.{list_all}
use Rattle.rule_term.proofs.eight.are_unsized.Given as goal

abbrev pub invariant-loop-input : goal.invariant-loop-input
invariant-loop-input l = list_all (λ input. is_none input.kind.size) (drop l.input-index l.inputs) ≡ list_all (λ input. is_none input.kind.size) l.inputs
