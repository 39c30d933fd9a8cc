use Rattle.std.proofs.Common.{replicate, slice_set, sym, subst}
use Rattle.rule_term.specs.Weights.{IsWeighed}
use Rattle.rule_term.proofs.WeightLemmas.{weighed_start}
use Rattle.rule_term.proofs.table.initial_weights.Goals as goal

pub returns-clause-weighed : goal.returns-clause-weighed
returns-clause-weighed c = subst (λ place. IsWeighed (slice_set (replicate 88 1) place 0)) (sym c.place_of.ensures.place) weighed_start
