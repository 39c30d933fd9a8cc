use Rattle.std.proofs.Common.{◌∙◌}
use Rattle.nir_index.specs.Index.{IsLengthened}
use Rattle.nir_index.proofs.ExchangeLemmas.{on_err}
use Rattle.nir_index.proofs.exchange.lengthen_definers.Goals as goal

pub returns-in_err-push-clause-undone : goal.returns-in_err-push-clause-undone
returns-in_err-push-clause-undone c =
    on_err c.from_residual.result (IsLengthened c.args.definers.now c.push.new.self) (c.loop-more._more, c.in_err-push.ensures.err ∙ c.loop-more.invariant)
