use Rattle.std.proofs.Common.{◌≤◌, sym, subst}
use Rattle.nir_index.proofs.ExchangeLemmas.{exchanged-instr, exchanged-no_target, exchanged-past}
use Rattle.nir_index.proofs.exchange.exchange_definer.Goals as goal

pub returns-then-at-len : goal.returns-then-at-len
returns-then-at-len c = exchanged-instr c.args.instr c.in-Some.value (sym c.in-Some.ensures) c.args.definers.now c.at_mut-definer.result.now c.at_mut-definer.ensures.value

pub returns-else-at-len : goal.returns-else-at-len
returns-else-at-len c = exchanged-past c.args.instr c.in-Some.value (sym c.in-Some.ensures) c.args.definers.now (subst (λ n. n ≤ c.in-Some.value.0) c.len.ensures c.if-at-len.false)

pub returns-in_default : goal.returns-in_default
returns-in_default c = exchanged-no_target c.args.instr (sym c.in_default.ensures) c.args.definers.now
