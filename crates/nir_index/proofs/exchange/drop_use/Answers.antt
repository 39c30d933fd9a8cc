use Rattle.std.proofs.Common.{◌-◌, ◌≤◌, set, ap, sym, subst, ◌∙◌}
use Rattle.std.proofs.lemmas.Option.{get_or_from_slice_get, slice_get_within}
use Rattle.nir_index.proofs.TallyLemmas.{uncounted-one, uncounted-past}
use Rattle.nir_index.proofs.exchange.drop_use.Goals as goal

pub returns-then-at-len : goal.returns-then-at-len
returns-then-at-len c =
    ap (set c.args.counts.now c.args.used.0)
    (c.saturating_sub.ensures ∙ ap (λ n. n - 1) (sym (get_or_from_slice_get c.args.counts.now c.args.used.0 c.at_mut-count.result.now 0 c.at_mut-count.ensures.value)))
    ∙ uncounted-one c.args.used c.args.counts.now 0 (slice_get_within c.args.counts.now c.args.used.0 c.at_mut-count.result.now c.at_mut-count.ensures.value)

pub returns-else-at-len : goal.returns-else-at-len
returns-else-at-len c = uncounted-past c.args.used c.args.counts.now (subst (λ n. n ≤ c.args.used.0) c.len.ensures c.if-at-len.false)
