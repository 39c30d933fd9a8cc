use Rattle.std.proofs.Common.{sym, ◌∙◌}
use Rattle.term_read.proofs.NamesLemmas.{place-here, place-passed}
use Rattle.term_read.proofs.state.place_of.Goals as goal

pub returns-then-eq : goal.returns-then-eq
returns-then-eq c =
    sym (place-here c.args.name.now c.args.list.now c.loop-place.place _ c.loop-place-test.true (sym c.eq.ensures ∙ c.if-eq.true))
    ∙ c.loop-place.invariant

pub loop-place-preserved : goal.loop-place-preserved
loop-place-preserved c =
    sym (place-passed c.args.name.now c.args.list.now c.loop-place.place _ c.loop-place-test.true (sym c.eq.ensures ∙ c.if-eq.false))
    ∙ c.loop-place.invariant
