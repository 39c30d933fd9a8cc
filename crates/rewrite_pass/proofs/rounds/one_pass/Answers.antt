use Rattle.std.proofs.Common.{◌≡◌, ◌∙◌, sym, subst, ◌≤◌, None, true, arith}
use Rattle.nir_search.specs.First.{first_hit}
use Rattle.nir_search.specs.FirstLaws.{settled_below}
use Rattle.nir_search.specs.Steps.{is_settled}
use Rattle.rewrite_pass.specs.Rewriting.{Advances}
use Rattle.rewrite_pass.specs.RewritingLaws.{advances_stays, advances_then, rewrites_then}
use Rattle.rewrite_pass.proofs.RoundsLemmas.{below_next}
use Rattle.rewrite_pass.proofs.rounds.one_pass.Goals as goal

pub returns-in_err-count-clause-steps : goal.returns-in_err-count-clause-steps
returns-in_err-count-clause-steps g c =
    rewrites_then c.args.options.now c.args.table.now.rules c.args.work.now.shader c.loop-number.work.shader c.rewrite_here.new.work.shader c.args.journal.now c.loop-number.journal c.rewrite_here.new.journal
    c.loop-number.invariant.steps.steps c.in_err-count.ensures.steps

pub loop-number-preserved : goal.loop-number-preserved
loop-number-preserved g c =
    let l = c.loop-number in
    let n = c.in_ok-count.field-0 in
    let own = c.in_ok-count.ensures in
    let start = c.args.work.now.shader in
    let after = c.rewrite_here.new.work.shader in
    let before_few : l.count ≤ c.args.limit = l.invariant.few in
    let own_few = own.few in
    record {
      steps = advances_then c.args.options.now c.args.table.now start l.work.shader after c.args.journal.now l.journal c.rewrite_here.new.journal l.count n l.invariant.steps own.done;
      few = omega (arith, before_few, own_few);
      none = λ zero some.
          let first : l.count ≡ 0 = omega (arith, zero) in
          let second : n ≡ 0 = omega (arith, zero) in
          let one : l.work.shader ≡ start =
          advances_stays c.args.options.now c.args.table.now start l.work.shader c.args.journal.now l.journal
          (subst (Advances c.args.options.now c.args.table.now start l.work.shader c.args.journal.now l.journal) first l.invariant.steps) in
          let two : after ≡ l.work.shader =
          advances_stays c.args.options.now c.args.table.now l.work.shader after l.journal c.rewrite_here.new.journal
          (subst (Advances c.args.options.now c.args.table.now l.work.shader after l.journal c.rewrite_here.new.journal) second own.done) in
          below_next (λ k. first_hit c.args.options.now c.args.table.now.rules start.body (record { 0 = k }) ≡ None) l.number (l.invariant.none first some)
          (subst (λ s. first_hit c.args.options.now c.args.table.now.rules s.body (record { 0 = l.number }) ≡ None) (two ∙ one) (own.none (omega (arith, first, second, some))));
    }

pub returns-clause-settled : goal.returns-clause-settled
returns-clause-settled g c = λ zero some.
    let l = c.loop-number in
    let start = c.args.work.now.shader in
    let bound = c.next_value-number-end.ensures in
    let same : l.work.shader ≡ start =
    advances_stays c.args.options.now c.args.table.now start l.work.shader c.args.journal.now l.journal
    (subst (Advances c.args.options.now c.args.table.now start l.work.shader c.args.journal.now l.journal) zero l.invariant.steps) in
    subst (λ s. is_settled c.args.options.now c.args.table.now.rules s ≡ true) (sym same)
    (settled_below c.args.options.now c.args.table.now.rules start c.keeps_shape.ensures.shaped (λ k less. l.invariant.none zero some k (omega (arith, less, bound, c.loop-number-test.false))))
