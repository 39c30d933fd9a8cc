use Rattle.std.proofs.Common.{List, length, refl, sym, ap, ◌∙◌}
use Rattle.std.proofs.lemmas.Result.{err_from_is_err_and}
use Rattle.rule_read.specs.Lists.{another_behind, with_others}
use Rattle.term_read.specs.ReadingLaws.{fails, less_from}
use Rattle.term_read.specs.Source.{Answer, ◌then◌}
use Rattle.term_read.specs.Views.{source, terminals}
use Rattle.rule_read.proofs.ListLaws.{begun, behind_shorter, none_begun, others_end, others_go}
use Rattle.rule_read.proofs.list.with_others.Goals as goal

pub others-init : goal.others-init
others-init g c = record { so_far = refl }

pub others-smaller : goal.others-smaller
others-smaller g c =
    less_from (length (terminals c.another_behind.new.reader.point)) (length (terminals c.others.reader.point))
    (behind_shorter g.L.Listed.grammar (g.L.Listed.says c.others.list) (g.L.Listed.says c.another_behind.new.list) (source c.others.reader) (source c.another_behind.new.reader)
    c.in_ok-another_behind.ensures)

pub others-preserved : goal.others-preserved
others-preserved g c = record {
  so_far = sym
      (others_go g.L.Listed.grammar (g.L.Listed.says c.others.list) (source c.others.reader) (begun c.others.reader.point (sym c.is_mark.ensures ∙ c.others-test.true))
      ∙ ap (λ o. o then with_others g.L.Listed.grammar) c.in_ok-another_behind.ensures)
      ∙ c.others.invariant.so_far;
}

pub returns-in_err-another_behind : goal.returns-in_err-another_behind
returns-in_err-another_behind g c =
    let q = err_from_is_err_and c.from_residual.result c.from_residual.ensures.1 in
    let step : Answer (List g.L.Listed.Item) = another_behind g.L.Listed.grammar (g.L.Listed.says c.others.list) (source c.others.reader) in
    let total : Answer (List g.L.Listed.Item) = with_others g.L.Listed.grammar (g.L.Listed.says c.args.list.now) (source c.args.reader.now) in
    rw (q.1, q.2)
    (fails c.in_err-another_behind.field-0.0 step total
    (λ fault e.
    sym c.others.invariant.so_far
    ∙ others_go g.L.Listed.grammar (g.L.Listed.says c.others.list) (source c.others.reader) (begun c.others.reader.point (sym c.is_mark.ensures ∙ c.others-test.true))
    ∙ ap (λ o. o then with_others g.L.Listed.grammar) e)
    c.in_err-another_behind.ensures)

pub returns : goal.returns
returns g c =
    sym c.others.invariant.so_far
    ∙ others_end g.L.Listed.grammar (g.L.Listed.says c.others.list) (source c.others.reader)
    (none_begun c.others.reader.point (sym c.is_mark.ensures ∙ c.others-test.false))
