use Rattle.std.proofs.Common.{◌<◌, ◌^◌, ◌∙◌, sym, subst}
use Rattle.std.specs.Prelude.{slice_get}
use Rattle.op_eval.specs.Calls.{bits_of}
use Rattle.op_eval.specs.Views.{views_widths}
use Rattle.op_eval.proofs.ViewLemmas.{read_column, read_small}
use Rattle.op_eval.proofs.whole_list.component_at.Goals as goal

pub returns-then-source-args-clause-value : goal.returns-then-source-args-clause-value
returns-then-source-args-clause-value c =
    c.component.ensures ∙ read_column c.args.at c.args.source c.args.args.now c.index-args-source.result c.if-source-args.true

pub returns-then-source-args-clause-small : goal.returns-then-source-args-clause-small
returns-then-source-args-clause-small c =
    subst (λ n. n < 2 ^ bits_of (slice_get (views_widths c.args.args.now) c.args.source)) (sym c.component.ensures)
    (read_small c.args.at c.args.source c.args.args.now c.index-args-source.result c.if-source-args.true)
