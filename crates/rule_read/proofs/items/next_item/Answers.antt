use Rattle.std.proofs.Common.{◌≡◌, true, Bool, Ok, refl, sym, ap, ◌∙◌}
use Rattle.std.proofs.lemmas.Result.{err_from_is_err_and}
use Rattle.rule_spelling.specs.Files.{File}
use Rattle.rule_spelling.specs.RuleFiles.{item}
use Rattle.term_read.specs.FoldLaws.{sought_adds}
use Rattle.term_read.specs.ReadingLaws.{fails}
use Rattle.term_read.specs.Source.{Answer, ◌then◌}
use Rattle.term_read.specs.Views.{source}
use Rattle.rule_read.specs.Growing.{grown_says, with_item}
use Rattle.rule_read.specs.Items.{adds_item, adds_sought, sought_item}
use Rattle.rule_read.proofs.items.next_item.Goals as goal

pub returns-in_err-item_into : goal.returns-in_err-item_into
returns-in_err-item_into c =
    let q = err_from_is_err_and c.from_residual-in_err-item_into.result c.from_residual-in_err-item_into.ensures.1 in
    let file = grown_says c.args.grown.now in
    let part : Answer File = adds_item file item (source c.mark.new.self) in
    let total : Answer (Bool × File) = adds_sought file sought_item (source c.args.reader.now) in
    let is : total ≡ (part then λ b s. Ok ((true, b), s)) =
    sought_adds with_item item refl file (source c.args.reader.now) (source c.mark.new.self) c.in_ok-mark.ensures
    (sym c.begins_item.ensures ∙ c.if-not-begins_item.false) in
    rw (q.1, q.2)
    (fails c.in_err-item_into.field-0.0 part total (λ fault e. is ∙ ap (λ (o : Answer File). o then λ b s. Ok ((true, b), s)) e) c.in_err-item_into.ensures)

pub returns : goal.returns
returns c =
    let file = grown_says c.args.grown.now in
    sought_adds with_item item refl file (source c.args.reader.now) (source c.mark.new.self) c.in_ok-mark.ensures
    (sym c.begins_item.ensures ∙ c.if-not-begins_item.false)
    ∙ ap (λ (o : Answer File). o then λ b s. Ok ((true, b), s)) c.in_ok-item_into.ensures
