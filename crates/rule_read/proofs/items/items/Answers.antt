use Rattle.std.proofs.Common.{◌≡◌, sym, ap, ◌∙◌}
use Rattle.std.proofs.lemmas.Result.{err_from_is_err_and}
use Rattle.rule_spelling.specs.Files.{File}
use Rattle.rule_spelling.specs.RuleFiles.{item}
use Rattle.term_read.specs.ReadingLaws.{fails}
use Rattle.term_read.specs.Source.{Answer, ◌then◌}
use Rattle.term_read.specs.Views.{source}
use Rattle.rule_read.specs.Growing.{grown_says, no_file}
use Rattle.rule_read.specs.Items.{adds_item, adds_items, all_items, other_items}
use Rattle.rule_read.proofs.ItemKinds.{items_read}
use Rattle.rule_read.proofs.items.items.Goals as goal

pub returns-in_err-item_into : goal.returns-in_err-item_into
returns-in_err-item_into c =
    let q = err_from_is_err_and c.from_residual.result c.from_residual.ensures.1 in
    let s = source c.args.reader.now in
    let file = grown_says c.new-grown.result in
    let part : Answer File = adds_item file item s in
    let total : Answer File = adds_items no_file all_items s in
    let is : total ≡ (part then λ b s. adds_items b other_items s) =
    items_read file s c.new-grown.ensures (sym c.begins_item.ensures ∙ c.if-not-begins_item.false) in
    rw (q.1, q.2)
    (fails c.in_err-item_into.field-0.0 part total
    (λ fault e. is ∙ ap (λ (o : Answer File). o then λ b s. adds_items b other_items s) e)
    c.in_err-item_into.ensures)

pub returns-in_err-others_into : goal.returns-in_err-others_into
returns-in_err-others_into c =
    let q = err_from_is_err_and c.from_residual-in_err-others_into.result c.from_residual-in_err-others_into.ensures.1 in
    let s = source c.args.reader.now in
    let file = grown_says c.new-grown.result in
    let part : Answer File = adds_items (grown_says c.item_into.new.grown) other_items (source c.item_into.new.reader) in
    let total : Answer File = adds_items no_file all_items s in
    let is : total ≡ part =
    items_read file s c.new-grown.ensures (sym c.begins_item.ensures ∙ c.if-not-begins_item.false)
    ∙ ap (λ (o : Answer File). o then λ b s. adds_items b other_items s) c.in_ok-item_into.ensures in
    rw (q.1, q.2) (fails c.in_err-others_into.field-0.0 part total (λ fault e. is ∙ e) c.in_err-others_into.ensures)

pub returns : goal.returns
returns c =
    items_read (grown_says c.new-grown.result) (source c.args.reader.now) c.new-grown.ensures (sym c.begins_item.ensures ∙ c.if-not-begins_item.false)
    ∙ ap (λ (o : Answer File). o then λ b s. adds_items b other_items s) c.in_ok-item_into.ensures
    ∙ c.in_ok-others_into.ensures
