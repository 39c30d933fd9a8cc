use Rattle.std.proofs.Common.{◌≡◌, true, false, codes, sym, ◌∙◌}
use Rattle.grammar.specs.Terminals.{has, TheMark, TheWord}
use Rattle.rule_spelling.specs.RuleFiles.{evidence, item, rule}
use Rattle.term_read.specs.Source.{reads}
use Rattle.term_read.specs.Views.{here, source}
use Rattle.rule_read.proofs.ItemKinds.{item_line, item_rule, one_starts}
use Rattle.rule_read.proofs.items.item_into.Goals as goal

pub returns-then-is_mark : goal.returns-then-is_mark
returns-then-is_mark c =
    let reader = c.args.reader.now in
    let e : reads item (source reader) ≡ reads rule (source reader) =
    item_rule (source reader) (one_starts false (has (TheWord (codes "weight")) (here reader.point)) (sym c.is_word.ensures ∙ c.if-is_word.false))
    (one_starts true (has (TheMark 40) (here reader.point)) (sym c.is_mark.ensures ∙ c.if-is_mark.true)) in
    rw e c.rule_into.ensures

pub returns : goal.returns
returns c =
    let reader = c.args.reader.now in
    let e : reads item (source reader) ≡ reads evidence (source reader) =
    item_line (source reader) (one_starts false (has (TheWord (codes "weight")) (here reader.point)) (sym c.is_word.ensures ∙ c.if-is_word.false))
    (one_starts false (has (TheMark 40) (here reader.point)) (sym c.is_mark.ensures ∙ c.if-is_mark.false)) in
    rw e c.line_into.ensures
