use Rattle.std.proofs.Common.{◌≡◌, Bool, true, false, [], ◌∷◌, refl, sym, ap, ◌∙◌}
use Rattle.std.proofs.lemmas.Result.{err_from_is_err_and}
use Rattle.grammar.specs.Terminals.{has, starts, TheMark}
use Rattle.rule_spelling.specs.Files.{File}
use Rattle.term_read.specs.FoldLaws.{added, fold_fails, fold_turns, gave, mapped_less}
use Rattle.term_read.specs.ReadingLaws.{fails}
use Rattle.term_read.specs.Source.{Answer}
use Rattle.term_read.specs.Views.{here, source, terminals}
use Rattle.rule_read.specs.Growing.{grown_says, with_item, with_items}
use Rattle.rule_read.specs.Items.{adds_items, adds_sought, other_items, sought_item}
use Rattle.rule_read.proofs.ItemKinds.{one_starts}
use Rattle.rule_read.proofs.items.others_into.Goals as goal

pub returns-in_err-next_item : goal.returns-in_err-next_item
returns-in_err-next_item c =
    let q = err_from_is_err_and c.from_residual.result c.from_residual.ensures.1 in
    let l = c.items in
    let total : Answer File = adds_items (grown_says c.args.grown.now) other_items (source c.args.reader.now) in
    let begun : starts (TheMark 44 ∷ []) (terminals l.reader.point) ≡ true =
    one_starts true (has (TheMark 44) (here l.reader.point)) (sym c.is_mark.ensures ∙ c.items-test.true) in
    rw (q.1, q.2)
    (fails c.in_err-next_item.field-0.0 (adds_sought (grown_says l.grown) sought_item (source l.reader)) total
    (λ fault e. fold_fails with_items with_item (λ b. refl) (λ b a list. refl) sought_item refl (grown_says l.grown) (source l.reader) total l.invariant.so_far fault
    begun e)
    c.in_err-next_item.ensures)

pub returns-then-not-branch : goal.returns-then-not-branch
returns-then-not-branch c =
    let l = c.items in
    let next = c.next_item.new in
    let total : Answer File = adds_items (grown_says c.args.grown.now) other_items (source c.args.reader.now) in
    let begun : starts (TheMark 44 ∷ []) (terminals l.reader.point) ≡ true =
    one_starts true (has (TheMark 44) (here l.reader.point)) (sym c.is_mark.ensures ∙ c.items-test.true) in
    fold_turns with_items with_item (λ b. refl) (λ b a list. refl) sought_item refl (grown_says l.grown) (source l.reader) total l.invariant.so_far false
    (grown_says next.grown) (source next.reader) begun
    (c.in_ok-next_item.ensures ∙ ap (λ (more : Bool). gave ((more, grown_says next.grown), source next.reader)) c.if-not-branch.true)

pub items-smaller : goal.items-smaller
items-smaller c =
    let l = c.items in
    let next = c.next_item.new in
    mapped_less (added with_item (grown_says l.grown)) sought_item refl (source l.reader) (c.in_ok-next_item.field-0, grown_says next.grown) (source next.reader)
    c.in_ok-next_item.ensures

pub items-preserved : goal.items-preserved
items-preserved c =
    let l = c.items in
    let next = c.next_item.new in
    let total : Answer File = adds_items (grown_says c.args.grown.now) other_items (source c.args.reader.now) in
    let begun : starts (TheMark 44 ∷ []) (terminals l.reader.point) ≡ true =
    one_starts true (has (TheMark 44) (here l.reader.point)) (sym c.is_mark.ensures ∙ c.items-test.true) in
    record {
      so_far = sym
          (fold_turns with_items with_item (λ b. refl) (λ b a list. refl) sought_item refl (grown_says l.grown) (source l.reader) total l.invariant.so_far true
          (grown_says next.grown) (source next.reader) begun
          (c.in_ok-next_item.ensures ∙ ap (λ (more : Bool). gave ((more, grown_says next.grown), source next.reader)) c.if-not-branch.false));
    }
