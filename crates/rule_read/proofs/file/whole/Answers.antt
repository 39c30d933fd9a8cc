use Rattle.std.proofs.Common.{Ok, refl, sym, ap, ◌∙◌}
use Rattle.std.proofs.lemmas.Result.{err_from_is_err_and}
use Rattle.nir_lex.specs.From.{tokens_behind}
use Rattle.grammar.specs.Words.{mark}
use Rattle.rule_spelling.specs.Files.{File}
use Rattle.rule_spelling.specs.RuleFiles.{rule_files, file}
use Rattle.rule_spelling.specs.Text.{terminals_of}
use Rattle.term_read.specs.ReadingLaws.{fails}
use Rattle.term_read.specs.Source.{Answer, ◌then◌, reads}
use Rattle.term_read.specs.Standing.{tokens_or_none}
use Rattle.term_read.specs.Views.{here, source}
use Rattle.rule_read.specs.Growing.{grown_says, no_file, with_items}
use Rattle.rule_read.specs.Items.{adds_items, all_items}
use Rattle.rule_read.proofs.WholeFiles.{at_close, behind_items, end_reads, end_stops, whole_closes, whole_ends, whole_opens}
use Rattle.rule_read.proofs.file.whole.Goals as goal

pub returns-in_err-grown : goal.returns-in_err-grown
returns-in_err-grown c =
    let q = err_from_is_err_and c.from_residual-in_err-grown.result c.from_residual-in_err-grown.ensures.1 in
    let s = source c.args.reader.now in
    let next = source c.mark.new.self in
    let total : Answer File = adds_items no_file file s in
    rw (q.1, q.2)
    (fails c.in_err-grown.field-0.0 (adds_items no_file all_items next) total
    (λ fault e. whole_opens (with_items no_file) all_items s next c.in_ok-mark.ensures ∙ ap (λ (o : Answer File). o then λ b s. behind_items b s) e)
    c.in_err-grown.ensures)

pub returns-in_err-mark-2 : goal.returns-in_err-mark-2
returns-in_err-mark-2 c =
    let q = err_from_is_err_and c.from_residual-in_err-mark-2.result c.from_residual-in_err-mark-2.ensures.1 in
    let s = source c.args.reader.now in
    let next = source c.mark.new.self in
    let behind = source c.items.new.reader in
    let found = grown_says c.in_ok-grown.grown in
    let total : Answer File = adds_items no_file file s in
    rw (q.1, q.2)
    (fails c.in_err-mark-2.field-0.0 (reads (mark rule_files 93) behind) total
    (λ fault e. whole_closes (with_items no_file) all_items s next c.in_ok-mark.ensures found behind c.in_ok-grown.ensures
    ∙ ap (λ (o : Answer (Unit {0})). o then λ _ s. at_close found s) e)
    c.in_err-mark-2.ensures)

pub returns-then-not-is_end : goal.returns-then-not-is_end
returns-then-not-is_end c =
    let s = source c.args.reader.now in
    let next = source c.mark.new.self in
    let behind = source c.items.new.reader in
    let last = source c.mark-2.new.self in
    let p = c.mark-2.new.self.point in
    let found = grown_says c.in_ok-grown.grown in
    rw c.expected.ensures
    (whole_ends (with_items no_file) all_items s next c.in_ok-mark.ensures found behind c.in_ok-grown.ensures last c.in_ok-mark-2.ensures
    ∙ ap (λ (o : Answer (Unit {0})). o then λ _ s. Ok (found, s))
    (end_stops last (here p) (terminals_of p.text.now (tokens_or_none (tokens_behind p.text.now p.token))) refl
    (sym c.is_end.ensures.value ∙ c.if-not-is_end.true)))

pub returns : goal.returns
returns c =
    let s = source c.args.reader.now in
    let next = source c.mark.new.self in
    let behind = source c.items.new.reader in
    let last = source c.mark-2.new.self in
    let p = c.mark-2.new.self.point in
    let found = grown_says c.in_ok-grown.grown in
    whole_ends (with_items no_file) all_items s next c.in_ok-mark.ensures found behind c.in_ok-grown.ensures last c.in_ok-mark-2.ensures
    ∙ ap (λ (o : Answer (Unit {0})). o then λ _ s. Ok (found, s))
    (end_reads last (here p) (c.is_end.ensures.last c.if-not-is_end.false) (sym c.is_end.ensures.value ∙ c.if-not-is_end.false))
