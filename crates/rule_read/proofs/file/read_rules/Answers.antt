use Rattle.std.proofs.Common.{◌≡◌, sym, ◌∙◌}
use Rattle.std.proofs.lemmas.Result.{err_from_is_err_and}
use Rattle.rule_spelling.specs.Files.{File}
use Rattle.rule_spelling.specs.RuleFiles.{file}
use Rattle.term_read.specs.ReadingLaws.{fails}
use Rattle.term_read.specs.Source.{Answer, Source}
use Rattle.term_read.specs.Views.{source}
use Rattle.rule_read.specs.FileText.{rules_of_text}
use Rattle.rule_read.specs.Growing.{grown_says, no_file}
use Rattle.rule_read.specs.Items.{adds_items}
use Rattle.rule_read.proofs.WholeFiles.{file_good, lex_told, rules_fail, rules_told, start}
use Rattle.rule_read.proofs.file.read_rules.Goals as goal

pub returns-in-Some : goal.returns-in-Some
returns-in-Some c = lex_told c.args.text.now c.in-Some.fault (sym c.first_fault.ensures.exact ∙ c.in-Some.is)

pub returns-in_err-grown : goal.returns-in_err-grown
returns-in_err-grown c =
    let q = err_from_is_err_and c.from_residual.result c.from_residual.ensures.1 in
    let text = c.args.text.now in
    let s : Source = source (record { point = c.first.result; state = c.new.result }) in
    let is : s ≡ start text = λ i. record { text = c.first.ensures.text i; state = c.new.ensures i; rest = c.first.ensures.all i } in
    let part : Answer File = adds_items no_file file s in
    rw (q.1, q.2)
    (fails c.in_err-grown.field-0.0 part (rules_of_text text)
    (λ fault e. rules_fail text (sym c.first_fault.ensures.exact ∙ c.in_default.is) s is fault e) c.in_err-grown.ensures)

pub invariant_of-result : goal.invariant_of-result
invariant_of-result c =
    let text = c.args.text.now in
    let s : Source = source (record { point = c.first.result; state = c.new.result }) in
    let is : s ≡ start text = λ i. record { text = c.first.ensures.text i; state = c.new.ensures i; rest = c.first.ensures.all i } in
    let grown = c.in_ok-grown.grown in
    file_good text (sym c.first_fault.ensures.exact ∙ c.in_default.is) s is (record { entries = grown.entries; weights = grown.weights })
    c.whole.new.reader.point.text.now c.whole.new.reader.state c.in_ok-grown.ensures

pub returns : goal.returns
returns c =
    let text = c.args.text.now in
    let s : Source = source (record { point = c.first.result; state = c.new.result }) in
    let is : s ≡ start text = λ i. record { text = c.first.ensures.text i; state = c.new.ensures i; rest = c.first.ensures.all i } in
    rules_told text (sym c.first_fault.ensures.exact ∙ c.in_default.is) s is (grown_says c.in_ok-grown.grown)
    c.whole.new.reader.point.text.now c.whole.new.reader.state c.in_ok-grown.ensures
