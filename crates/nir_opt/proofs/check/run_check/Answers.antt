use Rattle.std.proofs.Common.{◌≡◌, ◌∙◌, true, ap, sym}
use Rattle.rule_check.specs.Accepted.{entries_say, refusals}
use Rattle.rule_read.specs.RuleFile.{RuleFile}
use Rattle.rule_read.specs.Says.{file_says}
use Rattle.run_words.specs.RunWords.{is_rules_alone}
use Rattle.nir_opt.specs.Asked.{verdict}
use Rattle.nir_opt.specs.Checked.{check_text}
use Rattle.nir_opt.proofs.Checks.{ran_to_end}
use Rattle.nir_opt.proofs.check.run_check.Goals as goal

pub returns : goal.returns
returns g c =
    let alone : is_rules_alone c.args.words.now ≡ true = sym c.is_rules_alone.ensures ∙ c.if-not-is_rules_alone.false in
    let here = c.as_slice.ensures ∙ ap (λ (file : RuleFile). file.entries) c.file.view_is in
    ran_to_end _ _ _ _ alone (file_says c.in-Ok.file) c.in-Ok.ensures.text c.in-Ok.ensures.end c.in-Ok-judge.judged.told.status c.written_whole.result c.in-Ok-judge.judged.text
    (c.in-Ok-judge.ensures.text ∙ ap (λ entries. check_text (entries_say entries)) here)
    (c.in-Ok-judge.ensures.verdict ∙ ap (λ entries. verdict (refusals (entries_say entries))) here)
    c.written_whole.ensures.status c.written_whole.ensures.notes
