use Rattle.std.proofs.Common.{List, ℕ, Some, ap, ◌∙◌, refl, subst, true}
use Rattle.rule_read.specs.RuleFile.{RuleFile}
use Rattle.nir_mean.specs.ShaderText.{ReadsToEnd}
use Rattle.nir_opt.specs.declared.status.Status.{Status}
use Rattle.nir_opt.specs.Asked.{rules_answer}
use Rattle.nir_opt.specs.Texts.{FileFits}
use Rattle.nir_opt.proofs.TextAnswers.{fits_asked, longer, on_ok, rules-long}
use Rattle.nir_opt.proofs.texts.read_file.Goals as goal

pub returns-in-Err-TooLong-clause-text : goal.returns-in-Err-TooLong-clause-text
returns-in-Err-TooLong-clause-text g c = λ text told.
    let r = c.in-Err-TooLong.ensures.told text told in
    fits_asked 1 _ _ (rules-long true text (longer text r.taken r.rest 67108864 r.parts (r.too_long.0 (cc)))) refl

pub returns-in-Ok-clause-text : goal.returns-in-Ok-clause-text
returns-in-Ok-clause-text g c = λ text told.
    let r = c.in-Ok.ensures.told text told in
    subst (λ (t : List ℕ). FileFits c.file_of_text.result (rules_answer true t)) (c.as_slice.ensures ∙ r.all) c.file_of_text.ensures.text

pub returns-in-Ok-clause-end : goal.returns-in-Ok-clause-end
returns-in-Ok-clause-end g c =
    on_ok RuleFile Status (ReadsToEnd (g.R.Source.left c.args.rules.now) (g.R.Source.left c.read_all.new.src)) c.file_of_text.result
    (λ text told. let r = c.in-Ok.ensures.told text told in r.now_left ∙ ap (λ (rest : List ℕ). Some rest) r.spent)
