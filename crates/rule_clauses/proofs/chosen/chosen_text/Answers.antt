use Rattle.std.proofs.Common.{List, ℕ, Some, ap, ◌∙◌, subst}
use Rattle.rule_clauses.specs.declared.status.Status.{Status}
use Rattle.rule_clauses.specs.Asked.{TextFits, text_answer}
use Rattle.rule_clauses.specs.Ran.{ReadsToEnd}
use Rattle.rule_clauses.proofs.Finding.{long_answer, longer, on_ok}
use Rattle.rule_clauses.proofs.chosen.chosen_text.Goals as goal

pub returns-in-Err-TooLong-clause-fits : goal.returns-in-Err-TooLong-clause-fits
returns-in-Err-TooLong-clause-fits g c = λ text told _.
    let r = c.in-Err-TooLong.ensures.told text told in
    long_answer c.args.choice text (longer text r.taken r.rest 67108864 r.parts (r.too_long.0 (cc)))

pub returns-in-Ok-clause-fits : goal.returns-in-Ok-clause-fits
returns-in-Ok-clause-fits g c = λ text told.
    let r = c.in-Ok.ensures.told text told in
    subst (λ (t : List ℕ). TextFits c.text_in.result (text_answer c.args.choice t)) (c.as_slice.ensures ∙ r.all) c.text_in.ensures.fits

pub returns-in-Ok-clause-end : goal.returns-in-Ok-clause-end
returns-in-Ok-clause-end g c =
    on_ok (List ℕ) Status (ReadsToEnd (g.R.Source.left c.args.rules.now) (g.R.Source.left c.read_all.new.src)) c.text_in.result
    (λ text told. let r = c.in-Ok.ensures.told text told in r.now_left ∙ ap (λ (rest : List ℕ). Some rest) r.spent)
