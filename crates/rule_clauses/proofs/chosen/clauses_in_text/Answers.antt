use Rattle.std.proofs.Common.{subst, sym}
use Rattle.rule_clauses.specs.declared.status.Status.{Status}
use Rattle.rule_clauses.specs.Asked.{IsAsked, text_answer}
use Rattle.rule_clauses.proofs.Finding.{faulty_text, found_in_text}
use Rattle.rule_clauses.proofs.chosen.clauses_in_text.Goals as goal

pub returns-in-Ok-clause-fits : goal.returns-in-Ok-clause-fits
returns-in-Ok-clause-fits c = found_in_text c.args.choice c.args.text.now c.in-Ok.file _ c.requires c.in-Ok.ensures c.clauses_in_file.ensures.fits

pub returns-in-Err-clause-fits : goal.returns-in-Err-clause-fits
returns-in-Err-clause-fits c =
    subst (λ (ending : Status). IsAsked (text_answer c.args.choice c.args.text.now) ending) (sym c.ends_by.ensures)
    (faulty_text c.args.choice c.args.text.now c.in-Err.fault c.requires c.in-Err.ensures)
