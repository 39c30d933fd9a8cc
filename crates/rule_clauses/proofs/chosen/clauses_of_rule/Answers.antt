use Rattle.std.proofs.Common.{ap, ◌∙◌, subst, sym}
use Rattle.rule_read.specs.Says.{rule_says}
use Rattle.size_infer.specs.Grown.{all_widths_of}
use Rattle.rule_clauses.specs.declared.status.Status.{Status}
use Rattle.rule_clauses.specs.Asked.{bare, IsAsked, rule_answer}
use Rattle.rule_clauses.proofs.Finding.{faulty_sizes, found_among}
use Rattle.rule_clauses.proofs.chosen.clauses_of_rule.Goals as goal

pub returns-in-Ok-clause-fits : goal.returns-in-Ok-clause-fits
returns-in-Ok-clause-fits c =
    found_among c.args.choice c.args.rule.now (all_widths_of c.as_slice.result.now) _ c.in-Ok.ensures.fault (ap all_widths_of c.as_slice.ensures ∙ c.in-Ok.ensures.all)
    c.clauses_among.ensures.fits

pub returns-in-Err-clause-fits : goal.returns-in-Err-clause-fits
returns-in-Err-clause-fits c =
    subst (λ (ending : Status). IsAsked (rule_answer c.args.choice (bare (rule_says c.args.rule.now))) ending) (sym c.ends_by_sizes.ensures)
    (faulty_sizes c.args.choice c.args.rule.now c.in-Err.fault c.in-Err.ensures.fault)
