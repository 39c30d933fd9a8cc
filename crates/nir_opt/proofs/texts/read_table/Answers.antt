use Rattle.std.proofs.Common.{subst, sym}
use Rattle.nir_host.specs.Faults.{Rose}
use Rattle.rule_read.specs.Says.{file_says}
use Rattle.nir_opt.specs.Texts.{CheckedFits}
use Rattle.nir_opt.proofs.TextAnswers.{fits_however, reads_as_rules, rules-judged}
use Rattle.nir_opt.proofs.texts.read_table.Goals as goal

pub returns-in-Err-clause-text : goal.returns-in-Err-clause-text
returns-in-Err-clause-text g c = λ text told.
    let fault : Type 0 = Rose (g.R.Source.faults c.args.rules.now) (g.R.Source.faults c.read_file.new.rules) in
    fits_however c.args.skip text c.in-Err.status fault (reads_as_rules c.in-Err.status fault c.in-Err.ensures.stop) (c.in-Err.ensures.text text told)

pub returns-in-Err-clause-stop : goal.returns-in-Err-clause-stop
returns-in-Err-clause-stop g c =
    reads_as_rules c.in-Err.status (Rose (g.R.Source.faults c.args.rules.now) (g.R.Source.faults c.read_file.new.rules)) c.in-Err.ensures.stop

pub returns-in-Ok-clause-text : goal.returns-in-Ok-clause-text
returns-in-Ok-clause-text g c = λ text told.
    subst (CheckedFits c.check_rules.result) (sym (rules-judged c.args.skip text (file_says c.in-Ok.file) (c.in-Ok.ensures.text text told))) c.check_rules.ensures.fits
