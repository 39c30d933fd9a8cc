use Rattle.std.proofs.Common.{◌∙◌, sym}
use Rattle.rule_read.specs.Says.{file_says}
use Rattle.nir_opt.proofs.TextAnswers.{all_accepted, judged_whole}
use Rattle.nir_opt.proofs.texts.check_rules.Goals as goal

pub returns-in-Ok-check_file-clause-fits : goal.returns-in-Ok-check_file-clause-fits
returns-in-Ok-check_file-clause-fits c =
    let none = c.in-Ok-check_file.ensures.verdict.0 in
    record {
      file = c.args.file;
      is = judged_whole _ (file_says c.args.file) none;
      table = record { rules = c.in-Ok-check_file.ensures.verdict.1 ∙ sym (all_accepted c.args.file.entries none); weights = c.in-Ok-check_file.ensures.weights };
      refused = c.new.ensures ∙ sym none;
    }
