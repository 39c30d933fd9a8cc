use Rattle.std.proofs.Common.{◌≡◌, ◌++◌, drop}
use Rattle.std.specs.Option.{option_or}
use Rattle.rule_check.specs.Accepted.{entries_say, first_refusal}
use Rattle.nir_opt.specs.Checked.{check_text}
use Rattle.nir_opt.proofs.check.judge.Given as goal

abbrev pub invariant-loop-entry : goal.invariant-loop-entry
invariant-loop-entry l = record {
  text : l.text.items ++ check_text (entries_say (drop l.entry-index l.entries)) ≡ check_text (entries_say l.entries);
  first : option_or l.first (first_refusal (entries_say (drop l.entry-index l.entries))) ≡ first_refusal (entries_say l.entries);
}
