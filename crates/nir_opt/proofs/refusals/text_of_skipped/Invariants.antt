use Rattle.std.proofs.Common.{◌≡◌, ◌++◌, drop}
use Rattle.nir_opt.specs.Answers.{skipped_text}
use Rattle.nir_opt.proofs.refusals.text_of_skipped.Given as goal

abbrev pub invariant-loop-one : goal.invariant-loop-one
invariant-loop-one l = l.out.items ++ skipped_text (drop l.one-index l.refused) ≡ skipped_text l.refused
