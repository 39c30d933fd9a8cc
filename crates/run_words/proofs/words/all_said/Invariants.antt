use Rattle.std.proofs.Common.{◌≡◌, drop}
use Rattle.run_words.specs.RunWords.{all_said, nothing_said}
use Rattle.run_words.specs.Views.{given, IsFew}
use Rattle.run_words.proofs.words.all_said.Given as goal

abbrev pub invariant-loop-word : goal.invariant-loop-word
invariant-loop-word l = record {
  says : all_said (given l.so_far) (drop l.word-index l.words) ≡ all_said nothing_said l.words;
  few : IsFew l.so_far;
}
