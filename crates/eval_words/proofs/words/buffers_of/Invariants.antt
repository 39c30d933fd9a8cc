use Rattle.std.proofs.Common.{◌≡◌, ◌++◌, drop}
use Rattle.std.specs.List.{flat_map}
use Rattle.eval_words.specs.EvalWords.{buffer_said}
use Rattle.eval_words.proofs.words.buffers_of.Given as goal

abbrev pub invariant-loop-one : goal.invariant-loop-one
invariant-loop-one l = l.buffers ++ flat_map buffer_said (drop l.one-index l.all) ≡ flat_map buffer_said l.all
