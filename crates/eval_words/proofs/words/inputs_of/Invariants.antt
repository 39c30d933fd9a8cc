use Rattle.std.proofs.Common.{◌≡◌, ◌++◌, drop}
use Rattle.std.specs.List.{flat_map}
use Rattle.eval_words.specs.EvalWords.{input_said}
use Rattle.eval_words.proofs.words.inputs_of.Given as goal

abbrev pub invariant-loop-one : goal.invariant-loop-one
invariant-loop-one l = l.inputs ++ flat_map input_said (drop l.one-index l.all) ≡ flat_map input_said l.all
