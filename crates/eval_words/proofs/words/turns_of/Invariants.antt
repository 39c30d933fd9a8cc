-- the repeats found, and then those of the words left, are those of all
use Rattle.std.proofs.Common.{◌≡◌, ◌++◌, drop}
use Rattle.std.specs.List.{flat_map}
use Rattle.std.specs.Option.{option_to_list}
use Rattle.eval_words.specs.EvalWords.{turns_said}
use Rattle.eval_words.proofs.words.turns_of.Given as goal

abbrev pub invariant-loop-one : goal.invariant-loop-one
invariant-loop-one l = option_to_list l.found ++ flat_map turns_said (drop l.one-index l.all) ≡ flat_map turns_said l.all
