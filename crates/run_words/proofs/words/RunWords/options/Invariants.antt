use Rattle.std.proofs.Common.{◌≡◌, map, take}
use Rattle.run_words.proofs.words.RunWords.options.Given as goal

abbrev pub invariant-loop-name : goal.invariant-loop-name
invariant-loop-name l = l.names ≡ map (λ name. name.now) (take l.name-index l.name-items)
