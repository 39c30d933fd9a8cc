use Rattle.std.proofs.Common.{◌≡◌, ◌++◌, drop}
use Rattle.eval_words.proofs.words.copied.Given as goal

abbrev pub invariant-loop-comp : goal.invariant-loop-comp
invariant-loop-comp l = l.copy ++ drop l.comp-index l.fn.comps ≡ l.fn.comps
