use Rattle.std.specs.Prelude.{refl}
use Rattle.grammar.specs.EveryLaws.{deep_read_is_spelled, deep_spelled_is_read, deep_first_fault}
use Rattle.grammar.specs.Laws.{IsDecided}
use Rattle.grammar.specs.Lookahead.{one}
use Rattle.grammar.specs.Terminals.{TheMark}
use Rattle.grammar.specs.Worked.{lists, list, productions}
use Rattle.grammar.proofs.nested_lists_are_read.Goals as goal

decided : IsDecided lists (one (TheMark 91))
decided = record { whole = refl; each = λ n. refl }

pub returns-clause-read : goal.returns-clause-read
returns-clause-read c = deep_spelled_is_read lists productions _ _ list decided (λ n. refl) 0

pub returns-clause-spelled : goal.returns-clause-spelled
returns-clause-spelled c = deep_read_is_spelled lists productions _ _ list 0

pub returns-clause-first : goal.returns-clause-first
returns-clause-first c = deep_first_fault lists productions _ _ list decided (λ n. refl) 0
