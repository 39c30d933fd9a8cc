-- What the words of the code say.
use Rattle.std.specs.Prelude.{◌≤◌, List, map, IfSome}
use Rattle.run_words.specs.RunWords as words
use Rattle.run_words.specs.declared.words.RunWords.{RunWords}
use Rattle.run_words.specs.declared.words.Said.{Said}
use Rattle.run_words.specs.declared.words.Said.TheVariants as code

abbrev pub given : RunWords → words.Given
given w = record { limit = w.limit; names = map (λ name. name.now) w.names.items; remarks = w.remarks; skip = w.skip }

abbrev pub meant : Said → words.Said
meant (code.Limit number) = words.Limit number
meant (code.Set name) = words.Set name.now
meant code.Remarks = words.Remarks
meant code.Skip = words.Skip

-- a limit is at most 1,000,000
abbrev pub IsFew : RunWords → Type 0
IsFew w = IfSome w.limit (λ limit. limit ≤ 1000000)

abbrev pub SaysFew : Said → Type 0
SaysFew (code.Limit number) = number ≤ 1000000
SaysFew (code.Set name) = Unit {0}
SaysFew code.Remarks = Unit {0}
SaysFew code.Skip = Unit {0}
