-- what is written and what is left make the whole list
use Rattle.std.proofs.Common.{◌≡◌, ◌++◌, drop, map, codes}
use Rattle.std.specs.List.{flat_map}
use Rattle.nir_spelling.specs.Spelling.{kind_word}
use Rattle.text_bytes.specs.Lists.{listed}
use Rattle.nir_print.proofs.word.push_kinds.Given as goal

abbrev pub invariant-loop-kind : goal.invariant-loop-kind
invariant-loop-kind l = l.out.items ++ flat_map (λ next. codes ", " ++ next) (map kind_word (drop l.kind-index l.rest)) ≡ l.fn.out.items ++ listed (map kind_word l.kinds)
