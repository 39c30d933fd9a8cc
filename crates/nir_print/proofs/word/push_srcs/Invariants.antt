-- what is written and what is left make the whole list
use Rattle.std.proofs.Common.{◌≡◌, ◌++◌, drop, map, codes}
use Rattle.std.specs.List.{flat_map}
use Rattle.text_bytes.specs.Lists.{listed}
use Rattle.nir_print.specs.Text.{src_text}
use Rattle.nir_print.proofs.word.push_srcs.Given as goal

abbrev pub invariant-loop-src : goal.invariant-loop-src
invariant-loop-src l = l.out.items ++ flat_map (λ next. codes ", " ++ next) (map (src_text l.naming) (drop l.src-index l.rest)) ≡ l.fn.out.items ++ listed (map (src_text l.naming) l.srcs)
