-- what is written and what is left make the whole list
use Rattle.std.proofs.Common.{◌≡◌, ◌++◌, drop, map, codes}
use Rattle.std.specs.List.{flat_map}
use Rattle.text_bytes.specs.Lists.{listed}
use Rattle.nir_print.specs.Text.{phi_source_text}
use Rattle.nir_print.proofs.sources.push_listed.Given as goal

abbrev pub invariant-loop-source : goal.invariant-loop-source
invariant-loop-source l = l.out.items ++ flat_map (λ next. codes ", " ++ next) (map (phi_source_text l.naming) (drop l.source-index l.rest)) ≡ l.fn.out.items ++ listed (map (phi_source_text l.naming) l.sources)
