-- the uses so far, and then those by the sources that are left, are all
use Rattle.std.proofs.Common.{◌≡◌, ◌++◌, drop, map}
use Rattle.nir_ir.specs.declared.journal.Use.TheVariants.{OfValue}
use Rattle.nir_tree.specs.Listed.{numbered}
use Rattle.nir_tree.proofs.use_list.add_srcs.Given as goal

abbrev pub invariant-loop-at : goal.invariant-loop-at
invariant-loop-at l =
    l.uses ++ numbered l.value (OfValue l.user) l.at (map (λ src. src.value) (drop l.at l.srcs)) ≡ l.initial.uses ++ numbered l.value (OfValue l.user) 0 (map (λ src. src.value) l.srcs)
