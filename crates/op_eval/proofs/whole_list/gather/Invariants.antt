use Rattle.std.proofs.Common.{◌≡◌, map, take}
use Rattle.std.specs.Prelude.{slice_index}
use Rattle.op_eval.proofs.whole_list.gather.Given as goal

abbrev pub invariant-loop-view : goal.invariant-loop-view
invariant-loop-view l = l.comps ≡ map (λ view. slice_index view.comps 0) (take l.view-index l.args)
