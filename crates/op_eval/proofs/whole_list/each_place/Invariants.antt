use Rattle.std.proofs.Common.{◌≡◌, map}
use Rattle.std.specs.List.{range_with_len}
use Rattle.nir_ops.specs.Width.{width_bits}
use Rattle.op_eval.specs.Calls.{unsized_width}
use Rattle.op_eval.specs.Meaning.{op_mean}
use Rattle.op_eval.specs.Views.{column, views_comps, views_widths}
use Rattle.op_eval.proofs.whole_list.each_place.Given as goal

abbrev pub invariant-loop-at : goal.invariant-loop-at
invariant-loop-at l =
    l.comps ≡ map (λ at. op_mean l.op (width_bits (unsized_width l.op l.dst (views_widths l.args))) (width_bits l.dst) (column at (views_comps l.args))) (range_with_len 0 l.at)
