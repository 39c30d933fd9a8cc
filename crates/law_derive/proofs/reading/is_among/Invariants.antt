use Rattle.std.proofs.Common.{◌≡◌, drop}
use Rattle.std.specs.List.{list_any}
use Rattle.op_eval.specs.Calls.{same_width}
use Rattle.law_derive.proofs.reading.is_among.Given as goal

-- whether the size is among those that are left
abbrev pub invariant-loop-size : goal.invariant-loop-size
invariant-loop-size l = record { so_far : list_any (same_width l.width) (drop l.size-index l.sizes) ≡ list_any (same_width l.width) l.sizes }
