-- the components before the place are in order, so the rest decides
use Rattle.std.proofs.Common.{◌≡◌, ◌-◌, ◌≤◌, drop}
use Rattle.std.specs.List.{range_with_len}
use Rattle.std.specs.Str.{bytes_eq}
use Rattle.nir_print.proofs.word.is_in_order.Given as goal

abbrev pub invariant-loop-component : goal.invariant-loop-component
invariant-loop-component l = record {
  place : l.next ≡ l.component-index;
  below : l.next ≤ l.count;
  rest : bytes_eq (drop l.component-index l.swizzle) (range_with_len l.next (l.count - l.next)) ≡ bytes_eq l.swizzle (range_with_len 0 l.count);
}
