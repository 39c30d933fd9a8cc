use Rattle.std.proofs.Common.{◌≡◌, ◌++◌, ◌-◌, length}
use Rattle.std.specs.List.{range_with_len}
use Rattle.nir_text.proofs.swizzle.all_components.Given as goal

abbrev pub invariant-loop-component : goal.invariant-loop-component
invariant-loop-component l = record {
  count : length l.swizzle ≡ l.component;
  so_far : l.swizzle ++ range_with_len l.component (l.count - l.component) ≡ range_with_len 0 l.count;
}
