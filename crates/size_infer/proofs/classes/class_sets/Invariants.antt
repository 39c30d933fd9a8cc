-- what is asked before the place is in the sets
use Rattle.std.proofs.Common.{◌≡◌, ℕ, ◌&&◌, true, drop, length, map}
use Rattle.nir_ops.specs.declared.width.Width.{Width}
use Rattle.size_laws.specs.Places.{all_within, allowed}
use Rattle.size_infer.specs.Meant.{meant}
use Rattle.size_infer.specs.Options.{listed, set_at}
use Rattle.size_infer.proofs.classes.class_sets.Given as goal

abbrev pub invariant-loop-rule : goal.invariant-loop-rule
invariant-loop-rule l = record {
  long : length l.sets ≡ 98;
  within : all_within 98 (map meant (drop l.rule-index l.rules)) ≡ true;
  narrow : (node : ℕ) (width : Width) → (set_at l.sets node width && allowed (listed l.first) (map meant (drop l.rule-index l.rules)) node width) ≡ allowed (listed l.first) (map meant l.rules) node width;
}
