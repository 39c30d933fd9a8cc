-- what is asked from the place on makes of the classes so far all classes
use Rattle.std.proofs.Common.{◌≡◌, true, drop, length, map}
use Rattle.size_laws.specs.ClassesLaws.{IsNaming}
use Rattle.size_laws.specs.Places.{all_within, classes, classes_from}
use Rattle.size_infer.specs.Meant.{meant}
use Rattle.size_infer.specs.Options.{listed}
use Rattle.size_infer.proofs.classes.first_nodes.Given as goal

abbrev pub invariant-loop-rule : goal.invariant-loop-rule
invariant-loop-rule l = record {
  long : length l.first ≡ 98;
  naming : IsNaming 98 (listed l.first);
  within : all_within 98 (map meant (drop l.rule-index l.rules)) ≡ true;
  made : classes_from (listed l.first) (map meant (drop l.rule-index l.rules)) ≡ classes (map meant l.rules);
}
