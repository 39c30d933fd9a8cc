use Rattle.std.proofs.Common.{◌≤◌, ◌∙◌, ℕ, ap, sym, subst, map}
use Rattle.size_laws.specs.ClassesLaws.{the_naming}
use Rattle.size_laws.specs.Places.{allowed}
use Rattle.size_infer.specs.Meant.{meant}
use Rattle.size_infer.proofs.classes.classes_of.Goals as goal

pub class_sets-sets-requires-clause-below : goal.class_sets-sets-requires-clause-below
class_sets-sets-requires-clause-below c = subst (λ f. (node : ℕ) → f node ≤ node) (sym c.first_nodes-first.ensures.first) (the_naming 98 (map meant c.args.rules.now) c.requires.within).below

pub returns-clause-sets : goal.returns-clause-sets
returns-clause-sets c = c.class_sets-sets.ensures ∙ ap (λ f. allowed f (map meant c.args.rules.now)) c.first_nodes-first.ensures.first
