use Rattle.std.proofs.Common.{◌∙◌, ap, map}
use Rattle.size_laws.specs.Places.{allowed, classes}
use Rattle.size_infer.specs.Meant.{meant}
use Rattle.size_infer.proofs.LinkLemmas.{within_all}
use Rattle.size_infer.proofs.found.found_of.Goals as goal

pub classes_of-classes-requires : goal.classes_of-classes-requires
classes_of-classes-requires c =
    let asked = c.in_ok-asked.ensures in
    record { within = within_all c.args.rule.now asked.formed (map meant c.as_slice.result.now) (ap (map meant) c.as_slice.ensures ∙ asked.rules) }

pub returns : goal.returns
returns c =
    let asked = c.in_ok-asked.ensures in
    let rules = ap (map meant) c.as_slice.ensures ∙ asked.rules in
    record {
      formed = asked.formed;
      first = c.classes_of-classes.ensures.first ∙ ap classes rules;
      sets = c.classes_of-classes.ensures.sets ∙ ap (λ l. allowed (classes l) l) rules;
      searched = asked.searched;
      replaced = asked.replaced;
    }
