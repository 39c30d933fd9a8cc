use Rattle.std.proofs.Common.{◌∙◌, sym, ap}
use Rattle.size_laws.specs.Places.{merged_by}
use Rattle.size_infer.specs.Meant.{meant}
use Rattle.size_infer.specs.Options.{listed}
use Rattle.size_infer.proofs.classes.join_by.Goals as goal

pub returns-in-Same : goal.returns-in-Same
returns-in-Same c = c.join.ensures ∙ sym (ap (λ r. merged_by (listed c.args.first.now) (meant r)) c.in-Same.is)
