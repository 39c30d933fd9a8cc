use Rattle.std.proofs.Common.{[], ◌∷◌}
use Rattle.rule_term.specs.Table.{op_weight}
use Rattle.rule_term.specs.Terms.{terms_of}
use Rattle.rule_term.proofs.DescendingLemmas.{weight_is_small}
use Rattle.rule_term.proofs.descending.descends.Goals as goal

pub term_weight-requires : goal.term_weight-requires
term_weight-requires c = record { small = weight_is_small (op_weight c.args.table.now) (terms_of (c.rule.inside.replace ∷ [])) c.weights_are_few.ensures.few c.rule.invariant.few_replace }
