use Rattle.std.proofs.Common.{◌∙◌, ap, [], ◌∷◌, ◌++◌}
use Rattle.rule_tests.proofs.BuildLemmas.{terms_of_over_two}
use Rattle.rule_tests.proofs.rules.over_two.Goals as goal

pub returns : goal.returns
returns c = terms_of_over_two c.args.op _ _ c.push.new.self c.push-2.new.self c.args.first c.args.second (c.in_ok-push.ensures.ok ∙ ap (λ l. l ++ c.args.first ∷ []) c.new-args.ensures) c.in_ok-push-2.ensures.ok
