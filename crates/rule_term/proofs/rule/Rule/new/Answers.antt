use Rattle.std.proofs.Common.{◌∷◌, [], sym, ◌∙◌}
use Rattle.rule_term.specs.Terms.{terms_of}
use Rattle.rule_term.proofs.FormedLemmas.{formed_is}
use Rattle.rule_term.proofs.rule.Rule.new.Goals as goal

pub invariant_of-result : goal.invariant_of-result
invariant_of-result c = formed_is (record { number = c.args.number; search = terms_of (c.args.search ∷ []); replace = terms_of (c.args.replace ∷ []); when = c.args.when; vars = c.args.vars }) (sym c.are_formed.ensures ∙ c.if-not-are_formed.false)
