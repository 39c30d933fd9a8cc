use Rattle.std.proofs.Common.{◌∷◌, [], sym, ap, ◌∙◌}
use Rattle.std.specs.Prelude.{is_some}
use Rattle.rule_term.specs.Terms.{terms_of}
use Rattle.rule_term.proofs.FormedLemmas.{replace_is}
use Rattle.rule_term.proofs.formed.is_replace_formed.Goals as goal

pub returns-in-Some : goal.returns-in-Some
returns-in-Some c = ap is_some c.in-Some.ensures ∙ sym (replace_is c.args.vars (terms_of (c.args.replace.now ∷ [])))

pub returns-in-None : goal.returns-in-None
returns-in-None c = ap is_some c.in-None.ensures ∙ sym (replace_is c.args.vars (terms_of (c.args.replace.now ∷ [])))
