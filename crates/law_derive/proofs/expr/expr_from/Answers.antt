use Rattle.std.proofs.Common.{rules, ◌≡◌, ◌∙◌, ap, true, Some, [], ◌∷◌, ◌++◌}
use Rattle.std.specs.List.{list_all}
use Rattle.rule_term.specs.Pieces.{pieces}
use Rattle.rule_term.specs.ReplaceLeast.{knows, least}
use Rattle.rule_term.specs.Terms.{terms_of}
use Rattle.law_derive.specs.Derivations.{piece_formed}
use Rattle.law_derive.specs.ExprSizes.{root_of}
use Rattle.law_derive.specs.Nodes.{nodes_of}
use Rattle.law_derive.proofs.TermLists.{from_root}
use Rattle.law_derive.proofs.expr.expr_from.Goals as goal

pub returns : goal.returns
returns c =
    let fit = knows c.args.known.now in
    let terms = terms_of (c.args.term.now ∷ []) in
    let formed : list_all piece_formed (pieces terms) ≡ true = search rules in
    let root : root_of fit c.args.size terms ≡ Some c.in-Some.width = search rules in
    let filled : c.fill_term.new.widths ≡ least fit terms (c.in-Some.width ∷ []) = c.in_ok-fill_term.ensures ∙ ap (λ l. l ++ least fit terms (c.in-Some.width ∷ [])) c.new-widths.ensures in
    let made : c.in_ok-nodes.nodes ≡ nodes_of terms c.fill_term.new.widths = c.in_ok-nodes.ensures ∙ ap (nodes_of terms) c.as_slice.ensures in
    from_root fit c.args.size c.args.term.now c.in-Some.width c.fill_term.new.widths c.in_ok-nodes.nodes formed root filled made
