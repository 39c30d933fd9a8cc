use Rattle.std.proofs.Common.{◌≡◌, ◌∙◌, [], ◌∷◌, cond, sym, ap, subst, false, true, None, Some, replicate, rules}
use Rattle.rule_term.specs.FewNodes.{few_replaced}
use Rattle.rule_term.specs.Formed.{IsFormed}
use Rattle.rule_term.specs.Terms.{terms_of}
use Rattle.rule_term.specs.Typings.{first_of, obeys, occurrences}
use Rattle.rule_term.specs.ReplaceLeast.{can, knows, least, noted}
use Rattle.rule_term.proofs.ReplaceTypings.{least_replaces, none_noted, none_obeys}
use Rattle.rule_term.proofs.replace.replace_widths.Goals as goal

pub returns-then-not-obeys_term : goal.returns-then-not-obeys_term
returns-then-not-obeys_term c =
    let formed = subst IsFormed c.rule.view_is c.rule.invariant in
    let broken : c.obeys_term.result ≡ false = search rules in
    none_obeys c.args.rule.now formed c.args.search.now c.requires (ap (λ r. obeys r.search c.args.search.now) (sym c.rule.view_is) ∙ sym c.obeys_term.ensures ∙ broken)

pub returns-in_default : goal.returns-in_default
returns-in_default c =
    let formed = subst IsFormed c.rule.view_is c.rule.invariant in
    let broken : noted (occurrences (terms_of (c.rule.inside.search ∷ [])) c.args.search.now) (replicate 16 None) ≡ None = search rules in
    none_noted c.args.rule.now formed c.args.search.now c.requires (ap (λ r. noted (occurrences r.search c.args.search.now) (replicate 16 None)) (sym c.rule.view_is) ∙ broken)

pub filled-requires : goal.filled-requires
filled-requires c = few_replaced _ c.rule.invariant

pub returns : goal.returns
returns c =
    let formed = subst IsFormed c.rule.view_is c.rule.invariant in
    let search_now = c.args.search.now in
    let known = c.in-Some.known in
    let root = first_of search_now ∷ [] in
    let good : c.obeys_term.result ≡ true = search rules in
    let obeyed = ap (λ r. obeys r.search search_now) (sym c.rule.view_is) ∙ sym c.obeys_term.ensures ∙ good in
    let made : noted (occurrences (terms_of (c.rule.inside.search ∷ [])) search_now) (replicate 16 None) ≡ Some known = search rules in
    let noted_now = ap (λ r. noted (occurrences r.search search_now) (replicate 16 None)) (sym c.rule.view_is) ∙ made in
    c.filled.ensures
    ∙ ap (λ r. cond (can (knows known) r.replace root) (Some (least (knows known) r.replace root)) None) c.rule.view_is
    ∙ least_replaces c.args.rule.now formed search_now c.requires obeyed known noted_now
