use Rattle.std.proofs.Common.{rules, ◌≡◌, ◌∙◌, sym, ap, subst, [], ◌∷◌, None, replicate, take, arith}
use Rattle.std.proofs.lemmas.List.{length-take-le}
use Rattle.std.specs.Option.{unwrap_or}
use Rattle.rule_term.specs.FewNodes.{few_searched}
use Rattle.rule_term.specs.Formed.{IsFormed}
use Rattle.rule_term.specs.ReplaceLeast.{noted}
use Rattle.rule_term.specs.Terms.{terms_of}
use Rattle.rule_term.specs.Typings.{occurrences, size_of}
use Rattle.law_derive.specs.KnownLaws.{known_at, search_long}
use Rattle.law_derive.proofs.expr.known_of.Goals as goal

pub nodes_in-searched-requires : goal.nodes_in-searched-requires
nodes_in-searched-requires c = record {
  small = let few = few_searched _ c.rule.invariant in omega (arith, few);
}

pub slice_bounds-note_term-end : goal.slice_bounds-note_term-end
slice_bounds-note_term-end c =
    let formed = subst IsFormed c.rule.view_is c.rule.invariant in
    let long = search_long c.args.rule.now c.args.widths.now formed c.requires in
    let count = c.nodes_in-searched.ensures.count ∙ ap (λ r. size_of r.search) c.rule.view_is in
    sym (length-take-le c.nodes_in-searched.result c.args.widths.now (omega (arith, long, count)))

pub note_term-requires : goal.note_term-requires
note_term-requires c =
    let formed = subst IsFormed c.rule.view_is c.rule.invariant in
    let long = search_long c.args.rule.now c.args.widths.now formed c.requires in
    let own = c.nodes_in-searched.ensures.count in
    let count = own ∙ ap (λ r. size_of r.search) c.rule.view_is in
    let short = length-take-le c.nodes_in-searched.result c.args.widths.now (omega (arith, long, count)) in
    record { enough = omega (arith, own, short) }

pub returns : goal.returns
returns c =
    let formed = subst IsFormed c.rule.view_is c.rule.invariant in
    let widths = c.args.widths.now in
    let n = c.nodes_in-searched.result in
    let count = c.nodes_in-searched.ensures.count ∙ ap (λ r. size_of r.search) c.rule.view_is in
    let made : c.note_term.result ≡ noted (occurrences (terms_of (c.rule.inside.search ∷ [])) (take n widths)) (replicate 16 None) = search rules in
    let chosen : c.unwrap_or.result ≡ unwrap_or c.note_term.result (replicate 16 None) = search rules in
    known_at c.args.rule.now widths formed c.requires n c.note_term.result c.unwrap_or.result count
    (made ∙ ap (λ r. noted (occurrences r.search (take n widths)) (replicate 16 None)) c.rule.view_is) chosen
