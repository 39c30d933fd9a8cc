use Rattle.std.proofs.Common.{◌∙◌, sym, ap, ◌∷◌, [], None, Some, replicate, if◌then◌else◌}
use Rattle.rule_term.specs.Terms.{terms_of}
use Rattle.nir_search.specs.Match.{all_bound, root_view, whole_view}
use Rattle.nir_search.proofs.FirstLemmas.{match_is, walks_from}
use Rattle.nir_search.proofs.first.match_at.Goals as goal

pub returns-then-is_typed : goal.returns-then-is_typed
returns-then-is_typed c =
    let walks =
    walks_from c.args.work.now.shader.body (terms_of (c.rule.inside.search ∷ [])) c.args.rule.now.search c.args.variant
    c.whole_view-view.result (root_view c.args.work.now.shader.body c.args.value) c.new-bound.result (replicate c.args.rule.now.vars None) c.match_term.new.bound (Some c.in-Some._left)
    (ap (λ r. r.search) c.rule.view_is)
    (c.whole_view-view.ensures ∙ ap (whole_view c.args.value) c.count_at.ensures.count)
    (c.new-bound.ensures ∙ ap (λ r. replicate r.vars None) c.rule.view_is)
    c.in-Some.ensures in
    ap Some c.subst.ensures
    ∙ sym (ap (λ b. if b then Some (all_bound c.match_term.new.bound) else None) (sym c.is_typed.ensures ∙ c.if-is_typed.true))
    ∙ match_is c.args.rule.now c.args.variant c.args.work.now.shader.body c.args.value (Some c.in-Some._left) c.match_term.new.bound walks

pub returns-else-is_typed : goal.returns-else-is_typed
returns-else-is_typed c =
    let walks =
    walks_from c.args.work.now.shader.body (terms_of (c.rule.inside.search ∷ [])) c.args.rule.now.search c.args.variant
    c.whole_view-view.result (root_view c.args.work.now.shader.body c.args.value) c.new-bound.result (replicate c.args.rule.now.vars None) c.match_term.new.bound (Some c.in-Some._left)
    (ap (λ r. r.search) c.rule.view_is)
    (c.whole_view-view.ensures ∙ ap (whole_view c.args.value) c.count_at.ensures.count)
    (c.new-bound.ensures ∙ ap (λ r. replicate r.vars None) c.rule.view_is)
    c.in-Some.ensures in
    sym (ap (λ b. if b then Some (all_bound c.match_term.new.bound) else None) (sym c.is_typed.ensures ∙ c.if-is_typed.false))
    ∙ match_is c.args.rule.now c.args.variant c.args.work.now.shader.body c.args.value (Some c.in-Some._left) c.match_term.new.bound walks

pub returns-in-None : goal.returns-in-None
returns-in-None c =
    let walks =
    walks_from c.args.work.now.shader.body (terms_of (c.rule.inside.search ∷ [])) c.args.rule.now.search c.args.variant
    c.whole_view-view.result (root_view c.args.work.now.shader.body c.args.value) c.new-bound.result (replicate c.args.rule.now.vars None) c.match_term.new.bound None
    (ap (λ r. r.search) c.rule.view_is)
    (c.whole_view-view.ensures ∙ ap (whole_view c.args.value) c.count_at.ensures.count)
    (c.new-bound.ensures ∙ ap (λ r. replicate r.vars None) c.rule.view_is)
    c.in-None.ensures in
    match_is c.args.rule.now c.args.variant c.args.work.now.shader.body c.args.value None c.match_term.new.bound walks
