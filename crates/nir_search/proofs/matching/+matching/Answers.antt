use Rattle.std.proofs.Common.{◌≡◌, ◌∙◌, sym, ap, rules, to_z, of_z, map, ◌∷◌, []}
use Rattle.std.specs.Int.{w128}
use Rattle.rule_term.specs.Terms.{Nil, before, before-var, before-lit, before-app, VarThen, LitThen, AppThen, terms_of}
use Rattle.nir_search.specs.Match.{child, swapped}
use Rattle.nir_search.proofs.WalkLemmas.{walks_along, walk_on, walk_off}
use Rattle.nir_search.proofs.matching.+matching.Goals as goal

pub match_term-returns-in-Var : goal.match_term-returns-in-Var
match_term-returns-in-Var t c =
    walks_along c.args.work.now.shader.body (before c.args.term.now Nil) (VarThen c.in-Var.var c.in-Var.constant c.in-Var.size c.in-Var.cond Nil)
    c.args.bits (c.args.view ∷ []) c.args.bound.now c.match_var.new.bound c.match_var.result
    (ap (λ t. before t Nil) c.in-Var.is ∙ before-var c.in-Var.var c.in-Var.constant c.in-Var.size c.in-Var.cond Nil)
    c.match_var.ensures

pub match_term-returns-in-Lit : goal.match_term-returns-in-Lit
match_term-returns-in-Lit t c =
    let same : to_z w128 (of_z w128 c.in-Lit.value) ≡ c.in-Lit.value = search rules in
    walks_along c.args.work.now.shader.body (before c.args.term.now Nil) (LitThen (to_z w128 (of_z w128 c.in-Lit.value)) c.in-Lit.boolean Nil)
    c.args.bits (c.args.view ∷ []) c.args.bound.now c.args.bound.now c.match_lit.result
    (ap (λ t. before t Nil) c.in-Lit.is ∙ before-lit c.in-Lit.value c.in-Lit.boolean Nil ∙ ap (λ z. LitThen z c.in-Lit.boolean Nil) (sym same))
    c.match_lit.ensures

pub match_term-returns-in-App : goal.match_term-returns-in-App
match_term-returns-in-App t c =
    walks_along c.args.work.now.shader.body (before c.args.term.now Nil) (AppThen c.in-App.op c.in-App.size c.in-App.once (terms_of c.as_slice.result.now) Nil)
    c.args.bits (c.args.view ∷ []) c.args.bound.now c.match_app.new.bound c.match_app.result
    (ap (λ t. before t Nil) c.in-App.is ∙ before-app c.in-App.op c.in-App.size c.in-App.once c.in-App.args Nil
    ∙ ap (λ list. AppThen c.in-App.op c.in-App.size c.in-App.once (terms_of list) Nil) (sym c.as_slice.ensures))
    c.match_app.ensures

pub match_args-returns-in-None : goal.match_args-returns-in-None
match_args-returns-in-None t c =
    sym c.loop-at.invariant.0
    ∙ walk_off c.args.work.now.shader.body c.args.args.now c.loop-at.at c.index-args-at.result c.child_at-view.result c.loop-at.bits
    (map (child c.args.comps.now) (swapped c.args.flag c.args.srcs.now)) c.loop-at.bound c.match_term.new.bound
    c.loop-at-test.true c.index-args-at.is c.child_at-view.ensures c.in-None.ensures

pub match_args-loop-at-preserved : goal.match_args-loop-at-preserved
match_args-loop-at-preserved t c =
    let on =
    walk_on c.args.work.now.shader.body c.args.args.now c.loop-at.at c.index-args-at.result c.child_at-view.result c.loop-at.bits
    (map (child c.args.comps.now) (swapped c.args.flag c.args.srcs.now)) c.loop-at.bound c.match_term.new.bound c.in-Some.left
    c.loop-at-test.true c.index-args-at.is c.child_at-view.ensures c.in-Some.ensures in
    (on.0 ∙ c.loop-at.invariant.0, on.1 ∙ c.loop-at.invariant.1)
