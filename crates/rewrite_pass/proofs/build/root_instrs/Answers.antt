use Rattle.std.proofs.Common.{rules, ◌≡◌, refl, ◌∙◌, ap, [], ◌∷◌, to_z, of_z, arith}
use Rattle.std.specs.Int.{w128}
use Rattle.rule_term.specs.Terms.{Nil, terms_of}
use Rattle.rule_term.specs.Typings.{size_of}
use Rattle.rewrite_pass.proofs.BuildLemmas.{root-app, root-lit, root-var, size_of-at, some_node}
use Rattle.rewrite_pass.proofs.build.root_instrs.Goals as goal

pub bounds-widths-0 : goal.bounds-widths-0
bounds-widths-0 c =
    let some = some_node c.args.replace.now Nil in
    let enough = c.requires.enough in
    omega (arith, some, enough)

pub build_terms-requires-clause-enough : goal.build_terms-requires-clause-enough
build_terms-requires-clause-enough c =
    let whole = size_of-at c.args.replace.now c.in-App.op c.in-App.size c.in-App.once c.in-App.args c.in-App.is in
    let same : size_of (terms_of c.as_slice.result.now) ≡ size_of (terms_of c.in-App.args) = ap (λ x. size_of (terms_of x)) c.as_slice.ensures in
    let enough = c.requires.enough in
    omega (arith, whole, same, enough)

pub build_terms-requires-clause-room : goal.build_terms-requires-clause-room
build_terms-requires-clause-room c =
    let whole = size_of-at c.args.replace.now c.in-App.op c.in-App.size c.in-App.once c.in-App.args c.in-App.is in
    let same : size_of (terms_of c.as_slice.result.now) ≡ size_of (terms_of c.in-App.args) = ap (λ x. size_of (terms_of x)) c.as_slice.ensures in
    let room = c.requires.room in
    omega (arith, whole, same, room)

pub returns-in_ok-instrs-in-Var : goal.returns-in_ok-instrs-in-Var
returns-in_ok-instrs-in-Var c =
    c.in_ok-instrs-in-Var.ensures
    ∙ ap (λ i. i ∷ []) c.in_ok-instr-in-Var.ensures
    ∙ root-var c.args.subst.now c.args.count c.args.value c.args.replace.now c.in-Var.var c.in-Var.constant c.in-Var.size c.in-Var.cond c.args.widths.now c.args.next c.bound_source.result c.in-Var.is c.bound_source.ensures

pub returns-in_ok-instrs-in-Lit : goal.returns-in_ok-instrs-in-Lit
returns-in_ok-instrs-in-Lit c =
    let same : to_z w128 (of_z w128 c.in-Lit.number) ≡ c.in-Lit.number = search rules in
    c.in_ok-instrs-in-Lit.ensures
    ∙ ap (λ i. i ∷ []) c.in_ok-instr-in-Lit.ensures
    ∙ root-lit c.args.subst.now c.args.count c.args.value c.args.replace.now c.in-Lit.number _ c.in-Lit.boolean c.args.widths.now c.args.next c.in-Lit.is same

pub returns-in_ok-push-in-App : goal.returns-in_ok-push-in-App
returns-in_ok-push-in-App c =
    search rules
    ∙ root-app c.args.subst.now c.args.count c.args.value c.args.replace.now c.in-App.op c.in-App.size c.in-App.once c.in-App.args c.as_slice.result.now c.args.widths.now
    (record { instrs = c.new.result; nodes = 1; next = c.args.next }) c.build_terms.new.building c.in_ok-srcs-in-App.srcs c.in-App.is c.as_slice.ensures c.new.ensures refl c.in_ok-srcs-in-App.ensures
