use Rattle.std.proofs.Common.{rules, ◌≡◌, ◌∙◌, sym, ap, ◌+◌, [], ◌∷◌, ◌++◌, drop, append_assoc, to_z, of_z, arith}
use Rattle.std.specs.Int.{w128}
use denote.Param.Weighed.{at_most}
use Rattle.rule_term.specs.declared.term.Term.{the_lemmas}
use Rattle.rule_term.specs.Terms.{Nil, terms_of}
use Rattle.rule_term.specs.Typings.{size_of}
use Rattle.nir_search.specs.Put.{Made}
use Rattle.rule_meaning.specs.RowLaws.{made_next}
use Rattle.rewrite_pass.specs.Building.{made_on}
use Rattle.rewrite_pass.proofs.BuildLemmas.{built_at, builds_app, builds_lit, builds_var, size_of-at, size_of-drop, some_node}
use Rattle.rewrite_pass.proofs.build.+build.Goals as goal

pub build_term-bounds-widths-building : goal.build_term-bounds-widths-building
build_term-bounds-widths-building t c =
    let some = some_node c.args.term.now Nil in
    let enough = c.requires.enough in
    omega (arith, some, enough)

pub build_term-add_fresh-requires-clause-room : goal.build_term-add_fresh-requires-clause-room
build_term-add_fresh-requires-clause-room t c =
    let some = some_node c.args.term.now Nil in
    let room = c.requires.room in
    omega (arith, some, room)

pub build_term-build_terms-requires : goal.build_term-build_terms-requires
build_term-build_terms-requires t c =
    let whole = size_of-at c.args.term.now c.in-App.op c.in-App.size c.in-App.once c.in-App.args c.in-App.is in
    let same : size_of (terms_of c.as_slice.result.now) ≡ size_of (terms_of c.in-App.args) = ap (λ x. size_of (terms_of x)) c.as_slice.ensures in
    let enough = c.requires.enough in
    let room = c.requires.room in
    (search (rules, the_lemmas), (c.requires.few, (omega (arith, whole, same, enough), omega (arith, whole, same, room))))

pub build_term-add_fresh-requires-in-App-clause-room : goal.build_term-add_fresh-requires-in-App-clause-room
build_term-add_fresh-requires-in-App-clause-room t c =
    let whole = size_of-at c.args.term.now c.in-App.op c.in-App.size c.in-App.once c.in-App.args c.in-App.is in
    let same : size_of (terms_of c.as_slice.result.now) ≡ size_of (terms_of c.in-App.args) = ap (λ x. size_of (terms_of x)) c.as_slice.ensures in
    let room = c.requires.room in
    let inner = c.in_ok-srcs-in-App.ensures.next in
    let most = made_next c.args.subst.now c.args.count (terms_of c.as_slice.result.now) (drop (c.args.building.now.nodes + 1) c.args.widths.now) c.args.building.now.next in
    omega (arith, whole, same, room, inner, most)

pub build_term-returns-in-Var : goal.build_term-returns-in-Var
build_term-returns-in-Var t c =
    builds_var c.args.subst.now c.args.count c.args.term.now c.in-Var.var c.in-Var.constant c.in-Var.size c.in-Var.cond c.args.widths.now c.args.building.now c.bound_source.result c.in-Var.is c.bound_source.ensures

pub build_term-returns-in_ok-src-in-Lit : goal.build_term-returns-in_ok-src-in-Lit
build_term-returns-in_ok-src-in-Lit t c =
    let same : to_z w128 (of_z w128 c.in-Lit.number) ≡ c.in-Lit.number = search rules in
    let own = c.in_ok-src-in-Lit.ensures in
    builds_lit c.args.subst.now c.args.count c.args.term.now c.in-Lit.number _ c.in-Lit.boolean c.args.widths.now c.args.building.now c.add_fresh.new.building c.in_ok-instr-in-Lit.instr c.in_ok-src-in-Lit.src
    c.in-Lit.is same c.in_ok-instr-in-Lit.ensures own.instrs own.nodes own.next own.source

pub build_term-returns-in_ok-src-in-App : goal.build_term-returns-in_ok-src-in-App
build_term-returns-in_ok-src-in-App t c =
    let own = c.in_ok-src-in-App.ensures in
    builds_app c.args.subst.now c.args.count c.args.term.now c.in-App.op c.in-App.size c.in-App.once c.in-App.args c.as_slice.result.now c.args.widths.now c.args.building.now c.build_terms.new.building c.add_fresh-in-App.new.building
    c.in_ok-srcs-in-App.srcs c.in_ok-src-in-App.src c.in-App.is c.as_slice.ensures c.in_ok-srcs-in-App.ensures own.instrs own.nodes own.next own.source

pub build_terms-build_term-requires : goal.build_terms-build_term-requires
build_terms-build_term-requires t c =
    let l = c.loop-term in
    let split = size_of-drop c.args.terms.now l.term-index c.term-item.result c.loop-term-test.true c.term-item.is in
    let enough = c.requires.enough in
    let room = c.requires.room in
    let nodes = l.invariant.nodes in
    let left = l.invariant.room in
    (search (rules, the_lemmas, at_most), (c.requires.few, (omega (arith, split, enough, nodes), omega (arith, split, room, left))))

pub build_terms-loop-term-preserved : goal.build_terms-loop-term-preserved
build_terms-loop-term-preserved t c =
    let l = c.loop-term in
    let term = c.term-item.result in
    let after = c.build_term.new.building in
    let src = c.in_ok-src.src in
    let one = c.in_ok-src.ensures in
    let own : Made = made_on c.args.subst.now c.args.count (terms_of (term ∷ [])) c.args.widths.now l.building in
    let rest : Made = made_on c.args.subst.now c.args.count (terms_of (drop (l.term-index + 1) c.args.terms.now)) c.args.widths.now after in
    let is = built_at c.args.subst.now c.args.count c.args.terms.now l.term-index term c.args.widths.now l.building after (src ∷ []) c.loop-term-test.true c.term-item.is one in
    let split = size_of-drop c.args.terms.now l.term-index term c.loop-term-test.true c.term-item.is in
    let most = made_next c.args.subst.now c.args.count (terms_of (term ∷ [])) (drop l.building.nodes c.args.widths.now) l.building.next in
    let nodes = l.invariant.nodes in
    let room = l.invariant.room in
    let counted = one.nodes in
    let next = one.next in
    let pushed : c.push.new.self ≡ l.srcs ++ src ∷ [] = search rules in
    record {
      instrs = ap (λ x. x ++ rest.instrs) one.instrs
          ∙ append_assoc l.building.instrs own.instrs rest.instrs
          ∙ ap (λ (m : Made). l.building.instrs ++ m.instrs) (sym is)
          ∙ l.invariant.instrs;
      nodes = omega (arith, split, nodes, counted);
      next = ap (λ (m : Made). m.next) (sym is) ∙ l.invariant.next;
      sources = ap (λ x. x ++ rest.sources) pushed
          ∙ append_assoc l.srcs (src ∷ []) rest.sources
          ∙ ap (λ x. l.srcs ++ (x ++ rest.sources)) one.sources
          ∙ ap (λ (m : Made). l.srcs ++ m.sources) (sym is)
          ∙ l.invariant.sources;
      room = omega (arith, split, room, next, most);
    }
