use Rattle.std.proofs.Common.{◌≡◌, refl, ◌∙◌, ◌+◌, sym, ap, [], ◌∷◌, ◌++◌, drop, map, arith, rules, to_z-of_z}
use Rattle.std.proofs.lemmas.List.{append-nil}
use Rattle.std.specs.Int.{w128}
use denote.Param.Weighed.{at_most}
use Rattle.rule_term.specs.declared.term.Term.{the_lemmas}
use Rattle.rule_term.specs.Terms.{terms_of}
use Rattle.rule_term.specs.Typings.{has_size, literal_fits, size_of}
use Rattle.size_laws.specs.NodeRules.{root_places, rules_of, var_places}
use Rattle.size_laws.specs.Places as place
use Rattle.size_infer.specs.Meant.{meant, spot_of}
use Rattle.rule_term.specs.ReplaceLeast.{set_of}
use Rattle.size_infer.specs.declared.size_rule.SizeRule.TheVariants as code
use Rattle.size_infer.proofs.SetLemmas.{only, pushed, stepped}
use Rattle.size_infer.proofs.WalkLemmas.{app_rules, roots-drop, root_places-one, rules_of-drop, rules_of-lit, rules_of-var, size_of-app, size_of-drop, size_of-lit, size_of-var, spots-app, spots-drop, spots-lit, spots-var}
use Rattle.size_infer.proofs.walk.+walk.Goals as goal

pub add_term-overflow_add-result : goal.add_term-overflow_add-result
add_term-overflow_add-result t c =
    let one = size_of-var c.args.term.now c.in-Var.var c.in-Var.constant c.in-Var.size c.in-Var.cond c.in-Var.is in
    let small = c.requires.small in
    record { fits = omega (arith, one, small) }

pub add_term-overflow_add-result-in-Lit : goal.add_term-overflow_add-result-in-Lit
add_term-overflow_add-result-in-Lit t c =
    let one = size_of-lit c.args.term.now c.in-Lit.value c.in-Lit.boolean c.in-Lit.is in
    let small = c.requires.small in
    record { fits = omega (arith, one, small) }

pub add_term-overflow_add-place : goal.add_term-overflow_add-place
add_term-overflow_add-place t c =
    let more = size_of-app c.args.term.now c.in-App.op c.in-App.size c.in-App.once c.in-App.args c.in-App.is in
    let small = c.requires.small in
    record { fits = omega (arith, more, small) }

pub add_term-add_terms-requires : goal.add_term-add_terms-requires
add_term-add_terms-requires t c =
    let more = size_of-app c.args.term.now c.in-App.op c.in-App.size c.in-App.once c.in-App.args c.in-App.is in
    let same : size_of (terms_of c.as_slice.result.now) ≡ size_of (terms_of c.in-App.args) = ap (λ x. size_of (terms_of x)) c.as_slice.ensures in
    let small = c.requires.small in
    (search (rules, the_lemmas, at_most), omega (arith, more, same, small))

pub add_term-returns-in_ok-push-in-Var-2-clause-rules : goal.add_term-returns-in_ok-push-in-Var-2-clause-rules
add_term-returns-in_ok-push-in-Var-2-clause-rules t c =
    let v = c.in-Var in
    let k = c.args.place in
    pushed c.args.rules.now c.push.new.self (code.Within k c.written.result) (place.Only k (has_size v.size)) c.in_ok-push-in-Var.ensures.ok (only k c.written.result (has_size v.size) c.written.ensures)
    ∙ ap (λ l. map meant c.args.rules.now ++ l) (sym (rules_of-var c.args.term.now v.var v.constant v.size v.cond v.is k))

pub add_term-returns-in_ok-push-in-Var-2-clause-spots : goal.add_term-returns-in_ok-push-in-Var-2-clause-spots
add_term-returns-in_ok-push-in-Var-2-clause-spots t c =
    let v = c.in-Var in
    c.in_ok-push-in-Var-2.ensures.ok ∙ ap (λ l. c.args.spots.now ++ l) (sym (spots-var c.args.term.now v.var v.constant v.size v.cond v.is c.args.place _ refl))

pub add_term-returns-in_ok-push-in-Var-2-clause-behind : goal.add_term-returns-in_ok-push-in-Var-2-clause-behind
add_term-returns-in_ok-push-in-Var-2-clause-behind t c =
    let one = size_of-var c.args.term.now c.in-Var.var c.in-Var.constant c.in-Var.size c.in-Var.cond c.in-Var.is in
    omega (arith, one)

pub add_term-returns-in_ok-push-in-Lit-clause-rules : goal.add_term-returns-in_ok-push-in-Lit-clause-rules
add_term-returns-in_ok-push-in-Lit-clause-rules t c =
    let v = c.in-Lit in
    let k = c.args.place in
    let set = c.of_literal.ensures ∙ ap (λ n. set_of (literal_fits n v.boolean)) (to_z-of_z {w = w128} {z = v.value} (search rules)) in
    pushed c.args.rules.now c.push-in-Lit.new.self (code.Within k c.of_literal.result) (place.Only k (literal_fits v.value v.boolean)) c.in_ok-push-in-Lit.ensures.ok (only k c.of_literal.result (literal_fits v.value v.boolean) set)
    ∙ ap (λ l. map meant c.args.rules.now ++ l) (sym (rules_of-lit c.args.term.now v.value v.boolean v.is k))

pub add_term-returns-in_ok-push-in-Lit-clause-spots : goal.add_term-returns-in_ok-push-in-Lit-clause-spots
add_term-returns-in_ok-push-in-Lit-clause-spots t c =
    sym (append-nil c.args.spots.now) ∙ ap (λ l. c.args.spots.now ++ l) (sym (spots-lit c.args.term.now c.in-Lit.value c.in-Lit.boolean c.in-Lit.is c.args.place))

pub add_term-returns-in_ok-push-in-Lit-clause-behind : goal.add_term-returns-in_ok-push-in-Lit-clause-behind
add_term-returns-in_ok-push-in-Lit-clause-behind t c =
    let one = size_of-lit c.args.term.now c.in-Lit.value c.in-Lit.boolean c.in-Lit.is in
    omega (arith, one)

pub add_term-returns-in_ok-add_op-in-App-clause-rules : goal.add_term-returns-in_ok-add_op-in-App-clause-rules
add_term-returns-in_ok-add_op-in-App-clause-rules t c =
    let v = c.in-App in
    let k = c.args.place in
    let args : c.as_slice.result.now ≡ v.args = c.as_slice.ensures in
    let under : map meant c.add_terms.new.rules ≡ map meant c.push-in-App.new.self ++ rules_of (terms_of v.args) (k + 1) = c.in_ok-behind-in-App.ensures.rules ∙ ap (λ a. map meant c.push-in-App.new.self ++ rules_of (terms_of a) (k + 1)) args in
    let roots : c.as_slice-in-App.result.now ≡ root_places (terms_of v.args) (k + 1) = c.as_slice-in-App.ensures ∙ c.in_ok-behind-in-App.ensures.roots ∙ ap (λ r. r ++ root_places (terms_of c.as_slice.result.now) (k + 1)) c.new-roots.ensures ∙ ap (λ a. root_places (terms_of a) (k + 1)) args in
    app_rules c.args.term.now v.op v.size v.once v.args v.is k c.args.rules.now c.push-in-App.new.self c.add_terms.new.rules c.add_op.new.rules c.written-in-App.result c.as_slice-in-App.result.now
    c.in_ok-push-in-App.ensures.ok c.written-in-App.ensures under roots c.in_ok-add_op-in-App.ensures

pub add_term-returns-in_ok-add_op-in-App-clause-spots : goal.add_term-returns-in_ok-add_op-in-App-clause-spots
add_term-returns-in_ok-add_op-in-App-clause-spots t c =
    let v = c.in-App in
    let k = c.args.place in
    let args : c.as_slice.result.now ≡ v.args = c.as_slice.ensures in
    c.in_ok-behind-in-App.ensures.spots
    ∙ ap (λ a. c.args.spots.now ++ map spot_of (var_places (terms_of a) (k + 1))) args
    ∙ ap (λ l. c.args.spots.now ++ l) (sym (spots-app c.args.term.now v.op v.size v.once v.args v.is k))

pub add_term-returns-in_ok-add_op-in-App-clause-behind : goal.add_term-returns-in_ok-add_op-in-App-clause-behind
add_term-returns-in_ok-add_op-in-App-clause-behind t c =
    let more = size_of-app c.args.term.now c.in-App.op c.in-App.size c.in-App.once c.in-App.args c.in-App.is in
    let same : size_of (terms_of c.as_slice.result.now) ≡ size_of (terms_of c.in-App.args) = ap (λ x. size_of (terms_of x)) c.as_slice.ensures in
    let behind = c.in_ok-behind-in-App.ensures.behind in
    omega (arith, more, same, behind)

pub add_terms-add_term-requires : goal.add_terms-add_term-requires
add_terms-add_term-requires t c =
    let split = size_of-drop c.args.terms.now c.loop-term.term-index c.term-item.result c.loop-term-test.true c.term-item.is in
    let made = c.loop-term.invariant.nodes_made in
    let small = c.requires.small in
    (search (rules, the_lemmas, at_most), omega (arith, split, made, small))

pub add_terms-loop-term-preserved : goal.add_terms-loop-term-preserved
add_terms-loop-term-preserved t c =
    let l = c.loop-term in
    let list = c.args.terms.now in
    let i = l.term-index in
    let item = c.term-item.result in
    let within = c.loop-term-test.true in
    let next = c.in_ok-place.place in
    let behind = c.in_ok-place.ensures.behind in
    let split = size_of-drop list i item within c.term-item.is in
    let made = l.invariant.nodes_made in
    record {
      rules_made = stepped (map meant l.rules) (map meant c.add_term.new.rules) (rules_of (terms_of (item ∷ [])) l.place) (rules_of (terms_of (drop i list)) l.place) (rules_of (terms_of (drop (i + 1) list)) next) _
          c.in_ok-place.ensures.rules (rules_of-drop list i item within c.term-item.is l.place next behind) l.invariant.rules_made;
      spots_made = stepped l.spots c.add_term.new.spots (map spot_of (var_places (terms_of (item ∷ [])) l.place)) (map spot_of (var_places (terms_of (drop i list)) l.place)) (map spot_of (var_places (terms_of (drop (i + 1) list)) next)) _
          c.in_ok-place.ensures.spots (spots-drop list i item within c.term-item.is l.place next behind) l.invariant.spots_made;
      roots_made = stepped l.roots c.push.new.self (l.place ∷ []) (root_places (terms_of (drop i list)) l.place) (root_places (terms_of (drop (i + 1) list)) next) _
          c.in_ok-push.ensures.ok (roots-drop list i item within c.term-item.is l.place next behind ∙ ap (λ r. r ++ root_places (terms_of (drop (i + 1) list)) next) (root_places-one item l.place)) l.invariant.roots_made;
      nodes_made = omega (arith, split, made, behind);
    }
