use Rattle.std.proofs.Common.{◌≡◌, length, take, drop, sym, ap, ◌∙◌, subst, arith, [], ◌∷◌}
use Rattle.std.proofs.lemmas.List.{length-take-le, take_rest}
use Rattle.rule_term.specs.Terms.{terms_of}
use Rattle.rule_term.specs.Formed.{IsFormed}
use Rattle.rule_term.specs.Typings.{size_of}
use Rattle.rule_term.proofs.ReadyLemmas.{ready_at}
use Rattle.rule_term.specs.Typed.{IsTyped-from_is_typing}
use Rattle.rule_term.proofs.SideLemmas.{search_ready, replace_ready}
use Rattle.rule_term.proofs.side.eval_term.Goals as goal

pub nodes_in-searched-requires : goal.nodes_in-searched-requires
nodes_in-searched-requires c =
    let whole = (IsTyped-from_is_typing c.args.rule.now c.args.typing.now.widths c.requires.typing).count in
    let here : size_of (terms_of (c.rule.inside.search ∷ [])) ≡ size_of c.args.rule.now.search = ap (λ r. size_of r.search) c.rule.view_is in
    let long = ap length c.as_slice-widths.ensures in
    record { small = omega arith }

pub slice_bounds-value_of-end : goal.slice_bounds-value_of-end
slice_bounds-value_of-end c =
    let whole = (IsTyped-from_is_typing c.args.rule.now c.args.typing.now.widths c.requires.typing).count in
    let here : size_of (terms_of (c.rule.inside.search ∷ [])) ≡ size_of c.args.rule.now.search = ap (λ r. size_of r.search) c.rule.view_is in
    let long = ap length c.as_slice-widths.ensures in
    let counted = c.nodes_in-searched.ensures.count in
    sym (length-take-le c.nodes_in-searched.result c.as_slice-widths.result.now (omega arith))

pub value_of-requires : goal.value_of-requires
value_of-requires c =
    let formed = subst IsFormed c.rule.view_is c.rule.invariant in
    let ready = search_ready c.args.rule.now c.args.typing.now.widths c.args.values.now formed c.requires.typing c.requires.values c.requires.words in
    let counted : size_of c.args.rule.now.search ≡ c.nodes_in-searched.result = sym (c.nodes_in-searched.ensures.count ∙ ap (λ r. size_of r.search) c.rule.view_is) in
    record { ready = ready_at _ _ _ _ _ (sym (ap (λ r. r.search) c.rule.view_is)) (ap (λ n. take n c.args.typing.now.widths) counted ∙ ap (take c.nodes_in-searched.result) (sym c.as_slice-widths.ensures)) ready }

pub slice_bounds-value_of-count : goal.slice_bounds-value_of-count
slice_bounds-value_of-count c =
    let whole = (IsTyped-from_is_typing c.args.rule.now c.args.typing.now.widths c.requires.typing).count in
    let here : size_of (terms_of (c.rule.inside.search ∷ [])) ≡ size_of c.args.rule.now.search = ap (λ r. size_of r.search) c.rule.view_is in
    let long = ap length c.as_slice-widths.ensures in
    let counted = c.nodes_in-searched.ensures.count in
    omega arith

pub slice_bounds-value_of-start : goal.slice_bounds-value_of-start
slice_bounds-value_of-start c =
    let whole = (IsTyped-from_is_typing c.args.rule.now c.args.typing.now.widths c.requires.typing).count in
    let here : size_of (terms_of (c.rule.inside.search ∷ [])) ≡ size_of c.args.rule.now.search = ap (λ r. size_of r.search) c.rule.view_is in
    let long = ap length c.as_slice-widths.ensures in
    let counted = c.nodes_in-searched.ensures.count in
    omega arith

pub value_of-requires-in-Replace : goal.value_of-requires-in-Replace
value_of-requires-in-Replace c =
    let formed = subst IsFormed c.rule.view_is c.rule.invariant in
    let ready = replace_ready c.args.rule.now c.args.typing.now.widths c.args.values.now formed c.requires.typing c.requires.values c.requires.words in
    let counted : size_of c.args.rule.now.search ≡ c.nodes_in-searched.result = sym (c.nodes_in-searched.ensures.count ∙ ap (λ r. size_of r.search) c.rule.view_is) in
    let widths = c.as_slice-widths.result.now in
    record { ready = ready_at _ _ _ _ _ (sym (ap (λ r. r.replace) c.rule.view_is)) (ap (λ n. drop n c.args.typing.now.widths) counted ∙ ap (drop c.nodes_in-searched.result) (sym c.as_slice-widths.ensures) ∙ sym (take_rest widths c.nodes_in-searched.result)) ready }
