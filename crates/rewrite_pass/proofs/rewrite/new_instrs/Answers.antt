use Rattle.std.proofs.Common.{rules, ◌≡◌, ◌∙◌, sym, ap, subst, [], ◌∷◌, length, None, Some, arith}
use Rattle.std.proofs.lemmas.Option.{none-some}
use Rattle.rule_term.specs.FewNodes.{few_replaced}
use Rattle.rule_term.specs.Formed.{IsFormed}
use Rattle.rule_term.specs.Replaced.{replace_for}
use Rattle.rule_term.specs.Terms.{terms_of}
use Rattle.rule_term.specs.Typings.{size_of}
use Rattle.nir_search.specs.Match.{met, root_view}
use Rattle.nir_search.specs.Met.{length-met}
use Rattle.nir_search.specs.Put.{root_of}
use Rattle.nir_search.specs.Steps.{count_of}
use Rattle.rule_meaning.specs.HitLaws.{ArePut, put_says, put_with}
use Rattle.rewrite_pass.proofs.rewrite.new_instrs.Goals as goal

pub replace_widths-requires : goal.replace_widths-requires
replace_widths-requires c =
    let body = c.args.work.now.shader.body in
    ap length (c.as_slice.ensures.value ∙ c.widths_met-met.ensures) ∙ length-met body c.args.rule.now.search c.args.variant (root_view body c.args.value ∷ [])

pub root_instrs-requires-clause-enough : goal.root_instrs-requires-clause-enough
root_instrs-requires-clause-enough c =
    let s = c.args.work.now.shader in
    let rule = c.args.rule.now in
    let formed = subst IsFormed c.rule.view_is c.rule.invariant in
    let is : replace_for rule (met s.body rule.search c.args.variant (root_view s.body c.args.value ∷ [])) ≡ Some c.in-Some.widths.items =
    ap (replace_for rule) (sym (c.as_slice.ensures.value ∙ c.widths_met-met.ensures)) ∙ sym c.in-Some.ensures in
    let long = (put_with s rule formed c.args.variant c.args.value c.args.subst.now c.requires.found c.in-Some.widths.items is).0 in
    let sizes = ap length c.as_slice-sizes.ensures.value in
    let own : size_of (terms_of (c.rule.inside.replace ∷ [])) ≡ size_of rule.replace = ap (λ r. size_of r.replace) c.rule.view_is in
    omega (arith, long, sizes, own)

pub root_instrs-requires-clause-room : goal.root_instrs-requires-clause-room
root_instrs-requires-clause-room c =
    let rule = c.args.rule.now in
    let small = few_replaced rule (subst IsFormed c.rule.view_is c.rule.invariant) in
    let own : size_of (terms_of (c.rule.inside.replace ∷ [])) ≡ size_of rule.replace = ap (λ r. size_of r.replace) c.rule.view_is in
    let next = c.next_value-next.ensures in
    let fresh = c.requires.fresh in
    omega (arith, small, own, next, fresh)

pub unreachable-requires : goal.unreachable-requires
unreachable-requires c =
    let s = c.args.work.now.shader in
    let rule = c.args.rule.now in
    let formed = subst IsFormed c.rule.view_is c.rule.invariant in
    let says = put_says s rule formed c.args.variant c.args.value c.args.subst.now c.requires.found in
    let none : replace_for rule c.as_slice.result.now ≡ None = search rules in
    none-some says.widths (sym none ∙ ap (replace_for rule) (c.as_slice.ensures.value ∙ c.widths_met-met.ensures) ∙ says.sizes)

pub returns : goal.returns
returns c =
    let s = c.args.work.now.shader in
    let rule = c.args.rule.now in
    let binds = c.args.subst.now in
    let value = c.args.value in
    let widths = c.in-Some.widths.items in
    let formed = subst IsFormed c.rule.view_is c.rule.invariant in
    let is : replace_for rule (met s.body rule.search c.args.variant (root_view s.body value ∷ [])) ≡ Some widths =
    ap (replace_for rule) (sym (c.as_slice.ensures.value ∙ c.widths_met-met.ensures)) ∙ sym c.in-Some.ensures in
    let put = (put_with s rule formed c.args.variant value binds c.requires.found widths is).1 in
    let same =
    c.in_ok-news-in-Some.ensures
    ∙ ap (λ n. (root_of binds value n (terms_of (c.rule.inside.replace ∷ [])) c.as_slice-sizes.result.now c.next_value-next.result).instrs) c.count_at-count.ensures.count
    ∙ ap (λ terms. (root_of binds value (count_of s value) terms c.as_slice-sizes.result.now c.next_value-next.result).instrs) (ap (λ r. r.replace) c.rule.view_is)
    ∙ ap (λ l. (root_of binds value (count_of s value) rule.replace l c.next_value-next.result).instrs) c.as_slice-sizes.ensures.value
    ∙ ap (λ n. (root_of binds value (count_of s value) rule.replace widths n).instrs) c.next_value-next.ensures in
    subst (ArePut rule c.args.variant s value binds) (sym same) put
