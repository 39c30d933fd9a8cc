use Rattle.std.proofs.Common.{◌<◌, ◌∙◌, ap, sym, subst, arith}
use Rattle.std.specs.List.{swap}
use Rattle.rule_term.specs.Swapped.{swapped_terms}
use Rattle.rule_term.specs.Terms.{terms_of}
use Rattle.rule_variants.proofs.CopyLemmas.{swapped_list, swapped_short}
use Rattle.rule_variants.proofs.copy.with_swapped.Goals as goal

pub returns-then-len-lt2 : goal.returns-then-len-lt2
returns-then-len-lt2 c =
    swapped_short c.args.terms (subst (λ n. n < 2) c.len.ensures c.if-len-lt2.true) ∙ ap (λ b. swapped_terms b (terms_of c.args.terms)) (sym c.if-not-swap.false)

pub returns : goal.returns
returns c =
    let count = c.len.ensures in
    let many = c.if-len-lt2.false in
    ap terms_of (c.from_vec.ensures ∙ c.swap.ensures.items ∙ ap (λ l. swap l 0 1) c.into_vec-items.ensures) ∙ swapped_list c.args.terms (omega (arith, count, many))
    ∙ ap (λ b. swapped_terms b (terms_of c.args.terms)) (sym c.if-not-swap.false)
