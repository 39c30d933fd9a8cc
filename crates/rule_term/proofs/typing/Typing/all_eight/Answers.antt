use Rattle.std.proofs.Common.{◌∙◌, ap, subst, arith}
use Rattle.rule_term.specs.Formed.{IsFormed}
use Rattle.rule_term.specs.EightBitLaws.{eight_is_typing}
use Rattle.rule_term.specs.Typings.{is_typing}
use Rattle.rule_term.specs.FewNodes.{few_searched, few_replaced}
use Rattle.rule_term.proofs.SizeLemmas.{all_eight-made}
use Rattle.rule_term.proofs.typing.Typing.all_eight.Goals as goal

pub nodes_in-requires : goal.nodes_in-requires
nodes_in-requires c =
    let few = few_searched _ c.rule.invariant in
    record { small = omega arith }

pub nodes_in-requires-2 : goal.nodes_in-requires-2
nodes_in-requires-2 c =
    let few = few_replaced _ c.rule.invariant in
    record { small = omega arith }

pub overflow_add-count : goal.overflow_add-count
overflow_add-count c =
    let searched = few_searched _ c.rule.invariant in
    let replaced = few_replaced _ c.rule.invariant in
    let first = c.nodes_in.ensures.count in
    let second = c.nodes_in-2.ensures.count in
    record { fits = omega (arith, searched, replaced, first, second) }

pub returns-clause-typing : goal.returns-clause-typing
returns-clause-typing c =
    let formed = subst IsFormed c.rule.view_is c.rule.invariant in
    let whole = all_eight-made c.args.rule.now _ c.nodes_in.result c.nodes_in-2.result c.rule.view_is c.nodes_in.ensures.count c.nodes_in-2.ensures.count in
    ap (is_typing c.args.rule.now) (c.in_ok-widths.ensures ∙ whole) ∙ eight_is_typing c.args.rule.now formed c.requires
