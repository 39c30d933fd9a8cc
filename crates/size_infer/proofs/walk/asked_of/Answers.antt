use Rattle.std.proofs.Common.{◌∙◌, ◌++◌, ap, map, subst, arith}
use Rattle.rule_term.specs.FewNodes.{few_replaced, few_searched}
use Rattle.rule_term.specs.Formed.{IsFormed}
use Rattle.size_infer.specs.Meant.{link_spots, meant}
use Rattle.size_infer.proofs.LinkLemmas.{asked_whole, first_counted, second_counted}
use Rattle.size_infer.proofs.walk.asked_of.Goals as goal

pub add_term-requires : goal.add_term-requires
add_term-requires c =
    let few = few_searched _ c.rule.invariant in
    record { small = omega arith }

pub add_term-requires-2 : goal.add_term-requires-2
add_term-requires-2 c =
    let few = few_searched _ c.rule.invariant in
    let more = few_replaced _ c.rule.invariant in
    let searched = c.in_ok-searched.ensures.behind in
    record { small = omega arith }

pub returns : goal.returns
returns c =
    let rule = c.args.rule.now in
    let behind = c.in_ok-searched.ensures.behind in
    record {
      formed = subst IsFormed c.rule.view_is c.rule.invariant;
      rules = asked_whole rule _ c.rule.view_is c.in_ok-searched.searched c.new-rules.result c.add_term.new.rules c.add_term-2.new.rules c.push.new.self c.add_links.new.rules c.new-spots.result c.add_term.new.spots c.add_term-2.new.spots
          (omega (arith, behind)) c.new-rules.ensures c.new-spots.ensures c.in_ok-searched.ensures.rules c.in_ok-searched.ensures.spots c.in_ok-nodes.ensures.rules c.in_ok-nodes.ensures.spots c.in_ok-push.ensures.ok
          (c.in_ok-add_links.ensures ∙ ap (λ s. map meant c.push.new.self ++ link_spots s) c.as_slice.ensures);
      searched = first_counted rule _ c.rule.view_is c.in_ok-searched.searched behind;
      replaced = second_counted rule _ c.rule.view_is c.in_ok-searched.searched c.in_ok-nodes.nodes c.in_ok-nodes.ensures.behind;
    }
