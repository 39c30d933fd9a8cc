use Rattle.std.proofs.Common.{◌≡◌, ◌+◌, ◌++◌, ◌∷◌, [], Some, None, length, List, drop, sym, ◌∙◌, ap, subst, arith, append_assoc}
use Rattle.std.proofs.lemmas.List.{length_push}
use Rattle.std.proofs.lemmas.Iterator.Adapters.{YieldsList-from_vec}
use Rattle.std.proofs.lemmas.Iterator.Consumers.{YieldsList-turn}
use Rattle.rule_term.specs.Rule.{Rule}
use Rattle.rule_term.specs.Table.{AllBelow}
use Rattle.rule_term.specs.Weights.{weight_at}
use Rattle.rule_read.specs.Says.{entry_says}
use Rattle.rule_read.specs.RuleFile.{RuleFile, AreNumbered}
use Rattle.rule_check.specs.declared.refused.Refused.{Refused}
use Rattle.rule_check.specs.Accepted.{accepted, entries_say, refusal_of, refusals}
use Rattle.rule_check.specs.VerdictsLaws.{accepted_hold}
use Rattle.rule_check.proofs.Refusals.{accepted-here, accepted-past, below-more, below-next, number-at, refusals-here, refusals-past}
use Rattle.rule_check.proofs.file.check_file_skipping.Goals as goal

pub add-requires-clause-holds : goal.add-requires-clause-holds
add-requires-clause-holds c = accepted_hold c.in-Some.entry c.in_ok-one.ensures.formed (sym (c.in_ok-one.ensures.value) ∙ c.in-None-2.is)

pub add-requires-clause-greater : goal.add-requires-clause-greater
add-requires-clause-greater c =
    let given = c.into_iter-entry-iterator.ensures.into_iter_gives in
    let here = c.into_vec-entries.ensures ∙ ap (λ (file : RuleFile). file.entries) c.file.view_is in
    let all = YieldsList-from_vec {s = c.into_iter-entry-iterator.result} c.args.file.entries (given.0 ∙ here) (given.1 ∙ c.into_vec-entries.result.ok.0 ∙ ap length here) in
    let at = YieldsList-turn all c.loop-entry.yielded c.loop-entry.entry-iterator c.loop-entry.yielded_by c.next.result c.next.new.self c.in-Some.entry c.in-Some.is c.next.ensures.steps in
    let numbered = subst (λ (file : RuleFile). AreNumbered 0 file.entries) c.file.view_is c.file.invariant.numbered in
    let number : c.in-Some.entry.rule.number ≡ 0 + length c.loop-entry.yielded = number-at c.args.file.entries 0 (length c.loop-entry.yielded) c.in-Some.entry at numbered in
    let same : length c.loop-entry.yielded ≡ c.in-Some.entry.rule.number = omega (arith, number) in
    subst (λ n. AllBelow n c.loop-entry.table.rules) same c.loop-entry.invariant.4

pub loop-entry-preserved : goal.loop-entry-preserved
loop-entry-preserved c =
    let given = c.into_iter-entry-iterator.ensures.into_iter_gives in
    let here = c.into_vec-entries.ensures ∙ ap (λ (file : RuleFile). file.entries) c.file.view_is in
    let all = YieldsList-from_vec {s = c.into_iter-entry-iterator.result} c.args.file.entries (given.0 ∙ here) (given.1 ∙ c.into_vec-entries.result.ok.0 ∙ ap length here) in
    let at = YieldsList-turn all c.loop-entry.yielded c.loop-entry.entry-iterator c.loop-entry.yielded_by c.next.result c.next.new.self c.in-Some.entry c.in-Some.is c.next.ensures.steps in
    let numbered = subst (λ (file : RuleFile). AreNumbered 0 file.entries) c.file.view_is c.file.invariant.numbered in
    let entries = c.args.file.entries in
    let k = length c.loop-entry.yielded in
    let entry = c.in-Some.entry in
    let number : entry.rule.number ≡ 0 + k = number-at entries 0 k entry at numbered in
    let same : entry.rule.number ≡ k = omega (arith, number) in
    let none : refusal_of (entry_says entry) ≡ None = sym (c.in_ok-one.ensures.value) ∙ c.in-None-2.is in
    let one_more : k + 1 ≡ length (c.loop-entry.yielded ++ entry ∷ []) = sym (length_push c.loop-entry.yielded entry) in
    let added : c.add.new.self.rules ≡ c.loop-entry.table.rules ++ entry.rule ∷ [] = c.in_ok-add-in-None-2.ensures.ok in (
      tt,
      tt,
      ap (λ (t : List Rule). t ++ accepted (drop (length (c.loop-entry.yielded ++ entry ∷ [])) entries)) added
          ∙ ap (λ n. (c.loop-entry.table.rules ++ entry.rule ∷ []) ++ accepted (drop n entries)) (sym one_more)
          ∙ append_assoc c.loop-entry.table.rules (entry.rule ∷ []) (accepted (drop (k + 1) entries))
          ∙ ap (λ l. c.loop-entry.table.rules ++ l) (sym (accepted-here entries k entry at none))
          ∙ c.loop-entry.invariant.2,
      ap (λ n. c.loop-entry.refused ++ refusals (entries_say (drop n entries))) (sym one_more)
          ∙ ap (λ l. c.loop-entry.refused ++ l) (sym (refusals-past entries k entry at none))
          ∙ c.loop-entry.invariant.3,
      subst (λ (t : List Rule). AllBelow (length (c.loop-entry.yielded ++ entry ∷ [])) t) (sym added)
          (subst (λ n. AllBelow n (c.loop-entry.table.rules ++ entry.rule ∷ [])) one_more (below-more c.loop-entry.table.rules entry.rule k c.loop-entry.invariant.4 same)),
      λ op. ap (λ weights. weight_at weights op) c.in_ok-add-in-None-2.ensures.weights ∙ c.loop-entry.invariant.5 op,
    )

pub loop-entry-preserved-in-Some-branch-2 : goal.loop-entry-preserved-in-Some-branch-2
loop-entry-preserved-in-Some-branch-2 c =
    let given = c.into_iter-entry-iterator.ensures.into_iter_gives in
    let here = c.into_vec-entries.ensures ∙ ap (λ (file : RuleFile). file.entries) c.file.view_is in
    let all = YieldsList-from_vec {s = c.into_iter-entry-iterator.result} c.args.file.entries (given.0 ∙ here) (given.1 ∙ c.into_vec-entries.result.ok.0 ∙ ap length here) in
    let at = YieldsList-turn all c.loop-entry.yielded c.loop-entry.entry-iterator c.loop-entry.yielded_by c.next.result c.next.new.self c.in-Some.entry c.in-Some.is c.next.ensures.steps in
    let entries = c.args.file.entries in
    let k = length c.loop-entry.yielded in
    let entry = c.in-Some.entry in
    let some : refusal_of (entry_says entry) ≡ Some c.in-Some-2.one = sym (c.in_ok-one.ensures.value) ∙ c.in-Some-2.is in
    let one_more : k + 1 ≡ length (c.loop-entry.yielded ++ entry ∷ []) = sym (length_push c.loop-entry.yielded entry) in
    let told : c.push.new.self ≡ c.loop-entry.refused ++ c.in-Some-2.one ∷ [] = c.in_ok-push-in-Some-2.ensures.ok in (
      tt,
      tt,
      ap (λ n. c.loop-entry.table.rules ++ accepted (drop n entries)) (sym one_more)
          ∙ ap (λ l. c.loop-entry.table.rules ++ l) (sym (accepted-past entries k entry c.in-Some-2.one at some))
          ∙ c.loop-entry.invariant.2,
      ap (λ (l : List Refused). l ++ refusals (entries_say (drop (length (c.loop-entry.yielded ++ entry ∷ [])) entries))) told
          ∙ ap (λ n. (c.loop-entry.refused ++ c.in-Some-2.one ∷ []) ++ refusals (entries_say (drop n entries))) (sym one_more)
          ∙ append_assoc c.loop-entry.refused (c.in-Some-2.one ∷ []) (refusals (entries_say (drop (k + 1) entries)))
          ∙ ap (λ l. c.loop-entry.refused ++ l) (sym (refusals-here entries k entry c.in-Some-2.one at some))
          ∙ c.loop-entry.invariant.3,
      subst (λ n. AllBelow n c.loop-entry.table.rules) one_more (below-next c.loop-entry.table.rules k c.loop-entry.invariant.4),
      c.loop-entry.invariant.5,
    )
