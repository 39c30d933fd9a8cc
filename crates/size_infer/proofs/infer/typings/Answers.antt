use Rattle.std.proofs.Common.{◌≡◌, ◌∙◌, sym, subst, arith}
use Rattle.size_laws.specs.Ambiguous.{IsFirstAmbiguous}
use Rattle.size_infer.specs.SizeFaultsLaws.{ambiguous_is, contradiction_is, none_is, too_many_is}
use Rattle.size_infer.proofs.OptionLemmas.{all_typings, as_many, each_typing, few_lists, few_nodes, first_two, found_none, found_one, more_lists, no_two, none_for, some_list}
use Rattle.size_infer.proofs.infer.typings.Goals as goal

pub overflow_add-nodes : goal.overflow_add-nodes
overflow_add-nodes c = let few = few_nodes c.args.rule.now c.in_ok-found.found c.in_ok-found.ensures in record { fits = omega (arith, few) }

pub find_none-requires : goal.find_none-requires
find_none-requires c = record { inside = few_nodes c.args.rule.now c.in_ok-found.found c.in_ok-found.ensures }

pub find_two-requires : goal.find_two-requires
find_two-requires c = record { inside = few_nodes c.args.rule.now c.in_ok-found.found c.in_ok-found.ensures }

pub are_too_many-requires : goal.are_too_many-requires
are_too_many-requires c = record { inside = few_nodes c.args.rule.now c.in_ok-found.found c.in_ok-found.ensures }

pub all_lists-requires : goal.all_lists-requires
all_lists-requires c = record { inside = few_nodes c.args.rule.now c.in_ok-found.found c.in_ok-found.ensures }

pub returns-then-is_some-clause-contradiction : goal.returns-then-is_some-clause-contradiction
returns-then-is_some-clause-contradiction c _ =
    found_one c.find_none.result _ _ c.find_none.ensures (sym c.is_some.ensures ∙ c.if-is_some.true) (none_for c.args.rule.now c.in_ok-found.found c.in_ok-found.ensures)

pub returns-in-Some-clause-ambiguous : goal.returns-in-Some-clause-ambiguous
returns-in-Some-clause-ambiguous c node e =
    let same : c.in-Some.node ≡ node = cc in
    let has = found_none c.find_none.result _ _ c.find_none.ensures (sym c.is_some.ensures ∙ c.if-is_some.false) in
    subst (IsFirstAmbiguous c.args.rule.now) same (first_two c.args.rule.now c.in_ok-found.found c.in_ok-found.ensures has c.in-Some.node c.in-Some.ensures)

pub returns-then-are_too_many-clause-too_many : goal.returns-then-are_too_many-clause-too_many
returns-then-are_too_many-clause-too_many c _ =
    let has = found_none c.find_none.result _ _ c.find_none.ensures (sym c.is_some.ensures ∙ c.if-is_some.false) in
    more_lists c.args.rule.now c.in_ok-found.found c.in_ok-found.ensures has c.if-are_too_many.ensures

pub returns-then-are_too_many-clause-too_many_definite : goal.returns-then-are_too_many-clause-too_many_definite
returns-then-are_too_many-clause-too_many_definite c _ = no_two c.args.rule.now c.in_ok-found.found c.in_ok-found.ensures c.in_default.ensures

pub returns-clause-all : goal.returns-clause-all
returns-clause-all c = all_typings c.args.rule.now c.in_ok-found.found c.in_ok-found.ensures c.in_ok-list.list c.in_ok-list.ensures

pub returns-clause-each : goal.returns-clause-each
returns-clause-each c = each_typing c.args.rule.now c.in_ok-list.list (all_typings c.args.rule.now c.in_ok-found.found c.in_ok-found.ensures c.in_ok-list.list c.in_ok-list.ensures)

pub returns-clause-some : goal.returns-clause-some
returns-clause-some c =
    let has = found_none c.find_none.result _ _ c.find_none.ensures (sym c.is_some.ensures ∙ c.if-is_some.false) in
    let some = some_list c.args.rule.now c.in_ok-found.found c.in_ok-found.ensures has in
    let same = as_many c.args.rule.now c.in_ok-found.found c.in_ok-found.ensures c.in_ok-list.list c.in_ok-list.ensures in
    omega (arith, some, same)

pub returns-clause-few : goal.returns-clause-few
returns-clause-few c =
    let few = few_lists c.args.rule.now c.in_ok-found.found c.in_ok-found.ensures c.if-are_too_many.ensures in
    let same = as_many c.args.rule.now c.in_ok-found.found c.in_ok-found.ensures c.in_ok-list.list c.in_ok-list.ensures in
    omega (arith, few, same)

pub returns-clause-definite : goal.returns-clause-definite
returns-clause-definite c = no_two c.args.rule.now c.in_ok-found.found c.in_ok-found.ensures c.in_default.ensures

pub returns-then-is_some-clause-fault : goal.returns-then-is_some-clause-fault
returns-then-is_some-clause-fault c =
    contradiction_is c.args.rule.now
    (found_one c.find_none.result _ _ c.find_none.ensures (sym c.is_some.ensures ∙ c.if-is_some.true) (none_for c.args.rule.now c.in_ok-found.found c.in_ok-found.ensures))

pub returns-in-Some-clause-fault : goal.returns-in-Some-clause-fault
returns-in-Some-clause-fault c =
    let has = found_none c.find_none.result _ _ c.find_none.ensures (sym c.is_some.ensures ∙ c.if-is_some.false) in
    ambiguous_is c.args.rule.now c.in-Some.node (first_two c.args.rule.now c.in_ok-found.found c.in_ok-found.ensures has c.in-Some.node c.in-Some.ensures)

pub returns-then-are_too_many-clause-fault : goal.returns-then-are_too_many-clause-fault
returns-then-are_too_many-clause-fault c =
    let has = found_none c.find_none.result _ _ c.find_none.ensures (sym c.is_some.ensures ∙ c.if-is_some.false) in
    too_many_is c.args.rule.now (more_lists c.args.rule.now c.in_ok-found.found c.in_ok-found.ensures has c.if-are_too_many.ensures)
    (no_two c.args.rule.now c.in_ok-found.found c.in_ok-found.ensures c.in_default.ensures)

pub returns-clause-fault : goal.returns-clause-fault
returns-clause-fault c =
    let has = found_none c.find_none.result _ _ c.find_none.ensures (sym c.is_some.ensures ∙ c.if-is_some.false) in
    none_is c.args.rule.now (some_list c.args.rule.now c.in_ok-found.found c.in_ok-found.ensures has)
    (few_lists c.args.rule.now c.in_ok-found.found c.in_ok-found.ensures c.if-are_too_many.ensures)
    (no_two c.args.rule.now c.in_ok-found.found c.in_ok-found.ensures c.in_default.ensures)
