use Rattle.std.proofs.Common.{◌≡◌, ◌+◌, ◌∙◌, List, Some, cond, nat_eq, refl, ap, sym, subst, arith}
use Rattle.nir_ir.specs.declared.node.Node.{Node}
use Rattle.nir_ir.specs.Nodes.{Nodes, Nil, BlockThen, nodes_of}
use Rattle.nir_mean.specs.Frames.{cost, outcome_after}
use Rattle.nir_mean.specs.Run.{after_fall, jump_exit, run_list, scalar}
use Rattle.nir_mean.specs.Seen.{setting_of, shader_of, state_of}
use Rattle.nir_mean.specs.Sound.{NodesSound}
use Rattle.nir_mean.specs.State.{State}
use Rattle.nir_mean.specs.Table.{values_of}
use Rattle.nir_mean.proofs.FrameLemmas.{stepped_more}
use Rattle.nir_mean.proofs.StepLemmas.{empty_list, first_block, first_if, first_loop, goes_if, goes_loop}
use Rattle.nir_mean.proofs.run.step.Goals as goal

pub run_block-requires-clause-sound : goal.run_block-requires-clause-sound
run_block-requires-clause-sound c =
    let here : nodes_of c.args.nodes.now ≡ BlockThen c.in-Block.block (nodes_of c.in-Some.rest.now) = first_block c.args.nodes.now c.in-Some.rest.now c.in-Some.node.now c.in-Block.block c.in-Some.ensures.cases.0 c.in-Block.is in
    let parts : NodesSound (shader_of c.args.given.now) (BlockThen c.in-Block.block (nodes_of c.in-Some.rest.now)) = subst (λ (n : Nodes). NodesSound (shader_of c.args.given.now) n) here c.requires.nodes in
    parts.0

pub jump-requires-clause-rest : goal.jump-requires-clause-rest
jump-requires-clause-rest c =
    let here : nodes_of c.args.nodes.now ≡ BlockThen c.in-Block.block (nodes_of c.in-Some.rest.now) = first_block c.args.nodes.now c.in-Some.rest.now c.in-Some.node.now c.in-Block.block c.in-Some.ensures.cases.0 c.in-Block.is in
    let parts : NodesSound (shader_of c.args.given.now) (BlockThen c.in-Block.block (nodes_of c.in-Some.rest.now)) = subst (λ (n : Nodes). NodesSound (shader_of c.args.given.now) n) here c.requires.nodes in
    parts.1

pub returns-in_ok-step-in-None-clause-step : goal.returns-in_ok-step-in-None-clause-step
returns-in_ok-step-in-None-clause-step c =
    let here : nodes_of c.args.nodes.now ≡ Nil = empty_list c.args.nodes.now c.in-None.ensures.cases in
    let one : cost c.args.given.now.turns (nodes_of c.args.nodes.now) ≡ 1 = ap (cost c.args.given.now.turns) here in
    stepped_more (shader_of c.args.given.now) (setting_of c.args.given.now) _ _ _ _ c.fall.new.stack.items (state_of c.args.machine.now) c.in_ok-step-in-None.step
    (sym (ap (λ (n : Nodes). outcome_after (setting_of c.args.given.now) c.args.stack.now.items (run_list (setting_of c.args.given.now) n c.args.from (state_of c.args.machine.now))) here))
    (omega (arith, one))
    (c.in_ok-step-in-None.ensures (state_of c.args.machine.now))

pub returns-in_ok-step-in-Block-clause-step : goal.returns-in_ok-step-in-Block-clause-step
returns-in_ok-step-in-Block-clause-step c =
    let here : nodes_of c.args.nodes.now ≡ BlockThen c.in-Block.block (nodes_of c.in-Some.rest.now) = first_block c.args.nodes.now c.in-Some.rest.now c.in-Some.node.now c.in-Block.block c.in-Some.ensures.cases.0 c.in-Block.is in
    let one : cost c.args.given.now.turns (nodes_of c.args.nodes.now) ≡ 1 + cost c.args.given.now.turns (nodes_of c.in-Some.rest.now) = ap (cost c.args.given.now.turns) here in
    let after = λ (state : State). outcome_after (setting_of c.args.given.now) c.args.stack.now.items (after_fall (jump_exit c.in-Block.block.jump (Some c.in-Block.block.id) state) (run_list (setting_of c.args.given.now) (nodes_of c.in-Some.rest.now))) in
    stepped_more (shader_of c.args.given.now) (setting_of c.args.given.now) _ _ _ _ c.jump.new.stack.items (state_of c.run_block.new.self) c.in_ok-step-in-Block.step
    (ap after c.in_ok-run_block-in-Block.ensures.state
    ∙ sym (ap (λ (n : Nodes). outcome_after (setting_of c.args.given.now) c.args.stack.now.items (run_list (setting_of c.args.given.now) n c.args.from (state_of c.args.machine.now))) here))
    (omega (arith, one))
    (c.in_ok-step-in-Block.ensures (state_of c.run_block.new.self))

pub returns-in_ok-push-in-If-clause-step : goal.returns-in_ok-push-in-If-clause-step
returns-in_ok-push-in-If-clause-step c =
    let test = nat_eq (scalar (values_of c.args.machine.now.table.views) c.in-If.cond) 1 in
    goes_if (shader_of c.args.given.now) (setting_of c.args.given.now) c.args.stack.now.items c.push.new.stack.items (nodes_of c.args.nodes.now) c.in-If.id c.in-If.cond c.in-If.yes c.in-If.no
    c.chosen-nodes.result.now c.in-Some.rest c.args.from (state_of c.args.machine.now)
    (first_if c.args.nodes.now c.in-Some.rest.now c.in-Some.node.now c.in-If.id c.in-If.cond c.in-If.yes c.in-If.no c.in-Some.ensures.cases.0 c.in-If.is)
    (c.chosen-nodes.ensures
    ∙ ap (λ (first : List Node). cond test first c.as_slice-in-If.result.now) c.as_slice.ensures
    ∙ ap (λ (second : List Node). cond test c.in-If.yes second) c.as_slice-in-If.ensures)
    c.in_ok-push-in-If.ensures c.requires.nodes c.requires.frames

pub returns-in_ok-push-in-Loop-2-clause-step : goal.returns-in_ok-push-in-Loop-2-clause-step
returns-in_ok-push-in-Loop-2-clause-step c =
    goes_loop (shader_of c.args.given.now) (setting_of c.args.given.now) c.args.stack.now.items c.push-in-Loop.new.stack.items c.push-in-Loop-2.new.stack.items (nodes_of c.args.nodes.now) c.in-Loop.id c.in-Loop.body
    (record { body = c.as_slice-body.result; left = c.args.given.now.turns }) c.in-Some.rest c.args.from (state_of c.args.machine.now)
    (first_loop c.args.nodes.now c.in-Some.rest.now c.in-Some.node.now c.in-Loop.id c.in-Loop.body c.in-Some.ensures.cases.0 c.in-Loop.is)
    c.as_slice-body.ensures refl c.in_ok-push-in-Loop.ensures c.in_ok-push-in-Loop-2.ensures c.requires.nodes c.requires.frames
