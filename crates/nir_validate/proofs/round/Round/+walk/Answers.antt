use Rattle.std.proofs.Common.{◌-◌, ◌++◌, ◌∙◌, refl, sym, ap, ap₂, subst, eqb, length, arith}
use Rattle.nir_ir.specs.Items.{items}
use Rattle.nir_ir.specs.Nodes.{nodes_of}
use Rattle.nir_validate.specs.declared.way.Jumps.{Jumps}
use Rattle.nir_validate.specs.Steps.{AreIn, Arrives, CanWalk, stand, through}
use Rattle.nir_validate.proofs.ListLemmas.{CanWalk-node, node-items, Walked-next, Walked-end, node_is-block, node_is-if, node_is-loop}
use Rattle.nir_validate.proofs.PartLemmas.{length-if, length-loop, CanWalk-first, CanWalk-second, CanWalk-body, if-arrives, loop-arrives, loop-edges_in}
use Rattle.nir_validate.proofs.round.Round.+walk.Goals as goal

pub list-node-requires : goal.list-node-requires
list-node-requires t c =
    let few = node-items c.args.list.now c.loop-node.node-index c.node-item.result c.loop-node-test.true c.node-item.is in
    (omega (arith, few, c.decreases), CanWalk-node c.args.list.now c.loop-node.node-index c.node-item.result c.loop-node.self c.loop-node.ways c.loop-node.jumps c.loop-node-test.true c.node-item.is c.loop-node.invariant.can)

pub list-loop-node-preserved : goal.list-loop-node-preserved
list-loop-node-preserved t c =
    Walked-next c.args.wait c.args.list.now c.args.self.now c.args.falls c.args.jumps.now c.loop-node.node-index c.node-item.result c.loop-node.wait (eqb (c.loop-node.left - 1) 0) c.loop-node.self c.node.new.self c.loop-node.ways c.in_ok-ways.ways c.loop-node.jumps c.node.new.jumps c.loop-node.left (c.loop-node.left - 1) c.loop-node-test.true c.node-item.is (omega (arith, c.loop-node.invariant.left_is)) refl c.loop-node.invariant c.in_ok-ways.ensures

pub list-returns : goal.list-returns
list-returns t c =
    Walked-end c.args.wait c.args.list.now c.args.self.now c.args.falls c.args.jumps.now c.loop-node.node-index c.loop-node.wait c.loop-node.self c.loop-node.ways c.loop-node.jumps c.loop-node.left c.loop-node-test.false c.loop-node.invariant

pub node-block-requires : goal.node-block-requires
node-block-requires t c =
    subst (CanWalk c.args.self.now c.args.falls c.args.jumps.now) (node_is-block c.args.node.now c.in-Block.block c.in-Block.is) c.requires.walkable

pub node-branch-self-requires : goal.node-branch-self-requires
node-branch-self-requires t c =
    let same = ap (λ nodes. length (items nodes)) (node_is-if c.args.node.now c.in-If.id c.in-If.cond c.in-If.yes c.in-If.no c.as_slice.result.now c.as_slice-in-If.result.now c.in-If.is c.as_slice.ensures c.as_slice-in-If.ensures) in (
      omega (arith, same, c.decreases),
      subst (CanWalk c.args.self.now c.args.falls c.args.jumps.now)
          (node_is-if c.args.node.now c.in-If.id c.in-If.cond c.in-If.yes c.in-If.no c.as_slice.result.now c.as_slice-in-If.result.now c.in-If.is c.as_slice.ensures c.as_slice-in-If.ensures)
          c.requires.walkable,
    )

pub node-repeat-requires : goal.node-repeat-requires
node-repeat-requires t c =
    let same = ap (λ nodes. length (items nodes)) (node_is-loop c.args.node.now c.in-Loop.id c.in-Loop.body c.as_slice-in-Loop.result.now c.in-Loop.is c.as_slice-in-Loop.ensures) in (
      omega (arith, same, c.decreases),
      subst (CanWalk c.args.self.now c.args.falls c.args.jumps.now)
          (node_is-loop c.args.node.now c.in-Loop.id c.in-Loop.body c.as_slice-in-Loop.result.now c.in-Loop.is c.as_slice-in-Loop.ensures)
          c.requires.walkable,
    )

pub node-returns-in_ok-ways-in-Block : goal.node-returns-in_ok-ways-in-Block
node-returns-in_ok-ways-in-Block t c =
    let before = stand c.args.self.now c.args.falls c.args.jumps.now in
    subst (λ nodes. Arrives c.args.self.now c.block.new.self c.in_ok-ways-in-Block.ways c.block.new.jumps (through c.args.wait c.args.last nodes before))
    (sym (node_is-block c.args.node.now c.in-Block.block c.in-Block.is))
    c.in_ok-ways-in-Block.ensures

pub node-returns-in_ok-ways-in-If : goal.node-returns-in_ok-ways-in-If
node-returns-in_ok-ways-in-If t c =
    let before = stand c.args.self.now c.args.falls c.args.jumps.now in
    subst (λ nodes. Arrives c.args.self.now c.branch-self.new.self c.in_ok-ways-in-If.ways c.branch-self.new.jumps (through c.args.wait c.args.last nodes before))
    (sym (node_is-if c.args.node.now c.in-If.id c.in-If.cond c.in-If.yes c.in-If.no c.as_slice.result.now c.as_slice-in-If.result.now c.in-If.is c.as_slice.ensures c.as_slice-in-If.ensures))
    (c.in_ok-ways-in-If.ensures c.args.wait c.args.last)

pub node-returns-in_ok-ways-in-Loop : goal.node-returns-in_ok-ways-in-Loop
node-returns-in_ok-ways-in-Loop t c =
    let before = stand c.args.self.now c.args.falls c.args.jumps.now in
    subst (λ nodes. Arrives c.args.self.now c.repeat.new.self c.in_ok-ways-in-Loop.ways c.repeat.new.jumps (through c.args.wait c.args.last nodes before))
    (sym (node_is-loop c.args.node.now c.in-Loop.id c.in-Loop.body c.as_slice-in-Loop.result.now c.in-Loop.is c.as_slice-in-Loop.ensures))
    (c.in_ok-ways-in-Loop.ensures c.args.wait c.args.last)

pub branch-list-requires : goal.branch-list-requires
branch-list-requires t c =
    let parts = length-if c.args.id c.args.condition (nodes_of c.args.yes.now) (nodes_of c.args.no.now) in (
      omega (arith, parts, c.decreases),
      CanWalk-first c.args.self.now c.if_head.new.self c.args.falls c.args.jumps.now c.args.id c.args.condition (nodes_of c.args.yes.now) (nodes_of c.args.no.now) c.requires.walkable
          (ap (λ round. round.scope) c.if_head.ensures)
          (ap (λ round. round.item) c.if_head.ensures),
    )

pub branch-list-requires-2 : goal.branch-list-requires-2
branch-list-requires-2 t c =
    let parts = length-if c.args.id c.args.condition (nodes_of c.args.yes.now) (nodes_of c.args.no.now) in (
      omega (arith, parts, c.decreases),
      CanWalk-second c.args.self.now c.if_head.new.self c.list.new.self c.args.falls c.in_ok-entered.entered c.in_ok-ends.ends c.args.jumps.now c.list.new.jumps c.args.id c.args.condition (nodes_of c.args.yes.now) (nodes_of c.args.no.now) c.requires.walkable
          (ap (λ round. round.scope) c.if_head.ensures)
          (ap (λ round. round.item) c.if_head.ensures)
          (c.in_ok-entered.ensures ∙ c.as_slice-2.ensures)
          c.in_ok-ends.ensures,
    )

pub branch-returns : goal.branch-returns
branch-returns t c =
    λ wait last.
    if-arrives c.args.self.now c.if_head.new.self c.list.new.self c.list-2.new.self c.args.falls c.in_ok-entered.entered c.in_ok-ends.ends c.in_ok-others.others c.extend_from_slice.new.self c.args.jumps.now c.list.new.jumps c.list-2.new.jumps c.args.id c.args.condition (nodes_of c.args.yes.now) (nodes_of c.args.no.now) wait last
    c.requires.walkable
    (rw c.as_slice.ensures at c.if_head.ensures)
    (c.in_ok-entered.ensures ∙ c.as_slice-2.ensures)
    c.in_ok-ends.ensures
    c.in_ok-others.ensures
    (c.in_ok-extend_from_slice.ensures.ok ∙ ap (λ others. c.in_ok-ends.ends ++ others) c.as_slice-3.ensures)

pub repeat-list-requires : goal.repeat-list-requires
repeat-list-requires t c =
    let inner : Jumps = record { breaks = c.new.result; continues = c.new-2.result } in
    let parts = length-loop c.args.id (nodes_of c.args.body.now) in (
      omega (arith, parts, c.decreases),
      CanWalk-body c.args.self.now c.loop_head.new.self c.args.falls c.args.jumps.now inner c.args.id (nodes_of c.args.body.now) c.requires.walkable
          (ap (λ round. round.scope) c.loop_head.ensures)
          (ap (λ round. round.item) c.loop_head.ensures)
          c.new.ensures
          c.new-2.ensures,
    )

pub repeat-first_phis-requires-clause-within : goal.repeat-first_phis-requires-clause-within
repeat-first_phis-requires-clause-within t c =
    let inner : Jumps = record { breaks = c.new.result; continues = c.new-2.result } in
    let edges = c.in_ok-extend_from_slice-2.ensures.ok ∙ ap₂ (λ front back. front ++ back) (c.in_ok-extend_from_slice.ensures.ok ∙ ap₂ (λ front back. front ++ back) (c.in_ok-edges.ensures ∙ c.as_slice-2.ensures) c.as_slice-3.ensures) c.as_slice-4.ensures in
    subst (AreIn c.list.new.self.scope) (sym c.as_slice-5.ensures)
    (loop-edges_in c.args.self.now c.loop_head.new.self c.list.new.self c.args.falls c.in_ok-back.back c.extend_from_slice-2.new.self c.args.jumps.now inner c.list.new.jumps c.args.id (nodes_of c.args.body.now) c.requires.walkable
    (ap (λ round. round.scope) c.loop_head.ensures)
    edges
    c.in_ok-back.ensures)

pub repeat-returns : goal.repeat-returns
repeat-returns t c =
    let inner : Jumps = record { breaks = c.new.result; continues = c.new-2.result } in
    let edges = c.in_ok-extend_from_slice-2.ensures.ok ∙ ap₂ (λ front back. front ++ back) (c.in_ok-extend_from_slice.ensures.ok ∙ ap₂ (λ front back. front ++ back) (c.in_ok-edges.ensures ∙ c.as_slice-2.ensures) c.as_slice-3.ensures) c.as_slice-4.ensures in
    λ wait last.
    loop-arrives c.args.self.now c.loop_head.new.self c.list.new.self c.first_phis.new.self c.args.falls c.in_ok-back.back c.extend_from_slice-2.new.self c.args.jumps.now inner c.list.new.jumps c.loop_head.new.self.item c.args.id (nodes_of c.args.body.now) wait last
    c.requires.walkable
    (rw c.as_slice.ensures at c.loop_head.ensures)
    refl
    c.new.ensures
    c.new-2.ensures
    c.in_ok-back.ensures
    edges
    (rw c.as_slice-5.ensures at c.first_phis.ensures)
