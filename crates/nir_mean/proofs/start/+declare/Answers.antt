use Rattle.std.proofs.Common.{◌∙◌, ◌++◌, ◌∷◌, [], List, length, ap, sym, subst, arith, rules}
use denote.Param.Weighed.{at_most}
use Rattle.nir_ir.specs.declared.node.Node.{Node, the_lemmas}
use Rattle.nir_ir.specs.Nodes.{Nil, BlockThen, nodes_of}
use Rattle.nir_mean.specs.Declares.{FitIn, declared, shown_of, told_of}
use Rattle.nir_mean.proofs.DeclareLemmas.{declared-nodes, declared-of_block, declared-of_if, declared-of_loop, fit-first, fit-second, fit_as, fit_here, if_told, nodes-past, told_end, told_more}
use Rattle.nir_mean.proofs.start.+declare.Goals as goal

pub declare_list-declare_node-requires : goal.declare_list-declare_node-requires
declare_list-declare_node-requires t c = (
  search (rules, the_lemmas, at_most),
  fit_here c.args.table.now.views c.loop-node.table.views _ _ (declared (nodes_of (c.node-item.result ∷ []))) _
      (declared-nodes c.args.list.now c.loop-node.node-index c.node-item.result c.loop-node-test.true c.node-item.is) c.loop-node.invariant,
)

pub declare_list-loop-node-preserved : goal.declare_list-loop-node-preserved
declare_list-loop-node-preserved t c =
    told_more c.args.table.now.views c.loop-node.table.views c.declare_node.new.table.views _ _ (declared (nodes_of (c.node-item.result ∷ []))) _
    (declared-nodes c.args.list.now c.loop-node.node-index c.node-item.result c.loop-node-test.true c.node-item.is)
    c.declare_node.ensures.shown c.declare_node.ensures.len c.loop-node.invariant

pub declare_list-returns-clause-shown : goal.declare_list-returns-clause-shown
declare_list-returns-clause-shown t c =
    told_end c.args.table.now.views c.loop-node.table.views _ _ (nodes-past c.args.list.now c.loop-node.node-index (omega arith)) c.loop-node.invariant

pub declare_node-declare_block-requires : goal.declare_node-declare_block-requires
declare_node-declare_block-requires t c =
    fit_as (length c.args.table.now.views) (declared (nodes_of (c.args.node.now ∷ []))) (declared (BlockThen c.in-Block.block Nil)) (declared-of_block c.args.node.now c.in-Block.block c.in-Block.is) c.requires.fits

pub declare_node-declare_list-requires : goal.declare_node-declare_list-requires
declare_node-declare_list-requires t c = (
  search (rules, the_lemmas, at_most),
  subst (λ (list : List Node). FitIn (length c.args.table.now.views) (declared (nodes_of list))) (sym c.as_slice.ensures)
      (fit-first (length c.args.table.now.views) (declared (nodes_of c.in-If.yes)) (declared (nodes_of c.in-If.no))
      (fit_as (length c.args.table.now.views) (declared (nodes_of (c.args.node.now ∷ []))) (declared (nodes_of c.in-If.yes) ++ declared (nodes_of c.in-If.no))
      (declared-of_if c.args.node.now c.in-If.id c.in-If.cond c.in-If.yes c.in-If.no c.in-If.is) c.requires.fits)),
)

pub declare_node-declare_list-requires-in-If : goal.declare_node-declare_list-requires-in-If
declare_node-declare_list-requires-in-If t c = (
  search (rules, the_lemmas, at_most),
  subst (λ (list : List Node). FitIn (length c.declare_list.new.table.views) (declared (nodes_of list))) (sym c.as_slice-in-If.ensures)
      (subst (λ (n : _). FitIn n (declared (nodes_of c.in-If.no))) (sym c.declare_list.ensures.len)
      (fit-second (length c.args.table.now.views) (declared (nodes_of c.in-If.yes)) (declared (nodes_of c.in-If.no))
      (fit_as (length c.args.table.now.views) (declared (nodes_of (c.args.node.now ∷ []))) (declared (nodes_of c.in-If.yes) ++ declared (nodes_of c.in-If.no))
      (declared-of_if c.args.node.now c.in-If.id c.in-If.cond c.in-If.yes c.in-If.no c.in-If.is) c.requires.fits))),
)

pub declare_node-declare_list-requires-in-Loop : goal.declare_node-declare_list-requires-in-Loop
declare_node-declare_list-requires-in-Loop t c = (
  search (rules, the_lemmas, at_most),
  subst (λ (list : List Node). FitIn (length c.args.table.now.views) (declared (nodes_of list))) (sym c.as_slice-in-Loop.ensures)
      (fit_as (length c.args.table.now.views) (declared (nodes_of (c.args.node.now ∷ []))) (declared (nodes_of c.in-Loop.body))
      (declared-of_loop c.args.node.now c.in-Loop.id c.in-Loop.body c.in-Loop.is) c.requires.fits),
)

pub declare_node-returns-in-Block-clause-shown : goal.declare_node-returns-in-Block-clause-shown
declare_node-returns-in-Block-clause-shown t c =
    c.declare_block.ensures.shown ∙ sym (ap (λ list. told_of list (shown_of c.args.table.now.views)) (declared-of_block c.args.node.now c.in-Block.block c.in-Block.is))

pub declare_node-returns-in-If-clause-shown : goal.declare_node-returns-in-If-clause-shown
declare_node-returns-in-If-clause-shown t c =
    if_told c.args.table.now.views c.declare_list.new.table.views c.declare_list-in-If.new.table.views (declared (nodes_of (c.args.node.now ∷ []))) c.as_slice.result.now c.as_slice-in-If.result.now c.in-If.yes c.in-If.no
    c.as_slice.ensures c.as_slice-in-If.ensures (declared-of_if c.args.node.now c.in-If.id c.in-If.cond c.in-If.yes c.in-If.no c.in-If.is)
    c.declare_list.ensures.shown c.declare_list-in-If.ensures.shown

pub declare_node-returns-in-Loop-clause-shown : goal.declare_node-returns-in-Loop-clause-shown
declare_node-returns-in-Loop-clause-shown t c =
    c.declare_list-in-Loop.ensures.shown
    ∙ ap (λ (list : List Node). told_of (declared (nodes_of list)) (shown_of c.args.table.now.views)) c.as_slice-in-Loop.ensures
    ∙ sym (ap (λ list. told_of list (shown_of c.args.table.now.views)) (declared-of_loop c.args.node.now c.in-Loop.id c.in-Loop.body c.in-Loop.is))
