use Rattle.std.proofs.Common.{◌≡◌, ◌<◌, ◌-◌, ◌+◌, ◌∷◌, [], Err, true, false, sym, ap, ◌∙◌, arith}
use Rattle.std.specs.Prelude.{codes}
use Rattle.std.proofs.lemmas.Result.{err_from_is_err_and}
use Rattle.nir_ir.specs.Nodes.{nodes_of, before-block, before-if, before-loop, nodes_of-append}
use Rattle.nir_text.specs.declared.fault.TextFault.TheVariants.{Expected}
use Rattle.nir_text.specs.Signs.{Sign, is_mark, is_word}
use Rattle.nir_text.specs.Reading.{here, next, mark_at, value_used_at}
use Rattle.nir_text.specs.Table.{naming}
use Rattle.nir_text.specs.Tree.{block_at, node_at, nodes_at, list_at}
use Rattle.nir_text.specs.View.{point}
use Rattle.nir_text.proofs.Front.{fails}
use Rattle.nir_text.proofs.Turns.{goes_on, ends, stops, is_done, block-read, if-read, loop-read, nodes-step, nodes-no_node, nodes-done, nodes-end, list-no_mark, list-read}
use Rattle.nir_text.proofs.tree.+lists.Goals as goal

pub if_at-returns : goal.if_at-returns
if_at-returns t c =
    let names = naming c.args.names.now in
    let inner = list_at names c.args.depth in
    let p = point c.args.p.now in
    rw (c.counts.ensures, before-if)
    (if-read inner names p (point c.in_ok-cond.at) (point c.in_ok-yes.at) (point c.in_ok-at.at) (point c.in_ok-no.at) c.in_ok-cond.cond (nodes_of c.in_ok-yes.yes) (nodes_of c.in_ok-no.no)
    (ap (value_used_at names) (sym c.with_if.ensures) ∙ c.in_ok-cond.ensures) c.in_ok-yes.ensures c.in_ok-at.ensures c.in_ok-no.ensures)

pub loop_at-returns : goal.loop_at-returns
loop_at-returns t c =
    let names = naming c.args.names.now in
    let inner = list_at names c.args.depth in
    let p = point c.args.p.now in
    rw (c.counts.ensures, before-loop)
    (loop-read inner names p (point c.in_ok-body.at) (nodes_of c.in_ok-body.body) (ap inner (sym c.with_loop.ensures) ∙ c.in_ok-body.ensures))

pub list_at-returns-in_err-begun : goal.list_at-returns-in_err-begun
list_at-returns-in_err-begun t c =
    let q = err_from_is_err_and c.from_residual.result c.from_residual.ensures.1 in
    let names = naming c.args.names.now in
    let deep : 0 < c.args.depth = omega arith in
    rw (q.1, q.2) (fails c.in_err-begun.field-0.0 (mark_at 123 (point c.args.p.now)) (list_at names c.args.depth (point c.args.p.now))
    (λ f e. list-no_mark names c.args.depth (point c.args.p.now) f deep e) c.in_err-begun.ensures)

pub list_at-returns : goal.list_at-returns
list_at-returns t c =
    let names = naming c.args.names.now in
    let deep : 0 < c.args.depth = omega arith in
    let e = list-read names c.args.depth (point c.args.p.now) (point c.in_ok-begun.begun) deep c.in_ok-begun.ensures in
    rw e c.nodes_at.ensures

pub node_at-returns-then-is_word : goal.node_at-returns-then-is_word
node_at-returns-then-is_word t c =
    let names = naming c.args.names.now in
    let p = point c.args.p.now in
    let word : is_word (codes "block") (here p) ≡ true = ap (is_word (codes "block")) (sym c.here-sign.ensures) ∙ sym c.if-is_word.ensures in
    rw before-block (block-read (list_at names c.args.depth) names p c.in_ok-block.block (point c.in_ok-block.at) word (ap (block_at names) (sym c.next.ensures) ∙ c.in_ok-block.ensures))

pub nodes_at-returns-then-is_mark : goal.nodes_at-returns-then-is_mark
nodes_at-returns-then-is_mark t c =
    let names = naming c.args.names.now in
    let inner = list_at names c.args.depth in
    let l = c.nodes in
    let b : is_mark 125 (here (point l.at)) ≡ true = ap (is_mark 125) (sym c.here.ensures) ∙ sym c.if-is_mark.ensures in
    rw (← c.len-fuel.ensures, c.next.ensures) (is_done (nodes_of l.list) (next (point l.at)) (nodes_at inner names (c.len-fuel.result - l._turn) (point l.at)) (nodes_at inner names c.len-fuel.result (point c.args.p.now))
    l.invariant (nodes-done inner names l._turn c.len-fuel.result (point l.at) c.nodes-test.true b))

pub nodes_at-returns-in_err-node : goal.nodes_at-returns-in_err-node
nodes_at-returns-in_err-node t c =
    let q = err_from_is_err_and c.from_residual.result c.from_residual.ensures.1 in
    let names = naming c.args.names.now in
    let inner = list_at names c.args.depth in
    let l = c.nodes in
    let b : is_mark 125 (here (point l.at)) ≡ false = ap (is_mark 125) (sym c.here.ensures) ∙ sym c.if-is_mark.ensures in
    rw (q.1, q.2, ← c.len-fuel.ensures) (ends c.in_err-node.field-0.0 (nodes_of l.list) (node_at inner names (point l.at)) (nodes_at inner names (c.len-fuel.result - l._turn) (point l.at)) (nodes_at inner names c.len-fuel.result (point c.args.p.now))
    l.invariant (λ f e. nodes-no_node inner names l._turn c.len-fuel.result (point l.at) f c.nodes-test.true b e) c.in_err-node.ensures)

pub nodes_at-nodes-preserved : goal.nodes_at-nodes-preserved
nodes_at-nodes-preserved t c =
    let names = naming c.args.names.now in
    let inner = list_at names c.args.depth in
    let l = c.nodes in
    let x = c.in_ok-node in
    let b : is_mark 125 (here (point l.at)) ≡ false = ap (is_mark 125) (sym c.here.ensures) ∙ sym c.if-is_mark.ensures in
    rw (c.in_ok-push.ensures.ok, nodes_of-append l.list (x.node ∷ [])) (goes_on (nodes_of l.list) (nodes_of (x.node ∷ [])) (nodes_at inner names (c.len-fuel.result - l._turn) (point l.at)) (nodes_at inner names (c.len-fuel.result - (l._turn + 1)) (point x.after)) (nodes_at inner names c.len-fuel.result (point c.args.p.now))
    l.invariant (nodes-step inner names l._turn c.len-fuel.result (point l.at) (nodes_of (x.node ∷ []), point x.after) c.nodes-test.true b x.ensures))

pub nodes_at-returns : goal.nodes_at-returns
nodes_at-returns t c =
    let names = naming c.args.names.now in
    let inner = list_at names c.args.depth in
    let l = c.nodes in
    rw (← c.len-fuel.ensures)
    (stops (nodes_of l.list) (nodes_at inner names (c.len-fuel.result - l._turn) (point l.at)) (nodes_at inner names c.len-fuel.result (point c.args.p.now)) _
    l.invariant (nodes-end inner names l._turn c.len-fuel.result (point l.at) c.nodes-test.false)
    ∙ ap (λ (s : Sign). Err (Expected s.place)) (sym c.here-2.ensures))
