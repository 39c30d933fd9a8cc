-- A fact of each block and condition of a list from another fact, or from two.
use Rattle.std.specs.Prelude.{List, [], ◌++◌}
use Rattle.nir_ir.specs.declared.ids.ValueId.{ValueId}
use Rattle.nir_ir.specs.declared.node.Block.{Block}
use Rattle.nir_ir.specs.Nodes.{Nodes, Nil, BlockThen, IfThen, LoopThen}
use Rattle.nir_validate.specs.Edges.{Edge, backs, either, out_of_loop}
use Rattle.nir_validate.specs.Walk.{block_flow, walk}
use Rattle.nir_validate.specs.Each.{Each}

-- nothing is asked of conditions
abbrev pub NoFact : ValueId → List Edge → Type 0
NoFact condition edges = Unit {0}

-- a fact of each from another, or from two
pub each_both : (G G' G'' : Block → List Edge → List Edge → Type 0) (H H' H'' : ValueId → List Edge → Type 0)
    → ((b : Block) (edges all : List Edge) → G b edges all → G' b edges all → G'' b edges all)
    → ((condition : ValueId) (edges : List Edge) → H condition edges → H' condition edges → H'' condition edges)
    → (nodes : Nodes) (edges back : List Edge) → Each G H nodes edges back → Each G' H' nodes edges back → Each G'' H'' nodes edges back
each_both G G' G'' H H' H'' blocks conditions Nil edges back one two = one
each_both G G' G'' H H' H'' blocks conditions (BlockThen b rest) edges back one two =
    (blocks b edges (edges ++ back) one.0 two.0, each_both G G' G'' H H' H'' blocks conditions rest (block_flow b edges).falls [] one.1 two.1)
each_both G G' G'' H H' H'' blocks conditions (IfThen id condition first second rest) edges back one two = (
  one.0,
  conditions condition edges one.1 two.1,
  each_both G G' G'' H H' H'' blocks conditions first edges [] one.2 two.2,
  each_both G G' G'' H H' H'' blocks conditions second edges [] one.3 two.3,
  each_both G G' G'' H H' H'' blocks conditions rest (either (walk first edges) (walk second edges)).falls [] one.4 two.4,
)
each_both G G' G'' H H' H'' blocks conditions (LoopThen id body rest) edges back one two = (
  one.0,
  each_both G G' G'' H H' H'' blocks conditions body edges (backs (walk body edges)) one.1 two.1,
  each_both G G' G'' H H' H'' blocks conditions rest (out_of_loop (walk body edges)).falls [] one.2 two.2,
)

pub each_map : (G G' : Block → List Edge → List Edge → Type 0) (H H' : ValueId → List Edge → Type 0)
    → ((b : Block) (edges all : List Edge) → G b edges all → G' b edges all)
    → ((condition : ValueId) (edges : List Edge) → H condition edges → H' condition edges)
    → (nodes : Nodes) (edges back : List Edge) → Each G H nodes edges back → Each G' H' nodes edges back
each_map G G' H H' blocks conditions nodes edges back one =
    each_both G G G' H H H' (λ b p q here _. blocks b p q here) (λ c p here _. conditions c p here) nodes edges back one one
