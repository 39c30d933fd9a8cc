-- The order of nodes in structured control flow: a block stands first and last in each list, blocks and others take turns, and jumps stand in loops.
use Rattle.std.specs.Prelude.{◌≡◌, ◌⊎◌, Bool, true, false, None}
use Rattle.nir_ir.specs.Nodes.{Nodes, Nil, BlockThen, IfThen, LoopThen}

-- the first of the list is a block, or else it is none
abbrev pub Turns : Bool → Nodes → Type 0
Turns true Nil = ⊥
Turns false Nil = Unit {0}
Turns true (BlockThen b rest) = Turns false rest
Turns false (BlockThen b rest) = ⊥
Turns true (IfThen id condition first second rest) = ⊥
Turns false (IfThen id condition first second rest) = Turns true first × Turns true second × Turns true rest
Turns true (LoopThen id body rest) = ⊥
Turns false (LoopThen id body rest) = Turns true body × Turns true rest

-- V3
abbrev pub Alternates : Nodes → Type 0
Alternates nodes = Turns true nodes

-- V4: whether a loop is around the list, and jumps stand in loops only
abbrev pub JumpsIn : Bool → Nodes → Type 0
JumpsIn in_loop Nil = Unit {0}
JumpsIn in_loop (BlockThen b rest) = ((in_loop ≡ true) ⊎ (b.jump ≡ None)) × JumpsIn in_loop rest
JumpsIn in_loop (IfThen id condition first second rest) = JumpsIn in_loop first × JumpsIn in_loop second × JumpsIn in_loop rest
JumpsIn in_loop (LoopThen id body rest) = JumpsIn true body × JumpsIn in_loop rest
