-- The nine rules of valid shaders, each as the test that an item breaks it. They are this project's own, after the checks of Mesa's nir_validate.
use Rattle.std.specs.Prelude.{ℕ, suc, ◌+◌, Bool, true, false, not, ◌||◌, ◌&&◌, nat_eq, nat_lt, List, [], ◌∷◌, ◌++◌, length, map, count_by, Option, Some, None, slice_get}
use Rattle.std.specs.List.{list_all, list_any, flat_map}
use Rattle.std.specs.Option.{option_map_or, option_to_list}
use Rattle.std.specs.Cmp.Lexicographic.{pointwise}
use Rattle.nir_ops.specs.declared.op.Op.{Op}
use Rattle.nir_ops.specs.declared.width.Width.{Width}
use Rattle.nir_ops.specs.declared.width.Width.TheVariants.{W1, W32}
use Rattle.nir_ops.specs.Opcodes.{op_info}
use Rattle.op_eval.specs.Calls.{same_width, sizes_fit}
use Rattle.op_eval.specs.Views.{count_at}
use Rattle.nir_ir.specs.declared.ids.ValueId.{ValueId}
use Rattle.nir_ir.specs.declared.instr.Instr.{Instr}
use Rattle.nir_ir.specs.declared.instr.Instr.TheVariants.{Alu, Const, Undef, Input, Output, LoadBuf, StoreBuf}
use Rattle.nir_ir.specs.declared.instr.Src.{Src}
use Rattle.nir_ir.specs.declared.kind.Kind.{Kind}
use Rattle.nir_ir.specs.declared.node.Phi.{Phi}
use Rattle.nir_ir.specs.declared.node.PhiSource.{PhiSource}
pub use Rattle.nir_ir.specs.Definitions.{Kinds, width_in}
use Rattle.nir_ir.specs.Definitions.{alu_of, is_from}
use Rattle.nir_ir.specs.Items.{Item, BlockHead, PhiItem, InstrItem, JumpItem, IfHead, LoopHead, block_items, items, reads}
use Rattle.nir_ir.specs.Nodes.{Nodes, Nil, BlockThen, IfThen, LoopThen}
use Rattle.nir_ir.specs.Shader.{Shader}
use Rattle.nir_validate.specs.Edges.{Set, Edge}
use Rattle.nir_validate.specs.Walk.{Visit, is_empty}

abbrev pub same_kind : Kind → Kind → Bool
same_kind a b = same_width a.width b.width && nat_eq a.count b.count

abbrev pub count_in : Kinds → ValueId → ℕ
count_in kinds id = option_map_or (λ kind. kind.count) (kinds id) 0

-- a value has a kind that passes a test, and has this one
abbrev pub has_kind_that : Kinds → ValueId → (Kind → Bool) → Bool
has_kind_that kinds value test = option_map_or test (kinds value) false

abbrev pub has_kind : Kinds → ValueId → Kind → Bool
has_kind kinds value kind = has_kind_that kinds value (same_kind kind)

-- one word of 32 bits, which an offset is, and one bit, which a condition is
abbrev pub offset_kind : Kind
offset_kind = record { width = W32; count = 1 }

abbrev pub condition_kind : Kind
condition_kind = record { width = W1; count = 1 }

-- loads and stores are of whole bytes
abbrev pub is_storable : Kind → Bool
is_storable kind = not (same_width kind.width W1)

-- numbers of components of a result and of sources fit the opcode
unfoldable pub counts_fit : Op → ℕ → List ℕ → Bool
counts_fit op count counts =
    nat_eq (count_at (op_info op).out_count count) count
    && pointwise nat_eq (map (λ input. count_at input.count count) (op_info op).inputs) counts

-- V1: widths and counts fit
abbrev pub instr_kinds_fit : Kinds → Instr → Bool
instr_kinds_fit kinds (Alu value op kind srcs) =
    sizes_fit op kind.width (map (λ src. width_in kinds src.value) srcs) && counts_fit op kind.count (map (λ src. length src.swizzle) srcs)
instr_kinds_fit kinds (Const value kind comps) = true
instr_kinds_fit kinds (Undef value kind) = true
instr_kinds_fit kinds (Input value kind slot) = true
instr_kinds_fit kinds (Output effect slot src) = true
instr_kinds_fit kinds (LoadBuf value kind buffer offset) = has_kind kinds offset offset_kind && is_storable kind
instr_kinds_fit kinds (StoreBuf effect buffer offset src) = has_kind kinds offset offset_kind && has_kind_that kinds src is_storable

abbrev pub kinds_fit : Kinds → Item → Bool
kinds_fit kinds (BlockHead id) = true
kinds_fit kinds (PhiItem phi) = list_all (λ source. has_kind kinds source.value phi.kind) phi.sources
kinds_fit kinds (InstrItem instr) = instr_kinds_fit kinds instr
kinds_fit kinds (JumpItem jump) = true
kinds_fit kinds (IfHead id cond) = true
kinds_fit kinds (LoopHead id) = true

-- V2: slots and buffers are declared, with the same kind
abbrev pub declares : List Kind → ℕ → Kind → Bool
declares slots slot kind = option_map_or (same_kind kind) (slice_get slots slot) false

abbrev pub instr_is_declared : Kinds → Shader → Instr → Bool
instr_is_declared kinds s (Alu value op kind srcs) = true
instr_is_declared kinds s (Const value kind comps) = true
instr_is_declared kinds s (Undef value kind) = true
instr_is_declared kinds s (Input value kind slot) = declares s.inputs slot kind
instr_is_declared kinds s (Output effect slot src) = has_kind_that kinds src (declares s.outputs slot)
instr_is_declared kinds s (LoadBuf value kind buffer offset) = nat_lt buffer s.buffers
instr_is_declared kinds s (StoreBuf effect buffer offset src) = nat_lt buffer s.buffers

abbrev pub is_declared : Kinds → Shader → Item → Bool
is_declared kinds s (BlockHead id) = true
is_declared kinds s (PhiItem phi) = true
is_declared kinds s (InstrItem instr) = instr_is_declared kinds s instr
is_declared kinds s (JumpItem jump) = true
is_declared kinds s (IfHead id cond) = true
is_declared kinds s (LoopHead id) = true

-- V3: a list alternates. It begins with a block, behind each block comes an if or a loop, behind each of these a block. Told is the item of the
-- first node of the wrong sort, else that of the last node where it is no block, else that of the owner of an empty list. `last` is the item of the
-- node before, or of the owner, and `at` is that of the next.
abbrev pub misplaced : Bool → ℕ → ℕ → Nodes → Option ℕ
misplaced true last at Nil = Some last
misplaced false last at Nil = None
misplaced true last at (BlockThen b rest) = misplaced false at (at + length (block_items b)) rest
misplaced false last at (BlockThen b rest) = Some at
misplaced true last at (IfThen id cond first second rest) = Some at
misplaced false last at (IfThen id cond first second rest) = misplaced true at (suc (at + length (items first) + length (items second))) rest
misplaced true last at (LoopThen id body rest) = Some at
misplaced false last at (LoopThen id body rest) = misplaced true at (suc (at + length (items body))) rest

-- the items that break it in the lists inside of nodes, of which the first is item `at`
abbrev pub misplaced_inside : ℕ → Nodes → List ℕ
misplaced_inside at Nil = []
misplaced_inside at (BlockThen b rest) = misplaced_inside (at + length (block_items b)) rest
misplaced_inside at (IfThen id cond first second rest) =
    option_to_list (misplaced true at (suc at) first) ++ misplaced_inside (suc at) first
    ++ option_to_list (misplaced true at (suc (at + length (items first))) second) ++ misplaced_inside (suc (at + length (items first))) second
    ++ misplaced_inside (suc (at + length (items first) + length (items second))) rest
misplaced_inside at (LoopThen id body rest) =
    option_to_list (misplaced true at (suc at) body) ++ misplaced_inside (suc at) body ++ misplaced_inside (suc (at + length (items body))) rest

-- an empty body has no owner, and is told at 0
abbrev pub all_misplaced : Nodes → List ℕ
all_misplaced body = option_to_list (misplaced true 0 0 body) ++ misplaced_inside 0 body

-- V4: a jump stands in a loop. An item is told with whether a loop is around it.
pub record Spot : Type 0 where
  pub item : Item
  pub in_loop : Bool

abbrev pub spots : Bool → Nodes → List Spot
spots in_loop Nil = []
spots in_loop (BlockThen b rest) = map (λ item. record { item = item; in_loop = in_loop }) (block_items b) ++ spots in_loop rest
spots in_loop (IfThen id cond first second rest) =
    record { item = IfHead id cond; in_loop = in_loop } ∷ spots in_loop first ++ spots in_loop second ++ spots in_loop rest
spots in_loop (LoopThen id body rest) = record { item = LoopHead id; in_loop = in_loop } ∷ spots true body ++ spots in_loop rest

abbrev pub may_stand : Spot → Bool
may_stand spot = may_stand_in spot.item spot.in_loop
  where
    may_stand_in : Item → Bool → Bool
    may_stand_in (BlockHead id) in_loop = true
    may_stand_in (PhiItem phi) in_loop = true
    may_stand_in (InstrItem instr) in_loop = true
    may_stand_in (JumpItem jump) in_loop = in_loop
    may_stand_in (IfHead id cond) in_loop = true
    may_stand_in (LoopHead id) in_loop = true

-- V8: a swizzle names components that the value has
abbrev pub names_components : Kinds → Src → Bool
names_components kinds src = list_all (λ entry. nat_lt entry (count_in kinds src.value)) src.swizzle

abbrev pub instr_names_components : Kinds → Instr → Bool
instr_names_components kinds instr = option_map_or (λ alu. list_all (names_components kinds) alu.1) (alu_of instr) true

abbrev pub swizzles_fit : Kinds → Item → Bool
swizzles_fit kinds (BlockHead id) = true
swizzles_fit kinds (PhiItem phi) = true
swizzles_fit kinds (InstrItem instr) = instr_names_components kinds instr
swizzles_fit kinds (JumpItem jump) = true
swizzles_fit kinds (IfHead id cond) = true
swizzles_fit kinds (LoopHead id) = true

-- V9: a condition is one bit
abbrev pub condition_fits : Kinds → Item → Bool
condition_fits kinds (BlockHead id) = true
condition_fits kinds (PhiItem phi) = true
condition_fits kinds (InstrItem instr) = true
condition_fits kinds (JumpItem jump) = true
condition_fits kinds (IfHead id cond) = has_kind kinds cond condition_kind
condition_fits kinds (LoopHead id) = true

-- V5: what is not reached is an empty block at the end of its list
abbrev pub is_reached : Visit → Bool
is_reached visit = not (is_empty visit.edges)

abbrev pub reached_or_idle : Item → Visit → Bool
reached_or_idle (BlockHead id) visit = is_reached visit || visit.idle
reached_or_idle (PhiItem phi) visit = true
reached_or_idle (InstrItem instr) visit = true
reached_or_idle (JumpItem jump) visit = true
reached_or_idle (IfHead id cond) visit = is_reached visit
reached_or_idle (LoopHead id) visit = is_reached visit

abbrev pub may_be_left : Visit → Bool
may_be_left visit = reached_or_idle visit.item visit

-- V6: the sources of a phi name the block of each edge once, and no other, and there is an edge from a block
abbrev pub predecessors : List Edge → List ℕ
predecessors edges = flat_map (λ edge. map (λ id. id.0) (option_to_list edge.from)) edges

abbrev pub named : Phi → List ℕ
named phi = map (λ source. source.from.0) phi.sources

abbrev pub names_each_once : List ℕ → List ℕ → Bool
names_each_once blocks names =
    not (is_empty blocks)
    && list_all (λ block. nat_eq (count_by (nat_eq block) names) 1) blocks
    && list_all (λ name. list_any (nat_eq name) blocks) names

abbrev pub sources_match : Visit → Bool
sources_match visit = match_in visit.item visit.edges
  where
    match_in : Item → List Edge → Bool
    match_in (BlockHead id) edges = true
    match_in (PhiItem phi) edges = names_each_once (predecessors edges) (named phi)
    match_in (InstrItem instr) edges = true
    match_in (JumpItem jump) edges = true
    match_in (IfHead id cond) edges = true
    match_in (LoopHead id) edges = true

-- V7: each used value is defined on every path to its user, and each source of a phi on every path along its edge
abbrev pub is_defined_along : List Edge → PhiSource → Bool
is_defined_along edges source = list_all (λ edge. not (is_from edge.from source) || edge.set source.value.0) edges

abbrev pub uses_are_defined : Item → List Edge → Set → Bool
uses_are_defined (BlockHead id) edges set = true
uses_are_defined (PhiItem phi) edges set = list_all (is_defined_along edges) phi.sources
uses_are_defined (InstrItem instr) edges set = list_all (λ id. set id.0) (reads instr)
uses_are_defined (JumpItem jump) edges set = true
uses_are_defined (IfHead id cond) edges set = set cond.0
uses_are_defined (LoopHead id) edges set = true

abbrev pub are_uses_defined : Visit → Bool
are_uses_defined visit = uses_are_defined visit.item visit.edges visit.set
