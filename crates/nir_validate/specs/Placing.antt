-- The order of nodes as one pass over the tree: of each list what should come next, and what has been found in all lists so far.
use Rattle.std.specs.Prelude.{ℕ, ◌+◌, ◌-◌, ◌^◌, Bool, true, false, not, min, List, length, map, Option, Some, None}
use Rattle.std.specs.Option.{option_or, option_to_list}
use Rattle.nir_ir.specs.declared.node.Block.{Block}
use Rattle.nir_ir.specs.Items.{block_items, items}
use Rattle.nir_ir.specs.Nodes.{Nodes, Nil, BlockThen, IfThen, LoopThen}
use Rattle.nir_validate.specs.declared.first.Pass.{Pass}
use Rattle.nir_validate.specs.declared.order.Row.{Row}
use Rattle.nir_validate.specs.Least.{sooner}
use Rattle.nir_validate.specs.Passing.{next_item}
use Rattle.nir_validate.specs.Valid.{Fault, least}

-- the faults at misplaced items
abbrev pub order_faults : List ℕ → List Fault
order_faults items = map (λ item. record { rule = 3; item = item }) items

-- so many items further, which stands still at the end of the number's type
abbrev pub counted_by : ℕ → ℕ → ℕ
counted_by n at = min (at + n) (2 ^ 64 - 1)

abbrev pub past_block : Block → Pass → Pass
past_block b pass = record { at = counted_by (length (block_items b)) pass.at; found = pass.found }

-- a list before its first node, which has to be a block
abbrev pub fresh : ℕ → Row
fresh owner = record { wants_block = true; last = owner; misplaced = None }

-- a node that comes out of turn
abbrev pub out_of_turn : Bool → Bool → ℕ → Option ℕ
out_of_turn true true at = None
out_of_turn true false at = Some at
out_of_turn false true at = Some at
out_of_turn false false at = None

-- behind a node
abbrev pub turned_to : Row → Bool → ℕ → Row
turned_to row is_block at = record { wants_block = not is_block; last = at; misplaced = option_or row.misplaced (out_of_turn row.wants_block is_block at) }

-- what a list that ends here has out of order
abbrev pub left_wanting : Bool → ℕ → Option ℕ
left_wanting true last = Some last
left_wanting false last = None

abbrev pub fault_of_row : Row → Option ℕ
fault_of_row row = option_or row.misplaced (left_wanting row.wants_block row.last)

abbrev pub closed : Row → Pass → Pass
closed row pass = record { at = pass.at; found = sooner pass.found (least (order_faults (option_to_list (fault_of_row row)))) }

-- a list of nodes from here on
abbrev pub placed : Row → Pass → Nodes → Pass
placed row pass Nil = closed row pass
placed row pass (BlockThen b rest) = placed (turned_to row true pass.at) (past_block b pass) rest
placed row pass (IfThen id condition first second rest) =
    placed (turned_to row false pass.at) (placed (fresh pass.at) (placed (fresh pass.at) (next_item pass pass.found) first) second) rest
placed row pass (LoopThen id body rest) = placed (turned_to row false pass.at) (placed (fresh pass.at) (next_item pass pass.found) body) rest

-- a list from its beginning, and the first node of a list
abbrev pub placed_in : ℕ → Pass → Nodes → Pass
placed_in owner pass nodes = placed (fresh owner) pass nodes

abbrev pub placed_first : Pass → Nodes → Pass
placed_first pass Nil = pass
placed_first pass (BlockThen b rest) = past_block b pass
placed_first pass (IfThen id condition first second rest) = placed_in pass.at (placed_in pass.at (next_item pass pass.found) first) second
placed_first pass (LoopThen id body rest) = placed_in pass.at (next_item pass pass.found) body

abbrev pub begins_with_block : Nodes → Bool
begins_with_block Nil = false
begins_with_block (BlockThen b rest) = true
begins_with_block (IfThen id condition first second rest) = false
begins_with_block (LoopThen id body rest) = false
