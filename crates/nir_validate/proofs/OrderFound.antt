-- The pass over the order of nodes finds the least misplaced item, and counts the items.
use Rattle.std.specs.Prelude.{◌≡◌, refl, ℕ, suc, ◌+◌, ◌-◌, ◌^◌, ◌<◌, ◌≤◌, Bool, true, false, List, [], ◌∷◌, ◌++◌, length, Option, None}
use Rattle.std.specs.Option.{option_or, option_to_list}
use Rattle.std.proofs.Common.{sym, ◌∙◌, ap, length-append, arith}
use Rattle.nir_ir.specs.declared.ids.IfId.{IfId}
use Rattle.nir_ir.specs.declared.ids.LoopId.{LoopId}
use Rattle.nir_ir.specs.declared.ids.ValueId.{ValueId}
use Rattle.nir_ir.specs.declared.node.Block.{Block}
use Rattle.nir_ir.specs.Items.{block_items, items}
use Rattle.nir_ir.specs.Nodes.{Nodes, Nil, BlockThen, IfThen, LoopThen}
use Rattle.nir_validate.specs.declared.first.Pass.{Pass}
use Rattle.nir_validate.specs.declared.order.Row.{Row}
use Rattle.nir_validate.specs.Least.{sooner, sooner-assoc, sooner-comm, sooner-none, least-append}
use Rattle.nir_validate.specs.Passing.{next_item}
use Rattle.nir_validate.specs.Placing.{counted_by, fault_of_row, fresh, left_wanting, order_faults, out_of_turn, past_block, placed, placed_in, turned_to}
use Rattle.nir_validate.specs.Rules.{misplaced, misplaced_inside, all_misplaced}
use Rattle.nir_validate.specs.Valid.{Fault, least}
use Rattle.list_laws.specs.OptionLaws.{option_or-assoc}

-- the number behind the items, which stands still at the end of its type
pub placed-at : (row : Row) (pass : Pass) (nodes : Nodes) → pass.at ≤ 2 ^ 64 - 1 → (placed row pass nodes).at ≡ counted_by (length (items nodes)) pass.at
placed-at row pass Nil few = omega arith
placed-at row pass (BlockThen b rest) few =
    let part = length-append (block_items b) (items rest) in
    let fewer : (past_block b pass).at ≤ 2 ^ 64 - 1 = omega arith in
    let behind = placed-at (turned_to row true pass.at) (past_block b pass) rest fewer in
    omega (arith, part, behind)
placed-at row pass (IfThen id condition first second rest) few =
    let start : Pass = next_item pass pass.found in
    let one : Pass = placed (fresh pass.at) start first in
    let two : Pass = placed (fresh pass.at) one second in
    let part = length-append (items first ++ items second) (items rest) in
    let part_of = length-append (items first) (items second) in
    let few_start : start.at ≤ 2 ^ 64 - 1 = omega arith in
    let is_one : one.at ≡ counted_by (length (items first)) start.at = placed-at (fresh pass.at) start first few_start in
    let few_one : one.at ≤ 2 ^ 64 - 1 = omega arith in
    let is_two : two.at ≡ counted_by (length (items second)) one.at = placed-at (fresh pass.at) one second few_one in
    let few_two : two.at ≤ 2 ^ 64 - 1 = omega arith in
    let behind = placed-at (turned_to row false pass.at) two rest few_two in
    omega (arith, part, part_of, behind)
placed-at row pass (LoopThen id body rest) few =
    let start : Pass = next_item pass pass.found in
    let one : Pass = placed (fresh pass.at) start body in
    let part = length-append (items body) (items rest) in
    let few_start : start.at ≤ 2 ^ 64 - 1 = omega arith in
    let is_one : one.at ≡ counted_by (length (items body)) start.at = placed-at (fresh pass.at) start body few_start in
    let few_one : one.at ≤ 2 ^ 64 - 1 = omega arith in
    let behind = placed-at (turned_to row false pass.at) one rest few_one in
    omega (arith, part, behind)

-- the least of misplaced items
abbrev least_of : List ℕ → Option Fault
least_of items = least (order_faults items)

order_faults-append : (a b : List ℕ) → order_faults (a ++ b) ≡ order_faults a ++ order_faults b
order_faults-append [] b = refl
order_faults-append (item ∷ a) b = ap (λ t. record { rule = 3; item = item } ∷ t) (order_faults-append a b)

least_of-append : (a b : List ℕ) → least_of (a ++ b) ≡ sooner (least_of a) (least_of b)
least_of-append a b = ap least (order_faults-append a b) ∙ least-append (order_faults a) (order_faults b)

-- what the list itself has out of order, from a row on
abbrev own : Row → ℕ → Nodes → Option ℕ
own row at nodes = option_or row.misplaced (misplaced row.wants_block row.last at nodes)

own-nil : (row : Row) (at : ℕ) (wants : Bool) → row.wants_block ≡ wants → fault_of_row row ≡ own row at Nil
own-nil row at true is = ap (λ w. option_or row.misplaced (left_wanting w row.last)) is ∙ sym (ap (λ w. option_or row.misplaced (misplaced w row.last at Nil)) is)
own-nil row at false is = ap (λ w. option_or row.misplaced (left_wanting w row.last)) is ∙ sym (ap (λ w. option_or row.misplaced (misplaced w row.last at Nil)) is)

turn_block : (wants : Bool) (last at : ℕ) (b : Block) (rest : Nodes) → option_or (out_of_turn wants true at) (misplaced false at (at + length (block_items b)) rest) ≡ misplaced wants last at (BlockThen b rest)
turn_block true last at b rest = refl
turn_block false last at b rest = refl

turn_if : (wants : Bool) (last at : ℕ) (id : IfId) (condition : ValueId) (first second rest : Nodes)
    → option_or (out_of_turn wants false at) (misplaced true at (suc (at + length (items first) + length (items second))) rest) ≡ misplaced wants last at (IfThen id condition first second rest)
turn_if true last at id condition first second rest = refl
turn_if false last at id condition first second rest = refl

turn_loop : (wants : Bool) (last at : ℕ) (id : LoopId) (body rest : Nodes)
    → option_or (out_of_turn wants false at) (misplaced true at (suc (at + length (items body))) rest) ≡ misplaced wants last at (LoopThen id body rest)
turn_loop true last at id body rest = refl
turn_loop false last at id body rest = refl

-- what is found in a list, in the lists inside of it and in itself
abbrev found_in : Row → Pass → Nodes → Option Fault
found_in row pass nodes = sooner (sooner pass.found (least_of (misplaced_inside pass.at nodes))) (least_of (option_to_list (own row pass.at nodes)))

-- a list's own fault goes before those inside of it
swapped : (f i o : Option Fault) → sooner (sooner f i) o ≡ sooner f (sooner o i)
swapped f i o = sym (sooner-assoc f i o) ∙ ap (sooner f) (sooner-comm i o)

pub placed-found : (row : Row) (pass : Pass) (nodes : Nodes) → pass.at + length (items nodes) < 2 ^ 64 → (placed row pass nodes).found ≡ found_in row pass nodes
placed-found row pass Nil few =
    ap (λ o. sooner pass.found (least_of (option_to_list o))) (own-nil row pass.at row.wants_block refl)
    ∙ ap (λ f. sooner f (least_of (option_to_list (own row pass.at Nil)))) (sym (sooner-none pass.found))
placed-found row pass (BlockThen b rest) few =
    let part = length-append (block_items b) (items rest) in
    let at : (past_block b pass).at ≡ pass.at + length (block_items b) = omega (arith, part) in
    let fewer : (past_block b pass).at + length (items rest) < 2 ^ 64 = omega (arith, part) in
    let own_is : own (turned_to row true pass.at) (pass.at + length (block_items b)) rest ≡ own row pass.at (BlockThen b rest) =
    option_or-assoc row.misplaced (out_of_turn row.wants_block true pass.at) (misplaced false pass.at (pass.at + length (block_items b)) rest)
    ∙ ap (option_or row.misplaced) (turn_block row.wants_block row.last pass.at b rest) in
    placed-found (turned_to row true pass.at) (past_block b pass) rest fewer
    ∙ ap (λ n. sooner (sooner pass.found (least_of (misplaced_inside n rest))) (least_of (option_to_list (own (turned_to row true pass.at) n rest)))) at
    ∙ ap (λ o. sooner (sooner pass.found (least_of (misplaced_inside pass.at (BlockThen b rest)))) (least_of (option_to_list o))) own_is
placed-found row pass (IfThen id condition first second rest) few =
    let start : Pass = next_item pass pass.found in
    let one : Pass = placed (fresh pass.at) start first in
    let two : Pass = placed (fresh pass.at) one second in
    let part = length-append (items first ++ items second) (items rest) in
    let part_of = length-append (items first) (items second) in
    let second_at : ℕ = suc (pass.at + length (items first)) in
    let rest_at : ℕ = suc (pass.at + length (items first) + length (items second)) in
    let at_start : start.at ≡ suc pass.at = omega (arith, part, part_of) in
    let few_start : start.at ≤ 2 ^ 64 - 1 = omega arith in
    let counted_one : one.at ≡ counted_by (length (items first)) start.at = placed-at (fresh pass.at) start first few_start in
    let at_one : one.at ≡ second_at = omega (arith, part, part_of) in
    let few_one : one.at ≤ 2 ^ 64 - 1 = omega arith in
    let counted_two : two.at ≡ counted_by (length (items second)) one.at = placed-at (fresh pass.at) one second few_one in
    let at_two : two.at ≡ rest_at = omega (arith, part, part_of) in
    let few_first : start.at + length (items first) < 2 ^ 64 = omega (arith, part, part_of) in
    let few_second : one.at + length (items second) < 2 ^ 64 = omega (arith, part, part_of) in
    let few_rest : two.at + length (items rest) < 2 ^ 64 = omega (arith, part, part_of) in
    let own1 : List ℕ = option_to_list (misplaced true pass.at (suc pass.at) first) in
    let own2 : List ℕ = option_to_list (misplaced true pass.at second_at second) in
    let o1 : Option Fault = least_of own1 in
    let i1 : Option Fault = least_of (misplaced_inside (suc pass.at) first) in
    let o2 : Option Fault = least_of own2 in
    let i2 : Option Fault = least_of (misplaced_inside second_at second) in
    let i3 : Option Fault = least_of (misplaced_inside rest_at rest) in
    let found_one : one.found ≡ sooner pass.found (sooner o1 i1) =
    placed-found (fresh pass.at) start first few_first
    ∙ ap (λ n. sooner (sooner pass.found (least_of (misplaced_inside n first))) (least_of (option_to_list (misplaced true pass.at n first)))) at_start
    ∙ swapped pass.found i1 o1 in
    let found_two : two.found ≡ sooner pass.found (sooner (sooner (sooner o1 i1) o2) i2) =
    placed-found (fresh pass.at) one second few_second
    ∙ ap (λ n. sooner (sooner one.found (least_of (misplaced_inside n second))) (least_of (option_to_list (misplaced true pass.at n second)))) at_one
    ∙ swapped one.found i2 o2
    ∙ ap (λ f. sooner f (sooner o2 i2)) found_one
    ∙ sym (sooner-assoc pass.found (sooner o1 i1) (sooner o2 i2))
    ∙ ap (sooner pass.found) (sooner-assoc (sooner o1 i1) o2 i2) in
    let own_is : own (turned_to row false pass.at) rest_at rest ≡ own row pass.at (IfThen id condition first second rest) =
    option_or-assoc row.misplaced (out_of_turn row.wants_block false pass.at) (misplaced true pass.at rest_at rest)
    ∙ ap (option_or row.misplaced) (turn_if row.wants_block row.last pass.at id condition first second rest) in
    let inside : least_of (misplaced_inside pass.at (IfThen id condition first second rest)) ≡ sooner (sooner (sooner (sooner o1 i1) o2) i2) i3 =
    least_of-append (own1 ++ misplaced_inside (suc pass.at) first ++ own2 ++ misplaced_inside second_at second) (misplaced_inside rest_at rest)
    ∙ ap (λ t. sooner t i3) (least_of-append (own1 ++ misplaced_inside (suc pass.at) first ++ own2) (misplaced_inside second_at second)
    ∙ ap (λ t. sooner t i2) (least_of-append (own1 ++ misplaced_inside (suc pass.at) first) own2
    ∙ ap (λ t. sooner t o2) (least_of-append own1 (misplaced_inside (suc pass.at) first)))) in
    placed-found (turned_to row false pass.at) two rest few_rest
    ∙ ap (λ n. sooner (sooner two.found (least_of (misplaced_inside n rest))) (least_of (option_to_list (own (turned_to row false pass.at) n rest)))) at_two
    ∙ ap (λ f. sooner (sooner f i3) (least_of (option_to_list (own (turned_to row false pass.at) rest_at rest)))) found_two
    ∙ ap (λ o. sooner (sooner (sooner pass.found (sooner (sooner (sooner o1 i1) o2) i2)) i3) (least_of (option_to_list o))) own_is
    ∙ ap (λ f. sooner f (least_of (option_to_list (own row pass.at (IfThen id condition first second rest)))))
    (sym (sooner-assoc pass.found (sooner (sooner (sooner o1 i1) o2) i2) i3) ∙ ap (sooner pass.found) (sym inside))
placed-found row pass (LoopThen id body rest) few =
    let start : Pass = next_item pass pass.found in
    let one : Pass = placed (fresh pass.at) start body in
    let part = length-append (items body) (items rest) in
    let at_start : start.at ≡ suc pass.at = omega (arith, part) in
    let few_start : start.at ≤ 2 ^ 64 - 1 = omega arith in
    let counted_one : one.at ≡ counted_by (length (items body)) start.at = placed-at (fresh pass.at) start body few_start in
    let at_one : one.at ≡ suc (pass.at + length (items body)) = omega (arith, part) in
    let few_body : start.at + length (items body) < 2 ^ 64 = omega (arith, part) in
    let few_rest : one.at + length (items rest) < 2 ^ 64 = omega (arith, part) in
    let o1 : Option Fault = least_of (option_to_list (misplaced true pass.at (suc pass.at) body)) in
    let i1 : Option Fault = least_of (misplaced_inside (suc pass.at) body) in
    let i2 : Option Fault = least_of (misplaced_inside (suc (pass.at + length (items body))) rest) in
    let found_one : one.found ≡ sooner pass.found (sooner o1 i1) =
    placed-found (fresh pass.at) start body few_body
    ∙ ap (λ n. sooner (sooner pass.found (least_of (misplaced_inside n body))) (least_of (option_to_list (misplaced true pass.at n body)))) at_start
    ∙ swapped pass.found i1 o1 in
    let own_is : own (turned_to row false pass.at) (suc (pass.at + length (items body))) rest ≡ own row pass.at (LoopThen id body rest) =
    option_or-assoc row.misplaced (out_of_turn row.wants_block false pass.at) (misplaced true pass.at (suc (pass.at + length (items body))) rest)
    ∙ ap (option_or row.misplaced) (turn_loop row.wants_block row.last pass.at id body rest) in
    let inside : least_of (misplaced_inside pass.at (LoopThen id body rest)) ≡ sooner (sooner o1 i1) i2 =
    least_of-append (option_to_list (misplaced true pass.at (suc pass.at) body) ++ misplaced_inside (suc pass.at) body) (misplaced_inside (suc (pass.at + length (items body))) rest)
    ∙ ap (λ t. sooner t i2) (least_of-append (option_to_list (misplaced true pass.at (suc pass.at) body)) (misplaced_inside (suc pass.at) body)) in
    placed-found (turned_to row false pass.at) one rest few_rest
    ∙ ap (λ n. sooner (sooner one.found (least_of (misplaced_inside n rest))) (least_of (option_to_list (own (turned_to row false pass.at) n rest)))) at_one
    ∙ ap (λ f. sooner (sooner f i2) (least_of (option_to_list (own (turned_to row false pass.at) (suc (pass.at + length (items body))) rest)))) found_one
    ∙ ap (λ o. sooner (sooner (sooner pass.found (sooner o1 i1)) i2) (least_of (option_to_list o))) own_is
    ∙ ap (λ f. sooner f (least_of (option_to_list (own row pass.at (LoopThen id body rest))))) (sym (sooner-assoc pass.found (sooner o1 i1) i2) ∙ ap (sooner pass.found) (sym inside))

-- a whole body from its beginning
abbrev pub beginning : Pass
beginning = record { at = 0; found = None }

pub order-found : (body : Nodes) → length (items body) < 2 ^ 64 → (placed_in 0 beginning body).found ≡ least (order_faults (all_misplaced body))
order-found body few =
    let from_zero : 0 + length (items body) < 2 ^ 64 = omega arith in
    placed-found (fresh 0) beginning body from_zero
    ∙ sooner-comm (least_of (misplaced_inside 0 body)) (least_of (option_to_list (misplaced true 0 0 body)))
    ∙ sym (least_of-append (option_to_list (misplaced true 0 0 body)) (misplaced_inside 0 body))
