-- The pass over the items, node by node, and that it finds the least fault.
use Rattle.std.specs.Prelude.{◌≡◌, refl, ℕ, suc, ◌+◌, ◌^◌, ◌<◌, Bool, true, List, [], ◌∷◌, ◌++◌, length, map, Option, Some, None}
use Rattle.std.specs.Option.{option_to_list}
use Rattle.std.proofs.Common.{sym, ◌∙◌, ap, append_assoc, length-append, get_or, drop, arith}
use Rattle.std.proofs.lemmas.List.{append-nil}
use Rattle.std.specs.List.{list_all}
use Rattle.nir_ir.specs.declared.ids.BlockId.{BlockId}
use Rattle.nir_ir.specs.declared.ids.IfId.{IfId}
use Rattle.nir_ir.specs.declared.ids.LoopId.{LoopId}
use Rattle.nir_ir.specs.declared.ids.ValueId.{ValueId}
use Rattle.nir_ir.specs.declared.instr.Instr.{Instr}
use Rattle.nir_ir.specs.declared.node.Block.{Block}
use Rattle.nir_ir.specs.declared.node.Jump.{Jump}
use Rattle.nir_ir.specs.declared.node.Node.{Node}
use Rattle.nir_ir.specs.declared.node.Node.TheVariants as node
use Rattle.nir_ir.specs.declared.node.Phi.{Phi}
use Rattle.nir_ir.specs.Items.{Item, BlockHead, PhiItem, InstrItem, JumpItem, IfHead, LoopHead, block_items, items}
use Rattle.nir_ir.specs.Nodes.{Nodes, Nil, BlockThen, IfThen, LoopThen, nodes_of, then}
use Rattle.nir_ir.specs.Splits.{nodes_of-block, nodes_of-drop, nodes_of-if, nodes_of-loop}
use Rattle.nir_ir.specs.Shader.{Shader}
use Rattle.nir_validate.specs.declared.first.Pass.{Pass}
use Rattle.nir_validate.specs.Least.{sooner, sooner-assoc, sooner-none, least-append}
use Rattle.nir_validate.specs.Rules.{Kinds, Spot, has_kind, instr_is_declared, instr_kinds_fit, instr_names_components, spots}
use Rattle.nir_validate.specs.Valid.{Fault, at_each, least, spot_faults, unless}
use Rattle.nir_validate.specs.Passing.{counted, next_item, passed, passed_block, passed_head, passed_if, passed_in, passed_instr, passed_instrs, passed_jump, passed_one, passed_phi, passed_phis}
use Rattle.nir_validate.specs.TypedLaws.{spots_of, spots_of-append}

passed-append : (kinds : Kinds) (s : Shader) (pass : Pass) (a b : List Spot) → passed kinds s pass (a ++ b) ≡ passed kinds s (passed kinds s pass a) b
passed-append kinds s pass [] b = refl
passed-append kinds s pass (spot ∷ a) b = passed-append kinds s (passed_one kinds s pass spot) a b

-- only one rule looks at a phi, a jump or a condition, and three at an instruction
one_test : (found : Option Fault) (faults : List Fault) → sooner found (least (faults ++ [] ++ [] ++ [] ++ [])) ≡ sooner found (least faults)
one_test found faults = ap (λ t. sooner found (least t)) (append-nil (faults ++ [] ++ [] ++ []) ∙ append-nil (faults ++ [] ++ []) ∙ append-nil (faults ++ []) ∙ append-nil faults)

jump_test : (found : Option Fault) (faults : List Fault) → sooner found (least (faults ++ [] ++ [])) ≡ sooner found (least faults)
jump_test found faults = ap (λ t. sooner found (least t)) (append-nil (faults ++ []) ∙ append-nil faults)

three_tests : (found : Option Fault) (a b c : List Fault) → sooner found (least (a ++ b ++ [] ++ c ++ [])) ≡ sooner (sooner (sooner found (least a)) (least b)) (least c)
three_tests found a b c =
    ap (λ t. sooner found (least t)) (append-nil (a ++ b ++ [] ++ c) ∙ ap (λ t. t ++ c) (append-nil (a ++ b)))
    ∙ ap (sooner found) (least-append (a ++ b) c ∙ ap (λ t. sooner t (least c)) (least-append a b))
    ∙ sooner-assoc found (sooner (least a) (least b)) (least c)
    ∙ ap (λ t. sooner t (least c)) (sooner-assoc found (least a) (least b))

passed-phis : (kinds : Kinds) (s : Shader) (in_loop : Bool) (pass : Pass) (phis : List Phi) → passed kinds s pass (spots_of in_loop (map PhiItem phis)) ≡ passed_phis kinds pass phis
passed-phis kinds s in_loop pass [] = refl
passed-phis kinds s in_loop pass (phi ∷ phis) =
    ap (λ found. passed kinds s (next_item pass found) (spots_of in_loop (map PhiItem phis))) (one_test pass.found (unless (list_all (λ source. has_kind kinds source.value phi.kind) phi.sources) 1 pass.at))
    ∙ passed-phis kinds s in_loop (passed_phi kinds pass phi) phis

passed-instrs : (kinds : Kinds) (s : Shader) (in_loop : Bool) (pass : Pass) (instrs : List Instr) → passed kinds s pass (spots_of in_loop (map InstrItem instrs)) ≡ passed_instrs kinds s pass instrs
passed-instrs kinds s in_loop pass [] = refl
passed-instrs kinds s in_loop pass (instr ∷ instrs) =
    ap (λ found. passed kinds s (next_item pass found) (spots_of in_loop (map InstrItem instrs)))
    (three_tests pass.found (unless (instr_kinds_fit kinds instr) 1 pass.at) (unless (instr_is_declared kinds s instr) 2 pass.at) (unless (instr_names_components kinds instr) 8 pass.at))
    ∙ passed-instrs kinds s in_loop (passed_instr kinds s pass instr) instrs

passed-jump : (kinds : Kinds) (s : Shader) (in_loop : Bool) (pass : Pass) (jump : Option Jump) → passed kinds s pass (spots_of in_loop (map JumpItem (option_to_list jump))) ≡ passed_jump in_loop pass jump
passed-jump kinds s in_loop pass None = refl
passed-jump kinds s in_loop pass (Some jump) = ap (next_item pass) (jump_test pass.found (unless in_loop 4 pass.at))

passed-head : (kinds : Kinds) (s : Shader) (in_loop : Bool) (pass : Pass) (id : BlockId) → passed_one kinds s pass (record { item = BlockHead id; in_loop = in_loop }) ≡ passed_head pass
passed-head kinds s in_loop pass id = ap (next_item pass) (sooner-none pass.found)

passed-block : (kinds : Kinds) (s : Shader) (in_loop : Bool) (pass : Pass) (b : Block) → passed kinds s pass (spots_of in_loop (block_items b)) ≡ passed_block kinds s in_loop pass b
passed-block kinds s in_loop pass b =
    let start : Pass = passed_one kinds s pass (record { item = BlockHead b.id; in_loop = in_loop }) in
    let phis : List Item = map PhiItem b.phis in
    let instrs : List Item = map InstrItem b.instrs in
    let jumps : List Item = map JumpItem (option_to_list b.jump) in
    ap (passed kinds s start) (spots_of-append in_loop (phis ++ instrs) jumps ∙ ap (λ t. t ++ spots_of in_loop jumps) (spots_of-append in_loop phis instrs))
    ∙ passed-append kinds s start (spots_of in_loop phis ++ spots_of in_loop instrs) (spots_of in_loop jumps)
    ∙ ap (λ t. passed kinds s t (spots_of in_loop jumps)) (passed-append kinds s start (spots_of in_loop phis) (spots_of in_loop instrs))
    ∙ passed-jump kinds s in_loop (passed kinds s (passed kinds s start (spots_of in_loop phis)) (spots_of in_loop instrs)) b.jump
    ∙ ap (λ t. passed_jump in_loop t b.jump)
    (passed-instrs kinds s in_loop (passed kinds s start (spots_of in_loop phis)) b.instrs
    ∙ ap (λ t. passed_instrs kinds s t b.instrs)
    (passed-phis kinds s in_loop start b.phis ∙ ap (λ t. passed_phis kinds t b.phis) (passed-head kinds s in_loop pass b.id)))

-- a list of one node, and one list behind another
pub passed_in-block : (kinds : Kinds) (s : Shader) (in_loop : Bool) (pass : Pass) (b : Block) → passed_in kinds s in_loop pass (nodes_of (node.Block b ∷ [])) ≡ passed_block kinds s in_loop pass b
passed_in-block kinds s in_loop pass b =
    ap (passed_in kinds s in_loop pass) (nodes_of-block b)
    ∙ ap (passed kinds s pass) (append-nil (spots_of in_loop (block_items b)))
    ∙ passed-block kinds s in_loop pass b

pub passed_in-if : (kinds : Kinds) (s : Shader) (in_loop : Bool) (pass : Pass) (id : IfId) (condition : ValueId) (first second : List Node)
    → passed_in kinds s in_loop pass (nodes_of (node.If id condition first second ∷ [])) ≡ passed_in kinds s in_loop (passed_in kinds s in_loop (passed_if kinds pass condition) (nodes_of first)) (nodes_of second)
passed_in-if kinds s in_loop pass id condition first second =
    let start : Pass = passed_if kinds pass condition in
    ap (passed_in kinds s in_loop pass) (nodes_of-if id condition first second)
    ∙ ap (passed kinds s start) (append-nil (spots in_loop (nodes_of first) ++ spots in_loop (nodes_of second)))
    ∙ passed-append kinds s start (spots in_loop (nodes_of first)) (spots in_loop (nodes_of second))

pub passed_in-loop : (kinds : Kinds) (s : Shader) (in_loop : Bool) (pass : Pass) (id : LoopId) (body : List Node)
    → passed_in kinds s in_loop pass (nodes_of (node.Loop id body ∷ [])) ≡ passed_in kinds s true (passed_head pass) (nodes_of body)
passed_in-loop kinds s in_loop pass id body =
    ap (passed_in kinds s in_loop pass) (nodes_of-loop id body)
    ∙ ap (λ found. passed kinds s (next_item pass found) (spots true (nodes_of body) ++ [])) (sooner-none pass.found)
    ∙ ap (passed kinds s (passed_head pass)) (append-nil (spots true (nodes_of body)))

pub spots-then : (in_loop : Bool) (a b : Nodes) → spots in_loop (then a b) ≡ spots in_loop a ++ spots in_loop b
spots-then in_loop Nil b = refl
spots-then in_loop (BlockThen x rest) b =
    ap (λ t. spots_of in_loop (block_items x) ++ t) (spots-then in_loop rest b)
    ∙ sym (append_assoc (spots_of in_loop (block_items x)) (spots in_loop rest) (spots in_loop b))
spots-then in_loop (IfThen id condition first second rest) b =
    let head : Spot = record { item = IfHead id condition; in_loop = in_loop } in
    ap (λ t. head ∷ spots in_loop first ++ spots in_loop second ++ t) (spots-then in_loop rest b)
    ∙ sym (append_assoc (head ∷ spots in_loop first ++ spots in_loop second) (spots in_loop rest) (spots in_loop b))
spots-then in_loop (LoopThen id body rest) b =
    let head : Spot = record { item = LoopHead id; in_loop = in_loop } in
    ap (λ t. head ∷ spots true body ++ t) (spots-then in_loop rest b)
    ∙ sym (append_assoc (head ∷ spots true body) (spots in_loop rest) (spots in_loop b))

pub passed_in-drop : (kinds : Kinds) (s : Shader) (in_loop : Bool) (list : List Node) (i : ℕ) (n : Node) (pass : Pass) → i < length list → n ≡ get_or list i n
    → passed_in kinds s in_loop pass (nodes_of (drop i list)) ≡ passed_in kinds s in_loop (passed_in kinds s in_loop pass (nodes_of (n ∷ []))) (nodes_of (drop (i + 1) list))
passed_in-drop kinds s in_loop list i n pass within at =
    ap (passed_in kinds s in_loop pass) (nodes_of-drop list i n within at)
    ∙ ap (passed kinds s pass) (spots-then in_loop (nodes_of (n ∷ [])) (nodes_of (drop (i + 1) list)))
    ∙ passed-append kinds s pass (spots in_loop (nodes_of (n ∷ []))) (spots in_loop (nodes_of (drop (i + 1) list)))

pub ruleset passing_steps = (passed_in-block, passed_in-if, passed_in-loop, passed_in-drop)

-- as many spots as items
length-spots : (in_loop : Bool) (list : List Item) → length (spots_of in_loop list) ≡ length list
length-spots in_loop [] = refl
length-spots in_loop (item ∷ list) = ap suc (length-spots in_loop list)

pub spots-length : (in_loop : Bool) (nodes : Nodes) → length (spots in_loop nodes) ≡ length (items nodes)
spots-length in_loop Nil = refl
spots-length in_loop (BlockThen b rest) =
    length-append (spots_of in_loop (block_items b)) (spots in_loop rest)
    ∙ ap (λ n. length (spots_of in_loop (block_items b)) + n) (spots-length in_loop rest)
    ∙ ap (λ n. n + length (items rest)) (length-spots in_loop (block_items b))
    ∙ sym (length-append (block_items b) (items rest))
spots-length in_loop (IfThen id condition first second rest) =
    ap suc (length-append (spots in_loop first ++ spots in_loop second) (spots in_loop rest)
    ∙ ap (λ n. n + length (spots in_loop rest)) (length-append (spots in_loop first) (spots in_loop second) ∙ ap (λ n. n + length (spots in_loop second)) (spots-length in_loop first) ∙ ap (λ n. length (items first) + n) (spots-length in_loop second))
    ∙ ap (λ n. length (items first) + length (items second) + n) (spots-length in_loop rest)
    ∙ sym (length-append (items first ++ items second) (items rest) ∙ ap (λ n. n + length (items rest)) (length-append (items first) (items second))))
spots-length in_loop (LoopThen id body rest) =
    ap suc (length-append (spots true body) (spots in_loop rest)
    ∙ ap (λ n. n + length (spots in_loop rest)) (spots-length true body)
    ∙ ap (λ n. length (items body) + n) (spots-length in_loop rest)
    ∙ sym (length-append (items body) (items rest)))

-- what a pass finds is the least fault, where the numbers of the items are not too great
counted-next : (at n : ℕ) → at + suc n < 2 ^ 64 → counted at ≡ suc at
counted-next at n few = omega arith

pub passed-least : (kinds : Kinds) (s : Shader) (pass : Pass) (list : List Spot) → pass.at + length list < 2 ^ 64 → (passed kinds s pass list).found ≡ sooner pass.found (least (at_each (spot_faults kinds s) pass.at list))
passed-least kinds s pass [] few = sym (sooner-none pass.found)
passed-least kinds s pass (spot ∷ list) few =
    let here : Option Fault = least (spot_faults kinds s spot pass.at) in
    let next : counted pass.at ≡ suc pass.at = counted-next pass.at (length list) few in
    let fewer : counted pass.at + length list < 2 ^ 64 = omega arith in
    passed-least kinds s (passed_one kinds s pass spot) list fewer
    ∙ ap (λ n. sooner (sooner pass.found here) (least (at_each (spot_faults kinds s) n list))) next
    ∙ sym (sooner-assoc pass.found here (least (at_each (spot_faults kinds s) (suc pass.at) list)))
    ∙ ap (sooner pass.found) (sym (least-append (spot_faults kinds s spot pass.at) (at_each (spot_faults kinds s) (suc pass.at) list)))
