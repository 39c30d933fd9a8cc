-- The weight of a list of nodes, part by part, and that it is at most 60 for each number.
use Rattle.std.proofs.Common.{◌≡◌, ℕ, ◌+◌, ◌*◌, ◌<◌, ◌≤◌, List, [], ◌∷◌, ◌++◌, map, length, sum_by, get_or, drop, sym, ◌∙◌, ap, refl, arith, subst}
use Rattle.std.proofs.lemmas.Grind.{flat_map-append}
use Rattle.std.proofs.lemmas.List.{append-nil, length-append}
use Rattle.std.proofs.lemmas.List.Sums.{sum_by-append}
use Rattle.std.proofs.lemmas.Map.Steps.{length-le_from_distinct_below}
use Rattle.std.specs.List.{flat_map}
use Rattle.nir_ops.specs.declared.op.Op.{Op}
use Rattle.nir_ir.specs.declared.ids.IfId.{IfId}
use Rattle.nir_ir.specs.declared.ids.LoopId.{LoopId}
use Rattle.nir_ir.specs.declared.ids.ValueId.{ValueId}
use Rattle.nir_ir.specs.declared.instr.Instr.{Instr}
use Rattle.nir_ir.specs.declared.instr.Instr.TheVariants.{Alu, Const, Undef, Input, Output, LoadBuf, StoreBuf}
use Rattle.nir_ir.specs.declared.node.Block as block
use Rattle.nir_ir.specs.declared.node.Node.{Node}
use Rattle.nir_ir.specs.declared.node.Node.TheVariants as node
use Rattle.nir_ir.specs.Definitions.{instr_of}
use Rattle.nir_ir.specs.Items.{Item, BlockHead, IfHead, InstrItem, JumpItem, LoopHead, PhiItem, defines, items, values_defined}
use Rattle.nir_ir.specs.Nodes.{Nil, nodes_of}
use Rattle.nir_ir.specs.Shaped.{IsShaped}
use Rattle.nir_ir.specs.Shader.{Shader}
use Rattle.nir_ir.specs.Splits.{instrs-BlockThen, items-drop, items-if, items-loop, nodes_of-block}
use Rattle.edit_laws.specs.NumbersLaws.{member_has}
use Rattle.nir_search.specs.Weight.{instr_weight, total, weight_of}

-- the weight of what is given one after another
sum-two : (weight : Op → ℕ) (first second : List Item) → sum_by (instr_weight weight) (flat_map instr_of (first ++ second)) ≡ sum_by (instr_weight weight) (flat_map instr_of first) + sum_by (instr_weight weight) (flat_map instr_of second)
sum-two weight first second =
    ap (sum_by (instr_weight weight)) (flat_map-append instr_of first second)
    ∙ sum_by-append (instr_weight weight) (flat_map instr_of first) (flat_map instr_of second)

pub total-block : (weight : Op → ℕ) (b : block.Block) → total weight (nodes_of (node.Block b ∷ [])) ≡ sum_by (instr_weight weight) b.instrs
total-block weight b = ap (total weight) (nodes_of-block b) ∙ ap (sum_by (instr_weight weight)) (instrs-BlockThen b Nil ∙ append-nil b.instrs)

pub total-if : (weight : Op → ℕ) (id : IfId) (cond : ValueId) (yes_list no_list : List Node) → total weight (nodes_of (node.If id cond yes_list no_list ∷ [])) ≡ total weight (nodes_of yes_list) + total weight (nodes_of no_list)
total-if weight id cond yes_list no_list =
    ap (λ t. sum_by (instr_weight weight) (flat_map instr_of t)) (items-if id cond yes_list no_list)
    ∙ sum-two weight (items (nodes_of yes_list)) (items (nodes_of no_list))

pub total-loop : (weight : Op → ℕ) (id : LoopId) (body : List Node) → total weight (nodes_of (node.Loop id body ∷ [])) ≡ total weight (nodes_of body)
total-loop weight id body = ap (λ t. sum_by (instr_weight weight) (flat_map instr_of t)) (items-loop id body)

pub total-drop : (weight : Op → ℕ) (list : List Node) (i : ℕ) (n : Node) → i < length list → n ≡ get_or list i n → total weight (nodes_of (drop i list)) ≡ total weight (nodes_of (n ∷ [])) + total weight (nodes_of (drop (i + 1) list))
total-drop weight list i n within at =
    ap (λ t. sum_by (instr_weight weight) (flat_map instr_of t)) (items-drop list i n within at)
    ∙ sum-two weight (items (nodes_of (n ∷ []))) (items (nodes_of (drop (i + 1) list)))

pub ruleset total_steps = (total-block, total-if, total-loop, total-drop)

-- ---- at most 60 for each number

abbrev numbers : Item → List ℕ
numbers item = map (λ id. id.0) (defines item)

module _ (weight : Op → ℕ) (few : (op : Op) → weight op ≤ 60) where
  instr_light : (instr : Instr) → instr_weight weight instr ≤ 60 * length (numbers (InstrItem instr))
  instr_light (Alu value op kind srcs) = let here = few op in omega (arith, here)
  instr_light (Const value kind comps) = omega arith
  instr_light (Undef value kind) = omega arith
  instr_light (Input value kind slot) = omega arith
  instr_light (Output effect slot src) = omega arith
  instr_light (LoadBuf value kind buffer offset) = omega arith
  instr_light (StoreBuf effect buffer offset src) = omega arith

  item_light : (item : Item) → sum_by (instr_weight weight) (instr_of item) ≤ 60 * length (numbers item)
  item_light (BlockHead id) = omega arith
  item_light (PhiItem phi) = omega arith
  item_light (InstrItem instr) = let here = instr_light instr in omega (arith, here)
  item_light (JumpItem jump) = omega arith
  item_light (IfHead id cond) = omega arith
  item_light (LoopHead id) = omega arith

  items_light : (list : List Item) → sum_by (instr_weight weight) (flat_map instr_of list) ≤ 60 * length (flat_map numbers list)
  items_light [] = omega arith
  items_light (item ∷ list) =
      let sum = sum_by-append (instr_weight weight) (instr_of item) (flat_map instr_of list) in
      let count = length-append (numbers item) (flat_map numbers list) in
      let here = item_light item in
      let behind = items_light list in
      omega (arith, sum, count, here, behind)

  pub weight_few : (s : Shader) → IsShaped s → weight_of weight s ≤ 60 * s.next_value
  weight_few s shaped =
      let light = items_light (items s.body) in
      let count = length-le_from_distinct_below (values_defined s.body) s.next_value shaped.values (λ q is. member_has (λ v. v < s.next_value) (values_defined s.body) q shaped.below is) in
      omega (arith, light, count)
