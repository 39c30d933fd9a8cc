-- The first thing of a kind that passes a test, sought node by node: what a search through a tree rests on.
use Rattle.std.proofs.Common.{◌≡◌, ℕ, ◌+◌, ◌<◌, Bool, List, [], ◌∷◌, ◌++◌, length, get_or, drop, sym, ◌∙◌, ap, refl, Option, Some, None}
use Rattle.std.proofs.lemmas.List.{append-nil}
use Rattle.std.proofs.lemmas.Grind.{flat_map-append}
use Rattle.std.proofs.lemmas.List.Folds.{find-append}
use Rattle.std.specs.List.{find, flat_map}
use Rattle.std.specs.Option.{option_or}
use Rattle.nir_ir.specs.declared.ids.IfId.{IfId}
use Rattle.nir_ir.specs.declared.ids.LoopId.{LoopId}
use Rattle.nir_ir.specs.declared.ids.ValueId.{ValueId}
use Rattle.nir_ir.specs.declared.node.Block as block
use Rattle.nir_ir.specs.declared.node.Node.{Node}
use Rattle.nir_ir.specs.declared.node.Node.TheVariants as node
use Rattle.nir_ir.specs.Nodes.{Nodes, Nil, nodes_of}
use Rattle.nir_ir.specs.Items.{Item, IfHead, LoopHead, items}
use Rattle.nir_ir.specs.Definitions.{phi_of, instr_of, phi_defining, instr_defining, is_phi_of, is_target}
use Rattle.nir_ir.specs.Splits.{nodes_of-drop, nodes_of-block, nodes_of-if, nodes_of-loop, find-then, phis-BlockThen, instrs-BlockThen}

-- the first of what the items give that passes the test
abbrev pub first : {A : Type 0} → (Item → List A) → (A → Bool) → Nodes → Option A
first gives test nodes = find test (flat_map gives (items nodes))

pub first-if : {A : Type 0} (gives : Item → List A) (test : A → Bool) → ((id : IfId) (cond : ValueId) → gives (IfHead id cond) ≡ []) → (id : IfId) (cond : ValueId) (yes_list no_list : List Node) → first gives test (nodes_of (node.If id cond yes_list no_list ∷ [])) ≡ option_or (first gives test (nodes_of yes_list)) (first gives test (nodes_of no_list))
first-if gives test h id cond yes_list no_list =
    ap (first gives test) (nodes_of-if id cond yes_list no_list)
    ∙ ap (λ t. find test (t ++ flat_map gives ((items (nodes_of yes_list) ++ items (nodes_of no_list)) ++ []))) (h id cond)
    ∙ ap (λ t. find test (flat_map gives t)) (append-nil (items (nodes_of yes_list) ++ items (nodes_of no_list)))
    ∙ ap (find test) (flat_map-append gives (items (nodes_of yes_list)) (items (nodes_of no_list)))
    ∙ find-append test (flat_map gives (items (nodes_of yes_list))) (flat_map gives (items (nodes_of no_list)))

pub first-loop : {A : Type 0} (gives : Item → List A) (test : A → Bool) → ((id : LoopId) → gives (LoopHead id) ≡ []) → (id : LoopId) (body : List Node) → first gives test (nodes_of (node.Loop id body ∷ [])) ≡ first gives test (nodes_of body)
first-loop gives test h id body =
    ap (first gives test) (nodes_of-loop id body)
    ∙ ap (λ t. find test (t ++ flat_map gives (items (nodes_of body) ++ []))) (h id)
    ∙ ap (λ t. find test (flat_map gives t)) (append-nil (items (nodes_of body)))

-- a loop that finds it in the node of a place, and one that passes that node
pub found : {A : Type 0} (gives : Item → List A) (test : A → Bool) (list : List Node) (i : ℕ) (n : Node) (a : A) → i < length list → n ≡ get_or list i n → Some a ≡ first gives test (nodes_of (n ∷ [])) → first gives test (nodes_of (drop i list)) ≡ Some a
found gives test list i n a within at is_here =
    ap (first gives test) (nodes_of-drop list i n within at)
    ∙ find-then gives test (nodes_of (n ∷ [])) (nodes_of (drop (i + 1) list))
    ∙ ap (λ t. option_or t (first gives test (nodes_of (drop (i + 1) list)))) (sym is_here)

pub passed : {A : Type 0} (gives : Item → List A) (test : A → Bool) (list : List Node) (i : ℕ) (n : Node) → i < length list → n ≡ get_or list i n → None ≡ first gives test (nodes_of (n ∷ [])) → first gives test (nodes_of (drop i list)) ≡ first gives test (nodes_of (drop (i + 1) list))
passed gives test list i n within at is_not_here =
    ap (first gives test) (nodes_of-drop list i n within at)
    ∙ find-then gives test (nodes_of (n ∷ [])) (nodes_of (drop (i + 1) list))
    ∙ ap (λ t. option_or t (first gives test (nodes_of (drop (i + 1) list)))) (sym is_not_here)

pub instr_defining-block : (value : ValueId) (b : block.Block) → instr_defining value (nodes_of (node.Block b ∷ [])) ≡ find (is_target value) b.instrs
instr_defining-block value b = ap (instr_defining value) (nodes_of-block b) ∙ ap (find (is_target value)) (instrs-BlockThen b Nil ∙ append-nil b.instrs)

pub instr_defining-if : (value : ValueId) (id : IfId) (cond : ValueId) (yes_list no_list : List Node) → instr_defining value (nodes_of (node.If id cond yes_list no_list ∷ [])) ≡ option_or (instr_defining value (nodes_of yes_list)) (instr_defining value (nodes_of no_list))
instr_defining-if value id cond yes_list no_list = first-if instr_of (is_target value) (λ _ _. refl) id cond yes_list no_list

pub instr_defining-loop : (value : ValueId) (id : LoopId) (body : List Node) → instr_defining value (nodes_of (node.Loop id body ∷ [])) ≡ instr_defining value (nodes_of body)
instr_defining-loop value id body = first-loop instr_of (is_target value) (λ _. refl) id body

pub ruleset instr_steps = (instr_defining-block, instr_defining-if, instr_defining-loop)

pub phi_defining-block : (value : ValueId) (b : block.Block) → phi_defining value (nodes_of (node.Block b ∷ [])) ≡ find (is_phi_of value) b.phis
phi_defining-block value b = ap (phi_defining value) (nodes_of-block b) ∙ ap (find (is_phi_of value)) (phis-BlockThen b Nil ∙ append-nil b.phis)

pub phi_defining-if : (value : ValueId) (id : IfId) (cond : ValueId) (yes_list no_list : List Node) → phi_defining value (nodes_of (node.If id cond yes_list no_list ∷ [])) ≡ option_or (phi_defining value (nodes_of yes_list)) (phi_defining value (nodes_of no_list))
phi_defining-if value id cond yes_list no_list = first-if phi_of (is_phi_of value) (λ _ _. refl) id cond yes_list no_list

pub phi_defining-loop : (value : ValueId) (id : LoopId) (body : List Node) → phi_defining value (nodes_of (node.Loop id body ∷ [])) ≡ phi_defining value (nodes_of body)
phi_defining-loop value id body = first-loop phi_of (is_phi_of value) (λ _. refl) id body

pub ruleset phi_steps = (phi_defining-block, phi_defining-if, phi_defining-loop)
