-- What stands in two lists, one after another, is what stands in the first and then what stands in the second.
use Rattle.std.specs.Prelude.{◌≡◌, refl, ℕ, ◌+◌, ◌<◌, List, [], ◌∷◌, ◌++◌, map, length, Bool}
use Rattle.std.proofs.Common.{sym, ◌∙◌, ap, append_assoc, get_or, drop}
use Rattle.std.proofs.lemmas.List.{append-nil, drop_more}
use Rattle.std.proofs.lemmas.Grind.{flat_map-append}
use Rattle.std.proofs.lemmas.List.Folds.{find-append}
use Rattle.std.specs.List.{flat_map, find}
use Rattle.std.specs.Option.{option_or, option_to_list}
use Rattle.nir_ir.specs.declared.ids.IfId.{IfId}
use Rattle.nir_ir.specs.declared.ids.LoopId.{LoopId}
use Rattle.nir_ir.specs.declared.ids.ValueId.{ValueId}
use Rattle.nir_ir.specs.declared.node.Block as block
use Rattle.nir_ir.specs.declared.node.Node.{Node}
use Rattle.nir_ir.specs.declared.node.Node.TheVariants as node
use Rattle.nir_ir.specs.Nodes.{Nodes, Nil, BlockThen, IfThen, LoopThen, then, nodes_of, nodes_of-append, before-block, before-if, before-loop}
use Rattle.nir_ir.specs.Items.{Item, BlockHead, PhiItem, InstrItem, JumpItem, IfHead, LoopHead, items, block_items}
use Rattle.nir_ir.specs.Definitions.{phi_of, instr_of, phis, instrs}

-- a list of one node
pub nodes_of-block : (b : block.Block) → nodes_of (node.Block b ∷ []) ≡ BlockThen b Nil
nodes_of-block b = before-block b Nil

pub nodes_of-if : (id : IfId) (cond : ValueId) (first second : List Node) → nodes_of (node.If id cond first second ∷ []) ≡ IfThen id cond (nodes_of first) (nodes_of second) Nil
nodes_of-if id cond first second = before-if id cond first second Nil

pub nodes_of-loop : (id : LoopId) (body : List Node) → nodes_of (node.Loop id body ∷ []) ≡ LoopThen id (nodes_of body) Nil
nodes_of-loop id body = before-loop id body Nil

-- the first node and the rest
pub nodes_of-cons : (n : Node) (rest : List Node) → nodes_of (n ∷ rest) ≡ then (nodes_of (n ∷ [])) (nodes_of rest)
nodes_of-cons n rest = nodes_of-append (n ∷ []) rest

-- the node at a place and the nodes behind it, as a loop over a list meets them
pub nodes_of-drop : (list : List Node) (i : ℕ) (n : Node) → i < length list → n ≡ get_or list i n → nodes_of (drop i list) ≡ then (nodes_of (n ∷ [])) (nodes_of (drop (i + 1) list))
nodes_of-drop list i n within at =
    ap nodes_of (drop_more list i n within)
    ∙ ap (λ m. nodes_of (m ∷ drop (i + 1) list)) (sym at)
    ∙ nodes_of-cons n (drop (i + 1) list)

pub items-then : (a b : Nodes) → items (then a b) ≡ items a ++ items b
items-then Nil b = refl
items-then (BlockThen x rest) b = ap (λ t. block_items x ++ t) (items-then rest b) ∙ sym (append_assoc (block_items x) (items rest) (items b))
items-then (IfThen id cond first second rest) b =
    ap (λ t. IfHead id cond ∷ items first ++ items second ++ t) (items-then rest b)
    ∙ sym (append_assoc (IfHead id cond ∷ items first ++ items second) (items rest) (items b))
items-then (LoopThen id body rest) b =
    ap (λ t. LoopHead id ∷ items body ++ t) (items-then rest b)
    ∙ sym (append_assoc (LoopHead id ∷ items body) (items rest) (items b))

-- what each item gives, as the values that it defines
pub flat_map-then : {A : Type 0} (gives : Item → List A) (a b : Nodes) → flat_map gives (items (then a b)) ≡ flat_map gives (items a) ++ flat_map gives (items b)
flat_map-then gives a b = ap (flat_map gives) (items-then a b) ∙ flat_map-append gives (items a) (items b)

-- the first item that passes a test is sought in the first list and then in the second
pub find-then : {A : Type 0} (gives : Item → List A) (test : A → Bool) (a b : Nodes) → find test (flat_map gives (items (then a b))) ≡ option_or (find test (flat_map gives (items a))) (find test (flat_map gives (items b)))
find-then gives test a b = ap (find test) (flat_map-then gives a b) ∙ find-append test (flat_map gives (items a)) (flat_map gives (items b))

-- of the items of a block only its instructions are instructions, and only its phis are phis
given-nothing : {A B C : Type 0} (gives : B → List C) (part : A → B) → ((a : A) → gives (part a) ≡ []) → (parts : List A) → flat_map gives (map part parts) ≡ []
given-nothing gives part h [] = refl
given-nothing gives part h (a ∷ parts) = ap (λ t. t ++ flat_map gives (map part parts)) (h a) ∙ given-nothing gives part h parts

given-each : {A B : Type 0} (gives : B → List A) (part : A → B) → ((a : A) → gives (part a) ≡ a ∷ []) → (parts : List A) → flat_map gives (map part parts) ≡ parts
given-each gives part h [] = refl
given-each gives part h (a ∷ parts) = ap (λ t. t ++ flat_map gives (map part parts)) (h a) ∙ ap (λ t. a ∷ t) (given-each gives part h parts)

-- what the parts of a block give, one after another
pub given-block : {A : Type 0} (gives : Item → List A) (b : block.Block) (rest : Nodes)
    → flat_map gives (items (BlockThen b rest))
    ≡ gives (BlockHead b.id) ++ (flat_map gives (map PhiItem b.phis) ++ flat_map gives (map InstrItem b.instrs) ++ flat_map gives (map JumpItem (option_to_list b.jump)) ++ flat_map gives (items rest))
given-block gives b rest =
    let all_phis : List Item = map PhiItem b.phis in
    let all_instrs : List Item = map InstrItem b.instrs in
    let jumps : List Item = map JumpItem (option_to_list b.jump) in
    ap (λ t. gives (BlockHead b.id) ++ t)
    (flat_map-append gives (all_phis ++ all_instrs ++ jumps) (items rest)
    ∙ ap (λ t. t ++ flat_map gives (items rest))
    (flat_map-append gives (all_phis ++ all_instrs) jumps
    ∙ ap (λ t. t ++ flat_map gives jumps) (flat_map-append gives all_phis all_instrs)))

pub instrs-BlockThen : (b : block.Block) (rest : Nodes) → instrs (BlockThen b rest) ≡ b.instrs ++ instrs rest
instrs-BlockThen b rest =
    given-block instr_of b rest
    ∙ ap (λ t. t ++ flat_map instr_of (map InstrItem b.instrs) ++ flat_map instr_of (map JumpItem (option_to_list b.jump)) ++ instrs rest) (given-nothing instr_of PhiItem (λ _. refl) b.phis)
    ∙ ap (λ t. t ++ flat_map instr_of (map JumpItem (option_to_list b.jump)) ++ instrs rest) (given-each instr_of InstrItem (λ _. refl) b.instrs)
    ∙ ap (λ t. b.instrs ++ t ++ instrs rest) (given-nothing instr_of JumpItem (λ _. refl) (option_to_list b.jump))
    ∙ ap (λ t. t ++ instrs rest) (append-nil b.instrs)

pub phis-BlockThen : (b : block.Block) (rest : Nodes) → phis (BlockThen b rest) ≡ b.phis ++ phis rest
phis-BlockThen b rest =
    given-block phi_of b rest
    ∙ ap (λ t. t ++ flat_map phi_of (map InstrItem b.instrs) ++ flat_map phi_of (map JumpItem (option_to_list b.jump)) ++ phis rest) (given-each phi_of PhiItem (λ _. refl) b.phis)
    ∙ ap (λ t. b.phis ++ t ++ flat_map phi_of (map JumpItem (option_to_list b.jump)) ++ phis rest) (given-nothing phi_of InstrItem (λ _. refl) b.instrs)
    ∙ ap (λ t. t ++ flat_map phi_of (map JumpItem (option_to_list b.jump)) ++ phis rest) (append-nil b.phis)
    ∙ ap (λ t. b.phis ++ t ++ phis rest) (given-nothing phi_of JumpItem (λ _. refl) (option_to_list b.jump))
    ∙ ap (λ t. t ++ phis rest) (append-nil b.phis)

-- the items of a list of one node
pub items-block : (b : block.Block) → items (nodes_of (node.Block b ∷ [])) ≡ block_items b
items-block b = ap items (nodes_of-block b) ∙ append-nil (block_items b)

pub items-if : (id : IfId) (cond : ValueId) (first second : List Node) → items (nodes_of (node.If id cond first second ∷ [])) ≡ IfHead id cond ∷ items (nodes_of first) ++ items (nodes_of second)
items-if id cond first second = ap items (nodes_of-if id cond first second) ∙ append-nil (IfHead id cond ∷ items (nodes_of first) ++ items (nodes_of second))

pub items-loop : (id : LoopId) (body : List Node) → items (nodes_of (node.Loop id body ∷ [])) ≡ LoopHead id ∷ items (nodes_of body)
items-loop id body = ap items (nodes_of-loop id body) ∙ append-nil (LoopHead id ∷ items (nodes_of body))

-- the items of the node at a place and of the nodes behind it
pub items-drop : (list : List Node) (i : ℕ) (n : Node) → i < length list → n ≡ get_or list i n → items (nodes_of (drop i list)) ≡ items (nodes_of (n ∷ [])) ++ items (nodes_of (drop (i + 1) list))
items-drop list i n within at = ap items (nodes_of-drop list i n within at) ∙ items-then (nodes_of (n ∷ [])) (nodes_of (drop (i + 1) list))
