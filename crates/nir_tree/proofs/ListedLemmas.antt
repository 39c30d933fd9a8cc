-- What a walk along the tree lists of the uses of a value, part by part.
use Rattle.std.proofs.Common.{◌≡◌, ℕ, ◌+◌, ◌<◌, ◌≤◌, Bool, true, false, cond, List, [], ◌∷◌, ◌++◌, map, length, get_or, drop, sym, ◌∙◌, ap, subst, refl, append_assoc}
use Rattle.std.proofs.lemmas.List.{append-nil, drop_all, drop_more}
use Rattle.std.proofs.lemmas.Grind.{flat_map-append}
use Rattle.std.proofs.lemmas.List.Folds.{flat_map-map}
use Rattle.std.specs.List.{flat_map, AllByRecursion}
use Rattle.std.specs.Option.{option_to_list}
use Rattle.list_laws.specs.AllLaws.{all_back, all_front, all_of_map}
use Rattle.nir_ir.specs.declared.ids.IfId.{IfId}
use Rattle.nir_ir.specs.declared.ids.LoopId.{LoopId}
use Rattle.nir_ir.specs.declared.ids.ValueId.{ValueId}
use Rattle.nir_ir.specs.declared.instr.Instr.{Instr}
use Rattle.nir_ir.specs.declared.journal.Use.{Use}
use Rattle.nir_ir.specs.declared.journal.Use.TheVariants.{OfIf}
use Rattle.nir_ir.specs.declared.node.Block as block
use Rattle.nir_ir.specs.declared.node.Jump.{Jump}
use Rattle.nir_ir.specs.declared.node.Node.{Node}
use Rattle.nir_ir.specs.declared.node.Node.TheVariants as node
use Rattle.nir_ir.specs.declared.node.Phi.{Phi}
use Rattle.nir_ir.specs.Items.{Item, BlockHead, PhiItem, InstrItem, JumpItem, IfHead, items}
use Rattle.nir_ir.specs.Nodes.{Nil, BlockThen, nodes_of}
use Rattle.nir_ir.specs.Shaped.{IsShapedInstr, IsShapedItem, IsShapedPhi}
use Rattle.nir_ir.specs.Splits.{given-block, items-if, items-loop, items-drop}
use Rattle.nir_ir.specs.Uses.{is_value}
use Rattle.nir_tree.specs.Listed.{numbered, uses_by, uses_in}

-- one more part of a list of uses, and the last of them
pub added_more : (whole uses longer here parts rest : List Use) → longer ≡ uses ++ here → parts ≡ here ++ rest → uses ++ parts ≡ whole → longer ++ rest ≡ whole
added_more whole uses longer here parts rest added split so_far =
    ap (λ t. t ++ rest) added
    ∙ append_assoc uses here rest
    ∙ ap (λ t. uses ++ t) (sym split)
    ∙ so_far

pub added_all : (whole uses rest : List Use) → rest ≡ [] → uses ++ rest ≡ whole → uses ≡ whole
added_all whole uses rest none so_far = sym (append-nil uses) ∙ ap (λ t. uses ++ t) (sym none) ∙ so_far

-- a source and those behind it
one_then : (named : Use) (rest : List Use) (here : Bool) → cond here (named ∷ rest) rest ≡ cond here (named ∷ []) [] ++ rest
one_then named rest true = refl
one_then named rest false = refl

pub numbered-cons : (value : ValueId) (named : ℕ → Use) (n : ℕ) (used : ValueId) (more : List ValueId)
    → numbered value named n (used ∷ more) ≡ cond (is_value value used) (named n ∷ []) [] ++ numbered value named (n + 1) more
numbered-cons value named n used more = one_then (named n) (numbered value named (n + 1) more) (is_value value used)

pub two_sources : (value : ValueId) (named : ℕ → Use) (first second : ValueId) (before one : List Use) → one ≡ before ++ cond (is_value value first) (named 0 ∷ []) []
    → one ++ cond (is_value value second) (named 1 ∷ []) [] ≡ before ++ numbered value named 0 (first ∷ second ∷ [])
two_sources value named first second before one is =
    let last : List Use = cond (is_value value second) (named 1 ∷ []) [] in
    ap (λ (t : List Use). t ++ last) is
    ∙ append_assoc before (cond (is_value value first) (named 0 ∷ []) []) last
    ∙ ap (λ (t : List Use). before ++ t) (sym (numbered-cons value named 0 first (second ∷ [])))

pub numbered-drop : {A : Type 0} (value : ValueId) (named : ℕ → Use) (read : A → ValueId) (list : List A) (i : ℕ) (a : A) → i < length list → a ≡ get_or list i a
    → numbered value named i (map read (drop i list)) ≡ cond (is_value value (read a)) (named i ∷ []) [] ++ numbered value named (i + 1) (map read (drop (i + 1) list))
numbered-drop value named read list i a within at =
    ap (λ (rest : List _). numbered value named i (map read rest)) (drop_more list i a within)
    ∙ ap (λ (x : _). numbered value named i (read x ∷ map read (drop (i + 1) list))) (sym at)
    ∙ numbered-cons value named i (read a) (map read (drop (i + 1) list))

pub numbered-past : {A : Type 0} (value : ValueId) (named : ℕ → Use) (read : A → ValueId) (list : List A) (i : ℕ) → length list ≤ i → numbered value named i (map read (drop i list)) ≡ []
numbered-past value named read list i past = ap (λ (rest : List _). numbered value named i (map read rest)) (drop_all i list past)

pub given-drop : {A : Type 0} (gives : A → List Use) (list : List A) (i : ℕ) (a : A) → i < length list → a ≡ get_or list i a → flat_map gives (drop i list) ≡ gives a ++ flat_map gives (drop (i + 1) list)
given-drop gives list i a within at =
    ap (λ (rest : List _). flat_map gives rest) (drop_more list i a within)
    ∙ ap (λ (x : _). gives x ++ flat_map gives (drop (i + 1) list)) (sym at)

pub given-past : {A : Type 0} (gives : A → List Use) (list : List A) (i : ℕ) → length list ≤ i → flat_map gives (drop i list) ≡ []
given-past gives list i past = ap (λ (rest : List _). flat_map gives rest) (drop_all i list past)

-- what holds of all that are left
pub all-drop : {A : Type 0} (P : A → Type 0) (list : List A) (i : ℕ) (a : A) → i < length list → a ≡ get_or list i a → AllByRecursion P (drop i list) → P a × AllByRecursion P (drop (i + 1) list)
all-drop P list i a within at all =
    let split : AllByRecursion P (get_or list i a ∷ drop (i + 1) list) = subst (AllByRecursion P) (drop_more list i a within) all in
    (subst P (sym at) split.0, split.1)

-- the phis and the instructions of a block
no_jump_uses : (value : ValueId) (jumps : List Jump) → flat_map (uses_by value) (map JumpItem jumps) ≡ []
no_jump_uses value [] = refl
no_jump_uses value (jump ∷ jumps) = no_jump_uses value jumps

pub uses_in-block : (value : ValueId) (b : block.Block) → uses_in value (BlockThen b Nil) ≡ flat_map (λ phi. uses_by value (PhiItem phi)) b.phis ++ flat_map (λ instr. uses_by value (InstrItem instr)) b.instrs
uses_in-block value b =
    let phis : List Use = flat_map (uses_by value) (map PhiItem b.phis) in
    let instrs : List Use = flat_map (uses_by value) (map InstrItem b.instrs) in
    given-block (uses_by value) b Nil
    ∙ append-nil (phis ++ instrs ++ flat_map (uses_by value) (map JumpItem (option_to_list b.jump)))
    ∙ ap (λ t. phis ++ instrs ++ t) (no_jump_uses value (option_to_list b.jump))
    ∙ append-nil (phis ++ instrs)
    ∙ ap (λ t. t ++ instrs) (flat_map-map (uses_by value) PhiItem b.phis)
    ∙ ap (λ t. flat_map (λ phi. uses_by value (PhiItem phi)) b.phis ++ t) (flat_map-map (uses_by value) InstrItem b.instrs)

block_all : (P : Item → Type 0) (b : block.Block) → AllByRecursion P (items (BlockThen b Nil)) → AllByRecursion P ((BlockHead b.id ∷ map PhiItem b.phis) ++ map InstrItem b.instrs)
block_all P b all =
    let heads : List Item = (BlockHead b.id ∷ map PhiItem b.phis) ++ map InstrItem b.instrs in
    all_front P heads (map JumpItem (option_to_list b.jump)) (all_front P (heads ++ map JumpItem (option_to_list b.jump)) [] all)

pub phis_shaped : (b : block.Block) → AllByRecursion IsShapedItem (items (BlockThen b Nil)) → AllByRecursion IsShapedPhi b.phis
phis_shaped b all =
    all_of_map PhiItem IsShapedItem b.phis (all_front IsShapedItem (BlockHead b.id ∷ map PhiItem b.phis) (map InstrItem b.instrs) (block_all IsShapedItem b all)).1

pub instrs_shaped : (b : block.Block) → AllByRecursion IsShapedItem (items (BlockThen b Nil)) → AllByRecursion IsShapedInstr b.instrs
instrs_shaped b all =
    all_of_map InstrItem IsShapedItem b.instrs (all_back IsShapedItem (BlockHead b.id ∷ map PhiItem b.phis) (map InstrItem b.instrs) (block_all IsShapedItem b all))

-- the parts of an if, and of a loop
pub uses_in-if : (value : ValueId) (id : IfId) (condition : ValueId) (first second : List Node)
    → uses_in value (nodes_of (node.If id condition first second ∷ [])) ≡ cond (is_value value condition) (OfIf id ∷ []) [] ++ uses_in value (nodes_of first) ++ uses_in value (nodes_of second)
uses_in-if value id condition first second =
    ap (flat_map (uses_by value)) (items-if id condition first second)
    ∙ flat_map-append (uses_by value) (IfHead id condition ∷ items (nodes_of first)) (items (nodes_of second))

pub uses_in-loop : (value : ValueId) (id : LoopId) (body : List Node) → uses_in value (nodes_of (node.Loop id body ∷ [])) ≡ uses_in value (nodes_of body)
uses_in-loop value id body = ap (flat_map (uses_by value)) (items-loop id body)

pub if_shaped : (id : IfId) (condition : ValueId) (first second : List Node) → AllByRecursion IsShapedItem (items (nodes_of (node.If id condition first second ∷ [])))
    → AllByRecursion IsShapedItem (items (nodes_of first)) × AllByRecursion IsShapedItem (items (nodes_of second))
if_shaped id condition first second all =
    let split : AllByRecursion IsShapedItem (IfHead id condition ∷ items (nodes_of first) ++ items (nodes_of second)) = subst (AllByRecursion IsShapedItem) (items-if id condition first second) all in (
      (all_front IsShapedItem (IfHead id condition ∷ items (nodes_of first)) (items (nodes_of second)) split).1,
      all_back IsShapedItem (IfHead id condition ∷ items (nodes_of first)) (items (nodes_of second)) split,
    )

pub loop_shaped : (id : LoopId) (body : List Node) → AllByRecursion IsShapedItem (items (nodes_of (node.Loop id body ∷ []))) → AllByRecursion IsShapedItem (items (nodes_of body))
loop_shaped id body all = (subst (AllByRecursion IsShapedItem) (items-loop id body) all).1

-- the node at a place and those behind it
pub uses_in-drop : (value : ValueId) (list : List Node) (i : ℕ) (n : Node) → i < length list → n ≡ get_or list i n → uses_in value (nodes_of (drop i list)) ≡ uses_in value (nodes_of (n ∷ [])) ++ uses_in value (nodes_of (drop (i + 1) list))
uses_in-drop value list i n within at =
    ap (flat_map (uses_by value)) (items-drop list i n within at)
    ∙ flat_map-append (uses_by value) (items (nodes_of (n ∷ []))) (items (nodes_of (drop (i + 1) list)))

pub uses_in-past : (value : ValueId) (list : List Node) (i : ℕ) → length list ≤ i → uses_in value (nodes_of (drop i list)) ≡ []
uses_in-past value list i past = ap (λ (rest : List Node). uses_in value (nodes_of rest)) (drop_all i list past)

pub nodes_shaped : (list : List Node) (i : ℕ) (n : Node) → i < length list → n ≡ get_or list i n → AllByRecursion IsShapedItem (items (nodes_of (drop i list)))
    → AllByRecursion IsShapedItem (items (nodes_of (n ∷ []))) × AllByRecursion IsShapedItem (items (nodes_of (drop (i + 1) list)))
nodes_shaped list i n within at all =
    let split : AllByRecursion IsShapedItem (items (nodes_of (n ∷ [])) ++ items (nodes_of (drop (i + 1) list))) = subst (AllByRecursion IsShapedItem) (items-drop list i n within at) all in (
      all_front IsShapedItem (items (nodes_of (n ∷ []))) (items (nodes_of (drop (i + 1) list))) split,
      all_back IsShapedItem (items (nodes_of (n ∷ []))) (items (nodes_of (drop (i + 1) list))) split,
    )

-- the uses in a block, and in an if, after those that were listed before
pub block_added : (value : ValueId) (b : block.Block) (before between : List Use) (phis : List Phi) (instrs : List Instr) → phis ≡ b.phis → instrs ≡ b.instrs
    → between ≡ before ++ flat_map (λ phi. uses_by value (PhiItem phi)) phis
    → between ++ flat_map (λ instr. uses_by value (InstrItem instr)) instrs ≡ before ++ uses_in value (BlockThen b Nil)
block_added value b before between phis instrs same_phis same_instrs first =
    let by_phis : List Phi → List Use = λ list. flat_map (λ phi. uses_by value (PhiItem phi)) list in
    let by_instrs : List Instr → List Use = λ list. flat_map (λ instr. uses_by value (InstrItem instr)) list in
    ap (λ (list : List Instr). between ++ by_instrs list) same_instrs
    ∙ ap (λ (t : List Use). t ++ by_instrs b.instrs) (first ∙ ap (λ (list : List Phi). before ++ by_phis list) same_phis)
    ∙ append_assoc before (by_phis b.phis) (by_instrs b.instrs)
    ∙ ap (λ (t : List Use). before ++ t) (sym (uses_in-block value b))

pub if_added : (value : ValueId) (id : IfId) (condition : ValueId) (first second first_list second_list : List Node) (before one two : List Use) → first_list ≡ first → second_list ≡ second
    → one ≡ before ++ cond (is_value value condition) (OfIf id ∷ []) []
    → two ≡ one ++ uses_in value (nodes_of first_list)
    → two ++ uses_in value (nodes_of second_list) ≡ before ++ uses_in value (nodes_of (node.If id condition first second ∷ []))
if_added value id condition first second first_list second_list before one two same_first same_second one_is two_is =
    let here : List Use = cond (is_value value condition) (OfIf id ∷ []) [] in
    let inside : List Node → List Use = λ list. uses_in value (nodes_of list) in
    ap (λ (list : List Node). two ++ inside list) same_second
    ∙ ap (λ (t : List Use). t ++ inside second) (two_is ∙ ap (λ (list : List Node). one ++ inside list) same_first ∙ ap (λ (t : List Use). t ++ inside first) one_is ∙ append_assoc before here (inside first))
    ∙ append_assoc before (here ++ inside first) (inside second)
    ∙ ap (λ (t : List Use). before ++ t) (sym (uses_in-if value id condition first second))
