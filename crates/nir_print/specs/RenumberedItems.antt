-- The items of a renumbered shader are those of the shader with other numbers, and distinct numbers have the places from 0 on.
use Rattle.std.specs.Prelude.{◌≡◌, refl, ℕ, suc, zero, ◌+◌, false, cond, nat_eq, not, List, [], ◌∷◌, ◌++◌, map, length, Option, Some, None}
use Rattle.std.specs.List.{AllByRecursion, IsDistinct, flat_map, range_with_len}
use Rattle.std.specs.Option.{option_to_list}
use Rattle.std.proofs.Common.{sym, ◌∙◌, ap, arith}
use Rattle.std.proofs.lemmas.Bool.{eqb-false, eq-eqb, ne_eqb}
use Rattle.std.proofs.lemmas.List.{map-append}
use Rattle.nir_ir.specs.declared.instr.Instr.TheVariants.{Alu, Const, Undef, Input, Output, LoadBuf, StoreBuf}
use Rattle.nir_ir.specs.declared.node.Block.{Block}
use Rattle.nir_ir.specs.Nodes.{Nodes, Nil, BlockThen, IfThen, LoopThen}
use Rattle.nir_ir.specs.Items.{Item, BlockHead, PhiItem, InstrItem, JumpItem, IfHead, LoopHead, items, block_items, defines, blocks_of, effects_of, ifs_of, loops_of}
use Rattle.nir_ir.specs.Definitions.{kinds_of}
use Rattle.nir_print.specs.Naming.{place}
use Rattle.nir_print.specs.Renumber.{Numbers, new_value, new_block, new_if, new_loop, new_instr, new_phi, new_block_node, new_nodes}

-- an item with other numbers
abbrev pub new_item : Numbers → Item → Item
new_item numbers (BlockHead id) = BlockHead (new_block numbers id)
new_item numbers (PhiItem phi) = PhiItem (new_phi numbers phi)
new_item numbers (InstrItem instr) = InstrItem (new_instr numbers instr)
new_item numbers (JumpItem jump) = JumpItem jump
new_item numbers (IfHead id cond) = IfHead (new_if numbers id) (new_value numbers cond)
new_item numbers (LoopHead id) = LoopHead (new_loop numbers id)

map_mapped : {A B C D : Type 0} (f : A → B) (g : B → D) (h : A → C) (k : C → D) → ((a : A) → g (f a) ≡ k (h a)) → (list : List A) → map g (map f list) ≡ map k (map h list)
map_mapped f g h k same [] = refl
map_mapped f g h k same (a ∷ list) = λ i. same a i ∷ map_mapped f g h k same list i

jumps_same : (numbers : Numbers) (block : Block) → map JumpItem (option_to_list block.jump) ≡ map (new_item numbers) (map JumpItem (option_to_list block.jump))
jumps_same numbers block = by block.jump where
  by : (jump : Option _) → map JumpItem (option_to_list jump) ≡ map (new_item numbers) (map JumpItem (option_to_list jump))
  by None = refl
  by (Some jump) = refl

pub items-new_block : (numbers : Numbers) (block : Block) → block_items (new_block_node numbers block) ≡ map (new_item numbers) (block_items block)
items-new_block numbers block =
    ap (λ t. BlockHead (new_block numbers block.id) ∷ t)
    ((λ i. map_mapped (new_phi numbers) PhiItem PhiItem (new_item numbers) (λ _. refl) block.phis i
    ++ map_mapped (new_instr numbers) InstrItem InstrItem (new_item numbers) (λ _. refl) block.instrs i
    ++ jumps_same numbers block i)
    ∙ ap (λ t. t ++ map (new_item numbers) (map JumpItem (option_to_list block.jump))) (sym (map-append (new_item numbers) (map PhiItem block.phis) (map InstrItem block.instrs)))
    ∙ sym (map-append (new_item numbers) (map PhiItem block.phis ++ map InstrItem block.instrs) (map JumpItem (option_to_list block.jump))))

pub items-new_nodes : (numbers : Numbers) (nodes : Nodes) → items (new_nodes numbers nodes) ≡ map (new_item numbers) (items nodes)
items-new_nodes numbers Nil = refl
items-new_nodes numbers (BlockThen block rest) =
    (λ i. items-new_block numbers block i ++ items-new_nodes numbers rest i) ∙ sym (map-append (new_item numbers) (block_items block) (items rest))
items-new_nodes numbers (IfThen id cond first second rest) =
    ap (λ t. IfHead (new_if numbers id) (new_value numbers cond) ∷ t)
    ((λ i. items-new_nodes numbers first i ++ items-new_nodes numbers second i ++ items-new_nodes numbers rest i)
    ∙ ap (λ t. t ++ map (new_item numbers) (items rest)) (sym (map-append (new_item numbers) (items first) (items second)))
    ∙ sym (map-append (new_item numbers) (items first ++ items second) (items rest)))
items-new_nodes numbers (LoopThen id body rest) =
    ap (λ t. LoopHead (new_loop numbers id) ∷ t)
    ((λ i. items-new_nodes numbers body i ++ items-new_nodes numbers rest i) ∙ sym (map-append (new_item numbers) (items body) (items rest)))

-- what each item gives is renamed, so all that they give is
pub given_renamed : {A B : Type 0} (gives : Item → List A) (new_gives : Item → List B) (rename : A → B) (numbers : Numbers) → ((item : Item) → new_gives (new_item numbers item) ≡ map rename (gives item))
    → (list : List Item) → flat_map new_gives (map (new_item numbers) list) ≡ map rename (flat_map gives list)
given_renamed gives new_gives rename numbers same [] = refl
given_renamed gives new_gives rename numbers same (item ∷ list) =
    (λ i. same item i ++ given_renamed gives new_gives rename numbers same list i) ∙ sym (map-append rename (gives item) (flat_map gives list))

pub given-new_nodes : {A B : Type 0} (gives : Item → List A) (new_gives : Item → List B) (rename : A → B) (numbers : Numbers) → ((item : Item) → new_gives (new_item numbers item) ≡ map rename (gives item))
    → (nodes : Nodes) → flat_map new_gives (items (new_nodes numbers nodes)) ≡ map rename (flat_map gives (items nodes))
given-new_nodes gives new_gives rename numbers same nodes = ap (flat_map new_gives) (items-new_nodes numbers nodes) ∙ given_renamed gives new_gives rename numbers same (items nodes)

pub values_renamed : (numbers : Numbers) (item : Item) → map (λ id. id.0) (defines (new_item numbers item)) ≡ map (place numbers.naming.values) (map (λ id. id.0) (defines item))
values_renamed numbers (BlockHead id) = refl
values_renamed numbers (PhiItem phi) = refl
values_renamed numbers (InstrItem (Alu value op kind srcs)) = refl
values_renamed numbers (InstrItem (Const value kind comps)) = refl
values_renamed numbers (InstrItem (Undef value kind)) = refl
values_renamed numbers (InstrItem (Input value kind slot)) = refl
values_renamed numbers (InstrItem (Output effect slot src)) = refl
values_renamed numbers (InstrItem (LoadBuf value kind buffer offset)) = refl
values_renamed numbers (InstrItem (StoreBuf effect buffer offset src)) = refl
values_renamed numbers (JumpItem jump) = refl
values_renamed numbers (IfHead id cond) = refl
values_renamed numbers (LoopHead id) = refl

pub kinds_kept : (numbers : Numbers) (item : Item) → kinds_of (new_item numbers item) ≡ map (λ kind. kind) (kinds_of item)
kinds_kept numbers (BlockHead id) = refl
kinds_kept numbers (PhiItem phi) = refl
kinds_kept numbers (InstrItem (Alu value op kind srcs)) = refl
kinds_kept numbers (InstrItem (Const value kind comps)) = refl
kinds_kept numbers (InstrItem (Undef value kind)) = refl
kinds_kept numbers (InstrItem (Input value kind slot)) = refl
kinds_kept numbers (InstrItem (Output effect slot src)) = refl
kinds_kept numbers (InstrItem (LoadBuf value kind buffer offset)) = refl
kinds_kept numbers (InstrItem (StoreBuf effect buffer offset src)) = refl
kinds_kept numbers (JumpItem jump) = refl
kinds_kept numbers (IfHead id cond) = refl
kinds_kept numbers (LoopHead id) = refl

pub effects_renamed : (numbers : Numbers) (item : Item) → map (λ id. id.0) (effects_of (new_item numbers item)) ≡ map (place numbers.effects) (map (λ id. id.0) (effects_of item))
effects_renamed numbers (BlockHead id) = refl
effects_renamed numbers (PhiItem phi) = refl
effects_renamed numbers (InstrItem (Alu value op kind srcs)) = refl
effects_renamed numbers (InstrItem (Const value kind comps)) = refl
effects_renamed numbers (InstrItem (Undef value kind)) = refl
effects_renamed numbers (InstrItem (Input value kind slot)) = refl
effects_renamed numbers (InstrItem (Output effect slot src)) = refl
effects_renamed numbers (InstrItem (LoadBuf value kind buffer offset)) = refl
effects_renamed numbers (InstrItem (StoreBuf effect buffer offset src)) = refl
effects_renamed numbers (JumpItem jump) = refl
effects_renamed numbers (IfHead id cond) = refl
effects_renamed numbers (LoopHead id) = refl

pub blocks_renamed : (numbers : Numbers) (item : Item) → map (λ id. id.0) (blocks_of (new_item numbers item)) ≡ map (place numbers.naming.blocks) (map (λ id. id.0) (blocks_of item))
blocks_renamed numbers (BlockHead id) = refl
blocks_renamed numbers (PhiItem phi) = refl
blocks_renamed numbers (InstrItem instr) = refl
blocks_renamed numbers (JumpItem jump) = refl
blocks_renamed numbers (IfHead id cond) = refl
blocks_renamed numbers (LoopHead id) = refl

pub ifs_renamed : (numbers : Numbers) (item : Item) → map (λ id. id.0) (ifs_of (new_item numbers item)) ≡ map (place numbers.ifs) (map (λ id. id.0) (ifs_of item))
ifs_renamed numbers (BlockHead id) = refl
ifs_renamed numbers (PhiItem phi) = refl
ifs_renamed numbers (InstrItem instr) = refl
ifs_renamed numbers (JumpItem jump) = refl
ifs_renamed numbers (IfHead id cond) = refl
ifs_renamed numbers (LoopHead id) = refl

pub loops_renamed : (numbers : Numbers) (item : Item) → map (λ id. id.0) (loops_of (new_item numbers item)) ≡ map (place numbers.loops) (map (λ id. id.0) (loops_of item))
loops_renamed numbers (BlockHead id) = refl
loops_renamed numbers (PhiItem phi) = refl
loops_renamed numbers (InstrItem instr) = refl
loops_renamed numbers (JumpItem jump) = refl
loops_renamed numbers (IfHead id cond) = refl
loops_renamed numbers (LoopHead id) = refl

-- the places of distinct numbers are those from 0 on: behind another number, each number stands one place later
later_place : (first n : ℕ) (numbers : List ℕ) → nat_eq first n ≡ false → place (first ∷ numbers) n ≡ suc (place numbers n)
later_place first n numbers other =
    let differs : nat_eq n first ≡ false = ne_eqb n first (λ e. eqb-false first n other (sym e)) in
    ap (λ b. cond (not b) (1 + place numbers n) 0) differs ∙ omega arith

later_places : (first : ℕ) (numbers list : List ℕ) → AllByRecursion (λ n. nat_eq first n ≡ false) list → map (place (first ∷ numbers)) list ≡ map suc (map (place numbers) list)
later_places first numbers [] all = refl
later_places first numbers (n ∷ list) all = λ i. later_place first n numbers all.0 i ∷ later_places first numbers list all.1 i

range_later : (a n : ℕ) → map suc (range_with_len a n) ≡ range_with_len (a + 1) n
range_later a zero = refl
range_later a (suc n) = let next : suc a ≡ a + 1 = omega arith in λ i. next i ∷ range_later (a + 1) n i

pub places_in_order : (numbers : List ℕ) → IsDistinct nat_eq numbers → map (place numbers) numbers ≡ range_with_len 0 (length numbers)
unfolding IsDistinct
places_in_order [] distinct = refl
places_in_order (n ∷ numbers) distinct =
    let here : place (n ∷ numbers) n ≡ 0 = ap (λ b. cond (not b) (1 + place numbers n) 0) (eq-eqb n n refl) in
    let behind = later_places n numbers numbers distinct.0 ∙ ap (map suc) (places_in_order numbers distinct.1) ∙ range_later 0 (length numbers) in
    λ i. here i ∷ behind i
