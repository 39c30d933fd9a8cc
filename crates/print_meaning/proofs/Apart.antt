-- Numbers that a renaming keeps apart from all others, and what a shader defines under such a renaming.
use Rattle.std.specs.Prelude.{◌≡◌, refl, ℕ, ◌<◌, Bool, true, false, nat_eq, List, [], ◌∷◌, ◌++◌, length, map, get_or}
use Rattle.std.specs.List.{AllByRecursion}
use Rattle.std.specs.Option.{option_to_list}
use Rattle.std.proofs.Common.{sym, ◌∙◌, ap, arith}
use Rattle.std.proofs.lemmas.Bool.{eq-eqb, eqb-false, eqb-true, ne_eqb}
use Rattle.std.proofs.lemmas.List.Sums.{passes_at_first}
use Rattle.nir_ir.specs.declared.instr.Instr.{Instr}
use Rattle.nir_ir.specs.declared.node.Block.{Block}
use Rattle.nir_ir.specs.declared.node.Phi.{Phi}
use Rattle.nir_ir.specs.Items.{Item, PhiItem, InstrItem, JumpItem, block_items, blocks_defined, blocks_of, defines, items, target, values_defined}
use Rattle.nir_ir.specs.Nodes.{Nodes, Nil, BlockThen, IfThen, LoopThen}
use Rattle.nir_ir.specs.Shaped.{IsOneOf}
use Rattle.list_laws.specs.AllLaws.{all_back, all_front, all_of_map, given_by_each}
use Rattle.nir_print.specs.Naming.{place}
use Rattle.print_meaning.proofs.BlockOrder.{nat_eq-swap}
use Rattle.print_meaning.proofs.Places.{all_members, place-below}

-- a renaming keeps a number apart from all others
abbrev pub IsApart : (ℕ → ℕ) → ℕ → Type 0
IsApart rename n = (m : ℕ) → nat_eq (rename m) (rename n) ≡ nat_eq m n

-- the same with the number first
pub apart_first : (rename : ℕ → ℕ) (n m : ℕ) → IsApart rename n → nat_eq (rename n) (rename m) ≡ nat_eq n m
apart_first rename n m apart = nat_eq-swap (rename n) (rename m) ∙ apart m ∙ nat_eq-swap m n

-- a number whose place is that of a member is the member
same_place : (list : List ℕ) (n m : ℕ) → place list n < length list → place list m ≡ place list n → m ≡ n
same_place list n m below same =
    let other : place list m < length list = omega (arith, below, same) in
    eqb-true m (get_or list (place list m) 0) (passes_at_first (nat_eq m) list 0 other)
    ∙ ap (λ at. get_or list at 0) same
    ∙ sym (eqb-true n (get_or list (place list n) 0) (passes_at_first (nat_eq n) list 0 below))

-- the places of a list keep its members apart
pub place-apart : (list : List ℕ) (n : ℕ) → IsOneOf list n → IsApart (place list) n
place-apart list n is m = by (nat_eq m n) refl where
  by : (test : Bool) → nat_eq m n ≡ test → nat_eq (place list m) (place list n) ≡ test
  by true e = eq-eqb (place list m) (place list n) (ap (place list) (eqb-true m n e))
  by false e = ne_eqb (place list m) (place list n) (λ same. eqb-false m n e (same_place list n m (place-below list n is) same))

pub all_apart : (list : List ℕ) → AllByRecursion (IsApart (place list)) list
all_apart list = each list (all_members list) where
  each : (part : List ℕ) → AllByRecursion (IsOneOf list) part → AllByRecursion (IsApart (place list)) part
  each [] all = tt
  each (n ∷ part) all = (place-apart list n all.0, each part all.1)

-- ---- what a shader defines

-- the values that an instruction defines are kept apart
abbrev pub TargetApart : (ℕ → ℕ) → Instr → Type 0
TargetApart values instr = AllByRecursion (λ id. IsApart values id.0) (option_to_list (target instr))

-- a block's number and the values that it defines are kept apart, those of blocks and those of values by a renaming each
pub record BlockApart (values blocks : ℕ → ℕ) (b : Block) : Type 0 where
  pub id : IsApart blocks b.id.0
  pub phis : AllByRecursion (λ phi. IsApart values phi.value.0) b.phis
  pub instrs : AllByRecursion (TargetApart values) b.instrs

abbrev pub NodesApart : (ℕ → ℕ) → (ℕ → ℕ) → Nodes → Type 0
NodesApart values blocks Nil = Unit {0}
NodesApart values blocks (BlockThen b rest) = BlockApart values blocks b × NodesApart values blocks rest
NodesApart values blocks (IfThen id condition first second rest) = NodesApart values blocks first × NodesApart values blocks second × NodesApart values blocks rest
NodesApart values blocks (LoopThen id body rest) = NodesApart values blocks body × NodesApart values blocks rest

module _ (values blocks : ℕ → ℕ) where
  abbrev ItemApart : Item → Type 0
  ItemApart item = AllByRecursion (λ id. IsApart values id.0) (defines item) × AllByRecursion (λ id. IsApart blocks id.0) (blocks_of item)

  phis_apart : (phis : List Phi) → AllByRecursion ItemApart (map PhiItem phis) → AllByRecursion (λ phi. IsApart values phi.value.0) phis
  phis_apart [] all = tt
  phis_apart (phi ∷ phis) all = (all.0.0.0, phis_apart phis all.1)

  instrs_apart : (instrs : List Instr) → AllByRecursion ItemApart (map InstrItem instrs) → AllByRecursion (TargetApart values) instrs
  instrs_apart [] all = tt
  instrs_apart (instr ∷ instrs) all = (all.0.0, instrs_apart instrs all.1)

  block_apart : (b : Block) → AllByRecursion ItemApart (block_items b) → BlockApart values blocks b
  block_apart b all =
      let front = all_front ItemApart (map PhiItem b.phis ++ map InstrItem b.instrs) (map JumpItem (option_to_list b.jump)) all.1 in
      record {
        id = all.0.1.0;
        phis = phis_apart b.phis (all_front ItemApart (map PhiItem b.phis) (map InstrItem b.instrs) front);
        instrs = instrs_apart b.instrs (all_back ItemApart (map PhiItem b.phis) (map InstrItem b.instrs) front);
      }

  by_items : (nodes : Nodes) → AllByRecursion ItemApart (items nodes) → NodesApart values blocks nodes
  by_items Nil all = tt
  by_items (BlockThen b rest) all =
      (block_apart b (all_front ItemApart (block_items b) (items rest) all), by_items rest (all_back ItemApart (block_items b) (items rest) all))
  by_items (IfThen id condition first second rest) all =
      let front = all_front ItemApart (items first ++ items second) (items rest) all.1 in (
        by_items first (all_front ItemApart (items first) (items second) front),
        by_items second (all_back ItemApart (items first) (items second) front),
        by_items rest (all_back ItemApart (items first ++ items second) (items rest) all.1),
      )
  by_items (LoopThen id body rest) all =
      (by_items body (all_front ItemApart (items body) (items rest) all.1), by_items rest (all_back ItemApart (items body) (items rest) all.1))

  item_apart : (list : List Item)
      → AllByRecursion (λ item. AllByRecursion (IsApart values) (map (λ id. id.0) (defines item))) list
      → AllByRecursion (λ item. AllByRecursion (IsApart blocks) (map (λ id. id.0) (blocks_of item))) list
      → AllByRecursion ItemApart list
  item_apart [] one two = tt
  item_apart (item ∷ list) one two =
      ((all_of_map (λ id. id.0) (IsApart values) (defines item) one.0, all_of_map (λ id. id.0) (IsApart blocks) (blocks_of item) two.0), item_apart list one.1 two.1)

  pub nodes_apart : (nodes : Nodes) → AllByRecursion (IsApart values) (values_defined nodes) → AllByRecursion (IsApart blocks) (blocks_defined nodes) → NodesApart values blocks nodes
  nodes_apart nodes one two =
      by_items nodes
      (item_apart (items nodes)
      (given_by_each (IsApart values) (λ item. map (λ id. id.0) (defines item)) (items nodes) one)
      (given_by_each (IsApart blocks) (λ item. map (λ id. id.0) (blocks_of item)) (items nodes) two))
