-- A walk through all items of a text names what the text defines.
use Rattle.std.proofs.Common.{◌≡◌, ℕ, List, [], ◌∷◌, ◌++◌, map, fold, ap, sym, ◌∙◌, append_assoc, Option, Some, None}
use Rattle.std.specs.List.{flat_map}
use Rattle.std.specs.Option.{option_map, option_map_or, option_to_list}
use Rattle.std.proofs.lemmas.List.{append-nil}
use Rattle.nir_ir.specs.declared.ids.ValueId.{ValueId}
use Rattle.nir_ir.specs.declared.instr.Instr.{Instr}
use Rattle.nir_ir.specs.declared.kind.Kind.{Kind}
use Rattle.nir_ir.specs.declared.node.Node.{Node}
use Rattle.nir_ir.specs.Nodes.{Nodes, nodes_of}
use Rattle.nir_ir.specs.Items.{Item, BlockHead, PhiItem, InstrItem, JumpItem, IfHead, LoopHead, items, defines, blocks_of}
use Rattle.nir_ir.specs.Definitions.{kinds_of}
use Rattle.nir_ir.specs.Parts.{parts}
use Rattle.nir_print.specs.Naming.{Naming, naming_of, with_item, with_instr, with_value}

-- the numbers of the values, and of the blocks, that an item defines
abbrev values_of : Item → List ℕ
values_of item = map (λ id. id.0) (defines item)

abbrev block_numbers_of : Item → List ℕ
block_numbers_of item = map (λ id. id.0) (blocks_of item)

abbrev longer : Naming → List ℕ → List Kind → List ℕ → Naming
longer n values kinds blocks = record { values = n.values ++ values; kinds = n.kinds ++ kinds; blocks = n.blocks ++ blocks }

longer-nil : (n : Naming) → n ≡ longer n [] [] []
longer-nil n =
    ap (λ t. record { values = t; kinds = n.kinds; blocks = n.blocks }) (sym (append-nil n.values))
    ∙ ap (λ t. record { values = n.values ++ []; kinds = t; blocks = n.blocks }) (sym (append-nil n.kinds))
    ∙ ap (λ t. record { values = n.values ++ []; kinds = n.kinds ++ []; blocks = t }) (sym (append-nil n.blocks))

longer-value : (n : Naming) (v : ℕ) (kind : Kind) → record { values = n.values ++ v ∷ []; kinds = n.kinds ++ kind ∷ []; blocks = n.blocks } ≡ longer n (v ∷ []) (kind ∷ []) []
longer-value n v kind = ap (λ blocks. record { values = n.values ++ v ∷ []; kinds = n.kinds ++ kind ∷ []; blocks = blocks }) (sym (append-nil n.blocks))

defined-longer : (n : Naming) (found : Option (ValueId × Kind))
    → option_map_or (λ defined. with_value n defined.0 defined.1) found n
    ≡ longer n (map (λ id. id.0) (option_to_list (option_map (λ defined. defined.0) found))) (option_to_list (option_map (λ defined. defined.1) found)) []
defined-longer n None = longer-nil n
defined-longer n (Some defined) = longer-value n defined.0.0 defined.1

with_instr-longer : (n : Naming) (instr : Instr) → with_instr n instr ≡ longer n (values_of (InstrItem instr)) (kinds_of (InstrItem instr)) []
with_instr-longer n instr = defined-longer n (parts instr).defines

with_item-longer : (n : Naming) (item : Item) → with_item n item ≡ longer n (values_of item) (kinds_of item) (block_numbers_of item)
with_item-longer n (BlockHead id) =
    ap (λ values. record { values = values; kinds = n.kinds; blocks = n.blocks ++ id.0 ∷ [] }) (sym (append-nil n.values))
    ∙ ap (λ kinds. record { values = n.values ++ []; kinds = kinds; blocks = n.blocks ++ id.0 ∷ [] }) (sym (append-nil n.kinds))
with_item-longer n (PhiItem phi) = longer-value n phi.value.0 phi.kind
with_item-longer n (InstrItem instr) = with_instr-longer n instr
with_item-longer n (JumpItem jump) = longer-nil n
with_item-longer n (IfHead id cond) = longer-nil n
with_item-longer n (LoopHead id) = longer-nil n

longer-longer : (n : Naming) (v w : List ℕ) (k l : List Kind) (b c : List ℕ) → longer (longer n v k b) w l c ≡ longer n (v ++ w) (k ++ l) (b ++ c)
longer-longer n v w k l b c =
    ap (λ t. record { values = t; kinds = (n.kinds ++ k) ++ l; blocks = (n.blocks ++ b) ++ c }) (append_assoc n.values v w)
    ∙ ap (λ t. record { values = n.values ++ (v ++ w); kinds = t; blocks = (n.blocks ++ b) ++ c }) (append_assoc n.kinds k l)
    ∙ ap (λ t. record { values = n.values ++ (v ++ w); kinds = n.kinds ++ (k ++ l); blocks = t }) (append_assoc n.blocks b c)

fold-with_item : (n : Naming) (list : List Item) → fold with_item n list ≡ longer n (flat_map values_of list) (flat_map kinds_of list) (flat_map block_numbers_of list)
fold-with_item n [] = longer-nil n
fold-with_item n (item ∷ list) =
    ap (λ m. fold with_item m list) (with_item-longer n item)
    ∙ fold-with_item (longer n (values_of item) (kinds_of item) (block_numbers_of item)) list
    ∙ longer-longer n (values_of item) (flat_map values_of list) (kinds_of item) (flat_map kinds_of list) (block_numbers_of item) (flat_map block_numbers_of list)

pub fold-naming_of : (nodes : Nodes) → fold with_item (record { values = []; kinds = []; blocks = [] }) (items nodes) ≡ naming_of nodes
fold-naming_of nodes = fold-with_item (record { values = []; kinds = []; blocks = [] }) (items nodes)

-- what a walk through the body of a shader has found
pub found-naming_of : (found from : Naming) (walked body : List Node) → found ≡ fold with_item from (items (nodes_of walked)) → from ≡ record { values = []; kinds = []; blocks = [] } → walked ≡ body → found ≡ naming_of (nodes_of body)
found-naming_of found from walked body found_is from_is walked_is =
    found_is
    ∙ ap (λ n. fold with_item n (items (nodes_of walked))) from_is
    ∙ ap (λ l. fold with_item (record { values = []; kinds = []; blocks = [] }) (items (nodes_of l))) walked_is
    ∙ fold-naming_of (nodes_of body)
