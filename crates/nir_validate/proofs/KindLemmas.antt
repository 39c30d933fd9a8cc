-- A table of kinds, filled node by node.
use Rattle.std.proofs.Common.{◌≡◌, ℕ, ◌+◌, ◌<◌, List, [], ◌∷◌, ◌++◌, map, length, get_or, drop, ◌∙◌, ap, refl, Option}
use Rattle.std.specs.Option.{option_to_list}
use Rattle.nir_ir.specs.declared.ids.IfId.{IfId}
use Rattle.nir_ir.specs.declared.ids.LoopId.{LoopId}
use Rattle.nir_ir.specs.declared.ids.ValueId.{ValueId}
use Rattle.nir_ir.specs.declared.kind.Kind.{Kind}
use Rattle.nir_ir.specs.declared.node.Block as block
use Rattle.nir_ir.specs.declared.node.Jump.{Jump}
use Rattle.nir_ir.specs.declared.node.Node.{Node}
use Rattle.nir_ir.specs.declared.node.Node.TheVariants as node
use Rattle.nir_ir.specs.Items.{Item, PhiItem, InstrItem, JumpItem, items}
use Rattle.nir_ir.specs.Nodes.{nodes_of}
use Rattle.nir_ir.specs.Splits.{items-block, items-if, items-loop, items-drop}
use Rattle.nir_validate.specs.KindTable.{told, told_all, told_in}

pub told-append : (a b : List Item) (table : List (Option Kind)) → told_all (a ++ b) table ≡ told_all b (told_all a table)
told-append [] b table = refl
told-append (item ∷ a) b table = told-append a b (told item table)

no_jump_told : (jumps : List Jump) (table : List (Option Kind)) → told_all (map JumpItem jumps) table ≡ table
no_jump_told [] table = refl
no_jump_told (jump ∷ jumps) table = no_jump_told jumps table

pub told-block : (b : block.Block) (table : List (Option Kind)) → told_in (nodes_of (node.Block b ∷ [])) table ≡ told_all (map InstrItem b.instrs) (told_all (map PhiItem b.phis) table)
told-block b table =
    ap (λ t. told_all t table) (items-block b)
    ∙ told-append (map PhiItem b.phis ++ map InstrItem b.instrs) (map JumpItem (option_to_list b.jump)) table
    ∙ no_jump_told (option_to_list b.jump) (told_all (map PhiItem b.phis ++ map InstrItem b.instrs) table)
    ∙ told-append (map PhiItem b.phis) (map InstrItem b.instrs) table

pub told-if : (id : IfId) (cond : ValueId) (yes_list no_list : List Node) (table : List (Option Kind)) → told_in (nodes_of (node.If id cond yes_list no_list ∷ [])) table ≡ told_in (nodes_of no_list) (told_in (nodes_of yes_list) table)
told-if id cond yes_list no_list table =
    ap (λ t. told_all t table) (items-if id cond yes_list no_list)
    ∙ told-append (items (nodes_of yes_list)) (items (nodes_of no_list)) table

pub told-loop : (id : LoopId) (body : List Node) (table : List (Option Kind)) → told_in (nodes_of (node.Loop id body ∷ [])) table ≡ told_in (nodes_of body) table
told-loop id body table = ap (λ t. told_all t table) (items-loop id body)

pub told-drop : (list : List Node) (i : ℕ) (n : Node) (table : List (Option Kind)) → i < length list → n ≡ get_or list i n → told_in (nodes_of (drop i list)) table ≡ told_in (nodes_of (drop (i + 1) list)) (told_in (nodes_of (n ∷ [])) table)
told-drop list i n table within at =
    ap (λ t. told_all t table) (items-drop list i n within at)
    ∙ told-append (items (nodes_of (n ∷ []))) (items (nodes_of (drop (i + 1) list))) table

pub ruleset told_steps = (told-block, told-if, told-loop, told-drop)
