-- An edit of a list of nodes, part by part: what a copy along the tree rests on.
use Rattle.std.proofs.Common.{◌≡◌, ℕ, ◌+◌, ◌<◌, ◌≤◌, List, [], ◌∷◌, ◌++◌, length, get_or, drop, sym, ◌∙◌, ap, refl}
use Rattle.std.proofs.lemmas.List.{drop_all}
use Rattle.nir_ir.specs.declared.ids.IfId.{IfId}
use Rattle.nir_ir.specs.declared.ids.LoopId.{LoopId}
use Rattle.nir_ir.specs.declared.ids.ValueId.{ValueId}
use Rattle.nir_ir.specs.declared.instr.Instr.{Instr}
use Rattle.nir_ir.specs.declared.node.Block as block
use Rattle.nir_ir.specs.declared.node.Node.{Node}
use Rattle.nir_ir.specs.declared.node.Node.TheVariants as node
use Rattle.nir_ir.specs.Edits.{replaced, replaced_in_block}
use Rattle.nir_ir.specs.Nodes.{Nodes, Nil, BlockThen, IfThen, LoopThen, then, then-Nil, then_assoc, nodes_of, nodes_of-append}
use Rattle.nir_ir.specs.Splits.{nodes_of-block, nodes_of-if, nodes_of-loop, nodes_of-drop}
use Rattle.nir_tree.specs.declared.copy.Edit.{Edit}
use Rattle.nir_tree.specs.declared.copy.Edit.TheVariants.{Keep, Place}
use Rattle.nir_tree.specs.Edited.{edited, edited_block}

replaced-then : (value : ValueId) (news : List Instr) (a b : Nodes) → replaced value news (then a b) ≡ then (replaced value news a) (replaced value news b)
replaced-then value news Nil b = refl
replaced-then value news (BlockThen x rest) b = ap (BlockThen (replaced_in_block value news x)) (replaced-then value news rest b)
replaced-then value news (IfThen id condition first second rest) b = ap (IfThen id condition (replaced value news first) (replaced value news second)) (replaced-then value news rest b)
replaced-then value news (LoopThen id body rest) b = ap (LoopThen id (replaced value news body)) (replaced-then value news rest b)

edited-then : (e : Edit) (a b : Nodes) → edited e (then a b) ≡ then (edited e a) (edited e b)
edited-then Keep a b = refl
edited-then (Place value news) a b = replaced-then value news.now a b

edited-BlockThen : (e : Edit) (b : block.Block) → edited e (BlockThen b Nil) ≡ BlockThen (edited_block e b) Nil
edited-BlockThen Keep b = refl
edited-BlockThen (Place value news) b = refl

edited-IfThen : (e : Edit) (id : IfId) (condition : ValueId) (first second : Nodes) → edited e (IfThen id condition first second Nil) ≡ IfThen id condition (edited e first) (edited e second) Nil
edited-IfThen Keep id condition first second = refl
edited-IfThen (Place value news) id condition first second = refl

edited-LoopThen : (e : Edit) (id : LoopId) (body : Nodes) → edited e (LoopThen id body Nil) ≡ LoopThen id (edited e body) Nil
edited-LoopThen Keep id body = refl
edited-LoopThen (Place value news) id body = refl

-- a copy of each kind of node
pub copied-block : (e : Edit) (b copy : block.Block) → copy ≡ edited_block e b → nodes_of (node.Block copy ∷ []) ≡ edited e (nodes_of (node.Block b ∷ []))
copied-block e b copy is =
    nodes_of-block copy
    ∙ ap (λ x. BlockThen x Nil) is
    ∙ sym (edited-BlockThen e b)
    ∙ ap (edited e) (sym (nodes_of-block b))

pub copied-if : (e : Edit) (id : IfId) (condition : ValueId) (first second first_copy second_copy : List Node)
    → nodes_of first_copy ≡ edited e (nodes_of first) → nodes_of second_copy ≡ edited e (nodes_of second)
    → nodes_of (node.If id condition first_copy second_copy ∷ []) ≡ edited e (nodes_of (node.If id condition first second ∷ []))
copied-if e id condition first second first_copy second_copy is_first is_second =
    nodes_of-if id condition first_copy second_copy
    ∙ ap (λ x. IfThen id condition x (nodes_of second_copy) Nil) is_first
    ∙ ap (λ x. IfThen id condition (edited e (nodes_of first)) x Nil) is_second
    ∙ sym (edited-IfThen e id condition (nodes_of first) (nodes_of second))
    ∙ ap (edited e) (sym (nodes_of-if id condition first second))

pub copied-loop : (e : Edit) (id : LoopId) (body copy : List Node) → nodes_of copy ≡ edited e (nodes_of body) → nodes_of (node.Loop id copy ∷ []) ≡ edited e (nodes_of (node.Loop id body ∷ []))
copied-loop e id body copy is =
    nodes_of-loop id copy
    ∙ ap (λ x. LoopThen id x Nil) is
    ∙ sym (edited-LoopThen e id (nodes_of body))
    ∙ ap (edited e) (sym (nodes_of-loop id body))

-- one more node
pub copied-more : (e : Edit) (list made : List Node) (i : ℕ) (n copy : Node) → i < length list → n ≡ get_or list i n → nodes_of (copy ∷ []) ≡ edited e (nodes_of (n ∷ []))
    → then (nodes_of made) (edited e (nodes_of (drop i list))) ≡ edited e (nodes_of list)
    → then (nodes_of (made ++ copy ∷ [])) (edited e (nodes_of (drop (i + 1) list))) ≡ edited e (nodes_of list)
copied-more e list made i n copy within at is so_far =
    ap (λ x. then x (edited e (nodes_of (drop (i + 1) list)))) (nodes_of-append made (copy ∷ []))
    ∙ then_assoc (nodes_of made) (nodes_of (copy ∷ [])) (edited e (nodes_of (drop (i + 1) list)))
    ∙ ap (λ x. then (nodes_of made) (then x (edited e (nodes_of (drop (i + 1) list))))) is
    ∙ ap (then (nodes_of made)) (sym (edited-then e (nodes_of (n ∷ [])) (nodes_of (drop (i + 1) list))))
    ∙ ap (λ x. then (nodes_of made) (edited e x)) (sym (nodes_of-drop list i n within at))
    ∙ so_far

-- all nodes
edited-Nil : (e : Edit) → edited e Nil ≡ Nil
edited-Nil Keep = refl
edited-Nil (Place value news) = refl

pub copied-all : (e : Edit) (list made : List Node) (i : ℕ) → length list ≤ i → then (nodes_of made) (edited e (nodes_of (drop i list))) ≡ edited e (nodes_of list) → nodes_of made ≡ edited e (nodes_of list)
copied-all e list made i past so_far =
    sym (ap (λ (rest : List Node). then (nodes_of made) (edited e (nodes_of rest))) (drop_all i list past)
    ∙ ap (then (nodes_of made)) (edited-Nil e)
    ∙ then-Nil (nodes_of made))
    ∙ so_far
