-- Parts of a text that are written one after another, and the text of a list of nodes by its first node and the rest.
use Rattle.std.proofs.Common.{◌≡◌, ℕ, ◌+◌, ◌<◌, List, [], ◌∷◌, ◌++◌, length, get_or, drop, map, codes, ap, sym, ◌∙◌, refl, append_assoc, OnOk, Ok, Err}
use Rattle.std.specs.declared.result.Result.{Result}
use Rattle.std.proofs.lemmas.List.{append-nil, drop_more}
use Rattle.std.specs.List.{flat_map}
use Rattle.nir_ir.specs.declared.ids.IfId.{IfId}
use Rattle.nir_ir.specs.declared.ids.LoopId.{LoopId}
use Rattle.nir_ir.specs.declared.ids.ValueId.{ValueId}
use Rattle.nir_ir.specs.declared.node.Block as block
use Rattle.nir_ir.specs.declared.node.Node.{Node}
use Rattle.nir_ir.specs.declared.node.Node.TheVariants as node
use Rattle.nir_ir.specs.Nodes.{Nodes, Nil, BlockThen, IfThen, LoopThen, then, nodes_of}
use Rattle.nir_ir.specs.Splits.{nodes_of-block, nodes_of-if, nodes_of-loop, nodes_of-drop}
use Rattle.nir_print.specs.Naming.{Naming}
use Rattle.nir_print.specs.Text.{deeper, block_text, if_text, loop_text, nodes_text}

-- what a call ensures of its success, told of another text
pub on_ok : {T E : Type 0} (r : Result T E) (P Q : Type 0) → (P → Q) → OnOk r P → OnOk r Q
on_ok (Ok x) P Q f h = f h
on_ok (Err e) P Q f h = tt

-- three and five parts, each behind what was written before
pub three_pushed : (o o1 o2 o3 a b c : List ℕ) → o1 ≡ o ++ a → o2 ≡ o1 ++ b → o3 ≡ o2 ++ c → o3 ≡ o ++ (a ++ b ++ c)
three_pushed o o1 o2 o3 a b c p q r = r ∙ ap (λ t. t ++ c) (q ∙ ap (λ t. t ++ b) p) ∙ simp append_assoc

pub five_pushed : (o o1 o2 o3 o4 o5 a b c d e : List ℕ) → o1 ≡ o ++ a → o2 ≡ o1 ++ b → o3 ≡ o2 ++ c → o4 ≡ o3 ++ d → o5 ≡ o4 ++ e → o5 ≡ o ++ (a ++ b ++ c ++ d ++ e)
five_pushed o o1 o2 o3 o4 o5 a b c d e p q r s t =
    t ∙ ap (λ x. x ++ e) (s ∙ ap (λ x. x ++ d) (r ∙ ap (λ x. x ++ c) (q ∙ ap (λ x. x ++ b) p))) ∙ simp append_assoc

-- a loop's step: the next part of a list is written behind its comma
pub listed_pushed : {X : Type 0} (text : X → List ℕ) (o o1 o2 whole : List ℕ) (rest : List X) (i : ℕ) (d : X) → i < length rest
    → o1 ≡ o ++ codes ", " → o2 ≡ o1 ++ text (get_or rest i d)
    → o ++ flat_map (λ next. codes ", " ++ next) (map text (drop i rest)) ≡ whole
    → o2 ++ flat_map (λ next. codes ", " ++ next) (map text (drop (i + 1) rest)) ≡ whole
listed_pushed {X} text o o1 o2 whole rest i d within comma part so_far =
    let left : List X → List ℕ = λ list. flat_map (λ next. codes ", " ++ next) (map text list) in
    ap (λ t. t ++ left (drop (i + 1) rest)) (part ∙ ap (λ t. t ++ text (get_or rest i d)) comma)
    ∙ ap (λ t. t ++ left (drop (i + 1) rest)) (append_assoc o (codes ", ") (text (get_or rest i d)))
    ∙ append_assoc o (codes ", " ++ text (get_or rest i d)) (left (drop (i + 1) rest))
    ∙ ap (λ list. o ++ left list) (sym (drop_more rest i d within))
    ∙ so_far

pub nodes_text-block : (naming : Naming) (indent : List ℕ) (n : Node) (b : block.Block) → n ≡ node.Block b → block_text naming indent b ≡ nodes_text naming indent (nodes_of (n ∷ []))
nodes_text-block naming indent n b is =
    sym (ap (λ m. nodes_text naming indent (nodes_of (m ∷ []))) is ∙ ap (nodes_text naming indent) (nodes_of-block b) ∙ append-nil (block_text naming indent b))

pub nodes_text-if : (naming : Naming) (indent : List ℕ) (n : Node) (id : IfId) (cond : ValueId) (first second : List Node) → n ≡ node.If id cond first second
    → if_text naming indent cond (nodes_text naming (deeper indent) (nodes_of first)) (nodes_text naming (deeper indent) (nodes_of second)) ≡ nodes_text naming indent (nodes_of (n ∷ []))
nodes_text-if naming indent n id cond first second is =
    sym (ap (λ m. nodes_text naming indent (nodes_of (m ∷ []))) is
    ∙ ap (nodes_text naming indent) (nodes_of-if id cond first second)
    ∙ append-nil (if_text naming indent cond (nodes_text naming (deeper indent) (nodes_of first)) (nodes_text naming (deeper indent) (nodes_of second))))

pub nodes_text-loop : (naming : Naming) (indent : List ℕ) (n : Node) (id : LoopId) (body : List Node) → n ≡ node.Loop id body
    → loop_text indent (nodes_text naming (deeper indent) (nodes_of body)) ≡ nodes_text naming indent (nodes_of (n ∷ []))
nodes_text-loop naming indent n id body is =
    sym (ap (λ m. nodes_text naming indent (nodes_of (m ∷ []))) is
    ∙ ap (nodes_text naming indent) (nodes_of-loop id body)
    ∙ append-nil (loop_text indent (nodes_text naming (deeper indent) (nodes_of body))))

pub nodes_text-then : (naming : Naming) (indent : List ℕ) (a b : Nodes) → nodes_text naming indent (then a b) ≡ nodes_text naming indent a ++ nodes_text naming indent b
nodes_text-then naming indent Nil b = refl
nodes_text-then naming indent (BlockThen x rest) b =
    ap (λ t. block_text naming indent x ++ t) (nodes_text-then naming indent rest b)
    ∙ sym (append_assoc (block_text naming indent x) (nodes_text naming indent rest) (nodes_text naming indent b))
nodes_text-then naming indent (IfThen id cond first second rest) b =
    let head : List ℕ = if_text naming indent cond (nodes_text naming (deeper indent) first) (nodes_text naming (deeper indent) second) in
    ap (λ t. head ++ t) (nodes_text-then naming indent rest b)
    ∙ sym (append_assoc head (nodes_text naming indent rest) (nodes_text naming indent b))
nodes_text-then naming indent (LoopThen id body rest) b =
    let head : List ℕ = loop_text indent (nodes_text naming (deeper indent) body) in
    ap (λ t. head ++ t) (nodes_text-then naming indent rest b)
    ∙ sym (append_assoc head (nodes_text naming indent rest) (nodes_text naming indent b))

-- a loop's step: the node at a place is written, and those behind it are left
pub node_pushed : (naming : Naming) (indent : List ℕ) (out next : List ℕ) (list : List Node) (i : ℕ) (n : Node) → i < length list → n ≡ get_or list i n
    → next ≡ out ++ nodes_text naming indent (nodes_of (n ∷ []))
    → next ++ nodes_text naming indent (nodes_of (drop (i + 1) list)) ≡ out ++ nodes_text naming indent (nodes_of (drop i list))
node_pushed naming indent out next list i n within at pushed =
    ap (λ t. t ++ nodes_text naming indent (nodes_of (drop (i + 1) list))) pushed
    ∙ append_assoc out (nodes_text naming indent (nodes_of (n ∷ []))) (nodes_text naming indent (nodes_of (drop (i + 1) list)))
    ∙ ap (λ t. out ++ t)
    (sym (ap (nodes_text naming indent) (nodes_of-drop list i n within at) ∙ nodes_text-then naming indent (nodes_of (n ∷ [])) (nodes_of (drop (i + 1) list))))
