-- What a table shows where it is told of values: the steps of the loops, and that of values that differ each is shown as told.
use Rattle.std.proofs.Common.{◌≡◌, ◌<◌, ◌≤◌, ℕ, ◌+◌, List, [], ◌∷◌, ◌++◌, length, map, get_or, drop, refl, sym, ◌∙◌, ap, subst}
use Rattle.std.proofs.Math.ListN.{drop_of_length-le}
use Rattle.std.specs.List.{flat_map}
use Rattle.std.specs.Option.{option_to_list}
use Rattle.std.proofs.lemmas.Grind.{flat_map-append}
use Rattle.std.proofs.lemmas.List.{append-nil, drop_more}
use Rattle.op_eval.specs.declared.view.View.{View}
use Rattle.nir_ir.specs.declared.ids.IfId.{IfId}
use Rattle.nir_ir.specs.declared.ids.LoopId.{LoopId}
use Rattle.nir_ir.specs.declared.ids.ValueId.{ValueId}
use Rattle.nir_ir.specs.declared.instr.Instr.{Instr}
use Rattle.nir_ir.specs.declared.node.Block as block
use Rattle.nir_ir.specs.declared.node.Jump.{Jump}
use Rattle.nir_ir.specs.declared.node.Node.{Node}
use Rattle.nir_ir.specs.declared.node.Node.TheVariants as node
use Rattle.nir_ir.specs.declared.node.Phi.{Phi}
use Rattle.nir_ir.specs.Items.{Item, JumpItem, PhiItem, InstrItem, items}
use Rattle.nir_ir.specs.Nodes.{Nil, BlockThen, nodes_of}
use Rattle.nir_ir.specs.Splits.{flat_map-then, given-block, items-if, items-loop, nodes_of-block, nodes_of-drop}
use Rattle.nir_mean.specs.Declares.{Declared, FitIn, Shown, declared, declares, shown_of, told_of}

-- told of one list and then of another
pub told-append : (a b : List Declared) (before : Shown) → told_of (a ++ b) before ≡ told_of b (told_of a before)
told-append [] b before = refl
told-append (value ∷ a) b before = told-append a b _

pub fit-first : (limit : ℕ) (a b : List Declared) → FitIn limit (a ++ b) → FitIn limit a
fit-first limit [] b fit = tt
fit-first limit (value ∷ a) b fit = (fit.0, fit-first limit a b fit.1)

pub fit-second : (limit : ℕ) (a b : List Declared) → FitIn limit (a ++ b) → FitIn limit b
fit-second limit [] b fit = fit
fit-second limit (value ∷ a) b fit = fit-second limit a b fit.1

-- the list of a loop at a place: what is declared there, and behind it
pub declared-drop : {A : Type 0} (part : A → Item) (list : List A) (at : ℕ) (a : A) → at < length list → a ≡ get_or list at a
    → flat_map declares (map part (drop at list)) ≡ declares (part a) ++ flat_map declares (map part (drop (at + 1) list))
declared-drop part list at a within is =
    ap (λ l. flat_map declares (map part l)) (drop_more list at a within)
    ∙ ap (λ x. declares (part x) ++ flat_map declares (map part (drop (at + 1) list))) (sym is)

pub declared-nodes : (list : List Node) (at : ℕ) (n : Node) → at < length list → n ≡ get_or list at n
    → declared (nodes_of (drop at list)) ≡ declared (nodes_of (n ∷ [])) ++ declared (nodes_of (drop (at + 1) list))
declared-nodes list at n within is =
    ap declared (nodes_of-drop list at n within is) ∙ flat_map-then declares (nodes_of (n ∷ [])) (nodes_of (drop (at + 1) list))

no_jumps : (jumps : List Jump) → flat_map declares (map JumpItem jumps) ≡ []
no_jumps [] = refl
no_jumps (jump ∷ jumps) = no_jumps jumps

pub declared-block : (b : block.Block) → declared (BlockThen b Nil) ≡ flat_map declares (map PhiItem b.phis) ++ flat_map declares (map InstrItem b.instrs)
declared-block b =
    given-block declares b Nil
    ∙ append-nil (flat_map declares (map PhiItem b.phis) ++ flat_map declares (map InstrItem b.instrs) ++ flat_map declares (map JumpItem (option_to_list b.jump)))
    ∙ ap (λ t. flat_map declares (map PhiItem b.phis) ++ flat_map declares (map InstrItem b.instrs) ++ t) (no_jumps (option_to_list b.jump))
    ∙ append-nil (flat_map declares (map PhiItem b.phis) ++ flat_map declares (map InstrItem b.instrs))

pub declared-of_block : (n : Node) (b : block.Block) → n ≡ node.Block b → declared (nodes_of (n ∷ [])) ≡ declared (BlockThen b Nil)
declared-of_block n b is = ap (λ m. declared (nodes_of (m ∷ []))) is ∙ ap declared (nodes_of-block b)

pub declared-of_if : (n : Node) (id : IfId) (condition : ValueId) (first second : List Node) → n ≡ node.If id condition first second
    → declared (nodes_of (n ∷ [])) ≡ declared (nodes_of first) ++ declared (nodes_of second)
declared-of_if n id condition first second is =
    ap (λ m. declared (nodes_of (m ∷ []))) is
    ∙ ap (flat_map declares) (items-if id condition first second)
    ∙ flat_map-append declares (items (nodes_of first)) (items (nodes_of second))

pub declared-of_loop : (n : Node) (id : LoopId) (body : List Node) → n ≡ node.Loop id body → declared (nodes_of (n ∷ [])) ≡ declared (nodes_of body)
declared-of_loop n id body is = ap (λ m. declared (nodes_of (m ∷ []))) is ∙ ap (flat_map declares) (items-loop id body)

-- one step of a loop that tells a table
pub record IsTold (first : List View) (whole : List Declared) (now : List View) (rest : List Declared) : Type 0 where
  pub told : told_of rest (shown_of now) ≡ told_of whole (shown_of first)
  pub fit : FitIn (length now) rest
  pub len : length now ≡ length first

pub told_more : (first now next : List View) (whole left here rest : List Declared) → left ≡ here ++ rest → shown_of next ≡ told_of here (shown_of now) → length next ≡ length now
    → IsTold first whole now left → IsTold first whole next rest
told_more first now next whole left here rest split shown len is = record {
  told = ap (told_of rest) shown ∙ sym (told-append here rest (shown_of now)) ∙ sym (ap (λ list. told_of list (shown_of now)) split) ∙ is.told;
  fit = subst (λ (n : ℕ). FitIn n rest) (sym len) (fit-second (length now) here rest (subst (λ (list : List Declared). FitIn (length now) list) split is.fit));
  len = len ∙ is.len;
}

pub fit_here : (first now : List View) (whole left here rest : List Declared) → left ≡ here ++ rest → IsTold first whole now left → FitIn (length now) here
fit_here first now whole left here rest split is = fit-first (length now) here rest (subst (λ (list : List Declared). FitIn (length now) list) split is.fit)

pub told_end : (first now : List View) (whole left : List Declared) → left ≡ [] → IsTold first whole now left → shown_of now ≡ told_of whole (shown_of first)
told_end first now whole left none is = sym (ap (λ list. told_of list (shown_of now)) none) ∙ is.told

pub declared-past : {A : Type 0} (part : A → Item) (list : List A) (at : ℕ) → length list ≤ at → flat_map declares (map part (drop at list)) ≡ []
declared-past part list at past = ap (λ l. flat_map declares (map part l)) (drop_of_length-le list past)

pub nodes-past : (list : List Node) (at : ℕ) → length list ≤ at → declared (nodes_of (drop at list)) ≡ []
nodes-past list at past = ap (λ l. declared (nodes_of l)) (drop_of_length-le list past)

-- the parts of a block
pub block_fit_phis : (limit : ℕ) (b : block.Block) (phis : List Phi) → phis ≡ b.phis → FitIn limit (declared (BlockThen b Nil)) → FitIn limit (flat_map declares (map PhiItem phis))
block_fit_phis limit b phis is fit =
    subst (λ (list : List Phi). FitIn limit (flat_map declares (map PhiItem list))) (sym is)
    (fit-first limit (flat_map declares (map PhiItem b.phis)) (flat_map declares (map InstrItem b.instrs)) (subst (λ (list : List Declared). FitIn limit list) (declared-block b) fit))

pub block_fit_instrs : (limit more : ℕ) (b : block.Block) (instrs : List Instr) → more ≡ limit → instrs ≡ b.instrs → FitIn limit (declared (BlockThen b Nil)) → FitIn more (flat_map declares (map InstrItem instrs))
block_fit_instrs limit more b instrs same is fit =
    subst (λ (n : ℕ). FitIn n (flat_map declares (map InstrItem instrs))) (sym same)
    (subst (λ (list : List Instr). FitIn limit (flat_map declares (map InstrItem list))) (sym is)
    (fit-second limit (flat_map declares (map PhiItem b.phis)) (flat_map declares (map InstrItem b.instrs)) (subst (λ (list : List Declared). FitIn limit list) (declared-block b) fit)))

pub block_told : (first mid last : List View) (b : block.Block) (phis : List Phi) (instrs : List Instr) → phis ≡ b.phis → instrs ≡ b.instrs
    → shown_of mid ≡ told_of (flat_map declares (map PhiItem phis)) (shown_of first) → shown_of last ≡ told_of (flat_map declares (map InstrItem instrs)) (shown_of mid)
    → shown_of last ≡ told_of (declared (BlockThen b Nil)) (shown_of first)
block_told first mid last b phis instrs same_phis same_instrs one two =
    two
    ∙ ap (told_of (flat_map declares (map InstrItem instrs))) one
    ∙ ap (λ list. told_of (flat_map declares (map InstrItem list)) (told_of (flat_map declares (map PhiItem phis)) (shown_of first))) same_instrs
    ∙ ap (λ list. told_of (flat_map declares (map InstrItem b.instrs)) (told_of (flat_map declares (map PhiItem list)) (shown_of first))) same_phis
    ∙ sym (told-append (flat_map declares (map PhiItem b.phis)) (flat_map declares (map InstrItem b.instrs)) (shown_of first))
    ∙ sym (ap (λ list. told_of list (shown_of first)) (declared-block b))

-- the parts of a node
pub fit_as : (limit : ℕ) (list other : List Declared) → list ≡ other → FitIn limit list → FitIn limit other
fit_as limit list other same fit = subst (λ (l : List Declared). FitIn limit l) same fit

pub if_told : (first mid last : List View) (whole : List Declared) (a b x y : List Node) → a ≡ x → b ≡ y → whole ≡ declared (nodes_of x) ++ declared (nodes_of y)
    → shown_of mid ≡ told_of (declared (nodes_of a)) (shown_of first) → shown_of last ≡ told_of (declared (nodes_of b)) (shown_of mid) → shown_of last ≡ told_of whole (shown_of first)
if_told first mid last whole a b x y same_first same_second is one two =
    two
    ∙ ap (told_of (declared (nodes_of b))) one
    ∙ ap (λ list. told_of (declared (nodes_of list)) (told_of (declared (nodes_of a)) (shown_of first))) same_second
    ∙ ap (λ list. told_of (declared (nodes_of y)) (told_of (declared (nodes_of list)) (shown_of first))) same_first
    ∙ sym (told-append (declared (nodes_of x)) (declared (nodes_of y)) (shown_of first))
    ∙ sym (ap (λ list. told_of list (shown_of first)) is)
