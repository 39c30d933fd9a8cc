-- An index while it is made, item by item.
use Rattle.std.proofs.Common.{◌≡◌, refl, ℕ, ◌+◌, ◌<◌, ◌≤◌, false, cond, List, [], ◌∷◌, ◌++◌, length, map, drop, set, get_or, sym, ◌∙◌, ap, subst, zero-add}
use Rattle.std.proofs.lemmas.Option.{get_or_from_slice_get, slice_get_within}
use Rattle.nir_ir.specs.EditsShaped.{is_target-of}
use Rattle.std.specs.Prelude.{Option, Some, None, Result, IfOk, slice_get, nat_eq, ◌||◌}
use Rattle.std.specs.List.{find, flat_map, list_any}
use Rattle.std.specs.Option.{option_map, option_or, option_to_list}
use Rattle.std.proofs.lemmas.Bool.{eq-eqb, ne_eqb}
use Rattle.std.proofs.lemmas.Grind.{flat_map-append}
use Rattle.std.proofs.lemmas.List.{drop_all, drop_more}
use Rattle.std.proofs.lemmas.List.Folds.{find-append}
use Rattle.list_laws.specs.OptionLaws.{option_or-assoc, option_or-none}
use Rattle.nir_ir.specs.declared.ids.IfId.{IfId}
use Rattle.nir_ir.specs.declared.ids.LoopId.{LoopId}
use Rattle.nir_ir.specs.declared.ids.ValueId.{ValueId}
use Rattle.nir_ir.specs.declared.instr.Instr.{Instr}
use Rattle.nir_ir.specs.declared.kind.Kind.{Kind}
use Rattle.nir_ir.specs.declared.node.Block as block
use Rattle.nir_ir.specs.declared.node.Jump.{Jump}
use Rattle.nir_ir.specs.declared.node.Node.{Node}
use Rattle.nir_ir.specs.declared.node.Node.TheVariants as node
use Rattle.nir_ir.specs.declared.node.Phi.{Phi}
use Rattle.nir_ir.specs.Definitions.{instr_of, is_phi_of, is_target, phi_of}
use Rattle.nir_ir.specs.Items.{Item, BlockHead, PhiItem, InstrItem, JumpItem, IfHead, block_items, items, target, uses}
use Rattle.nir_ir.specs.Nodes.{nodes_of}
use Rattle.nir_ir.specs.Splits.{items-block, items-drop, items-if, items-loop}
use Rattle.nir_index.specs.declared.index.Definer.{Definer}
use Rattle.nir_index.specs.declared.index.Index.{Index}
use Rattle.nir_index.specs.Index.{counted, known_or, noted, numbered, told}
use Rattle.nir_index.proofs.TallyLemmas.{counted-append, counted-nil}
use Rattle.nir_index.proofs.PlaceLemmas.{place-kept, place-one, place-past, place-same, place-twice}

-- ---- what defines values

abbrev definer : Option Instr → Option Kind → Definer
definer instr phi = record { instr = instr; phi = phi }

definer-same : (i j : Option Instr) (p q : Option Kind) → i ≡ j → p ≡ q → definer i p ≡ definer j q
definer-same i j p q e f = ap (λ x. definer x p) e ∙ ap (definer j) f

option_map-or : {A B : Type 0} (f : A → B) (a b : Option A) → option_map f (option_or a b) ≡ option_or (option_map f a) (option_map f b)
option_map-or f None b = refl
option_map-or f (Some x) b = refl

known-append : (first second : List Item) (value : ValueId) (known : Definer) → known_or (first ++ second) value known ≡ known_or second value (known_or first value known)
known-append first second value known =
    let kind : Phi → Kind = λ phi. phi.kind in
    definer-same
    (option_or known.instr (find (is_target value) (flat_map instr_of (first ++ second))))
    (option_or (option_or known.instr (find (is_target value) (flat_map instr_of first))) (find (is_target value) (flat_map instr_of second)))
    (option_or known.phi (option_map kind (find (is_phi_of value) (flat_map phi_of (first ++ second)))))
    (option_or (option_or known.phi (option_map kind (find (is_phi_of value) (flat_map phi_of first)))) (option_map kind (find (is_phi_of value) (flat_map phi_of second))))
    (ap (λ t. option_or known.instr (find (is_target value) t)) (flat_map-append instr_of first second)
    ∙ ap (option_or known.instr) (find-append (is_target value) (flat_map instr_of first) (flat_map instr_of second))
    ∙ sym (option_or-assoc known.instr (find (is_target value) (flat_map instr_of first)) (find (is_target value) (flat_map instr_of second))))
    (ap (λ t. option_or known.phi (option_map kind (find (is_phi_of value) t))) (flat_map-append phi_of first second)
    ∙ ap (λ t. option_or known.phi (option_map kind t)) (find-append (is_phi_of value) (flat_map phi_of first) (flat_map phi_of second))
    ∙ ap (option_or known.phi) (option_map-or kind (find (is_phi_of value) (flat_map phi_of first)) (find (is_phi_of value) (flat_map phi_of second)))
    ∙ sym (option_or-assoc known.phi (option_map kind (find (is_phi_of value) (flat_map phi_of first))) (option_map kind (find (is_phi_of value) (flat_map phi_of second)))))

abbrev known : List Item → ℕ → Definer → Definer
known list n was = known_or list (numbered n) was

pub told-append : (first second : List Item) (definers : List Definer) → told (first ++ second) definers ≡ told second (told first definers)
told-append first second definers =
    place-same (known (first ++ second)) (λ n was. known second n (known first n was)) (λ n was. known-append first second (numbered n) was) 0 definers
    ∙ sym (place-twice (known first) (known second) 0 definers)

-- items that define nothing
pub told-nothing : (list : List Item) → flat_map instr_of list ≡ [] → flat_map phi_of list ≡ [] → (definers : List Definer) → told list definers ≡ definers
told-nothing list no_instr no_phi definers = place-kept (known list) kept 0 definers where
  kept : (n : ℕ) (was : Definer) → known list n was ≡ was
  kept n was =
      definer-same
      (option_or was.instr (find (is_target (numbered n)) (flat_map instr_of list))) was.instr
      (option_or was.phi (option_map (λ phi. phi.kind) (find (is_phi_of (numbered n)) (flat_map phi_of list)))) was.phi
      (ap (λ t. option_or was.instr (find (is_target (numbered n)) t)) no_instr ∙ option_or-none was.instr)
      (ap (λ t. option_or was.phi (option_map (λ phi. phi.kind) (find (is_phi_of (numbered n)) t))) no_phi ∙ option_or-none was.phi)

-- an instruction, and a phi, that defines the value
instr_elsewhere : (instr : Instr) (value : ValueId) → target instr ≡ Some value → (n : ℕ) (was : Definer) → (n ≡ value.0 → ⊥) → known (InstrItem instr ∷ []) n was ≡ was
instr_elsewhere instr value aims n was differ =
    let other : is_target (numbered n) instr ≡ false =
    ap (λ found. list_any (λ (i : ValueId). nat_eq i.0 n) (option_to_list found)) aims ∙ ap (λ t. t || false) (ne_eqb value.0 n (λ same. differ (sym same))) in
    definer-same
    (option_or was.instr (cond (is_target (numbered n) instr) (Some instr) None)) was.instr (option_or was.phi None) was.phi
    (ap (λ here. option_or was.instr (cond here (Some instr) None)) other ∙ option_or-none was.instr)
    (option_or-none was.phi)

pub told-instr : (instr : Instr) (value : ValueId) → target instr ≡ Some value → (definers : List Definer) (was : Definer) → slice_get definers value.0 ≡ Some was
    → set definers value.0 (record { instr = option_or was.instr (Some instr); phi = was.phi }) ≡ told (InstrItem instr ∷ []) definers
told-instr instr value aims definers was there =
    ap (set definers value.0)
    (definer-same (option_or was.instr (Some instr)) (option_or was.instr (cond (is_target value instr) (Some instr) None)) was.phi (option_or was.phi None)
    (ap (λ here. option_or was.instr (cond here (Some instr) None)) (sym (is_target-of value instr aims))) (sym (option_or-none was.phi)))
    ∙ ap (λ d. set definers value.0 (known (InstrItem instr ∷ []) value.0 d)) (sym (get_or_from_slice_get definers value.0 was was there))
    ∙ sym (place-one (known (InstrItem instr ∷ [])) value.0 (instr_elsewhere instr value aims) 0 definers value.0 was (slice_get_within definers value.0 was there) (sym (zero-add value.0)))

pub told-instr_past : (instr : Instr) (value : ValueId) → target instr ≡ Some value → (definers : List Definer) → length definers ≤ value.0 → definers ≡ told (InstrItem instr ∷ []) definers
told-instr_past instr value aims definers past = sym (place-past (known (InstrItem instr ∷ [])) value.0 (instr_elsewhere instr value aims) 0 definers (subst (λ n. n ≤ value.0) (sym (zero-add (length definers))) past))

pub told-no_target : (instr : Instr) → target instr ≡ None → (definers : List Definer) → definers ≡ told (InstrItem instr ∷ []) definers
told-no_target instr none definers = sym (place-kept (known (InstrItem instr ∷ [])) kept 0 definers) where
  kept : (n : ℕ) (was : Definer) → known (InstrItem instr ∷ []) n was ≡ was
  kept n was =
      definer-same
      (option_or was.instr (cond (is_target (numbered n) instr) (Some instr) None)) was.instr (option_or was.phi None) was.phi
      (ap (λ found. option_or was.instr (cond (list_any (λ (i : ValueId). nat_eq i.0 n) (option_to_list found)) (Some instr) None)) none ∙ option_or-none was.instr)
      (option_or-none was.phi)

phi_elsewhere : (phi : Phi) (n : ℕ) (was : Definer) → (n ≡ phi.value.0 → ⊥) → known (PhiItem phi ∷ []) n was ≡ was
phi_elsewhere phi n was differ =
    definer-same
    (option_or was.instr None) was.instr (option_or was.phi (option_map (λ p. p.kind) (cond (nat_eq phi.value.0 n) (Some phi) None))) was.phi
    (option_or-none was.instr)
    (ap (λ here. option_or was.phi (option_map (λ p. p.kind) (cond here (Some phi) None))) (ne_eqb phi.value.0 n (λ same. differ (sym same))) ∙ option_or-none was.phi)

pub told-phi : (phi : Phi) (definers : List Definer) (was : Definer) → slice_get definers phi.value.0 ≡ Some was
    → set definers phi.value.0 (record { instr = was.instr; phi = option_or was.phi (Some phi.kind) }) ≡ told (PhiItem phi ∷ []) definers
told-phi phi definers was there =
    ap (set definers phi.value.0)
    (definer-same was.instr (option_or was.instr None) (option_or was.phi (Some phi.kind)) (option_or was.phi (option_map (λ p. p.kind) (cond (nat_eq phi.value.0 phi.value.0) (Some phi) None)))
    (sym (option_or-none was.instr)) (ap (λ here. option_or was.phi (option_map (λ p. p.kind) (cond here (Some phi) None))) (sym (eq-eqb phi.value.0 phi.value.0 refl))))
    ∙ ap (λ d. set definers phi.value.0 (known (PhiItem phi ∷ []) phi.value.0 d)) (sym (get_or_from_slice_get definers phi.value.0 was was there))
    ∙ sym (place-one (known (PhiItem phi ∷ [])) phi.value.0 (phi_elsewhere phi) 0 definers phi.value.0 was (slice_get_within definers phi.value.0 was there) (sym (zero-add phi.value.0)))

pub told-phi_past : (phi : Phi) (definers : List Definer) → length definers ≤ phi.value.0 → definers ≡ told (PhiItem phi ∷ []) definers
told-phi_past phi definers past = sym (place-past (known (PhiItem phi ∷ [])) phi.value.0 (phi_elsewhere phi) 0 definers (subst (λ n. n ≤ phi.value.0) (sym (zero-add (length definers))) past))

-- ---- both

abbrev index_with : List Definer → List ℕ → Index
index_with definers counts = record { definers = definers; counts = counts }

index-same : (d e : List Definer) (c b : List ℕ) → d ≡ e → c ≡ b → index_with d c ≡ index_with e b
index-same d e c b h g = ap (λ x. index_with x c) h ∙ ap (index_with e) g

pub noted-append : (first second : List Item) (index : Index) → noted (first ++ second) index ≡ noted second (noted first index)
noted-append first second index =
    index-same (told (first ++ second) index.definers) (told second (told first index.definers))
    (counted (flat_map uses (first ++ second)) index.counts) (counted (flat_map uses second) (counted (flat_map uses first) index.counts))
    (told-append first second index.definers)
    (ap (λ t. counted t index.counts) (flat_map-append uses first second) ∙ counted-append (flat_map uses first) (flat_map uses second) index.counts)

pub noted-nothing : (list : List Item) → flat_map instr_of list ≡ [] → flat_map phi_of list ≡ [] → flat_map uses list ≡ [] → (index : Index) → noted list index ≡ index
noted-nothing list no_instr no_phi no_use index =
    index-same (told list index.definers) index.definers (counted (flat_map uses list) index.counts) index.counts
    (told-nothing list no_instr no_phi index.definers)
    (ap (λ t. counted t index.counts) no_use ∙ counted-nil index.counts)

pub noted-nil : (index : Index) → noted [] index ≡ index
noted-nil index = noted-nothing [] refl refl refl index

-- the item of a place, and those behind it
pub noted-step : {A : Type 0} (part : A → Item) (list : List A) (i : ℕ) (a : A) (index : Index) → i < length list → a ≡ get_or list i a
    → noted (map part (drop (i + 1) list)) (noted (part a ∷ []) index) ≡ noted (map part (drop i list)) index
noted-step part list i a index within at =
    sym (ap (λ t. noted (map part t) index) (drop_more list i a within)
    ∙ ap (λ x. noted (part x ∷ map part (drop (i + 1) list)) index) (sym at)
    ∙ noted-append (part a ∷ []) (map part (drop (i + 1) list)) index)

pub noted-node_step : (list : List Node) (i : ℕ) (n : Node) (index : Index) → i < length list → n ≡ get_or list i n
    → noted (items (nodes_of (drop (i + 1) list))) (noted (items (nodes_of (n ∷ []))) index) ≡ noted (items (nodes_of (drop i list))) index
noted-node_step list i n index within at =
    sym (ap (λ t. noted t index) (items-drop list i n within at) ∙ noted-append (items (nodes_of (n ∷ []))) (items (nodes_of (drop (i + 1) list))) index)

noted-jumps : (jumps : List Jump) (index : Index) → noted (map JumpItem jumps) index ≡ index
noted-jumps [] index = noted-nil index
noted-jumps (jump ∷ jumps) index = noted-jumps jumps index

pub noted-block : (b : block.Block) (index : Index) → noted (map InstrItem b.instrs) (noted (map PhiItem b.phis) index) ≡ noted (block_items b) index
noted-block b index =
    sym (noted-append ((BlockHead b.id ∷ map PhiItem b.phis) ++ map InstrItem b.instrs) (map JumpItem (option_to_list b.jump)) index
    ∙ noted-jumps (option_to_list b.jump) (noted ((BlockHead b.id ∷ map PhiItem b.phis) ++ map InstrItem b.instrs) index)
    ∙ noted-append (BlockHead b.id ∷ map PhiItem b.phis) (map InstrItem b.instrs) index)

pub noted-block_node : (b : block.Block) (index : Index) → noted (items (nodes_of (node.Block b ∷ []))) index ≡ noted (block_items b) index
noted-block_node b index = ap (λ t. noted t index) (items-block b)

-- all items were noted
pub noted-end : {A : Type 0} (part : A → Item) (list : List A) (i : ℕ) (index : Index) → length list ≤ i → index ≡ noted (map part (drop i list)) index
noted-end part list i index past = sym (ap (λ t. noted (map part t) index) (drop_all i list past) ∙ noted-nil index)

pub noted-node_end : (list : List Node) (i : ℕ) (index : Index) → length list ≤ i → index ≡ noted (items (nodes_of (drop i list))) index
noted-node_end list i index past = sym (ap (λ t. noted (items (nodes_of t)) index) (drop_all i list past) ∙ noted-nil index)

-- a use alone defines nothing
pub noted-if_head : (id : IfId) (condition : ValueId) (index : Index) → noted (IfHead id condition ∷ []) index ≡ record { definers = index.definers; counts = counted (condition ∷ []) index.counts }
noted-if_head id condition index =
    index-same (told (IfHead id condition ∷ []) index.definers) index.definers (counted (condition ∷ []) index.counts) (counted (condition ∷ []) index.counts)
    (told-nothing (IfHead id condition ∷ []) refl refl index.definers) refl

pub noted-if : (id : IfId) (condition : ValueId) (first second : List Node) (index : Index)
    → noted (items (nodes_of second)) (noted (items (nodes_of first)) (record { definers = index.definers; counts = counted (condition ∷ []) index.counts }))
    ≡ noted (items (nodes_of (node.If id condition first second ∷ []))) index
noted-if id condition first second index =
    sym (ap (λ t. noted t index) (items-if id condition first second)
    ∙ noted-append (IfHead id condition ∷ items (nodes_of first)) (items (nodes_of second)) index
    ∙ ap (noted (items (nodes_of second))) (noted-append (IfHead id condition ∷ []) (items (nodes_of first)) index)
    ∙ ap (λ t. noted (items (nodes_of second)) (noted (items (nodes_of first)) t)) (noted-if_head id condition index))

pub noted-loop : (id : LoopId) (body : List Node) (index : Index) → noted (items (nodes_of (node.Loop id body ∷ []))) index ≡ noted (items (nodes_of body)) index
noted-loop id body index = ap (λ t. noted t index) (items-loop id body)

-- what a call ensures of its answer, and what that is
pub if_ok-same : {A E B : Type 0} (answer : Result A E) (x a b : B) → a ≡ b → IfOk answer (λ _. x ≡ a) → IfOk answer (λ _. x ≡ b)
if_ok-same answer x a b same h = subst (λ y. IfOk answer (λ _. x ≡ y)) same h
