-- What a valid shader's parts are: typed, and each of its rules kept.
use Rattle.std.specs.Prelude.{◌≡◌, ◌↔◌, refl, ℕ, suc, Bool, true, false, List, [], ◌∷◌, ◌++◌, map, Some, None}
use Rattle.std.specs.List.{AllByRecursion}
use Rattle.std.specs.Option.{option_or, option_to_list}
use Rattle.std.proofs.Common.{sym, ◌∙◌, ap}
use Rattle.std.proofs.lemmas.Option.{none-some}
use Rattle.list_laws.specs.AllLaws.{all_append, all_back, all_each, all_front}
use Rattle.nir_ir.specs.declared.instr.Instr.{Instr}
use Rattle.nir_ir.specs.declared.node.Phi.{Phi}
use Rattle.nir_ir.specs.declared.node.PhiSource.{PhiSource}
use Rattle.nir_ir.specs.Definitions.{kind_at}
use Rattle.nir_ir.specs.Items.{Item, BlockHead, PhiItem, InstrItem, JumpItem, IfHead, LoopHead, block_items, items}
use Rattle.nir_ir.specs.Nodes.{Nodes, Nil, BlockThen, IfThen, LoopThen}
use Rattle.nir_ir.specs.Shader.{Shader}
use Rattle.nir_validate.specs.Fitting.{each, fits_from_kept, has_kind-true}
use Rattle.nir_validate.specs.Least.{least-none}
use Rattle.nir_validate.specs.Rules.{Kinds, Spot, condition_fits, condition_kind, has_kind, is_declared, kinds_fit, may_stand, spots, swizzles_fit}
use Rattle.nir_validate.specs.Typed.{InstrFits, IsTyped, ItemFits, NodesFit, PhiFits}
use Rattle.nir_validate.specs.Valid.{Fault, Valid, at_each, first_invalid, first_round, least, second_round, spot_faults, unless}

-- lists that are joined to nothing
pub first_nil : {A : Type 0} (a b : List A) → a ++ b ≡ [] → a ≡ []
first_nil [] b h = refl
first_nil (x ∷ a) b h = absurd (cc)

pub second_nil : {A : Type 0} (a b : List A) → a ++ b ≡ [] → b ≡ []
second_nil [] b h = h
second_nil (x ∷ a) b h = absurd (cc)

-- a rule that told no fault is kept
pub told_nothing : (kept : Bool) (rule item : ℕ) → unless kept rule item ≡ [] → kept ≡ true
told_nothing true rule item h = refl
told_nothing false rule item h = absurd (cc)

-- an item of which no rule of the first round is told
pub record SpotKept (kinds : Kinds) (s : Shader) (spot : Spot) : Type 0 where
  pub kinds_fit : kinds_fit kinds spot.item ≡ true
  pub declared : is_declared kinds s spot.item ≡ true
  pub stands : may_stand spot ≡ true
  pub names : swizzles_fit kinds spot.item ≡ true
  pub condition : condition_fits kinds spot.item ≡ true

spot_kept : (kinds : Kinds) (s : Shader) (spot : Spot) (at : ℕ) → spot_faults kinds s spot at ≡ [] → SpotKept kinds s spot
spot_kept kinds s spot at h =
    let one : List Fault = unless (kinds_fit kinds spot.item) 1 at in
    let two : List Fault = unless (is_declared kinds s spot.item) 2 at in
    let four : List Fault = unless (may_stand spot) 4 at in
    let eight : List Fault = unless (swizzles_fit kinds spot.item) 8 at in
    let nine : List Fault = unless (condition_fits kinds spot.item) 9 at in
    let to_eight : one ++ two ++ four ++ eight ≡ [] = first_nil (one ++ two ++ four ++ eight) nine h in
    let to_four : one ++ two ++ four ≡ [] = first_nil (one ++ two ++ four) eight to_eight in
    let to_two : one ++ two ≡ [] = first_nil (one ++ two) four to_four in
    record {
      kinds_fit = told_nothing (kinds_fit kinds spot.item) 1 at (first_nil one two to_two);
      declared = told_nothing (is_declared kinds s spot.item) 2 at (second_nil one two to_two);
      stands = told_nothing (may_stand spot) 4 at (second_nil (one ++ two) four to_four);
      names = told_nothing (swizzles_fit kinds spot.item) 8 at (second_nil (one ++ two ++ four) eight to_eight);
      condition = told_nothing (condition_fits kinds spot.item) 9 at (second_nil (one ++ two ++ four ++ eight) nine h);
    }

pub all_kept : (kinds : Kinds) (s : Shader) (at : ℕ) (list : List Spot) → at_each (spot_faults kinds s) at list ≡ [] → AllByRecursion (SpotKept kinds s) list
all_kept kinds s at [] h = tt
all_kept kinds s at (spot ∷ list) h = (
  spot_kept kinds s spot at (first_nil (spot_faults kinds s spot at) (at_each (spot_faults kinds s) (suc at) list) h),
  all_kept kinds s (suc at) list (second_nil (spot_faults kinds s spot at) (at_each (spot_faults kinds s) (suc at) list) h),
)

-- an item that keeps its rules fits
item_fits : (s : Shader) (item : Item) (in_loop : Bool) → SpotKept (kind_at s.body) s (record { item = item; in_loop = in_loop }) → ItemFits s item
item_fits s (BlockHead id) in_loop kept = tt
item_fits s (PhiItem phi) in_loop kept =
    each (λ (source : PhiSource). has_kind (kind_at s.body) source.value phi.kind) (λ source. kind_at s.body source.value ≡ Some phi.kind)
    (λ source. has_kind-true (kind_at s.body) source.value phi.kind (kind_at s.body source.value) refl) phi.sources kept.kinds_fit
item_fits s (InstrItem instr) in_loop kept = fits_from_kept (kind_at s.body) s instr (record { kinds_fit = kept.kinds_fit; declared = kept.declared; names = kept.names })
item_fits s (JumpItem jump) in_loop kept = tt
item_fits s (IfHead id condition) in_loop kept = has_kind-true (kind_at s.body) condition condition_kind (kind_at s.body condition) refl kept.condition
item_fits s (LoopHead id) in_loop kept = tt

-- what holds of the spots of nodes holds of their items
abbrev pub On : (Item → Type 0) → Spot → Type 0
On P spot = P spot.item

-- items, in a loop or not
abbrev pub spots_of : Bool → List Item → List Spot
spots_of in_loop items = map (λ item. record { item = item; in_loop = in_loop }) items

pub spots_of-append : (in_loop : Bool) (a b : List Item) → spots_of in_loop (a ++ b) ≡ spots_of in_loop a ++ spots_of in_loop b
spots_of-append in_loop [] b = refl
spots_of-append in_loop (item ∷ a) b = ap (λ t. record { item = item; in_loop = in_loop } ∷ t) (spots_of-append in_loop a b)

unspotted : (P : Item → Type 0) (in_loop : Bool) (list : List Item) → AllByRecursion (On P) (spots_of in_loop list) → AllByRecursion P list
unspotted P in_loop [] all = tt
unspotted P in_loop (item ∷ list) all = (all.0, unspotted P in_loop list all.1)

on_items : (P : Item → Type 0) (in_loop : Bool) (nodes : Nodes) → AllByRecursion (On P) (spots in_loop nodes) → AllByRecursion P (items nodes)
on_items P in_loop Nil all = tt
on_items P in_loop (BlockThen b rest) all =
    all_append P (block_items b) (items rest)
    (unspotted P in_loop (block_items b) (all_front (On P) (spots_of in_loop (block_items b)) (spots in_loop rest) all))
    (on_items P in_loop rest (all_back (On P) (spots_of in_loop (block_items b)) (spots in_loop rest) all))
on_items P in_loop (IfThen id condition first second rest) all =
    let front = all_front (On P) (spots in_loop first ++ spots in_loop second) (spots in_loop rest) all.1 in (
      all.0,
      all_append P (items first ++ items second) (items rest)
          (all_append P (items first) (items second)
          (on_items P in_loop first (all_front (On P) (spots in_loop first) (spots in_loop second) front))
          (on_items P in_loop second (all_back (On P) (spots in_loop first) (spots in_loop second) front)))
          (on_items P in_loop rest (all_back (On P) (spots in_loop first ++ spots in_loop second) (spots in_loop rest) all.1)),
    )
on_items P in_loop (LoopThen id body rest) all = (
  all.0,
  all_append P (items body) (items rest)
      (on_items P true body (all_front (On P) (spots true body) (spots in_loop rest) all.1))
      (on_items P in_loop rest (all_back (On P) (spots true body) (spots in_loop rest) all.1)),
)

-- the parts of a valid shader fit one another
abbrev pub ValidIsTyped : Type 0
ValidIsTyped = (s : Shader) → Valid s → IsTyped s

pub typed-from_valid : ValidIsTyped
typed-from_valid s valid =
    let spotted : AllByRecursion (SpotKept (kind_at s.body) s) (spots false s.body) = all_kept (kind_at s.body) s 0 (spots false s.body) (second_nil _ _ valid.parts) in
    record { items = on_items (ItemFits s) false s.body (all_each (SpotKept (kind_at s.body) s) (On (ItemFits s)) (λ spot. item_fits s spot.item spot.in_loop) (spots false s.body) spotted) }

-- the same node by node
phis_fit : (s : Shader) (phis : List Phi) → AllByRecursion (ItemFits s) (map PhiItem phis) → AllByRecursion (PhiFits (kind_at s.body)) phis
phis_fit s [] all = tt
phis_fit s (phi ∷ phis) all = (all.0, phis_fit s phis all.1)

instrs_fit : (s : Shader) (instrs : List Instr) → AllByRecursion (ItemFits s) (map InstrItem instrs) → AllByRecursion (InstrFits s) instrs
instrs_fit s [] all = tt
instrs_fit s (instr ∷ instrs) all = (all.0, instrs_fit s instrs all.1)

pub nodes_fit : (s : Shader) (nodes : Nodes) → AllByRecursion (ItemFits s) (items nodes) → NodesFit s nodes
nodes_fit s Nil all = tt
nodes_fit s (BlockThen b rest) all =
    let own = (all_front (ItemFits s) (block_items b) (items rest) all).1 in
    let front = all_front (ItemFits s) (map PhiItem b.phis ++ map InstrItem b.instrs) (map JumpItem (option_to_list b.jump)) own in (
      (phis_fit s b.phis (all_front (ItemFits s) (map PhiItem b.phis) (map InstrItem b.instrs) front), instrs_fit s b.instrs (all_back (ItemFits s) (map PhiItem b.phis) (map InstrItem b.instrs) front)),
      nodes_fit s rest (all_back (ItemFits s) (block_items b) (items rest) all),
    )
nodes_fit s (IfThen id condition first second rest) all =
    let front = all_front (ItemFits s) (items first ++ items second) (items rest) all.1 in (
      all.0,
      nodes_fit s first (all_front (ItemFits s) (items first) (items second) front),
      nodes_fit s second (all_back (ItemFits s) (items first) (items second) front),
      nodes_fit s rest (all_back (ItemFits s) (items first ++ items second) (items rest) all.1),
    )
nodes_fit s (LoopThen id body rest) all =
    (nodes_fit s body (all_front (ItemFits s) (items body) (items rest) all.1), nodes_fit s rest (all_back (ItemFits s) (items body) (items rest) all.1))

pub nodes_fit-from_typed : (s : Shader) → IsTyped s → NodesFit s s.body
nodes_fit-from_typed s typed = nodes_fit s s.body typed.items

-- a shader is valid exactly where no rule is told
pub told_where_broken : (first second : List Fault) → option_or (least first) (least second) ≡ None → (first ≡ []) × (second ≡ [])
told_where_broken [] second h = (refl, least-none second h)
told_where_broken (fault ∷ first) second h = absurd (none-some _ (sym h))

abbrev pub ValidWhereNone : Type 0
ValidWhereNone = (s : Shader) → Valid s ↔ (first_invalid s ≡ None)

pub valid-where_none : ValidWhereNone
unfolding first_invalid
valid-where_none s = (
  (λ valid. ap (λ t. option_or (least t) (least (second_round s))) valid.parts ∙ ap least valid.paths),
  (λ h. let nothing = told_where_broken (first_round s) (second_round s) h in record { parts = nothing.0; paths = nothing.1 }),
)
