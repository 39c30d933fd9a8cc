-- The views that a match meets: each is of a value in the set, has as many components as the value at which the rule matches, and names components that its value has.
use Rattle.std.specs.Prelude.{◌≡◌, refl, ◌<◌, ◌^◌, ◌==◌, ℕ, suc, Bool, true, false, Option, Some, None, List, [], ◌∷◌, map, length, nat_eq, slice_get, slice_index, drop}
use Rattle.std.proofs.Common.{sym, ◌∙◌, ap, ap₂, subst, arith, ⊎_elim}
use Rattle.std.proofs.lemmas.Bool.{and_parts, false≢true, or_cases, eqb-true}
use Rattle.std.proofs.lemmas.List.{get_or-map, length-map}
use Rattle.std.proofs.lemmas.List.FromFn.{get_or-map-range_with_len, length-map-range_with_len}
use Rattle.std.proofs.lemmas.Option.{none-some, same_Some}
use Rattle.std.specs.List.{AllByRecursion, list_all}
use Rattle.std.specs.Option.{option_and_then, option_map, option_map_or, option_or}
use denote.Enum.Bare.{same_true}
use Rattle.nir_ops.specs.contracts.op.Op as opcode
use Rattle.nir_ops.specs.declared.op.Op.{Op}
use Rattle.nir_ops.specs.declared.row.OpInput.{OpInput}
use Rattle.nir_ops.specs.declared.width.Width.TheVariants.{W1}
use Rattle.nir_ops.specs.Opcodes.{op_info}
use Rattle.nir_ops.specs.Width.{width_bits}
use Rattle.op_eval.specs.declared.shape.Shape.TheVariants.{EachPlace}
use Rattle.op_eval.specs.Calls.{Fits, per_component, sizes_fit, unsized_width}
use Rattle.op_eval.specs.Sizes.{sizes_fit-from_Fits}
use Rattle.nir_ops.specs.declared.width.Width.{Width}
use Rattle.op_eval.specs.Meaning.{op_mean}
use Rattle.op_eval.specs.Views.{CountsFit, column, count_at, shape_mean, shape_of, view_mean}
use Rattle.nir_ir.specs.declared.ids.ValueId.{ValueId}
use Rattle.nir_ir.specs.declared.kind.Kind.{Kind}
use Rattle.nir_ir.specs.declared.instr.Instr.{Instr}
use Rattle.nir_ir.specs.declared.instr.Instr.TheVariants.{Alu, Const, Undef, Input, Output, LoadBuf, StoreBuf}
use Rattle.nir_ir.specs.declared.instr.Src.{Src}
use Rattle.nir_ir.specs.Definitions.{Kinds, alu_at, alu_of, const_at, const_of, instr_defining, instrs, is_target, kind_at, kind_of_target, phi_defining, width_at}
use Rattle.nir_ir.specs.Found.{found_shaped}
use Rattle.nir_ir.specs.Nodes.{Nodes}
use Rattle.nir_ir.specs.Shaped.{IsShaped}
use Rattle.nir_ir.specs.Shader.{Shader}
use Rattle.rule_term.specs.Formed.{may_stand}
use Rattle.rule_term.specs.Standing.{per_component-from_may_stand, shape-from_may_stand}
use Rattle.nir_search.specs.declared.hit.Bind.{Bind}
use Rattle.rule_term.specs.Variants.{is_commutative}
use Rattle.nir_search.specs.Match.{child, children, children_of, has_op, swapped, viewed_const}
use Rattle.nir_mean.specs.Known.{IsKnown}
use Rattle.nir_validate.specs.Edges.{Set}
use Rattle.nir_mean.specs.Points.{Closed}
use Rattle.nir_mean.specs.Values.{Values, alu_mean, read, source_sizes}
use Rattle.rule_meaning.specs.Env.{at_place}
use Rattle.rule_meaning.specs.Fit.{IsFit, IsInside, component_count}
use Rattle.list_laws.specs.AllLaws.{all_at, all_each, all_map}
use Rattle.list_laws.specs.OptionLaws.{found_passes}
use Rattle.rule_meaning.specs.Parts.{all_both, passes_at}
use Rattle.rule_term.specs.SwapLaws.{op_mean_swapped, same_sizes}

pub record IsView (body : Nodes) (set : Set) (count : ℕ) (view : Bind) : Type 0 where
  pub inside : set view.value.0 ≡ true
  pub places : length view.comps ≡ count
  pub comps : AllByRecursion (λ c. c < component_count body view.value) view.comps

-- the instruction with an opcode that writes a value
pub record IsAlu (body : Nodes) (value : ValueId) (op : Op) : Type 0 where
  pub kind : Kind
  pub srcs : List Src
  pub found : instr_defining value body ≡ Some (Alu value op kind srcs)

same_value : (id value : ValueId) (kind : Kind) (op : Op) (srcs : List Src) → is_target value (Alu id op kind srcs) ≡ true → id ≡ value
same_value id value kind op srcs h =
    let same : id.0 ≡ value.0 = eqb-true id.0 value.0 (⊎_elim (λ e. e) (λ e. absurd (false≢true e)) (or_cases (nat_eq id.0 value.0) false h)) in
    ap {B = ValueId} (λ n. record { 0 = n }) same

alu_where : (body : Nodes) (value : ValueId) (op : Op) (found : Option Instr) → instr_defining value body ≡ found → has_op op (option_and_then alu_of found) ≡ true → IsAlu body value op
alu_where body value op None is h = absurd (false≢true h)
alu_where body value op (Some (Alu id other kind srcs)) is h =
    let one : id ≡ value = same_value id value kind other srcs (found_passes (is_target value) (instrs body) (Alu id other kind srcs) is) in
    let same : other ≡ op = same_true opcode.the_type tt other op h in
    record { kind = kind; srcs = srcs; found = is ∙ ap (λ v. Some (Alu v other kind srcs)) one ∙ ap (λ o. Some (Alu value o kind srcs)) same }
alu_where body value op (Some (Const id kind list)) is h = absurd (false≢true h)
alu_where body value op (Some (Undef id kind)) is h = absurd (false≢true h)
alu_where body value op (Some (Input id kind slot)) is h = absurd (false≢true h)
alu_where body value op (Some (Output effect slot src)) is h = absurd (false≢true h)
alu_where body value op (Some (LoadBuf id kind buffer offset)) is h = absurd (false≢true h)
alu_where body value op (Some (StoreBuf effect buffer offset src)) is h = absurd (false≢true h)

pub alu_found : (body : Nodes) (value : ValueId) (op : Op) → has_op op (alu_at body value) ≡ true → IsAlu body value op
alu_found body value op h = alu_where body value op (instr_defining value body) refl h

-- its kind, its bit size and its sources
pub alu_kind : (body : Nodes) (value : ValueId) (op : Op) (alu : IsAlu body value op) → kind_at body value ≡ Some alu.kind
alu_kind body value op alu = ap (λ o. option_or (option_and_then kind_of_target o) (option_map (λ phi. phi.kind) (phi_defining value body))) alu.found

pub alu_sources : (body : Nodes) (op : Op) (flag : Bool) (view : Bind) (alu : IsAlu body view.value op) → children body flag view ≡ map (child view.comps) (swapped flag alu.srcs)
alu_sources body op flag view alu = ap (λ o. children_of (option_and_then alu_of o) flag view.comps) alu.found

-- sources that change places are the same sources
pub all_swapped : (P : Src → Type 0) (flag : Bool) (srcs : List Src) → AllByRecursion P srcs → AllByRecursion P (swapped flag srcs)
all_swapped P true [] all = all
all_swapped P true (a ∷ []) all = all
all_swapped P true (a ∷ b ∷ rest) all = (all.1.0, (all.0, all.1.1))
all_swapped P false srcs all = all

pub length-swapped : (flag : Bool) (srcs : List Src) → length (swapped flag srcs) ≡ length srcs
length-swapped true [] = refl
length-swapped true (a ∷ []) = refl
length-swapped true (a ∷ b ∷ rest) = refl
length-swapped false srcs = refl

pub swapped_mean : (op : Op) (w d : ℕ) (f : Src → ℕ) (flag : Bool) (srcs : List Src) → (flag ≡ true → is_commutative op ≡ true) → op_mean op w d (map f (swapped flag srcs)) ≡ op_mean op w d (map f srcs)
swapped_mean op w d f true [] h = refl
swapped_mean op w d f true (a ∷ []) h = refl
swapped_mean op w d f true (a ∷ b ∷ rest) h = op_mean_swapped op w d (f a) (f b) (map f rest) (h refl)
swapped_mean op w d f false srcs h = refl

-- what is read at each source of an instruction in the set is in the set
pub all_read : (P : ValueId → Type 0) (srcs : List Src) → ((source : ValueId) (at : ℕ) → slice_get (map (λ src. src.value) srcs) at ≡ Some source → P source) → AllByRecursion (λ src. P src.value) srcs
all_read P [] h = tt
all_read P (src ∷ srcs) h = (h src.value 0 refl, all_read P srcs (λ source at. h source (suc at)))

-- each source has as many components as there are places
each_counts : (inputs : List OpInput) (srcs : List Src) (count : ℕ) → list_all (λ input. input.count == 0) inputs ≡ true → map (λ input. count_at input.count count) inputs ≡ map (λ src. length src.swizzle) srcs → AllByRecursion (λ src. length src.swizzle ≡ count) srcs
each_counts inputs [] count each are = tt
each_counts [] (src ∷ srcs) count each are = absurd (omega (arith, ap length are))
each_counts (input ∷ inputs) (src ∷ srcs) count each are =
    let parts = and_parts (input.count == 0) (list_all (λ i. i.count == 0) inputs) each in
    let own : count_at input.count count ≡ count = ap (λ n. count_at n count) (eqb-true input.count 0 parts.0) in
    (sym (ap (λ l. slice_index l 0) are) ∙ own, each_counts inputs srcs count parts.1 (ap (drop 1) are))

-- at a place of a source's view stands the component that the instruction reads there
pub at_child : (values : Values) (place : ℕ) (comps : List ℕ) (src : Src) → place < length comps → slice_index comps place < length src.swizzle
    → at_place values place (child comps src) ≡ slice_index (read values src) (slice_index comps place)
at_child values place comps src within there =
    ap (slice_index (values src.value.0)) (get_or-map (λ c. slice_index src.swizzle c) comps place 0 0 within)
    ∙ sym (get_or-map (λ c. slice_index (values src.value.0) c) src.swizzle (slice_index comps place) 0 0 there)

at_children : (values : Values) (place : ℕ) (comps : List ℕ) (srcs : List Src) → place < length comps → AllByRecursion (λ src. slice_index comps place < length src.swizzle) srcs
    → map (λ src. at_place values place (child comps src)) srcs ≡ column (slice_index comps place) (map (read values) srcs)
at_children values place comps [] within there = refl
at_children values place comps (src ∷ srcs) within there =
    ap (λ n. n ∷ map (λ s. at_place values place (child comps s)) srcs) (at_child values place comps src within there.0)
    ∙ ap (λ t. slice_index (read values src) (slice_index comps place) ∷ t) (at_children values place comps srcs within there.1)

map_of_map : {A B : Type 0} (f : A → B) (g : B → ℕ) (list : List A) → map g (map f list) ≡ map (λ a. g (f a)) list
map_of_map f g [] = refl
map_of_map f g (a ∷ list) = ap (λ t. g (f a) ∷ t) (map_of_map f g list)

-- an opcode that works place by place makes a component of those in its place
pub each_mean : (op : Op) (w d count place : ℕ) (args : List (List ℕ)) → shape_of op ≡ EachPlace → place < count → slice_index (view_mean op w d count args) place ≡ op_mean op w d (column place args)
unfolding view_mean
each_mean op w d count place args shape within =
    ap (λ s. slice_index (shape_mean s op w d count args) place) shape
    ∙ get_or-map-range_with_len (λ at. op_mean op w d (column at args)) 0 count place place 0 within (omega arith)

-- a component of a result, at the bit sizes that the sources have
pub alu_mean_at : (kinds : Kinds) (op : Op) (kind : Kind) (srcs : List Src) (values : Values) (place : ℕ) → shape_of op ≡ EachPlace → place < kind.count
    → slice_index (alu_mean kinds op kind srcs values) place ≡ op_mean op (width_bits (unsized_width op kind.width (source_sizes kinds srcs))) (width_bits kind.width) (column place (map (read values) srcs))
unfolding alu_mean
alu_mean_at kinds op kind srcs values place shape within =
    each_mean op (width_bits (unsized_width op kind.width (source_sizes kinds srcs))) (width_bits kind.width) kind.count place (map (read values) srcs) shape within

-- an opcode that works place by place makes as many components as its kind says
pub length-alu_mean : (kinds : Kinds) (op : Op) (kind : Kind) (srcs : List Src) (values : Values) → shape_of op ≡ EachPlace → length (alu_mean kinds op kind srcs values) ≡ kind.count
unfolding alu_mean view_mean
length-alu_mean kinds op kind srcs values shape =
    let w = width_bits (unsized_width op kind.width (source_sizes kinds srcs)) in
    let d = width_bits kind.width in
    let args = map (read values) srcs in
    ap (λ s. length (shape_mean s op w d kind.count args)) shape
    ∙ length-map-range_with_len (λ at. op_mean op w d (column at args)) 0 kind.count

-- a view that has a place is of a value that has a kind
kind_from : (found : Option Kind) (n : ℕ) → n < option_map_or (λ (kind : Kind). kind.count) found 0 → (kind : Kind) × (found ≡ Some kind)
kind_from None n less = absurd (omega (arith, less))
kind_from (Some kind) n less = (kind, refl)

pub viewed_kind : (body : Nodes) (set : Set) (count : ℕ) (view : Bind) (place : ℕ) → IsView body set count view → place < count → (kind : Kind) × (kind_at body view.value ≡ Some kind)
viewed_kind body set count view place is within =
    kind_from (kind_at body view.value) (slice_index view.comps place)
    (all_at (λ c. c < component_count body view.value) view.comps place is.comps (subst (λ n. place < n) (sym is.places) within))

-- bit sizes of a commutative opcode's first two sources that change places
pub unsized_swapped : (op : Op) (dst : Width) (f : Src → Width) (flag : Bool) (srcs : List Src) → (flag ≡ true → is_commutative op ≡ true) → sizes_fit op dst (map f srcs) ≡ true
    → unsized_width op dst (map f (swapped flag srcs)) ≡ unsized_width op dst (map f srcs)
unsized_swapped op dst f true [] h fit = refl
unsized_swapped op dst f true (a ∷ []) h fit = refl
unsized_swapped op dst f true (a ∷ b ∷ rest) h fit =
    let one : f a ≡ f b = same_sizes op dst (f a) (f b) (map f rest) (h refl) fit in
    ap₂ (λ x y. unsized_width op dst (x ∷ y ∷ map f rest)) (sym one) one
unsized_swapped op dst f false srcs h fit = refl

-- an opcode that works place by place asks for as many components of each source as there are places
source_counts : (op : Op) (kind : Kind) (srcs : List Src) → CountsFit op kind.count (map (λ src. length src.swizzle) srcs) → may_stand op ≡ true → AllByRecursion (λ src. length src.swizzle ≡ kind.count) srcs
unfolding per_component
source_counts op kind srcs counts stands =
    each_counts (op_info op).inputs srcs kind.count
    (and_parts ((op_info op).out_count == 0) (list_all (λ input. input.count == 0) (op_info op).inputs) (per_component-from_may_stand op stands)).1 counts.sources

module _ (body : Nodes) (set : Set) (values : Values) (known : IsKnown body set values) where
  -- what stands in a place of a view is a word of its value's bit size
  pub word_at : (count : ℕ) (view : Bind) (place : ℕ) → IsView body set count view → place < count → at_place values place view < 2 ^ width_bits (width_at body view.value)
  word_at count view place is within =
      let kind = viewed_kind body set count view place is within in
      subst (λ w. at_place values place view < 2 ^ width_bits w) (sym (ap (λ o. option_map_or (λ (k : Kind). k.width) o W1) kind.1)) ((known.kinds view.value kind.0 is.inside kind.1).words (slice_index view.comps place))

  -- a const in the set has its components
  const_where : (value : ValueId) (comps : List ℕ) (found : Option Instr) → set value.0 ≡ true → instr_defining value body ≡ found → option_and_then const_of found ≡ Some comps → values value.0 ≡ comps
  const_where value comps None inside is h = absurd (none-some comps h)
  const_where value comps (Some (Alu id op kind srcs)) inside is h = absurd (none-some comps h)
  const_where value comps (Some (Const id kind list)) inside is h = known.equal value (Const id kind list) inside is ∙ same_Some list comps h
  const_where value comps (Some (Undef id kind)) inside is h = absurd (none-some comps h)
  const_where value comps (Some (Input id kind slot)) inside is h = absurd (none-some comps h)
  const_where value comps (Some (Output effect slot src)) inside is h = absurd (none-some comps h)
  const_where value comps (Some (LoadBuf id kind buffer offset)) inside is h = absurd (none-some comps h)
  const_where value comps (Some (StoreBuf effect buffer offset src)) inside is h = absurd (none-some comps h)

  viewed_where : (count : ℕ) (test : ℕ → Bool) (view : Bind) (place : ℕ) (found : Option (List ℕ)) → IsView body set count view → place < count → const_at body view.value ≡ found → viewed_const test found view ≡ true → test (at_place values place view) ≡ true
  viewed_where count test view place None is within at h = absurd (false≢true h)
  viewed_where count test view place (Some comps) is within at h =
      ap (λ l. test (slice_index l (slice_index view.comps place))) (const_where view.value comps (instr_defining view.value body) is.inside refl at)
      ∙ passes_at (λ c. test (slice_index comps c)) view.comps place h (subst (λ n. place < n) (sym is.places) within)

  -- what a test says of a viewed const it says of the component at a place
  pub viewed_word : (count : ℕ) (test : ℕ → Bool) (view : Bind) (place : ℕ) → IsView body set count view → place < count → viewed_const test (const_at body view.value) view ≡ true → test (at_place values place view) ≡ true
  viewed_word count test view place is within h = viewed_where count test view place (const_at body view.value) is within refl h

-- a view of a value that an opcode writes, whose sources are in the set
module _ (s : Shader) (set : Set) (count : ℕ) (op : Op) (view : Bind) (alu : IsAlu s.body view.value op) (stands : may_stand op ≡ true)
    (counts : CountsFit op alu.kind.count (map (λ src. length src.swizzle) alu.srcs)) (inside : AllByRecursion (IsInside s.body) alu.srcs) (in_set : AllByRecursion (λ src. set src.value.0 ≡ true) alu.srcs)
    (places : length view.comps ≡ count) (comps : AllByRecursion (λ c. c < component_count s.body view.value) view.comps) where
  value_count : component_count s.body view.value ≡ alu.kind.count
  value_count = ap (λ o. option_map_or (λ kind. kind.count) o 0) (alu_kind s.body view.value op alu)

  has_counts : AllByRecursion (λ src. length src.swizzle ≡ alu.kind.count) alu.srcs
  has_counts = source_counts op alu.kind alu.srcs counts stands

  child_view : (src : Src) → set src.value.0 ≡ true → length src.swizzle ≡ alu.kind.count → IsInside s.body src → IsView s.body set count (child view.comps src)
  child_view src own long within = record {
    inside = own;
    places = length-map view.comps (λ c. slice_index src.swizzle c) ∙ places;
    comps = all_map (λ c. slice_index src.swizzle c) (λ c. c < component_count s.body src.value) view.comps
        (all_each (λ c. c < component_count s.body view.value) (λ c. slice_index src.swizzle c < component_count s.body src.value)
        (λ c less. all_at (λ n. n < component_count s.body src.value) src.swizzle c within (subst (λ n. c < n) (value_count ∙ sym long) less))
        view.comps comps);
  }

  -- the views of the sources are views again
  pub sources_views : (flag : Bool) → AllByRecursion (IsView s.body set count) (children s.body flag view)
  sources_views flag =
      let all = all_both (λ src. set src.value.0 ≡ true) (λ src. (length src.swizzle ≡ alu.kind.count) × IsInside s.body src) (λ src. IsView s.body set count (child view.comps src)) alu.srcs
      (λ src own more. child_view src own more.0 more.1) in_set
      (all_both (λ src. length src.swizzle ≡ alu.kind.count) (IsInside s.body) (λ src. (length src.swizzle ≡ alu.kind.count) × IsInside s.body src) alu.srcs (λ src long own. (long, own)) has_counts inside) in
      subst (AllByRecursion (IsView s.body set count)) (sym (alu_sources s.body op flag view alu))
      (all_map (child view.comps) (IsView s.body set count) (swapped flag alu.srcs) (all_swapped (λ src. IsView s.body set count (child view.comps src)) flag alu.srcs all))

  -- the opcode makes the component in a place of those that stand there in the views of its sources
  pub op_at : (values : Values) → Fits op alu.kind.width (map (λ src. width_at s.body src.value) alu.srcs) → (flag : Bool) (place : ℕ) → (flag ≡ true → is_commutative op ≡ true) → place < count
      → op_mean op (width_bits (unsized_width op (width_at s.body view.value) (map (λ child. width_at s.body child.value) (children s.body flag view)))) (width_bits (width_at s.body view.value))
      (map (at_place values place) (children s.body flag view)) ≡ slice_index (alu_mean (kind_at s.body) op alu.kind alu.srcs values) (slice_index view.comps place)
  op_at values widths flag place commutes within =
      let here : place < length view.comps = subst (λ n. place < n) (sym places) within in
      let c = slice_index view.comps place in
      let there : c < alu.kind.count = subst (λ n. c < n) value_count (all_at (λ n. n < component_count s.body view.value) view.comps place comps here) in
      let long = all_each (λ src. length src.swizzle ≡ alu.kind.count) (λ src. c < length src.swizzle) (λ src e. subst (λ n. c < n) (sym e) there) alu.srcs has_counts in
      let dst : width_at s.body view.value ≡ alu.kind.width = ap (λ o. option_map_or (λ (k : Kind). k.width) o W1) (alu_kind s.body view.value op alu) in
      let f : Src → Width = λ src. width_at s.body src.value in
      let fits = sizes_fit-from_Fits op alu.kind.width (map f alu.srcs) widths in
      let sizes = λ (w : Width) (list : List Width). op_mean op (width_bits (unsized_width op w list)) (width_bits w) in
      ap (λ w. sizes w (map (λ child. width_at s.body child.value) (children s.body flag view)) (map (at_place values place) (children s.body flag view))) dst
      ∙ ap (λ l. sizes alu.kind.width (map (λ child. width_at s.body child.value) l) (map (at_place values place) l)) (alu_sources s.body op flag view alu)
      ∙ ap (λ l. sizes alu.kind.width l (map (at_place values place) (map (child view.comps) (swapped flag alu.srcs)))) (widths_of_map view.comps (swapped flag alu.srcs))
      ∙ ap (λ w. op_mean op (width_bits w) (width_bits alu.kind.width) (map (at_place values place) (map (child view.comps) (swapped flag alu.srcs)))) (unsized_swapped op alu.kind.width f flag alu.srcs commutes fits)
      ∙ ap (sizes alu.kind.width (map f alu.srcs)) (map_of_map (child view.comps) (at_place values place) (swapped flag alu.srcs))
      ∙ swapped_mean op (width_bits (unsized_width op alu.kind.width (map f alu.srcs))) (width_bits alu.kind.width) (λ src. at_place values place (child view.comps src)) flag alu.srcs commutes
      ∙ ap (sizes alu.kind.width (map f alu.srcs)) (at_children values place view.comps alu.srcs here long)
      ∙ sym (alu_mean_at (kind_at s.body) op alu.kind alu.srcs values c (shape-from_may_stand op stands) there)
    where
      widths_of_map : (comps : List ℕ) (srcs : List Src) → map (λ (c : Bind). width_at s.body c.value) (map (child comps) srcs) ≡ map (λ (src : Src). width_at s.body src.value) srcs
      widths_of_map comps [] = refl
      widths_of_map comps (src ∷ srcs) = ap (λ t. width_at s.body src.value ∷ t) (widths_of_map comps srcs)

-- as many sources as the opcode has
pub sources_count : (s : Shader) → IsShaped s → (op : Op) (view : Bind) (alu : IsAlu s.body view.value op) (flag : Bool) → length (children s.body flag view) ≡ length (op_info op).inputs
sources_count s shaped op view alu flag =
    ap length (alu_sources s.body op flag view alu)
    ∙ length-map (swapped flag alu.srcs) (child view.comps)
    ∙ length-swapped flag alu.srcs
    ∙ (found_shaped s shaped view.value (Alu view.value op alu.kind alu.srcs) alu.found).1

module _ (s : Shader) (shaped : IsShaped s) (set : Set) (closed : Closed s.body set) (fit : IsFit s.body set) (count : ℕ)
    (op : Op) (view : Bind) (is : IsView s.body set count view) (applied : has_op op (alu_at s.body view.value) ≡ true) (stands : may_stand op ≡ true) where
  alu : IsAlu s.body view.value op
  alu = alu_found s.body view.value op applied

  in_set : AllByRecursion (λ src. set src.value.0 ≡ true) alu.srcs
  in_set = all_read (λ v. set v.0 ≡ true) alu.srcs (λ source at e. closed view.value source op alu.kind alu.srcs is.inside alu.found (at, e))

  -- the views of the sources are views again, as many as the opcode has sources
  pub children_views : (flag : Bool) → AllByRecursion (IsView s.body set count) (children s.body flag view)
  children_views flag =
      sources_views s set count op view alu stands (fit.counts view.value op alu.kind alu.srcs is.inside alu.found) (fit.inside view.value op alu.kind alu.srcs is.inside alu.found) in_set is.places is.comps flag

  pub children_count : (flag : Bool) → length (children s.body flag view) ≡ length (op_info op).inputs
  children_count flag = sources_count s shaped op view alu flag

  -- the opcode makes the component in a place of those that stand there in the views of its sources
  pub op_value : (values : Values) → IsKnown s.body set values → (flag : Bool) (place : ℕ) → (flag ≡ true → is_commutative op ≡ true) → place < count
      → op_mean op (width_bits (unsized_width op (width_at s.body view.value) (map (λ child. width_at s.body child.value) (children s.body flag view)))) (width_bits (width_at s.body view.value))
      (map (at_place values place) (children s.body flag view)) ≡ at_place values place view
  op_value values known flag place commutes within =
      op_at s set count op view alu stands (fit.counts view.value op alu.kind alu.srcs is.inside alu.found) (fit.inside view.value op alu.kind alu.srcs is.inside alu.found) in_set is.places is.comps
      values (fit.widths view.value op alu.kind alu.srcs is.inside alu.found) flag place commutes within
      ∙ sym (ap (λ l. slice_index l (slice_index view.comps place)) (known.equal view.value (Alu view.value op alu.kind alu.srcs) is.inside alu.found))
