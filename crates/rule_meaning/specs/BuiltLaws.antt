-- What a replacement is built of fits and is shaped, and reads what the variables are bound to or what was built before.
use Rattle.std.specs.Prelude.{◌≡◌, refl, ◌<◌, ◌≤◌, ◌+◌, ◌^◌, ◌&&◌, ◌==◌, ℕ, zero, suc, ℤ, pos, negsuc, Bool, true, not, Option, Some, None, List, [], ◌∷◌, ◌++◌, map, length, replicate, nat_eq, nat_lt, slice_get, drop, is_none}
use Rattle.std.proofs.Common.{sym, ◌∙◌, ap, ap₂, subst, arith, mod-lt}
use Rattle.std.proofs.lemmas.Bool.{and_parts, eq-eqb, eqb-true, ltb-true, or_left, or_right}
use Rattle.std.proofs.lemmas.List.{length-replicate}
use Rattle.std.proofs.lemmas.List.FromFn.{length-range_with_len}
use Rattle.std.proofs.lemmas.Nat.{pow_pos}
use Rattle.std.proofs.lemmas.Option.{none-some, same_Some}
use Rattle.std.specs.List.{AllByRecursion, list_all, range_with_len}
use Rattle.std.specs.Option.{option_map_or}
use Rattle.list_laws.specs.AllLaws.{all_append, all_back, all_each, all_front, passes_append}
use Rattle.nir_ops.specs.declared.op.Op.{Op}
use Rattle.nir_ops.specs.declared.row.OpInput.{OpInput}
use Rattle.nir_ops.specs.declared.width.Width.{Width}
use Rattle.nir_ops.specs.declared.width.Width.TheVariants.{W1}
use Rattle.nir_ops.specs.Opcodes.{op_info}
use Rattle.nir_ops.specs.Width.{width_bits}
use Rattle.op_eval.specs.Calls.{Fits, per_component, sizes_fit}
use Rattle.op_eval.specs.Sizes.{Fits-from_sizes_fit}
use Rattle.op_eval.specs.Views.{CountsFit, count_at}
use Rattle.op_eval.specs.Word.{residue}
use Rattle.nir_ir.specs.declared.ids.ValueId.{ValueId}
use Rattle.nir_ir.specs.declared.instr.Instr.{Instr}
use Rattle.nir_ir.specs.declared.instr.Instr.TheVariants.{Alu}
use Rattle.nir_ir.specs.declared.instr.Src.{Src}
use Rattle.nir_ir.specs.declared.kind.Kind.{Kind}
use Rattle.nir_ir.specs.Definitions.{Kinds, kind_of_target, width_in}
use Rattle.nir_ir.specs.Items.{target}
use Rattle.nir_ir.specs.Shaped.{IsCount, IsShapedInstr, IsSwizzle}
use Rattle.nir_validate.specs.Each.{InstrsWalked}
use Rattle.nir_validate.specs.Edges.{Set, set_after, set_after_instrs, with_member}
use Rattle.nir_validate.specs.Kept.{ReadsIn}
use Rattle.nir_validate.specs.Rules.{count_in}
use Rattle.nir_validate.specs.Typed.{FitsIn, NamesComponents}
use Rattle.rule_term.specs.declared.cond.Cond.{Cond}
use Rattle.rule_term.specs.Formed.{may_stand, replace_piece_formed}
use Rattle.rule_term.specs.Pieces.{AppPiece, LitPiece, VarPiece, pieces, terms_count}
use Rattle.rule_term.specs.Standing.{per_component-from_may_stand}
use Rattle.rule_term.specs.Terms.{Terms, Nil, VarThen, LitThen, AppThen}
use Rattle.rule_term.specs.Typings.{Occurrence, first_of, has_size, literal_fits, obeys, occurrences, roots, size_of}
use Rattle.nir_search.specs.declared.hit.Bind.{Bind}
use Rattle.nir_search.specs.Put.{Made, bound_to, const_instr, made, whole_source}
use Rattle.rule_meaning.specs.SourceViews.{whole_swizzle}

-- ---- what the variables of a replacement are bound to

-- a view of a value of the shader, of this bit size, with a component of the value for each place
pub record IsSource (kinds : Kinds) (next count : ℕ) (view : Bind) : Type 0 where
  pub places : length view.comps ≡ count
  pub comps : AllByRecursion (λ c. c < count_in kinds view.value) view.comps
  pub swizzle : IsSwizzle view.comps
  pub low : view.value.0 < next

-- each variable of the rule is bound to one
abbrev pub AreSources : Kinds → ℕ → ℕ → ℕ → List Bind → Type 0
AreSources kinds next count vars binds = (var : ℕ) → var < vars → IsSource kinds next count (bound_to binds var)

-- each occurrence has the bit size of what its variable is bound to
abbrev pub AreSized : Kinds → List Bind → List Occurrence → Type 0
AreSized kinds binds list = AllByRecursion (λ o. width_in kinds (bound_to binds o.var).value ≡ o.width) list

-- the kinds are those of the instructions
abbrev pub KindsTold : Kinds → List Instr → Type 0
KindsTold kinds instrs = AllByRecursion (λ instr. (id : ValueId) → target instr ≡ Some id → kinds id ≡ kind_of_target instr) instrs

-- ---- formed replacements

pub var_formed : (vars var : ℕ) (constant : Bool) (size : Option Width) (cond : Option Cond) → replace_piece_formed vars (VarPiece var constant size cond) ≡ true → var < vars
var_formed vars var constant size cond h =
    let two = (and_parts (nat_lt var vars && not constant && is_none size) (is_none cond) h).0 in
    let one = (and_parts (nat_lt var vars && not constant) (is_none size) two).0 in
    ltb-true var vars (and_parts (nat_lt var vars) (not constant) one).0

pub record AppFormed (vars : ℕ) (op : Op) (args rest : Terms) : Type 0 where
  pub stands : may_stand op ≡ true
  pub sources : terms_count args ≡ length (op_info op).inputs
  pub inner : list_all (replace_piece_formed vars) (pieces args) ≡ true
  pub behind : list_all (replace_piece_formed vars) (pieces rest) ≡ true

pub app_formed : (vars : ℕ) (op : Op) (size : Option Width) (once : Bool) (args rest : Terms) → list_all (replace_piece_formed vars) (pieces (AppThen op size once args rest)) ≡ true → AppFormed vars op args rest
app_formed vars op size once args rest h =
    let parts = and_parts (replace_piece_formed vars (AppPiece op size once (terms_count args))) (list_all (replace_piece_formed vars) (pieces args ++ pieces rest)) h in
    let own = and_parts (may_stand op && nat_eq (terms_count args) (length (op_info op).inputs)) (not once) parts.0 in
    let two = and_parts (may_stand op) (nat_eq (terms_count args) (length (op_info op).inputs)) own.0 in
    let more = passes_append (replace_piece_formed vars) (pieces args) (pieces rest) parts.1 in
    record { stands = two.0; sources = eqb-true (terms_count args) (length (op_info op).inputs) two.1; inner = more.0; behind = more.1 }

pub record AppObeys (op : Op) (args rest : Terms) (widths : List Width) : Type 0 where
  pub sizes : sizes_fit op (first_of widths) (roots args (drop 1 widths)) ≡ true
  pub inner : obeys args (drop 1 widths) ≡ true
  pub behind : obeys rest (drop (suc (size_of args)) widths) ≡ true

pub app_obeys : (op : Op) (size : Option Width) (once : Bool) (args rest : Terms) (widths : List Width) → obeys (AppThen op size once args rest) widths ≡ true → AppObeys op args rest widths
app_obeys op size once args rest widths h =
    let last = and_parts (has_size size (first_of widths) && sizes_fit op (first_of widths) (roots args (drop 1 widths)) && obeys args (drop 1 widths)) (obeys rest (drop (suc (size_of args)) widths)) h in
    let two = and_parts (has_size size (first_of widths) && sizes_fit op (first_of widths) (roots args (drop 1 widths))) (obeys args (drop 1 widths)) last.0 in
    let one = and_parts (has_size size (first_of widths)) (sizes_fit op (first_of widths) (roots args (drop 1 widths))) two.0 in
    record { sizes = one.1; inner = two.1; behind = last.1 }

-- ---- what is built fits, and has its shape

-- a source with a component of its value for each place
pub record SourceFits (kinds : Kinds) (count : ℕ) (src : Src) : Type 0 where
  pub places : length src.swizzle ≡ count
  pub comps : AllByRecursion (λ c. c < count_in kinds src.value) src.swizzle
  pub swizzle : IsSwizzle src.swizzle

pub record BuiltFits (kinds : Kinds) (inputs outputs : List Kind) (buffers count : ℕ) (terms : Terms) (widths : List Width) (built : Made) : Type 0 where
  pub sizes : map (λ src. width_in kinds src.value) built.sources ≡ roots terms widths
  pub counted : length built.sources ≡ terms_count terms
  pub sources : AllByRecursion (SourceFits kinds count) built.sources
  pub fits : AllByRecursion (FitsIn kinds inputs outputs buffers) built.instrs
  pub shaped : AllByRecursion IsShapedInstr built.instrs

-- sources of an opcode that works place by place
every_place : (count : ℕ) (inputs : List OpInput) → list_all (λ input. input.count == 0) inputs ≡ true → map (λ input. count_at input.count count) inputs ≡ replicate (length inputs) count
every_place count [] h = refl
every_place count (input ∷ inputs) h =
    let parts = and_parts (input.count == 0) (list_all (λ i. i.count == 0) inputs) h in
    ap₂ (λ n l. n ∷ l) (ap (λ n. count_at n count) (eqb-true input.count 0 parts.0)) (every_place count inputs parts.1)

each_length : (kinds : Kinds) (count : ℕ) (srcs : List Src) → AllByRecursion (SourceFits kinds count) srcs → map (λ src. length src.swizzle) srcs ≡ replicate (length srcs) count
each_length kinds count [] all = refl
each_length kinds count (src ∷ srcs) all = ap₂ (λ n l. n ∷ l) all.0.places (each_length kinds count srcs all.1)

pub counts_fit : (kinds : Kinds) (op : Op) (count : ℕ) (srcs : List Src) → may_stand op ≡ true → length srcs ≡ length (op_info op).inputs → AllByRecursion (SourceFits kinds count) srcs → CountsFit op count (map (λ src. length src.swizzle) srcs)
unfolding per_component
counts_fit kinds op count srcs stands long all =
    let parts = and_parts ((op_info op).out_count == 0) (list_all (λ input. input.count == 0) (op_info op).inputs) (per_component-from_may_stand op stands) in
    record {
      result = ap (λ n. count_at n count) (eqb-true (op_info op).out_count 0 parts.0);
      sources = every_place count (op_info op).inputs parts.1 ∙ ap (λ n. replicate n count) (sym long) ∙ sym (each_length kinds count srcs all);
    }

built_names : (kinds : Kinds) (count : ℕ) (srcs : List Src) → AllByRecursion (SourceFits kinds count) srcs → AllByRecursion (NamesComponents kinds) srcs
built_names kinds count srcs all = all_each (SourceFits kinds count) (NamesComponents kinds) (λ src is. is.comps) srcs all

all_range : (a n m : ℕ) → a + n ≤ m → AllByRecursion (λ c. c < m) (range_with_len a n)
all_range a zero m less = tt
all_range a (suc n) m less = (omega (arith, less), all_range (a + 1) n m (omega (arith, less)))

all_same : (P : ℕ → Type 0) (word : ℕ) → P word → (count : ℕ) → AllByRecursion P (replicate count word)
all_same P word h zero = tt
all_same P word h (suc count) = (h, all_same P word h count)

residue_small : (width : ℕ) (number : ℤ) → residue width number < 2 ^ width
unfolding residue
residue_small width (pos n) = mod-lt n (pow_pos width)
residue_small width (negsuc n) = let some : 0 < 2 ^ width = pow_pos width in omega arith

-- a number in each component is shaped
pub const_shaped : (value : ValueId) (kind : Kind) (number : ℤ) → IsCount kind.count → IsShapedInstr (const_instr value kind number)
const_shaped value kind number is = (
  is,
  record {
    count = length-replicate kind.count (residue (width_bits kind.width) number);
    words = all_same (λ comp. comp < 2 ^ width_bits kind.width) (residue (width_bits kind.width) number) (residue_small (width_bits kind.width) number) kind.count;
  },
)

-- an instruction with an opcode over sources that fit
pub record AppFits (kinds : Kinds) (inputs outputs : List Kind) (buffers : ℕ) (value : ValueId) (op : Op) (kind : Kind) (srcs : List Src) : Type 0 where
  pub fits : FitsIn kinds inputs outputs buffers (Alu value op kind srcs)
  pub shaped : IsShapedInstr (Alu value op kind srcs)

pub app_fits : (kinds : Kinds) (inputs outputs : List Kind) (buffers : ℕ) (value : ValueId) (op : Op) (kind : Kind) (srcs : List Src) (widths : List Width) → IsCount kind.count → may_stand op ≡ true → sizes_fit op kind.width widths ≡ true
    → map (λ src. width_in kinds src.value) srcs ≡ widths → length srcs ≡ length (op_info op).inputs → AllByRecursion (SourceFits kinds kind.count) srcs → AppFits kinds inputs outputs buffers value op kind srcs
app_fits kinds inputs outputs buffers value op kind srcs widths is stands sizes are long all = record {
  fits = record {
    widths = subst (Fits op kind.width) (sym are) (Fits-from_sizes_fit op kind.width widths sizes);
    counts = counts_fit kinds op kind.count srcs stands long all;
    names = built_names kinds kind.count srcs all;
  };
  shaped = (is, long, all_each (SourceFits kinds kind.count) (λ src. IsSwizzle src.swizzle) (λ src own. own.swizzle) srcs all);
}

-- a source that is all of a value whose kind is told
pub whole_fits : (kinds : Kinds) (id : ValueId) (kind : Kind) → IsCount kind.count → kinds id ≡ Some kind → SourceFits kinds kind.count (whole_source id kind.count)
whole_fits kinds id kind is told = record {
  places = length-range_with_len 0 kind.count;
  comps = subst (λ (found : Option Kind). AllByRecursion (λ c. c < option_map_or (λ (k : Kind). k.count) found 0) (range_with_len 0 kind.count)) (sym told) (all_range 0 kind.count kind.count (omega arith));
  swizzle = whole_swizzle kind.count is;
}

module _ (kinds : Kinds) (inputs outputs : List Kind) (buffers next0 count vars : ℕ) (binds : List Bind) (is : IsCount count) (bound : AreSources kinds next0 count vars binds) where
  pub built_fits : (terms : Terms) (widths : List Width) (next : ℕ) → list_all (replace_piece_formed vars) (pieces terms) ≡ true → obeys terms widths ≡ true → AreSized kinds binds (occurrences terms widths)
      → KindsTold kinds (made binds count terms widths next).instrs → BuiltFits kinds inputs outputs buffers count terms widths (made binds count terms widths next)
  built_fits Nil widths next formed obey sized told = record { sizes = refl; counted = refl; sources = tt; fits = tt; shaped = tt }
  built_fits (VarThen var constant size cond rest) widths next formed obey sized told =
      let parts = and_parts (replace_piece_formed vars (VarPiece var constant size cond)) (list_all (replace_piece_formed vars) (pieces rest)) formed in
      let own = bound var (var_formed vars var constant size cond parts.0) in
      let more = built_fits rest (drop 1 widths) next parts.1 (and_parts (has_size size (first_of widths)) (obeys rest (drop 1 widths)) obey).1 sized.1 told in
      record {
        sizes = ap₂ (λ (w : Width) (l : List Width). w ∷ l) sized.0 more.sizes;
        counted = ap suc more.counted;
        sources = (record { places = own.places; comps = own.comps; swizzle = own.swizzle }, more.sources);
        fits = more.fits;
        shaped = more.shaped;
      }
  built_fits (LitThen number boolean rest) widths next formed obey sized told =
      let kind : Kind = record { width = first_of widths; count = count } in
      let id : ValueId = record { 0 = next } in
      let parts = and_parts (replace_piece_formed vars (LitPiece number boolean)) (list_all (replace_piece_formed vars) (pieces rest)) formed in
      let more = built_fits rest (drop 1 widths) (suc next) parts.1 (and_parts (literal_fits number boolean (first_of widths)) (obeys rest (drop 1 widths)) obey).1 sized told.1 in
      let own : kinds id ≡ Some kind = told.0 id refl in
      record {
        sizes = ap₂ (λ (w : Width) (l : List Width). w ∷ l) (ap (λ (found : Option Kind). option_map_or (λ (k : Kind). k.width) found W1) own) more.sizes;
        counted = ap suc more.counted;
        sources = (whole_fits kinds id kind is own, more.sources);
        fits = (tt, more.fits);
        shaped = (const_shaped id kind number is, more.shaped);
      }
  built_fits (AppThen op size once args rest) widths next formed obey sized told =
      let inner = made binds count args (drop 1 widths) next in
      let after = made binds count rest (drop (suc (size_of args)) widths) (suc inner.next) in
      let kind : Kind = record { width = first_of widths; count = count } in
      let id : ValueId = record { 0 = inner.next } in
      let own_instr : Instr = Alu id op kind inner.sources in
      let told_of = λ (instr : Instr). (i : ValueId) → target instr ≡ Some i → kinds i ≡ kind_of_target instr in
      let forms = app_formed vars op size once args rest formed in
      let sizes = app_obeys op size once args rest widths obey in
      let sized_of = λ (o : Occurrence). width_in kinds (bound_to binds o.var).value ≡ o.width in
      let occurs = occurrences args (drop 1 widths) in
      let occurs_more = occurrences rest (drop (suc (size_of args)) widths) in
      let behind = all_back told_of inner.instrs (own_instr ∷ after.instrs) told in
      let own : kinds id ≡ Some kind = behind.0 id refl in
      let first = built_fits args (drop 1 widths) next forms.inner sizes.inner (all_front sized_of occurs occurs_more sized) (all_front told_of inner.instrs (own_instr ∷ after.instrs) told) in
      let second = built_fits rest (drop (suc (size_of args)) widths) (suc inner.next) forms.behind sizes.behind (all_back sized_of occurs occurs_more sized) behind.1 in
      let app = app_fits kinds inputs outputs buffers id op kind inner.sources (roots args (drop 1 widths)) is forms.stands sizes.sizes first.sizes (first.counted ∙ forms.sources) first.sources in
      record {
        sizes = ap₂ (λ (w : Width) (l : List Width). w ∷ l) (ap (λ (found : Option Kind). option_map_or (λ (k : Kind). k.width) found W1) own) second.sizes;
        counted = ap suc second.counted;
        sources = (whole_fits kinds id kind is own, second.sources);
        fits = all_append (FitsIn kinds inputs outputs buffers) inner.instrs (own_instr ∷ after.instrs) first.fits (app.fits, second.fits);
        shaped = all_append IsShapedInstr inner.instrs (own_instr ∷ after.instrs) first.shaped (app.shaped, second.shaped);
      }

-- ---- what is built reads what the variables are bound to, or what was built before

-- wherever what the variables are bound to is defined
abbrev pub HoldsBound : Set → ℕ → List Bind → Type 0
HoldsBound set vars binds = (var : ℕ) → var < vars → set (bound_to binds var).value.0 ≡ true

member_stays : (found : Option ValueId) (set : Set) (n : ℕ) → set n ≡ true → with_member found set n ≡ true
member_stays None set n is = is
member_stays (Some id) set n is = or_right (nat_eq n id.0) (set n) is

pub instrs_stay : (instrs : List Instr) (set : Set) (n : ℕ) → set n ≡ true → set_after_instrs instrs set n ≡ true
instrs_stay [] set n is = is
instrs_stay (instr ∷ instrs) set n is = instrs_stay instrs (set_after instr set) n (member_stays (target instr) set n is)

pub walked_append : (set : Set) (first second : List Instr) → InstrsWalked set first → InstrsWalked (set_after_instrs first set) second → InstrsWalked set (first ++ second)
walked_append set [] second one two = two
walked_append set (instr ∷ first) second one two = (one.0, walked_append (set_after instr set) first second one.1 two)

pub after_append : (set : Set) (first second : List Instr) → set_after_instrs (first ++ second) set ≡ set_after_instrs second (set_after_instrs first set)
after_append set [] second = refl
after_append set (instr ∷ first) second = after_append (set_after instr set) first second

-- the sources of an instruction with an opcode
pub reads_of_sources : (set : Set) (srcs : List Src) (value : ValueId) (op : Op) (kind : Kind) → AllByRecursion (λ src. set src.value.0 ≡ true) srcs → ReadsIn set (Alu value op kind srcs)
reads_of_sources set srcs value op kind all id at = at_place srcs all at.0 at.1 where
  at_place : (srcs : List Src) → AllByRecursion (λ (src : Src). set src.value.0 ≡ true) srcs → (at : ℕ) → slice_get (map (λ (src : Src). src.value) srcs) at ≡ Some id → set id.0 ≡ true
  at_place [] all at is = absurd (none-some id is)
  at_place (src ∷ srcs) all zero is = subst (λ (v : ValueId). set v.0 ≡ true) (same_Some src.value id is) all.0
  at_place (src ∷ srcs) all (suc at) is = at_place srcs all.1 at is

pub record BuiltReads (set : Set) (built : Made) : Type 0 where
  pub walked : InstrsWalked set built.instrs
  pub sources : AllByRecursion (λ src. set_after_instrs built.instrs set src.value.0 ≡ true) built.sources

pub built_reads : (vars count : ℕ) (binds : List Bind) (terms : Terms) (widths : List Width) (next : ℕ) (set : Set) → list_all (replace_piece_formed vars) (pieces terms) ≡ true → HoldsBound set vars binds
    → BuiltReads set (made binds count terms widths next)
built_reads vars count binds Nil widths next set formed bound = record { walked = tt; sources = tt }
built_reads vars count binds (VarThen var constant size cond rest) widths next set formed bound =
    let parts = and_parts (replace_piece_formed vars (VarPiece var constant size cond)) (list_all (replace_piece_formed vars) (pieces rest)) formed in
    let built = made binds count rest (drop 1 widths) next in
    let more = built_reads vars count binds rest (drop 1 widths) next set parts.1 bound in
    record { walked = more.walked; sources = (instrs_stay built.instrs set (bound_to binds var).value.0 (bound var (var_formed vars var constant size cond parts.0)), more.sources) }
built_reads vars count binds (LitThen number boolean rest) widths next set formed bound =
    let parts = and_parts (replace_piece_formed vars (LitPiece number boolean)) (list_all (replace_piece_formed vars) (pieces rest)) formed in
    let built = made binds count rest (drop 1 widths) (suc next) in
    let on : Set = with_member (Some (record { 0 = next })) set in
    let more = built_reads vars count binds rest (drop 1 widths) (suc next) on parts.1 (λ var less. or_right (nat_eq (bound_to binds var).value.0 next) (set (bound_to binds var).value.0) (bound var less)) in
    record { walked = ((λ id at. absurd (none-some id at.1)), more.walked); sources = (instrs_stay built.instrs on next (or_left (nat_eq next next) (set next) (eq-eqb next next refl)), more.sources) }
built_reads vars count binds (AppThen op size once args rest) widths next set formed bound =
    let inner = made binds count args (drop 1 widths) next in
    let after = made binds count rest (drop (suc (size_of args)) widths) (suc inner.next) in
    let kind : Kind = record { width = first_of widths; count = count } in
    let own : Instr = Alu (record { 0 = inner.next }) op kind inner.sources in
    let forms = app_formed vars op size once args rest formed in
    let first = built_reads vars count binds args (drop 1 widths) next set forms.inner bound in
    let mid : Set = set_after_instrs inner.instrs set in
    let on : Set = with_member (Some (record { 0 = inner.next })) mid in
    let second = built_reads vars count binds rest (drop (suc (size_of args)) widths) (suc inner.next) on forms.behind
    (λ var less. or_right (nat_eq (bound_to binds var).value.0 inner.next) (mid (bound_to binds var).value.0) (instrs_stay inner.instrs set (bound_to binds var).value.0 (bound var less))) in
    let whole : set_after_instrs (inner.instrs ++ own ∷ after.instrs) set ≡ set_after_instrs after.instrs on = after_append set inner.instrs (own ∷ after.instrs) in
    record {
      walked = walked_append set inner.instrs (own ∷ after.instrs) first.walked (reads_of_sources mid inner.sources (record { 0 = inner.next }) op kind first.sources, second.walked);
      sources = (
        ap (λ s. s inner.next) whole ∙ instrs_stay after.instrs on inner.next (or_left (nat_eq inner.next inner.next) (mid inner.next) (eq-eqb inner.next inner.next refl)),
        subst (λ (s : Set). AllByRecursion (λ (src : Src). s src.value.0 ≡ true) after.sources) (sym whole) second.sources,
      );
    }
