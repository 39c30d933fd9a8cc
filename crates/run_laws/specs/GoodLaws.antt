-- The parts of a valid shader are good at their places: from its rules, from the shape of its parts, and since each number is defined once.
use Rattle.std.specs.Prelude.{◌≡◌, refl, ℕ, ◌<◌, ◌≤◌, false, ◌&&◌, List, [], ◌∷◌, length, map, Option, Some, None, slice_get}
use Rattle.std.specs.List.{AllByRecursion}
use Rattle.std.specs.Option.{option_and_then, option_map, option_map_or, option_or}
use Rattle.std.proofs.Common.{sym, ◌∙◌, ap, subst, arith, inl, inr, ◌⊎◌, ⊎_elim}
use Rattle.std.proofs.lemmas.Bool.{true≢false}
use Rattle.std.proofs.lemmas.Option.{none-some}
use Rattle.list_laws.specs.AllLaws.{all_both, all_each}
use Rattle.nir_ops.specs.declared.width.Width.TheVariants.{W1}
use Rattle.op_eval.specs.Calls.{Fits}
use Rattle.nir_ir.specs.declared.ids.IfId.{IfId}
use Rattle.nir_ir.specs.declared.ids.ValueId.{ValueId}
use Rattle.nir_ir.specs.declared.instr.Instr.{Instr}
use Rattle.nir_ir.specs.declared.instr.Instr.TheVariants.{Alu, Const, Undef, Input, Output, LoadBuf, StoreBuf}
use Rattle.nir_ir.specs.declared.instr.Src.{Src}
use Rattle.nir_ir.specs.declared.kind.Kind.{Kind}
use Rattle.nir_ir.specs.declared.node.Block.{Block}
use Rattle.nir_ir.specs.declared.node.Phi.{Phi}
use Rattle.nir_ir.specs.declared.node.PhiSource.{PhiSource}
use Rattle.nir_ir.specs.Definitions.{Kinds, instr_defining, kind_at, kind_of_target, phi_defining, width_in}
use Rattle.nir_ir.specs.Items.{Item, IfHead, InstrItem, PhiItem, items}
use Rattle.nir_ir.specs.Nodes.{Nodes, Nil, BlockThen, IfThen, LoopThen}
use Rattle.nir_ir.specs.Shader.{Shader}
use Rattle.nir_ir.specs.Shaped.{IsOneOf, IsShaped, IsShapedInstr, IsShapedItem, IsSwizzle}
use Rattle.nir_validate.specs.Each.{BlockDefines, ConditionDefined, Each, InstrsWalked, IsReached, PhiWalked}
use Rattle.nir_validate.specs.Edges.{Edge, Set, backs, either, meet, out_of_loop, set_after, set_after_phis}
use Rattle.nir_validate.specs.Rules.{condition_kind, count_in}
use Rattle.nir_validate.specs.Typed.{FitsIn, HasKindThat, IsStorable, ItemFits, NamesComponents}
use Rattle.nir_validate.specs.TypedLaws.{typed-from_valid}
use Rattle.nir_validate.specs.Valid.{Valid}
use Rattle.nir_validate.specs.Walk.{block_flow, entry, walk}
use Rattle.walk_laws.specs.AlongLaws.{BlockNamed, ConditionNamed, HasBlock, valid-first_opens}
use Rattle.walk_laws.specs.DistinctLaws.{block_defines, instrs_define, phis_define}
use Rattle.walk_laws.specs.EachLaws.{NoFact, each_both, each_map}
use Rattle.walk_laws.specs.FreshLaws.{AreNew, EdgeOut, WithNew, fresh_in}
use Rattle.walk_laws.specs.PartsLaws.{parts-from_valid}
use Rattle.nir_mean.specs.Points.{kind_at-defines}
use Rattle.nir_mean.specs.Reads.{kind_of_target-found}
use Rattle.edit_laws.specs.DefiningLaws.{IsFound, PhiFound, items_found}
use Rattle.edit_laws.specs.NumbersLaws.{one_of-back, one_of-front, one_of-here}
use Rattle.run_laws.specs.FollowsLaws.{edge_front}
use Rattle.run_laws.specs.Good.{Extends, TellsInstrs, TellsPhis, ValidIsGood, ValidIsGoodByInstrs, basis_of}
use Rattle.run_laws.specs.ItemsLaws.{OfBlock, OfNodes, of_items}
use Rattle.run_laws.specs.Known.{Among, BlockGood, ConditionGood, InstrGood, InstrsGood, PhiGood}
use Rattle.run_laws.specs.Makings.{Makings, making_of, makings_of}

-- ---- what fits kinds fits more kinds

-- a source that names a component has a kind
source_has : (kinds : Kinds) (id : ValueId) (swizzle : List ℕ) → 1 ≤ length swizzle → AllByRecursion (λ entry. entry < count_in kinds id) swizzle → (kind : Kind) × (kinds id ≡ Some kind)
source_has kinds id [] some names = absurd (omega (arith, some))
source_has kinds id (entry ∷ swizzle) some names = by (kinds id) refl where
  by : (found : Option Kind) → kinds id ≡ found → (kind : Kind) × (kinds id ≡ Some kind)
  by None is = let within : entry < 0 = subst (λ (found : Option Kind). entry < option_map_or (λ kind. kind.count) found 0) is names.0 in absurd (omega (arith, within))
  by (Some kind) is = (kind, is)

module _ (kinds other : Kinds) (extends : Extends kinds other) where
  source_same : (src : Src) → IsSwizzle src.swizzle → NamesComponents other src → kinds src.value ≡ other src.value
  source_same src swizzle names = let has = source_has other src.value src.swizzle swizzle.some names in extends src.value has.0 has.1 ∙ sym has.1

  widths_same : (srcs : List Src) → AllByRecursion (λ src. IsSwizzle src.swizzle) srcs → AllByRecursion (NamesComponents other) srcs → map (λ src. width_in other src.value) srcs ≡ map (λ src. width_in kinds src.value) srcs
  widths_same [] swizzles names = refl
  widths_same (src ∷ srcs) swizzles names =
      let one = sym (source_same src swizzles.0 names.0) in
      let rest = widths_same srcs swizzles.1 names.1 in
      λ i. option_map_or (λ kind. kind.width) (one i) W1 ∷ rest i

  names_same : (srcs : List Src) → AllByRecursion (λ src. IsSwizzle src.swizzle) srcs → AllByRecursion (NamesComponents other) srcs → AllByRecursion (NamesComponents kinds) srcs
  names_same [] swizzles names = tt
  names_same (src ∷ srcs) swizzles names = (
    subst (λ (found : Option Kind). AllByRecursion (λ entry. entry < option_map_or (λ kind. kind.count) found 0) src.swizzle) (sym (source_same src swizzles.0 names.0)) names.0,
    names_same srcs swizzles.1 names.1,
  )

  output_fits : (slot : Option Kind) (src : ValueId) → HasKindThat slot (λ kind. other src ≡ Some kind) → HasKindThat slot (λ kind. kinds src ≡ Some kind)
  output_fits None src fits = fits
  output_fits (Some kind) src fits = extends src kind fits

  storable_fits : (src : ValueId) (found : Option Kind) → other src ≡ found → HasKindThat found IsStorable → HasKindThat (kinds src) IsStorable
  storable_fits src None is fits = absurd fits
  storable_fits src (Some kind) is fits = subst (λ (found : Option Kind). HasKindThat found IsStorable) (sym (extends src kind is)) fits

  pub fits_more : (inputs outputs : List Kind) (buffers : ℕ) (instr : Instr) → IsShapedInstr instr → FitsIn other inputs outputs buffers instr → FitsIn kinds inputs outputs buffers instr
  fits_more inputs outputs buffers (Alu id op kind srcs) shaped fits = record {
    widths = subst (Fits op kind.width) (widths_same srcs shaped.2 fits.names) fits.widths;
    counts = fits.counts;
    names = names_same srcs shaped.2 fits.names;
  }
  fits_more inputs outputs buffers (Const id kind comps) shaped fits = fits
  fits_more inputs outputs buffers (Undef id kind) shaped fits = fits
  fits_more inputs outputs buffers (Input id kind slot) shaped fits = fits
  fits_more inputs outputs buffers (Output effect slot src) shaped fits = output_fits (slice_get outputs slot) src fits
  fits_more inputs outputs buffers (LoadBuf id kind buffer offset) shaped fits = (fits.0, extends offset _ fits.1, fits.2)
  fits_more inputs outputs buffers (StoreBuf effect buffer offset src) shaped fits = (fits.0, extends offset _ fits.1, storable_fits src (other src) refl fits.2)

-- ---- the items of a valid shader

pub record ItemGood (s : Shader) (Q : Item → Type 0) (item : Item) : Type 0 where
  pub shaped : IsShapedItem item
  pub fits : ItemFits s item
  pub found : IsFound (items s.body) item
  pub other : Q item

items_good : (s : Shader) (other : Item → Type 0) → IsShaped s → Valid s → AllByRecursion other (items s.body) → AllByRecursion (ItemGood s other) (items s.body)
items_good s other shaped valid more =
    let list = items s.body in
    let one = all_both IsShapedItem (ItemFits s) list shaped.items (typed-from_valid s valid).items in
    let two = all_both (IsFound (items s.body)) other list (items_found s shaped) more in
    all_each (λ item. (IsShapedItem item × ItemFits s item) × (IsFound (items s.body) item × other item)) (ItemGood s other)
    (λ item h. record { shaped = h.0.0; fits = h.0.1; found = h.1.0; other = h.1.1 }) list
    (all_both (λ item. IsShapedItem item × ItemFits s item) (λ item. IsFound (items s.body) item × other item) list one two)

-- a fact of items beside a fact along the walk
abbrev BlockOf : (Block → List Edge → List Edge → Type 0) → (Item → Type 0) → Block → List Edge → List Edge → Type 0
BlockOf G Q b edges all = G b edges all × OfBlock Q b

abbrev ConditionOf : (ValueId → List Edge → Type 0) → (Item → Type 0) → ValueId → List Edge → Type 0
ConditionOf H Q condition edges = H condition edges × ((id : IfId) × Q (IfHead id condition))

each_of : (G : Block → List Edge → List Edge → Type 0) (H : ValueId → List Edge → Type 0) (Q : Item → Type 0) (nodes : Nodes) (edges back : List Edge)
    → Each G H nodes edges back → OfNodes Q nodes → Each (BlockOf G Q) (ConditionOf H Q) nodes edges back
each_of G H Q Nil edges back each all = each
each_of G H Q (BlockThen b rest) edges back each all = ((each.0, all.0), each_of G H Q rest (block_flow b edges).falls [] each.1 all.1)
each_of G H Q (IfThen id condition first second rest) edges back each all = (
  each.0,
  (each.1, (id, all.0)),
  each_of G H Q first edges [] each.2 all.1,
  each_of G H Q second edges [] each.3 all.2,
  each_of G H Q rest (either (walk first edges) (walk second edges)).falls [] each.4 all.3,
)
each_of G H Q (LoopThen id body rest) edges back each all =
    (each.0, each_of G H Q body edges (backs (walk body edges)) each.1 all.0, each_of G H Q rest (out_of_loop (walk body edges)).falls [] each.2 all.1)

-- ---- edges at their places

-- the edges by which the walk enters a block are among all of its edges
abbrev WithAmong : (Block → List Edge → List Edge → Type 0) → Block → List Edge → List Edge → Type 0
WithAmong G b edges all = G b edges all × Among edges all

each_among : (G : Block → List Edge → List Edge → Type 0) (H : ValueId → List Edge → Type 0) (nodes : Nodes) (edges back : List Edge) → Each G H nodes edges back → Each (WithAmong G) H nodes edges back
each_among G H Nil edges back each = each
each_among G H (BlockThen b rest) edges back each = ((each.0, λ edge is. edge_front edge edges back is), each_among G H rest (block_flow b edges).falls [] each.1)
each_among G H (IfThen id condition first second rest) edges back each = (
  each.0,
  each.1,
  each_among G H first edges [] each.2,
  each_among G H second edges [] each.3,
  each_among G H rest (either (walk first edges) (walk second edges)).falls [] each.4,
)
each_among G H (LoopThen id body rest) edges back each = (each.0, each_among G H body edges (backs (walk body edges)) each.1, each_among G H rest (out_of_loop (walk body edges)).falls [] each.2)

-- a block without a phi, or one all of whose edges come from blocks
abbrev IsNamed : Block → List Edge → List Edge → Type 0
IsNamed b edges all = (b.phis ≡ []) ⊎ AllByRecursion HasBlock all

each_named : (s : Shader) → Valid s → Each IsNamed NoFact s.body (entry ∷ []) []
each_named s valid =
    let opens = valid-first_opens s valid in
    subst (λ body. Each IsNamed NoFact body (entry ∷ []) []) (sym opens.2) (
      inl opens.3.phis,
      each_map BlockNamed IsNamed ConditionNamed NoFact (λ b edges all named. inr named.1) (λ condition edges named. tt) opens.1 (block_flow opens.0 (entry ∷ [])).falls [] opens.3.named,
    )

-- the number of each phi is one of those that the phis define
phis_among : (phis : List Phi) → AllByRecursion (λ phi. IsOneOf (phis_define phis) phi.value.0) phis
phis_among [] = tt
phis_among (phi ∷ phis) = (
  one_of-here phi.value.0 (phis_define phis),
  all_each (λ p. IsOneOf (phis_define phis) p.value.0) (λ p. IsOneOf (phis_define (phi ∷ phis)) p.value.0) (λ p is. one_of-back (phi.value.0 ∷ []) (phis_define phis) p.value.0 is) phis (phis_among phis),
)

-- what is in no set of the edges, where there is one, is not in all of them
not_met : (edges : List Edge) (n : ℕ) → IsReached edges → AllByRecursion (λ edge. edge.set n ≡ false) edges → meet edges n ≡ false
not_met [] n reached new = absurd (true≢false reached)
not_met (edge ∷ edges) n reached new = ap (λ test. test && meet edges n) new.0

-- ---- parts at their places

module _ (s : Shader) (kinds : Kinds) (makings : Makings) (other : Item → Type 0) (extends : Extends kinds (kind_at s.body)) (instrs_told : TellsInstrs kinds makings s.body) (phis_told : TellsPhis (basis_of s kinds makings other) s.body) where
  instr_good : (set : Set) (instr : Instr) → ItemGood s other (InstrItem instr) → InstrsWalked set (instr ∷ []) → AreNew set (instr ∷ []) → InstrGood (basis_of s kinds makings other) set instr
  instr_good set instr good walked new = record {
    reads = walked.0;
    shaped = good.shaped;
    fits = fits_more kinds (kind_at s.body) extends s.inputs s.outputs s.buffers instr good.shaped good.fits;
    defines = λ id is.
        let found : instr_defining id s.body ≡ Some instr = (good.found id is).found in
        let kind = kind_of_target-found instr id is in
        record {
          new = new.0 id is;
          kind = extends id kind.0 (kind_at-defines s.body id instr kind.0 found kind.1) ∙ sym kind.1;
          making = instrs_told id instr found;
        };
    other = good.other;
  }

  instrs_good : (set : Set) (instrs : List Instr) → AllByRecursion (λ instr. ItemGood s other (InstrItem instr)) instrs → InstrsWalked set instrs → AreNew set instrs → InstrsGood (basis_of s kinds makings other) set instrs
  instrs_good set [] good walked new = tt
  instrs_good set (instr ∷ instrs) good walked new = (instr_good set instr good.0 (walked.0, tt) (new.0, tt), instrs_good (set_after instr set) instrs good.1 walked.1 new.1)

  phi_kind : (phi : Phi) → PhiFound (items s.body) phi → kind_at s.body phi.value ≡ Some phi.kind
  phi_kind phi found =
      ap (λ own. option_or (option_and_then kind_of_target own) (option_map (λ (p : Phi). p.kind) (phi_defining phi.value s.body))) found.none
      ∙ ap (λ own. option_map (λ (p : Phi). p.kind) own) found.found

  phis_good : (edges all : List Edge) (phis : List Phi) → IsReached edges → Among edges all → AllByRecursion HasBlock all → AllByRecursion (λ phi. ItemGood s other (PhiItem phi)) phis
      → AllByRecursion (PhiWalked all) phis → AllByRecursion (λ phi. AllByRecursion (λ edge. edge.set phi.value.0 ≡ false) edges) phis → AllByRecursion (PhiGood (basis_of s kinds makings other) edges all) phis
  phis_good edges all [] reached among named good walked new = tt
  phis_good edges all (phi ∷ phis) reached among named good walked new = (
    record {
      new = not_met edges phi.value.0 reached new.0;
      kind = extends phi.value phi.kind (phi_kind phi good.0.found);
      fits = all_each (λ (source : PhiSource). kind_at s.body source.value ≡ Some phi.kind) (λ source. kinds source.value ≡ Some phi.kind) (λ source is. extends source.value phi.kind is) phi.sources good.0.fits;
      walked = walked.0;
      made = λ making of. phis_told phi making good.0.found.found good.0.found.none of edges all (record { reached = reached; among = among; new = new.0; named = named; walked = walked.0 });
      other = good.0.other;
    },
    phis_good edges all phis reached among named good.1 walked.1 new.1,
  )

  block_good : (b : Block) (edges all : List Edge) → BlockOf (WithAmong (WithNew BlockDefines)) (ItemGood s other) b edges all → IsNamed b edges all → BlockGood (basis_of s kinds makings other) b edges all
  block_good b edges all h named reached =
      let defines = h.0.0.0 reached in
      let new = h.0.0.1 reached in
      let fresh = all_each (λ phi. IsOneOf (phis_define b.phis) phi.value.0) (λ phi. AllByRecursion (λ edge. edge.set phi.value.0 ≡ false) edges)
      (λ phi is. all_each (EdgeOut (block_defines b)) (λ edge. edge.set phi.value.0 ≡ false) (λ edge out. out phi.value.0 (one_of-front (phis_define b.phis) (instrs_define b.instrs) phi.value.0 is)) edges new.out)
      b.phis (phis_among b.phis) in
      record {
        phis = ⊎_elim
            (λ none. subst (AllByRecursion (PhiGood (basis_of s kinds makings other) edges all)) (sym none) tt)
            (λ blocks. phis_good edges all b.phis reached h.0.1 blocks h.1.0 defines.0 fresh) named;
        instrs = instrs_good (set_after_phis b.phis (meet edges)) b.instrs h.1.1 defines.1 new.instrs;
      }

  condition_good : (condition : ValueId) (edges : List Edge) → ConditionOf ConditionDefined (ItemGood s other) condition edges → ConditionGood (basis_of s kinds makings other) condition edges
  condition_good condition edges h reached = record {
    defined = h.0 reached;
    kind = extends condition condition_kind h.1.1.fits;
    other = (h.1.0, h.1.1.other);
  }

  pub each_good : IsShaped s → Valid s → AllByRecursion other (items s.body)
      → Each (BlockGood (basis_of s kinds makings other)) (ConditionGood (basis_of s kinds makings other)) s.body (entry ∷ []) []
  each_good shaped valid more =
      each_both (BlockOf (WithAmong (WithNew BlockDefines)) (ItemGood s other)) IsNamed (BlockGood (basis_of s kinds makings other))
      (ConditionOf ConditionDefined (ItemGood s other)) NoFact (ConditionGood (basis_of s kinds makings other))
      block_good (λ condition edges h none. condition_good condition edges h) s.body (entry ∷ []) []
      (each_of (WithAmong (WithNew BlockDefines)) ConditionDefined (ItemGood s other) s.body (entry ∷ []) []
      (each_among (WithNew BlockDefines) ConditionDefined s.body (entry ∷ []) [] (fresh_in s BlockDefines ConditionDefined shaped (parts-from_valid s valid).whole.defines))
      (of_items (ItemGood s other) s.body (items_good s other shaped valid more)))
      (each_named s valid)

pub valid-is_good : ValidIsGood
valid-is_good s kinds makings other shaped valid extends instrs phis more = each_good s kinds makings other extends instrs phis shaped valid more

pub valid-is_good_by_instrs : ValidIsGoodByInstrs
valid-is_good_by_instrs s kinds other shaped valid extends more =
    each_good s kinds (makings_of kinds s.body) other extends
    (λ id instr found. ap (option_and_then (making_of kinds)) found)
    (λ phi making found none of edges all at. absurd (none-some making (sym (ap (option_and_then (making_of kinds)) none) ∙ of)))
    shaped valid more
