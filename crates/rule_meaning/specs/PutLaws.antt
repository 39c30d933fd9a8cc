-- A step by a rule that holds keeps a shader shaped, valid and what it means, at all sizes and wherever the instruction stands.
use Rattle.std.specs.Prelude.{◌≡◌, refl, ◌<◌, ◌^◌, ◌⊎◌, ℕ, suc, true, false, ◌||◌, List, [], ◌∷◌, length, map, nat_eq, Option, Some, None, slice_get, slice_index}
use Rattle.std.proofs.Common.{sym, ◌∙◌, ap, ap₂, subst, arith, inl, inr, ⊎_elim}
use Rattle.std.proofs.lemmas.Bool.{eq-eqb, false≢true, lt-ltb, ltb-true, or_cases, or_left}
use Rattle.std.proofs.lemmas.List.{ext_get_or, length-map}
use Rattle.std.proofs.lemmas.Option.{same_Some}
use Rattle.std.specs.List.{AllByRecursion, flat_map, list_all, list_any, slice_index_or}
use Rattle.std.specs.Option.{option_map_or, option_to_list}
use Rattle.list_laws.specs.AllLaws.{all_each, all_of_map}
use Rattle.nir_ops.specs.declared.op.Op.{Op}
use Rattle.nir_ops.specs.declared.width.Width.{Width}
use Rattle.nir_ops.specs.declared.width.Width.TheVariants.{W1}
use Rattle.nir_ops.specs.Width.{width_bits}
use Rattle.nir_ir.specs.declared.ids.ValueId.{ValueId}
use Rattle.nir_ir.specs.declared.instr.Instr.{Instr}
use Rattle.nir_ir.specs.declared.instr.Instr.TheVariants.{Alu, Const, Undef, Input, Output, LoadBuf, StoreBuf}
use Rattle.nir_ir.specs.declared.instr.Src.{Src}
use Rattle.nir_ir.specs.declared.kind.Kind.{Kind}
use Rattle.nir_ir.specs.Definitions.{Kinds, instr_defining, instrs, instr_of, is_target, kind_at, kind_of_target, width_at, width_in}
use Rattle.nir_ir.specs.Edits.{ArePlaced, with_news}
use Rattle.nir_ir.specs.Found.{found_all}
use Rattle.nir_ir.specs.Items.{Item, BlockHead, IfHead, InstrItem, JumpItem, LoopHead, PhiItem, items, reads, target, values_defined}
use Rattle.nir_ir.specs.Shader.{Shader}
use Rattle.nir_ir.specs.Shaped.{IsCount, IsOneOf, IsShaped}
use Rattle.edit_laws.specs.ItemsLaws.{target_numbers, value_defined}
use Rattle.edit_laws.specs.KindsLaws.{kind_kept, news_told}
use Rattle.edit_laws.specs.NumbersLaws.{member_has, one_of-back, one_of-front}
use Rattle.edit_laws.specs.PlacedLaws.{AreShaped}
use Rattle.nir_validate.specs.Each.{InstrsWalked}
use Rattle.nir_validate.specs.Edges.{Set, set_after, with_member}
use Rattle.nir_validate.specs.Kept.{IsRead, ReadsIn}
use Rattle.nir_validate.specs.Typed.{InstrFits, ItemFits}
use Rattle.nir_validate.specs.TypedLaws.{typed-from_valid}
use Rattle.nir_validate.specs.Valid.{Valid}
use Rattle.walk_laws.specs.GrownLaws.{IsBelow}
use Rattle.walk_laws.specs.PlacedLaws.{IsInPlace, made_by}
use Rattle.walk_laws.specs.SetsLaws as sets
use Rattle.nir_mean.specs.Known.{Equation, IsKnown}
use Rattle.nir_mean.specs.Points as points
use Rattle.nir_mean.specs.Points.{defining_target, kind_at-defines}
use Rattle.nir_mean.specs.Reads.{alu_mean-same, with_value-here, with_value-other}
use Rattle.nir_mean.specs.Run.{Setting, run_instr, run_instrs, value_of}
use Rattle.nir_mean.specs.Same.{InputsFit}
use Rattle.nir_mean.specs.State.{State}
use Rattle.run_laws.specs.Agree.{Agree}
use Rattle.run_laws.specs.EquationsLaws.{makings_tell}
use Rattle.run_laws.specs.InPlace.{ComputesSame, Keeps, basis_for, values_below}
use Rattle.run_laws.specs.InPlaceLaws.{in_place-keeps, kind_below}
use Rattle.run_laws.specs.KindsLaws.{all_get}
use Rattle.run_laws.specs.Known.{InstrGood, Known, under}
use Rattle.run_laws.specs.KnownLaws.{closed-instr, elsewhere, known-instr}
use Rattle.run_laws.specs.Makings.{Closed, makings_of}
use Rattle.run_laws.specs.Simulates.{Tied}
use Rattle.rule_term.specs.Formed.{IsFormed, is_application}
use Rattle.rule_term.specs.Holds.{Holds, is_met, is_word, values_of}
use Rattle.rule_term.specs.Rule.{Rule}
use Rattle.rule_term.specs.Terms.{Terms, Nil, VarThen, LitThen, AppThen}
use Rattle.rule_term.specs.Typings.{first_of, is_typing, occurrences, replace_part, roots, search_part}
use Rattle.nir_search.specs.declared.hit.Bind.{Bind}
use Rattle.nir_search.specs.Match.{match_of}
use Rattle.nir_search.specs.Put.{Root, bound_to, root_of}
use Rattle.nir_search.specs.Steps.{count_of, put, put_typed, typing_with}
use Rattle.rule_meaning.specs.BuiltLaws.{AreSized, AreSources, HoldsBound, KindsTold}
use Rattle.rule_meaning.specs.BuiltValuesLaws.{env_at, env_same}
use Rattle.rule_meaning.specs.Env.{at_place, env}
use Rattle.rule_meaning.specs.Fit.{IsFit}
use Rattle.rule_meaning.specs.Found.{found_sound}
use Rattle.rule_meaning.specs.Hits.{Matched, matched}
use Rattle.rule_meaning.specs.Matched.{IsMatch, binds_count, root_met, sizes_bound, sizes_met, some_map, value_met, words_met}
use Rattle.rule_meaning.specs.Parts.{all_both}
use Rattle.rule_meaning.specs.RootBuiltLaws.{root_fits, root_kind, root_length, root_placed, root_reads, root_value}
use Rattle.rule_meaning.specs.RootLaws.{SourcesIn, bound_below, every}
use Rattle.rule_meaning.specs.SizedLaws.{TypingSays, each_passes, each_var, replace_sized, replace_vars, typing_says}
use Rattle.rule_meaning.specs.TypingLaws.{typing_is}

-- what a step by a rule keeps
abbrev pub PutKeeps : Type 0
PutKeeps =
    (s : Shader) (rule : Rule) (variant : ℕ) (value : ValueId) (binds : List Bind) (t : Shader) → IsShaped s → Valid s → IsFormed rule → Holds rule
    → match_of rule variant s.body value ≡ Some binds → put rule variant s value binds ≡ Some t → Keeps s t

-- ---- of a valid shader what an opcode writes fits

instrs_fit : (s : Shader) (list : List Item) → AllByRecursion (ItemFits s) list → AllByRecursion (InstrFits s) (flat_map instr_of list)
instrs_fit s [] all = tt
instrs_fit s (BlockHead id ∷ list) all = instrs_fit s list all.1
instrs_fit s (PhiItem phi ∷ list) all = instrs_fit s list all.1
instrs_fit s (InstrItem instr ∷ list) all = (all.0, instrs_fit s list all.1)
instrs_fit s (JumpItem jump ∷ list) all = instrs_fit s list all.1
instrs_fit s (IfHead id condition ∷ list) all = instrs_fit s list all.1
instrs_fit s (LoopHead id ∷ list) all = instrs_fit s list all.1

found_fits : (s : Shader) → Valid s → (value : ValueId) (instr : Instr) → instr_defining value s.body ≡ Some instr → InstrFits s instr
found_fits s valid value instr found = found_all (InstrFits s) (is_target value) (instrs s.body) instr (instrs_fit s (items s.body) (typed-from_valid s valid).items) found

all_fit : (s : Shader) → Valid s → (set : Set) → IsFit s.body set
all_fit s valid set = record {
  widths = λ value op kind srcs inside found. (found_fits s valid value (Alu value op kind srcs) found).widths;
  counts = λ value op kind srcs inside found. (found_fits s valid value (Alu value op kind srcs) found).counts;
  inside = λ value op kind srcs inside found. (found_fits s valid value (Alu value op kind srcs) found).names;
}

-- what the instruction that defines a value reads is defined
read_defined : (s : Shader) → IsShaped s → (value : ValueId) (op : Op) (kind : Kind) (srcs : List Src) → instr_defining value s.body ≡ Some (Alu value op kind srcs) → AllByRecursion (λ src. IsOneOf (values_defined s.body) src.value.0) srcs
read_defined s shaped value op kind srcs found =
    all_of_map (λ (src : Src). src.value) (λ v. IsOneOf (values_defined s.body) v.0) srcs
    (all_of_map (λ (v : ValueId). v.0) (IsOneOf (values_defined s.body)) (map (λ (src : Src). src.value) srcs) (found_sound s shaped value (Alu value op kind srcs) found).1)

-- each view that is bound is one that some variable takes
each_bind : (P : Bind → Type 0) (binds : List Bind) → ((var : ℕ) → var < length binds → P (bound_to binds var)) → AllByRecursion P binds
each_bind P [] h = tt
each_bind P (view ∷ binds) h = (h 0 (omega arith), each_bind P binds (λ var less. h (suc var) (omega (arith, less))))

-- instructions that are walked read what was in the set, or what they define
reads_known : (set : Set) (from : List ℕ) (done : List ℕ) (news : List Instr) → ((n : ℕ) → set n ≡ true → IsOneOf from n ⊎ IsOneOf done n) → (all : List ℕ)
    → ((n : ℕ) → IsOneOf done n → IsOneOf all n) → ((n : ℕ) → IsOneOf (flat_map target_numbers news) n → IsOneOf all n) → InstrsWalked set news
    → AllByRecursion (λ new. AllByRecursion (λ id. IsOneOf from id.0 ⊎ IsOneOf all id.0) (reads new)) news
reads_known set from done [] split all old more walked = tt
reads_known set from done (new ∷ news) split all old more walked =
    (each_read (reads new) walked.0, reads_known (set_after new set) from all news next all (λ n is. is) (λ n is. more n (one_of-back (target_numbers new) (flat_map target_numbers news) n is)) walked.1)
  where
    each_read : (list : List ValueId) → ((id : ValueId) → (at : ℕ) × (slice_get list at ≡ Some id) → set id.0 ≡ true) → AllByRecursion (λ id. IsOneOf from id.0 ⊎ IsOneOf all id.0) list
    each_read [] inside = tt
    each_read (id ∷ list) inside = (
      ⊎_elim (λ first. inl first) (λ second. inr (old id.0 second)) (split id.0 (inside id (0, refl))),
      each_read list (λ other at. inside other (suc at.0, at.1)),
    )

    by_target : (found : Option ValueId) → ((n : ℕ) → IsOneOf (map (λ (id : ValueId). id.0) (option_to_list found)) n → IsOneOf all n) → (n : ℕ) → with_member found set n ≡ true → IsOneOf from n ⊎ IsOneOf all n
    by_target None own n is = ⊎_elim (λ first. inl first) (λ second. inr (old n second)) (split n is)
    by_target (Some id) own n is =
        ⊎_elim (λ same. inr (own n (subst (λ b. (b || false) ≡ true) (sym same) refl))) (λ before. ⊎_elim (λ first. inl first) (λ second. inr (old n second)) (split n before))
        (or_cases (nat_eq n id.0) (set n) is)

    next : (n : ℕ) → set_after new set n ≡ true → IsOneOf from n ⊎ IsOneOf all n
    next n is = by_target (target new) (λ k own. more k (one_of-front (target_numbers new) (flat_map target_numbers news) k own)) n is

-- the size of the root is the first
first_root : (terms : Terms) (sizes : List Width) (width : Width) → is_application terms ≡ true → roots terms sizes ≡ width ∷ [] → first_of sizes ≡ width
first_root Nil sizes width application is = absurd (false≢true application)
first_root (VarThen var constant size cond rest) sizes width application is = absurd (false≢true application)
first_root (LitThen number boolean rest) sizes width application is = absurd (false≢true application)
first_root (AppThen op size once args rest) sizes width application is = ap first_of is

-- ---- a match in a valid shader

module _ (s : Shader) (shaped : IsShaped s) (valid : Valid s) (rule : Rule) (formed : IsFormed rule) (holds : Holds rule) (variant : ℕ) (value : ValueId) (binds : List Bind) (found : match_of rule variant s.body value ≡ Some binds)
    (typing : List Width) (typing_found : typing_with rule (sizes_met s rule variant value) ≡ Some typing) where
  hit : Matched s value rule.vars binds
  hit = matched s shaped rule formed variant value binds found

  aims : hit.root.instr.id ≡ value
  aims = same_Some hit.root.instr.id value (defining_target s.body value (Alu hit.root.instr.id hit.root.op hit.root.instr.kind hit.root.srcs) hit.root.instr.is)

  -- the instruction at which the rule matches
  abbrev old : Instr
  old = Alu value hit.root.op hit.root.instr.kind hit.root.srcs

  defined : instr_defining value s.body ≡ Some old
  defined = hit.root.instr.is ∙ ap (λ id. Some (Alu id hit.root.op hit.root.instr.kind hit.root.srcs)) aims

  kind_is : kind_at s.body value ≡ Some hit.root.instr.kind
  kind_is = kind_at-defines s.body value old hit.root.instr.kind defined refl

  count_is : count_of s value ≡ hit.root.instr.kind.count
  count_is = ap (λ found. option_map_or (λ (k : Kind). k.count) found 0) kind_is

  low : value.0 < s.next_value
  low = member_has (λ v. v < s.next_value) (values_defined s.body) value.0 shaped.below (value_defined value old s.body defined)

  typed : (is_typing rule typing ≡ true) × (search_part rule typing ≡ sizes_met s rule variant value)
  typed = typing_is rule (sizes_met s rule variant value) typing typing_found

  says : TypingSays rule typing
  says = typing_says rule typing typed.0

  abbrev sizes : List Width
  sizes = replace_part rule typing

  abbrev root : Root
  root = root_of binds value (count_of s value) rule.replace sizes s.next_value

  abbrev t : Shader
  t = with_news s value root.instrs root.next

  abbrev kinds : Kinds
  kinds = kind_at t.body

  abbrev placed : ArePlaced s.next_value root.next value root.instrs
  placed = root_placed binds value (count_of s value) rule.replace sizes s.next_value formed.one_replace

  -- a match by all values, and by those of a set
  in_set : (set : Set) → points.Closed s.body set → set value.0 ≡ true → IsMatch s rule variant value hit.root.instr.kind binds set
  in_set set closed inside = record { shaped = shaped; formed = formed; kind_is = kind_is; found = found; closed = closed; fit = all_fit s valid set; inside = inside }

  wholly : IsMatch s rule variant value hit.root.instr.kind binds every
  wholly = in_set every (λ _ _ _ _ _ _ _ _. refl) refl

  root_width : first_of sizes ≡ hit.root.instr.kind.width
  root_width =
      sym says.root
      ∙ ap first_of typed.1
      ∙ first_root rule.search (sizes_met s rule variant value) hit.root.instr.kind.width formed.application (root_met s rule variant value hit.root.instr.kind binds every wholly)

  same_kind : kind_of_target placed.last ≡ kind_of_target old
  same_kind =
      let kind_of : Width → ℕ → Option Kind = λ w n. Some (record { width = w; count = n }) in
      root_kind binds value (count_of s value) rule.replace sizes s.next_value formed.one_replace
      ∙ ap₂ kind_of root_width count_is

  kept : (id : ValueId) → id.0 < s.next_value → kinds id ≡ kind_at s.body id
  kept id less = kind_kept s value id old root.instrs root.next shaped defined placed low same_kind less

  told : KindsTold kinds root.instrs
  told = news_told s value old root.instrs root.next shaped defined placed low

  -- what the variables take
  below_defined : (var : ℕ) → var < rule.vars → (bound_to binds var).value.0 < s.next_value
  below_defined var less = member_has (λ v. v < s.next_value) (values_defined s.body) (bound_to binds var).value.0 shaped.below (hit.bound var less).value

  sources : AreSources kinds s.next_value (count_of s value) rule.vars binds
  sources var less =
      let is = bound_below s shaped (all_fit s valid every) every (count_of s value) (λ v inside op kind srcs at. all_each (λ src. IsOneOf (values_defined s.body) src.value.0) (λ src. every src.value.0 ≡ true) (λ src own. refl) srcs (read_defined s shaped v op kind srcs at))
      rule formed variant value binds refl (λ op kind srcs at. all_each (λ src. IsOneOf (values_defined s.body) src.value.0) (λ src. every src.value.0 ≡ true) (λ src own. refl) srcs (read_defined s shaped value op kind srcs at)) found var less in
      record {
        places = is.viewed.places;
        comps = subst (λ (found : Option Kind). AllByRecursion (λ c. c < option_map_or (λ (k : Kind). k.count) found 0) (bound_to binds var).comps) (sym (kept (bound_to binds var).value (below_defined var less))) is.viewed.comps;
        swizzle = (hit.bound var less).comps;
        low = below_defined var less;
      }

  abbrev width_of : ℕ → Width
  width_of var = width_at s.body (bound_to binds var).value

  met_sized : AllByRecursion (λ o. width_of o.var ≡ o.width) (occurrences rule.search (search_part rule typing))
  met_sized = subst (λ list. AllByRecursion (λ o. width_of o.var ≡ o.width) (occurrences rule.search list)) (sym typed.1) (sizes_bound s rule variant value hit.root.instr.kind binds every wholly)

  replaced_sized : AreSized kinds binds (occurrences rule.replace sizes)
  replaced_sized =
      all_both (λ o. width_of o.var ≡ o.width) (λ o. o.var < rule.vars) (λ o. width_in kinds (bound_to binds o.var).value ≡ o.width) (occurrences rule.replace sizes)
      (λ o own less. ap (λ found. option_map_or (λ (k : Kind). k.width) found W1) (kept (bound_to binds o.var).value (below_defined o.var less)) ∙ own)
      (replace_sized rule typing width_of says formed.numbered formed.replace met_sized) (replace_vars rule.vars rule.replace sizes formed.replace)

  counted : IsCount (count_of s value)
  counted = hit.root.count

  -- what the variables take is in each set that holds what the old instruction reads, with all of which that is made
  bound_in : (set : Set) → ((v : ValueId) → set v.0 ≡ true → SourcesIn s set v) → ReadsIn set old → HoldsBound set rule.vars binds
  bound_in set closed reads_in var less =
      (bound_below s shaped (all_fit s valid every) set (count_of s value) closed rule formed variant value binds refl own found var less).inside
    where
      own : SourcesIn s set value
      own op kind srcs at = all_each_read srcs (λ id there. reads_in id (subst (λ i. IsRead i id) (same_Some (Alu value op kind srcs) old (sym at ∙ defined)) there)) where
        all_each_read : (list : List Src) → ((id : ValueId) → (at : ℕ) × (slice_get (map (λ (src : Src). src.value) list) at ≡ Some id) → set id.0 ≡ true) → AllByRecursion (λ src. set src.value.0 ≡ true) list
        all_each_read [] inside = tt
        all_each_read (src ∷ list) inside = (inside src.value (0, refl), all_each_read list (λ id there. inside id (suc there.0, there.1)))

  sources_made : (set : Set) → sets.Closed (made_by s.body) set → (v : ValueId) → set v.0 ≡ true → SourcesIn s set v
  sources_made set closed v inside op kind srcs at =
      all_of_map (λ (src : Src). src.value) (λ id. set id.0 ≡ true) srcs (subst (λ found. AllByRecursion (λ id. set id.0 ≡ true) (option_map_or reads found [])) at (closed v inside))

  walks : (set more : Set) → sets.Closed (made_by s.body) set → ReadsIn set old → IsBelow set more → InstrsWalked more root.instrs
  walks set more closed reads_in below =
      root_reads rule.vars (count_of s value) binds value rule.replace sizes s.next_value more formed.replace (λ var less. below (bound_to binds var).value.0 (bound_in set (sources_made set closed) reads_in var less))

  defined_set : Set
  defined_set n = list_any (nat_eq n) (values_defined s.body)

  is_shaped : AreShaped s root.instrs
  unfolding defined_set
  is_shaped = record {
    reads = reads_known defined_set (values_defined s.body) [] root.instrs (λ n is. inl is) (flat_map target_numbers root.instrs) (λ n is. absurd (false≢true is)) (λ n is. is)
        (root_reads rule.vars (count_of s value) binds value rule.replace sizes s.next_value defined_set formed.replace (λ var less. (hit.bound var less).value));
    each = (root_fits (record { kinds = kinds; inputs = []; repeats = 0 }) s.inputs s.outputs s.buffers s.next_value (count_of s value) rule.vars binds counted sources value rule.replace sizes formed.replace says.replace replaced_sized told).shaped;
  }

  in_place : IsInPlace s value old root.instrs root.next
  in_place = record {
    defined = defined;
    placed = placed;
    shaped = is_shaped;
    kind = same_kind;
    fits = (root_fits (record { kinds = kinds; inputs = []; repeats = 0 }) s.inputs s.outputs s.buffers s.next_value (count_of s value) rule.vars binds counted sources value rule.replace sizes formed.replace says.replace replaced_sized told).fits;
    reads = walks;
  }

  -- ---- what is known of the first shader by the kinds of the second

  module _ (set : Set) (state : State) (known : Known kinds (makings_of kinds s.body) set state) (closed : Closed (makings_of kinds s.body) set) where
    equation : (v : ValueId) → set v.0 ≡ true → (instr : Instr) → instr_defining v s.body ≡ Some instr → Equation s.body state.values instr (state.values v.0)
    equation v inside (Alu id op kind srcs) at =
        known.equations v _ inside (makings_tell kinds s.body v (Alu id op kind srcs) at)
        ∙ alu_mean-same kinds (kind_at s.body) op kind srcs state.values state.values (λ _ _. refl) (λ source there. kept source (source_low source there))
      where
        source_low : (source : ValueId) → (place : ℕ) × (slice_get (map (λ (src : Src). src.value) srcs) place ≡ Some source) → source.0 < s.next_value
        source_low source there =
            member_has (λ n. n < s.next_value) (values_defined s.body) source.0 shaped.below
            (all_get (λ (id : ValueId). IsOneOf (values_defined s.body) id.0) (map (λ (src : Src). src.value) srcs)
            (all_of_map (λ (id : ValueId). id.0) (IsOneOf (values_defined s.body)) (map (λ (src : Src). src.value) srcs) (found_sound s shaped v (Alu id op kind srcs) at).1) source there.0 there.1)
    equation v inside (Const id kind list) at = known.equations v _ inside (makings_tell kinds s.body v (Const id kind list) at)
    equation v inside (Undef id kind) at = tt
    equation v inside (Input id kind slot) at = tt
    equation v inside (Output effect slot src) at = tt
    equation v inside (LoadBuf id kind buffer offset) at = tt
    equation v inside (StoreBuf effect buffer offset src) at = tt

    closed_old : points.Closed s.body set
    closed_old v source op kind srcs inside at there =
        all_get (λ (id : ValueId). set id.0 ≡ true) (map (λ (src : Src). src.value) srcs) (closed v _ inside (makings_tell kinds s.body v (Alu v op kind srcs) at)) source there.0 there.1

    known_old : IsKnown s.body set state.values
    known_old = record {
      equal = λ v instr inside at. equation v inside instr at;
      kinds = λ v kind inside at. known.ranges v kind inside (kept v (kind_below s shaped v kind at) ∙ at);
      closed = closed_old;
    }

    sources_known : (v : ValueId) → set v.0 ≡ true → SourcesIn s set v
    sources_known v inside op kind srcs at =
        all_of_map (λ (src : Src). src.value) (λ id. set id.0 ≡ true) srcs (closed v _ inside (makings_tell kinds s.body v (Alu v op kind srcs) at))

  -- ---- the new instructions compute what the old one computes

  module _ (inputs : List (List ℕ)) (repeats : ℕ) (set : Set) (f g : State) (given : InputsFit s.inputs inputs) (good : InstrGood (basis_for s t) set old) (closed : Closed (makings_of kinds s.body) set)
      (tied : Tied (basis_for s t) (Agree (values_below s.next_value)) set f g) where
    abbrev m : Setting
    m = under (basis_for s t) inputs repeats

    -- the state of the first run behind the old instruction
    abbrev behind : State
    behind = run_instr m old f

    abbrev wider : Set
    wider = set_after old set

    inside : wider value.0 ≡ true
    inside = or_left (nat_eq value.0 value.0) (set value.0) (eq-eqb value.0 value.0 refl)

    closed_behind : Closed (makings_of kinds s.body) wider
    closed_behind = closed-instr (basis_for s t) set old good closed

    known_behind : Known kinds (makings_of kinds s.body) wider behind
    known_behind = known-instr (basis_for s t) inputs repeats given old set f good closed tied.known

    is_match : IsMatch s rule variant value hit.root.instr.kind binds wider
    is_match = in_set wider (closed_old wider behind known_behind closed_behind) inside

    says_known : IsKnown s.body wider behind.values
    says_known = known_old wider behind known_behind closed_behind

    -- both runs have the same of what the variables take
    holds_bound : HoldsBound set rule.vars binds
    holds_bound = bound_in set (sources_known set f tied.known closed) good.reads

    one_same : (var : ℕ) → var < rule.vars → g.values (bound_to binds var).value.0 ≡ behind.values (bound_to binds var).value.0
    one_same var less =
        let n = (bound_to binds var).value.0 in
        sym (tied.related n (holds_bound var less) (lt-ltb n s.next_value (below_defined var less)))
        ∙ sym (with_value-other value (value_of m old f) f.values n (elsewhere set n value (holds_bound var less) (good.defines value refl).new))

    long : length binds ≡ rule.vars
    long = binds_count s rule variant value hit.root.instr.kind binds wider is_match

    same_env : (place : ℕ) → env binds g.values place ≡ env binds behind.values place
    same_env place = env_same binds g.values behind.values place (each_bind (λ view. g.values view.value.0 ≡ behind.values view.value.0) binds (λ var less. one_same var (subst (λ n. var < n) long less)))

    lows : AllByRecursion (λ view. view.value.0 < s.next_value) binds
    lows = each_bind (λ view. view.value.0 < s.next_value) binds (λ var less. below_defined var (subst (λ n. var < n) long less))

    -- each variable has a word of its size
    words_old : (place : ℕ) → place < hit.root.instr.kind.count → (var : ℕ) → var < rule.vars → at_place behind.values place (bound_to binds var) < 2 ^ width_bits (width_of var)
    words_old place within var less =
        subst (λ x. x < 2 ^ width_bits (width_of var)) (env_at binds behind.values place var (subst (λ n. var < n) (sym long) less))
        (each_var (λ v. slice_index_or (env binds behind.values place) v 0 < 2 ^ width_bits (width_of v)) rule.vars rule.search (sizes_met s rule variant value) formed.numbered
        (all_both (λ o. is_word (env binds behind.values place) o ≡ true) (λ o. width_of o.var ≡ o.width) (λ o. slice_index_or (env binds behind.values place) o.var 0 < 2 ^ width_bits (width_of o.var)) (occurrences rule.search (sizes_met s rule variant value))
        (λ o word own. subst (λ w. slice_index_or (env binds behind.values place) o.var 0 < 2 ^ width_bits w) (sym own) (ltb-true (slice_index_or (env binds behind.values place) o.var 0) (2 ^ width_bits o.width) word))
        (each_passes (is_word (env binds behind.values place)) (occurrences rule.search (sizes_met s rule variant value)) (words_met s rule variant value hit.root.instr.kind binds wider is_match behind.values says_known place within).0)
        (sizes_bound s rule variant value hit.root.instr.kind binds wider is_match)) var less)

    words_new : (place : ℕ) → place < hit.root.instr.kind.count → (var : ℕ) → var < rule.vars → at_place g.values place (bound_to binds var) < 2 ^ width_bits (width_in kinds (bound_to binds var).value)
    words_new place within var less =
        subst (λ found. at_place g.values place (bound_to binds var) < 2 ^ width_bits (option_map_or (λ (k : Kind). k.width) found W1)) (sym (kept (bound_to binds var).value (below_defined var less)))
        (subst (λ comps. slice_index comps (slice_index (bound_to binds var).comps place) < 2 ^ width_bits (width_of var)) (sym (one_same var less)) (words_old place within var less))

    -- both sides of the rule have one value there
    sides : (place : ℕ) → place < hit.root.instr.kind.count → values_of rule.search (sizes_met s rule variant value) (env binds behind.values place) ≡ values_of rule.replace sizes (env binds behind.values place)
    sides place within =
        let words = env binds behind.values place in
        let met_here = words_met s rule variant value hit.root.instr.kind binds wider is_match behind.values says_known place within in
        ap (λ list. values_of rule.search list words) (sym typed.1)
        ∙ holds.equal typing typed.0 words (length-map binds (at_place behind.values place) ∙ long)
        (subst (λ list. list_all (is_word words) (occurrences rule.search list) ≡ true) (sym typed.1) met_here.0)
        (subst (λ list. list_all (is_met words) (occurrences rule.search list) ≡ true) (sym typed.1) met_here.1)

    made_here : (place : ℕ) → place < hit.root.instr.kind.count → slice_index ((run_instrs m root.instrs g).values value.0) place ≡ slice_index (behind.values value.0) place
    made_here place within =
        ap (λ list. slice_index list 0)
        (root_value m s.inputs s.outputs s.buffers s.next_value (count_of s value) rule.vars binds counted sources value lows long place (subst (λ n. place < n) (sym count_is) within) rule.replace sizes g formed.one_replace formed.replace
        says.replace replaced_sized told (words_new place within)
        ∙ ap (values_of rule.replace sizes) (same_env place)
        ∙ sym (sides place within)
        ∙ value_met s rule variant value hit.root.instr.kind binds wider is_match behind.values says_known place within)

    as_long : length ((run_instrs m root.instrs g).values value.0) ≡ hit.root.instr.kind.count
    as_long = root_length m s.inputs s.outputs s.buffers s.next_value (count_of s value) rule.vars binds counted sources value rule.replace sizes g formed.one_replace formed.replace ∙ count_is

    computed : (run_instrs m root.instrs g).values value.0 ≡ value_of m old f
    computed =
        ext_get_or 0 ((run_instrs m root.instrs g).values value.0) (behind.values value.0)
        (as_long ∙ sym (says_known.kinds value hit.root.instr.kind inside kind_is).count)
        (λ place less. made_here place (subst (λ n. place < n) as_long less))
        ∙ with_value-here value (value_of m old f) f.values

  computes : ComputesSame s t value old root.instrs
  computes inputs repeats set f g given good closed tied = computed inputs repeats set f g given good closed tied

  keeps : Keeps s t
  keeps = in_place-keeps s value old root.instrs root.next shaped valid in_place computes

-- ---- the law

typing_put : (s : Shader) (rule : Rule) (variant : ℕ) (value : ValueId) (binds : List Bind) (t : Shader) → put rule variant s value binds ≡ Some t
    → (typing : List Width) × (typing_with rule (sizes_met s rule variant value) ≡ Some typing) × (put_typed rule s value binds typing ≡ t)
unfolding put
typing_put s rule variant value binds t is = some_map (put_typed rule s value binds) (typing_with rule (sizes_met s rule variant value)) t is

pub put-keeps : PutKeeps
put-keeps s rule variant value binds t shaped valid formed holds found is =
    let own = typing_put s rule variant value binds t is in
    subst (Keeps s) own.2 (keeps s shaped valid rule formed holds variant value binds found own.0 own.1)
