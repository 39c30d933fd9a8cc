-- A law read at a term makes a term of the same size and value.
use Rattle.std.proofs.Common.{◌≡◌, ◌+◌, ◌≤◌, ℕ, Bool, true, false, List, [], ◌∷◌, ◌++◌, Option, Some, None, Ok, Err, refl, sym, ap, ◌∙◌, subst, arith, ⊎_elim, lit≤}
use Rattle.std.specs.Prelude.{◌&&◌, cond}
use Rattle.std.specs.Cmp.Lexicographic.{pointwise}
use Rattle.std.specs.List.{list_all, list_any, find}
use Rattle.std.proofs.lemmas.Bool.{and_parts, false≢true, or_cases, or_left, or_right}
use Rattle.std.proofs.lemmas.List.{append-nil}
use Rattle.list_laws.specs.BoolLaws.{chosen}
use Rattle.nir_ops.specs.declared.width.Width.{Width}
use Rattle.nir_ops.specs.declared.width.Width.TheVariants.{W1, W8, W16, W32, W64}
use Rattle.nir_ops.specs.Width.{width_bits}
use Rattle.op_eval.specs.Calls.{same_width}
use Rattle.op_eval.specs.Sizes.{same_width-refl, same_width-same, same_widths-same}
use Rattle.rule_spelling.specs.Files.{Binding}
use Rattle.law_derive.specs.declared.node.Node.{Node}
use Rattle.law_derive.specs.Derivations.{Setting, among, are_filled, bound, by_law, complete, cond_met, from_at, from_side, is_truth, law_sizes, matched, matches_at, met, read_at, size_of_binding, size_read, to_at}
use Rattle.law_derive.specs.FineLaws.{AreFitting, Fine, bound_grows, match_fine, none_fine}
use Rattle.law_derive.specs.LawStepLaws.{AreMetBy, condition_met, filled_fits, filled_stands, found_each, found_more, letters_are_words, letters_in, same_filled, side_is}
use Rattle.law_derive.specs.Fit.{nodes_fit}
use Rattle.law_derive.specs.LawTable.{Law, left_at, right_at}
use Rattle.law_derive.specs.LawsHold.{IsLaw, least_bits}
use Rattle.law_derive.specs.Matching.{Filling, filled, match_side}
use Rattle.law_derive.specs.MatchingLaws.{match_sound}
use Rattle.law_derive.specs.Nodes.{AreTerms, roots, values}
use Rattle.law_derive.specs.SidesLaws.{are_terms, law_fits, law_fits_at, part_fits, side_fits, terms_from_test}
use Rattle.law_derive.specs.StandingLaws.{IsTermAt}

-- a term of the same size, and of the same value where the words of the variables meet the conditions
pub record Keeps (at : Setting) (term made : List Node) : Type 0 where
  pub stands : IsTermAt at made
  pub sizes : roots made ≡ roots term
  pub same : (words : List ℕ) → AreMetBy at words → values made words ≡ values term words

abbrev some_width : Width → Option Width
some_width width = Some width

-- ---- the sizes of a law

found_among : (test : Width → Bool) (list : List Width) (width : Width) → find test list ≡ Some width → list_any (same_width width) list ≡ true
found_among test [] width is = absurd cc
found_among test (first ∷ list) width is =
    ⊎_elim
    (λ here. let e : first ≡ width = same_some first width here.1 in subst (λ w. list_any (same_width width) (w ∷ list) ≡ true) (sym e) (or_left (same_width width width) (list_any (same_width width) list) (same_width-refl width)))
    (λ behind. or_right (same_width width first) (list_any (same_width width) list) (found_among test list width behind.1))
    (chosen (test first) (Some first) (find test list) (Some width) is)
  where
    same_some : (a b : Width) → some_width a ≡ some_width b → a ≡ b
    same_some a b e = cc

among_is : (sizes : List Width) (own : Option Width) (width : Width) → among sizes own ≡ Some width → list_any (same_width width) sizes ≡ true
among_is sizes None width is = absurd cc
among_is sizes (Some own) width is =
    ⊎_elim (λ yes. let e : own ≡ width = cc in subst (λ w. list_any (same_width w) sizes ≡ true) e yes.0) (λ no. absurd (let never = no.1 in cc))
    (chosen (list_any (same_width own) sizes) (Some own) None (Some width) is)

pub size_among : (at : Setting) (law : Law) (rev : Bool) (bindings : List Binding) (term : List Node) (width : Width) → size_read at law rev bindings term ≡ Some width
    → list_any (same_width width) (law_sizes law) ≡ true
size_among at law rev bindings term width is =
    ⊎_elim
    (λ truth. among_is (law_sizes law) (size_of_binding at bindings) width truth.1)
    (λ other. found_among (matches_at law rev term) (law_sizes law) width other.1)
    (chosen (is_truth (from_side law rev)) (among (law_sizes law) (size_of_binding at bindings)) (find (matches_at law rev term) (law_sizes law)) (Some width) is)

enough_bits : (bit : Bool) (width : Width) → list_any (same_width width) (cond bit (W1 ∷ W8 ∷ W16 ∷ W32 ∷ W64 ∷ []) (W8 ∷ W16 ∷ W32 ∷ W64 ∷ [])) ≡ true → cond bit 1 8 ≤ width_bits width
enough_bits true W1 is = lit≤ tt
enough_bits true W8 is = lit≤ tt
enough_bits true W16 is = lit≤ tt
enough_bits true W32 is = lit≤ tt
enough_bits true W64 is = lit≤ tt
enough_bits false W1 is = absurd cc
enough_bits false W8 is = lit≤ tt
enough_bits false W16 is = lit≤ tt
enough_bits false W32 is = lit≤ tt
enough_bits false W64 is = lit≤ tt

-- ---- the sides of a law that fits

pub passes_among : (test : Width → Bool) (list : List Width) (width : Width) → list_all test list ≡ true → list_any (same_width width) list ≡ true → test width ≡ true
passes_among test [] width all any = absurd (false≢true any)
passes_among test (first ∷ list) width all any =
    let parts = and_parts (test first) (list_all test list) all in
    ⊎_elim (λ here. ap test (same_width-same width first here) ∙ parts.0) (λ behind. passes_among test list width parts.1 behind)
    (or_cases (same_width width first) (list_any (same_width width) list) any)

parts_fit : (width : Width) (side : List Node) → list_all (λ (part : Node). part_fits width part.kind part.width) side ≡ true → AreFitting width side
parts_fit width [] is = tt
parts_fit width (part ∷ side) is =
    let both = and_parts (part_fits width part.kind part.width) (list_all (λ (p : Node). part_fits width p.kind p.width) side) is in
    (both.0, parts_fit width side both.1)

pub record SideFits (width : Width) (side : List Node) : Type 0 where
  pub one : AreTerms 1 side
  pub fit : nodes_fit side ≡ true
  pub fitting : AreFitting width side

side_from : (width : Width) (side : List Node) → side_fits width side ≡ true → SideFits width side
side_from width side is =
    let both = and_parts (are_terms 1 side) (nodes_fit side && list_all (λ (p : Node). part_fits width p.kind p.width) side) is in
    let parts = and_parts (nodes_fit side) (list_all (λ (p : Node). part_fits width p.kind p.width) side) both.1 in
    record { one = terms_from_test 1 side both.0; fit = parts.0; fitting = parts_fit width side parts.1 }

pub record LawFits (law : Law) (rev : Bool) (width : Width) : Type 0 where
  pub from : SideFits width (from_at law rev width)
  pub to : SideFits width (to_at law rev width)
  pub sizes : roots (from_at law rev width) ≡ roots (to_at law rev width)

pub law_from : (law : Law) (rev : Bool) (width : Width) → law_fits_at law width ≡ true → LawFits law rev width
law_from law false width fits =
    let both = and_parts (side_fits width (left_at law width)) _ fits in
    let right = and_parts (side_fits width (right_at law width)) (pointwise same_width (roots (left_at law width)) (roots (right_at law width))) both.1 in
    record { from = side_from width (left_at law width) both.0; to = side_from width (right_at law width) right.0; sizes = same_widths-same _ _ right.1 }
law_from law true width fits =
    let both = and_parts (side_fits width (left_at law width)) _ fits in
    let right = and_parts (side_fits width (right_at law width)) (pointwise same_width (roots (left_at law width)) (roots (right_at law width))) both.1 in
    record { from = side_from width (right_at law width) right.0; to = side_from width (left_at law width) both.0; sizes = sym (same_widths-same _ _ right.1) }

-- ---- a law at a term

both_ways : (law : Law) → IsLaw law → (rev : Bool) (width : Width) → least_bits law ≤ width_bits width → (at : Setting) (words : List ℕ) → AreMetBy at words
    → (filling : Filling) → Fine at width filling → cond_met at law.cond filling ≡ true
    → values (from_at law rev width) (letters_in words filling) ≡ values (to_at law rev width) (letters_in words filling)
both_ways law holds false width enough at words are filling fine met =
    holds width enough (letters_in words filling) (letters_are_words at words are width filling fine) (condition_met at words are width filling fine law.cond met)
both_ways law holds true width enough at words are filling fine met =
    sym (holds width enough (letters_in words filling) (letters_are_words at words are width filling fine) (condition_met at words are width filling fine law.cond met))

none_rest : (rest : List Node) → AreTerms 0 rest → rest ≡ []
none_rest [] are = refl
none_rest (node ∷ rest) are = absurd are

module _ (at : Setting) (law : Law) (holds : IsLaw law) (fits : law_fits law ≡ true) (rev : Bool) (bindings : List Binding) (term part : List Node) (stands : IsTermAt at term) where
  used : (width : Width) (start filling : Filling) → list_any (same_width width) (law_sizes law) ≡ true → match_side (from_at law rev width) term [] ≡ Some start
      → bound at law width bindings start ≡ Some filling → are_filled filling (to_at law rev width) ≡ true → cond_met at law.cond filling ≡ true
      → Keeps at term (filled filling (to_at law rev width))
  used width start filling sized found given full met =
      let sides = law_from law rev width (passes_among (law_fits_at law) (law_sizes law) width fits sized) in
      let enough = enough_bits law.bit width sized in
      let e : 1 ≡ 1 + 0 = omega arith in
      let one : AreTerms (1 + 0) term = subst (λ n. AreTerms n term) e stands.one in
      let matched = match_sound (from_at law rev width) start 0 1 term [] sides.from.one one found in
      let start_fine = match_fine at width start (from_at law rev width) sides.from.fitting 0 1 term [] sides.from.one one stands.stand stands.fit (none_fine at width) found in
      let grows = bound_grows at law width bindings start filling given start_fine in
      let whole : term ≡ filled filling (from_at law rev width) =
      matched.whole ∙ ap (λ rest. filled start (from_at law rev width) ++ rest) (none_rest matched.rest matched.terms) ∙ append-nil (filled start (from_at law rev width))
      ∙ same_filled start filling grows.extends (from_at law rev width) matched.letters in
      let from_found = found_more start filling grows.extends (from_at law rev width) matched.letters in
      let to_found = found_each filling (to_at law rev width) full in
      let from_is = λ (words : List ℕ). side_is at width filling grows.fine words (from_at law rev width) sides.from.one sides.from.fitting from_found in
      let to_is = λ (words : List ℕ). side_is at width filling grows.fine words (to_at law rev width) sides.to.one sides.to.fitting to_found in
      record {
        stands = record {
          one = (to_is []).terms;
          stand = filled_stands at width filling grows.fine (to_at law rev width) sides.to.fitting to_found;
          fit = filled_fits at width filling grows.fine 1 (to_at law rev width) sides.to.one sides.to.fitting to_found sides.to.fit;
        };
        sizes = (to_is []).sizes ∙ sym sides.sizes ∙ sym (from_is []).sizes ∙ ap roots (sym whole);
        same = λ words are.
            (to_is words).same ∙ sym (both_ways law holds rev width enough at words are filling grows.fine met) ∙ sym (from_is words).same
            ∙ ap (λ nodes. values nodes words) (sym whole);
      }

  made_by : (width : Width) (start : Filling) (own : Option Filling) → list_any (same_width width) (law_sizes law) ≡ true → match_side (from_at law rev width) term [] ≡ Some start
      → bound at law width bindings start ≡ own → complete at law rev width own ≡ Ok part → Keeps at term part
  made_by width start None sized found given is = absurd cc
  made_by width start (Some filling) sized found given is =
      ⊎_elim
      (λ full.
      ⊎_elim
      (λ meets. let e : filled filling (to_at law rev width) ≡ part = cc in subst (Keeps at term) e (used width start filling sized found given full.0 meets.0))
      (λ not_met. absurd (let never = not_met.1 in cc))
      (chosen (cond_met at law.cond filling) (Ok (filled filling (to_at law rev width))) (Err _) (Ok part) full.1))
      (λ not_full. absurd (let never = not_full.1 in cc))
      (chosen (are_filled filling (to_at law rev width)) (met at law rev width filling) (Err _) (Ok part) is)

  matched_by : (width : Width) (own : Option Filling) → list_any (same_width width) (law_sizes law) ≡ true → match_side (from_at law rev width) term [] ≡ own
      → matched at law rev bindings width own ≡ Ok part → Keeps at term part
  matched_by width None sized found is = absurd cc
  matched_by width (Some start) sized found is = made_by width start (bound at law width bindings start) sized found refl is

  read_by : (own : Option Width) → size_read at law rev bindings term ≡ own → read_at at law rev bindings term own ≡ Ok part → Keeps at term part
  read_by None sized is = absurd cc
  read_by (Some width) sized is =
      matched_by width (match_side (from_at law rev width) term []) (size_among at law rev bindings term width sized) refl is

  pub by_law_keeps : by_law at law rev bindings term ≡ Ok part → Keeps at term part
  by_law_keeps is = read_by (size_read at law rev bindings term) refl is
