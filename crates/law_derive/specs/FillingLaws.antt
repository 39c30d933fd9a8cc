-- What is known of what letters stand for, as a step goes on.
use Rattle.std.proofs.Common.{◌≡◌, ◌+◌, ℕ, Bool, true, List, [], Option, Some, None, refl, sym, ap, ◌∙◌, subst, arith}
use Rattle.std.specs.List.{list_any}
use Rattle.nir_ops.specs.declared.width.Width.{Width}
use Rattle.rule_spelling.specs.Files.{Binding}
use Rattle.law_derive.specs.declared.node.Node.{Node}
use Rattle.op_eval.specs.Calls.{same_width}
use Rattle.law_derive.specs.ByLawLaws.{law_from, passes_among, size_among}
use Rattle.law_derive.specs.Derivations.{Setting, from_at, law_sizes, size_read}
use Rattle.law_derive.specs.FineLaws.{Fine, bound_grows, match_fine, none_fine}
use Rattle.law_derive.specs.LawTable.{Law}
use Rattle.law_derive.specs.Matching.{Filling, found, match_side}
use Rattle.law_derive.specs.Nodes.{AreTerms}
use Rattle.law_derive.specs.Readings.{exprs_of, fill_with, filled_at, read_of}
use Rattle.law_derive.specs.ReadingsLaws.{bound_is}
use Rattle.law_derive.specs.SidesLaws.{law_fits, law_fits_at}
use Rattle.law_derive.specs.StandingLaws.{IsTermAt}
use Rattle.law_derive.specs.Stepping.{FillingStands, SomeStands}

-- ---- what letters stand for

abbrev reading : Width → Filling → Option (Width × Filling)
reading width filling = Some (width, filling)

abbrev width_or : Width → Option (Width × Filling) → Width
width_or width None = width
width_or width (Some own) = own.0

abbrev filling_or : Filling → Option (Width × Filling) → Filling
filling_or filling None = filling
filling_or filling (Some own) = own.1

module _ (at : Setting) (law : Law) (rev : Bool) (term : List Node) (fits : law_fits law ≡ true) (stands : IsTermAt at term) where
  matched_fine : (width : Width) (start : Filling) → list_any (same_width width) (law_sizes law) ≡ true → match_side (from_at law rev width) term [] ≡ Some start → Fine at width start
  matched_fine width start sized is =
      let sides = law_from law rev width (passes_among (law_fits_at law) (law_sizes law) width fits sized) in
      let e : 1 ≡ 1 + 0 = omega arith in
      match_fine at width start (from_at law rev width) sides.from.fitting 0 1 term [] sides.from.one (subst (λ n. AreTerms n term) e stands.one) stands.stand stands.fit
      (none_fine at width) is

  filled_fine : (own width : Width) (start : Filling) (found_start : Option Filling) → list_any (same_width own) (law_sizes law) ≡ true
      → match_side (from_at law rev own) term [] ≡ found_start → filled_at own found_start ≡ reading width start → Fine at width start
  filled_fine own width start None sized matched is = absurd cc
  filled_fine own width start (Some other) sized matched is =
      let e : own ≡ width = ap (width_or own) is in
      let f : other ≡ start = ap (filling_or other) is in
      subst (λ w. Fine at w start) e (subst (Fine at own) f (matched_fine own other sized matched))

  read_fine : (bindings : List Binding) (size : Option Width) (width : Width) (start : Filling) → size_read at law rev bindings term ≡ size → read_of law rev term size ≡ reading width start
      → Fine at width start
  read_fine bindings None width start sized is = absurd cc
  read_fine bindings (Some own) width start sized is =
      filled_fine own width start (match_side (from_at law rev own) term []) (size_among at law rev bindings term own sized) refl is

  -- with those that are bound
  pub filling_stands : (width : Width) (bindings : List Binding) (start filling : Filling) → read_of law rev term (size_read at law rev bindings term) ≡ reading width start
      → fill_with law (exprs_of at width bindings) start ≡ Some filling → FillingStands at filling
  filling_stands width bindings start filling read given letter own is =
      let fine = read_fine bindings (size_read at law rev bindings term) width start refl read in
      let grows = bound_grows at law width bindings start filling (bound_is at law width bindings start ∙ given) fine in
      (grows.fine letter own is).stands.stand

-- what stands for one letter
pub some_stands : (at : Setting) (filling : Filling) (letter : ℕ) (own : Option (List Node)) → FillingStands at filling → own ≡ found letter filling → SomeStands at own
some_stands at filling letter None stands is = tt
some_stands at filling letter (Some term) stands is = stands letter term (sym is)
