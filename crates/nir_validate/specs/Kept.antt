-- What no rule of the second round is told of: visits that keep it, spots that are kept, and what an instruction reads.
use Rattle.std.specs.Prelude.{◌≡◌, refl, ℕ, zero, suc, Bool, true, List, [], ◌∷◌, ◌++◌, Some, slice_get}
use Rattle.std.specs.List.{AllByRecursion, list_all}
use Rattle.std.proofs.Common.{◌∙◌, ap, subst}
use Rattle.std.proofs.lemmas.Bool.{and_parts}
use Rattle.std.proofs.lemmas.Option.{none-some, same_Some}
use Rattle.nir_ir.specs.declared.ids.ValueId.{ValueId}
use Rattle.nir_ir.specs.declared.instr.Instr.{Instr}
use Rattle.nir_ir.specs.Items.{reads}
use Rattle.nir_ir.specs.Shader.{Shader}
use Rattle.nir_validate.specs.Edges.{Set}
use Rattle.nir_validate.specs.Rules.{Kinds, Spot, are_uses_defined, condition_fits, is_declared, kinds_fit, may_be_left, may_stand, sources_match, swizzles_fit}
use Rattle.nir_validate.specs.TypedLaws.{SpotKept, first_nil, second_nil, told_nothing}
use Rattle.nir_validate.specs.Valid.{Fault, at_each, spot_faults, unless, visit_faults}
use Rattle.nir_validate.specs.Walk.{Visit}

-- a source of an instruction is in the set
abbrev pub IsRead : Instr → ValueId → Type 0
IsRead instr id = (at : ℕ) × (slice_get (reads instr) at ≡ Some id)

abbrev pub ReadsIn : Set → Instr → Type 0
ReadsIn set instr = (id : ValueId) → IsRead instr id → set id.0 ≡ true

-- a visit of which no rule of the second round is told
pub record VisitKept (visit : Visit) : Type 0 where
  pub left : may_be_left visit ≡ true
  pub sources : sources_match visit ≡ true
  pub uses : are_uses_defined visit ≡ true

visit_kept : (visit : Visit) (at : ℕ) → visit_faults visit at ≡ [] → VisitKept visit
visit_kept visit at h =
    let five : List Fault = unless (may_be_left visit) 5 at in
    let six : List Fault = unless (sources_match visit) 6 at in
    let seven : List Fault = unless (are_uses_defined visit) 7 at in
    let front : five ++ six ≡ [] = first_nil (five ++ six) seven h in
    record {
      left = told_nothing (may_be_left visit) 5 at (first_nil five six front);
      sources = told_nothing (sources_match visit) 6 at (second_nil five six front);
      uses = told_nothing (are_uses_defined visit) 7 at (second_nil (five ++ six) seven h);
    }

pub visits_kept : (at : ℕ) (list : List Visit) → at_each visit_faults at list ≡ [] → AllByRecursion VisitKept list
visits_kept at [] h = tt
visits_kept at (visit ∷ list) h = (
  visit_kept visit at (first_nil (visit_faults visit at) (at_each visit_faults (suc at) list) h),
  visits_kept (suc at) list (second_nil (visit_faults visit at) (at_each visit_faults (suc at) list) h),
)

-- and the other way round
nothing_told : (kept : Bool) (rule item : ℕ) → kept ≡ true → unless kept rule item ≡ []
nothing_told kept rule item h = ap (λ k. unless k rule item) h

pub visit_told : (visit : Visit) (at : ℕ) → VisitKept visit → visit_faults visit at ≡ []
visit_told visit at kept =
    ap (λ t. t ++ unless (sources_match visit) 6 at ++ unless (are_uses_defined visit) 7 at) (nothing_told (may_be_left visit) 5 at kept.left)
    ∙ ap (λ t. t ++ unless (are_uses_defined visit) 7 at) (nothing_told (sources_match visit) 6 at kept.sources)
    ∙ nothing_told (are_uses_defined visit) 7 at kept.uses

pub spot_told : (kinds : Kinds) (s : Shader) (spot : Spot) (at : ℕ) → SpotKept kinds s spot → spot_faults kinds s spot at ≡ []
spot_told kinds s spot at kept =
    ap (λ t. t ++ unless (is_declared kinds s spot.item) 2 at ++ unless (may_stand spot) 4 at ++ unless (swizzles_fit kinds spot.item) 8 at ++ unless (condition_fits kinds spot.item) 9 at) (nothing_told (kinds_fit kinds spot.item) 1 at kept.kinds_fit)
    ∙ ap (λ t. t ++ unless (may_stand spot) 4 at ++ unless (swizzles_fit kinds spot.item) 8 at ++ unless (condition_fits kinds spot.item) 9 at) (nothing_told (is_declared kinds s spot.item) 2 at kept.declared)
    ∙ ap (λ t. t ++ unless (swizzles_fit kinds spot.item) 8 at ++ unless (condition_fits kinds spot.item) 9 at) (nothing_told (may_stand spot) 4 at kept.stands)
    ∙ ap (λ t. t ++ unless (condition_fits kinds spot.item) 9 at) (nothing_told (swizzles_fit kinds spot.item) 8 at kept.names)
    ∙ nothing_told (condition_fits kinds spot.item) 9 at kept.condition

pub none_told : {A : Type 0} (faults : A → ℕ → List Fault) (P : A → Type 0) → ((a : A) (at : ℕ) → P a → faults a at ≡ []) → (at : ℕ) (list : List A) → AllByRecursion P list → at_each faults at list ≡ []
none_told faults P h at [] all = refl
none_told faults P h at (a ∷ list) all = ap (λ t. t ++ at_each faults (suc at) list) (h a at all.0) ∙ none_told faults P h (suc at) list all.1

-- what an instruction reads
pub reads_in : (set : Set) (list : List ValueId) → list_all (λ id. set id.0) list ≡ true → (id : ValueId) (at : ℕ) → slice_get list at ≡ Some id → set id.0 ≡ true
reads_in set [] h id at is = absurd (none-some id is)
reads_in set (first ∷ list) h id zero is = subst (λ (v : ValueId). set v.0 ≡ true) (same_Some first id is) (and_parts (set first.0) (list_all (λ v. set v.0) list) h).0
reads_in set (first ∷ list) h id (suc at) is = reads_in set list (and_parts (set first.0) (list_all (λ v. set v.0) list) h).1 id at is
