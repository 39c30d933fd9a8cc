-- Valid shaders by their parts, both ways: each round by itself, and both.
use Rattle.std.specs.Prelude.{◌≡◌, ◌↔◌, refl, true, false, List, [], ◌∷◌, ◌++◌}
use Rattle.std.proofs.Common.{◌∙◌, ap, inr}
use Rattle.nir_ir.specs.Definitions.{kind_at}
use Rattle.nir_ir.specs.Shader.{Shader}
use Rattle.nir_validate.specs.Kept.{VisitKept, none_told, spot_told, visit_told, visits_kept}
use Rattle.nir_validate.specs.Rules.{spots}
use Rattle.nir_validate.specs.Typed.{NodesFit}
use Rattle.nir_validate.specs.TypedLaws.{SpotKept, all_kept}
use Rattle.nir_validate.specs.Valid.{at_each, second_round, spot_faults, visit_faults}
use Rattle.nir_validate.specs.Walk.{entry, visits_of}
use Rattle.nir_validate.specs.Alternates.{Alternates, JumpsIn}
use Rattle.nir_validate.specs.Each.{BlockDefines, ConditionDefined, Each, Lives}
use Rattle.nir_validate.specs.Placing.{order_faults}
use Rattle.nir_validate.specs.Rules.{all_misplaced}
use Rattle.nir_validate.specs.TypedLaws.{first_nil, second_nil}
use Rattle.nir_validate.specs.Valid.{Valid}
use Rattle.std.specs.Prelude.{ℕ}
use Rattle.nir_validate.specs.ByParts.{IsValidByParts, ValidIsByParts}
use Rattle.walk_laws.specs.OrderLaws.{order}
use Rattle.walk_laws.specs.SpotsLaws.{jumps-from, spots_fit, spots_keep}
use Rattle.walk_laws.specs.VisitsLaws.{both_from, visited}

abbrev pub FirstByParts : Type 0
FirstByParts = (s : Shader) → (at_each (spot_faults (kind_at s.body) s) 0 (spots false s.body) ≡ []) ↔ (NodesFit s s.body × JumpsIn false s.body)

abbrev pub SecondByParts : Type 0
SecondByParts = (s : Shader) → Alternates s.body → (second_round s ≡ []) ↔ (Lives s.body (entry ∷ []) × Each BlockDefines ConditionDefined s.body (entry ∷ []) [])

pub first-by_parts : FirstByParts
first-by_parts s =
    let kinds = kind_at s.body in (
      (λ h. let kept = all_kept kinds s 0 (spots false s.body) h in (spots_fit s false s.body kept, jumps-from s false s.body kept)),
      (λ parts. none_told (spot_faults kinds s) (SpotKept kinds s) (spot_told kinds s) 0 (spots false s.body) (spots_keep s false s.body parts.0 parts.1)),
    )

pub second-by_parts : SecondByParts
second-by_parts s turns = (
  (λ h. both_from true s.body (entry ∷ []) [] turns (inr refl) (visits_kept 0 (visits_of s.body) h)),
  (λ parts. none_told visit_faults VisitKept visit_told 0 (visits_of s.body) (visited s.body (entry ∷ []) [] parts.0 parts.1)),
)

-- a shader is valid exactly where its parts are
no_order_fault : (list : List ℕ) → order_faults list ≡ [] → list ≡ []
no_order_fault [] h = refl
no_order_fault (item ∷ list) h = absurd (cc)

pub parts-from_valid : (s : Shader) → Valid s → IsValidByParts s
parts-from_valid s valid =
    let told = order_faults (all_misplaced s.body) in
    let spotted = at_each (spot_faults (kind_at s.body) s) 0 (spots false s.body) in
    let turns : Alternates s.body = (order s.body).0 (no_order_fault (all_misplaced s.body) (first_nil told spotted valid.parts)) in
    let first = (first-by_parts s).0 (second_nil told spotted valid.parts) in
    let second = (second-by_parts s turns).0 valid.paths in
    record { order = turns; whole = record { jumps = first.1; fits = first.0; lives = second.0; defines = second.1 } }

pub valid-from_parts : (s : Shader) → IsValidByParts s → Valid s
valid-from_parts s parts =
    let whole = parts.whole in
    record {
      parts = ap (λ list. order_faults list ++ at_each (spot_faults (kind_at s.body) s) 0 (spots false s.body)) ((order s.body).1 parts.order)
          ∙ (first-by_parts s).1 (whole.fits, whole.jumps);
      paths = (second-by_parts s parts.order).1 (whole.lives, whole.defines);
    }

pub valid-by_parts : ValidIsByParts
valid-by_parts s = (parts-from_valid s, valid-from_parts s)
