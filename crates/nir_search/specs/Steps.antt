-- The step by a rule: where it is legal, the shader after it, and the shader after a list of steps.
use Rattle.op_eval.specs.Calls.{same_width}
use Rattle.nir_ir.specs.Definitions.{kind_at}
use Rattle.std.specs.Prelude.{◌≡◌, ℕ, Bool, false, ◌&&◌, Option, Some, None, List, [], ◌∷◌, nat_eq, is_none, slice_get, if◌then◌else◌}
use Rattle.std.specs.List.{list_all, find}
use Rattle.std.specs.Option.{option_and_then, option_map, option_map_or}
use Rattle.std.specs.Cmp.Lexicographic.{pointwise}
use Rattle.nir_ops.specs.declared.width.Width.{Width}
use Rattle.nir_ir.specs.declared.ids.ValueId.{ValueId}
use Rattle.nir_ir.specs.declared.journal.Step.{Step}
use Rattle.nir_ir.specs.declared.journal.Step.TheVariants as step
use Rattle.nir_ir.specs.Items.{values_defined}
use Rattle.nir_ir.specs.Nodes.{Nodes}
use Rattle.nir_ir.specs.Shader.{Shader}
use Rattle.rule_term.specs.declared.when.Options.{Options}
use Rattle.rule_term.specs.Rule.{Rule}
use Rattle.rule_term.specs.Typings.{search_part, replace_part, typings}
use Rattle.nir_search.specs.declared.hit.Bind.{Bind}
use Rattle.nir_search.specs.declared.hit.Hit.{Hit}
use Rattle.nir_search.specs.Match.{match_of, met, root_view}
use Rattle.nir_search.specs.First.{first_hit}
use Rattle.nir_search.specs.Put.{root_of, put_root}

-- the first typing of the rule that gives the search side these bit sizes
abbrev pub typing_with : Rule → List Width → Option (List Width)
typing_with rule widths = find (λ typing. pointwise same_width (search_part rule typing) widths) (typings rule)

abbrev pub count_of : Shader → ValueId → ℕ
count_of s value = option_map_or (λ kind. kind.count) (kind_at s.body value) 0

-- the shader after the replacement of a rule was put at a value at which that variant of it matches with the substitution
abbrev pub put_typed : Rule → Shader → ValueId → List Bind → List Width → Shader
put_typed rule s value subst typing = put_root s value (root_of subst value (count_of s value) rule.replace (replace_part rule typing) s.next_value)

unfoldable pub put : Rule → ℕ → Shader → ValueId → List Bind → Option Shader
put rule variant s value subst =
    option_map (put_typed rule s value subst) (typing_with rule (met s.body rule.search variant (root_view s.body value ∷ [])))

-- the shader after what was found at the value was put there
abbrev pub put_hit : List Rule → Shader → ValueId → Hit → Option Shader
put_hit table s value hit = option_and_then (λ rule. put rule hit.variant s value hit.subst) (slice_get table hit.rule)

-- what the variables of the hit's rule take where the hit's variant of it matches at the value
abbrev pub match_of_hit : List Rule → Nodes → ValueId → Hit → Option (List Bind)
match_of_hit table body value hit = option_and_then (λ rule. match_of rule hit.variant body value) (slice_get table hit.rule)

-- the hit's rule and variant match at the value with the hit's substitution
abbrev pub IsHit : List Rule → Nodes → ValueId → Hit → Type 0
IsHit table body value hit = match_of_hit table body value hit ≡ Some hit.subst

-- a hit is that of a rule of this number and of this variant
abbrev pub is_of : List Rule → ℕ → ℕ → Hit → Bool
is_of table rule variant hit = option_map_or (λ r. nat_eq r.number rule) (slice_get table hit.rule) false && nat_eq hit.variant variant

-- the shader after a step by a rule, which has to be the first that matches at the value; None where it is not
abbrev pub rule_step : Options → List Rule → Shader → ValueId → ℕ → ℕ → Option Shader
rule_step options table s value rule variant =
    option_and_then (λ hit. if is_of table rule variant hit then put_hit table s value hit else None) (first_hit options table s.body value)

-- the shader after a step, None where it is not legal; the other steps are to come
abbrev pub step_of : Options → List Rule → Shader → Step → Option Shader
step_of options table s (step.Rule value rule variant) = rule_step options table s value rule variant
step_of options table s (step.Fold value) = None
step_of options table s (step.Copy at) = None
step_of options table s step.Sweep = None
step_of options table s (step.Phi value) = None
step_of options table s (step.Branch at) = None
step_of options table s (step.Empty at) = None
step_of options table s (step.Once at) = None

-- the shader after those steps in turn, None where one of them is not legal in its turn
abbrev pub replay : Options → List Rule → Shader → List Step → Option Shader
replay options table s [] = Some s
replay options table s (step ∷ steps) = option_and_then (λ after. replay options table after steps) (step_of options table s step)

-- no rule of the table matches at any value
abbrev pub is_settled : Options → List Rule → Shader → Bool
is_settled options table s = list_all (λ value. is_none (first_hit options table s.body (record { 0 = value }))) (values_defined s.body)
