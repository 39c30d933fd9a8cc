-- A step by a rule that holds keeps a shader shaped and valid, and what it means; and so does each list of such steps.
use Rattle.std.specs.Prelude.{◌≡◌, ℕ, zero, suc, List, [], ◌∷◌, Some, None, slice_get, if◌then◌else◌}
use Rattle.std.specs.Option.{option_and_then}
use Rattle.std.proofs.Common.{sym, ◌∙◌, ap, subst}
use Rattle.std.proofs.lemmas.Option.{none-some, same_Some}
use Rattle.nir_ir.specs.declared.ids.ValueId.{ValueId}
use Rattle.nir_ir.specs.declared.journal.Step.{Step}
use Rattle.nir_ir.specs.declared.journal.Step.TheVariants as step
use Rattle.nir_ir.specs.Shader.{Shader}
use Rattle.nir_ir.specs.Shaped.{IsShaped}
use Rattle.nir_validate.specs.Valid.{Valid}
use Rattle.rule_term.specs.declared.when.Options.{Options}
use Rattle.rule_term.specs.Formed.{IsFormed}
use Rattle.rule_term.specs.Holds.{Holds}
use Rattle.rule_term.specs.Rule.{Rule}
use Rattle.rule_term.specs.Table.{AllFormed, AllHold, hold_at}
use Rattle.nir_search.specs.declared.hit.Hit.{Hit}
use Rattle.nir_search.specs.First.{first_hit}
use Rattle.nir_search.specs.FirstLaws.{first_from_table, rule_there}
use Rattle.nir_search.specs.Match.{match_of}
use Rattle.nir_search.specs.Steps.{IsHit, is_of, put, put_hit, replay, rule_step, step_of}
use Rattle.list_laws.specs.OptionLaws.{between, if_some}
use Rattle.nir_mean.specs.Same.{Same-refl, Same-trans}
use Rattle.run_laws.specs.InPlace.{Keeps}
use Rattle.rule_meaning.specs.PutLaws.{put-keeps}

pub formed_at : (table : List Rule) (place : ℕ) (rule : Rule) → AllFormed table → slice_get table place ≡ Some rule → IsFormed rule
formed_at [] place rule formed at = absurd (none-some rule at)
formed_at (first ∷ rest) zero rule formed at = subst IsFormed (same_Some first rule at) formed.0
formed_at (first ∷ rest) (suc place) rule formed at = formed_at rest place rule formed.1 at

-- what was found at a value, put there
pub hit_keeps : (table : List Rule) (s after : Shader) (value : ValueId) (hit : Hit) (rule : Rule) → IsFormed rule → Holds rule → slice_get table hit.rule ≡ Some rule
    → IsHit table s.body value hit → IsShaped s → put_hit table s value hit ≡ Some after → Valid s → Keeps s after
hit_keeps table s after value hit rule formed holds at is shaped is_put valid =
    put-keeps s rule hit.variant value hit.subst after shaped valid formed holds
    (sym (ap (option_and_then (λ r. match_of r hit.variant s.body value)) at) ∙ is)
    (sym (ap (option_and_then (λ r. put r hit.variant s value hit.subst)) at) ∙ is_put)

rule_keeps : (options : Options) (table : List Rule) (s after : Shader) (value : ValueId) (number variant : ℕ) → AllFormed table → AllHold table → IsShaped s → Valid s
    → rule_step options table s value number variant ≡ Some after → Keeps s after
rule_keeps options table s after value number variant formed holds shaped valid legal =
    let first = between (first_hit options table s.body value) (λ hit. if is_of table number variant hit then put_hit table s value hit else None) after legal in
    let hit : Hit = first.middle in
    let own = if_some (is_of table number variant hit) (put_hit table s value hit) after first.behind in
    let from = first_from_table options table s.body value hit first.before in
    let at = rule_there table s.body value hit from in
    put-keeps s from.rule hit.variant value hit.subst after shaped valid (formed_at table hit.rule from.rule formed at) (hold_at table hit.rule from.rule holds at) from.matches_there
    (sym (ap (option_and_then (λ rule. put rule hit.variant s value hit.subst)) at) ∙ own.1)

-- what legal steps keep
abbrev pub ReplayKeeps : Type 0
ReplayKeeps =
    (options : Options) (table : List Rule) (s after : Shader) (steps : List Step) → AllFormed table → AllHold table → IsShaped s → Valid s
    → replay options table s steps ≡ Some after → Keeps s after

-- a legal step keeps the shader shaped and valid, and what it means
step_same : (options : Options) (table : List Rule) (s after : Shader) (step : Step) → AllFormed table → AllHold table → IsShaped s → Valid s
    → step_of options table s step ≡ Some after → Keeps s after
step_same options table s after (step.Rule value number variant) formed holds shaped valid legal = rule_keeps options table s after value number variant formed holds shaped valid legal
step_same options table s after (step.Fold value) formed holds shaped valid legal = absurd (none-some after legal)
step_same options table s after (step.Copy at) formed holds shaped valid legal = absurd (none-some after legal)
step_same options table s after step.Sweep formed holds shaped valid legal = absurd (none-some after legal)
step_same options table s after (step.Phi value) formed holds shaped valid legal = absurd (none-some after legal)
step_same options table s after (step.Branch at) formed holds shaped valid legal = absurd (none-some after legal)
step_same options table s after (step.Empty at) formed holds shaped valid legal = absurd (none-some after legal)
step_same options table s after (step.Once at) formed holds shaped valid legal = absurd (none-some after legal)

-- and so do legal steps in turn
pub replay_same : ReplayKeeps
replay_same options table s after [] formed holds shaped valid legal =
    subst (Keeps s) (same_Some s after legal) (record { shaped = shaped; valid = valid; same = Same-refl s })
replay_same options table s after (one ∷ steps) formed holds shaped valid legal =
    let first = between (step_of options table s one) (λ middle. replay options table middle steps) after legal in
    let here = step_same options table s first.middle one formed holds shaped valid first.before in
    let behind = replay_same options table first.middle after steps formed holds here.shaped here.valid first.behind in
    record { shaped = behind.shaped; valid = behind.valid; same = Same-trans s first.middle after here.same behind.same }
