-- Steps behind steps, no steps, one step, and what steps keep.
use Rattle.std.specs.Prelude.{◌≡◌, refl, ◌+◌, ◌≤◌, ◌&&◌, ℕ, Option, Some, None, List, [], ◌∷◌, ◌++◌, length, true, false, nat_eq, slice_get, if◌then◌else◌}
use Rattle.std.specs.Option.{option_and_then, option_map_or}
use Rattle.std.proofs.Common.{sym, ◌∙◌, ap, append_assoc, arith}
use Rattle.std.proofs.lemmas.Bool.{and_from, cond-true, eq-eqb}
use Rattle.std.proofs.lemmas.List.{append-nil, length-append}
use Rattle.std.proofs.lemmas.Option.{same_Some}
use Rattle.nir_ir.specs.declared.ids.ValueId.{ValueId}
use Rattle.nir_ir.specs.declared.journal.Step.{Step}
use Rattle.nir_ir.specs.declared.journal.Step.TheVariants as step
use Rattle.nir_ir.specs.Shader.{Shader}
use Rattle.nir_ir.specs.Shaped.{IsShaped}
use Rattle.nir_validate.specs.Valid.{Valid}
use Rattle.rule_term.specs.declared.when.Options.{Options}
use Rattle.rule_term.specs.Descending.{is_descending}
use Rattle.rule_term.specs.Rule.{Rule}
use Rattle.rule_term.specs.Table.{AllFormed, AllHold, Table, op_weight}
use Rattle.nir_search.specs.declared.hit.Hit.{Hit}
use Rattle.nir_search.specs.First.{first_hit}
use Rattle.nir_search.specs.FirstLaws.{replay-append}
use Rattle.nir_search.specs.Steps.{is_of, put_hit, replay, rule_step, step_of}
use Rattle.nir_search.specs.Weight.{weight_of}
use Rattle.run_laws.specs.InPlace.{Keeps}
use Rattle.rule_meaning.specs.StepSame.{replay_same}
use Rattle.rewrite_pass.specs.Rewriting.{Advances, Rewrites}

pub rewrites_then : (options : Options) (table : List Rule) (a b c : Shader) (first second third : List Step) → Rewrites options table a b first second → Rewrites options table b c second third
    → Rewrites options table a c first third
rewrites_then options table a b c first second third before behind = record {
  done = before.done ++ behind.done;
  told = behind.told ∙ ap (λ l. l ++ behind.done) before.told ∙ append_assoc first before.done behind.done;
  legal = replay-append options table a before.done behind.done ∙ ap (option_and_then (λ middle. replay options table middle behind.done)) before.legal ∙ behind.legal;
}

-- where nothing has changed
pub rewrites_none : (options : Options) (table : List Rule) (a b : Shader) (first second : List Step) → b ≡ a → second ≡ first → Rewrites options table a b first second
rewrites_none options table a b first second same kept = record { done = []; told = kept ∙ sym (append-nil first); legal = ap Some (sym same) }

pub advances_then : (options : Options) (table : Table) (a b c : Shader) (first second third : List Step) (m n : ℕ) → Advances options table a b first second m → Advances options table b c second third n
    → Advances options table a c first third (m + n)
advances_then options table a b c first second third m n before behind = record {
  steps = rewrites_then options table.rules a b c first second third before.steps behind.steps;
  number = let one = before.number in let two = behind.number in omega (arith, one, two);
  fresh = let one = before.fresh in let two = behind.fresh in omega (arith, one, two);
  falls = λ down. let one = before.falls down in let two = behind.falls down in omega (arith, one, two);
}

pub advances_none : (options : Options) (table : Table) (a : Shader) (journal : List Step) → Advances options table a a journal journal 0
advances_none options table a journal = record {
  steps = rewrites_none options table.rules a a journal journal refl refl;
  number = omega arith;
  fresh = omega arith;
  falls = λ down. omega arith;
}

-- no steps lead nowhere
empty_list : {A : Type 0} (list : List A) → length list ≡ 0 → list ≡ []
empty_list [] none = refl
empty_list (a ∷ list) none = absurd (omega (arith, none))

pub advances_stays : (options : Options) (table : Table) (a b : Shader) (first second : List Step) → Advances options table a b first second 0 → b ≡ a
advances_stays options table a b first second none =
    let steps = none.steps in
    let long : length second ≡ length first + length steps.done = ap length steps.told ∙ length-append first steps.done in
    let number = none.number in
    let nothing : steps.done ≡ [] = empty_list steps.done (omega (arith, long, number)) in
    sym (same_Some a b (sym (ap (replay options table.rules a) nothing) ∙ steps.legal))

-- ---- what steps keep

pub rewrites_keep : (options : Options) (table : List Rule) (a b : Shader) (first second : List Step) → AllFormed table → AllHold table → IsShaped a → Valid a → Rewrites options table a b first second → Keeps a b
rewrites_keep options table a b first second formed hold shaped valid steps = replay_same options table a b steps.done formed hold shaped valid steps.legal

-- ---- one step

first_then : (options : Options) (table : List Rule) (s : Shader) (value : ValueId) (hit : Hit) (rule : Rule) → first_hit options table s.body value ≡ Some hit → slice_get table hit.rule ≡ Some rule
    → rule_step options table s value rule.number hit.variant ≡ put_hit table s value hit
first_then options table s value hit rule first at =
    let test : is_of table rule.number hit.variant hit ≡ true =
    ap (λ (found : Option Rule). option_map_or (λ r. nat_eq r.number rule.number) found false && nat_eq hit.variant hit.variant) at
    ∙ and_from (nat_eq rule.number rule.number) (nat_eq hit.variant hit.variant) (eq-eqb rule.number rule.number refl) (eq-eqb hit.variant hit.variant refl) in
    ap (option_and_then (λ h. if is_of table rule.number hit.variant h then put_hit table s value h else None)) first ∙ cond-true (is_of table rule.number hit.variant hit) (put_hit table s value hit) None test

-- what was found first, put and told, is a step
pub step_advances : (options : Options) (table : Table) (s t : Shader) (value : ValueId) (hit : Hit) (rule : Rule) (number : ℕ) (journal grown : List Step) → first_hit options table.rules s.body value ≡ Some hit → slice_get table.rules hit.rule ≡ Some rule
    → number ≡ rule.number → put_hit table.rules s value hit ≡ Some t → grown ≡ journal ++ step.Rule value number hit.variant ∷ [] → t.next_value ≤ s.next_value + 64
    → (is_descending table ≡ true → weight_of (op_weight table) t + 1 ≤ weight_of (op_weight table) s) → Advances options table s t journal grown 1
step_advances options table s t value hit rule number journal grown first at same is_put told few falls =
    let own : Step = step.Rule value number hit.variant in
    let legal : step_of options table.rules s own ≡ Some t =
    ap (λ n. rule_step options table.rules s value n hit.variant) same ∙ first_then options table.rules s value hit rule first at ∙ is_put in
    record {
      steps = record { done = own ∷ []; told = told; legal = ap (option_and_then (λ after. replay options table.rules after [])) legal };
      number = ap length told ∙ length-append journal (own ∷ []);
      fresh = omega (arith, few);
      falls = falls;
    }
