-- Laws by their numbers with what is known of them, and a derivation by its first step.
use Rattle.std.proofs.Common.{◌≡◌, ℕ, zero, suc, ◌+◌, ◌-◌, ◌<◌, true, List, get_or, drop, length, map, Result, Option, Some, None, refl, sym, ap, ◌∙◌, arith}
use Rattle.std.specs.Prelude.{is_some, nat_lt, slice_get}
use Rattle.std.proofs.lemmas.Bool.{ltb-false, ltb-true}
use Rattle.std.specs.Borrow.{Bor}
use Rattle.std.specs.Option.{IfSome, option_copied, option_map}
use Rattle.std.proofs.lemmas.Option.{slice_get-get_or, slice_get-map, slice_get_past}
use Rattle.list_laws.specs.AllLaws.{passes_at}
use Rattle.law_derive.specs.declared.law.Law as code
use Rattle.law_derive.specs.declared.node.Node.{Node}
use Rattle.law_derive.specs.Derivations.{Setting, StepFault, derive_from, derived_on, law_numbered, step_made}
use Rattle.law_derive.proofs.BindingLemmas.{rest_from}
use Rattle.rule_read.specs.declared.derivation.DeriveStep.{DeriveStep}
use Rattle.rule_read.specs.Says.{step_says}
use Rattle.rule_spelling.specs.Files.{Step}
use Rattle.law_derive.specs.LawTable.{Law, laws}
use Rattle.law_derive.specs.SidesLaws.{law_fits, laws_fit}
use Rattle.law_derive.specs.Views.{law_says}

pub law_before : (k : ℕ) → 0 < k → law_numbered k ≡ slice_get laws (k - 1)
law_before zero some = absurd (omega (arith, some))
law_before (suc k) some = let e : k ≡ suc k - 1 = omega arith in ap (slice_get laws) e

pub numbered_fits : (number : ℕ) (law : Law) → law_numbered number ≡ Some law → law_fits law ≡ true
numbered_fits zero law is = absurd cc
numbered_fits (suc k) law is = passes_at law_fits laws k law laws_fit is

-- what is got at a place
pub got : {X : Type 0} → (list : List X) (k : ℕ) (own : Option (Bor X)) → is_some own ≡ nat_lt k (length list) → IfSome own (λ (x : Bor X). x.now ≡ get_or list k x.now)
    → option_copied own ≡ slice_get list k
got list k None is at = sym (slice_get_past list k (ltb-false k (length list) (sym is)))
got list k (Some x) is at = ap (λ y. Some y) at ∙ sym (slice_get-get_or list k x.now (ltb-true k (length list) (sym is)))

copied_says : (own : Option (Bor code.Law)) → option_map (λ (law : Bor code.Law). law_says law.now) own ≡ option_map law_says (option_copied own)
copied_says None = refl
copied_says (Some law) = refl

pub numbered_is : (list : List code.Law) (number : ℕ) (own : Option (Bor code.Law)) → map law_says list ≡ laws → 0 < number → option_copied own ≡ slice_get list (number - 1)
    → option_map (λ (law : Bor code.Law). law_says law.now) own ≡ law_numbered number
numbered_is list number own same some is =
    copied_says own ∙ ap (option_map law_says) is ∙ sym (slice_get-map law_says list (number - 1)) ∙ ap (λ l. slice_get l (number - 1)) same ∙ sym (law_before number some)

pub each_fits : (number : ℕ) (own : Option (Bor code.Law)) → option_map (λ (law : Bor code.Law). law_says law.now) own ≡ law_numbered number
    → IfSome own (λ (law : Bor code.Law). law_fits (law_says law.now) ≡ true)
each_fits number None is = tt
each_fits number (Some law) is = numbered_fits number (law_says law.now) (sym is)

-- a derivation goes on with what the step makes
pub derive_step : (at : Setting) (steps : List DeriveStep) (k : ℕ) (step : DeriveStep) (nodes : List Node) (made : Result (List Node) StepFault) → k < length steps
    → step ≡ get_or steps k step → step_made at (step_says step) nodes ≡ made
    → derive_from at k (map step_says (drop k steps)) nodes ≡ derived_on k made (derive_from at (k + 1) (map step_says (drop (k + 1) steps)))
derive_step at steps k step nodes made within here is =
    let rest : List Step = map step_says (drop (k + 1) steps) in
    let e : suc k ≡ k + 1 = omega arith in
    ap (λ l. derive_from at k (map step_says l) nodes) (rest_from steps k step within here)
    ∙ ap (λ m. derived_on k m (derive_from at (suc k) rest)) is
    ∙ ap (λ n. derived_on k made (derive_from at n rest)) e
