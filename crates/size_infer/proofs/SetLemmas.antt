-- Sets of sizes stand for tests.
use Rattle.std.proofs.Common.{◌≡◌, refl, ℕ, Bool, List, [], ◌∷◌, ◌++◌, map, sym, ◌∙◌, ap, append_assoc}
use Rattle.std.proofs.Math.Path.{fun_ext}
use Rattle.std.proofs.lemmas.List.{map-append}
use Rattle.nir_ops.specs.declared.width.Width.{Width}
use Rattle.nir_ops.specs.declared.width.Width.TheVariants.{W1, W8, W16, W32, W64}
use Rattle.size_laws.specs.Places as place
use Rattle.rule_term.specs.ReplaceLeast.{set_has, set_of}
use Rattle.size_infer.specs.Meant.{meant}
use Rattle.size_infer.specs.declared.size_rule.SizeRule.{SizeRule}
use Rattle.size_infer.specs.declared.size_rule.SizeRule.TheVariants as code
use Rattle.rule_term.specs.declared.width_set.WidthSet.{WidthSet}

pub set_has-of : (test : Width → Bool) (width : Width) → set_has (set_of test) width ≡ test width
set_has-of test W1 = refl
set_has-of test W8 = refl
set_has-of test W16 = refl
set_has-of test W32 = refl
set_has-of test W64 = refl

pub only : (p : ℕ) (set : WidthSet) (test : Width → Bool) → set ≡ set_of test → meant (code.Within p set) ≡ place.Only p test
only p set test e = ap (λ s. place.Only p (set_has s)) e ∙ ap (place.Only p) (fun_ext (set_has-of test))

-- a rule more
pub pushed : (old new : List SizeRule) (rule : SizeRule) (asked : place.SizeRule) → new ≡ old ++ rule ∷ [] → meant rule ≡ asked → map meant new ≡ map meant old ++ asked ∷ []
pushed old new rule asked e same = ap (map meant) e ∙ map-append meant old (rule ∷ []) ∙ ap (λ r. map meant old ++ r ∷ []) same

-- what is added in two steps
pub twice : {A : Type 0} (a b c x y : List A) → b ≡ a ++ x → c ≡ b ++ y → c ≡ a ++ (x ++ y)
twice a b c x y first second = second ∙ ap (λ l. l ++ y) first ∙ append_assoc a x y

-- a step of a loop that adds the first part of what is left
pub stepped : {A : Type 0} (old new part left rest whole : List A) → new ≡ old ++ part → left ≡ part ++ rest → old ++ left ≡ whole → new ++ rest ≡ whole
stepped old new part left rest whole added split made = ap (λ l. l ++ rest) added ∙ append_assoc old part rest ∙ ap (λ l. old ++ l) (sym split) ∙ made
