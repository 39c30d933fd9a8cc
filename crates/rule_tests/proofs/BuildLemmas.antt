-- Terms that a program builds, as chains.
use Rattle.std.proofs.Common.{◌≡◌, Bool, Option, List, [], ◌∷◌, ◌++◌, ◌∙◌, ap}
use Rattle.nir_ops.specs.declared.op.Op.{Op}
use Rattle.nir_ops.specs.declared.width.Width.{Width}
use Rattle.rule_term.specs.declared.term.Term.{Term}
use Rattle.rule_term.specs.declared.term.Term.TheVariants as term
use Rattle.rule_term.specs.Terms.{Nil, AppThen, terms_of}
use Rattle.rule_term.specs.Lists.{then, terms_of-var, terms_of-lit, terms_of-app, terms_of-cons}

-- an opcode over a term, and over one more
pub terms_of_over_two : (op : Op) (size : Option Width) (once : Bool) (list more : List Term) (first second : Term) → list ≡ first ∷ [] → more ≡ list ++ second ∷ [] → terms_of (term.App op size once more ∷ []) ≡ AppThen op size once (then (terms_of (first ∷ [])) (terms_of (second ∷ []))) Nil
terms_of_over_two op size once list more first second e f =
    terms_of-app op size once more
    ∙ ap (λ l. AppThen op size once (terms_of l) Nil) (f ∙ ap (λ l. l ++ second ∷ []) e)
    ∙ ap (λ t. AppThen op size once t Nil) (terms_of-cons first (second ∷ []))

pub ruleset build_steps = (terms_of-var, terms_of-lit, terms_of-app)
