-- How many commutative opcodes a list of terms has: those of the first, and those of the others.
use Rattle.std.specs.Prelude.{◌≡◌, ◌+◌, ◌<◌, ℕ, List, [], ◌∷◌, length}
use Rattle.std.proofs.Common.{◌∙◌, ap, arith, drop, get_or}
use Rattle.rule_term.specs.declared.term.Term.{Term}
use Rattle.rule_term.specs.Lists.{then, terms_of-drop}
use Rattle.rule_term.specs.Terms.{Terms, Nil, VarThen, LitThen, AppThen, terms_of}
use Rattle.rule_term.specs.Variants.{commutes}

commutes-then : (a b : Terms) → commutes (then a b) ≡ commutes a + commutes b
commutes-then Nil b = omega arith
commutes-then (VarThen var constant size cond rest) b = commutes-then rest b
commutes-then (LitThen value boolean rest) b = commutes-then rest b
commutes-then (AppThen op size once args rest) b =
    let inner : commutes (then rest b) ≡ commutes rest + commutes b = commutes-then rest b in
    omega (arith, inner)

pub commutes-drop : (list : List Term) (i : ℕ) (t : Term) → i < length list → t ≡ get_or list i t → commutes (terms_of (drop i list)) ≡ commutes (terms_of (t ∷ [])) + commutes (terms_of (drop (i + 1) list))
commutes-drop list i t within at = ap commutes (terms_of-drop list i t within at) ∙ commutes-then (terms_of (t ∷ [])) (terms_of (drop (i + 1) list))
