-- What the bits of a variant and the commutative opcodes are along two chains, one after another.
use Rattle.std.specs.Prelude.{◌≡◌, refl, ◌+◌, ◌<◌, ℕ, List, [], ◌∷◌, length, get_or, drop}
use Rattle.std.proofs.Common.{◌∙◌, ap}
use Rattle.rule_term.specs.declared.term.Term.{Term}
use Rattle.rule_term.specs.Lists.{then, terms_of-drop}
use Rattle.rule_term.specs.Terms.{Terms, Nil, VarThen, LitThen, AppThen, terms_of}
use Rattle.rule_term.specs.Variants.{bits_behind, bits_left}

pub bits_behind-then : (a b : Terms) (bits : ℕ) → bits_behind (then a b) bits ≡ bits_behind b (bits_behind a bits)
bits_behind-then Nil b bits = refl
bits_behind-then (VarThen var constant size cond rest) b bits = bits_behind-then rest b bits
bits_behind-then (LitThen value boolean rest) b bits = bits_behind-then rest b bits
bits_behind-then (AppThen op size once args rest) b bits = bits_behind-then rest b (bits_behind args (bits_left op bits))

-- the bits behind a list from a place on are those behind the term at the place, and then behind the others
pub bits_behind-drop : (list : List Term) (i : ℕ) (t : Term) (bits : ℕ) → i < length list → t ≡ get_or list i t
    → bits_behind (terms_of (drop i list)) bits ≡ bits_behind (terms_of (drop (i + 1) list)) (bits_behind (terms_of (t ∷ [])) bits)
bits_behind-drop list i t bits within at =
    ap (λ terms. bits_behind terms bits) (terms_of-drop list i t within at)
    ∙ bits_behind-then (terms_of (t ∷ [])) (terms_of (drop (i + 1) list)) bits
