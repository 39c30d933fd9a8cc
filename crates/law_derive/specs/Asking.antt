-- The conditions on the occurrences of a variable, apart from their sizes.
use Rattle.std.proofs.Common.{◌≡◌, ℕ, Bool, false, List, [], ◌∷◌, ◌++◌, drop, refl, sym, ap, ◌∙◌}
use Rattle.std.specs.Prelude.{◌&&◌, ◌||◌, nat_eq, suc}
use Rattle.std.specs.List.{list_any}
use Rattle.std.proofs.Math.Bool.{or_assoc}
use Rattle.nir_ops.specs.declared.width.Width.{Width}
use Rattle.rule_term.specs.declared.cond.Cond.{Cond}
use Rattle.rule_term.specs.Pieces.{Piece, VarPiece, LitPiece, AppPiece, pieces}
use Rattle.rule_term.specs.Terms.{Terms, Nil, VarThen, LitThen, AppThen}
use Rattle.rule_term.specs.Typings.{occurrences, size_of}
use Rattle.law_derive.specs.Derivations.{asks, is_cond}

-- an occurrence of the variable with the condition
abbrev pub piece_asks : Cond → ℕ → Piece → Bool
piece_asks cond var (VarPiece own constant size own_cond) = nat_eq own var && is_cond cond own_cond
piece_asks cond var (LitPiece value boolean) = false
piece_asks cond var (AppPiece op size once sources) = false

pub any_append : {X : Type 0} (test : X → Bool) (front rest : List X) → list_any test (front ++ rest) ≡ (list_any test front || list_any test rest)
any_append test [] rest = refl
any_append test (x ∷ front) rest = ap (λ b. test x || b) (any_append test front rest) ∙ sym (or_assoc (test x) (list_any test front) (list_any test rest))

-- sizes play no part
pub asks_any : (cond : Cond) (var : ℕ) (terms : Terms) (widths : List Width) → list_any (asks cond var) (occurrences terms widths) ≡ list_any (piece_asks cond var) (pieces terms)
asks_any cond var Nil widths = refl
asks_any cond var (VarThen own constant size own_cond rest) widths = ap (λ b. (nat_eq own var && is_cond cond own_cond) || b) (asks_any cond var rest (drop 1 widths))
asks_any cond var (LitThen value boolean rest) widths = asks_any cond var rest (drop 1 widths)
asks_any cond var (AppThen op size once args rest) widths =
    any_append (asks cond var) (occurrences args (drop 1 widths)) (occurrences rest (drop (suc (size_of args)) widths))
    ∙ (λ i. asks_any cond var args (drop 1 widths) i || asks_any cond var rest (drop (suc (size_of args)) widths) i)
    ∙ sym (any_append (piece_asks cond var) (pieces args) (pieces rest))
