-- Whether a variable stands in terms with a condition, by the first of them.
use Rattle.std.proofs.Common.{◌≡◌, ℕ, ◌+◌, ◌<◌, ℤ, Bool, false, Option, List, [], ◌∷◌, length, get_or, drop, ap, ◌∙◌}
use Rattle.std.specs.Prelude.{◌&&◌, ◌||◌, nat_eq}
use Rattle.std.specs.List.{list_any}
use Rattle.std.proofs.Math.Bool.{or-false}
use Rattle.std.proofs.lemmas.List.{append-nil}
use Rattle.nir_ops.specs.declared.op.Op.{Op}
use Rattle.nir_ops.specs.declared.width.Width.{Width}
use Rattle.rule_term.specs.declared.cond.Cond.{Cond}
use Rattle.rule_term.specs.declared.term.Term.{Term}
use Rattle.rule_term.specs.declared.term.Term.TheVariants as term
use Rattle.rule_term.specs.Lists.{terms_of-app, terms_of-drop, terms_of-lit, terms_of-var}
use Rattle.rule_term.specs.Pieces.{pieces}
use Rattle.rule_term.specs.Splits.{pieces-then}
use Rattle.rule_term.specs.Terms.{terms_of}
use Rattle.law_derive.specs.Asking.{any_append, piece_asks}
use Rattle.law_derive.specs.Derivations.{is_cond}

pub asks-var : (asked : Cond) (sought var : ℕ) (constant : Bool) (size : Option Width) (cond : Option Cond)
    → list_any (piece_asks asked sought) (pieces (terms_of (term.Var var constant size cond ∷ []))) ≡ (nat_eq var sought && is_cond asked cond)
asks-var asked sought var constant size cond =
    ap (λ t. list_any (piece_asks asked sought) (pieces t)) (terms_of-var var constant size cond) ∙ or-false (nat_eq var sought && is_cond asked cond)

pub asks-lit : (asked : Cond) (sought : ℕ) (value : ℤ) (boolean : Bool) → list_any (piece_asks asked sought) (pieces (terms_of (term.Lit value boolean ∷ []))) ≡ false
asks-lit asked sought value boolean = ap (λ t. list_any (piece_asks asked sought) (pieces t)) (terms_of-lit value boolean)

pub asks-app : (asked : Cond) (sought : ℕ) (op : Op) (size : Option Width) (once : Bool) (args : List Term)
    → list_any (piece_asks asked sought) (pieces (terms_of (term.App op size once args ∷ []))) ≡ list_any (piece_asks asked sought) (pieces (terms_of args))
asks-app asked sought op size once args =
    ap (λ t. list_any (piece_asks asked sought) (pieces t)) (terms_of-app op size once args)
    ∙ ap (list_any (piece_asks asked sought)) (append-nil (pieces (terms_of args)))

pub asks-drop : (asked : Cond) (sought : ℕ) (list : List Term) (i : ℕ) (t : Term) → i < length list → t ≡ get_or list i t
    → list_any (piece_asks asked sought) (pieces (terms_of (drop i list)))
    ≡ (list_any (piece_asks asked sought) (pieces (terms_of (t ∷ []))) || list_any (piece_asks asked sought) (pieces (terms_of (drop (i + 1) list))))
asks-drop asked sought list i t within at =
    ap (λ terms. list_any (piece_asks asked sought) (pieces terms)) (terms_of-drop list i t within at)
    ∙ ap (list_any (piece_asks asked sought)) (pieces-then (terms_of (t ∷ [])) (terms_of (drop (i + 1) list)))
    ∙ any_append (piece_asks asked sought) (pieces (terms_of (t ∷ []))) (pieces (terms_of (drop (i + 1) list)))

pub ruleset asks_steps = (asks-var, asks-lit, asks-app, asks-drop)

-- of a term that is one of these
module _ (asked : Cond) (sought : ℕ) (t : Term) where
  pub at-var : (var : ℕ) (constant : Bool) (size : Option Width) (cond : Option Cond) → t ≡ term.Var var constant size cond
      → list_any (piece_asks asked sought) (pieces (terms_of (t ∷ []))) ≡ (nat_eq var sought && is_cond asked cond)
  at-var var constant size cond is = ap (λ x. list_any (piece_asks asked sought) (pieces (terms_of (x ∷ [])))) is ∙ asks-var asked sought var constant size cond

  pub at-lit : (value : ℤ) (boolean : Bool) → t ≡ term.Lit value boolean → list_any (piece_asks asked sought) (pieces (terms_of (t ∷ []))) ≡ false
  at-lit value boolean is = ap (λ x. list_any (piece_asks asked sought) (pieces (terms_of (x ∷ [])))) is ∙ asks-lit asked sought value boolean

  pub at-app : (op : Op) (size : Option Width) (once : Bool) (args : List Term) → t ≡ term.App op size once args
      → list_any (piece_asks asked sought) (pieces (terms_of (t ∷ []))) ≡ list_any (piece_asks asked sought) (pieces (terms_of args))
  at-app op size once args is = ap (λ x. list_any (piece_asks asked sought) (pieces (terms_of (x ∷ [])))) is ∙ asks-app asked sought op size once args
