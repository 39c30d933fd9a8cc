-- Whether terms stand at 8 bits, by their first.
use Rattle.std.specs.Prelude.{◌≡◌, refl, ◌<◌, ◌+◌, ℕ, ℤ, Bool, false, ◌&&◌, ◌||◌, Option, List, [], ◌∷◌, ◌++◌, length}
use Rattle.std.proofs.Common.{sym, ◌∙◌, ap, get_or, drop}
use Rattle.std.proofs.Math.Bool.{and-true}
use Rattle.std.proofs.lemmas.List.{append-nil}
use Rattle.std.proofs.lemmas.List.Folds.{list_all-append}
use Rattle.std.specs.List.{list_all, list_any}
use Rattle.std.proofs.Math.Bool.{or_assoc, or-false}
use Rattle.nir_ops.specs.declared.op.Op.{Op}
use Rattle.nir_ops.specs.declared.width.Width.{Width}
use Rattle.rule_term.specs.declared.cond.Cond.{Cond}
use Rattle.rule_term.specs.declared.term.Term.{Term}
use Rattle.rule_term.specs.declared.term.Term.TheVariants as term
use Rattle.rule_term.specs.EightBit.{asks_eight, eight_or_none, eight_piece, is_eight, is_unsized}
use Rattle.rule_term.specs.Lists.{terms_of-app, terms_of-drop, terms_of-lit, terms_of-var}
use Rattle.rule_term.specs.Pieces.{LitPiece, pieces}
use Rattle.rule_term.specs.Splits.{pieces-then}
use Rattle.rule_term.specs.Terms.{terms_of}

pub eight-var : (var : ℕ) (constant : Bool) (size : Option Width) (cond : Option Cond) → list_all eight_piece (pieces (terms_of (term.Var var constant size cond ∷ []))) ≡ eight_or_none size
eight-var var constant size cond = ap (λ t. list_all eight_piece (pieces t)) (terms_of-var var constant size cond) ∙ and-true (eight_or_none size)

pub eight-lit : (value : ℤ) (boolean : Bool) → list_all eight_piece (pieces (terms_of (term.Lit value boolean ∷ []))) ≡ eight_piece (LitPiece value boolean)
eight-lit value boolean = ap (λ t. list_all eight_piece (pieces t)) (terms_of-lit value boolean) ∙ and-true (eight_piece (LitPiece value boolean))

pub eight-app : (op : Op) (size : Option Width) (once : Bool) (args : List Term) → list_all eight_piece (pieces (terms_of (term.App op size once args ∷ []))) ≡ ((is_unsized op && eight_or_none size) && list_all eight_piece (pieces (terms_of args)))
eight-app op size once args =
    ap (λ t. list_all eight_piece (pieces t)) (terms_of-app op size once args)
    ∙ ap (λ l. (is_unsized op && eight_or_none size) && list_all eight_piece l) (append-nil (pieces (terms_of args)))

pub eight-drop : (list : List Term) (i : ℕ) (t : Term) → i < length list → t ≡ get_or list i t → list_all eight_piece (pieces (terms_of (drop i list))) ≡ (list_all eight_piece (pieces (terms_of (t ∷ []))) && list_all eight_piece (pieces (terms_of (drop (i + 1) list))))
eight-drop list i t within at =
    ap (λ terms. list_all eight_piece (pieces terms)) (terms_of-drop list i t within at)
    ∙ ap (list_all eight_piece) (pieces-then (terms_of (t ∷ [])) (terms_of (drop (i + 1) list)))
    ∙ list_all-append eight_piece (pieces (terms_of (t ∷ []))) (pieces (terms_of (drop (i + 1) list)))

pub ruleset eight_steps = (eight-var, eight-lit, eight-app, eight-drop)

list_any-append : {A : Type 0} (test : A → Bool) (first second : List A) → list_any test (first ++ second) ≡ (list_any test first || list_any test second)
list_any-append test [] second = refl
list_any-append test (a ∷ first) second = ap (λ b. test a || b) (list_any-append test first second) ∙ sym (or_assoc (test a) (list_any test first) (list_any test second))

pub asks-var : (var : ℕ) (constant : Bool) (size : Option Width) (cond : Option Cond) → list_any asks_eight (pieces (terms_of (term.Var var constant size cond ∷ []))) ≡ is_eight size
asks-var var constant size cond = ap (λ t. list_any asks_eight (pieces t)) (terms_of-var var constant size cond) ∙ or-false (is_eight size)

pub asks-lit : (value : ℤ) (boolean : Bool) → list_any asks_eight (pieces (terms_of (term.Lit value boolean ∷ []))) ≡ false
asks-lit value boolean = ap (λ t. list_any asks_eight (pieces t)) (terms_of-lit value boolean)

pub asks-app : (op : Op) (size : Option Width) (once : Bool) (args : List Term) → list_any asks_eight (pieces (terms_of (term.App op size once args ∷ []))) ≡ list_any asks_eight (pieces (terms_of args))
asks-app op size once args =
    ap (λ t. list_any asks_eight (pieces t)) (terms_of-app op size once args)
    ∙ ap (list_any asks_eight) (append-nil (pieces (terms_of args)))

pub asks-drop : (list : List Term) (i : ℕ) (t : Term) → i < length list → t ≡ get_or list i t → list_any asks_eight (pieces (terms_of (drop i list))) ≡ (list_any asks_eight (pieces (terms_of (t ∷ []))) || list_any asks_eight (pieces (terms_of (drop (i + 1) list))))
asks-drop list i t within at =
    ap (λ terms. list_any asks_eight (pieces terms)) (terms_of-drop list i t within at)
    ∙ ap (list_any asks_eight) (pieces-then (terms_of (t ∷ [])) (terms_of (drop (i + 1) list)))
    ∙ list_any-append asks_eight (pieces (terms_of (t ∷ []))) (pieces (terms_of (drop (i + 1) list)))

pub ruleset asks_steps = (asks-var, asks-lit, asks-app, asks-drop)
