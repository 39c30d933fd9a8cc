-- The opcodes of terms, term by term.
use Rattle.std.proofs.Common.{◌≡◌, refl, ℕ, ℤ, ◌+◌, ◌<◌, Bool, true, false, Option, Some, None, List, [], ◌∷◌, ◌++◌, length, drop, get_or, ◌∙◌, ap}
use Rattle.std.specs.Prelude.{find, cond}
use Rattle.std.specs.List.{flat_map}
use Rattle.std.specs.Option.{option_or}
use Rattle.std.proofs.lemmas.Grind.{flat_map-append}
use Rattle.std.proofs.lemmas.List.{append-nil}
use Rattle.std.proofs.lemmas.List.Folds.{find-append}
use Rattle.nir_ops.specs.declared.op.Op.{Op}
use Rattle.nir_ops.specs.declared.width.Width.{Width}
use Rattle.rule_term.specs.declared.cond.Cond.{Cond}
use Rattle.rule_term.specs.declared.term.Term.{Term}
use Rattle.rule_term.specs.declared.term.Term.TheVariants as term
use Rattle.rule_term.specs.Terms.{Terms, terms_of}
use Rattle.rule_term.specs.Lists.{then, terms_of-var, terms_of-lit, terms_of-app, terms_of-drop}
use Rattle.rule_term.specs.Pieces.{op_of, ops_of, pieces}
use Rattle.rule_term.specs.Splits.{pieces-then}

ops-then : (a b : Terms) → ops_of (then a b) ≡ ops_of a ++ ops_of b
ops-then a b = ap (λ list. flat_map op_of list) (pieces-then a b) ∙ flat_map-append op_of (pieces a) (pieces b)

module _ (test : Op → Bool) where
  pub found-var : (t : Term) (var : ℕ) (constant : Bool) (size : Option Width) (condition : Option Cond) → t ≡ term.Var var constant size condition → find test (ops_of (terms_of (t ∷ []))) ≡ None
  found-var t var constant size condition is = ap (λ u. find test (ops_of (terms_of (u ∷ [])))) is ∙ ap (λ u. find test (ops_of u)) (terms_of-var var constant size condition)

  pub found-lit : (t : Term) (value : ℤ) (boolean : Bool) → t ≡ term.Lit value boolean → find test (ops_of (terms_of (t ∷ []))) ≡ None
  found-lit t value boolean is = ap (λ u. find test (ops_of (terms_of (u ∷ [])))) is ∙ ap (λ u. find test (ops_of u)) (terms_of-lit value boolean)

  own_first : (b : Bool) (op : Op) (rest : Option Op) → cond b (Some op) rest ≡ option_or (cond b (Some op) None) rest
  own_first true op rest = refl
  own_first false op rest = refl

  pub found-app : (t : Term) (op : Op) (size : Option Width) (once : Bool) (args : List Term) → t ≡ term.App op size once args →
      find test (ops_of (terms_of (t ∷ []))) ≡ option_or (cond (test op) (Some op) None) (find test (ops_of (terms_of args)))
  found-app t op size once args is =
      ap (λ u. find test (ops_of (terms_of (u ∷ [])))) is
      ∙ ap (λ u. find test (ops_of u)) (terms_of-app op size once args)
      ∙ ap (λ list. cond (test op) (Some op) (find test (flat_map op_of list))) (append-nil (pieces (terms_of args)))
      ∙ own_first (test op) op (find test (ops_of (terms_of args)))

  pub found-step : (list : List Term) (i : ℕ) (t : Term) → i < length list → t ≡ get_or list i t →
      find test (ops_of (terms_of (drop i list))) ≡ option_or (find test (ops_of (terms_of (t ∷ [])))) (find test (ops_of (terms_of (drop (i + 1) list))))
  found-step list i t within at =
      ap (λ u. find test (ops_of u)) (terms_of-drop list i t within at)
      ∙ ap (find test) (ops-then (terms_of (t ∷ [])) (terms_of (drop (i + 1) list)))
      ∙ find-append test (ops_of (terms_of (t ∷ []))) (ops_of (terms_of (drop (i + 1) list)))

pub or_assoc : (a b c : Option Op) → option_or (option_or a b) c ≡ option_or a (option_or b c)
or_assoc None b c = refl
or_assoc (Some a) b c = refl
