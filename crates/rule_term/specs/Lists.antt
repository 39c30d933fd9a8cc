-- Chains of terms, one after another, and the chain of a list of terms by its first.
use Rattle.std.specs.Prelude.{◌≡◌, refl, ℕ, ℤ, ◌+◌, ◌<◌, Bool, Option, List, [], ◌∷◌, ◌++◌, length}
use Rattle.std.proofs.Common.{sym, ◌∙◌, ap, get_or, drop}
use Rattle.std.proofs.lemmas.List.{drop_more}
use Rattle.nir_ops.specs.declared.op.Op.{Op}
use Rattle.nir_ops.specs.declared.width.Width.{Width}
use Rattle.rule_term.specs.declared.cond.Cond.{Cond}
use Rattle.rule_term.specs.declared.term.Term.{Term, Term-F, out-Term, map-Term}
use Rattle.rule_term.specs.declared.term.Term.TheVariants as term
use Rattle.rule_term.specs.declared.term.Term.TheOpen as layer
use Rattle.rule_term.specs.Terms.{Terms, Nil, VarThen, LitThen, AppThen, before, before_layer, before-out, before-var, before-lit, before-app, terms_of}

-- one chain after another
abbrev pub then : Terms → Terms → Terms
then Nil more = more
then (VarThen var constant size cond rest) more = VarThen var constant size cond (then rest more)
then (LitThen value boolean rest) more = LitThen value boolean (then rest more)
then (AppThen op size once args rest) more = AppThen op size once args (then rest more)

pub then-Nil : (terms : Terms) → then terms Nil ≡ terms
then-Nil Nil = refl
then-Nil (VarThen var constant size cond rest) = ap (VarThen var constant size cond) (then-Nil rest)
then-Nil (LitThen value boolean rest) = ap (LitThen value boolean) (then-Nil rest)
then-Nil (AppThen op size once args rest) = ap (AppThen op size once args) (then-Nil rest)

pub then_assoc : (a b c : Terms) → then (then a b) c ≡ then a (then b c)
then_assoc Nil b c = refl
then_assoc (VarThen var constant size cond rest) b c = ap (VarThen var constant size cond) (then_assoc rest b c)
then_assoc (LitThen value boolean rest) b c = ap (LitThen value boolean) (then_assoc rest b c)
then_assoc (AppThen op size once args rest) b c = ap (AppThen op size once args) (then_assoc rest b c)

then-before_layer : (layer : Term-F (Terms → Terms)) (rest more : Terms) → then (before_layer layer rest) more ≡ before_layer layer (then rest more)
then-before_layer (layer.Var var constant size cond) rest more = refl
then-before_layer (layer.Lit value boolean) rest more = refl
then-before_layer (layer.App op size once args) rest more = refl

-- what stands before a chain stands before the longer one
pub then-before : (t : Term) (rest more : Terms) → then (before t rest) more ≡ before t (then rest more)
then-before t rest more =
    ap (λ f. then (f rest) more) (before-out t)
    ∙ then-before_layer (map-Term Term (Terms → Terms) before (out-Term t)) rest more
    ∙ ap (λ f. f (then rest more)) (sym (before-out t))

-- two lists, one after another
pub terms_of-append : (first second : List Term) → terms_of (first ++ second) ≡ then (terms_of first) (terms_of second)
terms_of-append [] second = refl
terms_of-append (t ∷ rest) second = ap (before t) (terms_of-append rest second) ∙ sym (then-before t (terms_of rest) (terms_of second))

-- a list of one term
pub terms_of-var : (var : ℕ) (constant : Bool) (size : Option Width) (cond : Option Cond) → terms_of (term.Var var constant size cond ∷ []) ≡ VarThen var constant size cond Nil
terms_of-var var constant size cond = before-var var constant size cond Nil

pub terms_of-lit : (value : ℤ) (boolean : Bool) → terms_of (term.Lit value boolean ∷ []) ≡ LitThen value boolean Nil
terms_of-lit value boolean = before-lit value boolean Nil

pub terms_of-app : (op : Op) (size : Option Width) (once : Bool) (args : List Term) → terms_of (term.App op size once args ∷ []) ≡ AppThen op size once (terms_of args) Nil
terms_of-app op size once args = before-app op size once args Nil

-- the first term and the rest
pub terms_of-cons : (t : Term) (rest : List Term) → terms_of (t ∷ rest) ≡ then (terms_of (t ∷ [])) (terms_of rest)
terms_of-cons t rest = terms_of-append (t ∷ []) rest

-- the term at a place and the terms behind it, as a loop over a list meets them
pub terms_of-drop : (list : List Term) (i : ℕ) (t : Term) → i < length list → t ≡ get_or list i t → terms_of (drop i list) ≡ then (terms_of (t ∷ [])) (terms_of (drop (i + 1) list))
terms_of-drop list i t within at =
    ap terms_of (drop_more list i t within)
    ∙ ap (λ u. terms_of (u ∷ drop (i + 1) list)) (sym at)
    ∙ terms_of-cons t (drop (i + 1) list)
