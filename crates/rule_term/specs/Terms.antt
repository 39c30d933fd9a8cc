-- Lists of terms as one chain, in which each term stands before the rest of its list (terms over a signature of opcodes, as in the rules of Mesa's nir_algebraic.py).
use Rattle.std.specs.Prelude.{◌≡◌, refl, ℕ, ℤ, Bool, Option, List, [], ◌∷◌, map}
use Rattle.std.proofs.Common.{◌∙◌, ap}
use Rattle.nir_ops.specs.declared.op.Op.{Op}
use Rattle.nir_ops.specs.declared.width.Width.{Width}
use Rattle.rule_term.specs.declared.cond.Cond.{Cond}
use Rattle.rule_term.specs.declared.term.Term.{Term, Term-F, out-Term, roll-Term, map-Term, fold-Term, fold-roll-Term, fold_out-Term}
use Rattle.rule_term.specs.declared.term.Term.TheVariants as term
use Rattle.rule_term.specs.declared.term.Term.TheOpen as layer

-- a list of variables, numbers, and opcodes over lists
pub data Terms : Type 0 where
  Nil : Terms
  VarThen : (var : ℕ) (constant : Bool) (size : Option Width) (cond : Option Cond) (rest : Terms) → Terms
  LitThen : (value : ℤ) (boolean : Bool) (rest : Terms) → Terms
  AppThen : (op : Op) (size : Option Width) (once : Bool) (args rest : Terms) → Terms

-- one after another
abbrev pub joined : List (Terms → Terms) → Terms
joined [] = Nil
joined (f ∷ fs) = f (joined fs)

abbrev pub before_layer : Term-F (Terms → Terms) → Terms → Terms
before_layer (layer.Var var constant size cond) rest = VarThen var constant size cond rest
before_layer (layer.Lit value boolean) rest = LitThen value boolean rest
before_layer (layer.App op size once args) rest = AppThen op size once (joined args) rest

-- a term before a list
pub before : Term → Terms → Terms
before = fold-Term (Terms → Terms) before_layer

-- a list of terms of the code as a chain
abbrev pub terms_of : List Term → Terms
terms_of list = joined (map before list)

-- a chain as a list of terms of the code
abbrev pub list_of : Terms → List Term
list_of Nil = []
list_of (VarThen var constant size cond rest) = term.Var var constant size cond ∷ list_of rest
list_of (LitThen value boolean rest) = term.Lit value boolean ∷ list_of rest
list_of (AppThen op size once args rest) = term.App op size once (list_of args) ∷ list_of rest

pub before-var : (var : ℕ) (constant : Bool) (size : Option Width) (cond : Option Cond) (rest : Terms) → before (term.Var var constant size cond) rest ≡ VarThen var constant size cond rest
unfolding before roll-Term denote.Hole.Carrier.roll
before-var var constant size cond rest = ap (λ f. f rest) (fold-roll-Term (Terms → Terms) before_layer (layer.Var var constant size cond))

pub before-lit : (value : ℤ) (boolean : Bool) (rest : Terms) → before (term.Lit value boolean) rest ≡ LitThen value boolean rest
unfolding before roll-Term denote.Hole.Carrier.roll
before-lit value boolean rest = ap (λ f. f rest) (fold-roll-Term (Terms → Terms) before_layer (layer.Lit value boolean))

pub before-app : (op : Op) (size : Option Width) (once : Bool) (args : List Term) (rest : Terms) → before (term.App op size once args) rest ≡ AppThen op size once (terms_of args) rest
unfolding before roll-Term denote.Hole.Carrier.roll
before-app op size once args rest = ap (λ f. f rest) (fold-roll-Term (Terms → Terms) before_layer (layer.App op size once args))

-- a term before a list, by its outermost layer
pub before-out : (t : Term) → before t ≡ before_layer (map-Term Term (Terms → Terms) before (out-Term t))
unfolding before
before-out t = fold_out-Term (Terms → Terms) before_layer t

-- a chain made of a list is that list's, and no other
pub terms_of-list_of : (terms : Terms) → terms_of (list_of terms) ≡ terms
terms_of-list_of Nil = refl
terms_of-list_of (VarThen var constant size cond rest) = before-var var constant size cond (terms_of (list_of rest)) ∙ ap (VarThen var constant size cond) (terms_of-list_of rest)
terms_of-list_of (LitThen value boolean rest) = before-lit value boolean (terms_of (list_of rest)) ∙ ap (LitThen value boolean) (terms_of-list_of rest)
terms_of-list_of (AppThen op size once args rest) =
    before-app op size once (list_of args) (terms_of (list_of rest))
    ∙ ap (λ x. AppThen op size once x (terms_of (list_of rest))) (terms_of-list_of args)
    ∙ ap (AppThen op size once args) (terms_of-list_of rest)
