-- How many nodes terms have, by the first of them.
use Rattle.std.proofs.Common.{◌≡◌, ℕ, ◌+◌, ◌<◌, ℤ, Bool, Option, List, [], ◌∷◌, length, get_or, drop, ap, ◌∙◌, arith}
use Rattle.nir_ops.specs.declared.op.Op.{Op}
use Rattle.nir_ops.specs.declared.width.Width.{Width}
use Rattle.rule_term.specs.declared.cond.Cond.{Cond}
use Rattle.rule_term.specs.declared.term.Term.{Term}
use Rattle.rule_term.specs.declared.term.Term.TheVariants as term
use Rattle.rule_term.specs.Terms.{terms_of}
use Rattle.rule_term.specs.Lists.{terms_of-var, terms_of-lit, terms_of-app, terms_of-drop}
use Rattle.rule_term.specs.Splits.{size_of-then}
use Rattle.rule_term.specs.Typings.{size_of}

pub size_of-var : (var : ℕ) (constant : Bool) (size : Option Width) (cond : Option Cond) → size_of (terms_of (term.Var var constant size cond ∷ [])) ≡ 1
size_of-var var constant size cond = ap size_of (terms_of-var var constant size cond)

pub size_of-lit : (value : ℤ) (boolean : Bool) → size_of (terms_of (term.Lit value boolean ∷ [])) ≡ 1
size_of-lit value boolean = ap size_of (terms_of-lit value boolean)

pub size_of-app : (op : Op) (size : Option Width) (once : Bool) (args : List Term) → size_of (terms_of (term.App op size once args ∷ [])) ≡ size_of (terms_of args) + 1
size_of-app op size once args = ap size_of (terms_of-app op size once args) ∙ omega arith

pub size_of-drop : (list : List Term) (i : ℕ) (t : Term) → i < length list → t ≡ get_or list i t → size_of (terms_of (drop i list)) ≡ size_of (terms_of (t ∷ [])) + size_of (terms_of (drop (i + 1) list))
size_of-drop list i t within at = ap size_of (terms_of-drop list i t within at) ∙ size_of-then (terms_of (t ∷ [])) (terms_of (drop (i + 1) list))

pub ruleset size_steps = (size_of-var, size_of-lit, size_of-app, size_of-drop)
