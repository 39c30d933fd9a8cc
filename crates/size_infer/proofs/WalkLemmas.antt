-- What terms ask of the sizes of their nodes, by the first of them, and that of a list of one term.
use Rattle.std.proofs.Common.{◌≡◌, refl, ℕ, ◌+◌, ◌<◌, ℤ, Bool, Option, List, [], ◌∷◌, ◌++◌, length, map, get_or, drop, ap, sym, ◌∙◌, arith}
use Rattle.std.proofs.lemmas.List.{append-nil, map-append}
use Rattle.nir_ops.specs.declared.op.Op.{Op}
use Rattle.nir_ops.specs.declared.width.Width.{Width}
use Rattle.rule_term.specs.declared.cond.Cond.{Cond}
use Rattle.rule_term.specs.declared.term.Term.{Term, Term-F, out-Term, map-Term}
use Rattle.rule_term.specs.declared.term.Term.TheVariants as term
use Rattle.rule_term.specs.declared.term.Term.TheOpen as layer
use Rattle.rule_term.specs.Terms.{Terms, Nil, before, before_layer, before-out, terms_of}
use Rattle.rule_term.specs.Lists.{terms_of-var, terms_of-lit, terms_of-app, terms_of-drop}
use Rattle.rule_term.specs.Splits.{size_of-then}
use Rattle.rule_term.specs.Typings.{size_of, has_size, literal_fits}
use Rattle.size_laws.specs.Places as place
use Rattle.size_laws.specs.NodeRules.{op_rules, root_places, rules_of, var_places}
use Rattle.size_laws.specs.ThensLaws.{rules_of-then, root_places-then, var_places-then}
use Rattle.rule_term.specs.ReplaceLeast.{set_of}
use Rattle.size_infer.specs.Meant.{meant, spot_of}
use Rattle.size_infer.specs.declared.size_rule.SizeRule.{SizeRule}
use Rattle.size_infer.specs.declared.size_rule.SizeRule.TheVariants as code
use Rattle.size_infer.specs.declared.size_rule.Spot.{Spot}
use Rattle.rule_term.specs.declared.width_set.WidthSet.{WidthSet}
use Rattle.size_infer.proofs.SetLemmas.{only, pushed, twice}

module _ (t : Term) (var : ℕ) (constant : Bool) (size : Option Width) (cond : Option Cond) (is : t ≡ term.Var var constant size cond) where
  pub var_terms : {A : Type 0} (f : Terms → A) → f (terms_of (t ∷ [])) ≡ f (terms_of (term.Var var constant size cond ∷ []))
  var_terms f = ap (λ u. f (terms_of (u ∷ []))) is

  pub size_of-var : size_of (terms_of (t ∷ [])) ≡ 1
  size_of-var = var_terms size_of ∙ ap size_of (terms_of-var var constant size cond)

  pub rules_of-var : (k : ℕ) → rules_of (terms_of (t ∷ [])) k ≡ place.Only k (has_size size) ∷ []
  rules_of-var k = var_terms (λ x. rules_of x k) ∙ ap (λ x. rules_of x k) (terms_of-var var constant size cond)

  pub spots-var : (k : ℕ) (spot : Spot) → spot ≡ record { var = var; place = k } → map spot_of (var_places (terms_of (t ∷ [])) k) ≡ spot ∷ []
  spots-var k spot e = var_terms (λ x. map spot_of (var_places x k)) ∙ ap (λ x. map spot_of (var_places x k)) (terms_of-var var constant size cond) ∙ ap (λ s. s ∷ []) (sym e)

module _ (t : Term) (value : ℤ) (boolean : Bool) (is : t ≡ term.Lit value boolean) where
  pub lit_terms : {A : Type 0} (f : Terms → A) → f (terms_of (t ∷ [])) ≡ f (terms_of (term.Lit value boolean ∷ []))
  lit_terms f = ap (λ u. f (terms_of (u ∷ []))) is

  pub size_of-lit : size_of (terms_of (t ∷ [])) ≡ 1
  size_of-lit = lit_terms size_of ∙ ap size_of (terms_of-lit value boolean)

  pub rules_of-lit : (k : ℕ) → rules_of (terms_of (t ∷ [])) k ≡ place.Only k (literal_fits value boolean) ∷ []
  rules_of-lit k = lit_terms (λ x. rules_of x k) ∙ ap (λ x. rules_of x k) (terms_of-lit value boolean)

  pub spots-lit : (k : ℕ) → map spot_of (var_places (terms_of (t ∷ [])) k) ≡ []
  spots-lit k = lit_terms (λ x. map spot_of (var_places x k)) ∙ ap (λ x. map spot_of (var_places x k)) (terms_of-lit value boolean)

module _ (t : Term) (op : Op) (size : Option Width) (once : Bool) (args : List Term) (is : t ≡ term.App op size once args) where
  pub app_terms : {A : Type 0} (f : Terms → A) → f (terms_of (t ∷ [])) ≡ f (terms_of (term.App op size once args ∷ []))
  app_terms f = ap (λ u. f (terms_of (u ∷ []))) is

  pub size_of-app : size_of (terms_of (t ∷ [])) ≡ size_of (terms_of args) + 1
  size_of-app = app_terms size_of ∙ ap size_of (terms_of-app op size once args) ∙ omega arith

  pub rules_of-app : (k : ℕ) → rules_of (terms_of (t ∷ [])) k ≡ place.Only k (has_size size) ∷ (rules_of (terms_of args) (k + 1) ++ op_rules op k (root_places (terms_of args) (k + 1)))
  rules_of-app k =
      app_terms (λ x. rules_of x k) ∙ ap (λ x. rules_of x k) (terms_of-app op size once args)
      ∙ ap (λ l. place.Only k (has_size size) ∷ (rules_of (terms_of args) (k + 1) ++ l)) (append-nil (op_rules op k (root_places (terms_of args) (k + 1))))

  pub spots-app : (k : ℕ) → map spot_of (var_places (terms_of (t ∷ [])) k) ≡ map spot_of (var_places (terms_of args) (k + 1))
  spots-app k =
      app_terms (λ x. map spot_of (var_places x k)) ∙ ap (λ x. map spot_of (var_places x k)) (terms_of-app op size once args)
      ∙ ap (map spot_of) (append-nil (var_places (terms_of args) (k + 1)))

  -- the opcode with a size, its sources, and what it asks of them
  pub app_rules : (k : ℕ) (old first second third : List SizeRule) (set : WidthSet) (roots : List ℕ)
      → first ≡ old ++ code.Within k set ∷ [] → set ≡ set_of (has_size size)
      → map meant second ≡ map meant first ++ rules_of (terms_of args) (k + 1)
      → roots ≡ root_places (terms_of args) (k + 1)
      → map meant third ≡ map meant second ++ op_rules op k roots
      → map meant third ≡ map meant old ++ rules_of (terms_of (t ∷ [])) k
  app_rules k old first second third set roots e1 is_set e2 is_roots e3 =
      let own = pushed old first (code.Within k set) (place.Only k (has_size size)) e1 (only k set (has_size size) is_set) in
      let under = twice (map meant old) (map meant first) (map meant second) (place.Only k (has_size size) ∷ []) (rules_of (terms_of args) (k + 1)) own e2 in
      twice (map meant old) (map meant second) (map meant third) (place.Only k (has_size size) ∷ rules_of (terms_of args) (k + 1)) (op_rules op k (root_places (terms_of args) (k + 1))) under
      (e3 ∙ ap (λ r. map meant second ++ op_rules op k r) is_roots)
      ∙ ap (λ l. map meant old ++ l) (sym (rules_of-app k))

-- one term has one root
root_of : (first : Term-F (Terms → Terms)) (k : ℕ) → root_places (before_layer first Nil) k ≡ k ∷ []
root_of (layer.Var var constant size cond) k = refl
root_of (layer.Lit value boolean) k = refl
root_of (layer.App op size once args) k = refl

pub root_places-one : (t : Term) (k : ℕ) → root_places (terms_of (t ∷ [])) k ≡ k ∷ []
root_places-one t k = ap (λ f. root_places (f Nil) k) (before-out t) ∙ root_of (map-Term Term (Terms → Terms) before (out-Term t)) k

module _ (list : List Term) (i : ℕ) (t : Term) (within : i < length list) (at : t ≡ get_or list i t) where
  pub size_of-drop : size_of (terms_of (drop i list)) ≡ size_of (terms_of (t ∷ [])) + size_of (terms_of (drop (i + 1) list))
  size_of-drop = ap size_of (terms_of-drop list i t within at) ∙ size_of-then (terms_of (t ∷ [])) (terms_of (drop (i + 1) list))

  module _ (k next : ℕ) (behind : next ≡ k + size_of (terms_of (t ∷ []))) where
    pub rules_of-drop : rules_of (terms_of (drop i list)) k ≡ rules_of (terms_of (t ∷ [])) k ++ rules_of (terms_of (drop (i + 1) list)) next
    rules_of-drop =
        ap (λ x. rules_of x k) (terms_of-drop list i t within at) ∙ rules_of-then (terms_of (t ∷ [])) (terms_of (drop (i + 1) list)) k
        ∙ ap (λ n. rules_of (terms_of (t ∷ [])) k ++ rules_of (terms_of (drop (i + 1) list)) n) (sym behind)

    pub spots-drop : map spot_of (var_places (terms_of (drop i list)) k) ≡ map spot_of (var_places (terms_of (t ∷ [])) k) ++ map spot_of (var_places (terms_of (drop (i + 1) list)) next)
    spots-drop =
        ap (λ x. map spot_of (var_places x k)) (terms_of-drop list i t within at)
        ∙ ap (map spot_of) (var_places-then (terms_of (t ∷ [])) (terms_of (drop (i + 1) list)) k)
        ∙ map-append spot_of (var_places (terms_of (t ∷ [])) k) (var_places (terms_of (drop (i + 1) list)) (k + size_of (terms_of (t ∷ []))))
        ∙ ap (λ n. map spot_of (var_places (terms_of (t ∷ [])) k) ++ map spot_of (var_places (terms_of (drop (i + 1) list)) n)) (sym behind)

    pub roots-drop : root_places (terms_of (drop i list)) k ≡ root_places (terms_of (t ∷ [])) k ++ root_places (terms_of (drop (i + 1) list)) next
    roots-drop =
        ap (λ x. root_places x k) (terms_of-drop list i t within at) ∙ root_places-then (terms_of (t ∷ [])) (terms_of (drop (i + 1) list)) k
        ∙ ap (λ n. root_places (terms_of (t ∷ [])) k ++ root_places (terms_of (drop (i + 1) list)) n) (sym behind)
