-- Two chains of terms, one after another; a formed side has a node.
use Rattle.std.proofs.Common.{◌≡◌, ℕ, suc, ◌+◌, ◌≤◌, List, ◌∷◌, ◌++◌, sym, ◌∙◌, ap, arith, append_assoc}
use Rattle.rule_term.specs.Terms.{Terms, Nil, VarThen, LitThen, AppThen}
use Rattle.rule_term.specs.Lists.{then}
use Rattle.rule_term.specs.Pieces.{terms_count}
use Rattle.rule_term.specs.Formed.{IsFormed}
use Rattle.rule_term.specs.Rule.{Rule}
use Rattle.rule_term.specs.Typings.{size_of, has_size, literal_fits}
use Rattle.size_laws.specs.Places.{Only}
use Rattle.size_laws.specs.NodeRules.{VarPlace, op_rules, root_places, rules_of, var_places}

pub some_nodes : (terms : Terms) → terms_count terms ≤ size_of terms
some_nodes Nil = omega arith
some_nodes (VarThen var constant size cond rest) = let b = some_nodes rest in omega (arith, b)
some_nodes (LitThen value boolean rest) = let b = some_nodes rest in omega (arith, b)
some_nodes (AppThen op size once args rest) = let b = some_nodes rest in omega (arith, b)

pub searches : (rule : Rule) → IsFormed rule → 1 ≤ size_of rule.search
searches rule formed = let one = formed.one_search in let b = some_nodes rule.search in omega (arith, one, b)

pub replaces : (rule : Rule) → IsFormed rule → 1 ≤ size_of rule.replace
replaces rule formed = let one = formed.one_replace in let b = some_nodes rule.replace in omega (arith, one, b)

behind_one : (k m : ℕ) → k + 1 + m ≡ k + suc m
behind_one k m = omega arith

behind_more : (k n m : ℕ) → k + suc n + m ≡ k + suc (n + m)
behind_more k n m = omega arith

pub rules_of-then : (a b : Terms) (k : ℕ) → rules_of (then a b) k ≡ rules_of a k ++ rules_of b (k + size_of a)
rules_of-then Nil b k = ap (rules_of b) (let e : k ≡ k + 0 = omega arith in e)
rules_of-then (VarThen var constant size cond rest) b k =
    ap (λ t. Only k (has_size size) ∷ t) (rules_of-then rest b (k + 1) ∙ ap (λ j. rules_of rest (k + 1) ++ rules_of b j) (behind_one k (size_of rest)))
rules_of-then (LitThen value boolean rest) b k =
    ap (λ t. Only k (literal_fits value boolean) ∷ t) (rules_of-then rest b (k + 1) ∙ ap (λ j. rules_of rest (k + 1) ++ rules_of b j) (behind_one k (size_of rest)))
rules_of-then (AppThen op size once args rest) b k =
    let r1 = op_rules op k (root_places args (k + 1)) in
    let r2 = rules_of args (k + 1) in
    let r3 = rules_of rest (k + suc (size_of args)) in
    let r4 = rules_of b (k + suc (size_of args + size_of rest)) in
    ap (λ t. Only k (has_size size) ∷ (r2 ++ (r1 ++ t))) (rules_of-then rest b (k + suc (size_of args)) ∙ ap (λ j. r3 ++ rules_of b j) (behind_more k (size_of args) (size_of rest)))
    ∙ ap (λ t. Only k (has_size size) ∷ (r2 ++ t)) (sym (append_assoc r1 r3 r4))
    ∙ ap (λ t. Only k (has_size size) ∷ t) (sym (append_assoc r2 (r1 ++ r3) r4))

pub root_places-then : (a b : Terms) (k : ℕ) → root_places (then a b) k ≡ root_places a k ++ root_places b (k + size_of a)
root_places-then Nil b k = ap (root_places b) (let e : k ≡ k + 0 = omega arith in e)
root_places-then (VarThen var constant size cond rest) b k = ap (λ t. k ∷ t) (root_places-then rest b (k + 1) ∙ ap (λ j. root_places rest (k + 1) ++ root_places b j) (behind_one k (size_of rest)))
root_places-then (LitThen value boolean rest) b k = ap (λ t. k ∷ t) (root_places-then rest b (k + 1) ∙ ap (λ j. root_places rest (k + 1) ++ root_places b j) (behind_one k (size_of rest)))
root_places-then (AppThen op size once args rest) b k =
    ap (λ t. k ∷ t) (root_places-then rest b (k + suc (size_of args)) ∙ ap (λ j. root_places rest (k + suc (size_of args)) ++ root_places b j) (behind_more k (size_of args) (size_of rest)))

pub var_places-then : (a b : Terms) (k : ℕ) → var_places (then a b) k ≡ var_places a k ++ var_places b (k + size_of a)
var_places-then Nil b k = ap (var_places b) (let e : k ≡ k + 0 = omega arith in e)
var_places-then (VarThen var constant size cond rest) b k =
    ap (λ (t : List VarPlace). record { var = var; place = k; cond = cond } ∷ t) (var_places-then rest b (k + 1) ∙ ap (λ j. var_places rest (k + 1) ++ var_places b j) (behind_one k (size_of rest)))
var_places-then (LitThen value boolean rest) b k = var_places-then rest b (k + 1) ∙ ap (λ j. var_places rest (k + 1) ++ var_places b j) (behind_one k (size_of rest))
var_places-then (AppThen op size once args rest) b k =
    let v = var_places args (k + 1) in
    ap (λ t. v ++ t) (var_places-then rest b (k + suc (size_of args)) ∙ ap (λ j. var_places rest (k + suc (size_of args)) ++ var_places b j) (behind_more k (size_of args) (size_of rest)))
    ∙ sym (append_assoc v (var_places rest (k + suc (size_of args))) (var_places b (k + suc (size_of args + size_of rest))))
