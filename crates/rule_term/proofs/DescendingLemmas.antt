-- The weight of terms by the first of them, and what it says of their opcodes.
use Rattle.std.specs.Prelude.{◌≡◌, refl, ◌+◌, ◌*◌, ◌^◌, ◌<◌, ◌≤◌, ◌↔◌, ◌&&◌, Some, slice_get, ℕ, ℤ, Bool, true, Option, List, [], ◌∷◌, ◌++◌, length, sum_by}
use Rattle.std.specs.List.{list_all}
use Rattle.std.proofs.Common.{sym, ◌∙◌, ap, subst, get_or, drop, arith}
use Rattle.std.proofs.lemmas.Bool.{ltb-true, lt-ltb}
use Rattle.std.proofs.lemmas.Grind.{flat_map-append}
use Rattle.std.proofs.lemmas.List.{drop_more}
use Rattle.std.proofs.lemmas.Option.{get_or_from_slice_get, slice_get_within}
use Rattle.std.proofs.lemmas.List.Sums.{sum_by-append, AllPass-from_list_all, list_all-from_AllPass}
use Rattle.nir_ops.specs.declared.op.Op.{Op}
use Rattle.nir_ops.specs.declared.width.Width.{Width}
use Rattle.rule_term.specs.declared.cond.Cond.{Cond}
use Rattle.rule_term.specs.declared.term.Term.{Term}
use Rattle.rule_term.specs.declared.term.Term.TheVariants as term
use Rattle.rule_term.specs.Descending.{terms_weight, root_weight, descends, is_descending, IsDescending}
use Rattle.rule_term.specs.Lists.{then, terms_of-var, terms_of-lit, terms_of-app, terms_of-drop}
use Rattle.rule_term.specs.Pieces.{op_of, pieces, ops_of}
use Rattle.rule_term.specs.Rule.{Rule}
use Rattle.rule_term.specs.Table.{Table, op_weight}
use Rattle.rule_term.specs.Terms.{Terms, Nil, VarThen, LitThen, AppThen, terms_of}

weight-then : (weight : Op → ℕ) (a b : Terms) → terms_weight weight (then a b) ≡ terms_weight weight a + terms_weight weight b
weight-then weight Nil b = omega arith
weight-then weight (VarThen var constant size cond rest) b = weight-then weight rest b
weight-then weight (LitThen value boolean rest) b = weight-then weight rest b
weight-then weight (AppThen op size once args rest) b =
    let inner : terms_weight weight (then rest b) ≡ terms_weight weight rest + terms_weight weight b = weight-then weight rest b in
    omega (arith, inner)

pub weight-var : (weight : Op → ℕ) (var : ℕ) (constant : Bool) (size : Option Width) (cond : Option Cond) → terms_weight weight (terms_of (term.Var var constant size cond ∷ [])) ≡ 0
weight-var weight var constant size cond = ap (terms_weight weight) (terms_of-var var constant size cond)

pub weight-lit : (weight : Op → ℕ) (value : ℤ) (boolean : Bool) → terms_weight weight (terms_of (term.Lit value boolean ∷ [])) ≡ 0
weight-lit weight value boolean = ap (terms_weight weight) (terms_of-lit value boolean)

pub weight-app : (weight : Op → ℕ) (op : Op) (size : Option Width) (once : Bool) (args : List Term) → terms_weight weight (terms_of (term.App op size once args ∷ [])) ≡ weight op + terms_weight weight (terms_of args)
weight-app weight op size once args = ap (terms_weight weight) (terms_of-app op size once args) ∙ omega arith

pub weight-drop : (weight : Op → ℕ) (list : List Term) (i : ℕ) (t : Term) → i < length list → t ≡ get_or list i t → terms_weight weight (terms_of (drop i list)) ≡ terms_weight weight (terms_of (t ∷ [])) + terms_weight weight (terms_of (drop (i + 1) list))
weight-drop weight list i t within at = ap (terms_weight weight) (terms_of-drop list i t within at) ∙ weight-then weight (terms_of (t ∷ [])) (terms_of (drop (i + 1) list))

pub ruleset weight_steps = (weight-var, weight-lit, weight-app, weight-drop)

pub root-var : (weight : Op → ℕ) (var : ℕ) (constant : Bool) (size : Option Width) (cond : Option Cond) → root_weight weight (terms_of (term.Var var constant size cond ∷ [])) ≡ 0
root-var weight var constant size cond = ap (root_weight weight) (terms_of-var var constant size cond)

pub root-lit : (weight : Op → ℕ) (value : ℤ) (boolean : Bool) → root_weight weight (terms_of (term.Lit value boolean ∷ [])) ≡ 0
root-lit weight value boolean = ap (root_weight weight) (terms_of-lit value boolean)

pub root-app : (weight : Op → ℕ) (op : Op) (size : Option Width) (once : Bool) (args : List Term) → root_weight weight (terms_of (term.App op size once args ∷ [])) ≡ weight op
root-app weight op size once args = ap (root_weight weight) (terms_of-app op size once args)

pub ruleset root_steps = (root-var, root-lit, root-app)

-- the first and the rest
sum_first : (weight : Op → ℕ) (op : Op) (ops : List Op) → sum_by weight (op ∷ ops) ≡ weight op + sum_by weight ops
sum_first weight op ops =
    let split : sum_by weight (op ∷ ops) ≡ 0 + weight op + sum_by weight ops = sum_by-append weight (op ∷ []) ops in
    omega (arith, split)

-- the weight of terms is the sum of the weights of their opcodes
pub weight_is_sum : (weight : Op → ℕ) (terms : Terms) → terms_weight weight terms ≡ sum_by weight (ops_of terms)
weight_is_sum weight Nil = refl
weight_is_sum weight (VarThen var constant size cond rest) = weight_is_sum weight rest
weight_is_sum weight (LitThen value boolean rest) = weight_is_sum weight rest
weight_is_sum weight (AppThen op size once args rest) =
    let inner : terms_weight weight args ≡ sum_by weight (ops_of args) = weight_is_sum weight args in
    let behind : terms_weight weight rest ≡ sum_by weight (ops_of rest) = weight_is_sum weight rest in
    let parts : ops_of (AppThen op size once args rest) ≡ (op ∷ []) ++ (ops_of args ++ ops_of rest) = ap (λ l. op ∷ l) (flat_map-append op_of (pieces args) (pieces rest)) in
    let sums : sum_by weight (ops_of (AppThen op size once args rest)) ≡ weight op + (sum_by weight (ops_of args) + sum_by weight (ops_of rest)) =
    ap (sum_by weight) parts ∙ sum_first weight op (ops_of args ++ ops_of rest) ∙ ap (λ n. weight op + n) (sum_by-append weight (ops_of args) (ops_of rest)) in
    omega (arith, inner, behind, sums)

-- few opcodes weigh little
sum_is_few : (weight : Op → ℕ) (most : ℕ) (ops : List Op) → ((op : Op) → weight op ≤ most) → sum_by weight ops ≤ length ops * most
sum_is_few weight most [] few = omega arith
sum_is_few weight most (op ∷ ops) few =
    let here : weight op ≤ most = few op in
    let inner : sum_by weight ops ≤ length ops * most = sum_is_few weight most ops few in
    let split : sum_by weight (op ∷ ops) ≡ weight op + sum_by weight ops = sum_first weight op ops in
    omega (arith, here, inner, split)

pub weight_is_small : (weight : Op → ℕ) (terms : Terms) → ((op : Op) → weight op ≤ 60) → length (ops_of terms) ≤ 16 → terms_weight weight terms < 2 ^ 64
weight_is_small weight terms few short =
    let sum : terms_weight weight terms ≡ sum_by weight (ops_of terms) = weight_is_sum weight terms in
    let most : sum_by weight (ops_of terms) ≤ length (ops_of terms) * 60 = sum_is_few weight 60 (ops_of terms) few in
    omega (arith, sum, most, short)

-- what the test of one rule says
descends_is : (weight : Op → ℕ) (rule : Rule) → (descends weight rule ≡ true) ↔ (sum_by weight (ops_of rule.replace) < root_weight weight rule.search)
descends_is weight rule = (
  λ h. subst (λ n. n < root_weight weight rule.search) (weight_is_sum weight rule.replace) (ltb-true (terms_weight weight rule.replace) (root_weight weight rule.search) h),
  λ h. lt-ltb (terms_weight weight rule.replace) (root_weight weight rule.search) (subst (λ n. n < root_weight weight rule.search) (sym (weight_is_sum weight rule.replace)) h),
)

-- what the test of a table says
descending_is : (table : Table) → (is_descending table ≡ true) ↔ IsDescending table
descending_is table = (
  λ h k rule within. (descends_is (op_weight table) (get_or table.rules k rule)).0 (AllPass-from_list_all (descends (op_weight table)) table.rules h k rule within),
  λ h. list_all-from_AllPass (descends (op_weight table)) table.rules (λ k rule within. (descends_is (op_weight table) (get_or table.rules k rule)).1 (h k rule within)),
)

pub answer_is : (table : Table) (answer : Bool) → answer ≡ is_descending table → (answer ≡ true) ↔ IsDescending table
answer_is table answer is = subst (λ b. (b ≡ true) ↔ IsDescending table) (sym is) (descending_is table)

-- the rule at a place and the rules behind it
pub rules_at : (test : Rule → Bool) (rules : List Rule) (place : ℕ) (rule : Rule) → slice_get rules place ≡ Some rule → list_all test (drop place rules) ≡ (test rule && list_all test (drop (place + 1) rules))
rules_at test rules place rule at =
    ap (list_all test) (drop_more rules place rule (slice_get_within rules place rule at))
    ∙ ap (λ r. test r && list_all test (drop (place + 1) rules)) (get_or_from_slice_get rules place rule rule at)
