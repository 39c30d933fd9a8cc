-- The nodes of terms at their sizes, and the sizes behind theirs, by the first of them.
use Rattle.std.proofs.Common.{◌≡◌, ℕ, suc, ◌+◌, ◌<◌, ℤ, Bool, Option, List, [], ◌∷◌, ◌++◌, length, get_or, take, drop, refl, sym, ap, ◌∙◌, append_assoc, arith}
use Rattle.std.proofs.lemmas.List.{append-nil, drop-drop, drop-take}
use Rattle.nir_ops.specs.declared.op.Op.{Op}
use Rattle.nir_ops.specs.declared.width.Width.{Width}
use Rattle.nir_ops.specs.Width.{width_bits}
use Rattle.op_eval.specs.Word.{residue}
use Rattle.rule_term.specs.declared.cond.Cond.{Cond}
use Rattle.rule_term.specs.declared.term.Term.{Term}
use Rattle.rule_term.specs.declared.term.Term.TheVariants as term
use Rattle.rule_term.specs.Lists.{then, terms_of-app, terms_of-drop, terms_of-lit, terms_of-var}
use Rattle.rule_term.specs.Splits.{drop_behind, drop_one, size_of-then}
use Rattle.rule_term.specs.Terms.{Terms, Nil, VarThen, LitThen, AppThen, terms_of}
use Rattle.rule_term.specs.Typings.{first_of, size_of}
use Rattle.law_derive.specs.declared.node.Kind.{Kind}
use Rattle.law_derive.specs.declared.node.Kind.TheVariants.{App, Var, Lit}
use Rattle.law_derive.specs.declared.node.Node.{Node}
use Rattle.law_derive.specs.Nodes.{nodes_of}

pub nodes-var : (var : ℕ) (constant : Bool) (size : Option Width) (cond : Option Cond) (widths : List Width)
    → nodes_of (terms_of (term.Var var constant size cond ∷ [])) widths ≡ record { kind = Var var; width = first_of widths } ∷ []
nodes-var var constant size cond widths = ap (λ t. nodes_of t widths) (terms_of-var var constant size cond)

pub nodes-lit : (value : ℤ) (boolean : Bool) (widths : List Width)
    → nodes_of (terms_of (term.Lit value boolean ∷ [])) widths ≡ record { kind = Lit (residue (width_bits (first_of widths)) value); width = first_of widths } ∷ []
nodes-lit value boolean widths = ap (λ t. nodes_of t widths) (terms_of-lit value boolean)

pub nodes-app : (op : Op) (size : Option Width) (once : Bool) (args : List Term) (widths : List Width)
    → nodes_of (terms_of (term.App op size once args ∷ [])) widths ≡ record { kind = App op; width = first_of widths } ∷ nodes_of (terms_of args) (drop 1 widths)
nodes-app op size once args widths =
    ap (λ t. nodes_of t widths) (terms_of-app op size once args)
    ∙ ap (λ list. record { kind = App op; width = first_of widths } ∷ list) (append-nil (nodes_of (terms_of args) (drop 1 widths)))

pub size-var : (var : ℕ) (constant : Bool) (size : Option Width) (cond : Option Cond) → size_of (terms_of (term.Var var constant size cond ∷ [])) ≡ 1
size-var var constant size cond = ap size_of (terms_of-var var constant size cond)

pub size-lit : (value : ℤ) (boolean : Bool) → size_of (terms_of (term.Lit value boolean ∷ [])) ≡ 1
size-lit value boolean = ap size_of (terms_of-lit value boolean)

pub behind-app : (op : Op) (size : Option Width) (once : Bool) (args : List Term) (widths : List Width)
    → drop (size_of (terms_of (term.App op size once args ∷ []))) widths ≡ drop (size_of (terms_of args)) (drop 1 widths)
behind-app op size once args widths =
    let e : size_of (AppThen op size once (terms_of args) Nil) ≡ suc (size_of (terms_of args)) = omega arith in
    ap (λ n. drop n widths) (ap size_of (terms_of-app op size once args) ∙ e) ∙ sym (drop_one (size_of (terms_of args)) widths)

pub ruleset node_steps = (nodes-var, nodes-lit, nodes-app, size-var, size-lit, behind-app)

-- terms before others
pub nodes-then : (a b : Terms) (widths : List Width) → nodes_of (then a b) widths ≡ nodes_of a widths ++ nodes_of b (drop (size_of a) widths)
nodes-then Nil b widths = refl
nodes-then (VarThen var constant size cond rest) b widths =
    ap (λ list. record { kind = Var var; width = first_of widths } ∷ list)
    (nodes-then rest b (drop 1 widths) ∙ ap (λ list. nodes_of rest (drop 1 widths) ++ nodes_of b list) (drop_one (size_of rest) widths))
nodes-then (LitThen value boolean rest) b widths =
    ap (λ list. record { kind = Lit (residue (width_bits (first_of widths)) value); width = first_of widths } ∷ list)
    (nodes-then rest b (drop 1 widths) ∙ ap (λ list. nodes_of rest (drop 1 widths) ++ nodes_of b list) (drop_one (size_of rest) widths))
nodes-then (AppThen op size once args rest) b widths =
    ap (λ list. record { kind = App op; width = first_of widths } ∷ nodes_of args (drop 1 widths) ++ list)
    (nodes-then rest b (drop (suc (size_of args)) widths)
    ∙ ap (λ list. nodes_of rest (drop (suc (size_of args)) widths) ++ nodes_of b list) (drop_behind (size_of rest) (size_of args) widths))
    ∙ ap (λ list. record { kind = App op; width = first_of widths } ∷ list)
    (sym (append_assoc (nodes_of args (drop 1 widths)) (nodes_of rest (drop (suc (size_of args)) widths)) (nodes_of b (drop (suc (size_of args + size_of rest)) widths))))

pub nodes-drop : (list : List Term) (i : ℕ) (t : Term) (widths : List Width) → i < length list → t ≡ get_or list i t
    → nodes_of (terms_of (drop i list)) widths ≡ nodes_of (terms_of (t ∷ [])) widths ++ nodes_of (terms_of (drop (i + 1) list)) (drop (size_of (terms_of (t ∷ []))) widths)
nodes-drop list i t widths within at =
    ap (λ x. nodes_of x widths) (terms_of-drop list i t within at) ∙ nodes-then (terms_of (t ∷ [])) (terms_of (drop (i + 1) list)) widths

pub behind-drop : (list : List Term) (i : ℕ) (t : Term) (widths : List Width) → i < length list → t ≡ get_or list i t
    → drop (size_of (terms_of (drop i list))) widths ≡ drop (size_of (terms_of (drop (i + 1) list))) (drop (size_of (terms_of (t ∷ []))) widths)
behind-drop list i t widths within at =
    ap (λ n. drop n widths) (ap size_of (terms_of-drop list i t within at) ∙ size_of-then (terms_of (t ∷ [])) (terms_of (drop (i + 1) list)))
    ∙ sym (drop-drop (size_of (terms_of (drop (i + 1) list))) (size_of (terms_of (t ∷ []))) widths)

-- ---- sizes past those of the terms play no part

first_take : (n : ℕ) (widths : List Width) → first_of (take (suc n) widths) ≡ first_of widths
first_take n [] = refl
first_take n (width ∷ widths) = refl

drop_take_as : (n m whole : ℕ) (widths : List Width) → whole ≡ n + m → drop n (take whole widths) ≡ take m (drop n widths)
drop_take_as n m whole widths is = ap (λ w. drop n (take w widths)) is ∙ drop-take n m widths

abbrev node_at : Kind → Width → Node
node_at kind width = record { kind = kind; width = width }

front : (t : Terms) (k : ℕ) (widths : List Width) → nodes_of t (take (size_of t + k) widths) ≡ nodes_of t widths
front Nil k widths = refl
front (VarThen var constant size cond rest) k widths =
    let e : suc (size_of rest) + k ≡ suc (size_of rest + k) = omega arith in
    let f : suc (size_of rest) + k ≡ 1 + (size_of rest + k) = omega arith in
    let first : first_of (take (suc (size_of rest) + k) widths) ≡ first_of widths = ap (λ n. first_of (take n widths)) e ∙ first_take (size_of rest + k) widths in
    let others : nodes_of rest (drop 1 (take (suc (size_of rest) + k) widths)) ≡ nodes_of rest (drop 1 widths) =
    ap (nodes_of rest) (drop_take_as 1 (size_of rest + k) (suc (size_of rest) + k) widths f) ∙ front rest k (drop 1 widths) in
    λ i. node_at (Var var) (first i) ∷ others i
front (LitThen value boolean rest) k widths =
    let e : suc (size_of rest) + k ≡ suc (size_of rest + k) = omega arith in
    let f : suc (size_of rest) + k ≡ 1 + (size_of rest + k) = omega arith in
    let first : first_of (take (suc (size_of rest) + k) widths) ≡ first_of widths = ap (λ n. first_of (take n widths)) e ∙ first_take (size_of rest + k) widths in
    let others : nodes_of rest (drop 1 (take (suc (size_of rest) + k) widths)) ≡ nodes_of rest (drop 1 widths) =
    ap (nodes_of rest) (drop_take_as 1 (size_of rest + k) (suc (size_of rest) + k) widths f) ∙ front rest k (drop 1 widths) in
    λ i. node_at (Lit (residue (width_bits (first i)) value)) (first i) ∷ others i
front (AppThen op size once args rest) k widths =
    let whole : ℕ = suc (size_of args + size_of rest) + k in
    let e : whole ≡ suc (size_of args + size_of rest + k) = omega arith in
    let f : whole ≡ 1 + (size_of args + (size_of rest + k)) = omega arith in
    let g : whole ≡ suc (size_of args) + (size_of rest + k) = omega arith in
    let first : first_of (take whole widths) ≡ first_of widths = ap (λ n. first_of (take n widths)) e ∙ first_take (size_of args + size_of rest + k) widths in
    let own : nodes_of args (drop 1 (take whole widths)) ≡ nodes_of args (drop 1 widths) =
    ap (nodes_of args) (drop_take_as 1 (size_of args + (size_of rest + k)) whole widths f) ∙ front args (size_of rest + k) (drop 1 widths) in
    let others : nodes_of rest (drop (suc (size_of args)) (take whole widths)) ≡ nodes_of rest (drop (suc (size_of args)) widths) =
    ap (nodes_of rest) (drop_take_as (suc (size_of args)) (size_of rest + k) whole widths g) ∙ front rest k (drop (suc (size_of args)) widths) in
    λ i. node_at (App op) (first i) ∷ own i ++ others i

pub nodes_front : (t : Terms) (widths : List Width) → nodes_of t widths ≡ nodes_of t (take (size_of t) widths)
nodes_front t widths =
    let e : size_of t + 0 ≡ size_of t = omega arith in
    sym (front t 0 widths) ∙ ap (λ n. nodes_of t (take n widths)) e
