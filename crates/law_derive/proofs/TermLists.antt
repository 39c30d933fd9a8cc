-- Lists of terms by their first: whether they are settled and formed, their least sizes, and their nodes.
use Rattle.std.proofs.Common.{◌≡◌, ◌+◌, ◌<◌, ◌≤◌, refl, ℕ, suc, ℤ, Bool, true, List, [], ◌∷◌, ◌++◌, length, get_or, drop, Option, Some, None, cond, sym, ap, ◌∙◌, append_assoc}
use Rattle.std.specs.Prelude.{◌&&◌, nat_eq}
use Rattle.std.specs.List.{list_all}
use Rattle.std.specs.Option.{option_map}
use Rattle.std.proofs.Math.Bool.{and-true, and_assoc}
use Rattle.std.proofs.lemmas.Bool.{and_from, eq-eqb}
use Rattle.std.proofs.lemmas.List.{append-nil, drop-drop, drop_all, length-append}
use Rattle.std.proofs.lemmas.List.Folds.{list_all-append}
use Rattle.nir_ops.specs.declared.op.Op.{Op}
use Rattle.nir_ops.specs.declared.width.Width.{Width}
use Rattle.nir_ops.specs.Opcodes.{op_info}
use Rattle.nir_ops.specs.Width.{width_bits}
use Rattle.op_eval.specs.Word.{residue}
use Rattle.rule_term.specs.declared.cond.Cond.{Cond}
use Rattle.rule_term.specs.declared.term.Term.{Term}
use Rattle.rule_term.specs.declared.term.Term.TheVariants as term
use Rattle.rule_term.specs.Formed.{may_stand}
use Rattle.rule_term.specs.Lists.{then, terms_of-var, terms_of-lit, terms_of-app, terms_of-drop}
use Rattle.rule_term.specs.Pieces.{pieces, terms_count}
use Rattle.rule_term.specs.ReplaceLeast.{least}
use Rattle.rule_term.specs.Splits.{drop_behind, drop_one, pieces-then, terms_count-terms_of}
use Rattle.rule_term.specs.Terms.{Terms, Nil, VarThen, LitThen, AppThen, terms_of}
use Rattle.rule_term.specs.Typings.{first_of, size_of}
use Rattle.rule_term.proofs.ReplaceRoots.{least-drop}
use Rattle.law_derive.specs.Derivations.{is_expr, piece_formed}
use Rattle.law_derive.specs.ExprSizes.{is_settled, nodes_from, root_of, settled}
use Rattle.law_derive.specs.Nodes.{nodes_of}
use Rattle.law_derive.specs.declared.node.Kind.TheVariants as kind
use Rattle.law_derive.specs.declared.node.Node.{Node}

-- ---- settled

settled-then : (fit : ℕ → Width → Bool) (a b : Terms) → settled fit (then a b) ≡ (settled fit a && settled fit b)
unfolding settled
settled-then fit Nil b = refl
settled-then fit (VarThen var constant size cond rest) b = settled-then fit rest b
settled-then fit (LitThen value boolean rest) b = settled-then fit rest b
settled-then fit (AppThen op size once args rest) b =
    ap (λ t. (is_settled fit op args && settled fit args) && t) (settled-then fit rest b)
    ∙ sym (and_assoc (is_settled fit op args && settled fit args) (settled fit rest) (settled fit b))

pub settled-drop : (fit : ℕ → Width → Bool) (list : List Term) (i : ℕ) (t : Term) → i < length list → t ≡ get_or list i t → settled fit (terms_of (drop i list)) ≡ (settled fit (terms_of (t ∷ [])) && settled fit (terms_of (drop (i + 1) list)))
settled-drop fit list i t within at = ap (settled fit) (terms_of-drop list i t within at) ∙ settled-then fit (terms_of (t ∷ [])) (terms_of (drop (i + 1) list))

pub settled-var : (fit : ℕ → Width → Bool) (var : ℕ) (constant : Bool) (size : Option Width) (cond : Option Cond) → settled fit (terms_of (term.Var var constant size cond ∷ [])) ≡ true
unfolding settled
settled-var fit var constant size cond = ap (settled fit) (terms_of-var var constant size cond)

pub settled-lit : (fit : ℕ → Width → Bool) (value : ℤ) (boolean : Bool) → settled fit (terms_of (term.Lit value boolean ∷ [])) ≡ true
unfolding settled
settled-lit fit value boolean = ap (settled fit) (terms_of-lit value boolean)

pub settled-app : (fit : ℕ → Width → Bool) (op : Op) (size : Option Width) (once : Bool) (args : List Term) → settled fit (terms_of (term.App op size once args ∷ [])) ≡ (is_settled fit op (terms_of args) && settled fit (terms_of args))
unfolding settled
settled-app fit op size once args = ap (settled fit) (terms_of-app op size once args) ∙ and-true (is_settled fit op (terms_of args) && settled fit (terms_of args))

pub settled-past : (fit : ℕ → Width → Bool) (list : List Term) (i : ℕ) → length list ≤ i → settled fit (terms_of (drop i list)) ≡ true
unfolding settled
settled-past fit list i past = ap (λ l. settled fit (terms_of l)) (drop_all i list past)

pub ruleset settled_steps = (settled-var, settled-lit, settled-app)

-- ---- formed

pub formed-drop : (list : List Term) (i : ℕ) (t : Term) → i < length list → t ≡ get_or list i t → list_all piece_formed (pieces (terms_of (drop i list))) ≡ (list_all piece_formed (pieces (terms_of (t ∷ []))) && list_all piece_formed (pieces (terms_of (drop (i + 1) list))))
formed-drop list i t within at =
    ap (λ x. list_all piece_formed (pieces x)) (terms_of-drop list i t within at)
    ∙ ap (list_all piece_formed) (pieces-then (terms_of (t ∷ [])) (terms_of (drop (i + 1) list)))
    ∙ list_all-append piece_formed (pieces (terms_of (t ∷ []))) (pieces (terms_of (drop (i + 1) list)))

pub formed-var : (var : ℕ) (constant : Bool) (size : Option Width) (cond : Option Cond) → list_all piece_formed (pieces (terms_of (term.Var var constant size cond ∷ []))) ≡ true
formed-var var constant size cond = ap (λ x. list_all piece_formed (pieces x)) (terms_of-var var constant size cond)

pub formed-lit : (value : ℤ) (boolean : Bool) → list_all piece_formed (pieces (terms_of (term.Lit value boolean ∷ []))) ≡ true
formed-lit value boolean = ap (λ x. list_all piece_formed (pieces x)) (terms_of-lit value boolean)

pub formed-app : (op : Op) (size : Option Width) (once : Bool) (args : List Term) → list_all piece_formed (pieces (terms_of (term.App op size once args ∷ []))) ≡ ((may_stand op && nat_eq (length args) (length (op_info op).inputs)) && list_all piece_formed (pieces (terms_of args)))
formed-app op size once args =
    ap (λ x. list_all piece_formed (pieces x)) (terms_of-app op size once args)
    ∙ ap (λ l. (may_stand op && nat_eq (terms_count (terms_of args)) (length (op_info op).inputs)) && list_all piece_formed l) (append-nil (pieces (terms_of args)))
    ∙ ap (λ n. (may_stand op && nat_eq n (length (op_info op).inputs)) && list_all piece_formed (pieces (terms_of args))) (terms_count-terms_of args)

pub ruleset formed_steps = (formed-var, formed-lit, formed-app)

-- ---- least sizes

pub fill_on : (fit : ℕ → Width → Bool) (list : List Term) (i : ℕ) (t : Term) (roots : List Width) (width : Width) (widths next total : List Width) → i < length list → t ≡ get_or list i t → width ≡ first_of (drop i roots)
    → next ≡ widths ++ least fit (terms_of (t ∷ [])) (width ∷ [])
    → widths ++ least fit (terms_of (drop i list)) (drop i roots) ≡ total
    → next ++ least fit (terms_of (drop (i + 1) list)) (drop (i + 1) roots) ≡ total
fill_on fit list i t roots width widths next total within at wide made so_far =
    let later = least fit (terms_of (drop (i + 1) list)) (drop (i + 1) roots) in
    let here = least fit (terms_of (t ∷ [])) (first_of (drop i roots) ∷ []) in
    ap (λ x. x ++ later) (made ∙ ap (λ w. widths ++ least fit (terms_of (t ∷ [])) (w ∷ [])) wide)
    ∙ append_assoc widths here later
    ∙ ap (λ x. widths ++ x) (sym (least-drop fit list i t roots within at))
    ∙ so_far

-- ---- nodes

pub length-nodes_of : (terms : Terms) (widths : List Width) → length (nodes_of terms widths) ≡ size_of terms
length-nodes_of Nil widths = refl
length-nodes_of (VarThen var constant size cond rest) widths = ap suc (length-nodes_of rest (drop 1 widths))
length-nodes_of (LitThen value boolean rest) widths = ap suc (length-nodes_of rest (drop 1 widths))
length-nodes_of (AppThen op size once args rest) widths =
    let behind = nodes_of rest (drop (suc (size_of args)) widths) in
    ap suc
    (length-append (nodes_of args (drop 1 widths)) behind
    ∙ ap (λ n. n + length behind) (length-nodes_of args (drop 1 widths))
    ∙ ap (λ n. size_of args + n) (length-nodes_of rest (drop (suc (size_of args)) widths)))

nodes_of-then : (a b : Terms) (widths : List Width) → nodes_of (then a b) widths ≡ nodes_of a widths ++ nodes_of b (drop (size_of a) widths)
nodes_of-then Nil b widths = refl
nodes_of-then (VarThen var constant size cond rest) b widths =
    let node : Node = record { kind = kind.Var var; width = first_of widths } in
    ap (λ t. node ∷ t) (nodes_of-then rest b (drop 1 widths) ∙ ap (λ l. nodes_of rest (drop 1 widths) ++ nodes_of b l) (drop_one (size_of rest) widths))
nodes_of-then (LitThen value boolean rest) b widths =
    let node : Node = record { kind = kind.Lit (residue (width_bits (first_of widths)) value); width = first_of widths } in
    ap (λ t. node ∷ t) (nodes_of-then rest b (drop 1 widths) ∙ ap (λ l. nodes_of rest (drop 1 widths) ++ nodes_of b l) (drop_one (size_of rest) widths))
nodes_of-then (AppThen op size once args rest) b widths =
    let node : Node = record { kind = kind.App op; width = first_of widths } in
    let behind = drop (suc (size_of args)) widths in
    let under = nodes_of args (drop 1 widths) in
    ap (λ t. node ∷ under ++ t) (nodes_of-then rest b behind ∙ ap (λ l. nodes_of rest behind ++ nodes_of b l) (drop_behind (size_of rest) (size_of args) widths))
    ∙ ap (λ t. node ∷ t) (sym (append_assoc under (nodes_of rest behind) (nodes_of b (drop (suc (size_of args + size_of rest)) widths))))

pub nodes_of-var : (t : Term) (var : ℕ) (constant : Bool) (size : Option Width) (cond : Option Cond) (widths : List Width) → t ≡ term.Var var constant size cond → nodes_of (terms_of (t ∷ [])) widths ≡ record { kind = kind.Var var; width = first_of widths } ∷ []
nodes_of-var t var constant size cond widths e = ap (λ x. nodes_of (terms_of (x ∷ [])) widths) e ∙ ap (λ x. nodes_of x widths) (terms_of-var var constant size cond)

pub nodes_of-lit : (t : Term) (value : ℤ) (boolean : Bool) (widths : List Width) → t ≡ term.Lit value boolean → nodes_of (terms_of (t ∷ [])) widths ≡ record { kind = kind.Lit (residue (width_bits (first_of widths)) value); width = first_of widths } ∷ []
nodes_of-lit t value boolean widths e = ap (λ x. nodes_of (terms_of (x ∷ [])) widths) e ∙ ap (λ x. nodes_of x widths) (terms_of-lit value boolean)

-- an opcode, and then its sources
pub nodes_of-app : (t : Term) (op : Op) (size : Option Width) (once : Bool) (args : List Term) (widths : List Width) (nodes pushed next : List Node) → t ≡ term.App op size once args
    → pushed ≡ nodes ++ record { kind = kind.App op; width = first_of (drop (length nodes) widths) } ∷ []
    → next ≡ pushed ++ nodes_of (terms_of args) (drop (length pushed) widths)
    → next ≡ nodes ++ nodes_of (terms_of (t ∷ [])) (drop (length nodes) widths)
nodes_of-app t op size once args widths nodes pushed next e is made =
    let here = drop (length nodes) widths in
    let node : Node = record { kind = kind.App op; width = first_of here } in
    let under = nodes_of (terms_of args) (drop 1 here) in
    let long : length pushed ≡ length nodes + 1 = ap length is ∙ length-append nodes (node ∷ []) in
    made
    ∙ ap (λ n. pushed ++ nodes_of (terms_of args) (drop n widths)) long
    ∙ ap (λ l. pushed ++ nodes_of (terms_of args) l) (sym (drop-drop 1 (length nodes) widths))
    ∙ ap (λ x. x ++ under) is
    ∙ append_assoc nodes (node ∷ []) under
    ∙ ap (λ l. nodes ++ node ∷ l) (sym (append-nil under))
    ∙ ap (λ x. nodes ++ nodes_of x here) (sym (terms_of-app op size once args))
    ∙ ap (λ x. nodes ++ nodes_of (terms_of (x ∷ [])) here) (sym e)

pub push_on : (list : List Term) (i : ℕ) (t : Term) (widths : List Width) (nodes next total : List Node) → i < length list → t ≡ get_or list i t
    → next ≡ nodes ++ nodes_of (terms_of (t ∷ [])) (drop (length nodes) widths)
    → nodes ++ nodes_of (terms_of (drop i list)) (drop (length nodes) widths) ≡ total
    → next ++ nodes_of (terms_of (drop (i + 1) list)) (drop (length next) widths) ≡ total
push_on list i t widths nodes next total within at made so_far =
    let rest = terms_of (drop (i + 1) list) in
    let whole = drop (length nodes) widths in
    let here = nodes_of (terms_of (t ∷ [])) whole in
    let own = size_of (terms_of (t ∷ [])) in
    let long : length next ≡ length nodes + own = ap length made ∙ length-append nodes here ∙ ap (λ n. length nodes + n) (length-nodes_of (terms_of (t ∷ [])) whole) in
    let behind : drop own whole ≡ drop (length nodes + own) widths = drop-drop own (length nodes) widths in
    ap (λ n. next ++ nodes_of rest (drop n widths)) long
    ∙ ap (λ l. next ++ nodes_of rest l) (sym behind)
    ∙ ap (λ x. x ++ nodes_of rest (drop own whole)) made
    ∙ append_assoc nodes here (nodes_of rest (drop own whole))
    ∙ ap (λ x. nodes ++ x) (sym (ap (λ x. nodes_of x whole) (terms_of-drop list i t within at) ∙ nodes_of-then (terms_of (t ∷ [])) rest whole))
    ∙ so_far

pub push_past : (list : List Term) (i : ℕ) (widths : List Width) → length list ≤ i → nodes_of (terms_of (drop i list)) widths ≡ []
push_past list i widths past = ap (λ l. nodes_of (terms_of l) widths) (drop_all i list past)

-- ---- the nodes of one term, from its root

pub from_root : (fit : ℕ → Width → Bool) (size : Option Width) (t : Term) (width : Width) (widths : List Width) (nodes : List Node) → list_all piece_formed (pieces (terms_of (t ∷ []))) ≡ true → root_of fit size (terms_of (t ∷ [])) ≡ Some width
    → widths ≡ least fit (terms_of (t ∷ [])) (width ∷ []) → nodes ≡ nodes_of (terms_of (t ∷ [])) widths → Some nodes ≡ nodes_from fit size (terms_of (t ∷ []))
unfolding nodes_from
from_root fit size t width widths nodes formed root filled made =
    let terms = terms_of (t ∷ []) in
    let at_root : Width → List Node = λ w. nodes_of terms (least fit terms (w ∷ [])) in
    let one = eq-eqb (terms_count terms) 1 (terms_count-terms_of (t ∷ [])) in
    let is : is_expr terms ≡ true = and_from (nat_eq (terms_count terms) 1) (list_all piece_formed (pieces terms)) one formed in
    ap Some (made ∙ ap (nodes_of terms) filled)
    ∙ sym (ap (option_map at_root) root)
    ∙ sym (ap (λ b. cond b (option_map at_root (root_of fit size terms)) None) is)
