-- What a walk over terms meets, term by term.
use Rattle.op_eval.specs.Calls.{same_width}
use Rattle.std.proofs.Common.{◌≡◌, ℕ, zero, ℤ, ◌+◌, ◌-◌, ◌<◌, ◌≤◌, suc, Bool, true, false, ◌&&◌, Option, Some, None, List, [], ◌∷◌, ◌++◌, nat_eq, length, get_or, take, drop, refl, sym, ◌∙◌, ap, arith, add-zero, le_refl}
use Rattle.std.proofs.Math.Bool.{and-true}
use Rattle.std.specs.List.{find, list_all}
use Rattle.std.specs.Prelude.{cond}
use Rattle.std.specs.Option.{option_map, option_or}
use Rattle.std.proofs.lemmas.List.{append-nil, drop-drop, drop-take, get_or-drop, get_or-take}
use Rattle.std.proofs.lemmas.Bool.{and_parts, eqb-true}
use Rattle.std.proofs.lemmas.List.Folds.{list_all-append, find-append}
use Rattle.nir_ops.specs.declared.op.Op.{Op}
use Rattle.nir_ops.specs.declared.width.Width.{Width}
use Rattle.nir_ops.specs.declared.width.Width.TheVariants.{W1}
use Rattle.rule_term.specs.declared.cond.Cond.{Cond}
use Rattle.rule_term.specs.declared.term.Term.{Term}
use Rattle.rule_term.specs.declared.term.Term.TheVariants as term
use Rattle.rule_term.specs.Terms.{Terms, Nil, VarThen, LitThen, AppThen, terms_of}
use Rattle.rule_term.specs.Rule.{Rule}
use Rattle.rule_term.specs.Lists.{terms_of-var, terms_of-lit, terms_of-app, terms_of-drop}
use Rattle.rule_term.specs.Typings.{Occurrence, first_of, size_of, occurrences, obeys, search_part, replace_part, is_typing}
use Rattle.circuit_laws.specs.Variables.{width_found}
use Rattle.rule_term.specs.Splits.{size_of-then, occurrences-then}

-- the one term of a list: how many nodes it has, and its occurrences of variables
pub size-var : (var : ℕ) (constant : Bool) (size : Option Width) (cond : Option Cond) → size_of (terms_of (term.Var var constant size cond ∷ [])) ≡ 1
size-var var constant size cond = ap size_of (terms_of-var var constant size cond)

pub size-lit : (value : ℤ) (boolean : Bool) → size_of (terms_of (term.Lit value boolean ∷ [])) ≡ 1
size-lit value boolean = ap size_of (terms_of-lit value boolean)

pub size-app : (op : Op) (size : Option Width) (once : Bool) (args : List Term) → size_of (terms_of (term.App op size once args ∷ [])) ≡ 1 + size_of (terms_of args)
size-app op size once args = let e = ap size_of (terms_of-app op size once args) in omega arith

pub occurrences-var : (var : ℕ) (constant : Bool) (size : Option Width) (cond : Option Cond) (widths : List Width) →
    occurrences (terms_of (term.Var var constant size cond ∷ [])) widths ≡ record { var = var; width = first_of widths; cond = cond } ∷ []
occurrences-var var constant size cond widths = ap (λ t. occurrences t widths) (terms_of-var var constant size cond)

pub occurrences-lit : (value : ℤ) (boolean : Bool) (widths : List Width) → occurrences (terms_of (term.Lit value boolean ∷ [])) widths ≡ []
occurrences-lit value boolean widths = ap (λ t. occurrences t widths) (terms_of-lit value boolean)

pub occurrences-app : (op : Op) (size : Option Width) (once : Bool) (args : List Term) (widths : List Width) → occurrences (terms_of (term.App op size once args ∷ [])) widths ≡ occurrences (terms_of args) (drop 1 widths)
occurrences-app op size once args widths = ap (λ t. occurrences t widths) (terms_of-app op size once args) ∙ append-nil (occurrences (terms_of args) (drop 1 widths))

-- a loop over a list of terms meets the nodes, and the occurrences, of the term at a place before those behind it
pub size-step : (list : List Term) (i : ℕ) (t : Term) → i < length list → t ≡ get_or list i t → size_of (terms_of (drop i list)) ≡ size_of (terms_of (t ∷ [])) + size_of (terms_of (drop (i + 1) list))
size-step list i t within at = ap size_of (terms_of-drop list i t within at) ∙ size_of-then (terms_of (t ∷ [])) (terms_of (drop (i + 1) list))

-- the nodes of the terms from a place on are nodes of the list
pub size-all : (list : List Term) (i : ℕ) → size_of (terms_of (drop i list)) ≤ size_of (terms_of list)
size-all list zero = le_refl (size_of (terms_of list))
size-all [] (suc i) = le_refl 0
size-all (t ∷ list) (suc i) =
    let rest = size-all list i in
    let front = size-step (t ∷ list) 0 t (omega arith) refl in
    omega (arith, rest, front)

pub occurrences-step : (list : List Term) (i : ℕ) (t : Term) (widths : List Width) (place next : ℕ) → i < length list → t ≡ get_or list i t → next ≡ place + size_of (terms_of (t ∷ [])) →
    occurrences (terms_of (drop i list)) (drop place widths) ≡ occurrences (terms_of (t ∷ [])) (drop place widths) ++ occurrences (terms_of (drop (i + 1) list)) (drop next widths)
occurrences-step list i t widths place next within at behind =
    ap (λ u. occurrences u (drop place widths)) (terms_of-drop list i t within at)
    ∙ occurrences-then (terms_of (t ∷ [])) (terms_of (drop (i + 1) list)) (drop place widths)
    ∙ ap (λ l. occurrences (terms_of (t ∷ [])) (drop place widths) ++ occurrences (terms_of (drop (i + 1) list)) l)
    (drop-drop (size_of (terms_of (t ∷ []))) place widths ∙ ap (λ n. drop n widths) (sym behind))

-- a test of each occurrence
pub all-step : (test : Occurrence → Bool) (list : List Term) (i : ℕ) (t : Term) (widths : List Width) (place next : ℕ) → i < length list → t ≡ get_or list i t → next ≡ place + size_of (terms_of (t ∷ [])) →
    list_all test (occurrences (terms_of (drop i list)) (drop place widths))
    ≡ (list_all test (occurrences (terms_of (t ∷ [])) (drop place widths)) && list_all test (occurrences (terms_of (drop (i + 1) list)) (drop next widths)))
all-step test list i t widths place next within at behind =
    ap (list_all test) (occurrences-step list i t widths place next within at behind)
    ∙ list_all-append test (occurrences (terms_of (t ∷ [])) (drop place widths)) (occurrences (terms_of (drop (i + 1) list)) (drop next widths))

pub first-drop : (widths : List Width) (place : ℕ) → first_of (drop place widths) ≡ get_or widths place W1
first-drop widths place = get_or-drop place widths 0 W1 ∙ ap (λ n. get_or widths n W1) (add-zero place)

pub occurrences-at_var : (t : Term) (var : ℕ) (constant : Bool) (size : Option Width) (cond : Option Cond) (widths : List Width) (place : ℕ) → t ≡ term.Var var constant size cond →
    occurrences (terms_of (t ∷ [])) (drop place widths) ≡ record { var = var; width = get_or widths place W1; cond = cond } ∷ []
occurrences-at_var t var constant size cond widths place is =
    ap (λ u. occurrences (terms_of (u ∷ [])) (drop place widths)) is
    ∙ occurrences-var var constant size cond (drop place widths)
    ∙ ap (λ width. record { var = var; width = width; cond = cond } ∷ []) (first-drop widths place)

pub occurrences-at_app : (t : Term) (op : Op) (size : Option Width) (once : Bool) (args : List Term) (widths : List Width) (place : ℕ) → t ≡ term.App op size once args →
    occurrences (terms_of (t ∷ [])) (drop place widths) ≡ occurrences (terms_of args) (drop (place + 1) widths)
occurrences-at_app t op size once args widths place is =
    ap (λ u. occurrences (terms_of (u ∷ [])) (drop place widths)) is
    ∙ occurrences-app op size once args (drop place widths)
    ∙ ap (occurrences (terms_of args)) (drop-drop 1 place widths)

pub all-var : (test : Occurrence → Bool) (t : Term) (var : ℕ) (constant : Bool) (size : Option Width) (cond : Option Cond) (widths : List Width) (place : ℕ) → t ≡ term.Var var constant size cond →
    list_all test (occurrences (terms_of (t ∷ [])) (drop place widths)) ≡ test (record { var = var; width = get_or widths place W1; cond = cond })
all-var test t var constant size cond widths place is =
    ap (list_all test) (occurrences-at_var t var constant size cond widths place is)
    ∙ and-true (test (record { var = var; width = get_or widths place W1; cond = cond }))

pub all-app : (test : Occurrence → Bool) (t : Term) (op : Op) (size : Option Width) (once : Bool) (args : List Term) (widths : List Width) (place : ℕ) → t ≡ term.App op size once args →
    list_all test (occurrences (terms_of (t ∷ [])) (drop place widths)) ≡ list_all test (occurrences (terms_of args) (drop (place + 1) widths))
all-app test t op size once args widths place is = ap (list_all test) (occurrences-at_app t op size once args widths place is)

-- the first occurrence of a variable
width_found-or : (a b : Option Occurrence) → option_map (λ o. o.width) (option_or a b) ≡ option_or (option_map (λ o. o.width) a) (option_map (λ o. o.width) b)
width_found-or None b = refl
width_found-or (Some o) b = refl

pub found-step : (var : ℕ) (list : List Term) (i : ℕ) (t : Term) (widths : List Width) (place next : ℕ) → i < length list → t ≡ get_or list i t → next ≡ place + size_of (terms_of (t ∷ [])) →
    width_found (occurrences (terms_of (drop i list)) (drop place widths)) var
    ≡ option_or (width_found (occurrences (terms_of (t ∷ [])) (drop place widths)) var) (width_found (occurrences (terms_of (drop (i + 1) list)) (drop next widths)) var)
found-step var list i t widths place next within at behind =
    let here = occurrences (terms_of (t ∷ [])) (drop place widths) in
    let rest = occurrences (terms_of (drop (i + 1) list)) (drop next widths) in
    ap (λ l. width_found l var) (occurrences-step list i t widths place next within at behind)
    ∙ ap (option_map (λ o. o.width)) (find-append (λ o. nat_eq o.var var) here rest)
    ∙ width_found-or (find (λ o. nat_eq o.var var) here) (find (λ o. nat_eq o.var var) rest)

found-case : (b : Bool) (o : Occurrence) → option_map (λ x. x.width) (cond b (Some o) None) ≡ cond b (Some o.width) None
found-case true o = refl
found-case false o = refl

pub found-var : (sought : ℕ) (t : Term) (var : ℕ) (constant : Bool) (size : Option Width) (condition : Option Cond) (widths : List Width) (place : ℕ) → t ≡ term.Var var constant size condition →
    width_found (occurrences (terms_of (t ∷ [])) (drop place widths)) sought ≡ cond (nat_eq var sought) (Some (get_or widths place W1)) None
found-var sought t var constant size condition widths place is =
    ap (λ l. width_found l sought) (occurrences-at_var t var constant size condition widths place is)
    ∙ found-case (nat_eq var sought) (record { var = var; width = get_or widths place W1; cond = condition })

pub or_assoc : (a b c : Option Width) → option_or (option_or a b) c ≡ option_or a (option_or b c)
or_assoc None b c = refl
or_assoc (Some a) b c = refl

-- the nodes of a term fit where those of its list do
pub room-step : (list : List Term) (i : ℕ) (t : Term) (place end : ℕ) → i < length list → t ≡ get_or list i t → place + size_of (terms_of (drop i list)) ≤ end → place + size_of (terms_of (t ∷ [])) ≤ end
room-step list i t place end within at room = let e = size-step list i t within at in omega arith

pub place-step : (list : List Term) (i : ℕ) (t : Term) (place next : ℕ) → i < length list → t ≡ get_or list i t → next ≡ place + size_of (terms_of (t ∷ [])) → next + size_of (terms_of (drop (i + 1) list)) ≡ place + size_of (terms_of (drop i list))
place-step list i t place next within at behind = let e = size-step list i t within at in omega arith

pub room-app : (t : Term) (op : Op) (size : Option Width) (once : Bool) (args : List Term) (place end : ℕ) → t ≡ term.App op size once args → place + size_of (terms_of (t ∷ [])) ≤ end → place + 1 + size_of (terms_of args) ≤ end
room-app t op size once args place end is room = let e = ap (λ u. size_of (terms_of (u ∷ []))) is ∙ size-app op size once args in omega arith

-- sizes behind the nodes of terms tell nothing of them
pub cut : {A : Type 0} (m n : ℕ) (list : List A) → m ≤ n → drop m (take n list) ≡ take (n - m) (drop m list)
cut m n list h =
    let whole : n ≡ m + (n - m) = omega arith in
    ap (λ k. drop m (take k list)) whole ∙ drop-take m (n - m) list

pub occurrences-take : (terms : Terms) (n : ℕ) (widths : List Width) → size_of terms ≤ n → occurrences terms (take n widths) ≡ occurrences terms widths
occurrences-take Nil n widths enough = refl
occurrences-take (VarThen var constant size cond rest) n widths enough =
    ap (λ w. record { var = var; width = w; cond = cond } ∷ occurrences rest (drop 1 (take n widths))) (get_or-take n widths 0 W1 (omega arith))
    ∙ ap (λ l. record { var = var; width = first_of widths; cond = cond } ∷ l)
    (ap (occurrences rest) (cut 1 n widths (omega arith)) ∙ occurrences-take rest (n - 1) (drop 1 widths) (omega arith))
occurrences-take (LitThen value boolean rest) n widths enough =
    ap (occurrences rest) (cut 1 n widths (omega arith)) ∙ occurrences-take rest (n - 1) (drop 1 widths) (omega arith)
occurrences-take (AppThen op size once args rest) n widths enough =
    ap (λ l. occurrences args l ++ occurrences rest (drop (suc (size_of args)) (take n widths))) (cut 1 n widths (omega arith))
    ∙ ap (λ l. l ++ occurrences rest (drop (suc (size_of args)) (take n widths))) (occurrences-take args (n - 1) (drop 1 widths) (omega arith))
    ∙ ap (λ l. occurrences args (drop 1 widths) ++ l)
    (ap (occurrences rest) (cut (suc (size_of args)) n widths (omega arith)) ∙ occurrences-take rest (n - suc (size_of args)) (drop (suc (size_of args)) widths) (omega arith))

-- the occurrences of the search side, where the sizes of the replacement stand behind
pub occurrences-search : (rule : Rule) (widths : List Width) → occurrences rule.search (search_part rule widths) ≡ occurrences rule.search (drop 0 widths)
occurrences-search rule widths = occurrences-take rule.search (size_of rule.search) widths (omega arith)

-- a typing has a size for each node
pub typing-room : (rule : Rule) (widths : List Width) → is_typing rule widths ≡ true → 0 + size_of rule.search ≤ length widths
unfolding is_typing
typing-room rule widths typing =
    let enough = nat_eq (length widths) (size_of rule.search + size_of rule.replace) in
    let search = obeys rule.search (search_part rule widths) in
    let replace = obeys rule.replace (replace_part rule widths) in
    let roots = same_width (first_of (search_part rule widths)) (first_of (replace_part rule widths)) in
    let all = and_parts (enough && search && replace && roots) _ typing in
    let four = and_parts (enough && search && replace) roots all.0 in
    let three = and_parts (enough && search) replace four.0 in
    let two = and_parts enough search three.0 in
    let count = eqb-true (length widths) (size_of rule.search + size_of rule.replace) two.0 in
    omega arith

pub ruleset walk_steps = (size-var, size-lit, size-app, occurrences-var, occurrences-lit, occurrences-app)
