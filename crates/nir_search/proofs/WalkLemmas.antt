-- How a match goes along a list of terms: the first, and then the others.
use Rattle.nir_ir.specs.Definitions.{alu_at, width_at}
use Rattle.nir_ir.specs.declared.ids.ValueId.{ValueId}
use Rattle.nir_ir.specs.Uses.{use_count}
use Rattle.std.specs.Prelude.{◌≡◌, refl, ◌<◌, ◌≤◌, ◌+◌, ℕ, ℤ, suc, List, [], ◌∷◌, ◌++◌, Option, Some, None, Bool, true, false, ◌&&◌, length, drop, is_some, nat_eq, if◌then◌else◌}
use Rattle.std.proofs.Common.{sym, ◌∙◌, ap, subst, get_or, arith}
use Rattle.std.specs.Option.{option_and_then, option_map}
use Rattle.std.proofs.Common.{append_assoc, drop-drop}
use Rattle.std.proofs.lemmas.List.{append-nil}
use Rattle.nir_ops.specs.declared.op.Op.{Op}
use Rattle.nir_ops.specs.declared.width.Width.{Width}
use Rattle.nir_ir.specs.Nodes.{Nodes}
use Rattle.rule_term.specs.declared.term.Term.{Term, Term-F, out-Term, map-Term}
use Rattle.rule_term.specs.declared.term.Term.TheOpen as layer
use Rattle.rule_term.specs.declared.term.Term.TheVariants as term
use Rattle.rule_term.specs.declared.cond.Cond.{Cond}
use Rattle.rule_term.specs.Terms.{Terms, Nil, VarThen, LitThen, AppThen, before, before_layer, before-out, terms_of}
use Rattle.rule_term.specs.Lists as lists
use Rattle.rule_term.specs.Lists.{terms_of-drop, terms_of-var, terms_of-lit, terms_of-app}
use Rattle.rule_term.specs.Pieces.{terms_count}
use Rattle.rule_term.specs.Splits.{drop_one, size_of-then, terms_count-terms_of}
use Rattle.rule_term.specs.Typings.{size_of}
use Rattle.nir_search.specs.declared.hit.Bind.{Bind}
use Rattle.rule_term.specs.Variants.{bits_behind, bits_left, is_swapped}
use Rattle.rule_variants.specs.BitLaws.{bits_behind-drop}
use Rattle.nir_search.specs.Match.{matches, met, bind, children, front, has_op, is_applied, is_literal, is_taken}
use Rattle.nir_search.specs.Walks.{NeverMatches, Walks}

and_then_assoc : {A : Type 0} (f g : A → Option A) (o : Option A) → option_and_then g (option_and_then f o) ≡ option_and_then (λ a. option_and_then g (f a)) o
and_then_assoc f g None = refl
and_then_assoc f g (Some a) = refl

and_then_if : {A : Type 0} (f : A → Option A) (test : Bool) (o : Option A) → option_and_then f (if test then o else None) ≡ (if test then option_and_then f o else None)
and_then_if f true o = refl
and_then_if f false o = refl

-- the same functions, place by place
and_then_same : {A : Type 0} (f g : A → Option A) → ((a : A) → f a ≡ g a) → (o : Option A) → option_and_then f o ≡ option_and_then g o
and_then_same f g h None = refl
and_then_same f g h (Some a) = h a

pub matches-then : (body : Nodes) (a b : Terms) (bits : ℕ) (views : List Bind) (bound : List (Option Bind))
    → matches body (lists.then a b) bits views bound ≡ option_and_then (matches body b (bits_behind a bits) (drop (terms_count a) views)) (matches body a bits views bound)
matches-then body Nil b bits views bound = refl
matches-then body (VarThen var constant size cond rest) b bits views bound =
    ap (λ o. if is_taken body constant cond (front views) then o else None)
    (and_then_same _ _ (λ after. matches-then body rest b bits (drop 1 views) after ∙ ap (λ l. option_and_then (matches body b (bits_behind rest bits) l) (matches body rest bits (drop 1 views) after)) (drop_one (terms_count rest) views)) (bind var (front views) bound)
    ∙ sym (and_then_assoc (matches body rest bits (drop 1 views)) (matches body b (bits_behind rest bits) (drop (suc (terms_count rest)) views)) (bind var (front views) bound)))
    ∙ sym (and_then_if (matches body b (bits_behind rest bits) (drop (suc (terms_count rest)) views)) (is_taken body constant cond (front views)) (option_and_then (matches body rest bits (drop 1 views)) (bind var (front views) bound)))
matches-then body (LitThen value boolean rest) b bits views bound =
    ap (λ o. if is_literal body value (front views) then o else None)
    (matches-then body rest b bits (drop 1 views) bound ∙ ap (λ l. option_and_then (matches body b (bits_behind rest bits) l) (matches body rest bits (drop 1 views) bound)) (drop_one (terms_count rest) views))
    ∙ sym (and_then_if (matches body b (bits_behind rest bits) (drop (suc (terms_count rest)) views)) (is_literal body value (front views)) (matches body rest bits (drop 1 views) bound))
matches-then body (AppThen op size once args rest) b bits views bound =
    let behind : ℕ = bits_behind args (bits_left op bits) in
    let inner : Option (List (Option Bind)) = matches body args (bits_left op bits) (children body (is_swapped op bits) (front views)) bound in
    ap (λ o. if is_applied body op once (front views) then o else None)
    (and_then_same _ _ (λ after. matches-then body rest b behind (drop 1 views) after ∙ ap (λ l. option_and_then (matches body b (bits_behind rest behind) l) (matches body rest behind (drop 1 views) after)) (drop_one (terms_count rest) views)) inner
    ∙ sym (and_then_assoc (matches body rest behind (drop 1 views)) (matches body b (bits_behind rest behind) (drop (suc (terms_count rest)) views)) inner))
    ∙ sym (and_then_if (matches body b (bits_behind rest behind) (drop (suc (terms_count rest)) views)) (is_applied body op once (front views)) (option_and_then (matches body rest behind (drop 1 views)) inner))

cons_same : {A : Type 0} (a : A) {x y : List A} → x ≡ y → a ∷ x ≡ a ∷ y
cons_same a e = ap (λ l. a ∷ l) e

pub met-then : (body : Nodes) (a b : Terms) (bits : ℕ) (views : List Bind)
    → met body (lists.then a b) bits views ≡ met body a bits views ++ met body b (bits_behind a bits) (drop (terms_count a) views)
met-then body Nil b bits views = refl
met-then body (VarThen var constant size cond rest) b bits views =
    cons_same (width_at body (front views).value) (met-then body rest b bits (drop 1 views) ∙ ap (λ l. met body rest bits (drop 1 views) ++ met body b (bits_behind rest bits) l) (drop_one (terms_count rest) views))
met-then body (LitThen value boolean rest) b bits views =
    cons_same (width_at body (front views).value) (met-then body rest b bits (drop 1 views) ∙ ap (λ l. met body rest bits (drop 1 views) ++ met body b (bits_behind rest bits) l) (drop_one (terms_count rest) views))
met-then body (AppThen op size once args rest) b bits views =
    let behind : ℕ = bits_behind args (bits_left op bits) in
    let inner : List Width = met body args (bits_left op bits) (children body (is_swapped op bits) (front views)) in
    cons_same (width_at body (front views).value)
    (ap (λ l. inner ++ l) (met-then body rest b behind (drop 1 views) ∙ ap (λ l. met body rest behind (drop 1 views) ++ met body b (bits_behind rest behind) l) (drop_one (terms_count rest) views))
    ∙ sym (append_assoc inner (met body rest behind (drop 1 views)) (met body b (bits_behind rest behind) (drop (suc (terms_count rest)) views))))

-- the same walk along the same terms
pub walks_along : (body : Nodes) (terms others : Terms) (bits : ℕ) (views : List Bind) (before after : List (Option Bind)) (result : Option ℕ)
    → terms ≡ others → Walks body others bits views before result after → Walks body terms bits views before result after
walks_along body terms others bits views before after result same walks = subst (λ t. Walks body t bits views before result after) (sym same) walks

-- one term looks at the first view alone
matches_layer : (body : Nodes) (layer : Term-F (Terms → Terms)) (bits : ℕ) (views : List Bind) (bound : List (Option Bind))
    → matches body (before_layer layer Nil) bits views bound ≡ matches body (before_layer layer Nil) bits (front views ∷ []) bound
matches_layer body (layer.Var var constant size cond) bits views bound = refl
matches_layer body (layer.Lit value boolean) bits views bound = refl
matches_layer body (layer.App op size once args) bits views bound = refl

matches_front : (body : Nodes) (t : Term) (bits : ℕ) (views : List Bind) (bound : List (Option Bind))
    → matches body (terms_of (t ∷ [])) bits views bound ≡ matches body (terms_of (t ∷ [])) bits (front views ∷ []) bound
matches_front body t bits views bound =
    ap (λ f. matches body (f Nil) bits views bound) (before-out t)
    ∙ matches_layer body (map-Term Term (Terms → Terms) before (out-Term t)) bits views bound
    ∙ sym (ap (λ f. matches body (f Nil) bits (front views ∷ []) bound) (before-out t))

met_layer : (body : Nodes) (layer : Term-F (Terms → Terms)) (bits : ℕ) (views : List Bind)
    → met body (before_layer layer Nil) bits views ≡ met body (before_layer layer Nil) bits (front views ∷ [])
met_layer body (layer.Var var constant size cond) bits views = refl
met_layer body (layer.Lit value boolean) bits views = refl
met_layer body (layer.App op size once args) bits views = refl

met_front : (body : Nodes) (t : Term) (bits : ℕ) (views : List Bind)
    → met body (terms_of (t ∷ [])) bits views ≡ met body (terms_of (t ∷ [])) bits (front views ∷ [])
met_front body t bits views =
    ap (λ f. met body (f Nil) bits views) (before-out t)
    ∙ met_layer body (map-Term Term (Terms → Terms) before (out-Term t)) bits views
    ∙ sym (ap (λ f. met body (f Nil) bits (front views ∷ [])) (before-out t))

-- the views behind one term
behind_one : (t : Term) (i : ℕ) (views : List Bind) → drop (terms_count (terms_of (t ∷ []))) (drop i views) ≡ drop (i + 1) views
behind_one t i views = ap (λ n. drop n (drop i views)) (terms_count-terms_of (t ∷ [])) ∙ drop-drop 1 i views

-- What is matched from a place on is the term at the place, and then what is matched behind it.
pub matches_at : (body : Nodes) (list : List Term) (i : ℕ) (t : Term) (bits : ℕ) (views : List Bind) (bound : List (Option Bind))
    → i < length list → t ≡ get_or list i t
    → matches body (terms_of (drop i list)) bits (drop i views) bound
    ≡ option_and_then (matches body (terms_of (drop (i + 1) list)) (bits_behind (terms_of (t ∷ [])) bits) (drop (i + 1) views)) (matches body (terms_of (t ∷ [])) bits (front (drop i views) ∷ []) bound)
matches_at body list i t bits views bound within at =
    ap (λ terms. matches body terms bits (drop i views) bound) (terms_of-drop list i t within at)
    ∙ matches-then body (terms_of (t ∷ [])) (terms_of (drop (i + 1) list)) bits (drop i views) bound
    ∙ ap (λ l. option_and_then (matches body (terms_of (drop (i + 1) list)) (bits_behind (terms_of (t ∷ [])) bits) l) (matches body (terms_of (t ∷ [])) bits (drop i views) bound)) (behind_one t i views)
    ∙ ap (option_and_then (matches body (terms_of (drop (i + 1) list)) (bits_behind (terms_of (t ∷ [])) bits) (drop (i + 1) views))) (matches_front body t bits (drop i views) bound)

pub met_at : (body : Nodes) (list : List Term) (i : ℕ) (t : Term) (bits : ℕ) (views : List Bind)
    → i < length list → t ≡ get_or list i t
    → met body (terms_of (drop i list)) bits (drop i views)
    ≡ met body (terms_of (t ∷ [])) bits (front (drop i views) ∷ []) ++ met body (terms_of (drop (i + 1) list)) (bits_behind (terms_of (t ∷ [])) bits) (drop (i + 1) views)
met_at body list i t bits views within at =
    ap (λ terms. met body terms bits (drop i views)) (terms_of-drop list i t within at)
    ∙ met-then body (terms_of (t ∷ [])) (terms_of (drop (i + 1) list)) bits (drop i views)
    ∙ ap (λ l. met body (terms_of (t ∷ [])) bits (drop i views) ++ met body (terms_of (drop (i + 1) list)) (bits_behind (terms_of (t ∷ [])) bits) l) (behind_one t i views)
    ∙ ap (λ l. l ++ met body (terms_of (drop (i + 1) list)) (bits_behind (terms_of (t ∷ [])) bits) (drop (i + 1) views)) (met_front body t bits (drop i views))

-- what one term meets, and what it leaves of the bits
pub met_var : (body : Nodes) (t : Term) (var : ℕ) (constant : Bool) (size : Option Width) (cond : Option Cond) (bits : ℕ) (view : Bind) → t ≡ term.Var var constant size cond
    → met body (terms_of (t ∷ [])) bits (view ∷ []) ≡ width_at body view.value ∷ []
met_var body t var constant size cond bits view is = ap (λ t. met body (terms_of (t ∷ [])) bits (view ∷ [])) is ∙ ap (λ l. met body l bits (view ∷ [])) (terms_of-var var constant size cond)

pub met_lit : (body : Nodes) (t : Term) (value : ℤ) (boolean : Bool) (bits : ℕ) (view : Bind) → t ≡ term.Lit value boolean
    → met body (terms_of (t ∷ [])) bits (view ∷ []) ≡ width_at body view.value ∷ []
met_lit body t value boolean bits view is = ap (λ t. met body (terms_of (t ∷ [])) bits (view ∷ [])) is ∙ ap (λ l. met body l bits (view ∷ [])) (terms_of-lit value boolean)

pub met_app : (body : Nodes) (t : Term) (op : Op) (size : Option Width) (once : Bool) (args : List Term) (bits : ℕ) (view : Bind) → t ≡ term.App op size once args
    → met body (terms_of (t ∷ [])) bits (view ∷ [])
    ≡ width_at body view.value ∷ met body (terms_of args) (bits_left op bits) (children body (is_swapped op bits) view)
met_app body t op size once args bits view is =
    ap (λ t. met body (terms_of (t ∷ [])) bits (view ∷ [])) is
    ∙ ap (λ l. met body l bits (view ∷ [])) (terms_of-app op size once args)
    ∙ cons_same (width_at body view.value) (append-nil (met body (terms_of args) (bits_left op bits) (children body (is_swapped op bits) view)))

pub bits_var : (t : Term) (var : ℕ) (constant : Bool) (size : Option Width) (cond : Option Cond) (bits : ℕ) → t ≡ term.Var var constant size cond → bits_behind (terms_of (t ∷ [])) bits ≡ bits
bits_var t var constant size cond bits is = ap (λ t. bits_behind (terms_of (t ∷ [])) bits) is ∙ ap (λ l. bits_behind l bits) (terms_of-var var constant size cond)

pub bits_lit : (t : Term) (value : ℤ) (boolean : Bool) (bits : ℕ) → t ≡ term.Lit value boolean → bits_behind (terms_of (t ∷ [])) bits ≡ bits
bits_lit t value boolean bits is = ap (λ t. bits_behind (terms_of (t ∷ [])) bits) is ∙ ap (λ l. bits_behind l bits) (terms_of-lit value boolean)

pub bits_app : (t : Term) (op : Op) (size : Option Width) (once : Bool) (args : List Term) (bits : ℕ) → t ≡ term.App op size once args
    → bits_behind (terms_of (t ∷ [])) bits ≡ bits_behind (terms_of args) (bits_left op bits)
bits_app t op size once args bits is = ap (λ t. bits_behind (terms_of (t ∷ [])) bits) is ∙ ap (λ l. bits_behind l bits) (terms_of-app op size once args)

pub size_app : (t : Term) (op : Op) (size : Option Width) (once : Bool) (args : List Term) → t ≡ term.App op size once args → size_of (terms_of (t ∷ [])) ≡ suc (size_of (terms_of args) + 0)
size_app t op size once args is = ap (λ t. size_of (terms_of (t ∷ []))) is ∙ ap size_of (terms_of-app op size once args)

-- the sizes met so far, and those that are met behind a term
pub met_on : (body : Nodes) (list : List Term) (i : ℕ) (t : Term) (view : Bind) (bits left : ℕ) (views : List Bind) (before after : List Width)
    → i < length list → t ≡ get_or list i t → view ≡ front (drop i views)
    → left ≡ bits_behind (terms_of (t ∷ [])) bits → after ≡ before ++ met body (terms_of (t ∷ [])) bits (view ∷ [])
    → after ++ met body (terms_of (drop (i + 1) list)) left (drop (i + 1) views) ≡ before ++ met body (terms_of (drop i list)) bits (drop i views)
met_on body list i t view bits left views before after within at is same grown =
    let one : Terms = terms_of (t ∷ []) in
    let behind : ℕ → List Width = λ b. met body (terms_of (drop (i + 1) list)) b (drop (i + 1) views) in
    ap (λ l. l ++ behind left) grown
    ∙ append_assoc before (met body one bits (view ∷ [])) (behind left)
    ∙ ap (λ l. before ++ l)
    (ap (λ v. met body one bits (v ∷ []) ++ behind left) is
    ∙ ap (λ b. met body one bits (front (drop i views) ∷ []) ++ behind b) same
    ∙ sym (met_at body list i t bits views within at))

-- whether something is there does not depend on how it is seen
pub some_as : {A B : Type 0} (f : A → B) (o : Option A) → is_some o ≡ is_some (option_map f o)
some_as f None = refl
some_as f (Some a) = refl

-- a list of terms has a node for each
terms_nodes : (terms : Terms) → terms_count terms ≤ size_of terms
terms_nodes Nil = omega arith
terms_nodes (VarThen var constant size cond rest) = let more = terms_nodes rest in omega (arith, more)
terms_nodes (LitThen value boolean rest) = let more = terms_nodes rest in omega (arith, more)
terms_nodes (AppThen op size once args rest) = let more = terms_nodes rest in omega (arith, more)

pub some_node : (t : Term) → 1 ≤ size_of (terms_of (t ∷ []))
some_node t = let count = terms_count-terms_of (t ∷ []) in let more = terms_nodes (terms_of (t ∷ [])) in omega (arith, count, more)

pub size_on : (list : List Term) (i : ℕ) (t : Term) → i < length list → t ≡ get_or list i t
    → size_of (terms_of (drop i list)) ≡ size_of (terms_of (t ∷ [])) + size_of (terms_of (drop (i + 1) list))
size_on list i t within at = ap size_of (terms_of-drop list i t within at) ∙ size_of-then (terms_of (t ∷ [])) (terms_of (drop (i + 1) list))

-- where the term at a place matches, the match goes on behind it
pub walk_on : (body : Nodes) (list : List Term) (i : ℕ) (t : Term) (view : Bind) (bits : ℕ) (views : List Bind) (before after : List (Option Bind)) (left : ℕ)
    → i < length list → t ≡ get_or list i t → view ≡ front (drop i views)
    → Walks body (terms_of (t ∷ [])) bits (view ∷ []) before (Some left) after
    → (matches body (terms_of (drop (i + 1) list)) left (drop (i + 1) views) after ≡ matches body (terms_of (drop i list)) bits (drop i views) before)
    × (bits_behind (terms_of (drop (i + 1) list)) left ≡ bits_behind (terms_of (drop i list)) bits)
walk_on body list i t view bits views before after left within at is walks =
    let rest : Terms = terms_of (drop (i + 1) list) in
    let one : Terms = terms_of (t ∷ []) in
    let found : matches body one bits (front (drop i views) ∷ []) before ≡ Some after = ap (λ v. matches body one bits (v ∷ []) before) (sym is) ∙ walks.0 in
    let same : bits_behind one bits ≡ left = sym walks.1 in (
      sym (matches_at body list i t bits views before within at
          ∙ ap (option_and_then (matches body rest (bits_behind one bits) (drop (i + 1) views))) found
          ∙ ap (λ b. matches body rest b (drop (i + 1) views) after) same),
      sym (bits_behind-drop list i t bits within at ∙ ap (bits_behind rest) same),
    )

-- where it does not, nothing behind it is matched
pub walk_off : (body : Nodes) (list : List Term) (i : ℕ) (t : Term) (view : Bind) (bits : ℕ) (views : List Bind) (before after : List (Option Bind))
    → i < length list → t ≡ get_or list i t → view ≡ front (drop i views)
    → Walks body (terms_of (t ∷ [])) bits (view ∷ []) before None after
    → matches body (terms_of (drop i list)) bits (drop i views) before ≡ None
walk_off body list i t view bits views before after within at is walks =
    matches_at body list i t bits views before within at
    ∙ ap (option_and_then (matches body (terms_of (drop (i + 1) list)) (bits_behind (terms_of (t ∷ [])) bits) (drop (i + 1) views)))
    (ap (λ v. matches body (terms_of (t ∷ [])) bits (v ∷ []) before) (sym is) ∙ walks)

-- an opcode that does not write a value matches no view of it
no_root : (body : Nodes) (op : Op) (size : Option Width) (once : Bool) (args : Terms) (bits : ℕ) (view : Bind) (bound : List (Option Bind))
    → has_op op (alu_at body view.value) ≡ false → matches body (AppThen op size once args Nil) bits (view ∷ []) bound ≡ None
no_root body op size once args bits view bound not =
    ap (λ (b : Bool). if b && (if once then nat_eq (use_count view.value body) 1 else true)
    then option_and_then (matches body Nil (bits_behind args (bits_left op bits)) []) (matches body args (bits_left op bits) (children body (is_swapped op bits) view) bound)
    else None) not

pub never_app : (body : Nodes) (t : Term) (op : Op) (size : Option Width) (once : Bool) (args : List Term) (value : ValueId) → t ≡ term.App op size once args
    → has_op op (alu_at body value) ≡ false → NeverMatches body (terms_of (t ∷ [])) value
never_app body t op size once args value is not bits view bound same =
    ap (λ t. matches body (terms_of (t ∷ [])) bits (view ∷ []) bound) is
    ∙ ap (λ l. matches body l bits (view ∷ []) bound) (terms_of-app op size once args)
    ∙ no_root body op size once (terms_of args) bits view bound (ap (λ v. has_op op (alu_at body v)) same ∙ not)
