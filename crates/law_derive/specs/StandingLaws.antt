-- Terms over the variables of a rule at their sizes: the expressions of steps are such terms, and so is the search side.
use Rattle.std.proofs.Common.{◌≡◌, ◌<◌, ◌^◌, ℕ, suc, Bool, true, List, [], ◌∷◌, drop, take, filter, Option, Some, None, refl, sym, ap, ◌∙◌, subst, arith, ⊎_elim}
use Rattle.std.specs.Prelude.{◌&&◌, IfSome, nat_eq, cond}
use Rattle.std.specs.List.{AllByRecursion, list_all}
use Rattle.std.specs.Option.{option_map}
use Rattle.std.proofs.lemmas.Bool.{and_parts, eqb-true}
use Rattle.std.proofs.lemmas.List.{take-append-drop}
use Rattle.std.proofs.lemmas.Nat.{pow_pos}
use Rattle.list_laws.specs.AllLaws.{all_append, all_each, all_back, all_front, passes_append}
use Rattle.list_laws.specs.BoolLaws.{chosen}
use Rattle.nir_ops.specs.declared.width.Width.{Width}
use Rattle.nir_ops.specs.Width.{width_bits}
use Rattle.op_eval.specs.Sizes.{same_width-same}
use Rattle.op_eval.proofs.WordLemmas.{residue_lt}
use Rattle.rule_term.specs.Pieces.{pieces, terms_count}
use Rattle.rule_term.specs.Terms.{Terms, Nil, VarThen, LitThen, AppThen}
use Rattle.rule_term.specs.Typings.{Occurrence, occurrences, obeys, first_of, size_of, width_lists}
use Rattle.rule_term.specs.Typings as typing
use Rattle.law_derive.specs.declared.node.Kind.{Kind}
use Rattle.law_derive.specs.declared.node.Kind.TheVariants.{App, Var, Lit}
use Rattle.law_derive.specs.declared.node.Node.{Node}
use Rattle.law_derive.specs.Calculations.{IsComputable}
use Rattle.law_derive.specs.Derivations.{Setting, expr_nodes, has_size_of, has_var_size, is_expr, is_expr_typing, is_size, only, piece_formed, size_of_var}
use Rattle.law_derive.specs.Fit.{nodes_fit}
use Rattle.law_derive.specs.FitLaws.{fit_nodes_of, pieces_sources}
use Rattle.law_derive.specs.Nodes.{AreTerms, nodes_of, roots}
use Rattle.law_derive.specs.TermsLaws.{have_terms, roots_are}
use Rattle.law_derive.specs.WordsLaws.{KindIsWord, NodeIsWord}

-- a variable of the rule at its size, or a word of the size
abbrev pub KindStands : Setting → Width → Kind → Type 0
KindStands at width (App op) = Unit {0}
KindStands at width (Var var) = size_of_var at var ≡ Some width
KindStands at width (Lit word) = word < 2 ^ width_bits width

abbrev pub NodeStands : Setting → Node → Type 0
NodeStands at node = KindStands at node.width node.kind

-- one term over the variables of the rule
pub record IsTermAt (at : Setting) (nodes : List Node) : Type 0 where
  pub one : AreTerms 1 nodes
  pub stand : AllByRecursion (NodeStands at) nodes
  pub fit : nodes_fit nodes ≡ true

module _ {X : Type 0} (P : X → Type 0) (n : ℕ) (list : List X) (all : AllByRecursion P list) where
  pub all_take : AllByRecursion P (take n list)
  all_take = all_front P (take n list) (drop n list) (subst (AllByRecursion P) (sym (take-append-drop n list)) all)

  pub all_drop : AllByRecursion P (drop n list)
  all_drop = all_back P (take n list) (drop n list) (subst (AllByRecursion P) (sym (take-append-drop n list)) all)

-- ---- terms that can be computed

kind_is_word : (at : Setting) (width : Width) (kind : Kind) → KindStands at width kind → KindIsWord [] width kind
kind_is_word at width (App op) stands = tt
kind_is_word at width (Var var) stands = pow_pos (width_bits width)
kind_is_word at width (Lit word) stands = stands

-- a term over the variables of the rule can be computed
pub computable : (at : Setting) (nodes : List Node) → IsTermAt at nodes → IsComputable nodes
computable at nodes is = record {
  one = is.one;
  fit = is.fit;
  words = all_each (NodeStands at) (NodeIsWord []) (λ node stands. kind_is_word at node.width node.kind stands) nodes is.stand;
}

-- ---- occurrences and nodes

one_size : (found : Option Width) (width : Width) → has_size_of found width ≡ true → found ≡ Some width
one_size None width is = cc
one_size (Some own) width is = ap (λ w. Some w) (same_width-same own width is)

pub nodes_stand : (at : Setting) (t : Terms) (widths : List Width) → list_all (has_var_size at) (occurrences t widths) ≡ true → AllByRecursion (NodeStands at) (nodes_of t widths)
nodes_stand at Nil widths have = tt
nodes_stand at (VarThen var constant size cond rest) widths have =
    let parts = and_parts (has_size_of (size_of_var at var) (first_of widths)) (list_all (has_var_size at) (occurrences rest (drop 1 widths))) have in
    (one_size (size_of_var at var) (first_of widths) parts.0, nodes_stand at rest (drop 1 widths) parts.1)
nodes_stand at (LitThen value boolean rest) widths have = (residue_lt (width_bits (first_of widths)) value, nodes_stand at rest (drop 1 widths) have)
nodes_stand at (AppThen op size once args rest) widths have =
    let both = passes_append (has_var_size at) (occurrences args (drop 1 widths)) (occurrences rest (drop (suc (size_of args)) widths)) have in
    (tt, all_append (NodeStands at) _ _ (nodes_stand at args (drop 1 widths) both.0) (nodes_stand at rest (drop (suc (size_of args)) widths) both.1))

-- ---- expressions

same_head : {X : Type 0} (x y : X) (rest others : List X) → x ∷ rest ≡ y ∷ others → x ≡ y
same_head x y rest others is = cc

first_kept : {X : Type 0} (test : X → Bool) (list : List X) (x : X) (rest : List X) → filter test list ≡ x ∷ rest → test x ≡ true
first_kept test [] x rest is = absurd cc
first_kept test (y ∷ list) x rest is =
    ⊎_elim (λ kept. subst (λ z. test z ≡ true) (same_head y x (filter test list) rest kept.1) kept.0) (λ other. first_kept test list x rest other.1)
    (chosen (test y) (y ∷ filter test list) (filter test list) (x ∷ rest) is)

only_is : (list : List (List Width)) (widths : List Width) → only list ≡ Some widths → list ≡ widths ∷ []
only_is [] widths is = cc
only_is (own ∷ []) widths is = let e : own ≡ widths = cc in ap (λ w. w ∷ []) e
only_is (own ∷ others ∷ more) widths is = cc

none : (t : Terms) (widths : List Width) → terms_count t ≡ 0 → typing.roots t widths ≡ []
none Nil widths is = refl
none (VarThen var constant size cond rest) widths is = absurd (omega (arith, is))
none (LitThen value boolean rest) widths is = absurd (omega (arith, is))
none (AppThen op size once args rest) widths is = absurd (omega (arith, is))

-- one term has one size: that of its first node
root_of : (t : Terms) (widths : List Width) → terms_count t ≡ 1 → typing.roots t widths ≡ first_of widths ∷ []
root_of Nil widths one = absurd cc
root_of (VarThen var constant size cond rest) widths one = ap (λ r. first_of widths ∷ r) (none rest (drop 1 widths) (omega (arith, one)))
root_of (LitThen value boolean rest) widths one = ap (λ r. first_of widths ∷ r) (none rest (drop 1 widths) (omega (arith, one)))
root_of (AppThen op size once args rest) widths one = ap (λ r. first_of widths ∷ r) (none rest (drop (suc (size_of args)) widths) (omega (arith, one)))

-- what is known of an expression
pub record IsExprAt (at : Setting) (size : Option Width) (nodes : List Node) : Type 0 where
  pub term : IsTermAt at nodes
  pub width : Width
  pub sized : roots nodes ≡ width ∷ []
  pub asked : is_size size width ≡ true

expr_typed : (at : Setting) (size : Option Width) (terms : Terms) (widths : List Width) → is_expr terms ≡ true → is_expr_typing at size terms widths ≡ true
    → IsExprAt at size (nodes_of terms widths)
expr_typed at size terms widths expr typed =
    let formed = and_parts (nat_eq (terms_count terms) 1) (list_all piece_formed (pieces terms)) expr in
    let one : terms_count terms ≡ 1 = eqb-true (terms_count terms) 1 formed.0 in
    let have = pieces_sources (pieces terms) formed.1 in
    let parts = and_parts (obeys terms widths && list_all (has_var_size at) (occurrences terms widths)) (is_size size (first_of widths)) typed in
    let vars = and_parts (obeys terms widths) (list_all (has_var_size at) (occurrences terms widths)) parts.0 in
    record {
      term = record {
        one = subst (λ n. AreTerms n (nodes_of terms widths)) one (have_terms terms widths have);
        stand = nodes_stand at terms widths vars.1;
        fit = fit_nodes_of terms widths formed.1 vars.0;
      };
      width = first_of widths;
      sized = roots_are terms widths have ∙ root_of terms widths one;
      asked = parts.1;
    }

typed_expr : (at : Setting) (size : Option Width) (terms : Terms) (found : Option (List Width)) (nodes : List Node) → is_expr terms ≡ true
    → found ≡ only (filter (is_expr_typing at size terms) (width_lists (size_of terms))) → option_map (nodes_of terms) found ≡ Some nodes → IsExprAt at size nodes
typed_expr at size terms None nodes expr is made = absurd cc
typed_expr at size terms (Some widths) nodes expr is made =
    let e : nodes_of terms widths ≡ nodes = cc in
    subst (IsExprAt at size) e
    (expr_typed at size terms widths expr
    (first_kept (is_expr_typing at size terms) (width_lists (size_of terms)) widths [] (only_is (filter (is_expr_typing at size terms) (width_lists (size_of terms))) widths (sym is))))

pub expr_is : (at : Setting) (size : Option Width) (terms : Terms) (nodes : List Node) → expr_nodes at size terms ≡ Some nodes → IsExprAt at size nodes
unfolding expr_nodes
expr_is at size terms nodes is =
    ⊎_elim
    (λ expr. typed_expr at size terms (only (filter (is_expr_typing at size terms) (width_lists (size_of terms)))) nodes expr.0 refl expr.1)
    (λ none. absurd (let never = none.1 in cc))
    (chosen (is_expr terms) (option_map (nodes_of terms) (only (filter (is_expr_typing at size terms) (width_lists (size_of terms))))) None (Some nodes) is)

-- the nodes of an expression can be computed
pub expr_computable : (at : Setting) (size : Option Width) (terms : Terms) (own : Option (List Node)) → own ≡ expr_nodes at size terms → IfSome own (λ nodes. IsComputable nodes)
expr_computable at size terms None is = tt
expr_computable at size terms (Some nodes) is = computable at nodes (expr_is at size terms nodes (sym is)).term
