-- A step keeps the size and the value of a term.
use Rattle.std.proofs.Common.{◌≡◌, ◌+◌, ◌-◌, ◌<◌, ℕ, zero, suc, Bool, true, false, List, [], ◌∷◌, ◌++◌, take, drop, length, Option, Some, None, Ok, Err, Result, refl, sym, ap, ◌∙◌, subst, arith, ⊎_elim}
use Rattle.std.specs.Prelude.{◌&&◌, ◌||◌, not, nat_eq, nat_lt, slice_get}
use Rattle.std.specs.Cmp.Lexicographic.{pointwise, bytes_decides}
use Rattle.std.specs.List.{AllByRecursion}
use Rattle.std.specs.Option.{option_map}
use Rattle.std.proofs.lemmas.Bool.{and_parts, ltb-true, not-true}
use Rattle.std.proofs.lemmas.List.{take-append-drop, drop-drop}
use Rattle.list_laws.specs.AllLaws.{all_append, passes_at}
use Rattle.list_laws.specs.BoolLaws.{chosen}
use Rattle.nir_ops.specs.declared.width.Width.{Width}
use Rattle.op_eval.specs.Sizes.{same_width-same}
use Rattle.rule_term.specs.Terms.{Terms}
use Rattle.rule_spelling.specs.Files.{Binding, Step, Apply, Calc}
use Rattle.law_derive.specs.declared.node.Kind.{Kind}
use Rattle.law_derive.specs.declared.node.Kind.TheVariants.{App, Var, Lit}
use Rattle.law_derive.specs.declared.node.Node.{Node}
use Rattle.law_derive.specs.ByLawLaws.{Keeps, by_law_keeps}
use Rattle.law_derive.specs.Derivations.{Setting, StepFault, at_path, by_calc, by_law, calculated, expr_nodes, has_var, is_var, law_numbered, law_step, put_at, is_size, size_of_expr, size_of_nodes, step_made}
use Rattle.law_derive.specs.Fit.{nodes_fit}
use Rattle.law_derive.specs.FitLaws.{fit_append, fit_behind, fit_drop, fit_take}
use Rattle.law_derive.specs.LawsHold.{IsLaw}
use Rattle.law_derive.specs.LawsHoldLaws.{laws_hold}
use Rattle.law_derive.specs.LawTable.{Law, laws}
use Rattle.law_derive.specs.Nodes.{AreTerms, behind_first, extent, first_term, place_at, roots, sources_of, values, with_value}
use Rattle.law_derive.specs.NodesLaws.{count_roots, roots_append, terms_append, terms_split, values_append, values_behind, roots_behind}
use Rattle.law_derive.specs.SidesLaws.{law_fits, laws_fit}
use Rattle.law_derive.specs.StandingLaws.{IsTermAt, NodeStands, all_drop, all_take, expr_is}

-- ---- places

place_more : (k : ℕ) (node : Node) (nodes : List Node) (own : Option ℕ) (place : ℕ) → option_map (λ q. suc (extent k nodes + q)) own ≡ Some place
    → (q : ℕ) × (own ≡ Some q) × (drop place (node ∷ nodes) ≡ drop q (drop (extent k nodes) nodes))
place_more k node nodes None place is = absurd cc
place_more k node nodes (Some q) place is =
    let e : suc (extent k nodes + q) ≡ place = cc in
    (q, refl, ap (λ p. drop p (node ∷ nodes)) (sym e) ∙ sym (drop-drop q (extent k nodes) nodes))

-- a place is one of a term, before others
place_terms : (path : List ℕ) (nodes : List Node) (k place : ℕ) → AreTerms (suc k) nodes → place_at path nodes ≡ Some place → (m : ℕ) × AreTerms (suc m) (drop place nodes)
place_terms [] nodes k place are is = let e : 0 ≡ place = cc in (k, subst (λ p. AreTerms (suc k) (drop p nodes)) e are)
place_terms (j ∷ path) [] k place are is = absurd are
place_terms (j ∷ path) (node ∷ nodes) k place are is =
    ⊎_elim
    (λ below.
    let less : j < sources_of node.kind = ltb-true j (sources_of node.kind) below.0 in
    let e : sources_of node.kind + k ≡ j + suc (sources_of node.kind - suc j + k) = omega (arith, less) in
    let parts = terms_split j (suc (sources_of node.kind - suc j + k)) nodes (subst (λ n. AreTerms n nodes) e are) in
    let more = place_more j node nodes (place_at path (drop (extent j nodes) nodes)) place below.1 in
    let found = place_terms path (drop (extent j nodes) nodes) (sources_of node.kind - suc j + k) more.0 parts.1 more.1 in
    (found.0, subst (AreTerms (suc found.0)) (sym more.2) found.1))
    (λ past. absurd (let never = past.1 in cc))
    (chosen (nat_lt j (sources_of node.kind)) _ None (Some place) is)

-- ---- one list of terms for another

same_count : (j k : ℕ) (nodes : List Node) → AreTerms j nodes → AreTerms k nodes → j ≡ k
same_count zero zero nodes are too = refl
same_count zero (suc k) [] are too = absurd too
same_count zero (suc k) (node ∷ nodes) are too = absurd are
same_count (suc j) zero [] are too = absurd are
same_count (suc j) zero (node ∷ nodes) are too = absurd too
same_count (suc j) (suc k) [] are too = absurd are
same_count (suc j) (suc k) (node ∷ nodes) are too =
    let e = same_count (sources_of node.kind + j) (sources_of node.kind + k) nodes are too in
    omega (arith, e)

swapped : (k m : ℕ) (front a b : List Node) → AreTerms m a → AreTerms m b → AreTerms k (front ++ a) → AreTerms k (front ++ b)
swapped k m [] a b own other are = subst (λ n. AreTerms n b) (same_count m k a own are) other
swapped zero m (node ∷ front) a b own other are = absurd are
swapped (suc k) m (node ∷ front) a b own other are = swapped (sources_of node.kind + k) m front a b own other are

-- the part at the end of a path is a term of the rule where the whole is
pub part_stands : (at : Setting) (nodes : List Node) (path : List ℕ) (place : ℕ) → IsTermAt at nodes → place_at path nodes ≡ Some place → IsTermAt at (first_term (drop place nodes))
part_stands at nodes path place stands is =
    let behind : List Node = drop place nodes in
    let found = place_terms path nodes 0 place stands.one is in
    let e : suc found.0 ≡ 1 + found.0 = omega arith in
    let parts = terms_split 1 found.0 behind (subst (λ n. AreTerms n behind) e found.1) in
    record {
      one = parts.0;
      stand = all_take (NodeStands at) (extent 1 behind) behind (all_drop (NodeStands at) place nodes stands.stand);
      fit = fit_take (extent 1 behind) 1 behind parts.0 (fit_drop place nodes stands.fit);
    }

module _ (at : Setting) (nodes : List Node) (stands : IsTermAt at nodes) (path : List ℕ) where
  -- a part in the place of another of its size and value
  put_keeps : (place : ℕ) (part : List Node) → place_at path nodes ≡ Some place → (IsTermAt at (first_term (drop place nodes)) → Keeps at (first_term (drop place nodes)) part)
      → Keeps at nodes (take place nodes ++ (part ++ behind_first (drop place nodes)))
  put_keeps place part is keeps =
      let behind : List Node = drop place nodes in
      let found = place_terms path nodes 0 place stands.one is in
      let e : suc found.0 ≡ 1 + found.0 = omega arith in
      let parts = terms_split 1 found.0 behind (subst (λ n. AreTerms n behind) e found.1) in
      let standing = all_drop (NodeStands at) place nodes stands.stand in
      let fitting = fit_drop place nodes stands.fit in
      let first : IsTermAt at (first_term behind) = part_stands at nodes path place stands is in
      let kept = keeps first in
      let rest : List Node = behind_first behind in
      let whole : nodes ≡ take place nodes ++ (first_term behind ++ rest) =
      sym (take-append-drop place nodes) ∙ ap (λ b. take place nodes ++ b) (sym (take-append-drop (extent 1 behind) behind)) in
      let new_terms = terms_append 1 found.0 part rest kept.stands.one parts.1 in
      let old_terms = terms_append 1 found.0 (first_term behind) rest parts.0 parts.1 in
      let sizes : roots (part ++ rest) ≡ roots (first_term behind ++ rest) =
      roots_append 1 part rest kept.stands.one ∙ ap (λ r. r ++ roots rest) kept.sizes ∙ sym (roots_append 1 (first_term behind) rest parts.0) in
      record {
        stands = record {
          one = swapped 1 (1 + found.0) (take place nodes) (first_term behind ++ rest) (part ++ rest) old_terms new_terms (subst (AreTerms 1) whole stands.one);
          stand = all_append (NodeStands at) (take place nodes) (part ++ rest) (all_take (NodeStands at) place nodes stands.stand)
              (all_append (NodeStands at) part rest kept.stands.stand (all_drop (NodeStands at) (extent 1 behind) behind standing));
          fit = fit_behind (take place nodes) (first_term behind ++ rest) (part ++ rest) (sym sizes) (subst (λ n. nodes_fit n ≡ true) whole stands.fit)
              (fit_append 1 part rest kept.stands.one kept.stands.fit (fit_drop (extent 1 behind) behind fitting));
        };
        sizes = roots_behind (take place nodes) (part ++ rest) (first_term behind ++ rest) sizes ∙ ap roots (sym whole);
        same = λ words are.
            values_behind words (take place nodes) (part ++ rest) (first_term behind ++ rest) sizes
            (values_append words 1 part rest kept.stands.one ∙ ap (λ v. v ++ values rest words) (kept.same words are)
            ∙ sym (values_append words 1 (first_term behind) rest parts.0))
            ∙ ap (λ n. values n words) (sym whole);
      }

  put_made : (place : ℕ) (made : Result (List Node) StepFault) (next : List Node) → place_at path nodes ≡ Some place
      → ((part : List Node) → made ≡ Ok part → IsTermAt at (first_term (drop place nodes)) → Keeps at (first_term (drop place nodes)) part)
      → put_at place nodes made ≡ Ok next → Keeps at nodes next
  put_made place (Err fault) next is keeps put = absurd cc
  put_made place (Ok part) next is keeps put =
      let e : take place nodes ++ (part ++ behind_first (drop place nodes)) ≡ next = cc in
      subst (Keeps at nodes) e (put_keeps place part is (keeps part refl))

  -- what keeps the size and value of each term does so of a part
  pub path_keeps : (make : List Node → Result (List Node) StepFault) (next : List Node)
      → ((term part : List Node) → IsTermAt at term → make term ≡ Ok part → Keeps at term part)
      → (own : Option ℕ) → place_at path nodes ≡ own → at_path nodes own make ≡ Ok next → Keeps at nodes next
  path_keeps make next keeps None is made = absurd cc
  path_keeps make next keeps (Some place) is made =
      put_made place (make (first_term (drop place nodes))) next is (λ part e first. keeps (first_term (drop place nodes)) part first e) made

-- ---- calculations

no_other : (b c : Bool) → (b || c) ≡ false → (b ≡ false) × (c ≡ false)
no_other true c is = absurd cc
no_other false c is = (refl, is)

kind_value : (width : Width) (kind : Kind) (sizes : List Width) (words behind : List ℕ) → is_var kind ≡ false → with_value width kind sizes words behind ≡ with_value width kind sizes [] behind
kind_value width (App op) sizes words behind is = refl
kind_value width (Var var) sizes words behind is = absurd cc
kind_value width (Lit word) sizes words behind is = refl

-- without variables words play no part
fixed_value : (words : List ℕ) (nodes : List Node) → has_var nodes ≡ false → values nodes words ≡ values nodes []
fixed_value words [] none = refl
fixed_value words (node ∷ nodes) none =
    let both = no_other (is_var node.kind) (has_var nodes) none in
    ap (with_value node.width node.kind (roots nodes) words) (fixed_value words nodes both.1) ∙ kind_value node.width node.kind (roots nodes) words (values nodes []) both.0

one_size : (list : List Width) → length list ≡ 1 → (width : Width) × (list ≡ width ∷ [])
one_size [] is = absurd cc
one_size (width ∷ []) is = (width, refl)
one_size (width ∷ other ∷ list) is = absurd (omega (arith, is))

calc_made : (at : Setting) (terms : Terms) (term part : List Node) (made : Option (List Node)) → IsTermAt at term → expr_nodes at (size_of_expr (Some term)) terms ≡ made
    → calculated term made ≡ Ok part → Keeps at term part
calc_made at terms term part None stands is made = absurd cc
calc_made at terms term part (Some nodes) stands is made =
    ⊎_elim
    (λ yes.
    let e : nodes ≡ part = cc in
    let fixed = and_parts (not (has_var term)) (not (has_var nodes) && pointwise nat_eq (values term []) (values nodes [])) yes.0 in
    let equal = and_parts (not (has_var nodes)) (pointwise nat_eq (values term []) (values nodes [])) fixed.1 in
    let same : values term [] ≡ values nodes [] = (bytes_decides (values term []) (values nodes [])).0 equal.1 in
    let expr = expr_is at (size_of_expr (Some term)) terms nodes is in
    let size = one_size (roots term) (count_roots 1 term stands.one) in
    let sized : size.0 ≡ expr.width = same_width-same size.0 expr.width (ap (λ r. is_size (size_of_nodes term r) expr.width) (sym size.1) ∙ expr.asked) in
    subst (Keeps at term) e (record {
      stands = expr.term;
      sizes = expr.sized ∙ ap (λ w. w ∷ []) (sym sized) ∙ sym size.1;
      same = λ words are. fixed_value words nodes (not-true (has_var nodes) equal.0) ∙ sym same ∙ sym (fixed_value words term (not-true (has_var term) fixed.0));
    }))
    (λ no. absurd (let never = no.1 in cc))
    (chosen (not (has_var term) && (not (has_var nodes) && pointwise nat_eq (values term []) (values nodes []))) (Ok nodes) (Err _) (Ok part) made)

-- ---- steps

law_known : (list : List Law) (k : ℕ) (law : Law) → AllByRecursion IsLaw list → slice_get list k ≡ Some law → IsLaw law
law_known [] k law all is = absurd cc
law_known (first ∷ list) zero law all is = let e : first ≡ law = cc in subst IsLaw e all.0
law_known (first ∷ list) (suc k) law all is = law_known list k law all.1 is

record IsLawAt (law : Law) : Type 0 where
  holds : IsLaw law
  fits : law_fits law ≡ true

numbered : (number : ℕ) (law : Law) → law_numbered number ≡ Some law → IsLawAt law
numbered zero law is = absurd cc
numbered (suc k) law is = record { holds = law_known laws k law laws_hold is; fits = passes_at law_fits laws k law laws_fit is }

law_made : (at : Setting) (nodes next : List Node) → IsTermAt at nodes → (own : Option Law) → ((law : Law) → own ≡ Some law → IsLawAt law) → (path : List ℕ) (rev : Bool)
    → (bindings : List Binding) → law_step at own path rev bindings nodes ≡ Ok next → Keeps at nodes next
law_made at nodes next stands None known path rev bindings made = absurd cc
law_made at nodes next stands (Some law) known path rev bindings made =
    let is = known law refl in
    path_keeps at nodes stands path (by_law at law rev bindings) next
    (λ term part first e. by_law_keeps at law is.holds is.fits rev bindings term part first e)
    (place_at path nodes) refl made

pub step_keeps : (at : Setting) (step : Step) (nodes next : List Node) → IsTermAt at nodes → step_made at step nodes ≡ Ok next → Keeps at nodes next
unfolding step_made
step_keeps at (Apply law path rev bindings) nodes next stands made =
    law_made at nodes next stands (law_numbered law) (λ own is. numbered law own is) path rev bindings made
step_keeps at (Calc path with) nodes next stands made =
    path_keeps at nodes stands path (by_calc at with) next
    (λ term part first e. calc_made at with term part (expr_nodes at (size_of_expr (Some term)) with) first refl e)
    (place_at path nodes) refl made
