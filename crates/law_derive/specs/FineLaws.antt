-- Each letter that matching or a binding fills stands for one term of its own size.
use Rattle.std.proofs.Common.{◌≡◌, ◌+◌, ℕ, zero, suc, true, List, [], ◌∷◌, Option, Some, None, refl, sym, ap, ◌∙◌, subst, arith, ⊎_elim}
use Rattle.std.specs.Prelude.{◌&&◌, nat_eq, nat_lt, is_none}
use Rattle.std.specs.List.{AllByRecursion}
use Rattle.std.proofs.lemmas.Bool.{and_parts, cases_Bool, eqb-true}
use Rattle.list_laws.specs.BoolLaws.{chosen}
use Rattle.nir_ops.specs.declared.width.Width.{Width}
use Rattle.op_eval.specs.Calls.{same_width}
use Rattle.op_eval.specs.Sizes.{same_width-same}
use Rattle.rule_term.specs.Terms.{Terms}
use Rattle.rule_spelling.specs.Files.{Binding}
use Rattle.law_derive.specs.declared.node.Kind.{Kind}
use Rattle.law_derive.specs.declared.node.Kind.TheVariants.{App, Var, Lit}
use Rattle.law_derive.specs.declared.node.Node.{Node}
use Rattle.law_derive.specs.Derivations.{Setting, bound, bound_letter, bound_others, expr_nodes, has_letter, letter_named, letter_size, with_letter}
use Rattle.law_derive.specs.Fit.{nodes_fit}
use Rattle.law_derive.specs.FitLaws.{fit_drop, fit_take}
use Rattle.law_derive.specs.LawTable.{Law}
use Rattle.law_derive.specs.Matching.{Filling, found, match_kind, match_side, taken}
use Rattle.law_derive.specs.MatchingLaws.{Extends, first_root, other_letter, some_is, terms_behind, then_is}
use Rattle.law_derive.specs.Nodes.{AreTerms, behind_first, extent, first_term, roots, same_node, same_nodes, sources_of}
use Rattle.law_derive.specs.NodesLaws.{terms_split}
use Rattle.law_derive.specs.SameLaws.{node_equal}
use Rattle.law_derive.specs.SidesLaws.{part_fits}
use Rattle.law_derive.specs.StandingLaws.{IsTermAt, NodeStands, all_drop, all_take, expr_is}

-- one term of the size of the letter
pub record StandsAt (at : Setting) (width : Width) (letter : ℕ) (term : List Node) : Type 0 where
  pub stands : IsTermAt at term
  pub sized : roots term ≡ letter_size width letter ∷ []

abbrev pub Fine : Setting → Width → Filling → Type 0
Fine at width filling = (letter : ℕ) (term : List Node) → found letter filling ≡ Some term → StandsAt at width letter term

pub none_fine : (at : Setting) (width : Width) → Fine at width []
none_fine at width letter term is = absurd cc

-- one more letter
one_more : (at : Setting) (width : Width) (letter : ℕ) (term : List Node) (filling : Filling) → StandsAt at width letter term → Fine at width filling
    → Fine at width ((letter, term) ∷ filling)
one_more at width letter term filling stands fine other own is =
    ⊎_elim
    (λ same.
    let e : letter ≡ other = eqb-true letter other same in
    let own_is : Some term ≡ Some own = sym (rw same refl) ∙ is in
    let f : term ≡ own = cc in
    subst (λ t. StandsAt at width other t) f (subst (λ l. StandsAt at width l term) e stands))
    (λ apart. fine other own (sym (rw apart refl) ∙ is))
    (cases_Bool (nat_eq letter other))

-- ---- matching

abbrev pub AreFitting : Width → List Node → Type 0
AreFitting width side = AllByRecursion (λ (part : Node). part_fits width part.kind part.width ≡ true) side

taken_fine : (at : Setting) (width : Width) (letter : ℕ) (term : List Node) (filling more : Filling) (own : Option (List Node)) → StandsAt at width letter term
    → Fine at width filling → taken letter term filling own ≡ Some more → Fine at width more
taken_fine at width letter term filling more None stands fine is =
    subst (Fine at width) (some_is ((letter, term) ∷ filling) more is) (one_more at width letter term filling stands fine)
taken_fine at width letter term filling more (Some own) stands fine is =
    ⊎_elim (λ same. subst (Fine at width) (some_is filling more same.1) fine) (λ apart. absurd (let never = apart.1 in cc))
    (chosen (same_nodes own term) (Some filling) None (Some more) is)

module _ (at : Setting) (width : Width) (more : Filling) where
  -- what is known behind the first node
  abbrev FineBehind : List Node → ℕ → Type 0
  FineBehind side others =
      (k : ℕ) (nodes : List Node) (filling : Filling) → AreTerms k side → AreTerms (k + others) nodes → AllByRecursion (NodeStands at) nodes → nodes_fit nodes ≡ true
      → Fine at width filling → match_side side nodes filling ≡ Some more → Fine at width more

  fine_step : (part node : Node) (side : List Node) (k others : ℕ) (nodes : List Node) (filling : Filling) → FineBehind side others
      → (kind : Kind) → part.kind ≡ kind → part_fits width kind part.width ≡ true → AreTerms (sources_of kind + k) side → AreTerms (suc k + others) (node ∷ nodes)
      → AllByRecursion (NodeStands at) (node ∷ nodes) → nodes_fit (node ∷ nodes) ≡ true → Fine at width filling
      → match_kind kind part node nodes filling (match_side side) ≡ Some more → Fine at width more
  fine_step part node side k others nodes filling behind (App op) is fits own are stand fit fine matched =
      ⊎_elim
      (λ same.
      let equal : part ≡ node = node_equal part node same.0 in
      let kind : node.kind ≡ App op = sym (ap (λ (n : Node). n.kind) equal) ∙ is in
      behind (sources_of (App op) + k) nodes filling own (terms_behind (App op) k others node nodes kind are) stand.1
      (fit_drop 1 (node ∷ nodes) fit) fine same.1)
      (λ apart. absurd (let never = apart.1 in cc))
      (chosen (same_node part node) (match_side side nodes filling) None (Some more) matched)
  fine_step part node side k others nodes filling behind (Lit word) is fits own are stand fit fine matched =
      ⊎_elim
      (λ same.
      let equal : part ≡ node = node_equal part node same.0 in
      let kind : node.kind ≡ Lit word = sym (ap (λ (n : Node). n.kind) equal) ∙ is in
      behind (sources_of (Lit word) + k) nodes filling own (terms_behind (Lit word) k others node nodes kind are) stand.1
      (fit_drop 1 (node ∷ nodes) fit) fine same.1)
      (λ apart. absurd (let never = apart.1 in cc))
      (chosen (same_node part node) (match_side side nodes filling) None (Some more) matched)
  fine_step part node side k others nodes filling behind (Var letter) is fits own are stand fit fine matched =
      ⊎_elim
      (λ same.
      let sized : part.width ≡ node.width = same_width-same part.width node.width same.0 in
      let letter_sized = same_width-same part.width (letter_size width letter) (and_parts (nat_lt letter 5) (same_width part.width (letter_size width letter)) fits).1 in
      let term : List Node = first_term (node ∷ nodes) in
      let found_some = then_is (taken letter term filling (found letter filling)) (match_side side (behind_first (node ∷ nodes))) more same.1 in
      let e : suc k + others ≡ 1 + (k + others) = omega arith in
      let g : sources_of (Var letter) + k ≡ k = omega arith in
      let parts = terms_split 1 (k + others) (node ∷ nodes) (subst (λ n. AreTerms n (node ∷ nodes)) e are) in
      let stands : StandsAt at width letter term = record {
        stands = record {
          one = parts.0;
          stand = all_take (NodeStands at) (extent 1 (node ∷ nodes)) (node ∷ nodes) stand;
          fit = fit_take (extent 1 (node ∷ nodes)) 1 (node ∷ nodes) parts.0 fit;
        };
        sized = first_root node nodes parts.0 ∙ ap (λ w. w ∷ []) (sym sized ∙ letter_sized);
      } in
      behind k (behind_first (node ∷ nodes)) found_some.0 (subst (λ n. AreTerms n side) g own) parts.1
      (all_drop (NodeStands at) (extent 1 (node ∷ nodes)) (node ∷ nodes) stand) (fit_drop (extent 1 (node ∷ nodes)) (node ∷ nodes) fit)
      (taken_fine at width letter term filling found_some.0 (found letter filling) stands fine found_some.1) found_some.2)
      (λ apart. absurd (let never = apart.1 in cc))
      (chosen (same_width part.width node.width) _ None (Some more) matched)

  pub match_fine : (side : List Node) → AreFitting width side → (others : ℕ) → FineBehind side others
  match_fine [] fitting others zero nodes filling own are stand fit fine is = subst (Fine at width) (some_is filling more is) fine
  match_fine [] fitting others (suc k) nodes filling own are stand fit fine is = absurd own
  match_fine (part ∷ side) fitting others zero nodes filling own are stand fit fine is = absurd own
  match_fine (part ∷ side) fitting others (suc k) [] filling own are stand fit fine is = absurd cc
  match_fine (part ∷ side) fitting others (suc k) (node ∷ nodes) filling own are stand fit fine is =
      fine_step part node side k others nodes filling (match_fine side fitting.1 others) part.kind refl fitting.0 own are stand fit fine is

-- ---- bindings

more_is : (o : Option Filling) (others : Filling → Option Filling) (more : Filling) → bound_others o others ≡ Some more
    → (filling : Filling) × (o ≡ Some filling) × (others filling ≡ Some more)
more_is None others more is = absurd cc
more_is (Some filling) others more is = (filling, refl, is)

-- a filling that has more, and is as fine
pub record Grows (at : Setting) (width : Width) (filling more : Filling) : Type 0 where
  pub fine : Fine at width more
  pub extends : Extends filling more

none_is : (o : Option (List Node)) → is_none o ≡ true → o ≡ None
none_is None is = refl
none_is (Some x) is = cc

letter_grows : (at : Setting) (width : Width) (letter : ℕ) (filling more : Filling) (terms : Terms) (made : Option (List Node)) → found letter filling ≡ None
    → expr_nodes at (Some (letter_size width letter)) terms ≡ made → with_letter letter made filling ≡ Some more → Fine at width filling → Grows at width filling more
letter_grows at width letter filling more terms None free made is fine = absurd cc
letter_grows at width letter filling more terms (Some term) free made is fine =
    let expr = expr_is at (Some (letter_size width letter)) terms term made in
    let asked : letter_size width letter ≡ expr.width = same_width-same (letter_size width letter) expr.width expr.asked in
    let stands : StandsAt at width letter term = record { stands = expr.term; sized = expr.sized ∙ ap (λ w. w ∷ []) (sym asked) } in
    subst (Grows at width filling) (some_is ((letter, term) ∷ filling) more is) (record {
      fine = one_more at width letter term filling stands fine;
      extends = λ other own e. other_letter letter other term own filling free e;
    })

binding_grows : (at : Setting) (law : Law) (width : Width) (letter : Option ℕ) (terms : Terms) (filling more : Filling) → bound_letter at law width letter terms filling ≡ Some more
    → Fine at width filling → Grows at width filling more
binding_grows at law width None terms filling more is fine = absurd cc
binding_grows at law width (Some letter) terms filling more is fine =
    ⊎_elim
    (λ may.
    let free = none_is (found letter filling) (and_parts (has_letter law letter) (is_none (found letter filling)) may.0).1 in
    letter_grows at width letter filling more terms (expr_nodes at (Some (letter_size width letter)) terms) free refl may.1 fine)
    (λ not_may. absurd (let never = not_may.1 in cc))
    (chosen (has_letter law letter && is_none (found letter filling)) _ None (Some more) is)

pub bound_grows : (at : Setting) (law : Law) (width : Width) (bindings : List Binding) (filling more : Filling) → bound at law width bindings filling ≡ Some more
    → Fine at width filling → Grows at width filling more
bound_grows at law width [] filling more is fine = subst (Grows at width filling) (some_is filling more is) (record { fine = fine; extends = λ letter term e. e })
bound_grows at law width (binding ∷ bindings) filling more is fine =
    let first = more_is (bound_letter at law width (letter_named binding.name) binding.with filling) (bound at law width bindings) more is in
    let one = binding_grows at law width (letter_named binding.name) binding.with filling first.0 first.1 fine in
    let others = bound_grows at law width bindings first.0 more first.2 one.fine in
    record { fine = others.fine; extends = λ letter term e. others.extends letter term (one.extends letter term e) }
