-- A side that matches a term is the term, with the parts that its letters take; and a side with terms for its letters has the value that it has with their values.
use Rattle.std.proofs.Common.{◌≡◌, ◌+◌, ℕ, zero, suc, true, List, [], ◌∷◌, ◌++◌, Option, Some, None, take, drop, length, refl, sym, ap, ◌∙◌, subst, arith, append_assoc, ⊎_elim}
use Rattle.std.specs.Prelude.{nat_eq}
use Rattle.std.specs.List.{AllByRecursion, slice_index_or}
use Rattle.std.specs.Option.{unwrap_or}
use Rattle.std.proofs.lemmas.Bool.{eqb-true, cases_Bool, eq-eqb}
use Rattle.std.proofs.lemmas.List.{take-append-drop}
use Rattle.list_laws.specs.BoolLaws.{chosen}
use Rattle.nir_ops.specs.declared.op.Op.{Op}
use Rattle.nir_ops.specs.declared.width.Width.{Width}
use Rattle.op_eval.specs.Calls.{same_width}
use Rattle.op_eval.specs.Sizes.{same_width-same}
use Rattle.law_derive.specs.declared.node.Kind.{Kind}
use Rattle.law_derive.specs.declared.node.Kind.TheVariants.{App, Var, Lit}
use Rattle.law_derive.specs.declared.node.Node.{Node}
use Rattle.law_derive.specs.Matching.{Filling, filled, filled_part, found, match_kind, match_side, taken, and_then}
use Rattle.law_derive.specs.Nodes.{AreTerms, behind_first, extent, first_term, roots, arity, same_node, same_nodes, sources_of, values, with_root, with_value}
use Rattle.law_derive.specs.NodesLaws.{count_roots, roots_append, terms_append, terms_split, values_append}
use Rattle.law_derive.specs.SameLaws.{node_equal, nodes_equal}

none_left : (list : List Width) → length list ≡ 0 → list ≡ []
none_left [] is = refl
none_left (width ∷ list) is = absurd (omega (arith, is))

abbrev pub some_of : {A : Type 0} → A → Option A
some_of a = Some a

one_root : (width : Width) (kind : Kind) (behind : List Width) → length (with_root width kind behind) ≡ 1 → with_root width kind behind ≡ width ∷ []
one_root width (App op) behind is = ap (λ list. width ∷ list) (none_left (drop (arity op) behind) (omega (arith, is)))
one_root width (Var var) behind is = ap (λ list. width ∷ list) (none_left behind (omega (arith, is)))
one_root width (Lit word) behind is = ap (λ list. width ∷ list) (none_left behind (omega (arith, is)))

-- a letter stands for one term of this size
pub record StandsFor (filling : Filling) (letter : ℕ) (width : Width) : Type 0 where
  pub term : List Node
  pub is : found letter filling ≡ Some term
  pub one : AreTerms 1 term
  pub sized : roots term ≡ width ∷ []

abbrev pub LetterStands : Filling → Kind → Width → Type 0
LetterStands filling (Var letter) width = StandsFor filling letter width
LetterStands filling (App op) width = Unit {0}
LetterStands filling (Lit word) width = Unit {0}

-- the size of a term is that of its first node
pub first_root : (node : Node) (nodes : List Node) → AreTerms 1 (first_term (node ∷ nodes)) → roots (first_term (node ∷ nodes)) ≡ node.width ∷ []
first_root node nodes one =
    let t : List Node = take (extent (sources_of node.kind + 0) nodes) nodes in
    one_root node.width node.kind (roots t) (count_roots 1 (node ∷ t) one)

-- each letter of a side stands for one term of its size
abbrev pub LettersStand : Filling → List Node → Type 0
LettersStand filling side = AllByRecursion (λ (part : Node). LetterStands filling part.kind part.width) side

-- ---- what a letter stands for stays

abbrev pub Extends : Filling → Filling → Type 0
Extends filling more = (letter : ℕ) (term : List Node) → found letter filling ≡ Some term → found letter more ≡ Some term

pub other_letter : (letter other : ℕ) (term own : List Node) (filling : Filling) → found letter filling ≡ None → found other filling ≡ Some own
    → found other ((letter, term) ∷ filling) ≡ Some own
other_letter letter other term own filling none is =
    ⊎_elim
    (λ same. absurd (let e : letter ≡ other = eqb-true letter other same in let f : found letter filling ≡ Some own = ap (λ l. found l filling) e ∙ is in cc))
    (λ apart. rw apart is)
    (cases_Bool (nat_eq letter other))

own_letter : (letter : ℕ) (term : List Node) (filling : Filling) → found letter ((letter, term) ∷ filling) ≡ Some term
own_letter letter term filling = let e : nat_eq letter letter ≡ true = eq-eqb letter letter refl in rw e refl

pub some_is : {A : Type 0} (a b : A) → some_of a ≡ some_of b → a ≡ b
some_is a b e = cc

-- a letter that takes a term stands for it
taken_is : (letter : ℕ) (term : List Node) (filling more : Filling) (own : Option (List Node)) → found letter filling ≡ own → taken letter term filling own ≡ Some more
    → (found letter more ≡ Some term) × Extends filling more
taken_is letter term filling more None none is =
    subst (λ f. (found letter f ≡ Some term) × Extends filling f) (some_is ((letter, term) ∷ filling) more is)
    (own_letter letter term filling, λ other own e. other_letter letter other term own filling none e)
taken_is letter term filling more (Some own) has is =
    ⊎_elim
    (λ same. subst (λ f. (found letter f ≡ Some term) × Extends filling f) (some_is filling more same.1)
    (has ∙ ap (λ t. some_of t) (nodes_equal own term same.0), λ other own e. e))
    (λ apart. absurd (let never = apart.1 in cc))
    (chosen (same_nodes own term) (Some filling) None (Some more) is)

-- ---- matching

-- a side that matched so many terms before others
pub record Matched (filling more : Filling) (side : List Node) (others : ℕ) (nodes : List Node) : Type 0 where
  pub rest : List Node
  pub whole : nodes ≡ filled more side ++ rest
  pub terms : AreTerms others rest
  pub extends : Extends filling more
  pub letters : LettersStand more side

pub then_is : (o : Option Filling) (others : Filling → Option Filling) (more : Filling) → and_then o others ≡ Some more
    → (filling : Filling) × (o ≡ Some filling) × (others filling ≡ Some more)
then_is None others more is = absurd cc
then_is (Some filling) others more is = (filling, refl, is)

-- the first node is the same
same_first : (filling more : Filling) (part : Node) (side : List Node) (others : ℕ) (node : Node) (nodes : List Node) → part ≡ node
    → (filled_part more part.kind part ≡ part ∷ []) → LetterStands more part.kind part.width → Matched filling more side others nodes
    → Matched filling more (part ∷ side) others (node ∷ nodes)
same_first filling more part side others node nodes same alone stands matched = record {
  rest = matched.rest;
  whole = ap (λ n. n ∷ nodes) (sym same) ∙ ap (λ list. part ∷ list) matched.whole ∙ ap (λ list. list ++ (filled more side ++ matched.rest)) (sym alone)
      ∙ sym (append_assoc (filled_part more part.kind part) (filled more side) matched.rest);
  terms = matched.terms;
  extends = matched.extends;
  letters = (stands, matched.letters);
}

-- the first node is a letter
letter_first : (filling some more : Filling) (letter : ℕ) (width : Width) (side : List Node) (others k : ℕ) (node : Node) (nodes : List Node) → width ≡ node.width
    → (found letter some ≡ Some (first_term (node ∷ nodes))) → Extends filling some → AreTerms (suc k) (node ∷ nodes)
    → Matched some more side others (behind_first (node ∷ nodes)) → Matched filling more (record { kind = Var letter; width = width } ∷ side) others (node ∷ nodes)
letter_first filling some more letter width side others k node nodes sized is extends are matched =
    let e : suc k ≡ 1 + k = omega arith in
    let parts = terms_split 1 k (node ∷ nodes) (subst (λ n. AreTerms n (node ∷ nodes)) e are) in
    let own : found letter more ≡ Some (first_term (node ∷ nodes)) = matched.extends letter (first_term (node ∷ nodes)) is in
    record {
      rest = matched.rest;
      whole = sym (take-append-drop (extent 1 (node ∷ nodes)) (node ∷ nodes)) ∙ ap (λ list. first_term (node ∷ nodes) ++ list) matched.whole
          ∙ sym (append_assoc (first_term (node ∷ nodes)) (filled more side) matched.rest)
          ∙ ap (λ (o : Option (List Node)). (unwrap_or o [] ++ filled more side) ++ matched.rest) (sym own);
      terms = matched.terms;
      extends = λ other term e. matched.extends other term (extends other term e);
      letters = (
        record {
          term = first_term (node ∷ nodes);
          is = own;
          one = parts.0;
          sized = first_root node nodes (parts.0) ∙ ap (λ w. w ∷ []) (sym sized);
        },
        matched.letters,
      );
    }

abbrev node_at : Kind → Width → Node
node_at kind width = record { kind = kind; width = width }

-- what is known of the nodes behind the first
abbrev Behind : Filling → List Node → ℕ → Type 0
Behind more side others =
    (k : ℕ) (nodes : List Node) (filling : Filling) → AreTerms k side → AreTerms (k + others) nodes → match_side side nodes filling ≡ Some more
    → Matched filling more side others nodes

pub terms_behind : (kind : Kind) (k others : ℕ) (node : Node) (nodes : List Node) → node.kind ≡ kind → AreTerms (suc k + others) (node ∷ nodes)
    → AreTerms (sources_of kind + k + others) nodes
terms_behind kind k others node nodes is are =
    let e : suc k + others ≡ suc (k + others) = omega arith in
    let f : sources_of node.kind + (k + others) ≡ sources_of node.kind + k + others = omega arith in
    subst (λ x. AreTerms (sources_of x + k + others) nodes) is
    (subst (λ n. AreTerms n nodes) f (subst (λ n. AreTerms n (node ∷ nodes)) e are))

alone_app : (more : Filling) (op : Op) (part : Node) → part.kind ≡ App op → (filled_part more part.kind part ≡ part ∷ []) × LetterStands more part.kind part.width
alone_app more op part is = subst (λ kind. (filled_part more kind part ≡ part ∷ []) × LetterStands more kind part.width) (sym is) (refl, tt)

alone_lit : (more : Filling) (word : ℕ) (part : Node) → part.kind ≡ Lit word → (filled_part more part.kind part ≡ part ∷ []) × LetterStands more part.kind part.width
alone_lit more word part is = subst (λ kind. (filled_part more kind part ≡ part ∷ []) × LetterStands more kind part.width) (sym is) (refl, tt)

match_step : (part node : Node) (side : List Node) (k others : ℕ) (nodes : List Node) (filling more : Filling) → Behind more side others
    → (kind : Kind) → part.kind ≡ kind → AreTerms (sources_of kind + k) side → AreTerms (suc k + others) (node ∷ nodes)
    → match_kind kind part node nodes filling (match_side side) ≡ Some more → Matched filling more (part ∷ side) others (node ∷ nodes)
match_step part node side k others nodes filling more behind (App op) is own are matched =
    ⊎_elim
    (λ same.
    let equal : part ≡ node = node_equal part node same.0 in
    let kind : node.kind ≡ App op = sym (ap (λ (n : Node). n.kind) equal) ∙ is in
    let alone = alone_app more op part is in
    same_first filling more part side others node nodes equal alone.0 alone.1
    (behind (sources_of (App op) + k) nodes filling own (terms_behind (App op) k others node nodes kind are) same.1))
    (λ apart. absurd (let never = apart.1 in cc))
    (chosen (same_node part node) (match_side side nodes filling) None (Some more) matched)
match_step part node side k others nodes filling more behind (Lit word) is own are matched =
    ⊎_elim
    (λ same.
    let equal : part ≡ node = node_equal part node same.0 in
    let kind : node.kind ≡ Lit word = sym (ap (λ (n : Node). n.kind) equal) ∙ is in
    let alone = alone_lit more word part is in
    same_first filling more part side others node nodes equal alone.0 alone.1
    (behind (sources_of (Lit word) + k) nodes filling own (terms_behind (Lit word) k others node nodes kind are) same.1))
    (λ apart. absurd (let never = apart.1 in cc))
    (chosen (same_node part node) (match_side side nodes filling) None (Some more) matched)
match_step part node side k others nodes filling more behind (Var letter) is own are matched =
    ⊎_elim
    (λ same.
    let sized : part.width ≡ node.width = same_width-same part.width node.width same.0 in
    let term : List Node = first_term (node ∷ nodes) in
    let found_some = then_is (taken letter term filling (found letter filling)) (match_side side (behind_first (node ∷ nodes))) more same.1 in
    let takes = taken_is letter term filling found_some.0 (found letter filling) refl found_some.1 in
    let e : suc k + others ≡ 1 + (k + others) = omega arith in
    let f : suc k + others ≡ suc (k + others) = omega arith in
    let g : sources_of (Var letter) + k ≡ k = omega arith in
    let parts = terms_split 1 (k + others) (node ∷ nodes) (subst (λ n. AreTerms n (node ∷ nodes)) e are) in
    let whole : part ≡ node_at (Var letter) part.width = λ i. node_at (is i) part.width in
    subst (λ p. Matched filling more (p ∷ side) others (node ∷ nodes)) (sym whole)
    (letter_first filling found_some.0 more letter part.width side others (k + others) node nodes sized takes.0 takes.1
    (subst (λ n. AreTerms n (node ∷ nodes)) f are)
    (behind k (behind_first (node ∷ nodes)) found_some.0 (subst (λ n. AreTerms n side) g own) parts.1 found_some.2)))
    (λ apart. absurd (let never = apart.1 in cc))
    (chosen (same_width part.width node.width) _ None (Some more) matched)

pub match_sound : (side : List Node) (more : Filling) (others : ℕ) → Behind more side others
match_sound [] more others zero nodes filling own are is =
    let e : 0 + others ≡ others = omega arith in
    record {
      rest = nodes;
      whole = refl;
      terms = subst (λ n. AreTerms n nodes) e are;
      extends = λ letter term has. subst (λ f. found letter f ≡ Some term) (some_is filling more is) has;
      letters = tt;
    }
match_sound [] more others (suc k) nodes filling own are is = absurd own
match_sound (part ∷ side) more others zero nodes filling own are is = absurd own
match_sound (part ∷ side) more others (suc k) [] filling own are is = absurd cc
match_sound (part ∷ side) more others (suc k) (node ∷ nodes) filling own are is =
    match_step part node side k others nodes filling more (match_sound side more others) part.kind refl own are is

-- ---- the value of a side with terms for its letters

-- the letters of a side have the values of the terms that they stand for
abbrev pub LetterValued : List ℕ → List ℕ → Filling → Kind → Type 0
LetterValued words letters filling (Var letter) = (term : List Node) → found letter filling ≡ Some term → values term words ≡ slice_index_or letters letter 0 ∷ []
LetterValued words letters filling (App op) = Unit {0}
LetterValued words letters filling (Lit word) = Unit {0}

abbrev pub LettersValued : List ℕ → List ℕ → Filling → List Node → Type 0
LettersValued words letters filling side = AllByRecursion (λ (part : Node). LetterValued words letters filling part.kind) side

-- the same sizes and values, and as many terms
pub record SameValues (words letters : List ℕ) (k : ℕ) (nodes side : List Node) : Type 0 where
  pub terms : AreTerms k nodes
  pub sizes : roots nodes ≡ roots side
  pub same : values nodes words ≡ values side letters

filled_first : (words letters : List ℕ) (filling : Filling) (kind : Kind) (part : Node) (side : List Node) (k : ℕ) → part.kind ≡ kind
    → LetterStands filling kind part.width → LetterValued words letters filling kind → SameValues words letters (sources_of kind + k) (filled filling side) side
    → SameValues words letters (suc k) (filled_part filling kind part ++ filled filling side) (part ∷ side)
filled_first words letters filling (App op) part side k is stands valued rest = record {
  terms = subst (λ x. AreTerms (sources_of x + k) (filled filling side)) (sym is) rest.terms;
  sizes = ap (with_root part.width part.kind) rest.sizes;
  same = ap (λ r. with_value part.width part.kind r words (values (filled filling side) words)) rest.sizes
      ∙ ap (with_value part.width part.kind (roots side) words) rest.same
      ∙ ap (λ x. with_value part.width x (roots side) words (values side letters)) is
      ∙ sym (ap (λ x. with_value part.width x (roots side) letters (values side letters)) is);
}
filled_first words letters filling (Lit word) part side k is stands valued rest = record {
  terms = subst (λ x. AreTerms (sources_of x + k) (filled filling side)) (sym is) rest.terms;
  sizes = ap (with_root part.width part.kind) rest.sizes;
  same = ap (λ r. with_value part.width part.kind r words (values (filled filling side) words)) rest.sizes
      ∙ ap (with_value part.width part.kind (roots side) words) rest.same
      ∙ ap (λ x. with_value part.width x (roots side) words (values side letters)) is
      ∙ sym (ap (λ x. with_value part.width x (roots side) letters (values side letters)) is);
}
filled_first words letters filling (Var letter) part side k is stands valued rest =
    let e : 1 + (sources_of (Var letter) + k) ≡ suc k = omega arith in
    let own : filled_part filling (Var letter) part ≡ stands.term = ap (λ (o : Option (List Node)). unwrap_or o []) stands.is in
    subst (λ front. SameValues words letters (suc k) (front ++ filled filling side) (part ∷ side)) (sym own) (record {
      terms = subst (λ n. AreTerms n (stands.term ++ filled filling side)) e (terms_append 1 (sources_of (Var letter) + k) stands.term (filled filling side) stands.one rest.terms);
      sizes = roots_append 1 stands.term (filled filling side) stands.one
          ∙ ap (λ r. r ++ roots (filled filling side)) stands.sized
          ∙ ap (λ r. part.width ∷ r) rest.sizes
          ∙ sym (ap (λ x. with_root part.width x (roots side)) is);
      same = values_append words 1 stands.term (filled filling side) stands.one
          ∙ ap (λ v. v ++ values (filled filling side) words) (valued stands.term stands.is)
          ∙ ap (λ v. slice_index_or letters letter 0 ∷ v) rest.same
          ∙ sym (ap (λ x. with_value part.width x (roots side) letters (values side letters)) is);
    })

pub filled_is : (words letters : List ℕ) (filling : Filling) (side : List Node) (k : ℕ) → AreTerms k side → LettersStand filling side → LettersValued words letters filling side
    → SameValues words letters k (filled filling side) side
filled_is words letters filling [] zero are stand valued = record { terms = tt; sizes = refl; same = refl }
filled_is words letters filling [] (suc k) are stand valued = absurd are
filled_is words letters filling (part ∷ side) zero are stand valued = absurd are
filled_is words letters filling (part ∷ side) (suc k) are stand valued =
    filled_first words letters filling part.kind part side k refl stand.0 valued.0 (filled_is words letters filling side (sources_of part.kind + k) are stand.1 valued.1)
