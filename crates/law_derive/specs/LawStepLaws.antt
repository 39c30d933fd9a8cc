-- A law at a term keeps the size and the value of the term.
use denote.Enum.Bare.{same_true}
use Rattle.std.proofs.Common.{◌≡◌, ◌+◌, ◌<◌, ◌^◌, ℕ, zero, suc, Bool, true, List, [], ◌∷◌, ◌++◌, length, Option, Some, None, refl, sym, ap, ◌∙◌, subst, arith, ⊎_elim}
use Rattle.std.specs.Prelude.{nat_eq, nat_lt, is_none, not}
use Rattle.std.specs.List.{AllByRecursion, list_any, slice_index_or}
use Rattle.std.proofs.lemmas.Bool.{and_from, and_parts, eqb-true, or_cases, false≢true, ltb-true}
use Rattle.std.proofs.lemmas.Nat.{pow_pos}
use Rattle.std.specs.Option.{unwrap_or}
use Rattle.list_laws.specs.AllLaws.{all_append, all_both}
use Rattle.nir_ops.specs.declared.width.Width.{Width}
use Rattle.nir_ops.specs.Width.{width_bits}
use Rattle.op_eval.specs.Calls.{same_width}
use Rattle.op_eval.specs.Sizes.{same_width-same}
use Rattle.rule_term.specs.contracts.cond.Cond as cond_type
use Rattle.rule_term.specs.declared.cond.Cond.{Cond}
use Rattle.rule_term.specs.Conditions.{cond_holds}
use Rattle.rule_term.specs.Holds.{is_met, meets_cond}
use Rattle.rule_term.specs.Typings.{Occurrence}
use Rattle.law_derive.specs.declared.node.Kind.{Kind}
use Rattle.law_derive.specs.declared.node.Kind.TheVariants.{App, Var, Lit}
use Rattle.law_derive.specs.declared.node.Node.{Node}
use Rattle.law_derive.specs.Derivations.{Setting, are_filled, asks, cond_met, is_cond, is_filled, kind_meets, letter_size, size_of_var, standing, term_meets}
use Rattle.law_derive.specs.FineLaws.{AreFitting, Fine}
use Rattle.law_derive.specs.Fit.{kind_fits, nodes_fit}
use Rattle.law_derive.specs.FitLaws.{fit_append}
use Rattle.law_derive.specs.LawsHold.{AreWords, word_of}
use Rattle.law_derive.specs.Matching.{Filling, filled, filled_part, found}
use Rattle.law_derive.specs.MatchingLaws.{Extends, LetterStands, LettersStand, LetterValued, LettersValued, SameValues, filled_is}
use Rattle.law_derive.specs.Nodes.{AreTerms, roots, sources_of, values, with_root, with_value}
use Rattle.law_derive.specs.NodesLaws.{count_values}
use Rattle.law_derive.specs.SidesLaws.{part_fits}
use Rattle.law_derive.specs.StandingLaws.{KindStands, NodeStands}
use Rattle.law_derive.specs.WordsLaws.{AreWordNodes, AreWordsOf, KindIsWord, values_are_words}

-- words of the variables of a rule that meet its conditions
pub record AreMetBy (at : Setting) (words : List ℕ) : Type 0 where
  pub fit : (var : ℕ) (width : Width) → size_of_var at var ≡ Some width → slice_index_or words var 0 < 2 ^ width_bits width
  pub met : AllByRecursion (λ (o : Occurrence). is_met words o ≡ true) (standing at)
  pub sizes : AllByRecursion (λ (o : Occurrence). size_of_var at o.var ≡ Some o.width) (standing at)

-- ---- words

kind_word : (at : Setting) (words : List ℕ) → AreMetBy at words → (width : Width) (kind : Kind) → KindStands at width kind → KindIsWord words width kind
kind_word at words are width (App op) stands = tt
kind_word at words are width (Var var) stands = are.fit var width stands
kind_word at words are width (Lit word) stands = stands

pub word_nodes : (at : Setting) (words : List ℕ) → AreMetBy at words → (nodes : List Node) → AllByRecursion (NodeStands at) nodes → AreWordNodes words nodes
word_nodes at words are [] stand = tt
word_nodes at words are (node ∷ nodes) stand = (kind_word at words are node.width node.kind stand.0, word_nodes at words are nodes stand.1)

only_one : (list : List ℕ) → length list ≡ 1 → list ≡ slice_index_or list 0 0 ∷ []
only_one [] is = absurd cc
only_one (v ∷ []) is = refl
only_one (v ∷ w ∷ list) is = absurd (omega (arith, is))

abbrev some_width : Width → Option Width
some_width width = Some width

abbrev some_cond : Cond → Option Cond
some_cond cond = Some cond

-- ---- the words of letters

abbrev pub word_in : List ℕ → Option (List Node) → ℕ
word_in words None = 0
word_in words (Some term) = slice_index_or (values term words) 0 0

abbrev pub letters_in : List ℕ → Filling → List ℕ
letters_in words filling =
    word_in words (found 0 filling) ∷ word_in words (found 1 filling) ∷ word_in words (found 2 filling) ∷ word_in words (found 3 filling) ∷ word_in words (found 4 filling) ∷ []

letter_in : (words : List ℕ) (filling : Filling) (letter : ℕ) → letter < 5 → slice_index_or (letters_in words filling) letter 0 ≡ word_in words (found letter filling)
letter_in words filling zero few = refl
letter_in words filling (suc zero) few = refl
letter_in words filling (suc (suc zero)) few = refl
letter_in words filling (suc (suc (suc zero))) few = refl
letter_in words filling (suc (suc (suc (suc zero)))) few = refl
letter_in words filling (suc (suc (suc (suc (suc letter))))) few = absurd (omega (arith, few))

module _ (at : Setting) (words : List ℕ) (are : AreMetBy at words) (width : Width) (filling : Filling) (fine : Fine at width filling) where
  word_small : (letter : ℕ) (own : Option (List Node)) → found letter filling ≡ own → word_in words own < 2 ^ width_bits (letter_size width letter)
  word_small letter None is = pow_pos (width_bits (letter_size width letter))
  word_small letter (Some term) is =
      let stands = fine letter term is in
      let small = values_are_words words term (word_nodes at words are term stands.stands.stand) in
      let one = only_one (values term words) (count_values words 1 term stands.stands.one) in
      (subst (λ v. AreWordsOf (letter_size width letter ∷ []) v) one (subst (λ r. AreWordsOf r (values term words)) stands.sized small)).0

  pub letters_are_words : AreWords width (letters_in words filling)
  letters_are_words = record {
    x = word_small 0 (found 0 filling) refl;
    y = word_small 1 (found 1 filling) refl;
    z = word_small 2 (found 2 filling) refl;
    b = word_small 3 (found 3 filling) refl;
    c = word_small 4 (found 4 filling) refl;
  }

module _ (at : Setting) (words : List ℕ) (width : Width) (filling : Filling) (fine : Fine at width filling) where
  letter_valued : (letter : ℕ) (term : List Node) → letter < 5 → found letter filling ≡ Some term → values term words ≡ slice_index_or (letters_in words filling) letter 0 ∷ []
  letter_valued letter term few is =
      let stands = fine letter term is in
      only_one (values term words) (count_values words 1 term stands.stands.one)
      ∙ ap (λ v. v ∷ []) (sym (letter_in words filling letter few ∙ ap (word_in words) is))

-- ---- the condition

any_of : {X : Type 0} (test : X → Bool) (P : X → Type 0) (list : List X) → list_any test list ≡ true → AllByRecursion P list → (x : X) × (test x ≡ true) × P x
any_of test P [] is all = absurd (false≢true is)
any_of test P (x ∷ list) is all = ⊎_elim (λ here. (x, here, all.0)) (λ behind. any_of test P list behind all.1) (or_cases (test x) (list_any test list) is)

same_size : (a b : Width) → some_width a ≡ some_width b → a ≡ b
same_size a b is = cc

is_cond_same : (cond : Cond) (own : Option Cond) → is_cond cond own ≡ true → own ≡ some_cond cond
is_cond_same cond None is = cc
is_cond_same cond (Some own) is = ap some_cond (same_true cond_type.the_type tt own cond is)

-- what stands for c meets the condition
kind_met : (at : Setting) (words : List ℕ) → AreMetBy at words → (cond : Cond) (kind : Kind) (width : Width) (behind : List ℕ) (sizes : List Width) → KindStands at width kind
    → kind_meets at cond width kind ≡ true → cond_holds cond (width_bits width) (slice_index_or (with_value width kind sizes words behind) 0 0) ≡ true
kind_met at words are cond (App op) width behind sizes stands meets = cc
kind_met at words are cond (Lit word) width behind sizes stands meets = meets
kind_met at words are cond (Var var) width behind sizes stands meets =
    let found = any_of (asks cond var) (λ (o : Occurrence). (is_met words o ≡ true) × (size_of_var at o.var ≡ some_width o.width)) (standing at) meets (all_both _ _ (standing at) are.met are.sizes) in
    let o : Occurrence = found.0 in
    let asked = and_parts (nat_eq o.var var) (is_cond cond o.cond) found.1 in
    let same_var : o.var ≡ var = eqb-true o.var var asked.0 in
    let sized : o.width ≡ width = same_size o.width width (sym found.2.1 ∙ ap (size_of_var at) same_var ∙ stands) in
    let own : meets_cond o.cond o.width (slice_index_or words o.var 0) ≡ true = found.2.0 in
    let c = is_cond_same cond o.cond asked.1 in
    sym (λ i. meets_cond (c i) (sized i) (slice_index_or words (same_var i) 0)) ∙ own

first_size : (width size : Width) (kind : Kind) (behind : List Width) → with_root width kind behind ≡ size ∷ [] → width ≡ size
first_size width size (App op) behind is = cc
first_size width size (Var var) behind is = cc
first_size width size (Lit word) behind is = cc

module _ (at : Setting) (words : List ℕ) (are : AreMetBy at words) (width : Width) (filling : Filling) (fine : Fine at width filling) where
  term_met : (cond : Cond) (own : Option (List Node)) → found 4 filling ≡ own → term_meets at cond own ≡ true → cond_holds cond (width_bits width) (word_in words own) ≡ true
  term_met cond None is meets = cc
  term_met cond (Some []) is meets = cc
  term_met cond (Some (node ∷ nodes)) is meets =
      let stands = fine 4 (node ∷ nodes) is in
      let sized : node.width ≡ width = first_size node.width width node.kind (roots nodes) stands.sized in
      subst (λ w. cond_holds cond (width_bits w) (word_in words (Some (node ∷ nodes))) ≡ true) sized
      (kind_met at words are cond node.kind node.width (values nodes words) (roots nodes) stands.stands.stand.0 meets)

  pub condition_met : (cond : Option Cond) → cond_met at cond filling ≡ true → meets_cond cond width (word_of (letters_in words filling) 4) ≡ true
  condition_met None is = refl
  condition_met (Some cond) is = term_met cond (found 4 filling) refl is

-- ---- sides with terms for their letters

abbrev pub IsFound : Filling → Kind → Type 0
IsFound filling (Var letter) = (term : List Node) × (found letter filling ≡ Some term)
IsFound filling (App op) = Unit {0}
IsFound filling (Lit word) = Unit {0}

abbrev pub AreFound : Filling → List Node → Type 0
AreFound filling side = AllByRecursion (λ (part : Node). IsFound filling part.kind) side

some_found : (own : Option (List Node)) → not (is_none own) ≡ true → (term : List Node) × (own ≡ Some term)
some_found None is = cc
some_found (Some term) is = (term, refl)

found_kind : (filling : Filling) (kind : Kind) → is_filled filling kind ≡ true → IsFound filling kind
found_kind filling (Var letter) is = some_found (found letter filling) is
found_kind filling (App op) is = tt
found_kind filling (Lit word) is = tt

pub found_each : (filling : Filling) (side : List Node) → are_filled filling side ≡ true → AreFound filling side
found_each filling [] is = tt
found_each filling (part ∷ side) is =
    let parts = and_parts (is_filled filling part.kind) (are_filled filling side) is in
    (found_kind filling part.kind parts.0, found_each filling side parts.1)

found_stands : (filling : Filling) (kind : Kind) (width : Width) → LetterStands filling kind width → IsFound filling kind
found_stands filling (Var letter) width stands = (stands.term, stands.is)
found_stands filling (App op) width stands = tt
found_stands filling (Lit word) width stands = tt

more_found : (filling more : Filling) → Extends filling more → (kind : Kind) → IsFound filling kind → IsFound more kind
more_found filling more extends (Var letter) is = (is.0, extends letter is.0 is.1)
more_found filling more extends (App op) is = tt
more_found filling more extends (Lit word) is = tt

pub found_more : (filling more : Filling) → Extends filling more → (side : List Node) → LettersStand filling side → AreFound more side
found_more filling more extends [] stand = tt
found_more filling more extends (part ∷ side) stand =
    (more_found filling more extends part.kind (found_stands filling part.kind part.width stand.0), found_more filling more extends side stand.1)

-- the terms stay
same_part : (filling more : Filling) → Extends filling more → (kind : Kind) (part : Node) → LetterStands filling kind part.width → filled_part filling kind part ≡ filled_part more kind part
same_part filling more extends (Var letter) part stands =
    ap (λ (o : Option (List Node)). unwrap_or o []) (stands.is ∙ sym (extends letter stands.term stands.is))
same_part filling more extends (App op) part stands = refl
same_part filling more extends (Lit word) part stands = refl

pub same_filled : (filling more : Filling) → Extends filling more → (side : List Node) → LettersStand filling side → filled filling side ≡ filled more side
same_filled filling more extends [] stand = refl
same_filled filling more extends (part ∷ side) stand =
    λ i. same_part filling more extends part.kind part stand.0 i ++ same_filled filling more extends side stand.1 i

module _ (at : Setting) (width : Width) (filling : Filling) (fine : Fine at width filling) where
  letter_stands : (kind : Kind) (size : Width) → part_fits width kind size ≡ true → IsFound filling kind → LetterStands filling kind size
  letter_stands (Var letter) size fits is =
      let stands = fine letter is.0 is.1 in
      let sized = same_width-same size (letter_size width letter) (and_parts (nat_lt letter 5) (same_width size (letter_size width letter)) fits).1 in
      record { term = is.0; is = is.1; one = stands.stands.one; sized = stands.sized ∙ ap (λ w. w ∷ []) (sym sized) }
  letter_stands (App op) size fits is = tt
  letter_stands (Lit word) size fits is = tt

  letters_stand : (side : List Node) → AreFitting width side → AreFound filling side → LettersStand filling side
  letters_stand [] fitting are = tt
  letters_stand (part ∷ side) fitting are = (letter_stands part.kind part.width fitting.0 are.0, letters_stand side fitting.1 are.1)

  part_valued : (words : List ℕ) (kind : Kind) (size : Width) → part_fits width kind size ≡ true → LetterValued words (letters_in words filling) filling kind
  part_valued words (Var letter) size fits =
      λ term is. letter_valued at words width filling fine letter term (ltb-true letter 5 (and_parts (nat_lt letter 5) (same_width size (letter_size width letter)) fits).0) is
  part_valued words (App op) size fits = tt
  part_valued words (Lit word) size fits = tt

  letters_valued : (words : List ℕ) (side : List Node) → AreFitting width side → LettersValued words (letters_in words filling) filling side
  letters_valued words [] fitting = tt
  letters_valued words (part ∷ side) fitting = (part_valued words part.kind part.width fitting.0, letters_valued words side fitting.1)

  part_stands : (kind : Kind) (part : Node) → part.kind ≡ kind → part_fits width kind part.width ≡ true → IsFound filling kind
      → AllByRecursion (NodeStands at) (filled_part filling kind part)
  part_stands (Var letter) part own fits is =
      subst (AllByRecursion (NodeStands at)) (ap (λ (o : Option (List Node)). unwrap_or o []) (sym is.1)) (fine letter is.0 is.1).stands.stand
  part_stands (App op) part own fits is = (subst (KindStands at part.width) (sym own) tt, tt)
  part_stands (Lit word) part own fits is = (subst (KindStands at part.width) (sym own) (ltb-true word (2 ^ width_bits part.width) fits), tt)

  pub filled_stands : (side : List Node) → AreFitting width side → AreFound filling side → AllByRecursion (NodeStands at) (filled filling side)
  filled_stands [] fitting are = tt
  filled_stands (part ∷ side) fitting are =
      all_append (NodeStands at) (filled_part filling part.kind part) (filled filling side) (part_stands part.kind part refl fitting.0 are.0) (filled_stands side fitting.1 are.1)

  part_filled_fits : (kind : Kind) (part : Node) (side : List Node) → part.kind ≡ kind → IsFound filling kind → roots (filled filling side) ≡ roots side
      → kind_fits part.width kind (roots side) ≡ true → nodes_fit (filled filling side) ≡ true → nodes_fit (filled_part filling kind part ++ filled filling side) ≡ true
  part_filled_fits (Var letter) part side own is sizes fits rest =
      let stands = (fine letter is.0 is.1).stands in
      subst (λ front. nodes_fit (front ++ filled filling side) ≡ true) (ap (λ (o : Option (List Node)). unwrap_or o []) (sym is.1))
      (fit_append 1 is.0 (filled filling side) stands.one stands.fit rest)
  part_filled_fits (App op) part side own is sizes fits rest =
      and_from (kind_fits part.width part.kind (roots (filled filling side))) (nodes_fit (filled filling side))
      ((λ i. kind_fits part.width (own i) (sizes i)) ∙ fits) rest
  part_filled_fits (Lit word) part side own is sizes fits rest =
      and_from (kind_fits part.width part.kind (roots (filled filling side))) (nodes_fit (filled filling side))
      ((λ i. kind_fits part.width (own i) (sizes i)) ∙ fits) rest

  -- a side that fits does so with terms of the sizes of its letters
  pub filled_fits : (k : ℕ) (side : List Node) → AreTerms k side → AreFitting width side → AreFound filling side → nodes_fit side ≡ true
      → nodes_fit (filled filling side) ≡ true
  filled_fits k [] terms fitting are fit = refl
  filled_fits zero (part ∷ side) terms fitting are fit = absurd terms
  filled_fits (suc k) (part ∷ side) terms fitting are fit =
      let both = and_parts (kind_fits part.width part.kind (roots side)) (nodes_fit side) fit in
      let behind = filled_is [] (letters_in [] filling) filling side (sources_of part.kind + k) terms (letters_stand side fitting.1 are.1) (letters_valued [] side fitting.1) in
      part_filled_fits part.kind part side refl are.0 behind.sizes both.0 (filled_fits (sources_of part.kind + k) side terms fitting.1 are.1 both.1)

  -- a side with terms for its letters
  pub side_is : (words : List ℕ) (side : List Node) → AreTerms 1 side → AreFitting width side → AreFound filling side
      → SameValues words (letters_in words filling) 1 (filled filling side) side
  side_is words side one fitting are = filled_is words (letters_in words filling) filling side 1 one (letters_stand side fitting are) (letters_valued words side fitting)
