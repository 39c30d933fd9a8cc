-- Counts of values to which uses are added, or from which they are taken.
use Rattle.std.proofs.Common.{◌≡◌, refl, ℕ, ◌+◌, ◌-◌, ◌<◌, ◌≤◌, cond, List, [], ◌∷◌, ◌++◌, length, map, drop, set, get_or, sym, ◌∙◌, ap, arith, add_assoc, add-zero, zero-add, subst}
use Rattle.std.specs.Prelude.{count_by}
use Rattle.std.specs.List.{flat_map}
use Rattle.std.proofs.lemmas.Bool.{eq-eqb, ne_eqb}
use Rattle.std.proofs.lemmas.List.{drop_all, drop_more}
use Rattle.std.proofs.lemmas.List.Sums.{sum_by-append}
use Rattle.std.proofs.lemmas.Option.{get_or_from_slice_get, slice_get-get_or}
use Rattle.nir_ir.specs.declared.ids.ValueId.{ValueId}
use Rattle.nir_ir.specs.Uses.{is_value}
use Rattle.nir_index.specs.Index.{by_place, counted, numbered, uncounted}
use Rattle.nir_index.proofs.PlaceLemmas.{place-kept, place-one, place-past, place-same, place-twice}

-- what is done to a count: twice is once with the sum, and nothing with 0
record IsTally (op : ℕ → ℕ → ℕ) : Type 0 where
  sum : (count a b : ℕ) → op count (a + b) ≡ op (op count a) b
  none : (count : ℕ) → op count 0 ≡ count

adds : IsTally (λ count n. count + n)
adds = record { sum = λ count a b. sym (add_assoc count a b); none = λ count. add-zero count }

minus-sum : (count a b : ℕ) → count - (a + b) ≡ count - a - b
minus-sum count a b = omega arith

minus-none : (count : ℕ) → count - 0 ≡ count
minus-none count = omega arith

takes : IsTally (λ count n. count - n)
takes = record { sum = minus-sum; none = minus-none }

abbrev tally : (ℕ → ℕ → ℕ) → List ValueId → ℕ → ℕ → ℕ
tally op used n count = op count (count_by (is_value (numbered n)) used)

abbrev tallied : (ℕ → ℕ → ℕ) → List ValueId → List ℕ → List ℕ
tallied op used counts = by_place (tally op used) 0 counts

tallied-append : (op : ℕ → ℕ → ℕ) → IsTally op → (first second : List ValueId) (counts : List ℕ) → tallied op (first ++ second) counts ≡ tallied op second (tallied op first counts)
tallied-append op is first second counts =
    place-same (tally op (first ++ second)) (λ n count. tally op second n (tally op first n count))
    (λ n count.
    ap (op count) (sum_by-append (λ a. cond (is_value (numbered n) a) 1 0) first second)
    ∙ is.sum count (count_by (is_value (numbered n)) first) (count_by (is_value (numbered n)) second))
    0 counts
    ∙ sym (place-twice (tally op first) (tally op second) 0 counts)

tallied-nil : (op : ℕ → ℕ → ℕ) → IsTally op → (counts : List ℕ) → tallied op [] counts ≡ counts
tallied-nil op is counts = place-kept (tally op []) (λ n count. is.none count) 0 counts

elsewhere : (op : ℕ → ℕ → ℕ) → IsTally op → (used : ValueId) (n : ℕ) (count : ℕ) → (n ≡ used.0 → ⊥) → tally op (used ∷ []) n count ≡ count
elsewhere op is used n count differ = ap (λ here. op count (0 + cond here 1 0)) (ne_eqb used.0 n (λ same. differ (sym same))) ∙ is.none count

tallied-one : (op : ℕ → ℕ → ℕ) → IsTally op → (used : ValueId) (counts : List ℕ) (d : ℕ) → used.0 < length counts → set counts used.0 (op (get_or counts used.0 d) 1) ≡ tallied op (used ∷ []) counts
tallied-one op is used counts d within =
    ap (λ here. set counts used.0 (op (get_or counts used.0 d) (0 + cond here 1 0))) (sym (eq-eqb used.0 used.0 refl))
    ∙ sym (place-one (tally op (used ∷ [])) used.0 (elsewhere op is used) 0 counts used.0 d within (sym (zero-add used.0)))

tallied-past : (op : ℕ → ℕ → ℕ) → IsTally op → (used : ValueId) (counts : List ℕ) → length counts ≤ used.0 → counts ≡ tallied op (used ∷ []) counts
tallied-past op is used counts past =
    sym (place-past (tally op (used ∷ [])) used.0 (elsewhere op is used) 0 counts (subst (λ n. n ≤ used.0) (sym (zero-add (length counts))) past))

-- what the item of a place gives, and what those behind it give
tallied-step : (op : ℕ → ℕ → ℕ) → IsTally op → {A : Type 0} (gives : A → List ValueId) (list : List A) (i : ℕ) (a : A) (counts : List ℕ) → i < length list → a ≡ get_or list i a
    → tallied op (flat_map gives (drop (i + 1) list)) (tallied op (gives a) counts) ≡ tallied op (flat_map gives (drop i list)) counts
tallied-step op is gives list i a counts within at =
    sym (ap (λ t. tallied op (flat_map gives t) counts) (drop_more list i a within)
    ∙ ap (λ x. tallied op (gives x ++ flat_map gives (drop (i + 1) list)) counts) (sym at)
    ∙ tallied-append op is (gives a) (flat_map gives (drop (i + 1) list)) counts)

tallied-part : (op : ℕ → ℕ → ℕ) → IsTally op → {A : Type 0} (part : A → ValueId) (list : List A) (i : ℕ) (a : A) (counts : List ℕ) → i < length list → a ≡ get_or list i a
    → tallied op (map part (drop (i + 1) list)) (tallied op (part a ∷ []) counts) ≡ tallied op (map part (drop i list)) counts
tallied-part op is part list i a counts within at =
    sym (ap (λ t. tallied op (map part t) counts) (drop_more list i a within)
    ∙ ap (λ x. tallied op (part x ∷ map part (drop (i + 1) list)) counts) (sym at)
    ∙ tallied-append op is (part a ∷ []) (map part (drop (i + 1) list)) counts)

-- ---- uses that are added

pub counted-append : (first second : List ValueId) (counts : List ℕ) → counted (first ++ second) counts ≡ counted second (counted first counts)
counted-append first second counts = tallied-append (λ count n. count + n) adds first second counts

pub counted-nil : (counts : List ℕ) → counted [] counts ≡ counts
counted-nil counts = tallied-nil (λ count n. count + n) adds counts

pub counted-one : (used : ValueId) (counts : List ℕ) (d : ℕ) → used.0 < length counts → set counts used.0 (get_or counts used.0 d + 1) ≡ counted (used ∷ []) counts
counted-one used counts d within = tallied-one (λ count n. count + n) adds used counts d within

pub counted-past : (used : ValueId) (counts : List ℕ) → length counts ≤ used.0 → counts ≡ counted (used ∷ []) counts
counted-past used counts past = tallied-past (λ count n. count + n) adds used counts past

pub counted-two : (first second : ValueId) (counts : List ℕ) → counted (first ∷ second ∷ []) counts ≡ counted (second ∷ []) (counted (first ∷ []) counts)
counted-two first second counts = counted-append (first ∷ []) (second ∷ []) counts

pub counted-step : {A : Type 0} (part : A → ValueId) (list : List A) (i : ℕ) (a : A) (counts : List ℕ) → i < length list → a ≡ get_or list i a
    → counted (map part (drop (i + 1) list)) (counted (part a ∷ []) counts) ≡ counted (map part (drop i list)) counts
counted-step part list i a counts within at = tallied-part (λ count n. count + n) adds part list i a counts within at

pub counted-step_get : {A : Type 0} (part : A → ValueId) (list : List A) (i : ℕ) (d : A) (counts : List ℕ) → i < length list
    → counted (map part (drop (i + 1) list)) (counted (part (get_or list i d) ∷ []) counts) ≡ counted (map part (drop i list)) counts
counted-step_get part list i d counts within =
    counted-step part list i (get_or list i d) counts within (sym (get_or_from_slice_get list i (get_or list i d) (get_or list i d) (slice_get-get_or list i d within)))

pub counted-end : {A : Type 0} (part : A → ValueId) (list : List A) (i : ℕ) (counts : List ℕ) → length list ≤ i → counts ≡ counted (map part (drop i list)) counts
counted-end part list i counts past = sym (ap (λ t. counted (map part t) counts) (drop_all i list past) ∙ counted-nil counts)

pub counted-gives : {A : Type 0} (gives : A → List ValueId) (list : List A) (i : ℕ) (a : A) (counts : List ℕ) → i < length list → a ≡ get_or list i a
    → counted (flat_map gives (drop (i + 1) list)) (counted (gives a) counts) ≡ counted (flat_map gives (drop i list)) counts
counted-gives gives list i a counts within at = tallied-step (λ count n. count + n) adds gives list i a counts within at

pub counted-gives_end : {A : Type 0} (gives : A → List ValueId) (list : List A) (i : ℕ) (counts : List ℕ) → length list ≤ i → counts ≡ counted (flat_map gives (drop i list)) counts
counted-gives_end gives list i counts past = sym (ap (λ t. counted (flat_map gives t) counts) (drop_all i list past) ∙ counted-nil counts)

-- ---- uses that are taken away

pub uncounted-append : (first second : List ValueId) (counts : List ℕ) → uncounted (first ++ second) counts ≡ uncounted second (uncounted first counts)
uncounted-append first second counts = tallied-append (λ count n. count - n) takes first second counts

pub uncounted-nil : (counts : List ℕ) → uncounted [] counts ≡ counts
uncounted-nil counts = tallied-nil (λ count n. count - n) takes counts

pub uncounted-one : (used : ValueId) (counts : List ℕ) (d : ℕ) → used.0 < length counts → set counts used.0 (get_or counts used.0 d - 1) ≡ uncounted (used ∷ []) counts
uncounted-one used counts d within = tallied-one (λ count n. count - n) takes used counts d within

pub uncounted-past : (used : ValueId) (counts : List ℕ) → length counts ≤ used.0 → counts ≡ uncounted (used ∷ []) counts
uncounted-past used counts past = tallied-past (λ count n. count - n) takes used counts past

pub uncounted-two : (first second : ValueId) (counts : List ℕ) → uncounted (first ∷ second ∷ []) counts ≡ uncounted (second ∷ []) (uncounted (first ∷ []) counts)
uncounted-two first second counts = uncounted-append (first ∷ []) (second ∷ []) counts

pub uncounted-step : {A : Type 0} (part : A → ValueId) (list : List A) (i : ℕ) (a : A) (counts : List ℕ) → i < length list → a ≡ get_or list i a
    → uncounted (map part (drop (i + 1) list)) (uncounted (part a ∷ []) counts) ≡ uncounted (map part (drop i list)) counts
uncounted-step part list i a counts within at = tallied-part (λ count n. count - n) takes part list i a counts within at

pub uncounted-end : {A : Type 0} (part : A → ValueId) (list : List A) (i : ℕ) (counts : List ℕ) → length list ≤ i → counts ≡ uncounted (map part (drop i list)) counts
uncounted-end part list i counts past = sym (ap (λ t. uncounted (map part t) counts) (drop_all i list past) ∙ uncounted-nil counts)
