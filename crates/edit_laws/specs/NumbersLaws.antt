-- Distinct numbers: lists of them, parts of such lists, and lists in which one number gives way to others.
use Rattle.std.specs.Prelude.{◌≡◌, refl, ℕ, ◌+◌, ◌<◌, ◌≤◌, suc, zero, false, ◌||◌, nat_eq, cond, List, [], ◌∷◌, ◌++◌}
use Rattle.std.specs.List.{AllByRecursion, IsDistinct, flat_map, list_any, range_with_len}
use Rattle.std.proofs.Common.{◌⊎◌, inl, inr, sym, ◌∙◌, ap, arith, subst, ⊎_elim}
use Rattle.std.proofs.lemmas.Bool.{cases_eq, cond-false, cond-true, eq-eqb, eqb-true, ne_eqb, or_cases, or_left, or_right, true≢false}
use Rattle.std.proofs.lemmas.List.Folds.{list_any-append}
use Rattle.nir_ir.specs.Shaped.{IsOneOf}

-- no number is in both
abbrev pub Apart : List ℕ → List ℕ → Type 0
Apart a b = (n : ℕ) → IsOneOf a n → IsOneOf b n → ⊥

pub apart-swap : (a b : List ℕ) → Apart a b → Apart b a
apart-swap a b apart n in_b in_a = apart n in_a in_b

-- ---- members

pub one_of-front : (a b : List ℕ) (n : ℕ) → IsOneOf a n → IsOneOf (a ++ b) n
one_of-front a b n is = list_any-append (nat_eq n) a b ∙ or_left (list_any (nat_eq n) a) (list_any (nat_eq n) b) is

pub one_of-back : (a b : List ℕ) (n : ℕ) → IsOneOf b n → IsOneOf (a ++ b) n
one_of-back a b n is = list_any-append (nat_eq n) a b ∙ or_right (list_any (nat_eq n) a) (list_any (nat_eq n) b) is

pub one_of-append : (a b : List ℕ) (n : ℕ) → IsOneOf (a ++ b) n → IsOneOf a n ⊎ IsOneOf b n
one_of-append a b n is = or_cases (list_any (nat_eq n) a) (list_any (nat_eq n) b) (sym (list_any-append (nat_eq n) a b) ∙ is)

pub one_of-here : (n : ℕ) (list : List ℕ) → IsOneOf (n ∷ list) n
one_of-here n list = or_left (nat_eq n n) (list_any (nat_eq n) list) (eq-eqb n n refl)

pub one_of-cons : (a : ℕ) (list : List ℕ) (n : ℕ) → IsOneOf (a ∷ list) n → (n ≡ a) ⊎ IsOneOf list n
one_of-cons a list n is = ⊎_elim (λ same. inl (eqb-true n a same)) (λ other. inr other) (or_cases (nat_eq n a) (list_any (nat_eq n) list) is)

pub member_has : (P : ℕ → Type 0) (list : List ℕ) (n : ℕ) → AllByRecursion P list → IsOneOf list n → P n
member_has P [] n all is = absurd (true≢false (sym is))
member_has P (a ∷ list) n all is = ⊎_elim (λ same. subst P (sym same) all.0) (λ other. member_has P list n all.1 other) (one_of-cons a list n is)

pub members_have : (P : ℕ → Type 0) (list : List ℕ) → ((n : ℕ) → IsOneOf list n → P n) → AllByRecursion P list
members_have P [] h = tt
members_have P (a ∷ list) h = (h a (one_of-here a list), members_have P list (λ n is. h n (one_of-back (a ∷ []) list n is)))

-- ---- distinct numbers

differs : (n : ℕ) (list : List ℕ) → (IsOneOf list n → ⊥) → AllByRecursion (λ m. nat_eq n m ≡ false) list
differs n [] not = tt
differs n (m ∷ list) not = (ne_eqb n m (λ same. not (or_left (nat_eq n m) (list_any (nat_eq n) list) (eq-eqb n m same))), differs n list (λ is. not (one_of-back (m ∷ []) list n is)))

not_member : (n : ℕ) (list : List ℕ) → AllByRecursion (λ m. nat_eq n m ≡ false) list → IsOneOf list n → ⊥
not_member n [] other is = true≢false (sym is)
not_member n (m ∷ list) other is = not_member n list other.1 (sym (ap (λ t. t || list_any (nat_eq n) list) other.0) ∙ is)

pub distinct-head : (n : ℕ) (list : List ℕ) → IsDistinct nat_eq (n ∷ list) → IsOneOf list n → ⊥
unfolding IsDistinct
distinct-head n list distinct is = not_member n list distinct.0 is

pub distinct-tail : (n : ℕ) (list : List ℕ) → IsDistinct nat_eq (n ∷ list) → IsDistinct nat_eq list
unfolding IsDistinct
distinct-tail n list distinct = distinct.1

pub distinct-cons : (n : ℕ) (list : List ℕ) → (IsOneOf list n → ⊥) → IsDistinct nat_eq list → IsDistinct nat_eq (n ∷ list)
unfolding IsDistinct
distinct-cons n list not distinct = (differs n list not, distinct)

pub distinct-none : IsDistinct nat_eq []
unfolding IsDistinct
distinct-none = tt

pub distinct-back : (a b : List ℕ) → IsDistinct nat_eq (a ++ b) → IsDistinct nat_eq b
distinct-back [] b distinct = distinct
distinct-back (n ∷ a) b distinct = distinct-back a b (distinct-tail n (a ++ b) distinct)

pub distinct-front : (a b : List ℕ) → IsDistinct nat_eq (a ++ b) → IsDistinct nat_eq a
distinct-front [] b distinct = distinct-none
distinct-front (n ∷ a) b distinct = distinct-cons n a (λ is. distinct-head n (a ++ b) distinct (one_of-front a b n is)) (distinct-front a b (distinct-tail n (a ++ b) distinct))

pub distinct-apart : (a b : List ℕ) → IsDistinct nat_eq (a ++ b) → Apart a b
distinct-apart [] b distinct n in_a in_b = true≢false (sym in_a)
distinct-apart (m ∷ a) b distinct n in_a in_b =
    ⊎_elim
    (λ same. distinct-head m (a ++ b) distinct (one_of-back a b m (subst (IsOneOf b) same in_b)))
    (λ other. distinct-apart a b (distinct-tail m (a ++ b) distinct) n other in_b)
    (one_of-cons m a n in_a)

pub distinct-append : (a b : List ℕ) → IsDistinct nat_eq a → IsDistinct nat_eq b → Apart a b → IsDistinct nat_eq (a ++ b)
distinct-append [] b one two apart = two
distinct-append (n ∷ a) b one two apart =
    distinct-cons n (a ++ b)
    (λ is. ⊎_elim (λ in_a. distinct-head n a one in_a) (λ in_b. apart n (one_of-here n a) in_b) (one_of-append a b n is))
    (distinct-append a b (distinct-tail n a one) two (λ m in_a in_b. apart m (one_of-back (n ∷ []) a m in_a) in_b))

-- numbers in a row
pub range-within : (from count n : ℕ) → IsOneOf (range_with_len from count) n → (from ≤ n) × (n < from + count)
range-within from zero n is = absurd (true≢false (sym is))
range-within from (suc count) n is = ⊎_elim
    (λ same. (omega (arith, same), omega (arith, same)))
    (λ other. let within = range-within (from + 1) count n other in let low = within.0 in let high = within.1 in (omega (arith, low), omega (arith, high)))
    (one_of-cons from (range_with_len (from + 1) count) n is)

pub range-distinct : (from count : ℕ) → IsDistinct nat_eq (range_with_len from count)
range-distinct from zero = distinct-none
range-distinct from (suc count) =
    distinct-cons from (range_with_len (from + 1) count)
    (λ is. let low = (range-within (from + 1) count from is).0 in absurd (omega (arith, low)))
    (range-distinct (from + 1) count)

-- ---- one number gives way to others

abbrev pub given_way : ℕ → List ℕ → ℕ → List ℕ
given_way old news n = cond (nat_eq n old) news (n ∷ [])

gives_here : (old : ℕ) (news : List ℕ) → given_way old news old ≡ news
gives_here old news = cond-true (nat_eq old old) news (old ∷ []) (eq-eqb old old refl)

gives_other : (old : ℕ) (news : List ℕ) (n : ℕ) → (n ≡ old → ⊥) → given_way old news n ≡ n ∷ []
gives_other old news n other = cond-false (nat_eq n old) news (n ∷ []) (ne_eqb n old other)

-- where each of the list is below a bound, and the new ones are the old number or from that bound on
pub record GivesWay (old bound : ℕ) (news : List ℕ) : Type 0 where
  pub distinct : IsDistinct nat_eq news
  pub within : (n : ℕ) → IsOneOf news n → (n ≡ old) ⊎ (bound ≤ n)
  pub has : IsOneOf news old

one_gives : (old : ℕ) (news : List ℕ) (n k : ℕ) → IsOneOf (given_way old news n) k → ((k ≡ n) × (n ≡ old → ⊥)) ⊎ ((n ≡ old) × IsOneOf news k)
one_gives old news n k is =
    ⊎_elim
    (λ same. inr (same, subst (λ list. IsOneOf list k) (ap (given_way old news) same ∙ gives_here old news) is))
    (λ other. inl (⊎_elim (λ e. e) (λ none. absurd (true≢false (sym none))) (one_of-cons n [] k (subst (λ list. IsOneOf list k) (gives_other old news n other) is)), other))
    (cases_eq n old)

pub gives_member : (old : ℕ) (news list : List ℕ) (k : ℕ) → IsOneOf (flat_map (given_way old news) list) k → (IsOneOf list k × (k ≡ old → ⊥)) ⊎ (IsOneOf list old × IsOneOf news k)
gives_member old news [] k is = absurd (true≢false (sym is))
gives_member old news (n ∷ list) k is =
    ⊎_elim
    (λ here. ⊎_elim
    (λ own. inl (subst (IsOneOf (n ∷ list)) (sym own.0) (one_of-here n list), (λ e. own.1 (sym own.0 ∙ e))))
    (λ own. inr (subst (IsOneOf (n ∷ list)) own.0 (one_of-here n list), own.1))
    (one_gives old news n k here))
    (λ there. ⊎_elim (λ m. inl (one_of-back (n ∷ []) list k m.0, m.1)) (λ m. inr (one_of-back (n ∷ []) list old m.0, m.1)) (gives_member old news list k there))
    (one_of-append (given_way old news n) (flat_map (given_way old news) list) k is)

pub gives_kept : (old bound : ℕ) (news : List ℕ) → GivesWay old bound news → (list : List ℕ) (k : ℕ) → IsOneOf list k → IsOneOf (flat_map (given_way old news) list) k
gives_kept old bound news gives [] k is = is
gives_kept old bound news gives (n ∷ list) k is =
    ⊎_elim
    (λ same. one_of-front (given_way old news n) (flat_map (given_way old news) list) k (subst (λ m. IsOneOf (given_way old news m) k) same (own k (cases_eq k old))))
    (λ other. one_of-back (given_way old news n) (flat_map (given_way old news) list) k (gives_kept old bound news gives list k other))
    (one_of-cons n list k is)
  where
    own : (k : ℕ) → (k ≡ old) ⊎ (k ≡ old → ⊥) → IsOneOf (given_way old news k) k
    own k (inl same) = subst (λ m. IsOneOf (given_way old news m) m) (sym same) (subst (λ list. IsOneOf list old) (sym (gives_here old news)) gives.has)
    own k (inr other) = subst (λ list. IsOneOf list k) (sym (gives_other old news k other)) (one_of-here k [])

pub gives_new : (old : ℕ) (news list : List ℕ) → IsOneOf list old → (k : ℕ) → IsOneOf news k → IsOneOf (flat_map (given_way old news) list) k
gives_new old news [] is k new = absurd (true≢false (sym is))
gives_new old news (n ∷ list) is k new =
    ⊎_elim
    (λ same. one_of-front (given_way old news n) (flat_map (given_way old news) list) k (subst (λ m. IsOneOf (given_way old news m) k) same (subst (λ numbers. IsOneOf numbers k) (sym (gives_here old news)) new)))
    (λ other. one_of-back (given_way old news n) (flat_map (given_way old news) list) k (gives_new old news list other k new))
    (one_of-cons n list old is)

own_distinct : (old bound : ℕ) (news : List ℕ) → GivesWay old bound news → (n : ℕ) → IsDistinct nat_eq (given_way old news n)
own_distinct old bound news gives n =
    ⊎_elim
    (λ same. subst (IsDistinct nat_eq) (sym (ap (given_way old news) same ∙ gives_here old news)) gives.distinct)
    (λ other. subst (IsDistinct nat_eq) (sym (gives_other old news n other)) (distinct-cons n [] (λ is. true≢false (sym is)) distinct-none))
    (cases_eq n old)

own_apart : (old bound : ℕ) (news : List ℕ) → GivesWay old bound news → (n : ℕ) (list : List ℕ) → n < bound → AllByRecursion (λ m. m < bound) list → (IsOneOf list n → ⊥)
    → Apart (given_way old news n) (flat_map (given_way old news) list)
own_apart old bound news gives n list low lows not k here there =
    ⊎_elim
    (λ own. ⊎_elim
    (λ m. not (subst (IsOneOf list) own.0 m.0))
    (λ m. ⊎_elim (λ is. own.1 (sym own.0 ∙ is)) (λ high. let same = own.0 in absurd (omega (arith, high, same, low))) (gives.within k m.1))
    (gives_member old news list k there))
    (λ own. ⊎_elim
    (λ m. ⊎_elim (λ is. m.1 is) (λ high. let less = member_has (λ x. x < bound) list k lows m.0 in absurd (omega (arith, high, less))) (gives.within k own.1))
    (λ m. not (subst (IsOneOf list) (sym own.0) m.0))
    (gives_member old news list k there))
    (one_gives old news n k here)

pub gives_distinct : (old bound : ℕ) (news : List ℕ) → GivesWay old bound news → (list : List ℕ) → IsDistinct nat_eq list → AllByRecursion (λ m. m < bound) list → IsDistinct nat_eq (flat_map (given_way old news) list)
gives_distinct old bound news gives [] distinct lows = distinct-none
gives_distinct old bound news gives (n ∷ list) distinct lows =
    distinct-append (given_way old news n) (flat_map (given_way old news) list) (own_distinct old bound news gives n)
    (gives_distinct old bound news gives list (distinct-tail n list distinct) lows.1)
    (own_apart old bound news gives n list lows.0 lows.1 (distinct-head n list distinct))

-- the old number at the end of fresh ones in a row
pub row_gives : (old from count : ℕ) → old < from → GivesWay old from (range_with_len from count ++ old ∷ [])
row_gives old from count less = record {
  distinct = distinct-append (range_with_len from count) (old ∷ []) (range-distinct from count) (distinct-cons old [] (λ is. true≢false (sym is)) distinct-none)
      (λ n in_row is. ⊎_elim (λ same. let low = (range-within from count n in_row).0 in absurd (omega (arith, low, same, less))) (λ none. true≢false (sym none)) (one_of-cons old [] n is));
  within = λ n is. ⊎_elim (λ in_row. inr (range-within from count n in_row).0) (λ at_end. inl (⊎_elim (λ same. same) (λ none. absurd (true≢false (sym none))) (one_of-cons old [] n at_end)))
      (one_of-append (range_with_len from count) (old ∷ []) n is);
  has = one_of-back (range_with_len from count) (old ∷ []) old (one_of-here old []);
}
