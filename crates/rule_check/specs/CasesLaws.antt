-- The tuples of a typing are all values that its variables can have, so where the trial finds no difference both sides are equal.
use Rattle.std.specs.Prelude.{◌≡◌, refl, ◌+◌, ◌*◌, ◌/◌, ◌%◌, ◌^◌, ◌<◌, ◌≤◌, ℕ, zero, suc, Bool, true, false, not, ◌&&◌, Option, Some, None, List, [], ◌∷◌, map, sum, length, nat_eq, nat_lt, cond}
use Rattle.std.specs.List.{find, list_all, list_any, range_with_len}
use Rattle.std.specs.Cmp.Lexicographic.{pointwise, bytes_decides}
use Rattle.std.proofs.Common.{sym, ◌∙◌, ap, subst, ⊎_elim, arith, get_or}
use Rattle.std.proofs.lemmas.Bool.{and_parts, and_from, ltb-true, lt-ltb, cases_lt, cases_eq, cases_Bool, not-true, not-false, both_ways}
use Rattle.std.proofs.lemmas.Nat.{pow_pos, pow-add, mul-add-lt, div-mul-add, mod-mul-add, shr_below, mod_below}
use Rattle.std.proofs.lemmas.List.{get_or_past}
use Rattle.std.proofs.lemmas.List.Sums.{sum_by-cons, AllPass-from_list_all, list_all-from_AllPass}
use Rattle.nir_ops.specs.declared.width.Width.{Width}
use Rattle.nir_ops.specs.Width.{width_bits}
use Rattle.rule_term.specs.Rule.{Rule}
use Rattle.rule_term.specs.Formed.{IsFormed}
use Rattle.rule_term.specs.Typings.{Occurrence, occurrences, alike, search_part, replace_part, is_typing}
use Rattle.rule_term.specs.Holds.{values_of, is_word, are_words, are_met, EqualAt}
use Rattle.rule_check.specs.declared.cases.Trial.TheVariants.{Equal, TooMany}
use Rattle.rule_check.specs.Cases.{trial_answer, trial_of, tuple, tuples, differs_at, first_difference}
use Rattle.circuit_laws.specs.VariableLaws.{are_within, within_at, stands_at, var_at, width_alike, bits_at, length-var_bits, within_from_words, typing_agrees}
use Rattle.circuit_laws.specs.Variables.{width_among, var_width, var_bits, free_bits}

-- the number of a tuple
abbrev pub number : List ℕ → List ℕ → ℕ
number [] values = 0
number (b ∷ bs) [] = 0
number (b ∷ bs) (v ∷ vs) = v * 2 ^ sum bs + number bs vs

pow-sum : (b : ℕ) (bs : List ℕ) → 2 ^ sum (b ∷ bs) ≡ 2 ^ b * 2 ^ sum bs
pow-sum b bs = ap (λ n. 2 ^ n) (sum_by-cons (λ x. x) b bs) ∙ pow-add 2 b (sum bs)

pub number_small : (bits values : List ℕ) → are_within bits values ≡ true → number bits values < 2 ^ sum bits
number_small [] [] h = omega arith
number_small [] (v ∷ vs) h = cc
number_small (b ∷ bs) [] h = cc
number_small (b ∷ bs) (v ∷ vs) h =
    let parts = and_parts (nat_lt v (2 ^ b)) (are_within bs vs) h in
    let small : v * 2 ^ sum bs + number bs vs < 2 ^ sum bs * 2 ^ b = mul-add-lt v (2 ^ sum bs) (number bs vs) (2 ^ b) (ltb-true v (2 ^ b) parts.0) (number_small bs vs parts.1) in
    omega (arith, small, pow-sum b bs)

pub tuple-number : (bits values : List ℕ) → are_within bits values ≡ true → tuple bits (number bits values) ≡ values
tuple-number [] [] h = refl
tuple-number [] (v ∷ vs) h = cc
tuple-number (b ∷ bs) [] h = cc
tuple-number (b ∷ bs) (v ∷ vs) h =
    let parts = and_parts (nat_lt v (2 ^ b)) (are_within bs vs) h in
    let small : number bs vs < 2 ^ sum bs = number_small bs vs parts.1 in
    ap (λ x. x ∷ tuple bs ((v * 2 ^ sum bs + number bs vs) % 2 ^ sum bs)) (div-mul-add v (2 ^ sum bs) (number bs vs) small)
    ∙ ap (λ x. v ∷ tuple bs x) (mod-mul-add v (2 ^ sum bs) (number bs vs) small)
    ∙ ap (λ x. v ∷ x) (tuple-number bs vs parts.1)

pub tuple_within : (bits : List ℕ) (k : ℕ) → k < 2 ^ sum bits → are_within bits (tuple bits k) ≡ true
tuple_within [] k h = refl
tuple_within (b ∷ bs) k h =
    let whole : k < 2 ^ (b + sum bs) = subst (λ n. k < 2 ^ n) (sum_by-cons (λ x. x) b bs) h in
    and_from (nat_lt (k / 2 ^ sum bs) (2 ^ b)) (are_within bs (tuple bs (k % 2 ^ sum bs)))
    (lt-ltb (k / 2 ^ sum bs) (2 ^ b) (shr_below k b (sum bs) whole))
    (tuple_within bs (k % 2 ^ sum bs) (mod_below k (2 ^ sum bs) (pow_pos (sum bs))))

pub length-tuple : (bits : List ℕ) (k : ℕ) → length (tuple bits k) ≡ length bits
length-tuple [] k = refl
length-tuple (b ∷ bs) k = ap suc (length-tuple bs (k % 2 ^ sum bs))

-- values of a formed rule are the tuple of some number
pub covers : (rule : Rule) → IsFormed rule → (widths : List Width) (values : List ℕ) → length values ≡ rule.vars → are_words rule widths values ≡ true → (k : ℕ) × (k < 2 ^ free_bits rule widths) × (tuple (var_bits rule widths) k ≡ values)
covers rule formed widths values count words =
    let within = within_from_words rule formed widths values count words in
    (number (var_bits rule widths) values, number_small (var_bits rule widths) values within, tuple-number (var_bits rule widths) values within)

-- each tuple of a typing has words of the sizes
pub words_of_tuple : (rule : Rule) (widths : List Width) → is_typing rule widths ≡ true → (k : ℕ) → k < 2 ^ free_bits rule widths → are_words rule widths (tuple (var_bits rule widths) k) ≡ true
unfolding var_width
words_of_tuple rule widths typing k small =
    let list : List Occurrence = occurrences rule.search (search_part rule widths) in
    let values : List ℕ = tuple (var_bits rule widths) k in
    let count : length values ≡ rule.vars = length-tuple (var_bits rule widths) k ∙ length-var_bits rule widths in
    list_all-from_AllPass (is_word values) list
    (λ i d within.
    let o : Occurrence = get_or list i d in
    let stands : list_any (λ x. nat_eq x o.var) (map var_at list) ≡ true = stands_at list i d within in
    let same : width_bits o.width ≡ width_bits (width_among list o.var) =
    width_alike list o (AllPass-from_list_all (λ a. list_all (alike a) list) list (typing_agrees rule widths typing) i d within) stands in
    lt-ltb (get_or values o.var 0) (2 ^ width_bits o.width)
    (⊎_elim (λ few.
    subst (λ n. get_or values o.var 0 < 2 ^ n) (bits_at rule widths o.var few ∙ sym same)
    (within_at (var_bits rule widths) values (tuple_within (var_bits rule widths) k small) o.var))
    (λ past.
    subst (λ n. n < 2 ^ width_bits o.width) (sym (get_or_past values o.var 0 (subst (λ n. n ≤ o.var) (sym count) past))) (pow_pos (width_bits o.width)))
    (cases_lt o.var rule.vars)))

-- where nothing is found, nothing passes
find_none : {A : Type 0} (test : A → Bool) (f : ℕ → A) (from count k : ℕ) → find test (map f (range_with_len from count)) ≡ None → from ≤ k → k < from + count → test (f k) ≡ false
find_none test f from zero k none low high = absurd (omega arith)
find_none test f from (suc count) k none low high =
    ⊎_elim (λ e.
    let found : Some (f from) ≡ None = subst (λ b. cond b (Some (f from)) (find test (map f (range_with_len (from + 1) count))) ≡ None) e none in
    cc)
    (λ e.
    ⊎_elim (λ same. ap (λ n. test (f n)) (sym same) ∙ e)
    (λ other. find_none test f (from + 1) count k (subst (λ b. cond b (Some (f from)) (find test (map f (range_with_len (from + 1) count))) ≡ None) e none) (omega arith) (omega arith))
    (cases_eq from k))
    (cases_Bool (test (f from)))

-- where the trial finds no difference, the sides are equal for all values
pub equal_from_none : (rule : Rule) → IsFormed rule → (widths : List Width) → first_difference rule widths ≡ None → EqualAt rule widths
unfolding first_difference tuples differs_at
equal_from_none rule formed widths none values count words met =
    let number = covers rule formed widths values count words in
    let search : List ℕ = values_of rule.search (search_part rule widths) values in
    let replace : List ℕ = values_of rule.replace (replace_part rule widths) values in
    let same : differs_at rule widths values ≡ false =
    ap (differs_at rule widths) (sym number.2) ∙ find_none (differs_at rule widths) (tuple (var_bits rule widths)) 0 (2 ^ free_bits rule widths) number.0 none (omega arith) (omega (arith, number.1)) in
    let equal : not (pointwise nat_eq search replace) ≡ false = subst (λ b. (b && not (pointwise nat_eq search replace)) ≡ false) met same in
    (bytes_decides search replace).0 (not-false (pointwise nat_eq search replace) equal)

-- what is found stands at a number and passes, and nothing before it passes
pub find_some : {A : Type 0} (test : A → Bool) (f : ℕ → A) (from count : ℕ) (x : A) → find test (map f (range_with_len from count)) ≡ Some x
    → (k : ℕ) × (k < from + count) × (f k ≡ x) × (test x ≡ true) × ((j : ℕ) → from ≤ j → j < k → test (f j) ≡ false)
find_some test f from zero x found = cc
find_some test f from (suc count) x found =
    ⊎_elim (λ e.
    let here : Some (f from) ≡ Some x = subst (λ b. cond b (Some (f from)) (find test (map f (range_with_len (from + 1) count))) ≡ Some x) e found in
    let same : f from ≡ x = cc in
    (from, omega arith, same, ap test (sym same) ∙ e, λ j low high. absurd (omega arith)))
    (λ e.
    let behind = find_some test f (from + 1) count x (subst (λ b. cond b (Some (f from)) (find test (map f (range_with_len (from + 1) count))) ≡ Some x) e found) in (
      behind.0,
      omega (arith, behind.1),
      behind.2,
      behind.3,
      λ j low high.
          ⊎_elim (λ same. ap (λ n. test (f n)) (sym same) ∙ e)
          (λ other. behind.4 j (omega arith) high)
          (cases_eq from j),
    ))
    (cases_Bool (test (f from)))

-- where the trial finds a difference, the sides are not equal
pub unequal_from_some : (rule : Rule) (widths : List Width) (values : List ℕ) → is_typing rule widths ≡ true → first_difference rule widths ≡ Some values → EqualAt rule widths → ⊥
unfolding first_difference tuples differs_at
unequal_from_some rule widths values typing found equal =
    let at = find_some (differs_at rule widths) (tuple (var_bits rule widths)) 0 (2 ^ free_bits rule widths) values found in
    let small : at.0 < 2 ^ free_bits rule widths = omega (arith, at.1) in
    let search : List ℕ = values_of rule.search (search_part rule widths) values in
    let replace : List ℕ = values_of rule.replace (replace_part rule widths) values in
    let parts = and_parts (are_met rule widths values) (not (pointwise nat_eq search replace)) at.3 in
    let count : length values ≡ rule.vars = ap length (sym at.2) ∙ length-tuple (var_bits rule widths) at.0 ∙ length-var_bits rule widths in
    let words : are_words rule widths values ≡ true = ap (are_words rule widths) (sym at.2) ∙ words_of_tuple rule widths typing at.0 small in
    both_ways (pointwise nat_eq search replace) (not-true (pointwise nat_eq search replace) parts.1) ((bytes_decides search replace).1 (equal values count words parts.0))

none_from_equal : (many : Bool) (found : Option (List ℕ)) → cond many TooMany (trial_answer found) ≡ Equal → found ≡ None
none_from_equal true found answer = cc
none_from_equal false None answer = refl
none_from_equal false (Some values) answer = cc

-- the answer that the sides are equal
pub equal_from_trial : (rule : Rule) → IsFormed rule → (widths : List Width) → trial_of rule widths ≡ Equal → EqualAt rule widths
unfolding trial_of
equal_from_trial rule formed widths answer = equal_from_none rule formed widths (none_from_equal (nat_lt 16 (free_bits rule widths)) (first_difference rule widths) answer)
