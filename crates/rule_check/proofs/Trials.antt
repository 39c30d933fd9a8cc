-- The trial tuple by tuple, and what it answers.
use Rattle.std.proofs.Common.{◌≡◌, ℕ, suc, ◌+◌, ◌-◌, ◌*◌, ◌^◌, ◌<◌, ◌≤◌, Bool, true, false, ◌&&◌, Option, Some, None, List, [], ◌∷◌, length, map, get_or, sym, ◌∙◌, ap, subst, arith}
use Rattle.std.specs.Prelude.{not, nat_eq, cond}
use Rattle.std.specs.List.{find, range_with_len, sum, All}
use Rattle.std.specs.Cmp.Lexicographic.{pointwise}
use Rattle.std.proofs.Math.Bool.{and-true}
use Rattle.std.proofs.lemmas.Bool.{lt-ltb, le-ltb}
use Rattle.std.proofs.lemmas.List.Sums.{sum_by-le}
use Rattle.std.proofs.lemmas.List.Elements.{All-map}
use Rattle.nir_ops.specs.declared.width.Width.{Width}
use Rattle.nir_ops.specs.declared.width.Width.TheVariants.{W1, W8, W16, W32, W64}
use Rattle.nir_ops.specs.Width.{width_bits}
use Rattle.rule_term.specs.Rule.{Rule}
use Rattle.rule_term.specs.Typings.{search_part, replace_part, is_typing}
use Rattle.rule_term.specs.Holds.{values_of, are_met, are_words}
use Rattle.rule_check.specs.declared.cases.Trial.TheVariants.{TooMany}
use Rattle.rule_check.specs.Cases.{tuple, tuples, differs_at, first_difference, trial_answer, trial_of}
use Rattle.circuit_laws.specs.Variables.{var_width, var_bits, free_bits}
use Rattle.rule_check.specs.CasesLaws.{length-tuple, words_of_tuple}
use Rattle.circuit_laws.specs.VariableLaws.{length-var_bits}

pub differs_unmet : (rule : Rule) (widths : List Width) (values : List ℕ) → are_met rule widths values ≡ false → differs_at rule widths values ≡ false
unfolding differs_at
differs_unmet rule widths values unmet =
    ap (λ b. b && not (pointwise nat_eq (values_of rule.search (search_part rule widths) values) (values_of rule.replace (replace_part rule widths) values))) unmet

pub differs_met : (rule : Rule) (widths : List Width) (values : List ℕ) (x y : ℕ) → are_met rule widths values ≡ true
    → values_of rule.search (search_part rule widths) values ≡ x ∷ [] → values_of rule.replace (replace_part rule widths) values ≡ y ∷ []
    → differs_at rule widths values ≡ not (nat_eq x y)
unfolding differs_at
differs_met rule widths values x y met search replace =
    ap (λ b. b && not (pointwise nat_eq (values_of rule.search (search_part rule widths) values) (values_of rule.replace (replace_part rule widths) values))) met
    ∙ ap (λ l. not (pointwise nat_eq l (values_of rule.replace (replace_part rule widths) values))) search
    ∙ ap (λ l. not (pointwise nat_eq (x ∷ []) l)) replace
    ∙ ap not (and-true (nat_eq x y))

-- a search through the values at the numbers from a place on
pub find_here : {A : Type 0} (test : A → Bool) (f : ℕ → A) (k end : ℕ) → k < end → test (f k) ≡ true → find test (map f (range_with_len k (end - k))) ≡ Some (f k)
find_here test f k end within passes =
    let more : end - k ≡ suc (end - (k + 1)) = omega arith in
    ap (λ n. find test (map f (range_with_len k n))) more
    ∙ ap (λ b. cond b (Some (f k)) (find test (map f (range_with_len (k + 1) (end - (k + 1)))))) passes

pub find_next : {A : Type 0} (test : A → Bool) (f : ℕ → A) (k end : ℕ) → k < end → test (f k) ≡ false → find test (map f (range_with_len k (end - k))) ≡ find test (map f (range_with_len (k + 1) (end - (k + 1))))
find_next test f k end within fails =
    let more : end - k ≡ suc (end - (k + 1)) = omega arith in
    ap (λ n. find test (map f (range_with_len k n))) more
    ∙ ap (λ b. cond b (Some (f k)) (find test (map f (range_with_len (k + 1) (end - (k + 1)))))) fails

pub find_end : {A : Type 0} (test : A → Bool) (f : ℕ → A) (k end : ℕ) → end ≤ k → find test (map f (range_with_len k (end - k))) ≡ None
find_end test f k end past =
    let none : end - k ≡ 0 = omega arith in
    ap (λ n. find test (map f (range_with_len k n))) none

pub first_difference-all : (rule : Rule) (widths : List Width) (bits : List ℕ) → bits ≡ var_bits rule widths → find (differs_at rule widths) (map (tuple bits) (range_with_len 0 (2 ^ sum bits - 0))) ≡ first_difference rule widths
unfolding first_difference tuples
first_difference-all rule widths bits same =
    let whole : 2 ^ sum bits - 0 ≡ 2 ^ sum bits = omega arith in
    ap (λ n. find (differs_at rule widths) (map (tuple bits) (range_with_len 0 n))) whole
    ∙ ap (λ l. find (differs_at rule widths) (tuples l)) same

-- the values of a number are one word for each variable
pub count_of_tuple : (rule : Rule) (widths : List Width) (bits : List ℕ) (k : ℕ) → bits ≡ var_bits rule widths → length (tuple bits k) ≡ rule.vars
count_of_tuple rule widths bits k same = length-tuple bits k ∙ ap length same ∙ length-var_bits rule widths

pub words_of_number : (rule : Rule) (widths : List Width) (bits : List ℕ) (k : ℕ) → bits ≡ var_bits rule widths → is_typing rule widths ≡ true → k < 2 ^ sum bits → are_words rule widths (tuple bits k) ≡ true
words_of_number rule widths bits k same typing small =
    ap (λ l. are_words rule widths (tuple l k)) same ∙ words_of_tuple rule widths typing k (subst (λ l. k < 2 ^ sum l) same small)

-- a variable has at most 64 bits
width_bits-le : (width : Width) → width_bits width ≤ 64
width_bits-le W1 = omega arith
width_bits-le W8 = omega arith
width_bits-le W16 = omega arith
width_bits-le W32 = omega arith
width_bits-le W64 = omega arith

pub free_bits-le : (rule : Rule) (widths : List Width) (bits : List ℕ) → bits ≡ var_bits rule widths → sum bits ≤ length bits * 64
free_bits-le rule widths bits same =
    let list : List ℕ = range_with_len 0 rule.vars in
    let each : All (λ n. n ≤ 64) (var_bits rule widths) = All-map (λ n. n ≤ 64) (λ var. width_bits (var_width rule widths var)) list (λ k d within. width_bits-le (var_width rule widths (get_or list k d))) in
    subst (λ l. sum l ≤ length l * 64) (sym same) (sum_by-le (λ n. n) 64 (var_bits rule widths) each)

pub trial-many : (rule : Rule) (widths : List Width) (free : ℕ) → free ≡ free_bits rule widths → 16 < free → TooMany ≡ trial_of rule widths
unfolding trial_of
trial-many rule widths free same many = sym (ap (λ b. cond b TooMany (trial_answer (first_difference rule widths))) (lt-ltb 16 (free_bits rule widths) (subst (λ n. 16 < n) same many)))

pub trial-few : (rule : Rule) (widths : List Width) (free : ℕ) (answer : Option (List ℕ)) → free ≡ free_bits rule widths → free ≤ 16 → answer ≡ first_difference rule widths → trial_answer answer ≡ trial_of rule widths
unfolding trial_of
trial-few rule widths free answer same few found =
    ap trial_answer found
    ∙ sym (ap (λ b. cond b TooMany (trial_answer (first_difference rule widths))) (le-ltb 16 (free_bits rule widths) (subst (λ n. n ≤ 16) same few)))
