-- Words that meet the conditions of a rule make the clauses of the conditions true.
use Rattle.std.proofs.Common.{◌≡◌, ℕ, zero, suc, ◌+◌, ◌-◌, ◌*◌, ◌/◌, ◌%◌, ◌^◌, ◌<◌, ◌≤◌, List, [], ◌∷◌, ◌++◌, length, take, drop, refl, sym, ◌∙◌, ap, subst, arith, Bool, true, false, not, ◌||◌, nat_lt, bit_and, mod-eq_of_lt, ⊎_elim, append_assoc}
use Rattle.std.specs.Prelude.{nat_eq}
use Rattle.std.specs.List.{list_any, range_with_len}
use Rattle.std.proofs.lemmas.Bool.{and_parts, ltb-true, lt-ltb, eqb-true, ne_eqb, or_cases, false≢true}
use Rattle.std.proofs.lemmas.Nat.{and_mask, pow_pos}
use Rattle.std.proofs.Math.Nat.{mod_self, div-eq_of_lt}
use lib.Pow.{pow-lt}
use Rattle.op_laws.specs.Sums.{same_rest}
use Rattle.rule_term.specs.declared.cond.Cond.{Cond}
use Rattle.rule_term.specs.declared.cond.Cond.TheVariants.{PosPow2, NegPow2, MultipleOf4, UpperHalfZero, LowerHalfZero, NotConst, UsedOnce}
use Rattle.rule_term.specs.Conditions.{cond_holds}
use Rattle.circuit_laws.specs.Literals.{Lit, lit, bit, word, some_of, all_of, constant}
use Rattle.circuit_laws.specs.Gates.{Gate, AreMade, AreBelow, AreOrdered}
use Rattle.circuit_laws.specs.Blocks.{Block, Sum, behind, and_word, subtracter, negation, top}
use Rattle.circuit_laws.specs.RuleClauses.{all_false, below_top, cond_part}
use Rattle.circuit_laws.specs.WordLaws.{lit_negated, word_take, word_drop, constant_is, constant_length, below_constant, below_later}
use Rattle.circuit_laws.specs.GateLaws.{all_joined, made_parts, ordered_joined}
use Rattle.circuit_laws.specs.RowLaws.{and_is}
use Rattle.circuit_laws.specs.SumLaws.{subtracter_rest, subtracter_length, subtracter_ordered, subtracter_below, negation_is, negation_length, negation_ordered, negation_below}
use Rattle.circuit_laws.specs.BitLaws.{and_block}
use Rattle.circuit_laws.specs.ResizeLaws.{top_is}

-- ---- literals of a word that is 0, and of one that is not

low_bit : (b : Bool) (v : ℕ) → bit b + 2 * v ≡ 0 → (b ≡ false) × (v ≡ 0)
low_bit true v h = absurd (omega (arith, h))
low_bit false v h = (refl, omega (arith, h))

pub all_false_true : (α : ℕ → Bool) (ls : List Lit) → word α ls ≡ 0 → all_of α (all_false ls) ≡ true
all_false_true α [] h = refl
all_false_true α (l ∷ ls) h =
    let parts = low_bit (lit α l) (word α ls) h in
    rw (lit_negated α l, parts.0, all_false_true α ls parts.1) refl

one_or : (b : Bool) (v : ℕ) (rest : Bool) → 0 < bit b + 2 * v → (0 < v → rest ≡ true) → (b || rest) ≡ true
one_or true v rest h g = refl
one_or false v rest h g = g (omega (arith, h))

pub some_true : (α : ℕ → Bool) (ls : List Lit) → 0 < word α ls → some_of α ls ≡ true
some_true α [] h = absurd (omega (arith, h))
some_true α (l ∷ ls) h = one_or (lit α l) (word α ls) (some_of α ls) h (some_true α ls)

-- ---- powers of two

-- a power of two has no bit in common with the number before it
power_apart : (k : ℕ) → bit_and (2 ^ k) (2 ^ k - 1) ≡ 0
power_apart k = and_mask (2 ^ k) k ∙ mod_self (2 ^ k)

-- a number that one of these is
some_among : (f : ℕ → ℕ) (v from count : ℕ) → list_any (λ k. nat_eq v (f k)) (range_with_len from count) ≡ true → (k : ℕ) × (k < from + count) × (v ≡ f k)
some_among f v from zero met = absurd (false≢true met)
some_among f v from (suc count) met =
    ⊎_elim (λ here. (from, omega arith, eqb-true v (f from) here))
    (λ behind. let found = some_among f v (from + 1) count behind in (found.0, omega (arith, found.1), found.2))
    (or_cases (nat_eq v (f from)) (list_any (λ k. nat_eq v (f k)) (range_with_len (from + 1) count)) met)

-- the number before the one that a word stands for; the word has w bits
abbrev before_of : ℕ → List Lit → ℕ → Sum
before_of w xs n = subtracter xs (constant w 1) n

abbrev apart : ℕ → List Lit → ℕ → Block
apart w xs n = and_word xs (before_of w xs n).word (behind n (before_of w xs n).gates)

constant_fits : (w : ℕ) (xs : List Lit) → length xs ≡ w → length xs ≡ length (constant w 1)
constant_fits w xs e = e ∙ sym (constant_length w 1)

before_fits : (w : ℕ) (xs : List Lit) (n : ℕ) → length xs ≡ w → length xs ≡ length (before_of w xs n).word
before_fits w xs n e = sym (subtracter_length xs (constant w 1) n (constant_fits w xs e))

-- the number before a power of two
before_is : (α : ℕ → Bool) (w : ℕ) (xs : List Lit) (n k : ℕ) → length xs ≡ w → k < w → word α xs ≡ 2 ^ k → α 0 ≡ true → AreMade α n (before_of w xs n).gates
    → word α (before_of w xs n).word ≡ 2 ^ k - 1
before_is α w xs n k e small is t h =
    let p : 0 < 2 ^ k = pow_pos k in
    let less : 2 ^ k < 2 ^ w = pow-lt small in
    let one : word α (constant w 1) ≡ 1 = constant_is α w 1 t ∙ mod-eq_of_lt (omega (arith, p, less)) in
    let last : 2 ^ k - 1 < 2 ^ w = omega (arith, less) in
    subtracter_rest α xs (constant w 1) n (constant_fits w xs e) t h
    ∙ rw (one, is, e) (same_rest (2 ^ w) (2 ^ k + (2 ^ w - 1)) (2 ^ k - 1) 0 1 (omega (arith, p, less)))
    ∙ mod-eq_of_lt last

-- so both have no bit in common
apart_is : (α : ℕ → Bool) (w : ℕ) (xs : List Lit) (n k : ℕ) → length xs ≡ w → k < w → word α xs ≡ 2 ^ k → α 0 ≡ true
    → AreMade α n ((before_of w xs n).gates ++ (apart w xs n).gates) → word α (apart w xs n).word ≡ 0
apart_is α w xs n k e small is t h =
    let before : Sum = before_of w xs n in
    let parts = made_parts α n before.gates (apart w xs n).gates h in
    and_is α xs before.word (behind n before.gates) (before_fits w xs n e) parts.1
    ∙ rw (is, before_is α w xs n k e small is t parts.0) (power_apart k)

apart_ordered : (w : ℕ) (xs : List Lit) (n : ℕ) → length xs ≡ w → 0 < n → AreBelow n xs → AreOrdered n ((before_of w xs n).gates ++ (apart w xs n).gates)
apart_ordered w xs n e p f =
    let before : Sum = before_of w xs n in
    let later : n ≤ behind n before.gates = omega arith in
    ordered_joined n before.gates (apart w xs n).gates
    (subtracter_ordered xs (constant w 1) n p f (below_constant n w 1 p))
    (and_block (behind n before.gates) xs before.word (before_fits w xs n e) (below_later n (behind n before.gates) xs later f) (subtracter_below xs (constant w 1) n)).ordered

-- ---- each condition

-- the gates of a condition make what they are to make, and the word meets it: its clauses are true
abbrev pub DemandsTrue : Cond → Type 0
DemandsTrue cond =
    (α : ℕ → Bool) (xs : List Lit) (n : ℕ) → α 0 ≡ true → cond_holds cond (length xs) (word α xs) ≡ true → AreMade α n (cond_part cond xs n).gates
    → all_of α (cond_part cond xs n).demands ≡ true

pos_at : (α : ℕ → Bool) (xs : List Lit) (n k : ℕ) → α 0 ≡ true → k < length xs - 1 → word α xs ≡ 2 ^ k → AreMade α n (cond_part PosPow2 xs n).gates
    → all_of α (cond_part PosPow2 xs n).demands ≡ true
unfolding cond_part
pos_at α xs n k t few is h =
    let w : ℕ = length xs in
    let small : k < w = omega (arith, few) in
    let half : 2 ^ k < 2 ^ (w - 1) = pow-lt few in
    let p : 0 < 2 ^ k = pow_pos k in
    let low : word α (below_top xs) ≡ 2 ^ k = word_take α (w - 1) xs ∙ ap (λ v. v % 2 ^ (w - 1)) is ∙ mod-eq_of_lt half in
    let off : lit α (top xs) ≡ false = top_is α xs (omega (arith, small)) ∙ ap (λ v. not (nat_lt v (2 ^ (w - 1)))) is ∙ ap not (lt-ltb (2 ^ k) (2 ^ (w - 1)) half) in
    let some_low : some_of α (below_top xs) ≡ true = some_true α (below_top xs) (omega (arith, low, p)) in
    all_joined α (all_false (apart w xs n).word) _
    (all_false_true α (apart w xs n).word (apart_is α w xs n k refl small is t h))
    (rw (some_low, lit_negated α (top xs), off) refl)

pos_true : DemandsTrue PosPow2
unfolding cond_holds
pos_true α xs n t met h =
    let found = some_among (λ k. 2 ^ k) (word α xs) 0 (length xs - 1) met in
    pos_at α xs n found.0 t (omega (arith, found.1)) found.2 h

neg_at : (α : ℕ → Bool) (xs : List Lit) (n k : ℕ) → α 0 ≡ true → k < length xs → word α xs ≡ 2 ^ length xs - 2 ^ k → AreMade α n (cond_part NegPow2 xs n).gates
    → all_of α (cond_part NegPow2 xs n).demands ≡ true
unfolding cond_part
neg_at α xs n k t small is h =
    let w : ℕ = length xs in
    let less : 2 ^ k < 2 ^ w = pow-lt small in
    let p : 0 < 2 ^ k = pow_pos k in
    let minus : Sum = negation xs n in
    let from : ℕ = behind n minus.gates in
    let before : Sum = before_of w minus.word from in
    let both : List Gate = (apart w minus.word from).gates in
    let parts = made_parts α n minus.gates (before.gates ++ both) (subst (AreMade α n) (append_assoc minus.gates before.gates both) h) in
    let whole : 2 ^ w - (2 ^ w - 2 ^ k) ≡ 2 ^ k = omega (arith, less) in
    let minus_is : word α minus.word ≡ 2 ^ k =
    negation_is α xs n t parts.0 ∙ ap (λ v. (2 ^ w - v) % 2 ^ w) is ∙ ap (λ v. v % 2 ^ w) whole ∙ mod-eq_of_lt less in
    let some_bit : some_of α minus.word ≡ true = some_true α minus.word (omega (arith, minus_is, p)) in
    all_joined α (all_false (apart w minus.word from).word) _
    (all_false_true α (apart w minus.word from).word (apart_is α w minus.word from k (negation_length xs n) small minus_is t parts.1))
    (rw some_bit refl)

neg_true : DemandsTrue NegPow2
unfolding cond_holds
neg_true α xs n t met h =
    let found = some_among (λ k. 2 ^ length xs - 2 ^ k) (word α xs) 0 (length xs) met in
    neg_at α xs n found.0 t (omega (arith, found.1)) found.2 h

multiple_true : DemandsTrue MultipleOf4
unfolding cond_holds cond_part
multiple_true α xs n t met h = all_false_true α (take 2 xs) (word_take α 2 xs ∙ eqb-true (word α xs % 4) 0 met)

upper_true : DemandsTrue UpperHalfZero
unfolding cond_holds cond_part
upper_true α xs n t met h =
    let w : ℕ = length xs in
    let parts = and_parts (nat_lt 1 w) (nat_lt (word α xs) (2 ^ (w / 2))) met in
    let many : 1 < w = ltb-true 1 w parts.0 in
    rw (ne_eqb w 1 (λ e. omega (arith, e, many)))
    (all_false_true α (drop (w / 2) xs) (word_drop α (w / 2) xs ∙ div-eq_of_lt (ltb-true (word α xs) (2 ^ (w / 2)) parts.1)))

lower_true : DemandsTrue LowerHalfZero
unfolding cond_holds cond_part
lower_true α xs n t met h =
    let w : ℕ = length xs in
    let parts = and_parts (nat_lt 1 w) (nat_eq (word α xs % 2 ^ (w / 2)) 0) met in
    let many : 1 < w = ltb-true 1 w parts.0 in
    rw (ne_eqb w 1 (λ e. omega (arith, e, many)))
    (all_false_true α (take (w / 2) xs) (word_take α (w / 2) xs ∙ eqb-true (word α xs % 2 ^ (w / 2)) 0 parts.1))

not_const_true : DemandsTrue NotConst
unfolding cond_part
not_const_true α xs n t met h = refl

used_once_true : DemandsTrue UsedOnce
unfolding cond_part
used_once_true α xs n t met h = refl

pub demands_true : (cond : Cond) → DemandsTrue cond
demands_true PosPow2 = pos_true
demands_true NegPow2 = neg_true
demands_true MultipleOf4 = multiple_true
demands_true UpperHalfZero = upper_true
demands_true LowerHalfZero = lower_true
demands_true NotConst = not_const_true
demands_true UsedOnce = used_once_true

pub cond_ordered : (cond : Cond) (xs : List Lit) (n : ℕ) → 0 < n → AreBelow n xs → AreOrdered n (cond_part cond xs n).gates
unfolding cond_part
cond_ordered PosPow2 xs n p f = apart_ordered (length xs) xs n refl p f
cond_ordered NegPow2 xs n p f =
    let w : ℕ = length xs in
    let minus : Sum = negation xs n in
    let from : ℕ = behind n minus.gates in
    let before : Sum = before_of w minus.word from in
    let both : List Gate = (apart w minus.word from).gates in
    subst (AreOrdered n) (sym (append_assoc minus.gates before.gates both))
    (ordered_joined n minus.gates (before.gates ++ both) (negation_ordered xs n p f)
    (apart_ordered w minus.word from (negation_length xs n) (omega (arith, p)) (negation_below xs n)))
cond_ordered MultipleOf4 xs n p f = tt
cond_ordered UpperHalfZero xs n p f = tt
cond_ordered LowerHalfZero xs n p f = tt
cond_ordered NotConst xs n p f = tt
cond_ordered UsedOnce xs n p f = tt
