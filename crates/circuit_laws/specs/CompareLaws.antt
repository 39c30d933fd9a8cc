-- Laws of comparisons.
use Rattle.std.proofs.Common.{◌≡◌, ℕ, suc, ◌+◌, ◌-◌, ◌*◌, ◌^◌, ◌<◌, ◌≤◌, List, [], ◌∷◌, length, refl, sym, ◌∙◌, ap, subst, arith, Bool, true, false, not, ◌&&◌, pow-suc, nat_lt, pos, ◌-ℤ◌, ⊎_elim, ◌⊎◌, inl, inr}
use Rattle.std.specs.Prelude.{◌==◌, nat_le}
use Rattle.std.specs.Int.RustNames.{int_lt}
use Rattle.std.proofs.lemmas.Int.{ints}
use Rattle.std.proofs.lemmas.Bool.{lt-ltb, le-ltb, lt-leb, le-leb, ne_eqb}
use Rattle.op_eval.specs.Word.{signed}
use Rattle.circuit_laws.specs.Literals.{Lit, Is, lit, bit, word, negated, no}
use Rattle.circuit_laws.specs.Gates.{differ, AreMade, IsBelow, AreBelow, AreOrdered}
use Rattle.circuit_laws.specs.Blocks.{adder, subtracter, less_unsigned, less_signed, top_negated, equality}
use Rattle.circuit_laws.specs.WordLaws.{lit_negated, bit_small, word_small, negated_below, below_later}
use Rattle.circuit_laws.specs.SumLaws.{adder_is, adder_small, subtracter_is, subtracter_small, subtracter_ordered, borrow_below}

-- ---- carries

carry_is : (b : Bool) (s m t : ℕ) → s < m → s + m * bit b ≡ t → b ≡ nat_le m t
carry_is true s m t f e = sym (le-leb m t (omega (arith, e)))
carry_is false s m t f e = sym (lt-leb m t (omega (arith, e)))

-- the carry of a sum
pub carry_of_sum : (α : ℕ → Bool) (xs ys : List Lit) (n : ℕ) → length xs ≡ length ys → α 0 ≡ true → AreMade α n (adder xs ys no n).gates →
    lit α (adder xs ys no n).carry ≡ nat_le (2 ^ length xs) (word α xs + word α ys)
carry_of_sum α xs ys n e t h =
    let none : bit (lit α no) ≡ 0 = ap (λ b. bit (not b)) t in
    let whole = adder_is α xs ys no n e h in
    carry_is (lit α (adder xs ys no n).carry) (word α (adder xs ys no n).word) (2 ^ length xs) (word α xs + word α ys) (adder_small α xs ys no n e) (omega (arith, whole, none))

borrowed : (b : Bool) (s m x y : ℕ) → s < m → s + m * bit b + y ≡ x + m → not b ≡ nat_lt x y
borrowed true s m x y f e = sym (le-ltb x y (omega (arith, e)))
borrowed false s m x y f e = sym (lt-ltb x y (omega (arith, e)))

-- ---- less, of unsigned readings

-- the word of one literal
pub bit_word : (α : ℕ → Bool) (l : Lit) → word α (l ∷ []) ≡ bit (lit α l)
bit_word α l = omega arith

pub borrow_is : (α : ℕ → Bool) (xs ys : List Lit) (n : ℕ) → length xs ≡ length ys → α 0 ≡ true → AreMade α n (subtracter xs ys n).gates →
    not (lit α (subtracter xs ys n).carry) ≡ nat_lt (word α xs) (word α ys)
borrow_is α xs ys n e t h =
    borrowed (lit α (subtracter xs ys n).carry) (word α (subtracter xs ys n).word) (2 ^ length xs) (word α xs) (word α ys) (subtracter_small α xs ys n e) (subtracter_is α xs ys n e t h)

pub less_unsigned_is : (α : ℕ → Bool) (xs ys : List Lit) (n : ℕ) → length xs ≡ length ys → α 0 ≡ true → AreMade α n (less_unsigned xs ys n).gates →
    lit α (negated (subtracter xs ys n).carry) ≡ nat_lt (word α xs) (word α ys)
less_unsigned_is α xs ys n e t h = lit_negated α (subtracter xs ys n).carry ∙ borrow_is α xs ys n e t h

pub less_unsigned_ordered : (xs ys : List Lit) (n : ℕ) → 0 < n → AreBelow n xs → AreBelow n ys → AreOrdered n (less_unsigned xs ys n).gates
less_unsigned_ordered xs ys n p f g = subtracter_ordered xs ys n p f g

pub less_unsigned_below : (xs ys : List Lit) (n : ℕ) → 0 < n → AreBelow (n + length (less_unsigned xs ys n).gates) (less_unsigned xs ys n).word
less_unsigned_below xs ys n p = (negated_below (n + length (subtracter xs ys n).gates) (subtracter xs ys n).carry (borrow_below xs ys n p), tt)

-- ---- less, of signed readings: the order of the words with their top bits negated

-- half of the power is added below it, and taken off above
abbrev TopTurned : ℕ → ℕ → ℕ → Type 0
TopTurned half x y = ((x < half) × (y ≡ x + half)) ⊎ ((half ≤ x) × (x ≡ y + half))

one_turned : (b : Bool) → TopTurned 1 (bit b + 2 * 0) (bit (not b) + 2 * 0)
one_turned true = inr (omega arith, refl)
one_turned false = inl (omega arith, refl)

top_turned : (α : ℕ → Bool) (l : Lit) (ls : List Lit) → TopTurned (2 ^ length ls) (word α (l ∷ ls)) (word α (top_negated (l ∷ ls)))
unfolding top_negated
top_turned α l [] = rw (lit_negated α l) (one_turned (lit α l))
top_turned α l (m ∷ ls) = ⊎_elim low high (top_turned α m ls)
  where
    double : 2 ^ suc (length ls) ≡ 2 ^ length ls * 2
    double = pow-suc 2 (length ls)

    b : bit (lit α l) < 2
    b = bit_small (lit α l)

    low : (word α (m ∷ ls) < 2 ^ length ls) × (word α (top_negated (m ∷ ls)) ≡ word α (m ∷ ls) + 2 ^ length ls)
        → TopTurned (2 ^ length (m ∷ ls)) (word α (l ∷ m ∷ ls)) (word α (top_negated (l ∷ m ∷ ls)))
    low h = inl (omega (arith, h.0, double, b), omega (arith, h.1, double))

    high : (2 ^ length ls ≤ word α (m ∷ ls)) × (word α (m ∷ ls) ≡ word α (top_negated (m ∷ ls)) + 2 ^ length ls)
        → TopTurned (2 ^ length (m ∷ ls)) (word α (l ∷ m ∷ ls)) (word α (top_negated (l ∷ m ∷ ls)))
    high h = inr (omega (arith, h.0, double), omega (arith, h.1, double))

-- a signed reading, moved up by half of the power, is the word with its top bit turned
signed_turned : (n x y : ℕ) → x < 2 ^ suc n → TopTurned (2 ^ n) x y → signed (suc n) x ≡ pos y -ℤ pos (2 ^ n)
unfolding signed
signed_turned n x y f (inl h) =
    let same : suc n - 1 ≡ n = omega arith in
    rw (same, lt-ltb x (2 ^ n) h.0) (omega (arith, ints, h.1))
signed_turned n x y f (inr h) =
    let same : suc n - 1 ≡ n = omega arith in
    rw (same, le-ltb x (2 ^ n) h.0) (omega (arith, ints, h.1, pow-suc 2 n, f))

moved_order : (a b c : ℕ) → int_lt (pos a -ℤ pos c) (pos b -ℤ pos c) ≡ nat_lt a b
moved_order a b c = grind (arith, ints)

order_more : (α : ℕ → Bool) (x y : Lit) (xs ys : List Lit) → length xs ≡ length ys →
    nat_lt (word α (top_negated (x ∷ xs))) (word α (top_negated (y ∷ ys))) ≡ int_lt (signed (suc (length xs)) (word α (x ∷ xs))) (signed (suc (length xs)) (word α (y ∷ ys)))
order_more α x y xs ys e =
    let left = signed_turned (length xs) (word α (x ∷ xs)) (word α (top_negated (x ∷ xs))) (word_small α (x ∷ xs)) (top_turned α x xs) in
    let fits : word α (y ∷ ys) < 2 ^ suc (length xs) = subst (λ n. word α (y ∷ ys) < 2 ^ suc n) (sym e) (word_small α (y ∷ ys)) in
    let turned : TopTurned (2 ^ length xs) (word α (y ∷ ys)) (word α (top_negated (y ∷ ys))) =
    subst (λ n. TopTurned (2 ^ n) (word α (y ∷ ys)) (word α (top_negated (y ∷ ys)))) (sym e) (top_turned α y ys) in
    let right = signed_turned (length xs) (word α (y ∷ ys)) (word α (top_negated (y ∷ ys))) fits turned in
    sym (rw (left, right) (moved_order (word α (top_negated (x ∷ xs))) (word α (top_negated (y ∷ ys))) (2 ^ length xs)))

pub signed_order : (α : ℕ → Bool) (xs ys : List Lit) → 1 ≤ length xs → length xs ≡ length ys →
    nat_lt (word α (top_negated xs)) (word α (top_negated ys)) ≡ int_lt (signed (length xs) (word α xs)) (signed (length xs) (word α ys))
signed_order α [] ys some e = absurd (omega (arith, some))
signed_order α (x ∷ xs) [] some e = absurd (omega (arith, e))
signed_order α (x ∷ xs) (y ∷ ys) some e = order_more α x y xs ys (omega (arith, e))

pub top_negated_length : (ls : List Lit) → length (top_negated ls) ≡ length ls
unfolding top_negated
top_negated_length [] = refl
top_negated_length (l ∷ []) = refl
top_negated_length (l ∷ m ∷ ls) = ap suc (top_negated_length (m ∷ ls))

top_negated_below : (n : ℕ) (ls : List Lit) → AreBelow n ls → AreBelow n (top_negated ls)
unfolding top_negated
top_negated_below n [] h = tt
top_negated_below n (l ∷ []) h = (negated_below n l h.0, tt)
top_negated_below n (l ∷ m ∷ ls) h = (h.0, top_negated_below n (m ∷ ls) h.1)

turned_fit : (xs ys : List Lit) → length xs ≡ length ys → length (top_negated xs) ≡ length (top_negated ys)
turned_fit xs ys e = top_negated_length xs ∙ e ∙ sym (top_negated_length ys)

-- the literal that tells
abbrev pub signed_test : List Lit → List Lit → ℕ → Lit
signed_test xs ys n = negated (subtracter (top_negated xs) (top_negated ys) n).carry

pub less_signed_is : (α : ℕ → Bool) (xs ys : List Lit) (n : ℕ) → 1 ≤ length xs → length xs ≡ length ys → α 0 ≡ true → AreMade α n (less_signed xs ys n).gates →
    lit α (signed_test xs ys n) ≡ int_lt (signed (length xs) (word α xs)) (signed (length xs) (word α ys))
less_signed_is α xs ys n some e t h = less_unsigned_is α (top_negated xs) (top_negated ys) n (turned_fit xs ys e) t h ∙ signed_order α xs ys some e

pub less_signed_ordered : (xs ys : List Lit) (n : ℕ) → 0 < n → AreBelow n xs → AreBelow n ys → AreOrdered n (less_signed xs ys n).gates
less_signed_ordered xs ys n p f g = less_unsigned_ordered (top_negated xs) (top_negated ys) n p (top_negated_below n xs f) (top_negated_below n ys g)

pub less_signed_below : (xs ys : List Lit) (n : ℕ) → 0 < n → AreBelow (n + length (less_signed xs ys n).gates) (less_signed xs ys n).word
less_signed_below xs ys n p = less_unsigned_below (top_negated xs) (top_negated ys) n p

-- ---- equality

word_parts : (p q : Bool) (t u : ℕ) → (bit p + 2 * t == bit q + 2 * u) ≡ (not (differ p q) && (t == u))
word_parts true true t u = grind arith
word_parts true false t u = ne_eqb (1 + 2 * t) (0 + 2 * u) (λ e. omega (arith, e))
word_parts false true t u = ne_eqb (0 + 2 * t) (1 + 2 * u) (λ e. omega (arith, e))
word_parts false false t u = grind arith

and_joined : (p q r : Bool) → ((p && q) && r) ≡ (p && (q && r))
and_joined true q r = refl
and_joined false q r = refl

-- the word of the test is 1 where it holds
pub bit_both : (b : Bool) → bit b + 2 * 0 ≡ bit (b && true)
bit_both true = refl
bit_both false = refl

pub equality_is : (α : ℕ → Bool) (xs ys : List Lit) (e : Lit) (n : ℕ) → length xs ≡ length ys → AreMade α n (equality xs ys e n).gates →
    word α (equality xs ys e n).word ≡ bit (lit α e && (word α xs == word α ys))
unfolding equality
equality_is α [] [] e n h g = bit_both (lit α e)
equality_is α [] (y ∷ ys) e n h g = absurd (omega (arith, h))
equality_is α (x ∷ xs) [] e n h g = absurd (omega (arith, h))
equality_is α (x ∷ xs) (y ∷ ys) e n h g =
    let so_far : α (suc n) ≡ (lit α e && not (differ (lit α x) (lit α y))) = g.1.0 ∙ ap (λ b. lit α e && not b) g.0 in
    equality_is α xs ys (Is (suc n)) (suc (suc n)) (omega (arith, h)) g.1.1
    ∙ ap bit
    (ap (λ b. b && (word α xs == word α ys)) so_far
    ∙ and_joined (lit α e) (not (differ (lit α x) (lit α y))) (word α xs == word α ys)
    ∙ ap (λ b. lit α e && b) (sym (word_parts (lit α x) (lit α y) (word α xs) (word α ys))))

pub equality_length : (xs ys : List Lit) (e : Lit) (n : ℕ) → length (equality xs ys e n).word ≡ 1
unfolding equality
equality_length [] ys e n = refl
equality_length (x ∷ xs) [] e n = refl
equality_length (x ∷ xs) (y ∷ ys) e n = equality_length xs ys (Is (suc n)) (suc (suc n))

pub equality_ordered : (xs ys : List Lit) (e : Lit) (n : ℕ) → AreBelow n xs → AreBelow n ys → IsBelow n e → AreOrdered n (equality xs ys e n).gates
unfolding equality
equality_ordered [] ys e n f g h = tt
equality_ordered (x ∷ xs) [] e n f g h = tt
equality_ordered (x ∷ xs) (y ∷ ys) e n f g h = (
  (f.0, g.0),
  (
    (omega (arith, h), omega arith),
    equality_ordered xs ys (Is (suc n)) (suc (suc n)) (below_later n (suc (suc n)) xs (omega arith) f.1) (below_later n (suc (suc n)) ys (omega arith) g.1) (omega arith),
  ),
)

pub equality_below : (xs ys : List Lit) (e : Lit) (n : ℕ) → IsBelow n e → AreBelow (n + length (equality xs ys e n).gates) (equality xs ys e n).word
unfolding equality
equality_below [] ys e n h = (omega (arith, h), tt)
equality_below (x ∷ xs) [] e n h = (omega (arith, h), tt)
equality_below (x ∷ xs) (y ∷ ys) e n h =
    subst (λ m. AreBelow m (equality xs ys (Is (suc n)) (suc (suc n))).word) (omega arith) (equality_below xs ys (Is (suc n)) (suc (suc n)) (omega arith))
