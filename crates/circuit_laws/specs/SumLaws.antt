-- Laws of sums, differences and negations.
use Rattle.std.proofs.Common.{◌≡◌, ℕ, suc, ◌+◌, ◌-◌, ◌*◌, ◌%◌, ◌^◌, ◌<◌, List, [], ◌∷◌, length, replicate, refl, sym, ◌∙◌, ap, subst, arith, Bool, true, false, cond, mod-eq_of_lt, pow-suc}
use Rattle.std.proofs.lemmas.List.{length-replicate}
use Rattle.op_laws.specs.Sums.{same_rest}
use Rattle.circuit_laws.specs.Literals.{Lit, Is, lit, bit, word, yes, no}
use Rattle.circuit_laws.specs.Gates.{differ, AreMade, IsBelow, AreBelow, AreOrdered}
use Rattle.circuit_laws.specs.Blocks.{Sum, adder, subtracter, negation, flipped}
use Rattle.circuit_laws.specs.WordLaws.{word_small, word_flipped, flipped_length, word_none, below_later, below_flipped, below_filled}

-- three bits added
full_add : (x y c : Bool) → bit (differ (differ x y) c) + 2 * bit (cond (differ x y) c x) ≡ bit x + bit y + bit c
full_add true true true = refl
full_add true true false = refl
full_add true false true = refl
full_add true false false = refl
full_add false true true = refl
full_add false true false = refl
full_add false false true = refl
full_add false false false = refl

-- the places above, twice, and the lowest place
carried : (n s w a x b y c k e : ℕ) → w + 2 ^ n * e ≡ x + y + k → s + 2 * k ≡ a + b + c → s + 2 * w + 2 ^ suc n * e ≡ a + 2 * x + (b + 2 * y) + c
carried n s w a x b y c k e h g =
    let double : 2 ^ suc n * e ≡ 2 ^ n * 2 * e = ap (λ m. m * e) (pow-suc 2 n) in
    omega (arith, double, h, g)

-- the sum and its carry, from what each gate makes
pub adder_is : (α : ℕ → Bool) (xs ys : List Lit) (c : Lit) (n : ℕ) → length xs ≡ length ys → AreMade α n (adder xs ys c n).gates →
    word α (adder xs ys c n).word + 2 ^ length xs * bit (lit α (adder xs ys c n).carry) ≡ word α xs + word α ys + bit (lit α c)
unfolding adder
adder_is α [] [] c n e h = omega arith
adder_is α [] (y ∷ ys) c n e h = absurd (omega (arith, e))
adder_is α (x ∷ xs) [] c n e h = absurd (omega (arith, e))
adder_is α (x ∷ xs) (y ∷ ys) c n e h =
    let rest : Sum = adder xs ys (Is (suc (suc n))) (suc (suc (suc n))) in
    let place : bit (α (suc n)) + 2 * bit (α (suc (suc n))) ≡ bit (lit α x) + bit (lit α y) + bit (lit α c) =
    rw (h.1.0, h.1.1.0, h.0) (full_add (lit α x) (lit α y) (lit α c)) in
    carried (length xs) (bit (α (suc n))) (word α rest.word) (bit (lit α x)) (word α xs) (bit (lit α y)) (word α ys) (bit (lit α c)) (bit (α (suc (suc n)))) (bit (lit α rest.carry))
    (adder_is α xs ys (Is (suc (suc n))) (suc (suc (suc n))) (omega (arith, e)) h.1.1.1) place

pub adder_length : (xs ys : List Lit) (c : Lit) (n : ℕ) → length xs ≡ length ys → length (adder xs ys c n).word ≡ length xs
unfolding adder
adder_length [] ys c n e = refl
adder_length (x ∷ xs) [] c n e = absurd (omega (arith, e))
adder_length (x ∷ xs) (y ∷ ys) c n e = ap suc (adder_length xs ys (Is (suc (suc n))) (suc (suc (suc n))) (omega (arith, e)))

pub adder_small : (α : ℕ → Bool) (xs ys : List Lit) (c : Lit) (n : ℕ) → length xs ≡ length ys → word α (adder xs ys c n).word < 2 ^ length xs
adder_small α xs ys c n e = subst (λ m. word α (adder xs ys c n).word < 2 ^ m) (adder_length xs ys c n e) (word_small α (adder xs ys c n).word)

-- the sum alone
pub adder_rest : (α : ℕ → Bool) (xs ys : List Lit) (c : Lit) (n : ℕ) → length xs ≡ length ys → AreMade α n (adder xs ys c n).gates →
    word α (adder xs ys c n).word ≡ (word α xs + word α ys + bit (lit α c)) % 2 ^ length xs
adder_rest α xs ys c n e h =
    let sum : List Lit = (adder xs ys c n).word in
    let whole : word α sum + 2 ^ length xs * bit (lit α (adder xs ys c n).carry) ≡ word α xs + word α ys + bit (lit α c) = adder_is α xs ys c n e h in
    sym (mod-eq_of_lt (adder_small α xs ys c n e))
    ∙ same_rest (2 ^ length xs) (word α sum) (word α xs + word α ys + bit (lit α c)) (bit (lit α (adder xs ys c n).carry)) 0 (omega (arith, whole))

pub adder_ordered : (xs ys : List Lit) (c : Lit) (n : ℕ) → AreBelow n xs → AreBelow n ys → IsBelow n c → AreOrdered n (adder xs ys c n).gates
unfolding adder
adder_ordered [] ys c n f g h = tt
adder_ordered (x ∷ xs) [] c n f g h = tt
adder_ordered (x ∷ xs) (y ∷ ys) c n f g h = (
  (f.0, g.0),
  (
    (omega arith, omega (arith, h)),
    (
      (omega arith, omega (arith, h), omega (arith, f.0)),
      adder_ordered xs ys (Is (suc (suc n))) (suc (suc (suc n))) (below_later n (suc (suc (suc n))) xs (omega arith) f.1) (below_later n (suc (suc (suc n))) ys (omega arith) g.1)
          (omega arith),
    ),
  ),
)

pub adder_below : (xs ys : List Lit) (c : Lit) (n : ℕ) → AreBelow (n + length (adder xs ys c n).gates) (adder xs ys c n).word
unfolding adder
adder_below [] ys c n = tt
adder_below (x ∷ xs) [] c n = tt
adder_below (x ∷ xs) (y ∷ ys) c n =
    let rest : Sum = adder xs ys (Is (suc (suc n))) (suc (suc (suc n))) in
    (omega arith, subst (λ m. AreBelow m rest.word) (omega arith) (adder_below xs ys (Is (suc (suc n))) (suc (suc (suc n)))))

pub carry_below : (xs ys : List Lit) (c : Lit) (n : ℕ) → IsBelow n c → IsBelow (n + length (adder xs ys c n).gates) (adder xs ys c n).carry
unfolding adder
carry_below [] ys c n h = omega (arith, h)
carry_below (x ∷ xs) [] c n h = omega (arith, h)
carry_below (x ∷ xs) (y ∷ ys) c n h =
    let rest : Sum = adder xs ys (Is (suc (suc n))) (suc (suc (suc n))) in
    subst (λ m. IsBelow m rest.carry) (omega arith) (carry_below xs ys (Is (suc (suc n))) (suc (suc (suc n))) (omega arith))

-- ---- differences

flipped_fits : (xs ys : List Lit) → length xs ≡ length ys → length xs ≡ length (flipped ys)
flipped_fits xs ys e = e ∙ sym (flipped_length ys)

-- what the difference and its carry make together
pub subtracter_is : (α : ℕ → Bool) (xs ys : List Lit) (n : ℕ) → length xs ≡ length ys → α 0 ≡ true → AreMade α n (subtracter xs ys n).gates →
    word α (subtracter xs ys n).word + 2 ^ length xs * bit (lit α (subtracter xs ys n).carry) + word α ys ≡ word α xs + 2 ^ length xs
subtracter_is α xs ys n e t h =
    let whole = adder_is α xs (flipped ys) yes n (flipped_fits xs ys e) h in
    let one : bit (α 0) ≡ 1 = ap bit t in
    let others : word α (flipped ys) + word α ys + 1 ≡ 2 ^ length xs = word_flipped α ys ∙ ap (λ m. 2 ^ m) (sym e) in
    omega (arith, whole, one, others)

pub subtracter_length : (xs ys : List Lit) (n : ℕ) → length xs ≡ length ys → length (subtracter xs ys n).word ≡ length xs
subtracter_length xs ys n e = adder_length xs (flipped ys) yes n (flipped_fits xs ys e)

pub subtracter_small : (α : ℕ → Bool) (xs ys : List Lit) (n : ℕ) → length xs ≡ length ys → word α (subtracter xs ys n).word < 2 ^ length xs
subtracter_small α xs ys n e = adder_small α xs (flipped ys) yes n (flipped_fits xs ys e)

-- the difference alone
pub subtracter_rest : (α : ℕ → Bool) (xs ys : List Lit) (n : ℕ) → length xs ≡ length ys → α 0 ≡ true → AreMade α n (subtracter xs ys n).gates →
    word α (subtracter xs ys n).word ≡ (word α xs + (2 ^ length xs - word α ys)) % 2 ^ length xs
subtracter_rest α xs ys n e t h =
    let one : bit (α 0) ≡ 1 = ap bit t in
    let others : word α (flipped ys) + word α ys + 1 ≡ 2 ^ length xs = word_flipped α ys ∙ ap (λ m. 2 ^ m) (sym e) in
    let same : word α xs + word α (flipped ys) + bit (α 0) ≡ word α xs + (2 ^ length xs - word α ys) = omega (arith, one, others) in
    adder_rest α xs (flipped ys) yes n (flipped_fits xs ys e) h ∙ ap (λ m. m % 2 ^ length xs) same

pub subtracter_ordered : (xs ys : List Lit) (n : ℕ) → 0 < n → AreBelow n xs → AreBelow n ys → AreOrdered n (subtracter xs ys n).gates
subtracter_ordered xs ys n p f g = adder_ordered xs (flipped ys) yes n f (below_flipped n ys g) p

pub subtracter_below : (xs ys : List Lit) (n : ℕ) → AreBelow (n + length (subtracter xs ys n).gates) (subtracter xs ys n).word
subtracter_below xs ys n = adder_below xs (flipped ys) yes n

pub borrow_below : (xs ys : List Lit) (n : ℕ) → 0 < n → IsBelow (n + length (subtracter xs ys n).gates) (subtracter xs ys n).carry
borrow_below xs ys n p = carry_below xs (flipped ys) yes n p

-- ---- negations

nones_fit : (xs : List Lit) → length (flipped xs) ≡ length (replicate (length xs) no)
nones_fit xs = flipped_length xs ∙ sym (length-replicate (length xs) no)

pub negation_length : (xs : List Lit) (n : ℕ) → length (negation xs n).word ≡ length xs
negation_length xs n = adder_length (flipped xs) (replicate (length xs) no) yes n (nones_fit xs) ∙ flipped_length xs

pub negation_is : (α : ℕ → Bool) (xs : List Lit) (n : ℕ) → α 0 ≡ true → AreMade α n (negation xs n).gates → word α (negation xs n).word ≡ (2 ^ length xs - word α xs) % 2 ^ length xs
negation_is α xs n t h =
    let one : bit (α 0) ≡ 1 = ap bit t in
    let others : word α (flipped xs) + word α xs + 1 ≡ 2 ^ length xs = word_flipped α xs in
    let same : word α (flipped xs) + word α (replicate (length xs) no) + bit (α 0) ≡ 2 ^ length xs - word α xs = omega (arith, one, others, word_none α (length xs) t) in
    adder_rest α (flipped xs) (replicate (length xs) no) yes n (nones_fit xs) h ∙ ap (λ m. m % 2 ^ length (flipped xs)) same
    ∙ ap (λ m. (2 ^ length xs - word α xs) % 2 ^ m) (flipped_length xs)

pub negation_ordered : (xs : List Lit) (n : ℕ) → 0 < n → AreBelow n xs → AreOrdered n (negation xs n).gates
negation_ordered xs n p f = adder_ordered (flipped xs) (replicate (length xs) no) yes n (below_flipped n xs f) (below_filled n (length xs) no p) p

pub negation_below : (xs : List Lit) (n : ℕ) → AreBelow (n + length (negation xs n).gates) (negation xs n).word
negation_below xs n = adder_below (flipped xs) (replicate (length xs) no) yes n
