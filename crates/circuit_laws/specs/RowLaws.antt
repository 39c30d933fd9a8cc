-- Laws of gates bit by bit: conjunction, exclusive disjunction, choice, and selection of words.
use Rattle.std.proofs.Common.{◌≡◌, ℕ, suc, ◌+◌, ◌*◌, ◌≤◌, List, [], ◌∷◌, length, refl, sym, ◌∙◌, ap, arith, Bool, true, false, cond, not, ◌&&◌, bit_and, bit_or, bit_xor, le_refl}
use lib.Bits.{and_block, or_block, xor_block}
use Rattle.circuit_laws.specs.Literals.{Lit, lit, bit, word}
use Rattle.circuit_laws.specs.Gates.{Gate, And, Xor, Mux, differ, AreMade, IsBelow, AreBelow, SourcesBelow, AreOrdered}
use Rattle.circuit_laws.specs.Blocks.{row, pairwise, each, and_word, xor_word, choice, chosen, selection, flipped}
use Rattle.circuit_laws.specs.WordLaws.{lit_negated, bit_small, variables_length, variables_below, below_later}

-- ---- rows

pub row_length : (gates : List Gate) (n : ℕ) → length (row gates n).word ≡ length gates
row_length gates n = variables_length n (length gates)

pub row_below : (gates : List Gate) (n : ℕ) → AreBelow (n + length gates) (row gates n).word
row_below gates n = variables_below n (length gates)

pub pairwise_length : (f : Lit → Lit → Gate) (xs ys : List Lit) → length xs ≡ length ys → length (pairwise f xs ys) ≡ length xs
pairwise_length f [] ys e = refl
pairwise_length f (x ∷ xs) [] e = absurd (omega (arith, e))
pairwise_length f (x ∷ xs) (y ∷ ys) e = ap suc (pairwise_length f xs ys (omega (arith, e)))

pub each_length : (f : Lit → Lit → Gate) (xs ys : List Lit) (n : ℕ) → length xs ≡ length ys → length (each f xs ys n).word ≡ length xs
each_length f xs ys n e = row_length (pairwise f xs ys) n ∙ pairwise_length f xs ys e

pub each_below : (f : Lit → Lit → Gate) (xs ys : List Lit) (n : ℕ) → AreBelow (n + length (each f xs ys n).gates) (each f xs ys n).word
each_below f xs ys n = row_below (pairwise f xs ys) n

-- a gate of two literals that stand before a variable has its sources before it
abbrev pub IsSafe : ℕ → (Lit → Lit → Gate) → Type 0
IsSafe n f = (m : ℕ) → n ≤ m → (x y : Lit) → IsBelow m x → IsBelow m y → SourcesBelow m (f x y)

pub each_ordered : (f : Lit → Lit → Gate) (xs ys : List Lit) (n : ℕ) → IsSafe n f → AreBelow n xs → AreBelow n ys → AreOrdered n (each f xs ys n).gates
each_ordered f [] ys n s g h = tt
each_ordered f (x ∷ xs) [] n s g h = tt
each_ordered f (x ∷ xs) (y ∷ ys) n s g h = (
  s n (le_refl n) x y g.0 h.0,
  each_ordered f xs ys (suc n) (λ m le. s m (omega (arith, le))) (below_later n (suc n) xs (omega arith) g.1) (below_later n (suc n) ys (omega arith) h.1),
)

pub and_safe : (n : ℕ) → IsSafe n And
and_safe n m le x y f g = (f, g)

pub xor_safe : (n : ℕ) → IsSafe n Xor
xor_safe n m le x y f g = (f, g)

pub mux_safe : (s : Lit) (n : ℕ) → IsBelow n s → IsSafe n (Mux s)
mux_safe s n h m le x y f g = (omega (arith, h, le), f, g)

-- ---- conjunction and exclusive disjunction

and_bit : (p q : Bool) (t u : ℕ) → bit_and (bit p + 2 * t) (bit q + 2 * u) ≡ bit (p && q) + 2 * bit_and t u
and_bit p q t u =
    let left : bit p + 2 * t ≡ t * 2 + bit p = omega arith in
    let right : bit q + 2 * u ≡ u * 2 + bit q = omega arith in
    let block : bit_and (t * 2 + bit p) (u * 2 + bit q) ≡ bit_and t u * 2 + bit_and (bit p) (bit q) = and_block 1 t u (bit p) (bit q) (bit_small p) (bit_small q) in
    ap (λ m. bit_and m (bit q + 2 * u)) left ∙ ap (λ m. bit_and (t * 2 + bit p) m) right ∙ block ∙ rw (bits p q) (omega arith)
  where
    bits : (a b : Bool) → bit_and (bit a) (bit b) ≡ bit (a && b)
    bits true true = refl
    bits true false = refl
    bits false true = refl
    bits false false = refl

pub and_is : (α : ℕ → Bool) (xs ys : List Lit) (n : ℕ) → length xs ≡ length ys → AreMade α n (and_word xs ys n).gates → word α (and_word xs ys n).word ≡ bit_and (word α xs) (word α ys)
and_is α [] [] n e h = refl
and_is α [] (y ∷ ys) n e h = absurd (omega (arith, e))
and_is α (x ∷ xs) [] n e h = absurd (omega (arith, e))
and_is α (x ∷ xs) (y ∷ ys) n e h = rw (h.0, and_is α xs ys (suc n) (omega (arith, e)) h.1) (sym (and_bit (lit α x) (lit α y) (word α xs) (word α ys)))

xor_bit : (p q : Bool) (t u : ℕ) → bit_xor (bit p + 2 * t) (bit q + 2 * u) ≡ bit (differ p q) + 2 * bit_xor t u
xor_bit p q t u =
    let left : bit p + 2 * t ≡ t * 2 + bit p = omega arith in
    let right : bit q + 2 * u ≡ u * 2 + bit q = omega arith in
    let block : bit_xor (t * 2 + bit p) (u * 2 + bit q) ≡ bit_xor t u * 2 + bit_xor (bit p) (bit q) = xor_block 1 t u (bit p) (bit q) (bit_small p) (bit_small q) in
    ap (λ m. bit_xor m (bit q + 2 * u)) left ∙ ap (λ m. bit_xor (t * 2 + bit p) m) right ∙ block ∙ rw (bits p q) (omega arith)
  where
    bits : (a b : Bool) → bit_xor (bit a) (bit b) ≡ bit (differ a b)
    bits true true = refl
    bits true false = refl
    bits false true = refl
    bits false false = refl

pub xor_is : (α : ℕ → Bool) (xs ys : List Lit) (n : ℕ) → length xs ≡ length ys → AreMade α n (xor_word xs ys n).gates → word α (xor_word xs ys n).word ≡ bit_xor (word α xs) (word α ys)
xor_is α [] [] n e h = refl
xor_is α [] (y ∷ ys) n e h = absurd (omega (arith, e))
xor_is α (x ∷ xs) [] n e h = absurd (omega (arith, e))
xor_is α (x ∷ xs) (y ∷ ys) n e h = rw (h.0, xor_is α xs ys (suc n) (omega (arith, e)) h.1) (sym (xor_bit (lit α x) (lit α y) (word α xs) (word α ys)))

same_bits : (p q : Bool) (d t u : ℕ) → bit (differ p q) + 2 * d ≡ 0 → (d ≡ 0 → t ≡ u) → bit p + 2 * t ≡ bit q + 2 * u
same_bits true true d t u h g = let e : t ≡ u = g (omega (arith, h)) in omega (arith, e)
same_bits true false d t u h g = absurd (omega (arith, h))
same_bits false true d t u h g = absurd (omega (arith, h))
same_bits false false d t u h g = let e : t ≡ u = g (omega (arith, h)) in omega (arith, e)

-- words that differ at no bit are equal
pub none_differ : (α : ℕ → Bool) (xs ys : List Lit) (n : ℕ) → length xs ≡ length ys → AreMade α n (xor_word xs ys n).gates → word α (xor_word xs ys n).word ≡ 0 → word α xs ≡ word α ys
none_differ α [] [] n e h z = refl
none_differ α [] (y ∷ ys) n e h z = absurd (omega (arith, e))
none_differ α (x ∷ xs) [] n e h z = absurd (omega (arith, e))
none_differ α (x ∷ xs) (y ∷ ys) n e h z =
    let start : bit (differ (lit α x) (lit α y)) + 2 * word α (xor_word xs ys (suc n)).word ≡ 0 = ap (λ b. bit b + 2 * word α (xor_word xs ys (suc n)).word) (sym h.0) ∙ z in
    same_bits (lit α x) (lit α y) (word α (xor_word xs ys (suc n)).word) (word α xs) (word α ys) start (none_differ α xs ys (suc n) (omega (arith, e)) h.1)

-- ---- choice

same_both : (b : Bool) (z : ℕ) → z ≡ cond b z z
same_both true z = refl
same_both false z = refl

choose : (b : Bool) (x y t u : ℕ) → cond b x y + 2 * cond b t u ≡ cond b (x + 2 * t) (y + 2 * u)
choose true x y t u = refl
choose false x y t u = refl

bit_cond : (b p q : Bool) → bit (cond b p q) ≡ cond b (bit p) (bit q)
bit_cond true p q = refl
bit_cond false p q = refl

pub choice_is : (α : ℕ → Bool) (s : Lit) (xs ys : List Lit) (n : ℕ) → length xs ≡ length ys → AreMade α n (choice s xs ys n).gates →
    word α (choice s xs ys n).word ≡ cond (lit α s) (word α xs) (word α ys)
choice_is α s [] [] n e h = same_both (lit α s) 0
choice_is α s [] (y ∷ ys) n e h = absurd (omega (arith, e))
choice_is α s (x ∷ xs) [] n e h = absurd (omega (arith, e))
choice_is α s (x ∷ xs) (y ∷ ys) n e h =
    rw (h.0, bit_cond (lit α s) (lit α x) (lit α y), choice_is α s xs ys (suc n) (omega (arith, e)) h.1) (choose (lit α s) (bit (lit α x)) (bit (lit α y)) (word α xs) (word α ys))

pub choice_length : (s : Lit) (xs ys : List Lit) (n : ℕ) → length xs ≡ length ys → length (choice s xs ys n).word ≡ length xs
choice_length s xs ys n e = each_length (Mux s) xs ys n e

pub choice_ordered : (s : Lit) (xs ys : List Lit) (n : ℕ) → IsBelow n s → AreBelow n xs → AreBelow n ys → AreOrdered n (choice s xs ys n).gates
choice_ordered s xs ys n h f g = each_ordered (Mux s) xs ys n (mux_safe s n h) f g

-- ---- selection by a mask

pub chosen_length : (ms xs ys : List Lit) → length ms ≡ length xs → length ms ≡ length ys → length (chosen ms xs ys) ≡ length ms
chosen_length [] xs ys e f = refl
chosen_length (m ∷ ms) [] ys e f = absurd (omega (arith, e))
chosen_length (m ∷ ms) (x ∷ xs) [] e f = absurd (omega (arith, f))
chosen_length (m ∷ ms) (x ∷ xs) (y ∷ ys) e f = ap suc (chosen_length ms xs ys (omega (arith, e)) (omega (arith, f)))

pub chosen_ordered : (ms xs ys : List Lit) (n : ℕ) → AreBelow n ms → AreBelow n xs → AreBelow n ys → AreOrdered n (chosen ms xs ys)
chosen_ordered [] xs ys n e f g = tt
chosen_ordered (m ∷ ms) [] ys n e f g = tt
chosen_ordered (m ∷ ms) (x ∷ xs) [] n e f g = tt
chosen_ordered (m ∷ ms) (x ∷ xs) (y ∷ ys) n e f g = (
  (e.0, f.0, g.0),
  chosen_ordered ms xs ys (suc n) (below_later n (suc n) ms (omega arith) e.1) (below_later n (suc n) xs (omega arith) f.1) (below_later n (suc n) ys (omega arith) g.1),
)

or_bit : (p q : Bool) (t u : ℕ) → bit_or (bit p + 2 * t) (bit q + 2 * u) ≡ bit_or (bit p) (bit q) + 2 * bit_or t u
or_bit p q t u =
    let left : bit p + 2 * t ≡ t * 2 + bit p = omega arith in
    let right : bit q + 2 * u ≡ u * 2 + bit q = omega arith in
    let block : bit_or (t * 2 + bit p) (u * 2 + bit q) ≡ bit_or t u * 2 + bit_or (bit p) (bit q) = or_block 1 t u (bit p) (bit q) (bit_small p) (bit_small q) in
    ap (λ m. bit_or m (bit q + 2 * u)) left ∙ ap (λ m. bit_or (t * 2 + bit p) m) right ∙ block ∙ omega arith

select_bit : (m p q : Bool) → bit (cond m p q) ≡ bit_or (bit (m && p)) (bit (not m && q))
select_bit true true q = refl
select_bit true false q = refl
select_bit false p true = refl
select_bit false p false = refl

pub selection_is : (α : ℕ → Bool) (ms xs ys : List Lit) (n : ℕ) → length ms ≡ length xs → length ms ≡ length ys → AreMade α n (selection ms xs ys n).gates →
    word α (selection ms xs ys n).word ≡ bit_or (bit_and (word α ms) (word α xs)) (bit_and (word α (flipped ms)) (word α ys))
selection_is α [] [] [] n e f h = refl
selection_is α [] (x ∷ xs) ys n e f h = absurd (omega (arith, e))
selection_is α [] [] (y ∷ ys) n e f h = absurd (omega (arith, f))
selection_is α (m ∷ ms) [] ys n e f h = absurd (omega (arith, e))
selection_is α (m ∷ ms) (x ∷ xs) [] n e f h = absurd (omega (arith, f))
selection_is α (m ∷ ms) (x ∷ xs) (y ∷ ys) n e f h =
    let rest = selection_is α ms xs ys (suc n) (omega (arith, e)) (omega (arith, f)) h.1 in
    let a : ℕ = bit_and (word α ms) (word α xs) in
    let b : ℕ = bit_and (word α (flipped ms)) (word α ys) in
    rw (h.0, rest, lit_negated α m, and_bit (lit α m) (lit α x) (word α ms) (word α xs), and_bit (not (lit α m)) (lit α y) (word α (flipped ms)) (word α ys), or_bit (lit α m && lit α x) (not (lit α m) && lit α y) a b)
    (ap (λ c. c + 2 * bit_or a b) (select_bit (lit α m) (lit α x) (lit α y)))
