-- Laws of products: the circuit is right.
use Rattle.std.proofs.Common.{◌≡◌, ℕ, suc, ◌+◌, ◌-◌, ◌*◌, ◌%◌, ◌^◌, ◌<◌, ◌≤◌, List, [], ◌∷◌, ◌++◌, map, length, take, replicate, refl, sym, ◌∙◌, ap, subst, arith, Bool, true, false, not, ◌&&◌, pow-suc, mod-eq_of_lt, add-zero, mul-zero, one-mul}
use Rattle.std.proofs.lemmas.List.{length-replicate, length-take-le, length-append, length-map}
use Rattle.std.proofs.lemmas.Nat.{mod-pow-add, shl-shr}
use Rattle.std.proofs.Math.Nat.{mul-one, zero-mod, mod-add-mod, add-mod-mod, mul-mod_left}
use Rattle.nir_ops.specs.declared.op.Op.TheVariants.{Imul}
use Rattle.op_eval.specs.Meaning.{meaning, op_mean}
use Rattle.op_eval.specs.Word.{residue}
use Rattle.circuit_laws.specs.Literals.{Lit, lit, bit, word, no}
use Rattle.circuit_laws.specs.Gates.{And, AreMade, IsBelow, AreBelow, AreOrdered}
use Rattle.circuit_laws.specs.Blocks.{Block, behind, after, row, adder, sum_of, product}
use Rattle.circuit_laws.specs.Opcodes.{circuit, none}
use Rattle.circuit_laws.specs.Computes.{Computes, IsBlock}
use Rattle.circuit_laws.specs.WordLaws.{word_small, word_append, word_take, word_none, below_later, below_append, below_take, below_filled}
use Rattle.circuit_laws.specs.GateLaws.{made_parts, ordered_joined}
use Rattle.circuit_laws.specs.RowLaws.{row_length, row_below}
use Rattle.circuit_laws.specs.SumLaws.{adder_rest, adder_length, adder_ordered, adder_below}
use Rattle.circuit_laws.specs.SequenceLaws.{behind_both, plain_block, after_block}

-- ---- a word times a bit

bit_product : (p q : Bool) → bit (p && q) ≡ bit q * bit p
bit_product true true = refl
bit_product true false = refl
bit_product false true = refl
bit_product false false = refl

-- each literal of a word with this one
abbrev by_bit : Lit → List Lit → ℕ → Block
by_bit y xs n = row (map (λ x. And x y) xs) n

by_bit_is : (α : ℕ → Bool) (y : Lit) (xs : List Lit) (n : ℕ) → AreMade α n (by_bit y xs n).gates → word α (by_bit y xs n).word ≡ bit (lit α y) * word α xs
by_bit_is α y [] n h = omega arith
by_bit_is α y (x ∷ xs) n h =
    let low : bit (α n) ≡ bit (lit α y) * bit (lit α x) = ap bit h.0 ∙ bit_product (lit α x) (lit α y) in
    omega (arith, low, by_bit_is α y xs (suc n) h.1)

by_bit_length : (y : Lit) (xs : List Lit) (n : ℕ) → length (by_bit y xs n).word ≡ length xs
by_bit_length y xs n = row_length (map (λ x. And x y) xs) n ∙ length-map xs (λ x. And x y)

by_bit_ordered : (y : Lit) (xs : List Lit) (n : ℕ) → IsBelow n y → AreBelow n xs → AreOrdered n (by_bit y xs n).gates
by_bit_ordered y [] n h f = tt
by_bit_ordered y (x ∷ xs) n h f = ((f.0, h), by_bit_ordered y xs (suc n) (omega (arith, h)) (below_later n (suc n) xs (omega arith) f.1))

-- ---- the numbers

-- what is left of a word moved up, from what is left of it before
part_is : (b : Bool) (x i j : ℕ) → 2 ^ i * (bit b * (x % 2 ^ j)) ≡ (x * 2 ^ i * bit b) % 2 ^ (j + i)
part_is true x i j =
    let cut : (x * 2 ^ i) % 2 ^ (j + i) ≡ (x % 2 ^ j) * 2 ^ i = mod-pow-add (x * 2 ^ i) j i ∙ rw (shl-shr x i, mul-mod_left x (2 ^ i)) (omega arith) in
    rw (mul-one (x * 2 ^ i), cut) (omega arith)
part_is false x i j = rw (mul-zero (x * 2 ^ i), zero-mod (2 ^ (j + i))) (omega arith)

gathered : (m acc x i b v : ℕ) → (((acc + (x * 2 ^ i * b) % m) % m) + x * (2 ^ suc i * v)) % m ≡ (acc + x * (2 ^ i * (b + 2 * v))) % m
gathered m acc x i b v =
    let q : ℕ = x * 2 ^ i * b in
    let r : ℕ = x * (2 ^ suc i * v) in
    let double : r ≡ x * (2 ^ i * 2 * v) = ap (λ d. x * (d * v)) (pow-suc 2 i) in
    let turned : acc + q % m + r ≡ acc + r + q % m = omega arith in
    let whole : acc + r + q ≡ acc + x * (2 ^ i * (b + 2 * v)) = omega (arith, double) in
    mod-add-mod (acc + q % m) m r ∙ ap (λ n. n % m) turned ∙ add-mod-mod (acc + r) q m ∙ ap (λ n. n % m) whole

-- ---- one step: the word times a bit, moved up, onto the sum so far

abbrev part : List Lit → Lit → ℕ → ℕ → Block
part xs y i n = by_bit y (take (length xs - i) xs) n

abbrev term : List Lit → Lit → ℕ → ℕ → List Lit
term xs y i n = replicate i no ++ (part xs y i n).word

abbrev total : List Lit → Lit → ℕ → List Lit → ℕ → Block
total xs y i acc n = sum_of (adder acc (term xs y i n) no (behind n (part xs y i n).gates))

abbrev step : List Lit → Lit → ℕ → List Lit → ℕ → Block
step xs y i acc n = after (part xs y i n) (total xs y i acc n)

term_length : (xs : List Lit) (y : Lit) (i n : ℕ) → i ≤ length xs → length (term xs y i n) ≡ length xs
term_length xs y i n le =
    let low : List Lit = take (length xs - i) xs in
    let size : length (part xs y i n).word ≡ length xs - i = by_bit_length y low n ∙ length-take-le (length xs - i) xs (omega arith) in
    omega (arith, length-append (replicate i no) (part xs y i n).word, length-replicate i no, size, le)

term_is : (α : ℕ → Bool) (xs : List Lit) (y : Lit) (i n : ℕ) → i ≤ length xs → α 0 ≡ true → AreMade α n (part xs y i n).gates →
    word α (term xs y i n) ≡ (word α xs * 2 ^ i * bit (lit α y)) % 2 ^ length xs
term_is α xs y i n le t h =
    let j : ℕ = length xs - i in
    let width : j + i ≡ length xs = omega (arith, le) in
    let made : word α (part xs y i n).word ≡ bit (lit α y) * (word α xs % 2 ^ j) =
    by_bit_is α y (take j xs) n h ∙ ap (λ m. bit (lit α y) * m) (word_take α j xs) in
    word_append α (replicate i no) (part xs y i n).word ∙ rw (word_none α i t, length-replicate i no, made) (omega arith)
    ∙ part_is (lit α y) (word α xs) i j ∙ ap (λ m. (word α xs * 2 ^ i * bit (lit α y)) % 2 ^ m) width

total_length : (xs : List Lit) (y : Lit) (i : ℕ) (acc : List Lit) (n : ℕ) → length acc ≡ length xs → i ≤ length xs →
    length (total xs y i acc n).word ≡ length xs
total_length xs y i acc n e le = adder_length acc (term xs y i n) no (behind n (part xs y i n).gates) (e ∙ sym (term_length xs y i n le)) ∙ e

total_is : (α : ℕ → Bool) (xs : List Lit) (y : Lit) (i : ℕ) (acc : List Lit) (n : ℕ) → length acc ≡ length xs → i ≤ length xs → α 0 ≡ true
    → AreMade α n (step xs y i acc n).gates →
    word α (total xs y i acc n).word ≡ (word α acc + (word α xs * 2 ^ i * bit (lit α y)) % 2 ^ length xs) % 2 ^ length xs
total_is α xs y i acc n e le t h =
    let from : ℕ = behind n (part xs y i n).gates in
    let parts = made_parts α n (part xs y i n).gates (total xs y i acc n).gates h in
    let zero_bit : bit (lit α no) ≡ 0 = ap (λ b. bit (not b)) t in
    adder_rest α acc (term xs y i n) no from (e ∙ sym (term_length xs y i n le)) parts.1
    ∙ rw (zero_bit, e, term_is α xs y i n le t parts.0) (ap (λ m. m % 2 ^ length xs) (add-zero _))

step_ordered : (xs : List Lit) (y : Lit) (i : ℕ) (acc : List Lit) (n : ℕ) → 0 < n → IsBelow n y → AreBelow n xs → AreBelow n acc →
    AreOrdered n (step xs y i acc n).gates
step_ordered xs y i acc n p h f g =
    let own : Block = part xs y i n in
    let from : ℕ = behind n own.gates in
    let begun : 0 < from = omega (arith, p) in
    ordered_joined n own.gates (total xs y i acc n).gates (by_bit_ordered y (take (length xs - i) xs) n h (below_take n (length xs - i) xs f))
    (adder_ordered acc (term xs y i n) no from (below_later n from acc (omega arith) g)
    (below_append from (replicate i no) own.word (below_filled from i no begun) (row_below own.gates n)) begun)

-- ---- all steps

product_is : (α : ℕ → Bool) (xs ys : List Lit) (i : ℕ) (acc : List Lit) (n : ℕ) → length acc ≡ length xs → i + length ys ≤ length xs → α 0 ≡ true
    → AreMade α n (product xs ys i acc n).gates → word α (product xs ys i acc n).word ≡ (word α acc + word α xs * (2 ^ i * word α ys)) % 2 ^ length xs
unfolding product
product_is α xs [] i acc n e le t h =
    let small : word α acc < 2 ^ length xs = subst (λ m. word α acc < 2 ^ m) e (word_small α acc) in
    rw (mul-zero (2 ^ i), mul-zero (word α xs), add-zero (word α acc)) (sym (mod-eq_of_lt small))
product_is α xs (y ∷ ys) i acc n e le t h =
    let sum : Block = total xs y i acc n in
    let next : ℕ = behind (behind n (part xs y i n).gates) sum.gates in
    let within : i ≤ length xs = omega (arith, le) in
    let parts = made_parts α n (step xs y i acc n).gates (product xs ys (suc i) sum.word next).gates h in
    let begun = subst (λ m. AreMade α m (product xs ys (suc i) sum.word next).gates) (sym (behind_both n (part xs y i n).gates sum.gates)) parts.1 in
    product_is α xs ys (suc i) sum.word next (total_length xs y i acc n e within) (omega (arith, le)) t begun
    ∙ ap (λ m. (m + word α xs * (2 ^ suc i * word α ys)) % 2 ^ length xs) (total_is α xs y i acc n e within t parts.0)
    ∙ gathered (2 ^ length xs) (word α acc) (word α xs) i (bit (lit α y)) (word α ys)

product_block : (xs ys : List Lit) (i : ℕ) (acc : List Lit) (n : ℕ) → length acc ≡ length xs → i + length ys ≤ length xs → 0 < n → AreBelow n xs → AreBelow n ys
    → AreBelow n acc → IsBlock n (length xs) (product xs ys i acc n)
unfolding product
product_block xs [] i acc n e le p f g h = plain_block n (length xs) acc e h
product_block xs (y ∷ ys) i acc n e le p f g h =
    let own : Block = part xs y i n in
    let sum : Block = total xs y i acc n in
    let next : ℕ = behind (behind n own.gates) sum.gates in
    let same : next ≡ behind n (step xs y i acc n).gates = behind_both n own.gates sum.gates in
    let later : n ≤ next = omega arith in
    let rest : IsBlock next (length xs) (product xs ys (suc i) sum.word next) =
    product_block xs ys (suc i) sum.word next (total_length xs y i acc n e (omega (arith, le))) (omega (arith, le)) (omega (arith, p, later))
    (below_later n next xs later f) (below_later n next ys later g.1) (adder_below acc (term xs y i n) no (behind n own.gates)) in
    after_block n (length xs) (step xs y i acc n) (product xs ys (suc i) sum.word next) (step_ordered xs y i acc n p g.0 f h)
    (subst (λ m. IsBlock m (length xs) (product xs ys (suc i) sum.word next)) same rest)

pub imul_computes : (n : ℕ) (x y : List Lit) → length x ≡ length y → 0 < n → AreBelow n x → AreBelow n y → Computes Imul (length x) (length x) n (x ∷ y ∷ [])
unfolding circuit op_mean meaning residue
imul_computes n x y e p f g =
    let zeros : List Lit = none (length x) in
    let count : length zeros ≡ length x = length-replicate (length x) no in
    record {
      block = product_block x y 0 zeros n count (omega (arith, e)) p f g (below_filled n (length x) no p);
      value = λ α t h.
          product_is α x y 0 zeros n count (omega (arith, e)) t h
          ∙ rw (word_none α (length x) t, one-mul (word α y)) (ap (λ m. m % 2 ^ length x) (omega arith));
    }
