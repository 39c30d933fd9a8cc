-- Blocks of gates over words: choice, sums, comparisons, shifts, rotations, products, and the place of the lowest 1. A block begins at a variable, and
-- what stands behind it begins behind its gates. Nothing is simplified.
use Rattle.std.specs.Prelude.{ℕ, suc, ◌+◌, ◌-◌, ◌^◌, min, List, [], ◌∷◌, ◌++◌, map, length, replicate, take, drop}
use Rattle.circuit_laws.specs.Literals.{Lit, Is, IsNot, negated, yes, no, variables, constant}
use Rattle.circuit_laws.specs.Gates.{Gate, And, Xor, Mux}

-- the word that the gates make, and the gates
pub record Block : Type 0 where
  pub word : List Lit
  pub gates : List Gate

-- a word without gates
abbrev pub plain : List Lit → Block
plain ls = record { word = ls; gates = [] }

-- one block after another, with the word of the second
abbrev pub after : Block → Block → Block
after first second = record { word = second.word; gates = first.gates ++ second.gates }

-- the variable behind the gates
abbrev pub behind : ℕ → List Gate → ℕ
behind n gates = n + length gates

-- ---- gates bit by bit

-- a bit for each gate
abbrev pub row : List Gate → ℕ → Block
row gates n = record { word = variables n (length gates); gates = gates }

abbrev pub pairwise : (Lit → Lit → Gate) → List Lit → List Lit → List Gate
pairwise f [] ys = []
pairwise f (x ∷ xs) [] = []
pairwise f (x ∷ xs) (y ∷ ys) = f x y ∷ pairwise f xs ys

abbrev pub each : (Lit → Lit → Gate) → List Lit → List Lit → ℕ → Block
each f xs ys n = row (pairwise f xs ys) n

abbrev pub and_word : List Lit → List Lit → ℕ → Block
and_word = each And

abbrev pub xor_word : List Lit → List Lit → ℕ → Block
xor_word = each Xor

-- the first word where the literal is true, else the second
abbrev pub choice : Lit → List Lit → List Lit → ℕ → Block
choice s = each (Mux s)

-- bit by bit, by the bits of a mask
abbrev pub chosen : List Lit → List Lit → List Lit → List Gate
chosen [] xs ys = []
chosen (m ∷ ms) [] ys = []
chosen (m ∷ ms) (x ∷ xs) [] = []
chosen (m ∷ ms) (x ∷ xs) (y ∷ ys) = Mux m x y ∷ chosen ms xs ys

abbrev pub selection : List Lit → List Lit → List Lit → ℕ → Block
selection ms xs ys n = row (chosen ms xs ys) n

abbrev pub flipped : List Lit → List Lit
flipped ls = map negated ls

-- ---- sums

pub record Sum : Type 0 where
  pub word : List Lit
  pub carry : Lit
  pub gates : List Gate

abbrev pub no_sum : Lit → Sum
no_sum c = record { word = []; carry = c; gates = [] }

-- one place: whether the bits differ, the bit of the sum, and the next carry
abbrev pub more_sum : Lit → Lit → Lit → ℕ → Sum → Sum
more_sum x y c n rest = record {
  word = Is (suc n) ∷ rest.word;
  carry = rest.carry;
  gates = Xor x y ∷ Xor (Is n) c ∷ Mux (Is n) c x ∷ rest.gates;
}

unfoldable pub adder : List Lit → List Lit → Lit → ℕ → Sum
adder [] ys c n = no_sum c
adder (x ∷ xs) [] c n = no_sum c
adder (x ∷ xs) (y ∷ ys) c n = more_sum x y c n (adder xs ys (Is (suc (suc n))) (suc (suc (suc n))))

abbrev pub sum_of : Sum → Block
sum_of sum = record { word = sum.word; gates = sum.gates }

abbrev pub subtracter : List Lit → List Lit → ℕ → Sum
subtracter xs ys n = adder xs (flipped ys) yes n

abbrev pub negation : List Lit → ℕ → Sum
negation xs n = adder (flipped xs) (replicate (length xs) no) yes n

-- ---- comparisons

abbrev pub less_unsigned : List Lit → List Lit → ℕ → Block
less_unsigned xs ys n = record { word = negated (subtracter xs ys n).carry ∷ []; gates = (subtracter xs ys n).gates }

unfoldable pub top_negated : List Lit → List Lit
top_negated [] = []
top_negated (l ∷ []) = negated l ∷ []
top_negated (l ∷ m ∷ ls) = l ∷ top_negated (m ∷ ls)

abbrev pub less_signed : List Lit → List Lit → ℕ → Block
less_signed xs ys n = less_unsigned (top_negated xs) (top_negated ys) n

-- whether all places are equal, where this literal tells of those before
abbrev pub more_equal : Lit → Lit → Lit → ℕ → Block → Block
more_equal x y e n rest = record { word = rest.word; gates = Xor x y ∷ And e (IsNot n) ∷ rest.gates }

unfoldable pub equality : List Lit → List Lit → Lit → ℕ → Block
equality [] ys e n = plain (e ∷ [])
equality (x ∷ xs) [] e n = plain (e ∷ [])
equality (x ∷ xs) (y ∷ ys) e n = more_equal x y e n (equality xs ys (Is (suc n)) (suc (suc n)))

-- ---- shifts and rotations

-- the word moved by the number that the literals stand for, of which the first counts 2 ^ j: it is moved by each power of two in turn, or left
unfoldable pub shifter : (ℕ → List Lit → List Lit) → List Lit → List Lit → ℕ → ℕ → Block
shifter moved xs [] j n = plain xs
shifter moved xs (k ∷ ks) j n =
    let first : Block = choice k (moved (2 ^ j) xs) xs n in
    after first (shifter moved first.word ks (suc j) (behind n first.gates))

-- up, with a literal for what enters
abbrev pub raised : Lit → ℕ → List Lit → List Lit
raised fill places xs = take (length xs) (replicate places fill ++ xs)

-- down
abbrev pub lowered : Lit → ℕ → List Lit → List Lit
lowered fill places xs = drop places xs ++ replicate (min places (length xs)) fill

-- up, where the top literals enter below
abbrev pub turned_up : ℕ → List Lit → List Lit
turned_up places xs = drop (length xs - places) xs ++ take (length xs - places) xs

-- down, where the lowest literals enter above
abbrev pub turned_down : ℕ → List Lit → List Lit
turned_down places xs = drop places xs ++ take places xs

-- ---- products

-- the product of a word with the number whose bits from place i on are literals, onto a sum so far
unfoldable pub product : List Lit → List Lit → ℕ → List Lit → ℕ → Block
product xs [] i acc n = plain acc
product xs (y ∷ ys) i acc n =
    let part : Block = row (map (λ x. And x y) (take (length xs - i) xs)) n in
    let sum : Block = sum_of (adder acc (replicate i no ++ part.word) no (behind n part.gates)) in
    after (after part sum) (product xs ys (suc i) sum.word (behind (behind n part.gates) sum.gates))

-- ---- the place of the lowest 1

-- in 32 bits, where the literals stand from place i on, and -1 where none is true
unfoldable pub lowest_place : List Lit → ℕ → ℕ → Block
lowest_place [] i n = plain (replicate 32 yes)
lowest_place (x ∷ xs) i n =
    let rest : Block = lowest_place xs (suc i) n in
    after rest (choice x (constant 32 i) rest.word (behind n rest.gates))

-- ---- other sizes

-- the top literal
abbrev pub top : List Lit → Lit
top [] = no
top (l ∷ []) = l
top (l ∷ m ∷ ls) = top (m ∷ ls)

-- cut, or with literals above
abbrev pub resized : Lit → ℕ → List Lit → List Lit
resized fill count xs = take count xs ++ replicate (count - length xs) fill
