-- Blocks at a bit of their words, and past the last one.
use Rattle.std.proofs.Common.{◌≡◌, ℕ, suc, ◌+◌, ◌-◌, ◌*◌, ◌%◌, ◌^◌, ◌<◌, ◌≤◌, List, [], ◌∷◌, ◌++◌, length, get_or, take, drop, replicate, map, min, refl, sym, subst, ◌∙◌, ap, arith, ⊎_elim, add-one, length-append}
use Rattle.std.proofs.Math.ListN.{drop_of_length-le}
use Rattle.std.proofs.Math.Nat.{mod-eq_of_lt, one-mul}
use Rattle.std.proofs.Math.Pow.{pow-lt}
use Rattle.std.proofs.Math.Seq.{drop-length}
use Rattle.std.proofs.lemmas.Bool.{cases_lt}
use Rattle.std.proofs.lemmas.List.{append-nil, drop_more, length-take-le}
use Rattle.circuit_laws.specs.Literals.{Lit, Is, IsNot, negated, yes, no, constant}
use Rattle.circuit_laws.specs.Gates.{Gate, Xor, And, Mux}
use Rattle.circuit_laws.specs.Blocks.{Block, plain, after, behind, row, each, pairwise, chosen, choice, Sum, no_sum, more_sum, adder, sum_of, more_equal, equality, shifter, product, lowest_place}
use Rattle.bit_circuit.specs.declared.circuit.Circuit.{Circuit}
use Rattle.bit_circuit.specs.Growth.{with_gate, grown}
use Rattle.bit_circuit.specs.Partial.{part, sum_behind, with_part}
use Rattle.bit_circuit.proofs.GrowthLemmas.{Left, left_more, left_end, gate_next, grown-next, grown-append}

pub from_at : {A : Type 0} (xs : List A) (at : ℕ) (x : A) → at < length xs → x ≡ get_or xs at x → drop at xs ≡ x ∷ drop (at + 1) xs
from_at xs at x less is = drop_more xs at x less ∙ ap (λ y. y ∷ drop (at + 1) xs) (sym is)

pub pairwise_at : (f : Lit → Lit → Gate) (xs ys : List Lit) (at : ℕ) (x y : Lit) → at < length xs → at < length ys → x ≡ get_or xs at x → y ≡ get_or ys at y →
    pairwise f (drop at xs) (drop at ys) ≡ f x y ∷ pairwise f (drop (at + 1) xs) (drop (at + 1) ys)
pairwise_at f xs ys at x y first second is also =
    ap (λ l. pairwise f l (drop at ys)) (from_at xs at x first is)
    ∙ ap (λ l. pairwise f (x ∷ drop (at + 1) xs) l) (from_at ys at y second also)

pairwise_none : (f : Lit → Lit → Gate) (xs : List Lit) → pairwise f xs [] ≡ []
pairwise_none f [] = refl
pairwise_none f (x ∷ xs) = refl

-- past the last place of one of two words
past : (P : List Lit → List Lit → Type 0) (xs ys : List Lit) (at : ℕ) → min (length xs) (length ys) ≤ at → ((b : List Lit) → P [] b) → ((a : List Lit) → P a []) → P (drop at xs) (drop at ys)
past P xs ys at end first second = ⊎_elim
    (λ (low : at < length xs). let none : drop at ys ≡ [] = drop_of_length-le ys (omega arith) in rw none (second (drop at xs)))
    (λ (high : length xs ≤ at). let none : drop at xs ≡ [] = drop_of_length-le xs high in rw none (first (drop at ys)))
    (cases_lt at (length xs))

pub pairwise_past : (f : Lit → Lit → Gate) (xs ys : List Lit) (at : ℕ) → min (length xs) (length ys) ≤ at → pairwise f (drop at xs) (drop at ys) ≡ []
pairwise_past f xs ys at end = past (λ a b. pairwise f a b ≡ []) xs ys at end (λ b. refl) (pairwise_none f)

-- ---- sums

pub adder_at : (xs ys : List Lit) (at : ℕ) (x y c : Lit) (n : ℕ) → at < length xs → at < length ys → x ≡ get_or xs at x → y ≡ get_or ys at y →
    adder (drop at xs) (drop at ys) c n ≡ more_sum x y c n (adder (drop (at + 1) xs) (drop (at + 1) ys) (Is (suc (suc n))) (suc (suc (suc n))))
unfolding adder
adder_at xs ys at x y c n first second is also =
    ap (λ l. adder l (drop at ys) c n) (from_at xs at x first is)
    ∙ ap (λ l. adder (x ∷ drop (at + 1) xs) l c n) (from_at ys at y second also)

adder_first : (ys : List Lit) (c : Lit) (n : ℕ) → adder [] ys c n ≡ no_sum c
unfolding adder
adder_first ys c n = refl

adder_second : (xs : List Lit) (c : Lit) (n : ℕ) → adder xs [] c n ≡ no_sum c
unfolding adder
adder_second [] c n = refl
adder_second (x ∷ xs) c n = refl

pub adder_past : (xs ys : List Lit) (at : ℕ) (c : Lit) (n : ℕ) → min (length xs) (length ys) ≤ at → adder (drop at xs) (drop at ys) c n ≡ no_sum c
adder_past xs ys at c n end = past (λ a b. adder a b c n ≡ no_sum c) xs ys at end (λ b. adder_first b c n) (λ a. adder_second a c n)

-- a sum, one bit further: whether the bits differ, the bit of the sum, and the next carry are the gates at k
pub adder_turn : (xs ys : List Lit) (at : ℕ) (x y c c' differ bit : Lit) (k k1 k2 k3 start : Circuit) (word word' : List Lit) (whole : Block) →
    Left k word (sum_of (adder (drop at xs) (drop at ys) c k.next)) start whole →
    adder (drop at xs) (drop at ys) c k.next ≡ more_sum x y c k.next (adder (drop (at + 1) xs) (drop (at + 1) ys) (Is (suc (suc k.next))) (suc (suc (suc k.next)))) →
    differ ≡ Is k.next → k1 ≡ with_gate k (Xor x y) → bit ≡ Is k1.next → k2 ≡ with_gate k1 (Xor differ c) → c' ≡ Is k2.next → k3 ≡ with_gate k2 (Mux differ c x) → word' ≡ word ++ bit ∷ [] →
    Left k3 word' (sum_of (adder (drop (at + 1) xs) (drop (at + 1) ys) c' k3.next)) start whole
adder_turn xs ys at x y c c' differ bit k k1 k2 k3 start word word' whole left is d f1 b f2 e f3 longer =
    let n = k.next in
    let rest : Lit → ℕ → Sum = λ l m. adder (drop (at + 1) xs) (drop (at + 1) ys) l m in
    let one : k1.next ≡ suc n = gate_next k k1 (Xor x y) f1 in
    let two : k2.next ≡ suc (suc n) = gate_next k1 k2 (Xor differ c) f2 ∙ ap suc one in
    let three : k3.next ≡ suc (suc (suc n)) = gate_next k2 k3 (Mux differ c x) f3 ∙ ap suc two in
    let same : rest (Is (suc (suc n))) (suc (suc (suc n))) ≡ rest c' k3.next = ap (λ l. rest l (suc (suc (suc n)))) (sym (e ∙ ap Is two)) ∙ ap (rest c') (sym three) in
    let gates : List Gate = Xor x y ∷ Xor (Is n) c ∷ Mux (Is n) c x ∷ [] in
    left_more k k3 word word' (Is (suc n) ∷ []) gates (sum_of (adder (drop at xs) (drop at ys) c n)) (sum_of (rest c' k3.next)) start whole left
    (ap sum_of is ∙ ap (λ s. sum_of (more_sum x y c n s)) same)
    (f3 ∙ ap (λ m. with_gate m (Mux differ c x)) f2 ∙ ap (λ m. with_gate (with_gate m (Xor differ c)) (Mux differ c x)) f1
    ∙ ap (λ l. with_gate (with_gate (with_gate k (Xor x y)) (Xor l c)) (Mux l c x)) d)
    (longer ∙ ap (λ l. word ++ l ∷ []) (b ∙ ap Is one))

pub adder_carry : (xs ys : List Lit) (at : ℕ) (x y c c' differ whole : Lit) (k k1 k2 k3 : Circuit) →
    (adder (drop at xs) (drop at ys) c k.next).carry ≡ whole →
    adder (drop at xs) (drop at ys) c k.next ≡ more_sum x y c k.next (adder (drop (at + 1) xs) (drop (at + 1) ys) (Is (suc (suc k.next))) (suc (suc (suc k.next)))) →
    k1 ≡ with_gate k (Xor x y) → k2 ≡ with_gate k1 (Xor differ c) → c' ≡ Is k2.next → k3 ≡ with_gate k2 (Mux differ c x) →
    (adder (drop (at + 1) xs) (drop (at + 1) ys) c' k3.next).carry ≡ whole
adder_carry xs ys at x y c c' differ whole k k1 k2 k3 carry is f1 f2 e f3 =
    let n = k.next in
    let rest : Lit → ℕ → Sum = λ l m. adder (drop (at + 1) xs) (drop (at + 1) ys) l m in
    let one : k1.next ≡ suc n = gate_next k k1 (Xor x y) f1 in
    let two : k2.next ≡ suc (suc n) = gate_next k1 k2 (Xor differ c) f2 ∙ ap suc one in
    let three : k3.next ≡ suc (suc (suc n)) = gate_next k2 k3 (Mux differ c x) f3 ∙ ap suc two in
    ap (λ l. (rest l k3.next).carry) (e ∙ ap Is two)
    ∙ ap (λ m. (rest (Is (suc (suc n))) m).carry) three
    ∙ ap (λ s. s.carry) (sym is)
    ∙ carry

pub adder_end : (xs ys : List Lit) (at : ℕ) (c : Lit) (k start : Circuit) (word : List Lit) (whole : Block) → min (length xs) (length ys) ≤ at →
    Left k word (sum_of (adder (drop at xs) (drop at ys) c k.next)) start whole → (word ≡ whole.word) × (k ≡ grown start whole.gates)
adder_end xs ys at c k start word whole end left =
    let both : (word ++ [] ≡ whole.word) × (k ≡ grown start whole.gates) =
    left_end k word [] (sum_of (adder (drop at xs) (drop at ys) c k.next)) start whole left (ap sum_of (adder_past xs ys at c k.next end)) in
    (sym (append-nil word) ∙ both.0, both.1)

-- ---- equality

pub equality_at : (xs ys : List Lit) (at : ℕ) (x y e : Lit) (n : ℕ) → at < length xs → at < length ys → x ≡ get_or xs at x → y ≡ get_or ys at y →
    equality (drop at xs) (drop at ys) e n ≡ more_equal x y e n (equality (drop (at + 1) xs) (drop (at + 1) ys) (Is (suc n)) (suc (suc n)))
unfolding equality
equality_at xs ys at x y e n first second is also =
    ap (λ l. equality l (drop at ys) e n) (from_at xs at x first is)
    ∙ ap (λ l. equality (x ∷ drop (at + 1) xs) l e n) (from_at ys at y second also)

equality_first : (ys : List Lit) (e : Lit) (n : ℕ) → equality [] ys e n ≡ plain (e ∷ [])
unfolding equality
equality_first ys e n = refl

equality_second : (xs : List Lit) (e : Lit) (n : ℕ) → equality xs [] e n ≡ plain (e ∷ [])
unfolding equality
equality_second [] e n = refl
equality_second (x ∷ xs) e n = refl

pub equality_past : (xs ys : List Lit) (at : ℕ) (e : Lit) (n : ℕ) → min (length xs) (length ys) ≤ at → equality (drop at xs) (drop at ys) e n ≡ plain (e ∷ [])
equality_past xs ys at e n end = past (λ a b. equality a b e n ≡ plain (e ∷ [])) xs ys at end (λ b. equality_first b e n) (λ a. equality_second a e n)

-- one bit further: whether the bits differ, and whether all are equal so far, are the gates at k
pub equality_turn : (xs ys : List Lit) (at : ℕ) (x y e e' differ not_differ : Lit) (k k1 k2 start : Circuit) (whole : Block) →
    Left k [] (equality (drop at xs) (drop at ys) e k.next) start whole →
    equality (drop at xs) (drop at ys) e k.next ≡ more_equal x y e k.next (equality (drop (at + 1) xs) (drop (at + 1) ys) (Is (suc k.next)) (suc (suc k.next))) →
    differ ≡ Is k.next → not_differ ≡ negated differ → k1 ≡ with_gate k (Xor x y) → e' ≡ Is k1.next → k2 ≡ with_gate k1 (And e not_differ) →
    Left k2 [] (equality (drop (at + 1) xs) (drop (at + 1) ys) e' k2.next) start whole
equality_turn xs ys at x y e e' differ not_differ k k1 k2 start whole left is d nd f1 b f2 =
    let n = k.next in
    let rest : Lit → ℕ → Block = λ l m. equality (drop (at + 1) xs) (drop (at + 1) ys) l m in
    let one : k1.next ≡ suc n = gate_next k k1 (Xor x y) f1 in
    let two : k2.next ≡ suc (suc n) = gate_next k1 k2 (And e not_differ) f2 ∙ ap suc one in
    let same : rest (Is (suc n)) (suc (suc n)) ≡ rest e' k2.next = ap (λ l. rest l (suc (suc n))) (sym (b ∙ ap Is one)) ∙ ap (rest e') (sym two) in
    left_more k k2 [] [] [] (Xor x y ∷ And e (IsNot n) ∷ []) (equality (drop at xs) (drop at ys) e n) (rest e' k2.next) start whole left
    (is ∙ ap (more_equal x y e n) same)
    (f2 ∙ ap (λ m. with_gate m (And e not_differ)) f1 ∙ ap (λ l. with_gate (with_gate k (Xor x y)) (And e l)) (nd ∙ ap negated d))
    refl

-- ---- selection

pub chosen_at : (ms xs ys : List Lit) (at : ℕ) (m x y : Lit) → at < length ms → at < length xs → at < length ys → m ≡ get_or ms at m → x ≡ get_or xs at x → y ≡ get_or ys at y →
    chosen (drop at ms) (drop at xs) (drop at ys) ≡ Mux m x y ∷ chosen (drop (at + 1) ms) (drop (at + 1) xs) (drop (at + 1) ys)
chosen_at ms xs ys at m x y first second third is also too =
    ap (λ l. chosen l (drop at xs) (drop at ys)) (from_at ms at m first is)
    ∙ ap (λ l. chosen (m ∷ drop (at + 1) ms) l (drop at ys)) (from_at xs at x second also)
    ∙ ap (λ l. chosen (m ∷ drop (at + 1) ms) (x ∷ drop (at + 1) xs) l) (from_at ys at y third too)

chosen_second : (ms ys : List Lit) → chosen ms [] ys ≡ []
chosen_second [] ys = refl
chosen_second (m ∷ ms) ys = refl

chosen_third : (ms xs : List Lit) → chosen ms xs [] ≡ []
chosen_third [] xs = refl
chosen_third (m ∷ ms) [] = refl
chosen_third (m ∷ ms) (x ∷ xs) = refl

pub chosen_past : (ms xs ys : List Lit) (at : ℕ) → min (min (length ms) (length xs)) (length ys) ≤ at → chosen (drop at ms) (drop at xs) (drop at ys) ≡ []
chosen_past ms xs ys at end = ⊎_elim
    (λ (low : at < length ys). past (λ a b. chosen a b (drop at ys) ≡ []) ms xs at (omega arith) (λ b. refl) (λ a. chosen_second a (drop at ys)))
    (λ (high : length ys ≤ at). let none : drop at ys ≡ [] = drop_of_length-le ys high in rw none (chosen_third (drop at ms) (drop at xs)))
    (cases_lt at (length ys))

-- ---- shifts

shifter_nil : (moved : ℕ → List Lit → List Lit) (xs : List Lit) (j n : ℕ) → shifter moved xs [] j n ≡ plain xs
unfolding shifter
shifter_nil moved xs j n = refl

shifter_cons : (moved : ℕ → List Lit → List Lit) (xs : List Lit) (bit : Lit) (ks : List Lit) (j n : ℕ) →
    let first : Block = choice bit (moved (2 ^ j) xs) xs n in shifter moved xs (bit ∷ ks) j n ≡ after first (shifter moved first.word ks (suc j) (behind n first.gates))
unfolding shifter
shifter_cons moved xs bit ks j n = refl

-- the word moved by one more power of two, or left
pub shifter_turn : (moved : ℕ → List Lit → List Lit) (xs xs' far ks : List Lit) (at : ℕ) (bit : Lit) (k k' start : Circuit) (whole : Block) → at < length ks → bit ≡ get_or ks at bit →
    Left k [] (shifter moved xs (drop at ks) at k.next) start whole → far ≡ moved (2 ^ at) xs →
    xs' ≡ (choice bit far xs k.next).word → k' ≡ grown k (choice bit far xs k.next).gates →
    Left k' [] (shifter moved xs' (drop (at + 1) ks) (at + 1) k'.next) start whole
shifter_turn moved xs xs' far ks at bit k k' start whole less is left away chosen more =
    let first : Block = choice bit (moved (2 ^ at) xs) xs k.next in
    let rest : List Lit → ℕ → ℕ → Block = λ w j n. shifter moved w (drop (at + 1) ks) j n in
    let gates : k' ≡ grown k first.gates = more ∙ ap (λ w. grown k (choice bit w xs k.next).gates) away in
    let next : k'.next ≡ behind k.next first.gates = ap (λ m. m.next) gates ∙ grown-next k first.gates in
    let word : xs' ≡ first.word = chosen ∙ ap (λ w. (choice bit w xs k.next).word) away in
    left_more k k' [] [] [] first.gates (shifter moved xs (drop at ks) at k.next) (rest xs' (at + 1) k'.next) start whole left
    (ap (λ l. shifter moved xs l at k.next) (from_at ks at bit less is)
    ∙ shifter_cons moved xs bit (drop (at + 1) ks) at k.next
    ∙ ap (λ n. after first (rest first.word (suc at) n)) (sym next)
    ∙ ap (λ w. after first (rest w (suc at) k'.next)) (sym word)
    ∙ ap (λ j. after first (rest xs' j k'.next)) (sym (add-one at)))
    gates
    refl

pub shifter_end : (moved : ℕ → List Lit → List Lit) (xs ks : List Lit) (at : ℕ) (k start : Circuit) (whole : Block) → length ks ≤ at →
    Left k [] (shifter moved xs (drop at ks) at k.next) start whole → (xs ≡ whole.word) × (k ≡ grown start whole.gates)
shifter_end moved xs ks at k start whole end left =
    left_end k [] xs (shifter moved xs (drop at ks) at k.next) start whole left (ap (λ l. shifter moved xs l at k.next) (drop_of_length-le ks end) ∙ shifter_nil moved xs at k.next)

-- ---- products

product_nil : (xs : List Lit) (i : ℕ) (acc : List Lit) (n : ℕ) → product xs [] i acc n ≡ plain acc
unfolding product
product_nil xs i acc n = refl

product_cons : (xs : List Lit) (y : Lit) (ys : List Lit) (i : ℕ) (acc : List Lit) (n : ℕ) →
    product xs (y ∷ ys) i acc n ≡ after (with_part xs y i acc n) (product xs ys (suc i) (with_part xs y i acc n).word (behind (behind n (part xs y i n).gates) (sum_behind (part xs y i n) i acc n).gates))
unfolding product
product_cons xs y ys i acc n = refl

pub behind_both : (n : ℕ) (a b : List Gate) → behind (behind n a) b ≡ behind n (a ++ b)
behind_both n a b = omega (arith, length-append a b)

-- one more bit of the second word
pub product_turn : (xs ys acc acc' : List Lit) (at : ℕ) (y : Lit) (k k' start : Circuit) (whole : Block) → at < length ys → y ≡ get_or ys at y →
    Left k [] (product xs (drop at ys) at acc k.next) start whole →
    acc' ≡ (with_part xs y at acc k.next).word → k' ≡ grown k (with_part xs y at acc k.next).gates →
    Left k' [] (product xs (drop (at + 1) ys) (at + 1) acc' k'.next) start whole
product_turn xs ys acc acc' at y k k' start whole less is left word gates =
    let first : Block = part xs y at k.next in
    let second : Block = sum_behind first at acc k.next in
    let both : Block = with_part xs y at acc k.next in
    let rest : ℕ → List Lit → ℕ → Block = λ i w n. product xs (drop (at + 1) ys) i w n in
    let next : k'.next ≡ behind (behind k.next first.gates) second.gates =
    ap (λ m. m.next) gates ∙ grown-next k both.gates ∙ sym (behind_both k.next first.gates second.gates) in
    left_more k k' [] [] [] both.gates (product xs (drop at ys) at acc k.next) (rest (at + 1) acc' k'.next) start whole left
    (ap (λ l. product xs l at acc k.next) (from_at ys at y less is)
    ∙ product_cons xs y (drop (at + 1) ys) at acc k.next
    ∙ ap (λ n. after both (rest (suc at) both.word n)) (sym next)
    ∙ ap (λ w. after both (rest (suc at) w k'.next)) (sym word)
    ∙ ap (λ j. after both (rest j acc' k'.next)) (sym (add-one at)))
    gates
    refl

pub product_end : (xs ys acc : List Lit) (at : ℕ) (k start : Circuit) (whole : Block) → length ys ≤ at →
    Left k [] (product xs (drop at ys) at acc k.next) start whole → (acc ≡ whole.word) × (k ≡ grown start whole.gates)
product_end xs ys acc at k start whole end left =
    left_end k [] acc (product xs (drop at ys) at acc k.next) start whole left (ap (λ l. product xs l at acc k.next) (drop_of_length-le ys end) ∙ product_nil xs at acc k.next)

-- a word and one bit
and_row : (zs : List Lit) (y : Lit) → pairwise And zs (replicate (length zs) y) ≡ map (λ x. And x y) zs
and_row [] y = refl
and_row (z ∷ zs) y = ap (λ gs. And z y ∷ gs) (and_row zs y)

pub part_row : (xs : List Lit) (y : Lit) (i : ℕ) → pairwise And (take (length xs - i) xs) (replicate (length xs - i) y) ≡ map (λ x. And x y) (take (length xs - i) xs)
part_row xs y i =
    let kept : length xs - i ≤ length xs = omega arith in
    ap (λ m. pairwise And (take (length xs - i) xs) (replicate m y)) (sym (length-take-le (length xs - i) xs kept)) ∙ and_row (take (length xs - i) xs) y

-- ---- the place of the lowest 1

pub lowest_none : (xs : List Lit) (n : ℕ) → lowest_place (drop (length xs) xs) (length xs) n ≡ plain (replicate 32 yes)
unfolding lowest_place
lowest_none xs n = ap (λ l. lowest_place l (length xs) n) (drop-length xs)

lowest_cons : (x : Lit) (xs : List Lit) (i n : ℕ) →
    let rest : Block = lowest_place xs (suc i) n in lowest_place (x ∷ xs) i n ≡ after rest (choice x (constant 32 i) rest.word (behind n rest.gates))
unfolding lowest_place
lowest_cons x xs i n = refl

-- one bit lower
pub lowest_turn : (xs : List Lit) (at : ℕ) (x : Lit) (word word' place : List Lit) (k k' start : Circuit) → at < length xs → x ≡ get_or xs at x →
    word ≡ (lowest_place (drop (at + 1) xs) (at + 1) start.next).word → k ≡ grown start (lowest_place (drop (at + 1) xs) (at + 1) start.next).gates → place ≡ constant 32 at →
    word' ≡ (choice x place word k.next).word → k' ≡ grown k (choice x place word k.next).gates →
    (word' ≡ (lowest_place (drop at xs) at start.next).word) × (k' ≡ grown start (lowest_place (drop at xs) at start.next).gates)
lowest_turn xs at x word word' place k k' start less is same made low chosen more =
    let n = start.next in
    let rest : Block = lowest_place (drop (at + 1) xs) (at + 1) n in
    let own : Block = choice x (constant 32 at) rest.word (behind n rest.gates) in
    let next : k.next ≡ behind n rest.gates = ap (λ m. m.next) made ∙ grown-next start rest.gates in
    let block : choice x place word k.next ≡ own =
    ap (λ p. choice x p word k.next) low ∙ ap (λ w. choice x (constant 32 at) w k.next) same ∙ ap (λ m. choice x (constant 32 at) rest.word m) next in
    let whole : after rest own ≡ lowest_place (drop at xs) at n = sym (ap (λ l. lowest_place l at n) (from_at xs at x less is) ∙ from x at n) in (
      chosen ∙ ap (λ b. b.word) block ∙ ap (λ b. b.word) whole,
      more
          ∙ ap (λ b. grown k b.gates) block
          ∙ ap (λ m. grown m own.gates) made
          ∙ grown-append start rest.gates own.gates
          ∙ ap (λ b. grown start b.gates) whole,
    )
  where
    from : (y : Lit) (i m : ℕ) → let later : Block = lowest_place (drop (i + 1) xs) (i + 1) m in lowest_place (y ∷ drop (i + 1) xs) i m ≡ after later (choice y (constant 32 i) later.word (behind m later.gates))
    from y i m = subst
        (λ (j : ℕ). let later : Block = lowest_place (drop (i + 1) xs) j m in lowest_place (y ∷ drop (i + 1) xs) i m ≡ after later (choice y (constant 32 i) later.word (behind m later.gates)))
        (sym (add-one i)) (lowest_cons y (drop (i + 1) xs) i m)

pub with_part_made : (xs acc bits word below added more : List Lit) (y z z' : Lit) (i kept : ℕ) (k k1 k2 : Circuit) → kept ≡ length xs - i → bits ≡ replicate kept y →
    word ≡ (each And (take kept xs) bits k.next).word → k1 ≡ grown k (each And (take kept xs) bits k.next).gates →
    z ≡ no → below ≡ replicate i z → added ≡ below ++ word → z' ≡ no → more ≡ (adder acc added z' k1.next).word → k2 ≡ grown k1 (adder acc added z' k1.next).gates →
    (more ≡ (with_part xs y i acc k.next).word) × (k2 ≡ grown k (with_part xs y i acc k.next).gates)
with_part_made xs acc bits word below added more y z z' i kept k k1 k2 few bs made gates low_is low high carry_is sum rest =
    let first : Block = part xs y i k.next in
    let own : each And (take kept xs) bits k.next ≡ first =
    ap (λ b. each And (take kept xs) b k.next) bs
    ∙ ap (λ m. each And (take m xs) (replicate m y) k.next) few
    ∙ ap (λ gs. row gs k.next) (part_row xs y i) in
    let grows : k1 ≡ grown k first.gates = gates ∙ ap (λ b. grown k b.gates) own in
    let next : k1.next ≡ behind k.next first.gates = ap (λ m. m.next) grows ∙ grown-next k first.gates in
    let both : added ≡ replicate i no ++ first.word = high ∙ ap (λ b. b ++ word) (low ∙ ap (replicate i) low_is) ∙ ap (λ w. replicate i no ++ w) (made ∙ ap (λ b. b.word) own) in
    let whole : adder acc added z' k1.next ≡ adder acc (replicate i no ++ first.word) no (behind k.next first.gates) =
    ap (λ w. adder acc w z' k1.next) both ∙ ap (λ c. adder acc (replicate i no ++ first.word) c k1.next) carry_is ∙ ap (adder acc (replicate i no ++ first.word) no) next in (
      sum ∙ ap (λ s. s.word) whole,
      rest
          ∙ ap (λ s. grown k1 s.gates) whole
          ∙ ap (λ m. grown m (sum_behind first i acc k.next).gates) grows
          ∙ grown-append k first.gates (sum_behind first i acc k.next).gates,
    )

pub one_raised : (place : ℕ) → place < 64 → 1 * 2 ^ place % 2 ^ 64 ≡ 2 ^ place
one_raised place h = ap (λ m. m % 2 ^ 64) (one-mul (2 ^ place)) ∙ mod-eq_of_lt (pow-lt h)
