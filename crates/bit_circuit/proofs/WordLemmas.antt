-- Parts of words: the top literal, what is cut off, and what enters.
use Rattle.std.proofs.Common.{◌≡◌, ℕ, zero, suc, ◌+◌, ◌-◌, ◌<◌, ◌≤◌, ◌%◌, ◌/◌, ◌==◌, cond, List, [], ◌∷◌, ◌++◌, length, get_or, take, drop, replicate, min, refl, sym, ◌∙◌, ap, arith, append_assoc, ⊎_elim}
use Rattle.std.proofs.Math.Seq.{take-append-add}
use Rattle.std.proofs.lemmas.Bool.{cases_lt}
use Rattle.std.proofs.lemmas.List.{append-nil, length-replicate, take-append-le, take-replicate}
use Rattle.circuit_laws.specs.Literals.{Lit, negated, yes, no, constant}
use Rattle.circuit_laws.specs.Blocks.{top, top_negated, raised}

pub top_last : (ls : List Lit) (l : Lit) → 0 < length ls → l ≡ get_or ls (length ls - 1) l → l ≡ top ls
top_last [] l h is = absurd (omega (arith, h))
top_last (x ∷ []) l h is = is
top_last (x ∷ y ∷ ls) l h is =
    let behind : suc (suc (length ls)) - 1 ≡ suc (suc (length ls) - 1) = omega arith in
    top_last (y ∷ ls) l (omega arith) (is ∙ ap (λ n. get_or (x ∷ y ∷ ls) n l) behind)

pub top_negated_parts : (ls : List Lit) (l : Lit) → 0 < length ls → l ≡ get_or ls (length ls - 1) l → take (length ls - 1) ls ++ negated l ∷ [] ≡ top_negated ls
unfolding top_negated
top_negated_parts [] l h is = absurd (omega (arith, h))
top_negated_parts (x ∷ []) l h is = ap (λ y. negated y ∷ []) is
top_negated_parts (x ∷ y ∷ ls) l h is =
    let behind : suc (suc (length ls)) - 1 ≡ suc (suc (length ls) - 1) = omega arith in
    ap (λ n. take n (x ∷ y ∷ ls) ++ negated l ∷ []) behind
    ∙ ap (λ w. x ∷ w) (top_negated_parts (y ∷ ls) l (omega arith) (is ∙ ap (λ n. get_or (x ∷ y ∷ ls) n l) behind))

pub take_least : {A : Type 0} (n : ℕ) (list : List A) → take (min (length list) n) list ≡ take n list
take_least zero [] = refl
take_least zero (x ∷ list) = let none : min (suc (length list)) 0 ≡ 0 = omega arith in ap (λ m. take m (x ∷ list)) none
take_least (suc n) [] = let none : min 0 (suc n) ≡ 0 = omega arith in ap (λ m. take m []) none
take_least (suc n) (x ∷ list) =
    let one : min (suc (length list)) (suc n) ≡ suc (min (length list) n) = omega arith in
    ap (λ m. take m (x ∷ list)) one ∙ ap (λ w. x ∷ w) (take_least n list)

pub drop_least : {A : Type 0} (n : ℕ) (list : List A) → drop (min (length list) n) list ≡ drop n list
drop_least zero [] = refl
drop_least zero (x ∷ list) = let none : min (suc (length list)) 0 ≡ 0 = omega arith in ap (λ m. drop m (x ∷ list)) none
drop_least (suc n) [] = let none : min 0 (suc n) ≡ 0 = omega arith in ap (λ m. drop m []) none
drop_least (suc n) (x ∷ list) =
    let one : min (suc (length list)) (suc n) ≡ suc (min (length list) n) = omega arith in
    ap (λ m. drop m (x ∷ list)) one ∙ drop_least n list

-- one more bit of a constant
pub constant_turn : (word : List Lit) (count at value : ℕ) → at < count → (word ++ cond (value % 2 == 1) yes no ∷ []) ++ constant (count - (at + 1)) (value / 2) ≡ word ++ constant (count - at) value
constant_turn word count at value less =
    let more : count - at ≡ suc (count - (at + 1)) = omega arith in
    append_assoc word (cond (value % 2 == 1) yes no ∷ []) (constant (count - (at + 1)) (value / 2)) ∙ ap (λ n. word ++ constant n value) (sym more)

-- what enters below, and what stays of the word
pub raised_parts : (fill : Lit) (places : ℕ) (xs : List Lit) → replicate (length xs - (length xs - places)) fill ++ take (length xs - places) xs ≡ raised fill places xs
raised_parts fill places xs = ⊎_elim
    (λ (few : places < length xs).
    let same : length xs - (length xs - places) ≡ places = omega arith in
    let whole : length (replicate places fill) + (length xs - places) ≡ length xs = omega (arith, length-replicate places fill, few) in
    ap (λ n. replicate n fill ++ take (length xs - places) xs) same
    ∙ sym (take-append-add (replicate places fill) xs (length xs - places))
    ∙ ap (λ n. take n (replicate places fill ++ xs)) whole)
    (λ (many : length xs ≤ places).
    let all : length xs - (length xs - places) ≡ length xs = omega arith in
    let none : length xs - places ≡ 0 = omega arith in
    let within : length xs ≤ length (replicate places fill) = omega (arith, length-replicate places fill, many) in
    ap (λ n. replicate n fill ++ take (length xs - places) xs) all
    ∙ ap (λ n. replicate (length xs) fill ++ take n xs) none
    ∙ append-nil (replicate (length xs) fill)
    ∙ sym (take-replicate (length xs) places fill many)
    ∙ sym (take-append-le (length xs) (replicate places fill) xs within))
    (cases_lt places (length xs))
