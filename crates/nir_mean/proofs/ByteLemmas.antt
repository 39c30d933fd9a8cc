-- Numbers and their bytes, least byte first: the steps of the loops that read and write them.
use Rattle.std.proofs.Common.{◌≡◌, ℕ, zero, suc, ◌+◌, ◌-◌, ◌*◌, ◌/◌, ◌%◌, ◌^◌, ◌<◌, ◌≤◌, List, ◌∷◌, ◌++◌, length, get_or, drop, take, sym, ◌∙◌, ap, subst, refl, arith, lit<}
use Rattle.std.proofs.Math.ListN.{set}
use Rattle.std.proofs.Math.Nat.{pow-suc, pow-le-pow_right}
use Rattle.std.proofs.Math.Seq.{sets}
use Rattle.std.proofs.lemmas.List.{drop_more}
use Rattle.std.proofs.lemmas.List.Edits.{sets-eq}
use Rattle.std.proofs.lemmas.Bool.{cond-true, le-leb}
use Rattle.nir_mean.specs.State.{bytes_of, is_inside, number_of, stored}

-- one byte more in front
pub number_more : (bytes : List ℕ) (at : ℕ) → at < length bytes → number_of (drop at bytes) ≡ number_of (drop (at + 1) bytes) * 256 + get_or bytes at 0
number_more bytes at within = ap number_of (drop_more bytes at 0 within) ∙ omega arith

-- a number of at most 7 bytes leaves room for one more
pub number_room : (number bytes : ℕ) → number < 256 ^ bytes → bytes ≤ 7 → number < 2 ^ 56
number_room number bytes small few =
    let most : 256 ^ bytes ≤ 256 ^ 7 = pow-le-pow_right (lit< tt) few in
    omega arith

pub number_grows : (number byte bytes : ℕ) → number < 256 ^ bytes → byte < 256 → number * 256 + byte < 256 ^ (bytes + 1)
number_grows number byte bytes small low =
    subst (λ (n : ℕ). number * 256 + byte < n) (sym (ap (λ n. 256 ^ n) (omega arith) ∙ pow-suc 256 bytes)) (omega arith)

pub bytes_pow : (size : ℕ) → 0 < 256 ^ size
bytes_pow size = let least : 256 ^ 0 ≤ 256 ^ size = pow-le-pow_right (lit< tt) {i = 0} {j = size} (omega arith) in omega arith

-- one byte more is written
pub bytes_of-more : (size number : ℕ) → 0 < size → bytes_of size number ≡ number % 256 ∷ bytes_of (size - 1) (number / 256)
bytes_of-more zero number some = absurd (omega arith)
bytes_of-more (suc size) number some = ap (λ n. number % 256 ∷ bytes_of n (number / 256)) (omega arith)

pub sets_more : (bytes : List ℕ) (place size number : ℕ) → 0 < size → sets bytes place (bytes_of size number) ≡ sets (set bytes place (number % 256)) (place + 1) (bytes_of (size - 1) (number / 256))
sets_more bytes place size number some =
    ap (sets bytes place) (bytes_of-more size number some) ∙ ap (λ n. sets (set bytes place (number % 256)) n (bytes_of (size - 1) (number / 256))) (omega arith)

length-bytes_of : (size number : ℕ) → length (bytes_of size number) ≡ size
length-bytes_of zero number = refl
length-bytes_of (suc size) number = ap suc (length-bytes_of size (number / 256))

-- all bytes of a number, written at a place
pub sets_whole : (bytes : List ℕ) (place size number : ℕ) → place + size ≤ length bytes → sets bytes place (bytes_of size number) ≡ take place bytes ++ bytes_of size number ++ drop (place + size) bytes
sets_whole bytes place size number within =
    let all : length (bytes_of size number) ≡ size = length-bytes_of size number in
    sets-eq (bytes_of size number) bytes place (omega arith)
    ∙ ap (λ n. take place bytes ++ bytes_of size number ++ drop (place + n) bytes) all

-- the loop that writes: from what is left at one turn to what is left at the next
pub put_more : (first bytes next : List ℕ) (place at size left comp : ℕ) → at < size → next ≡ set bytes (place + at) (left % 256)
    → sets bytes (place + at) (bytes_of (size - at) left) ≡ sets first place (bytes_of size comp)
    → sets next (place + (at + 1)) (bytes_of (size - (at + 1)) (left / 256)) ≡ sets first place (bytes_of size comp)
put_more first bytes next place at size left comp more is before =
    let here : place + (at + 1) ≡ place + at + 1 = omega arith in
    let fewer : size - (at + 1) ≡ size - at - 1 = omega arith in
    ap (λ n. sets next n (bytes_of (size - (at + 1)) (left / 256))) here
    ∙ ap (λ n. sets next (place + at + 1) (bytes_of n (left / 256))) fewer
    ∙ ap (λ list. sets list (place + at + 1) (bytes_of (size - at - 1) (left / 256))) is
    ∙ sym (sets_more bytes (place + at) (size - at) left (omega arith))
    ∙ before

pub put_done : (first bytes : List ℕ) (place at size left comp : ℕ) → size ≤ at → place + size ≤ length first
    → sets bytes (place + at) (bytes_of (size - at) left) ≡ sets first place (bytes_of size comp) → bytes ≡ stored comp first size place
put_done first bytes place at size left comp done within before =
    let none : size - at ≡ 0 = omega arith in
    ap (λ n. sets bytes (place + at) (bytes_of n left)) (sym none)
    ∙ before
    ∙ sets_whole first place size comp within
    ∙ sym (cond-true (is_inside first size place) (take place first ++ bytes_of size comp ++ drop (place + size) first) first (le-leb (place + size) (length first) within))

pub number_less : (bytes : List ℕ) (at number byte : ℕ) → 0 < at → at ≤ length bytes → byte < 256 → number < 256 ^ (length bytes - at) → number * 256 + byte < 256 ^ (length bytes - (at - 1))
number_less bytes at number byte some within low small =
    let more : length bytes - at + 1 ≡ length bytes - (at - 1) = omega arith in
    subst (λ (n : ℕ). number * 256 + byte < 256 ^ n) more (number_grows number byte (length bytes - at) small low)

pub number_next : (bytes : List ℕ) (at number : ℕ) → 0 < at → at ≤ length bytes → number ≡ number_of (drop at bytes) → number * 256 + get_or bytes (at - 1) 0 ≡ number_of (drop (at - 1) bytes)
number_next bytes at number some within is =
    let here : at ≡ at - 1 + 1 = omega arith in
    ap (λ n. n * 256 + get_or bytes (at - 1) 0) (is ∙ ap (λ n. number_of (drop n bytes)) here)
    ∙ sym (number_more bytes (at - 1) (omega arith))
