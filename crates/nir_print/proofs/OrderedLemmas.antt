-- Whether numbers are those from one on in order, decided number by number.
use Rattle.std.proofs.Common.{◌≡◌, ℕ, suc, zero, ◌+◌, ◌-◌, ◌<◌, ◌≤◌, Bool, true, false, ◌&&◌, eqb, List, [], ◌∷◌, length, get_or, drop, ap, sym, ◌∙◌, refl, arith}
use Rattle.std.specs.List.{range_with_len}
use Rattle.std.specs.Str.{bytes_eq}
use Rattle.std.proofs.lemmas.List.{drop_more, at_drop_all}
use Rattle.std.proofs.lemmas.Bool.Decides.{nat_tests}

-- the numbers are those from next on to below count
abbrev pub counts : List ℕ → ℕ → ℕ → Bool
counts numbers next count = bytes_eq numbers (range_with_len next (count - next))

counts-cons : (x : ℕ) (rest : List ℕ) (next count : ℕ) → next < count → counts (x ∷ rest) next count ≡ eqb x next && counts rest (next + 1) count
counts-cons x rest next count h =
    let more : count - next ≡ suc (count - (next + 1)) = omega arith in
    ap (λ k. bytes_eq (x ∷ rest) (range_with_len next k)) more

counts-drop : (numbers : List ℕ) (i next count : ℕ) → i < length numbers → next < count → counts (drop i numbers) next count ≡ eqb (get_or numbers i 0) next && counts (drop (i + 1) numbers) (next + 1) count
counts-drop numbers i next count within h =
    ap (λ t. counts t next count) (drop_more numbers i 0 within) ∙ counts-cons (get_or numbers i 0) (drop (i + 1) numbers) next count h

pub counts-stops : (numbers : List ℕ) (i next count : ℕ) → i < length numbers → next ≡ count → counts (drop i numbers) next count ≡ false
counts-stops numbers i next count within h =
    let none : count - next ≡ 0 = omega arith in
    ap (λ t. counts t next count) (drop_more numbers i 0 within) ∙ ap (λ k. bytes_eq (get_or numbers i 0 ∷ drop (i + 1) numbers) (range_with_len next k)) none

eqb-differs : (x y : ℕ) → (x ≡ y → ⊥) → eqb x y ≡ false
eqb-differs x y h = grind (arith, nat_tests)

eqb-same : (x y : ℕ) → x ≡ y → eqb x y ≡ true
eqb-same x y h = grind (arith, nat_tests)

pub counts-differs : (numbers : List ℕ) (i next count : ℕ) → i < length numbers → next < count → (get_or numbers i 0 ≡ next → ⊥) → counts (drop i numbers) next count ≡ false
counts-differs numbers i next count within h other =
    counts-drop numbers i next count within h ∙ ap (λ b. b && counts (drop (i + 1) numbers) (next + 1) count) (eqb-differs (get_or numbers i 0) next other)

pub counts-goes_on : (numbers : List ℕ) (i next count : ℕ) → i < length numbers → next < count → get_or numbers i 0 ≡ next → counts (drop i numbers) next count ≡ counts (drop (i + 1) numbers) (next + 1) count
counts-goes_on numbers i next count within h same =
    counts-drop numbers i next count within h ∙ ap (λ b. b && counts (drop (i + 1) numbers) (next + 1) count) (eqb-same (get_or numbers i 0) next same)

counts-nil : (next count k : ℕ) → next ≤ count → count - next ≡ k → bytes_eq [] (range_with_len next k) ≡ eqb next count
counts-nil next count zero h e = let same : next ≡ count = omega arith in sym (eqb-same next count same)
counts-nil next count (suc k) h e = let other : next ≡ count → ⊥ = λ same. omega arith in sym (eqb-differs next count other)

pub counts-ends : (numbers : List ℕ) (i next count : ℕ) → length numbers ≤ i → next ≤ count → counts (drop i numbers) next count ≡ eqb next count
counts-ends numbers i next count past h = at_drop_all (λ t. counts t next count) numbers i past ∙ counts-nil next count (count - next) h refl
