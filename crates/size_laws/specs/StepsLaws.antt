-- Rules over few places are rules over more.
use Rattle.std.proofs.Common.{◌≡◌, refl, ℕ, true, ◌≤◌, List, [], ◌∷◌, nat_lt, arith}
use Rattle.std.proofs.lemmas.Bool.{and_parts, and_from, ltb-true, lt-ltb}
use Rattle.size_laws.specs.Places.{SizeRule, Same, Only, within, all_within}

less_of_more : (p n m : ℕ) → n ≤ m → nat_lt p n ≡ true → nat_lt p m ≡ true
less_of_more p n m less h = let below = ltb-true p n h in lt-ltb p m (omega (arith, less, below))

within-more : (n m : ℕ) → n ≤ m → (rule : SizeRule) → within n rule ≡ true → within m rule ≡ true
within-more n m less (Same p q) h =
    let both = and_parts (nat_lt p n) (nat_lt q n) h in
    and_from (nat_lt p m) (nat_lt q m) (less_of_more p n m less both.0) (less_of_more q n m less both.1)
within-more n m less (Only p test) h = less_of_more p n m less h

pub all_within-more : (n m : ℕ) → n ≤ m → (rules : List SizeRule) → all_within n rules ≡ true → all_within m rules ≡ true
all_within-more n m less [] h = refl
all_within-more n m less (rule ∷ rules) h =
    let parts = and_parts (within n rule) (all_within n rules) h in
    and_from (within m rule) (all_within m rules) (within-more n m less rule parts.0) (all_within-more n m less rules parts.1)
