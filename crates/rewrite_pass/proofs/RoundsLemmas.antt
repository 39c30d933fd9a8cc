-- Facts on passes: what holds below a number and at it, and a limit that is reached or not.
use Rattle.std.specs.Prelude.{◌≡◌, refl, ◌+◌, ◌-◌, ◌<◌, ◌≤◌, ◌⊎◌, ℕ, Bool, true, false, nat_lt}
use Rattle.std.proofs.Common.{subst, arith, inl, inr}
use Rattle.std.proofs.lemmas.Bool.{ltb-false, ltb-true}

pub below_next : (P : ℕ → Type 0) (n : ℕ) → ((k : ℕ) → k < n → P k) → P n → (k : ℕ) → k < n + 1 → P k
below_next P n before here k less = by_test (nat_lt k n) refl where
  by_test : (test : Bool) → nat_lt k n ≡ test → P k
  by_test true is = before k (ltb-true k n is)
  by_test false is =
      let most : n ≤ k = ltb-false k n is in
      let same : n ≡ k = omega (arith, less, most) in
      subst P same here

pub limit_or : (P : Type 0) (done limit : ℕ) → done ≤ limit → (0 < limit - done → P) → P ⊎ (done ≡ limit)
limit_or P done limit few below = by_test (nat_lt done limit) refl where
  by_test : (test : Bool) → nat_lt done limit ≡ test → P ⊎ (done ≡ limit)
  by_test true is = let less : done < limit = ltb-true done limit is in inl (below (omega (arith, less)))
  by_test false is = let most : limit ≤ done = ltb-false done limit is in inr (omega (arith, few, most))
