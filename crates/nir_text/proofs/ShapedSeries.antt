-- Items with commas between them: what reading one item keeps, reading them all keeps, and each item has what one has.
use Rattle.std.proofs.Common.{◌≡◌, ℕ, zero, suc, ◌+◌, ◌<◌, List, [], ◌∷◌, length, Result, Ok, refl, ap, subst, inl, inr, arith}
use Rattle.std.specs.List.{AllByRecursion}
use Rattle.nir_text.specs.declared.counts.Counts as counts
use Rattle.nir_text.specs.declared.fault.TextFault.{TextFault}
use Rattle.nir_text.specs.Signs.{is_mark}
use Rattle.nir_text.specs.Naming.{Naming}
use Rattle.nir_text.specs.Reading.{Point, here, next, mark_at, commas_at, separated_at, more_at, bracketed_at}
use Rattle.nir_text.specs.ReadingLaws.{ok_is, bind_ok}
use Rattle.list_laws.specs.BoolLaws.{chosen}
use Rattle.nir_text.proofs.ShapedPoints.{Stands, Passes, Passes-refl, Passes-then, Passes-to, mark_passes, mark-shorter, mark_eats}

module _ (names : Naming) (total : counts.Counts) {A : Type 0} (P : A → Type 0) (read : ℕ → Point → Result (A × Point) TextFault) where
  -- each item passes, and has P
  pub record ReadsEach : Type 0 where
    pub item : (k : ℕ) (p : Point) (x : A × Point) → Stands names total p.rest → read k p ≡ Ok x → Passes names total p x.1 × P x.0

  pub record ReadsSeries (p : Point) (count : ℕ) (x : List A × Point) : Type 0 where
    pub passes : Passes names total p x.1
    pub len : length x.0 ≡ count
    pub all : AllByRecursion P x.0

  -- at least a token for each item, and one more
  pub record ReadsBrackets (p : Point) (x : List A × Point) : Type 0 where
    pub passes : Passes names total p x.1
    pub few : length x.0 + length x.1.rest < length p.rest
    pub all : AllByRecursion P x.0

module _ (names : Naming) (total : counts.Counts) {A : Type 0} (P : A → Type 0) (read : ℕ → Point → Result (A × Point) TextFault) (each : ReadsEach names total P read) where
  commas_read : (n k : ℕ) (p : Point) (x : List A × Point) → Stands names total p.rest → commas_at read k n p ≡ Ok x → ReadsSeries names total P read p n x
  unfolding commas_at
  commas_read zero k p x stands e =
      subst (ReadsSeries names total P read p zero) (ok_is ([], p) x e) (record { passes = Passes-refl names total p stands; len = refl; all = tt })
  commas_read (suc n) k p x stands e =
      let a = bind_ok (mark_at 44 p) _ x e in
      let b = bind_ok (read k a.0) _ x a.2 in
      let c = bind_ok (commas_at read (k + 1) n b.0.1) _ x b.2 in
      let comma = mark_passes names total 44 p a.0 stands a.1 in
      let first = each.item k a.0 b.0 comma.stands b.1 in
      let others = commas_read n (k + 1) b.0.1 c.0 first.0.stands c.1 in
      let passes = Passes-then names total p a.0 c.0.1 comma (Passes-then names total a.0 b.0.1 c.0.1 first.0 others.passes) in
      let made : List A × Point = (b.0.0 ∷ c.0.0, c.0.1) in
      subst (ReadsSeries names total P read p (suc n)) {x = made} (ok_is made x c.2) (record { passes = passes; len = ap suc others.len; all = (first.1, others.all) })

  pub separated_read : (n : ℕ) (p : Point) (x : List A × Point) → Stands names total p.rest → separated_at read n p ≡ Ok x → ReadsSeries names total P read p n x
  unfolding separated_at
  separated_read zero p x stands e =
      subst (ReadsSeries names total P read p zero) (ok_is ([], p) x e) (record { passes = Passes-refl names total p stands; len = refl; all = tt })
  separated_read (suc n) p x stands e =
      let b = bind_ok (read 0 p) _ x e in
      let c = bind_ok (commas_at read 1 n b.0.1) _ x b.2 in
      let first = each.item 0 p b.0 stands b.1 in
      let others = commas_read n 1 b.0.1 c.0 first.0.stands c.1 in
      let passes = Passes-then names total p b.0.1 c.0.1 first.0 others.passes in
      let made : List A × Point = (b.0.0 ∷ c.0.0, c.0.1) in
      subst (ReadsSeries names total P read p (suc n)) {x = made} (ok_is made x c.2) (record { passes = passes; len = ap suc others.len; all = (first.1, others.all) })

  more_read : (fuel k : ℕ) (p : Point) (x : List A × Point) → Stands names total p.rest → more_at read k fuel p ≡ Ok x → ReadsBrackets names total P read p x
  unfolding more_at
  more_read zero k p x stands e = absurd cc
  more_read (suc fuel) k p x stands e =
      elim (chosen (is_mark 44 (here p)) _ _ (Ok x) e) [
        | inl way ↦
            let b = bind_ok (read k (next p)) _ x way.1 in
            let c = bind_ok (more_at read (k + 1) fuel b.0.1) _ x b.2 in
            let comma = Passes-to names total p (next p) stands refl in
            let eaten = mark-shorter 44 p.rest way.0 in
            let first = each.item k (next p) b.0 comma.stands b.1 in
            let others = more_read fuel (k + 1) b.0.1 c.0 first.0.stands c.1 in
            let passes = Passes-then names total p (next p) c.0.1 comma (Passes-then names total (next p) b.0.1 c.0.1 first.0 others.passes) in
            let made : List A × Point = (b.0.0 ∷ c.0.0, c.0.1) in
            let few : suc (length c.0.0) + length c.0.1.rest < length p.rest = omega (arith, eaten, first.0.shorter, others.few) in
            subst (ReadsBrackets names total P read p) {x = made} (ok_is made x c.2) (record { passes = passes; few = few; all = (first.1, others.all) })
        | inr way ↦
            let b = bind_ok (mark_at 93 p) _ x way.1 in
            let close = mark_passes names total 93 p b.0 stands b.1 in
            let eaten = mark_eats 93 p b.0 b.1 in
            let made : List A × Point = ([], b.0) in
            let few : 0 + length b.0.rest < length p.rest = omega (arith, eaten) in
            subst (ReadsBrackets names total P read p) {x = made} (ok_is made x b.2) (record { passes = close; few = few; all = tt })
      ]

  pub bracketed_read : (p : Point) (x : List A × Point) → Stands names total p.rest → bracketed_at read p ≡ Ok x → ReadsBrackets names total P read p x
  unfolding bracketed_at
  bracketed_read p x stands e =
      let a = bind_ok (mark_at 91 p) _ x e in
      let begun = mark_passes names total 91 p a.0 stands a.1 in
      let eaten = mark_eats 91 p a.0 a.1 in
      elim (chosen (is_mark 93 (here a.0)) _ _ (Ok x) a.2) [
        | inl way ↦
            let close = Passes-to names total a.0 (next a.0) begun.stands refl in
            let made : List A × Point = ([], next a.0) in
            let few : 0 + length (next a.0).rest < length p.rest = omega (arith, eaten, close.shorter) in
            subst (ReadsBrackets names total P read p) {x = made} (ok_is made x way.1) (record { passes = Passes-then names total p a.0 (next a.0) begun close; few = few; all = tt })
        | inr way ↦
            let b = bind_ok (read 0 a.0) _ x way.1 in
            let c = bind_ok (more_at read 1 (length b.0.1.rest) b.0.1) _ x b.2 in
            let first = each.item 0 a.0 b.0 begun.stands b.1 in
            let others = more_read (length b.0.1.rest) 1 b.0.1 c.0 first.0.stands c.1 in
            let passes = Passes-then names total p a.0 c.0.1 begun (Passes-then names total a.0 b.0.1 c.0.1 first.0 others.passes) in
            let made : List A × Point = (b.0.0 ∷ c.0.0, c.0.1) in
            let few : suc (length c.0.0) + length c.0.1.rest < length p.rest = omega (arith, eaten, first.0.shorter, others.few) in
            subst (ReadsBrackets names total P read p) {x = made} (ok_is made x c.2) (record { passes = passes; few = few; all = (first.1, others.all) })
      ]
