-- Classes of places, named by their first places: sizes obey the rules where places of a class have one size, and that of the first passes what is asked of each.
use Rattle.std.proofs.Common.{◌≡◌, refl, ℕ, ◌≤◌, ◌<◌, Bool, true, false, not, ◌&&◌, ◌||◌, cond, List, [], ◌∷◌, nat_eq, nat_lt, sym, ◌∙◌, ap, subst, arith, ◌⊎◌, inl, inr, ⊎_elim}
use Rattle.std.proofs.lemmas.Bool.{and_parts, and_from, or_left, or_right, eqb-true, eq-eqb, ltb-true, ltb-false, not_from_false}
use Rattle.nir_ops.specs.declared.width.Width.{Width}
use Rattle.op_eval.specs.Calls.{same_width}
use Rattle.op_eval.specs.Sizes.{same_width-same, same_width-from_equal}
use Rattle.size_laws.specs.Places.{SizeRule, Same, Only, all_hold, all_within, redirect, merge, classes_from, classes, passes_at, allowed}

pub record IsNaming (n : ℕ) (f : ℕ → ℕ) : Type 0 where
  pub below : (i : ℕ) → f i ≤ i
  pub again : (i : ℕ) → f (f i) ≡ f i
  pub outside : (i : ℕ) → n ≤ i → f i ≡ i

abbrev pub Conforms : (ℕ → ℕ) → (ℕ → Width) → Type 0
Conforms f w = (i : ℕ) → w (f i) ≡ w i

pub same_or_not : (a b : ℕ) → (a ≡ b) ⊎ (nat_eq a b ≡ false)
same_or_not a b =
    let seen : (t : Bool) → nat_eq a b ≡ t → (a ≡ b) ⊎ (nat_eq a b ≡ false) = λ t. elim t as (λ t. nat_eq a b ≡ t → (a ≡ b) ⊎ (nat_eq a b ≡ false)) [ true ↦ λ e. inl (eqb-true a b e) | false ↦ λ e. inr e ] in
    seen (nat_eq a b) refl

redirect_here : (from to i : ℕ) → i ≡ from → redirect from to i ≡ to
redirect_here from to i e = ap (λ t. cond t to i) (eq-eqb i from e)

redirect_there : (from to i : ℕ) → nat_eq i from ≡ false → redirect from to i ≡ i
redirect_there from to i e = ap (λ t. cond t to i) e

redirect_to : (from to : ℕ) → redirect from to to ≡ to
redirect_to from to = ⊎_elim (redirect_here from to to) (redirect_there from to to) (same_or_not to from)

module _ (n : ℕ) (f : ℕ → ℕ) (naming : IsNaming n f) (from to : ℕ) (is_from : f from ≡ from) (is_to : f to ≡ to) where
  abbrev joined : ℕ → ℕ
  joined i = redirect from to (f i)

  joined_naming : to ≤ from → from < n → IsNaming n joined
  joined_naming less inside = record {
    below = λ i. ⊎_elim
        (λ e. let b = naming.below i in let r = redirect_here from to (f i) e in omega (arith, b, r, e))
        (λ e. let b = naming.below i in let r = redirect_there from to (f i) e in omega (arith, b, r))
        (same_or_not (f i) from);
    again = λ i. ⊎_elim
        (λ e. let r = redirect_here from to (f i) e in ap joined r ∙ ap (redirect from to) is_to ∙ redirect_to from to ∙ sym r)
        (λ e. let r = redirect_there from to (f i) e in ap joined r ∙ ap (redirect from to) (naming.again i))
        (same_or_not (f i) from);
    outside = λ i out. ⊎_elim
        (λ e. let o = naming.outside i out in absurd (omega (arith, o, e)))
        (λ e. redirect_there from to (f i) e ∙ naming.outside i out)
        (same_or_not (f i) from);
  }

  joined_conforms : (w : ℕ → Width) → Conforms f w → w from ≡ w to → Conforms joined w
  joined_conforms w c same i = ⊎_elim
      (λ e. ap w (redirect_here from to (f i) e) ∙ sym same ∙ ap w (sym e) ∙ c i)
      (λ e. ap w (redirect_there from to (f i) e) ∙ c i)
      (same_or_not (f i) from)

  joined_same : (w : ℕ → Width) → Conforms joined w → w from ≡ w to
  joined_same w c = sym (c from) ∙ ap w (redirect_here from to (f from) is_from)

  conforms_before : (w : ℕ → Width) → Conforms joined w → Conforms f w
  conforms_before w c i = ⊎_elim
      (λ e. ap w e ∙ joined_same w c ∙ ap w (sym (redirect_here from to (f i) e)) ∙ c i)
      (λ e. ap w (sym (redirect_there from to (f i) e)) ∙ c i)
      (same_or_not (f i) from)

module _ (n : ℕ) (f : ℕ → ℕ) (naming : IsNaming n f) (p q : ℕ) where
  by_order : (P : (ℕ → ℕ) → Type 0) → (f p < f q → P (joined n f naming (f q) (f p) (naming.again q) (naming.again p))) → (f q ≤ f p → P (joined n f naming (f p) (f q) (naming.again p) (naming.again q))) → P (merge f p q)
  by_order P less more =
      let seen : (t : Bool) → nat_lt (f p) (f q) ≡ t → P (λ i. cond t (redirect (f q) (f p) (f i)) (redirect (f p) (f q) (f i)))
      = λ t. elim t as (λ t. nat_lt (f p) (f q) ≡ t → P (λ i. cond t (redirect (f q) (f p) (f i)) (redirect (f p) (f q) (f i)))) [
        | true ↦ λ e. less (ltb-true (f p) (f q) e)
        | false ↦ λ e. more (ltb-false (f p) (f q) e)
      ] in
      seen (nat_lt (f p) (f q)) refl

  pub merge_naming : p < n → q < n → IsNaming n (merge f p q)
  merge_naming hp hq = by_order (IsNaming n)
      (λ less. let b = naming.below q in joined_naming n f naming (f q) (f p) (naming.again q) (naming.again p) (omega (arith, less)) (omega (arith, b, hq)))
      (λ more. let b = naming.below p in joined_naming n f naming (f p) (f q) (naming.again p) (naming.again q) more (omega (arith, b, hp)))

  module _ (w : ℕ → Width) where
    merge_conforms : Conforms f w → w p ≡ w q → Conforms (merge f p q) w
    merge_conforms c same = by_order (λ g. Conforms g w)
        (λ less. joined_conforms n f naming (f q) (f p) (naming.again q) (naming.again p) w c (c q ∙ sym same ∙ sym (c p)))
        (λ more. joined_conforms n f naming (f p) (f q) (naming.again p) (naming.again q) w c (c p ∙ same ∙ sym (c q)))

    merge_before : Conforms (merge f p q) w → Conforms f w × (w p ≡ w q)
    merge_before = by_order (λ g. Conforms g w → Conforms f w × (w p ≡ w q))
        (λ less c.
        let b = conforms_before n f naming (f q) (f p) (naming.again q) (naming.again p) w c in
        (b, sym (b p) ∙ sym (joined_same n f naming (f q) (f p) (naming.again q) (naming.again p) w c) ∙ b q))
        (λ more c.
        let b = conforms_before n f naming (f p) (f q) (naming.again p) (naming.again q) w c in
        (b, sym (b p) ∙ joined_same n f naming (f p) (f q) (naming.again p) (naming.again q) w c ∙ b q))

pub identity_naming : (n : ℕ) → IsNaming n (λ i. i)
identity_naming n = record { below = λ i. omega arith; again = λ i. refl; outside = λ i o. refl }

pub classes_naming : (n : ℕ) (rules : List SizeRule) (f : ℕ → ℕ) → IsNaming n f → all_within n rules ≡ true → IsNaming n (classes_from f rules)
classes_naming n [] f naming h = naming
classes_naming n (Same p q ∷ rules) f naming h =
    let parts = and_parts (nat_lt p n && nat_lt q n) (all_within n rules) h in
    let both = and_parts (nat_lt p n) (nat_lt q n) parts.0 in
    classes_naming n rules (merge f p q) (merge_naming n f naming p q (ltb-true p n both.0) (ltb-true q n both.1)) parts.1
classes_naming n (Only p test ∷ rules) f naming h = classes_naming n rules f naming (and_parts (nat_lt p n) (all_within n rules) h).1

abbrev sames : (ℕ → Width) → List SizeRule → Bool
sames w [] = true
sames w (Same p q ∷ rules) = same_width (w p) (w q) && sames w rules
sames w (Only p test ∷ rules) = sames w rules

module _ (n : ℕ) (w : ℕ → Width) where
  conforms_to : (rules : List SizeRule) (f : ℕ → ℕ) → IsNaming n f → all_within n rules ≡ true → Conforms f w → all_hold w rules ≡ true → Conforms (classes_from f rules) w
  conforms_to [] f naming h c holding = c
  conforms_to (Same p q ∷ rules) f naming h c holding =
      let parts = and_parts (nat_lt p n && nat_lt q n) (all_within n rules) h in
      let both = and_parts (nat_lt p n) (nat_lt q n) parts.0 in
      let hold = and_parts (same_width (w p) (w q)) (all_hold w rules) holding in
      conforms_to rules (merge f p q) (merge_naming n f naming p q (ltb-true p n both.0) (ltb-true q n both.1)) parts.1
      (merge_conforms n f naming p q w c (same_width-same (w p) (w q) hold.0)) hold.1
  conforms_to (Only p test ∷ rules) f naming h c holding = conforms_to rules f naming (and_parts (nat_lt p n) (all_within n rules) h).1 c (and_parts (test (w p)) (all_hold w rules) holding).1

  conforms_from : (rules : List SizeRule) (f : ℕ → ℕ) → IsNaming n f → all_within n rules ≡ true → Conforms (classes_from f rules) w → Conforms f w × (sames w rules ≡ true)
  conforms_from [] f naming h c = (c, refl)
  conforms_from (Same p q ∷ rules) f naming h c =
      let parts = and_parts (nat_lt p n && nat_lt q n) (all_within n rules) h in
      let both = and_parts (nat_lt p n) (nat_lt q n) parts.0 in
      let more = conforms_from rules (merge f p q) (merge_naming n f naming p q (ltb-true p n both.0) (ltb-true q n both.1)) parts.1 c in
      let before = merge_before n f naming p q w more.0 in
      (before.0, and_from (same_width (w p) (w q)) (sames w rules) (same_width-from_equal (w p) (w q) before.1) more.1)
  conforms_from (Only p test ∷ rules) f naming h c = conforms_from rules f naming (and_parts (nat_lt p n) (all_within n rules) h).1 c

  module _ (g : ℕ → ℕ) (naming : IsNaming n g) (c : Conforms g w) where
    allowed_from : (rules : List SizeRule) → all_hold w rules ≡ true → (k : ℕ) → allowed g rules k (w k) ≡ true
    allowed_from [] holding k = refl
    allowed_from (Same p q ∷ rules) holding k = allowed_from rules (and_parts (same_width (w p) (w q)) (all_hold w rules) holding).1 k
    allowed_from (Only p test ∷ rules) holding k =
        let hold = and_parts (test (w p)) (all_hold w rules) holding in
        and_from (not (nat_eq (g p) k) || test (w k)) (allowed g rules k (w k))
        (⊎_elim
        (λ e. or_right (not (nat_eq (g p) k)) (test (w k)) (ap test (ap w (sym e) ∙ c p) ∙ hold.0))
        (λ e. or_left (not (nat_eq (g p) k)) (test (w k)) (not_from_false (nat_eq (g p) k) e))
        (same_or_not (g p) k))
        (allowed_from rules hold.1 k)

    holding_from : (rules : List SizeRule) → all_within n rules ≡ true → sames w rules ≡ true → ((k : ℕ) → k < n → g k ≡ k → allowed g rules k (w k) ≡ true) → all_hold w rules ≡ true
    holding_from [] h same ok = refl
    holding_from (Same p q ∷ rules) h same ok =
        let both = and_parts (same_width (w p) (w q)) (sames w rules) same in
        and_from (same_width (w p) (w q)) (all_hold w rules) both.0 (holding_from rules (and_parts (nat_lt p n && nat_lt q n) (all_within n rules) h).1 both.1 ok)
    holding_from (Only p test ∷ rules) h same ok =
        let inside = and_parts (nat_lt p n) (all_within n rules) h in
        let hp = ltb-true p n inside.0 in
        let b = naming.below p in
        let here : (not (nat_eq (g p) (g p)) || test (w (g p))) ≡ true = (and_parts (not (nat_eq (g p) (g p)) || test (w (g p))) (allowed g rules (g p) (w (g p))) (ok (g p) (omega (arith, b, hp)) (naming.again p))).0 in
        let passes : test (w (g p)) ≡ true = subst (λ (t : Bool). (not t || test (w (g p))) ≡ true) (eq-eqb (g p) (g p) refl) here in
        and_from (test (w p)) (all_hold w rules) (ap test (sym (c p)) ∙ passes)
        (holding_from rules inside.1 same (λ k less own. (and_parts (passes_at g k (w k) (Only p test)) (allowed g rules k (w k)) (ok k less own)).1))

-- the rules hold exactly where places of a class have one size, which passes what is asked of each
module _ (n : ℕ) (rules : List SizeRule) (h : all_within n rules ≡ true) where
  pub the_naming : IsNaming n (classes rules)
  the_naming = classes_naming n rules (λ i. i) (identity_naming n) h

  pub classes_conform : (w : ℕ → Width) → all_hold w rules ≡ true → Conforms (classes rules) w × ((k : ℕ) → allowed (classes rules) rules k (w k) ≡ true)
  classes_conform w holding =
      let c = conforms_to n w rules (λ i. i) (identity_naming n) h (λ i. refl) holding in
      (c, allowed_from n w (classes rules) the_naming c rules holding)

  pub classes_hold : (w : ℕ → Width) → Conforms (classes rules) w → ((k : ℕ) → k < n → classes rules k ≡ k → allowed (classes rules) rules k (w k) ≡ true) → all_hold w rules ≡ true
  classes_hold w c ok = holding_from n w (classes rules) the_naming c rules h (conforms_from n w rules (λ i. i) (identity_naming n) h c).1 ok
