-- Lists that are changed place by place.
use Rattle.std.proofs.Common.{◌≡◌, refl, ℕ, zero, suc, ◌+◌, ◌<◌, ◌≤◌, List, [], ◌∷◌, length, set, get_or, ◌∙◌, ap, arith}
use Rattle.std.specs.Prelude.{Some, None, slice_get, replicate}
use Rattle.std.specs.Option.{option_map}
use Rattle.nir_index.specs.Index.{by_place}

pub place-twice : {A : Type 0} (f g : ℕ → A → A) (at : ℕ) (list : List A) → by_place g at (by_place f at list) ≡ by_place (λ n a. g n (f n a)) at list
place-twice f g at [] = refl
place-twice f g at (a ∷ list) = ap (λ t. g at (f at a) ∷ t) (place-twice f g (suc at) list)

pub place-same : {A : Type 0} (f g : ℕ → A → A) → ((n : ℕ) (a : A) → f n a ≡ g n a) → (at : ℕ) (list : List A) → by_place f at list ≡ by_place g at list
place-same f g same at [] = refl
place-same f g same at (a ∷ list) = ap (λ t. f at a ∷ t) (place-same f g same (suc at) list) ∙ ap (λ x. x ∷ by_place g (suc at) list) (same at a)

-- nothing changes
pub place-kept : {A : Type 0} (f : ℕ → A → A) → ((n : ℕ) (a : A) → f n a ≡ a) → (at : ℕ) (list : List A) → by_place f at list ≡ list
place-kept f kept at [] = refl
place-kept f kept at (a ∷ list) = ap (λ t. f at a ∷ t) (place-kept f kept (suc at) list) ∙ ap (λ x. x ∷ list) (kept at a)

-- one place alone changes: behind the list, before it, or in it
pub place-past : {A : Type 0} (f : ℕ → A → A) (one : ℕ) → ((n : ℕ) (a : A) → (n ≡ one → ⊥) → f n a ≡ a) → (at : ℕ) (list : List A) → at + length list ≤ one → by_place f at list ≡ list
place-past f one kept at [] past = refl
place-past f one kept at (a ∷ list) past =
    ap (λ t. f at a ∷ t) (place-past f one kept (suc at) list (omega (arith, past)))
    ∙ ap (λ x. x ∷ list) (kept at a (λ same. absurd (omega (arith, past, same))))

place-before : {A : Type 0} (f : ℕ → A → A) (one : ℕ) → ((n : ℕ) (a : A) → (n ≡ one → ⊥) → f n a ≡ a) → (at : ℕ) (list : List A) → one < at → by_place f at list ≡ list
place-before f one kept at [] before = refl
place-before f one kept at (a ∷ list) before =
    ap (λ t. f at a ∷ t) (place-before f one kept (suc at) list (omega (arith, before)))
    ∙ ap (λ x. x ∷ list) (kept at a (λ same. absurd (omega (arith, before, same))))

pub place-one : {A : Type 0} (f : ℕ → A → A) (one : ℕ) → ((n : ℕ) (a : A) → (n ≡ one → ⊥) → f n a ≡ a) → (at : ℕ) (list : List A) (i : ℕ) (d : A) → i < length list → one ≡ at + i → by_place f at list ≡ set list i (f one (get_or list i d))
place-one f one kept at [] i d within is = absurd (omega (arith, within))
place-one f one kept at (a ∷ list) zero d within is =
    let here : at ≡ one = omega (arith, is) in
    ap (λ t. f at a ∷ t) (place-before f one kept (suc at) list (omega (arith, is)))
    ∙ ap (λ n. f n a ∷ list) here
place-one f one kept at (a ∷ list) (suc i) d within is =
    ap (λ x. x ∷ by_place f (suc at) list) (kept at a (λ same. absurd (omega (arith, is, same))))
    ∙ ap (λ t. a ∷ t) (place-one f one kept (suc at) list i d (omega (arith, within)) (omega (arith, is)))

-- what stands at a place
pub slice_get-place : {A : Type 0} (f : ℕ → A → A) (at : ℕ) (list : List A) (i : ℕ) → slice_get (by_place f at list) i ≡ option_map (f (at + i)) (slice_get list i)
slice_get-place f at [] i = refl
slice_get-place f at (a ∷ list) zero = let here : at ≡ at + 0 = omega arith in ap (λ n. Some (f n a)) here
slice_get-place f at (a ∷ list) (suc i) =
    let here : suc at + i ≡ at + suc i = omega arith in
    slice_get-place f (suc at) list i ∙ ap (λ n. option_map (f n) (slice_get list i)) here

pub slice_get-replicate : {A : Type 0} (count : ℕ) (a : A) (i : ℕ) → i < count → slice_get (replicate count a) i ≡ Some a
slice_get-replicate zero a i within = absurd (omega (arith, within))
slice_get-replicate (suc count) a zero within = refl
slice_get-replicate (suc count) a (suc i) within = slice_get-replicate count a i (omega (arith, within))

pub slice_get-replicate_past : {A : Type 0} (count : ℕ) (a : A) (i : ℕ) → count ≤ i → slice_get (replicate count a) i ≡ None
slice_get-replicate_past zero a i past = refl
slice_get-replicate_past (suc count) a zero past = absurd (omega (arith, past))
slice_get-replicate_past (suc count) a (suc i) past = slice_get-replicate_past count a i (omega (arith, past))
