-- The refusals: no list, two lists that agree before a place and differ at it, and more than so many.
use Rattle.std.proofs.Common.{◌≡◌, refl, ℕ, zero, suc, ◌+◌, ◌*◌, ◌≤◌, ◌<◌, Bool, true, false, not, ◌&&◌, ◌||◌, cond, List, [], ◌∷◌, length, filter, flat_map, nat_eq, sym, ◌∙◌, ap, subst, arith, ◌⊎◌, inl, inr, ⊎_elim, mul_comm, suc-mul}
use Rattle.std.specs.List.{list_any}
use Rattle.std.proofs.lemmas.Bool.{and_parts, or_left, or_right, false≢true}
use Rattle.std.proofs.lemmas.List.{length-append, length-map}
use Rattle.nir_ops.specs.declared.width.Width.{Width}
use Rattle.nir_ops.specs.declared.width.Width.TheVariants.{W1, W8, W16, W32, W64}
use Rattle.op_eval.specs.Calls.{same_width}
use Rattle.op_eval.specs.Sizes.{same_width-same, same_width-refl, same_width-from_equal}
use Rattle.size_laws.specs.Places.{all_widths, at, fits, longer, grown, product, choices, count}
use Rattle.size_laws.specs.ProductLaws.{split, apart}

-- how many sizes are kept
abbrev pub weigh : Bool → ℕ
weigh true = 1
weigh false = 0

kept_length : (b : Bool) (w : Width) (list : List Width) → length (cond b (w ∷ list) list) ≡ weigh b + length list
kept_length true w list = omega arith
kept_length false w list = omega arith

pub weighed : (test : Width → Bool) → length (filter test all_widths) ≡ weigh (test W1) + (weigh (test W8) + (weigh (test W16) + (weigh (test W32) + weigh (test W64))))
weighed test =
    let a = kept_length (test W1) W1 (filter test (W8 ∷ W16 ∷ W32 ∷ W64 ∷ [])) in
    let b = kept_length (test W8) W8 (filter test (W16 ∷ W32 ∷ W64 ∷ [])) in
    let c = kept_length (test W16) W16 (filter test (W32 ∷ W64 ∷ [])) in
    let d = kept_length (test W32) W32 (filter test (W64 ∷ [])) in
    let e = kept_length (test W64) W64 [] in
    omega (arith, a, b, c, d, e)

same_size_or_not : (a x : Width) → (a ≡ x) ⊎ (same_width a x ≡ false)
same_size_or_not a x =
    let seen : (t : Bool) → same_width a x ≡ t → (a ≡ x) ⊎ (same_width a x ≡ false)
    = λ t. elim t as (λ t. same_width a x ≡ t → (a ≡ x) ⊎ (same_width a x ≡ false)) [ true ↦ λ e. inl (same_width-same a x e) | false ↦ λ e. inr e ] in
    seen (same_width a x) refl

stands_behind : (a x : Width) (list : List Width) → same_width a x ≡ false → list_any (same_width a) (x ∷ list) ≡ true → list_any (same_width a) list ≡ true
stands_behind a x list e h = sym (ap (λ t. t || list_any (same_width a) list) e) ∙ h

-- a size that passes is kept, and nothing that is kept goes where a list is longer
first_kept : (test : Width → Bool) (a x : Width) (list : List Width) → a ≡ x → test a ≡ true → length (filter test (x ∷ list)) ≡ 1 + length (filter test list)
first_kept test a x list same passes =
    ap (λ t. length (cond t (x ∷ filter test list) (filter test list))) (ap test (sym same) ∙ passes) ∙ omega arith

others_kept : (test : Width → Bool) (x : Width) (list : List Width) → length (filter test list) ≤ length (filter test (x ∷ list))
others_kept test x list = let e = kept_length (test x) x (filter test list) in omega (arith, e)

kept_one : (test : Width → Bool) (a : Width) (list : List Width) → list_any (same_width a) list ≡ true → test a ≡ true → 1 ≤ length (filter test list)
kept_one test a [] h passes = absurd (false≢true h)
kept_one test a (x ∷ list) h passes = ⊎_elim
    (λ same. let first = first_kept test a x list same passes in omega (arith, first))
    (λ e. let inner = kept_one test a list (stands_behind a x list e h) passes in let more = others_kept test x list in omega (arith, inner, more))
    (same_size_or_not a x)

kept_two : (test : Width → Bool) (a b : Width) (list : List Width) → (a ≡ b → ⊥) → list_any (same_width a) list ≡ true → list_any (same_width b) list ≡ true
    → test a ≡ true → test b ≡ true → 2 ≤ length (filter test list)
kept_two test a b [] differs ha hb pa pb = absurd (false≢true ha)
kept_two test a b (x ∷ list) differs ha hb pa pb = ⊎_elim
    (λ same. ⊎_elim
    (λ too. absurd (differs (same ∙ sym too)))
    (λ e. let inner = kept_one test b list (stands_behind b x list e hb) pb in let first = first_kept test a x list same pa in omega (arith, inner, first))
    (same_size_or_not b x))
    (λ d. ⊎_elim
    (λ too. let inner = kept_one test a list (stands_behind a x list d ha) pa in let first = first_kept test b x list too pb in omega (arith, inner, first))
    (λ e.
    let inner = kept_two test a b list differs (stands_behind a x list d ha) (stands_behind b x list e hb) pa pb in
    let more = others_kept test x list in
    omega (arith, inner, more))
    (same_size_or_not b x))
    (same_size_or_not a x)

-- each size is one of all
one_of_all : (a : Width) → list_any (same_width a) all_widths ≡ true
one_of_all W1 = refl
one_of_all W8 = refl
one_of_all W16 = refl
one_of_all W32 = refl
one_of_all W64 = refl

pub two_kept : (test : Width → Bool) (a b : Width) → (a ≡ b → ⊥) → test a ≡ true → test b ≡ true → 2 ≤ length (filter test all_widths)
two_kept test a b differs pa pb = kept_two test a b all_widths differs (one_of_all a) (one_of_all b) pa pb

pub record Kept (test : Width → Bool) (among : List Width) : Type 0 where
  pub width : Width
  pub passes : test width ≡ true
  pub stands : list_any (same_width width) among ≡ true

pub record KeptTwo (test : Width → Bool) : Type 0 where
  pub one : Width
  pub two : Width
  pub differ : one ≡ two → ⊥
  pub one_passes : test one ≡ true
  pub two_passes : test two ≡ true

pick : (test : Width → Bool) (ws : List Width) → 1 ≤ length (filter test ws) → Kept test ws
pick test [] few = absurd (omega arith)
pick test (w ∷ ws) few =
    let seen : (t : Bool) → test w ≡ t → 1 ≤ length (cond t (w ∷ filter test ws) (filter test ws)) → Kept test (w ∷ ws)
    = λ t. elim t as (λ t. test w ≡ t → 1 ≤ length (cond t (w ∷ filter test ws) (filter test ws)) → Kept test (w ∷ ws)) [
      | true ↦ λ e few. record { width = w; passes = e; stands = or_left (same_width w w) (list_any (same_width w) ws) (same_width-refl w) }
      | false ↦ λ e few. let k = pick test ws few in record { width = k.width; passes = k.passes; stands = or_right (same_width k.width w) (list_any (same_width k.width) ws) k.stands }
    ] in
    seen (test w) refl few

abbrev distinct : List Width → Bool
distinct [] = true
distinct (w ∷ ws) = not (list_any (λ x. same_width x w) ws) && distinct ws

any_turned : (w : Width) (ws : List Width) → list_any (same_width w) ws ≡ true → list_any (λ x. same_width x w) ws ≡ true
any_turned w [] h = h
any_turned w (x ∷ ws) h =
    let seen : (t : Bool) → same_width w x ≡ t → (t || list_any (same_width w) ws) ≡ true → list_any (λ x. same_width x w) (x ∷ ws) ≡ true
    = λ t. elim t as (λ t. same_width w x ≡ t → (t || list_any (same_width w) ws) ≡ true → list_any (λ x. same_width x w) (x ∷ ws) ≡ true) [
      | true ↦ λ e h. or_left (same_width x w) (list_any (λ x. same_width x w) ws) (same_width-from_equal x w (sym (same_width-same w x e)))
      | false ↦ λ e h. or_right (same_width x w) (list_any (λ x. same_width x w) ws) (any_turned w ws h)
    ] in
    seen (same_width w x) refl h

not_both : (b : Bool) → not b ≡ true → b ≡ true → ⊥
not_both true h e = false≢true h
not_both false h e = false≢true e

pick_two : (test : Width → Bool) (ws : List Width) → distinct ws ≡ true → 2 ≤ length (filter test ws) → KeptTwo test
pick_two test [] apart few = absurd (omega arith)
pick_two test (w ∷ ws) apart few =
    let parts = and_parts (not (list_any (λ x. same_width x w) ws)) (distinct ws) apart in
    let seen : (t : Bool) → test w ≡ t → 2 ≤ length (cond t (w ∷ filter test ws) (filter test ws)) → KeptTwo test
    = λ t. elim t as (λ t. test w ≡ t → 2 ≤ length (cond t (w ∷ filter test ws) (filter test ws)) → KeptTwo test) [
      | true ↦ λ e few.
          let more : 1 ≤ length (filter test ws) = omega (arith, few) in
          let k = pick test ws more in
          record {
            one = w;
            two = k.width;
            differ = λ same. not_both (list_any (λ x. same_width x w) ws) parts.0 (any_turned w ws (subst (λ x. list_any (same_width x) ws ≡ true) (sym same) k.stands));
            one_passes = e;
            two_passes = k.passes;
          }
      | false ↦ λ e few. pick_two test ws parts.1 few
    ] in
    seen (test w) refl few

pub two_widths : (test : Width → Bool) → 2 ≤ length (filter test all_widths) → KeptTwo test
two_widths test few = pick_two test all_widths refl few

-- how many lists there are
same_one : (x : Width) → length (filter (λ w. same_width w x) all_widths) ≡ 1
same_one W1 = refl
same_one W8 = refl
same_one W16 = refl
same_one W32 = refl
same_one W64 = refl

length-flat : {X Y : Type 0} (f : X → List Y) (c : ℕ) → ((x : X) → length (f x) ≡ c) → (list : List X) → length (flat_map f list) ≡ length list * c
length-flat f c each [] = omega arith
length-flat f c each (x ∷ list) =
    let a = length-append (f x) (flat_map f list) in
    let b = each x in
    let d = length-flat f c each list in
    let e = suc-mul (length list) c in
    omega (arith, a, b, d, e)

zero_times : (c : ℕ) → 0 * c ≡ 0
zero_times c = omega arith

times_zero : (c : ℕ) → c * 0 ≡ 0
times_zero c = omega arith

at_least : (a c : ℕ) → 1 ≤ c → a ≤ a * c
at_least a zero h = absurd (omega (arith, h))
at_least a (suc c) h = let e = mul_comm a (suc c) in let d = suc-mul c a in omega (arith, e, d)

module _ (f : ℕ → ℕ) (ok : ℕ → Width → Bool) where
  choices_are : (k : ℕ) (list : List Width) (t : Bool) → length (filter (λ w. cond t (ok k w) (same_width w (at list (f k)))) all_widths) ≡ cond t (length (filter (ok k) all_widths)) 1
  choices_are k list true = refl
  choices_are k list false = same_one (at list (f k))

  grown_length : (k : ℕ) (list : List Width) → length (grown f ok k list) ≡ choices f ok k
  grown_length k list = length-map (filter (fits f ok list k) all_widths) (longer list) ∙ choices_are k list (nat_eq (f k) k)

  pub product_length : (n : ℕ) → length (product f ok n) ≡ count f ok n
  product_length zero = refl
  product_length (suc k) = length-flat (grown f ok k) (choices f ok k) (grown_length k) (product f ok k) ∙ ap (λ c. c * choices f ok k) (product_length k)

  pub count_none : (n k : ℕ) → k < n → choices f ok k ≡ 0 → count f ok n ≡ 0
  count_none zero k less none = absurd (omega arith)
  count_none (suc n) k less none = ⊎_elim
      (λ below. ap (λ c. c * choices f ok n) (count_none n k below none) ∙ zero_times (choices f ok n))
      (λ same. ap (λ c. count f ok n * c) (ap (choices f ok) (sym same) ∙ none) ∙ times_zero (count f ok n))
      (split k n less)

  pub count_more : (n k : ℕ) → ((i : ℕ) → i < n → 1 ≤ choices f ok i) → k ≤ n → count f ok k ≤ count f ok n
  count_more zero k some less = let e : k ≡ 0 = omega (arith, less) in subst (λ i. count f ok i ≤ count f ok zero) (sym e) (omega arith)
  count_more (suc n) k some less = ⊎_elim
      (λ below.
      let inner = count_more n k (λ i h. some i (omega (arith, h))) (omega (arith, below)) in
      let more = at_least (count f ok n) (choices f ok n) (some n (omega arith)) in
      omega (arith, inner, more))
      (λ same. subst (λ i. count f ok i ≤ count f ok (suc n)) (sym same) (omega arith))
      (split k (suc n) (omega (arith, less)))

  pub count_some : (n : ℕ) → ((i : ℕ) → i < n → 1 ≤ choices f ok i) → 1 ≤ count f ok n
  count_some n some = count_more n 0 some (omega arith)
