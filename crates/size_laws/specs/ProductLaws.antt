-- The lists of sizes that obey rules over places are those that are built place by place, in lexicographic order.
use Rattle.std.proofs.Common.{◌≡◌, refl, ℕ, zero, suc, ◌≤◌, ◌<◌, Bool, true, false, ◌&&◌, cond, List, [], ◌∷◌, ◌++◌, length, map, filter, flat_map, nat_eq, nat_lt, sym, ◌∙◌, ap, subst, arith, ◌⊎◌, inl, inr, ⊎_elim}
use Rattle.std.specs.List.{AllByRecursion}
use Rattle.std.proofs.lemmas.Bool.{and_parts, and_from, eq-eqb, ltb-true, ltb-false, false≢true}
use Rattle.std.proofs.lemmas.List.{get_or_append_left, get_or_at}
use Rattle.std.proofs.lemmas.List.Elements.{filter-append}
use Rattle.nir_ops.specs.declared.width.Width.{Width}
use Rattle.nir_ops.specs.declared.width.Width.TheVariants.{W1}
use Rattle.op_eval.specs.Calls.{same_width}
use Rattle.op_eval.specs.Sizes.{same_width-same, same_width-from_equal}
use Rattle.rule_term.specs.Typings.{width_lists}
use Rattle.rule_term.specs.OneTyping.{width_lists-length}
use Rattle.size_laws.specs.Places.{SizeRule, all_widths, at, all_hold, all_within, classes, allowed, fits, fit_below, longer, grown, product}
use Rattle.size_laws.specs.ClassesLaws.{IsNaming, Conforms, same_or_not, the_naming, classes_conform, classes_hold}
use Rattle.size_laws.specs.LongerLaws.{longer_all, width_lists-longer}

pub same_truth : (a b : Bool) → (a ≡ true → b ≡ true) → (b ≡ true → a ≡ true) → a ≡ b
same_truth true b to from = sym (to refl)
same_truth false true to from = from refl
same_truth false false to from = refl

pub apart : (k n : ℕ) → nat_eq k n ≡ false → k ≡ n → ⊥
apart k n e same = false≢true (sym e ∙ eq-eqb k n same)

pub split : (k n : ℕ) → k < suc n → (k < n) ⊎ (k ≡ n)
split k n less =
    let seen : (t : Bool) → nat_lt k n ≡ t → (k < n) ⊎ (k ≡ n) = λ t. elim t as (λ t. nat_lt k n ≡ t → (k < n) ⊎ (k ≡ n)) [ true ↦ λ e. inl (ltb-true k n e) | false ↦ λ e. let b = ltb-false k n e in inr (omega (arith, less, b)) ] in
    seen (nat_lt k n) refl

pub smaller : (k n : ℕ) → k < suc n → (k ≡ n → ⊥) → k < n
smaller k n less differs = ⊎_elim (λ below. below) (λ same. absurd (differs same)) (split k n less)

-- what fits below a place, place by place
module _ (f : ℕ → ℕ) (ok : ℕ → Width → Bool) (widths : List Width) where
  pub fit_each : (n : ℕ) → fit_below f ok widths n ≡ true → (k : ℕ) → k < n → fits f ok widths k (at widths k) ≡ true
  fit_each zero h k less = absurd (omega arith)
  fit_each (suc n) h k less =
      let parts = and_parts (fit_below f ok widths n) (fits f ok widths n (at widths n)) h in
      ⊎_elim
      (λ e. subst (λ i. fits f ok widths i (at widths i) ≡ true) (sym e) parts.1)
      (λ e. fit_each n parts.0 k (smaller k n less (apart k n e)))
      (same_or_not k n)

  pub fit_all : (n : ℕ) → ((k : ℕ) → k < n → fits f ok widths k (at widths k) ≡ true) → fit_below f ok widths n ≡ true
  fit_all zero each = refl
  fit_all (suc n) each = and_from (fit_below f ok widths n) (fits f ok widths n (at widths n)) (fit_all n (λ k less. each k (omega arith))) (each n (omega arith))

-- the rules hold exactly where each place fits behind those before it
module _ (n : ℕ) (rules : List SizeRule) (h : all_within n rules ≡ true) (widths : List Width) where
  abbrev ok : ℕ → Width → Bool
  ok = allowed (classes rules) rules

  fits_where : (k : ℕ) → Conforms (classes rules) (at widths) → ok k (at widths k) ≡ true → fits (classes rules) ok widths k (at widths k) ≡ true
  fits_where k c passes = ⊎_elim
      (λ e. ap (λ t. cond t (ok k (at widths k)) (same_width (at widths k) (at widths (classes rules k)))) (eq-eqb (classes rules k) k e) ∙ passes)
      (λ e. ap (λ t. cond t (ok k (at widths k)) (same_width (at widths k) (at widths (classes rules k)))) e ∙ same_width-from_equal (at widths k) (at widths (classes rules k)) (sym (c k)))
      (same_or_not (classes rules k) k)

  to_fit : all_hold (at widths) rules ≡ true → fit_below (classes rules) ok widths n ≡ true
  to_fit holding =
      let c = classes_conform n rules h (at widths) holding in
      fit_all (classes rules) ok widths n (λ k less. fits_where k c.0 (c.1 k))

  own_fits : (k : ℕ) → classes rules k ≡ k → fits (classes rules) ok widths k (at widths k) ≡ true → ok k (at widths k) ≡ true
  own_fits k own fit = ap (λ t. cond t (ok k (at widths k)) (same_width (at widths k) (at widths (classes rules k)))) (sym (eq-eqb (classes rules k) k own)) ∙ fit

  conforms_inside : (k : ℕ) → fits (classes rules) ok widths k (at widths k) ≡ true → at widths (classes rules k) ≡ at widths k
  conforms_inside k fit = ⊎_elim
      (λ e. ap (at widths) e)
      (λ e. sym (same_width-same (at widths k) (at widths (classes rules k)) (ap (λ t. cond t (ok k (at widths k)) (same_width (at widths k) (at widths (classes rules k)))) (sym e) ∙ fit)))
      (same_or_not (classes rules k) k)

  conforms_at : fit_below (classes rules) ok widths n ≡ true → Conforms (classes rules) (at widths)
  conforms_at fit k =
      let seen : (t : Bool) → nat_lt k n ≡ t → at widths (classes rules k) ≡ at widths k = λ t. elim t as (λ t. nat_lt k n ≡ t → at widths (classes rules k) ≡ at widths k) [
        | true ↦ λ e. conforms_inside k (fit_each (classes rules) ok widths n fit k (ltb-true k n e))
        | false ↦ λ e. ap (at widths) ((the_naming n rules h).outside k (ltb-false k n e))
      ] in
      seen (nat_lt k n) refl

  from_fit : fit_below (classes rules) ok widths n ≡ true → all_hold (at widths) rules ≡ true
  from_fit fit = classes_hold n rules h (at widths) (conforms_at fit) (λ k less own. own_fits k own (fit_each (classes rules) ok widths n fit k less))

  pub holds_is_fit : all_hold (at widths) rules ≡ fit_below (classes rules) ok widths n
  holds_is_fit = same_truth (all_hold (at widths) rules) (fit_below (classes rules) ok widths n) to_fit from_fit

-- lists are filtered as they grow
module _ (n : ℕ) (f : ℕ → ℕ) (naming : IsNaming n f) (ok : ℕ → Width → Bool) where
  fits-longer : (list : List Width) (w : Width) (k : ℕ) → k < length list → fits f ok (longer list w) k (at (longer list w) k) ≡ fits f ok list k (at list k)
  fits-longer list w k less =
      let b = naming.below k in
      ap (λ x. fits f ok (longer list w) k x) (get_or_append_left list (w ∷ []) W1 k less)
      ∙ ap (λ y. cond (nat_eq (f k) k) (ok k (at list k)) (same_width (at list k) y)) (get_or_append_left list (w ∷ []) W1 (f k) (omega (arith, b, less)))

  fit_below-longer : (list : List Width) (w : Width) (k : ℕ) → k ≤ length list → fit_below f ok (longer list w) k ≡ fit_below f ok list k
  fit_below-longer list w zero less = refl
  fit_below-longer list w (suc k) less =
      ap (λ t. t && fits f ok (longer list w) k (at (longer list w) k)) (fit_below-longer list w k (omega arith))
      ∙ ap (λ t. fit_below f ok list k && t) (fits-longer list w k (omega arith))

  -- the last size
  fits-last : (list : List Width) (w : Width) → fits f ok (longer list w) (length list) (at (longer list w) (length list)) ≡ fits f ok list (length list) w
  fits-last list w =
      ap (λ x. fits f ok (longer list w) (length list) x) (get_or_at list w [] W1 (length list) refl)
      ∙ ⊎_elim
      (λ e. ap (λ t. cond t (ok (length list) w) (same_width w (at (longer list w) (f (length list))))) (eq-eqb (f (length list)) (length list) e)
      ∙ sym (ap (λ t. cond t (ok (length list) w) (same_width w (at list (f (length list))))) (eq-eqb (f (length list)) (length list) e)))
      (λ e. let b = naming.below (length list) in let less = smaller (f (length list)) (length list) (omega (arith, b)) (apart (f (length list)) (length list) e) in
      ap (λ y. cond (nat_eq (f (length list)) (length list)) (ok (length list) w) (same_width w y)) (get_or_append_left list (w ∷ []) W1 (f (length list)) less))
      (same_or_not (f (length list)) (length list))

  fit_below-suc : (k : ℕ) (list : List Width) (w : Width) → length list ≡ k → fit_below f ok (longer list w) (suc k) ≡ (fit_below f ok list k && fits f ok list k w)
  fit_below-suc k list w e = subst (λ k. fit_below f ok (longer list w) (suc k) ≡ (fit_below f ok list k && fits f ok list k w)) e
      (ap (λ t. t && fits f ok (longer list w) (length list) (at (longer list w) (length list))) (fit_below-longer list w (length list) (omega arith))
      ∙ ap (λ t. fit_below f ok list (length list) && t) (fits-last list w))

  kept_cons : {A : Type 0} (a : A) (b c : Bool) (xs ys : List A) → b ≡ c → xs ≡ ys → cond b (a ∷ xs) xs ≡ cond c (a ∷ ys) ys
  kept_cons a b c xs ys eb ex = ap (λ t. cond t (a ∷ xs) xs) eb ∙ ap (λ l. cond c (a ∷ l) l) ex

  map_cond : (list : List Width) (w : Width) (more : List Width) (b : Bool) → cond b (longer list w ∷ map (longer list) more) (map (longer list) more) ≡ map (longer list) (cond b (w ∷ more) more)
  map_cond list w more true = refl
  map_cond list w more false = refl

  block_kept : (k : ℕ) (list : List Width) → length list ≡ k → fit_below f ok list k ≡ true → (ws : List Width) → filter (λ l. fit_below f ok l (suc k)) (map (longer list) ws) ≡ map (longer list) (filter (fits f ok list k) ws)
  block_kept k list e fit [] = refl
  block_kept k list e fit (w ∷ ws) =
      kept_cons (longer list w) (fit_below f ok (longer list w) (suc k)) (fits f ok list k w) (filter (λ l. fit_below f ok l (suc k)) (map (longer list) ws)) (map (longer list) (filter (fits f ok list k) ws))
      (fit_below-suc k list w e ∙ ap (λ t. t && fits f ok list k w) fit) (block_kept k list e fit ws)
      ∙ map_cond list w (filter (fits f ok list k) ws) (fits f ok list k w)

  block_dropped : (k : ℕ) (list : List Width) → length list ≡ k → fit_below f ok list k ≡ false → (ws : List Width) → filter (λ l. fit_below f ok l (suc k)) (map (longer list) ws) ≡ []
  block_dropped k list e fit [] = refl
  block_dropped k list e fit (w ∷ ws) =
      kept_cons (longer list w) (fit_below f ok (longer list w) (suc k)) false (filter (λ l. fit_below f ok l (suc k)) (map (longer list) ws)) []
      (fit_below-suc k list w e ∙ ap (λ t. t && fits f ok list k w) fit) (block_dropped k list e fit ws)

  grow_filter : (k : ℕ) (lists : List (List Width)) → AllByRecursion (λ list. length list ≡ k) lists → filter (λ l. fit_below f ok l (suc k)) (flat_map longer_all lists) ≡ flat_map (grown f ok k) (filter (λ l. fit_below f ok l k) lists)
  grow_filter k [] all = refl
  grow_filter k (list ∷ lists) all =
      let here : (t : Bool) → fit_below f ok list k ≡ t → filter (λ l. fit_below f ok l (suc k)) (longer_all list ++ flat_map longer_all lists) ≡ flat_map (grown f ok k) (cond t (list ∷ filter (λ l. fit_below f ok l k) lists) (filter (λ l. fit_below f ok l k) lists))
      = λ t. elim t as (λ t. fit_below f ok list k ≡ t → filter (λ l. fit_below f ok l (suc k)) (longer_all list ++ flat_map longer_all lists) ≡ flat_map (grown f ok k) (cond t (list ∷ filter (λ l. fit_below f ok l k) lists) (filter (λ l. fit_below f ok l k) lists))) [
        | true ↦ λ e.
            filter-append (λ l. fit_below f ok l (suc k)) (longer_all list) (flat_map longer_all lists)
            ∙ ap (λ l. l ++ filter (λ l. fit_below f ok l (suc k)) (flat_map longer_all lists)) (block_kept k list all.0 e all_widths)
            ∙ ap (λ l. grown f ok k list ++ l) (grow_filter k lists all.1)
        | false ↦ λ e.
            filter-append (λ l. fit_below f ok l (suc k)) (longer_all list) (flat_map longer_all lists)
            ∙ ap (λ l. l ++ filter (λ l. fit_below f ok l (suc k)) (flat_map longer_all lists)) (block_dropped k list all.0 e all_widths)
            ∙ grow_filter k lists all.1
      ] in
      here (fit_below f ok list k) refl

  pub filter_is_product : (k : ℕ) → filter (λ l. fit_below f ok l k) (width_lists k) ≡ product f ok k
  unfolding width_lists
  filter_is_product zero = refl
  filter_is_product (suc k) =
      ap (filter (λ l. fit_below f ok l (suc k))) (width_lists-longer k)
      ∙ grow_filter k (width_lists k) (width_lists-length k)
      ∙ ap (flat_map (grown f ok k)) (filter_is_product k)

-- tests that agree on lists of a length keep the same of them
pub filter_same : (n : ℕ) (p q : List Width → Bool) → ((list : List Width) → length list ≡ n → p list ≡ q list) → (lists : List (List Width)) → AllByRecursion (λ list. length list ≡ n) lists → filter p lists ≡ filter q lists
filter_same n p q same [] all = refl
filter_same n p q same (list ∷ lists) all = ap (λ t. cond t (list ∷ filter p lists) (filter p lists)) (same list all.0) ∙ ap (λ l. cond (q list) (list ∷ l) l) (filter_same n p q same lists all.1)

-- all solutions of the rules, in lexicographic order
pub solutions_are_product : (n : ℕ) (rules : List SizeRule) → all_within n rules ≡ true → filter (λ widths. all_hold (at widths) rules) (width_lists n) ≡ product (classes rules) (allowed (classes rules) rules) n
solutions_are_product n rules h =
    filter_same n (λ widths. all_hold (at widths) rules) (λ widths. fit_below (classes rules) (allowed (classes rules) rules) widths n) (λ list count. holds_is_fit n rules h list)
    (width_lists n) (width_lists-length n)
    ∙ filter_is_product n (classes rules) (the_naming n rules h) (allowed (classes rules) rules) n
