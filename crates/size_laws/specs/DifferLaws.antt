-- Two lists of sizes that obey the rules, agree before a place and differ at or behind it: a class that begins there and has two sizes.
use Rattle.std.proofs.Common.{◌≡◌, refl, ℕ, zero, suc, ◌≤◌, ◌<◌, Bool, true, false, ◌&&◌, cond, List, [], ◌∷◌, length, filter, nat_eq, nat_lt, sym, ◌∙◌, ap, subst, arith, ⊎_elim}
use Rattle.std.proofs.lemmas.Bool.{and_parts, eq-eqb, ltb-true, ltb-false}
use Rattle.std.proofs.lemmas.List.{get_or_append_left, length-append, get_or_at}
use Rattle.nir_ops.specs.declared.width.Width.{Width}
use Rattle.nir_ops.specs.declared.width.Width.TheVariants.{W1}
use Rattle.op_eval.specs.Calls.{same_width}
use Rattle.size_laws.specs.Places.{SizeRule, Same, Only, all_widths, at, holds, all_hold, within, all_within, classes, allowed, longer, choices}
use Rattle.size_laws.specs.ClassesLaws.{Conforms, same_or_not, the_naming, classes_conform, classes_hold}
use Rattle.size_laws.specs.ProductLaws.{split}
use Rattle.size_laws.specs.ChoicesLaws.{two_kept, two_widths}

pub record Solves (n : ℕ) (rules : List SizeRule) (widths : List Width) : Type 0 where
  pub count : length widths ≡ n
  pub obeyed : all_hold (at widths) rules ≡ true

-- two that agree before m and differ at k
pub record Differ (n : ℕ) (rules : List SizeRule) (m k : ℕ) : Type 0 where
  pub one : List Width
  pub two : List Width
  pub one_solves : Solves n rules one
  pub two_solves : Solves n rules two
  pub agree : (i : ℕ) → i < m → at one i ≡ at two i
  pub differ : at one k ≡ at two k → ⊥

-- a list of sizes from a size for each place
abbrev built : (ℕ → Width) → ℕ → List Width
built w zero = []
built w (suc n) = longer (built w n) (w n)

built-length : (w : ℕ → Width) (n : ℕ) → length (built w n) ≡ n
built-length w zero = refl
built-length w (suc n) = let a = length-append (built w n) (w n ∷ []) in let b = built-length w n in omega (arith, a, b)

built-at : (w : ℕ → Width) (n i : ℕ) → i < n → at (built w n) i ≡ w i
built-at w zero i less = absurd (omega arith)
built-at w (suc n) i less =
    let b = built-length w n in
    ⊎_elim
    (λ below. get_or_append_left (built w n) (w n ∷ []) W1 i (omega (arith, b, below)) ∙ built-at w n i below)
    (λ same. get_or_at (built w n) (w n) [] W1 i (b ∙ sym same) ∙ ap w (sym same))
    (split i n less)

-- rules look at places that they name only
one_rule : (n : ℕ) (v w : ℕ → Width) → ((i : ℕ) → i < n → v i ≡ w i) → (rule : SizeRule) → within n rule ≡ true → holds v rule ≡ holds w rule
one_rule n v w same (Same p q) h =
    let both = and_parts (nat_lt p n) (nat_lt q n) h in
    ap (λ x. same_width x (v q)) (same p (ltb-true p n both.0)) ∙ ap (λ x. same_width (w p) x) (same q (ltb-true q n both.1))
one_rule n v w same (Only p test) h = ap test (same p (ltb-true p n h))

all_rules : (n : ℕ) (v w : ℕ → Width) → ((i : ℕ) → i < n → v i ≡ w i) → (rules : List SizeRule) → all_within n rules ≡ true → all_hold v rules ≡ all_hold w rules
all_rules n v w same [] h = refl
all_rules n v w same (rule ∷ rules) h =
    let parts = and_parts (within n rule) (all_within n rules) h in
    ap (λ t. t && all_hold v rules) (one_rule n v w same rule parts.0) ∙ ap (λ t. holds w rule && t) (all_rules n v w same rules parts.1)

built_solves : (n : ℕ) (rules : List SizeRule) → all_within n rules ≡ true → (w : ℕ → Width) → all_hold w rules ≡ true → Solves n rules (built w n)
built_solves n rules h w holding = record { count = built-length w n; obeyed = all_rules n (at (built w n)) w (built-at w n) rules h ∙ holding }

module _ (n : ℕ) (rules : List SizeRule) (h : all_within n rules ≡ true) where
  abbrev f : ℕ → ℕ
  f = classes rules

  abbrev ok : ℕ → Width → Bool
  ok = allowed (classes rules) rules

  -- a size for a whole class in place of its own
  abbrev turned : (ℕ → Width) → ℕ → Width → ℕ → Width
  turned u k a i = cond (nat_eq (f i) k) a (u i)

  turned_conforms : (u : ℕ → Width) → Conforms f u → (k : ℕ) (a : Width) → Conforms f (turned u k a)
  turned_conforms u c k a i =
      ap (λ j. cond (nat_eq j k) a (u (f i))) ((the_naming n rules h).again i) ∙ ap (λ x. cond (nat_eq (f i) k) a x) (c i)

  turned_at : (u : ℕ → Width) (k : ℕ) (a : Width) → f k ≡ k → turned u k a k ≡ a
  turned_at u k a own = ap (λ t. cond t a (u k)) (eq-eqb (f k) k own)

  turned_other : (u : ℕ → Width) (k : ℕ) (a : Width) (i : ℕ) → nat_eq (f i) k ≡ false → turned u k a i ≡ u i
  turned_other u k a i e = ap (λ t. cond t a (u i)) e

  turned_before : (u : ℕ → Width) (k : ℕ) (a : Width) (i : ℕ) → i < k → turned u k a i ≡ u i
  turned_before u k a i less = ⊎_elim
      (λ e. let b = (the_naming n rules h).below i in absurd (omega (arith, e, b, less)))
      (λ e. turned_other u k a i e)
      (same_or_not (f i) k)

  turned_allowed : (u : ℕ → Width) → ((i : ℕ) → ok i (u i) ≡ true) → (k : ℕ) (a : Width) → ok k a ≡ true → (i : ℕ) → f i ≡ i → ok i (turned u k a i) ≡ true
  turned_allowed u each k a passes i own = ⊎_elim
      (λ e. let same : i ≡ k = sym own ∙ e in
      ap (ok i) (ap (λ t. cond t a (u i)) (eq-eqb (f i) k e)) ∙ ap (λ j. ok j a) same ∙ passes)
      (λ e. ap (ok i) (turned_other u k a i e) ∙ each i)
      (same_or_not (f i) k)

  turned_holds : (u : ℕ → Width) → all_hold u rules ≡ true → (k : ℕ) (a : Width) → ok k a ≡ true → all_hold (turned u k a) rules ≡ true
  turned_holds u holding k a passes =
      let c = classes_conform n rules h u holding in
      classes_hold n rules h (turned u k a) (turned_conforms u c.0 k a) (λ i less own. turned_allowed u c.1 k a passes i own)

  -- a place with two choices is the first of its class
  own_place : (k : ℕ) → 2 ≤ choices f ok k → (f k ≡ k) × (2 ≤ length (filter (ok k) all_widths))
  own_place k few = ⊎_elim
      (λ e. (e, subst (λ t. 2 ≤ cond t (length (filter (ok k) all_widths)) 1) (eq-eqb (f k) k e) few))
      (λ e. let less = subst (λ t. 2 ≤ cond t (length (filter (ok k) all_widths)) 1) e few in absurd (omega (arith, less)))
      (same_or_not (f k) k)

  pub class_differs : (widths : List Width) → Solves n rules widths → (m k : ℕ) → m ≤ k → k < n → 2 ≤ choices f ok k → Differ n rules m k
  class_differs widths solves m k low less few =
      let own = own_place k few in
      let kept = two_widths (ok k) own.1 in
      let u = at widths in
      let a = turned u k kept.one in
      let b = turned u k kept.two in
      record {
        one = built a n;
        two = built b n;
        one_solves = built_solves n rules h a (turned_holds u solves.obeyed k kept.one kept.one_passes);
        two_solves = built_solves n rules h b (turned_holds u solves.obeyed k kept.two kept.two_passes);
        agree = λ i before.
            built-at a n i (omega (arith, low, less, before)) ∙ turned_before u k kept.one i (omega (arith, low, before))
            ∙ sym (turned_before u k kept.two i (omega (arith, low, before))) ∙ sym (built-at b n i (omega (arith, low, less, before)));
        differ = λ same. kept.differ (sym (turned_at u k kept.one own.0) ∙ sym (built-at a n k less) ∙ same ∙ built-at b n k less ∙ turned_at u k kept.two own.0);
      }

  -- the class of a place at which two differ
  pub record Begins (m j : ℕ) : Type 0 where
    pub place : ℕ
    pub low : m ≤ place
    pub high : place ≤ j
    pub few : 2 ≤ choices f ok place

  pub differ_class : (m j : ℕ) → Differ n rules m j → Begins m j
  differ_class m j two =
      let c = classes_conform n rules h (at two.one) two.one_solves.obeyed in
      let d = classes_conform n rules h (at two.two) two.two_solves.obeyed in
      let differs : at two.one (f j) ≡ at two.two (f j) → ⊥ = λ same. two.differ (sym (c.0 j) ∙ same ∙ d.0 j) in
      let again = (the_naming n rules h).again j in
      let kept = two_kept (ok (f j)) (at two.one (f j)) (at two.two (f j)) differs (c.1 (f j)) (d.1 (f j)) in
      let seen : (t : Bool) → nat_lt (f j) m ≡ t → m ≤ f j = λ t. elim t as (λ t. nat_lt (f j) m ≡ t → m ≤ f j) [
        | true ↦ λ e. absurd (differs (two.agree (f j) (ltb-true (f j) m e)))
        | false ↦ λ e. ltb-false (f j) m e
      ] in
      record {
        place = f j;
        low = seen (nat_lt (f j) m) refl;
        high = (the_naming n rules h).below j;
        few = subst (λ t. 2 ≤ cond t (length (filter (ok (f j)) all_widths)) 1) (sym (eq-eqb (f (f j)) (f j) again)) kept;
      }

  -- the first place from m on that has two choices is the first at which two that agree before m differ
  pub first_differs : (m k : ℕ) → ((i : ℕ) → m ≤ i → i < k → choices f ok i ≤ 1) → (j : ℕ) → j < k → Differ n rules m j → ⊥
  first_differs m k none j less two =
      let b = differ_class m j two in
      let few = none b.place b.low (let up = b.high in omega (arith, up, less)) in
      let more = b.few in
      absurd (omega (arith, few, more))
