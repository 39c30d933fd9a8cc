-- Classes of nodes as a list: a join, and what a class may have.
use Rattle.std.specs.Prelude.{replicate, slice_set}
use Rattle.std.proofs.Common.{◌≡◌, ◌≢◌, refl, ℕ, zero, suc, ◌+◌, ◌<◌, ◌≤◌, Bool, true, false, not, ◌&&◌, ◌||◌, cond, List, ◌∷◌, length, map, get_or, set, drop, nat_lt, ap, sym, ◌∙◌, ⊎_elim, arith}
use Rattle.std.proofs.Math.Path.{fun_ext}
use Rattle.std.proofs.lemmas.Bool.{and_parts, eq-eqb, false≢true, lt-ltb, ltb-true}
use Rattle.std.proofs.lemmas.List.{get_or_default, get_or-set_same, get_or-set_other, drop_all, drop_more}
use Rattle.std.specs.List.{slice_index_or}
use Rattle.nir_ops.specs.declared.width.Width.{Width}
use Rattle.size_laws.specs.Places as place
use Rattle.size_laws.specs.Places.{all_within, allowed, classes_from, merge, merged_by, passes_at, redirect, within}
use Rattle.size_laws.specs.ClassesLaws.{IsNaming, merge_naming, same_or_not}
use Rattle.rule_term.specs.ReplaceLeast.{set_has, set_of}
use Rattle.size_infer.specs.Meant.{meant}
use Rattle.size_infer.specs.Options.{listed, set_at}
use Rattle.size_infer.specs.declared.size_rule.SizeRule.{SizeRule}
use Rattle.size_infer.specs.declared.size_rule.SizeRule.TheVariants as code
use Rattle.rule_term.specs.declared.width_set.WidthSet.{WidthSet}
use Rattle.size_infer.proofs.SetLemmas.{set_has-of}

-- a node of the list, at another default
pub read : (list : List ℕ) (node : ℕ) → node < length list → slice_index_or list node 0 ≡ listed list node
read list node inside = get_or_default list node 0 node inside

pub read_inside : (n : ℕ) (list : List ℕ) (node : ℕ) → IsNaming n (listed list) → n ≡ length list → node < n → slice_index_or list node 0 < n
read_inside n list node naming long inside =
    let below = naming.below node in
    let same = read list node (omega (arith, inside, long)) in
    omega (arith, below, same, inside)

-- the greater of two classes is made the smaller
pub joined_less : (old new : List ℕ) (one other : ℕ) → one < length old → other < length old → slice_index_or old one 0 < slice_index_or old other 0
    → ((node : ℕ) → listed new node ≡ redirect (slice_index_or old other 0) (slice_index_or old one 0) (listed old node))
    → listed new ≡ merge (listed old) one other
joined_less old new one other one_in other_in less each = fun_ext (λ node.
    let a = read old one one_in in
    let b = read old other other_in in
    each node
    ∙ ap (λ x. redirect x (slice_index_or old one 0) (listed old node)) b ∙ ap (λ x. redirect (listed old other) x (listed old node)) a
    ∙ ap (λ t. cond t (redirect (listed old other) (listed old one) (listed old node)) (redirect (listed old one) (listed old other) (listed old node))) (sym (lt-ltb (listed old one) (listed old other) (omega (arith, a, b, less)))))

not_less : (a b : ℕ) → b ≤ a → nat_lt a b ≡ false
not_less a b more =
    let seen : (t : Bool) → nat_lt a b ≡ t → nat_lt a b ≡ false = λ t. elim t as (λ t. nat_lt a b ≡ t → nat_lt a b ≡ false) [ true ↦ λ e. let less = ltb-true a b e in absurd (omega (arith, less, more)) | false ↦ λ e. e ] in
    seen (nat_lt a b) refl

pub joined_more : (old new : List ℕ) (one other : ℕ) → one < length old → other < length old → slice_index_or old other 0 ≤ slice_index_or old one 0
    → ((node : ℕ) → listed new node ≡ redirect (slice_index_or old one 0) (slice_index_or old other 0) (listed old node))
    → listed new ≡ merge (listed old) one other
joined_more old new one other one_in other_in more each = fun_ext (λ node.
    let a = read old one one_in in
    let b = read old other other_in in
    each node
    ∙ ap (λ x. redirect x (slice_index_or old other 0) (listed old node)) a ∙ ap (λ x. redirect (listed old one) x (listed old node)) b
    ∙ ap (λ t. cond t (redirect (listed old other) (listed old one) (listed old node)) (redirect (listed old one) (listed old other) (listed old node))) (sym (not_less (listed old one) (listed old other) (omega (arith, a, b, more)))))

-- a rule is asked behind those before it
pub naming_by : (n : ℕ) (f : ℕ → ℕ) → IsNaming n f → (rule : place.SizeRule) → within n rule ≡ true → IsNaming n (merged_by f rule)
naming_by n f naming (place.Same p q) h = let both = and_parts (nat_lt p n) (nat_lt q n) h in merge_naming n f naming p q (ltb-true p n both.0) (ltb-true q n both.1)
naming_by n f naming (place.Only p test) h = naming

module _ (rules : List SizeRule) (i : ℕ) (other : SizeRule) (inside : i < length rules) where
  first_left : map meant (drop i rules) ≡ meant (get_or rules i other) ∷ map meant (drop (i + 1) rules)
  first_left = ap (map meant) (drop_more rules i other inside)

  pub within_left : (n : ℕ) → all_within n (map meant (drop i rules)) ≡ true → (within n (meant (get_or rules i other)) ≡ true) × (all_within n (map meant (drop (i + 1) rules)) ≡ true)
  within_left n h = and_parts (within n (meant (get_or rules i other))) (all_within n (map meant (drop (i + 1) rules))) (sym (ap (all_within n) first_left) ∙ h)

  pub classes_left : (old new : ℕ → ℕ) → new ≡ merged_by old (meant (get_or rules i other)) → classes_from new (map meant (drop (i + 1) rules)) ≡ classes_from old (map meant (drop i rules))
  classes_left old new e = ap (λ f. classes_from f (map meant (drop (i + 1) rules))) e ∙ sym (ap (classes_from old) first_left)

-- sets that have all sizes
pub full_at : (n : ℕ) (full : WidthSet) → full ≡ set_of (λ width. true) → (node : ℕ) (width : Width) → set_at (replicate n full) node width ≡ true
full_at zero full e node width = set_has-of (λ width. true) width
full_at (suc n) full e zero width = ap (λ s. set_has s width) e ∙ set_has-of (λ width. true) width
full_at (suc n) full e (suc node) width = full_at n full e node width

with_true : (x : Bool) → (x && true) ≡ x
with_true true = refl
with_true false = refl

-- a class keeps the sizes that a node of it may have
pub narrowed : (sets : List WidthSet) (first : List ℕ) (p : ℕ) (set joined : WidthSet) (class : ℕ) → class ≡ listed first p → class < length sets
    → ((width : Width) → set_has joined width ≡ (set_at sets class width && set_has set width)) → (node : ℕ) (width : Width)
    → set_at (slice_set sets class joined) node width ≡ (set_at sets node width && passes_at (listed first) node width (place.Only p (set_has set)))
narrowed sets first p set joined class is inside both node width = ⊎_elim
    (λ e.
    let same : node ≡ class = sym e ∙ sym is in
    ap (λ n. set_at (slice_set sets class joined) n width) same
    ∙ ap (λ s. set_has s width) (get_or-set_same sets class joined (set_of (λ width. true)) inside)
    ∙ both width
    ∙ ap (λ n. set_at sets n width && set_has set width) (sym same)
    ∙ sym (ap (λ t. set_at sets node width && (not t || set_has set width)) (eq-eqb (listed first p) node e)))
    (λ e.
    let apart : node ≢ class = λ same. false≢true (sym e ∙ eq-eqb (listed first p) node (sym is ∙ sym same)) in
    ap (λ s. set_has s width) (get_or-set_other sets class node joined (set_of (λ width. true)) apart)
    ∙ sym (ap (λ t. set_at sets node width && (not t || set_has set width)) e ∙ with_true (set_at sets node width)))
    (same_or_not (listed first p) node)

-- nothing is left
pub allowed_done : (f : ℕ → ℕ) (rules : List SizeRule) (i : ℕ) (has whole : Bool) (node : ℕ) (width : Width) → length rules ≤ i
    → (has && allowed f (map meant (drop i rules)) node width) ≡ whole → has ≡ whole
allowed_done f rules i has whole node width past e =
    sym (with_true has) ∙ ap (λ l. has && allowed f (map meant l) node width) (sym (drop_all i rules past)) ∙ e

-- the class of a node of which something is asked
pub class_inside : (first : List ℕ) (rule : SizeRule) (p : ℕ) (set : WidthSet) → rule ≡ code.Within p set → length first ≡ 98 → ((node : ℕ) → listed first node ≤ node) → within 98 (meant rule) ≡ true → slice_index_or first p 0 < 98
class_inside first rule p set is long below h =
    let inside = ltb-true p 98 (sym (ap (λ r. within 98 (meant r)) is) ∙ h) in
    let same = read first p (omega (arith, long, inside)) in
    let less = below p in
    omega (arith, same, less, inside)
