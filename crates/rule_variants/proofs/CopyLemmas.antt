-- Copies of terms along a list, and lists of which the first two terms change places.
use Rattle.std.specs.Prelude.{◌≡◌, refl, ◌+◌, ◌<◌, ◌≤◌, ℕ, ℤ, Bool, true, Option, List, [], ◌∷◌, ◌++◌, length}
use Rattle.std.proofs.Common.{sym, ◌∙◌, ap, arith, drop, get_or}
use Rattle.std.proofs.lemmas.List.{drop_all}
use Rattle.std.specs.List.{swap}
use Rattle.nir_ops.specs.declared.op.Op.{Op}
use Rattle.nir_ops.specs.declared.width.Width.{Width}
use Rattle.rule_term.specs.declared.cond.Cond.{Cond}
use Rattle.rule_term.specs.declared.term.Term.{Term, Term-F, out-Term, map-Term}
use Rattle.rule_term.specs.declared.term.Term.TheOpen as layer
use Rattle.rule_term.specs.declared.term.Term.TheVariants as term
use Rattle.rule_term.specs.Lists.{then, then-Nil, then-before, then_assoc, terms_of-append, terms_of-drop}
use Rattle.rule_term.specs.Swapped.{behind_first, first_term, swapped_terms}
use Rattle.rule_term.specs.Terms.{Terms, Nil, VarThen, LitThen, AppThen, before, before_layer, before-var, before-lit, before-app, before-out, terms_of}
use Rattle.rule_term.specs.Variants.{bits_behind, bits_left, is_swapped, variant_of}
use Rattle.rule_variants.specs.BitLaws.{bits_behind-drop}
use Rattle.rule_variants.specs.Varied.{IsVaried}

-- what stands before a chain is its first term, and the chain is what stands behind it
first-layer : (layer : Term-F (Terms → Terms)) (rest : Terms) → first_term (before_layer layer rest) ≡ before_layer layer Nil
first-layer (layer.Var var constant size cond) rest = refl
first-layer (layer.Lit value boolean) rest = refl
first-layer (layer.App op size once args) rest = refl

behind-layer : (layer : Term-F (Terms → Terms)) (rest : Terms) → behind_first (before_layer layer rest) ≡ rest
behind-layer (layer.Var var constant size cond) rest = refl
behind-layer (layer.Lit value boolean) rest = refl
behind-layer (layer.App op size once args) rest = refl

first-before : (t : Term) (rest : Terms) → first_term (before t rest) ≡ before t Nil
first-before t rest =
    ap (λ f. first_term (f rest)) (before-out t)
    ∙ first-layer (map-Term Term (Terms → Terms) before (out-Term t)) rest
    ∙ sym (ap (λ f. f Nil) (before-out t))

behind-before : (t : Term) (rest : Terms) → behind_first (before t rest) ≡ rest
behind-before t rest =
    ap (λ f. behind_first (f rest)) (before-out t)
    ∙ behind-layer (map-Term Term (Terms → Terms) before (out-Term t)) rest

-- three parts of a chain that are the same
parts_same : (a b c x y z : Terms) → a ≡ x → b ≡ y → c ≡ z → then a (then b c) ≡ then x (then y z)
parts_same a b c x y z p q r = ap (λ t. then t (then b c)) p ∙ ap (λ t. then x (then t c)) q ∙ ap (λ t. then x (then y t)) r

swap_two : (a b : Term) (rest : List Term) → swapped_terms true (terms_of (a ∷ b ∷ rest)) ≡ terms_of (b ∷ a ∷ rest)
swap_two a b rest =
    let whole : Terms = before a (before b (terms_of rest)) in
    let inner = behind-before a (before b (terms_of rest)) in
    parts_same (first_term (behind_first whole)) (first_term whole) (behind_first (behind_first whole)) (before b Nil) (before a Nil) (terms_of rest)
    (ap first_term inner ∙ first-before b (terms_of rest)) (first-before a (before b (terms_of rest))) (ap behind_first inner ∙ behind-before b (terms_of rest))
    ∙ then-before b Nil (then (before a Nil) (terms_of rest))
    ∙ ap (before b) (then-before a Nil (terms_of rest))

swap_one : (a : Term) → swapped_terms true (terms_of (a ∷ [])) ≡ terms_of (a ∷ [])
swap_one a =
    let whole : Terms = before a Nil in
    let inner = behind-before a Nil in
    parts_same (first_term (behind_first whole)) (first_term whole) (behind_first (behind_first whole)) Nil whole Nil
    (ap first_term inner) (first-before a Nil) (ap behind_first inner)
    ∙ then-Nil whole

-- a list of which the first two change places, and a short one
pub swapped_list : (list : List Term) → 2 ≤ length list → terms_of (swap list 0 1) ≡ swapped_terms true (terms_of list)
swapped_list [] long = absurd (omega (arith, long))
swapped_list (a ∷ []) long = absurd (omega (arith, long))
swapped_list (a ∷ b ∷ rest) long = sym (swap_two a b rest)

pub swapped_short : (list : List Term) → length list < 2 → terms_of list ≡ swapped_terms true (terms_of list)
swapped_short [] short = refl
swapped_short (a ∷ []) short = sym (swap_one a)
swapped_short (a ∷ b ∷ rest) short = absurd (omega (arith, short))

variant-then : (a b : Terms) (bits : ℕ) → variant_of (then a b) bits ≡ then (variant_of a bits) (variant_of b (bits_behind a bits))
variant-then Nil b bits = refl
variant-then (VarThen var constant size cond rest) b bits = ap (VarThen var constant size cond) (variant-then rest b bits)
variant-then (LitThen value boolean rest) b bits = ap (LitThen value boolean) (variant-then rest b bits)
variant-then (AppThen op size once args rest) b bits =
    ap (AppThen op size once (swapped_terms (is_swapped op bits) (variant_of args (bits_left op bits)))) (variant-then rest b (bits_behind args (bits_left op bits)))

-- the copies made so far, and then those of the terms from this place on, are those of the whole list
pub record IsUnderway (list : List Term) (bits : ℕ) (copies : List Term) (place left : ℕ) : Type 0 where
  pub swapped : then (terms_of copies) (variant_of (terms_of (drop place list)) left) ≡ variant_of (terms_of list) bits
  pub behind : bits_behind (terms_of (drop place list)) left ≡ bits_behind (terms_of list) bits

pub copied_on : (list : List Term) (bits : ℕ) (copies more : List Term) (place : ℕ) (t copy : Term) (left after : ℕ)
    → place < length list → t ≡ get_or list place t → more ≡ copies ++ copy ∷ []
    → IsVaried (terms_of (t ∷ [])) left (terms_of (copy ∷ [])) after
    → IsUnderway list bits copies place left → IsUnderway list bits more (place + 1) after
copied_on list bits copies more place t copy left after within at grown one so_far =
    let rest : Terms = terms_of (drop (place + 1) list) in
    record {
      swapped =
          ap (λ l. then (terms_of l) (variant_of rest after)) grown
          ∙ ap (λ l. then l (variant_of rest after)) (terms_of-append copies (copy ∷ []))
          ∙ then_assoc (terms_of copies) (terms_of (copy ∷ [])) (variant_of rest after)
          ∙ ap (λ l. then (terms_of copies) (then l (variant_of rest after))) one.swapped
          ∙ ap (λ b. then (terms_of copies) (then (variant_of (terms_of (t ∷ [])) left) (variant_of rest b))) one.behind
          ∙ ap (then (terms_of copies)) (sym (ap (λ l. variant_of l left) (terms_of-drop list place t within at) ∙ variant-then (terms_of (t ∷ [])) rest left))
          ∙ so_far.swapped;
      behind = ap (bits_behind rest) one.behind ∙ sym (bits_behind-drop list place t left within at) ∙ so_far.behind;
    }

-- a copy of a term by its outermost layer
pub varied_var : (t : Term) (var : ℕ) (constant : Bool) (size : Option Width) (cond : Option Cond) (bits : ℕ) → t ≡ term.Var var constant size cond
    → IsVaried (terms_of (t ∷ [])) bits (terms_of (term.Var var constant size cond ∷ [])) bits
varied_var t var constant size cond bits is =
    let chain : terms_of (t ∷ []) ≡ VarThen var constant size cond Nil = ap (λ t. before t Nil) is ∙ before-var var constant size cond Nil in
    record { swapped = before-var var constant size cond Nil ∙ sym (ap (λ l. variant_of l bits) chain); behind = sym (ap (λ l. bits_behind l bits) chain) }

pub varied_lit : (t : Term) (value same : ℤ) (boolean : Bool) (bits : ℕ) → t ≡ term.Lit value boolean → same ≡ value
    → IsVaried (terms_of (t ∷ [])) bits (terms_of (term.Lit same boolean ∷ [])) bits
varied_lit t value same boolean bits is equal =
    let chain : terms_of (t ∷ []) ≡ LitThen value boolean Nil = ap (λ t. before t Nil) is ∙ before-lit value boolean Nil in
    record {
      swapped = before-lit same boolean Nil ∙ ap (λ v. LitThen v boolean Nil) equal ∙ sym (ap (λ l. variant_of l bits) chain);
      behind = sym (ap (λ l. bits_behind l bits) chain);
    }

pub varied_app : (t : Term) (op : Op) (size : Option Width) (once : Bool) (args seen copies made : List Term) (swap : Bool) (bits inner left : ℕ)
    → t ≡ term.App op size once args → seen ≡ args → swap ≡ is_swapped op bits → inner ≡ bits_left op bits
    → IsVaried (terms_of seen) inner (terms_of copies) left → terms_of made ≡ swapped_terms swap (terms_of copies)
    → IsVaried (terms_of (t ∷ [])) bits (terms_of (term.App op size once made ∷ [])) left
varied_app t op size once args seen copies made swap bits inner left is same flag below copied swapped =
    let chain : terms_of (t ∷ []) ≡ AppThen op size once (terms_of args) Nil = ap (λ t. before t Nil) is ∙ before-app op size once args Nil in
    let sources : terms_of made ≡ swapped_terms (is_swapped op bits) (variant_of (terms_of args) (bits_left op bits)) =
    swapped ∙ ap (λ b. swapped_terms b (terms_of copies)) flag
    ∙ ap (swapped_terms (is_swapped op bits)) (copied.swapped ∙ ap (λ l. variant_of (terms_of l) inner) same ∙ ap (variant_of (terms_of args)) below) in
    record {
      swapped = before-app op size once made Nil ∙ ap (λ l. AppThen op size once l Nil) sources ∙ sym (ap (λ l. variant_of l bits) chain);
      behind = copied.behind ∙ ap (λ l. bits_behind (terms_of l) inner) same ∙ ap (bits_behind (terms_of args)) below ∙ sym (ap (λ l. bits_behind l bits) chain);
    }

-- where no term is left, the copies are those of the whole list
pub all_copied : (list : List Term) (bits : ℕ) (copies : List Term) (place left : ℕ) → length list ≤ place → IsUnderway list bits copies place left
    → IsVaried (terms_of list) bits (terms_of copies) left
all_copied list bits copies place left past done =
    let none : drop place list ≡ [] = drop_all place list past in
    record {
      swapped = sym (then-Nil (terms_of copies)) ∙ sym (ap (λ l. then (terms_of copies) (variant_of (terms_of l) left)) none) ∙ done.swapped;
      behind = sym (ap (λ l. bits_behind (terms_of l) left) none) ∙ done.behind;
    }
