-- Which roots terms can have, and their least sizes, by the first of them.
use Rattle.std.proofs.Common.{◌≡◌, refl, ℕ, suc, ◌+◌, ◌<◌, ◌≤◌, ℤ, Bool, ◌&&◌, Option, List, [], ◌∷◌, ◌++◌, length, map, get_or, drop, sym, ap, ◌∙◌, arith, append_assoc}
use Rattle.std.proofs.Math.Bool.{and-true, and_assoc}
use Rattle.std.proofs.lemmas.List.{append-nil, drop-drop, drop_all, length-append}
use Rattle.std.specs.List.{find}
use Rattle.std.specs.Option.{unwrap_or}
use Rattle.std.specs.Prelude.{is_some}
use Rattle.nir_ops.specs.declared.op.Op.{Op}
use Rattle.nir_ops.specs.declared.width.Width.{Width}
use Rattle.nir_ops.specs.declared.width.Width.TheVariants.{W1, W8, W16, W32, W64}
use Rattle.nir_ops.specs.declared.row.OpInput.{OpInput}
use Rattle.nir_ops.specs.Opcodes.{op_allows, op_info}
use Rattle.op_eval.specs.Calls.{result_width, same_width, size_at, source_widths}
use Rattle.rule_term.specs.declared.cond.Cond.{Cond}
use Rattle.rule_term.specs.declared.term.Term.{Term}
use Rattle.rule_term.specs.declared.term.Term.TheVariants as term
use Rattle.rule_term.specs.declared.width_set.WidthSet.{WidthSet}
use Rattle.rule_term.specs.Terms.{Terms, Nil, VarThen, LitThen, AppThen, terms_of}
use Rattle.rule_term.specs.Lists.{then, terms_of-var, terms_of-lit, terms_of-app, terms_of-drop}
use Rattle.rule_term.specs.Pieces.{terms_count}
use Rattle.rule_term.specs.Splits.{drop_one, terms_count-terms_of}
use Rattle.rule_term.specs.Typings.{size_of, first_of, has_size, literal_fits}
use Rattle.rule_term.specs.ReplaceLeast.{every_width, can, is_unsized_for, least, set_has, set_of, unsized_for}

-- a set has the sizes that pass its test, and no others
pub set_has-set_of : (test : Width → Bool) (width : Width) → set_has (set_of test) width ≡ test width
set_has-set_of test W1 = refl
set_has-set_of test W8 = refl
set_has-set_of test W16 = refl
set_has-set_of test W32 = refl
set_has-set_of test W64 = refl

pub set_of-same : (f g : Width → Bool) → ((width : Width) → f width ≡ g width) → set_of f ≡ set_of g
set_of-same f g same = λ i. set_of (λ width. same width i)

pub can-then : (fit : ℕ → Width → Bool) (a b : Terms) (roots : List Width) → can fit (then a b) roots ≡ (can fit a roots && can fit b (drop (terms_count a) roots))
unfolding can
can-then fit Nil b roots = refl
can-then fit (VarThen var constant size cond rest) b roots =
    let here = has_size size (first_of roots) && fit var (first_of roots) in
    ap (λ t. here && t) (can-then fit rest b (drop 1 roots) ∙ ap (λ l. can fit rest (drop 1 roots) && can fit b l) (drop_one (terms_count rest) roots))
    ∙ sym (and_assoc here (can fit rest (drop 1 roots)) (can fit b (drop (suc (terms_count rest)) roots)))
can-then fit (LitThen value boolean rest) b roots =
    let here = literal_fits value boolean (first_of roots) in
    ap (λ t. here && t) (can-then fit rest b (drop 1 roots) ∙ ap (λ l. can fit rest (drop 1 roots) && can fit b l) (drop_one (terms_count rest) roots))
    ∙ sym (and_assoc here (can fit rest (drop 1 roots)) (can fit b (drop (suc (terms_count rest)) roots)))
can-then fit (AppThen op size once args rest) b roots =
    let here = has_size size (first_of roots) && is_some (find (is_unsized_for fit op args (first_of roots)) every_width) in
    ap (λ t. here && t) (can-then fit rest b (drop 1 roots) ∙ ap (λ l. can fit rest (drop 1 roots) && can fit b l) (drop_one (terms_count rest) roots))
    ∙ sym (and_assoc here (can fit rest (drop 1 roots)) (can fit b (drop (suc (terms_count rest)) roots)))

pub least-then : (fit : ℕ → Width → Bool) (a b : Terms) (roots : List Width) → least fit (then a b) roots ≡ least fit a roots ++ least fit b (drop (terms_count a) roots)
unfolding least
least-then fit Nil b roots = refl
least-then fit (VarThen var constant size cond rest) b roots =
    ap (λ t. first_of roots ∷ t) (least-then fit rest b (drop 1 roots) ∙ ap (λ l. least fit rest (drop 1 roots) ++ least fit b l) (drop_one (terms_count rest) roots))
least-then fit (LitThen value boolean rest) b roots =
    ap (λ t. first_of roots ∷ t) (least-then fit rest b (drop 1 roots) ∙ ap (λ l. least fit rest (drop 1 roots) ++ least fit b l) (drop_one (terms_count rest) roots))
least-then fit (AppThen op size once args rest) b roots =
    let under = least fit args (source_widths op (unsized_for fit op args (first_of roots))) in
    ap (λ t. first_of roots ∷ under ++ t) (least-then fit rest b (drop 1 roots) ∙ ap (λ l. least fit rest (drop 1 roots) ++ least fit b l) (drop_one (terms_count rest) roots))
    ∙ ap (λ t. first_of roots ∷ t) (sym (append_assoc under (least fit rest (drop 1 roots)) (least fit b (drop (suc (terms_count rest)) roots))))

-- only the first size is looked at where there is one term
no_terms : (terms : Terms) → terms_count terms ≡ 0 → terms ≡ Nil
no_terms Nil none = refl
no_terms (VarThen var constant size cond rest) none = absurd (omega arith)
no_terms (LitThen value boolean rest) none = absurd (omega arith)
no_terms (AppThen op size once args rest) none = absurd (omega arith)

none_left : (terms : Terms) → suc (terms_count terms) ≡ 1 → terms ≡ Nil
none_left terms one = no_terms terms (omega arith)

can-nil : (fit : ℕ → Width → Bool) (terms : Terms) (roots others : List Width) → terms ≡ Nil → can fit terms roots ≡ can fit terms others
unfolding can
can-nil fit terms roots others none = ap (λ t. can fit t roots) none ∙ sym (ap (λ t. can fit t others) none)

least-nil : (fit : ℕ → Width → Bool) (terms : Terms) (roots others : List Width) → terms ≡ Nil → least fit terms roots ≡ least fit terms others
unfolding least
least-nil fit terms roots others none = ap (λ t. least fit t roots) none ∙ sym (ap (λ t. least fit t others) none)

pub can-one : (fit : ℕ → Width → Bool) (terms : Terms) (roots : List Width) → terms_count terms ≡ 1 → can fit terms roots ≡ can fit terms (first_of roots ∷ [])
unfolding can
can-one fit Nil roots one = refl
can-one fit (VarThen var constant size cond rest) roots one = ap (λ b. has_size size (first_of roots) && fit var (first_of roots) && b) (can-nil fit rest (drop 1 roots) [] (none_left rest one))
can-one fit (LitThen value boolean rest) roots one = ap (λ b. literal_fits value boolean (first_of roots) && b) (can-nil fit rest (drop 1 roots) [] (none_left rest one))
can-one fit (AppThen op size once args rest) roots one = ap (λ b. has_size size (first_of roots) && is_some (find (is_unsized_for fit op args (first_of roots)) every_width) && b) (can-nil fit rest (drop 1 roots) [] (none_left rest one))

pub least-one : (fit : ℕ → Width → Bool) (terms : Terms) (roots : List Width) → terms_count terms ≡ 1 → least fit terms roots ≡ least fit terms (first_of roots ∷ [])
unfolding least
least-one fit Nil roots one = refl
least-one fit (VarThen var constant size cond rest) roots one = ap (λ l. first_of roots ∷ l) (least-nil fit rest (drop 1 roots) [] (none_left rest one))
least-one fit (LitThen value boolean rest) roots one = ap (λ l. first_of roots ∷ l) (least-nil fit rest (drop 1 roots) [] (none_left rest one))
least-one fit (AppThen op size once args rest) roots one = ap (λ l. first_of roots ∷ least fit args (source_widths op (unsized_for fit op args (first_of roots))) ++ l) (least-nil fit rest (drop 1 roots) [] (none_left rest one))

-- the term at a place of a loop and those behind it
module _ (fit : ℕ → Width → Bool) (list : List Term) (i : ℕ) (t : Term) (roots : List Width) (within : i < length list) (at : t ≡ get_or list i t) where
  one : terms_count (terms_of (t ∷ [])) ≡ 1
  one = terms_count-terms_of (t ∷ [])

  on : drop 1 (drop i roots) ≡ drop (i + 1) roots
  on = drop-drop 1 i roots

  pub can-drop : can fit (terms_of (drop i list)) (drop i roots) ≡ (can fit (terms_of (t ∷ [])) (first_of (drop i roots) ∷ []) && can fit (terms_of (drop (i + 1) list)) (drop (i + 1) roots))
  can-drop =
      let rest = terms_of (drop (i + 1) list) in
      ap (λ x. can fit x (drop i roots)) (terms_of-drop list i t within at)
      ∙ can-then fit (terms_of (t ∷ [])) rest (drop i roots)
      ∙ ap (λ b. b && can fit rest (drop (terms_count (terms_of (t ∷ []))) (drop i roots))) (can-one fit (terms_of (t ∷ [])) (drop i roots) one)
      ∙ ap (λ l. can fit (terms_of (t ∷ [])) (first_of (drop i roots) ∷ []) && can fit rest l) (ap (λ n. drop n (drop i roots)) one ∙ on)

  pub least-drop : least fit (terms_of (drop i list)) (drop i roots) ≡ least fit (terms_of (t ∷ [])) (first_of (drop i roots) ∷ []) ++ least fit (terms_of (drop (i + 1) list)) (drop (i + 1) roots)
  least-drop =
      let rest = terms_of (drop (i + 1) list) in
      ap (λ x. least fit x (drop i roots)) (terms_of-drop list i t within at)
      ∙ least-then fit (terms_of (t ∷ [])) rest (drop i roots)
      ∙ ap (λ l. l ++ least fit rest (drop (terms_count (terms_of (t ∷ []))) (drop i roots))) (least-one fit (terms_of (t ∷ [])) (drop i roots) one)
      ∙ ap (λ l. least fit (terms_of (t ∷ [])) (first_of (drop i roots) ∷ []) ++ least fit rest l) (ap (λ n. drop n (drop i roots)) one ∙ on)

-- a list of one term, by what the term is
pub can-var : (fit : ℕ → Width → Bool) (t : Term) (var : ℕ) (constant : Bool) (size : Option Width) (cond : Option Cond) (width : Width) → t ≡ term.Var var constant size cond → can fit (terms_of (t ∷ [])) (width ∷ []) ≡ (has_size size width && fit var width)
unfolding can
can-var fit t var constant size cond width e =
    ap (λ x. can fit (terms_of (x ∷ [])) (width ∷ [])) e
    ∙ ap (λ x. can fit x (width ∷ [])) (terms_of-var var constant size cond)
    ∙ and-true (has_size size width && fit var width)

pub can-lit : (fit : ℕ → Width → Bool) (t : Term) (value : ℤ) (boolean : Bool) (width : Width) → t ≡ term.Lit value boolean → can fit (terms_of (t ∷ [])) (width ∷ []) ≡ literal_fits value boolean width
unfolding can
can-lit fit t value boolean width e =
    ap (λ x. can fit (terms_of (x ∷ [])) (width ∷ [])) e
    ∙ ap (λ x. can fit x (width ∷ [])) (terms_of-lit value boolean)
    ∙ and-true (literal_fits value boolean width)

pub can-app : (fit : ℕ → Width → Bool) (t : Term) (op : Op) (size : Option Width) (once : Bool) (args : List Term) (width : Width) → t ≡ term.App op size once args
    → can fit (terms_of (t ∷ [])) (width ∷ []) ≡ (has_size size width && is_some (find (is_unsized_for fit op (terms_of args) width) every_width))
unfolding can
can-app fit t op size once args width e =
    ap (λ x. can fit (terms_of (x ∷ [])) (width ∷ [])) e
    ∙ ap (λ x. can fit x (width ∷ [])) (terms_of-app op size once args)
    ∙ and-true (has_size size width && is_some (find (is_unsized_for fit op (terms_of args) width) every_width))

pub least-var : (fit : ℕ → Width → Bool) (t : Term) (var : ℕ) (constant : Bool) (size : Option Width) (cond : Option Cond) (width : Width) → t ≡ term.Var var constant size cond → least fit (terms_of (t ∷ [])) (width ∷ []) ≡ width ∷ []
unfolding least
least-var fit t var constant size cond width e = ap (λ x. least fit (terms_of (x ∷ [])) (width ∷ [])) e ∙ ap (λ x. least fit x (width ∷ [])) (terms_of-var var constant size cond)

pub least-lit : (fit : ℕ → Width → Bool) (t : Term) (value : ℤ) (boolean : Bool) (width : Width) → t ≡ term.Lit value boolean → least fit (terms_of (t ∷ [])) (width ∷ []) ≡ width ∷ []
unfolding least
least-lit fit t value boolean width e = ap (λ x. least fit (terms_of (x ∷ [])) (width ∷ [])) e ∙ ap (λ x. least fit x (width ∷ [])) (terms_of-lit value boolean)

pub least-app : (fit : ℕ → Width → Bool) (t : Term) (op : Op) (size : Option Width) (once : Bool) (args : List Term) (width : Width) → t ≡ term.App op size once args
    → least fit (terms_of (t ∷ [])) (width ∷ []) ≡ width ∷ least fit (terms_of args) (source_widths op (unsized_for fit op (terms_of args) width))
unfolding least
least-app fit t op size once args width e =
    ap (λ x. least fit (terms_of (x ∷ [])) (width ∷ [])) e
    ∙ ap (λ x. least fit x (width ∷ [])) (terms_of-app op size once args)
    ∙ ap (λ l. width ∷ l) (append-nil (least fit (terms_of args) (source_widths op (unsized_for fit op (terms_of args) width))))

-- the unsized sizes in a set, and those at which the result has a size
pub set_found : (fit : ℕ → Width → Bool) (op : Op) (args : Terms) (result : Width) (set : WidthSet) → set ≡ set_of (λ free. op_allows op free && can fit args (source_widths op free))
    → find (λ free. set_has set free && same_width (result_width op free) result) every_width ≡ find (is_unsized_for fit op args result) every_width
set_found fit op args result set is = ap (λ s. find (λ free. set_has s free && same_width (result_width op free) result) every_width) is

-- a source at a place narrows the set
pub narrow_step : (fit : ℕ → Width → Bool) (list : List Term) (i : ℕ) (t : Term) (sizes : Width → List Width) (demanded : Option Width) (set own next : WidthSet) → i < length list → t ≡ get_or list i t
    → ((free : Width) → size_at demanded free ≡ first_of (drop i (sizes free)))
    → own ≡ set_of (λ width. can fit (terms_of (t ∷ [])) (width ∷ []))
    → next ≡ set_of (λ free. set_has set free && set_has own (size_at demanded free))
    → set_of (λ free. set_has next free && can fit (terms_of (drop (i + 1) list)) (drop (i + 1) (sizes free))) ≡ set_of (λ free. set_has set free && can fit (terms_of (drop i list)) (drop i (sizes free)))
narrow_step fit list i t sizes demanded set own next within at asks is made =
    set_of-same _ _ (λ free.
    let rest = can fit (terms_of (drop (i + 1) list)) (drop (i + 1) (sizes free)) in
    let here = can fit (terms_of (t ∷ [])) (first_of (drop i (sizes free)) ∷ []) in
    let has : set_has own (size_at demanded free) ≡ here =
    ap (λ s. set_has s (size_at demanded free)) is ∙ set_has-set_of (λ width. can fit (terms_of (t ∷ [])) (width ∷ [])) (size_at demanded free) ∙ ap (λ w. can fit (terms_of (t ∷ [])) (w ∷ [])) (asks free) in
    ap (λ s. set_has s free && rest) made
    ∙ ap (λ b. b && rest) (set_has-set_of (λ free. set_has set free && set_has own (size_at demanded free)) free)
    ∙ ap (λ b. (set_has set free && b) && rest) has
    ∙ and_assoc (set_has set free) here rest
    ∙ ap (λ b. set_has set free && b) (sym (can-drop fit list i t (sizes free) within at)))

-- where all sources are looked at
pub none_past : (fit : ℕ → Width → Bool) (list : List Term) (i : ℕ) (sizes : Width → List Width) (set total : WidthSet) → length list ≤ i → set_of (λ free. set_has set free && can fit (terms_of (drop i list)) (drop i (sizes free))) ≡ total → set ≡ total
unfolding can
none_past fit list i sizes set total past e =
    set_of-same (set_has set) (λ free. set_has set free && can fit (terms_of (drop i list)) (drop i (sizes free)))
    (λ free. sym (ap (λ l. set_has set free && can fit (terms_of l) (drop i (sizes free))) (drop_all i list past) ∙ and-true (set_has set free)))
    ∙ e

pub least_past : (fit : ℕ → Width → Bool) (list : List Term) (i : ℕ) (roots : List Width) → length list ≤ i → least fit (terms_of (drop i list)) roots ≡ []
unfolding least
least_past fit list i roots past = ap (λ l. least fit (terms_of l) roots) (drop_all i list past)

pub sizes_of_inputs : (op : Op) (inputs : List OpInput) (free : Width) → inputs ≡ (op_info op).inputs → map (λ input. size_at input.kind.size free) inputs ≡ source_widths op free
unfolding source_widths
sizes_of_inputs op inputs free e = ap (map (λ input. size_at input.kind.size free)) e

pub asked_at : (op : Op) (inputs : List OpInput) (i : ℕ) (free demanded : Width) → inputs ≡ (op_info op).inputs → demanded ≡ first_of (drop i (map (λ input. size_at input.kind.size free) inputs)) → demanded ≡ first_of (drop i (source_widths op free))
asked_at op inputs i free demanded e is = is ∙ ap (λ l. first_of (drop i l)) (sizes_of_inputs op inputs free e)

-- the sizes that a result can have
pub result_sizes : (fit : ℕ → Width → Bool) (t : Term) (op : Op) (size : Option Width) (once : Bool) (args list : List Term) (set : WidthSet) → t ≡ term.App op size once args → list ≡ args
    → set ≡ set_of (λ free. op_allows op free && can fit (terms_of list) (source_widths op free))
    → set_of (λ dst. has_size size dst && is_some (find (λ free. set_has set free && same_width (result_width op free) dst) every_width)) ≡ set_of (λ width. can fit (terms_of (t ∷ [])) (width ∷ []))
result_sizes fit t op size once args list set e same is =
    set_of-same _ _ (λ dst.
    ap (λ o. has_size size dst && is_some o) (set_found fit op (terms_of list) dst set is ∙ ap (λ l. find (is_unsized_for fit op (terms_of l) dst) every_width) same)
    ∙ sym (can-app fit t op size once args dst e))

-- the least sizes of an opcode over the terms of a list, from its least unsized size
pub least_made : (fit : ℕ → Width → Bool) (t : Term) (op : Op) (size : Option Width) (once : Bool) (args set_list list : List Term) (inputs : List OpInput) (width free : Width) (set : WidthSet) → t ≡ term.App op size once args → set_list ≡ args → list ≡ args → inputs ≡ (op_info op).inputs
    → set ≡ set_of (λ free. op_allows op free && can fit (terms_of set_list) (source_widths op free))
    → free ≡ unwrap_or (find (λ free. set_has set free && same_width (result_width op free) width) every_width) W1
    → width ∷ least fit (terms_of list) (map (λ input. size_at input.kind.size free) inputs) ≡ least fit (terms_of (t ∷ [])) (width ∷ [])
least_made fit t op size once args set_list list inputs width free set e first second same is found =
    let is_free : free ≡ unsized_for fit op (terms_of args) width =
    found
    ∙ ap (λ o. unwrap_or o W1) (set_found fit op (terms_of set_list) width set is)
    ∙ ap (λ l. unsized_for fit op (terms_of l) width) first in
    ap (λ l. width ∷ least fit (terms_of list) l) (sizes_of_inputs op inputs free same)
    ∙ ap (λ l. width ∷ least fit (terms_of l) (source_widths op free)) second
    ∙ ap (λ f. width ∷ least fit (terms_of args) (source_widths op f)) is_free
    ∙ sym (least-app fit t op size once args width e)

-- one size for each node
pub length-least : (fit : ℕ → Width → Bool) (terms : Terms) (roots : List Width) → length (least fit terms roots) ≡ size_of terms
unfolding least
length-least fit Nil roots = refl
length-least fit (VarThen var constant size cond rest) roots = ap suc (length-least fit rest (drop 1 roots))
length-least fit (LitThen value boolean rest) roots = ap suc (length-least fit rest (drop 1 roots))
length-least fit (AppThen op size once args rest) roots =
    let sizes = source_widths op (unsized_for fit op args (first_of roots)) in
    ap suc
    (length-append (least fit args sizes) (least fit rest (drop 1 roots))
    ∙ ap (λ n. n + length (least fit rest (drop 1 roots))) (length-least fit args sizes)
    ∙ ap (λ n. size_of args + n) (length-least fit rest (drop 1 roots)))
