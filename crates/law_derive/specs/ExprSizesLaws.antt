-- The sizes of the nodes of settled terms are those that their roots have, and of other terms there are more.
use Rattle.std.proofs.Common.{◌≡◌, ◌≤◌, ◌<◌, ◌+◌, ◌++◌, refl, ℕ, suc, Bool, true, false, List, [], ◌∷◌, length, map, take, drop, Option, Some, None, sym, ap, ◌∙◌, subst, arith, append_assoc, ◌⊎◌, ⊎_elim, inl, inr, cond}
use Rattle.std.specs.Prelude.{◌&&◌, ◌||◌, not, is_none, is_some, nat_eq}
use Rattle.std.specs.List.{find, list_all}
use Rattle.std.specs.Option.{unwrap_or}
use Rattle.std.proofs.lemmas.Bool.{and_from, and_parts, cases_Bool, eqb-true, false≢true, or_cases, true≢false}
use Rattle.std.proofs.lemmas.Option.{none-some, same_Some}
use Rattle.list_laws.specs.OptionLaws.{if_some}
use Rattle.std.proofs.lemmas.List.{drop_at, length-append, length-drop, length-take-le, take_at}
use Rattle.std.proofs.lemmas.List.Folds.{list_all-append}
use Rattle.std.proofs.Math.Seq.{take-add}
use Rattle.nir_ops.specs.declared.op.Op.{Op}
use Rattle.nir_ops.specs.declared.row.OpInput.{OpInput}
use Rattle.nir_ops.specs.declared.width.Width.{Width}
use Rattle.nir_ops.specs.declared.width.Width.TheVariants.{W1}
use Rattle.nir_ops.specs.Opcodes.{op_allows, op_info}
use Rattle.op_eval.specs.Calls.{result_width, same_width, size_at, sizes_fit, source_widths}
use Rattle.op_eval.specs.Sizes.{same_width-refl, same_width-same}
use Rattle.rule_term.specs.EightBitLaws.{has_sources}
use Rattle.rule_term.specs.Pieces.{pieces, terms_count}
use Rattle.rule_term.specs.ReplaceLeast.{can, every_width, least}
use Rattle.rule_term.specs.Splits.{length-roots}
use Rattle.rule_term.specs.Terms.{Terms, Nil, VarThen, LitThen, AppThen}
use Rattle.rule_term.specs.Typings.{first_of, has_size, literal_fits, obeys, occurrences, roots, size_of}
use Rattle.rule_term.proofs.ReplaceExact.{IsPart, app_part, least_before, least_first, least_part, lit_part, roots_first, some_nodes, take_first, var_part}
use Rattle.rule_term.proofs.ReplaceRoots.{length-least}
use Rattle.rule_term.proofs.ReplaceSizes.{all_sized, determined, every_allowed, fitting_size, found_passes, is_determined, least_found, sized_sources, sizes_fit-from, source_count, unsized_at}
use Rattle.law_derive.specs.ExprSizes.{at_most_one, few_from, first_is_unsized, is_free, is_settled, no_other, settled, sole, sole_from, works_at}

-- ---- tests that one size passes

other_is : (test : Width → Bool) (width other : Width) → no_other test width ≡ true → test other ≡ true → other ≡ width
other_is test width other alone passes =
    ⊎_elim
    (λ fails. absurd (false≢true (sym (ap not passes) ∙ fails)))
    (λ same. same_width-same other width same)
    (or_cases (not (test other)) (same_width other width) (every_allowed (λ o. not (test o) || same_width o width) alone other))

few_at : (test : Width → Bool) (o : Option Width) (u v : Width) → is_some o ≡ true → few_from test o ≡ true → test u ≡ true → test v ≡ true → u ≡ v
few_at test None u v some few first second = absurd (false≢true some)
few_at test (Some width) u v some few first second = other_is test width u few first ∙ sym (other_is test width v few second)

-- two that pass are one
few_same : (test : Width → Bool) (u v : Width) → at_most_one test ≡ true → test u ≡ true → test v ≡ true → u ≡ v
few_same test u v few first second = few_at test (find test every_width) u v (least_found test u first).0 few first second

-- a place of a list where a test fails
failing_here : (p : Width → Bool) (x : Width) (list : List Width) (b : Bool) → p x ≡ b → ((list_all p list ≡ false) → (y : Width) × (p y ≡ false)) → (b && list_all p list) ≡ false → (y : Width) × (p y ≡ false)
failing_here p x list true is later h = later h
failing_here p x list false is later h = (x, is)

failing : (p : Width → Bool) (list : List Width) → list_all p list ≡ false → (y : Width) × (p y ≡ false)
failing p [] h = absurd (true≢false h)
failing p (x ∷ list) h = failing_here p x list (p x) refl (failing p list) h

-- what both tests of a disjunction leave out
pub or_false : (a b : Bool) → (a || b) ≡ false → (a ≡ false) × (b ≡ false)
or_false true b h = absurd (true≢false h)
or_false false b h = (refl, h)

pub not_false : (a : Bool) → not a ≡ false → a ≡ true
not_false true h = refl
not_false false h = absurd (true≢false h)

pub not_true : (a : Bool) → not a ≡ true → a ≡ false
not_true true h = absurd (false≢true h)
not_true false h = refl

and_false : (a b : Bool) → (a && b) ≡ false → (a ≡ false) ⊎ (b ≡ false)
and_false true b h = inr h
and_false false b h = inl refl

-- another size that passes
abbrev pub Differs : (Width → Bool) → Width → Type 0
Differs test width = (v : Width) × (test v ≡ true) × (v ≡ width → ⊥)

apart : (v w : Width) → same_width v w ≡ false → v ≡ w → ⊥
apart v w differs e = false≢true (sym differs ∙ ap (λ x. same_width x w) e ∙ same_width-refl w)

one_of_two : (test : Width → Bool) (x w width : Width) → test x ≡ true → test w ≡ true → (x ≡ w → ⊥) → Differs test width
one_of_two test x w width first second differ =
    ⊎_elim
    (λ same. (w, second, λ e. differ (same_width-same x width same ∙ sym e)))
    (λ other. (x, first, apart x width other))
    (cases_Bool (same_width x width))

another_at : (test : Width → Bool) (o : Option Width) (width : Width) → (is_some o ≡ true → test (unwrap_or o W1) ≡ true) → few_from test o ≡ false → Differs test width
another_at test None width found many = absurd (true≢false many)
another_at test (Some w) width found many =
    let fails = failing (λ other. not (test other) || same_width other w) every_width many in
    let parts = or_false (not (test fails.0)) (same_width fails.0 w) fails.1 in
    one_of_two test fails.0 w width (not_false (test fails.0) parts.0) (found refl) (apart fails.0 w parts.1)

-- where more than one passes, one passes besides a size
another_size : (test : Width → Bool) (width : Width) → at_most_one test ≡ false → Differs test width
another_size test width many = another_at test (find test every_width) width (found_passes test every_width) many

sole_some_at : (test : Width → Bool) (o : Option Width) (w : Width) → (is_some o ≡ true → test (unwrap_or o W1) ≡ true) → sole_from test o ≡ Some w → (test w ≡ true) × ((v : Width) → test v ≡ true → v ≡ w)
sole_some_at test None w found is = absurd (none-some w is)
sole_some_at test (Some x) w found is =
    let parts = if_some (no_other test x) (Some x) w is in
    let e : x ≡ w = same_Some x w parts.1 in
    (ap test (sym e) ∙ found refl, λ v passes. other_is test x v parts.0 passes ∙ e)

-- the only one passes, and no other does
pub sole_some : (test : Width → Bool) (w : Width) → sole test ≡ Some w → (test w ≡ true) × ((v : Width) → test v ≡ true → v ≡ w)
sole_some test w is = sole_some_at test (find test every_width) w (found_passes test every_width) is

sole_none_at : (test : Width → Bool) (o : Option Width) (width : Width) → is_some o ≡ true → (is_some o ≡ true → test (unwrap_or o W1) ≡ true) → sole_from test o ≡ None → Differs test width
sole_none_at test None width some found is = absurd (false≢true some)
sole_none_at test (Some x) width some found is =
    ⊎_elim
    (λ alone. absurd (none-some x (sym is ∙ ap (λ b. cond b (Some x) None) alone)))
    (λ many. another_at test (Some x) width found many)
    (cases_Bool (no_other test x))

-- where there is no only one, another passes besides each that does
pub sole_none : (test : Width → Bool) (width : Width) → sole test ≡ None → test width ≡ true → Differs test width
sole_none test width is passes = sole_none_at test (find test every_width) width (least_found test width passes).0 (found_passes test every_width) is

-- ---- opcodes

held_by : (out : Option Width) (inputs : List OpInput) (allows : Width → Bool) (u v r : Width) → is_determined out inputs allows ≡ true → (is_some out && first_is_unsized inputs) ≡ false → same_width (size_at out u) r ≡ true → same_width (size_at out v) r ≡ true
    → map (λ input. size_at input.kind.size u) inputs ≡ map (λ input. size_at input.kind.size v) inputs
held_by None inputs allows u v r h fixed first second = ap (λ w. map (λ input. size_at input.kind.size w) inputs) (same_width-same u r first ∙ sym (same_width-same v r second))
held_by (Some size) [] allows u v r h fixed first second = refl
held_by (Some size) (input ∷ rest) allows u v r h fixed first second =
    ⊎_elim
    (λ free. absurd (false≢true (sym fixed ∙ free)))
    (λ sized. sized_sources (input ∷ rest) u v (and_parts (all_sized (input ∷ rest)) (list_all allows every_width) sized).0)
    (or_cases (is_none input.kind.size) (all_sized (input ∷ rest) && list_all allows every_width) h)

-- the result of an opcode that is not free tells the sizes of its sources
held : (op : Op) (u v r : Width) → is_free op ≡ false → same_width (result_width op u) r ≡ true → same_width (result_width op v) r ≡ true → source_widths op u ≡ source_widths op v
unfolding is_free source_widths result_width
held op u v r fixed first second = held_by (op_info op).out.size (op_info op).inputs (op_allows op) u v r (determined op) fixed first second

fixed_result : (out : Option Width) (u v : Width) → is_some out ≡ true → size_at out u ≡ size_at out v
fixed_result None u v h = absurd (false≢true h)
fixed_result (Some size) u v h = refl

free_result : (op : Op) (u v : Width) → is_free op ≡ true → result_width op u ≡ result_width op v
unfolding is_free result_width
free_result op u v free = fixed_result (op_info op).out.size u v (and_parts (is_some (op_info op).out.size) (first_is_unsized (op_info op).inputs) free).0

first_source : (inputs : List OpInput) (u : Width) → first_is_unsized inputs ≡ true → (first_of (map (λ input. size_at input.kind.size u) inputs) ≡ u) × (0 < length (map (λ input. size_at input.kind.size u) inputs))
first_source [] u h = absurd (false≢true h)
first_source (input ∷ rest) u h = (unsized_at input.kind.size u h, omega arith)

-- and the first source of one that is free has the unsized size
free_first : (op : Op) (u : Width) → is_free op ≡ true → (first_of (source_widths op u) ≡ u) × (0 < length (source_widths op u))
unfolding is_free source_widths
free_first op u free = first_source (op_info op).inputs u (and_parts (is_some (op_info op).out.size) (first_is_unsized (op_info op).inputs) free).1

-- two unsized sizes at which a settled opcode works have the same sources
settled_sources : (fit : ℕ → Width → Bool) (op : Op) (args : Terms) (u v r : Width) → is_settled fit op args ≡ true → works_at fit op args u ≡ true → works_at fit op args v ≡ true → same_width (result_width op u) r ≡ true → same_width (result_width op v) r ≡ true
    → source_widths op u ≡ source_widths op v
settled_sources fit op args u v r is first second one other =
    ⊎_elim
    (λ fixed. held op u v r (not_true (is_free op) fixed) one other)
    (λ few. ap (source_widths op) (few_same (works_at fit op args) u v few first second))
    (or_cases (not (is_free op)) (at_most_one (works_at fit op args)) is)

-- ---- sizes of terms, one for each node

pub record IsFront (fit : ℕ → Width → Bool) (terms : Terms) (ends front : List Width) : Type 0 where
  pub long : length front ≡ size_of terms
  pub part : (more : List Width) → IsPart fit terms ends (front ++ more)

app_front : (fit : ℕ → Width → Bool) (op : Op) (size : Option Width) (once : Bool) (args rest : Terms) (r : Width) (ends sources a b : List Width) → has_size size r ≡ true → sizes_fit op r sources ≡ true → IsFront fit args sources a → IsFront fit rest ends b
    → IsFront fit (AppThen op size once args rest) (r ∷ ends) (r ∷ a ++ b)
app_front fit op size once args rest r ends sources a b has fits under later = record {
  long = ap suc (length-append a b ∙ ap (λ n. n + length b) under.long ∙ ap (λ n. size_of args + n) later.long);
  part = λ more.
      let whole = append_assoc a b more in
      let behind = ap (drop (size_of args)) whole ∙ drop_at a (b ++ more) (size_of args) under.long in
      app_part fit op size once args rest r ends sources ((a ++ b) ++ more) has fits
      (subst (IsPart fit args sources) (sym whole) (under.part (b ++ more)))
      (subst (IsPart fit rest ends) (sym behind) (later.part more));
}

pub least_front : (fit : ℕ → Width → Bool) (terms : Terms) (ends : List Width) → list_all has_sources (pieces terms) ≡ true → length ends ≡ terms_count terms → can fit terms ends ≡ true → IsFront fit terms ends (least fit terms ends)
least_front fit terms ends sourced long may = record {
  long = length-least fit terms ends;
  part = λ more. least_part fit terms ends more sourced long may;
}

-- what obeys, with its roots
pub with_roots : (fit : ℕ → Width → Bool) (terms : Terms) (ends widths : List Width) → IsPart fit terms ends widths → IsPart fit terms (roots terms widths) widths
with_roots fit terms ends widths part = record { obeyed = part.obeyed; rooted = refl; known = part.known }

-- an opcode's sizes, those of its sources, and those of the terms behind it
record AppParts (fit : ℕ → Width → Bool) (op : Op) (size : Option Width) (args rest : Terms) (w : Width) (widths : List Width) : Type 0 where
  has : has_size size w ≡ true
  fits : sizes_fit op w (roots args widths) ≡ true
  under : IsPart fit args (roots args widths) widths
  later : IsPart fit rest (roots rest (drop (size_of args) widths)) (drop (size_of args) widths)

app_parts : (fit : ℕ → Width → Bool) (op : Op) (size : Option Width) (once : Bool) (args rest : Terms) (ends : List Width) (w : Width) (widths : List Width) → IsPart fit (AppThen op size once args rest) ends (w ∷ widths) → AppParts fit op size args rest w widths
app_parts fit op size once args rest ends w widths part =
    let behind = drop (size_of args) widths in
    let ok = and_parts (has_size size w && sizes_fit op w (roots args widths) && obeys args widths) (obeys rest behind) part.obeyed in
    let under = and_parts (has_size size w && sizes_fit op w (roots args widths)) (obeys args widths) ok.0 in
    let own = and_parts (has_size size w) (sizes_fit op w (roots args widths)) under.0 in
    let may = and_parts (list_all (λ o. fit o.var o.width) (occurrences args widths)) (list_all (λ o. fit o.var o.width) (occurrences rest behind))
    (sym (list_all-append (λ o. fit o.var o.width) (occurrences args widths) (occurrences rest behind)) ∙ part.known) in
    record {
      has = own.0;
      fits = own.1;
      under = record { obeyed = under.1; rooted = refl; known = may.0 };
      later = record { obeyed = ok.1; rooted = refl; known = may.1 };
    }

var_rest : (fit : ℕ → Width → Bool) (var : ℕ) (constant : Bool) (size : Option Width) (cond : _) (rest : Terms) (ends : List Width) (w : Width) (widths : List Width) → IsPart fit (VarThen var constant size cond rest) ends (w ∷ widths)
    → (has_size size w ≡ true) × (fit var w ≡ true) × IsPart fit rest (roots rest widths) widths
var_rest fit var constant size cond rest ends w widths part =
    let ok = and_parts (has_size size w) (obeys rest widths) part.obeyed in
    let may = and_parts (fit var w) (list_all (λ o. fit o.var o.width) (occurrences rest widths)) part.known in
    (ok.0, may.0, record { obeyed = ok.1; rooted = refl; known = may.1 })

lit_rest : (fit : ℕ → Width → Bool) (value : _) (boolean : Bool) (rest : Terms) (ends : List Width) (w : Width) (widths : List Width) → IsPart fit (LitThen value boolean rest) ends (w ∷ widths)
    → (literal_fits value boolean w ≡ true) × IsPart fit rest (roots rest widths) widths
lit_rest fit value boolean rest ends w widths part =
    let ok = and_parts (literal_fits value boolean w) (obeys rest widths) part.obeyed in
    (ok.0, record { obeyed = ok.1; rooted = refl; known = part.known })

-- each opcode has its sources
sourced_parts : (op : Op) (size : Option Width) (once : Bool) (args rest : Terms) → list_all has_sources (pieces (AppThen op size once args rest)) ≡ true
    → ((u : Width) → length (source_widths op u) ≡ terms_count args) × (list_all has_sources (pieces args) ≡ true) × (list_all has_sources (pieces rest) ≡ true)
sourced_parts op size once args rest sourced =
    let has = and_parts (nat_eq (terms_count args) (length (op_info op).inputs)) (list_all has_sources (pieces args ++ pieces rest)) sourced in
    let have = and_parts (list_all has_sources (pieces args)) (list_all has_sources (pieces rest)) (sym (list_all-append has_sources (pieces args) (pieces rest)) ∙ has.1) in
    (λ u. source_count op u ∙ sym (eqb-true (terms_count args) (length (op_info op).inputs) has.0), have.0, have.1)

-- the unsized size of an opcode at which it works
works : (fit : ℕ → Width → Bool) (op : Op) (args : Terms) (u : Width) (widths : List Width) → size_of args ≤ length widths → op_allows op u ≡ true → source_widths op u ≡ roots args widths → IsPart fit args (roots args widths) widths → works_at fit op args u ≡ true
works fit op args u widths enough allows sources under =
    and_from (op_allows op u) (can fit args (source_widths op u)) allows (ap (can fit args) sources ∙ (least_before fit args widths enough under.obeyed under.known).0)

-- ---- settled: the roots tell the sizes

pub same_sizes : (fit : ℕ → Width → Bool) (terms : Terms) (ends xs ys : List Width) → settled fit terms ≡ true → size_of terms ≤ length xs → size_of terms ≤ length ys → IsPart fit terms ends xs → IsPart fit terms ends ys
    → take (size_of terms) xs ≡ take (size_of terms) ys
unfolding settled
same_sizes fit Nil ends xs ys is long enough first second = refl
same_sizes fit (VarThen var constant size cond rest) ends [] ys is long enough first second = absurd (omega arith)
same_sizes fit (LitThen value boolean rest) ends [] ys is long enough first second = absurd (omega arith)
same_sizes fit (AppThen op size once args rest) ends [] ys is long enough first second = absurd (omega arith)
same_sizes fit (VarThen var constant size cond rest) ends (x ∷ xs) [] is long enough first second = absurd (omega arith)
same_sizes fit (LitThen value boolean rest) ends (x ∷ xs) [] is long enough first second = absurd (omega arith)
same_sizes fit (AppThen op size once args rest) ends (x ∷ xs) [] is long enough first second = absurd (omega arith)
same_sizes fit (VarThen var constant size cond rest) ends (x ∷ xs) (y ∷ ys) is long enough first second =
    let e : x ∷ roots rest xs ≡ y ∷ roots rest ys = first.rooted ∙ sym second.rooted in
    let one = (var_rest fit var constant size cond rest ends x xs first).2 in
    let other = (var_rest fit var constant size cond rest ends y ys second).2 in
    ap (λ w. w ∷ take (size_of rest) xs) (ap first_of e)
    ∙ ap (λ l. y ∷ l) (same_sizes fit rest (roots rest xs) xs ys is (omega arith) (omega arith) one (subst (λ (l : List Width). IsPart fit rest l ys) (sym (ap (drop 1) e)) other))
same_sizes fit (LitThen value boolean rest) ends (x ∷ xs) (y ∷ ys) is long enough first second =
    let e : x ∷ roots rest xs ≡ y ∷ roots rest ys = first.rooted ∙ sym second.rooted in
    let one = (lit_rest fit value boolean rest ends x xs first).1 in
    let other = (lit_rest fit value boolean rest ends y ys second).1 in
    ap (λ w. w ∷ take (size_of rest) xs) (ap first_of e)
    ∙ ap (λ l. y ∷ l) (same_sizes fit rest (roots rest xs) xs ys is (omega arith) (omega arith) one (subst (λ (l : List Width). IsPart fit rest l ys) (sym (ap (drop 1) e)) other))
same_sizes fit (AppThen op size once args rest) ends (x ∷ xs) (y ∷ ys) is long enough first second =
    let n = size_of args in
    let m = size_of rest in
    let e : x ∷ roots rest (drop n xs) ≡ y ∷ roots rest (drop n ys) = first.rooted ∙ sym second.rooted in
    let all = and_parts (is_settled fit op args && settled fit args) (settled fit rest) is in
    let own = and_parts (is_settled fit op args) (settled fit args) all.0 in
    let one = app_parts fit op size once args rest ends x xs first in
    let other = app_parts fit op size once args rest ends y ys second in
    let u = fitting_size op x (roots args xs) one.fits in
    let v = fitting_size op y (roots args ys) other.fits in
    let enough_x : n ≤ length xs = omega arith in
    let enough_y : n ≤ length ys = omega arith in
    let left_x = length-drop n xs in
    let left_y = length-drop n ys in
    let same : source_widths op u.0 ≡ source_widths op v.0 =
    settled_sources fit op args u.0 v.0 x own.0 (works fit op args u.0 xs enough_x u.1 u.3 one.under) (works fit op args v.0 ys enough_y v.1 v.3 other.under) u.2
    (ap (same_width (result_width op v.0)) (ap first_of e) ∙ v.2) in
    let ends_args : roots args ys ≡ roots args xs = sym v.3 ∙ sym same ∙ u.3 in
    let firsts = same_sizes fit args (roots args xs) xs ys own.1 enough_x enough_y one.under (subst (λ (l : List Width). IsPart fit args l ys) ends_args other.under) in
    let seconds = same_sizes fit rest (roots rest (drop n xs)) (drop n xs) (drop n ys) all.1 (omega arith) (omega arith) one.later (subst (λ (l : List Width). IsPart fit rest l (drop n ys)) (sym (ap (drop 1) e)) other.later) in
    ap (λ w. w ∷ take (n + m) xs) (ap first_of e)
    ∙ ap (λ l. y ∷ l)
    (take-add n m xs
    ∙ ap (λ l. l ++ take m (drop n xs)) firsts
    ∙ ap (λ l. take n ys ++ l) seconds
    ∙ sym (take-add n m ys))

-- ---- not settled: other sizes have the same roots

pub record Another (fit : ℕ → Width → Bool) (terms : Terms) (widths : List Width) : Type 0 where
  pub front : List Width
  pub is : IsFront fit terms (roots terms widths) front
  pub differs : front ≡ take (size_of terms) widths → ⊥

split_same : (a b widths : List Width) (n m : ℕ) → length a ≡ n → n ≤ length widths → a ++ b ≡ take (n + m) widths → (a ≡ take n widths) × (b ≡ take m (drop n widths))
split_same a b widths n m long enough e =
    let whole : a ++ b ≡ take n widths ++ take m (drop n widths) = e ∙ take-add n m widths in
    let short = length-take-le n widths enough in (
      sym (take_at a b n long) ∙ ap (take n) whole ∙ take_at (take n widths) (take m (drop n widths)) n short,
      sym (drop_at a b n long) ∙ ap (drop n) whole ∙ drop_at (take n widths) (take m (drop n widths)) n short,
    )

-- other sizes of an opcode's sources, and of the terms behind it
app_another : (fit : ℕ → Width → Bool) (op : Op) (size : Option Width) (once : Bool) (args rest : Terms) (w : Width) (widths sources a b : List Width) → size_of args ≤ length widths → AppParts fit op size args rest w widths → sizes_fit op w sources ≡ true
    → IsFront fit args sources a → IsFront fit rest (roots rest (drop (size_of args) widths)) b
    → ((a ≡ take (size_of args) widths) → (b ≡ take (size_of rest) (drop (size_of args) widths)) → ⊥)
    → Another fit (AppThen op size once args rest) (w ∷ widths)
app_another fit op size once args rest w widths sources a b enough parts fits under later differ = record {
  front = w ∷ a ++ b;
  is = app_front fit op size once args rest w (roots rest (drop (size_of args) widths)) sources a b parts.has fits under later;
  differs = λ e.
      let same = split_same a b widths (size_of args) (size_of rest) under.long enough (ap (drop 1) e) in
      differ same.0 same.1;
}

least_rest : (fit : ℕ → Width → Bool) (terms : Terms) (widths : List Width) → list_all has_sources (pieces terms) ≡ true → size_of terms ≤ length widths → IsPart fit terms (roots terms widths) widths → IsFront fit terms (roots terms widths) (least fit terms (roots terms widths))
least_rest fit terms widths sourced enough part =
    least_front fit terms (roots terms widths) sourced (length-roots terms widths) (least_before fit terms widths enough part.obeyed part.known).0

-- at another unsized size of an opcode that is not settled
unsettled_here : (fit : ℕ → Width → Bool) (op : Op) (size : Option Width) (once : Bool) (args rest : Terms) (w : Width) (widths : List Width) → list_all has_sources (pieces (AppThen op size once args rest)) ≡ true
    → size_of args + size_of rest ≤ length widths → AppParts fit op size args rest w widths → is_settled fit op args ≡ false → Another fit (AppThen op size once args rest) (w ∷ widths)
unsettled_here fit op size once args rest w widths sourced enough parts is =
    let behind = drop (size_of args) widths in
    let left = length-drop (size_of args) widths in
    let have = sourced_parts op size once args rest sourced in
    let open_op = or_false (not (is_free op)) (at_most_one (works_at fit op args)) is in
    let free = not_false (is_free op) open_op.0 in
    let u = fitting_size op w (roots args widths) parts.fits in
    let v = another_size (works_at fit op args) u.0 open_op.1 in
    let passes = and_parts (op_allows op v.0) (can fit args (source_widths op v.0)) v.1 in
    let result = ap (λ x. same_width x w) (free_result op v.0 u.0 free) ∙ u.2 in
    let of_v = free_first op v.0 free in
    let of_u = free_first op u.0 free in
    let count = have.0 v.0 in
    let some : 0 < terms_count args = let more = of_v.1 in omega (arith, more, count) in
    app_another fit op size once args rest w widths (source_widths op v.0) (least fit args (source_widths op v.0)) (least fit rest (roots rest behind)) (omega arith) parts (sizes_fit-from op v.0 w passes.0 result)
    (least_front fit args (source_widths op v.0) have.1 count passes.1)
    (least_rest fit rest behind have.2 (omega arith) parts.later)
    (λ same _. v.2
    (sym of_v.0
    ∙ sym (least_first fit args (source_widths op v.0) some)
    ∙ ap first_of same
    ∙ take_first (size_of args) widths (some_nodes args some)
    ∙ sym (roots_first args widths some)
    ∙ ap first_of (sym u.3)
    ∙ of_u.0))

pub another : (fit : ℕ → Width → Bool) (terms : Terms) (ends widths : List Width) → list_all has_sources (pieces terms) ≡ true → size_of terms ≤ length widths → IsPart fit terms ends widths → settled fit terms ≡ false → Another fit terms widths
unfolding settled
another fit Nil ends widths sourced enough part is = absurd (true≢false is)
another fit (VarThen var constant size cond rest) ends [] sourced enough part is = absurd (omega arith)
another fit (LitThen value boolean rest) ends [] sourced enough part is = absurd (omega arith)
another fit (AppThen op size once args rest) ends [] sourced enough part is = absurd (omega arith)
another fit (VarThen var constant size cond rest) ends (w ∷ widths) sourced enough part is =
    let own = var_rest fit var constant size cond rest ends w widths part in
    let later = another fit rest (roots rest widths) widths (and_parts true (list_all has_sources (pieces rest)) sourced).1 (omega arith) own.2 is in
    record {
      front = w ∷ later.front;
      is = record { long = ap suc later.is.long; part = λ more. var_part fit var constant size cond rest w (roots rest widths) (later.front ++ more) own.0 own.1 (later.is.part more) };
      differs = λ e. later.differs (ap (drop 1) e);
    }
another fit (LitThen value boolean rest) ends (w ∷ widths) sourced enough part is =
    let own = lit_rest fit value boolean rest ends w widths part in
    let later = another fit rest (roots rest widths) widths (and_parts true (list_all has_sources (pieces rest)) sourced).1 (omega arith) own.1 is in
    record {
      front = w ∷ later.front;
      is = record { long = ap suc later.is.long; part = λ more. lit_part fit value boolean rest w (roots rest widths) (later.front ++ more) own.0 (later.is.part more) };
      differs = λ e. later.differs (ap (drop 1) e);
    }
another fit (AppThen op size once args rest) ends (w ∷ widths) sourced enough part is =
    let parts = app_parts fit op size once args rest ends w widths part in
    let behind = drop (size_of args) widths in
    let left = length-drop (size_of args) widths in
    let have = sourced_parts op size once args rest sourced in
    let enough_args : size_of args ≤ length widths = omega arith in
    let enough_rest : size_of rest ≤ length behind = omega arith in
    ⊎_elim
    (λ under. ⊎_elim
    (λ here. unsettled_here fit op size once args rest w widths sourced (omega arith) parts here)
    (λ inner.
    let other = another fit args (roots args widths) widths have.1 enough_args parts.under inner in
    app_another fit op size once args rest w widths (roots args widths) other.front (least fit rest (roots rest behind)) enough_args parts parts.fits other.is
    (least_rest fit rest behind have.2 enough_rest parts.later) (λ same _. other.differs same))
    (and_false (is_settled fit op args) (settled fit args) under))
    (λ later.
    let other = another fit rest (roots rest behind) behind have.2 enough_rest parts.later later in
    app_another fit op size once args rest w widths (roots args widths) (least fit args (roots args widths)) other.front enough_args parts parts.fits
    (least_rest fit args widths have.1 enough_args parts.under) other.is (λ _ same. other.differs same))
    (and_false (is_settled fit op args && settled fit args) (settled fit rest) is)
