-- The least sizes of terms obey what is asked of them where terms can have their roots, and none that obey stand before them.
use Rattle.op_eval.specs.Sizes.{same_width-refl, same_width-same}
use Rattle.std.specs.Prelude.{◌≡◌, refl, ◌≤◌, ◌<◌, ◌+◌, ℕ, zero, suc, Bool, true, ◌&&◌, Option, List, [], ◌∷◌, ◌++◌, length, nat_eq, nat_lt, is_some}
use Rattle.std.proofs.Common.{◌∙◌, ap, sym, subst, arith, take, drop, ⊎_elim, append_assoc}
use Rattle.std.proofs.lemmas.Bool.{and_parts, and_from, or_right, eqb-true, eq-eqb, cases_order}
use Rattle.std.proofs.lemmas.List.{length-drop, length-take-le, drop_at}
use Rattle.std.proofs.lemmas.List.Folds.{list_all-append}
use Rattle.std.proofs.Math.Seq.{take-add}
use Rattle.std.specs.List.{find, list_all}
use Rattle.nir_ops.specs.declared.op.Op.{Op}
use Rattle.nir_ops.specs.declared.width.Width.{Width}
use Rattle.nir_ops.specs.Width.{width_bits}
use Rattle.nir_ops.specs.Opcodes.{op_allows, op_info}
use Rattle.op_eval.specs.Calls.{result_width, same_width, sizes_fit, source_widths}
use Rattle.rule_term.specs.Terms.{Terms, Nil, VarThen, LitThen, AppThen}
use Rattle.rule_term.specs.Pieces.{pieces, terms_count}
use Rattle.rule_term.specs.Splits.{length-roots}
use Rattle.rule_term.specs.EightBitLaws.{has_sources}
use Rattle.rule_term.specs.Typings.{size_of, first_of, roots, obeys, has_size, literal_fits, occurrences}
use Rattle.rule_term.specs.ReplaceLeast.{every_width, can, is_unsized_for, least, unsized_for}
use Rattle.rule_term.proofs.ReplaceFirst.{not_after, not_after-append, not_after-first}
use Rattle.rule_term.proofs.ReplaceRoots.{length-least}
use Rattle.rule_term.proofs.ReplaceSizes.{fitting_size, found_passes, least_found, ordered_sources, sizes_fit-from, source_count}

-- what holds of sizes of terms where each variable may have its size
pub record IsPart (fit : ℕ → Width → Bool) (terms : Terms) (ends widths : List Width) : Type 0 where
  pub obeyed : obeys terms widths ≡ true
  pub rooted : roots terms widths ≡ ends
  pub known : list_all (λ o. fit o.var o.width) (occurrences terms widths) ≡ true

pub var_part : (fit : ℕ → Width → Bool) (var : ℕ) (constant : Bool) (size : Option Width) (cond : _) (rest : Terms) (r : Width) (ends widths : List Width) → has_size size r ≡ true → fit var r ≡ true → IsPart fit rest ends widths → IsPart fit (VarThen var constant size cond rest) (r ∷ ends) (r ∷ widths)
var_part fit var constant size cond rest r ends widths has may later = record {
  obeyed = and_from (has_size size r) (obeys rest widths) has later.obeyed;
  rooted = ap (λ l. r ∷ l) later.rooted;
  known = and_from (fit var r) (list_all (λ o. fit o.var o.width) (occurrences rest widths)) may later.known;
}

pub lit_part : (fit : ℕ → Width → Bool) (value : _) (boolean : Bool) (rest : Terms) (r : Width) (ends widths : List Width) → literal_fits value boolean r ≡ true → IsPart fit rest ends widths → IsPart fit (LitThen value boolean rest) (r ∷ ends) (r ∷ widths)
lit_part fit value boolean rest r ends widths fits later = record {
  obeyed = and_from (literal_fits value boolean r) (obeys rest widths) fits later.obeyed;
  rooted = ap (λ l. r ∷ l) later.rooted;
  known = later.known;
}

pub app_part : (fit : ℕ → Width → Bool) (op : Op) (size : Option Width) (once : Bool) (args rest : Terms) (r : Width) (ends sources widths : List Width) → has_size size r ≡ true → sizes_fit op r sources ≡ true → IsPart fit args sources widths → IsPart fit rest ends (drop (size_of args) widths) → IsPart fit (AppThen op size once args rest) (r ∷ ends) (r ∷ widths)
app_part fit op size once args rest r ends sources widths has fits under later =
    let behind = drop (size_of args) widths in
    record {
      obeyed = and_from (has_size size r && sizes_fit op r (roots args widths) && obeys args widths) (obeys rest behind)
          (and_from (has_size size r && sizes_fit op r (roots args widths)) (obeys args widths)
          (and_from (has_size size r) (sizes_fit op r (roots args widths)) has (ap (sizes_fit op r) under.rooted ∙ fits)) under.obeyed)
          later.obeyed;
      rooted = ap (λ l. r ∷ l) later.rooted;
      known = list_all-append (λ o. fit o.var o.width) (occurrences args widths) (occurrences rest behind)
          ∙ and_from (list_all (λ o. fit o.var o.width) (occurrences args widths)) (list_all (λ o. fit o.var o.width) (occurrences rest behind)) under.known later.known;
    }

nothing_left : (fit : ℕ → Width → Bool) (ends widths : List Width) → length ends ≡ 0 → IsPart fit Nil ends widths
nothing_left fit [] widths none = record { obeyed = refl; rooted = refl; known = refl }
nothing_left fit (r ∷ ends) widths none = absurd (omega arith)

-- the least sizes are sizes of the terms
pub least_part : (fit : ℕ → Width → Bool) (terms : Terms) (ends more : List Width) → list_all has_sources (pieces terms) ≡ true → length ends ≡ terms_count terms → can fit terms ends ≡ true → IsPart fit terms ends (least fit terms ends ++ more)
unfolding can least
least_part fit Nil ends more sourced long may = nothing_left fit ends more long
least_part fit (VarThen var constant size cond rest) [] more sourced long may = absurd (omega arith)
least_part fit (LitThen value boolean rest) [] more sourced long may = absurd (omega arith)
least_part fit (AppThen op size once args rest) [] more sourced long may = absurd (omega arith)
least_part fit (VarThen var constant size cond rest) (r ∷ ends) more sourced long may =
    let parts = and_parts (has_size size r && fit var r) (can fit rest ends) may in
    let own = and_parts (has_size size r) (fit var r) parts.0 in
    var_part fit var constant size cond rest r ends (least fit rest ends ++ more) own.0 own.1
    (least_part fit rest ends more (and_parts true (list_all has_sources (pieces rest)) sourced).1 (omega arith) parts.1)
least_part fit (LitThen value boolean rest) (r ∷ ends) more sourced long may =
    let parts = and_parts (literal_fits value boolean r) (can fit rest ends) may in
    lit_part fit value boolean rest r ends (least fit rest ends ++ more) parts.0
    (least_part fit rest ends more (and_parts true (list_all has_sources (pieces rest)) sourced).1 (omega arith) parts.1)
least_part fit (AppThen op size once args rest) (r ∷ ends) more sourced long may =
    let test = is_unsized_for fit op args r in
    let free = unsized_for fit op args r in
    let sources = source_widths op free in
    let first = least fit args sources in
    let second = least fit rest ends in
    let parts = and_parts (has_size size r && is_some (find test every_width)) (can fit rest ends) may in
    let own = and_parts (has_size size r) (is_some (find test every_width)) parts.0 in
    let passes = and_parts (op_allows op free && can fit args sources) (same_width (result_width op free) r) (found_passes test every_width own.1) in
    let works = and_parts (op_allows op free) (can fit args sources) passes.0 in
    let has = and_parts (nat_eq (terms_count args) (length (op_info op).inputs)) (list_all has_sources (pieces args ++ pieces rest)) sourced in
    let have = and_parts (list_all has_sources (pieces args)) (list_all has_sources (pieces rest)) (sym (list_all-append has_sources (pieces args) (pieces rest)) ∙ has.1) in
    let count : length sources ≡ terms_count args = source_count op free ∙ sym (eqb-true (terms_count args) (length (op_info op).inputs) has.0) in
    let whole = append_assoc first second more in
    let behind = ap (drop (size_of args)) whole ∙ drop_at first (second ++ more) (size_of args) (length-least fit args sources) in
    app_part fit op size once args rest r ends sources ((first ++ second) ++ more) own.0 (sizes_fit-from op free r works.0 passes.1)
    (subst (IsPart fit args sources) (sym whole) (least_part fit args sources (second ++ more) have.0 count works.1))
    (subst (IsPart fit rest ends) (sym behind) (least_part fit rest ends more have.1 (omega arith) parts.1))

-- no sizes stand before those with the same first and before none behind it
same_head : (w : Width) (a b : List Width) → not_after a b ≡ true → not_after (w ∷ a) (w ∷ b) ≡ true
same_head w a b h = or_right (nat_lt (width_bits w) (width_bits w)) (same_width w w && not_after a b) (and_from (same_width w w) (not_after a b) (same_width-refl w) h)

pub some_nodes : (terms : Terms) → 0 < terms_count terms → 0 < size_of terms
some_nodes Nil some = absurd (omega arith)
some_nodes (VarThen var constant size cond rest) some = omega arith
some_nodes (LitThen value boolean rest) some = omega arith
some_nodes (AppThen op size once args rest) some = omega arith

pub least_first : (fit : ℕ → Width → Bool) (terms : Terms) (ends : List Width) → 0 < terms_count terms → first_of (least fit terms ends) ≡ first_of ends
unfolding least
least_first fit Nil ends some = absurd (omega arith)
least_first fit (VarThen var constant size cond rest) ends some = refl
least_first fit (LitThen value boolean rest) ends some = refl
least_first fit (AppThen op size once args rest) ends some = refl

pub roots_first : (terms : Terms) (widths : List Width) → 0 < terms_count terms → first_of (roots terms widths) ≡ first_of widths
roots_first Nil widths some = absurd (omega arith)
roots_first (VarThen var constant size cond rest) widths some = refl
roots_first (LitThen value boolean rest) widths some = refl
roots_first (AppThen op size once args rest) widths some = refl

pub take_first : (n : ℕ) (widths : List Width) → 0 < n → first_of (take n widths) ≡ first_of widths
take_first zero widths some = absurd (omega arith)
take_first (suc n) [] some = refl
take_first (suc n) (w ∷ widths) some = refl

-- under an opcode, sizes at the least unsized size stand before those at another
under_first : (fit : ℕ → Width → Bool) (op : Op) (args : Terms) (u v r : Width) (widths : List Width) → size_of args ≤ length widths → same_width (result_width op u) r ≡ true → same_width (result_width op v) r ≡ true → width_bits u ≤ width_bits v → source_widths op v ≡ roots args widths
    → not_after (least fit args (roots args widths)) (take (size_of args) widths) ≡ true → not_after (least fit args (source_widths op u)) (take (size_of args) widths) ≡ true
under_first fit op args u v r widths enough first second low sources known =
    let same : source_widths op u ≡ source_widths op v → not_after (least fit args (source_widths op u)) (take (size_of args) widths) ≡ true = λ e. ap (λ l. not_after (least fit args l) (take (size_of args) widths)) (e ∙ sources) ∙ known in
    ⊎_elim
    same
    (λ free.
    let count = ap length sources ∙ length-roots args widths in
    let left = source_count op u in
    let right = source_count op v in
    let filled = free.2 in
    let some : 0 < terms_count args = omega (arith, count, left, right, filled) in
    let nodes = some_nodes args some in
    let long = length-least fit args (source_widths op u) in
    let short = length-take-le (size_of args) widths enough in
    let begins = least_first fit args (source_widths op u) some ∙ free.0 in
    let other = take_first (size_of args) widths nodes ∙ sym (roots_first args widths some) ∙ ap first_of (sym sources) ∙ free.1 in
    ⊎_elim
    (λ equal. same (ap (source_widths op) (same_width-same u v (eq-eqb (width_bits u) (width_bits v) equal))))
    (λ apart. not_after-first (least fit args (source_widths op u)) (take (size_of args) widths) (omega (arith, long, nodes)) (omega (arith, short, nodes))
    (let less : width_bits u < width_bits v = ⊎_elim (λ below. below) (λ above. absurd (omega (arith, above, low))) apart in
    subst (λ (w : Width). width_bits w < width_bits (first_of (take (size_of args) widths))) (sym begins) (subst (λ (w : Width). width_bits u < width_bits w) (sym other) less)))
    (cases_order (width_bits u) (width_bits v)))
    (ordered_sources op u v r first second)

-- sizes that obey have roots that the terms can have, and do not stand before the least
pub least_before : (fit : ℕ → Width → Bool) (terms : Terms) (widths : List Width) → size_of terms ≤ length widths → obeys terms widths ≡ true → list_all (λ o. fit o.var o.width) (occurrences terms widths) ≡ true
    → (can fit terms (roots terms widths) ≡ true) × (not_after (least fit terms (roots terms widths)) (take (size_of terms) widths) ≡ true)
unfolding can least
least_before fit Nil widths enough obeyed known = (refl, refl)
least_before fit (VarThen var constant size cond rest) [] enough obeyed known = absurd (omega arith)
least_before fit (LitThen value boolean rest) [] enough obeyed known = absurd (omega arith)
least_before fit (AppThen op size once args rest) [] enough obeyed known = absurd (omega arith)
least_before fit (VarThen var constant size cond rest) (w ∷ widths) enough obeyed known =
    let ok = and_parts (has_size size w) (obeys rest widths) obeyed in
    let may = and_parts (fit var w) (list_all (λ o. fit o.var o.width) (occurrences rest widths)) known in
    let later = least_before fit rest widths (omega arith) ok.1 may.1 in (
      and_from (has_size size w && fit var w) (can fit rest (roots rest widths)) (and_from (has_size size w) (fit var w) ok.0 may.0) later.0,
      same_head w (least fit rest (roots rest widths)) (take (size_of rest) widths) later.1,
    )
least_before fit (LitThen value boolean rest) (w ∷ widths) enough obeyed known =
    let ok = and_parts (literal_fits value boolean w) (obeys rest widths) obeyed in
    let later = least_before fit rest widths (omega arith) ok.1 known in (
      and_from (literal_fits value boolean w) (can fit rest (roots rest widths)) ok.0 later.0,
      same_head w (least fit rest (roots rest widths)) (take (size_of rest) widths) later.1,
    )
least_before fit (AppThen op size once args rest) (w ∷ widths) enough obeyed known =
    let behind = drop (size_of args) widths in
    let test = is_unsized_for fit op args w in
    let free = unsized_for fit op args w in
    let ok = and_parts (has_size size w && sizes_fit op w (roots args widths) && obeys args widths) (obeys rest behind) obeyed in
    let under = and_parts (has_size size w && sizes_fit op w (roots args widths)) (obeys args widths) ok.0 in
    let own = and_parts (has_size size w) (sizes_fit op w (roots args widths)) under.0 in
    let may = and_parts (list_all (λ o. fit o.var o.width) (occurrences args widths)) (list_all (λ o. fit o.var o.width) (occurrences rest behind))
    (sym (list_all-append (λ o. fit o.var o.width) (occurrences args widths) (occurrences rest behind)) ∙ known) in
    let left = length-drop (size_of args) widths in
    let first = least_before fit args widths (omega arith) under.1 may.0 in
    let second = least_before fit rest behind (omega arith) ok.1 may.1 in
    let at = fitting_size op w (roots args widths) own.1 in
    let passes = and_from (op_allows op at.0 && can fit args (source_widths op at.0)) (same_width (result_width op at.0) w)
    (and_from (op_allows op at.0) (can fit args (source_widths op at.0)) at.1 (ap (can fit args) at.3 ∙ first.0)) at.2 in
    let found = least_found test at.0 passes in
    let works = and_parts (op_allows op free && can fit args (source_widths op free)) (same_width (result_width op free) w) found.1 in
    let before = under_first fit op args free at.0 w widths (omega arith) works.1 at.2 found.2 at.3 first.1 in
    let long = length-least fit args (source_widths op free) in
    let short = length-take-le (size_of args) widths (omega arith) in
    let list = least fit args (source_widths op free) in
    let others = least fit rest (roots rest behind) in (
      and_from (has_size size w && is_some (find test every_width)) (can fit rest (roots rest behind)) (and_from (has_size size w) (is_some (find test every_width)) own.0 found.0) second.0,
      same_head w (list ++ others) (take (size_of args + size_of rest) widths)
          (ap (not_after (list ++ others)) (take-add (size_of args) (size_of rest) widths)
          ∙ not_after-append list (take (size_of args) widths) others (take (size_of rest) behind) (long ∙ sym short) before second.1),
    )
