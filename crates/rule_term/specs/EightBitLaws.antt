-- A rule that stands at 8 bits alone has one typing, with 8 bits for each node, and holds where its sides are equal there.
use Rattle.op_eval.specs.Sizes.{Fits-from_sizes_fit, same_width-refl, same_width-replicate, same_width-same, same_widths-refl}
use Rattle.std.specs.Prelude.{◌≡◌, refl, ◌≤◌, ◌+◌, ◌-◌, ℕ, zero, suc, ℤ, Bool, true, false, not, ◌&&◌, Option, Some, None, List, [], ◌∷◌, ◌++◌, length, replicate, is_none, map, nat_eq}
use Rattle.std.proofs.Common.{sym, ◌∙◌, ap, subst, take, drop, arith, ⊎_elim}
use Rattle.std.proofs.lemmas.Bool.{and_parts, and_from, or_cases, or_right, false≢true, eqb-true}
use Rattle.std.proofs.lemmas.List.{length-drop, length-replicate, replicate-append-replicate, take-replicate, drop-replicate, take_all, take-append-drop, length-take-le}
use Rattle.std.proofs.lemmas.List.Folds.{list_all-append, list_any-append}
use Rattle.std.proofs.Math.Seq.{take-add}
use Rattle.std.proofs.Math.Nat.{suc_inj, add-sub_cancel_left}
use Rattle.std.specs.List.{list_all, list_any}
use Rattle.std.specs.Cmp.Lexicographic.{pointwise}
use Rattle.nir_ops.specs.declared.op.Op.{Op}
use Rattle.nir_ops.specs.declared.row.OpInput.{OpInput}
use Rattle.nir_ops.specs.declared.width.Width.{Width}
use Rattle.nir_ops.specs.declared.width.Width.TheVariants.{W8}
use Rattle.nir_ops.specs.Opcodes.{op_info, op_allows}
use Rattle.op_eval.specs.Calls.{result_width, same_width, size_at, sizes_fit, source_widths, unsized_of, unsized_width}
use Rattle.rule_term.specs.Terms.{Terms, Nil, VarThen, LitThen, AppThen}
use Rattle.rule_term.specs.Pieces.{Piece, VarPiece, LitPiece, AppPiece, pieces, terms_count}
use Rattle.rule_term.specs.Rule.{Rule}
use Rattle.rule_term.specs.Formed.{IsFormed, may_stand, literal_formed, search_piece_formed, replace_piece_formed}
use Rattle.rule_term.specs.Typings.{size_of, first_of, roots, obeys, has_size, literal_fits, Occurrence, occurrences, alike, search_part, replace_part, is_typing}
use Rattle.rule_term.specs.Holds.{EqualAt, Holds}
use Rattle.rule_term.specs.Typed.{IsTyped-from_is_typing, is_typing-from_IsTyped}
use Rattle.rule_term.specs.EightBit.{is_unsized, eight_or_none, is_eight, eight_piece, asks_eight, is_eight_bit, all_eight}

-- what no size of its own means for a source, and for the result
size_at-none : (size : Option Width) (width : Width) → is_none size ≡ true → size_at size width ≡ width
size_at-none None width h = refl
size_at-none (Some size) width h = absurd (false≢true h)

unsized_of-none : (size : Option Width) (dst : Width) (widths : List Width) → is_none size ≡ true → unsized_of size dst widths ≡ dst
unsized_of-none None dst widths h = refl
unsized_of-none (Some size) dst widths h = absurd (false≢true h)

sources-none : (inputs : List OpInput) (width : Width) → list_all (λ input. is_none input.kind.size) inputs ≡ true → map (λ input. size_at input.kind.size width) inputs ≡ replicate (length inputs) width
sources-none [] width h = refl
sources-none (input ∷ inputs) width h =
    let parts = and_parts (is_none input.kind.size) (list_all (λ input. is_none input.kind.size) inputs) h in
    ap (λ x. x ∷ map (λ input. size_at input.kind.size width) inputs) (size_at-none input.kind.size width parts.0) ∙ ap (λ t. width ∷ t) (sources-none inputs width parts.1)

-- an opcode without sizes of its own, at any size of its result
pub record IsOneSize (op : Op) (dst : Width) : Type 0 where
  pub allowed : op_allows op W8 ≡ true
  pub unsized : (widths : List Width) → unsized_width op dst widths ≡ dst
  pub result : result_width op dst ≡ dst
  pub sources : source_widths op dst ≡ replicate (length (op_info op).inputs) dst

pub one_size : (op : Op) (dst : Width) → is_unsized op ≡ true → IsOneSize op dst
unfolding is_unsized unsized_width result_width source_widths
one_size op dst h =
    let outer = and_parts _ _ h in
    let inner = and_parts _ _ outer.0 in
    record {
      allowed = inner.0;
      unsized = λ widths. unsized_of-none (op_info op).out.size dst widths inner.1;
      result = size_at-none (op_info op).out.size dst inner.1;
      sources = sources-none (op_info op).inputs dst outer.1;
    }

-- its sources have the size of its result
sources_of_one_size : (op : Op) (dst : Width) (widths : List Width) → is_unsized op ≡ true → sizes_fit op dst widths ≡ true → list_all (same_width dst) widths ≡ true
sources_of_one_size op dst widths h fit =
    let one = one_size op dst h in
    let fits = Fits-from_sizes_fit op dst widths fit in
    let are : replicate (length (op_info op).inputs) dst ≡ widths = sym one.sources ∙ ap (source_widths op) (sym (one.unsized widths)) ∙ fits.sources in
    subst (λ (l : List Width). list_all (same_width dst) l ≡ true) are (same_width-replicate (length (op_info op).inputs) dst)

-- where the roots of a chain have one size, all its nodes have it
uniform : (terms : Terms) (widths : List Width) (width : Width) → size_of terms ≤ length widths → list_all eight_piece (pieces terms) ≡ true → obeys terms widths ≡ true → list_all (same_width width) (roots terms widths) ≡ true → take (size_of terms) widths ≡ replicate (size_of terms) width
uniform Nil widths width enough eight obeyed same = refl
uniform (VarThen var constant size cond rest) [] width enough eight obeyed same = absurd (omega arith)
uniform (LitThen value boolean rest) [] width enough eight obeyed same = absurd (omega arith)
uniform (AppThen op size once args rest) [] width enough eight obeyed same = absurd (omega arith)
uniform (VarThen var constant size cond rest) (x ∷ widths) width enough eight obeyed same =
    let here = and_parts (same_width width x) (list_all (same_width width) (roots rest widths)) same in
    let ok = and_parts (has_size size x) (obeys rest widths) obeyed in
    let all = and_parts (eight_or_none size) (list_all eight_piece (pieces rest)) eight in
    ap (λ y. y ∷ take (size_of rest) widths) (sym (same_width-same width x here.0)) ∙ ap (λ t. width ∷ t) (uniform rest widths width (omega arith) all.1 ok.1 here.1)
uniform (LitThen value boolean rest) (x ∷ widths) width enough eight obeyed same =
    let here = and_parts (same_width width x) (list_all (same_width width) (roots rest widths)) same in
    let ok = and_parts (literal_fits value boolean x) (obeys rest widths) obeyed in
    let all = and_parts (eight_piece (LitPiece value boolean)) (list_all eight_piece (pieces rest)) eight in
    ap (λ y. y ∷ take (size_of rest) widths) (sym (same_width-same width x here.0)) ∙ ap (λ t. width ∷ t) (uniform rest widths width (omega arith) all.1 ok.1 here.1)
uniform (AppThen op size once args rest) (x ∷ widths) width enough eight obeyed same =
    let behind = drop (size_of args) widths in
    let here = and_parts (same_width width x) (list_all (same_width width) (roots rest behind)) same in
    let own : width ≡ x = same_width-same width x here.0 in
    let ok = and_parts (has_size size x && sizes_fit op x (roots args widths) && obeys args widths) (obeys rest behind) obeyed in
    let under = and_parts (has_size size x && sizes_fit op x (roots args widths)) (obeys args widths) ok.0 in
    let fit = and_parts (has_size size x) (sizes_fit op x (roots args widths)) under.0 in
    let all = and_parts (is_unsized op && eight_or_none size) (list_all eight_piece (pieces args ++ pieces rest)) eight in
    let parts = and_parts (list_all eight_piece (pieces args)) (list_all eight_piece (pieces rest)) (sym (list_all-append eight_piece (pieces args) (pieces rest)) ∙ all.1) in
    let unsized = (and_parts (is_unsized op) (eight_or_none size) all.0).0 in
    let sources = subst (λ (w : Width). list_all (same_width w) (roots args widths) ≡ true) (sym own) (sources_of_one_size op x (roots args widths) unsized fit.1) in
    let left = length-drop (size_of args) widths in
    let first = uniform args widths width (omega arith) parts.0 under.1 sources in
    let second = uniform rest behind width (omega arith) parts.1 ok.1 here.1 in
    ap (λ y. y ∷ take (size_of args + size_of rest) widths) (sym own)
    ∙ ap (λ t. width ∷ t)
    (take-add (size_of args) (size_of rest) widths
    ∙ ap (λ l. l ++ take (size_of rest) behind) first
    ∙ ap (λ l. replicate (size_of args) width ++ l) second
    ∙ replicate-append-replicate (size_of args) (size_of rest) width)

-- one term has one root
no_roots : (terms : Terms) (widths : List Width) → terms_count terms ≡ 0 → roots terms widths ≡ []
no_roots Nil widths none = refl
no_roots (VarThen var constant size cond rest) widths none = absurd (omega arith)
no_roots (LitThen value boolean rest) widths none = absurd (omega arith)
no_roots (AppThen op size once args rest) widths none = absurd (omega arith)

pub one_root : (terms : Terms) (widths : List Width) → terms_count terms ≡ 1 → roots terms widths ≡ first_of widths ∷ []
one_root Nil widths one = absurd (omega arith)
one_root (VarThen var constant size cond rest) widths one = ap (λ t. first_of widths ∷ t) (no_roots rest (drop 1 widths) (suc_inj one))
one_root (LitThen value boolean rest) widths one = ap (λ t. first_of widths ∷ t) (no_roots rest (drop 1 widths) (suc_inj one))
one_root (AppThen op size once args rest) widths one = ap (λ t. first_of widths ∷ t) (no_roots rest (drop (suc (size_of args)) widths) (suc_inj one))

some_nodes : (terms : Terms) → terms_count terms ≡ 1 → 1 ≤ size_of terms
some_nodes Nil one = absurd (omega arith)
some_nodes (VarThen var constant size cond rest) one = omega arith
some_nodes (LitThen value boolean rest) one = omega arith
some_nodes (AppThen op size once args rest) one = omega arith

-- the sizes of one term are all that of its root
uniform_term : (terms : Terms) (widths : List Width) → terms_count terms ≡ 1 → length widths ≡ size_of terms → list_all eight_piece (pieces terms) ≡ true → obeys terms widths ≡ true → widths ≡ replicate (size_of terms) (first_of widths)
uniform_term terms widths one count eight obeyed =
    let root = subst (λ (l : List Width). list_all (same_width (first_of widths)) l ≡ true) (sym (one_root terms widths one)) (and_from (same_width (first_of widths) (first_of widths)) true (same_width-refl (first_of widths)) refl) in
    sym (take_all (size_of terms) widths (omega arith)) ∙ uniform terms widths (first_of widths) (omega arith) eight obeyed root

-- a variable that asks for 8 bits has them, where all nodes have one size
asked_size : (size : Option Width) (width : Width) → is_eight size ≡ true → has_size size width ≡ true → width ≡ W8
asked_size None width ask has = absurd (false≢true ask)
asked_size (Some size) width ask has = sym (same_width-same size width has) ∙ same_width-same size W8 ask

asked : (terms : Terms) (n : ℕ) (width : Width) → size_of terms ≤ n → list_any asks_eight (pieces terms) ≡ true → obeys terms (replicate n width) ≡ true → width ≡ W8
asked Nil n width enough ask obeyed = absurd (false≢true ask)
asked (VarThen var constant size cond rest) zero width enough ask obeyed = absurd (omega arith)
asked (LitThen value boolean rest) zero width enough ask obeyed = absurd (omega arith)
asked (AppThen op size once args rest) zero width enough ask obeyed = absurd (omega arith)
asked (VarThen var constant size cond rest) (suc n) width enough ask obeyed =
    let ok = and_parts (has_size size width) (obeys rest (replicate n width)) obeyed in
    ⊎_elim
    (λ here. asked_size size width here ok.0)
    (λ later. asked rest n width (omega arith) later ok.1)
    (or_cases (is_eight size) (list_any asks_eight (pieces rest)) ask)
asked (LitThen value boolean rest) (suc n) width enough ask obeyed =
    asked rest n width (omega arith) ask (and_parts (literal_fits value boolean width) (obeys rest (replicate n width)) obeyed).1
asked (AppThen op size once args rest) (suc n) width enough ask obeyed =
    let sizes = replicate n width in
    let behind = drop (size_of args) sizes in
    let ok = and_parts (has_size size width && sizes_fit op width (roots args sizes) && obeys args sizes) (obeys rest behind) obeyed in
    let under = and_parts (has_size size width && sizes_fit op width (roots args sizes)) (obeys args sizes) ok.0 in
    ⊎_elim
    (λ first. asked args n width (omega arith) first under.1)
    (λ second. asked rest (n - size_of args) width (omega arith) second (subst (λ (l : List Width). obeys rest l ≡ true) (drop-replicate (size_of args) n width) ok.1))
    (or_cases (list_any asks_eight (pieces args)) (list_any asks_eight (pieces rest)) (sym (list_any-append asks_eight (pieces args) (pieces rest)) ∙ ask))

-- what a rule that stands at 8 bits alone asks of its sides
pub record IsEight (rule : Rule) : Type 0 where
  pub search : list_all eight_piece (pieces rule.search) ≡ true
  pub replace : list_all eight_piece (pieces rule.replace) ≡ true
  pub asked : list_any asks_eight (pieces rule.search) ≡ true

pub IsEight-from_is_eight_bit : (rule : Rule) → is_eight_bit rule ≡ true → IsEight rule
unfolding is_eight_bit
IsEight-from_is_eight_bit rule h =
    let outer = and_parts _ _ h in
    let inner = and_parts _ _ outer.0 in
    record { search = inner.0; replace = inner.1; asked = outer.1 }

-- where all opcodes are without sizes of their own, all nodes of a typing have the size of the root
pub one_size_typing : (rule : Rule) → IsFormed rule → list_all eight_piece (pieces rule.search) ≡ true → list_all eight_piece (pieces rule.replace) ≡ true → (widths : List Width)
    → is_typing rule widths ≡ true → widths ≡ replicate (size_of rule.search + size_of rule.replace) (first_of (search_part rule widths))
one_size_typing rule formed search replace widths typing =
    let typed = IsTyped-from_is_typing rule widths typing in
    let whole = typed.count in
    let long = length-take-le (size_of rule.search) widths (omega arith) in
    let left = length-drop (size_of rule.search) widths in
    let width = first_of (search_part rule widths) in
    let searched : search_part rule widths ≡ replicate (size_of rule.search) width = uniform_term rule.search (search_part rule widths) formed.one_search long search typed.search in
    let replaced : replace_part rule widths ≡ replicate (size_of rule.replace) (first_of (replace_part rule widths)) = uniform_term rule.replace (replace_part rule widths) formed.one_replace (omega arith) replace typed.replace in
    let ends = same_width-same width (first_of (replace_part rule widths)) typed.roots in
    sym (take-append-drop (size_of rule.search) widths)
    ∙ ap (λ l. l ++ replace_part rule widths) searched
    ∙ ap (λ l. replicate (size_of rule.search) width ++ l) (replaced ∙ ap (replicate (size_of rule.replace)) (sym ends))
    ∙ replicate-append-replicate (size_of rule.search) (size_of rule.replace) width

-- 8 bits for each node is the one typing
pub eight_typing : (rule : Rule) → IsFormed rule → is_eight_bit rule ≡ true → (widths : List Width) → is_typing rule widths ≡ true → widths ≡ all_eight rule
eight_typing rule formed eight widths typing =
    let parts = IsEight-from_is_eight_bit rule eight in
    let typed = IsTyped-from_is_typing rule widths typing in
    let whole = typed.count in
    let long = length-take-le (size_of rule.search) widths (omega arith) in
    let width = first_of (search_part rule widths) in
    let searched : search_part rule widths ≡ replicate (size_of rule.search) width = uniform_term rule.search (search_part rule widths) formed.one_search long parts.search typed.search in
    let is_eight_wide = asked rule.search (size_of rule.search) width (omega arith) parts.asked (subst (λ (l : List Width). obeys rule.search l ≡ true) searched typed.search) in
    one_size_typing rule formed parts.search parts.replace widths typing ∙ ap (replicate (size_of rule.search + size_of rule.replace)) is_eight_wide

-- as many roots of the size of all nodes as there are terms
roots-replicate : (terms : Terms) (n : ℕ) (width : Width) → size_of terms ≤ n → roots terms (replicate n width) ≡ replicate (terms_count terms) width
roots-replicate Nil n width enough = refl
roots-replicate (VarThen var constant size cond rest) zero width enough = absurd (omega arith)
roots-replicate (LitThen value boolean rest) zero width enough = absurd (omega arith)
roots-replicate (AppThen op size once args rest) zero width enough = absurd (omega arith)
roots-replicate (VarThen var constant size cond rest) (suc n) width enough = ap (λ t. width ∷ t) (roots-replicate rest n width (omega arith))
roots-replicate (LitThen value boolean rest) (suc n) width enough = ap (λ t. width ∷ t) (roots-replicate rest n width (omega arith))
roots-replicate (AppThen op size once args rest) (suc n) width enough =
    ap (λ t. width ∷ t) (ap (roots rest) (drop-replicate (size_of args) n width) ∙ roots-replicate rest (n - size_of args) width (omega arith))

-- an opcode with all its sources
abbrev pub has_sources : Piece → Bool
has_sources (VarPiece var constant size cond) = true
has_sources (LitPiece value boolean) = true
has_sources (AppPiece op size once sources) = nat_eq sources (length (op_info op).inputs)

sizes_fit_eight : (op : Op) (count : ℕ) → is_unsized op ≡ true → nat_eq count (length (op_info op).inputs) ≡ true → sizes_fit op W8 (replicate count W8) ≡ true
unfolding sizes_fit
sizes_fit_eight op count h are =
    let one = one_size op W8 h in
    let unsized = one.unsized (replicate count W8) in
    let result : same_width (result_width op (unsized_width op W8 (replicate count W8))) W8 ≡ true = ap (λ w. same_width (result_width op w) W8) unsized ∙ ap (λ w. same_width w W8) one.result in
    let sources : source_widths op (unsized_width op W8 (replicate count W8)) ≡ replicate count W8 = ap (source_widths op) unsized ∙ one.sources ∙ ap (λ n. replicate n W8) (sym (eqb-true count (length (op_info op).inputs) are)) in
    and_from _ _ (and_from _ _ (ap (op_allows op) unsized ∙ one.allowed) result) (ap (λ l. pointwise same_width l (replicate count W8)) sources ∙ same_widths-refl (replicate count W8))

has_eight : (size : Option Width) → eight_or_none size ≡ true → has_size size W8 ≡ true
has_eight None h = refl
has_eight (Some size) h = h

fits_eight : (value : ℤ) (boolean : Bool) → (not boolean && literal_fits value false W8) ≡ true → literal_fits value boolean W8 ≡ true
fits_eight value true h = absurd (false≢true h)
fits_eight value false h = h

obeys_eight : (terms : Terms) (n : ℕ) → size_of terms ≤ n → list_all eight_piece (pieces terms) ≡ true → list_all has_sources (pieces terms) ≡ true → obeys terms (replicate n W8) ≡ true
obeys_eight Nil n enough eight sourced = refl
obeys_eight (VarThen var constant size cond rest) zero enough eight sourced = absurd (omega arith)
obeys_eight (LitThen value boolean rest) zero enough eight sourced = absurd (omega arith)
obeys_eight (AppThen op size once args rest) zero enough eight sourced = absurd (omega arith)
obeys_eight (VarThen var constant size cond rest) (suc n) enough eight sourced =
    let all = and_parts (eight_or_none size) (list_all eight_piece (pieces rest)) eight in
    and_from (has_size size W8) (obeys rest (replicate n W8)) (has_eight size all.0) (obeys_eight rest n (omega arith) all.1 (and_parts true (list_all has_sources (pieces rest)) sourced).1)
obeys_eight (LitThen value boolean rest) (suc n) enough eight sourced =
    let all = and_parts (not boolean && literal_fits value false W8) (list_all eight_piece (pieces rest)) eight in
    and_from (literal_fits value boolean W8) (obeys rest (replicate n W8)) (fits_eight value boolean all.0) (obeys_eight rest n (omega arith) all.1 (and_parts true (list_all has_sources (pieces rest)) sourced).1)
obeys_eight (AppThen op size once args rest) (suc n) enough eight sourced =
    let sizes = replicate n W8 in
    let behind = drop (size_of args) sizes in
    let all = and_parts (is_unsized op && eight_or_none size) (list_all eight_piece (pieces args ++ pieces rest)) eight in
    let own = and_parts (is_unsized op) (eight_or_none size) all.0 in
    let parts = and_parts (list_all eight_piece (pieces args)) (list_all eight_piece (pieces rest)) (sym (list_all-append eight_piece (pieces args) (pieces rest)) ∙ all.1) in
    let has = and_parts (nat_eq (terms_count args) (length (op_info op).inputs)) (list_all has_sources (pieces args ++ pieces rest)) sourced in
    let have = and_parts (list_all has_sources (pieces args)) (list_all has_sources (pieces rest)) (sym (list_all-append has_sources (pieces args) (pieces rest)) ∙ has.1) in
    let fit : sizes_fit op W8 (roots args sizes) ≡ true = ap (sizes_fit op W8) (roots-replicate args n W8 (omega arith)) ∙ sizes_fit_eight op (terms_count args) own.0 has.0 in
    let later : obeys rest behind ≡ true = ap (obeys rest) (drop-replicate (size_of args) n W8) ∙ obeys_eight rest (n - size_of args) (omega arith) parts.1 have.1 in
    and_from (has_size size W8 && sizes_fit op W8 (roots args sizes) && obeys args sizes) (obeys rest behind)
    (and_from (has_size size W8 && sizes_fit op W8 (roots args sizes)) (obeys args sizes)
    (and_from (has_size size W8) (sizes_fit op W8 (roots args sizes)) (has_eight size own.1) fit)
    (obeys_eight args n (omega arith) parts.0 have.0))
    later

-- each variable has 8 bits, so that they agree
abbrev is_eight_wide : Occurrence → Bool
is_eight_wide o = same_width o.width W8

eights : (terms : Terms) (n : ℕ) → size_of terms ≤ n → list_all is_eight_wide (occurrences terms (replicate n W8)) ≡ true
eights Nil n enough = refl
eights (VarThen var constant size cond rest) zero enough = absurd (omega arith)
eights (LitThen value boolean rest) zero enough = absurd (omega arith)
eights (AppThen op size once args rest) zero enough = absurd (omega arith)
eights (VarThen var constant size cond rest) (suc n) enough = and_from true (list_all is_eight_wide (occurrences rest (replicate n W8))) refl (eights rest n (omega arith))
eights (LitThen value boolean rest) (suc n) enough = eights rest n (omega arith)
eights (AppThen op size once args rest) (suc n) enough =
    let sizes = replicate n W8 in
    let behind = drop (size_of args) sizes in
    list_all-append is_eight_wide (occurrences args sizes) (occurrences rest behind)
    ∙ and_from (list_all is_eight_wide (occurrences args sizes)) (list_all is_eight_wide (occurrences rest behind)) (eights args n (omega arith))
    (ap (λ l. list_all is_eight_wide (occurrences rest l)) (drop-replicate (size_of args) n W8) ∙ eights rest (n - size_of args) (omega arith))

alike_eight : (a : Occurrence) (list : List Occurrence) → is_eight_wide a ≡ true → list_all is_eight_wide list ≡ true → list_all (alike a) list ≡ true
alike_eight a [] wide all = refl
alike_eight a (o ∷ list) wide all =
    let parts = and_parts (is_eight_wide o) (list_all is_eight_wide list) all in
    let same : same_width a.width o.width ≡ true = ap (same_width a.width) (same_width-same o.width W8 parts.0) ∙ wide in
    and_from (alike a o) (list_all (alike a) list) (or_right (not (nat_eq a.var o.var)) (same_width a.width o.width) same) (alike_eight a list wide parts.1)

agree_eight : (list others : List Occurrence) → list_all is_eight_wide list ≡ true → list_all is_eight_wide others ≡ true → list_all (λ a. list_all (alike a) others) list ≡ true
agree_eight [] others all wide = refl
agree_eight (a ∷ list) others all wide =
    let parts = and_parts (is_eight_wide a) (list_all is_eight_wide list) all in
    and_from (list_all (alike a) others) (list_all (λ a. list_all (alike a) others) list) (alike_eight a others parts.0 wide) (agree_eight list others parts.1 wide)

-- a formed side has all sources
pub search_sourced : (list : List Piece) → list_all search_piece_formed list ≡ true → list_all has_sources list ≡ true
search_sourced [] h = refl
search_sourced (VarPiece var constant size cond ∷ rest) h = search_sourced rest h
search_sourced (LitPiece value boolean ∷ rest) h = search_sourced rest (and_parts (literal_formed value boolean) (list_all search_piece_formed rest) h).1
search_sourced (AppPiece op size once sources ∷ rest) h =
    let parts = and_parts (may_stand op && nat_eq sources (length (op_info op).inputs)) (list_all search_piece_formed rest) h in
    and_from (nat_eq sources (length (op_info op).inputs)) (list_all has_sources rest) (and_parts (may_stand op) (nat_eq sources (length (op_info op).inputs)) parts.0).1 (search_sourced rest parts.1)

pub replace_sourced : (vars : ℕ) (list : List Piece) → list_all (replace_piece_formed vars) list ≡ true → list_all has_sources list ≡ true
replace_sourced vars [] h = refl
replace_sourced vars (VarPiece var constant size cond ∷ rest) h = replace_sourced vars rest (and_parts (replace_piece_formed vars (VarPiece var constant size cond)) (list_all (replace_piece_formed vars) rest) h).1
replace_sourced vars (LitPiece value boolean ∷ rest) h = replace_sourced vars rest (and_parts (literal_formed value boolean) (list_all (replace_piece_formed vars) rest) h).1
replace_sourced vars (AppPiece op size once sources ∷ rest) h =
    let parts = and_parts (may_stand op && nat_eq sources (length (op_info op).inputs) && not once) (list_all (replace_piece_formed vars) rest) h in
    let own = and_parts (may_stand op && nat_eq sources (length (op_info op).inputs)) (not once) parts.0 in
    and_from (nat_eq sources (length (op_info op).inputs)) (list_all has_sources rest) (and_parts (may_stand op) (nat_eq sources (length (op_info op).inputs)) own.0).1 (replace_sourced vars rest parts.1)

first_of-replicate : (n : ℕ) (width : Width) → 1 ≤ n → first_of (replicate n width) ≡ width
first_of-replicate zero width some = absurd (omega arith)
first_of-replicate (suc n) width some = refl

-- 8 bits for each node is a typing
pub eight_is_typing : (rule : Rule) → IsFormed rule → is_eight_bit rule ≡ true → is_typing rule (all_eight rule) ≡ true
eight_is_typing rule formed eight =
    let parts = IsEight-from_is_eight_bit rule eight in
    let a = size_of rule.search in
    let b = size_of rule.replace in
    let searched : search_part rule (all_eight rule) ≡ replicate a W8 = take-replicate a (a + b) W8 (omega arith) in
    let replaced : replace_part rule (all_eight rule) ≡ replicate b W8 = drop-replicate a (a + b) W8 ∙ ap (λ n. replicate n W8) (add-sub_cancel_left a b) in
    let own : first_of (search_part rule (all_eight rule)) ≡ W8 = ap first_of searched ∙ first_of-replicate a W8 (some_nodes rule.search formed.one_search) in
    let other : first_of (replace_part rule (all_eight rule)) ≡ W8 = ap first_of replaced ∙ first_of-replicate b W8 (some_nodes rule.replace formed.one_replace) in
    let first = occurrences rule.search (search_part rule (all_eight rule)) in
    let second = occurrences rule.replace (replace_part rule (all_eight rule)) in
    let wide : list_all is_eight_wide (first ++ second) ≡ true =
    list_all-append is_eight_wide first second ∙ and_from (list_all is_eight_wide first) (list_all is_eight_wide second)
    (ap (λ l. list_all is_eight_wide (occurrences rule.search l)) searched ∙ eights rule.search a (omega arith))
    (ap (λ l. list_all is_eight_wide (occurrences rule.replace l)) replaced ∙ eights rule.replace b (omega arith)) in
    is_typing-from_IsTyped rule (all_eight rule) (record {
      count = length-replicate (a + b) W8;
      search = ap (obeys rule.search) searched ∙ obeys_eight rule.search a (omega arith) parts.search (search_sourced (pieces rule.search) formed.search);
      replace = ap (obeys rule.replace) replaced ∙ obeys_eight rule.replace b (omega arith) parts.replace (replace_sourced rule.vars (pieces rule.replace) formed.replace);
      roots = ap (λ w. same_width w (first_of (replace_part rule (all_eight rule)))) own ∙ ap (same_width W8) other;
      agree = agree_eight (first ++ second) (first ++ second) wide wide;
    })

-- it is enough that the sides are equal there
pub eight_holds : (rule : Rule) → IsFormed rule → is_eight_bit rule ≡ true → EqualAt rule (all_eight rule) → Holds rule
eight_holds rule formed eight equal = record {
  unambiguous = λ widths others typing other same. eight_typing rule formed eight widths typing ∙ sym (eight_typing rule formed eight others other);
  equal = λ widths typing. subst (EqualAt rule) (sym (eight_typing rule formed eight widths typing)) equal;
}
