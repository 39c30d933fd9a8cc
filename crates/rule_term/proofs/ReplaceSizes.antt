-- An opcode fits its sizes at an unsized size where it works at it and has its result then; and of two such sizes the least gives the least sources.
use Rattle.op_eval.specs.Sizes.{same_width-same, same_widths-refl, same_widths-same}
use Rattle.std.specs.Prelude.{◌≡◌, refl, ◌≤◌, ◌<◌, Bool, true, false, ◌&&◌, ◌||◌, Option, Some, None, List, [], ◌∷◌, length, map, is_none, is_some, cond}
use Rattle.std.proofs.Common.{◌∙◌, ◌⊎◌, ap, sym, subst, arith, ⊎_elim, inl, inr}
use Rattle.std.proofs.lemmas.Bool.{and_parts, and_from, or_cases, false≢true}
use Rattle.std.proofs.lemmas.List.{length-map}
use Rattle.std.specs.List.{find, list_all}
use Rattle.std.specs.Option.{unwrap_or}
use Rattle.std.specs.Cmp.Lexicographic.{pointwise}
use Rattle.nir_ops.specs.declared.op.Op.{Op}
use Rattle.nir_ops.specs.declared.op.Op.TheVariants.{Vec2}
use Rattle.nir_ops.specs.declared.row.OpInput.{OpInput}
use Rattle.nir_ops.specs.declared.width.Width.{Width}
use Rattle.nir_ops.specs.declared.width.Width.TheVariants.{W1, W8, W16, W32, W64}
use Rattle.nir_ops.specs.Width.{width_bits}
use Rattle.nir_ops.specs.Opcodes.{op_allows, op_info, row_of}
use Rattle.op_eval.specs.Calls.{result_width, same_width, size_at, sizes_fit, source_widths, unsized_of, unsized_width}
use Rattle.rule_term.specs.Typings.{first_of}
use Rattle.rule_term.specs.ReplaceLeast.{every_width}

-- the unsized size is that of the result, or that of the first source, or plays no part
abbrev pub first_unsized : List OpInput → Bool
first_unsized [] = false
first_unsized (input ∷ rest) = is_none input.kind.size

abbrev pub all_sized : List OpInput → Bool
all_sized inputs = list_all (λ input. is_some input.kind.size) inputs

abbrev pub is_determined : Option Width → List OpInput → (Width → Bool) → Bool
is_determined out inputs allows = is_none out || (first_unsized inputs || (all_sized inputs && list_all allows every_width))

-- the first case splits, and the second is tried at each opcode that is left
pub determined : (op : Op) → is_determined (op_info op).out.size (op_info op).inputs (op_allows op) ≡ true
unfolding op_info op_allows row_of
determined Vec2 = refl
determined op = refl

sized_at : (size : Option Width) (u v : Width) → is_some size ≡ true → size_at size u ≡ size_at size v
sized_at None u v h = absurd (false≢true h)
sized_at (Some size) u v h = refl

pub unsized_at : (size : Option Width) (u : Width) → is_none size ≡ true → size_at size u ≡ u
unsized_at None u h = refl
unsized_at (Some size) u h = absurd (false≢true h)

pub sized_sources : (inputs : List OpInput) (u v : Width) → all_sized inputs ≡ true → map (λ input. size_at input.kind.size u) inputs ≡ map (λ input. size_at input.kind.size v) inputs
sized_sources [] u v h = refl
sized_sources (input ∷ rest) u v h =
    let parts = and_parts (is_some input.kind.size) (all_sized rest) h in
    ap (λ x. x ∷ map (λ input. size_at input.kind.size u) rest) (sized_at input.kind.size u v parts.0) ∙ ap (λ l. size_at input.kind.size v ∷ l) (sized_sources rest u v parts.1)

pub every_allowed : (allows : Width → Bool) → list_all allows every_width ≡ true → (width : Width) → allows width ≡ true
every_allowed allows h W1 = (and_parts (allows W1) _ h).0
every_allowed allows h W8 = (and_parts (allows W8) _ (and_parts (allows W1) _ h).1).0
every_allowed allows h W16 = (and_parts (allows W16) _ (and_parts (allows W8) _ (and_parts (allows W1) _ h).1).1).0
every_allowed allows h W32 = (and_parts (allows W32) _ (and_parts (allows W16) _ (and_parts (allows W8) _ (and_parts (allows W1) _ h).1).1).1).0
every_allowed allows h W64 = (and_parts (allows W64) _ (and_parts (allows W32) _ (and_parts (allows W16) _ (and_parts (allows W8) _ (and_parts (allows W1) _ h).1).1).1).1).0

abbrev fits_at : Option Width → List OpInput → (Width → Bool) → Width → List Width → Width → Bool
fits_at out inputs allows dst widths v = allows v && same_width (size_at out v) dst && pointwise same_width (map (λ input. size_at input.kind.size v) inputs) widths

fits_own : (out : Option Width) (inputs : List OpInput) (allows : Width → Bool) (u dst : Width) → allows u ≡ true → same_width (size_at out u) dst ≡ true → fits_at out inputs allows dst (map (λ input. size_at input.kind.size u) inputs) u ≡ true
fits_own out inputs allows u dst works result =
    let sizes = map (λ input. size_at input.kind.size u) inputs in
    and_from (allows u && same_width (size_at out u) dst) (pointwise same_width sizes sizes) (and_from (allows u) (same_width (size_at out u) dst) works result) (same_widths-refl sizes)

-- where no source is unsized, at any size
fits_any : (size : Width) (inputs : List OpInput) (allows : Width → Bool) (u v dst : Width) → all_sized inputs ≡ true → list_all allows every_width ≡ true → same_width size dst ≡ true → fits_at (Some size) inputs allows dst (map (λ input. size_at input.kind.size u) inputs) v ≡ true
fits_any size inputs allows u v dst sized all result =
    ap (λ l. fits_at (Some size) inputs allows dst l v) (sized_sources inputs u v sized)
    ∙ fits_own (Some size) inputs allows v dst (every_allowed allows all v) result

fits_from : (out : Option Width) (inputs : List OpInput) (allows : Width → Bool) (u dst : Width) → is_determined out inputs allows ≡ true → allows u ≡ true → same_width (size_at out u) dst ≡ true
    → fits_at out inputs allows dst (map (λ input. size_at input.kind.size u) inputs) (unsized_of out dst (map (λ input. size_at input.kind.size u) inputs)) ≡ true
fits_from None inputs allows u dst h works result =
    subst (λ (v : Width). fits_at None inputs allows dst (map (λ input. size_at input.kind.size u) inputs) v ≡ true) (same_width-same u dst result) (fits_own None inputs allows u dst works result)
fits_from (Some size) [] allows u dst h works result =
    ⊎_elim
    (λ none. absurd (false≢true none))
    (λ sized. fits_any size [] allows u dst dst refl (and_parts true (list_all allows every_width) sized).1 result)
    (or_cases false (true && list_all allows every_width) h)
fits_from (Some size) (input ∷ rest) allows u dst h works result =
    ⊎_elim
    (λ free. subst (λ (v : Width). fits_at (Some size) (input ∷ rest) allows dst (map (λ input. size_at input.kind.size u) (input ∷ rest)) v ≡ true) (sym (unsized_at input.kind.size u free)) (fits_own (Some size) (input ∷ rest) allows u dst works result))
    (λ sized.
    let parts = and_parts (all_sized (input ∷ rest)) (list_all allows every_width) sized in
    fits_any size (input ∷ rest) allows u (size_at input.kind.size u) dst parts.0 parts.1 result)
    (or_cases (is_none input.kind.size) (all_sized (input ∷ rest) && list_all allows every_width) h)

-- the sizes of the sources at an unsized size fit
pub sizes_fit-from : (op : Op) (u dst : Width) → op_allows op u ≡ true → same_width (result_width op u) dst ≡ true → sizes_fit op dst (source_widths op u) ≡ true
unfolding sizes_fit unsized_width source_widths result_width
sizes_fit-from op u dst works result = fits_from (op_info op).out.size (op_info op).inputs (op_allows op) u dst (determined op) works result

-- two unsized sizes with one result have the same sources, or the first source has the unsized size
abbrev pub OrderedSources : Op → Width → Width → Type 0
OrderedSources op u v = (source_widths op u ≡ source_widths op v) ⊎ ((first_of (source_widths op u) ≡ u) × (first_of (source_widths op v) ≡ v) × (0 < length (source_widths op u)))

ordered : (out : Option Width) (inputs : List OpInput) (allows : Width → Bool) (u v dst : Width) → is_determined out inputs allows ≡ true → same_width (size_at out u) dst ≡ true → same_width (size_at out v) dst ≡ true
    → (map (λ input. size_at input.kind.size u) inputs ≡ map (λ input. size_at input.kind.size v) inputs)
    ⊎ ((first_of (map (λ input. size_at input.kind.size u) inputs) ≡ u) × (first_of (map (λ input. size_at input.kind.size v) inputs) ≡ v) × (0 < length (map (λ input. size_at input.kind.size u) inputs)))
ordered None inputs allows u v dst h first second = inl (ap (λ w. map (λ input. size_at input.kind.size w) inputs) (same_width-same u dst first ∙ sym (same_width-same v dst second)))
ordered (Some size) [] allows u v dst h first second = inl refl
ordered (Some size) (input ∷ rest) allows u v dst h first second =
    ⊎_elim
    (λ free. inr (unsized_at input.kind.size u free, unsized_at input.kind.size v free, omega arith))
    (λ sized. inl (sized_sources (input ∷ rest) u v (and_parts (all_sized (input ∷ rest)) (list_all allows every_width) sized).0))
    (or_cases (is_none input.kind.size) (all_sized (input ∷ rest) && list_all allows every_width) h)

pub ordered_sources : (op : Op) (u v dst : Width) → same_width (result_width op u) dst ≡ true → same_width (result_width op v) dst ≡ true → OrderedSources op u v
unfolding source_widths result_width
ordered_sources op u v dst first second = ordered (op_info op).out.size (op_info op).inputs (op_allows op) u v dst (determined op) first second

pub source_count : (op : Op) (u : Width) → length (source_widths op u) ≡ length (op_info op).inputs
unfolding source_widths
source_count op u = length-map (op_info op).inputs (λ input. size_at input.kind.size u)

-- the least size that passes a test, where one passes
abbrev pub found_at : (Width → Bool) → Width → Option Width → Type 0
found_at test width o = (is_some o ≡ true) × (test (unwrap_or o W1) ≡ true) × (width_bits (unwrap_or o W1) ≤ width_bits width)

found_step : (test : Width → Bool) (x : Width) (o : Option Width) (width : Width) (b : Bool) → test x ≡ b → width_bits x ≤ width_bits width → (b ≡ false → found_at test width o) → found_at test width (cond b (Some x) o)
found_step test x o width true e low later = (refl, e, low)
found_step test x o width false e low later = later refl

pub least_found : (test : Width → Bool) (width : Width) → test width ≡ true → found_at test width (find test every_width)
least_found test W1 h = found_step test W1 _ W1 (test W1) refl (omega arith) (λ n. absurd (false≢true (sym n ∙ h)))
least_found test W8 h =
    found_step test W1 _ W8 (test W1) refl (omega arith) (λ _.
    found_step test W8 _ W8 (test W8) refl (omega arith) (λ n. absurd (false≢true (sym n ∙ h))))
least_found test W16 h =
    found_step test W1 _ W16 (test W1) refl (omega arith) (λ _.
    found_step test W8 _ W16 (test W8) refl (omega arith) (λ _.
    found_step test W16 _ W16 (test W16) refl (omega arith) (λ n. absurd (false≢true (sym n ∙ h)))))
least_found test W32 h =
    found_step test W1 _ W32 (test W1) refl (omega arith) (λ _.
    found_step test W8 _ W32 (test W8) refl (omega arith) (λ _.
    found_step test W16 _ W32 (test W16) refl (omega arith) (λ _.
    found_step test W32 _ W32 (test W32) refl (omega arith) (λ n. absurd (false≢true (sym n ∙ h))))))
least_found test W64 h =
    found_step test W1 _ W64 (test W1) refl (omega arith) (λ _.
    found_step test W8 _ W64 (test W8) refl (omega arith) (λ _.
    found_step test W16 _ W64 (test W16) refl (omega arith) (λ _.
    found_step test W32 _ W64 (test W32) refl (omega arith) (λ _.
    found_step test W64 _ W64 (test W64) refl (omega arith) (λ n. absurd (false≢true (sym n ∙ h)))))))

-- what is found passes
some_step : (test : Width → Bool) (x : Width) (o : Option Width) (b : Bool) → test x ≡ b → (is_some o ≡ true → test (unwrap_or o W1) ≡ true) → is_some (cond b (Some x) o) ≡ true → test (unwrap_or (cond b (Some x) o) W1) ≡ true
some_step test x o true e later some = e
some_step test x o false e later some = later some

pub found_passes : (test : Width → Bool) (list : List Width) → is_some (find test list) ≡ true → test (unwrap_or (find test list) W1) ≡ true
found_passes test [] some = absurd (false≢true some)
found_passes test (x ∷ list) some = some_step test x (find test list) (test x) refl (found_passes test list) some

-- sizes that fit are those at an unsized size
pub fitting_size : (op : Op) (dst : Width) (widths : List Width) → sizes_fit op dst widths ≡ true → (u : Width) × (op_allows op u ≡ true) × (same_width (result_width op u) dst ≡ true) × (source_widths op u ≡ widths)
unfolding sizes_fit
fitting_size op dst widths h =
    let outer = and_parts _ _ h in
    let inner = and_parts _ _ outer.0 in
    (unsized_width op dst widths, inner.0, inner.1, same_widths-same _ _ outer.1)
