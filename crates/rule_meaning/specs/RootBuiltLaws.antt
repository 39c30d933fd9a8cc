-- A whole replacement: the instructions that take the place of the one at which a rule matches, the last of which defines its value.
use Rattle.std.specs.Prelude.{◌≡◌, refl, ◌<◌, ◌^◌, ℕ, suc, true, Some, List, [], ◌∷◌, map, length, slice_index, drop}
use Rattle.std.proofs.Common.{sym, ◌∙◌, ap, ap₂, subst, arith, mod-eq_of_lt}
use Rattle.std.proofs.lemmas.Bool.{and_parts}
use Rattle.std.proofs.lemmas.List.{get_or-replicate, length-replicate}
use Rattle.std.proofs.lemmas.Option.{none-some}
use Rattle.std.specs.List.{AllByRecursion, list_all}
use Rattle.list_laws.specs.AllLaws.{all_append, all_front}
use Rattle.nir_ops.specs.declared.op.Op.TheVariants.{Mov}
use Rattle.nir_ops.specs.declared.width.Width.{Width}
use Rattle.nir_ops.specs.declared.width.Width.TheVariants.{W1, W8, W16, W32, W64}
use Rattle.nir_ops.specs.Opcodes.{op_allows, op_info, row_of}
use Rattle.nir_ops.specs.Width.{width_bits}
use Rattle.op_eval.specs.declared.shape.Shape.TheVariants.{EachPlace}
use Rattle.op_eval.specs.Calls.{result_width, sizes_fit, source_widths, unsized_width}
use Rattle.op_eval.specs.Meaning.{meaning, op_mean}
use Rattle.op_eval.specs.Sizes.{Fits-from_sizes_fit}
use Rattle.op_eval.specs.Views.{CountsFit, column, shape_of}
use Rattle.op_eval.specs.Word.{residue}
use Rattle.nir_ir.specs.declared.ids.ValueId.{ValueId}
use Rattle.nir_ir.specs.declared.instr.Instr.{Instr}
use Rattle.nir_ir.specs.declared.instr.Instr.TheVariants.{Alu}
use Rattle.nir_ir.specs.declared.kind.Kind.{Kind}
use Rattle.nir_ir.specs.Definitions.{Kinds, kind_of_target, width_in}
use Rattle.nir_ir.specs.Edits.{ArePlaced}
use Rattle.nir_ir.specs.Items.{target}
use Rattle.nir_ir.specs.Shaped.{IsCount, IsShapedInstr}
use Rattle.nir_validate.specs.Each.{InstrsWalked}
use Rattle.nir_validate.specs.Edges.{Set, set_after_instrs}
use Rattle.nir_validate.specs.Typed.{FitsIn}
use Rattle.rule_term.specs.Formed.{replace_piece_formed}
use Rattle.rule_term.specs.Holds.{values_of}
use Rattle.rule_term.specs.Pieces.{VarPiece, pieces, terms_count}
use Rattle.rule_term.specs.Standing.{shape-from_may_stand}
use Rattle.rule_term.specs.Terms.{Terms, Nil, VarThen, LitThen, AppThen}
use Rattle.rule_term.specs.Typings.{Occurrence, first_of, obeys, occurrences, roots, size_of}
use Rattle.nir_search.specs.declared.hit.Bind.{Bind}
use Rattle.nir_search.specs.Put.{Root, bound_to, const_instr, made, root_of, view_source}
use Rattle.nir_mean.specs.Reads.{run_instrs-append, with_value-here}
use Rattle.nir_mean.specs.Run.{Setting, run_instrs, value_of}
use Rattle.nir_mean.specs.State.{State}
use Rattle.nir_mean.specs.Values.{read, source_sizes}
use Rattle.rule_meaning.specs.BuiltLaws.{AreSized, AreSources, HoldsBound, KindsTold, app_fits, app_formed, app_obeys, built_fits, built_reads, const_shaped, reads_of_sources, var_formed, walked_append}
use Rattle.rule_meaning.specs.BuiltValuesLaws.{built_values, env_at, view_read}
use Rattle.rule_meaning.specs.Env.{at_place, env}
use Rattle.rule_meaning.specs.RowLaws.{made_in_order, row_targets}
use Rattle.rule_meaning.specs.Views.{alu_mean_at, length-alu_mean}

-- ---- a move

mov_sizes : (w : Width) → sizes_fit Mov w (w ∷ []) ≡ true
unfolding sizes_fit source_widths result_width unsized_width op_allows op_info row_of
mov_sizes W1 = refl
mov_sizes W8 = refl
mov_sizes W16 = refl
mov_sizes W32 = refl
mov_sizes W64 = refl

mov_counts : (count : ℕ) → CountsFit Mov count (count ∷ [])
unfolding op_info row_of
mov_counts count = record { result = refl; sources = refl }

mov_source : 1 ≡ length (op_info Mov).inputs
unfolding op_info row_of
mov_source = refl

mov_shape : shape_of Mov ≡ EachPlace
unfolding shape_of
mov_shape = refl

mov_mean : (w d x : ℕ) → x < 2 ^ d → op_mean Mov w d (x ∷ []) ≡ x
unfolding op_mean meaning residue
mov_mean w d x small = mod-eq_of_lt small

-- ---- numbers and the kind of the last

module _ (binds : List Bind) (value : ValueId) (count : ℕ) where
  pub root_placed : (terms : Terms) (widths : List Width) (next : ℕ) → terms_count terms ≡ 1 → ArePlaced next (root_of binds value count terms widths next).next value (root_of binds value count terms widths next).instrs
  root_placed Nil widths next one = absurd (omega (arith, one))
  root_placed (VarThen var constant size cond rest) widths next one = record {
    front = [];
    last = Alu value Mov (record { width = first_of widths; count = count }) (view_source (bound_to binds var) ∷ []);
    are = refl;
    fresh = refl;
    root = refl;
    counted = omega arith;
  }
  root_placed (LitThen number boolean rest) widths next one =
      record { front = []; last = const_instr value (record { width = first_of widths; count = count }) number; are = refl; fresh = refl; root = refl; counted = omega arith }
  root_placed (AppThen op size once args rest) widths next one =
      let inner = made binds count args (drop 1 widths) next in
      let order = made_in_order binds count args (drop 1 widths) next in
      record {
        front = inner.instrs;
        last = Alu value op (record { width = first_of widths; count = count }) inner.sources;
        are = refl;
        fresh = row_targets next inner.instrs order.row;
        root = refl;
        counted = order.ends;
      }

  pub root_kind : (terms : Terms) (widths : List Width) (next : ℕ) (one : terms_count terms ≡ 1) → kind_of_target (root_placed terms widths next one).last ≡ Some (record { width = first_of widths; count = count })
  unfolding root_placed
  root_kind Nil widths next one = absurd (omega (arith, one))
  root_kind (VarThen var constant size cond rest) widths next one = refl
  root_kind (LitThen number boolean rest) widths next one = refl
  root_kind (AppThen op size once args rest) widths next one = refl

-- ---- it fits, and reads what the variables are bound to

pub record RootFits (kinds : Kinds) (inputs outputs : List Kind) (buffers : ℕ) (root : Root) : Type 0 where
  pub fits : AllByRecursion (FitsIn kinds inputs outputs buffers) root.instrs
  pub shaped : AllByRecursion IsShapedInstr root.instrs

pub root_reads : (vars count : ℕ) (binds : List Bind) (value : ValueId) (terms : Terms) (widths : List Width) (next : ℕ) (set : Set) → list_all (replace_piece_formed vars) (pieces terms) ≡ true → HoldsBound set vars binds
    → InstrsWalked set (root_of binds value count terms widths next).instrs
root_reads vars count binds value Nil widths next set formed bound = tt
root_reads vars count binds value (VarThen var constant size cond rest) widths next set formed bound =
    let parts = and_parts (replace_piece_formed vars (VarPiece var constant size cond)) (list_all (replace_piece_formed vars) (pieces rest)) formed in
    (reads_of_sources set (view_source (bound_to binds var) ∷ []) value Mov (record { width = first_of widths; count = count }) (bound var (var_formed vars var constant size cond parts.0), tt), tt)
root_reads vars count binds value (LitThen number boolean rest) widths next set formed bound = ((λ id at. absurd (none-some id at.1)), tt)
root_reads vars count binds value (AppThen op size once args rest) widths next set formed bound =
    let inner = made binds count args (drop 1 widths) next in
    let kind : Kind = record { width = first_of widths; count = count } in
    let first = built_reads vars count binds args (drop 1 widths) next set (app_formed vars op size once args rest formed).inner bound in
    walked_append set inner.instrs (Alu value op kind inner.sources ∷ []) first.walked (reads_of_sources (set_after_instrs inner.instrs set) inner.sources value op kind first.sources, tt)

-- values behind the one term
values_none : (terms : Terms) (widths : List Width) (values : List ℕ) → terms_count terms ≡ 0 → values_of terms widths values ≡ []
values_none Nil widths values none = refl
values_none (VarThen var constant size cond rest) widths values none = absurd (omega (arith, none))
values_none (LitThen number boolean rest) widths values none = absurd (omega (arith, none))
values_none (AppThen op size once args rest) widths values none = absurd (omega (arith, none))

module _ (m : Setting) (inputs outputs : List Kind) (buffers next0 count vars : ℕ) (binds : List Bind) (is : IsCount count) (bound : AreSources m.kinds next0 count vars binds) (value : ValueId) where
  pub root_fits : (terms : Terms) (widths : List Width) → list_all (replace_piece_formed vars) (pieces terms) ≡ true → obeys terms widths ≡ true → AreSized m.kinds binds (occurrences terms widths)
      → KindsTold m.kinds (root_of binds value count terms widths next0).instrs → RootFits m.kinds inputs outputs buffers (root_of binds value count terms widths next0)
  root_fits Nil widths formed obey sized told = record { fits = tt; shaped = tt }
  root_fits (VarThen var constant size cond rest) widths formed obey sized told =
      let parts = and_parts (replace_piece_formed vars (VarPiece var constant size cond)) (list_all (replace_piece_formed vars) (pieces rest)) formed in
      let own = bound var (var_formed vars var constant size cond parts.0) in
      record {
        fits = (
          record {
            widths = Fits-from_sizes_fit Mov (first_of widths) (width_in m.kinds (bound_to binds var).value ∷ []) (ap (λ w. sizes_fit Mov (first_of widths) (w ∷ [])) sized.0 ∙ mov_sizes (first_of widths));
            counts = subst (λ n. CountsFit Mov count (n ∷ [])) (sym own.places) (mov_counts count);
            names = (own.comps, tt);
          },
          tt,
        );
        shaped = ((is, mov_source, (own.swizzle, tt)), tt);
      }
  root_fits (LitThen number boolean rest) widths formed obey sized told = record { fits = (tt, tt); shaped = (const_shaped value (record { width = first_of widths; count = count }) number is, tt) }
  root_fits (AppThen op size once args rest) widths formed obey sized told =
      let inner = made binds count args (drop 1 widths) next0 in
      let kind : Kind = record { width = first_of widths; count = count } in
      let own : Instr = Alu value op kind inner.sources in
      let told_of = λ (instr : Instr). (i : ValueId) → target instr ≡ Some i → m.kinds i ≡ kind_of_target instr in
      let sized_of = λ (o : Occurrence). width_in m.kinds (bound_to binds o.var).value ≡ o.width in
      let forms = app_formed vars op size once args rest formed in
      let sizes = app_obeys op size once args rest widths obey in
      let first = built_fits m.kinds inputs outputs buffers next0 count vars binds is bound args (drop 1 widths) next0 forms.inner sizes.inner
      (all_front sized_of (occurrences args (drop 1 widths)) (occurrences rest (drop (suc (size_of args)) widths)) sized) (all_front told_of inner.instrs (own ∷ []) told) in
      let app = app_fits m.kinds inputs outputs buffers value op kind inner.sources (roots args (drop 1 widths)) is forms.stands sizes.sizes first.sizes (first.counted ∙ forms.sources) first.sources in
      record {
        fits = all_append (FitsIn m.kinds inputs outputs buffers) inner.instrs (own ∷ []) first.fits (app.fits, tt);
        shaped = all_append IsShapedInstr inner.instrs (own ∷ []) first.shaped (app.shaped, tt);
      }

  -- the value has as many components, and in each place the value of the one term
  pub root_length : (terms : Terms) (widths : List Width) (state : State) → terms_count terms ≡ 1 → list_all (replace_piece_formed vars) (pieces terms) ≡ true
      → length ((run_instrs m (root_of binds value count terms widths next0).instrs state).values value.0) ≡ count
  root_length Nil widths state one formed = absurd (omega (arith, one))
  root_length (VarThen var constant size cond rest) widths state one formed =
      let kind : Kind = record { width = first_of widths; count = count } in
      let own : Instr = Alu value Mov kind (view_source (bound_to binds var) ∷ []) in
      ap length (with_value-here value (value_of m own state) state.values) ∙ length-alu_mean m.kinds Mov kind (view_source (bound_to binds var) ∷ []) state.values mov_shape
  root_length (LitThen number boolean rest) widths state one formed =
      let own : Instr = const_instr value (record { width = first_of widths; count = count }) number in
      ap length (with_value-here value (value_of m own state) state.values) ∙ length-replicate count (residue (width_bits (first_of widths)) number)
  root_length (AppThen op size once args rest) widths state one formed =
      let inner = made binds count args (drop 1 widths) next0 in
      let kind : Kind = record { width = first_of widths; count = count } in
      let own : Instr = Alu value op kind inner.sources in
      let mid = run_instrs m inner.instrs state in
      ap (λ (s : State). length (s.values value.0)) (run_instrs-append m inner.instrs (own ∷ []) state)
      ∙ ap length (with_value-here value (value_of m own mid) mid.values)
      ∙ length-alu_mean m.kinds op kind inner.sources mid.values (shape-from_may_stand op (app_formed vars op size once args rest formed).stands)

  pub root_value : (lows : AllByRecursion (λ view. view.value.0 < next0) binds) (long : length binds ≡ vars) (place : ℕ) → place < count → (terms : Terms) (widths : List Width) (state : State) → terms_count terms ≡ 1
      → list_all (replace_piece_formed vars) (pieces terms) ≡ true → obeys terms widths ≡ true → AreSized m.kinds binds (occurrences terms widths) → KindsTold m.kinds (root_of binds value count terms widths next0).instrs
      → ((var : ℕ) → var < vars → at_place state.values place (bound_to binds var) < 2 ^ width_bits (width_in m.kinds (bound_to binds var).value))
      → slice_index ((run_instrs m (root_of binds value count terms widths next0).instrs state).values value.0) place ∷ [] ≡ values_of terms widths (env binds state.values place)
  root_value lows long place within Nil widths state one formed obey sized told words = absurd (omega (arith, one))
  root_value lows long place within (VarThen var constant size cond rest) widths state one formed obey sized told words =
      let kind : Kind = record { width = first_of widths; count = count } in
      let view = bound_to binds var in
      let srcs = view_source view ∷ [] in
      let own : Instr = Alu value Mov kind srcs in
      let parts = and_parts (replace_piece_formed vars (VarPiece var constant size cond)) (list_all (replace_piece_formed vars) (pieces rest)) formed in
      let less = var_formed vars var constant size cond parts.0 in
      let source = bound var less in
      let w = width_bits (unsized_width Mov (first_of widths) (source_sizes m.kinds srcs)) in
      let d = width_bits (first_of widths) in
      let small : at_place state.values place view < 2 ^ d = subst (λ s. at_place state.values place view < 2 ^ width_bits s) sized.0 (words var less) in
      ap₂ (λ (x : ℕ) (l : List ℕ). x ∷ l)
      (ap (λ comps. slice_index comps place) (with_value-here value (value_of m own state) state.values)
      ∙ alu_mean_at m.kinds Mov kind srcs state.values place mov_shape within
      ∙ ap (λ x. op_mean Mov w d (x ∷ [])) (view_read state.values view place (subst (λ n. place < n) (sym source.places) within))
      ∙ mov_mean w d (at_place state.values place view) small
      ∙ sym (env_at binds state.values place var (subst (λ n. var < n) (sym long) less)))
      (sym (values_none rest (drop 1 widths) (env binds state.values place) (omega (arith, one))))
  root_value lows long place within (LitThen number boolean rest) widths state one formed obey sized told words =
      let kind : Kind = record { width = first_of widths; count = count } in
      let own : Instr = const_instr value kind number in
      ap₂ (λ (x : ℕ) (l : List ℕ). x ∷ l)
      (ap (λ comps. slice_index comps place) (with_value-here value (value_of m own state) state.values) ∙ get_or-replicate count place (residue (width_bits (first_of widths)) number) 0 within)
      (sym (values_none rest (drop 1 widths) (env binds state.values place) (omega (arith, one))))
  root_value lows long place within (AppThen op size once args rest) widths state one formed obey sized told words =
      let inner = made binds count args (drop 1 widths) next0 in
      let kind : Kind = record { width = first_of widths; count = count } in
      let own : Instr = Alu value op kind inner.sources in
      let mid = run_instrs m inner.instrs state in
      let told_of = λ (instr : Instr). (i : ValueId) → target instr ≡ Some i → m.kinds i ≡ kind_of_target instr in
      let sized_of = λ (o : Occurrence). width_in m.kinds (bound_to binds o.var).value ≡ o.width in
      let forms = app_formed vars op size once args rest formed in
      let sizes = app_obeys op size once args rest widths obey in
      let first_sized = all_front sized_of (occurrences args (drop 1 widths)) (occurrences rest (drop (suc (size_of args)) widths)) sized in
      let first_told = all_front told_of inner.instrs (own ∷ []) told in
      let fits = built_fits m.kinds inputs outputs buffers next0 count vars binds is bound args (drop 1 widths) next0 forms.inner sizes.inner first_sized first_told in
      let w : Width = unsized_width op (first_of widths) (roots args (drop 1 widths)) in
      ap (λ (s : State). slice_index (s.values value.0) place ∷ []) (run_instrs-append m inner.instrs (own ∷ []) state)
      ∙ ap₂ (λ (x : ℕ) (l : List ℕ). x ∷ l)
      (ap (λ comps. slice_index comps place) (with_value-here value (value_of m own mid) mid.values)
      ∙ alu_mean_at m.kinds op kind inner.sources mid.values place (shape-from_may_stand op forms.stands) within
      ∙ ap (λ l. op_mean op (width_bits (unsized_width op (first_of widths) l)) (width_bits (first_of widths)) (column place (map (read mid.values) inner.sources))) fits.sizes
      ∙ ap (op_mean op (width_bits w) (width_bits (first_of widths)))
      (built_values m inputs outputs buffers next0 count vars binds is bound lows long place within args (drop 1 widths) next0 state (omega arith) forms.inner sizes.inner first_sized first_told))
      (sym (values_none rest (drop (suc (size_of args)) widths) (env binds state.values place) (omega (arith, one))))
