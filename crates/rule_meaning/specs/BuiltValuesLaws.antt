-- What is built of a replacement has, behind its instructions, the values of the terms.
use Rattle.std.specs.Prelude.{◌≡◌, refl, ◌<◌, ◌≤◌, ℕ, zero, suc, true, Option, Some, List, [], ◌∷◌, ◌++◌, map, length, slice_index, drop}
use Rattle.std.proofs.Common.{sym, ◌∙◌, ap, ap₂, subst, arith}
use Rattle.std.proofs.lemmas.Bool.{and_parts, ne_eqb}
use Rattle.std.proofs.lemmas.List.{get_or-map, get_or-replicate}
use Rattle.std.proofs.lemmas.List.FromFn.{get_or-map-range_with_len}
use Rattle.std.specs.List.{AllByRecursion, list_all, slice_index_or}
use Rattle.list_laws.specs.AllLaws.{all_back, all_each, all_front}
use Rattle.nir_ops.specs.declared.width.Width.{Width}
use Rattle.nir_ops.specs.Width.{width_bits}
use Rattle.op_eval.specs.Calls.{unsized_width}
use Rattle.op_eval.specs.Meaning.{op_mean}
use Rattle.op_eval.specs.Views.{column}
use Rattle.op_eval.specs.Word.{residue}
use Rattle.nir_ir.specs.declared.ids.ValueId.{ValueId}
use Rattle.nir_ir.specs.declared.instr.Instr.{Instr}
use Rattle.nir_ir.specs.declared.instr.Instr.TheVariants.{Alu}
use Rattle.nir_ir.specs.declared.kind.Kind.{Kind}
use Rattle.nir_ir.specs.Definitions.{kind_of_target, width_in}
use Rattle.nir_ir.specs.Items.{target}
use Rattle.nir_ir.specs.Shaped.{IsCount}
use Rattle.rule_term.specs.Formed.{replace_piece_formed}
use Rattle.rule_term.specs.Holds.{values_of}
use Rattle.rule_term.specs.Pieces.{LitPiece, VarPiece, pieces}
use Rattle.rule_term.specs.Standing.{shape-from_may_stand}
use Rattle.rule_term.specs.Terms.{Terms, Nil, VarThen, LitThen, AppThen}
use Rattle.rule_term.specs.Typings.{Occurrence, first_of, has_size, literal_fits, obeys, occurrences, roots, size_of}
use Rattle.nir_search.specs.declared.hit.Bind.{Bind}
use Rattle.nir_search.specs.Put.{bound_to, const_instr, made, view_source, whole_source}
use Rattle.nir_mean.specs.Reads.{run_instrs-append, with_value-here, with_value-other}
use Rattle.nir_mean.specs.Run.{Setting, run_instr, run_instrs, value_of}
use Rattle.nir_mean.specs.State.{State, with_target}
use Rattle.nir_mean.specs.Values.{Values, read}
use Rattle.rule_meaning.specs.BuiltLaws.{AreSized, AreSources, KindsTold, app_formed, app_obeys, built_fits, var_formed}
use Rattle.rule_meaning.specs.Env.{at_place, env}
use Rattle.rule_meaning.specs.RowLaws.{InRow, made_in_order}
use Rattle.rule_meaning.specs.Views.{alu_mean_at}

-- a value below the numbers that are defined stays
pub row_stays : (m : Setting) (instrs : List Instr) (from n : ℕ) (state : State) → InRow from instrs → n < from → (run_instrs m instrs state).values n ≡ state.values n
row_stays m [] from n state row less = refl
row_stays m (instr ∷ instrs) from n state row less =
    row_stays m instrs (suc from) n (run_instr m instr state) row.1 (omega (arith, less))
    ∙ ap (λ (found : Option ValueId). with_target found (value_of m instr state) state.values n) row.0
    ∙ with_value-other (record { 0 = from }) (value_of m instr state) state.values n (ne_eqb n from (λ same. absurd (omega (arith, same, less))))

-- the value that an instruction defines, behind it and others
pub row_made : (m : Setting) (instr : Instr) (instrs : List Instr) (n : ℕ) (state : State) → target instr ≡ Some (record { 0 = n }) → InRow (suc n) instrs
    → (run_instrs m (instr ∷ instrs) state).values n ≡ value_of m instr state
row_made m instr instrs n state aims row =
    row_stays m instrs (suc n) n (run_instr m instr state) row (omega arith)
    ∙ ap (λ (found : Option ValueId). with_target found (value_of m instr state) state.values n) aims
    ∙ with_value-here (record { 0 = n }) (value_of m instr state) state.values

-- the variables have the same where their values are the same
pub env_same : (binds : List Bind) (f g : Values) (place : ℕ) → AllByRecursion (λ view. f view.value.0 ≡ g view.value.0) binds → env binds f place ≡ env binds g place
env_same [] f g place all = refl
env_same (view ∷ binds) f g place all = ap₂ (λ (x : ℕ) (l : List ℕ). x ∷ l) (ap (λ comps. slice_index comps (slice_index view.comps place)) all.0) (env_same binds f g place all.1)

-- a variable has what stands in its view
pub env_at : (binds : List Bind) (values : Values) (place var : ℕ) → var < length binds → slice_index_or (env binds values place) var 0 ≡ at_place values place (bound_to binds var)
env_at [] values place var less = absurd (omega (arith, less))
env_at (first ∷ binds) values place zero less = refl
env_at (first ∷ binds) values place (suc var) less = env_at binds values place var (omega (arith, less))

-- what is read of all components of a value
pub whole_read : (values : Values) (id : ValueId) (count place : ℕ) → place < count → slice_index (read values (whole_source id count)) place ≡ slice_index (values id.0) place
whole_read values id count place within = get_or-map-range_with_len (λ c. slice_index (values id.0) c) 0 count place place 0 within (omega arith)

pub view_read : (values : Values) (view : Bind) (place : ℕ) → place < length view.comps → slice_index (read values (view_source view)) place ≡ at_place values place view
view_read values view place within = get_or-map (λ c. slice_index (values view.value.0) c) view.comps place 0 0 within

module _ (m : Setting) (inputs outputs : List Kind) (buffers next0 count vars : ℕ) (binds : List Bind) (is : IsCount count) (bound : AreSources m.kinds next0 count vars binds)
    (lows : AllByRecursion (λ view. view.value.0 < next0) binds) (long : length binds ≡ vars) (place : ℕ) (within : place < count) where
  -- what the variables have stays where only fresh values are defined
  env_stays : (instrs : List Instr) (from : ℕ) (state : State) → next0 ≤ from → InRow from instrs → env binds (run_instrs m instrs state).values place ≡ env binds state.values place
  env_stays instrs from state above row =
      env_same binds (run_instrs m instrs state).values state.values place
      (all_each (λ (view : Bind). view.value.0 < next0) (λ (view : Bind). (run_instrs m instrs state).values view.value.0 ≡ state.values view.value.0)
      (λ view low. row_stays m instrs from view.value.0 state row (omega (arith, low, above))) binds lows)

  pub built_values : (terms : Terms) (widths : List Width) (next : ℕ) (state : State) → next0 ≤ next → list_all (replace_piece_formed vars) (pieces terms) ≡ true → obeys terms widths ≡ true
      → AreSized m.kinds binds (occurrences terms widths) → KindsTold m.kinds (made binds count terms widths next).instrs
      → column place (map (read (run_instrs m (made binds count terms widths next).instrs state).values) (made binds count terms widths next).sources) ≡ values_of terms widths (env binds state.values place)
  built_values Nil widths next state above formed obey sized told = refl
  built_values (VarThen var constant size cond rest) widths next state above formed obey sized told =
      let built = made binds count rest (drop 1 widths) next in
      let after = run_instrs m built.instrs state in
      let parts = and_parts (replace_piece_formed vars (VarPiece var constant size cond)) (list_all (replace_piece_formed vars) (pieces rest)) formed in
      let less = var_formed vars var constant size cond parts.0 in
      let own = bound var less in
      let view = bound_to binds var in
      ap₂ (λ (x : ℕ) (l : List ℕ). x ∷ l)
      (view_read after.values view place (subst (λ n. place < n) (sym own.places) within)
      ∙ ap (λ comps. slice_index comps (slice_index view.comps place)) (let low = own.low in row_stays m built.instrs next view.value.0 state (made_in_order binds count rest (drop 1 widths) next).row (omega (arith, low, above)))
      ∙ sym (env_at binds state.values place var (subst (λ n. var < n) (sym long) less)))
      (built_values rest (drop 1 widths) next state above parts.1 (and_parts (has_size size (first_of widths)) (obeys rest (drop 1 widths)) obey).1 sized.1 told)
  built_values (LitThen number boolean rest) widths next state above formed obey sized told =
      let kind : Kind = record { width = first_of widths; count = count } in
      let id : ValueId = record { 0 = next } in
      let own : Instr = const_instr id kind number in
      let word : ℕ = residue (width_bits (first_of widths)) number in
      let built = made binds count rest (drop 1 widths) (suc next) in
      let mid = run_instr m own state in
      let after = run_instrs m built.instrs mid in
      let row = (made_in_order binds count rest (drop 1 widths) (suc next)).row in
      let parts = and_parts (replace_piece_formed vars (LitPiece number boolean)) (list_all (replace_piece_formed vars) (pieces rest)) formed in
      ap₂ (λ (x : ℕ) (l : List ℕ). x ∷ l)
      (whole_read after.values id count place within
      ∙ ap (λ comps. slice_index comps place) (row_made m own built.instrs next state refl row)
      ∙ get_or-replicate count place word 0 within)
      (built_values rest (drop 1 widths) (suc next) mid (omega (arith, above)) parts.1 (and_parts (literal_fits number boolean (first_of widths)) (obeys rest (drop 1 widths)) obey).1 sized told.1
      ∙ ap (values_of rest (drop 1 widths)) (env_stays (own ∷ []) next state above (refl, tt)))
  built_values (AppThen op size once args rest) widths next state above formed obey sized told =
      let inner = made binds count args (drop 1 widths) next in
      let built = made binds count rest (drop (suc (size_of args)) widths) (suc inner.next) in
      let kind : Kind = record { width = first_of widths; count = count } in
      let id : ValueId = record { 0 = inner.next } in
      let own : Instr = Alu id op kind inner.sources in
      let told_of = λ (instr : Instr). (i : ValueId) → target instr ≡ Some i → m.kinds i ≡ kind_of_target instr in
      let sized_of = λ (o : Occurrence). width_in m.kinds (bound_to binds o.var).value ≡ o.width in
      let occurs = occurrences args (drop 1 widths) in
      let occurs_more = occurrences rest (drop (suc (size_of args)) widths) in
      let forms = app_formed vars op size once args rest formed in
      let sizes = app_obeys op size once args rest widths obey in
      let first_told = all_front told_of inner.instrs (own ∷ built.instrs) told in
      let behind_told = all_back told_of inner.instrs (own ∷ built.instrs) told in
      let first_sized = all_front sized_of occurs occurs_more sized in
      let one = run_instrs m inner.instrs state in
      let mid = run_instr m own one in
      let after = run_instrs m built.instrs mid in
      let inner_order = made_in_order binds count args (drop 1 widths) next in
      let row = (made_in_order binds count rest (drop (suc (size_of args)) widths) (suc inner.next)).row in
      let ends = inner_order.ends in
      let high : next0 ≤ inner.next = omega (arith, above, ends) in
      let whole : run_instrs m (inner.instrs ++ own ∷ built.instrs) state ≡ after = run_instrs-append m inner.instrs (own ∷ built.instrs) state in
      let fits = built_fits m.kinds inputs outputs buffers next0 count vars binds is bound args (drop 1 widths) next forms.inner sizes.inner first_sized first_told in
      let w : Width = unsized_width op (first_of widths) (roots args (drop 1 widths)) in
      ap (λ (s : State). column place (map (read s.values) (whole_source id count ∷ built.sources))) whole
      ∙ ap₂ (λ (x : ℕ) (l : List ℕ). x ∷ l)
      (whole_read after.values id count place within
      ∙ ap (λ comps. slice_index comps place) (row_made m own built.instrs inner.next one refl row)
      ∙ alu_mean_at m.kinds op kind inner.sources one.values place (shape-from_may_stand op forms.stands) within
      ∙ ap (λ l. op_mean op (width_bits (unsized_width op (first_of widths) l)) (width_bits (first_of widths)) (column place (map (read one.values) inner.sources))) fits.sizes
      ∙ ap (op_mean op (width_bits w) (width_bits (first_of widths))) (built_values args (drop 1 widths) next state above forms.inner sizes.inner first_sized first_told))
      (built_values rest (drop (suc (size_of args)) widths) (suc inner.next) mid (omega (arith, high)) forms.behind sizes.behind (all_back sized_of occurs occurs_more sized) behind_told.1
      ∙ ap (values_of rest (drop (suc (size_of args)) widths)) (env_stays (own ∷ []) inner.next one high (refl, tt) ∙ env_stays inner.instrs next state above inner_order.row))
