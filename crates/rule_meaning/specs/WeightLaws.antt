-- The weight of a shader where instructions take the place of one of its own, and of the instructions of a replacement.
use Rattle.std.specs.Prelude.{◌≡◌, refl, ◌+◌, ◌≤◌, ℕ, suc, Option, Some, None, List, [], ◌∷◌, ◌++◌, Bool, true, false, count_by, sum_by, drop}
use Rattle.std.proofs.Common.{sym, ◌∙◌, ap, arith}
use Rattle.std.proofs.lemmas.Bool.{cond-true, cond-false, false≢true}
use Rattle.std.proofs.lemmas.List.Sums.{sum_by-append, sum_by-cons}
use Rattle.std.proofs.lemmas.Option.{none-some, same_Some}
use Rattle.std.specs.List.{find, flat_map}
use Rattle.std.specs.Option.{option_and_then, option_map_or}
use denote.Enum.Bare.{same_true}
use Rattle.nir_ops.specs.contracts.op.Op as op_row
use Rattle.nir_ops.specs.declared.op.Op.{Op}
use Rattle.nir_ops.specs.declared.op.Op.TheVariants.{Mov}
use Rattle.nir_ops.specs.declared.width.Width.{Width}
use Rattle.nir_ir.specs.declared.ids.ValueId.{ValueId}
use Rattle.nir_ir.specs.declared.instr.Src.{Src}
use Rattle.nir_ir.specs.declared.instr.Instr.{Instr}
use Rattle.nir_ir.specs.declared.instr.Instr.TheVariants.{Alu}
use Rattle.nir_ir.specs.Definitions.{alu_at, alu_of, instr_defining, instrs, is_target}
use Rattle.nir_ir.specs.Edits.{in_place_of, with_news}
use Rattle.nir_ir.specs.EditsShaped.{count_by-cons, definition_count-once, instrs-replaced, unchanged}
use Rattle.nir_ir.specs.Shader.{Shader}
use Rattle.nir_ir.specs.Shaped.{IsShaped}
use Rattle.rule_term.specs.Descending.{root_weight, terms_weight}
use Rattle.rule_term.specs.Formed.{is_application}
use Rattle.rule_term.specs.Pieces.{terms_count}
use Rattle.rule_term.specs.Terms.{Terms, Nil, VarThen, LitThen, AppThen}
use Rattle.rule_term.specs.Typings.{first_of, size_of}
use Rattle.rule_term.specs.Variants.{bits_behind, bits_left, is_swapped}
use Rattle.nir_search.specs.declared.hit.Bind.{Bind}
use Rattle.nir_search.specs.Match.{children, has_op, is_applied, matches}
use Rattle.nir_search.specs.Put.{bound_to, const_instr, made, root_of, view_source}
use Rattle.nir_search.specs.Weight.{instr_weight, weight_of}
use Rattle.list_laws.specs.OptionLaws.{if_some}
use Rattle.std.proofs.lemmas.Bool.{and_parts}

-- ---- instructions in the place of one

here_sum : (whole changed first rest new old : ℕ) → whole ≡ first + rest → changed ≡ new + rest → first ≡ old → whole + new ≡ changed + old
here_sum whole changed first rest new old a b e = omega arith

there_sum : (whole changed first rest behind new old : ℕ) → whole ≡ first + rest → changed ≡ first + behind → rest + new ≡ behind + old → whole + new ≡ changed + old
there_sum whole changed first rest behind new old a b e = omega arith

-- of which at most one defines the value
sum_placed : (f : Instr → ℕ) (value : ValueId) (news : List Instr) (old : Instr) (list : List Instr) → count_by (is_target value) list ≤ 1 → find (is_target value) list ≡ Some old
    → sum_by f list + sum_by f news ≡ sum_by f (flat_map (in_place_of value news) list) + f old
sum_placed f value news old [] few found = absurd (none-some old found)
sum_placed f value news old (instr ∷ list) few found = by_test (is_target value instr) refl (sum_placed f value news old list) where
  by_test : (here : Bool) → is_target value instr ≡ here
      → (count_by (is_target value) list ≤ 1 → find (is_target value) list ≡ Some old → sum_by f list + sum_by f news ≡ sum_by f (flat_map (in_place_of value news) list) + f old)
      → sum_by f (instr ∷ list) + sum_by f news ≡ sum_by f (flat_map (in_place_of value news) (instr ∷ list)) + f old
  by_test true h rest =
      let more : count_by (is_target value) (instr ∷ list) ≡ 1 + count_by (is_target value) list =
      count_by-cons (is_target value) instr list ∙ ap (λ n. n + count_by (is_target value) list) (cond-true {A = ℕ} (is_target value instr) 1 0 h) in
      let none : count_by (is_target value) list ≡ 0 = omega (arith, few, more) in
      let placed : flat_map (in_place_of value news) (instr ∷ list) ≡ news ++ list =
      ap (λ t. t ++ flat_map (in_place_of value news) list) (cond-true (is_target value instr) news (instr ∷ []) h) ∙ ap (λ t. news ++ t) (unchanged value news list none) in
      let same : instr ≡ old = same_Some instr old (sym (cond-true (is_target value instr) (Some instr) (find (is_target value) list) h) ∙ found) in
      here_sum (sum_by f (instr ∷ list)) (sum_by f (flat_map (in_place_of value news) (instr ∷ list))) (f instr) (sum_by f list) (sum_by f news) (f old)
      (sum_by-cons f instr list) (ap (sum_by f) placed ∙ sum_by-append f news list) (ap f same)
  by_test false h rest =
      let fewer : count_by (is_target value) (instr ∷ list) ≡ 0 + count_by (is_target value) list =
      count_by-cons (is_target value) instr list ∙ ap (λ n. n + count_by (is_target value) list) (cond-false {A = ℕ} (is_target value instr) 1 0 h) in
      let placed : flat_map (in_place_of value news) (instr ∷ list) ≡ instr ∷ flat_map (in_place_of value news) list =
      ap (λ t. t ++ flat_map (in_place_of value news) list) (cond-false (is_target value instr) news (instr ∷ []) h) in
      there_sum (sum_by f (instr ∷ list)) (sum_by f (flat_map (in_place_of value news) (instr ∷ list))) (f instr) (sum_by f list) (sum_by f (flat_map (in_place_of value news) list)) (sum_by f news) (f old)
      (sum_by-cons f instr list) (ap (sum_by f) placed ∙ sum_by-cons f instr (flat_map (in_place_of value news) list))
      (rest (omega (arith, few, fewer)) (sym (cond-false (is_target value instr) (Some instr) (find (is_target value) list) h) ∙ found))

-- the weight changes by that of the old instruction and by that of the new ones
pub weight_placed : (weight : Op → ℕ) (s : Shader) (value : ValueId) (news : List Instr) (old : Instr) (after : ℕ) → IsShaped s → instr_defining value s.body ≡ Some old
    → weight_of weight s + sum_by (instr_weight weight) news ≡ weight_of weight (with_news s value news after) + instr_weight weight old
weight_placed weight s value news old after shaped found =
    sum_placed (instr_weight weight) value news old (instrs s.body) (definition_count-once value s.body shaped.values) found
    ∙ ap (λ list. sum_by (instr_weight weight) list + instr_weight weight old) (sym (instrs-replaced value news s.body))

-- ---- the instructions of a replacement

module _ (weight : Op → ℕ) (binds : List Bind) (count : ℕ) where
  abbrev weighs : Instr → ℕ
  weighs = instr_weight weight

  pub made_weight : (terms : Terms) (widths : List Width) (next : ℕ) → sum_by weighs (made binds count terms widths next).instrs ≡ terms_weight weight terms
  made_weight Nil widths next = refl
  made_weight (VarThen var constant size cond rest) widths next = made_weight rest (drop 1 widths) next
  made_weight (LitThen number boolean rest) widths next =
      let more = made binds count rest (drop 1 widths) (suc next) in
      let own : Instr = const_instr (record { 0 = next }) (record { width = first_of widths; count = count }) number in
      let first : sum_by weighs (own ∷ more.instrs) ≡ 0 + sum_by weighs more.instrs = sum_by-cons weighs own more.instrs in
      let behind : sum_by weighs more.instrs ≡ terms_weight weight rest = made_weight rest (drop 1 widths) (suc next) in
      omega (arith, first, behind)
  made_weight (AppThen op size once args rest) widths next =
      let inner = made binds count args (drop 1 widths) next in
      let more = made binds count rest (drop (suc (size_of args)) widths) (suc inner.next) in
      let own : Instr = Alu (record { 0 = inner.next }) op (record { width = first_of widths; count = count }) inner.sources in
      let one : sum_by weighs inner.instrs ≡ terms_weight weight args = made_weight args (drop 1 widths) next in
      let two : sum_by weighs more.instrs ≡ terms_weight weight rest = made_weight rest (drop (suc (size_of args)) widths) (suc inner.next) in
      let split : sum_by weighs (inner.instrs ++ own ∷ more.instrs) ≡ sum_by weighs inner.instrs + sum_by weighs (own ∷ more.instrs) = sum_by-append weighs inner.instrs (own ∷ more.instrs) in
      let first : sum_by weighs (own ∷ more.instrs) ≡ weight op + sum_by weighs more.instrs = sum_by-cons weighs own more.instrs in
      omega (arith, one, two, split, first)

  none_weigh : (terms : Terms) → terms_count terms ≡ 0 → terms_weight weight terms ≡ 0
  none_weigh Nil none = refl
  none_weigh (VarThen var constant size cond rest) none = absurd (omega (arith, none))
  none_weigh (LitThen number boolean rest) none = absurd (omega (arith, none))
  none_weigh (AppThen op size once args rest) none = absurd (omega (arith, none))

  pub root_weighs : (value : ValueId) (terms : Terms) (widths : List Width) (next : ℕ) → weight Mov ≡ 0 → terms_count terms ≡ 1 → sum_by weighs (root_of binds value count terms widths next).instrs ≡ terms_weight weight terms
  root_weighs value Nil widths next light one = absurd (omega (arith, one))
  root_weighs value (VarThen var constant size cond rest) widths next light one =
      let own : Instr = Alu value Mov (record { width = first_of widths; count = count }) (view_source (bound_to binds var) ∷ []) in
      let none : terms_weight weight rest ≡ 0 = none_weigh rest (omega (arith, one)) in
      let first : sum_by weighs (own ∷ []) ≡ weight Mov + 0 = sum_by-cons weighs own [] in
      omega (arith, light, none, first)
  root_weighs value (LitThen number boolean rest) widths next light one =
      let own : Instr = const_instr value (record { width = first_of widths; count = count }) number in
      let none : terms_weight weight rest ≡ 0 = none_weigh rest (omega (arith, one)) in
      let first : sum_by weighs (own ∷ []) ≡ 0 + 0 = sum_by-cons weighs own [] in
      omega (arith, none, first)
  root_weighs value (AppThen op size once args rest) widths next light one =
      let inner = made binds count args (drop 1 widths) next in
      let own : Instr = Alu value op (record { width = first_of widths; count = count }) inner.sources in
      let under : sum_by weighs inner.instrs ≡ terms_weight weight args = made_weight args (drop 1 widths) next in
      let none : terms_weight weight rest ≡ 0 = none_weigh rest (omega (arith, one)) in
      let split : sum_by weighs (inner.instrs ++ own ∷ []) ≡ sum_by weighs inner.instrs + sum_by weighs (own ∷ []) = sum_by-append weighs inner.instrs (own ∷ []) in
      let first : sum_by weighs (own ∷ []) ≡ weight op + 0 = sum_by-cons weighs own [] in
      omega (arith, under, none, split, first)

-- ---- the instruction at which a rule matches

op_weighs : (weight : Op → ℕ) (op : Op) (found : Option (Op × List Src)) → has_op op found ≡ true → option_map_or (λ alu. weight alu.0) found 0 ≡ weight op
op_weighs weight op None has = absurd (false≢true has)
op_weighs weight op (Some alu) has = ap weight (same_true op_row.the_type tt alu.0 op has)

-- it weighs what the root of the search side weighs
root_found : (weight : Op → ℕ) (s : Shader) (terms : Terms) (bits : ℕ) (view : Bind) (before after : List (Option Bind)) → is_application terms ≡ true → matches s.body terms bits (view ∷ []) before ≡ Some after
    → option_map_or (λ alu. weight alu.0) (alu_at s.body view.value) 0 ≡ root_weight weight terms
root_found weight s Nil bits view before after application h = absurd (false≢true application)
root_found weight s (VarThen var constant size cond rest) bits view before after application h = absurd (false≢true application)
root_found weight s (LitThen number boolean rest) bits view before after application h = absurd (false≢true application)
root_found weight s (AppThen op size once args rest) bits view before after application h =
    let applied = if_some (is_applied s.body op once view) (option_and_then (matches s.body rest (bits_behind args (bits_left op bits)) []) (matches s.body args (bits_left op bits) (children s.body (is_swapped op bits) view) before)) after h in
    op_weighs weight op (alu_at s.body view.value) (and_parts _ _ applied.0).0

pub root_weighs_as : (weight : Op → ℕ) (s : Shader) (value : ValueId) (old : Instr) (terms : Terms) (bits : ℕ) (view : Bind) (before after : List (Option Bind)) → view.value ≡ value → instr_defining value s.body ≡ Some old
    → is_application terms ≡ true → matches s.body terms bits (view ∷ []) before ≡ Some after → instr_weight weight old ≡ root_weight weight terms
root_weighs_as weight s value old terms bits view before after own found application h =
    sym (ap (λ o. option_map_or (λ (alu : Op × List Src). weight alu.0) (option_and_then alu_of o) 0) found)
    ∙ ap (λ v. option_map_or (λ (alu : Op × List Src). weight alu.0) (alu_at s.body v) 0) (sym own)
    ∙ root_found weight s terms bits view before after application h
