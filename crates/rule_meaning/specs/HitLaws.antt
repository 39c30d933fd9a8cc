-- What a match says of what is put: the sizes of the replacement, the instructions, how few they are, and how light.
use Rattle.std.specs.Prelude.{◌≡◌, refl, ◌+◌, ◌<◌, ◌≤◌, ◌^◌, ◌&&◌, ℕ, true, Option, Some, List, [], ◌∷◌, ◌++◌, length, drop, nat_eq, slice_get, IsSome, sum_by}
use Rattle.std.proofs.Common.{sym, ◌∙◌, ap, subst, arith}
use Rattle.std.proofs.lemmas.Bool.{and_parts, eqb-true, ltb-true}
use Rattle.std.proofs.lemmas.List.{length-append, length-drop}
use Rattle.std.proofs.lemmas.Option.{same_Some}
use Rattle.std.specs.Option.{option_and_then, option_map}
use Rattle.list_laws.specs.AllLaws.{passes_at}
use Rattle.nir_ops.specs.declared.op.Op.{Op}
use Rattle.nir_ops.specs.declared.op.Op.TheVariants.{Mov}
use Rattle.nir_ops.specs.declared.width.Width.{Width}
use Rattle.op_eval.specs.Calls.{same_width}
use Rattle.nir_ir.specs.Definitions.{instr_defining}
use Rattle.nir_ir.specs.declared.ids.ValueId.{ValueId}
use Rattle.nir_ir.specs.declared.instr.Instr.{Instr}
use Rattle.nir_ir.specs.declared.instr.Instr.TheVariants.{Alu}
use Rattle.nir_ir.specs.Edits.{ArePlaced, with_news}
use Rattle.nir_ir.specs.Shader.{Shader}
use Rattle.nir_ir.specs.Shaped.{IsShaped}
use Rattle.nir_validate.specs.Valid.{Valid}
use Rattle.run_laws.specs.InPlace.{Keeps}
use Rattle.rule_term.specs.Descending.{descends, is_descending, root_weight, terms_weight}
use Rattle.rule_term.specs.FewNodes.{few_replaced}
use Rattle.rule_term.specs.Formed.{IsFormed}
use Rattle.rule_term.specs.Holds.{Holds}
use Rattle.rule_term.specs.Replaced.{replace_for}
use Rattle.rule_term.specs.Rule.{Rule}
use Rattle.rule_term.specs.Table.{Table, op_weight}
use Rattle.rule_term.specs.Terms.{Terms, Nil, VarThen, LitThen, AppThen}
use Rattle.rule_term.specs.Typings.{agree, first_of, is_typing, obeys, occurrences, replace_part, search_part, size_of}
use Rattle.nir_search.specs.declared.hit.Bind.{Bind}
use Rattle.nir_search.specs.declared.hit.Hit.{Hit}
use Rattle.nir_search.specs.Match.{match_of, root_view}
use Rattle.nir_search.specs.Put.{Root, made, root_of}
use Rattle.nir_search.specs.Steps.{IsHit, count_of, put, put_hit, put_typed}
use Rattle.nir_search.specs.Weight.{instr_weight, weight_of}
use Rattle.nir_search.specs.Work.{MayReplace, next_behind, replaced_by}
use Rattle.rule_meaning.specs.Hits.{matched}
use Rattle.rule_meaning.specs.Matched.{sizes_met, walk_of}
use Rattle.rule_meaning.specs.PutLaws.{put-keeps}
use Rattle.rule_meaning.specs.RootBuiltLaws.{root_placed}
use Rattle.rule_meaning.specs.RowLaws.{made_in_order, made_next}
use Rattle.rule_meaning.specs.TypingLaws.{picked}
use Rattle.rule_meaning.specs.WeightLaws.{root_weighs, root_weighs_as, weight_placed}

-- the instructions that a rule puts where its replacement has these sizes
abbrev pub root_at : Shader → Rule → ValueId → List Bind → List Width → Root
root_at s rule value binds widths = root_of binds value (count_of s value) rule.replace widths s.next_value

-- instructions that a rule puts in the place of the one that defines the value
pub record ArePut (rule : Rule) (variant : ℕ) (s : Shader) (value : ValueId) (binds : List Bind) (news : List Instr) : Type 0 where
  pub are : put rule variant s value binds ≡ Some (replaced_by s value news)
  pub placed : ArePlaced s.next_value (next_behind s news) value news
  pub few : length news ≤ size_of rule.replace
  pub light : (weight : Op → ℕ) → weight Mov ≡ 0 → sum_by (instr_weight weight) news ≡ terms_weight weight rule.replace

-- the replacement has sizes, and by them its instructions are put
pub record PutSays (s : Shader) (rule : Rule) (variant : ℕ) (value : ValueId) (binds : List Bind) : Type 0 where
  pub widths : List Width
  pub sizes : replace_for rule (sizes_met s rule variant value) ≡ Some widths
  pub long : length widths ≡ size_of rule.replace
  pub news : ArePut rule variant s value binds (root_at s rule value binds widths).instrs

-- a typing has a size for each node
typing_long : (rule : Rule) (typing : List Width) → is_typing rule typing ≡ true → length (replace_part rule typing) ≡ size_of rule.replace
unfolding is_typing
typing_long rule typing h =
    let long = nat_eq (length typing) (size_of rule.search + size_of rule.replace) in
    let search = obeys rule.search (search_part rule typing) in
    let replace = obeys rule.replace (replace_part rule typing) in
    let root = same_width (first_of (search_part rule typing)) (first_of (replace_part rule typing)) in
    let all = agree (occurrences rule.search (search_part rule typing) ++ occurrences rule.replace (replace_part rule typing)) in
    let four = and_parts (long && search && replace && root) all h in
    let three = and_parts (long && search && replace) root four.0 in
    let two = and_parts (long && search) replace three.0 in
    let one = and_parts long search two.0 in
    let same : length typing ≡ size_of rule.search + size_of rule.replace = eqb-true (length typing) (size_of rule.search + size_of rule.replace) one.0 in
    let left = length-drop (size_of rule.search) typing in
    omega (arith, same, left)

root_few : (binds : List Bind) (value : ValueId) (count : ℕ) (terms : Terms) (widths : List Width) (next : ℕ) → length (root_of binds value count terms widths next).instrs ≤ size_of terms
root_few binds value count Nil widths next = omega arith
root_few binds value count (VarThen var constant size cond rest) widths next = omega arith
root_few binds value count (LitThen number boolean rest) widths next = omega arith
root_few binds value count (AppThen op size once args rest) widths next =
    let inner = made binds count args (drop 1 widths) next in
    let own : Instr = Alu value op (record { width = first_of widths; count = count }) inner.sources in
    let ends = (made_in_order binds count args (drop 1 widths) next).ends in
    let most = made_next binds count args (drop 1 widths) next in
    let long : length (inner.instrs ++ own ∷ []) ≡ length inner.instrs + 1 = length-append inner.instrs (own ∷ []) in
    omega (arith, ends, most, long)

behind_placed : (s : Shader) (value : ValueId) (news : List Instr) (after : ℕ) → ArePlaced s.next_value after value news → after ≡ next_behind s news
behind_placed s value news after placed =
    let long : length news ≡ length placed.front + 1 = ap length placed.are ∙ length-append placed.front (placed.last ∷ []) in
    let counted = placed.counted in
    omega (arith, long, counted)

pub put_says : (s : Shader) (rule : Rule) → IsFormed rule → (variant : ℕ) (value : ValueId) (binds : List Bind) → match_of rule variant s.body value ≡ Some binds → PutSays s rule variant value binds
unfolding put replace_for
put_says s rule formed variant value binds found =
    let own = picked rule (sizes_met s rule variant value) (walk_of s rule variant value binds found).typed in
    let widths = replace_part rule own.typing in
    let root = root_at s rule value binds widths in
    let placed = root_placed binds value (count_of s value) rule.replace widths s.next_value formed.one_replace in
    let behind = behind_placed s value root.instrs root.next placed in
    record {
      widths = widths;
      sizes = ap (option_map (replace_part rule)) own.found;
      long = typing_long rule own.typing own.is;
      news = record {
        are = ap (option_map (put_typed rule s value binds)) own.found ∙ ap (λ n. Some (with_news s value root.instrs n)) behind;
        placed = subst (λ n. ArePlaced s.next_value n value root.instrs) behind placed;
        few = root_few binds value (count_of s value) rule.replace widths s.next_value;
        light = λ weight mov. root_weighs weight binds (count_of s value) value rule.replace widths s.next_value mov formed.one_replace;
      };
    }

-- by whichever sizes the replacement has
pub put_with : (s : Shader) (rule : Rule) → IsFormed rule → (variant : ℕ) (value : ValueId) (binds : List Bind) → match_of rule variant s.body value ≡ Some binds → (widths : List Width) → replace_for rule (sizes_met s rule variant value) ≡ Some widths
    → (length widths ≡ size_of rule.replace) × ArePut rule variant s value binds (root_at s rule value binds widths).instrs
put_with s rule formed variant value binds found widths is =
    let says = put_says s rule formed variant value binds found in
    let same : says.widths ≡ widths = same_Some says.widths widths (sym says.sizes ∙ is) in (
      subst (λ w. length w ≡ size_of rule.replace) same says.long,
      subst (λ w. ArePut rule variant s value binds (root_at s rule value binds w).instrs) same says.news,
    )

-- ---- what matches weighs

module _ (s : Shader) (shaped : IsShaped s) (rule : Rule) (formed : IsFormed rule) (variant : ℕ) (value : ValueId) (binds : List Bind) (found : match_of rule variant s.body value ≡ Some binds) where
  -- the instruction whose value is matched
  abbrev root_of_match : Instr
  root_of_match = let root = (matched s shaped rule formed variant value binds found).root in Alu root.instr.id root.op root.instr.kind root.srcs

  root_is : instr_defining value s.body ≡ Some root_of_match
  root_is = (matched s shaped rule formed variant value binds found).root.instr.is

  root_is_heavy : (weight : Op → ℕ) → instr_weight weight root_of_match ≡ root_weight weight rule.search
  root_is_heavy weight =
      let walk = walk_of s rule variant value binds found in
      root_weighs_as weight s value root_of_match rule.search variant (root_view s.body value) _ walk.bound refl root_is formed.application walk.matched

  -- by a rule that descends it weighs something, and so does its shader
  pub match_weighs : (weight : Op → ℕ) → descends weight rule ≡ true → 1 ≤ weight_of weight s
  match_weighs weight down =
      let without = weight_placed weight s value [] root_of_match s.next_value shaped root_is in
      let heavy = root_is_heavy weight in
      let less : terms_weight weight rule.replace < root_weight weight rule.search = ltb-true (terms_weight weight rule.replace) (root_weight weight rule.search) down in
      omega (arith, without, heavy, less)

-- ---- what instructions that are put keep

module _ (s : Shader) (shaped : IsShaped s) (valid : Valid s) (rule : Rule) (formed : IsFormed rule) (variant : ℕ) (value : ValueId) (binds : List Bind) (found : match_of rule variant s.body value ≡ Some binds)
    (news : List Instr) (are : ArePut rule variant s value binds news) where
  pub news_keep : Holds rule → Keeps s (replaced_by s value news)
  news_keep holds = put-keeps s rule variant value binds (replaced_by s value news) shaped valid formed holds found are.are

  pub may_replace : Holds rule → s.next_value + 64 < 2 ^ 32 → MayReplace s value news
  may_replace holds fresh =
      let root = (matched s shaped rule formed variant value binds found).root in
      let few = are.few in
      let small = few_replaced rule formed in
      record {
        defined = subst (λ (o : Option Instr). IsSome o) (sym root.instr.is) refl;
        placed = are.placed;
        small = omega (arith, few, small, fresh);
        shaped = (news_keep holds).shaped;
        valid = (news_keep holds).valid;
      }

  -- they weigh less where the rule descends
  pub news_fall : (weight : Op → ℕ) → weight Mov ≡ 0 → descends weight rule ≡ true → weight_of weight (replaced_by s value news) + 1 ≤ weight_of weight s
  news_fall weight mov down =
      let changed = weight_placed weight s value news (root_of_match s shaped rule formed variant value binds found) (next_behind s news) shaped (root_is s shaped rule formed variant value binds found) in
      let heavy = root_is_heavy s shaped rule formed variant value binds found weight in
      let light = are.light weight mov in
      let less : terms_weight weight rule.replace < root_weight weight rule.search = ltb-true (terms_weight weight rule.replace) (root_weight weight rule.search) down in
      omega (arith, changed, heavy, light, less)

-- ---- a hit of a rule of a table

module _ (table : Table) (s : Shader) (shaped : IsShaped s) (valid : Valid s) (value : ValueId) (hit : Hit) (rule : Rule) (formed : IsFormed rule) (at : slice_get table.rules hit.rule ≡ Some rule)
    (is : IsHit table.rules s.body value hit) (binds : List Bind) (same : binds ≡ hit.subst) where
  pub hit_found : match_of rule hit.variant s.body value ≡ Some binds
  hit_found = sym (ap (option_and_then (λ r. match_of r hit.variant s.body value)) at) ∙ is ∙ ap Some (sym same)

  module _ (news : List Instr) (are : ArePut rule hit.variant s value binds news) where
    pub hit_may : Holds rule → s.next_value + 64 < 2 ^ 32 → MayReplace s value news
    hit_may holds fresh = may_replace s shaped valid rule formed hit.variant value binds hit_found news are holds fresh

    pub hit_is_put : put_hit table.rules s value hit ≡ Some (replaced_by s value news)
    hit_is_put = ap (option_and_then (λ r. put r hit.variant s value hit.subst)) at ∙ ap (put rule hit.variant s value) (sym same) ∙ are.are

    pub hit_keeps : Holds rule → Keeps s (replaced_by s value news)
    hit_keeps holds = news_keep s shaped valid rule formed hit.variant value binds hit_found news are holds

    pub hit_few : next_behind s news ≤ s.next_value + 64
    hit_few =
        let few = are.few in
        let small = few_replaced rule formed in
        omega (arith, few, small)

    pub hit_falls : op_weight table Mov ≡ 0 → is_descending table ≡ true → weight_of (op_weight table) (replaced_by s value news) + 1 ≤ weight_of (op_weight table) s
    hit_falls mov down =
        news_fall s shaped valid rule formed hit.variant value binds hit_found news are (op_weight table) mov (passes_at (descends (op_weight table)) table.rules hit.rule rule down at)
