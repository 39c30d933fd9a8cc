-- What a match along terms says: which variables it binds, and that the terms have the values of the views that they were matched with.
use Rattle.std.specs.Prelude.{◌≡◌, refl, ◌<◌, ◌≤◌, ◌^◌, ◌%◌, ◌&&◌, ℕ, suc, ℤ, Bool, true, Option, Some, None, List, [], ◌∷◌, ◌++◌, map, length, nat_eq, if◌then◌else◌, drop, is_some}
use Rattle.std.proofs.Common.{sym, ◌∙◌, ap, subst, arith}
use Rattle.std.proofs.lemmas.Bool.{and_parts, and_from, eqb-true, lt-ltb}
use Rattle.std.proofs.lemmas.Grind.{flat_map-append}
use Rattle.std.proofs.lemmas.Option.{same_Some}
use Rattle.std.proofs.Math.Nat.{suc_inj}
use Rattle.std.proofs.Math.Seq.{drop-append_seam}
use Rattle.std.proofs.lemmas.List.{drop-append-le, length-drop}
use Rattle.std.proofs.lemmas.List.Folds.{list_all-append}
use Rattle.std.specs.List.{AllByRecursion, list_all, slice_index_or}
use Rattle.std.specs.Option.{option_and_then, option_map_or}
use Rattle.nir_ops.specs.declared.op.Op.{Op}
use Rattle.nir_ops.specs.declared.width.Width.{Width}
use Rattle.nir_ops.specs.Opcodes.{op_info}
use Rattle.nir_ops.specs.Width.{width_bits}
use Rattle.op_eval.specs.Calls.{unsized_width}
use Rattle.op_eval.specs.Meaning.{op_mean}
use Rattle.op_eval.specs.Word.{residue}
use Rattle.nir_ir.specs.Definitions.{alu_at, const_at, width_at}
use Rattle.nir_ir.specs.Nodes.{Nodes}
use Rattle.nir_ir.specs.Shaped.{IsShaped}
use Rattle.nir_ir.specs.Shader.{Shader}
use Rattle.nir_ir.specs.Uses.{use_count}
use Rattle.rule_term.specs.declared.cond.Cond.{Cond}
use Rattle.rule_term.specs.declared.cond.Cond.TheVariants.{NotConst, UsedOnce}
use Rattle.rule_term.specs.Conditions.{cond_holds}
use Rattle.rule_term.specs.Formed.{literal_formed, may_stand, search_piece_formed}
use Rattle.rule_term.specs.Holds.{is_met, is_word, meets_cond, values_of}
use Rattle.rule_term.specs.Pieces.{pieces, terms_count, var_of, vars_of}
use Rattle.rule_term.specs.VariantLaws.{roots-front, values_of-front}
use Rattle.nir_search.specs.Met.{length-met}
use Rattle.rule_term.specs.Terms.{Terms, Nil, VarThen, LitThen, AppThen}
use Rattle.rule_term.specs.Typings.{Occurrence, occurrences, roots, size_of}
use Rattle.nir_search.specs.declared.hit.Bind.{Bind}
use Rattle.rule_term.specs.Variants.{bits_behind, bits_left, is_commutative, is_swapped}
use Rattle.nir_search.specs.Match.{bind, children, has_op, is_applied, is_literal, is_taken, matches, meets, met}
use Rattle.nir_mean.specs.Known.{IsKnown}
use Rattle.nir_mean.specs.Points.{Closed}
use Rattle.nir_validate.specs.Edges.{Set}
use Rattle.nir_mean.specs.Values.{Values}
use Rattle.rule_meaning.specs.Bound.{AreViews, Extends, IsBound, IsBoundTo, IsTaken, taken}
use Rattle.rule_meaning.specs.Env.{at_place}
use Rattle.rule_meaning.specs.Fit.{IsFit}
use Rattle.list_laws.specs.AllLaws.{all_append, all_back, all_each, all_front, passes_append}
use Rattle.list_laws.specs.OptionLaws.{between, if_some}
use Rattle.rule_meaning.specs.Views.{IsView, children_count, children_views, op_value, viewed_word, word_at}

-- each variable that is bound has what stands in the place of its view
abbrev pub Agrees : Values → ℕ → List (Option Bind) → List ℕ → Type 0
Agrees values place bound words = (var : ℕ) (view : Bind) → IsBoundTo bound var view → slice_index_or words var 0 ≡ at_place values place view

-- where the variables have these words and the nodes these sizes, the terms have the values of the views, each variable has a word of its size, and meets its conditions
pub record Says (values : Values) (place : ℕ) (terms : Terms) (sizes : List Width) (views : List Bind) (words : List ℕ) : Type 0 where
  pub equal : values_of terms sizes words ≡ map (at_place values place) views
  pub are_words : list_all (is_word words) (occurrences terms sizes) ≡ true
  pub are_met : list_all (is_met words) (occurrences terms sizes) ≡ true

-- an occurrence of a variable has the bit size of the value whose view the variable takes
abbrev pub HasSize : Nodes → List (Option Bind) → Occurrence → Type 0
HasSize body bound o = (view : Bind) → IsBoundTo bound o.var view → width_at body view.value ≡ o.width

pub record IsWalked (body : Nodes) (set : Set) (count : ℕ) (terms : Terms) (sizes : List Width) (views : List Bind) (before after : List (Option Bind)) : Type 0 where
  pub same : length after ≡ length before
  pub extends : Extends before after
  pub views_kept : AreViews body set count before → AreViews body set count after
  pub named : AllByRecursion (IsBound after) (vars_of terms)
  pub roots_are : roots terms sizes ≡ map (λ view. width_at body view.value) views
  pub sized : AllByRecursion (HasSize body after) (occurrences terms sizes)
  pub says : (values : Values) → IsKnown body set values → (words : List ℕ) (place : ℕ) → place < count → Agrees values place after words → Says values place terms sizes views words

-- conditions on uses and on consts ask nothing of a word
asks_nothing_const : (w x : ℕ) → cond_holds NotConst w x ≡ true
unfolding cond_holds
asks_nothing_const w x = refl

asks_nothing_uses : (w x : ℕ) → cond_holds UsedOnce w x ≡ true
unfolding cond_holds
asks_nothing_uses w x = refl

-- one variable is bound to one view
bound_once : (bound : List (Option Bind)) (var : ℕ) (a b : Bind) → IsBoundTo bound var a → IsBoundTo bound var b → a ≡ b
bound_once bound var a b one two = same_Some a b (same_Some (Some a) (Some b) (sym one ∙ two))

-- what has a size has it where more is bound
sized_on : (body : Nodes) (terms : Terms) (mid after : List (Option Bind)) (sizes : List Width) → AllByRecursion (IsBound mid) (vars_of terms) → Extends mid after
    → AllByRecursion (HasSize body mid) (occurrences terms sizes) → AllByRecursion (HasSize body after) (occurrences terms sizes)
sized_on body Nil mid after sizes named more all = tt
sized_on body (VarThen var constant size cond rest) mid after sizes named more all = (
  (λ view at. let own = named.0 in all.0 view (own.1 ∙ ap (λ v. Some (Some v)) (bound_once after var own.0 view (more var own.0 own.1) at))),
  sized_on body rest mid after (drop 1 sizes) named.1 more all.1,
)
sized_on body (LitThen value boolean rest) mid after sizes named more all = sized_on body rest mid after (drop 1 sizes) named more all
sized_on body (AppThen op size once args rest) mid after sizes named more all =
    let parts = subst (AllByRecursion (IsBound mid)) (flat_map-append var_of (pieces args) (pieces rest)) named in
    all_append (HasSize body after) (occurrences args (drop 1 sizes)) (occurrences rest (drop (suc (size_of args)) sizes))
    (sized_on body args mid after (drop 1 sizes) (all_front (IsBound mid) (vars_of args) (vars_of rest) parts) more (all_front (HasSize body mid) (occurrences args (drop 1 sizes)) (occurrences rest (drop (suc (size_of args)) sizes)) all))
    (sized_on body rest mid after (drop (suc (size_of args)) sizes) (all_back (IsBound mid) (vars_of args) (vars_of rest) parts) more (all_back (HasSize body mid) (occurrences args (drop 1 sizes)) (occurrences rest (drop (suc (size_of args)) sizes)) all))

-- sizes of terms in front of others
occurrences-front : (terms : Terms) (front behind : List Width) → size_of terms ≤ length front → occurrences terms (front ++ behind) ≡ occurrences terms front
occurrences-front Nil front behind long = refl
occurrences-front (VarThen var constant size cond rest) [] behind long = absurd (omega (arith, long))
occurrences-front (VarThen var constant size cond rest) (width ∷ front) behind long = ap (λ t. record { var = var; width = width; cond = cond } ∷ t) (occurrences-front rest front behind (omega (arith, long)))
occurrences-front (LitThen value boolean rest) [] behind long = absurd (omega (arith, long))
occurrences-front (LitThen value boolean rest) (width ∷ front) behind long = occurrences-front rest front behind (omega (arith, long))
occurrences-front (AppThen op size once args rest) [] behind long = absurd (omega (arith, long))
occurrences-front (AppThen op size once args rest) (width ∷ front) behind long =
    ap (λ t. t ++ occurrences rest (drop (size_of args) (front ++ behind))) (occurrences-front args front behind (omega (arith, long)))
    ∙ ap (λ l. occurrences args front ++ occurrences rest l) (drop-append-le (size_of args) front behind (omega (arith, long)))
    ∙ ap (λ t. occurrences args front ++ t) (occurrences-front rest (drop (size_of args) front) behind (subst (λ n. size_of rest ≤ n) (sym (length-drop (size_of args) front)) (omega (arith, long))))

module _ (body : Nodes) (set : Set) (count : ℕ) where
  -- a view that meets a condition has words that do
  cond_met : (values : Values) → IsKnown body set values → (cond : Cond) (view : Bind) (place : ℕ) → IsView body set count view → place < count → meets body view cond ≡ true → cond_holds cond (width_bits (width_at body view.value)) (at_place values place view) ≡ true
  cond_met values known NotConst view place is within h = asks_nothing_const (width_bits (width_at body view.value)) (at_place values place view)
  cond_met values known UsedOnce view place is within h = asks_nothing_uses (width_bits (width_at body view.value)) (at_place values place view)
  cond_met values known cond view place is within h = viewed_word body set values known count (λ word. cond_holds cond (width_bits (width_at body view.value)) word) view place is within h

  option_met : (values : Values) → IsKnown body set values → (cond : Option Cond) (view : Bind) (place : ℕ) → IsView body set count view → place < count → option_map_or (meets body view) cond true ≡ true → meets_cond cond (width_at body view.value) (at_place values place view) ≡ true
  option_met values known None view place is within h = refl
  option_met values known (Some cond) view place is within h = cond_met values known cond view place is within h

  module _ (view : Bind) (views : List Bind) (is : IsView body set count view) (sizes : List Width) where
    walked_var : (var : ℕ) (constant : Bool) (size : Option Width) (cond : Option Cond) (rest : Terms) (before mid after : List (Option Bind))
        → is_taken body constant cond view ≡ true → IsTaken body set count var view before mid → IsWalked body set count rest sizes views mid after
        → IsWalked body set count (VarThen var constant size cond rest) (width_at body view.value ∷ sizes) (view ∷ views) before after
    walked_var var constant size cond rest before mid after takes here more =
        let bound : IsBoundTo after var view = more.extends var view here.here in
        let met = (and_parts (if constant then is_some (const_at body view.value) else true) (option_map_or (meets body view) cond true) takes).1 in
        record {
          same = more.same ∙ here.same;
          extends = λ k other at. more.extends k other (here.extends k other at);
          views_kept = λ all. more.views_kept (here.views is all);
          named = ((view, bound), more.named);
          roots_are = ap (λ t. width_at body view.value ∷ t) more.roots_are;
          sized = ((λ other at. ap (λ v. width_at body v.value) (bound_once after var other view at bound)), more.sized);
          says = λ values known words place within agrees.
              let own : slice_index_or words var 0 ≡ at_place values place view = agrees var view bound in
              let behind = more.says values known words place within agrees in
              record {
                equal = ap (λ x. x ∷ values_of rest sizes words) own ∙ ap (λ t. at_place values place view ∷ t) behind.equal;
                are_words = and_from (is_word words (record { var = var; width = width_at body view.value; cond = cond })) (list_all (is_word words) (occurrences rest sizes))
                    (lt-ltb (slice_index_or words var 0) (2 ^ width_bits (width_at body view.value)) (subst (λ x. x < 2 ^ width_bits (width_at body view.value)) (sym own) (word_at body set values known count view place is within))) behind.are_words;
                are_met = and_from (is_met words (record { var = var; width = width_at body view.value; cond = cond })) (list_all (is_met words) (occurrences rest sizes))
                    (ap (meets_cond cond (width_at body view.value)) own ∙ option_met values known cond view place is within met) behind.are_met;
              };
        }

    walked_lit : (value : ℤ) (boolean : Bool) (rest : Terms) (before after : List (Option Bind))
        → is_literal body value view ≡ true → IsWalked body set count rest sizes views before after
        → IsWalked body set count (LitThen value boolean rest) (width_at body view.value ∷ sizes) (view ∷ views) before after
    walked_lit value boolean rest before after literal more = record {
      same = more.same;
      extends = more.extends;
      views_kept = more.views_kept;
      named = more.named;
      roots_are = ap (λ t. width_at body view.value ∷ t) more.roots_are;
      sized = more.sized;
      says = λ values known words place within agrees.
          let behind = more.says values known words place within agrees in
          let own : at_place values place view ≡ residue (width_bits (width_at body view.value)) value =
          eqb-true _ _ (viewed_word body set values known count (λ word. nat_eq word (residue (width_bits (width_at body view.value)) value)) view place is within literal) in
          record {
            equal = ap (λ x. x ∷ values_of rest sizes words) (sym own) ∙ ap (λ t. at_place values place view ∷ t) behind.equal;
            are_words = behind.are_words;
            are_met = behind.are_met;
          };
    }

    walked_app : (op : Op) (size : Option Width) (once : Bool) (args rest : Terms) (sources : List Bind) (under_sizes : List Width) (before mid after : List (Option Bind))
        → length under_sizes ≡ size_of args
        → ((values : Values) → IsKnown body set values → (place : ℕ) → place < count → op_mean op (width_bits (unsized_width op (width_at body view.value) (map (λ child. width_at body child.value) sources))) (width_bits (width_at body view.value)) (map (at_place values place) sources) ≡ at_place values place view)
        → IsWalked body set count args under_sizes sources before mid → IsWalked body set count rest sizes views mid after
        → IsWalked body set count (AppThen op size once args rest) (width_at body view.value ∷ under_sizes ++ sizes) (view ∷ views) before after
    walked_app op size once args rest sources under_sizes before mid after long makes under more =
        let all = under_sizes ++ sizes in
        let enough : size_of args ≤ length under_sizes = omega (arith, long) in
        let left : drop (size_of args) all ≡ sizes = ap (λ n. drop n all) (sym long) ∙ drop-append_seam under_sizes sizes in
        let roots_in : roots args all ≡ map (λ child. width_at body child.value) sources = roots-front args under_sizes sizes enough ∙ under.roots_are in
        let occurs : occurrences args all ≡ occurrences args under_sizes = occurrences-front args under_sizes sizes enough in
        record {
          same = more.same ∙ under.same;
          extends = λ k other at. more.extends k other (under.extends k other at);
          views_kept = λ kept. more.views_kept (under.views_kept kept);
          named = subst (AllByRecursion (IsBound after)) (sym (flat_map-append var_of (pieces args) (pieces rest)))
              (all_append (IsBound after) (vars_of args) (vars_of rest) (all_each (IsBound mid) (IsBound after) (λ var at. (at.0, more.extends var at.0 at.1)) (vars_of args) under.named) more.named);
          roots_are = ap (λ t. width_at body view.value ∷ t) (ap (roots rest) left ∙ more.roots_are);
          sized = all_append (HasSize body after) (occurrences args all) (occurrences rest (drop (size_of args) all))
              (subst (AllByRecursion (HasSize body after)) (sym occurs) (sized_on body args mid after under_sizes under.named more.extends under.sized))
              (subst (λ l. AllByRecursion (HasSize body after) (occurrences rest l)) (sym left) more.sized);
          says = λ values known words place within agrees.
              let behind = more.says values known words place within agrees in
              let inner = under.says values known words place within (λ var other at. agrees var other (more.extends var other at)) in
              record {
                equal = ap (λ l. op_mean op (width_bits (unsized_width op (width_at body view.value) l)) (width_bits (width_at body view.value)) (values_of args all words) ∷ values_of rest (drop (size_of args) all) words) roots_in
                    ∙ ap (λ l. op_mean op (width_bits (unsized_width op (width_at body view.value) (map (λ child. width_at body child.value) sources))) (width_bits (width_at body view.value)) l ∷ values_of rest (drop (size_of args) all) words)
                    (values_of-front words args under_sizes sizes enough ∙ inner.equal)
                    ∙ ap (λ x. x ∷ values_of rest (drop (size_of args) all) words) (makes values known place within)
                    ∙ ap (λ l. at_place values place view ∷ values_of rest l words) left
                    ∙ ap (λ t. at_place values place view ∷ t) behind.equal;
                are_words = list_all-append (is_word words) (occurrences args all) (occurrences rest (drop (size_of args) all))
                    ∙ and_from (list_all (is_word words) (occurrences args all)) (list_all (is_word words) (occurrences rest (drop (size_of args) all))) (ap (list_all (is_word words)) occurs ∙ inner.are_words)
                    (ap (λ l. list_all (is_word words) (occurrences rest l)) left ∙ behind.are_words);
                are_met = list_all-append (is_met words) (occurrences args all) (occurrences rest (drop (size_of args) all))
                    ∙ and_from (list_all (is_met words) (occurrences args all)) (list_all (is_met words) (occurrences rest (drop (size_of args) all))) (ap (list_all (is_met words)) occurs ∙ inner.are_met)
                    (ap (λ l. list_all (is_met words) (occurrences rest l)) left ∙ behind.are_met);
              };
        }

module _ (s : Shader) (shaped : IsShaped s) (set : Set) (closed : Closed s.body set) (fit : IsFit s.body set) (count : ℕ) where
  -- the terms are matched with as many views, at the sizes that are met
  pub walked : (terms : Terms) (bits : ℕ) (views : List Bind) (before after : List (Option Bind))
      → list_all search_piece_formed (pieces terms) ≡ true → length views ≡ terms_count terms → AllByRecursion (IsView s.body set count) views
      → matches s.body terms bits views before ≡ Some after → IsWalked s.body set count terms (met s.body terms bits views) views before after
  walked Nil bits (view ∷ views) before after formed long all h = absurd (omega (arith, long))
  walked Nil bits [] before after formed long all h =
      subst (IsWalked s.body set count Nil [] [] before) (same_Some before after h) (record {
        same = refl;
        extends = λ k other at. at;
        views_kept = λ are. are;
        named = tt;
        roots_are = refl;
        sized = tt;
        says = λ values known words place within agrees. record { equal = refl; are_words = refl; are_met = refl };
      })
  walked (VarThen var constant size cond rest) bits [] before after formed long all h = absurd (omega (arith, long))
  walked (VarThen var constant size cond rest) bits (view ∷ views) before after formed long all h =
      let chosen = if_some (is_taken s.body constant cond view) (option_and_then (matches s.body rest bits views) (bind var view before)) after h in
      let step = between (bind var view before) (matches s.body rest bits views) after chosen.1 in
      walked_var s.body set count view views all.0 (met s.body rest bits views) var constant size cond rest before step.middle after chosen.0
      (taken s.body set count var view before step.middle step.before)
      (walked rest bits views step.middle after (and_parts true (list_all search_piece_formed (pieces rest)) formed).1 (suc_inj long) all.1 step.behind)
  walked (LitThen value boolean rest) bits [] before after formed long all h = absurd (omega (arith, long))
  walked (LitThen value boolean rest) bits (view ∷ views) before after formed long all h =
      let chosen = if_some (is_literal s.body value view) (matches s.body rest bits views before) after h in
      walked_lit s.body set count view views all.0 (met s.body rest bits views) value boolean rest before after chosen.0
      (walked rest bits views before after (and_parts (literal_formed value boolean) (list_all search_piece_formed (pieces rest)) formed).1 (suc_inj long) all.1 chosen.1)
  walked (AppThen op size once args rest) bits [] before after formed long all h = absurd (omega (arith, long))
  walked (AppThen op size once args rest) bits (view ∷ views) before after formed long all h =
      let flag = is_swapped op bits in
      let sources = children s.body flag view in
      let inner = bits_left op bits in
      let behind = bits_behind args inner in
      let chosen = if_some (is_applied s.body op once view) (option_and_then (matches s.body rest behind views) (matches s.body args inner sources before)) after h in
      let step = between (matches s.body args inner sources before) (matches s.body rest behind views) after chosen.1 in
      let applied = (and_parts (has_op op (alu_at s.body view.value)) (if once then nat_eq (use_count view.value s.body) 1 else true) chosen.0).0 in
      let form = and_parts (may_stand op && nat_eq (terms_count args) (length (op_info op).inputs)) (list_all search_piece_formed (pieces args ++ pieces rest)) formed in
      let own = and_parts (may_stand op) (nat_eq (terms_count args) (length (op_info op).inputs)) form.0 in
      let forms = passes_append search_piece_formed (pieces args) (pieces rest) form.1 in
      let count_is : length sources ≡ terms_count args = children_count s shaped set closed fit count op view all.0 applied own.0 flag ∙ sym (eqb-true (terms_count args) (length (op_info op).inputs) own.1) in
      walked_app s.body set count view views all.0 (met s.body rest behind views) op size once args rest sources (met s.body args inner sources) before step.middle after
      (length-met s.body args inner sources)
      (λ values known place within. op_value s shaped set closed fit count op view all.0 applied own.0 values known flag place (λ e. (and_parts (is_commutative op) (nat_eq (bits % 2) 1) e).0) within)
      (walked args inner sources before step.middle forms.0 count_is (children_views s shaped set closed fit count op view all.0 applied own.0 flag) step.before)
      (walked rest behind views step.middle after forms.1 (suc_inj long) all.1 step.behind)
