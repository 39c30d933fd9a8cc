-- Views of sources: what they view is defined, and 1 to 4 of its components stand in them; so it is of each variable of a rule that matches.
use denote.Enum.Bare.{same_true}
use Rattle.std.specs.Prelude.{◌≡◌, refl, ◌<◌, ◌≤◌, ℕ, zero, suc, List, [], ◌∷◌, map, length, Option, Some, None, Bool, true, false, ◌||◌, IsTrue, nat_eq, slice_index}
use Rattle.std.proofs.Common.{sym, ◌∙◌, subst, arith}
use Rattle.std.proofs.lemmas.Bool.{and_parts, eqb-true, false≢true, true≢false}
use Rattle.std.proofs.lemmas.List.{length-map}
use Rattle.std.specs.List.{AllByRecursion, range_with_len}
use Rattle.nir_ops.specs.declared.op.Op.{Op}
use Rattle.nir_ops.specs.Opcodes.{op_info}
use Rattle.nir_ops.specs.contracts.op.Op as op_row
use Rattle.nir_ir.specs.declared.ids.ValueId.{ValueId}
use Rattle.nir_ir.specs.declared.instr.Src.{Src}
use Rattle.nir_ir.specs.Items.{values_defined}
use Rattle.nir_ir.specs.Shader.{Shader}
use Rattle.nir_ir.specs.Shaped.{IsCount, IsOneOf, IsShaped, IsSwizzle}
use Rattle.nir_search.specs.declared.hit.Bind.{Bind}
use Rattle.nir_ir.specs.Definitions.{alu_at}
use Rattle.rule_term.specs.Formed.{may_stand, search_piece_formed}
use Rattle.nir_search.specs.Match.{child, children, children_of, has_op, is_applied, swapped}
use Rattle.rule_meaning.specs.BoundViews.{GoesDown}
use Rattle.rule_meaning.specs.Found.{found_alu, found_sound}

-- the view could stand as a source in the shader
pub record IsView (defined : List ℕ) (view : Bind) : Type 0 where
  pub value : IsOneOf defined view.value.0
  pub comps : IsSwizzle view.comps

abbrev IsSource : List ℕ → Src → Type 0
IsSource defined src = IsOneOf defined src.value.0 × IsSwizzle src.swizzle

sources : (defined : List ℕ) (srcs : List Src) → AllByRecursion (IsOneOf defined) (map (λ (id : ValueId). id.0) (map (λ (src : Src). src.value) srcs)) → AllByRecursion (λ (src : Src). IsSwizzle src.swizzle) srcs → AllByRecursion (IsSource defined) srcs
sources defined [] values swizzles = tt
sources defined (src ∷ srcs) values swizzles = ((values.0, swizzles.0), sources defined srcs values.1 swizzles.1)

all_swapped : (P : Src → Type 0) (flag : Bool) (srcs : List Src) → AllByRecursion P srcs → AllByRecursion P (swapped flag srcs)
all_swapped P true [] all = all
all_swapped P true (a ∷ []) all = all
all_swapped P true (a ∷ b ∷ rest) all = (all.1.0, (all.0, all.1.1))
all_swapped P false srcs all = all

length-swapped : (flag : Bool) (srcs : List Src) → length (swapped flag srcs) ≡ length srcs
length-swapped true [] = refl
length-swapped true (a ∷ []) = refl
length-swapped true (a ∷ b ∷ rest) = refl
length-swapped false srcs = refl

-- an entry is below 4, also past the end
entry_small : (swizzle : List ℕ) (at : ℕ) → AllByRecursion (λ entry. entry < 4) swizzle → slice_index swizzle at < 4
entry_small [] at small = omega arith
entry_small (entry ∷ swizzle) zero small = small.0
entry_small (entry ∷ swizzle) (suc at) small = entry_small swizzle at small.1

entries_small : (swizzle comps : List ℕ) → AllByRecursion (λ entry. entry < 4) swizzle → AllByRecursion (λ entry. entry < 4) (map (λ c. slice_index swizzle c) comps)
entries_small swizzle [] small = tt
entries_small swizzle (c ∷ comps) small = (entry_small swizzle c small, entries_small swizzle comps small)

child_view : (defined comps : List ℕ) (src : Src) → IsSwizzle comps → IsSource defined src → IsView defined (child comps src)
child_view defined comps src is source =
    let same : length (map (λ c. slice_index src.swizzle c) comps) ≡ length comps = length-map comps (λ c. slice_index src.swizzle c) in
    record {
      value = source.0;
      comps = record {
        some = subst (λ (n : ℕ). 1 ≤ n) (sym same) is.some;
        few = subst (λ (n : ℕ). n ≤ 4) (sym same) is.few;
        components = entries_small src.swizzle comps source.1.components;
      };
    }

child_views : (defined comps : List ℕ) (srcs : List Src) → IsSwizzle comps → AllByRecursion (IsSource defined) srcs → AllByRecursion (IsView defined) (map (child comps) srcs)
child_views defined comps [] is all = tt
child_views defined comps (src ∷ srcs) is all = (child_view defined comps src is all.0, child_views defined comps srcs is all.1)

-- the views of the sources of an opcode, as many as it has
pub record AreViews (s : Shader) (op : Op) (views : List Bind) : Type 0 where
  pub all : AllByRecursion (IsView (values_defined s.body)) views
  pub count : length views ≡ length (op_info op).inputs

pub children_views : (s : Shader) → IsShaped s → (flag : Bool) (view : Bind) (alu : Op × List Src) → IsSwizzle view.comps → alu_at s.body view.value ≡ Some alu → AreViews s alu.0 (map (child view.comps) (swapped flag alu.1))
children_views s shaped flag view alu is at =
    let found = found_alu s.body view.value alu at in
    let sound = found_sound s shaped view.value _ found.is in
    let all = sources (values_defined s.body) alu.1 sound.1 sound.0.2 in
    record {
      all = child_views (values_defined s.body) view.comps (swapped flag alu.1) is (all_swapped (IsSource (values_defined s.body)) flag alu.1 all);
      count = length-map (swapped flag alu.1) (child view.comps) ∙ length-swapped flag alu.1 ∙ sound.0.1;
    }

-- all components of a value are 1 to 4
whole_small : (n : ℕ) (a b c d : Bool) → nat_eq n 1 ≡ a → nat_eq n 2 ≡ b → nat_eq n 3 ≡ c → nat_eq n 4 ≡ d → IsTrue (a || (b || (c || (d || false)))) → IsSwizzle (range_with_len 0 n)
whole_small n true b c d ea eb ec ed h = subst (λ m. IsSwizzle (range_with_len 0 m)) (sym (eqb-true n 1 ea)) (record { some = omega arith; few = omega arith; components = (omega arith, tt) })
whole_small n false true c d ea eb ec ed h = subst (λ m. IsSwizzle (range_with_len 0 m)) (sym (eqb-true n 2 eb)) (record { some = omega arith; few = omega arith; components = (omega arith, (omega arith, tt)) })
whole_small n false false true d ea eb ec ed h = subst (λ m. IsSwizzle (range_with_len 0 m)) (sym (eqb-true n 3 ec)) (record { some = omega arith; few = omega arith; components = (omega arith, (omega arith, (omega arith, tt))) })
whole_small n false false false true ea eb ec ed h = subst (λ m. IsSwizzle (range_with_len 0 m)) (sym (eqb-true n 4 ed)) (record { some = omega arith; few = omega arith; components = (omega arith, (omega arith, (omega arith, (omega arith, tt)))) })
whole_small n false false false false ea eb ec ed h = absurd (true≢false (sym h))

pub whole_swizzle : (n : ℕ) → IsCount n → IsSwizzle (range_with_len 0 n)
whole_swizzle n h = whole_small n (nat_eq n 1) (nat_eq n 2) (nat_eq n 3) (nat_eq n 4) refl refl refl refl h

-- the views of the sources of an opcode that was met
applied_views : (s : Shader) → IsShaped s → (op : Op) (flag : Bool) (view : Bind) (found : Option (Op × List Src)) → IsSwizzle view.comps
    → alu_at s.body view.value ≡ found → has_op op found ≡ true → AreViews s op (children_of found flag view.comps)
applied_views s shaped op flag view None is at has = absurd (false≢true has)
applied_views s shaped op flag view (Some alu) is at has =
    subst (λ (o : Op). AreViews s o (map (child view.comps) (swapped flag alu.1))) (same_true op_row.the_type tt alu.0 op has)
    (children_views s shaped flag view alu is at)

pub met_views : (s : Shader) → IsShaped s → (op : Op) (once flag : Bool) (view : Bind) → IsSwizzle view.comps → is_applied s.body op once view ≡ true → AreViews s op (children s.body flag view)
met_views s shaped op once flag view is applied = applied_views s shaped op flag view (alu_at s.body view.value) is refl (and_parts _ _ applied).0

-- that goes down from views to the views of their sources
pub sources_down : (s : Shader) → IsShaped s → (view : Bind) → IsSwizzle view.comps → GoesDown s search_piece_formed (IsView (values_defined s.body)) view
sources_down s shaped view is op size once sources flag formed applied =
    let are = met_views s shaped op once flag view is applied in
    record { all = are.all; count = are.count ∙ sym (eqb-true _ _ (and_parts (may_stand op) (nat_eq sources (length (op_info op).inputs)) formed).1) }
