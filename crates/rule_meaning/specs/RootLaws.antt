-- What the variables of a match are bound to stands below the instruction at which the rule matches: views of values that it reads, or of which those are made.
use Rattle.std.specs.Prelude.{◌≡◌, refl, ◌<◌, ℕ, true, List, Some, length, nat_eq, if◌then◌else◌}
use Rattle.std.proofs.Common.{sym, ◌∙◌, subst}
use Rattle.std.proofs.lemmas.Bool.{and_parts, eqb-true}
use Rattle.std.specs.List.{AllByRecursion}
use Rattle.list_laws.specs.AllLaws.{all_map}
use Rattle.nir_ops.specs.declared.op.Op.{Op}
use Rattle.nir_ops.specs.Opcodes.{op_info}
use Rattle.nir_ir.specs.declared.ids.ValueId.{ValueId}
use Rattle.nir_ir.specs.declared.instr.Instr.TheVariants.{Alu}
use Rattle.nir_ir.specs.declared.instr.Src.{Src}
use Rattle.nir_ir.specs.declared.kind.Kind.{Kind}
use Rattle.nir_ir.specs.Definitions.{alu_at, instr_defining}
use Rattle.nir_ir.specs.Shaped.{IsShaped}
use Rattle.nir_ir.specs.Shader.{Shader}
use Rattle.nir_ir.specs.Uses.{use_count}
use Rattle.nir_validate.specs.Edges.{Set}
use Rattle.rule_term.specs.Formed.{IsFormed, may_stand, search_piece_formed}
use Rattle.rule_term.specs.Rule.{Rule}
use Rattle.nir_search.specs.declared.hit.Bind.{Bind}
use Rattle.nir_search.specs.Match.{child, children, has_op, match_of, root_view, swapped}
use Rattle.nir_search.specs.Put.{bound_to}
use Rattle.rule_meaning.specs.BoundViews.{GoesDown, match_bound}
use Rattle.rule_meaning.specs.Fit.{IsFit, component_count}
use Rattle.rule_meaning.specs.Matched.{root_is_view}
use Rattle.rule_meaning.specs.Parts.{all_both}
use Rattle.rule_meaning.specs.Views.{IsAlu, IsView, all_swapped, alu_found, alu_sources, children_count, children_views}

-- all values
abbrev pub every : Set
every n = true

-- what the instruction with an opcode that defines a value reads is in the set
abbrev pub SourcesIn : Shader → Set → ValueId → Type 0
SourcesIn s set value = (op : Op) (kind : Kind) (srcs : List Src) → instr_defining value s.body ≡ Some (Alu value op kind srcs) → AllByRecursion (λ src. set src.value.0 ≡ true) srcs

-- a view of a value of the set
pub record IsBelow (s : Shader) (set : Set) (count : ℕ) (view : Bind) : Type 0 where
  pub inside : set view.value.0 ≡ true
  pub viewed : IsView s.body every count view

module _ (s : Shader) (shaped : IsShaped s) (fit : IsFit s.body every) (set : Set) (count : ℕ) where
  goes_down : (view : Bind) → IsView s.body every count view → SourcesIn s set view.value → GoesDown s search_piece_formed (IsBelow s set count) view
  goes_down view is reads op size once sources flag formed applied =
      let own = and_parts (may_stand op) (nat_eq sources (length (op_info op).inputs)) formed in
      let has = (and_parts (has_op op (alu_at s.body view.value)) (if once then nat_eq (use_count view.value s.body) 1 else true) applied).0 in
      let alu : IsAlu s.body view.value op = alu_found s.body view.value op has in
      let views = children_views s shaped every (λ _ _ _ _ _ _ _ _. refl) fit count op view is has own.0 flag in
      let long = children_count s shaped every (λ _ _ _ _ _ _ _ _. refl) fit count op view is has own.0 flag in
      let inside : AllByRecursion (λ (c : Bind). set c.value.0 ≡ true) (children s.body flag view) =
      subst (AllByRecursion (λ (c : Bind). set c.value.0 ≡ true)) (sym (alu_sources s.body op flag view alu))
      (all_map (child view.comps) (λ (c : Bind). set c.value.0 ≡ true) (swapped flag alu.srcs) (all_swapped (λ (src : Src). set src.value.0 ≡ true) flag alu.srcs (reads op alu.kind alu.srcs alu.found)))
      in
      record {
        all = all_both (λ c. set c.value.0 ≡ true) (IsView s.body every count) (IsBelow s set count) (children s.body flag view) (λ c one two. record { inside = one; viewed = two }) inside views;
        count = long ∙ sym (eqb-true sources (length (op_info op).inputs) own.1);
      }

  -- where the set holds, with each value, the sources of what an opcode writes, and those of the value at which the rule matches
  pub bound_below : ((value : ValueId) → set value.0 ≡ true → SourcesIn s set value) → (rule : Rule) → IsFormed rule → (variant : ℕ) (value : ValueId) (binds : List Bind)
      → count ≡ component_count s.body value → SourcesIn s set value → match_of rule variant s.body value ≡ Some binds → (var : ℕ) → var < rule.vars → IsBelow s set count (bound_to binds var)
  bound_below closed rule formed variant value binds counted reads found =
      match_bound s search_piece_formed (IsBelow s set count) (λ view is. goes_down view is.viewed (closed view.value is.inside)) rule formed formed.search variant value binds
      (goes_down (root_view s.body value) (subst (λ n. IsView s.body every n (root_view s.body value)) (sym counted) (root_is_view s.body every value refl)) reads) found
