-- What a match says: at its root stands an ALU instruction, and the variables of the rule are bound.
use Rattle.std.specs.Prelude.{◌<◌, ◌≡◌, refl, ℕ, List, [], ◌∷◌, replicate, Option, Some, None, true, cond}
use Rattle.std.proofs.Common.{sym, ◌∙◌, ap, subst}
use Rattle.std.proofs.lemmas.Bool.{and_parts, false≢true}
use Rattle.std.specs.Option.{option_and_then, option_map, option_map_or, option_or}
use Rattle.list_laws.specs.OptionLaws.{if_some}
use Rattle.nir_ops.specs.declared.op.Op.{Op}
use Rattle.nir_ir.specs.declared.ids.ValueId.{ValueId}
use Rattle.nir_ir.specs.declared.kind.Kind.{Kind}
use Rattle.nir_ir.specs.declared.instr.Src.{Src}
use Rattle.nir_ir.specs.declared.instr.Instr.{Instr}
use Rattle.nir_ir.specs.declared.node.Phi.{Phi}
use Rattle.nir_ir.specs.Items.{values_defined}
use Rattle.nir_ir.specs.Definitions.{alu_at, kind_at, kind_of_target, phi_defining}
use Rattle.nir_ir.specs.Nodes.{Nodes}
use Rattle.nir_ir.specs.Shader.{Shader}
use Rattle.nir_ir.specs.Shaped.{IsCount, IsShaped}
use Rattle.rule_term.specs.Formed.{IsFormed, is_application, search_piece_formed}
use Rattle.rule_term.specs.Rule.{Rule}
use Rattle.rule_term.specs.Terms.{Terms, Nil, VarThen, LitThen, AppThen}
use Rattle.nir_search.specs.declared.hit.Bind.{Bind}
use Rattle.rule_term.specs.Variants.{bits_behind, bits_left, is_swapped}
use Rattle.nir_search.specs.Put.{bound_to}
use Rattle.nir_search.specs.Match.{children, has_op, is_applied, match_of, matches, root_view}
use Rattle.nir_search.specs.Steps.{count_of}
use Rattle.rule_meaning.specs.BoundViews.{match_bound, walk_of}
use Rattle.rule_meaning.specs.Found.{FoundAlu, found_alu, found_sound}
use Rattle.rule_meaning.specs.SourceViews.{IsView, sources_down, whole_swizzle}

-- the variables of a rule are bound to views of values of the shader
abbrev pub AreBound : List ℕ → List Bind → ℕ → Type 0
AreBound defined binds vars = (var : ℕ) → var < vars → IsView defined (bound_to binds var)

-- The instruction at which a rule matches is an ALU instruction, and the variables of the rule are bound.

pub record IsRoot (s : Shader) (value : ValueId) : Type 0 where
  pub op : Op
  pub srcs : List Src
  pub instr : FoundAlu s.body value (op, srcs)
  pub count : IsCount (count_of s value)

counted : (body : Nodes) (value : ValueId) (op : Op) (srcs : List Src) (found : FoundAlu body value (op, srcs)) → option_map_or (λ (kind : Kind). kind.count) (kind_at body value) 0 ≡ found.kind.count
counted body value op srcs found =
    ap (λ (o : Option Instr). option_map_or (λ (kind : Kind). kind.count) (option_or (option_and_then kind_of_target o) (option_map (λ (phi : Phi). phi.kind) (phi_defining value body))) 0) found.is

root_of_alu : (s : Shader) → IsShaped s → (value : ValueId) (op : Op) (found : Option (Op × List Src)) → alu_at s.body value ≡ found → has_op op found ≡ true → IsRoot s value
root_of_alu s shaped value op None is has = absurd (false≢true has)
root_of_alu s shaped value op (Some alu) is has =
    let instr = found_alu s.body value alu is in
    let sound = found_sound s shaped value _ instr.is in
    record {
      op = alu.0;
      srcs = alu.1;
      instr = instr;
      count = subst IsCount (sym (counted s.body value alu.0 alu.1 instr)) sound.0.0;
    }

pub record Matched (s : Shader) (value : ValueId) (vars : ℕ) (subst : List Bind) : Type 0 where
  pub root : IsRoot s value
  pub bound : AreBound (values_defined s.body) subst vars

-- from the root of a match on
root_from : (s : Shader) → IsShaped s → (value : ValueId) (terms : Terms) (bits : ℕ) (view : Bind) (before after : List (Option Bind)) → view.value ≡ value → is_application terms ≡ true
    → matches s.body terms bits (view ∷ []) before ≡ Some after → IsRoot s value
root_from s shaped value Nil bits view before after own application h = absurd (false≢true application)
root_from s shaped value (VarThen var constant size cond rest) bits view before after own application h = absurd (false≢true application)
root_from s shaped value (LitThen number boolean rest) bits view before after own application h = absurd (false≢true application)
root_from s shaped value (AppThen op size once args rest) bits view before after own application h =
    let applied = if_some (is_applied s.body op once view) (option_and_then (matches s.body rest (bits_behind args (bits_left op bits)) []) (matches s.body args (bits_left op bits) (children s.body (is_swapped op bits) view) before)) after h in
    root_of_alu s shaped value op (alu_at s.body value) refl (ap (λ v. has_op op (alu_at s.body v)) (sym own) ∙ (and_parts _ _ applied.0).0)

pub matched : (s : Shader) → IsShaped s → (rule : Rule) → IsFormed rule → (variant : ℕ) (value : ValueId) (binds : List Bind) → match_of rule variant s.body value ≡ Some binds → Matched s value rule.vars binds
matched s shaped rule formed variant value binds h =
    let w = (walk_of rule variant s.body value binds h).walk in
    let root = root_from s shaped value rule.search variant (root_view s.body value) (replicate rule.vars None) w.middle refl formed.application w.before in
    record {
      root = root;
      bound = match_bound s search_piece_formed (IsView (values_defined s.body)) (λ view is. sources_down s shaped view is.comps) rule formed formed.search variant value binds
          (sources_down s shaped (root_view s.body value) (whole_swizzle (count_of s value) root.count)) h;
    }
