-- Why sources have to fit: where one has fewer components than its opcode reads, a rule matches and its search side has another value than the instruction.
use Rattle.std.specs.Prelude.{◌≡◌, refl, zero, suc, pos, false, Some, None, List, [], ◌∷◌}
use Rattle.nir_ops.specs.declared.op.Op.TheVariants.{Iadd}
use Rattle.nir_ops.specs.declared.width.Width.TheVariants.{W8}
use Rattle.nir_ops.specs.Opcodes.{op_info, row_of}
use Rattle.op_eval.specs.Calls.{unsized_width}
use Rattle.op_eval.specs.Meaning.{meaning, op_mean}
use Rattle.op_eval.specs.Views.{shape_of, view_mean}
use Rattle.op_eval.specs.Word.{residue}
use Rattle.nir_ir.specs.declared.kind.Kind.{Kind}
use Rattle.nir_ir.specs.declared.instr.Instr.TheVariants.{Alu, Const, Input}
use Rattle.nir_ir.specs.declared.instr.Src.{Src}
use Rattle.nir_ir.specs.Definitions.{kind_at}
use Rattle.nir_ir.specs.Nodes.{Nodes, Nil, BlockThen}
use Rattle.rule_term.specs.Terms as terms
use Rattle.rule_term.specs.Holds.{values_of}
use Rattle.nir_search.specs.declared.hit.Bind.{Bind}
use Rattle.nir_search.specs.Match.{matches, whole_view}
use Rattle.nir_mean.specs.Values.{Values, alu_mean}
use Rattle.rule_meaning.specs.Env.{env}

abbrev pair : Kind
pair = record { width = W8; count = 2 }

abbrev sources : List Src
sources = record { value = record { 0 = 0 }; swizzle = 0 ∷ [] } ∷ record { value = record { 0 = 1 }; swizzle = 0 ∷ 1 ∷ [] } ∷ []

-- an input, a const of zeros, and their sum, whose first source has one component for two places
abbrev body : Nodes
body =
    BlockThen (record {
      id = record { 0 = 0 };
      phis = [];
      instrs = Input (record { 0 = 0 }) pair 0 ∷ Const (record { 0 = 1 }) pair (0 ∷ 0 ∷ []) ∷ Alu (record { 0 = 2 }) Iadd pair sources ∷ [];
      jump = None;
    }) Nil

-- a + 0
abbrev search : terms.Terms
search = terms.AppThen Iadd None false (terms.VarThen 0 false (Some W8) None (terms.LitThen (pos 0) false terms.Nil)) terms.Nil

abbrev view : Bind
view = record { value = record { 0 = 0 }; comps = 0 ∷ 0 ∷ [] }

abbrev values : Values
values zero = 5 ∷ 7 ∷ []
values (suc zero) = 0 ∷ 0 ∷ []
values (suc (suc n)) = 5 ∷ 0 ∷ []

-- the sum has these components
sum_is : alu_mean (kind_at body) Iadd pair sources values ≡ values 2
unfolding alu_mean view_mean shape_of op_mean meaning residue unsized_width op_info row_of
sum_is = refl

-- the rule matches there
matched : matches body search 0 (whole_view (record { 0 = 2 }) 2 ∷ []) (None ∷ []) ≡ Some (Some view ∷ [])
unfolding op_info row_of residue
matched = refl

-- and in place 1 its search side is 5 where the sum is 0
searched : values_of search (W8 ∷ W8 ∷ W8 ∷ []) (env (view ∷ []) values 1) ≡ 5 ∷ []
unfolding op_mean meaning residue unsized_width op_info row_of
searched = refl
