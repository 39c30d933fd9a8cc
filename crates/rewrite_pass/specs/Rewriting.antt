-- Rewriting of a shader by steps by rules: what steps have made of a shader and of a journal, and how many they were.
use Rattle.std.specs.Prelude.{◌≡◌, ◌+◌, ◌*◌, ◌≤◌, ℕ, List, ◌++◌, length, Some, true}
use Rattle.nir_ir.specs.declared.journal.Step.{Step}
use Rattle.nir_ir.specs.Shader.{Shader}
use Rattle.rule_term.specs.declared.when.Options.{Options}
use Rattle.rule_term.specs.Descending.{is_descending}
use Rattle.rule_term.specs.Rule.{Rule}
use Rattle.rule_term.specs.Table.{Table, op_weight}
use Rattle.nir_search.specs.Steps.{replay}
use Rattle.nir_search.specs.Weight.{weight_of}

-- a journal has grown by steps that are legal one after another and lead from one shader to the other
pub record Rewrites (options : Options) (table : List Rule) (before after : Shader) (journal grown : List Step) : Type 0 where
  pub done : List Step
  pub told : grown ≡ journal ++ done
  pub legal : replay options table before done ≡ Some after

-- They are so many. Each took at most 64 fresh numbers, and by a table that descends each made the shader lighter by one or more.
pub record Advances (options : Options) (table : Table) (before after : Shader) (journal grown : List Step) (count : ℕ) : Type 0 where
  pub steps : Rewrites options table.rules before after journal grown
  pub number : length grown ≡ length journal + count
  pub fresh : after.next_value ≤ before.next_value + 64 * count
  pub falls : is_descending table ≡ true → weight_of (op_weight table) after + count ≤ weight_of (op_weight table) before
