-- what is in the table, followed by the edges that come, is all
use Rattle.std.proofs.Common.{◌≡◌, ◌++◌, drop, nat_eq}
use Rattle.std.specs.List.{flat_map}
use Rattle.indexmap.specs.IndexMap.{IsUnique}
use Rattle.nir_validate.specs.Predecessors.{by_block}
use Rattle.nir_validate.proofs.edge_table.table_of.Given as goal

abbrev pub invariant-loop-way : goal.invariant-loop-way
invariant-loop-way l = record {
  all : l.table.entries ++ flat_map by_block (drop l.way-index l.ways) ≡ flat_map by_block l.ways;
  unique : IsUnique nat_eq l.table;
}
