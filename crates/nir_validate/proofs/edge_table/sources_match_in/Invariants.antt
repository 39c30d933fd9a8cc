-- the names so far, followed by those that come, are all, and those so far are of blocks in the table
use Rattle.std.proofs.Common.{◌≡◌, ◌++◌, drop, map, nat_eq, true}
use Rattle.std.specs.List.{list_all, list_any}
use Rattle.std.specs.Map.{keys_of}
use Rattle.nir_validate.proofs.edge_table.sources_match_in.Given as goal

abbrev pub invariant-loop-source : goal.invariant-loop-source
invariant-loop-source l = record {
  named : l.names.keys ++ map (λ source. source.from.0) (drop l.source-index l.sources) ≡ map (λ source. source.from.0) l.sources;
  among : list_all (λ name. list_any (nat_eq name) (keys_of l.table.entries)) l.names.keys ≡ true;
}
