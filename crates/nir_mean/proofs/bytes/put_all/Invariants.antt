-- the components that are left, put there, make the whole
use Rattle.std.proofs.Common.{◌≡◌, ◌+◌, ◌*◌, drop}
use Rattle.nir_mean.specs.State.{store_all}
use Rattle.nir_mean.proofs.bytes.put_all.Given as goal

abbrev pub invariant-loop-comp : goal.invariant-loop-comp
invariant-loop-comp l = record {
  place : l.place ≡ l.offset + l.comp-index * l.size;
  rest : store_all (drop l.comp-index l.comps) l.bytes l.size l.place ≡ store_all l.comps l.initial.bytes l.size l.offset;
}
