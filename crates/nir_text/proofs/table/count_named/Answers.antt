use Rattle.std.proofs.Common.{sym}
use Rattle.nir_text.proofs.ShapedKinds.{kind_named-IsCount}
use Rattle.nir_text.proofs.table.count_named.Goals as goal

pub returns-in-Some-kind_named-clause-counted : goal.returns-in-Some-kind_named-clause-counted
returns-in-Some-kind_named-clause-counted c = kind_named-IsCount _ _ (sym c.in-Some-kind_named.ensures)
