-- The table of the names of a text as the grammar sees it.
use Rattle.nir_text.specs.declared.table.NameTable as code
use Rattle.nir_text.specs.Naming.{Naming}

abbrev pub naming : code.NameTable → Naming
naming t = record { values = t.values; counts = t.counts; blocks = t.blocks }
