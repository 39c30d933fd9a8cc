use Rattle.nir_text.proofs.NamingLemmas.{noted_by}
use Rattle.nir_text.proofs.table.NameTable.note.Goals as goal

pub returns : goal.returns
returns c = noted_by _ _ _ _ _ _ _ c.of-here.ensures c.first.ensures c.in_ok-note_value.ensures c.in_ok-note_block.ensures
