use Rattle.nir_mean.specs.Seen.{shader_of}
use Rattle.nir_mean.proofs.TableLemmas.{table_kept}
use Rattle.nir_mean.proofs.machine.Machine.define.Goals as goal

pub returns-clause-table : goal.returns-clause-table
returns-clause-table c = table_kept (shader_of c.args.given.now) c.args.self.now.table.views c.define.new.self.views c.requires.table c.define.ensures.kinds c.define.ensures.len
