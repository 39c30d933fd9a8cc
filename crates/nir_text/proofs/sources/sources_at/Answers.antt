use Rattle.nir_text.proofs.sources.sources_at.Goals as goal

pub returns : goal.returns
returns c = rw (← c.source_count-count.ensures) c.srcs_at.ensures
