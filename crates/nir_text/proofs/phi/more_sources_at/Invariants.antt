use Rattle.std.proofs.Common.{◌≡◌, ◌+◌, ◌-◌, [], ◌∷◌}
use Rattle.nir_text.specs.Reading.{more_at}
use Rattle.nir_text.specs.Instrs.{source_at}
use Rattle.nir_text.specs.Table.{naming}
use Rattle.nir_text.specs.View.{point}
use Rattle.nir_text.proofs.Front.{with_front}
use Rattle.nir_text.proofs.phi.more_sources_at.Given as goal

abbrev pub invariant-sources : goal.invariant-sources
invariant-sources l = with_front l.sources (more_at (λ k. source_at (naming l.names)) (l._turn + 1) (l.fuel - l._turn) (point l.at)) ≡ with_front (l.fn.first ∷ []) (more_at (λ k. source_at (naming l.names)) 1 l.fuel (point l.fn.p))
