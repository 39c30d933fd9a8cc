use Rattle.std.proofs.Common.{◌≡◌, ◌-◌}
use Rattle.nir_text.specs.Reading.{commas_at, separated_at}
use Rattle.nir_text.specs.Instrs.{component_at}
use Rattle.nir_text.specs.View.{point}
use Rattle.nir_text.proofs.Front.{with_front}
use Rattle.nir_text.proofs.consts.components_at.Given as goal

abbrev pub invariant-comps : goal.invariant-comps
invariant-comps l = with_front l.comps (commas_at (λ k. component_at l.kind) l._k (l.kind.count - l._k) (point l.at)) ≡ separated_at (λ k. component_at l.kind) l.kind.count (point l.fn.p)
