use Rattle.std.proofs.Common.{◌≡◌, ◌+◌, ◌-◌, [], ◌∷◌}
use Rattle.nir_text.specs.Reading.{more_at}
use Rattle.nir_text.specs.Tree.{declared_kind_at}
use Rattle.nir_text.specs.View.{point}
use Rattle.nir_text.proofs.Front.{with_front}
use Rattle.nir_text.proofs.header.more_kinds_at.Given as goal

abbrev pub invariant-kinds : goal.invariant-kinds
invariant-kinds l = with_front l.kinds (more_at declared_kind_at (l._turn + 1) (l.fuel - l._turn) (point l.at)) ≡ with_front (l.fn.first ∷ []) (more_at declared_kind_at 1 l.fuel (point l.fn.p))
