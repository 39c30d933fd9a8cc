use Rattle.std.proofs.Common.{◌≡◌, ◌-◌}
use Rattle.nir_text.specs.Reading.{commas_at, separated_at}
use Rattle.nir_text.specs.Instrs.{src_at}
use Rattle.nir_text.specs.Table.{naming}
use Rattle.nir_text.specs.View.{point}
use Rattle.nir_text.proofs.Front.{with_front}
use Rattle.nir_text.proofs.sources.srcs_at.Given as goal

abbrev pub invariant-srcs : goal.invariant-srcs
invariant-srcs l = with_front l.srcs (commas_at (λ k. src_at (naming l.names)) l._k (l.count - l._k) (point l.at)) ≡ separated_at (λ k. src_at (naming l.names)) l.count (point l.fn.p)
