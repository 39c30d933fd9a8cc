use Rattle.std.proofs.Common.{◌≡◌, drop, refl, ap, ◌∙◌}
use Rattle.nir_host.proofs.Fronts.{parts-read}
use Rattle.nir_host.proofs.mem_source.MemSourceSource.read.Goals as goal

pub returns-clause-bytes : goal.returns-clause-bytes
returns-clause-bytes c = λ left told.
    let same : c.args.self.now.left ≡ left = cc in
    let here : drop c.self.inside.read c.self.inside.bytes ≡ left = ap (λ s. s.left) c.self.view_is ∙ same in
    (_, refl, parts-read c.self.inside.bytes c.self.inside.read c.copy_front-count.result c.copy_front-count.new.into left (rw (← c.as_slice-2.ensures) c.copy_front-count.ensures.copied) here)
