use Rattle.std.proofs.Common.{◌<◌, arith, length}
use Rattle.std.proofs.lemmas.List.{length-map}
use Rattle.nir_text.specs.Signs.{sign_of}
use Rattle.nir_text.proofs.point.Point.with_if.Goals as goal

pub overflow_add-counts : goal.overflow_add-counts
overflow_add-counts c =
    let p = c.args.self.now in
    let few = p.few in
    let some : 0 < length p.tokens.now = rw (← length-map p.tokens.now (sign_of p.text.now)) c.requires in
    omega arith
