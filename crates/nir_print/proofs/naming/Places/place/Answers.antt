use Rattle.std.proofs.Common.{eqb, ap, ◌∙◌}
use Rattle.nir_print.specs.Naming.{place}
use Rattle.nir_print.proofs.PlaceLemmas.{position_or_len-absent}
use Rattle.nir_print.proofs.naming.Places.place.Goals as goal

pub returns-in-None : goal.returns-in-None
returns-in-None c =
    c.len.ensures.len
    ∙ position_or_len-absent (eqb c.args.number) c.self.inside.numbers.keys c.in-None.ensures.index
    ∙ ap (λ numbers. place numbers c.args.number) c.self.view_is
