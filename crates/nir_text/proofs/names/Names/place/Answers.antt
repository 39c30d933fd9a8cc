use Rattle.std.proofs.Common.{◌∙◌, ap}
use Rattle.nir_text.specs.Naming.{place_of}
use Rattle.nir_text.proofs.NamesLemmas.{position-place_of}
use Rattle.nir_text.proofs.names.Names.place.Goals as goal

pub returns-in-Some-clause-value : goal.returns-in-Some-clause-value
returns-in-Some-clause-value c =
    c.in-Some.ensures.index ∙ position-place_of c.args.name.now c.self.inside.set.keys ∙ ap (place_of c.args.name.now) c.self.view_is

pub returns-in-None-clause-value : goal.returns-in-None-clause-value
returns-in-None-clause-value c =
    c.in-None.ensures.index ∙ position-place_of c.args.name.now c.self.inside.set.keys ∙ ap (place_of c.args.name.now) c.self.view_is
