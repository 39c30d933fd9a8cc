use Rattle.std.proofs.Common.{◌∙◌, ap, not, is_some}
use Rattle.nir_text.specs.Naming.{place_of}
use Rattle.nir_text.proofs.NamesLemmas.{list_any-place_of}
use Rattle.nir_text.proofs.names.Names.note.Goals as goal
use Rattle.nir_text.proofs.names.Names.note.Goals.{in-Ok, in-Err}

pub returns-clause-added : goal.returns-clause-added
returns-clause-added c =
    let e = list_any-place_of c.args.name.now c.self.inside.set.keys ∙ ap (λ names. is_some (place_of c.args.name.now names)) c.self.view_is in
    elim c.match-insert.branch [ in-Ok w ↦ rw w.result-is (w.in-Ok.ensures.added ∙ ap not e) | in-Err w ↦ rw w.result-is tt ]
