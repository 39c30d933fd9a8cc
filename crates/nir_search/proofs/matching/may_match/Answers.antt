use Rattle.std.proofs.Common.{◌∙◌, sym}
use Rattle.nir_search.proofs.WalkLemmas.{never_app}
use Rattle.nir_search.proofs.matching.may_match.Goals as goal

pub returns-in-App : goal.returns-in-App
returns-in-App c not =
    never_app c.args.work.now.shader.body c.args.term.now c.in-App.op c.in-App.size c.in-App.once c.in-App.args c.args.value c.in-App.is (sym c.is_written_by.ensures ∙ not)
