use Rattle.std.proofs.Common.{refl, ◌∙◌, ap, sym, subst, length, ◌<◌, slice_get, List}
use Rattle.std.proofs.lemmas.Option.{slice_get_read}
use Rattle.rule_term.specs.Rule.{Rule}
use Rattle.rule_term.specs.Table.{Table, hold_at}
use Rattle.rule_term.proofs.table.Table.rule.Goals as goal

pub returns-clause-holds : goal.returns-clause-holds
returns-clause-holds c =
    let rules = c.self.inside.rules in
    let place = c.args.place in
    let within : place < length c.as_slice.result.now = subst (λ (list : List Rule). place < length list) (sym (c.as_slice.ensures ∙ ap (λ (t : Table). t.rules) c.self.view_is)) c.requires in
    let at = slice_get_read c.as_slice.result.now (length c.as_slice.result.now) place c.index-as_slice-place.result refl within c.index-as_slice-place.is in
    hold_at rules place c.index-as_slice-place.result c.self.invariant.0.hold (ap (λ list. slice_get list place) (sym c.as_slice.ensures) ∙ at)
