use Rattle.std.proofs.Common.{rules, sym, ap, ◌∙◌, ◌≡◌, Some, None, slice_set, slice_get, length}
use Rattle.std.proofs.lemmas.List.{length-set}
use Rattle.std.proofs.lemmas.Option.{slice_get-get_or}
use Rattle.nir_search.specs.Match.{bind_slot}
use Rattle.nir_search.proofs.MatchLemmas.{refill_whole}
use Rattle.nir_search.proofs.bound.Bound.bind.Goals as goal

pub returns-in-Some-None : goal.returns-in-Some-None
returns-in-Some-None c =
    let empty : c.in-Some-None.field-0.now ≡ None = c.in-Some-None.field-0-is in
    let found : slice_get c.as_slice.result.now c.args.var ≡ Some c.in-Some-None.field-0.now =
    slice_get-get_or c.as_slice.result.now c.args.var c.in-Some-None.field-0.now c.in-Some-None.ensures.lookup.3.0 ∙ ap Some (sym c.in-Some-None.ensures.lookup.1) in
    let got : slice_get c.args.self.now c.args.var ≡ Some None = ap (λ l. slice_get l c.args.var) (search rules) ∙ found ∙ ap Some empty in
    let same : c.as_mut_slice.result.now ≡ c.self.inside.slots.items = search rules in
    let whole : c.args.self.now ≡ c.as_mut_slice.result.now = search rules in
    ap (λ o. bind_slot o c.args.var c.args.view c.args.self.now) got
    ∙ ap Some
    (ap (λ l. slice_set l c.args.var (Some c.args.view)) whole
    ∙ sym (refill_whole c.self.inside.slots.items (slice_set c.as_mut_slice.result.now c.args.var (Some c.args.view)) (length-set c.as_mut_slice.result.now c.args.var (Some c.args.view) ∙ ap length same)))
