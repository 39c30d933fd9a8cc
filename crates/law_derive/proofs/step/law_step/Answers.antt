use Rattle.std.proofs.Common.{rules, ◌≡◌, ◌∙◌, sym, subst, ap, drop, Some}
use Rattle.std.proofs.lemmas.List.{take_rest}
use Rattle.law_derive.specs.Nodes.{first_term, place_at}
use Rattle.law_derive.specs.Settings.{setting_says}
use Rattle.law_derive.specs.StandingLaws.{IsTermAt}
use Rattle.law_derive.specs.StepsLaws.{part_stands}
use Rattle.law_derive.proofs.step.law_step.Goals as goal

pub by_law-requires-clause-term : goal.by_law-requires-clause-term
by_law-requires-clause-term c =
    let at = setting_says c.args.setting.now in
    let nodes = c.args.nodes.now in
    let place : place_at c.args.path.now nodes ≡ Some c.in-Some.place = search rules in
    let is : c.first_term.result.now ≡ first_term (drop c.in-Some.place nodes) = c.first_term.ensures ∙ ap first_term (take_rest nodes c.in-Some.place) in
    subst (IsTermAt at) (sym is) (part_stands at nodes c.args.path.now c.in-Some.place c.requires.term place)
