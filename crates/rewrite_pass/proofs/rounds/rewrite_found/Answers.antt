use Rattle.std.proofs.Common.{ap}
use Rattle.std.proofs.lemmas.Option.{slice_get_within}
use Rattle.nir_search.specs.FirstLaws.{first_from_table, first_hits, rule_there}
use Rattle.rewrite_pass.specs.RewritingLaws.{step_advances}
use Rattle.rewrite_pass.proofs.rounds.rewrite_found.Goals as goal

pub rule-requires : goal.rule-requires
rule-requires c =
    let from = first_from_table c.args.options.now c.args.table.now.rules c.args.work.now.shader.body c.args.value c.args.hit.now c.requires.first in
    slice_get_within c.args.table.now.rules c.args.hit.now.rule from.rule (rule_there c.args.table.now.rules c.args.work.now.shader.body c.args.value c.args.hit.now from)

pub rewrite_at-requires-clause-hit : goal.rewrite_at-requires-clause-hit
rewrite_at-requires-clause-hit c = first_hits c.args.options.now c.args.table.now.rules c.args.work.now.shader.body c.args.value c.args.hit.now c.requires.first

pub returns-in-Ok-clause-done : goal.returns-in-Ok-clause-done
returns-in-Ok-clause-done c =
    let own = c.in-Ok.ensures in
    step_advances c.args.options.now c.args.table.now c.args.work.now.shader c.rewrite_at.new.work.shader c.args.value c.args.hit.now c.rule.result.now c.behind-table.inside.number c.args.journal.now c.push.new.self
    c.requires.first c.rule.ensures.value (ap (λ r. r.number) c.behind-table.view_is) own.put c.in_ok-push.ensures.ok own.few own.falls

pub returns-in-Ok-clause-steps : goal.returns-in-Ok-clause-steps
returns-in-Ok-clause-steps c = (returns-in-Ok-clause-done c).steps
