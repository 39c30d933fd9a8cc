use Rattle.std.proofs.Common.{◌≡◌, ◌≤◌, true, inr, arith, rules}
use Rattle.rule_term.specs.Table.{op_weight}
use Rattle.nir_search.specs.Steps.{is_settled}
use Rattle.nir_search.specs.Weight.{weight_of}
use Rattle.rule_meaning.specs.SettledLaws.{settled_within}
use Rattle.rewrite_pass.specs.RewritingLaws.{advances_then, rewrites_keep, rewrites_then}
use Rattle.rewrite_pass.proofs.RoundsLemmas.{limit_or}
use Rattle.rewrite_pass.proofs.rounds.rewrite_all.Goals as goal

pub returns-in_err-count-clause-steps : goal.returns-in_err-count-clause-steps
returns-in_err-count-clause-steps g c =
    rewrites_then c.args.options.now c.args.table.now.rules c.args.work.now.shader c.loop-pass.work.shader c.one_pass.new.work.shader c.args.journal.now c.loop-pass.journal c.one_pass.new.journal
    c.loop-pass.invariant.steps.steps c.in_err-count.ensures.steps

pub returns-in_err-count-clause-valid : goal.returns-in_err-count-clause-valid
returns-in_err-count-clause-valid g c =
    (rewrites_keep c.args.options.now c.args.table.now.rules c.args.work.now.shader c.one_pass.new.work.shader c.args.journal.now c.one_pass.new.journal c.rules_hold.ensures.formed c.rules_hold.ensures.hold
    c.keeps_shape.ensures.shaped c.keeps_shape.ensures.valid (returns-in_err-count-clause-steps g c)).valid

pub returns-in_err-count-clause-same : goal.returns-in_err-count-clause-same
returns-in_err-count-clause-same g c =
    (rewrites_keep c.args.options.now c.args.table.now.rules c.args.work.now.shader c.one_pass.new.work.shader c.args.journal.now c.one_pass.new.journal c.rules_hold.ensures.formed c.rules_hold.ensures.hold
    c.keeps_shape.ensures.shaped c.keeps_shape.ensures.valid (returns-in_err-count-clause-steps g c)).same

pub returns-then-count-eq0-clause-steps : goal.returns-then-count-eq0-clause-steps
returns-then-count-eq0-clause-steps g c =
    rewrites_then c.args.options.now c.args.table.now.rules c.args.work.now.shader c.loop-pass.work.shader c.one_pass.new.work.shader c.args.journal.now c.loop-pass.journal c.one_pass.new.journal
    c.loop-pass.invariant.steps.steps c.in_ok-count.ensures.steps

pub returns-then-count-eq0-clause-valid : goal.returns-then-count-eq0-clause-valid
returns-then-count-eq0-clause-valid g c =
    (rewrites_keep c.args.options.now c.args.table.now.rules c.args.work.now.shader c.one_pass.new.work.shader c.args.journal.now c.one_pass.new.journal c.rules_hold.ensures.formed c.rules_hold.ensures.hold
    c.keeps_shape.ensures.shaped c.keeps_shape.ensures.valid (returns-then-count-eq0-clause-steps g c)).valid

pub returns-then-count-eq0-clause-same : goal.returns-then-count-eq0-clause-same
returns-then-count-eq0-clause-same g c =
    (rewrites_keep c.args.options.now c.args.table.now.rules c.args.work.now.shader c.one_pass.new.work.shader c.args.journal.now c.one_pass.new.journal c.rules_hold.ensures.formed c.rules_hold.ensures.hold
    c.keeps_shape.ensures.shaped c.keeps_shape.ensures.valid (returns-then-count-eq0-clause-steps g c)).same

pub returns-then-count-eq0-clause-settled : goal.returns-then-count-eq0-clause-settled
returns-then-count-eq0-clause-settled g c =
    let zero : c.in_ok-count.count ≡ 0 = search rules in
    limit_or (is_settled c.args.options.now c.args.table.now.rules c.one_pass.new.work.shader ≡ true) c.loop-pass.done c.args.limit c.loop-pass.invariant.few (c.in_ok-count.ensures.settled zero)

pub returns-then-count-eq0-clause-ends : goal.returns-then-count-eq0-clause-ends
returns-then-count-eq0-clause-ends g c = λ down enough.
    let l = c.loop-pass in
    let zero : c.in_ok-count.count ≡ 0 = search rules in
    let keeps = rewrites_keep c.args.options.now c.args.table.now.rules c.args.work.now.shader c.one_pass.new.work.shader c.args.journal.now c.one_pass.new.journal c.rules_hold.ensures.formed
    c.rules_hold.ensures.hold c.keeps_shape.ensures.shaped c.keeps_shape.ensures.valid (returns-then-count-eq0-clause-steps g c) in
    let advances = advances_then c.args.options.now c.args.table.now c.args.work.now.shader l.work.shader c.one_pass.new.work.shader c.args.journal.now l.journal c.one_pass.new.journal l.done
    c.in_ok-count.count l.invariant.steps c.in_ok-count.ensures.done in
    let falls = advances.falls down in
    settled_within c.args.options.now c.args.table.now c.one_pass.new.work.shader keeps.shaped c.rules_hold.ensures.formed down (weight_of (op_weight c.args.table.now) c.args.work.now.shader)
    l.done c.args.limit (returns-then-count-eq0-clause-settled g c) (omega (arith, falls, zero)) enough

pub loop-pass-preserved : goal.loop-pass-preserved
loop-pass-preserved g c =
    let l = c.loop-pass in
    let own = c.in_ok-count.ensures in
    let few : l.done ≤ c.args.limit = l.invariant.few in
    let most = own.few in
    let many = l.invariant.many in
    record {
      steps = advances_then c.args.options.now c.args.table.now c.args.work.now.shader l.work.shader c.one_pass.new.work.shader c.args.journal.now l.journal c.one_pass.new.journal l.done c.in_ok-count.count l.invariant.steps own.done;
      few = omega (arith, few, most);
      many = omega (arith, many, c.if-count-eq0.false);
    }

pub returns-clause-valid : goal.returns-clause-valid
returns-clause-valid g c =
    (rewrites_keep c.args.options.now c.args.table.now.rules c.args.work.now.shader c.loop-pass.work.shader c.args.journal.now c.loop-pass.journal c.rules_hold.ensures.formed c.rules_hold.ensures.hold
    c.keeps_shape.ensures.shaped c.keeps_shape.ensures.valid c.loop-pass.invariant.steps.steps).valid

pub returns-clause-same : goal.returns-clause-same
returns-clause-same g c =
    (rewrites_keep c.args.options.now c.args.table.now.rules c.args.work.now.shader c.loop-pass.work.shader c.args.journal.now c.loop-pass.journal c.rules_hold.ensures.formed c.rules_hold.ensures.hold
    c.keeps_shape.ensures.shaped c.keeps_shape.ensures.valid c.loop-pass.invariant.steps.steps).same

pub returns-clause-settled : goal.returns-clause-settled
returns-clause-settled g c =
    let few : c.loop-pass.done ≤ c.args.limit = c.loop-pass.invariant.few in
    let many = c.loop-pass.invariant.many in
    inr (omega (arith, few, many, c.loop-pass-test.false))

pub returns-clause-ends : goal.returns-clause-ends
returns-clause-ends g c = λ down enough.
    let l = c.loop-pass in
    let keeps = rewrites_keep c.args.options.now c.args.table.now.rules c.args.work.now.shader l.work.shader c.args.journal.now l.journal c.rules_hold.ensures.formed
    c.rules_hold.ensures.hold c.keeps_shape.ensures.shaped c.keeps_shape.ensures.valid l.invariant.steps.steps in
    settled_within c.args.options.now c.args.table.now l.work.shader keeps.shaped c.rules_hold.ensures.formed down (weight_of (op_weight c.args.table.now) c.args.work.now.shader)
    l.done c.args.limit (returns-clause-settled g c) (l.invariant.steps.falls down) enough
