use Rattle.std.proofs.Common.{◌≤◌, ◌<◌, length, map, arith, rules}
use Rattle.std.proofs.lemmas.Result.{on_ok_weaker}
use Rattle.size_infer.specs.Meant.{meant, never}
use Rattle.size_infer.proofs.SourceLemmas.{input_past, never_left, source_past}
use Rattle.size_infer.proofs.sources.add_sources.Goals as goal

pub returns-in-None : goal.returns-in-None
returns-in-None c =
    let l = c.loop-at in
    let past : length c.args.inputs.now ≤ l.at = search rules in
    let left = source_past c.args.free c.args.inputs.now c.args.sources.now l.at past c.loop-at-test.true in
    on_ok_weaker c.add_never.result (λ added. never_left (map meant l.rules) (map meant c.add_never.new.rules) _ (never c.args.free) _ added left l.invariant) c.add_never.ensures

pub returns-then-sources-inputs : goal.returns-then-sources-inputs
returns-then-sources-inputs c =
    let l = c.loop-at in
    let past : length c.args.sources.now ≤ l.at = grind arith in
    let within : l.at < length c.args.inputs.now = grind arith in
    let left = input_past c.args.free c.args.inputs.now c.args.sources.now l.at past within in
    on_ok_weaker c.add_never-then-sources-inputs.result (λ added. never_left (map meant l.rules) (map meant c.add_never-then-sources-inputs.new.rules) _ (never c.args.free) _ added left l.invariant) c.add_never-then-sources-inputs.ensures
