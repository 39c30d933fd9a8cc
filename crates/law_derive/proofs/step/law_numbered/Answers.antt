use Rattle.std.proofs.Common.{◌≡◌, ◌<◌, ◌-◌, arith}
use Rattle.std.specs.Prelude.{slice_get}
use Rattle.std.specs.Option.{option_copied}
use Rattle.law_derive.proofs.StepLemmas.{each_fits, got, numbered_is}
use Rattle.law_derive.proofs.step.law_numbered.Goals as goal

pub returns-clause-value : goal.returns-clause-value
returns-clause-value c =
    let own : option_copied c.get.result ≡ slice_get c.laws.result.now (c.args.number - 1) = got c.laws.result.now (c.args.number - 1) c.get.result c.get.ensures.lookup.0 c.get.ensures.lookup.1 in
    let some : 0 < c.args.number = omega (arith, c.if-number-eq0.false) in
    numbered_is c.laws.result.now c.args.number c.get.result c.laws.ensures some own

pub returns-clause-fits : goal.returns-clause-fits
returns-clause-fits c =
    let own : option_copied c.get.result ≡ slice_get c.laws.result.now (c.args.number - 1) = got c.laws.result.now (c.args.number - 1) c.get.result c.get.ensures.lookup.0 c.get.ensures.lookup.1 in
    let some : 0 < c.args.number = omega (arith, c.if-number-eq0.false) in
    each_fits c.args.number c.get.result (numbered_is c.laws.result.now c.args.number c.get.result c.laws.ensures some own)
