use Rattle.std.proofs.Common.{◌≡◌, ◌<◌, length, false, arith, rules}
use Rattle.std.specs.Prelude.{is_none}
use Rattle.rule_term.proofs.ReplaceSteps.{some_nodes, unsized_of-first}
use Rattle.rule_term.proofs.search_sizes.free_width.Goals as goal

pub bounds-widths-0 : goal.bounds-widths-0
bounds-widths-0 c =
    let some : 0 < length c.args.args.now = grind arith in
    let nodes = some_nodes c.args.args.now some in
    let enough = c.requires.enough in
    omega arith

pub returns : goal.returns
returns c =
    let some : 0 < length c.args.args.now = grind arith in
    let sized : is_none c.args.out ≡ false = search rules in
    unsized_of-first c.args.out c.args.dst c.args.args.now c.args.widths.now sized some
