use Rattle.std.proofs.Common.{refl}
use Rattle.size_infer.proofs.ClassLemmas.{joined_less, joined_more, read_inside}
use Rattle.size_infer.proofs.classes.join.Goals as goal

pub redirect_all-requires : goal.redirect_all-requires
redirect_all-requires c = record { inside = read_inside _ c.args.first.now c.args.other c.requires.naming refl c.requires.other_inside }

pub redirect_all-requires-else-a-b : goal.redirect_all-requires-else-a-b
redirect_all-requires-else-a-b c = record { inside = read_inside _ c.args.first.now c.args.one c.requires.naming refl c.requires.one_inside }

pub returns-then-a-b : goal.returns-then-a-b
returns-then-a-b c = joined_less c.args.first.now c.redirect_all.new.first c.args.one c.args.other c.requires.one_inside c.requires.other_inside c.if-a-b.true c.redirect_all.ensures

pub returns-else-a-b : goal.returns-else-a-b
returns-else-a-b c = joined_more c.args.first.now c.redirect_all-else-a-b.new.first c.args.one c.args.other c.requires.one_inside c.requires.other_inside c.if-a-b.false c.redirect_all-else-a-b.ensures
