use Rattle.std.proofs.Common.{arith}
use Rattle.size_infer.proofs.ClassLemmas.{class_inside}
use Rattle.size_infer.proofs.classes.narrow_by.Goals as goal

pub offset_bounds-sets-class : goal.offset_bounds-sets-class
offset_bounds-sets-class c = let inside = class_inside c.args.first.now c.args.rule.now c.in-Within.place c.in-Within.set c.in-Within.is c.requires.first_long c.requires.below c.requires.within in record { fits = omega (arith, inside) }

pub slice_copy_out-and : goal.slice_copy_out-and
slice_copy_out-and c = let inside = class_inside c.args.first.now c.args.rule.now c.in-Within.place c.in-Within.set c.in-Within.is c.requires.first_long c.requires.below c.requires.within in let long = c.requires.sets_long in omega (arith, inside, long)

pub offset_bounds-sets-class-in-Within : goal.offset_bounds-sets-class-in-Within
offset_bounds-sets-class-in-Within c = let inside = class_inside c.args.first.now c.args.rule.now c.in-Within.place c.in-Within.set c.in-Within.is c.requires.first_long c.requires.below c.requires.within in record { fits = omega (arith, inside) }

pub bounds-sets-class : goal.bounds-sets-class
bounds-sets-class c = let inside = class_inside c.args.first.now c.args.rule.now c.in-Within.place c.in-Within.set c.in-Within.is c.requires.first_long c.requires.below c.requires.within in let long = c.requires.sets_long in omega (arith, inside, long)
