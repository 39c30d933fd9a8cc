-- What is told of an opcode that may stand in a rule: it works place by place, and its sources and result have as many components as there are places.
use Rattle.std.specs.Prelude.{◌≡◌, refl, true, not, ◌||◌}
use Rattle.std.proofs.lemmas.Bool.{and_parts, false≢true}
use Rattle.nir_ops.specs.declared.op.Op.{Op}
use Rattle.nir_ops.specs.declared.op.Op.TheVariants.{Mov, Vec2}
use Rattle.nir_ops.specs.Opcodes.{op_info, row_of}
use Rattle.op_eval.specs.declared.shape.Shape.{Shape}
use Rattle.op_eval.specs.declared.shape.Shape.TheVariants.{EachPlace, Gathers, AllEqual, SomeDiffer}
use Rattle.op_eval.specs.Calls.{per_component}
use Rattle.op_eval.specs.Views.{shape_of}
use Rattle.rule_term.specs.Formed.{is_each_place, is_mov, may_stand}

-- the first case splits, and the second is tried at each opcode that is left
standing : (op : Op) → (not (may_stand op) || per_component op) ≡ true
unfolding may_stand shape_of per_component op_info row_of
standing Vec2 = refl
standing op = refl

pub per_component-from_may_stand : (op : Op) → may_stand op ≡ true → per_component op ≡ true
per_component-from_may_stand op h = cc (standing op)

each_place : (shape : Shape) → is_each_place shape ≡ true → shape ≡ EachPlace
each_place EachPlace h = refl
each_place Gathers h = absurd (false≢true h)
each_place AllEqual h = absurd (false≢true h)
each_place SomeDiffer h = absurd (false≢true h)

pub shape-from_may_stand : (op : Op) → may_stand op ≡ true → shape_of op ≡ EachPlace
unfolding may_stand
shape-from_may_stand op h = each_place (shape_of op) (and_parts (not (is_mov op)) (is_each_place (shape_of op)) h).1

pub shape-Mov : shape_of Mov ≡ EachPlace
unfolding shape_of
shape-Mov = refl
