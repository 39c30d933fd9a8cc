use Rattle.std.proofs.Common.{refl, ◌&&◌, ap, map}
use Rattle.std.proofs.Math.Path.{fun_ext}
use Rattle.size_laws.specs.Places.{allowed}
use Rattle.size_infer.specs.Meant.{meant}
use Rattle.size_infer.specs.Options.{listed, set_at}
use Rattle.size_infer.proofs.ClassLemmas.{allowed_done, full_at}
use Rattle.size_infer.proofs.classes.class_sets.Goals as goal

pub loop-rule-init : goal.loop-rule-init
loop-rule-init c = record {
  long = refl;
  within = c.requires.within;
  narrow = λ node width. ap (λ b. b && allowed (listed c.args.first.now) (map meant c.args.rules.now) node width) (full_at 98 c.full-sets.result c.full-sets.ensures node width);
}

pub returns : goal.returns
returns c =
    let l = c.loop-rule in
    fun_ext (λ node. fun_ext (λ width. allowed_done (listed c.args.first.now) c.args.rules.now l.rule-index (set_at l.sets node width) _ node width c.loop-rule-test.false (l.invariant.narrow node width)))
