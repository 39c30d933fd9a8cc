use Rattle.std.proofs.Common.{◌∙◌, sym, subst}
use Rattle.size_laws.specs.ClassesLaws.{IsNaming}
use Rattle.size_infer.specs.Options.{listed}
use Rattle.size_infer.proofs.ClassLemmas.{classes_left, naming_by, within_left}
use Rattle.size_infer.proofs.classes.first_nodes.Goals as goal

pub loop-rule-preserved : goal.loop-rule-preserved
loop-rule-preserved c =
    let l = c.loop-rule in
    let within = within_left c.args.rules.now l.rule-index _ c.loop-rule-test.true 98 l.invariant.within in
    record {
      long = cc;
      naming = subst (IsNaming 98) (sym c.join_by.ensures) (naming_by 98 (listed l.first) l.invariant.naming _ within.0);
      within = within.1;
      made = classes_left c.args.rules.now l.rule-index _ c.loop-rule-test.true (listed l.first) (listed c.join_by.new.first) c.join_by.ensures ∙ l.invariant.made;
    }
