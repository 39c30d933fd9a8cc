use Rattle.std.proofs.Common.{◌≡◌, drop, map}
use Rattle.rule_read.specs.Says.{binding_says}
use Rattle.law_derive.specs.Readings.{bound_says, exprs_of, onto}
use Rattle.law_derive.specs.Settings.{setting_says}
use Rattle.law_derive.proofs.binding.expressions.Given as goal

-- the expressions so far, and those of the bindings that are left
abbrev pub invariant-loop-binding : goal.invariant-loop-binding
invariant-loop-binding l = record {
  so_far : onto (map bound_says l.bounds) (exprs_of (setting_says l.setting) l.width (map binding_says (drop l.binding-index l.bindings)))
      ≡ exprs_of (setting_says l.setting) l.width (map binding_says l.bindings);
}
