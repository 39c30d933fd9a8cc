use Rattle.std.proofs.Common.{◌≡◌, drop, map}
use Rattle.rule_read.specs.Says.{step_says}
use Rattle.law_derive.specs.Derivations.{derive_from}
use Rattle.law_derive.specs.Settings.{setting_says}
use Rattle.law_derive.specs.StandingLaws.{IsTermAt}
use Rattle.law_derive.proofs.check.derived.Given as goal

-- what is wrong with the steps that are left is what is wrong with all
abbrev pub invariant-loop-number : goal.invariant-loop-number
invariant-loop-number l = record {
  so_far : derive_from (setting_says l.setting) l.number (map step_says (drop l.number l.steps)) l.nodes ≡ derive_from (setting_says l.setting) 0 (map step_says l.steps) l.fn.start;
  term : IsTermAt (setting_says l.setting) l.nodes;
}
