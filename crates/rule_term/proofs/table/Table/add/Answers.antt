use Rattle.std.proofs.Common.{◌≡◌, sym, subst, List, ◌++◌, ◌∷◌, [], Result, Ok, Err, OnOk, OnErr, ◌<◌, ◌^◌}
use Rattle.rule_term.specs.Formed.{IsFormed}
use Rattle.rule_term.specs.Holds.{Holds}
use Rattle.rule_term.specs.Rule.{Rule}
use Rattle.rule_term.specs.Table.{Table, AllBelow, IsTable, IsTable-add}
use Rattle.rule_term.proofs.table.Table.add.Goals as goal

-- pushed, or as it was
kept : {T E : Type 0} (result : Result T E) (before after : List Rule) (rule : Rule) → OnOk result (after ≡ before ++ rule ∷ []) → OnErr result (after ≡ before) → IsTable before → Holds rule → IsFormed rule → AllBelow rule.number before → rule.number < 2 ^ 32 → IsTable after
kept (Ok done) before after rule pushed stayed table here formed below small = subst IsTable (sym pushed) (IsTable-add before rule table here formed below small)
kept (Err error) before after rule pushed stayed table here formed below small = subst IsTable (sym stayed) table

pub invariant_of-self : goal.invariant_of-self
invariant_of-self c =
    let small : c.args.rule.number < 2 ^ 32 = subst (λ (r : Rule). r.number < 2 ^ 32) c.rule.view_is c.rule.ranges.0.1 in
    (kept c.push.result c.self.inside.rules c.push.new.self c.args.rule c.push.ensures.ok c.push.ensures.err c.self.invariant.0 c.requires.holds (subst IsFormed c.rule.view_is c.rule.invariant) (subst (λ (t : Table). AllBelow c.args.rule.number t.rules) (sym c.self.view_is) c.requires.greater) small, c.self.invariant.1)
