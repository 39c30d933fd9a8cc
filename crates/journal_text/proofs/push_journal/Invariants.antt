use Rattle.std.proofs.Common.{◌≡◌, ◌++◌, drop}
use Rattle.journal_text.specs.Journal.{journal_text}
use Rattle.journal_text.proofs.push_journal.Given as goal

abbrev pub invariant-loop-step : goal.invariant-loop-step
invariant-loop-step l = l.out.items ++ journal_text (drop l.step-index l.steps) ≡ l.initial.out.items ++ journal_text l.steps
