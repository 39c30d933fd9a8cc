-- What checking a rule file answers.
use Rattle.std.specs.Prelude.{◌≡◌, Some, List, [], Result, Ok, Err}
use Rattle.rule_term.specs.Table.{Table}
use Rattle.rule_read.specs.declared.entry.Entry.{Entry}
use Rattle.rule_check.specs.declared.refused.CheckFault.{CheckFault}
use Rattle.rule_check.specs.declared.refused.CheckFault.TheVariants as fault
use Rattle.rule_check.specs.Accepted.{entries_say, first_refusal, refusals, rules_of}

-- The table of all rules where no rule is refused, else the first refusal. Memory may be wanting at any time.
abbrev pub IsVerdict : List Entry → Result Table CheckFault → Type 0
IsVerdict entries (Ok table) = (refusals (entries_say entries) ≡ []) × (table.rules ≡ rules_of entries)
IsVerdict entries (Err (fault.Refused refused)) = first_refusal (entries_say entries) ≡ Some refused
IsVerdict entries (Err fault.OutOfMemory) = Unit {0}
