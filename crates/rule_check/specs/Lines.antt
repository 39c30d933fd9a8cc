-- Lines of evidence by what the code looks at: which typing each is for.
use Rattle.std.specs.Prelude.{ℕ, Bool, Option, Some, None}
use Rattle.rule_spelling.specs.Files.{Line}
use Rattle.rule_check.specs.Accepted.{is_by, is_by_all}

abbrev pub is_for : Option ℕ → Line → Bool
is_for None line = is_by_all line
is_for (Some number) line = is_by number line
