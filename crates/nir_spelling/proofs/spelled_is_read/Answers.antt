use Rattle.nir_spelling.proofs.Texts.{spelled_is_read, spelled_signs_are_read, names_are_found}
use Rattle.nir_spelling.proofs.spelled_is_read.Goals as goal

pub returns-clause-texts : goal.returns-clause-texts
returns-clause-texts c = spelled_is_read

pub returns-clause-tokens : goal.returns-clause-tokens
returns-clause-tokens c = spelled_signs_are_read

pub returns-clause-names : goal.returns-clause-names
returns-clause-names c = names_are_found
