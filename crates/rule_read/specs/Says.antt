-- What a rule file of the code says, in the words of its grammar.
use Rattle.std.specs.Prelude.{◌≡◌, ℕ, suc, List, [], ◌∷◌, map}
use Rattle.std.proofs.Common.{sym, subst}
use Rattle.list_laws.specs.AllLaws.{all_of_map}
use Rattle.clause_check.specs.declared.clause.LogStep as code_log_step
use Rattle.rule_term.specs.Rule as code_rule
use Rattle.rule_spelling.specs.Files.{Rule, Binding, Step, Apply, Calc, LogStep, Proof, Cases, Derive, Logged, Line, Entry, WeightLine, File, Item, AreNumbered, AreWeights, entries_of, weights_of, file_of}
use Rattle.rule_read.specs.declared.derivation.Binding as code_binding
use Rattle.rule_read.specs.declared.derivation.DeriveStep.{DeriveStep}
use Rattle.rule_read.specs.declared.derivation.DeriveStep.TheVariants as code_step
use Rattle.rule_read.specs.declared.entry.Entry as code_entry
use Rattle.rule_read.specs.declared.entry.Line as code_line
use Rattle.rule_read.specs.declared.entry.Proof as code_proof
use Rattle.rule_read.specs.declared.entry.Proof.TheVariants as shown
use Rattle.rule_read.specs.declared.entry.WeightLine as code_weight
use Rattle.formula_read.specs.Formulas.{when_says}
use Rattle.term_read.specs.Views.{term_says}
use Rattle.rule_read.specs.RuleFile as code

-- ---- evidence

abbrev pub binding_says : code_binding.Binding → Binding
binding_says binding = record { name = binding.name; with = term_says binding.with }

abbrev pub step_says : DeriveStep → Step
step_says (code_step.Apply law path rev bindings) = Apply law path rev (map binding_says bindings)
step_says (code_step.Calc path with) = Calc path (term_says with)

abbrev pub log_step_says : code_log_step.LogStep → LogStep
log_step_says step = record { clause = step.clause; hints = step.hints }

abbrev pub proof_says : code_proof.Proof → Proof
proof_says shown.Cases = Cases
proof_says (shown.Derive steps) = Derive (map step_says steps)
proof_says (shown.Logged steps) = Logged (map log_step_says steps)

abbrev pub line_says : code_line.Line → Line
line_says line = record { typing = line.typing; proof = proof_says line.proof }

-- ---- files

abbrev pub rule_says : code_rule.Rule → Rule
rule_says rule = record { number = rule.number; search = rule.search; replace = rule.replace; formula = when_says rule.when; vars = rule.vars }

abbrev pub entry_says : code_entry.Entry → Entry
entry_says entry = record { rule = rule_says entry.rule; lines = map line_says entry.lines }

abbrev pub weight_says : code_weight.WeightLine → WeightLine
weight_says line = record { op = line.op; weight = line.weight }

abbrev pub file_says : code.RuleFile → File
file_says file = record { entries = map entry_says file.entries; weights = map weight_says file.weights }

-- ---- a file that says what is numbered and weighed in order is so

numbered_says : (number : ℕ) (entries : List code_entry.Entry) → AreNumbered number (map entry_says entries) → code.AreNumbered number entries
numbered_says number [] all = tt
numbered_says number (entry ∷ entries) all = (all.0, numbered_says (suc number) entries all.1)

weights_say : (weights : List code_weight.WeightLine) → AreWeights (map weight_says weights) → code.AreWeights weights
weights_say [] all = tt
weights_say (line ∷ weights) all = (all.0, all.1, all_of_map weight_says _ weights all.2, weights_say weights all.3)

pub file_is_good : (file : code.RuleFile) (items : List Item) → file_says file ≡ file_of items → AreNumbered 0 (entries_of items) → AreWeights (weights_of items)
    → code.IsRuleFile file
file_is_good file items same numbers weights = record {
  numbered = numbered_says 0 file.entries (subst (λ (f : File). AreNumbered 0 f.entries) (sym same) numbers);
  weighed = weights_say file.weights (subst (λ (f : File). AreWeights f.weights) (sym same) weights);
}
