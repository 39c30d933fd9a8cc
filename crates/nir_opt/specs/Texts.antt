-- How reading the rules and reading the shader end: with which statuses, and what the end says of the text.
use Rattle.std.specs.Prelude.{◌≡◌, true, map, Result, Ok, Err, ⊤, if◌then◌else◌}
use Rattle.nir_host.specs.declared.fault.Which.TheVariants.{Rules, Shader}
use Rattle.nir_ops.specs.declared.op.Op.{Op}
use Rattle.nir_ir.specs.Shader as ir
use Rattle.rule_check.specs.Accepted.{accepted, entries_say, refusals, weight_in}
use Rattle.rule_check.specs.declared.refused.Checked.{Checked}
use Rattle.rule_spelling.specs.Files.{File}
use Rattle.term_read.specs.declared.fault.RuleFault.{RuleFault}
use Rattle.rule_read.specs.RuleFile.{RuleFile}
use Rattle.rule_read.specs.Says.{file_says, weight_says}
use Rattle.rule_term.specs.Table.{Table, op_weight}
use Rattle.nir_mean.specs.Faults.{is_of_text}
use Rattle.nir_opt.specs.declared.status.Status.{Status}
use Rattle.nir_opt.specs.declared.status.Status.TheVariants.{Usage, ReadFault, WriteFault, RulesSyntax, RuleRefused, ShaderSyntax, ShaderInvalid, OutOfMemory}
use Rattle.nir_opt.specs.declared.status.Status.TheVariants as status
use Rattle.nir_opt.specs.Answers.{is_of_rule_text}
use Rattle.nir_opt.specs.Asked.{Fits}

-- the table has the accepted rules of a file, in order, and the file's weights
pub record IsTableOf (file : RuleFile) (table : Table) : Type 0 where
  pub rules : table.rules ≡ accepted file.entries
  pub weights : (op : Op) → op_weight table op ≡ weight_in (map weight_says file.weights) op

-- the table is that of a file that says what is answered, and the others are refused
pub record IsCheckedOf (answer : Result File Status) (checked : Checked) : Type 0 where
  pub file : RuleFile
  pub is : answer ≡ Ok (file_says file)
  pub table : IsTableOf file checked.table
  pub refused : checked.refused ≡ refusals (entries_say file.entries)

-- a rule text has this table, or is as the status says
abbrev pub CheckedFits : Result Checked Status → Result File Status → Type 0
CheckedFits (Ok checked) answer = IsCheckedOf answer checked
CheckedFits (Err ending) answer = Fits 1 ending answer

-- a rule text says what this file says, or is as the status says
abbrev pub FileFits : Result RuleFile Status → Result File Status → Type 0
FileFits (Ok file) answer = answer ≡ Ok (file_says file)
FileFits (Err ending) answer = Fits 1 ending answer

-- a shader text has this shader, or is as the status says
abbrev pub ReadFits : Result ir.Shader Status → Result ir.Shader Status → Type 0
ReadFits (Ok shader) answer = answer ≡ Ok shader
ReadFits (Err ending) answer = Fits 2 ending answer

-- how reading a rule text with this fault ends
abbrev pub ends_by : RuleFault → Status
ends_by fault = if is_of_rule_text fault then RulesSyntax fault else OutOfMemory

-- reading the text of the rules may end with this status; where that is a fault of their source, this holds, and a fault that is told of the text is one of
-- the text
abbrev pub EndsReading : Status → Type 0 → Type 0
EndsReading status.Ok fault = ⊥
EndsReading Usage fault = ⊥
EndsReading (ReadFault Rules) fault = fault
EndsReading (ReadFault Shader) fault = ⊥
EndsReading WriteFault fault = ⊥
EndsReading (RulesSyntax of_text) fault = is_of_rule_text of_text ≡ true
EndsReading (RuleRefused refused) fault = ⊥
EndsReading (ShaderSyntax of_text) fault = ⊥
EndsReading (ShaderInvalid rule item) fault = ⊥
EndsReading (status.TooLong Rules) fault = ⊤
EndsReading (status.TooLong Shader) fault = ⊥
EndsReading OutOfMemory fault = ⊤

-- reading and checking the rules may end so, or with a rule that is refused
abbrev pub EndsRules : Status → Type 0 → Type 0
EndsRules status.Ok fault = ⊥
EndsRules Usage fault = ⊥
EndsRules (ReadFault Rules) fault = fault
EndsRules (ReadFault Shader) fault = ⊥
EndsRules WriteFault fault = ⊥
EndsRules (RulesSyntax of_text) fault = is_of_rule_text of_text ≡ true
EndsRules (RuleRefused refused) fault = ⊤
EndsRules (ShaderSyntax of_text) fault = ⊥
EndsRules (ShaderInvalid rule item) fault = ⊥
EndsRules (status.TooLong Rules) fault = ⊤
EndsRules (status.TooLong Shader) fault = ⊥
EndsRules OutOfMemory fault = ⊤

-- and reading the shader with this one; a fault that is told of the text is one of the text
abbrev pub EndsShader : Status → Type 0 → Type 0
EndsShader status.Ok fault = ⊥
EndsShader Usage fault = ⊥
EndsShader (ReadFault Rules) fault = ⊥
EndsShader (ReadFault Shader) fault = fault
EndsShader WriteFault fault = ⊥
EndsShader (RulesSyntax of_text) fault = ⊥
EndsShader (RuleRefused refused) fault = ⊥
EndsShader (ShaderSyntax of_text) fault = is_of_text of_text ≡ true
EndsShader (ShaderInvalid rule item) fault = ⊤
EndsShader (status.TooLong Rules) fault = ⊥
EndsShader (status.TooLong Shader) fault = ⊤
EndsShader OutOfMemory fault = ⊤
