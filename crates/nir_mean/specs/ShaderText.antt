-- What a shader text holds: a valid shader, or the first thing that is wrong with it.
use Rattle.std.specs.Prelude.{◌≡◌, ℕ, true, List, [], length, Option, Some, Result, Ok, Err, nat_lt, ⊤, if◌then◌else◌}
use Rattle.std.specs.Option.{option_map, unwrap_or}
use Rattle.nir_host.specs.declared.reading.ReadAllFault.{ReadAllFault}
use Rattle.nir_host.specs.declared.reading.ReadAllFault.TheVariants as reading
use Rattle.nir_ir.specs.Shader.{Shader}
use Rattle.nir_text.specs.declared.fault.TextFault.{TextFault}
use Rattle.nir_text.specs.Tree.{read_text}
use Rattle.nir_validate.specs.Valid.{first_invalid}
use Rattle.nir_mean.specs.Faults.{is_of_text}
use Rattle.nir_mean.specs.declared.shader_text.ShaderRefusal.{ShaderRefusal}
use Rattle.nir_mean.specs.declared.shader_text.ShaderRefusal.TheVariants as refusal

pub data Answer : Type 0 where
  TooLong : Answer
  Faulty : (fault : TextFault) → Answer
  Invalid : (rule item : ℕ) → Answer
  Sound : (shader : Shader) → Answer

-- sound, unless a rule is broken
abbrev pub judged : Shader → Answer
judged shader = unwrap_or (option_map (λ fault. Invalid fault.rule fault.item) (first_invalid shader)) (Sound shader)

abbrev pub read_and_judged : Result Shader TextFault → Answer
read_and_judged (Ok shader) = judged shader
read_and_judged (Err fault) = Faulty fault

-- at most 4 MiB are read
unfoldable pub answer_of : List ℕ → Answer
answer_of text = if nat_lt 4194304 (length text) then TooLong else read_and_judged (read_text text)

-- how reading the bytes of a source ended says this of its text: nothing, where it was not read whole
abbrev pub AreRead : Result (List ℕ) ReadAllFault → List ℕ → Type 0
AreRead (Ok bytes) text = bytes ≡ text
AreRead (Err reading.ReadFault) text = ⊤
AreRead (Err reading.TooLong) text = answer_of text ≡ TooLong
AreRead (Err reading.OutOfMemory) text = ⊤

-- how looking for the shader of a text ended says this of the text: nothing, where it was not looked at
abbrev pub Answers : Result Shader ShaderRefusal → Answer → Type 0
Answers (Ok shader) answer = answer ≡ Sound shader
Answers (Err refusal.ReadFault) answer = ⊤
Answers (Err refusal.TooLong) answer = answer ≡ TooLong
Answers (Err (refusal.Syntax fault)) answer = answer ≡ Faulty fault
Answers (Err (refusal.Invalid rule item)) answer = answer ≡ Invalid rule item
Answers (Err refusal.OutOfMemory) answer = ⊤

-- what is told as a fault of the text is one
abbrev pub TellsFault : Result Shader ShaderRefusal → Type 0
TellsFault (Ok shader) = ⊤
TellsFault (Err refusal.ReadFault) = ⊤
TellsFault (Err refusal.TooLong) = ⊤
TellsFault (Err (refusal.Syntax fault)) = is_of_text fault ≡ true
TellsFault (Err (refusal.Invalid rule item)) = ⊤
TellsFault (Err refusal.OutOfMemory) = ⊤

-- all bytes that were told were read
abbrev pub ReadsToEnd : Option (List ℕ) → Option (List ℕ) → Type 0
ReadsToEnd before now = (text : List ℕ) → before ≡ Some text → now ≡ Some []
