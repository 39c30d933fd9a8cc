-- What each status of running a shader says of the words and of the text, and which line it writes.
use Rattle.std.specs.Prelude.{◌≡◌, ◌^◌, ℕ, Bool, true, false, ◌&&◌, ◌++◌, List, [], ◌∷◌, length, codes, Option, Some, None, nat_eq, nat_lt, ⊤, ◌⊎◌}
use Rattle.std.specs.List.{list_all}
use Rattle.nir_host.specs.declared.fault.Which.TheVariants.{Rules, Shader}
use Rattle.nir_ir.specs.declared.kind.Kind.{Kind}
use Rattle.nir_ir.specs.Shader as ir
use Rattle.nir_ops.specs.Width.{width_bits}
use Rattle.eval_words.specs.declared.words.EvalWords.{EvalWords}
use Rattle.nir_mean.specs.declared.status.Status.{Status}
use Rattle.nir_mean.specs.declared.status.Status.TheVariants.{Usage, ReadFault, WriteFault, ShaderSyntax, ShaderInvalid, Misfit, OutOfMemory}
use Rattle.nir_mean.specs.declared.status.Status.TheVariants as status
use Rattle.nir_mean.specs.ShaderLines.{invalid_line, syntax_line, which_text}
use Rattle.nir_mean.specs.ShaderText.{Answer, Sound, Faulty, Invalid}
use Rattle.nir_mean.specs.ShaderText as answer

-- a component list for each declared input, and a buffer for each that is declared
abbrev pub comps_fit : Kind → List ℕ → Bool
comps_fit kind comps = nat_eq (length comps) kind.count && list_all (λ comp. nat_lt comp (2 ^ width_bits kind.width)) comps

abbrev pub inputs_fit : List Kind → List (List ℕ) → Bool
inputs_fit [] [] = true
inputs_fit [] (comps ∷ inputs) = false
inputs_fit (kind ∷ kinds) [] = false
inputs_fit (kind ∷ kinds) (comps ∷ inputs) = comps_fit kind comps && inputs_fit kinds inputs

unfoldable pub words_fit : EvalWords → ir.Shader → Bool
words_fit words s = inputs_fit s.inputs words.inputs && nat_eq (length words.buffers) s.buffers

-- the shader is sound, and the words fit it or not
pub record IsGiven (words : EvalWords) (found : Answer) (fit : Bool) (s : ir.Shader) : Type 0 where
  pub sound : found ≡ Sound s
  pub fits : words_fit words s ≡ fit

abbrev pub Says : Status → EvalWords → Answer → Type 0
Says status.Ok words found = (s : ir.Shader) × IsGiven words found true s
Says Usage words found = ⊤
Says (ReadFault Rules) words found = ⊥
Says (ReadFault Shader) words found = ⊤
Says WriteFault words found = (s : ir.Shader) × IsGiven words found true s
Says (ShaderSyntax fault) words found = found ≡ Faulty fault
Says (ShaderInvalid rule item) words found = found ≡ Invalid rule item
Says Misfit words found = (s : ir.Shader) × IsGiven words found false s
Says (status.TooLong Rules) words found = ⊥
Says (status.TooLong Shader) words found = found ≡ answer.TooLong
Says OutOfMemory words found = ⊤

-- the whole text was taken, or there was no memory
abbrev pub EndsWell : Status → Type 0
EndsWell status.Ok = ⊤
EndsWell Usage = ⊥
EndsWell (ReadFault which) = ⊥
EndsWell WriteFault = ⊥
EndsWell (ShaderSyntax fault) = ⊥
EndsWell (ShaderInvalid rule item) = ⊥
EndsWell Misfit = ⊥
EndsWell (status.TooLong which) = ⊥
EndsWell OutOfMemory = ⊤

abbrev pub number_of : Status → ℕ
number_of status.Ok = 0
number_of Usage = 2
number_of (ReadFault which) = 3
number_of WriteFault = 4
number_of (ShaderSyntax fault) = 7
number_of (ShaderInvalid rule item) = 8
number_of (status.TooLong which) = 9
number_of OutOfMemory = 10
number_of Misfit = 11

-- the line of a status, or nothing
abbrev pub line_of : Status → List ℕ
line_of status.Ok = []
line_of Usage = codes "usage: nir_opt eval --turns=N [--input=V] [--buffer=HEX]\n"
line_of (ReadFault which) = codes "read failed: " ++ which_text which ++ codes "\n"
line_of WriteFault = codes "write failed\n"
line_of (ShaderSyntax fault) = syntax_line fault
line_of (ShaderInvalid rule item) = invalid_line rule item
line_of Misfit = codes "inputs do not fit\n"
line_of (status.TooLong which) = codes "too long: " ++ which_text which ++ codes "\n"
line_of OutOfMemory = codes "out of memory\n"

-- a status whose line is one of a few
abbrev pub has_plain_line : Status → Bool
has_plain_line status.Ok = true
has_plain_line Usage = true
has_plain_line (ReadFault which) = true
has_plain_line WriteFault = true
has_plain_line (ShaderSyntax fault) = false
has_plain_line (ShaderInvalid rule item) = false
has_plain_line Misfit = true
has_plain_line (status.TooLong which) = true
has_plain_line OutOfMemory = true

-- the line of a status: built, or one of a few
abbrev pub IsLine : Option (List ℕ) → Status → Type 0
IsLine None status = has_plain_line status ≡ true
IsLine (Some line) status = line ≡ line_of status

-- the status that is answered for one whose line is written: want of memory for the line takes its place
abbrev pub IsToldAs : Status → Status → Type 0
IsToldAs status answer = (answer ≡ status) ⊎ (answer ≡ OutOfMemory) × (has_plain_line status ≡ false)
