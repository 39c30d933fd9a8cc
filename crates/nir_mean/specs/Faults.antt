-- Faults of a shader text: where each stands, and the words in which it is told.
use Rattle.std.specs.Prelude.{ℕ, Bool, true, false, List, [], ◌++◌, codes, decimal}
use Rattle.nir_lex.specs.declared.fault.LexFault.TheVariants.{BadByte, BadNumber}
use Rattle.nir_lex.specs.declared.fault.LexFault.TheVariants as lex
use Rattle.nir_text.specs.declared.fault.TextFault.{TextFault}
use Rattle.nir_text.specs.declared.fault.TextFault.TheVariants.{Lex, Expected, UnknownOp, UnknownName, Twice, TooDeep, TooMany}
use Rattle.nir_text.specs.declared.fault.TextFault.TheVariants as text

-- a fault that the text has, and not a want of memory in reading it
abbrev pub is_of_text : TextFault → Bool
is_of_text (Lex (BadByte place)) = true
is_of_text (Lex (BadNumber place)) = true
is_of_text (Lex lex.OutOfMemory) = false
is_of_text (Expected place) = true
is_of_text (UnknownOp place) = true
is_of_text (UnknownName place) = true
is_of_text (Twice place) = true
is_of_text (TooDeep place) = true
is_of_text (TooMany place) = true
is_of_text text.OutOfMemory = false

-- its place in the text, where it is of the text
abbrev pub fault_place : TextFault → ℕ
fault_place (Lex (BadByte place)) = place
fault_place (Lex (BadNumber place)) = place
fault_place (Lex lex.OutOfMemory) = 0
fault_place (Expected place) = place
fault_place (UnknownOp place) = place
fault_place (UnknownName place) = place
fault_place (Twice place) = place
fault_place (TooDeep place) = place
fault_place (TooMany place) = place
fault_place text.OutOfMemory = 0

-- what it is called, where it is of the text
abbrev pub fault_what : TextFault → List ℕ
fault_what (Lex (BadByte place)) = codes "bad byte"
fault_what (Lex (BadNumber place)) = codes "bad number"
fault_what (Lex lex.OutOfMemory) = []
fault_what (Expected place) = codes "unexpected"
fault_what (UnknownOp place) = codes "unknown opcode"
fault_what (UnknownName place) = codes "unknown name"
fault_what (Twice place) = codes "named twice"
fault_what (TooDeep place) = codes "too deep"
fault_what (TooMany place) = codes "too many"
fault_what text.OutOfMemory = []

-- where a text has a fault, and which
abbrev pub fault_text : TextFault → List ℕ
fault_text fault = codes "byte " ++ decimal (fault_place fault) ++ codes ": " ++ fault_what fault
