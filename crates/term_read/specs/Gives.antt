-- A function of the code answers what reading gives, unless memory runs out.
use Rattle.std.specs.Prelude.{◌≡◌, Result, Ok, Err}
use Rattle.term_read.specs.declared.fault.RuleFault.{RuleFault}
use Rattle.term_read.specs.declared.fault.RuleFault.TheVariants.{Lex, Expected, UnknownOp, Arity, Unbound, TooLarge, BadOption, Excluded, Weight, OutOfMemory}

abbrev pub Fails : {Y : Type 0} → RuleFault → Result Y RuleFault → Type 0
Fails (Lex fault) read = read ≡ Err (Lex fault)
Fails (Expected place) read = read ≡ Err (Expected place)
Fails (UnknownOp place) read = read ≡ Err (UnknownOp place)
Fails (Arity place) read = read ≡ Err (Arity place)
Fails (Unbound place) read = read ≡ Err (Unbound place)
Fails (TooLarge place) read = read ≡ Err (TooLarge place)
Fails (BadOption place) read = read ≡ Err (BadOption place)
Fails (Excluded place) read = read ≡ Err (Excluded place)
Fails (Weight place) read = read ≡ Err (Weight place)
Fails OutOfMemory read = Unit {0}

-- what is answered, seen by view
abbrev pub Gives : {X Y : Type 0} → (X → Y) → Result X RuleFault → Result Y RuleFault → Type 0
Gives view (Ok x) read = read ≡ Ok (view x)
Gives view (Err fault) read = Fails fault read
