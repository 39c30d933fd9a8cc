-- What is answered on a shader text by its length, its fault or its shader.
use Rattle.std.proofs.Common.{◌≡◌, ℕ, ◌<◌, ◌≤◌, List, ◌++◌, length, Some, refl, sym, ap, ◌∙◌, arith, length-append}
use Rattle.std.specs.Prelude.{true, false, Result, Ok, Err, nat_lt, if◌then◌else◌}
use Rattle.std.specs.Option.{option_map, unwrap_or}
use Rattle.std.proofs.lemmas.Bool.{true≢false}
use Rattle.std.proofs.lemmas.Bool.Decides.{nat_tests}
use Rattle.nir_host.specs.declared.reading.ReadAllFault.{ReadAllFault}
use Rattle.nir_host.specs.declared.reading.ReadAllFault.TheVariants as reading
use Rattle.nir_ir.specs.Shader.{Shader}
use Rattle.nir_lex.specs.declared.fault.LexFault.TheVariants.{BadByte, BadNumber}
use Rattle.nir_lex.specs.declared.fault.LexFault.TheVariants as lex
use Rattle.nir_text.specs.declared.fault.TextFault.{TextFault}
use Rattle.nir_text.specs.declared.fault.TextFault.TheVariants.{Lex, Expected, UnknownOp, UnknownName, Twice, TooDeep, TooMany}
use Rattle.nir_text.specs.declared.fault.TextFault.TheVariants as text
use Rattle.nir_text.specs.Reading.{Fails}
use Rattle.nir_text.specs.Tree.{read_text}
use Rattle.nir_validate.specs.TypedLaws.{valid-where_none}
use Rattle.nir_validate.specs.Valid.{Valid, first_invalid}
use Rattle.nir_mean.specs.Faults.{is_of_text}
use Rattle.nir_mean.specs.ShaderText.{AreRead, TooLong, Faulty, Invalid, Sound, answer_of, read_and_judged}

-- what was taken is no longer than the whole
pub longer : (text taken rest : List ℕ) (max : ℕ) → text ≡ taken ++ rest → max < length taken → max < length text
longer text taken rest max parts more = omega (arith, ap length parts, length-append taken rest)

is_long : (m n : ℕ) → m < n → nat_lt m n ≡ true
is_long m n less = grind (arith, nat_tests)

is_short : (m n : ℕ) → n ≤ m → nat_lt m n ≡ false
is_short m n most = grind (arith, nat_tests)

pub answer_long : (text : List ℕ) → 4194304 < length text → answer_of text ≡ TooLong
unfolding answer_of
answer_long text long = ap (λ b. if b then TooLong else read_and_judged (read_text text)) (is_long 4194304 (length text) long)

-- a text within the length is read
answer_short : (text : List ℕ) → length text ≤ 4194304 → answer_of text ≡ read_and_judged (read_text text)
unfolding answer_of
answer_short text short = ap (λ b. if b then TooLong else read_and_judged (read_text text)) (is_short 4194304 (length text) short)

fails_is : (fault : TextFault) (read : Result Shader TextFault) → is_of_text fault ≡ true → Fails fault read → read ≡ Err fault
fails_is (Lex (BadByte place)) read of h = h
fails_is (Lex (BadNumber place)) read of h = h
fails_is (Lex lex.OutOfMemory) read of h = h
fails_is (Expected place) read of h = h
fails_is (UnknownOp place) read of h = h
fails_is (UnknownName place) read of h = h
fails_is (Twice place) read of h = h
fails_is (TooDeep place) read of h = h
fails_is (TooMany place) read of h = h
fails_is text.OutOfMemory read of h = absurd (true≢false (sym of))

pub answer_fault : (text : List ℕ) (fault : TextFault) → length text ≤ 4194304 → is_of_text fault ≡ true → Fails fault (read_text text) → answer_of text ≡ Faulty fault
answer_fault text fault short of fails = answer_short text short ∙ ap read_and_judged (fails_is fault (read_text text) of fails)

pub answer_sound : (text : List ℕ) (s : Shader) → length text ≤ 4194304 → read_text text ≡ Ok s → Valid s → answer_of text ≡ Sound s
answer_sound text s short read valid = answer_short text short ∙ ap read_and_judged read ∙ ap (λ found. unwrap_or (option_map (λ fault. Invalid fault.rule fault.item) found) (Sound s)) ((valid-where_none s).0 valid)

pub answer_invalid : (text : List ℕ) (s : Shader) (rule item : ℕ) → length text ≤ 4194304 → read_text text ≡ Ok s → first_invalid s ≡ Some (record { rule = rule; item = item }) → answer_of text ≡ Invalid rule item
answer_invalid text s rule item short read first = answer_short text short ∙ ap read_and_judged read ∙ ap (λ found. unwrap_or (option_map (λ fault. Invalid fault.rule fault.item) found) (Sound s)) first

pub err_read : (fault : ReadAllFault) (text : List ℕ) → (fault ≡ reading.TooLong → answer_of text ≡ TooLong) → AreRead (Err fault) text
err_read reading.ReadFault text h = tt
err_read reading.TooLong text h = h refl
err_read reading.OutOfMemory text h = tt
