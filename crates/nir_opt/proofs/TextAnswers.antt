-- What is answered on a text by its length, its fault, the rule that its shader breaks, or its shader.
use Rattle.std.proofs.Common.{◌≡◌, ℕ, ◌<◌, List, ◌++◌, length, None, Some, refl, sym, ap, ◌∙◌, arith, length-append}
use Rattle.std.specs.Prelude.{◌≤◌, Bool, true, false, Option, Result, Ok, Err, OnOk, [], ◌∷◌, nat_lt, slice_get, option_to_list, if◌then◌else◌}
use Rattle.std.proofs.lemmas.Bool.{le-ltb, lt-ltb, true≢false}
use Rattle.nir_host.specs.declared.fault.Which.TheVariants as which
use Rattle.nir_ir.specs.Shader.{Shader}
use Rattle.nir_lex.specs.declared.fault.LexFault.TheVariants.{BadByte, BadNumber}
use Rattle.nir_lex.specs.declared.fault.LexFault.TheVariants as lex
use Rattle.nir_text.specs.declared.fault.TextFault.{TextFault}
use Rattle.nir_mean.specs.ShaderText.{Faulty, Invalid, Sound, answer_of}
use Rattle.nir_mean.specs.ShaderText as answer
use Rattle.rule_read.specs.declared.entry.Entry.{Entry}
use Rattle.rule_spelling.specs.Files.{File}
use Rattle.term_read.specs.declared.fault.RuleFault.{RuleFault}
use Rattle.term_read.specs.declared.fault.RuleFault.TheVariants as rule
use Rattle.term_read.specs.Gives.{Fails}
use Rattle.rule_read.specs.FileText.{rules_of_text}
use Rattle.rule_read.specs.RuleFile.{RuleFile}
use Rattle.rule_read.specs.Says.{entry_says, file_says}
use Rattle.rule_check.specs.Accepted.{accepted, entries_say, refusal_of, refusals, rules_of}
use Rattle.rule_check.specs.declared.refused.Refused.{Refused}
use Rattle.nir_opt.specs.declared.status.Status.{Status}
use Rattle.nir_opt.specs.declared.status.Status.TheVariants.{Usage, ReadFault, WriteFault, RulesSyntax, RuleRefused, ShaderSyntax, ShaderInvalid, TooLong, OutOfMemory}
use Rattle.nir_opt.specs.declared.status.Status.TheVariants as status
use Rattle.nir_opt.specs.Answers.{is_of_rule_text}
use Rattle.nir_opt.specs.Asked.{answer_on, file_answer, Fits, is_free, judged, rules_answer, shader_answer, stage_of}
use Rattle.nir_opt.specs.Texts.{ends_by, EndsReading, EndsRules}

-- ---- a status that the text of its stage asks for, or that no text asks for

pub fits_asked : {A : Type 0} (stage : ℕ) (ending : Status) (answer : Result A Status) → answer ≡ Err ending → nat_lt stage (stage_of ending) ≡ false → Fits stage ending answer
fits_asked stage ending answer is last = record { here = λ _ _. is; later = λ later. absurd (true≢false (sym later ∙ last)) }

pub fits_free : {A : Type 0} (stage : ℕ) (ending : Status) (answer : Result A Status) → is_free ending ≡ true → nat_lt stage (stage_of ending) ≡ false → Fits stage ending answer
fits_free stage ending answer free last = record {
  here = λ _ not_free. absurd (true≢false (sym free ∙ not_free));
  later = λ later. absurd (true≢false (sym later ∙ last));
}

-- ---- rule texts

pub judged_skipping : (file : File) (list : List Refused) → judged true file list ≡ Ok file
judged_skipping file [] = refl
judged_skipping file (one ∷ others) = refl

pub rules-long : (skip : Bool) (text : List ℕ) → 67108864 < length text → rules_answer skip text ≡ Err (TooLong which.Rules)
unfolding rules_answer
rules-long skip text long = rw (lt-ltb 67108864 (length text) long) refl

pub rules-short : (skip : Bool) (text : List ℕ) → length text ≤ 67108864 → rules_answer skip text ≡ file_answer skip (rules_of_text text)
unfolding rules_answer
rules-short skip text short = rw (le-ltb 67108864 (length text) short) refl

-- the text of a file is judged by the file
pub rules-judged : (skip : Bool) (text : List ℕ) (file : File) → rules_answer true text ≡ Ok file → rules_answer skip text ≡ judged skip file (refusals file.entries)
unfolding rules_answer
rules-judged skip text file is = by_length (nat_lt 67108864 (length text)) (rules_of_text text) is where
  same_file : (found : File) (list : List Refused) → judged true found list ≡ Ok file → found ≡ file
  same_file found [] is = cc
  same_file found (refused ∷ others) is = cc

  by_length : (long : Bool) (read : Result File RuleFault) → (if long then Err (TooLong which.Rules) else file_answer true read) ≡ Ok file
      → (if long then Err (TooLong which.Rules) else file_answer skip read) ≡ judged skip file (refusals file.entries)
  by_length true read is = absurd (cc)
  by_length false (Ok found) is = ap (λ f. judged skip f (refusals f.entries)) (same_file found (refusals found.entries) is)
  by_length false (Err fault) is = absurd (cc)

-- a text of no file has none however its rules are judged
pub rules-refused : (skip : Bool) (text : List ℕ) (ending : Status) → rules_answer true text ≡ Err ending → rules_answer skip text ≡ Err ending
unfolding rules_answer
rules-refused skip text ending is = by_length (nat_lt 67108864 (length text)) (rules_of_text text) is where
  never : (found : File) (list : List Refused) → judged true found list ≡ Err ending → ⊥
  never found [] is = cc
  never found (refused ∷ others) is = cc

  by_length : (long : Bool) (read : Result File RuleFault) → (if long then Err (TooLong which.Rules) else file_answer true read) ≡ Err ending
      → (if long then Err (TooLong which.Rules) else file_answer skip read) ≡ Err ending
  by_length true read is = is
  by_length false (Ok found) is = absurd (never found (refusals found.entries) is)
  by_length false (Err fault) is = is

-- the file of a text that is short enough, and a text without one
pub file_found : (text : List ℕ) (file : RuleFile) → length text ≤ 67108864 → rules_of_text text ≡ Ok (file_says file) → rules_answer true text ≡ Ok (file_says file)
file_found text file short is =
    rules-short true text short ∙ ap (file_answer true) is ∙ judged_skipping (file_says file) (refusals (file_says file).entries)

-- a fault of the text is the one that is told
fails_so : {A : Type 0} (fault : RuleFault) (read : Result A RuleFault) → is_of_rule_text fault ≡ true → Fails fault read → read ≡ Err fault
fails_so (rule.Lex (BadByte place)) read is fails = fails
fails_so (rule.Lex (BadNumber place)) read is fails = fails
fails_so (rule.Lex lex.OutOfMemory) read is fails = absurd (true≢false (sym is))
fails_so (rule.Expected place) read is fails = fails
fails_so (rule.UnknownOp place) read is fails = fails
fails_so (rule.Arity place) read is fails = fails
fails_so (rule.Unbound place) read is fails = fails
fails_so (rule.TooLarge place) read is fails = fails
fails_so (rule.BadOption place) read is fails = fails
fails_so (rule.Excluded place) read is fails = fails
fails_so (rule.Weight place) read is fails = fails
fails_so rule.OutOfMemory read is fails = absurd (true≢false (sym is))

pub file_faulty : (text : List ℕ) (fault : RuleFault) → length text ≤ 67108864 → Fails fault (rules_of_text text) → Fits 1 (ends_by fault) (rules_answer true text)
file_faulty text fault short fails = by_kind (is_of_rule_text fault) refl where
  by_kind : (kind : Bool) → kind ≡ is_of_rule_text fault → Fits 1 (if kind then RulesSyntax fault else OutOfMemory) (rules_answer true text)
  by_kind true is =
      fits_asked 1 (RulesSyntax fault) (rules_answer true text) (rules-short true text short ∙ ap (file_answer true) (fails_so fault (rules_of_text text) (sym is) fails)) refl
  by_kind false is = fits_free 1 OutOfMemory (rules_answer true text) refl refl

pub ends_reading : (fault : RuleFault) (of_source : Type 0) → EndsReading (ends_by fault) of_source
ends_reading fault of_source = by_kind (is_of_rule_text fault) refl where
  by_kind : (kind : Bool) → kind ≡ is_of_rule_text fault → EndsReading (if kind then RulesSyntax fault else OutOfMemory) of_source
  by_kind true is = sym is
  by_kind false is = tt

-- a status with which reading the rules ends is of their stage
ends_at_rules : (ending : Status) (fault : Type 0) → EndsRules ending fault → nat_lt 1 (stage_of ending) ≡ false
ends_at_rules status.Ok fault ends = absurd ends
ends_at_rules Usage fault ends = absurd ends
ends_at_rules (ReadFault which.Rules) fault ends = refl
ends_at_rules (ReadFault which.Shader) fault ends = absurd ends
ends_at_rules WriteFault fault ends = absurd ends
ends_at_rules (RulesSyntax of_text) fault ends = refl
ends_at_rules (RuleRefused refused) fault ends = refl
ends_at_rules (ShaderSyntax of_text) fault ends = absurd ends
ends_at_rules (ShaderInvalid rule item) fault ends = absurd ends
ends_at_rules (TooLong which.Rules) fault ends = refl
ends_at_rules (TooLong which.Shader) fault ends = absurd ends
ends_at_rules OutOfMemory fault ends = refl

-- reading the text of the rules is a part of reading them
pub reads_as_rules : (ending : Status) (fault : Type 0) → EndsReading ending fault → EndsRules ending fault
reads_as_rules status.Ok fault ends = ends
reads_as_rules Usage fault ends = ends
reads_as_rules (ReadFault which.Rules) fault ends = ends
reads_as_rules (ReadFault which.Shader) fault ends = ends
reads_as_rules WriteFault fault ends = ends
reads_as_rules (RulesSyntax of_text) fault ends = ends
reads_as_rules (RuleRefused refused) fault ends = tt
reads_as_rules (ShaderSyntax of_text) fault ends = ends
reads_as_rules (ShaderInvalid rule item) fault ends = ends
reads_as_rules (TooLong which.Rules) fault ends = ends
reads_as_rules (TooLong which.Shader) fault ends = ends
reads_as_rules OutOfMemory fault ends = ends

-- a text that has no file fits a status however its rules are judged
pub fits_however : (skip : Bool) (text : List ℕ) (ending : Status) (fault : Type 0) → EndsRules ending fault → Fits 1 ending (rules_answer true text) → Fits 1 ending (rules_answer skip text)
fits_however skip text ending fault ends fits = record {
  here = λ at not_free. rules-refused skip text ending (fits.here at not_free);
  later = λ later. absurd (true≢false (sym later ∙ ends_at_rules ending fault ends));
}

-- ---- what is judged of a file

-- a rule that is not refused stands before the others that are accepted
one_accepted : (entry : Entry) (rest : List Entry) (refusal : Option Refused) → refusal_of (entry_says entry) ≡ refusal → option_to_list refusal ++ refusals (entries_say rest) ≡ []
    → (refusals (entries_say rest) ≡ [] → accepted rest ≡ rules_of rest) → accepted (entry ∷ rest) ≡ rules_of (entry ∷ rest)
one_accepted entry rest None is none others = rw is (ap (λ rules. entry.rule ∷ rules) (others none))
one_accepted entry rest (Some refused) is none others = absurd (cc)

-- where no rule is refused all are accepted
pub all_accepted : (entries : List Entry) → refusals (entries_say entries) ≡ [] → accepted entries ≡ rules_of entries
all_accepted [] none = refl
all_accepted (entry ∷ rest) none = one_accepted entry rest (refusal_of (entry_says entry)) refl none (λ others. all_accepted rest others)

pub judged_whole : (skip : Bool) (file : File) → refusals file.entries ≡ [] → judged skip file (refusals file.entries) ≡ Ok file
judged_whole skip file none = ap (judged skip file) none

pub judged_refused : (file : File) (list : List Refused) (refused : Refused) → slice_get list 0 ≡ Some refused → judged false file list ≡ Err (RuleRefused refused)
judged_refused file [] refused first = absurd (cc)
judged_refused file (one ∷ others) refused first = let same : one ≡ refused = cc in ap (λ (r : Refused). Err (RuleRefused r)) same

-- ---- lengths

-- what was taken is no longer than the whole
pub longer : (text taken rest : List ℕ) (max : ℕ) → text ≡ taken ++ rest → max < length taken → max < length text
longer text taken rest max parts more = omega (arith, ap length parts, length-append taken rest)

-- what holds in any case holds on Ok
pub on_ok : (A B fact : Type 0) (result : Result A B) → fact → OnOk result fact
on_ok A B fact (Ok value) holds = holds
on_ok A B fact (Err fault) holds = tt

pub answer_long : (text : List ℕ) → answer_of text ≡ answer.TooLong → shader_answer text ≡ Err (TooLong which.Shader)
unfolding shader_answer
answer_long text is = ap answer_on is

pub answer_fault : (text : List ℕ) (fault : TextFault) → answer_of text ≡ Faulty fault → shader_answer text ≡ Err (ShaderSyntax fault)
unfolding shader_answer
answer_fault text fault is = ap answer_on is

pub answer_invalid : (text : List ℕ) (rule item : ℕ) → answer_of text ≡ Invalid rule item → shader_answer text ≡ Err (ShaderInvalid rule item)
unfolding shader_answer
answer_invalid text rule item is = ap answer_on is

pub answer_sound : (text : List ℕ) (read : Shader) → answer_of text ≡ Sound read → shader_answer text ≡ Ok read
unfolding shader_answer
answer_sound text read is = ap answer_on is
