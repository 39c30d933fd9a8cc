-- A call of `run_check`: what its status says where it stopped, and where its lines were written, and that its promises are kept.
use Rattle.std.specs.Prelude.{◌≡◌, refl, ◌↔◌, ◌≢◌, ◌⊎◌, ℕ, true, false, List, [], ◌∷◌, Some, Ok, if◌then◌else◌}
use Rattle.std.proofs.Common.{◌∙◌, ap, inl, inr, subst, sym}
use Rattle.std.proofs.lemmas.Bool.{true≢false}
use Rattle.nir_host.specs.declared.fault.Which.TheVariants.{Rules, Shader}
use Rattle.nir_host.specs.Told.{Gains}
use Rattle.nir_host.specs.Whole.{TakesFront}
use Rattle.rule_check.specs.Accepted.{refusals}
use Rattle.rule_check.specs.declared.refused.Refused.{Refused}
use Rattle.rule_spelling.specs.Files.{File}
use Rattle.term_read.specs.declared.fault.RuleFault.{RuleFault}
use Rattle.run_words.specs.RunWords.{is_rules_alone}
use Rattle.nir_mean.specs.ShaderLines.{TakesLine}
use Rattle.nir_mean.specs.ShaderText.{ReadsToEnd}
use Rattle.nir_opt.specs.declared.status.Status.{Status}
use Rattle.nir_opt.specs.declared.status.Status.TheVariants.{Usage, ReadFault, WriteFault, RulesSyntax, RuleRefused, ShaderSyntax, ShaderInvalid, OutOfMemory}
use Rattle.nir_opt.specs.declared.status.Status.TheVariants as status
use Rattle.nir_opt.specs.Answers.{check_usage_line, is_of_rule_text, IsToldAs, line_with}
use Rattle.nir_opt.specs.Asked.{asked_to_check, Fits, IsAsked, is_free, rules_answer, stage_of, verdict, verdict_on}
use Rattle.nir_opt.specs.Checked.{check_text, is_of_check, is_whole, RanCheck}
use Rattle.nir_opt.specs.Ran.{ReadFaults, Reading, WriteFaults, Writing}
use Rattle.nir_opt.specs.Texts.{EndsReading}

-- a status with which reading the rules may end
record IsEnd (ending : Status) : Type 0 where
  kind : is_of_check ending ≡ true
  idle : is_whole ending ≡ false
  asked_for : is_free ending ≡ false → stage_of ending ≡ 1

is_end : (ending : Status) (fault : Type 0) → EndsReading ending fault → IsEnd ending
is_end status.Ok fault ends = absurd ends
is_end Usage fault ends = absurd ends
is_end (ReadFault Rules) fault ends = record { kind = refl; idle = refl; asked_for = λ free. absurd (true≢false free) }
is_end (ReadFault Shader) fault ends = absurd ends
is_end WriteFault fault ends = absurd ends
is_end (RulesSyntax of_text) fault ends = record { kind = refl; idle = refl; asked_for = λ _. refl }
is_end (RuleRefused refused) fault ends = absurd ends
is_end (ShaderSyntax of_text) fault ends = absurd ends
is_end (ShaderInvalid rule item) fault ends = absurd ends
is_end (status.TooLong Rules) fault ends = record { kind = refl; idle = refl; asked_for = λ _. refl }
is_end (status.TooLong Shader) fault ends = absurd ends
is_end OutOfMemory fault ends = record { kind = refl; idle = refl; asked_for = λ free. absurd (true≢false free) }

-- what the sink of lines took
abbrev pub Tells : Writing → Status → Type 0
Tells lines ending = TakesLine lines.taken_before lines.taken_after lines.faults_before lines.faults_after (line_with check_usage_line ending)

module _ (given_words : List (List ℕ)) (rules : Reading) (out lines : Writing) where
  -- a call that stopped before it wrote
  record Stops (ending : Status) : Type 0 where
    words : (ending ≡ Usage) ↔ (is_rules_alone given_words ≡ false)
    asks : (text : List ℕ) → rules.left_before ≡ Some text → IsAsked (asked_to_check given_words text) ending
    kind : is_of_check ending ≡ true
    idle : is_whole ending ≡ false
    not_fault : ending ≢ WriteFault
    syntax : (fault : RuleFault) → ending ≡ RulesSyntax fault → is_of_rule_text fault ≡ true
    rules_fault : ending ≡ ReadFault Rules → ReadFaults rules
    nothing_read : ending ≡ Usage → rules.left_after ≡ rules.left_before

  idle_ran : (ending : Status) → Stops ending → out.taken_after ≡ out.taken_before → Tells lines ending → RanCheck given_words rules out lines ending
  idle_ran ending stops kept told = record {
    words = stops.words;
    asks = stops.asks;
    kind = stops.kind;
    syntax = stops.syntax;
    rules_fault = stops.rules_fault;
    write_fault = λ is. absurd (stops.not_fault is);
    nothing_read = stops.nothing_read;
    end = λ whole. absurd (true≢false (sym whole ∙ stops.idle));
    untouched = λ _ _. kept;
    told = λ whole. absurd (true≢false (sym whole ∙ stops.idle));
    prefix = λ is. absurd (stops.not_fault is);
    notes = told;
  }

  usage_stops : is_rules_alone given_words ≡ false → rules.left_after ≡ rules.left_before → Stops Usage
  usage_stops other kept = record {
    words = (λ _. other, λ _. refl);
    asks = λ text _ _. sym (ap (λ b. if b then verdict_on (rules_answer true text) else Usage) other);
    kind = refl;
    idle = refl;
    not_fault = λ is. cc;
    syntax = λ fault is. absurd (cc);
    rules_fault = λ is. absurd (cc);
    nothing_read = λ _. kept;
  }

  memory_stops : is_rules_alone given_words ≡ true → Stops OutOfMemory
  memory_stops alone = record {
    words = (λ is. absurd (cc), λ other. absurd (true≢false (sym alone ∙ other)));
    asks = λ text _ free. absurd (true≢false free);
    kind = refl;
    idle = refl;
    not_fault = λ is. cc;
    syntax = λ fault is. absurd (cc);
    rules_fault = λ is. absurd (cc);
    nothing_read = λ is. absurd (cc);
  }

  asked_by : is_rules_alone given_words ≡ true → (text : List ℕ) → verdict_on (rules_answer true text) ≡ asked_to_check given_words text
  asked_by alone text = sym (ap (λ b. if b then verdict_on (rules_answer true text) else Usage) alone)

  rules_stop : is_rules_alone given_words ≡ true → (ending : Status) → IsEnd ending → EndsReading ending (ReadFaults rules)
      → ((text : List ℕ) → rules.left_before ≡ Some text → Fits 1 ending (rules_answer true text)) → Stops ending
  rules_stop alone ending at ends fits =
      let is_other : (other : Status) → ending ≡ other → EndsReading other (ReadFaults rules) = λ other is. subst (λ (s : Status). EndsReading s (ReadFaults rules)) is ends in
      record {
        words = (λ is. absurd (is_other Usage is), λ other. absurd (true≢false (sym alone ∙ other)));
        asks = λ text told free. sym (ap verdict_on ((fits text told).here (at.asked_for free) free)) ∙ asked_by alone text;
        kind = at.kind;
        idle = at.idle;
        not_fault = is_other WriteFault;
        syntax = λ fault is. is_other (RulesSyntax fault) is;
        rules_fault = is_other (ReadFault Rules);
        nothing_read = λ is. absurd (is_other Usage is);
      }

  -- where words are RULES alone, want of memory may take the place of a status
  told_stops : (ending answer result : Status) → is_rules_alone given_words ≡ true → Stops ending → IsToldAs ending answer → result ≡ answer → Stops result
  told_stops ending answer result alone stops becomes is =
      elim becomes [
        | inl same ↦ subst Stops (sym (is ∙ same)) stops
        | inr memory ↦ subst Stops (sym (is ∙ memory.0)) (memory_stops alone)
      ]

  -- one for each way to stop
  pub ran_without_words : (answer result : Status) → is_rules_alone given_words ≡ false → rules.left_after ≡ rules.left_before → IsToldAs Usage answer → result ≡ answer
      → out.taken_after ≡ out.taken_before → Tells lines result → RanCheck given_words rules out lines result
  ran_without_words answer result other rules_kept becomes is kept told =
      idle_ran result
      (elim becomes [
        | inl same ↦ subst Stops (sym (is ∙ same)) (usage_stops other rules_kept)
        | inr memory ↦ absurd (true≢false memory.1)
      ]) kept told

  pub ran_to_rules : (ending answer result : Status) → is_rules_alone given_words ≡ true → EndsReading ending (ReadFaults rules)
      → ((text : List ℕ) → rules.left_before ≡ Some text → Fits 1 ending (rules_answer true text)) → IsToldAs ending answer → result ≡ answer
      → out.taken_after ≡ out.taken_before → Tells lines result → RanCheck given_words rules out lines result
  ran_to_rules ending answer result alone ends fits becomes is =
      idle_ran result (told_stops ending answer result alone (rules_stop alone ending (is_end ending (ReadFaults rules) ends) ends fits) becomes is)

  pub ran_out_of_memory : (answer result : Status) → is_rules_alone given_words ≡ true → IsToldAs OutOfMemory answer → result ≡ answer
      → out.taken_after ≡ out.taken_before → Tells lines result → RanCheck given_words rules out lines result
  ran_out_of_memory answer result alone becomes is = idle_ran result (told_stops OutOfMemory answer result alone (memory_stops alone) becomes is)

  -- ---- a call whose lines were written

  -- a verdict is a status with which a call ends that wrote all
  record IsWhole (ending : Status) : Type 0 where
    kind : is_of_check ending ≡ true
    whole : is_whole ending ≡ true
    not_usage : ending ≢ Usage
    not_read : ending ≢ ReadFault Rules
    not_syntax : (fault : RuleFault) → ending ≢ RulesSyntax fault
    not_fault : ending ≢ WriteFault

  whole_verdict : (list : List Refused) → IsWhole (verdict list)
  whole_verdict [] = record { kind = refl; whole = refl; not_usage = λ is. cc; not_read = λ is. cc; not_syntax = λ fault is. cc; not_fault = λ is. cc }
  whole_verdict (refused ∷ others) = record { kind = refl; whole = refl; not_usage = λ is. cc; not_read = λ is. cc; not_syntax = λ fault is. cc; not_fault = λ is. cc }

  module _ (alone : is_rules_alone given_words ≡ true) (file : File) (reads : (text : List ℕ) → rules.left_before ≡ Some text → rules_answer true text ≡ Ok file)
      (end : ReadsToEnd rules.left_before rules.left_after) where
    -- what is asked for is the verdict on the file
    asks_verdict : (text : List ℕ) → rules.left_before ≡ Some text → verdict (refusals file.entries) ≡ asked_to_check given_words text
    asks_verdict text told = sym (ap verdict_on (reads text told)) ∙ asked_by alone text

    ended_whole : Gains out.taken_before out.taken_after (check_text file.entries) → Tells lines (verdict (refusals file.entries))
        → RanCheck given_words rules out lines (verdict (refusals file.entries))
    ended_whole gains told =
        let is = whole_verdict (refusals file.entries) in
        record {
          words = (λ usage. absurd (is.not_usage usage), λ other. absurd (true≢false (sym alone ∙ other)));
          asks = λ text is_told _. asks_verdict text is_told;
          kind = is.kind;
          syntax = λ fault same. absurd (is.not_syntax fault same);
          rules_fault = λ fault. absurd (is.not_read fault);
          write_fault = λ fault. absurd (is.not_fault fault);
          nothing_read = λ usage. absurd (is.not_usage usage);
          end = λ _. end;
          untouched = λ idle. absurd (true≢false (sym is.whole ∙ idle));
          told = λ _ text is_told. (file, reads text is_told, gains);
          prefix = λ fault. absurd (is.not_fault fault);
          notes = told;
        }

    ended_short : WriteFaults out → ((before : List ℕ) → out.taken_before ≡ Some before → TakesFront before out.taken_after (check_text file.entries)) → Tells lines WriteFault
        → RanCheck given_words rules out lines WriteFault
    ended_short fault front told = record {
      words = (λ is. absurd (cc), λ other. absurd (true≢false (sym alone ∙ other)));
      asks = λ text _ free. absurd (true≢false free);
      kind = refl;
      syntax = λ of_text is. absurd (cc);
      rules_fault = λ is. absurd (cc);
      write_fault = λ _. fault;
      nothing_read = λ is. absurd (cc);
      end = λ whole. absurd (true≢false (sym whole));
      untouched = λ _ not_fault. absurd (not_fault refl);
      told = λ whole. absurd (true≢false (sym whole));
      prefix = λ _ text is_told before taken. (file, reads text is_told, front before taken);
      notes = told;
    }

    pub ran_to_end : (given result : Status) (text : List ℕ) → text ≡ check_text file.entries → given ≡ verdict (refusals file.entries)
        → ((result ≡ given) × Gains out.taken_before out.taken_after text)
        ⊎ ((result ≡ WriteFault) × WriteFaults out × ((before : List ℕ) → out.taken_before ≡ Some before → TakesFront before out.taken_after text))
        → Tells lines result → RanCheck given_words rules out lines result
    ran_to_end given result text is verdict_is writes told =
        let P : Status → Type 0 = λ s. Tells lines s → RanCheck given_words rules out lines s in
        elim writes [
          | inl whole ↦ subst P (sym (whole.0 ∙ verdict_is)) (ended_whole (subst (Gains out.taken_before out.taken_after) is whole.1)) told
          | inr short ↦ subst P (sym short.0) (ended_short short.1 (λ before taken. subst (TakesFront before out.taken_after) is (short.2 before taken))) told
        ]
