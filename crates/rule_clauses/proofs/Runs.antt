-- A call of the program: what its status says where it stopped, and where its text was written, and that its promises are kept.
use Rattle.std.specs.Prelude.{◌≡◌, refl, ◌↔◌, ◌≢◌, ◌⊎◌, ℕ, true, List, Some, None, Ok}
use Rattle.std.proofs.Common.{◌∙◌, ap, inl, inr, subst, sym}
use Rattle.std.proofs.lemmas.Bool.{true≢false}
use Rattle.std.proofs.lemmas.Option.{none-some}
use Rattle.nir_host.specs.Told.{Gains}
use Rattle.nir_host.specs.Whole.{TakesFront}
use Rattle.size_infer.specs.declared.fault.SizeFault.{SizeFault}
use Rattle.term_read.specs.declared.fault.RuleFault.{RuleFault}
use Rattle.rule_clauses.specs.declared.words.Choice.{Choice}
use Rattle.rule_clauses.specs.declared.status.Status.{Status}
use Rattle.rule_clauses.specs.declared.status.Status.TheVariants.{Usage, ReadFault, WriteFault, RulesSyntax, OutOfMemory, NoSizes}
use Rattle.rule_clauses.specs.declared.status.Status.TheVariants as status
use Rattle.rule_clauses.specs.Answers.{is_of_sizes, is_of_text, IsToldAs, line_of}
use Rattle.rule_clauses.specs.Asked.{answer_to, by_words, EndsWork, IsAsked, text_answer, TextFits}
use Rattle.rule_clauses.specs.Ran.{Ran, ReadFaults, Reading, ReadsToEnd, TakesLine, WriteFaults, Writing}
use Rattle.rule_clauses.specs.Words.{choice_of}

-- what the sink of lines took
abbrev pub Tells : Writing → Status → Type 0
Tells lines ending = TakesLine lines.taken_before lines.taken_after lines.faults_before lines.faults_after (line_of ending)

module _ (given_words : List (List ℕ)) (rules : Reading) (out lines : Writing) where
  -- a call that stopped before it wrote
  record Stops (ending : Status) : Type 0 where
    words : (ending ≡ Usage) ↔ (choice_of given_words ≡ None)
    asks : (text : List ℕ) → rules.left_before ≡ Some text → IsAsked (answer_to given_words text) ending
    syntax : (fault : RuleFault) → ending ≡ RulesSyntax fault → is_of_text fault ≡ true
    sizes : (number : ℕ) (fault : SizeFault) → ending ≡ NoSizes number fault → is_of_sizes fault ≡ true
    rules_fault : ending ≡ ReadFault → ReadFaults rules
    nothing_read : ending ≡ Usage → rules.left_after ≡ rules.left_before
    not_ok : ending ≢ status.Ok
    not_fault : ending ≢ WriteFault

  idle_ran : (ending : Status) → Stops ending → out.taken_after ≡ out.taken_before → Tells lines ending → Ran given_words rules out lines ending
  idle_ran ending stops kept told = record {
    words = stops.words;
    asks = stops.asks;
    syntax = stops.syntax;
    sizes = stops.sizes;
    rules_fault = stops.rules_fault;
    write_fault = λ is. absurd (stops.not_fault is);
    nothing_read = stops.nothing_read;
    end = λ is. absurd (stops.not_ok is);
    untouched = λ _ _. kept;
    written = λ is. absurd (stops.not_ok is);
    prefix = λ is. absurd (stops.not_fault is);
    notes = told;
  }

  usage_stops : choice_of given_words ≡ None → rules.left_after ≡ rules.left_before → Stops Usage
  unfolding answer_to
  usage_stops none kept = record {
    words = (λ _. none, λ _. refl);
    asks = λ text _ _. ap (λ choice. by_words choice text) none;
    syntax = λ fault is. absurd (cc);
    sizes = λ number fault is. absurd (cc);
    rules_fault = λ is. absurd (cc);
    nothing_read = λ _. kept;
    not_ok = λ is. cc;
    not_fault = λ is. cc;
  }

  pub ran_without_words : (answer result : Status) → choice_of given_words ≡ None → rules.left_after ≡ rules.left_before → IsToldAs Usage answer → result ≡ answer
      → out.taken_after ≡ out.taken_before → Tells lines result → Ran given_words rules out lines result
  ran_without_words answer result none rules_kept becomes is =
      idle_ran result
      (elim becomes [
        | inl same ↦ subst Stops (sym (is ∙ same)) (usage_stops none rules_kept)
        | inr memory ↦ absurd (true≢false memory.1)
      ])

  module _ (choice : Choice) (reads : choice_of given_words ≡ Some choice) where
    not_usage : (ending : Status) → ending ≢ Usage → (ending ≡ Usage) ↔ (choice_of given_words ≡ None)
    not_usage ending other = (λ is. absurd (other is), λ none. absurd (none-some choice (sym none ∙ reads)))

    answer_by_words : (text : List ℕ) → answer_to given_words text ≡ text_answer choice text
    unfolding answer_to
    answer_by_words text = ap (λ chosen. by_words chosen text) reads

    memory_stops : Stops OutOfMemory
    memory_stops = record {
      words = not_usage OutOfMemory (λ is. cc);
      asks = λ text _ refusal. absurd (true≢false (sym refusal));
      syntax = λ fault is. absurd (cc);
      sizes = λ number fault is. absurd (cc);
      rules_fault = λ is. absurd (cc);
      nothing_read = λ is. absurd (cc);
      not_ok = λ is. cc;
      not_fault = λ is. cc;
    }

    work_stops : (ending : Status) → EndsWork ending (ReadFaults rules)
        → ((text : List ℕ) → rules.left_before ≡ Some text → IsAsked (text_answer choice text) ending) → Stops ending
    work_stops ending ends fits =
        let is_other : (other : Status) → ending ≡ other → EndsWork other (ReadFaults rules) = λ other is. subst (λ (s : Status). EndsWork s (ReadFaults rules)) is ends in
        record {
          words = not_usage ending (is_other Usage);
          asks = λ text told refusal. answer_by_words text ∙ fits text told refusal;
          syntax = λ fault is. is_other (RulesSyntax fault) is;
          sizes = λ number fault is. is_other (NoSizes number fault) is;
          rules_fault = is_other ReadFault;
          nothing_read = λ is. absurd (is_other Usage is);
          not_ok = is_other status.Ok;
          not_fault = is_other WriteFault;
        }

    -- want of memory may take the place of a status
    pub ran_to_stop : (ending answer result : Status) → EndsWork ending (ReadFaults rules)
        → ((text : List ℕ) → rules.left_before ≡ Some text → IsAsked (text_answer choice text) ending) → IsToldAs ending answer → result ≡ answer
        → out.taken_after ≡ out.taken_before → Tells lines result → Ran given_words rules out lines result
    ran_to_stop ending answer result ends fits becomes is =
        idle_ran result
        (elim becomes [
          | inl same ↦ subst Stops (sym (is ∙ same)) (work_stops ending ends fits)
          | inr memory ↦ subst Stops (sym (is ∙ memory.0)) memory_stops
        ])

    -- ---- a call whose text was written

    module _ (whole : List ℕ) (fits : (text : List ℕ) → rules.left_before ≡ Some text → TextFits (Ok whole) (text_answer choice text))
        (end : ReadsToEnd rules.left_before rules.left_after) where
      ended_whole : Gains out.taken_before out.taken_after whole → Tells lines status.Ok → Ran given_words rules out lines status.Ok
      ended_whole gains told = record {
        words = not_usage status.Ok (λ is. cc);
        asks = λ text _ refusal. absurd (true≢false (sym refusal));
        syntax = λ fault is. absurd (cc);
        sizes = λ number fault is. absurd (cc);
        rules_fault = λ is. absurd (cc);
        write_fault = λ is. absurd (cc);
        nothing_read = λ is. absurd (cc);
        end = λ _. end;
        untouched = λ not_ok. absurd (not_ok refl);
        written = λ _ text is_told.
            let f = fits text is_told in
            (f.0, answer_by_words text ∙ f.1, subst (Gains out.taken_before out.taken_after) f.2 gains);
        prefix = λ is. absurd (cc);
        notes = told;
      }

      ended_short : WriteFaults out → ((before : List ℕ) → out.taken_before ≡ Some before → TakesFront before out.taken_after whole) → Tells lines WriteFault
          → Ran given_words rules out lines WriteFault
      ended_short fault front told = record {
        words = not_usage WriteFault (λ is. cc);
        asks = λ text _ refusal. absurd (true≢false (sym refusal));
        syntax = λ of_text is. absurd (cc);
        sizes = λ number of_sizes is. absurd (cc);
        rules_fault = λ is. absurd (cc);
        write_fault = λ _. fault;
        nothing_read = λ is. absurd (cc);
        end = λ is. absurd (cc);
        untouched = λ _ not_fault. absurd (not_fault refl);
        written = λ is. absurd (cc);
        prefix = λ _ text is_told before taken.
            let f = fits text is_told in
            (f.0, answer_by_words text ∙ f.1, subst (TakesFront before out.taken_after) f.2 (front before taken));
        notes = told;
      }

      pub ran_to_end : (result : Status)
          → ((result ≡ status.Ok) × Gains out.taken_before out.taken_after whole)
          ⊎ ((result ≡ WriteFault) × WriteFaults out × ((before : List ℕ) → out.taken_before ≡ Some before → TakesFront before out.taken_after whole))
          → Tells lines result → Ran given_words rules out lines result
      ran_to_end result writes told =
          let P : Status → Type 0 = λ s. Tells lines s → Ran given_words rules out lines s in
          elim writes [
            | inl ended ↦ subst P (sym ended.0) (ended_whole ended.1) told
            | inr short ↦ subst P (sym short.0) (ended_short short.1 short.2) told
          ]
