-- A run that came to its end: whether its text was taken whole or not, its promises are kept.
use Rattle.std.specs.Prelude.{◌≡◌, refl, ◌++◌, ℕ, Bool, true, false, List, [], Some, Ok, IsOk, nat_le, nat_lt}
use Rattle.std.proofs.Common.{◌∙◌, ap, inl, inr, subst, sym}
use Rattle.std.proofs.lemmas.Bool.{true≢false}
use Rattle.nir_host.specs.Told.{Gains}
use Rattle.nir_host.specs.Whole.{TakesFront}
use Rattle.nir_ir.specs.Shader as ir
use Rattle.nir_mean.specs.ShaderLines.{TakesLine}
use Rattle.nir_mean.specs.ShaderText.{ReadsToEnd}
use Rattle.rule_check.specs.Accepted.{refusals}
use Rattle.rule_check.specs.declared.refused.Refused.{Refused}
use Rattle.rule_spelling.specs.Files.{File}
use Rattle.run_words.specs.RunWords.{Given, run_words}
use Rattle.nir_opt.specs.declared.printed.Printed.{Printed}
use Rattle.nir_opt.specs.declared.status.Report.{Report}
use Rattle.nir_opt.specs.declared.status.Status.{Status}
use Rattle.nir_opt.specs.declared.status.Status.TheVariants.{OutOfMemory, Usage, WriteFault}
use Rattle.nir_opt.specs.declared.status.Status.TheVariants as status
use Rattle.nir_opt.specs.Answers.{skipped_text}
use Rattle.nir_opt.specs.Asked.{asked, asked_of, behind, Fits, rules_answer, shader_answer, stage_of}
use Rattle.nir_opt.specs.Printed.{IsPrinted, printed_text, PrintsLast, reported, Writes}
use Rattle.nir_opt.specs.Ran.{AreSkipped, Ran, Reading, report_line, WriteFaults, Writing}
use Rattle.nir_opt.proofs.Stops.{for_said, told_whole, Told, words_are_read}

module _ (given_words : List (List ℕ)) (said : Given) (reads : run_words given_words ≡ Some said) (rules shader : Reading) (printed : Printed) (skipped : List Refused) where
  -- what is known of a run whose text is built
  pub record Prints : Type 0 where
    pub told : Told given_words said reads rules skipped
    pub found : (text : List ℕ) → shader.left_before ≡ Some text → (read : ir.Shader) × (shader_answer text ≡ Ok read)
    pub rules_end : ReadsToEnd rules.left_before rules.left_after
    pub shader_end : ReadsToEnd shader.left_before shader.left_after
    pub prints : (rule_text shader_text : List ℕ) → rules.left_before ≡ Some rule_text → shader.left_before ≡ Some shader_text → PrintsLast said rule_text shader_text printed

  module _ (run : Prints) where
    rules_fit : (ending : Status) → stage_of ending ≡ 3 → (given : Given) → run_words given_words ≡ Some given → (text : List ℕ) → rules.left_before ≡ Some text
        → Fits 1 ending (rules_answer given.skip text)
    rules_fit ending last =
        for_said given_words said reads (λ given. (text : List ℕ) → rules.left_before ≡ Some text → Fits 1 ending (rules_answer given.skip text))
        (λ text is. record { here = λ same _. let three : 3 ≡ 1 = sym last ∙ same in absurd (cc); later = λ _. subst IsOk (sym (run.told.all text is).1) refl })

    shader_fits : (ending : Status) → stage_of ending ≡ 3 → (text : List ℕ) → shader.left_before ≡ Some text → Fits 2 ending (shader_answer text)
    shader_fits ending last text is =
        record { here = λ same _. let three : 3 ≡ 2 = sym last ∙ same in absurd (cc); later = λ _. subst IsOk (sym (run.found text is).1) refl }

    -- a run whose texts are read is asked to print
    asks_to_print : (rule_text shader_text : List ℕ) → rules.left_before ≡ Some rule_text → shader.left_before ≡ Some shader_text → status.Ok ≡ asked given_words rule_text shader_text
    asks_to_print rule_text shader_text rules_told shader_told =
        sym (ap (λ o. asked_of o rule_text shader_text) reads
        ∙ ap (λ a. behind a (behind (shader_answer shader_text) status.Ok)) (run.told.all rule_text rules_told).1
        ∙ ap (λ a. behind a status.Ok) (run.found shader_text shader_told).1)

    skips : (ending : Status) → nat_le (stage_of ending) 1 ≡ false → (ending ≡ OutOfMemory → ⊥) → AreSkipped given_words rules ending skipped
    skips ending late memory = record {
      early = λ early _. absurd (true≢false (sym early ∙ late));
      behind = for_said given_words said reads (λ given. (text : List ℕ) → rules.left_before ≡ Some text → (file : File) → rules_answer given.skip text ≡ Ok file → nat_lt 1 (stage_of ending) ≡ true → skipped ≡ refusals file.entries)
          (λ text is file answer _. told_whole given_words said reads rules skipped run.told text is file answer);
      no_memory = λ is. absurd (memory is);
      off = for_said given_words said reads (λ given. given.skip ≡ false → skipped ≡ []) run.told.none;
    }

    -- what the sink of lines took
    abbrev Lines : Writing → Report → Type 0
    Lines lines report = TakesLine lines.taken_before lines.taken_after lines.faults_before lines.faults_after (skipped_text skipped ++ report_line report)

    ended_whole : (out lines : Writing) → Gains out.taken_before out.taken_after printed.text → Lines lines (reported status.Ok printed)
        → Ran given_words rules shader out lines (reported status.Ok printed)
    ended_whole out lines gains told = record {
      words = words_are_read given_words said reads status.Ok (λ is. cc);
      rules_text = rules_fit status.Ok refl;
      shader_text = shader_fits status.Ok refl;
      asks = λ rule_text shader_text rules_told shader_told _. asks_to_print rule_text shader_text rules_told shader_told;
      rules_syntax = λ fault is. absurd (cc);
      syntax = λ fault is. absurd (cc);
      rules_fault = λ is. absurd (cc);
      shader_fault = λ is. absurd (cc);
      write_fault = λ is. absurd (cc);
      nothing_read = λ is. absurd (cc);
      shader_unread = λ early. absurd (true≢false (sym early));
      rules_end = λ _. run.rules_end;
      shader_end = λ _. run.shader_end;
      untouched = λ not_ok _. absurd (not_ok refl);
      printed = λ _. for_said given_words said reads (λ given. (rule_text shader_text : List ℕ) → rules.left_before ≡ Some rule_text → shader.left_before ≡ Some shader_text
          → (last : ir.Shader) × IsPrinted given rule_text shader_text printed.journal printed.rewrites printed.limit printed.stopped last
          × Gains out.taken_before out.taken_after (printed_text given printed.journal last))
          (λ rule_text shader_text rules_told shader_told.
          let last = run.prints rule_text shader_text rules_told shader_told in
          (last.0, last.1, subst (Gains out.taken_before out.taken_after) last.2 gains));
      prefix = λ is. absurd (cc);
      notes = record { skipped = skipped; are = skips status.Ok refl (λ is. cc); taken = told };
      idle = λ not_ok _. absurd (not_ok refl);
      stopped = λ not_ok. absurd (not_ok refl);
      place = refl;
    }

    ended_short : (out lines : Writing) → WriteFaults out → ((taken : List ℕ) → out.taken_before ≡ Some taken → TakesFront taken out.taken_after printed.text)
        → Lines lines (reported WriteFault printed) → Ran given_words rules shader out lines (reported WriteFault printed)
    ended_short out lines fault front told = record {
      words = words_are_read given_words said reads WriteFault (λ is. cc);
      rules_text = rules_fit WriteFault refl;
      shader_text = shader_fits WriteFault refl;
      asks = λ _ _ _ _ free. absurd (true≢false free);
      rules_syntax = λ fault is. absurd (cc);
      syntax = λ fault is. absurd (cc);
      rules_fault = λ is. absurd (cc);
      shader_fault = λ is. absurd (cc);
      write_fault = λ _. fault;
      nothing_read = λ is. absurd (cc);
      shader_unread = λ early. absurd (true≢false (sym early));
      rules_end = λ is. absurd (cc);
      shader_end = λ is. absurd (cc);
      untouched = λ _ not_fault. absurd (not_fault refl);
      printed = λ is. absurd (cc);
      prefix = λ _. for_said given_words said reads (λ given. (rule_text shader_text : List ℕ) → rules.left_before ≡ Some rule_text → shader.left_before ≡ Some shader_text
          → (before : List ℕ) → out.taken_before ≡ Some before
          → (last : ir.Shader) × (stopped : Bool) × IsPrinted given rule_text shader_text printed.journal printed.rewrites printed.limit stopped last
          × TakesFront before out.taken_after (printed_text given printed.journal last))
          (λ rule_text shader_text rules_told shader_told before taken.
          let last = run.prints rule_text shader_text rules_told shader_told in
          (last.0, printed.stopped, last.1, subst (TakesFront before out.taken_after) last.2 (front before taken)));
      notes = record { skipped = skipped; are = skips WriteFault refl (λ is. cc); taken = told };
      idle = λ _ not_fault. absurd (not_fault refl);
      stopped = λ _. refl;
      place = refl;
    }

    -- the report is that of the text, with the status of the writing
    pub ran_to_end : (out lines : Writing) (report : Report) → report ≡ reported report.status printed
        → Writes report.status printed.text out.taken_before out.taken_after out.faults_before out.faults_after → Lines lines report → Ran given_words rules shader out lines report
    ran_to_end out lines report is writes told =
        let P : Report → Type 0 = λ r. Lines lines r → Ran given_words rules shader out lines r in
        let with_status : (s : Status) → report.status ≡ s → P (reported s printed) → P report = λ s same kept. subst P (sym (is ∙ ap (λ (t : Status). reported t printed) same)) kept in
        elim writes [
          | inl whole ↦ with_status status.Ok whole.0 (ended_whole out lines whole.1) told
          | inr short ↦ with_status WriteFault short.0 (ended_short out lines short.1 short.2) told
        ]
