-- A run that stopped before its work: what its status says, stage by stage, and that its promises are kept.
use Rattle.std.specs.Prelude.{◌≡◌, refl, ◌↔◌, ◌≢◌, ℕ, true, false, List, [], ◌++◌, Some, None, Ok, Err, IsOk, nat_le, nat_lt}
use Rattle.std.proofs.Common.{◌∙◌, ap, inl, inr, subst, sym}
use Rattle.std.proofs.lemmas.Bool.{true≢false}
use Rattle.std.proofs.lemmas.List.{append-nil}
use Rattle.std.proofs.lemmas.Option.{none-some, same_Some}
use Rattle.nir_host.specs.declared.fault.Which.TheVariants.{Rules, Shader}
use Rattle.nir_text.specs.declared.fault.TextFault.{TextFault}
use Rattle.rule_spelling.specs.Files.{File}
use Rattle.rule_read.specs.Says.{file_says}
use Rattle.term_read.specs.declared.fault.RuleFault.{RuleFault}
use Rattle.rule_check.specs.Accepted.{refusals}
use Rattle.rule_check.specs.declared.refused.Refused.{Refused}
use Rattle.run_words.specs.RunWords.{Given, run_words}
use Rattle.nir_mean.specs.Faults.{is_of_text}
use Rattle.nir_mean.specs.ShaderLines.{TakesLine}
use Rattle.nir_opt.specs.declared.status.Report.{Report}
use Rattle.nir_opt.specs.declared.status.Status.{Status}
use Rattle.nir_opt.specs.declared.status.Status.TheVariants.{Usage, ReadFault, WriteFault, RulesSyntax, RuleRefused, ShaderSyntax, ShaderInvalid, OutOfMemory}
use Rattle.nir_opt.specs.declared.status.Status.TheVariants as status
use Rattle.nir_opt.specs.Answers.{is_of_rule_text, IsToldAs, line_with, skipped_text, usage_line}
use Rattle.nir_opt.specs.Asked.{asked, asked_of, behind, Fits, IsAsked, is_free, rules_answer, shader_answer, stage_of}
use Rattle.nir_opt.specs.Printed.{idle}
use Rattle.nir_opt.specs.Ran.{AreSkipped, IsFrontOf, Ran, ReadFaults, Reading, Writing}
use Rattle.rule_check.specs.declared.refused.Checked.{Checked}
use Rattle.nir_opt.specs.Texts.{EndsRules, EndsShader, IsCheckedOf}

-- ---- statuses by stage

-- a status with which reading the rules may end
record AtRules (ending : Status) : Type 0 where
  early : nat_le (stage_of ending) 1 ≡ true
  asked_for : is_free ending ≡ false → stage_of ending ≡ 1
  not_later : nat_lt 1 (stage_of ending) ≡ false
  not_shader : stage_of ending ≡ 2 → ⊥
  not_behind : nat_lt 2 (stage_of ending) ≡ false

at_rules : (ending : Status) (fault : Type 0) → EndsRules ending fault → AtRules ending
at_rules status.Ok fault ends = absurd ends
at_rules Usage fault ends = absurd ends
at_rules (ReadFault Rules) fault ends = record { early = refl; asked_for = λ free. absurd (true≢false free); not_later = refl; not_shader = λ is. absurd (cc); not_behind = refl }
at_rules (ReadFault Shader) fault ends = absurd ends
at_rules WriteFault fault ends = absurd ends
at_rules (RulesSyntax of_text) fault ends = record { early = refl; asked_for = λ _. refl; not_later = refl; not_shader = λ is. absurd (cc); not_behind = refl }
at_rules (RuleRefused refused) fault ends = record { early = refl; asked_for = λ _. refl; not_later = refl; not_shader = λ is. absurd (cc); not_behind = refl }
at_rules (ShaderSyntax of_text) fault ends = absurd ends
at_rules (ShaderInvalid rule item) fault ends = absurd ends
at_rules (status.TooLong Rules) fault ends = record { early = refl; asked_for = λ _. refl; not_later = refl; not_shader = λ is. absurd (cc); not_behind = refl }
at_rules (status.TooLong Shader) fault ends = absurd ends
at_rules OutOfMemory fault ends = record { early = refl; asked_for = λ free. absurd (true≢false free); not_later = refl; not_shader = λ is. absurd (cc); not_behind = refl }

-- a status with which reading the shader may end
record AtShader (ending : Status) : Type 0 where
  asked_for : is_free ending ≡ false → stage_of ending ≡ 2
  not_rules : stage_of ending ≡ 1 → ⊥
  memory_if_early : nat_le (stage_of ending) 1 ≡ true → ending ≡ OutOfMemory
  not_behind : nat_lt 2 (stage_of ending) ≡ false

at_shader : (ending : Status) (fault : Type 0) → EndsShader ending fault → AtShader ending
at_shader status.Ok fault ends = absurd ends
at_shader Usage fault ends = absurd ends
at_shader (ReadFault Rules) fault ends = absurd ends
at_shader (ReadFault Shader) fault ends = record { asked_for = λ free. absurd (true≢false free); not_rules = λ is. absurd (cc); memory_if_early = λ is. absurd (true≢false (sym is)); not_behind = refl }
at_shader WriteFault fault ends = absurd ends
at_shader (RulesSyntax of_text) fault ends = absurd ends
at_shader (RuleRefused refused) fault ends = absurd ends
at_shader (ShaderSyntax of_text) fault ends = record { asked_for = λ _. refl; not_rules = λ is. absurd (cc); memory_if_early = λ is. absurd (true≢false (sym is)); not_behind = refl }
at_shader (ShaderInvalid rule item) fault ends = record { asked_for = λ _. refl; not_rules = λ is. absurd (cc); memory_if_early = λ is. absurd (true≢false (sym is)); not_behind = refl }
at_shader (status.TooLong Rules) fault ends = absurd ends
at_shader (status.TooLong Shader) fault ends = record { asked_for = λ _. refl; not_rules = λ is. absurd (cc); memory_if_early = λ is. absurd (true≢false (sym is)); not_behind = refl }
at_shader OutOfMemory fault ends = record { asked_for = λ free. absurd (true≢false free); not_rules = λ is. absurd (cc); memory_if_early = λ _. refl; not_behind = refl }

-- ---- a run that stopped with this status before it wrote, and told that these rules are left out

pub record Stops (given_words : List (List ℕ)) (rules shader : Reading) (ending : Status) (skipped : List Refused) : Type 0 where
  words : (ending ≡ Usage) ↔ (run_words given_words ≡ None)
  rules_text : (given : Given) → run_words given_words ≡ Some given → (text : List ℕ) → rules.left_before ≡ Some text → Fits 1 ending (rules_answer given.skip text)
  shader_text : (text : List ℕ) → shader.left_before ≡ Some text → Fits 2 ending (shader_answer text)
  asks : (rule_text shader_text : List ℕ) → rules.left_before ≡ Some rule_text → shader.left_before ≡ Some shader_text → IsAsked (asked given_words rule_text shader_text) ending
  rules_syntax : (fault : RuleFault) → ending ≡ RulesSyntax fault → is_of_rule_text fault ≡ true
  syntax : (fault : TextFault) → ending ≡ ShaderSyntax fault → is_of_text fault ≡ true
  rules_fault : ending ≡ ReadFault Rules → ReadFaults rules
  shader_fault : ending ≡ ReadFault Shader → ReadFaults shader
  nothing_read : ending ≡ Usage → (rules.left_after ≡ rules.left_before) × (shader.left_after ≡ shader.left_before)
  shader_unread : nat_le (stage_of ending) 1 ≡ true → ending ≢ OutOfMemory → shader.left_after ≡ shader.left_before
  not_ok : ending ≢ status.Ok
  not_fault : ending ≢ WriteFault
  are : AreSkipped given_words rules ending skipped

usage_stops : (given_words : List (List ℕ)) (rules shader : Reading) → run_words given_words ≡ None → rules.left_after ≡ rules.left_before → shader.left_after ≡ shader.left_before
    → Stops given_words rules shader Usage []
usage_stops given_words rules shader none rules_kept shader_kept = record {
  words = (λ _. none, λ _. refl);
  rules_text = λ given is. absurd (none-some given (sym none ∙ is));
  shader_text = λ text told. record { here = λ is. absurd (cc); later = λ is. absurd (true≢false (sym is)) };
  asks = λ rule_text shader_text _ _ _. sym (ap (λ o. asked_of o rule_text shader_text) none);
  rules_syntax = λ fault is. absurd (cc);
  syntax = λ fault is. absurd (cc);
  rules_fault = λ is. absurd (cc);
  shader_fault = λ is. absurd (cc);
  nothing_read = λ _. (rules_kept, shader_kept);
  shader_unread = λ _ _. shader_kept;
  not_ok = λ is. cc;
  not_fault = λ is. cc;
  are = record {
    early = λ _ _. refl;
    behind = λ given is. absurd (none-some given (sym none ∙ is));
    no_memory = λ is. absurd (cc);
    off = λ given is. absurd (none-some given (sym none ∙ is));
  };
}

-- the words say this
module _ (given_words : List (List ℕ)) (said : Given) (reads : run_words given_words ≡ Some said) where
  same_said : (given : Given) → run_words given_words ≡ Some given → said ≡ given
  same_said given is = same_Some said given (sym reads ∙ is)

  pub words_are_read : (ending : Status) → (ending ≡ Usage → ⊥) → (ending ≡ Usage) ↔ (run_words given_words ≡ None)
  words_are_read ending other = (λ is. absurd (other is), λ none. absurd (none-some said (sym none ∙ reads)))

  -- the words that say something are no other words
  pub for_said : (P : Given → Type 0) → P said → (given : Given) → run_words given_words ≡ Some given → P given
  for_said P holds given is = subst P (same_said given is) holds

  -- what was told is known by the text of the rules, or a front of it where there was no memory
  pub record Tells (rules : Reading) (skipped : List Refused) : Type 0 where
    pub front : (text : List ℕ) → rules.left_before ≡ Some text → (file : File) → rules_answer said.skip text ≡ Ok file → IsFrontOf skipped (refusals file.entries)
    pub off : said.skip ≡ false → skipped ≡ []

  pub tells_nothing : (rules : Reading) → Tells rules []
  tells_nothing rules = record { front = λ text _ file _. (refusals file.entries, refl); off = λ _. refl }

  pub memory_stops : (rules shader : Reading) (skipped : List Refused) → Tells rules skipped → Stops given_words rules shader OutOfMemory skipped
  memory_stops rules shader skipped tells = record {
    words = words_are_read OutOfMemory (λ is. cc);
    rules_text = λ given _ text _. record { here = λ is. absurd (cc); later = λ is. absurd (true≢false (sym is)) };
    shader_text = λ text _. record { here = λ is. absurd (cc); later = λ is. absurd (true≢false (sym is)) };
    asks = λ _ _ _ _ free. absurd (true≢false free);
    rules_syntax = λ fault is. absurd (cc);
    syntax = λ fault is. absurd (cc);
    rules_fault = λ is. absurd (cc);
    shader_fault = λ is. absurd (cc);
    nothing_read = λ is. absurd (cc);
    shader_unread = λ _ not_memory. absurd (not_memory refl);
    not_ok = λ is. cc;
    not_fault = λ is. cc;
    are = record {
      early = λ _ not_memory. absurd (not_memory refl);
      behind = λ given _ text _ file _ later. absurd (true≢false (sym later));
      no_memory = λ _. for_said (λ given. (text : List ℕ) → rules.left_before ≡ Some text → (file : File) → rules_answer given.skip text ≡ Ok file → IsFrontOf skipped (refusals file.entries)) tells.front;
      off = for_said (λ given. given.skip ≡ false → skipped ≡ []) tells.off;
    };
  }

  -- what is asked where the rules have this answer
  asked_at_rules : (rule_text shader_text : List ℕ) (ending : Status) → rules_answer said.skip rule_text ≡ Err ending → ending ≡ asked given_words rule_text shader_text
  asked_at_rules rule_text shader_text ending is =
      sym (ap (λ o. asked_of o rule_text shader_text) reads ∙ ap (λ a. behind a (behind (shader_answer shader_text) status.Ok)) is)

  pub asked_at_shader : (rule_text shader_text : List ℕ) (file : File) (ending : Status) → rules_answer said.skip rule_text ≡ Ok file → shader_answer shader_text ≡ Err ending
      → ending ≡ asked given_words rule_text shader_text
  asked_at_shader rule_text shader_text file ending rules_are is =
      sym (ap (λ o. asked_of o rule_text shader_text) reads ∙ ap (λ a. behind a (behind (shader_answer shader_text) status.Ok)) rules_are ∙ ap (λ a. behind a status.Ok) is)

  rules_stop : (rules shader : Reading) (ending : Status) → EndsRules ending (ReadFaults rules)
      → ((text : List ℕ) → rules.left_before ≡ Some text → Fits 1 ending (rules_answer said.skip text)) → shader.left_after ≡ shader.left_before
      → Stops given_words rules shader ending []
  rules_stop rules shader ending ends fits kept =
      let at = at_rules ending (ReadFaults rules) ends in
      let is_other : (other : Status) → ending ≡ other → EndsRules other (ReadFaults rules) = λ other is. subst (λ (s : Status). EndsRules s (ReadFaults rules)) is ends in
      record {
        words = words_are_read ending (is_other Usage);
        rules_text = for_said (λ given. (text : List ℕ) → rules.left_before ≡ Some text → Fits 1 ending (rules_answer given.skip text)) fits;
        shader_text = λ text _. record { here = λ is _. absurd (at.not_shader is); later = λ is. absurd (true≢false (sym is ∙ at.not_behind)) };
        asks = λ rule_text shader_text told _ free. asked_at_rules rule_text shader_text ending ((fits rule_text told).here (at.asked_for free) free);
        rules_syntax = λ fault is. is_other (RulesSyntax fault) is;
        syntax = λ fault is. absurd (is_other (ShaderSyntax fault) is);
        rules_fault = is_other (ReadFault Rules);
        shader_fault = λ is. absurd (is_other (ReadFault Shader) is);
        nothing_read = λ is. absurd (is_other Usage is);
        shader_unread = λ _ _. kept;
        not_ok = is_other status.Ok;
        not_fault = is_other WriteFault;
        are = record {
          early = λ _ _. refl;
          behind = λ given _ text _ file _ later. absurd (true≢false (sym later ∙ at.not_later));
          no_memory = λ _ given _ text _ file _. (refusals file.entries, refl);
          off = λ _ _ _. refl;
        };
      }

  -- the rules were read, and those that are left out were told
  pub record Told (rules : Reading) (skipped : List Refused) : Type 0 where
    pub all : (text : List ℕ) → rules.left_before ≡ Some text → (file : File) × (rules_answer said.skip text ≡ Ok file) × (skipped ≡ refusals file.entries)
    pub none : said.skip ≡ false → skipped ≡ []

  -- what checking the rules tells of them
  pub told_of : (rules : Reading) (checked : Checked) → ((text : List ℕ) → rules.left_before ≡ Some text → IsCheckedOf (rules_answer said.skip text) checked)
      → (said.skip ≡ false → checked.refused ≡ []) → Told rules checked.refused
  told_of rules checked known off = record { all = λ text is. let k = known text is in (file_says k.file, k.is, k.refused); none = off }

  pub told_whole : (rules : Reading) (skipped : List Refused) → Told rules skipped → (text : List ℕ) → rules.left_before ≡ Some text → (file : File)
      → rules_answer said.skip text ≡ Ok file → skipped ≡ refusals file.entries
  told_whole rules skipped told text is file answer =
      let own = told.all text is in
      let same : own.0 ≡ file = cc in
      own.2 ∙ ap (λ f. refusals f.entries) same

  pub tells_all : (rules : Reading) (skipped : List Refused) → Told rules skipped → Tells rules skipped
  tells_all rules skipped told = record {
    front = λ text is file answer. ([], sym (told_whole rules skipped told text is file answer) ∙ sym (append-nil skipped));
    off = told.none;
  }

  shader_stop : (rules shader : Reading) (skipped : List Refused) (ending : Status) → Told rules skipped → EndsShader ending (ReadFaults shader)
      → ((text : List ℕ) → shader.left_before ≡ Some text → Fits 2 ending (shader_answer text)) → Stops given_words rules shader ending skipped
  shader_stop rules shader skipped ending told ends fits =
      let at = at_shader ending (ReadFaults shader) ends in
      let is_other : (other : Status) → ending ≡ other → EndsShader other (ReadFaults shader) = λ other is. subst (λ (s : Status). EndsShader s (ReadFaults shader)) is ends in
      let tells = tells_all rules skipped told in
      record {
        words = words_are_read ending (is_other Usage);
        rules_text = for_said (λ given. (text : List ℕ) → rules.left_before ≡ Some text → Fits 1 ending (rules_answer given.skip text))
            (λ text is. record { here = λ same _. absurd (at.not_rules same); later = λ _. let own = told.all text is in subst IsOk (sym own.1) refl });
        shader_text = fits;
        asks = λ rule_text shader_text rules_told shader_told free.
            let own = told.all rule_text rules_told in
            asked_at_shader rule_text shader_text own.0 ending own.1 ((fits shader_text shader_told).here (at.asked_for free) free);
        rules_syntax = λ fault is. absurd (is_other (RulesSyntax fault) is);
        syntax = λ fault is. is_other (ShaderSyntax fault) is;
        rules_fault = λ is. absurd (is_other (ReadFault Rules) is);
        shader_fault = is_other (ReadFault Shader);
        nothing_read = λ is. absurd (is_other Usage is);
        shader_unread = λ early not_memory. absurd (not_memory (at.memory_if_early early));
        not_ok = is_other status.Ok;
        not_fault = is_other WriteFault;
        are = record {
          early = λ early not_memory. absurd (not_memory (at.memory_if_early early));
          behind = for_said (λ given. (text : List ℕ) → rules.left_before ≡ Some text → (file : File) → rules_answer given.skip text ≡ Ok file → nat_lt 1 (stage_of ending) ≡ true → skipped ≡ refusals file.entries)
              (λ text is file answer _. told_whole rules skipped told text is file answer);
          no_memory = λ _. for_said (λ given. (text : List ℕ) → rules.left_before ≡ Some text → (file : File) → rules_answer given.skip text ≡ Ok file → IsFrontOf skipped (refusals file.entries)) tells.front;
          off = for_said (λ given. given.skip ≡ false → skipped ≡ []) tells.off;
        };
      }

-- ---- the whole call

-- what the sink of lines took
abbrev pub TellsLine : Writing → List Refused → Status → Type 0
TellsLine lines skipped ending = TakesLine lines.taken_before lines.taken_after lines.faults_before lines.faults_after (skipped_text skipped ++ line_with usage_line ending)

idle_ran : (given_words : List (List ℕ)) (rules shader : Reading) (out lines : Writing) (ending : Status) (skipped : List Refused) → Stops given_words rules shader ending skipped
    → out.taken_after ≡ out.taken_before → TellsLine lines skipped ending → Ran given_words rules shader out lines (idle ending)
idle_ran given_words rules shader out lines ending skipped stops kept told = record {
  words = stops.words;
  rules_text = stops.rules_text;
  shader_text = stops.shader_text;
  asks = stops.asks;
  rules_syntax = stops.rules_syntax;
  syntax = stops.syntax;
  rules_fault = stops.rules_fault;
  shader_fault = stops.shader_fault;
  write_fault = λ is. absurd (stops.not_fault is);
  nothing_read = stops.nothing_read;
  shader_unread = stops.shader_unread;
  rules_end = λ is. absurd (stops.not_ok is);
  shader_end = λ is. absurd (stops.not_ok is);
  untouched = λ _ _. kept;
  printed = λ is. absurd (stops.not_ok is);
  prefix = λ is. absurd (stops.not_fault is);
  notes = record { skipped = skipped; are = stops.are; taken = told };
  idle = λ _ _. (refl, refl, refl);
  stopped = λ _. refl;
  place = refl;
}

told_ran : (given_words : List (List ℕ)) (rules shader : Reading) (out lines : Writing) (ending : Status) (skipped : List Refused) (report : Report)
    → Stops given_words rules shader ending skipped → report ≡ idle ending → out.taken_after ≡ out.taken_before → TellsLine lines skipped ending
    → Ran given_words rules shader out lines report
told_ran given_words rules shader out lines ending skipped report stops is kept told =
    subst (Ran given_words rules shader out lines) (sym is) (idle_ran given_words rules shader out lines ending skipped stops kept told)

-- where words were read, want of memory may take the place of a status
read_ran : (given_words : List (List ℕ)) (said : Given) (reads : run_words given_words ≡ Some said) (rules shader : Reading) (out lines : Writing) (ending answer : Status)
    (skipped : List Refused) (report : Report) → Tells given_words said reads rules skipped → Stops given_words rules shader ending skipped → IsToldAs ending answer → report ≡ idle answer
    → out.taken_after ≡ out.taken_before → TellsLine lines skipped answer → Ran given_words rules shader out lines report
read_ran given_words said reads rules shader out lines ending answer skipped report tells stops becomes is kept told =
    elim becomes [
      | inl same ↦ told_ran given_words rules shader out lines ending skipped report stops (is ∙ ap idle same) kept (subst (TellsLine lines skipped) same told)
      | inr memory ↦
          told_ran given_words rules shader out lines OutOfMemory skipped report (memory_stops given_words said reads rules shader skipped tells) (is ∙ ap idle memory.0) kept
          (subst (TellsLine lines skipped) memory.0 told)
    ]

-- one for each way to stop
pub ran_without_words : (given_words : List (List ℕ)) (rules shader : Reading) (out lines : Writing) (answer : Status) (report : Report) → run_words given_words ≡ None
    → rules.left_after ≡ rules.left_before → shader.left_after ≡ shader.left_before → IsToldAs Usage answer → report ≡ idle answer → out.taken_after ≡ out.taken_before
    → TellsLine lines [] answer → Ran given_words rules shader out lines report
ran_without_words given_words rules shader out lines answer report none rules_kept shader_kept becomes is kept told =
    elim becomes [
      | inl same ↦
          told_ran given_words rules shader out lines Usage [] report (usage_stops given_words rules shader none rules_kept shader_kept) (is ∙ ap idle same) kept
          (subst (TellsLine lines []) same told)
      | inr memory ↦ absurd (true≢false memory.1)
    ]

pub ran_to_rules : (given_words : List (List ℕ)) (said : Given) (reads : run_words given_words ≡ Some said) (rules shader : Reading) (out lines : Writing) (ending answer : Status) (report : Report)
    → EndsRules ending (ReadFaults rules) → ((text : List ℕ) → rules.left_before ≡ Some text → Fits 1 ending (rules_answer said.skip text)) → shader.left_after ≡ shader.left_before
    → IsToldAs ending answer → report ≡ idle answer → out.taken_after ≡ out.taken_before → TellsLine lines [] answer → Ran given_words rules shader out lines report
ran_to_rules given_words said reads rules shader out lines ending answer report ends fits kept =
    read_ran given_words said reads rules shader out lines ending answer [] report (tells_nothing given_words said reads rules)
    (rules_stop given_words said reads rules shader ending ends fits kept)

pub ran_to_shader : (given_words : List (List ℕ)) (said : Given) (reads : run_words given_words ≡ Some said) (rules shader : Reading) (out lines : Writing) (skipped : List Refused) (ending answer : Status)
    (report : Report) → Told given_words said reads rules skipped → EndsShader ending (ReadFaults shader)
    → ((text : List ℕ) → shader.left_before ≡ Some text → Fits 2 ending (shader_answer text)) → IsToldAs ending answer → report ≡ idle answer
    → out.taken_after ≡ out.taken_before → TellsLine lines skipped answer → Ran given_words rules shader out lines report
ran_to_shader given_words said reads rules shader out lines skipped ending answer report known ends fits =
    read_ran given_words said reads rules shader out lines ending answer skipped report (tells_all given_words said reads rules skipped known)
    (shader_stop given_words said reads rules shader skipped ending known ends fits)

pub ran_out_of_memory : (given_words : List (List ℕ)) (said : Given) (reads : run_words given_words ≡ Some said) (rules shader : Reading) (out lines : Writing) (skipped : List Refused)
    (answer : Status) (report : Report) → Tells given_words said reads rules skipped → IsToldAs OutOfMemory answer → report ≡ idle answer → out.taken_after ≡ out.taken_before
    → TellsLine lines skipped answer → Ran given_words rules shader out lines report
ran_out_of_memory given_words said reads rules shader out lines skipped answer report tells =
    read_ran given_words said reads rules shader out lines OutOfMemory answer skipped report tells (memory_stops given_words said reads rules shader skipped tells)
