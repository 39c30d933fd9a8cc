use Rattle.std.proofs.Common.{refl, subst}
use Rattle.run_words.specs.Views.{given}
use Rattle.nir_opt.specs.Answers.{skipped_text}
use Rattle.nir_opt.specs.Heard.{IsHeard}
use Rattle.nir_opt.proofs.Finishes.{ran_to_end}
use Rattle.nir_opt.proofs.Heard.{heard_both, heard_one}
use Rattle.nir_opt.proofs.RunLemmas.{words_none, words_some}
use Rattle.nir_opt.proofs.Stops.{ran_out_of_memory, ran_to_rules, ran_to_shader, ran_without_words, tells_all, told_of}
use Rattle.nir_opt.proofs.run.run_in_stages.Goals as goal

pub returns-in_default : goal.returns-in_default
returns-in_default g c =
    ran_without_words _ _ _ _ _ c.with_line.result.status _ (words_none _ _ c.run_words.ensures.value c.in_default.is) refl refl c.with_line.ensures.status c.stopped.ensures.report refl
    (heard_one _ _ _ _ _ c.stopped.ensures.notes.0 c.stopped.ensures.notes.1)

pub returns-in-Err : goal.returns-in-Err
returns-in-Err g c =
    ran_to_rules _ (given c.in-Some.said) (words_some _ _ c.in-Some.said c.run_words.ensures.value c.in-Some.is) _ _ _ _ c.in-Err.status c.with_line-in-Err.result.status _
    c.in-Err.ensures.stop c.in-Err.ensures.text refl c.with_line-in-Err.ensures.status c.stopped-in-Err.ensures.report refl
    (heard_one _ _ _ _ _ c.stopped-in-Err.ensures.notes.0 c.stopped-in-Err.ensures.notes.1)

pub returns-in-Err-read_shader_text : goal.returns-in-Err-read_shader_text
returns-in-Err-read_shader_text g c =
    let heard = c.in-Ok-note_skipped.heard in
    let one = subst
    (λ l. IsHeard (g.N.Sink.taken c.args.notes.now) (g.N.Sink.taken c.note_skipped.new.notes) (g.N.Sink.faults c.args.notes.now) (g.N.Sink.faults c.note_skipped.new.notes) (skipped_text l) heard)
    c.as_slice.ensures (c.in-Ok-note_skipped.ensures.ok heard refl) in
    let notes = c.stopped-in-Err-read_shader_text.ensures.notes in
    ran_to_shader _ (given c.in-Some.said) (words_some _ _ c.in-Some.said c.run_words.ensures.value c.in-Some.is) _ _ _ _ c.in-Ok.checked.refused c.in-Err-read_shader_text.status
    c.with_line-in-Err-read_shader_text.result.status _
    (told_of _ _ _ _ c.in-Ok.checked c.in-Ok.ensures.text c.in-Ok.ensures.off)
    c.in-Err-read_shader_text.ensures.stop c.in-Err-read_shader_text.ensures.text c.with_line-in-Err-read_shader_text.ensures.status
    c.stopped-in-Err-read_shader_text.ensures.report refl
    (heard_both _ _ _ _ _ _ _ _ heard notes.0 one notes.1)

pub returns-in_default-printed_last : goal.returns-in_default-printed_last
returns-in_default-printed_last g c =
    let heard = c.in-Ok-note_skipped.heard in
    let one = subst
    (λ l. IsHeard (g.N.Sink.taken c.args.notes.now) (g.N.Sink.taken c.note_skipped.new.notes) (g.N.Sink.faults c.args.notes.now) (g.N.Sink.faults c.note_skipped.new.notes) (skipped_text l) heard)
    c.as_slice.ensures (c.in-Ok-note_skipped.ensures.ok heard refl) in
    let notes = c.stopped-in_default-printed_last.ensures.notes in
    ran_out_of_memory _ (given c.in-Some.said) (words_some _ _ c.in-Some.said c.run_words.ensures.value c.in-Some.is) _ _ _ _ c.in-Ok.checked.refused
    c.with_line-in_default-printed_last.result.status _
    (tells_all _ _ _ _ _ (told_of _ _ _ _ c.in-Ok.checked c.in-Ok.ensures.text c.in-Ok.ensures.off))
    c.with_line-in_default-printed_last.ensures.status c.stopped-in_default-printed_last.ensures.report refl
    (heard_both _ _ _ _ _ _ _ _ heard notes.0 one notes.1)

pub returns : goal.returns
returns g c =
    let heard = c.in-Ok-note_skipped.heard in
    let one = subst
    (λ l. IsHeard (g.N.Sink.taken c.args.notes.now) (g.N.Sink.taken c.note_skipped.new.notes) (g.N.Sink.faults c.args.notes.now) (g.N.Sink.faults c.note_skipped.new.notes) (skipped_text l) heard)
    c.as_slice.ensures (c.in-Ok-note_skipped.ensures.ok heard refl) in
    let notes = c.finished.ensures.notes in
    ran_to_end _ (given c.in-Some.said) (words_some _ _ c.in-Some.said c.run_words.ensures.value c.in-Some.is) _ _ c.in-Ok-printed_last.printed c.in-Ok.checked.refused
    (record {
      told = told_of _ _ _ _ c.in-Ok.checked c.in-Ok.ensures.text c.in-Ok.ensures.off;
      found = λ text is. (c.in-Ok-read_shader_text.read, c.in-Ok-read_shader_text.ensures.text text is);
      rules_end = c.in-Ok.ensures.end;
      shader_end = c.in-Ok-read_shader_text.ensures.end;
      prints = λ rule_text shader_text rules_told shader_told.
          let k = c.in-Ok.ensures.text rule_text rules_told in
          c.in-Ok-printed_last.ensures.prints rule_text shader_text k.file k.is k.table (c.in-Ok-read_shader_text.ensures.text shader_text shader_told);
    })
    _ _ _ c.finished.ensures.report c.finished.ensures.written
    (heard_both _ _ _ _ _ _ _ _ heard notes.0 one notes.1)
