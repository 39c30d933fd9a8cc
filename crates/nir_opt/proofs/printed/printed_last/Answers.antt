use Rattle.std.proofs.Common.{◌∙◌, ◌++◌, [], ap}
use Rattle.std.specs.Prelude.{if◌then◌else◌}
use Rattle.journal_text.specs.Journal.{journal_text}
use Rattle.run_words.specs.Views.{given}
use Rattle.nir_opt.proofs.RunLemmas.{printed_is}
use Rattle.nir_opt.proofs.printed.printed_last.Goals as goal

pub returns-clause-prints : goal.returns-clause-prints
returns-clause-prints g c = λ rule_text shader_text file rules_read tabled shader_read.
    let done = c.in_ok-done.ensures in
    printed_is (given c.args.words.now) c.in_ok-options.options rule_text shader_text c.args.table.now file c.args.shader c.in_ok-done.done.shader c.in_ok-done.done.journal
    c.in_ok-done.done.rewrites c.limit_of-limit.result c.in_ok-done.done.stopped c.in_ok-text.text c.in_ok-text-2.text
    c.in_ok-options.ensures rules_read tabled shader_read
    (record {
      replayed = done.replayed;
      counted = done.counted;
      limited = c.limit_of-limit.ensures.limit;
      few = done.few;
      settled = done.settled;
      at_limit = done.at_limit;
      lighter = done.lighter;
      unstopped = done.unstopped;
      shaped = done.shaped;
      valid = done.valid;
      same = done.same;
    })
    c.in_ok-text.ensures.text c.in_ok-text.ensures.denotes
    (c.in_ok-text-2.ensures ∙ ap (λ steps. c.in_ok-text.text ++ (if c.args.words.now.remarks then journal_text steps else [])) c.as_slice.ensures)
    c.renumbering_keeps_shape.ensures c.renumbering_keeps_validity.ensures c.renumbering_keeps_meaning.ensures
