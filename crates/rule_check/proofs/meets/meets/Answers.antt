use Rattle.std.proofs.Common.{◌≤◌, ◌+◌, length, sym, ap, subst, ◌∙◌}
use Rattle.std.specs.List.{list_all}
use Rattle.rule_term.specs.Typings.{size_of, occurrences}
use Rattle.rule_term.specs.Holds.{is_word, is_met}
use Rattle.bit_circuit.proofs.Walks.{occurrences-search, typing-room}
use Rattle.rule_check.proofs.meets.meets.Goals as goal

pub met_in_term-requires-clause-room : goal.met_in_term-requires-clause-room
met_in_term-requires-clause-room c =
    subst (λ terms. 0 + size_of terms ≤ length c.as_slice.result.now) (sym (ap (λ r. r.search) c.rule.view_is))
    (subst (λ list. 0 + size_of c.args.rule.now.search ≤ length list) (sym c.as_slice.ensures) (typing-room c.args.rule.now c.args.typing.now.widths c.requires.typing))

pub met_in_term-requires-clause-words : goal.met_in_term-requires-clause-words
met_in_term-requires-clause-words c =
    ap (λ terms. list_all (is_word c.args.values.now) (occurrences terms c.as_slice.result.now)) (ap (λ r. r.search) c.rule.view_is)
    ∙ ap (λ list. list_all (is_word c.args.values.now) (occurrences c.args.rule.now.search list)) c.as_slice.ensures
    ∙ sym (ap (list_all (is_word c.args.values.now)) (occurrences-search c.args.rule.now c.args.typing.now.widths))
    ∙ c.requires.words

pub returns : goal.returns
returns c =
    c.met_in_term.ensures.met
    ∙ ap (λ terms. list_all (is_met c.args.values.now) (occurrences terms c.as_slice.result.now)) (ap (λ r. r.search) c.rule.view_is)
    ∙ ap (λ list. list_all (is_met c.args.values.now) (occurrences c.args.rule.now.search list)) c.as_slice.ensures
    ∙ sym (ap (list_all (is_met c.args.values.now)) (occurrences-search c.args.rule.now c.args.typing.now.widths))
