use Rattle.std.proofs.Common.{◌≡◌, ◌+◌, ◌≤◌, true, false, List, [], ◌∷◌, Option, Some, Ok, length, map, refl, sym, ap, ◌∙◌, arith, rules}
use Rattle.std.specs.Option.{option_map}
use Rattle.std.proofs.lemmas.Result.{err_from_is_err_and}
use Rattle.nir_lex.specs.From.{tokens_behind}
use Rattle.rule_term.specs.declared.term.Term.{Term}
use Rattle.rule_term.specs.Terms.{Terms}
use Rattle.grammar.specs.Grammar.{named, repetition}
use Rattle.grammar.specs.Terminals.{has, starts, TheMark}
use Rattle.grammar.specs.Words.{mark, each_behind_comma_then_maybe_one}
use Rattle.rule_spelling.specs.RuleFiles.{rule_files, app, op}
use Rattle.rule_spelling.specs.Text.{terminals_of}
use Rattle.term_read.specs.Parts.{leaf, sought_source}
use Rattle.term_read.specs.Source.{Answer, reads, reads_named}
use Rattle.term_read.specs.Standing.{tokens_or_none}
use Rattle.term_read.specs.Views.{head_says, here, place_of, source, term_says, terminals}
use Rattle.term_read.specs.ReadingLaws.{with_front, no_front, loop_goes, loop_closes, loop_fails, loop_ends, fails, less_from, shorter}
use Rattle.term_read.proofs.Terms.{or_true, or_false, expr_mark, expr_other, says_append}
use Rattle.term_read.proofs.term.+terms.Goals as goal

pub app-sources-requires : goal.app-sources-requires
app-sources-requires t c =
    let a : length (terminals c.mark.new.self.point) + 1 ≤ length (terminals c.args.reader.now.point) =
    shorter (mark rule_files 40) (source c.args.reader.now) tt (source c.mark.new.self) c.in_ok-mark.ensures in
    let b : length (terminals c.opcode.new.reader.point) + 1 ≤ length (terminals c.mark.new.self.point) =
    shorter (op (place_of c.args.place)) (source c.mark.new.self) (head_says c.in_ok-head.head) (source c.opcode.new.reader) c.in_ok-head.ensures in
    search rules

pub source_at-expr-requires : goal.source_at-expr-requires
source_at-expr-requires t c =
    let a : length (terminals c.mark.new.self.point) + 1 ≤ length (terminals c.args.reader.now.point) =
    shorter (mark rule_files 44) (source c.args.reader.now) tt (source c.mark.new.self) c.in_ok-mark.ensures in
    search rules

pub expr-returns-then-is_mark : goal.expr-returns-then-is_mark
expr-returns-then-is_mark t c =
    let reader = c.args.reader.now in
    let p = reader.point in
    let place = place_of c.args.place in
    let e : reads_named place (source reader) ≡ reads (app place) (source reader) =
    expr_mark place p.text.now reader.state (here p) (terminals_of p.text.now (tokens_or_none (tokens_behind p.text.now p.token)))
    (sym c.is_mark.ensures ∙ c.if-is_mark.true) in
    rw e c.app.ensures

pub expr-returns : goal.expr-returns
expr-returns t c =
    let reader = c.args.reader.now in
    let p = reader.point in
    let place = place_of c.args.place in
    let e : reads_named place (source reader) ≡ reads (leaf place) (source reader) =
    expr_other place p.text.now reader.state (here p) (terminals_of p.text.now (tokens_or_none (tokens_behind p.text.now p.token)))
    (sym c.is_mark.ensures ∙ c.if-is_mark.false) in
    rw e c.leaf.ensures

pub sources-sources-init : goal.sources-sources-init
sources-sources-init t c =
    let total : Answer (List Terms) = reads (each_behind_comma_then_maybe_one rule_files (named (place_of c.args.place))) (source c.args.reader.now) in
    record {
      so_far = ap (λ (list : List Term). with_front (map term_says list) total) c.new-list.ensures ∙ no_front total;
      shorter = omega arith;
    }

pub sources-sources-smaller : goal.sources-sources-smaller
sources-sources-smaller t c =
    less_from (length (terminals c.source_at.new.reader.point)) (length (terminals c.sources.reader.point))
    (shorter (sought_source (place_of c.args.place)) (source c.sources.reader) (option_map term_says c.in_ok-source.source) (source c.source_at.new.reader)
    c.in_ok-source.ensures)

pub sources-sources-preserved : goal.sources-sources-preserved
sources-sources-preserved t c =
    let place = place_of c.args.place in
    let next = c.source_at.new.reader in
    let l = c.sources in
    let total : Answer (List Terms) = reads (each_behind_comma_then_maybe_one rule_files (named place)) (source c.args.reader.now) in
    let behind : Answer (List Terms) = reads (repetition (sought_source place)) (source next) in
    let begun : starts (TheMark 44 ∷ []) (terminals l.reader.point) ≡ true =
    or_true (has (TheMark 44) (here l.reader.point)) (sym c.is_mark.ensures ∙ c.sources-test.true) in
    let found : reads (sought_source place) (source l.reader) ≡ Ok (Some (term_says c.in-Some.term), source next) =
    c.in_ok-source.ensures ∙ ap (λ (o : Option Term). Ok (option_map term_says o, source next)) c.in-Some.is in
    let less = shorter (sought_source place) (source l.reader) (option_map term_says c.in_ok-source.source) (source next) c.in_ok-source.ensures in
    record {
      so_far = ap (λ (list : List Term). with_front (map term_says list) behind) c.in_ok-push-in-Some.ensures.ok
          ∙ ap (λ (list : List Terms). with_front list behind) (says_append l.list c.in-Some.term)
          ∙ loop_goes (sought_source place) refl (map term_says l.list) (source l.reader) total l.invariant.so_far (term_says c.in-Some.term) (source next) begun found;
      shorter = omega (arith, less, l.invariant.shorter);
    }

pub sources-returns : goal.sources-returns
sources-returns t c =
    let place = place_of c.args.place in
    let l = c.sources in
    let none : starts (TheMark 44 ∷ []) (terminals l.reader.point) ≡ false =
    or_false (has (TheMark 44) (here l.reader.point)) (sym c.is_mark.ensures ∙ c.sources-test.false) in
    loop_ends (sought_source place) refl (map term_says l.list) (source l.reader)
    (reads (each_behind_comma_then_maybe_one rule_files (named place)) (source c.args.reader.now)) l.invariant.so_far none

pub sources-returns-in_err-source : goal.sources-returns-in_err-source
sources-returns-in_err-source t c =
    let q = err_from_is_err_and c.from_residual.result c.from_residual.ensures.1 in
    let place = place_of c.args.place in
    let l = c.sources in
    let total : Answer (List Terms) = reads (each_behind_comma_then_maybe_one rule_files (named place)) (source c.args.reader.now) in
    let begun : starts (TheMark 44 ∷ []) (terminals l.reader.point) ≡ true =
    or_true (has (TheMark 44) (here l.reader.point)) (sym c.is_mark.ensures ∙ c.sources-test.true) in
    rw (q.1, q.2)
    (fails c.in_err-source.field-0.0 (reads (sought_source place) (source l.reader)) total
    (λ fault e. loop_fails (sought_source place) refl (map term_says l.list) (source l.reader) total l.invariant.so_far fault begun e)
    c.in_err-source.ensures)

pub sources-returns-in-None : goal.sources-returns-in-None
sources-returns-in-None t c =
    let place = place_of c.args.place in
    let next = c.source_at.new.reader in
    let l = c.sources in
    let begun : starts (TheMark 44 ∷ []) (terminals l.reader.point) ≡ true =
    or_true (has (TheMark 44) (here l.reader.point)) (sym c.is_mark.ensures ∙ c.sources-test.true) in
    loop_closes (sought_source place) refl (map term_says l.list) (source l.reader)
    (reads (each_behind_comma_then_maybe_one rule_files (named place)) (source c.args.reader.now)) l.invariant.so_far (source next) begun
    (c.in_ok-source.ensures ∙ ap (λ (o : Option Term). Ok (option_map term_says o, source next)) c.in-None.is)
