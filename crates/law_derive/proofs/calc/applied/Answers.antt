use Rattle.std.proofs.Common.{◌≡◌, ◌∙◌, ap, arith, sym, subst, take}
use Rattle.std.proofs.lemmas.List.{length-take-le, take-map}
use Rattle.nir_ops.specs.Width.{width_bits}
use Rattle.op_eval.specs.Calls.{Fits, unsized_width}
use Rattle.op_eval.specs.Meaning.{op_mean}
use Rattle.op_eval.specs.Words.{words_bits, words_widths}
use Rattle.op_eval.specs.declared.word.Word.{Word}
use Rattle.law_derive.specs.Nodes.{arity}
use Rattle.law_derive.proofs.CalcLemmas.{call_from}
use Rattle.law_derive.proofs.calc.applied.Goals as goal

pub slice_bounds-eval-end : goal.slice_bounds-eval-end
slice_bounds-eval-end c =
    let call = call_from c.args.op c.args.width c.args.behind.now c.requires in
    let few = call.sources in
    let count = c.sources_of-count.ensures.value in
    sym (length-take-le c.sources_of-count.result c.args.behind.now (omega (arith, few, count)))

pub eval-requires-clause-each : goal.eval-requires-clause-each
eval-requires-clause-each c = (call_from c.args.op c.args.width c.args.behind.now c.requires).each

pub eval-requires-clause-fits : goal.eval-requires-clause-fits
eval-requires-clause-fits c =
    subst (λ n. Fits c.args.op c.args.width (words_widths (take n c.args.behind.now))) (sym c.sources_of-count.ensures.value)
    (call_from c.args.op c.args.width c.args.behind.now c.requires).fits

pub returns-clause-value : goal.returns-clause-value
returns-clause-value c =
    let count = c.sources_of-count.ensures.value in
    let sizes : words_widths (take c.sources_of-count.result c.args.behind.now) ≡ take (arity c.args.op) (words_widths c.args.behind.now) =
    ap (λ n. words_widths (take n c.args.behind.now)) count ∙ sym (take-map (λ (word : Word). word.width) (arity c.args.op) c.args.behind.now) in
    let words : words_bits (take c.sources_of-count.result c.args.behind.now) ≡ take (arity c.args.op) (words_bits c.args.behind.now) =
    ap (λ n. words_bits (take n c.args.behind.now)) count ∙ sym (take-map (λ (word : Word). word.bits) (arity c.args.op) c.args.behind.now) in
    c.eval.ensures.value ∙ (λ i. op_mean c.args.op (width_bits (unsized_width c.args.op c.args.width (sizes i))) (width_bits c.args.width) (words i))

pub returns-clause-sources : goal.returns-clause-sources
returns-clause-sources c = (call_from c.args.op c.args.width c.args.behind.now c.requires).sources
