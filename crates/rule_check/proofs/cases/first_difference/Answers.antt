use Rattle.std.proofs.Common.{◌≡◌, ◌<◌, ◌*◌, ◌%◌, ◌^◌, length, sym, ap, subst, ◌∙◌, arith}
use Rattle.std.specs.List.{sum}
use Rattle.std.proofs.lemmas.Nat.{one_shl}
use Rattle.rule_term.specs.Holds.{are_words}
use Rattle.rule_check.specs.Cases.{differs_at, tuple}
use Rattle.rule_check.proofs.Trials.{find_next, first_difference-all, count_of_tuple, words_of_number}
use Rattle.rule_check.proofs.cases.first_difference.Goals as goal

pub loop-number-init : goal.loop-number-init
loop-number-init c = first_difference-all c.args.rule.now c.args.typing.now.widths c.args.bits.now c.requires.bits

pub differs-requires-clause-values : goal.differs-requires-clause-values
differs-requires-clause-values c =
    ap length (c.as_slice.ensures.value ∙ c.tuple_at-values.ensures)
    ∙ count_of_tuple c.args.rule.now c.args.typing.now.widths c.args.bits.now c.loop-number.number c.requires.bits

pub differs-requires-clause-words : goal.differs-requires-clause-words
differs-requires-clause-words c =
    let below : c.loop-number.number < (1 * 2 ^ c.total-free.result) % 2 ^ 64 = c.loop-number-test.true in
    let whole : (1 * 2 ^ c.total-free.result) % 2 ^ 64 ≡ 2 ^ c.total-free.result = one_shl c.total-free.result 64 (omega arith) in
    let small : c.loop-number.number < 2 ^ sum c.args.bits.now = subst (λ n. c.loop-number.number < 2 ^ n) c.total-free.ensures (subst (λ n. c.loop-number.number < n) whole below) in
    ap (are_words c.args.rule.now c.args.typing.now.widths) (c.as_slice.ensures.value ∙ c.tuple_at-values.ensures)
    ∙ words_of_number c.args.rule.now c.args.typing.now.widths c.args.bits.now c.loop-number.number c.requires.bits c.requires.typing small

pub loop-number-preserved : goal.loop-number-preserved
loop-number-preserved c =
    let below : c.loop-number.number < (1 * 2 ^ c.total-free.result) % 2 ^ 64 = c.loop-number-test.true in
    let whole : (1 * 2 ^ c.total-free.result) % 2 ^ 64 ≡ 2 ^ c.total-free.result = one_shl c.total-free.result 64 (omega arith) in
    let small : c.loop-number.number < 2 ^ sum c.args.bits.now = subst (λ n. c.loop-number.number < 2 ^ n) c.total-free.ensures (subst (λ n. c.loop-number.number < n) whole below) in
    sym (find_next (differs_at c.args.rule.now c.args.typing.now.widths) (tuple c.args.bits.now) c.loop-number.number (2 ^ sum c.args.bits.now) small
    (ap (differs_at c.args.rule.now c.args.typing.now.widths) (sym (c.as_slice.ensures.value ∙ c.tuple_at-values.ensures)) ∙ sym c.differs.ensures ∙ c.if-differs.false))
    ∙ c.loop-number.invariant
