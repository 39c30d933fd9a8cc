use Rattle.std.proofs.Common.{◌∙◌, [], ◌∷◌, ap, sym}
use Rattle.nir_index.specs.Index.{exchanged}
use Rattle.nir_index.proofs.ExchangeLemmas.{empty_last, exchanged-append, exchanged-nil}
use Rattle.nir_index.proofs.exchange.exchange_definers.Goals as goal

pub loop-instr-preserved : goal.loop-instr-preserved
loop-instr-preserved c =
    ap (exchanged c.pop.new.self) c.exchange_definer.ensures
    ∙ sym (exchanged-append c.pop.new.self (c.in-Some.instr ∷ []) c.loop-instr.definers)
    ∙ ap (λ list. exchanged list c.loop-instr.definers) (sym c.in-Some.ensures.parts)
    ∙ c.loop-instr.invariant

pub returns : goal.returns
returns c =
    sym (exchanged-nil c.loop-instr.definers)
    ∙ ap (λ list. exchanged list c.loop-instr.definers) (sym (empty_last c.loop-instr.news (sym c.in_default.ensures.value)))
    ∙ c.loop-instr.invariant
