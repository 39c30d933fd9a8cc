use Rattle.std.proofs.Common.{List, ℕ, ◌∙◌, refl, subst, sym}
use Rattle.std.specs.Prelude.{Ok}
use Rattle.rule_clauses.specs.Asked.{TextFits, text_answer}
use Rattle.rule_clauses.proofs.Runs.{ran_to_end, ran_to_stop, ran_without_words}
use Rattle.rule_clauses.proofs.run.run_clauses.Goals as goal

pub returns-in_default : goal.returns-in_default
returns-in_default g c =
    ran_without_words _ _ _ _ c.with_line.result.status c.tell.result (sym c.choice_of.ensures ∙ c.in_default.is) refl c.with_line.ensures.status c.tell.ensures.status refl c.tell.ensures.notes

pub returns-in-Ok : goal.returns-in-Ok
returns-in-Ok g c =
    ran_to_end _ _ _ _ c.in-Some.choice (sym c.choice_of.ensures ∙ c.in-Some.is) c.as_slice.result.now
    (λ text told. subst (λ (whole : List ℕ). TextFits (Ok whole) (text_answer c.in-Some.choice text)) (sym c.as_slice.ensures) (c.in-Ok.ensures.fits text told))
    c.in-Ok.ensures.end c.written.result c.written.ensures.status c.written.ensures.notes

pub returns-in-Err : goal.returns-in-Err
returns-in-Err g c =
    ran_to_stop _ _ _ _ c.in-Some.choice (sym c.choice_of.ensures ∙ c.in-Some.is) c.in-Err.status c.with_line-in-Err.result.status c.tell-in-Err.result c.in-Err.ensures.stop
    c.in-Err.ensures.fits c.with_line-in-Err.ensures.status c.tell-in-Err.ensures.status refl c.tell-in-Err.ensures.notes
