use Rattle.std.proofs.Common.{List, ℕ, Some, ap, ◌∙◌}
use Rattle.std.specs.Prelude.{Err}
use Rattle.nir_mean.proofs.TextLemmas.{answer_long, err_read, longer}
use Rattle.nir_mean.proofs.shader_text.read_shader_bytes.Goals as goal

pub returns-in-Ok-clause-told : goal.returns-in-Ok-clause-told
returns-in-Ok-clause-told g c = λ text told. (c.in-Ok.ensures.told text told).all

pub returns-in-Ok-clause-end : goal.returns-in-Ok-clause-end
returns-in-Ok-clause-end g c = λ text told.
    let r = c.in-Ok.ensures.told text told in
    r.now_left ∙ ap (λ (rest : List ℕ). Some rest) r.spent

pub returns-in-Err-clause-told : goal.returns-in-Err-clause-told
returns-in-Err-clause-told g c = λ text told.
    let r = c.in-Err.ensures.told text told in
    err_read c.in-Err.fault text (λ is. answer_long text (longer text r.taken r.rest 4194304 r.parts (r.too_long.0 (ap (λ fault. Err fault) is))))
