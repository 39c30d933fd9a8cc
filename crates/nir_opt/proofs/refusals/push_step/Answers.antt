use Rattle.std.proofs.Common.{◌++◌, decimal, ◌∙◌, ap, append_assoc}
use Rattle.nir_opt.proofs.refusals.push_step.Goals as goal

pub returns : goal.returns
returns c =
    c.in_ok-push-2.ensures
    ∙ ap (λ l. l ++ c.args.what.now)
    (c.in_ok-push_number.ensures ∙ ap (λ l. l ++ decimal c.args.step) c.in_ok-push.ensures ∙ append_assoc c.args.out.now.items c.args.front.now (decimal c.args.step))
    ∙ append_assoc c.args.out.now.items (c.args.front.now ++ decimal c.args.step) c.args.what.now
