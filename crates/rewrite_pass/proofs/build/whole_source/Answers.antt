use Rattle.std.proofs.Common.{◌≡◌, ◌∙◌, ap, ◌∷◌, [], ◌++◌, ◌+◌, length}
use Rattle.std.specs.List.{range_with_len}
use Rattle.std.proofs.lemmas.List.FromFn.{length-range_with_len}
use Rattle.rewrite_pass.proofs.BuildLemmas.{range_next}
use Rattle.rewrite_pass.proofs.build.whole_source.Goals as goal

pub loop-at-preserved : goal.loop-at-preserved
loop-at-preserved c =
    let pushed : c.push.new.self ≡ range_with_len 0 (c.loop-at.at + 1) = c.push.ensures ∙ ap (λ l. l ++ c.loop-at.at ∷ []) c.loop-at.invariant.0 ∙ range_next c.loop-at.at in
    (pushed, ap length pushed ∙ length-range_with_len 0 (c.loop-at.at + 1))
