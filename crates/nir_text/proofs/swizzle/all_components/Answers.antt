use Rattle.std.proofs.Common.{◌≡◌, refl, ◌-◌, ◌+◌, suc, ◌∷◌, ap, ◌∙◌, append_assoc, arith}
use Rattle.std.proofs.lemmas.List.{length_push}
use Rattle.std.specs.List.{range_with_len}
use Rattle.nir_text.proofs.swizzle.all_components.Goals as goal

pub loop-component-preserved : goal.loop-component-preserved
loop-component-preserved c =
    let l = c.loop-component in
    let n : c.args.count - l.component ≡ suc (c.args.count - (l.component + 1)) = omega arith in
    let e : range_with_len l.component (c.args.count - l.component) ≡ l.component ∷ range_with_len (l.component + 1) (c.args.count - (l.component + 1)) = rw n refl in
    record {
      count = rw c.push.ensures (length_push l.swizzle l.component ∙ ap (λ n. n + 1) l.invariant.count);
      so_far = rw (c.push.ensures, append_assoc, ← e) l.invariant.so_far;
    }
