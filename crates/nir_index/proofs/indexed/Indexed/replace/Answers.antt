use Rattle.std.proofs.Common.{◌≡◌, ◌∙◌, ap, subst, sym}
use Rattle.nir_ir.specs.Edits.{with_news}
use Rattle.nir_ir.specs.Shader.{Shader}
use Rattle.nir_index.specs.Index.{IsIndex, exchange_of}
use Rattle.nir_index.proofs.ExchangeLemmas.{kept_up, longer}
use Rattle.nir_index.proofs.indexed.Indexed.replace.Goals as goal

pub invariant_of-self : goal.invariant_of-self
invariant_of-self c = longer c.self.inside.shader.body c.self.inside.index c.exchange.new.index c.self.invariant c.in_err-exchange.ensures.undone

pub invariant_of-self-2 : goal.invariant_of-self-2
invariant_of-self-2 c =
    let is : IsIndex c.args.self.now.body c.self.inside.index = subst (λ (s : Shader). IsIndex s.body c.self.inside.index) c.self.view_is c.self.invariant in
    let shader : c.in_ok-shader.shader ≡ with_news c.args.self.now c.args.value c.args.news.now c.args.next =
    c.in_ok-shader.ensures ∙ ap (λ (s : Shader). with_news s c.args.value c.args.news.now c.args.next) c.self.view_is in
    subst (IsIndex c.in_ok-shader.shader.body) (sym c.in_ok-exchange.ensures.done)
    (subst (λ (s : Shader). IsIndex s.body (exchange_of c.self.inside.index c.args.value c.args.news.now c.args.next)) (sym shader)
    (kept_up c.args.self.now c.self.inside.index c.args.value c.args.news.now c.args.next c.keeps_shape.ensures is c.requires.defined c.requires.placed c.requires.shaped))
