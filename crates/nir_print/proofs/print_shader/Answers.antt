use Rattle.std.proofs.Common.{sym, subst, ℕ, List}
use Rattle.nir_ir.specs.Shader.{Shader}
use Rattle.nir_ir.specs.Shaped.{IsShaped}
use Rattle.nir_text.specs.Tree.{Reads}
use Rattle.nir_print.specs.RoundTrip.{IsTextOf, printed_names}
use Rattle.nir_print.specs.Renumber.{renumber}
use Rattle.nir_print.proofs.print_shader.Goals as goal

pub returns : goal.returns
returns c =
    let shaped = subst (λ (s : Shader). IsShaped s) c.shader.view_is c.shader.invariant in
    record {
      text = c.in_ok-text.ensures;
      numbers = c.in_ok-naming.ensures.numbers;
      denotes =
          subst (λ (text : List ℕ). IsTextOf text (printed_names c.args.shader.now.body) (renumber c.args.shader.now)) (sym c.in_ok-text.ensures)
          (c.text_denotes.ensures c.args.shader.now shaped c.in_ok-naming.ensures.numbers);
      reads = λ within.
          subst (λ (text : List ℕ). Reads text (renumber c.args.shader.now)) (sym c.in_ok-text.ensures)
          (c.reading_gives_renumbered.ensures c.args.shader.now shaped c.in_ok-naming.ensures.numbers within);
    }
