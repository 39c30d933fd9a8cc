use Rattle.std.proofs.Common.{◌≡◌, ◌∙◌, ap, subst, sym}
use Rattle.nir_ir.specs.Items.{items}
use Rattle.nir_ir.specs.Nodes.{nodes_of}
use Rattle.nir_ir.specs.Shaped.{IsShaped}
use Rattle.nir_ir.specs.Shader.{Shader}
use Rattle.nir_index.specs.Index.{IsIndex, blank, noted}
use Rattle.nir_index.proofs.IndexLemmas.{made}
use Rattle.nir_index.proofs.index.index_of.Goals as goal

pub returns : goal.returns
returns c =
    let is : c.note_list.new.index ≡ noted (items c.args.shader.now.body) (blank c.args.shader.now.next_value) =
    c.in_ok-note_list.ensures
    ∙ ap (noted (items (nodes_of c.as_slice.result.now))) c.in_ok-index.ensures
    ∙ ap (λ list. noted (items (nodes_of list)) (blank c.shader.inside.next_value)) c.as_slice.ensures
    ∙ ap (λ (s : Shader). noted (items s.body) (blank s.next_value)) c.shader.view_is in
    subst (IsIndex c.args.shader.now.body) (sym is) (made c.args.shader.now (subst IsShaped c.shader.view_is c.shader.invariant))
