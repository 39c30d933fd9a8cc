use Rattle.std.proofs.Common.{◌≡◌, ◌∙◌, ◌++◌, List, ap, sym, subst}
use Rattle.nir_ir.specs.declared.journal.Use.{Use}
use Rattle.nir_ir.specs.Nodes.{Nodes, nodes_of}
use Rattle.nir_ir.specs.Shaped.{IsShaped}
use Rattle.nir_ir.specs.Shader.{Shader}
use Rattle.nir_tree.specs.Listed.{uses_in}
use Rattle.nir_tree.specs.Users.{AreUsers}
use Rattle.nir_tree.proofs.UsersLemmas.{are_users}
use Rattle.nir_tree.proofs.use_list.users.Goals as goal

pub returns : goal.returns
returns c =
    let shaped : IsShaped c.args.shader.now = subst IsShaped c.shader.view_is c.shader.invariant in
    let body : nodes_of c.as_slice.result.now ≡ c.args.shader.now.body = ap nodes_of c.as_slice.ensures ∙ ap (λ (s : Shader). s.body) c.shader.view_is in
    let listed : c.add_list.new.uses ≡ uses_in c.args.value c.args.shader.now.body =
    c.in_ok-add_list.ensures
    ∙ ap (λ (t : List Use). t ++ uses_in c.args.value (nodes_of c.as_slice.result.now)) c.new-uses.ensures
    ∙ ap (λ (nodes : Nodes). uses_in c.args.value nodes) body in
    subst (AreUsers c.args.value c.args.shader.now.body) (sym listed) (are_users c.args.shader.now shaped c.args.value)
