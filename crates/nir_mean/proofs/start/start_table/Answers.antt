use Rattle.std.proofs.Common.{◌≡◌, ◌∙◌, ℕ, length, ap, sym, subst}
use Rattle.nir_ir.specs.Nodes.{Nodes, nodes_of}
use Rattle.nir_ir.specs.Shader.{Shader}
use Rattle.nir_ir.specs.Shaped.{IsShaped}
use Rattle.nir_mean.specs.Declares.{FitIn, declared, shown_of, told_of}
use Rattle.nir_mean.proofs.StartLemmas.{all_fit, start_table, start_values}
use Rattle.nir_mean.proofs.start.start_table.Goals as goal

pub declare_list-requires : goal.declare_list-requires
declare_list-requires c =
    let shaped : IsShaped c.args.shader.now = subst IsShaped c.shader.view_is c.shader.invariant in
    let body : nodes_of c.as_slice.result.now ≡ c.args.shader.now.body = ap nodes_of c.as_slice.ensures ∙ ap (λ (s : Shader). s.body) c.shader.view_is in
    let len : length c.in_ok-table.table.views ≡ c.args.shader.now.next_value = c.in_ok-table.ensures.len ∙ ap (λ (s : Shader). s.next_value) c.shader.view_is in
    record {
      fits = subst (λ (n : ℕ). FitIn n (declared (nodes_of c.as_slice.result.now))) (sym len)
          (subst (λ (nodes : Nodes). FitIn c.args.shader.now.next_value (declared nodes)) (sym body) (all_fit c.args.shader.now shaped));
    }

pub returns-clause-table : goal.returns-clause-table
returns-clause-table c =
    let shaped : IsShaped c.args.shader.now = subst IsShaped c.shader.view_is c.shader.invariant in
    let body : nodes_of c.as_slice.result.now ≡ c.args.shader.now.body = ap nodes_of c.as_slice.ensures ∙ ap (λ (s : Shader). s.body) c.shader.view_is in
    let len : length c.in_ok-table.table.views ≡ c.args.shader.now.next_value = c.in_ok-table.ensures.len ∙ ap (λ (s : Shader). s.next_value) c.shader.view_is in
    start_table c.args.shader.now c.declare_list.new.table.views shaped (c.declare_list.ensures.len ∙ len)
    (c.declare_list.ensures.shown
    ∙ ap (λ nodes. told_of (declared nodes) (shown_of c.in_ok-table.table.views)) body
    ∙ ap (told_of (declared c.args.shader.now.body)) c.in_ok-table.ensures.shown)

pub returns-clause-values : goal.returns-clause-values
returns-clause-values c =
    let shaped : IsShaped c.args.shader.now = subst IsShaped c.shader.view_is c.shader.invariant in
    let body : nodes_of c.as_slice.result.now ≡ c.args.shader.now.body = ap nodes_of c.as_slice.ensures ∙ ap (λ (s : Shader). s.body) c.shader.view_is in
    start_values c.args.shader.now c.declare_list.new.table.views shaped
    (c.declare_list.ensures.shown
    ∙ ap (λ nodes. told_of (declared nodes) (shown_of c.in_ok-table.table.views)) body
    ∙ ap (told_of (declared c.args.shader.now.body)) c.in_ok-table.ensures.shown)
