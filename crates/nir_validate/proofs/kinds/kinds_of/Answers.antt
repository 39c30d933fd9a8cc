use Rattle.std.proofs.Common.{◌≡◌, ◌∙◌, ◌++◌, List, Option, None, length, replicate, ap, take, drop}
use Rattle.std.proofs.lemmas.List.{take_at}
use Rattle.nir_ir.specs.declared.kind.Kind.{Kind}
use Rattle.nir_ir.specs.Definitions.{kind_at}
use Rattle.nir_ir.specs.Nodes.{nodes_of}
use Rattle.nir_ir.specs.Shader.{Shader}
use Rattle.nir_validate.specs.KindTable.{kinds_in, told_in}
use Rattle.nir_validate.proofs.KindsFound.{kind_table}
use Rattle.nir_validate.proofs.kinds.kinds_of.Goals as goal

pub returns : goal.returns
returns c =
    let s : Shader = record { inputs = c.shader.inside.inputs; outputs = c.shader.inside.outputs; buffers = c.shader.inside.buffers; body = nodes_of c.shader.inside.body; next_value = c.shader.inside.next_value } in
    let told : List (Option Kind) = c.tell_list.new.kinds in
    let as_many : length told ≡ c.in_ok-table.table.len = c.tell_list.auto.kinds ∙ c.as_mut_slice.ensures.len in
    let whole : take c.in_ok-table.table.len (told ++ drop (length told) c.in_ok-table.table.items) ≡ told = take_at told (drop (length told) c.in_ok-table.table.items) c.in_ok-table.table.len as_many in
    let filled : told ≡ told_in (nodes_of c.shader.inside.body) (replicate c.shader.inside.next_value None) =
    c.tell_list.ensures
    ∙ ap (λ t. told_in (nodes_of t) c.as_mut_slice.result.now) c.as_slice.ensures
    ∙ ap (told_in (nodes_of c.shader.inside.body)) (c.as_mut_slice.ensures.value ∙ c.in_ok-table.ensures) in
    ap kinds_in (whole ∙ filled) ∙ kind_table s c.shader.invariant ∙ ap (λ (v : Shader). kind_at v.body) c.shader.view_is
