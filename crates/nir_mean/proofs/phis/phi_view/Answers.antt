use Rattle.std.proofs.Common.{◌≡◌, ◌∙◌, ◌<◌, ◌^◌, Some, length, sym, ap, subst}
use Rattle.std.specs.List.{find}
use Rattle.std.specs.Option.{option_map}
use Rattle.std.specs.Prelude.{slice_index}
use Rattle.nir_ops.specs.Width.{width_bits}
use Rattle.nir_ir.specs.declared.kind.Kind.{Kind}
use Rattle.nir_ir.specs.Definitions.{kind_at}
use Rattle.nir_ir.specs.Definitions.{is_from}
use Rattle.nir_mean.specs.Seen.{shader_of}
use Rattle.nir_mean.specs.Table.{kinds_of}
use Rattle.nir_mean.proofs.PhiLemmas.{taken_kind}
use Rattle.nir_mean.proofs.TableLemmas.{kind_same, table_count, table_kind}
use Rattle.nir_mean.proofs.phis.phi_view.Goals as goal

pub view_of-requires-clause-words : goal.view_of-requires-clause-words
view_of-requires-clause-words c =
    let found : kind_at (shader_of c.args.given.now).body c.in-Some.value ≡ Some c.args.phi.now.kind =
    taken_kind (shader_of c.args.given.now).body c.args.phi.now.kind (is_from c.args.from) c.args.phi.now.sources c.in-Some.value c.requires.sound.sources
    (ap (λ list. option_map (λ source. source.value) (find (is_from c.args.from) list)) (sym c.as_slice.ensures) ∙ sym c.taken.ensures ∙ c.in-Some.is) in
    let kind : kinds_of c.args.table.now.views c.in-Some.value.0 ≡ c.args.phi.now.kind =
    table_kind (shader_of c.args.given.now) c.args.table.now.views c.in-Some.value c.args.phi.now.kind c.requires.table found in
    λ at. subst (λ (k : Kind). slice_index c.comps.result.now at < 2 ^ width_bits k.width) kind (c.comps.ensures.words at)

pub returns-in-Some-clause-kind : goal.returns-in-Some-clause-kind
returns-in-Some-clause-kind c =
    let found : kind_at (shader_of c.args.given.now).body c.in-Some.value ≡ Some c.args.phi.now.kind =
    taken_kind (shader_of c.args.given.now).body c.args.phi.now.kind (is_from c.args.from) c.args.phi.now.sources c.in-Some.value c.requires.sound.sources
    (ap (λ list. option_map (λ source. source.value) (find (is_from c.args.from) list)) (sym c.as_slice.ensures) ∙ sym c.taken.ensures ∙ c.in-Some.is) in
    let kind : kinds_of c.args.table.now.views c.in-Some.value.0 ≡ c.args.phi.now.kind =
    table_kind (shader_of c.args.given.now) c.args.table.now.views c.in-Some.value c.args.phi.now.kind c.requires.table found in
    kind_same c.view_of.result c.args.phi.now.kind c.view_of.ensures.width
    (ap length (c.view_of.ensures.comps ∙ c.comps.ensures.value) ∙ table_count c.args.table.now.views c.in-Some.value.0 ∙ ap (λ (k : Kind). k.count) kind)
