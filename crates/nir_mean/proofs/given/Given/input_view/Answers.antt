use Rattle.std.proofs.Common.{◌≡◌, ◌∙◌, ℕ, List, length, sym, ap, subst, arith}
use Rattle.nir_ops.specs.Width.{width_bits}
use Rattle.nir_mean.specs.MadeKinds.{input_kind}
use Rattle.nir_mean.specs.Seen.{inputs_of, shader_of}
use Rattle.nir_mean.specs.ViewLaws.{AreWords}
use Rattle.nir_mean.proofs.TableLemmas.{kind_same}
use Rattle.nir_mean.proofs.given.Given.input_view.Goals as goal

pub view_of-requires-clause-few : goal.view_of-requires-clause-few
view_of-requires-clause-few c =
    let kind = input_kind (shader_of c.args.self.now).inputs (inputs_of c.args.self.now) c.args.slot c.args.kind c.requires.inputs c.requires.slot in
    let count : length c.input.result.now ≡ c.args.kind.count = ap length c.input.ensures ∙ kind.count in
    omega arith

pub view_of-requires-clause-words : goal.view_of-requires-clause-words
view_of-requires-clause-words c =
    let kind = input_kind (shader_of c.args.self.now).inputs (inputs_of c.args.self.now) c.args.slot c.args.kind c.requires.inputs c.requires.slot in
    subst (λ (list : List ℕ). AreWords (width_bits c.args.kind.width) list) (sym c.input.ensures) kind.words

pub returns-clause-kind : goal.returns-clause-kind
returns-clause-kind c =
    let kind = input_kind (shader_of c.args.self.now).inputs (inputs_of c.args.self.now) c.args.slot c.args.kind c.requires.inputs c.requires.slot in
    kind_same c.view_of.result c.args.kind c.view_of.ensures.width (ap length (c.view_of.ensures.comps ∙ c.input.ensures) ∙ kind.count)
