use Rattle.std.proofs.Common.{◌≤◌, ◌^◌, sym, ap, ◌∙◌, length}
use Rattle.std.proofs.lemmas.List.{length-map}
use Rattle.std.proofs.lemmas.Result.{err_from_is_err_and}
use Rattle.nir_text.specs.declared.counts.Counts.{Counts}
use Rattle.nir_text.specs.Signs.{sign_of, signs_of}
use Rattle.nir_text.specs.Naming.{first_unknown}
use Rattle.nir_text.specs.Parts.{parts}
use Rattle.nir_text.specs.Table.{naming}
use Rattle.nir_text.specs.Tree.{shader_at, read_signs}
use Rattle.nir_text.specs.View.{point}
use Rattle.nir_text.proofs.Front.{fails}
use Rattle.nir_text.proofs.Shaped.{few_values-read_signs, IsShaped-read_signs}
use Rattle.nir_text.proofs.Whole.{start, signs-whole, signs-unknown, signs-fault}
use Rattle.nir_text.proofs.read.shader_of.Goals as goal

pub returns-in_err-parts-clause-exact : goal.returns-in_err-parts-clause-exact
returns-in_err-parts-clause-exact c =
    let q = err_from_is_err_and c.from_residual-in_err-parts.result c.from_residual-in_err-parts.ensures.1 in
    let signs = signs_of c.args.text.now c.args.tokens.now in
    let names = naming c.in_ok-names.names in
    rw (q.1, q.2) (fails c.in_err-parts.field-0.0 (shader_at names (start signs)) (read_signs signs) (λ f e. signs-fault signs names f c.in_ok-names.ensures e) c.in_err-parts.ensures)

pub returns-in-Some-clause-exact : goal.returns-in-Some-clause-exact
returns-in-Some-clause-exact c =
    let signs = signs_of c.args.text.now c.args.tokens.now in
    let names = naming c.in_ok-names.names in
    signs-unknown signs names (parts c.in_ok-parts.parts) (point c.in_ok-parts.end) c.in-Some.place c.in_ok-names.ensures c.in_ok-parts.ensures
    (ap (λ (k : Counts). first_unknown names k signs) (sym c.counts.ensures) ∙ sym c.in-Some.ensures)

pub into_shader-requires : goal.into_shader-requires
into_shader-requires c =
    let signs = signs_of c.args.text.now c.args.tokens.now in
    let names = naming c.in_ok-names.names in
    let few : length signs ≤ 2 ^ 32 = rw (length-map c.args.tokens.now (sign_of c.args.text.now)) c.requires.few in
    IsShaped-read_signs signs (parts c.in_ok-parts.parts) few
    (signs-whole signs names (parts c.in_ok-parts.parts) (point c.in_ok-parts.end) c.in_ok-names.ensures c.in_ok-parts.ensures
    (ap (λ (k : Counts). first_unknown names k signs) (sym c.counts.ensures) ∙ sym c.in-None.ensures))

pub returns-clause-exact : goal.returns-clause-exact
returns-clause-exact c =
    let signs = signs_of c.args.text.now c.args.tokens.now in
    let names = naming c.in_ok-names.names in
    rw c.into_shader.ensures
    (signs-whole signs names (parts c.in_ok-parts.parts) (point c.in_ok-parts.end) c.in_ok-names.ensures c.in_ok-parts.ensures
    (ap (λ (k : Counts). first_unknown names k signs) (sym c.counts.ensures) ∙ sym c.in-None.ensures))

pub returns-clause-few : goal.returns-clause-few
returns-clause-few c =
    let signs = signs_of c.args.text.now c.args.tokens.now in
    let names = naming c.in_ok-names.names in
    let few : length signs ≤ 2 ^ 32 = rw (length-map c.args.tokens.now (sign_of c.args.text.now)) c.requires.few in
    rw c.into_shader.ensures
    (few_values-read_signs signs (parts c.in_ok-parts.parts) few
    (signs-whole signs names (parts c.in_ok-parts.parts) (point c.in_ok-parts.end) c.in_ok-names.ensures c.in_ok-parts.ensures
    (ap (λ (k : Counts). first_unknown names k signs) (sym c.counts.ensures) ∙ sym c.in-None.ensures)))
