use Rattle.std.proofs.Common.{◌≡◌, ◌++◌, ◌∷◌, [], ◌∙◌, List, OnOk, sym, subst}
use Rattle.std.proofs.lemmas.Bool.{cond-true}
use Rattle.nir_ir.specs.declared.instr.Instr.{Instr}
use Rattle.nir_ir.specs.Definitions.{is_target}
use Rattle.nir_tree.proofs.copy.push_edited.Goals as goal

pub returns-then-defines : goal.returns-then-defines
returns-then-defines c =
    let here = sym c.defines.ensures ∙ c.if-defines.true in
    rw c.in-Place.is
    (subst (λ (t : List Instr). OnOk c.push_all.result (c.push_all.new.copy ≡ c.args.copy.now ++ t))
    (sym (cond-true (is_target c.in-Place.value c.args.instr.now) c.in-Place.news.now (c.args.instr.now ∷ []) here))
    c.push_all.ensures)
