use Rattle.std.proofs.Common.{sym, ◌∙◌, subst, arith}
use Rattle.nir_text.proofs.NamingLemmas.{IsLittleMore, within-behind, length-behind, grows-noted, naming_from-first, naming_from-none}
use Rattle.nir_text.specs.Table.{naming}
use Rattle.nir_text.proofs.naming.naming_of.Goals as goal

pub loop-rest-preserved : goal.loop-rest-preserved
loop-rest-preserved c =
    let noted = c.in_ok-note.ensures in
    let more = subst (IsLittleMore (naming c.loop-rest.table)) (sym noted) (grows-noted _ _ (naming c.loop-rest.table)) in
    let shorter = length-behind c.loop-rest.rest.now c.in-len1-up.len_at_least in
    record {
      so_far = naming_from-first c.args.text.now _ _ _ c.loop-rest.rest.now c.in-len1-up.len_at_least noted ∙ c.loop-rest.invariant.so_far;
      within = within-behind _ c.loop-rest.rest.now c.loop-rest.invariant.within;
      values = omega (arith, more.values, shorter);
      blocks = omega (arith, more.blocks, shorter);
    }

pub returns : goal.returns
returns c = sym (naming_from-none c.args.text.now _ c.loop-rest.rest.now c.in_default.len_below) ∙ c.loop-rest.invariant.so_far
