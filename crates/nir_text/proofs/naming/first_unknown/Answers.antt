use Rattle.std.proofs.Common.{◌∙◌, sym}
use Rattle.nir_text.proofs.NamingLemmas.{within-behind, first_unknown-known, first_unknown-unknown, first_unknown-none}
use Rattle.nir_text.proofs.naming.first_unknown.Goals as goal

pub returns-then-is_unknown : goal.returns-then-is_unknown
returns-then-is_unknown c =
    first_unknown-unknown c.args.text.now _ _ _ c.loop-rest.rest.now c.in-len1-up.len_at_least (sym c.is_unknown.ensures ∙ c.if-is_unknown.true) ∙ c.loop-rest.invariant.so_far

pub loop-rest-preserved : goal.loop-rest-preserved
loop-rest-preserved c = record {
  so_far = first_unknown-known c.args.text.now _ _ _ c.loop-rest.rest.now c.in-len1-up.len_at_least (sym c.is_unknown.ensures ∙ c.if-is_unknown.false) ∙ c.loop-rest.invariant.so_far;
  within = within-behind _ c.loop-rest.rest.now c.loop-rest.invariant.within;
}

pub returns : goal.returns
returns c = sym (first_unknown-none c.args.text.now _ _ c.loop-rest.rest.now c.in_default.len_below) ∙ c.loop-rest.invariant.so_far
