use Rattle.std.proofs.Common.{◌∙◌, ◌&&◌, ap, nat_eq, not, sym}
use Rattle.std.proofs.lemmas.Map.Made.{is_some-lookup}
use Rattle.std.specs.List.{list_any}
use Rattle.nir_validate.proofs.edge_table.add_name.Goals as goal

pub returns-then-not-contains_key-clause-added : goal.returns-then-not-contains_key-clause-added
returns-then-not-contains_key-clause-added c =
    sym
    (ap (λ there. there && not (list_any (nat_eq c.args.block) c.args.names.now.keys))
    (sym (is_some-lookup (nat_eq c.args.block) c.args.table.now.entries) ∙ sym c.contains_key.ensures ∙ c.if-not-contains_key.true))

pub returns-in-Ok-clause-added : goal.returns-in-Ok-clause-added
returns-in-Ok-clause-added c =
    c.in-Ok.ensures.added
    ∙ sym
    (ap (λ there. there && not (list_any (nat_eq c.args.block) c.args.names.now.keys))
    (sym (is_some-lookup (nat_eq c.args.block) c.args.table.now.entries) ∙ sym c.contains_key.ensures ∙ c.if-not-contains_key.false))
