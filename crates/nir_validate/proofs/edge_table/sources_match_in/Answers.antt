use Rattle.std.proofs.Common.{◌∙◌, ◌++◌, ap, ap₂, append-nil, drop, drop-cons, eqb, map, suc, sym, true≢false}
use Rattle.std.proofs.lemmas.List.{drop_all}
use Rattle.std.specs.Map.{keys_of}
use Rattle.nir_ir.specs.declared.node.PhiSource.{PhiSource}
use Rattle.nir_validate.specs.Rules.{names_each_once}
use Rattle.nir_validate.proofs.TableLemmas.{table-counted, table-named}
use Rattle.nir_validate.proofs.edge_table.sources_match_in.Goals as goal

pub returns-then-not-branch : goal.returns-then-not-branch
returns-then-not-branch c =
    let sources = c.args.sources.now in
    let at = c.loop-source.source-index in
    let front = c.loop-source.names.keys in
    let rest = map (λ (source : PhiSource). source.from.0) (drop (suc at) sources) in
    sym
    (table-named c.args.table.now.entries front rest _ (map (λ (source : PhiSource). source.from.0) sources)
    (sym c.loop-source.invariant.named ∙ ap (λ left. front ++ map (λ (source : PhiSource). source.from.0) left) (drop-cons sources at _ c.loop-source-test.true))
    (sym c.in_ok-add_name.ensures.added ∙ c.if-not-branch.true))

pub returns : goal.returns
returns c =
    let sources = c.args.sources.now in
    let at = c.loop-source.source-index in
    let front = c.loop-source.names.keys in
    let all = sym (append-nil front) ∙ ap (λ rest. front ++ map (λ (source : PhiSource). source.from.0) rest) (sym (drop_all at sources c.loop-source-test.false)) ∙ c.loop-source.invariant.named in
    ap₂ eqb c.len.ensures.len c.len-2.ensures.len
    ∙ sym (table-counted c.args.table.now.entries front (λ none. true≢false (sym (c.is_empty.ensures.1 none) ∙ c.if-is_empty.false)) c.len-2.ensures.unique c.len.ensures.unique c.loop-source.invariant.among)
    ∙ ap (names_each_once (keys_of c.args.table.now.entries)) all
