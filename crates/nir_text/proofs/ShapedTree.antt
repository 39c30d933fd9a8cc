-- Ifs, loops and lists of nodes that are read, to any depth.
use Rattle.std.proofs.Common.{◌≡◌, ℕ, zero, suc, ◌+◌, ◌<◌, ◌≤◌, cond, [], ◌∷◌, ◌++◌, length, Result, Ok, codes, refl, sym, ap, subst, inl, inr, arith, append-nil}
use Rattle.std.specs.List.{AllByRecursion}
use Rattle.nir_ir.specs.declared.ids.IfId.{IfId}
use Rattle.nir_ir.specs.declared.ids.LoopId.{LoopId}
use Rattle.nir_ir.specs.declared.ids.ValueId.{ValueId}
use Rattle.nir_ir.specs.Nodes.{Nodes, Nil, BlockThen, IfThen, LoopThen, then as chained}
use Rattle.nir_ir.specs.Splits.{items-then}
use Rattle.nir_ir.specs.Items.{IfHead, LoopHead, block_items, items}
use Rattle.nir_ir.specs.Shaped.{IsCount}
use Rattle.nir_text.specs.declared.counts.Counts as counts
use Rattle.nir_text.specs.declared.fault.TextFault.{TextFault}
use Rattle.nir_text.specs.declared.fault.TextFault.TheVariants.{Expected}
use Rattle.nir_text.specs.Signs.{is_mark, is_word}
use Rattle.nir_text.specs.Naming.{Naming}
use Rattle.nir_text.specs.Reading.{Point, here, next, mark_at, word_at, value_used_at}
use Rattle.nir_text.specs.Tree.{block_at, if_begun, loop_begun, if_at, loop_at, node_at, nodes_at, list_at}
use Rattle.nir_text.proofs.ShapedLists.{Counts-none, Counts-one}
use Rattle.nir_text.specs.ReadingLaws.{ok_is, bind_ok, held}
use Rattle.list_laws.specs.BoolLaws.{chosen}
use Rattle.nir_text.proofs.ShapedPoints.{Stands, Passes, Passes-next, mark_passes, word_passes, value_used}
use Rattle.nir_text.proofs.ShapedItems.{AreFew-kept, Reads, Reads-one, Reads-none, Reads-then, Reads-behind, Reads-before}
use Rattle.nir_text.proofs.ShapedParts.{block_read}

module _ (names : Naming) (total : counts.Counts) where
  abbrev AreNodes : Point → Nodes × Point → Type 0
  AreNodes p x = Reads names total p x.1 (items x.0)

  -- the head of an if, its condition read
  if_head : (p q : Point) (cond : ValueId) → Passes names total (if_begun p) q → length (if_begun p).rest ≤ length p.rest → cond.0 < total.values → Reads names total p q (IfHead (record { 0 = p.counts.ifs }) cond ∷ [])
  if_head p q cond passes shorter used = Reads-one names total p q (IfHead (record { 0 = p.counts.ifs }) cond) (record {
    values = Counts-none p.counts.values q.counts.values (ap (λ c. c.values) passes.counts);
    few = AreFew-kept p q (ap (λ c. c.values) passes.counts);
    blocks = Counts-none p.counts.blocks q.counts.blocks (ap (λ c. c.blocks) passes.counts);
    effects = Counts-none p.counts.effects q.counts.effects (ap (λ c. c.effects) passes.counts);
    ifs = Counts-one p.counts.ifs q.counts.ifs (ap (λ c. c.ifs) passes.counts);
    loops = Counts-none p.counts.loops q.counts.loops (ap (λ c. c.loops) passes.counts);
    used = (used, tt);
    named = tt;
    shaped = tt;
    shorter = omega (arith, shorter, passes.shorter);
    stands = passes.stands;
  })

  loop_head : (p : Point) → Stands names total p.rest → Reads names total p (loop_begun p) (LoopHead (record { 0 = p.counts.loops }) ∷ [])
  loop_head p stands =
      let word = Passes-next names total p stands in
      Reads-one names total p (loop_begun p) (LoopHead (record { 0 = p.counts.loops })) (record {
        values = Counts-none p.counts.values p.counts.values refl;
        few = λ few. few;
        blocks = Counts-none p.counts.blocks p.counts.blocks refl;
        effects = Counts-none p.counts.effects p.counts.effects refl;
        ifs = Counts-none p.counts.ifs p.counts.ifs refl;
        loops = Counts-one p.counts.loops (p.counts.loops + 1) refl;
        used = tt;
        named = tt;
        shaped = tt;
        shorter = word.shorter;
        stands = word.stands;
      })

  -- a reader of inner lists
  record ReadsInner (inner : Point → Result (Nodes × Point) TextFault) : Type 0 where
    list : (p : Point) (x : Nodes × Point) → Stands names total p.rest → inner p ≡ Ok x → AreNodes p x

  module _ (counted : AllByRecursion IsCount names.counts) (inner : Point → Result (Nodes × Point) TextFault) (lists : ReadsInner inner) where
    if_read : (p : Point) (x : Nodes × Point) → Stands names total p.rest → if_at inner names p ≡ Ok x → AreNodes p x
    unfolding if_at
    if_read p x stands e =
        let a = bind_ok (value_used_at names (if_begun p)) _ x e in
        let b = bind_ok (inner a.0.1) _ x a.2 in
        let c = bind_ok (word_at (codes "else") b.0.1) _ x b.2 in
        let d = bind_ok (inner c.0) _ x c.2 in
        let begun = Passes-next names total p stands in
        let cond = value_used names total (if_begun p) a.0 begun.stands a.1 in
        let head = if_head p a.0.1 a.0.0 cond.0 begun.shorter cond.1 in
        let first = lists.list a.0.1 b.0 cond.0.stands b.1 in
        let word = word_passes names total (codes "else") b.0.1 c.0 first.stands c.1 in
        let second = lists.list c.0 d.0 word.stands d.1 in
        let id : IfId = record { 0 = p.counts.ifs } in
        let with_first = Reads-then names total p a.0.1 b.0.1 (IfHead id a.0.0 ∷ []) (items b.0.0) head first in
        let with_word = Reads-before names total p b.0.1 c.0 (IfHead id a.0.0 ∷ items b.0.0) with_first word in
        let whole = Reads-then names total p c.0 d.0.1 (IfHead id a.0.0 ∷ items b.0.0) (items d.0.0) with_word second in
        let made : Nodes × Point = (IfThen id a.0.0 b.0.0 d.0.0 Nil, d.0.1) in
        subst (AreNodes p) {x = made} (ok_is made x d.2) (subst (Reads names total p d.0.1) (sym (append-nil (IfHead id a.0.0 ∷ items b.0.0 ++ items d.0.0))) whole)

    loop_read : (p : Point) (x : Nodes × Point) → Stands names total p.rest → loop_at inner p ≡ Ok x → AreNodes p x
    unfolding loop_at
    loop_read p x stands e =
        let a = bind_ok (inner (loop_begun p)) _ x e in
        let begun = Passes-next names total p stands in
        let id : LoopId = record { 0 = p.counts.loops } in
        let body = lists.list (loop_begun p) a.0 begun.stands a.1 in
        let whole = Reads-then names total p (loop_begun p) a.0.1 (LoopHead id ∷ []) (items a.0.0) (loop_head p stands) body in
        let made : Nodes × Point = (LoopThen id a.0.0 Nil, a.0.1) in
        subst (AreNodes p) {x = made} (ok_is made x a.2) (subst (Reads names total p a.0.1) (sym (append-nil (LoopHead id ∷ items a.0.0))) whole)

    node_read : (p : Point) (x : Nodes × Point) → Stands names total p.rest → node_at inner names p ≡ Ok x → AreNodes p x
    unfolding node_at
    node_read p x stands e =
        elim (chosen (is_word (codes "block") (here p)) _ _ (Ok x) e) [
          | inl way ↦
              let a = bind_ok (block_at names (next p)) _ x way.1 in
              let word = Passes-next names total p stands in
              let b = block_read names total counted (next p) a.0 word.stands a.1 in
              let whole = Reads-behind names total p (next p) a.0.1 (block_items a.0.0) word b in
              let made : Nodes × Point = (BlockThen a.0.0 Nil, a.0.1) in
              subst (AreNodes p) {x = made} (ok_is made x a.2) (subst (Reads names total p a.0.1) (sym (append-nil (block_items a.0.0))) whole)
          | inr other ↦ elim (chosen (is_word (codes "if") (here p)) _ _ (Ok x) other.1) [
            | inl way ↦ if_read p x stands way.1
            | inr other ↦ loop_read p x stands (held (is_word (codes "loop") (here p)) (Expected (here p).place) (loop_at inner p) x other.1).1
          ]
        ]

    nodes_read : (fuel : ℕ) (p : Point) (x : Nodes × Point) → Stands names total p.rest → nodes_at inner names fuel p ≡ Ok x → AreNodes p x
    unfolding nodes_at
    nodes_read zero p x stands e = absurd cc
    nodes_read (suc fuel) p x stands e =
        elim (chosen (is_mark 125 (here p)) _ _ (Ok x) e) [
          | inl way ↦ subst (AreNodes p) (ok_is (Nil, next p) x way.1) (Reads-none names total p (next p) (Passes-next names total p stands))
          | inr way ↦
              let a = bind_ok (node_at inner names p) _ x way.1 in
              let b = bind_ok (nodes_at inner names fuel a.0.1) _ x a.2 in
              let one = node_read p a.0 stands a.1 in
              let others = nodes_read fuel a.0.1 b.0 one.stands b.1 in
              let whole = Reads-then names total p a.0.1 b.0.1 (items a.0.0) (items b.0.0) one others in
              let made : Nodes × Point = (chained a.0.0 b.0.0, b.0.1) in
              subst (AreNodes p) {x = made} (ok_is made x b.2) (subst (Reads names total p b.0.1) (sym (items-then a.0.0 b.0.0)) whole)
        ]

  pub list_read : AllByRecursion IsCount names.counts → (depth : ℕ) (p : Point) (x : Nodes × Point) → Stands names total p.rest → list_at names depth p ≡ Ok x → Reads names total p x.1 (items x.0)
  unfolding list_at
  list_read counted zero p x stands e =
      elim (chosen (is_mark 123 (here p)) _ _ (Ok x) e) [ inl way ↦ absurd (let fails = way.1 in cc) | inr way ↦ absurd (let fails = way.1 in cc) ]
  list_read counted (suc depth) p x stands e =
      let a = bind_ok (mark_at 123 p) _ x e in
      let begun = mark_passes names total 123 p a.0 stands a.1 in
      let inner : ReadsInner (list_at names depth) = record { list = list_read counted depth } in
      let nodes = nodes_read counted (list_at names depth) inner (length a.0.rest) a.0 x begun.stands a.2 in
      Reads-behind names total p a.0 x.1 (items x.0) begun nodes
