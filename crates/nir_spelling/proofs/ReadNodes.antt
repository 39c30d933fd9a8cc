-- Blocks and lists of nodes that were read are spelled, to any depth.
use Rattle.std.proofs.Common.{◌≡◌, ℕ, zero, suc, ◌+◌, ◌≤◌, max, true, false, [], ◌∷◌, ◌++◌, map, take, length, drop, Option, Some, None, is_some, Result, Ok, codes, refl, sym, ap, ◌∙◌, subst, inl, inr, arith, append-nil, length-append, option_to_list}
use Rattle.std.specs.Str.{bytes_eq}
use Rattle.nir_ir.specs.declared.ids.BlockId.{BlockId}
use Rattle.nir_ir.specs.declared.ids.IfId.{IfId}
use Rattle.nir_ir.specs.declared.ids.LoopId.{LoopId}
use Rattle.nir_ir.specs.declared.node.Block as block
use Rattle.nir_ir.specs.declared.node.Jump.{Jump}
use Rattle.nir_ir.specs.declared.node.Jump.TheVariants.{Break, Continue}
use Rattle.nir_ir.specs.Nodes.{Nodes, Nil, BlockThen, IfThen, LoopThen, then as chained}
use Rattle.nir_ir.specs.Splits.{items-then}
use Rattle.nir_ir.specs.Items.{BlockHead, PhiItem, InstrItem, JumpItem, IfHead, LoopHead, block_items, items}
use Rattle.nir_lex.specs.declared.token.TokenKind.TheVariants.{Word}
use Rattle.nir_text.specs.declared.counts.Counts as counts
use Rattle.nir_text.specs.declared.fault.TextFault.{TextFault}
use Rattle.nir_text.specs.declared.fault.TextFault.TheVariants.{Expected, Twice}
use Rattle.nir_text.specs.Signs.{word_of, is_mark, is_word}
use Rattle.nir_text.specs.Naming.{Naming, place_of, is_among_first, naming_from}
use Rattle.nir_text.specs.Reading.{Point, here, next, block_begun, mark_at, word_at, wanted, value_used_at, block_defined_at}
use Rattle.nir_text.specs.Instrs.{instrs_at, phis_at, jump_at}
use Rattle.nir_text.specs.Tree.{block_at, if_begun, loop_begun, if_at, loop_at, node_at, nodes_at, list_at}
use Rattle.nir_spelling.specs.Lexemes.{lexemes_of, Behind, Part, ◌▹◌, IsWord, IsMark, Each}
use Rattle.nir_spelling.specs.Spelling.{IsValue, IsBlock, SpellsInstr, SpellsPhi, SpellsJump, SpellsBlock, SpellsNodes}
use Rattle.nir_spelling.specs.Resolving.{depth}
use Rattle.nir_spelling.proofs.Names.{bytes_eq-refl, no_place, get_of_more}
use Rattle.nir_spelling.proofs.Passes.{Known-drop, known_here}
use Rattle.nir_text.specs.ReadingLaws.{ok_is, bind_ok, held, not_held, wanted_ok}
use Rattle.list_laws.specs.BoolLaws.{chosen}
use Rattle.nir_spelling.proofs.Tokens.{mark_kind, word_kind, word_form, there_by_kind, One, begins}
use Rattle.nir_spelling.proofs.Took.{Took-none, mark_took, tested_mark, word_took, tested_took, value_took, no_word}
use Rattle.nir_spelling.proofs.TookParts.{plain_mark, mark_ok}
use Rattle.nir_spelling.proofs.Grows.{Numbers, after, counts_same, counts_in, one_block, Extends-naming, block_scans}
use Rattle.nir_spelling.proofs.ReadItems.{one_more, Stands, Read, Read-then, Read-took, Read-items}
use Rattle.nir_spelling.proofs.ReadBlocks.{plus_zero, plain_kind, headed_read, phis_read, instrs_read}

module _ (names : Naming) (total : counts.Counts) where
  -- ---- jumps

  jump_read : (acc : Naming) (p : Point) (x : Option Jump × Point) → Stands names total acc p → jump_at p ≡ Ok x → Read names total acc p x.1 (map JumpItem (option_to_list x.0)) (SpellsJump names x.0)
  unfolding jump_at
  jump_read acc p x stands e =
      let Whole : Option Jump × Point → Type 1 = λ y. Read names total acc p y.1 (map JumpItem (option_to_list y.0)) (SpellsJump names y.0) in
      elim (chosen (is_word (codes "break") (here p)) _ _ (Ok x) e) [
        | inl way ↦ subst Whole {x = (Some Break, next p)} (ok_is (Some Break, next p) x way.1) (with_jump Break (Read-took names total acc p (next p) _ stands (tested_took names total (codes "break") p refl stands.known way.0)))
        | inr other ↦ elim (chosen (is_word (codes "continue") (here p)) _ _ (Ok x) other.1) [
          | inl way ↦ subst Whole {x = (Some Continue, next p)} (ok_is (Some Continue, next p) x way.1) (with_jump Continue (Read-took names total acc p (next p) _ stands (tested_took names total (codes "continue") p refl stands.known way.0)))
          | inr way ↦ subst Whole {x = (None, p)} (ok_is (None, p) x way.1) (Read-took names total acc p p (λ behind. behind) stands (Took-none names total p))
        ]
      ]
    where
      with_jump : (jump : Jump) {q : Point} {part : Part} → Read names total acc p q [] part → Read names total acc p q (JumpItem jump ∷ []) part
      with_jump jump read = record {
        new = read.new;
        stands = read.stands;
        counts = read.counts;
        kinds = read.kinds;
        numbers = record { values = tt; blocks = tt; effects = tt; ifs = tt; loops = tt };
        spells = read.spells;
      }

  jump_plain : (p : Point) (x : Option Jump × Point) → is_mark 61 (here x.1) ≡ false → jump_at p ≡ Ok x → is_mark 61 (here p) ≡ false
  unfolding jump_at
  jump_plain p x plain e =
      elim (chosen (is_word (codes "break") (here p)) _ _ (Ok x) e) [
        | inl way ↦ plain_kind p Word (word_form (codes "break") (here p) way.0).0 refl
        | inr other ↦ elim (chosen (is_word (codes "continue") (here p)) _ _ (Ok x) other.1) [
          | inl way ↦ plain_kind p Word (word_form (codes "continue") (here p) way.0).0 refl
          | inr way ↦ ap (λ (y : Option Jump × Point). is_mark 61 (here y.1)) {x = (None, p)} (ok_is (None, p) x way.1) ∙ plain
        ]
      ]

  -- ---- blocks

  -- the word `block` and a word
  block_head : (acc : Naming) (p : Point) (a : BlockId × Point) (q : Point) → Stands names total acc p → is_word (codes "block") (here p) ≡ true → block_defined_at names (next p) ≡ Ok a → mark_at 123 a.1 ≡ Ok q
      → Read names total acc p a.1 (BlockHead a.0 ∷ []) (λ behind. IsWord (codes "block") ▹ IsBlock names a.0 ▹ behind)
  unfolding block_defined_at
  block_head acc p a q stands test e brace =
      let word = bind_ok (wanted (word_of (here (next p))) (next p)) _ a e in
      let w = wanted_ok (word_of (here (next p))) (next p) word.0 word.1 in
      let is_word = word_kind (here (next p)).kind (here (next p)).text word.0.0 w.0 in
      let once = not_held (is_among_first p.counts.blocks (place_of word.0.0 names.blocks)) (Twice (here (next p)).place) _ a word.2 in
      let made : BlockId × Point = (record { 0 = p.counts.blocks }, block_begun (next p)) in
      let same = ok_is made a once.1 in
      let mark : is_mark 123 (here (next (next p))) ≡ true = ap (λ (y : BlockId × Point). is_mark 123 (here y.1)) {x = made} same ∙ mark_ok 123 a.1 q brace in
      let text = (here (next p)).text in
      let new = one_block acc text in
      let form = word_form (codes "block") (here p) test in
      let some = there_by_kind p.rest Word form.0 refl in
      let more = there_by_kind (next p).rest Word is_word.0 refl in
      let once_text = ap (λ t. is_among_first p.counts.blocks (place_of t names.blocks)) is_word.1 ∙ once.0 in
      let fresh : is_some (place_of text acc.blocks) ≡ false = ap (λ l. is_some (place_of text l)) stands.blocks ∙ no_place text names.blocks p.counts.blocks once_text in
      let scans = block_scans names total acc p some form.0 (ap (λ t. bytes_eq t (codes "block")) form.1 ∙ bytes_eq-refl (codes "block")) (known_here names total p.rest some stands.known)
      more is_word.0 (no_word (here (next (next p))) 123 (mark_kind 123 (here (next (next p))).kind mark)) (known_here names total (drop 1 p.rest) more (Known-drop names total p.rest stands.known)) fresh in
      let whole : naming_from new (next (next p)).rest ≡ names = sym scans.scan ∙ stands.whole in
      let extends = Extends-naming new (next (next p)).rest in
      let all : names.blocks ≡ (acc.blocks ++ text ∷ []) ++ extends.more_blocks = ap (λ (n : Naming). n.blocks) (sym whole) ∙ extends.blocks in
      let taken : take (suc p.counts.blocks) names.blocks ≡ acc.blocks ++ text ∷ [] = one_more names.blocks acc.blocks extends.more_blocks text p.counts.blocks stands.block_count all in
      let one : suc p.counts.blocks ≡ p.counts.blocks + 1 = omega arith in
      subst (λ (y : BlockId × Point). Read names total acc p y.1 (BlockHead y.0 ∷ []) (λ behind. IsWord (codes "block") ▹ IsBlock names y.0 ▹ behind)) {x = made} same
      (record {
        new = new;
        stands = record {
          values = stands.values;
          value_count = stands.value_count;
          blocks = sym taken ∙ ap (λ n. take n names.blocks) one;
          block_count = length-append acc.blocks (text ∷ []) ∙ ap (λ n. n + 1) stands.block_count;
          few = stands.few;
          whole = whole;
          known = sym scans.unknown ∙ stands.known;
          ends = scans.ends stands.ends;
        };
        counts = counts_same (record p.counts { blocks = p.counts.blocks + 1 }) (after p.counts (BlockHead made.0 ∷ [])) (plus_zero p.counts.values) refl (plus_zero p.counts.effects) (plus_zero p.counts.ifs) (plus_zero p.counts.loops);
        kinds = sym (append-nil acc.counts);
        numbers = record { values = tt; blocks = (refl, tt); effects = tt; ifs = tt; loops = tt };
        spells = λ behind left.
            begins (IsWord (codes "block")) (IsBlock names made.0 ▹ behind) p.rest some form
            (begins (IsBlock names made.0) behind (drop 1 p.rest) more (is_word.0, get_of_more names.blocks p.counts.blocks acc.blocks text stands.block_count taken) left);
      })

  module _ (level : length names.counts ≡ length names.values) where
    block_read : (acc : Naming) (p : Point) (x : block.Block × Point) → Stands names total acc p → is_word (codes "block") (here p) ≡ true → block_at names (next p) ≡ Ok x → Read names total acc p x.1 (block_items x.0) (SpellsBlock names x.0)
    unfolding block_at
    block_read acc p x stands test e =
        let a = bind_ok (block_defined_at names (next p)) _ x e in
        let b = bind_ok (mark_at 123 a.0.1) _ x a.2 in
        let c = bind_ok (phis_at names (length b.0.rest) b.0) _ x b.2 in
        let d = bind_ok (instrs_at names (length c.0.1.rest) c.0.1) _ x c.2 in
        let f = bind_ok (jump_at d.0.1) _ x d.2 in
        let g = bind_ok (mark_at 125 f.0.1) _ x f.2 in
        let plain_end = plain_mark 125 f.0.1 (λ e. omega (arith, e)) (mark_ok 125 f.0.1 g.0 g.1) in
        let jumps = map JumpItem (option_to_list f.0.0) in
        let made : block.Block × Point = (record { id = a.0.0; phis = c.0.0; instrs = d.0.0; jump = f.0.0 }, g.0) in
        let id_part : Part = λ behind. IsWord (codes "block") ▹ IsBlock names a.0.0 ▹ behind in
        let phi_part : Part = λ behind. Each (SpellsPhi names) c.0.0 behind in
        let instr_part : Part = λ behind. Each (SpellsInstr names) d.0.0 behind in
        let jump_part : Part = SpellsJump names f.0.0 in
        let open_part : Part = λ behind. id_part (IsMark 123 ▹ behind) in
        let head = block_head acc p a.0 b.0 stands test a.1 b.1 in
        let to_phis = Read-then names total acc p a.0.1 b.0 (BlockHead a.0.0 ∷ []) [] id_part (One (IsMark 123)) head (Read-took names total head.new a.0.1 b.0 (One (IsMark 123)) head.stands (mark_took names total 123 a.0.1 b.0 b.1)) in
        let to_instrs = Read-then names total acc p b.0 c.0.1 (BlockHead a.0.0 ∷ []) (map PhiItem c.0.0) open_part phi_part to_phis (phis_read names total (length b.0.rest) to_phis.new b.0 c.0 to_phis.stands c.1) in
        let instrs = instrs_read names total level (length c.0.1.rest) to_instrs.new c.0.1 d.0 to_instrs.stands (jump_plain d.0.1 f.0 plain_end f.1) d.1 in
        let to_jump = Read-then names total acc p c.0.1 d.0.1 (BlockHead a.0.0 ∷ map PhiItem c.0.0) (map InstrItem d.0.0) (λ behind. open_part (phi_part behind)) instr_part to_instrs instrs in
        let jump = jump_read to_jump.new d.0.1 f.0 to_jump.stands f.1 in
        let to_close = Read-then names total acc p d.0.1 f.0.1 (BlockHead a.0.0 ∷ map PhiItem c.0.0 ++ map InstrItem d.0.0) jumps (λ behind. open_part (phi_part (instr_part behind))) jump_part to_jump jump in
        let close = Read-took names total to_close.new f.0.1 g.0 (One (IsMark 125)) to_close.stands (mark_took names total 125 f.0.1 g.0 g.1) in
        let all = BlockHead a.0.0 ∷ map PhiItem c.0.0 ++ map InstrItem d.0.0 ++ jumps in
        let whole = Read-then names total acc p f.0.1 g.0 all [] (λ behind. open_part (phi_part (instr_part (jump_part behind)))) (One (IsMark 125)) to_close close in
        subst (λ (y : block.Block × Point). Read names total acc p y.1 (block_items y.0) (SpellsBlock names y.0)) {x = made} (ok_is made x g.2)
        (Read-items names total acc p g.0 (all ++ []) all (SpellsBlock names made.0) (append-nil all) whole)

    -- ---- lists of nodes

    -- what is left of a list: its nodes and its closing brace
    abbrev pub RestOf : Nodes → Part
    RestOf nodes behind = SpellsNodes names nodes (IsMark 125 ▹ behind)

    abbrev pub ListOf : Nodes → Part
    ListOf nodes behind = IsMark 123 ▹ RestOf nodes behind

    -- a reader of inner lists, of so many lists in one another
    pub record ReadsInner (deepest : ℕ) (inner : Point → Result (Nodes × Point) TextFault) : Type 1 where
      pub list : (acc : Naming) (p : Point) (x : Nodes × Point) → Stands names total acc p → inner p ≡ Ok x → Read names total acc p x.1 (items x.0) (ListOf x.0)
      pub brace : (p : Point) (x : Nodes × Point) → inner p ≡ Ok x → is_mark 123 (here p) ≡ true
      pub few : (p : Point) (x : Nodes × Point) → inner p ≡ Ok x → depth x.0 ≤ deepest

    -- one chain after another is spelled one after another
    SpellsNodes-then : (first second : Nodes) (behind : Behind) → SpellsNodes names (chained first second) behind ≡ SpellsNodes names first (SpellsNodes names second behind)
    SpellsNodes-then Nil second behind = refl
    SpellsNodes-then (BlockThen b rest) second behind = ap (SpellsBlock names b) (SpellsNodes-then rest second behind)
    SpellsNodes-then (IfThen id cond yes_list no_list rest) second behind =
        ap (λ (others : Behind). IsWord (codes "if") ▹ IsValue names cond ▹ ListOf yes_list (IsWord (codes "else") ▹ ListOf no_list others)) (SpellsNodes-then rest second behind)
    SpellsNodes-then (LoopThen id body rest) second behind = ap (λ (others : Behind). IsWord (codes "loop") ▹ ListOf body others) (SpellsNodes-then rest second behind)

    depth-then : (first second : Nodes) → depth (chained first second) ≤ max (depth first) (depth second)
    depth-then Nil second = omega arith
    depth-then (BlockThen b rest) second = depth-then rest second
    depth-then (IfThen id cond yes_list no_list rest) second = omega (arith, depth-then rest second)
    depth-then (LoopThen id body rest) second = omega (arith, depth-then rest second)

    module _ (deepest : ℕ) (inner : Point → Result (Nodes × Point) TextFault) (lists : ReadsInner deepest inner) where
      abbrev AreNodes : Naming → Point → Nodes × Point → Type 1
      AreNodes acc p x = Read names total acc p x.1 (items x.0) (SpellsNodes names x.0)

      if_read : (acc : Naming) (p : Point) (x : Nodes × Point) → Stands names total acc p → is_word (codes "if") (here p) ≡ true → if_at inner names p ≡ Ok x → AreNodes acc p x
      unfolding if_at
      if_read acc p x stands test e =
          let a = bind_ok (value_used_at names (if_begun p)) _ x e in
          let b = bind_ok (inner a.0.1) _ x a.2 in
          let c = bind_ok (word_at (codes "else") b.0.1) _ x b.2 in
          let d = bind_ok (inner c.0) _ x c.2 in
          let id : IfId = record { 0 = p.counts.ifs } in
          let counted = record p.counts { ifs = p.counts.ifs + 1 } in
          let plain = plain_mark 123 a.0.1 (λ e. omega (arith, e)) (lists.brace a.0.1 b.0 b.1) in
          let head = headed_read names total acc p a.0.1 counted (IfHead id a.0.0) (codes "if") (One (IsValue names a.0.0)) refl refl
          (record { values = tt; blocks = tt; effects = tt; ifs = (refl, tt); loops = tt })
          (counts_same counted (after p.counts (IfHead id a.0.0 ∷ [])) (plus_zero p.counts.values) (plus_zero p.counts.blocks) (plus_zero p.counts.effects) refl (plus_zero p.counts.loops))
          refl stands refl test (λ begun. value_took names total (if_begun p) a.0 begun.known plain a.1) in
          let head_part : Part = λ behind. IsWord (codes "if") ▹ IsValue names a.0.0 ▹ behind in
          let with_first = Read-then names total acc p a.0.1 b.0.1 (IfHead id a.0.0 ∷ []) (items b.0.0) head_part (ListOf b.0.0) head (lists.list head.new a.0.1 b.0 head.stands b.1) in
          let between = Read-took names total with_first.new b.0.1 c.0 (One (IsWord (codes "else"))) with_first.stands (word_took names total (codes "else") b.0.1 c.0 refl with_first.stands.known c.1) in
          let first_items = IfHead id a.0.0 ∷ items b.0.0 in
          let with_else = Read-items names total acc p c.0 (first_items ++ []) first_items (λ behind. head_part (ListOf b.0.0 (IsWord (codes "else") ▹ behind))) (append-nil first_items)
          (Read-then names total acc p b.0.1 c.0 first_items [] (λ behind. head_part (ListOf b.0.0 behind)) (One (IsWord (codes "else"))) with_first between) in
          let whole = Read-then names total acc p c.0 d.0.1 first_items (items d.0.0) (λ behind. head_part (ListOf b.0.0 (IsWord (codes "else") ▹ behind))) (ListOf d.0.0) with_else (lists.list with_else.new c.0 d.0 with_else.stands d.1) in
          let made : Nodes × Point = (IfThen id a.0.0 b.0.0 d.0.0 Nil, d.0.1) in
          let all = first_items ++ items d.0.0 in
          subst (AreNodes acc p) {x = made} (ok_is made x d.2) (Read-items names total acc p d.0.1 all (all ++ []) (SpellsNodes names made.0) (sym (append-nil all)) whole)

      loop_read : (acc : Naming) (p : Point) (x : Nodes × Point) → Stands names total acc p → is_word (codes "loop") (here p) ≡ true → loop_at inner p ≡ Ok x → AreNodes acc p x
      unfolding loop_at
      loop_read acc p x stands test e =
          let a = bind_ok (inner (loop_begun p)) _ x e in
          let id : LoopId = record { 0 = p.counts.loops } in
          let counted = record p.counts { loops = p.counts.loops + 1 } in
          let head = headed_read names total acc p (loop_begun p) counted (LoopHead id) (codes "loop") (λ behind. behind) refl refl
          (record { values = tt; blocks = tt; effects = tt; ifs = tt; loops = (refl, tt) })
          (counts_same counted (after p.counts (LoopHead id ∷ [])) (plus_zero p.counts.values) (plus_zero p.counts.blocks) (plus_zero p.counts.effects) (plus_zero p.counts.ifs) refl)
          refl stands refl test (λ begun. Took-none names total (loop_begun p)) in
          let whole = Read-then names total acc p (loop_begun p) a.0.1 (LoopHead id ∷ []) (items a.0.0) (One (IsWord (codes "loop"))) (ListOf a.0.0) head (lists.list head.new (loop_begun p) a.0 head.stands a.1) in
          let made : Nodes × Point = (LoopThen id a.0.0 Nil, a.0.1) in
          let all = LoopHead id ∷ items a.0.0 in
          subst (AreNodes acc p) {x = made} (ok_is made x a.2) (Read-items names total acc p a.0.1 all (all ++ []) (SpellsNodes names made.0) (sym (append-nil all)) whole)

      node_read : (acc : Naming) (p : Point) (x : Nodes × Point) → Stands names total acc p → node_at inner names p ≡ Ok x → AreNodes acc p x
      unfolding node_at
      node_read acc p x stands e =
          elim (chosen (is_word (codes "block") (here p)) _ _ (Ok x) e) [
            | inl way ↦
                let a = bind_ok (block_at names (next p)) _ x way.1 in
                let b = block_read acc p a.0 stands way.0 a.1 in
                let made : Nodes × Point = (BlockThen a.0.0 Nil, a.0.1) in
                subst (AreNodes acc p) {x = made} (ok_is made x a.2) (Read-items names total acc p a.0.1 (block_items a.0.0) (block_items a.0.0 ++ []) (SpellsNodes names made.0) (sym (append-nil (block_items a.0.0))) b)
            | inr other ↦ elim (chosen (is_word (codes "if") (here p)) _ _ (Ok x) other.1) [
              | inl way ↦ if_read acc p x stands way.0 way.1
              | inr other ↦ let loop = held (is_word (codes "loop") (here p)) (Expected (here p).place) (loop_at inner p) x other.1 in loop_read acc p x stands loop.0 loop.1
            ]
          ]

      nodes_read : (fuel : ℕ) (acc : Naming) (p : Point) (x : Nodes × Point) → Stands names total acc p → nodes_at inner names fuel p ≡ Ok x → Read names total acc p x.1 (items x.0) (RestOf x.0)
      unfolding nodes_at
      nodes_read zero acc p x stands e = absurd cc
      nodes_read (suc fuel) acc p x stands e =
          let Whole : Nodes × Point → Type 1 = λ y. Read names total acc p y.1 (items y.0) (RestOf y.0) in
          elim (chosen (is_mark 125 (here p)) _ _ (Ok x) e) [
            | inl way ↦ subst Whole {x = (Nil, next p)} (ok_is (Nil, next p) x way.1) (Read-took names total acc p (next p) (One (IsMark 125)) stands (tested_mark names total 125 p way.0))
            | inr way ↦
                let a = bind_ok (node_at inner names p) _ x way.1 in
                let b = bind_ok (nodes_at inner names fuel a.0.1) _ x a.2 in
                let one = node_read acc p a.0 stands a.1 in
                let others = nodes_read fuel one.new a.0.1 b.0 one.stands b.1 in
                let whole = Read-then names total acc p a.0.1 b.0.1 (items a.0.0) (items b.0.0) (SpellsNodes names a.0.0) (RestOf b.0.0) one others in
                let made : Nodes × Point = (chained a.0.0 b.0.0, b.0.1) in
                subst Whole {x = made} (ok_is made x b.2) (chained_read acc p b.0.1 a.0.0 b.0.0 whole)
          ]
        where
          chained_read : (acc : Naming) (p q : Point) (first second : Nodes) → Read names total acc p q (items first ++ items second) (λ behind. SpellsNodes names first (RestOf second behind))
              → Read names total acc p q (items (chained first second)) (RestOf (chained first second))
          chained_read acc p q first second read = record {
            new = read.new;
            stands = read.stands;
            counts = read.counts ∙ ap (after p.counts) (sym (items-then first second));
            kinds = read.kinds ∙ ap (λ l. acc.counts ++ counts_in l) (sym (items-then first second));
            numbers = subst (Numbers p.counts) (sym (items-then first second)) read.numbers;
            spells = λ behind left. subst (λ (others : Behind). others (lexemes_of p.rest)) (sym (SpellsNodes-then first second (IsMark 125 ▹ behind))) (read.spells behind left);
          }

      -- ---- depth

      node_few : (p : Point) (x : Nodes × Point) → node_at inner names p ≡ Ok x → depth x.0 ≤ suc deepest
      unfolding node_at if_at loop_at
      node_few p x e =
          elim (chosen (is_word (codes "block") (here p)) _ _ (Ok x) e) [
            | inl way ↦
                let a = bind_ok (block_at names (next p)) _ x way.1 in
                let made : Nodes × Point = (BlockThen a.0.0 Nil, a.0.1) in
                subst (λ (y : Nodes × Point). depth y.0 ≤ suc deepest) {x = made} (ok_is made x a.2) (omega arith)
            | inr other ↦ elim (chosen (is_word (codes "if") (here p)) _ _ (Ok x) other.1) [
              | inl way ↦
                  let a = bind_ok (value_used_at names (if_begun p)) _ x way.1 in
                  let b = bind_ok (inner a.0.1) _ x a.2 in
                  let c = bind_ok (word_at (codes "else") b.0.1) _ x b.2 in
                  let d = bind_ok (inner c.0) _ x c.2 in
                  let made : Nodes × Point = (IfThen (record { 0 = p.counts.ifs }) a.0.0 b.0.0 d.0.0 Nil, d.0.1) in
                  subst (λ (y : Nodes × Point). depth y.0 ≤ suc deepest) {x = made} (ok_is made x d.2) (omega (arith, lists.few a.0.1 b.0 b.1, lists.few c.0 d.0 d.1))
              | inr other ↦
                  let loop = held (is_word (codes "loop") (here p)) (Expected (here p).place) (loop_at inner p) x other.1 in
                  let a = bind_ok (inner (loop_begun p)) _ x loop.1 in
                  let made : Nodes × Point = (LoopThen (record { 0 = p.counts.loops }) a.0.0 Nil, a.0.1) in
                  subst (λ (y : Nodes × Point). depth y.0 ≤ suc deepest) {x = made} (ok_is made x a.2) (omega (arith, lists.few (loop_begun p) a.0 a.1))
            ]
          ]

      nodes_few : (fuel : ℕ) (p : Point) (x : Nodes × Point) → nodes_at inner names fuel p ≡ Ok x → depth x.0 ≤ suc deepest
      unfolding nodes_at
      nodes_few zero p x e = absurd cc
      nodes_few (suc fuel) p x e =
          elim (chosen (is_mark 125 (here p)) _ _ (Ok x) e) [
            | inl way ↦ subst (λ (y : Nodes × Point). depth y.0 ≤ suc deepest) {x = (Nil, next p)} (ok_is (Nil, next p) x way.1) (omega arith)
            | inr way ↦
                let a = bind_ok (node_at inner names p) _ x way.1 in
                let b = bind_ok (nodes_at inner names fuel a.0.1) _ x a.2 in
                let made : Nodes × Point = (chained a.0.0 b.0.0, b.0.1) in
                subst (λ (y : Nodes × Point). depth y.0 ≤ suc deepest) {x = made} (ok_is made x b.2) (omega (arith, depth-then a.0.0 b.0.0, node_few p a.0 a.1, nodes_few fuel a.0.1 b.0 b.1))
          ]

    list_fails : (p : Point) (x : Nodes × Point) → list_at names zero p ≡ Ok x → ⊥
    unfolding list_at
    list_fails p x e = elim (chosen (is_mark 123 (here p)) _ _ (Ok x) e) [ inl way ↦ let fails = way.1 in cc | inr way ↦ let fails = way.1 in cc ]

    list_brace : (deepest : ℕ) (p : Point) (x : Nodes × Point) → list_at names deepest p ≡ Ok x → is_mark 123 (here p) ≡ true
    unfolding list_at
    list_brace zero p x e = absurd (list_fails p x e)
    list_brace (suc deepest) p x e = let a = bind_ok (mark_at 123 p) _ x e in mark_ok 123 p a.0 a.1

    pub lists_read : (deepest : ℕ) → ReadsInner deepest (list_at names deepest)
    unfolding list_at
    lists_read zero = record { list = λ acc p x stands e. absurd (list_fails p x e); brace = list_brace zero; few = λ p x e. absurd (list_fails p x e) }
    lists_read (suc deepest) = record {
      list = λ acc p x stands e.
          let a = bind_ok (mark_at 123 p) _ x e in
          let brace = Read-took names total acc p a.0 (One (IsMark 123)) stands (mark_took names total 123 p a.0 a.1) in
          Read-then names total acc p a.0 x.1 [] (items x.0) (One (IsMark 123)) (RestOf x.0) brace (nodes_read deepest (list_at names deepest) (lists_read deepest) (length a.0.rest) brace.new a.0 x brace.stands a.2);
      brace = list_brace (suc deepest);
      few = λ p x e. let a = bind_ok (mark_at 123 p) _ x e in nodes_few deepest (list_at names deepest) (lists_read deepest) (length a.0.rest) a.0 x a.2;
    }
