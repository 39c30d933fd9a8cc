-- Blocks and lists of nodes that are spelled, and numbered in order, are read, to any depth.
use Rattle.std.proofs.Common.{◌≡◌, ℕ, zero, suc, ◌+◌, ◌<◌, ◌≤◌, false, List, [], ◌∷◌, ◌++◌, map, take, length, drop, Option, Some, None, is_some, Result, Ok, codes, refl, sym, ap, ◌∙◌, arith, append_assoc, append-nil, option_to_list}
use Rattle.std.specs.Prelude.{slice_get}
use Rattle.std.specs.Str.{bytes_eq}
use Rattle.nir_ir.specs.declared.ids.BlockId.{BlockId}
use Rattle.nir_ir.specs.declared.ids.IfId.{IfId}
use Rattle.nir_ir.specs.declared.ids.LoopId.{LoopId}
use Rattle.nir_ir.specs.declared.ids.ValueId.{ValueId}
use Rattle.nir_ir.specs.declared.node.Block as block
use Rattle.nir_ir.specs.declared.node.Jump.{Jump}
use Rattle.nir_ir.specs.Nodes.{Nodes, Nil, BlockThen, IfThen, LoopThen, then as chained}
use Rattle.nir_ir.specs.Items.{Item, BlockHead, PhiItem, InstrItem, JumpItem, IfHead, LoopHead, block_items, items}
use Rattle.nir_lex.specs.Kinds as token_kind
use Rattle.nir_text.specs.declared.counts.Counts as counts
use Rattle.nir_text.specs.declared.fault.TextFault.{TextFault}
use Rattle.nir_text.specs.Signs.{Sign, word_of, is_mark, is_word, first_of}
use Rattle.nir_text.specs.Naming.{Naming, place_of, is_among_first}
use Rattle.nir_text.specs.Reading.{Point, here, next, ◌>>=◌, block_begun, mark_at, word_at, wanted, value_used_at, block_defined_at}
use Rattle.nir_text.specs.Instrs.{instrs_at, phis_at, jump_at}
use Rattle.nir_text.specs.Tree.{block_at, if_begun, loop_begun, if_at, loop_at, node_at, nodes_at, list_at}
use Rattle.nir_spelling.specs.Lexemes.{lexemes_of, Behind, Part, ◌▹◌, IsWord, IsMark, Each}
use Rattle.nir_spelling.specs.Spelling.{IsValue, IsBlock, SpellsInstr, SpellsPhi, SpellsJump, SpellsBlock, SpellsNodes}
use Rattle.nir_spelling.specs.Resolving.{depth}
use Rattle.nir_spelling.proofs.Names.{bytes_eq-refl, get-place_of, no_place, take_one_more}
use Rattle.nir_spelling.proofs.Passes.{Passes, Passes-refl, word_known}
use Rattle.nir_text.specs.ReadingLaws.{ok_is, bind_ok}
use Rattle.nir_spelling.proofs.Tokens.{kind_mark, kind_word_of, form_word, form_other_word, length-drop1, begun}
use Rattle.nir_spelling.proofs.Took.{no_word}
use Rattle.nir_spelling.proofs.Grows.{Numbers, Numbers-split, after, after-none, after-append, counts_same, counts_in, counts_in-append, one_block, Scans-then, Scans-pass, block_scans}
use Rattle.nir_spelling.proofs.ReadBlocks.{plus_zero}
use Rattle.nir_spelling.proofs.Gave.{plain_follows, follows_mark, follows_value, follows_block, cond_true, cond_false, bind_reads, wanted_reads, IsWhole, Gave, gave_mark, gave_word, gave_value}
use Rattle.nir_spelling.proofs.GaveItems.{not_before, Noted, Given, Given-gave, Numbers-behind, given_head}
use Rattle.nir_spelling.proofs.GaveBlocks.{instrs_stop}
use Rattle.nir_spelling.proofs.GaveLists.{instrs_given, phis_given, jump_gave, jump_stops}

module _ (names : Naming) (total : counts.Counts) where
  -- a part that takes a token at least
  abbrev pub GivenSome : {X : Type 0} (acc : Naming) (read : Result (X × Point) TextFault) (x : X) (p : Point) (items : List Item) (behind : Behind) → Type 0
  GivenSome acc read x p items behind = (given : Given names total acc read x p items behind) × (length given.at.rest < length p.rest)

  pub some_then : {X Y Z : Type 0} (acc : Naming) (r : Result (X × Point) TextFault) (x : X) (p : Point) (xs ys : List Item) (middle behind : Behind) (first : GivenSome acc r x p xs middle)
      (s : Result (Y × Point) TextFault) (y : Y) (second : Given names total first.0.new s y first.0.at ys behind) (t : Result (Z × Point) TextFault) (z : Z) → t ≡ Ok (z, second.at) → GivenSome acc t z p (xs ++ ys) behind
  some_then acc r x p xs ys middle behind first s y second t z reads = (
    record {
      at = second.at;
      new = second.new;
      scans = Scans-then names total acc first.0.new second.new p.rest first.0.at.rest second.at.rest first.0.scans second.scans;
      noted = second.noted;
      counts = second.counts ∙ ap (λ c. after c ys) first.0.counts ∙ after-append p.counts xs ys;
      kinds = second.kinds ∙ ap (λ l. l ++ counts_in ys) first.0.kinds ∙ append_assoc acc.counts (counts_in xs) (counts_in ys) ∙ ap (λ l. acc.counts ++ l) (sym (counts_in-append xs ys));
      reads = reads;
      left = second.left;
    },
    omega (arith, first.1, second.scans.shorter),
  )

  -- another reader of the same part
  pub some_reads : {X Z : Type 0} (acc : Naming) (r : Result (X × Point) TextFault) (x : X) (p : Point) (xs : List Item) (behind : Behind) (first : GivenSome acc r x p xs behind)
      → (t : Result (Z × Point) TextFault) (z : Z) → t ≡ Ok (z, first.0.at) → GivenSome acc t z p xs behind
  some_reads acc r x p xs behind first t z reads = (
    record {
      at = first.0.at;
      new = first.0.new;
      scans = first.0.scans;
      noted = first.0.noted;
      counts = first.0.counts;
      kinds = first.0.kinds;
      reads = reads;
      left = first.0.left;
    },
    first.1,
  )

  -- a mark or a word behind a part
  pub some_one : {X Z : Type 0} (acc : Naming) (r : Result (X × Point) TextFault) (x : X) (p : Point) (xs : List Item) (middle behind : Behind) (first : GivenSome acc r x p xs middle)
      → Passes names total first.0.at (next first.0.at) → behind (lexemes_of (next first.0.at).rest) → (t : Result (Z × Point) TextFault) (z : Z) → t ≡ Ok (z, next first.0.at) → GivenSome acc t z p xs behind
  some_one acc r x p xs middle behind first passes left t z reads = (
    record {
      at = next first.0.at;
      new = first.0.new;
      scans = Scans-then names total acc first.0.new first.0.new p.rest first.0.at.rest (next first.0.at).rest first.0.scans (Scans-pass names total first.0.new first.0.at (next first.0.at) passes);
      noted = first.0.noted;
      counts = first.0.counts;
      kinds = first.0.kinds;
      reads = reads;
      left = left;
    },
    omega (arith, first.1, passes.shorter),
  )

  module _ (is : IsWhole names total) (few : length names.values ≤ 16384) where
    jump_given : (acc : Naming) (jump : Option Jump) (p : Point) (behind : Behind) → Noted names total acc p.counts → SpellsJump names jump (IsMark 125 ▹ behind) (lexemes_of p.rest) → Given names total acc (jump_at p) jump p (map JumpItem (option_to_list jump)) (IsMark 125 ▹ behind)
    jump_given acc None p behind noted h = Given-gave names total acc (jump_at p) None p (IsMark 125 ▹ behind) noted (jump_gave names total is few None p behind h)
    jump_given acc (Some jump) p behind noted h =
        let given = Given-gave names total acc (jump_at p) (Some jump) p (IsMark 125 ▹ behind) noted (jump_gave names total is few (Some jump) p behind h) in
        record { at = given.at; new = given.new; scans = given.scans; noted = given.noted; counts = given.counts; kinds = given.kinds; reads = given.reads; left = given.left }

    -- ---- blocks

    -- the word `block`, a word and the brace
    abbrev head_rest : Point → Result (BlockId × Point) TextFault
    head_rest p = do
      id ← block_defined_at names (next p)
      begun ← mark_at 123 id.1
      Ok (id.0, begun)

    block_head : (acc : Naming) (id : BlockId) (p : Point) (behind : Behind) → Noted names total acc p.counts → id.0 ≡ p.counts.blocks → (IsWord (codes "block") ▹ IsBlock names id ▹ IsMark 123 ▹ behind) (lexemes_of p.rest)
        → (head : GivenSome acc (head_rest p) id p (BlockHead id ∷ []) behind) × (block_defined_at names (next p) ≡ Ok (id, block_begun (next p))) × (mark_at 123 (block_begun (next p)) ≡ Ok head.0.at)
    unfolding block_defined_at
    block_head acc id p behind noted number h =
        let word = begun (IsWord (codes "block")) (IsBlock names id ▹ IsMark 123 ▹ behind) p.rest h in
        let name = begun (IsBlock names id) (IsMark 123 ▹ behind) (drop 1 p.rest) word.left in
        let brace = begun (IsMark 123) behind (drop 1 (drop 1 p.rest)) name.left in
        let q = block_begun (next p) in
        let text = (here (next p)).text in
        let mark = gave_mark names total 123 q behind name.left in
        let place : place_of text names.blocks ≡ Some id.0 = get-place_of text names.blocks id.0 is.distinct_words name.is.1 in
        let once : is_among_first p.counts.blocks (place_of text names.blocks) ≡ false = ap (is_among_first p.counts.blocks) place ∙ not_before id.0 p.counts.blocks number in
        let fresh : is_some (place_of text acc.blocks) ≡ false = ap (λ l. is_some (place_of text l)) noted.blocks ∙ no_place text names.blocks p.counts.blocks once in
        let get : slice_get names.blocks p.counts.blocks ≡ Some text = ap (slice_get names.blocks) (sym number) ∙ name.is.1 in
        let one : suc p.counts.blocks ≡ p.counts.blocks + 1 = omega arith in
        let scans = block_scans names total acc p word.some word.is.0 (ap (λ t. bytes_eq t (codes "block")) word.is.1 ∙ bytes_eq-refl (codes "block"))
        (word_known names total p word.is.0 (follows_block names id (IsMark 123 ▹ behind) (drop 1 p.rest) word.left).colon) name.some name.is.0 (no_word (here (next (next p))) 123 brace.is)
        (word_known names total (next p) name.is.0 (follows_mark 123 behind refl refl refl (drop 1 (drop 1 p.rest)) name.left).colon) fresh in
        let defines : block_defined_at names (next p) ≡ Ok (id, q) =
        bind_reads (wanted (word_of (here (next p))) (next p)) _ (text, next (next p)) (wanted_reads (word_of (here (next p))) (next p) text (kind_word_of (here (next p)) text name.is.0 refl))
        ∙ cond_false (is_among_first p.counts.blocks (place_of text names.blocks)) _ _ once
        ∙ ap (λ n. Ok (record { 0 = n }, q)) (sym number) in
        let new = one_block acc text in (
          (
            record {
              at = next q;
              new = new;
              scans = Scans-then names total acc new new p.rest (next (next p)).rest (next q).rest scans (Scans-pass names total new q (next q) mark.passes);
              noted = record {
                values = noted.values;
                blocks = ap (λ l. l ++ text ∷ []) noted.blocks ∙ sym (take_one_more names.blocks p.counts.blocks text get) ∙ ap (λ n. take n names.blocks) one;
              };
              counts = counts_same (record p.counts { blocks = p.counts.blocks + 1 }) (after p.counts (BlockHead id ∷ [])) (plus_zero p.counts.values) refl (plus_zero p.counts.effects) (plus_zero p.counts.ifs) (plus_zero p.counts.loops);
              kinds = sym (append-nil acc.counts);
              reads = bind_reads (block_defined_at names (next p)) _ (id, q) defines ∙ bind_reads (mark_at 123 q) _ (next q) mark.reads;
              left = mark.left;
            },
            omega (arith, length-drop1 p.rest word.some, length-drop1 (drop 1 p.rest) name.some, mark.passes.shorter),
          ),
          defines,
          mark.reads,
        )

    -- the parts of a block, one after the other
    block_reads : (b : block.Block) (p first second third fourth fifth last : Point) → block_defined_at names p ≡ Ok (b.id, first) → mark_at 123 first ≡ Ok second → phis_at names (length second.rest) second ≡ Ok (b.phis, third)
        → instrs_at names (length third.rest) third ≡ Ok (b.instrs, fourth) → jump_at fourth ≡ Ok (b.jump, fifth) → mark_at 125 fifth ≡ Ok last → block_at names p ≡ Ok (b, last)
    unfolding block_at
    block_reads b p first second third fourth fifth last id open_mark phis instrs jump close =
        bind_reads (block_defined_at names p) _ (b.id, first) id
        ∙ bind_reads (mark_at 123 first) _ second open_mark
        ∙ bind_reads (phis_at names (length second.rest) second) _ (b.phis, third) phis
        ∙ bind_reads (instrs_at names (length third.rest) third) _ (b.instrs, fourth) instrs
        ∙ bind_reads (jump_at fourth) _ (b.jump, fifth) jump
        ∙ bind_reads (mark_at 125 fifth) _ last close

    module _ (acc : Naming) (b : block.Block) (p : Point) (behind : Behind) where
      abbrev jumps : List Item
      jumps = map JumpItem (option_to_list b.jump)

      abbrev after_instrs : Behind
      after_instrs = SpellsJump names b.jump (IsMark 125 ▹ behind)

      abbrev after_phis : Behind
      after_phis = Each (SpellsInstr names) b.instrs after_instrs

      abbrev after_head : Behind
      after_head = Each (SpellsPhi names) b.phis after_phis

      from_close : (xs : List Item) (first second third fourth : Point) → block_defined_at names (next p) ≡ Ok (b.id, first) → mark_at 123 first ≡ Ok second → phis_at names (length second.rest) second ≡ Ok (b.phis, third)
          → instrs_at names (length third.rest) third ≡ Ok (b.instrs, fourth) → GivenSome acc (jump_at fourth) b.jump p xs (IsMark 125 ▹ behind) → GivenSome acc (block_at names (next p)) b p xs behind
      from_close xs first second third fourth id open_mark phis instrs g =
          let close = gave_mark names total 125 g.0.at behind g.0.left in
          some_one acc (jump_at fourth) b.jump p xs (IsMark 125 ▹ behind) behind g close.passes close.left (block_at names (next p)) b
          (block_reads b (next p) first second third fourth g.0.at (next g.0.at) id open_mark phis instrs g.0.reads close.reads)

      from_jump : (xs : List Item) (first second third : Point) → block_defined_at names (next p) ≡ Ok (b.id, first) → mark_at 123 first ≡ Ok second → phis_at names (length second.rest) second ≡ Ok (b.phis, third)
          → GivenSome acc (instrs_at names (length third.rest) third) b.instrs p xs after_instrs → GivenSome acc (block_at names (next p)) b p (xs ++ jumps) behind
      from_jump xs first second third id open_mark phis g =
          let jump = jump_given g.0.new b.jump g.0.at behind g.0.noted g.0.left in
          let whole = some_then acc (instrs_at names (length third.rest) third) b.instrs p xs jumps after_instrs (IsMark 125 ▹ behind) g (jump_at g.0.at) b.jump jump (jump_at g.0.at) b.jump jump.reads in
          from_close (xs ++ jumps) first second third g.0.at id open_mark phis g.0.reads whole

      from_instrs : (xs : List Item) (first second : Point) → Numbers p.counts (xs ++ map InstrItem b.instrs) → block_defined_at names (next p) ≡ Ok (b.id, first) → mark_at 123 first ≡ Ok second
          → GivenSome acc (phis_at names (length second.rest) second) b.phis p xs after_phis → GivenSome acc (block_at names (next p)) b p (xs ++ map InstrItem b.instrs ++ jumps) behind
      from_instrs xs first second numbers id open_mark g =
          let stops = jump_stops names total is few b.jump behind in
          let read = phis_at names (length second.rest) second in
          let instrs = instrs_given names total is few (length g.0.at.rest) g.0.new b.instrs g.0.at after_instrs (omega arith) g.0.noted
          (Numbers-behind names total acc read b.phis p xs (map InstrItem b.instrs) after_phis g.0 numbers) stops.2 stops.0 g.0.left in
          let whole = some_then acc read b.phis p xs (map InstrItem b.instrs) after_phis after_instrs g (instrs_at names (length g.0.at.rest) g.0.at) b.instrs instrs (instrs_at names (length g.0.at.rest) g.0.at) b.instrs instrs.reads in
          from_jump (xs ++ map InstrItem b.instrs) first second g.0.at id open_mark g.0.reads whole

      from_phis : (first : Point) → Numbers p.counts (BlockHead b.id ∷ map PhiItem b.phis ++ map InstrItem b.instrs) → block_defined_at names (next p) ≡ Ok (b.id, first)
          → (g : GivenSome acc (head_rest p) b.id p (BlockHead b.id ∷ []) after_head) → mark_at 123 first ≡ Ok g.0.at → GivenSome acc (block_at names (next p)) b p (block_items b) behind
      from_phis first numbers id g open_mark =
          let stops = jump_stops names total is few b.jump behind in
          let phi_numbers = (Numbers-split p.counts (BlockHead b.id ∷ map PhiItem b.phis) (map InstrItem b.instrs) numbers).0 in
          let phis = phis_given names total is few (length g.0.at.rest) g.0.new b.phis g.0.at after_phis (omega arith) g.0.noted
          (Numbers-behind names total acc (head_rest p) b.id p (BlockHead b.id ∷ []) (map PhiItem b.phis) after_head g.0 phi_numbers) (instrs_stop names b.instrs after_instrs stops.1) g.0.left in
          let whole = some_then acc (head_rest p) b.id p (BlockHead b.id ∷ []) (map PhiItem b.phis) after_head after_phis g (phis_at names (length g.0.at.rest) g.0.at) b.phis phis (phis_at names (length g.0.at.rest) g.0.at) b.phis phis.reads in
          from_instrs (BlockHead b.id ∷ map PhiItem b.phis) first g.0.at numbers id open_mark whole

      pub block_given : Noted names total acc p.counts → Numbers p.counts (block_items b) → SpellsBlock names b behind (lexemes_of p.rest) → GivenSome acc (block_at names (next p)) b p (block_items b) behind
      block_given noted numbers h =
          let instr_numbers = (Numbers-split p.counts (BlockHead b.id ∷ map PhiItem b.phis ++ map InstrItem b.instrs) jumps numbers).0 in
          let phi_numbers = (Numbers-split p.counts (BlockHead b.id ∷ map PhiItem b.phis) (map InstrItem b.instrs) instr_numbers).0 in
          let head_numbers = (Numbers-split p.counts (BlockHead b.id ∷ []) (map PhiItem b.phis) phi_numbers).0 in
          let head = block_head acc b.id p after_head noted head_numbers.blocks.0 h in
          from_phis (block_begun (next p)) instr_numbers head.1 head.0 head.2

    -- ---- lists of nodes

    abbrev pub RestOf : Nodes → Part
    RestOf nodes behind = SpellsNodes names nodes (IsMark 125 ▹ behind)

    abbrev pub ListOf : Nodes → Part
    ListOf nodes behind = IsMark 123 ▹ RestOf nodes behind

    -- a reader of inner lists, of so many lists in one another
    pub record GivesInner (deepest : ℕ) (inner : Point → Result (Nodes × Point) TextFault) : Type 1 where
      pub list : (acc : Naming) (nodes : Nodes) (p : Point) (behind : Behind) → depth nodes ≤ deepest → Noted names total acc p.counts → Numbers p.counts (items nodes) → ListOf nodes behind (lexemes_of p.rest)
          → GivenSome acc (inner p) nodes p (items nodes) behind

    depth_some : (nodes : Nodes) → 1 ≤ depth nodes
    depth_some Nil = omega arith
    depth_some (BlockThen b rest) = depth_some rest
    depth_some (IfThen id cond first second rest) = omega arith
    depth_some (LoopThen id body rest) = omega arith

    -- a word is no closing brace
    word_no_mark : (word : List ℕ) (behind : Behind) (signs : List Sign) → (IsWord word ▹ behind) (lexemes_of signs) → is_mark 125 (first_of signs) ≡ false
    word_no_mark word behind signs h = let b = begun (IsWord word) behind signs h in ap (token_kind.is_mark 125) b.is.0

    -- reading that only begins
    abbrev begun_read : Point → Result (Unit {0} × Point) TextFault
    begun_read p = Ok (tt, p)

    begun_same : (p q : Point) → begun_read p ≡ Ok (tt, q) → q ≡ p
    begun_same p q e = sym (ap (λ (y : Unit {0} × Point). y.1) (ok_is (tt, p) (tt, q) e))

    -- the word between the lists of an if
    abbrev word_read : Point → Result (Unit {0} × Point) TextFault
    word_read p = do
      word ← word_at (codes "else") p
      Ok (tt, word)

    word_reads : (p : Point) → word_at (codes "else") p ≡ Ok (next p) → word_read p ≡ Ok (tt, next p)
    word_reads p e = bind_reads (word_at (codes "else") p) _ (next p) e

    word_goes : (p q : Point) → word_read p ≡ Ok (tt, q) → word_at (codes "else") p ≡ Ok q
    word_goes p q e = let a = bind_ok (word_at (codes "else") p) _ (tt, q) e in a.1 ∙ ap Ok (ap (λ (y : Unit {0} × Point). y.1) (ok_is (tt, a.0) (tt, q) a.2))

    module _ (deepest : ℕ) (inner : Point → Result (Nodes × Point) TextFault) (lists : GivesInner deepest inner) where
      if_given : (acc : Naming) (id : IfId) (cond : ValueId) (first second : Nodes) (p : Point) (behind : Behind) → depth first ≤ deepest → depth second ≤ deepest → Noted names total acc p.counts
          → Numbers p.counts (IfHead id cond ∷ items first ++ items second)
          → (IsWord (codes "if") ▹ IsValue names cond ▹ ListOf first (IsWord (codes "else") ▹ ListOf second behind)) (lexemes_of p.rest)
          → GivenSome acc (if_at inner names p) (IfThen id cond first second Nil) p (IfHead id cond ∷ items first ++ items second) behind
      unfolding if_at
      if_given acc id cond first second p behind first_few second_few noted numbers h =
          let after_first = IsWord (codes "else") ▹ ListOf second behind in
          let after_cond = ListOf first after_first in
          let counted = record p.counts { ifs = p.counts.ifs + 1 } in
          let word = begun (IsWord (codes "if")) (IsValue names cond ▹ after_cond) p.rest h in
          let first_numbers = (Numbers-split p.counts (IfHead id cond ∷ items first) (items second) numbers).0 in
          let head_numbers = (Numbers-split p.counts (IfHead id cond ∷ []) (items first) first_numbers).0 in
          let value = gave_value names total is cond (if_begun p) after_cond (plain_follows after_cond (follows_mark 123 (RestOf first after_first) refl refl refl)) word.left in
          let head = given_head names total is few acc (value_used_at names (if_begun p)) cond (codes "if") p counted (IfHead id cond) (IsValue names cond ▹ after_cond) after_cond refl (follows_value names cond after_cond) noted refl refl
          (counts_same counted (after p.counts (IfHead id cond ∷ [])) (plus_zero p.counts.values) (plus_zero p.counts.blocks) (plus_zero p.counts.effects) refl (plus_zero p.counts.loops)) refl word value in
          let yes_list = lists.list head.0.new first head.0.at after_first first_few head.0.noted (Numbers-behind names total acc (value_used_at names (if_begun p)) cond p (IfHead id cond ∷ []) (items first) after_cond head.0 first_numbers) head.0.left in
          let with_first = some_then acc (value_used_at names (if_begun p)) cond p (IfHead id cond ∷ []) (items first) after_cond after_first head (inner head.0.at) first yes_list.0 (inner head.0.at) first yes_list.0.reads in
          let between = gave_word names total (codes "else") with_first.0.at (ListOf second behind) refl (follows_mark 123 (RestOf second behind) refl refl refl) with_first.0.left in
          let with_else = some_one acc (inner head.0.at) first p (IfHead id cond ∷ items first) after_first (ListOf second behind) with_first between.passes between.left (word_read with_first.0.at) tt (word_reads with_first.0.at between.reads) in
          let no_list = lists.list with_else.0.new second with_else.0.at behind second_few with_else.0.noted (Numbers-behind names total acc (word_read with_first.0.at) tt p (IfHead id cond ∷ items first) (items second) (ListOf second behind) with_else.0 numbers) with_else.0.left in
          some_then acc (word_read with_first.0.at) tt p (IfHead id cond ∷ items first) (items second) (ListOf second behind) behind with_else (inner with_else.0.at) second no_list.0 (if_at inner names p) (IfThen id cond first second Nil)
          (bind_reads (value_used_at names (if_begun p)) _ (cond, head.0.at) head.0.reads
          ∙ bind_reads (inner head.0.at) _ (first, with_first.0.at) with_first.0.reads
          ∙ bind_reads (word_at (codes "else") with_first.0.at) _ with_else.0.at (word_goes with_first.0.at with_else.0.at with_else.0.reads)
          ∙ bind_reads (inner with_else.0.at) _ (second, no_list.0.at) no_list.0.reads
          ∙ ap (λ n. Ok (IfThen (record { 0 = n }) cond first second Nil, no_list.0.at)) (sym head_numbers.ifs.0))

      loop_given : (acc : Naming) (id : LoopId) (body : Nodes) (p : Point) (behind : Behind) → depth body ≤ deepest → Noted names total acc p.counts → Numbers p.counts (LoopHead id ∷ items body)
          → (IsWord (codes "loop") ▹ ListOf body behind) (lexemes_of p.rest) → GivenSome acc (loop_at inner p) (LoopThen id body Nil) p (LoopHead id ∷ items body) behind
      unfolding loop_at
      loop_given acc id body p behind body_few noted numbers h =
          let counted = record p.counts { loops = p.counts.loops + 1 } in
          let word = begun (IsWord (codes "loop")) (ListOf body behind) p.rest h in
          let head_numbers = (Numbers-split p.counts (LoopHead id ∷ []) (items body) numbers).0 in
          let begin : Gave names total (begun_read (loop_begun p)) tt (loop_begun p) (ListOf body behind) = record { at = loop_begun p; passes = Passes-refl names total (loop_begun p); reads = refl; left = word.left } in
          let head = given_head names total is few acc (begun_read (loop_begun p)) tt (codes "loop") p counted (LoopHead id) (ListOf body behind) (ListOf body behind) refl (follows_mark 123 (RestOf body behind) refl refl refl) noted refl refl
          (counts_same counted (after p.counts (LoopHead id ∷ [])) (plus_zero p.counts.values) (plus_zero p.counts.blocks) (plus_zero p.counts.effects) (plus_zero p.counts.ifs) refl) refl word begin in
          let list = lists.list head.0.new body head.0.at behind body_few head.0.noted (Numbers-behind names total acc (begun_read (loop_begun p)) tt p (LoopHead id ∷ []) (items body) (ListOf body behind) head.0 numbers) head.0.left in
          let same : head.0.at ≡ loop_begun p = begun_same (loop_begun p) head.0.at head.0.reads in
          some_then acc (begun_read (loop_begun p)) tt p (LoopHead id ∷ []) (items body) (ListOf body behind) behind head (inner head.0.at) body list.0 (loop_at inner p) (LoopThen id body Nil)
          (bind_reads (inner (loop_begun p)) _ (body, list.0.at) (ap inner (sym same) ∙ list.0.reads) ∙ ap (λ n. Ok (LoopThen (record { 0 = n }) body Nil, list.0.at)) (sym head_numbers.loops.0))

      nodes_end : (fuel : ℕ) (acc : Naming) (p : Point) (behind : Behind) → Noted names total acc p.counts → (IsMark 125 ▹ behind) (lexemes_of p.rest) → GivenSome acc (nodes_at inner names (suc fuel) p) Nil p [] behind
      unfolding nodes_at
      nodes_end fuel acc p behind noted h =
          let b = begun (IsMark 125) behind p.rest h in
          let close = gave_mark names total 125 p behind h in (
            record {
              at = next p;
              new = acc;
              scans = Scans-pass names total acc p (next p) close.passes;
              noted = noted;
              counts = sym (after-none p.counts);
              kinds = sym (append-nil acc.counts);
              reads = cond_true (is_mark 125 (here p)) _ _ (kind_mark 125 (here p).kind b.is);
              left = close.left;
            },
            omega (arith, length-drop1 p.rest b.some),
          )

      -- one node before others
      nodes_step : (fuel : ℕ) (acc : Naming) (one rest : Nodes) (p : Point) (behind : Behind) (xs : List Item) → GivenSome acc (node_at inner names p) one p xs (RestOf rest behind) → is_mark 125 (here p) ≡ false → Numbers p.counts (xs ++ items rest)
          → length p.rest ≤ suc fuel
          → ((new : Naming) (q : Point) → length q.rest ≤ fuel → Noted names total new q.counts → Numbers q.counts (items rest) → RestOf rest behind (lexemes_of q.rest) → GivenSome new (nodes_at inner names fuel q) rest q (items rest) behind)
          → GivenSome acc (nodes_at inner names (suc fuel) p) (chained one rest) p (xs ++ items rest) behind
      unfolding nodes_at
      nodes_step fuel acc one rest p behind xs first goes numbers room follows =
          let others = follows first.0.new first.0.at (omega (arith, first.1, room)) first.0.noted (Numbers-behind names total acc (node_at inner names p) one p xs (items rest) (RestOf rest behind) first.0 numbers) first.0.left in
          some_then acc (node_at inner names p) one p xs (items rest) (RestOf rest behind) behind first (nodes_at inner names fuel first.0.at) rest others.0 (nodes_at inner names (suc fuel) p) (chained one rest)
          (cond_false (is_mark 125 (here p)) _ _ goes ∙ bind_reads (node_at inner names p) _ (one, first.0.at) first.0.reads ∙ bind_reads (nodes_at inner names fuel first.0.at) _ (rest, others.0.at) others.0.reads)

      block_node : (acc : Naming) (b : block.Block) (p : Point) (behind : Behind) → Noted names total acc p.counts → Numbers p.counts (block_items b) → SpellsBlock names b behind (lexemes_of p.rest) → GivenSome acc (node_at inner names p) (BlockThen b Nil) p (block_items b) behind
      unfolding node_at
      block_node acc b p behind noted numbers h =
          let word = begun (IsWord (codes "block")) _ p.rest h in
          let g = block_given acc b p behind noted numbers h in
          some_reads acc (block_at names (next p)) b p (block_items b) behind g (node_at inner names p) (BlockThen b Nil)
          (cond_true (is_word (codes "block") (here p)) _ _ (form_word (codes "block") (here p) word.is) ∙ bind_reads (block_at names (next p)) _ (b, g.0.at) g.0.reads)

      if_node : (acc : Naming) (id : IfId) (cond : ValueId) (first second : Nodes) (p : Point) (behind : Behind) → depth first ≤ deepest → depth second ≤ deepest → Noted names total acc p.counts
          → Numbers p.counts (IfHead id cond ∷ items first ++ items second)
          → (IsWord (codes "if") ▹ IsValue names cond ▹ ListOf first (IsWord (codes "else") ▹ ListOf second behind)) (lexemes_of p.rest)
          → GivenSome acc (node_at inner names p) (IfThen id cond first second Nil) p (IfHead id cond ∷ items first ++ items second) behind
      unfolding node_at
      if_node acc id cond first second p behind first_few second_few noted numbers h =
          let word = begun (IsWord (codes "if")) _ p.rest h in
          let g = if_given acc id cond first second p behind first_few second_few noted numbers h in
          some_reads acc (if_at inner names p) (IfThen id cond first second Nil) p (IfHead id cond ∷ items first ++ items second) behind g (node_at inner names p) (IfThen id cond first second Nil)
          (cond_false (is_word (codes "block") (here p)) _ _ (form_other_word (codes "if") (codes "block") (here p) word.is refl)
          ∙ cond_true (is_word (codes "if") (here p)) _ _ (form_word (codes "if") (here p) word.is) ∙ g.0.reads)

      loop_node : (acc : Naming) (id : LoopId) (body : Nodes) (p : Point) (behind : Behind) → depth body ≤ deepest → Noted names total acc p.counts → Numbers p.counts (LoopHead id ∷ items body)
          → (IsWord (codes "loop") ▹ ListOf body behind) (lexemes_of p.rest) → GivenSome acc (node_at inner names p) (LoopThen id body Nil) p (LoopHead id ∷ items body) behind
      unfolding node_at
      loop_node acc id body p behind body_few noted numbers h =
          let word = begun (IsWord (codes "loop")) _ p.rest h in
          let g = loop_given acc id body p behind body_few noted numbers h in
          some_reads acc (loop_at inner p) (LoopThen id body Nil) p (LoopHead id ∷ items body) behind g (node_at inner names p) (LoopThen id body Nil)
          (cond_false (is_word (codes "block") (here p)) _ _ (form_other_word (codes "loop") (codes "block") (here p) word.is refl)
          ∙ cond_false (is_word (codes "if") (here p)) _ _ (form_other_word (codes "loop") (codes "if") (here p) word.is refl)
          ∙ cond_true (is_word (codes "loop") (here p)) _ _ (form_word (codes "loop") (here p) word.is) ∙ g.0.reads)

      nodes_given : (fuel : ℕ) (nodes : Nodes) (acc : Naming) (p : Point) (behind : Behind) → length p.rest ≤ fuel → depth nodes ≤ suc deepest → Noted names total acc p.counts → Numbers p.counts (items nodes)
          → RestOf nodes behind (lexemes_of p.rest) → GivenSome acc (nodes_at inner names fuel p) nodes p (items nodes) behind
      nodes_given zero Nil acc p behind room deep noted numbers h = let b = begun (IsMark 125) behind p.rest h in absurd (omega (arith, room, b.some))
      nodes_given zero (BlockThen b rest) acc p behind room deep noted numbers h = let w = begun (IsWord (codes "block")) _ p.rest h in absurd (omega (arith, room, w.some))
      nodes_given zero (IfThen id cond first second rest) acc p behind room deep noted numbers h = let w = begun (IsWord (codes "if")) _ p.rest h in absurd (omega (arith, room, w.some))
      nodes_given zero (LoopThen id body rest) acc p behind room deep noted numbers h = let w = begun (IsWord (codes "loop")) _ p.rest h in absurd (omega (arith, room, w.some))
      nodes_given (suc fuel) Nil acc p behind room deep noted numbers h = nodes_end fuel acc p behind noted h
      nodes_given (suc fuel) (BlockThen b rest) acc p behind room deep noted numbers h =
          let split = Numbers-split p.counts (block_items b) (items rest) numbers in
          nodes_step fuel acc (BlockThen b Nil) rest p behind (block_items b) (block_node acc b p (RestOf rest behind) noted split.0 h) (word_no_mark (codes "block") _ p.rest h) numbers room
          (λ new q room noted numbers h. nodes_given fuel rest new q behind room deep noted numbers h)
      nodes_given (suc fuel) (IfThen id cond first second rest) acc p behind room deep noted numbers h =
          let xs = IfHead id cond ∷ items first ++ items second in
          let split = Numbers-split p.counts xs (items rest) numbers in
          nodes_step fuel acc (IfThen id cond first second Nil) rest p behind xs (if_node acc id cond first second p (RestOf rest behind) (omega (arith, deep)) (omega (arith, deep)) noted split.0 h) (word_no_mark (codes "if") _ p.rest h) numbers room
          (λ new q room noted numbers h. nodes_given fuel rest new q behind room (omega (arith, deep)) noted numbers h)
      nodes_given (suc fuel) (LoopThen id body rest) acc p behind room deep noted numbers h =
          let xs = LoopHead id ∷ items body in
          let split = Numbers-split p.counts xs (items rest) numbers in
          nodes_step fuel acc (LoopThen id body Nil) rest p behind xs (loop_node acc id body p (RestOf rest behind) (omega (arith, deep)) noted split.0 h) (word_no_mark (codes "loop") _ p.rest h) numbers room
          (λ new q room noted numbers h. nodes_given fuel rest new q behind room (omega (arith, deep)) noted numbers h)

    list_given : (deepest : ℕ) → GivesInner deepest (list_at names deepest) → (acc : Naming) (nodes : Nodes) (p : Point) (behind : Behind) → depth nodes ≤ suc deepest → Noted names total acc p.counts → Numbers p.counts (items nodes)
        → ListOf nodes behind (lexemes_of p.rest) → GivenSome acc (list_at names (suc deepest) p) nodes p (items nodes) behind
    unfolding list_at
    list_given deepest lists acc nodes p behind deep noted numbers h =
        let b = begun (IsMark 123) (RestOf nodes behind) p.rest h in
        let brace = gave_mark names total 123 p (RestOf nodes behind) h in
        let inside = nodes_given deepest (list_at names deepest) lists (length (next p).rest) nodes acc (next p) behind (omega arith) deep noted numbers brace.left in (
          record {
            at = inside.0.at;
            new = inside.0.new;
            scans = Scans-then names total acc acc inside.0.new p.rest (next p).rest inside.0.at.rest (Scans-pass names total acc p (next p) brace.passes) inside.0.scans;
            noted = inside.0.noted;
            counts = inside.0.counts;
            kinds = inside.0.kinds;
            reads = bind_reads (mark_at 123 p) _ (next p) brace.reads ∙ inside.0.reads;
            left = inside.0.left;
          },
          omega (arith, inside.1, brace.passes.shorter),
        )

    pub lists_given : (deepest : ℕ) → GivesInner deepest (list_at names deepest)
    lists_given zero = record { list = λ acc nodes p behind few noted numbers h. let some = depth_some nodes in absurd (omega (arith, few, some)) }
    lists_given (suc deepest) = record { list = list_given deepest (lists_given deepest) }
