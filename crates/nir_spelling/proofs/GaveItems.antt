-- Instructions, phis and blocks that are spelled, and numbered in order, are read, and a scan notes their names.
use Rattle.std.proofs.Common.{◌≡◌, ℕ, suc, ◌+◌, ◌<◌, ◌≤◌, false, not, ◌&&◌, List, [], ◌∷◌, ◌++◌, take, length, drop, Some, is_some, Result, Ok, nat_lt, codes, refl, sym, ap, ◌∙◌, subst, arith, append_assoc, append-nil, lt-ltb}
use Rattle.std.specs.Prelude.{slice_get}
use Rattle.std.specs.Option.{option_and_then}
use Rattle.std.specs.Str.{bytes_eq}
use Rattle.std.proofs.lemmas.Bool.Decides.{nat_tests}
use Rattle.nir_ir.specs.declared.ids.EffectId.{EffectId}
use Rattle.nir_ir.specs.declared.ids.ValueId.{ValueId}
use Rattle.nir_ir.specs.declared.instr.Instr.{Instr}
use Rattle.nir_ir.specs.declared.instr.Instr.TheVariants.{Output, StoreBuf}
use Rattle.nir_ir.specs.declared.kind.Kind.{Kind}
use Rattle.nir_ir.specs.Items.{Item, InstrItem}
use Rattle.nir_lex.specs.declared.token.TokenKind.TheVariants.{Name}
use Rattle.nir_text.specs.declared.counts.Counts as counts
use Rattle.nir_text.specs.declared.fault.TextFault.{TextFault}
use Rattle.nir_text.specs.Signs.{Sign, word_of, name_of, kind_is_word, is_word, first_of}
use Rattle.nir_text.specs.Kinds.{kind_named}
use Rattle.nir_text.specs.Naming.{Naming, place_of, is_among_first, is_unknown_name}
use Rattle.nir_text.specs.Reading.{Point, here, next, value_begun, mark_at, wanted, index_at, value_defined_at, value_used_at}
use Rattle.nir_text.specs.Instrs.{effect_begun, output_at, store_at, definition_at, instr_at}
use Rattle.nir_spelling.specs.Lexemes.{lexemes_of, Behind, ◌▹◌, IsWord, IsMark, IsIndex}
use Rattle.nir_spelling.specs.Spelling.{IsValue}
use Rattle.nir_spelling.proofs.Names.{get-place_of, get-within, no_place, take_one_more}
use Rattle.nir_spelling.proofs.Passes.{Passes-then, name_known}
use Rattle.nir_spelling.proofs.Tokens.{kind_mark, kind_name_of, length-drop1, Begins, begun}
use Rattle.nir_spelling.proofs.Grows.{Numbers, Numbers-split, after, after-none, after-append, counts_same, counts_in, counts_in-append, one_value, Scans, Scans-then, Scans-pass, value_scans}
use Rattle.nir_spelling.proofs.ReadBlocks.{plus_zero}
use Rattle.nir_spelling.proofs.Gave.{Follows, plain_follows, follows_mark, cond_true, cond_false, bind_reads, wanted_reads, IsWhole, Gave, gave_mark, pass_that_word, gave_index, gave_value}

-- a place is not before itself
pub not_before : (n m : ℕ) → n ≡ m → nat_lt n m ≡ false
not_before n m same = grind (arith, nat_tests)

-- a name is no word
pub name_no_word : (word : List ℕ) (sign : Sign) → sign.kind ≡ Name → is_word word sign ≡ false
name_no_word word sign e = ap (λ k. kind_is_word k && bytes_eq sign.text word) e

module _ (names : Naming) (total : counts.Counts) where
  -- what was noted are the first names, as many as the counts tell
  pub record Noted (acc : Naming) (c : counts.Counts) : Type 0 where
    pub values : acc.values ≡ take c.values names.values
    pub blocks : acc.blocks ≡ take c.blocks names.blocks

  -- a reader reads these items, and a scan notes their names
  pub record Given {X : Type 0} (acc : Naming) (read : Result (X × Point) TextFault) (x : X) (p : Point) (items : List Item) (behind : Behind) : Type 0 where
    pub at : Point
    pub new : Naming
    pub scans : Scans names total acc new p.rest at.rest
    pub noted : Noted new at.counts
    pub counts : at.counts ≡ after p.counts items
    pub kinds : new.counts ≡ acc.counts ++ counts_in items
    pub reads : read ≡ Ok (x, at)
    pub left : behind (lexemes_of at.rest)

  pub Noted-same : (acc : Naming) (c d : counts.Counts) → c ≡ d → Noted acc c → Noted acc d
  Noted-same acc c d same noted = subst (Noted acc) same noted

  -- what defines nothing
  pub Given-gave : {X : Type 0} (acc : Naming) (read : Result (X × Point) TextFault) (x : X) (p : Point) (behind : Behind) → Noted acc p.counts → Gave names total read x p behind → Given acc read x p [] behind
  Given-gave acc read x p behind noted gave = record {
    at = gave.at;
    new = acc;
    scans = Scans-pass names total acc p gave.at gave.passes;
    noted = Noted-same acc p.counts gave.at.counts (sym gave.passes.counts) noted;
    counts = gave.passes.counts ∙ sym (after-none p.counts);
    kinds = sym (append-nil acc.counts);
    reads = gave.reads;
    left = gave.left;
  }

  -- one part and then another
  pub Given-then : {X Y Z : Type 0} (acc : Naming) (r : Result (X × Point) TextFault) (x : X) (p : Point) (xs ys : List Item) (middle behind : Behind) (first : Given acc r x p xs middle)
      (s : Result (Y × Point) TextFault) (y : Y) (second : Given first.new s y first.at ys behind) (t : Result (Z × Point) TextFault) (z : Z) → t ≡ Ok (z, second.at) → Given acc t z p (xs ++ ys) behind
  Given-then acc r x p xs ys middle behind first s y second t z reads = record {
    at = second.at;
    new = second.new;
    scans = Scans-then names total acc first.new second.new p.rest first.at.rest second.at.rest first.scans second.scans;
    noted = second.noted;
    counts = second.counts ∙ ap (λ c. after c ys) first.counts ∙ after-append p.counts xs ys;
    kinds = second.kinds ∙ ap (λ l. l ++ counts_in ys) first.kinds ∙ append_assoc acc.counts (counts_in xs) (counts_in ys) ∙ ap (λ l. acc.counts ++ l) (sym (counts_in-append xs ys));
    reads = reads;
    left = second.left;
  }

  -- the numbers behind a part
  pub Numbers-behind : {X : Type 0} (acc : Naming) (r : Result (X × Point) TextFault) (x : X) (p : Point) (xs ys : List Item) (middle : Behind) (first : Given acc r x p xs middle) → Numbers p.counts (xs ++ ys) → Numbers first.at.counts ys
  Numbers-behind acc r x p xs ys middle first numbers = subst (λ c. Numbers c ys) (sym first.counts) (Numbers-split p.counts xs ys numbers).1

  module _ (is : IsWhole names total) (few : length names.values ≤ 16384) where
    -- ---- a value that is defined

    pub record DefinedGave (acc : Naming) (value : ValueId) (kind : Kind) (p : Point) (behind : Behind) : Type 0 where
      pub new : Naming
      pub scans : Scans names total acc new p.rest (next (next p)).rest
      pub noted : Noted new (record p.counts { values = p.counts.values + 1 })
      pub kinds : new.counts ≡ acc.counts ++ kind.count ∷ []
      pub defines : value_defined_at names p ≡ Ok (value, value_begun p)
      pub equals : mark_at 61 (value_begun p) ≡ Ok (next (value_begun p))
      pub less : length (next (next p)).rest + 2 ≤ length p.rest
      pub left : behind (lexemes_of (next (next p)).rest)

    pub defined_gave : (acc : Naming) (value : ValueId) (kind : Kind) (p : Point) (behind : Behind) → Noted acc p.counts → value.0 ≡ p.counts.values
        → (IsValue names value ▹ IsMark 61 ▹ behind) (lexemes_of p.rest)
        → ((signs : List Sign) → behind (lexemes_of signs) → option_and_then kind_named (word_of (first_of (drop 1 signs))) ≡ Some kind)
        → DefinedGave acc value kind p behind
    unfolding value_defined_at
    defined_gave acc value kind p behind noted number h stands =
        let b = begun (IsValue names value) (IsMark 61 ▹ behind) p.rest h in
        let equals = begun (IsMark 61) behind (drop 1 p.rest) b.left in
        let text = (here p).text in
        let place : place_of text names.values ≡ Some value.0 = get-place_of text names.values value.0 is.distinct_names b.is.1 in
        let within : value.0 < length names.values = get-within names.values value.0 text b.is.1 in
        let there : value.0 < total.values = omega (arith, within, is.values) in
        let room : p.counts.values < 16384 = omega (arith, within, few, number) in
        let known : is_unknown_name names total (Some text) ≡ false = ap (λ o. not (is_among_first total.values o)) place ∙ ap not (lt-ltb value.0 total.values there) in
        let once : is_among_first p.counts.values (place_of text names.values) ≡ false = ap (is_among_first p.counts.values) place ∙ not_before value.0 p.counts.values number in
        let fresh : is_some (place_of text acc.values) ≡ false = ap (λ l. is_some (place_of text l)) noted.values ∙ no_place text names.values p.counts.values once in
        let get : slice_get names.values p.counts.values ≡ Some text = ap (slice_get names.values) (sym number) ∙ b.is.1 in
        let mark = kind_mark 61 (here (next p)).kind equals.is in
        let one : suc p.counts.values ≡ p.counts.values + 1 = omega arith in
        record {
          new = one_value acc text kind.count;
          scans = value_scans names total acc p kind b.some b.is.0 equals.is equals.some mark fresh (name_known names total p b.is.0 known) (stands (next (next p)).rest equals.left);
          noted = record {
            values = ap (λ l. l ++ text ∷ []) noted.values ∙ sym (take_one_more names.values p.counts.values text get) ∙ ap (λ n. take n names.values) one;
            blocks = noted.blocks;
          };
          kinds = refl;
          defines = bind_reads (wanted (name_of (here p)) p) _ (text, next p) (wanted_reads (name_of (here p)) p text (kind_name_of (here p) b.is.0))
              ∙ cond_false (is_among_first p.counts.values (place_of text names.values)) _ _ once
              ∙ cond_true (nat_lt p.counts.values 16384) _ _ (lt-ltb p.counts.values 16384 room)
              ∙ ap (λ n. Ok (record { 0 = n }, value_begun p)) (sym number);
          equals = (gave_mark names total 61 (value_begun p) behind b.left).reads;
          less = omega (arith, length-drop1 p.rest b.some, length-drop1 (drop 1 p.rest) equals.some);
          left = equals.left;
        }

    -- ---- an instruction that defines a value

    abbrev pub counted_value : counts.Counts → counts.Counts
    counted_value c = record c { values = c.values + 1 }

    -- its reading goes on behind `=`
    pub given_definition : (acc : Naming) (value : ValueId) (kind : Kind) (instr : Instr) (p : Point) (inside behind : Behind)
        → counted_value p.counts ≡ after p.counts (InstrItem instr ∷ []) → kind.count ∷ [] ≡ counts_in (InstrItem instr ∷ [])
        → (here p).kind ≡ Name
        → DefinedGave acc value kind p inside → Gave names total (definition_at names value (next (value_begun p))) instr (next (value_begun p)) behind
        → (given : Given acc (instr_at names p) instr p (InstrItem instr ∷ []) behind) × (length given.at.rest < length p.rest)
    unfolding instr_at
    given_definition acc value kind instr p inside behind counted kinds_are name defined gave = (
      record {
        at = gave.at;
        new = defined.new;
        scans = Scans-then names total acc defined.new defined.new p.rest (next (next p)).rest gave.at.rest defined.scans (Scans-pass names total defined.new (next (value_begun p)) gave.at gave.passes);
        noted = Noted-same defined.new (counted_value p.counts) gave.at.counts (sym gave.passes.counts) defined.noted;
        counts = gave.passes.counts ∙ counted;
        kinds = defined.kinds ∙ ap (λ l. acc.counts ++ l) kinds_are;
        reads = cond_false (is_word (codes "output") (here p)) _ _ (name_no_word (codes "output") (here p) name)
            ∙ cond_false (is_word (codes "store") (here p)) _ _ (name_no_word (codes "store") (here p) name)
            ∙ bind_reads (value_defined_at names p) _ (value, value_begun p) defined.defines
            ∙ bind_reads (mark_at 61 (value_begun p)) _ (next (value_begun p)) defined.equals
            ∙ gave.reads;
        left = gave.left;
      },
      omega (arith, defined.less, gave.passes.shorter),
    )

    pub value_counted : (c : counts.Counts) → counted_value c ≡ record { values = c.values + 1; blocks = c.blocks + 0; effects = c.effects + 0; ifs = c.ifs + 0; loops = c.loops + 0 }
    value_counted c = counts_same (counted_value c) (record { values = c.values + 1; blocks = c.blocks + 0; effects = c.effects + 0; ifs = c.ifs + 0; loops = c.loops + 0 }) refl (plus_zero c.blocks) (plus_zero c.effects) (plus_zero c.ifs) (plus_zero c.loops)

    -- ---- outputs and stores

    abbrev pub counted_effect : counts.Counts → counts.Counts
    counted_effect c = record c { effects = c.effects + 1 }

    pub effect_counted : (c : counts.Counts) → counted_effect c ≡ record { values = c.values + 0; blocks = c.blocks + 0; effects = c.effects + 1; ifs = c.ifs + 0; loops = c.loops + 0 }
    effect_counted c = counts_same (counted_effect c) (record { values = c.values + 0; blocks = c.blocks + 0; effects = c.effects + 1; ifs = c.ifs + 0; loops = c.loops + 0 }) (plus_zero c.values) (plus_zero c.blocks) refl (plus_zero c.ifs) (plus_zero c.loops)

    pub output_gave : (effect : EffectId) (slot : ℕ) (src : ValueId) (p : Point) (behind : Behind) → effect.0 ≡ p.counts.effects → Follows behind
        → (IsMark 64 ▹ IsIndex slot ▹ IsMark 44 ▹ IsValue names src ▹ behind) (lexemes_of (drop 1 p.rest)) → Gave names total (output_at names p) (Output effect slot src) (effect_begun p) behind
    unfolding output_at
    output_gave effect slot src p behind number follows h =
        let q = effect_begun p in
        let a = gave_mark names total 64 q (IsIndex slot ▹ IsMark 44 ▹ IsValue names src ▹ behind) h in
        let b = gave_index names total slot (next q) (IsMark 44 ▹ IsValue names src ▹ behind) a.left in
        let c = gave_mark names total 44 b.at (IsValue names src ▹ behind) b.left in
        let d = gave_value names total is src (next b.at) behind (plain_follows behind follows) c.left in
        record {
          at = d.at;
          passes = Passes-then names total q (next q) d.at a.passes (Passes-then names total (next q) b.at d.at b.passes (Passes-then names total b.at (next b.at) d.at c.passes d.passes));
          reads = bind_reads (mark_at 64 q) _ (next q) a.reads ∙ bind_reads (index_at (next q)) _ (slot, b.at) b.reads ∙ bind_reads (mark_at 44 b.at) _ (next b.at) c.reads
              ∙ bind_reads (value_used_at names (next b.at)) _ (src, d.at) d.reads ∙ ap (λ n. Ok (Output (record { 0 = n }) slot src, d.at)) (sym number);
          left = d.left;
        }

    pub store_gave : (effect : EffectId) (buffer : ℕ) (offset src : ValueId) (p : Point) (behind : Behind) → effect.0 ≡ p.counts.effects → Follows behind
        → (IsMark 64 ▹ IsIndex buffer ▹ IsMark 44 ▹ IsValue names offset ▹ IsMark 44 ▹ IsValue names src ▹ behind) (lexemes_of (drop 1 p.rest))
        → Gave names total (store_at names p) (StoreBuf effect buffer offset src) (effect_begun p) behind
    unfolding store_at
    store_gave effect buffer offset src p behind number follows h =
        let q = effect_begun p in
        let second = IsMark 44 ▹ IsValue names src ▹ behind in
        let a = gave_mark names total 64 q (IsIndex buffer ▹ IsMark 44 ▹ IsValue names offset ▹ second) h in
        let b = gave_index names total buffer (next q) (IsMark 44 ▹ IsValue names offset ▹ second) a.left in
        let c = gave_mark names total 44 b.at (IsValue names offset ▹ second) b.left in
        let d = gave_value names total is offset (next b.at) second (plain_follows second (follows_mark 44 (IsValue names src ▹ behind) refl refl refl)) c.left in
        let f = gave_mark names total 44 d.at (IsValue names src ▹ behind) d.left in
        let g = gave_value names total is src (next d.at) behind (plain_follows behind follows) f.left in
        let to_offset = Passes-then names total q (next q) d.at a.passes (Passes-then names total (next q) b.at d.at b.passes (Passes-then names total b.at (next b.at) d.at c.passes d.passes)) in
        record {
          at = g.at;
          passes = Passes-then names total q d.at g.at to_offset (Passes-then names total d.at (next d.at) g.at f.passes g.passes);
          reads = bind_reads (mark_at 64 q) _ (next q) a.reads ∙ bind_reads (index_at (next q)) _ (buffer, b.at) b.reads ∙ bind_reads (mark_at 44 b.at) _ (next b.at) c.reads
              ∙ bind_reads (value_used_at names (next b.at)) _ (offset, d.at) d.reads ∙ bind_reads (mark_at 44 d.at) _ (next d.at) f.reads
              ∙ bind_reads (value_used_at names (next d.at)) _ (src, g.at) g.reads ∙ ap (λ n. Ok (StoreBuf (record { 0 = n }) buffer offset src, g.at)) (sym number);
          left = g.left;
        }

    -- a word, and what is read behind it with other counts
    pub given_head : {X : Type 0} (acc : Naming) (read : Result (X × Point) TextFault) (x : X) (word : List ℕ) (p : Point) (counted : counts.Counts) (item : Item) (inside behind : Behind)
        → bytes_eq word (codes "block") ≡ false → Follows inside → Noted acc p.counts → counted.values ≡ p.counts.values → counted.blocks ≡ p.counts.blocks
        → counted ≡ after p.counts (item ∷ []) → counts_in (item ∷ []) ≡ []
        → Begins (IsWord word) inside p.rest → Gave names total read x (record { rest = drop 1 p.rest; counts = counted }) behind
        → (given : Given acc read x p (item ∷ []) behind) × (length given.at.rest < length p.rest)
    given_head acc read x word p counted item inside behind other follows noted same_values same_blocks counted_is none b gave =
        let q : Point = record { rest = drop 1 p.rest; counts = counted } in (
          record {
            at = gave.at;
            new = acc;
            scans = Scans-then names total acc acc acc p.rest (drop 1 p.rest) gave.at.rest (Scans-pass names total acc p (next p) (pass_that_word names total word p inside other follows b)) (Scans-pass names total acc q gave.at gave.passes);
            noted = Noted-same acc counted gave.at.counts (sym gave.passes.counts)
                (record { values = noted.values ∙ ap (λ n. take n names.values) (sym same_values); blocks = noted.blocks ∙ ap (λ n. take n names.blocks) (sym same_blocks) });
            counts = gave.passes.counts ∙ counted_is;
            kinds = sym (append-nil acc.counts) ∙ ap (λ l. acc.counts ++ l) (sym none);
            reads = gave.reads;
            left = gave.left;
          },
          omega (arith, length-drop1 p.rest b.some, gave.passes.shorter),
        )
