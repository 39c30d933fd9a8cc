-- What the definitions of a text do: they take the next numbers in order, and a scan notes their names.
use Rattle.std.proofs.Common.{◌≡◌, ℕ, suc, ◌+◌, ◌≤◌, Bool, true, false, cond, List, [], ◌∷◌, ◌++◌, map, flat_map, length, drop, Option, Some, None, is_some, codes, refl, sym, ap, ◌∙◌, subst, arith, append_assoc, append-nil, length-append}
use Rattle.std.specs.Option.{option_map_or, option_and_then}
use Rattle.std.specs.Str.{bytes_eq}
use Rattle.std.proofs.lemmas.Grind.{flat_map-append}
use Rattle.std.proofs.lemmas.Bool.{cond_both}
use Rattle.nir_ir.specs.declared.kind.Kind.{Kind}
use Rattle.nir_ir.specs.Items.{Item, defines, blocks_of, effects_of, ifs_of, loops_of}
use Rattle.nir_ir.specs.Definitions.{kinds_of}
use Rattle.nir_lex.specs.Kinds as token_kind
use Rattle.nir_lex.specs.declared.token.TokenKind.TheVariants.{Word, Name, Punct}
use Rattle.nir_text.specs.declared.counts.Counts as counts
use Rattle.nir_text.specs.Signs.{Sign, word_of, word_of_kind, name_of, is_mark, is_word, first_of}
use Rattle.nir_text.specs.Kinds.{kind_named}
use Rattle.nir_text.specs.Naming.{Naming, place_of, count_behind, is_unknown, with_value, value_noted, block_noted, noted, naming_from, first_unknown}
use Rattle.nir_text.specs.Reading.{Point, here, next}
use Rattle.nir_spelling.proofs.Passes.{Passes, EndsOnce, ends_behind, as_kind, pass_mark, pass_any_word}

-- ---- numbers in order

-- the numbers from one on
abbrev pub InOrder : ℕ → List ℕ → Type 0
InOrder from [] = Unit {0}
InOrder from (n ∷ numbers) = (n ≡ from) × InOrder (from + 1) numbers

pub InOrder-append : (from : ℕ) (xs ys : List ℕ) → InOrder from xs → InOrder (from + length xs) ys → InOrder from (xs ++ ys)
InOrder-append from [] ys first second = let e : from + 0 ≡ from = omega arith in subst (λ n. InOrder n ys) e second
InOrder-append from (x ∷ xs) ys first second =
    let e : from + suc (length xs) ≡ from + 1 + length xs = omega arith in
    (first.0, InOrder-append (from + 1) xs ys first.1 (subst (λ n. InOrder n ys) e second))

pub InOrder-split : (from : ℕ) (xs ys : List ℕ) → InOrder from (xs ++ ys) → InOrder from xs × InOrder (from + length xs) ys
InOrder-split from [] ys all = let e : from ≡ from + 0 = omega arith in (tt, subst (λ n. InOrder n ys) e all)
InOrder-split from (x ∷ xs) ys all =
    let e : from + 1 + length xs ≡ from + suc (length xs) = omega arith in
    let rest = InOrder-split (from + 1) xs ys all.1 in
    ((all.0, rest.0), subst (λ n. InOrder n ys) e rest.1)

abbrev pub values_in : List Item → List ℕ
values_in items = flat_map (λ item. map (λ id. id.0) (defines item)) items

abbrev pub blocks_in : List Item → List ℕ
blocks_in items = flat_map (λ item. map (λ id. id.0) (blocks_of item)) items

abbrev pub effects_in : List Item → List ℕ
effects_in items = flat_map (λ item. map (λ id. id.0) (effects_of item)) items

abbrev pub ifs_in : List Item → List ℕ
ifs_in items = flat_map (λ item. map (λ id. id.0) (ifs_of item)) items

abbrev pub loops_in : List Item → List ℕ
loops_in items = flat_map (λ item. map (λ id. id.0) (loops_of item)) items

-- how many components each value of these items has
abbrev pub counts_in : List Item → List ℕ
counts_in items = map (λ kind. kind.count) (flat_map kinds_of items)

-- each sort of thing goes on from the counts
pub record Numbers (c : counts.Counts) (items : List Item) : Type 0 where
  pub values : InOrder c.values (values_in items)
  pub blocks : InOrder c.blocks (blocks_in items)
  pub effects : InOrder c.effects (effects_in items)
  pub ifs : InOrder c.ifs (ifs_in items)
  pub loops : InOrder c.loops (loops_in items)

-- the counts behind them
abbrev pub after : counts.Counts → List Item → counts.Counts
after c items =
    record {
      values = c.values + length (values_in items);
      blocks = c.blocks + length (blocks_in items);
      effects = c.effects + length (effects_in items);
      ifs = c.ifs + length (ifs_in items);
      loops = c.loops + length (loops_in items);
    }

pub counts_same : (c d : counts.Counts) → c.values ≡ d.values → c.blocks ≡ d.blocks → c.effects ≡ d.effects → c.ifs ≡ d.ifs → c.loops ≡ d.loops → c ≡ d
counts_same c d values blocks effects ifs loops = λ j. record { values = values j; blocks = blocks j; effects = effects j; ifs = ifs j; loops = loops j }

pub after-none : (c : counts.Counts) → after c [] ≡ c
after-none c = counts_same (after c []) c (omega arith) (omega arith) (omega arith) (omega arith) (omega arith)

longer : (n : ℕ) (f : Item → List ℕ) (xs ys : List Item) → n + length (flat_map f xs) + length (flat_map f ys) ≡ n + length (flat_map f (xs ++ ys))
longer n f xs ys =
    let e : length (flat_map f (xs ++ ys)) ≡ length (flat_map f xs) + length (flat_map f ys) = ap length (flat_map-append f xs ys) ∙ length-append (flat_map f xs) (flat_map f ys) in
    omega (arith, e)

pub after-append : (c : counts.Counts) (xs ys : List Item) → after (after c xs) ys ≡ after c (xs ++ ys)
after-append c xs ys =
    counts_same (after (after c xs) ys) (after c (xs ++ ys)) (longer c.values (λ item. map (λ id. id.0) (defines item)) xs ys) (longer c.blocks (λ item. map (λ id. id.0) (blocks_of item)) xs ys)
    (longer c.effects (λ item. map (λ id. id.0) (effects_of item)) xs ys) (longer c.ifs (λ item. map (λ id. id.0) (ifs_of item)) xs ys) (longer c.loops (λ item. map (λ id. id.0) (loops_of item)) xs ys)

pub Numbers-none : (c : counts.Counts) → Numbers c []
Numbers-none c = record { values = tt; blocks = tt; effects = tt; ifs = tt; loops = tt }

flat-join : (n : ℕ) (f : Item → List ℕ) (xs ys : List Item) → InOrder n (flat_map f xs) → InOrder (n + length (flat_map f xs)) (flat_map f ys) → InOrder n (flat_map f (xs ++ ys))
flat-join n f xs ys first second = subst (InOrder n) (sym (flat_map-append f xs ys)) (InOrder-append n (flat_map f xs) (flat_map f ys) first second)

flat-split : (n : ℕ) (f : Item → List ℕ) (xs ys : List Item) → InOrder n (flat_map f (xs ++ ys)) → InOrder n (flat_map f xs) × InOrder (n + length (flat_map f xs)) (flat_map f ys)
flat-split n f xs ys all = InOrder-split n (flat_map f xs) (flat_map f ys) (subst (InOrder n) (flat_map-append f xs ys) all)

pub Numbers-append : (c : counts.Counts) (xs ys : List Item) → Numbers c xs → Numbers (after c xs) ys → Numbers c (xs ++ ys)
Numbers-append c xs ys first second = record {
  values = flat-join c.values (λ item. map (λ id. id.0) (defines item)) xs ys first.values second.values;
  blocks = flat-join c.blocks (λ item. map (λ id. id.0) (blocks_of item)) xs ys first.blocks second.blocks;
  effects = flat-join c.effects (λ item. map (λ id. id.0) (effects_of item)) xs ys first.effects second.effects;
  ifs = flat-join c.ifs (λ item. map (λ id. id.0) (ifs_of item)) xs ys first.ifs second.ifs;
  loops = flat-join c.loops (λ item. map (λ id. id.0) (loops_of item)) xs ys first.loops second.loops;
}

pub Numbers-split : (c : counts.Counts) (xs ys : List Item) → Numbers c (xs ++ ys) → Numbers c xs × Numbers (after c xs) ys
Numbers-split c xs ys all =
    let values = flat-split c.values (λ item. map (λ id. id.0) (defines item)) xs ys all.values in
    let blocks = flat-split c.blocks (λ item. map (λ id. id.0) (blocks_of item)) xs ys all.blocks in
    let effects = flat-split c.effects (λ item. map (λ id. id.0) (effects_of item)) xs ys all.effects in
    let ifs = flat-split c.ifs (λ item. map (λ id. id.0) (ifs_of item)) xs ys all.ifs in
    let loops = flat-split c.loops (λ item. map (λ id. id.0) (loops_of item)) xs ys all.loops in
    (record { values = values.0; blocks = blocks.0; effects = effects.0; ifs = ifs.0; loops = loops.0 }, record { values = values.1; blocks = blocks.1; effects = effects.1; ifs = ifs.1; loops = loops.1 })

pub counts_in-append : (xs ys : List Item) → counts_in (xs ++ ys) ≡ counts_in xs ++ counts_in ys
counts_in-append xs ys = ap (map (λ (kind : Kind). kind.count)) (flat_map-append kinds_of xs ys) ∙ map_append (λ kind. kind.count) (flat_map kinds_of xs) (flat_map kinds_of ys)
  where
    map_append : {A B : Type 0} (f : A → B) (xs ys : List A) → map f (xs ++ ys) ≡ map f xs ++ map f ys
    map_append f [] ys = refl
    map_append f (x ∷ xs) ys = ap (λ l. f x ∷ l) (map_append f xs ys)

-- ---- what is noted

abbrev pub one_value : Naming → List ℕ → ℕ → Naming
one_value acc name count = record acc { values = acc.values ++ name ∷ []; counts = acc.counts ++ count ∷ [] }

abbrev pub one_block : Naming → List ℕ → Naming
one_block acc word = record acc { blocks = acc.blocks ++ word ∷ [] }

value_new : (acc : Naming) (text : List ℕ) (behind : List Sign) → is_mark 61 (first_of behind) ≡ true → is_some (place_of text acc.values) ≡ false → value_noted (Some text) behind acc ≡ one_value acc text (count_behind behind)
value_new acc text behind equals fresh = rw (equals, fresh) refl

drop_two : (signs : List Sign) → drop 2 (drop 1 signs) ≡ drop 1 (drop 1 (drop 1 signs))
drop_two [] = refl
drop_two (a ∷ []) = refl
drop_two (a ∷ b ∷ []) = refl
drop_two (a ∷ b ∷ c ∷ signs) = refl

count_of_kind : (signs : List Sign) (kind : Kind) → option_and_then kind_named (word_of (first_of (drop 1 (drop 1 (drop 1 signs))))) ≡ Some kind → count_behind (drop 1 signs) ≡ kind.count
count_of_kind signs kind e = ap (λ l. option_map_or (λ (k : Kind). k.count) (option_and_then kind_named (word_of (first_of l))) 1) (drop_two signs) ∙ ap (λ o. option_map_or (λ (k : Kind). k.count) o 1) e

scan_first : (signs : List Sign) (acc new : Naming) → 1 ≤ length signs → noted (first_of signs) (drop 1 signs) acc ≡ new → naming_from acc signs ≡ naming_from new (drop 1 signs)
unfolding naming_from
scan_first [] acc new some e = absurd (omega arith)
scan_first (sign ∷ signs) acc new some e = ap (λ a. naming_from a signs) e

-- ---- a scan only adds

pub record Extends (old new : Naming) : Type 0 where
  pub more_values : List (List ℕ)
  pub more_blocks : List (List ℕ)
  pub values : new.values ≡ old.values ++ more_values
  pub blocks : new.blocks ≡ old.blocks ++ more_blocks

Extends-refl : (a : Naming) → Extends a a
Extends-refl a = record { more_values = []; more_blocks = []; values = sym (append-nil a.values); blocks = sym (append-nil a.blocks) }

Extends-then : (a b c : Naming) → Extends a b → Extends b c → Extends a c
Extends-then a b c first second = record {
  more_values = first.more_values ++ second.more_values;
  more_blocks = first.more_blocks ++ second.more_blocks;
  values = second.values ∙ ap (λ l. l ++ second.more_values) first.values ∙ append_assoc a.values first.more_values second.more_values;
  blocks = second.blocks ∙ ap (λ l. l ++ second.more_blocks) first.blocks ∙ append_assoc a.blocks first.more_blocks second.more_blocks;
}

Extends-value : (acc : Naming) (name : Option (List ℕ)) (behind : List Sign) → Extends acc (value_noted name behind acc)
Extends-value acc None behind = Extends-refl acc
Extends-value acc (Some name) behind =
    cond_both (is_mark 61 (first_of behind)) (with_value name (count_behind behind) acc) acc (Extends acc)
    (λ _. cond_both (is_some (place_of name acc.values)) acc (one_value acc name (count_behind behind)) (Extends acc) (λ _. Extends-refl acc)
    (λ _. record { more_values = name ∷ []; more_blocks = []; values = refl; blocks = sym (append-nil acc.blocks) }))
    (λ _. Extends-refl acc)

Extends-block : (acc : Naming) (is_block : Bool) (word : Option (List ℕ)) → Extends acc (block_noted is_block word acc)
Extends-block acc false word = Extends-refl acc
Extends-block acc true None = Extends-refl acc
Extends-block acc true (Some word) =
    cond_both (is_some (place_of word acc.blocks)) acc (one_block acc word) (Extends acc) (λ _. Extends-refl acc)
    (λ _. record { more_values = []; more_blocks = word ∷ []; values = sym (append-nil acc.values); blocks = refl })

pub Extends-naming : (acc : Naming) (signs : List Sign) → Extends acc (naming_from acc signs)
unfolding naming_from noted
Extends-naming acc [] = Extends-refl acc
Extends-naming acc (sign ∷ behind) =
    let value = value_noted (name_of sign) behind acc in
    let block = block_noted (is_word (codes "block") sign) (word_of (first_of behind)) value in
    Extends-then acc value (naming_from block behind) (Extends-value acc (name_of sign) behind)
    (Extends-then value block (naming_from block behind) (Extends-block value (is_word (codes "block") sign) (word_of (first_of behind))) (Extends-naming block behind))

module _ (names : Naming) (total : counts.Counts) where
  unknown_first : (signs : List Sign) → 1 ≤ length signs → is_unknown names total (first_of signs) (drop 1 signs) ≡ false → first_unknown names total signs ≡ first_unknown names total (drop 1 signs)
  unfolding first_unknown
  unknown_first [] some e = absurd (omega arith)
  unknown_first (sign ∷ signs) some e = ap (λ b. cond b (Some sign.place) (first_unknown names total signs)) e

  -- how a scan moves from one place to another
  pub record Scans (acc new : Naming) (signs rest : List Sign) : Type 0 where
    pub scan : naming_from acc signs ≡ naming_from new rest
    pub unknown : first_unknown names total signs ≡ first_unknown names total rest
    pub shorter : length rest ≤ length signs
    pub ends : EndsOnce signs → EndsOnce rest

  pub Scans-then : (acc mid new : Naming) (signs between rest : List Sign) → Scans acc mid signs between → Scans mid new between rest → Scans acc new signs rest
  Scans-then acc mid new signs between rest a b = record { scan = a.scan ∙ b.scan; unknown = a.unknown ∙ b.unknown; shorter = omega (arith, a.shorter, b.shorter); ends = λ e. b.ends (a.ends e) }

  pub Scans-pass : (acc : Naming) (p q : Point) → Passes names total p q → Scans acc acc p.rest q.rest
  Scans-pass acc p q passes = record { scan = passes.scan acc; unknown = passes.unknown; shorter = passes.shorter; ends = passes.ends }

  shorter_drop : (signs : List Sign) → length (drop 1 signs) ≤ length signs
  shorter_drop [] = omega arith
  shorter_drop (sign ∷ signs) = omega arith

  -- a name and `=`
  pub value_scans : (acc : Naming) (p : Point) (kind : Kind)
      → 1 ≤ length p.rest → (here p).kind ≡ Name → (here (next p)).kind ≡ Punct 61 → 1 ≤ length (next p).rest → is_mark 61 (here (next p)) ≡ true
      → is_some (place_of (here p).text acc.values) ≡ false
      → is_unknown names total (here p) (drop 1 p.rest) ≡ false
      → option_and_then kind_named (word_of (first_of (drop 1 (next (next p)).rest))) ≡ Some kind
      → Scans acc (one_value acc (here p).text kind.count) p.rest (next (next p)).rest
  value_scans acc p kind some name equals more mark fresh known is_kind =
      let new = one_value acc (here p).text kind.count in
      let note : noted (here p) (drop 1 p.rest) acc ≡ new =
      as_kind (here p) Name (drop 1 p.rest) acc name ∙ value_new acc (here p).text (drop 1 p.rest) mark fresh ∙ ap (λ n. one_value acc (here p).text n) (count_of_kind p.rest kind is_kind) in
      let first : Scans acc new p.rest (next p).rest = record { scan = scan_first p.rest acc new some note; unknown = unknown_first p.rest some known; shorter = shorter_drop p.rest; ends = ends_behind p.rest (ap token_kind.is_end name) } in
      Scans-then acc new new p.rest (next p).rest (next (next p)).rest first (Scans-pass new (next p) (next (next p)) (pass_mark names total (next p) 61 more equals))

  -- the word `block` and a word
  pub block_scans : (acc : Naming) (p : Point)
      → 1 ≤ length p.rest → (here p).kind ≡ Word → bytes_eq (here p).text (codes "block") ≡ true → is_unknown names total (here p) (drop 1 p.rest) ≡ false
      → 1 ≤ length (next p).rest → (here (next p)).kind ≡ Word → word_of (here (next (next p))) ≡ None → is_unknown names total (here (next p)) (drop 1 (next p).rest) ≡ false
      → is_some (place_of (here (next p)).text acc.blocks) ≡ false
      → Scans acc (one_block acc (here (next p)).text) p.rest (next (next p)).rest
  block_scans acc p some word is_block known more second none later fresh =
      let new = one_block acc (here (next p)).text in
      let found : word_of (first_of (drop 1 p.rest)) ≡ Some (here (next p)).text = ap (λ k. word_of_kind k (here (next p)).text) second in
      let note : noted (here p) (drop 1 p.rest) acc ≡ new =
      as_kind (here p) Word (drop 1 p.rest) acc word
      ∙ ap (λ b. block_noted b (word_of (first_of (drop 1 p.rest))) acc) is_block
      ∙ ap (λ o. block_noted true o acc) found
      ∙ ap (λ b. cond b acc new) fresh in
      let first : Scans acc new p.rest (next p).rest = record { scan = scan_first p.rest acc new some note; unknown = unknown_first p.rest some known; shorter = shorter_drop p.rest; ends = ends_behind p.rest (ap token_kind.is_end word) } in
      Scans-then acc new new p.rest (next p).rest (next (next p)).rest first (Scans-pass new (next p) (next (next p)) (pass_any_word names total (next p) more second none later))
