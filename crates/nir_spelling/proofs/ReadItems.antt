-- Instructions, phis and blocks that were read take the next numbers in order, are called by the next names, and are spelled.
use Rattle.std.proofs.Common.{◌≡◌, ℕ, suc, ◌+◌, ◌<◌, ◌≤◌, true, false, List, [], ◌∷◌, ◌++◌, map, take, length, drop, Option, Some, None, is_some, refl, sym, ap, ◌∙◌, subst, arith, append_assoc, append-nil, length-append, option_to_list}
use Rattle.std.proofs.Math.Seq.{take-append_seam}
use Rattle.std.specs.Option.{option_and_then}
use Rattle.nir_ir.specs.declared.ids.EffectId.{EffectId}
use Rattle.nir_ir.specs.declared.ids.ValueId.{ValueId}
use Rattle.nir_ir.specs.declared.instr.Instr.{Instr}
use Rattle.nir_ir.specs.declared.kind.Kind.{Kind}
use Rattle.nir_ir.specs.Items.{Item, InstrItem, target, effect_of}
use Rattle.nir_ir.specs.Definitions.{kind_of_target}
use Rattle.nir_lex.specs.declared.token.TokenKind.TheVariants.{Name, Punct}
use Rattle.nir_text.specs.declared.counts.Counts as counts
use Rattle.nir_text.specs.Signs.{word_of, is_mark, first_of}
use Rattle.nir_text.specs.Kinds.{kind_named}
use Rattle.nir_text.specs.Naming.{Naming, place_of, is_among_first, naming_from}
use Rattle.nir_text.specs.Reading.{Point, here, next, value_begun}
use Rattle.nir_spelling.specs.Lexemes.{lexemes_of, Behind, Part, ◌▹◌, IsMark}
use Rattle.nir_spelling.specs.Spelling.{IsValue}
use Rattle.nir_spelling.proofs.Names.{no_place, get_of_more}
use Rattle.nir_spelling.proofs.Passes.{EndsOnce, Known, Known-behind, known_here}
use Rattle.nir_spelling.proofs.Tokens.{mark_kind, there_by_kind, begins}
use Rattle.nir_spelling.proofs.Took.{Took}
use Rattle.nir_spelling.proofs.Grows.{InOrder, Numbers, Numbers-none, Numbers-append, after, after-none, after-append, counts_same, counts_in, counts_in-append, one_value, Extends-naming, value_scans}

-- the first names, of which the list begins with one more
pub one_more : (all front more : List (List ℕ)) (name : List ℕ) (n : ℕ) → length front ≡ n → all ≡ (front ++ name ∷ []) ++ more → take (suc n) all ≡ front ++ name ∷ []
one_more all front more name n len same =
    let size : suc n ≡ length (front ++ name ∷ []) = omega (arith, len, length-append front (name ∷ [])) in
    (λ j. take (size j) (same j)) ∙ take-append_seam (front ++ name ∷ []) more

module _ (names : Naming) (total : counts.Counts) where
  -- what was noted so far are the first names of all, as many as were read
  pub record Stands (acc : Naming) (p : Point) : Type 0 where
    pub values : acc.values ≡ take p.counts.values names.values
    pub value_count : length acc.values ≡ p.counts.values
    pub blocks : acc.blocks ≡ take p.counts.blocks names.blocks
    pub block_count : length acc.blocks ≡ p.counts.blocks
    pub few : p.counts.values ≤ 16384
    pub whole : naming_from acc p.rest ≡ names
    pub known : Known names total p.rest
    pub ends : EndsOnce p.rest

  -- the part between two points is these items
  pub record Read (acc : Naming) (p q : Point) (items : List Item) (part : Part) : Type 1 where
    pub new : Naming
    pub stands : Stands new q
    pub counts : q.counts ≡ after p.counts items
    pub kinds : new.counts ≡ acc.counts ++ counts_in items
    pub numbers : Numbers p.counts items
    pub spells : (behind : Behind) → behind (lexemes_of q.rest) → part behind (lexemes_of p.rest)

  pub Read-then : (acc : Naming) (p q r : Point) (xs ys : List Item) (first second : Part) (a : Read acc p q xs first) → Read a.new q r ys second → Read acc p r (xs ++ ys) (λ behind. first (second behind))
  Read-then acc p q r xs ys first second a b = record {
    new = b.new;
    stands = b.stands;
    counts = b.counts ∙ ap (λ c. after c ys) a.counts ∙ after-append p.counts xs ys;
    kinds = b.kinds ∙ ap (λ l. l ++ counts_in ys) a.kinds ∙ append_assoc acc.counts (counts_in xs) (counts_in ys) ∙ ap (λ l. acc.counts ++ l) (sym (counts_in-append xs ys));
    numbers = Numbers-append p.counts xs ys a.numbers (subst (λ c. Numbers c ys) a.counts b.numbers);
    spells = λ behind left. a.spells (second behind) (b.spells behind left);
  }

  pub Stands-took : (acc : Naming) (p q : Point) (part : Part) → Stands acc p → Took names total p q part → Stands acc q
  Stands-took acc p q part stands took =
      let same = took.passes.counts in
      record {
        values = stands.values ∙ ap (λ c. take c.values names.values) (sym same);
        value_count = stands.value_count ∙ ap (λ c. c.values) (sym same);
        blocks = stands.blocks ∙ ap (λ c. take c.blocks names.blocks) (sym same);
        block_count = stands.block_count ∙ ap (λ c. c.blocks) (sym same);
        few = subst (λ (c : counts.Counts). c.values ≤ 16384) (sym same) stands.few;
        whole = sym (took.passes.scan acc) ∙ stands.whole;
        known = Known-behind names total p q took.passes stands.known;
        ends = took.passes.ends stands.ends;
      }

  -- a part that defines nothing
  pub Read-took : (acc : Naming) (p q : Point) (part : Part) → Stands acc p → Took names total p q part → Read acc p q [] part
  Read-took acc p q part stands took = record {
    new = acc;
    stands = Stands-took acc p q part stands took;
    counts = took.passes.counts ∙ sym (after-none p.counts);
    kinds = sym (append-nil acc.counts);
    numbers = Numbers-none p.counts;
    spells = took.spells;
  }

  pub Read-items : (acc : Naming) (p q : Point) (xs ys : List Item) (part : Part) → xs ≡ ys → Read acc p q xs part → Read acc p q ys part
  Read-items acc p q xs ys part same read = subst (λ items. Read acc p q items part) same read

  -- ---- a value that is defined

  abbrev counted_value : counts.Counts → counts.Counts
  counted_value c = record c { values = c.values + 1 }

  -- a name and `=`
  pub record Defined (acc : Naming) (p : Point) (value : ValueId) (kind : Kind) (q : Point) : Type 1 where
    pub new : Naming
    pub stands : Stands new q
    pub number : value.0 ≡ p.counts.values
    pub counts : q.counts ≡ record p.counts { values = p.counts.values + 1 }
    pub kinds : new.counts ≡ acc.counts ++ kind.count ∷ []
    pub spells : (behind : Behind) → behind (lexemes_of q.rest) → (IsValue names value ▹ IsMark 61 ▹ behind) (lexemes_of p.rest)

  pub defined_at : (acc : Naming) (p : Point) (kind : Kind) → Stands acc p → (here p).kind ≡ Name → is_among_first p.counts.values (place_of (here p).text names.values) ≡ false
      → is_mark 61 (here (next p)) ≡ true → option_and_then kind_named (word_of (first_of (drop 1 (next (next p)).rest))) ≡ Some kind → p.counts.values < 16384
      → Defined acc p (record { 0 = p.counts.values }) kind (next (value_begun p))
  defined_at acc p kind stands name once mark is_kind few =
      let text = (here p).text in
      let new = one_value acc text kind.count in
      let some = there_by_kind p.rest Name name refl in
      let equals = mark_kind 61 (here (next p)).kind mark in
      let more = there_by_kind (next p).rest (Punct 61) equals refl in
      let fresh : is_some (place_of text acc.values) ≡ false = ap (λ l. is_some (place_of text l)) stands.values ∙ no_place text names.values p.counts.values once in
      let scans = value_scans names total acc p kind some name equals more mark fresh (known_here names total p.rest some stands.known) is_kind in
      let whole : naming_from new (next (next p)).rest ≡ names = sym scans.scan ∙ stands.whole in
      let extends = Extends-naming new (next (next p)).rest in
      let all : names.values ≡ (acc.values ++ text ∷ []) ++ extends.more_values = ap (λ (n : Naming). n.values) (sym whole) ∙ extends.values in
      let taken : take (suc p.counts.values) names.values ≡ acc.values ++ text ∷ [] = one_more names.values acc.values extends.more_values text p.counts.values stands.value_count all in
      let one : suc p.counts.values ≡ p.counts.values + 1 = omega arith in
      record {
        new = new;
        stands = record {
          values = sym taken ∙ ap (λ n. take n names.values) one;
          value_count = length-append acc.values (text ∷ []) ∙ ap (λ n. n + 1) stands.value_count;
          blocks = stands.blocks;
          block_count = stands.block_count;
          few = omega (arith, few);
          whole = whole;
          known = sym scans.unknown ∙ stands.known;
          ends = scans.ends stands.ends;
        };
        number = refl;
        counts = refl;
        kinds = refl;
        spells = λ behind left.
            begins (IsValue names (record { 0 = p.counts.values })) (IsMark 61 ▹ behind) p.rest some (name, get_of_more names.values p.counts.values acc.values text stands.value_count taken)
            (begins (IsMark 61) behind (drop 1 p.rest) more equals left);
      }

  -- ---- an instruction that defines a value

  one_values : (instr : Instr) (value : ValueId) (c : counts.Counts) → target instr ≡ Some value → effect_of instr ≡ None → value.0 ≡ c.values → Numbers c (InstrItem instr ∷ [])
  one_values instr value c is none same = record {
    values = subst (λ (o : Option ValueId). InOrder c.values (map (λ id. id.0) (option_to_list o) ++ [])) (sym is) (same, tt);
    blocks = tt;
    effects = subst (λ (o : Option EffectId). InOrder c.effects (map (λ id. id.0) (option_to_list o) ++ [])) (sym none) tt;
    ifs = tt;
    loops = tt;
  }

  one_after : (instr : Instr) (value : ValueId) (c : counts.Counts) → target instr ≡ Some value → effect_of instr ≡ None → counted_value c ≡ after c (InstrItem instr ∷ [])
  one_after instr value c is none =
      let values : c.values + 1 ≡ c.values + length (map (λ (id : ValueId). id.0) (option_to_list (target instr)) ++ []) = ap (λ (o : Option ValueId). c.values + length (map (λ id. id.0) (option_to_list o) ++ [])) (sym is) in
      let effects : c.effects ≡ c.effects + length (map (λ (id : EffectId). id.0) (option_to_list (effect_of instr)) ++ []) =
      plus_zero c.effects ∙ ap (λ (o : Option EffectId). c.effects + length (map (λ id. id.0) (option_to_list o) ++ [])) (sym none) in
      counts_same (counted_value c) (after c (InstrItem instr ∷ [])) values (plus_zero c.blocks) effects (plus_zero c.ifs) (plus_zero c.loops)
    where
      plus_zero : (n : ℕ) → n ≡ n + 0
      plus_zero n = omega arith

  one_kind : (instr : Instr) (kind : Kind) → kind_of_target instr ≡ Some kind → kind.count ∷ [] ≡ counts_in (InstrItem instr ∷ [])
  one_kind instr kind is = ap (λ (o : Option Kind). map (λ k. k.count) (option_to_list o ++ [])) (sym is)

  pub Read-defined : (acc : Naming) (p q r : Point) (value : ValueId) (kind : Kind) (instr : Instr) (part whole : Part)
      → target instr ≡ Some value → kind_of_target instr ≡ Some kind → effect_of instr ≡ None
      → Defined acc p value kind q → Took names total q r part
      → ((behind : Behind) → (IsValue names value ▹ IsMark 61 ▹ part behind) (lexemes_of p.rest) → whole behind (lexemes_of p.rest))
      → Read acc p r (InstrItem instr ∷ []) whole
  Read-defined acc p q r value kind instr part whole is is_kind none defined took spelled = record {
    new = defined.new;
    stands = Stands-took defined.new q r part defined.stands took;
    counts = took.passes.counts ∙ defined.counts ∙ one_after instr value p.counts is none;
    kinds = defined.kinds ∙ ap (λ l. acc.counts ++ l) (one_kind instr kind is_kind);
    numbers = one_values instr value p.counts is none defined.number;
    spells = λ behind left. spelled behind (defined.spells (part behind) (took.spells behind left));
  }
