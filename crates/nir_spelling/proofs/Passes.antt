-- What passing over tokens leaves as it was: the counts of what was read, the names that a scan finds, and the first name that nothing defines.
use Rattle.std.proofs.Common.{◌≡◌, ℕ, ◌≤◌, Bool, true, false, cond, ◌&&◌, ◌||◌, List, [], ◌∷◌, length, drop, ℤ, Option, Some, None, codes, refl, sym, ap, ◌∙◌, arith}
use Rattle.std.specs.Str.{bytes_eq}
use Rattle.std.proofs.lemmas.Bool.{or_parts, and_right}
use Rattle.nir_lex.specs.Kinds as token_kind
use Rattle.nir_lex.specs.declared.token.TokenKind.{TokenKind}
use Rattle.nir_lex.specs.declared.token.TokenKind.TheVariants.{Word, Number, Name, Punct, End}
use Rattle.nir_text.specs.declared.counts.Counts as counts
use Rattle.nir_text.specs.Signs.{Sign, word_of, word_of_kind, name_of_kind, kind_is_word, is_mark, first_of}
use Rattle.nir_text.specs.Naming.{Naming, is_unknown, is_unknown_name, is_unknown_block, value_noted, block_noted, noted, naming_from, first_unknown}
use Rattle.nir_text.specs.Reading.{Point, here, next}

-- what is noted at a token of a kind
abbrev pub noted_as : TokenKind → List ℕ → List Sign → Naming → Naming
noted_as kind text behind acc = block_noted (kind_is_word kind && bytes_eq text (codes "block")) (word_of (first_of behind)) (value_noted (name_of_kind kind text) behind acc)

pub as_kind : (sign : Sign) (kind : TokenKind) (behind : List Sign) (acc : Naming) → sign.kind ≡ kind → noted sign behind acc ≡ noted_as kind sign.text behind acc
unfolding noted
as_kind sign kind behind acc e = ap (λ k. noted_as k sign.text behind acc) e

block_noted-none : (b : Bool) (acc : Naming) → block_noted b None acc ≡ acc
block_noted-none true acc = refl
block_noted-none false acc = refl

-- the last token, and no other, is the end of the text
abbrev pub EndsOnce : List Sign → Type 0
EndsOnce [] = ⊥
EndsOnce (sign ∷ []) = sign.kind ≡ End
EndsOnce (sign ∷ second ∷ signs) = (token_kind.is_end sign.kind ≡ false) × EndsOnce (second ∷ signs)

pub ends_behind : (signs : List Sign) → token_kind.is_end (first_of signs).kind ≡ false → EndsOnce signs → EndsOnce (drop 1 signs)
ends_behind [] e ends = absurd ends
ends_behind (sign ∷ []) e ends = absurd (let same = sym (ap token_kind.is_end ends) ∙ e in cc)
ends_behind (sign ∷ second ∷ signs) e ends = ends.1

module _ (names : Naming) (total : counts.Counts) where
  pub record Passes (p q : Point) : Type 0 where
    pub counts : q.counts ≡ p.counts
    pub scan : (acc : Naming) → naming_from acc p.rest ≡ naming_from acc q.rest
    pub unknown : first_unknown names total p.rest ≡ first_unknown names total q.rest
    pub shorter : length q.rest ≤ length p.rest
    pub ends : EndsOnce p.rest → EndsOnce q.rest

  pub Passes-refl : (p : Point) → Passes p p
  Passes-refl p = record { counts = refl; scan = λ acc. refl; unknown = refl; shorter = omega arith; ends = λ e. e }

  pub Passes-then : (p q r : Point) → Passes p q → Passes q r → Passes p r
  Passes-then p q r a b = record {
    counts = b.counts ∙ a.counts;
    scan = λ acc. a.scan acc ∙ b.scan acc;
    unknown = a.unknown ∙ b.unknown;
    shorter = omega (arith, a.shorter, b.shorter);
    ends = λ e. b.ends (a.ends e);
  }

  -- all names from here on are known
  abbrev pub Known : List Sign → Type 0
  Known signs = first_unknown names total signs ≡ None

  pub Known-behind : (p q : Point) → Passes p q → Known p.rest → Known q.rest
  Known-behind p q passes known = sym passes.unknown ∙ known

  known_first : (unknown : Bool) (place : ℕ) (others : Option ℕ) → cond unknown (Some place) others ≡ None → (unknown ≡ false) × (others ≡ None)
  known_first true place others e = absurd cc
  known_first false place others e = (refl, e)

  pub known_here : (signs : List Sign) → 1 ≤ length signs → Known signs → is_unknown names total (first_of signs) (drop 1 signs) ≡ false
  unfolding first_unknown
  known_here [] some known = absurd (omega arith)
  known_here (sign ∷ behind) some known = (known_first (is_unknown names total sign behind) sign.place (first_unknown names total behind) known).0

  pub Known-drop : (signs : List Sign) → Known signs → Known (drop 1 signs)
  unfolding first_unknown
  Known-drop [] known = known
  Known-drop (sign ∷ behind) known = (known_first (is_unknown names total sign behind) sign.place (first_unknown names total behind) known).1

  -- one token that notes nothing and is known
  pass_list : (signs : List Sign) (c : counts.Counts) → 1 ≤ length signs → token_kind.is_end (first_of signs).kind ≡ false → ((acc : Naming) → noted (first_of signs) (drop 1 signs) acc ≡ acc) → is_unknown names total (first_of signs) (drop 1 signs) ≡ false
      → Passes (record { rest = signs; counts = c }) (record { rest = drop 1 signs; counts = c })
  unfolding first_unknown naming_from
  pass_list [] c some goes notes known = absurd (omega arith)
  pass_list (sign ∷ behind) c some goes notes known = record {
    counts = refl;
    scan = λ acc. ap (λ a. naming_from a behind) (notes acc);
    unknown = ap (λ b. cond b (Some sign.place) (first_unknown names total behind)) known;
    shorter = omega arith;
    ends = ends_behind (sign ∷ behind) goes;
  }

  pub pass : (p : Point) → 1 ≤ length p.rest → token_kind.is_end (here p).kind ≡ false → ((acc : Naming) → noted (here p) (drop 1 p.rest) acc ≡ acc) → is_unknown names total (here p) (drop 1 p.rest) ≡ false → Passes p (next p)
  pass p some goes notes known = pass_list p.rest p.counts some goes notes known

  -- ---- tokens by their kinds

  abbrev pub unknown_as : TokenKind → List ℕ → List Sign → Bool
  unknown_as kind text behind = is_unknown_name names total (name_of_kind kind text) || (is_mark 58 (first_of behind) && is_unknown_block names total (word_of_kind kind text))

  pub unknown_kind : (sign : Sign) (kind : TokenKind) (behind : List Sign) → sign.kind ≡ kind → is_unknown names total sign behind ≡ unknown_as kind sign.text behind
  unknown_kind sign kind behind e = ap (λ k. unknown_as k sign.text behind) e

  pub pass_mark : (p : Point) (byte : ℕ) → 1 ≤ length p.rest → (here p).kind ≡ Punct byte → Passes p (next p)
  pass_mark p byte some e =
      pass p some (ap token_kind.is_end e) (λ acc. as_kind (here p) (Punct byte) (drop 1 p.rest) acc e)
      (unknown_kind (here p) (Punct byte) (drop 1 p.rest) e ∙ and_right (is_mark 58 (first_of (drop 1 p.rest))) false refl)

  pub pass_number : (p : Point) (value : ℤ) → 1 ≤ length p.rest → (here p).kind ≡ Number value → Passes p (next p)
  pass_number p value some e =
      pass p some (ap token_kind.is_end e) (λ acc. as_kind (here p) (Number value) (drop 1 p.rest) acc e)
      (unknown_kind (here p) (Number value) (drop 1 p.rest) e ∙ and_right (is_mark 58 (first_of (drop 1 p.rest))) false refl)

  -- a word that is not `block`
  pub pass_word : (p : Point) → 1 ≤ length p.rest → (here p).kind ≡ Word → bytes_eq (here p).text (codes "block") ≡ false → is_unknown names total (here p) (drop 1 p.rest) ≡ false → Passes p (next p)
  pass_word p some e other known =
      pass p some (ap token_kind.is_end e) (λ acc. as_kind (here p) Word (drop 1 p.rest) acc e ∙ ap (λ b. block_noted b (word_of (first_of (drop 1 p.rest))) acc) other) known

  -- a word, whichever it is, before what is no word
  pub pass_any_word : (p : Point) → 1 ≤ length p.rest → (here p).kind ≡ Word → word_of (first_of (drop 1 p.rest)) ≡ None → is_unknown names total (here p) (drop 1 p.rest) ≡ false → Passes p (next p)
  pass_any_word p some e none known =
      pass p some (ap token_kind.is_end e)
      (λ acc. as_kind (here p) Word (drop 1 p.rest) acc e ∙ ap (λ o. block_noted (bytes_eq (here p).text (codes "block")) o acc) none ∙ block_noted-none (bytes_eq (here p).text (codes "block")) acc)
      known

  -- a name that is used
  pub pass_name : (p : Point) → 1 ≤ length p.rest → (here p).kind ≡ Name → is_mark 61 (first_of (drop 1 p.rest)) ≡ false → is_unknown names total (here p) (drop 1 p.rest) ≡ false → Passes p (next p)
  pass_name p some e plain known =
      pass p some (ap token_kind.is_end e) (λ acc. as_kind (here p) Name (drop 1 p.rest) acc e ∙ name_noted (first_of (drop 1 p.rest)) (drop 1 p.rest) (here p).text acc plain) known
    where
      name_noted : (behind : Sign) (signs : List Sign) (text : List ℕ) (acc : Naming) → is_mark 61 (first_of signs) ≡ false → value_noted (Some text) signs acc ≡ acc
      name_noted behind signs text acc plain = rw plain refl

  -- ---- what is known without a look at the names

  pub word_known : (p : Point) → (here p).kind ≡ Word → is_mark 58 (first_of (drop 1 p.rest)) ≡ false → is_unknown names total (here p) (drop 1 p.rest) ≡ false
  word_known p e plain = unknown_kind (here p) Word (drop 1 p.rest) e ∙ ap (λ b. b && is_unknown_block names total (Some (here p).text)) plain

  pub block_known : (p : Point) → (here p).kind ≡ Word → is_unknown_block names total (Some (here p).text) ≡ false → is_unknown names total (here p) (drop 1 p.rest) ≡ false
  block_known p e there = unknown_kind (here p) Word (drop 1 p.rest) e ∙ and_right (is_mark 58 (first_of (drop 1 p.rest))) (is_unknown_block names total (Some (here p).text)) there

  pub name_known : (p : Point) → (here p).kind ≡ Name → is_unknown_name names total (Some (here p).text) ≡ false → is_unknown names total (here p) (drop 1 p.rest) ≡ false
  name_known p e there =
      unknown_kind (here p) Name (drop 1 p.rest) e ∙ ap (λ b. b || (is_mark 58 (first_of (drop 1 p.rest)) && false)) there ∙ and_right (is_mark 58 (first_of (drop 1 p.rest))) false refl

  -- ---- and what a known token says

  pub known_name : (p : Point) → (here p).kind ≡ Name → is_unknown names total (here p) (drop 1 p.rest) ≡ false → is_unknown_name names total (Some (here p).text) ≡ false
  known_name p e known =
      (or_parts (is_unknown_name names total (Some (here p).text)) (is_mark 58 (first_of (drop 1 p.rest)) && false) (sym (unknown_kind (here p) Name (drop 1 p.rest) e) ∙ known)).0

  pub known_block : (p : Point) → (here p).kind ≡ Word → is_mark 58 (first_of (drop 1 p.rest)) ≡ true → is_unknown names total (here p) (drop 1 p.rest) ≡ false → is_unknown_block names total (Some (here p).text) ≡ false
  known_block p e colon known = sym (ap (λ b. b && is_unknown_block names total (Some (here p).text)) colon) ∙ sym (unknown_kind (here p) Word (drop 1 p.rest) e) ∙ known
