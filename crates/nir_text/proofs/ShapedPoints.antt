-- From one point of a text to the next: what a reader that defines nothing leaves as it was, and that it uses only what the text defines.
use Rattle.std.proofs.Common.{◌≡◌, ℕ, ◌+◌, ◌^◌, ◌<◌, ◌≤◌, Bool, true, false, not, cond, ◌&&◌, List, [], ◌∷◌, length, drop, Option, Some, None, Result, Ok, Err, ◌⊎◌, nat_lt, refl, sym, ap, ◌∙◌, subst, inl, inr, arith, ltb-true}
use Rattle.std.specs.Option.{unwrap_or, option_and_then}
use Rattle.std.proofs.lemmas.Bool.{or_parts, not-false}
use Rattle.nir_ir.specs.declared.ids.BlockId.{BlockId}
use Rattle.nir_ir.specs.declared.ids.ValueId.{ValueId}
use Rattle.nir_text.specs.declared.counts.Counts as counts
use Rattle.nir_text.specs.declared.fault.TextFault.{TextFault}
use Rattle.nir_text.specs.declared.fault.TextFault.TheVariants.{Expected}
use Rattle.nir_text.specs.Signs.{Sign, word_of, name_of, number_of_kind, is_mark, is_word, first_of}
use Rattle.nir_text.specs.Naming.{Naming, place_of, is_among_first, is_unknown, is_unknown_name, is_unknown_block, first_unknown}
use Rattle.nir_text.specs.ReadingLaws.{ok_is, bind_ok, held, wanted_ok}
use Rattle.nir_text.specs.Reading.{Point, here, next, ◌>>=◌, mark_at, word_at, wanted, index_of, index_at, value_used_at, block_used_at}

-- what stands at the front is known, and so is all else
known-here : (unknown : Bool) (place : ℕ) (others : Option ℕ) → cond unknown (Some place) others ≡ None → (unknown ≡ false) × (others ≡ None)
known-here true place others e = absurd cc
known-here false place others e = (refl, e)

-- a place that is known is below the count
known_place : (m : ℕ) (o : Option ℕ) → not (is_among_first m o) ≡ false → unwrap_or o 0 < m
known_place m None e = absurd cc
known_place m (Some place) e = ltb-true place m (not-false (nat_lt place m) e)

known_name : (names : Naming) (total : counts.Counts) (name : List ℕ) (o : Option (List ℕ)) → o ≡ Some name → is_unknown_name names total o ≡ false → unwrap_or (place_of name names.values) 0 < total.values
known_name names total name o same known = known_place total.values (place_of name names.values) (sym (ap (is_unknown_name names total) same) ∙ known)

known_block : (names : Naming) (total : counts.Counts) (word : List ℕ) (o : Option (List ℕ)) (b : Bool) → o ≡ Some word → b ≡ true → (b && is_unknown_block names total o) ≡ false → unwrap_or (place_of word names.blocks) 0 < total.blocks
known_block names total word o b same colon known =
    known_place total.blocks (place_of word names.blocks) (sym (ap (is_unknown_block names total) same) ∙ sym (ap (λ t. t && is_unknown_block names total o) colon) ∙ known)

module _ (names : Naming) (total : counts.Counts) where
  known-drop : (signs : List Sign) → first_unknown names total signs ≡ None → first_unknown names total (drop 1 signs) ≡ None
  unfolding first_unknown
  known-drop [] known = refl
  known-drop (sign ∷ behind) known = (known-here (is_unknown names total sign behind) sign.place (first_unknown names total behind) known).1

  known-name : (signs : List Sign) (name : List ℕ) → first_unknown names total signs ≡ None → name_of (first_of signs) ≡ Some name → unwrap_or (place_of name names.values) 0 < total.values
  unfolding first_unknown
  known-name [] name known same = absurd cc
  known-name (sign ∷ behind) name known same =
      let here = (known-here (is_unknown names total sign behind) sign.place (first_unknown names total behind) known).0 in
      known_name names total name (name_of sign) same (or_parts (is_unknown_name names total (name_of sign)) (is_mark 58 (first_of behind) && is_unknown_block names total (word_of sign)) here).0

  known-block : (signs : List Sign) (word : List ℕ) → first_unknown names total signs ≡ None → word_of (first_of signs) ≡ Some word → is_mark 58 (first_of (drop 1 signs)) ≡ true
      → unwrap_or (place_of word names.blocks) 0 < total.blocks
  unfolding first_unknown
  known-block [] word known same colon = absurd cc
  known-block (sign ∷ behind) word known same colon =
      let here = (known-here (is_unknown names total sign behind) sign.place (first_unknown names total behind) known).0 in
      known_block names total word (word_of sign) (is_mark 58 (first_of behind)) same colon
      (or_parts (is_unknown_name names total (name_of sign)) (is_mark 58 (first_of behind) && is_unknown_block names total (word_of sign)) here).1

  -- what is left names only what the text defines, and is not too long
  pub record Stands (signs : List Sign) : Type 0 where
    pub known : first_unknown names total signs ≡ None
    pub room : length signs ≤ 2 ^ 32

  pub record Passes (p q : Point) : Type 0 where
    pub counts : q.counts ≡ p.counts
    pub shorter : length q.rest ≤ length p.rest
    pub stands : Stands q.rest

length-drop1 : (signs : List Sign) → length (drop 1 signs) ≤ length signs
length-drop1 [] = omega arith
length-drop1 (sign ∷ signs) = omega arith

-- a mark stands on a token
pub mark-shorter : (mark : ℕ) (signs : List Sign) → is_mark mark (first_of signs) ≡ true → length (drop 1 signs) + 1 ≡ length signs
mark-shorter mark [] e = absurd cc
mark-shorter mark (sign ∷ signs) e = omega arith

pub mark_ok : (mark : ℕ) (p q : Point) → mark_at mark p ≡ Ok q → (is_mark mark (here p) ≡ true) × (next p ≡ q)
unfolding mark_at
mark_ok mark p q e =
    let h = held (is_mark mark (here p)) (Expected (here p).place) (Ok (next p)) q e in
    (h.0, ok_is (next p) q h.1)

pub word_ok : (word : List ℕ) (p q : Point) → word_at word p ≡ Ok q → next p ≡ q
unfolding word_at
word_ok word p q e =
    let h = held (is_word word (here p)) (Expected (here p).place) (Ok (next p)) q e in
    ok_is (next p) q h.1

-- a mark is a token the less
pub mark_eats : (mark : ℕ) (p q : Point) → mark_at mark p ≡ Ok q → length q.rest + 1 ≡ length p.rest
mark_eats mark p q e =
    let h = mark_ok mark p q e in
    subst (λ (y : Point). length y.rest + 1 ≡ length p.rest) h.1 (mark-shorter mark p.rest h.0)

module _ (names : Naming) (total : counts.Counts) where
  pub Passes-refl : (p : Point) → Stands names total p.rest → Passes names total p p
  Passes-refl p stands = record { counts = refl; shorter = omega arith; stands = stands }

  pub Passes-next : (p : Point) → Stands names total p.rest → Passes names total p (next p)
  Passes-next p stands = record {
    counts = refl;
    shorter = length-drop1 p.rest;
    stands = record { known = known-drop names total p.rest stands.known; room = omega (arith, length-drop1 p.rest, stands.room) };
  }

  pub Passes-to : (p q : Point) → Stands names total p.rest → next p ≡ q → Passes names total p q
  Passes-to p q stands same = subst (Passes names total p) same (Passes-next p stands)

  pub Passes-then : (p q r : Point) → Passes names total p q → Passes names total q r → Passes names total p r
  Passes-then p q r first second = record { counts = second.counts ∙ first.counts; shorter = omega (arith, first.shorter, second.shorter); stands = second.stands }

  pub mark_passes : (mark : ℕ) (p q : Point) → Stands names total p.rest → mark_at mark p ≡ Ok q → Passes names total p q
  mark_passes mark p q stands e = Passes-to p q stands (mark_ok mark p q e).1

  pub word_passes : (word : List ℕ) (p q : Point) → Stands names total p.rest → word_at word p ≡ Ok q → Passes names total p q
  word_passes word p q stands e = Passes-to p q stands (word_ok word p q e)

  pub wanted_passes : {A : Type 0} (o : Option A) (p : Point) (x : A × Point) → Stands names total p.rest → wanted o p ≡ Ok x → Passes names total p x.1 × (o ≡ Some x.0)
  wanted_passes o p x stands e =
      let h = wanted_ok o p x e in
      (Passes-to p x.1 stands h.1, h.0)

  pub index_passes : (p : Point) (x : ℕ × Point) → Stands names total p.rest → index_at p ≡ Ok x → Passes names total p x.1
  unfolding index_at
  index_passes p x stands e = (wanted_passes (option_and_then index_of (number_of_kind (here p).kind)) p x stands e).0

  pub value_used : (p : Point) (x : ValueId × Point) → Stands names total p.rest → value_used_at names p ≡ Ok x → Passes names total p x.1 × (x.0.0 < total.values)
  unfolding value_used_at
  value_used p x stands e =
      let a = bind_ok (wanted (name_of (here p)) p) (λ name. Ok (record { 0 = unwrap_or (place_of name.0 names.values) 0 }, name.1)) x e in
      let w = wanted_passes (name_of (here p)) p a.0 stands a.1 in
      let used : unwrap_or (place_of a.0.0 names.values) 0 < total.values = known-name names total p.rest a.0.0 stands.known w.1 in
      let made : ValueId × Point = (record { 0 = unwrap_or (place_of a.0.0 names.values) 0 }, a.0.1) in
      subst (λ (y : ValueId × Point). Passes names total p y.1 × (y.0.0 < total.values)) {x = made} (ok_is made x a.2) (w.0, used)

  -- a word before `:`
  pub block_used : (p : Point) (x : BlockId × Point) (q : Point) → Stands names total p.rest → block_used_at names p ≡ Ok x → mark_at 58 x.1 ≡ Ok q → Passes names total p q × (x.0.0 < total.blocks)
  unfolding block_used_at
  block_used p x q stands e colon =
      let a = bind_ok (wanted (word_of (here p)) p) (λ word. Ok (record { 0 = unwrap_or (place_of word.0 names.blocks) 0 }, word.1)) x e in
      let w = wanted_ok (word_of (here p)) p a.0 a.1 in
      let made : BlockId × Point = (record { 0 = unwrap_or (place_of a.0.0 names.blocks) 0 }, a.0.1) in
      let same = ok_is made x a.2 in
      let to : next p ≡ x.1 = w.1 ∙ ap (λ (y : BlockId × Point). y.1) same in
      let mark : is_mark 58 (here (next p)) ≡ true = subst (λ (y : Point). is_mark 58 (here y) ≡ true) (sym to) (mark_ok 58 x.1 q colon).0 in
      let used : unwrap_or (place_of a.0.0 names.blocks) 0 < total.blocks = known-block names total p.rest a.0.0 stands.known w.0 mark in
      let first : Passes names total p x.1 = Passes-to p x.1 stands to in
      (Passes-then p x.1 q first (mark_passes 58 x.1 q first.stands colon), subst (λ (y : BlockId × Point). y.0.0 < total.blocks) same used)
