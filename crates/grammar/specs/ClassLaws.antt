-- Laws of classes of terminals: what the computed tests on classes say of the terminals in them.
use Rattle.std.specs.Prelude.{◌≡◌, refl, ℕ, Bool, true, false, not, ◌||◌, ◌==◌, List, [], ◌∷◌, ◌++◌, length}
use Rattle.std.specs.Str.{bytes_eq}
use Rattle.std.proofs.Common.{◌≤◌, ⊎_elim, sym, ap, ◌∙◌, subst, eqb-true, arith}
use Rattle.std.proofs.lemmas.Slice.Eq.{bytes_eq-Decides}
use Rattle.std.proofs.lemmas.Bool.{and_parts, both_ways, not-true, or_cases, or_left, or_parts, or_right}
use Rattle.nir_lex.specs.declared.token.TokenKind.{TokenKind}
use Rattle.nir_lex.specs.declared.token.TokenKind.TheVariants.{Word, Number, Name, Quoted, Punct, End}
use Rattle.grammar.specs.Terminals.{Terminal, Class, TheWord, WordBut, TheMark, ANumber, AName, AQuoted, TheEnd, is_among, all_among, kind_has, has, apart, included, holds, starts, apart_from, all_apart, included_in, all_included}
use Rattle.grammar.specs.Lookahead.{if_so}
use Rattle.grammar.specs.ChoiceLaws.{refuted}

bytes_same : (a b : List ℕ) → bytes_eq a b ≡ true → a ≡ b
bytes_same a b = (bytes_eq-Decides a b).0

same_bytes : (a b : List ℕ) → a ≡ b → bytes_eq a b ≡ true
same_bytes a b = (bytes_eq-Decides a b).1

-- ---- no terminal is in two classes that are apart

two_words : (word other text : List ℕ) → not (bytes_eq word other) ≡ true → bytes_eq text word ≡ true → bytes_eq text other ≡ true → ⊥
two_words word other text e h k =
    both_ways (bytes_eq word other) (not-true (bytes_eq word other) e)
    (same_bytes word other (sym (bytes_same text word h) ∙ bytes_same text other k))

excluded_word : (word : List ℕ) (words : List (List ℕ)) (text : List ℕ) → is_among word words ≡ true → bytes_eq text word ≡ true
    → not (is_among text words) ≡ true → ⊥
excluded_word word words text e h k =
    both_ways (is_among text words) (not-true (is_among text words) k)
    (subst (λ w. is_among w words ≡ true) (sym (bytes_same text word h)) e)

two_marks : (mark other byte : ℕ) → not (mark == other) ≡ true → (byte == mark) ≡ true → (byte == other) ≡ true → ⊥
two_marks mark other byte e h k =
    both_ways (mark == other) (not-true (mark == other) e) (subst (λ m. (m == other) ≡ true) (eqb-true byte mark h) k)

kinds_apart : (c d : Class) (kind : TokenKind) (text : List ℕ) → apart c d ≡ true → kind_has c kind text ≡ true → kind_has d kind text ≡ true → ⊥
kinds_apart (TheWord word) (TheWord other) Word text e h k = two_words word other text e h k
kinds_apart (TheWord word) (WordBut words) Word text e h k = excluded_word word words text e h k
kinds_apart (WordBut words) (TheWord word) Word text e h k = excluded_word word words text e k h
kinds_apart (TheMark mark) (TheMark other) (Punct byte) text e h k = two_marks mark other byte e h k
kinds_apart ANumber ANumber kind text e h k = cc
kinds_apart AName AName kind text e h k = cc
kinds_apart AQuoted AQuoted kind text e h k = cc
kinds_apart TheEnd TheEnd kind text e h k = cc
kinds_apart _ _ Word text e h k = cc
kinds_apart _ _ (Number value) text e h k = cc
kinds_apart _ _ Name text e h k = cc
kinds_apart _ _ Quoted text e h k = cc
kinds_apart _ _ (Punct byte) text e h k = cc
kinds_apart _ _ End text e h k = cc

pub in_one : (c d : Class) (t : Terminal) → apart c d ≡ true → has c t ≡ true → has d t ≡ true → ⊥
in_one c d t e h k = kinds_apart c d t.kind t.text e h k

in_one_from : (c : Class) (ds : List Class) (t : Terminal) → apart_from c ds ≡ true → has c t ≡ true → holds ds t ≡ true → ⊥
in_one_from c [] t e h k = cc
in_one_from c (d ∷ ds) t e h k =
    let parts = and_parts (apart c d) (apart_from c ds) e in
    ⊎_elim (λ this. in_one c d t parts.0 h this) (λ that. in_one_from c ds t parts.1 h that) (or_cases (has d t) (holds ds t) k)

holds_apart : (cs ds : List Class) (t : Terminal) → all_apart cs ds ≡ true → holds cs t ≡ true → holds ds t ≡ true → ⊥
holds_apart [] ds t e h k = cc
holds_apart (c ∷ cs) ds t e h k =
    let parts = and_parts (apart_from c ds) (all_apart cs ds) e in
    ⊎_elim (λ this. in_one_from c ds t parts.0 this k) (λ that. holds_apart cs ds t parts.1 that k) (or_cases (has c t) (holds cs t) h)

pub starts_apart : (cs ds : List Class) (ts : List Terminal) → all_apart cs ds ≡ true → starts ds ts ≡ true → starts cs ts ≡ false
starts_apart cs ds [] e k = refl
starts_apart cs ds (t ∷ ts) e k = refuted (holds cs t) (λ h. holds_apart cs ds t e h k)

-- ---- each terminal of a class that is included is in the other

among_others : (text : List ℕ) (words others : List (List ℕ)) → all_among words others ≡ true → is_among text words ≡ true → is_among text others ≡ true
among_others text [] others e h = absurd cc
among_others text (word ∷ words) others e h =
    let parts = and_parts (is_among word others) (all_among words others) e in
    ⊎_elim
    (λ this. subst (λ w. is_among w others ≡ true) (sym (bytes_same text word this)) parts.0)
    (λ that. among_others text words others parts.1 that)
    (or_cases (bytes_eq text word) (is_among text words) h)

excluded_still : (text : List ℕ) (words others : List (List ℕ)) → all_among others words ≡ true → not (is_among text words) ≡ true
    → not (is_among text others) ≡ true
excluded_still text words others e h =
    let never = not-true (is_among text words) h in
    ap not (refuted (is_among text others) (λ still. both_ways (is_among text words) never (among_others text others words e still)))

kinds_included : (c d : Class) (kind : TokenKind) (text : List ℕ) → included c d ≡ true → kind_has c kind text ≡ true → kind_has d kind text ≡ true
kinds_included (TheWord word) (TheWord other) Word text e h = same_bytes text other (bytes_same text word h ∙ bytes_same word other e)
kinds_included (TheWord word) (WordBut words) Word text e h = subst (λ w. not (is_among w words) ≡ true) (sym (bytes_same text word h)) e
kinds_included (WordBut words) (WordBut others) Word text e h = excluded_still text words others e h
kinds_included (TheMark mark) (TheMark other) (Punct byte) text e h = subst (λ m. (m == other) ≡ true) (sym (eqb-true byte mark h)) e
kinds_included ANumber ANumber kind text e h = h
kinds_included AName AName kind text e h = h
kinds_included AQuoted AQuoted kind text e h = h
kinds_included TheEnd TheEnd kind text e h = h
kinds_included _ _ _ text e h = absurd cc

included_in_has : (c : Class) (ds : List Class) (t : Terminal) → included_in c ds ≡ true → has c t ≡ true → holds ds t ≡ true
included_in_has c [] t e h = absurd cc
included_in_has c (d ∷ ds) t e h =
    ⊎_elim
    (λ this. or_left (has d t) (holds ds t) (kinds_included c d t.kind t.text this h))
    (λ that. or_right (has d t) (holds ds t) (included_in_has c ds t that h))
    (or_cases (included c d) (included_in c ds) e)

holds_included : (cs ds : List Class) (t : Terminal) → all_included cs ds ≡ true → holds cs t ≡ true → holds ds t ≡ true
holds_included [] ds t e h = absurd cc
holds_included (c ∷ cs) ds t e h =
    let parts = and_parts (included_in c ds) (all_included cs ds) e in
    ⊎_elim (λ this. included_in_has c ds t parts.0 this) (λ that. holds_included cs ds t parts.1 that) (or_cases (has c t) (holds cs t) h)

pub starts_included : (cs ds : List Class) (ts : List Terminal) → all_included cs ds ≡ true → starts cs ts ≡ true → starts ds ts ≡ true
starts_included cs ds [] e h = absurd cc
starts_included cs ds (t ∷ ts) e h = holds_included cs ds t e h

-- ---- several lists of classes

holds-append : (cs ds : List Class) (t : Terminal) → holds (cs ++ ds) t ≡ (holds cs t || holds ds t)
holds-append [] ds t = refl
holds-append (c ∷ cs) ds t = at (has c t) (holds-append cs ds t)
  where
    at : (b : Bool) → holds (cs ++ ds) t ≡ (holds cs t || holds ds t) → (b || holds (cs ++ ds) t) ≡ ((b || holds cs t) || holds ds t)
    at true e = refl
    at false e = e

pub starts-append : (cs ds : List Class) (ts : List Terminal) → starts (cs ++ ds) ts ≡ (starts cs ts || starts ds ts)
starts-append cs ds [] = refl
starts-append cs ds (t ∷ ts) = holds-append cs ds t

pub starts_none : (cs ds : List Class) (ts : List Terminal) → starts (cs ++ ds) ts ≡ false → (starts cs ts ≡ false) × (starts ds ts ≡ false)
starts_none cs ds ts e = or_parts (starts cs ts) (starts ds ts) (sym (starts-append cs ds ts) ∙ e)

pub starts_left : (cs ds : List Class) (ts : List Terminal) → starts cs ts ≡ true → starts (cs ++ ds) ts ≡ true
starts_left cs ds ts e = starts-append cs ds ts ∙ or_left (starts cs ts) (starts ds ts) e

pub starts_right : (cs ds : List Class) (ts : List Terminal) → starts ds ts ≡ true → starts (cs ++ ds) ts ≡ true
starts_right cs ds ts e = starts-append cs ds ts ∙ or_right (starts cs ts) (starts ds ts) e

pub if_so_true : (b : Bool) (cs : List Class) (ts : List Terminal) → b ≡ true → starts cs ts ≡ true → starts (if_so b cs) ts ≡ true
if_so_true true cs ts e h = h
if_so_true false cs ts e h = absurd cc

pub if_so_none : (b : Bool) (cs : List Class) (ts : List Terminal) → b ≡ true → starts (if_so b cs) ts ≡ false → starts cs ts ≡ false
if_so_none true cs ts e h = h
if_so_none false cs ts e h = absurd cc

-- a text that begins so has a terminal
pub starts_some : (cs : List Class) (ts : List Terminal) → starts cs ts ≡ true → 1 ≤ length ts
starts_some cs [] e = absurd cc
starts_some cs (t ∷ ts) e = omega arith
