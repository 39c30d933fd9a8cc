-- The law of the order of tokens, and what it says by place.
use Rattle.std.proofs.Common.{◌≡◌, ℕ, zero, suc, ◌+◌, ◌-◌, ◌≤◌, List, [], ◌∷◌, length, map, Option, Some, None, Result, Ok, Err, refl, sym, ap, subst, arith}
use Rattle.std.specs.Prelude.{slice_get, IfOk}
use Rattle.std.specs.Option.{option_map}
use Rattle.std.specs.List.{AllByRecursion}
use Rattle.std.specs.List.Sorted.{IsStrictlyIncreasing}
use Rattle.nir_lex.specs.declared.fault.LexFault.{LexFault}
use Rattle.nir_lex.specs.declared.token.Token.{Token}
use Rattle.nir_lex.specs.declared.token.TokenKind.{TokenKind}
use Rattle.nir_lex.specs.declared.token.TokenKind.TheVariants.{Word, Number, Name, Quoted, Punct, End}
use Rattle.nir_lex.specs.declared.piece.Piece.{Piece}
use Rattle.nir_lex.specs.Pieces.{piece_at}
use Rattle.nir_lex.specs.Reading.{end_token, token, with_first, piece_then, tokens_from, read_tokens, Gives}
use Rattle.nir_lex.specs.Laws.{AreTokensFrom, IsWithin, TokensAreInOrder, least_size}
use Rattle.nir_lex.proofs.Sound.{IfKind, IsSoundKind, AreSound, piece_at-sound}

abbrev Read : Type 0
Read = Result (List Token) LexFault

-- a place before is as good
earlier : (low place high : ℕ) (tokens : List Token) → low ≤ place → AreTokensFrom place high tokens → AreTokensFrom low high tokens
earlier low place high [] le h = h
earlier low place high (last ∷ []) le h = (h.0, omega (arith, h.1))
earlier low place high (first ∷ next ∷ others) le h = (omega (arith, h.0), h.1, h.2, h.3)

before_end : (place high : ℕ) (tokens : List Token) → AreTokensFrom place high tokens → place ≤ high
before_end place high [] h = absurd h
before_end place high (last ∷ []) h = h.1
before_end place high (first ∷ next ∷ others) h = omega (arith, h.0, h.1.size, h.1.end)

joined : (place tail high : ℕ) (kind : TokenKind) (tokens : List Token) → IsSoundKind tail kind → AreTokensFrom (place + 1 + tail) high tokens → AreTokensFrom place high (token place (place + 1 + tail) kind ∷ tokens)
joined place tail high kind [] sound h = absurd h
joined place tail high kind (next ∷ others) sound h =
    (omega arith, record { size = omega (arith, sound.size); end = before_end (place + 1 + tail) high (next ∷ others) h; limits = sound.limits }, sound.no_end, h)

with_first-in_order : (place tail high : ℕ) (kind : Option TokenKind) (read : Read) (tokens : List Token) → IfKind tail kind → ((l : List Token) → read ≡ Ok l → AreTokensFrom (place + 1 + tail) high l) → with_first (option_map (token place (place + 1 + tail)) kind) read ≡ Ok tokens → AreTokensFrom place high tokens
with_first-in_order place tail high None read tokens sound others is = earlier place (place + 1 + tail) high tokens (omega arith) (others tokens is)
with_first-in_order place tail high (Some kind) (Ok l) tokens sound others is =
    let same : token place (place + 1 + tail) kind ∷ l ≡ tokens = cc in
    subst (AreTokensFrom place high) same (joined place tail high kind l sound (others l refl))
with_first-in_order place tail high (Some kind) (Err fault) tokens sound others is = absurd cc

piece_then-in_order : (place room : ℕ) (read : Result Piece LexFault) (others : ℕ → Read) (tokens : List Token) → AreSound room read
    → ((skip : ℕ) (l : List Token) → skip ≤ room → others skip ≡ Ok l → AreTokensFrom (place + 1 + skip) (place + 1 + room) l)
    → piece_then place read others ≡ Ok tokens → AreTokensFrom place (place + 1 + room) tokens
piece_then-in_order place room (Err fault) others tokens sound rest is = absurd cc
piece_then-in_order place room (Ok piece) others tokens sound rest is =
    with_first-in_order place piece.tail (place + 1 + room) piece.kind (others piece.tail) tokens sound.kind (λ l e. rest piece.tail l sound.within e) is

tokens_from-in_order : (place skip : ℕ) (bytes : List ℕ) (tokens : List Token) → skip ≤ length bytes → tokens_from place skip bytes ≡ Ok tokens → AreTokensFrom (place + skip) (place + length bytes) tokens
tokens_from-in_order place skip [] tokens within is =
    let end : AreTokensFrom (place + skip) (place + 0) (end_token place ∷ []) = (ap end_token (omega arith), omega arith) in
    let same : end_token place ∷ [] ≡ tokens = cc in
    subst (AreTokensFrom (place + skip) (place + 0)) same end
tokens_from-in_order place (suc skip) (byte ∷ bytes) tokens within is =
    let low : place + 1 + skip ≡ place + suc skip = omega arith in
    let high : place + 1 + length bytes ≡ place + suc (length bytes) = omega arith in
    subst (λ (n : ℕ). AreTokensFrom n (place + suc (length bytes)) tokens) low (subst (λ (n : ℕ). AreTokensFrom (place + 1 + skip) n tokens) high (tokens_from-in_order (place + 1) skip bytes tokens (omega arith) is))
tokens_from-in_order place zero (byte ∷ bytes) tokens within is =
    let low : place ≡ place + 0 = omega arith in
    let high : place + 1 + length bytes ≡ place + suc (length bytes) = omega arith in
    let all = piece_then-in_order place (length bytes) (piece_at place byte bytes) (λ skip. tokens_from (place + 1) skip bytes) tokens (piece_at-sound place byte bytes) (λ skip l le e. tokens_from-in_order (place + 1) skip bytes l le e) is in
    subst (λ (n : ℕ). AreTokensFrom n (place + suc (length bytes)) tokens) low (subst (λ (n : ℕ). AreTokensFrom place n tokens) high all)

pub in_order : TokensAreInOrder
unfolding read_tokens
in_order text tokens is =
    let low : 0 + 0 ≡ 0 = omega arith in
    let high : 0 + length text ≡ length text = omega arith in
    subst (λ (n : ℕ). AreTokensFrom n (length text) tokens) low (subst (λ (n : ℕ). AreTokensFrom (0 + 0) n tokens) high (tokens_from-in_order 0 0 text tokens (omega arith) is))

-- by place

pub each_within : (place high : ℕ) (tokens : List Token) → AreTokensFrom place high tokens → AllByRecursion (IsWithin high) tokens
each_within place high [] h = tt
each_within place high (last ∷ []) h = (subst (IsWithin high) (sym h.0) (record { size = omega arith; end = omega arith; limits = tt }), tt)
each_within place high (first ∷ next ∷ others) h = (h.1, each_within first.end high (next ∷ others) h.3)

next_starts : (place high : ℕ) (first : Token) (others : List Token) → AreTokensFrom place high (first ∷ others) → place ≤ first.start
next_starts place high first [] h =
    let start : (end_token high).start ≡ first.start = ap (λ (t : Token). t.start) (sym h.0) in
    omega (arith, h.1, start)
next_starts place high first (next ∷ others) h = h.0

not_empty : (kind : TokenKind) → (kind ≡ End → ⊥) → 1 ≤ least_size kind
not_empty Word no_end = omega arith
not_empty (Number value) no_end = omega arith
not_empty Name no_end = omega arith
not_empty Quoted no_end = omega arith
not_empty (Punct byte) no_end = omega arith
not_empty End no_end = absurd (no_end refl)

pub rising : (place high : ℕ) (tokens : List Token) → AreTokensFrom place high tokens → IsStrictlyIncreasing (map (λ t. t.start) tokens)
rising place high [] h k lt = absurd h
rising place high (last ∷ []) h k lt = absurd (omega arith)
rising place high (first ∷ next ∷ others) h zero lt =
    omega (arith, next_starts first.end high next others h.3, not_empty first.kind h.2, h.1.size)
rising place high (first ∷ next ∷ others) h (suc k) lt =
    let same : suc k + 1 ≡ suc (k + 1) = omega arith in
    rw same (rising first.end high (next ∷ others) h.3 k (omega arith))

pub last_is_end : (place high : ℕ) (tokens : List Token) → AreTokensFrom place high tokens → slice_get tokens (length tokens - 1) ≡ Some (end_token high)
last_is_end place high [] h = absurd h
last_is_end place high (last ∷ []) h = ap (λ (t : Token). Some t) h.0
last_is_end place high (first ∷ next ∷ others) h =
    let same : length (first ∷ next ∷ others) - 1 ≡ suc (length (next ∷ others) - 1) = omega arith in
    rw same (last_is_end first.end high (next ∷ others) h.3)

-- what an answer that is read from the text says of its tokens
pub if_given : (text : List ℕ) (result : Result (List Token) LexFault) (P : List Token → Type 0) → ((tokens : List Token) → AreTokensFrom 0 (length text) tokens → P tokens) → Gives result (read_tokens text) → IfOk result P
if_given text (Ok tokens) P law given = law tokens (in_order text tokens given)
if_given text (Err fault) P law given = tt
