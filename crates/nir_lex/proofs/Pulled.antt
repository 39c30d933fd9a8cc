-- Tokens pulled one by one: what a piece leaves of the tokens and of the fault of a text.
use Rattle.std.proofs.Common.{◌≡◌, ℕ, suc, ◌+◌, ◌≤◌, List, ◌∷◌, length, drop, Option, Some, None, Result, Ok, Err, refl, sym, ap, subst, ◌∙◌, arith}
use Rattle.std.specs.Prelude.{IfOk}
use Rattle.std.proofs.lemmas.List.{drop-drop}
use Rattle.std.specs.Option.{option_map}
use Rattle.nir_lex.specs.declared.fault.LexFault.{LexFault}
use Rattle.nir_lex.specs.declared.token.Token.{Token}
use Rattle.nir_lex.specs.declared.token.TokenKind.{TokenKind}
use Rattle.nir_lex.specs.declared.token.TokenKind.TheVariants.{Word, Number, Name, Quoted, Punct, End}
use Rattle.nir_lex.specs.declared.piece.Piece.{Piece}
use Rattle.nir_lex.specs.Pieces.{piece_at}
use Rattle.nir_lex.specs.Reading.{token, with_first, piece_then, tokens_from, read_tokens}
use Rattle.nir_lex.specs.From.{tokens_at, tokens_behind, IsFirstFrom, IsOfBytes, fault_of, TokensAreFromStart}
use Rattle.nir_lex.proofs.Sound.{IfKind, IsSoundKind, AreSound, piece_at-sound}
use Rattle.nir_lex.proofs.Steps.{passes}

-- the tokens of a text whose first piece is this one
pub piece_first : (place first : ℕ) (rest : List ℕ) (piece : Piece) → Ok piece ≡ piece_at place first rest → piece.tail ≤ length rest
    → tokens_from place 0 (first ∷ rest)
    ≡ with_first (option_map (token place (place + 1 + piece.tail)) piece.kind) (tokens_from (place + 1 + piece.tail) 0 (drop piece.tail rest))
piece_first place first rest piece is within =
    let read = ap (λ r. piece_then place r (λ skip. tokens_from (place + 1) skip rest)) is in
    sym read ∙ ap (with_first (option_map (token place (place + 1 + piece.tail)) piece.kind)) (passes (place + 1) piece.tail rest within)

same_fault : (first : Option Token) (read : Result (List Token) LexFault) → fault_of (with_first first read) ≡ fault_of read
same_fault None read = refl
same_fault (Some first) (Ok tokens) = refl
same_fault (Some first) (Err fault) = refl

-- a piece leaves the fault of a text
pub fault_behind : (place first : ℕ) (rest : List ℕ) (piece : Piece) → Ok piece ≡ piece_at place first rest → piece.tail ≤ length rest
    → fault_of (tokens_from place 0 (first ∷ rest)) ≡ fault_of (tokens_from (place + 1 + piece.tail) 0 (drop piece.tail rest))
fault_behind place first rest piece is within =
    ap fault_of (piece_first place first rest piece is within)
    ∙ same_fault (option_map (token place (place + 1 + piece.tail)) piece.kind) (tokens_from (place + 1 + piece.tail) 0 (drop piece.tail rest))

-- what is no piece is so by its bytes
pub fault_of_bytes : (place first : ℕ) (rest : List ℕ) (fault : LexFault) → Err fault ≡ piece_at place first rest → IsOfBytes fault
fault_of_bytes place first rest fault is = subst (AreSound (length rest)) (sym is) (piece_at-sound place first rest)

-- a token that is not the end leaves the tokens from its end on
behind_kind : (text : List ℕ) (start end : ℕ) (kind : TokenKind) → (kind ≡ End → ⊥) → tokens_behind text (token start end kind) ≡ tokens_at text end
behind_kind text start end Word no_end = refl
behind_kind text start end (Number value) no_end = refl
behind_kind text start end Name no_end = refl
behind_kind text start end Quoted no_end = refl
behind_kind text start end (Punct byte) no_end = refl
behind_kind text start end End no_end = absurd (no_end refl)

-- the bytes behind a piece, in the whole text
pub bytes_behind : (text : List ℕ) (start first tail : ℕ) (rest : List ℕ) → first ∷ rest ≡ drop start text
    → drop tail rest ≡ drop (start + 1 + tail) text
bytes_behind text start first tail rest at =
    let same : start + suc tail ≡ start + 1 + tail = omega arith in
    ap (drop (suc tail)) at ∙ drop-drop (suc tail) start text ∙ ap (λ (n : ℕ). drop n text) same

-- a piece that is a token is the first
pub first_here : (text : List ℕ) (place start first : ℕ) (rest : List ℕ) (piece : Piece) (kind : TokenKind) → Ok piece ≡ piece_at start first rest
    → piece.kind ≡ Some kind → tokens_from start 0 (first ∷ rest) ≡ tokens_at text place → first ∷ rest ≡ drop start text → place ≤ start
    → start + suc (length rest) ≡ length text
    → IsFirstFrom text place (token start (start + 1 + piece.tail) kind)
first_here text place start first rest piece kind is kind_is same at behind whole =
    let sound : AreSound (length rest) (Ok piece) = subst (AreSound (length rest)) (sym is) (piece_at-sound start first rest) in
    let sound_kind : IsSoundKind piece.tail kind = subst (IfKind piece.tail) kind_is sound.kind in
    let end : ℕ = start + 1 + piece.tail in
    let read = piece_first start first rest piece is sound.within in
    let named = ap (λ (k : Option TokenKind). with_first (option_map (token start end) k) (tokens_from end 0 (drop piece.tail rest))) kind_is in
    let same_bytes = bytes_behind text start first piece.tail rest at in
    let others = ap (λ (l : List ℕ). with_first (Some (token start end kind)) (tokens_from end 0 l)) same_bytes in
    let back = ap (with_first (Some (token start end kind))) (sym (behind_kind text start end kind sound_kind.no_end)) in
    record {
      first = sym same ∙ read ∙ named ∙ others ∙ back;
      behind = behind;
      within = record { size = omega (arith, sound_kind.size); end = omega (arith, sound.within, whole); limits = sound_kind.limits };
    }

-- a gap is passed over
pub behind_gap : (place first : ℕ) (rest : List ℕ) (piece : Piece) → Ok piece ≡ piece_at place first rest → piece.tail ≤ length rest
    → piece.kind ≡ None → tokens_from (place + 1 + piece.tail) 0 (drop piece.tail rest) ≡ tokens_from place 0 (first ∷ rest)
behind_gap place first rest piece is within none =
    let end : ℕ = place + 1 + piece.tail in
    let behind = tokens_from end 0 (drop piece.tail rest) in
    sym (piece_first place first rest piece is within ∙ ap (λ (k : Option TokenKind). with_first (option_map (token place end) k) behind) none)

pub if_some : {P : Type 0} (read : Result (List Token) LexFault) → P → IfOk read (λ _tokens. P)
if_some (Ok tokens) p = p
if_some (Err fault) p = tt

pub from_start : TokensAreFromStart
unfolding read_tokens
from_start text = refl
