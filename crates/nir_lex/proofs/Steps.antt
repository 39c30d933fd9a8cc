-- The loop over the pieces of a text, one piece after the other.
use Rattle.std.proofs.Common.{◌≡◌, ℕ, zero, suc, ◌+◌, ◌≤◌, List, [], ◌∷◌, ◌++◌, length, drop, Option, Some, None, Result, Ok, Err, refl, sym, ap, subst, ◌∙◌, append_assoc, add-zero, arith}
use Rattle.std.specs.Option.{option_map, option_to_list}
use Rattle.std.proofs.lemmas.List.{append-nil}
use Rattle.nir_lex.specs.declared.fault.LexFault.{LexFault}
use Rattle.nir_lex.specs.declared.fault.LexFault.TheVariants.{BadByte, BadNumber, OutOfMemory}
use Rattle.nir_lex.specs.declared.token.Token.{Token}
use Rattle.nir_lex.specs.declared.piece.Piece.{Piece}
use Rattle.nir_lex.specs.Pieces.{piece_at}
use Rattle.nir_lex.specs.Reading.{token, with_first, piece_then, tokens_from, Fails}
use Rattle.nir_lex.proofs.Sound.{AreSound, piece_at-sound}

-- the tokens so far, before those that are still read
abbrev pub with_front : List Token → Result (List Token) LexFault → Result (List Token) LexFault
with_front front (Ok tokens) = Ok (front ++ tokens)
with_front front (Err fault) = Err fault

-- a piece that goes on for `skip` bytes leaves what is behind them
pub passes : (place skip : ℕ) (bytes : List ℕ) → skip ≤ length bytes → tokens_from place skip bytes ≡ tokens_from (place + skip) 0 (drop skip bytes)
passes place zero bytes within = ap (λ (p : ℕ). tokens_from p 0 bytes) (sym (add-zero place))
passes place (suc skip) [] within = absurd (omega arith)
passes place (suc skip) (byte ∷ bytes) within =
    let same : place + 1 + skip ≡ place + suc skip = omega arith in
    passes (place + 1) skip bytes (omega arith) ∙ ap (λ (p : ℕ). tokens_from p 0 (drop skip bytes)) same

regrouped : (front : List Token) (first : Option Token) (read : Result (List Token) LexFault) → with_front front (with_first first read) ≡ with_front (front ++ option_to_list first) read
regrouped front None (Ok tokens) = ap (λ (l : List Token). Ok (l ++ tokens)) (sym (append-nil front))
regrouped front None (Err fault) = refl
regrouped front (Some first) (Ok tokens) = ap (λ (l : List Token). Ok l) (sym (append_assoc front (first ∷ []) tokens))
regrouped front (Some first) (Err fault) = refl

-- one piece is read, and its token joins the front
pub goes_on : (front : List Token) (place first : ℕ) (rest : List ℕ) (piece : Piece) (total : Result (List Token) LexFault) → Ok piece ≡ piece_at place first rest → piece.tail ≤ length rest
    → with_front front (tokens_from place 0 (first ∷ rest)) ≡ total
    → with_front (front ++ option_to_list (option_map (token place (place + 1 + piece.tail)) piece.kind)) (tokens_from (place + 1 + piece.tail) 0 (drop piece.tail rest)) ≡ total
goes_on front place first rest piece total is within so_far =
    let others : ℕ → Result (List Token) LexFault = λ skip. tokens_from (place + 1) skip rest in
    let read = ap (λ r. with_front front (piece_then place r others)) is in
    let found : Option Token = option_map (token place (place + 1 + piece.tail)) piece.kind in
    let moved = ap (with_front (front ++ option_to_list found)) (passes (place + 1) piece.tail rest within) in
    sym moved ∙ sym (regrouped front found (others piece.tail)) ∙ read ∙ so_far

-- the first fault ends it
pub ends : (front : List Token) (place first : ℕ) (rest : List ℕ) (fault : LexFault) (total : Result (List Token) LexFault) → Err fault ≡ piece_at place first rest
    → with_front front (tokens_from place 0 (first ∷ rest)) ≡ total → Fails fault total
ends front place first rest fault total is so_far =
    let read = ap (λ r. with_front front (piece_then place r (λ skip. tokens_from (place + 1) skip rest))) is in
    failed fault (sym (read ∙ so_far))
  where
    failed : (f : LexFault) → total ≡ Err f → Fails f total
    failed (BadByte p) e = e
    failed (BadNumber p) e = e
    failed OutOfMemory e = tt

-- a piece stays within the bytes
pub tail_within : (place first : ℕ) (rest : List ℕ) (piece : Piece) → Ok piece ≡ piece_at place first rest → piece.tail ≤ length rest
tail_within place first rest piece is = (subst (AreSound (length rest)) (sym is) (piece_at-sound place first rest)).within
