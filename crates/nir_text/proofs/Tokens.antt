-- The tokens of a text lie within it, and there are at most one more of them than it has bytes.
use Rattle.std.proofs.Common.{◌≡◌, ℕ, ◌+◌, ◌≤◌, List, [], ◌∷◌, length, subst, sym, refl, arith}
use Rattle.nir_lex.specs.declared.token.Token.{Token}
use Rattle.nir_lex.specs.declared.token.TokenKind.{TokenKind}
use Rattle.nir_lex.specs.declared.token.TokenKind.TheVariants.{Word, Number, Name, Quoted, Punct, End}
use Rattle.nir_lex.specs.Laws as lex
use Rattle.nir_lex.specs.Reading.{end_token}
use Rattle.nir_text.specs.Within.{IsWithin, AreWithin}

-- what is not the end takes a byte
takes_byte : (kind : TokenKind) → (kind ≡ End → ⊥) → 1 ≤ lex.least_size kind
takes_byte Word not_end = omega arith
takes_byte (Number value) not_end = omega arith
takes_byte Name not_end = omega arith
takes_byte Quoted not_end = omega arith
takes_byte (Punct byte) not_end = omega arith
takes_byte End not_end = absurd (not_end refl)

within_end : (size : ℕ) (token : Token) → token ≡ end_token size → IsWithin size token
within_end size token e = let P : Token → Type 0 = λ t. IsWithin size t in subst P (sym e) (record { ordered = omega arith; inside = omega arith })

pub AreWithin-from_order : (place size : ℕ) (tokens : List Token) → lex.AreTokensFrom place size tokens → AreWithin size tokens
AreWithin-from_order place size [] h = absurd h
AreWithin-from_order place size (token ∷ []) h = (within_end size token h.0, tt)
AreWithin-from_order place size (token ∷ next ∷ others) h =
    (record { ordered = let s = h.1.size in omega arith; inside = h.1.end }, AreWithin-from_order token.end size (next ∷ others) h.3)

pub few_from_order : (place size : ℕ) (tokens : List Token) → lex.AreTokensFrom place size tokens → length tokens + place ≤ size + 1
few_from_order place size [] h = absurd h
few_from_order place size (token ∷ []) h = let le = h.1 in omega arith
few_from_order place size (token ∷ next ∷ others) h =
    let rest = few_from_order token.end size (next ∷ others) h.3 in
    let least = takes_byte token.kind h.2 in
    let s = h.1.size in
    let from = h.0 in
    omega arith
