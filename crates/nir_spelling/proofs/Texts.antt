-- The two laws for texts, whose last token, and no other, is their end.
use Rattle.std.proofs.Common.{◌≡◌, ℕ, false, List, [], ◌∷◌, length, Result, Ok, Err, refl, ap, ◌∙◌}
use Rattle.nir_lex.specs.Kinds as token_kind
use Rattle.nir_lex.specs.declared.fault.LexFault.{LexFault}
use Rattle.nir_lex.specs.declared.token.Token.{Token}
use Rattle.nir_lex.specs.declared.token.TokenKind.{TokenKind}
use Rattle.nir_lex.specs.declared.token.TokenKind.TheVariants.{Word, Number, Name, Quoted, Punct, End}
use Rattle.nir_lex.specs.Laws.{AreTokensFrom, TokensAreInOrder}
use Rattle.nir_lex.specs.Reading.{read_tokens}
use Rattle.nir_text.specs.Naming.{naming_of}
use Rattle.nir_text.specs.Signs.{signs_of}
use Rattle.nir_text.specs.Tree.{lexed, read_text}
use Rattle.nir_spelling.specs.Laws.{ReadIsSpelled, SpelledIsRead, SpelledSignsAreRead, NamesAreFound}
use Rattle.nir_spelling.proofs.Passes.{EndsOnce}
use Rattle.nir_text.specs.ReadingLaws.{bind_ok, ok_is}
use Rattle.nir_spelling.proofs.Gave.{bind_reads}
use Rattle.nir_spelling.proofs.LawRead.{read_signs_spelled}
use Rattle.nir_spelling.proofs.LawSpelled.{spelled_signs_read}

no_end : (kind : TokenKind) → (kind ≡ End → ⊥) → token_kind.is_end kind ≡ false
no_end Word differs = refl
no_end (Number value) differs = refl
no_end Name differs = refl
no_end Quoted differs = refl
no_end (Punct byte) differs = refl
no_end End differs = absurd (differs refl)

ends_once : (text : List ℕ) (place size : ℕ) (tokens : List Token) → AreTokensFrom place size tokens → EndsOnce (signs_of text tokens)
ends_once text place size [] are = absurd are
ends_once text place size (token ∷ []) are = ap (λ (t : Token). t.kind) are.0
ends_once text place size (token ∷ second ∷ tokens) are = (no_end token.kind are.2, ends_once text token.end size (second ∷ tokens) are.3)

lexed_ok : (r : Result (List Token) LexFault) (tokens : List Token) → lexed r ≡ Ok tokens → r ≡ Ok tokens
lexed_ok (Ok found) tokens e = ap Ok (ok_is found tokens e)
lexed_ok (Err fault) tokens e = absurd cc

pub read_is_spelled : TokensAreInOrder → ReadIsSpelled
unfolding read_text
read_is_spelled in_order text shader reads =
    let tokens = bind_ok (lexed (read_tokens text)) _ shader reads in
    let are = lexed_ok (read_tokens text) tokens.0 tokens.1 in
    let signs = signs_of text tokens.0 in
    (tokens.0, naming_of signs, are, read_signs_spelled signs shader (ends_once text 0 (length text) tokens.0 (in_order text tokens.0 are)) tokens.2)

pub spelled_is_read : SpelledIsRead
unfolding read_text
spelled_is_read text shader spelled =
    bind_reads (lexed (read_tokens text)) _ spelled.0 (ap lexed spelled.2) ∙ (spelled_signs_read spelled.1 shader (signs_of text spelled.0) spelled.3).reads

pub spelled_signs_are_read : SpelledSignsAreRead
spelled_signs_are_read names shader signs is = (spelled_signs_read names shader signs is).reads

pub names_are_found : NamesAreFound
names_are_found names shader signs is = (spelled_signs_read names shader signs is).naming
