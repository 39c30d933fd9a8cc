-- A text is read where its parts are.
use Rattle.std.proofs.Common.{◌≡◌, ℕ, List, None, Some, Ok, Err, refl, sym, ap, ◌∙◌}
use Rattle.nir_ir.specs.Shader.{Shader}
use Rattle.nir_text.specs.declared.fault.TextFault.{TextFault}
use Rattle.nir_text.specs.declared.fault.TextFault.TheVariants.{UnknownName}
use Rattle.nir_lex.specs.declared.token.Token.{Token}
use Rattle.nir_lex.specs.Reading.{read_tokens}
use Rattle.nir_text.specs.Signs.{Sign, signs_of}
use Rattle.nir_text.specs.Naming.{Naming, naming_of, first_unknown}
use Rattle.nir_text.specs.Reading.{Point, ◌>>=◌}
use Rattle.nir_text.specs.Tree.{shader_at, no_counts, read_signs, lexed, read_text}

-- the start of a text
abbrev pub start : List Sign → Point
start signs = record { rest = signs; counts = no_counts }

pub signs-whole : (signs : List Sign) (names : Naming) (s : Shader) (q : Point) → names ≡ naming_of signs → shader_at names (start signs) ≡ Ok (s, q) → first_unknown names q.counts signs ≡ None → read_signs signs ≡ Ok s
unfolding read_signs
signs-whole signs names s q e read known =
    let here : shader_at (naming_of signs) (start signs) ≡ Ok (s, q) = ap (λ n. shader_at n (start signs)) (sym e) ∙ read in
    let there : first_unknown (naming_of signs) q.counts signs ≡ None = ap (λ n. first_unknown n q.counts signs) (sym e) ∙ known in
    rw (here, there) refl

pub signs-unknown : (signs : List Sign) (names : Naming) (s : Shader) (q : Point) (place : ℕ) → names ≡ naming_of signs → shader_at names (start signs) ≡ Ok (s, q) → first_unknown names q.counts signs ≡ Some place → read_signs signs ≡ Err (UnknownName place)
unfolding read_signs
signs-unknown signs names s q place e read known =
    let here : shader_at (naming_of signs) (start signs) ≡ Ok (s, q) = ap (λ n. shader_at n (start signs)) (sym e) ∙ read in
    let there : first_unknown (naming_of signs) q.counts signs ≡ Some place = ap (λ n. first_unknown n q.counts signs) (sym e) ∙ known in
    rw (here, there) refl

pub signs-fault : (signs : List Sign) (names : Naming) (fault : TextFault) → names ≡ naming_of signs → shader_at names (start signs) ≡ Err fault → read_signs signs ≡ Err fault
unfolding read_signs
signs-fault signs names fault e read =
    let here : shader_at (naming_of signs) (start signs) ≡ Err fault = ap (λ n. shader_at n (start signs)) (sym e) ∙ read in
    rw here refl

pub text-no_tokens : (text : List ℕ) (fault : TextFault) → lexed (read_tokens text) ≡ Err fault → read_text text ≡ Err fault
unfolding read_text
text-no_tokens text fault e = ap (λ r. r >>= λ tokens. read_signs (signs_of text tokens)) e

pub text-tokens : (text : List ℕ) (tokens : List Token) → lexed (read_tokens text) ≡ Ok tokens → read_text text ≡ read_signs (signs_of text tokens)
unfolding read_text
text-tokens text tokens e = ap (λ r. r >>= λ tokens. read_signs (signs_of text tokens)) e
