use Rattle.std.proofs.Common.{◌≡◌, ◌/◌, ◌^◌, ◌∙◌, ap, subst, lit<, lit≤}
use Rattle.std.specs.Prelude.{ℤ, ◌*ℤ◌}
use Rattle.std.specs.Int.{cast_unsigned, cast_signed}
use Rattle.std.specs.Int.RustNames.{FitsSigned}
use mir.Syntax.{w8, w16, w32, w64, w128}
use Rattle.op_eval.specs.Word.{signed}
use Rattle.op_eval.proofs.WordLemmas.{word_of, reread_wide}
use Rattle.op_eval.proofs.ProductLemmas.{high_word, product_fits_signed}
use Rattle.op_eval.proofs.product.imul_high.Goals as goal

pub returns-in-W8 : goal.returns-in-W8
unfolding signed
returns-in-W8 c =
    let s : ℤ = signed 8 c.args.x in
    let t : ℤ = signed 8 c.args.y in
    let left_fits : FitsSigned w8 c.cast_signed-left.result = record { sfits = c.cast_signed-left.type_inv } in
    let right_fits : FitsSigned w8 c.cast_signed-right.result = record { sfits = c.cast_signed-right.type_inv } in
    let fits : FitsSigned w16 (s *ℤ t) = product_fits_signed w8 w16 s t (subst (FitsSigned w8) c.cast_signed-left.ensures left_fits) (subst (FitsSigned w8) c.cast_signed-right.ensures right_fits) (lit< tt) in
    let left = reread_wide w8 w16 c.cast_signed-left.result s left_fits (lit≤ tt) c.cast_signed-left.ensures in
    let right = reread_wide w8 w16 c.cast_signed-right.result t right_fits (lit≤ tt) c.cast_signed-right.ensures in
    let word : c.cast_unsigned.result ≡ cast_unsigned w16 (cast_signed w16 (cast_unsigned w16 (s *ℤ t))) =
    c.cast_unsigned.ensures
    ∙ ap (λ n. cast_unsigned w16 (cast_signed w16 (cast_unsigned w16 (n *ℤ cast_signed w16 (cast_unsigned w16 (cast_signed w8 (cast_unsigned w8 c.cast_signed-right.result))))))) left
    ∙ ap (λ n. cast_unsigned w16 (cast_signed w16 (cast_unsigned w16 (s *ℤ n)))) right in
    rw c.in-W8.is (ap (λ n. n / 2 ^ 8) (word ∙ word_of w16 (s *ℤ t) fits (lit≤ tt)) ∙ high_word 8 (s *ℤ t))

pub returns-in-W16 : goal.returns-in-W16
unfolding signed
returns-in-W16 c =
    let s : ℤ = signed 16 c.args.x in
    let t : ℤ = signed 16 c.args.y in
    let left_fits : FitsSigned w16 c.cast_signed-left-in-W16.result = record { sfits = c.cast_signed-left-in-W16.type_inv } in
    let right_fits : FitsSigned w16 c.cast_signed-right-in-W16.result = record { sfits = c.cast_signed-right-in-W16.type_inv } in
    let fits : FitsSigned w32 (s *ℤ t) = product_fits_signed w16 w32 s t (subst (FitsSigned w16) c.cast_signed-left-in-W16.ensures left_fits) (subst (FitsSigned w16) c.cast_signed-right-in-W16.ensures right_fits) (lit< tt) in
    let left = reread_wide w16 w32 c.cast_signed-left-in-W16.result s left_fits (lit≤ tt) c.cast_signed-left-in-W16.ensures in
    let right = reread_wide w16 w32 c.cast_signed-right-in-W16.result t right_fits (lit≤ tt) c.cast_signed-right-in-W16.ensures in
    let word : c.cast_unsigned-in-W16.result ≡ cast_unsigned w32 (cast_signed w32 (cast_unsigned w32 (s *ℤ t))) =
    c.cast_unsigned-in-W16.ensures
    ∙ ap (λ n. cast_unsigned w32 (cast_signed w32 (cast_unsigned w32 (n *ℤ cast_signed w32 (cast_unsigned w32 (cast_signed w16 (cast_unsigned w16 c.cast_signed-right-in-W16.result))))))) left
    ∙ ap (λ n. cast_unsigned w32 (cast_signed w32 (cast_unsigned w32 (s *ℤ n)))) right in
    rw c.in-W16.is (ap (λ n. n / 2 ^ 16) (word ∙ word_of w32 (s *ℤ t) fits (lit≤ tt)) ∙ high_word 16 (s *ℤ t))

pub returns-in-W32 : goal.returns-in-W32
unfolding signed
returns-in-W32 c =
    let s : ℤ = signed 32 c.args.x in
    let t : ℤ = signed 32 c.args.y in
    let left_fits : FitsSigned w32 c.cast_signed-left-in-W32.result = record { sfits = c.cast_signed-left-in-W32.type_inv } in
    let right_fits : FitsSigned w32 c.cast_signed-right-in-W32.result = record { sfits = c.cast_signed-right-in-W32.type_inv } in
    let fits : FitsSigned w64 (s *ℤ t) = product_fits_signed w32 w64 s t (subst (FitsSigned w32) c.cast_signed-left-in-W32.ensures left_fits) (subst (FitsSigned w32) c.cast_signed-right-in-W32.ensures right_fits) (lit< tt) in
    let left = reread_wide w32 w64 c.cast_signed-left-in-W32.result s left_fits (lit≤ tt) c.cast_signed-left-in-W32.ensures in
    let right = reread_wide w32 w64 c.cast_signed-right-in-W32.result t right_fits (lit≤ tt) c.cast_signed-right-in-W32.ensures in
    let word : c.cast_unsigned-in-W32.result ≡ cast_unsigned w64 (cast_signed w64 (cast_unsigned w64 (s *ℤ t))) =
    c.cast_unsigned-in-W32.ensures
    ∙ ap (λ n. cast_unsigned w64 (cast_signed w64 (cast_unsigned w64 (n *ℤ cast_signed w64 (cast_unsigned w64 (cast_signed w32 (cast_unsigned w32 c.cast_signed-right-in-W32.result))))))) left
    ∙ ap (λ n. cast_unsigned w64 (cast_signed w64 (cast_unsigned w64 (s *ℤ n)))) right in
    rw c.in-W32.is (ap (λ n. n / 2 ^ 32) (word ∙ word_of w64 (s *ℤ t) fits (lit≤ tt)) ∙ high_word 32 (s *ℤ t))

pub returns-in-W64 : goal.returns-in-W64
unfolding signed
returns-in-W64 c =
    let s : ℤ = signed 64 c.args.x in
    let t : ℤ = signed 64 c.args.y in
    let left_fits : FitsSigned w64 c.cast_signed-left-in-W64.result = record { sfits = c.cast_signed-left-in-W64.type_inv } in
    let right_fits : FitsSigned w64 c.cast_signed-right-in-W64.result = record { sfits = c.cast_signed-right-in-W64.type_inv } in
    let fits : FitsSigned w128 (s *ℤ t) = product_fits_signed w64 w128 s t (subst (FitsSigned w64) c.cast_signed-left-in-W64.ensures left_fits) (subst (FitsSigned w64) c.cast_signed-right-in-W64.ensures right_fits) (lit< tt) in
    let left = reread_wide w64 w128 c.cast_signed-left-in-W64.result s left_fits (lit≤ tt) c.cast_signed-left-in-W64.ensures in
    let right = reread_wide w64 w128 c.cast_signed-right-in-W64.result t right_fits (lit≤ tt) c.cast_signed-right-in-W64.ensures in
    let word : c.cast_unsigned-in-W64.result ≡ cast_unsigned w128 (cast_signed w128 (cast_unsigned w128 (s *ℤ t))) =
    c.cast_unsigned-in-W64.ensures
    ∙ ap (λ n. cast_unsigned w128 (cast_signed w128 (cast_unsigned w128 (n *ℤ cast_signed w128 (cast_unsigned w128 (cast_signed w64 (cast_unsigned w64 c.cast_signed-right-in-W64.result))))))) left
    ∙ ap (λ n. cast_unsigned w128 (cast_signed w128 (cast_unsigned w128 (s *ℤ n)))) right in
    rw c.in-W64.is (ap (λ n. n / 2 ^ 64) (word ∙ word_of w128 (s *ℤ t) fits (lit≤ tt)) ∙ high_word 64 (s *ℤ t))
