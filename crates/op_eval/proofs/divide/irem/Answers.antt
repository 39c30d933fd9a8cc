use Rattle.std.proofs.Common.{◌≡◌, ◌==◌, false, sym, ◌∙◌, ap, lit≤}
use Rattle.std.specs.Prelude.{ℤ}
use Rattle.std.proofs.lemmas.Bool.{ne_eqb}
use Rattle.std.specs.Int.{cast_unsigned, cast_signed}
use Rattle.std.specs.Int.RustNames.{FitsSigned, int_rem}
use mir.Syntax.{w8, w16, w32, w64}
use Rattle.op_eval.specs.Word.{residue, signed}
use Rattle.op_eval.proofs.WordLemmas.{word_of, reread}
use Rattle.op_eval.proofs.DivideLemmas.{truncated_rest_is}
use Rattle.op_eval.proofs.divide.irem.Goals as goal

pub returns-in-W8 : goal.returns-in-W8
unfolding signed
returns-in-W8 c =
    let some : (c.args.y == 0) ≡ false = ne_eqb c.args.y 0 c.if-y-eq0.false in
    let s : ℤ = signed 8 c.args.x in
    let t : ℤ = signed 8 c.args.y in
    let fits : FitsSigned w8 c.wrapping_rem.result = record { sfits = c.wrapping_rem.type_inv } in
    let left = reread w8 c.cast_signed-x.result s (record { sfits = c.cast_signed-x.type_inv }) c.cast_signed-x.ensures in
    let right = reread w8 c.cast_signed-y.result t (record { sfits = c.cast_signed-y.type_inv }) c.cast_signed-y.ensures in
    let rest : c.wrapping_rem.result ≡ int_rem s t =
    c.wrapping_rem.ensures
    ∙ ap (λ n. int_rem n (cast_signed w8 (cast_unsigned w8 c.cast_signed-y.result))) left
    ∙ ap (int_rem s) right in
    rw (c.in-W8.is, some) (c.cast_unsigned.ensures ∙ word_of w8 c.wrapping_rem.result fits (lit≤ tt) ∙ ap (residue 8) (rest ∙ sym (truncated_rest_is s t)))

pub returns-in-W16 : goal.returns-in-W16
unfolding signed
returns-in-W16 c =
    let some : (c.args.y == 0) ≡ false = ne_eqb c.args.y 0 c.if-y-eq0.false in
    let s : ℤ = signed 16 c.args.x in
    let t : ℤ = signed 16 c.args.y in
    let fits : FitsSigned w16 c.wrapping_rem-in-W16.result = record { sfits = c.wrapping_rem-in-W16.type_inv } in
    let left = reread w16 c.cast_signed-x-in-W16.result s (record { sfits = c.cast_signed-x-in-W16.type_inv }) c.cast_signed-x-in-W16.ensures in
    let right = reread w16 c.cast_signed-y-in-W16.result t (record { sfits = c.cast_signed-y-in-W16.type_inv }) c.cast_signed-y-in-W16.ensures in
    let rest : c.wrapping_rem-in-W16.result ≡ int_rem s t =
    c.wrapping_rem-in-W16.ensures
    ∙ ap (λ n. int_rem n (cast_signed w16 (cast_unsigned w16 c.cast_signed-y-in-W16.result))) left
    ∙ ap (int_rem s) right in
    rw (c.in-W16.is, some) (c.cast_unsigned-in-W16.ensures ∙ word_of w16 c.wrapping_rem-in-W16.result fits (lit≤ tt) ∙ ap (residue 16) (rest ∙ sym (truncated_rest_is s t)))

pub returns-in-W32 : goal.returns-in-W32
unfolding signed
returns-in-W32 c =
    let some : (c.args.y == 0) ≡ false = ne_eqb c.args.y 0 c.if-y-eq0.false in
    let s : ℤ = signed 32 c.args.x in
    let t : ℤ = signed 32 c.args.y in
    let fits : FitsSigned w32 c.wrapping_rem-in-W32.result = record { sfits = c.wrapping_rem-in-W32.type_inv } in
    let left = reread w32 c.cast_signed-x-in-W32.result s (record { sfits = c.cast_signed-x-in-W32.type_inv }) c.cast_signed-x-in-W32.ensures in
    let right = reread w32 c.cast_signed-y-in-W32.result t (record { sfits = c.cast_signed-y-in-W32.type_inv }) c.cast_signed-y-in-W32.ensures in
    let rest : c.wrapping_rem-in-W32.result ≡ int_rem s t =
    c.wrapping_rem-in-W32.ensures
    ∙ ap (λ n. int_rem n (cast_signed w32 (cast_unsigned w32 c.cast_signed-y-in-W32.result))) left
    ∙ ap (int_rem s) right in
    rw (c.in-W32.is, some) (c.cast_unsigned-in-W32.ensures ∙ word_of w32 c.wrapping_rem-in-W32.result fits (lit≤ tt) ∙ ap (residue 32) (rest ∙ sym (truncated_rest_is s t)))

pub returns-in-W64 : goal.returns-in-W64
unfolding signed
returns-in-W64 c =
    let some : (c.args.y == 0) ≡ false = ne_eqb c.args.y 0 c.if-y-eq0.false in
    let s : ℤ = signed 64 c.args.x in
    let t : ℤ = signed 64 c.args.y in
    let fits : FitsSigned w64 c.wrapping_rem-in-W64.result = record { sfits = c.wrapping_rem-in-W64.type_inv } in
    let left = reread w64 c.cast_signed-x-in-W64.result s (record { sfits = c.cast_signed-x-in-W64.type_inv }) c.cast_signed-x-in-W64.ensures in
    let right = reread w64 c.cast_signed-y-in-W64.result t (record { sfits = c.cast_signed-y-in-W64.type_inv }) c.cast_signed-y-in-W64.ensures in
    let rest : c.wrapping_rem-in-W64.result ≡ int_rem s t =
    c.wrapping_rem-in-W64.ensures
    ∙ ap (λ n. int_rem n (cast_signed w64 (cast_unsigned w64 c.cast_signed-y-in-W64.result))) left
    ∙ ap (int_rem s) right in
    rw (c.in-W64.is, some) (c.cast_unsigned-in-W64.ensures ∙ word_of w64 c.wrapping_rem-in-W64.result fits (lit≤ tt) ∙ ap (residue 64) (rest ∙ sym (truncated_rest_is s t)))
