use Rattle.std.proofs.Common.{◌≡◌, ◌≢◌, ◌==◌, false, pos, sym, ◌∙◌, ap, subst, lit≤, pos_of_ne-zero}
use Rattle.std.specs.Prelude.{ℤ, ◌+ℤ◌, ◌<ℤ◌}
use Rattle.std.proofs.lemmas.Bool.{ne_eqb}
use Rattle.std.specs.Int.{int_rem_euclid, cast_unsigned, cast_signed}
use Rattle.std.specs.Int.RustNames.{FitsSigned, int_lt}
use mir.Syntax.{w8, w16, w32, w64}
use Rattle.op_eval.specs.Word.{residue, signed}
use Rattle.op_eval.proofs.WordLemmas.{word_of, reread}
use Rattle.op_eval.proofs.DivideLemmas.{floored_below, signed_negative, below_fits}
use Rattle.op_eval.proofs.divide.imod.Goals as goal

pub returns-else-rest-eq0 : goal.returns-else-rest-eq0
unfolding signed
returns-else-rest-eq0 c =
    let some : (c.args.y == 0) ≡ false = ne_eqb c.args.y 0 c.if-y-eq0.false in
    let s : ℤ = signed 8 c.args.x in
    let t : ℤ = signed 8 c.args.y in
    let right_fits : FitsSigned w8 c.cast_signed-y.result = record { sfits = c.cast_signed-y.type_inv } in
    let rest_fits : FitsSigned w8 c.wrapping_rem_euclid-rest.result = record { sfits = c.wrapping_rem_euclid-rest.type_inv } in
    let left = reread w8 c.cast_signed-x.result s (record { sfits = c.cast_signed-x.type_inv }) c.cast_signed-x.ensures in
    let right = reread w8 c.cast_signed-y.result t right_fits c.cast_signed-y.ensures in
    let rest : c.wrapping_rem_euclid-rest.result ≡ int_rem_euclid s t =
    c.wrapping_rem_euclid-rest.ensures
    ∙ ap (λ n. int_rem_euclid n (cast_signed w8 (cast_unsigned w8 c.cast_signed-y.result))) left
    ∙ ap (int_rem_euclid s) right in
    let below : t <ℤ pos 0 = signed_negative 8 c.args.y (pos_of_ne-zero c.if-y-eq0.false) (ap (int_lt (pos 0)) (sym right) ∙ c.if-y-gt0.false) in
    let open_rest : int_rem_euclid s t ≢ pos 0 = λ e. c.if-rest-eq0.false (ap (cast_unsigned w8) (rest ∙ e)) in
    let fits : FitsSigned w8 (int_rem_euclid s t +ℤ t) = below_fits w8 s t (subst (FitsSigned w8) c.cast_signed-y.ensures right_fits) below in
    let word : c.cast_unsigned-else-rest-eq0.result ≡ cast_unsigned w8 (cast_signed w8 (cast_unsigned w8 (int_rem_euclid s t +ℤ t))) =
    c.cast_unsigned-else-rest-eq0.ensures
    ∙ ap (λ n. cast_unsigned w8 (cast_signed w8 (cast_unsigned w8 (n +ℤ cast_signed w8 (cast_unsigned w8 c.cast_signed-y.result))))) (reread w8 c.wrapping_rem_euclid-rest.result (int_rem_euclid s t) rest_fits rest)
    ∙ ap (λ n. cast_unsigned w8 (cast_signed w8 (cast_unsigned w8 (int_rem_euclid s t +ℤ n)))) right in
    rw (c.in-W8.is, some) (word ∙ word_of w8 (int_rem_euclid s t +ℤ t) fits (lit≤ tt) ∙ ap (residue 8) (sym (floored_below s t below open_rest)))

pub returns-else-rest-eq0-2 : goal.returns-else-rest-eq0-2
unfolding signed
returns-else-rest-eq0-2 c =
    let some : (c.args.y == 0) ≡ false = ne_eqb c.args.y 0 c.if-y-eq0.false in
    let s : ℤ = signed 16 c.args.x in
    let t : ℤ = signed 16 c.args.y in
    let right_fits : FitsSigned w16 c.cast_signed-y-in-W16.result = record { sfits = c.cast_signed-y-in-W16.type_inv } in
    let rest_fits : FitsSigned w16 c.wrapping_rem_euclid-rest-in-W16.result = record { sfits = c.wrapping_rem_euclid-rest-in-W16.type_inv } in
    let left = reread w16 c.cast_signed-x-in-W16.result s (record { sfits = c.cast_signed-x-in-W16.type_inv }) c.cast_signed-x-in-W16.ensures in
    let right = reread w16 c.cast_signed-y-in-W16.result t right_fits c.cast_signed-y-in-W16.ensures in
    let rest : c.wrapping_rem_euclid-rest-in-W16.result ≡ int_rem_euclid s t =
    c.wrapping_rem_euclid-rest-in-W16.ensures
    ∙ ap (λ n. int_rem_euclid n (cast_signed w16 (cast_unsigned w16 c.cast_signed-y-in-W16.result))) left
    ∙ ap (int_rem_euclid s) right in
    let below : t <ℤ pos 0 = signed_negative 16 c.args.y (pos_of_ne-zero c.if-y-eq0.false) (ap (int_lt (pos 0)) (sym right) ∙ c.if-y-gt0-2.false) in
    let open_rest : int_rem_euclid s t ≢ pos 0 = λ e. c.if-rest-eq0-2.false (ap (cast_unsigned w16) (rest ∙ e)) in
    let fits : FitsSigned w16 (int_rem_euclid s t +ℤ t) = below_fits w16 s t (subst (FitsSigned w16) c.cast_signed-y-in-W16.ensures right_fits) below in
    let word : c.cast_unsigned-else-rest-eq0-2.result ≡ cast_unsigned w16 (cast_signed w16 (cast_unsigned w16 (int_rem_euclid s t +ℤ t))) =
    c.cast_unsigned-else-rest-eq0-2.ensures
    ∙ ap (λ n. cast_unsigned w16 (cast_signed w16 (cast_unsigned w16 (n +ℤ cast_signed w16 (cast_unsigned w16 c.cast_signed-y-in-W16.result))))) (reread w16 c.wrapping_rem_euclid-rest-in-W16.result (int_rem_euclid s t) rest_fits rest)
    ∙ ap (λ n. cast_unsigned w16 (cast_signed w16 (cast_unsigned w16 (int_rem_euclid s t +ℤ n)))) right in
    rw (c.in-W16.is, some) (word ∙ word_of w16 (int_rem_euclid s t +ℤ t) fits (lit≤ tt) ∙ ap (residue 16) (sym (floored_below s t below open_rest)))

pub returns-else-rest-eq0-3 : goal.returns-else-rest-eq0-3
unfolding signed
returns-else-rest-eq0-3 c =
    let some : (c.args.y == 0) ≡ false = ne_eqb c.args.y 0 c.if-y-eq0.false in
    let s : ℤ = signed 32 c.args.x in
    let t : ℤ = signed 32 c.args.y in
    let right_fits : FitsSigned w32 c.cast_signed-y-in-W32.result = record { sfits = c.cast_signed-y-in-W32.type_inv } in
    let rest_fits : FitsSigned w32 c.wrapping_rem_euclid-rest-in-W32.result = record { sfits = c.wrapping_rem_euclid-rest-in-W32.type_inv } in
    let left = reread w32 c.cast_signed-x-in-W32.result s (record { sfits = c.cast_signed-x-in-W32.type_inv }) c.cast_signed-x-in-W32.ensures in
    let right = reread w32 c.cast_signed-y-in-W32.result t right_fits c.cast_signed-y-in-W32.ensures in
    let rest : c.wrapping_rem_euclid-rest-in-W32.result ≡ int_rem_euclid s t =
    c.wrapping_rem_euclid-rest-in-W32.ensures
    ∙ ap (λ n. int_rem_euclid n (cast_signed w32 (cast_unsigned w32 c.cast_signed-y-in-W32.result))) left
    ∙ ap (int_rem_euclid s) right in
    let below : t <ℤ pos 0 = signed_negative 32 c.args.y (pos_of_ne-zero c.if-y-eq0.false) (ap (int_lt (pos 0)) (sym right) ∙ c.if-y-gt0-3.false) in
    let open_rest : int_rem_euclid s t ≢ pos 0 = λ e. c.if-rest-eq0-3.false (ap (cast_unsigned w32) (rest ∙ e)) in
    let fits : FitsSigned w32 (int_rem_euclid s t +ℤ t) = below_fits w32 s t (subst (FitsSigned w32) c.cast_signed-y-in-W32.ensures right_fits) below in
    let word : c.cast_unsigned-else-rest-eq0-3.result ≡ cast_unsigned w32 (cast_signed w32 (cast_unsigned w32 (int_rem_euclid s t +ℤ t))) =
    c.cast_unsigned-else-rest-eq0-3.ensures
    ∙ ap (λ n. cast_unsigned w32 (cast_signed w32 (cast_unsigned w32 (n +ℤ cast_signed w32 (cast_unsigned w32 c.cast_signed-y-in-W32.result))))) (reread w32 c.wrapping_rem_euclid-rest-in-W32.result (int_rem_euclid s t) rest_fits rest)
    ∙ ap (λ n. cast_unsigned w32 (cast_signed w32 (cast_unsigned w32 (int_rem_euclid s t +ℤ n)))) right in
    rw (c.in-W32.is, some) (word ∙ word_of w32 (int_rem_euclid s t +ℤ t) fits (lit≤ tt) ∙ ap (residue 32) (sym (floored_below s t below open_rest)))

pub returns-else-rest-eq0-4 : goal.returns-else-rest-eq0-4
unfolding signed
returns-else-rest-eq0-4 c =
    let some : (c.args.y == 0) ≡ false = ne_eqb c.args.y 0 c.if-y-eq0.false in
    let s : ℤ = signed 64 c.args.x in
    let t : ℤ = signed 64 c.args.y in
    let right_fits : FitsSigned w64 c.cast_signed-y-in-W64.result = record { sfits = c.cast_signed-y-in-W64.type_inv } in
    let rest_fits : FitsSigned w64 c.wrapping_rem_euclid-rest-in-W64.result = record { sfits = c.wrapping_rem_euclid-rest-in-W64.type_inv } in
    let left = reread w64 c.cast_signed-x-in-W64.result s (record { sfits = c.cast_signed-x-in-W64.type_inv }) c.cast_signed-x-in-W64.ensures in
    let right = reread w64 c.cast_signed-y-in-W64.result t right_fits c.cast_signed-y-in-W64.ensures in
    let rest : c.wrapping_rem_euclid-rest-in-W64.result ≡ int_rem_euclid s t =
    c.wrapping_rem_euclid-rest-in-W64.ensures
    ∙ ap (λ n. int_rem_euclid n (cast_signed w64 (cast_unsigned w64 c.cast_signed-y-in-W64.result))) left
    ∙ ap (int_rem_euclid s) right in
    let below : t <ℤ pos 0 = signed_negative 64 c.args.y (pos_of_ne-zero c.if-y-eq0.false) (ap (int_lt (pos 0)) (sym right) ∙ c.if-y-gt0-4.false) in
    let open_rest : int_rem_euclid s t ≢ pos 0 = λ e. c.if-rest-eq0-4.false (ap (cast_unsigned w64) (rest ∙ e)) in
    let fits : FitsSigned w64 (int_rem_euclid s t +ℤ t) = below_fits w64 s t (subst (FitsSigned w64) c.cast_signed-y-in-W64.ensures right_fits) below in
    let word : c.cast_unsigned-else-rest-eq0-4.result ≡ cast_unsigned w64 (cast_signed w64 (cast_unsigned w64 (int_rem_euclid s t +ℤ t))) =
    c.cast_unsigned-else-rest-eq0-4.ensures
    ∙ ap (λ n. cast_unsigned w64 (cast_signed w64 (cast_unsigned w64 (n +ℤ cast_signed w64 (cast_unsigned w64 c.cast_signed-y-in-W64.result))))) (reread w64 c.wrapping_rem_euclid-rest-in-W64.result (int_rem_euclid s t) rest_fits rest)
    ∙ ap (λ n. cast_unsigned w64 (cast_signed w64 (cast_unsigned w64 (int_rem_euclid s t +ℤ n)))) right in
    rw (c.in-W64.is, some) (word ∙ word_of w64 (int_rem_euclid s t +ℤ t) fits (lit≤ tt) ∙ ap (residue 64) (sym (floored_below s t below open_rest)))
