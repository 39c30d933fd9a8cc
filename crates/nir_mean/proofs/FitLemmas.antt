-- Words that fit a shader are inputs and buffers that fit it.
use Rattle.std.proofs.Common.{◌≡◌, ℕ, zero, suc, ◌<◌, ◌^◌, true, List, [], ◌∷◌, length, sym, arith}
use Rattle.std.specs.Prelude.{nat_eq, nat_lt, slice_index}
use Rattle.std.specs.List.{list_all}
use Rattle.std.proofs.lemmas.Bool.{and_parts, true≢false}
use Rattle.std.proofs.lemmas.Bool.Decides.{nat_tests}
use Rattle.nir_ops.specs.declared.width.Width.{Width}
use Rattle.nir_ops.specs.declared.width.Width.TheVariants.{W1, W8, W16, W32, W64}
use Rattle.nir_ops.specs.Width.{width_bits}
use Rattle.nir_ir.specs.declared.kind.Kind.{Kind}
use Rattle.nir_ir.specs.Shader as ir
use Rattle.eval_words.specs.declared.words.EvalWords.{EvalWords}
use Rattle.nir_mean.specs.EvalAnswers.{comps_fit, inputs_fit, words_fit}
use Rattle.nir_mean.specs.Known.{HasKind}
use Rattle.nir_mean.specs.Same.{InputsFit}

less_is : (m n : ℕ) → nat_lt m n ≡ true → m < n
less_is m n h = grind (arith, nat_tests)

same_is : (m n : ℕ) → nat_eq m n ≡ true → m ≡ n
same_is m n h = grind (arith, nat_tests)

words_are : (bound : ℕ) (comps : List ℕ) → 0 < bound → list_all (λ comp. nat_lt comp bound) comps ≡ true → (at : ℕ) → slice_index comps at < bound
words_are bound [] some all at = some
words_are bound (comp ∷ comps) some all zero = less_is comp bound (and_parts (nat_lt comp bound) (list_all (λ c. nat_lt c bound) comps) all).0
words_are bound (comp ∷ comps) some all (suc at) = words_are bound comps some (and_parts (nat_lt comp bound) (list_all (λ c. nat_lt c bound) comps) all).1 at

width_some : (width : Width) → 0 < 2 ^ width_bits width
width_some W1 = omega arith
width_some W8 = omega arith
width_some W16 = omega arith
width_some W32 = omega arith
width_some W64 = omega arith

kind_is : (kind : Kind) (comps : List ℕ) → comps_fit kind comps ≡ true → HasKind kind comps
kind_is kind comps fits =
    let parts = and_parts (nat_eq (length comps) kind.count) (list_all (λ comp. nat_lt comp (2 ^ width_bits kind.width)) comps) fits in
    record { count = same_is (length comps) kind.count parts.0; words = words_are (2 ^ width_bits kind.width) comps (width_some kind.width) parts.1 }

inputs_are : (kinds : List Kind) (inputs : List (List ℕ)) → inputs_fit kinds inputs ≡ true → InputsFit kinds inputs
inputs_are [] [] fits = tt
inputs_are [] (comps ∷ inputs) fits = absurd (true≢false (sym fits))
inputs_are (kind ∷ kinds) [] fits = absurd (true≢false (sym fits))
inputs_are (kind ∷ kinds) (comps ∷ inputs) fits =
    let parts = and_parts (comps_fit kind comps) (inputs_fit kinds inputs) fits in
    (kind_is kind comps parts.0, inputs_are kinds inputs parts.1)

pub inputs_from : (words : EvalWords) (s : ir.Shader) → words_fit words s ≡ true → InputsFit s.inputs words.inputs
unfolding words_fit
inputs_from words s fits = inputs_are s.inputs words.inputs (and_parts (inputs_fit s.inputs words.inputs) (nat_eq (length words.buffers) s.buffers) fits).0

pub buffers_from : (words : EvalWords) (s : ir.Shader) → words_fit words s ≡ true → length words.buffers ≡ s.buffers
unfolding words_fit
buffers_from words s fits = same_is (length words.buffers) s.buffers (and_parts (inputs_fit s.inputs words.inputs) (nat_eq (length words.buffers) s.buffers) fits).1
