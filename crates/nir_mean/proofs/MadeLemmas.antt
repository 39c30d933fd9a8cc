-- Lists of components that a loop makes place by place.
use Rattle.std.proofs.Common.{◌≡◌, ℕ, suc, ◌+◌, ◌<◌, ◌^◌, List, [], ◌∷◌, ◌++◌, length, map, sym, ◌∙◌, ap, arith}
use Rattle.std.specs.List.{range_with_len}
use Rattle.std.proofs.lemmas.List.FromFn.{length-map-range_with_len, map-range_with_len_more}
use Rattle.nir_ops.specs.declared.width.Width.{Width}
use Rattle.nir_ops.specs.declared.width.Width.TheVariants.{W1, W8, W16, W32, W64}
use Rattle.nir_ops.specs.Width.{width_bits}
use Rattle.nir_mean.specs.State.{width_bytes}
use Rattle.nir_mean.specs.ViewLaws.{AreWords, are_words-cons, are_words-none}

pub made_count : (f : ℕ → ℕ) (list : List ℕ) (count : ℕ) → list ≡ map f (range_with_len 0 count) → length list ≡ count
made_count f list count e = ap length e ∙ length-map-range_with_len f 0 count

pub made_more : (f : ℕ → ℕ) (list more : List ℕ) (x count : ℕ) → list ≡ map f (range_with_len 0 count) → x ≡ f count → more ≡ list ++ x ∷ [] → more ≡ map f (range_with_len 0 (count + 1))
made_more f list more x count e g h =
    h ∙ ap (λ l. l ++ x ∷ []) e ∙ ap (λ y. map f (range_with_len 0 count) ++ y ∷ []) g ∙ sym (map-range_with_len_more f 0 count count (omega arith))

pub words_more : (bits : ℕ) (list : List ℕ) (x : ℕ) → AreWords bits list → x < 2 ^ bits → AreWords bits (list ++ x ∷ [])
words_more bits [] x words small = are_words-cons bits x [] small (are_words-none bits)
words_more bits (y ∷ list) x words small = are_words-cons bits y (list ++ x ∷ []) (words 0) (words_more bits list x (λ at. words (suc at)) small)

pub bytes_word : (width : Width) (x : ℕ) → x < 256 ^ width_bytes width → x < 2 ^ width_bits width
bytes_word W1 x h = omega arith
bytes_word W8 x h = h
bytes_word W16 x h = h
bytes_word W32 x h = h
bytes_word W64 x h = h
