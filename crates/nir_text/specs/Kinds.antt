-- The words of kinds: w, a bit size, x, a number of components.
use Rattle.std.specs.Prelude.{ℕ, List, [], ◌∷◌, Option, codes, find}
use Rattle.std.specs.Option.{option_map}
use Rattle.std.specs.Str.{bytes_eq}
use Rattle.nir_ops.specs.declared.width.Width.TheVariants.{W1, W8, W16, W32, W64}
use Rattle.nir_ir.specs.declared.kind.Kind.{Kind}

-- a kind and its word
pub record KindWord : Type 0 where
  pub word : List ℕ
  pub kind : Kind

abbrev pub kind_words : List KindWord
kind_words =
    record { word = codes "w1x1"; kind = record { width = W1; count = 1 } } ∷
    record { word = codes "w1x2"; kind = record { width = W1; count = 2 } } ∷
    record { word = codes "w1x3"; kind = record { width = W1; count = 3 } } ∷
    record { word = codes "w1x4"; kind = record { width = W1; count = 4 } } ∷
    record { word = codes "w8x1"; kind = record { width = W8; count = 1 } } ∷
    record { word = codes "w8x2"; kind = record { width = W8; count = 2 } } ∷
    record { word = codes "w8x3"; kind = record { width = W8; count = 3 } } ∷
    record { word = codes "w8x4"; kind = record { width = W8; count = 4 } } ∷
    record { word = codes "w16x1"; kind = record { width = W16; count = 1 } } ∷
    record { word = codes "w16x2"; kind = record { width = W16; count = 2 } } ∷
    record { word = codes "w16x3"; kind = record { width = W16; count = 3 } } ∷
    record { word = codes "w16x4"; kind = record { width = W16; count = 4 } } ∷
    record { word = codes "w32x1"; kind = record { width = W32; count = 1 } } ∷
    record { word = codes "w32x2"; kind = record { width = W32; count = 2 } } ∷
    record { word = codes "w32x3"; kind = record { width = W32; count = 3 } } ∷
    record { word = codes "w32x4"; kind = record { width = W32; count = 4 } } ∷
    record { word = codes "w64x1"; kind = record { width = W64; count = 1 } } ∷
    record { word = codes "w64x2"; kind = record { width = W64; count = 2 } } ∷
    record { word = codes "w64x3"; kind = record { width = W64; count = 3 } } ∷
    record { word = codes "w64x4"; kind = record { width = W64; count = 4 } } ∷ []

-- the kind of a word
unfoldable pub kind_named : List ℕ → Option Kind
kind_named word = option_map (λ entry. entry.kind) (find (λ entry. bytes_eq entry.word word) kind_words)
