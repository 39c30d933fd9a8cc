-- The table of values: what is read from it, and the kinds that it has.
use Rattle.std.proofs.Common.{◌≡◌, ℕ, ◌≤◌, List, [], ◌∷◌, length, map, sym, ◌∙◌, ap, refl, Option, Some, None}
use Rattle.std.specs.Option.{option_map_or, unwrap_or}
use Rattle.std.specs.Prelude.{slice_get}
use Rattle.std.proofs.lemmas.Option.{slice_get_past}
use Rattle.nir_ops.specs.declared.width.Width.{Width}
use Rattle.nir_ops.specs.declared.width.Width.TheVariants.{W1}
use Rattle.op_eval.specs.declared.view.View.{View}
use Rattle.nir_ir.specs.declared.ids.ValueId.{ValueId}
use Rattle.nir_ir.specs.declared.instr.Src.{Src}
use Rattle.nir_ir.specs.declared.kind.Kind.{Kind}
use Rattle.nir_ir.specs.Definitions.{kind_at, width_at}
use Rattle.nir_ir.specs.Shader.{Shader}
use Rattle.nir_mean.specs.Table.{IsTable, kind_seen, kinds_of, values_of}
use Rattle.nir_mean.specs.Values.{source_sizes}

-- the kind of a view
pub kind_same : (view : View) (kind : Kind) → view.width ≡ kind.width → length view.comps ≡ kind.count → kind_seen view ≡ kind
kind_same view kind width count =
    let with_width : Width → Kind = λ w. record { width = w; count = length view.comps } in
    let with_count : ℕ → Kind = λ n. record { width = kind.width; count = n } in
    ap with_width width ∙ ap with_count count

-- no components past the end
pub values_past : (table : List View) (n : ℕ) → length table ≤ n → [] ≡ values_of table n
values_past table n past = sym (ap (λ found. option_map_or (λ view. view.comps) found []) (slice_get_past table n past))

-- the kind of a value that is defined
pub table_kind : (s : Shader) (table : List View) (id : ValueId) (kind : Kind) → IsTable s table → kind_at s.body id ≡ Some kind → kinds_of table id.0 ≡ kind
table_kind s table id kind is found = is.kinds id ∙ ap (λ known. unwrap_or known (record { width = W1; count = 0 })) found

width_found : (found : Option Kind) → (unwrap_or found (record { width = W1; count = 0 })).width ≡ option_map_or (λ kind. kind.width) found W1
width_found None = refl
width_found (Some kind) = refl

pub table_width : (s : Shader) (table : List View) (id : ValueId) → IsTable s table → (kinds_of table id.0).width ≡ width_at s.body id
table_width s table id is = ap (λ kind. kind.width) (is.kinds id) ∙ width_found (kind_at s.body id)

-- the bit sizes of sources
pub table_sizes : (s : Shader) (table : List View) (srcs : List Src) → IsTable s table → map (λ src. (kinds_of table src.value.0).width) srcs ≡ source_sizes (kind_at s.body) srcs
table_sizes s table [] is = refl
table_sizes s table (src ∷ srcs) is =
    ap (λ width. width ∷ map (λ source. (kinds_of table source.value.0).width) srcs) (table_width s table src.value is)
    ∙ ap (λ widths. width_at s.body src.value ∷ widths) (table_sizes s table srcs is)

-- a table of the same kinds is one of the same shader
pub table_kept : (s : Shader) (before after : List View) → IsTable s before → kinds_of after ≡ kinds_of before → length after ≡ length before → IsTable s after
table_kept s before after is kinds len = record {
  whole = len ∙ is.whole;
  kinds = λ id. ap (λ (known : ℕ → Kind). known id.0) kinds ∙ is.kinds id;
}

-- the components of a value are as many as its kind says
count_found : (found : Option View) → length (option_map_or (λ view. view.comps) found []) ≡ (option_map_or kind_seen found (record { width = W1; count = 0 })).count
count_found None = refl
count_found (Some view) = refl

pub table_count : (table : List View) (n : ℕ) → length (values_of table n) ≡ (kinds_of table n).count
table_count table n = count_found (slice_get table n)
