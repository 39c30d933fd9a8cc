-- An instruction with an opcode on the views that its sources are.
use Rattle.std.proofs.Common.{◌≡◌, ℕ, List, [], ◌∷◌, length, map, sym, ◌∙◌, ap, subst, refl}
use Rattle.std.specs.Prelude.{slice_index}
use Rattle.std.proofs.lemmas.List.{length-map}
use Rattle.nir_ops.specs.declared.op.Op.{Op}
use Rattle.nir_ops.specs.declared.width.Width.{Width}
use Rattle.nir_ops.specs.Width.{width_bits}
use Rattle.op_eval.specs.declared.view.View.{View}
use Rattle.op_eval.specs.Calls.{Fits, unsized_width}
use Rattle.op_eval.specs.Views.{CountsFit, view_mean, views_comps, views_counts, views_widths}
use Rattle.nir_ir.specs.declared.instr.Src.{Src}
use Rattle.nir_ir.specs.declared.kind.Kind.{Kind}
use Rattle.nir_ir.specs.Definitions.{kind_at}
use Rattle.nir_ir.specs.Shader.{Shader}
use Rattle.nir_mean.specs.Known.{HasKind}
use Rattle.nir_mean.specs.Table.{IsTable, kinds_of, values_of}
use Rattle.nir_validate.specs.Typed.{AluFits}
use Rattle.nir_mean.specs.Values.{Values, alu_mean, read, source_sizes}
use Rattle.nir_mean.specs.ViewLaws.{SourcesFit, view_kind}
use Rattle.nir_mean.proofs.TableLemmas.{table_sizes}

-- views that are the sources of an instruction
pub record AreSources (table : List View) (srcs : List Src) (views : List View) : Type 0 where
  pub widths : views_widths views ≡ map (λ src. (kinds_of table src.value.0).width) srcs
  pub comps : views_comps views ≡ map (read (values_of table)) srcs

sizes : (s : Shader) (table : List View) (srcs : List Src) (views : List View) → IsTable s table → AreSources table srcs views → views_widths views ≡ source_sizes (kind_at s.body) srcs
sizes s table srcs views is are = are.widths ∙ table_sizes s table srcs is

counts_seen : (views : List View) → views_counts views ≡ map (λ comps. length comps) (views_comps views)
counts_seen [] = refl
counts_seen (view ∷ views) = ap (λ counts. length view.comps ∷ counts) (counts_seen views)

counts_read : (values : Values) (srcs : List Src) → map (λ comps. length comps) (map (read values) srcs) ≡ map (λ src. length src.swizzle) srcs
counts_read values [] = refl
counts_read values (src ∷ srcs) =
    ap (λ n. n ∷ map (λ comps. length comps) (map (read values) srcs)) (length-map src.swizzle (λ c. slice_index (values src.value.0) c))
    ∙ ap (λ counts. length src.swizzle ∷ counts) (counts_read values srcs)

pub sources_widths : (s : Shader) (table : List View) (op : Op) (kind : Kind) (srcs : List Src) (views : List View) → IsTable s table → AreSources table srcs views
    → AluFits (kind_at s.body) op kind srcs → Fits op kind.width (views_widths views)
sources_widths s table op kind srcs views is are fits = subst (λ (widths : List Width). Fits op kind.width widths) (sym (sizes s table srcs views is are)) fits.widths

pub sources_counts : (s : Shader) (table : List View) (op : Op) (kind : Kind) (srcs : List Src) (views : List View) → AreSources table srcs views
    → AluFits (kind_at s.body) op kind srcs → CountsFit op kind.count (views_counts views)
sources_counts s table op kind srcs views are fits =
    subst (λ (counts : List ℕ). CountsFit op kind.count counts)
    (sym (counts_seen views ∙ ap (λ list. map (λ comps. length comps) list) are.comps ∙ counts_read (values_of table) srcs)) fits.counts

-- views are words of their bit sizes
views_fit : (views : List View) → SourcesFit (views_widths views) (views_comps views)
views_fit [] = tt
views_fit (view ∷ views) = (view.fits, views_fit views)

-- what the opcode makes of them is what the instruction makes, and it is of the instruction's kind
pub sources_mean : (s : Shader) (table : List View) (op : Op) (kind : Kind) (srcs : List Src) (views : List View) → IsTable s table → AreSources table srcs views
    → view_mean op (width_bits (unsized_width op kind.width (views_widths views))) (width_bits kind.width) kind.count (views_comps views) ≡ alu_mean (kind_at s.body) op kind srcs (values_of table)
unfolding alu_mean
sources_mean s table op kind srcs views is are =
    ap (λ widths. view_mean op (width_bits (unsized_width op kind.width widths)) (width_bits kind.width) kind.count (views_comps views)) (sizes s table srcs views is are)
    ∙ ap (λ comps. view_mean op (width_bits (unsized_width op kind.width (source_sizes (kind_at s.body) srcs))) (width_bits kind.width) kind.count comps) are.comps

pub sources_kind : (s : Shader) (table : List View) (op : Op) (kind : Kind) (srcs : List Src) (views : List View) → IsTable s table → AreSources table srcs views
    → AluFits (kind_at s.body) op kind srcs
    → HasKind kind (view_mean op (width_bits (unsized_width op kind.width (views_widths views))) (width_bits kind.width) kind.count (views_comps views))
sources_kind s table op kind srcs views is are fits =
    view_kind op kind (views_widths views) (views_counts views) (views_comps views)
    (sources_widths s table op kind srcs views is are fits) (sources_counts s table op kind srcs views are fits) (views_fit views)
