-- What is asked of the sizes of terms, by the first of them: whether they obey, and which variables are noted.
use Rattle.op_eval.specs.Sizes.{same_widths-same}
use Rattle.std.proofs.Common.{◌≡◌, refl, ℕ, suc, ◌+◌, ◌<◌, ℤ, Bool, true, false, ◌&&◌, Option, Some, None, List, [], ◌∷◌, ◌++◌, length, get_or, drop, sym, ap, ◌∙◌, arith}
use Rattle.std.proofs.Math.Bool.{and-true}
use Rattle.std.proofs.lemmas.List.{append-nil, drop-drop, drop_more, get_or-drop}
use Rattle.std.specs.Option.{option_and_then}
use Rattle.std.specs.Prelude.{is_none}
use Rattle.std.proofs.lemmas.Bool.{false_from_ne_true, true≢false}
use Rattle.op_eval.specs.Calls.{same_width, sizes_fit, unsized_of}
use Rattle.std.specs.Cmp.Lexicographic.{pointwise}
use Rattle.std.specs.List.{slice_index_or}
use Rattle.nir_ops.specs.declared.op.Op.{Op}
use Rattle.nir_ops.specs.declared.width.Width.{Width}
use Rattle.nir_ops.specs.declared.width.Width.TheVariants.{W1}
use Rattle.rule_term.specs.EightBitLaws.{one_root}
use Rattle.rule_term.specs.declared.cond.Cond.{Cond}
use Rattle.rule_term.specs.declared.term.Term.{Term}
use Rattle.rule_term.specs.declared.term.Term.TheVariants as term
use Rattle.rule_term.specs.Terms.{Terms, Nil, VarThen, LitThen, AppThen, terms_of}
use Rattle.rule_term.specs.Lists.{terms_of-var, terms_of-lit, terms_of-app, terms_of-drop}
use Rattle.rule_term.specs.Splits.{obeys-then, roots-then, occurrences-then, length-roots, terms_count-terms_of}
use Rattle.rule_term.specs.Typings.{size_of, first_of, roots, obeys, has_size, literal_fits, Occurrence, occurrences}
use Rattle.rule_term.specs.ReplaceLeast.{noted, noted_one}
use Rattle.rule_term.proofs.NodesLemmas.{size_of-app}
use Rattle.rule_term.proofs.ReadyLemmas.{some_node}

pub obeys-var : (var : ℕ) (constant : Bool) (size : Option Width) (cond : Option Cond) (widths : List Width) → obeys (terms_of (term.Var var constant size cond ∷ [])) widths ≡ has_size size (first_of widths)
obeys-var var constant size cond widths = ap (λ t. obeys t widths) (terms_of-var var constant size cond) ∙ and-true (has_size size (first_of widths))

pub obeys-lit : (value : ℤ) (boolean : Bool) (widths : List Width) → obeys (terms_of (term.Lit value boolean ∷ [])) widths ≡ literal_fits value boolean (first_of widths)
obeys-lit value boolean widths = ap (λ t. obeys t widths) (terms_of-lit value boolean) ∙ and-true (literal_fits value boolean (first_of widths))

pub obeys-app : (op : Op) (size : Option Width) (once : Bool) (args : List Term) (widths : List Width) → obeys (terms_of (term.App op size once args ∷ [])) widths ≡ (has_size size (first_of widths) && sizes_fit op (first_of widths) (roots (terms_of args) (drop 1 widths)) && obeys (terms_of args) (drop 1 widths))
obeys-app op size once args widths =
    ap (λ t. obeys t widths) (terms_of-app op size once args)
    ∙ and-true (has_size size (first_of widths) && sizes_fit op (first_of widths) (roots (terms_of args) (drop 1 widths)) && obeys (terms_of args) (drop 1 widths))

-- the sizes behind the term at a place of a loop
behind : (nodes own : ℕ) (t : Term) (widths : List Width) → own ≡ size_of (terms_of (t ∷ [])) → drop (size_of (terms_of (t ∷ []))) (drop nodes widths) ≡ drop (nodes + own) widths
behind nodes own t widths e = drop-drop (size_of (terms_of (t ∷ []))) nodes widths ∙ ap (λ k. drop (nodes + k) widths) (sym e)

pub obeys-drop : (list : List Term) (i nodes own : ℕ) (t : Term) (widths : List Width) → i < length list → t ≡ get_or list i t → own ≡ size_of (terms_of (t ∷ []))
    → obeys (terms_of (drop i list)) (drop nodes widths) ≡ (obeys (terms_of (t ∷ [])) (drop nodes widths) && obeys (terms_of (drop (i + 1) list)) (drop (nodes + own) widths))
obeys-drop list i nodes own t widths within at size =
    ap (λ x. obeys x (drop nodes widths)) (terms_of-drop list i t within at)
    ∙ obeys-then (terms_of (t ∷ [])) (terms_of (drop (i + 1) list)) (drop nodes widths)
    ∙ ap (λ l. obeys (terms_of (t ∷ [])) (drop nodes widths) && obeys (terms_of (drop (i + 1) list)) l) (behind nodes own t widths size)

pub ruleset obeys_steps = (obeys-var, obeys-lit, obeys-app)

-- the roots of the terms from a place on
pub roots-drop : (list : List Term) (i nodes own : ℕ) (t : Term) (widths : List Width) → i < length list → t ≡ get_or list i t → own ≡ size_of (terms_of (t ∷ [])) → roots (terms_of (t ∷ [])) (drop nodes widths) ≡ first_of (drop nodes widths) ∷ []
    → roots (terms_of (drop i list)) (drop nodes widths) ≡ first_of (drop nodes widths) ∷ roots (terms_of (drop (i + 1) list)) (drop (nodes + own) widths)
roots-drop list i nodes own t widths within at size root =
    ap (λ x. roots x (drop nodes widths)) (terms_of-drop list i t within at)
    ∙ roots-then (terms_of (t ∷ [])) (terms_of (drop (i + 1) list)) (drop nodes widths)
    ∙ ap (λ l. l ++ roots (terms_of (drop (i + 1) list)) (drop (size_of (terms_of (t ∷ []))) (drop nodes widths))) root
    ∙ ap (λ l. first_of (drop nodes widths) ∷ roots (terms_of (drop (i + 1) list)) l) (behind nodes own t widths size)

-- occurrences are noted one after another
onwards : (rest second : List Occurrence) (known : (k : List (Option Width)) → noted (rest ++ second) k ≡ option_and_then (noted second) (noted rest k)) (o : Option (List (Option Width))) → option_and_then (noted (rest ++ second)) o ≡ option_and_then (noted second) (option_and_then (noted rest) o)
onwards rest second known None = refl
onwards rest second known (Some k) = known k

pub noted-append : (first second : List Occurrence) (known : List (Option Width)) → noted (first ++ second) known ≡ option_and_then (noted second) (noted first known)
noted-append [] second known = refl
noted-append (o ∷ rest) second known = onwards rest second (noted-append rest second) (noted_one o.var o.width known)

one_step : (o : Option (List (Option Width))) → option_and_then (noted []) o ≡ o
one_step None = refl
one_step (Some k) = refl

pub noted-var : (var : ℕ) (constant : Bool) (size : Option Width) (cond : Option Cond) (widths : List Width) (known : List (Option Width)) → noted (occurrences (terms_of (term.Var var constant size cond ∷ [])) widths) known ≡ noted_one var (first_of widths) known
noted-var var constant size cond widths known = ap (λ t. noted (occurrences t widths) known) (terms_of-var var constant size cond) ∙ one_step (noted_one var (first_of widths) known)

pub noted-lit : (value : ℤ) (boolean : Bool) (widths : List Width) (known : List (Option Width)) → noted (occurrences (terms_of (term.Lit value boolean ∷ [])) widths) known ≡ Some known
noted-lit value boolean widths known = ap (λ t. noted (occurrences t widths) known) (terms_of-lit value boolean)

pub noted-app : (op : Op) (size : Option Width) (once : Bool) (args : List Term) (widths : List Width) (known : List (Option Width)) → noted (occurrences (terms_of (term.App op size once args ∷ [])) widths) known ≡ noted (occurrences (terms_of args) (drop 1 widths)) known
noted-app op size once args widths known =
    ap (λ t. noted (occurrences t widths) known) (terms_of-app op size once args)
    ∙ ap (λ l. noted l known) (append-nil (occurrences (terms_of args) (drop 1 widths)))

-- a loop notes the term at its place and then the others
pub noted-on : (list : List Term) (i nodes own : ℕ) (t : Term) (widths : List Width) (known : List (Option Width)) (o total : Option (List (Option Width))) → i < length list → t ≡ get_or list i t → own ≡ size_of (terms_of (t ∷ []))
    → o ≡ noted (occurrences (terms_of (t ∷ [])) (drop nodes widths)) known
    → noted (occurrences (terms_of (drop i list)) (drop nodes widths)) known ≡ total
    → option_and_then (noted (occurrences (terms_of (drop (i + 1) list)) (drop (nodes + own) widths))) o ≡ total
noted-on list i nodes own t widths known o total within at size is so_far =
    let rest = terms_of (drop (i + 1) list) in
    ap (λ l. option_and_then (noted (occurrences rest l)) o) (sym (behind nodes own t widths size))
    ∙ ap (option_and_then (noted (occurrences rest (drop (size_of (terms_of (t ∷ []))) (drop nodes widths))))) is
    ∙ sym (noted-append (occurrences (terms_of (t ∷ [])) (drop nodes widths)) (occurrences rest (drop (size_of (terms_of (t ∷ []))) (drop nodes widths))) known)
    ∙ ap (λ l. noted l known) (sym (occurrences-then (terms_of (t ∷ [])) rest (drop nodes widths)))
    ∙ ap (λ x. noted (occurrences x (drop nodes widths)) known) (sym (terms_of-drop list i t within at))
    ∙ so_far

pub ruleset note_steps = (noted-var, noted-lit, noted-app)

pub some_nodes : (list : List Term) → 0 < length list → 0 < size_of (terms_of list)
some_nodes [] some = absurd (omega arith)
some_nodes (t ∷ rest) some = some_node t (terms_of rest)

-- the sizes of the sources are as many as they are
pub roots_count : (list : List Term) (widths : List Width) → length (roots (terms_of list) widths) ≡ length list
roots_count list widths = length-roots (terms_of list) widths ∙ terms_count-terms_of list

pub other_count : (sizes : List Width) (list : List Term) (widths : List Width) → (length sizes ≡ length list → ⊥) → false ≡ pointwise same_width sizes (roots (terms_of list) widths)
other_count sizes list widths differs = sym (false_from_ne_true (pointwise same_width sizes (roots (terms_of list) widths)) (λ same. differs (ap length (same_widths-same sizes (roots (terms_of list) widths) same) ∙ roots_count list widths)))

-- the unsized size of an opcode with a sized result is that of its first source
first_root : (terms : Terms) (widths : List Width) → 0 < size_of terms → (rest : List Width) × (roots terms widths ≡ first_of widths ∷ rest)
first_root Nil widths some = absurd (omega arith)
first_root (VarThen var constant size cond rest) widths some = (roots rest (drop 1 widths), refl)
first_root (LitThen value boolean rest) widths some = (roots rest (drop 1 widths), refl)
first_root (AppThen op size once args rest) widths some = (roots rest (drop (suc (size_of args)) widths), refl)

pub unsized_of-first : (out : Option Width) (dst : Width) (list : List Term) (widths : List Width) → is_none out ≡ false → 0 < length list → first_of widths ≡ unsized_of out dst (roots (terms_of list) widths)
unsized_of-first None dst list widths sized some = absurd (true≢false sized)
unsized_of-first (Some size) dst list widths sized some =
    let root = first_root (terms_of list) widths (some_nodes list some) in
    sym (ap (unsized_of (Some size) dst) root.1)

pub unsized_of-empty : (out : Option Width) (dst : Width) (list : List Term) (widths : List Width) → length list ≡ 0 → dst ≡ unsized_of out dst (roots (terms_of list) widths)
unsized_of-empty None dst list widths none = refl
unsized_of-empty (Some size) dst [] widths none = refl
unsized_of-empty (Some size) dst (t ∷ rest) widths none = absurd (omega arith)

pub unsized_of-none : (out : Option Width) (dst : Width) (roots : List Width) → is_none out ≡ true → dst ≡ unsized_of out dst roots
unsized_of-none None dst roots none = refl
unsized_of-none (Some size) dst roots none = absurd (true≢false (sym none))

-- an opcode that its sizes do not fit
pub obeys-at : (t : Term) (op : Op) (size : Option Width) (once : Bool) (args : List Term) (widths : List Width) → t ≡ term.App op size once args → obeys (terms_of (t ∷ [])) widths ≡ (has_size size (first_of widths) && sizes_fit op (first_of widths) (roots (terms_of args) (drop 1 widths)) && obeys (terms_of args) (drop 1 widths))
obeys-at t op size once args widths e = ap (λ x. obeys (terms_of (x ∷ [])) widths) e ∙ obeys-app op size once args widths

pub size_of-at : (t : Term) (op : Op) (size : Option Width) (once : Bool) (args : List Term) → t ≡ term.App op size once args → size_of (terms_of (t ∷ [])) ≡ size_of (terms_of args) + 1
size_of-at t op size once args e = ap (λ x. size_of (terms_of (x ∷ []))) e ∙ size_of-app op size once args

pub noted-at : (t : Term) (op : Op) (size : Option Width) (once : Bool) (args : List Term) (widths : List Width) (known : List (Option Width)) → t ≡ term.App op size once args → noted (occurrences (terms_of (t ∷ [])) widths) known ≡ noted (occurrences (terms_of args) (drop 1 widths)) known
noted-at t op size once args widths known e = ap (λ x. noted (occurrences (terms_of (x ∷ [])) widths) known) e ∙ noted-app op size once args widths known

pub roots-at : (t : Term) (widths : List Width) → roots (terms_of (t ∷ [])) widths ≡ first_of widths ∷ []
roots-at t widths = one_root (terms_of (t ∷ [])) widths (terms_count-terms_of (t ∷ []))

-- the source at a place, and those behind it
pub source_step : (sizes : List Width) (list : List Term) (i nodes own : ℕ) (t : Term) (widths : List Width) (total : Bool) → i < length sizes → i < length list → t ≡ get_or list i t → own ≡ size_of (terms_of (t ∷ []))
    → pointwise same_width (drop i sizes) (roots (terms_of (drop i list)) (drop nodes widths)) ≡ total
    → (same_width (first_of (drop i sizes)) (first_of (drop nodes widths)) && pointwise same_width (drop (i + 1) sizes) (roots (terms_of (drop (i + 1) list)) (drop (nodes + own) widths))) ≡ total
source_step sizes list i nodes own t widths total room within at size so_far =
    let later = roots (terms_of (drop (i + 1) list)) (drop (nodes + own) widths) in
    let split = drop_more sizes i W1 room in
    ap (λ w. same_width w (first_of (drop nodes widths)) && pointwise same_width (drop (i + 1) sizes) later) (ap first_of split)
    ∙ ap (λ l. pointwise same_width l (first_of (drop nodes widths) ∷ later)) (sym split)
    ∙ ap (pointwise same_width (drop i sizes)) (sym (roots-drop list i nodes own t widths within at size (roots-at t (drop nodes widths))))
    ∙ so_far

pub first_of-drop : (n : ℕ) (widths : List Width) → first_of (drop n widths) ≡ slice_index_or widths n W1
first_of-drop n widths = let e : n + 0 ≡ n = omega arith in get_or-drop n widths 0 W1 ∙ ap (λ k. slice_index_or widths k W1) e
