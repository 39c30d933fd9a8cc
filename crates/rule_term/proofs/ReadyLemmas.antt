-- Terms that are ready to be evaluated, taken apart: the first and the rest, and a variable, a number and an opcode.
use Rattle.op_eval.specs.Sizes.{Fits-from_sizes_fit}
use Rattle.std.proofs.Common.{◌≡◌, ℕ, ◌+◌, ◌<◌, ◌≤◌, ◌^◌, suc, ℤ, Bool, true, ◌&&◌, Option, List, [], ◌∷◌, ◌++◌, length, drop, nat_eq, nat_lt, sym, ◌∙◌, ap, subst, arith}
use Rattle.std.proofs.lemmas.Bool.{and_parts, ltb-true, eqb-true}
use Rattle.std.proofs.lemmas.List.{append-nil, length-drop}
use Rattle.std.proofs.lemmas.List.Folds.{list_all-append}
use Rattle.std.specs.List.{list_all, slice_index_or}
use Rattle.nir_ops.specs.declared.op.Op.{Op}
use Rattle.nir_ops.specs.declared.width.Width.{Width}
use Rattle.nir_ops.specs.Width.{width_bits}
use Rattle.nir_ops.specs.Opcodes.{op_info}
use Rattle.op_eval.specs.Calls.{Fits, per_component, sizes_fit}
use Rattle.rule_term.specs.declared.cond.Cond.{Cond}
use Rattle.rule_term.specs.declared.term.Term.{Term, Term-F, out-Term, map-Term}
use Rattle.rule_term.specs.declared.term.Term.TheVariants as term
use Rattle.rule_term.specs.declared.term.Term.TheOpen as layer
use Rattle.rule_term.specs.Terms.{Terms, Nil, VarThen, LitThen, AppThen, before, before_layer, before-out, terms_of}
use Rattle.rule_term.specs.Lists.{then, terms_of-var, terms_of-lit, terms_of-app}
use Rattle.rule_term.specs.Splits.{size_of-then, pieces-then, obeys-then, occurrences-then}
use Rattle.rule_term.specs.Pieces.{pieces, terms_count}
use Rattle.rule_term.specs.Formed.{may_stand}
use Rattle.rule_term.specs.Typings.{size_of, first_of, roots, obeys, has_size, occurrences}
use Rattle.rule_term.specs.Holds.{is_word}
use Rattle.rule_term.specs.Ready.{IsReady, piece_ready}
use Rattle.rule_term.proofs.OpcodeLemmas.{few_inputs}
use Rattle.rule_term.specs.Standing.{per_component-from_may_stand}

pub ready-then : (a b : Terms) (widths : List Width) (values : List ℕ) → IsReady (then a b) widths values → IsReady a widths values × IsReady b (drop (size_of a) widths) values
ready-then a b widths values h =
    let test = piece_ready (length values) in
    let nodes = and_parts (list_all test (pieces a)) (list_all test (pieces b)) (sym (ap (list_all test) (pieces-then a b) ∙ list_all-append test (pieces a) (pieces b)) ∙ h.nodes) in
    let sizes = and_parts (obeys a widths) (obeys b (drop (size_of a) widths)) (sym (obeys-then a b widths) ∙ h.sizes) in
    let rest = drop (size_of a) widths in
    let words = and_parts (list_all (is_word values) (occurrences a widths)) (list_all (is_word values) (occurrences b rest))
    (sym (ap (list_all (is_word values)) (occurrences-then a b widths) ∙ list_all-append (is_word values) (occurrences a widths) (occurrences b rest)) ∙ h.words) in
    let enough = h.enough in
    let whole = size_of-then a b in
    let left = length-drop (size_of a) widths in (
      record { nodes = nodes.0; sizes = sizes.0; enough = omega arith; words = words.0 },
      record { nodes = nodes.1; sizes = sizes.1; enough = omega arith; words = words.1 },
    )

-- a chain that begins with a term has a size for it
pub ready_var : (var : ℕ) (constant : Bool) (size : Option Width) (cond : Option Cond) (widths : List Width) (values : List ℕ) → IsReady (VarThen var constant size cond Nil) widths values
    → (0 < length widths) × (var < length values) × (slice_index_or values var 0 < 2 ^ width_bits (first_of widths))
ready_var var constant size cond widths values h =
    let enough : 1 ≤ length widths = h.enough in
    let within = and_parts (nat_lt var (length values)) true h.nodes in
    let word = and_parts (nat_lt (slice_index_or values var 0) (2 ^ width_bits (first_of widths))) true h.words in
    (omega arith, ltb-true var (length values) within.0, ltb-true (slice_index_or values var 0) (2 ^ width_bits (first_of widths)) word.0)

pub ready_lit : (value : ℤ) (boolean : Bool) (widths : List Width) (values : List ℕ) → IsReady (LitThen value boolean Nil) widths values → 0 < length widths
ready_lit value boolean widths values h =
    let enough : 1 ≤ length widths = h.enough in
    omega arith

-- what an opcode over other terms has
pub record IsReadyCall (op : Op) (args : Terms) (widths : List Width) (values : List ℕ) : Type 0 where
  pub sized : 0 < length widths
  pub each : per_component op ≡ true
  pub fits : Fits op (first_of widths) (roots args (drop 1 widths))
  pub few : terms_count args ≤ 4
  pub sources : IsReady args (drop 1 widths) values

pub ready_app : (op : Op) (size : Option Width) (once : Bool) (args : Terms) (widths : List Width) (values : List ℕ) → IsReady (AppThen op size once args Nil) widths values → IsReadyCall op args widths values
ready_app op size once args widths values h =
    let enough : suc (size_of args + 0) ≤ length widths = h.enough in
    let left = length-drop 1 widths in
    let test = piece_ready (length values) in
    let here = and_parts (may_stand op && nat_eq (terms_count args) (length (op_info op).inputs)) (list_all test (pieces args ++ [])) h.nodes in
    let stands = and_parts (may_stand op) (nat_eq (terms_count args) (length (op_info op).inputs)) here.0 in
    let count = eqb-true (terms_count args) (length (op_info op).inputs) stands.1 in
    let few = few_inputs op in
    let sizes = and_parts (has_size size (first_of widths) && sizes_fit op (first_of widths) (roots args (drop 1 widths)) && obeys args (drop 1 widths)) true h.sizes in
    let inner = and_parts (has_size size (first_of widths) && sizes_fit op (first_of widths) (roots args (drop 1 widths))) (obeys args (drop 1 widths)) sizes.0 in
    let own = and_parts (has_size size (first_of widths)) (sizes_fit op (first_of widths) (roots args (drop 1 widths))) inner.0 in
    record {
      sized = omega arith;
      each = per_component-from_may_stand op stands.0;
      fits = Fits-from_sizes_fit op (first_of widths) (roots args (drop 1 widths)) own.1;
      few = omega arith;
      sources = record {
        nodes = sym (ap (list_all test) (append-nil (pieces args))) ∙ here.1;
        sizes = inner.1;
        enough = omega arith;
        words = sym (ap (list_all (is_word values)) (append-nil (occurrences args (drop 1 widths)))) ∙ h.words;
      };
    }

-- each term has a node
some_node-layer : (layer : Term-F (Terms → Terms)) (rest : Terms) → 0 < size_of (before_layer layer rest)
some_node-layer (layer.Var var constant size cond) rest = omega arith
some_node-layer (layer.Lit value boolean) rest = omega arith
some_node-layer (layer.App op size once args) rest = omega arith

pub some_node : (t : Term) (rest : Terms) → 0 < size_of (before t rest)
some_node t rest = rw (before-out t) (some_node-layer (map-Term Term (Terms → Terms) before (out-Term t)) rest)

-- a list of one term, by what the term is
pub at_var : (t : Term) (var : ℕ) (constant : Bool) (size : Option Width) (cond : Option Cond) → t ≡ term.Var var constant size cond → terms_of (t ∷ []) ≡ VarThen var constant size cond Nil
at_var t var constant size cond e = ap (λ u. terms_of (u ∷ [])) e ∙ terms_of-var var constant size cond

pub at_lit : (t : Term) (value : ℤ) (boolean : Bool) → t ≡ term.Lit value boolean → terms_of (t ∷ []) ≡ LitThen value boolean Nil
at_lit t value boolean e = ap (λ u. terms_of (u ∷ [])) e ∙ terms_of-lit value boolean

pub at_app : (t : Term) (op : Op) (size : Option Width) (once : Bool) (args : List Term) → t ≡ term.App op size once args → terms_of (t ∷ []) ≡ AppThen op size once (terms_of args) Nil
at_app t op size once args e = ap (λ u. terms_of (u ∷ [])) e ∙ terms_of-app op size once args

-- the same of equal terms and sizes
pub ready_at : (a b : Terms) (widths others : List Width) (values : List ℕ) → a ≡ b → widths ≡ others → IsReady a widths values → IsReady b others values
ready_at a b widths others values e f h =
    let P : Terms → Type 0 = λ x. IsReady x others values in
    let Q : List Width → Type 0 = λ x. IsReady a x values in
    subst P e (subst Q f h)
