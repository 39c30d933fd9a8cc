-- The circuits of terms one after another, of a term alone, and where sizes stand behind those of the terms.
use Rattle.std.proofs.Common.{◌≡◌, refl, ℕ, ℤ, suc, ◌+◌, ◌-◌, ◌<◌, ◌≤◌, Bool, Option, List, [], ◌∷◌, ◌++◌, length, take, drop, get_or, sym, ◌∙◌, ap, arith, append_assoc}
use Rattle.std.proofs.lemmas.List.{append-nil, drop-drop, get_or-take}
use Rattle.nir_ops.specs.declared.op.Op.{Op}
use Rattle.nir_ops.specs.declared.width.Width.{Width}
use Rattle.nir_ops.specs.declared.width.Width.TheVariants.{W1}
use Rattle.nir_ops.specs.Width.{width_bits}
use Rattle.op_eval.specs.Word.{residue}
use Rattle.rule_term.specs.declared.cond.Cond.{Cond}
use Rattle.rule_term.specs.declared.term.Term.{Term}
use Rattle.rule_term.specs.declared.term.Term.TheVariants as term
use Rattle.rule_term.specs.Terms.{Terms, Nil, VarThen, LitThen, AppThen, terms_of}
use Rattle.rule_term.specs.Lists.{then, terms_of-var, terms_of-lit, terms_of-app, terms_of-drop}
use Rattle.rule_term.specs.Typings.{size_of, first_of}
use Rattle.rule_term.specs.Splits.{drop_one, drop_behind}
use Rattle.circuit_laws.specs.Literals.{Lit, constant}
use Rattle.circuit_laws.specs.Gates.{Gate}
use Rattle.circuit_laws.specs.Blocks.{Block, behind}
use Rattle.circuit_laws.specs.Opcodes.{word_at, op_circuit}
use Rattle.circuit_laws.specs.RuleClauses.{Built, leaf, node, terms_circuit}
use Rattle.circuit_laws.specs.SequenceLaws.{behind_both}
use Rattle.bit_circuit.proofs.Walks.{first-drop, cut}

-- the circuits of some terms, and of others behind them
abbrev pub built_both : Built → Built → Built
built_both a b = record { words = a.words ++ b.words; gates = a.gates ++ b.gates }

abbrev behind_of : Terms → List Width → List (List Lit) → ℕ → ℕ
behind_of terms widths vars n = behind n (terms_circuit terms widths vars n).gates

regrouped : (a b c d : List Gate) → a ++ (b ++ (c ++ d)) ≡ (a ++ (b ++ c)) ++ d
regrouped a b c d = ap (λ l. a ++ l) (sym (append_assoc b c d)) ∙ sym (append_assoc a (b ++ c) d)

pub circuit-then : (a b : Terms) (widths : List Width) (vars : List (List Lit)) (n : ℕ) →
    terms_circuit (then a b) widths vars n ≡ built_both (terms_circuit a widths vars n) (terms_circuit b (drop (size_of a) widths) vars (behind_of a widths vars n))
circuit-then Nil b widths vars n = let e : n + 0 ≡ n = omega arith in ap (terms_circuit b widths vars) (sym e)
circuit-then (VarThen var constant size cond rest) b widths vars n =
    ap (leaf (word_at vars var)) (circuit-then rest b (drop 1 widths) vars n)
    ∙ ap (λ l. leaf (word_at vars var) (built_both (terms_circuit rest (drop 1 widths) vars n) (terms_circuit b l vars (behind_of rest (drop 1 widths) vars n)))) (drop_one (size_of rest) widths)
circuit-then (LitThen value boolean rest) b widths vars n =
    let ls = constant (width_bits (first_of widths)) (residue (width_bits (first_of widths)) value) in
    ap (leaf ls) (circuit-then rest b (drop 1 widths) vars n)
    ∙ ap (λ l. leaf ls (built_both (terms_circuit rest (drop 1 widths) vars n) (terms_circuit b l vars (behind_of rest (drop 1 widths) vars n)))) (drop_one (size_of rest) widths)
circuit-then (AppThen op size once args rest) b widths vars n =
    let sources : Built = terms_circuit args (drop 1 widths) vars n in
    let own : Block = op_circuit op (width_bits (first_of widths)) sources.words (behind n sources.gates) in
    let from : ℕ = behind (behind n sources.gates) own.gates in
    let outer : List Width = drop (suc (size_of args)) widths in
    let last : Built = terms_circuit rest outer vars from in
    let end : behind from last.gates ≡ behind n (sources.gates ++ (own.gates ++ last.gates)) =
    behind_both (behind n sources.gates) own.gates last.gates ∙ behind_both n sources.gates (own.gates ++ last.gates) in
    let other : ℕ → List Width → Built = λ m l. terms_circuit b l vars m in
    ap (node sources.gates own) (circuit-then rest b outer vars from)
    ∙ ap (λ l. node sources.gates own (built_both last (other (behind from last.gates) l))) (drop_behind (size_of rest) (size_of args) widths)
    ∙ ap (λ m. node sources.gates own (built_both last (other m (drop (suc (size_of args + size_of rest)) widths)))) end
    ∙ ap (λ gs. record { words = own.word ∷ last.words ++ (other (behind n (sources.gates ++ (own.gates ++ last.gates))) (drop (suc (size_of args + size_of rest)) widths)).words; gates = gs })
    (regrouped sources.gates own.gates last.gates (other (behind n (sources.gates ++ (own.gates ++ last.gates))) (drop (suc (size_of args + size_of rest)) widths)).gates)

-- ---- a term alone

pub circuit-var : (t : Term) (var : ℕ) (constant : Bool) (size : Option Width) (cond : Option Cond) (widths : List Width) (vars : List (List Lit)) (n : ℕ) → t ≡ term.Var var constant size cond →
    terms_circuit (terms_of (t ∷ [])) widths vars n ≡ record { words = word_at vars var ∷ []; gates = [] }
circuit-var t var constant size cond widths vars n is =
    ap (λ u. terms_circuit (terms_of (u ∷ [])) widths vars n) is ∙ ap (λ u. terms_circuit u widths vars n) (terms_of-var var constant size cond)

pub circuit-lit : (t : Term) (value : ℤ) (boolean : Bool) (widths : List Width) (place : ℕ) (vars : List (List Lit)) (n : ℕ) → t ≡ term.Lit value boolean →
    terms_circuit (terms_of (t ∷ [])) (drop place widths) vars n
    ≡ record { words = constant (width_bits (get_or widths place W1)) (residue (width_bits (get_or widths place W1)) value) ∷ []; gates = [] }
circuit-lit t value boolean widths place vars n is =
    ap (λ u. terms_circuit (terms_of (u ∷ [])) (drop place widths) vars n) is
    ∙ ap (λ u. terms_circuit u (drop place widths) vars n) (terms_of-lit value boolean)
    ∙ ap (λ w. record { words = constant (width_bits w) (residue (width_bits w) value) ∷ []; gates = [] }) (first-drop widths place)

-- the circuit of an opcode behind those of its sources
abbrev pub call_circuit : Op → Width → Built → ℕ → Block
call_circuit op width sources n = op_circuit op (width_bits width) sources.words (behind n sources.gates)

pub circuit-app : (t : Term) (op : Op) (size : Option Width) (once : Bool) (args : List Term) (widths : List Width) (place : ℕ) (vars : List (List Lit)) (n : ℕ) → t ≡ term.App op size once args →
    terms_circuit (terms_of (t ∷ [])) (drop place widths) vars n
    ≡ record {
      words = (call_circuit op (get_or widths place W1) (terms_circuit (terms_of args) (drop (place + 1) widths) vars n) n).word ∷ [];
      gates = (terms_circuit (terms_of args) (drop (place + 1) widths) vars n).gates
          ++ (call_circuit op (get_or widths place W1) (terms_circuit (terms_of args) (drop (place + 1) widths) vars n) n).gates;
    }
circuit-app t op size once args widths place vars n is =
    let sources : Built = terms_circuit (terms_of args) (drop (place + 1) widths) vars n in
    ap (λ u. terms_circuit (terms_of (u ∷ [])) (drop place widths) vars n) is
    ∙ ap (λ u. terms_circuit u (drop place widths) vars n) (terms_of-app op size once args)
    ∙ ap (λ l. node_alone (first_of (drop place widths)) (terms_circuit (terms_of args) l vars n)) (drop-drop 1 place widths)
    ∙ ap (λ w. node_alone w sources) (first-drop widths place)
    ∙ ap (λ gs. record { words = (call_circuit op (get_or widths place W1) sources n).word ∷ []; gates = sources.gates ++ gs }) (append-nil (call_circuit op (get_or widths place W1) sources n).gates)
  where
    node_alone : Width → Built → Built
    node_alone w built = record { words = (call_circuit op w built n).word ∷ []; gates = built.gates ++ ((call_circuit op w built n).gates ++ []) }

-- ---- a loop over a list of terms

pub circuit-step : (list : List Term) (i : ℕ) (t : Term) (widths : List Width) (place next : ℕ) (vars : List (List Lit)) (n : ℕ) → i < length list → t ≡ get_or list i t → next ≡ place + size_of (terms_of (t ∷ [])) →
    terms_circuit (terms_of (drop i list)) (drop place widths) vars n
    ≡ built_both (terms_circuit (terms_of (t ∷ [])) (drop place widths) vars n)
    (terms_circuit (terms_of (drop (i + 1) list)) (drop next widths) vars (behind n (terms_circuit (terms_of (t ∷ [])) (drop place widths) vars n).gates))
circuit-step list i t widths place next vars n within at behind_it =
    let own : Built = terms_circuit (terms_of (t ∷ [])) (drop place widths) vars n in
    ap (λ u. terms_circuit u (drop place widths) vars n) (terms_of-drop list i t within at)
    ∙ circuit-then (terms_of (t ∷ [])) (terms_of (drop (i + 1) list)) (drop place widths) vars n
    ∙ ap (λ l. built_both own (terms_circuit (terms_of (drop (i + 1) list)) l vars (behind n own.gates)))
    (drop-drop (size_of (terms_of (t ∷ []))) place widths ∙ ap (λ m. drop m widths) (sym behind_it))

-- ---- sizes behind the nodes of terms tell nothing of them

pub circuit-take : (terms : Terms) (m : ℕ) (widths : List Width) (vars : List (List Lit)) (n : ℕ) → size_of terms ≤ m → terms_circuit terms (take m widths) vars n ≡ terms_circuit terms widths vars n
circuit-take Nil m widths vars n enough = refl
circuit-take (VarThen var constant size cond rest) m widths vars n enough =
    ap (leaf (word_at vars var)) (ap (λ l. terms_circuit rest l vars n) (cut 1 m widths (omega arith)) ∙ circuit-take rest (m - 1) (drop 1 widths) vars n (omega arith))
circuit-take (LitThen value boolean rest) m widths vars n enough =
    ap (λ w. leaf (constant (width_bits w) (residue (width_bits w) value)) (terms_circuit rest (drop 1 (take m widths)) vars n)) (get_or-take m widths 0 W1 (omega arith))
    ∙ ap (leaf (constant (width_bits (first_of widths)) (residue (width_bits (first_of widths)) value)))
    (ap (λ l. terms_circuit rest l vars n) (cut 1 m widths (omega arith)) ∙ circuit-take rest (m - 1) (drop 1 widths) vars n (omega arith))
circuit-take (AppThen op size once args rest) m widths vars n enough =
    let whole : Width → Built → List Width → Built = λ w sources l.
    let own : Block = call_circuit op w sources n in
    node sources.gates own (terms_circuit rest l vars (behind (behind n sources.gates) own.gates)) in
    let sources : Built = terms_circuit args (drop 1 widths) vars n in
    let own : Block = call_circuit op (first_of widths) sources n in
    ap (λ w. whole w (terms_circuit args (drop 1 (take m widths)) vars n) (drop (suc (size_of args)) (take m widths))) (get_or-take m widths 0 W1 (omega arith))
    ∙ ap (λ l. whole (first_of widths) (terms_circuit args l vars n) (drop (suc (size_of args)) (take m widths))) (cut 1 m widths (omega arith))
    ∙ ap (λ s. whole (first_of widths) s (drop (suc (size_of args)) (take m widths))) (circuit-take args (m - 1) (drop 1 widths) vars n (omega arith))
    ∙ ap (node sources.gates own)
    (ap (λ l. terms_circuit rest l vars (behind (behind n sources.gates) own.gates)) (cut (suc (size_of args)) m widths (omega arith))
    ∙ circuit-take rest (m - suc (size_of args)) (drop (suc (size_of args)) widths) vars (behind (behind n sources.gates) own.gates) (omega arith))
