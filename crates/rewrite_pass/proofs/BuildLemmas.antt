-- What terms are made into, by the first of them: a variable, a number, an opcode, and one list behind another.
use Rattle.std.specs.Prelude.{◌≡◌, refl, ◌+◌, ◌<◌, ◌≤◌, ℕ, zero, suc, ℤ, Bool, Option, List, [], ◌∷◌, ◌++◌, length, drop}
use Rattle.std.proofs.Common.{sym, ◌∙◌, ap, ap₂, get_or, arith, append_assoc}
use Rattle.std.proofs.lemmas.List.{append-nil, drop-drop, drop_all, get_or-drop}
use Rattle.std.specs.List.{range_with_len, slice_index_or}
use Rattle.nir_ops.specs.declared.op.Op.{Op}
use Rattle.nir_ops.specs.declared.op.Op.TheVariants.{Mov}
use Rattle.nir_ops.specs.declared.width.Width.{Width}
use Rattle.nir_ops.specs.declared.width.Width.TheVariants.{W1}
use Rattle.nir_ir.specs.declared.ids.ValueId.{ValueId}
use Rattle.nir_ir.specs.declared.kind.Kind.{Kind}
use Rattle.nir_ir.specs.declared.instr.Src.{Src}
use Rattle.nir_ir.specs.declared.instr.Instr.{Instr}
use Rattle.nir_ir.specs.declared.instr.Instr.TheVariants.{Alu}
use Rattle.rule_term.specs.declared.cond.Cond.{Cond}
use Rattle.rule_term.specs.declared.term.Term.{Term, Term-F, out-Term, map-Term}
use Rattle.rule_term.specs.declared.term.Term.TheOpen as layer
use Rattle.rule_term.specs.declared.term.Term.TheVariants as term
use Rattle.rule_term.specs.Lists as lists
use Rattle.rule_term.specs.Lists.{terms_of-var, terms_of-lit, terms_of-app, terms_of-drop}
use Rattle.rule_term.specs.Splits.{drop_one, drop_behind, size_of-then}
use Rattle.rule_term.specs.Terms.{Terms, Nil, VarThen, LitThen, AppThen, before, before_layer, before-out, terms_of}
use Rattle.rule_term.specs.Typings.{first_of, size_of}
use Rattle.nir_search.specs.declared.hit.Bind.{Bind}
use Rattle.nir_search.specs.Put.{Made, bound_to, const_instr, made, root_of, view_source, whole_source}
use Rattle.rewrite_pass.specs.declared.build.Building.{Building}
use Rattle.rewrite_pass.specs.Building.{Builds, made_on}

-- one more component at the end
range_more : (a n m : ℕ) → m ≡ a + n → range_with_len a n ++ m ∷ [] ≡ range_with_len a (suc n)
range_more a zero m e = ap (λ k. k ∷ []) (e ∙ omega arith)
range_more a (suc n) m e = ap (λ t. a ∷ t) (range_more (a + 1) n m (e ∙ omega arith))

pub range_next : (n : ℕ) → range_with_len 0 n ++ n ∷ [] ≡ range_with_len 0 (n + 1)
range_next n = range_more 0 n n (omega arith) ∙ ap (range_with_len 0) {x = suc n} {y = n + 1} (omega arith)

-- two lists of what was made, one after another
abbrev pub both : Made → Made → Made
both a b = record { instrs = a.instrs ++ b.instrs; sources = a.sources ++ b.sources; next = b.next }

module _ (subst : List Bind) (count : ℕ) where
  pub made-then : (a b : Terms) (widths : List Width) (next : ℕ) → made subst count (lists.then a b) widths next ≡ both (made subst count a widths next) (made subst count b (drop (size_of a) widths) (made subst count a widths next).next)
  made-then Nil b widths next = refl
  made-then (VarThen var constant size cond rest) b widths next =
      let first = made subst count rest (drop 1 widths) next in
      ap (λ (m : Made). record { instrs = m.instrs; sources = view_source (bound_to subst var) ∷ m.sources; next = m.next })
      (made-then rest b (drop 1 widths) next ∙ ap (λ l. both first (made subst count b l first.next)) (drop_one (size_of rest) widths))
  made-then (LitThen number boolean rest) b widths next =
      let first = made subst count rest (drop 1 widths) (suc next) in
      let own = const_instr (record { 0 = next }) (record { width = first_of widths; count = count }) number in
      ap (λ (m : Made). record { instrs = own ∷ m.instrs; sources = whole_source (record { 0 = next }) count ∷ m.sources; next = m.next })
      (made-then rest b (drop 1 widths) (suc next) ∙ ap (λ l. both first (made subst count b l first.next)) (drop_one (size_of rest) widths))
  made-then (AppThen op size once args rest) b widths next =
      let inner = made subst count args (drop 1 widths) next in
      let behind = drop (suc (size_of args)) widths in
      let first = made subst count rest behind (suc inner.next) in
      let second = made subst count b (drop (suc (size_of args + size_of rest)) widths) first.next in
      let own : Instr = Alu (record { 0 = inner.next }) op (record { width = first_of widths; count = count }) inner.sources in
      let id : ValueId = record { 0 = inner.next } in
      ap (λ (m : Made). record { instrs = inner.instrs ++ own ∷ m.instrs; sources = whole_source id count ∷ m.sources; next = m.next })
      (made-then rest b behind (suc inner.next) ∙ ap (λ l. both first (made subst count b l first.next)) (drop_behind (size_of rest) (size_of args) widths))
      ∙ ap (λ (l : List Instr). record { instrs = l; sources = whole_source id count ∷ first.sources ++ second.sources; next = second.next })
      (sym (append_assoc inner.instrs (own ∷ first.instrs) second.instrs))

  -- a list of one term
  pub made-var : (t : Term) (var : ℕ) (constant : Bool) (size : Option Width) (cond : Option Cond) (widths : List Width) (next : ℕ) → t ≡ term.Var var constant size cond
      → made subst count (terms_of (t ∷ [])) widths next ≡ record { instrs = []; sources = view_source (bound_to subst var) ∷ []; next = next }
  made-var t var constant size cond widths next e =
      ap (λ x. made subst count (terms_of (x ∷ [])) widths next) e ∙ ap (λ x. made subst count x widths next) (terms_of-var var constant size cond)

  pub made-lit : (t : Term) (number : ℤ) (boolean : Bool) (widths : List Width) (next : ℕ) → t ≡ term.Lit number boolean
      → made subst count (terms_of (t ∷ [])) widths next
      ≡ record { instrs = const_instr (record { 0 = next }) (record { width = first_of widths; count = count }) number ∷ []; sources = whole_source (record { 0 = next }) count ∷ []; next = suc next }
  made-lit t number boolean widths next e =
      ap (λ x. made subst count (terms_of (x ∷ [])) widths next) e ∙ ap (λ x. made subst count x widths next) (terms_of-lit number boolean)

  -- what an opcode over sources makes behind them
  abbrev pub made_app : Op → Width → Made → Made
  made_app op width inner = record {
    instrs = inner.instrs ++ Alu (record { 0 = inner.next }) op (record { width = width; count = count }) inner.sources ∷ [];
    sources = whole_source (record { 0 = inner.next }) count ∷ [];
    next = suc inner.next;
  }

  pub made-app : (t : Term) (op : Op) (size : Option Width) (once : Bool) (args : List Term) (widths : List Width) (next : ℕ) → t ≡ term.App op size once args
      → made subst count (terms_of (t ∷ [])) widths next ≡ made_app op (first_of widths) (made subst count (terms_of args) (drop 1 widths) next)
  made-app t op size once args widths next e =
      ap (λ x. made subst count (terms_of (x ∷ [])) widths next) e ∙ ap (λ x. made subst count x widths next) (terms_of-app op size once args)

  -- the term at a place of a loop, and then those behind it
  pub made_at : (list : List Term) (i nodes next : ℕ) (t : Term) (widths : List Width) → i < length list → t ≡ get_or list i t
      → made subst count (terms_of (drop i list)) (drop nodes widths) next
      ≡ both (made subst count (terms_of (t ∷ [])) (drop nodes widths) next)
      (made subst count (terms_of (drop (i + 1) list)) (drop (nodes + size_of (terms_of (t ∷ []))) widths) (made subst count (terms_of (t ∷ [])) (drop nodes widths) next).next)
  made_at list i nodes next t widths within at =
      let own = made subst count (terms_of (t ∷ [])) (drop nodes widths) next in
      let rest = terms_of (drop (i + 1) list) in
      ap (λ x. made subst count x (drop nodes widths) next) (terms_of-drop list i t within at)
      ∙ made-then (terms_of (t ∷ [])) rest (drop nodes widths) next
      ∙ ap (λ l. both own (made subst count rest l own.next)) (drop-drop (size_of (terms_of (t ∷ []))) nodes widths)

  -- behind the last
  pub made_past : (list : List Term) (i : ℕ) (widths : List Width) (next : ℕ) → length list ≤ i → made subst count (terms_of (drop i list)) widths next ≡ record { instrs = []; sources = []; next = next }
  made_past list i widths next past = ap (λ l. made subst count (terms_of l) widths next) (drop_all i list past)

  -- ---- what is built of a term

  -- the size at the place of a node
  pub size_at_place : (widths : List Width) (n : ℕ) → first_of (drop n widths) ≡ slice_index_or widths n W1
  size_at_place widths n = let e : n + 0 ≡ n = omega arith in get_or-drop n widths 0 W1 ∙ ap (λ k. slice_index_or widths k W1) e

  -- one more node is counted
  abbrev pub counted : Building → Building
  counted b = record { instrs = b.instrs; nodes = b.nodes + 1; next = b.next }

  pub builds_var : (t : Term) (var : ℕ) (constant : Bool) (size : Option Width) (cond : Option Cond) (widths : List Width) (before : Building) (src : Src) → t ≡ term.Var var constant size cond
      → src ≡ view_source (bound_to subst var) → Builds subst count (terms_of (t ∷ [])) widths before (counted before) (src ∷ [])
  builds_var t var constant size cond widths before src e source =
      let is = made-var t var constant size cond (drop before.nodes widths) before.next e in
      record {
        instrs = sym (append-nil before.instrs) ∙ ap (λ (m : Made). before.instrs ++ m.instrs) (sym is);
        nodes = ap (λ n. before.nodes + n) (sym (ap (λ x. size_of (terms_of (x ∷ []))) e ∙ ap size_of (terms_of-var var constant size cond)));
        next = ap (λ (m : Made). m.next) (sym is);
        sources = ap (λ s. s ∷ []) source ∙ ap (λ (m : Made). m.sources) (sym is);
      }

  pub builds_lit : (t : Term) (number same : ℤ) (boolean : Bool) (widths : List Width) (before after : Building) (instr : Instr) (src : Src) → t ≡ term.Lit number boolean → same ≡ number
      → instr ≡ const_instr (record { 0 = before.next }) (record { width = slice_index_or widths before.nodes W1; count = count }) same
      → after.instrs ≡ before.instrs ++ instr ∷ [] → after.nodes ≡ before.nodes + 1 → after.next ≡ suc before.next
      → src ≡ whole_source (record { 0 = before.next }) count → Builds subst count (terms_of (t ∷ [])) widths before after (src ∷ [])
  builds_lit t number same boolean widths before after instr src e equal own instrs nodes next source =
      let own_of : Width → ℤ → Instr = λ w z. const_instr (record { 0 = before.next }) (record { width = w; count = count }) z in
      let made_by : Width → Made = λ w. record { instrs = own_of w number ∷ []; sources = whole_source (record { 0 = before.next }) count ∷ []; next = suc before.next } in
      let width : Width = slice_index_or widths before.nodes W1 in
      let is : made_on subst count (terms_of (t ∷ [])) widths before ≡ made_by width =
      made-lit t number boolean (drop before.nodes widths) before.next e ∙ ap made_by (size_at_place widths before.nodes) in
      record {
        instrs = instrs ∙ ap (λ i. before.instrs ++ i ∷ []) (own ∙ ap (own_of width) equal) ∙ ap (λ (m : Made). before.instrs ++ m.instrs) (sym is);
        nodes = nodes ∙ ap (λ n. before.nodes + n) (sym (ap (λ x. size_of (terms_of (x ∷ []))) e ∙ ap size_of (terms_of-lit number boolean)));
        next = next ∙ ap (λ (m : Made). m.next) (sym is);
        sources = ap (λ s. s ∷ []) source ∙ ap (λ (m : Made). m.sources) (sym is);
      }

  pub builds_app : (t : Term) (op : Op) (size : Option Width) (once : Bool) (args list : List Term) (widths : List Width) (before mid after : Building) (srcs : List Src) (src : Src) → t ≡ term.App op size once args → list ≡ args
      → Builds subst count (terms_of list) widths (counted before) mid srcs
      → after.instrs ≡ mid.instrs ++ Alu (record { 0 = mid.next }) op (record { width = slice_index_or widths before.nodes W1; count = count }) srcs ∷ [] → after.nodes ≡ mid.nodes → after.next ≡ suc mid.next
      → src ≡ whole_source (record { 0 = mid.next }) count → Builds subst count (terms_of (t ∷ [])) widths before after (src ∷ [])
  builds_app t op size once args list widths before mid after srcs src e same inner instrs nodes next source =
      let under : Made = made_on subst count (terms_of list) widths (counted before) in
      let width : Width = slice_index_or widths before.nodes W1 in
      let own : ℕ → List Src → Instr = λ n l. Alu (record { 0 = n }) op (record { width = width; count = count }) l in
      let is : made_on subst count (terms_of (t ∷ [])) widths before ≡ made_app op width under =
      made-app t op size once args (drop before.nodes widths) before.next e
      ∙ ap (λ w. made_app op w (made subst count (terms_of args) (drop 1 (drop before.nodes widths)) before.next)) (size_at_place widths before.nodes)
      ∙ ap (λ l. made_app op width (made subst count (terms_of args) l before.next)) (drop-drop 1 before.nodes widths)
      ∙ ap (λ l. made_app op width (made subst count (terms_of l) (drop (before.nodes + 1) widths) before.next)) (sym same) in
      let whole : size_of (terms_of (t ∷ [])) ≡ suc (size_of (terms_of list) + 0) = ap (λ x. size_of (terms_of (x ∷ []))) e ∙ ap size_of (terms_of-app op size once args) ∙ ap (λ l. suc (size_of (terms_of l) + 0)) (sym same) in
      let inside : mid.nodes ≡ before.nodes + 1 + size_of (terms_of list) = inner.nodes in
      record {
        instrs = instrs
            ∙ ap₂ (λ n l. mid.instrs ++ own n l ∷ []) inner.next inner.sources
            ∙ ap (λ l. l ++ own under.next under.sources ∷ []) inner.instrs
            ∙ append_assoc before.instrs under.instrs (own under.next under.sources ∷ [])
            ∙ ap (λ (m : Made). before.instrs ++ m.instrs) (sym is);
        nodes = nodes ∙ omega (arith, whole, inside);
        next = next ∙ ap suc inner.next ∙ ap (λ (m : Made). m.next) (sym is);
        sources = ap (λ s. s ∷ []) (source ∙ ap (λ n. whole_source (record { 0 = n }) count) inner.next) ∙ ap (λ (m : Made). m.sources) (sym is);
      }

  -- what is made from a place of a loop on: what was built of the term there, and what is made behind it
  pub built_at : (list : List Term) (i : ℕ) (t : Term) (widths : List Width) (before after : Building) (sources : List Src) → i < length list → t ≡ get_or list i t → Builds subst count (terms_of (t ∷ [])) widths before after sources
      → made_on subst count (terms_of (drop i list)) widths before ≡ both (made_on subst count (terms_of (t ∷ [])) widths before) (made_on subst count (terms_of (drop (i + 1) list)) widths after)
  built_at list i t widths before after sources within at is =
      let own = made_on subst count (terms_of (t ∷ [])) widths before in
      made_at list i before.nodes before.next t widths within at
      ∙ ap₂ (λ n k. both own (made subst count (terms_of (drop (i + 1) list)) (drop n widths) k)) (sym is.nodes) (sym is.next)

  -- ---- the instructions of a whole replacement

  pub root-var : (value : ValueId) (t : Term) (var : ℕ) (constant : Bool) (size : Option Width) (cond : Option Cond) (widths : List Width) (next : ℕ) (src : Src) → t ≡ term.Var var constant size cond → src ≡ view_source (bound_to subst var)
      → Alu value Mov (record { width = first_of widths; count = count }) (src ∷ []) ∷ [] ≡ (root_of subst value count (terms_of (t ∷ [])) widths next).instrs
  root-var value t var constant size cond widths next src e source =
      ap (λ s. Alu value Mov (record { width = first_of widths; count = count }) (s ∷ []) ∷ []) source
      ∙ sym (ap (λ x. (root_of subst value count (terms_of (x ∷ [])) widths next).instrs) e ∙ ap (λ x. (root_of subst value count x widths next).instrs) (terms_of-var var constant size cond))

  pub root-lit : (value : ValueId) (t : Term) (number same : ℤ) (boolean : Bool) (widths : List Width) (next : ℕ) → t ≡ term.Lit number boolean → same ≡ number
      → const_instr value (record { width = first_of widths; count = count }) same ∷ [] ≡ (root_of subst value count (terms_of (t ∷ [])) widths next).instrs
  root-lit value t number same boolean widths next e equal =
      ap (λ z. const_instr value (record { width = first_of widths; count = count }) z ∷ []) equal
      ∙ sym (ap (λ x. (root_of subst value count (terms_of (x ∷ [])) widths next).instrs) e ∙ ap (λ x. (root_of subst value count x widths next).instrs) (terms_of-lit number boolean))

  pub root-app : (value : ValueId) (t : Term) (op : Op) (size : Option Width) (once : Bool) (args list : List Term) (widths : List Width) (start mid : Building) (srcs : List Src) → t ≡ term.App op size once args → list ≡ args
      → start.instrs ≡ [] → start.nodes ≡ 1 → Builds subst count (terms_of list) widths start mid srcs
      → mid.instrs ++ Alu value op (record { width = first_of widths; count = count }) srcs ∷ [] ≡ (root_of subst value count (terms_of (t ∷ [])) widths start.next).instrs
  root-app value t op size once args list widths start mid srcs e same empty one built =
      let kind : Kind = record { width = first_of widths; count = count } in
      let put : Made → List Instr = λ m. m.instrs ++ Alu value op kind m.sources ∷ [] in
      ap₂ (λ l s. l ++ Alu value op kind s ∷ []) (built.instrs ∙ ap (λ l. l ++ (made_on subst count (terms_of list) widths start).instrs) empty) built.sources
      ∙ ap (λ n. put (made subst count (terms_of list) (drop n widths) start.next)) one
      ∙ ap (λ l. put (made subst count (terms_of l) (drop 1 widths) start.next)) same
      ∙ sym (ap (λ x. (root_of subst value count (terms_of (x ∷ [])) widths start.next).instrs) e ∙ ap (λ x. (root_of subst value count x widths start.next).instrs) (terms_of-app op size once args))

-- each term has a node
some_node-layer : (layer : Term-F (Terms → Terms)) (rest : Terms) → 0 < size_of (before_layer layer rest)
some_node-layer (layer.Var var constant size cond) rest = omega arith
some_node-layer (layer.Lit value boolean) rest = omega arith
some_node-layer (layer.App op size once args) rest = omega arith

pub some_node : (t : Term) (rest : Terms) → 0 < size_of (before t rest)
some_node t rest = rw (before-out t) (some_node-layer (map-Term Term (Terms → Terms) before (out-Term t)) rest)

pub size_of-at : (t : Term) (op : Op) (size : Option Width) (once : Bool) (args : List Term) → t ≡ term.App op size once args → size_of (terms_of (t ∷ [])) ≡ suc (size_of (terms_of args) + 0)
size_of-at t op size once args e = ap (λ x. size_of (terms_of (x ∷ []))) e ∙ ap size_of (terms_of-app op size once args)

pub size_of-drop : (list : List Term) (i : ℕ) (t : Term) → i < length list → t ≡ get_or list i t → size_of (terms_of (drop i list)) ≡ size_of (terms_of (t ∷ [])) + size_of (terms_of (drop (i + 1) list))
size_of-drop list i t within at = ap size_of (terms_of-drop list i t within at) ∙ size_of-then (terms_of (t ∷ [])) (terms_of (drop (i + 1) list))
