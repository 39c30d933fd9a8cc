-- Reading a law in parts makes what the definition makes.
use Rattle.std.proofs.Common.{◌≡◌, ℕ, Bool, true, List, [], ◌∷◌, Option, Some, None, Err, refl, sym, ap, ◌∙◌}
use Rattle.std.specs.Prelude.{◌&&◌, false, is_none, if◌then◌else◌}
use Rattle.std.specs.Option.{option_map}
use Rattle.nir_ops.specs.declared.width.Width.{Width}
use Rattle.rule_term.specs.Terms.{Terms}
use Rattle.rule_spelling.specs.Files.{Binding}
use Rattle.law_derive.specs.declared.node.Node.{Node}
use Rattle.nir_ops.specs.Width.{width_bits}
use Rattle.op_eval.specs.Calls.{same_width}
use Rattle.op_eval.specs.Word.{residue}
use Rattle.std.proofs.Math.Bool.{and-false}
use Rattle.law_derive.specs.declared.law.LawNode.{LawNode}
use Rattle.law_derive.specs.declared.law.LawNode.TheVariants as law_node
use Rattle.law_derive.specs.declared.node.Kind.{Kind}
use Rattle.law_derive.specs.declared.node.Kind.TheVariants.{App, Var, Lit}
use Rattle.law_derive.specs.Derivations.{Setting, bound, bound_letter, bound_others, by_law, complete, expr_nodes, from_at, from_side, has_letter, letter_named, letter_size, matched, read_at, size_of_expr, size_read, with_letter}
use Rattle.law_derive.specs.declared.fault.StepFault.TheVariants.{NoMatch}
use Rattle.law_derive.specs.LawTable.{Law, root_size, sized}
use Rattle.law_derive.specs.Matching.{Filling, found, match_kind, match_side}
use Rattle.law_derive.specs.Readings.{before, expr_of, exprs_of, fill_all, fill_one, fill_with, filled_at, made_of, may_match, read_of}

-- ---- bound letters

others_same : (own : Option Filling) (f g : Filling → Option Filling) → ((filling : Filling) → f filling ≡ g filling) → bound_others own f ≡ bound_others own g
others_same None f g same = refl
others_same (Some filling) f g same = same filling

never : (own : Option Filling) → bound_others own (λ filling. None) ≡ None
never None = refl
never (Some filling) = refl

abbrev nothing : Option Filling
nothing = None

either : (b : Bool) → (if b then nothing else nothing) ≡ nothing
either true = refl
either false = refl

module _ (at : Setting) (law : Law) (width : Width) where
  with_rest : (letter : ℕ) (nodes : List Node) (rest : Option Filling) (own : Filling → Option Filling) → ((filling : Filling) → own filling ≡ fill_with law rest filling)
      → (filling : Filling) → bound_others (fill_one law letter nodes filling) own ≡ fill_with law (before (Some (letter, nodes)) rest) filling
  with_rest letter nodes None own same filling = others_same (fill_one law letter nodes filling) own (λ f. None) same ∙ never (fill_one law letter nodes filling)
  with_rest letter nodes (Some bounds) own same filling = others_same (fill_one law letter nodes filling) own (fill_all law bounds) same

  with_expr : (letter : ℕ) (expr : Option (List Node)) (rest : Option Filling) (own : Filling → Option Filling) → ((filling : Filling) → own filling ≡ fill_with law rest filling)
      → (filling : Filling)
      → bound_others (if has_letter law letter && is_none (found letter filling) then with_letter letter expr filling else None) own
      ≡ fill_with law (before (option_map (λ nodes. (letter, nodes)) expr) rest) filling
  with_expr letter None rest own same filling = ap (λ o. bound_others o own) (either (has_letter law letter && is_none (found letter filling)))
  with_expr letter (Some nodes) rest own same filling = with_rest letter nodes rest own same filling

  with_letter_of : (letter : Option ℕ) (terms : Terms) (rest : Option Filling) (own : Filling → Option Filling) → ((filling : Filling) → own filling ≡ fill_with law rest filling)
      → (filling : Filling) → bound_others (bound_letter at law width letter terms filling) own ≡ fill_with law (before (expr_of at width letter terms) rest) filling
  with_letter_of None terms rest own same filling = refl
  with_letter_of (Some letter) terms rest own same filling = with_expr letter (expr_nodes at (Some (letter_size width letter)) terms) rest own same filling

  -- all expressions first, and then the letters
  pub bound_is : (bindings : List Binding) (filling : Filling) → bound at law width bindings filling ≡ fill_with law (exprs_of at width bindings) filling
  bound_is [] filling = refl
  bound_is (binding ∷ bindings) filling =
      with_letter_of (letter_named binding.name) binding.with (exprs_of at width bindings) (bound at law width bindings) (bound_is bindings) filling

-- ---- a law at a term

module _ (at : Setting) (law : Law) (rev : Bool) (bindings : List Binding) where
  matched_is : (width : Width) (own : Option Filling) → matched at law rev bindings width own ≡ made_of at law rev bindings (filled_at width own)
  matched_is width None = refl
  matched_is width (Some filling) = ap (complete at law rev width) (bound_is at law width bindings filling)

  read_is : (term : List Node) (size : Option Width) → read_at at law rev bindings term size ≡ made_of at law rev bindings (read_of law rev term size)
  read_is term None = refl
  read_is term (Some width) = matched_is width (match_side (from_at law rev width) term [])

  pub by_law_is : (term : List Node) → made_of at law rev bindings (read_of law rev term (size_read at law rev bindings term)) ≡ by_law at law rev bindings term
  by_law_is term = sym (read_is term (size_read at law rev bindings term))

  pub by_law_none : (term : List Node) → None ≡ read_of law rev term (size_read at law rev bindings term) → Err NoMatch ≡ by_law at law rev bindings term
  by_law_none term none = ap (made_of at law rev bindings) none ∙ by_law_is term

  pub by_law_from : (term : List Node) (width : Width) (start : Filling) (own : Option Filling) → Some (width, start) ≡ read_of law rev term (size_read at law rev bindings term)
      → fill_with law (exprs_of at width bindings) start ≡ own → complete at law rev width own ≡ by_law at law rev bindings term
  by_law_from term width start own read given = ap (complete at law rev width) (sym given) ∙ ap (made_of at law rev bindings) read ∙ by_law_is term

-- ---- the size of an expression

root_of : (node : Node) (rest : List Node) (kind : Kind) → node.kind ≡ kind → size_of_expr (Some (node ∷ rest)) ≡ Some node.width
root_of node rest (App op) is = rw is refl
root_of node rest (Var var) is = rw is refl
root_of node rest (Lit word) is = rw is refl

-- that of its first node
pub size_of_first : (node : Node) (rest : List Node) → size_of_expr (Some (node ∷ rest)) ≡ Some node.width
size_of_first node rest = root_of node rest node.kind refl

-- ---- first nodes

apart : (part node : Node) (side nodes : List Node) (kind : Kind) → same_width part.width node.width ≡ false → match_kind kind part node nodes [] (match_side side) ≡ None
apart part node side nodes (App op) other = rw (other, and-false) refl
apart part node side nodes (Var letter) other = rw other refl
apart part node side nodes (Lit word) other = rw (other, and-false) refl

sized_apart : (width size : Width) (side : List LawNode) (nodes : List Node) → may_match size side nodes ≡ false → match_side (sized width side (size ∷ [])) nodes [] ≡ None
sized_apart width size [] nodes other = cc
sized_apart width size (law_node.App op ∷ side) [] other = refl
sized_apart width size (law_node.Letter letter ∷ side) [] other = refl
sized_apart width size (law_node.Lit value boolean ∷ side) [] other = refl
sized_apart width size (law_node.App op ∷ side) (node ∷ nodes) other = apart (record { kind = App op; width = size }) node _ nodes (App op) other
sized_apart width size (law_node.Letter letter ∷ side) (node ∷ nodes) other = apart (record { kind = Var letter; width = size }) node _ nodes (Var letter) other
sized_apart width size (law_node.Lit value boolean ∷ side) (node ∷ nodes) other =
    apart (record { kind = Lit (residue (width_bits size) value); width = size }) node _ nodes (Lit (residue (width_bits size) value)) other

-- a side matches no term of another size
pub none_matches : (law : Law) (rev : Bool) (width : Width) (nodes : List Node) → may_match (root_size width law.left) (from_side law rev) nodes ≡ false
    → match_side (from_at law rev width) nodes [] ≡ None
none_matches law false width nodes other = sized_apart width (root_size width law.left) law.left nodes other
none_matches law true width nodes other = sized_apart width (root_size width law.left) law.right nodes other
