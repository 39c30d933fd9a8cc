-- The slots and buffers of a body, node by node, are numbers of 32 bits.
use Rattle.std.proofs.Common.{◌≡◌, ℕ, ◌+◌, ◌^◌, ◌<◌, Bool, true, false, ◌&&◌, List, [], ◌∷◌, ◌++◌, length, get_or, drop, refl, ap, ◌∙◌}
use Rattle.std.specs.List.{AllByRecursion, flat_map}
use Rattle.std.specs.Prelude.{nat_lt}
use Rattle.std.proofs.lemmas.Bool.{and_parts, ltb-true}
use Rattle.std.proofs.lemmas.Grind.{flat_map-append}
use Rattle.std.proofs.lemmas.List.{append-nil}
use Rattle.nir_ir.specs.declared.ids.IfId.{IfId}
use Rattle.nir_ir.specs.declared.ids.LoopId.{LoopId}
use Rattle.nir_ir.specs.declared.ids.ValueId.{ValueId}
use Rattle.nir_ir.specs.declared.instr.Instr.{Instr}
use Rattle.nir_ir.specs.declared.node.Block as block
use Rattle.nir_ir.specs.declared.node.Node.{Node}
use Rattle.nir_ir.specs.declared.node.Node.TheVariants as node
use Rattle.nir_ir.specs.Nodes.{Nil, nodes_of}
use Rattle.nir_ir.specs.Items.{items}
use Rattle.nir_ir.specs.Definitions.{instr_of, instrs}
use Rattle.nir_ir.specs.Splits.{nodes_of-block, items-if, items-loop, items-drop, instrs-BlockThen}
use Rattle.nir_print.specs.RoundTrip.{are_words, addresses_of, addresses}

are_words-append : (first second : List ℕ) → are_words (first ++ second) ≡ are_words first && are_words second
are_words-append [] second = refl
are_words-append (n ∷ first) second = by (nat_lt n (2 ^ 32)) (are_words-append first second) where
  by : (b : Bool) → are_words (first ++ second) ≡ are_words first && are_words second → b && are_words (first ++ second) ≡ (b && are_words first) && are_words second
  by true e = e
  by false e = refl

words_of_two : (first second : List Instr) → are_words (flat_map addresses_of (first ++ second)) ≡ are_words (flat_map addresses_of first) && are_words (flat_map addresses_of second)
words_of_two first second = ap are_words (flat_map-append addresses_of first second) ∙ are_words-append (flat_map addresses_of first) (flat_map addresses_of second)

pub words-block : (b : block.Block) → are_words (addresses (nodes_of (node.Block b ∷ []))) ≡ are_words (flat_map addresses_of b.instrs)
words-block b = ap (λ nodes. are_words (addresses nodes)) (nodes_of-block b) ∙ ap (λ l. are_words (flat_map addresses_of l)) (instrs-BlockThen b Nil ∙ append-nil b.instrs)

pub words-if : (id : IfId) (cond : ValueId) (first second : List Node) → are_words (addresses (nodes_of (node.If id cond first second ∷ []))) ≡ are_words (addresses (nodes_of first)) && are_words (addresses (nodes_of second))
words-if id cond first second =
    ap (λ l. are_words (flat_map addresses_of (flat_map instr_of l))) (items-if id cond first second)
    ∙ ap (λ l. are_words (flat_map addresses_of l)) (flat_map-append instr_of (items (nodes_of first)) (items (nodes_of second)))
    ∙ words_of_two (instrs (nodes_of first)) (instrs (nodes_of second))

pub words-loop : (id : LoopId) (body : List Node) → are_words (addresses (nodes_of (node.Loop id body ∷ []))) ≡ are_words (addresses (nodes_of body))
words-loop id body = ap (λ l. are_words (flat_map addresses_of (flat_map instr_of l))) (items-loop id body)

pub words-drop : (list : List Node) (i : ℕ) (n : Node) → i < length list → n ≡ get_or list i n → are_words (addresses (nodes_of (drop i list))) ≡ are_words (addresses (nodes_of (n ∷ []))) && are_words (addresses (nodes_of (drop (i + 1) list)))
words-drop list i n within at =
    ap (λ l. are_words (flat_map addresses_of (flat_map instr_of l))) (items-drop list i n within at)
    ∙ ap (λ l. are_words (flat_map addresses_of l)) (flat_map-append instr_of (items (nodes_of (n ∷ []))) (items (nodes_of (drop (i + 1) list))))
    ∙ words_of_two (instrs (nodes_of (n ∷ []))) (instrs (nodes_of (drop (i + 1) list)))

pub ruleset node_words = (words-block, words-if, words-loop)

pub each_word : (numbers : List ℕ) → are_words numbers ≡ true → AllByRecursion (λ n. n < 2 ^ 32) numbers
each_word [] is = tt
each_word (n ∷ numbers) is = let both = and_parts (nat_lt n (2 ^ 32)) (are_words numbers) is in (ltb-true n (2 ^ 32) both.0, each_word numbers both.1)
