-- The canonical text of a shader spells the shader in text order.
use Rattle.std.specs.Prelude.{◌≡◌, refl, ℕ, ◌+◌, ◌^◌, ◌<◌, Bool, true, false, cond, nat_eq, List, [], ◌++◌, map, length, slice_get, Option, Some, None, codes, decimal, filter}
use Rattle.std.specs.List.{AllByRecursion, flat_map, range_with_len}
use Rattle.std.specs.Option.{option_map, option_map_or, option_to_list}
use Rattle.std.specs.Str.{bytes_eq}
use Rattle.std.proofs.Common.{inl, inr, ◌∙◌, ap, subst}
use Rattle.std.proofs.lemmas.Bool.{false≢true}
use Rattle.std.proofs.lemmas.List.{append-nil, length-map}
use Rattle.std.proofs.lemmas.Option.{slice_get-map}
use Rattle.std.proofs.lemmas.Slice.Eq.{bytes_eq-Decides}
use Rattle.text_bytes.specs.Lists.{listed}
use Rattle.nir_ops.specs.Opcodes.{name_of}
use Rattle.nir_ops.specs.Width.{width_bits}
use Rattle.nir_ir.specs.declared.ids.BlockId.{BlockId}
use Rattle.nir_ir.specs.declared.ids.ValueId.{ValueId}
use Rattle.nir_ir.specs.declared.instr.Instr.{Instr}
use Rattle.nir_ir.specs.declared.instr.Instr.TheVariants.{Alu, Const, Undef, Input, Output, LoadBuf, StoreBuf}
use Rattle.nir_ir.specs.declared.instr.Src.{Src}
use Rattle.nir_ir.specs.declared.kind.Kind.{Kind}
use Rattle.nir_ir.specs.declared.node.Block.{Block}
use Rattle.nir_ir.specs.declared.node.Jump.{Jump}
use Rattle.nir_ir.specs.declared.node.Jump.TheVariants.{Break, Continue}
use Rattle.nir_ir.specs.declared.node.Phi.{Phi}
use Rattle.nir_ir.specs.declared.node.PhiSource.{PhiSource}
use Rattle.nir_ir.specs.Nodes.{Nodes, Nil, BlockThen, IfThen, LoopThen}
use Rattle.nir_ir.specs.Items.{Item, PhiItem, InstrItem, JumpItem, items, block_items, defines, uses, blocks_of, names_blocks}
use Rattle.nir_ir.specs.Definitions.{instr_of}
use Rattle.nir_ir.specs.Shader.{Shader}
use Rattle.nir_ir.specs.Shaped.{IsOneOf, IsCount, IsSwizzle, IsShapedItem}
use Rattle.nir_lex.specs.Classes.{is_in_word, is_word, starts_word}
use Rattle.nir_text.specs.Naming as text
use Rattle.nir_spelling.specs.Lexemes.{Part, ◌▹◌, Nothing, IsMark, IsWord, IsIndex, IsEnd, Each, Separated}
use Rattle.nir_spelling.specs.Spelling.{kind_word, IsKind, SpellsComponent, SpellsKinds, IsValue, IsBlock, SpellsSwizzle, SpellsSrc, TakesAll, swizzle_word, SpellsInstr, SpellsPhiSource, SpellsPhi, SpellsJump, SpellsBlock, SpellsNodes, Spells}
use Rattle.nir_print.specs.Naming.{Naming, value_place, block_place, kind_of, in_block_order}
use Rattle.nir_print.specs.Renumber.{Numbers, new_value, new_block, new_src, new_instr, new_phi_source, new_phi, new_block_node, new_nodes, numbers_of, renumber}
use Rattle.nir_print.specs.Text.{value_text, block_name, is_whole, src_text, defining, instr_text, phi_source_text, phi_text, jump_text, line, deeper, block_text, nodes_text, kinds_text, text_of}
use Rattle.nir_print.specs.RoundTrip.{addresses_of, value_name, block_word}
use Rattle.list_laws.specs.AllLaws.{all_front, all_back, all_of_map, all_both, all_filter, all_flat_map}
use Rattle.list_laws.specs.MapLaws.{map-same}
use Rattle.nir_print.proofs.Lexing.{Lexing, Gives, Prints, Any, Stop, end_gives, word_prints, name_prints, nothing_prints, followed, ◌⨾◌, stopped, weaker, implied, each_prints, is_word-block}
use Rattle.nir_print.proofs.Parts.{is_word-op, is_word-swizzle, space, line_feed, comma, dot, colon, equals, at_sign, open_round, close_round, open_square, close_square, open_brace, close_brace, this_word, kind_prints, index_prints, component_prints, listed_prints}

-- ---- what is asked of names and of items

-- the name and the word by which each value and block of a text is printed, and the counts of its values
pub record AreNames (naming : Naming) (names : text.Naming) : Type 0 where
  pub value : (value : ValueId) → IsOneOf naming.values value.0 → (value_place naming value < 2 ^ 64) × (slice_get names.values (value_place naming value) ≡ Some (value_name (value_place naming value)))
  pub block : (block : BlockId) → IsOneOf naming.blocks block.0 → (block_place naming block < 2 ^ 64) × (slice_get names.blocks (block_place naming block) ≡ Some (block_word (block_place naming block)))
  pub counts : names.counts ≡ map (λ kind. kind.count) naming.kinds

-- the values and blocks that an item defines and uses are named, its parts have their sizes, and its slots and buffers 32 bits
pub record IsPrintable (naming : Naming) (item : Item) : Type 0 where
  pub values : AllByRecursion (IsOneOf naming.values) (map (λ id. id.0) (defines item))
  pub uses : AllByRecursion (IsOneOf naming.values) (map (λ id. id.0) (uses item))
  pub blocks : AllByRecursion (IsOneOf naming.blocks) (map (λ id. id.0) (blocks_of item))
  pub names : AllByRecursion (IsOneOf naming.blocks) (map (λ id. id.0) (names_blocks item))
  pub shaped : IsShapedItem item
  pub addresses : AllByRecursion (λ n. n < 2 ^ 32) (flat_map addresses_of (instr_of item))

module _ (lexing : Lexing) where
  -- ---- lines

  line_prints : {indent words : List ℕ} {part : Part} → Prints Any indent (λ behind. behind) → Prints Stop words part → Prints Any (line indent words) part
  unfolding is_in_word
  line_prints passes said = let all = stopped (passes ⨾ said) (line_feed lexing) (λ rest. refl) in all

  deeper_passes : {indent : List ℕ} → Prints Any indent (λ behind. behind) → Prints Any (deeper indent) (λ behind. behind)
  deeper_passes passes = let all = passes ⨾ (space lexing ⨾ space lexing) in all

  module _ (numbers : Numbers) (names : text.Naming) (are : AreNames numbers.naming names) where
    -- ---- values and sources

    value_prints : (value : ValueId) → IsOneOf numbers.naming.values value.0 → Prints Stop (value_text numbers.naming value) (λ behind. IsValue names (new_value numbers value) ▹ behind)
    value_prints value one = let named = are.value value one in name_prints lexing (value_place numbers.naming value) (IsValue names (new_value numbers value)) named.0 (refl, named.1)

    block_prints : (block : BlockId) → IsOneOf numbers.naming.blocks block.0 → Prints Stop (block_name numbers.naming block) (λ behind. IsBlock names (new_block numbers block) ▹ behind)
    block_prints block one =
        let named = are.block block one in
        word_prints lexing (block_name numbers.naming block) (IsBlock names (new_block numbers block)) (is_word-block (block_place numbers.naming block) named.0) (refl, named.1)

    takes_all : (src : Src) (found : Option Kind) → kind_of numbers.naming src.value ≡ found → option_map_or (λ kind. bytes_eq src.swizzle (range_with_len 0 kind.count)) found false ≡ true → TakesAll names (new_src numbers src)
    takes_all src None is whole = absurd (false≢true whole)
    takes_all src (Some kind) is whole =
        let place : ℕ = value_place numbers.naming src.value in
        (kind.count, ap (λ l. slice_get l place) are.counts ∙ slice_get-map (λ kind. kind.count) numbers.naming.kinds place ∙ ap (option_map (λ kind. kind.count)) is, (bytes_eq-Decides src.swizzle (range_with_len 0 kind.count)).0 whole)

    swizzle_stops : (src : Src) (whole : Bool) (rest : List ℕ) → Stop rest → Stop (cond whole [] (codes "." ++ swizzle_word src.swizzle) ++ rest)
    unfolding is_in_word
    swizzle_stops src true rest stop = stop
    swizzle_stops src false rest stop = refl

    swizzle_prints : (src : Src) → IsSwizzle src.swizzle → (whole : Bool) → is_whole numbers.naming src ≡ whole → Prints Stop (cond whole [] (codes "." ++ swizzle_word src.swizzle)) (SpellsSwizzle names (new_src numbers src))
    swizzle_prints src swizzle true is = implied nothing_prints (λ behind lexemes h. inr (takes_all src (kind_of numbers.naming src.value) refl is, h))
    swizzle_prints src swizzle false is =
        let word = this_word lexing (swizzle_word src.swizzle) (is_word-swizzle src.swizzle swizzle) in
        let both = dot lexing ⨾ word in
        implied both (λ behind lexemes h. inl (swizzle, h))

    abbrev IsSource : Src → Type 0
    IsSource src = IsOneOf numbers.naming.values src.value.0 × IsSwizzle src.swizzle

    src_prints : (src : Src) → IsSource src → Prints Stop (src_text numbers.naming src) (SpellsSrc names (new_src numbers src))
    src_prints src is =
        let whole : Bool = is_whole numbers.naming src in
        let both = followed (value_prints src.value is.0) (swizzle_prints src is.1 whole refl) (swizzle_stops src whole) in
        both

    -- ---- instructions

    defining_prints : (value : ValueId) (word : List ℕ) (kind : Kind) → IsOneOf numbers.naming.values value.0 → is_word word ≡ true → IsCount kind.count
        → Prints Stop (defining numbers.naming value word kind) (λ behind. IsValue names (new_value numbers value) ▹ IsMark 61 ▹ IsWord word ▹ IsKind kind ▹ behind)
    unfolding is_in_word
    defining_prints value word kind one is count =
        let named = stopped (value_prints value one) (space lexing ⨾ equals lexing ⨾ space lexing) (λ rest. refl) ⨾ this_word lexing word is in
        let all = stopped named (space lexing) (λ rest. refl) ⨾ kind_prints lexing kind count in
        all

    srcs_print : (srcs : List Src) → AllByRecursion (IsOneOf numbers.naming.values) (map (λ id. id.0) (map (λ src. src.value) srcs)) → AllByRecursion (λ src. IsSwizzle src.swizzle) srcs
        → Prints Stop (listed (map (src_text numbers.naming) srcs)) (Separated (SpellsSrc names) (map (new_src numbers) srcs))
    srcs_print srcs uses swizzles =
        let values = all_of_map (λ src. src.value) (λ id. IsOneOf numbers.naming.values id.0) srcs (all_of_map (λ id. id.0) (IsOneOf numbers.naming.values) (map (λ src. src.value) srcs) uses) in
        listed_prints lexing IsSource (src_text numbers.naming) (new_src numbers) (SpellsSrc names) src_prints srcs (all_both (λ src. IsOneOf numbers.naming.values src.value.0) (λ src. IsSwizzle src.swizzle) srcs values swizzles)

    comps_print : (kind : Kind) (comps : List ℕ) → AllByRecursion (λ comp. comp < 2 ^ width_bits kind.width) comps → Prints Stop (listed (map decimal comps)) (Separated (SpellsComponent kind) comps)
    comps_print kind comps words =
        let all = listed_prints lexing (λ comp. comp < 2 ^ width_bits kind.width) decimal (λ comp. comp) (SpellsComponent kind) (component_prints lexing kind) comps words in
        subst (λ l. Prints Stop (listed (map decimal comps)) (Separated (SpellsComponent kind) l)) (map-same comps) all

    -- the words of the grammar
    const_word : is_word (codes "const") ≡ true
    unfolding is_word starts_word is_in_word
    const_word = refl

    undef_word : is_word (codes "undef") ≡ true
    unfolding is_word starts_word is_in_word
    undef_word = refl

    input_word : is_word (codes "input") ≡ true
    unfolding is_word starts_word is_in_word
    input_word = refl

    load_word : is_word (codes "load") ≡ true
    unfolding is_word starts_word is_in_word
    load_word = refl

    output_word : is_word (codes "output") ≡ true
    unfolding is_word starts_word is_in_word
    output_word = refl

    store_word : is_word (codes "store") ≡ true
    unfolding is_word starts_word is_in_word
    store_word = refl

    phi_word : is_word (codes "phi") ≡ true
    unfolding is_word starts_word is_in_word
    phi_word = refl

    instr_prints : (instr : Instr) → IsPrintable numbers.naming (InstrItem instr) → Prints Stop (instr_text numbers.naming instr) (SpellsInstr names (new_instr numbers instr))
    unfolding is_in_word
    instr_prints (Alu value op kind srcs) is =
        let all = stopped (defining_prints value (name_of op) kind is.values.0 (is_word-op op) is.shaped.0) (space lexing) (λ rest. refl) ⨾ srcs_print srcs is.uses is.shaped.2 in
        implied all (λ behind lexemes h. (length-map srcs (new_src numbers) ∙ is.shaped.1, h))
    instr_prints (Const value kind comps) is =
        let begun = stopped (defining_prints value (codes "const") kind is.values.0 const_word is.shaped.0) (space lexing ⨾ open_round lexing) (λ rest. refl) in
        let all = stopped (begun ⨾ comps_print kind comps is.shaped.1.words) (close_round lexing) (λ rest. refl) in
        implied (weaker all) (λ behind lexemes h. (is.shaped.1.count, h))
    instr_prints (Undef value kind) is = defining_prints value (codes "undef") kind is.values.0 undef_word is.shaped
    instr_prints (Input value kind slot) is =
        let all = stopped (defining_prints value (codes "input") kind is.values.0 input_word is.shaped) (space lexing ⨾ at_sign lexing) (λ rest. refl) ⨾ index_prints lexing slot is.addresses.0 in
        all
    instr_prints (Output effect slot src) is =
        let word = stopped (this_word lexing (codes "output") output_word) (space lexing ⨾ at_sign lexing) (λ rest. refl) in
        let all = stopped (word ⨾ index_prints lexing slot is.addresses.0) (comma lexing ⨾ space lexing) (λ rest. refl) ⨾ value_prints src is.uses.0 in
        all
    instr_prints (LoadBuf value kind buffer offset) is =
        let first = stopped (defining_prints value (codes "load") kind is.values.0 load_word is.shaped) (space lexing ⨾ at_sign lexing) (λ rest. refl) ⨾ index_prints lexing buffer is.addresses.0 in
        let all = stopped first (comma lexing ⨾ space lexing) (λ rest. refl) ⨾ value_prints offset is.uses.0 in
        all
    instr_prints (StoreBuf effect buffer offset src) is =
        let word = stopped (this_word lexing (codes "store") store_word) (space lexing ⨾ at_sign lexing) (λ rest. refl) in
        let first = stopped (word ⨾ index_prints lexing buffer is.addresses.0) (comma lexing ⨾ space lexing) (λ rest. refl) ⨾ value_prints offset is.uses.0 in
        let all = stopped first (comma lexing ⨾ space lexing) (λ rest. refl) ⨾ value_prints src is.uses.1.0 in
        all

    -- ---- phis

    abbrev IsNamedSource : PhiSource → Type 0
    IsNamedSource source = IsOneOf numbers.naming.values source.value.0 × IsOneOf numbers.naming.blocks source.from.0

    phi_source_prints : (source : PhiSource) → IsNamedSource source → Prints Stop (phi_source_text numbers.naming source) (SpellsPhiSource names (new_phi_source numbers source))
    unfolding is_in_word
    phi_source_prints source is = let all = stopped (block_prints source.from is.1) (colon lexing ⨾ space lexing) (λ rest. refl) ⨾ value_prints source.value is.0 in all

    sources_print : (sources : List PhiSource) → AllByRecursion (IsOneOf numbers.naming.values) (map (λ id. id.0) (map (λ source. source.value) sources)) → AllByRecursion (IsOneOf numbers.naming.blocks) (map (λ id. id.0) (map (λ source. source.from) sources))
        → Prints Stop (listed (map (phi_source_text numbers.naming) (in_block_order numbers.naming sources))) (Separated (SpellsPhiSource names) (map (new_phi_source numbers) (in_block_order numbers.naming sources)))
    sources_print sources uses blocks =
        let values = all_of_map (λ source. source.value) (λ id. IsOneOf numbers.naming.values id.0) sources (all_of_map (λ id. id.0) (IsOneOf numbers.naming.values) (map (λ source. source.value) sources) uses) in
        let from = all_of_map (λ source. source.from) (λ id. IsOneOf numbers.naming.blocks id.0) sources (all_of_map (λ id. id.0) (IsOneOf numbers.naming.blocks) (map (λ source. source.from) sources) blocks) in
        let named = all_both (λ source. IsOneOf numbers.naming.values source.value.0) (λ source. IsOneOf numbers.naming.blocks source.from.0) sources values from in
        let ordered = all_flat_map IsNamedSource (λ block. filter (λ source. nat_eq (block_place numbers.naming source.from) block) sources) (λ block. all_filter IsNamedSource (λ source. nat_eq (block_place numbers.naming source.from) block) sources named) (range_with_len 0 (length numbers.naming.blocks + 1)) in
        listed_prints lexing IsNamedSource (phi_source_text numbers.naming) (new_phi_source numbers) (SpellsPhiSource names) phi_source_prints (in_block_order numbers.naming sources) ordered

    phi_prints : (phi : Phi) → IsPrintable numbers.naming (PhiItem phi) → Prints Stop (phi_text numbers.naming phi) (SpellsPhi names (new_phi numbers phi))
    unfolding is_in_word
    phi_prints phi is =
        let begun = stopped (defining_prints phi.value (codes "phi") phi.kind is.values.0 phi_word is.shaped.0) (space lexing ⨾ open_square lexing) (λ rest. refl) in
        let all = stopped (begun ⨾ sources_print phi.sources is.uses is.names) (close_square lexing) (λ rest. refl) in
        weaker all

    -- ---- blocks

    break_word : is_word (codes "break") ≡ true
    unfolding is_word starts_word is_in_word
    break_word = refl

    continue_word : is_word (codes "continue") ≡ true
    unfolding is_word starts_word is_in_word
    continue_word = refl

    block_word_is : is_word (codes "block") ≡ true
    unfolding is_word starts_word is_in_word
    block_word_is = refl

    jump_prints : {indent : List ℕ} → Prints Any indent (λ behind. behind) → (jump : Option Jump) → Prints Any (flat_map (λ j. line indent (jump_text j)) (option_to_list jump)) (SpellsJump names jump)
    jump_prints passes None = nothing_prints
    jump_prints passes (Some Break) = let all = line_prints passes (this_word lexing (codes "break") break_word) ⨾ nothing_prints {M = Any} in all
    jump_prints passes (Some Continue) = let all = line_prints passes (this_word lexing (codes "continue") continue_word) ⨾ nothing_prints {M = Any} in all

    phis_print : {indent : List ℕ} → Prints Any indent (λ behind. behind) → (phis : List Phi) → AllByRecursion (IsPrintable numbers.naming) (map PhiItem phis)
        → Prints Any (flat_map (λ phi. line indent (phi_text numbers.naming phi)) phis) (Each (SpellsPhi names) (map (new_phi numbers) phis))
    phis_print {indent} passes phis all =
        each_prints (λ phi. IsPrintable numbers.naming (PhiItem phi)) (λ phi. line indent (phi_text numbers.naming phi)) (new_phi numbers) (SpellsPhi names) (λ phi is. line_prints passes (phi_prints phi is)) phis
        (all_of_map PhiItem (IsPrintable numbers.naming) phis all)

    instrs_print : {indent : List ℕ} → Prints Any indent (λ behind. behind) → (instrs : List Instr) → AllByRecursion (IsPrintable numbers.naming) (map InstrItem instrs)
        → Prints Any (flat_map (λ instr. line indent (instr_text numbers.naming instr)) instrs) (Each (SpellsInstr names) (map (new_instr numbers) instrs))
    instrs_print {indent} passes instrs all =
        each_prints (λ instr. IsPrintable numbers.naming (InstrItem instr)) (λ instr. line indent (instr_text numbers.naming instr)) (new_instr numbers) (SpellsInstr names) (λ instr is. line_prints passes (instr_prints instr is)) instrs
        (all_of_map InstrItem (IsPrintable numbers.naming) instrs all)

    block_begins : {indent : List ℕ} → Prints Any indent (λ behind. behind) → (block : BlockId) → IsOneOf numbers.naming.blocks block.0
        → Prints Any (line indent (codes "block " ++ block_name numbers.naming block ++ codes " {")) (λ behind. IsWord (codes "block") ▹ IsBlock names (new_block numbers block) ▹ IsMark 123 ▹ behind)
    unfolding is_in_word
    block_begins passes block one =
        let word = stopped (this_word lexing (codes "block") block_word_is) (space lexing) (λ rest. refl) in
        let all = stopped (word ⨾ block_prints block one) (space lexing ⨾ open_brace lexing) (λ rest. refl) in
        line_prints passes (weaker all)

    closes : {indent : List ℕ} → Prints Any indent (λ behind. behind) → Prints Any (line indent (codes "}")) (λ behind. IsMark 125 ▹ behind)
    closes passes = line_prints passes (weaker (close_brace lexing))

    a_block_prints : {indent : List ℕ} → Prints Any indent (λ behind. behind) → (block : Block) → AllByRecursion (IsPrintable numbers.naming) (block_items block)
        → Prints Any (block_text numbers.naming indent block) (SpellsBlock names (new_block_node numbers block))
    a_block_prints {indent} passes block all =
        let P : Item → Type 0 = IsPrintable numbers.naming in
        let phis_and_instrs = all_front P (map PhiItem block.phis ++ map InstrItem block.instrs) (map JumpItem (option_to_list block.jump)) all.1 in
        let phis = all_front P (map PhiItem block.phis) (map InstrItem block.instrs) phis_and_instrs in
        let instrs = all_back P (map PhiItem block.phis) (map InstrItem block.instrs) phis_and_instrs in
        let inner = deeper_passes passes in
        let printed = block_begins passes block.id all.0.blocks.0 ⨾ phis_print inner block.phis phis ⨾ instrs_print inner block.instrs instrs ⨾ jump_prints inner block.jump ⨾ closes passes in
        printed

    -- ---- lists of nodes

    if_word : is_word (codes "if") ≡ true
    unfolding is_word starts_word is_in_word
    if_word = refl

    else_word : is_word (codes "else") ≡ true
    unfolding is_word starts_word is_in_word
    else_word = refl

    loop_word : is_word (codes "loop") ≡ true
    unfolding is_word starts_word is_in_word
    loop_word = refl

    if_begins : {indent : List ℕ} → Prints Any indent (λ behind. behind) → (cond : ValueId) → IsOneOf numbers.naming.values cond.0
        → Prints Any (line indent (codes "if " ++ value_text numbers.naming cond ++ codes " {")) (λ behind. IsWord (codes "if") ▹ IsValue names (new_value numbers cond) ▹ IsMark 123 ▹ behind)
    unfolding is_in_word
    if_begins passes cond one =
        let word = stopped (this_word lexing (codes "if") if_word) (space lexing) (λ rest. refl) in
        let all = stopped (word ⨾ value_prints cond one) (space lexing ⨾ open_brace lexing) (λ rest. refl) in
        line_prints passes (weaker all)

    else_begins : {indent : List ℕ} → Prints Any indent (λ behind. behind) → Prints Any (line indent (codes "} else {")) (λ behind. IsMark 125 ▹ IsWord (codes "else") ▹ IsMark 123 ▹ behind)
    unfolding is_in_word
    else_begins passes =
        let all = stopped (close_brace lexing ⨾ space lexing ⨾ this_word lexing (codes "else") else_word) (space lexing ⨾ open_brace lexing) (λ rest. refl) in
        line_prints passes (weaker all)

    loop_begins : {indent : List ℕ} → Prints Any indent (λ behind. behind) → Prints Any (line indent (codes "loop {")) (λ behind. IsWord (codes "loop") ▹ IsMark 123 ▹ behind)
    unfolding is_in_word
    loop_begins passes =
        let all = stopped (this_word lexing (codes "loop") loop_word) (space lexing ⨾ open_brace lexing) (λ rest. refl) in
        line_prints passes (weaker all)

    nodes_print : {indent : List ℕ} → Prints Any indent (λ behind. behind) → (nodes : Nodes) → AllByRecursion (IsPrintable numbers.naming) (items nodes)
        → Prints Any (nodes_text numbers.naming indent nodes) (SpellsNodes names (new_nodes numbers nodes))
    nodes_print passes Nil all = nothing_prints
    nodes_print passes (BlockThen block rest) all =
        let P : Item → Type 0 = IsPrintable numbers.naming in
        let printed = a_block_prints passes block (all_front P (block_items block) (items rest) all) ⨾ nodes_print passes rest (all_back P (block_items block) (items rest) all) in
        printed
    nodes_print passes (IfThen id cond first second rest) all =
        let P : Item → Type 0 = IsPrintable numbers.naming in
        let lists = all_front P (items first ++ items second) (items rest) all.1 in
        let inner = deeper_passes passes in
        let yes_list = nodes_print inner first (all_front P (items first) (items second) lists) in
        let no_list = nodes_print inner second (all_back P (items first) (items second) lists) in
        let one = if_begins passes cond all.0.uses.0 ⨾ yes_list ⨾ else_begins passes ⨾ no_list ⨾ closes passes in
        let printed = one ⨾ nodes_print passes rest (all_back P (items first ++ items second) (items rest) all.1) in
        printed
    nodes_print passes (LoopThen id body rest) all =
        let P : Item → Type 0 = IsPrintable numbers.naming in
        let one = loop_begins passes ⨾ nodes_print (deeper_passes passes) body (all_front P (items body) (items rest) all.1) ⨾ closes passes in
        let printed = one ⨾ nodes_print passes rest (all_back P (items body) (items rest) all.1) in
        printed

  -- ---- the whole text

  kinds_print : (kinds : List Kind) → AllByRecursion (λ kind. IsCount kind.count) kinds → Prints Stop (listed (map kind_word kinds)) (Separated (λ kind behind. IsKind kind ▹ behind) kinds)
  kinds_print kinds counts =
      let all = listed_prints lexing (λ kind. IsCount kind.count) kind_word (λ kind. kind) (λ kind behind. IsKind kind ▹ behind) (kind_prints lexing) kinds counts in
      subst (λ l. Prints Stop (listed (map kind_word kinds)) (Separated (λ kind behind. IsKind kind ▹ behind) l)) (map-same kinds) all

  declared_print : (word : List ℕ) (kinds : List Kind) → is_word word ≡ true → AllByRecursion (λ kind. IsCount kind.count) kinds → Prints Any (line [] (kinds_text word kinds)) (λ behind. IsWord word ▹ SpellsKinds kinds behind)
  unfolding is_in_word
  declared_print word kinds is counts =
      let begun = stopped (this_word lexing word is) (space lexing ⨾ open_square lexing) (λ rest. refl) in
      let all = stopped (begun ⨾ kinds_print kinds counts) (close_square lexing) (λ rest. refl) in
      line_prints nothing_prints (weaker all)

  shader_word : is_word (codes "shader") ≡ true
  unfolding is_word starts_word is_in_word
  shader_word = refl

  inputs_word : is_word (codes "inputs") ≡ true
  unfolding is_word starts_word is_in_word
  inputs_word = refl

  outputs_word : is_word (codes "outputs") ≡ true
  unfolding is_word starts_word is_in_word
  outputs_word = refl

  buffers_word : is_word (codes "buffers") ≡ true
  unfolding is_word starts_word is_in_word
  buffers_word = refl

  buffers_print : (buffers : ℕ) → buffers < 2 ^ 32 → Prints Any (line [] (codes "buffers " ++ decimal buffers)) (λ behind. IsWord (codes "buffers") ▹ IsIndex buffers ▹ behind)
  unfolding is_in_word
  buffers_print buffers lt =
      let all = stopped (this_word lexing (codes "buffers") buffers_word) (space lexing) (λ rest. refl) ⨾ index_prints lexing buffers lt in
      line_prints nothing_prints all

  -- a shader, under these names, whose items can be printed so
  pub text_spells : (shader : Shader) (names : text.Naming) → AreNames (numbers_of shader.body).naming names → AllByRecursion (IsPrintable (numbers_of shader.body).naming) (items shader.body)
      → shader.buffers < 2 ^ 32 → AllByRecursion (λ kind. IsCount kind.count) shader.inputs → AllByRecursion (λ kind. IsCount kind.count) shader.outputs
      → Gives (text_of shader) (Spells names (renumber shader))
  text_spells shader names are printable buffers inputs outputs =
      let first = line_prints nothing_prints (this_word lexing (codes "shader") shader_word) in
      let declared = first ⨾ declared_print (codes "inputs") shader.inputs inputs_word inputs ⨾ declared_print (codes "outputs") shader.outputs outputs_word outputs ⨾ buffers_print shader.buffers buffers in
      let begun = declared ⨾ line_prints nothing_prints (weaker (open_brace lexing)) in
      let all = begun ⨾ nodes_print (numbers_of shader.body) names are (deeper_passes nothing_prints) shader.body printable ⨾ line_prints nothing_prints (weaker (close_brace lexing)) in
      subst (λ t. Gives t (Spells names (renumber shader))) (append-nil (text_of shader)) (all.before [] (IsEnd ▹ Nothing) tt end_gives)
