-- Nodes that were read before, and those that are still read, as a loop does it.
use Rattle.std.proofs.Common.{◌≡◌, ℕ, suc, ◌+◌, ◌-◌, ◌<◌, ◌≤◌, Result, Ok, Err, true, false, refl, sym, ap, ◌∙◌, length, arith}
use Rattle.std.specs.Prelude.{codes}
use Rattle.nir_ir.specs.declared.ids.ValueId.{ValueId}
use Rattle.nir_ir.specs.declared.node.Block as block
use Rattle.nir_ir.specs.Nodes.{Nodes, Nil, BlockThen, IfThen, LoopThen, then as chained, then-Nil, then_assoc}
use Rattle.nir_text.specs.declared.fault.TextFault.{TextFault}
use Rattle.nir_text.specs.declared.fault.TextFault.TheVariants.{Expected}
use Rattle.nir_text.specs.Signs.{is_mark, is_word}
use Rattle.nir_text.specs.Naming.{Naming}
use Rattle.nir_text.specs.Reading.{Point, here, next, ◌>>=◌, Fails, mark_at, word_at, value_used_at}
use Rattle.nir_text.specs.Tree.{block_at, if_begun, loop_begun, if_at, loop_at, node_at, nodes_at, list_at}
use Rattle.nir_text.proofs.Front.{fails}

-- what was read before, and what is still read
abbrev pub with_nodes : Nodes → Result (Nodes × Point) TextFault → Result (Nodes × Point) TextFault
with_nodes front (Ok x) = Ok (chained front x.0, x.1)
with_nodes front (Err fault) = Err fault

one_and : (one : Nodes) (read : Result (Nodes × Point) TextFault) → (read >>= λ x. Ok (chained one x.0, x.1)) ≡ with_nodes one read
one_and one (Ok x) = refl
one_and one (Err fault) = refl

regroup : (front one : Nodes) (read : Result (Nodes × Point) TextFault) → with_nodes front (with_nodes one read) ≡ with_nodes (chained front one) read
regroup front one (Ok x) = ap (λ (nodes : Nodes). Ok (nodes, x.1)) (sym (then_assoc front one x.0))
regroup front one (Err fault) = refl

pub goes_on : (front one : Nodes) (read rest total : Result (Nodes × Point) TextFault) → with_nodes front read ≡ total → read ≡ with_nodes one rest → with_nodes (chained front one) rest ≡ total
goes_on front one read rest total so_far e = sym (regroup front one rest) ∙ ap (with_nodes front) (sym e) ∙ so_far

pub ends : {B : Type 0} (fault : TextFault) (front : Nodes) (part : Result B TextFault) (read total : Result (Nodes × Point) TextFault) → with_nodes front read ≡ total → ((f : TextFault) → part ≡ Err f → read ≡ Err f) → Fails fault part → Fails fault total
ends fault front part read total so_far h = fails fault part total (λ f e. sym so_far ∙ ap (with_nodes front) (h f e))

pub stops : (front : Nodes) (read total : Result (Nodes × Point) TextFault) (fault : TextFault) → with_nodes front read ≡ total → read ≡ Err fault → total ≡ Err fault
stops front read total fault so_far e = sym so_far ∙ ap (with_nodes front) e

pub is_done : (front : Nodes) (p : Point) (read total : Result (Nodes × Point) TextFault) → with_nodes front read ≡ total → read ≡ Ok (Nil, p) → total ≡ Ok (front, p)
is_done front p read total so_far e = sym so_far ∙ ap (with_nodes front) e ∙ ap (λ (nodes : Nodes). Ok (nodes, p)) (then-Nil front)

pub nothing_before : (read : Result (Nodes × Point) TextFault) → with_nodes Nil read ≡ read
nothing_before (Ok x) = refl
nothing_before (Err fault) = refl

module _ (inner : Point → Result (Nodes × Point) TextFault) (names : Naming) where
  pub block-read : (p : Point) (b : block.Block) (q : Point) → is_word (codes "block") (here p) ≡ true → block_at names (next p) ≡ Ok (b, q) → node_at inner names p ≡ Ok (BlockThen b Nil, q)
  unfolding node_at
  block-read p b q word read = rw (word, read) refl

  pub if-read : (p q r s t : Point) (cond : ValueId) (first second : Nodes) → value_used_at names (if_begun p) ≡ Ok (cond, q) → inner q ≡ Ok (first, r) → word_at (codes "else") r ≡ Ok s → inner s ≡ Ok (second, t)
      → if_at inner names p ≡ Ok (IfThen (record { 0 = p.counts.ifs }) cond first second Nil, t)
  unfolding if_at
  if-read p q r s t cond first second used one word two = rw (used, one, word, two) refl

  pub loop-read : (p q : Point) (body : Nodes) → inner (loop_begun p) ≡ Ok (body, q) → loop_at inner p ≡ Ok (LoopThen (record { 0 = p.counts.loops }) body Nil, q)
  unfolding loop_at
  loop-read p q body read = rw read refl

  pub nodes-step : (i n : ℕ) (p : Point) (x : Nodes × Point) → i < n → is_mark 125 (here p) ≡ false → node_at inner names p ≡ Ok x → nodes_at inner names (n - i) p ≡ with_nodes x.0 (nodes_at inner names (n - (i + 1)) x.1)
  unfolding nodes_at
  nodes-step i n p x lt e f =
      let m : n - i ≡ suc (n - (i + 1)) = omega arith in
      rw (m, e, f) (one_and x.0 (nodes_at inner names (n - (i + 1)) x.1))

  pub nodes-no_node : (i n : ℕ) (p : Point) (fault : TextFault) → i < n → is_mark 125 (here p) ≡ false → node_at inner names p ≡ Err fault → nodes_at inner names (n - i) p ≡ Err fault
  unfolding nodes_at
  nodes-no_node i n p fault lt e f =
      let m : n - i ≡ suc (n - (i + 1)) = omega arith in
      rw (m, e, f) refl

  pub nodes-done : (i n : ℕ) (p : Point) → i < n → is_mark 125 (here p) ≡ true → nodes_at inner names (n - i) p ≡ Ok (Nil, next p)
  unfolding nodes_at
  nodes-done i n p lt e =
      let m : n - i ≡ suc (n - (i + 1)) = omega arith in
      rw (m, e) refl

  pub nodes-end : (i n : ℕ) (p : Point) → n ≤ i → nodes_at inner names (n - i) p ≡ Err (Expected (here p).place)
  unfolding nodes_at
  nodes-end i n p le =
      let m : n - i ≡ 0 = omega arith in
      rw m refl

-- a list inside which there may be one list less
list-inner : (names : Naming) (depth : ℕ) (p : Point) → 0 < depth → list_at names depth p ≡ (mark_at 123 p >>= λ begun. nodes_at (list_at names (depth - 1)) names (length begun.rest) begun)
unfolding list_at
list-inner names depth p lt =
    let m : depth ≡ suc (depth - 1) = omega arith in
    let one : list_at names (suc (depth - 1)) p ≡ (mark_at 123 p >>= λ begun. nodes_at (list_at names (depth - 1)) names (length begun.rest) begun) = refl in
    ap (λ d. list_at names d p) m ∙ one

pub list-no_mark : (names : Naming) (depth : ℕ) (p : Point) (fault : TextFault) → 0 < depth → mark_at 123 p ≡ Err fault → list_at names depth p ≡ Err fault
list-no_mark names depth p fault lt e = list-inner names depth p lt ∙ ap (λ r. r >>= λ begun. nodes_at (list_at names (depth - 1)) names (length begun.rest) begun) e

pub list-read : (names : Naming) (depth : ℕ) (p begun : Point) → 0 < depth → mark_at 123 p ≡ Ok begun → list_at names depth p ≡ nodes_at (list_at names (depth - 1)) names (length begun.rest) begun
list-read names depth p begun lt e = list-inner names depth p lt ∙ ap (λ r. r >>= λ begun. nodes_at (list_at names (depth - 1)) names (length begun.rest) begun) e
