-- Circuits that grow: gates one after another, and what a loop over the bits of words has made so far.
use Rattle.std.proofs.Common.{◌≡◌, suc, ◌+◌, List, [], ◌∷◌, ◌++◌, length, refl, sym, ◌∙◌, ap, arith, append_assoc}
use Rattle.std.proofs.lemmas.List.{append-nil}
use Rattle.circuit_laws.specs.Literals.{Lit, Is}
use Rattle.circuit_laws.specs.Gates.{Gate, gate_clauses}
use Rattle.circuit_laws.specs.Blocks.{Block, plain, row, behind, choice}
use Rattle.bit_circuit.specs.declared.circuit.Circuit.{Circuit}
use Rattle.bit_circuit.specs.Growth.{with_variable, asked, all_asked, with_gate, grown}

asked-next : (k : Circuit) (ls : List Lit) → (asked k ls).next ≡ k.next
unfolding asked
asked-next k ls = refl

pub all_asked-next : (k : Circuit) (cs : List (List Lit)) → (all_asked k cs).next ≡ k.next
all_asked-next k [] = refl
all_asked-next k (ls ∷ cs) = all_asked-next (asked k ls) cs ∙ asked-next k ls

pub with_gate-next : (k : Circuit) (g : Gate) → (with_gate k g).next ≡ suc k.next
unfolding with_gate with_variable
with_gate-next k g = all_asked-next (with_variable k) (gate_clauses k.next g)

pub grown-next : (k : Circuit) (gs : List Gate) → (grown k gs).next ≡ behind k.next gs
grown-next k [] = omega arith
grown-next k (g ∷ gs) = grown-next (with_gate k g) gs ∙ ap (λ n. n + length gs) (with_gate-next k g) ∙ omega arith

pub grown-append : (k : Circuit) (a b : List Gate) → grown (grown k a) b ≡ grown k (a ++ b)
grown-append k [] b = refl
grown-append k (g ∷ a) b = grown-append (with_gate k g) a b

-- what is made so far, with what is left, is the whole
pub record Left (k : Circuit) (made : List Lit) (rest : Block) (start : Circuit) (whole : Block) : Type 0 where
  pub word : made ++ rest.word ≡ whole.word
  pub gates : grown k rest.gates ≡ grown start whole.gates

pub left_start : (k : Circuit) (whole : Block) → Left k [] whole k whole
left_start k whole = record { word = refl; gates = refl }

-- some of what is left was made
pub left_more : (k k' : Circuit) (word word' ls : List Lit) (gs : List Gate) (here rest : Block) (start : Circuit) (whole : Block) →
    Left k word here start whole → here ≡ record { word = ls ++ rest.word; gates = gs ++ rest.gates } → k' ≡ grown k gs → word' ≡ word ++ ls → Left k' word' rest start whole
left_more k k' word word' ls gs here rest start whole left is more longer = record {
  word =
      ap (λ w. w ++ rest.word) longer
      ∙ append_assoc word ls rest.word
      ∙ ap (λ b. word ++ b.word) (sym is)
      ∙ left.word;
  gates =
      ap (λ m. grown m rest.gates) more
      ∙ grown-append k gs rest.gates
      ∙ ap (λ b. grown k b.gates) (sym is)
      ∙ left.gates;
}

-- nothing is left to make but a word without gates
pub left_end : (k : Circuit) (word ls : List Lit) (rest : Block) (start : Circuit) (whole : Block) → Left k word rest start whole → rest ≡ plain ls → (word ++ ls ≡ whole.word) × (k ≡ grown start whole.gates)
left_end k word ls rest start whole left is = (
  ap (λ b. word ++ b.word) (sym is) ∙ left.word,
  ap (λ b. grown k b.gates) (sym is) ∙ left.gates,
)

-- one more gate, and a literal of it
pub gate_next : (k k' : Circuit) (g : Gate) → k' ≡ with_gate k g → k'.next ≡ suc k.next
gate_next k k' g more = ap (λ m. m.next) more ∙ with_gate-next k g

pub row_turn : (here rest : List Gate) (g : Gate) (k k' : Circuit) (word word' : List Lit) (made : Lit) (start : Circuit) (whole : Block) →
    Left k word (row here k.next) start whole → here ≡ g ∷ rest → made ≡ Is k.next → k' ≡ with_gate k g → word' ≡ word ++ made ∷ [] → Left k' word' (row rest k'.next) start whole
row_turn here rest g k k' word word' made start whole left is one more longer =
    left_more k k' word word' (Is k.next ∷ []) (g ∷ []) (row here k.next) (row rest k'.next) start whole left
    (ap (λ gs. row gs k.next) is
    ∙ ap (λ n. record { word = Is k.next ∷ (row rest n).word; gates = g ∷ (row rest n).gates }) (sym (gate_next k k' g more)))
    more
    (longer ∙ ap (λ l. word ++ l ∷ []) one)

pub row_end : (rest : List Gate) (k : Circuit) (word : List Lit) (start : Circuit) (whole : Block) → Left k word (row rest k.next) start whole → rest ≡ [] → (word ≡ whole.word) × (k ≡ grown start whole.gates)
row_end rest k word start whole left is =
    let both : (word ++ [] ≡ whole.word) × (k ≡ grown start whole.gates) = left_end k word [] (row rest k.next) start whole left (ap (λ gs. row gs k.next) is) in
    (sym (append-nil word) ∙ both.0, both.1)

-- a choice behind the gates of another block
pub choice_made : (first : Block) (s s' : Lit) (xs xs' ys ys' : List Lit) (k k1 k2 : Circuit) (word : List Lit) → k1 ≡ grown k first.gates → s' ≡ s → xs' ≡ xs → ys' ≡ ys →
    word ≡ (choice s' xs' ys' k1.next).word → k2 ≡ grown k1 (choice s' xs' ys' k1.next).gates →
    let own : Block = choice s xs ys (behind k.next first.gates) in (word ≡ own.word) × (k2 ≡ grown k (first.gates ++ own.gates))
choice_made first s s' xs xs' ys ys' k k1 k2 word one e f g made two =
    let next : k1.next ≡ behind k.next first.gates = ap (λ m. m.next) one ∙ grown-next k first.gates in
    let own : Block = choice s xs ys (behind k.next first.gates) in
    let is : choice s' xs' ys' k1.next ≡ own =
    ap (λ l. choice l xs' ys' k1.next) e ∙ ap (λ w. choice s w ys' k1.next) f ∙ ap (λ w. choice s xs w k1.next) g ∙ ap (choice s xs ys) next in (
      made ∙ ap (λ b. b.word) is,
      two ∙ ap (λ b. grown k1 b.gates) is ∙ ap (λ m. grown m own.gates) one ∙ grown-append k first.gates own.gates,
    )
