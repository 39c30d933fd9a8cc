-- What one terminal ahead tells of a grammar: its NULL, FIRST and FLAST (Krishnaswami and Yallop, A typed, algebraic approach to parsing).
use Rattle.std.specs.Prelude.{Bool, true, false, not, ◌&&◌, ◌||◌, List, [], ◌∷◌, ◌++◌}
use Rattle.grammar.specs.Terminals.{Class, all_apart, all_included}

-- Whether the grammar spells the empty text; the classes with which its texts begin; those with which a text that could end there goes on; and whether
-- one terminal ahead decides at each choice and each end of a repetition.
pub record Lookahead : Type 0 where
  pub nullable : Bool
  pub firsts : List Class
  pub continues : List Class
  pub decides : Bool

-- no terminal
abbrev pub nothing : Lookahead
nothing = record { nullable = true; firsts = []; continues = []; decides = true }

-- one terminal of the class
abbrev pub one : Class → Lookahead
one class = record { nullable = false; firsts = class ∷ []; continues = []; decides = true }

-- one terminal at least, of these classes, and going on with those
abbrev pub begins : List Class → List Class → Lookahead
begins firsts continues = record { nullable = false; firsts = firsts; continues = continues; decides = true }

-- the empty text too
abbrev pub maybe_begins : List Class → List Class → Lookahead
maybe_begins firsts continues = record { nullable = true; firsts = firsts; continues = continues; decides = true }

abbrev pub if_so : Bool → List Class → List Class
if_so true classes = classes
if_so false classes = []

-- one after the other
infixr 30 ◌⨟◌
abbrev pub ◌⨟◌ : Lookahead → Lookahead → Lookahead
p ⨟ q = record {
  nullable = p.nullable && q.nullable;
  firsts = p.firsts ++ if_so p.nullable q.firsts;
  continues = q.continues ++ if_so q.nullable p.continues;
  decides = p.decides && (q.decides && all_apart p.continues q.firsts);
}

-- one or the other
infixr 25 ◌∪◌
abbrev pub ◌∪◌ : Lookahead → Lookahead → Lookahead
p ∪ q = record {
  nullable = p.nullable || q.nullable;
  firsts = p.firsts ++ q.firsts;
  continues = p.continues ++ (q.continues ++ if_so (p.nullable || q.nullable) (p.firsts ++ q.firsts));
  decides = p.decides && (q.decides && (all_apart p.firsts q.firsts && not (p.nullable && q.nullable)));
}

-- any number of times
abbrev pub star : Lookahead → Lookahead
star p = record {
  nullable = true;
  firsts = p.firsts;
  continues = p.firsts ++ p.continues;
  decides = p.decides && (not p.nullable && all_apart p.continues p.firsts);
}

-- whether the second says no more than the first
abbrev pub within : Lookahead → Lookahead → Bool
within p q =
    (not p.nullable || q.nullable)
    && (all_included p.firsts q.firsts && (all_included p.continues q.continues && (not q.decides || p.decides)))
