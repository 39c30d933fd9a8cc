use Rattle.std.proofs.Common.{◌≡◌, ℕ, ◌≤◌, ◌∙◌, ap, sym, subst, rules}
use Rattle.std.specs.Option.{unwrap_or}
use Rattle.nir_text.specs.Instrs.{count_of}
use Rattle.nir_text.specs.Table.{naming}
use Rattle.nir_text.proofs.NamingLemmas.{unwrap_or-count_of}
use Rattle.nir_text.proofs.ShapedKinds.{IsCount-few, count_of-IsCount}
use Rattle.nir_text.proofs.table.NameTable.count_of.Goals as goal

pub returns-in-Some : goal.returns-in-Some
returns-in-Some c =
    let t = c.args.self.now in
    let e : c.in-Some.count.now ≡ count_of (naming t) c.args.value = ap (λ r. unwrap_or r 1) c.in-Some.ensures.value ∙ unwrap_or-count_of (naming t) c.args.value in
    record {
      count = e;
      few = subst (λ (n : ℕ). n ≤ 4) (sym e) (IsCount-few (count_of (naming t) c.args.value) (count_of-IsCount (naming t) c.args.value t.counted));
    }

pub returns-in-None : goal.returns-in-None
returns-in-None c =
    record {
      count = ap (λ r. unwrap_or r 1) c.in-None.ensures.value ∙ unwrap_or-count_of (naming c.args.self.now) c.args.value;
      few = search rules;
    }
