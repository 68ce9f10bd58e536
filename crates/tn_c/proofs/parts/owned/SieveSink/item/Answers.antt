use Rattle.std.proofs.Common.{ℕ, List, refl, sym, ap, ◌∙◌}
use Rattle.tn_c.specs.parts.OwnOptions.{is_own}
use Rattle.tn_c.proofs.of_parts.Sifting.{own_on, own_none, other_on, other_none}
use Rattle.tn_c.proofs.parts.owned.SieveSink.item.Goals as goal

pub returns-then-is_own : goal.returns-then-is_own
returns-then-is_own c =
    let own = sym (ap (λ (l : List ℕ). is_own l c.args.item) c.as_slice.ensures.value) ∙ sym c.is_own.ensures ∙ c.if-is_own.true in
    record {
      ok = own_on c.push.result c.args.self.now _ c.args.item own refl refl c.push.ensures.ok;
      err = own_none c.push.result c.args.self.now _ c.args.item refl refl c.push.ensures.err;
    }

pub returns : goal.returns
returns c =
    let other = sym (ap (λ (l : List ℕ). is_own l c.args.item) c.as_slice.ensures.value) ∙ sym c.is_own.ensures ∙ c.if-is_own.false in
    record {
      ok = other_on c.spell.result c.args.self.now _ c.args.item other refl refl c.spell.ensures.ok;
      err = other_none c.spell.result c.args.self.now _ c.args.item refl refl c.spell.ensures.err;
    }
