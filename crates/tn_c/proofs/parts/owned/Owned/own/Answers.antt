use Rattle.std.proofs.Common.{inl, inr, refl, sym, ◌∙◌, arith}
use Rattle.tn_c.proofs.of_parts.Saying.{both}
use Rattle.tn_c.proofs.parts.owned.Owned.own.Goals as goal

pub returns-then-is_ends : goal.returns-then-is_ends
returns-then-is_ends c =
    let ends = sym c.is_ends.ensures ∙ c.if-is_ends.true in
    record {
      codes = inr (inr (inl refl));
      reserved = (λ _. ends, λ _. refl);
      late = (λ e. absurd (cc), λ late. absurd (both _ ends late.0));
      options = λ e. absurd (cc);
      full = λ e. absurd (cc);
      err = λ _. refl;
      waiting = refl;
      decoder = refl;
      item = refl;
      fed = refl;
      failed = refl;
    }

pub returns-then-self : goal.returns-then-self
returns-then-self c =
    let other = sym c.is_ends.ensures ∙ c.if-is_ends.false in
    record {
      codes = inr (inr (inr refl));
      reserved = (λ e. absurd (cc), λ ends. absurd (both _ ends other));
      late = (λ _. (other, c.if-self.true), λ _. refl);
      options = λ e. absurd (cc);
      full = λ e. absurd (cc);
      err = λ _. refl;
      waiting = refl;
      decoder = refl;
      item = refl;
      fed = refl;
      failed = refl;
    }

pub returns-in-Ok : goal.returns-in-Ok
returns-in-Ok c =
    let other = sym c.is_ends.ensures ∙ c.if-is_ends.false in
    record {
      codes = inl refl;
      reserved = (λ e. absurd (cc), λ ends. absurd (both _ ends other));
      late = (λ e. absurd (cc), λ late. absurd (both _ late.1 c.if-self.false));
      options = λ _. c.in-Ok.ensures.items;
      full = λ e. absurd (cc);
      err = λ e. absurd (e refl);
      waiting = refl;
      decoder = refl;
      item = refl;
      fed = refl;
      failed = refl;
    }

pub returns-in-Err : goal.returns-in-Err
returns-in-Err c =
    let other = sym c.is_ends.ensures ∙ c.if-is_ends.false in
    record {
      codes = inr (inl refl);
      reserved = (λ e. absurd (cc), λ ends. absurd (both _ ends other));
      late = (λ e. absurd (cc), λ late. absurd (both _ late.1 c.if-self.false));
      options = λ e. absurd (cc);
      full = λ _. omega (arith, c.in-Err.ensures.full);
      err = λ _. c.in-Err.ensures.items;
      waiting = refl;
      decoder = refl;
      item = refl;
      fed = refl;
      failed = refl;
    }
