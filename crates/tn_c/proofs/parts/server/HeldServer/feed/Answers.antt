use Rattle.std.proofs.Common.{ℕ, List, inl, inr, refl, sym, subst, ◌∙◌}
use Rattle.tn_c.specs.{parts.{ServerCalls.EndTakes, OwnOptions.SiftCall}, declared.parts.codes.Code.Code}
use Rattle.tn_c.proofs.of_parts.Sifting.{tells_not}
use Rattle.tn_c.proofs.parts.server.HeldServer.feed.Goals as goal

pub returns-then-is_none : goal.returns-then-is_none
returns-then-is_none c =
    record {
      comes = inl (record { none = c.is_none.ensures.0 c.if-is_none.true; takes = c.feed_end.ensures; owned = refl });
      entry = refl;
      seen = refl;
    }

pub returns-then-failed : goal.returns-then-failed
returns-then-failed c =
    record {
      comes = inr (inl (record {
        owns = tells_not c.is_none.result c.is_none.ensures c.if-is_none.false;
        refused = λ e. absurd (cc);
        rests = record { end = refl; pending = refl };
        cause = inl (sym c.failed.ensures ∙ c.if-failed.true, refl, refl);
      }));
      entry = refl;
      seen = refl;
    }

pub returns-in-Done : goal.returns-in-Done
returns-in-Done c =
    record {
      comes = inr (inr (record {
        owns = tells_not c.is_none.result c.is_none.ensures c.if-is_none.false;
        runs = sym c.failed.ensures ∙ c.if-failed.false;
        sifts = subst (λ (answer : Code). SiftCall c.args.piece.now answer c.args.self.now.owned c.sift.new.self) c.in-Done.is c.sift.ensures;
        takes = subst (λ (piece : List ℕ). EndTakes c.feed_end-in-Done.result c.args.self.now.end c.feed_end-in-Done.new.end c.args.self.now.pending.items c.feed_end-in-Done.new.pending.items piece)
            c.as_slice-rest.ensures.value c.feed_end-in-Done.ensures;
      }));
      entry = refl;
      seen = refl;
    }

pub returns-in_default : goal.returns-in_default
returns-in_default c =
    record {
      comes = inr (inl (record {
        owns = tells_not c.is_none.result c.is_none.ensures c.if-is_none.false;
        refused = c.in_default.not-Done;
        rests = record { end = refl; pending = refl };
        cause = inr (sym c.failed.ensures ∙ c.if-failed.false, c.sift.ensures);
      }));
      entry = refl;
      seen = refl;
    }
