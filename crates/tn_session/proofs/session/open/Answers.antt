use Rattle.std.proofs.Common.{Bool, true, false, refl, subst}
use Rattle.tn_session.proofs.Going.{never_true, notes_as}
use Rattle.tn_cores.specs.streams.Writing.{Tells}
use Rattle.tn_session.proofs.session.open.Goals as goal

pub returns-then-write_out-clause-opened : goal.returns-then-write_out-clause-opened
returns-then-write_out-clause-opened g c = record {
  written = true;
  wrote = notes_as c.write_out.result true _ _ _ _ _ _ c.if-write_out.true refl c.write_out.ensures.writes;
  tells = subst (λ (w : Bool). Tells w (g.W.Drain.told c.args.writer.now) (g.W.Drain.told c.write_out.new.writer)) c.if-write_out.true
      c.write_out.ensures.tells;
  leads = λ d at. at;
  over = λ e. never_true e;
}

pub returns-clause-opened : goal.returns-clause-opened
returns-clause-opened g c = record {
  written = false;
  wrote = notes_as c.write_out.result false _ _ _ _ _ _ c.if-write_out.false refl c.write_out.ensures.writes;
  tells = subst (λ (w : Bool). Tells w (g.W.Drain.told c.args.writer.now) (g.W.Drain.told c.write_out.new.writer)) c.if-write_out.false
      c.write_out.ensures.tells;
  leads = c.write_failed.ensures.leads;
  over = λ e. c.write_failed.ensures.over;
}
