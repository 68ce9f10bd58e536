use Rattle.std.proofs.Common.{◌≡◌, true, ℕ, List, OnOk, OnErr, sym, subst}
use Rattle.tn_cores.proofs.of_core.Doing.{does_step, stays_closed, is_plain, shows_ok, shows_err}
use Rattle.tn_cores.specs.{declared.{client.machine.Core.Core, messages.Message.{Message, TheVariants.Resized}}, client.Reaching.{DoesWhole, StopsWithin}}
use Rattle.tn_cores.proofs.client.machine.Core.act.Goals as goal

pub returns-in-Resized-clause-ok : goal.returns-in-Resized-clause-ok
returns-in-Resized-clause-ok c =
    let seen : List ℕ = c.args.screen.now.items in
    let Does : Message → List ℕ → Type 0 = λ m u. DoesWhole c.args.self.now
    (record { from = c.args.told.from; message = m }) c.args.out.now.items c.resize.new.out.items u u c.resize.new.self in
    let done = shows_ok c.resize.result (Does (Resized c.in-Resized.size)) seen c.resize.ensures.ok in
    subst (λ (m : Message). OnOk c.resize.result (Does m seen)) (sym c.in-Resized.is) done

pub returns-in-Resized-clause-err : goal.returns-in-Resized-clause-err
returns-in-Resized-clause-err c =
    let seen : List ℕ = c.args.screen.now.items in
    let Stops : Message → List ℕ → Type 0 = λ m u. StopsWithin c.args.self.now
    (record { from = c.args.told.from; message = m }) c.args.out.now.items c.resize.new.out.items u u c.resize.new.self in
    let done = shows_err c.resize.result (Stops (Resized c.in-Resized.size)) seen c.resize.ensures.err in
    subst (λ (m : Message). OnErr c.resize.result (Stops m seen)) (sym c.in-Resized.is) done

pub returns : goal.returns
returns c = record {
  ok = does_step c.args.told c.args.self.now c.step.new.self _ _
      (is_plain c.args.told.message c.in_default.not-Piece c.in_default.not-Resized c.in_default.not-Asked) c.requires c.step.ensures;
  err = tt;
  cause = tt;
  closed = λ e. subst (λ (k : Core). k.progress.closed ≡ true) (sym c.step.ensures)
      (stays_closed c.args.told.from c.args.told.message c.args.self.now.progress e);
}
