use Rattle.std.proofs.{Common.{ℕ, List, Err, drop, get_or, sym, ap, subst, take-append-drop}, lemmas.{List.{take_all, take_more}, Result.err_from_is_err_and}}
use Rattle.tn_client.proofs.lemmas.Wanting.{says_or_shows}
use Rattle.tn_cores.proofs.of_core.{Doing.{does_keys, stops_keys}, Refusing.key_cause, Typing.{types_none, types_more, types_kept}}
use Rattle.tn_cores.specs.{client.Reaching.TypesAll, declared.client.progress.ClientProgress.ClientProgress}
use Rattle.tn_cores.proofs.client.machine.Core.keys.Goals as goal

pub loop-key-init : goal.loop-key-init
loop-key-init c = record {
  types = types_none c.args.self.now.end c.args.out.now.items c.args.screen.now.items;
  progress = c.fed-self.ensures;
}

pub loop-key-preserved : goal.loop-key-preserved
loop-key-preserved c = record {
  types = rw (take_more c.args.keys.now c.loop-key.key-index 0 c.loop-key-test.true)
      (types_more c.args.self.now.end c.loop-key.self.end c.key.new.self _ _ _ _ _ _ _ _ c.loop-key.invariant.types c.in_ok-key.ensures.step
      c.in_ok-key.ensures.out c.in_ok-key.ensures.screen);
  progress = c.loop-key.invariant.progress;
}

pub returns-clause-ok : goal.returns-clause-ok
returns-clause-ok c =
    let old = c.args.self.now in
    let end = c.loop-key.self.end in
    does_keys c.args.keys.now old c.loop-key.self end _ _ _ _ c.requires
    (ap (λ (p : ClientProgress). record { end = end; progress = p }) c.loop-key.invariant.progress)
    (subst (λ (keys : List ℕ). TypesAll old.end keys c.args.out.now.items c.loop-key.out.items c.args.screen.now.items c.loop-key.screen.items end)
    (take_all c.loop-key.key-index c.args.keys.now c.loop-key-test.false) c.loop-key.invariant.types)

pub returns-in_err-key-clause-err : goal.returns-in_err-key-clause-err
returns-in_err-key-clause-err c =
    let p = err_from_is_err_and c.from_residual.result c.from_residual.ensures.1 in
    let old = c.args.self.now in
    let new = c.key.new.self in
    rw p.1 (stops_keys c.args.keys.now old _ new _ _ _ _ c.requires
    (ap (λ (p : ClientProgress). record { end = new; progress = p }) c.loop-key.invariant.progress) (
      _,
      drop c.loop-key.key-index c.args.keys.now,
      sym (take-append-drop c.loop-key.key-index c.args.keys.now),
      types_kept old.end c.loop-key.self.end new _ _ _ _ _ _ _ c.in_err-key.ensures.err c.loop-key.invariant.types,
    ))

pub returns-in_err-key-clause-cause : goal.returns-in_err-key-clause-cause
returns-in_err-key-clause-cause c =
    let p = err_from_is_err_and c.from_residual.result c.from_residual.ensures.1 in
    let old = c.args.self.now in
    let end = c.loop-key.self.end in
    let key = get_or c.args.keys.now c.loop-key.key-index 0 in
    rw (p.1, p.2) (λ d at.
    let l = at.live c.requires in
    key_cause old.end end c.args.keys.now c.loop-key.key-index _ _ _ _ _ c.loop-key-test.true c.loop-key.invariant.types c.in_err-key.ensures.failed
    (λ e. says_or_shows end key c.loop-key.out c.loop-key.screen (c.in_err-key.ensures.memory (ap Err e))) d.history l.leads l.failed)
