use Rattle.std.proofs.{Common.{◌++◌, ◌∷◌, [], List, Result, Ok, Err, OnErr, ap, append_assoc, refl, sym, ◌∙◌}, lemmas.Fn.FoldsTo-push}
use Rattle.tn_theorems.specs.{sessions.OneLoop.Happens, declared.sessions.one_loop.LoopEvent.LoopEvent}
use Rattle.tn_theorems.proofs.sessions.one_loop.Joined.run.Goals as goal

pub loop-event-init : goal.loop-event-init
loop-event-init c = (refl, refl)

pub loop-event-preserved : goal.loop-event-preserved
loop-event-preserved c =
    let i = c.loop-event.invariant in
    let left = c.next.new.self.rest.items in (
      FoldsTo-push Happens c.args.self.now c.loop-event.yielded c.loop-event.self c.in-Some.event c.happen.new.self i.0 c.in_ok-happen.ensures.happens,
      i.1 ∙ ap (λ (l : List LoopEvent). c.loop-event.yielded ++ l) c.in-Some.ensures.steps.0
          ∙ sym (append_assoc c.loop-event.yielded (c.in-Some.event ∷ []) left),
    )

on_err : {A E P : Type 0} (r : Result A E) → P → OnErr r P
on_err (Ok done) p = tt
on_err (Err error) p = p

pub returns-in_err-happen-clause-refused : goal.returns-in_err-happen-clause-refused
returns-in_err-happen-clause-refused c = on_err c.from_residual.result (record {
  front = c.loop-event.yielded;
  event = c.in-Some.event;
  later = c.next.new.self.rest.items;
  mid = c.loop-event.self;
  whole = sym c.into_iter-event-iterator.ensures.into_iter_gives.0 ∙ c.loop-event.invariant.1
      ∙ ap (λ (l : List LoopEvent). c.loop-event.yielded ++ l) c.in-Some.ensures.steps.0;
  happened = c.loop-event.invariant.0;
  refused = c.in_err-happen.ensures.refused;
})
