use Rattle.std.proofs.Common.{◌≡◌, ℕ, Bool, true, false, List, [], ◌∷◌, ◌<◌, inl, refl, length, take, get_or, map}
use Rattle.tn_nvt.specs.{declared.items.Item.TheVariants.Byte, Machine.{Outside, AfterCr, StepAdvances}, Runs.{BeginsRun, HasRun}}
use Rattle.tn_nvt.proofs.{Feeding.still, Runs.front_after_cr}
use Rattle.tn_nvt.proofs.Taking.{on_err, byte_front, byte_stops, run_some, run_refused, refuses_first, refuses_second, takes_two}
use Rattle.tn_nvt.proofs.handing.hand_after_cr.Goals as goal

-- the CR, and the run after it
both : (rest : List ℕ) (n : ℕ) → 0 < length rest → HasRun rest n → BeginsRun (get_or rest 0 0)
    → StepAdvances AfterCr (take n rest) (Byte 13 ∷ map Byte (take n rest)) Outside
both rest n some run begins = front_after_cr rest n run.some some begins.0 begins.1 run.plain

not_true : (b : Bool) → b ≡ false → b ≡ true → ⊥
not_true b f t = cc

pub returns-in_err-item-clause-refused : goal.returns-in_err-item-clause-refused
returns-in_err-item-clause-refused g c =
    let rest = c.args.rest.now in
    let n = c.run_len-count.result in
    let run = c.run_len-count.ensures in
    let more = both rest n c.requires run (c.begins_run.ensures.yes c.if-begins_run.true) in
    on_err _ _ (run_refused g.S.Sink.takes g.S.Sink.gives_up AfterCr (Byte 13 ∷ []) rest n _ _ (inl refl, tt) run
    (refuses_first g.S.Sink.takes g.S.Sink.gives_up _ _ _ _ c.in_err-item.ensures.err) more)

pub returns-in_err-run-clause-refused : goal.returns-in_err-run-clause-refused
returns-in_err-run-clause-refused g c =
    let rest = c.args.rest.now in
    let n = c.run_len-count.result in
    let run = c.run_len-count.ensures in
    let more = both rest n c.requires run (c.begins_run.ensures.yes c.if-begins_run.true) in
    on_err _ _ (run_refused g.S.Sink.takes g.S.Sink.gives_up AfterCr (Byte 13 ∷ []) rest n _ _ (inl refl, tt) run
    (refuses_second g.S.Sink.takes g.S.Sink.gives_up _ _ _ _ _ c.in_ok-item.ensures.ok c.in_err-run.ensures.err) more)

pub returns-then-begins_run-clause-ok : goal.returns-then-begins_run-clause-ok
returns-then-begins_run-clause-ok g c =
    let rest = c.args.rest.now in
    let n = c.run_len-count.result in
    let run = c.run_len-count.ensures in
    let more = both rest n c.requires run (c.begins_run.ensures.yes c.if-begins_run.true) in
    run_some g.S.Sink.takes g.S.Sink.gives_up AfterCr (Byte 13 ∷ []) rest n _ _ (inl refl, tt) run
    (takes_two g.S.Sink.takes g.S.Sink.gives_up _ _ _ _ _ c.in_ok-item.ensures.ok c.in_ok-run.ensures.ok) more

pub returns-in_err-hand_to-clause-refused : goal.returns-in_err-hand_to-clause-refused
returns-in_err-hand_to-clause-refused g c =
    let body = c.args.body.now in
    let step = c.after_cr-next.ensures in
    on_err _ _ (byte_stops g.S.Sink.takes g.S.Sink.gives_up AfterCr _ c.args.rest.now _ _ _ c.requires
    (step.special body (c.begins_run.ensures.no (not_true _ c.if-begins_run.false))) c.in_err-hand_to.ensures.err (step.advances body))

pub returns-clause-ok : goal.returns-clause-ok
returns-clause-ok g c =
    let body = c.args.body.now in
    let step = c.after_cr-next.ensures in
    rw (still c.after_cr-next.result.0 c.after_cr-next.result.1 body c.hand_to.new.body (λ is. absurd (step.closes is)) c.hand_to.ensures.body)
    (byte_front g.S.Sink.takes g.S.Sink.gives_up AfterCr _ c.args.rest.now _ _ _ c.requires
    (step.special body (c.begins_run.ensures.no (not_true _ c.if-begins_run.false))) c.in_ok-hand_to.ensures.ok (step.advances body))
