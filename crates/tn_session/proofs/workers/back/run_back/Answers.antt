use Rattle.std.proofs.{Common.{ℕ, [], ◌∷◌, ◌++◌, map, length, length-append, refl, sym, subst}, lemmas.Option.IfSome_then}
use Rattle.crossbeam_channel.specs.Claims.{view}
use Rattle.tn_jobs.specs.declared.{held_jobs.JobId.JobId, reactions.Reaction.Reaction}
use Rattle.tn_session.specs.workers.{Acts.job_acts, Credits.HaveUsed, Stepping.step_said, Turning.{Holds, ids_of}}
use Rattle.tn_session.specs.declared.workers.mail.Sender.TheVariants.{Back}
use Rattle.tn_cores.specs.declared.messages.Message.TheVariants.{Refused, Left}
use Rattle.tn_session.proofs.{of_workers.Counting.{used_none, used_more, used_still, used_for}, lemmas.workers.Readers.{said, said_two, role}}
use Rattle.tn_session.proofs.of_workers.Stopping.{stays_on, stays_here}
use Rattle.tn_session.proofs.lemmas.workers.Turning.{said_step, closes_idle, closes_stopped, closes_refused, running_first, advanced, in_turn}
use Rattle.tn_session.proofs.workers.back.run_back.Goals as goal

pub loop-init : goal.loop-init
loop-init g c = (
  c.requires.mailbox.0,
  (
    [],
    c.requires.mailbox.1,
    running_first g.J.Job.steps c.args.tostop c.args.queue.items c.requires.jobs.1,
    refl,
    used_none c.args.credits.now,
  ),
  c.requires.stops,
  c.requires.credits,
  refl,
)

pub is_stopped-requires : goal.is_stopped-requires
is_stopped-requires g c = record { seat = stays_here c.args.stops.now c.loop.stops c.loop.invariant.2 }

pub returns-then-is_stopped-clause-stepped : goal.returns-then-is_stopped-clause-stepped
returns-then-is_stopped-clause-stepped g c =
    let i = c.loop.invariant.1 in
    IfSome_then c.say.result c.say.ensures.said (λ p f. closes_stopped (Holds c.args.queue.items)
    (job_acts g.J.Job.reacts g.J.Job.steps g.J.Job.refuses) c.args.tostop (ids_of c.args.queue.items) i.0 c.loop.queue.items _ (view c.say.new.pass) i.2 i.3
    (c.is_stopped.ensures.told c.if-is_stopped.true) (said Back (map step_said i.0) Left (view c.loop.seat.pass) (view c.say.new.pass) i.1 f))

pub returns-then-is_stopped-clause-credited : goal.returns-then-is_stopped-clause-credited
returns-then-is_stopped-clause-credited g c =
    let i = c.loop.invariant.1 in
    IfSome_then c.say.result c.say.ensures.said (λ p f. used_for i.0 (Left ∷ []) (view c.say.new.pass) c.args.credits.now c.take.new.self
    (used_still (length i.0) c.args.credits.now c.loop.credits c.take.new.self i.4 c.in_ok-take.ensures.used)
    (said Back (map step_said i.0) Left (view c.loop.seat.pass) (view c.say.new.pass) i.1 f) refl)

pub returns-in-Idle-clause-stepped : goal.returns-in-Idle-clause-stepped
returns-in-Idle-clause-stepped g c =
    let i = c.loop.invariant.1 in
    IfSome_then c.say-in-Idle.result c.say-in-Idle.ensures.said (λ p f.
    closes_idle (Holds c.args.queue.items) (job_acts g.J.Job.reacts g.J.Job.steps g.J.Job.refuses) c.args.tostop
    (ids_of c.args.queue.items) i.0 c.loop.queue.items _ (view c.say-in-Idle.new.pass) i.2 i.3 c.in-Idle.ensures
    (said Back (map step_said i.0) Left (view c.loop.seat.pass) (view c.say-in-Idle.new.pass) i.1 f))

pub returns-in-Idle-clause-credited : goal.returns-in-Idle-clause-credited
returns-in-Idle-clause-credited g c =
    let i = c.loop.invariant.1 in
    IfSome_then c.say-in-Idle.result c.say-in-Idle.ensures.said (λ p f.
    used_for i.0 (Left ∷ []) (view c.say-in-Idle.new.pass) c.args.credits.now c.take.new.self
    (used_still (length i.0) c.args.credits.now c.loop.credits c.take.new.self i.4 c.in_ok-take.ensures.used)
    (said Back (map step_said i.0) Left (view c.loop.seat.pass) (view c.say-in-Idle.new.pass) i.1 f) refl)

pub say-requires-in-Refused-2-clause-role : goal.say-requires-in-Refused-2-clause-role
say-requires-in-Refused-2-clause-role g c =
    let i = c.loop.invariant.1 in
    role Back (map step_said i.0 ++ Refused ∷ []) (view c.say-in-Refused.new.pass)
    (said Back (map step_said i.0) Refused (view c.loop.seat.pass) (view c.say-in-Refused.new.pass) i.1 c.in_ok-say-in-Refused.ensures.said)

pub returns-in-Refused-clause-stepped : goal.returns-in-Refused-clause-stepped
returns-in-Refused-clause-stepped g c =
    let i = c.loop.invariant.1 in
    let first = said Back (map step_said i.0) Refused (view c.loop.seat.pass) (view c.say-in-Refused.new.pass) i.1 c.in_ok-say-in-Refused.ensures.said in
    IfSome_then c.say-in-Refused-2.result c.say-in-Refused-2.ensures.said
    (λ p f. closes_refused (Holds c.args.queue.items) (job_acts g.J.Job.reacts g.J.Job.steps g.J.Job.refuses) c.args.tostop
    (ids_of c.args.queue.items) i.0 c.loop.queue.items _ _ (view c.say-in-Refused-2.new.pass) c.in-Refused.ensures.0 i.2 i.3 c.in-Refused.ensures.1 c.in-Refused.ensures.2
    (said Back (map step_said i.0 ++ Refused ∷ []) Left (view c.say-in-Refused.new.pass) (view c.say-in-Refused-2.new.pass) first f))

pub returns-in-Refused-clause-credited : goal.returns-in-Refused-clause-credited
returns-in-Refused-clause-credited g c =
    let i = c.loop.invariant.1 in
    let first = said Back (map step_said i.0) Refused (view c.loop.seat.pass) (view c.say-in-Refused.new.pass) i.1 c.in_ok-say-in-Refused.ensures.said in
    IfSome_then c.say-in-Refused-2.result c.say-in-Refused-2.ensures.said
    (λ p f. used_for i.0 (Refused ∷ Left ∷ []) (view c.say-in-Refused-2.new.pass) c.args.credits.now c.take.new.self
    (used_still (length i.0) c.args.credits.now c.loop.credits c.take.new.self i.4 c.in_ok-take.ensures.used)
    (said_two Back (map step_said i.0) Refused Left (view c.loop.seat.pass) (view c.say-in-Refused.new.pass)
    (view c.say-in-Refused-2.new.pass) i.1 c.in_ok-say-in-Refused.ensures.said f) refl)

pub loop-preserved : goal.loop-preserved
loop-preserved g c =
    let i = c.loop.invariant.1 in
    let s : JobId × Reaction = (c.in-Did.id, c.in-Did.reaction) in (
      c.say-in-Did.ensures.seat,
      (
        i.0 ++ s ∷ [],
        said_step i.0 s (view c.say-in-Did.new.pass) (said Back (map step_said i.0) (step_said s) (view c.loop.seat.pass)
            (view c.say-in-Did.new.pass) i.1 c.in_ok-say-in-Did.ensures.said),
        advanced (Holds c.args.queue.items) g.J.Job.steps c.args.tostop
            (ids_of c.args.queue.items) i.0 c.loop.queue.items c.advance.new.queue.items c.in-Did.id c.in-Did.reaction i.2 c.in-Did.ensures,
        in_turn g.J.Job.steps c.args.tostop (ids_of c.args.queue.items) i.0 c.loop.queue.items c.advance.new.queue.items c.in-Did.id c.in-Did.reaction i.3
            c.in-Did.ensures,
        subst (λ (n : ℕ). HaveUsed n c.args.credits.now c.take.new.self) (sym (length-append i.0 (s ∷ [])))
            (used_more (length i.0) c.args.credits.now c.loop.credits c.take.new.self i.4 c.in_ok-take.ensures.used),
      ),
      stays_on c.args.stops.now c.loop.stops c.is_stopped.new.stops c.loop.invariant.2 c.is_stopped.ensures.stays,
      c.take.ensures.seat,
      c.loop.invariant.4,
    )
