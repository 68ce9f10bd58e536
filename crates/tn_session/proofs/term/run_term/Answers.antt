use Rattle.std.proofs.Common.{false, not, ◌&&◌, ap, refl, sym, ◌∙◌, subst, [], ◌∷◌, ◌++◌, Option, List, arith, append-nil, length}
use Rattle.crossbeam_channel.specs.Claims.{view}
use Rattle.tn_cores.specs.{queue.Queue.putter, declared.{messages.Message.Message, server.messages.ServerMark.ServerMark}, server.{Marks.Runs, Run.puts_of}}
use Rattle.tn_cores.specs.{declared.server.progress.ServerProgress.ServerProgress, streams.Known.known_writer}
use Rattle.tn_session.specs.{declared.workers.mail.{Mail.Mail, Sender.TheVariants.Back}, workers.Credits.pieces_among, Stops.{StandsTold, term_stops}}
use Rattle.tn_session.specs.{Turns.messages_of, Notes.noted_of}
use Rattle.tn_session.proofs.{Mailbox.handled_more, Credits.{among-push, counts_on, steps-push}, Finishing.{open_none, stands_next, stands_last}}
use Rattle.tn_session.proofs.Going.{false_true, going_first, going_next, going_kept, lefts_of-push, left_small, notes_next, notes_kept, puts_two, term_told}
use Rattle.tn_session.proofs.{Reach.{reach_start, reach_next}, Stopped.{left_next, stands_first}}
use Rattle.tn_session.proofs.term.run_term.Goals as goal

pub take-requires-clause-role : goal.take-requires-clause-role
take-requires-clause-role g c = (c.loop.invariant.2.0, ap (λ v. v.handled) c.loop.invariant.2.2)

pub loop-init : goal.loop-init
loop-init g c =
    let first = going_first c.args.term.now (known_writer g.W.Drain.contents g.W.Drain.told c.args.writer.now)
    (known_writer g.W.Drain.contents g.W.Drain.told c.finish_once-closed.new.writer)
    (noted_of c.args.output.now.transcript) c.finish_once-closed.ensures.contents c.finish_once-closed.ensures.told in (
      c.requires.mailbox.0,
      c.requires.entries.1,
      (
        [],
        [],
        ap (λ (o : Option (List Mail)). record (view c.args.passes.now.mails) { handled = o }) c.requires.mailbox.1,
        λ k e. e ∙ ap putter (sym (append-nil k)),
        refl,
        omega (arith, c.give_credit-owed.ensures.counted),
        first.0,
        omega arith,
        refl,
        λ run at. stands_first Back messages_of (Runs run) (λ r. term_stops r.progress) _ c.in_ok-told.told (term_stops c.args.term.now.progress)
            (c.in_ok-told.ensures.told ∙ c.stops.ensures ∙ ap term_stops c.progress-2.ensures),
        first.1,
      ),
      c.requires.out,
      omega arith,
      c.give_credit-owed.ensures.seat,
      reach_start c.args.term.now,
      stands_next c.progress.result.over false c.finish_once-closed.result false c.args.term.now.progress.over _ _ _ _ (open_none _) (open_none _) (λ e. refl)
          (λ e. absurd (false_true e)) (ap (λ (p : ServerProgress). p.over) c.progress.ensures) c.finish_once-closed.ensures.closes,
      c.tell.ensures.seat,
      c.tell.ensures.to,
      c.in_ok-told.ensures.word,
      c.requires.step_credits,
    )

pub turn-requires-clause-role : goal.turn-requires-clause-role
turn-requires-clause-role g c =
    let i = c.loop.invariant.2 in
    (c.requires.entries.0 ++ i.1, i.3 c.requires.entries.0 c.requires.entries.2)

pub loop-preserved : goal.loop-preserved
loop-preserved g c =
    let i = c.loop.invariant.2 in
    let x = c.in_ok-mail.mail in
    let t = c.in_ok-turn.ensures.turned in
    let writer = known_writer g.W.Drain.contents g.W.Drain.told in
    let small = left_small x.message in
    let more = c.if-lefts-ge-SENDERS.false in
    let left = left_next Back i.0 x c.loop.back_left c.has_left-back_left.result i.8 c.has_left-back_left.ensures in
    let goes = going_next c.args.term.now c.loop.term c.turn.new.term i.0 x (writer c.args.writer.now) (writer c.loop.writer) (writer c.turn.new.writer)
    (writer c.finish_once-closed-in-loop.new.writer) i.1 (noted_of c.take.new.self) (noted_of c.turn.new.output.transcript) (view c.loop.passes.hand)
    (view c.turn.new.hand) c.finish_once-closed-in-loop.ensures.contents c.finish_once-closed-in-loop.ensures.told i.6 t in (
      c.take.ensures.seat,
      c.turn.ensures.seat,
      (
        i.0 ++ x ∷ [],
        i.1 ++ (puts_of t.put ++ puts_of t.last),
        handled_more (view c.args.passes.now.mails) (view c.loop.passes.mails) (view c.take.new.pass) i.0 x i.2 c.in_ok-mail.ensures.handled,
        puts_two (view c.args.passes.now.hand) (view c.loop.passes.hand) (view c.turn.new.hand) i.1 (puts_of t.put ++ puts_of t.last) i.3 t.puts,
        omega (arith, lefts_of-push i.0 x, c.leaves-left.ensures, i.4),
        (let n = counts_on (length (view c.args.passes.now.give).given) (length (view c.loop.passes.give).given) (length (view c.give_credit-owed-in-loop.new.pass).given)
            (pieces_among i.0) _ c.loop.owed c.is_piece-piece.result c.is_due.result c.give_credit-owed-in-loop.result i.5 c.is_piece-piece.ensures
            c.is_due.ensures c.give_credit-owed-in-loop.ensures.counted in let p = among-push i.0 x in omega (arith, n, p)),
        goes.0,
        omega (arith, i.7, c.give_for.ensures.counted, steps-push i.0 x),
        left,
        term_told c.args.term.now c.loop.term c.turn.new.term i.0 x _ _ _ i.1 _ _ _ (view c.loop.passes.hand)
            (view c.turn.new.hand) c.loop.told c.is_told.result c.in_ok-told-2.told c.has_left-back_left.result i.6 t goes.0 goes.1.0 left
            (c.is_told.ensures ∙ ap (λ (p : ServerProgress). term_stops p && not c.has_left-back_left.result) c.progress-in-loop-3.ensures)
            c.in_ok-told-2.ensures.told i.9,
        notes_next i.0 x i.6.steps goes.0.steps (x.message, t.mark) t.bytes (noted_of c.args.output.now.transcript) (noted_of c.loop.output.transcript)
            (noted_of c.take.new.self) (noted_of c.turn.new.output.transcript) i.10 goes.1.1 c.in_ok-mail.ensures.noted t.noted,
      ),
      c.turn.ensures.out,
      omega (arith, small, more, c.leaves-left.ensures),
      c.give_credit-owed-in-loop.ensures.seat,
      reach_next c.args.term.now c.loop.term c.turn.new.term _ x.message _ _ i.1 _ _ _ _ i.6 t
          (λ d at. c.welcomes.ensures.welcome d at c.if-not-welcomes.false) c.loop.invariant.6,
      stands_next c.progress-in-loop-2.result.over c.loop.closed c.finish_once-closed-in-loop.result c.loop.term.progress.over c.turn.new.term.progress.over _ _
          _ _ c.loop.invariant.7 c.turn.ensures.going c.turn.ensures.silent t.turn.stays
          (ap (λ (p : ServerProgress). p.over) c.progress-in-loop-2.ensures) c.finish_once-closed-in-loop.ensures.closes,
      c.tell-in-loop.ensures.seat,
      c.tell-in-loop.ensures.to ∙ c.loop.invariant.9,
      c.in_ok-told-2.ensures.word,
      c.give_for.ensures.seat,
    )

pub returns-then-lefts-ge-SENDERS-clause-acted : goal.returns-then-lefts-ge-SENDERS-clause-acted
returns-then-lefts-ge-SENDERS-clause-acted g c =
    let i = c.loop.invariant.2 in
    let writer = known_writer g.W.Drain.contents g.W.Drain.told in
    let enough = c.if-lefts-ge-SENDERS.true in
    let kept = going_kept c.args.term.now c.loop.term _ (writer c.args.writer.now) (writer c.loop.writer)
    (writer c.finish_unless.new.writer) i.1 c.finish_unless.ensures.contents c.finish_unless.ensures.told i.6 in
    record {
      handled = i.0;
      puts = i.1;
      view = i.2;
      hand = i.3;
      lefts = omega (arith, enough, i.4);
      goes = kept.0;
      noted = notes_kept i.0 i.6.steps kept.0.steps _ _ kept.2 i.10;
      told = c.loop.told;
      word = c.loop.invariant.10;
      stands = λ run at. subst (λ (ms : List (Message × ServerMark)). StandsTold Back messages_of (Runs run) (λ r. term_stops r.progress) i.0 ms
          (term_stops c.loop.term.progress) c.loop.told) (sym kept.1) (i.9 run at);
    }

pub returns-then-lefts-ge-SENDERS-clause-finished : goal.returns-then-lefts-ge-SENDERS-clause-finished
returns-then-lefts-ge-SENDERS-clause-finished g c = stands_last c.loop.closed c.loop.term.progress.over _ _ _ c.loop.invariant.7 c.finish_unless.ensures.closes

pub returns-then-lefts-ge-SENDERS-clause-credits : goal.returns-then-lefts-ge-SENDERS-clause-credits
returns-then-lefts-ge-SENDERS-clause-credits g c =
    let i = c.loop.invariant.2 in
    (i.0, i.2, omega (arith, i.5))

pub returns-then-lefts-ge-SENDERS-clause-step_credits : goal.returns-then-lefts-ge-SENDERS-clause-step_credits
returns-then-lefts-ge-SENDERS-clause-step_credits g c =
    let i = c.loop.invariant.2 in
    (i.0, i.2, i.7)

pub returns-then-lefts-ge-SENDERS-clause-stops : goal.returns-then-lefts-ge-SENDERS-clause-stops
returns-then-lefts-ge-SENDERS-clause-stops g c = (c.loop.invariant.9, c.loop.invariant.8)

pub unreachable-requires : goal.unreachable-requires
unreachable-requires g c = false_true c.in-None.ensures.steps
