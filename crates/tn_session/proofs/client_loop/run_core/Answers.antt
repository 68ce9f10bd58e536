use Rattle.std.proofs.Common.{◌∙◌, ◌||◌, ◌&&◌, not, ap, refl, sym, [], ◌∷◌, ◌++◌, Option, List, map, subst, arith}
use Rattle.crossbeam_channel.specs.Claims.{view}
use Rattle.tn_cores.specs.{declared.client.{messages.{ClientMark.ClientMark, Told.Told}, progress.ClientProgress.ClientProgress}, client.Marks.Runs}
use Rattle.tn_cores.specs.streams.Known.{known_writer, known_writing}
use Rattle.tn_session.proofs.{CoreGoing.{told_first, told_next, told_kept, turned_kept, core_told}, Finishing.{open_none, stands_next, stands_last, stays_done}}
use Rattle.tn_session.proofs.{Going.{false_true, lefts_of-push, left_small, notes_next, notes_kept}, Mailbox.handled_more, Stopped.{left_next, stands_first}}
use Rattle.tn_session.specs.{CoreTurns.{TurnsTold, all_told, told_of}, Notes.{Noted, NotesAll, no_notes, noted_of}, Stops.{StandsTold, core_stops}}
use Rattle.tn_session.specs.declared.workers.mail.{Mail.Mail, Sender.TheVariants.Keys}
use Rattle.tn_session.proofs.client_loop.run_core.Goals as goal

pub next_mail-requires-clause-role : goal.next_mail-requires-clause-role
next_mail-requires-clause-role g c = (c.loop.invariant.1.0, ap (λ v. v.handled) c.loop.invariant.1.1)

pub loop-init : goal.loop-init
loop-init g c =
    let first = told_first c.args.core.now (known_writer g.W.Drain.contents g.W.Drain.told c.args.writer.now)
    (known_writer g.S.Drain.contents g.S.Drain.told c.args.screen.now) in (
      c.requires.mailbox.0,
      (
        [],
        ap (λ (o : Option (List Mail)). record (view c.args.pass.now) { handled = o }) c.requires.mailbox.1,
        refl,
        first.0,
        refl,
        λ run at. stands_first Keys all_told (Runs run) (λ r. core_stops r.progress) _ c.in_ok-told.told (core_stops c.args.core.now.progress)
            (c.in_ok-told.ensures.told ∙ c.stops.ensures ∙ ap core_stops c.progress.ensures),
        subst (λ (n : Noted). NotesAll [] (map (λ s. s.1) first.0.steps) no_notes n) (sym c.new-output.ensures.transcript) first.1,
      ),
      c.new-output.ensures.out,
      c.new-text.ensures.items,
      omega arith,
      open_none _,
      c.tell.ensures.seat,
      c.tell.ensures.to,
      c.in_ok-told.ensures.word,
    )

pub loop-preserved : goal.loop-preserved
loop-preserved g c =
    let i = c.loop.invariant.1 in
    let x = c.in_ok-mail.mail in
    let small = left_small x.message in
    let more = c.if-lefts-ge-SENDERS.false in
    let T : Told → Type 0 = λ m. TurnsTold c.loop.core m (known_writing g.W.Drain.contents g.W.Drain.told c.loop.writer c.turn.new.writer)
    (known_writing g.S.Drain.contents g.S.Drain.told c.next_mail.new.screen c.turn.new.screen) (noted_of c.next_mail.new.transcript)
    (noted_of c.turn.new.output.transcript) c.turn.new.core in
    let writer = known_writer g.W.Drain.contents g.W.Drain.told in
    let screen = known_writer g.S.Drain.contents g.S.Drain.told in
    let turned = turned_kept c.loop.core c.turn.new.core (told_of x) (known_writing g.W.Drain.contents g.W.Drain.told c.loop.writer c.turn.new.writer)
    (screen c.loop.screen) (screen c.next_mail.new.screen) (screen c.turn.new.screen) (noted_of c.next_mail.new.transcript)
    (noted_of c.turn.new.output.transcript) c.next_mail.ensures.shown c.next_mail.ensures.told (subst T c.told_of.ensures c.turn.ensures.turned) in
    let told = told_next c.args.core.now c.loop.core c.turn.new.core i.0 x (writer c.args.writer.now) (writer c.loop.writer) (writer c.turn.new.writer)
    (writer c.finish_once-closed.new.writer) (screen c.args.screen.now) (screen c.loop.screen) (screen c.turn.new.screen) (noted_of c.next_mail.new.transcript)
    (noted_of c.turn.new.output.transcript) c.finish_once-closed.ensures.contents c.finish_once-closed.ensures.told i.3 turned in
    let left = left_next Keys i.0 x c.loop.keys_left c.has_left-keys_left.result i.4 c.has_left-keys_left.ensures in (
      c.next_mail.ensures.seat,
      (
        i.0 ++ x ∷ [],
        handled_more (view c.args.pass.now) (view c.loop.pass) (view c.next_mail.new.pass) i.0 x i.1 c.in_ok-mail.ensures.handled,
        omega (arith, lefts_of-push i.0 x, c.leaves-left.ensures, i.2),
        told.0,
        left,
        core_told c.args.core.now c.loop.core c.turn.new.core i.0 x _ _ _ _ _ _ _ _ c.loop.told c.is_due.result c.in_ok-told-2.told c.has_left-keys_left.result
            i.3 turned told.0 told.1.0 left (c.is_due.ensures ∙ ap
            (λ (p : ClientProgress). core_stops p && not c.has_left-keys_left.result) c.progress-in-loop-2.ensures) c.in_ok-told-2.ensures.told i.5,
        notes_next i.0 x i.3.steps told.0.steps (told_of x, turned.mark) turned.bytes no_notes (noted_of c.loop.output.transcript) (noted_of c.next_mail.new.transcript)
            (noted_of c.turn.new.output.transcript) i.6 told.1.1 c.in_ok-mail.ensures.noted turned.noted,
      ),
      c.turn.ensures.out,
      c.turn.ensures.text,
      omega (arith, small, more, c.leaves-left.ensures),
      stands_next c.closes.result c.loop.closed c.finish_once-closed.result (c.loop.core.progress.over || c.loop.core.progress.closed)
          (c.turn.new.core.progress.over || c.turn.new.core.progress.closed) _ _ _ _ c.loop.invariant.5 c.turn.ensures.going c.turn.ensures.silent
          (stays_done c.loop.core.progress.over c.loop.core.progress.closed _ _ c.turn.ensures.turned.turn.stays c.turn.ensures.closed)
          (c.closes.ensures ∙ ap (λ (p : ClientProgress). p.over || p.closed) c.progress-in-loop.ensures) c.finish_once-closed.ensures.closes,
      c.tell-in-loop.ensures.seat,
      c.tell-in-loop.ensures.to ∙ c.loop.invariant.7,
      c.in_ok-told-2.ensures.word,
    )

pub returns-then-lefts-ge-SENDERS-clause-acted : goal.returns-then-lefts-ge-SENDERS-clause-acted
returns-then-lefts-ge-SENDERS-clause-acted g c =
    let i = c.loop.invariant.1 in
    let enough = c.if-lefts-ge-SENDERS.true in
    let writer = known_writer g.W.Drain.contents g.W.Drain.told in
    let screen = known_writer g.S.Drain.contents g.S.Drain.told in
    let kept = told_kept c.args.core.now c.loop.core _ (writer c.args.writer.now) (writer c.loop.writer) (writer c.finish_unless.new.writer)
    (screen c.args.screen.now) (screen c.loop.screen) c.finish_unless.ensures.contents c.finish_unless.ensures.told i.3 in
    record {
      handled = i.0;
      view = i.1;
      lefts = omega (arith, enough, i.2);
      goes = kept.0;
      noted = notes_kept i.0 i.3.steps kept.0.steps _ _ kept.2 i.6;
      told = c.loop.told;
      word = c.loop.invariant.8;
      stands = λ run at. subst (λ (ms : List (Told × ClientMark)). StandsTold Keys all_told (Runs run) (λ r. core_stops r.progress) i.0 ms
          (core_stops c.loop.core.progress) c.loop.told) (sym kept.1) (i.5 run at);
    }

pub returns-then-lefts-ge-SENDERS-clause-finished : goal.returns-then-lefts-ge-SENDERS-clause-finished
returns-then-lefts-ge-SENDERS-clause-finished g c = stands_last c.loop.closed
    (c.loop.core.progress.over || c.loop.core.progress.closed) _ _ _ c.loop.invariant.5 c.finish_unless.ensures.closes

pub returns-then-lefts-ge-SENDERS-clause-stops : goal.returns-then-lefts-ge-SENDERS-clause-stops
returns-then-lefts-ge-SENDERS-clause-stops g c = (c.loop.invariant.7, c.loop.invariant.6)

pub unreachable-requires : goal.unreachable-requires
unreachable-requires g c = false_true c.in-None.ensures.steps
