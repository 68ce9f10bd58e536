-- A whole session: its passes joined, and what its threads did.
use Rattle.std.proofs.Common.{◌≡◌, ℕ, Bool, true, false, ◌&&◌, List, [], ◌∷◌, ◌++◌, Option, Some, None, refl, sym, ap, ◌∙◌, ⊎_elim, inl, inr, map, subst}
use Rattle.std.proofs.Common.{append-nil, append_assoc, arith}
use Rattle.std.specs.{Io.KnownBytes.Appends, List.FoldsTo}
use Rattle.tn_discipline.specs.{Canon.Canon, declared.reads.Entry.Entry}
use Rattle.tn_jobs.specs.{Jobs.Jobs, declared.{held_jobs.JobId.JobId, reactions.Reaction.Reaction}}
use Rattle.tn_nvt.specs.Spelling.{spells}
use Rattle.tn_server.specs.{Replies.items_said, declared.openings.Approach.Approach}
use Rattle.tn_session.proofs.{Going.{false_true, from_to}, Lefts.none_over, Mailbox.all_woven, Sent.{NoLeft, Sent, no_left-append, sent_by, reader_sent}}
use Rattle.tn_session.proofs.{Stopped.{was_left, stopped_told}, lemmas.{Noting.{IsUpTo, same_steps}, Sessions.server_stepped, workers.Turning.is_close}}
use Rattle.tn_session.specs.workers.{Acts.JobActs, Mailbox.{Interleaves, from, four, sender, union, nobody, everyone, with_handled, mail, Total}}
use Rattle.tn_session.specs.workers.{Reader.ReaderSends, Stepping.{BackJobs, AreSteps, step_said}, Stops.StopHand, Talk.{IsJob, IsTalk, Closes, turns_said}}
use Rattle.tn_session.specs.{workers.Turning.{Holds, queue_of}, declared.workers.{channels.View.View, mail.{Mail.Mail, Sender.TheVariants.{Net, Desk, Back}}}}
use Rattle.tn_session.specs.{workers.EntryChannel.EntryHand, Facts.{SessionJobs, SessionResult, SessionViews}, Joining.{handler, AreSettled}}
use Rattle.tn_session.specs.{Notes.{Note, Noted, NotesAll, no_notes, notes}, Session.{IsNoted, IsOpening, IsRun, OpensOrTurns, brings, brought_by, report_of}}
use Rattle.tn_session.specs.{Stops.{IsTold, term_stops}, Transcripts.{Exchange, IsStep, Transcribes, exchange_of, total}}
use Rattle.tn_session.specs.Turns.{HandlesAll, is_marked_whole, is_over, messages_of, says}
use Rattle.tn_cores.specs.{queue.Queue.{putter, taker, joined_hands, both_hands, no_hand, LeftOver}, streams.Writing.max_writes, Pieces.bytes_in}
use Rattle.tn_cores.specs.{streams.Known.{KnownReader, KnownWriter}, server.Marks.{Turns, run_after_opening, all_whole, no_writes_failed}}
use Rattle.tn_cores.specs.{server.Run.{Run, start, opening}, declared.server.{messages.ServerMark.ServerMark, progress.ServerProgress.ServerProgress}}
use Rattle.tn_cores.specs.declared.{messages.Message.{Message, TheVariants.{Take, Refused, Left}}, server.terminal.Term.Term}
use Rattle.tn_session.specs.Session as of_server
use Rattle.tn_cores.proofs.lemmas.streams.{Writing.appends_more, Telling.accounts_both}

-- the passes are joined and cut again

all_joined : (v n d e p q r : View) (h a b c : List Mail) → v ≡ handler h → n ≡ sender Net a → d ≡ sender Desk b → e ≡ sender Back c → p ≡ union v n
    → q ≡ union p d → r ≡ union q e → r ≡ record { handled = Some h; net = Some a; desk = Some b; back = Some c; keys = Some [] }
all_joined v n d e p q r h a b c ev en ed ee ep eq er =
    er ∙ (λ i. union ((eq ∙ (λ j. union ((ep ∙ (λ k. union (ev k) (en k))) j) (ed j))) i) (ee i))

both_joined : (v w u : EntryHand) (p t : List (Option Entry)) → v ≡ putter p → w ≡ taker t → u ≡ joined_hands v w → u ≡ record { put = Some p; taken = Some t }
both_joined v w u p t ev ew eu = eu ∙ (λ i. joined_hands (ev i) (ew i))

pub settles : (pass net desk back : View) (hand took : EntryHand) (p₁ p₂ p₃ p₄ n' p₅ d' p₆ b' t' : View) (j k l m : EntryHand) (told told' : StopHand)
    → p₁ ≡ union pass net → p₂ ≡ union p₁ desk → p₃ ≡ union p₂ back → p₄ ≡ p₃ → (items : List Mail) × Total p₃ items
    → j ≡ joined_hands hand took → k ≡ j → (items : List (Option Entry)) × LeftOver j items
    → n' ≡ record nobody { net = p₄.net } → p₅ ≡ record p₄ { net = None }
    → d' ≡ record nobody { desk = p₅.desk } → p₆ ≡ record p₅ { desk = None }
    → b' ≡ record nobody { back = p₆.back } → t' ≡ record p₆ { back = None }
    → l ≡ record k { taken = None } → m ≡ record no_hand { taken = k.taken } → told' ≡ told
    → AreSettled (record { net = net; desk = desk; back = back; term = pass; put = hand; took = took; told = told })
    (record { net = n'; desk = d'; back = b'; term = t'; put = l; took = m; told = told' })
settles pass net desk back hand took p₁ p₂ p₃ p₄ n' p₅ d' p₆ b' t' j k l m told told' e₁ e₂ e₃ e₄ held ej ek rest en e₅ ed e₆ eb et el em es h a b c x t epass
    enet edesk eback ehand etook =
    let whole = all_joined pass net desk back p₁ p₂ p₃ h a b c epass enet edesk eback e₁ e₂ e₃ in
    let same = e₄ ∙ whole in
    let fifth : p₅ ≡ record { handled = Some h; net = None; desk = Some b; back = Some c; keys = Some [] } =
    e₅ ∙ ap (λ (v : View). record v { net = None }) same in
    let sixth : p₆ ≡ record { handled = Some h; net = None; desk = None; back = Some c; keys = Some [] } =
    e₆ ∙ ap (λ (v : View). record v { desk = None }) fifth in
    let both = both_joined hand took j x t ehand etook ej in
    let kept = ek ∙ both in (
      en ∙ ap (λ (v : View). record nobody { net = v.net }) same,
      ed ∙ ap (λ (v : View). record nobody { desk = v.desk }) fifth,
      eb ∙ ap (λ (v : View). record nobody { back = v.back }) sixth,
      et ∙ ap (λ (v : View). record v { back = None }) sixth,
      el ∙ ap (λ (v : EntryHand). record v { taken = None }) kept,
      em ∙ ap (λ (v : EntryHand). record no_hand { taken = v.taken }) kept,
      all_woven p₃ h a b c [] whole held,
      (rest.0, rest.1 x t (ap (λ (v : EntryHand). v.put) both) (ap (λ (v : EntryHand). v.taken) both)),
      es,
    )

turns_stay : (id : JobId) (turns : List (Entry × Reaction)) → NoLeft (turns_said id turns)
turns_stay id [] = tt
turns_stay id (t ∷ ts) = (refl, (refl, turns_stay id ts))

steps_stay : (ss : List (JobId × Reaction)) → NoLeft (map step_said ss)
steps_stay [] = tt
steps_stay (s ∷ ss) = (refl, steps_stay ss)

pub record DeskSent (v : View) (w : EntryHand) : Type 0 where
  pub sent : Sent Desk v
  pub taken : List (Option Entry)
  pub took : w ≡ taker taken

pub desk_sent : {J : Type 0} (id : JobId) (fresh : J → Type 0) (acts : JobActs J) (v : View) (w : EntryHand) → IsTalk {J = J} id fresh acts v w → DeskSent v w
desk_sent id fresh acts v w talked = closed (λ e. acts.refuses talked.2 (Some e)) talked.0 talked.5
  where
    closed : (refuses : Entry → Type 0) (turns : List (Entry × Reaction)) → Closes id refuses turns v w → DeskSent v w
    closed refuses turns c =
        let said = turns_said id turns in
        let stay = turns_stay id turns in
        ⊎_elim
        (λ x. record {
          sent = sent_by Desk (said ++ Take ∷ []) _ v (no_left-append said (Take ∷ []) stay (refl, tt))
              (sym (append_assoc said (Take ∷ []) (Left ∷ []))) x.0;
          taken = _;
          took = x.1;
        })
        (λ y. ⊎_elim
        (λ x. record { sent = sent_by Desk said _ v stay refl x.0; taken = _; took = x.1 })
        (λ x. record {
          sent = sent_by Desk (said ++ Take ∷ Refused ∷ []) _ v (no_left-append said (Take ∷ Refused ∷ []) stay (refl, (refl, tt)))
              (sym (append_assoc said (Take ∷ Refused ∷ []) (Left ∷ []))) x.1;
          taken = _;
          took = x.2;
        })
        y)
        c

pub back_sent : {J : Type 0} (began : ℕ → J → Type 0) (acts : JobActs J) (jobs : BackJobs) (stopped : Bool) (v : View)
    → AreSteps {J = J} began acts jobs stopped v → Sent Back v
back_sent began acts jobs stopped v s =
    let said = map step_said s.0 in
    let stay = steps_stay s.0 in
    let P : List Message → Type 0 = λ ms. v ≡ sender Back (map (mail Back) (said ++ ms)) in
    ⊎_elim
    (λ e. sent_by Back said (said ++ Left ∷ []) v stay refl (subst P e s.2))
    (λ e. sent_by Back (said ++ Refused ∷ []) (said ++ Refused ∷ Left ∷ []) v (no_left-append said (Refused ∷ []) stay (refl, tt))
    (sym (append_assoc said (Refused ∷ []) (Left ∷ []))) (subst P e s.2))
    (is_close began acts stopped s.0 s.1 s.6 s.8)

-- the bytes that were written, with the opening messages
wrote_all : (b : Bool) (words front back bytes rest sends : List ℕ) (x y z : Option (List ℕ)) (whole : Bool) → words ≡ front ++ back → (b ≡ true → back ≡ [])
    → Appends x y front → Appends y z bytes → (b ≡ false → bytes ≡ []) → sends ≡ words ++ (bytes ++ rest) → (whole ≡ true → rest ≡ []) → (unwritten : List ℕ)
    × Appends x z (front ++ bytes) × (sends ≡ (front ++ bytes) ++ unwritten) × ((b && whole) ≡ true → unwritten ≡ [])
wrote_all true words front back bytes rest sends x y z whole split none one two idle is all =
    let same : words ≡ front = split ∙ ap (λ (bs : List ℕ). front ++ bs) (none refl) ∙ append-nil front in
    (rest, appends_more x y z front bytes one two, is ∙ ap (λ (bs : List ℕ). bs ++ (bytes ++ rest)) same ∙ sym (append_assoc front bytes rest), all)
wrote_all false words front back bytes rest sends x y z whole split none one two idle is all = (
  back ++ rest,
  appends_more x y z front bytes one two,
  is ∙ ap (λ (bs : List ℕ). words ++ (bs ++ rest)) (idle refl) ∙ ap (λ (bs : List ℕ). bs ++ rest) split ∙ append_assoc front back rest
      ∙ ap (λ (bs : List ℕ). bs ++ (back ++ rest)) (sym (append-nil front) ∙ ap (λ (bs : List ℕ). front ++ bs) (sym (idle refl))),
  λ e. absurd (false_true e),
)

-- the run as it begins, and what was written by then
opened_up : (b : Bool) (begin : Run) (words front back : List ℕ) (x y : Option (List ℕ)) → says begin ≡ words → words ≡ front ++ back → (b ≡ true → back ≡ [])
    → (b ≡ false → is_over begin ≡ true) → IsUpTo Turns says is_over is_marked_whole begin front
opened_up true begin words front back x y is split none off =
    let same : front ≡ says begin = sym (append-nil front) ∙ ap (λ (bs : List ℕ). front ++ bs) (sym (none refl)) ∙ sym split ∙ sym is in
    (([], append-nil front ∙ same), inl same)
opened_up false begin words front back x y is split none off = ((back, sym split ∙ sym is), inr (off refl))

-- the transcript, as it was noted
noted_all : (begin last : Run) (steps : List ((Message × ServerMark) × List ℕ)) (marked : List (Message × ServerMark)) (handled : List Mail) (opened : Noted)
    (front : List ℕ) (noted : Noted) → FoldsTo (IsStep Turns says is_over is_marked_whole) begin steps last → map (λ s. s.0) steps ≡ marked
    → map (λ m. m.0) marked ≡ messages_of handled → IsUpTo Turns says is_over is_marked_whole begin front
    → notes opened ≡ record { took = None; wrote = front } ∷ [] → NotesAll handled (map (λ s. s.1) steps) opened noted
    → (transcript : List Exchange) × IsNoted begin marked last (front ++ total steps) handled noted transcript
noted_all begin last steps marked handled opened front noted goes of_steps messages up first all =
    let of_message : Message × ServerMark → Message = λ m. m.0 in
    let noted_steps = same_steps of_message (λ (x : Mail). x.message) bytes_in steps all.more handled
    (mapped of_message steps ∙ ap (map of_message) of_steps ∙ messages) all.took all.wrote in
    let transcript : List Exchange = record { read = []; wrote = front } ∷ map (λ s. record { read = bytes_in s.0.0; wrote = s.1 }) steps in
    let by_marks : List (Message × ServerMark) → Type 0 = λ ms. Transcribes OpensOrTurns brings of_server.says begin (None ∷ map (λ m. Some m) ms) last
    (front ++ total steps) transcript in (
      transcript,
      record {
        as_noted = ap (λ (l : List Exchange). record { read = []; wrote = front } ∷ l) noted_steps
            ∙ sym (ap (map (exchange_of brought_by)) (all.noted ∙ ap (λ (l : List Note). l ++ all.more) first));
        took = ap (map (λ (n : Note). n.took)) (all.noted ∙ ap (λ (l : List Note). l ++ all.more) first) ∙ ap (λ (l : List (Option Mail)). None ∷ l) all.took;
        transcribed = subst by_marks of_steps (server_stepped begin last steps front goes up);
      },
    )
  where
    mapped : (f : Message × ServerMark → Message) (ss : List ((Message × ServerMark) × List ℕ)) → map (λ s. f s.0) ss ≡ map f (map (λ s. s.0) ss)
    mapped f [] = refl
    mapped f (s ∷ ss) = ap (λ (l : List Message). f s.0 ∷ l) (mapped f ss)

no_puts : (b : Bool) (canon : Canon) (approach : Approach) (jobs : Jobs) → (run_after_opening b (start canon approach jobs)).puts ≡ []
no_puts true canon approach jobs = refl
no_puts false canon approach jobs = refl

same_history : (b : Bool) (canon : Canon) (approach : Approach) (jobs : Jobs) → (run_after_opening b (start canon approach jobs)).history ≡ opening canon approach
same_history true canon approach jobs = refl
same_history false canon approach jobs = refl

-- all of a session that ran
pub scheduled : {J : Type 0} (facts : JobActs J) (jobs : SessionJobs J) (stopped : Bool) (words : List ℕ) (reader : KnownReader) (x y z : KnownWriter)
    (noted₀ : Noted) (term mid last : Term) (pass₀ : View) (hand₀ : EntryHand) (ended : SessionViews) (result : SessionResult)
    → pass₀ ≡ handler [] → hand₀ ≡ putter [] → IsOpening term words (from_to x y) no_notes noted₀ mid
    → HandlesAll mid pass₀ ended.term hand₀ ended.put (from_to y z) noted₀ result.noted ended.told last
    → ReaderSends Net (Some jobs.first) false reader ended.net → IsTalk {J = J} jobs.first (IsJob jobs.job) facts ended.desk ended.took
    → AreSteps {J = J} (Holds jobs.queue) facts (queue_of jobs.tostop jobs.queue) stopped ended.back → (stopped ≡ true → ended.told ≡ putter [] → ⊥)
    → AreSettled ended result.views → result.report ≡ report_of last.progress
    → IsRun {J = J} facts jobs term words reader (from_to x z) result
scheduled {J} facts jobs stopped words reader x y z noted₀ term mid last pass₀ hand₀ ended result ep eh o acted sn talked stepped never settled er settings
    table at ew =
    let canon = settings.canon in
    let approach = settings.approach in
    let begin = run_after_opening o.written (start canon approach table) in
    let g = acted.goes.leads begin (o.leads (start canon approach table) at) in
    let ns = reader_sent Net (Some jobs.first) false reader ended.net sn in
    let ds = desk_sent jobs.first (IsJob jobs.job) facts ended.desk ended.took talked in
    let bs = back_sent (Holds jobs.queue) facts (queue_of jobs.tostop jobs.queue) stopped ended.back stepped in
    let puts : g.0.puts ≡ acted.puts = g.3 ∙ ap (λ (ps : List (Option Entry)). ps ++ acted.puts) (no_puts o.written canon approach table) in
    let view : ended.term ≡ handler acted.handled = acted.view ∙ ap (λ (v : View). with_handled v acted.handled) ep in
    let all = settled acted.handled ns.mails ds.sent.mails bs.mails acted.puts ds.taken view ns.is ds.sent.is bs.is (acted.hand [] eh) ds.took in
    let none = none_over acted.handled all.6.0 ns.mails ds.sent.mails bs.mails [] all.6.1 ns.ends ds.sent.ends bs.ends tt
    (omega (arith, ns.one, ds.sent.one, bs.one, acted.lefts)) in
    let sends : spells (items_said g.0.history) ≡ words ++ (acted.goes.bytes ++ g.4) =
    g.5 ∙ ap (λ (bytes : List ℕ). bytes ++ (acted.goes.bytes ++ g.4))
    (ap (λ h. spells (items_said h)) (same_history o.written canon approach table) ∙ sym ew) in
    let w = wrote_all o.written words o.wrote.front o.wrote.back acted.goes.bytes g.4 (spells (items_said g.0.history)) x.bytes y.bytes z.bytes
    (all_whole acted.goes.marked) o.wrote.whole o.wrote.all o.wrote.wrote acted.goes.wrote (λ e. acted.goes.idle (o.over e)) sends g.6 in
    let at_first : says begin ≡ words = ap (λ h. spells (items_said h)) (same_history o.written canon approach table) ∙ sym ew in
    let up = opened_up o.written begin words o.wrote.front o.wrote.back x.bytes y.bytes at_first o.wrote.whole o.wrote.all
    (λ e. sym (ap (λ (p : ServerProgress). p.over) (o.leads (start canon approach table) at).progress) ∙ o.over e) in
    let transcript = noted_all begin g.0 acted.goes.steps acted.goes.marked acted.handled noted₀ o.wrote.front result.noted g.7 acted.goes.of_steps
    acted.goes.whole up (ap notes o.wrote.noted) acted.noted in
    let all_bytes : acted.goes.bytes ≡ total acted.goes.steps = acted.goes.all_bytes in
    let N : View → Type 0 = λ v. ReaderSends Net (Some jobs.first) false reader v in
    let B : View → Type 0 = λ v. AreSteps {J = J} (Holds jobs.queue) facts (queue_of jobs.tostop jobs.queue) stopped v in
    let woven : Interleaves acted.handled (four ns.mails ds.sent.mails bs.mails []) =
    λ r. ap (from r) (sym (append-nil acted.handled) ∙ ap (λ (l : List Mail). acted.handled ++ l) (sym none)) ∙ all.6.1 r in
    let stands = acted.stands begin (o.leads (start canon approach table) at) in
    let left = stands.gone (was_left Back acted.handled bs.mails (woven Back) bs.one) in
    let T : Bool → StopHand → Type 0 = λ b v. IsTold b v in (
      record {
        from_net = ns.mails;
        from_desk = ds.sent.mails;
        from_back = bs.mails;
        handled = acted.handled;
        net_is = all.0;
        desk_is = all.1;
        back_is = all.2;
        term_is = ap (λ (v : View). v.handled) all.3;
        woven = woven;
        read = subst N (ns.is ∙ sym all.0) sn;
        wrote_opening = o.written;
        marked = acted.goes.marked;
        messages = acted.goes.whole;
        run = g.0;
        runs = g.1;
        written = o.wrote.front ++ acted.goes.bytes;
        unwritten = w.0;
        appended = w.1;
        sends = w.2;
        all_written = w.3;
        tells = accounts_both max_writes o.written (no_writes_failed acted.goes.marked) x.calls y.calls z.calls o.tells acted.goes.tells;
        put_is = all.4 ∙ ap putter (sym puts);
        taken = ds.taken;
        took_is = all.5;
        took_first = (all.7.0, all.7.1 ∙ sym puts);
        talked = subst (λ (u : View × EntryHand). IsTalk {J = J} jobs.first (IsJob jobs.job) facts u.0 u.1)
            (λ i. ((ds.sent.is ∙ sym all.1) i, (ds.took ∙ sym all.5) i)) talked;
        stopped = stopped;
        stepped = subst B (bs.is ∙ sym all.2) stepped;
        back_left = left.0;
        told = subst (λ (v : StopHand). T (term_stops left.0.by_then.progress) v) (sym all.8) (subst (λ (b : Bool). T b ended.told) left.1 acted.word);
        stopped_for = λ on. sym left.1 ∙ stopped_told acted.told stopped ended.told acted.word never on;
        report_is = er ∙ ap report_of g.2.progress;
      },
      transcript.0,
      subst (λ (bytes : List ℕ). IsNoted begin acted.goes.marked g.0 (o.wrote.front ++ bytes) acted.handled result.noted transcript.0)
          (sym all_bytes) transcript.1,
    )

-- the passes before anything was sent
pub ready_views : (v₀ v₁ v₂ v₃ n d k : View) → v₀ ≡ everyone → v₁ ≡ record v₀ { net = None } → n ≡ record nobody { net = v₀.net }
    → v₂ ≡ record v₁ { desk = None } → d ≡ record nobody { desk = v₁.desk } → v₃ ≡ record v₂ { back = None } → k ≡ record nobody { back = v₂.back }
    → (v₃ ≡ handler []) × (n ≡ sender Net []) × (d ≡ sender Desk []) × (k ≡ sender Back [])
ready_views v₀ v₁ v₂ v₃ n d k e₀ e₁ en e₂ ed e₃ ek =
    let a₁ = e₁ ∙ ap (λ (v : View). record v { net = None }) e₀ in
    let a₂ = e₂ ∙ ap (λ (v : View). record v { desk = None }) a₁ in (
      e₃ ∙ ap (λ (v : View). record v { back = None }) a₂,
      en ∙ ap (λ (v : View). record nobody { net = v.net }) e₀,
      ed ∙ ap (λ (v : View). record nobody { desk = v.desk }) a₁,
      ek ∙ ap (λ (v : View). record nobody { back = v.back }) a₂,
    )

pub ready_hands : (v₀ v₁ t : EntryHand) → v₀ ≡ both_hands → v₁ ≡ record v₀ { taken = None } → t ≡ record no_hand { taken = v₀.taken } → (v₁ ≡ putter [])
    × (t ≡ taker [])
ready_hands v₀ v₁ t e₀ e₁ et = (e₁ ∙ ap (λ (v : EntryHand). record v { taken = None }) e₀, et ∙ ap (λ (v : EntryHand). record no_hand { taken = v.taken }) e₀)
