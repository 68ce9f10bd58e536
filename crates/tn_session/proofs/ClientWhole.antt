-- A whole client session: its passes joined, and what its threads did.
use Rattle.std.proofs.Common.{◌≡◌, ℕ, Bool, true, false, refl, List, [], ◌∷◌, ◌++◌, map, Some, None, sym, ap, ◌∙◌, subst, append-nil, arith}
use Rattle.std.specs.List.{FoldsTo}
use Rattle.tn_cores.proofs.lemmas.client.{Bringing.{in_order, keys-brought}, Ending.fault_cause}
use Rattle.tn_cores.specs.client.{Bringing.{TakesInOrder, inputs_brought, brought, brought_from}, Marks.{Turns, all_written, all_whole}, Run.{Run, start}}
use Rattle.tn_cores.specs.declared.client.{machine.Core.Core, messages.{ClientMark.ClientMark, Told.Told}, progress.ClientProgress.ClientProgress}
use Rattle.tn_cores.specs.{declared.faults.SessionFault.SessionFault, queue.Queue.putter, streams.Known.{KnownReader, KnownTyping, KnownWriting}}
use Rattle.tn_cores.specs.declared.client.messages.Origin.TheVariants as origin
use Rattle.tn_session.proofs.{Brought.{keys_brought, requests_brought, net_all, net_brought}, ClientCauses.{read_cause, write_cause}, CoreGoing.unwritten}
use Rattle.tn_session.proofs.{Going.false_true, Lefts.none_over, Mailbox.all_woven, Sent.reader_sent, Stopped.{was_left, stopped_told}}
use Rattle.tn_session.proofs.lemmas.{Sessions.{client_said, client_stepped, client_reads, as_read}, Noting.same_steps}
use Rattle.tn_session.specs.Client as of_client
use Rattle.tn_session.specs.{Client.{core_view, AreTwoSettled, IsClientRun, brings, brought_by, client_report}, Facts.ClientResult, Stops.IsTold}
use Rattle.tn_session.specs.{CoreTurns.{CoreHandles, all_told, is_marked_written, is_over, says, told_of}, Notes.{Noted, NotesAll, no_notes}}
use Rattle.tn_session.specs.{Transcripts.{Exchange, IsStep, Transcribes, bytes_sent, came_by, exchange_of, total}, declared.parties.Report.Report}
use Rattle.tn_session.specs.workers.{Mailbox.{Interleaves, from, four, sender, union, nobody, everyone, with_handled, Total}, Reader.{ReaderSends, TypingSends}}
use Rattle.tn_session.specs.declared.workers.{channels.View.View, mail.{Mail.Mail, Sender.TheVariants.{Net, Desk, Back, Keys}}}
use Rattle.tn_cores.specs.declared.faults.Ended.TheVariants as ended
use Rattle.tn_cores.specs.declared.faults.SessionFault.TheVariants as fault

-- the passes before anything was sent
pub ready_two : (v₀ v₁ v₂ n k : View) → v₀ ≡ everyone → v₁ ≡ record v₀ { net = None } → n ≡ record nobody { net = v₀.net } → v₂ ≡ record v₁ { keys = None }
    → k ≡ record nobody { keys = v₁.keys } → (v₂ ≡ core_view []) × (n ≡ sender Net []) × (k ≡ sender Keys [])
ready_two v₀ v₁ v₂ n k e₀ e₁ en e₂ ek =
    let a₁ = e₁ ∙ ap (λ (v : View). record v { net = None }) e₀ in (
      e₂ ∙ ap (λ (v : View). record v { keys = None }) a₁,
      en ∙ ap (λ (v : View). record nobody { net = v.net }) e₀,
      ek ∙ ap (λ (v : View). record nobody { keys = v.keys }) a₁,
    )

-- the passes are joined and cut again
pub settles_two : (pass net keys p₁ p₂ p₃ n' p₄ k' p₅ : View)
    → p₁ ≡ union pass net → p₂ ≡ union p₁ keys → p₃ ≡ p₂ → (items : List Mail) × Total p₂ items
    → n' ≡ record nobody { net = p₃.net } → p₄ ≡ record p₃ { net = None }
    → k' ≡ record nobody { keys = p₄.keys } → p₅ ≡ record p₄ { keys = None }
    → AreTwoSettled pass net keys n' k' p₅
settles_two pass net keys p₁ p₂ p₃ n' p₄ k' p₅ e₁ e₂ e₃ held en e₄ ek e₅ h a d epass enet ekeys =
    let whole : p₂ ≡ record { handled = Some h; net = Some a; desk = Some []; back = Some []; keys = Some d } =
    e₂ ∙ (λ i. union ((e₁ ∙ (λ j. union (epass j) (enet j))) i) (ekeys i)) in
    let same = e₃ ∙ whole in
    let fourth : p₄ ≡ record { handled = Some h; net = None; desk = Some []; back = Some []; keys = Some d } =
    e₄ ∙ ap (λ (v : View). record v { net = None }) same in (
      en ∙ ap (λ (v : View). record nobody { net = v.net }) same,
      ek ∙ ap (λ (v : View). record nobody { keys = v.keys }) fourth,
      e₅ ∙ ap (λ (v : View). record v { keys = None }) fourth,
      all_woven p₂ h a [] [] d whole held,
    )

-- if nothing failed, all was written
all_out : (marked : List (Told × ClientMark)) (rest : List ℕ) → (all_written marked ≡ true → rest ≡ []) → (all_whole marked ≡ false → false ≡ true) → rest ≡ []
all_out marked rest all never = by (all_written marked) refl
  where
    by : (b : Bool) → all_written marked ≡ b → rest ≡ []
    by true e = all e
    by false e = absurd (false_true (never (unwritten marked e)))

-- the transcript, as it was noted
client_noted : (begin last : Run) (steps : List ((Told × ClientMark) × List ℕ)) (marked : List (Told × ClientMark)) (handled : List Mail) (bytes : List ℕ)
    (noted : Noted)
    → FoldsTo (IsStep Turns says is_over is_marked_written) begin steps last → map (λ s. s.0) steps ≡ marked → map (λ m. m.0) marked ≡ all_told handled
    → bytes ≡ total steps → says begin ≡ [] → (all : NotesAll handled (map (λ s. s.1) steps) no_notes noted)
    → (transcript : List Exchange) × (transcript ≡ map (exchange_of brought_by) all.more) × Transcribes Turns brings says begin marked last bytes transcript
client_noted begin last steps marked handled bytes noted goes of_steps messages whole silent all =
    let of_message : Told × ClientMark → Told = λ m. m.0 in
    let transcript : List Exchange = map (λ s. record { read = brings s.0; wrote = s.1 }) steps in
    let by_marks : List (Told × ClientMark) → Type 0 = λ ms. Transcribes Turns brings of_client.says begin ms last (total steps) transcript in
    let by_bytes : List ℕ → Type 0 = λ bs. Transcribes Turns brings of_client.says begin marked last bs transcript in (
      transcript,
      same_steps of_message told_of (λ (t : Told). brought_from origin.Net t.from t.message) steps all.more handled
          (mapped of_message steps ∙ ap (map of_message) of_steps ∙ messages) all.took all.wrote,
      subst by_bytes (sym whole) (subst by_marks of_steps (client_stepped begin last steps goes silent)),
    )
  where
    mapped : (f : Told × ClientMark → Told) (ss : List ((Told × ClientMark) × List ℕ)) → map (λ s. f s.0) ss ≡ map f (map (λ s. s.0) ss)
    mapped f [] = refl
    mapped f (s ∷ ss) = ap (λ (l : List Told). f s.0 ∷ l) (mapped f ss)

-- all of a client's session that ran
pub client_ran : (core last : Core) (stopped : Bool) (keys_reader : KnownTyping) (net_reader : KnownReader) (writer screen : KnownWriting)
    (pass₀ pass₁ net keys : View) (result : ClientResult)
    → pass₀ ≡ core_view [] → (acted : CoreHandles core pass₀ pass₁ writer screen result.noted result.told last) → ReaderSends Net None false net_reader net
    → TypingSends Keys None stopped keys_reader keys
    → (stopped ≡ true → result.told ≡ putter [] → ⊥)
    → AreTwoSettled pass₁ net keys result.net result.keys result.core → result.report ≡ client_report last.progress
    → IsClientRun core keys_reader net_reader writer screen result
client_ran core last stopped keys_reader net_reader writer screen pass₀ pass₁ net keys result ep acted sn sk never settled er window at =
    let begin = start window.width window.height window.limit in
    let g = acted.goes.leads begin at in
    let ns = reader_sent Net None false net_reader net sn in
    let ks = reader_sent Keys None stopped keys_reader.reader keys sk.0 in
    let view : pass₁ ≡ core_view acted.handled = acted.view ∙ ap (λ (w : View). with_handled w acted.handled) ep in
    let s = settled acted.handled ns.mails ks.mails view ns.is ks.is in
    let none = none_over acted.handled s.3.0 ns.mails [] [] ks.mails s.3.1 ns.ends tt tt ks.ends (omega (arith, ns.one, ks.one, acted.lefts)) in
    let woven : Interleaves acted.handled (four ns.mails [] [] ks.mails) =
    λ w. ap (from w) (sym (append-nil acted.handled) ∙ ap (λ (l : List Mail). acted.handled ++ l) (sym none)) ∙ s.3.1 w in
    let typing : TypingSends Keys None stopped keys_reader result.keys = subst (λ (w : View). TypingSends Keys None stopped keys_reader w)
    (ks.is ∙ sym s.1) sk in
    let typed = typing.0 in
    let read : ReaderSends Net None false net_reader result.net = subst (λ (w : View). ReaderSends Net None false net_reader w) (ns.is ∙ sym s.0) sn in
    let noted = client_noted begin g.0 acted.goes.steps acted.goes.marked acted.handled acted.goes.bytes result.noted g.5 acted.goes.of_steps acted.goes.whole
    acted.goes.all_bytes refl acted.noted in
    let said = client_said window.width window.height window.limit acted.goes.marked g.0 acted.goes.bytes noted.0 noted.2 in
    let net_first = net_brought net_reader net acted.handled ns.mails sn ns.is (woven Net) (woven Desk) (woven Back) in
    let keys_first = keys_brought stopped keys_reader.reader keys acted.handled ks.mails sk.0 ks.is (woven Keys) in
    let left = (acted.stands begin at).gone (was_left Keys acted.handled ks.mails (woven Keys) ks.one) in
    let is : result.report ≡ client_report g.0.progress = er ∙ ap client_report g.2.progress in
    let caused = λ (f : SessionFault) (e : result.report.ended ≡ ended.Fault f).
    fault_cause window.width window.height window.limit acted.goes.marked g.0 f g.1 (sym (ap (λ (o : Report). o.ended) is) ∙ e) in
    record {
      from_keys = ks.mails;
      from_net = ns.mails;
      handled = acted.handled;
      keys_is = s.1;
      net_is = s.0;
      core_is = ap (λ (w : View). w.handled) s.2;
      woven = woven;
      stopped = stopped;
      typed = typed;
      read = read;
      marked = acted.goes.marked;
      messages = acted.goes.whole;
      run = g.0;
      runs = g.1;
      keys_left = left.0;
      told = subst (λ (b : Bool). IsTold b result.told) left.1 acted.word;
      stopped_for = λ on. sym left.1 ∙ stopped_told acted.told stopped result.told acted.word never on;
      in_order = subst (λ (ms : List Told). TakesInOrder ms g.0) acted.goes.whole (in_order window.width window.height window.limit acted.goes.marked g.0 g.1);
      written = acted.goes.bytes;
      unwritten = g.3.0;
      appended = acted.goes.wrote;
      tells = acted.goes.tells;
      sends = g.3.1;
      all_sent = g.3.2;
      sent_whole = λ on. all_out acted.goes.marked g.3.0 g.3.2 (λ e. sym on ∙ ap (λ (p : ClientProgress). p.over) (sym g.2.progress) ∙ acted.goes.over e);
      transcript = said.transcript;
      was_read = as_read net_reader.bytes _ _ (client_reads begin acted.goes.marked g.0 acted.goes.bytes said ∙ ap (brought origin.Net) acted.goes.whole)
          net_first;
      came = client_reads begin acted.goes.marked g.0 acted.goes.bytes said ∙ ap (brought origin.Net) acted.goes.whole
          ∙ net_all acted.handled (woven Desk) (woven Back) ∙ ap bytes_sent (woven Net) ∙ sym (ap (λ (w : View). came_by w.net) s.0);
      was_written = said.writes;
      steps = acted.noted.more;
      noted = acted.noted.noted;
      took = acted.noted.took;
      as_noted = noted.1;
      transcribed = noted.2;
      keys_read = brought origin.Keys (all_told acted.handled);
      keys_were_read = keys_first;
      keys_are = refl;
      inputs = inputs_brought (all_told acted.handled);
      inputs_are = refl;
      keys_among = keys-brought (all_told acted.handled);
      asked_among = requests_brought stopped keys_reader.reader result.keys acted.handled ks.mails typed s.1 (woven Keys);
      were_asked = typing.1;
      shown = acted.goes.text;
      unshown = g.4.0;
      displayed = acted.goes.showed;
      tells_shown = acted.goes.tells_shown;
      shows = g.4.1;
      all_shown = g.4.2;
      report_is = is;
      caused = caused;
      read_failed = λ e. read_cause stopped keys_reader.reader net_reader ks.mails ns.mails acted.handled result.keys result.net acted.goes.marked s.1 s.0 woven
          typed read acted.goes.whole begin (caused fault.Read e);
      write_failed = λ e. write_cause writer.before.calls writer.after.calls screen.before.calls screen.after.calls acted.goes.marked acted.goes.tells
          acted.goes.tells_shown begin (caused fault.Write e);
    }
