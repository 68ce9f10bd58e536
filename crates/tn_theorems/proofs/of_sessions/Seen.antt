-- The theorem of two sessions, from two transcripts that a socket carries.
use Rattle.std.proofs.Common.{◌≡◌, ℕ, All, Option, Some, None, List, [], ◌∷◌, ◌++◌, sym, ap, ◌∙◌, subst, map, append-nil}
use Rattle.std.specs.Io.KnownBytes.{Consumes}
use Rattle.tn_client.specs.Events as client
use Rattle.tn_client.specs.Replies as client_says
use Rattle.tn_client.proofs.lemmas.Fitting.{sent-fits}
use Rattle.tn_cores.specs.{client.Bringing.{Input, inputs}, declared.faults.Ended.TheVariants.HangUp}
use Rattle.tn_discipline.specs.{Canon.{Canon, typed_entries}, Characters.standard_characters, declared.reads.Entry.Entry}
use Rattle.tn_theorems.proofs.of_sessions.{Closing.inputs_sent, Hearing.heard_all, Transcripts.holds, Tying.{AreTied, ties}, Whole.goes_on_to_end}
use Rattle.tn_theorems.proofs.of_sessions.Keys.{given_first, more_entries, one_list, keys_of-append, HaveKeys, typed_as, typeable, first_of_all, only_keys}
use Rattle.tn_theorems.proofs.of_sessions.{Keys.none_told, Joint.{Both, LinesAreLocal, client_said}}
use Rattle.tn_theorems.specs.sessions.{Returned.{Served, Connected, client_seen, server_seen}, Transcripts.{ClientSession, IsCarried, ServerSession}}
use Rattle.tn_theorems.specs.sessions.Theorem.{HasKey, RanToTheEnd, ReadsWhatIsGiven, ReadsWhatIsTyped, TheoremOfSessions, keys_of}
use Rattle.tn_server.specs.Events as server
use Rattle.tn_server.specs.Lines.{entries}
use Rattle.tn_session.proofs.lemmas.{Plain.plainly, Transcribing.prefix_trans}
use Rattle.tn_session.specs.{Facts.JobFacts, Transcripts.all_wrote, declared.parties.Report.Report, workers.{Mailbox.mail, Reading.{pieces_in, told_messages}}}
use Rattle.tn_session.specs.declared.workers.mail.Sender.TheVariants as who
use Rattle.tn_nvt.specs.Prefixes.{IsPrefixOf}
use Rattle.tn_cores.proofs.lemmas.server.Hearing.{hears}
use Rattle.tn_world.proofs.lemmas.Histories as histories
use Rattle.tn_world.proofs.lemmas.Histories.{TiedHistories, keys_typed}

module _ {J : Type 0} (facts : JobFacts J) (canon : Canon) (s : Served facts canon) (c : Connected canon.limit)
    (standard : canon.settings.chars ≡ standard_characters) (typed_there : All (λ input. HasKey canon.settings input) c.ran.inputs)
    (carried : IsCarried s.ran.transcript c.ran.transcript) where
  abbrev last : Both
  last = record { server = s.ran.schedule.run; client = c.ran.run }

  -- the inputs that were typed while replies went to the network are all that were typed
  same_inputs : inputs c.ran.run.sent ≡ inputs c.ran.run.history
  same_inputs =
      let typed = c.ran.typed in
      let sent = one_list c.ran.from_keys (map (mail who.Keys) (told_messages typed.0 ++ typed.2)) (sym c.ran.keys_is ∙ typed.5) in
      inputs_sent c.width c.height canon.limit c.ran.marked c.ran.run c.ran.handled _ typed.0 typed.1 _ typed.2 c.ran.runs c.ran.messages
      (c.ran.woven who.Keys ∙ sent) (plainly _ c.keys.reader (pieces_in typed.0) typed.1 typed.2 typed.4)

  -- the inputs of the history come first in what was read
  first_read : c.ran.inputs ≡ inputs c.ran.run.history ++ c.ran.in_order.untyped
  first_read = c.ran.inputs_are ∙ c.ran.in_order.typed

  have_keys : HaveKeys canon.settings standard (inputs c.ran.run.sent)
  have_keys =
      let Here : List Input → Type 0 = λ xs. All (λ input. HasKey canon.settings input) xs in
      let first = first_of_all (λ input. HasKey canon.settings input) (inputs c.ran.run.history) c.ran.in_order.untyped (subst Here first_read typed_there) in
      subst Here (sym same_inputs) first

  -- the lines are local after both runs
  lines : LinesAreLocal canon last
  lines =
      let schedule = s.ran.schedule in
      let Tied : server.History → client.History → Type 0 = λ h k. AreTied canon h k in
      let tied = ties canon s.approach c.width c.height standard in
      let at = holds canon s.approach c.width c.height schedule.wrote_opening s.ran.jobs Tied tied
      (None ∷ map (λ m. Some m) schedule.marked) c.ran.marked last schedule.written c.ran.written s.ran.transcript c.ran.transcript s.ran.noted.transcribed
      c.ran.transcribed carried in
      let both : TiedHistories canon last.server.history last.client.sent = at.tied (typeable canon.settings standard c.ran.run.sent have_keys) in
      record {
        prefix = histories.prefix canon last.server.history last.client.sent both;
        complete = λ all. histories.complete canon last.server.history last.client.sent both
            (heard_all last.server.stream (server.items last.server.history) (client_says.items_said last.client.sent)
            (hears schedule.wrote_opening canon s.approach s.ran.jobs schedule.marked last.server schedule.runs).read (sent-fits last.client.sent) all);
      }

  abbrev typed_first : List ℕ
  typed_first = keys_of canon.settings (inputs c.ran.run.history)

  local : typed_entries canon (keys_typed canon.settings c.ran.run.sent) ≡ typed_entries canon typed_first
  local = ap (λ (ks : List ℕ). typed_entries canon ks) (typed_as canon.settings standard c.ran.run.sent have_keys
      ∙ ap (λ (xs : List Input). keys_of canon.settings xs) same_inputs)

  keys_first : keys_of canon.settings c.ran.inputs ≡ typed_first ++ keys_of canon.settings c.ran.in_order.untyped
  keys_first = ap (λ (xs : List Input). keys_of canon.settings xs) first_read ∙ keys_of-append canon.settings (inputs c.ran.run.history) c.ran.in_order.untyped

  taken_first : IsPrefixOf s.ran.entries_taken (typed_entries canon (keys_of canon.settings c.ran.inputs))
  taken_first =
      let h = entries s.ran.schedule.run.history in
      let ks = typed_entries canon typed_first in
      let front : IsPrefixOf s.ran.entries_taken h = (s.ran.in_order.0, ap (λ (l : List Entry). l ++ s.ran.in_order.0) s.ran.entries_are ∙ s.ran.in_order.1) in
      let mid : IsPrefixOf h ks = subst (λ (l : List Entry). IsPrefixOf h l) local lines.prefix in
      prefix_trans s.ran.entries_taken h (typed_entries canon (keys_of canon.settings c.ran.inputs)) front
      (prefix_trans h ks (typed_entries canon (keys_of canon.settings c.ran.inputs)) mid
      (more_entries canon typed_first (keys_of canon.settings c.ran.in_order.untyped) (keys_of canon.settings c.ran.inputs) keys_first))

  -- all that a client wrote is all that it sends, if it ended without a fault
  all_said : c.result.report.ended ≡ HangUp → all_wrote c.ran.transcript ≡ client_said last
  all_said ended =
      let on = goes_on_to_end c.width c.height canon.limit c.ran.marked c.ran.run c.ran.runs (sym (ap (λ (r : Report). r.ended) c.ran.report_is) ∙ ended) in
      c.ran.was_written ∙ sym (c.ran.sends ∙ ap (λ (l : List ℕ). c.ran.written ++ l) (c.ran.sent_whole on) ∙ append-nil c.ran.written)

  all_typed : c.result.report.ended ≡ HangUp → typed_first ≡ keys_of canon.settings c.ran.inputs
  all_typed ended =
      let on = goes_on_to_end c.width c.height canon.limit c.ran.marked c.ran.run c.ran.runs (sym (ap (λ (r : Report). r.ended) c.ran.report_is) ∙ ended) in
      sym (keys_first ∙ ap (λ (xs : List Input). typed_first ++ keys_of canon.settings xs) (c.ran.in_order.all on).0 ∙ append-nil typed_first)

  -- without commands the keys are those that were read
  keys_alone : c.keys.controls ≡ Some [] → keys_of canon.settings c.ran.inputs ≡ c.ran.keys_read
  keys_alone none = only_keys canon.settings c.ran.inputs (c.ran.asked_among ∙ none_told c.keys.controls _ none c.ran.were_asked) ∙ c.ran.keys_among

  taken_of : (given : List ℕ) → c.keys.reader.bytes ≡ Some given → c.keys.controls ≡ Some [] → IsPrefixOf s.ran.entries_taken (typed_entries canon given)
  taken_of given known none =
      let read = c.ran.keys_were_read in
      let more = given_first given read.0 c.ran.keys_read [] c.ran.keys_read (sym (append-nil c.ran.keys_read))
      (subst (λ (o : Option (List ℕ)). Consumes o read.0 c.ran.keys_read) known read.1) in
      prefix_trans s.ran.entries_taken (typed_entries canon c.ran.keys_read) (typed_entries canon given)
      (subst (λ (ks : List ℕ). IsPrefixOf s.ran.entries_taken (typed_entries canon ks)) (keys_alone none) taken_first)
      (more_entries canon c.ran.keys_read more.0 given more.1)

  taken_all : RanToTheEnd (server_seen s) (client_seen c) → s.ran.entries_taken ≡ typed_entries canon (keys_of canon.settings c.ran.inputs)
  taken_all ran =
      s.ran.entries_are ∙ s.ran.all_taken ran.server
      ∙ lines.complete (s.ran.heard_whole ran.server ∙ ran.whole ∙ all_said ran.client)
      ∙ local ∙ ap (λ (ks : List ℕ). typed_entries canon ks) (all_typed ran.client)

  reads : ReadsWhatIsTyped canon (server_seen s) (client_seen c)
  reads = record { prefix = taken_first; all = taken_all }

-- what is seen of two sessions that ran
module _ {J : Type 0} (facts : JobFacts J) (canon : Canon) (standard : canon.settings.chars ≡ standard_characters) where
  abbrev Reads : ServerSession → ClientSession → Type 0
  Reads s c = All (λ input. HasKey canon.settings input) c.inputs → IsCarried s.transcript c.transcript → ReadsWhatIsTyped canon s c

  reads_of : (s : ServerSession) (c : ClientSession) (run : Served facts canon) (ran : Connected canon.limit)
      → s ≡ server_seen run → c ≡ client_seen ran → Reads s c
  reads_of s c run ran s_seen c_seen =
      let of_client : Reads (server_seen run) c = subst (λ d. Reads (server_seen run) d) (sym c_seen)
      (λ typed_there carried. reads facts canon run ran standard typed_there carried) in
      subst (λ d. Reads d c) (sym s_seen) of_client

  abbrev Given : List ℕ → ServerSession → ClientSession → Type 0
  Given given s c = All (λ input. HasKey canon.settings input) c.inputs → IsCarried s.transcript c.transcript
      → IsPrefixOf s.entries_taken (typed_entries canon given)

  given_of : (s : ServerSession) (c : ClientSession) (given : List ℕ) (run : Served facts canon) (ran : Connected canon.limit)
      → s ≡ server_seen run → c ≡ client_seen ran → ran.keys.reader.bytes ≡ Some given → ran.keys.controls ≡ Some [] → Given given s c
  given_of s c given run ran s_seen c_seen bytes alone =
      let of_client : Given given (server_seen run) c = subst (λ d. Given given (server_seen run) d) (sym c_seen)
      (λ typed_there carried. taken_of facts canon run ran standard typed_there carried given bytes alone) in
      subst (λ d. Given given d c) (sym s_seen) of_client

pub theorem_of_sessions : {J : Type 0} (facts : JobFacts J) → TheoremOfSessions facts
theorem_of_sessions facts canon s c served connected standard =
    reads_of facts canon standard s c served.run connected.run served.seen connected.seen

pub reads_what_is_given : {J : Type 0} (facts : JobFacts J) → ReadsWhatIsGiven facts
reads_what_is_given facts canon s c given served gives standard =
    given_of facts canon standard s c given served.run gives.connected.run served.seen gives.connected.seen gives.bytes gives.alone
