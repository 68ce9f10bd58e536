-- The part of the reader's bytes that the run read, and the entries that the foreground job took if a hang-up
-- ended the session.
use Rattle.std.proofs.Common.{◌≡◌, ℕ, Bool, true, false, ◌&&◌, length, List, [], ◌∷◌, ◌++◌, Option, Some, None, refl, sym, ap, ◌∙◌, ⊎_elim, inl, inr, map}
use Rattle.std.proofs.{Common.{subst, append-nil, append_assoc}, lemmas.List.append_cancel_left}
use Rattle.std.specs.{Io.KnownBytes.{Consumes, IsAtEnd, prepend_known}, List.concat}
use Rattle.tn_discipline.specs.declared.reads.Entry.{Entry}
use Rattle.tn_jobs.specs.{Jobs.Jobs, declared.{held_jobs.JobId.JobId, reactions.Reaction.Reaction, verdicts.After.TheVariants.Stay}}
use Rattle.tn_server.specs.{Events.items, Lines.entries}
use Rattle.tn_session.proofs.{Causes.{from_hit, from_miss, HasFailure, has_failure, failure_from, failure_last, never_and, write_failed}, Lefts.same_self}
use Rattle.tn_session.proofs.{Mailbox.sender_share, lemmas.workers.{Readers.{IsSaid, closes_ending, if_said, is_said}, Turning.{IsClose, is_close}}}
use Rattle.tn_session.specs.{workers.{Acts.JobActs, Mailbox.{same, from, sender, mail}, Reader.SaysLast, Stepping.step_said, Turning.Holds}, Turns.messages_of}
use Rattle.tn_session.specs.{declared.workers.channels.View.View, workers.{Talk.{Closes, turns_said, entries_of, ends_done}, EntryChannel.EntryHand}}
use Rattle.tn_session.specs.workers.Reading.{IsEnding, IsReadCause, max_reads, Telling, piece_told, size_told, control_told, told_messages, pieces_in}
use Rattle.tn_session.specs.{declared.workers.mail.{Mail.Mail, Sender.{Sender, TheVariants.{Net, Desk, Back, Keys}}}, Transcripts.{bytes_sent, came_by}}
use Rattle.tn_session.specs.{Facts.{SessionJobs, SessionResult, TermSettings}, Session.{Schedule, HearsReader, TakesEntries}}
use Rattle.tn_cores.specs.{queue.Queue.taker, streams.{Writing.max_writes, Foretelling.WillFail, Known.{KnownReader, KnownWriting}, Telling.SomeFailed}}
use Rattle.tn_cores.specs.{server.{Giving.{GivesPrefix, entries_put}, Ending.{IsEndedAt, IsFaultCause}, Marks.no_writes_failed, Run.Run}, Pieces.bytes_in}
use Rattle.tn_cores.specs.{server.Hearing.{heard, at_end_after, MayCome, MayAllCome, KeepsOn, AllKeepOn, Hears, HangsUp}, declared.messages.Message.Message}
use Rattle.tn_cores.specs.declared.messages.Message.TheVariants.{Piece, HangUp, ReadFailed, Take, Said, Refused, Left, Resized, Asked}
use Rattle.tn_cores.proofs.lemmas.{streams.Telling.some_failed, server.Hearing.{entries_grow, entries_same}}
use Rattle.tn_cores.specs.declared.faults.Ended.TheVariants as ended
use Rattle.tn_cores.specs.declared.faults.SessionFault.TheVariants as fault
use Rattle.tn_linemode.specs.Prefixes.{IsRead}

true_false : true ≡ false → ⊥
true_false e = cc

-- THE MESSAGES OF NET

abbrev is_of_net : Message → Bool
is_of_net (Piece piece) = true
is_of_net HangUp = true
is_of_net ReadFailed = true
is_of_net Take = false
is_of_net (Said id text after) = false
is_of_net Refused = false
is_of_net Left = false
is_of_net (Resized size) = false
is_of_net (Asked control) = false

abbrev NoneOfNet : List Message → Type 0
NoneOfNet [] = Unit {0}
NoneOfNet (m ∷ ms) = (is_of_net m ≡ false) × NoneOfNet ms

none-append : (xs ys : List Message) → NoneOfNet xs → NoneOfNet ys → NoneOfNet (xs ++ ys)
none-append [] ys n m = m
none-append (x ∷ xs) ys n m = (n.0, none-append xs ys n.1 m)

-- any other message brings nothing and ends nothing
record BringsNothing (at_end : Bool) (m : Message) : Type 0 where
  may : MayCome at_end m
  after : at_end_after at_end m ≡ at_end
  bytes : bytes_in m ≡ []

brings_nothing : (at_end : Bool) (m : Message) → is_of_net m ≡ false → BringsNothing at_end m
brings_nothing at_end (Piece piece) e = absurd (true_false e)
brings_nothing at_end HangUp e = absurd (true_false e)
brings_nothing at_end ReadFailed e = absurd (true_false e)
brings_nothing at_end Take e = record { may = tt; after = refl; bytes = refl }
brings_nothing at_end (Said id text after) e = record { may = tt; after = refl; bytes = refl }
brings_nothing at_end Refused e = record { may = tt; after = refl; bytes = refl }
brings_nothing at_end Left e = record { may = tt; after = refl; bytes = refl }
brings_nothing at_end (Resized size) e = record { may = tt; after = refl; bytes = refl }
brings_nothing at_end (Asked control) e = record { may = tt; after = refl; bytes = refl }

-- the facts of the messages of all others
abbrev Others : List Mail → Type 0
Others mails = (s : Sender) → same s Net ≡ false → NoneOfNet (messages_of (from s mails))

others_tail : (x : Mail) (xs : List Mail) → Others (x ∷ xs) → Others xs
others_tail x xs others s else = by (same x.from s) refl
  where
    by : (b : Bool) → same x.from s ≡ b → NoneOfNet (messages_of (from s xs))
    by true is = let P : List Mail → Type 0 = λ l. NoneOfNet (messages_of l) in (subst P (from_hit s x xs is) (others s else)).1
    by false is = let P : List Mail → Type 0 = λ l. NoneOfNet (messages_of l) in subst P (from_miss s x xs is) (others s else)

record OfNet (at_end : Bool) (mails : List Mail) : Type 0 where
  may : MayAllCome at_end (messages_of mails)
  bytes : heard (messages_of mails) ≡ heard (messages_of (from Net mails))

of_net_next : (at_end : Bool) (x : Mail) (xs : List Mail) → Others (x ∷ xs) → ((b : Bool) → MayAllCome b (messages_of (from Net xs)) → OfNet b xs)
    → MayAllCome at_end (messages_of (from Net (x ∷ xs))) → OfNet at_end (x ∷ xs)
of_net_next at_end x xs others more may = by (same x.from Net) refl
  where
    by : (b : Bool) → same x.from Net ≡ b → OfNet at_end (x ∷ xs)
    by true is =
        let m = subst (λ (l : List Mail). MayAllCome at_end (messages_of l)) (from_hit Net x xs is) may in
        let on = more (at_end_after at_end x.message) m.1 in
        record {
          may = (m.0, on.may);
          bytes = ap (λ (bs : List ℕ). bytes_in x.message ++ bs) on.bytes ∙ ap (λ (l : List Mail). heard (messages_of l)) (sym (from_hit Net x xs is));
        }
    by false is =
        let here : NoneOfNet (messages_of (x ∷ from x.from xs)) =
        subst (λ (l : List Mail). NoneOfNet (messages_of l)) (from_hit x.from x xs (same_self x.from)) (others x.from is) in
        let q = brings_nothing at_end x.message here.0 in
        let on = more at_end (subst (λ (l : List Mail). MayAllCome at_end (messages_of l)) (from_miss Net x xs is) may) in
        record {
          may = (q.may, subst (λ (b : Bool). MayAllCome b (messages_of xs)) (sym q.after) on.may);
          bytes = ap (λ (bs : List ℕ). bs ++ heard (messages_of xs)) q.bytes ∙ on.bytes
              ∙ ap (λ (l : List Mail). heard (messages_of l)) (sym (from_miss Net x xs is));
        }

of_net : (at_end : Bool) (mails : List Mail) → Others mails → MayAllCome at_end (messages_of (from Net mails)) → OfNet at_end mails
of_net at_end [] others may = record { may = tt; bytes = refl }
of_net at_end (x ∷ xs) others may = of_net_next at_end x xs others (λ b m. of_net b xs (others_tail x xs others) m) may

-- the messages that the reader sends may all come
net_may : (told : List Telling) (last : Message) (left : Option (List ℕ)) → IsEnding last left → MayAllCome false (told_messages told ++ last ∷ Left ∷ [])
net_may (piece_told p ∷ told) last left e = (refl, net_may told last left e)
net_may (size_told s ∷ told) last left e = (tt, net_may told last left e)
net_may (control_told c ∷ told) last left e = (tt, net_may told last left e)
net_may [] HangUp left e = (tt, (tt, tt))
net_may [] ReadFailed left e = (tt, (tt, tt))
net_may [] Refused left e = (tt, (tt, tt))
net_may [] (Piece p) left e = absurd e
net_may [] Take left e = absurd e
net_may [] (Said id t a) left e = absurd e
net_may [] Left left e = absurd e
net_may [] (Resized s) left e = absurd e
net_may [] (Asked control) left e = absurd e

net_bytes : (told : List Telling) (last : Message) (left : Option (List ℕ)) → IsEnding last left
    → heard (told_messages told ++ last ∷ Left ∷ []) ≡ concat (pieces_in told)
net_bytes (piece_told p ∷ told) last left e = ap (λ (bs : List ℕ). p ++ bs) (net_bytes told last left e)
net_bytes (size_told s ∷ told) last left e = net_bytes told last left e
net_bytes (control_told c ∷ told) last left e = net_bytes told last left e
net_bytes [] HangUp left e = refl
net_bytes [] ReadFailed left e = refl
net_bytes [] Refused left e = refl
net_bytes [] (Piece p) left e = absurd e
net_bytes [] Take left e = absurd e
net_bytes [] (Said id t a) left e = absurd e
net_bytes [] Left left e = absurd e
net_bytes [] (Resized s) left e = absurd e
net_bytes [] (Asked control) left e = absurd e

-- the messages of the reader before that which bring nothing, end nothing and are no failure
text_may : (at_end : Bool) (ms rest : List Message) (job : JobId) (text : List ℕ) → MayAllCome at_end (ms ++ rest)
    → MayAllCome at_end (ms ++ Said job text Stay ∷ rest)
text_may at_end [] rest job text m = (tt, m)
text_may at_end (x ∷ ms) rest job text m = (m.0, text_may (at_end_after at_end x) ms rest job text m.1)

text_bytes : (ms rest : List Message) (job : JobId) (text : List ℕ) → heard (ms ++ Said job text Stay ∷ rest) ≡ heard (ms ++ rest)
text_bytes [] rest job text = refl
text_bytes (x ∷ ms) rest job text = ap (λ (bs : List ℕ). bytes_in x ++ bs) (text_bytes ms rest job text)

text_fails : (ms rest : List Message) (job : JobId) (text : List ℕ) → HasFailure (ms ++ Said job text Stay ∷ rest) → HasFailure (ms ++ rest)
text_fails [] rest job text h = ⊎_elim (λ e. absurd (no_text e)) (λ f. f) h
  where
    no_text : Said job text Stay ≡ ReadFailed → ⊥
    no_text e = cc
text_fails (x ∷ ms) rest job text h = ⊎_elim (λ e. inl e) (λ f. inr (text_fails ms rest job text f)) h

said_may : (told : List Telling) (said : List Message) (last : Message) (left : Option (List ℕ)) → IsSaid said → IsEnding last left
    → MayAllCome false (told_messages told ++ (said ++ last ∷ Left ∷ []))
said_may told said last left is e =
    if_said (λ (ms : List Message). MayAllCome false (told_messages told ++ (ms ++ last ∷ Left ∷ []))) said is (net_may told last left e)
    (λ job text. text_may false (told_messages told) (last ∷ Left ∷ []) job text (net_may told last left e))

said_bytes : (told : List Telling) (said : List Message) (last : Message) (left : Option (List ℕ)) → IsSaid said → IsEnding last left
    → heard (told_messages told ++ (said ++ last ∷ Left ∷ [])) ≡ concat (pieces_in told)
said_bytes told said last left is e =
    if_said (λ (ms : List Message). heard (told_messages told ++ (ms ++ last ∷ Left ∷ [])) ≡ concat (pieces_in told)) said is (net_bytes told last left e)
    (λ job text. text_bytes (told_messages told) (last ∷ Left ∷ []) job text ∙ net_bytes told last left e)

said_fails : (told : List Telling) (said : List Message) (last : Message) → IsSaid said → HasFailure (told_messages told ++ (said ++ last ∷ Left ∷ []))
    → last ≡ ReadFailed
said_fails told said last is =
    if_said (λ (ms : List Message). HasFailure (told_messages told ++ (ms ++ last ∷ Left ∷ [])) → last ≡ ReadFailed) said is (failure_last told last)
    (λ job text h. failure_last told last (text_fails (told_messages told) (last ∷ Left ∷ []) job text h))

none_fails : (ms : List Message) → NoneOfNet ms → HasFailure ms → ⊥
none_fails [] n h = h
none_fails (m ∷ ms) n h = ⊎_elim (λ e. true_false (sym (ap is_of_net e) ∙ n.0)) (λ f. none_fails ms n.1 f) h

none_of_turns : (id : JobId) (turns : List (Entry × Reaction)) → NoneOfNet (turns_said id turns)
none_of_turns id [] = tt
none_of_turns id (t ∷ ts) = (refl, (refl, none_of_turns id ts))

none_of_steps : (said : List (JobId × Reaction)) → NoneOfNet (map step_said said)
none_of_steps [] = tt
none_of_steps (s ∷ ss) = (refl, none_of_steps ss)

-- THE LISTS OF THE SENDERS

some_is : {A : Type 0} (a b : A) → Some a ≡ Some b → a ≡ b
some_is a b e = cc

messages-map : (s : Sender) (ms : List Message) → messages_of (map (mail s) ms) ≡ ms
messages-map s [] = refl
messages-map s (m ∷ ms) = ap (λ (l : List Message). m ∷ l) (messages-map s ms)

-- the messages of a sender, of what was handled
pub messages_from : (s : Sender) (v : View) (mails handled : List Mail) (ms : List Message) → v ≡ sender s mails → v ≡ sender s (map (mail s) ms)
    → from s handled ≡ mails → messages_of (from s handled) ≡ ms
messages_from s v mails handled ms e f is =
    let same : mails ≡ map (mail s) ms = some_is mails (map (mail s) ms) (sym (sender_share s mails v e) ∙ sender_share s (map (mail s) ms) v f) in
    ap messages_of (is ∙ same) ∙ messages-map s ms

-- each message of a sender keeps on if all do
keep_from : (id : ℕ) (s : Sender) (mails : List Mail) → AllKeepOn id (messages_of mails) → AllKeepOn id (messages_of (from s mails))
keep_from id s [] k = tt
keep_from id s (x ∷ xs) k = by (keep_from id s xs k.1) (same x.from s) refl
  where
    by : AllKeepOn id (messages_of (from s xs)) → (b : Bool) → same x.from s ≡ b → AllKeepOn id (messages_of (from s (x ∷ xs)))
    by more true is = subst (λ (l : List Mail). AllKeepOn id (messages_of l)) (sym (from_hit s x xs is)) (k.0, more)
    by more false is = subst (λ (l : List Mail). AllKeepOn id (messages_of l)) (sym (from_miss s x xs is)) more

keep_last : (id : ℕ) (front : List Message) (m : Message) (more : List Message) → AllKeepOn id (front ++ m ∷ more) → KeepsOn id m
keep_last id [] m more k = k.0
keep_last id (x ∷ xs) m more k = keep_last id xs m more k.1

-- a foreground job that was done does not keep on
not_done : (id : JobId) (turns : List (Entry × Reaction)) (more : List Message) → ends_done turns → AllKeepOn id.0 (turns_said id turns ++ more) → ⊥
not_done id [] more e k = e
not_done id (t ∷ []) more e k = k.1.0 e refl
not_done id (t ∷ u ∷ us) more e k = not_done id (u ∷ us) more e k.1.1

-- the desk left because the end came
at_end_of : (id : JobId) (refuses : Entry → Type 0) (turns : List (Entry × Reaction)) (v : View) (w : EntryHand) → Closes id refuses turns v w
    → ((ms : List Message) → v ≡ sender Desk (map (mail Desk) ms) → AllKeepOn id.0 ms) → w ≡ taker (entries_of turns ++ None ∷ [])
at_end_of id refuses turns v w c keeps =
    ⊎_elim
    (λ x. x.1)
    (λ y. ⊎_elim
    (λ x. absurd (not_done id turns (Left ∷ []) x.2 (keeps _ x.0)))
    (λ x. absurd (keep_last id.0 (turns_said id turns ++ Take ∷ []) Refused (Left ∷ [])
    (subst (AllKeepOn id.0) (sym (append_assoc (turns_said id turns) (Take ∷ []) (Refused ∷ Left ∷ []))) (keeps _ x.1))))
    y)
    c

entries_given : (turns : List (Entry × Reaction)) → entries_of turns ≡ map (λ e. Some e) (map (λ t. t.0) turns)
entries_given [] = refl
entries_given (t ∷ ts) = ap (λ (es : List (Option Entry)). Some t.0 ∷ es) (entries_given ts)

put_given : (es : List Entry) → entries_put (map (λ e. Some e) es ++ None ∷ []) ≡ es
put_given [] = refl
put_given (e ∷ es) = ap (λ (l : List Entry). e ∷ l) (put_given es)

-- THE BYTES

consumes_front : (given left : Option (List ℕ)) (bytes front rest : List ℕ) → bytes ≡ front ++ rest → Consumes given left bytes
    → Consumes given (prepend_known rest left) front
consumes_front None left bytes front rest e c = tt
consumes_front (Some xs) None bytes front rest e c = absurd c
consumes_front (Some xs) (Some ys) bytes front rest e c = c ∙ ap (λ (bs : List ℕ). bs ++ ys) e ∙ append_assoc front rest ys

at_end_still : (left : Option (List ℕ)) (rest : List ℕ) → rest ≡ [] → IsAtEnd left → IsAtEnd (prepend_known rest left)
at_end_still None rest e at = tt
at_end_still (Some ys) rest e at = ap (λ (bs : List ℕ). bs ++ ys) e ∙ at

none_unheard : (stream unheard all : List ℕ) → all ≡ stream ++ unheard → stream ≡ all → unheard ≡ []
none_unheard stream unheard all e f = append_cancel_left stream unheard [] (sym e ∙ sym f ∙ sym (append-nil stream))

net_at_end : (id : ℕ) (last : Message) (left : Option (List ℕ)) → IsEnding last left → KeepsOn id last → IsAtEnd left
net_at_end id HangUp left e k = e
net_at_end id ReadFailed left e k = absurd k
net_at_end id Refused left e k = absurd k
net_at_end id (Piece p) left e k = absurd e
net_at_end id Take left e k = absurd e
net_at_end id (Said job t a) left e k = absurd e
net_at_end id Left left e k = absurd e
net_at_end id (Resized s) left e k = absurd e
net_at_end id (Asked control) left e k = absurd e

-- the known bytes that are left by those that were read
known_left : (bytes stream : List ℕ) (left : Option (List ℕ)) → Consumes (Some bytes) left stream → (rest : List ℕ) × (bytes ≡ stream ++ rest)
    × (IsAtEnd left → rest ≡ [])
known_left bytes stream None c = absurd c
known_left bytes stream (Some rest) c = (rest, c, λ at. at)

-- A SESSION

heard_of_mails : (xs : List Mail) → heard (messages_of xs) ≡ bytes_sent xs
heard_of_mails [] = refl
heard_of_mails (x ∷ xs) = ap (λ (l : List ℕ). bytes_in x.message ++ l) (heard_of_mails xs)

module _ {J : Type 0} {facts : JobActs J} {jobs : SessionJobs J} {settings : TermSettings} {table : Jobs} {reader : KnownReader} {writer : KnownWriting}
    {result : SessionResult}
    (s : Schedule {J = J} facts jobs settings table reader writer result) where
  abbrev pub messages : List Message
  messages = map (λ m. m.0) s.marked

  none_of_desk : NoneOfNet (messages_of (from Desk s.handled))
  none_of_desk = closed (λ e. facts.refuses s.talked.2 (Some e)) s.talked.0 s.talked.5
    where
      none_by : (ms : List Message) → NoneOfNet ms → result.views.desk ≡ sender Desk (map (mail Desk) ms) → NoneOfNet (messages_of (from Desk s.handled))
      none_by ms n is = subst NoneOfNet (sym (messages_from Desk result.views.desk s.from_desk s.handled ms s.desk_is is (s.woven Desk))) n

      closed : (refuses : Entry → Type 0) (turns : List (Entry × Reaction)) → Closes jobs.first refuses turns result.views.desk result.views.took
          → NoneOfNet (messages_of (from Desk s.handled))
      closed refuses turns c =
          ⊎_elim
          (λ x. none_by _ (none-append (turns_said jobs.first turns) (Take ∷ Left ∷ []) (none_of_turns jobs.first turns) (refl, (refl, tt))) x.0)
          (λ y. ⊎_elim
          (λ x. none_by _ (none-append (turns_said jobs.first turns) (Left ∷ []) (none_of_turns jobs.first turns) (refl, tt)) x.0)
          (λ x. none_by _ (none-append (turns_said jobs.first turns) (Take ∷ Refused ∷ Left ∷ []) (none_of_turns jobs.first turns) (refl, (refl, (refl, tt))))
          x.1)
          y)
          c

  none_of_back : NoneOfNet (messages_of (from Back s.handled))
  none_of_back =
      let said = map step_said s.stepped.0 in
      let close = s.stepped.1 in
      subst NoneOfNet (sym (messages_from Back result.views.back s.from_back s.handled (said ++ close) s.back_is s.stepped.2 (s.woven Back)))
      (none-append said close (none_of_steps s.stepped.0) (none_of_close close
      (is_close (Holds jobs.queue) facts s.stopped s.stepped.0 close s.stepped.6 s.stepped.8)))
    where
      none_of_close : (close : List Message) → IsClose close → NoneOfNet close
      none_of_close close c = ⊎_elim (λ e. subst NoneOfNet (sym e) (refl, tt)) (λ e. subst NoneOfNet (sym e) (refl, (refl, tt))) c

  none_of_others : Others s.handled
  none_of_others Net e = absurd (true_false e)
  none_of_others Desk e = none_of_desk
  none_of_others Back e = none_of_back
  none_of_others Keys e = subst (λ (l : List Mail). NoneOfNet (messages_of l)) (sym (s.woven Keys)) tt

  -- how the reading ended: nothing stops the thread that reads from the network
  net_end : (last : Message) × (IsEnding last s.read.1 × IsReadCause reader.failures (length (pieces_in s.read.0)) last) × (said : List Message)
      × SaysLast (Some jobs.first) reader.words last said × (s.read.2 ≡ said ++ last ∷ Left ∷ [])
  net_end = closes_ending (Some jobs.first) reader (pieces_in s.read.0) s.read.1 s.read.2 s.read.4

  -- the messages of the reader are those of its last words
  net_words : IsSaid net_end.2
  net_words = is_said (Some jobs.first) reader.words net_end.0 net_end.2 net_end.3

  net_said : messages_of (from Net s.handled) ≡ told_messages s.read.0 ++ (net_end.2 ++ net_end.0 ∷ Left ∷ [])
  net_said =
      messages_from Net result.views.net s.from_net s.handled (told_messages s.read.0 ++ s.read.2) s.net_is s.read.5 (s.woven Net)
      ∙ ap (λ (ms : List Message). told_messages s.read.0 ++ ms) net_end.4

  nets : OfNet false s.handled
  nets = of_net false s.handled none_of_others (subst (MayAllCome false) (sym net_said) (said_may s.read.0 net_end.2 net_end.0 s.read.1 net_words net_end.1.0))

  -- no piece follows the end of the input
  pub may_come : MayAllCome false messages
  may_come = subst (MayAllCome false) (sym s.messages) nets.may

  -- the pieces that were handled are those that were read
  pub all_pieces : heard messages ≡ concat (pieces_in s.read.0)
  all_pieces = ap heard s.messages ∙ nets.bytes ∙ ap heard net_said ∙ said_bytes s.read.0 net_end.2 net_end.0 s.read.1 net_words net_end.1.0

  -- the pieces that were handled are those that its pass knows
  pub came_by_net : heard messages ≡ came_by result.views.net.net
  came_by_net =
      ap heard s.messages ∙ nets.bytes ∙ ap (λ (l : List Mail). heard (messages_of l)) (s.woven Net) ∙ heard_of_mails s.from_net
      ∙ sym (ap (λ (v : View). came_by v.net) s.net_is)

  pub heard_of_reader : Hears settings.canon settings.approach messages s.run → (result.report.ended ≡ ended.HangUp → HangsUp jobs.first.0 messages s.run)
      → HearsReader reader.bytes result.report.ended s.run
  heard_of_reader h hung = record {
    left = prepend_known h.unheard s.read.1;
    consumed = consumes_front reader.bytes s.read.1 (concat (pieces_in s.read.0)) s.run.stream h.unheard (sym all_pieces ∙ h.stream_first) s.read.3;
    all = λ e.
        let u = hung e in
        let keeps = keep_from jobs.first.0 Net s.handled (subst (AllKeepOn jobs.first.0) s.messages u.kept_on) in
        let parted = net_said ∙ sym (append_assoc (told_messages s.read.0) net_end.2 (net_end.0 ∷ Left ∷ [])) in
        let last = keep_last jobs.first.0 (told_messages s.read.0 ++ net_end.2) net_end.0 (Left ∷ []) (subst (AllKeepOn jobs.first.0) parted keeps) in
        at_end_still s.read.1 h.unheard (none_unheard s.run.stream h.unheard (heard messages) h.stream_first u.all_heard)
        (net_at_end jobs.first.0 net_end.0 s.read.1 net_end.1.0 last);
    read = h.read;
  }

  -- the foreground job took an end, after all entries
  pub took_all : HangsUp jobs.first.0 messages s.run → entries_put s.taken ≡ entries s.run.history
  took_all u =
      let keeps = keep_from jobs.first.0 Desk s.handled (subst (AllKeepOn jobs.first.0) s.messages u.kept_on) in
      let turns = s.talked.0 in
      let is : result.views.took ≡ taker (entries_of turns ++ None ∷ []) =
      at_end_of jobs.first (λ e. facts.refuses s.talked.2 (Some e)) turns result.views.desk result.views.took s.talked.5
      (λ ms e. subst (AllKeepOn jobs.first.0) (messages_from Desk result.views.desk s.from_desk s.handled ms s.desk_is e (s.woven Desk)) keeps) in
      let given_entries = map (λ t. t.0) turns in
      let took_is : s.taken ≡ map (λ e. Some e) given_entries ++ None ∷ [] =
      some_is s.taken _ (ap (λ (h : EntryHand). h.taken) (sym s.took_is ∙ is)) ∙ ap (λ (es : List (Option Entry)). es ++ None ∷ []) (entries_given turns) in
      let puts : s.run.puts ≡ map (λ e. Some e) given_entries ++ None ∷ s.took_first.0 =
      sym s.took_first.1 ∙ ap (λ (es : List (Option Entry)). es ++ s.took_first.0) took_is
      ∙ append_assoc (map (λ e. Some e) given_entries) (None ∷ []) s.took_first.0 in
      ap entries_put took_is ∙ put_given given_entries ∙ u.all_put given_entries s.took_first.0 puts

  pub takes_entries : Hears settings.canon settings.approach messages s.run → HearsReader reader.bytes result.report.ended s.run
      → GivesPrefix s.taken s.run.history → (result.report.ended ≡ ended.HangUp → entries_put s.taken ≡ entries s.run.history)
      → TakesEntries settings reader.bytes result.report.ended s.taken
  takes_entries h r front all bytes xs known read =
      let had = items s.run.history in
      let k = known_left bytes s.run.stream r.left (subst (λ (g : Option (List ℕ)). Consumes g r.left s.run.stream) known r.consumed) in
      let whole : IsRead (s.run.stream ++ k.0) xs = subst (λ (bs : List ℕ). IsRead bs xs) k.1 read in
      let grown = entries_grow settings.canon settings.approach s.run.stream k.0 had xs r.read whole in (
        (
          front.0 ++ grown.0,
          sym (append_assoc (entries_put s.taken) front.0 grown.0) ∙ ap (λ (es : List Entry). es ++ grown.0) (front.1 ∙ h.entries_are) ∙ sym grown.1,
        ),
        λ e.
            let none = k.2 (r.all e) in
            let same : IsRead s.run.stream xs = subst (λ (bs : List ℕ). IsRead bs xs)
            (ap (λ (bs : List ℕ). s.run.stream ++ bs) none ∙ append-nil s.run.stream) whole in
            all e ∙ h.entries_are ∙ sym (entries_same settings.canon settings.approach s.run.stream had xs r.read same),
      )

  -- a message that reading failed is Net's, and it had its cause
  pub read_cause : (c : Run) → IsEndedAt c s.marked (ended.Fault fault.Read) → WillFail max_reads (length (pieces_in s.read.0)) reader.failures
  read_cause c r =
      let told = has_failure s.marked r.before r.last r.after r.whole r.ends in
      let who = failure_from s.handled (subst HasFailure s.messages told) in
      by who.0 who.1
    where
      cause_of : (last : Message) → last ≡ ReadFailed → IsReadCause reader.failures (length (pieces_in s.read.0)) last
          → WillFail max_reads (length (pieces_in s.read.0)) reader.failures
      cause_of last e cause = subst (λ (m : Message). IsReadCause reader.failures (length (pieces_in s.read.0)) m) e cause

      by : (r : Sender) → HasFailure (messages_of (from r s.handled)) → WillFail max_reads (length (pieces_in s.read.0)) reader.failures
      by Net h = cause_of net_end.0 (said_fails s.read.0 net_end.2 net_end.0 net_words (subst HasFailure net_said h)) net_end.1.1
      by Desk h = absurd (none_fails (messages_of (from Desk s.handled)) none_of_desk h)
      by Back h = absurd (none_fails (messages_of (from Back s.handled)) none_of_back h)
      by Keys h = absurd (none_fails (messages_of (from Keys s.handled)) (none_of_others Keys refl) h)

  -- if a write is reported to have failed, one did
  pub write_cause : (c : Run) → IsFaultCause s.wrote_opening c s.marked fault.Write → SomeFailed max_writes writer.before.calls writer.after.calls
  write_cause c why =
      some_failed max_writes (s.wrote_opening && no_writes_failed s.marked) writer.before.calls writer.after.calls s.tells
      (⊎_elim (λ e. ap (λ (b : Bool). b && no_writes_failed s.marked) e)
      (λ r. never_and s.wrote_opening (no_writes_failed s.marked) (write_failed s.marked r.before r.last r.after r.whole r.ends)) why)
