-- In a client's session no key and no command comes once what the client sends goes nowhere.
use Rattle.std.proofs.Common.{◌≡◌, ℕ, Bool, true, false, Option, List, [], ◌∷◌, ◌++◌, refl, sym, ap, ◌∙◌, subst, map, ⊎_elim}
use Rattle.tn_client.specs.Events.{History, next, resized, gets}
use Rattle.tn_cores.proofs.lemmas.client.Bringing.{inputs-gets}
use Rattle.tn_cores.specs.{client.{Bringing.inputs, Commands.event_of, Marks.{Turns, Runs}}, streams.Foretelling.Failures}
use Rattle.tn_cores.specs.{client.Counting.after_message, declared.client.messages.{Origin.{Origin, TheVariants.{Keys, Net}}, ClientMark.ClientMark, Told.Told}}
use Rattle.tn_cores.specs.{client.Run.{Run, Acts, ActsUnless, types, sent_after, start}, declared.client.progress.ClientProgress.ClientProgress}
use Rattle.tn_cores.specs.declared.messages.Message.{Message, TheVariants.{Piece, HangUp, ReadFailed, Take, Said, Refused, Left, Resized, Asked}}
use Rattle.tn_cores.specs.declared.client.messages.ClientMark.TheVariants as mark
use Rattle.tn_session.proofs.lemmas.{ClientTurns.{opens, sent_latest}, Plain.PlainlyCloses}
use Rattle.tn_session.specs.{CoreTurns.all_told, workers.Mailbox.{from, mail}, declared.workers.mail.{Mail.Mail, Sender.Sender}}
use Rattle.tn_session.specs.workers.Reading.{IsEnding, Telling, piece_told, size_told, control_told, told_messages, pieces_in}
use Rattle.tn_session.specs.declared.workers.mail.Sender.TheVariants as sender

-- nothing that is typed
abbrev pub NoInput : List Message → Type 0
NoInput [] = Unit {0}
NoInput (Piece piece ∷ ms) = ⊥
NoInput (Asked control ∷ ms) = ⊥
NoInput (_ ∷ ms) = NoInput ms

-- after a Left nothing that is typed comes
abbrev pub LeftLast : List Message → Type 0
LeftLast [] = Unit {0}
LeftLast (Left ∷ ms) = NoInput ms
LeftLast (_ ∷ ms) = LeftLast ms

abbrev pub keys_cons : Origin → Message → List Message → List Message
keys_cons Keys m ms = m ∷ ms
keys_cons Net m ms = ms

abbrev pub keys_messages : List Told → List Message
keys_messages [] = []
keys_messages (t ∷ ts) = keys_cons t.from t.message (keys_messages ts)

-- keys and commands come only while replies go to the network
abbrev MayType : Bool → Origin → Message → Type 0
MayType closed Keys (Piece piece) = closed ≡ false
MayType closed Keys (Asked control) = closed ≡ false
MayType closed _ _ = Unit {0}

may_always : (closed : Bool) (from : Origin) (m : Message) → closed ≡ false → MayType closed from m
may_always closed Keys (Piece piece) e = e
may_always closed Keys HangUp e = tt
may_always closed Keys ReadFailed e = tt
may_always closed Keys Take e = tt
may_always closed Keys (Said job text after) e = tt
may_always closed Keys Refused e = tt
may_always closed Keys Left e = tt
may_always closed Keys (Resized size) e = tt
may_always closed Keys (Asked control) e = e
may_always closed Net m e = tt

pub record Typed (c : Run) : Type 0 where
  pub latest : c.progress.closed ≡ false → c.sent ≡ c.history
  pub same : inputs c.sent ≡ inputs c.history

same_sent : (b : Bool) (sent h later : History) → inputs sent ≡ inputs h → inputs later ≡ inputs h → inputs (sent_after b sent later) ≡ inputs later
same_sent true sent h later e f = e ∙ sym f
same_sent false sent h later e f = refl

stood : (c new : Run) → new.sent ≡ c.sent → new.history ≡ c.history → (new.progress.closed ≡ false → c.progress.closed ≡ false) → Typed c → Typed new
stood c new e f g t = record { latest = λ o. e ∙ t.latest (g o) ∙ sym f; same = ap inputs e ∙ t.same ∙ sym (ap inputs f) }

turned : (c new : Run) (from : Origin) (m : Message) → new.sent ≡ c.sent → new.history ≡ c.history → new.progress ≡ after_message from m c.progress → Typed c
    → Typed new
turned c new from m e f g t = stood c new e f (λ o. opens from m c.progress (sym (ap (λ (p : ClientProgress). p.closed) g) ∙ o)) t

acts : (c new : Run) (from : Origin) (m : Message) → Acts c from m new → MayType c.progress.closed from m → Typed c → Typed new
acts c new Keys (Piece piece) a may t =
    let e = ap (λ (r : Run). r.sent) a ∙ sent_latest c.progress.closed c.sent (types c.history piece) may ∙ sym (ap (λ (r : Run). r.history) a) in
    record { latest = λ o. e; same = ap inputs e }
acts c new Net (Piece piece) a may t =
    let e = ap (λ (r : Run). r.sent) a.2 in
    let f = ap (λ (r : Run). r.history) a.2 in
    let g = ap (λ (r : Run). r.progress.closed) a.2 in
    record {
      latest = λ o. e ∙ sent_latest c.progress.closed c.sent (gets c.history a.0) (sym g ∙ o) ∙ sym f;
      same = ap inputs e ∙ same_sent c.progress.closed c.sent c.history (gets c.history a.0) t.same (inputs-gets c.history a.0) ∙ sym (ap inputs f);
    }
acts c new from (Resized size) a may t =
    let later = next c.history (resized size.width size.height) in
    let e = ap (λ (r : Run). r.sent) a in
    let f = ap (λ (r : Run). r.history) a in
    let g = ap (λ (r : Run). r.progress.closed) a in
    record {
      latest = λ o. e ∙ sent_latest c.progress.closed c.sent later (sym g ∙ o) ∙ sym f;
      same = ap inputs e ∙ same_sent c.progress.closed c.sent c.history later t.same refl ∙ sym (ap inputs f);
    }
acts c new Keys (Asked control) a may t =
    let e = ap (λ (r : Run). r.sent) a ∙ sent_latest c.progress.closed c.sent (next c.history (event_of control)) may
    ∙ sym (ap (λ (r : Run). r.history) a) in
    record { latest = λ o. e; same = ap inputs e }
acts c new Net (Asked control) a may t = stood c new (ap (λ (r : Run). r.sent) a) (ap (λ (r : Run). r.history) a)
    (λ o. sym (ap (λ (r : Run). r.progress.closed) a) ∙ o) t
acts c new from HangUp a may t = turned c new from HangUp (ap (λ (r : Run). r.sent) a) (ap (λ (r : Run). r.history) a) (ap (λ (r : Run). r.progress) a) t
acts c new from ReadFailed a may t = turned c new from ReadFailed (ap (λ (r : Run). r.sent) a) (ap (λ (r : Run). r.history) a)
    (ap (λ (r : Run). r.progress) a) t
acts c new from Take a may t = turned c new from Take (ap (λ (r : Run). r.sent) a) (ap (λ (r : Run). r.history) a) (ap (λ (r : Run). r.progress) a) t
acts c new from (Said job text after) a may t = turned c new from (Said job text after) (ap (λ (r : Run). r.sent) a) (ap (λ (r : Run). r.history) a)
    (ap (λ (r : Run). r.progress) a) t
acts c new from Refused a may t = turned c new from Refused (ap (λ (r : Run). r.sent) a) (ap (λ (r : Run). r.history) a) (ap (λ (r : Run). r.progress) a) t
acts c new from Left a may t = turned c new from Left (ap (λ (r : Run). r.sent) a) (ap (λ (r : Run). r.history) a) (ap (λ (r : Run). r.progress) a) t

handles : (o : Bool) (c new : Run) (x : Told) → ActsUnless o c x new → MayType c.progress.closed x.from x.message → Typed c → Typed new
handles true c new x a may t = stood c new (ap (λ (r : Run). r.sent) a) (ap (λ (r : Run). r.history) a) (λ o. sym (ap (λ (r : Run). r.progress.closed) a) ∙ o) t
handles false c new x a may t = acts c new x.from x.message a may t

turn_typed : (c new : Run) (x : Told) (k : ClientMark) → Turns c (x, k) new → MayType c.progress.closed x.from x.message → Typed c → Typed new
turn_typed c new x mark.Whole a may t = handles c.progress.over c new x a may t
turn_typed c new x mark.WriteFailed a may t = stood a.1 new (ap (λ (r : Run). r.sent) a.3) (ap (λ (r : Run). r.history) a.3)
    (λ o. sym (ap (λ (r : Run). r.progress.closed) a.3) ∙ o) (handles c.progress.over c a.1 x a.2 may t)
turn_typed c new x mark.ShowFailed a may t = stood a.1 new (ap (λ (r : Run). r.sent) a.3) (ap (λ (r : Run). r.history) a.3)
    (λ o. sym (ap (λ (r : Run). r.progress.closed) a.3) ∙ o) (handles c.progress.over c a.1 x a.2 may t)
turn_typed c new x (mark.Refused f) a may t = stood a.1 new (ap (λ (r : Run). r.sent) a.3) (ap (λ (r : Run). r.history) a.3)
    (λ o. sym (ap (λ (r : Run). r.progress.closed) a.3) ∙ o) (handles c.progress.over c a.1 x a.2 may t)

-- a message that leaves the network open
abbrev IsOpen : Origin → Message → Type 0
IsOpen Keys Left = ⊥
IsOpen _ _ = Unit {0}

acts_open : (c new : Run) (from : Origin) (m : Message) → IsOpen from m → Acts c from m new → new.progress.closed ≡ c.progress.closed
acts_open c new Keys (Piece piece) is a = ap (λ (r : Run). r.progress.closed) a
acts_open c new Net (Piece piece) is a = ap (λ (r : Run). r.progress.closed) a.2
acts_open c new Keys HangUp is a = ap (λ (r : Run). r.progress.closed) a
acts_open c new Net HangUp is a = ap (λ (r : Run). r.progress.closed) a
acts_open c new Keys ReadFailed is a = ap (λ (r : Run). r.progress.closed) a
acts_open c new Net ReadFailed is a = ap (λ (r : Run). r.progress.closed) a
acts_open c new Keys Take is a = ap (λ (r : Run). r.progress.closed) a
acts_open c new Net Take is a = ap (λ (r : Run). r.progress.closed) a
acts_open c new Keys (Said job text after) is a = ap (λ (r : Run). r.progress.closed) a
acts_open c new Net (Said job text after) is a = ap (λ (r : Run). r.progress.closed) a
acts_open c new Keys Refused is a = ap (λ (r : Run). r.progress.closed) a
acts_open c new Net Refused is a = ap (λ (r : Run). r.progress.closed) a
acts_open c new Keys Left is a = absurd is
acts_open c new Net Left is a = ap (λ (r : Run). r.progress.closed) a
acts_open c new Keys (Resized size) is a = ap (λ (r : Run). r.progress.closed) a
acts_open c new Keys (Asked control) is a = ap (λ (r : Run). r.progress.closed) a
acts_open c new Net (Resized size) is a = ap (λ (r : Run). r.progress.closed) a
acts_open c new Net (Asked control) is a = ap (λ (r : Run). r.progress.closed) a

handles_open : (o : Bool) (c new : Run) (x : Told) → IsOpen x.from x.message → ActsUnless o c x new → new.progress.closed ≡ c.progress.closed
handles_open true c new x is a = ap (λ (r : Run). r.progress.closed) a
handles_open false c new x is a = acts_open c new x.from x.message is a

turn_open : (c new : Run) (x : Told) (k : ClientMark) → IsOpen x.from x.message → Turns c (x, k) new → new.progress.closed ≡ c.progress.closed
turn_open c new x mark.Whole is a = handles_open c.progress.over c new x is a
turn_open c new x mark.WriteFailed is a = ap (λ (r : Run). r.progress.closed) a.3 ∙ handles_open c.progress.over c a.1 x is a.2
turn_open c new x mark.ShowFailed is a = ap (λ (r : Run). r.progress.closed) a.3 ∙ handles_open c.progress.over c a.1 x is a.2
turn_open c new x (mark.Refused f) is a = ap (λ (r : Run). r.progress.closed) a.3 ∙ handles_open c.progress.over c a.1 x is a.2

abbrev pub tolds : List (Told × ClientMark) → List Told
tolds ms = map (λ m. m.0) ms

typed_as : (c new : Run) → c ≡ new → Typed c → Typed new
typed_as c new e t = subst (λ (r : Run). Typed r) e t

-- if no key comes any more
record NoneFirst (closed : Bool) (from : Origin) (m : Message) (ms : List Message) : Type 0 where
  may : MayType closed from m
  later : NoInput ms

none_first : (closed : Bool) (from : Origin) (m : Message) (ms : List Message) → NoInput (keys_cons from m ms) → NoneFirst closed from m ms
none_first closed Net m ms n = record { may = tt; later = n }
none_first closed Keys (Piece piece) ms n = absurd n
none_first closed Keys HangUp ms n = record { may = tt; later = n }
none_first closed Keys ReadFailed ms n = record { may = tt; later = n }
none_first closed Keys Take ms n = record { may = tt; later = n }
none_first closed Keys (Said job text after) ms n = record { may = tt; later = n }
none_first closed Keys Refused ms n = record { may = tt; later = n }
none_first closed Keys Left ms n = record { may = tt; later = n }
none_first closed Keys (Resized size) ms n = record { may = tt; later = n }
none_first closed Keys (Asked control) ms n = absurd n

run_closed : (marked : List (Told × ClientMark)) (c new : Run) → Runs c marked new → NoInput (keys_messages (tolds marked)) → Typed c → Typed new
run_closed [] c new r n t = typed_as c new r t
run_closed ((x, k) ∷ marked) c new r n t =
    let f = none_first c.progress.closed x.from x.message (keys_messages (tolds marked)) n in
    run_closed marked r.0 new r.2 f.later (turn_typed c r.0 x k r.1 f.may t)

-- messages that come while keys may
pub data First (from : Origin) (m : Message) (ms : List Message) : Type 0 where
  last : NoInput ms → First from m ms
  more : IsOpen from m → LeftLast ms → First from m ms

first_of_keys : (from : Origin) (m : Message) (ms : List Message) → LeftLast (keys_cons from m ms) → First from m ms
first_of_keys Net m ms l = more tt l
first_of_keys Keys (Piece piece) ms l = more tt l
first_of_keys Keys HangUp ms l = more tt l
first_of_keys Keys ReadFailed ms l = more tt l
first_of_keys Keys Take ms l = more tt l
first_of_keys Keys (Said job text after) ms l = more tt l
first_of_keys Keys Refused ms l = more tt l
first_of_keys Keys Left ms l = last l
first_of_keys Keys (Resized size) ms l = more tt l
first_of_keys Keys (Asked control) ms l = more tt l

pub run_typed : (marked : List (Told × ClientMark)) (c new : Run) → Runs c marked new → c.progress.closed ≡ false → LeftLast (keys_messages (tolds marked)) →
    Typed c
    → Typed new
run_typed [] c new r open_now l t = typed_as c new r t
run_typed ((x, k) ∷ marked) c new r open_now l t = go (first_of_keys x.from x.message (keys_messages (tolds marked)) l)
    (turn_typed c r.0 x k r.1 (may_always c.progress.closed x.from x.message open_now) t) (run_typed marked r.0 new r.2)
  where
    go : First x.from x.message (keys_messages (tolds marked)) → Typed r.0
        → (r.0.progress.closed ≡ false → LeftLast (keys_messages (tolds marked)) → Typed r.0 → Typed new) → Typed new
    go (last n) u later = run_closed marked r.0 new r.2 n u
    go (more is l) u later = later (turn_open c r.0 x k is r.1 ∙ open_now) l u

-- the messages that Keys sends
told_last : (told : List Telling) (close : List Message) → LeftLast close → LeftLast (told_messages told ++ close)
told_last [] close l = l
told_last (piece_told p ∷ told) close l = told_last told close l
told_last (size_told s ∷ told) close l = told_last told close l
told_last (control_told c ∷ told) close l = told_last told close l

ending_last : (m : Message) (left : Option (List ℕ)) → IsEnding m left → LeftLast (m ∷ Left ∷ [])
ending_last (Piece p) left e = absurd e
ending_last HangUp left e = tt
ending_last ReadFailed left e = tt
ending_last Take left e = absurd e
ending_last (Said job text after) left e = absurd e
ending_last Refused left e = tt
ending_last Left left e = tt
ending_last (Resized size) left e = absurd e
ending_last (Asked control) left e = absurd e

closes_last : (may_stop : Bool) (pieces : List (List ℕ)) (left : Option (List ℕ)) (foretold : Option Failures) (close : List Message)
    → PlainlyCloses may_stop pieces left foretold close → LeftLast close
closes_last may_stop pieces left foretold close closes =
    ⊎_elim
    (λ x. subst (λ (l : List Message). LeftLast l) (sym x.2) (ending_last x.0 left x.1.0))
    (λ x. subst (λ (l : List Message). LeftLast l) (sym x.2) tt)
    closes

abbrev messages_in : List Mail → List Message
messages_in xs = map (λ x. x.message) xs

told_more : (s : Sender) (m : Message) (xs : List Mail) → keys_messages (all_told xs) ≡ messages_in (from sender.Keys xs)
    → keys_messages (all_told (mail s m ∷ xs)) ≡ messages_in (from sender.Keys (mail s m ∷ xs))
told_more sender.Keys m xs ih = ap (λ (l : List Message). m ∷ l) ih
told_more sender.Net m xs ih = ih
told_more sender.Desk m xs ih = ih
told_more sender.Back m xs ih = ih

told_all : (xs : List Mail) → keys_messages (all_told xs) ≡ messages_in (from sender.Keys xs)
told_all [] = refl
told_all (x ∷ xs) = told_more x.from x.message xs (told_all xs)

mailed : (ms : List Message) → messages_in (map (mail sender.Keys) ms) ≡ ms
mailed [] = refl
mailed (m ∷ ms) = ap (λ (l : List Message). m ∷ l) (mailed ms)

pub inputs_sent : (width height limit : ℕ) (marked : List (Told × ClientMark)) (new : Run) (handled : List Mail) (may_stop : Bool) (told : List Telling)
    (left : Option (List ℕ)) (foretold : Option Failures) (close : List Message)
    → Runs (start width height limit) marked new → tolds marked ≡ all_told handled
    → from sender.Keys handled ≡ map (mail sender.Keys) (told_messages told ++ close) → PlainlyCloses may_stop (pieces_in told) left foretold close
    → inputs new.sent ≡ inputs new.history
inputs_sent width height limit marked new handled may_stop told left foretold close runs is sent closes =
    let all = ap keys_messages is ∙ told_all handled ∙ ap messages_in sent ∙ mailed (told_messages told ++ close) in
    let l = subst (λ (ms : List Message). LeftLast ms) (sym all) (told_last told close (closes_last may_stop (pieces_in told) left foretold close closes)) in
    let t = run_typed marked (start width height limit) new runs refl l (record { latest = λ o. refl; same = refl }) in
    t.same
