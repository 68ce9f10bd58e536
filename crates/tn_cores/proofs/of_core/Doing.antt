-- The effect of one message.
use Rattle.std.proofs.Common.{◌≡◌, ◌<◌, All, ℕ, Bool, true, false, if◌then◌else◌, Option, Some, None, Result, Ok, Err, OnOk, OnErr, List, [], ◌++◌, refl, sym}
use Rattle.std.proofs.{Common.{ap, ◌∙◌, subst, append-nil, append_assoc}, lemmas.List.Elements.{All-append, All-nil}}
use Rattle.tn_client.proofs.lemmas.{Gathering.{says_both, shown_both}, Standings.{stands, says_as, displays_as, says_all, shows_all, stands_fed, fed_failed}}
use Rattle.tn_client.proofs.lemmas.{Courses.{items-call, call_decoder, call_failed}, Histories.items-gets, Stopping.front_said}
use Rattle.tn_client.specs.{Course.IsCall, Steps.{end_after, says, displays, end_after_items, says_items, items_shown}, Answering.Untouched}
use Rattle.tn_client.specs.{Calls.{End, IsFault, call_fault}, Events.{History, begun, next, resized, gets, items}, Replies.{items_said, replies}}
use Rattle.tn_client.specs.{Screen.{shows, text_shown}, declared.{commands.UserCommand.UserCommand, faults.ClientFault.ClientFault}}
use Rattle.tn_client.specs.Answering as answers
use Rattle.tn_client.specs.Calls as client
use Rattle.tn_client.specs.Events as client_events
use Rattle.tn_client.specs.declared.faults.ClientFault.TheVariants as client_fault
use Rattle.tn_cores.proofs.of_core.Typing.{items-types, said_front, shown_front, stands_keys, said_keys, shown_keys, decoder_keys, failed_keys}
use Rattle.tn_cores.proofs.lemmas.Pieces.{read_on, read_as}
use Rattle.tn_cores.specs.client.{Commands.{command_of, event_by, event_of}, Counting.{nothing_yet, after_piece, after_message}}
use Rattle.tn_cores.specs.{client.Reaching.{LeadsTo, says_keys, shows_keys, TypesAll, TypesPrefix, DoesWhole, StopsWithin}, declared.client.machine.Core.Core}
use Rattle.tn_cores.specs.client.Run.{Run, resize, send, Reads, Acts, ActsUnless, Handles, types, type_keys, feed, turns, start, sent_after}
use Rattle.tn_cores.specs.declared.client.{messages.{Origin.{Origin, TheVariants.{Keys, Net}}, Told.Told}, progress.ClientProgress.ClientProgress}
use Rattle.tn_cores.specs.declared.messages.Message.{Message, TheVariants.{Piece, HangUp, ReadFailed, Take, Said, Refused, Left, Resized, Asked}}
use Rattle.tn_cores.specs.declared.streams.{control.Control.Control, window.WindowSize.WindowSize}
use Rattle.tn_nvt.proofs.lemmas.Reading.{spells-append}
use Rattle.tn_nvt.specs.{Feeding.DecoderState, Spelling.spells, declared.items.Item.Item}
use Rattle.tn_nvt.specs.Feeding as nvt

-- the core is over: nothing is known of its end
pub is_over : (c : Run) (core : Core) → core.progress.over ≡ true → core.progress ≡ c.progress → LeadsTo c core
is_over c core off is = record {
  live = λ on. absurd (true_false (sym off ∙ on));
  progress = is;
}
  where
    true_false : true ≡ false → ⊥
    true_false e = cc

-- while messages have their effect, one that acts is handled
pub handled : (c new : Run) (old : Core) (told : Told) → old.progress.over ≡ false → LeadsTo c old → Acts c told.from told.message new → Handles c told new
handled c new old told on at acts =
    let P : Bool → Type 0 = λ b. ActsUnless b c told new in
    subst P (sym on ∙ ap (λ (p : ClientProgress). p.over) at.progress) acts

-- nothing goes to the network once it is closed
sent_kept : (b : Bool) (sent h : History) → (b ≡ false → sent ≡ h) → sent ≡ sent_after b sent h
sent_kept true sent h e = refl
sent_kept false sent h e = e refl

sent_open : (b : Bool) (sent h : History) → b ≡ false → sent_after b sent h ≡ h
sent_open true sent h e = cc
sent_open false sent h e = refl

-- KEYS
typed_leads : (keys : List ℕ) (old new : Core) (end : End) (x y u v : List ℕ) → old.progress.over ≡ false
    → new ≡ record { end = end; progress = after_piece old.progress } → TypesAll old.end keys x y u v end → (c : Run) → LeadsTo c old
    → LeadsTo (type_keys keys c) new
typed_leads keys old new end x y u v on is t c at = rw is (record {
  live = λ _.
      let l = at.live on in
      record {
        leads = subst (client.LeadsTo (types c.history keys)) (sym t.step) (stands_keys c.history old.end keys l.leads);
        read = read_as old.end.decoder end.decoder c.stream (items c.history) (items (types c.history keys))
            (ap (λ (e : End). e.decoder) t.step ∙ decoder_keys old.end keys) (items-types c.history keys) l.read;
        bytes = l.bytes;
        failed = ap (λ (e : End). e.failed) t.step ∙ failed_keys old.end keys ∙ l.failed;
        latest = λ e. sent_open c.progress.closed c.sent (types c.history keys) e;
      };
  progress = ap after_piece at.progress;
})

pub does_keys : (keys : List ℕ) (old new : Core) (end : End) (x y u v : List ℕ) → old.progress.over ≡ false
    → new ≡ record { end = end; progress = after_piece old.progress } → TypesAll old.end keys x y u v end
    → DoesWhole old (record { from = Keys; message = Piece keys }) x y u v new
does_keys keys old new end x y u v on is t = record {
  said = says_keys old.end keys;
  text = shows_keys old.end keys;
  appended = t.said;
  displayed = t.shown;
  leads = λ c at.
      let told : Told = record { from = Keys; message = Piece keys } in (
        type_keys keys c,
        handled c (type_keys keys c) old told on at refl,
        typed_leads keys old new end x y u v on is t c at,
        refl,
        said_keys c.history old.end keys (at.live on).leads,
        shown_keys c.history old.end keys (at.live on).leads,
      );
}

pub stops_keys : (keys : List ℕ) (old new : Core) (end : End) (x y u v : List ℕ) → old.progress.over ≡ false
    → new ≡ record { end = end; progress = after_piece old.progress } → TypesPrefix old.end keys x y u v end
    → StopsWithin old (record { from = Keys; message = Piece keys }) x y u v new
stops_keys keys old new end x y u v on is (front, back, e, t) = record {
  part = spells (says_keys old.end front);
  text = shows_keys old.end front;
  appended = t.said;
  displayed = t.shown;
  leads = λ c at.
      let told : Told = record { from = Keys; message = Piece keys } in
      let h = c.history in
      let s = (at.live on).leads in (
        type_keys keys c,
        handled c (type_keys keys c) old told on at refl,
        ap (λ (core : Core). core.progress) is ∙ ap after_piece at.progress,
        refl,
        said_front h keys front back (says_keys old.end front) e (said_keys h old.end front s),
        shown_front h keys front back (shows_keys old.end front) e (shown_keys h old.end front s),
      );
}

-- THE NETWORK
pub does_feed : (piece : List ℕ) (old new : Core) (end : End) (x y u v : List ℕ) → All (λ b. b < 256) piece → old.progress.over ≡ false
    → new ≡ record { end = end; progress = after_piece old.progress } → answers.Feeds old.end piece x y u v end
    → DoesWhole old (record { from = Net; message = Piece piece }) x y u v new
does_feed piece old new end x y u v small on is f = record {
  said = says_items old.end f.items;
  text = items_shown f.items;
  appended = f.said;
  displayed = f.shown;
  leads = λ c at.
      let told : Told = record { from = Net; message = Piece piece } in
      let l = at.live on in
      let whole = feed piece f.items c in
      let r = f.reads c.stream (items c.history) l.read in
      let leads : LeadsTo whole new = rw is (record {
        live = λ _. record {
          leads = stands_fed c.history old.end end piece x y u v f l.leads;
          read = rw (items-gets c.history f.items) r;
          bytes = All-append (λ b. b < 256) c.stream piece l.bytes small;
          failed = fed_failed old.end end piece x y u v f ∙ l.failed;
          latest = λ e. sent_open c.progress.closed c.sent (gets c.history f.items) e;
        };
        progress = ap after_piece at.progress;
      }) in (
        whole,
        handled c whole old told on at (f.items, (r.rest, r.reading), refl),
        leads,
        refl,
        says_all c.history old.end f.items l.leads,
        shows_all c.history f.items,
      );
}

-- the items of the whole piece go on from those of its front
pub read_past : (piece : List ℕ) (old : Core) (x y u v : List ℕ) → All (λ b. b < 256) piece → old.progress.over ≡ false
    → (f : answers.StopsWithin old.end piece x y u v) → (c : Run) → LeadsTo c old → (more : List Item) × Reads c piece (f.done ++ (f.left ++ more))
read_past piece old x y u v small on f c at =
    let l = at.live on in
    let before = f.reads c.stream (items c.history) l.read in
    read_on c.stream piece f.front f.back (items c.history) f.done f.left l.bytes small f.whole (before.rest, before.reading)

pub stops_feed : (piece : List ℕ) (old new : Core) (end : End) (x y u v : List ℕ) → All (λ b. b < 256) piece → old.progress.over ≡ false
    → new ≡ record { end = end; progress = after_piece old.progress } → answers.StopsWithin old.end piece x y u v
    → StopsWithin old (record { from = Net; message = Piece piece }) x y u v new
stops_feed piece old new end x y u v small on is f = record {
  part = spells (says_items old.end f.done ++ f.part);
  text = items_shown f.done;
  appended = f.said;
  displayed = f.shown;
  leads = λ c at.
      let told : Told = record { from = Net; message = Piece piece } in
      let l = at.live on in
      let h = c.history in
      let past = read_past piece old x y u v small on f c at in
      let more : List Item = past.0 in
      let xs : List Item = f.done ++ (f.left ++ more) in
      let here : List Item = says_items old.end f.done ++ f.part in
      let r = front_said (end_after_items old.end f.done) f.left more f.part f.here f.back (f.cause c.stream (items h) l.read) in
      let said : items_said (gets h xs) ≡ items_said h ++ (here ++ r.0) =
      says_all h old.end xs l.leads
      ∙ ap (λ (ys : List Item). items_said h ++ ys) (says_both old.end f.done (f.left ++ more)
      ∙ ap (λ (ys : List Item). says_items old.end f.done ++ ys) r.1 ∙ sym (append_assoc (says_items old.end f.done) f.part r.0)) in (
        feed piece xs c,
        handled c (feed piece xs c) old told on at (xs, past.1, refl),
        ap (λ (core : Core). core.progress) is ∙ ap after_piece at.progress,
        refl,
        (
          spells r.0,
          ap spells said ∙ spells-append (items_said h) (here ++ r.0) ∙ ap (λ (bs : List ℕ). spells (items_said h) ++ bs) (spells-append here r.0),
        ),
        (
          items_shown (f.left ++ more),
          shows_all h xs ∙ ap (λ (bs : List ℕ). text_shown h ++ bs) (shown_both f.done (f.left ++ more)),
        ),
      );
}

-- an end that had failed is fed nothing, but a run never leads there
pub stops_failed : (piece : List ℕ) (old new : Core) (x y u v : List ℕ) → old.progress.over ≡ false → old.end.failed ≡ true → y ≡ x → v ≡ u
    → StopsWithin old (record { from = Net; message = Piece piece }) x y u v new
stops_failed piece old new x y u v on failed same stays = record {
  part = [];
  text = [];
  appended = same ∙ sym (append-nil x);
  displayed = stays ∙ sym (append-nil u);
  leads = λ c at. absurd (true_false (sym failed ∙ (at.live on).failed));
}
  where
    true_false : true ≡ false → ⊥
    true_false e = cc

pub feed_stops : (piece : List ℕ) (old new : Core) (end : End) (x y u v : List ℕ) (f : ClientFault) → All (λ b. b < 256) piece → old.progress.over ≡ false
    → new ≡ record { end = end; progress = after_piece old.progress } → IsFault (call_fault old.end) f
    → (f ≡ client_fault.Memory → answers.StopsWithin old.end piece x y u v) → (f ≡ client_fault.Failed → Untouched old.end x y u v end)
    → StopsWithin old (record { from = Net; message = Piece piece }) x y u v new
feed_stops piece old new end x y u v f small on is why memory failed = by_test old.end.failed refl why
  where
    by_test : (b : Bool) → old.end.failed ≡ b → IsFault (if b then Some client_fault.Failed else None) f
        → StopsWithin old (record { from = Net; message = Piece piece }) x y u v new
    by_test true e cause = let same = failed cause in stops_failed piece old new x y u v on e same.out same.screen
    by_test false e cause = stops_feed piece old new end x y u v small on is (memory cause)

-- A CALL of the owner: the window, a command, a new line
module _ (e : client_events.Event) (call : IsCall e) (old new : Core) (x y u v : List ℕ) (on : old.progress.over ≡ false) (is : new ≡ record old { end = new.end })
    (step : new.end ≡ end_after old.end e) (out : y ≡ x ++ spells (says old.end e)) (shown : v ≡ u ++ displays old.end e) where
  call_leads : (c whole : Run) → LeadsTo c old → whole.history ≡ next c.history e → whole.stream ≡ c.stream → whole.progress ≡ c.progress
      → whole.sent ≡ sent_after c.progress.closed c.sent whole.history → LeadsTo whole new
  call_leads c whole at history stream progress sent = record {
    live = λ _.
        let l = at.live on in
        record {
          leads = subst (λ (h : History). client.LeadsTo h new.end) (sym history) (subst (client.LeadsTo (next c.history e)) (sym step)
              (stands c.history old.end e l.leads));
          read = rw (history, stream) (read_as old.end.decoder new.end.decoder c.stream (items c.history) (items (next c.history e))
              (ap (λ (x : End). x.decoder) step ∙ call_decoder old.end e) (items-call c.history e call) l.read);
          bytes = subst (All (λ b. b < 256)) (sym stream) l.bytes;
          failed = ap (λ (x : End). x.failed) step ∙ call_failed old.end e ∙ l.failed;
          latest = λ closed. sent ∙ sent_open c.progress.closed c.sent whole.history (sym (ap (λ (p : ClientProgress). p.closed) progress) ∙ closed);
        };
    progress = ap (λ (core : Core). core.progress) is ∙ at.progress ∙ sym progress;
  }

  call_done : (told : Told) → (whole : Run → Run) → ((c : Run) → (whole c).history ≡ next c.history e) → ((c : Run) → (whole c).stream ≡ c.stream)
      → ((c : Run) → (whole c).progress ≡ c.progress) → ((c : Run) → (whole c).sent ≡ sent_after c.progress.closed c.sent (whole c).history)
      → ((c : Run) → Acts c told.from told.message (whole c)) → DoesWhole old told x y u v new
  call_done told whole history stream progress sent acts = record {
    said = says old.end e;
    text = displays old.end e;
    appended = out;
    displayed = shown;
    leads = λ c at. (
      whole c,
      handled c (whole c) old told on at (acts c),
      call_leads c (whole c) at (history c) (stream c) (progress c) (sent c),
      sent c,
      ap items_said (history c) ∙ ap (λ (xs : List Item). items_said c.history ++ xs) (says_as c.history old.end e (at.live on).leads),
      ap text_shown (history c) ∙ ap (λ (bs : List ℕ). text_shown c.history ++ bs) (displays_as c.history old.end e (at.live on).leads),
    );
  }

pub does_resize : (from : Origin) (size : WindowSize) (old new : Core) (x y u : List ℕ) → old.progress.over ≡ false → new ≡ record old { end = new.end }
    → new.end ≡ end_after old.end (resized size.width size.height) → y ≡ x ++ spells (says old.end (resized size.width size.height))
    → DoesWhole old (record { from = from; message = Resized size }) x y u u new
does_resize from size old new x y u on is step out = call_done (resized size.width size.height) tt old new x y u u on is step out (sym (append-nil u))
    (record { from = from; message = Resized size }) (λ c. resize size c) (λ c. refl) (λ c. refl) (λ c. refl) (λ c. refl) (λ c. refl)

pub stops_resize : (from : Origin) (size : WindowSize) (old new : Core) (x y u : List ℕ) → old.progress.over ≡ false → new ≡ record old { end = new.end }
    → y ≡ x → StopsWithin old (record { from = from; message = Resized size }) x y u u new
stops_resize from size old new x y u on is same = record {
  part = [];
  text = [];
  appended = same ∙ sym (append-nil x);
  displayed = sym (append-nil u);
  leads = λ c at.
      let told : Told = record { from = from; message = Resized size } in
      let h = c.history in
      let said = replies h (resized size.width size.height) in (
        resize size c,
        handled c (resize size c) old told on at refl,
        ap (λ (core : Core). core.progress) is ∙ at.progress,
        refl,
        (spells said, spells-append (items_said h) said),
        ([], refl),
      );
}

-- a request is a call
asked_calls : (command : Option UserCommand) → IsCall (event_by command)
asked_calls (Some command) = tt
asked_calls None = tt

pub does_send : (control : Control) (old new : Core) (x y u v : List ℕ) → old.progress.over ≡ false → new ≡ record old { end = new.end }
    → new.end ≡ end_after old.end (event_of control) → y ≡ x ++ spells (says old.end (event_of control)) → v ≡ u ++ displays old.end (event_of control)
    → DoesWhole old (record { from = Keys; message = Asked control }) x y u v new
does_send control old new x y u v on is step out shown =
    call_done (event_of control) (asked_calls (command_of control)) old new x y u v on is step out shown (record { from = Keys; message = Asked control })
    (λ c. send control c) (λ c. refl) (λ c. refl) (λ c. refl) (λ c. refl) (λ c. refl)

pub stops_send : (control : Control) (old new : Core) (x y u v : List ℕ) → old.progress.over ≡ false → new ≡ record old { end = new.end } → y ≡ x → v ≡ u
    → StopsWithin old (record { from = Keys; message = Asked control }) x y u v new
stops_send control old new x y u v on is same stays = record {
  part = [];
  text = [];
  appended = same ∙ sym (append-nil x);
  displayed = stays ∙ sym (append-nil u);
  leads = λ c at.
      let told : Told = record { from = Keys; message = Asked control } in
      let h = c.history in
      let said = replies h (event_of control) in (
        send control c,
        handled c (send control c) old told on at refl,
        ap (λ (core : Core). core.progress) is ∙ at.progress,
        refl,
        (spells said, spells-append (items_said h) said),
        (shows h (event_of control), refl),
      );
}

-- the network has no user who asks
pub does_not_send : (control : Control) (old : Core) (x u : List ℕ) → old.progress.over ≡ false
    → DoesWhole old (record { from = Net; message = Asked control }) x x u u old
does_not_send control old x u on = record {
  said = [];
  text = [];
  appended = sym (append-nil x);
  displayed = sym (append-nil u);
  leads = λ c at.
      let told : Told = record { from = Net; message = Asked control } in (
        c,
        handled c c old told on at refl,
        at,
        sent_kept c.progress.closed c.sent c.history (at.live on).latest,
        sym (append-nil (items_said c.history)),
        sym (append-nil (text_shown c.history)),
      );
}

-- if it shows nothing, for any text that was shown before
pub shows_ok : {T E : Type 0} (r : Result T E) (P : List ℕ → Type 0) (seen : List ℕ) → OnOk r ((u : List ℕ) → P u) → OnOk r (P seen)
shows_ok (Ok x) P seen h = h seen
shows_ok (Err e) P seen h = tt

pub shows_err : {T E : Type 0} (r : Result T E) (P : List ℕ → Type 0) (seen : List ℕ) → OnErr r ((u : List ℕ) → P u) → OnErr r (P seen)
shows_err (Ok x) P seen h = tt
shows_err (Err e) P seen h = h seen

-- OTHER MESSAGES
-- a message that brings no bytes, no size, and asks for no command
abbrev pub IsPlain : Message → Type 0
IsPlain (Piece piece) = ⊥
IsPlain (Resized size) = ⊥
IsPlain (Asked control) = ⊥
IsPlain _ = Unit {0}

acts_plain : (c : Run) (from : Origin) (m : Message) → IsPlain m → Acts c from m (turns (after_message from m) c)
acts_plain c from (Piece piece) plain = absurd plain
acts_plain c from (Resized size) plain = absurd plain
acts_plain c from (Asked control) plain = absurd plain
acts_plain c from _ plain = refl

-- if more goes to the network than before, nothing had been closed
still_open : (from : Origin) (m : Message) (p : ClientProgress) → (after_message from m p).closed ≡ false → p.closed ≡ false
still_open Net HangUp p e = e
still_open Net ReadFailed p e = e
still_open Keys ReadFailed p e = e
still_open Keys Left p e = cc
still_open Keys Refused p e = e
still_open Net Refused p e = e
still_open Keys (Piece piece) p e = e
still_open Keys HangUp p e = e
still_open Keys Take p e = e
still_open Keys (Said job text after) p e = e
still_open Net (Piece piece) p e = e
still_open Net Take p e = e
still_open Net (Said job text after) p e = e
still_open Net Left p e = e
still_open Keys (Resized size) p e = e
still_open Net (Resized size) p e = e
still_open Keys (Asked control) p e = e
still_open Net (Asked control) p e = e

-- a network that is closed stays closed
pub stays_closed : (from : Origin) (m : Message) (p : ClientProgress) → p.closed ≡ true → (after_message from m p).closed ≡ true
stays_closed from m p e = by (after_message from m p).closed refl
  where
    by : (b : Bool) → (after_message from m p).closed ≡ b → (after_message from m p).closed ≡ true
    by true is = is
    by false is = let open_before = still_open from m p is in cc

pub does_step : (told : Told) (old new : Core) (x u : List ℕ) → IsPlain told.message → old.progress.over ≡ false
    → new ≡ record old { progress = after_message told.from told.message old.progress } → DoesWhole old told x x u u new
does_step told old new x u plain on is = record {
  said = [];
  text = [];
  appended = sym (append-nil x);
  displayed = sym (append-nil u);
  leads = λ c at.
      let step = after_message told.from told.message in
      let l = at.live on in
      let leads : LeadsTo (turns step c) new = rw is (record {
        live = λ _. record {
          leads = l.leads;
          read = l.read;
          bytes = l.bytes;
          failed = l.failed;
          latest = λ e. l.latest (still_open told.from told.message c.progress e);
        };
        progress = ap step at.progress;
      }) in (
        turns step c,
        handled c (turns step c) old told on at (acts_plain c told.from told.message plain),
        leads,
        sent_kept c.progress.closed c.sent c.history l.latest,
        sym (append-nil (items_said c.history)),
        sym (append-nil (text_shown c.history)),
      );
}

-- the end is started
pub starts : (width height limit : ℕ) (end : End) (core : Core) → client.LeadsTo (begun width height limit) end → nvt.LeadsTo [] [] end.decoder
    → end.failed ≡ false → core ≡ record { end = end; progress = nothing_yet } → LeadsTo (start width height limit) core
starts width height limit end core s r runs is = rw is (record {
  live = λ _. record {
    leads = s;
    read = r;
    bytes = All-nil (λ b. b < 256);
    failed = runs;
    latest = λ e. refl;
  };
  progress = refl;
})

pub is_plain : (m : Message) → ((piece : List ℕ) → m ≡ Piece piece → ⊥) → ((size : WindowSize) → m ≡ Resized size → ⊥)
    → ((control : Control) → m ≡ Asked control → ⊥) → IsPlain m
is_plain (Piece piece) other unsized unasked = other piece refl
is_plain (Resized size) other unsized unasked = unsized size refl
is_plain (Asked control) other unsized unasked = unasked control refl
is_plain _ other unsized unasked = tt
