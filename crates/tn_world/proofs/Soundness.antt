-- After any events, some history leads to each end, and the bytes that fly to an end that goes on are whole
-- items.
use Rattle.std.proofs.Common.{◌≡◌, ℕ, Bool, true, false, Some, None, List, [], ◌∷◌, ◌++◌, take, drop, refl, sym, ap, ◌∙◌, subst, if◌then◌else◌, append-nil}
use Rattle.std.proofs.lemmas.List.Elements.{All-nil, All-append}
use Rattle.std.specs.Prelude.{All}
use Rattle.tn_nvt.specs.{declared.items.Item.Item, Spelling.{lf, spells, Fits}, Feeding.{DecoderState, LeadsTo}}
use Rattle.tn_codes.specs.declared.codes.Verb.{Verb}
use Rattle.tn_option.specs.{EnginePair.TalkTo, Options.Options}
use Rattle.tn_option.proofs.lemmas.Agreement.{Moves, then-Moves}
use Rattle.tn_linemode.specs.OptionWords.{words_in}
use Rattle.tn_linemode.proofs.lemmas.OptionWords.{words_in-append}
use Rattle.tn_server.specs.Course as server_courses
use Rattle.tn_server.specs.Events as server_calls
use Rattle.tn_server.specs.{Faults.{IsOfItem, IsOfPiece}, declared.faults.ServerFault.ServerFault}
use Rattle.tn_server.specs.Replies as server_says
use Rattle.tn_server.specs.Answering as server_answers
use Rattle.tn_server.specs.Calls as server
use Rattle.tn_server.specs.Steps as server_steps
use Rattle.tn_server.specs.declared.faults.ServerFault.TheVariants as server_faults
use Rattle.tn_server.proofs.lemmas.Courses as server_on
use Rattle.tn_server.proofs.lemmas.Fitting as server_fits
use Rattle.tn_server.proofs.lemmas.Gathering as server_gathers
use Rattle.tn_server.proofs.lemmas.{Histories.limit-gets, Stopping.stands_stopped}
use Rattle.tn_server.proofs.lemmas.Leading as server_leads
use Rattle.tn_server.proofs.lemmas.Words as server_words
use Rattle.tn_client.specs.Course as client_courses
use Rattle.tn_client.specs.Events as client_calls
use Rattle.tn_client.specs.{Lines.line_limit, Steps.{end_after, says, end_after_items, says_items}, declared.faults.ClientFault.ClientFault}
use Rattle.tn_client.specs.declared.commands.UserCommand.{UserCommand}
use Rattle.tn_client.specs.Replies as client_says
use Rattle.tn_client.specs.Answering as answers
use Rattle.tn_client.specs.Calls as client
use Rattle.tn_client.proofs.lemmas.Standings.{stands, says_as, stands_all, says_all, stands_fed}
use Rattle.tn_client.specs.declared.faults.ClientFault.TheVariants as client_faults
use Rattle.tn_client.proofs.lemmas.Courses as client_on
use Rattle.tn_client.proofs.lemmas.Fitting as client_fits
use Rattle.tn_client.proofs.lemmas.Words as client_words
use Rattle.tn_world.specs.{Past.{HasPast, HasTalked, engines, opening_pair, WishesNothing}, Flight.InFlight, declared.{events.Event.Event, faults.Cause.Cause}}
use Rattle.tn_world.specs.Worlds.{World, Types, SendsCommand, CallsClient, DeliversToServer, DeliversToClient, CallsServer, TakesEntry, RunsEvent}
use Rattle.tn_world.specs.{Worlds.{ServerRefusesDelivery, ClientRefusesDelivery, Refuses, client_fault}, declared.events.Event.TheVariants.{ToServer, ToClient}}
use Rattle.tn_world.specs.declared.faults.Cause.TheVariants as cause
use Rattle.tn_world.proofs.Happening.{Done, unmoved, types, enters, sends, resizes, proposes, reaches, returns, asks, takes, stops, done_of}
use Rattle.tn_world.proofs.{Cut.{said_behind, cut_at}, Reading.all_parts, Saying.{says_no_wish, said_no_wish}}

-- a test that is true and false gives anything
pub opposite : (b : Bool) (A : Type 0) → b ≡ true → b ≡ false → A
opposite b A p q = absurd (cc)

-- ALL THAT IS SENT FITS A STREAM
pub asked_fit : (h : server_calls.History) (old : server.End) (e : server_calls.Event) → server.LeadsTo h old → All Fits (server_steps.says old e)
asked_fit h old e s = subst (All Fits) (server_leads.says_as h old e s) (server_fits.replies-fit h e)

later_fit : (all before said : List Item) → all ≡ before ++ said → All Fits all → All Fits said
later_fit all before said is fit = (all_parts Fits before said (subst (All Fits) is fit)).1

front_fit : (all part rest : List Item) → all ≡ part ++ rest → All Fits all → All Fits part
front_fit all part rest is fit = (all_parts Fits part rest (subst (All Fits) is fit)).0

pub feeds_fit : (h : server_calls.History) (old : server.End) (items : List Item) → server.LeadsTo h old → All Fits (server_steps.says_items old items)
feeds_fit h old items s = later_fit (server_says.items_said (server_calls.gets h items)) (server_says.items_said h) (server_steps.says_items old items)
    (server_leads.says_all h old items s) (server_fits.sent-fit (server_calls.gets h items))

first_fit : (h : server_calls.History) (end : server.End) (left part rest : List Item) → server.LeadsTo h end
    → server_answers.first_said end left ≡ part ++ rest → All Fits part
first_fit h end [] part rest s is = front_fit [] part rest is (All-nil Fits)
first_fit h end (item ∷ left) part rest s is = front_fit (server_steps.says_item end item) part rest is (asked_fit h end (server_calls.got item) s)

pub halts_fit : (h : server_calls.History) (old new : server.End) (piece before after : List ℕ) (fault : ServerFault) → server.LeadsTo h old
    → (x : server_answers.StopsWithin old piece fault before after new) → All Fits (server_steps.says_items old x.done ++ x.part)
halts_fit h old new piece before after fault s x =
    All-append Fits (server_steps.says_items old x.done) x.part (feeds_fit h old x.done s)
    (first_fit (server_calls.gets h x.done) (server_steps.end_after_items old x.done) x.left x.part x.rest (server_leads.stands_all h old x.done s) x.begins)

pub says_fit : (h : client_calls.History) (old : client.End) (e : client_calls.Event) → client.LeadsTo h old → All Fits (says old e)
says_fit h old e s = subst (All Fits) (says_as h old e s) (client_fits.replies-fit h e)

pub items_fit : (h : client_calls.History) (old : client.End) (items : List Item) → client.LeadsTo h old → All Fits (says_items old items)
items_fit h old items s = later_fit (client_says.items_said (client_calls.gets h items)) (client_says.items_said h) (says_items old items) (says_all h old items s)
    (client_fits.sent-fits (client_calls.gets h items))

gave_fit : (h : client_calls.History) (end : client.End) (left part : List Item) (here : DecoderState) (back : List ℕ) → client.LeadsTo h end
    → answers.IsStopCause end left part here back → All Fits part
gave_fit h end [] part here back s g = subst (All Fits) (sym g.0) (All-nil Fits)
gave_fit h end (item ∷ later) part here back s g = front_fit (says end (client_calls.got item)) part g.rest g.whole (says_fit h end (client_calls.got item) s)

pub breaks_fit : (h : client_calls.History) (old : client.End) (piece before after seen now stream : List ℕ) (had : List Item) → client.LeadsTo h old
    → LeadsTo stream had old.decoder → (x : answers.StopsWithin old piece before after seen now) → All Fits (says_items old x.done ++ x.part)
breaks_fit h old piece before after seen now stream had s r x =
    All-append Fits (says_items old x.done) x.part (items_fit h old x.done s)
    (gave_fit (client_calls.gets h x.done) (end_after_items old x.done) x.left x.part x.here x.back (stands_all h old x.done s) (x.cause stream had r))

-- WHO IS ASKED GOES ON
pub call_goes_on : (end : client.End) → client.call_fault end ≡ None → end.failed ≡ false
call_goes_on end e = by_test end.failed refl
  where
    by_test : (b : Bool) → end.failed ≡ b → end.failed ≡ false
    by_test true is = absurd (let f : (if true then Some client_faults.Failed else None)
        ≡ None = ap (λ (b : Bool). if b then Some client_faults.Failed else None) (sym is) ∙ e in cc)
    by_test false is = is

pub propose_goes_on : (end : client.End) (e : client_calls.Event) → client_fault end e ≡ None → end.failed ≡ false
propose_goes_on end (client_calls.proposed func value) e = by_test end.failed refl
  where
    by_test : (b : Bool) → end.failed ≡ b → end.failed ≡ false
    by_test true is = absurd (let f = ap (λ (b : Bool). client.propose_fault (record end { failed = b }) func value) (sym is) ∙ e in cc)
    by_test false is = is
propose_goes_on end _ e = call_goes_on end e

-- THE OPTION MESSAGES in flight
-- two engines of a server and a client, from their beginning
abbrev pub Lead : Options → Options → List (Verb × ℕ) → List (Verb × ℕ) → Type 0
Lead here there ws vs = HasTalked (record { here = here; there = there; to_here = ws; to_there = vs })

leads_on : (here there here2 there2 : Options) (ws vs ws2 vs2 : List (Verb × ℕ))
    → Moves (record { here = here; there = there; to_here = ws; to_there = vs }) (record { here = here2; there = there2; to_here = ws2; to_there = vs2 })
    → Lead here there ws vs → Lead here2 there2 ws2 vs2
leads_on here there here2 there2 ws vs ws2 vs2 m l = record { opening = l.opening; talk = then-Moves (opening_pair l.opening) _ _ l.talk m }

-- more is sent to the server, and to the client
said_there : (here there : Options) (xs said : List Item) (vs : List (Verb × ℕ)) → Lead here there (words_in xs ++ words_in said) vs
    → Lead here there (words_in (xs ++ said)) vs
said_there here there xs said vs l = subst (λ (x : List (Verb × ℕ)). Lead here there x vs) (sym (words_in-append xs said)) l

said_back : (here there : Options) (ws : List (Verb × ℕ)) (xs said : List Item) → Lead here there ws (words_in xs ++ words_in said)
    → Lead here there ws (words_in (xs ++ said))
said_back here there ws xs said l = subst (λ (x : List (Verb × ℕ)). Lead here there ws x) (sym (words_in-append xs said)) l

-- a call that sends no option message and leaves the options
wordless : (here there there2 : Options) (xs said : List Item) (vs : List (Verb × ℕ)) → there2 ≡ there → words_in said ≡ [] → Lead here there (words_in xs) vs
    → Lead here there2 (words_in (xs ++ said)) vs
wordless here there there2 xs said vs same none l =
    subst (λ (o : Options). Lead here o (words_in (xs ++ said)) vs) (sym same)
    (subst (λ (x : List (Verb × ℕ)). Lead here there x vs) (sym (words_in-append xs said ∙ ap (λ (t : List (Verb × ℕ)). words_in xs ++ t) none
    ∙ append-nil (words_in xs))) l)

-- the rest of a flight
split_there : (here there : Options) (all got left : List Item) (vs : List (Verb × ℕ)) → all ≡ got ++ left → Lead here there (words_in all) vs
    → Lead here there (words_in got ++ words_in left) vs
split_there here there all got left vs is l = subst (λ (x : List (Verb × ℕ)). Lead here there x vs) (ap words_in is ∙ words_in-append got left) l

split_back : (here there : Options) (ws : List (Verb × ℕ)) (all got left : List Item) → all ≡ got ++ left → Lead here there ws (words_in all)
    → Lead here there ws (words_in got ++ words_in left)
split_back here there ws all got left is l = subst (λ (x : List (Verb × ℕ)). Lead here there ws x) (ap words_in is ∙ words_in-append got left) l

-- EACH CALL AND DELIVERY
-- the invariant of a world, part by part
pub made : (w : World) (h : server_calls.History) → server.LeadsTo h w.server
    → (w.server.failed ≡ false → (c : server_courses.Course) × server_courses.CourseLeadsTo c w.server)
    → (w.client.failed ≡ false → (c : client_courses.Course) × client_courses.CourseLeadsTo c w.client)
    → (w.client.failed ≡ false → w.client.line.limit ≡ w.server.terminal.line.limit)
    → (w.server.failed ≡ false → w.server.terminal.closed ≡ false)
    → (there : w.server.failed ≡ false → (items : List Item) × InFlight w.server.decoder w.to_server items)
    → (here : w.client.failed ≡ false → (items : List Item) × InFlight w.client.decoder w.to_client items)
    → ((a : w.server.failed ≡ false) (b : w.client.failed ≡ false) → HasTalked (engines w (there a).0 (here b).0))
    → ((a : w.server.failed ≡ false) → w.client.failed ≡ false → All WishesNothing (there a).0) → HasPast w
made w h stands of_server of_client limit opened there here words unwished =
    record {
      history = h;
      server = stands;
      server_course = of_server;
      client_course = of_client;
      limit = limit;
      takes_keys = opened;
      to_server = there;
      to_client = here;
      words = words;
      unwished = unwished;
    }

-- a call of the client
abbrev told : World → client_calls.Event → World
told old e = record old { client = end_after old.client e; to_server = old.to_server ++ spells (says old.client e) }

module _ (old : World) (e : client_calls.Event) (call : client_courses.IsCall e) (runs : old.client.failed ≡ false) (s : HasPast old) where
  pub told_limit : (end_after old.client e).line.limit ≡ old.client.line.limit
  told_limit =
      let at = (s.client_course runs).1 in
      let before = at.leads in
      let after = stands at.history old.client e at.leads in
      after.limit ∙ sym before.limit

  pub told_sound : HasPast (told old e)
  told_sound =
      let course = s.client_course runs in
      let at = course.1 in
      let said = says old.client e in
      made (told old e) s.history s.server s.server_course (λ b. (client_courses.called course.0 e, client_on.called_at course.0 old.client e at call))
      (λ b. told_limit ∙ s.limit runs)
      s.takes_keys
      (λ a. let f = s.to_server a in (
        f.0 ++ said,
        said_behind old.server.decoder old.to_server (told old e).to_server f.0 said refl (says_fit at.history old.client e at.leads) f.1,
      ))
      (λ b. let f = s.to_client runs in (f.0, subst (λ d. InFlight d old.to_client f.0) (sym (client_on.call_decoder old.client e)) f.1))
      (λ a b. wordless old.server.terms.options old.client.options (told old e).client.options (s.to_server a).0 said (words_in (s.to_client runs).0)
      (client_words.keeps_options old.client e call) (client_words.says_none at.history old.client e call at.leads) (s.words a runs))
      (λ a b. All-append WishesNothing (s.to_server a).0 said (s.unwished a runs)
      (subst (All WishesNothing) (says_as at.history old.client e at.leads) (says_no_wish at.history e)))

-- the parts at which the invariant does not look
pub sound_as : (old new : World) → new.server ≡ old.server → new.client ≡ old.client → new.to_server ≡ old.to_server → new.to_client ≡ old.to_client
    → HasPast old → HasPast new
sound_as old new a b c d s =
    made new s.history (subst (server.LeadsTo s.history) (sym a) s.server)
    (λ r. let x = s.server_course (sym (ap (λ e. e.failed) a) ∙ r) in (x.0, subst (server_courses.CourseLeadsTo x.0) (sym a) x.1))
    (λ r. let x = s.client_course (sym (ap (λ e. e.failed) b) ∙ r) in (x.0, subst (client_courses.CourseLeadsTo x.0) (sym b) x.1))
    (λ r. ap (λ e. e.line.limit) b ∙ s.limit (sym (ap (λ e. e.failed) b) ∙ r) ∙ sym (ap (λ e. e.terminal.line.limit) a))
    (λ r. ap (λ (e : server.End). e.terminal.closed) a ∙ s.takes_keys (sym (ap (λ (e : server.End). e.failed) a) ∙ r))
    (λ r. let f = s.to_server (sym (ap (λ e. e.failed) a) ∙ r) in
    (f.0, subst (λ x. InFlight new.server.decoder x f.0) (sym c) (subst (λ e. InFlight e.decoder old.to_server f.0) (sym a) f.1)))
    (λ r. let f = s.to_client (sym (ap (λ e. e.failed) b) ∙ r) in
    (f.0, subst (λ x. InFlight new.client.decoder x f.0) (sym d) (subst (λ e. InFlight e.decoder old.to_client f.0) (sym b) f.1)))
    (λ p q.
    let p2 = sym (ap (λ e. e.failed) a) ∙ p in
    let q2 = sym (ap (λ e. e.failed) b) ∙ q in
    let ws = words_in (s.to_server p2).0 in
    let vs = words_in (s.to_client q2).0 in
    subst (λ (e : server.End). Lead e.terms.options new.client.options ws vs) (sym a)
    (subst (λ (e : client.End). Lead old.server.terms.options e.options ws vs) (sym b) (s.words p2 q2)))
    (λ p q. s.unwished (sym (ap (λ e. e.failed) a) ∙ p) (sym (ap (λ e. e.failed) b) ∙ q))

pub sound_types : (old new : World) (e : client_calls.Event) (key : ℕ) → client_courses.IsCall e → Types old e key new → HasPast old → HasPast new
sound_types old new e key call t s =
    subst (λ w. HasPast w) (sym t.step)
    (sound_as (told old e) _ refl refl refl refl (told_sound old e call (propose_goes_on old.client e t.accepted) s))

pub sound_sends : (old new : World) (command : UserCommand) → SendsCommand old command new → HasPast old → HasPast new
sound_sends old new command t s =
    subst (λ w. HasPast w) (sym t.step)
    (sound_as (told old (client_calls.sent command)) _ refl refl refl refl
    (told_sound old (client_calls.sent command) tt (propose_goes_on old.client (client_calls.sent command) t.accepted) s))

pub sound_tells : (old new : World) (e : client_calls.Event) → client_courses.IsCall e → CallsClient old e new → HasPast old → HasPast new
sound_tells old new e call t s = subst (λ w. HasPast w) (sym t.step) (told_sound old e call (propose_goes_on old.client e t.accepted) s)

-- a call of the server
abbrev asked : World → server_calls.Event → World
asked old e = record old { server = server_steps.end_after old.server e; to_client = old.to_client ++ spells (server_steps.says old.server e) }

pub asked_sound : (old : World) (e : server_calls.Event) → server_courses.IsCall e → HasPast old → HasPast (asked old e)
asked_sound old e call s =
    let end = server_steps.end_after old.server e in
    let said = server_steps.says old.server e in
    let keeps : end ≡ server_gathers.aside old.server.decoder old.server.failed old.server.terminal.closed end = server_gathers.call_keeps old.server e in
    let failed : end.failed ≡ old.server.failed = ap (λ (x : server.End). x.failed) keeps in
    let leads = server_leads.stands s.history old.server e s.server in
    let before = s.server in
    made (asked old e) (server_calls.next s.history e) leads
    (λ r. let x = s.server_course (sym failed ∙ r) in (server_courses.called x.0 e, server_on.called_on x.0 old.server e x.1 call))
    s.client_course
    (λ b. s.limit b ∙ before.limit ∙ sym leads.limit)
    (λ a. ap (λ (x : server.End). x.terminal.closed) keeps ∙ s.takes_keys (sym failed ∙ a))
    (λ a. let f = s.to_server (sym failed ∙ a) in
    (f.0, subst (λ d. InFlight d old.to_server f.0) (sym (ap (λ (x : server.End). x.decoder) keeps)) f.1))
    (λ b. let f = s.to_client b in (
      f.0 ++ said,
      said_behind old.client.decoder old.to_client (asked old e).to_client f.0 said refl (asked_fit s.history old.server e s.server) f.1,
    ))
    (λ a b.
    let ws = words_in (s.to_server (sym failed ∙ a)).0 in
    let y = (s.to_client b).0 in
    said_back end.terms.options old.client.options ws y said
    (leads_on old.server.terms.options old.client.options end.terms.options old.client.options ws (words_in y) ws (words_in y ++ words_in said)
    (server_words.event_moves s.history old.server e old.client.options ws (words_in y) call s.server) (s.words (sym failed ∙ a) b)))
    (λ a b. s.unwished (sym failed ∙ a) b)

pub sound_asks : (old new : World) (e : server_calls.Event) → server_courses.IsCall e → CallsServer old e new → HasPast old → HasPast new
sound_asks old new e call t s = subst (λ w. HasPast w) (sym t.step) (asked_sound old e call s)

pub sound_takes : (old new : World) → TakesEntry old new → HasPast old → HasPast new
sound_takes old new t s =
    subst (λ w. HasPast w) (sym t) (sound_as (asked old server_calls.took) _ refl refl refl refl (asked_sound old server_calls.took tt s))

-- a delivery to the server
pub sound_reaches : (old new : World) (n : ℕ) → DeliversToServer old n new → HasPast old → HasPast new
sound_reaches old new n t s =
    let f = t.feeds in
    let piece = take n old.to_server in
    let said = server_steps.says_items old.server f.items in
    let after = server_leads.stands_fed s.history old.server new.server piece old.to_client new.to_client f s.server in
    let before = s.server in
    let keeps = f.step ∙ ap (λ (x : server.End). record x { decoder = new.server.decoder }) (server_gathers.items_keep old.server f.items) in
    let failed : new.server.failed ≡ old.server.failed = ap (λ (x : server.End). x.failed) keeps in
    let runs : new.server.failed ≡ false → old.server.failed ≡ false = λ r. sym failed ∙ r in
    subst (λ w. HasPast w) (sym t.rest)
    (made (record old { server = new.server; to_server = drop n old.to_server; to_client = new.to_client }) (server_calls.gets s.history f.items) after
    (λ r. let x = s.server_course (runs r) in (
      server_courses.fed x.0 piece,
      server_on.fed_on x.0 old.server new.server piece old.to_client new.to_client x.1 f,
    ))
    s.client_course
    (λ b. s.limit b ∙ before.limit ∙ sym (limit-gets s.history f.items) ∙ sym after.limit)
    (λ a. ap (λ (x : server.End). x.terminal.closed) keeps ∙ s.takes_keys (runs a))
    (λ a. let x = s.to_server (runs a) in let d = cut_at old.server.decoder new.server.decoder n old.to_server x.0 f.items x.1 f.reads in (d.left, d.flight))
    (λ b. let x = s.to_client b in (
      x.0 ++ said,
      said_behind old.client.decoder old.to_client new.to_client x.0 said f.said (feeds_fit s.history old.server f.items s.server) x.1,
    ))
    (λ a b.
    let x = s.to_server (runs a) in
    let y = (s.to_client b).0 in
    let d = cut_at old.server.decoder new.server.decoder n old.to_server x.0 f.items x.1 f.reads in
    said_back new.server.terms.options old.client.options (words_in d.left) y said
    (subst (λ (e : server.End). Lead e.terms.options old.client.options (words_in d.left) (words_in y ++ words_in said)) (sym f.step)
    (leads_on old.server.terms.options old.client.options (server_steps.end_after_items old.server f.items).terms.options old.client.options
    (words_in f.items ++ words_in d.left) (words_in y) (words_in d.left) (words_in y ++ words_in said)
    (server_words.feeds_moves s.history old.server f.items old.client.options (words_in d.left) (words_in y) s.server)
    (split_there old.server.terms.options old.client.options x.0 f.items d.left (words_in y) d.all (s.words (runs a) b)))))
    (λ a b.
    let x = s.to_server (runs a) in
    let d = cut_at old.server.decoder new.server.decoder n old.to_server x.0 f.items x.1 f.reads in
    (all_parts WishesNothing f.items d.left (subst (All WishesNothing) d.all (s.unwished (runs a) b))).1))

-- a delivery to the client
line_limit-gets : (h : client_calls.History) (items : List Item) → line_limit (client_calls.gets h items) ≡ line_limit h
line_limit-gets h [] = refl
line_limit-gets h (item ∷ items) = line_limit-gets (client_calls.next h (client_calls.got item)) items

pub sound_returns : (old new : World) (n : ℕ) → DeliversToClient old n new → HasPast old → HasPast new
sound_returns old new n t s =
    let f = t.feeds in
    let piece = take n old.to_client in
    let runs = call_goes_on old.client t.accepted in
    let at = (s.client_course runs).1 in
    let before = at.leads in
    let after = stands_fed at.history old.client new.client piece old.to_server new.to_server old.shown new.shown f at.leads in
    let said = says_items old.client f.items in
    subst (λ w. HasPast w) (sym t.rest)
    (made (record old { client = new.client; to_client = drop n old.to_client; to_server = new.to_server; shown = new.shown }) s.history s.server
    s.server_course
    (λ r. let x = s.client_course runs in (
      client_courses.fed x.0 piece,
      client_on.fed_at x.0 old.client new.client piece old.to_server new.to_server old.shown new.shown x.1 f,
    ))
    (λ b. after.limit ∙ line_limit-gets at.history f.items ∙ sym before.limit ∙ s.limit runs)
    s.takes_keys
    (λ a. let x = s.to_server a in (
      x.0 ++ said,
      said_behind old.server.decoder old.to_server new.to_server x.0 said f.said (items_fit at.history old.client f.items at.leads) x.1,
    ))
    (λ b. let x = s.to_client runs in let d = cut_at old.client.decoder new.client.decoder n old.to_client x.0 f.items x.1 f.reads in (d.left, d.flight))
    (λ a b.
    let x = (s.to_server a).0 in
    let y = s.to_client runs in
    let d = cut_at old.client.decoder new.client.decoder n old.to_client y.0 f.items y.1 f.reads in
    said_there old.server.terms.options new.client.options x said (words_in d.left)
    (leads_on old.server.terms.options old.client.options old.server.terms.options new.client.options (words_in x) (words_in f.items ++ words_in d.left)
    (words_in x ++ words_in said) (words_in d.left)
    (client_words.feeds_moves at.history old.client new.client piece old.to_server new.to_server old.shown new.shown old.server.terms.options (words_in x)
    (words_in d.left) at.leads f)
    (split_back old.server.terms.options old.client.options (words_in x) y.0 f.items d.left d.all (s.words a runs))))
    (λ a b. All-append WishesNothing (s.to_server a).0 said (s.unwished a runs)
    (all_parts WishesNothing (client_says.items_said at.history) said
    (subst (All WishesNothing) (says_all at.history old.client f.items at.leads) (said_no_wish (client_calls.gets at.history f.items)))).1))

sound_done : (old new : World) (e : Event) → Done old e new → HasPast old → HasPast new
sound_done old new e (unmoved is) s = subst (λ w. HasPast w) (sym is) s
sound_done old new e (types key t) s = sound_types old new (client_calls.typed key) key tt t s
sound_done old new e (enters t) s = sound_types old new client_calls.entered lf tt t s
sound_done old new e (sends command is t) s = sound_sends old new command t s
sound_done old new e (resizes width height t) s = sound_tells old new (client_calls.resized width height) tt t s
sound_done old new e (proposes func value is t) s = sound_tells old new (client_calls.proposed func value) tt t s
sound_done old new e (reaches n t) s = sound_reaches old new n t s
sound_done old new e (returns n is t) s = sound_returns old new n t s
sound_done old new e (asks call is plain adds t) s = sound_asks old new call is t s
sound_done old new e (takes t) s = sound_takes old new t s
sound_done old new e (stops a b is) s = subst (λ w. HasPast w) (sym is) (sound_as old _ refl refl refl refl s)

pub sound_does : (old new : World) (e : Event) → RunsEvent old e new → HasPast old → HasPast new
sound_does old new e d s = sound_done old new e (done_of old new e d) s

-- REFUSALS
-- the server stood at the items that were done, or failed before
pub stood : (old : server.End) (new : server.End) (piece before after : List ℕ) (fault : ServerFault) (h : server_calls.History) → server.LeadsTo h old
    → (fault ≡ server_faults.Failed → new ≡ old) → (IsOfItem fault → server_answers.StopsWithin old piece fault before after new) → IsOfPiece fault
    → (items : List Item) × server.LeadsTo (server_calls.gets h items) new
stood old new piece before after (server_faults.Pty f) h s again halts of =
    let x = halts tt in (x.done, stands_stopped h old new piece before after (server_faults.Pty f) x s)
stood old new piece before after server_faults.Memory h s again halts of =
    let x = halts tt in (x.done, stands_stopped h old new piece before after server_faults.Memory x s)
stood old new piece before after server_faults.Failed h s again halts of = ([], subst (server.LeadsTo h) (sym (again refl)) s)
stood old new piece before after _ h s again halts of = absurd of

-- the bytes that it sent before it failed
pub record SaidOn (before after : List ℕ) : Type 0 where
  pub said : List Item
  pub appended : after ≡ before ++ spells said
  pub fit : All Fits said

pub said_on : (old new : server.End) (piece before after : List ℕ) (fault : ServerFault) (h : server_calls.History) → server.LeadsTo h old
    → (fault ≡ server_faults.Failed → after ≡ before) → (IsOfItem fault → server_answers.StopsWithin old piece fault before after new) → IsOfPiece fault
    → SaidOn before after
said_on old new piece before after (server_faults.Pty f) h s again halts of = let x =
    halts tt in record { said = server_steps.says_items old x.done ++ x.part; appended = x.said; fit = halts_fit h old new piece before after (server_faults.Pty f) s x }
said_on old new piece before after server_faults.Memory h s again halts of = let x =
    halts tt in record { said = server_steps.says_items old x.done ++ x.part; appended = x.said; fit = halts_fit h old new piece before after server_faults.Memory s x }
said_on old new piece before after server_faults.Failed h s again halts of =
    record { said = []; appended = again refl ∙ sym (append-nil before); fit = All-nil Fits }
said_on old new piece before after _ h s again halts of = absurd of

-- the server failed, at a piece or before
pub halts_sound : (old : World) (end : server.End) (piece left later : List ℕ) (fault : ServerFault) → (fault ≡ server_faults.Failed → end ≡ old.server)
    → (fault ≡ server_faults.Failed → later ≡ old.to_client) → (IsOfItem fault → server_answers.StopsWithin old.server piece fault old.to_client later end)
    → IsOfPiece fault → end.failed ≡ true → HasPast old → HasPast (record old { server = end; to_server = left; to_client = later })
halts_sound old end piece left later fault again none halts of failed s =
    let at = stood old.server end piece old.to_client later fault s.history s.server again halts of in
    let more = said_on old.server end piece old.to_client later fault s.history s.server none halts of in
    let before = s.server in
    let after = at.1 in
    made (record old { server = end; to_server = left; to_client = later }) (server_calls.gets s.history at.0) at.1
    (λ r. opposite end.failed _ failed r) s.client_course
    (λ b. s.limit b ∙ before.limit ∙ sym (limit-gets s.history at.0) ∙ sym after.limit)
    (λ r. opposite end.failed _ failed r)
    (λ r. opposite end.failed _ failed r)
    (λ b. let f = s.to_client b in (f.0 ++ more.said, said_behind old.client.decoder old.to_client later f.0 more.said more.appended more.fit f.1))
    (λ a b. opposite end.failed _ failed a)
    (λ a b. opposite end.failed _ failed a)

-- the client failed
pub breaks_sound : (old : World) (end : client.End) (piece left later seen : List ℕ) → old.client.failed ≡ false
    → answers.StopsWithin old.client piece old.to_server later old.shown seen → end.failed ≡ true → HasPast old
    → HasPast (record old { client = end; to_client = left; to_server = later; shown = seen })
breaks_sound old end piece left later seen runs x failed s =
    let at = s.client_course runs in
    let here = at.1 in
    made (record old { client = end; to_client = left; to_server = later; shown = seen }) s.history s.server s.server_course
    (λ r. opposite end.failed _ failed r) (λ r. opposite end.failed _ failed r) s.takes_keys
    (λ a. let f = s.to_server a in (
      f.0 ++ (says_items old.client x.done ++ x.part),
      said_behind old.server.decoder old.to_server later f.0 (says_items old.client x.done ++ x.part) x.said
          (breaks_fit here.history old.client piece old.to_server later old.shown seen (client_courses.stream at.0)
          (client_calls.items here.history) here.leads here.reads x) f.1,
    ))
    (λ r. opposite end.failed _ failed r)
    (λ a b. opposite end.failed _ failed b)
    (λ a b. opposite end.failed _ failed b)

-- the client had failed before
pub again_sound : (old : World) (left : List ℕ) → old.client.failed ≡ true → HasPast old → HasPast (record old { to_client = left })
again_sound old left failed s =
    made (record old { to_client = left }) s.history s.server s.server_course s.client_course s.limit s.takes_keys s.to_server
    (λ r. opposite old.client.failed _ failed r) (λ a b. opposite old.client.failed _ failed b) (λ a b. opposite old.client.failed _ failed b)

-- A refusal changed nothing, or it was of a delivery.
pub data Refusal (old : World) (e : Event) (new : World) : Type 0 where
  unchanged : new ≡ old → Refusal old e new
  by_server : (n : ℕ) (fault : ServerFault) → e ≡ ToServer n → ServerRefusesDelivery old n fault new → Refusal old e new
  by_client : (n : ℕ) (fault : ClientFault) → e ≡ ToClient n → ClientRefusesDelivery old n fault new → Refusal old e new

pub refusal_of : (old new : World) (e : Event) (c : Cause) → Refuses old e c new → Refusal old e new
refusal_of old new e cause.Memory r = unchanged r.1
refusal_of old new (ToServer n) (cause.Server fault) r = by_server n fault refl r
refusal_of old new (ToClient n) (cause.Client fault) r = by_client n fault refl r
refusal_of old new e (cause.Server fault) r = unchanged r.1
refusal_of old new e (cause.Client fault) r = unchanged r.1
