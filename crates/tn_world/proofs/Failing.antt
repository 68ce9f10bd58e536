-- The facts that hold once an end has failed: the entries that were made still begin those that the keys
-- give.
use Rattle.std.proofs.Common.{◌≡◌, inl, inr, ℕ, Bool, true, false, Option, Some, None, List, [], ◌∷◌, ◌++◌, take, drop, refl, sym, ap, ◌∙◌, if◌then◌else◌}
use Rattle.std.proofs.{Common.{subst, append-nil, append_assoc}, lemmas.List.{take-append-drop, Elements.All-append}}
use Rattle.std.specs.Prelude.{All, option_to_list}
use Rattle.tn_discipline.specs.{Canon.{Canon, typed_half}, Keys.role_of_key, Steps.gain_next, declared.reads.Entry.Entry}
use Rattle.tn_nvt.specs.{declared.items.Item.Item, Spelling.{lf, Fits, spells}, Stream.Reading, Feeding.{DecoderState, Advances}, Prefixes.IsPrefixOf}
use Rattle.tn_nvt.proofs.lemmas.Reading.{delivers}
use Rattle.tn_server.specs.Events as server_calls
use Rattle.tn_server.specs.{Faults.{IsOfItem, IsOfPiece}, Steps.{end_after as end_there, says as says_there, end_after_items as end_all_there}}
use Rattle.tn_server.specs.declared.faults.ServerFault.{ServerFault}
use Rattle.tn_server.specs.Answering as server_answers
use Rattle.tn_server.specs.Calls as server
use Rattle.tn_server.proofs.lemmas.Gathering.{call_keeps}
use Rattle.tn_server.specs.declared.faults.ServerFault.TheVariants as server_faults
use Rattle.tn_client.specs.Course as client_courses
use Rattle.tn_client.specs.Events as client_calls
use Rattle.tn_client.specs.Calls as client
use Rattle.tn_client.specs.{declared.{faults.ClientFault.ClientFault, commands.UserCommand.UserCommand}, Steps.{end_after_items, says_items}}
use Rattle.tn_client.specs.declared.faults.ClientFault.TheVariants as client_faults
use Rattle.tn_world.specs.{Flight.InFlight, Headline.{RunsQuietly, IsQuietEvent, PassesQuietly, NoneFailed, entries_made, local_entries}, Past.HasPast}
use Rattle.tn_world.specs.relation.{Calm.{IsCalmToServer, IsCalmToClient}, Pictures.{Server, server_core, ServerStays}, Relation.{IsRelated, IsBehind}}
use Rattle.tn_world.specs.Worlds.{World, Types, SendsCommand, key_sent, DeliversToServer, CallsServer, TakesEntry, RunsEvent, ServerRefusesDelivery}
use Rattle.tn_world.specs.{Worlds.ClientRefusesDelivery, declared.events.Event.Event}
use Rattle.tn_world.proofs.{Machine.read_all, ClientSteps.{items-come, stops_front}, Cut.{said_behind, cut_at}, Following.holds_does, Tied.seen}
use Rattle.tn_world.proofs.Happening.{Done, unmoved, types, enters, sends, resizes, proposes, reaches, returns, asks, takes, stops, done_of, does_keeps}
use Rattle.tn_world.proofs.{Prefixes.{prefix_trans, prefix_after, prefix_same, read-more, agreed, taken-waits}, Soundness.refusal_of}
use Rattle.tn_world.proofs.{Reading.{read_all-append, entries-typed, all_parts}, ServerSteps.{KeepsEntries, calls, goes_on, stays_fed, core_call, stays_call}}
use Rattle.tn_world.proofs.Soundness.{opposite, call_goes_on, halts_sound, breaks_sound, again_sound, sound_does, Refusal, unchanged, by_server, by_client}

-- the entries that were made begin those that the keys give
abbrev pub Begins : Canon → World → Type 0
Begins s w = IsPrefixOf (entries_made w) (local_entries s w.typed)

-- THE INVARIANT OF A WORLD after a refused delivery
client_fault_is : (b : Bool) (fault : ClientFault) → client.IsFault (if b then Some client_faults.Failed else None) fault → b ≡ true
    → fault ≡ client_faults.Failed
client_fault_is true fault f is = f
client_fault_is false fault f is = absurd (cc)

memory_is : (b : Bool) (fault : ClientFault) → client.IsFault (if b then Some client_faults.Failed else None) fault → b ≡ false → fault ≡ client_faults.Memory
memory_is true fault f is = absurd (cc)
memory_is false fault f is = f

sound_halts : (old new : World) (n : ℕ) (fault : ServerFault) → ServerRefusesDelivery old n fault new → HasPast old → HasPast new
sound_halts old new n fault r s =
    subst (λ w. HasPast w) (sym r.rest)
    (halts_sound old new.server (take n old.to_server) (drop n old.to_server) new.to_client fault
    (λ is. ap (λ (w : World). w.server) (r.again is).1) (λ is. ap (λ (w : World). w.to_client) (r.again is).1)
    r.halts r.is_fault r.failed s)

sound_breaks : (old new : World) (n : ℕ) (fault : ClientFault) → ClientRefusesDelivery old n fault new → HasPast old → HasPast new
sound_breaks old new n fault r s = by_test old.client.failed refl
  where
    by_test : (b : Bool) → old.client.failed ≡ b → HasPast new
    by_test true is = subst (λ w. HasPast w) (sym (r.again (client_fault_is old.client.failed fault r.is_fault is)))
        (again_sound old (drop n old.to_client) is s)
    by_test false is =
        subst (λ w. HasPast w) (sym r.rest)
        (breaks_sound old new.client (take n old.to_client) (drop n old.to_client) new.to_server new.shown is
        (r.breaks (memory_is old.client.failed fault r.is_fault is)) r.failed s)

server_goes_on : (end : server.End) → server.call_fault end ≡ None → end.failed ≡ false
server_goes_on end e = by_test end.failed refl
  where
    by_test : (b : Bool) → end.failed ≡ b → end.failed ≡ false
    by_test true is = absurd (let f : (if true then Some server_faults.Failed else None)
        ≡ None = ap (λ (b : Bool). if b then Some server_faults.Failed else None) (sym is) ∙ e in cc)
    by_test false is = is

-- THE CLIENT SENDS NOTHING MORE
pub related_behind : (s : Canon) (w : World) → IsRelated s w → IsBehind s w
related_behind s w h =
    let v = end_all_there w.server h.items in
    record {
      items = h.items;
      flight = h.flight;
      fit = h.tied.fit;
      calm = h.tied.calm;
      begins = prefix_same (w.taken ++ v.terminal.entries) (local_entries s w.typed) (agreed s w.typed w.taken (server_core v) w.client h.tied.agrees);
      server = h.tied.server;
      past = h.past;
    }

-- the server's entries, as the steps of lines make them, begin those of a local terminal
behind_by : (s : Canon) (w : World) (items : List Item) → InFlight w.server.decoder w.to_server items → All Fits items
    → All (IsCalmToServer s.settings) items → ServerStays s w.server
    → IsPrefixOf (w.taken ++ (read_all s (server_core w.server) items).waiting) (local_entries s w.typed) → HasPast w → IsBehind s w
behind_by s w items flight fit calm server begins past = record {
  items = items;
  flight = flight;
  fit = fit;
  calm = calm;
  begins = subst (λ (v : Server). IsPrefixOf (w.taken ++ v.waiting) (local_entries s w.typed)) (sym (goes_on s w.server items server fit calm).core) begins;
  server = server;
  past = past;
}

begins_by : (s : Canon) (w : World) (h : IsBehind s w) → IsPrefixOf (w.taken ++ (read_all s (server_core w.server) h.items).waiting) (local_entries s w.typed)
begins_by s w h =
    subst (λ (v : Server). IsPrefixOf (w.taken ++ v.waiting) (local_entries s w.typed)) (goes_on s w.server h.items h.server h.fit h.calm).core h.begins

-- the entries that wait are the first of those that will
pub behind_begins : (s : Canon) (w : World) → IsBehind s w → Begins s w
behind_begins s w h =
    let v = server_core w.server in
    prefix_trans (entries_made w) (w.taken ++ (read_all s v h.items).waiting) (local_entries s w.typed)
    (prefix_after w.taken w.server.terminal.entries (read_all s v h.items).waiting (read-more s v h.items)) (begins_by s w h)

-- an event that has no part in it
behind_as : (s : Canon) (old new : World) → new.server ≡ old.server → new.to_server ≡ old.to_server → new.typed ≡ old.typed → new.taken ≡ old.taken
    → HasPast new → IsBehind s old → IsBehind s new
behind_as s old new a b c d sound h = record {
  items = h.items;
  flight = rw (a, b) h.flight;
  fit = h.fit;
  calm = h.calm;
  begins = rw (a, c, d) h.begins;
  server = rw a h.server;
  past = sound;
}

-- reading in two parts
read_two : (s : Canon) (v : Server) (all xs ys : List Item) → all ≡ xs ++ ys
    → read_all s v all ≡ read_all s (read_all s v xs) ys
read_two s v all xs ys is =
    ap (read_all s v) is ∙ read_all-append s v xs ys

-- a delivery to the server
behind_reaches : (s : Canon) (old new : World) (n : ℕ) → HasPast new → DeliversToServer old n new → IsBehind s old → IsBehind s new
behind_reaches s old new n sound t h =
    let f = t.feeds in
    let d = cut_at old.server.decoder new.server.decoder n old.to_server h.items f.items h.flight f.reads in
    let fit = all_parts Fits f.items d.left (subst (λ l. All Fits l) d.all h.fit) in
    let calm = all_parts (IsCalmToServer s.settings) f.items d.left (subst (λ l. All (IsCalmToServer s.settings) l) d.all h.calm) in
    let later = goes_on s old.server f.items h.server fit.0 calm.0 in
    let same : read_all s (server_core old.server) h.items ≡ read_all s (server_core new.server) d.left =
    read_two s (server_core old.server) h.items f.items d.left d.all
    ∙ ap (λ v. read_all s v d.left) (sym (ap server_core f.step ∙ later.core)) in
    subst (λ (w : World). HasPast w → IsBehind s w) (sym t.rest)
    (behind_by s (record old { server = new.server; to_server = drop n old.to_server; to_client = new.to_client }) d.left d.flight fit.1 calm.1
    (stays_fed s (end_all_there old.server f.items) new.server f.step later.stays)
    (subst (λ (v : Server). IsPrefixOf (old.taken ++ v.waiting) (local_entries s old.typed)) same (begins_by s old h))) sound

-- a call of the server that makes no entry and takes none
behind_asks : (s : Canon) (old new : World) (e : server_calls.Event) → KeepsEntries e → HasPast new → CallsServer old e new → IsBehind s old → IsBehind s new
behind_asks s old new e plain sound t h =
    subst (λ (w : World). HasPast w → IsBehind s w) (sym t.step)
    (behind_by s (record old { server = end_there old.server e; to_client = old.to_client ++ spells (says_there old.server e) }) h.items
    (subst (λ d. InFlight d old.to_server h.items) (sym (ap (λ (x : server.End). x.decoder) (call_keeps old.server e))) h.flight) h.fit h.calm
    (stays_call s old.server e (calls e plain) h.server)
    (subst (λ (v : Server). IsPrefixOf (old.taken ++ (read_all s v h.items).waiting) (local_entries s old.typed)) (sym (core_call old.server e plain))
    (begins_by s old h))) sound

-- an entry is asked for
behind_takes : (s : Canon) (old new : World) → HasPast new → TakesEntry old new → IsBehind s old → IsBehind s new
behind_takes s old new sound t h =
    let e = server_calls.took in
    subst (λ (w : World). HasPast w → IsBehind s w) (sym t)
    (behind_by s (record old {
      server = end_there old.server e;
      to_client = old.to_client ++ spells (says_there old.server e);
      taken = old.taken ++ take 1 old.server.terminal.entries;
    }) h.items h.flight h.fit h.calm (stays_call s old.server e tt h.server)
    (subst (λ (xs : List Entry). IsPrefixOf xs (local_entries s old.typed)) (sym (taken-waits s (server_core old.server) old.taken h.items))
    (begins_by s old h))) sound

-- A REFUSED DELIVERY
-- the items of a prefix of a piece are the first of those in flight
front_at : (old new : DecoderState) (n : ℕ) (flight front back : List ℕ) (items got : List Item) → InFlight old flight items → take n flight ≡ front ++ back
    → Advances old front got new → (left : List Item) × (items ≡ got ++ left)
front_at old new n flight front back items got f is adds =
    let whole : flight ≡ front ++ (back ++ drop n flight) =
    sym (take-append-drop n flight) ∙ ap (λ x. x ++ drop n flight) is ∙ append_assoc front back (drop n flight) in
    let d = delivers old new f.stream front (back ++ drop n flight) f.had got items f.has_read adds
    (subst (λ x. Reading (f.stream ++ x) (f.had ++ items) []) whole f.reads) in
    (d.left, d.all)

-- the server fails: those of its items that were done are the first of those in flight
halted : (s : Canon) (old new : World) (n : ℕ) (fault : ServerFault) → ServerRefusesDelivery old n fault new → IsBehind s old
    → server_answers.StopsWithin old.server (take n old.to_server) fault old.to_client new.to_client new.server → Begins s new
halted s old new n fault r h x =
    let v = server_core old.server in
    let f = front_at old.server.decoder x.here n old.to_server x.front x.back h.items (x.done ++ x.left) h.flight x.whole x.reads in
    let all : h.items ≡ x.done ++ (x.left ++ f.0) = f.1 ∙ append_assoc x.done x.left f.0 in
    let fit = (all_parts Fits x.done (x.left ++ f.0) (subst (λ l. All Fits l) all h.fit)).0 in
    let calm = (all_parts (IsCalmToServer s.settings) x.done (x.left ++ f.0) (subst (λ l. All (IsCalmToServer s.settings) l) all h.calm)).0 in
    let here = read_all s v x.done in
    let there = read_all s here (x.left ++ f.0) in
    let waits : new.server.terminal.entries ≡ here.waiting =
    ap (λ (e : server.End). e.terminal.entries) x.step ∙ ap (λ (u : Server). u.waiting) (goes_on s old.server x.done h.server fit calm).core in
    let begins : IsPrefixOf (old.taken ++ there.waiting) (local_entries s old.typed) =
    subst (λ (u : Server). IsPrefixOf (old.taken ++ u.waiting) (local_entries s old.typed)) (read_two s v h.items x.done (x.left ++ f.0) all) (begins_by s old h) in
    subst (λ (w : World). IsPrefixOf (w.taken ++ new.server.terminal.entries) (local_entries s w.typed)) (sym r.rest)
    (subst (λ (es : List Entry). IsPrefixOf (old.taken ++ es) (local_entries s old.typed)) (sym waits)
    (prefix_trans (old.taken ++ here.waiting) (old.taken ++ there.waiting) (local_entries s old.typed)
    (prefix_after old.taken here.waiting there.waiting (read-more s here (x.left ++ f.0))) begins))

behind_halts : (s : Canon) (old new : World) (n : ℕ) (fault : ServerFault) → old.server.failed ≡ false → ServerRefusesDelivery old n fault new → IsBehind s old
    → Begins s new
behind_halts s old new n fault runs r h = by_fault fault refl
  where
    by_fault : (f : ServerFault) → fault ≡ f → Begins s new
    by_fault server_faults.Failed is = opposite old.server.failed (Begins s new) (r.again is).0 runs
    by_fault (server_faults.Char f) is = absurd (subst IsOfPiece is r.is_fault)
    by_fault server_faults.NotOn is = absurd (subst IsOfPiece is r.is_fault)
    by_fault _ is = halted s old new n fault r h (r.halts (subst IsOfItem (sym is) tt))

-- the client fails: what it sent begins the replies to the items of the piece, and reading more only adds
-- entries
pub behind_breaks : (s : Canon) (old new : World) (n : ℕ) (fault : ClientFault) → NoneFailed old → ClientRefusesDelivery old n fault new → IsRelated s old
    → IsBehind s new
behind_breaks s old new n fault none r h =
    let x = r.breaks (memory_is old.client.failed fault r.is_fault none.1) in
    let c = h.past.client_course none.1 in
    let at = c.1 in
    let bytes = client_courses.stream c.0 in
    let had = client_calls.items at.history in
    let got = x.done ++ x.left in
    let said = says_items old.client x.done ++ x.part in
    let f = front_at old.client.decoder x.here n old.to_client x.front x.back h.messages got h.back x.whole x.reads in
    let calm = (all_parts (IsCalmToClient s.settings) got f.0 (subst (λ l. All (IsCalmToClient s.settings) l) f.1 h.tied.calm_back)).0 in
    let all = items-come s old.client got h.tied.client calm in
    let w = stops_front old.client x.done x.left x.part x.here x.back (x.cause bytes had at.reads) in
    let fit = (all_parts Fits said w.0 (subst (λ l. All Fits l) w.1 all.said.fit)).0 in
    let hushed = (all_parts (IsCalmToServer s.settings) said w.0 (subst (λ l. All (IsCalmToServer s.settings) l) w.1 all.said.calm)).0 in
    let v = read_all s (server_core old.server) h.items in
    let here = read_all s v said in
    let there = read_all s here w.0 in
    let made : old.taken ++ there.waiting ≡ local_entries s old.typed =
    ap (λ (u : Server). old.taken ++ u.waiting) (sym (read_two s v (says_items old.client got) said w.0 w.1))
    ∙ agreed s old.typed old.taken (read_all s v (says_items old.client got)) (end_after_items old.client got)
    (all.agrees old.typed old.taken v (seen h.tied)) in
    subst (λ (w : World). HasPast w → IsBehind s w) (sym r.rest)
    (behind_by s (record old { client = new.client; to_client = drop n old.to_client; to_server = new.to_server; shown = new.shown }) (h.items ++ said)
    (said_behind old.server.decoder old.to_server new.to_server h.items said x.said fit h.flight) (All-append Fits h.items said h.tied.fit fit)
    (All-append (IsCalmToServer s.settings) h.items said h.tied.calm hushed) h.tied.server
    (subst (λ (u : Server). IsPrefixOf (old.taken ++ u.waiting) (local_entries s old.typed))
    (sym (read_two s (server_core old.server) (h.items ++ said) h.items said refl))
    (prefix_trans (old.taken ++ here.waiting) (old.taken ++ there.waiting) (local_entries s old.typed)
    (prefix_after old.taken here.waiting there.waiting (read-more s here w.0))
    (prefix_same (old.taken ++ there.waiting) (local_entries s old.typed) made)))) (sound_breaks old new n fault r h.past)

-- EACH EVENT, once the client has failed
gone_silent : (s : Canon) (old new : World) → old.client.failed ≡ true → old.client.failed ≡ false → IsBehind s new
gone_silent s old new failed runs = opposite old.client.failed (IsBehind s new) failed runs

behind_done : (s : Canon) (old new : World) (e : Event) → old.client.failed ≡ true → HasPast new → IsQuietEvent old e → Done old e new → IsBehind s old
    → IsBehind s new
behind_done s old new e failed sound quiet (unmoved is) h = subst (λ w. IsBehind s w) (sym is) h
behind_done s old new e failed sound quiet (types key t) h = gone_silent s old new failed (call_goes_on old.client t.accepted)
behind_done s old new e failed sound quiet (enters t) h = gone_silent s old new failed (call_goes_on old.client t.accepted)
behind_done s old new e failed sound quiet (sends command is t) h = gone_silent s old new failed (call_goes_on old.client t.accepted)
behind_done s old new e failed sound quiet (resizes width height t) h = gone_silent s old new failed (call_goes_on old.client t.accepted)
behind_done s old new e failed sound quiet (proposes func value is t) h = absurd (subst (IsQuietEvent old) is quiet)
behind_done s old new e failed sound quiet (reaches n t) h = behind_reaches s old new n sound t h
behind_done s old new e failed sound quiet (returns n is t) h = gone_silent s old new failed (call_goes_on old.client t.accepted)
behind_done s old new e failed sound quiet (asks call is plain adds t) h = behind_asks s old new call (plain quiet) sound t h
behind_done s old new e failed sound quiet (takes t) h = behind_takes s old new sound t h
behind_done s old new e failed sound quiet (stops a b is) h = behind_as s old new (ap (λ (w : World). w.server) is) (ap (λ (w : World). w.to_server) is)
    (ap (λ (w : World). w.typed) is) (ap (λ (w : World). w.taken) is) sound h

-- EACH EVENT, once the server has failed: no entry is made any more
begins_as : (s : Canon) (old new : World) → entries_made new ≡ entries_made old → new.typed ≡ old.typed → Begins s old → Begins s new
begins_as s old new a b p =
    subst (λ (es : List Entry). IsPrefixOf es (local_entries s new.typed)) (sym a)
    (subst (λ (keys : List ℕ). IsPrefixOf (entries_made old) (local_entries s keys)) (sym b) p)

begins_types : (s : Canon) (old new : World) (e : client_calls.Event) (key : ℕ) → Types old e key new → Begins s old → Begins s new
begins_types s old new e key t p =
    let gain = gain_next s.limit (typed_half s old.typed) (role_of_key s.settings key) in
    subst (λ (w : World). Begins s w) (sym t.step)
    (prefix_trans (entries_made old) (local_entries s old.typed) (local_entries s (old.typed ++ key ∷ [])) p (gain, sym (entries-typed s old.typed key)))

-- a key more, or none
begins_keys : (s : Canon) (typed : List ℕ) (key : Option ℕ) → IsPrefixOf (local_entries s typed) (local_entries s (typed ++ option_to_list key))
begins_keys s typed (Some key) = (gain_next s.limit (typed_half s typed) (role_of_key s.settings key), sym (entries-typed s typed key))
begins_keys s typed None = ([], append-nil (local_entries s typed) ∙ ap (local_entries s) (sym (append-nil typed)))

begins_sends : (s : Canon) (old new : World) (command : UserCommand) → SendsCommand old command new → Begins s old → Begins s new
begins_sends s old new command t p =
    let key = key_sent old command in
    subst (λ (w : World). Begins s w) (sym t.step)
    (prefix_trans (entries_made old) (local_entries s old.typed) (local_entries s (old.typed ++ option_to_list key)) p (begins_keys s old.typed key))

begins_asks : (s : Canon) (old new : World) (e : server_calls.Event) → KeepsEntries e → HasPast old → CallsServer old e new → Begins s old → Begins s new
begins_asks s old new e plain sound t p =
    begins_as s old new
    (ap (λ (w : World). w.taken ++ w.server.terminal.entries) t.step ∙ ap (λ (v : Server). old.taken ++ v.waiting) (core_call old.server e plain))
    (ap (λ (w : World). w.typed) t.step) p

begins_takes : (s : Canon) (old new : World) → HasPast old → TakesEntry old new → Begins s old → Begins s new
begins_takes s old new sound t p =
    begins_as s old new
    (ap (λ (w : World). w.taken ++ w.server.terminal.entries) t ∙ taken-waits s (server_core old.server) old.taken [])
    (ap (λ (w : World). w.typed) t) p

begins_done : (s : Canon) (old new : World) (e : Event) → old.server.failed ≡ true → HasPast old → IsQuietEvent old e → Done old e new → Begins s old
    → Begins s new
begins_done s old new e failed sound quiet (unmoved is) p = subst (λ w. Begins s w) (sym is) p
begins_done s old new e failed sound quiet (types key t) p = begins_types s old new (client_calls.typed key) key t p
begins_done s old new e failed sound quiet (enters t) p = begins_types s old new client_calls.entered lf t p
begins_done s old new e failed sound quiet (sends command is t) p = begins_sends s old new command t p
begins_done s old new e failed sound quiet (resizes width height t) p = begins_as s old new (ap entries_made t.step) (ap (λ (w : World). w.typed) t.step) p
begins_done s old new e failed sound quiet (proposes func value is t) p = absurd (subst (IsQuietEvent old) is quiet)
begins_done s old new e failed sound quiet (reaches n t) p = opposite old.server.failed (Begins s new) failed (server_goes_on old.server t.accepted)
begins_done s old new e failed sound quiet (returns n is t) p = begins_as s old new (ap entries_made t.rest) (ap (λ (w : World). w.typed) t.rest) p
begins_done s old new e failed sound quiet (asks call is plain adds t) p = begins_asks s old new call (plain quiet) sound t p
begins_done s old new e failed sound quiet (takes t) p = begins_takes s old new sound t p
begins_done s old new e failed sound quiet (stops a b is) p = begins_as s old new (ap entries_made is) (ap (λ (w : World). w.typed) is) p

-- HOW FAR THE RELATION HOLDS
pub data Stage (s : Canon) (w : World) : Type 0 where
  both : NoneFailed w → IsRelated s w → Stage s w
  silent : w.server.failed ≡ false → w.client.failed ≡ true → IsBehind s w → Stage s w
  over : w.server.failed ≡ true → HasPast w → Begins s w → Stage s w

pub stage_begins : (s : Canon) (w : World) → Stage s w → Begins s w
stage_begins s w (both none h) = behind_begins s w (related_behind s w h)
stage_begins s w (silent runs failed h) = behind_begins s w h
stage_begins s w (over failed sound p) = p

stage_does : (s : Canon) (old new : World) (e : Event) → IsQuietEvent old e → RunsEvent old e new → Stage s old → Stage s new
stage_does s old new e quiet d (both none h) =
    let same = does_keeps old new e d in
    both (same.0 ∙ none.0, same.1 ∙ none.1) (holds_does s old new e (sound_does old new e d h.past) quiet d h)
stage_does s old new e quiet d (silent runs failed h) =
    let same = does_keeps old new e d in
    silent (same.0 ∙ runs) (same.1 ∙ failed) (behind_done s old new e failed (sound_does old new e d h.past) quiet (done_of old new e d) h)
stage_does s old new e quiet d (over failed sound p) =
    let same = does_keeps old new e d in
    over (same.0 ∙ failed) (sound_does old new e d sound) (begins_done s old new e failed sound quiet (done_of old new e d) p)

-- the server is refused a delivery
stage_halts : (s : Canon) (old new : World) (n : ℕ) (fault : ServerFault) → ServerRefusesDelivery old n fault new → Stage s old → Stage s new
stage_halts s old new n fault r (both none h) = over r.failed (sound_halts old new n fault r h.past)
    (behind_halts s old new n fault none.0 r (related_behind s old h))
stage_halts s old new n fault r (silent runs failed h) = over r.failed (sound_halts old new n fault r h.past) (behind_halts s old new n fault runs r h)
stage_halts s old new n fault r (over failed sound p) =
    let same = (r.again (r.first failed)).1 in
    over r.failed (sound_halts old new n fault r sound) (begins_as s old new (ap entries_made same) (ap (λ (w : World). w.typed) same) p)

-- the client is refused a delivery
stage_breaks : (s : Canon) (old new : World) (n : ℕ) (fault : ClientFault) → ClientRefusesDelivery old n fault new → Stage s old → Stage s new
stage_breaks s old new n fault r (both none h) = silent (ap (λ (w : World). w.server.failed) r.rest ∙ none.0) r.failed
    (behind_breaks s old new n fault none r h)
stage_breaks s old new n fault r (silent runs failed h) =
    let same = r.again (client_fault_is old.client.failed fault r.is_fault failed) in
    silent (ap (λ (w : World). w.server.failed) r.rest ∙ runs) r.failed
    (behind_as s old new (ap (λ (w : World). w.server) same) (ap (λ (w : World). w.to_server) same) (ap (λ (w : World). w.typed) same)
    (ap (λ (w : World). w.taken) same) (sound_breaks old new n fault r h.past) h)
stage_breaks s old new n fault r (over failed sound p) =
    over (ap (λ (w : World). w.server.failed) r.rest ∙ failed) (sound_breaks old new n fault r sound)
    (begins_as s old new (ap entries_made r.rest) (ap (λ (w : World). w.typed) r.rest) p)

stage_refused : (s : Canon) (old new : World) (e : Event) → Refusal old e new → Stage s old → Stage s new
stage_refused s old new e (unchanged is) a = subst (λ w. Stage s w) (sym is) a
stage_refused s old new e (by_server n fault is r) a = stage_halts s old new n fault r a
stage_refused s old new e (by_client n fault is r) a = stage_breaks s old new n fault r a

stage_occurs : (s : Canon) (old new : World) (e : Event) → RunsQuietly old e new → Stage s old → Stage s new
stage_occurs s old new e (inl d) a = stage_does s old new e d.0 d.1 a
stage_occurs s old new e (inr r) a = stage_refused s old new e (refusal_of old new e r.0 r.1) a

pub stage_passes : (s : Canon) (old new : World) (events : List Event) → PassesQuietly old events new → Stage s old → Stage s new
stage_passes s old new [] p a = subst (λ w. Stage s w) (sym p) a
stage_passes s old new (e ∷ events) p a = stage_passes s p.0 new events p.2 (stage_occurs s old p.0 e p.1 a)
