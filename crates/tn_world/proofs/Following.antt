-- From a settled moment at rest the relation of the ends holds after every quiet list of events at which no end failed.
use Rattle.std.proofs.Common.{◌≡◌, inl, inr, ℕ, Bool, Option, Some, None, List, [], ◌∷◌, ◌++◌, take, drop, refl, sym, ap, ◌∙◌, subst, append-nil}
use Rattle.std.specs.Prelude.{All, option_to_list}
use Rattle.tn_discipline.specs.{Canon.Canon, Characters.Characters, Keys.role_of_key, declared.{reads.{Sig.TheVariants.Int, Entry.Entry}, termios.Flags.Flags}}
use Rattle.tn_discipline.specs.declared.termios.Settings.{Settings}
use Rattle.tn_discipline.specs.declared.keys.Role.TheVariants as role
use Rattle.tn_nvt.specs.{Spelling.{lf, spells, Fits}, declared.items.Item.{Item, TheVariants.Cmd}}
use Rattle.tn_codes.specs.declared.codes.Command.TheVariants as command
use Rattle.tn_server.specs.Calls as server
use Rattle.tn_server.specs.Events as server_calls
use Rattle.tn_server.specs.Steps.{end_after as end_there, says as says_there, end_after_items as end_all_there, says_items as says_all_there}
use Rattle.tn_server.proofs.lemmas.Gathering.{call_keeps}
use Rattle.tn_client.specs.Events as client_calls
use Rattle.tn_client.specs.{Replies.command_sent, declared.commands.UserCommand.UserCommand}
use Rattle.tn_client.specs.Steps.{end_after_key, says_key, says_new_line, shows_key, end_after_resize, says_resize, end_after_items, says_items}
use Rattle.tn_client.specs.declared.commands.UserCommand.TheVariants as user
use Rattle.tn_world.proofs.Happening.{Done, unmoved, types, enters, sends, resizes, proposes, reaches, returns, asks, takes, stops, done_of, FailsNone}
use Rattle.tn_world.proofs.{Happening.does_keeps, Interrupting.interrupts_there, Machine.SaysItems, ServerSteps.KeepsEntries, Cut.{behind, cut_at}}
use Rattle.tn_world.proofs.{ClientSteps.{key_said, line_said, items-come, resized-writes}, Reading.all_parts, Tied.server-as}
use Rattle.tn_world.proofs.Soundness.{asked_fit, feeds_fit, opposite, Refusal, unchanged, by_server, by_client, refusal_of, sound_does}
use Rattle.tn_world.proofs.Tied.{key-tied, line-tied, interrupt-tied, aside-tied, resize-tied, return-tied, client-as, reach-tied, call-tied, take-tied}
use Rattle.tn_world.specs.{Past.HasPast, Headline.{RunsQuietly, IsQuietEvent, PassesQuietly, NoneFailed}, relation.Calm.IsCalmToClient, Flight.InFlight}
use Rattle.tn_world.specs.{relation.Pictures.{server_core, ServerStays}, Worlds.{TakesEntry, RunsEvent, Refuses}, declared.events.Event.Event}
use Rattle.tn_world.specs.Worlds.{World, canon_of, TypesKey, EntersLine, key_sent, SendsCommand, CallsClient, DeliversToServer, DeliversToClient, CallsServer}
use Rattle.tn_world.specs.{declared.{events.Event.TheVariants.Send, faults.Cause.Cause}, relation.Relation.{IsRelated, IsTied}}
use Rattle.tn_world.proofs.ClientSteps as client_steps
use Rattle.tn_client.specs.Calls as client
use Rattle.tn_world.proofs.ServerSteps as server_steps

-- the items that the client sends join those in flight to the server
module _ (s : Canon) (old : World) (h : IsRelated s old) (new : World) (sound : HasPast new) where
  client_says : (said : List Item) (keys echoed : List ℕ) (end : client.End) → All Fits said → end.decoder ≡ old.client.decoder
      → IsTied s keys old.taken (h.items ++ said) h.messages old.server end
      → new ≡ record old { client = end; to_server = old.to_server ++ spells said; echoed = echoed; typed = keys } → IsRelated s new
  client_says said keys echoed end fit decoder tied is =
      subst (λ (w : World). HasPast w → IsRelated s w) (sym is) (λ past. record {
        items = h.items ++ said;
        flight = behind old.server.decoder old.to_server h.items said fit h.flight;
        messages = h.messages;
        back = subst (λ d. InFlight d old.to_client h.messages) (sym decoder) h.back;
        tied = tied;
        past = past;
      }) sound

  server_says : (said : List Item) (taken : List Entry) (end : server.End) → All Fits said → end.decoder ≡ old.server.decoder
      → IsTied s old.typed taken h.items (h.messages ++ said) end old.client
      → new ≡ record old { server = end; to_client = old.to_client ++ spells said; taken = taken } → IsRelated s new
  server_says said taken end fit decoder tied is =
      subst (λ (w : World). HasPast w → IsRelated s w) (sym is) (λ past. record {
        items = h.items;
        flight = subst (λ d. InFlight d old.to_server h.items) (sym decoder) h.flight;
        messages = h.messages ++ said;
        back = behind old.client.decoder old.to_client h.messages said fit h.back;
        tied = tied;
        past = past;
      }) sound

-- a key
holds_types : (s : Canon) (old new : World) (key : ℕ) → HasPast new → TypesKey old key new → IsRelated s old → IsRelated s new
holds_types s old new key sound t h =
    client_says s old h new sound (says_key old.client key) (old.typed ++ key ∷ []) (old.echoed ++ shows_key old.client key) (end_after_key old.client key)
    (key_said s old.client key).fit refl (key-tied h.tied key) t.step

holds_enters : (s : Canon) (old new : World) → HasPast new → EntersLine old new → IsRelated s old → IsRelated s new
holds_enters s old new sound t h =
    client_says s old h new sound (says_new_line old.client) (old.typed ++ lf ∷ []) (old.echoed ++ shows_key old.client lf) (end_after_key old.client lf)
    (line_said s old.client).fit refl (line-tied h.tied) t.step

-- a command: the key that it stands for interrupts at the beginning, too
role_kept : (s : Canon) (w : World) (key : ℕ) → HasPast w → ServerStays s w.server → role_of_key (canon_of w).settings key ≡ role_of_key s.settings key
role_kept s w key past k =
    let at = past.server in
    let now = w.server.terminal.settings in
    let chars : now.chars ≡ s.settings.chars = ap (λ (x : Settings). x.chars) at.settings ∙ sym at.table ∙ k.chars in
    ap (λ (c : Characters). role_of_key (record { flags = now.flags; chars = c }) key) chars
    ∙ ap (λ (f : Flags). role_of_key (record { flags = f; chars = s.settings.chars }) key) k.flags

holds_interrupts : (s : Canon) (old new : World) (sending : UserCommand) (key : ℕ) → HasPast new → SendsCommand old sending new
    → key_sent old sending ≡ Some key → role_of_key (canon_of old).settings key ≡ role.Signal Int
    → SaysItems s (Cmd command.Ip ∷ []) (Cmd (command_sent sending) ∷ []) → IsRelated s old → IsRelated s new
holds_interrupts s old new sending key sound t is interrupts writes h =
    let said = Cmd (command_sent sending) ∷ [] in
    client_says s old h new sound said (old.typed ++ key ∷ []) old.echoed old.client writes.fit refl
    (interrupt-tied h.tied key said (sym (role_kept s old key h.past h.tied.server) ∙ interrupts) writes)
    (t.step ∙ ap (λ (k : Option ℕ). record old { to_server = old.to_server ++ spells said; typed = old.typed ++ option_to_list k }) is)

-- a command that is no input
holds_asides : (s : Canon) (old new : World) (sending : UserCommand) → HasPast new → SendsCommand old sending new → key_sent old sending ≡ None
    → SaysItems s [] (Cmd (command_sent sending) ∷ []) → IsRelated s old → IsRelated s new
holds_asides s old new sending sound t is writes h =
    let said = Cmd (command_sent sending) ∷ [] in
    client_says s old h new sound said old.typed old.echoed old.client writes.fit refl (aside-tied h.tied said writes)
    (t.step ∙ ap (λ (k : Option ℕ). record old { to_server = old.to_server ++ spells said; typed = old.typed ++ option_to_list k }) is
    ∙ ap (λ (keys : List ℕ). record old { to_server = old.to_server ++ spells said; typed = keys }) (append-nil old.typed))

holds_sends : (s : Canon) (old new : World) (command : UserCommand) → HasPast new → IsQuietEvent old (Send command)
    → SendsCommand old command new → IsRelated s old → IsRelated s new
holds_sends s old new user.Brk sound quiet t h =
    let now = (canon_of old).settings in
    holds_interrupts s old new user.Brk quiet.0 sound t quiet.1 (interrupts_there now now.chars.intr quiet.0 quiet.1) (client_steps.brk-writes s) h
holds_sends s old new user.Ip sound quiet t h =
    let now = (canon_of old).settings in
    holds_interrupts s old new user.Ip quiet.0 sound t quiet.1 (interrupts_there now now.chars.intr quiet.0 quiet.1) (client_steps.ip-writes s) h
holds_sends s old new user.Ayt sound quiet t h = holds_asides s old new user.Ayt sound t refl (client_steps.ayt-writes s) h
holds_sends s old new user.Nop sound quiet t h = holds_asides s old new user.Nop sound t refl (client_steps.nop-writes s) h

-- the window's size
holds_resizes : (s : Canon) (old new : World) (width height : ℕ) → HasPast new → CallsClient old (client_calls.resized width height) new
    → IsRelated s old → IsRelated s new
holds_resizes s old new width height sound t h =
    client_says s old h new sound (says_resize old.client width height) old.typed old.echoed (end_after_resize old.client width height)
    (resized-writes s old.client width height).fit refl (resize-tied h.tied width height) t.step

-- a call of the server that makes no entry and takes none
holds_asks : (s : Canon) (old new : World) (e : server_calls.Event) → KeepsEntries e → HasPast new → CallsServer old e new → IsRelated s old → IsRelated s new
holds_asks s old new e plain sound t h =
    server_says s old h new sound (says_there old.server e) old.taken (end_there old.server e) (asked_fit h.past.history old.server e h.past.server)
    (ap (λ (x : server.End). x.decoder) (call_keeps old.server e)) (call-tied h.tied e plain) t.step

-- an entry is asked for
holds_takes : (s : Canon) (old new : World) → HasPast new → TakesEntry old new → IsRelated s old → IsRelated s new
holds_takes s old new sound t h =
    let e = server_calls.took in
    server_says s old h new sound (says_there old.server e) (old.taken ++ take 1 old.server.terminal.entries) (end_there old.server e)
    (asked_fit h.past.history old.server e h.past.server) refl (take-tied h.tied) t

-- a delivery to the server
holds_reaches : (s : Canon) (old new : World) (n : ℕ) → HasPast new → DeliversToServer old n new → IsRelated s old → IsRelated s new
holds_reaches s old new n sound t h =
    let f = t.feeds in
    let d = cut_at old.server.decoder new.server.decoder n old.to_server h.items f.items h.flight f.reads in
    let tied = reach-tied h.tied f.items d.left d.all in
    subst (λ (w : World). HasPast w → IsRelated s w)
    (sym (t.rest ∙ ap (λ (x : List ℕ). record old { server = new.server; to_server = drop n old.to_server; to_client = x }) f.said)) (λ past. record {
      items = d.left;
      flight = d.flight;
      messages = h.messages ++ says_all_there old.server f.items;
      back = behind old.client.decoder old.to_client h.messages (says_all_there old.server f.items)
          (feeds_fit h.past.history old.server f.items h.past.server) h.back;
      tied = server-as tied new.server (ap server_core f.step)
          (server_steps.stays_fed s (end_all_there old.server f.items) new.server f.step tied.server);
      past = past;
    }) sound

-- a delivery to the client
holds_returns : (s : Canon) (old new : World) (n : ℕ) → HasPast new → DeliversToClient old n new → IsRelated s old → IsRelated s new
holds_returns s old new n sound t h =
    let f = t.feeds in
    let d = cut_at old.client.decoder new.client.decoder n old.to_client h.messages f.items h.back f.reads in
    let said = says_items old.client f.items in
    let tied = return-tied h.tied f.items d.left d.all in
    subst (λ (w : World). HasPast w → IsRelated s w)
    (sym (t.rest ∙ ap (λ (x : List ℕ). record old { client = new.client; to_client = drop n old.to_client; to_server = x; shown = new.shown }) f.said)) (λ past. record {
      items = h.items ++ said;
      flight = behind old.server.decoder old.to_server h.items said (items-come s old.client f.items h.tied.client
          (all_parts (IsCalmToClient s.settings) f.items d.left (subst (All (IsCalmToClient s.settings)) d.all h.tied.calm_back)).0).said.fit h.flight;
      messages = d.left;
      back = d.flight;
      tied = subst (IsTied s old.typed old.taken (h.items ++ said) d.left old.server) (sym f.step)
          (client-as tied new.client.decoder (end_after_items old.client f.items).failed);
      past = past;
    }) sound

holds_as : (s : Canon) (old new : World) → new ≡ old → IsRelated s old → IsRelated s new
holds_as s old new is h = subst (λ w. IsRelated s w) (sym is) h

-- an end that stops changes nothing of it
holds_stops : (s : Canon) (old new : World) (a b : Bool) → new ≡ record old { server_stopped = a; client_stopped = b } → HasPast new → IsRelated s old
    → IsRelated s new
holds_stops s old new a b is sound h =
    subst (λ (w : World). HasPast w → IsRelated s w) (sym is)
    (λ past. record { items = h.items; flight = h.flight; messages = h.messages; back = h.back; tied = h.tied; past = past }) sound

-- an event that is done
holds_done : (s : Canon) (old new : World) (e : Event) → HasPast new → IsQuietEvent old e → Done old e new → IsRelated s old → IsRelated s new
holds_done s old new e sound quiet (unmoved is) h = holds_as s old new is h
holds_done s old new e sound quiet (types key t) h = holds_types s old new key sound t h
holds_done s old new e sound quiet (enters t) h = holds_enters s old new sound t h
holds_done s old new e sound quiet (sends command is t) h = holds_sends s old new command sound (subst (IsQuietEvent old) is quiet) t h
holds_done s old new e sound quiet (resizes width height t) h = holds_resizes s old new width height sound t h
holds_done s old new e sound quiet (proposes func value is t) h = absurd (subst (IsQuietEvent old) is quiet)
holds_done s old new e sound quiet (reaches n t) h = holds_reaches s old new n sound t h
holds_done s old new e sound quiet (returns n is t) h = holds_returns s old new n sound t h
holds_done s old new e sound quiet (asks call is plain adds t) h = holds_asks s old new call (plain quiet) sound t h
holds_done s old new e sound quiet (takes t) h = holds_takes s old new sound t h
holds_done s old new e sound quiet (stops a b is) h = holds_stops s old new a b is sound h

pub holds_does : (s : Canon) (old new : World) (e : Event) → HasPast new → IsQuietEvent old e → RunsEvent old e new → IsRelated s old → IsRelated s new
holds_does s old new e sound quiet d h = holds_done s old new e sound quiet (done_of old new e d) h

both_ran : (old new : World) → FailsNone old new → NoneFailed new → NoneFailed old
both_ran old new same none = (sym same.0 ∙ none.0, sym same.1 ∙ none.1)

-- a refusal at which no end failed changed nothing
unrefused : (old new : World) (e : Event) → Refusal old e new → NoneFailed new → new ≡ old
unrefused old new e (unchanged is) none = is
unrefused old new e (by_server n fault is r) none = opposite new.server.failed (new ≡ old) r.failed none.0
unrefused old new e (by_client n fault is r) none = opposite new.client.failed (new ≡ old) r.failed none.1

refused_same : (old new : World) (e : Event) (c : Cause) → Refuses old e c new → NoneFailed new → new ≡ old
refused_same old new e c r none = unrefused old new e (refusal_of old new e c r) none

occurs_ran : (old new : World) (e : Event) → RunsQuietly old e new → NoneFailed new → NoneFailed old
occurs_ran old new e (inl d) none = both_ran old new (does_keeps old new e d.1) none
occurs_ran old new e (inr r) none = subst NoneFailed (refused_same old new e r.0 r.1 none) none

pub passes_ran : (old new : World) (events : List Event) → PassesQuietly old events new → NoneFailed new → NoneFailed old
passes_ran old new [] p none = subst NoneFailed p none
passes_ran old new (e ∷ events) p none = occurs_ran old p.0 e p.1 (passes_ran p.0 new events p.2 none)

holds_occurs : (s : Canon) (old new : World) (e : Event) → NoneFailed new → RunsQuietly old e new → IsRelated s old → IsRelated s new
holds_occurs s old new e none (inl d) h = holds_does s old new e (sound_does old new e d.1 h.past) d.0 d.1 h
holds_occurs s old new e none (inr r) h = holds_as s old new (refused_same old new e r.0 r.1 none) h

pub holds_passes : (s : Canon) (old new : World) (events : List Event) → NoneFailed new → PassesQuietly old events new → IsRelated s old → IsRelated s new
holds_passes s old new [] none p h = holds_as s old new p h
holds_passes s old new (e ∷ events) none p h =
    holds_passes s p.0 new events none p.2 (holds_occurs s old p.0 e (passes_ran p.0 new events p.2 none) p.1 h)
