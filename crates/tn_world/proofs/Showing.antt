-- The text that an event adds to Output.
use Rattle.std.proofs.Common.{◌≡◌, ℕ, Bool, true, false, List, [], ◌∷◌, ◌++◌, length, map, min, take, drop, refl, sym, ap, ◌∙◌, subst, append-nil, append_assoc}
use Rattle.std.proofs.lemmas.{Grind.flat_map-append, List.{take-append-drop, Elements.All-nil}}
use Rattle.std.specs.Prelude.{All}
use Rattle.tn_discipline.specs.declared.echo.Symbol.{Symbol}
use Rattle.tn_discipline.specs.declared.echo.Symbol.TheVariants as symbol
use Rattle.tn_nvt.specs.{Spelling.{spells, Fits}, Feeding.{DecoderState, LeadsTo}, declared.items.Item.Item, Prefixes.IsPrefixOf}
use Rattle.tn_server.specs.Events as server_calls
use Rattle.tn_server.specs.{Faults.{IsOfItem, IsOfPiece}, Replies.{opening, data_of}, declared.{faults.ServerFault.ServerFault, openings.Opening.Opening}}
use Rattle.tn_server.specs.Answering as server_answers
use Rattle.tn_server.specs.Calls as server
use Rattle.tn_server.specs.Steps as server_steps
use Rattle.tn_server.specs.declared.faults.ServerFault.TheVariants as server_faults
use Rattle.tn_server.proofs.lemmas.Fitting.{opening-fits}
use Rattle.tn_client.specs.Screen.{item_shown, symbol_shown}
use Rattle.tn_world.specs.{Past.HasPast, Worlds.ServerRefusesDelivery, declared.{events.Event.{Event, TheVariants.{ToClient, Pull}}, faults.Cause.Cause}}
use Rattle.tn_world.specs.{Flight.InFlight, Output.{screen, text_of, IsOutput, Queues, IsNoneAt, OutputGrows, OutputGrowsTo, OutputGrowsAll, OutputGrowsBefore}}
use Rattle.tn_world.specs.Worlds.{World, UnlessStopped, DeliversToServer, DeliversToClient, CallsServer, Pulls, TakesEntry, RunsEvent, Runs, StopsWithin}
use Rattle.tn_world.proofs.Cut.{start, said_behind, cut_at}
use Rattle.tn_world.proofs.Happening.{AddsOnly, Done, unmoved, types, enters, sends, resizes, proposes, reaches, returns, asks, takes, stops, done_of, does_keeps}
use Rattle.tn_world.proofs.Soundness.{sound_does, opposite, Refusal, unchanged, by_server, by_client, refusal_of, asked_fit, feeds_fit, halts_fit}
use Rattle.tn_world.proofs.ServerItems.{IsUnpulled, says_none, opening_none, items_none, halts_none, queue_grows, items_grow}

-- PARTS OF A TEXT
joined : (text shown flying waiting more : List ℕ) → text ≡ shown ++ (flying ++ waiting) → text ++ more ≡ shown ++ (flying ++ (waiting ++ more))
joined text shown flying waiting more is =
    ap (λ (x : List ℕ). x ++ more) is ∙ append_assoc shown (flying ++ waiting) more ∙ ap (λ (x : List ℕ). shown ++ x) (append_assoc flying waiting more)

parts : (a b c d e f : List ℕ) → a ≡ d → b ≡ e → c ≡ f → a ++ (b ++ c) ≡ d ++ (e ++ f)
parts a b c d e f p q r =
    ap (λ (x : List ℕ). x ++ (b ++ c)) p ∙ ap (λ (x : List ℕ). d ++ (x ++ c)) q ∙ ap (λ (x : List ℕ). d ++ (e ++ x)) r

-- the server sent items that show nothing, and its queue took these symbols
says_output : (old new : World) (text : List ℕ) (said : List Item) (more : List Symbol) → All Fits said → text_of said ≡ []
    → new.client.decoder ≡ old.client.decoder → new.shown ≡ old.shown → new.to_client ≡ old.to_client ++ spells said
    → new.server.terminal.queue ≡ old.server.terminal.queue ++ more → IsOutput old text → IsOutput new (text ++ screen more)
says_output old new text said more fit silent decoder shown appended took o =
    record {
      items = o.items ++ said;
      flight =
          subst (λ (d : DecoderState). InFlight d new.to_client (o.items ++ said)) (sym decoder)
          (said_behind old.client.decoder old.to_client new.to_client o.items said appended fit o.flight);
      is =
          joined text old.shown (text_of o.items) (screen old.server.terminal.queue) (screen more) o.is
          ∙ parts old.shown (text_of o.items) (screen old.server.terminal.queue ++ screen more) new.shown (text_of (o.items ++ said))
          (screen new.server.terminal.queue)
          (sym shown)
          (sym (append-nil (text_of o.items)) ∙ ap (λ (x : List ℕ). text_of o.items ++ x) (sym silent) ∙ sym (flat_map-append item_shown o.items said))
          (sym (flat_map-append symbol_shown old.server.terminal.queue more) ∙ ap screen (sym took));
    }

-- nothing was sent
still_output : (old new : World) (text : List ℕ) → new.client.decoder ≡ old.client.decoder → new.shown ≡ old.shown → new.to_client ≡ old.to_client
    → new.server.terminal.queue ≡ old.server.terminal.queue → IsOutput old text → IsOutput new (text ++ [])
still_output old new text decoder shown said took o =
    says_output old new text [] [] (All-nil Fits) refl decoder shown (said ∙ sym (append-nil old.to_client))
    (took ∙ sym (append-nil old.server.terminal.queue)) o

none_queued : (old new : World) (e : Event) → new.server.terminal.queue ≡ old.server.terminal.queue → Queues old e [] new
none_queued old new (Pull n) is = refl
none_queued old new e is = is ∙ sym (append-nil old.server.terminal.queue)

none_at : (e : Event) → IsNoneAt e []
none_at (Pull n) = refl
none_at (ToClient n) = refl
none_at e = tt

still_grows : (old new : World) (e : Event) (text : List ℕ) → new.client.decoder ≡ old.client.decoder → new.shown ≡ old.shown → new.to_client ≡ old.to_client
    → new.server.terminal.queue ≡ old.server.terminal.queue → IsOutput old text → OutputGrows old e new text
still_grows old new e text decoder shown said took o =
    record { symbols = []; took = none_queued old new e took; none = none_at e; output = still_output old new text decoder shown said took o }

same_grows : (old new : World) (e : Event) (text : List ℕ) → new ≡ old → IsOutput old text → OutputGrows old e new text
same_grows old new e text is o =
    still_grows old new e text (ap (λ (w : World). w.client.decoder) is) (ap (λ (w : World). w.shown) is) (ap (λ (w : World). w.to_client) is)
    (ap (λ (w : World). w.server.terminal.queue) is) o

-- The symbols that the queue took, if none of it was pulled.
pub record Took (old new : World) (text : List ℕ) : Type 0 where
  pub symbols : List Symbol
  pub took : new.server.terminal.queue ≡ old.server.terminal.queue ++ symbols
  pub output : IsOutput new (text ++ screen symbols)

still_took : (old new mid : World) (text : List ℕ) → new ≡ mid → mid.client.decoder ≡ old.client.decoder → mid.shown ≡ old.shown
    → mid.to_client ≡ old.to_client → mid.server.terminal.queue ≡ old.server.terminal.queue → IsOutput old text → Took old new text
still_took old new mid text is decoder shown said took o = record {
  symbols = [];
  took = ap (λ (w : World). w.server.terminal.queue) is ∙ took ∙ sym (append-nil old.server.terminal.queue);
  output = still_output old new text (ap (λ (w : World). w.client.decoder) is ∙ decoder) (ap (λ (w : World). w.shown) is ∙ shown)
      (ap (λ (w : World). w.to_client) is ∙ said) (ap (λ (w : World). w.server.terminal.queue) is ∙ took) o;
}

-- A CALL OF THE SERVER

goes_took : (old new : World) (e : server_calls.Event) (text : List ℕ) → IsUnpulled e → HasPast old → new.server ≡ server_steps.end_after old.server e
    → new.to_client ≡ old.to_client ++ spells (server_steps.says old.server e) → new.client.decoder ≡ old.client.decoder → new.shown ≡ old.shown
    → IsOutput old text → Took old new text
goes_took old new e text is s there said decoder shown o =
    let more = queue_grows old.server e is in
    let took : new.server.terminal.queue ≡ old.server.terminal.queue ++ more.0 = ap (λ (x : server.End). x.terminal.queue) there ∙ more.1 in
    record {
      symbols = more.0;
      took = took;
      output = says_output old new text (server_steps.says old.server e) more.0 (asked_fit s.history old.server e s.server) (says_none old.server e is) decoder
          shown said took o;
    }

asks_took : (old new : World) (e : server_calls.Event) (text : List ℕ) → IsUnpulled e → HasPast old → CallsServer old e new → IsOutput old text
    → Took old new text
asks_took old new e text is s a o = goes_took old new e text is s (ap (λ (w : World). w.server) a.step) (ap (λ (w : World). w.to_client) a.step)
    (ap (λ (w : World). w.client.decoder) a.step) (ap (λ (w : World). w.shown) a.step) o

takes_took : (old new : World) (text : List ℕ) → HasPast old → TakesEntry old new → IsOutput old text → Took old new text
takes_took old new text s a o = goes_took old new server_calls.took text tt s (ap (λ (w : World). w.server) a) (ap (λ (w : World). w.to_client) a)
    (ap (λ (w : World). w.client.decoder) a) (ap (λ (w : World). w.shown) a) o

-- a delivery to the server
reaches_took : (old new : World) (n : ℕ) (text : List ℕ) → HasPast old → DeliversToServer old n new → IsOutput old text → Took old new text
reaches_took old new n text s r o =
    let f = r.feeds in
    let more = items_grow old.server f.items in
    let took : new.server.terminal.queue ≡ old.server.terminal.queue ++ more.0 = ap (λ (x : server.End). x.terminal.queue) f.step ∙ more.1 in
    record {
      symbols = more.0;
      took = took;
      output = says_output old new text (server_steps.says_items old.server f.items) more.0 (feeds_fit s.history old.server f.items s.server)
          (items_none old.server f.items) (ap (λ (w : World). w.client.decoder) r.rest) (ap (λ (w : World). w.shown) r.rest) f.said took o;
    }

-- A PULL: symbols leave the queue as items
data_text : (symbols : List Symbol) → text_of (map data_of symbols) ≡ screen symbols
data_text [] = refl
data_text (symbol.Byte b ∷ symbols) = ap (λ (x : List ℕ). b ∷ x) (data_text symbols)
data_text (symbol.Newline ∷ symbols) = ap (λ (x : List ℕ). 13 ∷ 10 ∷ x) (data_text symbols)

-- the front of the queue comes after what is in flight
moved : (flying waiting front back : List ℕ) → front ++ back ≡ waiting → flying ++ waiting ≡ (flying ++ front) ++ back
moved flying waiting front back is = ap (λ (x : List ℕ). flying ++ x) (sym is) ∙ sym (append_assoc flying front back)

cut_screen : (n : ℕ) (symbols : List Symbol) → screen (take n symbols) ++ screen (drop n symbols) ≡ screen symbols
cut_screen n symbols = sym (flat_map-append symbol_shown (take n symbols) (drop n symbols)) ∙ ap screen (take-append-drop n symbols)

pulls_grows : (old new : World) (n : ℕ) (text : List ℕ) → HasPast old → Pulls old n new → IsOutput old text → OutputGrows old (Pull n) new text
pulls_grows old new n text s p o =
    let queue = old.server.terminal.queue in
    let count = min n (length queue) in
    let said = map data_of (take count queue) in
    let fit = asked_fit s.history old.server (server_calls.pulled count) s.server in
    record {
      symbols = [];
      took = refl;
      none = refl;
      output = record {
        items = o.items ++ said;
        flight =
            subst (λ (d : DecoderState). InFlight d new.to_client (o.items ++ said)) (sym (ap (λ (w : World). w.client.decoder) p.step))
            (said_behind old.client.decoder old.to_client new.to_client o.items said (ap (λ (w : World). w.to_client) p.step) fit o.flight);
        is =
            append-nil text ∙ o.is
            ∙ ap (λ (x : List ℕ). old.shown ++ x) (moved (text_of o.items) (screen queue) (screen (take count queue)) (screen (drop count queue))
            (cut_screen count queue))
            ∙ parts old.shown (text_of o.items ++ screen (take count queue)) (screen (drop count queue)) new.shown (text_of (o.items ++ said))
            (screen new.server.terminal.queue)
            (sym (ap (λ (w : World). w.shown) p.step))
            (ap (λ (x : List ℕ). text_of o.items ++ x) (sym (data_text (take count queue))) ∙ sym (flat_map-append item_shown o.items said))
            (ap screen (sym (ap (λ (w : World). w.server.terminal.queue) p.step)));
      };
    }

-- A DELIVERY TO THE CLIENT: items leave the flight, and are shown
shown_more : (shown got left waiting : List ℕ) → shown ++ ((got ++ left) ++ waiting) ≡ (shown ++ got) ++ (left ++ waiting)
shown_more shown got left waiting = ap (λ (x : List ℕ). shown ++ x) (append_assoc got left waiting) ∙ sym (append_assoc shown got (left ++ waiting))

returns_grows : (old new : World) (n : ℕ) (text : List ℕ) → HasPast old → old.client.failed ≡ false → DeliversToClient old n new → IsOutput old text
    → OutputGrows old (ToClient n) new text
returns_grows old new n text s runs r o =
    let f = r.feeds in
    let at = (s.client_course runs).1 in
    let d = cut_at old.client.decoder new.client.decoder n old.to_client o.items f.items o.flight f.reads in
    let is_shown : new.shown ≡ old.shown ++ text_of f.items = f.shown in
    let queued : new.server.terminal.queue ≡ old.server.terminal.queue = ap (λ (w : World). w.server.terminal.queue) r.rest in
    record {
      symbols = [];
      took = queued ∙ sym (append-nil old.server.terminal.queue);
      none = refl;
      output = record {
        items = d.left;
        flight = subst (λ (x : List ℕ). InFlight new.client.decoder x d.left) (sym (ap (λ (w : World). w.to_client) r.rest)) d.flight;
        is =
            append-nil text ∙ o.is
            ∙ ap (λ (x : List ℕ). old.shown ++ (x ++ screen old.server.terminal.queue)) (ap text_of d.all ∙ flat_map-append item_shown f.items d.left)
            ∙ shown_more old.shown (text_of f.items) (text_of d.left) (screen old.server.terminal.queue)
            ∙ parts (old.shown ++ text_of f.items) (text_of d.left) (screen old.server.terminal.queue) new.shown (text_of d.left)
            (screen new.server.terminal.queue) (sym is_shown) refl (ap screen (sym queued));
      };
    }

-- EVERY EVENT
unless : (stopped : Bool) (old new : World) (e : Event) (text : List ℕ) (happens : Type 0) → (happens → OutputGrows old e new text) → IsOutput old text
    → UnlessStopped stopped old new happens → OutputGrows old e new text
unless true old new e text happens done o is = same_grows old new e text is o
unless false old new e text happens done o is = done is

took_done : (old new : World) (e : Event) (text : List ℕ) → AddsOnly e → HasPast old → Done old e new → IsOutput old text → Took old new text
took_done old new e text adds s (unmoved is) o = still_took old new old text is refl refl refl refl o
took_done old new e text adds s (types key t) o = still_took old new _ text t.step refl refl refl refl o
took_done old new e text adds s (enters t) o = still_took old new _ text t.step refl refl refl refl o
took_done old new e text adds s (sends command is t) o = still_took old new _ text t.step refl refl refl refl o
took_done old new e text adds s (resizes width height t) o = still_took old new _ text t.step refl refl refl refl o
took_done old new e text adds s (proposes func value is t) o = still_took old new _ text t.step refl refl refl refl o
took_done old new e text adds s (reaches n t) o = reaches_took old new n text s t o
took_done old new e text adds s (returns n is t) o = absurd (subst AddsOnly is adds)
took_done old new e text adds s (asks call is plain unpulled t) o = asks_took old new call text (unpulled adds) s t o
took_done old new e text adds s (takes t) o = takes_took old new text s t o
took_done old new e text adds s (stops a b is) o = still_took old new _ text is refl refl refl refl o

pub output_grows : (old new : World) (e : Event) (text : List ℕ) → HasPast old → old.client.failed ≡ false → RunsEvent old e new → IsOutput old text
    → OutputGrows old e new text
output_grows old new (ToClient n) text s runs d o = unless old.client_stopped old new (ToClient n) text (DeliversToClient old n new)
    (λ r. returns_grows old new n text s runs r o) o d
output_grows old new (Pull n) text s runs d o = unless old.server_stopped old new (Pull n) text (Pulls old n new) (λ p. pulls_grows old new n text s p o) o d
output_grows old new e text s runs d o =
    let t = took_done old new e text tt s (done_of old new e d) o in
    record { symbols = t.symbols; took = t.took; none = tt; output = t.output }

-- A REFUSED EVENT adds to it as long as the client does not fail
halted : (old new : World) (n : ℕ) (fault : ServerFault) (text : List ℕ) → HasPast old → ServerRefusesDelivery old n fault new → IsOutput old text
    → server_answers.StopsWithin old.server (take n old.to_server) fault old.to_client new.to_client new.server → Took old new text
halted old new n fault text s r o x =
    let more = items_grow old.server x.done in
    let took : new.server.terminal.queue ≡ old.server.terminal.queue ++ more.0 = ap (λ (e : server.End). e.terminal.queue) x.step ∙ more.1 in
    record {
      symbols = more.0;
      took = took;
      output = says_output old new text (server_steps.says_items old.server x.done ++ x.part) more.0
          (halts_fit s.history old.server new.server (take n old.to_server) old.to_client new.to_client fault s.server x)
          (halts_none old.server new.server (take n old.to_server) old.to_client new.to_client fault x)
          (ap (λ (w : World). w.client.decoder) r.rest) (ap (λ (w : World). w.shown) r.rest) x.said took o;
    }

halts_took : (old new : World) (n : ℕ) (fault : ServerFault) (text : List ℕ) → HasPast old → ServerRefusesDelivery old n fault new → IsOutput old text
    → (f : ServerFault) → fault ≡ f → Took old new text
halts_took old new n fault text s r o server_faults.Failed e =
    still_took old new _ text (r.again e).1 refl refl refl refl o
halts_took old new n fault text s r o (server_faults.Pty f) e = halted old new n fault text s r o (r.halts (subst IsOfItem (sym e) tt))
halts_took old new n fault text s r o server_faults.Memory e = halted old new n fault text s r o (r.halts (subst IsOfItem (sym e) tt))
halts_took old new n fault text s r o _ e = absurd (subst IsOfPiece e r.is_fault)

pub refused_grows : (old new : World) (e : Event) (text : List ℕ) → HasPast old → Refusal old e new → IsOutput old text → new.client.failed ≡ false
    → OutputGrows old e new text
refused_grows old new e text s (unchanged is) o runs = same_grows old new e text is o
refused_grows old new e text s (by_server n fault is r) o runs =
    let t = halts_took old new n fault text s r o fault refl in
    subst (λ (x : Event). OutputGrows old x new text) (sym is) (record { symbols = t.symbols; took = t.took; none = tt; output = t.output })
refused_grows old new e text s (by_client n fault is r) o runs = opposite new.client.failed _ r.failed runs

-- one event after another
pub runs_grow : (old new : World) (events : List Event) (text : List ℕ) → HasPast old → old.client.failed ≡ false → Runs old events new → IsOutput old text
    → OutputGrowsAll old events new text
runs_grow old new [] text s runs r o = (text, (r, refl))
runs_grow old new (e ∷ events) text s runs r o =
    let g = output_grows old r.0 e text s runs r.1 o in
    let later = runs_grow r.0 new events (text ++ screen g.symbols) (sound_does old r.0 e r.1 s) ((does_keeps old r.0 e r.1).1 ∙ runs) r.2 g.output in
    (later.0, (r.0, r.1, g, later.1))

-- the worlds to which they lead
pub runs_sound : (old new : World) (events : List Event) → Runs old events new → HasPast old → HasPast new
runs_sound old new [] r s = subst HasPast (sym r) s
runs_sound old new (e ∷ events) r s = runs_sound r.0 new events r.2 (sound_does old r.0 e r.1 s)

last_output : (old new : World) (events : List Event) (text last : List ℕ) → OutputGrowsTo old events new text last → IsOutput old text → IsOutput new last
last_output old new [] text last g o = subst (λ (x : List ℕ). IsOutput new x) (sym g.1) (subst (λ (w : World). IsOutput w text) (sym g.0) o)
last_output old new (e ∷ events) text last g o =
    let first = g.2 in
    last_output g.0 new events (text ++ screen first.symbols) last g.3 first.output

pub ends_grow : (old new : World) (events : List Event) (at : ℕ) (cause : Cause) (text : List ℕ) → HasPast old → old.client.failed ≡ false
    → StopsWithin old events at cause new → IsOutput old text → OutputGrowsBefore old events at cause new text
ends_grow old new events at cause text s runs e o =
    let g = runs_grow old e.mid e.done text s runs e.runs o in
    record {
      ends = e;
      last = g.0;
      grows = g.1;
      refused = λ on. refused_grows e.mid new e.event g.0 (runs_sound old e.mid e.done e.runs s) (refusal_of e.mid new e.event cause e.refuses)
          (last_output old e.mid e.done text g.0 g.1 o) on;
    }

-- the text that is shown comes first
pub shown_begins : (w : World) (text : List ℕ) → IsOutput w text → IsPrefixOf w.shown text
shown_begins w text o = (text_of o.items ++ screen w.server.terminal.queue, sym o.is)

-- a new world shows nothing, and its opening messages are silent
pub opened_output : (o : Opening) (w : World) → LeadsTo [] [] w.client.decoder → w.to_client ≡ spells (opening o) → w.shown ≡ [] → w.server.terminal.queue ≡ [] → IsOutput w []
opened_output o w began said shown none =
    record {
      items = opening o;
      flight = said_behind w.client.decoder [] w.to_client [] (opening o) said (opening-fits o) (start w.client.decoder began);
      is = parts [] [] [] w.shown (text_of (opening o)) (screen w.server.terminal.queue) (sym shown) (sym (opening_none o)) (ap screen (sym none));
    }
