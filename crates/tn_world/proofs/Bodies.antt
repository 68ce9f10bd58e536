-- The invariant of a world after each event, in terms of the calls that it makes.
use Rattle.std.proofs.Common.{◌++◌, ◌≡◌, ◌≢◌, inl, ℕ, Bool, true, false, if◌then◌else◌, Some, None, List, [], take, drop, Vec, refl, sym, ap, ◌∙◌, subst}
use Rattle.std.proofs.lemmas.List.Elements.{All-nil}
use Rattle.tn_discipline.specs.{Canon.Canon, declared.reads.Entry.Entry}
use Rattle.tn_nvt.specs.{Spelling.spells, Feeding.LeadsTo}
use Rattle.tn_option.specs.Options.{Options, new_options}
use Rattle.tn_option.proofs.lemmas.Agreement.{same-Moves}
use Rattle.tn_linemode.specs.OptionWords.{words_in}
use Rattle.tn_server.specs.Course as server_courses
use Rattle.tn_server.specs.{Terms.{Terms, opening_options}, Replies.opening, declared.{faults.ServerFault.ServerFault, openings.Opening.Opening}}
use Rattle.tn_client.specs.Terms as client_terms
use Rattle.tn_server.specs.Events as server_calls
use Rattle.tn_server.specs.Answering as server_answers
use Rattle.tn_server.specs.Calls as server
use Rattle.tn_server.specs.Steps as server_steps
use Rattle.tn_server.specs.Faults as faults
use Rattle.tn_server.specs.declared.faults.ServerFault.TheVariants as server_faults
use Rattle.tn_server.proofs.lemmas.{Fitting.sent-fit, Wanting.says_something}
use Rattle.tn_client.specs.Course as client_courses
use Rattle.tn_client.specs.Events as client_calls
use Rattle.tn_client.specs.Calls as client
use Rattle.tn_client.specs.Answering as answers
use Rattle.tn_client.specs.{Steps.{end_after, says, SaysOrShows}, declared.{commands.UserCommand.UserCommand, faults.ClientFault.ClientFault}}
use Rattle.tn_client.specs.declared.faults.ClientFault.TheVariants as client_faults
use Rattle.tn_world.specs.{Past.{HasPast, opening_pair, WishesNothing}, Flight.InFlight, Opened.IsOpened, declared.events.Event.TheVariants.Resize}
use Rattle.tn_world.specs.Worlds.{World, server_fault, client_fault, ServerRefusesCall, ClientRefusesCall, ClientRefusesEvent}
use Rattle.tn_world.proofs.Cut.{said_behind, start}
use Rattle.tn_world.proofs.Soundness.{Lead, made, asked_sound, told_sound, sound_as, sound_reaches, sound_returns, propose_goes_on, breaks_sound, again_sound}

-- a call of the client that is accepted
pub tells_sound : (old : World) (end : client.End) (e : client_calls.Event) (later : List ℕ) → client_courses.IsCall e → client_fault old.client e ≡ None
    → end ≡ end_after old.client e → later ≡ old.to_server ++ spells (says old.client e) → HasPast old
    → HasPast (record old { client = end; to_server = later })
tells_sound old end e later call accepted step said s =
    subst (λ x. HasPast (record old { client = x; to_server = later })) (sym step)
    (subst (λ x. HasPast (record old { client = end_after old.client e; to_server = x })) (sym said)
    (told_sound old e call (propose_goes_on old.client e accepted) s))

pub key_sound : (old : World) (end : client.End) (e : client_calls.Event) (later seen keys : List ℕ) → client_courses.IsCall e
    → client_fault old.client e ≡ None → end ≡ end_after old.client e → later ≡ old.to_server ++ spells (says old.client e) → HasPast old
    → HasPast (record old { client = end; to_server = later; echoed = seen; typed = keys })
key_sound old end e later seen keys call accepted step said s =
    sound_as (record old { client = end; to_server = later }) (record old { client = end; to_server = later; echoed = seen; typed = keys }) refl refl refl refl
    (tells_sound old end e later call accepted step said s)

pub send_sound : (old : World) (end : client.End) (command : UserCommand) (later keys : List ℕ) → client_fault old.client (client_calls.sent command) ≡ None
    → end ≡ old.client → later ≡ old.to_server ++ spells (says old.client (client_calls.sent command)) → HasPast old
    → HasPast (record old { client = end; to_server = later; typed = keys })
send_sound old end command later keys accepted step said s =
    sound_as (record old { client = end; to_server = later }) (record old { client = end; to_server = later; typed = keys }) refl refl refl refl
    (tells_sound old end (client_calls.sent command) later tt accepted step said s)

-- a call of the server that is accepted
pub asks_sound : (old : World) (end : server.End) (e : server_calls.Event) (later : List ℕ) → server_courses.IsCall e → end ≡ server_steps.end_after old.server e
    → later ≡ old.to_client ++ spells (server_steps.says old.server e) → HasPast old → HasPast (record old { server = end; to_client = later })
asks_sound old end e later call step said s =
    subst (λ x. HasPast (record old { server = x; to_client = later })) (sym step)
    (subst (λ x. HasPast (record old { server = server_steps.end_after old.server e; to_client = x })) (sym said) (asked_sound old e call s))

pub takes_sound : (old : World) (end : server.End) (later : List ℕ) (entries : List Entry) → end ≡ server_steps.end_after old.server server_calls.took
    → later ≡ old.to_client ++ spells (server_steps.says old.server server_calls.took) → HasPast old
    → HasPast (record old { server = end; to_client = later; taken = entries })
takes_sound old end later entries step said s =
    sound_as (record old { server = end; to_client = later }) (record old { server = end; to_client = later; taken = entries }) refl refl refl refl
    (asks_sound old end server_calls.took later tt step said s)

-- deliveries
pub reaches_sound : (old : World) (end : server.End) (n : ℕ) (piece left later : List ℕ) → server.call_fault old.server ≡ None → piece ≡ take n old.to_server
    → left ≡ drop n old.to_server → server_answers.Feeds old.server piece old.to_client later end → HasPast old
    → HasPast (record old { server = end; to_server = left; to_client = later })
reaches_sound old end n piece left later accepted is rest feeds s =
    sound_reaches old (record old { server = end; to_server = left; to_client = later }) n
    (record {
      accepted = accepted;
      feeds = subst (λ x. server_answers.Feeds old.server x old.to_client later end) is feeds;
      rest = ap (λ x. record old { server = end; to_server = x; to_client = later }) rest;
    }) s

pub returns_sound : (old : World) (end : client.End) (n : ℕ) (piece left later seen : List ℕ) → client.call_fault old.client ≡ None
    → piece ≡ take n old.to_client → left ≡ drop n old.to_client → answers.Feeds old.client piece old.to_server later old.shown seen end → HasPast old
    → HasPast (record old { client = end; to_client = left; to_server = later; shown = seen })
returns_sound old end n piece left later seen accepted is rest feeds s =
    sound_returns old (record old { client = end; to_client = left; to_server = later; shown = seen }) n
    (record {
      accepted = accepted;
      feeds = subst (λ x. answers.Feeds old.client x old.to_server later old.shown seen end) is feeds;
      rest = ap (λ x. record old { client = end; to_client = x; to_server = later; shown = seen }) rest;
    }) s

pub breaks_or_again : (old : World) (end : client.End) (piece left later seen : List ℕ) (fault : ClientFault)
    → client.IsFault (client.call_fault old.client) fault → (fault ≡ client_faults.Memory
    → answers.StopsWithin old.client piece old.to_server later old.shown seen)
    → (fault ≡ client_faults.Failed → answers.Untouched old.client old.to_server later old.shown seen end) → end.failed ≡ true → HasPast old
    → HasPast (record old { client = end; to_client = left; to_server = later; shown = seen })
breaks_or_again old end piece left later seen fault cause breaks again failed s = by_test old.client.failed refl cause
  where
    by_test : (b : Bool) → old.client.failed ≡ b → client.IsFault (if b then Some client_faults.Failed else None) fault
        → HasPast (record old { client = end; to_client = left; to_server = later; shown = seen })
    by_test true is f = sound_as (record old { to_client = left }) (record old { client = end; to_client = left; to_server = later; shown = seen }) refl
        (again f).end (again f).out refl (again_sound old left is s)
    by_test false is f = breaks_sound old end piece left later seen is (breaks f) failed s

-- a call of the client that is refused
pub key_refused : (old : World) (end : client.End) (e : client_calls.Event) (later seen keys : List ℕ) (fault : ClientFault) → old.client_stopped ≡ false
    → client.IsFault (client_fault old.client e) fault → (fault ≡ client_faults.Memory → SaysOrShows old.client e)
    → answers.Untouched old.client old.to_server later old.echoed seen end → keys ≡ old.typed → (w : World) → old ≡ w
    → ((w.client_stopped ≡ false) × ClientRefusesCall w.client e fault) × (record old { client = end; to_server = later; echoed = seen; typed = keys } ≡ w)
key_refused old end e later seen keys fault goes cause grows same kept w is =
    let P : World → Type 0 = λ u. (u.client_stopped ≡ false) × ClientRefusesCall u.client e fault in
    (subst P is (goes, record { cause = cause; grows = grows }), rw (same.end, same.out, same.screen, kept) is)

pub resize_refused : (old : World) (end : client.End) (width height : ℕ) (later : List ℕ) (fault : ClientFault) → old.client_stopped ≡ false
    → client.IsFault (client.call_fault old.client) fault → (fault ≡ client_faults.Memory → says old.client (client_calls.resized width height) ≢ []) → answers.SaysNothing old.client old.to_server later end → (w : World) → old ≡ w
    → ClientRefusesEvent w (Resize width height) fault × (record old { client = end; to_server = later } ≡ w)
resize_refused old end width height later fault goes cause grows same w is =
    subst (λ w. ClientRefusesEvent w (Resize width height) fault × (record old { client = end; to_server = later } ≡ w)) is
    ((goes, record { cause = cause; grows = λ m. inl (grows m) }), rw (same.end, same.out) refl)

-- a call of the server that is refused
pub asks_refused : {Z : Type 0} (old : World) (end : server.End) (e : server_calls.Event) (later : List ℕ) (out : Vec ℕ Z) (fault : ServerFault)
    → old.server_stopped ≡ false → faults.IsFault (server_fault old.server e) fault
    → (fault ≡ server_faults.Memory → server_steps.LacksRoomFor old.server e out) → end ≡ old.server → later ≡ old.to_client → (w : World) → old ≡ w
    → ((w.server_stopped ≡ false) × ServerRefusesCall w.server e fault) × (record old { server = end; to_client = later } ≡ w)
asks_refused old end e later out fault goes cause lacks a b w is =
    subst (λ w. ((w.server_stopped ≡ false) × ServerRefusesCall w.server e fault) × (record old { server = end; to_client = later } ≡ w)) is
    ((goes, record { cause = cause; grows = λ m. says_something old.server e out (lacks m) }), rw (a, b) refl)

-- the opening messages are in flight to a client that has begun
opened_words : (opened : Opening) (here there : Options) → here ≡ opening_options opened → there ≡ new_options client_terms.agreement → Lead here there [] (words_in (opening opened))
opened_words opened here there a b =
    subst (λ (o : Options). Lead o there [] (words_in (opening opened))) (sym a)
    (subst (λ (o : Options). Lead (opening_options opened) o [] (words_in (opening opened))) (sym b)
    (record { opening = opened; talk = same-Moves (opening_pair opened) }))

-- just opened: both ends are where they start
pub open_sound : (o : Opening) (canon : Canon) (width height : ℕ) (w : World) → server.LeadsTo (server_calls.begun o canon) w.server → LeadsTo [] [] w.server.decoder
    → client.LeadsTo (client_calls.begun width height canon.limit) w.client → LeadsTo [] [] w.client.decoder → w.to_server ≡ [] → w.to_client ≡ spells (opening o)
    → w.server.terminal.closed ≡ false → HasPast w
open_sound o canon width height w stands reads begins began nothing said opens =
    made w (server_calls.begun o canon) stands
    (λ r. (server_courses.started o canon, record { history = server_calls.begun o canon; reads_as = refl; leads = stands; reads = reads }))
    (λ r. (
      client_courses.started width height canon.limit,
      record {
        history = client_calls.begun width height canon.limit;
        reads_as = refl;
        leads = begins;
        reads = began;
      },
    ))
    (λ r. begins.limit ∙ sym stands.limit)
    (λ r. opens)
    (λ r. ([], subst (λ x. InFlight w.server.decoder x []) (sym nothing) (start w.server.decoder reads)))
    (λ r. (opening o, said_behind w.client.decoder [] w.to_client [] (opening o) said (sent-fit (server_calls.begun o canon)) (start w.client.decoder began)))
    (λ a b. opened_words o w.server.terms.options w.client.options (ap (λ (t : Terms). t.options) stands.terms) begins.options)
    (λ a b. All-nil WishesNothing)

-- two ends that are just opened are an opened world
pub opened_world : (o : Opening) (canon : Canon) (width height : ℕ) (end : server.End) (other : client.End) (there here typed shown echoed : List ℕ) (taken : List Entry)
    → server.LeadsTo (server_calls.begun o canon) end → LeadsTo [] [] end.decoder → end.failed ≡ false → end.terminal.closed ≡ false
    → client.LeadsTo (client_calls.begun width height canon.limit) other → LeadsTo [] [] other.decoder → other.failed ≡ false → there ≡ []
    → here ≡ spells (opening o) → typed ≡ [] → taken ≡ [] → shown ≡ [] → echoed ≡ []
    → IsOpened o canon width height (record {
      server = end;
      client = other;
      server_stopped = false;
      client_stopped = false;
      to_server = there;
      to_client = here;
      typed = typed;
      taken = taken;
      shown = shown;
      echoed = echoed;
    })
opened_world o canon width height end other there here typed shown echoed taken stands reads runs opens begins began goes a b c d e f =
    record {
      server = record { history = server_calls.begun o canon; reads_as = refl; leads = stands; reads = reads };
      client = record { history = client_calls.begun width height canon.limit; reads_as = refl; leads = begins; reads = began };
      takes_keys = opens;
      server_runs = runs;
      client_runs = goes;
      rest = rw (a, b, c, d, e, f) refl;
    }
