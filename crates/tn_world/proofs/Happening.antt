-- The effect of an event that is done: nothing, a step of one end, a delivery, or a stop.
use Rattle.std.proofs.Common.{◌≡◌, ℕ, Bool, true, false, Option, min, length, refl, ap, ◌∙◌}
use Rattle.tn_codes.specs.declared.codes.Func.{Func}
use Rattle.tn_server.specs.Calls as server
use Rattle.tn_server.specs.Course as server_courses
use Rattle.tn_server.specs.Events as server_calls
use Rattle.tn_server.proofs.lemmas.Gathering.{call_keeps, items_keep}
use Rattle.tn_client.specs.Events as client_calls
use Rattle.tn_client.specs.declared.commands.UserCommand.{UserCommand}
use Rattle.tn_client.proofs.lemmas.Standings.{fed_failed}
use Rattle.tn_world.specs.{Headline.IsQuietEvent, Worlds.{TakesEntry, RunsEvent}, declared.events.Event.{Event, TheVariants.{Mask, ServerStops, ClientStops}}}
use Rattle.tn_world.specs.Worlds.{World, UnlessStopped, TypesKey, EntersLine, SendsCommand, CallsClient, DeliversToServer, DeliversToClient, CallsServer}
use Rattle.tn_world.specs.declared.events.Event.TheVariants.{Key, NewLine, Send, ToServer, ToClient, Write, Pull, Take, Wish, Resize, SetChar, Propose, Echo}
use Rattle.tn_world.proofs.{ServerItems.IsUnpulled, ServerSteps.KeepsEntries}

-- no pull, and no delivery to the client
abbrev pub AddsOnly : Event → Type 0
AddsOnly (Pull n) = ⊥
AddsOnly (ToClient n) = ⊥
AddsOnly _ = Unit {0}

pub data Done (old : World) (e : Event) (new : World) : Type 0 where
  unmoved : new ≡ old → Done old e new
  types : (key : ℕ) → TypesKey old key new → Done old e new
  enters : EntersLine old new → Done old e new
  sends : (command : UserCommand) → e ≡ Send command → SendsCommand old command new → Done old e new
  resizes : (width height : ℕ) → CallsClient old (client_calls.resized width height) new → Done old e new
  proposes : (func : Func) (value : Option ℕ) → e ≡ Propose func value → CallsClient old (client_calls.proposed func value) new → Done old e new
  reaches : (n : ℕ) → DeliversToServer old n new → Done old e new
  returns : (n : ℕ) → e ≡ ToClient n → DeliversToClient old n new → Done old e new
  asks : (call : server_calls.Event) → server_courses.IsCall call → (IsQuietEvent old e → KeepsEntries call) → (AddsOnly e → IsUnpulled call)
      → CallsServer old call new → Done old e new
  takes : TakesEntry old new → Done old e new
  stops : (a b : Bool) → new ≡ record old { server_stopped = a; client_stopped = b } → Done old e new

done_by : (old new : World) (e : Event) (stopped : Bool) (happens : Type 0) → UnlessStopped stopped old new happens → (happens → Done old e new) → Done old e new
done_by old new e true happens d make = unmoved d
done_by old new e false happens d make = make d

asks_by : (old new : World) (e : Event) (call : server_calls.Event) → server_courses.IsCall call → (IsQuietEvent old e → KeepsEntries call)
    → (AddsOnly e → IsUnpulled call) → UnlessStopped old.server_stopped old new (CallsServer old call new) → Done old e new
asks_by old new e call is plain adds d = done_by old new e old.server_stopped (CallsServer old call new) d (λ t. asks call is plain adds t)

pub done_of : (old new : World) (e : Event) → RunsEvent old e new → Done old e new
done_of old new (Key key) d = done_by old new (Key key) old.client_stopped (TypesKey old key new) d (λ t. types key t)
done_of old new NewLine d = done_by old new NewLine old.client_stopped (EntersLine old new) d (λ t. enters t)
done_of old new (Send command) d = done_by old new (Send command) old.client_stopped (SendsCommand old command new) d (λ t. sends command refl t)
done_of old new (ToServer n) d = done_by old new (ToServer n) old.server_stopped (DeliversToServer old n new) d (λ t. reaches n t)
done_of old new (ToClient n) d = done_by old new (ToClient n) old.client_stopped (DeliversToClient old n new) d (λ t. returns n refl t)
done_of old new (Write bytes) d = asks_by old new (Write bytes) (server_calls.wrote bytes) tt (λ q. tt) (λ a. tt) d
done_of old new (Pull n) d = asks_by old new (Pull n) (server_calls.pulled (min n (length old.server.terminal.queue))) tt (λ q. tt) (λ a. a) d
done_of old new Take d = takes d
done_of old new (Wish editing) d = asks_by old new (Wish editing) (server_calls.wished editing) tt (λ q. tt) (λ a. tt) d
done_of old new (Resize width height) d =
    done_by old new (Resize width height) old.client_stopped (CallsClient old (client_calls.resized width height) new) d (λ t. resizes width height t)
done_of old new (SetChar func value) d = asks_by old new (SetChar func value) (server_calls.char_set func value) tt (λ q. q) (λ a. tt) d
done_of old new (Propose func value) d =
    done_by old new (Propose func value) old.client_stopped (CallsClient old (client_calls.proposed func value) new) d (λ t. proposes func value refl t)
done_of old new (Echo on) d = asks_by old new (Echo on) (server_calls.echo_set on) tt (λ q. tt) (λ a. tt) d
done_of old new (Mask mask) d = asks_by old new (Mask mask) (server_calls.mask_set mask) tt (λ q. tt) (λ a. tt) d
done_of old new ServerStops d = stops true old.client_stopped d
done_of old new ClientStops d = stops old.server_stopped true d

-- The event fails no end: if none has failed after it, none had before.
abbrev pub FailsNone : World → World → Type 0
FailsNone old new = (new.server.failed ≡ old.server.failed) × (new.client.failed ≡ old.client.failed)

fails_none : (old new mid : World) → new ≡ mid → FailsNone old mid → FailsNone old new
fails_none old new mid is p = (ap (λ (w : World). w.server.failed) is ∙ p.0, ap (λ (w : World). w.client.failed) is ∙ p.1)

done_keeps : (old new : World) (e : Event) → Done old e new → FailsNone old new
done_keeps old new e (unmoved is) = fails_none old new old is (refl, refl)
done_keeps old new e (types key t) = fails_none old new _ t.step (refl, refl)
done_keeps old new e (enters t) = fails_none old new _ t.step (refl, refl)
done_keeps old new e (sends command is t) = fails_none old new _ t.step (refl, refl)
done_keeps old new e (resizes width height t) = fails_none old new _ t.step (refl, refl)
done_keeps old new e (proposes func value is t) = fails_none old new _ t.step (refl, refl)
done_keeps old new e (reaches n t) = (
  ap (λ (x : server.End). x.failed) (t.feeds.step ∙ ap (λ (x : server.End). record x { decoder = new.server.decoder }) (items_keep old.server t.feeds.items)),
  ap (λ (w : World). w.client.failed) t.rest,
)
done_keeps old new e (returns n is t) = (ap (λ (w : World). w.server.failed) t.rest, fed_failed old.client new.client _ _ _ _ _ t.feeds)
done_keeps old new e (asks call is plain adds t) = fails_none old new _ t.step (ap (λ (x : server.End). x.failed) (call_keeps old.server call), refl)
done_keeps old new e (takes t) = fails_none old new _ t (refl, refl)
done_keeps old new e (stops a b is) = fails_none old new _ is (refl, refl)

pub does_keeps : (old new : World) (e : Event) → RunsEvent old e new → FailsNone old new
does_keeps old new e d = done_keeps old new e (done_of old new e d)
