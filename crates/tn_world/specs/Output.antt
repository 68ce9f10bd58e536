-- Output: all that the client's screen will have shown once the terminal's queue was sent
-- and all in flight arrived.
use Rattle.std.specs.{Prelude.{◌≡◌, ℕ, IsFalse, List, [], ◌∷◌, ◌++◌}, List.flat_map}
use Rattle.tn_discipline.specs.declared.echo.Symbol.{Symbol}
use Rattle.tn_nvt.specs.declared.items.Item.{Item}
use Rattle.tn_client.specs.Screen.{symbol_shown, item_shown}
use Rattle.tn_world.specs.{Flight.InFlight, Worlds.{World, RunsEvent, Refuses, StopsWithin}}
use Rattle.tn_world.specs.declared.{events.Event.{Event, TheVariants.{ToClient, Pull}}, faults.Cause.Cause}

-- the bytes that show these symbols
abbrev pub screen : List Symbol → List ℕ
screen symbols = flat_map symbol_shown symbols

-- the bytes that these items show
abbrev pub text_of : List Item → List ℕ
text_of items = flat_map item_shown items

-- The text is the world's Output. What is in flight is read on from the client's unfinished rest.
pub record IsOutput (w : World) (text : List ℕ) : Type 0 where
  pub items : List Item
  pub flight : InFlight w.client.decoder w.to_client items
  pub is : text ≡ w.shown ++ (text_of items ++ screen w.server.terminal.queue)

-- the symbols that the pair's queue took in an event: a pull only takes out of it
abbrev pub Queues : World → Event → List Symbol → World → Type 0
Queues old (Pull n) symbols new = symbols ≡ []
Queues old e symbols new = new.server.terminal.queue ≡ old.server.terminal.queue ++ symbols

-- in a pull and in a delivery to the client the queue takes nothing
abbrev pub IsNoneAt : Event → List Symbol → Type 0
IsNoneAt (Pull n) symbols = symbols ≡ []
IsNoneAt (ToClient n) symbols = symbols ≡ []
IsNoneAt e symbols = Unit {0}

-- The symbols that the terminal's queue took in the event are what it adds to this Output.
pub record OutputGrows (old : World) (e : Event) (new : World) (text : List ℕ) : Type 0 where
  pub symbols : List Symbol
  pub took : Queues old e symbols new
  pub none : IsNoneAt e symbols
  pub output : IsOutput new (text ++ screen symbols)

-- each of these events does so, and this Output is the last
abbrev pub OutputGrowsTo : World → List Event → World → List ℕ → List ℕ → Type 0
OutputGrowsTo old [] new text last = (new ≡ old) × (last ≡ text)
OutputGrowsTo old (e ∷ events) new text last =
    (mid : World) × RunsEvent old e mid × (grows : OutputGrows old e mid text)
    × OutputGrowsTo mid events new (text ++ screen grows.symbols) last

-- these events grow the Output, one after another
abbrev pub OutputGrowsAll : World → List Event → World → List ℕ → Type 0
OutputGrowsAll old events new text = (last : List ℕ) × OutputGrowsTo old events new text last

-- The symbols that the terminal's queue took while the world settled are what it adds to this Output.
pub record OutputSettles (old new : World) (text : List ℕ) : Type 0 where
  pub symbols : List Symbol
  pub took : new.server.terminal.queue ≡ old.server.terminal.queue ++ symbols
  pub output : IsOutput new (text ++ screen symbols)

-- A delivery is refused while it settles: it does so up to this delivery, and with it, unless the client
-- fails.
pub record OutputStopsSettling (old : World) (cause : Cause) (new : World) (text : List ℕ) : Type 0 where
  pub mid : World
  pub before : OutputSettles old mid text
  pub delivery : Event
  pub refuses : Refuses mid delivery cause new
  pub refused : IsFalse new.client.failed → OutputSettles old new text

-- The event at this place is refused, and each of those before it does so; and so does this one,
-- unless the client fails.
pub record OutputGrowsBefore (old : World) (events : List Event) (at : ℕ) (cause : Cause) (new : World)
    (text : List ℕ) : Type 0 where
  pub ends : StopsWithin old events at cause new
  pub last : List ℕ
  pub grows : OutputGrowsTo old ends.done ends.mid text last
  pub refused : IsFalse new.client.failed → OutputGrows ends.mid ends.event new last
