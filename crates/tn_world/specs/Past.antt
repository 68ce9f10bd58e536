-- The facts that hold of every world from its opening on.
use Rattle.std.specs.Prelude.{◌≡◌, IsTrue, IsFalse, List, [], Option, Some, All}
use Rattle.tn_codes.specs.{PayloadOf.payload_of, declared.payloads.Payload.{Payload, TheVariants.Mode}}
use Rattle.tn_linemode.specs.{Modes.is_acknowledged, OptionWords.words_in}
use Rattle.tn_nvt.specs.declared.items.Item.{Item, TheVariants.Sub}
use Rattle.tn_option.specs.{EnginePair.{EnginePair, TalkTo}, Options.new_options}
use Rattle.tn_server.specs.Course as server_courses
use Rattle.tn_server.specs.Events as server_calls
use Rattle.tn_server.specs.Calls as server
use Rattle.tn_server.specs.{Replies.opening, declared.openings.Opening.Opening}
use Rattle.tn_server.specs.Terms as server_terms
use Rattle.tn_client.specs.Course as client_courses
use Rattle.tn_client.specs.Terms as client_terms
use Rattle.tn_world.specs.{Flight.InFlight, Worlds.World}

-- both option engines, with the option messages among what is in flight to the server and back
abbrev pub engines : World → List Item → List Item → EnginePair
engines w there back =
    record {
      here = w.server.terms.options;
      there = w.client.options;
      to_here = words_in there;
      to_there = words_in back;
    }

-- both engines as they begin: the server's opening messages are on their way
abbrev pub opening_pair : Opening → EnginePair
opening_pair o =
    record {
      here = server_terms.opening_options o;
      there = new_options client_terms.agreement;
      to_here = [];
      to_there = words_in (opening o);
    }

-- a talk that began with the messages of either opening leads to both engines
pub record HasTalked (e : EnginePair) : Type 0 where
  pub opening : Opening
  pub talk : TalkTo (opening_pair opening) e

-- RFC 1184, section 2.2: no MODE but one that acknowledges
abbrev pub IsNoWish : Option Payload → Type 0
IsNoWish (Some (Mode mask)) = IsTrue (is_acknowledged mask)
IsNoWish _ = Unit {0}

-- the item requests no mode
abbrev pub WishesNothing : Item → Type 0
WishesNothing (Sub option params) = IsNoWish (payload_of option params)
WishesNothing _ = Unit {0}

-- The past of a world, after any events since it was opened. Some history leads to the server; as long as an
-- end has not failed, some pieces and calls lead to it, and what flies to it are whole items; both ends have
-- lines of one limit. The terminal of a server that has not failed takes keys. While neither has failed, a talk
-- that began with the opening messages leads to both engines (RFC 1143), and the client requests no mode.
pub record HasPast (w : World) : Type 0 where
  pub history : server_calls.History
  pub server : server.LeadsTo history w.server
  pub server_course : IsFalse w.server.failed
      → (course : server_courses.Course) × server_courses.CourseLeadsTo course w.server
  pub client_course : IsFalse w.client.failed
      → (course : client_courses.Course) × client_courses.CourseLeadsTo course w.client
  pub limit : IsFalse w.client.failed → w.client.line.limit ≡ w.server.terminal.line.limit
  pub takes_keys : IsFalse w.server.failed → IsFalse w.server.terminal.closed
  pub to_server : IsFalse w.server.failed → (items : List Item) × InFlight w.server.decoder w.to_server items
  pub to_client : IsFalse w.client.failed → (items : List Item) × InFlight w.client.decoder w.to_client items
  pub words : (a : IsFalse w.server.failed) (b : IsFalse w.client.failed)
      → HasTalked (engines w (to_server a).0 (to_client b).0)
  pub unwished : (a : IsFalse w.server.failed) → IsFalse w.client.failed → All WishesNothing (to_server a).0
