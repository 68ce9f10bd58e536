-- The relation between both ends that every quiet event keeps, while no end has failed.
use Rattle.std.specs.Prelude.{◌≡◌, ℕ, Bool, IsTrue, IsFalse, All, List, [], ◌∷◌, ◌++◌, length, if◌then◌else◌}
use Rattle.tn_discipline.specs.{Characters.Characters, Canon.{Canon, typed_entries, typed_half}}
use Rattle.tn_discipline.specs.{Keys.literal_role, declared.reads.Entry.Entry}
use Rattle.tn_discipline.specs.declared.keys.Role.TheVariants as role
use Rattle.tn_nvt.specs.{declared.items.Item.Item, Spelling.Fits, Prefixes.IsPrefixOf}
use Rattle.tn_server.specs.{Terms.allows_local, Steps.end_after_items}
use Rattle.tn_client.specs.Calls as client
use Rattle.tn_server.specs.Calls as server
use Rattle.tn_client.specs.Terms.{linemode}
use Rattle.tn_linemode.specs.Modes.{edits}
use Rattle.tn_world.specs.{Headline.local_entries, Past.HasPast, Flight.InFlight, Worlds.World}
use Rattle.tn_world.specs.relation.Calm.{IsCalmToServer, IsCalmToClient, bits, IsAskable}
use Rattle.tn_world.specs.relation.Pictures.{Server, server_core, ServerStays, ClientStays}

-- a server with these
abbrev pub server_at : Bool → Bool → List ℕ → List Entry → Server
server_at linemode edit half waiting =
    record { linemode = linemode; edit = edit; half = half; waiting = waiting }

-- bytes that are ordinary as they are
abbrev pub AreOrdinary : Characters → List ℕ → Type 0
AreOrdinary chars [] = Unit {0}
AreOrdinary chars (b ∷ bs) = (literal_role chars b ≡ role.Ordinary b) × AreOrdinary chars bs

-- The relation between the typed keys and the taken entries, the server `v` once it has read what is in
-- flight to it, and the client. `v` has LINEMODE on exactly if the client has it on. The keys' entries are
-- those taken and those that wait at `v`, and their half-typed line is that of `v` followed by the bytes that
-- the client holds. If the client edits, it has the length of the half-typed line of `v`; if it does not, it
-- holds nothing, and the count that ISIG names is that length, if Local is a mode that the server may ask
-- for.
pub record Agrees (canon : Canon) (typed : List ℕ) (taken : List Entry) (v : Server)
    (c : client.End) : Type 0 where
  pub half : List ℕ
  pub waiting : List Entry
  pub is : v ≡ server_at (linemode c.options) (edits c.mode) half waiting
  pub off : IsFalse (linemode c.options) → IsFalse (edits c.mode)
  pub entries : typed_entries canon typed ≡ taken ++ waiting
  pub line : typed_half canon typed ≡ half ++ c.line.held
  pub askable : IsAskable canon.settings (bits c.mode)
  pub ahead : IsTrue (edits c.mode) → length half ≡ c.line.ahead
  pub none : IsFalse (edits c.mode) → c.line.held ≡ []
  pub plain : AreOrdinary canon.settings.chars c.line.held
  pub count : IsFalse (edits c.mode) → IsTrue (allows_local canon.settings.flags)
      → (if canon.settings.flags.isig then c.trapped else c.plain) ≡ length half

-- Two ends and the items that are on their way between them: these fit a stream and are calm, the server that
-- has read its items agrees with the client, and what stays at each end is as it was at the mark.
pub record IsTied (canon : Canon) (typed : List ℕ) (taken : List Entry) (there back : List Item)
    (s : server.End) (c : client.End) : Type 0 where
  pub fit : All Fits there
  pub calm : All (IsCalmToServer canon.settings) there
  pub calm_back : All (IsCalmToClient canon.settings) back
  pub agrees : Agrees canon typed taken (server_core (end_after_items s there)) c
  pub server : ServerStays canon s
  pub client : ClientStays canon c

-- The relation of a world, with the server's settings and line limit at its mark: the bytes in flight are
-- whole items, and the ends are tied by these.
pub record IsRelated (canon : Canon) (w : World) : Type 0 where
  pub items : List Item
  pub flight : InFlight w.server.decoder w.to_server items
  pub messages : List Item
  pub back : InFlight w.client.decoder w.to_client messages
  pub tied : IsTied canon w.typed w.taken items messages w.server w.client
  pub past : HasPast w

-- The rest of the relation if the client has failed, and sends nothing more: the entries taken, followed by
-- those that wait at the server once it has read what is in flight to it, begin those of the typed keys.
pub record IsBehind (canon : Canon) (w : World) : Type 0 where
  pub items : List Item
  pub flight : InFlight w.server.decoder w.to_server items
  pub fit : All Fits items
  pub calm : All (IsCalmToServer canon.settings) items
  pub begins : IsPrefixOf (w.taken ++ (end_after_items w.server items).terminal.entries)
      (local_entries canon w.typed)
  pub server : ServerStays canon w.server
  pub past : HasPast w
