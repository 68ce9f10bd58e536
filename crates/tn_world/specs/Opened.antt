-- A world that was just opened, and a world whose lists are reset.
use Rattle.std.specs.Prelude.{◌≡◌, ◌⊎◌, ℕ, false, IsFalse, []}
use Rattle.tn_discipline.specs.Canon.{Canon}
use Rattle.tn_nvt.specs.Spelling.{spells}
use Rattle.tn_server.specs.Course as server_courses
use Rattle.tn_server.specs.{Replies.opening, declared.openings.Opening.Opening}
use Rattle.tn_server.specs.declared.faults.ServerFault.TheVariants as server_faults
use Rattle.tn_client.specs.Course as client_courses
use Rattle.tn_client.specs.declared.faults.ClientFault.TheVariants as client_faults
use Rattle.tn_world.specs.{Worlds.World, declared.faults.WorldFault.WorldFault}
use Rattle.tn_world.specs.declared.faults.Cause.TheVariants as cause

-- Both ends have started, the server with this opening, and have read nothing. Their lines have one limit, the
-- terminal takes keys, and the opening messages are in flight.
pub record IsOpened (o : Opening) (canon : Canon) (width height : ℕ) (w : World) : Type 0 where
  pub server : server_courses.CourseLeadsTo (server_courses.started o canon) w.server
  pub client : client_courses.CourseLeadsTo (client_courses.started width height canon.limit) w.client
  pub takes_keys : IsFalse w.server.terminal.closed
  pub server_runs : IsFalse w.server.failed
  pub client_runs : IsFalse w.client.failed
  pub rest : w ≡ record {
    server = w.server;
    client = w.client;
    server_stopped = false;
    client_stopped = false;
    to_server = [];
    to_client = spells (opening o);
    typed = [];
    taken = [];
    shown = [];
    echoed = [];
  }

-- only out of memory, before any event
abbrev pub IsOpenFault : WorldFault → Type 0
IsOpenFault fault =
    (fault.at ≡ 0)
    × ((fault.cause ≡ cause.Server server_faults.Memory) ⊎ (fault.cause ≡ cause.Client client_faults.Memory))

-- the world with its lists of keys and entries reset
abbrev pub with_new_lists : World → World
with_new_lists w = record w { typed = []; taken = [] }
