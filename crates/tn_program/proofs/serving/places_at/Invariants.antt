use Rattle.std.proofs.Common.{◌≡◌, None, map, string_bytes, take, vec_items}
use Rattle.tn_program.specs.Settings.{places_at}
use Rattle.tn_serve.specs.Causes.{place_at}
use Rattle.tn_program.proofs.serving.places_at.Given as goal

-- the places so far are those of the hosts so far
abbrev pub invariant-loop-host : goal.invariant-loop-host
invariant-loop-host l = map place_at (vec_items l.places) ≡ places_at (map string_bytes (take l.host-index l.hosts)) l.port None
