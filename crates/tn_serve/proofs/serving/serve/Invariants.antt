use Rattle.tn_serve.specs.Makers.{WasTurnedAway}
use Rattle.tn_serve.proofs.serving.serve.Given as goal

-- its sessions have the options that were asked for and jobs that its service makes, and a connection without
-- a session is sent so
abbrev pub ghosts-serve_as : goal.ghosts-serve_as
ghosts-serve_as g a =
    record {
      options = a.serving.options;
      made = g.V.Service.makes a.service;
      turned = WasTurnedAway (g.H.Network.dismisses a.rt);
    }
