use Rattle.std.proofs.Common.{refl}
use Rattle.tn_theorems.proofs.sessions.one_loop.Joined.to_server.Goals as goal

pub returns : goal.returns
returns c =
    record {
      piece = c.in_ok-piece.piece;
      mid = record c.args.self.now { to_server = c.take_first.new.bytes };
      taken = c.in_ok-piece.ensures;
      term = refl;
      core = refl;
      to_client = refl;
      shown = refl;
      puts = refl;
      served = c.in_ok-serve.ensures.serves;
    }
