use Rattle.std.proofs.Common.{refl}
use Rattle.tn_server.proofs.Loans.{took_run, refused_run}
use Rattle.tn_server.proofs.taking.LentSink.run.Goals as goal

pub returns-in-Ok-clause-ok : goal.returns-in-Ok-clause-ok
returns-in-Ok-clause-ok c = took_run c.args.self.now _ c.args.bytes.now (record { end = refl; out = refl }) c.in-Ok.ensures.ok refl refl

pub returns-in-Err-clause-err : goal.returns-in-Err-clause-err
returns-in-Err-clause-err c = refused_run c.args.self.now _ c.args.bytes.now (record { end = refl; out = refl }) c.in-Err.ensures.err refl
