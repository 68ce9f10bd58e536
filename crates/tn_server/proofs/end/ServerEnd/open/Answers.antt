use Rattle.std.proofs.Common.{refl}
use Rattle.tn_server.proofs.Beginning.{begins}
use Rattle.tn_server.proofs.end.ServerEnd.open.Goals as goal

pub returns-clause-leads : goal.returns-clause-leads
returns-clause-leads c =
    begins c.args.kind (record { settings = c.args.settings; limit = c.args.limit }) _ c.in_ok-pair.ensures c.new-table.ensures c.new-3.ensures.options
    c.new-3.ensures.wish c.new-3.ensures.opening c.new-3.ensures.modes refl refl
