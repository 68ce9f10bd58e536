use Rattle.std.proofs.Common.{rules, refl}
use Rattle.tn_c.proofs.parts.server.HeldServer.start.Goals as goal

pub returns-clause-ok : goal.returns-clause-ok
returns-clause-ok c =
    record {
      leads = c.in_ok-end.ensures.leads;
      reads = c.in_ok-end.ensures.reads;
      runs = c.in_ok-end.ensures.runs;
      opens = c.in_ok-end.ensures.opens;
      pending = search rules;
      entry = refl;
      seen = c.seen_of-seen.ensures;
      owned = c.new.ensures;
    }
