use Rattle.tn_theorems.proofs.sessions.one_loop.Joined.start.Goals as goal

pub returns-clause-start : goal.returns-clause-start
returns-clause-start c =
    record {
      server = c.in-Ok.ensures.at;
      client = c.in-Ok-start.ensures.leads;
      to_server = c.new.ensures.items;
      to_client = c.in-Ok.ensures.out;
      shown = c.new-2.ensures.items;
      puts = c.new-3.ensures.items;
    }
