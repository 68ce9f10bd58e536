use Rattle.tn_c.proofs.parts.client.HeldClient.start.Goals as goal

pub returns-clause-ok : goal.returns-clause-ok
returns-clause-ok c =
    record {
      leads = c.in_ok-start.ensures.leads;
      reads = c.in_ok-start.ensures.reads;
      runs = c.in_ok-start.ensures.runs;
      pending = c.new.ensures.items;
      shown = c.new-2.ensures.items;
      owned = c.new-3.ensures;
    }
