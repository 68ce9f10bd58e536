use Rattle.tn_c.proofs.parts.server.HeldServer.say.Goals as goal

pub returns : goal.returns
returns c =
    record {
      middle = c.write.new.self;
      symbols = c.pull.new.count;
      writes = c.write.ensures;
      pulls = c.pull.ensures;
    }
