use Rattle.tn_program.proofs.program.run_asked.Goals as goal

pub returns-in-Some : goal.returns-in-Some
returns-in-Some g c = rw c.in-Connect.is c.run_plain.ensures

pub returns-in-None : goal.returns-in-None
returns-in-None g c = rw c.in-Connect.is c.run_connect.ensures

pub returns-in-Serve : goal.returns-in-Serve
returns-in-Serve g c = rw c.in-Serve.is (c.run_serve.ensures c.args.streams.origin (g.R.Read.remaining c.args.streams.reader)
    (g.W.Write.contents c.args.writer.now))
