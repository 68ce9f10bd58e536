use Rattle.std.proofs.Common.{refl}
use Rattle.tn_program.proofs.program.run_serve.Goals as goal

pub returns-in_default : goal.returns-in_default
returns-in_default g c origin bytes old = (c.args.asked.now, refl, c.in_default.ensures, refl)

pub returns : goal.returns
returns g c origin bytes old = (
  c.args.asked.now,
  refl,
  record {
    all = c.serve_asked-served.ensures.all;
    listened = c.serve_asked-served.ensures.listened;
    counted = c.serve_asked-served.ensures.counted;
    limit = c.serve_asked-served.ensures.limit;
    unwritten = refl;
  },
)
