use Rattle.tn_serve.proofs.of_services.Ticking as ticking
use Rattle.tn_serve.proofs.services.laws.ticks_are_counted.Goals as goal

pub returns : goal.returns
returns c = record {
  number = ticking.length-ticks;
  steps = ticking.counted;
  all = ticking.all_made;
  left = ticking.left_after;
  fresh = ticking.fresh_counted;
  fresh_all = ticking.fresh_all;
}
