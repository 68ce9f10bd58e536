use Rattle.tn_c.proofs.of_parts.LeavingOut.{passes, are_queued, wait_few}
use Rattle.tn_c.proofs.parts.laws.owned_items_are_left_out.Goals as goal

pub returns : goal.returns
returns c =
    record {
      server = λ came passed piece before after has call. passes came passed piece before.owned after.owned before.end.failed has call.comes;
      client = λ came passed piece before after has call. passes came passed piece before.owned after.owned before.end.failed has call;
      queued = are_queued;
      bounded = wait_few;
    }
