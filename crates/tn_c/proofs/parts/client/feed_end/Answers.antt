use Rattle.tn_client.specs.{Calls.call_fault, declared.faults.ClientFault.TheVariants.{Failed, Memory}}
use Rattle.tn_c.proofs.of_parts.Refusing.{when_done, unless_done, for_fault, as_caused}
use Rattle.tn_c.proofs.parts.client.feed_end.Goals as goal

pub returns : goal.returns
returns c =
    let told = c.feed.ensures in
    let is = c.code_of.ensures in
    let by = as_caused (call_fault c.args.end.now) c.feed.result c.code_of.result is told.failed in
    record {
      feeds = when_done c.feed.result c.code_of.result is told.ok;
      accepted = by.0;
      refused = by.1;
      memory = for_fault Memory c.feed.result c.code_of.result is told.memory;
      err = unless_done c.feed.result c.code_of.result is told.err;
      failed = λ e.
          let same = for_fault Failed c.feed.result c.code_of.result is told.again e in
          (same.end, same.out, same.screen);
    }
