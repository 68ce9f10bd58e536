use Rattle.std.proofs.Common.{refl}
use Rattle.tn_c.proofs.of_parts.Sifting.{first_of, none_then}
use Rattle.tn_c.proofs.parts.owned.Owned.take.Goals as goal

pub returns : goal.returns
returns c =
    record {
      item = first_of c.pop_front.result c.args.self.now.sieve.waiting.items c.pop_front.new.self.items _ _ c.pop_front.ensures.items
          c.pop_front.ensures.cases c.args.self.now.sieve.waiting.ok.0;
      none = none_then c.pop_front.result c.args.self.now.sieve.waiting.items c.pop_front.new.self.items c.pop_front.ensures.items;
      shown = c.seen.ensures;
      options = refl;
      decoder = refl;
      fed = refl;
      failed = refl;
    }
