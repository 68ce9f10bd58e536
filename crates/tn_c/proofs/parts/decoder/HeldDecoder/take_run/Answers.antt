use Rattle.std.proofs.Common.{◌≡◌, ◌<◌, ◌++◌, length, map, take, ap, subst}
use Rattle.tn_nvt.specs.declared.items.Item.TheVariants.{Byte}
use Rattle.tn_c.specs.parts.{Items.ReadStream, Waiting.StartsWithData}
use Rattle.tn_c.proofs.parts.decoder.HeldDecoder.take_run.Goals as goal

pub returns : goal.returns
returns c =
    record {
      run = subst (λ (s : ReadStream). s.waiting ≡ map Byte (take c.take_run.result c.take_run.new.buf) ++ c.take_run.new.self) c.self.view_is
          c.take_run.ensures.run;
      rest = c.take_run.ensures.rest;
      some = subst (λ (s : ReadStream). 0 < length c.args.buf.now → StartsWithData s.waiting → 0 < c.take_run.result) c.self.view_is
          c.take_run.ensures.some;
      decoder = ap (λ (s : ReadStream). s.decoder) c.self.view_is;
      item = ap (λ (s : ReadStream). s.item) c.self.view_is;
    }
