use Rattle.std.proofs.Common.{◌≡◌, [], ◌∷◌, ap, subst}
use Rattle.std.specs.Prelude.{MatchOption}
use Rattle.tn_c.specs.parts.Items.{ReadStream}
use Rattle.tn_c.proofs.parts.decoder.HeldDecoder.take.Goals as goal

pub returns : goal.returns
returns c =
    record {
      decoder = ap (λ (s : ReadStream). s.decoder) c.self.view_is;
      item = subst (λ (s : ReadStream). MatchOption c.next.result (s.waiting ≡ []) (λ first. s.waiting ≡ first ∷ c.next.new.self)) c.self.view_is
          c.next.ensures.item;
      none = subst (λ (s : ReadStream). s.waiting ≡ [] → c.next.new.self ≡ []) c.self.view_is c.next.ensures.none;
      shown = c.seen.ensures;
    }
