use Rattle.std.proofs.Common.{rules, ◌≡◌, refl, sym, ap, ℕ, Bool, true, Option, List, [], ◌++◌, take, subst}
use Rattle.std.specs.Io.KnownBytes.{Consumes, IsAtEnd}
use Rattle.tn_connect.proofs.Texts.{no_text}
use Rattle.tn_connect.specs.Texts.{keys_of_text, with_text}
use Rattle.tn_net.proofs.Plain.{at_end, keys_consumed}
use Rattle.tn_connect.proofs.text_keys.TextKeysRead.read.Goals as goal

pub returns-then-came-eq0-clause-bytes : goal.returns-then-came-eq0-clause-bytes
returns-then-came-eq0-clause-bytes g c =
    let self = c.args.self.now in
    let old = g.K.Read.remaining self.keys in
    let new = g.K.Read.remaining c.read-2.new.self in
    let keys = keys_of_text self.after_return in
    let got = c.in_ok-came.ensures.bytes in
    let is : c.args.self.now.is_text ≡ true = search rules in
    rw is (
      keys_consumed keys keys old new (take c.in_ok-came.came c.read-2.new.buf) [] got.0
          (λ rest. ap (λ (k : ℕ). keys (take k c.read-2.new.buf ++ rest)) (sym c.if-came-eq0.true)),
      λ zero some. at_end keys new (no_text self.after_return) (got.1 c.if-came-eq0.true (search rules)),
    )
