use Rattle.std.proofs.Common.{rules, sym, ap, ℕ, [], ◌++◌, take}
use Rattle.tn_net.proofs.Plain.{at_end, keys_consumed, no_bytes}
use Rattle.tn_net.specs.PlainKeys.{keys_left}
use Rattle.tn_net.proofs.plain_keys.PlainKeysRead.read.Goals as goal

pub returns-then-came-eq0-clause-bytes : goal.returns-then-came-eq0-clause-bytes
returns-then-came-eq0-clause-bytes g c =
    let old = c.args.self.now in
    let keys = keys_left old.has_left old.escaping in
    let got = c.in_ok-came.ensures.bytes in (
      keys_consumed keys keys (g.K.Read.remaining old.keys) (g.K.Read.remaining c.read.new.self) (take c.in_ok-came.came c.read.new.buf) [] got.0
          (λ rest. ap (λ (k : ℕ). keys (take k c.read.new.buf ++ rest)) (sym c.if-came-eq0.true)),
      λ zero some. at_end keys (g.K.Read.remaining c.read.new.self) (no_bytes old.has_left old.escaping)
          (got.1 c.if-came-eq0.true (search rules)),
    )
