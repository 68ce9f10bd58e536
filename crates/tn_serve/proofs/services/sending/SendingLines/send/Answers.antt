use Rattle.std.proofs.Common.{◌≡◌, ◌∙◌, Bool, List, ℕ, subst}
use Rattle.tn_serve.specs.{services.Sending.{WritesBytes, way_after}, declared.services.sending.Way.Way}
use Rattle.tn_cores.specs.streams.{Known.KnownWriting, Writing.{Writes, Tells}}
use Rattle.tn_serve.proofs.services.sending.SendingLines.send.Goals as goal

-- the bytes that were written are these
writes : (bytes sent : List ℕ) (writer : KnownWriting) (way : Way) (whole : Bool) → way ≡ way_after whole → sent ≡ bytes
    → Writes whole writer.before.bytes writer.after.bytes sent → Tells whole writer.before.calls writer.after.calls
    → WritesBytes bytes writer way
writes bytes sent writer way whole leaves same wrote tells =
    record {
      whole = whole;
      wrote = subst (λ (b : List ℕ). Writes whole writer.before.bytes writer.after.bytes b) same wrote;
      tells = tells;
      leaves = leaves;
    }

pub returns-clause-sent : goal.returns-clause-sent
returns-clause-sent g c =
    writes _ c.deref.result.now _ _ _ c.way_after-self.ensures (c.deref.ensures.value ∙ c.in_ok-bytes.ensures)
    (search depth 0) (search depth 0)
