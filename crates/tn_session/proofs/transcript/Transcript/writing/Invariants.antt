use Rattle.std.proofs.Common.{◌≡◌, take}
use Rattle.tn_session.specs.Notes.{noted_of, writes}
use Rattle.tn_session.proofs.transcript.Transcript.writing.Given as goal

abbrev pub invariant-loop-byte : goal.invariant-loop-byte
invariant-loop-byte l = noted_of l.transcript ≡ writes (noted_of l.fn.self) (take l.byte-index l.bytes)
