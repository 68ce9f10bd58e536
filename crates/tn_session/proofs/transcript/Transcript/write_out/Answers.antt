use Rattle.std.proofs.Common.{ap, ◌∙◌, take}
use Rattle.tn_session.proofs.Going.{notes_so_many}
use Rattle.tn_session.specs.Notes.{noted_of, writes}
use Rattle.tn_session.proofs.transcript.Transcript.write_out.Goals as goal

pub returns-clause-writes : goal.returns-clause-writes
returns-clause-writes g c = notes_so_many _ _ c.write_front-count.result c.args.bytes.now _ _ c.write_front-count.ensures.writes
    (c.writing.ensures ∙ ap (λ t. writes (noted_of t) (take c.write_front-count.result c.args.bytes.now)) c.replace.ensures.value)
