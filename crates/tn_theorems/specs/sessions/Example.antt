-- Two sessions that meet every premise of `TheoremOfSessions`, and have an entry: a line is typed at the client and
-- taken at the server.
use Rattle.std.specs.Prelude.{◌≡◌, All, [], ◌∷◌}
use Rattle.tn_discipline.specs.{Canon.Canon, Characters.standard_characters, Keys.standard_flags}
use Rattle.tn_discipline.specs.{Limits.standard_limit, declared.reads.Entry.TheVariants.Text}
use Rattle.tn_theorems.specs.sessions.{Returned.{Served, Connected, client_seen, server_seen}}
use Rattle.tn_theorems.specs.sessions.{Theorem.{HasKey, RanToTheEnd}, Transcripts.IsCarried}
use Rattle.tn_server.specs.declared.openings.Approach.{Approach}
use Rattle.tn_session.specs.Facts.{JobFacts, job_facts}

-- a new terminal
abbrev pub canon : Canon
canon =
    record {
      settings = record { flags = standard_flags; chars = standard_characters };
      limit = standard_limit;
    }

-- jobs of which nothing is known
abbrev pub any_jobs : JobFacts (Unit {0})
any_jobs = job_facts (λ job. Unit {0}) (λ old entry reaction new. Unit {0}) (λ old reaction new. Unit {0})
    (λ job entry. Unit {0})

-- Two sessions, of which a socket carries the line: it is typed, and taken, and both run to the end.
pub record SessionsCarryALine (approach : Approach) : Type 0 where
  pub server : Served any_jobs canon
  pub client : Connected canon.limit
  pub approached : server.approach ≡ approach
  pub with_keys : All (λ input. HasKey canon.settings input) client.ran.inputs
  pub carried : IsCarried server.ran.transcript client.ran.transcript
  pub ran : RanToTheEnd (server_seen server) (client_seen client)
  pub typed_keys : client.ran.keys_read ≡ 97 ∷ 13 ∷ []
  pub taken : server.ran.entries_taken ≡ Text (97 ∷ 10 ∷ []) ∷ []
