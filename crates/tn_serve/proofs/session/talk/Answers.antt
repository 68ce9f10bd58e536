use Rattle.std.proofs.{Common.{◌≡◌, ℕ, List, Option, Some, None, [], refl, subst}, lemmas.Result.IfOk-weaker}
use Rattle.tn_discipline.specs.{Characters.standard_characters, Keys.standard_flags, declared.{characters.Chars.Chars, termios.Flags.Flags}}
use Rattle.tn_discipline.specs.declared.termios.Settings.{Settings}
use Rattle.tn_serve.specs.{Servers.{RunsWriting, attended}, declared.settings.SessionOptions.SessionOptions}
use Rattle.tn_session.specs.{Facts.{JobFacts, SessionResult, job_facts, session_result}, Makers.begins, Session.RunningSession}
use Rattle.tn_net.specs.Logs.{logged}
use Rattle.tn_serve.proofs.session.talk.Goals as goal

standard_is : (s : Settings) → s.flags ≡ standard_flags → s.chars ≡ standard_characters
    → s ≡ record { flags = standard_flags; chars = standard_characters }
standard_is s flags chars =
    subst (λ (f : Flags). s ≡ record { flags = f; chars = standard_characters }) flags
    (subst (λ (cs : Chars). s ≡ record { flags = s.flags; chars = cs }) chars refl)

-- a session runs with standard settings, and a log that held nothing
module _ {J : Type 0} (facts : JobFacts J) (to_make : Option ℕ) (options : SessionOptions) (result : SessionResult) where
  abbrev Ran : Settings → List ℕ → List ℕ → Type 0
  Ran settings before after =
      RunningSession facts to_make (record { canon = record { settings = settings; limit = options.line_limit }; approach = record { opening = options.opening; editing = options.editing } })
      attended
      (record { before = record { bytes = Some before; calls = None }; after = record { bytes = Some after; calls = None } }) result

  as_asked : (s : Settings) (before after : List ℕ) → s ≡ record { flags = standard_flags; chars = standard_characters } → before ≡ [] → Ran s before after
      → Ran (record { flags = standard_flags; chars = standard_characters }) [] after
  as_asked s before after standard none ran =
      subst (λ (l : List ℕ). Ran (record { flags = standard_flags; chars = standard_characters }) l after) none
      (subst (λ (t : Settings). Ran t before after) standard ran)

pub returns-clause-ran : goal.returns-clause-ran
returns-clause-ran g c =
    let standard = standard_is c.standard-settings.result c.standard-settings.ensures.flags c.standard-settings.ensures.chars in
    let facts = job_facts (begins g.M.Job.Job.fresh g.M.Maker.gives c.args.jobs) g.M.Job.Job.reacts g.M.Job.Job.steps g.M.Job.Job.refuses in
    let left = g.M.Maker.left c.args.jobs in
    IfOk-weaker c.serve_session_with.result _
    (λ r. RunsWriting facts left c.args.options c.serve_session_with.new.writer.log (session_result r.0 r.1))
    (λ r ran. as_asked facts left c.args.options (session_result r.0 r.1) c.standard-settings.result (logged c.args.writer.now.log)
    (logged c.serve_session_with.new.writer.log) standard c.requires.new ran)
    c.serve_session_with.ensures.ran
