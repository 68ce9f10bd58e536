-- The outcomes of the arguments of a command line.
use Rattle.std.specs.Prelude.{◌≡◌, ◌≢◌, ◌⊎◌, ⊤, ℕ, Option, Some, None, Result, Err, OnOk, OnErr, IfOk, IfErr}
use Rattle.std.specs.{Prelude.{IsErrOf, List, codes, option_map, string_bytes}, Io.KnownBytes.Appends}
use Rattle.tn_cli.specs.{Ends.{EndsDecode, EndsLocal, EndsReplay, EndsWorld}, arguments.Ranges.IsWithinRanges}
use Rattle.tn_cli.specs.declared.{fault.CliFault.CliFault, arguments.settings.ConnectWords.ConnectWords}
use Rattle.tn_cli.specs.declared.arguments.{settings.ServeWords.ServeWords, words.Asked.Asked}
use Rattle.tn_cli.specs.declared.fault.CliFault.TheVariants as fault
use Rattle.tn_connect.specs.Clients.{ConnectsBy, RunsClient, connection_of, foreseen}
use Rattle.tn_connect.specs.{Talks.{RunsTalk, talked_over}, declared.connected.Connected.Connected}
use Rattle.tn_connect.specs.declared.{fault.ConnectFault.ConnectFault, settings.KeySource.KeySource}
use Rattle.tn_connect.specs.declared.talks.TalkReport.{TalkReport}
use Rattle.tn_connect.specs.declared.fault.ConnectFault.TheVariants as connect
use Rattle.tn_lines.specs.declared.line_ends.LineEnd.{LineEnd}
use Rattle.tn_serve.specs.{Causes.FailsBy, Ends.{IfAny, ServesUntil}, declared.fault.ServeFault.ServeFault}
use Rattle.tn_serve.specs.declared.served.Served.{Served}
use Rattle.tn_serve.specs.declared.fault.ServeFault.TheVariants as serve
use Rattle.tn_cores.specs.{Ending.EndsWhole, streams.Known.KnownTyping}
use Rattle.tn_net.specs.network.{Asked.{Listens, ReachesBy, at_place}, Dialing.suits}
use Rattle.tn_program.specs.{Machine.Machine, Ports.{IsPort, IsUnknown}, declared.outcome.Outcome.Outcome}
use Rattle.tn_program.specs.{Statuses.status_of, Settings.{UnlessMemory, count_as, origin_as, places_as, window_as}}
use Rattle.tn_program.specs.declared.outcome.Outcome.TheVariants as outcome
use Rattle.tn_session.specs.roster.Held.{IsLimit}
use Rattle.tn_cli.specs.declared.arguments.words.Asked.TheVariants as asked

-- The outcome of serving.
pub record EndsServing (machine : Machine) (serving : ServeWords) (ended : Result Served ServeFault)
    (old new : Option (List ℕ)) : Type 0 where
  pub all : IfOk ended (ServesUntil (count_as serving.count)
      (IfAny machine.sees (option_map string_bytes serving.until)))
  pub listened : UnlessMemory ended (Listens (at_place machine.network.listens) machine.network.shares
      machine.network.accepts (places_as serving) (λ (served : Served). served.accepted)
      (λ error ended. FailsBy error ended) ended)
  pub counted : IfOk ended (machine.serves serving)
  pub limit : IsErrOf ended serve.Limit → ¬ IsLimit serving.sessions
  pub unwritten : new ≡ old

-- The outcome of connecting. At a port that the machine does not know nothing was asked for.
pub record EndsConnecting (machine : Machine) (connecting : ConnectWords)
    (ended : Result Connected ConnectFault) (input : KnownTyping)
    (old new : Option (List ℕ)) : Type 0 where
  pub telnet : connecting.plain ≡ None
  pub port : ℕ
  pub is_port : IsPort connecting.port port
  pub ran : IfOk ended (RunsClient (window_as connecting) input old new)
  pub whole : IfOk ended (λ r. EndsWhole r.report.ended)
  pub reached : ConnectsBy connection_of (ReachesBy (suits connecting.dialing)
      (machine.network.finds (string_bytes connecting.host) port) machine.network.dials) ended
      ⊎ IsUnknown connecting.port ended
  pub unwritten : OnErr ended (ended ≢ Err connect.Session → new ≡ old)

-- The outcome of a talk with a service that takes lines, if the machine knows its port.
pub record EndsTalking (machine : Machine) (connecting : ConnectWords)
    (ended : Result TalkReport ConnectFault)
    (origin : KeySource)
    (bytes old new : Option (List ℕ)) : Type 0 where
  pub line_end : LineEnd
  pub plain : connecting.plain ≡ Some line_end
  pub port : ℕ
  pub is_port : IsPort connecting.port port
  pub ran : IfOk ended (RunsTalk line_end (origin_as connecting.characters origin) bytes old new)
  pub reached : ConnectsBy talked_over (ReachesBy (suits connecting.dialing)
      (machine.network.finds (string_bytes connecting.host) port) machine.network.dials) ended
      ⊎ IsUnknown connecting.port ended

-- The outcome of writing the help.
pub record EndsHelp (ended : Result ⊤ CliFault) (old new : Option (List ℕ)) : Type 0 where
  pub ok : OnOk ended ((help : List ℕ) × Appends old new help)
  pub fault : IfErr ended (λ f. f ≡ fault.Write)

-- what is printed for the version
abbrev pub version_line : List ℕ
version_line = codes "tn 1.2.0\n"

-- What came of writing the version.
pub record EndsVersion (ended : Result ⊤ CliFault) (old new : Option (List ℕ)) : Type 0 where
  pub ok : OnOk ended (Appends old new version_line)
  pub fault : IfErr ended (λ f. f ≡ fault.Write)

-- a connection with a trace or a log is asked for
abbrev pub AsksForFile : ConnectWords → Type 0
AsksForFile connecting = (connecting.trace ≢ None) ⊎ (connecting.log ≢ None)

-- the run that was asked for was done, and this is its outcome
abbrev pub ComesOfRun : Machine → Asked → KeySource → Option (List ℕ) → Option (List ℕ) → Option (List ℕ)
    → Outcome → Type 0
ComesOfRun machine a origin bytes old new (outcome.Local ended) =
    (a ≡ asked.Local) × EndsLocal ended bytes old new
ComesOfRun machine a origin bytes old new (outcome.Replay ended) =
    (a ≡ asked.Replay) × EndsReplay ended bytes old new
ComesOfRun machine a origin bytes old new (outcome.Decode ended) =
    (a ≡ asked.Decode) × ((rest : Option (List ℕ)) × EndsDecode ended bytes rest old new)
ComesOfRun machine a origin bytes old new (outcome.World ended) =
    (a ≡ asked.World) × EndsWorld ended bytes old new
ComesOfRun machine a origin bytes old new (outcome.Served ended) =
    (serving : ServeWords) × (a ≡ asked.Serve serving) × EndsServing machine serving ended old new
ComesOfRun machine a origin bytes old new (outcome.Connected ended) =
    (connecting : ConnectWords) × (a ≡ asked.Connect connecting)
    × EndsConnecting machine connecting ended (foreseen origin connecting.text bytes) old new
ComesOfRun machine a origin bytes old new (outcome.Talked ended) =
    (connecting : ConnectWords) × (a ≡ asked.Connect connecting)
    × EndsTalking machine connecting ended origin bytes old new
ComesOfRun machine a origin bytes old new outcome.Untraced =
    (connecting : ConnectWords) × (a ≡ asked.Connect connecting) × AsksForFile connecting × (new ≡ old)
ComesOfRun machine a origin bytes old new outcome.Unread =
    (serving : ServeWords) × (a ≡ asked.Serve serving) × (serving.banner ≢ None) × (new ≡ old)
ComesOfRun machine a origin bytes old new (outcome.Help ended) = ⊥
ComesOfRun machine a origin bytes old new (outcome.Version ended) = ⊥
ComesOfRun machine a origin bytes old new (outcome.Usage detail) = ⊥
ComesOfRun machine a origin bytes old new outcome.Memory = ⊥

-- nothing was run: help or the version was written, or the words are not accepted, or memory ran out
abbrev pub ComesOfNoRun : Option (List ℕ) → Option (List ℕ) → Outcome → Type 0
ComesOfNoRun old new (outcome.Help ended) = EndsHelp ended old new
ComesOfNoRun old new (outcome.Version ended) = EndsVersion ended old new
ComesOfNoRun old new (outcome.Usage (Some detail)) = new ≡ old
ComesOfNoRun old new (outcome.Usage None) = ⊥
ComesOfNoRun old new outcome.Memory = new ≡ old
ComesOfNoRun old new (outcome.Local ended) = ⊥
ComesOfNoRun old new (outcome.Replay ended) = ⊥
ComesOfNoRun old new (outcome.Decode ended) = ⊥
ComesOfNoRun old new (outcome.World ended) = ⊥
ComesOfNoRun old new (outcome.Served ended) = ⊥
ComesOfNoRun old new (outcome.Connected ended) = ⊥
ComesOfNoRun old new (outcome.Talked ended) = ⊥
ComesOfNoRun old new outcome.Untraced = ⊥
ComesOfNoRun old new outcome.Unread = ⊥

-- a run that was asked for within its ranges, or none
abbrev pub ComesOf : Machine → KeySource → Option (List ℕ) → Option (List ℕ) → Option (List ℕ) → Outcome → Type 0
ComesOf machine origin bytes old new came =
    ((a : Asked) × IsWithinRanges a × ComesOfRun machine a origin bytes old new came)
    ⊎ ComesOfNoRun old new came

-- the status of what came of a command line
abbrev pub EndsWith : Machine → KeySource → Option (List ℕ) → Option (List ℕ) → Option (List ℕ) → ℕ → Type 0
EndsWith machine origin bytes old new status =
    (came : Outcome) × ComesOf machine origin bytes old new came × (status ≡ status_of came)
