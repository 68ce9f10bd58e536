-- The theorem of two sessions (T2), of what is seen of them. Read `TheoremOfSessions` first.
use Rattle.std.specs.Prelude.{◌≡◌, ℕ, IsTrue, ⊤, All, List, [], ◌∷◌, flat_map, option_to_list}
use Rattle.tn_client.specs.declared.commands.UserCommand.TheVariants.{Brk, Ip}
use Rattle.tn_cores.specs.client.Bringing.{Input, key_typed, command_sent, line_entered}
use Rattle.tn_cores.specs.declared.faults.Ended.TheVariants.{HangUp}
use Rattle.tn_nvt.specs.{Spelling.lf, Prefixes.IsPrefixOf}
use Rattle.tn_discipline.specs.{Canon.{Canon, typed_entries}, Characters.standard_characters}
use Rattle.tn_discipline.specs.declared.{reads.Entry.Entry, termios.Settings.Settings}
use Rattle.tn_session.specs.{Facts.JobFacts, Transcripts.{all_read, all_wrote}}
use Rattle.tn_theorems.specs.sessions.Returned.{GivesAlone, IsConnected, IsServed}
use Rattle.tn_theorems.specs.sessions.Transcripts.{ClientSession, IsCarried, ServerSession}

-- WHAT A USER TYPES, as keys of a terminal with these settings: BRK and IP count as the key INTR, AYT and NOP
-- as nothing, and a new line as the key LF
abbrev pub key_of : Settings → Input → List ℕ
key_of s (key_typed key) = key ∷ []
key_of s (command_sent Brk) = option_to_list s.chars.intr
key_of s (command_sent Ip) = option_to_list s.chars.intr
key_of s line_entered = lf ∷ []
key_of s _ = []

-- the keys of these inputs, each command as the key that it stands for
abbrev pub keys_of : Settings → List Input → List ℕ
keys_of s inputs = flat_map (key_of s) inputs

-- the key INTR interrupts at that terminal, if it matters
abbrev pub HasKey : Settings → Input → Type 0
HasKey s (command_sent Brk) = IsTrue s.flags.isig
HasKey s (command_sent Ip) = IsTrue s.flags.isig
HasKey s _ = ⊤

-- both sessions ended by a hang-up, and the server read all that the client wrote
pub record RanToTheEnd (s : ServerSession) (c : ClientSession) : Type 0 where
  pub server : s.ended ≡ HangUp
  pub client : c.ended ≡ HangUp
  pub whole : all_read s.transcript ≡ all_wrote c.transcript

-- the entries that one local terminal of this canon gives for what a client's user typed
abbrev pub typed_locally : Canon → ClientSession → List Entry
typed_locally canon c = typed_entries canon (keys_of canon.settings c.inputs)

-- WHAT YOU TYPE IS WHAT THE JOB READS: the foreground job took a prefix of the entries that one local terminal
-- gives for what was typed at the client, and all of them if both sessions ran to the end.
pub record ReadsWhatIsTyped (canon : Canon) (s : ServerSession) (c : ClientSession) : Type 0 where
  pub prefix : IsPrefixOf s.entries_taken (typed_locally canon c)
  pub all : RanToTheEnd s c → s.entries_taken ≡ typed_locally canon c

-- THE THEOREM holds of any two sessions, for all schedules, cuts, modes and faults.
abbrev pub TheoremOfSessions : {J : Type 0} → JobFacts J → Type 0
TheoremOfSessions facts =
    (canon : Canon) (s : ServerSession) (c : ClientSession)
    -- these are two sessions that ran, with lines of one limit
    → IsServed facts canon s → IsConnected canon.limit c
    -- the server's special characters are the standard ones
    → canon.settings.chars ≡ standard_characters
    -- INTR interrupts there, if BRK or IP was sent
    → All (λ input. HasKey canon.settings input) c.inputs
    -- a socket carries what either wrote
    → IsCarried s.transcript c.transcript
    → ReadsWhatIsTyped canon s c

-- It holds of what the user's reader gives, too, if its bytes are known and nothing is asked for between them:
-- the job took a prefix of the entries that one local terminal gives for these bytes.
abbrev pub ReadsWhatIsGiven : {J : Type 0} → JobFacts J → Type 0
ReadsWhatIsGiven facts =
    (canon : Canon) (s : ServerSession) (c : ClientSession) (given : List ℕ)
    → IsServed facts canon s → GivesAlone canon.limit c given
    → canon.settings.chars ≡ standard_characters
    → All (λ input. HasKey canon.settings input) c.inputs
    → IsCarried s.transcript c.transcript
    → IsPrefixOf s.entries_taken (typed_entries canon given)
