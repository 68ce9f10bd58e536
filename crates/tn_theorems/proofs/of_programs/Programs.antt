-- The theorem of two programs, from that of two sessions.
use Rattle.std.proofs.{Common.{◌≡◌, ℕ, All, Option, None, Some, List, [], ◌∷◌, refl, sym, ap, ◌∙◌, subst}, lemmas.List.Elements.{All-nil, All-cons}}
use Rattle.std.specs.Io.KnownBytes.{Appends}
use Rattle.crossbeam_channel.specs.Claims.{view}
use Rattle.tn_client.specs.declared.commands.UserCommand.TheVariants as user
use Rattle.tn_cores.specs.client.Bringing.{Input, key_typed, command_sent, line_entered}
use Rattle.tn_theorems.specs.programs.Programs.{Programs, AreTheirs, TheoremOfPrograms, client_seen_in, connected_of, served_of, server_seen_in}
use Rattle.tn_theorems.specs.sessions.{Returned.{IsConnected}, Theorem.{TheoremOfSessions, HasKey}}
use Rattle.tn_serve.specs.Servers.{terminal_of}
use Rattle.tn_session.specs.{Facts.JobFacts, Transcripts.all_wrote}
use Rattle.tn_net.specs.Queue.{put_bytes}

-- the content of a writer that held nothing
all_held : (after : Option (List ℕ)) (bytes : List ℕ) → Appends (Some []) after bytes → Some bytes ≡ after
all_held None bytes a = absurd a
all_held (Some xs) bytes a = ap Some (sym a)

is_some : {A : Type 0} {a b : A} → Some a ≡ Some b → a ≡ b
is_some e = cc

module _ {J : Type 0} (facts : JobFacts J) (p : Programs facts) where
  -- the terminal of such a server has a key that interrupts
  has_key : (input : Input) → HasKey (terminal_of p.options).canon.settings input
  has_key (key_typed key) = tt
  has_key (command_sent user.Brk) = refl
  has_key (command_sent user.Ip) = refl
  has_key (command_sent user.Ayt) = tt
  has_key (command_sent user.Nop) = tt
  has_key line_entered = tt

  all_typeable : (inputs : List Input) → All (λ input. HasKey (terminal_of p.options).canon.settings input) inputs
  all_typeable [] = All-nil (λ input. HasKey (terminal_of p.options).canon.settings input)
  all_typeable (input ∷ inputs) = All-cons (λ x. HasKey (terminal_of p.options).canon.settings x) input inputs (has_key input) (all_typeable inputs)

  put : Some (all_wrote p.joined.transcript) ≡ put_bytes (view p.connected.queue)
  put = ap Some p.joined.was_written ∙ all_held (put_bytes (view p.connected.queue)) p.joined.written p.joined.appended

  theirs : AreTheirs p
  theirs = record {
    server_read = p.served.came;
    server_wrote = p.served.was_written ∙ sym p.served.schedule.appended;
    client_read = p.joined.came;
    client_wrote = put;
    client_sent = p.sent.first (all_wrote p.joined.transcript) (sym put);
    client_sent_all = λ all. sym (is_some (put ∙ p.sent.all all));
  }

pub theorem_of_programs : {J : Type 0} (facts : JobFacts J) → TheoremOfSessions facts → TheoremOfPrograms facts
theorem_of_programs facts of_sessions p limits carried =
    let connected : IsConnected p.options.line_limit (client_seen_in p) =
    subst (λ limit. IsConnected limit (client_seen_in p)) limits (record { run = connected_of p; seen = refl }) in (
      of_sessions (terminal_of p.options).canon (server_seen_in p) (client_seen_in p) (record { run = served_of p; seen = refl })
          connected refl (all_typeable facts p (client_seen_in p).inputs) carried,
      theirs facts p,
    )
