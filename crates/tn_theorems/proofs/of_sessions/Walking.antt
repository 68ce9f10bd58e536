-- A relation of two histories is kept by each step of two runs.
use Rattle.std.proofs.Common.{◌≡◌, ℕ, Bool, true, false, List, [], ◌∷◌, ◌++◌, refl, sym, ◌∙◌, subst, append-nil}
use Rattle.std.specs.List.{FoldsTo}
use Rattle.tn_client.proofs.lemmas.Fitting.{sent-fits}
use Rattle.tn_client.specs.Events as client
use Rattle.tn_client.specs.Replies as client_says
use Rattle.tn_client.specs.declared.commands.UserCommand.{UserCommand}
use Rattle.tn_cores.proofs.lemmas.{client.Bringing.in_order, server.Hearing.hears}
use Rattle.tn_cores.specs.client.Marks as core
use Rattle.tn_cores.specs.client.Run as core_run
use Rattle.tn_cores.specs.declared.client.messages.ClientMark as core_mark
use Rattle.tn_cores.specs.declared.{client.messages.Told.Told, messages.Message.Message}
use Rattle.tn_discipline.specs.Canon.{Canon}
use Rattle.tn_jobs.specs.Jobs.{Jobs}
use Rattle.tn_session.proofs.lemmas.{ClientTurns.{ClientAt, client_turns}, ServerTurns.server_turns}
use Rattle.tn_theorems.proofs.of_sessions.{Prefixes.{server-append, client-append}, Hearing.heard_first}
use Rattle.tn_theorems.proofs.of_sessions.Joint.{Step, served, told, server_steps, client_steps, Both, began, Runs, IsInTime}
use Rattle.tn_nvt.specs.{declared.items.Item.Item, Prefixes.IsPrefixOf}
use Rattle.tn_server.proofs.lemmas.Fitting.{sent-fit}
use Rattle.tn_server.specs.Events as server
use Rattle.tn_server.specs.Replies as server_says
use Rattle.tn_server.specs.declared.openings.Approach.{Approach}
use Rattle.tn_cores.specs.server.Marks as term
use Rattle.tn_cores.specs.server.Run as term_run
use Rattle.tn_cores.specs.declared.server.messages.ServerMark as term_mark

-- WHAT IS NEEDED OF TWO HISTORIES: these hold of the opening, and each event of a terminal or a core keeps
-- them, if an item comes only in the order in which it was sent.
pub record Ties (canon : Canon) (approach : Approach) (width height : ℕ) (Tied : server.History → client.History → Type 0) : Type 0 where
  pub begins : Tied (term_run.opening canon approach) (client.begun width height canon.limit)
  pub reaches : (h : server.History) (k : client.History) (x : Item) → IsPrefixOf (server.items h ++ x ∷ []) (client_says.items_said k) → Tied h k
      → Tied (server.next h (server.got x)) k
  pub takes : (h : server.History) (k : client.History) → Tied h k → Tied (server.next h server.took) k
  pub writes : (h : server.History) (k : client.History) (bytes : List ℕ) → Tied h k → Tied (server.next h (server.wrote bytes)) k
  pub pulls : (h : server.History) (k : client.History) (n : ℕ) → Tied h k → Tied (server.next h (server.pulled n)) k
  pub echoes : (h : server.History) (k : client.History) (on : Bool) → Tied h k → Tied (server.next h (server.echo_set on)) k
  pub types_on : (h : server.History) (k : client.History) (key : ℕ) → Tied h k → Tied h (client.next k (client.typed key))
  pub resizes : (h : server.History) (k : client.History) (w t : ℕ) → Tied h k → Tied h (client.next k (client.resized w t))
  pub enters : (h : server.History) (k : client.History) → Tied h k → Tied h (client.next k client.entered)
  pub sends : (h : server.History) (k : client.History) (command : UserCommand) → Tied h k → Tied h (client.next k (client.sent command))
  pub returns : (h : server.History) (k : client.History) (x : Item) → IsPrefixOf (client.items k ++ x ∷ []) (server_says.items_said h) → Tied h k
      → Tied h (client.next k (client.got x))

joins : {P A : Type 0} (R : P → A → P → Type 0) (p m q : P) (xs : List A) (x : A) → FoldsTo R p xs m → R m x q → FoldsTo R p (xs ++ x ∷ []) q
joins {P} {A} R p m q [] x f r = (q, subst (λ (u : P). R u x q) (sym f) r, refl)
joins R p m q (y ∷ ys) x f r = (f.0, f.1, joins R f.0 m q ys x f.2 r)

module _ (canon : Canon) (approach : Approach) (width height : ℕ) (opens : Bool) (jobs : Jobs) (Tied : server.History → client.History → Type 0)
    (ties : Ties canon approach width height Tied) where
  abbrev pub first : Both
  first = began opens canon approach jobs width height canon.limit

  abbrev pub At : Both → Type 0
  At now = ClientAt (λ k. Tied now.server.history k) now.client

  server_heard : (done : List Step) (now : Both) → Runs first done now → IsInTime now
      → IsPrefixOf (server.items now.server.history) (client_says.items_said now.client.sent)
  server_heard done now r i = heard_first now.server.stream (server.items now.server.history) (client_says.items_said now.client.sent)
      (hears opens canon approach jobs (server_steps done) now.server r.0).read (sent-fits now.client.sent) i.to_server

  client_heard : (done : List Step) (now : Both) → Runs first done now → IsInTime now
      → IsPrefixOf (client.items now.client.history) (server_says.items_said now.server.history)
  client_heard done now r i = heard_first now.client.stream (client.items now.client.history) (server_says.items_said now.server.history)
      (in_order width height canon.limit (client_steps done) now.client r.1).read (sent-fit now.server.history) i.to_client

  -- one step of the terminal
  pub server_goes : (done : List Step) (now : Both) (m : Message) (k : term_mark.ServerMark) (mid : term_run.Run)
      → Runs first (done ++ served (m, k) ∷ []) (record { server = mid; client = now.client }) → IsInTime (record { server = mid; client = now.client })
      → term.Turns now.server (m, k) mid → At now → At (record { server = mid; client = now.client })
  server_goes done now m k mid r i t at =
      let sent = now.client.sent in
      record {
        latest = at.latest;
        tied = server_turns (λ h. Tied h sent) (client_says.items_said sent) (record {
          comes = λ h x p tie. ties.reaches h sent x p tie;
          takes = λ h tie. ties.takes h sent tie;
          writes = λ h bytes tie. ties.writes h sent bytes tie;
          pulls = λ h n tie. ties.pulls h sent n tie;
          echoes = λ h on tie. ties.echoes h sent on tie;
        }) now.server mid m k t (server_heard (done ++ served (m, k) ∷ []) (record { server = mid; client = now.client }) r i) at.tied;
      }

  -- one step of the core
  pub client_goes : (done : List Step) (now : Both) (x : Told) (k : core_mark.ClientMark) (mid : core_run.Run)
      → Runs first (done ++ told (x, k) ∷ []) (record { server = now.server; client = mid }) → IsInTime (record { server = now.server; client = mid })
      → core.Turns now.client (x, k) mid → At now → At (record { server = now.server; client = mid })
  client_goes done now x k mid r i t at =
      let h = now.server.history in
      client_turns (λ c. Tied h c) (server_says.items_said h) (record {
        types_on = λ c key tie. ties.types_on h c key tie;
        resizes = λ c w t tie. ties.resizes h c w t tie;
        enters = λ c tie. ties.enters h c tie;
        sends = λ c command tie. ties.sends h c command tie;
        comes = λ c y p tie. ties.returns h c y p tie;
      }) now.client mid x k t (client_heard (done ++ told (x, k) ∷ []) (record { server = now.server; client = mid }) r i) at

  -- the steps so far, and one more
  pub more_served : (done : List Step) (now : Both) (m : Message × term_mark.ServerMark) (mid : term_run.Run) → Runs first done now →
      term.Turns now.server m mid
      → Runs first (done ++ served m ∷ []) (record { server = mid; client = now.client })
  more_served done now m mid r t = (
    subst (λ (l : List (Message × term_mark.ServerMark)). FoldsTo term.Turns first.server l mid) (sym (server-append done (served m ∷ [])))
        (joins term.Turns first.server now.server mid (server_steps done) m r.0 t),
    subst (λ (l : List (Told × core_mark.ClientMark)). FoldsTo core.Turns first.client l now.client)
        (sym (client-append done (served m ∷ []) ∙ append-nil (client_steps done))) r.1,
  )

  pub more_told : (done : List Step) (now : Both) (x : Told × core_mark.ClientMark) (mid : core_run.Run) → Runs first done now → core.Turns now.client x mid
      → Runs first (done ++ told x ∷ []) (record { server = now.server; client = mid })
  more_told done now x mid r t = (
    subst (λ (l : List (Message × term_mark.ServerMark)). FoldsTo term.Turns first.server l now.server)
        (sym (server-append done (told x ∷ []) ∙ append-nil (server_steps done))) r.0,
    subst (λ (l : List (Told × core_mark.ClientMark)). FoldsTo core.Turns first.client l mid) (sym (client-append done (told x ∷ [])))
        (joins core.Turns first.client now.client mid (client_steps done) x r.1 t),
  )

  begun_history : (b : Bool) → (term.run_after_opening b (term_run.start canon approach jobs)).history ≡ term_run.opening canon approach
  begun_history true = refl
  begun_history false = refl

  pub begun_at : At first
  begun_at = record {
    latest = λ o. refl;
    tied = subst (λ (h : server.History). Tied h (client.begun width height canon.limit)) (sym (begun_history opens)) ties.begins;
  }
