-- From two transcripts that a socket carries to what their runs keep.
use Rattle.std.proofs.Common.{◌≡◌, ℕ, Bool, Option, Some, None, List, [], ◌∷◌, ◌++◌, refl, sym, ap, ◌∙◌, subst, map, append_assoc, append-nil}
use Rattle.std.specs.List.{FoldsTo}
use Rattle.tn_client.specs.Events as client
use Rattle.tn_cores.proofs.lemmas.{client.Bringing.in_order, server.Hearing.hears}
use Rattle.tn_cores.specs.{client.Bringing.brought, declared.{client.messages.Told.Told, messages.Message.Message}, Pieces.bytes_in, server.Hearing.heard}
use Rattle.tn_cores.specs.client.Marks as core
use Rattle.tn_cores.specs.client.Run as core_run
use Rattle.tn_cores.specs.declared.client.messages.ClientMark as core_mark
use Rattle.tn_cores.specs.declared.client.messages.Origin.TheVariants as origin
use Rattle.tn_discipline.specs.Canon.{Canon}
use Rattle.tn_jobs.specs.Jobs.{Jobs}
use Rattle.tn_theorems.proofs.of_sessions.{Walking.{Ties, At, first, server_goes, client_goes, more_served, more_told, begun_at}, Joint.{Both, Runs}}
use Rattle.tn_theorems.proofs.of_sessions.Joint as runs
use Rattle.tn_theorems.specs.sessions.Transcripts.{Step, served, told, server_steps, client_steps, IsInTime, IsCarried}
use Rattle.tn_server.specs.Events as server
use Rattle.tn_server.specs.declared.openings.Approach.{Approach}
use Rattle.tn_session.proofs.lemmas.Transcribing.{prefix_trans, all_read-append, all_wrote-append}
use Rattle.tn_session.specs.Client as of_client
use Rattle.tn_session.specs.Session as of_server
use Rattle.tn_session.specs.Transcripts.{Exchange, Point, IsExchange, Transcribes, all_read, all_wrote}
use Rattle.tn_nvt.specs.Prefixes.{IsPrefixOf}
use Rattle.tn_cores.specs.server.Run as term_run
use Rattle.tn_cores.specs.declared.server.messages.ServerMark as term_mark

-- THE STEPS SO FAR, AND ONE MORE
pub server-append : (xs ys : List Step) → server_steps (xs ++ ys) ≡ server_steps xs ++ server_steps ys
server-append [] ys = refl
server-append (served x ∷ xs) ys = ap (λ (l : List Exchange). x ∷ l) (server-append xs ys)
server-append (told x ∷ xs) ys = server-append xs ys

pub client-append : (xs ys : List Step) → client_steps (xs ++ ys) ≡ client_steps xs ++ client_steps ys
client-append [] ys = refl
client-append (served x ∷ xs) ys = client-append xs ys
client-append (told x ∷ xs) ys = ap (λ (l : List Exchange). x ∷ l) (client-append xs ys)

pub one_read : (xs : List Exchange) (x : Exchange) → all_read (xs ++ x ∷ []) ≡ all_read xs ++ x.read
one_read xs x = all_read-append xs (x ∷ []) ∙ ap (λ (l : List ℕ). all_read xs ++ l) (append-nil x.read)

pub one_wrote : (xs : List Exchange) (x : Exchange) → all_wrote (xs ++ x ∷ []) ≡ all_wrote xs ++ x.wrote
one_wrote xs x = all_wrote-append xs (x ∷ []) ∙ ap (λ (l : List ℕ). all_wrote xs ++ l) (append-nil x.wrote)

abbrev ServerMarked : Type 0
ServerMarked = Message × term_mark.ServerMark

abbrev ClientMarked : Type 0
ClientMarked = Told × core_mark.ClientMark

-- the bytes that the messages of some steps brought
abbrev server_brought : List runs.Step → List ℕ
server_brought done = heard (map (λ m. m.0) (runs.server_steps done))

abbrev client_brought : List runs.Step → List ℕ
client_brought done = brought origin.Net (map (λ m. m.0) (runs.client_steps done))

server_more : (done : List runs.Step) (m : ServerMarked) → server_brought (done ++ runs.served m ∷ []) ≡ server_brought done ++ bytes_in m.0
server_more [] m = append-nil (bytes_in m.0)
server_more (runs.served n ∷ done) m = ap (λ (l : List ℕ). bytes_in n.0 ++ l) (server_more done m)
    ∙ sym (append_assoc (bytes_in n.0) (server_brought done) (bytes_in m.0))
server_more (runs.told n ∷ done) m = server_more done m

server_same : (done : List runs.Step) (n : ClientMarked) → server_brought (done ++ runs.told n ∷ []) ≡ server_brought done
server_same [] n = refl
server_same (runs.served m ∷ done) n = ap (λ (l : List ℕ). bytes_in m.0 ++ l) (server_same done n)
server_same (runs.told m ∷ done) n = server_same done n

client_more : (done : List runs.Step) (m : ClientMarked) → client_brought (done ++ runs.told m ∷ []) ≡ client_brought done ++ of_client.brings m
client_more [] m = append-nil (of_client.brings m)
client_more (runs.told n ∷ done) m = ap (λ (l : List ℕ). of_client.brings n ++ l) (client_more done m)
    ∙ sym (append_assoc (of_client.brings n) (client_brought done) (of_client.brings m))
client_more (runs.served n ∷ done) m = client_more done m

client_same : (done : List runs.Step) (n : ServerMarked) → client_brought (done ++ runs.served n ∷ []) ≡ client_brought done
client_same [] n = refl
client_same (runs.told m ∷ done) n = ap (λ (l : List ℕ). of_client.brings m ++ l) (client_same done n)
client_same (runs.served m ∷ done) n = client_same done n

-- THE WALK
abbrev ServerStep : Type 0
ServerStep = Option ServerMarked × Exchange

abbrev ClientStep : Type 0
ClientStep = ClientMarked × Exchange

abbrev ServerGoes : List ℕ → Point term_run.Run → List ServerStep → Point term_run.Run → Type 0
ServerGoes written p steps q = FoldsTo (IsExchange of_server.OpensOrTurns of_server.brings of_server.says written) p steps q

abbrev ClientGoes : List ℕ → Point core_run.Run → List ClientStep → Point core_run.Run → Type 0
ClientGoes written p steps q = FoldsTo (IsExchange core.Turns of_client.brings of_client.says written) p steps q

no_step : (x : Exchange) (xs : List Exchange) → [] ≡ x ∷ xs → ⊥
no_step x xs e = cc

pub heads : (x y : Exchange) (xs ys : List Exchange) → x ∷ xs ≡ y ∷ ys → (x ≡ y) × (xs ≡ ys)
heads x y xs ys e = (cc, cc)

module _ (canon : Canon) (approach : Approach) (width height : ℕ) (opens : Bool) (jobs : Jobs) (Tied : server.History → client.History → Type 0)
    (ties : Ties canon approach width height Tied) where
  abbrev Holds : Both → Type 0
  Holds now = At canon approach width height opens jobs Tied ties now

  abbrev start : Both
  start = first canon approach width height opens jobs Tied ties

  -- both, after these steps
  record Here (steps : List Step) (s : Point term_run.Run) (c : Point core_run.Run) : Type 0 where
    done : List runs.Step
    runs_so : Runs start done (record { server = s.run; client = c.run })
    server_read : server_brought done ≡ all_read (server_steps steps)
    client_read : client_brought done ≡ all_read (client_steps steps)
    server_wrote : s.wrote ≡ all_wrote (server_steps steps)
    client_wrote : c.wrote ≡ all_wrote (client_steps steps)
    server_said : IsPrefixOf s.wrote (of_server.says s.run)
    client_said : IsPrefixOf c.wrote (of_client.says c.run)
    at : Holds (record { server = s.run; client = c.run })

  -- the bytes that each run has got so far were sent
  in_time : (done : List runs.Step) (now : Both) (s c : List Exchange) → Runs start done now → server_brought done ≡ all_read s
      → client_brought done ≡ all_read c
      → IsPrefixOf (all_wrote s) (runs.server_said now) → IsPrefixOf (all_wrote c) (runs.client_said now) → IsInTime s c → runs.IsInTime now
  in_time done now s c r rs rc ws wc i =
      let hs = hears opens canon approach jobs (runs.server_steps done) now.server r.0 in
      let hc = in_order width height canon.limit (runs.client_steps done) now.client r.1 in
      record {
        to_server = prefix_trans now.server.stream (all_read s) (runs.client_said now) (hs.unheard, sym hs.stream_first ∙ rs)
            (prefix_trans (all_read s) (all_wrote c) (runs.client_said now) i.to_server wc);
        to_client = prefix_trans now.client.stream (all_read c) (runs.server_said now) (hc.unread, sym hc.fed ∙ rc)
            (prefix_trans (all_read c) (all_wrote s) (runs.server_said now) i.to_client ws);
      }

  -- the opening messages
  opened : (steps : List Step) (s new : Point term_run.Run) (c : Point core_run.Run) (written : List ℕ) (x : Exchange)
      → IsExchange of_server.OpensOrTurns of_server.brings of_server.says written s (None, x) new → Here steps s c → Here (steps ++ served x ∷ []) new c
  opened steps s new c written x step here =
      let P : term_run.Run → Type 0 = λ u. Runs start here.done (record { server = u; client = c.run }) in
      let Q : term_run.Run → Type 0 = λ u. Holds (record { server = u; client = c.run }) in
      let same : client_steps (steps ++ served x ∷ []) ≡ client_steps steps = client-append steps (served x ∷ []) ∙ append-nil (client_steps steps) in
      record {
        done = here.done;
        runs_so = subst P (sym step.turn) here.runs_so;
        server_read = here.server_read ∙ sym (append-nil (all_read (server_steps steps)))
            ∙ ap (λ (l : List ℕ). all_read (server_steps steps) ++ l) (sym step.read) ∙ sym (one_read (server_steps steps) x)
            ∙ ap all_read (sym (server-append steps (served x ∷ [])));
        client_read = here.client_read ∙ ap all_read (sym same);
        server_wrote = step.wrote ∙ ap (λ (l : List ℕ). l ++ x.wrote) here.server_wrote ∙ sym (one_wrote (server_steps steps) x)
            ∙ ap all_wrote (sym (server-append steps (served x ∷ [])));
        client_wrote = here.client_wrote ∙ ap all_wrote (sym same);
        server_said = step.said;
        client_said = here.client_said;
        at = subst Q (sym step.turn) here.at;
      }

  -- a message at the terminal
  served_on : (steps : List Step) (s new : Point term_run.Run) (c : Point core_run.Run) (written : List ℕ) (m : Message) (k : term_mark.ServerMark)
      (x : Exchange)
      → IsExchange of_server.OpensOrTurns of_server.brings of_server.says written s (Some (m, k), x) new
      → IsInTime (server_steps (steps ++ served x ∷ [])) (client_steps (steps ++ served x ∷ [])) → Here steps s c → Here (steps ++ served x ∷ []) new c
  served_on steps s new c written m k x step i here =
      let now : Both = record { server = s.run; client = c.run } in
      let next : Both = record { server = new.run; client = c.run } in
      let done = here.done ++ runs.served (m, k) ∷ [] in
      let r = more_served canon approach width height opens jobs Tied ties here.done now (m, k) new.run here.runs_so step.turn in
      let same : client_steps (steps ++ served x ∷ []) ≡ client_steps steps = client-append steps (served x ∷ []) ∙ append-nil (client_steps steps) in
      let one = server-append steps (served x ∷ []) in
      let server_read : server_brought done ≡ all_read (server_steps (steps ++ served x ∷ [])) =
      server_more here.done (m, k) ∙ ap (λ (l : List ℕ). l ++ bytes_in m) here.server_read
      ∙ ap (λ (l : List ℕ). all_read (server_steps steps) ++ l) (sym step.read) ∙ sym (one_read (server_steps steps) x) ∙ ap all_read (sym one) in
      let client_read : client_brought done ≡ all_read (client_steps (steps ++ served x ∷ [])) =
      client_same here.done (m, k) ∙ here.client_read ∙ ap all_read (sym same) in
      let server_wrote : new.wrote ≡ all_wrote (server_steps (steps ++ served x ∷ [])) =
      step.wrote ∙ ap (λ (l : List ℕ). l ++ x.wrote) here.server_wrote ∙ sym (one_wrote (server_steps steps) x) ∙ ap all_wrote (sym one) in
      let client_wrote : c.wrote ≡ all_wrote (client_steps (steps ++ served x ∷ [])) = here.client_wrote ∙ ap all_wrote (sym same) in
      let timely = in_time done next (server_steps (steps ++ served x ∷ [])) (client_steps (steps ++ served x ∷ [])) r server_read client_read
      (subst (λ (l : List ℕ). IsPrefixOf l (of_server.says new.run)) server_wrote step.said)
      (subst (λ (l : List ℕ). IsPrefixOf l (of_client.says c.run)) client_wrote here.client_said) i in
      record {
        done = done;
        runs_so = r;
        server_read = server_read;
        client_read = client_read;
        server_wrote = server_wrote;
        client_wrote = client_wrote;
        server_said = step.said;
        client_said = here.client_said;
        at = server_goes canon approach width height opens jobs Tied ties here.done now m k new.run r timely step.turn here.at;
      }

  -- a message at the core
  told_on : (steps : List Step) (s : Point term_run.Run) (c new : Point core_run.Run) (written : List ℕ) (m : Told) (k : core_mark.ClientMark) (x : Exchange)
      → IsExchange core.Turns of_client.brings of_client.says written c ((m, k), x) new
      → IsInTime (server_steps (steps ++ told x ∷ [])) (client_steps (steps ++ told x ∷ [])) → Here steps s c → Here (steps ++ told x ∷ []) s new
  told_on steps s c new written m k x step i here =
      let now : Both = record { server = s.run; client = c.run } in
      let next : Both = record { server = s.run; client = new.run } in
      let done = here.done ++ runs.told (m, k) ∷ [] in
      let r = more_told canon approach width height opens jobs Tied ties here.done now (m, k) new.run here.runs_so step.turn in
      let same : server_steps (steps ++ told x ∷ []) ≡ server_steps steps = server-append steps (told x ∷ []) ∙ append-nil (server_steps steps) in
      let one = client-append steps (told x ∷ []) in
      let server_read : server_brought done ≡ all_read (server_steps (steps ++ told x ∷ [])) =
      server_same here.done (m, k) ∙ here.server_read ∙ ap all_read (sym same) in
      let client_read : client_brought done ≡ all_read (client_steps (steps ++ told x ∷ [])) =
      client_more here.done (m, k) ∙ ap (λ (l : List ℕ). l ++ of_client.brings (m, k)) here.client_read
      ∙ ap (λ (l : List ℕ). all_read (client_steps steps) ++ l) (sym step.read) ∙ sym (one_read (client_steps steps) x) ∙ ap all_read (sym one) in
      let server_wrote : s.wrote ≡ all_wrote (server_steps (steps ++ told x ∷ [])) = here.server_wrote ∙ ap all_wrote (sym same) in
      let client_wrote : new.wrote ≡ all_wrote (client_steps (steps ++ told x ∷ [])) =
      step.wrote ∙ ap (λ (l : List ℕ). l ++ x.wrote) here.client_wrote ∙ sym (one_wrote (client_steps steps) x) ∙ ap all_wrote (sym one) in
      let timely = in_time done next (server_steps (steps ++ told x ∷ [])) (client_steps (steps ++ told x ∷ [])) r server_read client_read
      (subst (λ (l : List ℕ). IsPrefixOf l (of_server.says s.run)) server_wrote here.server_said)
      (subst (λ (l : List ℕ). IsPrefixOf l (of_client.says new.run)) client_wrote step.said) i in
      record {
        done = done;
        runs_so = r;
        server_read = server_read;
        client_read = client_read;
        server_wrote = server_wrote;
        client_wrote = client_wrote;
        server_said = here.server_said;
        client_said = step.said;
        at = client_goes canon approach width height opens jobs Tied ties here.done now m k new.run r timely step.turn here.at;
      }

  abbrev AllInTime : List Step → Type 0
  AllInTime order = (done later : List Step) → order ≡ done ++ later → IsInTime (server_steps done) (client_steps done)

  walk : (order done later : List Step) (ws wc : List ℕ) (ss : List ServerStep) (cs : List ClientStep) (s t : Point term_run.Run) (c d : Point core_run.Run)
      → AllInTime order → order ≡ done ++ later → server_steps later ≡ map (λ x. x.1) ss → client_steps later ≡ map (λ x. x.1) cs
      → ServerGoes ws s ss t → ClientGoes wc c cs d → Here done s c → Holds (record { server = t.run; client = d.run })
  walk order done [] ws wc [] [] s t c d timely e es ec rs rc here =
      subst (λ (b : Both). Holds b) (λ i. record { server = (rs i).run; client = (rc i).run }) here.at
  walk order done [] ws wc (y ∷ ss) cs s t c d timely e es ec rs rc here = absurd (no_step y.1 (map (λ (x : ServerStep). x.1) ss) es)
  walk order done [] ws wc [] (y ∷ cs) s t c d timely e es ec rs rc here = absurd (no_step y.1 (map (λ (x : ClientStep). x.1) cs) ec)
  walk order done (served x ∷ later) ws wc [] cs s t c d timely e es ec rs rc here = absurd (no_step x (server_steps later) (sym es))
  walk order done (served x ∷ later) ws wc ((None, y) ∷ ss) cs s t c d timely e es ec rs rc here =
      let h = heads x y (server_steps later) (map (λ (z : ServerStep). z.1) ss) es in
      let e2 = e ∙ sym (append_assoc done (served x ∷ []) later) in
      let step = subst (λ (z : Exchange). IsExchange of_server.OpensOrTurns of_server.brings of_server.says ws s (None, z) rs.0) (sym h.0) rs.1 in
      walk order (done ++ served x ∷ []) later ws wc ss cs rs.0 t c d timely e2 h.1 ec rs.2 rc (opened done s rs.0 c ws x step here)
  walk order done (served x ∷ later) ws wc ((Some (m, k), y) ∷ ss) cs s t c d timely e es ec rs rc here =
      let h = heads x y (server_steps later) (map (λ (z : ServerStep). z.1) ss) es in
      let e2 = e ∙ sym (append_assoc done (served x ∷ []) later) in
      let step = subst (λ (z : Exchange). IsExchange of_server.OpensOrTurns of_server.brings of_server.says ws s (Some (m, k), z) rs.0) (sym h.0) rs.1 in
      walk order (done ++ served x ∷ []) later ws wc ss cs rs.0 t c d timely e2 h.1 ec rs.2 rc
      (served_on done s rs.0 c ws m k x step (timely (done ++ served x ∷ []) later e2) here)
  walk order done (told x ∷ later) ws wc ss [] s t c d timely e es ec rs rc here = absurd (no_step x (client_steps later) (sym ec))
  walk order done (told x ∷ later) ws wc ss (((m, k), y) ∷ cs) s t c d timely e es ec rs rc here =
      let h = heads x y (client_steps later) (map (λ (z : ClientStep). z.1) cs) ec in
      let e2 = e ∙ sym (append_assoc done (told x ∷ []) later) in
      let step = subst (λ (z : Exchange). IsExchange core.Turns of_client.brings of_client.says wc c ((m, k), z) rc.0) (sym h.0) rc.1 in
      walk order (done ++ told x ∷ []) later ws wc ss cs s t rc.0 d timely e2 es h.1 rs rc.2
      (told_on done s c rc.0 wc m k x step (timely (done ++ told x ∷ []) later e2) here)

  -- two transcripts that are carried
  pub holds : (ms : List (Option ServerMarked)) (cs : List ClientMarked) (last : Both) (ws wc : List ℕ) (server_transcript client_transcript : List Exchange)
      → Transcribes of_server.OpensOrTurns of_server.brings of_server.says start.server ms last.server ws server_transcript
      → Transcribes core.Turns of_client.brings of_client.says start.client cs last.client wc client_transcript
      → IsCarried server_transcript client_transcript → Holds last
  holds ms cs last ws wc server_transcript client_transcript s c carried =
      walk carried.order [] carried.order ws wc s.steps c.steps (record { run = start.server; wrote = [] }) (record { run = last.server; wrote = ws })
      (record { run = start.client; wrote = [] }) (record { run = last.client; wrote = wc }) carried.in_time refl
      (carried.of_server ∙ sym s.of_steps) (carried.of_client ∙ sym c.of_steps) s.goes c.goes (record {
        done = [];
        runs_so = (refl, refl);
        server_read = refl;
        client_read = refl;
        server_wrote = refl;
        client_wrote = refl;
        server_said = (of_server.says start.server, refl);
        client_said = (of_client.says start.client, refl);
        at = begun_at canon approach width height opens jobs Tied ties;
      })
