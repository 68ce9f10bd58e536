-- The effect of one loop: after each event all bytes are carried, in one order.
use Rattle.std.proofs.Common.{◌≡◌, ◌⊎◌, inl, inr, ℕ, All, Bool, true, false, Option, Some, None, List, [], ◌∷◌, ◌++◌, refl, sym, ap, ◌∙◌, subst, map}
use Rattle.std.proofs.{Common.{append_assoc, append-nil}, lemmas.{List.map-append, Fn.FoldsTo-push}}
use Rattle.std.specs.List.{FoldsTo}
use Rattle.tn_client.specs.Replies as client_says
use Rattle.tn_client.proofs.lemmas.Fitting.{sent-fits}
use Rattle.tn_cores.proofs.lemmas.{client.Bringing.in_order, server.{Giving.{puts_are_front, puts_are_given}, Hearing.hears}}
use Rattle.tn_cores.specs.{client.Bringing.{Input, brought_from, inputs, inputs_brought, inputs_from}, declared.client.messages.{Origin.Origin, Told.Told}}
use Rattle.tn_cores.specs.{declared.{client.machine.Core.Core, messages.Message.Message}, Pieces.bytes_in, server.{Giving.entries_put, Hearing.heard}}
use Rattle.tn_cores.specs.{server.Run.puts_of, declared.server.terminal.Term.Term}
use Rattle.tn_cores.specs.client.Marks as core
use Rattle.tn_cores.specs.client.Reaching as core_reach
use Rattle.tn_cores.specs.client.Run as core_run
use Rattle.tn_cores.specs.declared.client.messages.ClientMark as core_mark
use Rattle.tn_cores.specs.declared.client.messages.ClientMark.TheVariants as core_is
use Rattle.tn_cores.specs.declared.client.messages.Origin.TheVariants as origin
use Rattle.tn_cores.specs.declared.client.progress.ClientProgress as core_progress
use Rattle.tn_discipline.specs.{Canon.{Canon, typed_entries}, Characters.standard_characters, declared.reads.Entry.Entry}
use Rattle.tn_jobs.specs.Jobs.{Jobs}
use Rattle.tn_theorems.proofs.of_sessions.{Closing.{LeftLast, keys_messages, run_typed, tolds}, Hearing.heard_all, Joint.Both, Tying.{AreTied, ties}}
use Rattle.tn_theorems.proofs.of_sessions.Keys.{HaveKeys, first_of_all, keys_of-append, more_entries, typeable, typed_as}
use Rattle.tn_theorems.proofs.of_sessions.Transcripts.{client-append, holds, one_read, one_wrote, server-append}
use Rattle.tn_theorems.specs.sessions.OneLoop.{Happens, IsStart, TheoremOfOneLoop, ReadsAll, ServesOne, TellsOne, from_network, from_user, inputs_by, inputs_of}
use Rattle.tn_theorems.specs.sessions.{Theorem.{HasKey, keys_of}, Transcripts.{Step, served, told, server_steps, client_steps, IsCarried, IsInTime}}
use Rattle.tn_theorems.specs.declared.sessions.one_loop.{LoopEvent.{LoopEvent, TheVariants.{Typed, Asked, ToServer, ToClient, Take, Said}}, Joined.Joined}
use Rattle.tn_cores.specs.declared.messages.Message.TheVariants as message
use Rattle.tn_server.specs.Events as server
use Rattle.tn_server.specs.{Lines.{entries, waiting}, declared.openings.Approach.Approach}
use Rattle.tn_session.proofs.lemmas.{Noting.IsUpTo, Sessions.{client_stepped, server_stepped}, Transcribing.prefix_trans}
use Rattle.tn_session.specs.Client as of_client
use Rattle.tn_session.specs.CoreTurns as cores
use Rattle.tn_session.specs.Session as of_server
use Rattle.tn_session.specs.Transcripts.{Exchange, IsStep, all_read, all_wrote, total}
use Rattle.tn_session.specs.Turns as terms
use Rattle.tn_nvt.specs.Prefixes.{IsPrefixOf}
use Rattle.tn_cores.specs.server.Marks as term
use Rattle.tn_cores.specs.server.Reaching as term_reach
use Rattle.tn_cores.specs.server.Run as term_run
use Rattle.tn_cores.specs.declared.server.messages.ServerMark as term_mark
use Rattle.tn_cores.specs.declared.server.progress.ServerProgress as term_progress
use Rattle.tn_world.proofs.lemmas.Histories as histories
use Rattle.tn_world.proofs.lemmas.Histories.{TiedHistories, keys_typed}

-- ONE STEP MORE
abbrev AllInTime : List Step → Type 0
AllInTime order = (done later : List Step) → order ≡ done ++ later → IsInTime (server_steps done) (client_steps done)

parts : {A : Type 0} (a b : A) (us vs : List A) → a ∷ us ≡ b ∷ vs → (a ≡ b) × (us ≡ vs)
parts a b us vs e = (cc, cc)

none_left : (ds later : List Step) → [] ≡ ds ++ later → ds ≡ []
none_left [] later e = refl
none_left (d ∷ ds) later e = absurd (none_some e)
  where
    none_some : {A : Type 0} {x : A} {xs : List A} → [] ≡ x ∷ xs → ⊥
    none_some f = cc

-- the first of these steps and one more are the first of these, or all
first_or_all : (xs : List Step) (x : Step) (done later : List Step) → xs ++ x ∷ [] ≡ done ++ later → ((more : List Step) × (xs ≡ done ++ more))
    ⊎ (done ≡ xs ++ x ∷ [])
first_or_all xs x [] later e = inl (xs, refl)
first_or_all [] x (d ∷ ds) later e =
    let p = parts x d [] (ds ++ later) e in
    inr (λ i. sym p.0 i ∷ none_left ds later p.1 i)
first_or_all (y ∷ ys) x (d ∷ ds) later e =
    let p = parts y d (ys ++ x ∷ []) (ds ++ later) e in
    go p.0 (first_or_all ys x ds later p.1)
  where
    go : y ≡ d → ((more : List Step) × (ys ≡ ds ++ more)) ⊎ (ds ≡ ys ++ x ∷ []) → ((more : List Step) × (y ∷ ys ≡ d ∷ (ds ++ more)))
        ⊎ (d ∷ ds ≡ y ∷ (ys ++ x ∷ []))
    go same (inl m) = inl (m.0, λ i. same i ∷ m.1 i)
    go same (inr m) = inr (λ i. sym same i ∷ m i)

in_time_more : (order : List Step) (x : Step) → AllInTime order → IsInTime (server_steps (order ++ x ∷ [])) (client_steps (order ++ x ∷ []))
    → AllInTime (order ++ x ∷ [])
in_time_more order x before now done later e = go (first_or_all order x done later e)
  where
    go : ((more : List Step) × (order ≡ done ++ more)) ⊎ (done ≡ order ++ x ∷ []) → IsInTime (server_steps done) (client_steps done)
    go (inl m) = before done m.0 m.1
    go (inr m) = subst (λ (d : List Step). IsInTime (server_steps d) (client_steps d)) (sym m) now

-- the bytes that have come are the first of those that were written, if the rest is on its way
in_time_by : (order : List Step) (to_server to_client : List ℕ) → all_wrote (client_steps order) ≡ all_read (server_steps order) ++ to_server
    → all_wrote (server_steps order) ≡ all_read (client_steps order) ++ to_client → IsInTime (server_steps order) (client_steps order)
in_time_by order to_server to_client e f = record { to_server = (to_server, sym e); to_client = (to_client, sym f) }

-- THE MESSAGES OF THE USER
abbrev IsInput : Message → Type 0
IsInput (message.Piece piece) = Unit {0}
IsInput (message.Asked control) = Unit {0}
IsInput _ = ⊥

abbrev ClientStep : Type 0
ClientStep = (Told × core_mark.ClientMark) × List ℕ

abbrev ServerStep : Type 0
ServerStep = (Message × term_mark.ServerMark) × List ℕ

abbrev AllInputs : List ClientStep → Type 0
AllInputs [] = Unit {0}
AllInputs (s ∷ ss) = IsInput s.0.0.message × AllInputs ss

all_inputs-push : (ss : List ClientStep) (s : ClientStep) → AllInputs ss → IsInput s.0.0.message → AllInputs (ss ++ s ∷ [])
all_inputs-push [] s all one = (one, tt)
all_inputs-push (t ∷ ts) s all one = (all.0, all_inputs-push ts s all.1 one)

left_last : (ss : List ClientStep) → AllInputs ss → LeftLast (keys_messages (tolds (map (λ s. s.0) ss)))
left_last [] all = tt
left_last (s ∷ ss) all = go s.0.0.from s.0.0.message all.0 (left_last ss all.1)
  where
    go : (from : Origin) (m : Message) → IsInput m → LeftLast (keys_messages (tolds (map (λ (t : ClientStep). t.0) ss)))
        → LeftLast (keys_messages ((record { from = from; message = m }) ∷ tolds (map (λ (t : ClientStep). t.0) ss)))
    go origin.Net m is later = later
    go origin.Keys (message.Piece piece) is later = later
    go origin.Keys (message.Asked control) is later = later
    go origin.Keys message.HangUp is later = absurd is
    go origin.Keys message.ReadFailed is later = absurd is
    go origin.Keys message.Take is later = absurd is
    go origin.Keys (message.Said job text after) is later = absurd is
    go origin.Keys message.Refused is later = absurd is
    go origin.Keys message.Left is later = absurd is
    go origin.Keys (message.Resized size) is later = absurd is

abbrev typed_in : List ClientStep → List Input
typed_in ss = inputs_brought (tolds (map (λ s. s.0) ss))

typed-push : (ss : List ClientStep) (s : ClientStep) → typed_in (ss ++ s ∷ []) ≡ typed_in ss ++ inputs_from s.0.0.from s.0.0.message
typed-push [] s = append-nil (inputs_from s.0.0.from s.0.0.message)
typed-push (t ∷ ts) s = ap (λ (l : List Input). inputs_from t.0.0.from t.0.0.message ++ l) (typed-push ts s)
    ∙ sym (append_assoc (inputs_from t.0.0.from t.0.0.message) (typed_in ts) (inputs_from s.0.0.from s.0.0.message))

unwritten_one : (m : core_mark.ClientMark) → core.is_written m ≡ false → core.is_whole m ≡ false
unwritten_one core_is.Whole e = e
unwritten_one core_is.WriteFailed e = refl
unwritten_one core_is.ShowFailed e = refl
unwritten_one (core_is.Refused f) e = refl

module _ (canon : Canon) (approach : Approach) (jobs : Jobs) (width height : ℕ) where
  abbrev first_server : term_run.Run
  first_server = term_run.start canon approach jobs

  abbrev first_client : core_run.Run
  first_client = core_run.start width height canon.limit

  abbrev opening : List ℕ
  opening = of_server.says first_server

  abbrev served_step : ServerStep → Exchange
  served_step s = record { read = bytes_in s.0.0; wrote = s.1 }

  abbrev told_step : ClientStep → Exchange
  told_step s = record { read = of_client.brings s.0; wrote = s.1 }

  -- both machines after some events, in which this was typed
  pub record Here (typed : List Input) (j : Joined) : Type 0 where
    pub order : List Step
    pub ss : List ServerStep
    pub cs : List ClientStep
    pub server : term_run.Run
    pub client : core_run.Run
    pub at_server : term_reach.LeadsTo server j.term
    pub at_client : core_reach.LeadsTo client j.core
    pub served_by : FoldsTo (IsStep term.Turns terms.says terms.is_over terms.is_marked_whole) first_server ss server
    pub told_by : FoldsTo (IsStep core.Turns cores.says cores.is_over cores.is_marked_written) first_client cs client
    pub of_server : server_steps order ≡ record { read = []; wrote = opening } ∷ map served_step ss
    pub of_client : client_steps order ≡ map told_step cs
    pub in_time : AllInTime order
    pub to_server : all_wrote (client_steps order) ≡ all_read (server_steps order) ++ j.to_server.items
    pub to_client : all_wrote (server_steps order) ≡ all_read (client_steps order) ++ j.to_client.items
    pub puts : server.puts ≡ j.puts.items
    pub keys : typed_in cs ≡ typed
    pub are_inputs : AllInputs cs

  pub begins : (j : Joined) → IsStart canon approach jobs width height j → Here [] j
  begins j start =
      let first : List Step = served (record { read = []; wrote = opening }) ∷ [] in
      let to_server : all_wrote (client_steps first) ≡ all_read (server_steps first) ++ j.to_server.items = sym start.to_server in
      let to_client : all_wrote (server_steps first) ≡ all_read (client_steps first) ++ j.to_client.items = append-nil opening ∙ sym start.to_client in
      record {
        order = first;
        ss = [];
        cs = [];
        server = first_server;
        client = first_client;
        at_server = start.server;
        at_client = start.client;
        served_by = refl;
        told_by = refl;
        of_server = refl;
        of_client = refl;
        in_time = in_time_more [] (served (record { read = []; wrote = opening })) nothing
            (in_time_by first j.to_server.items j.to_client.items to_server to_client);
        to_server = to_server;
        to_client = to_client;
        puts = sym start.puts;
        keys = refl;
        are_inputs = tt;
      }
    where
      nothing : AllInTime []
      nothing [] later e = record { to_server = ([], refl); to_client = ([], refl) }
      nothing (d ∷ ds) later e = absurd (none_some e)
        where
          none_some : {A : Type 0} {x : A} {xs : List A} → [] ≡ x ∷ xs → ⊥
          none_some f = cc

  -- the terminal handles a message, whose bytes were on their way
  serves : (typed : List Input) (old mid new : Joined) (m : Message) → Here typed old → mid.term ≡ old.term → mid.core ≡ old.core
      → mid.to_client ≡ old.to_client → mid.puts ≡ old.puts → old.to_server.items ≡ bytes_in m ++ mid.to_server.items → ServesOne mid m new → Here typed new
  serves typed old mid new m h term_is core_is to_client_is puts_is comes one =
      let at = subst (λ (t : Term). term_reach.LeadsTo h.server t) (sym term_is) h.at_server in
      let q = one.turn.leads h.server at in
      let x : Exchange = record { read = bytes_in m; wrote = one.bytes } in
      let order = h.order ++ served x ∷ [] in
      let over = λ (p : term_progress.ServerProgress). p.over in
      let server_is : server_steps order ≡ server_steps h.order ++ x ∷ [] = server-append h.order (served x ∷ []) in
      let client_is : client_steps order ≡ client_steps h.order = client-append h.order (served x ∷ []) ∙ append-nil (client_steps h.order) in
      let server_read : all_read (server_steps order) ≡ all_read (server_steps h.order) ++ bytes_in m =
      ap all_read server_is ∙ one_read (server_steps h.order) x in
      let server_wrote : all_wrote (server_steps order) ≡ all_wrote (server_steps h.order) ++ one.bytes =
      ap all_wrote server_is ∙ one_wrote (server_steps h.order) x in
      let flight : mid.to_server.items ≡ new.to_server.items = ap (λ v. v.items) (sym one.to_server) in
      let to_server : all_wrote (client_steps order) ≡ all_read (server_steps order) ++ new.to_server.items =
      ap all_wrote client_is ∙ h.to_server ∙ ap (λ (l : List ℕ). all_read (server_steps h.order) ++ l) comes
      ∙ sym (append_assoc (all_read (server_steps h.order)) (bytes_in m) mid.to_server.items) ∙ (λ i. sym server_read i ++ flight i) in
      let sent : new.to_client.items ≡ old.to_client.items ++ one.bytes = one.to_client ∙ ap (λ v. v.items ++ one.bytes) to_client_is in
      let to_client : all_wrote (server_steps order) ≡ all_read (client_steps order) ++ new.to_client.items =
      server_wrote ∙ ap (λ (l : List ℕ). l ++ one.bytes) h.to_client ∙ append_assoc (all_read (client_steps h.order)) old.to_client.items one.bytes
      ∙ (λ i. all_read (sym client_is i) ++ sym sent i) in
      record {
        order = order;
        ss = h.ss ++ ((m, one.mark), one.bytes) ∷ [];
        cs = h.cs;
        server = q.0;
        client = h.client;
        at_server = q.2;
        at_client = subst (λ (c : Core). core_reach.LeadsTo h.client c) (sym core_is ∙ sym one.core) h.at_client;
        served_by = FoldsTo-push (IsStep term.Turns terms.says terms.is_over terms.is_marked_whole) first_server h.ss h.server
            ((m, one.mark), one.bytes) q.0 h.served_by (record {
              turn = q.1;
              rest = q.4;
              said = q.5;
              all = q.6;
              over = λ e. sym (ap over q.2.progress) ∙ one.turn.over e;
              stays = λ off. sym (ap over q.2.progress) ∙ one.turn.stays (ap over at.progress ∙ off);
              idle = λ off. (one.turn.idle (ap over at.progress ∙ off)).0;
            });
        told_by = h.told_by;
        of_server = server_is ∙ ap (λ (l : List Exchange). l ++ x ∷ []) h.of_server
            ∙ ap (λ (l : List Exchange). record { read = []; wrote = opening } ∷ l) (sym (map-append served_step h.ss (((m, one.mark), one.bytes) ∷ [])));
        of_client = client_is ∙ h.of_client;
        in_time = in_time_more h.order (served x) h.in_time (in_time_by order new.to_server.items new.to_client.items to_server to_client);
        to_server = to_server;
        to_client = to_client;
        puts = q.3 ∙ ap (λ (ps : List (Option Entry)). ps ++ (puts_of one.put ++ puts_of one.last)) (h.puts ∙ ap (λ v. v.items) (sym puts_is)) ∙ sym one.puts;
        keys = h.keys;
        are_inputs = h.are_inputs;
      }

  -- the core handles what comes, from the user or from the network
  tells : (typed : List Input) (old mid new : Joined) (t : Told) → Here typed old → mid.term ≡ old.term → mid.core ≡ old.core → mid.to_server ≡ old.to_server
      → mid.puts ≡ old.puts → IsInput t.message → old.to_client.items ≡ brought_from origin.Net t.from t.message ++ mid.to_client.items → TellsOne mid t new
      → Here (typed ++ inputs_from t.from t.message) new
  tells typed old mid new t h term_is core_is to_server_is puts_is input comes one =
      let at = subst (λ (c : Core). core_reach.LeadsTo h.client c) (sym core_is) h.at_client in
      let q = one.turn.leads h.client at in
      let brings = brought_from origin.Net t.from t.message in
      let x : Exchange = record { read = brings; wrote = one.bytes } in
      let order = h.order ++ told x ∷ [] in
      let over = λ (p : core_progress.ClientProgress). p.over in
      let client_is : client_steps order ≡ client_steps h.order ++ x ∷ [] = client-append h.order (told x ∷ []) in
      let server_is : server_steps order ≡ server_steps h.order = server-append h.order (told x ∷ []) ∙ append-nil (server_steps h.order) in
      let client_read : all_read (client_steps order) ≡ all_read (client_steps h.order) ++ brings = ap all_read client_is ∙ one_read (client_steps h.order) x in
      let client_wrote : all_wrote (client_steps order) ≡ all_wrote (client_steps h.order) ++ one.bytes =
      ap all_wrote client_is ∙ one_wrote (client_steps h.order) x in
      let flight : mid.to_client.items ≡ new.to_client.items = ap (λ v. v.items) (sym one.to_client) in
      let to_client : all_wrote (server_steps order) ≡ all_read (client_steps order) ++ new.to_client.items =
      ap all_wrote server_is ∙ h.to_client ∙ ap (λ (l : List ℕ). all_read (client_steps h.order) ++ l) comes
      ∙ sym (append_assoc (all_read (client_steps h.order)) brings mid.to_client.items) ∙ (λ i. sym client_read i ++ flight i) in
      let sent : new.to_server.items ≡ old.to_server.items ++ one.bytes = one.to_server ∙ ap (λ v. v.items ++ one.bytes) to_server_is in
      let to_server : all_wrote (client_steps order) ≡ all_read (server_steps order) ++ new.to_server.items =
      client_wrote ∙ ap (λ (l : List ℕ). l ++ one.bytes) h.to_server ∙ append_assoc (all_read (server_steps h.order)) old.to_server.items one.bytes
      ∙ (λ i. all_read (sym server_is i) ++ sym sent i) in
      record {
        order = order;
        ss = h.ss;
        cs = h.cs ++ ((t, one.mark), one.bytes) ∷ [];
        server = h.server;
        client = q.0;
        at_server = subst (λ (u : Term). term_reach.LeadsTo h.server u) (sym term_is ∙ sym one.term) h.at_server;
        at_client = q.2;
        served_by = h.served_by;
        told_by = FoldsTo-push (IsStep core.Turns cores.says cores.is_over cores.is_marked_written) first_client h.cs h.client
            ((t, one.mark), one.bytes) q.0 h.told_by (record {
              turn = q.1;
              rest = q.3.0;
              said = q.3.1;
              all = q.3.2;
              over = λ e. sym (ap over q.2.progress) ∙ one.turn.over (unwritten_one one.mark e);
              stays = λ off. sym (ap over q.2.progress) ∙ one.turn.stays (ap over at.progress ∙ off);
              idle = λ off. (one.turn.idle (ap over at.progress ∙ off)).0;
            });
        of_server = server_is ∙ h.of_server;
        of_client = client_is ∙ ap (λ (l : List Exchange). l ++ x ∷ []) h.of_client ∙ sym (map-append told_step h.cs (((t, one.mark), one.bytes) ∷ []));
        in_time = in_time_more h.order (told x) h.in_time (in_time_by order new.to_server.items new.to_client.items to_server to_client);
        to_server = to_server;
        to_client = to_client;
        puts = h.puts ∙ ap (λ v. v.items) (sym puts_is ∙ sym one.puts);
        keys = typed-push h.cs ((t, one.mark), one.bytes) ∙ ap (λ (l : List Input). l ++ inputs_from t.from t.message) h.keys;
        are_inputs = all_inputs-push h.cs ((t, one.mark), one.bytes) h.are_inputs input;
      }

  pub happens : (typed : List Input) (old new : Joined) (event : LoopEvent) → Here typed old → Happens old event new → Here (typed ++ inputs_by event) new
  happens typed old new (Typed keys) h one = tells typed old old new (from_user (message.Piece keys)) h refl refl refl refl tt refl one
  happens typed old new (Asked control) h one = tells typed old old new (from_user (message.Asked control)) h refl refl refl refl tt refl one
  happens typed old new (ToServer count) h one =
      subst (λ (l : List Input). Here l new) (sym (append-nil typed))
      (serves typed old one.mid new (message.Piece one.piece) h one.term one.core one.to_client one.puts one.taken.whole one.served)
  happens typed old new (ToClient count) h one = tells typed old one.mid new
      (from_network one.piece) h one.term one.core one.to_server one.puts tt one.taken.whole one.told
  happens typed old new Take h one = subst (λ (l : List Input). Here l new) (sym (append-nil typed))
      (serves typed old old new message.Take h refl refl refl refl refl one)
  happens typed old new (Said job text after) h one = subst (λ (l : List Input). Here l new) (sym (append-nil typed))
      (serves typed old old new (message.Said job text after) h refl refl refl refl refl one)

  all_happen : (typed : List Input) (script : List LoopEvent) (old new : Joined) → Here typed old → FoldsTo Happens old script new
      → Here (typed ++ inputs_of script) new
  all_happen typed [] old new h goes = subst (λ (l : List Input). Here l new) (sym (append-nil typed)) (subst (λ (j : Joined). Here typed j) goes h)
  all_happen typed (event ∷ events) old new h goes =
      let one = happens typed old goes.0 event h goes.1 in
      subst (λ (l : List Input). Here l new) (append_assoc typed (inputs_by event) (inputs_of events))
      (all_happen (typed ++ inputs_by event) events goes.0 new one goes.2)

  -- THE THEOREM
  said_at_first : IsUpTo term.Turns terms.says terms.is_over terms.is_marked_whole first_server opening
  said_at_first = (([], append-nil opening), inl refl)

  reads_all : (typed : List Input) (j : Joined) → canon.settings.chars ≡ standard_characters → All (λ input. HasKey canon.settings input) typed → Here typed j
      → ReadsAll canon typed j
  reads_all typed j standard have h =
      let marked = map (λ (s : ServerStep). s.0) h.ss in
      let cmarked = map (λ (s : ClientStep). s.0) h.cs in
      let last : Both = record { server = h.server; client = h.client } in
      let tied = ties canon approach width height standard in
      let s_transcribed = server_stepped first_server h.server h.ss opening h.served_by said_at_first in
      let c_transcribed = client_stepped first_client h.client h.cs h.told_by refl in
      let carried : IsCarried (record { read = []; wrote = opening } ∷ map served_step h.ss) (map told_step h.cs) =
      record { order = h.order; of_server = h.of_server; of_client = h.of_client; in_time = h.in_time } in
      let at = holds canon approach width height true jobs (λ k l. AreTied canon k l) tied
      (None ∷ map (λ (m : Message × term_mark.ServerMark). Some m) marked) cmarked last (opening ++ total h.ss)
      (total h.cs) _ _ s_transcribed c_transcribed carried in
      let s_runs = steps_run h.ss first_server h.server h.served_by in
      let c_runs = told_run h.cs first_client h.client h.told_by in
      let hear = hears true canon approach jobs marked h.server s_runs in
      let order = in_order width height canon.limit cmarked h.client c_runs in
      let same = (run_typed cmarked first_client h.client c_runs refl (left_last h.cs h.are_inputs) (record { latest = λ e. refl; same = refl })).same in
      let of_inputs : typed ≡ inputs h.client.history ++ order.untyped = sym h.keys ∙ order.typed in
      let Have : List Input → Type 0 = λ xs. All (λ input. HasKey canon.settings input) xs in
      let have_keys : HaveKeys canon.settings standard (inputs h.client.sent) =
      subst Have (sym same) (first_of_all (λ input. HasKey canon.settings input) (inputs h.client.history) order.untyped (subst Have of_inputs have)) in
      let both : TiedHistories canon h.server.history h.client.sent = at.tied (typeable canon.settings standard h.client.sent have_keys) in
      let typed_first : List ℕ = keys_of canon.settings (inputs h.client.history) in
      let sent_keys : typed_entries canon (keys_typed canon.settings h.client.sent) ≡ typed_entries canon typed_first =
      ap (λ (ks : List ℕ). typed_entries canon ks) (typed_as canon.settings standard h.client.sent have_keys
      ∙ ap (λ (xs : List Input). keys_of canon.settings xs) same) in
      let keys_first : keys_of canon.settings typed ≡ typed_first ++ keys_of canon.settings order.untyped =
      ap (λ (xs : List Input). keys_of canon.settings xs) of_inputs ∙ keys_of-append canon.settings (inputs h.client.history) order.untyped in
      let fronts = puts_are_front true canon approach jobs marked h.server s_runs in
      let front : IsPrefixOf (entries_put j.puts.items) (entries h.server.history) =
      (fronts.0, ap (λ (ps : List (Option Entry)). entries_put ps ++ fronts.0) (sym h.puts) ∙ fronts.1) in
      let mid : IsPrefixOf (entries h.server.history) (typed_entries canon typed_first) =
      subst (λ (es : List Entry). IsPrefixOf (entries h.server.history) es) sent_keys (histories.prefix canon h.server.history h.client.sent both) in
      record {
        prefix = prefix_trans _ _ _ front (prefix_trans _ _ _ mid
            (more_entries canon typed_first (keys_of canon.settings order.untyped) (keys_of canon.settings typed) keys_first));
        all = λ none s_on c_on.
            let s_live : h.server.progress.over ≡ false = ap (λ (p : term_progress.ServerProgress). p.over) (sym h.at_server.progress) ∙ s_on in
            let c_live : h.client.progress.over ≡ false = ap (λ (p : core_progress.ClientProgress). p.over) (sym h.at_client.progress) ∙ c_on in
            let read : all_read (server_steps h.order) ≡ total h.cs =
            sym (append-nil (all_read (server_steps h.order))) ∙ ap (λ (l : List ℕ). all_read (server_steps h.order) ++ l) (sym none) ∙ sym h.to_server
            ∙ ap all_wrote h.of_client ∙ wrote_by h.cs in
            let stream : h.server.stream ≡ total h.cs = sym (append-nil h.server.stream) ∙ ap (λ (l : List ℕ). h.server.stream ++ l) (sym (hear.all s_live))
            ∙ sym hear.stream_first ∙ sym (read_by h.ss) ∙ ap all_read (sym h.of_server) ∙ read in
            let said : total h.cs ≡ cores.says h.client = all_said h.cs first_client h.client h.told_by c_live refl in
            let whole = histories.complete canon h.server.history h.client.sent both
            (heard_all h.server.stream (server.items h.server.history) (client_says.items_said h.client.sent) hear.read (sent-fits h.client.sent)
            (stream ∙ said)) in
            let given = puts_are_given true canon approach jobs marked h.server s_runs s_live in
            let all_keys : typed_first ≡ keys_of canon.settings typed =
            sym (keys_first ∙ ap (λ (xs : List Input). typed_first ++ keys_of canon.settings xs) (order.all c_live).0 ∙ append-nil typed_first) in (
              h.server,
              h.at_server,
              ap (λ (ps : List (Option Entry)). entries_put ps ++ waiting h.server.history) (sym h.puts) ∙ given.all ∙ whole ∙ sent_keys
                  ∙ ap (λ (ks : List ℕ). typed_entries canon ks) all_keys,
            );
        server = record { read = []; wrote = opening } ∷ map served_step h.ss;
        client = map told_step h.cs;
        carried = carried;
        to_server = ap all_wrote (sym h.of_client) ∙ h.to_server ∙ ap (λ (xs : List Exchange). all_read xs ++ j.to_server.items) h.of_server;
        to_client = ap all_wrote (sym h.of_server) ∙ h.to_client ∙ ap (λ (xs : List Exchange). all_read xs ++ j.to_client.items) h.of_client;
      }
    where
      steps_run : (ss : List ServerStep) (p q : term_run.Run) → FoldsTo (IsStep term.Turns terms.says terms.is_over terms.is_marked_whole) p ss q
          → term.Runs p (map (λ s. s.0) ss) q
      steps_run [] p q r = r
      steps_run (s ∷ ss) p q r = (r.0, r.1.turn, steps_run ss r.0 q r.2)

      told_run : (cs : List ClientStep) (p q : core_run.Run) → FoldsTo (IsStep core.Turns cores.says cores.is_over cores.is_marked_written) p cs q
          → core.Runs p (map (λ s. s.0) cs) q
      told_run [] p q r = r
      told_run (s ∷ cs) p q r = (r.0, r.1.turn, told_run cs r.0 q r.2)

      wrote_by : (cs : List ClientStep) → all_wrote (map told_step cs) ≡ total cs
      wrote_by [] = refl
      wrote_by (s ∷ cs) = ap (λ (l : List ℕ). s.1 ++ l) (wrote_by cs)

      read_by : (ss : List ServerStep) → all_read (map served_step ss) ≡ heard (map (λ m. m.0) (map (λ s. s.0) ss))
      read_by [] = refl
      read_by (s ∷ ss) = ap (λ (l : List ℕ). bytes_in s.0.0 ++ l) (read_by ss)

      true_false : true ≡ false → ⊥
      true_false e = cc

      all_said : (cs : List ClientStep) (p q : core_run.Run) → FoldsTo (IsStep core.Turns cores.says cores.is_over cores.is_marked_written) p cs q
          → cores.is_over q ≡ false → cores.says p ≡ [] → total cs ≡ cores.says q
      all_said cs p q r on silent = ap (λ (l : List ℕ). l ++ total cs) (sym silent) ∙ go cs p q r on
        where
          stays : (ds : List ClientStep) (a b : core_run.Run) → FoldsTo (IsStep core.Turns cores.says cores.is_over cores.is_marked_written) a ds b
              → cores.is_over a ≡ true → cores.is_over b ≡ true
          stays [] a b f off = subst (λ (c : core_run.Run). cores.is_over c ≡ true) f off
          stays (d ∷ ds) a b f off = stays ds f.0 b f.2 (f.1.stays off)

          whole : (b : Bool) → (b ≡ false → ⊥) → b ≡ true
          whole true never = refl
          whole false never = absurd (never refl)

          go : (ds : List ClientStep) (a b : core_run.Run) → FoldsTo (IsStep core.Turns cores.says cores.is_over cores.is_marked_written) a ds b
              → cores.is_over b ≡ false → cores.says a ++ total ds ≡ cores.says b
          go [] a b f live = append-nil (cores.says a) ∙ ap cores.says f
          go (d ∷ ds) a b f live =
              let written = whole (cores.is_marked_written d.0) (λ e. true_false (sym (stays ds f.0 b f.2 (f.1.over e)) ∙ live)) in
              let one : cores.says a ++ d.1 ≡ cores.says f.0 = ap (λ (l : List ℕ). cores.says a ++ l)
              (sym (append-nil d.1) ∙ ap (λ (l : List ℕ). d.1 ++ l) (sym (f.1.all written))) ∙ sym f.1.said in
              sym (append_assoc (cores.says a) d.1 (total ds)) ∙ ap (λ (l : List ℕ). l ++ total ds) one ∙ go ds f.0 b f.2 live

pub loop_reads : TheoremOfOneLoop
loop_reads canon approach jobs width height first last script standard have start goes =
    reads_all canon approach jobs width height (inputs_of script) last standard have
    (all_happen canon approach jobs width height [] script first last (begins canon approach jobs width height first start) goes)
