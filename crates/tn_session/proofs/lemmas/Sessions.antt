-- The transcript of a session that ran.
use Rattle.std.proofs.Common.{◌≡◌, inl, ℕ, false, Option, Some, None, List, [], ◌∷◌, ◌++◌, refl, sym, ap, ◌∙◌, subst, map, flat_map, append_assoc, append-nil}
use Rattle.std.specs.List.{FoldsTo}
use Rattle.tn_client.specs.Events as client
use Rattle.tn_client.specs.Replies as client_says
use Rattle.tn_cores.specs.{client.Bringing.{brought, brought_from}, declared.{client.messages.Told.Told, messages.Message.Message}, Pieces.bytes_in}
use Rattle.tn_cores.specs.server.Hearing.{heard}
use Rattle.tn_cores.specs.client.Marks as core
use Rattle.tn_cores.specs.client.Run as core_run
use Rattle.tn_cores.specs.declared.client.messages.ClientMark as core_mark
use Rattle.tn_cores.specs.declared.client.messages.Origin.TheVariants as origin
use Rattle.tn_nvt.proofs.lemmas.Reading.{spells-append}
use Rattle.tn_nvt.specs.{Spelling.spells, declared.items.Item.Item, Prefixes.IsPrefixOf}
use Rattle.tn_server.specs.Events as server
use Rattle.tn_server.specs.Replies as server_says
use Rattle.tn_session.proofs.lemmas.{ClientTurns.client_turns, Noting.{IsUpTo, exchanged, whole_by}, ServerTurns.server_turns}
use Rattle.tn_session.proofs.lemmas.Transcribing.{prefix_self, on_to, all_grow, transcribes_on, reads_all, wrote_all}
use Rattle.tn_session.specs.Client as of_client
use Rattle.tn_session.specs.Session as of_server
use Rattle.tn_session.specs.CoreTurns as cores
use Rattle.tn_session.specs.{CoreTurns.{all_told, told_of}, Notes.{Note, Noted, no_notes, notes}, Turns.messages_of, declared.workers.mail.Mail.Mail}
use Rattle.tn_session.specs.Transcripts.{Exchange, Point, ReadsPrefix, Transcribes, IsExchange, IsStep, all_read, all_wrote, exchange_of, total}
use Rattle.tn_session.specs.Turns as terms
use Rattle.tn_cores.specs.server.Marks as term
use Rattle.tn_cores.specs.server.Run as term_run
use Rattle.tn_cores.specs.declared.server.messages.ServerMark as term_mark

-- a spelling grows with its items
spells_grow : (xs ys : List Item) → IsPrefixOf xs ys → IsPrefixOf (spells xs) (spells ys)
spells_grow xs ys p = (spells p.0, sym (spells-append xs p.0) ∙ ap spells p.1)

one_more : {A : Type 0} (base xs ys : List A) → IsPrefixOf base xs → IsPrefixOf base (xs ++ ys)
one_more {A} base xs ys p = (p.0 ++ ys, sym (append_assoc base p.0 ys) ∙ ap (λ (l : List A). l ++ ys) p.1)

-- A transcript of a run, with what it reads and writes.
pub record Transcript {R M : Type 0} (turns : R → M → R → Type 0) (brings : M → List ℕ) (says : R → List ℕ) (first : R) (messages : List M) (last : R)
    (written : List ℕ) : Type 0 where
  pub transcript : List Exchange
  pub transcribed : Transcribes turns brings says first messages last written transcript
  pub reads : all_read transcript ≡ flat_map brings messages
  pub writes : all_wrote transcript ≡ written

finished : {R M : Type 0} (turns : R → M → R → Type 0) (brings : M → List ℕ) (says : R → List ℕ) (first : R) (messages : List M) (last : R) (written : List ℕ)
    (steps : List (M × Exchange)) → map (λ s. s.0) steps ≡ messages
    → FoldsTo (IsExchange turns brings says written) (record { run = first; wrote = [] }) steps (record { run = last; wrote = written })
    → Transcript turns brings says first messages last written
finished turns brings says first messages last written steps is goes = record {
  transcript = map (λ s. s.1) steps;
  transcribed = record { steps = steps; of_messages = is; of_steps = refl; goes = goes };
  reads = reads_all turns brings says written steps _ _ goes ∙ ap (flat_map brings) is;
  writes = sym (wrote_all turns brings says written steps _ _ goes);
}

-- the bytes that are sent, of a transcript that is there
abbrev saying : {R M : Type 0} (turns : R → M → R → Type 0) (brings : M → List ℕ) (says : R → List ℕ) (first : R) (messages : List M) (last : R)
    (written : List ℕ) (transcript : List Exchange) → Transcribes turns brings says first messages last written transcript
    → Transcript turns brings says first messages last written
saying turns brings says first messages last written transcript t = record {
  transcript = transcript;
  transcribed = t;
  reads = ap all_read (sym t.of_steps) ∙ reads_all turns brings says written t.steps _ _ t.goes ∙ ap (flat_map brings) t.of_messages;
  writes = ap all_wrote (sym t.of_steps) ∙ sym (wrote_all turns brings says written t.steps _ _ t.goes);
}

-- THE SERVER'S
server_grows : (p q : term_run.Run) (m : Option (Message × term_mark.ServerMark)) → Unit {0} → of_server.OpensOrTurns p m q → Unit {0}
    × IsPrefixOf (of_server.says p) (of_server.says q)
server_grows p q None g t = (tt, ([], append-nil (of_server.says p) ∙ ap of_server.says (sym t)))
server_grows p q (Some (m, k)) g t =
    let said = server_says.items_said p.history in
    let grown = server_turns (λ h. IsPrefixOf (server_says.items_said p.history) (server_says.items_said h)) (server.items q.history) (record {
      comes = λ h x first at. one_more said (server_says.items_said h) (server_says.replies h (server.got x)) at;
      takes = λ h at. one_more said (server_says.items_said h) (server_says.replies h server.took) at;
      writes = λ h bytes at. one_more said (server_says.items_said h) (server_says.replies h (server.wrote bytes)) at;
      pulls = λ h n at. one_more said (server_says.items_said h) (server_says.replies h (server.pulled n)) at;
      echoes = λ h on at. one_more said (server_says.items_said h) (server_says.replies h (server.echo_set on)) at;
    }) p q m k t (prefix_self (server.items q.history)) (prefix_self said) in
    (tt, spells_grow said (server_says.items_said q.history) grown)

lifts : (ms : List (Message × term_mark.ServerMark)) (p q : term_run.Run) → term.Runs p ms q → FoldsTo of_server.OpensOrTurns p (map (λ m. Some m) ms) q
lifts [] p q r = r
lifts (m ∷ ms) p q r = (r.0, r.1, lifts ms r.0 q r.2)

brings_heard : (ms : List (Message × term_mark.ServerMark)) → flat_map of_server.brings (map (λ m. Some m) ms) ≡ heard (map (λ m. m.0) ms)
brings_heard [] = refl
brings_heard (m ∷ ms) = ap (λ (l : List ℕ). bytes_in m.0 ++ l) (brings_heard ms)

abbrev pub ServerTranscript : term_run.Run → List (Message × term_mark.ServerMark) → term_run.Run → List ℕ → Type 0
ServerTranscript first marked last written = Transcript of_server.OpensOrTurns of_server.brings of_server.says first
    (None ∷ map (λ m. Some m) marked) last written

pub server_transcript : (first : term_run.Run) (marked : List (Message × term_mark.ServerMark)) (last : term_run.Run) (written unwritten : List ℕ)
    → term.Runs first marked last → of_server.says last ≡ written ++ unwritten → ServerTranscript first marked last written
server_transcript first marked last written unwritten r said =
    let P = of_server.OpensOrTurns in
    let ms = map (λ (m : Message × term_mark.ServerMark). Some m) marked in
    let lifted = lifts marked first last r in
    let all = all_grow P of_server.brings of_server.says (λ c. Unit {0}) server_grows ms first last tt lifted in
    let next = on_to (of_server.says first) (of_server.says first) (of_server.says last) written [] (prefix_self (of_server.says first)) all
    (unwritten, sym said) (record { said = (of_server.says first, refl); written = (written, refl) }) in
    let later = transcribes_on P of_server.brings of_server.says (λ c. Unit {0}) server_grows ms first last written next.0 tt lifted
    (unwritten, sym said) next.1 in
    finished P of_server.brings of_server.says first (None ∷ ms) last written ((None, record { read = []; wrote = next.0 }) ∷ later.0)
    (ap (λ (l : List (Option (Message × term_mark.ServerMark))). None ∷ l) later.1) (
      record { run = first; wrote = next.0 },
      record { turn = refl; read = refl; wrote = refl; said = next.1.is.said; whole = next.1.whole },
      later.2,
    )

-- a transcript of the server that is there
abbrev pub server_said : (first : term_run.Run) (marked : List (Message × term_mark.ServerMark)) (last : term_run.Run) (written : List ℕ)
    (transcript : List Exchange)
    → Transcribes of_server.OpensOrTurns of_server.brings of_server.says first (None ∷ map (λ m. Some m) marked) last written transcript
    → ServerTranscript first marked last written
server_said first marked last written transcript t = saying of_server.OpensOrTurns of_server.brings of_server.says first
    (None ∷ map (λ m. Some m) marked) last written transcript t

pub server_reads : (first : term_run.Run) (marked : List (Message × term_mark.ServerMark)) (last : term_run.Run) (written : List ℕ)
    (t : ServerTranscript first marked last written) → all_read t.transcript ≡ heard (map (λ m. m.0) marked)
server_reads first marked last written t = t.reads ∙ brings_heard marked

-- THE CLIENT'S
abbrev IsLatest : core_run.Run → Type 0
IsLatest c = c.progress.closed ≡ false → c.sent ≡ c.history

client_grows : (p q : core_run.Run) (m : Told × core_mark.ClientMark) → IsLatest p → core.Turns p m q → IsLatest q ×
    IsPrefixOf (of_client.says p) (of_client.says q)
client_grows p q (x, k) g t =
    let said = client_says.items_said p.sent in
    let grown = client_turns (λ h. IsPrefixOf (client_says.items_said p.sent) (client_says.items_said h)) (client.items q.history) (record {
      types_on = λ h key at. one_more said (client_says.items_said h) (client_says.replies h (client.typed key)) at;
      resizes = λ h width height at. one_more said (client_says.items_said h) (client_says.replies h (client.resized width height)) at;
      enters = λ h at. one_more said (client_says.items_said h) (client_says.replies h client.entered) at;
      sends = λ h command at. one_more said (client_says.items_said h) (client_says.replies h (client.sent command)) at;
      comes = λ h y first at. one_more said (client_says.items_said h) (client_says.replies h (client.got y)) at;
    }) p q x k t (prefix_self (client.items q.history)) (record { latest = g; tied = prefix_self said }) in
    (grown.latest, spells_grow said (client_says.items_said q.sent) grown.tied)

brings_brought : (ms : List (Told × core_mark.ClientMark)) → flat_map of_client.brings ms ≡ brought origin.Net (map (λ m. m.0) ms)
brings_brought [] = refl
brings_brought (m ∷ ms) = ap (λ (l : List ℕ). of_client.brings m ++ l) (brings_brought ms)

abbrev pub ClientTranscript : core_run.Run → List (Told × core_mark.ClientMark) → core_run.Run → List ℕ → Type 0
ClientTranscript first marked last written = Transcript core.Turns of_client.brings of_client.says first marked last written

pub client_transcript : (width height limit : ℕ) (marked : List (Told × core_mark.ClientMark)) (last : core_run.Run) (written unwritten : List ℕ)
    → core.Runs (core_run.start width height limit) marked last → of_client.says last ≡ written ++ unwritten
    → ClientTranscript (core_run.start width height limit) marked last written
client_transcript width height limit marked last written unwritten r said =
    let first = core_run.start width height limit in
    let later = transcribes_on core.Turns of_client.brings of_client.says IsLatest client_grows marked first last written [] (λ o. refl) r (unwritten, sym said)
    (record { is = record { said = ([], refl); written = (written, refl) }; whole = inl refl }) in
    finished core.Turns of_client.brings of_client.says first marked last written later.0 later.1 later.2

-- a transcript of the client that is there
abbrev pub client_said : (width height limit : ℕ) (marked : List (Told × core_mark.ClientMark)) (last : core_run.Run) (written : List ℕ)
    (transcript : List Exchange)
    → Transcribes core.Turns of_client.brings of_client.says (core_run.start width height limit) marked last written transcript
    → ClientTranscript (core_run.start width height limit) marked last written
client_said width height limit marked last written transcript t =
    saying core.Turns of_client.brings of_client.says (core_run.start width height limit) marked last written transcript t

pub client_reads : (first : core_run.Run) (marked : List (Told × core_mark.ClientMark)) (last : core_run.Run) (written : List ℕ)
    (t : ClientTranscript first marked last written) → all_read t.transcript ≡ brought origin.Net (map (λ m. m.0) marked)
client_reads first marked last written t = t.reads ∙ brings_brought marked

-- the bytes that were read, of those that a reader gives
pub as_read : (given : Option (List ℕ)) (bytes all : List ℕ) → all ≡ bytes → ReadsPrefix given bytes → ReadsPrefix given all
as_read given bytes all e r = subst (λ (l : List ℕ). ReadsPrefix given l) (sym e) r

-- FROM THE STEPS OF A RUN
-- with what was written in each, and before the first
abbrev server_step_of : (Message × term_mark.ServerMark) × List ℕ → Option (Message × term_mark.ServerMark) × Exchange
server_step_of s = (Some s.0, record { read = bytes_in s.0.0; wrote = s.1 })

abbrev client_step_of : (Told × core_mark.ClientMark) × List ℕ → (Told × core_mark.ClientMark) × Exchange
client_step_of s = (s.0, record { read = of_client.brings s.0; wrote = s.1 })

pub server_stepped : (begin last : term_run.Run) (steps : List ((Message × term_mark.ServerMark) × List ℕ)) (front : List ℕ)
    → FoldsTo (IsStep term.Turns terms.says terms.is_over terms.is_marked_whole) begin steps last
    → IsUpTo term.Turns terms.says terms.is_over terms.is_marked_whole begin front
    → Transcribes of_server.OpensOrTurns of_server.brings of_server.says begin (None ∷ map (λ m. Some m) (map (λ s. s.0) steps)) last (front ++ total steps)
    (record { read = []; wrote = front } ∷ map (λ s. record { read = bytes_in s.0.0; wrote = s.1 }) steps)
server_stepped begin last steps front goes up =
    let some : Message × term_mark.ServerMark → Option (Message × term_mark.ServerMark) = λ m. Some m in
    record {
      steps = (None, record { read = []; wrote = front }) ∷ map server_step_of steps;
      of_messages = ap (λ (l : List (Option (Message × term_mark.ServerMark))). None ∷ l) (firsts steps);
      of_steps = ap (λ (l : List Exchange). record { read = []; wrote = front } ∷ l) (seconds steps);
      goes = (
        record { run = begin; wrote = front },
        record {
          turn = refl;
          read = refl;
          wrote = refl;
          said = up.0;
          whole = whole_by term.Turns terms.says terms.is_over terms.is_marked_whole steps begin last (front ++ total steps) front goes refl up.1;
        },
        exchanged term.Turns terms.says terms.is_over terms.is_marked_whole some of_server.OpensOrTurns (λ p q m t. t) of_server.brings steps begin last
            (front ++ total steps) front goes up refl,
      );
    }
  where
    firsts : (ss : List ((Message × term_mark.ServerMark) × List ℕ)) → map (λ s. s.0) (map server_step_of ss) ≡ map (λ m. Some m) (map (λ s. s.0) ss)
    firsts [] = refl
    firsts (s ∷ ss) = ap (λ (l : List (Option (Message × term_mark.ServerMark))). Some s.0 ∷ l) (firsts ss)

    seconds : (ss : List ((Message × term_mark.ServerMark) × List ℕ)) →
        map (λ s. s.1) (map server_step_of ss) ≡ map (λ s. record { read = bytes_in s.0.0; wrote = s.1 }) ss
    seconds [] = refl
    seconds (s ∷ ss) = ap (λ (l : List Exchange). record { read = bytes_in s.0.0; wrote = s.1 } ∷ l) (seconds ss)

-- a client sends nothing at first
pub client_stepped : (begin last : core_run.Run) (steps : List ((Told × core_mark.ClientMark) × List ℕ))
    → FoldsTo (IsStep core.Turns cores.says cores.is_over cores.is_marked_written) begin steps last → cores.says begin ≡ []
    → Transcribes core.Turns of_client.brings of_client.says begin (map (λ s. s.0) steps) last (total steps)
    (map (λ s. record { read = of_client.brings s.0; wrote = s.1 }) steps)
client_stepped begin last steps goes silent = record {
  steps = map client_step_of steps;
  of_messages = firsts steps;
  of_steps = seconds steps;
  goes = exchanged core.Turns cores.says cores.is_over cores.is_marked_written (λ (m : Told × core_mark.ClientMark). m) core.Turns
      (λ p q m t. t) of_client.brings steps begin last (total steps) [] goes ((cores.says begin, refl), inl (sym silent)) refl;
}
  where
    firsts : (ss : List ((Told × core_mark.ClientMark) × List ℕ)) → map (λ s. s.0) (map client_step_of ss) ≡ map (λ s. s.0) ss
    firsts [] = refl
    firsts (s ∷ ss) = ap (λ (l : List (Told × core_mark.ClientMark)). s.0 ∷ l) (firsts ss)

    seconds : (ss : List ((Told × core_mark.ClientMark) × List ℕ)) → map (λ s. s.1) (map client_step_of ss)
        ≡ map (λ s. record { read = of_client.brings s.0; wrote = s.1 }) ss
    seconds [] = refl
    seconds (s ∷ ss) = ap (λ (l : List Exchange). record { read = of_client.brings s.0; wrote = s.1 } ∷ l) (seconds ss)

-- EACH TRANSCRIPT CAN BE NOTED
abbrev noted_from : Note → List Note → Noted
noted_from n [] = record { done = []; last = n }
noted_from n (m ∷ ms) = let later = noted_from m ms in record { done = n ∷ later.done; last = later.last }

all_noted : (n : Note) (ns : List Note) → notes (noted_from n ns) ≡ n ∷ ns
all_noted n [] = refl
all_noted n (m ∷ ms) = ap (λ (l : List Note). n ∷ l) (all_noted m ms)

each_read : {R M : Type 0} (turns : R → M → R → Type 0) (brings : M → List ℕ) (says : R → List ℕ) (written : List ℕ) (steps : List (M × Exchange))
    (p q : Point R) → FoldsTo (IsExchange turns brings says written) p steps q → map (λ s. s.1.read) steps ≡ map (λ s. brings s.0) steps
each_read turns brings says written [] p q goes = refl
each_read turns brings says written (s ∷ ss) p q goes = λ i. goes.1.read i ∷ each_read turns brings says written ss goes.0 q goes.2 i

parts : {A : Type 0} (a b : A) (us vs : List A) → a ∷ us ≡ b ∷ vs → (a ≡ b) × (us ≡ vs)
parts a b us vs e = (cc, cc)

none_some : {A : Type 0} {x : A} {xs : List A} → [] ≡ x ∷ xs → ⊥
none_some e = cc

some_none : {A : Type 0} {x : A} {xs : List A} → x ∷ xs ≡ [] → ⊥
some_none e = cc

noted_steps : (brought_by : Mail → List ℕ) (exchanges : List Exchange) (mails : List Mail) → map (λ x. x.read) exchanges ≡ map brought_by mails
    → (ns : List Note) × (exchanges ≡ map (exchange_of brought_by) ns) × (map (λ n. n.took) ns ≡ map (λ x. Some x) mails)
noted_steps brought_by [] [] e = ([], refl, refl)
noted_steps brought_by [] (m ∷ ms) e = absurd (none_some e)
noted_steps brought_by (x ∷ xs) [] e = absurd (some_none e)
noted_steps brought_by (x ∷ xs) (m ∷ ms) e =
    let p = parts x.read (brought_by m) (map (λ (y : Exchange). y.read) xs) (map brought_by ms) e in
    let later = noted_steps brought_by xs ms p.1 in
    let first : x ≡ record { read = brought_by m; wrote = x.wrote } = λ i. record { read = p.0 i; wrote = x.wrote } in
    (record { took = Some m; wrote = x.wrote } ∷ later.0, λ i. first i ∷ later.1 i, ap (λ (l : List (Option Mail)). Some m ∷ l) later.2)

reads_of : {R M : Type 0} (turns : R → M → R → Type 0) (brings : M → List ℕ) (says : R → List ℕ) (first : R) (messages : List M) (last : R) (written : List ℕ)
    (transcript : List Exchange) → Transcribes turns brings says first messages last written transcript → map (λ x. x.read) transcript ≡ map brings messages
reads_of {R} {M} turns brings says first messages last written transcript t =
    ap (map (λ (x : Exchange). x.read)) (sym t.of_steps) ∙ reads t.steps ∙ each_read turns brings says written t.steps _ _ t.goes ∙ brought_in t.steps
    ∙ ap (map brings) t.of_messages
  where
    reads : (ss : List (M × Exchange)) → map (λ x. x.read) (map (λ s. s.1) ss) ≡ map (λ s. s.1.read) ss
    reads [] = refl
    reads (s ∷ ss) = ap (λ (l : List (List ℕ)). s.1.read ∷ l) (reads ss)

    brought_in : (ss : List (M × Exchange)) → map (λ s. brings s.0) ss ≡ map brings (map (λ s. s.0) ss)
    brought_in [] = refl
    brought_in (s ∷ ss) = ap (λ (l : List (List ℕ)). brings s.0 ∷ l) (brought_in ss)

pub server_noted : (first : term_run.Run) (marked : List (Message × term_mark.ServerMark)) (last : term_run.Run) (written : List ℕ) (handled : List Mail)
    (t : ServerTranscript first marked last written) → map (λ m. m.0) marked ≡ messages_of handled → (noted : Noted)
    × of_server.IsNoted first marked last written handled noted t.transcript
server_noted first marked last written handled t messages =
    go t.transcript t.transcribed (reads_of of_server.OpensOrTurns of_server.brings of_server.says first
    (None ∷ map (λ (m : Message × term_mark.ServerMark). Some m) marked) last written t.transcript t.transcribed)
  where
    some_brought : (ms : List (Message × term_mark.ServerMark)) (xs : List Mail) → map (λ m. m.0) ms ≡ messages_of xs
        → map of_server.brings (map (λ m. Some m) ms) ≡ map of_server.brought_by xs
    some_brought [] [] e = refl
    some_brought [] (x ∷ xs) e = absurd (none_some e)
    some_brought (m ∷ ms) [] e = absurd (some_none e)
    some_brought (m ∷ ms) (x ∷ xs) e =
        let p = parts m.0 x.message (map (λ (k : Message × term_mark.ServerMark). k.0) ms) (messages_of xs) e in
        λ i. bytes_in (p.0 i) ∷ some_brought ms xs p.1 i

    go : (transcript : List Exchange) → Transcribes of_server.OpensOrTurns of_server.brings of_server.says first
        (None ∷ map (λ m. Some m) marked) last written transcript → map (λ x. x.read) transcript ≡ [] ∷ map of_server.brings (map (λ m. Some m) marked)
        → (noted : Noted) × of_server.IsNoted first marked last written handled noted transcript
    go [] transcribed read = absurd (none_some read)
    go (x ∷ xs) transcribed read =
        let p = parts x.read [] (map (λ (y : Exchange). y.read) xs) (map of_server.brings (map (λ (m : Message × term_mark.ServerMark). Some m) marked)) read in
        let later = noted_steps of_server.brought_by xs handled (p.1 ∙ some_brought marked handled messages) in
        let opening : Note = record { took = None; wrote = x.wrote } in
        let all = all_noted opening later.0 in
        let same : x ≡ record { read = []; wrote = x.wrote } = λ i. record { read = p.0 i; wrote = x.wrote } in (
          noted_from opening later.0,
          record {
            as_noted = (λ i. same i ∷ later.1 i) ∙ ap (map (exchange_of of_server.brought_by)) (sym all);
            took = ap (map (λ (n : Note). n.took)) all ∙ ap (λ (l : List (Option Mail)). None ∷ l) later.2;
            transcribed = transcribed;
          },
        )

pub client_noted : (width height limit : ℕ) (marked : List (Told × core_mark.ClientMark)) (last : core_run.Run) (written : List ℕ) (handled : List Mail)
    (t : ClientTranscript (core_run.start width height limit) marked last written) → map (λ m. m.0) marked ≡ all_told handled → (noted : Noted)
    × (steps : List Note) × (notes noted ≡ notes no_notes ++ steps) × (map (λ n. n.took) steps ≡ map (λ x. Some x) handled)
    × (t.transcript ≡ map (exchange_of of_client.brought_by) steps)
client_noted width height limit marked last written handled t messages =
    let read = reads_of core.Turns of_client.brings of_client.says (core_run.start width height limit) marked last written t.transcript t.transcribed in
    let steps = noted_steps of_client.brought_by t.transcript handled (read ∙ all_brought marked handled messages) in
    (noted_from no_notes.last steps.0, steps.0, all_noted no_notes.last steps.0, steps.2, steps.1)
  where
    all_brought : (ms : List (Told × core_mark.ClientMark)) (xs : List Mail) → map (λ m. m.0) ms ≡ all_told xs → map of_client.brings ms
        ≡ map of_client.brought_by xs
    all_brought [] [] e = refl
    all_brought [] (x ∷ xs) e = absurd (none_some e)
    all_brought (m ∷ ms) [] e = absurd (some_none e)
    all_brought (m ∷ ms) (x ∷ xs) e =
        let p = parts m.0 (told_of x) (map (λ (k : Told × core_mark.ClientMark). k.0) ms) (all_told xs) e in
        λ i. brought_from origin.Net (p.0 i).from (p.0 i).message ∷ all_brought ms xs p.1 i
