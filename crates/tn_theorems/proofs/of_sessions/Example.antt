-- Two sessions whose transcripts a socket carries: a line is typed, read and taken, and both hang up.
use Rattle.std.proofs.Common.{◌≡◌, ℕ, zero, suc, inl, true, false, Option, Some, None, List, [], ◌∷◌, ◌++◌, refl, sym, ap, ◌∙◌, subst, map, append-nil}
use Rattle.std.proofs.{Common.{append_assoc, arith, lit<}, lemmas.List.Elements.{All-nil, All-cons}}
use Rattle.tn_client.specs.Screen.{text_shown}
use Rattle.tn_cores.proofs.lemmas.client.Bringing.{in_order}
use Rattle.tn_cores.specs.{client.Bringing.{Input, key_typed}, declared.{client.messages.{Origin.Origin, Told.Told}, faults.SessionFault.SessionFault}}
use Rattle.tn_cores.specs.{declared.messages.Message.{Message, TheVariants.{Piece, HangUp, Take, Said, Left}}, queue.Queue.{putter, taker}}
use Rattle.tn_cores.specs.streams.{Beside.no_words, Known.{KnownReader, KnownTyping, KnownWriting}}
use Rattle.tn_cores.specs.client.Counting as client_counting
use Rattle.tn_cores.specs.client.Marks as core
use Rattle.tn_cores.specs.client.Run as core_run
use Rattle.tn_cores.specs.declared.client.messages.ClientMark as core_mark
use Rattle.tn_cores.specs.declared.client.messages.ClientMark.TheVariants as core_is
use Rattle.tn_cores.specs.declared.client.messages.Origin.TheVariants as origin
use Rattle.tn_discipline.specs.declared.reads.Entry.{Entry, TheVariants.Text}
use Rattle.tn_jobs.specs.{Jobs.{Jobs, state_at}, declared.{held_jobs.JobId.JobId, reactions.Reaction.Reaction, verdicts.After.TheVariants.Stay}}
use Rattle.tn_jobs.specs.declared.verdicts.JobState.TheVariants.{Foreground}
use Rattle.tn_theorems.specs.sessions.Example as example
use Rattle.tn_theorems.specs.sessions.{Returned.{Served, Connected}, Theorem.HasKey, Transcripts.{Step, served, told, server_steps, client_steps, IsCarried}}
use Rattle.tn_cores.specs.declared.faults.Ended.TheVariants as ended
use Rattle.tn_nvt.specs.{Stream.{spelled, IsPartial}, declared.items.Item.{Item, TheVariants.Byte}, Prefixes.IsPrefixOf}
use Rattle.tn_option.specs.{Options.{state_of, options_after_wish, new_options}, QMethod.cell}
use Rattle.tn_server.specs.declared.{openings.{Approach.Approach, Opening.TheVariants.Keys}, wishes.Editing.Editing}
use Rattle.tn_session.proofs.lemmas.Sessions.{ServerTranscript, ClientTranscript, server_transcript, server_reads, server_noted, client_transcript}
use Rattle.tn_session.proofs.lemmas.Sessions.{client_reads, client_noted}
use Rattle.tn_session.specs.{Notes.{Note, Noted, no_notes, notes}, Transcripts.{exchange_of, Exchange, all_read, all_wrote}, CoreTurns.all_told}
use Rattle.tn_session.specs.{Stops.{IsTold, LeavesAt, core_stops, term_stops}, Turns.messages_of, Client.RunningClient, declared.workers.stops.Stop.Stop}
use Rattle.tn_session.specs.{Facts.{SessionJobs, SessionResult, TermSettings, ClientResult, Window}, Session.{Schedule, RunningSession, report_of}}
use Rattle.tn_session.specs.workers.{Mailbox.{from, four, mail, nobody, sender}, Reader.ReaderSends, Reading.{IsPiece, piece_told}}
use Rattle.tn_session.specs.declared.workers.mail.{Mail.Mail, Sender.Sender}
use Rattle.tn_session.specs.Client as of_client
use Rattle.tn_session.specs.Session as of_server
use Rattle.tn_session.specs.declared.workers.mail.Sender.TheVariants as who
use Rattle.tn_cores.specs.server.Marks as term
use Rattle.tn_cores.specs.server.Run as term_run
use Rattle.tn_cores.specs.declared.server.messages.ServerMark as term_mark
use Rattle.tn_cores.specs.declared.server.messages.ServerMark.TheVariants as term_is
use Rattle.tn_linemode.specs.Prefixes.{IsRead}

-- the bytes that the server's terminal reads
abbrev bytes : List ℕ
bytes = 97 ∷ 13 ∷ 0 ∷ []

abbrev items : List Item
items = Byte 97 ∷ Byte 13 ∷ []

nothing_is_partial : IsPartial []
nothing_is_partial = record { segment = spelled (Byte 97); more = 97 ∷ []; is_segment = tt; proper = lit< tt; begins = refl }

is_read : IsRead bytes items
is_read = (
  [],
  record {
    segments = spelled (Byte 97) ∷ spelled (Byte 13) ∷ [];
    splits = (13 ∷ 0 ∷ [], tt, refl, ([], tt, refl, refl));
    partial = nothing_is_partial;
    read = refl;
  },
)

-- IF ALL THAT ONE WROTE IS ALL THAT THE OTHER READ, AND NOTHING WENT THE OTHER WAY
abbrev clients_first : List Exchange → List Exchange → List Step
clients_first [] ss = map served ss
clients_first (x ∷ cs) ss = told x ∷ clients_first cs ss

servers_of : (cs ss : List Exchange) → server_steps (clients_first cs ss) ≡ ss
servers_of [] [] = refl
servers_of [] (x ∷ ss) = ap (λ (l : List Exchange). x ∷ l) (servers_of [] ss)
servers_of (c ∷ cs) ss = servers_of cs ss

clients_of : (cs ss : List Exchange) → client_steps (clients_first cs ss) ≡ cs
clients_of [] [] = refl
clients_of [] (x ∷ ss) = clients_of [] ss
clients_of (c ∷ cs) ss = ap (λ (l : List Exchange). c ∷ l) (clients_of cs ss)

tails : (x y : Step) (xs ys : List Step) → x ∷ xs ≡ y ∷ ys → (x ≡ y) × (xs ≡ ys)
tails x y xs ys e = (cc, cc)

nothing_first : (xs ys : List ℕ) → xs ++ ys ≡ [] → xs ≡ []
nothing_first [] ys e = refl
nothing_first (x ∷ xs) ys e = cc

-- the front of an order of the server's steps has none of the client
read_first : (ss : List Exchange) (done later : List Step) → map served ss ≡ done ++ later → (client_steps done ≡ [])
    × IsPrefixOf (all_read (server_steps done)) (all_read ss)
read_first ss [] later e = (refl, (all_read ss, refl))
read_first [] (d ∷ done) later e = cc
read_first (x ∷ ss) (d ∷ done) later e =
    let h = tails (served x) d (map served ss) (done ++ later) e in
    let r = read_first ss done later h.1 in
    let P : Step → Type 0 = λ s. (client_steps (s ∷ done) ≡ []) × IsPrefixOf (all_read (server_steps (s ∷ done))) (x.read ++ all_read ss) in
    subst P h.0 (r.0, (r.1.0, append_assoc x.read (all_read (server_steps done)) r.1.0 ∙ ap (λ (l : List ℕ). x.read ++ l) r.1.1))

-- the steps before: this much was written by the client
timely : (cs ss : List Exchange) (wrote : List ℕ) → all_read ss ≡ wrote ++ all_wrote cs → all_read cs ≡ [] → (done later : List Step)
    → clients_first cs ss ≡ done ++ later
    → IsPrefixOf (all_read (server_steps done)) (wrote ++ all_wrote (client_steps done)) × (all_read (client_steps done) ≡ [])
timely cs ss wrote e none [] later is = ((wrote ++ [], refl), refl)
timely [] ss wrote e none (d ∷ done) later is =
    let r = read_first ss (d ∷ done) later is in
    let same : wrote ++ all_wrote (client_steps (d ∷ done)) ≡ all_read ss = ap (λ (l : List Exchange). wrote ++ all_wrote l) r.0 ∙ sym e in
    (subst (λ (l : List ℕ). IsPrefixOf (all_read (server_steps (d ∷ done))) l) (sym same) r.1, ap all_read r.0)
timely (c ∷ cs) ss wrote e none (d ∷ done) later is =
    let h = tails (told c) d (clients_first cs ss) (done ++ later) is in
    let first = nothing_first c.read (all_read cs) none in
    let rest : all_read cs ≡ [] = ap (λ (l : List ℕ). l ++ all_read cs) (sym first) ∙ none in
    let r = timely cs ss (wrote ++ c.wrote) (e ∙ sym (append_assoc wrote c.wrote (all_wrote cs))) rest done later h.1 in
    let P : Step → Type 0 = λ s. IsPrefixOf (all_read (server_steps (s ∷ done))) (wrote ++ all_wrote (client_steps (s ∷ done)))
    × (all_read (client_steps (s ∷ done)) ≡ []) in
    subst P h.0 (
      subst (λ (l : List ℕ). IsPrefixOf (all_read (server_steps done)) l) (append_assoc wrote c.wrote (all_wrote (client_steps done))) r.0,
      ap (λ (l : List ℕ). l ++ all_read (client_steps done)) first ∙ r.1,
    )

one_way : (ss cs : List Exchange) → all_read ss ≡ all_wrote cs → all_read cs ≡ [] → IsCarried ss cs
one_way ss cs e none = record {
  order = clients_first cs ss;
  of_server = servers_of cs ss;
  of_client = clients_of cs ss;
  in_time = λ done later is.
      let t = timely cs ss [] e none done later is in
      record {
        to_server = t.0;
        to_client = subst (λ (l : List ℕ). IsPrefixOf l (all_wrote (server_steps done))) (sym t.1)
            (all_wrote (server_steps done), refl);
      };
}

-- THE SERVER'S SESSION
not_known : (xs : List ℕ) → None ≡ Some xs → ⊥
not_known xs e = cc

not_fault : (f : SessionFault) → ended.HangUp ≡ ended.Fault f → ⊥
not_fault f e = cc

abbrev first_job : JobId
first_job = record { 0 = 0 }

abbrev table : Jobs
table = Some Foreground ∷ []

abbrev taken : List (Option Entry)
taken = Some (Text (97 ∷ 10 ∷ [])) ∷ None ∷ []

abbrev calm : Reaction
calm = record { text = []; after = Stay }

abbrev handled : List Mail
handled =
    mail who.Net (Piece bytes) ∷ mail who.Desk Take ∷ mail who.Desk (Said first_job [] Stay) ∷ mail who.Net HangUp ∷ mail who.Desk Take ∷ mail who.Desk Left
    ∷ mail who.Net Left ∷ mail who.Back Left ∷ []

abbrev from_net : List Mail
from_net = mail who.Net (Piece bytes) ∷ mail who.Net HangUp ∷ mail who.Net Left ∷ []

abbrev from_desk : List Mail
from_desk = mail who.Desk Take ∷ mail who.Desk (Said first_job [] Stay) ∷ mail who.Desk Take ∷ mail who.Desk Left ∷ []

abbrev from_back : List Mail
from_back = mail who.Back Left ∷ []

abbrev marked : List (Message × term_mark.ServerMark)
marked =
    (Piece bytes, term_is.Whole) ∷ (Take, term_is.Whole) ∷ (Said first_job [] Stay, term_is.Whole) ∷ (HangUp, term_is.Whole) ∷ (Take, term_is.Whole)
    ∷ (Left, term_is.Whole)
    ∷ (Left, term_is.Whole) ∷ (Left, term_is.Whole) ∷ []

woven : (s : Sender) → from s handled ≡ four from_net from_desk from_back [] s
woven who.Net = refl
woven who.Desk = refl
woven who.Back = refl
woven who.Keys = refl

abbrev a_socket : KnownReader
a_socket = record { bytes = None; failures = None; sizes = None; words = no_words }

abbrev writes_unknown : KnownWriting
writes_unknown = record { before = record { bytes = None; calls = None }; after = record { bytes = None; calls = None } }

abbrev word : Stop
word = record {}

module _ (editing : Editing) where
  abbrev approach : Approach
  approach = record { opening = Keys; editing = editing }

  abbrev settings : TermSettings
  settings = record { canon = example.canon; approach = approach }

  abbrev r0 : term_run.Run
  r0 = term_run.start example.canon approach table

  abbrev r1 : term_run.Run
  r1 = term_run.flush (term_run.feed bytes items r0)

  abbrev r2 : term_run.Run
  r2 = term_run.flush (term_run.ask r1)

  abbrev r3 : term_run.Run
  r3 = term_run.after_said 0 [] (term_run.verdict r2 0 [] Stay) r2

  abbrev r4 : term_run.Run
  r4 = term_run.flush (term_run.hang_up r3)

  abbrev r5 : term_run.Run
  r5 = term_run.flush (term_run.ask r4)

  abbrev r6 : term_run.Run
  r6 = term_run.flush r5

  abbrev r7 : term_run.Run
  r7 = term_run.flush r6

  abbrev r8 : term_run.Run
  r8 = term_run.flush r7

  server_runs : term.Runs r0 marked r8
  unfolding cell state_of options_after_wish new_options
  server_runs = (r1, (items, is_read, refl), (r2, refl, (r3, ([], refl, refl), (r4, refl, (r5, refl, (r6, refl, (r7, refl, (r8, refl, refl))))))))

  is_piece : IsPiece bytes
  is_piece = (lit< tt, omega (arith))

  abbrev server_said : ServerTranscript r0 marked r8 (of_server.says r8)
  server_said = server_transcript r0 marked r8 (of_server.says r8) [] server_runs (sym (append-nil (of_server.says r8)))

  abbrev server_notes : (noted : Noted) × of_server.IsNoted r0 marked r8 (of_server.says r8) handled noted server_said.transcript
  server_notes = server_noted r0 marked r8 (of_server.says r8) handled server_said refl

  abbrev result : SessionResult
  result = record {
    report = report_of r8.progress;
    views = record {
      net = sender who.Net from_net;
      desk = sender who.Desk from_desk;
      back = sender who.Back from_back;
      term = record nobody { handled = Some handled };
      put = putter taken;
      took = taker taken;
      told = putter (word ∷ []);
    };
    noted = server_notes.0;
  }

  read : ReaderSends who.Net (Some first_job) false a_socket result.views.net
  read = (
    piece_told bytes ∷ [],
    None,
    HangUp ∷ Left ∷ [],
    tt,
    inl (HangUp, (tt, tt), [], ([], inl refl, refl), refl),
    refl,
    All-cons IsPiece bytes [] is_piece (All-nil IsPiece),
    (None, refl),
  )

  abbrev jobs : SessionJobs (Unit {0})
  jobs = record { first = first_job; job = tt; queue = []; tostop = false }

  -- the background has no job, and its thread leaves last
  back_left : LeavesAt who.Back messages_of (term.Runs r0) handled marked
  unfolding cell state_of options_after_wish new_options
  back_left = record {
    before =
        mail who.Net (Piece bytes) ∷ mail who.Desk Take ∷ mail who.Desk (Said first_job [] Stay) ∷ mail who.Net HangUp ∷ mail who.Desk Take ∷ mail who.Desk Left
        ∷ mail who.Net Left ∷ [];
    after = [];
    whole = refl;
    here = refl;
    first =
        (Piece bytes, term_is.Whole) ∷ (Take, term_is.Whole) ∷ (Said first_job [] Stay, term_is.Whole) ∷ (HangUp, term_is.Whole) ∷ (Take, term_is.Whole)
        ∷ (Left, term_is.Whole)
        ∷ (Left, term_is.Whole) ∷ [];
    later = (Left, term_is.Whole) ∷ [];
    marks = refl;
    messages = refl;
    by_then = r7;
    leads = (r1, (items, is_read, refl), (r2, refl, (r3, ([], refl, refl), (r4, refl, (r5, refl, (r6, refl, (r7, refl, refl)))))));
  }

  back_stops : term_stops back_left.by_then.progress ≡ true
  unfolding cell state_of options_after_wish new_options back_left
  back_stops = refl

  back_told : IsTold (term_stops back_left.by_then.progress) (putter (word ∷ []))
  unfolding cell state_of options_after_wish new_options back_left
  back_told = (word, refl)

  puts_are : r8.puts ≡ taken
  unfolding cell state_of options_after_wish new_options
  puts_are = refl

  schedule : Schedule example.any_jobs.acts jobs settings table a_socket writes_unknown result
  schedule = record {
    from_net = from_net;
    from_desk = from_desk;
    from_back = from_back;
    handled = handled;
    net_is = refl;
    desk_is = refl;
    back_is = refl;
    term_is = refl;
    woven = woven;
    read = read;
    wrote_opening = true;
    marked = marked;
    messages = refl;
    run = r8;
    runs = server_runs;
    written = of_server.says r8;
    unwritten = [];
    appended = tt;
    sends = sym (append-nil (of_server.says r8));
    all_written = λ e. refl;
    tells = refl;
    put_is = ap putter (sym puts_are);
    taken = taken;
    took_is = refl;
    took_first = ([], append-nil taken ∙ sym puts_are);
    talked = ((Text (97 ∷ 10 ∷ []), calm) ∷ [], tt, tt, refl, (tt, tt, refl), inl (refl, refl));
    stopped = false;
    stepped = ([], Left ∷ [], refl, tt, λ id i. absurd i, λ id i. absurd i, [], refl, refl);
    back_left = back_left;
    told = back_told;
    stopped_for = λ on. back_stops;
    report_is = refl;
  }

  running : RunningSession example.any_jobs None settings a_socket writes_unknown result
  unfolding cell state_of options_after_wish new_options schedule
  running =
      let said = server_said in
      record {
        jobs = table;
        first = first_job;
        job = tt;
        queue = [];
        begun = tt;
        numbered = record { foreground = refl; background = λ id i. absurd i; no_more = no_more };
        all = tt;
        tostop = false;
        by_flag = refl;
        schedule = schedule;
        heard = record { left = None; consumed = tt; all = λ e. tt; read = is_read };
        in_order = ([], refl);
        all_taken = λ e. refl;
        by_bytes = λ given xs known of. absurd (not_known given known);
        entries_taken = Text (97 ∷ 10 ∷ []) ∷ [];
        entries_are = refl;
        transcript = said.transcript;
        was_read = (None, tt);
        came = server_reads r0 marked r8 (of_server.says r8) said;
        was_written = said.writes;
        noted = server_notes.1;
        heard_whole = λ e. sym (server_reads r0 marked r8 (of_server.says r8) said);
        caused = λ f e. absurd (not_fault f e);
        read_failed = λ e. absurd (not_fault _ e);
        write_failed = λ e. absurd (not_fault _ e);
      }
    where
      no_more : (id : ℕ) → (id ≡ 0 → ⊥) → ((⊥) → ⊥) → state_at table id ≡ None
      no_more zero other none = absurd (other refl)
      no_more (suc n) other none = refl

-- THE CLIENT'S
module _ (width height : ℕ) where
  abbrev window : Window
  window = record { width = width; height = height; limit = example.canon.limit }

  abbrev typed : List ℕ
  typed = 97 ∷ 13 ∷ []

  abbrev keys_reader : KnownReader
  keys_reader = record { bytes = Some typed; failures = None; sizes = None; words = no_words }

  abbrev keys_known : KnownTyping
  keys_known = record { reader = keys_reader; controls = Some [] }

  abbrev typed_inputs : List Input
  typed_inputs = key_typed 97 ∷ key_typed 13 ∷ []

  abbrev c0 : core_run.Run
  c0 = core_run.start width height example.canon.limit

  abbrev c1 : core_run.Run
  c1 = core_run.type_keys typed c0

  abbrev c2 : core_run.Run
  c2 = core_run.turns (client_counting.after_message origin.Keys HangUp) c1

  abbrev c3 : core_run.Run
  c3 = core_run.turns (client_counting.after_message origin.Keys Left) c2

  abbrev c4 : core_run.Run
  c4 = core_run.turns (client_counting.after_message origin.Net HangUp) c3

  abbrev c5 : core_run.Run
  c5 = core_run.turns (client_counting.after_message origin.Net Left) c4

  abbrev mails : List Mail
  mails = mail who.Keys (Piece typed) ∷ mail who.Keys HangUp ∷ mail who.Keys Left ∷ mail who.Net HangUp ∷ mail who.Net Left ∷ []

  abbrev from_keys : List Mail
  from_keys = mail who.Keys (Piece typed) ∷ mail who.Keys HangUp ∷ mail who.Keys Left ∷ []

  abbrev hung_up : List Mail
  hung_up = mail who.Net HangUp ∷ mail who.Net Left ∷ []

  abbrev tell : Origin → Message → Told × core_mark.ClientMark
  tell o m = (record { from = o; message = m }, core_is.Whole)

  abbrev told_all : List (Told × core_mark.ClientMark)
  told_all = tell origin.Keys (Piece typed) ∷ tell origin.Keys HangUp ∷ tell origin.Keys Left ∷ tell origin.Net HangUp ∷ tell origin.Net Left ∷ []

  client_runs : core.Runs c0 told_all c5
  client_runs = (c1, refl, (c2, refl, (c3, refl, (c4, refl, (c5, refl, refl)))))

  interleaved : (s : Sender) → from s mails ≡ four hung_up [] [] from_keys s
  interleaved who.Net = refl
  interleaved who.Desk = refl
  interleaved who.Back = refl
  interleaved who.Keys = refl

  short : IsPiece typed
  short = (lit< tt, omega (arith))

  abbrev client_said : ClientTranscript c0 told_all c5 (of_client.says c5)
  client_said = client_transcript width height example.canon.limit told_all c5 (of_client.says c5) [] client_runs (sym (append-nil (of_client.says c5)))

  abbrev client_notes : (noted : Noted) × (steps : List Note) × (notes noted ≡ notes no_notes ++ steps) × (map (λ n. n.took) steps ≡ map (λ x. Some x) mails)
      × (client_said.transcript ≡ map (exchange_of of_client.brought_by) steps)
  client_notes = client_noted width height example.canon.limit told_all c5 (of_client.says c5) mails client_said refl

  abbrev client_result : ClientResult
  client_result = record {
    report = of_client.client_report c5.progress;
    keys = sender who.Keys from_keys;
    net = sender who.Net hung_up;
    core = record nobody { handled = Some mails };
    told = putter [];
    noted = client_notes.0;
  }

  keys_left : LeavesAt who.Keys all_told (core.Runs c0) mails told_all
  keys_left = record {
    before = mail who.Keys (Piece typed) ∷ mail who.Keys HangUp ∷ [];
    after = mail who.Net HangUp ∷ mail who.Net Left ∷ [];
    whole = refl;
    here = refl;
    first = tell origin.Keys (Piece typed) ∷ tell origin.Keys HangUp ∷ [];
    later = tell origin.Keys Left ∷ tell origin.Net HangUp ∷ tell origin.Net Left ∷ [];
    marks = refl;
    messages = refl;
    by_then = c2;
    leads = (c1, refl, (c2, refl, refl));
  }

  not_stopped : false ≡ true → ⊥
  not_stopped e = cc

  keys_sent : ReaderSends who.Keys None false keys_reader client_result.keys
  keys_sent = (
    piece_told typed ∷ [],
    Some [],
    HangUp ∷ Left ∷ [],
    refl,
    inl (HangUp, (refl, tt), [], refl, refl),
    refl,
    All-cons IsPiece typed [] short (All-nil IsPiece),
    (None, refl),
  )

  net_sent : ReaderSends who.Net None false a_socket client_result.net
  net_sent = ([], None, HangUp ∷ Left ∷ [], tt, inl (HangUp, (tt, tt), [], refl, refl), refl, All-nil IsPiece, (None, refl))

  keys_told : IsTold (core_stops keys_left.by_then.progress) (putter [])
  unfolding keys_left
  keys_told = refl

  conversing : RunningClient window keys_known a_socket writes_unknown writes_unknown client_result
  unfolding keys_sent
  conversing =
      let said = client_said in
      record {
        from_keys = from_keys;
        from_net = hung_up;
        handled = mails;
        keys_is = refl;
        net_is = refl;
        core_is = refl;
        woven = interleaved;
        stopped = false;
        typed = keys_sent;
        read = net_sent;
        stopped_for = λ on. absurd (not_stopped on);
        marked = told_all;
        messages = refl;
        run = c5;
        runs = client_runs;
        keys_left = keys_left;
        told = keys_told;
        in_order = in_order width height example.canon.limit told_all c5 client_runs;
        written = of_client.says c5;
        unwritten = [];
        appended = tt;
        tells = refl;
        sends = sym (append-nil (of_client.says c5));
        all_sent = λ e. refl;
        sent_whole = λ on. refl;
        transcript = said.transcript;
        was_read = (None, tt);
        came = client_reads c0 told_all c5 (of_client.says c5) said;
        was_written = said.writes;
        steps = client_notes.1;
        noted = client_notes.2;
        took = client_notes.3;
        as_noted = client_notes.4;
        transcribed = said.transcribed;
        keys_read = typed;
        keys_were_read = (Some [], refl);
        keys_are = refl;
        inputs = typed_inputs;
        inputs_are = refl;
        keys_among = refl;
        asked_among = refl;
        were_asked = (Some [], ([], refl, refl));
        shown = text_shown c5.history;
        unshown = [];
        displayed = tt;
        tells_shown = refl;
        shows = sym (append-nil (text_shown c5.history));
        all_shown = λ e. refl;
        report_is = refl;
        caused = λ f e. absurd (not_fault f e);
        read_failed = λ e. absurd (not_fault _ e);
        write_failed = λ e. absurd (not_fault _ e);
      }

  client_says : of_client.says c5 ≡ bytes
  client_says = refl

-- BOTH
pub sessions_carry : (editing : Editing) → example.SessionsCarryALine (record { opening = Keys; editing = editing })
unfolding cell state_of options_after_wish new_options running conversing
sessions_carry editing =
    let r = r8 editing in
    let c = c5 80 24 in
    let s_said = server_said editing in
    let c_said = client_said 80 24 in
    let s_reads : all_read s_said.transcript ≡ bytes = server_reads (r0 editing) marked r (of_server.says r) s_said in
    let c_reads : all_read c_said.transcript ≡ [] = client_reads (c0 80 24) (told_all 80 24) c (of_client.says c) c_said in
    let whole : all_read s_said.transcript ≡ all_wrote c_said.transcript = s_reads ∙ sym (c_said.writes ∙ client_says 80 24) in
    let s : Served example.any_jobs example.canon = record {
      approach = approach editing;
      to_make = None;
      reader = a_socket;
      writer = writes_unknown;
      result = result editing;
      ran = running editing;
    } in
    let c : Connected example.canon.limit = record {
      width = 80;
      height = 24;
      keys = keys_known 80 24;
      reader = a_socket;
      writer = writes_unknown;
      screen = writes_unknown;
      result = client_result 80 24;
      ran = conversing 80 24;
    } in
    record {
      server = s;
      client = c;
      approached = refl;
      with_keys = All-cons (λ input. HasKey example.canon.settings input) (key_typed 97) (key_typed 13 ∷ []) tt
          (All-cons (λ input. HasKey example.canon.settings input) (key_typed 13) [] tt (All-nil (λ input. HasKey example.canon.settings input)));
      carried = one_way s_said.transcript c_said.transcript whole c_reads;
      ran = record { server = refl; client = refl; whole = whole };
      typed_keys = refl;
      taken = refl;
    }
