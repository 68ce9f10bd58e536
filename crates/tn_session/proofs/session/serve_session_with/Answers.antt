use Rattle.std.proofs.{Common.{◌≡◌, refl, sym, ap, ◌∙◌}, lemmas.Result.IfOk-weaker}
use Rattle.tn_discipline.specs.Canon.{Canon}
use Rattle.tn_cores.proofs.lemmas.server.Giving.{puts_are_front, taken_are_front}
use Rattle.tn_cores.specs.{server.{Giving.entries_put, Marks.run_after_opening, Run.start}, declared.faults.Ended.TheVariants.{HangUp, Fault}}
use Rattle.tn_cores.specs.declared.faults.SessionFault.{SessionFault}
use Rattle.tn_cores.specs.declared.faults.SessionFault.TheVariants as fault
use Rattle.tn_session.specs.declared.parties.Report.{Report}
use Rattle.tn_session.proofs.{Ending.{may_come, all_pieces, came_by_net, heard_of_reader, took_all, takes_entries, read_cause, write_cause}, Reach.never_begun}
use Rattle.tn_session.proofs.{Makers.{all_fresh, some_are, no_first}, lemmas.Sessions.{server_said, server_reads, as_read}}
use Rattle.tn_session.proofs.session.serve_session_with.Goals as goal

pub returns-clause-ran : goal.returns-clause-ran
returns-clause-ran g c = IfOk-weaker c.run_begun.result _ _ (λ r ran.
    let canon : Canon = record { settings = c.args.settings; limit = c.args.limit } in
    let begun = c.in_ok-begun.begun in
    let is = c.in_ok-begun.ensures.begun in
    let jobs = is.jobs in
    let posts = begun.posts in
    let whole = ran (record { canon = canon; approach = c.args.approach }) jobs is.at is.words in
    let s = whole.0 in
    let noted = whole.2 in
    let report = r.0 in
    let front = taken_are_front s.taken s.took_first.0 s.run.puts s.run.history s.took_first.1
    (puts_are_front s.wrote_opening canon c.args.approach jobs s.marked s.run s.runs) in
    let hears = c.pieces_are_heard.ensures s.wrote_opening canon c.args.approach jobs s.marked s.run s.runs in
    let hung = λ (e : report.ended ≡ HangUp). c.all_goes_before_a_hang_up.ensures s.wrote_opening canon c.args.approach jobs posts.first.0 s.marked s.run s.runs
    (sym (ap (λ (r : Report). r.ended) s.report_is) ∙ e) is.numbered.foreground (may_come s) in
    let heard = heard_of_reader s hears hung in
    let all = λ (e : report.ended ≡ HangUp). took_all s (hung e) in
    let begin = run_after_opening s.wrote_opening (start canon c.args.approach jobs) in
    let said = server_said begin s.marked s.run s.written whole.1 noted.transcribed in
    let reads = server_reads begin s.marked s.run s.written said in
    let caused = λ (f : SessionFault) (e : report.ended ≡ Fault f).
    c.faults_have_causes.ensures s.wrote_opening canon c.args.approach jobs s.marked s.run f s.runs (sym (ap (λ (r : Report). r.ended) s.report_is) ∙ e) in
    record {
      jobs = jobs;
      first = posts.first;
      job = posts.job;
      queue = posts.queue.items;
      begun = ((is.job, all_fresh _ posts.queue.items is.queue.0), c.in_ok-begun.ensures.in_order);
      numbered = is.numbered;
      all = c.in_ok-begun.ensures.all;
      tostop = posts.tostop;
      by_flag = is.tostop;
      schedule = s;
      heard = heard;
      in_order = front;
      all_taken = all;
      by_bytes = takes_entries s hears heard front all;
      entries_taken = entries_put s.taken;
      entries_are = refl;
      transcript = whole.1;
      was_read = as_read _ _ _ (reads ∙ all_pieces s) (s.read.1, s.read.3);
      came = reads ∙ came_by_net s;
      was_written = said.writes;
      noted = noted;
      heard_whole = λ e. (hung e).all_heard ∙ sym reads;
      caused = caused;
      read_failed = λ e. read_cause s begin (caused fault.Read e);
      write_failed = λ e. write_cause s begin (caused fault.Write e);
    })
    c.run_begun.ensures.ran

pub returns-clause-none : goal.returns-clause-none
returns-clause-none g c = λ none. absurd (no_first _ none (some_are _ _ c.in_ok-begun.ensures.all))

pub returns-clause-in_reach : goal.returns-clause-in_reach
returns-clause-in_reach g c = IfOk-weaker c.run_begun.result _ _
    (λ r reach e. never_begun (reach _ c.in_ok-begun.ensures.begun.at e)) c.run_begun.ensures.in_reach
