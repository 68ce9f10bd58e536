-- The entries that are put answer requests, message by message.
use Rattle.std.proofs.Common.{arith, ◌≡◌, ℕ, ◌+◌, ◌≤◌, Bool, true, false, not, ◌&&◌, Option, Some, None, List, [], ◌∷◌, ◌++◌, length, refl, sym, ap, ◌∙◌}
use Rattle.tn_discipline.specs.{Canon.Canon, declared.reads.Entry.Entry}
use Rattle.tn_jobs.specs.{Jobs.Jobs, declared.verdicts.{JobState.JobState, Verdict.Verdict, Why.Why}}
use Rattle.tn_jobs.specs.declared.verdicts.JobState.TheVariants as job
use Rattle.tn_cores.specs.{declared.faults.SessionFault.SessionFault, server.Marks.{Turns, Runs, run_after_opening, unput, put_or_not}}
use Rattle.tn_cores.specs.server.Run.{halt_if, in_foreground, is_end, idle, ends_by, verdict, Acts, ActsUnless, Run, start, answer, ask, ask_if, feed, hang_up}
use Rattle.tn_cores.specs.server.Run.{halt, fail, end_if, echo_by, turn_echo, after_said, show, flush, move, stop_job, end_job}
use Rattle.tn_cores.specs.declared.{messages.Message.{Message, TheVariants.{Piece, HangUp, ReadFailed, Take, Said, Refused}}, faults.Ended.TheVariants.Fault}
use Rattle.tn_cores.specs.{declared.server.messages.ServerMark.ServerMark, server.Requests.{open_requests, request_of, requests_among, AnswersRequests}}
use Rattle.tn_cores.specs.declared.faults.SessionFault.TheVariants as fault
use Rattle.tn_server.specs.{Events.{next, took}, Lines.waiting, declared.openings.Approach.Approach}
use Rattle.tn_cores.specs.declared.server.messages.ServerMark.TheVariants as mark

-- the entries that were put, and a request that waits
abbrev answered : Run → ℕ
answered c = length c.puts + open_requests c.progress.asks

length-more : {A : Type 0} (xs : List A) (x : A) → length (xs ++ x ∷ []) ≡ length xs + 1
length-more [] x = refl
length-more (y ∷ xs) x = let e = length-more xs x in grind arith

length-none : {A : Type 0} (xs : List A) → length (xs ++ []) ≡ length xs
length-none [] = refl
length-none (y ∷ xs) = let e = length-none xs in grind arith

ends : (puts : List (Option Entry)) (b : Bool) → length (puts ++ end_if b) ≡ length puts + open_requests b
ends puts true = length-more puts None
ends puts false = length-none puts ∙ omega arith

by_end : (puts : ℕ) (b : Bool) → (puts + open_requests b) + open_requests (not b) ≡ puts + 1
by_end puts true = omega arith
by_end puts false = omega arith

by_answer : (c : Run) (entries : List Entry) → answered (answer c entries) ≡ length c.puts + 1
by_answer c [] = ap (λ (n : ℕ). n + open_requests (not c.progress.at_end)) (ends c.puts c.progress.at_end) ∙ by_end (length c.puts) c.progress.at_end
by_answer c (entry ∷ entries) = ap (λ (n : ℕ). n + 0) (length-more c.puts (Some entry)) ∙ omega arith

by_ask : (c : Run) → answered (ask c) ≡ length c.puts + 1
by_ask c = by_answer (record c { history = next c.history took }) (waiting c.history)

by_ask_if : (b : Bool) (c : Run) → c.progress.asks ≡ b → answered (ask_if b c) ≡ answered c
by_ask_if true c e = by_ask c ∙ ap (λ (a : Bool). length c.puts + open_requests a) (sym e)
by_ask_if false c e = refl

by_hang_up : (c : Run) → answered (hang_up c) ≡ answered c
by_hang_up c = ap (λ (n : ℕ). n + 0) (ends c.puts c.progress.asks) ∙ omega arith

by_halt : (c : Run) → answered (halt c) ≡ answered c
by_halt c = ap (λ (n : ℕ). n + 0) (ends c.puts c.progress.asks) ∙ omega arith

by_halt_if : (b : Bool) (c : Run) → answered (halt_if b c) ≡ answered c
by_halt_if true c = by_halt c
by_halt_if false c = refl

by_stop : (id : ℕ) (why : Why) (b : Bool) (c : Run) → answered (stop_job id why b c) ≡ answered c
by_stop id why true c = refl
by_stop id why false c = refl

by_end_job : (id : ℕ) (b : Bool) (c : Run) → answered (end_job id b c) ≡ answered c
by_end_job id true c = refl
by_end_job id false c = refl

by_move : (id : ℕ) (state : JobState) (c : Run) → answered (move id state c) ≡ answered c
by_move id (job.Stopped why) c = by_stop id why (in_foreground c id) c
by_move id job.Ended c = by_end_job id (in_foreground c id) c
by_move id _ c = refl

by_said : (id : ℕ) (parts : List (List ℕ)) (v : Option Verdict) (c : Run) → answered (after_said id parts v c) ≡ answered c
by_said id parts None c = refl
by_said id parts (Some v) c =
    by_halt_if (is_end v.next && in_foreground c id) (flush (show parts (move id v.next c))) ∙ by_move id v.next c

by_idle : (m : Message) (c : Run) → answered (idle m c) ≡ answered c + request_of m
by_idle Take c = ap (λ (n : ℕ). n + open_requests c.progress.asks) (length-more c.puts None) ∙ omega arith
by_idle _ c = ap (λ (n : ℕ). n + open_requests c.progress.asks) (length-none c.puts) ∙ omega arith

-- a message that has its effect
by_act : (c : Run) (m : Message) (new : Run) → Acts c m new → answered new ≤ answered c + request_of m
by_act c (Piece piece) new (xs, _, e) = let f = ap answered e ∙ by_ask_if c.progress.asks (feed piece xs c) refl in omega arith
by_act c HangUp new e = let f = ap answered e ∙ by_hang_up c in omega arith
by_act c ReadFailed new e = let f = ap answered e ∙ by_hang_up (ends_by (Fault fault.Read) c) in omega arith
by_act c Take new e = let f = ap answered e ∙ by_ask c in omega arith
by_act c (Said id text after) new (parts, _, e) =
    let d = turn_echo (echo_by (in_foreground c id.0) after) c in
    let f : answered new ≡ answered c = ap answered e ∙ by_said id.0 parts (verdict c id.0 text after) d in
    omega arith
by_act c Refused new e = let f = ap answered e ∙ by_halt (flush (ends_by (Fault fault.Memory) c)) in omega arith
by_act c _ new e = let f = ap answered e in omega arith

by_handle : (over : Bool) (c : Run) (m : Message) (new : Run) → ActsUnless over c m new → answered new ≤ answered c + request_of m
by_handle true c m new e = let f = ap answered e ∙ by_idle m c in omega arith
by_handle false c m new acts = by_act c m new acts

by_fail : (f : SessionFault) (c : Run) → answered (fail f c) ≡ answered c
by_fail f c = by_halt (ends_by (Fault f) c)

by_unput : (m : Message) (c whole : Run) → answered (unput m c whole) ≤ answered c + request_of m
by_unput (Piece piece) c whole = omega arith
by_unput _ c whole = omega arith

by_put : (b : Bool) (m : Message) (c whole : Run) → answered whole ≤ answered c + request_of m → answered (put_or_not b m c whole) ≤ answered c + request_of m
by_put true m c whole l = l
by_put false m c whole l = by_unput m c whole

by_turn : (c : Run) (m : Message) (k : ServerMark) (new : Run) → Turns c (m, k) new → answered new ≤ answered c + request_of m
by_turn c m mark.Whole new acts = by_handle c.progress.over c m new acts
by_turn c m mark.WriteFailed new (_, whole, acts, e) =
    let l = by_handle c.progress.over c m whole acts in let f = ap answered e ∙ by_fail fault.Write whole in omega arith
by_turn c m (mark.Refused g put) new (_, whole, acts, e, _) =
    let l = by_put put m c whole (by_handle c.progress.over c m whole acts) in
    let f = ap answered e ∙ by_fail (fault.Server g) (put_or_not put m c whole) in
    omega arith

by_run : (c : Run) (marked : List (Message × ServerMark)) (new : Run) → Runs c marked new → answered new ≤ answered c + requests_among marked
by_run c [] new e = let f = ap answered e in omega arith
by_run c (m ∷ marked) new (middle, turns, more) =
    let l = by_turn c m.0 m.1 middle turns in let r = by_run middle marked new more in omega arith

by_opening : (opens : Bool) (canon : Canon) (approach : Approach) (jobs : Jobs) → answered (run_after_opening opens (start canon approach jobs)) ≡ 0
by_opening true canon approach jobs = refl
by_opening false canon approach jobs = by_fail fault.Write (start canon approach jobs)

pub puts_answer : (opens : Bool) (canon : Canon) (approach : Approach) (jobs : Jobs) (marked : List (Message × ServerMark)) (new : Run)
    → Runs (run_after_opening opens (start canon approach jobs)) marked new → AnswersRequests (requests_among marked) new
puts_answer opens canon approach jobs marked new runs =
    let r = by_run (run_after_opening opens (start canon approach jobs)) marked new runs in
    let o = by_opening opens canon approach jobs in
    omega arith
