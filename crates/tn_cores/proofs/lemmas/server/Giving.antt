-- Entries are put in order, each once.
use Rattle.std.proofs.Common.{◌≡◌, ℕ, ◌+◌, ◌<◌, Bool, true, false, ◌&&◌, Option, Some, None, List, [], ◌∷◌, ◌++◌, length, drop, refl, sym, ap, ◌∙◌, subst}
use Rattle.std.proofs.{Common.{arith, append-nil, append_assoc, length-append, length-drop, drop-drop, if◌then◌else◌}, lemmas.Bool.{lt-ltb, le-ltb}}
use Rattle.std.proofs.lemmas.List.{drop-append-le}
use Rattle.tn_cores.proofs.lemmas.Folding.{run_keeps}
use Rattle.tn_discipline.proofs.lemmas.Histories.{entries-all}
use Rattle.tn_discipline.specs.{Entries.half_of, Steps.gain_all, Keys.roles_from, declared.reads.Entry.Entry, Canon.Canon}
use Rattle.tn_jobs.specs.{declared.verdicts.{JobState.JobState, Verdict.Verdict}, Jobs.Jobs}
use Rattle.tn_jobs.specs.declared.verdicts.JobState.TheVariants as job
use Rattle.tn_linemode.specs.Modes.{edits}
use Rattle.tn_nvt.specs.declared.items.Item.{Item}
use Rattle.tn_server.specs.{Events.{History, next, got, took, wrote, gets, limit}, Lines.{entries, taken_count, waiting, roles, role_at}, Course.in_parts}
use Rattle.tn_server.specs.{Terms.{settings, mode}, declared.openings.Approach.Approach}
use Rattle.tn_cores.specs.server.{Giving.{entries_put, Gives, GivesPrefix}, Marks.{Turns, Runs, unput, put_or_not, run_after_opening}, Run.opening}
use Rattle.tn_cores.specs.server.Run.{start, Run, flushed_history, flush, feed, ask, ask_if, answer, end_if, show, move, stop_job, end_job, in_foreground}
use Rattle.tn_cores.specs.server.Run.{echo_by, echoed, turn_echo, after_said, halt_if, is_end, hang_up, ends_by, Acts, ActsUnless, idle, idle_puts, fail}
use Rattle.tn_cores.specs.declared.{server.messages.ServerMark.ServerMark, faults.{SessionFault.SessionFault, Ended.TheVariants.Fault}}
use Rattle.tn_cores.specs.declared.messages.Message.{Message, TheVariants.{Piece, HangUp, ReadFailed, Take, Said, Refused}}
use Rattle.tn_cores.specs.declared.server.messages.ServerMark.TheVariants as mark
use Rattle.tn_cores.specs.declared.faults.SessionFault.TheVariants as fault

pub entries_put-append : (ps qs : List (Option Entry)) → entries_put (ps ++ qs) ≡ entries_put ps ++ entries_put qs
entries_put-append [] qs = refl
entries_put-append (None ∷ ps) qs = entries_put-append ps qs
entries_put-append (Some e ∷ ps) qs = ap (λ (es : List Entry). e ∷ es) (entries_put-append ps qs)

-- an end changes nothing
gives_end : (b : Bool) (ps : List (Option Entry)) (h : History) → Gives ps h → Gives (ps ++ end_if b) h
gives_end true ps h g = record {
  all = ap (λ (es : List Entry). es ++ waiting h) (entries_put-append ps (None ∷ []) ∙ append-nil (entries_put ps)) ∙ g.all;
  taken = g.taken;
}
gives_end false ps h g = record { all = ap (λ (qs : List (Option Entry)). entries_put qs ++ waiting h) (append-nil ps) ∙ g.all; taken = g.taken }

gives_got : (ps : List (Option Entry)) (h : History) (x : Item) → Gives ps h → Gives ps (next h (got x))
gives_got ps h x g =
    let r = roles_from (role_at (settings h) (edits (mode h)) x) in
    let more = gain_all (limit h) (half_of (limit h) (roles h)) r in
    let grown = entries-all (limit h) (roles h) r in
    record {
      all =
          ap (λ (es : List Entry). entries_put ps ++ drop (taken_count h) es) grown
          ∙ ap (λ (es : List Entry). entries_put ps ++ es) (drop-append-le (taken_count h) (entries h) more g.taken)
          ∙ sym (append_assoc (entries_put ps) (waiting h) more)
          ∙ ap (λ (es : List Entry). es ++ more) g.all
          ∙ sym grown;
      taken = (let n = ap (λ (es : List Entry). length es) grown in let old = g.taken in omega (arith, n, old, length-append (entries h) more));
    }

pub gives_gets : (ps : List (Option Entry)) (h : History) (xs : List Item) → Gives ps h → Gives ps (gets h xs)
gives_gets ps h [] g = g
gives_gets ps h (x ∷ xs) g = gives_gets ps (next h (got x)) xs (gives_got ps h x g)

gives_shown : (ps : List (Option Entry)) (h : History) (parts : List (List ℕ)) → Gives ps h → Gives ps (in_parts h parts)
gives_shown ps h [] g = g
gives_shown ps h (part ∷ parts) g = gives_shown ps (flushed_history (next h (wrote part))) parts (record { all = g.all; taken = g.taken })

taken_if : (b : Bool) (n : ℕ) → b ≡ true → (if b then n + 1 else n) ≡ n + 1
taken_if true n e = refl
taken_if false n e = cc

not_taken_if : (b : Bool) (n : ℕ) → b ≡ false → (if b then n + 1 else n) ≡ n
not_taken_if true n e = cc
not_taken_if false n e = refl

gives_ask : (c : Run) (ws : List Entry) → waiting c.history ≡ ws → Gives c.puts c.history
    → Gives (answer (record c { history = next c.history took }) ws).puts (next c.history took)
gives_ask c [] e g =
    let none = ap (λ (es : List Entry). length es) e in
    let stays = not_taken_if _ (taken_count c.history) (le-ltb (taken_count c.history) (length (entries c.history))
    (let l = length-drop (taken_count c.history) (entries c.history) in omega (arith, none, l))) in
    gives_end c.progress.at_end c.puts (next c.history took) (record
    { all = ap (λ (n : ℕ). entries_put c.puts ++ drop n (entries c.history)) stays ∙ g.all; taken = rw stays g.taken })
gives_ask c (w ∷ ws) e g =
    let some = ap (λ (es : List Entry). length es) e in
    let l = length-drop (taken_count c.history) (entries c.history) in
    let more : taken_count c.history < length (entries c.history) = omega (arith, some, l) in
    let goes = taken_if _ (taken_count c.history) (lt-ltb (taken_count c.history) (length (entries c.history)) more) in
    let rest : drop (taken_count c.history + 1) (entries c.history) ≡ ws =
    sym (drop-drop 1 (taken_count c.history) (entries c.history)) ∙ ap (λ (es : List Entry). drop 1 es) e in
    record {
      all =
          ap (λ (n : ℕ). entries_put (c.puts ++ Some w ∷ []) ++ drop n (entries c.history)) goes
          ∙ ap (λ (es : List Entry). entries_put (c.puts ++ Some w ∷ []) ++ es) rest
          ∙ ap (λ (es : List Entry). es ++ ws) (entries_put-append c.puts (Some w ∷ []))
          ∙ append_assoc (entries_put c.puts) (w ∷ []) ws
          ∙ ap (λ (es : List Entry). entries_put c.puts ++ es) (sym e)
          ∙ g.all;
      taken = rw goes (omega (arith, more));
    }

gives_move : (id : ℕ) (state : JobState) (c : Run) → Gives c.puts c.history → Gives (move id state c).puts (move id state c).history
gives_move id (job.Stopped why) c g = stop (in_foreground c id)
  where
    stop : (b : Bool) → Gives (stop_job id why b c).puts (stop_job id why b c).history
    stop true = g
    stop false = g
gives_move id job.Ended c g = end (in_foreground c id)
  where
    end : (b : Bool) → Gives (end_job id b c).puts (end_job id b c).history
    end true = g
    end false = g
gives_move id _ c g = g

gives_flush : (c : Run) → Gives c.puts c.history → Gives (flush c).puts (flush c).history
gives_flush c g = record { all = g.all; taken = g.taken }

gives_halt_if : (b : Bool) (c : Run) → Gives c.puts c.history → Gives (halt_if b c).puts (halt_if b c).history
gives_halt_if true c g = gives_end c.progress.asks c.puts c.history g
gives_halt_if false c g = g

gives_echoed : (echo : Option Bool) (c : Run) → Gives c.puts c.history → Gives c.puts (echoed echo c.history)
gives_echoed None c g = g
gives_echoed (Some on) c g = record { all = g.all; taken = g.taken }

gives_said : (id : ℕ) (parts : List (List ℕ)) (v : Option Verdict) (c : Run) → Gives c.puts c.history
    → Gives (after_said id parts v c).puts (after_said id parts v c).history
gives_said id parts None c g = gives_flush c g
gives_said id parts (Some v) c g =
    let m = move id v.next c in
    gives_halt_if (is_end v.next && in_foreground c id) (flush (show parts m))
    (gives_flush (show parts m) (gives_shown m.puts m.history parts (gives_move id v.next c g)))

gives_as : (c d : Run) → d ≡ c → Gives c.puts c.history → Gives d.puts d.history
gives_as c d e g = let P : Run → Type 0 = λ u. Gives u.puts u.history in subst P (sym e) g

gives_ask_if : (b : Bool) (c : Run) → Gives c.puts c.history → Gives (ask_if b c).puts (ask_if b c).history
gives_ask_if true c g = asked (waiting c.history) refl
  where
    kept : (ws : List Entry) → (answer (record c { history = next c.history took }) ws).history ≡ next c.history took
    kept [] = refl
    kept (w ∷ ws) = refl

    asked : (ws : List Entry) → waiting c.history ≡ ws → Gives (ask c).puts (ask c).history
    asked ws e =
        let P : History → Type 0 = λ h. Gives (answer (record c { history = next c.history took }) ws).puts h in
        gives_as (answer (record c { history = next c.history took }) ws) (ask c) (ap (answer (record c { history = next c.history took })) e)
        (subst P (sym (kept ws)) (gives_ask c ws e g))
gives_ask_if false c g = g

pub gives_acts : (c new : Run) (m : Message) → Acts c m new → Gives c.puts c.history → Gives new.puts new.history
gives_acts c new (Piece piece) a g =
    let fed = feed piece a.0 c in
    gives_as (flush (ask_if c.progress.asks fed)) new a.2 (gives_flush (ask_if c.progress.asks fed)
    (gives_ask_if c.progress.asks fed (gives_gets c.puts c.history a.0 g)))
gives_acts c new HangUp a g = gives_as (flush (hang_up c)) new a (gives_flush (hang_up c) (gives_end c.progress.asks c.puts c.history g))
gives_acts c new ReadFailed a g =
    let d = hang_up (ends_by (Fault fault.Read) c) in
    gives_as (flush d) new a (gives_flush d (gives_end c.progress.asks c.puts c.history g))
gives_acts c new Take a g = gives_as (flush (ask c)) new a (gives_flush (ask c) (gives_ask_if true c g))
gives_acts c new (Said id text after) a g =
    let echo = echo_by (in_foreground c id.0) after in gives_as _ new a.2 (gives_said id.0 a.0 _ (turn_echo echo c) (gives_echoed echo c g))
gives_acts c new Refused a g = gives_as _ new a (gives_end c.progress.asks c.puts (flushed_history c.history) (gives_flush c g))
gives_acts c new _ a g = gives_as (flush c) new a (gives_flush c g)

pub gives_start : (canon : Canon) (approach : Approach) → Gives [] (opening canon approach)
gives_start canon approach = record { all = refl; taken = omega arith }

-- the entries that were put are a prefix of the history's

front_of : (ps : List (Option Entry)) (h : History) → Gives ps h → GivesPrefix ps h
front_of ps h g = (waiting h, g.all)

front_none : (ps qs : List (Option Entry)) (h : History) → entries_put qs ≡ [] → GivesPrefix ps h → GivesPrefix (ps ++ qs) h
front_none ps qs h e (rest, f) = (
  rest,
  ap (λ (es : List Entry). es ++ rest) (entries_put-append ps qs ∙ ap (λ (es : List Entry). entries_put ps ++ es) e ∙ append-nil (entries_put ps)) ∙ f,
)

none_at_end : (b : Bool) → entries_put (end_if b) ≡ []
none_at_end true = refl
none_at_end false = refl

none_idle : (m : Message) → entries_put (idle_puts m) ≡ []
none_idle Take = refl
none_idle _ = refl

-- a message puts more
abbrev More : Run → Run → Type 0
More c new = (more : List (Option Entry)) × (new.puts ≡ c.puts ++ more)

more_as : (c d e : Run) → e ≡ d → More c d → More c e
more_as c d e is (more, same) = (more, ap (λ (u : Run). u.puts) is ∙ same)

more_none : (c d : Run) → d.puts ≡ c.puts → More c d
more_none c d e = ([], e ∙ sym (append-nil c.puts))

more_answer : (c : Run) (ws : List Entry) → More c (answer c ws)
more_answer c [] = (end_if c.progress.at_end, refl)
more_answer c (w ∷ ws) = (Some w ∷ [], refl)

more_ask : (c d : Run) → d.puts ≡ c.puts → More c (ask d)
more_ask c d e =
    let a = more_answer (record d { history = next d.history took }) (waiting d.history) in
    (a.0, a.1 ∙ ap (λ (ps : List (Option Entry)). ps ++ a.0) e)

more_ask_if : (b : Bool) (c d : Run) → d.puts ≡ c.puts → More c (ask_if b d)
more_ask_if true c d e = more_ask c d e
more_ask_if false c d e = more_none c d e

moved_puts : (id : ℕ) (state : JobState) (c : Run) → (move id state c).puts ≡ c.puts
moved_puts id (job.Stopped why) c = stop (in_foreground c id)
  where
    stop : (b : Bool) → (stop_job id why b c).puts ≡ c.puts
    stop true = refl
    stop false = refl
moved_puts id job.Ended c = end (in_foreground c id)
  where
    end : (b : Bool) → (end_job id b c).puts ≡ c.puts
    end true = refl
    end false = refl
moved_puts id _ c = refl

more_halt_if : (b : Bool) (c d : Run) → d.puts ≡ c.puts → More c (halt_if b d)
more_halt_if true c d e = (end_if d.progress.asks, ap (λ (ps : List (Option Entry)). ps ++ end_if d.progress.asks) e)
more_halt_if false c d e = more_none c d e

more_said : (id : ℕ) (parts : List (List ℕ)) (v : Option Verdict) (c : Run) → More c (after_said id parts v c)
more_said id parts None c = more_none c (flush c) refl
more_said id parts (Some v) c = more_halt_if (is_end v.next && in_foreground c id) c (flush (show parts (move id v.next c))) (moved_puts id v.next c)

more_acts : (c new : Run) (m : Message) → Acts c m new → More c new
more_acts c new (Piece piece) a =
    let fed = feed piece a.0 c in
    more_as c (flush (ask_if c.progress.asks fed)) new a.2 (more_ask_if c.progress.asks c fed refl)
more_acts c new HangUp a = more_as c (flush (hang_up c)) new a (end_if c.progress.asks, refl)
more_acts c new ReadFailed a = more_as c (flush (hang_up (ends_by (Fault fault.Read) c))) new a (end_if c.progress.asks, refl)
more_acts c new Take a = more_as c (flush (ask c)) new a (more_ask c c refl)
more_acts c new (Said id text after) a = more_as c _ new a.2 (more_said id.0 a.0 _ (turn_echo (echo_by (in_foreground c id.0) after) c))
more_acts c new Refused a = more_as c _ new a (end_if c.progress.asks, refl)
more_acts c new _ a = more_as c (flush c) new a (more_none c (flush c) refl)

-- while messages have their effect all is given, and from then on a front
record InOrder (c : Run) : Type 0 where
  gives : c.progress.over ≡ false → Gives c.puts c.history
  front : GivesPrefix c.puts c.history

true_false : true ≡ false → ⊥
true_false e = cc

in_order_as : (c d : Run) → d ≡ c → InOrder c → InOrder d
in_order_as c d e i = let P : Run → Type 0 = λ u. InOrder u in subst P (sym e) i

failed_in_order : (f : SessionFault) (c : Run) → GivesPrefix c.puts c.history → InOrder (fail f c)
failed_in_order f c g = record {
  gives = λ e. absurd (true_false e);
  front = front_none c.puts (end_if c.progress.asks) c.history (none_at_end c.progress.asks) g;
}

unput_front : (m : Message) (c whole : Run) → More c whole → Gives whole.puts whole.history → GivesPrefix c.puts whole.history
unput_front m c whole (more, e) g = (
  entries_put more ++ waiting whole.history,
  sym (append_assoc (entries_put c.puts) (entries_put more) (waiting whole.history))
      ∙ ap (λ (es : List Entry). es ++ waiting whole.history) (sym (entries_put-append c.puts more) ∙ ap entries_put (sym e))
      ∙ g.all,
)

pub acts_of : (o : Bool) (c new : Run) (m : Message) → o ≡ false → ActsUnless o c m new → Acts c m new
acts_of true c new m e a = absurd (true_false e)
acts_of false c new m e a = a

refused_in_order : (put : Bool) (f : SessionFault) (m : Message) (c whole : Run) → More c whole → Gives whole.puts whole.history
    → InOrder (fail f (put_or_not put m c whole))
refused_in_order true f m c whole more g = failed_in_order f whole (front_of whole.puts whole.history g)
refused_in_order false f m c whole more g = failed_in_order f (unput m c whole) (unput_front m c whole more g)

handled_in_order : (o : Bool) (c new : Run) (m : Message) → c.progress.over ≡ o → ActsUnless o c m new → InOrder c → InOrder new
handled_in_order true c new m e a i =
    in_order_as (idle m c) new a (record {
      gives = λ f. absurd (true_false (sym e ∙ f));
      front = front_none c.puts (idle_puts m) c.history (none_idle m) i.front;
    })
handled_in_order false c new m e a i = let g = gives_acts c new m a (i.gives e) in record { gives = λ f. g; front = front_of new.puts new.history g }

turned_in_order : (c new : Run) (m : Message × ServerMark) → Turns c m new → InOrder c → InOrder new
turned_in_order c new (m, mark.Whole) t i = handled_in_order c.progress.over c new m refl t i
turned_in_order c new (m, mark.WriteFailed) t i =
    let g = gives_acts c t.1 m (acts_of c.progress.over c t.1 m t.0 t.2) (i.gives t.0) in
    in_order_as (fail fault.Write t.1) new t.3 (failed_in_order fault.Write t.1 (front_of t.1.puts t.1.history g))
turned_in_order c new (m, mark.Refused f put) t i =
    let a = acts_of c.progress.over c t.1 m t.0 t.2 in
    in_order_as (fail (fault.Server f) (put_or_not put m c t.1)) new t.3
    (refused_in_order put (fault.Server f) m c t.1 (more_acts c t.1 m a) (gives_acts c t.1 m a (i.gives t.0)))

started_in_order : (b : Bool) (canon : Canon) (approach : Approach) (jobs : Jobs) → InOrder (run_after_opening b (start canon approach jobs))
started_in_order true canon approach jobs = let g = gives_start canon approach in record { gives = λ e. g; front = front_of [] (opening canon approach) g }
started_in_order false canon approach jobs = failed_in_order fault.Write (start canon approach jobs)
    (front_of [] (opening canon approach) (gives_start canon approach))

pub puts_are_front : (b : Bool) (canon : Canon) (approach : Approach) (jobs : Jobs) (marked : List (Message × ServerMark)) (new : Run)
    → Runs (run_after_opening b (start canon approach jobs)) marked new → GivesPrefix new.puts new.history
puts_are_front b canon approach jobs marked new r = (run_keeps Turns InOrder turned_in_order marked (run_after_opening b (start canon approach jobs)) new r
    (started_in_order b canon approach jobs)).front

-- while messages have their effect, what was put and what waits are all
pub puts_are_given : (b : Bool) (canon : Canon) (approach : Approach) (jobs : Jobs) (marked : List (Message × ServerMark)) (new : Run)
    → Runs (run_after_opening b (start canon approach jobs)) marked new → new.progress.over ≡ false → Gives new.puts new.history
puts_are_given b canon approach jobs marked new r = (run_keeps Turns InOrder turned_in_order marked (run_after_opening b (start canon approach jobs)) new r
    (started_in_order b canon approach jobs)).gives

-- the entries that were taken, of those that were put
pub taken_are_front : (taken_count rest puts : List (Option Entry)) (h : History) → taken_count ++ rest ≡ puts → GivesPrefix puts h → GivesPrefix taken_count h
taken_are_front taken_count rest puts h e (others, f) = (
  entries_put rest ++ others,
  sym (append_assoc (entries_put taken_count) (entries_put rest) others)
      ∙ ap (λ (es : List Entry). es ++ others) (sym (entries_put-append taken_count rest) ∙ ap entries_put e)
      ∙ f,
)
