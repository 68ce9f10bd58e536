-- Typed keys are echoed as the job in the foreground asked.
use Rattle.std.proofs.Common.{◌≡◌, ℕ, Bool, true, false, ◌&&◌, Option, Some, None, List, [], ◌∷◌, refl, ap, ◌∙◌}
use Rattle.tn_discipline.specs.declared.termios.Flags.{Flags}
use Rattle.tn_jobs.specs.declared.verdicts.Verdict.{Verdict}
use Rattle.tn_cores.proofs.{lemmas.server.Hearing.move_keeps, of_terminal.{Alike.flags_parts, Breaking.kept_history}}
use Rattle.tn_cores.specs.server.{Echoing.{is_echoing, asked_or, echo_by_message, echo_unless, echo_after}, Marks.{Turns, put_or_not}, Run.{turn_echo, verdict}}
use Rattle.tn_cores.specs.server.Run.{Run, Acts, ActsUnless, feed, ask_if, move, show, flush, halt_if, is_end, in_foreground, after_said, echo_by, echoed}
use Rattle.tn_cores.specs.declared.{messages.Message.{Message, TheVariants.{Piece, Take, Said}}, server.messages.ServerMark.ServerMark}
use Rattle.tn_cores.specs.declared.server.messages.ServerMark.TheVariants as mark
use Rattle.tn_nvt.specs.declared.items.Item.{Item}
use Rattle.tn_server.specs.{Events.{History, next, got, took, gets}, Lines.waiting, Terms.flags}

flags_gets : (h : History) (xs : List Item) → flags (gets h xs) ≡ flags h
flags_gets h [] = refl
flags_gets h (x ∷ xs) = flags_gets (next h (got x)) xs

flags_asked : (b : Bool) (c : Run) → flags (ask_if b c).history ≡ flags c.history
flags_asked true c = ap flags (kept_history (record c { history = next c.history took }) (waiting c.history))
flags_asked false c = refl

flags_halted : (b : Bool) (c : Run) → flags (halt_if b c).history ≡ flags c.history
flags_halted true c = refl
flags_halted false c = refl

flags_said : (id : ℕ) (parts : List (List ℕ)) (v : Option Verdict) (c : Run) → flags (after_said id parts v c).history ≡ flags c.history
flags_said id parts None c = refl
flags_said id parts (Some v) c =
    let m = move id v.next c in
    flags_halted (is_end v.next && in_foreground c id) (flush (show parts m)) ∙ flags_parts m.history parts ∙ ap flags (move_keeps id v.next c).history

asked : (echo : Option Bool) (h : History) → (flags (echoed echo h)).echo ≡ asked_or echo (flags h).echo
asked None h = refl
asked (Some on) h = refl

acts_echo : (c new : Run) (m : Message) → Acts c m new → is_echoing new ≡ echo_by_message c m
acts_echo c new (Piece piece) a =
    ap is_echoing a.2
    ∙ ap (λ (f : Flags). f.echo) (flags_asked c.progress.asks (feed piece a.0 c) ∙ flags_gets c.history a.0)
acts_echo c new Take a = ap is_echoing a ∙ ap (λ (f : Flags). f.echo) (flags_asked true c)
acts_echo c new (Said id text after) a =
    let echo = echo_by (in_foreground c id.0) after in
    ap is_echoing a.2 ∙ ap (λ (f : Flags). f.echo) (flags_said id.0 a.0 (verdict c id.0 text after) (turn_echo echo c)) ∙ asked echo c.history
acts_echo c new _ a = ap is_echoing a

handles_echo : (over : Bool) (c new : Run) (m : Message) → ActsUnless over c m new → is_echoing new ≡ echo_unless over c m
handles_echo true c new m a = ap is_echoing a
handles_echo false c new m a = acts_echo c new m a

kept : (put : Bool) (m : Message) (c whole : Run) → is_echoing (put_or_not put m c whole) ≡ is_echoing whole
kept true m c whole = refl
kept false m c whole = refl

pub echo_turned : (c new : Run) (m : Message) (k : ServerMark) → Turns c (m, k) new → is_echoing new ≡ echo_after c m
echo_turned c new m mark.Whole t = handles_echo c.progress.over c new m t
echo_turned c new m mark.WriteFailed t = ap is_echoing t.3 ∙ handles_echo c.progress.over c t.1 m t.2
echo_turned c new m (mark.Refused f put) t = ap is_echoing t.3 ∙ kept put m c t.1 ∙ handles_echo c.progress.over c t.1 m t.2
