-- The terminal keeps, at a message, each fact that its kinds of events keep.
use Rattle.std.proofs.Common.{◌≡◌, ℕ, Bool, true, false, List, [], ◌∷◌, ◌++◌, ◌&&◌, Option, Some, None, refl, sym, ap, ◌∙◌, subst, append_assoc, length}
use Rattle.tn_discipline.specs.declared.reads.Entry.{Entry}
use Rattle.tn_jobs.specs.declared.verdicts.Verdict.{Verdict}
use Rattle.tn_nvt.specs.{declared.items.Item.Item, Prefixes.IsPrefixOf}
use Rattle.tn_server.proofs.lemmas.Histories.{items-gets}
use Rattle.tn_server.specs.{Course.in_parts, Events.{History, next, got, took, wrote, pulled, echo_set, items, gets}, Lines.waiting, Screen.queue}
use Rattle.tn_cores.proofs.lemmas.server.Hearing.{move_keeps}
use Rattle.tn_cores.specs.{server.{Marks.{Turns, put_or_not}, Run.{in_foreground, after_said, halt_if}}, declared.server.messages.ServerMark.ServerMark}
use Rattle.tn_cores.specs.server.Run.{echo_by, echoed, turn_echo, is_end, show, Run, Acts, ActsUnless, flushed_history, flush, feed, ask, ask_if, answer, move}
use Rattle.tn_cores.specs.declared.messages.Message.{Message, TheVariants.{Piece, HangUp, ReadFailed, Take, Said, Refused, Left, Resized, Asked}}
use Rattle.tn_cores.specs.declared.server.messages.ServerMark.TheVariants as mark

-- kept by each event of a terminal, if the items that come begin these
pub record ServerKeeps (T : History → Type 0) (said : List Item) : Type 0 where
  pub comes : (h : History) (x : Item) → IsPrefixOf (items h ++ x ∷ []) said → T h → T (next h (got x))
  pub takes : (h : History) → T h → T (next h took)
  pub writes : (h : History) (bytes : List ℕ) → T h → T (next h (wrote bytes))
  pub pulls : (h : History) (n : ℕ) → T h → T (next h (pulled n))
  pub echoes : (h : History) (on : Bool) → T h → T (next h (echo_set on))

module _ (T : History → Type 0) (said : List Item) (s : ServerKeeps T said) where
  all_come : (h : History) (xs : List Item) → IsPrefixOf (items h ++ xs) said → T h → T (gets h xs)
  all_come h [] p t = t
  all_come h (x ∷ xs) p t =
      let shift = append_assoc (items h) (x ∷ []) xs in
      let whole = ap (λ (l : List Item). l ++ p.0) shift ∙ p.1 in
      all_come (next h (got x)) xs (p.0, whole) (s.comes h x (xs ++ p.0, sym (append_assoc (items h ++ x ∷ []) xs p.0) ∙ whole) t)

  flushes : (h : History) → T h → T (flushed_history h)
  flushes h t = s.pulls h (length (queue h)) t

  all_written : (h : History) (parts : List (List ℕ)) → T h → T (in_parts h parts)
  all_written h [] t = t
  all_written h (part ∷ parts) t = all_written (flushed_history (next h (wrote part))) parts (flushes (next h (wrote part)) (s.writes h part t))

  moved : (h k : History) → k ≡ h → T h → T k
  moved h k e t = subst T (sym e) t

  asks : (b : Bool) (c : Run) → T c.history → T (ask_if b c).history
  asks false c t = t
  asks true c t = moved (next c.history took) (ask c).history (answered (record c { history = next c.history took }) (waiting c.history)) (s.takes c.history t)
    where
      answered : (c : Run) (ws : List Entry) → (answer c ws).history ≡ c.history
      answered c [] = refl
      answered c (w ∷ ws) = refl

  asks_items : (b : Bool) (c : Run) → items (ask_if b c).history ≡ items c.history
  asks_items false c = refl
  asks_items true c = ap items (answered (record c { history = next c.history took }) (waiting c.history))
    where
      answered : (c : Run) (ws : List Entry) → (answer c ws).history ≡ c.history
      answered c [] = refl
      answered c (w ∷ ws) = refl

  hides : (echo : Option Bool) (h : History) → T h → T (echoed echo h)
  hides None h t = t
  hides (Some on) h t = s.echoes h on t

  says : (c : Run) (id : ℕ) (parts : List (List ℕ)) (v : Option Verdict) → T c.history → T (after_said id parts v c).history
  says c id parts None t = flushes c.history t
  says c id parts (Some v) t =
      let m = move id v.next c in
      let d = flush (show parts m) in
      halts (is_end v.next && in_foreground c id) d (flushes (in_parts m.history parts)
      (all_written m.history parts (moved c.history m.history (move_keeps id v.next c).history t)))
    where
      halts : (b : Bool) (d : Run) → T d.history → T (halt_if b d).history
      halts true d t = t
      halts false d t = t

  acts : (c new : Run) (m : Message) → Acts c m new → IsPrefixOf (items new.history) said → T c.history → T new.history
  acts c new (Piece piece) a p t =
      let fed = feed piece a.0 c in
      let d = ask_if c.progress.asks fed in
      let at = ap (λ (r : Run). r.history) a.2 in
      let got_items = ap items at ∙ asks_items c.progress.asks fed ∙ items-gets c.history a.0 in
      let first = subst (λ (l : List Item). IsPrefixOf l said) got_items p in
      moved (flushed_history d.history) new.history at (flushes d.history (asks c.progress.asks fed (all_come c.history a.0 first t)))
  acts c new HangUp a p t = moved (flushed_history c.history) new.history (ap (λ (r : Run). r.history) a) (flushes c.history t)
  acts c new ReadFailed a p t = moved (flushed_history c.history) new.history (ap (λ (r : Run). r.history) a) (flushes c.history t)
  acts c new Take a p t = moved (flushed_history (ask c).history) new.history (ap (λ (r : Run). r.history) a) (flushes (ask c).history (asks true c t))
  acts c new (Said id text after) a p t =
      let echo = echo_by (in_foreground c id.0) after in
      moved _ new.history (ap (λ (r : Run). r.history) a.2) (says (turn_echo echo c) id.0 a.0 _ (hides echo c.history t))
  acts c new Refused a p t = moved (flushed_history c.history) new.history (ap (λ (r : Run). r.history) a) (flushes c.history t)
  acts c new Left a p t = moved (flushed_history c.history) new.history (ap (λ (r : Run). r.history) a) (flushes c.history t)
  acts c new (Resized size) a p t = moved (flushed_history c.history) new.history (ap (λ (r : Run). r.history) a) (flushes c.history t)
  acts c new (Asked control) a p t = moved (flushed_history c.history) new.history (ap (λ (r : Run). r.history) a) (flushes c.history t)

  handles : (o : Bool) (c new : Run) (m : Message) → ActsUnless o c m new → IsPrefixOf (items new.history) said → T c.history → T new.history
  handles true c new m a p t = moved c.history new.history (ap (λ (r : Run). r.history) a) t
  handles false c new m a p t = acts c new m a p t

  pub server_turns : (c new : Run) (m : Message) (k : ServerMark) → Turns c (m, k) new → IsPrefixOf (items new.history) said → T c.history → T new.history
  server_turns c new m mark.Whole t p at = handles c.progress.over c new m t p at
  server_turns c new m mark.WriteFailed t p at =
      let e = ap (λ (r : Run). r.history) t.3 in
      moved t.1.history new.history e (handles c.progress.over c t.1 m t.2 (subst (λ (h : History). IsPrefixOf (items h) said) e p) at)
  server_turns c new m (mark.Refused f put) t p at =
      let e = ap (λ (r : Run). r.history) t.3 ∙ same put in
      moved t.1.history new.history e (handles c.progress.over c t.1 m t.2 (subst (λ (h : History). IsPrefixOf (items h) said) e p) at)
    where
      same : (put : Bool) → (put_or_not put m c t.1).history ≡ t.1.history
      same true = refl
      same false = refl
