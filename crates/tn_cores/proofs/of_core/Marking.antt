-- One message with its mark.
use Rattle.std.proofs.Common.{◌≡◌, ℕ, Bool, true, false, List, [], ◌++◌, refl, sym, ap, ◌∙◌, subst, append-nil}
use Rattle.tn_client.specs.{Events.History, Replies.items_said, Screen.text_shown, declared.faults.ClientFault.ClientFault}
use Rattle.tn_cores.proofs.{of_core.Doing.is_over, lemmas.Pieces.{from_none, all_spelled}}
use Rattle.tn_cores.specs.client.{Counting.after_failure, Reaching.{DoesWhole, StopsWithin, RefusesFor, SendsPrefix, IsTurn, sent_bytes}}
use Rattle.tn_cores.specs.{client.Run.{Run, ActsUnless, fail, sent_after}, declared.client.{machine.Core.Core, messages.Told.Told}}
use Rattle.tn_cores.specs.declared.client.{messages.ClientMark.TheVariants.{Whole, Refused}, progress.ClientProgress.ClientProgress}
use Rattle.tn_nvt.specs.Spelling.{spells}
use Rattle.tn_cores.specs.declared.faults.SessionFault.TheVariants as fault

true_false : true ≡ false → ⊥
true_false e = cc

false_true : false ≡ true → ⊥
false_true e = cc

-- nothing has any effect
pub turn_idle : (old : Core) (told : Told) (bytes text : List ℕ) → bytes ≡ [] → text ≡ [] → old.progress.over ≡ true → IsTurn Whole old told bytes text old
turn_idle old told bytes text none blank off = record {
  leads = λ c at.
      let P : Bool → Type 0 = λ b. ActsUnless b c told c in (
        c,
        subst P (sym off ∙ ap (λ (p : ClientProgress). p.over) at.progress) refl,
        at,
        ([], nothing_more (spells (items_said c.sent)) bytes none, λ w. refl),
        ([], nothing_more (text_shown c.history) text blank, λ w. refl),
      );
  over = λ e. absurd (true_false e);
  stays = λ e. e;
  idle = λ e. (none, blank, refl);
}
  where
    nothing_more : (xs ys : List ℕ) → ys ≡ [] → xs ≡ xs ++ (ys ++ [])
    nothing_more xs ys e = sym (append-nil xs) ∙ ap (λ (zs : List ℕ). xs ++ zs) (sym (append-nil ys ∙ e))

-- the bytes that go to the network are those of the history before it was closed
sends_as : (b all : Bool) (c next : Run) (bytes part rest : List ℕ) → next.sent ≡ sent_after b c.sent next.history → (b ≡ false → c.sent ≡ c.history)
    → bytes ≡ sent_bytes b part → spells (items_said next.history) ≡ spells (items_said c.history) ++ (part ++ rest) → (all ≡ true → rest ≡ [])
    → SendsPrefix c next bytes all
sends_as true all c next bytes part rest is latest e said none =
    let S : List ℕ = spells (items_said c.sent) in (
      [],
      ap (λ (h : History). spells (items_said h)) is ∙ sym (append-nil S) ∙ ap (λ (zs : List ℕ). S ++ zs) (sym (append-nil bytes ∙ e)),
      λ w. refl,
    )
sends_as false all c next bytes part rest is latest e said none = (
  rest,
  ap (λ (h : History). spells (items_said h)) is ∙ said ∙ ap (λ (h : History). spells (items_said h) ++ (part ++ rest)) (sym (latest refl))
      ∙ ap (λ (zs : List ℕ). spells (items_said c.sent) ++ (zs ++ rest)) (sym e),
  none,
)

pub turn_whole : (old new : Core) (told : Told) (x y u v bytes : List ℕ) → x ≡ [] → u ≡ [] → old.progress.over ≡ false
    → bytes ≡ sent_bytes old.progress.closed y → DoesWhole old told x y u v new → IsTurn Whole old told bytes v new
turn_whole old new told x y u v bytes none blank on drops h = record {
  leads = λ c at.
      let l = h.leads c at in
      let shut : old.progress.closed ≡ c.progress.closed = ap (λ (p : ClientProgress). p.closed) at.progress in
      let part = from_none x y (spells h.said) none h.appended in
      let gives : bytes ≡ sent_bytes c.progress.closed (spells h.said) =
      drops ∙ ap (λ (b : Bool). sent_bytes b y) shut ∙ ap (sent_bytes c.progress.closed) part in (
        l.0,
        l.1,
        l.2,
        sends_as c.progress.closed true c l.0 bytes (spells h.said) [] l.3 (at.live on).latest gives
            (all_spelled (items_said c.history) (items_said l.0.history) h.said l.4) (λ w. refl),
        ([], l.5 ∙ ap (λ (bs : List ℕ). text_shown c.history ++ bs) (sym (append-nil v ∙ from_none u v h.text blank h.displayed)), λ w. refl),
      );
  over = λ e. absurd (true_false e);
  stays = λ e. absurd (true_false (sym e ∙ on));
  idle = λ e. absurd (true_false (sym e ∙ on));
}

pub turn_refused : (old mid new : Core) (told : Told) (f : ClientFault) (x y u v bytes : List ℕ) → x ≡ [] → u ≡ [] → old.progress.over ≡ false
    → bytes ≡ sent_bytes old.progress.closed y → StopsWithin old told x y u v mid → new ≡ record mid { progress = after_failure (fault.Client f) mid.progress }
    → RefusesFor old told f → IsTurn (Refused f) old told bytes v new
turn_refused old mid new told f x y u v bytes none blank on drops h is cause = record {
  leads = λ c at.
      let l = h.leads c at in
      let shut : old.progress.closed ≡ c.progress.closed = ap (λ (p : ClientProgress). p.closed) at.progress in
      let part = from_none x y h.part none h.appended in
      let gives : bytes ≡ sent_bytes c.progress.closed h.part = drops ∙ ap (λ (b : Bool). sent_bytes b y) shut ∙ ap (sent_bytes c.progress.closed) part in
      let next = fail (fault.Client f) l.0 in
      let over : new.progress.over ≡ true = ap (λ (core : Core). core.progress.over) is in (
        next,
        (sym (ap (λ (p : ClientProgress). p.over) at.progress) ∙ on, l.0, l.1, refl, cause c at),
        is_over next new over (ap (λ (core : Core). core.progress) is ∙ ap (after_failure (fault.Client f)) l.2),
        sends_as c.progress.closed false c next bytes h.part l.4.0 l.3 (at.live on).latest gives l.4.1 (λ w. absurd (false_true w)),
        (l.5.0, l.5.1 ∙ ap (λ (bs : List ℕ). text_shown c.history ++ (bs ++ l.5.0)) (sym (from_none u v h.text blank h.displayed)), λ w. absurd (false_true w)),
      );
  over = λ e. ap (λ (core : Core). core.progress.over) is;
  stays = λ e. absurd (true_false (sym e ∙ on));
  idle = λ e. absurd (true_false (sym e ∙ on));
}
