-- One message with its mark.
use Rattle.std.proofs.Common.{◌≡◌, ℕ, Bool, true, false, List, [], ◌++◌, Option, refl, sym, ap, ◌∙◌, subst, append-nil, append_assoc}
use Rattle.tn_discipline.specs.declared.reads.Entry.{Entry}
use Rattle.tn_cores.proofs.{lemmas.Pieces.{from_none, all_spelled}, of_terminal.Doing.is_over}
use Rattle.tn_nvt.specs.{Spelling.spells, declared.items.Item.Item}
use Rattle.tn_server.specs.{Events.History, Replies.items_said, declared.faults.ServerFault.ServerFault}
use Rattle.tn_cores.specs.server.{Counting.{after_end, after_halt}, Marks.put_or_not, Reaching.{DoesWhole, StopsWithin, RefusesFor, IsTurn}}
use Rattle.tn_cores.specs.{server.Run.{Run, puts_of, ActsUnless, idle, idle_puts, fail, end_if}, declared.faults.Ended.TheVariants.Fault}
use Rattle.tn_cores.specs.declared.{server.messages.{ServerMark.TheVariants.{Whole, Refused}, Put.{Put, TheVariants.Nothing}}, messages.Message.Message}
use Rattle.tn_cores.specs.declared.server.{progress.ServerProgress.ServerProgress, terminal.Term.Term}
use Rattle.tn_cores.specs.declared.faults.SessionFault.TheVariants as fault

true_false : true ≡ false → ⊥
true_false e = cc

false_true : false ≡ true → ⊥
false_true e = cc

-- nothing has any effect
pub turn_idle : (old : Term) (message : Message) (bytes : List ℕ) (put : Put) → bytes ≡ [] → old.progress.over ≡ true → puts_of put ≡ idle_puts message
    → IsTurn Whole old message bytes put Nothing old
turn_idle old message bytes put none off is = record {
  leads = λ c at.
      let P : Bool → Type 0 = λ b. ActsUnless b c message (idle message c) in (
        idle message c,
        subst P (sym off ∙ ap (λ (p : ServerProgress). p.over) at.progress) refl,
        is_over (idle message c) old off at.progress,
        ap (λ (ps : List (Option Entry)). c.puts ++ ps) (sym (append-nil (puts_of put) ∙ is)),
        [],
        sym (append-nil (spells (items_said c.history))) ∙ ap (λ (bs : List ℕ). spells (items_said c.history) ++ bs) (sym (append-nil bytes ∙ none)),
        λ w. refl,
      );
  over = λ e. absurd (true_false e);
  stays = λ e. e;
  idle = λ e. (none, refl);
}

-- the bytes of a message that was done wholly
all_said : (h k : History) (x y : List ℕ) (said : List Item) → x ≡ [] → y ≡ x ++ spells said → items_said k ≡ items_said h ++ said
    → spells (items_said k) ≡ spells (items_said h) ++ (y ++ [])
all_said h k x y said none is e = all_spelled (items_said h) (items_said k) said e
    ∙ ap (λ (bs : List ℕ). spells (items_said h) ++ (bs ++ [])) (sym (from_none x y (spells said) none is))

pub turn_whole : (old new : Term) (message : Message) (x y : List ℕ) (put : Put) → x ≡ [] → old.progress.over ≡ false → DoesWhole old message x y put new
    → IsTurn Whole old message y put Nothing new
turn_whole old new message x y put none on h = record {
  leads = λ c at.
      let l = h.leads c at in (
        l.0,
        l.1,
        l.2,
        l.4 ∙ ap (λ (ps : List (Option Entry)). c.puts ++ ps) (sym (append-nil (puts_of put))),
        [],
        all_said c.history l.0.history x y h.said none h.appended l.3,
        λ w. refl,
      );
  over = λ e. absurd (true_false e);
  stays = λ e. absurd (true_false (sym e ∙ on));
  idle = λ e. absurd (true_false (sym e ∙ on));
}

same_history : (given : Bool) (m : Message) (c whole : Run) → (put_or_not given m c whole).history ≡ whole.history
same_history true m c whole = refl
same_history false m c whole = refl

pub turn_refused : (old mid new : Term) (message : Message) (f : ServerFault) (given : Bool) (x y : List ℕ) (put last : Put) → x ≡ []
    → old.progress.over ≡ false → StopsWithin old message given x y put mid → new.progress ≡ after_halt (after_end (Fault (fault.Server f)) mid.progress)
    → puts_of last ≡ end_if mid.progress.asks → RefusesFor old message f → IsTurn (Refused f given) old message y put last new
turn_refused old mid new message f given x y put last none on h is puts cause = record {
  leads = λ c at.
      let l = h.leads c at in
      let done = put_or_not given message c l.0 in
      let next = fail (fault.Server f) done in
      let over : new.progress.over ≡ true = ap (λ (p : ServerProgress). p.over) is in (
        next,
        (sym (ap (λ (p : ServerProgress). p.over) at.progress) ∙ on, l.0, l.1, refl, cause c at),
        is_over next new over (is ∙ ap (λ (p : ServerProgress). after_halt (after_end (Fault (fault.Server f)) p)) l.4),
        ap (λ (ps : List (Option Entry)). ps ++ end_if done.progress.asks) l.5 ∙ append_assoc c.puts (puts_of put) (end_if done.progress.asks)
            ∙ ap (λ (ps : List (Option Entry)). c.puts ++ (puts_of put ++ ps)) (ap (λ (p : ServerProgress). end_if p.asks) (sym l.4) ∙ sym puts),
        l.2,
        ap (λ (k : History). spells (items_said k)) (same_history given message c l.0) ∙ l.3
            ∙ ap (λ (bs : List ℕ). spells (items_said c.history) ++ (bs ++ l.2)) (sym (from_none x y h.part none h.appended)),
        λ w. absurd (false_true w),
      );
  over = λ e. ap (λ (p : ServerProgress). p.over) is;
  stays = λ e. absurd (true_false (sym e ∙ on));
  idle = λ e. absurd (true_false (sym e ∙ on));
}
