-- The history of the end goes on, one call after another.
use Rattle.std.proofs.Common.{◌≡◌, ℕ, ◌+◌, ◌≤◌, min, nat_le, Bool, true, false, List, [], ◌∷◌, ◌++◌, length, refl, sym, ap, ◌∙◌, subst, arith, append-nil}
use Rattle.std.proofs.{Common.{append_assoc, length-append, length-take, length-drop, if◌then◌else◌}, lemmas.List.length-map}
use Rattle.tn_discipline.specs.declared.echo.Symbol.{Symbol}
use Rattle.tn_nvt.proofs.lemmas.Reading.{spells-append}
use Rattle.tn_nvt.specs.{Spelling.spells, declared.items.Item.Item}
use Rattle.tn_pty.specs.Terminal.{queue_with}
use Rattle.tn_server.specs.{Course.{in_parts, IsCall}, Events.{Event, History, begun, next, got, wrote, pulled}, Replies.{items_said, replies}, Screen.queue}
use Rattle.tn_server.specs.{Calls.{End, LeadsTo}, Steps.{end_after, says}}
use Rattle.tn_server.proofs.lemmas.{Courses.calls_read, Gathering.call_keeps, Leading.{stands, says_as}}
use Rattle.tn_cores.specs.server.{Reaching.FollowsPath, Run.flushed_history}

bounded_if : (b : Bool) (q s : List Symbol) → nat_le (length q + length s) 4096 ≡ b → length q ≤ 4096 → length (if b then q ++ s else q) ≤ 4096
bounded_if true q s e old = grind (arith, length-append q s)
bounded_if false q s e old = old

bounded_fitted : (q s : List Symbol) → length q ≤ 4096 → length (queue_with q s) ≤ 4096
bounded_fitted q s old = bounded_if (nat_le (length q + length s) 4096) q s refl old

-- the queue never holds more than 4,096 symbols
pub queue_bound : (h : History) → length (queue h) ≤ 4096
queue_bound (begun o s) = omega arith
queue_bound (next h (got item)) = bounded_fitted (queue h) _ (queue_bound h)
queue_bound (next h (wrote bytes)) = let old = queue_bound h in grind (arith, length-append, length-map, length-take, old)
queue_bound (next h (pulled n)) = let old = queue_bound h in grind (arith, length-drop, old)
queue_bound (next h _) = queue_bound h

-- a call of the end
pub follows_call : (old new : End) (e : Event) (before after : List ℕ) → IsCall e → new ≡ end_after old e → after ≡ before ++ spells (says old e)
    → FollowsPath (λ h. next h e) old before after new
follows_call old new e before after call step said =
    let keeps = step ∙ call_keeps old e in
    record {
      said = says old e;
      appended = said;
      sends = λ h s. ap (λ (xs : List Item). items_said h ++ xs) (says_as h old e s);
      leads = λ h s. subst (LeadsTo (next h e)) (sym step) (stands h old e s);
      decoder = ap (λ (x : End). x.decoder) keeps;
      failed = ap (λ (x : End). x.failed) keeps;
      closed = ap (λ (x : End). x.terminal.closed) keeps;
      items = λ h. calls_read h e call;
      settings = λ h. refl;
    }

pub follows_pulled : (old new : End) (n : ℕ) (before after : List ℕ) → new ≡ end_after old (pulled n) → after ≡ before ++ spells (says old (pulled n))
    → n ≡ min 4096 (length old.terminal.queue) → FollowsPath flushed_history old before after new
follows_pulled old new n before after step said count =
    let f = follows_call old new (pulled n) before after tt step said in
    record {
      said = f.said;
      appended = f.appended;
      sends = λ h s. ap (λ (m : ℕ). items_said h ++ replies h (pulled m)) (sym (all h s)) ∙ f.sends h s;
      leads = λ h s. let P : ℕ → Type 0 = λ m. LeadsTo (next h (pulled m)) new in subst P (all h s) (f.leads h s);
      decoder = f.decoder;
      failed = f.failed;
      closed = f.closed;
      items = λ h. refl;
      settings = λ h. refl;
    }
  where
    all : (h : History) → LeadsTo h old → n ≡ length (queue h)
    all h s = let b = queue_bound h in let c = count ∙ ap (λ (q : List Symbol). min 4096 (length q)) s.queue in omega (arith, b, c)

pub in_parts-push : (h : History) (parts : List (List ℕ)) (part : List ℕ)
    → in_parts h (parts ++ part ∷ []) ≡ flushed_history (next (in_parts h parts) (wrote part))
in_parts-push h [] part = refl
in_parts-push h (p ∷ parts) part = in_parts-push (flushed_history (next h (wrote p))) parts part

pub spelled_on : (x y z : List ℕ) (said more : List Item) → y ≡ x ++ spells said → z ≡ y ++ spells more → z ≡ x ++ spells (said ++ more)
spelled_on x y z said more one two =
    two ∙ ap (λ (bs : List ℕ). bs ++ spells more) one ∙ append_assoc x (spells said) (spells more)
    ∙ ap (λ (bs : List ℕ). x ++ bs) (sym (spells-append said more))

pub follows_then : (p q : History → History) (a b d : End) (x y z : List ℕ) → FollowsPath p a x y b → FollowsPath q b y z d → FollowsPath (λ h. q (p h)) a x z d
follows_then p q a b d x y z one two = record {
  said = one.said ++ two.said;
  appended = spelled_on x y z one.said two.said one.appended two.appended;
  sends = λ h s. two.sends (p h) (one.leads h s) ∙ ap (λ (xs : List Item). xs ++ two.said) (one.sends h s) ∙ append_assoc (items_said h) one.said two.said;
  leads = λ h s. two.leads (p h) (one.leads h s);
  decoder = two.decoder ∙ one.decoder;
  failed = two.failed ∙ one.failed;
  closed = two.closed ∙ one.closed;
  items = λ h. two.items (p h) ∙ one.items h;
  settings = λ h. two.settings (p h) ∙ one.settings h;
}

pub follows_none : (a : End) (x : List ℕ) → FollowsPath (λ h. h) a x x a
follows_none a x = record {
  said = [];
  appended = sym (append-nil x);
  sends = λ h s. sym (append-nil (items_said h));
  leads = λ h s. s;
  decoder = refl;
  failed = refl;
  closed = refl;
  items = λ h. refl;
  settings = λ h. refl;
}

pub in_parts-append : (h : History) (front back : List (List ℕ)) → in_parts h (front ++ back) ≡ in_parts (in_parts h front) back
in_parts-append h [] back = refl
in_parts-append h (p ∷ front) back = in_parts-append (flushed_history (next h (wrote p))) front back
