-- The core keeps, at a message, each fact that keys, new lines, sizes, commands and items keep, of the
-- history whose replies go to the network.
use Rattle.std.proofs.Common.{◌≡◌, ℕ, Bool, true, false, Option, Some, None, List, [], ◌∷◌, ◌++◌, refl, sym, ap, ◌∙◌, subst, append_assoc}
use Rattle.tn_client.proofs.lemmas.Histories.{items-gets}
use Rattle.tn_client.specs.Events as events
use Rattle.tn_client.specs.{Events.{History, next, typed, entered, got, resized, items, gets}, declared.commands.UserCommand.UserCommand}
use Rattle.tn_cores.specs.{client.{Commands.{command_of, event_by, event_of}, Counting.after_message, Marks.Turns}, declared.client.messages.Origin.Origin}
use Rattle.tn_cores.specs.{client.Run.{Run, Acts, ActsUnless, types, sent_after}, declared.client.messages.{ClientMark.ClientMark, Told.Told}}
use Rattle.tn_cores.specs.declared.{client.{messages.Origin.TheVariants.{Keys, Net}, progress.ClientProgress.ClientProgress}, messages.Message.Message}
use Rattle.tn_cores.specs.declared.messages.Message.TheVariants.{Piece, HangUp, ReadFailed, Take, Said, Refused, Left, Resized, Asked}
use Rattle.tn_cores.specs.declared.client.messages.ClientMark.TheVariants as mark
use Rattle.tn_nvt.specs.{declared.items.Item.Item, Prefixes.IsPrefixOf}

pub record ClientKeeps (T : History → Type 0) (said : List Item) : Type 0 where
  pub types_on : (h : History) (key : ℕ) → T h → T (next h (typed key))
  pub resizes : (h : History) (width height : ℕ) → T h → T (next h (resized width height))
  pub sends : (h : History) (command : UserCommand) → T h → T (next h (events.sent command))
  pub enters : (h : History) → T h → T (next h entered)
  pub comes : (h : History) (x : Item) → IsPrefixOf (items h ++ x ∷ []) said → T h → T (next h (got x))

-- as long as replies go to the network, they are those of all that happened
pub record ClientAt (T : History → Type 0) (c : Run) : Type 0 where
  pub latest : c.progress.closed ≡ false → c.sent ≡ c.history
  pub tied : T c.sent

-- once closed, a client stays so
pub opens : (from : Origin) (m : Message) (p : ClientProgress) → (after_message from m p).closed ≡ false → p.closed ≡ false
opens Net (Piece piece) p e = e
opens Net HangUp p e = e
opens Net ReadFailed p e = e
opens Net Take p e = e
opens Net (Said job text after) p e = e
opens Net Refused p e = e
opens Net Left p e = e
opens Net (Resized size) p e = e
opens Net (Asked control) p e = e
opens Keys (Piece piece) p e = e
opens Keys HangUp p e = e
opens Keys ReadFailed p e = e
opens Keys Take p e = e
opens Keys (Said job text after) p e = e
opens Keys Refused p e = e
opens Keys Left p e = cc
opens Keys (Resized size) p e = e
opens Keys (Asked control) p e = e

pub sent_latest : (b : Bool) (sent h : History) → b ≡ false → sent_after b sent h ≡ h
sent_latest true sent h e = cc
sent_latest false sent h e = refl

module _ (T : History → Type 0) (said : List Item) (s : ClientKeeps T said) where
  all_asked : (h : History) (command : Option UserCommand) → T h → T (next h (event_by command))
  all_asked h (Some command) at = s.sends h command at
  all_asked h None at = s.enters h at

  all_typed : (h : History) (keys : List ℕ) → T h → T (types h keys)
  all_typed h [] t = t
  all_typed h (key ∷ keys) t = all_typed (next h (typed key)) keys (s.types_on h key t)

  all_come : (h : History) (xs : List Item) → IsPrefixOf (items h ++ xs) said → T h → T (gets h xs)
  all_come h [] p t = t
  all_come h (x ∷ xs) p t =
      let whole = ap (λ (l : List Item). l ++ p.0) (append_assoc (items h) (x ∷ []) xs) ∙ p.1 in
      all_come (next h (got x)) xs (p.0, whole) (s.comes h x (xs ++ p.0, sym (append_assoc (items h ++ x ∷ []) xs p.0) ∙ whole) t)

  sent_tied : (b : Bool) (sent h later : History) → (b ≡ false → sent ≡ h) → T sent → (T h → T later) → T (sent_after b sent later)
  sent_tied true sent h later latest t step = t
  sent_tied false sent h later latest t step = step (subst T (latest refl) t)

  same_run : (c new : Run) → new ≡ c → ClientAt T c → ClientAt T new
  same_run c new e t = subst (λ (r : Run). ClientAt T r) (sym e) t

  -- the history went on
  went_on : (c new : Run) (later : History) → new.sent ≡ sent_after c.progress.closed c.sent later → new.history ≡ later
      → new.progress.closed ≡ c.progress.closed → (T c.history → T later) → ClientAt T c → ClientAt T new
  went_on c new later e f g step t = record {
    latest = λ o. e ∙ sent_latest c.progress.closed c.sent later (sym g ∙ o) ∙ sym f;
    tied = subst T (sym e) (sent_tied c.progress.closed c.sent c.history later t.latest t.tied step);
  }

  -- the history stood still
  stood : (c new : Run) → new.sent ≡ c.sent → new.history ≡ c.history → (new.progress.closed ≡ false → c.progress.closed ≡ false) → ClientAt T c
      → ClientAt T new
  stood c new e f g t = record { latest = λ o. e ∙ t.latest (g o) ∙ sym f; tied = subst T (sym e) t.tied }

  turned : (c new : Run) (from : Origin) (m : Message) → new.sent ≡ c.sent → new.history ≡ c.history → new.progress ≡ after_message from m c.progress
      → ClientAt T c → ClientAt T new
  turned c new from m e f g t = stood c new e f (λ o. opens from m c.progress (sym (ap (λ (p : ClientProgress). p.closed) g) ∙ o)) t

  acts : (c new : Run) (from : Origin) (m : Message) → Acts c from m new → IsPrefixOf (items new.history) said → ClientAt T c → ClientAt T new
  acts c new Keys (Piece piece) a p t =
      went_on c new (types c.history piece) (ap (λ (r : Run). r.sent) a) (ap (λ (r : Run). r.history) a) (ap (λ (r : Run). r.progress.closed) a)
      (all_typed c.history piece) t
  acts c new Net (Piece piece) a p t =
      let at = ap (λ (r : Run). r.history) a.2 in
      let first = subst (λ (l : List Item). IsPrefixOf l said) (ap items at ∙ items-gets c.history a.0) p in
      went_on c new (gets c.history a.0) (ap (λ (r : Run). r.sent) a.2) at (ap (λ (r : Run). r.progress.closed) a.2) (all_come c.history a.0 first) t
  acts c new from HangUp a p t = turned c new from HangUp (ap (λ (r : Run). r.sent) a) (ap (λ (r : Run). r.history) a) (ap (λ (r : Run). r.progress) a) t
  acts c new from ReadFailed a p t = turned c new from ReadFailed (ap (λ (r : Run). r.sent) a) (ap (λ (r : Run). r.history) a)
      (ap (λ (r : Run). r.progress) a) t
  acts c new from Take a p t = turned c new from Take (ap (λ (r : Run). r.sent) a) (ap (λ (r : Run). r.history) a) (ap (λ (r : Run). r.progress) a) t
  acts c new from (Said job text after) a p t = turned c new from (Said job text after) (ap (λ (r : Run). r.sent) a) (ap (λ (r : Run). r.history) a)
      (ap (λ (r : Run). r.progress) a) t
  acts c new from Refused a p t = turned c new from Refused (ap (λ (r : Run). r.sent) a) (ap (λ (r : Run). r.history) a) (ap (λ (r : Run). r.progress) a) t
  acts c new from (Resized size) a p t =
      went_on c new (next c.history (resized size.width size.height)) (ap (λ (r : Run). r.sent) a) (ap (λ (r : Run). r.history) a)
      (ap (λ (r : Run). r.progress.closed) a) (s.resizes c.history size.width size.height) t
  acts c new Keys (Asked control) a p t =
      went_on c new (next c.history (event_of control)) (ap (λ (r : Run). r.sent) a) (ap (λ (r : Run). r.history) a)
      (ap (λ (r : Run). r.progress.closed) a) (all_asked c.history (command_of control)) t
  acts c new Net (Asked control) a p t = same_run c new a t
  acts c new from Left a p t = turned c new from Left (ap (λ (r : Run). r.sent) a) (ap (λ (r : Run). r.history) a) (ap (λ (r : Run). r.progress) a) t

  handles : (o : Bool) (c new : Run) (x : Told) → ActsUnless o c x new → IsPrefixOf (items new.history) said → ClientAt T c → ClientAt T new
  handles true c new x a p t = same_run c new a t
  handles false c new x a p t = acts c new x.from x.message a p t

  failed : (c whole new : Run) (x : Told) → ActsUnless c.progress.over c x whole → new.sent ≡ whole.sent → new.history ≡ whole.history
      → new.progress.closed ≡ whole.progress.closed → IsPrefixOf (items new.history) said → ClientAt T c → ClientAt T new
  failed c whole new x a e f g p t =
      stood whole new e f (λ o. sym g ∙ o) (handles c.progress.over c whole x a (subst (λ (h : History). IsPrefixOf (items h) said) f p) t)

  pub client_turns : (c new : Run) (x : Told) (k : ClientMark) → Turns c (x, k) new → IsPrefixOf (items new.history) said → ClientAt T c → ClientAt T new
  client_turns c new x mark.Whole a p t = handles c.progress.over c new x a p t
  client_turns c new x mark.WriteFailed a p t = failed c a.1 new x a.2 (ap (λ (r : Run). r.sent) a.3) (ap (λ (r : Run). r.history) a.3)
      (ap (λ (r : Run). r.progress.closed) a.3) p t
  client_turns c new x mark.ShowFailed a p t = failed c a.1 new x a.2 (ap (λ (r : Run). r.sent) a.3) (ap (λ (r : Run). r.history) a.3)
      (ap (λ (r : Run). r.progress.closed) a.3) p t
  client_turns c new x (mark.Refused f) a p t = failed c a.1 new x a.2 (ap (λ (r : Run). r.sent) a.3) (ap (λ (r : Run). r.history) a.3)
      (ap (λ (r : Run). r.progress.closed) a.3) p t
