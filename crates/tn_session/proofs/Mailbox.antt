-- Each step of the mailbox keeps its rule.
use Rattle.std.proofs.Common.{◌≡◌, ◌⊎◌, ℕ, Bool, true, false, List, [], ◌∷◌, ◌++◌, Option, Some, None, refl, sym, ap, ◌∙◌, subst, inl, inr, append_assoc}
use Rattle.std.proofs.Common.{append-nil}
use Rattle.tn_session.specs.declared.workers.{mail.{Sender.{Sender, TheVariants.{Net, Desk, Back, Keys}}, Mail.Mail}, channels.View.View}
use Rattle.tn_session.specs.workers.Mailbox.{same, from, Interleaves, share, Woven, add, grown, grown_at, handed, nobody, everyone, union, either, Total}
use Rattle.tn_session.specs.workers.Mailbox.{sender, with_handled, four}
use Rattle.crossbeam_channel.specs.Fifo.{Pushes, Pops, Forks, Merges, Learns}
use Rattle.tn_cores.specs.streams.Seats.{Kept}
use Rattle.tn_cores.proofs.lemmas.streams.Seats.{or_held, same_held, begins, learns, moves, Cuts, forks, merges}

pub same_true : (a b : Sender) → same a b ≡ true → a ≡ b
same_true Net Net e = refl
same_true Desk Desk e = refl
same_true Back Back e = refl
same_true Keys Keys e = refl
same_true _ _ e = absurd (cc)

pub from-append : (s : Sender) (a b : List Mail) → from s (a ++ b) ≡ from s a ++ from s b
from-append s [] b = refl
from-append s (x ∷ xs) b = at_test (from-append s xs b) (same x.from s) refl
  where
    at_test : from s (xs ++ b) ≡ from s xs ++ from s b → (t : Bool) → same x.from s ≡ t → from s ((x ∷ xs) ++ b) ≡ from s (x ∷ xs) ++ from s b
    at_test ih true e = rw e (ap (λ (l : List Mail). x ∷ l) ih)
    at_test ih false e = rw e ih

is_some : {A : Type 0} (a b : A) → Some a ≡ Some b → a ≡ b
is_some a b e = cc

pub starts : Kept share Woven [] (everyone ∷ [])
starts = begins share Woven everyone empty (λ s. refl)
  where
    empty : (r : Option Sender) (l : List Mail) → share everyone r ≡ Some l → l ≡ []
    empty None l e = sym (is_some _ _ e)
    empty (Some Net) l e = sym (is_some _ _ e)
    empty (Some Desk) l e = sym (is_some _ _ e)
    empty (Some Back) l e = sym (is_some _ _ e)
    empty (Some Keys) l e = sym (is_some _ _ e)

-- the mail is put into its sender's list
grown_core : (f : Sender) (v : View) (x : Mail) → share (grown_at f v x) None ≡ share v None
grown_core Net v x = refl
grown_core Desk v x = refl
grown_core Back v x = refl
grown_core Keys v x = refl

grown_here : (f : Sender) (v : View) (x : Mail) → share (grown_at f v x) (Some f) ≡ add (share v (Some f)) x
grown_here Net v x = refl
grown_here Desk v x = refl
grown_here Back v x = refl
grown_here Keys v x = refl

grown_else : (f s : Sender) (v : View) (x : Mail) → same f s ≡ false → share (grown_at f v x) (Some s) ≡ share v (Some s)
grown_else Net Net v x e = absurd (cc)
grown_else Desk Desk v x e = absurd (cc)
grown_else Back Back v x e = absurd (cc)
grown_else Keys Keys v x e = absurd (cc)
grown_else Net _ v x e = refl
grown_else Desk _ v x e = refl
grown_else Back _ v x e = refl
grown_else Keys _ v x e = refl

add_role : (o : Option (List Mail)) (x : Mail) (l : List Mail) → add o x ≡ Some l → (k : List Mail) × (o ≡ Some k)
add_role None x l e = absurd (cc)
add_role (Some k) x l e = (k, refl)

grown_role : (f : Sender) (v : View) (x : Mail) (r : Option Sender) (l : List Mail) → share (grown_at f v x) r ≡ Some l → (k : List Mail) × (share v r ≡ Some k)
grown_role f v x None l e = (l, sym (grown_core f v x) ∙ e)
grown_role f v x (Some s) l e = at_test (same f s) refl
  where
    at_test : (t : Bool) → same f s ≡ t → (k : List Mail) × (share v (Some s) ≡ Some k)
    at_test true is = let eq : f ≡ s = same_true f s is in
        subst (λ (z : Sender). (k : List Mail) × (share v (Some z) ≡ Some k)) eq
        (add_role (share v (Some f)) x l (sym (grown_here f v x) ∙ subst (λ (z : Sender). share (grown_at f v x) (Some z) ≡ Some l) (sym eq) e))
    at_test false is = (l, sym (grown_else f s v x is) ∙ e)

-- the interleaving after a send
sent_woven : (v : View) (x : Mail) (l : List Mail) → share v (Some x.from) ≡ Some l → (items : List Mail) (held : Option Sender → List Mail)
    → ((r : Option Sender) (k : List Mail) → share v r ≡ Some k → k ≡ held r) → Woven items held
    → Woven (items ++ x ∷ []) (λ r. or_held (share (grown v x) r) (held r))
sent_woven v x l mine items held agrees woven s =
    let core : or_held (share (grown v x) None) (held None) ≡ held None =
    ap (λ (o : Option (List Mail)). or_held o (held None)) (grown_core x.from v x) ∙ same_held (share v None) (held None) (agrees None) in
    let split : from s (held None ++ (items ++ x ∷ [])) ≡ from s (held None ++ items) ++ from s (x ∷ []) =
    ap (from s) (sym (append_assoc (held None) items (x ∷ []))) ∙ from-append s (held None ++ items) (x ∷ []) in
    let rest : from s (held None ++ items) ++ from s (x ∷ []) ≡ or_held (share (grown v x) (Some s)) (held (Some s)) = at_test (same x.from s) refl in
    ap (λ (h : List Mail). from s (h ++ (items ++ x ∷ []))) core ∙ split ∙ rest
  where
    at_test : (t : Bool) → same x.from s ≡ t → from s (held None ++ items) ++ from s (x ∷ []) ≡ or_held (share (grown v x) (Some s)) (held (Some s))
    at_test true is =
        let eq : x.from ≡ s = same_true x.from s is in
        let one : from s (x ∷ []) ≡ x ∷ [] = rw is refl in
        let here : share v (Some s) ≡ Some l = subst (λ (z : Sender). share v (Some z) ≡ Some l) eq mine in
        let new : share (grown v x) (Some s) ≡ Some (l ++ x ∷ []) =
        subst (λ (z : Sender). share (grown v x) (Some z) ≡ add (share v (Some z)) x) eq (grown_here x.from v x)
        ∙ ap (λ (o : Option (List Mail)). add o x) here in
        ap (λ (k : List Mail). from s (held None ++ items) ++ k) one ∙ ap (λ (k : List Mail). k ++ x ∷ []) (woven s ∙ sym (agrees (Some s) l here))
        ∙ sym (ap (λ (o : Option (List Mail)). or_held o (held (Some s))) new)
    at_test false is =
        let nothing : from s (x ∷ []) ≡ [] = rw is refl in
        let old : or_held (share (grown v x) (Some s)) (held (Some s)) ≡ held (Some s) =
        ap (λ (o : Option (List Mail)). or_held o (held (Some s))) (grown_else x.from s v x is)
        ∙ same_held (share v (Some s)) (held (Some s)) (agrees (Some s)) in
        ap (λ (k : List Mail). from s (held None ++ items) ++ k) nothing ∙ append-nil (from s (held None ++ items)) ∙ woven s ∙ sym old

pub sends : (n pass : ℕ) (v : View) (x : Mail) (l : List Mail) → share v (Some x.from) ≡ Some l → Pushes (Kept share Woven) n pass v x (λ w. w ≡ grown v x)
sends n pass v x l mine items views room kept at = (
  grown v x,
  moves share Woven items (items ++ x ∷ []) views pass v (grown v x) (grown_role x.from v x)
      (λ held agrees woven. sent_woven v x l mine items held agrees woven) kept at,
  refl,
)

pub handles : (pass : ℕ) (v : View) (h : List Mail) → v.handled ≡ Some h → Pops (Kept share Woven) pass v (λ x w. w ≡ handed v x)
handles pass v h mine x items views kept at =
    (handed v x, moves share Woven (x ∷ items) items views pass v (handed v x) roles weave kept at, refl)
  where
    roles : (r : Option Sender) (l : List Mail) → share (handed v x) r ≡ Some l → (k : List Mail) × (share v r ≡ Some k)
    roles None l e = (h, mine)
    roles (Some Net) l e = (l, e)
    roles (Some Desk) l e = (l, e)
    roles (Some Back) l e = (l, e)
    roles (Some Keys) l e = (l, e)

    same_else : (s : Sender) → share (handed v x) (Some s) ≡ share v (Some s)
    same_else Net = refl
    same_else Desk = refl
    same_else Back = refl
    same_else Keys = refl

    weave : (held : Option Sender → List Mail) → ((r : Option Sender) (k : List Mail) → share v r ≡ Some k → k ≡ held r) → Woven (x ∷ items) held
        → Woven items (λ r. or_held (share (handed v x) r) (held r))
    weave held agrees woven s =
        let core : or_held (share (handed v x) None) (held None) ≡ held None ++ x ∷ [] =
        ap (λ (o : Option (List Mail)). or_held (add o x) (held None)) mine ∙ ap (λ (k : List Mail). k ++ x ∷ []) (agrees None h mine) in
        let old : or_held (share (handed v x) (Some s)) (held (Some s)) ≡ held (Some s) =
        ap (λ (o : Option (List Mail)). or_held o (held (Some s))) (same_else s) ∙ same_held (share v (Some s)) (held (Some s)) (agrees (Some s)) in
        ap (λ (k : List Mail). from s (k ++ items)) core ∙ ap (from s) (append_assoc (held None) (x ∷ []) items) ∙ woven s ∙ sym old

pub totals : (pass : ℕ) (v : View) → Learns (Kept share Woven) pass v (Total v)
totals pass v items views kept at s h l core mine =
    let all = learns share Woven items views pass v kept at in
    ap (λ (k : List Mail). from s (k ++ items)) (all.2 None h core) ∙ all.1 s ∙ sym (all.2 (Some s) l mine)

-- one sender's role is cut off
abbrev pub without : Sender → View → View
without Net v = record v { net = None }
without Desk v = record v { desk = None }
without Back v = record v { back = None }
without Keys v = record v { keys = None }

abbrev pub alone : Sender → View → View
alone Net v = record nobody { net = v.net }
alone Desk v = record nobody { desk = v.desk }
alone Back v = record nobody { back = v.back }
alone Keys v = record nobody { keys = v.keys }

pub cut : (s : Sender) (pass : ℕ) (v : View) → Forks (Kept share Woven) pass v (without s v) (alone s v)
cut s pass v items views kept at = forks share Woven pass v (without s v) (alone s v) (cuts s) items views kept at
  where
    cuts : (s : Sender) → Cuts share Woven v (without s v) (alone s v)
    cuts Net (Some Net) = inr (refl, refl)
    cuts Desk (Some Desk) = inr (refl, refl)
    cuts Back (Some Back) = inr (refl, refl)
    cuts Keys (Some Keys) = inr (refl, refl)
    cuts Net _ = inl (refl, refl)
    cuts Desk _ = inl (refl, refl)
    cuts Back _ = inl (refl, refl)
    cuts Keys _ = inl (refl, refl)

-- passes are joined
either_one : (a b : Option (List Mail)) (l : List Mail) → either a b ≡ Some l → (a ≡ Some l) ⊎ (b ≡ Some l)
either_one (Some k) b l e = inl e
either_one None b l e = inr e

pub joins : (pass : ℕ) (v : View) (other : ℕ) (w : View) → Merges (Kept share Woven) pass v other w (union v w) nobody
joins pass v other w items views kept at apart at' = merges share Woven pass v other w (union v w) nobody joined empty items views kept at apart at'
  where
    joined : (r : Option Sender) (l : List Mail) → share (union v w) r ≡ Some l → (share v r ≡ Some l) ⊎ (share w r ≡ Some l)
    joined None l e = either_one v.handled w.handled l e
    joined (Some Net) l e = either_one v.net w.net l e
    joined (Some Desk) l e = either_one v.desk w.desk l e
    joined (Some Back) l e = either_one v.back w.back l e
    joined (Some Keys) l e = either_one v.keys w.keys l e

    empty : (r : Option Sender) → share nobody r ≡ None
    empty None = refl
    empty (Some Net) = refl
    empty (Some Desk) = refl
    empty (Some Back) = refl
    empty (Some Keys) = refl

-- the view of one sender's pass
pub sender_share : (s : Sender) (l : List Mail) (v : View) → v ≡ sender s l → share v (Some s) ≡ Some l
sender_share Net l v e = ap (λ (w : View). w.net) e
sender_share Desk l v e = ap (λ (w : View). w.desk) e
sender_share Back l v e = ap (λ (w : View). w.back) e
sender_share Keys l v e = ap (λ (w : View). w.keys) e

pub handled_more : (v u w : View) (l : List Mail) (x : Mail) → u ≡ with_handled v l → w ≡ handed u x → w ≡ with_handled v (l ++ x ∷ [])
handled_more v u w l x old new = new ∙ ap (λ (y : View). handed y x) old

-- a pass with each role knows that what was handled, and then the mailbox, is an interleaving of what was sent
pub all_woven : (v : View) (h a b c d : List Mail) → v ≡ record { handled = Some h; net = Some a; desk = Some b; back = Some c; keys = Some d }
    → (items : List Mail) × Total v items → (items : List Mail) × Interleaves (h ++ items) (four a b c d)
all_woven v h a b c d is held = (held.0, λ s. held.1 s h (four a b c d s) (ap (λ (w : View). w.handled) is) (mine s))
  where
    mine : (s : Sender) → share v (Some s) ≡ Some (four a b c d s)
    mine Net = ap (λ (w : View). w.net) is
    mine Desk = ap (λ (w : View). w.desk) is
    mine Back = ap (λ (w : View). w.back) is
    mine Keys = ap (λ (w : View). w.keys) is
