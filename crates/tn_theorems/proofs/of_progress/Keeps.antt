-- Each step of a server's session keeps what holds.
use Rattle.std.proofs.Common.{arith, ◌≡◌, ℕ, zero, suc, ◌+◌, ◌<◌, ◌≤◌, Bool, true, false, ◌||◌, refl, sym, subst}
use Rattle.tn_theorems.proofs.of_progress.Invariant.{Holds, many, is_handing}
use Rattle.tn_theorems.specs.progress.Server.{one, Term, receiving, writing, Kind, piece, take, State, Sizes, start, count_of}
use Rattle.tn_theorems.specs.progress.ServerSteps.{Choice, gives, refused_first, refused_last, Own, handles, writes_nothing, Outer, writes, MayGo, gone_on, MayBeLet}
use Rattle.tn_theorems.specs.progress.ServerSteps.{let_on, waits_behind, handled, written, is_few, broken, paid, Reached, at_start, goes_on, let_go}

at_term : (sizes : Sizes) (s : State) (t : Term) → s.term ≡ t → Holds sizes s → Holds sizes (record s { term = t })
at_term sizes s t e h = subst (λ (m : Term). Holds sizes (record s { term = m })) e h

-- a message is handled, once nothing has any effect any more, and before
late : (sizes : Sizes) (choice : Choice) (kind : Kind) (s : State) → Holds sizes (record s { term = receiving; over = true }) → 0 < count_of kind s.box
    → waits_behind kind s.box ≡ 0 → Holds sizes (handled choice kind (record s { term = receiving; over = true }))
late sizes choice piece s h some none = grind arith
late sizes choice kind s h some none = grind arith

by_message : (sizes : Sizes) (choice : Choice) (kind : Kind) (s : State) (over asks at_end : Bool) (waits : ℕ)
    → Holds sizes (record s { term = receiving; over = over; asks = asks; at_end = at_end; waits = waits })
    → 0 < count_of kind s.box → waits_behind kind s.box ≡ 0
    → Holds sizes (handled choice kind (record s { term = receiving; over = over; asks = asks; at_end = at_end; waits = waits }))
by_message sizes choice kind s true asks at_end waits h some none = late sizes choice kind (record s { asks = asks; at_end = at_end; waits = waits }) h some none
by_message sizes (gives zero) piece s false true at_end waits h some none = grind arith
by_message sizes (gives (suc more)) piece s false true at_end waits h some none = grind arith
by_message sizes refused_first piece s false asks at_end waits h some none = grind arith
by_message sizes refused_last piece s false true at_end waits h some none = grind arith
by_message sizes (gives more) take s false asks true zero h some none = grind arith
by_message sizes (gives more) take s false asks false zero h some none = grind arith
by_message sizes refused_last take s false asks true zero h some none = grind arith
by_message sizes refused_last take s false asks false zero h some none = grind arith
by_message sizes choice kind s over asks at_end waits h some none = grind arith

-- if not few wait, many do
not_few : (waits most : ℕ) → is_few waits most ≡ false → many waits most ≡ 1
not_few (suc waits) (suc most) e = not_few waits most e
not_few _ _ e = cc

covers : (a b : Bool) → (one a ≤ one (a || b)) × (one b ≤ one (a || b))
covers true true = grind arith
covers true false = grind arith
covers false true = grind arith
covers false false = grind arith

due_is : (owed p : Bool) (n : ℕ) → n + one owed + one p ≤ 1 → one (owed || p) ≡ one owed + one p
due_is owed p n few = grind arith

-- a write ended: a credit is due to Net, and the word to stop to Back
by_write : (sizes : Sizes) (s : State) (failed p last over owed asks few due : Bool) → one due ≡ one owed + one p
    → (few ≡ false → many s.waits sizes.before_piece ≡ 1)
    → Holds sizes (record s { term = writing p last; over = over; owed = owed; asks = asks })
    → (let t = broken failed over (record s { ends = s.ends + one last; term = receiving; over = over; owed = owed; asks = asks }) in
    Holds sizes (paid due (few || t.over) (record t { stop = t.stop || (t.over || t.at_end) })))
by_write sizes s true p last true owed asks true true e f h = let c = covers s.stop (true || s.at_end) in let d = covers true s.at_end in grind arith
by_write sizes s true p last false owed asks true true e f h = let c = covers s.stop (true || s.at_end) in let d = covers true s.at_end in grind arith
by_write sizes s false p last true owed asks true true e f h = let c = covers s.stop (true || s.at_end) in let d = covers true s.at_end in grind arith
by_write sizes s false p last false owed asks true true e f h = let c = covers s.stop (false || s.at_end) in let d = covers false s.at_end in grind arith
by_write sizes s false p last false owed asks false due e f h =
    let c = covers s.stop (false || s.at_end) in let d = covers false s.at_end in let m = f refl in grind arith
by_write sizes s failed p last over owed asks few due e f h =
    let c = covers s.stop ((failed || over) || s.at_end) in let d = covers (failed || over) s.at_end in grind arith

after_write : (sizes : Sizes) (s : State) (failed p last : Bool) → Holds sizes s → s.term ≡ writing p last → Holds sizes (written sizes failed p last s)
after_write sizes s failed p last h at =
    let i = at_term sizes s (writing p last) at h in
    by_write sizes s failed p last s.over s.owed s.asks (is_few s.waits sizes.before_piece) (s.owed || p)
    (due_is s.owed p (s.credits + (is_handing s.net + s.box.pieces)) (omega (arith, i.one_credit))) (not_few s.waits sizes.before_piece) i

-- a thread goes on by itself
pub keeps_own : (sizes : Sizes) (own : Own) (s : State) → Holds sizes s → MayGo sizes own s → Holds sizes (gone_on sizes own s)
keeps_own sizes (handles choice kind) s h (at, _, some, none) =
    by_message sizes choice kind s s.over s.asks s.at_end s.waits (at_term sizes s receiving at h) some none
keeps_own sizes (writes_nothing p last) s h (at, over) = after_write sizes s false p last h at
keeps_own sizes own s h may = grind arith

-- a thread goes on if it is let
pub keeps_let : (sizes : Sizes) (outer : Outer) (s : State) → Holds sizes s → MayBeLet outer s → Holds sizes (let_on sizes outer s)
keeps_let sizes (writes failed p last) s h at = after_write sizes s failed p last h at
keeps_let sizes outer s h at = grind arith

at_first : (sizes : Sizes) → Holds sizes (start sizes)
at_first sizes = grind arith

-- the facts hold of each state that is reached
pub holds : (sizes : Sizes) (s : State) → Reached sizes s → Holds sizes s
holds sizes u (at_start s e) = subst (λ (t : State). Holds sizes t) (sym e) (at_first sizes)
holds sizes u (goes_on s t r (own, may, e)) =
    subst (λ (v : State). Holds sizes v) (sym e) (keeps_own sizes own s (holds sizes s r) may)
holds sizes u (let_go s t r (outer, may, e)) =
    subst (λ (v : State). Holds sizes v) (sym e) (keeps_let sizes outer s (holds sizes s r) may)
