-- The end of a queue, and what is sent of it.
use Rattle.std.proofs.Common.{◌≡◌, ℕ, ◌≤◌, arith, length, take, Result, Ok, Err, OnOk, OnErr, Bool, true, false, not, List, [], ◌∷◌, ◌++◌, Option, Some, None}
use Rattle.std.proofs.Common.{option_map, refl, sym, ap, ◌∙◌, subst, append_assoc, append-nil}
use Rattle.std.specs.{Global.Vec, Option.is_some, Io.KnownBytes.{Appends, Keeps}, Vec.vec_items}
use Rattle.tn_cores.specs.queue.Queue.{more, put_more, taken_more}
use Rattle.tn_cores.proofs.lemmas.streams.Writing.{appends_more, appends_kept, take_all}
use Rattle.tn_net.specs.{Passing.Begins, Queue.WritesTaken}
use Rattle.tn_net.specs.Queue.{WritesAllTaken, WritesToTheEnd, Piece, Pieces, PieceHand, behind_end, bytes_of, count_behind, has_end, put_bytes, TakesOn}

pub there : {A : Type 0} (o : Option A) → (o ≡ None → ⊥) → (l : A) × (o ≡ Some l)
there None known = absurd (known refl)
there (Some l) known = (l, refl)

same_some : {A : Type 0} (a b : A) → Some a ≡ Some b → a ≡ b
same_some a b e = cc

-- PIECES AND THEIR BYTES

pub bytes_of-append : (ps qs : Pieces) → bytes_of (ps ++ qs) ≡ bytes_of ps ++ bytes_of qs
bytes_of-append [] qs = refl
bytes_of-append (Some p ∷ ps) qs = ap (λ (l : List ℕ). vec_items p ++ l) (bytes_of-append ps qs) ∙ sym (append_assoc (vec_items p) (bytes_of ps) (bytes_of qs))
bytes_of-append (None ∷ ps) qs = bytes_of-append ps qs

bytes_of-push : (ps : Pieces) (x : Vec ℕ) → bytes_of (ps ++ Some x ∷ []) ≡ bytes_of ps ++ vec_items x
bytes_of-push ps x = bytes_of-append ps (Some x ∷ []) ∙ ap (λ (l : List ℕ). bytes_of ps ++ l) (append-nil (vec_items x))

bytes_of-end : (ps : Pieces) → bytes_of (ps ++ None ∷ []) ≡ bytes_of ps
bytes_of-end ps = bytes_of-append ps (None ∷ []) ∙ append-nil (bytes_of ps)

-- THE END

has_end-push : (ps : Pieces) (x : Vec ℕ) → has_end (ps ++ Some x ∷ []) ≡ has_end ps
has_end-push [] x = refl
has_end-push (Some p ∷ ps) x = has_end-push ps x
has_end-push (None ∷ ps) x = refl

has_end-end : (ps : Pieces) → has_end (ps ++ None ∷ []) ≡ true
has_end-end [] = refl
has_end-end (Some p ∷ ps) = has_end-end ps
has_end-end (None ∷ ps) = refl

true_false : true ≡ false → ⊥
true_false e = cc

-- nothing follows what comes if no end was put
behind-more : (ps : Pieces) (x : Piece) → has_end ps ≡ false → behind_end (ps ++ x ∷ []) ≡ []
behind-more [] (Some x) e = refl
behind-more [] None e = refl
behind-more (Some p ∷ ps) x e = behind-more ps x e
behind-more (None ∷ ps) x e = absurd (true_false e)

-- the pieces that are put if no end was
pub put_there : (o : Option Pieces) (b : Bool) → option_map has_end o ≡ Some b → (l : Pieces) × (o ≡ Some l) × (has_end l ≡ b)
put_there None b e = absurd (none_some e)
  where
    none_some : None ≡ Some b → ⊥
    none_some e = cc
put_there (Some l) b e = (l, refl, same_some _ _ e)

abbrev pub is_end : Piece → Bool
is_end (Some piece) = false
is_end None = true

pub no_piece : (x : Piece) (b : Bool) → is_some x ≡ not b → is_end x ≡ b
no_piece (Some piece) false e = refl
no_piece None true e = refl
no_piece (Some piece) true e = absurd (cc)
no_piece None false e = absurd (cc)

has_end-more : (ps : Pieces) (x : Piece) → has_end ps ≡ false → has_end (ps ++ x ∷ []) ≡ is_end x
has_end-more ps (Some x) e = has_end-push ps x ∙ e
has_end-more ps None e = has_end-end ps

pub ends_with : (v w : PieceHand) (x : Piece) (l : Pieces) → v.put ≡ Some l → has_end l ≡ false → w ≡ put_more v x → option_map has_end w.put ≡ Some (is_end x)
ends_with v w x l mine none e =
    ap (λ (u : PieceHand). option_map has_end u.put) e ∙ ap (λ (o : Option Pieces). option_map has_end (more o x)) mine ∙ ap Some (has_end-more l x none)

pub none_behind : (v w : PieceHand) (x : Piece) (l : Pieces) → v.put ≡ Some l → has_end l ≡ false → w ≡ put_more v x → count_behind w.put ≡ 0
none_behind v w x l mine none e =
    ap (λ (u : PieceHand). count_behind u.put) e ∙ ap (λ (o : Option Pieces). count_behind (more o x)) mine ∙ ap length (behind-more l x none)

-- one piece more was put
pub put_appends : (v w : PieceHand) (x : Vec ℕ) (l : Pieces) (bytes : List ℕ) → v.put ≡ Some l → w ≡ put_more v (Some x) → vec_items x ≡ bytes
    → Appends (put_bytes v) (put_bytes w) bytes
put_appends v w x l bytes mine e is =
    let old : put_bytes v ≡ Some (bytes_of l) = ap (λ (o : Option Pieces). option_map bytes_of o) mine in
    let put : w.put ≡ Some (l ++ Some x ∷ []) = ap (λ (u : PieceHand). u.put) e ∙ ap (λ (o : Option Pieces). more o (Some x)) mine in
    let new : put_bytes w ≡ Some (bytes_of l ++ bytes) = ap (λ (o : Option Pieces). option_map bytes_of o) put
    ∙ ap Some (bytes_of-push l x ∙ ap (λ (b : List ℕ). bytes_of l ++ b) is) in
    rw old (rw new refl)

-- the end was put, which has no bytes
pub end_keeps : (v w : PieceHand) (l : Pieces) → v.put ≡ Some l → w ≡ put_more v None → put_bytes w ≡ put_bytes v
end_keeps v w l mine e =
    ap (λ (u : PieceHand). put_bytes u) e ∙ ap (λ (o : Option Pieces). option_map bytes_of (more o None)) mine ∙ ap Some (bytes_of-end l)
    ∙ sym (ap (λ (o : Option Pieces). option_map bytes_of o) mine)

pub end_either : {A E : Type 0} (r : Result A E) (v w : PieceHand) (l : Pieces) → v.put ≡ Some l → OnOk r (w ≡ put_more v None) → OnErr r (w ≡ v)
    → put_bytes w ≡ put_bytes v
end_either (Ok a) v w l mine put kept = end_keeps v w l mine put
end_either (Err e) v w l mine put kept = ap put_bytes kept

pub still_takes : (v w : PieceHand) (x : Piece) (l : Pieces) → v.taken ≡ Some l → w ≡ taken_more v x → w.taken ≡ Some (l ++ x ∷ [])
still_takes v w x l mine e = ap (λ (u : PieceHand). u.taken) e ∙ ap (λ (o : Option Pieces). more o x) mine

pub wrote_whole : (v w : PieceHand) (x : Vec ℕ) (l : Pieces) (bytes : List ℕ) → v.put ≡ Some l → w ≡ put_more v (Some x) → vec_items x ≡ bytes
    → Appends (put_bytes v) (put_bytes w) (take (length bytes) bytes)
wrote_whole v w x l bytes mine one is =
    let Q : List ℕ → Type 0 = λ bs. Appends (put_bytes v) (put_bytes w) bs in
    let all : length bytes ≤ length bytes = omega arith in
    subst Q (sym (take_all (length bytes) bytes all)) (put_appends v w x l bytes mine one is)

pub keeps_same : (a : Option (List ℕ)) → Keeps a a
keeps_same None = tt
keeps_same (Some x) = refl

-- WHAT WAS TAKEN

pub takes_none : (v : PieceHand) → TakesOn v [] v
takes_none v l mine = mine ∙ ap Some (sym (append-nil l))

pub takes_more : (u v w : PieceHand) (ps : Pieces) (x : Piece) → TakesOn u ps v → w ≡ taken_more v x → TakesOn u (ps ++ x ∷ []) w
takes_more u v w ps x on e l mine = still_takes v w x (l ++ ps) (on l mine) e ∙ ap Some (append_assoc l ps (x ∷ []))

pub takes_two : (u v w : PieceHand) (ps qs : Pieces) → TakesOn u ps v → TakesOn v qs w → TakesOn u (ps ++ qs) w
takes_two u v w ps qs one two l mine = two (l ++ ps) (one l mine) ∙ ap Some (append_assoc l ps qs)

-- AND SENT

pub all_more : (u v w : PieceHand) (x : Vec ℕ) (bytes : List ℕ) (a b b' d : Option (List ℕ)) → WritesAllTaken u v a b → w ≡ taken_more v (Some x) → b' ≡ b
    → bytes ≡ vec_items x → Appends b' d bytes → WritesAllTaken u w a d
all_more u v w x bytes a b b' d one e same is two =
    let P : Option (List ℕ) → Type 0 = λ o. Appends o d bytes in
    let Q : List ℕ → Type 0 = λ bs. Appends a d bs in
    let whole : bytes_of one.0 ++ bytes ≡ bytes_of (one.0 ++ Some x ∷ []) = ap (λ (l : List ℕ). bytes_of one.0 ++ l) is ∙ sym (bytes_of-push one.0 x) in
    (one.0 ++ Some x ∷ [], takes_more u v w one.0 (Some x) one.1 e, subst Q whole (appends_more a b d (bytes_of one.0) bytes one.2 (subst P same two)))

pub all_kept : (u v w : PieceHand) (a b d : Option (List ℕ)) → WritesAllTaken u v a b → w ≡ v → Keeps b d → WritesAllTaken u w a d
all_kept u v w a b d one e kept =
    let P : PieceHand → Type 0 = λ h. TakesOn u one.0 h in
    (one.0, subst P (sym e) one.1, appends_kept a b d (bytes_of one.0) one.2 kept)

pub all_ended : (u v w : PieceHand) (a b b' d : Option (List ℕ)) → WritesAllTaken u v a b → w ≡ taken_more v None → b' ≡ b → Keeps b' d → WritesToTheEnd u w a d
all_ended u v w a b b' d one e same kept =
    (one.0, takes_more u v w one.0 None one.1 e, appends_kept a b d (bytes_of one.0) one.2 (subst (λ (o : Option (List ℕ)). Keeps o d) same kept))

pub end_written : (u v : PieceHand) (a b : Option (List ℕ)) → WritesToTheEnd u v a b → WritesTaken u v a b
end_written u v a b one = (one.0 ++ None ∷ [], bytes_of one.0, one.1, ([], append-nil (bytes_of one.0) ∙ sym (bytes_of-end one.0)), one.2)

pub all_written : (u v : PieceHand) (a b : Option (List ℕ)) → WritesAllTaken u v a b → WritesTaken u v a b
all_written u v a b one = (one.0, bytes_of one.0, one.1, ([], append-nil (bytes_of one.0)), one.2)

pub broken : (u v w : PieceHand) (x : Vec ℕ) (bytes : List ℕ) (a b b' d : Option (List ℕ)) → WritesAllTaken u v a b → w ≡ taken_more v (Some x) → b' ≡ b
    → bytes ≡ vec_items x → Begins b' d bytes → WritesTaken u w a d
broken u v w x bytes a b b' d one e same is two =
    let P : Option (List ℕ) → Type 0 = λ o. Appends o d two.0 in
    let whole : two.0 ++ two.1.0 ≡ vec_items x = two.1.1 ∙ is in (
      one.0 ++ Some x ∷ [],
      bytes_of one.0 ++ two.0,
      takes_more u v w one.0 (Some x) one.1 e,
      (two.1.0, append_assoc (bytes_of one.0) two.0 two.1.0 ∙ ap (λ (l : List ℕ). bytes_of one.0 ++ l) whole ∙ sym (bytes_of-push one.0 x)),
      appends_more a b d (bytes_of one.0) two.0 one.2 (subst P same two.2),
    )

pub discarded : (u v w : PieceHand) (a b b' d : Option (List ℕ)) → WritesTaken u v a b → ((qs : Pieces) × TakesOn v qs w) → b' ≡ b → Keeps b' d
    → WritesTaken u w a d
discarded u v w a b b' d one two same kept = (
  one.0 ++ two.0,
  one.1,
  takes_two u v w one.0 two.0 one.2 two.1,
  (
    one.3.0 ++ bytes_of two.0,
    sym (append_assoc one.1 one.3.0 (bytes_of two.0)) ∙ ap (λ (l : List ℕ). l ++ bytes_of two.0) one.3.1
        ∙ sym (bytes_of-append one.0 two.0),
  ),
  appends_kept a b d one.1 one.4 (let P : Option (List ℕ) → Type 0 = λ o. Keeps o d in subst P same kept),
)
