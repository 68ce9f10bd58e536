-- Pieces of this length make no more entries than may wait, also without the items of owned options.
use Rattle.std.proofs.Common.{◌≡◌, ◌≢◌, ◌⊎◌, inl, inr, ℕ, ◌+◌, ◌<◌, ◌≤◌, Bool, true, false, if◌then◌else◌, List, [], ◌∷◌, ◌++◌, length, refl, sym, ap, subst, ◌∙◌, arith}
use Rattle.std.proofs.{Common.{append_assoc, length-append}, lemmas.List.{length-take, Elements.{All-append, All-cons, All-filter, filter-append}}}
use Rattle.std.proofs.lemmas.List.Filters.{length-filter_both}
use Rattle.std.specs.Prelude.{All, IsTrue, min, take, not, flat_map}
use Rattle.tn_discipline.specs.declared.characters.CharFault.TheVariants as char
use Rattle.tn_nvt.specs.{Feeding.{DecoderState, LeadsTo}, Spelling.{spells, Fits}, declared.items.Item.{Item, TheVariants.Byte}}
use Rattle.tn_nvt.specs.Stream.{Segment, spelled, lone_cr, escaped, unread, cut, IsSegment, look_ahead, gives, Splits, Reading}
use Rattle.tn_nvt.proofs.lemmas.Reading.{one_reading, reads_on, reads_spelled, spells-append}
use Rattle.tn_pty.specs.declared.pty.PtyFault.TheVariants as pty
use Rattle.tn_server.specs.{Answering.{IsStopCause, StopsWithin}, Calls.End, Course.{Course, CourseLeadsTo, ReadsAs, stream}, Events.{History, gets, items}}
use Rattle.tn_server.specs.{Lines.waiting, Steps.end_after_items, declared.faults.ServerFault.ServerFault}
use Rattle.tn_server.specs.Calls as server
use Rattle.tn_server.specs.declared.faults.ServerFault.TheVariants as fault
use Rattle.tn_server.proofs.lemmas.{Room.{completes_few, waits_few}, Stopping.{has_read, many_wait}}
use Rattle.tn_c.specs.{parts.{Faults.server_code, ServerCalls.{FeedSomeCall, EndTakes, most_taken}}, declared.parts.{codes.Code.Code, server.HeldServer.HeldServer}}
use Rattle.tn_c.specs.parts.OwnOptions.{is_own, other_items, HasCome, SiftCall, Sifts}
use Rattle.tn_c.specs.declared.parts.codes.Code.TheVariants as code

-- a piece that is short enough is refused for another cause if few entries wait
abbrev FindsRoom : Type 0
FindsRoom =
    (c : Course) (h : History) (old new : End) (piece before after : List ℕ) (f : ServerFault) → All (λ b. b < 256) (stream c) → CourseLeadsTo c old
    → ReadsAs c h → length piece ≤ 512 → length (waiting h) ≤ 511 → StopsWithin old piece f before after new → f ≢ fault.Pty pty.TooFarAhead

-- only one fault has this code
only_ahead : (f : ServerFault) → code.TooFarAhead ≡ server_code f → f ≡ fault.Pty pty.TooFarAhead
only_ahead (fault.Pty pty.TooFarAhead) e = refl
only_ahead (fault.Pty pty.Memory) e = absurd cc
only_ahead (fault.Pty pty.Closed) e = absurd cc
only_ahead fault.Memory e = absurd cc
only_ahead fault.Failed e = absurd cc
only_ahead (fault.Char char.NotSettable) e = absurd cc
only_ahead (fault.Char char.Reserved) e = absurd cc
only_ahead (fault.Char char.Taken) e = absurd cc
only_ahead fault.NotOn e = absurd cc

not_done : code.TooFarAhead ≡ code.Done → ⊥
not_done e = cc

not_failed : code.TooFarAhead ≡ code.Failed → ⊥
not_failed e = cc

not_sifted : (code.TooFarAhead ≡ code.Done) ⊎ ((code.TooFarAhead ≡ code.Memory) ⊎ ((code.TooFarAhead ≡ code.Failed) ⊎ (code.TooFarAhead ≡ code.ItemsWait))) → ⊥
not_sifted (inl e) = not_done e
not_sifted (inr (inl e)) = absurd cc
not_sifted (inr (inr (inl e))) = not_failed e
not_sifted (inr (inr (inr e))) = absurd cc

none_ahead : (failed : Bool) → code.TooFarAhead ≡ (if failed then code.Failed else code.Done) → ⊥
none_ahead true e = cc
none_ahead false e = cc

-- WHAT IS READ FITS

none_fit : All Fits []
none_fit i d within = absurd (omega (arith, within))

gives_fit : (s : Segment) → IsSegment s → All Fits (gives s)
gives_fit (spelled item) is = All-cons Fits item [] is none_fit
gives_fit (lone_cr next) is = All-cons Fits (Byte 13) [] tt none_fit
gives_fit (escaped byte) is = none_fit
gives_fit (unread bytes) is = none_fit
gives_fit (cut bytes next) is = none_fit

splits_fit : (ss : List Segment) (rest bytes : List ℕ) → Splits ss rest bytes → All Fits (flat_map gives ss)
splits_fit [] rest bytes e = none_fit
splits_fit (s ∷ ss) rest bytes (after, is, e, more) =
    All-append Fits (gives s) (flat_map gives ss) (gives_fit s is) (splits_fit ss rest (look_ahead s ++ after) more)

read_fit : (bytes rest : List ℕ) (xs : List Item) → Reading bytes xs rest → All Fits xs
read_fit bytes rest xs r = subst (λ (l : List Item). All Fits l) (sym r.read) (splits_fit r.segments rest bytes r.splits)

-- THE ITEMS OF A PIECE WITHOUT THOSE OF OWNED OPTIONS

others_few : (options : List ℕ) (xs : List Item) → length (other_items options xs) ≤ length xs
others_few options xs = omega (arith, length-filter_both (is_own options) (λ item. not (is_own options item)) (λ item. refl) xs)

-- a prefix of the spelled others of a piece has few items
few_done : (options came piece front back end whole rest here : List ℕ) (read xs had some : List Item) → All (λ b. b < 256) came
    → Reading came read end → Reading (came ++ piece) (read ++ xs) whole → Reading (spells (other_items options read)) had rest
    → spells (other_items options xs) ≡ front ++ back → Reading (spells (other_items options read) ++ front) (had ++ some) here
    → length some ≤ length piece + 1
few_done options came piece front back end whole rest here read xs had some bytes first all before is now =
    let r : List Item = other_items options read in
    let x : List Item = other_items options xs in
    let parts : other_items options (read ++ xs) ≡ r ++ x = filter-append (λ item. not (is_own options item)) read xs in
    let fit : All Fits (r ++ x) =
    subst (λ (l : List Item). All Fits l) parts
    (All-filter (λ item. not (is_own options item)) Fits (read ++ xs) (read_fit (came ++ piece) whole (read ++ xs) all)) in
    let fits : All Fits r = All-filter (λ item. not (is_own options item)) Fits read (read_fit came end read first) in
    let text : spells (r ++ x) ≡ (spells r ++ front) ++ back =
    spells-append r x ∙ ap (λ (l : List ℕ). spells r ++ l) is ∙ sym (append_assoc (spells r) front back) in
    let reading : Reading ((spells r ++ front) ++ back) (r ++ x) [] = subst (λ (l : List ℕ). Reading l (r ++ x) []) text (reads_spelled (r ++ x) fit) in
    let on = reads_on (spells r ++ front) back here [] (had ++ some) (r ++ x) now reading in
    omega (
      arith,
      ap length (one_reading (spells r) rest [] had r before (reads_spelled r fits)).0,
      ap length on.1,
      length-append r x,
      length-append (had ++ some) on.0,
      length-append had some,
      others_few options xs,
      completes_few came piece read xs bytes (end, first) (whole, all),
    )

-- the item that finds too many waiting is one of those that are left
one_left : (end : End) (left : List Item) (here : DecoderState) (back : List ℕ) → IsStopCause end left here back (fault.Pty pty.TooFarAhead) → 1 ≤ length left
one_left end [] here back why = absurd (let f = why.0 in cc)
one_left end (item ∷ left) here back why = omega arith

-- the end that gets the others of a piece that is short enough is not too far ahead
others_fit : (c : Course) (came piece out_before out_after : List ℕ) (read : List Item) (before after : HeldServer) → All (λ b. b < 256) came
    → CourseLeadsTo c before.end → LeadsTo came read before.owned.decoder → stream c ≡ spells (other_items before.owned.sieve.options.items read)
    → (sifts : Sifts piece before.owned after.owned) → length piece ≤ 512 → ((h : History) → server.LeadsTo h before.end → length (waiting h) ≤ 511)
    → StopsWithin before.end after.owned.sieve.rest.items (fault.Pty pty.TooFarAhead) out_before out_after after.end → ⊥
others_fit c came piece out_before out_after read before after bytes a leads streams sifts short few s =
    let options : List ℕ = before.owned.sieve.options.items in
    let k = a.history in
    let old = before.end in
    let runs = has_read old.decoder (stream c) (items k) a.reads in
    let now = s.reads (stream c) (items k) a.reads in
    let after_all = sifts.adds came read leads in
    omega (
      arith,
      short,
      few k a.leads,
      many_wait k old after.end after.owned.sieve.rest.items out_before out_after (fault.Pty pty.TooFarAhead) s refl runs a.leads,
      one_left (end_after_items old s.done) s.left s.here s.back (s.cause runs),
      waits_few k s.done,
      length-append s.done s.left,
      few_done options came piece s.front s.back leads.rest after_all.rest a.reads.rest now.rest read sifts.items (items k) (s.done ++ s.left) bytes leads.reading
          after_all.reading (subst (λ (l : List ℕ). Reading l (items k) a.reads.rest) streams a.reads.reading) (sym sifts.rest ∙ s.whole)
          (subst (λ (l : List ℕ). Reading (l ++ s.front) (items k ++ (s.done ++ s.left)) now.rest) streams now.reading),
    )

-- A CALL

pub some_fit : FindsRoom → (c : Course) (came bytes : List ℕ) (old_taken new_taken : ℕ) (answer : Code) (before after : HeldServer)
    → All (λ b. b < 256) came → HasCome came (stream c) before.owned → CourseLeadsTo c before.end → FeedSomeCall bytes old_taken new_taken answer before after
    → answer ≢ code.TooFarAhead
some_fit room c came bytes old_taken new_taken answer before after small has leads (inl none) = λ is. none_ahead before.end.failed (sym is ∙ none.answers)
some_fit room c came bytes old_taken new_taken answer before after small has leads (inr first) = λ is.
    let n = min (length bytes) most_taken in
    let piece : List ℕ = take n bytes in
    let short : length piece ≤ 512 = omega (arith, length-take n bytes) in
    elim first.feeds.comes [
      | inl whole ↦
          let streams = has.whole whole.none in
          let halted = whole.takes.halts (λ e. not_done (sym is ∙ e)) (λ e. not_failed (sym is ∙ e)) in
          room c leads.history before.end after.end piece before.pending.items after.pending.items halted.0
          (subst (λ (l : List ℕ). All (λ b. b < 256) l) (sym streams) small) leads leads.reads_as short (first.few leads.history leads.leads) halted.2
          (only_ahead halted.0 (sym is ∙ halted.1))
      | inr (inl held) ↦
          elim held.cause [
            | inl failed ↦ not_failed (sym is ∙ failed.1)
            | inr sifted ↦ not_sifted (subst (λ (a : Code). (a ≡ code.Done) ⊎ ((a ≡ code.Memory) ⊎ ((a ≡ code.Failed) ⊎ (a ≡ code.ItemsWait)))) is sifted.1.codes)
          ]
      | inr (inr rest) ↦
          let halted = rest.takes.halts (λ e. not_done (sym is ∙ e)) (λ e. not_failed (sym is ∙ e)) in
          let read = has.sifted rest.owns in
          let stops =
          subst (λ (f : ServerFault). StopsWithin before.end after.owned.sieve.rest.items f before.pending.items after.pending.items after.end)
          (only_ahead halted.0 (sym is ∙ halted.1)) halted.2 in
          others_fit c came piece before.pending.items after.pending.items read.0 before after small leads read.1 read.2 (rest.sifts.ok refl) short first.few stops
    ]
