-- A sender's list, message by message, and that of a thread that reads.
use Rattle.std.proofs.Common.{◌≡◌, ◌≢◌, ℕ, Bool, true, false, List, [], ◌∷◌, ◌++◌, Option, Some, None, option_to_list, append-nil, refl, sym, ap, ◌∙◌, ⊎_elim}
use Rattle.std.proofs.{Common.{◌⊎◌, inl, inr, append_assoc, length, map, subst, All}, lemmas.List.{map-append, Elements.All-push}}
use Rattle.std.specs.{Io.KnownBytes.Consumes, List.concat}
use Rattle.tn_jobs.specs.declared.{held_jobs.JobId.JobId, verdicts.After.TheVariants.Stay}
use Rattle.tn_session.specs.{workers.{Mailbox.{mail, sender}, Reading.{sizes_in, controls_in}}, declared.workers.{channels.View.View, mail.Mail.Mail}}
use Rattle.tn_session.specs.workers.Reader.{Closes, TypingSends, SaysAll, SaysEnd, SaysLast, SaysThese, one_size, one_control, said_by, sends}
use Rattle.tn_session.specs.workers.Reading.{IsEnding, IsPiece, IsReadCause, Telling, piece_told, size_told, control_told, message_of, told_messages, pieces_in}
use Rattle.tn_session.specs.declared.workers.mail.Sender.{Sender}
use Rattle.tn_cores.specs.{streams.{Known.{KnownReader, KnownTyping}, Beside.{TellsNext, TellsList, TellsFirst}}, declared.streams.control.Control.Control}
use Rattle.tn_cores.specs.declared.{streams.window.WindowSize.WindowSize, messages.Message.Message}
use Rattle.tn_cores.specs.declared.messages.Message.TheVariants.{Piece, HangUp, ReadFailed, Take, Said, Refused, Left, Resized, Asked}

-- the message that one call of `say` sends
abbrev pub Says : Sender → Message → View → View → Type 0
Says who m v w = (l : List Mail) → v ≡ sender who l → w ≡ sender who (l ++ mail who m ∷ [])

pub said : (who : Sender) (ms : List Message) (m : Message) (v w : View) → v ≡ sends who ms → Says who m v w → w ≡ sends who (ms ++ m ∷ [])
said who ms m v w old says = says (map (mail who) ms) old ∙ ap (sender who) (sym (map-append (mail who) ms (m ∷ [])))

pub said_all : (who : Sender) (ms more : List Message) (v w : View) → v ≡ sends who ms → SaysAll who more v w → w ≡ sends who (ms ++ more)
said_all who ms more v w old says = says (map (mail who) ms) old ∙ ap (sender who) (sym (map-append (mail who) ms more))

-- these messages, and then one more
pub says_more : (who : Sender) (ms : List Message) (m : Message) (v w u : View) → SaysAll who ms v w → Says who m w u → SaysAll who (ms ++ m ∷ []) v u
says_more who ms m v w u one two l e =
    two (l ++ map (mail who) ms) (one l e) ∙ ap (sender who) (append_assoc l (map (mail who) ms) (mail who m ∷ []))
    ∙ ap (λ (ns : List Mail). sender who (l ++ ns)) (sym (map-append (mail who) ms (m ∷ [])))

-- the reader's last words, and then how the reading ended
pub says_end : (who : Sender) (job : Option JobId) (words : List (List ℕ)) (last end : Message) (said : List Message) (v w u t : View)
    → (end ≡ last) ⊎ (end ≡ Refused) → SaysLast job words end said → SaysAll who said v w → Says who end w u → Says who Left u t
    → SaysEnd who job words last v t
says_end who job words last end said v w u t is lasts one two three =
    let all = says_more who (said ++ end ∷ []) Left v u t (says_more who said end v w u one two) three in
    record {
      end = end;
      said = said;
      is = is;
      lasts = lasts;
      says = λ l e. all l e ∙ ap (λ (ms : List Message). sender who (l ++ map (mail who) ms)) (append_assoc said (end ∷ []) (Left ∷ []));
    }

-- if memory ran out, or no job sends them, nothing is sent
pub none_last : (job : Option JobId) (words : List (List ℕ)) → SaysLast job words Refused []
none_last None words = refl
none_last (Some job) words = refl

-- THE LAST WORDS OF A READER

-- nothing, or one text
abbrev pub IsSaid : List Message → Type 0
IsSaid said = (said ≡ []) ⊎ ((job : JobId) × (text : List ℕ) × (said ≡ Said job text Stay ∷ []))

by_text : (job : JobId) (words : List ℕ) (said : List Message) → said ≡ said_by job words → IsSaid said
by_text job [] said e = inl e
by_text job (byte ∷ bytes) said e = inr (job, byte ∷ bytes, e)

pub is_said : (job : Option JobId) (words : List (List ℕ)) (last : Message) (said : List Message) → SaysLast job words last said → IsSaid said
is_said None words last said e = inl e
is_said (Some job) words HangUp said (text, one, e) = by_text job text said e
is_said (Some job) words (Piece p) said e = inl e
is_said (Some job) words ReadFailed said e = inl e
is_said (Some job) words Take said e = inl e
is_said (Some job) words (Said id text after) said e = inl e
is_said (Some job) words Refused said e = inl e
is_said (Some job) words Left said e = inl e
is_said (Some job) words (Resized size) said e = inl e
is_said (Some job) words (Asked control) said e = inl e

-- a fact of both
pub if_said : (P : List Message → Type 0) (said : List Message) → IsSaid said → P [] → ((job : JobId) (text : List ℕ) → P (Said job text Stay ∷ []))
    → P said
if_said P said is none text =
    ⊎_elim (λ e. subst P (sym e) none) (λ x. subst P (sym x.2) (text x.0 x.1)) is

pub said_two : (who : Sender) (ms : List Message) (m n : Message) (v w u : View) → v ≡ sends who ms → Says who m v w → Says who n w u
    → u ≡ sends who (ms ++ m ∷ n ∷ [])
said_two who ms m n v w u old one two = said who (ms ++ m ∷ []) n w u (said who ms m v w old one) two ∙ ap (sends who) (append_assoc ms (m ∷ []) (n ∷ []))

pub said_three : (who : Sender) (ms : List Message) (m n o : Message) (v w u t : View) → v ≡ sends who ms → Says who m v w → Says who n w u → Says who o u t
    → t ≡ sends who (ms ++ m ∷ n ∷ o ∷ [])
said_three who ms m n o v w u t old one two three = said who (ms ++ m ∷ n ∷ []) o u t (said_two who ms m n v w u old one two) three
    ∙ ap (sends who) (append_assoc ms (m ∷ n ∷ []) (o ∷ []))

said_told : (who : Sender) (told : List Telling) (t : Telling) (v w : View) → v ≡ sends who (told_messages told) → Says who (message_of t) v w
    → w ≡ sends who (told_messages (told ++ t ∷ []))
said_told who told t v w old says = said who (told_messages told) (message_of t) v w old says ∙ ap (sends who) (sym (map-append message_of told (t ∷ [])))

pub said_piece : (who : Sender) (told : List Telling) (p : List ℕ) (v w : View) → v ≡ sends who (told_messages told) → Says who (Piece p) v w
    → w ≡ sends who (told_messages (told ++ piece_told p ∷ []))
said_piece who told p v w old says = said_told who told (piece_told p) v w old says

said_these : (who : Sender) (told more : List Telling) (v w : View) → v ≡ sends who (told_messages told) → SaysThese who more v w
    → w ≡ sends who (told_messages (told ++ more))
said_these who told more v w old says =
    says (map (mail who) (told_messages told)) old
    ∙ ap (sender who) (sym (map-append (mail who) (told_messages told) (told_messages more)))
    ∙ ap (sends who) (sym (map-append message_of told more))

-- one after the other
pub says_both : (who : Sender) (xs ys : List Telling) (v w u : View) → SaysThese who xs v w → SaysThese who ys w u → SaysThese who (xs ++ ys) v u
says_both who xs ys v w u one two l e =
    let first = map (mail who) (told_messages xs) in
    let second = map (mail who) (told_messages ys) in
    two (l ++ first) (one l e)
    ∙ ap (sender who) (append_assoc l first second)
    ∙ ap (λ (ms : List Mail). sender who (l ++ ms)) (sym (map-append (mail who) (told_messages xs) (told_messages ys)))
    ∙ ap (λ (ms : List Message). sender who (l ++ map (mail who) ms)) (sym (map-append message_of xs ys))

-- the reports among those of both
pieces-append : (xs ys : List Telling) → pieces_in (xs ++ ys) ≡ pieces_in xs ++ pieces_in ys
pieces-append [] ys = refl
pieces-append (piece_told p ∷ xs) ys = ap (λ (ps : List (List ℕ)). p ∷ ps) (pieces-append xs ys)
pieces-append (size_told s ∷ xs) ys = pieces-append xs ys
pieces-append (control_told c ∷ xs) ys = pieces-append xs ys

sizes-append : (xs ys : List Telling) → sizes_in (xs ++ ys) ≡ sizes_in xs ++ sizes_in ys
sizes-append [] ys = refl
sizes-append (piece_told p ∷ xs) ys = sizes-append xs ys
sizes-append (size_told s ∷ xs) ys = ap (λ (ss : List WindowSize). s ∷ ss) (sizes-append xs ys)
sizes-append (control_told c ∷ xs) ys = sizes-append xs ys

controls-append : (xs ys : List Telling) → controls_in (xs ++ ys) ≡ controls_in xs ++ controls_in ys
controls-append [] ys = refl
controls-append (piece_told p ∷ xs) ys = controls-append xs ys
controls-append (size_told s ∷ xs) ys = controls-append xs ys
controls-append (control_told c ∷ xs) ys = ap (λ (cs : List Control). c ∷ cs) (controls-append xs ys)

pub pieces-push : (told : List Telling) (p : List ℕ) → pieces_in (told ++ piece_told p ∷ []) ≡ pieces_in told ++ p ∷ []
pieces-push told p = pieces-append told (piece_told p ∷ [])

pub sizes-push : (told : List Telling) (p : List ℕ) → sizes_in (told ++ piece_told p ∷ []) ≡ sizes_in told
sizes-push told p = sizes-append told (piece_told p ∷ []) ∙ append-nil (sizes_in told)

pub controls-push : (told : List Telling) (p : List ℕ) → controls_in (told ++ piece_told p ∷ []) ≡ controls_in told
controls-push told p = controls-append told (piece_told p ∷ []) ∙ append-nil (controls_in told)

-- the messages between two reads
abbrev pub beside : Option WindowSize → Option Control → List Telling
beside size control = one_size size ++ one_control control

no_pieces : (size : Option WindowSize) (control : Option Control) → pieces_in (beside size control) ≡ []
no_pieces None None = refl
no_pieces None (Some c) = refl
no_pieces (Some s) None = refl
no_pieces (Some s) (Some c) = refl

one_of_sizes : (size : Option WindowSize) (control : Option Control) → sizes_in (beside size control) ≡ option_to_list size
one_of_sizes None None = refl
one_of_sizes None (Some c) = refl
one_of_sizes (Some s) None = refl
one_of_sizes (Some s) (Some c) = refl

one_of_controls : (size : Option WindowSize) (control : Option Control) → controls_in (beside size control) ≡ option_to_list control
one_of_controls None None = refl
one_of_controls None (Some c) = refl
one_of_controls (Some s) None = refl
one_of_controls (Some s) (Some c) = refl

pub pieces-beside : (told : List Telling) (size : Option WindowSize) (control : Option Control) → pieces_in (told ++ beside size control) ≡ pieces_in told
pieces-beside told size control = pieces-append told (beside size control) ∙ ap (λ (ps : List (List ℕ)). pieces_in told ++ ps) (no_pieces size control)
    ∙ append-nil (pieces_in told)

pub sizes-beside : (told : List Telling) (size : Option WindowSize) (control : Option Control)
    → sizes_in (told ++ beside size control) ≡ sizes_in told ++ option_to_list size
sizes-beside told size control = sizes-append told (beside size control) ∙ ap (λ (ss : List WindowSize). sizes_in told ++ ss) (one_of_sizes size control)

pub controls-beside : (told : List Telling) (size : Option WindowSize) (control : Option Control)
    → controls_in (told ++ beside size control) ≡ controls_in told ++ option_to_list control
controls-beside told size control = controls-append told (beside size control)
    ∙ ap (λ (cs : List Control). controls_in told ++ cs) (one_of_controls size control)

pub said_beside : (who : Sender) (told : List Telling) (size : Option WindowSize) (control : Option Control) (v w : View) → v ≡ sends who (told_messages told)
    → SaysThese who (beside size control) v w → w ≡ sends who (told_messages (told ++ beside size control))
said_beside who told size control v w old says = said_these who told (beside size control) v w old says

pub tells_none : {A : Type 0} (o : Option (List A)) → TellsList o [] o
tells_none None = refl
tells_none (Some l) = (l, refl, refl)

pub tells_next : {A : Type 0} (a b d : Option (List A)) (told : List A) (one : Option A) → TellsList a told b → TellsNext b one d
    → TellsList a (told ++ option_to_list one) d
tells_next {A} None b d told one first next = subst (λ (o : Option (List A)). TellsNext o one d) first next
tells_next {A} (Some a) b d told None first next =
    (first.0, first.1 ∙ ap (λ (l : List A). l ++ first.0) (sym (append-nil told)), subst (λ (o : Option (List A)). TellsNext o None d) first.2 next)
tells_next {A} (Some a) b d told (Some z) first next =
    let one : TellsNext (Some first.0) (Some z) d = subst (λ (o : Option (List A)). TellsNext o (Some z) d) first.2 next in
    (one.0, first.1 ∙ ap (λ (l : List A). told ++ l) one.1 ∙ sym (append_assoc told (z ∷ []) one.0), one.2)

pub first_as : {A : Type 0} (a : Option (List A)) (xs ys : List A) → ys ≡ xs → TellsFirst a xs → TellsFirst a ys
first_as {A} a xs ys e first = subst (λ (l : List A). TellsFirst a l) (sym e) first

pub role : (who : Sender) (ms : List Message) (v : View) → v ≡ sends who ms → (l : List Mail) × (v ≡ sender who l)
role who ms v e = (map (mail who) ms, e)

some_pieces : (pieces : List (List ℕ)) (p : List ℕ) → pieces ++ p ∷ [] ≢ []
some_pieces [] p e = cc
some_pieces (q ∷ qs) p e = cc

-- the reading ended
pub reader_ends : (who : Sender) (job : Option JobId) (may_stop : Bool) (typing : KnownTyping) (left : Option (List ℕ)) (told : List Telling) (last : Message)
    (said : List Message) (v w : View)
    → Consumes typing.reader.bytes left (concat (pieces_in told)) → IsEnding last left → IsReadCause typing.reader.failures (length (pieces_in told)) last
    → SaysLast job typing.reader.words last said → v ≡ sends who (told_messages told) → All IsPiece (pieces_in told)
    → TellsFirst typing.reader.sizes (sizes_in told) → TellsFirst typing.controls (controls_in told) → SaysAll who (said ++ last ∷ Left ∷ []) v w
    → TypingSends who job may_stop typing w
reader_ends who job may_stop typing left told last said v w consumed ending cause lasts old small sizes controls says = (
  (
    told,
    left,
    said ++ last ∷ Left ∷ [],
    consumed,
    inl (last, (ending, cause), said, lasts, refl),
    said_all who (told_messages told) (said ++ last ∷ Left ∷ []) v w old says,
    small,
    sizes,
  ),
  controls,
)

-- the reading was stopped after a piece
pub reader_stops : (who : Sender) (job : Option JobId) (may_stop : Bool) (typing : KnownTyping) (left : Option (List ℕ)) (told : List Telling) (p : List ℕ)
    (v w u : View)
    → Consumes typing.reader.bytes left (concat (pieces_in told ++ p ∷ [])) → may_stop ≡ true → v ≡ sends who (told_messages told)
    → All IsPiece (pieces_in told) → IsPiece p → TellsFirst typing.reader.sizes (sizes_in told) → TellsFirst typing.controls (controls_in told)
    → Says who (Piece p) v w → Says who Left w u → TypingSends who job may_stop typing u
reader_stops who job may_stop typing left told p v w u consumed may old small fits sizes controls one two =
    let all = told ++ piece_told p ∷ [] in
    let is : pieces_in all ≡ pieces_in told ++ p ∷ [] = pieces-push told p in
    let Bytes : List (List ℕ) → Type 0 = λ ps. Consumes typing.reader.bytes left (concat ps) in (
      (
        all,
        left,
        Left ∷ [],
        subst Bytes (sym is) consumed,
        inr (may, subst (λ (ps : List (List ℕ)). ps ≢ []) (sym is) (some_pieces (pieces_in told) p), refl),
        said who (told_messages all) Left w u (said_piece who told p v w old one) two,
        subst (λ (ps : List (List ℕ)). All IsPiece ps) (sym is) (All-push IsPiece (pieces_in told) p small fits),
        first_as typing.reader.sizes (sizes_in told) (sizes_in all) (sizes-push told p) sizes,
      ),
      first_as typing.controls (controls_in told) (controls_in all) (controls-push told p) controls,
    )

-- a thread that is never stopped sends how its reading ended
pub closes_ending : (job : Option JobId) (reader : KnownReader) (pieces : List (List ℕ)) (left : Option (List ℕ)) (close : List Message)
    → Closes job false reader pieces left close → (last : Message) × (IsEnding last left × IsReadCause reader.failures (length pieces) last)
    × (said : List Message) × SaysLast job reader.words last said × (close ≡ said ++ last ∷ Left ∷ [])
closes_ending job reader pieces left close closes = ⊎_elim (λ x. x) (λ x. absurd (false_true x.0)) closes
  where
    false_true : false ≡ true → ⊥
    false_true e = cc

-- `TypingSends`, of a promise that names the sender and its flag
pub sends_as : (who other : Sender) (says job : Option JobId) (may_stop : Bool) (typing : KnownTyping) (v : View) → who ≡ other → says ≡ job
    → TypingSends who says may_stop typing v → TypingSends other job may_stop typing v
sends_as who other says job may_stop typing v e f sent =
    let P : Sender → Type 0 = λ s. TypingSends s job may_stop typing v in
    let Q : Option JobId → Type 0 = λ j. TypingSends who j may_stop typing v in
    subst P e (subst Q f sent)
