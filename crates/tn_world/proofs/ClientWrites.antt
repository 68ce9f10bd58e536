-- The items that a client end writes, and how a server takes them.
use Rattle.std.proofs.Common.{◌≡◌, ◌⊎◌, inl, inr, ℕ, ◌==◌, Bool, true, false, not, ◌&&◌, ◌||◌, Option, Some, None, List, [], ◌∷◌, ◌++◌, length, nat_le, ◌≤◌}
use Rattle.std.proofs.{Common.{refl, sym, ap, ◌∙◌, if◌then◌else◌, subst, arith, append-nil}, lemmas.Bool.Decides.nat_tests}
use Rattle.std.proofs.lemmas.List.Elements.{All-nil, All-cons, All-head, All-tail, All-append}
use Rattle.std.specs.Prelude.{All}
use Rattle.tn_codes.specs.{Payloads.parameters_of, PayloadOf.payload_of, declared.{codes.Verb.Verb, masks.Mask.Mask, payloads.Payload.Payload}}
use Rattle.tn_codes.specs.declared.payloads.Payload.TheVariants as payload
use Rattle.tn_codes.proofs.lemmas.Telling.{says}
use Rattle.tn_discipline.specs.{Canon.Canon, Characters.{Characters, standard_characters}, declared.{reads.Entry.Entry, termios.Settings.Settings}}
use Rattle.tn_linemode.specs.{Exchange.{announcement, answers_along, client_after, client_answers}, Modes.is_acknowledged}
use Rattle.tn_linemode.specs.Words.{differ, word_items, list_items}
use Rattle.tn_nvt.specs.{Spelling.Fits, declared.items.Item.{Item, TheVariants.{Byte, Neg, Sub}}}
use Rattle.tn_option.specs.{Options.{Options, options_after_word, reply_to, is_yes}, declared.q_method.Side.TheVariants.Us}
use Rattle.tn_client.specs.Terms.{linemode, tells_size, payload_at, mode_by, mode_at, chars_by}
use Rattle.tn_client.specs.Replies.{byte_items, size_items, new_size_items, payload_answers, answer_items}
use Rattle.tn_world.specs.relation.{Calm.{bits, IsAskable, IsCalmToServer, AsksCalmly}, Pictures.Server}
use Rattle.tn_world.proofs.{Machine.{read, read_all, SaysItems}, Engines.{reply_made, word_keeps_state}, Reading.read_all-append}

-- WHAT IS WRITTEN
-- how any server takes these items, part by part
pub writes-none : (canon : Canon) → SaysItems canon [] []
writes-none canon = record { fit = All-nil Fits; calm = All-nil (IsCalmToServer canon.settings); says_so = λ v. refl }

pub writes-one : (canon : Canon) (item : Item) → Fits item → IsCalmToServer canon.settings item → SaysItems canon (item ∷ []) (item ∷ [])
writes-one canon item f calm = record {
  fit = All-cons Fits item [] f (All-nil Fits);
  calm = All-cons (IsCalmToServer canon.settings) item [] calm (All-nil (IsCalmToServer canon.settings));
  says_so = λ v. refl;
}

pub writes-append : (canon : Canon) (a b : List Item) (x y : List Item) → SaysItems canon a x → SaysItems canon b y → SaysItems canon (a ++ b) (x ++ y)
writes-append canon a b x y h k = record {
  fit = All-append Fits x y h.fit k.fit;
  calm = All-append (IsCalmToServer canon.settings) x y h.calm k.calm;
  says_so = λ v.
      read_all-append canon v x y
      ∙ k.says_so (read_all canon v x)
      ∙ ap (λ (u : Server). read_all canon u b) (h.says_so v)
      ∙ sym (read_all-append canon v a b);
}

pub writes-bytes : (canon : Canon) (bs : List ℕ) → SaysItems canon (byte_items bs) (byte_items bs)
writes-bytes canon [] = writes-none canon
writes-bytes canon (b ∷ bs) = writes-append canon (Byte b ∷ []) (byte_items bs) (Byte b ∷ []) (byte_items bs) (writes-one canon (Byte b) tt tt) (writes-bytes canon bs)

-- an item that leaves a server as it is does not concern lines
pub read-other : (v : Server) → record v { waiting = v.waiting ++ [] } ≡ v
read-other v = ap (λ (w : List Entry). record v { waiting = w }) (append-nil v.waiting)

pub writes-hushed : (canon : Canon) (item : Item) → Fits item → IsCalmToServer canon.settings item → ((v : Server) → read canon v item ≡ v)
    → SaysItems canon [] (item ∷ [])
writes-hushed canon item f calm is =
    let one = writes-one canon item f calm in
    record { fit = one.fit; calm = one.calm; says_so = is }

pub writes-if : (canon : Canon) (b : Bool) (out : List Item) → SaysItems canon [] out → SaysItems canon [] (if b then out else [])
writes-if canon true out h = h
writes-if canon false out h = writes-none canon

-- AN OPTION MESSAGE
-- a message about another option than LINEMODE leaves LINEMODE as it is
pub word-keeps : (o : Options) (verb : Verb) (code : ℕ) → (code == 34) ≡ false → linemode (options_after_word o verb code) ≡ linemode o
word-keeps o verb code e = ap is_yes (word_keeps_state o Us verb code e)

-- items that do not concern lines, one after another
abbrev Hushes : Canon → Item → Type 0
Hushes canon item = SaysItems canon [] (item ∷ [])

writes-all : (canon : Canon) (items : List Item) → All (Hushes canon) items → SaysItems canon [] items
writes-all canon [] h = writes-none canon
writes-all canon (x ∷ xs) h = writes-append canon [] [] (x ∷ []) xs (All-head (Hushes canon) x xs h) (writes-all canon xs (All-tail (Hushes canon) x xs h))

pub size-writes : (canon : Canon) (z : ℕ × ℕ) → SaysItems canon [] (size_items z)
size-writes canon (width, height) =
    writes-hushed canon (Sub 31 (parameters_of (payload.Naws width height))) (omega arith) tt read-other

-- the answer to such a message does not concern lines
pub word-answered : (canon : Canon) (o : Options) (m : ℕ) (c : Characters) (z : ℕ × ℕ) (verb : Verb) (code : ℕ) → (code == 34) ≡ false
    → SaysItems canon [] (answer_items o m c z (Neg verb code))
word-answered canon o m c z verb code e =
    writes-append canon [] [] (word_items (reply_to o verb code)) (new_size_items (tells_size o) (tells_size (options_after_word o verb code)) z)
    (writes-all canon (word_items (reply_to o verb code)) (reply_made (Hushes canon) o verb code (λ w. writes-hushed canon (Neg w code) tt (inl e)
    (λ v. ap (λ (b : Bool). record v { linemode = b || v.linemode; edit = if b then v.linemode && v.edit else v.edit; waiting = v.waiting ++ [] }) e
    ∙ read-other v))))
    (writes-if canon (tells_size (options_after_word o verb code) && not (tells_size o)) (size_items z) (size-writes canon z))

same_or_none : (was on : Bool) (m : ℕ) → on ≡ was → (if differ was on then 0 else m) ≡ m
same_or_none true true m e = refl
same_or_none true false m e = cc
same_or_none false true m e = cc
same_or_none false false m e = refl

pub word-mode : (o : Options) (m : ℕ) (verb : Verb) (code : ℕ) → (code == 34) ≡ false → mode_at o m (Neg verb code) ≡ m
word-mode o m verb code e = same_or_none (linemode o) (linemode (options_after_word o verb code)) m (word-keeps o verb code e)

-- A SUBNEGOTIATION
-- these payloads change nothing of lines
abbrev pub IsChatter : Option Payload → Type 0
IsChatter None = Unit {0}
IsChatter (Some (payload.Naws width height)) = Unit {0}
IsChatter (Some (payload.Mode mask)) = ⊥
IsChatter (Some (payload.ForwardOn mask)) = ⊥
IsChatter (Some payload.ForwardOff) = ⊥
IsChatter (Some payload.ForwardYes) = Unit {0}
IsChatter (Some payload.ForwardNo) = Unit {0}
IsChatter (Some (payload.Slc triples)) = ⊥

-- a fact that holds if there is none, and of each that changes nothing, holds of all of them
by_chatter : (P : Option Payload → Type 0) (p : Option Payload) → IsChatter p → P None → ((width height : ℕ) → P (Some (payload.Naws width height)))
    → P (Some payload.ForwardYes) → P (Some payload.ForwardNo) → P p
by_chatter P None i lacking sized wills wonts = lacking
by_chatter P (Some (payload.Naws width height)) i lacking sized wills wonts = sized width height
by_chatter P (Some (payload.Mode mask)) i lacking sized wills wonts = absurd i
by_chatter P (Some (payload.ForwardOn mask)) i lacking sized wills wonts = absurd i
by_chatter P (Some payload.ForwardOff) i lacking sized wills wonts = absurd i
by_chatter P (Some payload.ForwardYes) i lacking sized wills wonts = wills
by_chatter P (Some payload.ForwardNo) i lacking sized wills wonts = wonts
by_chatter P (Some (payload.Slc triples)) i lacking sized wills wonts = absurd i

pub chatter-mode : (m : ℕ) (p : Option Payload) → IsChatter p → mode_by m p ≡ m
chatter-mode m p i = by_chatter (λ p. mode_by m p ≡ m) p i refl (λ _ _. refl) refl refl

pub chatter-chars : (c : Characters) (p : Option Payload) → IsChatter p → chars_by c p ≡ c
chatter-chars c p i = by_chatter (λ p. chars_by c p ≡ c) p i refl (λ _ _. refl) refl refl

-- a forward mask is taken or dropped, and the answer does not concern lines
abbrev pub forward_of : Option Mask → Payload
forward_of (Some mask) = payload.ForwardOn mask
forward_of None = payload.ForwardOff

pub forward-answered : (canon : Canon) (f : Option Mask) (m : ℕ) (c : Characters) → SaysItems canon [] (payload_answers m c (Some (forward_of f)))
forward-answered canon (Some mask) m c = writes-hushed canon (Sub 34 (parameters_of payload.ForwardYes)) (omega arith) tt read-other
forward-answered canon None m c = writes-hushed canon (Sub 34 (parameters_of payload.ForwardNo)) (omega arith) tt read-other

pub chatter-answered : (canon : Canon) (m : ℕ) (c : Characters) (p : Option Payload) → IsChatter p → SaysItems canon [] (payload_answers m c p)
chatter-answered canon m c p i = by_chatter (λ p. SaysItems canon [] (payload_answers m c p)) p i (writes-none canon) (λ _ _. writes-none canon)
    (writes-none canon) (writes-none canon)

pub chatter-if : (b : Bool) (p : Option Payload) → IsChatter p → IsChatter (if b then p else None)
chatter-if true p i = i
chatter-if false p i = tt

-- a calm payload is such a one, or a forward mask, or a mode that is asked for, or the table that the client has
pub record Forwards (p : Option Payload) : Type 0 where
  pub mask : Option Mask
  pub is : p ≡ Some (forward_of mask)

pub record Asks (s : Settings) (p : Option Payload) : Type 0 where
  pub mask : ℕ
  pub is : p ≡ Some (payload.Mode mask)
  pub plain : is_acknowledged mask ≡ false
  pub askable : IsAskable s (bits mask)

pub record Tells (s : Settings) (p : Option Payload) : Type 0 where
  pub is : p ≡ Some (payload.Slc (announcement standard_characters))
  pub standard : s.chars ≡ standard_characters

pub calm-kinds : (s : Settings) (p : Option Payload) → AsksCalmly s p → IsChatter p ⊎ (Forwards p ⊎ (Asks s p ⊎ Tells s p))
calm-kinds s (Some (payload.Mode mask)) a = inr (inr (inl (record { mask = mask; is = refl; plain = a.0; askable = a.1 })))
calm-kinds s (Some (payload.ForwardOn mask)) a = inr (inl (record { mask = Some mask; is = refl }))
calm-kinds s (Some payload.ForwardOff) a = inr (inl (record { mask = None; is = refl }))
calm-kinds s (Some (payload.Slc triples)) a = inr (inr (inr (record { is = ap (λ ts. Some (payload.Slc ts)) a.1; standard = a.0 })))
calm-kinds s _ a = inl tt

-- THE TABLE that the client has already changes nothing and is not answered, whether LINEMODE is on or not
abbrev pub table_if : Bool → Option Payload
table_if b = if b then Some (payload.Slc (announcement standard_characters)) else None

pub table-at : (o : Options) (option : ℕ) (params : List ℕ) → payload_of option params ≡ Some (payload.Slc (announcement standard_characters))
    → payload_at o (Sub option params) ≡ table_if (((option == 34) && linemode o) && nat_le (length params) 512)
table-at o option params e = ap (λ (p : Option Payload). if ((option == 34) && linemode o) && nat_le (length params) 512 then p else None) e

pub table-mode : (m : ℕ) (b : Bool) → mode_by m (table_if b) ≡ m
table-mode m true = refl
table-mode m false = refl

same_table : client_after standard_characters (announcement standard_characters) ≡ standard_characters
unfolding client_after announcement
same_table = refl

no_answer : client_answers standard_characters (announcement standard_characters) ≡ []
unfolding client_answers answers_along announcement
no_answer = refl

pub table-chars : (c : Characters) (b : Bool) → c ≡ standard_characters → chars_by c (table_if b) ≡ c
table-chars c true is = ap (λ (x : Characters). client_after x (announcement standard_characters)) is ∙ same_table ∙ sym is
table-chars c false is = refl

table-unanswered : (m : ℕ) (c : Characters) (b : Bool) → c ≡ standard_characters → payload_answers m c (table_if b) ≡ []
table-unanswered m c true is = ap (λ (x : Characters). list_items (client_answers x (announcement standard_characters))) is ∙ ap list_items no_answer
table-unanswered m c false is = refl

pub table-answered : (canon : Canon) (m : ℕ) (c : Characters) (b : Bool) → c ≡ standard_characters → SaysItems canon [] (payload_answers m c (table_if b))
table-answered canon m c b is = subst (λ (xs : List Item). SaysItems canon [] xs) (sym (table-unanswered m c b is)) (writes-none canon)

-- a payload that is short counts if the first test holds
if_short : (b : Bool) (p : Payload) → (if b && true then Some p else None) ≡ (if b then Some p else None)
if_short true p = refl
if_short false p = refl

-- if LINEMODE is on, a mode that is sent is one that counts; if it is off, it counts for nothing
pub said-mode : (o : Options) (option : ℕ) (params : List ℕ) (mask : ℕ) → payload_of option params ≡ Some (payload.Mode mask)
    → payload_at o (Sub option params) ≡ (if linemode o then Some (payload.Mode mask) else None)
said-mode o option params mask e =
    let told : (option ≡ 34) × (params ≡ 1 ∷ mask ∷ []) = says option params (payload.Mode mask) e in
    ap (λ (n : ℕ). payload_at o (Sub n params)) told.0 ∙ ap (λ (xs : List ℕ). payload_at o (Sub 34 xs)) told.1 ∙ if_short (linemode o) (payload.Mode mask)

-- a forward mask has at most 512 parameters
short_params : (n : ℕ) → n ≤ 512 → nat_le n 512 ≡ true
short_params n h = grind (arith, nat_tests)

said-on : (o : Options) (option : ℕ) (params : List ℕ) (mask : Mask) → payload_of option params ≡ Some (payload.ForwardOn mask)
    → payload_at o (Sub option params) ≡ (if linemode o then Some (payload.ForwardOn mask) else None)
said-on o option params mask e =
    let told = says option params (payload.ForwardOn mask) e in
    let octets = told.1.0 in
    let long : nat_le (length params) 512 ≡ true = short_params (length params) (omega (arith, ap length told.1.1, told.1.2)) in
    ap (λ (p : Option Payload). if ((option == 34) && linemode o) && nat_le (length params) 512 then p else None) e
    ∙ ap (λ (b : Bool). if ((option == 34) && linemode o) && b then Some (payload.ForwardOn mask) else None) long
    ∙ ap (λ (n : ℕ). if ((n == 34) && linemode o) && true then Some (payload.ForwardOn mask) else None) told.0
    ∙ if_short (linemode o) (payload.ForwardOn mask)

said-off : (o : Options) (option : ℕ) (params : List ℕ) → payload_of option params ≡ Some payload.ForwardOff
    → payload_at o (Sub option params) ≡ (if linemode o then Some payload.ForwardOff else None)
said-off o option params e =
    let told = says option params payload.ForwardOff e in
    ap (λ (n : ℕ). payload_at o (Sub n params)) told.0 ∙ ap (λ (xs : List ℕ). payload_at o (Sub 34 xs)) told.1 ∙ if_short (linemode o) payload.ForwardOff

pub said-forward : (o : Options) (option : ℕ) (params : List ℕ) (f : Option Mask) → payload_of option params ≡ Some (forward_of f)
    → payload_at o (Sub option params) ≡ (if linemode o then Some (forward_of f) else None)
said-forward o option params (Some mask) e = said-on o option params mask e
said-forward o option params None e = said-off o option params e
