-- The items that the steps of a client end send, and what they keep: calm items that fit a stream, and the
-- relation of both ends.
use Rattle.std.proofs.Common.{◌≡◌, ◌⊎◌, inl, inr, ◌<◌, ℕ, suc, ◌==◌, nat_le, Bool, true, false, not, ◌&&◌, ◌||◌, Option, Some, None, List, [], ◌∷◌, ◌++◌}
use Rattle.std.proofs.{Common.{length, refl, sym, ap, ◌∙◌, if◌then◌else◌, subst, arith, append-nil, append_assoc}, lemmas.{Bool.eqb-true, Nat.and_assoc}}
use Rattle.std.proofs.lemmas.List.Elements.{All-nil, All-head, All-tail, All-append}
use Rattle.std.specs.Prelude.{All, bit_or}
use Rattle.tn_codes.specs.{Payloads.parameters_of, PayloadOf.payload_of, declared.{codes.Verb.{Verb, TheVariants.{Will, DoIt}}, masks.Mask.Mask}}
use Rattle.tn_codes.specs.declared.payloads.Payload.{Payload}
use Rattle.tn_codes.specs.declared.codes.Command.TheVariants as command
use Rattle.tn_codes.specs.declared.payloads.Payload.TheVariants as payload
use Rattle.tn_discipline.specs.{Canon.Canon, Characters.standard_characters, declared.reads.Entry.Entry}
use Rattle.tn_linemode.specs.Modes.{edits, mode_of, is_acknowledged, client_mask_after, mode_answer, traps}
use Rattle.tn_linemode.specs.Words.{differ, word_items, payload_items, mode_items}
use Rattle.tn_nvt.specs.{Spelling.{lf, Fits}, declared.items.Item.{Item, TheVariants.{Byte, Newline, Cmd, Neg, Sub}}, Feeding.DecoderState}
use Rattle.tn_option.specs.{Options.{Options, options_after_word, reply_to, state_of, is_yes}, declared.q_method.{QState.TheVariants.Yes, Side.TheVariants.Us}}
use Rattle.tn_server.proofs.lemmas.Terms.{differ_self}
use Rattle.tn_client.specs.{Answering.IsStopCause, Calls.End, Steps.{end_after_items, says_items}}
use Rattle.tn_client.specs.Replies.{sent_as, size_items, new_size_items, payload_answers, answer_items, end_of_edit_items, is_same_size}
use Rattle.tn_client.specs.Steps.{role_now, end_after_key, says_typed, says_key, says_new_line, with_mode, end_after_item, says_got, says_resize}
use Rattle.tn_client.specs.Terms.{linemode, tells_size, payload_at, options_after, mode_by, mode_at, chars_by}
use Rattle.tn_client.proofs.lemmas.{Gathering.says_both, Standings.{typed_limit, left_limit}, Stopping.front_said}
use Rattle.tn_world.specs.relation.{Calm.{bits, IsAskable, IsCalmToServer, IsCalmToClient}, Pictures.{Server, IsOffOrOn, ClientStays}, Relation.Agrees}
use Rattle.tn_world.proofs.{Machine.{read_all, AreSaid, SaysItems}, Changing.{taken-agrees, beside-agrees, turned-agrees}, Reading.read_all-append}
use Rattle.tn_world.proofs.{Engines.{client_turned, consent, client_consents, word_agrees, word_keeps_state}, Saying.{small, is-ack, key_all}}
use Rattle.tn_world.proofs.ClientWrites.{writes-none, writes-one, writes-append, writes-bytes, writes-hushed, read-other, writes-if, word-keeps, size-writes}
use Rattle.tn_world.proofs.ClientWrites.{word-answered, word-mode, IsChatter, chatter-mode, chatter-chars, chatter-answered, chatter-if, forward_of}
use Rattle.tn_world.proofs.ClientWrites.{forward-answered, Forwards, Asks, Tells, calm-kinds, table_if, table-at, table-mode, table-chars, table-answered}
use Rattle.tn_world.proofs.ClientWrites.{said-mode, said-forward}
use Rattle.tn_world.proofs.Changing as changing

-- MASKS
-- SOFT_TAB and LIT_ECHO of a mask do not count
bits-mode : (mask : ℕ) → bits (mode_of mask) ≡ bits mask
bits-mode mask =
    ap (λ (b : Bool). record { edit = b; trapsig = traps (mode_of mask) }) (ap (λ (n : ℕ). not (n == 0)) (and_assoc 1 mask 3))
    ∙ ap (λ (b : Bool). record { edit = edits mask; trapsig = b }) (ap (λ (n : ℕ). not (n == 0)) (and_assoc 2 mask 3))

-- the bit that acknowledges a mask keeps EDIT
edits-ack : (n : ℕ) → n < 4 → edits (bit_or n 4) ≡ edits n
edits-ack (suc (suc (suc (suc n)))) h = absurd (omega arith)
edits-ack _ h = refl

-- A KEY sends bytes of data, new lines and commands.
typed_said : (canon : Canon) (c : End) (is_line : Bool) (key : ℕ) → AreSaid canon (says_typed c key (sent_as is_line key))
typed_said canon c is_line key = record {
  fit = key_all Fits (λ b. tt) tt (λ c. tt) (edits c.mode) c.forward (role_now c key) c.line is_line key;
  calm = key_all (IsCalmToServer canon.settings) (λ b. tt) tt (λ c. tt) (edits c.mode) c.forward (role_now c key) c.line is_line key;
}

pub key_said : (canon : Canon) (c : End) (key : ℕ) → AreSaid canon (says_key c key)
key_said canon c key = typed_said canon c false key

pub line_said : (canon : Canon) (c : End) → AreSaid canon (says_new_line c)
line_said canon c = typed_said canon c true lf

pub key_stays : (canon : Canon) (c : End) (key : ℕ) → ClientStays canon c → ClientStays canon (end_after_key c key)
key_stays canon c key k =
    record { agreed = k.agreed; linemode = k.linemode; chars = k.chars; limit = typed_limit (edits c.mode) c.forward c.line (role_now c key) ∙ k.limit }

-- WHAT COMES: what it makes the client send is calm and fits, and the relation and what stays are kept
pub record Comes (canon : Canon) (c new : End) (out : List Item) : Type 0 where
  pub said : AreSaid canon out
  pub stays : ClientStays canon new
  pub agrees : (typed : List ℕ) (taken : List Entry) (v : Server) → Agrees canon typed taken v c
      → Agrees canon typed taken (read_all canon v out) new

comes_by : (canon : Canon) (c new : End) (says : List Item) (out : List Item) → SaysItems canon says out → ClientStays canon new
    → ((typed : List ℕ) (taken : List Entry) (v : Server) → Agrees canon typed taken v c → Agrees canon typed taken (read_all canon v says) new)
    → Comes canon c new out
comes_by canon c new says out w stays agrees = record {
  said = record { fit = w.fit; calm = w.calm };
  stays = stays;
  agrees = λ typed taken v a. subst (λ (u : Server). Agrees canon typed taken u new) (sym (w.says_so v)) (agrees typed taken v a);
}

comes_then : (canon : Canon) (a b c : End) (x y : List Item) → Comes canon a b x → Comes canon b c y → Comes canon a c (x ++ y)
comes_then canon a b c x y f g = record {
  said = record {
    fit = All-append Fits x y f.said.fit g.said.fit;
    calm = All-append (IsCalmToServer canon.settings) x y f.said.calm g.said.calm;
  };
  stays = g.stays;
  agrees = λ typed taken v h.
      subst (λ (u : Server). Agrees canon typed taken u c)
      (sym (read_all-append canon v x y))
      (g.agrees typed taken (read_all canon v x) (f.agrees typed taken v h));
}

-- AN ITEM
ending-same : (b : Bool) (bs : List ℕ) → end_of_edit_items b b bs ≡ []
ending-same true bs = refl
ending-same false bs = refl

with_same : (b : Bool) (c : End) → changing.mode_by b b c c.mode ≡ c
with_same true c = refl
with_same false c = refl

held-writes : (canon : Canon) (before after : Bool) (bs : List ℕ) → SaysItems canon (end_of_edit_items before after bs) (end_of_edit_items before after bs)
held-writes canon true false bs = writes-bytes canon bs
held-writes canon true true bs = writes-none canon
held-writes canon false after bs = writes-none canon

-- the end after an item, if its mask is this
abbrev after_with : End → Item → ℕ → End
after_with c item m =
    let new = end_after_item c item in
    record (with_mode c m) { options = new.options; forward = new.forward; table = new.table }

limit_with : (c : End) (m : ℕ) → (with_mode c m).line.limit ≡ c.line.limit
limit_with c m = left_limit (edits c.mode) (edits m) _ c.line

-- an item that keeps the mask and LINEMODE, and is answered by nothing that counts
still-comes : (canon : Canon) (c : End) (item : Item) → mode_at c.options c.mode item ≡ c.mode → linemode (options_after c.options item) ≡ linemode c.options
    → SaysItems canon [] (answer_items c.options c.mode c.table (c.width, c.height) item) → ClientStays canon (end_after_item c item)
    → Comes canon c (end_after_item c item) (says_got c item)
still-comes canon c item mask same w stays =
    let out = answer_items c.options c.mode c.table (c.width, c.height) item in
    let new = end_after_item c item in
    let is : new ≡ record c { options = new.options; forward = new.forward; table = new.table } =
    ap (after_with c item) mask ∙ ap (λ (x : End). record x { options = new.options; forward = new.forward; table = new.table }) (with_same (edits c.mode) c) in
    comes_by canon c new [] (says_got c item)
    (subst (λ (n : ℕ). SaysItems canon [] (end_of_edit_items (edits c.mode) (edits n) c.line.held ++ out)) (sym mask)
    (subst (λ (xs : List Item). SaysItems canon [] (xs ++ out)) (sym (ending-same (edits c.mode) c.line.held)) w)) stays
    (λ typed taken v a. beside-agrees canon typed taken v c new same is a)

-- AN OPTION MESSAGE: LINEMODE is asked for, comes on without a mask, and is consented to once
sizes-write : (canon : Canon) (was on : Bool) (z : ℕ × ℕ) → SaysItems canon [] (new_size_items was on z)
sizes-write canon was on z = writes-if canon (on && not was) (size_items z) (size-writes canon z)

consent-writes : (canon : Canon) (b : Bool) → canon.settings.chars ≡ standard_characters
    → SaysItems canon (if b then [] else Neg Will 34 ∷ []) (word_items (consent b))
consent-writes canon true is = writes-none canon
consent-writes canon false is = writes-one canon (Neg Will 34) tt (inr (refl, refl, is))

turned-comes : (canon : Canon) (c : End) (b : Bool) → linemode c.options ≡ b → ClientStays canon c → canon.settings.chars ≡ standard_characters
    → Comes canon c (end_after_item c (Neg DoIt 34)) (says_got c (Neg DoIt 34))
turned-comes canon c b was k is = by_test b was
  where
    o : Options
    o = c.options

    later : Options
    later = options_after_word o DoIt 34

    z : ℕ × ℕ
    z = (c.width, c.height)

    yes : state_of later Us 34 ≡ Yes
    yes = client_turned o k.agreed k.linemode

    on : linemode later ≡ true
    on = ap is_yes yes

    stays : ClientStays canon (end_after_item c (Neg DoIt 34))
    stays = record {
      agreed = word_agrees o Us DoIt 34 ∙ k.agreed;
      linemode = subst IsOffOrOn (sym yes) tt;
      chars = k.chars;
      limit = limit_with c (mode_at o c.mode (Neg DoIt 34)) ∙ k.limit;
    }

    answered : (b : Bool) → linemode o ≡ b → SaysItems canon (if b then [] else Neg Will 34 ∷ [])
        (answer_items o c.mode c.table z (Neg DoIt 34))
    answered true was = writes-append canon [] [] (word_items (reply_to o DoIt 34)) (new_size_items (tells_size o) (tells_size later) z)
        (subst (λ (w : Option (Verb × ℕ)). SaysItems canon [] (word_items w))
        (sym (client_consents o k.agreed k.linemode ∙ ap consent was)) (consent-writes canon true is)) (sizes-write canon (tells_size o) (tells_size later) z)
    answered false was = writes-append canon (Neg Will 34 ∷ []) [] (word_items (reply_to o DoIt 34)) (new_size_items (tells_size o) (tells_size later) z)
        (subst (λ (w : Option (Verb × ℕ)). SaysItems canon (Neg Will 34 ∷ []) (word_items w))
        (sym (client_consents o k.agreed k.linemode ∙ ap consent was)) (consent-writes canon false is)) (sizes-write canon (tells_size o) (tells_size later) z)

    by_test : (b : Bool) → linemode o ≡ b → Comes canon c (end_after_item c (Neg DoIt 34)) (says_got c (Neg DoIt 34))
    by_test true was =
        let same : linemode later ≡ linemode o = on ∙ sym was in
        still-comes canon c (Neg DoIt 34)
        (ap (λ (b : Bool). if differ (linemode o) b then 0 else c.mode) same ∙ ap (λ (b : Bool). if b then 0 else c.mode) (differ_self (linemode o))) same
        (answered true was) stays
    by_test false was =
        let new = end_after_item c (Neg DoIt 34) in
        let mask : mode_at o c.mode (Neg DoIt 34) ≡ 0 =
        ap (λ (b : Bool). if b then 0 else c.mode) (ap (λ (b : Bool). differ b (linemode later)) was ∙ on) in
        let says = end_of_edit_items (edits c.mode) (edits (mode_at o c.mode (Neg DoIt 34))) c.line.held ++ Neg Will 34 ∷ [] in
        comes_by canon c new says (says_got c (Neg DoIt 34))
        (writes-append canon (end_of_edit_items (edits c.mode) (edits (mode_at o c.mode (Neg DoIt 34))) c.line.held) (Neg Will 34 ∷ []) _ _
        (held-writes canon (edits c.mode) (edits (mode_at o c.mode (Neg DoIt 34))) c.line.held) (answered false was)) stays
        (λ typed taken v a.
        let raw = a.off was in
        subst (λ (b : Bool). Agrees canon typed taken (read_all canon v (end_of_edit_items b (edits (mode_at o c.mode (Neg DoIt 34))) c.line.held
        ++ Neg Will 34 ∷ [])) new) (sym raw)
        (turned-agrees canon typed taken v c was a new on
        (ap (after_with c (Neg DoIt 34)) mask
        ∙ ap (λ (b : Bool). record (changing.mode_by b false c 0) { options = new.options; forward = new.forward }) raw)))

word-comes : (canon : Canon) (c : End) (verb : Verb) (option : ℕ) → ClientStays canon c → IsCalmToClient canon.settings (Neg verb option)
    → Comes canon c (end_after_item c (Neg verb option)) (says_got c (Neg verb option))
word-comes canon c verb option k (inl e) =
    still-comes canon c (Neg verb option) (word-mode c.options c.mode verb option e) (word-keeps c.options verb option e)
    (word-answered canon c.options c.mode c.table (c.width, c.height) verb option e) (record {
      agreed = word_agrees c.options Us verb option ∙ k.agreed;
      linemode = subst IsOffOrOn (sym (word_keeps_state c.options Us verb option e)) k.linemode;
      chars = k.chars;
      limit = limit_with c (mode_at c.options c.mode (Neg verb option)) ∙ k.limit;
    })
word-comes canon c verb option k (inr t) =
    subst (λ (v : Verb). Comes canon c (end_after_item c (Neg v option)) (says_got c (Neg v option))) (sym t.0)
    (subst (λ (n : ℕ). Comes canon c (end_after_item c (Neg DoIt n)) (says_got c (Neg DoIt n))) (sym t.1)
    (turned-comes canon c (linemode c.options) refl k t.2))

-- A SUBNEGOTIATION that keeps the mask and the characters, and is answered by nothing that counts
record Still (canon : Canon) (c : End) (q : Option Payload) : Type 0 where
  pub mask : mode_by c.mode q ≡ c.mode
  pub chars : chars_by c.table q ≡ c.table
  pub answered : SaysItems canon [] (payload_answers c.mode c.table q)

chatter-still : (canon : Canon) (c : End) (q : Option Payload) → IsChatter q → Still canon c q
chatter-still canon c q i =
    record { mask = chatter-mode c.mode q i; chars = chatter-chars c.table q i; answered = chatter-answered canon c.mode c.table q i }

forward-still : (canon : Canon) (c : End) (f : Option Mask) (b : Bool) → Still canon c (if b then Some (forward_of f) else None)
forward-still canon c (Some mask) true = record { mask = refl; chars = refl; answered = forward-answered canon (Some mask) c.mode c.table }
forward-still canon c None true = record { mask = refl; chars = refl; answered = forward-answered canon None c.mode c.table }
forward-still canon c f false = chatter-still canon c None tt

table-still : (canon : Canon) (c : End) (b : Bool) → c.table ≡ standard_characters → Still canon c (table_if b)
table-still canon c b is =
    record { mask = table-mode c.mode b; chars = table-chars c.table b is; answered = table-answered canon c.mode c.table b is }

stays_sub : (canon : Canon) (c : End) (option : ℕ) (params : List ℕ) → chars_by c.table (payload_at c.options (Sub option params)) ≡ c.table
    → ClientStays canon c → ClientStays canon (end_after_item c (Sub option params))
stays_sub canon c option params same k = record {
  agreed = k.agreed;
  linemode = k.linemode;
  chars = same ∙ k.chars;
  limit = limit_with c (mode_at c.options c.mode (Sub option params)) ∙ k.limit;
}

sub-still : (canon : Canon) (c : End) (option : ℕ) (params : List ℕ) (q : Option Payload) → ClientStays canon c
    → payload_at c.options (Sub option params) ≡ q → Still canon c q → Comes canon c (end_after_item c (Sub option params)) (says_got c (Sub option params))
sub-still canon c option params q k at still =
    let s : Still canon c (payload_at c.options (Sub option params)) = subst (Still canon c) (sym at) still in
    still-comes canon c (Sub option params) s.mask refl s.answered (stays_sub canon c option params s.chars k)

-- a mode that is asked for, by whether it is the one in force
ack-writes : (canon : Canon) (n : ℕ) → n < 4 → SaysItems canon (payload_items (payload.Mode (bit_or n 4))) (payload_items (payload.Mode (bit_or n 4)))
ack-writes canon n fits = writes-one canon (Sub 34 (parameters_of (payload.Mode (bit_or n 4)))) (omega arith) (is-ack n fits)

module _ (canon : Canon) (c : End) (option : ℕ) (params : List ℕ) (mask : ℕ) (k : ClientStays canon c) (plain : is_acknowledged mask ≡ false)
    (askable : IsAskable canon.settings (bits mask)) where
  after-asked : client_mask_after c.mode mask ≡ mode_of mask
  after-asked = ap (λ (b : Bool). if b then c.mode else mode_of mask) plain

  told : (b : Bool) → (mode_of mask == c.mode) ≡ b → mode_answer c.mode mask ≡ (if b then None else Some (bit_or (mode_of mask) 4))
  told b e = ap (λ (a : Bool). if a || mode_of mask == c.mode then None else Some (bit_or (mode_of mask) 4)) plain
      ∙ ap (λ (b : Bool). if b then None else Some (bit_or (mode_of mask) 4)) e

  asked-comes : (b : Bool) → (mode_of mask == c.mode) ≡ b → linemode c.options ≡ true → payload_at c.options (Sub option params) ≡ Some (payload.Mode mask)
      → Comes canon c (end_after_item c (Sub option params)) (says_got c (Sub option params))
  asked-comes true e on at = sub-still canon c option params (Some (payload.Mode mask)) k at (record {
    mask = after-asked ∙ eqb-true (mode_of mask) c.mode e;
    chars = refl;
    answered = subst (λ (x : Option ℕ). SaysItems canon [] (mode_items x)) (sym (told true e)) (writes-none canon);
  })
  asked-comes false e on at =
      let item = Sub option params in
      let n = mode_of mask in
      let new = end_after_item c item in
      let is : mode_at c.options c.mode item ≡ n = ap (mode_by c.mode) at ∙ after-asked in
      let ends = λ (m : ℕ). end_of_edit_items (edits c.mode) (edits m) c.line.held in
      let answer : payload_answers c.mode c.table (payload_at c.options item) ≡ payload_items (payload.Mode (bit_or n 4)) =
      ap (payload_answers c.mode c.table) at ∙ ap mode_items (told false e) in
      let says = end_of_edit_items (edits c.mode) (edits n) c.line.held ++ payload_items (payload.Mode (bit_or n 4)) in
      comes_by canon c new says (says_got c item)
      (subst (λ (xs : List Item). SaysItems canon says xs)
      (sym (ap (λ (m : ℕ). ends m ++ payload_answers c.mode c.table (payload_at c.options item)) is ∙ ap (λ (xs : List Item). ends n ++ xs) answer))
      (writes-append canon (end_of_edit_items (edits c.mode) (edits n) c.line.held) (payload_items (payload.Mode (bit_or n 4))) (ends n) (payload_items (payload.Mode (bit_or n 4)))
      (held-writes canon (edits c.mode) (edits n) c.line.held) (ack-writes canon n (small mask))))
      (stays_sub canon c option params (ap (chars_by c.table) at) k)
      (λ typed taken v a.
      beside-agrees canon typed taken (read_all canon v says) (with_mode c n) new refl
      (ap (after_with c item) is)
      (taken-agrees canon typed taken v c n (bit_or n 4) on (edits-ack n (small mask)) a (subst (IsAskable canon.settings) (sym (bits-mode mask)) askable)))

  mode-comes : (b : Bool) → linemode c.options ≡ b → payload_of option params ≡ Some (payload.Mode mask)
      → Comes canon c (end_after_item c (Sub option params)) (says_got c (Sub option params))
  mode-comes true on is = asked-comes (mode_of mask == c.mode) refl on
      (said-mode c.options option params mask is ∙ ap (λ (b : Bool). if b then Some (payload.Mode mask) else None) on)
  mode-comes false off is = sub-still canon c option params None k
      (said-mode c.options option params mask is ∙ ap (λ (b : Bool). if b then Some (payload.Mode mask) else None) off) (chatter-still canon c None tt)

sub-comes : (canon : Canon) (c : End) (option : ℕ) (params : List ℕ) → ClientStays canon c → IsChatter (payload_of option params)
    ⊎ (Forwards (payload_of option params) ⊎ (Asks canon.settings (payload_of option params) ⊎ Tells canon.settings (payload_of option params)))
    → Comes canon c (end_after_item c (Sub option params)) (says_got c (Sub option params))
sub-comes canon c option params k (inl i) =
    sub-still canon c option params _ k refl (chatter-still canon c _
    (chatter-if (((option == 34) && linemode c.options) && nat_le (length params) 512) (payload_of option params) i))
sub-comes canon c option params k (inr (inl f)) =
    sub-still canon c option params _ k (said-forward c.options option params f.mask f.is) (forward-still canon c f.mask (linemode c.options))
sub-comes canon c option params k (inr (inr (inl a))) =
    mode-comes canon c option params a.mask k a.plain a.askable (linemode c.options) refl a.is
sub-comes canon c option params k (inr (inr (inr t))) =
    sub-still canon c option params _ k (table-at c.options option params t.is) (table-still canon c _ (k.chars ∙ t.standard))

-- A calm item keeps the relation.
pub item-comes : (canon : Canon) (c : End) (item : Item) → ClientStays canon c → IsCalmToClient canon.settings item
    → Comes canon c (end_after_item c item) (says_got c item)
item-comes canon c (Byte b) k calm = still-comes canon c (Byte b) refl refl (writes-none canon)
    (record { agreed = k.agreed; linemode = k.linemode; chars = k.chars; limit = limit_with c c.mode ∙ k.limit })
item-comes canon c Newline k calm = still-comes canon c Newline refl refl (writes-none canon)
    (record { agreed = k.agreed; linemode = k.linemode; chars = k.chars; limit = limit_with c c.mode ∙ k.limit })
item-comes canon c (Cmd command) k calm = still-comes canon c (Cmd command) refl refl (writes-none canon)
    (record { agreed = k.agreed; linemode = k.linemode; chars = k.chars; limit = limit_with c c.mode ∙ k.limit })
item-comes canon c (Neg verb option) k calm = word-comes canon c verb option k calm
item-comes canon c (Sub option params) k calm = sub-comes canon c option params k (calm-kinds canon.settings (payload_of option params) calm)

-- calm items, one after another, keep the relation, however they were cut
pub items-come : (canon : Canon) (c : End) (items : List Item) → ClientStays canon c → All (IsCalmToClient canon.settings) items
    → Comes canon c (end_after_items c items) (says_items c items)
items-come canon c [] k calm = record {
  said = record { fit = All-nil Fits; calm = All-nil (IsCalmToServer canon.settings) };
  stays = k;
  agrees = λ typed taken v a. a;
}
items-come canon c (item ∷ items) k calm =
    let one = item-comes canon c item k (All-head (IsCalmToClient canon.settings) item items calm) in
    comes_then canon c (end_after_item c item) (end_after_items (end_after_item c item) items) (says_got c item) (says_items (end_after_item c item) items) one
    (items-come canon (end_after_item c item) items one.stays (All-tail (IsCalmToClient canon.settings) item items calm))

-- A PIECE THAT WAS REFUSED: a prefix of the replies to its items was sent
pub stops_front : (c : End) (done left part : List Item) (here : DecoderState) (back : List ℕ) → IsStopCause (end_after_items c done) left part here back
    → (rest : List Item) × (says_items c (done ++ left) ≡ (says_items c done ++ part) ++ rest)
stops_front c done left part here back why =
    let u = front_said (end_after_items c done) left [] part here back why in (
      u.0,
      says_both c done left
          ∙ ap (λ (xs : List Item). says_items c done ++ says_items (end_after_items c done) xs) (sym (append-nil left))
          ∙ ap (λ (xs : List Item). says_items c done ++ xs) u.1 ∙ sym (append_assoc (says_items c done) part u.0),
    )

-- A NEW SIZE of the window does not concern lines
pub resized-writes : (canon : Canon) (c : End) (width height : ℕ) → SaysItems canon [] (says_resize c width height)
resized-writes canon c width height = writes-if canon (tells_size c.options && not (is_same_size (c.width, c.height) (width, height)))
    (size_items (width, height)) (size-writes canon (width, height))

-- A COMMAND of the user: BRK is read as IP is, and AYT and NOP as items that do not concern lines
pub brk-writes : (canon : Canon) → SaysItems canon (Cmd command.Ip ∷ []) (Cmd command.Brk ∷ [])
brk-writes canon =
    let one = writes-one canon (Cmd command.Brk) tt tt in
    record { fit = one.fit; calm = one.calm; says_so = λ v. refl }

pub ip-writes : (canon : Canon) → SaysItems canon (Cmd command.Ip ∷ []) (Cmd command.Ip ∷ [])
ip-writes canon = writes-one canon (Cmd command.Ip) tt tt

pub ayt-writes : (canon : Canon) → SaysItems canon [] (Cmd command.Ayt ∷ [])
ayt-writes canon = writes-hushed canon (Cmd command.Ayt) tt tt read-other

pub nop-writes : (canon : Canon) → SaysItems canon [] (Cmd command.Nop ∷ [])
nop-writes canon = writes-hushed canon (Cmd command.Nop) tt tt read-other
