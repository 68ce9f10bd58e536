-- The core takes all that the messages brought in order.
use Rattle.std.proofs.Common.{◌≡◌, ℕ, Bool, true, false, Option, Some, None, List, [], ◌∷◌, ◌++◌, map, flat_map, refl, sym, ap, ◌∙◌, subst, append-nil, append_assoc}
use Rattle.std.proofs.lemmas.Grind.{flat_map-append}
use Rattle.tn_client.proofs.lemmas.Histories.{items-gets}
use Rattle.tn_client.specs.{Events.{History, next, typed, got, gets, items}, declared.commands.UserCommand.UserCommand}
use Rattle.tn_cores.proofs.{of_core.Typing.items-types, lemmas.{Folding.run_takes, Pieces.brings_none}}
use Rattle.tn_cores.specs.client.Bringing.{Input, key_typed, key_in, keys_in, input_by, inputs, inputs_from, inputs_brought, brought_from, brought}
use Rattle.tn_cores.specs.client.{Bringing.TakesInOrder, Commands.{command_of, event_by}, Marks.{Turns, Runs}}
use Rattle.tn_cores.specs.{declared.{client.messages.{Origin.Origin, ClientMark.ClientMark, Told.Told}, streams.control.Control.Control}, Pieces.TakesFront}
use Rattle.tn_cores.specs.{client.Run.{Run, Acts, ActsUnless, Asks, Handles, TakesPiece, types, start}, declared.client.messages.Origin.TheVariants.{Keys, Net}}
use Rattle.tn_cores.specs.declared.messages.Message.{Message, TheVariants.{Piece, HangUp, ReadFailed, Take, Said, Refused, Left, Resized, Asked}}
use Rattle.tn_cores.specs.declared.client.messages.ClientMark.TheVariants as mark
use Rattle.tn_nvt.proofs.lemmas.Reading.{reads_none}
use Rattle.tn_nvt.specs.declared.items.Item.{Item}
use Rattle.tn_linemode.specs.Prefixes.{IsRead}

true_false : true ≡ false → ⊥
true_false e = cc

inputs-types : (h : History) (ks : List ℕ) → inputs (types h ks) ≡ inputs h ++ map key_typed ks
inputs-types h [] = sym (append-nil (inputs h))
inputs-types h (k ∷ ks) = inputs-types (next h (typed k)) ks ∙ append_assoc (inputs h) (key_typed k ∷ []) (map key_typed ks)

pub inputs-gets : (h : History) (xs : List Item) → inputs (gets h xs) ≡ inputs h
inputs-gets h [] = refl
inputs-gets h (x ∷ xs) = inputs-gets (next h (got x)) xs

-- one message that had its effect
record Takes (c : Run) (from : Origin) (m : Message) (new : Run) : Type 0 where
  types_on : inputs new.history ≡ inputs c.history ++ inputs_from from m
  feeds_on : new.stream ≡ c.stream ++ brought_from Net from m
  reads_on : IsRead c.stream (items c.history) → IsRead new.stream (items new.history)

-- one message that brought nothing
plain : (c : Run) (from : Origin) (m : Message) (new : Run) → inputs_from from m ≡ [] → brought_from Net from m ≡ [] → new.history ≡ c.history
    → new.stream ≡ c.stream → Takes c from m new
plain c from m new no_keys no_net same stream = record {
  types_on = ap inputs same ∙ sym (ap (λ (xs : List Input). inputs c.history ++ xs) no_keys ∙ append-nil (inputs c.history));
  feeds_on = stream ∙ sym (ap (λ (bs : List ℕ). c.stream ++ bs) no_net ∙ append-nil c.stream);
  reads_on = λ r.
      let P : List ℕ → Type 0 = λ bs. IsRead bs (items new.history) in
      let Q : History → Type 0 = λ h. IsRead c.stream (items h) in
      subst P (sym stream) (subst Q (sym same) r);
}

piece_taken : (c : Run) (from : Origin) (piece : List ℕ) (new : Run) → TakesPiece c from piece new → Takes c from (Piece piece) new
piece_taken c Keys piece new e = record {
  types_on = ap (λ (r : Run). inputs r.history) e ∙ inputs-types c.history piece;
  feeds_on = ap (λ (r : Run). r.stream) e ∙ sym (append-nil c.stream);
  reads_on = λ r. rw e (rw (items-types c.history piece) r);
}
piece_taken c Net piece new t = record {
  types_on = ap (λ (r : Run). inputs r.history) t.2 ∙ inputs-gets c.history t.0 ∙ sym (append-nil (inputs c.history));
  feeds_on = ap (λ (r : Run). r.stream) t.2;
  reads_on = λ r. rw t.2 (rw (items-gets c.history t.0) t.1);
}

none_net : (from : Origin) (m : Message) → ((piece : List ℕ) → m ≡ Piece piece → ⊥) → brought_from Net from m ≡ []
none_net Net m other = brings_none m other
none_net Keys m other = refl

-- a message that brings nothing that is typed
abbrev IsStill : Message → Type 0
IsStill (Piece piece) = ⊥
IsStill (Asked control) = ⊥
IsStill _ = Unit {0}

none_typed : (from : Origin) (m : Message) → IsStill m → inputs_from from m ≡ []
none_typed Net m still = refl
none_typed Keys (Piece piece) still = absurd still
none_typed Keys (Asked control) still = absurd still
none_typed Keys HangUp still = refl
none_typed Keys ReadFailed still = refl
none_typed Keys Take still = refl
none_typed Keys (Said job text after) still = refl
none_typed Keys Refused still = refl
none_typed Keys Left still = refl
none_typed Keys (Resized size) still = refl

turned : (c : Run) (from : Origin) (m : Message) (new : Run) → IsStill m → ((piece : List ℕ) → m ≡ Piece piece → ⊥) → new.history ≡ c.history
    → new.stream ≡ c.stream → Takes c from m new
turned c from m new still other same stream = plain c from m new (none_typed from m still) (none_net from m other) same stream

asked : (c : Run) (from : Origin) (control : Control) (new : Run) → Asks c from control new → Takes c from (Asked control) new
asked c Keys control new a = record {
  types_on = ap (λ (r : Run). inputs r.history) a ∙ brings (command_of control);
  feeds_on = ap (λ (r : Run). r.stream) a ∙ sym (append-nil c.stream);
  reads_on = λ r. subst (λ (q : Run). IsRead q.stream (items q.history)) (sym a)
      (subst (λ (xs : List Item). IsRead c.stream xs) (sym (no_item (command_of control))) r);
}
  where
    brings : (command : Option UserCommand) → inputs (next c.history (event_by command)) ≡ inputs c.history ++ input_by command ∷ []
    brings (Some command) = refl
    brings None = refl

    no_item : (command : Option UserCommand) → items (next c.history (event_by command)) ≡ items c.history
    no_item (Some command) = refl
    no_item None = refl
asked c Net control new a = plain c Net (Asked control) new refl refl (ap (λ (r : Run). r.history) a) (ap (λ (r : Run). r.stream) a)

acted : (c : Run) (from : Origin) (m : Message) (new : Run) → Acts c from m new → Takes c from m new
acted c from (Piece piece) new a = piece_taken c from piece new a
acted c from HangUp new a = turned c from HangUp new tt (λ piece e. cc) (ap (λ (r : Run). r.history) a) (ap (λ (r : Run). r.stream) a)
acted c from ReadFailed new a = turned c from ReadFailed new tt (λ piece e. cc) (ap (λ (r : Run). r.history) a) (ap (λ (r : Run). r.stream) a)
acted c from Take new a = turned c from Take new tt (λ piece e. cc) (ap (λ (r : Run). r.history) a) (ap (λ (r : Run). r.stream) a)
acted c from (Said job text after) new a = turned c from (Said job text after) new tt (λ piece e. cc) (ap (λ (r : Run). r.history) a)
    (ap (λ (r : Run). r.stream) a)
acted c from Refused new a = turned c from Refused new tt (λ piece e. cc) (ap (λ (r : Run). r.history) a) (ap (λ (r : Run). r.stream) a)
acted c from Left new a = turned c from Left new tt (λ piece e. cc) (ap (λ (r : Run). r.history) a) (ap (λ (r : Run). r.stream) a)
acted c from (Resized size) new a =
    let other : (piece : List ℕ) → Resized size ≡ Piece piece → ⊥ = λ piece e. cc in
    record {
      types_on = ap (λ (r : Run). inputs r.history) a ∙ sym (ap (λ (xs : List Input). inputs c.history ++ xs) (none_typed from (Resized size) tt)
          ∙ append-nil (inputs c.history));
      feeds_on = ap (λ (r : Run). r.stream) a ∙ sym (ap (λ (bs : List ℕ). c.stream ++ bs) (none_net from (Resized size) other) ∙ append-nil c.stream);
      reads_on = λ r. subst (λ (q : Run). IsRead q.stream (items q.history)) (sym a) r;
    }
acted c from (Asked control) new a = asked c from control new a

handled : (c : Run) (told : Told) (new : Run) → c.progress.over ≡ false → Handles c told new → Takes c told.from told.message new
handled c told new on h =
    let P : Bool → Type 0 = λ b. ActsUnless b c told new in
    acted c told.from told.message new (subst P on h)

-- a run takes a message as another does that has the same history and stream
takes_as : (c : Run) (from : Origin) (m : Message) (whole new : Run) → new.history ≡ whole.history → new.stream ≡ whole.stream → Takes c from m whole
    → Takes c from m new
takes_as c from m whole new same stream t = record {
  types_on = ap inputs same ∙ t.types_on;
  feeds_on = stream ∙ t.feeds_on;
  reads_on = λ r.
      let P : List ℕ → Type 0 = λ bs. IsRead bs (items new.history) in
      let Q : History → Type 0 = λ h. IsRead whole.stream (items h) in
      subst P (sym stream) (subst Q (sym same) (t.reads_on r));
}

turn_takes : (c new : Run) (m : Told × ClientMark) → c.progress.over ≡ false → Turns c m new → Takes c m.0.from m.0.message new
turn_takes c new (told, mark.Whole) on t = handled c told new on t
turn_takes c new (told, mark.WriteFailed) on t = takes_as c told.from told.message t.1 new (ap (λ (r : Run). r.history) t.3) (ap (λ (r : Run). r.stream) t.3)
    (handled c told t.1 on t.2)
turn_takes c new (told, mark.ShowFailed) on t = takes_as c told.from told.message t.1 new (ap (λ (r : Run). r.history) t.3) (ap (λ (r : Run). r.stream) t.3)
    (handled c told t.1 on t.2)
turn_takes c new (told, mark.Refused f) on t = takes_as c told.from told.message t.1 new (ap (λ (r : Run). r.history) t.3) (ap (λ (r : Run). r.stream) t.3)
    (handled c told t.1 on t.2)

-- nothing has any effect
turn_stays : (c new : Run) (m : Told × ClientMark) → c.progress.over ≡ true → Turns c m new → new ≡ c
turn_stays c new (told, mark.Whole) off t = let P : Bool → Type 0 = λ b. ActsUnless b c told new in subst P off t
turn_stays c new _ off t = absurd (true_false (sym off ∙ t.0))

-- the history's items are those of the stream
abbrev Reads : Run → Type 0
Reads c = IsRead c.stream (items c.history)

-- the bytes that messages bring from one side are taken in order
side_takes : {A : Type 0} (taken : Run → List A) (brings : Origin → Message → List A)
    → ((c new : Run) (from : Origin) (m : Message) → Takes c from m new → taken new ≡ taken c ++ brings from m) → (ms : List (Told × ClientMark)) (c new : Run)
    → Runs c ms new → Reads c → TakesFront new.progress.over (taken c
    ++ flat_map (λ (told : Told). brings told.from told.message) (map (λ (m : Told × ClientMark). m.0) ms)) (taken new) × Reads new
side_takes taken brings more ms c new runs read =
    run_takes Turns (λ (r : Run). r.progress.over) Reads taken (λ (m : Told × ClientMark). m.0) (λ (told : Told). brings told.from told.message) (record {
      on = λ p q m on t h. let one = turn_takes p q m on t in (more p q m.0.from m.0.message one, one.reads_on h);
      off = λ p q m off t h.
          let same = turn_stays p q m off t in
          (ap (λ (r : Run). r.progress.over) same ∙ off, ap taken same, subst Reads (sym same) h);
    }) ms c new runs read

pub in_order : (width height limit : ℕ) (ms : List (Told × ClientMark)) (new : Run) → Runs (start width height limit) ms new →
    TakesInOrder (map (λ m. m.0) ms) new
in_order width height limit ms new r =
    let c = start width height limit in
    let ks = side_takes (λ (x : Run). inputs x.history) inputs_from (λ p q from m t. t.types_on) ms c new r ([], reads_none) in
    let ns = side_takes (λ (x : Run). x.stream) (brought_from Net) (λ p q from m t. t.feeds_on) ms c new r ([], reads_none) in
    record {
      untyped = ks.0.rest;
      typed = ks.0.front;
      unread = ns.0.rest;
      fed = ns.0.front;
      read = ns.1;
      all = λ on. (ks.0.whole on, ns.0.whole on);
    }

-- the keys among what is typed are those that the messages bring
keys-typed : (piece : List ℕ) → keys_in (map key_typed piece) ≡ piece
keys-typed [] = refl
keys-typed (key ∷ keys) = ap (λ (ks : List ℕ). key ∷ ks) (keys-typed keys)

keys-from : (from : Origin) (m : Message) → keys_in (inputs_from from m) ≡ brought_from Keys from m
keys-from Net m = refl
keys-from Keys (Piece piece) = keys-typed piece
keys-from Keys (Asked control) = no_key (command_of control)
  where
    no_key : (command : Option UserCommand) → keys_in (input_by command ∷ []) ≡ []
    no_key (Some command) = refl
    no_key None = refl
keys-from Keys HangUp = refl
keys-from Keys ReadFailed = refl
keys-from Keys Take = refl
keys-from Keys (Said job text after) = refl
keys-from Keys Refused = refl
keys-from Keys Left = refl
keys-from Keys (Resized size) = refl

pub keys-brought : (all_told : List Told) → keys_in (inputs_brought all_told) ≡ brought Keys all_told
keys-brought [] = refl
keys-brought (told ∷ later) =
    flat_map-append key_in (inputs_from told.from told.message) (inputs_brought later)
    ∙ (λ i. keys-from told.from told.message i ++ keys-brought later i)
