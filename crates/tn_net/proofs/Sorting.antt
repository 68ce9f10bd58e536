-- Bytes that are taken one by one give what stands among them.
use Rattle.std.proofs.Common.{◌≡◌, ◌<◌, ◌+◌, ◌==◌, ◌||◌, ℕ, Bool, true, false, if◌then◌else◌, IsFalse, IsTrue, codes, Option, None, Some, List, [], ◌∷◌, ◌++◌}
use Rattle.std.proofs.{Common.{length, map, take, refl, sym, ap, ◌∙◌, subst, append_assoc, append-nil, arith}, Math.ListN.get_or}
use Rattle.std.proofs.lemmas.List.{map-append, take_more}
use Rattle.tn_discipline.specs.Characters.{is_reserved}
use Rattle.tn_codes.specs.declared.codes.Func.{Func}
use Rattle.tn_codes.specs.declared.codes.Func.TheVariants as func
use Rattle.tn_net.specs.{Mapping.{mapped, none_own, own_function, standard_for}, Prompting.{closed, edit_of}, Typing.typed_when, declared.prompt.Edit.Edit}
use Rattle.tn_net.specs.Typing.{unmapped, AreTaken, Obeys, command, command_in, commands, input_in, inputs, inputs_in, is_escape, is_one, mapped_input}
use Rattle.tn_net.specs.Typing.{of_bytes, returned, returns_of, typed_as, prompt_after, prompt_behind, prompt_when, typed_after, typed_again, typed_by}
use Rattle.tn_net.specs.declared.escaping.{EscapeCommand.EscapeCommand, Escaping.Escaping, SessionInput.SessionInput, Keyboard.Keyboard, Typed.Typed}
use Rattle.tn_net.specs.declared.{prompt.Edit.TheVariants.{Enter, Leave, Erase, Kill, Add, Skip, Refuse}, own_characters.OwnCharacters.OwnCharacters}
use Rattle.tn_net.specs.declared.{prompt.Prompt.Prompt, returns.ReturnKey.{ReturnKey, TheVariants.{CrNul, CrLf, Lf}}}
use Rattle.tn_net.specs.declared.escaping.SessionInput.TheVariants as input
use Rattle.tn_net.specs.declared.escaping.Typed.TheVariants as typed
use Rattle.tn_cores.specs.declared.streams.control.Control.TheVariants.{Brk, Ip, Ayt, NewLine}

-- if no character is the user's own, each byte stays
pub none_mapped : (byte : ℕ) → mapped none_own byte ≡ byte
none_mapped byte = same_either (is_reserved byte) byte where
  same_either : (b : Bool) (n : ℕ) → (if b then n else n) ≡ n
  same_either true n = refl
  same_either false n = refl

-- no character of the user's own makes a key RETURN, or RETURN another one
not_return : (a b c : Bool) → (a || b || c) ≡ false → b ≡ false
not_return a false c is = refl
not_return true true c is = cc
not_return false true c is = cc

standard_return : (f : Option Func) (byte : ℕ) → (byte == 13) ≡ false → (standard_for f byte == 13) ≡ false
standard_return None byte apart = apart
standard_return (Some func.Ip) byte apart = refl
standard_return (Some func.Abort) byte apart = refl
standard_return (Some func.Eof) byte apart = refl
standard_return (Some func.Susp) byte apart = refl
standard_return (Some func.Ec) byte apart = refl
standard_return (Some func.El) byte apart = refl
standard_return (Some f) byte apart = apart

same_return : (own : OwnCharacters) (byte : ℕ) → (mapped own byte == 13) ≡ (byte == 13)
same_return own byte = by_reserved (is_reserved byte) refl where
  by_reserved : (b : Bool) → is_reserved byte ≡ b → ((if b then byte else standard_for (own_function own byte) byte) == 13) ≡ (byte == 13)
  by_reserved true is = refl
  by_reserved false is =
      let apart = not_return (byte == 10) (byte == 13) (byte == 255) is in standard_return (own_function own byte) byte apart ∙ sym apart

pub every : (bytes : List ℕ) → inputs of_bytes closed bytes ≡ map input.Key bytes
every [] = refl
every (byte ∷ bytes) = λ i. input.Key (none_mapped byte i) ∷ every bytes i

-- the user's own characters change only keys
module _ (keyboard : Keyboard) where
  given_as : (x : SessionInput) → input_in (typed_as x) ≡ x ∷ []
  given_as (input.Key key) = refl
  given_as (input.Control control) = refl

  no_command : (x : SessionInput) → command_in (typed_as x) ≡ []
  no_command (input.Key key) = refl
  no_command (input.Control control) = refl

  plain : (b : Bool) (x y : SessionInput) → b ≡ false → y ≡ (if b then x else y)
  plain false x y e = refl
  plain true x y e = cc

  held : (b : Bool) (x y : SessionInput) → b ≡ true → x ≡ (if b then x else y)
  held true x y e = refl
  held false x y e = cc

  module _ (byte : ℕ) (is : is_escape keyboard.escape byte ≡ false) where
    key : input.Key (mapped keyboard.own byte) ≡ mapped_input keyboard (input.Key byte)
    key = plain (is_escape keyboard.escape byte) (input.Key byte) (input.Key (mapped keyboard.own byte)) is

    -- RETURN as another input, which the characters do not change
    other : (x : SessionInput) (c d : Bool) → x ≡ mapped_input keyboard x → d ≡ c → (if d then x else input.Key (mapped keyboard.own byte))
        ≡ mapped_input keyboard (if c then x else input.Key byte)
    other x true true stays same = stays
    other x false false stays same = key
    other x true false stays same = cc
    other x false true stays same = cc

    feed : (b : Bool) → input.Key 10 ≡ (if b then input.Key 10 else input.Key 10)
    feed true = refl
    feed false = refl

    kept_return : (r : ReturnKey) → returned r (mapped keyboard.own byte) ≡ mapped_input keyboard (returned r byte)
    kept_return CrNul = key
    kept_return CrLf = other (input.Control NewLine) (byte == 13) (mapped keyboard.own byte == 13) refl (same_return keyboard.own byte)
    kept_return Lf =
        other (input.Key 10) (byte == 13) (mapped keyboard.own byte == 13) (feed (is_escape keyboard.escape 10)) (same_return keyboard.own byte)

  from_key : (r : ReturnKey) (b : Bool) (byte : ℕ) → is_escape keyboard.escape byte ≡ b
      → input_in (if b then typed.Nothing else typed_as (returned r (mapped keyboard.own byte)))
      ≡ map (mapped_input keyboard) (input_in (if b then typed.Nothing else typed_as (returned r (mapped none_own byte))))
  from_key r true byte is = refl
  from_key r false byte is =
      given_as (returned r (mapped keyboard.own byte))
      ∙ ap (λ (x : SessionInput). x ∷ [])
      (kept_return byte is r ∙ ap (λ (n : ℕ). mapped_input keyboard (returned r n)) (sym (none_mapped byte)))
      ∙ ap (map (mapped_input keyboard)) (sym (given_as (returned r (mapped none_own byte))))

  -- the meaning of a line is no key
  no_key : (b c d e : Bool) (command : EscapeCommand) → input_in (if b then typed.Nothing else if c then typed.Control Brk else if d then typed.Control Ip
      else if e then typed.Control Ayt else typed.Command command)
      ≡ map (mapped_input keyboard) (input_in (if b then typed.Nothing else if c then typed.Control Brk else if d then typed.Control Ip
      else if e then typed.Control Ayt else typed.Command command))
  no_key true c d e command = refl
  no_key false true d e command = refl
  no_key false false true e command = refl
  no_key false false false true command = refl
  no_key false false false false command = refl

  from_edit : (edit : Edit) (line : List ℕ) → input_in (typed_by edit line) ≡ map (mapped_input keyboard) (input_in (typed_by edit line))
  from_edit Enter line = no_key (length line == 0) (is_one line (codes "b") (codes "send brk")) (is_one line (codes "i") (codes "send ip"))
      (is_one line (codes "a") (codes "send ayt")) (command line)
  from_edit Leave line = refl
  from_edit Erase line = refl
  from_edit Kill line = refl
  from_edit Add line = refl
  from_edit (Skip s) line = refl
  from_edit Refuse line = refl

  again : (b : Bool) (byte : ℕ) → is_escape keyboard.escape byte ≡ true
      → input_in (if b then typed.Key byte else typed.Nothing) ≡ map (mapped_input keyboard) (input_in (if b then typed.Key byte else typed.Nothing))
  again true byte is = ap (λ (x : SessionInput). x ∷ [])
      (held (is_escape keyboard.escape byte) (input.Key byte) (input.Key (mapped keyboard.own byte)) is)
  again false byte is = refl

  from_line : (b : Bool) (edit : Edit) (line : List ℕ) (byte : ℕ) → is_escape keyboard.escape byte ≡ b
      → input_in (if b then typed_again line byte else typed_by edit line)
      ≡ map (mapped_input keyboard) (input_in (if b then typed_again line byte else typed_by edit line))
  from_line true edit line byte is = again (length line == 0) byte is
  from_line false edit line byte is = from_edit edit line

  is_mapped : (opens : Bool) (prompt : Prompt) (byte : ℕ) → input_in (typed_when opens keyboard prompt byte)
      ≡ map (mapped_input keyboard) (input_in (typed_when opens (unmapped keyboard) prompt byte))
  is_mapped false prompt byte = from_key (returns_of keyboard prompt) (is_escape keyboard.escape byte) byte refl
  is_mapped true prompt byte =
      from_line (is_escape keyboard.escape byte) (edit_of keyboard.editing prompt.sequence byte) prompt.line byte refl

  -- the line after a byte is the same
  same_prompt : (opens : Bool) (prompt : Prompt) (byte : ℕ) → prompt_when opens keyboard prompt byte ≡ prompt_when opens (unmapped keyboard) prompt byte
  same_prompt false prompt byte = refl
  same_prompt true prompt byte = refl

  same_command : (opens : Bool) (prompt : Prompt) (byte : ℕ) → command_in (typed_when opens keyboard prompt byte)
      ≡ command_in (typed_when opens (unmapped keyboard) prompt byte)
  same_command false prompt byte = from (is_escape keyboard.escape byte) where
    r : ReturnKey
    r = returns_of keyboard prompt

    from : (b : Bool) → command_in (if b then typed.Nothing else typed_as (returned r (mapped keyboard.own byte)))
        ≡ command_in (if b then typed.Nothing else typed_as (returned r (mapped none_own byte)))
    from true = refl
    from false = no_command (returned r (mapped keyboard.own byte)) ∙ sym (no_command (returned r (mapped none_own byte)))
  same_command true prompt byte = refl

pub all_mapped : (keyboard : Keyboard) (prompt : Prompt) (bytes : List ℕ)
    → inputs keyboard prompt bytes ≡ map (mapped_input keyboard) (inputs (unmapped keyboard) prompt bytes)
all_mapped keyboard prompt [] = refl
all_mapped keyboard prompt (byte ∷ bytes) =
    let next = prompt_after keyboard prompt byte in
    let first = input_in (typed_after (unmapped keyboard) prompt byte) in
    (λ i. is_mapped keyboard prompt.is_open prompt byte i ++ all_mapped keyboard next bytes i)
    ∙ sym (map-append (mapped_input keyboard) first (inputs (unmapped keyboard) next bytes))
    ∙ ap (λ (p : Prompt). map (mapped_input keyboard) (first ++ inputs (unmapped keyboard) p bytes)) (same_prompt keyboard prompt.is_open prompt byte)

pub same_commands : (keyboard : Keyboard) (prompt : Prompt) (bytes : List ℕ) → commands keyboard prompt bytes ≡ commands (unmapped keyboard) prompt bytes
same_commands keyboard prompt [] = refl
same_commands keyboard prompt (byte ∷ bytes) =
    (λ i. same_command keyboard prompt.is_open prompt byte i ++ same_commands keyboard (prompt_after keyboard prompt byte) bytes i)
    ∙ ap (λ (p : Prompt). command_in (typed_after (unmapped keyboard) prompt byte) ++ commands (unmapped keyboard) p bytes)
    (same_prompt keyboard prompt.is_open prompt byte)

-- the bytes that RETURN is to send change no other key
as_key : (r : ReturnKey) (key : ℕ) → (key == 13) ≡ false → returned r key ≡ input.Key key
as_key CrNul key apart = refl
as_key CrLf key apart = λ i. if apart i then input.Control NewLine else input.Key key
as_key Lf key apart = λ i. if apart i then input.Key 10 else input.Key key

pub unchanged : (keyboard : Keyboard) (prompt : Prompt) (byte : ℕ) (r : Option ReturnKey) (opens : Bool) → IsFalse (byte == 13)
    → typed_when opens keyboard prompt byte ≡ typed_when opens keyboard (record prompt { returns = r }) byte
unchanged keyboard prompt byte r true apart = refl
unchanged keyboard prompt byte r false apart =
    let stays = same_return keyboard.own byte ∙ apart in
    let one = as_key (returns_of keyboard prompt) (mapped keyboard.own byte) stays in
    let two = as_key (returns_of keyboard (record prompt { returns = r })) (mapped keyboard.own byte) stays in
    ap (λ (x : SessionInput). if is_escape keyboard.escape byte then typed.Nothing else typed_as x) (one ∙ sym two)

-- no byte of a line is a key, except the escape character on an empty line
module _ (line : List ℕ) (byte key : ℕ) where
  abbrev IsEscape : Bool → Type 0
  IsEscape b = (key ≡ byte) × IsTrue b × (line ≡ [])

  on_empty : (xs : List ℕ) → (if length xs == 0 then typed.Key byte else typed.Nothing) ≡ typed.Key key → (key ≡ byte) × (xs ≡ [])
  on_empty [] is = (cc, refl)
  on_empty (x ∷ xs) is = absurd (pick (length (x ∷ xs) == 0) (grind arith) is) where
    pick : (b : Bool) → b ≡ false → (if b then typed.Key byte else typed.Nothing) ≡ typed.Key key → ⊥
    pick true e h = cc
    pick false e h = cc

  meant_no_key : (b c d e : Bool) (command : EscapeCommand) → (if b then typed.Nothing else if c then typed.Control Brk else if d then typed.Control Ip
      else if e then typed.Control Ayt else typed.Command command) ≡ typed.Key key → ⊥
  meant_no_key true c d e command is = cc
  meant_no_key false true d e command is = cc
  meant_no_key false false true e command is = cc
  meant_no_key false false false true command is = cc
  meant_no_key false false false false command is = cc

  edit_no_key : (edit : Edit) → typed_by edit line ≡ typed.Key key → ⊥
  edit_no_key Enter is = meant_no_key (length line == 0) (is_one line (codes "b") (codes "send brk")) (is_one line (codes "i") (codes "send ip"))
      (is_one line (codes "a") (codes "send ayt")) (command line) is
  edit_no_key Leave is = cc
  edit_no_key Erase is = cc
  edit_no_key Kill is = cc
  edit_no_key Add is = cc
  edit_no_key (Skip s) is = cc
  edit_no_key Refuse is = cc

  key_by : (b : Bool) (edit : Edit) → (if b then typed_again line byte else typed_by edit line) ≡ typed.Key key → IsEscape b
  key_by true edit is = let found = on_empty line is in (found.0, refl, found.1)
  key_by false edit is = absurd (edit_no_key edit is)

pub only_escape : (keyboard : Keyboard) (prompt : Prompt) (byte key : ℕ) (at : Bool) → prompt.is_open ≡ at → IsTrue at
    → typed_when at keyboard prompt byte ≡ typed.Key key → (key ≡ byte) × IsTrue (is_escape keyboard.escape byte) × (prompt.line ≡ [])
only_escape keyboard prompt byte key true e opens is =
    key_by prompt.line byte key (is_escape keyboard.escape byte) (edit_of keyboard.editing prompt.sequence byte) is
only_escape keyboard prompt byte key false e opens is = absurd (never opens) where
  never : IsTrue false → ⊥
  never x = cc

pub taken : (old new : Escaping) (bytes : List ℕ) (made : List Typed) → AreTaken old bytes made new → inputs_in made ≡ inputs old.keyboard old.prompt bytes
taken old new [] [] is = refl
taken old new [] (t ∷ made) is = absurd is
taken old new (byte ∷ bytes) [] is = absurd is
taken old new (byte ∷ bytes) (t ∷ made) is =
    let rest : inputs_in made ≡ inputs is.0.keyboard is.0.prompt bytes = taken is.0 new bytes made is.4 in
    let settled : inputs_in made ≡ inputs old.keyboard (prompt_after old.keyboard old.prompt byte) bytes =
    rest ∙ ap (λ (k : Keyboard). inputs k is.0.prompt bytes) is.2 ∙ ap (λ (w : Prompt). inputs old.keyboard w bytes) is.3 in
    λ i. input_in (is.1 i) ++ settled i

-- ONE BYTE MORE
module _ (keyboard : Keyboard) where
  inputs_push : (prompt : Prompt) (bytes : List ℕ) (byte : ℕ) → inputs keyboard prompt (bytes ++ byte ∷ []) ≡ inputs keyboard prompt bytes
      ++ input_in (typed_after keyboard (prompt_behind keyboard prompt bytes) byte)
  inputs_push prompt [] byte = append-nil (input_in (typed_after keyboard prompt byte))
  inputs_push prompt (x ∷ bytes) byte =
      let first = input_in (typed_after keyboard prompt x) in
      let next = prompt_after keyboard prompt x in
      ap (λ (xs : List SessionInput). first ++ xs) (inputs_push next bytes byte)
      ∙ sym (append_assoc first (inputs keyboard next bytes) (input_in (typed_after keyboard (prompt_behind keyboard next bytes) byte)))

  commands_push : (prompt : Prompt) (bytes : List ℕ) (byte : ℕ) → commands keyboard prompt (bytes ++ byte ∷ []) ≡ commands keyboard prompt bytes
      ++ command_in (typed_after keyboard (prompt_behind keyboard prompt bytes) byte)
  commands_push prompt [] byte = append-nil (command_in (typed_after keyboard prompt byte))
  commands_push prompt (x ∷ bytes) byte =
      let first = command_in (typed_after keyboard prompt x) in
      let next = prompt_after keyboard prompt x in
      ap (λ (cs : List EscapeCommand). first ++ cs) (commands_push next bytes byte)
      ∙ sym (append_assoc first (commands keyboard next bytes) (command_in (typed_after keyboard (prompt_behind keyboard next bytes) byte)))

  prompt_push : (prompt : Prompt) (bytes : List ℕ) (byte : ℕ) → prompt_behind keyboard prompt (bytes ++ byte ∷ [])
      ≡ prompt_after keyboard (prompt_behind keyboard prompt bytes) byte
  prompt_push prompt [] byte = refl
  prompt_push prompt (x ∷ bytes) byte = prompt_push (prompt_after keyboard prompt x) bytes byte

-- commands that are obeyed
pub obeys_none : (o : Option (List EscapeCommand)) → Obeys o [] o
obeys_none None = refl
obeys_none (Some l) = ap Some (sym (append-nil l))

pub obeys_more : (a b c : Option (List EscapeCommand)) (xs ys : List EscapeCommand) → Obeys a xs b → Obeys b ys c → Obeys a (xs ++ ys) c
obeys_more None b c xs ys one two = subst (λ (o : Option (List EscapeCommand)). Obeys o ys c) one two
obeys_more (Some l) b c xs ys one two = subst (λ (o : Option (List EscapeCommand)). Obeys o ys c) one two ∙ ap Some (append_assoc l xs ys)

-- THE LOOP: what these first bytes gave is kept and obeyed
module _ (keyboard : Keyboard) (prompt : Prompt) (given : List ℕ) where
  pub record IsSorted (first : List SessionInput) (place : ℕ) (kept : List SessionInput) (before now : Option (List EscapeCommand))
      (escaping : Escaping) : Type 0 where
    pub kept_are : kept ≡ first ++ inputs keyboard prompt (take place given)
    pub obeyed : Obeys before (commands keyboard prompt (take place given)) now
    pub keyboard_is : escaping.keyboard ≡ keyboard
    pub prompt_is : escaping.prompt ≡ prompt_behind keyboard prompt (take place given)

  -- one byte more was taken
  pub one_more : (first : List SessionInput) (place d : ℕ) (kept more : List SessionInput) (before now later : Option (List EscapeCommand))
      (escaping new : Escaping)
      (typed : Typed) → IsSorted first place kept before now escaping → place < length given
      → typed ≡ typed_after escaping.keyboard escaping.prompt (get_or given place d) → new.keyboard ≡ escaping.keyboard
      → new.prompt ≡ prompt_after escaping.keyboard escaping.prompt (get_or given place d)
      → more ≡ kept ++ input_in typed → Obeys now (command_in typed) later → IsSorted first (place + 1) more before later new
  one_more first place d kept more before now later escaping new typed s few is keyboard_stays prompt_stays put obeyed =
      let byte = get_or given place d in
      let done = take place given in
      let longer : take (place + 1) given ≡ done ++ byte ∷ [] = take_more given place d few in
      let read : typed ≡ typed_after keyboard (prompt_behind keyboard prompt done) byte = is ∙ (λ i. typed_after (s.keyboard_is i) (s.prompt_is i) byte) in
      let inputs_are : inputs keyboard prompt (take (place + 1) given) ≡ inputs keyboard prompt done ++ input_in typed =
      ap (λ (l : List ℕ). inputs keyboard prompt l) longer ∙ inputs_push keyboard prompt done byte
      ∙ ap (λ (t : Typed). inputs keyboard prompt done ++ input_in t) (sym read) in
      let commands_are : commands keyboard prompt (take (place + 1) given) ≡ commands keyboard prompt done ++ command_in typed =
      ap (λ (l : List ℕ). commands keyboard prompt l) longer ∙ commands_push keyboard prompt done byte
      ∙ ap (λ (t : Typed). commands keyboard prompt done ++ command_in t) (sym read) in
      record {
        kept_are = put ∙ ap (λ (l : List SessionInput). l ++ input_in typed) s.kept_are ∙ append_assoc first (inputs keyboard prompt done) (input_in typed)
            ∙ ap (λ (l : List SessionInput). first ++ l) (sym inputs_are);
        obeyed = subst (λ (l : List EscapeCommand). Obeys before l later) (sym commands_are)
            (obeys_more before now later (commands keyboard prompt done) (command_in typed) s.obeyed obeyed);
        keyboard_is = keyboard_stays ∙ s.keyboard_is;
        prompt_is = prompt_stays ∙ (λ i. prompt_after (s.keyboard_is i) (s.prompt_is i) byte) ∙ sym (prompt_push keyboard prompt done byte)
            ∙ sym (ap (λ (l : List ℕ). prompt_behind keyboard prompt l) longer);
      }

  -- the commands after one byte more are those with the byte's own
  pub commands_with : (place d : ℕ) (escaping : Escaping) (typed : Typed) → place < length given → escaping.keyboard ≡ keyboard
      → escaping.prompt ≡ prompt_behind keyboard prompt (take place given)
      → typed ≡ typed_after escaping.keyboard escaping.prompt (get_or given place d)
      → commands keyboard prompt (take (place + 1) given) ≡ commands keyboard prompt (take place given) ++ command_in typed
  commands_with place d escaping typed few keyboard_is prompt_is is =
      let byte = get_or given place d in
      let done = take place given in
      let read : typed ≡ typed_after keyboard (prompt_behind keyboard prompt done) byte = is ∙ (λ i. typed_after (keyboard_is i) (prompt_is i) byte) in
      ap (λ (l : List ℕ). commands keyboard prompt l) (take_more given place d few) ∙ commands_push keyboard prompt done byte
      ∙ ap (λ (t : Typed). commands keyboard prompt done ++ command_in t) (sym read)

  -- no byte was taken yet
  pub none_yet : (first : List SessionInput) (before : Option (List EscapeCommand)) (escaping : Escaping) → escaping.keyboard ≡ keyboard → escaping.prompt
      ≡ prompt
      → IsSorted first 0 first before before escaping
  none_yet first before escaping keyboard_is prompt_stays = record {
    kept_are = sym (append-nil first);
    obeyed = obeys_none before;
    keyboard_is = keyboard_is;
    prompt_is = prompt_stays;
  }

-- the input that was pushed is last
pub pushed : {A : Type 0} (b : Bool) (old new : List A) (x : A) → b ≡ true → new ≡ (if b then old ++ x ∷ [] else old) → new ≡ old ++ x ∷ []
pushed true old new x e is = is
pushed false old new x e is = cc

pub pushed_len : (b : Bool) (m n : ℕ) → b ≡ true → n ≡ (if b then m + 1 else m) → n ≡ m + 1
pushed_len true m n e is = is
pushed_len false m n e is = cc
