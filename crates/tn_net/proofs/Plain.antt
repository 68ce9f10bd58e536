-- The keys that bytes are which are taken one by one, up to the request to leave.
use Rattle.std.proofs.Common.{◌≡◌, ◌<◌, ◌+◌, ℕ, Bool, true, false, if◌then◌else◌, List, [], ◌∷◌, ◌++◌, length, take, drop, refl, sym, ap, ◌∙◌, append_assoc}
use Rattle.std.proofs.{Common.{append-nil, arith, Option, Some, None, option_map}, Math.ListN.{get_or, set}}
use Rattle.std.proofs.lemmas.List.{drop_more, get_or-set_same, length-set, take-set-le, take_more}
use Rattle.std.specs.Io.KnownBytes.{Consumes, IsAtEnd, Keeps}
use Rattle.tn_net.specs.{PlainKeys.{asks_to_leave, key_in, keys_left, keys_typed}, Typing.{prompt_after, reading}, declared.escaping.Escaping.Escaping}
use Rattle.tn_net.specs.declared.escaping.Typed.{Typed}
use Rattle.tn_net.specs.declared.escaping.Typed.TheVariants as typed

-- one byte more
pub taken_one : (old new : Escaping) (byte : ℕ) (bytes : List ℕ) (t : Typed) → t ≡ reading old byte → new.keyboard ≡ old.keyboard
    → new.prompt ≡ prompt_after old.keyboard old.prompt byte → asks_to_leave t ≡ false
    → keys_left false old (byte ∷ bytes) ≡ key_in t ++ keys_left false new bytes
unfolding keys_typed
taken_one old new byte bytes t is keyboard prompt stays =
    let rest = keys_typed old.keyboard (prompt_after old.keyboard old.prompt byte) bytes in
    (λ i. key_in (sym is i) ++ (if asks_to_leave (sym is i) then [] else rest))
    ∙ (λ i. key_in t ++ (if stays i then [] else rest))
    ∙ (λ i. key_in t ++ keys_typed (sym keyboard i) (sym prompt i) bytes)

-- the last one
no_key : (t : Typed) → asks_to_leave t ≡ true → key_in t ≡ []
no_key (typed.Key key) is = cc
no_key (typed.Control control) is = refl
no_key (typed.Command command) is = refl
no_key typed.Nothing is = refl

pub taken_last : (old : Escaping) (byte : ℕ) (bytes : List ℕ) (t : Typed) → t ≡ reading old byte → asks_to_leave t ≡ true
    → keys_left false old (byte ∷ bytes) ≡ []
unfolding keys_typed
taken_last old byte bytes t is leaves =
    let rest = keys_typed old.keyboard (prompt_after old.keyboard old.prompt byte) bytes in
    (λ i. key_in (sym is i) ++ (if asks_to_leave (sym is i) then [] else rest))
    ∙ (λ i. key_in t ++ (if leaves i then [] else rest))
    ∙ append-nil (key_in t) ∙ no_key t leaves

-- a key is written
pub written : (buf : List ℕ) (count key : ℕ) → count < length buf → take (count + 1) (set buf count key) ≡ take count buf ++ key ∷ []
written buf count key few =
    let long = length-set buf count key in
    take_more (set buf count key) count key (omega (arith, few, long))
    ∙ (λ i. take-set-le count buf count key (omega arith) i ++ get_or-set_same buf count key key few i ∷ [])

module _ (given : List ℕ) (place d : ℕ) (few : place < length given) (old : Escaping) (done rest all : List ℕ)
    (before : done ++ keys_left false old (drop place given ++ rest) ≡ all) where
  at_byte : drop place given ++ rest ≡ get_or given place d ∷ (drop (place + 1) given ++ rest)
  at_byte = ap (λ (l : List ℕ). l ++ rest) (drop_more given place d few)

  pub one_more : (new : Escaping) (t : Typed) (more : List ℕ) → t ≡ reading old (get_or given place d) → new.keyboard ≡ old.keyboard
      → new.prompt ≡ prompt_after old.keyboard old.prompt (get_or given place d) → asks_to_leave t ≡ false → more ≡ done ++ key_in t
      → more ++ keys_left false new (drop (place + 1) given ++ rest) ≡ all
  one_more new t more is keyboard prompt stays wrote =
      let later = keys_left false new (drop (place + 1) given ++ rest) in
      ap (λ (l : List ℕ). l ++ later) wrote ∙ append_assoc done (key_in t) later
      ∙ ap (λ (l : List ℕ). done ++ l)
      (sym (ap (keys_left false old) at_byte ∙ taken_one old new (get_or given place d) (drop (place + 1) given ++ rest) t is keyboard prompt stays))
      ∙ before

  -- no key comes after the command to leave
  pub no_more : (t : Typed) → t ≡ reading old (get_or given place d) → asks_to_leave t ≡ true → done ++ [] ≡ all
  no_more t is leaves =
      ap (λ (l : List ℕ). done ++ l)
      (sym (ap (keys_left false old) at_byte ∙ taken_last old (get_or given place d) (drop (place + 1) given ++ rest) t is leaves))
      ∙ before

-- A READER OF KEYS: what it has left is a function of what is left below it
module _ (before after : List ℕ → List ℕ) (old new : Option (List ℕ)) (bytes keys : List ℕ) (read : Consumes old new bytes)
    (gives : (rest : List ℕ) → keys ++ after rest ≡ before (bytes ++ rest)) where
  pub keys_consumed : Consumes (option_map before old) (option_map after new) keys
  keys_consumed = go old new read where
    go : (o n : Option (List ℕ)) → Consumes o n bytes → Consumes (option_map before o) (option_map after n) keys
    go None n r = tt
    go (Some x) None r = absurd r
    go (Some x) (Some y) r = ap before r ∙ sym (gives y)

  pub keys_kept : keys ≡ [] → Keeps (option_map before old) (option_map after new)
  keys_kept none = go old new read where
    go : (o n : Option (List ℕ)) → Consumes o n bytes → Keeps (option_map before o) (option_map after n)
    go None n r = tt
    go (Some x) None r = absurd r
    go (Some x) (Some y) r = ap (λ (l : List ℕ). l ++ after y) (sym none) ∙ gives y ∙ ap before (sym r)

-- nothing is left
pub none_left : (f : List ℕ → List ℕ) (o : Option (List ℕ)) → ((l : List ℕ) → f l ≡ []) → IsAtEnd (option_map f o)
none_left f None none = tt
none_left f (Some l) none = none l

pub at_end : (f : List ℕ → List ℕ) (o : Option (List ℕ)) → f [] ≡ [] → IsAtEnd o → IsAtEnd (option_map f o)
at_end f None none end = tt
at_end f (Some l) none end = ap f end ∙ none

pub no_bytes : (left : Bool) (escaping : Escaping) → keys_left left escaping [] ≡ []
unfolding keys_typed
no_bytes true escaping = refl
no_bytes false escaping = refl
