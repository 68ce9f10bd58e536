-- The keys that the bytes of a reader are.
use Rattle.std.proofs.Common.{◌≡◌, ℕ, true, false, Option, Some, None, List, [], ◌∷◌, option_map, refl, ap}
use Rattle.tn_connect.specs.{Talks.{is_terminal, lines_in, plain_keyboard}, declared.settings.KeySource.{KeySource, TheVariants.{Reader, Input, Terminal}}}
use Rattle.tn_net.proofs.Sorting.{none_mapped}
use Rattle.tn_net.specs.{PlainKeys.{keys_left, keys_typed}, Prompting.closed, Typing.of_bytes}

all_are_keys : (bytes : List ℕ) → keys_typed of_bytes closed bytes ≡ bytes
unfolding keys_typed
all_are_keys [] = refl
all_are_keys (byte ∷ bytes) = λ i. none_mapped byte i ∷ all_are_keys bytes i

none_changes : (bytes : Option (List ℕ)) → option_map (keys_typed of_bytes closed) bytes ≡ bytes
none_changes None = refl
none_changes (Some bytes) = ap Some (all_are_keys bytes)

-- the keys of a terminal are not taken as lines
pub at_terminal : (origin : KeySource) (bytes : Option (List ℕ)) → is_terminal origin ≡ true → lines_in origin bytes ≡ None
at_terminal (Terminal own) bytes is = refl
at_terminal Reader bytes is = let no_way : false ≡ true = is in cc
at_terminal Input bytes is = let no_way : false ≡ true = is in cc

pub at_no_terminal : (origin : KeySource) (escape : Option ℕ) (bytes : Option (List ℕ)) → is_terminal origin ≡ false
    → option_map (keys_left false (record { keyboard = plain_keyboard origin escape; prompt = closed })) bytes ≡ lines_in origin bytes
at_no_terminal Reader escape bytes is = none_changes bytes
at_no_terminal Input escape bytes is = none_changes bytes
at_no_terminal (Terminal own) escape bytes is = let no_way : true ≡ false = is in cc
