-- Keys and items that are typed, some and then more.
use Rattle.std.proofs.{Common.{◌≡◌, ℕ, List, [], ◌∷◌, ◌++◌, map, refl, sym, ap, ◌∙◌, append-nil, append_assoc}, lemmas.List.Elements.filter_map-append}
use Rattle.tn_nvt.proofs.lemmas.Folding.{taken_all}
use Rattle.tn_nvt.specs.{declared.items.Item.{Item, TheVariants.Byte}, Sinks.{FeedsTo, all_of, calls_of}, Feeding.DecoderState}
use Rattle.tn_nvt.specs.Feeding as nvt
use Rattle.tn_cli.specs.{Replay.{key_of, keys_of, GathersItems, GathersSome, AreKeysOf}, Typing.Types, declared.replay.Gathered.Gathered}
use Rattle.tn_cli.specs.declared.typing.Typing.{Typing}

pub types_nothing : (typing : Typing) → Types [] typing typing
types_nothing typing before given had = rw append-nil had

pub types_both : (old mid new : Typing) (xs ys : List ℕ) → Types xs old mid → Types ys mid new → Types (xs ++ ys) old new
types_both old mid new xs ys first then before given had = rw (← append_assoc before xs ys) (then (before ++ xs) given (first before given had))

pub keys_of_bytes : (bytes : List ℕ) → keys_of (map Byte bytes) ≡ bytes
keys_of_bytes [] = refl
keys_of_bytes (b ∷ bs) = ap (λ (xs : List ℕ). b ∷ xs) (keys_of_bytes bs)

-- items that were gathered, and more
gathers_nothing : (old : Gathered) → GathersItems old [] old
gathers_nothing old = sym (append-nil old.keys.items)

gathers_both : (old mid new : Gathered) (xs ys : List Item) → GathersItems old xs mid → GathersItems mid ys new → GathersItems old (xs ++ ys) new
gathers_both old mid new xs ys first then =
    then
    ∙ ap (λ (zs : List ℕ). zs ++ keys_of ys) first
    ∙ append_assoc old.keys.items (keys_of xs) (keys_of ys)
    ∙ ap (λ (zs : List ℕ). old.keys.items ++ zs) (sym (filter_map-append key_of xs ys))

-- the keys that a new decoder passes on are those of the whole stream
pub gathered : (fresh after : DecoderState) (stream : List ℕ) (old new : Gathered) → nvt.LeadsTo [] [] fresh → old.keys.items ≡ []
    → FeedsTo GathersItems fresh stream old new after → AreKeysOf stream new.keys.items
gathered fresh after stream old new begins empty hands =
    let items = all_of (calls_of hands.parts) in
    let read = hands.adds [] [] begins in
    let all : GathersItems old items new =
    taken_all GathersItems GathersSome GathersItems (λ a. gathers_nothing a) gathers_both old new (calls_of hands.parts) hands.taken
    in
    record { items = items; rest = read.rest; reading = read.reading; keys = all ∙ ap (λ (zs : List ℕ). zs ++ keys_of items) empty }
