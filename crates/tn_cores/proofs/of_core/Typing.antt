-- Keys, one after another.
use Rattle.std.proofs.Common.{◌≡◌, ℕ, List, [], ◌∷◌, ◌++◌, refl, sym, ap, ◌∙◌, append-nil, append_assoc}
use Rattle.tn_client.specs.{Answering.Untouched, Calls.{End, LeadsTo}, Events.{History, next, typed, items}, Replies.{items_said, replies}}
use Rattle.tn_client.specs.{Screen.{text_shown, shows}, Steps.{end_after_key, says_key, shows_key}}
use Rattle.tn_client.proofs.lemmas.Standings.{stands, says_as, displays_as}
use Rattle.tn_linemode.proofs.lemmas.Folding as folding
use Rattle.tn_linemode.proofs.lemmas.Cutting.{added_on, spelled_on}
use Rattle.tn_cores.specs.client.{Reaching.{end_after_keys, says_keys, shows_keys, TypesAll}, Run.types}
use Rattle.tn_nvt.proofs.lemmas.Reading.{spells-append}
use Rattle.tn_nvt.specs.{Spelling.spells, declared.items.Item.Item}

types-append : (h : History) (front back : List ℕ) → types h (front ++ back) ≡ types (types h front) back
types-append = folding.after_both (λ h key. next h (typed key))

-- no item comes by a key
pub items-types : (h : History) (keys : List ℕ) → items (types h keys) ≡ items h
items-types = folding.kept_all (λ h key. next h (typed key)) items (λ h key. refl)

said-types : (h : History) (keys : List ℕ) → (rest : List Item) × (items_said (types h keys) ≡ items_said h ++ rest)
said-types h [] = ([], sym (append-nil (items_said h)))
said-types h (k ∷ ks) =
    let r = said-types (next h (typed k)) ks in
    (replies h (typed k) ++ r.0, r.1 ∙ append_assoc (items_said h) (replies h (typed k)) r.0)

shown-types : (h : History) (keys : List ℕ) → (rest : List ℕ) × (text_shown (types h keys) ≡ text_shown h ++ rest)
shown-types h [] = ([], sym (append-nil (text_shown h)))
shown-types h (k ∷ ks) =
    let r = shown-types (next h (typed k)) ks in
    (shows h (typed k) ++ r.0, r.1 ∙ append_assoc (text_shown h) (shows h (typed k)) r.0)

-- the items and bytes that the rest of the keys would have made the end send and show
pub said_front : (h : History) (keys front back : List ℕ) (said : List Item) → keys ≡ front ++ back → items_said (types h front) ≡ items_said h ++ said
    → (rest : List ℕ) × (spells (items_said (types h keys)) ≡ spells (items_said h) ++ (spells said ++ rest))
said_front h keys front back said e f =
    let r = said-types (types h front) back in (
      spells r.0,
      ap (λ (ks : List ℕ). spells (items_said (types h ks))) e ∙ ap (λ (k : History). spells (items_said k)) (types-append h front back)
          ∙ ap spells (r.1 ∙ ap (λ (xs : List Item). xs ++ r.0) f)
          ∙ spells-append (items_said h ++ said) r.0 ∙ ap (λ (bs : List ℕ). bs ++ spells r.0) (spells-append (items_said h) said)
          ∙ append_assoc (spells (items_said h)) (spells said) (spells r.0),
    )

pub shown_front : (h : History) (keys front back text : List ℕ) → keys ≡ front ++ back → text_shown (types h front) ≡ text_shown h ++ text → (rest : List ℕ)
    × (text_shown (types h keys) ≡ text_shown h ++ (text ++ rest))
shown_front h keys front back text e f =
    let r = shown-types (types h front) back in (
      r.0,
      ap (λ (ks : List ℕ). text_shown (types h ks)) e ∙ ap text_shown (types-append h front back) ∙ r.1 ∙ ap (λ (bs : List ℕ). bs ++ r.0) f
          ∙ append_assoc (text_shown h) text r.0,
    )

-- KEYS, one after another
pub stands_keys : (h : History) (old : End) (keys : List ℕ) → LeadsTo h old → LeadsTo (types h keys) (end_after_keys old keys)
stands_keys = folding.stands_after (λ h key. next h (typed key)) end_after_key LeadsTo (λ h old key s. stands h old (typed key) s)

pub said_keys : (h : History) (old : End) (keys : List ℕ) → LeadsTo h old → items_said (types h keys) ≡ items_said h ++ says_keys old keys
said_keys = folding.said_after (λ h key. next h (typed key)) end_after_key LeadsTo (λ h old key s. stands h old (typed key) s) says_key items_said
    (λ h old key s. ap (λ (xs : List Item). items_said h ++ xs) (says_as h old (typed key) s))

pub shown_keys : (h : History) (old : End) (keys : List ℕ) → LeadsTo h old → text_shown (types h keys) ≡ text_shown h ++ shows_keys old keys
shown_keys = folding.said_after (λ h key. next h (typed key)) end_after_key LeadsTo (λ h old key s. stands h old (typed key) s) shows_key text_shown
    (λ h old key s. ap (λ (bs : List ℕ). text_shown h ++ bs) (displays_as h old (typed key) s))

pub decoder_keys : (old : End) (keys : List ℕ) → (end_after_keys old keys).decoder ≡ old.decoder
decoder_keys = folding.kept_all end_after_key (λ (e : End). e.decoder) (λ e key. refl)

pub failed_keys : (old : End) (keys : List ℕ) → (end_after_keys old keys).failed ≡ old.failed
failed_keys = folding.kept_all end_after_key (λ (e : End). e.failed) (λ e key. refl)

-- one key more
says_push : (a : End) (keys : List ℕ) (key : ℕ) → says_keys a (keys ++ key ∷ []) ≡ says_keys a keys ++ says_key (end_after_keys a keys) key
says_push a keys key =
    folding.said_both end_after_key says_key a keys (key ∷ [])
    ∙ ap (λ (xs : List Item). says_keys a keys ++ xs) (append-nil (says_key (end_after_keys a keys) key))

shows_push : (a : End) (keys : List ℕ) (key : ℕ) → shows_keys a (keys ++ key ∷ []) ≡ shows_keys a keys ++ shows_key (end_after_keys a keys) key
shows_push a keys key =
    folding.said_both end_after_key shows_key a keys (key ∷ [])
    ∙ ap (λ (bs : List ℕ). shows_keys a keys ++ bs) (append-nil (shows_key (end_after_keys a keys) key))

pub types_none : (end : End) (x u : List ℕ) → TypesAll end [] x x u u end
types_none end x u = record { step = refl; said = sym (append-nil x); shown = sym (append-nil u) }

pub types_more : (a b d : End) (keys : List ℕ) (key : ℕ) (x y z u v w : List ℕ) → TypesAll a keys x y u v b → d ≡ end_after_key b key
    → z ≡ y ++ spells (says_key b key) → w ≡ v ++ shows_key b key → TypesAll a (keys ++ key ∷ []) x z u w d
types_more a b d keys key x y z u v w t step said shown = record {
  step = step ∙ ap (λ (e : End). end_after_key e key) t.step ∙ sym (folding.after_both end_after_key a keys (key ∷ []));
  said =
      spelled_on (says_keys a keys) (says_key (end_after_keys a keys) key) x y z t.said (said ∙ ap (λ (e : End). y ++ spells (says_key e key)) t.step)
      ∙ ap (λ (xs : List Item). x ++ spells xs) (sym (says_push a keys key));
  shown =
      added_on (shows_keys a keys) (shows_key (end_after_keys a keys) key) u _ _ t.shown (shown ∙ ap (λ (e : End). v ++ shows_key e key) t.step)
      ∙ ap (λ (bs : List ℕ). u ++ bs) (sym (shows_push a keys key));
}

-- a key that was refused was not typed
pub types_kept : (a b d : End) (keys x y z u v w : List ℕ) → Untouched b y z v w d → TypesAll a keys x y u v b → TypesAll a keys x z u w d
types_kept a b d keys x y z u v w same t = record { step = same.end ∙ t.step; said = same.out ∙ t.said; shown = same.screen ∙ t.shown }
