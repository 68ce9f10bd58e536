-- Which keys the bytes of a text are that are taken one by one.
use Rattle.std.proofs.{Common.{◌≡◌, ◌<◌, ◌+◌, ◌==◌, ℕ, Bool, List, [], ◌∷◌, ◌++◌, length, drop, refl, sym, ap, ◌∙◌, append_assoc}, Math.ListN.get_or}
use Rattle.std.proofs.lemmas.List.{drop_more}
use Rattle.tn_connect.specs.Texts.{key_of_text, keys_of_text}

-- one byte more
pub one_more : (given : List ℕ) (place d : ℕ) → place < length given → (after : Bool) (done more rest all : List ℕ)
    → done ++ keys_of_text after (drop place given ++ rest) ≡ all → more ≡ done ++ key_of_text after (get_or given place d)
    → more ++ keys_of_text (get_or given place d == 13) (drop (place + 1) given ++ rest) ≡ all
unfolding keys_of_text
one_more given place d few after done more rest all before wrote =
    let byte = get_or given place d in
    let later = keys_of_text (byte == 13) (drop (place + 1) given ++ rest) in
    ap (λ (l : List ℕ). l ++ later) wrote ∙ append_assoc done (key_of_text after byte) later
    ∙ ap (λ (l : List ℕ). done ++ keys_of_text after (l ++ rest)) (sym (drop_more given place d few))
    ∙ before

pub no_text : (after : Bool) → keys_of_text after [] ≡ []
unfolding keys_of_text
no_text after = refl
