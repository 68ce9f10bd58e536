use Rattle.std.proofs.{Common.{◌≡◌, ◌≤◌, ℕ, List, [], ◌∷◌, None, length, map, refl, sym, arith, Bor}, lemmas.List.length-map}
use Rattle.tn_cli.specs.Scripts.{command_of_words}
use Rattle.tn_cli.proofs.scripts.command_of_words.Goals as goal

-- four words or more are no command
many_words : (words : List (List ℕ)) → 4 ≤ length words → command_of_words words ≡ None
many_words [] h = refl
many_words (a ∷ []) h = absurd (omega arith)
many_words (a ∷ b ∷ []) h = absurd (omega arith)
many_words (a ∷ b ∷ c ∷ []) h = absurd (omega arith)
many_words (a ∷ b ∷ c ∷ d ∷ words) h = refl

pub returns-in-len4-up : goal.returns-in-len4-up
returns-in-len4-up c =
    let kept : length (map (λ (word : Bor (List ℕ)). word.now) c.args.words.now) ≡ length c.args.words.now = length-map _ _ in
    sym (many_words (map (λ (word : Bor (List ℕ)). word.now) c.args.words.now) (omega (arith, kept, c.in-len4-up.len_at_least)))
