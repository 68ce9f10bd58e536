use Rattle.std.proofs.Common.{◌++◌, List, ℕ, sym, ap, ◌∙◌, add-one, append-nil, append_assoc}
use Rattle.tn_net.specs.printing.Texts.{character_words, character_word}
use Rattle.tn_net.proofs.printing.payloads.push_characters.Goals as goal

pub loop-character-init : goal.loop-character-init
unfolding character_words
loop-character-init c = sym (append-nil c.args.out.now.items)

pub loop-character-preserved : goal.loop-character-preserved
unfolding character_words
loop-character-preserved c =
    let m = c.args.mask in
    let n = c.loop-character.character in
    c.in_ok-push_character.ensures
    ∙ ap (λ (xs : List ℕ). xs ++ character_word m n) c.loop-character.invariant
    ∙ append_assoc c.args.out.now.items (character_words m n) (character_word m n)
    ∙ ap (λ k. c.args.out.now.items ++ character_words m k) (sym (add-one n))
