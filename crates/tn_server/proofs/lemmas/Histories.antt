-- Facts that hold of every history.
use Rattle.std.proofs.Common.{◌≡◌, List, [], ◌∷◌, ◌++◌, refl, sym, ◌∙◌, append-nil, append_assoc}
use Rattle.tn_linemode.proofs.lemmas.Folding as folding
use Rattle.tn_nvt.specs.declared.items.Item.{Item}
use Rattle.tn_server.specs.Events.{History, next, got, items, gets, limit, opening_settings}

pub items-gets : (h : History) (more : List Item) → items (gets h more) ≡ items h ++ more
items-gets h [] = sym (append-nil (items h))
items-gets h (x ∷ xs) = items-gets (next h (got x)) xs ∙ append_assoc (items h) (x ∷ []) xs

pub opening-gets : (h : History) (more : List Item) → opening_settings (gets h more) ≡ opening_settings h
opening-gets = folding.kept_all (λ h item. next h (got item)) opening_settings (λ h item. refl)

pub limit-gets : (h : History) (more : List Item) → limit (gets h more) ≡ limit h
limit-gets = folding.kept_all (λ h item. next h (got item)) limit (λ h item. refl)

pub gets-append : (h : History) (front back : List Item) → gets h (front ++ back) ≡ gets (gets h front) back
gets-append = folding.after_both (λ h item. next h (got item))

pub gets-push : (h : History) (front : List Item) (item : Item) → gets h (front ++ item ∷ []) ≡ next (gets h front) (got item)
gets-push h front item = gets-append h front (item ∷ [])
