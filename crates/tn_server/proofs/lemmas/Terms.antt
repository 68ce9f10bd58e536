-- The parts of an end that stay if nothing new is agreed on.
use Rattle.std.proofs.Common.{◌≡◌, ℕ, ◌==◌, Bool, true, false, Option, None, [], refl, rules}
use Rattle.tn_discipline.specs.{Characters.Characters, declared.termios.Flags.Flags}
use Rattle.tn_linemode.specs.{Modes.mode_of, Words.differ}
use Rattle.tn_option.specs.Options.{Options, options_after_wish, state_of}
use Rattle.tn_server.specs.{Terms.{Terms, linemode, asked_mask_while, mode_sent, terms_by, wish_after, options_with_echo}, Replies.{items_by, new_table_items}}
use Rattle.tn_server.specs.declared.wishes.Editing.{Editing}

-- if nothing is new, nothing is sent and all stays
pub differ_self : (b : Bool) → differ b b ≡ false
differ_self true = refl
differ_self false = refl

same_number : (n : ℕ) → (n == n) ≡ true
same_number n = search rules

pub told_again : (on : Bool) (wish : ℕ) → mode_sent on (asked_mask_while on wish) wish ≡ None
told_again true wish = rw (same_number (mode_of wish)) refl
told_again false wish = refl

pub table_again : (on : Bool) (c : Characters) → new_table_items on on c ≡ []
table_again true c = refl
table_again false c = refl

pub terms_stay : (f : Flags) (t : Terms) (editing : Option Editing) → wish_after f t.wish editing ≡ t.wish → terms_by f t t.options editing false ≡ t
terms_stay f t editing e =
    rw (e, told_again (linemode t.options) t.wish, differ_self (linemode t.options)) refl

pub says_nothing : (f : Flags) (c : Characters) (t : Terms) (editing : Option Editing) → wish_after f t.wish editing ≡ t.wish
    → items_by f c t t.options editing false ≡ []
says_nothing f c t editing e =
    rw (e, told_again (linemode t.options) t.wish, differ_self (linemode t.options), table_again (linemode t.options) c) refl

-- the server's message for ECHO changes nothing at LINEMODE
pub echo_keeps_linemode : (due wanted : Bool) (o : Options) → linemode (options_with_echo due wanted o) ≡ linemode o
unfolding options_after_wish state_of
echo_keeps_linemode true wanted o = refl
echo_keeps_linemode false wanted o = refl
