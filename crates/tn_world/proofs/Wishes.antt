-- The request in force at a server is always one that its flags allow, and what else stays.
use Rattle.std.proofs.Common.{◌≡◌, inl, inr, ℕ, Bool, true, false, if◌then◌else◌, Option, Some, None, refl, sym, ap, ◌∙◌, subst}
use Rattle.tn_discipline.specs.{Canon.Canon, declared.termios.{Flags.Flags, Settings.Settings}}
use Rattle.tn_option.specs.{Options.{agrees_to, state_of}, declared.q_method.Side.TheVariants.Them}
use Rattle.tn_server.specs.{Calls.{End, LeadsTo}, Events.{History, begun, next, got, wished}, Terms.{mask_for, wish_after, allows_local}}
use Rattle.tn_server.specs.declared.wishes.Editing.{Editing, TheVariants.{Remote, Local}}
use Rattle.tn_server.specs.Terms as terms
use Rattle.tn_linemode.specs.Modes.{mode_of, is_acknowledged}
use Rattle.tn_world.specs.relation.{Calm.{bits, IsAskable}, Pictures.{NeverEnds, IsAllowed, IsFlagged, ServerStays}}
use Rattle.tn_world.proofs.Engines.{server_agrees}

pub allowed_wish : (f : Flags) (editing : Editing) (mask : ℕ) → mask_for f editing ≡ Some mask → IsAllowed f mask
allowed_wish f Remote mask e = inl (cc)
allowed_wish f Local mask e = inr e

-- a mask that a server with these settings asks for
abbrev pub IsAskedMask : Settings → ℕ → Type 0
IsAskedMask s mask = (is_acknowledged (mode_of mask) ≡ false) × IsAskable s (bits (mode_of mask))

local_mask : (s : Settings) (allowed isig : Bool) (mask : ℕ) → allows_local s.flags ≡ allowed → s.flags.isig ≡ isig
    → (if allowed then Some (if isig then 3 else 1) else None) ≡ Some mask → IsAskedMask s mask
local_mask s false isig mask a i e = absurd (cc)
local_mask s true true mask a i e =
    let same : 3 ≡ mask = cc in
    subst (IsAskedMask s) same (refl, inr (a, ap (λ (b : Bool). record { edit = true; trapsig = b }) (sym i)))
local_mask s true false mask a i e =
    let same : 1 ≡ mask = cc in
    subst (IsAskedMask s) same (refl, inr (a, ap (λ (b : Bool). record { edit = true; trapsig = b }) (sym i)))

mask_by : (s : Settings) (echo : Bool) (ed : Editing) (mask : ℕ) → mask_for (record (s.flags) { echo = echo }) ed ≡ Some mask → IsAskedMask s mask
mask_by s echo Remote mask e = let same : 0 ≡ mask = cc in subst (IsAskedMask s) same (refl, inl refl)
mask_by s echo Local mask e = local_mask s (allows_local s.flags) s.flags.isig mask refl refl e

pub mask_asked : (s : Settings) (f : Flags) (ed : Editing) (mask : ℕ) → f ≡ record (s.flags) { echo = f.echo } → mask_for f ed ≡ Some mask → IsAskedMask s mask
mask_asked s f ed mask same e = mask_by s f.echo ed mask (ap (λ (g : Flags). mask_for g ed) (sym same) ∙ e)

pub wish_asked : (s : Settings) (f : Flags) (wish : ℕ) → f ≡ record (s.flags) { echo = f.echo } → IsAllowed f wish → IsAskedMask s wish
wish_asked s f wish same (inl is) = subst (IsAskedMask s) (sym is) (refl, inl refl)
wish_asked s f wish same (inr is) = mask_asked s f Local wish same is

allowed_or : (f : Flags) (before : ℕ) (mask : Option ℕ) → mask_for f Local ≡ mask → IsAllowed f before → IsAllowed f (terms.mask_or before mask)
allowed_or f before None is h = h
allowed_or f before (Some mask) is h = inr is

allowed_after : (f : Flags) (before : ℕ) (editing : Option Editing) → IsAllowed f before → IsAllowed f (wish_after f before editing)
allowed_after f before None h = h
allowed_after f before (Some Remote) h = inl refl
allowed_after f before (Some Local) h = allowed_or f before (mask_for f Local) refl h

pub wish_allowed : (h : History) → IsAllowed (terms.flags h) (terms.terms h).wish
wish_allowed (begun o s) = inl refl
wish_allowed (next h (got item)) = allowed_after (terms.flags h) (terms.terms h).wish (terms.wish_at (terms.options h) (got item)) (wish_allowed h)
wish_allowed (next h (wished editing)) = allowed_after (terms.flags h) (terms.terms h).wish (Some editing) (wish_allowed h)
wish_allowed (next h _) = wish_allowed h

-- the parts that stay at a server to which a history leads
pub stays_at : (canon : Canon) (h : History) (end : End) → LeadsTo h end → NeverEnds (state_of end.terms.options Them 34)
    → end.terminal.settings.chars ≡ canon.settings.chars → IsFlagged canon end.terminal.settings → end.terminal.line.limit ≡ canon.limit → ServerStays canon end
stays_at canon h end s never own flags limit = record {
  agreed = ap (λ (t : terms.Terms). agrees_to t.options Them 34) s.terms ∙ server_agrees h;
  linemode = never;
  wish =
      subst (λ (x : Settings). IsAllowed x.flags end.terms.wish) (sym s.settings)
      (subst (λ (t : terms.Terms). IsAllowed (terms.flags h) t.wish) (sym s.terms) (wish_allowed h));
  chars = s.table ∙ sym (ap (λ (x : Settings). x.chars) s.settings) ∙ own;
  own = own;
  flags = flags;
  limit = limit;
  ahead = s.ahead;
}
