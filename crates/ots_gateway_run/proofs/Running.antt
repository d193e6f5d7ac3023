-- A whole run.
use Rattle.std.proofs.Common.{◌≡◌, ◌≤◌, ◌<◌, ◌⊎◌, ◌∙◌, ℕ, zero, suc, ◌^◌, List, [], ◌++◌, take, Option, refl, sym, subst, arith, inl, inr, append-nil, length-append}
use Rattle.ots_address.specs.Address.{AddressParts}
use Rattle.ots_address.specs.AddressList.{IfBadAddress}
use Rattle.ots_address.specs.declared.list.AddressError.{AddressError}
use Rattle.ots_address.specs.declared.list.AddressError.TheVariants as address
use Rattle.ots_base.specs.Cause.{Rose}
use Rattle.ots_outputs.specs.Printed.{PrintsLastOr}
use Rattle.ots_outside.specs.Streams.{Takes, TakesPrefix, Takes-nothing, Takes-trans}
use Rattle.ots_gateway_words.specs.Lines.{listening_line}
use Rattle.ots_gateway_words.specs.Refusal.{refusal_text}
use Rattle.ots_gateway_words.specs.Words.{Gathering}
use Rattle.ots_gateway_words.specs.declared.status.GateStatus.{GateStatus}
use Rattle.ots_gateway_words.specs.declared.status.GateStatus.TheVariants.{AcceptFault, BadAddress, OutOfMemory, WriteFault}
use Rattle.ots_gateway_run.specs.Accepted.{Comes, GivesAllBack, StaysWithin}
use Rattle.ots_gateway_run.specs.Rounds.{LinesPrinted, Moment, Outside, Passes, RoundsEnd, Serves, accept_failed, no_memory, not_printed, over}
use Rattle.ots_gateway_run.specs.Run.{OverAsked, OverCalendars, address_status, bad_address, calendars, ended, no_address_memory, no_room, serves, unheard, unprinted, until_from}
use Rattle.ots_gateway_run.proofs.Accepts.{comes_none}
use Rattle.ots_gateway_run.proofs.GivesBack.{gives_none}
use Rattle.ots_gateway_run.proofs.Gone.{cut_then}

-- ---- printing

take_none : (k : ℕ) → take {A = ℕ} k [] ≡ []
take_none zero = refl
take_none (suc k) = refl

prefix_then_nothing : (a b c : Option (List ℕ)) (lines : List ℕ) → TakesPrefix a b lines → Takes b c [] → TakesPrefix a c (lines ++ [])
prefix_then_nothing a b c lines (n, few, first) second = (
  n,
  omega (arith, few, length-append lines []),
  subst (λ (z : List ℕ). Takes a c (take n z)) (sym (append-nil lines)) (subst (Takes a c) (append-nil (take n lines)) (Takes-trans a b c (take n lines) [] first second)),
)

-- lines, and then the line of the refusal
module _ (p q all : Type 0) (rise : p → all) (rise_last : q → all) (before mid now : Option (List ℕ)) where
  pub printed_whole : (e : RoundsEnd) (s r : GateStatus) → e.status ≡ s → LinesPrinted p e before mid → PrintsLastOr WriteFault q s (refusal_text s) mid now r
      → PrintsLastOr WriteFault all e.status (e.lines ++ refusal_text e.status) before now r
  printed_whole e s r is (inl lines) last = by (subst (λ (z : GateStatus). PrintsLastOr WriteFault q z (refusal_text z) mid now r) (sym is) last)
    where
      by : PrintsLastOr WriteFault q e.status (refusal_text e.status) mid now r → PrintsLastOr WriteFault all e.status (e.lines ++ refusal_text e.status) before now r
      by (inl (took, so)) = inl (Takes-trans before mid now e.lines (refusal_text e.status) lines took, so)
      by (inr (failed, some, so)) = inr (rise_last failed, cut_then before mid now e.lines (refusal_text e.status) lines some, so)
  printed_whole e s r is (inr (failed, some, fault)) last =
      subst (λ (z : GateStatus). PrintsLastOr WriteFault all z (e.lines ++ refusal_text z) before now r) (sym fault)
      (by (subst (λ (z : GateStatus). PrintsLastOr WriteFault q z (refusal_text z) mid now r) (sym is ∙ fault) last))
    where
      by : PrintsLastOr WriteFault q WriteFault [] mid now r → PrintsLastOr WriteFault all WriteFault (e.lines ++ []) before now r
      by (inl (took, one)) = inr (rise failed, prefix_then_nothing before mid now e.lines some took, one)
      by (inr (also, (n, few, took), one)) = inr (rise failed, prefix_then_nothing before mid now e.lines some (subst (Takes mid now) (take_none n) took), one)

-- a line, and then lines
lines_after : (p q : Type 0) (rise : p → q) (before mid now : Option (List ℕ)) (line : List ℕ) (e : RoundsEnd) → Takes before mid line → LinesPrinted p e mid now
    → LinesPrinted q (ended e.status (line ++ e.lines)) before now
lines_after p q rise before mid now line e took (inl lines) = inl (Takes-trans before mid now line e.lines took lines)
lines_after p q rise before mid now line e took (inr (failed, some, is)) = inr (rise failed, cut_then before mid now line e.lines took some, is)

module _ {A L D : Type 0} (o : Outside A L D) where
  -- ---- a later fault of the sink

  serves_as : (addresses : List AddressParts) (least most : ℕ) (until : Option ℕ) (p q : Type 0) (rise : p → q) (old new : Moment A D) (e : RoundsEnd)
      → Serves o addresses least most until p old new e → Serves o addresses least most until q old new e
  serves_as addresses least most until p q rise old new e (over rounds full made passes ends is) = over rounds full made passes ends is
  serves_as addresses least most until p q rise old new e (accept_failed rounds full made passes rose is) = accept_failed rounds full made passes rose is
  serves_as addresses least most until p q rise old new e (not_printed rounds full made passes failed is) = not_printed rounds full made passes (rise failed) is
  serves_as addresses least most until p q rise old new e (no_memory rounds links left d n full made passes each is) = no_memory rounds links left d n full made passes each is

  calendars_as : (asked : Gathering) (addresses : List AddressParts) (p q : Type 0) (rise : p → q) (old new : Moment A D) (e : RoundsEnd)
      → OverCalendars o asked addresses p old new e → OverCalendars o asked addresses q old new e
  calendars_as asked addresses p q rise old new e (no_room same is) = no_room same is
  calendars_as asked addresses p q rise old new e (unheard passes rose dialer nonces is) = unheard passes rose dialer nonces is
  calendars_as asked addresses p q rise old new e (unprinted passes dialer nonces failed is) = unprinted passes dialer nonces (rise failed) is
  calendars_as asked addresses p q rise old new e (serves listening f passes made within is) =
      serves listening f passes (serves_as addresses asked.min asked.round _ p q rise _ new f made) within is

  pub asked_as : (asked : Gathering) (p q : Type 0) (rise : p → q) (old new : Moment A D) (e : RoundsEnd) → OverAsked o asked p old new e → OverAsked o asked q old new e
  asked_as asked p q rise old new e (bad_address place https bad same is) = bad_address place https bad same is
  asked_as asked p q rise old new e (no_address_memory same is) = no_address_memory same is
  asked_as asked p q rise old new e (calendars addresses list made) = calendars addresses list (calendars_as asked addresses p q rise old new e made)

  -- ---- listening

  pub listened : (a b : A) → o.accepted a < 2 ^ 64 → o.coming b ≡ o.coming a → o.returned b ≡ o.returned a → o.accepted b ≡ o.accepted a → o.accept_faults a ≤ o.accept_faults b → Passes o [] [] a b
  listened a b bound coming returned accepted later = record {
    comes = subst (λ c. Comes [] (o.coming a) c) (sym coming) (comes_none (o.coming a));
    fresh = tt;
    count = omega (arith, bound, accepted);
    returned = subst (λ r. GivesAllBack (o.returned a) [] r) (sym returned) (gives_none (o.returned a));
    later = later;
  }

  -- How a run with these calendars ended, and what was printed.
  abbrev pub EndsFor : (asked : Gathering) (addresses : List AddressParts) (printing : Type 0) (old new : Moment A D) (before taken : Option (List ℕ)) → GateStatus → Type 0
  EndsFor asked addresses printing old new before taken s = (e : RoundsEnd) × (e.status ≡ s) × OverCalendars o asked addresses printing old new e × LinesPrinted printing e before taken

  module _ (asked : Gathering) (addresses : List AddressParts) (old : Moment A D) (before mid : Option (List ℕ)) where
    pub not_listened : (printing : Type 0) (a : A) (s : GateStatus) → Passes o [] [] old.accepter a
        → ((s ≡ WriteFault) × printing × TakesPrefix before mid (listening_line asked.port)) ⊎ ((s ≡ AcceptFault) × Rose (o.accept_faults old.accepter) (o.accept_faults a) × (mid ≡ before))
        → EndsFor asked addresses printing old (record { accepter = a; dialer = old.dialer; nonces = old.nonces }) before mid s
    not_listened printing a s passes (inl (is, failed, some)) = (ended WriteFault (listening_line asked.port), sym is, unprinted passes refl refl failed refl, inr (failed, some, refl))
    not_listened printing a s passes (inr (is, rose, same)) =
        (ended AcceptFault [], sym is, unheard passes rose refl refl refl, inl (subst (λ t. Takes before t []) (sym same) (Takes-nothing before)))

    pub rounds_served : (p q : Type 0) (rise : p → q) (a : A) (new : Moment A D) (now : Option (List ℕ)) (until : Option ℕ) (s : GateStatus) (f : RoundsEnd) → Passes o [] [] old.accepter a
        → Takes before mid (listening_line asked.port) → f.status ≡ s → until ≡ until_from (o.accepted old.accepter) asked.accept
        → Serves o addresses asked.min asked.round until p (record { accepter = a; dialer = old.dialer; nonces = old.nonces }) new f
        → StaysWithin until (o.accepted a) (o.accepted new.accepter) → o.accepted a ≡ o.accepted old.accepter → LinesPrinted p f mid now
        → EndsFor asked addresses q old new before now s
    rounds_served p q rise a new now until s f passes line is from made within same printed = (
      ended f.status (listening_line asked.port ++ f.lines),
      is,
      serves a f passes
          (serves_as addresses asked.min asked.round (until_from (o.accepted old.accepter) asked.accept) p q rise (record { accepter = a; dialer = old.dialer; nonces = old.nonces }) new f
          (subst (λ u. Serves o addresses asked.min asked.round u p (record { accepter = a; dialer = old.dialer; nonces = old.nonces }) new f) from made))
          (subst (λ u. StaysWithin u (o.accepted old.accepter) (o.accepted new.accepter)) from (subst (λ (n : ℕ). StaysWithin until n (o.accepted new.accepter)) same within)) refl,
      lines_after p q rise before mid now (listening_line asked.port) f line printed,
    )

  -- ---- addresses

  pub bad_list : (asked : Gathering) (printing : Type 0) (old : Moment A D) (taken : Option (List ℕ)) (e : AddressError) (s : GateStatus) → IfBadAddress asked.calendars e → s ≡ address_status e
      → (r : RoundsEnd) × (r.status ≡ s) × OverAsked o asked printing old old r × LinesPrinted printing r taken taken
  bad_list asked printing old taken (address.BadAddress place https) s bad is = (ended (BadAddress place https) [], sym is, bad_address place https bad refl refl, inl (Takes-nothing taken))
  bad_list asked printing old taken address.OutOfMemory s bad is = (ended OutOfMemory [], sym is, no_address_memory refl refl, inl (Takes-nothing taken))
