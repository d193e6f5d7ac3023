-- Sheets of what was gathered.
use Rattle.std.proofs.Common.{◌≡◌, ℕ, List, [], map, refl, subst, inl, inr, arith}
use Rattle.std.specs.List.{AllByRecursion}
use Rattle.ots_archive_ask.specs.Sheet.{AreOnce, AreTooMany, TellsSheet, WritesSheet, asked_text}
use Rattle.ots_archive_ask.specs.Total.{Total}
use Rattle.ots_archive_ask.specs.declared.gathering.Gathered.{Gathered}
use Rattle.ots_archive_ask.specs.inner.Held.{Holds, TellsGathered}
use Rattle.ots_archive_steps.specs.Ends.{Ends, IfRoom}
use Rattle.ots_archive_steps.specs.Making.{MakesNew}
use Rattle.ots_archive_steps.specs.Printing.{Refuses}
use Rattle.ots_archive_text.specs.declared.status.ArchiveStatus.{ArchiveStatus}
use Rattle.ots_archive_text.specs.declared.status.ArchiveStatus.TheVariants.{TooManyRequests}
use Rattle.ots_archive_world.specs.Steps.{Step, Then}
use Rattle.ots_archive_world.specs.Told.{Told}
use Rattle.ots_calendar_url.specs.CalendarUrl.{Url, text_of}
use Rattle.ots_request_set.specs.RequestSet.{Has}
use Rattle.ots_sheet.specs.Request.{IsRequest, RequestParts}
use Rattle.ots_sheet.specs.Sheet.{AreInOrder, IsRequests, request_sheet}
use Rattle.ots_wanted.specs.Wanted.{IsWithin}

none_in_order : AreInOrder []
none_in_order r i j less within = absurd (omega (arith, within))

module _ (urls : List Url) (t : Total) (g : Gathered) (holds : Holds urls t g) where
  order : AreInOrder g.set.requests
  order = holds.takes.order none_in_order

  -- what was gathered is wanted
  wanted : (r : RequestParts) → Has g.set.requests r → Has t.wanted r
  wanted r has = elim (holds.takes.gains.only r has) [
    | inl none ↦ absurd none
    | inr new ↦ new
  ]

  too_many : (IsWithin g.set → ⊥) → AreTooMany t.wanted
  too_many past = record { some = g.set.requests; order = order; members = wanted; past = past }

  once : IsWithin g.set → AreOnce t.wanted g.set.requests
  once within = record { order = order; members = λ r. (wanted r, holds.takes.all within r) }

  module _ (name : List ℕ) (old new : Told) (s : ArchiveStatus) where
    -- It is too much.
    pub ends_many : (IsWithin g.set → ⊥) → Refuses [] TooManyRequests old new s → Ends (IfRoom (WritesSheet name (map text_of urls) t)) old new s
    ends_many past refused = inr (IfRoom.done (WritesSheet.many s (too_many past) refused refl))

    abbrev tells : Step ArchiveStatus ArchiveStatus
    tells = Then (MakesNew name (request_sheet g.set.requests)) (TellsSheet name (asked_text (map text_of urls) g.set.requests t.skipped) t.status)

    told : (requests : List RequestParts) → requests ≡ g.set.requests → Ends (Then (MakesNew name (request_sheet requests)) (TellsGathered name g)) old new s
        → Ends tells old new s
    told requests same ends =
        let at : List RequestParts → List Url → ℕ → ArchiveStatus → Type 0 = λ rs us n st.
        Ends (Then (MakesNew name (request_sheet rs)) (TellsSheet name (asked_text (map text_of us) g.set.requests n) st)) old new s in
        subst (λ (rs : List RequestParts). at rs urls t.skipped t.status) same
        (subst (λ (us : List Url). at requests us t.skipped t.status) holds.takes.gains.urls
        (subst (λ (n : ℕ). at requests g.set.urls n t.status) holds.skipped (subst (λ (st : ArchiveStatus). at requests g.set.urls g.skipped st) holds.status ends)))

    -- It is made.
    pub ends_sheet : (requests : List RequestParts) → requests ≡ g.set.requests → IsWithin g.set → AllByRecursion IsRequest g.set.requests
        → Ends (Then (MakesNew name (request_sheet requests)) (TellsGathered name g)) old new s → Ends (IfRoom (WritesSheet name (map text_of urls) t)) old new s
    ends_sheet requests same within valid ends =
        let is : IsRequests g.set.requests = record { each = valid; order = order; fits = within } in
        elim (told requests same ends) [
          | inl gives ↦ inl (IfRoom.done (WritesSheet.fits g.set.requests (once within) is gives))
          | inr ended ↦ inr (IfRoom.done (WritesSheet.fits g.set.requests (once within) is ended))
        ]
