-- A file is read, a journal is opened, and an address is read, in one way, where what they hold is told.
use Rattle.std.proofs.Common.{◌≡◌, ℕ, List, [], Option, Some, None, sym, ap, subst, ◌∙◌}
use Rattle.std.specs.FinMap as map
use Rattle.ots_outside.specs.Shelf.{Names}
use Rattle.ots_journal.specs.declared.entry.Entry.{Entry}
use Rattle.ots_opening.specs.declared.errors.OpenError.{OpenError}
use Rattle.ots_opening.specs.Opening.{HasRecords, RefusesStore}
use Rattle.ots_opening.proofs.Unique.{one_gate, one_records, one_store_refusal, store_or_not}
use Rattle.ots_calendar_text.specs.declared.status.DaemonStatus.{DaemonStatus}
use Rattle.ots_calendar_inputs.proofs.OneInput as input
use Rattle.ots_calendar_endings.specs.Found.{HasBook, RefusesBook, open_status}
use Rattle.ots_calendar_endings.specs.RunEnd.{RunEnd, refused}
use Rattle.ots_calendar_endings.specs.With.{WithInput, is_given, no_file, refuses, WithJournal, is_opened, is_refused, WithUri, is_uri, no_uri, WithBook, WithStore}
use Rattle.ots_calendar_endings.proofs.OneBook.{one_book, one_book_refusal, book_or_not}

-- the bytes under a name are the only ones
one_under : (names : Names) (name b c : List ℕ) → map.get names name ≡ Some b → map.get names name ≡ Some c → b ≡ c
one_under names name b c e f = let both : Some b ≡ Some c = sym e ∙ f in cc

none_under : (names : Names) (name b : List ℕ) → map.get names name ≡ None → map.get names name ≡ Some b → ⊥
none_under names name b e f = let clash : None ≡ Some b = sym e ∙ f in cc

-- An input is read in one way, where bytes give one thing or are refused with one status, and never both.
module _ {A : Type 0} (names : Names) (name : List ℕ) (Gives : List ℕ → A → Type 0) (Refuses : List ℕ → DaemonStatus → Type 0)
    (one_given : (b : List ℕ) (x y : A) → Gives b x → Gives b y → x ≡ y) (one_refused : (b : List ℕ) (s t : DaemonStatus) → Refuses b s → Refuses b t → s ≡ t)
    (not_both : (b : List ℕ) (x : A) (s : DaemonStatus) → Gives b x → Refuses b s → ⊥) where
  one_told : (P : A → RunEnd → Type 0) (d e : RunEnd) → ((x : A) → P x d → P x e → d ≡ e)
      → WithInput (Some names) name Gives Refuses P d → WithInput (Some names) name Gives Refuses P e → d ≡ e
  one_told P d e one (is_given x (b, at, is) h) (is_given y (c, too, as_well) k) =
      let same : x ≡ y = one_given b x y is (subst (λ (z : List ℕ). Gives z y) (one_under names name c b too at) as_well) in
      one y (subst (λ (z : A). P z d) same h) k
  one_told P d e one (is_given x (b, at, is) h) (no_file none g) = absurd (none_under names name b none at)
  one_told P d e one (is_given x (b, at, is) h) (refuses t (c, too, bad) g) =
      absurd (not_both b x t is (subst (λ (z : List ℕ). Refuses z t) (one_under names name c b too at) bad))
  one_told P d e one (no_file none f) (is_given y (c, too, as_well) k) = absurd (none_under names name c none too)
  one_told P d e one (no_file none f) (no_file none' g) = f ∙ sym g
  one_told P d e one (no_file none f) (refuses t (c, too, bad) g) = absurd (none_under names name c none too)
  one_told P d e one (refuses s (b, at, bad) f) (is_given y (c, too, as_well) k) =
      absurd (not_both c y s as_well (subst (λ (z : List ℕ). Refuses z s) (one_under names name b c at too) bad))
  one_told P d e one (refuses s (b, at, bad) f) (no_file none g) = absurd (none_under names name b none at)
  one_told P d e one (refuses s (b, at, bad) f) (refuses t (c, too, other) g) =
      f ∙ ap (refused name) (one_refused b s t bad (subst (λ (z : List ℕ). Refuses z t) (one_under names name c b too at) other)) ∙ sym g

-- A journal is opened in one way, where its bytes have one list of entries and one gate, or are refused with one error.
module _ (bytes : List ℕ) (Has : Option (List ℕ) → List Entry → Type 0) (Refuses : Option (List ℕ) → OpenError → Type 0)
    (one_list : (es fs : List Entry) → Has (Some bytes) es → Has (Some bytes) fs → es ≡ fs) (one_refused : (v w : OpenError) → Refuses (Some bytes) v → Refuses (Some bytes) w → v ≡ w)
    (not_both : (es : List Entry) (w : OpenError) → Has (Some bytes) es → Refuses (Some bytes) w → ⊥) where
  one_journal : (P : ℕ → List Entry → RunEnd → Type 0) (d e : RunEnd) → ((gate : ℕ) (entries : List Entry) → Has (Some bytes) entries → P gate entries d → P gate entries e → d ≡ e)
      → WithJournal Has Refuses (Some bytes) P d → WithJournal Has Refuses (Some bytes) P e → d ≡ e
  one_journal P d e one (is_opened g es has at h) (is_opened g' fs has' at' k) =
      let gates : g ≡ g' = one_gate bytes g g' at at' in
      let lists : es ≡ fs = one_list es fs has has' in
      one g' fs has' (subst (λ (z : List Entry). P g' z d) lists (subst (λ (z : ℕ). P z es d) gates h)) k
  one_journal P d e one (is_opened g es has at h) (is_refused w bad k) = absurd (not_both es w has bad)
  one_journal P d e one (is_refused v bad f) (is_opened g' fs has' at' k) = absurd (not_both fs v has' bad)
  one_journal P d e one (is_refused v bad f) (is_refused w other k) = f ∙ ap (λ (z : OpenError). refused [] (open_status z)) (one_refused v w bad other) ∙ sym k

pub one_input : {A : Type 0} (told : Option Names) (names : Names) → told ≡ Some names → (name : List ℕ) (Gives : List ℕ → A → Type 0) (Refuses : List ℕ → DaemonStatus → Type 0)
    → ((b : List ℕ) (x y : A) → Gives b x → Gives b y → x ≡ y) → ((b : List ℕ) (s t : DaemonStatus) → Refuses b s → Refuses b t → s ≡ t)
    → ((b : List ℕ) (x : A) (s : DaemonStatus) → Gives b x → Refuses b s → ⊥) → (P : A → RunEnd → Type 0) (d e : RunEnd) → ((x : A) → P x d → P x e → d ≡ e)
    → WithInput told name Gives Refuses P d → WithInput told name Gives Refuses P e → d ≡ e
one_input told names is name Gives Refuses once refused_once never P d e one f g =
    one_told names name Gives Refuses once refused_once never P d e one (subst (λ (z : Option Names). WithInput z name Gives Refuses P d) is f) (subst (λ (z : Option Names). WithInput z name Gives Refuses P e) is g)

module _ (told : Option (List ℕ)) (bytes : List ℕ) (is : told ≡ Some bytes) where
  pub with_book : (P : ℕ → List Entry → RunEnd → Type 0) (d e : RunEnd) → ((gate : ℕ) (entries : List Entry) → HasBook (Some bytes) entries → P gate entries d → P gate entries e → d ≡ e)
      → WithBook told P d → WithBook told P e → d ≡ e
  with_book P d e one f g =
      one_journal bytes HasBook RefusesBook (one_book bytes) (one_book_refusal bytes) (book_or_not bytes) P d e one (subst (λ (z : Option (List ℕ)). WithBook z P d) is f) (subst (λ (z : Option (List ℕ)). WithBook z P e) is g)

  pub with_store : (P : ℕ → List Entry → RunEnd → Type 0) (d e : RunEnd) → ((gate : ℕ) (entries : List Entry) → HasRecords (Some bytes) entries → P gate entries d → P gate entries e → d ≡ e)
      → WithStore told P d → WithStore told P e → d ≡ e
  with_store P d e one f g =
      one_journal bytes HasRecords RefusesStore (one_records bytes) (one_store_refusal bytes) (store_or_not bytes) P d e one (subst (λ (z : Option (List ℕ)). WithStore z P d) is f) (subst (λ (z : Option (List ℕ)). WithStore z P e) is g)

-- The word is one address or none.
pub with_uri : (word : List ℕ) (P : List ℕ → RunEnd → Type 0) (d e : RunEnd) → ((uri : List ℕ) → P uri d → P uri e → d ≡ e) → WithUri word P d → WithUri word P e → d ≡ e
with_uri word P d e one (is_uri u is h) (is_uri v too k) = one v (subst (λ (z : List ℕ). P z d) (input.address_given_once word u v is too) h) k
with_uri word P d e one (is_uri u is h) (no_uri t refusal k) = absurd (input.address_never_both word u t is refusal)
with_uri word P d e one (no_uri s refusal f) (is_uri v too k) = absurd (input.address_never_both word v s too refusal)
with_uri word P d e one (no_uri s refusal f) (no_uri t other k) = f ∙ ap (refused []) (input.address_refused_once word s t refusal other) ∙ sym k
