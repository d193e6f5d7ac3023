-- Places in bytes, and the entries at them.
use Rattle.std.proofs.Common.{◌≡◌, ℕ, zero, suc, ◌+◌, ◌≤◌, List, [], ◌∷◌, ◌++◌, length, take, drop, refl, sym, ◌∙◌, ap, arith, append_assoc, length-append}
use Rattle.std.proofs.lemmas.List.{append-nil, take-take, drop-take, take-append-le, map-append, drop_at, take_at, drop-drop}
use Rattle.std.specs.Int.{w32, to_be_bytes}
use Rattle.std.specs.List.{AllByRecursion}
use Rattle.ots_journal.specs.Image.{entry_bytes}
use Rattle.ots_journal.specs.Stored.{entry_at, entries_at, EndsBy, Adds}
use Rattle.ots_journal.specs.declared.entry.Entry.{Entry}
use Rattle.ots_journal.specs.declared.place.Place.{Place}
use Rattle.ots_journal.proofs.Groups.{length-entry}

-- ---- where places end

pub ends_later : (m n : ℕ) (places : List Place) → m ≤ n → AllByRecursion (EndsBy m) places → AllByRecursion (EndsBy n) places
ends_later m n [] le all = tt
ends_later m n (p ∷ places) le all = (omega (arith, all.0, le), ends_later m n places le all.1)

pub ends_both : (n : ℕ) (xs ys : List Place) → AllByRecursion (EndsBy n) xs → AllByRecursion (EndsBy n) ys → AllByRecursion (EndsBy n) (xs ++ ys)
ends_both n [] ys first second = second
ends_both n (p ∷ xs) ys first second = (first.0, ends_both n xs ys first.1 second)

pub ends_take : (n k : ℕ) (places : List Place) → AllByRecursion (EndsBy n) places → AllByRecursion (EndsBy n) (take k places)
ends_take n zero places all = tt
ends_take n (suc k) [] all = tt
ends_take n (suc k) (p ∷ places) all = (all.0, ends_take n k places all.1)

pub ends_one : (n : ℕ) (places : List Place) (p : Place) → AllByRecursion (EndsBy n) places → p.start + p.length ≤ n → AllByRecursion (EndsBy n) (places ++ p ∷ [])
ends_one n places p all ends = ends_both n places (p ∷ []) all (ends, tt)

-- ---- the entries at places do not change where the bytes up to their ends stay

same_at : (a b : List ℕ) (n : ℕ) (p : Place) → take n a ≡ take n b → p.start + p.length ≤ n → entry_at a p ≡ entry_at b p
same_at a b n p same ends =
    let s = p.start in
    let l = p.length in
    let payloads : take l (drop s a) ≡ take l (drop s b) =
    sym (drop-take s l a) ∙ ap (λ (x : List ℕ). drop s x) (sym (take-take (s + l) n a ends) ∙ ap (λ (x : List ℕ). take (s + l) x) same ∙ take-take (s + l) n b ends) ∙ drop-take s l b in
    ap (λ (x : List ℕ). let e : Entry = record { kind = p.kind; payload = x } in e) payloads

pub entries_same : (a b : List ℕ) (n : ℕ) (places : List Place) → take n a ≡ take n b → AllByRecursion (EndsBy n) places → entries_at a places ≡ entries_at b places
entries_same a b n [] same all = refl
entries_same a b n (p ∷ places) same all =
    ap (λ (e : Entry). e ∷ entries_at a places) (same_at a b n p same all.0) ∙ ap (λ (l : List Entry). entry_at b p ∷ l) (entries_same a b n places same all.1)

-- more bytes after
pub entries_more : (file more : List ℕ) (places : List Place) → AllByRecursion (EndsBy (length file)) places → entries_at (file ++ more) places ≡ entries_at file places
entries_more file more places all =
    entries_same (file ++ more) file (length file) places (take-append-le (length file) file more (omega arith)) all

-- fewer bytes
pub entries_cut : (n : ℕ) (file : List ℕ) (places : List Place) → AllByRecursion (EndsBy n) places → entries_at (take n file) places ≡ entries_at file places
entries_cut n file places all = entries_same (take n file) file n places (take-take n n file (omega arith)) all

-- ---- one entry more

-- The entry whose bytes begin here.
pub entry_here : (before after : List ℕ) (kind : ℕ) (payload : List ℕ)
    → entry_at (before ++ (entry_bytes (record { kind = kind; payload = payload }) ++ after)) (record { kind = kind; start = length before + 5; length = length payload }) ≡ record { kind = kind; payload = payload }
entry_here before after kind payload =
    let head : List ℕ = kind ∷ to_be_bytes w32 (length payload) in
    let whole : before ++ (entry_bytes (record { kind = kind; payload = payload }) ++ after) ≡ (before ++ head) ++ (payload ++ after) =
    ap (λ (l : List ℕ). before ++ l) (append_assoc head payload after) ∙ sym (append_assoc before head (payload ++ after)) in
    let there : drop (length before + 5) (before ++ (entry_bytes (record { kind = kind; payload = payload }) ++ after)) ≡ payload ++ after =
    ap (λ (l : List ℕ). drop (length before + 5) l) whole ∙ drop_at (before ++ head) (payload ++ after) (length before + 5) (omega (arith, length-append before head)) in
    ap (λ (l : List ℕ). let e : Entry = record { kind = kind; payload = l } in e)
    (ap (λ (l : List ℕ). take (length payload) l) there ∙ take_at payload after (length payload) refl)

pub nothing_added : (file : List ℕ) (old : List Place) → Adds file file old old []
nothing_added file old = record { places = []; added = sym (append-nil old); are = refl; within = tt }

pub adds_more : (first file new : List ℕ) (old mid places : List Place) (group : List Entry) (entry : Entry) → Adds first file old mid group
    → new ≡ file ++ entry_bytes entry → places ≡ mid ++ (record { kind = entry.kind; start = length file + 5; length = length entry.payload }) ∷ [] → Adds first new old places (group ++ entry ∷ [])
adds_more first file new old mid places group entry a is_new is_places =
    let p : Place = record { kind = entry.kind; start = length file + 5; length = length entry.payload } in
    let long : length new ≡ length file + (5 + length entry.payload) = ap length is_new ∙ omega (arith, length-append file (entry_bytes entry), length-entry entry) in
    record {
      places = a.places ++ p ∷ [];
      added = is_places ∙ ap (λ (l : List Place). l ++ p ∷ []) a.added ∙ append_assoc old a.places (p ∷ []);
      are =
          map-append (entry_at new) a.places (p ∷ [])
          ∙ ap (λ (l : List Entry). l ++ entries_at new (p ∷ [])) (ap (λ (f : List ℕ). entries_at f a.places) is_new ∙ entries_more file (entry_bytes entry) a.places a.within ∙ a.are)
          ∙ ap (λ (e : Entry). group ++ e ∷ []) (ap (λ (f : List ℕ). entry_at f p) (is_new ∙ ap (λ (l : List ℕ). file ++ l) (sym (append-nil (entry_bytes entry)))) ∙ entry_here file [] entry.kind entry.payload);
      within = ends_one (length new) a.places p (ends_later (length file) (length new) a.places (omega (arith, long)) a.within) (omega (arith, long));
    }

-- one entry alone; the name of the file from before matters to nothing
pub adds_anew : (file first new : List ℕ) (old places : List Place) (entry : Entry) → new ≡ file ++ entry_bytes entry
    → places ≡ old ++ (record { kind = entry.kind; start = length file + 5; length = length entry.payload }) ∷ [] → Adds first new old places (entry ∷ [])
adds_anew file first new old places entry is_new is_places =
    let a = adds_more file file new old old places [] entry (nothing_added file old) is_new is_places in
    record { places = a.places; added = a.added; are = a.are; within = a.within }

-- ---- an entry that was read

-- the rest after an entry
pub rest_there : (bytes rest after : List ℕ) (start : ℕ) (entry : Entry) → rest ≡ take (length rest) (drop start bytes) → rest ≡ entry_bytes entry ++ after
    → after ≡ take (length after) (drop (start + (5 + length entry.payload)) bytes)
rest_there bytes rest after start entry there whole =
    let n = length (entry_bytes entry) in
    let size : length rest ≡ n + length after = ap length whole ∙ length-append (entry_bytes entry) after in
    let tail : drop n (take (n + length after) (drop start bytes)) ≡ after =
    ap (λ (k : ℕ). drop n (take k (drop start bytes))) (sym size) ∙ ap (λ (l : List ℕ). drop n l) (sym there ∙ whole) ∙ drop_at (entry_bytes entry) after n refl in
    sym tail ∙ drop-take n (length after) (drop start bytes) ∙ ap (λ (l : List ℕ). take (length after) l) (drop-drop n start bytes ∙ ap (λ (k : ℕ). drop (start + k) bytes) (length-entry entry))

-- the entry at its place
pub place_read : (bytes rest after : List ℕ) (start : ℕ) (kind : ℕ) (payload : List ℕ) → rest ≡ take (length rest) (drop start bytes) → rest ≡ entry_bytes (record { kind = kind; payload = payload }) ++ after
    → entry_at bytes (record { kind = kind; start = start + 5; length = length payload }) ≡ record { kind = kind; payload = payload }
place_read bytes rest after start kind payload there whole =
    let head : List ℕ = kind ∷ to_be_bytes w32 (length payload) in
    let size : length rest ≡ 5 + (length payload + length after) = ap length whole ∙ omega (arith, length-append (entry_bytes (record { kind = kind; payload = payload })) after, length-entry (record { kind = kind; payload = payload })) in
    let following : take (length payload + length after) (drop (start + 5) bytes) ≡ payload ++ after =
    ap (λ (l : List ℕ). take (length payload + length after) l) (sym (drop-drop 5 start bytes)) ∙ sym (drop-take 5 (length payload + length after) (drop start bytes))
    ∙ ap (λ (k : ℕ). drop 5 (take k (drop start bytes))) (sym size) ∙ ap (λ (l : List ℕ). drop 5 l) (sym there ∙ whole) in
    ap (λ (l : List ℕ). let e : Entry = record { kind = kind; payload = l } in e)
    (sym (take-take (length payload) (length payload + length after) (drop (start + 5) bytes) (omega arith)) ∙ ap (λ (l : List ℕ). take (length payload) l) following ∙ take_at payload after (length payload) refl)
