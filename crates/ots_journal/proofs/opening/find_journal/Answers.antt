use Rattle.std.proofs.Common.{◌≡◌, ◌≤◌, ℕ, List, [], inl, length, sym, ◌∙◌, ap, subst, arith, Some}
use Rattle.std.proofs.lemmas.List.{length-take-le}
use Rattle.ots_disk.specs.Moments.{joined, if_told}
use Rattle.ots_journal.specs.declared.limits.TheConstants.{EMPTY_JOURNAL}
use Rattle.ots_journal.specs.Image.{Stands}
use Rattle.ots_journal.specs.Opening.{FoundTo, IsGate}
use Rattle.ots_journal.specs.Stored.{entries_at}
use Rattle.ots_journal.specs.declared.entry.Entry.{Entry}
use Rattle.ots_journal.proofs.Refreshing.{told_at}
use Rattle.ots_journal.proofs.Found.{empty_keeps, found_gate, found_keeps, found_stands, small_torn}
use Rattle.ots_journal.proofs.Places.{entries_cut}
use Rattle.ots_journal.proofs.Within.{torn_within}
use Rattle.ots_journal.proofs.opening.find_journal.Goals as goal

pub returns-then-length-le-EMPTY_JOURNAL-clause-keeps : goal.returns-then-length-le-EMPTY_JOURNAL-clause-keeps
returns-then-length-le-EMPTY_JOURNAL-clause-keeps g c =
    let d = g.D.Disk in
    let short : (b : List ℕ) → d.bytes c.settled_length.new.disk ≡ Some b → length b ≤ EMPTY_JOURNAL =
    λ b is. omega (arith, told_at (d.bytes c.args.disk.now) _ b (sym c.settled_length.ensures.same ∙ is) c.in_ok-length.ensures.length, c.if-length-le-EMPTY_JOURNAL.true) in
    let none : c.of_file.result.entries ≡ [] = c.of_file.ensures.entries ∙ ap (λ l. entries_at c.in_ok-magic.magic.items l) c.new.ensures.items in
    let size : c.of_file.result.size ≡ 8 = c.of_file.ensures.size ∙ ap length c.in_ok-magic.ensures in
    rw (c.of_file.ensures.flight, size)
    (empty_keeps (d.bytes c.settled_length.new.disk) (d.bytes c.write_durably.new.disk) (d.images c.write_durably.new.disk) c.of_file.result.entries none short
    c.in_ok-write_durably.ensures.written c.in_ok-write_durably.ensures.only)

pub returns-then-length-le-EMPTY_JOURNAL-clause-any_moment : goal.returns-then-length-le-EMPTY_JOURNAL-clause-any_moment
returns-then-length-le-EMPTY_JOURNAL-clause-any_moment g c =
    let d = g.D.Disk in
    let old = c.args.disk.now in
    let mid = c.settled_length.new.disk in
    let short : (f : List ℕ) → d.images mid f → length f ≤ EMPTY_JOURNAL =
    λ f image. omega (arith, told_at (d.bytes old) _ f (sym c.settled_length.ensures.same ∙ c.in_ok-length.ensures.only f image) c.in_ok-length.ensures.length, c.if-length-le-EMPTY_JOURNAL.true) in
    joined d.clock d.images_since old mid c.write_durably.new.disk _ _ _ c.settled_length.ensures.any_moment c.write_durably.ensures.any_moment
    (λ f image. inl image) (small_torn (d.images old) (d.images mid) c.settled_length.ensures.no_more short)

pub returns-clause-keeps : goal.returns-clause-keeps
returns-clause-keeps g c =
    let d = g.D.Disk in
    let old = c.args.disk.now in
    let mid = c.settled_length.new.disk in
    let bytes = c.in_ok-bytes.bytes.items in
    let places = c.in_ok-found.found.places.items in
    let gate = c.in_ok-found.found.gate in
    let f : FoundTo bytes (entries_at bytes places) gate = rw c.deref.ensures.value at c.in_ok-found.ensures.ok in
    let only : (x : List ℕ) → d.images c.read_whole.new.disk x → x ≡ bytes =
    λ x image.
    let is : d.bytes mid ≡ Some x = c.in_ok-length.ensures.only x (c.read_whole.ensures.no_more x image) in
    let long = told_at (d.bytes old) _ x (sym c.settled_length.ensures.same ∙ is) c.in_ok-length.ensures.length in
    sym (told_at (d.bytes mid) _ x is c.in_ok-bytes.ensures.bytes (sym long)) in
    let entries : c.of_file-2.result.entries ≡ entries_at bytes places =
    c.of_file-2.ensures.entries ∙ ap (λ (l : List ℕ). entries_at l places) c.truncate.ensures.items ∙ entries_cut gate bytes places c.in_ok-found.ensures.within in
    let size : c.of_file-2.result.size ≡ gate = c.of_file-2.ensures.size ∙ ap length c.truncate.ensures.items ∙ length-take-le gate bytes (omega (arith, f.within)) in
    rw (c.of_file-2.ensures.flight, entries, size) (found_keeps (d.images c.read_whole.new.disk) bytes (entries_at bytes places) gate f only)

pub returns-clause-list : goal.returns-clause-list
returns-clause-list g c =
    let d = g.D.Disk in
    let old = c.args.disk.now in
    let mid = c.settled_length.new.disk in
    let bytes = c.in_ok-bytes.bytes.items in
    let places = c.in_ok-found.found.places.items in
    let gate = c.in_ok-found.found.gate in
    let f : FoundTo bytes (entries_at bytes places) gate = rw c.deref.ensures.value at c.in_ok-found.ensures.ok in
    let entries : c.of_file-2.result.entries ≡ entries_at bytes places =
    c.of_file-2.ensures.entries ∙ ap (λ (l : List ℕ). entries_at l places) c.truncate.ensures.items ∙ entries_cut gate bytes places c.in_ok-found.ensures.within in
    if_told (d.bytes old) _ (λ b told.
    let is : d.bytes mid ≡ Some b = c.settled_length.ensures.same ∙ told in
    let long = told_at (d.bytes old) _ b told c.in_ok-length.ensures.length in
    let same : bytes ≡ b = told_at (d.bytes mid) _ b is c.in_ok-bytes.ensures.bytes (sym long) in
    let stands : Stands bytes c.of_file-2.result.entries = subst (λ (es : List Entry). Stands bytes es) (sym entries)
    (found_stands bytes (entries_at bytes places) gate (omega (arith, c.in_ok-bytes.ensures.size, c.if-length-le-EMPTY_JOURNAL.false)) f) in
    subst (λ (x : List ℕ). Stands x c.of_file-2.result.entries) same stands)

pub returns-then-length-le-EMPTY_JOURNAL-clause-gate : goal.returns-then-length-le-EMPTY_JOURNAL-clause-gate
returns-then-length-le-EMPTY_JOURNAL-clause-gate g c =
    let told = g.D.Disk.bytes c.args.disk.now in
    if_told told _ (λ b is. inl (
      omega (arith, told_at told _ b is c.in_ok-length.ensures.length, c.if-length-le-EMPTY_JOURNAL.true),
      c.of_file.ensures.size ∙ ap length c.in_ok-magic.ensures,
    ))

pub returns-clause-gate : goal.returns-clause-gate
returns-clause-gate g c =
    let d = g.D.Disk in
    let old = c.args.disk.now in
    let mid = c.settled_length.new.disk in
    let bytes = c.in_ok-bytes.bytes.items in
    let places = c.in_ok-found.found.places.items in
    let gate = c.in_ok-found.found.gate in
    let f : FoundTo bytes (entries_at bytes places) gate = rw c.deref.ensures.value at c.in_ok-found.ensures.ok in
    let size : c.of_file-2.result.size ≡ gate = c.of_file-2.ensures.size ∙ ap length c.truncate.ensures.items ∙ length-take-le gate bytes (omega (arith, f.within)) in
    if_told (d.bytes old) _ (λ b told.
    let is : d.bytes mid ≡ Some b = c.settled_length.ensures.same ∙ told in
    let long = told_at (d.bytes old) _ b told c.in_ok-length.ensures.length in
    let same : bytes ≡ b = told_at (d.bytes mid) _ b is c.in_ok-bytes.ensures.bytes (sym long) in
    let at : IsGate bytes c.of_file-2.result.size = subst (IsGate bytes) (sym size)
    (found_gate bytes (entries_at bytes places) gate (omega (arith, c.in_ok-bytes.ensures.size, c.if-length-le-EMPTY_JOURNAL.false)) f) in
    subst (λ (x : List ℕ). IsGate x c.of_file-2.result.size) same at)

pub returns-then-length-le-EMPTY_JOURNAL-clause-at_most : goal.returns-then-length-le-EMPTY_JOURNAL-clause-at_most
returns-then-length-le-EMPTY_JOURNAL-clause-at_most g c f image =
    let d = g.D.Disk in
    let old = c.args.disk.now in
    let mid = c.settled_length.new.disk in
    torn_within (d.images mid) c.args.limit 0 9
    (λ b there.
    let long = told_at (d.bytes old) _ b (sym c.settled_length.ensures.same ∙ c.in_ok-length.ensures.only b there) c.in_ok-length.ensures.length in
    omega (arith, long, c.if-length-le-EMPTY_JOURNAL.true, c.requires.least))
    c.requires.least f (c.write_durably.ensures.images f image)

pub returns-clause-at_most : goal.returns-clause-at_most
returns-clause-at_most g c f image =
    let d = g.D.Disk in
    let old = c.args.disk.now in
    let is = sym c.settled_length.ensures.same ∙ c.in_ok-length.ensures.only f (c.read_whole.ensures.no_more f image) in
    omega (arith, told_at (d.bytes old) _ f is c.in_ok-length.ensures.length, c.if-length-limit.false)
