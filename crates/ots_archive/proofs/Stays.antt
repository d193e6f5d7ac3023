-- What is under each name stays, step by step.
use Rattle.std.proofs.Common.{◌≡◌, ℕ, true, false, List, [], ◌∷◌, ◌++◌, codes, Option, Some, None, sym, ap, ◌∙◌, inl, inr, take}
use Rattle.std.specs.Prelude.{Result, Ok, Err}
use Rattle.std.specs.FinMap as map
use Rattle.std.specs.Option.{option_and_then}
use Rattle.ots_archive.specs.Stays.{StaysUnder}
use Rattle.ots_archive_steps.specs.Ends.{Ends, IfRoom}
use Rattle.ots_archive_inputs.specs.Inputs.{RefusesProof, RefusesSums}
use Rattle.ots_archive_steps.specs.Entries.{Entry, ReadsEntries}
use Rattle.ots_archive_steps.specs.Entries as entry
use Rattle.ots_archive_steps.specs.Inputs.{Looks, Needs, ReadsList}
use Rattle.ots_archive_steps.specs.Making.{MakesNew}
use Rattle.ots_archive_steps.specs.Proofs.{DraftOrProof, ReadsLine, ReadsNamed, ReadsProof, Tries}
use Rattle.ots_archive_text.specs.Refusal.{refusal_text}
use Rattle.ots_archive_text.specs.declared.status.ArchiveStatus.TheVariants.{BadAddress, NoFile, OutOfMemory, WriteFault}
use Rattle.ots_archive_words.specs.Words as words
use Rattle.ots_detached.specs.File.{IsFileOf}
use Rattle.ots_sums.specs.Sums.{AreSums}
use Rattle.ots_tree.specs.declared.detached.Detached.{Detached}
use Rattle.ots_archive_steps.specs.Printing.{Refuses, Says, Tells}
use Rattle.ots_archive_text.specs.declared.status.ArchiveStatus.{ArchiveStatus}
use Rattle.ots_archive_world.specs.Steps.{Each, Gives, Step, Then}
use Rattle.ots_archive_world.specs.Told.{Told, Draws, Makes, Prints, Reads}
use Rattle.ots_inputs.specs.Under.{IsUnder}
use Rattle.ots_inputs.specs.declared.error.InputError.{InputError}
use Rattle.ots_outputs.specs.Made.{Outputs}
use Rattle.ots_outputs.specs.declared.output.OutputError.{OutputError}
use Rattle.ots_outputs.specs.declared.output.OutputError.TheVariants as output
use Rattle.ots_outside.specs.Shelf.{Names, ShelfTold, told_bytes}
use Rattle.ots_outside.proofs.Names.{get-insert_other}
use Rattle.ots_outside.specs.Written.{with_name}
use Rattle.ots_outside.specs.declared.failed.Failed.{Failed}

-- ---- one moment and another

abbrev pub Stays : Told → Told → Type 0
Stays old new = StaysUnder old.shelf new.shelf

pub same : (old new : Told) → new.shelf ≡ old.shelf → Stays old new
same old new is name bytes at = ap (λ (t : ShelfTold). told_bytes t name) is ∙ at

pub as_before : (old new : Told) → new ≡ old → Stays old new
as_before old new is = same old new (ap (λ (t : Told). t.shelf) is)

pub then : (old mid new : Told) → Stays old mid → Stays mid new → Stays old new
then old mid new first second name bytes at = second name bytes (first name bytes at)

-- the names are told as before
told_alike : (old new : Told) → new.shelf.names ≡ old.shelf.names → Stays old new
told_alike old new is name bytes at = ap (λ (told : Option Names). option_and_then (λ names. map.get names name) told) is ∙ at

-- ---- calls

pub reads_stays : {A R : Type 0} {G : List ℕ → A → Type 0} {F : List ℕ → R → Type 0} (name : List ℕ) (old new : Told) (r : Result A (InputError R)) → Reads G F name old new r → Stays old new
reads_stays name old new r read = told_alike old new read.input.kept.names

pub prints_stays : {T : List ℕ → Type 0} (old new : Told) (r : Result (Unit {0}) Failed) → Prints T old new r → Stays old new
prints_stays old new r printed = same old new printed.others.shelf

pub draws_stays : (old new : Told) (r : Result (List ℕ) Failed) → Draws old new r → Stays old new
draws_stays old new r drawn = same old new drawn.others.shelf

-- A name that was not there is there.
made : (told after : Option Names) (name file : List ℕ) → IsUnder told name None → after ≡ with_name name file told → (q bytes : List ℕ) → option_and_then (λ names. map.get names q) told ≡ Some bytes
    → option_and_then (λ names. map.get names q) after ≡ Some bytes
made None after name file absent is q bytes at = absurd cc
made (Some names) after name file absent is q bytes at =
    ap (λ (told : Option Names). option_and_then (λ names. map.get names q) told) is
    ∙ get-insert_other names name file q (λ clash. let there : map.get names name ≡ Some bytes = ap (map.get names) (sym clash) ∙ at in let none : None ≡ Some bytes = sym absent ∙ there in cc) ∙ at

outputs : (name file : List ℕ) (told after : Option Names) (r : Result (Unit {0}) OutputError) → Outputs name file told after r → (q bytes : List ℕ)
    → option_and_then (λ names. map.get names q) told ≡ Some bytes → option_and_then (λ names. map.get names q) after ≡ Some bytes
outputs name file told after (Ok done) o q bytes at = made told after name file o.0 o.1 q bytes at
outputs name file told after (Err output.Exists) o q bytes at = ap (λ (t : Option Names). option_and_then (λ names. map.get names q) t) o.1 ∙ at
outputs name file told after (Err output.WriteFault) (absent, inl is) q bytes at = ap (λ (t : Option Names). option_and_then (λ names. map.get names q) t) is ∙ at
outputs name file told after (Err output.WriteFault) (absent, inr (n, is)) q bytes at = made told after name (take n file) absent is q bytes at
outputs name file told after (Err output.OutOfMemory) o q bytes at = ap (λ (t : Option Names). option_and_then (λ names. map.get names q) t) o ∙ at

pub makes_stays : (name file : List ℕ) (old new : Told) (r : Result (Unit {0}) OutputError) → Makes name file old new r → Stays old new
makes_stays name file old new r m q bytes at = outputs name file old.shelf.names new.shelf.names r m.made.names q bytes at

-- ---- steps

-- Whatever a step gives, what is under each name stays.
abbrev pub Keeps : {A E : Type 0} → Step A E → Type 0
Keeps {A} {E} step = (old new : Told) (r : Result A E) → step old new r → Stays old new

pub gives_keeps : {A E : Type 0} (a : A) → Keeps (Gives {A = A} {E = E} a)
gives_keeps a old new r g = as_before old new g.0

pub then_keeps : {A B E : Type 0} (first : Step A E) (next : A → Step B E) → Keeps first → ((a : A) → Keeps (next a)) → Keeps (Then first next)
then_keeps first next f n old new r (inl (a, mid, done, rest)) = then old mid new (f old mid (Ok a) done) (n a mid new r rest)
then_keeps first next f n old new r (inr (e, ended, is)) = f old new (Err e) ended

pub each_keeps : {W A E : Type 0} (step : W → Step A E) → ((w : W) → Keeps (step w)) → (ws : List W) → Keeps (Each step ws)
each_keeps step s [] old new (Ok []) is = as_before old new is
each_keeps step s [] old new (Ok (a ∷ given)) is = absurd is
each_keeps step s [] old new (Err e) is = absurd is
each_keeps step s (w ∷ ws) old new (Ok []) is = absurd is
each_keeps step s (w ∷ ws) old new (Ok (a ∷ given)) (mid, first, rest) = then old mid new (s w old mid (Ok a) first) (each_keeps step s ws mid new (Ok given) rest)
each_keeps step s (w ∷ ws) old new (Err e) (inl ended) = s w old new (Err e) ended
each_keeps step s (w ∷ ws) old new (Err e) (inr (a, mid, first, rest)) = then old mid new (s w old mid (Ok a) first) (each_keeps step s ws mid new (Err e) rest)

pub room_keeps : {A : Type 0} (step : Step A ArchiveStatus) → Keeps step → Keeps (IfRoom step)
room_keeps step s old new r (IfRoom.done d) = s old new r d
room_keeps step s old new r (IfRoom.before is ended) = as_before old new is
room_keeps step s old new r (IfRoom.after a d ended) = s old new (Ok a) d

pub ends_stays : (step : Step ArchiveStatus ArchiveStatus) → Keeps step → (old new : Told) (s : ArchiveStatus) → Ends step old new s → Stays old new
ends_stays step k old new s (inl gives) = k old new (Ok s) gives
ends_stays step k old new s (inr ended) = k old new (Err s) ended

-- ---- steps that commands share

pub tells_keeps : (T : List ℕ → Type 0) → Keeps (Tells T)
tells_keeps T old new (Ok done) printed = prints_stays old new (Ok done) printed
tells_keeps T old new (Err s) (f, printed, is) = prints_stays old new (Err f) printed

pub says_stays : (T : List ℕ → Type 0) (status : ArchiveStatus) (old new : Told) (s : ArchiveStatus) → Says T status old new s → Stays old new
says_stays T status old new s (r, printed, is) = prints_stays old new r printed

pub refuses_stays : (name : List ℕ) (status : ArchiveStatus) (old new : Told) (s : ArchiveStatus) → Refuses name status old new s → Stays old new
refuses_stays name status old new s (r, printed, is) = prints_stays old new r printed

pub looks_keeps : {A : Type 0} (G : List ℕ → A → Type 0) (F : List ℕ → ArchiveStatus → Type 0) (name : List ℕ) → Keeps (Looks G F name)
looks_keeps G F name old new (Ok a) read = reads_stays name old new (Ok a) read
looks_keeps G F name old new (Err s) (e, read, is) = reads_stays name old new (Err e) read

pub needs_keeps : {A : Type 0} (G : List ℕ → A → Type 0) (F : List ℕ → ArchiveStatus → Type 0) (name : List ℕ) → Keeps (Needs G F name)
needs_keeps G F name old new (Ok a) looked = looks_keeps G F name old new (Ok a) looked
needs_keeps G F name old new (Err s) (mid, why, looked, refused) = then old mid new (looks_keeps G F name old mid (Err why) looked) (refuses_stays name why mid new s refused)

pub list_keeps : (list : List ℕ) → Keeps (ReadsList list)
list_keeps list old new (Ok urls) read = as_before old new read.1
list_keeps list old new (Err s) (inl (place, bad, refused)) = refuses_stays [] (BadAddress place) old new s refused
list_keeps list old new (Err s) (inr (is, ended)) = as_before old new is

pub entries_keeps : (names : words.Names) → Keeps (ReadsEntries names)
entries_keeps (words.given ws) old new r g = as_before old new g.0
entries_keeps (words.sums name) old new (Ok found) (lines, needed, is) = needs_keeps AreSums RefusesSums name old new (Ok lines) needed
entries_keeps (words.sums name) old new (Err s) needed = needs_keeps AreSums RefusesSums name old new (Err s) needed

named_keeps : (name : List ℕ) → Keeps (ReadsNamed name)
named_keeps name = looks_keeps IsFileOf RefusesProof name

found_stays : (name : List ℕ) (old new : Told) (r : Result Detached ArchiveStatus) → DraftOrProof name old new r → Stays old new
found_stays name old new r (DraftOrProof.draft read other) = room_keeps (ReadsNamed (name ++ codes ".draft")) (named_keeps (name ++ codes ".draft")) old new r read
found_stays name old new r (DraftOrProof.proof mid none read) =
    then old mid new (room_keeps (ReadsNamed (name ++ codes ".draft")) (named_keeps (name ++ codes ".draft")) old mid (Err NoFile) none)
    (room_keeps (ReadsNamed (name ++ codes ".ots")) (named_keeps (name ++ codes ".ots")) mid new r read)

pub proof_keeps : (e : Entry) → Keeps (ReadsProof e)
proof_keeps (entry.word name) old new r read = named_keeps name old new r read
proof_keeps (entry.line name) old new r (ReadsLine.text utf8 found) = found_stays name old new r found
proof_keeps (entry.line name) old new r (ReadsLine.no_text bad is ended) = as_before old new is

pub tries_keeps : (e : Entry) → Keeps (Tries e)
tries_keeps e old new (Ok (Ok proof)) read = proof_keeps e old new (Ok proof) read
tries_keeps e old new (Ok (Err why)) (mid, read, on, told) =
    then old mid new (proof_keeps e old mid (Err why) read) (tells_keeps (λ text. text ≡ refusal_text (entry.name_of e) why) mid new (Ok tt) told)
tries_keeps e old new (Err s) (inl (read, is)) = proof_keeps e old new (Err OutOfMemory) read
tries_keeps e old new (Err s) (inr (mid, why, read, on, told)) =
    then old mid new (proof_keeps e old mid (Err why) read) (tells_keeps (λ text. text ≡ refusal_text (entry.name_of e) why) mid new (Err s) told)

pub new_keeps : (name bytes : List ℕ) → Keeps (MakesNew name bytes)
new_keeps name bytes old new (Ok true) m = makes_stays name bytes old new (Ok tt) m
new_keeps name bytes old new (Ok false) m = makes_stays name bytes old new (Err output.Exists) m
new_keeps name bytes old new (Err s) (inl (mid, m, refused)) = then old mid new (makes_stays name bytes old mid (Err output.WriteFault) m) (refuses_stays name WriteFault mid new s refused)
new_keeps name bytes old new (Err s) (inr (m, is)) = makes_stays name bytes old new (Err output.OutOfMemory) m
