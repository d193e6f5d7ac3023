-- What is known of proofs that were read, and of how many there are.
use Rattle.std.proofs.Common.{◌≡◌, ◌≤◌, ℕ, List, Bor, ap, length, map, arith}
use Rattle.std.specs.Prelude.{Ok}
use Rattle.std.proofs.lemmas.List.{length-map}
use Rattle.ots_archive_steps.specs.Ends.{IfRoom}
use Rattle.ots_archive_steps.specs.Entries.{Entry, ReadsEntries, line, word}
use Rattle.ots_archive_steps.specs.Proofs.{DraftOrProof, ReadsLine, ReadsNamed, Tries}
use Rattle.ots_archive_words.specs.Names.{AreFew}
use Rattle.ots_archive_words.specs.Words.{read_names}
use Rattle.ots_archive_words.specs.declared.names.Names.{Names as ReadNames}
use Rattle.ots_archive_words.specs.declared.names.Names.TheVariants as read
use Rattle.ots_archive_world.specs.Told.{Told}
use Rattle.ots_arguments.specs.Values.{texts}
use Rattle.ots_detached.specs.File.{IsFileOf}
use Rattle.ots_sums.specs.Sums as sums
use Rattle.ots_sums.specs.declared.reading.TheConstants.{MAX_LINES}
use Rattle.ots_tree.specs.declared.detached.Detached.{Detached}

abbrev HasFile : Detached → Type 0
HasFile proof = (bytes : List ℕ) × IsFileOf bytes proof

named : (name : List ℕ) (old new : Told) (proof : Detached) → ReadsNamed name old new (Ok proof) → HasFile proof
named name old new proof read = (read.input.answer.0, read.input.answer.2)

if_room : (name : List ℕ) (old new : Told) (proof : Detached) → IfRoom (ReadsNamed name) old new (Ok proof) → HasFile proof
if_room name old new proof (IfRoom.done read) = named name old new proof read
if_room name old new proof (IfRoom.before same short) = absurd cc
if_room name old new proof (IfRoom.after a read short) = absurd cc

either : (name : List ℕ) (old new : Told) (proof : Detached) → DraftOrProof name old new (Ok proof) → HasFile proof
either name old new proof (DraftOrProof.draft read other) = if_room _ old new proof read
either name old new proof (DraftOrProof.proof mid none read) = if_room _ mid new proof read

lined : (name : List ℕ) (old new : Told) (proof : Detached) → ReadsLine name old new (Ok proof) → HasFile proof
lined name old new proof (ReadsLine.text utf8 read) = either name old new proof read
lined name old new proof (ReadsLine.no_text bad same why) = absurd cc

-- A proof that was read has a file.
pub has_file : (e : Entry) (old new : Told) (proof : Detached) → Tries e old new (Ok (Ok proof)) → HasFile proof
has_file (word name) old new proof read = named name old new proof read
has_file (line name) old new proof read = lined name old new proof read

-- There are no more proofs than lines of a file of sums.
pub few_entries : (names : ReadNames) (old new : Told) (found : List Entry) → AreFew names → ReadsEntries (read_names names) old new (Ok found) → length found ≤ MAX_LINES
few_entries (read.Given names) old new found few reads =
    let is : found ≡ map word (texts names.items) = cc in
    omega (arith, few.1, ap length is, length-map (texts names.items) word, length-map names.items (λ (s : Bor (List ℕ)). s.now))
few_entries (read.Sums name) old new found few (lines, reads, is) =
    let most = reads.input.answer.2.most in
    omega (arith, most, ap length is, length-map (sums.names lines) line, length-map lines (λ (e : sums.Entry). e.name))
