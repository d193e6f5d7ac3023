-- What is refused of a source is refused of its bytes.
use Rattle.std.proofs.Common.{◌≡◌, ◌≤◌, ◌<◌, ℕ, List, [], ◌++◌, length, Option, Some, None, refl, sym, subst, ◌∙◌, ap, arith, append-nil, length-append}
use Rattle.std.specs.Prelude.{Result, Ok, Err}
use Rattle.std.specs.Io.KnownBytes.{IsAtEnd}
use Rattle.ots_base.specs.Told.{IfTold}
use Rattle.ots_base.specs.declared.limits.TheConstants.{MAX_PROOF_FILE, MAX_TARGET_FILE}
use Rattle.ots_outside.specs.Streams.{Gives}
use Rattle.ots_ops.specs.declared.hash_op.HashOp.TheVariants.{Sha256}
use Rattle.ots_ops.specs.declared.digest.Digest.{Digest}
use Rattle.ots_tree.specs.declared.detached.Detached.{Detached}
use Rattle.ots_detached.specs.File.{IsFileOf}
use Rattle.ots_detached.specs.FileRead.{ReadsFile}
use Rattle.ots_detached.specs.SourceHash.{HashesSource}
use Rattle.ots_detached.specs.declared.hashing.HashError.{HashError}
use Rattle.ots_detached.specs.declared.hashing.HashError.TheVariants as hashing
use Rattle.ots_detached.specs.declared.reading.FileError.{FileError}
use Rattle.ots_detached.specs.declared.reading.FileError.TheVariants as file
use Rattle.ots_sheet.specs.Reply.{Answer}
use Rattle.ots_replies.specs.Replies.{IsSheetOf, ReadsReplies}
use Rattle.ots_replies.specs.declared.error.SheetError.{SheetError}
use Rattle.ots_replies.specs.declared.error.SheetError.TheVariants as sheet
use Rattle.ots_archive_world.specs.Reading.{MeansSource}
use Rattle.ots_archive_inputs.specs.Inputs.{IsHashOf, RefusesProof, RefusesSheet, RefusesTarget, bad_proof, too_big}
use Rattle.ots_archive_inputs.specs.inner.Refused.{refused_proof, refused_replies, refused_target}

-- The bytes that came begin those that are left, and are all of them where the end was reached.
record Whole (left : Option (List ℕ)) (came : List ℕ) (whole : Type 0) : Type 0 where
  pub bytes : List ℕ
  pub told : IfTold left (λ all. all ≡ bytes)
  pub longer : length came ≤ length bytes
  pub all : whole → bytes ≡ came

whole_of : (left after : Option (List ℕ)) (came : List ℕ) → Gives left after came → Whole left came (IsAtEnd after)
whole_of None None came gave = record { bytes = came; told = tt; longer = omega arith; all = λ end. refl }
whole_of None (Some rest) came gave = absurd gave
whole_of (Some bytes) None came gave = absurd gave
whole_of (Some bytes) (Some rest) came gave = record {
  bytes = bytes;
  told = refl;
  longer = omega (arith, ap length gave, length-append came rest);
  all = λ end. gave ∙ ap (λ (z : List ℕ). came ++ z) end ∙ append-nil came;
}

pub proof_refused : (left after : Option (List ℕ)) (e : FileError) → ReadsFile left after (Err e)
    → MeansSource {A = Detached} (λ bytes proof. IsFileOf bytes proof) (λ bytes s. RefusesProof bytes s) left (Err (refused_proof e))
proof_refused left after file.ReadFault read = let w = whole_of left after read.came read.gave in record { bytes = w.bytes; told = w.told; means = tt }
proof_refused left after file.OutOfMemory read = let w = whole_of left after read.came read.gave in record { bytes = w.bytes; told = w.told; means = tt }
proof_refused left after file.TooBig read =
    let w = whole_of left after read.came read.gave in
    let long : MAX_PROOF_FILE < length read.came = read.tells in
    let longer = w.longer in
    record { bytes = w.bytes; told = w.told; means = too_big (omega arith) refl }
proof_refused left after (file.BadProof fault) read =
    let w = whole_of left after read.came read.gave in
    record { bytes = w.bytes; told = w.told; means = rw (w.all read.tells.0) (bad_proof fault read.tells.1 read.tells.2 refl) }

pub target_refused : (left after : Option (List ℕ)) (e : HashError) → HashesSource Sha256 MAX_TARGET_FILE left after (Err e)
    → MeansSource {A = List ℕ} (λ bytes digest. IsHashOf bytes digest) (λ bytes s. RefusesTarget bytes s) left (Err (refused_target e))
target_refused left after hashing.ReadFault read = let w = whole_of left after read.came read.gave in record { bytes = w.bytes; told = w.told; means = tt }
target_refused left after (hashing.FileTooLong n) read =
    let w = whole_of left after read.came read.gave in
    let long = read.tells.1 in
    let longer = w.longer in
    record { bytes = w.bytes; told = w.told; means = (omega arith, refl) }

pub replies_refused : (left : Option (List ℕ)) (e : SheetError) → ReadsReplies left (Err e)
    → MeansSource {A = List Answer} (λ bytes replies. IsSheetOf bytes replies) (λ bytes s. RefusesSheet bytes s) left (Err (refused_replies e))
replies_refused left sheet.ReadFault read = record { bytes = read.text; told = read.told; means = tt }
replies_refused left (sheet.BadSheet number) read = record { bytes = read.text; told = read.told; means = (number, read.gives, refl) }
replies_refused left sheet.OutOfMemory read = record { bytes = read.text; told = read.told; means = tt }
