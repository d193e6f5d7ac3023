-- A command but `serve` has one answer, where what is outside tells all that it asks.
use Rattle.std.proofs.Common.{◌≡◌, ℕ, List, Option, Some, None, sym, ◌∙◌}
use Rattle.ots_journal.specs.declared.entry.Entry.{Entry}
use Rattle.ots_journal.specs.declared.limits.TheConstants.{MAX_JOURNAL}
use Rattle.ots_calendar_words.specs.Words.{BatchAsked, DaemonCommand, serve, batch, tip, anchor, list, migrate}
use Rattle.ots_calendar_inputs.specs.Block.{GivesBlock, RefusesBlock}
use Rattle.ots_calendar_inputs.specs.Digests.{IsDigests, RefusesDigests}
use Rattle.ots_calendar_inputs.specs.Key.{GivesKey, RefusesKey}
use Rattle.ots_calendar_inputs.specs.Old.{GivesOld, RefusesOld}
use Rattle.ots_calendar_inputs.proofs.OneInput as input
use Rattle.ots_calendar_endings.specs.RunEnd.{RunEnd}
use Rattle.ots_calendar_endings.specs.With.{WithBook, WithInput, WithStore}
use Rattle.ots_calendar_endings.proofs.OneInput.{one_input, with_book, with_store, with_uri}
use Rattle.ots_calendar_maintenance.specs.Anchor.{AnchorAnswers}
use Rattle.ots_calendar_maintenance.specs.List.{ListAnswers}
use Rattle.ots_calendar_maintenance.specs.Migrate.{MigrateAnswers}
use Rattle.ots_calendar_maintenance.specs.Tip.{TipAnswers}
use Rattle.ots_calendar_maintenance.proofs.OneAnchor.{one_anchor}
use Rattle.ots_calendar_maintenance.proofs.OneEnding.{one_migration, one_tip}
use Rattle.ots_calendar_batch.specs.Batch.{RoundAnswers}
use Rattle.ots_calendar_batch.specs.Batch.{FailsIn, HappensIn, WithFiles}
use Rattle.ots_calendar_batch.proofs.OneRound.{one_batch_told}
use Rattle.ots_calendar_commands.specs.Meaning.{IsAlone, RunTold, meaning_in}
use Rattle.ots_calendar_commands.specs.Run.{TellsAll}

module _ (run : RunTold) (t : TellsAll run) where
  abbrev round : (asked : BatchAsked) (uri key : List ℕ) (digests : List (List ℕ)) → ℕ → List Entry → RunEnd → Type 0
  round asked uri key digests = RoundAnswers (HappensIn run.draws) (FailsIn run.draws) MAX_JOURNAL key uri digests

  one_round : (asked : BatchAsked) (d e : RunEnd) → (meaning_in run (Some (batch asked))).answers d → (meaning_in run (Some (batch asked))).answers e → d ≡ e
  one_round asked d e =
      with_uri asked.uri (λ uri. WithFiles run.old.shelf.names asked (λ key digests. WithBook run.old.bytes (round asked uri key digests))) d e
      (λ uri. one_input run.old.shelf.names t.names t.has_names asked.key GivesKey RefusesKey input.key_given_once input.key_refused_once input.key_never_both
      (λ key. WithInput run.old.shelf.names asked.digests IsDigests RefusesDigests (λ digests. WithBook run.old.bytes (round asked uri key digests))) d e
      (λ key. one_input run.old.shelf.names t.names t.has_names asked.digests IsDigests RefusesDigests input.digests_given_once input.digests_refused_once input.digests_never_both
      (λ digests. WithBook run.old.bytes (round asked uri key digests)) d e
      (λ digests. with_book run.old.bytes t.bytes t.has_bytes (round asked uri key digests) d e
      (λ gate entries has. one_batch_told run.draws t.second t.left t.left_now t.has_second t.has_left t.has_left_now (FailsIn run.draws) MAX_JOURNAL key uri digests gate entries d e))))

  -- One ending.
  pub one_answer : (command : Option DaemonCommand) (d e : RunEnd) → IsAlone command → (meaning_in run command).answers d → (meaning_in run command).answers e → d ≡ e
  one_answer None d e alone f g = f ∙ sym g
  one_answer (Some (serve asked)) d e alone f g = absurd alone
  one_answer (Some (batch asked)) d e alone f g = one_round asked d e f g
  one_answer (Some tip) d e alone f g = with_book run.old.bytes t.bytes t.has_bytes (TipAnswers MAX_JOURNAL) d e (λ gate entries has. one_tip MAX_JOURNAL gate entries d e) f g
  one_answer (Some (anchor asked)) d e alone f g =
      one_input run.old.shelf.names t.names t.has_names asked.block GivesBlock RefusesBlock input.block_given_once input.block_refused_once input.block_never_both
      (λ block. WithBook run.old.bytes (AnchorAnswers MAX_JOURNAL block asked.height)) d e
      (λ block. with_book run.old.bytes t.bytes t.has_bytes (AnchorAnswers MAX_JOURNAL block asked.height) d e
      (λ gate entries has. one_anchor MAX_JOURNAL block asked.height gate entries d e has.store.records)) f g
  one_answer (Some list) d e alone f g = with_book run.old.bytes t.bytes t.has_bytes ListAnswers d e (λ gate entries has a b. a ∙ sym b) f g
  one_answer (Some (migrate old)) d e alone f g =
      one_input run.old.shelf.names t.names t.has_names old GivesOld RefusesOld input.old_given_once input.old_refused_once input.old_never_both
      (λ entries. WithStore run.old.bytes (MigrateAnswers MAX_JOURNAL entries)) d e
      (λ entries. with_store run.old.bytes t.bytes t.has_bytes (MigrateAnswers MAX_JOURNAL entries) d e
      (λ gate held has. one_migration MAX_JOURNAL gate entries held d e)) f g
