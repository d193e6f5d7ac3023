use Rattle.std.proofs.Common.{refl}
use Rattle.std.specs.Option.{option_copied}
use Rattle.ots_verifier.proofs.Gathered.{still_gathering, no_header, header_cut, header_whole}
use Rattle.ots_verifier.proofs.progress.gather.Goals as goal

pub returns-then-progress-ge-MAX_HEADER-clause-come : goal.returns-then-progress-ge-MAX_HEADER-clause-come
returns-then-progress-ge-MAX_HEADER-clause-come c = λ bytes i.
    still_gathering _ _ _ _ c.requires.size c.requires.in_header (no_header bytes c.args.piece.now c.args.progress.now _ i c.if-progress-ge-MAX_HEADER.true refl refl refl)

pub returns-in_default-clause-come : goal.returns-in_default-clause-come
returns-in_default-clause-come c = λ bytes i.
    still_gathering _ _ _ _ c.requires.size c.requires.in_header
    (header_cut bytes c.args.piece.now c.args.progress.now _ c.keep_prefix-end.result c.in_default.field-0 i c.if-progress-ge-MAX_HEADER.false c.keep_prefix-end.ensures.end c.keep_prefix-end.ensures.kept
    c.in_default.ensures.err refl refl)

pub returns-in-Ok-clause-come : goal.returns-in-Ok-clause-come
returns-in-Ok-clause-come c = λ bytes i.
    header_whole c.args.bitcoin.now (option_copied c.args.litecoin) bytes c.args.piece.now _ c.args.progress.now _ c.keep_prefix-end.result _ c.enter-stage.result i c.if-progress-ge-MAX_HEADER.false
    c.keep_prefix-end.ensures.end refl c.keep_prefix-end.ensures.kept c.enter-stage.ensures.at refl c.requires.size refl
