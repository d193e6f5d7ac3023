use Rattle.std.proofs.Common.{◌≡◌, ◌∙◌, ◌++◌, arith, drop, ap, sym, subst}
use Rattle.std.proofs.lemmas.List.{take_rest}
use Rattle.ots_store.specs.Records.{anchor_at, sized, branch_bytes, after, part, branch_at}
use Rattle.ots_store.specs.Forms.{IsBranch}
use Rattle.ots_store.proofs.Formed.{is_some_from, after_root, follows_prefix, after_suffix, anchor_is_at}
use Rattle.ots_store.proofs.reading.read_anchor.Goals as goal

pub unwrap-requires : goal.unwrap-requires
unwrap-requires c =
    let payload = c.args.payload.now in
    let anchor = anchor_at payload in
    let message = c.requires.fits.message in
    is_some_from c.split_part.result _ c.split_part.ensures.none (λ never. never anchor.prefix (sized anchor.suffix ++ branch_bytes anchor.branch) (omega arith) (take_rest payload 56 ∙ after_root payload anchor c.requires.fits c.requires.whole))

pub unwrap-requires-2 : goal.unwrap-requires-2
unwrap-requires-2 c =
    let payload = c.args.payload.now in
    let anchor = anchor_at payload in
    let message = c.requires.fits.message in
    let following : c.unwrap.result.1.now ≡ after (drop 56 payload) = rw take_rest at (rw c.unwrap.ensures at c.split_part.ensures.after) in
    is_some_from c.split_part-2.result _ c.split_part-2.ensures.none (λ never. never anchor.suffix (branch_bytes anchor.branch) (omega arith) (following ∙ follows_prefix payload c.requires))

pub read_branch-requires : goal.read_branch-requires
read_branch-requires c =
    let payload = c.args.payload.now in
    let following : c.unwrap.result.1.now ≡ after (drop 56 payload) = rw take_rest at (rw c.unwrap.ensures at c.split_part.ensures.after) in
    let branch : c.unwrap-2.result.1.now ≡ after (after (drop 56 payload)) = (rw c.unwrap-2.ensures at c.split_part-2.ensures.after) ∙ ap after following in
    subst IsBranch (sym branch) (after_suffix payload c.requires)

pub returns : goal.returns
returns c =
    let payload = c.args.payload.now in
    let prefix : c.unwrap.result.0.now ≡ part (drop 56 payload) = rw take_rest at (rw c.unwrap.ensures at c.split_part.ensures.part) in
    let following : c.unwrap.result.1.now ≡ after (drop 56 payload) = rw take_rest at (rw c.unwrap.ensures at c.split_part.ensures.after) in
    let suffix : c.unwrap-2.result.0.now ≡ part (after (drop 56 payload)) = (rw c.unwrap-2.ensures at c.split_part-2.ensures.part) ∙ ap part following in
    let branch : c.unwrap-2.result.1.now ≡ after (after (drop 56 payload)) = (rw c.unwrap-2.ensures at c.split_part-2.ensures.after) ∙ ap after following in
    anchor_is_at _ payload c.number.ensures (rw take_rest at c.number-2.ensures) (rw take_rest at c.number-3.ensures) c.copy_from_slice.ensures.after
    (c.in_ok-bytes_of.ensures ∙ prefix) (c.in_ok-bytes_of-2.ensures ∙ suffix) (c.in_ok-read_branch.ensures ∙ ap branch_at branch)
