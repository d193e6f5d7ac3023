use Rattle.std.proofs.Common.{◌≡◌, ◌++◌, length, arith, ◌∙◌, ap}
use Rattle.std.proofs.lemmas.List.{take_rest}
use Rattle.ots_store.specs.Records.{sized, branch_bytes, after, part}
use Rattle.ots_store.proofs.Formed.{after_root}
use Rattle.ots_store.proofs.Recorded.{anchor_whole}
use Rattle.ots_store.proofs.Spellings.{after_read, part_read}
use Rattle.ots_store.proofs.form.is_anchor.Goals as goal

pub returns-in_default-clause-no : goal.returns-in_default-clause-no
returns-in_default-clause-no c is anchor fits whole =
    let message = fits.message in
    c.in_default.ensures.none anchor.prefix (sized anchor.suffix ++ branch_bytes anchor.branch) (omega arith) (take_rest c.args.payload.now 56 ∙ after_root c.args.payload.now anchor fits whole)

pub returns-in_default-split_part-clause-no : goal.returns-in_default-split_part-clause-no
returns-in_default-split_part-clause-no c is anchor fits whole =
    let message = fits.message in
    let rest = take_rest c.args.payload.now 56 ∙ after_root c.args.payload.now anchor fits whole in
    let following : c.in-Some.following.now ≡ sized anchor.suffix ++ branch_bytes anchor.branch = c.in-Some.ensures.after ∙ ap after rest ∙ after_read anchor.prefix (sized anchor.suffix ++ branch_bytes anchor.branch) (omega arith) in
    c.in_default-split_part.ensures.none anchor.suffix (branch_bytes anchor.branch) (omega arith) following

pub returns-then-prefix-suffix-le-MAX_MESSAGE-clause-yes : goal.returns-then-prefix-suffix-le-MAX_MESSAGE-clause-yes
returns-then-prefix-suffix-le-MAX_MESSAGE-clause-yes c is =
    anchor_whole c.args.payload.now c.in-Some.prefix.now c.in-Some.following.now c.in-Some-split_part.suffix.now c.in-Some-split_part.branch.now
    (omega arith) (λ i. omega (arith, c.type_inv.payload i)) (omega (arith, rw take_rest at c.number.ensures)) (rw take_rest at c.in-Some.ensures.whole) (rw take_rest at c.in-Some.ensures.part) (rw take_rest at c.in-Some.ensures.after)
    c.in-Some-split_part.ensures.whole c.in-Some-split_part.ensures.part c.in-Some-split_part.ensures.after (omega arith) (c.is_branch.ensures.yes is)

pub returns-then-prefix-suffix-le-MAX_MESSAGE-clause-no : goal.returns-then-prefix-suffix-le-MAX_MESSAGE-clause-no
returns-then-prefix-suffix-le-MAX_MESSAGE-clause-no c is anchor fits whole =
    let message = fits.message in
    let rest = take_rest c.args.payload.now 56 ∙ after_root c.args.payload.now anchor fits whole in
    let following : c.in-Some.following.now ≡ sized anchor.suffix ++ branch_bytes anchor.branch = c.in-Some.ensures.after ∙ ap after rest ∙ after_read anchor.prefix (sized anchor.suffix ++ branch_bytes anchor.branch) (omega arith) in
    let branch : c.in-Some-split_part.branch.now ≡ branch_bytes anchor.branch = c.in-Some-split_part.ensures.after ∙ ap after following ∙ after_read anchor.suffix (branch_bytes anchor.branch) (omega arith) in
    c.is_branch.ensures.no is anchor.branch fits.steps fits.hashes branch

pub returns-else-prefix-suffix-le-MAX_MESSAGE-clause-no : goal.returns-else-prefix-suffix-le-MAX_MESSAGE-clause-no
returns-else-prefix-suffix-le-MAX_MESSAGE-clause-no c is anchor fits whole =
    let message = fits.message in
    let rest = take_rest c.args.payload.now 56 ∙ after_root c.args.payload.now anchor fits whole in
    let following : c.in-Some.following.now ≡ sized anchor.suffix ++ branch_bytes anchor.branch = c.in-Some.ensures.after ∙ ap after rest ∙ after_read anchor.prefix (sized anchor.suffix ++ branch_bytes anchor.branch) (omega arith) in
    let prefix : c.in-Some.prefix.now ≡ anchor.prefix = c.in-Some.ensures.part ∙ ap part rest ∙ part_read anchor.prefix (sized anchor.suffix ++ branch_bytes anchor.branch) (omega arith) in
    let suffix : c.in-Some-split_part.suffix.now ≡ anchor.suffix = c.in-Some-split_part.ensures.part ∙ ap part following ∙ part_read anchor.suffix (branch_bytes anchor.branch) (omega arith) in
    omega (arith, ap length prefix, ap length suffix, c.if-prefix-suffix-le-MAX_MESSAGE.false)
