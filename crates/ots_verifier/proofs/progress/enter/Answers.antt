use Rattle.std.proofs.Common.{ℕ, List, ◌+◌, length, take, ap}
use Rattle.std.specs.Option.{option_copied}
use Rattle.ots_verifier.proofs.Gathered.{entered, stands_joined}
use Rattle.ots_verifier.proofs.progress.enter.Goals as goal

pub read_after-stage-requires-clause-stands : goal.read_after-stage-requires-clause-stands
read_after-stage-requires-clause-stands c =
    let bitcoin = c.args.bitcoin.now in
    let litecoin = option_copied c.args.litecoin in (
      take (33 + length c.args.header.digest) c.args.gathered.now,
      entered bitcoin litecoin c.args.gathered.now c.args.header c.begin_tree.new.following (33 + length c.bytes.result.now) c.requires.header (ap (λ (z : List ℕ). 33 + length z) c.bytes.ensures.bytes)
          (c.begin_tree.ensures.follows bitcoin litecoin) c.begin_tree.ensures.none c.begin_tree.ensures.no_tokens,
    )

pub read_after-requires-clause-stands : goal.read_after-requires-clause-stands
read_after-requires-clause-stands c =
    let bitcoin = c.args.bitcoin.now in
    let litecoin = option_copied c.args.litecoin in
    let g = c.args.gathered.now in
    let start = ap (λ (z : List ℕ). 33 + length z) c.bytes.ensures.bytes in (
      g,
      stands_joined bitcoin litecoin g (33 + length c.args.header.digest) (33 + length c.bytes.result.now) c.read_after-stage.result c.read_after-stage.new.following start
          (c.read_after-stage.ensures.at (take (33 + length c.args.header.digest) g)
          (entered bitcoin litecoin g c.args.header c.begin_tree.new.following (33 + length c.bytes.result.now) c.requires.header start
          (c.begin_tree.ensures.follows bitcoin litecoin) c.begin_tree.ensures.none c.begin_tree.ensures.no_tokens)),
    )

pub returns-clause-at : goal.returns-clause-at
returns-clause-at c =
    let bitcoin = c.args.bitcoin.now in
    let litecoin = option_copied c.args.litecoin in
    let g = c.args.gathered.now in
    let start = ap (λ (z : List ℕ). 33 + length z) c.bytes.ensures.bytes in
    c.read_after.ensures.at g
    (stands_joined bitcoin litecoin g (33 + length c.args.header.digest) (33 + length c.bytes.result.now) c.read_after-stage.result c.read_after-stage.new.following start
    (c.read_after-stage.ensures.at (take (33 + length c.args.header.digest) g)
    (entered bitcoin litecoin g c.args.header c.begin_tree.new.following (33 + length c.bytes.result.now) c.requires.header start
    (c.begin_tree.ensures.follows bitcoin litecoin) c.begin_tree.ensures.none c.begin_tree.ensures.no_tokens)))
