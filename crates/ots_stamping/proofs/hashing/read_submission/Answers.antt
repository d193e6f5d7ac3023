use Rattle.std.proofs.Common.{◌≡◌, ℕ, Bor, List, length, ap, refl, subst, ◌∙◌, rules}
use Rattle.std.specs.Prelude.{map, Ok, Err}
use Rattle.ots_arguments.specs.Values.{texts}
use Rattle.ots_client_endings.proofs.Reading.{after_list, list_refused, reads_into, stop_into}
use Rattle.ots_client_endings.specs.Reading.{Reads, is_list}
use Rattle.ots_client_inputs.specs.Inputs.{target_under}
use Rattle.ots_client_words.specs.Words.{read_stamping}
use Rattle.ots_stamping.specs.Hashing.{AreHashed, RefusesOne, WithHashes, one_refused}
use Rattle.ots_stamping.specs.Stamp.{Stamps}
use Rattle.ots_stamping.proofs.hashing.read_submission.Goals as goal

pub returns : goal.returns
returns g c = λ o.
    list_refused {goes_on = λ told calendars. WithHashes told (read_stamping c.args.stamping).files (Stamps o c.args.stamping.least (read_stamping c.args.stamping).files calendars)} _ c.in-Err.ensures

pub returns-in-Ok : goal.returns-in-Ok
returns-in-Ok g c = λ o.
    (let files : c.deref.result.now ≡ c.args.stamping.files.items = search rules in
    let reads = subst (λ (z : List (Bor (List ℕ))). Reads {A = List (List ℕ)} (map target_under (texts z)) (λ told digests. AreHashed told (texts z) digests) (λ told. RefusesOne told (texts z))
    (g.S.Shelf.told c.args.shelf.now) (g.S.Shelf.told c.hash_targets.new.shelf) (g.S.Shelf.faults c.args.shelf.now) (g.S.Shelf.faults c.hash_targets.new.shelf)
    (Err c.in-Err-hash_targets.stop))
    files (stop_into (λ e h. h) c.in-Err-hash_targets.ensures.reads) in
    after_list c.in-Ok.ensures (stop_into (λ e h. is_list _ c.in-Ok.ensures (one_refused h)) reads))

pub invariant_of-result : goal.invariant_of-result
invariant_of-result g c = record {
  wanted = c.args.stamping.wanted;
  some = c.args.stamping.some;
  most = c.args.stamping.most;
  each = c.in-Ok-hash_targets.ensures.each ∙ ap length (search rules);
  sha256 = c.in-Ok-hash_targets.ensures.sha256;
}

pub returns-in-Ok-hash_targets : goal.returns-in-Ok-hash_targets
returns-in-Ok-hash_targets g c = λ o.
    let files : c.deref.result.now ≡ c.args.stamping.files.items = search rules in
    let reads = subst (λ (z : List (Bor (List ℕ))). Reads (map target_under (texts z)) (λ told digests. AreHashed told (texts z) digests.items) (λ told. RefusesOne told (texts z))
    (g.S.Shelf.told c.args.shelf.now) (g.S.Shelf.told c.hash_targets.new.shelf) (g.S.Shelf.faults c.args.shelf.now) (g.S.Shelf.faults c.hash_targets.new.shelf) (Ok c.in-Ok-hash_targets.digests))
    files c.in-Ok-hash_targets.ensures.reads in
    after_list c.in-Ok.ensures (reads_into (λ h. record { is_list = c.in-Ok.ensures; hashed = h; files = refl; least = refl }) reads)
