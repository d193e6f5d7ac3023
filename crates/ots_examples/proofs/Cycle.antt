-- The records of one round are in order, and its trees make a cycle.
use Rattle.std.proofs.Common.{◌≡◌, ℕ, ◌≤◌, Bool, cond, List, [], ◌∷◌, ◌++◌, length, suc, take, refl, sym, ap, subst, ◌∙◌, inl, arith, length-append}
use Rattle.std.proofs.lemmas.List.{length-take-le}
use Rattle.std.proofs.lemmas.Slice.Eq.{bytes_eq-Decides}
use Rattle.std.specs.Prelude.{Some}
use Rattle.std.specs.Option.{option_map}
use Rattle.sha2.specs.Sha256.{sha256}
use Rattle.sha2.proofs.Facts256.{length-sha256}
use Rattle.ots_anchor.specs.Path.{complete_path, complete_way}
use Rattle.ots_attest.specs.declared.attestation.Attestation.TheVariants.{Bitcoin}
use Rattle.ots_attest.specs.Uri.{IsUri}
use Rattle.ots_calendar.specs.Answer.{answer, answer_of, way_in}
use Rattle.ots_calendar.specs.Book.{Gives}
use Rattle.ots_calendar.specs.Cycle.{IsCycle}
use Rattle.ots_calendar.specs.Values.{AreTrue}
use Rattle.ots_calendar.specs.declared.answer.Answer.TheVariants.{Complete}
use Rattle.ots_calendar.proofs.WholeWay.{whole_cycle}
use Rattle.ots_examples.specs.OneRound.{OneRound, Fits, anchor, closed, commit, completed, entries, later, over, receipt, some_round, stamped, tip, transaction, first_way, second_way}
use Rattle.ots_headers.specs.DoubleSha256.{double_sha256}
use Rattle.ots_merkle.specs.BlockTree.{block_root, block_root_within}
use Rattle.ots_merkle.specs.CalendarTree.{path, path_within, root, root_within}
use Rattle.ots_ops.specs.Value.{value}
use Rattle.ots_ops.specs.declared.op.Op.{Op}
use Rattle.ots_ops.specs.declared.op.Op.TheVariants.{Append, Prepend, Sha256}
use Rattle.ots_round.specs.Hmac.{filled, hmac_sha256, masked}
use Rattle.ots_round.specs.Round.{leaf, mac, round_commitment, signed, commitment}
use Rattle.ots_round.proofs.Leading.{length_root, mac_part, way_leads}
use Rattle.ots_stamp.specs.Stamped.{leaves}
use Rattle.ots_stamp.specs.declared.target.Target.{Target}
use Rattle.ots_stamp.proofs.Founded.{are_hashes}
use Rattle.ots_store.specs.Index.{least}
use Rattle.ots_store.specs.Order.{commits_of, FollowsAnchor, FollowsTip, InOrder, records_of}
use Rattle.ots_store.specs.Records.{Record, FitsAnchor, FitsTip, TipRecord, AnchorRecord, CommitRecord, IsRecord, entry_of}
use Rattle.ots_store.specs.Store.{InRecords}
use Rattle.ots_store.proofs.Spellings.{is_record, record_read}
use Rattle.ots_tree.proofs.Closing.{all-append}
use Rattle.ots_tree.specs.Made.{lone}
use Rattle.ots_tree.specs.Wire.{pre}

-- ---- trees of one leaf

pub one_leaf : (hash : List ℕ) → root (hash ∷ []) ≡ hash
unfolding root root_within
one_leaf hash = refl

pub one_id : (hash : List ℕ) → block_root (hash ∷ []) ≡ hash
unfolding block_root block_root_within
one_id hash = refl

long_hmac : (key message : List ℕ) → length (hmac_sha256 key message) ≡ 32
long_hmac key message = length-sha256 (masked 0x5c (filled key) ++ sha256 (masked 0x36 (filled key) ++ message))

module _ (r : OneRound) where
  pub is_round : commit r ≡ round_commitment r.key r.second (r.ticket ∷ [])
  is_round = ap (commitment r.key r.second) (sym (one_leaf (leaf r.ticket)))

  pub is_block : (anchor r).root ≡ block_root (double_sha256 (transaction r) ∷ [])
  is_block = sym (one_id (double_sha256 (transaction r)))

  long_mac : length (mac r.key (signed r.second (leaf r.ticket))) ≡ 8
  long_mac = length-take-le 8 (hmac_sha256 r.key (signed r.second (leaf r.ticket))) (omega (arith, long_hmac r.key (signed r.second (leaf r.ticket))))

  pub long_commit : length (commit r) ≡ 44
  long_commit = omega (arith, long_mac, length-sha256 (r.ticket.leaf ++ r.ticket.nonce), length-append (leaf r.ticket) (mac r.key (signed r.second (leaf r.ticket))))

  tip_fits : FitsTip (tip r)
  tip_fits = record { first = omega arith; count = omega arith; root = length-sha256 (commit r) }

  pub least_here : least (commit r) (commit r ∷ []) ≡ Some 0
  least_here = ap (λ (b : Bool). cond b (Some 0) (option_map (λ i. suc i) (least (commit r) []))) ((bytes_eq-Decides (commit r) (commit r)).1 refl)

  module _ (fits : Fits r) where
    anchor_fits : FitsAnchor (anchor r)
    anchor_fits = record {
      first = omega arith;
      count = omega arith;
      height = fits.height;
      root = length-sha256 (sha256 (transaction r));
      message = fits.message;
      steps = omega arith;
      hashes = tt;
    }

    pub are_these : records_of (entries r) ≡ closed r ++ later r
    are_these = rw (record_read (TipRecord (tip r)) tip_fits, record_read (AnchorRecord (anchor r)) anchor_fits) refl

    follows_tip : FollowsTip (closed r) (tip r)
    follows_tip = record { begins = refl; some = omega arith; ends = refl }

    follows_anchor : FollowsAnchor (closed r ++ TipRecord (tip r) ∷ []) (anchor r)
    follows_anchor = record { tip = inl (refl, refl); past = omega arith }

    in_order : InOrder [] (closed r ++ later r)
    in_order = (tt, (follows_tip, (follows_anchor, tt)))

    pub in_records : InRecords (entries r)
    in_records = record {
      each = (is_record (CommitRecord (commit r)) long_commit, (is_record (TipRecord (tip r)) tip_fits, (is_record (AnchorRecord (anchor r)) anchor_fits, tt)));
      order = subst (λ (l : List Record). InOrder [] l) (sym are_these) in_order;
    }

    true_here : AreTrue (closed r ++ later r)
    true_here =
        let over : sha256 (commit r) ≡ root (sha256 (commit r) ∷ []) = sym (one_leaf (sha256 (commit r))) in
        (tt, (over, (ap (λ (h : List ℕ). double_sha256 (r.prefix ++ h ++ r.suffix)) over, tt)))

    pub in_records_with : (commitment : List ℕ) → length commitment ≡ 44 → InRecords (entries r ++ entry_of (CommitRecord commitment) ∷ [])
    in_records_with commitment long = record {
      each = all-append IsRecord (entries r) (entry_of (CommitRecord commitment) ∷ []) in_records.each (is_record (CommitRecord commitment) long, tt);
      order = subst (λ (l : List Record). InOrder [] (l ++ CommitRecord commitment ∷ [])) (sym are_these) (tt, (follows_tip, (follows_anchor, (tt, tt))));
    }

    pub are_true : AreTrue (records_of (entries r))
    are_true = subst AreTrue (sym are_these) true_here

    -- ---- its trees

    first_leads : value (first_way r) r.ticket.leaf ≡ Some (commit r)
    first_leads =
        ap (λ (m : List ℕ). value (Append r.ticket.nonce ∷ Sha256 ∷ Prepend (take 4 (commit r)) ∷ Append m ∷ []) r.ticket.leaf) (sym (mac_part r.key r.second (leaf r.ticket) (length-sha256 _)))
        ∙ way_leads r.ticket.leaf r.ticket.nonce [] r.key r.second (leaf r.ticket) fits.leaf fits.nonce (length-sha256 _) refl

    pub is_given : Gives (closed r) r.ticket r.uri (stamped r) (receipt r)
    is_given = record {
      stands = refl;
      leads = record {
        rest = Prepend (take 4 (commit r)) ∷ Append (mac r.key (signed r.second (leaf r.ticket))) ∷ [];
        tree_is = refl;
        leads = first_leads;
        few = omega arith;
      };
    }

    second_here : way_in (commit r ∷ []) 0 (anchor r) ≡ second_way r
    unfolding complete_path complete_way path path_within
    second_here = refl

    pub is_answered : answer (records_of (entries r)) (commit r) ≡ Complete (completed r)
    is_answered = ap (λ (l : List Record). answer l (commit r)) are_these ∙ ap (answer_of (closed r ++ later r)) least_here
        ∙ ap (λ (ops : List Op). Complete (pre (lone ops (Bitcoin r.height)))) second_here

    pub are_few : length (commits_of (records_of (entries r))) ≡ 1
    are_few = ap (λ (l : List Record). length (commits_of l)) are_these

    pub is_cycle : IsCycle (records_of (entries r)) r.ticket.leaf r.uri (commit r) (stamped r) (completed r)
    is_cycle = whole_cycle (entries r) (closed r) r.ticket r.uri (stamped r) (completed r) (receipt r) in_records are_true
        (omega (arith, are_few)) is_given is_answered

pub some_fits : (digest : List ℕ) → length digest ≤ 64 → Fits (some_round digest)
some_fits digest few = record { leaf = few; nonce = refl; height = omega arith; message = omega arith }

pub some_uri : (digest : List ℕ) → IsUri (some_round digest).uri
some_uri digest = record { greatest = omega arith; each = (refl, (refl, (refl, (refl, (refl, (refl, (refl, (refl, tt)))))))) }

root_few : (targets : List Target) → length (root (leaves targets)) ≤ 64
unfolding root root_within
root_few [] = omega arith
root_few (t ∷ targets) = omega (arith, length_root (leaves (t ∷ targets)) (are_hashes (t ∷ targets)) (omega arith))

pub over_fits : (targets : List Target) → Fits (over targets)
over_fits targets = some_fits (root (leaves targets)) (root_few targets)

pub files_cycle : (targets : List Target) → IsCycle (records_of (entries (over targets))) (root (leaves targets)) (over targets).uri (commit (over targets)) (stamped (over targets)) (completed (over targets))
files_cycle targets = is_cycle (over targets) (over_fits targets)
