-- What is answered of a commitment, when records are added; and where the whole way leads.
use Rattle.std.proofs.Common.{◌≡◌, ℕ, zero, suc, ◌+◌, ◌-◌, ◌*◌, ◌^◌, ◌<◌, ◌≤◌, Bool, true, false, cond, List, [], ◌∷◌, ◌++◌, length, take, drop, get_or, refl, sym, ap, subst, ◌∙◌, arith, length-append, length-drop}
use Rattle.std.proofs.lemmas.List.{get_or-take, get_or-drop, length-take-le, length-map}
use Rattle.std.proofs.lemmas.Slice.Eq.{bytes_eq-Decides}
use Rattle.std.specs.Prelude.{Option, Some, None, find, slice_get, option_and_then}
use Rattle.std.specs.List.{AllByRecursion}
use Rattle.std.specs.Option.{option_map}
use Rattle.std.specs.Str.{bytes_eq}
use Rattle.sha2.specs.Sha256.{sha256}
use Rattle.sha2.proofs.Facts256.{length-sha256}
use Rattle.ots_anchor.specs.Path.{hashed, before, after, twice, climb, complete_path, complete_way}
use Rattle.ots_anchor.proofs.Paths.{leads}
use Rattle.ots_journal.specs.declared.entry.Entry.{Entry}
use Rattle.ots_merkle.specs.Hashes.{AreHashes}
use Rattle.ots_merkle.specs.CalendarTree.{path}
use Rattle.ots_merkle.specs.declared.branch.Side.{Side}
use Rattle.ots_merkle.proofs.PathLaws.{path_leads, path_short}
use Rattle.ots_ops.specs.Apply.{apply}
use Rattle.ots_ops.specs.Value.{value}
use Rattle.ots_ops.specs.declared.op.Op.{Op}
use Rattle.ots_ops.specs.declared.op.Op.TheVariants.{Append, Sha256}
use Rattle.ots_round.specs.Round.{leaf, leaves, round_commitment, round_way}
use Rattle.ots_round.specs.declared.ticket.Receipt.{Receipt}
use Rattle.ots_round.specs.declared.ticket.Ticket.{Ticket}
use Rattle.ots_round.proofs.Leading.{leads_in_round}
use Rattle.ots_store.specs.declared.anchor.Anchor.{Anchor}
use Rattle.ots_store.specs.Index.{least}
use Rattle.ots_store.specs.Order.{anchors_of, commits_of, covers, records_of, InOrder}
use Rattle.ots_store.specs.Records.{Record, FitsAnchor, record_of}
use Rattle.ots_store.specs.Store.{InRecords}
use Rattle.ots_store.proofs.Ordered.{commits_append, anchors_append, orderly}
use Rattle.ots_attest.specs.declared.attestation.Attestation.TheVariants.{Bitcoin}
use Rattle.ots_tree.specs.Made.{lone}
use Rattle.ots_tree.specs.Wire.{pre}
use Rattle.ots_tree.specs.declared.token.Token.{Token}
use Rattle.ots_calendar.specs.declared.answer.Answer.TheVariants.{Complete, Pending}
use Rattle.ots_calendar.specs.Answer.{answer, answer_of, answer_at, way_in}
use Rattle.ots_calendar.specs.Book.{Gives}
use Rattle.ots_calendar.specs.Cycle.{IsCycle}
use Rattle.ots_calendar.specs.Values.{span, IsTrueAnchor, AreTrue}
use Rattle.ots_calendar.proofs.Asked.{EndsBy, all_end, all_fit, found_has, covering, all_long, IsLong}
use Rattle.ots_kept_trees.proofs.Leaves.{span_more}
use Rattle.ots_calendar.proofs.Truths.{anchors_true}

-- ---- more records

least_step : (b : Bool) (o o' : Option ℕ) (i : ℕ) → ((j : ℕ) → o ≡ Some j → o' ≡ Some j) → cond b (Some 0) (option_map (λ n. suc n) o) ≡ Some i → cond b (Some 0) (option_map (λ n. suc n) o') ≡ Some i
least_step true o o' i rest is = is
least_step false None o' i rest is = absurd (cc)
least_step false (Some j) o' i rest is = ap (option_map (λ n. suc n)) (rest j refl) ∙ is

least_left : (c : List ℕ) (xs ys : List (List ℕ)) (i : ℕ) → least c xs ≡ Some i → least c (xs ++ ys) ≡ Some i
least_left c [] ys i is = absurd (cc)
least_left c (x ∷ xs) ys i is = least_step (bytes_eq x c) (least c xs) (least c (xs ++ ys)) i (least_left c xs ys) is

find_step : (b : Bool) (x : Anchor) (o o' : Option Anchor) (a : Anchor) → (o ≡ Some a → o' ≡ Some a) → cond b (Some x) o ≡ Some a → cond b (Some x) o' ≡ Some a
find_step true x o o' a rest is = is
find_step false x o o' a rest is = rest is

find_left : (p : Anchor → Bool) (xs ys : List Anchor) (a : Anchor) → find p xs ≡ Some a → find p (xs ++ ys) ≡ Some a
find_left p [] ys a is = absurd (cc)
find_left p (x ∷ xs) ys a is = find_step (p x) x (find p xs) (find p (xs ++ ys)) a (find_left p xs ys a) is

none_step : (b : Bool) (x : Anchor) (o o' o'' : Option Anchor) → (o ≡ None → o' ≡ o'') → cond b (Some x) o ≡ None → cond b (Some x) o' ≡ o''
none_step true x o o' o'' rest is = absurd (cc)
none_step false x o o' o'' rest is = rest is

find_right : (p : Anchor → Bool) (xs ys : List Anchor) → find p xs ≡ None → find p (xs ++ ys) ≡ find p ys
find_right p [] ys is = refl
find_right p (x ∷ xs) ys is = none_step (p x) x (find p xs) (find p (xs ++ ys)) (find p ys) (find_right p xs ys) is

module _ (records more : List Record) (c : List ℕ) where
  stays_at : (i : ℕ) (o : Option Anchor) (tree : List Token) → InOrder [] records → least c (commits_of records) ≡ Some i → find (covers i) (anchors_of records) ≡ o → answer_at (commits_of records) i o ≡ Complete tree
      → answer (records ++ more) c ≡ Complete tree
  stays_at i None tree order at found is = absurd (cc)
  stays_at i (Some a) tree order at found is =
      let o = orderly records order in
      let commits : commits_of (records ++ more) ≡ commits_of records ++ commits_of more = commits_append records more in
      let anchors : anchors_of (records ++ more) ≡ anchors_of records ++ anchors_of more = anchors_append records more in
      let ends = found_has (EndsBy (length (commits_of records))) (covers i) (anchors_of records) a (all_end (length (commits_of records)) (anchors_of records) o.within) found in
      let least_is : least c (commits_of (records ++ more)) ≡ Some i = ap (least c) commits ∙ least_left c (commits_of records) (commits_of more) i at in
      let find_is : find (covers i) (anchors_of (records ++ more)) ≡ Some a = ap (find (covers i)) anchors ∙ find_left (covers i) (anchors_of records) (anchors_of more) a found in
      let spans : span a.first a.count (commits_of (records ++ more)) ≡ span a.first a.count (commits_of records) = ap (span a.first a.count) commits ∙ span_more a.first a.count (commits_of records) (commits_of more) ends.0 in
      ap (answer_of (records ++ more)) least_is ∙ ap (answer_at (commits_of (records ++ more)) i) find_is ∙ ap (λ (l : List (List ℕ)). Complete (pre (lone (complete_path l (i - a.first) a.prefix a.suffix a.branch) (Bitcoin a.height)))) spans ∙ is

  pending_at : (i : ℕ) (o : Option Anchor) → least c (commits_of records) ≡ Some i → find (covers i) (anchors_of records) ≡ o → answer_at (commits_of records) i o ≡ Pending
      → (j : ℕ) × (least c (commits_of records) ≡ Some j) × (answer (records ++ more) c ≡ answer_at (commits_of (records ++ more)) j (find (covers j) (anchors_of more)))
  pending_at i None at found is =
      let least_is : least c (commits_of (records ++ more)) ≡ Some i = ap (least c) (commits_append records more) ∙ least_left c (commits_of records) (commits_of more) i at in
      let find_is : find (covers i) (anchors_of (records ++ more)) ≡ find (covers i) (anchors_of more) = ap (find (covers i)) (anchors_append records more) ∙ find_right (covers i) (anchors_of records) (anchors_of more) found in
      (i, at, ap (answer_of (records ++ more)) least_is ∙ ap (answer_at (commits_of (records ++ more)) i) find_is)
  pending_at i (Some a) at found is = absurd (cc)

  stays_by : (l : Option ℕ) (tree : List Token) → InOrder [] records → least c (commits_of records) ≡ l → answer_of records l ≡ Complete tree → answer (records ++ more) c ≡ Complete tree
  stays_by None tree order at is = absurd (cc)
  stays_by (Some i) tree order at is = stays_at i (find (covers i) (anchors_of records)) tree order at refl is

  pending_by : (l : Option ℕ) → least c (commits_of records) ≡ l → answer_of records l ≡ Pending
      → (j : ℕ) × (least c (commits_of records) ≡ Some j) × (answer (records ++ more) c ≡ answer_at (commits_of (records ++ more)) j (find (covers j) (anchors_of more)))
  pending_by None at is = absurd (cc)
  pending_by (Some i) at is = pending_at i (find (covers i) (anchors_of records)) at refl is

pub complete_stays : (records more : List Record) (c : List ℕ) (tree : List Token) → InOrder [] records → answer records c ≡ Complete tree → answer (records ++ more) c ≡ Complete tree
complete_stays records more c tree order is = stays_by records more c (least c (commits_of records)) tree order refl is

pub pending_stays : (records more : List Record) (c : List ℕ) → answer records c ≡ Pending
    → (j : ℕ) × (least c (commits_of records) ≡ Some j) × (answer (records ++ more) c ≡ answer_at (commits_of (records ++ more)) j (find (covers j) (anchors_of more)))
pending_stays records more c is = pending_by records more c (least c (commits_of records)) refl is

-- ---- the whole way

value_then : (a b : List Op) (m : Option (List ℕ)) → option_and_then (value (a ++ b)) m ≡ option_and_then (value b) (option_and_then (value a) m)
value_then a b None = refl
value_then [] b (Some m) = refl
value_then (o ∷ a) b (Some m) = value_then a b (apply o m)

both_lead : (a b : List Op) (m x r : List ℕ) → value a m ≡ Some x → value b x ≡ Some r → value (a ++ b) m ≡ Some r
both_lead a b m x r one two = value_then a b (Some m) ∙ ap (option_and_then (value b)) one ∙ two

is_step : (b : Bool) (x c : List ℕ) (xs : List (List ℕ)) (o : Option ℕ) (j : ℕ) → (b ≡ true → x ≡ c) → ((i : ℕ) → o ≡ Some i → get_or xs i [] ≡ c) → cond b (Some 0) (option_map (λ n. suc n) o) ≡ Some j → get_or (x ∷ xs) j [] ≡ c
is_step true x c xs o zero here rest is = here refl
is_step true x c xs o (suc j) here rest is = absurd (cc)
is_step false x c xs None j here rest is = absurd (cc)
is_step false x c xs (Some i) zero here rest is = absurd (cc)
is_step false x c xs (Some i) (suc j) here rest is = let same : i ≡ j = cc in ap (λ (n : ℕ). get_or xs n []) (sym same) ∙ rest i refl

least_is : (c : List ℕ) (xs : List (List ℕ)) (j : ℕ) → least c xs ≡ Some j → get_or xs j [] ≡ c
least_is c [] j is = absurd (cc)
least_is c (x ∷ xs) j is = is_step (bytes_eq x c) x c xs (least c xs) j (λ same. (bytes_eq-Decides x c).0 same) (least_is c xs) is

are_hashed : (commits : List (List ℕ)) → AreHashes (hashed commits)
are_hashed [] = tt
are_hashed (c ∷ commits) = (length-sha256 c, are_hashed commits)

-- from a commitment to its anchor's root
pub commitment_leads : (entries : List Entry) (c : List ℕ) (j : ℕ) (a : Anchor) → InRecords entries → AreTrue (records_of entries) → length c ≡ 44 → least c (commits_of (records_of entries)) ≡ Some j
    → find (covers j) (anchors_of (records_of entries)) ≡ Some a → value (way_in (commits_of (records_of entries)) j a) c ≡ Some a.root
commitment_leads entries c j a are is_true long at found =
    let records : List Record = records_of entries in
    let commits : List (List ℕ) = commits_of records in
    let cov = covering entries j a are.each (orderly records are.order).within found in
    let k : ℕ = j - a.first in
    let part : List (List ℕ) = span a.first a.count commits in
    let inside : k < length part = omega (arith, cov.begins, cov.ends, cov.within, length-take-le a.count (drop a.first commits) (omega (arith, cov.within, length-drop a.first commits))) in
    let here : get_or part k [] ≡ c =
    get_or-take a.count (drop a.first commits) k [] (omega (arith, cov.begins, cov.ends)) ∙ get_or-drop a.first commits k []
    ∙ ap (λ (n : ℕ). get_or commits n []) (let e : a.first + k ≡ j = omega (arith, cov.begins) in e) ∙ least_is c commits j at in
    let up = path_leads (hashed part) k (are_hashed part) (omega (arith, length-map part sha256)) in
    let right = found_has (IsTrueAnchor commits) (covers j) (anchors_of records) a (anchors_true commits records is_true) found in
    ap (value (complete_path part k a.prefix a.suffix a.branch)) (sym here)
    ∙ leads part k a.prefix a.suffix a.branch inside (ap length here ∙ long) (omega (arith, cov.fits.message)) cov.fits.hashes up
    ∙ ap (λ (r : List ℕ). Some r) (sym right.0)

long_step : (b : Bool) (x c : List ℕ) (o : Option ℕ) (j : ℕ) → (b ≡ true → IsLong c) → ((i : ℕ) → o ≡ Some i → IsLong c) → cond b (Some 0) (option_map (λ n. suc n) o) ≡ Some j → IsLong c
long_step true x c o j here rest is = here refl
long_step false x c None j here rest is = absurd (cc)
long_step false x c (Some i) j here rest is = rest i refl

least_long : (c : List ℕ) (xs : List (List ℕ)) (j : ℕ) → AllByRecursion IsLong xs → least c xs ≡ Some j → IsLong c
least_long c [] j all is = absurd (cc)
least_long c (x ∷ xs) j all is = long_step (bytes_eq x c) x c (least c xs) j (λ same. subst IsLong ((bytes_eq-Decides x c).0 same) all.0) (λ i at. least_long c xs i all.1 at) is

pub cycle_leads : (entries : List Entry) (key : List ℕ) (second : ℕ) (tickets : List Ticket) (i : ℕ) (ticket : Ticket) (j : ℕ) (a : Anchor) → InRecords entries → AreTrue (records_of entries)
    → slice_get tickets i ≡ Some ticket → length ticket.leaf ≤ 64 → length ticket.nonce ≡ 16 → least (round_commitment key second tickets) (commits_of (records_of entries)) ≡ Some j
    → find (covers j) (anchors_of (records_of entries)) ≡ Some a → value (round_way key second tickets i ticket ++ way_in (commits_of (records_of entries)) j a) ticket.leaf ≡ Some a.root
cycle_leads entries key second tickets i ticket j a are is_true at few sixteen stored found =
    let c : List ℕ = round_commitment key second tickets in
    let long : length c ≡ 44 = least_long c (commits_of (records_of entries)) j (all_long entries are.each) stored in
    both_lead (round_way key second tickets i ticket) (way_in (commits_of (records_of entries)) j a) ticket.leaf c a.root (leads_in_round key second tickets i ticket path_leads few sixteen at)
    (commitment_leads entries c j a are is_true long stored found)

-- ---- how long it is

before_few : (bytes : List ℕ) → length (before bytes) ≤ 1
before_few [] = omega arith
before_few (b ∷ bytes) = omega arith

after_few : (bytes : List ℕ) → length (after bytes) ≤ 1
after_few [] = omega arith
after_few (b ∷ bytes) = omega arith

climb_long : (branch : List (Side × List ℕ)) → length (climb branch) ≡ 3 * length branch
climb_long [] = refl
climb_long (step ∷ branch) = omega (arith, climb_long branch)

complete_few : (commits : List (List ℕ)) (i : ℕ) (prefix suffix : List ℕ) (branch : List (Side × List ℕ)) → length commits ≤ 2 ^ 32 → length branch ≤ 32 → length (complete_path commits i prefix suffix branch) ≤ 165
unfolding complete_path complete_way
complete_few commits i prefix suffix branch few short =
    let up = path_short 32 (hashed commits) i (let n : length (hashed commits) ≤ 2 ^ 32 = omega (arith, length-map commits sha256) in n) in
    let last = before prefix ++ (after suffix ++ (twice ++ climb branch)) in
    omega (
      arith,
      up,
      length-append (path (hashed commits) i) last,
      length-append (before prefix) (after suffix ++ (twice ++ climb branch)),
      length-append (after suffix) (twice ++ climb branch),
      length-append twice (climb branch),
      before_few prefix,
      after_few suffix,
      climb_long branch,
    )

pub taken_few : {A : Type 0} (n : ℕ) (l : List A) → length (take n l) ≤ length l
taken_few zero l = omega arith
taken_few (suc n) [] = omega arith
taken_few (suc n) (x ∷ l) = omega (arith, taken_few n l)

way_long : (key : List ℕ) (second : ℕ) (tickets : List Ticket) (i : ℕ) (ticket : Ticket) → length (round_way key second tickets i ticket) ≡ length (path (leaves tickets) i) + 4
way_long key second tickets i ticket = simp length-append (omega arith)

pub cycle_few : (entries : List Entry) (key : List ℕ) (second : ℕ) (tickets : List Ticket) (i : ℕ) (ticket : Ticket) (j : ℕ) (a : Anchor) → InRecords entries → length (commits_of (records_of entries)) ≤ 2 ^ 32
    → length tickets ≤ 2 ^ 16 → find (covers j) (anchors_of (records_of entries)) ≡ Some a → length (round_way key second tickets i ticket ++ way_in (commits_of (records_of entries)) j a) ≤ 201
cycle_few entries key second tickets i ticket j a are few full found =
    let records : List Record = records_of entries in
    let commits : List (List ℕ) = commits_of records in
    let fits = found_has FitsAnchor (covers j) (anchors_of records) a (all_fit entries are.each) found in
    let part : List (List ℕ) = span a.first a.count commits in
    let part_few : length part ≤ 2 ^ 32 = omega (arith, few, taken_few a.count (drop a.first commits), length-drop a.first commits) in
    let up = path_short 16 (leaves tickets) i (let n : length (leaves tickets) ≤ 2 ^ 16 = omega (arith, length-map tickets leaf) in n) in
    let rest = complete_few part (j - a.first) a.prefix a.suffix a.branch part_few fits.0.steps in
    omega (arith, up, rest, length-append (round_way key second tickets i ticket) (way_in commits j a), way_long key second tickets i ticket)

-- ---- by the trees that are given

way_few : (entries : List Entry) (j : ℕ) (a : Anchor) → InRecords entries → length (commits_of (records_of entries)) ≤ 2 ^ 32 → find (covers j) (anchors_of (records_of entries)) ≡ Some a
    → length (way_in (commits_of (records_of entries)) j a) ≤ 165
way_few entries j a are few found =
    let records : List Record = records_of entries in
    let commits : List (List ℕ) = commits_of records in
    let fits = found_has FitsAnchor (covers j) (anchors_of records) a (all_fit entries are.each) found in
    let part : List (List ℕ) = span a.first a.count commits in
    complete_few part (j - a.first) a.prefix a.suffix a.branch (omega (arith, few, taken_few a.count (drop a.first commits), length-drop a.first commits)) fits.0.steps

module _ (entries : List Entry) (before : List Record) (ticket : Ticket) (uri : List ℕ) (stamped completed : List Token) (receipt : Receipt) (are : InRecords entries)
    (is_true : AreTrue (records_of entries)) (few : length (commits_of (records_of entries)) ≤ 2 ^ 32) (gives : Gives before ticket uri stamped receipt) where
  abbrev records : List Record
  records = records_of entries

  by_anchor : (j : ℕ) (o : Option Anchor) → least receipt.commitment (commits_of records) ≡ Some j → find (covers j) (anchors_of records) ≡ o → answer_at (commits_of records) j o ≡ Complete completed
      → IsCycle records ticket.leaf uri receipt.commitment stamped completed
  by_anchor j None at found is = absurd (cc)
  by_anchor j (Some a) at found is =
      let first : List Op = Append ticket.nonce ∷ Sha256 ∷ gives.leads.rest in
      let second : List Op = way_in (commits_of records) j a in
      let long = least_long receipt.commitment (commits_of records) j (all_long entries are.each) at in
      let short = way_few entries j a are few found in
      let rest = gives.leads.few in
      record {
        first = first;
        second = second;
        index = j;
        anchor = a;
        index_is = at;
        anchor_is = found;
        stamped_is = gives.leads.tree_is;
        completed_is = sym (cc);
        leads = both_lead first second ticket.leaf receipt.commitment a.root gives.leads.leads (commitment_leads entries receipt.commitment j a are is_true long at found);
        few = omega (arith, length-append first second, rest, short);
      }

  by_index : (l : Option ℕ) → least receipt.commitment (commits_of records) ≡ l → answer_of records l ≡ Complete completed → IsCycle records ticket.leaf uri receipt.commitment stamped completed
  by_index None at is = absurd (cc)
  by_index (Some j) at is = by_anchor j (find (covers j) (anchors_of records)) at refl is

  pub whole_cycle : answer (records_of entries) receipt.commitment ≡ Complete completed → IsCycle (records_of entries) ticket.leaf uri receipt.commitment stamped completed
  whole_cycle is = by_index (least receipt.commitment (commits_of records)) refl is

-- ---- after a crash

records_join : (xs ys : List Entry) → records_of (xs ++ ys) ≡ records_of xs ++ records_of ys
records_join [] ys = refl
records_join (x ∷ xs) ys = ap (λ (z : List Record). record_of x ∷ z) (records_join xs ys)

module _ (before flight found : List Entry) (records : List Record) (same : before ++ flight ≡ found) (are : records ≡ records_of found) where
  found_is : records ≡ records_of before ++ records_of flight
  found_is = are ∙ ap records_of (sym same) ∙ records_join before flight

  pub complete_after : (c : List ℕ) (tree : List Token) → InOrder [] (records_of before) → answer (records_of before) c ≡ Complete tree → answer records c ≡ Complete tree
  complete_after c tree order is = ap (λ (z : List Record). answer z c) found_is ∙ complete_stays (records_of before) (records_of flight) c tree order is

  pub pending_after : (c : List ℕ) → answer (records_of before) c ≡ Pending
      → (i : ℕ) × (least c (commits_of (records_of before)) ≡ Some i) × (answer records c ≡ answer_at (commits_of records) i (find (covers i) (anchors_of (records_of flight))))
  pending_after c is =
      let (i, at, answered) = pending_stays (records_of before) (records_of flight) c is in
      (i, at, subst (λ (z : List Record). answer z c ≡ answer_at (commits_of z) i (find (covers i) (anchors_of (records_of flight)))) (sym found_is) answered)
