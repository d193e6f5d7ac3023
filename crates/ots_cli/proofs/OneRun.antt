-- By the words, what is under the names, and the nonces and replies to come a run ends in one way.
use Rattle.std.proofs.Common.{◌≡◌, ◌≢◌, ◌≤◌, ℕ, zero, suc, List, [], ◌∷◌, ◌++◌, map, length, take, drop, get_or, Option, Some, None, IfSome, refl, sym, ap, subst, ◌∙◌, arith}
use Rattle.std.proofs.lemmas.List.{drop_at, length-map, take_at}
use Rattle.ots_address.proofs.OneLemmas.{one_list}
use Rattle.ots_address.specs.Address.{AddressParts}
use Rattle.ots_asking.specs.Conversation.{Converse, Question}
use Rattle.ots_asking.specs.Outcome.{IsOutcomeOf}
use Rattle.ots_asking.specs.declared.outcome.Outcome.{Outcome}
use Rattle.ots_asking.specs.declared.outcome.Outcome.TheVariants.{Unreachable}
use Rattle.ots_base.specs.Cause.{Rose}
use Rattle.ots_cli.proofs.FewFiles.{FewFiles, few_files}
use Rattle.ots_cli.proofs.OneAnswer.{one_answer}
use Rattle.ots_cli.proofs.OneHearing.{heard_once}
use Rattle.ots_cli.proofs.Shapes.{AreShaped, stamp_shaped, upgrade_shaped}
use Rattle.ots_cli.specs.Answer.{Answers}
use Rattle.ots_cli.specs.RunsFrom.{RunsFrom}
use Rattle.ots_client_endings.proofs.OneInput.{one_under}
use Rattle.ots_client_endings.specs.Ending.{Ending}
use Rattle.ots_client_endings.specs.Outside.{Draws, DrawsOrFails, Happens, Outside}
use Rattle.ots_client_endings.specs.Reading.{is_bad, is_given, is_list, is_refused}
use Rattle.ots_client_words.specs.Words.{ClientCommand, Stamping, Upgrading, info, canon, merge, prune, verify, stamp, upgrade, sample, chain}
use Rattle.ots_client_words.specs.Words.{command_of}
use Rattle.ots_client_words.specs.declared.limits.TheConstants.{MAX_STAMPED}
use Rattle.ots_completing.proofs.OneAnswer.{upgrades}
use Rattle.ots_completing.specs.Upgrade.{Completes, UpgradesFile}
use Rattle.ots_detached.proofs.BothWays.{one_file}
use Rattle.ots_detached.specs.File.{IsFileOf}
use Rattle.ots_merkle.specs.CalendarTree.{root}
use Rattle.ots_ops.specs.Hashed.{hashed}
use Rattle.ots_ops.specs.declared.hash_op.HashOp.TheVariants.{Sha256}
use Rattle.ots_outside.specs.Dialer.{DialerTold}
use Rattle.ots_outside.specs.Shelf.{Names}
use Rattle.ots_outside.specs.Streams.{Gives}
use Rattle.ots_reader.specs.OneAnswer.{IsShape}
use Rattle.ots_stamp.specs.Stamped.{leaves}
use Rattle.ots_stamp.specs.Stamping.{to_stamp}
use Rattle.ots_stamp.specs.Ways.{IsDepth}
use Rattle.ots_stamp.specs.declared.target.Target.{Target}
use Rattle.ots_stamping.proofs.OneAnswer.{stamps}
use Rattle.ots_stamping.specs.Hashing.{AreHashed, are_hashed, one_refused}
use Rattle.ots_stamping.specs.Stamp.{AreStampTargets, Stamps, StampsFiles, no_nonce, stamped, too_few}
use Rattle.ots_tree.specs.declared.detached.Detached.{Detached}
use Rattle.ots_upgrade.proofs.OneList.{one_list as one_pairs}
use Rattle.ots_upgrade.specs.Upgrading.{questions}

-- ---- nonces are drawn of the bytes to come

-- so many times 16 of these bytes
abbrev sixteens : ℕ → List ℕ → List (List ℕ)
sixteens zero bytes = []
sixteens (suc n) bytes = take 16 bytes ∷ sixteens n (drop 16 bytes)

given : (x bytes : List ℕ) (left : Option (List ℕ)) → length x ≡ 16 → Gives (Some bytes) left x → (x ≡ take 16 bytes) × (left ≡ Some (drop 16 bytes))
given x bytes None long h = absurd h
given x bytes (Some rest) long is =
    (sym (ap (take 16) is ∙ take_at x rest 16 long), ap (λ (z : List ℕ). Some z) (sym (ap (drop 16) is ∙ drop_at x rest 16 long)))

drawn_are : {N : Type 0} (left : N → Option (List ℕ)) (xs : List (List ℕ)) (bytes : List ℕ) (old new : N) → left old ≡ Some bytes → Draws left xs old new
    → xs ≡ sixteens (length xs) bytes
drawn_are left [] bytes old new held h = refl
drawn_are left (x ∷ xs) bytes old new held (mid, gives, long, rest) =
    let (first, still) = given x bytes (left mid) long (subst (λ (z : Option (List ℕ)). Gives z (left mid) x) held gives) in
    let others = drawn_are left xs (drop 16 bytes) mid new still rest in
    λ i. first i ∷ others i

-- Where no call fails, all are drawn.
all_drawn : {N : Type 0} (left : N → Option (List ℕ)) (faults : N → ℕ) (o : Outside) (old new : N) → (Rose (faults old) (faults new) → ⊥) → DrawsOrFails left faults o.nonces old new
    → o.nonces ≡ None → ⊥
all_drawn left faults o old new none h is = none (subst (λ (z : Option (List (List ℕ))). DrawsOrFails left faults z old new) is h)

-- ---- what `stamp` asks is determined

same_leaves : (xs ys : List Target) → map (λ (t : Target). t.digest) xs ≡ map (λ (t : Target). t.digest) ys → map (λ (t : Target). t.nonce) xs ≡ map (λ (t : Target). t.nonce) ys
    → leaves xs ≡ leaves ys
same_leaves [] [] digests nonces = refl
same_leaves [] (y ∷ ys) digests nonces = absurd cc
same_leaves (x ∷ xs) [] digests nonces = absurd cc
same_leaves (x ∷ xs) (y ∷ ys) digests nonces =
    let digest : x.digest ≡ y.digest = ap (λ (z : List (List ℕ)). get_or z 0 []) digests in
    let nonce : x.nonce ≡ y.nonce = ap (λ (z : List (List ℕ)). get_or z 0 []) nonces in
    let rest = same_leaves xs ys (ap (drop 1) digests) (ap (drop 1) nonces) in
    λ i. hashed Sha256 (digest i ++ nonce i) ∷ rest i

one_depth : (ls : List (List ℕ)) (d e : ℕ) → IsDepth ls d → IsDepth ls e → d ≡ e
one_depth ls d e f g =
    let low = g.most f.longest.0 f.longest.1 in
    let is = f.longest.2 in
    let high = f.most g.longest.0 g.longest.1 in
    let also = g.longest.2 in
    omega (arith, low, is, high, also)

one_digest_each : (names : Option Names) (files ds : List (List ℕ)) → AreHashed names files ds → length ds ≡ length files
one_digest_each names [] [] h = refl
one_digest_each names [] (d ∷ ds) h = absurd h
one_digest_each names (f ∷ files) [] h = absurd h
one_digest_each names (f ∷ files) (d ∷ ds) h = let rest = one_digest_each names files ds h.1 in omega (arith, rest)

one_hash : (names : Names) (files ds es : List (List ℕ)) → AreHashed (Some names) files ds → AreHashed (Some names) files es → ds ≡ es
one_hash names [] [] [] f g = refl
one_hash names [] [] (e ∷ es) f g = absurd g
one_hash names [] (d ∷ ds) es f g = absurd f
one_hash names (n ∷ files) [] es f g = absurd f
one_hash names (n ∷ files) (d ∷ ds) [] f g = absurd g
one_hash names (n ∷ files) (d ∷ ds) (e ∷ es) f g =
    let (b, at, is) = f.0 in
    let (c, there, also) = g.0 in
    let first : d ≡ e = is.1 ∙ ap (hashed Sha256) (one_under names n b c at there) ∙ sym also.1 in
    let rest = one_hash names files ds es f.1 g.1 in
    λ i. first i ∷ rest i

targets_of : (o : Outside) (least : ℕ) (files : List (List ℕ)) (calendars : List AddressParts) (ds : List (List ℕ)) (e : Ending) → (o.nonces ≡ None → ⊥)
    → Stamps o least files calendars ds e → (ts : List Target) × AreStampTargets o calendars ds ts
targets_of o least files calendars ds e drawn (no_nonce none asked is) = absurd (drawn none)
targets_of o least files calendars ds e drawn (too_few ts are few is) = (ts, are)
targets_of o least files calendars ds e drawn (stamped ts are enough is) = (ts, are)

-- ---- two runs

module _ {D N : Type 0} (told : D → DialerTold) (faults : D → ℕ) (left : N → Option (List ℕ)) (draw_faults : N → ℕ)
    (one_outcome : (n k : ℕ) (reply : List ℕ) (a b : Outcome) → IsShape n k → IsOutcomeOf n k reply a → IsOutcomeOf n k reply b → a ≢ Unreachable → b ≢ Unreachable → a ≡ b)
    (names : Names) (replies : List (List ℕ)) (bytes : List ℕ) (old new other last : D) (before now again later : N)
    (r : RunsFrom told faults left draw_faults replies bytes old new before now) (s : RunsFrom told faults left draw_faults replies bytes other last again later) where
  abbrev One : Outside → Type 0
  One = Happens told faults left draw_faults old new before now

  abbrev Another : Outside → Type 0
  Another = Happens told faults left draw_faults other last again later

  same_nonces : (xs ys : List (List ℕ)) → length xs ≡ length ys → Draws left xs before now → Draws left ys again later → xs ≡ ys
  same_nonces xs ys count f g = drawn_are left xs bytes before now r.bytes_are f ∙ ap (λ (n : ℕ). sixteens n bytes) count ∙ sym (drawn_are left ys bytes again later s.bytes_are g)

  same_outcomes : (o p : Outside) → o.questions ≡ p.questions → AreShaped o.questions → One o → Another p → o.outcomes ≡ p.outcomes
  same_outcomes o p same shaped h k =
      heard_once told faults one_outcome o.questions old other new last o.outcomes p.outcomes replies shaped
      (record { sent = r.sent; sent_is = r.sent_is; replies_are = r.replies_are }) (record { sent = s.sent; sent_is = s.sent_is; replies_are = s.replies_are })
      r.heard s.heard h.heard (subst (λ (z : List Question). Converse told faults z other last p.outcomes) (sym same) k.heard)

  -- ---- `stamp`

  same_outside : (o p : Outside) (calendars : List AddressParts) (ds : List (List ℕ)) (ts us : List Target) → length ds ≤ MAX_STAMPED → One o → Another p
      → AreStampTargets o calendars ds ts → AreStampTargets p calendars ds us → o ≡ p
  same_outside o p calendars ds ts us few h k f g =
      let digests : map (λ (t : Target). t.digest) ts ≡ map (λ (t : Target). t.digest) us = f.digests_are ∙ sym g.digests_are in
      let count : length ts ≡ length ds = sym (length-map ts (λ (t : Target). t.digest)) ∙ ap length f.digests_are in
      let also : length us ≡ length ds = sym (length-map us (λ (t : Target). t.digest)) ∙ ap length g.digests_are in
      let nonces : map (λ (t : Target). t.nonce) ts ≡ map (λ (t : Target). t.nonce) us =
      same_nonces (map (λ (t : Target). t.nonce) ts) (map (λ (t : Target). t.nonce) us)
      (length-map ts (λ (t : Target). t.nonce) ∙ count ∙ sym also ∙ sym (length-map us (λ (t : Target). t.nonce)))
      (subst (λ (z : Option (List (List ℕ))). DrawsOrFails left draw_faults z before now) f.nonces_are h.drawn)
      (subst (λ (z : Option (List (List ℕ))). DrawsOrFails left draw_faults z again later) g.nonces_are k.drawn) in
      let ways : leaves ts ≡ leaves us = same_leaves ts us digests nonces in
      let depth : f.depth ≡ g.depth = one_depth (leaves us) f.depth g.depth (subst (λ (z : List (List ℕ)). IsDepth z f.depth) ways f.depth_is) g.depth_is in
      let asked : o.questions ≡ p.questions = f.questions_are ∙ (λ i. map (to_stamp (root (ways i)) (depth i)) calendars) ∙ sym g.questions_are in
      let shaped : AreShaped o.questions = subst AreShaped (sym f.questions_are) (stamp_shaped calendars ts f.depth (omega (arith, count, few)) f.depth_is) in
      let heard = same_outcomes o p asked shaped h k in
      let drawn : o.nonces ≡ p.nonces = f.nonces_are ∙ ap (λ (z : List (List ℕ)). Some z) nonces ∙ sym g.nonces_are in
      λ i. record { nonces = drawn i; questions = asked i; outcomes = heard i }

  -- Where neither list nor file is refused, what happened outside is the same; else it does not count.
  one_stamp : (w : Stamping) (o p : Outside) (d e : Ending) → length w.files ≤ MAX_STAMPED → One o → Another p
      → StampsFiles o (Some names) w d → StampsFiles p (Some names) w e → d ≡ e
  one_stamp w o p d e few h k (is_bad place https bad is) g = stamps p names w d e (is_bad place https bad is) g
  one_stamp w o p d e few h k (is_list cs list (one_refused x)) g = stamps p names w d e (is_list cs list (one_refused x)) g
  one_stamp w o p d e few h k (is_list cs list (are_hashed ds all f)) (is_bad place https bad is) =
      stamps o names w d e (is_list cs list (are_hashed ds all f)) (is_bad place https bad is)
  one_stamp w o p d e few h k (is_list cs list (are_hashed ds all f)) (is_list bs also (one_refused x)) =
      stamps o names w d e (is_list cs list (are_hashed ds all f)) (is_list bs also (one_refused x))
  one_stamp w o p d e few h k (is_list cs list (are_hashed ds all f)) (is_list bs also (are_hashed es each g)) =
      let calendars : bs ≡ cs = one_list w.calendars bs cs also list in
      let digests : es ≡ ds = one_hash names w.files es ds each all in
      let f' = targets_of o w.least w.files cs ds d (all_drawn left draw_faults o before now r.drawn h.drawn) f in
      let g' = targets_of p w.least w.files bs es e (all_drawn left draw_faults p again later s.drawn k.drawn) g in
      let same : o ≡ p =
      same_outside o p cs ds f'.0 g'.0 (let count = one_digest_each (Some names) w.files ds all in omega (arith, count, few)) h k f'.1
      (subst (λ (z : List (List ℕ)). AreStampTargets p cs z g'.0) digests (subst (λ (z : List AddressParts). AreStampTargets p z es g'.0) calendars g'.1)) in
      stamps p names w d e (subst (λ (z : Outside). StampsFiles z (Some names) w d) same (is_list cs list (are_hashed ds all f))) (is_list bs also (are_hashed es each g))

  -- ---- `upgrade`

  same_completed : (o p : Outside) (calendars : List AddressParts) (bytes : List ℕ) (q : Detached) (to : List ℕ) (d e : Ending) → IsFileOf bytes q → One o → Another p
      → Completes o calendars q to d → Completes p calendars q to e → Completes p calendars q to d
  same_completed o p calendars bytes q to d e is h k (asked, made, f, writes) (asked', made', g, writes') =
      let pairs : f.pairs ≡ g.pairs = one_pairs q f.pairs g.pairs f.are g.are in
      let same : o.questions ≡ p.questions = f.questions_are ∙ ap (questions calendars) pairs ∙ sym g.questions_are in
      let shaped : AreShaped o.questions = subst AreShaped (sym f.questions_are) (upgrade_shaped calendars bytes q f.pairs is f.are) in (
        asked,
        made,
        record {
          pairs = f.pairs;
          are = f.are;
          are_asked = f.are_asked;
          questions_are = sym same ∙ f.questions_are;
          outcomes_are = sym (same_outcomes o p same shaped h k) ∙ f.outcomes_are;
          hash = f.hash;
          digest = f.digest;
          tree = f.tree;
        },
        writes,
      )

  one_upgrade : (u : Upgrading) (o p : Outside) (d e : Ending) → One o → Another p → UpgradesFile o (Some names) u d → UpgradesFile p (Some names) u e → d ≡ e
  one_upgrade u o p d e h k (is_bad place https bad is) g = upgrades p names u d e (is_bad place https bad is) g
  one_upgrade u o p d e h k (is_list cs list (is_refused x)) g = upgrades p names u d e (is_list cs list (is_refused x)) g
  one_upgrade u o p d e h k (is_list cs list (is_given q has f)) (is_bad place https bad is) =
      upgrades o names u d e (is_list cs list (is_given q has f)) (is_bad place https bad is)
  one_upgrade u o p d e h k (is_list cs list (is_given q has f)) (is_list bs also (is_refused x)) =
      upgrades o names u d e (is_list cs list (is_given q has f)) (is_list bs also (is_refused x))
  one_upgrade u o p d e h k (is_list cs list (is_given q (b, at, is) f)) (is_list bs also (is_given v (c, there, too) g)) =
      let calendars : cs ≡ bs = one_list u.calendars cs bs list also in
      let proof : q ≡ v = one_file c q v (subst (λ (z : List ℕ). IsFileOf z q) (one_under names u.proof b c at there) is) too in
      let f' : Completes o bs v u.to d =
      subst (λ (z : Detached). Completes o bs z u.to d) proof (subst (λ (z : List AddressParts). Completes o z q u.to d) calendars f) in
      upgrades p names u d e (is_list bs also (is_given v (c, there, too) (same_completed o p bs c v u.to d e too h k f' g))) (is_list bs also (is_given v (c, there, too) g))

  -- ---- each command

  one_ending : (c : Option ClientCommand) (d e : Ending) → IfSome c FewFiles → Answers One c (Some names) d → Answers Another c (Some names) e → d ≡ e
  one_ending None d e few f g = f ∙ sym g
  one_ending (Some (info name)) d e few f g = one_answer One names (Some (info name)) d e tt f g
  one_ending (Some (canon from to)) d e few f g = one_answer One names (Some (canon from to)) d e tt f g
  one_ending (Some (merge first second to)) d e few f g = one_answer One names (Some (merge first second to)) d e tt f g
  one_ending (Some (prune from to)) d e few f g = one_answer One names (Some (prune from to)) d e tt f g
  one_ending (Some (verify v)) d e few f g = one_answer One names (Some (verify v)) d e tt f g
  one_ending (Some (stamp w)) d e few (o, h, f) (p, k, g) = one_stamp w o p d e few h k f g
  one_ending (Some (upgrade u)) d e few (o, h, f) (p, k, g) = one_upgrade u o p d e h k f g
  one_ending (Some (sample n)) d e few f g = one_answer One names (Some (sample n)) d e tt f g
  one_ending (Some (chain x)) d e few f g = one_answer One names (Some (chain x)) d e tt f g

  pub one_run : (words : List (List ℕ)) (d e : Ending) → Answers One (command_of words) (Some names) d → Answers Another (command_of words) (Some names) e → d ≡ e
  one_run words d e = one_ending (command_of words) d e (few_files words)
