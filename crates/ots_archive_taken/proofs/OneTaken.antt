-- A proof is taken in one way.
use Rattle.std.proofs.Common.{◌≡◌, ◌<◌, ℕ, Bool, true, false, List, [], ◌∷◌, ◌++◌, length, map, get_or, Option, None, Some, refl, sym, ap, subst, ◌∙◌, arith, inl, inr}
use Rattle.std.specs.Cmp.Lexicographic.{nat_list_cmp_total, slice_cmp}
use Rattle.std.specs.List.{flat_map}
use Rattle.std.specs.Ordering.{nat_cmp}
use Rattle.std.specs.Prelude.{IsTrue, ◌↔◌, option_map}
use Rattle.std.specs.declared.cmp.Ordering.TheVariants.{Equal, Less}
use Rattle.std.proofs.lemmas.Cmp.{tied_itself}
use Rattle.std.proofs.lemmas.List.{get_or-map, length-map}
use Rattle.ots_archive_taken.specs.Given.{AreTreesFor, GivesTree, IsRequestFor, IsTreeFor, NamesUrl, good}
use Rattle.ots_archive_taken.specs.Taken.{AreStamps, IsComplete, IsTakenBy, IsTooBig, IsUpgradeBy, TakesDraft, TakesProof}
use Rattle.ots_archive_taken.specs.Taken.{few, of_draft, of_proof, same, stamps, stamps_too_big, upgrade_too_big, upgrades}
use Rattle.ots_archive_taken.specs.declared.taking.Taken.{Taken}
use Rattle.ots_asking.specs.Outcome.{IsOutcomeOfBody}
use Rattle.ots_asking.specs.declared.outcome.Outcome.TheVariants.{Tree}
use Rattle.ots_archive_taken.specs.declared.taking.Taken.TheVariants.{Same, Stamped, TooFew, Upgraded}
use Rattle.ots_canon.proofs.Lawful.{same_form}
use Rattle.ots_canon.proofs.Rising.{same_itself}
use Rattle.ots_canon.specs.Canonical.{IsCanonTree}
use Rattle.ots_canon.specs.Join.{HaveSamePaths}
use Rattle.ots_detached.proofs.BothWays.{same_detached}
use Rattle.ots_draft.proofs.OneDraft.{one_operations, one_taken as one_made}
use Rattle.ots_draft.proofs.PostUris.{one_address}
use Rattle.ots_draft.specs.Draft.{IsTaken}
use Rattle.ots_ops.specs.declared.op.Op.{Op}
use Rattle.ots_pending.specs.Completed.{IsCompleted, gained}
use Rattle.ots_pending.specs.Pairs.{PairAt}
use Rattle.ots_reader.proofs.Walk.{one_tree_at}
use Rattle.ots_replies.specs.Replies.{HasReply}
use Rattle.ots_sheet.proofs.Words.{le_or_lt}
use Rattle.ots_sheet.specs.Reply.{Answer, Body, ReplyParts, request_of}
use Rattle.ots_sheet.specs.Request.{RequestParts, request_line}
use Rattle.ots_sheet.specs.Sheet.{AreAnswers}
use Rattle.ots_sheet.specs.declared.request.Kind.{Kind}
use Rattle.ots_sheet.specs.declared.request.Kind.TheVariants.{Get, Post}
use Rattle.ots_tree.proofs.Determined.{same_pre}
use Rattle.ots_tree.specs.Wire.{Node, Path, paths, pre}
use Rattle.ots_tree.specs.declared.detached.Detached.{Detached}
use Rattle.ots_tree.specs.declared.token.Token.{Token}
use Rattle.ots_upgrade.proofs.OneList.{one_list}

-- ---- one reply

-- no request stands twice
never_twice : (answers : List Answer) → AreAnswers answers → (r : RequestParts) (a b : ReplyParts) (p : HasReply answers r a) (q : HasReply answers r b) → p.at < q.at → ⊥
never_twice answers ok r a b p q less =
    let first : get_or (map request_of answers) p.at r ≡ r = get_or-map request_of answers p.at (record { request = r; reply = a }) r p.within ∙ ap request_of (p.is (record { request = r; reply = a })) in
    let second : get_or (map request_of answers) q.at r ≡ r = get_or-map request_of answers q.at (record { request = r; reply = b }) r q.within ∙ ap request_of (q.is (record { request = r; reply = b })) in
    let before = ok.order r p.at q.at less (let within = q.within in omega (arith, within, length-map answers request_of)) in
    let itself : slice_cmp nat_cmp (request_line r) (request_line r) ≡ Less = (λ i. slice_cmp nat_cmp (request_line (sym first i)) (request_line (sym second i))) ∙ before in
    let clash : Equal ≡ Less = sym (tied_itself nat_list_cmp_total (request_line r)) ∙ itself in
    cc

pub one_reply : (answers : List Answer) → AreAnswers answers → (r : RequestParts) (a b : ReplyParts) → HasReply answers r a → HasReply answers r b → a ≡ b
one_reply answers ok r a b p q = elim (le_or_lt p.at q.at) [
  | inr above ↦ absurd (never_twice answers ok r b a q p above)
  | inl below ↦ elim (le_or_lt q.at p.at) [
    | inr above ↦ absurd (never_twice answers ok r a b p q above)
    | inl other ↦
        let same_place : p.at ≡ q.at = omega (arith, below, other) in
        let d : Answer = record { request = r; reply = a } in
        ap (λ (z : Answer). z.reply) (sym (p.is d) ∙ ap (λ (k : ℕ). get_or answers k d) same_place ∙ q.is d)
  ]
]

-- ---- one tree for a pair

one_url : (kind : Kind) (uri first second : List ℕ) → NamesUrl kind uri first → NamesUrl kind uri second → first ≡ second
one_url Get uri first second p q = p ∙ sym q
one_url Post uri first second p q = one_address uri first second p q

pub one_request : (kind : Kind) (p : PairAt) (r s : RequestParts) → IsRequestFor kind p r → IsRequestFor kind p s → r ≡ s
one_request kind p r s f g =
    let k = f.kind_is ∙ sym g.kind_is in
    let u = one_url kind p.pair.uri r.url s.url f.url g.url in
    let m = f.message ∙ sym g.message in
    λ i. record { kind = k i; url = u i; message = m i }

pub gives_once : (answers : List Answer) → AreAnswers answers → (r : RequestParts) (depth : ℕ) (t u : List Token) → GivesTree answers r depth t → GivesTree answers r depth u → t ≡ u
gives_once answers ok r depth t u f g =
    let replies = one_reply answers ok r (Body f.body) (Body g.body) f.reply g.reply in
    let bodies : f.body ≡ g.body = cc in
    (one_tree_at (length r.message) depth g.body t u _ _ (subst (λ (b : List ℕ). IsOutcomeOfBody (length r.message) depth b (Tree t)) bodies f.whole) g.whole).0

one_tree_for : (answers : List Answer) → AreAnswers answers → (kind : Kind) (p : PairAt) (s t : Option (List Token)) → IsTreeFor answers kind p s → IsTreeFor answers kind p t → s ≡ t
one_tree_for answers ok kind p None None f g = refl
one_tree_for answers ok kind p None (Some t) f g = absurd (f g.0 t g.1 g.2)
one_tree_for answers ok kind p (Some s) None f g = absurd (g f.0 s f.1 f.2)
one_tree_for answers ok kind p (Some s) (Some t) f g =
    let same_request = one_request kind p f.0 g.0 f.1 g.1 in
    ap (λ (z : List Token). Some z) (gives_once answers ok g.0 p.depth s t (subst (λ (r : RequestParts). GivesTree answers r p.depth s) same_request f.2) g.2)

pub one_trees : (answers : List Answer) → AreAnswers answers → (kind : Kind) (pairs : List PairAt) (xs ys : List (Option (List Token))) → AreTreesFor answers kind pairs xs
    → AreTreesFor answers kind pairs ys → xs ≡ ys
one_trees answers ok kind [] [] [] f g = refl
one_trees answers ok kind [] [] (y ∷ ys) f g = absurd g
one_trees answers ok kind [] (x ∷ xs) ys f g = absurd f
one_trees answers ok kind (p ∷ pairs) [] ys f g = absurd f
one_trees answers ok kind (p ∷ pairs) (x ∷ xs) [] f g = absurd g
one_trees answers ok kind (p ∷ pairs) (x ∷ xs) (y ∷ ys) f g =
    let first = one_tree_for answers ok kind p x y f.0 g.0 in
    let rest = one_trees answers ok kind pairs xs ys f.1 g.1 in λ i. first i ∷ rest i

-- ---- one proof of a draft

pub one_stamps : (answers : List Answer) → AreAnswers answers → (proof : Detached) (xs ys : List (List Token)) → AreStamps answers proof xs → AreStamps answers proof ys → xs ≡ ys
one_stamps answers ok proof xs ys f g =
    let pairs : f.pairs ≡ g.pairs = one_list proof f.pairs g.pairs f.are g.are in
    let given = one_trees answers ok Post g.pairs f.good.given g.good.given (subst (λ (ps : List PairAt). AreTreesFor answers Post ps f.good.given) pairs f.good.each) g.good.each in
    f.good.good_are ∙ ap good given ∙ sym g.good.good_are

one_stamped : (proof : Detached) (ops : List Op) (xs ys : List (List Token)) (r s : Detached) → xs ≡ ys → IsTaken proof ops xs r → IsTaken proof ops ys s → r ≡ s
one_stamped proof ops xs ys r s is f g =
    same_detached r s (f.hash ∙ sym g.hash) (f.digest ∙ sym g.digest) (one_made proof ops ys r s (subst (λ (z : List (List Token)). IsTaken proof ops z r) is f) g)

same_answer : {A : Type 0} (b c : Bool) → IsTrue b ↔ A → IsTrue c ↔ A → b ≡ c
same_answer true true f g = refl
same_answer true false f g = let no : false ≡ true = g.1 (f.0 refl) in absurd cc
same_answer false true f g = let no : false ≡ true = f.1 (g.0 refl) in absurd cc
same_answer false false f g = refl

module _ (answers : List Answer) (ok : AreAnswers answers) (proof : Detached) where
  one_of_draft : (ops : List Op) (least : ℕ) (a b : Taken) → TakesDraft answers proof ops least a → TakesDraft answers proof ops least b → a ≡ b
  one_of_draft ops least a b (few xs f less is) (few ys g less' is') = is ∙ ap (λ (z : List (List Token)). TooFew (length z)) (one_stamps answers ok proof xs ys f g) ∙ sym is'
  one_of_draft ops least a b (few xs f less is) (stamps_too_big ys s g le made big is') =
      absurd (omega (arith, less, le, ap length (one_stamps answers ok proof xs ys f g)))
  one_of_draft ops least a b (few xs f less is) (stamps ys s c g le made fits done is') =
      absurd (omega (arith, less, le, ap length (one_stamps answers ok proof xs ys f g)))
  one_of_draft ops least a b (stamps_too_big ys s g le made big is') (few xs f less is) =
      absurd (omega (arith, less, le, ap length (one_stamps answers ok proof xs ys f g)))
  one_of_draft ops least a b (stamps ys s c g le made fits done is') (few xs f less is) =
      absurd (omega (arith, less, le, ap length (one_stamps answers ok proof xs ys f g)))
  one_of_draft ops least a b (stamps_too_big xs r f le made big is) (stamps_too_big ys s g le' made' big' is') = is ∙ sym is'
  one_of_draft ops least a b (stamps_too_big xs r f le made big is) (stamps ys s c g le' made' fits done is') =
      absurd (fits (subst IsTooBig (one_stamped proof ops xs ys r s (one_stamps answers ok proof xs ys f g) made made') big))
  one_of_draft ops least a b (stamps ys s c g le' made' fits done is') (stamps_too_big xs r f le made big is) =
      absurd (fits (subst IsTooBig (one_stamped proof ops xs ys r s (one_stamps answers ok proof xs ys f g) made made') big))
  one_of_draft ops least a b (stamps xs r c f le made fits done is) (stamps ys s d g le' made' fits' done' is') =
      let same_proof = one_stamped proof ops xs ys r s (one_stamps answers ok proof xs ys f g) made made' in
      let same_end = same_answer c d (subst (λ (z : Detached). IsComplete c z) same_proof done) done' in
      is ∙ (λ i. Stamped (same_proof i) (same_end i)) ∙ sym is'

-- ---- one proof of another

same_given : (xs ys : List (Option Node)) → map (option_map pre) xs ≡ map (option_map pre) ys → xs ≡ ys
same_given [] [] is = refl
same_given [] (y ∷ ys) is = absurd cc
same_given (x ∷ xs) [] is = absurd cc
same_given (x ∷ xs) (y ∷ ys) is =
    let first = one x y cc in let rest = same_given xs ys cc in λ i. first i ∷ rest i
  where
    one : (x y : Option Node) → option_map pre x ≡ option_map pre y → x ≡ y
    one None None e = refl
    one None (Some u) e = absurd cc
    one (Some t) None e = absurd cc
    one (Some t) (Some u) e = ap (λ (z : Node). Some z) (same_pre t u cc)

pub one_completed : (proof : Detached) (pairs : List PairAt) (trees : List (Option (List Token))) (r s : List Token) → IsCompleted proof pairs trees r → IsCompleted proof pairs trees s → r ≡ s
one_completed proof pairs trees r s f g =
    let node : f.node ≡ g.node = same_pre f.node g.node (f.tree ∙ sym g.tree) in
    let given : f.given ≡ g.given = same_given f.given g.given (f.given_are ∙ sym g.given_are) in
    let all : List Path = paths g.node ++ flat_map (gained pairs g.given (Some proof.digest)) (paths g.node) in
    let is : paths f.node ++ flat_map (gained pairs f.given (Some proof.digest)) (paths f.node) ≡ all =
    λ i. paths (node i) ++ flat_map (gained pairs (given i) (Some proof.digest)) (paths (node i)) in
    same_form all all r s (same_itself all) (subst (λ (z : List Path). IsCanonTree z r) is f.form) g.form

pub one_upgrade : (answers : List Answer) → AreAnswers answers → (proof r s : Detached) → IsUpgradeBy answers proof r → IsUpgradeBy answers proof s → r ≡ s
one_upgrade answers ok proof r s f g =
    let pairs : f.pairs ≡ g.pairs = one_list proof f.pairs g.pairs f.are g.are in
    let given = one_trees answers ok Get g.pairs f.given g.given (subst (λ (ps : List PairAt). AreTreesFor answers Get ps f.given) pairs f.each) g.each in
    let first = subst (λ (ps : List PairAt). IsCompleted proof ps g.given r.tree) pairs (subst (λ (z : List (Option (List Token))). IsCompleted proof f.pairs z r.tree) given f.tree) in
    same_detached r s (f.hash ∙ sym g.hash) (f.digest ∙ sym g.digest) (one_completed proof g.pairs g.given r.tree s.tree first g.tree)

module _ (answers : List Answer) (ok : AreAnswers answers) (proof : Detached) where
  one_of_proof : (a b : Taken) → TakesProof answers proof a → TakesProof answers proof b → a ≡ b
  one_of_proof a b (upgrade_too_big r f big is) (upgrade_too_big s g big' is') = is ∙ sym is'
  one_of_proof a b (upgrade_too_big r f big is) (same s d g fits no_more done is') = absurd (fits (subst IsTooBig (one_upgrade answers ok proof r s f g) big))
  one_of_proof a b (upgrade_too_big r f big is) (upgrades s d g fits more done is') = absurd (fits (subst IsTooBig (one_upgrade answers ok proof r s f g) big))
  one_of_proof a b (same s d g fits no_more done is') (upgrade_too_big r f big is) = absurd (fits (subst IsTooBig (one_upgrade answers ok proof r s f g) big))
  one_of_proof a b (upgrades s d g fits more done is') (upgrade_too_big r f big is) = absurd (fits (subst IsTooBig (one_upgrade answers ok proof r s f g) big))
  one_of_proof a b (same r c f fits no_more done is) (same s d g fits' no_more' done' is') = is ∙ ap Same (same_answer c d done done') ∙ sym is'
  one_of_proof a b (same r c f fits no_more done is) (upgrades s d g fits' more done' is') =
      absurd (more (subst (λ (z : Detached). HaveSamePaths proof.tree z.tree) (one_upgrade answers ok proof r s f g) no_more))
  one_of_proof a b (upgrades s d g fits' more done' is') (same r c f fits no_more done is) =
      absurd (more (subst (λ (z : Detached). HaveSamePaths proof.tree z.tree) (one_upgrade answers ok proof r s f g) no_more))
  one_of_proof a b (upgrades r c f fits more done is) (upgrades s d g fits' more' done' is') =
      let same_proof = one_upgrade answers ok proof r s f g in
      let same_end = same_answer c d (subst (λ (z : Detached). IsComplete c z) same_proof done) done' in
      is ∙ (λ i. Upgraded (same_proof i) (same_end i)) ∙ sym is'

  -- ---- of both

  pub one_taken : (least : ℕ) (a b : Taken) → IsTakenBy answers proof least a → IsTakenBy answers proof least b → a ≡ b
  one_taken least a b (of_draft ops draft f) (of_draft other draft' g) =
      one_of_draft answers ok proof other least a b (subst (λ (os : List Op). TakesDraft answers proof os least a) (one_operations proof ops other draft draft') f) g
  one_taken least a b (of_draft ops draft f) (of_proof none g) = absurd (none ops draft)
  one_taken least a b (of_proof none f) (of_draft ops draft g) = absurd (none ops draft)
  one_taken least a b (of_proof none f) (of_proof none' g) = one_of_proof a b f g
