-- The tree that is given for a request.
use Rattle.std.proofs.Common.{◌≡◌, ◌<◌, ℕ, zero, suc, List, [], ◌∷◌, length, Option, None, Some, refl, sym, subst, ◌∙◌, arith}
use Rattle.std.specs.List.{slice_get}
use Rattle.std.specs.Prelude.{Err, IfOk, Ok, Result}
use Rattle.ots_archive_taken.proofs.OneTaken.{one_reply}
use Rattle.ots_archive_taken.specs.Given.{GivesTree, IsTreeFor}
use Rattle.ots_archive_taken.specs.inner.Giving.{IsRequestOf, IsTreeGiven, IsTreeOf, IsWhole}
use Rattle.ots_asking.specs.Outcome.{IsOutcomeOfBody}
use Rattle.ots_asking.specs.declared.outcome.Outcome.TheVariants.{Tree}
use Rattle.ots_pending.specs.Pairs.{PairAt}
use Rattle.ots_replies.specs.Replies.{HasReply}
use Rattle.ots_sheet.specs.Reply.{Answer, Body, Nothing, ReplyParts, Status}
use Rattle.ots_sheet.specs.Request.{RequestParts}
use Rattle.ots_sheet.specs.Sheet.{AreAnswers}
use Rattle.ots_sheet.specs.declared.request.Kind.{Kind}
use Rattle.ots_tree.specs.declared.token.Token.{Token}

pub if_ok : {T E : Type 0} (P Q : T → Type 0) (r : Result T E) → ((x : T) → P x → Q x) → IfOk r P → IfOk r Q
if_ok P Q (Ok x) f is = f x is
if_ok P Q (Err e) f is = tt

-- the element at a place
pub there : {X : Type 0} (xs : List X) (i : ℕ) → i < length xs → (x : X) × (slice_get xs i ≡ Some x)
there [] i less = absurd (omega arith)
there (x ∷ xs) zero less = (x, refl)
there (x ∷ xs) (suc i) less = there xs i (omega arith)

-- ---- by the reply

given_body : (answers : List Answer) → AreAnswers answers → (r : RequestParts) (depth : ℕ) (body : List ℕ) → HasReply answers r (Body body) → (tree : Option (List Token))
    → IsWhole (length r.message) depth body tree → IsTreeGiven answers r depth tree
given_body answers ok r depth body has None none = λ tree gives.
    let replies = one_reply answers ok r (Body gives.body) (Body body) gives.reply has in
    let same : gives.body ≡ body = cc in
    none tree (subst (λ (b : List ℕ). IsOutcomeOfBody (length r.message) depth b (Tree tree)) same gives.whole)
given_body answers ok r depth body has (Some tree) whole = record { body = body; reply = has; whole = whole }

no_body : (answers : List Answer) → AreAnswers answers → (r : RequestParts) (depth : ℕ) (reply : ReplyParts) → HasReply answers r reply → ((body : List ℕ) → Body body ≡ reply → ⊥)
    → (tree : Option (List Token)) → tree ≡ None → IsTreeGiven answers r depth tree
no_body answers ok r depth reply has other None none = λ tree gives. other gives.body (one_reply answers ok r (Body gives.body) reply gives.reply has)
no_body answers ok r depth reply has other (Some tree) none = absurd cc

given_reply : (answers : List Answer) → AreAnswers answers → (r : RequestParts) (depth : ℕ) (reply : ReplyParts) → HasReply answers r reply → (tree : Option (List Token))
    → IsTreeOf (length r.message) depth reply tree → IsTreeGiven answers r depth tree
given_reply answers ok r depth (Body body) has tree is = given_body answers ok r depth body has tree is
given_reply answers ok r depth (Status code) has tree is = no_body answers ok r depth (Status code) has (λ body e. cc) tree is
given_reply answers ok r depth Nothing has tree is = no_body answers ok r depth Nothing has (λ body e. cc) tree is

pub given_by : {E : Type 0} (answers : List Answer) → AreAnswers answers → (r : RequestParts) (depth : ℕ) (reply : ReplyParts) → HasReply answers r reply
    → (result : Result (Option (List Token)) E) → IfOk result (IsTreeOf (length r.message) depth reply) → IfOk result (IsTreeGiven answers r depth)
given_by answers ok r depth reply has result is =
    if_ok (IsTreeOf (length r.message) depth reply) (IsTreeGiven answers r depth) result (given_reply answers ok r depth reply has) is

-- ---- for a pair

pub for_pair : (answers : List Answer) (kind : Kind) (p : PairAt) (q : RequestParts) (depth : ℕ) → depth ≡ p.depth → IsRequestOf kind p (Some q) → (tree : Option (List Token))
    → IsTreeGiven answers q depth tree → IsTreeFor answers kind p tree
for_pair answers kind p q depth deep is None none = λ r tree asked gives.
    none tree (subst (λ (n : ℕ). GivesTree answers q n tree) (sym deep) (subst (λ (z : RequestParts). GivesTree answers z p.depth tree) (is.1 r asked) gives))
for_pair answers kind p q depth deep is (Some tree) gives = (q, is.0, subst (λ (n : ℕ). GivesTree answers q n tree) deep gives)

-- the pair at this place is asked for by this URI and this message
pub pair_there : (pairs : List PairAt) (i : ℕ) (uri text message bytes : List ℕ) → ((p : PairAt) → slice_get pairs i ≡ Some p → uri ≡ p.pair.uri)
    → ((p : PairAt) → slice_get pairs i ≡ Some p → message ≡ p.pair.message) → text ≡ uri → bytes ≡ message → (p : PairAt) → slice_get pairs i ≡ Some p
    → p.pair ≡ record { uri = text; message = bytes }
pair_there pairs i uri text message bytes uris messages text_is bytes_are p at =
    let u : p.pair.uri ≡ text = sym (text_is ∙ uris p at) in
    let m : p.pair.message ≡ bytes = sym (bytes_are ∙ messages p at) in
    λ j. record { uri = u j; message = m j }
