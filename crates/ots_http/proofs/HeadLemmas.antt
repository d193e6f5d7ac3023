-- Where a head ends in what came of a link, and where there is none.
use Rattle.std.proofs.Common.{◌≡◌, ◌≢◌, ◌+◌, ◌-◌, ◌<◌, ◌≤◌, ℕ, List, [], ◌∷◌, ◌++◌, length, length-drop, take, drop, get_or, refl, sym, ap, ◌∙◌, arith, append_assoc, length-append, append-nil, subst, Option, Some, None, Result, Ok, Err, Bool, true, false, nat_eq}
use Rattle.std.proofs.Math.Seq.{take-add}
use Rattle.std.proofs.lemmas.Bool.{eqb-true, eqb-false}
use Rattle.std.proofs.lemmas.List.{length-take, take_all, take_at, drop_at, get_or-append_right, get_or-drop}
use Rattle.std.proofs.lemmas.List.Elements.{All-same}
use Rattle.httparse.specs.Ascii.{line_feed, carriage_return}
use Rattle.httparse.specs.Outcome.{OnPartial}
use Rattle.httparse.specs.declared.Status.{Status}
use Rattle.httparse.specs.declared.Status.TheVariants.{Complete, Partial}
use Rattle.httparse.specs.declared.spans.HeaderSpan.{HeaderSpan}
use Rattle.httparse.specs.Grammar.{LineEnd, crlf, lf, print_end}
use Rattle.ots_base.specs.Told.{IfTold, BothTold}
use Rattle.ots_outside.specs.Link.{LinkTold, LinkGives}
use Rattle.ots_http.specs.HeadRead.{IsHeadRead, IsUndecided, at_end}
use Rattle.ots_http.specs.declared.heads.HeadRead.{HeadRead}
use Rattle.ots_http.specs.LineEnds.{HasNoLineFeed}
use Rattle.ots_http.specs.declared.limits.TheConstants.{MAX_HEAD}

-- a text that ends in a line end ends in a line feed
pub ends_in_line_feed : (x : List ℕ) (last : LineEnd) → (prefix : List ℕ) × (x ++ print_end last ≡ prefix ++ line_feed ∷ [])
ends_in_line_feed x crlf = (x ++ carriage_return ∷ [], sym (append_assoc x (carriage_return ∷ []) (line_feed ∷ [])))
ends_in_line_feed x lf = (x, refl)

-- such a text at the start of old and new bytes, of which the new ones have no line feed, lies in the old ones
pub ends_before : (old new prefix rest : List ℕ) → old ++ new ≡ (prefix ++ line_feed ∷ []) ++ rest → HasNoLineFeed new → length (prefix ++ line_feed ∷ []) ≤ length old
ends_before old new prefix rest whole none =
    let past : length old ≤ length prefix → ⊥ = λ h.
    none (length prefix - length old) 0 (omega (arith, ap length whole, length-append old new, length-append (prefix ++ line_feed ∷ []) rest, length-append prefix (line_feed ∷ [])))
    (sym (get_or-append_right old new (length old) (length prefix) 0 refl h) ∙ ap (λ (z : List ℕ). get_or z (length prefix) 0) whole ∙ there prefix rest) in
    omega (arith, length-append prefix (line_feed ∷ []), past)
  where
    there : (prefix rest : List ℕ) → get_or ((prefix ++ line_feed ∷ []) ++ rest) (length prefix) 0 ≡ line_feed
    there [] rest = refl
    there (x ∷ prefix) rest = there prefix rest

-- a text that begins what came and more, and is no longer than what came, begins what came
pub text_in_prefix : (came rest body text : List ℕ) → came ++ rest ≡ text ++ body → length text ≤ length came → came ≡ text ++ take (length came - length text) body
text_in_prefix came rest body text whole short =
    let n = length text in
    sym (take_at came rest (length came) refl) ∙ ap (take (length came)) whole
    ∙ ap (λ (k : ℕ). take k (text ++ body)) (omega arith) ∙ prefix_and_more text body (length came - n)
  where
    prefix_and_more : (prefix body : List ℕ) (m : ℕ) → take (length prefix + m) (prefix ++ body) ≡ prefix ++ take m body
    prefix_and_more prefix body m = rw (take-add, take_at prefix body (length prefix) refl, drop_at prefix body (length prefix) refl) refl

-- what is taken of all that is left is all of it
pub no_end_left : (came : List ℕ) (before n : ℕ) → n ≡ length came - before → HasNoLineFeed (take n (drop before came)) → HasNoLineFeed (drop before came)
no_end_left came before n all =
    All-same (λ b. b ≢ line_feed) (drop before came) (take n (drop before came)) (sym (take_all n (drop before came) (omega (arith, all, length-drop before came))))

-- the byte at a place is the first of those from there on
pub at_drop : (n : ℕ) (xs : List ℕ) → get_or xs n 0 ≡ get_or (drop n xs) 0 0
at_drop n xs = ap (λ (k : ℕ). get_or xs k 0) (omega arith) ∙ sym (get_or-drop n xs 0 0)

-- ---- inputs that begin with no head

-- the link ended after what came
pub none_at_end : (none outside : List ℕ → Type 0) (a b : Option LinkTold) (came : List ℕ) → BothTold (LinkGives came) a b → IfTold b (λ link. link.left ≡ [])
    → 0 < length came → IsUndecided none outside came → IfTold a (λ link. (0 < length link.left) × outside link.left)
none_at_end none outside None b came gives ended some undecided = tt
none_at_end none outside (Some link) None came gives ended some undecided = absurd gives
none_at_end none outside (Some link) (Some later) came gives ended some undecided =
    let whole : came ≡ link.left = sym (gives.left ∙ ap (λ (z : List ℕ). came ++ z) ended ∙ append-nil came) in
    (subst (λ (z : List ℕ). 0 < length z) whole some, subst outside whole undecided.at_end)

-- MAX_HEAD bytes came
pub none_in_full : (none outside : List ℕ → Type 0) (a b : Option LinkTold) (came : List ℕ) → BothTold (LinkGives came) a b → length came ≡ MAX_HEAD
    → IsUndecided none outside came → IfTold a (λ link. (0 < length link.left) × outside link.left)
none_in_full none outside None b came gives full undecided = tt
none_in_full none outside (Some link) None came gives full undecided = absurd gives
none_in_full none outside (Some link) (Some later) came gives full undecided =
    (omega (arith, ap length gives.left, length-append came later.left), subst outside (sym gives.left) (undecided.full full later.left))

-- whatever follows
pub none_ever : (outside : List ℕ → Type 0) (a b : Option LinkTold) (came : List ℕ) → BothTold (LinkGives came) a b → 0 < length came
    → ((more : List ℕ) → outside (came ++ more)) → IfTold a (λ link. (0 < length link.left) × outside link.left)
none_ever outside None b came gives some never = tt
none_ever outside (Some link) None came gives some never = absurd gives
none_ever outside (Some link) (Some later) came gives some never =
    (omega (arith, ap length gives.left, length-append came later.left), subst outside (sym gives.left) (never later.left))

-- what the reader answers at the end of input
pub at_end_is : {H : Type 0} (covers : List ℕ → List HeaderSpan → H → Type 0) (none outside : List ℕ → Type 0) (a b : Option LinkTold) (old new : List ℕ) (k n filled : ℕ)
    (r : HeadRead H) → r ≡ at_end filled → BothTold (LinkGives (take (k + n) new)) a b → IfTold b (λ link. link.left ≡ []) → n ≡ 0 → take filled new ≡ take filled old
    → k ≡ filled → filled ≤ length old → (buffer : List ℕ) (fields : List HeaderSpan) → (0 < filled → IsUndecided none outside (take filled old))
    → IsHeadRead covers outside a b buffer fields r
at_end_is covers none outside a b old new k n filled r is gives ended nothing same at fits buffer fields undecided =
    let came : BothTold (LinkGives (take filled old)) a b =
    subst (λ (z : List ℕ). BothTold (LinkGives z) a b) (ap (λ (m : ℕ). take m new) (omega (arith, nothing, at)) ∙ same) gives in
    subst (IsHeadRead covers outside a b buffer fields) (sym is) (by_count (nat_eq filled 0) refl came)
  where
    not_zero : nat_eq filled 0 ≡ false → 0 < filled
    not_zero e = omega (arith, eqb-false filled 0 e)

    none_came : (a b : Option LinkTold) (came : List ℕ) → BothTold (LinkGives came) a b → IfTold b (λ link. link.left ≡ []) → came ≡ [] → IfTold a (λ link. link.left ≡ [])
    none_came None b came gives ended empty = tt
    none_came (Some link) None came gives ended empty = absurd gives
    none_came (Some link) (Some later) came gives ended empty = gives.left ∙ ap (λ (z : List ℕ). z ++ later.left) empty ∙ ended

    by_count : (test : Bool) → nat_eq filled 0 ≡ test → BothTold (LinkGives (take filled old)) a b → IsHeadRead covers outside a b buffer fields (at_end filled)
    by_count true e came = rw e (none_came a b (take filled old) came ended (ap (λ (m : ℕ). take m old) {x = filled} {y = 0} (eqb-true filled 0 e)))
    by_count false e came =
        rw e (none_at_end none outside a b (take filled old) came ended (omega (arith, length-take filled old, fits, not_zero e)) (undecided (not_zero e)))

-- what a partial answer means
pub on_partial_weaker : {A E P Q : Type 0} (r : Result (Status A) E) → (P → Q) → OnPartial r P → OnPartial r Q
on_partial_weaker (Ok (Complete x)) f p = tt
on_partial_weaker (Ok Partial) f p = f p
on_partial_weaker (Err e) f p = tt
