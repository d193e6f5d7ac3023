-- A text is one sheet at most.
use Rattle.std.proofs.Common.{◌≡◌, ◌<◌, ◌^◌, ℕ, zero, suc, List, [], ◌∷◌, ◌++◌, length, map, drop, get_or, refl, sym, ap, subst, ◌∙◌, arith, append_assoc, lit<, length-append}
use Rattle.std.specs.Prelude.{codes, decimal}
use Rattle.std.specs.List.{AllByRecursion}
use Rattle.std.specs.Str.Parse.{digits_value}
use Rattle.std.proofs.lemmas.Fmt.{decimal_digit, decimal_injective, decimal_is_IsNumeral}
use Rattle.hex.specs.Hex.{encode_lower, lower_digits}
use Rattle.hex.proofs.HexLemmas.{length-encode_with}
use Rattle.ots_calendar_url.proofs.Bytes.{Above, above_decimal, above_url}
use Rattle.sha2.specs.Sha256.{sha256}
use Rattle.ots_sheet.specs.declared.request.Kind.{Kind}
use Rattle.ots_sheet.specs.declared.request.Kind.TheVariants.{Get, Post}
use Rattle.ots_sheet.specs.Request.{IsRequest, RequestParts, blank, kind_word, request_line}
use Rattle.ots_sheet.specs.Reply.{Answer, IsAnswer, IsReply, ReplyParts, Body, Status, Nothing, body_text, code_text, reply_line, reply_words}
use Rattle.ots_sheet.specs.Sheet.{FitsSheet, IsReplies, IsRequests, lines_text, reply_lines, reply_sheet, request_sheet, sheet, sum_line}
use Rattle.ots_sheet.proofs.Words.{HasNo, above_hex, above_kind, above_none, none_in_both, none_in_hex, same_bytes, same_until}
use Rattle.ots_sheet.proofs.Lines.{lines_append, same_lines}

-- ---- a request

pub kind_same : (j k : Kind) → kind_word j ≡ kind_word k → j ≡ k
kind_same Get Get same = refl
kind_same Get Post same = absurd (let clash = ap (λ (z : List ℕ). get_or z 0 0) same in omega (arith, clash))
kind_same Post Get same = absurd (let clash = ap (λ (z : List ℕ). get_or z 0 0) same in omega (arith, clash))
kind_same Post Post same = refl

pub no_blank : (bytes : List ℕ) → Above bytes → HasNo 32 bytes
no_blank bytes above = above_none 32 bytes (omega arith) above

no_feed : (bytes : List ℕ) → Above bytes → HasNo 10 bytes
no_feed bytes above = above_none 10 bytes (omega arith) above

-- the words of a line of a request with more after it
pub spread : (a : RequestParts) (x : List ℕ) → request_line a ++ blank ∷ x ≡ kind_word a.kind ++ blank ∷ (a.url ++ blank ∷ (encode_lower a.message ++ blank ∷ x))
spread a x =
    append_assoc (kind_word a.kind) (blank ∷ (a.url ++ blank ∷ encode_lower a.message)) (blank ∷ x)
    ∙ ap (λ (z : List ℕ). kind_word a.kind ++ blank ∷ z) (append_assoc a.url (blank ∷ encode_lower a.message) (blank ∷ x))

pub same_requests : (a b : RequestParts) (x y : List ℕ) → IsRequest a → IsRequest b → request_line a ++ blank ∷ x ≡ request_line b ++ blank ∷ y
    → (a ≡ b) × (x ≡ y)
same_requests a b x y p q same =
    let one = same_until 32 (kind_word a.kind) (kind_word b.kind) (a.url ++ blank ∷ (encode_lower a.message ++ blank ∷ x)) (b.url ++ blank ∷ (encode_lower b.message ++ blank ∷ y))
    (no_blank (kind_word a.kind) (above_kind a.kind)) (no_blank (kind_word b.kind) (above_kind b.kind)) (sym (spread a x) ∙ same ∙ spread b y) in
    let two = same_until 32 a.url b.url (encode_lower a.message ++ blank ∷ x) (encode_lower b.message ++ blank ∷ y)
    (no_blank a.url (above_url a.url p.scheme p.url)) (no_blank b.url (above_url b.url q.scheme q.url)) one.1 in
    let three = same_until 32 (encode_lower a.message) (encode_lower b.message) x y (no_blank (encode_lower a.message) (above_hex a.message p.bytes))
    (no_blank (encode_lower b.message) (above_hex b.message q.bytes)) two.1 in
    let kind = kind_same a.kind b.kind one.0 in
    let message = same_bytes a.message b.message p.bytes q.bytes three.0 in
    ((λ i. record { kind = kind i; url = two.0 i; message = message i }), three.1)

pub same_request : (a b : RequestParts) → IsRequest a → IsRequest b → request_line a ≡ request_line b → a ≡ b
same_request a b p q same = (same_requests a b [] [] p q (ap (λ (z : List ℕ). z ++ blank ∷ []) same)).0

pub request_no_feed : (a : RequestParts) → IsRequest a → HasNo 10 (request_line a)
request_no_feed a p =
    none_in_both 10 (kind_word a.kind) (blank ∷ (a.url ++ blank ∷ encode_lower a.message)) (no_feed (kind_word a.kind) (above_kind a.kind)) (
      (λ is. absurd (omega (arith, is))),
      none_in_both 10 a.url (blank ∷ encode_lower a.message) (no_feed a.url (above_url a.url p.scheme p.url)) ((λ is. absurd (omega (arith, is))), none_in_hex a.message),
    )

-- ---- a reply

hex_no_dash : (bytes : List ℕ) → encode_lower bytes ≡ codes "-" → ⊥
hex_no_dash bytes same = absurd (omega (arith, ap length same, length-encode_with lower_digits bytes))

pub status_some : (c : ℕ) → IsReply (Status c) → decimal c ≡ codes "000" → ⊥
status_some c is same =
    let most = is.1 in
    let least = is.0 in
    let value = (decimal_is_IsNumeral c (omega (arith, most))).1 in
    let none : digits_value 10 (decimal c) ≡ 0 = ap (digits_value 10) same in
    absurd (omega (arith, least, value, none))

pub above_code : (r : ReplyParts) → IsReply r → Above (code_text r)
above_code (Body bytes) is = (lit< tt, (lit< tt, (lit< tt, tt)))
above_code (Status c) is = let least = is.0 in let most = is.1 in above_decimal c (omega (arith, least)) (omega (arith, most))
above_code Nothing is = (lit< tt, (lit< tt, (lit< tt, tt)))

pub same_replies : (r s : ReplyParts) → IsReply r → IsReply s → code_text r ≡ code_text s → body_text r ≡ body_text s → r ≡ s
same_replies (Body a) (Body b) p q codes bodies = ap Body (same_bytes a b p.2 q.2 bodies)
same_replies (Body a) (Status c) p q codes bodies = absurd (hex_no_dash a bodies)
same_replies (Body a) Nothing p q codes bodies = absurd (hex_no_dash a bodies)
same_replies (Status c) (Body b) p q codes bodies = absurd (hex_no_dash b (sym bodies))
same_replies (Status c) (Status d) p q codes bodies = let most = p.1 in let high = q.1 in ap Status (decimal_injective c d (omega (arith, most)) (omega (arith, high)) codes)
same_replies (Status c) Nothing p q codes bodies = absurd (status_some c p codes)
same_replies Nothing (Body b) p q codes bodies = absurd (hex_no_dash b (sym bodies))
same_replies Nothing (Status d) p q codes bodies = absurd (status_some d q (sym codes))
same_replies Nothing Nothing p q codes bodies = refl

pub same_answer : (a b : Answer) → IsAnswer a → IsAnswer b → reply_line a ≡ reply_line b → a ≡ b
same_answer a b p q same =
    let requests = same_requests a.request b.request (reply_words a.reply) (reply_words b.reply) p.0 q.0 same in
    let replies = same_until 32 (code_text a.reply) (code_text b.reply) (body_text a.reply) (body_text b.reply)
    (no_blank (code_text a.reply) (above_code a.reply p.1)) (no_blank (code_text b.reply) (above_code b.reply q.1)) requests.1 in
    let reply = same_replies a.reply b.reply p.1 q.1 replies.0 replies.1 in
    λ i. record { request = requests.0 i; reply = reply i }

body_no_feed : (r : ReplyParts) → HasNo 10 (body_text r)
body_no_feed (Body bytes) = none_in_hex bytes
body_no_feed (Status c) = ((λ is. absurd (omega (arith, is))), tt)
body_no_feed Nothing = ((λ is. absurd (omega (arith, is))), tt)

pub answer_no_feed : (a : Answer) → IsAnswer a → HasNo 10 (reply_line a)
answer_no_feed a p =
    none_in_both 10 (request_line a.request) (blank ∷ reply_words a.reply) (request_no_feed a.request p.0) (
      (λ is. absurd (omega (arith, is))),
      none_in_both 10 (code_text a.reply) (blank ∷ body_text a.reply) (no_feed (code_text a.reply) (above_code a.reply p.1))
          ((λ is. absurd (omega (arith, is))), body_no_feed a.reply),
    )

-- ---- the sum

decimal_no_feed : (n : ℕ) → n < 2 ^ 64 → HasNo 10 (decimal n)
decimal_no_feed zero fits = subst (HasNo 10) (sym (decimal_digit 0 (lit< tt))) ((λ is. absurd (omega (arith, is))), tt)
decimal_no_feed (suc n) fits = no_feed (decimal (suc n)) (above_decimal (suc n) (omega arith) fits)

pub sum_no_feed : (lines : List (List ℕ)) → length lines < 2 ^ 64 → HasNo 10 (sum_line lines)
sum_no_feed lines fits =
    none_in_both 10 (codes "sum ") (decimal (length lines) ++ blank ∷ encode_lower (sha256 (lines_text lines)))
    ((λ is. absurd (omega (arith, is))), ((λ is. absurd (omega (arith, is))), ((λ is. absurd (omega (arith, is))), ((λ is. absurd (omega (arith, is))), tt))))
    (none_in_both 10 (decimal (length lines)) (blank ∷ encode_lower (sha256 (lines_text lines))) (decimal_no_feed (length lines) fits)
    ((λ is. absurd (omega (arith, is))), none_in_hex (sha256 (lines_text lines))))

-- a sheet is its lines, and the sum is one of them
pub all_lines : (lines : List (List ℕ)) → sheet lines ≡ lines_text (lines ++ sum_line lines ∷ [])
all_lines lines = sym (lines_append lines (sum_line lines ∷ []))

pub few_lines : (lines : List (List ℕ)) → FitsSheet lines → length lines < 2 ^ 64
few_lines lines fits = let few = fits.few in omega (arith, few, length-append lines (sum_line lines ∷ []))

-- ---- all of it

all_more : {A : Type 0} (P : A → Type 0) (xs : List A) (x : A) → AllByRecursion P xs → P x → AllByRecursion P (xs ++ x ∷ [])
all_more P [] x all is = (is, tt)
all_more P (y ∷ xs) x all is = (all.0, all_more P xs x all.1 is)

but_last : {A : Type 0} (xs ys : List A) (x y : A) → xs ++ x ∷ [] ≡ ys ++ y ∷ [] → xs ≡ ys
but_last [] [] x y same = refl
but_last [] (z ∷ ys) x y same = absurd (omega (arith, ap length same, length-append ys (y ∷ [])))
but_last (z ∷ xs) [] x y same = absurd (omega (arith, ap length same, length-append xs (x ∷ [])))
but_last (z ∷ xs) (w ∷ ys) x y same =
    let first : z ≡ w = ap (λ l. get_or l 0 z) same in let rest = but_last xs ys x y (ap (drop 1) same) in λ i. first i ∷ rest i

lines_same : (xs ys : List (List ℕ)) → FitsSheet xs → FitsSheet ys → AllByRecursion (HasNo 10) xs → AllByRecursion (HasNo 10) ys
    → sheet xs ≡ sheet ys → xs ≡ ys
lines_same xs ys f g p q same =
    but_last xs ys (sum_line xs) (sum_line ys)
    (same_lines (xs ++ sum_line xs ∷ []) (ys ++ sum_line ys ∷ []) (all_more (HasNo 10) xs (sum_line xs) p (sum_no_feed xs (few_lines xs f)))
    (all_more (HasNo 10) ys (sum_line ys) q (sum_no_feed ys (few_lines ys g))) (sym (all_lines xs) ∙ same ∙ all_lines ys))

module _ {A : Type 0} (line : A → List ℕ) (P : A → Type 0) where
  pub none_of : ((a : A) → P a → HasNo 10 (line a)) → (xs : List A) → AllByRecursion P xs → AllByRecursion (HasNo 10) (map line xs)
  none_of none [] all = tt
  none_of none (x ∷ xs) all = (none x all.0, none_of none xs all.1)

  pub same_of : ((a b : A) → P a → P b → line a ≡ line b → a ≡ b) → (xs ys : List A) → AllByRecursion P xs → AllByRecursion P ys → map line xs ≡ map line ys → xs ≡ ys
  same_of one [] [] p q same = refl
  same_of one [] (y ∷ ys) p q same = absurd cc
  same_of one (x ∷ xs) [] p q same = absurd cc
  same_of one (x ∷ xs) (y ∷ ys) p q same =
      let first = one x y p.0 q.0 (ap (λ (z : List (List ℕ)). get_or z 0 []) same) in
      let rest = same_of one xs ys p.1 q.1 (ap (drop 1) same) in λ i. first i ∷ rest i

pub one_requests : (xs ys : List RequestParts) → IsRequests xs → IsRequests ys → request_sheet xs ≡ request_sheet ys → xs ≡ ys
one_requests xs ys p q same =
    same_of request_line IsRequest same_request xs ys p.each q.each
    (lines_same (map request_line xs) (map request_line ys) p.fits q.fits (none_of request_line IsRequest request_no_feed xs p.each)
    (none_of request_line IsRequest request_no_feed ys q.each) same)

pub one_replies : (xs ys : List Answer) → IsReplies xs → IsReplies ys → reply_sheet xs ≡ reply_sheet ys → xs ≡ ys
one_replies xs ys p q same =
    same_of reply_line IsAnswer same_answer xs ys p.good.each q.good.each
    (lines_same (reply_lines xs) (reply_lines ys) p.fits q.fits (none_of reply_line IsAnswer answer_no_feed xs p.good.each)
    (none_of reply_line IsAnswer answer_no_feed ys q.good.each) same)
