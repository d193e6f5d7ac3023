-- Heads of requests in what came of a link.
use Rattle.std.proofs.Common.{◌≡◌, ◌⊎◌, ◌-◌, ◌<◌, ◌≤◌, ℕ, Bool, false, List, [], ◌∷◌, ◌++◌, length, take, drop, get_or, refl, sym, ap, subst, ◌∙◌, arith, append_assoc, length-append, inl, inr, IsTrue}
use Rattle.std.proofs.lemmas.List.{take-append-drop, drop_at, get_or_append_left}
use Rattle.std.specs.List.{flat_map}
use Rattle.httparse.specs.Ascii.{line_feed, space}
use Rattle.httparse.specs.Grammar.{RequestHead, print_request, print_blank, print_version, print_end, print_field, print_section, is_token_byte, IsToken, ReadsRequest, HasNoRequest}
use Rattle.httparse.specs.Spans.{RequestOverflows}
use Rattle.httparse.proofs.GrammarLemmas.{print_request-append}
use Rattle.ots_http.specs.Head.{HasNoRequestHead}
use Rattle.ots_http.specs.HeadRead.{IsUndecided}
use Rattle.ots_http.specs.LineEnds.{IsEndByte, IsBlank, HasNoLineFeed}
use Rattle.ots_http.specs.declared.limits.TheConstants.{MAX_FIELDS}
use Rattle.ots_http.proofs.HeadLemmas.{ends_in_line_feed, ends_before, text_in_prefix, at_drop}

-- a head has bytes
pub head_some : (h : RequestHead) (rest : List ℕ) → IsToken h.method → 0 < length (print_request h ++ rest)
head_some h rest method = rw (print_request-append h rest) (simp length-append (omega (arith, method.0)))

-- a head in what came of an input, where so much came
pub head_in_prefix : (came rest body : List ℕ) (h : RequestHead) → ReadsRequest (came ++ rest) h body → length (print_request h) ≤ length came
    → (more : List ℕ) × ReadsRequest came h more
head_in_prefix came rest body h reads short =
    (take (length came - length (print_request h)) body, (reads.0, text_in_prefix came rest body (print_request h) reads.1 short))

-- ---- bytes in which no head ends

request_ends : (h : RequestHead) → (prefix : List ℕ) × (print_request h ≡ prefix ++ line_feed ∷ [])
unfolding print_request
request_ends h =
    let line = print_blank h.blank ++ h.method ++ space ∷ h.target ++ space ∷ print_version h.minor ++ print_end h.line_end in
    let fields = flat_map print_field h.fields in
    let end = ends_in_line_feed (line ++ fields) h.last in
    (end.0, sym (append_assoc line fields (print_end h.last)) ∙ end.1)

pub none_without_line : (old new : List ℕ) → HasNoRequest old → HasNoLineFeed new → HasNoRequest (old ++ new)
none_without_line old new none no_end = λ h rest reads.
    let e = request_ends h in
    let within : length (print_request h) ≤ length old = rw e.1 (ends_before old new e.0 rest (reads.1 ∙ ap (λ (z : List ℕ). z ++ rest) e.1) no_end) in
    let prefix = head_in_prefix old new rest h reads within in
    none h prefix.0 prefix.1

no_end_in_token : (b : ℕ) → IsEndByte b → IsTrue (is_token_byte b) → ⊥
unfolding is_token_byte
no_end_in_token b (inl is) token = let no : IsTrue (is_token_byte 13) = subst (λ (c : ℕ). IsTrue (is_token_byte c)) is token in cc
no_end_in_token b (inr is) token = let no : IsTrue (is_token_byte 10) = subst (λ (c : ℕ). IsTrue (is_token_byte c)) is token in cc

pub none_in_blank : (came : List ℕ) → IsBlank came → HasNoRequest came
none_in_blank came blank = λ h rest reads.
    let tail = space ∷ (h.target ++ space ∷ (print_version h.minor ++ (print_end h.line_end ++ (print_section h.fields h.last ++ rest)))) in
    let after = length (print_blank h.blank) in
    let whole : came ≡ print_blank h.blank ++ (h.method ++ tail) = reads.1 ∙ print_request-append h rest in
    let there : drop after came ≡ h.method ++ tail = ap (drop after) whole ∙ drop_at (print_blank h.blank) (h.method ++ tail) after refl in
    let first : get_or came after 0 ≡ get_or h.method 0 0 = at_drop after came ∙ ap (λ (z : List ℕ). get_or z 0 0) there ∙ get_or_append_left h.method tail 0 0 reads.0.method.0 in
    no_end_in_token (get_or h.method 0 0)
    (subst IsEndByte first (blank after 0 (omega (arith, ap length whole, length-append (print_blank h.blank) (h.method ++ tail), length-append h.method tail, reads.0.method.0))))
    (reads.0.method.1 0 0 reads.0.method.0)

-- no head ends in new bytes that end no line, or before one has begun
pub none_yet : (came : List ℕ) (before : ℕ) (begun : Bool) → HasNoRequest (take before came) → (begun ≡ false → IsBlank came)
    → (begun ≡ false) ⊎ HasNoLineFeed (drop before came) → HasNoRequest came
none_yet came before begun none blank (inl is) = none_in_blank came (blank is)
none_yet came before begun none blank (inr no_end) =
    subst HasNoRequest (take-append-drop before came)
    (none_without_line (take before came) (drop before came) none no_end)

-- ---- inputs that begin with no head

pub undecided : (came : List ℕ) → HasNoRequest came → IsUndecided HasNoRequest HasNoRequestHead came
undecided came none = record {
  none_yet = none;
  at_end = λ h body head. none h body head.reads;
  full = λ full more h body head. let short : length (print_request h) ≤ length came = omega (arith, full, head.limits.short) in
      let prefix = head_in_prefix came more body h head.reads short in none h prefix.0 prefix.1;
}

-- whatever follows, there is no head of so few fields
pub never : (n : ℕ) (came : List ℕ) → n ≡ MAX_FIELDS → RequestOverflows n came → (more : List ℕ) → HasNoRequestHead (came ++ more)
never n came is over more h body head = omega (arith, is, over more h body head.reads, head.limits.few)
