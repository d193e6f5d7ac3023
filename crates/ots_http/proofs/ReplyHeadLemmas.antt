-- Heads of replies in what came of a link.
use Rattle.std.proofs.Common.{◌≡◌, ◌⊎◌, ◌-◌, ◌<◌, ◌≤◌, ℕ, Bool, false, List, [], ◌∷◌, ◌++◌, length, take, drop, get_or, refl, sym, ap, subst, ◌∙◌, arith, append_assoc, length-append, inl, inr}
use Rattle.std.proofs.lemmas.List.{take-append-drop, drop_at}
use Rattle.std.specs.List.{flat_map}
use Rattle.httparse.specs.Ascii.{line_feed, space}
use Rattle.httparse.specs.Grammar.{ResponseHead, print_response, print_blank, print_version, print_reason, print_end, print_field, print_section, ReadsResponse, HasNoResponse}
use Rattle.httparse.specs.Spans.{ResponseOverflows}
use Rattle.httparse.proofs.GrammarLemmas.{print_response-append}
use Rattle.ots_http.specs.Head.{HasNoReplyHead}
use Rattle.ots_http.specs.HeadRead.{IsUndecided}
use Rattle.ots_http.specs.LineEnds.{IsEndByte, IsBlank, HasNoLineFeed}
use Rattle.ots_http.specs.declared.limits.TheConstants.{MAX_FIELDS}
use Rattle.ots_http.proofs.HeadLemmas.{ends_in_line_feed, ends_before, text_in_prefix, at_drop}

-- a head has bytes
reply_some : (h : ResponseHead) (rest : List ℕ) → 0 < length (print_response h ++ rest)
reply_some h rest = rw (print_response-append h rest) (simp length-append (omega arith))

-- nothing is no head
pub no_reply_in_nothing : HasNoResponse []
no_reply_in_nothing h rest reads = omega (arith, ap length reads.1, reply_some h rest)

-- a head in what came of an input, where so much came
reply_in_prefix : (came rest body : List ℕ) (h : ResponseHead) → ReadsResponse (came ++ rest) h body → length (print_response h) ≤ length came
    → (more : List ℕ) × ReadsResponse came h more
reply_in_prefix came rest body h reads short =
    (take (length came - length (print_response h)) body, (reads.0, text_in_prefix came rest body (print_response h) reads.1 short))

-- ---- bytes in which no head ends

reply_ends : (h : ResponseHead) → (prefix : List ℕ) × (print_response h ≡ prefix ++ line_feed ∷ [])
unfolding print_response
reply_ends h =
    let line = print_blank h.blank ++ print_version h.minor ++ space ∷ h.digits ++ print_reason h.reason ++ print_end h.line_end in
    let fields = flat_map print_field h.fields in
    let end = ends_in_line_feed (line ++ fields) h.last in
    (end.0, sym (append_assoc line fields (print_end h.last)) ∙ end.1)

pub no_reply_without_line : (old new : List ℕ) → HasNoResponse old → HasNoLineFeed new → HasNoResponse (old ++ new)
no_reply_without_line old new none no_end = λ h rest reads.
    let e = reply_ends h in
    let within : length (print_response h) ≤ length old = rw e.1 (ends_before old new e.0 rest (reads.1 ∙ ap (λ (z : List ℕ). z ++ rest) e.1) no_end) in
    let prefix = reply_in_prefix old new rest h reads within in
    none h prefix.0 prefix.1

no_end_in_version : IsEndByte 72 → ⊥
no_end_in_version (inl is) = cc
no_end_in_version (inr is) = cc

pub no_reply_in_blank : (came : List ℕ) → IsBlank came → HasNoResponse came
no_reply_in_blank came blank = λ h rest reads.
    let tail = space ∷ (h.digits ++ (print_reason h.reason ++ (print_end h.line_end ++ (print_section h.fields h.last ++ rest)))) in
    let after = length (print_blank h.blank) in
    let whole : came ≡ print_blank h.blank ++ (print_version h.minor ++ tail) = reads.1 ∙ print_response-append h rest in
    let there : drop after came ≡ print_version h.minor ++ tail = ap (drop after) whole ∙ drop_at (print_blank h.blank) (print_version h.minor ++ tail) after refl in
    let first : get_or came after 0 ≡ 72 = at_drop after came ∙ ap (λ (z : List ℕ). get_or z 0 0) there in
    no_end_in_version
    (subst IsEndByte first (blank after 0 (omega (arith, ap length whole, length-append (print_blank h.blank) (print_version h.minor ++ tail), length-append (print_version h.minor) tail))))

-- no head ends in new bytes that end no line, or before one has begun
pub no_reply_yet : (came : List ℕ) (before : ℕ) (begun : Bool) → HasNoResponse (take before came) → (begun ≡ false → IsBlank came)
    → (begun ≡ false) ⊎ HasNoLineFeed (drop before came) → HasNoResponse came
no_reply_yet came before begun none blank (inl is) = no_reply_in_blank came (blank is)
no_reply_yet came before begun none blank (inr no_end) =
    subst HasNoResponse (take-append-drop before came)
    (no_reply_without_line (take before came) (drop before came) none no_end)

-- ---- inputs that begin with no head

pub reply_undecided : (came : List ℕ) → HasNoResponse came → IsUndecided HasNoResponse HasNoReplyHead came
reply_undecided came none = record {
  none_yet = none;
  at_end = λ h body head. none h body head.reads;
  full = λ full more h body head. let short : length (print_response h) ≤ length came = omega (arith, full, head.limits.short) in
      let prefix = reply_in_prefix came more body h head.reads short in none h prefix.0 prefix.1;
}

-- whatever follows, there is no head of so few fields
pub reply_never : (n : ℕ) (came : List ℕ) → n ≡ MAX_FIELDS → ResponseOverflows n came → (more : List ℕ) → HasNoReplyHead (came ++ more)
reply_never n came is over more h body head = omega (arith, is, over more h body head.reads, head.limits.few)
