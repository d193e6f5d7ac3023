-- Bytes that are gathered for a sink.
use Rattle.std.proofs.Common.{◌≡◌, ℕ, ◌+◌, ◌<◌, ◌≤◌, List, [], ◌∷◌, ◌++◌, length, get_or, take, drop, Option, sym, ap, subst, ◌∙◌, append_assoc}
use Rattle.std.proofs.Math.Seq.{take-append-add, take-append_seam}
use Rattle.std.proofs.lemmas.List.{append-nil, take-append-drop, take-append-le, take_all, take_more, length-take-le}
use Rattle.std.proofs.lemmas.List.Concat.{flat_map-append}
use Rattle.ots_tree.specs.declared.token.Token.{Token}
use Rattle.ots_tree.specs.Wire.{spell, spelled}
use Rattle.ots_outside.specs.Streams.{Takes, TakesPrefix}
use Rattle.ots_outside.specs.Buffered.{Buffered}
use Rattle.ots_outside.proofs.Buffers.{all_written, prefix_written, held_more, moved_on}

-- ---- in a buffer

-- what was written at the start of a chunk of a larger buffer
pub prefix_of_chunk : (s made after rest : List ℕ) (n : ℕ) → made ≡ s ++ after → n ≡ length s → take n (made ++ rest) ≡ s
prefix_of_chunk s made after rest n is long =
    ap (λ (z : ℕ). take z (made ++ rest)) long
    ∙ ap (λ (z : List ℕ). take (length s) (z ++ rest)) is
    ∙ ap (take (length s)) (append_assoc s after rest)
    ∙ take-append_seam s (after ++ rest)

-- after the filled part
pub filled_more : (buffer out rest s : List ℕ) (filled n : ℕ) → filled ≤ length buffer → n ≤ length out → take n out ≡ s
    → take (filled + n) (take filled buffer ++ (out ++ rest)) ≡ take filled buffer ++ s
filled_more buffer out rest s filled n in_range few is =
    ap (λ (z : ℕ). take (z + n) (take filled buffer ++ (out ++ rest))) (sym (length-take-le filled buffer in_range))
    ∙ take-append-add (take filled buffer) (out ++ rest) n
    ∙ ap (λ (z : List ℕ). take filled buffer ++ z) (take-append-le n out rest few ∙ is)

-- ---- over the tokens

pub token_gathered : (a b c : Option (List ℕ)) (tokens : List Token) (i : ℕ) (x : Token) (held left now : List ℕ)
    → i < length tokens → x ≡ get_or tokens i x → now ≡ left ++ spell x
    → Buffered a b (spelled (take i tokens)) held → Buffered b c held left → Buffered a c (spelled (take (i + 1) tokens)) now
token_gathered a b c tokens i x held left now in_range is grown p q =
    let one_more : spelled (take (i + 1) tokens) ≡ spelled (take i tokens) ++ spell x =
    ap spelled (take_more tokens i x in_range)
    ∙ flat_map-append spell (take i tokens) (get_or tokens i x ∷ [])
    ∙ ap (λ (z : List ℕ). spelled (take i tokens) ++ z) (append-nil (spell (get_or tokens i x)) ∙ ap spell (sym is)) in
    subst (λ (z : List ℕ). Buffered a c z now) (sym one_more)
    (subst (Buffered a c (spelled (take i tokens) ++ spell x)) (sym grown)
    (held_more a c (spelled (take i tokens)) left (spell x) (moved_on a b c (spelled (take i tokens)) held left p q)))

pub prefix_of_tokens : (a b c : Option (List ℕ)) (tokens : List Token) (i : ℕ) (held : List ℕ)
    → Buffered a b (spelled (take i tokens)) held → TakesPrefix b c held → TakesPrefix a c (spelled tokens)
prefix_of_tokens a b c tokens i held p q =
    let whole : spelled (take i tokens) ++ spelled (drop i tokens) ≡ spelled tokens =
    sym (flat_map-append spell (take i tokens) (drop i tokens)) ∙ ap spelled (take-append-drop i tokens) in
    subst (TakesPrefix a c) whole (prefix_written a b c (spelled (take i tokens)) held (spelled (drop i tokens)) p q)

pub all_of_tokens : (a b c : Option (List ℕ)) (tokens : List Token) (i : ℕ) (held : List ℕ) → length tokens ≤ i
    → Buffered a b (spelled (take i tokens)) held → Takes b c held → Takes a c (spelled tokens)
all_of_tokens a b c tokens i held over p q =
    subst (Takes a c) (ap spelled (take_all i tokens over)) (all_written a b c (spelled (take i tokens)) held p q)
