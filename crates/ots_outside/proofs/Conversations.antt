-- Lemmas on conversations as links.
use Rattle.std.proofs.Common.{◌≡◌, ◌<◌, ℕ, zero, suc, List, [], ◌∷◌, ◌++◌, length, take, Option, None, Some, Result, Ok, Err, unwrap_or, refl, sym, ap, ◌∙◌, arith}
use Rattle.std.specs.Option.{option_map, option_and_then, ForSome}
use Rattle.ots_base.specs.Told.{BothTold}
use Rattle.ots_outside.specs.Link.{LinkTold, LinkTakes, LinkWrites}
use Rattle.ots_outside.specs.Dialer.{DialerTold, ReplyTold, Sent, SendsTo, SameButSent, SameButConversation, IsConversation, but_bytes, bytes_sent, conversation_told, place_sent, reply_of, with_sent}

-- ---- what was sent

bytes_sent-more : (place : ℕ) (more : List ℕ) (sent : List Sent) → place < length sent
    → bytes_sent (with_sent place more sent) place ≡ bytes_sent sent place ++ more
bytes_sent-more place more [] below = absurd (omega arith)
bytes_sent-more zero more (entry ∷ sent) below = refl
bytes_sent-more (suc place) more (entry ∷ sent) below = bytes_sent-more place more sent (omega arith)

but_bytes-more : (place : ℕ) (more : List ℕ) (sent : List Sent) → but_bytes place (with_sent place more sent) ≡ but_bytes place sent
but_bytes-more place more [] = refl
but_bytes-more zero more (entry ∷ sent) = refl
but_bytes-more (suc place) more (entry ∷ sent) = ap (λ (rest : List Sent). entry ∷ rest) (but_bytes-more place more sent)

length-with_sent : (place : ℕ) (more : List ℕ) (sent : List Sent) → length (with_sent place more sent) ≡ length sent
length-with_sent place more [] = refl
length-with_sent zero more (entry ∷ sent) = refl
length-with_sent (suc place) more (entry ∷ sent) = ap suc (length-with_sent place more sent)

-- ---- a conversation by its parts

-- What a reply and what was sent tell as a link.
abbrev link_told : Option ReplyTold → Option (List Sent) → ℕ → Option LinkTold
link_told reply sent place = option_and_then (λ reply. option_map (λ sent. record {
  left = reply.left;
  given = reply.given;
  taken = bytes_sent sent place;
}) sent) reply

-- ---- writing

took : (reply : Option ReplyTold) (old new : Option (List Sent)) (place : ℕ) (more : List ℕ) → ForSome old (λ sent. place < length sent)
    → new ≡ option_map (with_sent place more) old → BothTold (LinkTakes more) (link_told reply old place) (link_told reply new place)
took None old new place more below is = tt
took (Some reply) None new place more below is = rw is tt
took (Some reply) (Some sent) new place more below is =
    rw is (record { left = refl; given = refl; taken = bytes_sent-more place more sent (below sent refl) })

pub writes_on : {E : Type 0} (slot : ℕ) (t u : DialerTold) (result : Result ℕ E) (piece : List ℕ) → IsConversation t slot
    → SendsTo (place_sent (t.slots slot)) t u result piece → SameButSent t u
    → LinkWrites (conversation_told t slot) (conversation_told u slot) result piece
writes_on slot t u (Ok n) piece is sent same =
    rw (same.slots slot) (took (reply_of (t.slots slot)) t.sent u.sent (place_sent (t.slots slot)) (take n piece) is.entry sent)
writes_on slot t u (Err e) piece is sent same = rw (same.slots slot, sent) refl

-- A place below the length of what was sent stays so.
below_stays : (place : ℕ) (more : List ℕ) (old new : Option (List Sent)) → ForSome old (λ sent. place < length sent)
    → new ≡ option_map (with_sent place more) old → ForSome new (λ sent. place < length sent)
below_stays place more None new below is x e = let none : None ≡ Some x = sym is ∙ e in absurd (cc)
below_stays place more (Some sent) new below is x e =
    let same : length (with_sent place more sent) ≡ length x = ap (λ (o : Option (List Sent)). length (unwrap_or o [])) (sym is ∙ e) in
    omega (arith, below sent refl, length-with_sent place more sent)

pub writing_stays : {E : Type 0} (slot : ℕ) (t u : DialerTold) (result : Result ℕ E) (piece : List ℕ) → IsConversation t slot
    → SendsTo (place_sent (t.slots slot)) t u result piece → SameButSent t u → IsConversation u slot
writing_stays slot t u (Ok n) piece is sent same = record {
  is_open = rw (same.slots slot) is.is_open;
  entry = rw (same.slots slot) (below_stays (place_sent (t.slots slot)) (take n piece) t.sent u.sent is.entry sent);
}
writing_stays slot t u (Err e) piece is sent same = record {
  is_open = rw (same.slots slot) is.is_open;
  entry = rw (same.slots slot, sent) is.entry;
}

others_stay : (place : ℕ) (more : List ℕ) (old new : Option (List Sent)) → new ≡ option_map (with_sent place more) old
    → option_map (but_bytes place) new ≡ option_map (but_bytes place) old
others_stay place more None new is = rw is refl
others_stay place more (Some sent) new is = rw is (ap Some (but_bytes-more place more sent))

pub writes_only_there : {E : Type 0} (slot : ℕ) (t u : DialerTold) (result : Result ℕ E) (piece : List ℕ)
    → SendsTo (place_sent (t.slots slot)) t u result piece → SameButSent t u → SameButConversation slot t u
writes_only_there slot t u (Ok n) piece sent same = record {
  replies = same.replies;
  sent = others_stay (place_sent (t.slots slot)) (take n piece) t.sent u.sent sent;
  entry = ap place_sent (same.slots slot);
  others = λ k other. same.slots k;
}
writes_only_there slot t u (Err e) piece sent same = record {
  replies = same.replies;
  sent = ap (option_map (but_bytes (place_sent (t.slots slot)))) sent;
  entry = ap place_sent (same.slots slot);
  others = λ k other. same.slots k;
}
