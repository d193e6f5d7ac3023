-- Following one more token.
use Rattle.std.proofs.Common.{◌≡◌, ℕ, suc, ◌+◌, ◌-◌, ◌<◌, Bool, true, false, List, [], ◌∷◌, ◌++◌, if◌then◌else◌, length, take, drop, Option, Some, None, refl, sym, ap, subst, ◌∙◌, arith}
use Rattle.std.specs.Prelude.{option_map, IsSome}
use Rattle.ots_ops.specs.Apply.{apply}
use Rattle.ots_ops.specs.declared.op.Op.{Op}
use Rattle.ots_tree.specs.declared.shape.Shape.{Shape}
use Rattle.ots_tree.specs.declared.token.Token.{Token}
use Rattle.ots_tree.specs.declared.token.Token.TheVariants as token
use Rattle.ots_tree.specs.TokenRef.{token_of}
use Rattle.ots_tree.specs.Walk.{Open, begun, next, opened, IsClosed, Met, Position, open_at, none_open, IsStep}
use Rattle.ots_tree.specs.Front.{shape_after, start}
use Rattle.ots_tree.proofs.Closing.{front_law}
use Rattle.ots_tree.proofs.Walks.{at, map_open, opened_along}
use Rattle.ots_reader.specs.declared.next.Next.{Next}
use Rattle.ots_reader.proofs.WithinPiece.{IsReadUpTo, read_more, read_whole, read_ended}
use Rattle.ots_reader.specs.Tokens.{Tokens, with_token, with_bytes, IsReading, Stands, Brings}
use Rattle.ots_headers.specs.HeaderTable.{Table}
use Rattle.ots_verdicts.specs.declared.best.Best.{Best}
use Rattle.ots_verdicts.specs.Walked.{messages_by, messages, noted, walked, nothing}
use Rattle.ots_verifier.specs.Following.{MayCome, best_in, Follows, FollowsTo, FollowsWhole, Takes}
use Rattle.ots_verifier.proofs.Valued.{valued, HasRows, rows_for, next_of, last_met}

-- ---- a token that may come

op_may : (o : Op) (r : Option (List ℕ)) (others : List (List ℕ)) (after : Open (List ℕ)) → option_map (λ z. at (z ∷ others) false) r ≡ Some after → HasRows after
    → (length others < 256) × IsSome r
op_may o None others after e h = absurd cc
op_may o (Some z) others after e h =
    let same : at (z ∷ others) false ≡ after = cc in
    let few = h.plain (ap (λ (w : Open (List ℕ)). w.forked) (sym same)) in
    (omega (arith, few, ap (λ (w : Open (List ℕ)). length w.nodes) same), refl)

may_at : (x : Token) (m : Position (List ℕ)) (forked : Bool) (after : Open (List ℕ)) → m.forked ≡ forked → next apply x (at (m.last ∷ m.others) forked) ≡ Some after → HasRows after → MayCome x m
may_at (token.Attestation a) m forked after is e h = tt
may_at (token.Op o) m forked after is e h = op_may o (apply o m.last) m.others after e h
may_at token.Fork m true after is e h = absurd cc
may_at token.Fork m false after is e h =
    let same : at (m.last ∷ m.last ∷ m.others) true ≡ after = cc in
    let few = h.most in
    (is, omega (arith, few, ap (λ (w : Open (List ℕ)). length w.nodes) same))

-- ---- what it is found to confirm

some_messages : (o : Op) (s r : List ℕ) → apply o s ≡ Some r → messages_by o (Some s) ≡ Some (Some r)
some_messages o s r e = ap Some e

walked_append : (bitcoin : Table) (litecoin : Option Table) (b : Best) (ms ns : List (Met (Option (List ℕ)))) → walked bitcoin litecoin b (ms ++ ns) ≡ walked bitcoin litecoin (walked bitcoin litecoin b ms) ns
walked_append bitcoin litecoin b [] ns = refl
walked_append bitcoin litecoin b (m ∷ ms) ns = walked_append bitcoin litecoin (noted bitcoin litecoin m.token m.carried b) ms ns

pub noted_last : (bitcoin : Table) (litecoin : Option Table) (digest : List ℕ) (came : List Token) (x : Token) (m : Position (List ℕ)) → opened apply (begun digest) came ≡ Some (open_at m)
    → best_in bitcoin litecoin digest (came ++ x ∷ []) ≡ noted bitcoin litecoin x (Some m.last) (best_in bitcoin litecoin digest came)
noted_last bitcoin litecoin digest came x m e =
    let opens : opened messages_by (begun (Some digest)) came ≡ Some (map_open Some (open_at m)) = opened_along Some apply messages_by some_messages came (begun digest) (open_at m) e in
    ap (walked bitcoin litecoin nothing) (last_met messages_by (begun (Some digest)) (map_open Some (open_at m)) came x opens)
    ∙ walked_append bitcoin litecoin nothing (messages digest came) (record { carried = Some m.last; token = x } ∷ [])

-- ---- the reader's next token

some_open : {S : Type 0} (o : Option (Open S)) → IsClosed o → (u : Open S) × (o ≡ Some u)
some_open None h = absurd h
some_open (Some u) h = (u, refl)

stands_open : (last : Bool) (old : Tokens) (piece : List ℕ) (used : ℕ) (new : Tokens) (n : ℕ) → old.shape ≡ record { length = n; depth = 0 } → new.shape ≡ old.shape → Stands last old piece used new
    → (u : Open Shape) × (opened shape_after (start n 0) new.came ≡ Some u)
stands_open false old piece used new n is same s =
    let here = same ∙ is in
    (record { nodes = s.at ∷ s.others; forked = s.forked }, subst (λ (z : Shape). opened shape_after (start z.length z.depth) new.came ≡ Some (record { nodes = s.at ∷ s.others; forked = s.forked })) here s.is_front.opens)
stands_open true old piece used new n is same s =
    let sound = subst (λ (z : Shape). IsClosed (opened shape_after (start z.length z.depth) new.came)) is ((front_law old.shape.length old.shape.depth new.came (rw is (omega arith))).1 s.is_tree.sound) in
    some_open (opened shape_after (start n 0) new.came) sound

next_brought : (digest : List ℕ) (now : Tokens) (m : Position (List ℕ)) (x : Token) (after : Open (List ℕ)) → opened apply (begun digest) now.came ≡ Some (open_at m)
    → opened apply (begun digest) (now.came ++ x ∷ []) ≡ Some after → next apply x (open_at m) ≡ Some after
next_brought digest now m x after opens is = next_of apply (begun digest) (open_at m) after now.came x opens is

pub may_come : (bitcoin : Table) (litecoin : Option Table) (digest : List ℕ) (now : Tokens) (m : Position (List ℕ)) (best : Best) (piece : List ℕ) (n : Next)
    → Follows bitcoin litecoin digest now m best → Brings now piece n → MayCome (token_of n.token) m
may_come bitcoin litecoin digest now m best piece n f b =
    let x = token_of n.token in
    let came = now.came ++ x ∷ [] in
    let o = stands_open n.last now piece n.used (with_token now x) (length digest) f.shape refl b.stands in
    let v = valued digest came o.0 o.1 in
    let is = next_brought digest now m x v.after f.opens v.is in
    may_at x m m.forked v.after refl is (rows_for digest came o.0 o.1 v)

-- ---- the tree goes on

where_going : (going : Bool) (after : Open (List ℕ)) (m : Position (List ℕ)) (k : ℕ) → after ≡ (if going then open_at m else none_open) → length after.nodes ≡ suc k → after ≡ open_at m
where_going true after m k is some = is
where_going false after m k is some = let none = ap (λ (w : Open (List ℕ)). length w.nodes) is in absurd (omega arith)

best_after : (bitcoin : Table) (litecoin : Option Table) (digest : List ℕ) (now : Tokens) (m after : Position (List ℕ)) (best better : Best) (x : Token)
    → Follows bitcoin litecoin digest now m best → Takes bitcoin litecoin x m best after better → better ≡ best_in bitcoin litecoin digest (now.came ++ x ∷ [])
best_after bitcoin litecoin digest now m after best better x f t =
    t.is_noted ∙ ap (noted bitcoin litecoin x (Some m.last)) f.is_best ∙ sym (noted_last bitcoin litecoin digest now.came x m f.opens)

reading_of : (last : Bool) (old : Tokens) (piece : List ℕ) (used : ℕ) (new : Tokens) → last ≡ false → Stands last old piece used new → IsReading new
reading_of last old piece used new e s = rw e at s

follow_on : (bitcoin : Table) (litecoin : Option Table) (digest : List ℕ) (now : Tokens) (m after : Position (List ℕ)) (best better : Best) (piece : List ℕ) (n : Next)
    → Follows bitcoin litecoin digest now m best → Brings now piece n → n.last ≡ false → Takes bitcoin litecoin (token_of n.token) m best after better
    → Follows bitcoin litecoin digest (with_token now (token_of n.token)) after better
follow_on bitcoin litecoin digest now m after best better piece n f b going t =
    let x = token_of n.token in
    let came = now.came ++ x ∷ [] in
    let reading = reading_of n.last now piece n.used (with_token now x) going b.stands in
    let u : Open Shape = record { nodes = reading.at ∷ reading.others; forked = reading.forked } in
    let opens : opened shape_after (start (length digest) 0) came ≡ Some u = subst (λ (z : Shape). opened shape_after (start z.length z.depth) came ≡ Some u) f.shape reading.is_front.opens in
    let v = valued digest came u opens in
    let is = next_brought digest now m x v.after f.opens v.is in
    record {
      shape = f.shape;
      reading = reading;
      opens = v.is ∙ ap Some (where_going t.going v.after after (length reading.others) (t.step v.after is) v.count);
      is_best = best_after bitcoin litecoin digest now m after best better x f t;
    }

-- ---- within a piece

-- so many bytes of the piece have come
pub record IsFollowed (bitcoin : Table) (litecoin : Option Table) (digest : List ℕ) (old : Tokens) (piece : List ℕ) (now : Tokens) (m : Position (List ℕ)) (best : Best) (place : ℕ) : Type 0 where
  pub read : IsReadUpTo old piece now now.came place
  pub follows : Follows bitcoin litecoin digest now m best

abbrev pub rest_of : ℕ → List ℕ → List ℕ
rest_of place piece = take (length piece - place) (drop place piece)

pub followed_more : (bitcoin : Table) (litecoin : Option Table) (digest : List ℕ) (old now new : Tokens) (m after : Position (List ℕ)) (best better : Best) (piece : List ℕ) (place : ℕ) (n : Next)
    → IsFollowed bitcoin litecoin digest old piece now m best place → Brings now (rest_of place piece) n → new ≡ with_token now (token_of n.token) → n.last ≡ false
    → Takes bitcoin litecoin (token_of n.token) m best after better → IsFollowed bitcoin litecoin digest old piece new after better (place + n.used)
followed_more bitcoin litecoin digest old now new m after best better piece place n i b is going t =
    let following = with_token now (token_of n.token) in
    rw is (record {
      read = read_more old now following piece now.came following.came place n i.read b refl going refl;
      follows = follow_on bitcoin litecoin digest now m after best better (rest_of place piece) n i.follows b going t;
    })

pub followed_whole : (bitcoin : Table) (litecoin : Option Table) (digest : List ℕ) (old now : Tokens) (m after : Position (List ℕ)) (best better : Best) (piece : List ℕ) (place : ℕ) (n : Next)
    → IsFollowed bitcoin litecoin digest old piece now m best place → Brings now (rest_of place piece) n → n.last ≡ true → Takes bitcoin litecoin (token_of n.token) m best after better
    → FollowsWhole bitcoin litecoin digest old piece (place + n.used) better
followed_whole bitcoin litecoin digest old now m after best better piece place n i b whole t =
    let came = now.came ++ token_of n.token ∷ [] in
    record {
      tokens = came;
      ends = read_ended old now piece now.came came place n i.read b whole refl;
      is_best = best_after bitcoin litecoin digest now m after best better (token_of n.token) i.follows t;
    }

pub followed_piece : (bitcoin : Table) (litecoin : Option Table) (digest : List ℕ) (old now new : Tokens) (m : Position (List ℕ)) (best : Best) (piece : List ℕ) (place : ℕ)
    → IsFollowed bitcoin litecoin digest old piece now m best place → IsReading (with_bytes now (rest_of place piece)) → new ≡ with_bytes now (rest_of place piece)
    → FollowsTo bitcoin litecoin digest old piece new m best
followed_piece bitcoin litecoin digest old now new m best piece place i k is =
    rw is (record {
      read = (read_whole old now (with_bytes now (rest_of place piece)) piece now.came place i.read k refl).0;
      follows = record { shape = i.follows.shape; reading = k; opens = i.follows.opens; is_best = i.follows.is_best };
    })

-- what is done with the token
pub taken : (bitcoin : Table) (litecoin : Option Table) (x : Token) (m : Position (List ℕ)) (best : Best) (after : Position (List ℕ)) (better : Best) (message : List ℕ) (going : Bool)
    → IsStep apply x m after going → message ≡ m.last → better ≡ noted bitcoin litecoin x (Some message) best → Takes bitcoin litecoin x m best after better
taken bitcoin litecoin x m best after better message going step is note = record { going = going; step = step; is_noted = rw (← is) note }
