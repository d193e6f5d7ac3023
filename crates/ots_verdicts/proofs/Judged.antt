-- What a walk finds is the verdict.
use Rattle.std.proofs.Common.{◌≡◌, ℕ, zero, suc, ◌<◌, ◌≤◌, inl, inr, Bool, true, false, cond, List, [], ◌∷◌, ◌++◌, map, length, get_or, Option, Some, None, refl, sym, ap, subst, ◌∙◌, arith}
use Rattle.std.specs.Prelude.{option_and_then, option_map, bytes_eq, MatchOption}
use Rattle.std.specs.List.{Contains}
use Rattle.std.proofs.lemmas.Slice.Eq.{bytes_eq-Decides}
use Rattle.ots_attest.specs.declared.attestation.Attestation.{Attestation}
use Rattle.ots_attest.specs.declared.attestation.Attestation.TheVariants as attestation
use Rattle.ots_tree.specs.declared.token.Token.{Token}
use Rattle.ots_tree.specs.declared.token.Token.TheVariants as token
use Rattle.ots_tree.specs.declared.detached.Detached.{Detached}
use Rattle.ots_tree.specs.Wire.{Node, pre, Path, paths}
use Rattle.ots_tree.specs.Walk.{Met}
use Rattle.ots_tree.proofs.Determined.{same_pre}
use Rattle.ots_headers.specs.declared.header.Header.{Header}
use Rattle.ots_headers.specs.HeaderTable.{Table, header_at, root_at, time_at}
use Rattle.ots_verdicts.specs.declared.verdicts.Chain.{Chain}
use Rattle.ots_verdicts.specs.declared.verdicts.Chain.TheVariants as chain
use Rattle.ots_verdicts.specs.declared.verdicts.Verdict.{Verdict}
use Rattle.ots_verdicts.specs.declared.best.Best.{Best}
use Rattle.ots_verdicts.specs.declared.best.Found.{Found}
use Rattle.ots_ops.specs.Value.{value}
use Rattle.ots_verdicts.specs.Confirmed.{attests, Confirms, NoneConfirmed, IsLeastConfirmed, NoneConfirmedIn, IsLeastConfirmedIn, IsVerdict}
use Rattle.ots_verdicts.specs.Walked.{messages, found_in, found_at, lesser, noted, walked, nothing, verdict_of, verdict_of_found}
use Rattle.ots_verdicts.proofs.Least.{SomeEnd, IsLeast, least, least_is}
use Rattle.ots_verdicts.proofs.PathValues.{End, end_at, ends, end_from, all_ends}

-- ---- what an end gives

abbrev height_of : Chain → Attestation → Option ℕ
height_of chain.Bitcoin (attestation.Bitcoin height) = Some height
height_of chain.Bitcoin (attestation.Litecoin height) = None
height_of chain.Litecoin (attestation.Litecoin height) = Some height
height_of chain.Litecoin (attestation.Bitcoin height) = None
height_of c (attestation.Pending uri) = None
height_of c (attestation.Unknown other) = None

-- in a table that may be given
abbrev found : Option Table → ℕ → List ℕ → Option Found
found table height message = option_and_then (λ t. found_at height t message) table

abbrev given_at : Option Table → Option ℕ → Option (List ℕ) → Option Found
given_at table height message = option_and_then (λ m. option_and_then (λ n. found table n m) height) message

abbrev gives : Chain → Option Table → End → Option Found
gives c table e = given_at table (height_of c e.attestation) e.message

lesser-none : (b : Option Found) → b ≡ lesser b None
lesser-none None = refl
lesser-none (Some f) = refl

abbrev both : Table → Option Table → Best → End → Best
both bitcoin litecoin b e = record {
  bitcoin = lesser b.bitcoin (gives chain.Bitcoin (Some bitcoin) e);
  litecoin = lesser b.litecoin (gives chain.Litecoin litecoin e);
}

best_of_parts : (b : Best) (x y : Option Found) → b.bitcoin ≡ x → b.litecoin ≡ y → b ≡ record { bitcoin = x; litecoin = y }
best_of_parts b x y e f = λ i. record { bitcoin = e i; litecoin = f i }

nothing_added : (b : Best) → b ≡ record { bitcoin = lesser b.bitcoin None; litecoin = lesser b.litecoin None }
nothing_added b = best_of_parts b (lesser b.bitcoin None) (lesser b.litecoin None) (lesser-none b.bitcoin) (lesser-none b.litecoin)

noted_both : (bitcoin : Table) (litecoin : Option Table) (a : Attestation) (m : Option (List ℕ)) (b : Best)
    → noted bitcoin litecoin (token.Attestation a) m b ≡ both bitcoin litecoin b (record { message = m; attestation = a })
noted_both bitcoin litecoin a None b = nothing_added b
noted_both bitcoin litecoin (attestation.Bitcoin height) (Some m) b =
    ap (λ (z : Option Found). let r : Best = record { bitcoin = lesser b.bitcoin (found_at height bitcoin m); litecoin = z } in r) (lesser-none b.litecoin)
noted_both bitcoin litecoin (attestation.Litecoin height) (Some m) b =
    ap (λ (z : Option Found). let r : Best = record { bitcoin = z; litecoin = lesser b.litecoin (found litecoin height m) } in r) (lesser-none b.bitcoin)
noted_both bitcoin litecoin (attestation.Pending uri) (Some m) b = nothing_added b
noted_both bitcoin litecoin (attestation.Unknown other) (Some m) b = nothing_added b

abbrev least_of : Table → Option Table → Best → List End → Best
least_of bitcoin litecoin b es = record { bitcoin = least (gives chain.Bitcoin (Some bitcoin)) b.bitcoin es; litecoin = least (gives chain.Litecoin litecoin) b.litecoin es }

noted_least : (bitcoin : Table) (litecoin : Option Table) (x : Token) (m : Option (List ℕ)) (ms : List (Met (Option (List ℕ)))) (b : Best)
    → ((c : Best) → walked bitcoin litecoin c ms ≡ least_of bitcoin litecoin c (ends ms))
    → walked bitcoin litecoin (noted bitcoin litecoin x m b) ms ≡ least_of bitcoin litecoin b (end_at x m ++ ends ms)
noted_least bitcoin litecoin token.Fork m ms b h = h b
noted_least bitcoin litecoin (token.Op o) m ms b h = h b
noted_least bitcoin litecoin (token.Attestation a) m ms b h =
    ap (λ (z : Best). walked bitcoin litecoin z ms) (noted_both bitcoin litecoin a m b) ∙ h (both bitcoin litecoin b (record { message = m; attestation = a }))

walked_least : (bitcoin : Table) (litecoin : Option Table) (ms : List (Met (Option (List ℕ)))) (b : Best) → walked bitcoin litecoin b ms ≡ least_of bitcoin litecoin b (ends ms)
walked_least bitcoin litecoin [] b = refl
walked_least bitcoin litecoin (m ∷ ms) b = noted_least bitcoin litecoin m.token m.carried ms b (λ c. walked_least bitcoin litecoin ms c)

-- ---- an end gives a height exactly where its path confirms it

record IsFoundAt (header : Option Header) (height : ℕ) (message : List ℕ) (g : Found) : Type 0 where
  height_is : g.height ≡ height
  root : option_map (λ (h : Header). h.root) header ≡ Some message
  time : option_map (λ (h : Header). h.time) header ≡ Some g.time

tested : (c : Bool) (header : Header) (height : ℕ) (message : List ℕ) (g : Found) → (c ≡ true → message ≡ header.root)
    → cond c (Some (let f : Found = record { height = height; time = header.time } in f)) None ≡ Some g → IsFoundAt (Some header) height message g
tested false header height message g same e = absurd cc
tested true header height message g same e =
    let one : (let f : Found = record { height = height; time = header.time } in f) ≡ g = cc in
    record { height_is = sym (ap (λ (z : Found). z.height) one); root = ap Some (sym (same refl)); time = ap (λ (z : Found). Some z.time) one }

found_is : (header : Option Header) (height : ℕ) (message : List ℕ) (g : Found) → option_and_then (found_in height message) header ≡ Some g → IsFoundAt header height message g
found_is None height message g e = absurd cc
found_is (Some h) height message g e = tested (bytes_eq message h.root) h height message g ((bytes_eq-Decides message h.root).0) e

is_found : (header : Option Header) (height : ℕ) (message : List ℕ) → option_map (λ (h : Header). h.root) header ≡ Some message
    → (g : Found) × (option_and_then (found_in height message) header ≡ Some g) × (g.height ≡ height)
is_found None height message e = absurd cc
is_found (Some h) height message e =
    let same : message ≡ h.root = cc in
    let f : Found = record { height = height; time = h.time } in
    (f, ap (λ (z : Bool). cond z (Some f) None) ((bytes_eq-Decides message h.root).1 same), refl)

attested_height : (c : Chain) (a : Attestation) (height : ℕ) → height_of c a ≡ Some height → a ≡ attests c height
attested_height chain.Bitcoin (attestation.Bitcoin n) height e = cc
attested_height chain.Bitcoin (attestation.Litecoin n) height e = absurd cc
attested_height chain.Bitcoin (attestation.Pending u) height e = absurd cc
attested_height chain.Bitcoin (attestation.Unknown o) height e = absurd cc
attested_height chain.Litecoin (attestation.Bitcoin n) height e = absurd cc
attested_height chain.Litecoin (attestation.Litecoin n) height e = cc
attested_height chain.Litecoin (attestation.Pending u) height e = absurd cc
attested_height chain.Litecoin (attestation.Unknown o) height e = absurd cc

height_attested : (c : Chain) (height : ℕ) → height_of c (attests c height) ≡ Some height
height_attested chain.Bitcoin height = refl
height_attested chain.Litecoin height = refl

-- what gives a height in a table
record Given (table : Table) (height : Option ℕ) (message : Option (List ℕ)) (g : Found) : Type 0 where
  reached : List ℕ
  message_is : message ≡ Some reached
  height_is : height ≡ Some g.height
  root : root_at table g.height ≡ Some reached
  time : time_at table g.height ≡ Some g.time

given_parts : (table : Table) (height : Option ℕ) (message : Option (List ℕ)) (g : Found) → given_at (Some table) height message ≡ Some g → Given table height message g
given_parts table height None g e = absurd cc
given_parts table None (Some m) g e = absurd cc
given_parts table (Some n) (Some m) g e =
    let h = found_is (header_at table n) n m g e in
    let same : n ≡ g.height = sym h.height_is in
    record {
      reached = m;
      message_is = refl;
      height_is = ap Some same;
      root = subst (λ (z : ℕ). root_at table z ≡ Some m) same h.root;
      time = subst (λ (z : ℕ). time_at table z ≡ Some g.time) same h.time;
    }

gives_confirms : (c : Chain) (table : Table) (digest : List ℕ) (p : Path) (g : Found) → gives c (Some table) (end_from (Some digest) p) ≡ Some g
    → Confirms c table digest g.height p × (time_at table g.height ≡ Some g.time)
gives_confirms c table digest p g e =
    let h = given_parts table (height_of c p.end) (value p.ops digest) g e in (
      record { root = h.reached; attested = attested_height c p.end g.height h.height_is; reached = h.message_is; given = h.root },
      h.time,
    )

confirms_gives : (c : Chain) (table : Table) (digest : List ℕ) (p : Path) (height : ℕ) → Confirms c table digest height p
    → (g : Found) × (gives c (Some table) (end_from (Some digest) p) ≡ Some g) × (g.height ≡ height)
confirms_gives c table digest p height h =
    let f = is_found (header_at table height) height h.root h.given in
    let attested : height_of c p.end ≡ Some height = ap (height_of c) h.attested ∙ height_attested c height in (
      f.0,
      ap (λ (z : Option (List ℕ)). given_at (Some table) (height_of c p.end) z) h.reached
          ∙ ap (λ (z : Option ℕ). given_at (Some table) z (Some h.root)) attested
          ∙ f.1,
      f.2,
    )

-- ---- among the paths

record SomePath (f : End → Option Found) (m : Option (List ℕ)) (ps : List Path) (g : Found) : Type 0 where
  path : Path
  among : Contains ps path
  is : f (end_from m path) ≡ Some g

some_path : (f : End → Option Found) (m : Option (List ℕ)) (ps : List Path) (g : Found) → SomeEnd f (map (end_from m) ps) g → SomePath f m ps g
some_path f m [] g h = absurd h
some_path f m (p ∷ ps) g (inl e) = record { path = p; among = (0, omega arith, refl); is = e }
some_path f m (p ∷ ps) g (inr h) =
    let r = some_path f m ps g h in
    let k = r.among in
    record { path = r.path; among = (suc k.0, (let low = k.1 in omega arith), k.2); is = r.is }

some_end : (f : End → Option Found) (m : Option (List ℕ)) (ps : List Path) (g : Found) (p : Path) (k : ℕ) → k < length ps → get_or ps k p ≡ p
    → f (end_from m p) ≡ Some g → SomeEnd f (map (end_from m) ps) g
some_end f m [] g p k low at e = absurd (omega arith)
some_end f m (q ∷ ps) g p zero low at e = inl (ap (λ (z : Path). f (end_from m z)) at ∙ e)
some_end f m (q ∷ ps) g p (suc k) low at e = inr (some_end f m ps g p k (omega arith) at e)

abbrev IsOutcome : Chain → Table → Detached → Option Found → Type 0
IsOutcome c table proof r = MatchOption r (NoneConfirmed c table proof) (λ g. IsLeastConfirmed c table proof g.height g.time)

outcome : (c : Chain) (table : Table) (proof : Detached) (t : Node) → pre t ≡ proof.tree → (r : Option Found)
    → IsLeast (SomeEnd (gives c (Some table)) (map (end_from (Some proof.digest)) (paths t))) r → IsOutcome c table proof r
outcome c table proof t is None h = λ height confirmed.
    let same : confirmed.node ≡ t = same_pre confirmed.node t (confirmed.tree ∙ sym is) in
    let f = confirms_gives c table proof.digest confirmed.path height confirmed.confirms in
    let k = subst (λ (z : Node). Contains (paths z) confirmed.path) same confirmed.among in
    h f.0 (some_end (gives c (Some table)) (Some proof.digest) (paths t) f.0 confirmed.path k.0 k.1 k.2 f.1)
outcome c table proof t is (Some g) h =
    let p = some_path (gives c (Some table)) (Some proof.digest) (paths t) g h.0 in
    let confirms = gives_confirms c table proof.digest p.path g p.is in
    record {
      confirmed = record { node = t; tree = is; path = p.path; among = p.among; confirms = confirms.0 };
      least = λ other confirmed.
          let same : confirmed.node ≡ t = same_pre confirmed.node t (confirmed.tree ∙ sym is) in
          let f = confirms_gives c table proof.digest confirmed.path other confirmed.confirms in
          let k = subst (λ (z : Node). Contains (paths z) confirmed.path) same confirmed.among in
          subst (λ (z : ℕ). g.height ≤ z) f.2 (h.1 f.0 (some_end (gives c (Some table)) (Some proof.digest) (paths t) f.0 confirmed.path k.0 k.1 k.2 f.1));
      timed = confirms.1;
    }

abbrev IsOutcomeIn : Chain → Option Table → Detached → Option Found → Type 0
IsOutcomeIn c table proof r = MatchOption r (NoneConfirmedIn c table proof) (λ g. IsLeastConfirmedIn c table proof g.height g.time)

none_given : (height : Option ℕ) (message : Option (List ℕ)) (g : Found) → given_at None height message ≡ Some g → ⊥
none_given height None g e = absurd cc
none_given None (Some m) g e = absurd cc
none_given (Some n) (Some m) g e = absurd cc

no_end : (c : Chain) (es : List End) (g : Found) → SomeEnd (gives c None) es g → ⊥
no_end c [] g h = h
no_end c (e ∷ es) g (inl is) = none_given (height_of c e.attestation) e.message g is
no_end c (e ∷ es) g (inr h) = no_end c es g h

without_table : (c : Chain) (proof : Detached) (es : List End) (r : Option Found) → IsLeast (SomeEnd (gives c None) es) r → IsOutcomeIn c None proof r
without_table c proof es None h = tt
without_table c proof es (Some g) h = no_end c es g h.0

outcome_in : (c : Chain) (table : Option Table) (proof : Detached) (t : Node) → pre t ≡ proof.tree → (r : Option Found)
    → IsLeast (SomeEnd (gives c table) (map (end_from (Some proof.digest)) (paths t))) r → IsOutcomeIn c table proof r
outcome_in c None proof t is r h = without_table c proof (map (end_from (Some proof.digest)) (paths t)) r h
outcome_in c (Some table) proof t is None h = outcome c table proof t is None h
outcome_in c (Some table) proof t is (Some g) h = outcome c table proof t is (Some g) h

verdict_is : (proof : Detached) (bitcoin : Table) (litecoin : Option Table) (b l : Option Found)
    → IsOutcome chain.Bitcoin bitcoin proof b → IsOutcomeIn chain.Litecoin litecoin proof l
    → IsVerdict proof proof.digest bitcoin litecoin (verdict_of_found b l)
verdict_is proof bitcoin litecoin (Some g) l h k = (refl, h)
verdict_is proof bitcoin litecoin None (Some g) h k = (refl, h, k)
verdict_is proof bitcoin litecoin None None h k = (refl, h, k)

pub walk_verdict : (proof : Detached) (bitcoin : Table) (litecoin : Option Table) (t : Node) → pre t ≡ proof.tree
    → IsVerdict proof proof.digest bitcoin litecoin (verdict_of (walked bitcoin litecoin nothing (messages proof.digest proof.tree)))
walk_verdict proof bitcoin litecoin t is =
    let found_ends : ends (messages proof.digest proof.tree) ≡ map (end_from (Some proof.digest)) (paths t) =
    ap (λ (z : List Token). ends (messages proof.digest z)) (sym is) ∙ all_ends t proof.digest in
    let es = map (end_from (Some proof.digest)) (paths t) in
    let best : walked bitcoin litecoin nothing (messages proof.digest proof.tree) ≡ least_of bitcoin litecoin nothing es =
    walked_least bitcoin litecoin (messages proof.digest proof.tree) nothing ∙ ap (least_of bitcoin litecoin nothing) found_ends in
    let found = least_of bitcoin litecoin nothing es in
    subst (λ (z : Best). IsVerdict proof proof.digest bitcoin litecoin (verdict_of z)) (sym best)
    (verdict_is proof bitcoin litecoin found.bitcoin found.litecoin
    (outcome chain.Bitcoin bitcoin proof t is found.bitcoin (least_is (gives chain.Bitcoin (Some bitcoin)) es))
    (outcome_in chain.Litecoin litecoin proof t is found.litecoin (least_is (gives chain.Litecoin litecoin) es)))

-- the same of a verdict and a target that were found otherwise
pub verdict_found : (proof : Detached) (target : List ℕ) (bitcoin : Table) (litecoin : Option Table) (best : Best) (v : Verdict) (t : Node) → pre t ≡ proof.tree
    → target ≡ proof.digest → best ≡ walked bitcoin litecoin nothing (messages proof.digest proof.tree) → v ≡ verdict_of best
    → IsVerdict proof target bitcoin litecoin v
verdict_found proof target bitcoin litecoin best v t is same found_best found_verdict =
    subst (λ (z : List ℕ). IsVerdict proof z bitcoin litecoin v) (sym same)
    (subst (IsVerdict proof proof.digest bitcoin litecoin) (sym (found_verdict ∙ ap verdict_of found_best)) (walk_verdict proof bitcoin litecoin t is))
