-- Lines, one after another, and what is no line.
use Rattle.std.proofs.Common.{◌≡◌, ◌≢◌, ◌<◌, ◌≤◌, ℕ, ◌+◌, suc, List, [], ◌∷◌, ◌++◌, length, take, drop, get_or, refl, sym, ap, subst, ◌∙◌, arith, append_assoc, append-nil, length-append, length-drop, length-take, eqb-true, eq-eqb}
use Rattle.std.specs.List.{AllByRecursion}
use Rattle.std.proofs.lemmas.List.{get_or-take, take-append-drop, drop_more, drop-drop, drop_all}
use Rattle.memchr.specs.Find.{NoneBefore, Nowhere, Passes, is_byte}
use Rattle.ots_inputs.specs.declared.lines.Start.TheVariants.{Whole}
use Rattle.ots_inputs.specs.Lines.{BeginsLines, HasLine, IsForm}
use Rattle.ots_inputs.specs.LinesRead.{IsOpen, NoLine, StopsAtLine, TakenTo, TakesLine, TakesLines}

-- ---- what comes up to a mark, as a line feed

abbrev pub HasNo : ℕ → List ℕ → Type 0
HasNo mark = AllByRecursion (λ b. b ≢ mark)

pub none_by_places : (mark : ℕ) (bytes : List ℕ) → ((k : ℕ) → k < length bytes → get_or bytes k 0 ≢ mark) → HasNo mark bytes
none_by_places mark [] none = tt
none_by_places mark (b ∷ bytes) none = (none 0 (omega arith), none_by_places mark bytes (λ k less. none (suc k) (omega arith)))

module _ (mark : ℕ) where
  -- what comes up to the first mark is the same
  pub same_until : (first second rest more : List ℕ) → HasNo mark first → HasNo mark second → first ++ mark ∷ rest ≡ second ++ mark ∷ more → (first ≡ second) × (rest ≡ more)
  same_until [] [] rest more none nil same = (refl, ap (λ (z : List ℕ). drop 1 z) same)
  same_until [] (b ∷ second) rest more none nil same = absurd (nil.0 (sym (ap (λ (z : List ℕ). get_or z 0 0) same)))
  same_until (b ∷ first) [] rest more none nil same = absurd (none.0 (ap (λ (z : List ℕ). get_or z 0 0) same))
  same_until (b ∷ first) (c ∷ second) rest more none nil same =
      let tails = same_until first second rest more none.1 nil.1 (ap (λ (z : List ℕ). drop 1 z) same) in
      let heads : b ≡ c = ap (λ (z : List ℕ). get_or z 0 0) same in
      (ap (λ (z : ℕ). z ∷ first) heads ∙ ap (λ (z : List ℕ). c ∷ z) tails.0, tails.1)

  -- bytes without a mark end before the first one
  pub before_mark : (bytes prefix more after : List ℕ) → HasNo mark bytes → bytes ++ more ≡ prefix ++ mark ∷ after → length bytes ≤ length prefix
  before_mark [] prefix more after none same = omega arith
  before_mark (b ∷ bytes) [] more after none same = absurd (none.0 (ap (λ (z : List ℕ). get_or z 0 0) same))
  before_mark (b ∷ bytes) (c ∷ prefix) more after none same =
      let rest = before_mark bytes prefix more after none.1 (ap (λ (z : List ℕ). drop 1 z) same) in
      omega (arith, rest)

  pub nowhere_none : (bytes : List ℕ) → Nowhere (Passes (is_byte mark) bytes) 0 (length bytes) → HasNo mark bytes
  nowhere_none bytes none = none_by_places mark bytes (λ k less same. none k (omega arith) less (eq-eqb _ mark same))

  module _ (bytes : List ℕ) (place : ℕ) (none : NoneBefore (Passes (is_byte mark) bytes) 0 (length bytes) place) (passes : Passes (is_byte mark) bytes place) where
    pub none_before : HasNo mark (take place bytes)
    none_before = none_by_places mark (take place bytes) (λ k less same.
        let high = none.high in
        let low : k < place = omega (arith, less, length-take place bytes) in
        none.before k (omega arith) low (eq-eqb _ mark (sym (get_or-take place bytes k 0 low) ∙ same)))

    pub split_mark : bytes ≡ take place bytes ++ mark ∷ drop (place + 1) bytes
    split_mark = sym (take-append-drop place bytes) ∙ ap (λ (z : List ℕ). take place bytes ++ z)
        (drop_more bytes place 0 none.high ∙ ap (λ (z : ℕ). z ∷ drop (place + 1) bytes) (eqb-true _ mark passes))

-- ---- the line at the start

module _ {A : Type 0} {is_item : List ℕ → A → Type 0} {longest limit : ℕ} (form : IsForm is_item longest limit) where
  -- the line that is up to the first line feed
  pub line_is : (bytes line rest more : List ℕ) → bytes ≡ line ++ 10 ∷ rest → HasNo 10 line → (has : HasLine is_item (bytes ++ more)) → is_item line has.item
  line_is bytes line rest more whole none has =
      let b = has.begins in
      let same : line ++ 10 ∷ (rest ++ more) ≡ b.line ++ 10 ∷ has.after =
      sym (append_assoc line (10 ∷ rest) more) ∙ (ap (λ (z : List ℕ). z ++ more) (sym whole) ∙ b.whole) in
      subst (λ (z : List ℕ). is_item z has.item) (sym (same_until 10 line b.line (rest ++ more) has.after none (form.no_end b.line has.item b.is) same).0) b.is

  -- without a line feed, as many bytes as the longest line are no line
  pub too_long : (bytes : List ℕ) → HasNo 10 bytes → longest ≤ length bytes → NoLine is_item bytes
  too_long bytes none long more has =
      let b = has.begins in
      absurd (omega (arith, long, before_mark 10 bytes b.line more has.after none b.whole, form.short b.line has.item b.is))

  -- what is open has no line
  pub open_none : (bytes : List ℕ) → IsOpen longest bytes → HasLine is_item bytes → ⊥
  open_none bytes o has =
      let b = has.begins in
      absurd (omega (arith, before_mark 10 bytes b.line [] has.after o.no_end (append-nil bytes ∙ b.whole), ap length b.whole, length-append b.line (10 ∷ has.after)))

-- ---- lines, one after another

module _ {A : Type 0} (is_item : List ℕ → A → Type 0) where
  pub lines_more : (bytes rest more : List ℕ) (items : List A) → BeginsLines is_item bytes items rest → BeginsLines is_item (bytes ++ more) items (rest ++ more)
  lines_more bytes rest more [] same = ap (λ (z : List ℕ). z ++ more) same
  lines_more bytes rest more (x ∷ items) (after, line, lines) =
      (after ++ more, record { line = line.line; is = line.is; whole = ap (λ (z : List ℕ). z ++ more) line.whole ∙ append_assoc line.line (10 ∷ after) more }, lines_more after rest more items lines)

  pub lines_then : (bytes mid rest : List ℕ) (items others : List A) → BeginsLines is_item bytes items mid → BeginsLines is_item mid others rest → BeginsLines is_item bytes (items ++ others) rest
  lines_then bytes mid rest [] others same lines = subst (λ (z : List ℕ). BeginsLines is_item z others rest) (sym same) lines
  lines_then bytes mid rest (x ∷ items) others (after, line, lines) more = (after, line, lines_then after mid rest items others lines more)

  pub none_taken : (limit : ℕ) (bytes : List ℕ) (old : List A) → length old ≤ limit → TakenTo is_item limit bytes old old 0
  none_taken limit bytes old few = record { items = []; added = sym (append-nil old); lines = refl; within = omega arith; few = few }

  -- one line more, whose bytes stand after those that were taken
  pub one_taken : (longest limit : ℕ) (bytes start : List ℕ) (old new all : List A) (used size : ℕ) (item : A) → TakenTo is_item limit bytes old new used → length new < limit
      → start ≡ drop used bytes → TakesLine is_item longest start (Whole item size) → all ≡ new ++ item ∷ [] → TakenTo is_item limit bytes old all (used + size)
  one_taken longest limit bytes start old new all used size item t room is line added =
      let here : TakesLine is_item longest (drop used bytes) (Whole item size) = subst (λ (z : List ℕ). TakesLine is_item longest z (Whole item size)) is line in
      record {
        items = t.items ++ item ∷ [];
        added = added ∙ ap (λ (z : List A). z ++ item ∷ []) t.added ∙ append_assoc old t.items (item ∷ []);
        lines = lines_then bytes (drop used bytes) (drop (used + size) bytes) t.items (item ∷ []) t.lines
            (drop size (drop used bytes), here.0, drop-drop size used bytes);
        within = let w = t.within in let size = here.1 in omega (arith, length-drop used bytes);
        few = omega (arith, ap length added, length-append new (item ∷ []));
      }

  pub stops_at : (limit : ℕ) (bytes : List ℕ) (old new : List A) (used number : ℕ) → TakenTo is_item limit bytes old new used → used < length bytes → number ≡ length new + 1
      → (length new < limit → NoLine is_item (drop used bytes)) → StopsAtLine is_item limit bytes old number
  stops_at limit bytes old new used number t less is none =
      let many : length new ≡ length old + length t.items = ap length t.added ∙ length-append old t.items in
      record {
        items = t.items;
        rest = drop used bytes;
        lines = t.lines;
        at = omega arith;
        most = let f = t.few in omega arith;
        left = omega (arith, length-drop used bytes);
        none = λ room. none (omega arith);
      }

-- all bytes were taken
pub all_taken : {A : Type 0} {is_item : List ℕ → A → Type 0} {longest limit : ℕ} → IsForm is_item longest limit → (bytes : List ℕ) (old new : List A) (used : ℕ) → TakenTo is_item limit bytes old new used → length bytes ≤ used → TakesLines is_item longest limit bytes old new used
all_taken {longest = longest} form bytes old new used t all =
    let none : drop used bytes ≡ [] = drop_all used bytes all in
    record {
      taken = t;
      open_rest = subst (IsOpen longest) (sym none) (record { short = let some = form.some in omega (arith, some); no_end = tt });
    }
