-- The parts of a step.
use Rattle.std.proofs.Common.{true≢false, ◌≡◌, ◌<◌, ◌≤◌, ℕ, ◌+◌, ◌-◌, List, [], ◌∷◌, ◌++◌, length, take, drop, Option, sym, ap, subst, ◌∙◌, arith, length-drop}
use Rattle.std.specs.Prelude.{Result, Ok, Err, IsErr}
use Rattle.std.proofs.lemmas.List.{length-take-le}
use Rattle.std.specs.Io.KnownBytes.{IsAtEnd}
use Rattle.memchr.specs.Find.{NoneBefore, Nowhere, Passes, is_byte}
use Rattle.ots_outside.specs.Streams.{Gives}
use Rattle.ots_outside.specs.declared.failed.Failed.{Failed}
use Rattle.ots_line_reader.specs.declared.reader.TheConstants.{ROOM}
use Rattle.ots_line_reader.specs.Lines.{Lines, NoFeed}
use Rattle.ots_line_reader.specs.inner.Steps.{Fills, FillsOrNot, IsTaken, NoneTaken}
use Rattle.ots_line_reader.proofs.Feeds.{none_before, none_of_all, split, within}
use Rattle.ots_line_reader.proofs.Places.{between, between_kept, between_more, drop_between, length_between, still_none, take_between}

-- ---- taking a line

module _ (room : List ℕ) (start end n : ℕ) (old : Lines) (is : between start end room ≡ old.held) (order : start ≤ end) (fits : end ≤ length room)
    (few : n ≤ length old.held) (none : NoFeed (take n old.held)) where
  many : length old.held ≡ end - start
  many = sym (ap length is) ∙ length_between start end room fits

  rest : between (start + n) end room ≡ drop n old.held
  rest = sym (drop_between start end n room (omega (arith, many, few, order))) ∙ ap (drop n) is

  module _ (count : ℕ) (later : NoneBefore (Passes (is_byte 10) (between (start + n) end room)) 0 (length (between (start + n) end room)) count)
      (feed : Passes (is_byte 10) (between (start + n) end room) count) (size : length room ≡ ROOM) where
    later' : NoneBefore (Passes (is_byte 10) (drop n old.held)) 0 (length (drop n old.held)) count
    later' = subst (λ (z : List ℕ). NoneBefore (Passes (is_byte 10) z) 0 (length z) count) rest later

    feed' : Passes (is_byte 10) (drop n old.held) count
    feed' = subst (λ (z : List ℕ). Passes (is_byte 10) z count) rest feed

    inside : n + count < length old.held
    inside = within old.held n count none later' feed'

    line : take (n + count) old.held ≡ between start (start + n + count) room
    line = sym (ap (take (n + count)) is) ∙ take_between start end (n + count) room (omega (arith, inside, many))
        ∙ ap (λ (z : ℕ). between start z room) (omega arith)

    after : drop (n + count + 1) old.held ≡ between (start + n + count + 1) end room
    after = sym (ap (drop (n + count + 1)) is) ∙ drop_between start end (n + count + 1) room (omega (arith, inside, many))
        ∙ ap (λ (z : ℕ). between z end room) (omega arith)

    pub taken : IsTaken old (record { line = between start (start + n + count) room; held = between (start + n + count + 1) end room })
    taken = record {
      split = split old.held n count none later' feed' ∙ ap (λ (z : List ℕ). z ++ 10 ∷ drop (n + count + 1) old.held) line
          ∙ ap (λ (z : List ℕ). between start (start + n + count) room ++ 10 ∷ z) after;
      no_feed = subst NoFeed line (none_before old.held n count none later' feed');
      short = let i = inside in omega (arith, many, size, fits, length_between start (start + n + count) room (omega (arith, inside, many)));
    }

  pub none_taken : Nowhere (Passes (is_byte 10) (between (start + n) end room)) 0 (length (between (start + n) end room))
      → NoneTaken old (record { line = between start start room; held = between start end room })
  none_taken later =
      let all : NoFeed old.held = none_of_all old.held n none (subst (λ (z : List ℕ). Nowhere (Passes (is_byte 10) z) 0 (length z)) rest later) in
      let nothing : start - start ≡ 0 = omega arith in
      record {
        no_feed = subst NoFeed (sym is) all;
        same = is;
        no_line = ap (λ (z : ℕ). take z (drop start room)) nothing;
      }

-- ---- reading a piece

module _ (from to : ℕ) (start end count : ℕ) (room mid now : List ℕ) (old : Lines) (left after : Option (List ℕ)) (is : between from to room ≡ old.line)
    (fits : to ≤ length room) (none : old.line ≡ []) (held : between start end mid ≡ old.held) (order : start ≤ end) (same : take end now ≡ take end mid) where
  -- nothing came
  pub not_filled : (r : Result ℕ Failed) → IsErr r → after ≡ left → FillsOrNot old (record { line = between from to now; held = between start end now }) left after r
  not_filled (Ok count) is-err stays = absurd (true≢false (sym is-err))
  not_filled (Err e) is-err stays = record {
    same = stays;
    held = between_kept start end mid now order same ∙ held;
    no_line = still_none from to room now fits (is ∙ none);
  }

  pub filled : Gives left after (take count (drop end now)) → (count ≡ 0 → 0 < length (drop end now) → IsAtEnd after) → end + count ≤ length now → end < length now
      → Fills old (record { line = between from to now; held = between start (end + count) now }) left after count
  filled gave over within more = record {
    piece = take count (drop end now);
    gave = gave;
    held = between_more start end count mid now order same ∙ ap (λ (z : List ℕ). z ++ take count (drop end now)) held;
    many = length-take-le count (drop end now) (omega (arith, within, length-drop end now));
    end = λ nothing. over nothing (omega (arith, more, length-drop end now));
    no_line = still_none from to room now fits (is ∙ none);
  }
