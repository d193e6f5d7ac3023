-- A file of sums, line by line.
use Rattle.std.proofs.Common.{◌≡◌, ◌<◌, ◌≤◌, ◌+◌, ℕ, List, [], ◌∷◌, ◌++◌, length, Option, Some, None, Result, refl, sym, ap, subst, ◌∙◌, arith, append-nil, length-append}
use Rattle.std.specs.Prelude.{Ok, Err, IsErrAnd}
use Rattle.std.specs.Io.KnownBytes.{IsAtEnd}
use Rattle.ots_base.specs.Told.{IfTold}
use Rattle.ots_outside.specs.Streams.{Gives, Gives-trans}
use Rattle.ots_inputs.specs.Lines.{BeginsLines, HasLine}
use Rattle.ots_inputs.proofs.Lining.{before_mark, line_is, lines_more, lines_then, too_long}
use Rattle.ots_line_reader.specs.declared.reader.Found.{Found}
use Rattle.ots_line_reader.specs.declared.reader.Found.TheVariants as found
use Rattle.ots_line_reader.specs.Lines.{Advances, Lines, NoFeed, given, to_come}
use Rattle.ots_sums.specs.declared.reading.TheConstants.{MAX_LINES}
use Rattle.ots_sums.specs.declared.reading.SumsError.{SumsError}
use Rattle.ots_sums.specs.declared.reading.SumsError.TheVariants.{ReadFault, BadLine, OutOfMemory}
use Rattle.ots_sums.specs.Sums.{Entry, GivesSums, IsBadLine, IsSumLine, ReadsSums}
use Rattle.ots_sums.specs.inner.Taken.{CameTo, TakesLine}
use Rattle.ots_sums.proofs.SumForm.{sum_form}

-- ---- the whole text

-- what was given, what is held, and whatever follows
further : (left now : Option (List ℕ)) (reader : Lines) (came : List ℕ) → Gives left (to_come reader now) came → (more : List ℕ) × IfTold left (λ b. b ≡ came ++ (reader.held ++ more))
further None None reader came gave = ([], tt)
further None (Some y) reader came gave = absurd gave
further (Some x) None reader came gave = absurd gave
further (Some x) (Some y) reader came gave = (y, gave)

-- where nothing follows
finish : (left now : Option (List ℕ)) (reader : Lines) (came : List ℕ) → Gives left (to_come reader now) came → IsAtEnd now → IfTold left (λ b. b ≡ came ++ reader.held)
finish None None reader came gave end = tt
finish None (Some y) reader came gave end = absurd gave
finish (Some x) None reader came gave end = absurd gave
finish (Some x) (Some y) reader came gave end = gave ∙ ap (λ (z : List ℕ). came ++ (reader.held ++ z)) end ∙ ap (λ (z : List ℕ). came ++ z) (append-nil reader.held)

-- what came is not looked at
told_none : (left : Option (List ℕ)) (e : SumsError) → ((bytes : List ℕ) → GivesSums bytes (Err e)) → ReadsSums left (Err e)
told_none None e gives = record { bytes = []; told = tt; gives = gives [] }
told_none (Some bytes) e gives = record { bytes = bytes; told = refl; gives = gives bytes }

pub not_read : (left : Option (List ℕ)) (r : Result (List Entry) SumsError) → IsErrAnd r (λ e. e ≡ ReadFault) → ReadsSums left r
not_read left (Ok x) is = absurd is
not_read left (Err e) is = subst (λ (z : SumsError). ReadsSums left (Err z)) (sym is) (told_none left ReadFault (λ bytes. tt))

-- bytes without a line feed are no line
no_line : (bytes : List ℕ) → NoFeed bytes → HasLine IsSumLine bytes → ⊥
no_line bytes none has =
    let b = has.begins in
    absurd (omega (arith, before_mark 10 bytes b.line [] has.after none (append-nil bytes ∙ b.whole), ap length b.whole, length-append b.line (10 ∷ has.after)))

-- ---- one step

module _ (left before now : Option (List ℕ)) (entries : List Entry) (old new : Lines) (c : CameTo left before entries old) (found : Found) (a : Advances old new before now (Ok found)) where
  gave : Gives left (to_come new now) (c.came ++ given new (Ok found))
  gave = Gives-trans left (to_come old before) (to_come new now) c.came (given new (Ok found)) c.gave a.gave

  came_lines : BeginsLines IsSumLine (c.came ++ given new (Ok found)) entries (given new (Ok found))
  came_lines = lines_more IsSumLine c.came [] (given new (Ok found)) entries c.lines

  -- a rest that is no line
  bad : (number : ℕ) (rest : List ℕ) → number ≡ length entries + 1 → (given new (Ok found) ++ rest ≡ [] → entries ≡ [])
      → (length entries < MAX_LINES → HasLine IsSumLine (given new (Ok found) ++ rest) → ⊥) → IsBadLine ((c.came ++ given new (Ok found)) ++ rest) number
  bad number rest is nothing none = record {
    items = entries;
    rest = given new (Ok found) ++ rest;
    lines = lines_more IsSumLine (c.came ++ given new (Ok found)) (given new (Ok found)) rest entries came_lines;
    at = omega (arith, is);
    most = c.few;
    left = nothing;
    none = none;
  }

module _ (left before now : Option (List ℕ)) (entries : List Entry) (old new : Lines) (c : CameTo left before entries old) where
  -- a line of which an entry was taken
  pub line_taken : Advances old new before now (Ok found.Line) → (all : List Entry) (u : Unit) (line : List ℕ) → line ≡ new.line → TakesLine line entries all (Ok u) → CameTo left now all new
  line_taken a all u line is (e, added, sum, few) =
      let text = new.line ++ 10 ∷ [] in
      record {
        came = c.came ++ text;
        gave = gave left before now entries old new c found.Line a;
        lines = subst (λ (z : List Entry). BeginsLines IsSumLine (c.came ++ text) z []) (sym added)
            (lines_then IsSumLine (c.came ++ text) text [] entries (e ∷ []) (came_lines left before now entries old new c found.Line a)
            ([], record { line = new.line; is = subst (λ (z : List ℕ). IsSumLine z e) is sum; whole = refl }, refl));
        few = omega (arith, few, ap length added, length-append entries (e ∷ []));
      }

  -- a line that is none
  pub line_bad : Advances old new before now (Ok found.Line) → (all : List Entry) (line : List ℕ) → line ≡ new.line → (e : SumsError) → TakesLine line entries all (Err e)
      → (r : Result (List Entry) SumsError) → IsErrAnd r (λ x. x ≡ e) → ReadsSums left r
  line_bad a all line is e t (Ok x) same = absurd same
  line_bad a all line is e t (Err x) same = subst (λ (z : SumsError). ReadsSums left (Err z)) (sym same) (by e t)
    where
      by : (e : SumsError) → TakesLine line entries all (Err e) → ReadsSums left (Err e)
      by ReadFault t = absurd t
      by OutOfMemory t = told_none left OutOfMemory (λ bytes. tt)
      by (BadLine number) t =
          let text = new.line ++ 10 ∷ [] in
          let more = further left now new (c.came ++ text) (gave left before now entries old new c found.Line a) in
          let rest = new.held ++ more.0 in
          record {
            bytes = (c.came ++ text) ++ rest;
            told = more.1;
            gives = bad left before now entries old new c found.Line a number rest t.0
                (λ nothing. absurd (omega (arith, ap length nothing, length-append text rest, length-append new.line (10 ∷ []))))
                (λ few has. t.1 few has.item (subst (λ (z : List ℕ). IsSumLine z has.item) (sym is) (line_is sum_form text new.line [] rest refl a.found.0 has)));
          }

  -- all lines
  pub ended : Advances old new before now (Ok found.End) → (entries ≡ [] → ⊥) → ReadsSums left (Ok entries)
  ended a some = record {
    bytes = (c.came ++ []) ++ new.held;
    told = finish left now new (c.came ++ []) (gave left before now entries old new c found.End a) a.found.1;
    gives = record {
      lines = subst (λ (z : List ℕ). BeginsLines IsSumLine ((c.came ++ []) ++ new.held) entries z) a.found.0
          (lines_more IsSumLine (c.came ++ []) [] new.held entries (came_lines left before now entries old new c found.End a));
      some = some_entry entries some;
      most = c.few;
    };
  }
    where
      some_entry : (items : List Entry) → (items ≡ [] → ⊥) → 1 ≤ length items
      some_entry [] some = absurd (some refl)
      some_entry (e ∷ items) some = omega arith

  -- what is no line
  pub none_found : (f : Found) → Advances old new before now (Ok f) → (f ≡ found.Line → ⊥) → (f ≡ found.End → entries ≡ []) → (number : ℕ) → number ≡ length entries + 1
      → ReadsSums left (Err (BadLine number))
  none_found found.Line a not_line at_end number is = absurd (not_line refl)
  none_found found.End a not_line at_end number is = record {
    bytes = (c.came ++ []) ++ new.held;
    told = finish left now new (c.came ++ []) (gave left before now entries old new c found.End a) a.found.1;
    gives = bad left before now entries old new c found.End a number new.held is (λ nothing. at_end refl)
        (λ few has. no_line new.held (subst NoFeed (sym a.found.0) tt) has);
  }
  none_found found.Cut a not_line at_end number is = record {
    bytes = (c.came ++ []) ++ new.held;
    told = finish left now new (c.came ++ []) (gave left before now entries old new c found.Cut a) a.found.3;
    gives = bad left before now entries old new c found.Cut a number new.held is (λ nothing. absurd (a.found.1 nothing)) (λ few has. no_line new.held a.found.0 has);
  }
  none_found found.Long a not_line at_end number is =
      let more = further left now new (c.came ++ []) (gave left before now entries old new c found.Long a) in
      record {
        bytes = (c.came ++ []) ++ (new.held ++ more.0);
        told = more.1;
        gives = bad left before now entries old new c found.Long a number (new.held ++ more.0) is
            (λ nothing. absurd (omega (arith, ap length nothing, length-append new.held more.0, a.found.1)))
            (λ few has. too_long sum_form new.held a.found.0 (omega (arith, a.found.1)) more.0 has);
      }
