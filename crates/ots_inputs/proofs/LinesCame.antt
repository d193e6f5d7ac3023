-- A file of lines, read to its end or to its first bad line.
use Rattle.std.proofs.Common.{◌≡◌, ◌<◌, ◌≤◌, ℕ, ◌+◌, suc, List, [], ◌∷◌, ◌++◌, length, take, drop, Option, Some, None, refl, sym, ap, subst, ◌∙◌, arith, append-nil, length-append, length-drop}
use Rattle.std.specs.Prelude.{Result, Ok, Err, IsErrAnd, Vec}
use Rattle.std.specs.Io.KnownBytes.{IsAtEnd}
use Rattle.std.specs.declared.alloc.Global.{Global}
use Rattle.std.proofs.Math.Seq.{take-add}
use Rattle.ots_outside.specs.Streams.{Gives, Gives-nothing, Gives-trans}
use Rattle.ots_inputs.specs.declared.lines.LinesError.{LinesError}
use Rattle.ots_inputs.specs.declared.lines.LinesError.TheVariants.{ReadFault, BadLine, OutOfMemory}
use Rattle.ots_inputs.specs.Lines.{BeginsLines, GivesLines, IsBadLine, IsForm, ReadsLines}
use Rattle.ots_inputs.specs.LinesRead.{CameTo, EndsLines, IsOpen, StopsAtLine, StopsLines, TakesLines}
use Rattle.ots_inputs.proofs.Lining.{lines_more, lines_then, open_none}

-- ---- the whole input

abbrev Answer : Type 0 → Type 0
Answer A = Result (Vec A Global) LinesError

no_bytes : (bytes : List ℕ) → length bytes ≡ 0 → bytes ≡ []
no_bytes [] none = refl
no_bytes (b ∷ bytes) none = absurd (omega (arith, none))

module _ {A : Type 0} (is_item : List ℕ → A → Type 0) (limit : ℕ) where
  -- whatever follows what came
  any_end : (left now : Option (List ℕ)) (came : List ℕ) (number : ℕ) → Gives left now came → ((more : List ℕ) → IsBadLine is_item limit (came ++ more) number) → ReadsLines is_item limit left (Err (BadLine number))
  any_end None None came number gave bad = record { bytes = came ++ []; told = tt; gives = bad [] }
  any_end None (Some rest) came number gave bad = absurd gave
  any_end (Some bytes) None came number gave bad = absurd gave
  any_end (Some bytes) (Some rest) came number gave bad = record { bytes = bytes; told = refl; gives = subst (λ (z : List ℕ). IsBadLine is_item limit z number) (sym gave) (bad rest) }

  -- all of it came
  at_end : (left now : Option (List ℕ)) (came : List ℕ) (r : Answer A) → Gives left now came → IsAtEnd now → GivesLines is_item limit came r → ReadsLines is_item limit left r
  at_end None None came r gave end gives = record { bytes = came; told = tt; gives = gives }
  at_end None (Some rest) came r gave end gives = absurd gave
  at_end (Some bytes) None came r gave end gives = absurd gave
  at_end (Some bytes) (Some rest) came r gave end gives =
      record { bytes = came; told = gave ∙ (ap (λ (z : List ℕ). came ++ z) end ∙ append-nil came); gives = gives }

  -- what came is not looked at
  told_none : (left : Option (List ℕ)) (e : LinesError) → ((bytes : List ℕ) → GivesLines is_item limit bytes (Err e)) → ReadsLines is_item limit left (Err e)
  told_none None e gives = record { bytes = []; told = tt; gives = gives [] }
  told_none (Some bytes) e gives = record { bytes = bytes; told = refl; gives = gives bytes }

  pub not_read : (left : Option (List ℕ)) (r : Answer A) → IsErrAnd r (λ e. e ≡ ReadFault) → ReadsLines is_item limit left r
  not_read left (Ok x) is = absurd is
  not_read left (Err e) is = subst (λ (z : LinesError). ReadsLines is_item limit left (Err z)) (sym is) (told_none left ReadFault (λ bytes. tt))

-- ---- what came

-- a piece came after what is held
pub piece_after : (old new : List ℕ) (held count : ℕ) → take held new ≡ take held old → take (held + count) new ≡ take held old ++ take count (drop held new)
piece_after old new held count same = take-add held count new ∙ ap (λ (z : List ℕ). z ++ take count (drop held new)) same

module _ {A : Type 0} {is_item : List ℕ → A → Type 0} {longest limit : ℕ} where
  pub came_none : (left : Option (List ℕ)) (items : List A) → items ≡ [] → 0 < longest → CameTo is_item longest limit left left items []
  came_none left items is some = subst (λ (z : List A). CameTo is_item longest limit left left z []) (sym is) (record { came = []; gave = Gives-nothing left; lines = refl; few = omega arith; open_rest = record { short = some; no_end = tt } })

  module _ (form : IsForm is_item longest limit) (left mid now : Option (List ℕ)) (items : List A) (held : List ℕ) (c : CameTo is_item longest limit left mid items held) (piece bytes : List ℕ) (gave : Gives mid now piece) (whole : bytes ≡ held ++ piece) where
    came_lines : BeginsLines is_item (c.came ++ piece) items bytes
    came_lines = subst (BeginsLines is_item (c.came ++ piece) items) (sym whole) (lines_more is_item c.came held piece items c.lines)

    came_gave : Gives left now (c.came ++ piece)
    came_gave = Gives-trans left mid now c.came piece c.gave gave

    -- lines of it were taken
    pub came_more : (new : List A) (used : ℕ) (rest : List ℕ) → TakesLines is_item longest limit bytes items new used → rest ≡ drop used bytes → CameTo is_item longest limit left now new rest
    came_more new used rest t is = subst (CameTo is_item longest limit left now new) (sym is) (record {
      came = c.came ++ piece;
      gave = came_gave;
      lines = subst (λ (z : List A). BeginsLines is_item (c.came ++ piece) z (drop used bytes)) (sym t.taken.added)
          (lines_then is_item (c.came ++ piece) bytes (drop used bytes) items t.taken.items came_lines t.taken.lines);
      few = t.taken.few;
      open_rest = t.open_rest;
    })

    came_bad : (number : ℕ) → StopsAtLine is_item limit bytes items number → (more : List ℕ) → IsBadLine is_item limit ((c.came ++ piece) ++ more) number
    came_bad number s more = record {
      items = items ++ s.items;
      rest = s.rest ++ more;
      lines = lines_more is_item (c.came ++ piece) s.rest more (items ++ s.items) (lines_then is_item (c.came ++ piece) bytes s.rest items s.items came_lines s.lines);
      at = s.at ∙ ap suc (sym (length-append items s.items));
      most = let m = s.most in omega (arith, length-append items s.items);
      left = λ nothing. absurd (let some = s.left in omega (arith, ap length nothing, length-append s.rest more));
      none = λ room. s.none (omega (arith, length-append items s.items)) more;
    }

    stopped : (e : LinesError) → StopsLines is_item limit bytes items e → ReadsLines is_item limit left (Err e)
    stopped ReadFault s = absurd s
    stopped (BadLine number) s = any_end is_item limit left now (c.came ++ piece) number came_gave (came_bad number s)
    stopped OutOfMemory s = told_none is_item limit left OutOfMemory (λ bytes. tt)

    -- a line of it is none
    pub stops_by : (r : Answer A) (e : LinesError) → IsErrAnd r (λ x. x ≡ e) → StopsLines is_item limit bytes items e → ReadsLines is_item limit left r
    stops_by (Ok x) e is s = absurd is
    stops_by (Err x) e is s = subst (λ (z : LinesError). ReadsLines is_item limit left (Err z)) (sym is) (stopped e s)

    -- nothing more came
    pub ended : (a : Answer A) → bytes ≡ held → IsAtEnd now → EndsLines items (length held) a → ReadsLines is_item limit left a
    ended a same end ends = at_end is_item limit left now (c.came ++ piece) a came_gave end (gives a ends)
      where
        gives : (a : Answer A) → EndsLines items (length held) a → GivesLines is_item limit (c.came ++ piece) a
        gives (Ok all) (is, some, none) = record {
          lines = subst (BeginsLines is_item (c.came ++ piece) all.items) (same ∙ no_bytes held none) (subst (λ (z : List A). BeginsLines is_item (c.came ++ piece) z bytes) (sym is) came_lines);
          some = subst (λ (z : List A). 1 ≤ length z) (sym is) some;
          most = subst (λ (z : List A). length z ≤ limit) (sym is) c.few;
        }
        gives (Err (BadLine number)) (is, or_none) = record {
          items = items;
          rest = bytes;
          lines = came_lines;
          at = omega (arith, is);
          most = c.few;
          left = λ nothing. or_none (sym (ap length same) ∙ ap length nothing);
          none = λ room has. open_none form bytes (subst (IsOpen longest) (sym same) c.open_rest) has;
        }
        gives (Err ReadFault) ends = absurd ends
        gives (Err OutOfMemory) ends = absurd ends

  -- as many lines as before are no bytes
  pub none_used : (bytes : List ℕ) (old new : List A) (used : ℕ) → TakesLines is_item longest limit bytes old new used
      → (length old ≤ length new) × (length new ≡ length old → used ≡ 0)
  none_used bytes old new used t = (omega (arith, many), λ same. by t.taken.items (omega (arith, many, same)) t.taken.lines)
    where
      many : length new ≡ length old + length t.taken.items
      many = ap length t.taken.added ∙ length-append old t.taken.items

      by : (items : List A) → length items ≡ 0 → BeginsLines is_item bytes items (drop used bytes) → used ≡ 0
      by [] none same = let within = t.taken.within in omega (arith, ap length same, length-drop used bytes, within)
      by (x ∷ items) none lines = absurd (omega (arith, none))
