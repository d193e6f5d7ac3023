-- `chain` is done exactly where the headers are one chain that has the hashes of the pins.
use Rattle.std.proofs.Common.{◌≡◌, ◌+◌, ◌-◌, ◌≤◌, ℕ, List, length, Option, Some, None, inl, inr, refl, sym, subst, ◌∙◌, arith}
use Rattle.ots_chain.specs.Chain.{AreGood, IsCheckOf, hash_of}
use Rattle.ots_chain.specs.declared.checking.ChainCheck.TheVariants as check
use Rattle.ots_chain.specs.declared.pins.Pin.{Pin}
use Rattle.ots_checking.specs.Chain.{ChecksChain, ChecksFile, failing_of, HasPerhapsPins, is_broken, pin_fails, is_whole, WithPerhapsPins}
use Rattle.ots_checking.specs.WholeChain.{HasWholeChain}
use Rattle.ots_checking.proofs.OneAnswer.{given_perhaps_pins, given_table, whole_or_not}
use Rattle.ots_client_endings.specs.Ending.{Ending, printing}
use Rattle.ots_client_endings.specs.Outcome.{IsDoneExactlyWhere}
use Rattle.ots_client_endings.specs.Reading.{RefusesInput, no_file, refuses, is_given, is_refused}
use Rattle.ots_client_endings.specs.Runs.{Moment, Runs}
use Rattle.ots_client_endings.proofs.Outcome.{MayEnd, only_prints, outcome}
use Rattle.ots_client_inputs.specs.Headers.{RefusesTable, cut, too_many}
use Rattle.ots_client_inputs.specs.Inputs.{Input}
use Rattle.ots_client_inputs.specs.Pins.{RefusesPins}
use Rattle.ots_client_text.specs.declared.status.Status.{Status}
use Rattle.ots_client_text.specs.declared.status.Status.TheVariants.{Done, NoFile, BadHeaders, Broken, BadPins, PinFails}
use Rattle.ots_client_words.specs.Words.{Chaining}
use Rattle.ots_headers.specs.HeaderTable.{Table}
use Rattle.ots_headers.specs.TableRead.{IsTableOf}
use Rattle.ots_inputs.specs.Under.{HasUnder}
use Rattle.ots_outside.specs.Shelf.{Names}

-- good headers have a check that is whole
whole_check : (t : Table) → 1 ≤ length t.headers → AreGood t (t.first + length t.headers) → (last : ℕ) × (tip : List ℕ) × IsCheckOf t (check.Whole t.first last tip)
whole_check t some good =
    let last = t.first + length t.headers - 1 in
    let end : last + 1 ≡ t.first + length t.headers = omega (arith, some) in
    let tip = good last (omega (arith, some)) (omega (arith, some)) in
    (last, hash_of tip.header, (refl, end, subst (AreGood t) (sym end) good, record { header = tip.header; there = tip.there; hash = refl }))

module _ (names : Names) (c : Chaining) (e : Ending) (s : Status) (may : MayEnd e s) where
  -- where all is well, the ending is Done
  is_done : (t : Table) (pins : Option (List Pin)) → 1 ≤ length t.headers → AreGood t (t.first + length t.headers) → failing_of t pins ≡ None → ChecksChain t pins e → s ≡ Done
  is_done t pins some good held (is_broken height fault is f) =
      let whole = whole_check t some good in absurd (whole_or_not t t.first whole.0 height whole.1 fault whole.2 is)
  is_done t pins some good held (pin_fails first last tip height is fails f) = absurd (let clash : Some height ≡ None = sym fails ∙ held in cc)
  is_done t pins some good held (is_whole first last tip is none f) = only_prints e s Done _ f may

  done_where : HasWholeChain names c → ChecksFile (Some names) c e → s ≡ Done
  done_where has h =
      let given = given_table names c.headers _ has.table e has.of_headers h in
      is_done has.table has.pins has.of_headers.2.limits.some has.good has.held (given_perhaps_pins names c.pins (ChecksChain has.table) has.pins e has.of_pins given)

  module _ (done : s ≡ Done) where
    other : (t : Status) (text : List ℕ) → e ≡ printing t text → t ≡ Done
    other t text is = sym (only_prints e s t text is may) ∙ done

    of_chain : (t : Table) (pins : Option (List Pin)) → HasUnder (Some names) c.headers.name (λ bytes. IsTableOf c.headers.first bytes t) → HasPerhapsPins (Some names) c.pins pins
        → ChecksChain t pins e → HasWholeChain names c
    of_chain t pins headers has (is_broken height fault is f) = absurd (let clash = other (Broken height fault) _ f in cc)
    of_chain t pins headers has (pin_fails first last tip height is fails f) = absurd (let clash = other (PinFails height) _ f in cc)
    of_chain t pins headers has (is_whole first last tip is none f) = record {
      table = t;
      pins = pins;
      of_headers = headers;
      of_pins = has;
      good = subst (AreGood t) is.1 is.2;
      held = none;
    }

    of_refused : (name : List ℕ) (Refuses : List ℕ → Status → Type 0) → ((bytes : List ℕ) (t : Status) → Refuses bytes t → t ≡ Done → ⊥) → RefusesInput (Some names) name Refuses e → ⊥
    of_refused name Refuses never (no_file none f) = let clash = other NoFile _ f in cc
    of_refused name Refuses never (refuses t has f) = never has.0 t has.2 (other t _ f)

    no_table : (bytes : List ℕ) (t : Status) → RefusesTable bytes t → t ≡ Done → ⊥
    no_table bytes t (cut is f) same = let clash : BadHeaders (length bytes) ≡ Done = sym f ∙ same in cc
    no_table bytes t (too_many long f) same = let clash = sym f ∙ same in cc

    no_pins : (bytes : List ℕ) (t : Status) → RefusesPins bytes t → t ≡ Done → ⊥
    no_pins bytes t (n, bad, f) same = let clash : BadPins n ≡ Done = sym f ∙ same in cc

    of_pins : (t : Table) (name : Option (List ℕ)) → ((pins : Option (List Pin)) → HasPerhapsPins (Some names) name pins → ChecksChain t pins e → HasWholeChain names c)
        → WithPerhapsPins (Some names) name (ChecksChain t) e → HasWholeChain names c
    of_pins t None then h = then None tt h
    of_pins t (Some name) then (is_given pins has h) = then (Some pins) has h
    of_pins t (Some name) then (is_refused h) = absurd (of_refused name RefusesPins no_pins h)

    where_done : ChecksFile (Some names) c e → HasWholeChain names c
    where_done (is_given t has h) = of_pins t c.pins (λ pins. of_chain t pins has) h
    where_done (is_refused h) = absurd (of_refused c.headers.name RefusesTable no_table h)

pub chain_exactly : (names : Names) (c : Chaining) (inputs : List Input) (old new : Moment) (r : Status) → old.shelf.names ≡ Some names
    → Runs (λ told. ChecksFile told c) inputs old new r → IsDoneExactlyWhere old new (HasWholeChain names c) r
chain_exactly names c inputs old new r told h = elim (outcome (λ t. ChecksFile t c) inputs old new r h) [
  | inr excused ↦ inr excused
  | inl (e, a, may) ↦
      let answer = subst (λ (z : Option Names). ChecksFile z c e) told a in
      inl (λ done. where_done names c e r may done answer, λ has. done_where names c e r may has answer)
]
