-- What a journal keeps through the two durable writes of an append.
use Rattle.std.proofs.Common.{◌≡◌, ℕ, ◌+◌, ◌≤◌, true, false, List, [], ◌∷◌, ◌++◌, length, sym, ◌∙◌, ap, subst, arith, Option, Some, length-append}
use Rattle.std.specs.Option.{option_map}
use Rattle.ots_base.specs.Told.{IfTold}
use Rattle.ots_disk.specs.Disk.{put, Torn, After}
use Rattle.ots_disk.specs.Moments.{if_told, before_step}
use Rattle.ots_journal.specs.declared.entry.Entry.{Entry}
use Rattle.ots_journal.specs.Image.{open_gate, prefix, FitsGroup, group_body}
use Rattle.ots_journal.specs.Journal.{AtGate, Keeps, StandsForEither, size_with}
use Rattle.ots_journal.proofs.Gates.{room_after}
use Rattle.ots_journal.proofs.Groups.{entries_push, fit_push, length-prefix_push}
use Rattle.ots_journal.proofs.Standing.{Staged, torn_body, put_body, torn_opening, put_opening, stands_either}

module _ (images : List ℕ → Type 0) (entries before flight : List Entry) (gate : ℕ) (k : Keeps images entries before true gate) (fits : FitsGroup flight) where
  abbrev body : List ℕ
  body = group_body flight ++ 0 ∷ []

  pub room_for_body : (told : Option (List ℕ)) → ((b : List ℕ) → told ≡ Some b → images b) → IfTold told (λ b. gate + 1 ≤ length b)
  room_for_body told law = if_told told (λ b. gate + 1 ≤ length b) (λ b is. let at = k.each b (law b is) in omega (arith, room_after (prefix k.groups) at.gate at.rest b at.whole, k.place))

  in_flight : (later : List ℕ → Type 0) (all group : List Entry) → all ≡ entries → group ≡ flight → ((c : List ℕ) → later c → AtGate k.groups flight false c) → Keeps later all group false gate
  in_flight later all group is_all is_group each = record {
    groups = k.groups;
    fit = k.fit;
    joined = is_all ∙ k.joined;
    place = k.place;
    none_in_flight = λ is. absurd (cc);
    flight_fits = λ _. subst FitsGroup (sym is_group) fits;
    each = λ c image. subst (λ (g : List Entry). AtGate k.groups g false c) (sym is_group) (each c image);
  }

  either : (c : List ℕ) → AtGate k.groups flight false c → StandsForEither entries flight c
  either c at = subst (λ (es : List Entry). StandsForEither es flight c) (sym k.joined) (stands_either k.groups flight false c k.fit fits at)

  body_torn : (n : ℕ) (c : List ℕ) → After (Torn (gate + 1) n) images c → AtGate k.groups flight false c
  body_torn n c after = torn_body k.groups before flight n after.0 c (k.each after.0 after.1) (subst (λ (p : ℕ). Torn (p + 1) n after.0 c) k.place after.2)

  -- the first write
  pub body_moment : (n : ℕ) (c : List ℕ) → After (Torn (gate + 1) n) images c → StandsForEither entries flight c
  body_moment n c after = either c (body_torn n c after)

  pub body_failed : (later : List ℕ → Type 0) (all group : List Entry) (n : ℕ) → all ≡ entries → group ≡ flight → ((c : List ℕ) → later c → After (Torn (gate + 1) n) images c) → Keeps later all group false gate
  body_failed later all group n is_all is_group torn = in_flight later all group is_all is_group (λ c image. body_torn n c (torn c image))

  staged_told : (told wrote : Option (List ℕ)) (piece : List ℕ) → piece ≡ body → ((b : List ℕ) → told ≡ Some b → images b) → wrote ≡ option_map (put (gate + 1) piece) told → (c : List ℕ) → wrote ≡ Some c → Staged k.groups flight c
  staged_told told wrote piece is_body law written c is =
      let was = before_step (put (gate + 1) piece) told c (sym written ∙ is) in
      let same : c ≡ put (length (prefix k.groups) + 1) body was.0 = was.2 ∙ ap (λ (p : ℕ). put (p + 1) piece was.0) k.place ∙ ap (λ (l : List ℕ). put (length (prefix k.groups) + 1) l was.0) is_body in
      subst (λ (l : List ℕ). Staged k.groups flight l) (sym same) (put_body k.groups before flight was.0 (k.each was.0 (law was.0 was.1)))

  -- the second, over what the first left
  module _ (told wrote : Option (List ℕ)) (staged : List ℕ → Type 0) (piece : List ℕ) (is_body : piece ≡ body) (law : (b : List ℕ) → told ≡ Some b → images b)
      (written : wrote ≡ option_map (put (gate + 1) piece) told) (only : (c : List ℕ) → staged c → wrote ≡ Some c) where
    is_staged : (c : List ℕ) → staged c → Staged k.groups flight c
    is_staged c image = staged_told told wrote piece is_body law written c (only c image)

    pub room_for_gate : IfTold wrote (λ b. gate ≤ length b)
    room_for_gate = if_told wrote (λ b. gate ≤ length b) (λ b is. let s = staged_told told wrote piece is_body law written b is in omega (arith, k.place, ap length s.whole, length-append (prefix k.groups) (s.gate ∷ (body ++ s.rest))))

    gate_torn : (c : List ℕ) → After (Torn gate 1) staged c → AtGate k.groups flight false c
    gate_torn c after = torn_opening k.groups flight after.0 c (is_staged after.0 after.1) (subst (λ (p : ℕ). Torn p 1 after.0 c) k.place after.2)

    pub gate_moment : (c : List ℕ) → After (Torn gate 1) staged c → StandsForEither entries flight c
    gate_moment c after = either c (gate_torn c after)

    pub gate_failed : (later : List ℕ → Type 0) (all group : List Entry) → all ≡ entries → group ≡ flight → ((c : List ℕ) → later c → After (Torn gate 1) staged c) → Keeps later all group false gate
    gate_failed later all group is_all is_group torn = in_flight later all group is_all is_group (λ c image. gate_torn c (torn c image))

    pub keeps_put : (opened : Option (List ℕ)) (later : List ℕ → Type 0) (all none : List Entry) (next : ℕ) → all ≡ entries ++ flight → none ≡ [] → next + 1 ≡ size_with gate flight
        → opened ≡ option_map (put gate (open_gate ∷ [])) wrote → ((c : List ℕ) → later c → opened ≡ Some c) → Keeps later all none true next
    keeps_put opened later all none next is_all is_none is_next is_opened only_opened = record {
      groups = k.groups ++ flight ∷ [];
      fit = fit_push k.groups flight k.fit fits;
      joined = is_all ∙ ap (λ (l : List Entry). l ++ flight) k.joined ∙ sym (entries_push k.groups flight);
      place = omega (arith, is_next, k.place, length-prefix_push k.groups flight);
      none_in_flight = λ _. is_none;
      flight_fits = λ is. absurd (cc);
      each = λ c image.
          let was = before_step (put gate (open_gate ∷ [])) wrote c (sym is_opened ∙ only_opened c image) in
          let s = staged_told told wrote piece is_body law written was.0 was.1 in
          let same : c ≡ put (length (prefix k.groups)) (open_gate ∷ []) was.0 = was.2 ∙ ap (λ (p : ℕ). put p (open_gate ∷ []) was.0) k.place in
          subst (λ (g : List Entry). AtGate (k.groups ++ flight ∷ []) g true c) (sym is_none)
          (subst (λ (l : List ℕ). AtGate (k.groups ++ flight ∷ []) [] true l) (sym same) (put_opening k.groups flight was.0 s));
    }
