-- How a run that carries out an ending ends.
use Rattle.std.proofs.Common.{◌≡◌, ◌⊎◌, inl, inr, ℕ, List, [], ◌∷◌, take, Bool, cond, Option, Some, None, is_some, refl, sym, ap, subst, ◌∙◌}
use Rattle.std.specs.Prelude.{IsSome, if◌then◌else◌}
use Rattle.std.proofs.lemmas.Bool.{false≢true}
use Rattle.std.specs.FinMap as map
use Rattle.std.specs.Cmp.Lexicographic.{nat_list_cmp_total}
use Rattle.ots_base.specs.Cause.{Rose}
use Rattle.ots_outside.specs.Shelf.{Names, ShelfFaults}
use Rattle.ots_outside.proofs.Names.{get-insert_other, is_name-self}
use Rattle.ots_detached.specs.File.{file_of}
use Rattle.ots_client_text.specs.declared.status.Status.{Status}
use Rattle.ots_client_text.specs.declared.status.Status.TheVariants.{Done, No, Exists, ReadFault, WriteFault, TooBig, OutOfMemory}
use Rattle.ots_client_endings.specs.CarriedOut.{CarriesOut, carried_out, no_memory, MakesThen, PrintsLast, status_over}
use Rattle.ots_client_endings.specs.Ending.{Act, Ending, makes, makes_stamp, printing, prints}
use Rattle.ots_client_endings.specs.Outcome.{Excused, IsDoneOrNo, Leaves}
use Rattle.ots_client_endings.specs.Runs.{as_defined, not_read, Moment, Runs}
use Rattle.ots_client_inputs.specs.Inputs.{Input, names_in}
use Rattle.ots_inputs.specs.Opened.{StopsAt, not_opened, opened_last}

-- ---- the status

-- some act makes a file
abbrev pub Makes : List Act → Type 0
Makes [] = ⊥
Makes (prints text ∷ acts) = Makes acts
Makes (makes name bytes ∷ acts) = Unit {0}
Makes (makes_stamp targets trees i name ∷ acts) = Unit {0}

-- the status where the outside does not fail: that of the ending, or that of a file that is not made
abbrev pub MayEndAt : List Act → Status → Status → Type 0
MayEndAt acts s r = (r ≡ s) ⊎ (Makes acts × ((r ≡ Exists) ⊎ (r ≡ TooBig)))

abbrev pub MayEnd : Ending → Status → Type 0
MayEnd e r = MayEndAt e.acts e.status r

-- that of a write that failed, or of want of memory
abbrev pub Fails : Type 0 → Type 0 → Status → Type 0
Fails writing lost r = ((writing ⊎ lost) × (r ≡ WriteFault)) ⊎ (r ≡ OutOfMemory)

abbrev MayStop : Type 0 → Type 0 → List Act → Status → Status → Type 0
MayStop writing lost acts s r = MayEndAt acts s r ⊎ Fails writing lost r

more_acts : (writing lost : Type 0) (acts more : List Act) (s r : Status) → Makes more → MayStop writing lost acts s r → MayStop writing lost more s r
more_acts writing lost acts more s r some (inl (inl same)) = inl (inl same)
more_acts writing lost acts more s r some (inl (inr h)) = inl (inr (some, h.1))
more_acts writing lost acts more s r some (inr failed) = inr failed

made_status : (writing lost : Type 0) (acts : List Act) (s : Status) (name bytes : List ℕ) (goes_on : Option Names → Type 0) (old new : Option Names)
    (taken now : Option (List ℕ)) (r : Status) → Makes acts → ((mid : Option Names) → goes_on mid → MayStop writing lost acts s r)
    → MakesThen writing lost name bytes goes_on old new taken now r → MayStop writing lost acts s r
made_status writing lost acts s name bytes goes_on old new taken now r some further (inl h) = further _ h.1
made_status writing lost acts s name bytes goes_on old new taken now r some further (inr (inl (there, same, inl last))) = inl (inr (some, inl last.1))
made_status writing lost acts s name bytes goes_on old new taken now r some further (inr (inl (there, same, inr last))) = inr (inl (inr last.0, last.2))
made_status writing lost acts s name bytes goes_on old new taken now r some further (inr (inr (inl (fault, absent, same, inl last)))) = inr (inl (inl fault, last.1))
made_status writing lost acts s name bytes goes_on old new taken now r some further (inr (inr (inl (fault, absent, same, inr last)))) = inr (inl (inl fault, last.2))
made_status writing lost acts s name bytes goes_on old new taken now r some further (inr (inr (inr none))) = inr (inr none.2)

pub carried_status : (writing lost : Type 0) (s : Status) (acts : List Act) (old new : Option Names) (taken now : Option (List ℕ)) (r : Status)
    → CarriesOut writing lost s acts old new taken now r → MayStop writing lost acts s r
carried_status writing lost s [] old new taken now r h = inl (inl h.2)
carried_status writing lost s (prints text ∷ acts) old new taken now r (inl h) = carried_status writing lost s acts old new h.0 now r h.2
carried_status writing lost s (prints text ∷ acts) old new taken now r (inr h) = inr (inl (inr h.1, h.3))
carried_status writing lost s (makes name bytes ∷ acts) old new taken now r h =
    made_status writing lost (makes name bytes ∷ acts) s name bytes _ old new taken now r tt
    (λ mid k. more_acts writing lost acts (makes name bytes ∷ acts) s r tt (carried_status writing lost s acts mid new taken now r k)) h
carried_status writing lost s (makes_stamp targets trees i name ∷ acts) old new taken now r (inl (p, stamp, file, h)) =
    made_status writing lost (makes_stamp targets trees i name ∷ acts) s name (file_of p) _ old new taken now r tt
    (λ mid k. more_acts writing lost acts (makes_stamp targets trees i name ∷ acts) s r tt (carried_status writing lost s acts mid new taken now r k)) h
carried_status writing lost s (makes_stamp targets trees i name ∷ acts) old new taken now r (inr (inl (p, stamp, long, same, inl last))) = inl (inr (tt, inr last.1))
carried_status writing lost s (makes_stamp targets trees i name ∷ acts) old new taken now r (inr (inl (p, stamp, long, same, inr last))) = inr (inl (inr last.0, last.2))
carried_status writing lost s (makes_stamp targets trees i name ∷ acts) old new taken now r (inr (inr none)) = inr (inr none.2)

-- an ending that only prints
pub only_prints : (e : Ending) (s t : Status) (text : List ℕ) → e ≡ printing t text → MayEnd e s → s ≡ t
only_prints e s t text is (inl same) = same ∙ ap (λ (z : Ending). z.status) is
only_prints e s t text is (inr (some, not_made)) = absurd (let none : Makes (prints text ∷ []) = subst (λ (z : Ending). Makes z.acts) is some in none)

-- a read that stopped at a name has counted a fault
pub stop_rose : (reads : List (List ℕ)) (opened opens : Option (List (List ℕ))) (before now : ShelfFaults) (name : List ℕ) → StopsAt reads opened opens before now name
    → Rose before.opening now.opening ⊎ Rose before.reading now.reading
stop_rose reads opened opens before now name (not_opened earlier later is at rose) = inl rose
stop_rose reads opened opens before now name (opened_last earlier later is at rose) = inr rose

pub excused : (old new : Moment) (r : Status) → Fails (Rose old.faults.writing new.faults.writing) (Rose old.lost new.lost) r → Excused old new r
excused old new r (inl h) = subst (Excused old new) (sym h.1) h.0
excused old new r (inr is) = subst (Excused old new) (sym is) tt

-- The run ended as one of its answers may, or failed.
pub outcome : (answers : Option Names → Ending → Type 0) (inputs : List Input) (old new : Moment) (r : Status)
    → Runs answers inputs old new r → ((e : Ending) × answers old.shelf.names e × MayEnd e r) ⊎ Excused old new r
outcome answers inputs old new r h = elim h.ends [
  | no_memory is same kept ↦ inr (subst (Excused old new) (sym is) tt)
  | carried_out e (as_defined a) k ↦ (elim (carried_status _ _ e.status e.acts _ _ _ _ r k) [
    | inl may ↦ inl (e, a, may)
    | inr failed ↦ inr (excused old new r failed)
  ])
  | carried_out e (not_read name stops is) k ↦ (elim (carried_status _ _ e.status e.acts _ _ _ _ r k) [
    | inl may ↦ inr (subst (Excused old new) (sym (only_prints e r ReadFault _ is may)) (stop_rose (names_in inputs) _ _ _ _ name stops))
    | inr failed ↦ inr (excused old new r failed)
  ])
]

-- ---- the status over the names

-- no proof of a stamped file is made
abbrev pub IsPlain : List Act → Type 0
IsPlain [] = Unit {0}
IsPlain (prints text ∷ acts) = IsPlain acts
IsPlain (makes name bytes ∷ acts) = IsPlain acts
IsPlain (makes_stamp targets trees i name ∷ acts) = ⊥

last_status : (writing lost : Type 0) (s t r : Status) (text : List ℕ) (taken now : Option (List ℕ)) → PrintsLast lost t text taken now r → (r ≡ t → (r ≡ s) ⊎ Fails writing lost r)
    → (r ≡ s) ⊎ Fails writing lost r
last_status writing lost s t r text taken now (inl whole) f = f whole.1
last_status writing lost s t r text taken now (inr prefix) f = inr (inl (inr prefix.0, prefix.2))

pub over_names : (writing lost : Type 0) (s : Status) (acts : List Act) (names : Names) (new : Option Names) (taken now : Option (List ℕ)) (r : Status)
    → IsPlain acts → CarriesOut writing lost s acts (Some names) new taken now r → (r ≡ status_over names s acts) ⊎ Fails writing lost r
over_names writing lost s [] names new taken now r plain h = inl h.2
over_names writing lost s (prints text ∷ acts) names new taken now r plain (inl h) = over_names writing lost s acts names new h.0 now r plain h.2
over_names writing lost s (prints text ∷ acts) names new taken now r plain (inr h) = inr (inl (inr h.1, h.3))
over_names writing lost s (makes name bytes ∷ acts) names new taken now r plain (inl (absent, h)) =
    subst (λ (z : Option (List ℕ)). (r ≡ (if is_some z then Exists else status_over (map.insert names name bytes) s acts)) ⊎ Fails writing lost r) (sym absent)
    (over_names writing lost s acts (map.insert names name bytes) new taken now r plain h)
over_names writing lost s (makes name bytes ∷ acts) names new taken now r plain (inr (inl (there, same, last))) =
    last_status writing lost _ Exists r _ taken now last
    (λ is. inl (subst (λ (z : Bool). r ≡ (if z then Exists else status_over (map.insert names name bytes) s acts)) (sym there) is))
over_names writing lost s (makes name bytes ∷ acts) names new taken now r plain (inr (inr (inl (fault, absent, same, last)))) =
    last_status writing lost _ WriteFault r _ taken now last (λ is. inr (inl (inl fault, is)))
over_names writing lost s (makes name bytes ∷ acts) names new taken now r plain (inr (inr (inr none))) = inr (inr none.2)
over_names writing lost s (makes_stamp targets trees i name ∷ acts) names new taken now r plain h = absurd plain

-- ---- the names

-- a status of work that was done is none of these
pub never : (s t : Status) → s ≡ t → (t ≡ Done → ⊥) → (t ≡ No → ⊥) → IsDoneOrNo s → ⊥
never s t is other none (inl h) = other (sym is ∙ h)
never s t is other none (inr h) = none (sym is ∙ h)

-- only texts are printed
abbrev pub Prints : List Act → Type 0
Prints [] = Unit {0}
Prints (prints text ∷ acts) = Prints acts
Prints (makes name bytes ∷ acts) = ⊥
Prints (makes_stamp targets trees i name ∷ acts) = ⊥

printed_all : (writing lost : Type 0) (s : Status) (acts : List Act) (old new : Option Names) (taken now : Option (List ℕ)) (r : Status) → Prints acts → IsDoneOrNo r
    → CarriesOut writing lost s acts old new taken now r → new ≡ old
printed_all writing lost s [] old new taken now r only done h = h.0
printed_all writing lost s (prints text ∷ acts) old new taken now r only done (inl h) = printed_all writing lost s acts old new h.0 now r only done h.2
printed_all writing lost s (prints text ∷ acts) old new taken now r only done (inr h) = absurd (never r WriteFault h.3 (λ clash. cc) (λ clash. cc) done)
printed_all writing lost s (makes name bytes ∷ acts) old new taken now r only done h = absurd only
printed_all writing lost s (makes_stamp targets trees i name ∷ acts) old new taken now r only done h = absurd only

-- a file was made, perhaps between texts, and the work was done
pub done_making : (writing lost : Type 0) (s : Status) (name bytes : List ℕ) (acts : List Act) (names : Names) (new : Option Names) (taken now : Option (List ℕ)) (r : Status)
    → Prints acts → IsDoneOrNo r → CarriesOut writing lost s (makes name bytes ∷ acts) (Some names) new taken now r → new ≡ Some (map.insert names name bytes)
done_making writing lost s name bytes acts names new taken now r only done (inl (absent, h)) = printed_all writing lost s acts _ new taken now r only done h
done_making writing lost s name bytes acts names new taken now r only done (inr (inl (there, same, inl last))) = absurd (never r Exists last.1 (λ clash. cc) (λ clash. cc) done)
done_making writing lost s name bytes acts names new taken now r only done (inr (inl (there, same, inr last))) = absurd (never r WriteFault last.2 (λ clash. cc) (λ clash. cc) done)
done_making writing lost s name bytes acts names new taken now r only done (inr (inr (inl (fault, absent, same, inl last)))) =
    absurd (never r WriteFault last.1 (λ clash. cc) (λ clash. cc) done)
done_making writing lost s name bytes acts names new taken now r only done (inr (inr (inl (fault, absent, same, inr last)))) =
    absurd (never r WriteFault last.2 (λ clash. cc) (λ clash. cc) done)
done_making writing lost s name bytes acts names new taken now r only done (inr (inr (inr none))) = absurd (never r OutOfMemory none.2 (λ clash. cc) (λ clash. cc) done)

-- no act makes another name, and none but these for a stamped file
abbrev pub MakesOnly : (List ℕ → Type 0) → (List ℕ → Type 0) → List Act → Type 0
MakesOnly out stamps [] = Unit {0}
MakesOnly out stamps (prints text ∷ acts) = MakesOnly out stamps acts
MakesOnly out stamps (makes name bytes ∷ acts) = out name × MakesOnly out stamps acts
MakesOnly out stamps (makes_stamp targets trees i name ∷ acts) = out name × stamps name × MakesOnly out stamps acts

pub is_plain : (out stamps : List ℕ → Type 0) → ((name : List ℕ) → stamps name → ⊥) → (acts : List Act) → MakesOnly out stamps acts → IsPlain acts
is_plain out stamps none [] h = tt
is_plain out stamps none (prints text ∷ acts) h = is_plain out stamps none acts h
is_plain out stamps none (makes name bytes ∷ acts) h = is_plain out stamps none acts h.1
is_plain out stamps none (makes_stamp targets trees i name ∷ acts) h = absurd (none name h.1)

leaves_all : (names : Names) (out : List ℕ → Type 0) (new : Option Names) → new ≡ Some names → Leaves names out new
leaves_all names out new same = (names, same, λ name other. refl)

is_there : (o : Option (List ℕ)) → IsSome o → o ≡ None → ⊥
is_there None some none = absurd (false≢true some)
is_there (Some b) some none = cc

pub get_inserted : (names : Names) (name bytes : List ℕ) → map.get (map.insert names name bytes) name ≡ Some bytes
get_inserted names name bytes =
    map.get-insert nat_list_cmp_total names name bytes name ∙ ap (λ b. cond b (Some bytes) (map.get names name)) (is_name-self name)

-- one name more, which was not there
module _ (names : Names) (out : List ℕ → Type 0) (name bytes : List ℕ) (is : out name) (absent : map.get names name ≡ None) where
  differs : (other : List ℕ) → (out other → IsSome (map.get names other)) → other ≡ name → ⊥
  differs other kept same =
      is_there (map.get names name) (subst (λ (z : List ℕ). IsSome (map.get names z)) same (kept (subst out (sym same) is))) absent

  others : (other : List ℕ) → (out other → IsSome (map.get names other)) → map.get (map.insert names name bytes) other ≡ map.get names other
  others other kept = get-insert_other names name bytes other (differs other kept)

  leaves_one : (new : Option Names) → new ≡ Some (map.insert names name bytes) → Leaves names out new
  leaves_one new same = (map.insert names name bytes, same, others)

  leaves_more : (new : Option Names) → Leaves (map.insert names name bytes) out new → Leaves names out new
  leaves_more new h = (
    h.0,
    h.1,
    λ other kept.
        let same = others other kept in
        h.2 other (λ told. subst (λ (z : Option (List ℕ)). IsSome z) (sym same) (kept told)) ∙ same,
  )

made_leaves : (writing lost : Type 0) (names : Names) (out : List ℕ → Type 0) (name bytes : List ℕ) (goes_on : Option Names → Type 0) (new : Option Names)
    (taken now : Option (List ℕ)) (r : Status) → out name → (goes_on (Some (map.insert names name bytes)) → Leaves (map.insert names name bytes) out new)
    → MakesThen writing lost name bytes goes_on (Some names) new taken now r → Leaves names out new
made_leaves writing lost names out name bytes goes_on new taken now r is further (inl (absent, h)) = leaves_more names out name bytes is absent new (further h)
made_leaves writing lost names out name bytes goes_on new taken now r is further (inr (inl (there, same, last))) = leaves_all names out new same
made_leaves writing lost names out name bytes goes_on new taken now r is further (inr (inr (inl (fault, absent, inl same, last)))) = leaves_all names out new same
made_leaves writing lost names out name bytes goes_on new taken now r is further (inr (inr (inl (fault, absent, inr (n, same), last)))) =
    leaves_one names out name (take n bytes) is absent new same
made_leaves writing lost names out name bytes goes_on new taken now r is further (inr (inr (inr none))) = leaves_all names out new none.0

pub carried_leaves : (writing lost : Type 0) (s : Status) (acts : List Act) (names : Names) (out stamps : List ℕ → Type 0) (new : Option Names) (taken now : Option (List ℕ))
    (r : Status) → MakesOnly out stamps acts → CarriesOut writing lost s acts (Some names) new taken now r → Leaves names out new
carried_leaves writing lost s [] names out stamps new taken now r only h = leaves_all names out new h.0
carried_leaves writing lost s (prints text ∷ acts) names out stamps new taken now r only (inl h) = carried_leaves writing lost s acts names out stamps new h.0 now r only h.2
carried_leaves writing lost s (prints text ∷ acts) names out stamps new taken now r only (inr h) = leaves_all names out new h.0
carried_leaves writing lost s (makes name bytes ∷ acts) names out stamps new taken now r only h =
    made_leaves writing lost names out name bytes (λ mid. CarriesOut writing lost s acts mid new taken now r) new taken now r only.0
    (λ k. carried_leaves writing lost s acts (map.insert names name bytes) out stamps new taken now r only.1 k) h
carried_leaves writing lost s (makes_stamp targets trees i name ∷ acts) names out stamps new taken now r only (inl (p, stamp, file, h)) =
    made_leaves writing lost names out name (file_of p) (λ mid. CarriesOut writing lost s acts mid new taken now r) new taken now r only.0
    (λ k. carried_leaves writing lost s acts (map.insert names name (file_of p)) out stamps new taken now r only.2 k) h
carried_leaves writing lost s (makes_stamp targets trees i name ∷ acts) names out stamps new taken now r only (inr (inl h)) = leaves_all names out new h.3
carried_leaves writing lost s (makes_stamp targets trees i name ∷ acts) names out stamps new taken now r only (inr (inr none)) = leaves_all names out new none.0

-- ---- what was made

-- Where the work was done, a file that was to be made was made.
pub made_done : (writing lost : Type 0) (names : Names) (name bytes : List ℕ) (goes_on : Option Names → Type 0) (P : Type 0) (new : Option Names) (taken now : Option (List ℕ))
    (r : Status) → IsDoneOrNo r → (map.get names name ≡ None → goes_on (Some (map.insert names name bytes)) → P)
    → MakesThen writing lost name bytes goes_on (Some names) new taken now r → P
made_done writing lost names name bytes goes_on P new taken now r done further (inl (absent, h)) = further absent h
made_done writing lost names name bytes goes_on P new taken now r done further (inr (inl (there, same, inl last))) =
    absurd (never r Exists last.1 (λ clash. cc) (λ clash. cc) done)
made_done writing lost names name bytes goes_on P new taken now r done further (inr (inl (there, same, inr last))) =
    absurd (never r WriteFault last.2 (λ clash. cc) (λ clash. cc) done)
made_done writing lost names name bytes goes_on P new taken now r done further (inr (inr (inl (fault, absent, same, inl last)))) =
    absurd (never r WriteFault last.1 (λ clash. cc) (λ clash. cc) done)
made_done writing lost names name bytes goes_on P new taken now r done further (inr (inr (inl (fault, absent, same, inr last)))) =
    absurd (never r WriteFault last.2 (λ clash. cc) (λ clash. cc) done)
made_done writing lost names name bytes goes_on P new taken now r done further (inr (inr (inr none))) =
    absurd (never r OutOfMemory none.2 (λ clash. cc) (λ clash. cc) done)

-- another name keeps its bytes
still_there : (names : Names) (kept b name bytes : List ℕ) → map.get names kept ≡ Some b → map.get names name ≡ None → map.get (map.insert names name bytes) kept ≡ Some b
still_there names kept b name bytes at absent =
    get-insert_other names name bytes kept (λ same. let clash : None ≡ Some b = sym absent ∙ ap (map.get names) (sym same) ∙ at in cc) ∙ at

-- Under a name are these bytes at the end.
abbrev pub EndsWith : Option Names → List ℕ → List ℕ → Type 0
EndsWith new name b = (after : Names) × (new ≡ Some after) × (map.get after name ≡ Some b)

pub keeps : (writing lost : Type 0) (s : Status) (acts : List Act) (names : Names) (kept b : List ℕ) (new : Option Names) (taken now : Option (List ℕ)) (r : Status)
    → IsDoneOrNo r → map.get names kept ≡ Some b → CarriesOut writing lost s acts (Some names) new taken now r → EndsWith new kept b
keeps writing lost s [] names kept b new taken now r done at h = (names, h.0, at)
keeps writing lost s (prints text ∷ acts) names kept b new taken now r done at (inl h) = keeps writing lost s acts names kept b new h.0 now r done at h.2
keeps writing lost s (prints text ∷ acts) names kept b new taken now r done at (inr h) = absurd (never r WriteFault h.3 (λ clash. cc) (λ clash. cc) done)
keeps writing lost s (makes name bytes ∷ acts) names kept b new taken now r done at h =
    made_done writing lost names name bytes (λ mid. CarriesOut writing lost s acts mid new taken now r) (EndsWith new kept b) new taken now r done
    (λ absent k. keeps writing lost s acts (map.insert names name bytes) kept b new taken now r done (still_there names kept b name bytes at absent) k) h
keeps writing lost s (makes_stamp targets trees i name ∷ acts) names kept b new taken now r done at (inl (p, stamp, file, h)) =
    made_done writing lost names name (file_of p) (λ mid. CarriesOut writing lost s acts mid new taken now r) (EndsWith new kept b) new taken now r done
    (λ absent k. keeps writing lost s acts (map.insert names name (file_of p)) kept b new taken now r done (still_there names kept b name (file_of p) at absent) k) h
keeps writing lost s (makes_stamp targets trees i name ∷ acts) names kept b new taken now r done at (inr (inl (p, stamp, long, same, inl last))) =
    absurd (never r TooBig last.1 (λ clash. cc) (λ clash. cc) done)
keeps writing lost s (makes_stamp targets trees i name ∷ acts) names kept b new taken now r done at (inr (inl (p, stamp, long, same, inr last))) =
    absurd (never r WriteFault last.2 (λ clash. cc) (λ clash. cc) done)
keeps writing lost s (makes_stamp targets trees i name ∷ acts) names kept b new taken now r done at (inr (inr none)) =
    absurd (never r OutOfMemory none.2 (λ clash. cc) (λ clash. cc) done)
