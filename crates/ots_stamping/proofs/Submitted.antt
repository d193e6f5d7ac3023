-- How it ends that files were submitted to calendars.
use Rattle.std.proofs.Common.{◌≡◌, ◌⊎◌, ℕ, suc, List, [], ◌∷◌, length, Option, Some, None, inl, inr, refl, sym, ap, subst, ◌∙◌, arith}
use Rattle.std.proofs.lemmas.List.{length-map}
use Rattle.std.specs.Prelude.{map, IfOk, Result, Ok, Err}
use Rattle.ots_base.specs.Cause.{Rose}
use Rattle.ots_base.specs.declared.out_of_memory.OutOfMemory.{OutOfMemory as NoMemory}
use Rattle.ots_arguments.specs.Values.{texts}
use Rattle.ots_client_endings.specs.Ending.{Ending, refused}
use Rattle.ots_client_endings.specs.Outside.{Draws, DrawsOrFails, DrawsSome, Happens, Outside, alone}
use Rattle.ots_client_endings.specs.Reading.{is_list}
use Rattle.ots_client_endings.specs.Runs.{Finishes, Moment}
use Rattle.ots_client_text.specs.declared.status.Status.{Status}
use Rattle.ots_client_text.specs.declared.status.Status.TheVariants.{NonceFault}
use Rattle.ots_client_words.specs.Words.{Stamping, read_stamping}
use Rattle.ots_client_words.specs.declared.command.Stamping.{Stamping as Asked}
use Rattle.ots_merkle.specs.CalendarTree.{root}
use Rattle.ots_outside.specs.Dialer.{DialerTold}
use Rattle.ots_outside.specs.Shelf.{Names}
use Rattle.ots_stamping.specs.Answered as answered
use Rattle.ots_stamping.specs.Answered.{AnswersTo, EndsStamping, IsSubmissionOf, Submits}
use Rattle.ots_stamping.specs.Asking.{StampsUpTo}
use Rattle.ots_stamping.specs.Hashing.{are_hashed}
use Rattle.ots_stamping.specs.Stamp.{Stamps, StampsFiles, StampsFilesAs, no_nonce, stamped, too_few}
use Rattle.ots_stamping.specs.declared.submission.Submission.{Submission}
use Rattle.ots_asking.specs.Conversation.{Converse, ConverseUpTo, Question}
use Rattle.ots_stamp.specs.Stamped.{leaves}
use Rattle.ots_stamp.specs.Stamping.{to_stamp}
use Rattle.ots_stamp.specs.Ways.{IsDepth}
use Rattle.ots_asking.specs.declared.outcome.Outcome.{Outcome}
use Rattle.ots_stamp.specs.declared.target.Target.{Target}

module _ {D : Type 0} (told : D → DialerTold) (faults : D → ℕ) where
  -- each question has an outcome
  pub as_many_heard : (qs : List Question) (old new : D) (os : List Outcome) → Converse told faults qs old new os → length os ≡ length qs
  as_many_heard [] old new [] h = refl
  as_many_heard [] old new (x ∷ os) h = absurd h
  as_many_heard (q ∷ qs) old new [] h = absurd h
  as_many_heard (q ∷ qs) old new (x ∷ os) h = ap suc (as_many_heard qs h.0 new os h.2)

  same_told : (old new : D) → new ≡ old → ConverseUpTo told faults [] old new
  same_told old new is = record {
    sent = ap (λ d. (told d).sent) is;
    replies = ap (λ d. (told d).replies) is;
    slots = λ k. ap (λ d. (told d).slots k) is;
    later = let same = ap faults is in omega (arith, same);
  }

  -- All of it was asked.
  pub all_asked : (qs : List Question) (old new : D) (os : List Outcome) → Converse told faults qs old new os → ConverseUpTo told faults qs old new
  all_asked [] old new [] h = same_told old new h
  all_asked [] old new (x ∷ os) h = absurd h
  all_asked (q ∷ qs) old new [] h = absurd h
  all_asked (q ∷ qs) old new (x ∷ os) h = inr (inr (h.0, x, h.1, all_asked qs h.0 new os h.2))

  module _ {N : Type 0} (left : N → Option (List ℕ)) (draw_faults : N → ℕ) where
    -- nothing is drawn, and nobody heard
    pub unheard : (names : Option Names) (s : Stamping) (d : D) (n : N) (e : Ending) → StampsFiles alone names s e
        → StampsFilesAs (Happens told faults left draw_faults d d n n) names s e
    unheard names s d n e h = (alone, record { heard = refl; drawn = refl }, h)

    module _ {names : Option Names} {s : Stamping} (i : Submission) (is : IsSubmissionOf names s i) (old new : D) (m n : N) where
      of_submission : (o : Outside) (e : Ending) → Stamps o i.least (texts i.files.items) i.calendars.items i.digests.items e → StampsFiles o names s e
      of_submission o e h = is_list i.calendars.items is.is_list (are_hashed i.digests.items is.hashed
          (subst (λ (z : ℕ). Stamps o z s.files i.calendars.items i.digests.items e) is.least
          (subst (λ (z : List (List ℕ)). Stamps o i.least z i.calendars.items i.digests.items e) is.files h)))

      -- drawing a nonce failed
      pub not_drawn : new ≡ old → Rose (draw_faults m) (draw_faults n) → (e : Ending) → e ≡ refused [] NonceFault
          → StampsFilesAs (Happens told faults left draw_faults old new m n) names s e
      not_drawn same rose e f =
          let o : Outside = record { nonces = None; questions = []; outcomes = [] } in
          (o, record { heard = same; drawn = rose }, of_submission o e (no_nonce refl refl f))

      module _ (targets : List Target) (digests : map (λ t. t.digest) targets ≡ i.digests.items) (drawn : Draws left (map (λ t. t.nonce) targets) m n) where
        ends_as : (depth : ℕ) → IsDepth (leaves targets) depth → (outcomes : List Outcome) (e : Ending) → EndsStamping i targets outcomes e
            → Stamps (record { nonces = Some (map (λ t. t.nonce) targets); questions = map (to_stamp (root (leaves targets)) depth) i.calendars.items; outcomes = outcomes })
            i.least (texts i.files.items) i.calendars.items i.digests.items e
        ends_as depth deep outcomes e (answered.too_few few f) =
            too_few targets (record { digests_are = digests; nonces_are = refl; depth = depth; depth_is = deep; questions_are = refl }) few f
        ends_as depth deep outcomes e (answered.enough enough f) =
            stamped targets (record { digests_are = digests; nonces_are = refl; depth = depth; depth_is = deep; questions_are = refl }) enough f

        pub stamps_as : (e : Ending) → AnswersTo told faults i targets old new e → StampsFilesAs (Happens told faults left draw_faults old new m n) names s e
        stamps_as e h =
            let o : Outside = record { nonces = Some (map (λ t. t.nonce) targets); questions = map (to_stamp (root (leaves targets)) h.depth) i.calendars.items; outcomes = h.outcomes } in
            (o, record { heard = h.conversed; drawn = drawn }, of_submission o e (ends_as h.depth h.depth_is h.outcomes e h.ends))

        pub submits_as : (new ≡ old) ⊎ Submits told faults i targets old new → (new ≡ old) ⊎ StampsUpTo told faults left names s old new m n
        submits_as (inl same) = inl same
        submits_as (inr h) = inr (record {
          calendars = i.calendars.items;
          is_list = is.is_list;
          digests = i.digests.items;
          are_hashed = is.hashed;
          targets = targets;
          digests_are = digests;
          drawn = drawn;
          depth = h.depth;
          depth_is = h.depth_is;
          asks = h.asks;
        })

-- drawing a nonce failed in what happened
pub fault_drawn : {D N : Type 0} {told : D → DialerTold} {faults : D → ℕ} {left : N → Option (List ℕ)} {draw_faults : N → ℕ} {old new : D} {m n : N} (o : Outside)
    → Happens told faults left draw_faults old new m n o → o.nonces ≡ None → Rose (draw_faults m) (draw_faults n)
fault_drawn {left = left} {draw_faults = draw_faults} {m = m} {n = n} o h none = subst (λ (z : Option (List (List ℕ))). DrawsOrFails left draw_faults z m n) none h.drawn

-- a nonce for each digest is one for each file
pub draws_for : {N : Type 0} (left : N → Option (List ℕ)) {names : Option Names} (asked : Asked) (i : Submission) (digests : List (List ℕ)) (m n : N) → IsSubmissionOf names (read_stamping asked) i
    → digests ≡ i.digests.items → DrawsSome left (length digests) m n → DrawsSome left (length (texts asked.files.items)) m n
draws_for left asked i digests m n is same h =
    let all : length digests ≡ length (texts asked.files.items) = ap length same ∙ i.each ∙ sym (length-map i.files.items _) ∙ ap length is.files in
    subst (λ (z : ℕ). DrawsSome left z m n) all h

-- What a run finishes with is seen as something else.
pub finishes_as : (P Q : Ending → Type 0) (old new : Moment) (r : Result Status NoMemory) → ((e : Ending) → P e → Q e) → IfOk r (Finishes P old new) → IfOk r (Finishes Q old new)
finishes_as P Q old new (Err ran) f h = tt
finishes_as P Q old new (Ok s) f h = record {
  ending = h.ending;
  is = f h.ending h.is;
  out = h.out;
  opened = h.opened;
  slots = h.slots;
  short = h.short;
  counts = h.counts;
  writing = h.writing;
  lost = h.lost;
}
