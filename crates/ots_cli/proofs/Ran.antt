-- What follows from how a run ends.
use Rattle.std.proofs.Common.{◌≡◌, ℕ, List, Option, Some, None, inl, inr, refl, sym, subst, ◌∙◌, arith}
use Rattle.ots_base.specs.Cause.{Rose}
use Rattle.ots_checking.specs.Verified.{RunsShort}
use Rattle.ots_checking.proofs.Chains.{chain_exactly}
use Rattle.ots_checking.proofs.Sampled.{is_sampled}
use Rattle.ots_checking.proofs.Yes.{done_exactly}
use Rattle.ots_cli.specs.Answer.{Answers, inputs_read}
use Rattle.ots_cli.specs.Ran.{BoundsMemory, Ran}
use Rattle.ots_cli.proofs.OneAnswer as one
use Rattle.ots_cli.proofs.ReadsBack as back
use Rattle.ots_cli.proofs.Taken.{are_taken}
use Rattle.ots_client_endings.specs.CarriedOut.{no_memory}
use Rattle.ots_client_endings.specs.Ending.{Ending}
use Rattle.ots_client_endings.specs.Outside.{DrawsOrFails, Happens, Outside}
use Rattle.ots_client_endings.specs.Runs.{IsBrokenOff, Moment, Runs}
use Rattle.ots_client_endings.proofs.Turns.{nothing_yet}
use Rattle.ots_client_inputs.specs.Inputs.{Input}
use Rattle.ots_client_text.specs.declared.status.Status.{Status}
use Rattle.ots_client_text.specs.declared.status.Status.TheVariants.{OutOfMemory}
use Rattle.ots_client_words.specs.Words.{ClientCommand, Verification, verify}
use Rattle.ots_completing.proofs.Concluded as completing
use Rattle.ots_inputs.proofs.Opened.{none_opened}
use Rattle.ots_outside.specs.Dialer.{DialerTold}
use Rattle.ots_outside.specs.Shelf.{Names, ShelfFaults, ShelfTold}
use Rattle.ots_sample.proofs.Yes.{always_yes}
use Rattle.ots_stamping.proofs.Concluded as stamping

-- what is said of want of memory of `verify` alone
pub of_verify : (w : Verification) (old new : ShelfTold) (r : Status) → (r ≡ OutOfMemory → RunsShort w old new) → BoundsMemory (Some (verify w)) old new r
of_verify w old new r h = λ v is memory_ran_out. let same : w ≡ v = cc in subst (λ (z : Verification). RunsShort z old new) same (h memory_ran_out)

pub of_usage : (c : Option ClientCommand) (old new : ShelfTold) (r : Status) → c ≡ None → BoundsMemory c old new r
of_usage c old new r none = λ v is. absurd (let clash : None ≡ Some (verify v) = sym none ∙ is in cc)

pub of_nothing : (c : Option ClientCommand) (told : ShelfTold) (r : Status) → BoundsMemory c told told r
of_nothing c told r = λ v is memory_ran_out. inl (0, none_opened told.opened)

-- Memory ran out, nothing was read, and the sink was left.
pub left_short : {answers : Option Names → Ending → Type 0} {inputs : List Input} (told : ShelfTold) (faults : ShelfFaults) {taken now : Option (List ℕ)} {lost lost_now : ℕ} {r : Status}
    → r ≡ OutOfMemory → now ≡ taken → lost_now ≡ lost
    → Runs answers inputs (record { shelf = told; faults = faults; taken = taken; lost = lost }) (record { shelf = told; faults = faults; taken = now; lost = lost_now }) r
left_short {inputs = inputs} told faults {lost = lost} {lost_now = lost_now} {r = r} memory_ran_out same kept = record {
  ends = no_memory memory_ran_out refl same;
  opened = (0, none_opened told.opened);
  in_turn = nothing_yet (IsBrokenOff faults faults r) inputs told.opened (inr (inr memory_ran_out));
  short = λ not. absurd (not memory_ran_out);
  slots = λ k. refl;
  faults = record { opening = omega arith; reading = omega arith; writing = omega arith };
  lost = omega (arith, kept);
}

-- that a source of nonces failed
pub drawn : {D N : Type 0} (told : D → DialerTold) (faults : D → ℕ) (left : N → Option (List ℕ)) (draw_faults : N → ℕ) (old new : D) (before now : N) (o : Outside)
    → Happens told faults left draw_faults old new before now o → o.nonces ≡ None → Rose (draw_faults before) (draw_faults now)
drawn told faults left draw_faults old new before now o happened none = subst (λ (z : Option (List (List ℕ))). DrawsOrFails left draw_faults z before now) none happened.drawn

-- a run of this command
pub of_command : (happens : Outside → Type 0) (c d : Option ClientCommand) (old new : Moment) (r : Status) → c ≡ d → Runs (Answers happens c) (inputs_read c) old new r
    → Runs (Answers happens d) (inputs_read d) old new r
of_command happens c d old new r is h = subst (λ (z : Option ClientCommand). Runs (Answers happens z) (inputs_read z) old new r) is h

pub ran : (happens : Outside → Type 0) (drawing : Type 0) (c : Option ClientCommand) (old new : Moment) (r : Status) → Runs (Answers happens c) (inputs_read c) old new r
    → BoundsMemory c old.shelf new.shelf r → ((o : Outside) → happens o → o.nonces ≡ None → drawing) → Ran happens drawing c old new r
ran happens drawing c old new r h bounded drawn = record {
  runs = h;
  bounded = bounded;
  exact = λ names e told offline is. one.exact happens names c old new r e told offline is h;
  leaves = λ names told. back.leaves_others happens names c old new r told h;
  takes = λ names d told asks. are_taken happens names d old new r told (of_command happens c (Some d) old new r asks h);
  reads_back = λ names d to told asks out done. back.reads_back happens names d to out old new r told done (of_command happens c (Some d) old new r asks h);
  yes = λ names v b l p target told asks has. done_exactly names v b l p target _ old new r has told (of_command happens c (Some _) old new r asks h);
  chains = λ names w told asks. chain_exactly names w _ old new r told (of_command happens c (Some _) old new r asks h);
  samples = λ n asks. is_sampled _ n _ old new r always_yes (of_command happens c (Some _) old new r asks h);
  stamps = λ names s told asks can. stamping.concluded happens names s drawing old new r can drawn told (of_command happens c (Some _) old new r asks h);
  upgrades = λ names u told asks can. completing.concluded happens names u can old new r told (of_command happens c (Some _) old new r asks h);
}
