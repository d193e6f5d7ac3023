-- From how a proof is asked for to what it wants.
use Rattle.std.proofs.Common.{◌≡◌, ℕ, List, Bool, refl, sym, subst}
use Rattle.std.specs.Prelude.{IfOk, Option, Result, Ok, Err, Some}
use Rattle.ots_wanted.proofs.Drafts.{draft_fits, proof_fits}
use Rattle.ots_wanted.proofs.OneWanted.{one}
use Rattle.ots_wanted.specs.Wanted.{Gains, TakesWanted, Wants, draft, pending, texts_of}
use Rattle.ots_wanted.specs.inner.Asking.{AreFit, IsAskedBy, TakesPairs, others_of, wanted_of}
use Rattle.ots_base.specs.declared.out_of_memory.OutOfMemory.{OutOfMemory}
use Rattle.ots_pending.specs.Pairs.{AreAskable, ArePairs, PairAt}
use Rattle.ots_request_set.specs.RequestSet.{Asked}
use Rattle.ots_sheet.specs.declared.request.Kind.{Kind}
use Rattle.ots_sheet.specs.declared.request.Kind.TheVariants.{Get, Post}
use Rattle.ots_sheet.specs.Request.{RequestParts}
use Rattle.ots_tree.specs.declared.detached.Detached.{Detached}

pub asked_as : (all : Bool) (proof : Detached) (how : Option Kind) (kind : Kind) → IsAskedBy all proof how → how ≡ Some kind → IsAskedBy all proof (Some kind)
asked_as all proof how kind asked is = subst (IsAskedBy all proof) is asked

pub pairs_fit : (all : Bool) (proof : Detached) (kind : Kind) (pairs : List PairAt) → IsAskedBy all proof (Some kind) → ArePairs proof pairs → AreAskable pairs
    → AreFit kind pairs
pairs_fit all proof Get pairs asked are askable = proof_fits pairs askable
pairs_fit all proof Post pairs asked are askable = draft_fits proof asked.0 pairs asked.1 are

wants : (urls : List (List ℕ)) (all : Bool) (proof : Detached) (kind : Kind) (pairs : List PairAt) → IsAskedBy all proof (Some kind) → ArePairs proof pairs
    → Wants urls all proof (wanted_of urls kind pairs) (others_of urls kind pairs)
wants urls all proof Get pairs asked are = pending asked.0 asked.1 (record { pairs = pairs; are = are; listed = refl; others = refl })
wants urls all proof Post pairs asked are = draft asked.0 asked.1 (record { pairs = pairs; are = are; listed = refl; others = refl })

pub takes_wanted : (a b : Asked) (all : Bool) (proof : Detached) (kind : Kind) (pairs : List PairAt) (r : Result ℕ OutOfMemory) → IsAskedBy all proof (Some kind)
    → ArePairs proof pairs → IfOk r (TakesPairs a b kind pairs) → IfOk r (TakesWanted a b all proof)
takes_wanted a b all proof kind pairs (Ok skipped) asked are takes =
    let urls = texts_of a in
    record {
      wanted = wanted_of urls kind pairs;
      wants = subst (Wants urls all proof (wanted_of urls kind pairs)) (sym takes.others) (wants urls all proof kind pairs asked are);
      takes = takes.takes;
    }
takes_wanted a b all proof kind pairs (Err e) asked are takes = tt

pub gains_wanted : (a b : Asked) (all : Bool) (proof : Detached) (kind : Kind) (pairs : List PairAt) (wanted : List RequestParts) (skipped : ℕ)
    → IsAskedBy all proof (Some kind) → ArePairs proof pairs → Gains a b (wanted_of (texts_of a) kind pairs) → Wants (texts_of a) all proof wanted skipped
    → Gains a b wanted
gains_wanted a b all proof kind pairs wanted skipped asked are gains is =
    let urls = texts_of a in
    subst (Gains a b)
    (one urls all proof (wanted_of urls kind pairs) wanted (others_of urls kind pairs) skipped (wants urls all proof kind pairs asked are) is).0 gains
