-- What a proof file comes to.
use Rattle.std.proofs.Common.{◌≡◌, ℕ, ◌+◌, ◌<◌, ◌≤◌, ◌^◌, List, [], ◌++◌, length, take, drop, Option, Some, None, refl, sym, ap, subst, ◌∙◌, inl, inr, arith, length-append, length-drop}
use Rattle.std.specs.Prelude.{min, Result, Ok, Err, IsSome}
use Rattle.std.proofs.lemmas.Bool.{cases_lt}
use Rattle.std.proofs.lemmas.List.{drop_all, append-nil, take_all, take-append-drop, length-take-le}
use Rattle.ots_tree.specs.declared.detached.Detached.{Detached}
use Rattle.ots_tree.specs.declared.shape.Shape.{Shape}
use Rattle.ots_tree.specs.declared.token.Token.{Token}
use Rattle.ots_tree.specs.Wire.{spelled}
use Rattle.ots_reader.specs.declared.fault.Fault.{Fault}
use Rattle.ots_reader.specs.Progress.{ends_at}
use Rattle.ots_reader.specs.Tokens.{so_far}
use Rattle.ots_reader.specs.TreeFault.{HasTreeFault}
use Rattle.ots_reader.proofs.Steps.{goes_on}
use Rattle.ots_detached.specs.declared.header.FileHeader.{FileHeader}
use Rattle.ots_detached.specs.File.{file, header, IsFileOf}
use Rattle.ots_detached.specs.FileFault.{header_fault, moved, HasFault, in_header, in_tree}
use Rattle.ots_detached.proofs.BothWays.{one_file, no_fault, file_size}
use Rattle.ots_detached.proofs.Files.{one_fault}
use Rattle.ots_headers.specs.HeaderTable.{Table}
use Rattle.ots_verdicts.specs.declared.best.Best.{Best}
use Rattle.ots_verdicts.specs.Walked.{confirmation_of}
use Rattle.ots_verifier.specs.declared.checked.Checked.{Checked}
use Rattle.ots_verifier.specs.declared.checked.CheckError.{CheckError}
use Rattle.ots_verifier.specs.declared.checked.CheckError.TheVariants.{TooBig, BadProof}
use Rattle.ots_verifier.specs.declared.following.Following.{Following}
use Rattle.ots_verifier.specs.declared.progress.Progress.{Progress}
use Rattle.ots_verifier.specs.Checked.{IsCheckOf, Checks, IsExactCheck}
use Rattle.ots_verifier.specs.declared.progress.State.TheVariants.{Header, After}
use Rattle.ots_verifier.specs.Following.{IsFresh}
use Rattle.ots_verifier.specs.Progress.{HasCome, IsGathering, IsIn}
use Rattle.ots_verifier.specs.declared.stage.Stage.{Stage}
use Rattle.ots_verifier.specs.Stage.{after, IsOpen, IsWhole, IsWithin}
use Rattle.ots_verifier.proofs.HeaderPrefix.{prefix_fault}
use Rattle.ots_verifier.proofs.OnePiece.{header_fits}
use Rattle.ots_verdicts.proofs.Judged.{walk_verdict}

-- ---- how many bytes have come

pub within : (bitcoin : Table) (litecoin : Option Table) (b : List ℕ) (p : Progress) (s : Stage) → p.state ≡ After s → HasCome bitcoin litecoin b p → IsWithin bitcoin litecoin b s p.following
within bitcoin litecoin b p s is h = let t = subst (IsIn bitcoin litecoin b p) is h.is_in in let room = h.room in record { size = omega (arith, t.counted); within = t.is_at }

-- ---- a header that is none

pub not_some : (o : Option Fault) → IsSome o → o ≡ None → ⊥
not_some None h e = absurd cc
not_some (Some f) h e = absurd cc

same_fault : (b : List ℕ) → header_fault (take 65 b) ≡ header_fault b
same_fault b =
    elim (cases_lt (length b) 65) [
      | inl short ↦ ap header_fault (take_all 65 b (omega arith))
      | inr long ↦ sym (prefix_fault (take 65 b) (drop 65 b) (omega (arith, length-take-le 65 b long))) ∙ ap header_fault (take-append-drop 65 b)
    ]

pub some_there : (b : List ℕ) (p : Progress) → IsGathering b p → IsSome (header_fault (take (min p.count 65) p.header))
some_there b p g = subst (λ (z : List ℕ). IsSome (header_fault z)) (sym g.prefix) g.bad

pub header_bad : (b : List ℕ) (p : Progress) (f : Fault) → IsGathering b p → p.count ≤ 4194304 → header_fault (take (min p.count 65) p.header) ≡ Some f
    → (length b ≤ 4194304) × HasFault b f
header_bad b p f g room e = (omega (arith, g.counted), in_header (sym (same_fault b) ∙ ap header_fault (sym g.prefix) ∙ e))

-- ---- a tree that goes on

pub end_fits : (bitcoin : Table) (litecoin : Option Table) (b : List ℕ) (h : FileHeader) (f : Following) → IsOpen bitcoin litecoin b h f → length b ≤ 4194304
    → 33 + length h.digest + length (spelled f.reader.came) < 2 ^ 64
end_fits bitcoin litecoin b h f i size =
    omega (arith, header_fits b h.hash h.digest i.header, ap length i.rest, length-drop (33 + length h.digest) b, length-append (spelled f.reader.came) f.reader.kept)

pub tree_bad : (bitcoin : Table) (litecoin : Option Table) (b : List ℕ) (h : FileHeader) (f : Following) → IsOpen bitcoin litecoin b h f
    → HasFault b (moved (33 + length h.digest) (ends_at (length (spelled f.reader.came))))
tree_bad bitcoin litecoin b h f i =
    let g = ends_at (length (spelled f.reader.came)) in
    in_tree h.hash h.digest g i.header
    (subst (λ (z : List ℕ). HasTreeFault (length h.digest) 0 z g) (sym i.rest)
    (subst (λ (z : Shape). HasTreeFault z.length z.depth (so_far f.reader) g) i.follows.shape (goes_on f.reader i.follows.reading)))
    refl

-- ---- a tree that is whole

-- the proof
abbrev proof_of : (bitcoin : Table) (litecoin : Option Table) (b : List ℕ) (h : FileHeader) (best : Best) → IsWhole bitcoin litecoin b h best → Detached
proof_of bitcoin litecoin b h best w = record {
  hash = h.hash;
  digest = h.digest;
  tree = w.tokens;
  digest_of_hash = w.header.digest;
  tree_sound = ∣ w.tree.sound ∣₁;
}

whole_bytes : (b : List ℕ) (h : FileHeader) (tokens : List Token) → b ≡ header h.hash h.digest ++ after h b → after h b ≡ spelled tokens ++ drop (length (after h b)) (after h b)
    → b ≡ header h.hash h.digest ++ spelled tokens
whole_bytes b h tokens prefix is =
    prefix ∙ ap (λ (z : List ℕ). header h.hash h.digest ++ z)
    (is ∙ ap (λ (z : List ℕ). spelled tokens ++ z) (drop_all (length (after h b)) (after h b) (omega arith)) ∙ append-nil (spelled tokens))

whole_file : (bitcoin : Table) (litecoin : Option Table) (b : List ℕ) (h : FileHeader) (best : Best) (w : IsWhole bitcoin litecoin b h best) → length b ≤ 4194304
    → IsFileOf b (proof_of bitcoin litecoin b h best w)
whole_file bitcoin litecoin b h best w size =
    let sound = w.tree.sound in
    let all : b ≡ file h.hash h.digest sound.0 = whole_bytes b h w.tokens w.header.prefix w.tree.front ∙ ap (λ (z : List Token). header h.hash h.digest ++ spelled z) (sym sound.2) in
    record {
      tree = sound.0;
      tokens = sound.2;
      has_file = record { digest = w.header.digest; tokens = rw sound.2 w.tree.fits; sound = sound.1; size = subst (λ (z : List ℕ). length z ≤ 4194304) all size };
      spelled = all;
    }

pub whole_good : (bitcoin : Table) (litecoin : Option Table) (b : List ℕ) (h : FileHeader) (best : Best) → IsWhole bitcoin litecoin b h best → length b ≤ 4194304
    → Checks bitcoin litecoin b (Ok (record { hash = h.hash; digest = h.digest; best = confirmation_of best }))
whole_good bitcoin litecoin b h best w size =
    let proof = proof_of bitcoin litecoin b h best w in
    let verdict = walk_verdict proof bitcoin litecoin w.tree.sound.0 w.tree.sound.2 in
    (proof, whole_file bitcoin litecoin b h best w size, record { hash = refl; digest = refl; confirmed = rw w.is_best verdict })

-- ---- both ways

accepts : (bitcoin : Table) (litecoin : Option Table) (b : List ℕ) (r : Result Checked CheckError) → Checks bitcoin litecoin b r
    → (p : Detached) → IsFileOf b p → (c : Checked) × (r ≡ Ok c) × IsCheckOf p bitcoin litecoin c
accepts bitcoin litecoin b (Ok c) (q, ok, is) p file = (c, refl, subst (λ (z : Detached). IsCheckOf z bitcoin litecoin c) (one_file b q p ok file) is)
accepts bitcoin litecoin b (Err TooBig) big p file = let size = file_size b p file in absurd (omega arith)
accepts bitcoin litecoin b (Err (BadProof f)) (size, fault) p file = absurd (no_fault b p f file fault)

refuses : (bitcoin : Table) (litecoin : Option Table) (b : List ℕ) (r : Result Checked CheckError) → Checks bitcoin litecoin b r
    → (f : Fault) → length b ≤ 4194304 → HasFault b f → r ≡ Err (BadProof f)
refuses bitcoin litecoin b (Ok c) (q, ok, is) f size fault = absurd (no_fault b q f ok fault)
refuses bitcoin litecoin b (Err TooBig) big f size fault = absurd (omega arith)
refuses bitcoin litecoin b (Err (BadProof g)) (low, other) f size fault = ap (λ (z : Fault). Err (BadProof z)) (one_fault b g f other fault)

too_big : (bitcoin : Table) (litecoin : Option Table) (b : List ℕ) (r : Result Checked CheckError) → Checks bitcoin litecoin b r → 4194304 < length b → r ≡ Err TooBig
too_big bitcoin litecoin b (Ok c) (q, ok, is) big = let size = file_size b q ok in absurd (omega arith)
too_big bitcoin litecoin b (Err TooBig) more big = refl
too_big bitcoin litecoin b (Err (BadProof f)) (low, fault) big = absurd (omega arith)

pub exact_check : (bitcoin : Table) (litecoin : Option Table) (b : List ℕ) (r : Result Checked CheckError) → Checks bitcoin litecoin b r → IsExactCheck bitcoin litecoin b r
exact_check bitcoin litecoin b r h = record { accepts = accepts bitcoin litecoin b r h; refuses = refuses bitcoin litecoin b r h; too_big = too_big bitcoin litecoin b r h }

-- ---- before the first byte

none_come : IsSome (header_fault [])
unfolding header_fault
none_come = refl

pub before_any : (bitcoin : Table) (litecoin : Option Table) (p : Progress) → IsFresh p.following → p.count ≡ 0 → p.state ≡ Header → HasCome bitcoin litecoin [] p
before_any bitcoin litecoin p fresh count state =
    record { room = omega arith; is_in = subst (IsIn bitcoin litecoin [] p) (sym state) (record { counted = count; prefix = rw count refl; bad = none_come; fresh = fresh }) }
