-- What `verify` and `chain` answer is the only answer.
use Rattle.std.proofs.Common.{◌≡◌, ℕ, List, [], length, Option, Some, None, inl, inr, sym, ap, ◌∙◌, arith}
use Rattle.std.proofs.lemmas.Option.{same_Some}
use Rattle.std.specs.Option.{option_map}
use Rattle.ots_chain.specs.Chain.{IsCheckOf}
use Rattle.ots_chain.specs.PinLines.{pin_form}
use Rattle.ots_chain.specs.Pins.{ArePins}
use Rattle.ots_chain.specs.declared.checking.ChainCheck.{ChainCheck}
use Rattle.ots_chain.specs.declared.checking.ChainCheck.TheVariants as check
use Rattle.ots_chain.specs.declared.checking.ChainFault.{ChainFault}
use Rattle.ots_chain.specs.declared.pins.Pin.{Pin}
use Rattle.ots_chain.proofs.OneCheck.{one as one_check}
use Rattle.ots_checking.specs.Chain.{ChecksChain, is_broken, pin_fails, is_whole, ChecksFile, HasPerhapsPins, WithPerhapsPins}
use Rattle.ots_checking.specs.Sampled.{Samples}
use Rattle.ots_checking.specs.Verified.{PrintsVerdict, Verifies, VerifiesBy, VerifiesProof, VerifiesTarget, WithPerhapsTable, WithTable, WithTarget}
use Rattle.ots_client_endings.specs.Ending.{Ending, printing, refused}
use Rattle.ots_client_endings.proofs.OneInput.{given, one_input, target_or_not, target_refusal, with_proof}
use Rattle.ots_client_inputs.specs.Headers.{RefusesTable, cut, too_many}
use Rattle.ots_client_inputs.specs.Pins.{RefusesPins}
use Rattle.ots_client_inputs.specs.Target.{IsHashOf, RefusesTarget}
use Rattle.ots_client_text.specs.Lines.{chain_text, sample_text, verdict_text}
use Rattle.ots_client_text.specs.Status.{verdict_status}
use Rattle.ots_client_text.specs.declared.status.Status.{Status}
use Rattle.ots_client_text.specs.declared.status.Status.TheVariants.{Done, BadPins, Broken, PinFails}
use Rattle.ots_client_words.specs.Words.{Chaining, HeaderFile, Verification}
use Rattle.ots_headers.specs.HeaderTable.{Table}
use Rattle.ots_headers.specs.TableRead.{IsTableOf}
use Rattle.ots_headers.proofs.TableBytes.{length_of_table, one_table_lem}
use Rattle.ots_inputs.proofs.OneFile.{lines_given_once, lines_never_both, one_bad_line}
use Rattle.ots_inputs.specs.Under.{HasUnder}
use Rattle.ots_ops.specs.declared.hash_op.HashOp.{HashOp}
use Rattle.ots_outside.specs.Shelf.{Names}
use Rattle.ots_sample.specs.declared.outcome.Sample.{Sample}
use Rattle.ots_sample.proofs.OneSample.{one_sample}
use Rattle.ots_verdicts.specs.declared.verdicts.Verdict.{Verdict}
use Rattle.ots_verdicts.proofs.OneVerdict.{one}

-- headers
table_refusal : (b : List ℕ) (s t : Status) → RefusesTable b s → RefusesTable b t → s ≡ t
table_refusal b s t (cut h f) (cut h' g) = f ∙ sym g
table_refusal b s t (cut h f) (too_many long g) = absurd (let fits = h.0 in omega arith)
table_refusal b s t (too_many long f) (cut h g) = absurd (let fits = h.0 in omega arith)
table_refusal b s t (too_many long f) (too_many long' g) = f ∙ sym g

pub table_or_not : (first : ℕ) (b : List ℕ) (table : Table) (s : Status) → IsTableOf first b table → RefusesTable b s → ⊥
table_or_not first b table s is (too_many long f) =
    let size = length_of_table first b table is in let most = is.limits.at_most in omega arith
table_or_not first b table s is (cut (fits, inl none) f) =
    let size = length_of_table first b table is in let some = is.limits.some in omega arith
table_or_not first b table s is (cut (fits, inr part) f) = part (let size = length_of_table first b table is in omega arith)

pub with_table : (names : Names) (file : HeaderFile) (P : Table → Ending → Type 0) (d e : Ending) → ((t : Table) → P t d → P t e → d ≡ e)
    → WithTable (Some names) file P d → WithTable (Some names) file P e → d ≡ e
with_table names file =
    one_input names file.name (IsTableOf file.first) RefusesTable (λ b t u f g. one_table_lem file.first b t u f g) table_refusal (table_or_not file.first)

pub given_table : (names : Names) (file : HeaderFile) (P : Table → Ending → Type 0) (t : Table) (e : Ending) → HasUnder (Some names) file.name (λ b. IsTableOf file.first b t)
    → WithTable (Some names) file P e → P t e
given_table names file P t e has =
    given names file.name (IsTableOf file.first) RefusesTable (λ b x y f g. one_table_lem file.first b x y f g) table_refusal (table_or_not file.first) P t e has.0 has.1 has.2

with_perhaps_table : (names : Names) (file : Option HeaderFile) (P : Option Table → Ending → Type 0) (d e : Ending)
    → ((t : Option Table) → P t d → P t e → d ≡ e) → WithPerhapsTable (Some names) file P d → WithPerhapsTable (Some names) file P e → d ≡ e
with_perhaps_table names None P d e one f g = one None f g
with_perhaps_table names (Some file) P d e one f g = with_table names file (λ t. P (Some t)) d e (λ t. one (Some t)) f g

pub given_target : (names : Names) (name : List ℕ) (hash : HashOp) (P : List ℕ → Ending → Type 0) (d : List ℕ) (e : Ending) → HasUnder (Some names) name (λ b. IsHashOf hash b d)
    → WithTarget (Some names) name hash P e → P d e
given_target names name hash P d e has =
    given names name (IsHashOf hash) RefusesTarget (λ b x y f g. f.1 ∙ sym g.1) target_refusal (target_or_not hash) P d e has.0 has.1 has.2

with_target : (names : Names) (name : List ℕ) (hash : HashOp) (P : List ℕ → Ending → Type 0) (d e : Ending) → ((x : List ℕ) → P x d → P x e → d ≡ e)
    → WithTarget (Some names) name hash P d → WithTarget (Some names) name hash P e → d ≡ e
with_target names name hash =
    one_input names name (IsHashOf hash) RefusesTarget (λ b x y f g. f.1 ∙ sym g.1) target_refusal (target_or_not hash)

-- pins
pins_refusal : (b : List ℕ) (s t : Status) → RefusesPins b s → RefusesPins b t → s ≡ t
pins_refusal b s t (n, bad, f) (m, too, g) = f ∙ ap (λ (z : ℕ). BadPins z) (one_bad_line pin_form b n m bad too) ∙ sym g

pub pins_or_not : (b : List ℕ) (pins : List Pin) (s : Status) → ArePins b pins → RefusesPins b s → ⊥
pins_or_not b pins s are (n, bad, f) = lines_never_both pin_form b pins n are bad

with_perhaps_pins : (names : Names) (name : Option (List ℕ)) (P : Option (List Pin) → Ending → Type 0) (d e : Ending)
    → ((pins : Option (List Pin)) → P pins d → P pins e → d ≡ e) → WithPerhapsPins (Some names) name P d → WithPerhapsPins (Some names) name P e → d ≡ e
with_perhaps_pins names None P d e one f g = one None f g
with_perhaps_pins names (Some name) P d e one f g =
    one_input names name ArePins RefusesPins (lines_given_once pin_form) pins_refusal pins_or_not (λ pins. P (Some pins)) d e (λ pins. one (Some pins)) f g

pub given_perhaps_pins : (names : Names) (name : Option (List ℕ)) (P : Option (List Pin) → Ending → Type 0) (pins : Option (List Pin)) (e : Ending)
    → HasPerhapsPins (Some names) name pins → WithPerhapsPins (Some names) name P e → P pins e
given_perhaps_pins names None P None e has h = h
given_perhaps_pins names None P (Some pins) e has h = absurd has
given_perhaps_pins names (Some name) P None e has h = absurd has
given_perhaps_pins names (Some name) P (Some pins) e has h =
    given names name ArePins RefusesPins (lines_given_once pin_form) pins_refusal pins_or_not (λ ps. P (Some ps)) pins e has.0 has.1 has.2 h

-- a chain is checked in one way
broken_as : ChainCheck → Ending
broken_as (check.Whole first last tip) = refused [] Done
broken_as (check.Broken height fault) = refused [] (Broken height fault)

whole_as : Option ℕ → ChainCheck → Ending
whole_as count (check.Whole first last tip) = printing Done (chain_text first last tip count)
whole_as count (check.Broken height fault) = refused [] Done

pub whole_or_not : (t : Table) (first last height : ℕ) (tip : List ℕ) (fault : ChainFault) → IsCheckOf t (check.Whole first last tip)
    → IsCheckOf t (check.Broken height fault) → ⊥
whole_or_not t first last height tip fault f g = let clash = one_check t (check.Whole first last tip) (check.Broken height fault) f g in cc

one_chain : (t : Table) (pins : Option (List Pin)) (d e : Ending) → ChecksChain t pins d → ChecksChain t pins e → d ≡ e
unfolding broken_as whole_as
one_chain t pins d e (is_broken height fault is f) (is_broken height' fault' too g) =
    f ∙ ap broken_as (one_check t (check.Broken height fault) (check.Broken height' fault') is too) ∙ sym g
one_chain t pins d e (is_broken height fault is f) (pin_fails first last tip h too fails g) = absurd (whole_or_not t first last height tip fault too is)
one_chain t pins d e (is_broken height fault is f) (is_whole first last tip too none g) = absurd (whole_or_not t first last height tip fault too is)
one_chain t pins d e (pin_fails first last tip h is fails f) (is_broken height fault too g) = absurd (whole_or_not t first last height tip fault is too)
one_chain t pins d e (pin_fails first last tip h is fails f) (pin_fails first' last' tip' h' too fails' g) =
    f ∙ ap (λ (z : ℕ). refused [] (PinFails z)) (same_Some h h' (sym fails ∙ fails')) ∙ sym g
one_chain t pins d e (pin_fails first last tip h is fails f) (is_whole first' last' tip' too none g) = absurd (let clash : Some h ≡ None = sym fails ∙ none in cc)
one_chain t pins d e (is_whole first last tip is none f) (is_broken height fault too g) = absurd (whole_or_not t first last height tip fault is too)
one_chain t pins d e (is_whole first last tip is none f) (pin_fails first' last' tip' h too fails g) = absurd (let clash : Some h ≡ None = sym fails ∙ none in cc)
one_chain t pins d e (is_whole first last tip is none f) (is_whole first' last' tip' too none' g) =
    f ∙ ap (whole_as (option_map length pins)) (one_check t (check.Whole first last tip) (check.Whole first' last' tip') is too) ∙ sym g

-- a verdict is the only one
pub verifies : (names : Names) (v : Verification) (d e : Ending) → Verifies (Some names) v d → Verifies (Some names) v e → d ≡ e
verifies names v d e =
    with_table names v.bitcoin (VerifiesBy (Some names) v) d e
    (λ b. with_perhaps_table names v.litecoin (VerifiesProof (Some names) v b) d e
    (λ l. with_proof names v.proof (VerifiesTarget (Some names) v.target b l) d e
    (λ p. with_target names v.target p.hash (PrintsVerdict p b l) d e
    (λ x f g. f.2 ∙ ap (λ (z : Verdict). printing (verdict_status z) (verdict_text z)) (one p x b l f.0 g.0 f.1 g.1) ∙ sym g.2))))

-- the same of a chain and of a sample
pub checks : (names : Names) (c : Chaining) (d e : Ending) → ChecksFile (Some names) c d → ChecksFile (Some names) c e → d ≡ e
checks names c d e f g =
    with_table names c.headers _ d e (λ t. with_perhaps_pins names c.pins (ChecksChain t) d e (λ pins. one_chain t pins d e)) f g

pub samples : (n : ℕ) (d e : Ending) → Samples n d → Samples n e → d ≡ e
samples n d e f g = f.2 ∙ ap (λ (z : Sample). printing (verdict_status z.verdict) (sample_text z)) (one_sample n f.0 g.0 f.1 g.1) ∙ sym g.2
