-- What `verify` and `chain` read.
use Rattle.std.proofs.Common.{◌≡◌, ℕ, List, length, Option, Some, None, sym, subst, arith}
use Rattle.std.proofs.lemmas.List.{take_all}
use Rattle.ots_base.specs.Cause.{Rose}
use Rattle.ots_chain.specs.declared.pins.Pin.{Pin}
use Rattle.ots_checking.specs.Chain.{HasPerhapsPins, RefusesPerhapsPins, WithPerhapsPins}
use Rattle.ots_checking.specs.Verified.{HasPerhapsTable, RefusesPerhapsTable, WithPerhapsTable}
use Rattle.ots_client_endings.specs.Ending.{Ending}
use Rattle.ots_client_endings.specs.Reading.{is_given, is_refused}
use Rattle.ots_client_inputs.specs.Target.{IsHashOf}
use Rattle.ots_client_words.specs.Words.{HeaderFile}
use Rattle.ots_headers.specs.HeaderTable.{Table}
use Rattle.ots_inputs.specs.Opened.{Opens, OpensPrefix}
use Rattle.ots_inputs.specs.Under.{HasUnder}
use Rattle.ots_ops.specs.declared.hash_op.HashOp.{HashOp}
use Rattle.ots_outside.specs.Shelf.{Names}
use Rattle.ots_tree.specs.declared.detached.Detached.{Detached}
use Rattle.ots_verifier.specs.Checked.{IsCheckOf, Pieces}
use Rattle.ots_verifier.specs.declared.checked.Checked.{Checked}

-- all of these names were opened
pub whole_prefix : (names : List (List ℕ)) (old new : Option (List (List ℕ))) → Opens names old new → OpensPrefix names old new
whole_prefix names old new h = (length names, subst (λ (z : List (List ℕ)). Opens z old new) (sym (take_all (length names) names (omega arith))) h)

pub rose_from : (a b c : ℕ) → b ≡ a → Rose b c → Rose a c
rose_from a b c is h = subst (λ (z : ℕ). Rose z c) is h

-- the headers by which a verifier was begun
pub checked_by : (v : Pieces) (bitcoin : Table) (litecoin other : Option Table) (bytes : List ℕ) (reserved : ℕ) (p : Detached) (c : Checked)
    → v ≡ record { bitcoin = bitcoin; litecoin = other; bytes = bytes; reserved = reserved } → other ≡ litecoin → IsCheckOf p v.bitcoin v.litecoin c → IsCheckOf p bitcoin litecoin c
checked_by v bitcoin litecoin other bytes reserved p c is same check = subst (λ (z : Option Table). IsCheckOf p bitcoin z c) same (rw is at check)

-- the hash of the proof
pub hashed_by : (told : Option Names) (name : List ℕ) (h k : HashOp) (digest : List ℕ) → h ≡ k → HasUnder told name (λ bytes. IsHashOf h bytes digest) → HasUnder told name (λ bytes. IsHashOf k bytes digest)
hashed_by told name h k digest is has = subst (λ (z : HashOp). HasUnder told name (λ bytes. IsHashOf z bytes digest)) is has

-- ---- headers that may be given

pub perhaps_given : (told : Option Names) (o : Option HeaderFile) (t : Option Table) (P : Option Table → Ending → Type 0) (e : Ending)
    → HasPerhapsTable told o t → P t e → WithPerhapsTable told o P e
perhaps_given told None None P e has h = h
perhaps_given told None (Some table) P e has h = absurd has
perhaps_given told (Some file) None P e has h = absurd has
perhaps_given told (Some file) (Some table) P e has h = is_given table has h

pub perhaps_refused : (told : Option Names) (o : Option HeaderFile) (P : Option Table → Ending → Type 0) (e : Ending)
    → RefusesPerhapsTable told o e → WithPerhapsTable told o P e
perhaps_refused told None P e h = absurd h
perhaps_refused told (Some file) P e h = is_refused h

-- ---- pins that may be given

pub pins_given : (told : Option Names) (o : Option (List ℕ)) (pins : Option (List Pin)) (P : Option (List Pin) → Ending → Type 0) (e : Ending)
    → HasPerhapsPins told o pins → P pins e → WithPerhapsPins told o P e
pins_given told None None P e has h = h
pins_given told None (Some pins) P e has h = absurd has
pins_given told (Some name) None P e has h = absurd has
pins_given told (Some name) (Some pins) P e has h = is_given pins has h

pub pins_refused : (told : Option Names) (o : Option (List ℕ)) (P : Option (List Pin) → Ending → Type 0) (e : Ending)
    → RefusesPerhapsPins told o e → WithPerhapsPins told o P e
pins_refused told None P e h = absurd h
pins_refused told (Some name) P e h = is_refused h
