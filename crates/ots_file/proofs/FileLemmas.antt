-- Writes and reads that are carried on.
use Rattle.std.proofs.Common.{◌≡◌, ℕ, ◌+◌, ◌-◌, ◌≤◌, true, List, ◌∷◌, ◌++◌, length, take, drop, Option, Some, None, refl, sym, ◌∙◌, ap, arith, length-take, length-drop, length-append, take-add, drop-drop, take_all, append_assoc}
use Rattle.std.specs.Option.{option_map}
use lib.Seq.{length-take-le, take-append-le, take-append-add, drop-append-add}
use Rattle.ots_base.specs.Told.{IfTold}
use Rattle.ots_disk.specs.Disk.{put}
use Rattle.ots_file.specs.Events.{FileEvent, replay, IsHonest}
use Rattle.ots_file.specs.Events.FileEvent.{got, wrote}
use Rattle.std.specs.Prelude.{slice_range, Bool}
use Rattle.ots_file.specs.Runs.{writes, total, from_here, reads, joined}
use Rattle.ots_file.specs.Told.{told_bytes}

prefix : (Y R : List ℕ) (n : ℕ) → length Y ≡ n → take n (Y ++ R) ≡ Y
prefix Y R n is = take-append-le n Y R (omega (arith, is)) ∙ take_all n Y (omega (arith, is))

back : (Y R : List ℕ) (n k : ℕ) → length Y ≡ n → drop (n + k) (Y ++ R) ≡ drop k R
back Y R n k is = ap (λ (m : ℕ). drop (m + k) (Y ++ R)) (sym is) ∙ drop-append-add Y R k

regroup : (X P K T : List ℕ) → (X ++ P) ++ (K ++ T) ≡ X ++ ((P ++ K) ++ T)
regroup X P K T = append_assoc X P (K ++ T) ∙ ap (λ (l : List ℕ). X ++ l) (sym (append_assoc P K T))

pub put_more : (place : ℕ) (piece : List ℕ) (d k : ℕ) (b : List ℕ) → place ≤ length b → d + k ≤ length piece → put (place + d) (take k (drop d piece)) (put place (take d piece) b) ≡ put place (take (d + k) piece) b
put_more place piece d k b le fits =
    let X = take place b in
    let P = take d piece in
    let K = take k (drop d piece) in
    let R = drop (place + length P) b in
    let T = drop (place + length (take (d + k) piece)) b in
    let x : length X ≡ place = length-take-le place b le in
    let p : length P ≡ d = length-take-le d piece (omega (arith, fits)) in
    let q : length K ≡ k = length-take-le k (drop d piece) (omega (arith, fits, length-drop d piece)) in
    let w : length (take (d + k) piece) ≡ d + k = length-take-le (d + k) piece fits in
    let y : length (X ++ P) ≡ place + d = omega (arith, length-append X P, x, p) in
    let whole : put place P b ≡ (X ++ P) ++ R = sym (append_assoc X P R) in
    let tk : take (place + d) (put place P b) ≡ X ++ P = ap (take (place + d)) whole ∙ prefix (X ++ P) R (place + d) y in
    let end : place + length P + length K ≡ place + length (take (d + k) piece) = omega (arith, p, q, w) in
    let dr : drop (place + d + length K) (put place P b) ≡ T = ap (drop (place + d + length K)) whole ∙ back (X ++ P) R (place + d) (length K) y ∙ drop-drop (length K) (place + length P) b ∙ ap (λ (n : ℕ). drop n b) end in
    ap (λ (l : List ℕ). l ++ (K ++ drop (place + d + length K) (put place P b))) tk
    ∙ ap (λ (l : List ℕ). (X ++ P) ++ (K ++ l)) dr
    ∙ regroup X P K T
    ∙ ap (λ (l : List ℕ). X ++ (l ++ T)) (sym (take-add d k piece))

pub put_read : (f n : ℕ) (buf ys post : List ℕ) → f ≤ length buf → n ≤ length ys → take (f + n) (take f buf ++ (ys ++ post)) ≡ take f buf ++ take n ys
put_read f n buf ys post le fits =
    let x : length (take f buf) ≡ f = length-take-le f buf le in
    ap (λ (m : ℕ). take (m + n) (take f buf ++ (ys ++ post))) (sym x) ∙ take-append-add (take f buf) (ys ++ post) n ∙ ap (λ (l : List ℕ). take f buf ++ l) (take-append-le n ys post fits)

pub written_more : (first : Option (List ℕ)) (old mid : List FileEvent) (place : ℕ) (piece : List ℕ) (d k from : ℕ) (rest : List ℕ) → from ≡ place + d → take k rest ≡ take k (drop d piece) → d + k ≤ length piece
    → IfTold (told_bytes first old) (λ b. place ≤ length b) → told_bytes first mid ≡ option_map (put place (take d piece)) (told_bytes first old)
    → told_bytes first (wrote from rest true k ∷ mid) ≡ option_map (put place (take (d + k) piece)) (told_bytes first old)
written_more None old mid place piece d k from rest is same fits le told = refl
written_more (Some b) old mid place piece d k from rest is same fits le told =
    let was : (replay b mid).bytes ≡ put place (take d piece) (replay b old).bytes = cc in
    ap (λ (l : List ℕ). Some (put from l (replay b mid).bytes)) same
    ∙ ap (λ (n : ℕ). Some (put n (take k (drop d piece)) (replay b mid).bytes)) is
    ∙ ap (λ (l : List ℕ). Some (put (place + d) (take k (drop d piece)) l)) was
    ∙ ap Some (put_more place piece d k (replay b old).bytes le fits)

pub read_more : (first : Option (List ℕ)) (old mid : List FileEvent) (place f n from asked : ℕ) (buf next part : List ℕ) → from ≡ place + f → take (f + n) next ≡ take f buf ++ part → length part ≡ n
    → told_bytes first mid ≡ told_bytes first old
    → IfTold first (λ b. IsHonest b (got from asked true part ∷ mid))
    → IfTold (told_bytes first old) (λ b. (take f buf ≡ take f (drop place b)) × (f ≤ length b - place))
    → IfTold (told_bytes first old) (λ b. (take (f + n) next ≡ take (f + n) (drop place b)) × (f + n ≤ length b - place))
read_more None old mid place f n from asked buf next part is joined long same honest so_far = tt
read_more (Some x) old mid place f n from asked buf next part is joined long same honest so_far =
    let b = (replay x old).bytes in
    let same_b : (replay x mid).bytes ≡ b = cc in
    let told : part ≡ take n (drop (place + f) b) = honest.1.0 ∙ ap (λ (m : ℕ). take m (drop from (replay x mid).bytes)) long ∙ ap (λ (m : ℕ). take n (drop m (replay x mid).bytes)) is ∙ ap (λ (l : List ℕ). take n (drop (place + f) l)) same_b in (
      joined ∙ ap (λ (l : List ℕ). l ++ part) so_far.0 ∙ ap (λ (l : List ℕ). take f (drop place b) ++ l) told ∙ sym (take-add f n (drop place b) ∙ ap (λ (l : List ℕ). take f (drop place b) ++ take n l) (drop-drop f place b)),
      omega (arith, so_far.1, long, ap length told, length-take n (drop (place + f) b), length-drop (place + f) b),
    )

-- no bytes came, so it is the end
pub read_end : (first : Option (List ℕ)) (old mid : List FileEvent) (place f from asked : ℕ) (part : List ℕ) → from ≡ place + f → length part ≡ 0
    → told_bytes first mid ≡ told_bytes first old
    → IfTold first (λ b. IsHonest b (got from asked true part ∷ mid)) → IfTold (told_bytes first old) (λ b. length b ≤ place + f)
read_end None old mid place f from asked part is none same honest = tt
read_end (Some x) old mid place f from asked part is none same honest =
    let same_b : (replay x mid).bytes ≡ (replay x old).bytes = cc in
    omega (arith, is, ap length same_b, honest.1.1 none)

-- one call more of a write
pub more_writes : (place : ℕ) (piece : List ℕ) (old mid : List FileEvent) (takes : List ℕ) (d k from : ℕ) (ok : Bool) → from ≡ from_here place d → mid ≡ writes place piece old takes → total takes ≡ d
    → (let e : FileEvent = wrote from (slice_range piece d (length piece)) ok k in e ∷ mid) ≡ wrote (from_here place (total takes)) (slice_range piece (total takes) (length piece)) ok k ∷ writes place piece old takes
more_writes place piece old mid takes d k from ok is was sum =
    ap (λ (n : ℕ). wrote n (slice_range piece d (length piece)) ok k ∷ mid) is
    ∙ ap (λ (n : ℕ). wrote (from_here place n) (slice_range piece n (length piece)) ok k ∷ mid) (sym sum)
    ∙ ap (λ (l : List FileEvent). wrote (from_here place (total takes)) (slice_range piece (total takes) (length piece)) ok k ∷ l) was

-- one call more of a read
pub more_reads : (place room next : ℕ) (old mid : List FileEvent) (parts : List (List ℕ)) (part : List ℕ) (f from asked : ℕ) (ok : Bool) → from ≡ from_here place f → asked ≡ room - f → next ≡ room
    → mid ≡ reads place room old parts → length (joined parts) ≡ f
    → (let e : FileEvent = got from asked ok part in e ∷ mid) ≡ got (from_here place (length (joined parts))) (next - length (joined parts)) ok part ∷ reads place next old parts
more_reads place room next old mid parts part f from asked ok is left same was sum =
    ap (λ (n : ℕ). got n asked ok part ∷ mid) is
    ∙ ap (λ (n : ℕ). got (from_here place f) n ok part ∷ mid) left
    ∙ ap (λ (n : ℕ). got (from_here place n) (room - n) ok part ∷ mid) (sym sum)
    ∙ ap (λ (l : List FileEvent). got (from_here place (length (joined parts))) (room - length (joined parts)) ok part ∷ l) was
    ∙ ap (λ (n : ℕ). got (from_here place (length (joined parts))) (n - length (joined parts)) ok part ∷ reads place n old parts) (sym same)
