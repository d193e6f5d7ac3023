-- Blocks: what is read is spelled so, what is spelled so is read, and what the code keeps of it.
use Rattle.std.proofs.Common.{◌≡◌, ℕ, zero, suc, ◌+◌, ◌-◌, ◌*◌, ◌^◌, ◌<◌, ◌≤◌, Bool, true, false, cond, ltb, eqb, List, [], ◌∷◌, ◌++◌, length, get_or, map, take, drop, Result, Ok, Err, refl, sym, ap, subst, ◌∙◌, length-append, arith, inl, inr}
use Rattle.std.specs.Prelude.{IfOk}
use Rattle.std.proofs.Common.{Vec, Global}
use Rattle.ots_base.specs.Memory.{UnlessOutOfMemory}
use Rattle.std.specs.List.{flat_map, AllByRecursion}
use Rattle.std.proofs.Math.Nat.{mul-suc}
use Rattle.std.proofs.lemmas.Bool.{cases_lt, ltb-false, le-ltb, eqb-false, ne_eqb}
use Rattle.std.proofs.lemmas.List.{append-nil, take-append-drop, drop-drop, length-drop, length-map}
use Rattle.ots_headers.specs.declared.header.Header.{Header}
use Rattle.ots_headers.specs.Header.{serialized, IsHeader, header_in}
use Rattle.ots_headers.specs.DoubleSha256.{double_sha256}
use Rattle.ots_headers.proofs.HeaderBytes.{serialized_in, is_header_in, length_serialized, header_in_serialized, after_serialized}
use Rattle.ots_block.specs.declared.fault.BlockReason.TheVariants.{Truncated, NoTransaction, Rest}
use Rattle.ots_block.specs.declared.fault.BlockError.{BlockError}
use Rattle.ots_block.specs.declared.fault.BlockError.TheVariants.{BadBlock, OutOfMemory}
use Rattle.ots_block.specs.declared.places.Places.{Places}
use Rattle.ots_block.specs.Compact.{compact}
use Rattle.ots_block.specs.Transaction.{Input, Output, Transaction, sized, counted, input_bytes, output_bytes, body_bytes, transaction_bytes, stripped, txid, IsInput, IsOutput, IsTransaction}
use Rattle.ots_block.specs.Block.{Contents, block_bytes, IsBlock, stripped_forms}
use Rattle.ots_block.specs.Reading.{Halt, Read, ◌>>=◌, run_at, compact_at, many_at, transaction_at, header_at, count_at, ended, block_at}
use Rattle.ots_block.specs.Ends.{End, laid_at, header_end, prefix_at, kept_at, stripped_in}
use Rattle.ots_block.specs.BlockRead.{placed, read_block}
use Rattle.ots_block.specs.Given.{Fails}
use Rattle.ots_block.specs.Kept.{contents_in, IsKept}
use Rattle.ots_block.proofs.Ending.{rest_of, header_ends}
use Rattle.ots_block.proofs.Spelled.{IsBytes, IsBytes-drop, bind_ok, guard_ok, ok_is, Takes, Takes-then, compact_1, compact_3, compact_5, compact_takes, compact_again, many_takes, many_again}
use Rattle.ots_block.proofs.OneTransaction.{transaction_field}
use Rattle.ots_block.proofs.Laid.{value_of, all_laid, same_rest}

-- ---- the header

run_drops : (n : ℕ) (bytes x rest : List ℕ) → run_at n bytes ≡ Ok (x, rest) → (n ≤ length bytes) × (drop n bytes ≡ rest)
unfolding run_at
run_drops n bytes x rest e =
    let g = guard_ok (ltb (length bytes) n) (record { left = length bytes; reason = Truncated }) (Ok (take n bytes, drop n bytes)) (x, rest) e in
    (ltb-false _ _ g.0, ap (λ (p : List ℕ × List ℕ). p.1) (ok_is (take n bytes, drop n bytes) (x, rest) g.1))

run_reads : (n : ℕ) (bytes : List ℕ) → n ≤ length bytes → run_at n bytes ≡ Ok (take n bytes, drop n bytes)
unfolding run_at
run_reads n bytes long = rw (le-ltb (length bytes) n long) refl

-- the bytes after each field of a header
after : (n m : ℕ) (bytes b c : List ℕ) → drop n bytes ≡ b → drop m b ≡ c → drop (n + m) bytes ≡ c
after n m bytes b c e f = sym (drop-drop m n bytes) ∙ ap (drop m) e ∙ f

pub record HeaderRead (bytes : List ℕ) (h : Header) (rest : List ℕ) : Type 0 where
  pub long : 80 ≤ length bytes
  pub past : drop 80 bytes ≡ rest
  pub is : header_in bytes ≡ h

pub header_read : (bytes : List ℕ) (h : Header) (rest : List ℕ) → header_at bytes ≡ Ok (h, rest) → HeaderRead bytes h rest
unfolding header_at
header_read bytes h rest e =
    let v = bind_ok (run_at 4 bytes) _ (h, rest) e in
    let p = bind_ok (run_at 32 v.0.1) _ (h, rest) v.2 in
    let r = bind_ok (run_at 32 p.0.1) _ (h, rest) p.2 in
    let t = bind_ok (run_at 4 r.0.1) _ (h, rest) r.2 in
    let b = bind_ok (run_at 4 t.0.1) _ (h, rest) t.2 in
    let n = bind_ok (run_at 4 b.0.1) _ (h, rest) b.2 in
    let dv = run_drops 4 bytes v.0.0 v.0.1 v.1 in
    let dp = run_drops 32 v.0.1 p.0.0 p.0.1 p.1 in
    let dr = run_drops 32 p.0.1 r.0.0 r.0.1 r.1 in
    let dt = run_drops 4 r.0.1 t.0.0 t.0.1 t.1 in
    let db = run_drops 4 t.0.1 b.0.0 b.0.1 b.1 in
    let dn = run_drops 4 b.0.1 n.0.0 n.0.1 n.1 in
    let t36 = after 4 32 bytes v.0.1 p.0.1 dv.1 dp.1 in
    let t68 = after 36 32 bytes p.0.1 r.0.1 t36 dr.1 in
    let t72 = after 68 4 bytes r.0.1 t.0.1 t68 dt.1 in
    let t76 = after 72 4 bytes t.0.1 b.0.1 t72 db.1 in
    let t80 = after 76 4 bytes b.0.1 n.0.1 t76 dn.1 in
    let l76 : length b.0.1 ≡ length bytes - 76 = ap length (sym t76) ∙ length-drop 76 bytes in
    let room : 4 ≤ length b.0.1 = dn.0 in
    let read : Header × List ℕ = (header_in bytes, n.0.1) in
    subst (λ (q : Header × List ℕ). HeaderRead bytes q.0 q.1) {x = read} {y = (h, rest)} (ok_is read (h, rest) n.2)
    (record { long = omega arith; past = t80; is = refl })

header_reads : (bytes : List ℕ) → 80 ≤ length bytes → header_at bytes ≡ Ok (header_in bytes, drop 80 bytes)
unfolding header_at
header_reads bytes long =
    let d4 = drop 4 bytes in
    let d36 = drop 32 d4 in
    let d68 = drop 32 d36 in
    let d72 = drop 4 d68 in
    let d76 = drop 4 d72 in
    let t36 = after 4 32 bytes d4 d36 refl refl in
    let t68 = after 36 32 bytes d36 d68 t36 refl in
    let t72 = after 68 4 bytes d68 d72 t68 refl in
    let t76 = after 72 4 bytes d72 d76 t72 refl in
    let t80 = after 76 4 bytes d76 (drop 4 d76) t76 refl in
    let l4 : length d4 ≡ length bytes - 4 = length-drop 4 bytes in
    let l36 : length d36 ≡ length bytes - 36 = ap length (sym t36) ∙ length-drop 36 bytes in
    let l68 : length d68 ≡ length bytes - 68 = ap length (sym t68) ∙ length-drop 68 bytes in
    let l72 : length d72 ≡ length bytes - 72 = ap length (sym t72) ∙ length-drop 72 bytes in
    let l76 : length d76 ≡ length bytes - 76 = ap length (sym t76) ∙ length-drop 76 bytes in
    rw (run_reads 4 bytes (omega arith), run_reads 32 d4 (omega arith), run_reads 32 d36 (omega arith), run_reads 4 d68 (omega arith), run_reads 4 d72 (omega arith), run_reads 4 d76 (omega arith))
    (ap (λ (z : List ℕ). Ok (header_in bytes, z)) (sym t80))

pub header_takes : (bytes : List ℕ) (h : Header) (rest : List ℕ) → IsBytes bytes → header_at bytes ≡ Ok (h, rest) → Takes bytes (serialized h) rest × IsHeader h
header_takes bytes h rest fits e =
    let r = header_read bytes h rest e in
    let prefix : serialized (header_in bytes) ≡ take 80 bytes = serialized_in bytes r.long fits in
    let parts : bytes ≡ serialized h ++ rest =
    sym (take-append-drop 80 bytes) ∙ (λ j. sym prefix j ++ r.past j) ∙ ap (λ (k : Header). serialized k ++ rest) r.is in
    (record { parts = parts; rest_fits = subst IsBytes r.past (IsBytes-drop 80 bytes fits) }, subst IsHeader r.is (is_header_in bytes r.long fits))

header_again : (h : Header) (rest : List ℕ) → IsHeader h → header_at (serialized h ++ rest) ≡ Ok (h, rest)
header_again h rest is =
    let bytes : List ℕ = serialized h ++ rest in
    header_reads bytes (omega (arith, length-append (serialized h) rest, length_serialized h is))
    ∙ (λ j. Ok (header_in_serialized h rest is j, after_serialized h rest is j))

-- ---- the number of transactions

count_by : (bytes : List ℕ) (n : ℕ × List ℕ) (m : ℕ) (rest : List ℕ) (none : Bool) → eqb n.0 0 ≡ none
    → cond {A = Read ℕ} none (Err (record { left = length bytes; reason = NoTransaction })) (Ok n) ≡ Ok (m, rest) → (n ≡ (m, rest)) × (1 ≤ m)
count_by bytes n m rest true is e = absurd cc
count_by bytes n m rest false is e =
    let same = ok_is n (m, rest) e in
    let first : n.0 ≡ m = ap (λ (p : ℕ × List ℕ). p.0) same in
    let some = eqb-false n.0 0 is in
    (same, omega (arith, some))

pub count_takes : (bytes : List ℕ) (m : ℕ) (rest : List ℕ) → IsBytes bytes → count_at bytes ≡ Ok (m, rest) → Takes bytes (compact m) rest × (m ≤ 4194304) × (1 ≤ m)
unfolding count_at
count_takes bytes m rest fits e =
    let n = bind_ok (compact_at bytes) _ (m, rest) e in
    let c = count_by bytes n.0 m rest (eqb n.0.0 0) refl n.2 in
    let t = compact_takes bytes m rest fits (n.1 ∙ ap (λ (p : ℕ × List ℕ). Ok p) c.0) in
    (t.0, t.1, c.1)

count_again : (m : ℕ) (rest : List ℕ) → m ≤ 4194304 → 1 ≤ m → count_at (compact m ++ rest) ≡ Ok (m, rest)
unfolding count_at
count_again m rest few some = rw (compact_again m rest few, ne_eqb m 0 (λ is. absurd (omega arith))) refl

-- ---- the end

ended_ok : {A : Type 0} (all : A) (rest : List ℕ) (x : A) → ended all rest ≡ Ok x → (rest ≡ []) × (all ≡ x)
ended_ok all [] x e = (refl, ok_is all x e)
ended_ok all (next ∷ rest) x e = absurd cc

-- ---- the block

pub block_takes : (bytes : List ℕ) (c : Contents) → IsBytes bytes → block_at bytes ≡ Ok c → IsBlock bytes c
unfolding block_at
block_takes bytes c fits e =
    let h = bind_ok (header_at bytes) _ c e in
    let n = bind_ok (count_at h.0.1) _ c h.2 in
    let m = bind_ok (many_at transaction_at n.0.0 n.0.1) _ c n.2 in
    let read : Contents = record { header = h.0.0; transactions = m.0.0 } in
    let x = ended_ok read m.0.1 c m.2 in
    let th = header_takes bytes h.0.0 h.0.1 fits h.1 in
    let tn = count_takes h.0.1 n.0.0 n.0.1 th.0.rest_fits n.1 in
    let tm = many_takes IsTransaction transaction_bytes transaction_at transaction_field n.0.0 n.0.1 m.0.0 m.0.1 tn.0.rest_fits m.1 in
    let counts : Takes h.0.1 (counted transaction_bytes m.0.0) m.0.1 =
    subst (λ (k : ℕ). Takes h.0.1 (compact k ++ flat_map transaction_bytes m.0.0) m.0.1) (sym tm.2)
    (Takes-then h.0.1 (compact n.0.0) n.0.1 (flat_map transaction_bytes m.0.0) m.0.1 tn.0 tm.0) in
    let all = Takes-then bytes (serialized h.0.0) h.0.1 (counted transaction_bytes m.0.0) m.0.1 th.0 counts in
    subst (IsBlock bytes) {x = read} {y = c} x.1 (record {
      header = th.1;
      some = omega (arith, tn.2, tm.2);
      transactions = record { most = omega (arith, tn.1, tm.2); each = tm.1 };
      bytes = all.parts ∙ ap (λ (z : List ℕ). block_bytes read ++ z) x.0 ∙ append-nil (block_bytes read);
    })

pub block_again : (bytes : List ℕ) (c : Contents) → IsBlock bytes c → block_at bytes ≡ Ok c
unfolding block_at
block_again bytes c is =
    let ts = c.transactions in
    let most : length ts ≤ 4194304 = is.transactions.most in
    let regrouped : bytes ≡ serialized c.header ++ (compact (length ts) ++ (flat_map transaction_bytes ts ++ [])) =
    is.bytes ∙ ap (λ (z : List ℕ). serialized c.header ++ (compact (length ts) ++ z)) (sym (append-nil (flat_map transaction_bytes ts))) in
    ap block_at regrouped
    ∙ rw (header_again c.header (compact (length ts) ++ (flat_map transaction_bytes ts ++ [])) is.header, count_again (length ts) (flat_map transaction_bytes ts ++ []) most is.some, many_again IsTransaction transaction_bytes transaction_at transaction_field ts [] is.transactions.each) refl

-- ---- what the code keeps

-- whether reading ends, without what was read
abbrev void_of : {A : Type 0} → Result A Halt → Result (Unit {0}) Halt
void_of (Ok x) = Ok tt
void_of (Err h) = Err h

step_any : {A B C : Type 0} (r : Read A) (e : End) (f : A × List ℕ → Result B Halt) (g : List ℕ → Result C Halt)
    → rest_of r ≡ e → ((x : A × List ℕ) → void_of (f x) ≡ void_of (g x.1)) → void_of (r >>= f) ≡ void_of (e >>= g)
step_any {C = C} (Ok x) e f g same next = next x ∙ ap (λ (z : End). void_of {A = C} (z >>= g)) same
step_any {C = C} (Err h) e f g same next = ap (λ (z : End). void_of {A = C} (z >>= g)) same

-- a step that is made within another
step_within : {A B C : Type 0} (r : Result A Halt) (q : A → Result B Halt) (f : B → Result C Halt) → ((r >>= q) >>= f) ≡ (r >>= λ x. q x >>= f)
step_within (Ok x) q f = refl
step_within (Err h) q f = refl

step_both : {A B C : Type 0} (r : Result A Halt) (f : A → Result B Halt) (g : A → Result C Halt)
    → ((x : A) → void_of (f x) ≡ void_of (g x)) → void_of (r >>= f) ≡ void_of (r >>= g)
step_both (Ok x) f g next = next x
step_both (Err h) f g next = refl

step_rest : {A B C D : Type 0} (r : Read A) (q : Read B) (f : A × List ℕ → Result C Halt) (g : B × List ℕ → Result D Halt)
    → rest_of r ≡ rest_of q → ((x : A × List ℕ) (y : B × List ℕ) → x.1 ≡ y.1 → void_of (f x) ≡ void_of (g y)) → void_of (r >>= f) ≡ void_of (q >>= g)
step_rest (Ok x) (Ok y) f g same next = next x y (ok_is x.1 y.1 same)
step_rest (Ok x) (Err h) f g same next = absurd cc
step_rest (Err h) (Ok y) f g same next = absurd cc
step_rest (Err h) (Err k) f g same next = ap (λ (z : End). z >>= λ l. Ok tt) same

ended_both : {A B : Type 0} (a : A) (b : B) (x y : List ℕ) → x ≡ y → void_of (ended a x) ≡ void_of (ended b y)
ended_both a b [] [] e = refl
ended_both a b [] (k ∷ y) e = absurd cc
ended_both a b (k ∷ x) [] e = absurd cc
ended_both a b (k ∷ x) (l ∷ y) e = ap (λ (z : List ℕ). Err (record { left = length z; reason = Rest })) e

same_halts : (bytes : List ℕ) → void_of (block_at bytes) ≡ void_of (kept_at bytes)
unfolding block_at kept_at prefix_at
same_halts bytes =
    step_any (header_at bytes) (header_end bytes) _ _ (header_ends bytes) (λ h.
    step_both (count_at h.1) _ _ (λ n.
    step_rest (many_at transaction_at n.0 n.1) (many_at laid_at n.0 n.1) _ _ (same_rest n.0 n.1) (λ x y e.
    ended_both (record { header = h.0; transactions = x.0 }) y.0 x.1 y.1 e)))
    ∙ ap (λ (z : Result (List Places) Halt). void_of z) (sym (step_within (header_end bytes) count_at (λ n. many_at laid_at n.0 n.1 >>= λ all. ended all.0 all.1)))

-- ---- how long a stripped form is

compact_short : (n : ℕ) → n ≤ 4194304 → length (compact n) ≤ 5
compact_short n few =
    elim (cases_lt n 0xfd) [
      | inl one ↦ rw (compact_1 n one) (omega arith)
      | inr more ↦
          elim (cases_lt n (2 ^ 16)) [
            | inl two ↦ rw (compact_3 n more two) (omega arith)
            | inr four ↦ rw (compact_5 n four (omega arith)) (omega arith)
          ]
    ]

flat_short : {A : Type 0} (Is : A → Type 0) (text : A → List ℕ) (m : ℕ) → ((x : A) → Is x → length (text x) ≤ m)
    → (xs : List A) → AllByRecursion Is xs → length (flat_map text xs) ≤ m * length xs
flat_short Is text m each [] all = omega arith
flat_short Is text m each (x ∷ xs) all =
    omega (arith, length-append (text x) (flat_map text xs), each x all.0, flat_short Is text m each xs all.1, mul-suc m (length xs))

input_short : (i : Input) → IsInput i → length (input_bytes i) ≤ 4194400
input_short i is =
    omega (arith, length-append (i.outpoint ++ sized i.script) i.sequence, length-append i.outpoint (sized i.script), length-append (compact (length i.script)) i.script, compact_short (length i.script) is.script, is.outpoint, is.script, is.sequence)

output_short : (o : Output) → IsOutput o → length (output_bytes o) ≤ 4194400
output_short o is =
    omega (arith, length-append o.value (sized o.script), length-append (compact (length o.script)) o.script, compact_short (length o.script) is.script, is.value, is.script)

short : (t : Transaction) → IsTransaction t → length (stripped t) < 2 ^ 61
unfolding stripped
short t is =
    let i = flat_short IsInput input_bytes 4194400 input_short t.inputs is.inputs.each in
    let o = flat_short IsOutput output_bytes 4194400 output_short t.outputs is.outputs.each in
    omega (arith, i, o, is.inputs.most, is.outputs.most, is.version, is.lock_time, length-append (t.version ++ body_bytes t) t.lock_time, length-append t.version (body_bytes t), length-append (counted input_bytes t.inputs) (counted output_bytes t.outputs), length-append (compact (length t.inputs)) (flat_map input_bytes t.inputs), length-append (compact (length t.outputs)) (flat_map output_bytes t.outputs), compact_short (length t.inputs) is.inputs.most, compact_short (length t.outputs) is.outputs.most)

all_short : (ts : List Transaction) → AllByRecursion IsTransaction ts → AllByRecursion (λ form. length form < 2 ^ 61) (map stripped ts)
all_short [] all = tt
all_short (t ∷ ts) all = (short t all.0, all_short ts all.1)

block_reads : (bytes : List ℕ) (h : Header) (b1 : List ℕ) (n : ℕ) (b2 : List ℕ) (ts : List Transaction) (b3 : List ℕ) → header_at bytes ≡ Ok (h, b1)
    → count_at b1 ≡ Ok (n, b2) → many_at transaction_at n b2 ≡ Ok (ts, b3) → b3 ≡ [] → block_at bytes ≡ Ok (record { header = h; transactions = ts })
unfolding block_at
block_reads bytes h b1 n b2 ts b3 eh en et e3 = rw (eh, en, et, e3) refl

pub kept : (bytes : List ℕ) (ps : List Places) → IsBytes bytes → kept_at bytes ≡ Ok ps → (c : Contents) × IsKept bytes c ps
unfolding kept_at prefix_at
kept bytes ps fits e =
    let h = bind_ok (header_end bytes) (λ b. count_at b >>= λ n. many_at laid_at n.0 n.1 >>= λ all. ended all.0 all.1) ps
    (sym (step_within (header_end bytes) count_at (λ n. many_at laid_at n.0 n.1 >>= λ all. ended all.0 all.1)) ∙ e) in
    let n = bind_ok (count_at h.0) _ ps h.2 in
    let m = bind_ok (many_at laid_at n.0.0 n.0.1) _ ps n.2 in
    let x = ended_ok m.0.0 m.0.1 ps m.2 in
    let hv = value_of (header_at bytes) h.0 (header_ends bytes ∙ h.1) in
    let hr = header_read bytes hv.0 h.0 hv.1 in
    let th = header_takes bytes hv.0 h.0 fits hv.1 in
    let tn = count_takes h.0 n.0.0 n.0.1 th.0.rest_fits n.1 in
    let l = all_laid n.0.0 n.0.1 m.0.0 m.0.1 tn.0.rest_fits m.1 in
    let prefix : List ℕ = serialized hv.0 ++ compact n.0.0 in
    let both : bytes ≡ prefix ++ n.0.1 = (Takes-then bytes (serialized hv.0) h.0 (compact n.0.0) n.0.1 th.0 tn.0).parts in
    let c : Contents = record { header = hv.0; transactions = l.ts } in
    let reads : block_at bytes ≡ Ok c = block_reads bytes hv.0 h.0 n.0.0 n.0.1 l.ts m.0.1 hv.1 n.1 l.reads x.0 in
    let stripped_there : map (stripped_in bytes) m.0.0 ≡ map stripped l.ts =
    ap (λ (z : List ℕ). map (stripped_in z) m.0.0) both ∙ l.strips prefix in
    let few : length n.0.1 ≤ length bytes = omega (arith, ap length both, length-append prefix n.0.1) in (
      c,
      subst (IsKept bytes c) x.1 (record {
        reads = reads;
        header = hr.is;
        long = hr.long;
        strips = stripped_there;
        short = all_short l.ts (block_takes bytes c fits reads).transactions.each;
        within = l.within (length bytes) few;
      }),
    )

-- ---- what is answered

pub contents_are : (bytes : List ℕ) (c : Contents) → block_at bytes ≡ Ok c → contents_in bytes ≡ c
unfolding contents_in
contents_are bytes c e = rw e refl

pub keeps : (bytes : List ℕ) (ps : List Places) → IsBytes bytes → kept_at bytes ≡ Ok ps → IsKept bytes (contents_in bytes) ps
keeps bytes ps fits e =
    let k = kept bytes ps fits e in
    subst (λ (c : Contents). IsKept bytes c ps) (sym (contents_are bytes k.0 k.1.reads)) k.1

pub kept_read : (bytes : List ℕ) (ps : List Places) → IsBytes bytes → kept_at bytes ≡ Ok ps → Ok (contents_in bytes) ≡ read_block bytes
kept_read bytes ps fits e = let k = keeps bytes ps fits e in sym (ap (placed (length bytes)) k.reads)

placed_same : {A B : Type 0} (n : ℕ) (r : Result A Halt) (q : Result B Halt) (e : BlockError) → void_of r ≡ void_of q → placed n q ≡ Err e → placed n r ≡ Err e
placed_same n (Ok x) (Ok y) e same f = absurd cc
placed_same n (Ok x) (Err h) e same f = absurd cc
placed_same n (Err g) (Ok y) e same f = absurd cc
placed_same n (Err g) (Err h) e same f =
    let halts : g ≡ h = cc in
    let told : BadBlock (n - h.left) h.reason ≡ e = cc in
    ap (λ (k : Halt). Err (BadBlock (n - k.left) k.reason)) halts ∙ ap (λ (k : BlockError). Err k) told

pub not_kept : (bytes : List ℕ) (e : BlockError) (r : Result Contents BlockError) → Fails (length bytes) e (kept_at bytes) → r ≡ Err e
    → UnlessOutOfMemory OutOfMemory r (read_block bytes)
not_kept bytes OutOfMemory r fails is = λ short. absurd (short is)
not_kept bytes (BadBlock place why) r fails is = λ short. is ∙ sym (placed_same (length bytes) (block_at bytes) (kept_at bytes) (BadBlock place why) (same_halts bytes) fails)

placed_ok : {A : Type 0} (n : ℕ) (r : Result A Halt) (x : A) → Ok x ≡ placed n r → r ≡ Ok x
placed_ok n (Ok y) x e = let same : x ≡ y = cc in ap (λ z. Ok z) (sym same)
placed_ok n (Err h) x e = absurd cc

pub read_ok : (bytes : List ℕ) (r : Result Contents BlockError) → IsBytes bytes → UnlessOutOfMemory OutOfMemory r (read_block bytes) → IfOk r (λ c. IsBlock bytes c)
read_ok bytes (Ok c) fits is = block_takes bytes c fits (placed_ok (length bytes) (block_at bytes) c (is (λ short. absurd cc)))
read_ok bytes (Err e) fits is = tt

pub accepted : (bytes : List ℕ) (r : Result Contents BlockError) (c : Contents) → UnlessOutOfMemory OutOfMemory r (read_block bytes) → IsBlock bytes c
    → UnlessOutOfMemory OutOfMemory r (Ok c)
accepted bytes r c is block short = is short ∙ ap (placed (length bytes)) (block_again bytes c block)

-- ---- what is asked of a kept block

at_map : {A : Type 0} (f : A → List ℕ) (xs : List A) (i : ℕ) (x : A) → i < length xs → x ≡ get_or xs i x → f x ≡ get_or (map f xs) i []
at_map f [] i x inside is = absurd (omega arith)
at_map f (y ∷ xs) zero x inside is = ap f is
at_map f (y ∷ xs) (suc i) x inside is = at_map f xs i x (omega arith) is

pub count_kept : (bytes : List ℕ) (c : Contents) (ps : List Places) → IsKept bytes c ps → length ps ≡ length c.transactions
count_kept bytes c ps k =
    sym (length-map ps (stripped_in bytes)) ∙ ap length k.strips ∙ length-map c.transactions stripped

pub form_kept : (bytes : List ℕ) (c : Contents) (ps : List Places) (p : Places) (i : ℕ) → IsKept bytes c ps → i < length c.transactions → p ≡ get_or ps i p
    → stripped_in bytes p ≡ get_or (stripped_forms c) i []
form_kept bytes c ps p i k inside is =
    at_map (stripped_in bytes) ps i p (omega (arith, count_kept bytes c ps k)) is ∙ ap (λ (z : List (List ℕ)). get_or z i []) k.strips

short_at : (forms : List (List ℕ)) (i : ℕ) → AllByRecursion (λ form. length form < 2 ^ 61) forms → length (get_or forms i []) < 2 ^ 61
short_at [] i all = omega arith
short_at (form ∷ forms) zero all = all.0
short_at (form ∷ forms) (suc i) all = short_at forms i all.1

pub form_told : {E : Type 0} (r : Result (Vec ℕ Global) E) (x y : List ℕ) → IfOk r (λ s. s.items ≡ x) → x ≡ y → IfOk r (λ s. s.items ≡ y)
form_told (Ok s) x y is same = is ∙ same
form_told (Err e) x y is same = tt

pub short_told : {E : Type 0} (r : Result (Vec ℕ Global) E) (forms : List (List ℕ)) (i : ℕ) → IfOk r (λ s. s.items ≡ get_or forms i [])
    → AllByRecursion (λ form. length form < 2 ^ 61) forms → IfOk r (λ s. length s.items < 2 ^ 61)
short_told (Ok s) forms i is all = omega (arith, short_at forms i all, ap length is)
short_told (Err e) forms i is all = tt

pub id_of : (ts : List Transaction) (i : ℕ) → i < length ts → double_sha256 (get_or (map stripped ts) i []) ≡ get_or (map txid ts) i []
id_of [] i inside = absurd (omega arith)
id_of (t ∷ ts) zero inside = refl
id_of (t ∷ ts) (suc i) inside = id_of ts i (omega arith)
