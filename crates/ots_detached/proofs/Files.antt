-- Proof files and their faults.
use Rattle.std.proofs.Common.{◌≡◌, ℕ, ◌+◌, ◌-◌, ◌<◌, ◌≤◌, List, [], ◌∷◌, ◌++◌, length, take, drop, refl, sym, ap, subst, ◌∙◌, arith, append_assoc, length-append, length-drop, append-nil, None, Some}
use Rattle.std.specs.List.{AllByRecursion}
use Rattle.std.proofs.lemmas.List.{take_all, drop_at, append_cancel_left}
use Rattle.ots_varint.proofs.OneNumber.{parts_equal}
use Rattle.ots_ops.specs.declared.hash_op.HashOp.TheVariants.{Sha1, Ripemd160, Sha256}
use Rattle.ots_ops.specs.declared.hash_op.HashOp.{HashOp}
use Rattle.ots_ops.specs.HashOp.{tag, digest_length}
use Rattle.ots_tree.specs.declared.tree.Tree.{Tree}
use Rattle.ots_tree.specs.declared.token.Token.{Token}
use Rattle.ots_tree.specs.Wire.{Node, pre, bytes, spelled, IsToken}
use Rattle.ots_tree.specs.Sound.{IsSound}
use Rattle.ots_tree.proofs.Determined.{bytes-apart}
use Rattle.ots_reader.specs.declared.fault.Fault.{Fault}
use Rattle.ots_reader.specs.declared.fault.Reason.TheVariants.{TrailingBytes}
use Rattle.ots_reader.specs.TreeFault.{HasTreeFault}
use Rattle.ots_reader.specs.TreeRead.{IsTreeAt, IsTreeError}
use Rattle.ots_reader.specs.declared.fault.ReadError.{ReadError}
use Rattle.ots_reader.specs.declared.fault.ReadError.TheVariants as error
use Rattle.ots_detached.specs.FileRead.{IsFileError, moved_error, place_of}
use Rattle.ots_detached.specs.File.{magic, header, file, HasFile, IsHeader}
use Rattle.ots_detached.specs.FileFault.{at, moved, HasFault, in_header, in_tree, after}
use Rattle.ots_reader.proofs.OneFault.{one_fault_lem, never_both_lem}
use Rattle.ots_detached.proofs.Headers.{header_length, header_none}

-- the bytes from a place on, as a slice names them
pub rest_is : (n : ℕ) (b : List ℕ) → take (length b - n) (drop n b) ≡ drop n b
rest_is n b = take_all (length b - n) (drop n b) (omega (arith, length-drop n b))

-- a fault of the tree
pub tree_fault : (b : List ℕ) (h : HashOp) (d : List ℕ) (n : ℕ) (g : Fault) → IsHeader b h d → n ≡ length d
    → HasTreeFault n 0 (take (length b - (33 + n)) (drop (33 + n) b)) g → HasFault b (moved (33 + n) g)
tree_fault b h d n g head same fault =
    let at_length : HasTreeFault (length d) 0 (drop (33 + length d) b) g =
    subst (λ (m : ℕ). HasTreeFault m 0 (drop (33 + m) b) g) same (rw rest_is at fault) in
    in_tree h d g head at_length (ap (λ (m : ℕ). moved (33 + m) g) same)

-- where something stands
some_stands : (xs : List ℕ) → 0 < length xs → (x : ℕ) × (rest : List ℕ) × (xs ≡ x ∷ rest)
some_stands [] h = absurd (omega arith)
some_stands (x ∷ rest) h = (x, rest, refl)

-- bytes after the tree
pub trailing : (b : List ℕ) (h : HashOp) (d : List ℕ) (n used : ℕ) (tree : Tree) → length b ≤ 4194304 → IsHeader b h d → n ≡ length d
    → IsTreeAt n 0 (take (length b - (33 + n)) (drop (33 + n) b)) tree used → 33 + n + used < length b → HasFault b (at (33 + n + used) TrailingBytes)
trailing b h d n used tree size head same read short =
    let c = drop (33 + n) b in
    let at-rest : IsTreeAt n 0 c tree used = rw rest_is at read in
    let t = at-rest.sound.0 in
    let tokens : pre t ≡ tree = at-rest.sound.2 in
    let spelled-is : bytes t ≡ spelled tree = ap spelled tokens in
    let more = some_stands (drop used c) (omega (arith, length-drop used c, length-drop (33 + n) b)) in
    let split : c ≡ bytes t ++ (more.0 ∷ more.1) = at-rest.front ∙ ap (λ (z : List ℕ). z ++ drop used c) (sym spelled-is) ∙ ap (λ (z : List ℕ). bytes t ++ z) more.2 in
    let whole : b ≡ file h d t ++ (more.0 ∷ more.1) =
    head.prefix ∙ ap (λ (m : ℕ). header h d ++ drop (33 + m) b) (sym same) ∙ ap (λ (z : List ℕ). header h d ++ z) split ∙ sym (append_assoc (header h d) (bytes t) (more.0 ∷ more.1)) in
    let long : length (file h d t) ≡ 33 + n + used = omega (arith, length-append (header h d) (bytes t), header_length h d, ap length spelled-is, at-rest.len) in
    after h d t more.0 more.1
    (record {
      digest = head.digest;
      tokens = subst (λ (z : List Token). AllByRecursion IsToken z) (sym tokens) at-rest.fits;
      sound = subst (λ (m : ℕ). IsSound m 0 t) same at-rest.sound.1;
      size = omega (arith, long);
    })
    whole (ap (λ (m : ℕ). at m TrailingBytes) (sym long))

-- ---- a file determines what it is of, and has no fault

-- what is spelled where
pub record SameFile (h k : HashOp) (d e : List ℕ) (t u : Node) (x y : List ℕ) : Type 0 where
  pub hash : h ≡ k
  pub digest : d ≡ e
  pub tree : t ≡ u
  pub rest : x ≡ y

tag_apart : (h k : HashOp) → tag h ≡ tag k → h ≡ k
tag_apart Sha1 Sha1 e = refl
tag_apart Ripemd160 Ripemd160 e = refl
tag_apart Sha256 Sha256 e = refl
tag_apart h k e = absurd (omega arith)

-- two headers at the start of the same bytes
headers_apart : (h k : HashOp) (d e x y : List ℕ) → length d ≡ digest_length h → length e ≡ digest_length k → header h d ++ x ≡ header k e ++ y
    → (h ≡ k) × (d ≡ e) × (x ≡ y)
headers_apart h k d e x y dl el is =
    let f : (0x01 ∷ tag h ∷ d) ++ x ≡ (0x01 ∷ tag k ∷ e) ++ y = append_cancel_left magic _ _ (sym (append_assoc magic (0x01 ∷ tag h ∷ d) x) ∙ is ∙ append_assoc magic (0x01 ∷ tag k ∷ e) y) in
    let tags : tag h ≡ tag k = cc in
    let same = tag_apart h k tags in
    let rest : d ++ x ≡ e ++ y = cc in
    let parts = parts_equal d e x y (dl ∙ ap digest_length same ∙ sym el) rest in
    (same, parts.0, parts.1)

pub file_apart : (h k : HashOp) (d e : List ℕ) (t u : Node) (x y : List ℕ) → HasFile h d t → HasFile k e u → file h d t ++ x ≡ file k e u ++ y → SameFile h k d e t u x y
file_apart h k d e t u x y f g is =
    let regrouped : header h d ++ (bytes t ++ x) ≡ header k e ++ (bytes u ++ y) = sym (append_assoc (header h d) (bytes t) x) ∙ is ∙ append_assoc (header k e) (bytes u) y in
    let heads = headers_apart h k d e (bytes t ++ x) (bytes u ++ y) f.digest g.digest regrouped in
    let trees = bytes-apart t u x y f.tokens g.tokens heads.2 in
    record { hash = heads.0; digest = heads.1; tree = trees.0; rest = trees.1 }

pub file_header : (b : List ℕ) (h : HashOp) (d : List ℕ) (t : Node) (x : List ℕ) → HasFile h d t → b ≡ file h d t ++ x → IsHeader b h d × (drop (33 + length d) b ≡ bytes t ++ x)
file_header b h d t x f is =
    let regrouped : b ≡ header h d ++ (bytes t ++ x) = is ∙ append_assoc (header h d) (bytes t) x in
    let rest : drop (33 + length d) b ≡ bytes t ++ x = ap (drop (33 + length d)) regrouped ∙ drop_at (header h d) (bytes t ++ x) (33 + length d) (header_length h d) in
    (record { digest = f.digest; prefix = regrouped ∙ ap (λ (z : List ℕ). header h d ++ z) (sym rest) }, rest)

-- the header at the start of bytes is one
header_one : (b : List ℕ) (h k : HashOp) (d e : List ℕ) → IsHeader b h d → IsHeader b k e → (h ≡ k) × (d ≡ e)
header_one b h k d e f g =
    let a = headers_apart h k d e (drop (33 + length d) b) (drop (33 + length e) b) f.digest g.digest (sym f.prefix ∙ g.prefix) in
    (a.0, a.1)

-- a tree that is whole, and a fault of the bytes where it stands
not_in_tree : (b : List ℕ) (h k : HashOp) (d e : List ℕ) (t : Node) (x : List ℕ) (g : Fault) → HasFile h d t → b ≡ file h d t ++ x → IsHeader b k e
    → HasTreeFault (length e) 0 (drop (33 + length e) b) g → ⊥
not_in_tree b h k d e t x g f is head fault =
    let mine = file_header b h d t x f is in
    let one = header_one b k h e d head mine.0 in
    let here : HasTreeFault (length d) 0 (drop (33 + length d) b) g = subst (λ (z : List ℕ). HasTreeFault (length z) 0 (drop (33 + length z) b) g) one.1 fault in
    never_both_lem (length d) 0 (drop (33 + length d) b) g t x (omega arith) here (record { sound = f.sound; fits = f.tokens }) mine.1

pub never_both : (b : List ℕ) (h : HashOp) (d : List ℕ) (t : Node) (f : Fault) → HasFile h d t → b ≡ file h d t → HasFault b f → ⊥
never_both b h d t f file-is is (in_header e) =
    let none = header_none b h d (file_header b h d t [] file-is (is ∙ sym (append-nil (file h d t)))).0 in
    let clash : None ≡ Some f = sym none ∙ e in
    cc
never_both b h d t f file-is is (in_tree k e g head fault moved-is) = not_in_tree b h k d e t [] g file-is (is ∙ sym (append-nil (file h d t))) head fault
never_both b h d t f file-is is (after k e u x rest other whole at-is) =
    let same = file_apart h k d e t u [] (x ∷ rest) file-is other (append-nil (file h d t) ∙ sym is ∙ whole) in
    let nothing = same.rest in
    cc

pub one_fault : (b : List ℕ) (f g : Fault) → HasFault b f → HasFault b g → f ≡ g
one_fault b f g (in_header e) (in_header e') = let same : Some f ≡ Some g = sym e ∙ e' in cc
one_fault b f g (in_header e) (in_tree k d g' head fault is) = let clash : None ≡ Some f = sym (header_none b k d head) ∙ e in absurd cc
one_fault b f g (in_header e) (after k d u x rest other whole is) =
    let clash : None ≡ Some f = sym (header_none b k d (file_header b k d u (x ∷ rest) other whole).0) ∙ e in absurd cc
one_fault b f g (in_tree k d f' head fault is) (in_header e) = let clash : None ≡ Some g = sym (header_none b k d head) ∙ e in absurd cc
one_fault b f g (in_tree k d f' head fault is) (in_tree k' d' g' head' fault' is') =
    let one = header_one b k' k d' d head' head in
    let here : HasTreeFault (length d) 0 (drop (33 + length d) b) g' = subst (λ (z : List ℕ). HasTreeFault (length z) 0 (drop (33 + length z) b) g') one.1 fault' in
    let same = one_fault_lem (length d) 0 (drop (33 + length d) b) f' g' fault here in
    is ∙ ap (moved (33 + length d)) same ∙ ap (λ (z : List ℕ). moved (33 + length z) g') (sym one.1) ∙ sym is'
one_fault b f g (in_tree k d f' head fault is) (after k' d' u x rest other whole is') = absurd (not_in_tree b k' k d' d u (x ∷ rest) f' other whole head fault)
one_fault b f g (after k d u x rest other whole is) (in_header e) =
    let clash : None ≡ Some g = sym (header_none b k d (file_header b k d u (x ∷ rest) other whole).0) ∙ e in absurd cc
one_fault b f g (after k d u x rest other whole is) (in_tree k' d' g' head fault is') = absurd (not_in_tree b k k' d d' u (x ∷ rest) g' other whole head fault)
one_fault b f g (after k d u x rest other whole is) (after k' d' u' x' rest' other' whole' is') =
    let same = file_apart k k' d d' u u' (x ∷ rest) (x' ∷ rest') other other' (sym whole ∙ whole') in
    let files : file k d u ≡ file k' d' u' = λ i. file (same.hash i) (same.digest i) (same.tree i) in
    is ∙ ap (λ (z : List ℕ). at (length z) TrailingBytes) files ∙ sym is'

-- ---- a refusal of the tree's reader

pub error_place : (n k : ℕ) (input : List ℕ) (e : ReadError) → IsTreeError n k input e → place_of e ≤ length input
error_place n k input (error.Fault f) h = omega (arith, h.place, ap length h.whole, length-append (spelled h.front) h.rest)
error_place n k input error.OutOfMemory h = omega arith

pub tree_error : (b : List ℕ) (h : HashOp) (d : List ℕ) (n : ℕ) (e : ReadError) → length b ≤ 4194304 → IsHeader b h d → n ≡ length d
    → IsTreeError n 0 (take (length b - (33 + n)) (drop (33 + n) b)) e → IsFileError b (moved_error (33 + n) e)
tree_error b h d n (error.Fault f) size head same is = (size, tree_fault b h d n f head same is)
tree_error b h d n error.OutOfMemory size head same is = tt
