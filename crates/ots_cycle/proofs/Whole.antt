-- Where the whole way of a file leads, and how long it is.
use Rattle.std.proofs.Common.{◌≡◌, ℕ, ◌≤◌, ◌^◌, List, [], ◌∷◌, ◌++◌, length, get_or, Some, refl, sym, ap, ◌∙◌, arith, length-append}
use Rattle.std.specs.Prelude.{Contains, option_and_then, slice_get}
use Rattle.std.proofs.lemmas.List.{get_or-map, length-map}
use Rattle.std.proofs.lemmas.Option.{get_or_from_slice_get, slice_get_within}
use Rattle.ots_calendar.specs.Cycle.{IsCycle}
use Rattle.ots_cycle.specs.Whole.{whole_path}
use Rattle.ots_headers.specs.HeaderTable.{Table, root_at}
use Rattle.ots_merkle.specs.CalendarTree.{path, root}
use Rattle.ots_merkle.proofs.PathLaws.{path_leads, path_short}
use Rattle.ots_ops.specs.Value.{value}
use Rattle.ots_ops.specs.declared.op.Op.TheVariants.{Append, Sha256}
use Rattle.ots_round.proofs.Leading.{hash_of, appended, value_then, one_more}
use Rattle.ots_stamp.specs.Stamped.{leaf, leaves, to_root}
use Rattle.ots_stamp.specs.declared.target.Target.{Target}
use Rattle.ots_stamp.proofs.Founded.{are_hashes}
use Rattle.ots_store.specs.Records.{Record}
use Rattle.ots_tree.specs.Wire.{Node, paths, pre}
use Rattle.ots_tree.specs.declared.detached.Detached.{Detached}
use Rattle.ots_tree.specs.declared.token.Token.{Token}
use Rattle.ots_verdicts.specs.Confirmed.{IsConfirmed}
use Rattle.ots_verdicts.specs.declared.verdicts.Chain.TheVariants as chain

-- from a file's digest to the root
to_root_leads : (targets : List Target) (i : ℕ) (t : Target) → slice_get targets i ≡ Some t → value (to_root (leaves targets) i t) t.digest ≡ Some (root (leaves targets))
to_root_leads targets i t is =
    let less = slice_get_within targets i t is in
    let here : get_or (leaves targets) i [] ≡ leaf t = get_or-map leaf targets i t [] less ∙ ap leaf (get_or_from_slice_get targets i t t is) in
    let digest : length t.digest ≡ 32 = t.is_sha256 in
    let nonce : length t.nonce ≡ 16 = t.is_nonce in
    one_more (Append t.nonce) (Sha256 ∷ path (leaves targets) i) t.digest (t.digest ++ t.nonce) (appended t.nonce t.digest (omega (arith, digest, nonce)))
    ∙ one_more Sha256 (path (leaves targets) i) (t.digest ++ t.nonce) (leaf t) (hash_of (t.digest ++ t.nonce) (omega (arith, digest, nonce, length-append t.digest t.nonce)))
    ∙ ap (value (path (leaves targets) i)) (sym here)
    ∙ path_leads (leaves targets) i (are_hashes targets) (omega (arith, less, length-map targets leaf))

module _ (targets : List Target) (i : ℕ) (t : Target) (records : List Record) (uri commitment : List ℕ) (stamped completed : List Token)
    (c : IsCycle records (root (leaves targets)) uri commitment stamped completed) where
  pub whole_leads : slice_get targets i ≡ Some t → value (whole_path targets i t c).ops t.digest ≡ Some c.anchor.root
  whole_leads is =
      value_then (to_root (leaves targets) i t) (c.first ++ c.second) (Some t.digest) ∙ ap (option_and_then (value (c.first ++ c.second))) (to_root_leads targets i t is) ∙ c.leads

  pub whole_few : length targets ≤ 1024 → length (whole_path targets i t c).ops ≤ 223
  whole_few few =
      let up = path_short 10 (leaves targets) i (let n : length (leaves targets) ≤ 2 ^ 10 = omega (arith, few, length-map targets leaf) in n) in
      let rest = c.few in
      omega (arith, up, rest, length-append (to_root (leaves targets) i t) (c.first ++ c.second))

  pub whole_confirmed : (proof : Detached) (node : Node) (table : Table) → slice_get targets i ≡ Some t → proof.digest ≡ t.digest → pre node ≡ proof.tree
      → Contains (paths node) (whole_path targets i t c) → root_at table c.anchor.height ≡ Some c.anchor.root → IsConfirmed chain.Bitcoin table proof c.anchor.height
  whole_confirmed proof node table is digest tree among given = record {
    node = node;
    tree = tree;
    path = whole_path targets i t c;
    among = among;
    confirms = record {
      root = c.anchor.root;
      attested = refl;
      reached = ap (value (whole_path targets i t c).ops) digest ∙ whole_leads is;
      given = given;
    };
  }
