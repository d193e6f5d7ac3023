use Rattle.std.proofs.Common.{◌≡◌, ◌∙◌, sym, append-nil, arith, [], length, eqb-true, eq-eqb, true≢false}
use Rattle.std.proofs.lemmas.List.{nil_from_length}
use Rattle.ots_sums.proofs.Naming.{not_empty, not_escaped, not_nul, plain_name}
use Rattle.ots_sums.proofs.names.put_plain.Goals as goal
use Rattle.ots_sums.proofs.names.put_plain.Goals.{then-is_empty-via-then-is_empty, then-is_empty-via-else-is_empty+then-contains, then-is_empty-via-else-is_empty+else-contains+then-is_escaped}

pub returns-then-is_empty : goal.returns-then-is_empty
returns-then-is_empty c = (
  elim c.then-is_empty.branch [
    | then-is_empty-via-then-is_empty w ↦ λ name s. not_empty c.args.text.now name (nil_from_length c.args.text.now (eqb-true (length c.args.text.now) 0 (sym c.is_empty.ensures ∙ w.if-is_empty.true))) s
    | then-is_empty-via-else-is_empty+then-contains w ↦ λ name s. not_nul c.args.text.now name (sym w.contains.ensures.value ∙ w.if-contains.true) s
    | then-is_empty-via-else-is_empty+else-contains+then-is_escaped w ↦ λ name s. not_escaped c.args.text.now name (sym w.is_escaped.ensures ∙ w.if-is_escaped.true) s
  ],
  ([], sym (append-nil c.args.names.now.items)),
)

pub returns : goal.returns
returns c =
    let text = c.args.text.now in
    let some : length text ≡ 0 → ⊥ = λ none. true≢false (sym (eq-eqb (length text) 0 none) ∙ sym c.is_empty.ensures ∙ c.if-is_empty.false) in
    (text, c.in_ok-extend_from_slice.ensures.items, plain_name text (omega (arith, some)) (sym c.contains.ensures.value ∙ c.if-contains.false) (sym c.is_escaped.ensures ∙ c.if-is_escaped.false))
