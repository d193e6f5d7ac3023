use Rattle.std.proofs.Common.{ℕ, ◌∙◌, ap, length}
use Rattle.std.specs.Prelude.{codes}
use Rattle.ots_tree.specs.Wire.{spelled}
use Rattle.ots_http.specs.ReplyText.{reply_head}
use Rattle.ots_http.proofs.WriteLemmas.{both_written, first_cut}
use Rattle.ots_http.proofs.replying.write_tree.Goals as goal

pub returns-in-Ok-clause-written : goal.returns-in-Ok-clause-written
returns-in-Ok-clause-written g c =
    both_written _ _ _ _ _ (spelled c.args.tree.now) _ _
    (c.text-2.ensures ∙ c.add_octets_head.ensures.head ∙ ap (λ (n : ℕ). reply_head 200 (codes "OK") (codes "application/octet-stream") n)
    c.size_of-size.ensures)
    c.in-Ok.ensures.written c.write_spelling.ensures.written

pub returns-in-Err-clause-written : goal.returns-in-Err-clause-written
returns-in-Err-clause-written g c =
    first_cut _ _ _ _ (spelled c.args.tree.now) _ _
    (c.text-2.ensures ∙ c.add_octets_head.ensures.head ∙ ap (λ (n : ℕ). reply_head 200 (codes "OK") (codes "application/octet-stream") n)
    c.size_of-size.ensures)
    c.in-Err.ensures.written
