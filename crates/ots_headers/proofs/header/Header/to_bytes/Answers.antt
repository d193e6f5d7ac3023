use Rattle.std.proofs.Common.{◌++◌, ap, ◌∙◌, rules}
use Rattle.ots_headers.specs.Header.{header_in}
use Rattle.ots_headers.proofs.HeaderBytes.{put_all, header_again}
use Rattle.ots_headers.proofs.header.Header.to_bytes.Goals as goal

pub returns-clause-bytes : goal.returns-clause-bytes
returns-clause-bytes c =
    put_all _ _ _ _ _ _ _ _ _ _ _ _ (search rules) (search rules) (search rules) (search rules) (search rules) (search rules) (search rules)
    c.put.ensures c.put-2.ensures c.put-3.ensures c.put-4.ensures c.put-5.ensures c.put-6.ensures
    ∙ (λ i. c.to_le_bytes.ensures i ++ c.args.self.now.previous ++ c.args.self.now.root
    ++ c.to_le_bytes-2.ensures i ++ c.to_le_bytes-3.ensures i ++ c.to_le_bytes-4.ensures i)

pub returns-clause-back : goal.returns-clause-back
returns-clause-back c = ap header_in (returns-clause-bytes c) ∙ header_again c.args.self.now (search rules)
