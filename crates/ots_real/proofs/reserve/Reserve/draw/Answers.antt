use Rattle.std.proofs.Common.{rules, ◌≡◌, length, List, ℕ, subst, sym, ◌∙◌, ap}
use Rattle.ots_real.proofs.Drawn.{all_taken}
use Rattle.ots_real.proofs.reserve.Reserve.draw.Goals as goal

pub returns-clause-drawn : goal.returns-clause-drawn
returns-clause-drawn g c =
    let whole : length c.try_fill_bytes.new.dst ≡ 256 = search rules in
    subst (λ (z : List ℕ). g.G.TryRng.may_fill c.args.random.now z c.try_fill_bytes.new.self)
    (sym (all_taken 256 c.try_fill_bytes.new.dst whole)) c.in-Ok.ensures

pub returns-clause-length : goal.returns-clause-length
returns-clause-length g c =
    let whole : length c.try_fill_bytes.new.dst ≡ 256 = search rules in
    ap length (all_taken 256 c.try_fill_bytes.new.dst whole) ∙ whole
