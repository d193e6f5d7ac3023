use Rattle.std.proofs.Common.{◌∷◌, [], List, ℕ, subst, sym}
use Rattle.ots_store.specs.Order.{Follows}
use Rattle.ots_store.specs.Records.{Record, TipRecord, IsRecord, record_of}
use Rattle.ots_store.specs.Store.{Added}
use Rattle.ots_store.proofs.Recorded.{entry}
use Rattle.ots_store.proofs.Spellings.{is_record, record_read}
use Rattle.ots_store.proofs.store.Store.add_tip.Goals as goal

pub add-requires-clause-is : goal.add-requires-clause-is
add-requires-clause-is g c =
    subst (λ (p : List ℕ). IsRecord (entry 2 p)) (sym c.spell_tip-payload.ensures.spelled) (is_record (TipRecord c.args.tip.now) c.spell_tip-payload.ensures.fits)

pub add-requires-clause-follows : goal.add-requires-clause-follows
add-requires-clause-follows g c =
    subst (λ (p : List ℕ). Follows c.args.self.now.records (record_of (entry 2 p))) (sym c.spell_tip-payload.ensures.spelled)
    (subst (λ (r : Record). Follows c.args.self.now.records r) (sym (record_read (TipRecord c.args.tip.now) c.spell_tip-payload.ensures.fits)) c.requires.follows)

pub returns-clause-added : goal.returns-clause-added
returns-clause-added g c =
    let d = g.D.Disk in
    subst (λ (p : List ℕ). Added d.clock d.images_since c.args.self.now.journal c.add.new.self.journal (entry 2 p ∷ []) c.add.result) c.spell_tip-payload.ensures.spelled c.add.ensures.added
