use Rattle.std.proofs.Common.{◌∙◌, map, ap}
use Rattle.ots_archive_ask.proofs.Sheets.{ends_many, ends_sheet}
use Rattle.ots_sheet.specs.Request.{request_parts}
use Rattle.ots_archive_ask.proofs.sheet.write_sheet.Goals as goal

pub returns-then-not-is_within : goal.returns-then-not-is_within
returns-then-not-is_within g c = λ urls t holds. ends_many urls t c.args.gathered.now holds _ _ _ _
    (λ within. let fits = c.is_within.ensures.1 within in let past = c.if-not-is_within.true in absurd cc) c.refuse.ensures

pub returns-in-Ok : goal.returns-in-Ok
returns-in-Ok g c = λ urls t holds. ends_sheet urls t c.args.gathered.now holds c.args.name.now _ _ _ (map request_parts c.deref.result.now)
    (ap (map request_parts) c.deref.ensures.value ∙ c.in-Ok.ensures.all) (c.is_within.ensures.0 c.if-not-is_within.false) c.in-Ok.ensures.valid c.make_sheet.ensures
