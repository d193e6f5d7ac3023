use Rattle.std.proofs.Common.{ap, subst}
use Rattle.ots_http.specs.ReplyTable.{good}
use Rattle.ots_http.proofs.OneAnswer.{one_outcome}
use Rattle.ots_mirror_pages.specs.Round.{IsHonest}
use Rattle.ots_mirror_pages.proofs.Honest.{honest}
use Rattle.ots_store.specs.Page.{page}
use Rattle.ots_mirror.proofs.Honestly.{body_in}
use Rattle.ots_mirror.proofs.laws.calendars_replies_are_honest.Goals as goal

pub returns : goal.returns
returns c all earlier n reply begins small within has body is =
    subst (IsHonest all) (ap body_in (one_outcome reply (good (page earlier n)) (good body) has is)) (honest all earlier n begins small within)
