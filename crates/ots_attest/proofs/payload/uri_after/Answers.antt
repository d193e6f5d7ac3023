use Rattle.std.proofs.Common.{ap, ◌∙◌}
use Rattle.std.specs.Prelude.{is_err}
use Rattle.ots_varint.proofs.After.{same_slice}
use Rattle.ots_varint.specs.Varuint.{varbytes}
use Rattle.ots_attest.proofs.UriBytes.{is_uri, no_text, refused, text_bytes, text_few, whole}
use Rattle.ots_attest.proofs.Payloads.{uri_bad}
use Rattle.ots_attest.proofs.payload.uri_after.Goals as goal

pub returns-in_default : goal.returns-in_default
returns-in_default c =
    uri_bad c.args.length c.args.used c.args.payload.now c.if-length.false c.if-payload-end.false
    (no_text _ (rw (same_slice c.args.length c.args.used c.args.payload.now) at c.in_default.ensures.cases.0))

pub returns-in_default-new : goal.returns-in_default-new
returns-in_default-new c =
    let text = c.in-Ok.text.now in
    let is = c.in-Ok.ensures.cases.0 in
    let few = text_few c.args.length c.args.used c.args.payload.now text is c.if-length.false in
    uri_bad c.args.length c.args.used c.args.payload.now c.if-length.false c.if-payload-end.false
    (text_bytes c.args.length c.args.used c.args.payload.now text is (refused text text few (ap is_err c.in_default-new.ensures.err)))

pub returns : goal.returns
returns c =
    let uri = c.in-Ok-new.uri in
    let is = c.in-Ok-new.ensures.same ∙ c.in-Ok.ensures.cases.0 ∙ same_slice c.args.length c.args.used c.args.payload.now in (
      is_uri uri.text.now uri.greatest uri.each,
      ap varbytes is ∙ whole c.args.length c.args.used c.args.payload.now c.requires c.if-payload-end.false c.if-end-payload.false,
    )
