use Rattle.std.proofs.Common.{◌≡◌, ◌∙◌, sym, subst, List, ℕ}
use Rattle.ots_address.specs.Address.{IsAddress}
use Rattle.ots_attest.specs.declared.uri.UriError.TheVariants.{BadChar, OutOfMemory, TooLong}
use Rattle.ots_calendar_inputs.proofs.Addressed.{never_refused}
use Rattle.ots_calendar_inputs.proofs.address.uri_of.Goals as goal

pub unreachable-requires : goal.unreachable-requires
unreachable-requires c =
    let a = c.args.address.now in
    let parts : IsAddress c.text.result.now a.host a.port = subst (λ (z : List ℕ). IsAddress z a.host a.port) (sym c.text.ensures.text) c.text.ensures.parts in
    never_refused c.new.result c.text.result.now a.host a.port c.in-Err-TooLong.field-0 c.new.ensures.value parts c.in-Err-TooLong.is
    (λ ran. let clash : TooLong c.in-Err-TooLong.field-0-0 ≡ OutOfMemory = sym c.in-Err-TooLong.field-0-is ∙ ran in absurd cc)

pub unreachable-requires-in-Err-BadChar : goal.unreachable-requires-in-Err-BadChar
unreachable-requires-in-Err-BadChar c =
    let a = c.args.address.now in
    let parts : IsAddress c.text.result.now a.host a.port = subst (λ (z : List ℕ). IsAddress z a.host a.port) (sym c.text.ensures.text) c.text.ensures.parts in
    never_refused c.new.result c.text.result.now a.host a.port c.in-Err-BadChar.field-0 c.new.ensures.value parts c.in-Err-BadChar.is
    (λ ran. let clash : BadChar c.in-Err-BadChar.field-0-0 ≡ OutOfMemory = sym c.in-Err-BadChar.field-0-is ∙ ran in absurd cc)
