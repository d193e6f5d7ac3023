use Rattle.std.proofs.Common.{◌≡◌, ◌-◌, ◌∙◌, ℕ, List, length, drop, take, ap, refl, rules, arith, length-drop}
use Rattle.std.proofs.lemmas.List.{take_all}
use Rattle.ots_printer.proofs.Pieces.{puts_as}
use Rattle.ots_store.specs.Records.{number}
use Rattle.ots_calendar_maintenance.proofs.Listing.{anchor_long, anchor_put}
use Rattle.ots_calendar_maintenance.proofs.list_command.put_record.Goals as goal

-- what lies after a place, to the end
after : (n at : ℕ) (bytes : List ℕ) → n ≡ number (take (length bytes - at) (drop at bytes)) → n ≡ number (drop at bytes)
after n at bytes is = is ∙ ap number (take_all (length bytes - at) (drop at bytes) (omega (arith, length-drop at bytes)))

pub slice_bounds-put_anchor-end : goal.slice_bounds-put_anchor-end
slice_bounds-put_anchor-end g c =
    let long = anchor_long (record { kind = c.args.kind; payload = c.args.payload.now }) c.if-kind-eq-COMMIT.false c.if-kind-eq-TIP.false c.requires in
    search rules

pub returns-else-kind-eq-TIP : goal.returns-else-kind-eq-TIP
returns-else-kind-eq-TIP g c =
    puts_as
    (anchor_put (record { kind = c.args.kind; payload = c.args.payload.now }) c.if-kind-eq-COMMIT.false c.if-kind-eq-TIP.false c.args.commits _ _ _ _
    c.number-else-kind-eq-TIP.ensures (after c.number-else-kind-eq-TIP-2.result 8 c.args.payload.now c.number-else-kind-eq-TIP-2.ensures) (after c.number-else-kind-eq-TIP-3.result 16 c.args.payload.now c.number-else-kind-eq-TIP-3.ensures) refl)
    c.put_anchor.ensures
