use Rattle.std.proofs.Common.{◌≡◌, List, inr, refl, sym, subst, rules}
use Rattle.ots_address.specs.Address.{AddressParts}
use Rattle.ots_address.specs.AddressList.{IsListOf}
use Rattle.ots_client_endings.proofs.Reading.{after_list, list_refused, named, named_stop, stop_into}
use Rattle.ots_client_endings.proofs.Running.{read_finished, read_short, stop_told}
use Rattle.ots_client_endings.specs.Outside.{Hears, alone}
use Rattle.ots_client_endings.specs.Reading.{WithProof, is_list, is_refused}
use Rattle.ots_client_inputs.proofs.Inputs.{a_proof}
use Rattle.ots_client_words.specs.Words.{read_upgrading}
use Rattle.ots_completing.proofs.Asked.{asks_all, asks_some, comes, unheard}
use Rattle.ots_completing.proofs.Concluded.{concluded}
use Rattle.ots_completing.specs.Upgrade.{Completes, Upgrades, UpgradesFile, WritesAsked}
use Rattle.ots_completing.proofs.upgrading.upgrade.Goals as goal

pub returns-in-Err-clause-runs : goal.returns-in-Err-clause-runs
returns-in-Err-clause-runs g c =
    let u = read_upgrading c.args.asked in
    stop_told {A = Unit {0}} {gives = λ told x. Unit {0}} (stop_into {A = Unit {0}} {gives = λ told x. Unit {0}} {refuses = λ told. UpgradesFile alone told u}
    (λ e h. unheard g.D.Dialer.told g.D.Dialer.faults _ u c.args.dialer.now e h)
    (list_refused {goes_on = λ told calendars. WithProof told u.proof (λ p. Completes alone calendars p u.to)} _ c.in-Err.ensures)) (c.refuse_stop.ensures.told _ _)

pub returns-in-Err-read_proof-clause-runs : goal.returns-in-Err-read_proof-clause-runs
returns-in-Err-read_proof-clause-runs g c =
    let u = read_upgrading c.args.asked in
    stop_told {A = Unit {0}} {gives = λ told x. Unit {0}} (stop_into
    (λ e h. unheard g.D.Dialer.told g.D.Dialer.faults _ u c.args.dialer.now e (is_list _ c.in-Ok.ensures (is_refused h)))
    (after_list c.in-Ok.ensures (named_stop (a_proof _) {stop = c.in-Err-read_proof.stop} c.in-Err-read_proof.ensures))) (c.refuse_stop-in-Err-read_proof.ensures.told _ _)

pub returns-in-Ok-upgrade_within-clause-runs : goal.returns-in-Ok-upgrade_within-clause-runs
returns-in-Ok-upgrade_within-clause-runs g c =
    let u = read_upgrading c.args.asked in
    let same : c.deref.result.now ≡ c.in-Ok.calendars.items = search rules in
    let h = c.in-Ok-upgrade_within.ensures.upgraded in
    read_finished (λ told. Upgrades (Hears g.D.Dialer.told g.D.Dialer.faults c.args.dialer.now c.upgrade_within.new.dialer) told u) _
    (WritesAsked c.in-Ok-upgrade_within.upgraded.asked u.to h.upgraded.proof) (after_list c.in-Ok.ensures (named (a_proof _) c.in-Ok-read_proof.ensures))
    (λ e is. comes g.D.Dialer.told g.D.Dialer.faults (subst (λ (z : List AddressParts). IsListOf u.calendars z) (sym same) c.in-Ok.ensures) c.in-Ok-read_proof.ensures.answer h e is)
    (c.write_upgraded.ensures.finishes h.upgraded.proof h.told_within)

pub returns-clause-runs : goal.returns-clause-runs
returns-clause-runs g c = read_short (after_list c.in-Ok.ensures (named (a_proof _) c.in-Ok-read_proof.ensures)) refl

pub returns-in-Ok-upgrade_within-clause-asks : goal.returns-in-Ok-upgrade_within-clause-asks
returns-in-Ok-upgrade_within-clause-asks g c =
    let same : c.deref.result.now ≡ c.in-Ok.calendars.items = search rules in
    inr (asks_all g.D.Dialer.told g.D.Dialer.faults (subst (λ (z : List AddressParts). IsListOf c.args.asked.calendars.now z) (sym same) c.in-Ok.ensures) c.in-Ok-read_proof.ensures.answer
    c.in-Ok-upgrade_within.ensures.upgraded)

pub returns-clause-asks : goal.returns-clause-asks
returns-clause-asks g c =
    let same : c.deref.result.now ≡ c.in-Ok.calendars.items = search rules in
    inr (asks_some g.D.Dialer.told g.D.Dialer.faults (subst (λ (z : List AddressParts). IsListOf c.args.asked.calendars.now z) (sym same) c.in-Ok.ensures) c.in-Ok-read_proof.ensures.answer
    c.in-Err-upgrade_within.ensures.broken_off)

pub returns-in-Err-clause-completes : goal.returns-in-Err-clause-completes
returns-in-Err-clause-completes g c = λ names told can. concluded _ names _ can _ _ _ told (returns-in-Err-clause-runs g c)

pub returns-in-Err-read_proof-clause-completes : goal.returns-in-Err-read_proof-clause-completes
returns-in-Err-read_proof-clause-completes g c = λ names told can. concluded _ names _ can _ _ _ told (returns-in-Err-read_proof-clause-runs g c)

pub returns-in-Ok-upgrade_within-clause-completes : goal.returns-in-Ok-upgrade_within-clause-completes
returns-in-Ok-upgrade_within-clause-completes g c = λ names told can. concluded _ names _ can _ _ _ told (returns-in-Ok-upgrade_within-clause-runs g c)

pub returns-clause-completes : goal.returns-clause-completes
returns-clause-completes g c = λ names told can. concluded _ names _ can _ _ _ told (returns-clause-runs g c)
