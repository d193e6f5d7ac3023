use Rattle.std.proofs.Common.{List, Option}
use Rattle.ots_chain.specs.declared.pins.Pin.{Pin}
use Rattle.ots_checking.specs.Chain.{ChecksChain, ChecksFile, WithPerhapsPins, items_of, perhaps_pins}
use Rattle.ots_checking.proofs.Inputs.{pins_given, pins_refused}
use Rattle.ots_client_endings.proofs.Reading.{reads_into, stop_into, then_input}
use Rattle.ots_client_endings.proofs.Running.{input_told, read_finished, stop_told}
use Rattle.ots_client_inputs.proofs.Inputs.{a_table}
use Rattle.ots_client_words.specs.Words.{read_chaining}
use Rattle.ots_checking.proofs.chaining.chain.Goals as goal

pub returns-in-Err-clause-runs : goal.returns-in-Err-clause-runs
returns-in-Err-clause-runs g c =
    input_told (λ told table. WithPerhapsPins told (read_chaining c.args.asked).pins (ChecksChain table)) (perhaps_pins (read_chaining c.args.asked).pins) c.in-Err.stop
    (a_table (read_chaining c.args.asked).headers) c.in-Err.ensures (c.refuse_stop.ensures.told _ _)

pub returns-in-Ok-read_perhaps_pins-clause-runs : goal.returns-in-Ok-read_perhaps_pins-clause-runs
returns-in-Ok-read_perhaps_pins-clause-runs g c =
    let reads = then_input {D = λ pins. ChecksChain c.in-Ok.headers (items_of pins)} (λ told table. WithPerhapsPins told (read_chaining c.args.asked).pins (ChecksChain table)) (a_table (read_chaining c.args.asked).headers) c.in-Ok.ensures
    (reads_into (λ h e decides. pins_given _ (read_chaining c.args.asked).pins (items_of c.in-Ok-read_perhaps_pins.pins) (ChecksChain c.in-Ok.headers) e h decides) c.in-Ok-read_perhaps_pins.ensures) in
    read_finished (λ told. ChecksFile told (read_chaining c.args.asked)) _ (ChecksChain c.in-Ok.headers (items_of c.in-Ok-read_perhaps_pins.pins)) reads reads.given (c.tell_chain.ensures.finishes _ _)

pub returns-clause-runs : goal.returns-clause-runs
returns-clause-runs g c =
    stop_told {A = Option (List Pin)} {stop = c.in-Err-read_perhaps_pins.stop}
    (then_input {D = λ pins e. Unit {0}} (λ told table. WithPerhapsPins told (read_chaining c.args.asked).pins (ChecksChain table)) (a_table (read_chaining c.args.asked).headers) c.in-Ok.ensures
    (stop_into (λ e h. pins_refused _ (read_chaining c.args.asked).pins (ChecksChain c.in-Ok.headers) e h) c.in-Err-read_perhaps_pins.ensures))
    (c.refuse_stop-in-Err-read_perhaps_pins.ensures.told _ _)
