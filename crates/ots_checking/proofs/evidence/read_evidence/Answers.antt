use Rattle.std.proofs.Common.{inl, inr, ◌∙◌}
use Rattle.ots_checking.specs.Verified.{PrintsVerdict, VerifiesBy, VerifiesProof, VerifiesTarget, perhaps_headers}
use Rattle.ots_client_endings.specs.Reading.{is_given, is_refused}
use Rattle.ots_client_words.specs.Words.{read_verification}
use Rattle.ots_client_endings.proofs.Reading.{input_stops, named, named_stop, reads_none, runs_short, stops_reading, then_input, then_reads}
use Rattle.ots_inputs.proofs.Opened.{prefix_of_more, then_opened}
use Rattle.ots_client_inputs.proofs.Inputs.{a_checked, a_table, a_target}
use Rattle.ots_client_inputs.specs.Inputs.{names_in}
use Rattle.ots_checking.proofs.Inputs.{checked_by, hashed_by, perhaps_given, perhaps_refused, rose_from, whole_prefix}
use Rattle.ots_checking.proofs.evidence.read_evidence.Goals as goal

pub returns-in-Err-clause-reads : goal.returns-in-Err-clause-reads
returns-in-Err-clause-reads g c = input_stops (λ told. VerifiesBy told (read_verification c.args.asked)) _ (a_table (read_verification c.args.asked).bitcoin) c.in-Err.ensures

pub returns-in-Err-clause-bounded : goal.returns-in-Err-clause-bounded
returns-in-Err-clause-bounded g c = λ ran. inl (prefix_of_more _ (names_in (perhaps_headers (read_verification c.args.asked).litecoin)) _ _ (named_stop (a_table (read_verification c.args.asked).bitcoin) {stop = c.in-Err.stop} c.in-Err.ensures).prefix)

pub returns-in-Err-read_perhaps_headers-clause-reads : goal.returns-in-Err-read_perhaps_headers-clause-reads
returns-in-Err-read_perhaps_headers-clause-reads g c = then_input (λ told. VerifiesBy told (read_verification c.args.asked)) (a_table (read_verification c.args.asked).bitcoin) c.in-Ok.ensures
    (stops_reading _ (λ e h. perhaps_refused _ (read_verification c.args.asked).litecoin (VerifiesProof _ (read_verification c.args.asked) c.in-Ok.bitcoin) e h) c.in-Err-read_perhaps_headers.ensures)

pub returns-in-Err-read_perhaps_headers-clause-bounded : goal.returns-in-Err-read_perhaps_headers-clause-bounded
returns-in-Err-read_perhaps_headers-clause-bounded g c = λ ran. inl (then_opened _ _ _ _ _ c.in-Ok.ensures.opened c.in-Err-read_perhaps_headers.ensures.prefix)

pub returns-in_err-verifier-clause-reads : goal.returns-in_err-verifier-clause-reads
returns-in_err-verifier-clause-reads g c = then_input (λ told. VerifiesBy told (read_verification c.args.asked)) (a_table (read_verification c.args.asked).bitcoin) c.in-Ok.ensures
    (then_reads {part = λ told. VerifiesProof told (read_verification c.args.asked) c.in-Ok.bitcoin c.in-Ok-read_perhaps_headers.litecoin}
    (λ e h. perhaps_given _ (read_verification c.args.asked).litecoin c.in-Ok-read_perhaps_headers.litecoin (VerifiesProof _ (read_verification c.args.asked) c.in-Ok.bitcoin) e c.in-Ok-read_perhaps_headers.ensures.given h) c.in-Ok-read_perhaps_headers.ensures
    (runs_short _ c.from_residual.ensures.1))

pub returns-in_err-verifier-clause-bounded : goal.returns-in_err-verifier-clause-bounded
returns-in_err-verifier-clause-bounded g c = λ ran. inl (then_opened _ _ _ _ _ c.in-Ok.ensures.opened (whole_prefix _ _ _ c.in-Ok-read_perhaps_headers.ensures.opened))

pub returns-in-Err-check_proof-clause-reads : goal.returns-in-Err-check_proof-clause-reads
returns-in-Err-check_proof-clause-reads g c = then_input (λ told. VerifiesBy told (read_verification c.args.asked)) (a_table (read_verification c.args.asked).bitcoin) c.in-Ok.ensures
    (then_reads {part = λ told. VerifiesProof told (read_verification c.args.asked) c.in-Ok.bitcoin c.in-Ok-read_perhaps_headers.litecoin}
    (λ e h. perhaps_given _ (read_verification c.args.asked).litecoin c.in-Ok-read_perhaps_headers.litecoin (VerifiesProof _ (read_verification c.args.asked) c.in-Ok.bitcoin) e c.in-Ok-read_perhaps_headers.ensures.given h) c.in-Ok-read_perhaps_headers.ensures
    (stops_reading _ (λ e h. is_refused h) (named_stop (a_checked _ _ (read_verification c.args.asked).proof) c.in-Err-check_proof.ensures.reads)))

pub returns-in-Err-check_proof-clause-bounded : goal.returns-in-Err-check_proof-clause-bounded
returns-in-Err-check_proof-clause-bounded g c = λ ran.
    inr (rose_from _ _ _ (c.in-Ok-read_perhaps_headers.ensures.kept.short (λ r. r) ∙ c.in-Ok.ensures.kept.short (λ r. cc)) (c.in-Err-check_proof.ensures.short ran))

pub returns-clause-reads : goal.returns-clause-reads
returns-clause-reads g c =
    let given = c.in-Ok-check_proof.ensures.reads.answer in
    then_input (λ told. VerifiesBy told (read_verification c.args.asked)) (a_table (read_verification c.args.asked).bitcoin) c.in-Ok.ensures
    (then_reads {part = λ told. VerifiesProof told (read_verification c.args.asked) c.in-Ok.bitcoin c.in-Ok-read_perhaps_headers.litecoin}
    (λ e h. perhaps_given _ (read_verification c.args.asked).litecoin c.in-Ok-read_perhaps_headers.litecoin (VerifiesProof _ (read_verification c.args.asked) c.in-Ok.bitcoin) e c.in-Ok-read_perhaps_headers.ensures.given h) c.in-Ok-read_perhaps_headers.ensures
    (then_reads {part = λ told. VerifiesTarget told (read_verification c.args.asked).target c.in-Ok.bitcoin c.in-Ok-read_perhaps_headers.litecoin given.2.0} (λ e h. is_given given.2.0 (given.0, given.1, given.2.1) h) (named (a_checked _ _ (read_verification c.args.asked).proof) c.in-Ok-check_proof.ensures.reads)
    (stops_reading _ (λ e h. is_refused h) (named_stop (a_target (read_verification c.args.asked).target _) c.in-Err-hash_target.ensures.reads))))

pub returns-clause-bounded : goal.returns-clause-bounded
returns-clause-bounded g c = λ ran.
    inr (rose_from _ _ _ (c.in-Ok-check_proof.ensures.reads.kept.short (λ r. cc) ∙ c.in-Ok-read_perhaps_headers.ensures.kept.short (λ r. r) ∙ c.in-Ok.ensures.kept.short (λ r. cc))
    (c.in-Err-hash_target.ensures.short ran))

pub returns-in-Ok-hash_target-clause-reads : goal.returns-in-Ok-hash_target-clause-reads
returns-in-Ok-hash_target-clause-reads g c =
    let given = c.in-Ok-check_proof.ensures.reads.answer in
    let check = checked_by c.in_ok-verifier.verifier c.in-Ok.bitcoin c.in-Ok-read_perhaps_headers.litecoin _ _ _ given.2.0 c.in-Ok-check_proof.checked c.in_ok-verifier.ensures c.as_ref.ensures.value given.2.2 in
    let digest = c.in-Ok-hash_target.digest in
    then_input (λ told. VerifiesBy told (read_verification c.args.asked)) (a_table (read_verification c.args.asked).bitcoin) c.in-Ok.ensures
    (then_reads {part = λ told. VerifiesProof told (read_verification c.args.asked) c.in-Ok.bitcoin c.in-Ok-read_perhaps_headers.litecoin}
    (λ e h. perhaps_given _ (read_verification c.args.asked).litecoin c.in-Ok-read_perhaps_headers.litecoin (VerifiesProof _ (read_verification c.args.asked) c.in-Ok.bitcoin) e c.in-Ok-read_perhaps_headers.ensures.given h) c.in-Ok-read_perhaps_headers.ensures
    (then_reads {part = λ told. VerifiesTarget told (read_verification c.args.asked).target c.in-Ok.bitcoin c.in-Ok-read_perhaps_headers.litecoin given.2.0} (λ e h. is_given given.2.0 (given.0, given.1, given.2.1) h) (named (a_checked _ _ (read_verification c.args.asked).proof) c.in-Ok-check_proof.ensures.reads)
    (then_reads {part = λ told. PrintsVerdict given.2.0 c.in-Ok.bitcoin c.in-Ok-read_perhaps_headers.litecoin digest}
    (λ e h. is_given digest (hashed_by _ _ _ _ digest check.hash c.in-Ok-hash_target.ensures.reads.answer) h) (named (a_target (read_verification c.args.asked).target _) c.in-Ok-hash_target.ensures.reads)
    (reads_none (λ e h. (h.0, h.1 given.2.0 c.in-Ok.bitcoin c.in-Ok-read_perhaps_headers.litecoin check, h.2))))))
