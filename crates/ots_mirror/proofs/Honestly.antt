-- Honest replies.
use Rattle.std.proofs.Common.{ℕ, List, []}
use Rattle.ots_http.specs.ReplyTable.{ReplyOutcome, bad_http, good, status, too_long}

abbrev pub body_in : ReplyOutcome → List ℕ
body_in (good body) = body
body_in (status code) = []
body_in too_long = []
body_in bad_http = []
