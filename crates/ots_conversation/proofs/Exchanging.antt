-- A request that was written, and then its reply read.
use Rattle.std.proofs.Common.{◌≡◌, ◌≤◌, ℕ, false, List, ◌++◌, length, Option, None, Some, Result, Ok, Err, is_err, refl, sym, ap, ◌∙◌, arith}
use Rattle.std.proofs.Math.Seq.{take-length}
use Rattle.ots_base.specs.Cause.{HasCauseWhere}
use Rattle.ots_base.specs.Told.{IfTold, BothTold, BothTold-trans}
use Rattle.ots_outside.specs.Link.{LinkTold, LinkTakes, LinkGives}
use Rattle.ots_http.specs.Given.{GivesAtMost}
use Rattle.ots_http.specs.ReplyTable.{IsReplyAnswer}
use Rattle.ots_http.specs.Written.{WritesAll}
use Rattle.ots_http.specs.declared.reply.HttpReply.{HttpReply}
use Rattle.ots_http.specs.declared.reply.ReplyError.{ReplyError}
use Rattle.ots_http.specs.declared.reply.ReplyError.TheVariants.{LinkFault}
use Rattle.ots_conversation.specs.Exchanged.{Exchanges, TakesSome}

then_given : (bytes more : List ℕ) (t u v : LinkTold) → LinkTakes bytes t u → LinkGives more u v → TakesSome (length bytes) bytes t v
then_given bytes more t u v takes gives = gives.taken ∙ takes.taken ∙ ap (λ (z : List ℕ). t.taken ++ z) (sym (take-length bytes))

answer_stays : (bytes : List ℕ) (r : Result HttpReply ReplyError) (old mid : Option LinkTold) → BothTold (LinkTakes bytes) old mid
    → IfTold mid (λ told. IsReplyAnswer told.left r) → IfTold old (λ told. IsReplyAnswer told.left r)
answer_stays bytes r None mid takes answer = tt
answer_stays bytes r (Some t) None takes answer = absurd takes
answer_stays bytes r (Some t) (Some u) takes answer = rw (sym takes.left) answer

whole_of : {T E : Type 0} (bytes : List ℕ) (old mid : Option LinkTold) (w : Result T E) → WritesAll bytes old mid w → is_err w ≡ false
    → BothTold (LinkTakes bytes) old mid
whole_of bytes old mid (Ok x) written ok = written.whole
whole_of bytes old mid (Err e) written ok = absurd (cc)

pub exchanges : {T E : Type 0} (bytes : List ℕ) (old mid new : Option LinkTold) (before at now most : ℕ) (w : Result T E) (r : Result HttpReply ReplyError)
    → WritesAll bytes old mid w → is_err w ≡ false → before ≤ at → GivesAtMost most mid new → IfTold mid (λ told. IsReplyAnswer told.left r)
    → HasCauseWhere (r ≡ Err LinkFault) at now → Exchanges bytes old new before now r
exchanges bytes old mid new before at now most w r written ok later came answer cause =
    let whole : BothTold (LinkTakes bytes) old mid = whole_of bytes old mid w written ok in
    record {
      count = length bytes;
      at_most = omega arith;
      taken = BothTold-trans (LinkTakes bytes) (LinkGives came.bytes) (TakesSome (length bytes) bytes) (then_given bytes came.bytes) old mid new whole came.gives;
      whole = λ _. refl;
      answer = answer_stays bytes r old mid whole answer;
      cause = record { later = omega (arith, cause.later); rose = λ failed. omega (arith, cause.rose failed) };
    }
