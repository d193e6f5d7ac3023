-- A request and its reply over one link, for the code of a conversation.
use Rattle.std.specs.Prelude.{◌≡◌, ◌≤◌, ℕ, List, ◌++◌, length, take, Option, Result, IsErrOf}
use Rattle.ots_base.specs.Cause.{HasCauseWhere}
use Rattle.ots_base.specs.Told.{IfTold, BothTold}
use Rattle.ots_outside.specs.Link.{LinkTold}
use Rattle.ots_http.specs.declared.reply.HttpReply.{HttpReply}
use Rattle.ots_http.specs.declared.reply.ReplyError.{ReplyError}
use Rattle.ots_http.specs.declared.reply.ReplyError.TheVariants.{LinkFault}
use Rattle.ots_http.specs.ReplyTable.{IsReplyAnswer}

-- The link took more of these bytes.
abbrev pub TakesSome : ℕ → List ℕ → LinkTold → LinkTold → Type 0
TakesSome n bytes old new = new.taken ≡ old.taken ++ take n bytes

-- The link took these bytes, or a prefix of them where it failed, and what was read of its reply is answered.
pub record Exchanges (bytes : List ℕ) (old new : Option LinkTold) (before now : ℕ)
    (result : Result HttpReply ReplyError) : Type 0 where
  pub count : ℕ
  pub at_most : count ≤ length bytes
  pub taken : BothTold (TakesSome count bytes) old new
  pub whole : ¬ IsErrOf result LinkFault → count ≡ length bytes
  pub answer : IfTold old (λ told. IsReplyAnswer told.left result)
  pub cause : HasCauseWhere (IsErrOf result LinkFault) before now
