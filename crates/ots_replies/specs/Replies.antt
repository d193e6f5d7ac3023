-- What is read of a reply sheet. Source: this project's format of sheets, as ots_sheet defines it.
use Rattle.std.specs.Prelude.{◌≡◌, ◌<◌, ℕ, List, length, slice_index_or, Option, Result, Ok, Err}
use Rattle.ots_base.specs.Told.{IfTold}
use Rattle.ots_sheet.specs.Request.{RequestParts}
use Rattle.ots_sheet.specs.Reply.{Answer, ReplyParts}
use Rattle.ots_sheet.specs.Sheet.{IsBadSheet, IsReplies, reply_sheet}
use Rattle.ots_replies.specs.declared.error.SheetError.{SheetError}
use Rattle.ots_replies.specs.declared.error.SheetError.TheVariants.{BadSheet, OutOfMemory, ReadFault}

-- The text is the sheet of these answers.
pub record IsSheetOf (text : List ℕ) (answers : List Answer) : Type 0 where
  pub replies : IsReplies answers
  pub whole : text ≡ reply_sheet answers

-- what a whole input gives
abbrev pub GivesReplies : List ℕ → Result (List Answer) SheetError → Type 0
GivesReplies text (Ok answers) = IsSheetOf text answers
GivesReplies text (Err (BadSheet number)) = IsBadSheet text number
GivesReplies text (Err ReadFault) = Unit {0}
GivesReplies text (Err OutOfMemory) = Unit {0}

-- The input is that which is left where that is told.
pub record ReadsReplies (left : Option (List ℕ)) (result : Result (List Answer) SheetError) : Type 0 where
  pub text : List ℕ
  pub told : IfTold left (λ bytes. bytes ≡ text)
  pub gives : GivesReplies text result

-- The answers have this request, with this reply.
pub record HasReply (answers : List Answer) (request : RequestParts) (reply : ReplyParts) : Type 0 where
  pub at : ℕ
  pub within : at < length answers
  pub is : (a : Answer) → slice_index_or answers at a ≡ record { request = request; reply = reply }
