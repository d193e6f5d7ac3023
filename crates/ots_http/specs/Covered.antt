-- Where the parts of a head stand in bytes that begin with it.
use Rattle.std.specs.Prelude.{ℕ, List}
use Rattle.httparse.specs.declared.spans.HeaderSpan.{HeaderSpan}
use Rattle.httparse.specs.declared.spans.RequestSpans.{RequestSpans}
use Rattle.httparse.specs.declared.spans.ResponseSpans.{ResponseSpans}
use Rattle.httparse.specs.Spans.{IsRequestWithin, IsRequestOf, IsResponseWithin, IsResponseOf}

pub record CoversRequest (bytes : List ℕ) (fields : List HeaderSpan) (head : RequestSpans) : Type 0 where
  pub within : IsRequestWithin bytes fields head
  pub is : IsRequestOf bytes fields head

pub record CoversReply (bytes : List ℕ) (fields : List HeaderSpan) (head : ResponseSpans) : Type 0 where
  pub within : IsResponseWithin bytes fields head
  pub is : IsResponseOf bytes fields head
