-- What reading a head from a link came to, by what a head is and where there is none. It serves the reader's code.
use Rattle.std.specs.Prelude.{◌≡◌, ℕ, ◌<◌, ◌≤◌, nat_eq, if◌then◌else◌, List, [], ◌++◌, length, take, Option}
use Rattle.httparse.specs.declared.spans.HeaderSpan.{HeaderSpan}
use Rattle.ots_base.specs.Told.{IfTold, BothTold}
use Rattle.ots_outside.specs.Link.{LinkTold, LinkGives}
use Rattle.ots_http.specs.declared.limits.TheConstants.{MAX_HEAD}
use Rattle.ots_http.specs.declared.heads.HeadRead.{HeadRead}
use Rattle.ots_http.specs.declared.heads.HeadRead.TheVariants.{Head, NoHead, Ended}

-- What came begins with no head yet: an input that ends here begins with none, nor does one of which MAX_HEAD bytes
-- came.
pub record IsUndecided (none outside : List ℕ → Type 0) (came : List ℕ) : Type 0 where
  pub none_yet : none came
  pub at_end : outside came
  pub full : length came ≡ MAX_HEAD → (more : List ℕ) → outside (came ++ more)

-- The first bytes of the buffer came, and begin with the head whose parts stand at these places.
pub record FindsHead {H : Type 0} (covers : List ℕ → List HeaderSpan → H → Type 0) (old new : Option LinkTold)
    (buffer : List ℕ) (fields : List HeaderSpan) (head : H) (filled : ℕ) : Type 0 where
  pub fits : filled ≤ MAX_HEAD
  pub parts : covers (take filled buffer) fields head
  pub gives : BothTold (LinkGives (take filled buffer)) old new

abbrev pub IsHeadRead : {H : Type 0} → (List ℕ → List HeaderSpan → H → Type 0) → (List ℕ → Type 0) → Option LinkTold
    → Option LinkTold → List ℕ → List HeaderSpan → HeadRead H → Type 0
IsHeadRead covers outside old new buffer fields (Head head filled) = FindsHead covers old new buffer fields head filled
IsHeadRead covers outside old new buffer fields NoHead =
    IfTold old (λ link. (0 < length link.left) × outside link.left)
IsHeadRead covers outside old new buffer fields Ended = IfTold old (λ link. link.left ≡ [])

-- What an input of `filled` bytes without a head is.
abbrev pub at_end : {H : Type 0} → ℕ → HeadRead H
at_end filled = if nat_eq filled 0 then Ended else NoHead
