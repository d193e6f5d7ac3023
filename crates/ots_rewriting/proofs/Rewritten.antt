-- What is made of a sound proof is sound.
use Rattle.std.proofs.Common.{ℕ, List}
use Rattle.ots_canon.specs.Canonical.{IsCanonOf}
use Rattle.ots_canon.specs.Prune.{IsPruneOf}
use Rattle.ots_tree.specs.declared.token.Token.{Token}
use Rattle.ots_tree.specs.Sound.{IsSoundPre}
use Rattle.ots_rewriting.specs.Rewritten.{IsTreeOf}
use Rattle.ots_rewriting.specs.declared.rewriting.Rewriting.{Rewriting}
use Rattle.ots_rewriting.specs.declared.rewriting.Rewriting.TheVariants.{Canon, Prune}

pub rewritten_sound : (way : Rewriting) (n k : ℕ) (ts us : List Token)
    → ((n k : ℕ) (ts us : List Token) → IsSoundPre n k ts → IsCanonOf ts us → IsSoundPre n k us)
    → ((n k : ℕ) (ts us : List Token) → IsSoundPre n k ts → IsPruneOf ts us → IsSoundPre n k us)
    → IsSoundPre n k ts → IsTreeOf way ts us → IsSoundPre n k us
rewritten_sound Canon n k ts us canon prune sound is = canon n k ts us sound is
rewritten_sound Prune n k ts us canon prune sound is = prune n k ts us sound is
