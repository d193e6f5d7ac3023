-- Before the first byte, what a tree stands below may be set anew.
use Rattle.std.proofs.Common.{◌≡◌, Bool, true, false, List, [], ◌∷◌, Option, Some, refl, sym, ap, ◌∙◌, if◌then◌else◌}
use Rattle.ots_ops.specs.declared.op.Op.{Op}
use Rattle.ots_ops.specs.declared.op.Op.TheVariants as op
use Rattle.ots_tree.specs.declared.shape.Shape.{Shape}
use Rattle.ots_tree.specs.declared.token.Token.TheVariants as token
use Rattle.ots_tree.specs.Walk.{Position, open_at, none_open, next}
use Rattle.ots_tree.specs.Front.{Open, start, opened}
use Rattle.ots_reader.specs.declared.arrived.Arrived.{Arrived}
use Rattle.ots_reader.specs.declared.front.Front.{Front}
use Rattle.ots_reader.specs.Arrived.{tokens_of, reserved_by, IsHeld}
use Rattle.ots_reader.specs.Front.{IsStanding}
use Rattle.ots_reader.specs.OneAnswer.{IsShape}
use Rattle.ots_reader.specs.Tokens.{Tokens, begun}
use Rattle.ots_reader.specs.declared.token_reader.TheConstants.{TOKEN_READER_BYTES}

abbrev of_one : Shape → List Shape → Open
of_one s others = record { nodes = s ∷ others; forked = false }

-- the walk stands at the root
record AtRoot (whole : Bool) (others : List Shape) : Type 0 where
  still : whole ≡ false
  alone : others ≡ []

at_root : (whole : Bool) (s : Shape) (w : Position Shape) → Some (of_one s []) ≡ Some (if whole then none_open else open_at w) → AtRoot whole w.others
at_root true s w e =
    let same : of_one s [] ≡ none_open = cc in
    let nodes : s ∷ [] ≡ [] = ap (λ (z : Open). z.nodes) same in absurd cc
at_root false s w e =
    let same : of_one s [] ≡ open_at w = cc in
    let nodes : s ∷ [] ≡ w.last ∷ w.others = ap (λ (z : Open). z.nodes) same in
    record { still = refl; alone = cc }

opens_there : (whole : Bool) (shape : Shape) (w v : Position Shape) → AtRoot whole w.others → Some (of_one shape w.others) ≡ Some (open_at v)
    → Some (of_one shape []) ≡ Some (if whole then none_open else open_at v)
opens_there true shape w v h e = let still = h.still in absurd cc
opens_there false shape w v h e = ap (λ z. Some (of_one shape z)) (sym h.alone) ∙ e

abbrev pub Leads : Position Shape → Shape → Position Shape → Type 0
Leads w shape v = (by : Op → Shape → Option Shape) (o : Op) → by o w.last ≡ Some shape → next by (token.Op o) (open_at w) ≡ Some (open_at v)

abbrev pub set_below : Front → Shape → Position Shape → Front
set_below f shape v = record {
  below = shape;
  place = f.place;
  walk = v;
  whole = f.whole;
  came = f.came;
}

pub placed : (f : Front) (shape : Shape) (v : Position Shape) → IsStanding f → f.came.tokens ≡ [] → IsShape shape.length shape.depth → Leads f.walk shape v → v.room ≡ f.walk.room
    → IsStanding (set_below f shape v)
placed f shape v h came is leads room =
    let opens : Some (of_one f.below []) ≡ Some (if f.whole then none_open else open_at f.walk) =
    ap (opened (start f.below.length f.below.depth)) (sym came) ∙ h.opens in
    let root = at_root f.whole f.below f.walk opens in
    record {
      shape = is;
      fits = h.fits;
      opens = ap (opened (start shape.length shape.depth)) came ∙ opens_there f.whole shape f.walk v root (leads (λ _ _. Some shape) op.Sha256 refl);
      place = h.place;
      nodes = rw room h.nodes;
    }

-- what is held takes the memory that was taken at first
pub all_reserved : (a : Arrived) → IsHeld a → reserved_by a ≡ TOKEN_READER_BYTES
all_reserved a h = rw (h.bytes, h.stands.nodes) refl

-- the bytes that have arrived, before the first
pub placed_begun : (a b : Arrived) (shape : Shape) → tokens_of a ≡ begun a.front.below → IsHeld b → b.front.below ≡ shape → b.front.came.tokens ≡ []
    → (tokens_of b).kept ≡ (tokens_of a).kept → tokens_of b ≡ begun shape
placed_begun a b shape none held below came kept =
    let empty : (tokens_of b).kept ≡ [] = kept ∙ ap (λ (z : Tokens). z.kept) none in
    let room = all_reserved b held in
    λ i. record { shape = below i; came = came i; kept = empty i; reserved = room i }
