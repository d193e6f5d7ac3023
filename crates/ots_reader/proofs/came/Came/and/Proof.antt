-- `and` makes a value of no size, and picks for it the list with the token that the bytes spell.
use Rattle.std.proofs.Common.{List, [], ◌∷◌, ◌++◌, refl, ap}
use Rattle.std.proofs.raw_atomic.Walks.{proved}
use Rattle.ots_tree.specs.declared.token.Token.{Token}
use Rattle.ots_reader.specs.Cut.{IsSpelling}
use Rattle.ots_base.proofs.NoSize.{no_size, owns_nothing}
use Rattle.ots_reader.proofs.Spellings.{one_spelled}
use mir.Syntax.{named}
use mir.Val.{Val}
use types.Kit.{‵, raw, ◌⊛◌, ◌$◌, ◌∵◌, !, qed, done, keep, move, split, fjoin, suffices}
use types.Part.{agg}
use types.Run.{enter, no_more, returns}
use types.ByLocal.{alloc_all, pass_all, free_all, look_at, sets}
use denote.Builtin.{RefOf, SliceRefOf, u8}
use denote.Exit.{yes}
use denote.Ref.{shr_vals, shr_Tells}
use denote.RattleType.{owns}
use denote.Signature.{plain, types_at}
use denote.Slice.{shr_slice_vals, shr_slice_Tells}
use denote.Steps.{nothing, heard}
use denote.Triple.Entry.{alive}
use denote.Triple.Walked.{says, Stays, stay_dropped, Goes-dropped, ends_at}
use Rattle.ots_reader.specs.contracts.came.Came.{the_row}
use Rattle.ots_reader.specs.contracts.came.Came.and as f
use Rattle.ots_reader.proofs.came.Came.and.Statement.{statement}
use Rattle.ots_reader.proofs.came.Came.and.Code as code

abbrev stayed : Stays f.ended.signature.params f.ended.kept
stayed = (stay_dropped _ yes, (stay_dropped _ yes, tt))

pub and_spec : {M : Type 1} → statement M
and_spec 𝓤 𝓛 𝓜 𝓡 wired =
    let c = f.clauses 𝓛 𝓜.mem 𝓡.returns in
    proved 𝓛 f.ended stayed c 𝓜 𝓡
    (Goes-dropped 𝓛 2 (RefOf (0 ∷ []) tt (plain (λ _. the_row)) (λ _. tt)) yes (λ κs x w. refl), (Goes-dropped 𝓛 2 (SliceRefOf (1 ∷ []) tt (plain (λ _. u8)) (λ _. tt)) yes (λ κs x w. refl), tt))
    f.Key.name code.function (code.unfolded 𝓤 𝓛.H 𝓜 𝓡 wired)
    (λ κs. (shr_vals, (shr_slice_vals, tt))) (λ κs. (shr_Tells (named 0) κs.0 the_row, (shr_slice_Tells (named 1) κs.1.0 u8, tt)))
    (λ κs qs bounds a n are.
    let passed : List Val × (List Val × Unit {0}) = (shr_vals a.0, (shr_slice_vals a.1.0, tt)) in
    qed 𝓛 ((raw (alive 𝓛 f.signature κs qs) ⊛ ‵ (owns (types_at f.signature.params κs) a passed)) ∷ raw ((c κs a).requires n) ∷ []) ∵
    move ! (1 ∷ []) $ heard ! ((x : Token) × IsSpelling a.1.0.now x) (λ spelled. split ! $ keep ! (0 ∷ []) $
    enter ! _ _ _ _ _ $ alloc_all ! (λ l. pass_all ! refl ((tt, tt), ((tt, (tt, (record { fits = are.1.0.0.1.0 }, tt))), tt)) $
    sets ! (agg ! (no_more !)) refl (tt, tt) $
    nothing ! $ owns_nothing ! $ fjoin ! $
    returns ! (look_at ! 0 refl) $ free_all ! refl $
    suffices ! _ (ends_at 𝓛 f.ended stayed c ((κs, qs, bounds, a, passed), n) no_size (record { tokens = a.0.now.tokens ++ spelled.0 ∷ [] }) (tt, (tt, tt)) (tt, (tt, tt))) $ says ! (λ x s. ap (λ (z : Token). a.0.now.tokens ++ z ∷ []) (one_spelled a.1.0.now spelled.0 x spelled.1 s)) $
    nothing ! $ nothing ! $ fjoin ! $ nothing ! $ fjoin ! $ move ! (2 ∷ 0 ∷ 1 ∷ []) $ done !)))
