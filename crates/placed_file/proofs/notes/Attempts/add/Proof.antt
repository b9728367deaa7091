-- `add` leaves a file in front of those that were there: a walk of its MIR, by hand, which opens and closes the borrow.
use Rattle.std.proofs.Common.{List, [], ◌∷◌, refl}
use Rattle.std.proofs.raw_atomic.Walks.{proved}
use base.Fml.{ftrue, flft}
use mir.Syntax.{named}
use mir.Val.{Val, vunit, vptr}
use types.Kit.{‵, ◌⊛◌, ◌$◌, ◌∵◌, !, qed, done, move, keep, split, join, fsplit, fsplit3, fjoin3, feq_i, suffices}
use types.Run.{enter, of_opd, unit_lit, returns}
use types.ByLocal.{alloc_all, pass_all, free_all, look_at, sets}
use denote.RattleType.{owns}
use denote.Builtin.{u8, bool}
use denote.Exit.{yes}
use denote.Plain.{bool_vals, bool_Tells}
use denote.Ref.{mut_vals, mut_Tells, shr_vals, shr_Tells}
use denote.Signature.{types_at, plain, shr_ref_to, shr_slice_of}
use denote.Slice.{shr_slice_vals, shr_slice_Tells}
use denote.Steps.{nothing, opens, closes}
use denote.Triple.Walked.{says, Stays, walk_of, stay_ref, stay_dropped, Goes-ref, Goes-dropped, ends_at}
use Rattle.placed_file.specs.contracts.notes.Attempts.add as f
use Rattle.placed_file.specs.contracts.notes.Attempts.{the_row as R}
use Rattle.placed_file.specs.contracts.notes.Written.{the_row as W}
use Rattle.placed_file.specs.contracts.progress.Progress.{the_row as P}
use Rattle.placed_file.proofs.notes.Attempts.add.Statement.{statement}
use Rattle.placed_file.proofs.notes.Attempts.add.Code as code

abbrev stayed : Stays f.ended.signature.params f.ended.kept
stayed = (stay_ref (0 ∷ []) tt (plain (λ _. R)), (stay_dropped _ yes, (stay_dropped _ yes, (stay_dropped _ yes, (stay_dropped _ yes, tt)))))

pub add_spec : {M : Type 1} → statement M
add_spec 𝓤 𝓛 𝓜 𝓡 wired =
    let c = f.clauses 𝓛 𝓜.mem 𝓡.returns in let E = walk_of 𝓛 f.ended stayed c in
    proved 𝓛 f.ended stayed c 𝓜 𝓡 (
      Goes-ref 𝓛 4 0 tt (plain (λ _. R)),
      (
        Goes-dropped 𝓛 4 (shr_slice_of (1 ∷ []) tt (plain (λ _. u8))) yes (λ κs x w. refl),
        (
          Goes-dropped 𝓛 4 (shr_ref_to (2 ∷ []) tt (plain (λ _. W))) yes (λ κs x w. refl),
          (
            Goes-dropped 𝓛 4 (shr_ref_to (3 ∷ []) tt (plain (λ _. P))) yes (λ κs x w. refl),
            (Goes-dropped 𝓛 4 (plain (λ _. bool)) yes (λ κs x w. refl), tt),
          ),
        ),
      ),
    )
    f.Key.name code.function (code.unfolded 𝓤 𝓛.H 𝓜 𝓡 wired)
    (λ κs. (mut_vals, (shr_slice_vals, (shr_vals, (shr_vals, (bool_vals, tt))))))
    (λ κs. (
      mut_Tells (named 0) κs.0 R,
      (shr_slice_Tells (named 1) κs.1.0 u8, (shr_Tells (named 2) κs.1.1.0 W, (shr_Tells (named 3) κs.1.1.1.0 P, (bool_Tells, tt)))),
    )) (λ κs qs bounds a n are.
    let b = a.0.ref_ptr.0 in let o = a.0.ref_ptr.1 in
    let left : R.Denot = record {
      attempts = record { path = a.1.0.now; bytes = a.1.1.0.now.bytes; progress = a.1.1.1.0.now; done = a.1.1.1.1.0 } ∷ a.0.now.attempts;
    } in
    let y : E.Ghost = ((κs, qs, bounds, a, (mut_vals a.0, (shr_slice_vals a.1.0, (shr_vals a.1.1.0, (shr_vals a.1.1.1.0, (bool_vals a.1.1.1.1.0, tt)))))), n) in
    qed 𝓛 (((‵ (flft κs.0 qs.0) ⊛ (‵ (flft κs.1.0 qs.1.0) ⊛ (‵ (flft κs.1.1.0 qs.1.1.0) ⊛ (‵ (flft κs.1.1.1.0 qs.1.1.1.0) ⊛ ‵ ftrue))))
    ⊛ ‵ (owns (types_at f.signature.params κs) a y.0.4)) ∷ ‵ ftrue ∷ []) ∵
    split ! $ split ! $ move ! (2 ∷ []) $ fsplit ! $ fsplit3 ! $ keep ! (1 ∷ 2 ∷ 4 ∷ 5 ∷ []) $
    -- [the borrow's value; the borrow; its token; the other tokens]
    enter ! _ _ _ _ _ $
    alloc_all ! (λ l. pass_all ! refl ((tt, tt), ((tt, (tt, (record { fits = are.1.0.0.1.0 }, tt))), ((tt, tt), ((tt, tt), ((tt, tt), tt))))) $
    opens ! tt R b o (λ us. closes ! tt R left us b o $
    sets ! (of_opd ! (unit_lit !)) refl (tt, tt) $ returns ! (look_at ! 0 refl) $ free_all ! refl $
    suffices ! _ (ends_at 𝓛 f.ended stayed c y vunit tt (left, (tt, (tt, (tt, (tt, tt))))) (tt, (tt, (tt, (tt, (tt, tt)))))) $ says ! refl $
    feq_i ! (List Val) (vunit ∷ []) (vunit ∷ []) refl $
    nothing ! $ nothing ! $ join ! $ nothing ! $ join ! $ nothing ! $ join ! $ nothing ! $ join ! $
    move ! (2 ∷ 3 ∷ []) $ feq_i ! (List Val) (vptr b o ∷ []) (vptr b o ∷ []) refl $ fjoin3 ! $ join ! $
    move ! (2 ∷ 3 ∷ []) $ join ! $ done !)))
