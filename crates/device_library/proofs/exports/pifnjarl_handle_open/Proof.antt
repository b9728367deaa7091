-- `pifnjarl_handle_open` meets its contract: a walk of its MIR, by hand. The handle that `make` gives is written to the caller's room.
use Rattle.std.proofs.Common.{[], ◌∷◌, ◌++◌, refl, w32}
use Rattle.std.proofs.raw_atomic.Walks.{proved}
use base.Fraction.{full_share}
use base.Logic.{id⊢}
use base.Fml.{ftrue, fex, fsep, flft}
use mir.Syntax.{named}
use mir.Val.{Val, vunit}
use prog.Wp.{WpFn}
use contract.Monad.{fact}
use contract.Running.{tables}
use types.Kit.{‵, raw, ◌⊛◌, some, later, prop, ◌$◌, ◌∵◌, !, qed, done, move, keep, drop, use1, use2, split, join, fjoin, fpack, feq_i, pick, await, regoal, suffices, group}
use types.Run.{enter, of_opd, unit_lit, stop, no_more, and_then, assigns, init, returns}
use types.ByLocal.{alloc_all, pass_all, free_all, look_at, get, through, sets, lands_as}
use borrow.Table.OneValue.{part_in}
use denote.Builtin.{u8, u32, SliceRefOf}
use denote.Exit.{yes}
use denote.Laws.{shows}
use denote.Memory.{part_at}
use denote.Plain.{uint_vals, uint_Tells}
use denote.RawPtr.{Ptr, RawPtr, block_ptr, lies_at, room_at, in_a_block, rawptr_vals, rawptr_Tells}
use denote.Signature.{plain}
use denote.Slice.{ShrSlice, shr_slice_vals, shr_slice_Tells}
use denote.Steps.{nothing, heard, peeks}
use denote.Triple.Call.{calls_at}
use denote.Triple.Clauses.{Lasts, lasts}
use denote.Triple.Entry.{on_entry}
use denote.Triple.Spec.{triple_of}
use denote.Triple.Table.{framed}
use denote.Triple.Walked.{Stays, walk_of, stay_dropped, Goes-dropped, ends_at}
use Rattle.std.specs.contracts.alloc.Global.{the_row as G-row}
use Rattle.std.proofs.alloc.Global.TheLaws as heap
use Rattle.device_library.specs.Opening.{IsMade}
use Rattle.device_library.specs.declared.handle.Handle.{Handle}
use Rattle.device_library.specs.contracts.handle.Handle.{the_row as R}
use Rattle.device_library.proofs.handle.Handle.TheLaws as handle
use Rattle.device_library.specs.contracts.exports.pifnjarl_handle_open as f
use Rattle.device_library.proofs.exports.pifnjarl_handle_open.Statement.{statement}
use Rattle.device_library.proofs.exports.pifnjarl_handle_open.Code as code
use Rattle.device_library.specs.contracts.handle.make as g
use Rattle.device_library.proofs.handle.make.Met.{met}

abbrev stayed : Stays f.ended.signature.params f.ended.kept
stayed = (stay_dropped _ yes, (stay_dropped _ yes, (stay_dropped _ yes, (stay_dropped _ yes, tt))))

pub pifnjarl_handle_open_spec : {M : Type 1} → statement M
pifnjarl_handle_open_spec 𝓤 𝓛 𝓜 𝓡 wired =
    let c = f.clauses 𝓛 𝓜.mem 𝓡.returns in let W = walk_of 𝓛 f.ended stayed c in let 𝓣 = tables 𝓤 𝓛.H 𝓜 𝓡 𝓡.env in
    proved 𝓛 f.ended stayed c 𝓜 𝓡
    (Goes-dropped 𝓛 1 (plain (λ _. G-row)) yes (λ κs x w. refl), (Goes-dropped 𝓛 1 (plain (λ _. RawPtr)) yes (λ κs x w. refl), (Goes-dropped 𝓛 1 (plain (λ _. u32)) yes (λ κs x w. refl), (Goes-dropped 𝓛 1 (SliceRefOf (0 ∷ []) tt (plain (λ _. u8)) (λ _. tt)) yes (λ κs x w. refl), tt))))
    f.Key.name code.function (code.unfolded 𝓤 𝓛.H 𝓜 𝓡 wired)
    (λ κs. ((λ x. heap.lowers.lowered x ∷ []), (rawptr_vals, (uint_vals w32, (shr_slice_vals, tt)))))
    (λ κs. (heap.lowers.val_is, (rawptr_Tells, (uint_Tells w32, (shr_slice_Tells (named 0) κs.0 u8, tt)))))
    (λ κs qs bounds a h are.
    let κ₀ = κs.0 in let door = a.1.1.0 in let req = a.1.1.1.0 in let gv : Val = heap.lowers.lowered a.0 in
    let y : Ptr → W.Ghost = λ p. ((κs, qs, bounds, (a.0, (p, a.1.1)), (gv ∷ [], (rawptr_vals p, (uint_vals w32 door, (shr_slice_vals req, tt))))), h) in
    qed 𝓛 (raw (on_entry 𝓛 f.signature κs qs a (y a.1.0).0.4) ∷ ‵ (room_at R a.1.0) ∷ []) ∵ move ! (1 ∷ []) $
    in_a_block ! a.1.0 (λ p. room_at R p) (id⊢ 𝓤 _) (λ b o e.
    regoal ! (λ p. prop (WpFn 𝓤 𝓛.H 𝓣.C 𝓣.Λ code.function ((gv ∷ []) ++ (rawptr_vals p ++ (uint_vals w32 door ++ (shr_slice_vals req ++ [])))) (W.post (y p)))) e refl $
    move ! (1 ∷ []) $ use1 𝓛 ((‵ (flft κ₀ qs.0) ⊛ ‵ ftrue) ⊛ ‵ (G-row.own_val a.0 (gv ∷ [])) ⊛ ‵ (RawPtr.own_val a.1.0 (rawptr_vals a.1.0)) ⊛ ‵ (u32.own_val door (uint_vals w32 door)) ⊛ ‵ ((ShrSlice (named 0) κ₀ u8).own_val req (shr_slice_vals req)) ⊛ ‵ ftrue) (id⊢ 𝓤 _) $
    split ! $ move ! (1 ∷ []) $ split ! $ move ! (1 ∷ []) $ split ! $ drop ! $ split ! $ move ! (1 ∷ []) $ split ! $ keep ! (0 ∷ 2 ∷ 3 ∷ 4 ∷ 5 ∷ []) $
    move ! (3 ∷ []) $ split ! $ keep ! (0 ∷ 2 ∷ 3 ∷ 4 ∷ 5 ∷ []) $
    -- [the token of the bytes; the bytes; the door; the allocator; the room]
    enter ! _ _ _ _ _ $ alloc_all ! (λ l. pass_all ! refl (((heap.the_row_laws.lawful 𝓛).typed a.0 _ are.0).0, ((tt, tt), ((tt, record { fits = are.1.1.0.1 }), ((tt, (tt, (record { fits = are.1.1.1.0.0.1.0 }, tt))), tt)))) $
    sets ! (of_opd ! (get ! refl)) refl (tt, tt) $
    let G = triple_of 𝓛 g.signature (g.spec 𝓛 𝓜.mem 𝓡.returns) in
    let z : G.Ghost = (((κ₀, tt), (qs.0, tt), tt, (a.0, (door, (req, tt))), (gv ∷ [], (uint_vals w32 door, (shr_slice_vals req, tt)))), tt) in
    nothing ! $ move ! (2 ∷ 0 ∷ []) $ join ! $ move ! (2 ∷ 0 ∷ []) $ join ! $ move ! (2 ∷ 0 ∷ []) $ join ! $ nothing ! $ move ! (2 ∷ 0 ∷ []) $ join ! $ join ! $
    nothing ! $ move ! (1 ∷ 0 ∷ []) $ use2 𝓛 (raw (G.pre z)) (id⊢ 𝓤 _) $
    calls_at ! (framed 𝓤 𝓛.H 𝓜 (tables 𝓤 𝓛.H 𝓜 𝓡 𝓡.env)) G (met 𝓤 𝓛 𝓜 𝓡 (code.calls-device_library::handle::make 𝓡.env wired)) z
    (and_then ! (get ! refl) (and_then ! (get ! refl) (and_then ! (get ! refl) (no_more !)))) (λ v.
    use1 𝓛 (later (some (λ (r : Handle). ((‵ (flft κ₀ qs.0) ⊛ ‵ ftrue) ⊛ ‵ (R.own_val r (v ∷ []))) ⊛
    some (λ (ws : Lasts g.ended z.0.0 z.0.3). ‵ (lasts g.ended z.0.0 z.0.3 ws) ⊛ raw (fact 𝓤 (IsMade door req.now r)))))) (id⊢ 𝓤 _) $
    await ! tt $ pick ! (λ r. split ! $ split ! $ move ! (2 ∷ []) $ pick ! (λ ws. split ! $ drop ! $ heard ! _ (λ did. move ! (1 ∷ []) $
    -- [what the handle owns; the token; the room]
    peeks ! R _ (shows 𝓛 R) r (v ∷ []) (λ is. let good = ((handle.the_row_laws.lawful 𝓛).typed r _ is).0 in
    lands_as ! refl refl good $
    assigns ! (of_opd ! (get ! refl)) (through ! refl (stop !)) (init ! 2 refl good) $
    sets ! (of_opd ! (unit_lit !)) refl (tt, tt) $
    returns ! (look_at ! 0 refl) $ free_all ! refl $
    move ! (2 ∷ 0 ∷ []) $ use2 𝓛 (‵ (part_at R full_share r b o)) (part_in 𝓛 R refl full_share r b o v) $
    suffices ! _ (ends_at 𝓛 f.ended stayed c (y (block_ptr b o)) vunit tt (tt, (tt, (tt, (tt, tt)))) (tt, (tt, (tt, (tt, tt))))) $
    nothing ! $ fpack ! (IsMade door req.now r) (λ _. ftrue) did $ fjoin ! $
    fpack ! Handle (λ w. fsep (fex (IsMade door req.now w) (λ _. ftrue)) (lies_at R full_share (block_ptr b o) w)) r $
    feq_i ! _ (vunit ∷ []) _ refl $ nothing ! $ nothing ! $ join ! $ nothing ! $ join ! $ nothing ! $ join ! $ nothing ! $ join ! $ move ! (3 ∷ []) $ group ! 3 $ done !))))))))
