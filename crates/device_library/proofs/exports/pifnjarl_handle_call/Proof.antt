-- `pifnjarl_handle_call` meets its contract: a walk of its MIR, by hand. The handle is lent for a lifetime that is made for the call of `call`,
-- and lies there again once it is ended.
use Rattle.std.proofs.Common.{ℕ, [], ◌∷◌, ◌++◌, refl, w32, w64}
use Rattle.std.proofs.raw_atomic.Walks.{proved}
use base.Fraction.{full_share}
use base.Logic.{emp, id⊢}
use base.Fml.{ftrue, fsep, fex, flft, flent}
use mir.Syntax.{named}
use mir.Val.{vptr}
use prog.Wp.{WpFn}
use contract.Monad.{fact, fact_i}
use contract.Running.{tables}
use types.SemTy.{Body as Borrowed}
use types.Kit.{‵, raw, ◌⊛◌, some, later, prop, ◌$◌, ◌∵◌, !, qed, done, move, keep, drop, use1, use2, use3, split, join, fsplit, fjoin, fpack, fpick, feq_l, pick, await, regoal, suffices, group}
use types.Run.{enter, of_opd, addr, stop, fld, hop, from, no_more, and_then, returns}
use types.ByLocal.{alloc_all, pass_all, free_all, look_at, look_in_at, get, get_in, through, sets, lands_as}
use types.Part.{agg, whole, sub}
use types.Tokens.{lft_new, lft_end}
use denote.Builtin.{u8, u32, usize, SliceRefOf}
use denote.Exit.{yes}
use denote.Laws.{shows}
use denote.Lend.{lends_ref, ref_back}
use denote.Memory.{mem, part_at}
use denote.Plain.{uint_Lawful, uint_vals, uint_Tells}
use denote.RawPtr.{Ptr, RawPtr, block_ptr, lies_at, in_a_block, rawptr_vals, rawptr_Tells}
use denote.Ref.{MutRef, mut_vals, mut_Tells}
use denote.Signature.{plain}
use denote.Slice.{ShrSlice, MutSlice, shr_slice_vals, shr_slice_Tells, mut_slice_vals, mut_slice_Tells}
use denote.Steps.{nothing, peeks, heard}
use denote.Triple.Call.{calls_at}
use denote.Triple.Clauses.{Lasts, lasts}
use denote.Triple.Entry.{on_entry}
use denote.Triple.Spec.{triple_of}
use denote.Triple.Table.{framed}
use denote.Triple.Walked.{Stays, walk_of, stay_dropped, gave_ref, gave_slice, Goes-dropped, Goes-gave_ref, Goes-gave_slice, ends_at}
use Rattle.device_library.specs.Asked.{Asked}
use Rattle.device_library.specs.Calls.{Called, Held}
use Rattle.device_library.specs.Sessions.{KeepsAll}
use Rattle.device_library.specs.declared.handle.Handle.{Handle}
use Rattle.device_library.specs.contracts.event.ReplyHead.{the_row as Head}
use Rattle.device_library.specs.contracts.handle.Handle.{the_row as R}
use Rattle.device_library.specs.contracts.exports.pifnjarl_handle_call as f
use Rattle.device_library.proofs.exports.pifnjarl_handle_call.Statement.{statement}
use Rattle.device_library.proofs.exports.pifnjarl_handle_call.Code as code
use Rattle.device_library.specs.contracts.calls.call as g
use Rattle.device_library.proofs.calls.call.Met.{met}

abbrev stayed : Stays f.ended.signature.params f.ended.kept
stayed = (
  stay_dropped _ yes,
  (
    stay_dropped _ yes,
    (
      stay_dropped _ yes,
      (
        stay_dropped _ yes,
        (
          stay_dropped _ yes,
          (
            stay_dropped _ yes,
            (gave_ref (2 ∷ []) tt (plain (λ _. Head)), (gave_slice (3 ∷ []) tt (plain (λ _. u8)), tt)),
          ),
        ),
      ),
    ),
  ),
)

pub pifnjarl_handle_call_spec : {M : Type 1} → statement M
pifnjarl_handle_call_spec 𝓤 𝓛 𝓜 𝓡 wired =
    let c = f.clauses 𝓛 𝓜.mem 𝓡.returns in let W = walk_of 𝓛 f.ended stayed c in let 𝓣 = tables 𝓤 𝓛.H 𝓜 𝓡 𝓡.env in
    let number_goes = Goes-dropped 𝓛 4 (plain (λ _. usize)) yes (λ κs x w. refl) in
    proved 𝓛 f.ended stayed c 𝓜 𝓡 (
      Goes-dropped 𝓛 4 (plain (λ _. RawPtr)) yes (λ κs x w. refl),
      (
        Goes-dropped 𝓛 4 (plain (λ _. u32)) yes (λ κs x w. refl),
        (
          number_goes,
          (
            number_goes,
            (
              Goes-dropped 𝓛 4 (SliceRefOf (0 ∷ []) tt (plain (λ _. u8)) (λ _. tt)) yes (λ κs x w. refl),
              (
                Goes-dropped 𝓛 4 (SliceRefOf (1 ∷ []) tt (plain (λ _. u8)) (λ _. tt)) yes (λ κs x w. refl),
                (Goes-gave_ref 𝓛 4 2 tt (plain (λ _. Head)), (Goes-gave_slice 𝓛 4 3 tt (plain (λ _. u8)), tt)),
              ),
            ),
          ),
        ),
      ),
    )
    f.Key.name code.function (code.unfolded 𝓤 𝓛.H 𝓜 𝓡 wired)
    (λ κs. (rawptr_vals, (uint_vals w32, (uint_vals w64, (uint_vals w64, (shr_slice_vals, (shr_slice_vals, (mut_vals, (mut_slice_vals, tt)))))))))
    (λ κs. (
      rawptr_Tells,
      (
        uint_Tells w32,
        (
          uint_Tells w64,
          (
            uint_Tells w64,
            (
              shr_slice_Tells (named 0) κs.0 u8,
              (
                shr_slice_Tells (named 1) κs.1.0 u8,
                (mut_Tells (named 2) κs.1.1.0 Head, (mut_slice_Tells (named 3) κs.1.1.1.0 u8, tt)),
              ),
            ),
          ),
        ),
      ),
    ))
    (λ κs qs bounds a h are.
    let κ₀ = κs.0 in let κ₁ = κs.1.0 in let κ₂ = κs.1.1.0 in let κ₃ = κs.1.1.1.0 in
    let kind = a.1.0 in let number = a.1.1.0 in let count = a.1.1.1.0 in
    let piece = a.1.1.1.1.0 in let beside = a.1.1.1.1.1.0 in let head = a.1.1.1.1.1.1.0 in let out = a.1.1.1.1.1.1.1.0 in
    let y : Ptr → W.Ghost = λ p. (
      (
        κs,
        qs,
        bounds,
        (p, a.1),
        (rawptr_vals p, (uint_vals w32 kind, (uint_vals w64 number, (uint_vals w64 count, (shr_slice_vals piece, (shr_slice_vals beside, (mut_vals head, (mut_slice_vals out, tt)))))))),
      ),
      h,
    ) in
    qed 𝓛 (raw (on_entry 𝓛 f.signature κs qs a (y a.0).0.4) ∷ ‵ (fsep (fex (KeepsAll h) (λ _. ftrue)) (lies_at R full_share a.0 h)) ∷ []) ∵ move ! (1 ∷ []) $
    fsplit ! $ fpick ! (λ kept. drop ! $ in_a_block ! a.0 (λ p. lies_at R full_share p h) (id⊢ 𝓤 _) (λ b o e.
    regoal ! (λ p. prop (WpFn 𝓤 𝓛.H 𝓣.C 𝓣.Λ code.function
    (rawptr_vals p ++ (uint_vals w32 kind ++ (uint_vals w64 number ++ (uint_vals w64 count ++ (shr_slice_vals piece ++ (shr_slice_vals beside ++ (mut_vals head ++ (mut_slice_vals out ++ [])))))))) (W.post (y p)))) e refl $
    move ! (1 ∷ []) $ use1 𝓛 ((‵ (flft κ₀ qs.0) ⊛ ‵ (flft κ₁ qs.1.0) ⊛ ‵ (flft κ₂ qs.1.1.0) ⊛ ‵ (flft κ₃ qs.1.1.1.0) ⊛ ‵ ftrue)
    ⊛ ‵ (RawPtr.own_val a.0 (rawptr_vals a.0)) ⊛ ‵ (u32.own_val kind (uint_vals w32 kind)) ⊛ ‵ (usize.own_val number (uint_vals w64 number))
    ⊛ ‵ (usize.own_val count (uint_vals w64 count)) ⊛ ‵ ((ShrSlice (named 0) κ₀ u8).own_val piece (shr_slice_vals piece))
    ⊛ ‵ ((ShrSlice (named 1) κ₁ u8).own_val beside (shr_slice_vals beside))
    ⊛ ‵ ((MutRef (named 2) κ₂ Head).own_val head (mut_vals head)) ⊛ ‵ ((MutSlice (named 3) κ₃ u8).own_val out (mut_slice_vals out)) ⊛ ‵ ftrue) (id⊢ 𝓤 _) $
    split ! $ move ! (1 ∷ []) $ split ! $ drop ! $ split ! $ move ! (1 ∷ []) $ split ! $ move ! (1 ∷ []) $ split ! $ move ! (1 ∷ []) $ split ! $ move ! (1 ∷ []) $
    split ! $ move ! (1 ∷ []) $ split ! $ move ! (1 ∷ []) $ split ! $ keep ! (0 ∷ 2 ∷ 3 ∷ 4 ∷ 5 ∷ 6 ∷ 7 ∷ 8 ∷ 9 ∷ []) $
    -- [output; reply; what stands beside; piece; count; number; kind; the tokens; the handle in memory]
    move ! (7 ∷ []) $ split ! $ move ! (1 ∷ []) $ split ! $ move ! (1 ∷ []) $ split ! $ move ! (1 ∷ []) $ split ! $
    keep ! (0 ∷ 2 ∷ 3 ∷ 4 ∷ 5 ∷ 6 ∷ 7 ∷ 8 ∷ 9 ∷ 10 ∷ 11 ∷ 12 ∷ []) $
    -- [the four tokens, from the last on; output; reply; what stands beside; piece; count; number; kind; the handle in memory]
    enter ! _ _ _ _ _ $ alloc_all ! (λ l. pass_all ! refl (
      (tt, tt),
      (
        (tt, record { fits = are.1.0.1 }),
        (
          (tt, record { fits = are.1.1.0.1 }),
          (
            (tt, record { fits = are.1.1.1.0.1 }),
            (
              (tt, (tt, (record { fits = are.1.1.1.1.0.0.1.0 }, tt))),
              (
                (tt, (tt, (record { fits = are.1.1.1.1.1.0.0.1.0 }, tt))),
                ((tt, tt), ((tt, (tt, (record { fits = are.1.1.1.1.1.1.1.0.0.1.0 }, tt))), tt)),
              ),
            ),
          ),
        ),
      ),
    ) $
    sets ! (of_opd ! (get ! refl)) refl (tt, tt) $
    sets ! (addr ! (through ! refl (stop !))) refl (tt, tt) $
    sets ! (addr ! (through ! refl (stop !))) refl (tt, tt) $
    sets ! (addr ! (from ! (fld ! refl (hop ! (look_in_at ! 8 (sub ! 0 refl (whole !))) (stop !))))) refl (tt, tt) $
    sets ! (agg ! (and_then ! (get ! refl) (and_then ! (get_in ! (fld ! refl (stop !)) (sub ! 1 refl (whole !))) (no_more !)))) refl (tt, (tt, (record { fits = are.1.1.1.1.1.1.1.0.0.1.0 }, tt))) $
    lft_new ! tt (λ α. move ! (12 ∷ []) $
    use1 𝓛 (later (some (λ (γ : ℕ). ‵ ((MutRef (named 0) (α ∷ []) R).own_val (record { ref_ptr = (b, o); ghost_name = γ; now = h }) (vptr b o ∷ [])) ⊛ ‵ (flent (α ∷ []) (Borrowed (mem R) b o γ)))))
    (lends_ref 𝓛 R (named 0) (α ∷ []) h b o) $ await ! tt $ pick ! (λ γ. split ! $
    -- [the loan; what the lender keeps; the token of α; the four tokens, from the last on; output; reply; what stands beside; piece; count;
    -- number; kind]
    let G = triple_of 𝓛 g.signature (g.spec 𝓛 𝓜.mem 𝓡.returns) in
    let z : G.Ghost = (
      (
        (α ∷ [], (κ₀, (κ₁, (κ₂, (κ₃, tt))))),
        (full_share, (qs.0, (qs.1.0, (qs.1.1.0, (qs.1.1.1.0, tt))))),
        tt,
        (record { ref_ptr = (b, o); ghost_name = γ; now = h }, (kind, (number, (count, (piece, (beside, (head, (out, tt)))))))),
        (vptr b o ∷ [], (uint_vals w32 kind, (uint_vals w64 number, (uint_vals w64 count, (shr_slice_vals piece, (shr_slice_vals beside, (mut_vals head, (mut_slice_vals out, tt)))))))),
      ),
      tt,
    ) in
    nothing ! $ move ! (8 ∷ 0 ∷ []) $ join ! $ move ! (8 ∷ 0 ∷ []) $ join ! $ move ! (8 ∷ 0 ∷ []) $ join ! $ move ! (8 ∷ 0 ∷ []) $ join ! $
    move ! (8 ∷ 0 ∷ []) $ join ! $ move ! (8 ∷ 0 ∷ []) $ join ! $ move ! (8 ∷ 0 ∷ []) $ join ! $ move ! (1 ∷ 0 ∷ []) $ join ! $
    nothing ! $ move ! (4 ∷ 0 ∷ []) $ join ! $ move ! (4 ∷ 0 ∷ []) $ join ! $ move ! (4 ∷ 0 ∷ []) $ join ! $ move ! (4 ∷ 0 ∷ []) $ join ! $ move ! (3 ∷ 0 ∷ []) $ join ! $ join ! $
    nothing ! $ use1 𝓛 (raw (fact 𝓤 (KeepsAll h))) (fact_i 𝓤 (KeepsAll h) (emp 𝓤) kept) $
    move ! (1 ∷ 0 ∷ []) $ use2 𝓛 (raw (G.pre z)) (id⊢ 𝓤 _) $
    calls_at ! (framed 𝓤 𝓛.H 𝓜 (tables 𝓤 𝓛.H 𝓜 𝓡 𝓡.env)) G (met 𝓤 𝓛 𝓜 𝓡 (code.calls-device_library::calls::call 𝓡.env wired)) z
    (and_then ! (get ! refl) (and_then ! (get ! refl) (and_then ! (get ! refl) (and_then ! (get ! refl) (and_then ! (get ! refl) (and_then ! (get ! refl) (and_then ! (get ! refl) (and_then ! (get ! refl) (no_more !))))))))) (λ v.
    let asked : Asked = record { number = number; count = count; piece = piece.now; beside = beside.now } in
    let before : Held = record { handle = h; reply = head.now; out = out.now } in
    use1 𝓛 (later (some (λ (r : ℕ). ((‵ (flft (α ∷ []) full_share) ⊛ ‵ (flft κ₀ qs.0) ⊛ ‵ (flft κ₁ qs.1.0) ⊛ ‵ (flft κ₂ qs.1.1.0) ⊛ ‵ (flft κ₃ qs.1.1.1.0) ⊛ ‵ ftrue) ⊛ ‵ (usize.own_val r (v ∷ []))) ⊛
    some (λ (ws : Lasts g.ended z.0.0 z.0.3). ‵ (lasts g.ended z.0.0 z.0.3 ws) ⊛
    raw (fact 𝓤 (Called kind asked before (record { handle = ws.0; reply = ws.1.1.1.1.1.1.0; out = ws.1.1.1.1.1.1.1.0 }) r)))))) (id⊢ 𝓤 _) $
    await ! tt $ pick ! (λ r. split ! $ split ! $ split ! $ lft_end ! tt $ move ! (3 ∷ []) $ pick ! (λ ws. split ! $ move ! (1 ∷ []) $ heard ! _ (λ did.
    let told = ws.1.1.1.1.1.1.0 in let written = ws.1.1.1.1.1.1.1.0 in
    fsplit ! $ fsplit ! $
    -- [the last value of the loan; its borrow; of the others; α is over; the four tokens; the result; what the lender keeps]
    move ! (3 ∷ 6 ∷ 0 ∷ []) $ use3 𝓛 (later (‵ (part_at R full_share ws.0 b o))) (ref_back 𝓛 R (α ∷ []) γ ws.0 b o) $ await ! tt $
    -- [the handle in memory; its borrow; of the others; the four tokens; the result]
    move ! (2 ∷ []) $ fsplit ! $ drop ! $ fsplit ! $ drop ! $ fsplit ! $ drop ! $ fsplit ! $ drop ! $ fsplit ! $ drop ! $ fsplit ! $ move ! (1 ∷ []) $
    fsplit ! $ fsplit ! $ fsplit ! $ move ! (1 ∷ []) $ feq_l ! (λ same. fjoin ! $
    -- [what is left of output; nothing; what is left of reply; the handle in memory; its borrow; the four tokens; the result]
    move ! (6 ∷ []) $ peeks ! usize _ (shows 𝓛 usize) r (v ∷ []) (λ is.
    lands_as ! refl refl ((uint_Lawful 𝓛 w64).typed r _ is).0 $
    returns ! (look_at ! 0 refl) $ free_all ! refl $ keep ! (4 ∷ 0 ∷ 1 ∷ 3 ∷ 6 ∷ []) $
    -- [the handle in memory; the result; what is left of output; of reply; the four tokens]
    suffices ! _ (ends_at 𝓛 f.ended stayed c (y (block_ptr b o)) v r (tt, (tt, (tt, (tt, (tt, (tt, (told, (written, tt)))))))) (tt, (tt, (tt, (tt, (tt, (tt, (tt, (same, tt))))))))) $
    nothing ! $ fpack ! (Called kind asked before (record { handle = ws.0; reply = told; out = written }) r) (λ _. ftrue) did $ fjoin ! $
    fpack ! Handle (λ w. fsep (fex (Called kind asked before (record { handle = w; reply = told; out = written }) r) (λ _. ftrue)) (lies_at R full_share (block_ptr b o) w)) ws.0 $
    -- [what is ensured; the result; what is left of output; of reply; the four tokens]
    move ! (1 ∷ []) $ nothing ! $ move ! (3 ∷ 0 ∷ []) $ join ! $ move ! (3 ∷ 0 ∷ []) $ join ! $ nothing ! $ join ! $ nothing ! $ join ! $ nothing ! $ join ! $ nothing ! $ join ! $ nothing ! $ join ! $ nothing ! $ join ! $
    move ! (3 ∷ []) $ group ! 3 $ done !))))))))))))
