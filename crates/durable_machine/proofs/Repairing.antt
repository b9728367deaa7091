-- What is left of a file while it is opened after a program that may have failed to bring its last batch's gate to the disk.
use Rattle.std.proofs.Common.{◌≡◌, ◌≢◌, ◌⊎◌, inl, inr, ⊎_elim, ◌≤◌, ◌+◌, ◌-◌, ◌%◌, ℕ, List, ◌∷◌, ◌++◌, length, take, drop, refl, sym, ◌∙◌, ap, subst, arith, append_assoc, length-append, length-take, length-drop, take-append-drop}
use Rattle.std.proofs.lemmas.List.{take_at, drop_at, take-take, drop-drop, drop-take}
use Rattle.stored_file.specs.File.{FileState, MayLeave, IsOnDisk, LeavesNow, LeavesOnly, Follows, SyncsTo, Elapses, is_written, Torn, Cut, IsCut, IsMix, Mixed}
use Rattle.stored_file.proofs.Moments.{started, then_on, weaken, goes_on}
use Rattle.stored_file.proofs.Renewing.{mix_same, mix_size, written_again}
use Rattle.durable_machine.specs.Events.{spelled}
use Rattle.durable_machine.specs.Journal.{closed_gate, AreFrames, HasBatches, IsEnd, IsFrame, StandsFor}
use Rattle.durable_machine.specs.LastBatch.{HasLast, IsSameBut}
use Rattle.durable_machine.proofs.Frames.{frames_whole, front_end, length-frame, one_more_frame}
use Rattle.durable_machine.proofs.Crash.{without}
use Rattle.durable_machine.proofs.Sealing.{same_or_not}

-- the first n bytes after an offset, of the first m
pub part : (at n m : ℕ) (file : List ℕ) → at + n ≤ m → take n (drop at (take m file)) ≡ take n (drop at file)
part at n m file within =
    let rest : m ≡ at + (m - at) = omega (arith, within) in
    ap (λ (k : ℕ). take n (drop at (take k file))) rest
    ∙ ap (λ (l : List ℕ). take n l) (drop-take at (m - at) file)
    ∙ take-take n (m - at) (drop at file) (omega (arith, within))

module _ (at n end : ℕ) (old : List ℕ) (within : at ≤ end) where
  -- what begins as the other does
  pub same_front : (c : List ℕ) → end ≤ length c → take end c ≡ take end old → IsEnd (drop end c) → IsSameBut at n end old c
  same_front c long same last = record {
    no_shorter = long;
    before = sym (take-take at end c (omega (arith, within))) ∙ ap (λ (l : List ℕ). take at l) same ∙ take-take at end old (omega (arith, within));
    after = ap (λ (l : List ℕ). drop (at + n) l) same;
    last = last;
  }

  -- a cut
  pub same_cut : (d c : List ℕ) → IsSameBut at n end old d → Cut end d c → IsSameBut at n end old c
  same_cut d c is cut =
      let long : end ≤ length c = omega (arith, cut.no_shorter, is.no_shorter) in
      let front : take end c ≡ take end d = ap (λ (l : List ℕ). take end l) cut.front ∙ take-take end (length c) d long in
      let rest : length c ≡ end + (length c - end) = omega (arith, long) in
      let behind : drop end c ≡ take (length c - end) (drop end d) =
      ap (λ (l : List ℕ). drop end l) cut.front ∙ ap (λ (k : ℕ). drop end (take k d)) rest ∙ drop-take end (length c - end) d in
      record {
        no_shorter = long;
        before = sym (take-take at end c (omega (arith, within))) ∙ ap (λ (l : List ℕ). take at l) front ∙ take-take at end d (omega (arith, within)) ∙ is.before;
        after = ap (λ (l : List ℕ). drop (at + n) l) front ∙ is.after;
        last = subst IsEnd (sym behind) (front_end (length c - end) (drop end d) is.last);
      }

-- up to the end the bytes of the other, but for those
front_parts : (at n end : ℕ) (old : List ℕ) (within : at + n ≤ end) (c : List ℕ) → IsSameBut at n end old c → take end c ≡ take at old ++ take n (drop at c) ++ drop (at + n) (take end old)
front_parts at n end old within c is =
    sym (take-append-drop at (take end c))
    ∙ ap (λ (l : List ℕ). l ++ drop at (take end c)) (take-take at end c (omega (arith, within)) ∙ is.before)
    ∙ ap (λ (l : List ℕ). take at old ++ l) (sym (take-append-drop n (drop at (take end c))))
    ∙ ap (λ (l : List ℕ). take at old ++ (l ++ drop n (drop at (take end c)))) (part at n end c within)
    ∙ ap (λ (l : List ℕ). take at old ++ (take n (drop at c) ++ l)) (drop-drop n at (take end c) ∙ is.after)
    ∙ sym (append_assoc (take at old) (take n (drop at c)) (drop (at + n) (take end old)))

module _ (at end : ℕ) (old gate : List ℕ) (within : at + length gate ≤ end) (long : end ≤ length old) (again : take (length gate) (drop at old) ≡ gate) where
  -- the gate is written again
  pub same_mixed : (d c : List ℕ) → IsSameBut at (length gate) end old d → Mixed at gate d c → IsSameBut at (length gate) end old c
  same_mixed d c is mixed =
      let sizes = mix_size mixed.was gate mixed.mix mixed.mixes in
      let size_was : length (mixed.front ++ mixed.was) ≡ at + length gate = omega (arith, length-append mixed.front mixed.was, mixed.size, sizes.1) in
      let size_mix : length (mixed.front ++ mixed.mix) ≡ at + length gate = omega (arith, length-append mixed.front mixed.mix, mixed.size, sizes.0, sizes.1) in
      let behind_d : drop (at + length gate) d ≡ mixed.behind = ap (λ (l : List ℕ). drop (at + length gate) l) mixed.parts ∙ drop_at (mixed.front ++ mixed.was) mixed.behind (at + length gate) size_was in
      let behind_c : drop (at + length gate) c ≡ mixed.behind = ap (λ (l : List ℕ). drop (at + length gate) l) mixed.is ∙ drop_at (mixed.front ++ mixed.mix) mixed.behind (at + length gate) size_mix in
      let same : drop (at + length gate) c ≡ drop (at + length gate) d = behind_c ∙ sym behind_d in
      let front_d : take at d ≡ mixed.front = ap (λ (l : List ℕ). take at l) (mixed.parts ∙ append_assoc mixed.front mixed.was mixed.behind) ∙ take_at mixed.front (mixed.was ++ mixed.behind) at mixed.size in
      let front_c : take at c ≡ mixed.front = ap (λ (l : List ℕ). take at l) (mixed.is ∙ append_assoc mixed.front mixed.mix mixed.behind) ∙ take_at mixed.front (mixed.mix ++ mixed.behind) at mixed.size in
      let rest : end ≡ at + length gate + (end - (at + length gate)) = omega (arith, within) in
      let cut : (file : List ℕ) → drop (at + length gate) (take end file) ≡ take (end - (at + length gate)) (drop (at + length gate) file) =
      λ file. ap (λ (k : ℕ). drop (at + length gate) (take k file)) rest ∙ drop-take (at + length gate) (end - (at + length gate)) file in
      let past : (file : List ℕ) → drop end file ≡ drop (end - (at + length gate)) (drop (at + length gate) file) =
      λ file. ap (λ (k : ℕ). drop k file) rest ∙ sym (drop-drop (end - (at + length gate)) (at + length gate) file) in
      record {
        no_shorter = omega (arith, is.no_shorter, ap length mixed.parts, ap length mixed.is, length-append (mixed.front ++ mixed.was) mixed.behind, length-append (mixed.front ++ mixed.mix) mixed.behind, size_was, size_mix);
        before = front_c ∙ sym front_d ∙ is.before;
        after = cut c ∙ ap (λ (l : List ℕ). take (end - (at + length gate)) l) same ∙ sym (cut d) ∙ is.after;
        last = subst IsEnd (sym (past c ∙ ap (λ (l : List ℕ). drop (end - (at + length gate)) l) same ∙ sym (past d))) is.last;
      }

  -- all up to the end
  whole_front : (d : List ℕ) → IsSameBut at 0 end old d → take end d ≡ take end old
  whole_front d is =
      let none : drop at (take end d) ≡ drop at (take end old) =
      (let same : at + 0 ≡ at = omega arith in ap (λ (k : ℕ). drop k (take end d)) (sym same) ∙ is.after ∙ ap (λ (k : ℕ). drop k (take end old)) same) in
      sym (take-append-drop at (take end d))
      ∙ ap (λ (l : List ℕ). l ++ drop at (take end d)) (take-take at end d (omega (arith, within)) ∙ is.before ∙ sym (take-take at end old (omega (arith, within))))
      ∙ ap (λ (l : List ℕ). take at (take end old) ++ l) none
      ∙ take-append-drop at (take end old)

  -- where it is there, nothing changes
  pub same_again : (d c : List ℕ) → IsSameBut at 0 end old d → Mixed at gate d c → IsSameBut at 0 end old c
  same_again d c is mixed =
      let sizes = mix_size mixed.was gate mixed.mix mixed.mixes in
      let there : mixed.was ≡ gate =
      sym (take_at mixed.was mixed.behind (length gate) (sym sizes.1))
      ∙ ap (λ (l : List ℕ). take (length gate) l) (sym (drop_at mixed.front (mixed.was ++ mixed.behind) at mixed.size) ∙ ap (λ (l : List ℕ). drop at l) (sym (mixed.parts ∙ append_assoc mixed.front mixed.was mixed.behind)))
      ∙ sym (part at (length gate) end d within)
      ∙ ap (λ (l : List ℕ). take (length gate) (drop at l)) (whole_front d is)
      ∙ part at (length gate) end old within
      ∙ again in
      let mix : mixed.mix ≡ gate = mix_same gate mixed.mix (subst (λ (l : List ℕ). IsMix l gate mixed.mix) there mixed.mixes) in
      let same : d ≡ c = mixed.parts ∙ ap (λ (l : List ℕ). mixed.front ++ l ++ mixed.behind) (there ∙ sym mix) ∙ sym mixed.is in
      subst (IsSameBut at 0 end old) same is

  -- fewer bytes differ
  pub looser : (d : List ℕ) → IsSameBut at 0 end old d → IsSameBut at (length gate) end old d
  looser d is = same_front at (length gate) end old (omega (arith, within)) d is.no_shorter (whole_front d is) is.last

  -- what a sync brings to the disk then
  pub same_synced : (d e c : List ℕ) → IsSameBut at (length gate) end old d → IsCut end d e → c ≡ is_written at gate e → c ≡ take end old
  same_synced d e c is cut written =
      let e_is : e ≡ take end d = cut is.no_shorter in
      written
      ∙ ap (λ (l : List ℕ). is_written at gate l) e_is
      ∙ ap (λ (l : List ℕ). l ++ gate ++ drop (at + length gate) (take end d)) (take-take at end d (omega (arith, within)) ∙ is.before ∙ sym (take-take at end old (omega (arith, within))))
      ∙ ap (λ (l : List ℕ). take at (take end old) ++ gate ++ l) is.after
      ∙ written_again at gate (take end old) (omega (arith, within, long, length-take end old)) (part at (length gate) end old within ∙ again)

  ends_there : (n : ℕ) (c : List ℕ) → c ≡ take end old → IsSameBut at n end old c
  ends_there n c same =
      let size : length c ≡ end = omega (arith, ap length same, length-take end old, long) in
      same_front at n end old (omega (arith, within)) c (omega (arith, size)) (ap (λ (l : List ℕ). take end l) same ∙ take-take end end old (omega arith)) (inr (omega (arith, size, length-drop end c)))

  -- one sector is written after the end
  torn_there : (n : ℕ) (c : List ℕ) → Torn end 4096 (take end old) c → IsSameBut at n end old c
  torn_there n c torn =
      let size : length (take end old) ≡ end = omega (arith, length-take end old, long) in
      same_front at n end old (omega (arith, within)) c (omega (arith, torn.no_shorter, size)) (torn.before ∙ take-take end end old (omega arith)) (inr (omega (arith, torn.no_longer, size, length-drop end c)))

  -- ---- the steps

  -- what may differ while it is opened
  module _ (n : ℕ) (step : (d c : List ℕ) → IsSameBut at n end old d → Mixed at gate d c → IsSameBut at n end old c) (loose : (d : List ℕ) → IsSameBut at n end old d → IsSameBut at (length gate) end old d)
      (file : FileState) (restarted : LeavesNow file (IsSameBut at n end old)) where
    abbrev pub P : List ℕ → Type 0
    P = IsSameBut at n end old

    module _ (cut : FileState) (cut_crash : Follows (Cut end) file cut) (cut_time : Elapses file cut) where
      cut_left : (c : List ℕ) → MayLeave cut c → P c
      cut_left c left = (let was = cut_crash c left in same_cut at n end old (omega (arith, within)) was.0 c (restarted.left was.0 was.1) was.2)

      pub cut_only : LeavesOnly file cut P
      cut_only = goes_on file file cut P (started file P restarted.left) cut_time cut_left

      pub cut_long : (c : List ℕ) → MayLeave cut c → at + length gate ≤ length c
      cut_long c left = (let is = cut_left c left in omega (arith, is.no_shorter, within))

      module _ (renewed : FileState) (renew_crash : Follows (Mixed at gate) cut renewed) (renew_time : Elapses cut renewed) where
        renewed_left : (c : List ℕ) → MayLeave renewed c → P c
        renewed_left c left = (let was = renew_crash c left in step was.0 c (cut_left was.0 was.1) was.2)

        pub renewed_only : LeavesOnly file renewed P
        renewed_only = goes_on file cut renewed P cut_only renew_time renewed_left

        module _ (cut_syncs : SyncsTo (IsCut end) file cut) (renew_syncs : SyncsTo (λ d c. c ≡ is_written at gate d) cut renewed) where
          pub once_there : (c : List ℕ) → renewed.once_synced c → c ≡ take end old
          once_there c is =
              let e = renew_syncs c is in
              let d = cut_syncs e.0 e.1 in
              same_synced d.0 e.0 c (loose d.0 (restarted.synced d.0 d.1)) d.2 e.2

          module _ (synced : FileState) (sync_crash : (c : List ℕ) → MayLeave synced c → MayLeave renewed c ⊎ renewed.once_synced c) (sync_time : Elapses renewed synced) where
            pub synced_only : LeavesOnly file synced P
            synced_only = goes_on file renewed synced P renewed_only sync_time (λ c left. ⊎_elim (renewed_left c) (λ is. ends_there n c (once_there c is)) (sync_crash c left))

            pub closed_only : (last : FileState) (m : ℕ) → m ≡ 4096 → synced.seen ≡ take end old → LeavesOnly synced last (Torn end m synced.seen) → LeavesOnly file last P
            closed_only last m size seen torn =
                then_on file synced last P synced_only (weaken synced last (Torn end m synced.seen) P torn
                (λ c is. torn_there n c (subst (λ (k : ℕ). Torn end k (take end old) c) size (subst (λ (l : List ℕ). Torn end m l c) seen is))))

            pub on_disk : synced.seen ≡ take end old → ((c : List ℕ) → MayLeave synced c → renewed.once_synced c) → ((c : List ℕ) → synced.once_synced c → renewed.once_synced c) → IsOnDisk synced
            on_disk seen left syncs = record {
              left = λ c now. once_there c (left c now) ∙ sym seen;
              synced = λ c is. once_there c (syncs c is) ∙ sym seen;
            }

-- ---- what the batches are then

module _ (front : List ℕ) (batches : List (List (List ℕ))) (end : ℕ) (file : List ℕ) (has : HasBatches front batches end file) where
  front_is : take end file ≡ front ++ has.frames
  front_is = ap (λ (l : List ℕ). take end l) has.parts ∙ take_at (front ++ has.frames) has.rest end (sym has.ends)

  behind_is : drop end file ≡ has.rest
  behind_is = ap (λ (l : List ℕ). drop end l) has.parts ∙ drop_at (front ++ has.frames) has.rest end (sym has.ends)

  pub end_within : end ≤ length file
  end_within = omega (arith, has.ends, ap length has.parts, length-append (front ++ has.frames) has.rest)

  -- the file is the same as itself
  pub same_itself : (at n : ℕ) → at ≤ end → (c : List ℕ) → c ≡ file → IsSameBut at n end file c
  same_itself at n within c same =
      same_front at n end file within c (omega (arith, end_within, ap length same)) (ap (λ (l : List ℕ). take end l) same) (subst IsEnd (sym (ap (λ (l : List ℕ). drop end l) same ∙ behind_is)) has.last)

  -- one that begins so has the same batches
  pub stands_whole : (c : List ℕ) → take end c ≡ take end file → IsEnd (drop end c) → StandsFor front batches c
  stands_whole c same last = (
    end,
    record {
      frames = has.frames;
      are = has.are;
      rest = drop end c;
      parts = sym (take-append-drop end c) ∙ ap (λ (l : List ℕ). l ++ drop end c) (same ∙ front_is);
      last = last;
      ends = has.ends;
    },
  )

  pub stands_same : (at : ℕ) → at ≤ end → (c : List ℕ) → IsSameBut at 0 end file c → StandsFor front batches c
  stands_same at within c is =
      let none : at + 0 ≡ at = omega arith in
      let after : drop at (take end c) ≡ drop at (take end file) = ap (λ (k : ℕ). drop k (take end c)) (sym none) ∙ is.after ∙ ap (λ (k : ℕ). drop k (take end file)) none in
      stands_whole c
      (sym (take-append-drop at (take end c))
      ∙ ap (λ (l : List ℕ). l ++ drop at (take end c)) (take-take at end c within ∙ is.before ∙ sym (take-take at end file within))
      ∙ ap (λ (l : List ℕ). take at (take end file) ++ l) after
      ∙ take-append-drop at (take end file)) is.last

  module _ (offset : ℕ) (l : HasLast (length front) batches has.frames offset) where
    size_first : length front + offset ≡ length (front ++ l.first)
    size_first = omega (arith, l.begins, length-append front l.first)

    pub room : length front + offset + 4096 ≤ end
    room = omega (arith, has.ends, ap length l.parts, length-append front has.frames, length-append l.first l.frame, length-frame (length front + length l.first) l.batch l.frame l.is, l.begins)

    pub offset_whole : length front % 4096 ≡ 0 → (length front + offset) % 4096 ≡ 0
    offset_whole whole = omega (arith, whole, l.begins, frames_whole (length front) l.before l.first l.are)

    payload : List ℕ
    payload = l.is.seal ++ spelled l.batch ++ 0 ∷ l.is.padding

    in_parts : take end file ≡ ((front ++ l.first) ++ l.is.sector) ++ payload
    unfolding payload
    in_parts =
        front_is
        ∙ ap (λ (k : List ℕ). front ++ k) (l.parts ∙ ap (λ (k : List ℕ). l.first ++ k) l.is.parts)
        ∙ sym (append_assoc front l.first (l.is.sector ++ (l.is.seal ++ spelled l.batch ++ 0 ∷ l.is.padding)))
        ∙ sym (append_assoc (front ++ l.first) l.is.sector (l.is.seal ++ spelled l.batch ++ 0 ∷ l.is.padding))

    size_sector : length ((front ++ l.first) ++ l.is.sector) ≡ length front + offset + 4096
    size_sector = omega (arith, size_first, length-append (front ++ l.first) l.is.sector, l.is.is_open.size)

    behind_gate : drop (length front + offset + 4096) (take end file) ≡ payload
    behind_gate = ap (λ (k : List ℕ). drop (length front + offset + 4096) k) in_parts ∙ drop_at ((front ++ l.first) ++ l.is.sector) payload (length front + offset + 4096) size_sector

    before_gate : take (length front + offset) file ≡ front ++ l.first
    before_gate =
        sym (take-take (length front + offset) end file (omega (arith, room)))
        ∙ ap (λ (k : List ℕ). take (length front + offset) k) (in_parts ∙ append_assoc (front ++ l.first) l.is.sector payload)
        ∙ take_at (front ++ l.first) (l.is.sector ++ payload) (length front + offset) (sym size_first)

    module _ (c : List ℕ) (same : IsSameBut (length front + offset) 4096 end file c) where
      torn : List ℕ
      torn = take 4096 (drop (length front + offset) c)

      torn_parts : c ≡ (front ++ l.first) ++ (torn ++ (payload ++ drop end c))
      unfolding torn
      torn_parts =
          sym (take-append-drop end c)
          ∙ ap (λ (k : List ℕ). k ++ drop end c) (front_parts (length front + offset) 4096 end file room c same)
          ∙ ap (λ (k : List ℕ). (k ++ take 4096 (drop (length front + offset) c) ++ drop (length front + offset + 4096) (take end file)) ++ drop end c) before_gate
          ∙ ap (λ (k : List ℕ). ((front ++ l.first) ++ take 4096 (drop (length front + offset) c) ++ k) ++ drop end c) behind_gate
          ∙ ap (λ (k : List ℕ). k ++ drop end c) (append_assoc (front ++ l.first) (take 4096 (drop (length front + offset) c)) payload)
          ∙ append_assoc (front ++ l.first) (take 4096 (drop (length front + offset) c) ++ payload) (drop end c)
          ∙ ap (λ (k : List ℕ). (front ++ l.first) ++ k) (append_assoc (take 4096 (drop (length front + offset) c)) payload (drop end c))

      torn_size : length torn ≡ 4096
      unfolding torn
      torn_size = omega (arith, length-take 4096 (drop (length front + offset) c), length-drop (length front + offset) c, same.no_shorter, room)

      frame_of_torn : torn ≢ closed_gate → IsFrame (length front + length l.first) l.batch (torn ++ payload)
      unfolding payload
      frame_of_torn written = record {
        sized = l.is.sized;
        sector = torn;
        is_open = record { size = torn_size; written = written };
        seal = l.is.seal;
        sealed = l.is.sealed;
        padding = l.is.padding;
        size = l.is.size;
        parts = refl;
      }

      length-torn : IsFrame (length front + length l.first) l.batch (torn ++ payload) → length (torn ++ payload) ≡ length l.frame
      unfolding payload
      length-torn frame =
          omega (arith, torn_size, ap length l.is.parts, l.is.is_open.size, length-append torn (l.is.seal ++ spelled l.batch ++ 0 ∷ l.is.padding), length-append l.is.sector (l.is.seal ++ spelled l.batch ++ 0 ∷ l.is.padding))

      -- the gate is open still
      stands_open : torn ≢ closed_gate → StandsFor front batches c
      stands_open written =
          let frame = frame_of_torn written in (
            end,
            record {
              frames = l.first ++ (torn ++ payload);
              are = subst (λ (bs : List (List (List ℕ))). AreFrames (length front) bs (l.first ++ (torn ++ payload))) (sym l.all)
                  (one_more_frame (length front) (length front + length l.first) l.before l.batch l.first (torn ++ payload) l.are refl frame);
              rest = drop end c;
              parts =
                  torn_parts
                  ∙ ap (λ (k : List ℕ). (front ++ l.first) ++ k) (sym (append_assoc torn payload (drop end c)))
                  ∙ sym (append_assoc (front ++ l.first) (torn ++ payload) (drop end c))
                  ∙ ap (λ (k : List ℕ). k ++ drop end c) (append_assoc front l.first (torn ++ payload));
              last = same.last;
              ends = omega (arith, has.ends, ap length l.parts, length-append front has.frames, length-append l.first l.frame, length-frame (length front + length l.first) l.batch l.frame l.is, length-torn frame, length-append front (l.first ++ (torn ++ payload)), length-append l.first (torn ++ payload));
            },
          )

      pub stands_either : StandsFor front batches c ⊎ StandsFor front l.before c
      stands_either = elim (same_or_not torn closed_gate) [
        | inl is_closed ↦ inr (without front l.first l.before l.are (length front + offset) size_first (payload ++ drop end c) c (torn_parts ∙ ap (λ (k : List ℕ). (front ++ l.first) ++ (k ++ (payload ++ drop end c))) is_closed))
        | inr written ↦ inl (stands_open written)
      ]

  -- where there is no batch, they end there
  pub stands_none : (offset : ℕ) → offset ≡ length has.frames → (c : List ℕ) → IsSameBut (length front + offset) 4096 end file c → StandsFor front batches c
  stands_none offset none c is =
      let ends : length front + offset ≡ end = omega (arith, none, has.ends, length-append front has.frames) in
      stands_whole c (ap (λ (k : ℕ). take k c) (sym ends) ∙ is.before ∙ ap (λ (k : ℕ). take k file) ends) is.last
