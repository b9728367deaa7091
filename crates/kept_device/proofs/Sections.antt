-- What is spelled reads back.
use Rattle.std.proofs.Common.{◌≡◌, ◌<◌, ◌≤◌, ℕ, ◌^◌, ◌==◌, Bool, cond, List, [], ◌++◌, length, take, drop, Option, Some, None, option_map, Result, Ok, Err, IfOk, OnOk, refl, ap, sym, ◌∙◌, arith, length-append, append_assoc}
use Rattle.std.specs.Prelude.{Vec, nat_le}
use Rattle.std.specs.declared.alloc.Global.{Global}
use Rattle.std.proofs.lemmas.Bool.{le-leb, ne_eqb}
use Rattle.std.proofs.lemmas.List.{drop_at, take_at}
use Rattle.byteorder.specs.Endian.{little_bytes, little_number}
use Rattle.byteorder.specs.Numbers.{little_number-reads_back}
use Rattle.common_definitions.specs.Bytes.{field}
use Rattle.nvme_entry.specs.Entry.{decoded, identifier_of}
use Rattle.nvme_entry.specs.declared.command.RunCommand.{RunCommand}
use Rattle.device_meaning.specs.View.{Active}
use Rattle.kept_device.specs.Kept.{SavedProgram}
use Rattle.kept_device.specs.Sections.{IsRunSection, IsSpellable, IsSpellableRun, ProgramsReadBack, RunsReadBack, place_in, program_section, run_asked, run_by, slot_in}

-- what a test of the two lengths chooses
chosen : {A : Type 0} (section : List ℕ) (least : ℕ) (empty whole : Option A) → 1 ≤ length section → least ≤ length section
    → cond (length section == 0) empty (cond (nat_le least (length section)) whole None) ≡ whole
chosen section least empty whole some long =
    ap (λ (t : Bool). cond t empty (cond (nat_le least (length section)) whole None)) (ne_eqb (length section) 0 (λ none. absurd (omega (arith, some, none))))
    ∙ ap (λ (t : Bool). cond t whole None) (le-leb least (length section) long)

module _ (section : List ℕ) where
  -- what stands behind the first bytes
  behind : (front rest : List ℕ) (n : ℕ) → section ≡ front ++ rest → length front ≡ n → drop n section ≡ rest
  behind front rest n is long = ap (λ (l : List ℕ). drop n l) is ∙ drop_at front rest n long

  -- a number there
  number_behind : (front rest : List ℕ) (at n x : ℕ) → section ≡ front ++ (little_bytes n x ++ rest) → length front ≡ at → x < 256 ^ n → field section at n ≡ x
  number_behind front rest at n x is long small =
      ap (λ (l : List ℕ). little_number n l) (behind front (little_bytes n x ++ rest) at is long) ∙ little_number-reads_back n x rest small

  -- a part there
  part_behind : (front part rest : List ℕ) (at n : ℕ) → section ≡ front ++ (part ++ rest) → length front ≡ at → length part ≡ n → take n (drop at section) ≡ part
  part_behind front part rest at n is long size = ap (λ (l : List ℕ). take n l) (behind front (part ++ rest) at is long) ∙ take_at part rest n size

-- ---- programs

module _ (p : SavedProgram) (is : IsSpellable p) where
  abbrev told : List ℕ → ℕ → List ℕ → Option (Option SavedProgram)
  told bytes limit result = Some (Some (record { bytes = bytes; limit = limit; result = result }))

  abbrev digits : List ℕ
  digits = little_bytes 4 p.limit

  abbrev whole : List ℕ
  whole = (digits ++ p.result) ++ p.bytes

  parts : whole ≡ digits ++ (p.result ++ p.bytes)
  parts = append_assoc digits p.result p.bytes

  front : length (digits ++ p.result) ≡ 1028
  front = omega (arith, length-append digits p.result, is.result)

  program_back : slot_in whole ≡ told p.bytes p.limit p.result
  program_back =
      let long = length-append (digits ++ p.result) p.bytes in
      chosen whole 1028 (Some None) _ (omega (arith, long, front)) (omega (arith, long, front))
      ∙ ap (λ (bytes : List ℕ). told bytes (field whole 0 4) (take 1024 (drop 4 whole))) (behind whole (digits ++ p.result) p.bytes 1028 refl front)
      ∙ ap (λ (limit : ℕ). told p.bytes limit (take 1024 (drop 4 whole))) (number_behind whole [] (p.result ++ p.bytes) 0 4 p.limit parts refl is.limit)
      ∙ ap (λ (result : List ℕ). told p.bytes p.limit result) (part_behind whole digits p.result p.bytes 4 1024 parts refl is.result)

pub programs_read_back : ProgramsReadBack
programs_read_back p is = program_back p is

-- what was spelled, if anything
pub program_reads : {E : Type 0} (r : Result (Vec ℕ Global) E) (p : SavedProgram) → IfOk r (λ section. section.items ≡ program_section (Some p))
    → OnOk r (IsSpellable p) → IfOk r (λ section. slot_in section.items ≡ Some (Some p))
program_reads (Ok section) p is fits = ap slot_in is ∙ programs_read_back p fits
program_reads (Err fault) p is fits = tt

-- ---- runs

module _ (section : List ℕ) (a : Active) (is : IsSpellableRun a) (s : IsRunSection section a) where
  abbrev q : List ℕ
  q = little_bytes 2 a.queue

  abbrev i : List ℕ
  i = little_bytes 4 a.so_far.index

  abbrev f : List ℕ
  f = little_bytes 4 a.so_far.frames

  abbrev n : List ℕ
  n = little_bytes 4 a.so_far.appended

  abbrev tail : List ℕ
  tail = a.so_far.scratch ++ a.so_far.pending

  by_parts : (q e i f n s p : List ℕ) → ((((((q ++ e) ++ i) ++ f) ++ n) ++ s) ++ p) ≡ q ++ (e ++ (i ++ (f ++ (n ++ (s ++ p)))))
  by_parts q e i f n s p = simp append_assoc refl

  all : section ≡ q ++ (s.entry ++ (i ++ (f ++ (n ++ tail))))
  all = s.spelled ∙ by_parts q s.entry i f n a.so_far.scratch a.so_far.pending

  from_index : section ≡ (q ++ s.entry) ++ (i ++ (f ++ (n ++ tail)))
  from_index = all ∙ sym (append_assoc q s.entry (i ++ (f ++ (n ++ tail))))

  from_frames : section ≡ ((q ++ s.entry) ++ i) ++ (f ++ (n ++ tail))
  from_frames = from_index ∙ sym (append_assoc (q ++ s.entry) i (f ++ (n ++ tail)))

  from_appended : section ≡ (((q ++ s.entry) ++ i) ++ f) ++ (n ++ tail)
  from_appended = from_frames ∙ sym (append_assoc ((q ++ s.entry) ++ i) f (n ++ tail))

  from_scratch : section ≡ ((((q ++ s.entry) ++ i) ++ f) ++ n) ++ tail
  from_scratch = from_appended ∙ sym (append_assoc (((q ++ s.entry) ++ i) ++ f) n tail)

  long_entry : length (q ++ s.entry) ≡ 66
  long_entry = omega (arith, length-append q s.entry, s.long)

  long_index : length ((q ++ s.entry) ++ i) ≡ 70
  long_index = omega (arith, length-append (q ++ s.entry) i, long_entry)

  long_frames : length (((q ++ s.entry) ++ i) ++ f) ≡ 74
  long_frames = omega (arith, length-append ((q ++ s.entry) ++ i) f, long_index)

  long_header : length ((((q ++ s.entry) ++ i) ++ f) ++ n) ≡ 78
  long_header = omega (arith, length-append (((q ++ s.entry) ++ i) ++ f) n, long_frames)

  long_scratch : length (((((q ++ s.entry) ++ i) ++ f) ++ n) ++ a.so_far.scratch) ≡ 1102
  long_scratch = omega (arith, length-append ((((q ++ s.entry) ++ i) ++ f) ++ n) a.so_far.scratch, long_header, is.scratch)

  entry_is : take 64 (drop 2 section) ≡ s.entry
  entry_is = part_behind section q s.entry (i ++ (f ++ (n ++ tail))) 2 64 all refl s.long

  abbrev told_run : ℕ → ℕ → RunCommand → ℕ → List ℕ → List ℕ → ℕ → ℕ → Option (Option Active)
  told_run queue cid command index scratch pending frames appended = Some (Some (record {
    queue = queue;
    cid = cid;
    command = command;
    so_far = record { index = index; scratch = scratch; pending = pending; frames = frames; appended = appended };
  }))

  run_back : place_in section ≡ Some (Some a)
  run_back =
      let long = ap length s.spelled ∙ length-append (((((q ++ s.entry) ++ i) ++ f) ++ n) ++ a.so_far.scratch) a.so_far.pending in
      let queue = number_behind section [] (s.entry ++ (i ++ (f ++ (n ++ tail)))) 0 2 a.queue all refl is.queue in
      let index = number_behind section (q ++ s.entry) (f ++ (n ++ tail)) 66 4 a.so_far.index from_index long_entry is.index in
      let frames = number_behind section ((q ++ s.entry) ++ i) (n ++ tail) 70 4 a.so_far.frames from_frames long_index is.frames in
      let appended = number_behind section (((q ++ s.entry) ++ i) ++ f) tail 74 4 a.so_far.appended from_appended long_frames is.appended in
      let scratch = part_behind section ((((q ++ s.entry) ++ i) ++ f) ++ n) a.so_far.scratch a.so_far.pending 78 1024 from_scratch long_header is.scratch in
      let pending = behind section (((((q ++ s.entry) ++ i) ++ f) ++ n) ++ a.so_far.scratch) a.so_far.pending 1102 s.spelled long_scratch in
      chosen section 1102 (Some None) _ (omega (arith, long, long_scratch)) (omega (arith, long, long_scratch))
      ∙ ap (λ (e : List ℕ). option_map (λ asked. Some (run_by section e asked)) (run_asked (decoded e))) entry_is
      ∙ ap (λ r. option_map (λ asked. Some (run_by section s.entry asked)) (run_asked r)) s.asks
      ∙ ap (λ (x : ℕ). told_run x (identifier_of s.entry) a.command (field section 66 4) (take 1024 (drop 78 section)) (drop 1102 section) (field section 70 4) (field section 74 4)) queue
      ∙ ap (λ (x : ℕ). told_run a.queue x a.command (field section 66 4) (take 1024 (drop 78 section)) (drop 1102 section) (field section 70 4) (field section 74 4)) s.identifier
      ∙ ap (λ (x : ℕ). told_run a.queue a.cid a.command x (take 1024 (drop 78 section)) (drop 1102 section) (field section 70 4) (field section 74 4)) index
      ∙ ap (λ (x : List ℕ). told_run a.queue a.cid a.command a.so_far.index x (drop 1102 section) (field section 70 4) (field section 74 4)) scratch
      ∙ ap (λ (x : List ℕ). told_run a.queue a.cid a.command a.so_far.index a.so_far.scratch x (field section 70 4) (field section 74 4)) pending
      ∙ ap (λ (x : ℕ). told_run a.queue a.cid a.command a.so_far.index a.so_far.scratch a.so_far.pending x (field section 74 4)) frames
      ∙ ap (λ (x : ℕ). told_run a.queue a.cid a.command a.so_far.index a.so_far.scratch a.so_far.pending a.so_far.frames x) appended

pub runs_read_back : RunsReadBack
runs_read_back section a is s = run_back section a is s

-- ---- what a run is read as

module _ (section entry : List ℕ) (asked : RunCommand) where
  pub run_is : (queue index frames appended : ℕ) (scratch pending : List ℕ)
      → queue ≡ field section 0 2 → index ≡ field section 66 4 → frames ≡ field section 70 4 → appended ≡ field section 74 4
      → scratch ≡ take 1024 (drop 78 section) → pending ≡ drop 1102 section
      → let run : Active = record {
        queue = queue;
        cid = identifier_of entry;
        command = asked;
        so_far = record { index = index; scratch = scratch; pending = pending; frames = frames; appended = appended };
      } in run ≡ run_by section entry asked
  run_is queue index frames appended scratch pending q i f n s p = cc

  -- the section of a place that is long enough, and whose entry asks for a Run
  pub place_read : (a : Active) → 1102 ≤ length section → entry ≡ take 64 (drop 2 section) → Some asked ≡ run_asked (decoded entry)
      → a ≡ run_by section entry asked → place_in section ≡ Some (Some a)
  place_read a long is asks run =
      chosen section 1102 (Some None) _ (omega (arith, long)) long
      ∙ ap (λ (e : List ℕ). option_map (λ asked. Some (run_by section e asked)) (run_asked (decoded e))) (sym is)
      ∙ ap (λ r. option_map (λ asked. Some (run_by section entry asked)) r) (sym asks)
      ∙ ap (λ (x : Active). Some (Some x)) (sym run)
