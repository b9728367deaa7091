-- What a window of a file that is read piece by piece tells of the file.
use Rattle.std.specs.Prelude.{MatchOption, IfSome}
use Rattle.std.proofs.Common.{Option, None, Some, Result, Ok, Err, OnOk, OnErr, max, min, ◌≡◌, ◌⊎◌, inl, inr, ◌<◌, ◌≤◌, ◌^◌, ◌+◌, ℕ, List, [], ◌++◌, length, take, drop, refl, sym, ◌∙◌, ap, subst, arith, append_assoc, length-append, length-take, length-drop, take-append-drop}
use Rattle.std.proofs.lemmas.Bool.{cases_lt}
use Rattle.std.proofs.lemmas.List.{append-nil, drop_at, drop-drop, nil_from_length, take_all, take_at}
use Rattle.stored_file.specs.Reading.{HasNotRead, HasRead, IsReadOf}
use Rattle.durable_machine.specs.Journal.{BeginsBatch, BeginsClosed, BeginsNoBatch, IsEnd}
use Rattle.durable_machine.proofs.Sealing.{begins_closed, closed_first}
use Rattle.durable_machine.specs.Bases.{BeginsBase, BeginsNoBase, HasReadBase, NeedsBytes}
use Rattle.durable_machine.specs.Pieces.{HasGate, HasReadOn, HoldsOfWhole, IsAfter, TakesBytes, TellsBatch}

-- ---- the front of a list

pub front_taken : (n : ℕ) (xs ys : List ℕ) → n ≤ length xs → take n (xs ++ ys) ≡ take n xs
front_taken n xs ys within =
    let size : length (take n xs) ≡ n = omega (arith, length-take n xs, within) in
    ap (λ (l : List ℕ). take n (l ++ ys)) (sym (take-append-drop n xs))
    ∙ ap (λ (l : List ℕ). take n l) (append_assoc (take n xs) (drop n xs) ys)
    ∙ take_at (take n xs) (drop n xs ++ ys) n size

pub front_dropped : (n : ℕ) (xs ys : List ℕ) → n ≤ length xs → drop n (xs ++ ys) ≡ drop n xs ++ ys
front_dropped n xs ys within =
    let size : length (take n xs) ≡ n = omega (arith, length-take n xs, within) in
    ap (λ (l : List ℕ). drop n (l ++ ys)) (sym (take-append-drop n xs))
    ∙ ap (λ (l : List ℕ). drop n l) (append_assoc (take n xs) (drop n xs) ys)
    ∙ drop_at (take n xs) (drop n xs ++ ys) n size

-- a part of it
pub part_taken : (n k : ℕ) (xs ys : List ℕ) → n + k ≤ length xs → take k (drop n (xs ++ ys)) ≡ take k (drop n xs)
part_taken n k xs ys within =
    ap (λ (l : List ℕ). take k l) (front_dropped n xs ys (omega (arith, within)))
    ∙ front_taken k (drop n xs) ys (omega (arith, within, length-drop n xs))

-- ---- what was read

pub nothing_read : (given held : List ℕ) → HasReadOn given given held held
nothing_read given held = record { bytes = []; read = sym (append-nil given); put = sym (append-nil held) }

pub not_read : (was given held holds : List ℕ) → given ≡ was → holds ≡ held → HasReadOn was given held holds
not_read was given held holds same kept = record { bytes = []; read = same ∙ sym (append-nil was); put = kept ∙ sym (append-nil held) }

pub has_read : (count : ℕ) (was given held holds : List ℕ) → HasRead count was given held holds → HasReadOn was given held holds
has_read count was given held holds is = record { bytes = is.bytes; read = is.read; put = is.put }

pub then_read : (a b c x y z : List ℕ) → HasReadOn a b x y → HasReadOn b c y z → HasReadOn a c x z
then_read a b c x y z first second = record {
  bytes = first.bytes ++ second.bytes;
  read = second.read ∙ ap (λ (l : List ℕ). l ++ second.bytes) first.read ∙ append_assoc a first.bytes second.bytes;
  put = second.put ∙ ap (λ (l : List ℕ). l ++ second.bytes) first.put ∙ append_assoc x first.bytes second.bytes;
}

-- the window has all that was read
pub same_read : (was given held holds : List ℕ) → held ≡ was → HasReadOn was given held holds → holds ≡ given
same_read was given held holds same read = read.put ∙ ap (λ (l : List ℕ). l ++ read.bytes) same ∙ sym read.read

-- as much was put into the window as was read
pub as_much : (was given held holds : List ℕ) → HasReadOn was given held holds → length given + length held ≡ length was + length holds
as_much was given held holds is = omega (arith, ap length is.read, ap length is.put, length-append was is.bytes, length-append held is.bytes)

-- ---- what a read came to

pub read_or_not : {T E : Type 0} (r : Result T E) (count : ℕ) (was given held holds : List ℕ) → OnOk r (HasRead count was given held holds) → OnErr r (HasNotRead was given held holds) → HasReadOn was given held holds
read_or_not (Ok x) count was given held holds done failed = has_read count was given held holds done
read_or_not (Err e) count was given held holds done failed = not_read was given held holds failed.read failed.put

-- as much as is wanted, or all that is left
pub enough_read : {T E : Type 0} (r : Result T E) (wanted missing count left size : ℕ) (was given held holds : List ℕ) → OnOk r (HasRead count was given held holds)
    → (missing ≤ count) ⊎ (count ≡ left) → wanted ≡ length held + missing → length was + left ≡ size → OnOk r ((wanted ≤ length holds) ⊎ (length given ≡ size))
enough_read (Err e) wanted missing count left size was given held holds done amount want ends = tt
enough_read (Ok x) wanted missing count left size was given held holds done (inl more) want ends =
    inl (omega (arith, more, want, ap length done.put, length-append held done.bytes, done.counted))
enough_read (Ok x) wanted missing count left size was given held holds done (inr all) want ends =
    inr (omega (arith, all, ends, ap length done.read, length-append was done.bytes, done.counted))

pub amount : (missing piece left count : ℕ) → count ≡ min (max missing piece) left → (missing ≤ count) ⊎ (count ≡ left)
amount missing piece left count is = elim (cases_lt count missing) [
  | inl less ↦ inr (omega (arith, less, is))
  | inr more ↦ inl more
]

-- it is enough later, too
pub enough_later : (n size : ℕ) (was given held holds : List ℕ) → (n ≤ length held) ⊎ (length was ≡ size) → HasReadOn was given held holds → length given ≤ size → (n ≤ length holds) ⊎ (length given ≡ size)
enough_later n size was given held holds (inl enough) read within = inl (omega (arith, enough, ap length read.put, length-append held read.bytes))
enough_later n size was given held holds (inr whole) read within = inr (omega (arith, whole, within, ap length read.read, length-append was read.bytes))

-- ---- the whole file

pub nothing_left : (size : ℕ) (given rest : List ℕ) → length (given ++ rest) ≡ size → length given ≡ size → rest ≡ []
nothing_left size given rest is whole = nil_from_length rest (omega (arith, is, whole, length-append given rest))

module _ (size : ℕ) (P : List ℕ → Type 0) where
  pub whole_later : (was more given : List ℕ) → HoldsOfWhole size was P → given ≡ was ++ more → HoldsOfWhole size given P
  whole_later was more given holds same rest is =
      let parts : given ++ rest ≡ was ++ (more ++ rest) = ap (λ (l : List ℕ). l ++ rest) same ∙ append_assoc was more rest in
      subst P (sym parts) (holds (more ++ rest) (sym (ap length parts) ∙ is))

  pub whole_now : (given : List ℕ) → HoldsOfWhole size given P → length given ≡ size → P given
  whole_now given holds whole = subst P (append-nil given) (holds [] (ap length (append-nil given) ∙ whole))

  pub of_whole : (given : List ℕ) → P given → length given ≡ size → HoldsOfWhole size given P
  of_whole given holds whole rest is = subst P (sym (ap (λ (l : List ℕ). given ++ l) (nothing_left size given rest is whole) ∙ append-nil given)) holds

-- ---- a file in memory

module _ (size : ℕ) (given file : List ℕ) where
  known_parts : IsReadOf given size (Some file) → given ++ drop (length given) file ≡ file
  known_parts (same, front) = ap (λ (l : List ℕ). l ++ drop (length given) file) front ∙ take-append-drop (length given) file

  pub all_known : length given ≡ size → IsReadOf given size (Some file) → given ≡ file
  all_known whole (same, front) = front ∙ take_all (length given) file (omega (arith, whole, same))

pub of_known : (size : ℕ) (P : List ℕ → Type 0) (given file : List ℕ) → HoldsOfWhole size given P → IsReadOf given size (Some file) → P file
of_known size P given file holds known =
    let parts = known_parts size given file known in
    subst P parts (holds (drop (length given) file) (ap length parts ∙ known.0))

-- ---- what stands after what is done

pub after_more : (done : ℕ) (was given held holds : List ℕ) → IsAfter done was held → HasReadOn was given held holds → IsAfter done given holds
after_more done was given held holds after read = record {
  read = omega (arith, after.read, ap length read.read, length-append was read.bytes);
  rest =
      read.put ∙ ap (λ (l : List ℕ). l ++ read.bytes) after.rest
      ∙ sym (ap (λ (l : List ℕ). drop done l) read.read ∙ front_dropped done was read.bytes after.read);
}

pub after_less : (done n : ℕ) (given held holds : List ℕ) → IsAfter done given held → n ≤ length held → holds ≡ drop n held → IsAfter (done + n) given holds
after_less done n given held holds after within is = record {
  read = omega (arith, after.read, within, ap length after.rest, length-drop done given);
  rest = is ∙ ap (λ (l : List ℕ). drop n l) after.rest ∙ drop-drop n done given;
}

pub after_size : (done : ℕ) (given held : List ℕ) → IsAfter done given held → done + length held ≡ length given
after_size done given held after = omega (arith, after.read, ap length after.rest, length-drop done given)

pub after_rest : (done : ℕ) (given held rest : List ℕ) → IsAfter done given held → drop done (given ++ rest) ≡ held ++ rest
after_rest done given held rest after = front_dropped done given rest after.read ∙ ap (λ (l : List ℕ). l ++ rest) (sym after.rest)

-- ---- whether a batch stands there

pub tells_whole : (size : ℕ) (given window : List ℕ) → length given ≡ size → TellsBatch size given window
tells_whole size given window whole at rest is none =
    subst (BeginsNoBatch at) (sym (ap (λ (l : List ℕ). window ++ l) (nothing_left size given rest is whole) ∙ append-nil window)) none

-- all of the file was read
pub tells_all : {T E : Type 0} (r : Result T E) (count size : ℕ) (was given held holds : List ℕ) → OnOk r (HasRead count was given held holds) → length was + count ≡ size → OnOk r (TellsBatch size given holds)
tells_all (Err e) count size was given held holds done ends = tt
tells_all (Ok x) count size was given held holds done ends = tells_whole size given holds (omega (arith, ends, ap length done.read, length-append was done.bytes, done.counted))

module _ (size n : ℕ) (given front window more : List ℕ) (takes : TakesBytes n front) (parts : window ≡ front ++ more) (within : length window ≤ length given) (fits : size < 2 ^ 63) where
  regroup : (rest : List ℕ) → window ++ rest ≡ front ++ (more ++ rest)
  regroup rest = ap (λ (l : List ℕ). l ++ rest) parts ∙ append_assoc front more rest

  small : (rest : List ℕ) → length (given ++ rest) ≡ size → length (window ++ rest) < 2 ^ 63
  small rest is = omega (arith, is, fits, within, length-append given rest, length-append window rest)

  abbrev again : (at : ℕ) (events : List (List ℕ)) (r rest : List ℕ) → BeginsBatch at events r (window ++ rest) → BeginsBatch at events r (front ++ (more ++ rest))
  again at events r rest begins = record { frame = begins.frame; is = begins.is; parts = sym (regroup rest) ∙ begins.parts }

  size_is : (at : ℕ) (events : List (List ℕ)) (r rest : List ℕ) (begins : BeginsBatch at events r (window ++ rest)) → length (given ++ rest) ≡ size → length begins.frame ≡ n
  size_is at events r rest begins is =
      takes at events r (more ++ rest) (again at events r rest begins) (omega (arith, small rest is, ap length (regroup rest)))

  -- all of it is in the window
  pub tells_taken : n ≤ length window → TellsBatch size given window
  tells_taken enough at rest is none events r begins =
      let n_is = size_is at events r rest begins is in
      let same : take n window ≡ begins.frame =
      sym (front_taken n window rest enough) ∙ ap (λ (l : List ℕ). take n l) begins.parts ∙ take_at begins.frame r n n_is in
      none events (drop n window) (record {
        frame = begins.frame;
        is = begins.is;
        parts = sym (take-append-drop n window) ∙ ap (λ (l : List ℕ). l ++ drop n window) same;
      })

  -- the file ends before it
  pub tells_long : (left : ℕ) → length given + left ≡ size → length window + left < n → TellsBatch size given window
  tells_long left ends long at rest is none events r begins =
      absurd (omega (
        arith,
        size_is at events r rest begins is,
        ends,
        long,
        is,
        length-append given rest,
        length-append window rest,
        ap length begins.parts,
        length-append begins.frame r,
      ))

-- as many bytes were read as it takes, or all of the file
pub tells_read : {T E : Type 0} (r : Result T E) (size n : ℕ) (was given front window : List ℕ) → OnOk r ((n ≤ length window) ⊎ (length given ≡ size)) → HasReadOn was given front window
    → TakesBytes n front → length front ≤ length was → size < 2 ^ 63 → OnOk r (TellsBatch size given window)
tells_read (Err e) size n was given front window enough read takes within fits = tt
tells_read (Ok x) size n was given front window (inl enough) read takes within fits =
    tells_taken size n given front window read.bytes takes read.put
    (omega (arith, within, ap length read.read, ap length read.put, length-append was read.bytes, length-append front read.bytes)) fits enough
tells_read (Ok x) size n was given front window (inr whole) read takes within fits = tells_whole size given window whole

-- ---- gates

pub no_gate : (end : ℕ) (file : List ℕ) → HasGate end end [] file
no_gate end file = record { again = refl; size = inr (refl, refl); within = omega arith }

pub gate_later : (last end : ℕ) (gate file rest : List ℕ) → HasGate last end gate file → end ≤ length file → HasGate last end gate (file ++ rest)
gate_later last end gate file rest has within = record {
  again = part_taken last (length gate) file rest (omega (arith, within, has.within)) ∙ has.again;
  size = has.size;
  within = has.within;
}

-- the window tells whether it is an end
pub end_later : (size : ℕ) (given window rest : List ℕ) → (4096 < length window) ⊎ (length given ≡ size) → length (given ++ rest) ≡ size → IsEnd window → IsEnd (window ++ rest)
end_later size given window rest (inr whole) is end = subst IsEnd (sym (ap (λ (l : List ℕ). window ++ l) (nothing_left size given rest is whole) ∙ append-nil window)) end
end_later size given window rest (inl long) is (inl shut) = inl (shut.0 ++ rest, ap (λ (l : List ℕ). l ++ rest) shut.1 ∙ append_assoc _ shut.0 rest)
end_later size given window rest (inl long) is (inr short) = absurd (omega (arith, long, short))

pub open_later : (window rest : List ℕ) → 4096 < length window → (BeginsClosed window → ⊥) → BeginsClosed (window ++ rest) → ⊥
open_later window rest long not_shut shut = not_shut (begins_closed window (sym (front_taken 4096 window rest (omega (arith, long))) ∙ closed_first (window ++ rest) shut))

-- ---- bases

module _ {S : Type 0} (loads : List ℕ → S → Type 0) where
  -- at least one byte more
  pub needs_one : (front : List ℕ) → NeedsBytes loads (length front + 1) front
  needs_one front base rest more s loaded parts = elim (cases_lt (length front) (length base)) [
    | inl less ↦ inr (omega arith, omega (arith, less))
    | inr within ↦ inl within
  ]

  -- it is in what was read
  pub base_read : (size n : ℕ) (given : List ℕ) → NeedsBytes loads n given → n ≤ length given → HasReadBase loads size given
  base_read size n given needs enough base rest more s loaded is parts = of (needs base rest more s loaded parts)
    where
      of : (length base ≤ length given) ⊎ ((length given < n) × (n ≤ length base)) → length base ≤ length given
      of (inl within) = within
      of (inr longer) = absurd (omega (arith, longer.0, enough))

  -- or it isn't in the file
  pub base_long : (size n left : ℕ) (given : List ℕ) → NeedsBytes loads n given → length given + left ≡ size → length given + left < n → HasReadBase loads size given
  base_long size n left given needs ends long base rest more s loaded is parts = of (needs base rest more s loaded parts)
    where
      of : (length base ≤ length given) ⊎ ((length given < n) × (n ≤ length base)) → length base ≤ length given
      of (inl within) = within
      of (inr longer) = absurd (omega (arith, longer.1, long, ends, is, ap length parts, length-append base rest))

  pub none_begins : (size : ℕ) (given : List ℕ) → HasReadBase loads size given → BeginsNoBase loads given → HoldsOfWhole size given (BeginsNoBase loads)
  none_begins size given has none more is base rest s loaded parts =
      let within = has base rest more s loaded is parts in
      let same : take (length base) given ≡ base =
      sym (front_taken (length base) given more within) ∙ ap (λ (l : List ℕ). take (length base) l) parts ∙ take_at base rest (length base) refl in
      none base (drop (length base) given) s loaded (sym (take-append-drop (length base) given) ∙ ap (λ (l : List ℕ). l ++ drop (length base) given) same)

  pub base_begins : (size n : ℕ) (given : List ℕ) (s : S) → BeginsBase loads s n given → HoldsOfWhole size given (BeginsBase loads s n)
  base_begins size n given s begins more is = record {
    within = omega (arith, begins.within, length-append given more);
    loaded = subst (λ (l : List ℕ). loads l s) (sym (front_taken n given more begins.within)) begins.loaded;
  }

  -- what was loaded of the window
  pub loaded_begins : (size : ℕ) (given window : List ℕ) (found : Option (S × ℕ)) → window ≡ given → HasReadBase loads size given
      → MatchOption found (BeginsNoBase loads window) (λ base. BeginsBase loads base.0 base.1 window)
      → HoldsOfWhole size given (λ file. MatchOption found (BeginsNoBase loads file) (λ base. BeginsBase loads base.0 base.1 file))
  loaded_begins size given window None same has none = none_begins size given has (subst (BeginsNoBase loads) same none)
  loaded_begins size given window (Some base) same has begins = base_begins size base.1 given base.0 (subst (BeginsBase loads base.0 base.1) same begins)

  pub loaded_within : (given window : List ℕ) (found : Option (S × ℕ)) → window ≡ given → MatchOption found (BeginsNoBase loads window) (λ base. BeginsBase loads base.0 base.1 window)
      → IfSome found (λ base. base.1 ≤ length given)
  loaded_within given window None same none = tt
  loaded_within given window (Some base) same begins = omega (arith, begins.within, ap length same)
