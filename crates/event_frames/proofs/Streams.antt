-- Streams split in one way.
use Rattle.std.proofs.Common.{◌≡◌, ℕ, ◌/◌, ◌%◌, ◌^◌, ◌<◌, List, [], ◌∷◌, ◌++◌, length, take, drop, slice_index, refl, sym, ap, subst, ◌∙◌, append_assoc, inl, inr, ◌⊎◌, length-append, arith}
use Rattle.std.specs.List.{flat_map, AllByRecursion}
use Rattle.std.proofs.lemmas.List.{drop_at, take_at}
use Rattle.zone_state.specs.declared.state.FaultState.TheVariants.{ReadOnly, Offline}
use Rattle.event_frames.specs.Requests.{Fits, ToldRequest, Submitted, Turned, Faulted, Drained, Saved}
use Rattle.event_frames.specs.Frames.{frame_length, request_body, request_frame, request_header}
use Rattle.event_frames.specs.Laws.{FramesReadBack, StreamsSplitInOneWay}
use Rattle.event_frames.specs.Streams.{IsFirstWrong, IsRest}
use Rattle.event_frames.proofs.Headers.{is_right}

pub header_length : (r : ToldRequest) → length (request_header r) ≡ 16
header_length (Submitted queue entry input) = refl
header_length (Turned run) = refl
header_length (Faulted zone state) = refl
header_length (Drained turns) = refl
header_length Saved = refl

-- ---- a frame is read back

-- two numbers that the same two bytes spell
two_back : (a b : ℕ) → a < 2 ^ 16 → b < 2 ^ 16 → a % 256 ≡ b % 256 → a / 256 % 256 ≡ b / 256 % 256 → a ≡ b
two_back a b fits too low high = omega (arith, fits, too, low, high)

-- two that the same four do
four_back : (a b : ℕ) → a < 2 ^ 32 → b < 2 ^ 32 → a % 256 ≡ b % 256 → a / 256 % 256 ≡ b / 256 % 256 → a / 65536 % 256 ≡ b / 65536 % 256
    → a / 16777216 % 256 ≡ b / 16777216 % 256 → a ≡ b
four_back a b fits too b0 b1 b2 b3 = omega (arith, fits, too, b0, b1, b2, b3)

-- the byte at a place of two equal lists
at : (k : ℕ) (xs ys : List ℕ) → xs ≡ ys → slice_index xs k ≡ slice_index ys k
at k xs ys same = ap (λ (bytes : List ℕ). slice_index bytes k) same

-- what goes with a submission, in its parts
parts_back : (entry input entry' input' more others : List ℕ) → length entry ≡ 64 → length entry' ≡ 64 → length input ≡ length input'
    → (entry ++ input) ++ more ≡ (entry' ++ input') ++ others → (entry ≡ entry') × (input ≡ input') × (more ≡ others)
parts_back entry input entry' input' more others whole too same all =
    let long : length (entry ++ input) ≡ length (entry' ++ input') = omega (arith, whole, too, same, length-append entry input, length-append entry' input') in
    let bodies : entry ++ input ≡ entry' ++ input' =
    sym (take_at (entry ++ input) more (length (entry' ++ input')) long) ∙ ap (take (length (entry' ++ input'))) all
    ∙ take_at (entry' ++ input') others (length (entry' ++ input')) refl in
    let behind : more ≡ others =
    sym (drop_at (entry ++ input) more (length (entry' ++ input')) long) ∙ ap (drop (length (entry' ++ input'))) all
    ∙ drop_at (entry' ++ input') others (length (entry' ++ input')) refl in (
      sym (take_at entry input 64 whole) ∙ ap (take 64) bodies ∙ take_at entry' input' 64 too,
      sym (drop_at entry input 64 whole) ∙ ap (drop 64) bodies ∙ drop_at entry' input' 64 too,
      behind,
    )

submitted : (queue queue' : ℕ) (entry entry' input input' : List ℕ) → queue ≡ queue' → entry ≡ entry' → input ≡ input'
    → Submitted queue entry input ≡ Submitted queue' entry' input'
submitted queue queue' entry entry' input input' a b c = cc

same_request : (r s : ToldRequest) (more others : List ℕ) → Fits r → Fits s → request_header r ≡ request_header s
    → request_body r ++ more ≡ request_body s ++ others → (r ≡ s) × (more ≡ others)
same_request (Submitted queue entry input) (Submitted queue' entry' input') more others fits too same all =
    let h = request_header (Submitted queue entry input) in
    let h' = request_header (Submitted queue' entry' input') in
    let q = two_back queue queue' fits.0 too.0 (at 2 h h' same) (at 3 h h' same) in
    let n = four_back (length input) (length input') (omega (arith, fits.2)) (omega (arith, too.2)) (at 8 h h' same) (at 9 h h' same) (at 10 h h' same) (at 11 h h' same) in
    let p = parts_back entry input entry' input' more others fits.1 too.1 n all in
    (submitted queue queue' entry entry' input input' q p.0 p.1, p.2)
same_request (Turned run) (Turned run') more others fits too same all =
    (ap Turned (at 1 (request_header (Turned run)) (request_header (Turned run')) same), all)
same_request (Faulted zone ReadOnly) (Faulted zone' ReadOnly) more others fits too same all =
    let h = request_header (Faulted zone ReadOnly) in
    let h' = request_header (Faulted zone' ReadOnly) in
    (ap (λ (z : ℕ). Faulted z ReadOnly) (four_back zone zone' fits too (at 4 h h' same) (at 5 h h' same) (at 6 h h' same) (at 7 h h' same)), all)
same_request (Faulted zone Offline) (Faulted zone' Offline) more others fits too same all =
    let h = request_header (Faulted zone Offline) in
    let h' = request_header (Faulted zone' Offline) in
    (ap (λ (z : ℕ). Faulted z Offline) (four_back zone zone' fits too (at 4 h h' same) (at 5 h h' same) (at 6 h h' same) (at 7 h h' same)), all)
same_request (Faulted zone ReadOnly) (Faulted zone' Offline) more others fits too same all =
    absurd (omega (arith, at 1 (request_header (Faulted zone ReadOnly)) (request_header (Faulted zone' Offline)) same))
same_request (Faulted zone Offline) (Faulted zone' ReadOnly) more others fits too same all =
    absurd (omega (arith, at 1 (request_header (Faulted zone Offline)) (request_header (Faulted zone' ReadOnly)) same))
same_request (Drained turns) (Drained turns') more others fits too same all =
    let h = request_header (Drained turns) in
    let h' = request_header (Drained turns') in
    (ap Drained (four_back turns turns' fits too (at 4 h h' same) (at 5 h h' same) (at 6 h h' same) (at 7 h h' same)), all)
same_request Saved Saved more others fits too same all = (refl, all)
same_request r s more others fits too same all = absurd (omega (arith, at 0 (request_header r) (request_header s) same))

pub frames_read_back : FramesReadBack
frames_read_back r s more others fits too same =
    let regrouped : request_header r ++ (request_body r ++ more) ≡ request_header s ++ (request_body s ++ others) =
    sym (append_assoc (request_header r) (request_body r) more) ∙ same ∙ append_assoc (request_header s) (request_body s) others in
    let headers : request_header r ≡ request_header s =
    sym (take_at (request_header r) (request_body r ++ more) 16 (header_length r)) ∙ ap (take 16) regrouped
    ∙ take_at (request_header s) (request_body s ++ others) 16 (header_length s) in
    let behind : request_body r ++ more ≡ request_body s ++ others =
    sym (drop_at (request_header r) (request_body r ++ more) 16 (header_length r)) ∙ ap (drop 16) regrouped
    ∙ drop_at (request_header s) (request_body s ++ others) 16 (header_length s) in
    same_request r s more others fits too headers behind

-- ---- what begins with a frame is no rest

-- the length of a frame is told by its front
pub told_length : (r : ToldRequest) (more : List ℕ) → Fits r → frame_length (request_frame r ++ more) ≡ length (request_frame r)
told_length (Submitted queue entry input) more fits =
    omega (arith, fits.1, fits.2, length-append entry input)
told_length (Turned run) more fits = refl
told_length (Faulted zone state) more fits = refl
told_length (Drained turns) more fits = refl
told_length Saved more fits = refl

short_of_itself : (r : ToldRequest) (more : List ℕ) → Fits r
    → (length (request_frame r ++ more) < 16) ⊎ (length (request_frame r ++ more) < frame_length (request_frame r ++ more)) → ⊥
short_of_itself r more fits (inl short) =
    omega (arith, short, header_length r, length-append (request_frame r) more, length-append (request_header r) (request_body r))
short_of_itself r more fits (inr short) = omega (arith, short, told_length r more fits, length-append (request_frame r) more)

no_rest : (r : ToldRequest) (more : List ℕ) → Fits r → IsRest (request_frame r ++ more) → ⊥
no_rest r more fits (inl partial) = short_of_itself r more fits partial.short
no_rest r more fits (inr wrong) =
    let front : take 16 (request_frame r ++ more) ≡ request_header r =
    ap (take 16) (append_assoc (request_header r) (request_body r) more) ∙ take_at (request_header r) (request_body r ++ more) 16 (header_length r) in
    let there : IsFirstWrong (request_header r) wrong.0 = subst (λ (h : List ℕ). IsFirstWrong h wrong.0) front wrong.1 in
    there.wrong (is_right r fits wrong.0 there.within)

-- ---- a stream splits in one way

grouped : (r : ToldRequest) (requests : List ToldRequest) (rest : List ℕ)
    → flat_map request_frame (r ∷ requests) ++ rest ≡ request_frame r ++ (flat_map request_frame requests ++ rest)
grouped r requests rest = append_assoc (request_frame r) (flat_map request_frame requests) rest

splits : (first others : List ToldRequest) (rest left : List ℕ) → AllByRecursion Fits first → AllByRecursion Fits others → IsRest rest → IsRest left
    → flat_map request_frame first ++ rest ≡ flat_map request_frame others ++ left → (first ≡ others) × (rest ≡ left)
splits [] [] rest left fit too a b same = (refl, same)
splits (r ∷ first) [] rest left fit too a b same =
    absurd (no_rest r (flat_map request_frame first ++ rest) fit.0 (subst IsRest (sym same ∙ grouped r first rest) b))
splits [] (s ∷ others) rest left fit too a b same =
    absurd (no_rest s (flat_map request_frame others ++ left) too.0 (subst IsRest (same ∙ grouped s others left) a))
splits (r ∷ first) (s ∷ others) rest left fit too a b same =
    let front = frames_read_back r s (flat_map request_frame first ++ rest) (flat_map request_frame others ++ left) fit.0 too.0
    (sym (grouped r first rest) ∙ same ∙ grouped s others left) in
    let later = splits first others rest left fit.1 too.1 a b front.1 in
    (ap (λ (x : ToldRequest). x ∷ first) front.0 ∙ ap (λ (xs : List ToldRequest). s ∷ xs) later.0, later.1)

pub streams_split_in_one_way : StreamsSplitInOneWay
streams_split_in_one_way stream first others rest left a b = splits first others rest left a.each b.each a.behind_them b.behind_them (sym a.whole ∙ b.whole)
