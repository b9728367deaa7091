-- What frames of batches stand for.
use Rattle.std.proofs.Common.{◌≡◌, inl, inr, ◌≤◌, ◌+◌, ◌%◌, ℕ, List, [], ◌∷◌, ◌++◌, length, take, drop, refl, sym, ◌∙◌, ap, subst, arith, append_assoc, length-append, length-take}
use Rattle.std.proofs.lemmas.Bool.{cases_lt}
use Rattle.std.proofs.lemmas.List.{take_at, drop_at, take-take, append-nil}
use Rattle.durable_machine.specs.Events.{spelled, AreEvents, BeginsNoEvent}
use Rattle.durable_machine.specs.Journal.{IsFrame, AreFrames, BeginsBatch, BeginsNoBatch, BeginsClosed, IsEnd, IsDamage, IsDamagedAt, HasBatches, StandsFor, payload_length}
use Rattle.durable_machine.proofs.Sealing.{begins_closed, closed_first, one_length}
use Rattle.durable_machine.proofs.Spelling.{closed, one_list}

pub length-frame : (at : ℕ) (events : List (List ℕ)) (frame : List ℕ) (is : IsFrame at events frame) → length frame ≡ 4096 + payload_length (length (is.seal ++ spelled events))
length-frame at events frame is =
    omega (arith, ap length is.parts, length-append is.sector (is.seal ++ spelled events ++ 0 ∷ is.padding), is.size, is.is_open.size)

frame_whole : (at : ℕ) (events : List (List ℕ)) (frame : List ℕ) → IsFrame at events frame → length frame % 4096 ≡ 0
frame_whole at events frame is = omega (arith, length-frame at events frame is)

pub frames_whole : (at : ℕ) (batches : List (List (List ℕ))) (frames : List ℕ) → AreFrames at batches frames → length frames % 4096 ≡ 0
frames_whole at [] frames are = omega (arith, ap length are)
frames_whole at (batch ∷ batches) frames are =
    omega (arith, ap length are.4, length-append are.0 are.1, frame_whole at batch are.0 are.2, frames_whole (at + length are.0) batches are.1 are.3)

pub frames-append : (at : ℕ) (before after : List (List (List ℕ))) (xs ys : List ℕ) → AreFrames at before xs → AreFrames (at + length xs) after ys → AreFrames at (before ++ after) (xs ++ ys)
frames-append at [] after xs ys a b =
    let begins : at + length xs ≡ at = omega (arith, ap length a) in
    subst (λ (l : List ℕ). AreFrames at after (l ++ ys)) (sym a) (subst (λ (n : ℕ). AreFrames n after ys) begins b)
frames-append at (batch ∷ before) after xs ys a b =
    let begins : at + length xs ≡ at + length a.0 + length a.1 = omega (arith, ap length a.4, length-append a.0 a.1) in (
      a.0,
      a.1 ++ ys,
      a.2,
      frames-append (at + length a.0) before after a.1 ys a.3 (subst (λ (n : ℕ). AreFrames n after ys) begins b),
      ap (λ (l : List ℕ). l ++ ys) a.4 ∙ append_assoc a.0 a.1 ys,
    )

-- the frames of one batch
pub one_frame : (at : ℕ) (events : List (List ℕ)) (frame : List ℕ) → IsFrame at events frame → AreFrames at (events ∷ []) frame
one_frame at events frame is = (frame, [], is, refl, sym (append-nil frame))

-- and of one more
pub one_more_frame : (at gate : ℕ) (before : List (List (List ℕ))) (events : List (List ℕ)) (frames frame : List ℕ) → AreFrames at before frames → gate ≡ at + length frames
    → IsFrame gate events frame → AreFrames at (before ++ events ∷ []) (frames ++ frame)
one_more_frame at gate before events frames frame are place is =
    frames-append at before (events ∷ []) frames frame are (one_frame (at + length frames) events frame (subst (λ (n : ℕ). IsFrame n events frame) place is))

-- what stands after the gate's sector
pub payload_of : (at : ℕ) (events : List (List ℕ)) (frame rest : List ℕ) (is : IsFrame at events frame) → drop 4096 (frame ++ rest) ≡ is.seal ++ (spelled events ++ 0 ∷ (is.padding ++ rest))
payload_of at events frame rest is =
    ap (λ (l : List ℕ). drop 4096 (l ++ rest)) is.parts
    ∙ ap (λ (l : List ℕ). drop 4096 l) (append_assoc is.sector (is.seal ++ spelled events ++ 0 ∷ is.padding) rest)
    ∙ drop_at is.sector ((is.seal ++ spelled events ++ 0 ∷ is.padding) ++ rest) 4096 is.is_open.size
    ∙ append_assoc (is.seal ++ spelled events) (0 ∷ is.padding) rest
    ∙ append_assoc is.seal (spelled events) (0 ∷ (is.padding ++ rest))

-- no event begins with the 0 after them
ended : (rest : List ℕ) → BeginsNoEvent (0 ∷ rest)
ended rest = closed 0 rest (omega arith)

-- a frame has the events that are read after its seal
pub same_events : (at : ℕ) (events read : List (List ℕ)) (rest payload body : List ℕ) (frame : List ℕ) (n taken : ℕ) (is : IsFrame at events frame) → payload ≡ is.seal ++ (spelled events ++ 0 ∷ rest) → n ≡ length is.seal
    → body ≡ drop n payload → AreEvents read taken body → events ≡ read
same_events at events read rest payload body frame n taken is parts size is_body are =
    one_list events read (0 ∷ rest) are.rest is.sized are.sized (ended rest) are.nothing
    (sym (is_body ∙ ap (λ (l : List ℕ). drop n l) parts ∙ drop_at is.seal (spelled events ++ 0 ∷ rest) n (sym size)) ∙ are.parts)

-- a frame is read in one way
pub one_batch : (at : ℕ) (a b : List (List ℕ)) (f g x y : List ℕ) → IsFrame at a f → IsFrame at b g → f ++ x ≡ g ++ y → (a ≡ b) × (length f ≡ length g) × (x ≡ y)
one_batch at a b f g x y is_f is_g is =
    let tail_f = 0 ∷ (is_f.padding ++ x) in
    let tail_g = 0 ∷ (is_g.padding ++ y) in
    let payloads : is_f.seal ++ (spelled a ++ tail_f) ≡ is_g.seal ++ (spelled b ++ tail_g) = sym (payload_of at a f x is_f) ∙ ap (λ (l : List ℕ). drop 4096 l) is ∙ payload_of at b g y is_g in
    let seals : length is_f.seal ≡ length is_g.seal = one_length at a b is_f.seal is_g.seal tail_f tail_g is_f.sealed is_g.sealed payloads in
    let bodies : spelled a ++ tail_f ≡ spelled b ++ tail_g =
    sym (drop_at is_f.seal (spelled a ++ tail_f) (length is_f.seal) refl)
    ∙ ap (λ (l : List ℕ). drop (length is_f.seal) l) payloads
    ∙ drop_at is_g.seal (spelled b ++ tail_g) (length is_f.seal) (sym seals) in
    let same : a ≡ b = one_list a b tail_f tail_g is_f.sized is_g.sized (ended (is_f.padding ++ x)) (ended (is_g.padding ++ y)) bodies in
    let told : length (is_f.seal ++ spelled a) ≡ length (is_g.seal ++ spelled b) =
    omega (arith, length-append is_f.seal (spelled a), length-append is_g.seal (spelled b), seals, ap (λ (es : List (List ℕ)). length (spelled es)) same) in
    let size : length f ≡ length g =
    length-frame at a f is_f ∙ ap (λ (n : ℕ). 4096 + payload_length n) told ∙ sym (length-frame at b g is_g) in
    (same, size, sym (drop_at f x (length f) refl) ∙ ap (λ (l : List ℕ). drop (length f) l) is ∙ drop_at g y (length f) (sym size))

-- bytes stand for one list of batches, with one rest after them
pub one_list_of_batches : (at : ℕ) (cs bs : List (List (List ℕ))) (f g x y : List ℕ) (m n : ℕ) → AreFrames at cs f → AreFrames at bs g → BeginsNoBatch m x → BeginsNoBatch n y
    → m ≡ at + length f → n ≡ at + length g → f ++ x ≡ g ++ y → (cs ≡ bs) × (x ≡ y)
one_list_of_batches at [] [] f g x y m n ha hb nx ny pm pn is = (refl, ap (λ (l : List ℕ). l ++ x) (sym ha) ∙ is ∙ ap (λ (l : List ℕ). l ++ y) hb)
one_list_of_batches at [] (b ∷ bs) f g x y m n ha hb nx ny pm pn is =
    let place : at ≡ m = omega (arith, pm, ap length ha) in
    absurd (nx b (hb.1 ++ y) (record {
      frame = hb.0;
      is = subst (λ (k : ℕ). IsFrame k b hb.0) place hb.2;
      parts = ap (λ (l : List ℕ). l ++ x) (sym ha) ∙ is ∙ ap (λ (l : List ℕ). l ++ y) hb.4 ∙ append_assoc hb.0 hb.1 y;
    }))
one_list_of_batches at (a ∷ cs) [] f g x y m n ha hb nx ny pm pn is =
    let place : at ≡ n = omega (arith, pn, ap length hb) in
    absurd (ny a (ha.1 ++ x) (record {
      frame = ha.0;
      is = subst (λ (k : ℕ). IsFrame k a ha.0) place ha.2;
      parts = ap (λ (l : List ℕ). l ++ y) (sym hb) ∙ sym is ∙ ap (λ (l : List ℕ). l ++ x) ha.4 ∙ append_assoc ha.0 ha.1 x;
    }))
one_list_of_batches at (a ∷ cs) (b ∷ bs) f g x y m n ha hb nx ny pm pn is =
    let first = one_batch at a b ha.0 hb.0 (ha.1 ++ x) (hb.1 ++ y) ha.2 hb.2 (sym (append_assoc ha.0 ha.1 x) ∙ ap (λ (l : List ℕ). l ++ x) (sym ha.4) ∙ is ∙ ap (λ (l : List ℕ). l ++ y) hb.4 ∙ append_assoc hb.0 hb.1 y) in
    let rest = one_list_of_batches (at + length ha.0) cs bs ha.1 hb.1 x y m n ha.3 (subst (λ (k : ℕ). AreFrames (at + k) bs hb.1) (sym first.1) hb.3) nx ny
    (omega (arith, pm, ap length ha.4, length-append ha.0 ha.1)) (omega (arith, pn, first.1, ap length hb.4, length-append hb.0 hb.1)) first.2 in
    (cc (first.0, rest.0), rest.1)

-- and their frames end in one place
pub same_length : (at : ℕ) (bs : List (List (List ℕ))) (f g x y : List ℕ) → AreFrames at bs f → AreFrames at bs g → f ++ x ≡ g ++ y → length f ≡ length g
same_length at [] f g x y ha hb is = omega (arith, ap length ha, ap length hb)
same_length at (b ∷ bs) f g x y ha hb is =
    let first = one_batch at b b ha.0 hb.0 (ha.1 ++ x) (hb.1 ++ y) ha.2 hb.2 (sym (append_assoc ha.0 ha.1 x) ∙ ap (λ (l : List ℕ). l ++ x) (sym ha.4) ∙ is ∙ ap (λ (l : List ℕ). l ++ y) hb.4 ∙ append_assoc hb.0 hb.1 y) in
    let rest = same_length (at + length ha.0) bs ha.1 hb.1 x y ha.3 (subst (λ (k : ℕ). AreFrames (at + k) bs hb.1) (sym first.1) hb.3) first.2 in
    omega (arith, first.1, rest, ap length ha.4, ap length hb.4, length-append ha.0 ha.1, length-append hb.0 hb.1)

-- a batch takes more than one sector
pub too_few : (at : ℕ) (bytes : List ℕ) → length bytes ≤ 4096 → BeginsNoBatch at bytes
too_few at bytes short events rest begins =
    absurd (omega (arith, short, ap length begins.parts, length-append begins.frame rest, length-frame at events begins.frame begins.is))

-- and begins with a gate that isn't closed
pub begins_open : (at : ℕ) (events : List (List ℕ)) (rest bytes : List ℕ) → BeginsBatch at events rest bytes → BeginsClosed bytes → ⊥
begins_open at events rest bytes begins shut_gate =
    let frame = begins.is in
    let payload = frame.seal ++ spelled events ++ 0 ∷ frame.padding in
    frame.is_open.written
    (sym (take_at frame.sector (payload ++ rest) 4096 frame.is_open.size)
    ∙ ap (λ (l : List ℕ). take 4096 l) (sym (begins.parts ∙ ap (λ (l : List ℕ). l ++ rest) frame.parts ∙ append_assoc frame.sector payload rest))
    ∙ closed_first bytes shut_gate)

-- at the end stands none
pub no_further : (at : ℕ) (bytes : List ℕ) → IsEnd bytes → BeginsNoBatch at bytes
no_further at bytes (inl shut_gate) events rest begins = begins_open at events rest bytes begins shut_gate
no_further at bytes (inr short) events rest begins = too_few at bytes short events rest begins

-- an end that is cut short is an end
pub front_end : (n : ℕ) (bytes : List ℕ) → IsEnd bytes → IsEnd (take n bytes)
front_end n bytes (inl shut_gate) = elim (cases_lt n 4096) [
  | inl less ↦ inr (omega (arith, less, length-take n bytes))
  | inr more ↦ inl (begins_closed (take n bytes) (take-take 4096 n bytes more ∙ closed_first bytes shut_gate))
]
front_end n bytes (inr short) = inr (omega (arith, short, length-take n bytes))

-- a file stands for one list of batches
pub one_meaning : (front : List ℕ) (batches others : List (List (List ℕ))) (file : List ℕ) → StandsFor front batches file → StandsFor front others file → batches ≡ others
one_meaning front batches others file (m, a) (n, b) =
    let behind : a.frames ++ a.rest ≡ b.frames ++ b.rest =
    sym (drop_at front (a.frames ++ a.rest) (length front) refl)
    ∙ ap (λ (l : List ℕ). drop (length front) l) (sym (append_assoc front a.frames a.rest) ∙ sym a.parts ∙ b.parts ∙ append_assoc front b.frames b.rest)
    ∙ drop_at front (b.frames ++ b.rest) (length front) refl in
    (one_list_of_batches (length front) batches others a.frames b.frames a.rest b.rest (length front + length a.frames) (length front + length b.frames) a.are b.are
    (no_further (length front + length a.frames) a.rest a.last) (no_further (length front + length b.frames) b.rest b.last) refl refl behind).0

-- what no crash leaves stands for nothing
pub damaged_none : (front : List ℕ) (batches others : List (List (List ℕ))) (damaged end : ℕ) (file : List ℕ) → IsDamagedAt front batches damaged file → HasBatches front others end file → ⊥
damaged_none front batches others damaged end file a b =
    let behind : a.frames ++ a.rest ≡ b.frames ++ b.rest =
    sym (drop_at front (a.frames ++ a.rest) (length front) refl)
    ∙ ap (λ (l : List ℕ). drop (length front) l) (sym (append_assoc front a.frames a.rest) ∙ sym a.parts ∙ b.parts ∙ append_assoc front b.frames b.rest)
    ∙ drop_at front (b.frames ++ b.rest) (length front) refl in
    let same = one_list_of_batches (length front) batches others a.frames b.frames a.rest b.rest damaged (length front + length b.frames) a.are b.are
    a.damage.nothing (no_further (length front + length b.frames) b.rest b.last) (omega (arith, a.ends, length-append front a.frames)) refl behind in
    not_both damaged a.rest b.rest same.1 a.damage b.last
  where
    not_both : (at : ℕ) (x y : List ℕ) → x ≡ y → IsDamage at x → IsEnd y → ⊥
    not_both at x y same damage (inl shut_gate) = damage.not_closed (subst BeginsClosed (sym same) shut_gate)
    not_both at x y same damage (inr short) = absurd (omega (arith, ap length same, short, damage.longer))
