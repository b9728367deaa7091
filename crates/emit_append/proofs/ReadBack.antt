-- Blocks of frames and zeros are read as the records, and so packed frames read back.
use Rattle.std.proofs.Common.{◌≡◌, ℕ, zero, suc, ◌+◌, ◌-◌, ◌*◌, ◌/◌, ◌^◌, ◌≤◌, ◌<◌, List, [], ◌∷◌, ◌++◌, length, map, take, drop, replicate, Ok, refl, ap, sym, ◌∙◌, arith, rules, length-append, append_assoc, ⊎_elim}
use Rattle.std.specs.List.{AllByRecursion, concat, flat_map}
use Rattle.std.proofs.lemmas.Bool.{cases_lt}
use Rattle.std.proofs.lemmas.Bool.Decides.{nat_tests}
use Rattle.std.proofs.lemmas.Grind.{flat_map-append}
use Rattle.std.proofs.lemmas.List.{drop-drop, drop_at, take_at}
use Rattle.std.proofs.Math.Nat.{mul-div_cancel, suc-mul}
use Rattle.byteorder.specs.Endian.{little_number}
use Rattle.byteorder.specs.Numbers.{little_number-reads_back}
use Rattle.common_definitions.specs.Readings.{with_front}
use Rattle.program_interface.specs.Frame.{frame, frames}
use Rattle.emit_append.specs.PackedLaw.{FitBlock}
use Rattle.common_definitions.specs.Bytes.{padded}
use Rattle.common_definitions.proofs.Proved.{all_append, length-padded}
use Rattle.emit_append.specs.Packing.{Layout, behind, beginning, laid_out, packed}
use Rattle.emit_append.specs.Unpacking.{AreFrames, PackedFramesReadBack, output_block_at, output_blocks_at, frame_length, unpacked, zeros_at}
use Rattle.emit_append.proofs.Layouts.{laid-behind, laid-beginning}
use Rattle.emit_append.proofs.FramesRead.{block-frame, block-zeros}

abbrev HasBytes : List ℕ → Type 0
HasBytes bytes = 0 < length bytes

-- a record that a frame can hold
abbrev IsRecord : List ℕ → Type 0
IsRecord bytes = HasBytes bytes × (length bytes < 2 ^ 16)

abbrev AreRecords : List (List ℕ) → Type 0
AreRecords records = AllByRecursion IsRecord records

pub front_two : (low high : ℕ) (rest : List ℕ) → frame_length (low ∷ high ∷ rest) ≡ little_number 2 (low ∷ high ∷ rest)
front_two low high rest = search (rules, nat_tests)

no_frame : (count : ℕ) → frame_length (replicate count 0) ≡ 0
no_frame zero = refl
no_frame (suc zero) = refl
no_frame (suc (suc count)) = front_two 0 0 (replicate count 0)

zeros-read : (at count : ℕ) → zeros_at at (replicate count 0) ≡ Ok []
zeros-read at zero = refl
zeros-read at (suc count) = zeros-read (at + 1) count

front_length : (bytes rest : List ℕ) → length bytes < 2 ^ 16 → frame_length (frame bytes ++ rest) ≡ length bytes
front_length bytes rest small = front_two _ _ (bytes ++ rest) ∙ little_number-reads_back 2 (length bytes) (bytes ++ rest) small

-- a frame in front, and then what is read after it
frame-read : (at : ℕ) (bytes rest : List ℕ) → 0 < length bytes → length bytes < 2 ^ 16 →
    output_block_at at (frame bytes ++ rest) ≡ with_front (bytes ∷ []) (output_block_at (at + (2 + length bytes)) rest)
frame-read at bytes rest some small =
    let front = front_length bytes rest small in
    let long : 2 + length bytes ≤ length (frame bytes ++ rest) = omega (arith, length-append bytes rest) in
    let one = block-frame at (frame bytes ++ rest) (rw front some) (rw front long) in
    let whole : take (length bytes) (bytes ++ rest) ≡ bytes = take_at bytes rest (length bytes) refl in
    let after : drop (2 + length bytes) (frame bytes ++ rest) ≡ rest = sym (drop-drop (length bytes) 2 (frame bytes ++ rest)) ∙ drop_at bytes rest (length bytes) refl in
    (rw front at one)
    ∙ ap (λ b. with_front (b ∷ []) (output_block_at (at + (2 + length bytes)) (drop (2 + length bytes) (frame bytes ++ rest)))) whole
    ∙ ap (λ left. with_front (bytes ∷ []) (output_block_at (at + (2 + length bytes)) left)) after

group-read : (at count : ℕ) (records : List (List ℕ)) → AreRecords records → output_block_at at (frames records ++ replicate count 0) ≡ Ok records
group-read at count [] are = block-zeros at (replicate count 0) (no_frame count) ∙ zeros-read at count
group-read at count (bytes ∷ records) are =
    ap (output_block_at at) (append_assoc (frame bytes) (frames records) (replicate count 0))
    ∙ frame-read at bytes (frames records ++ replicate count 0) are.0.0 are.0.1
    ∙ ap (with_front (bytes ∷ [])) (group-read (at + (2 + length bytes)) count records are.1)

-- Groups of records as they are laid out: the records in the room that is left, and those of each block.
record Grouped (block room : ℕ) (groups : List (List (List ℕ))) (layout : Layout) : Type 0 where
  front : List (List ℕ)
  parts : List (List (List ℕ))
  in_order : front ++ flat_map (λ part. part) parts ≡ flat_map (λ group. group) groups
  is : layout ≡ record { begun = frames front; later = map frames parts }
  in_room : length (frames front) ≤ room
  fits : AllByRecursion (λ part. length (frames part) ≤ block) parts
  front_some : AllByRecursion HasBytes front
  some : AllByRecursion (AllByRecursion HasBytes) parts

grouped-behind : (block room : ℕ) (group : List (List ℕ)) (groups : List (List (List ℕ))) (rest : Layout) → AllByRecursion HasBytes group → length (frames group) ≤ room →
    Grouped block (room - length (frames group)) groups rest → Grouped block room (group ∷ groups) (behind (frames group) rest)
grouped-behind block room group groups rest some fits d =
    let joined : frames (group ++ d.front) ≡ frames group ++ frames d.front = flat_map-append frame group d.front in
    record {
      front = group ++ d.front;
      parts = d.parts;
      in_order = append_assoc group d.front (flat_map (λ part. part) d.parts) ∙ ap (λ rs. group ++ rs) d.in_order;
      is = ap (behind (frames group)) d.is ∙ ap (λ bytes. record { begun = bytes; later = map frames d.parts }) (sym joined);
      in_room = omega (arith, ap length joined, length-append (frames group) (frames d.front), d.in_room);
      fits = d.fits;
      front_some = all_append HasBytes group d.front some d.front_some;
      some = d.some;
    }

grouped-beginning : (block room : ℕ) (group : List (List ℕ)) (groups : List (List (List ℕ))) (rest : Layout) → AllByRecursion HasBytes group → length (frames group) ≤ block →
    Grouped block (block - length (frames group)) groups rest → Grouped block room (group ∷ groups) (beginning (frames group) rest)
grouped-beginning block room group groups rest some fits d =
    let joined : frames (group ++ d.front) ≡ frames group ++ frames d.front = flat_map-append frame group d.front in
    record {
      front = [];
      parts = (group ++ d.front) ∷ d.parts;
      in_order = append_assoc group d.front (flat_map (λ part. part) d.parts) ∙ ap (λ rs. group ++ rs) d.in_order;
      is = ap (beginning (frames group)) d.is ∙ ap (λ bytes. record { begun = []; later = bytes ∷ map frames d.parts }) (sym joined);
      in_room = omega arith;
      fits = (omega (arith, ap length joined, length-append (frames group) (frames d.front), d.in_room), d.fits);
      front_some = tt;
      some = (all_append HasBytes group d.front some d.front_some, d.some);
    }

grouped : (block room : ℕ) (groups : List (List (List ℕ))) → AllByRecursion (AllByRecursion HasBytes) groups → FitBlock block (map frames groups) →
    Grouped block room groups (laid_out block room (map frames groups))
grouped block room [] some fit = record { front = []; parts = []; in_order = refl; is = refl; in_room = omega arith; fits = tt; front_some = tt; some = tt }
grouped block room (g ∷ gs) some fit =
    ⊎_elim
    (λ large. rw (laid-beginning block room (frames g) (map frames gs) large) (grouped-beginning block room g gs _ some.0 fit.0 (grouped block (block - length (frames g)) gs some.1 fit.1)))
    (λ small. rw (laid-behind block room (frames g) (map frames gs) small) (grouped-behind block room g gs _ some.0 small (grouped block (room - length (frames g)) gs some.1 fit.1)))
    (cases_lt room (length (frames g)))

-- where there is no room, no frame stands in it
none_in_front : (records : List (List ℕ)) → length (frames records) ≤ 0 → records ≡ []
none_in_front [] none = refl
none_in_front (bytes ∷ records) none = absurd (omega arith)

-- blocks of frames, one after another
blocks-read : (block at : ℕ) (parts : List (List (List ℕ))) → AllByRecursion AreRecords parts → AllByRecursion (λ part. length (frames part) ≤ block) parts →
    output_blocks_at (length parts) block at (concat (map (padded block) (map frames parts))) ≡ Ok (flat_map (λ part. part) parts)
unfolding output_blocks_at
blocks-read block at [] are fits = refl
blocks-read block at (part ∷ parts) are fits =
    let bytes = frames part in
    let rest = concat (map (padded block) (map frames parts)) in
    let long = length-padded block bytes fits.0 in
    let first : output_block_at at (take block (padded block bytes ++ rest)) ≡ Ok part = ap (output_block_at at) (take_at (padded block bytes) rest block long) ∙ group-read at (block - length bytes) part are.0 in
    let others : output_blocks_at (length parts) block (at + block) (drop block (padded block bytes ++ rest)) ≡ Ok (flat_map (λ p. p) parts) =
    ap (output_blocks_at (length parts) block (at + block)) (drop_at (padded block bytes) rest block long) ∙ blocks-read block (at + block) parts are.1 fits.1 in
    rw (first, others) refl

pub length-blocks : (block : ℕ) (parts : List (List (List ℕ))) → AllByRecursion (λ part. length (frames part) ≤ block) parts →
    length (concat (map (padded block) (map frames parts))) ≡ length parts * block
length-blocks block [] fits = omega arith
length-blocks block (part ∷ parts) fits =
    omega (arith, length-append (padded block (frames part)) (concat (map (padded block) (map frames parts))), length-padded block (frames part) fits.0, length-blocks block parts fits.1, suc-mul (length parts) block)

-- as many blocks as parts
pub blocks-counted : (block : ℕ) (parts : List (List (List ℕ))) → 0 < block → AllByRecursion (λ part. length (frames part) ≤ block) parts →
    length (concat (map (padded block) (map frames parts))) / block ≡ length parts
blocks-counted block parts positive fits = ap (λ n. n / block) (length-blocks block parts fits) ∙ mul-div_cancel (length parts) positive

-- a record is shorter than its part
bounded : (records : List (List ℕ)) → AllByRecursion HasBytes records → length (frames records) < 2 ^ 16 → AreRecords records
bounded [] some small = tt
bounded (bytes ∷ records) some small =
    let whole = length-append bytes (frames records) in
    ((some.0, omega (arith, whole)), bounded records some.1 (omega (arith, whole)))

all_bounded : (block : ℕ) (parts : List (List (List ℕ))) → block < 2 ^ 16 → AllByRecursion (AllByRecursion HasBytes) parts → AllByRecursion (λ part. length (frames part) ≤ block) parts →
    AllByRecursion AreRecords parts
all_bounded block [] small some fits = tt
all_bounded block (part ∷ parts) small some fits = (bounded part some.0 (omega (arith, fits.0)), all_bounded block parts small some.1 fits.1)

-- blocks of frames and zeros read as the records
pub frames-read : (block : ℕ) (bytes : List ℕ) (records : List (List ℕ)) → 0 < block → block < 2 ^ 16 → AreFrames block records bytes → unpacked block bytes ≡ Ok records
frames-read block bytes records positive small d =
    let blocks = concat (map (padded block) (map frames d.parts)) in
    let are = all_bounded block d.parts small d.some d.fits in
    ap (unpacked block) d.rest_is_zeros ∙ ap (λ n. output_blocks_at n block 0 blocks) (blocks-counted block d.parts positive d.fits) ∙ blocks-read block 0 d.parts are d.fits ∙ ap Ok d.in_order

pub packed_frames_read_back : PackedFramesReadBack
packed_frames_read_back block groups positive small some fit =
    let d = grouped block 0 groups some fit in
    frames-read block (concat (packed block (map frames groups))) (flat_map (λ records. records) groups) positive small (record {
      parts = d.parts;
      in_order = rw (none_in_front d.front d.in_room) at d.in_order;
      some = d.some;
      fits = d.fits;
      rest_is_zeros = ap (λ l. concat (map (padded block) l.later)) d.is;
    })
