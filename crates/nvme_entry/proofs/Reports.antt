-- What a report holds, and that it is written so.
use Rattle.std.proofs.Common.{◌≡◌, ℕ, ◌+◌, ◌-◌, ◌*◌, ◌/◌, ◌^◌, ◌≤◌, ◌<◌, min, Bool, true, false, cond, List, ◌++◌, length, get_or, map, take, drop, replicate, refl, ap, sym, ◌∙◌, arith, append_assoc, length-append, ⊎_elim}
use Rattle.std.specs.List.{All, enumerate_from, flat_map}
use Rattle.std.proofs.lemmas.Bool.{cases_lt}
use Rattle.std.proofs.lemmas.List.{take_all, drop_all, drop_at, take_min, drop-drop, length-drop, length-take, length-take-le, nil_from_length}
use Rattle.std.proofs.lemmas.List.FromFn.{length-enumerate_from}
use Rattle.std.proofs.lemmas.List.Sums.{count_by-le-length, length-filter}
use Rattle.byteorder.specs.Endian.{little_bytes}
use Rattle.byteorder.specs.Numbers.{little_number-reads_back}
use Rattle.zone_state.specs.Zone.{CountedZone}
use Rattle.common_definitions.specs.Bytes.{pieces}
use Rattle.common_definitions.proofs.Proved.{length-flat_map-each, pieces-flat_map}
use Rattle.nvme_entry.specs.Filter.{lists}
use Rattle.nvme_entry.specs.declared.filter.ZoneFilter.{ZoneFilter}
use Rattle.nvme_entry.specs.Report.{descriptor_at, fitting, report_header, listed, matching, report, listed_zones}
use Rattle.nvme_entry.specs.ReportLaws.{ReportsGiveWhatMatches, ReportsZones, number_in}
use Rattle.nvme_entry.proofs.Listings.{length-descriptor, length-header, length-whole, whole}

length-each : (size : ℕ) (zone : ℕ × CountedZone) → length (descriptor_at size zone) ≡ 64
length-each size zone = length-descriptor zone.1 (zone.0 * size)

told : {X : Type 0} (partial : Bool) (room : ℕ) (xs : List X) → cond partial (min room (length xs)) (length xs) ≡ length (cond partial (take room xs) xs)
told true room xs = sym (length-take room xs)
told false room xs = refl

length-second : {X : Type 0} (f : X → List ℕ) → ((x : X) → length (f x) ≡ 64) → (output : List ℕ) (start : ℕ) (xs : List X) → start ≤ length output
    → length (take start output ++ whole f (length output - start) xs) ≡ length output
length-second f each output start xs inside =
    omega (arith, length-append (take start output) (whole f (length output - start) xs), length-take-le start output inside, length-whole f each (length output - start) xs)

behind-short : {X : Type 0} (f : X → List ℕ) → ((x : X) → length (f x) ≡ 64) → (output : List ℕ) (start : ℕ) (xs : List X) → start ≡ min (length output) 64 → length output < 64
    → drop 64 (take start output ++ whole f (length output - start) xs) ≡ whole f (length output - 64) xs
behind-short f each output start xs is short =
    let second = take start output ++ whole f (length output - start) xs in
    let few : length second ≤ 64 = omega (arith, length-second f each output start xs (omega arith)) in
    let none : length (whole f (length output - 64) xs) ≡ 0 = omega (arith, length-whole f each (length output - 64) xs) in
    drop_all 64 second few ∙ sym (nil_from_length (whole f (length output - 64) xs) none)

behind-long : {X : Type 0} (f : X → List ℕ) (output : List ℕ) (start : ℕ) (xs : List X) → start ≡ min (length output) 64 → 64 ≤ length output
    → drop 64 (take start output ++ whole f (length output - start) xs) ≡ whole f (length output - 64) xs
behind-long f output start xs is enough =
    let all : start ≡ 64 = omega arith in
    let inside : start ≤ length output = omega arith in
    drop_at (take start output) (whole f (length output - start) xs) 64 (length-take-le start output inside ∙ all)
    ∙ ap (λ (k : ℕ). whole f (length output - k) xs) all

behind-header : {X : Type 0} (f : X → List ℕ) → ((x : X) → length (f x) ≡ 64) → (output : List ℕ) (start : ℕ) (xs : List X) → start ≡ min (length output) 64
    → drop 64 (take start output ++ whole f (length output - start) xs) ≡ whole f (length output - 64) xs
behind-header f each output start xs is =
    ⊎_elim (λ short. behind-short f each output start xs is short) (λ enough. behind-long f output start xs is enough) (cases_lt (length output) 64)

-- the two parts, written one after the other, are the report
pub report-written : (output second new : List ℕ) (zones : List CountedZone) (first size : ℕ) (filter : ZoneFilter) (partial : Bool) (start room number : ℕ)
    → start ≡ min (length output) 64
    → room ≡ (length output - start) / 64
    → second ≡ take start output ++ listed size (length output - start) (matching zones first filter)
    → number ≡ cond partial (min room (length (matching zones first filter))) (length (matching zones first filter))
    → new ≡ take (length second) (report_header number) ++ drop 64 second
    → new ≡ report (length output) zones first size filter partial
unfolding report
report-written output second new zones first size filter partial start room number is_start is_room is_second is_number is_new =
    let n = length output in
    let f = descriptor_at size in
    let found = matching zones first filter in
    let behind : n - start ≡ n - 64 = omega arith in
    let inside : start ≤ n = omega arith in
    let places : room ≡ (n - 64) / 64 = is_room ∙ ap (λ (k : ℕ). k / 64) behind in
    let counted : number ≡ length (cond partial (fitting (n - 64) found) found) =
    is_number ∙ (ap (λ (k : ℕ). cond partial (min k (length found)) (length found)) places ∙ told partial ((n - 64) / 64) found) in
    let long : length second ≡ n = ap (λ (ys : List ℕ). length ys) is_second ∙ length-second f (length-each size) output start found inside in
    let back : drop 64 second ≡ listed size (n - 64) found = ap (λ (ys : List ℕ). drop 64 ys) is_second ∙ behind-header f (length-each size) output start found is_start in
    is_new
    ∙ (ap (λ (k : ℕ). take k (report_header number) ++ drop 64 second) long
    ∙ (ap (λ (k : ℕ). take n (report_header k) ++ drop 64 second) counted
    ∙ ap (λ (ys : List ℕ). take n (report_header (length (cond partial (fitting (n - 64) found) found))) ++ ys) back))

-- the number of zones that a report tells
abbrev told_by : ℕ → List (ℕ × CountedZone) → Bool → ℕ
told_by bytes found partial = length (cond partial (fitting (bytes - 64) found) found)

report-parts : (bytes : ℕ) (zones : List CountedZone) (first size : ℕ) (filter : ZoneFilter) (partial : Bool) → 64 ≤ bytes
    → report bytes zones first size filter partial ≡ report_header (told_by bytes (matching zones first filter) partial) ++ whole (descriptor_at size) (bytes - 64) (matching zones first filter)
unfolding report
report-parts bytes zones first size filter partial long =
    let number = told_by bytes (matching zones first filter) partial in
    let fits : length (report_header number) ≤ bytes = omega (arith, length-header number) in
    ap (λ (ys : List ℕ). ys ++ whole (descriptor_at size) (bytes - 64) (matching zones first filter)) (take_all bytes (report_header number) fits)

-- a report has the length of the transfer
length-report : (bytes : ℕ) (zones : List CountedZone) (first size : ℕ) (filter : ZoneFilter) (partial : Bool) → length (report bytes zones first size filter partial) ≡ bytes
unfolding report
length-report bytes zones first size filter partial =
    let found = matching zones first filter in
    let front = take bytes (report_header (told_by bytes found partial)) in
    let behind = whole (descriptor_at size) (bytes - 64) found in
    omega (arith, length-append front behind, length-take bytes (report_header (told_by bytes found partial)), length-header (told_by bytes found partial), length-whole (descriptor_at size) (length-each size) (bytes - 64) found)

number-in-header : (number : ℕ) (rest : List ℕ) → number < 2 ^ 64 → number_in (report_header number ++ rest) ≡ number
unfolding report_header
number-in-header number rest small =
    ap (λ (ys : List ℕ). number_in ys) (append_assoc (little_bytes 8 number) (replicate 56 0) rest)
    ∙ little_number-reads_back 8 number (replicate 56 0 ++ rest) small

length-listed_zones : (filter : ZoneFilter) (zones : List (ℕ × CountedZone)) → length (listed_zones filter zones) ≤ length zones
length-listed_zones filter zones =
    let test = λ (zone : ℕ × CountedZone). lists filter zone.1.state in
    omega (arith, length-filter test zones, count_by-le-length test zones)

length-matching : (zones : List CountedZone) (first : ℕ) (filter : ZoneFilter) → length (matching zones first filter) ≤ length zones
length-matching zones first filter =
    omega (arith, length-listed_zones filter (enumerate_from first (drop first zones)), length-enumerate_from first (drop first zones), length-drop first zones)

told-few : {X : Type 0} (partial : Bool) (room : ℕ) (xs : List X) → length (cond partial (take room xs) xs) ≤ length xs
told-few true room xs = omega (arith, length-take room xs)
told-few false room xs = omega arith

-- what a host reads behind the header of a report of the zones found
tells : (bytes : ℕ) (partial : Bool) (size : ℕ) (found : List (ℕ × CountedZone)) (given : List ℕ) → 64 ≤ bytes → length found < 2 ^ 64
    → given ≡ report_header (told_by bytes found partial) ++ whole (descriptor_at size) (bytes - 64) found
    → length given ≡ bytes
    → ReportsZones given partial size (min ((bytes - 64) / 64) (length found)) found
tells bytes partial size found given long few parts same_length =
    let f = descriptor_at size in
    let room = (bytes - 64) / 64 in
    let number = told_by bytes found partial in
    let shown = take room found in
    let zeros : List ℕ = replicate (bytes - 64 - length (flat_map f shown)) 0 in
    let small : number < 2 ^ 64 = omega (arith, told-few partial room found) in
    let back : drop 64 given ≡ flat_map f shown ++ zeros = ap (λ (ys : List ℕ). drop 64 ys) parts ∙ drop_at (report_header number) (whole f (bytes - 64) found) 64 (length-header number) in
    let count : length shown ≡ min room (length found) = length-take room found in
    let each : All (λ zone. length (f zone) ≡ 64) shown = λ k d h. length-each size (get_or shown k d) in
    let size_shown : length (flat_map f shown) ≡ 64 * min room (length found) = omega (arith, length-flat_map-each f 64 shown each, count) in
    let left : bytes - 64 - length (flat_map f shown) ≡ length given - (64 + 64 * min room (length found)) = omega arith in
    record {
      number = ap number_in parts ∙ (number-in-header number (whole f (bytes - 64) found) small ∙ sym (told partial room found));
      descriptors =
          ap (λ (ys : List ℕ). pieces 64 (min room (length found)) ys) back
          ∙ (ap (λ (k : ℕ). pieces 64 k (flat_map f shown ++ zeros)) (sym count)
          ∙ (pieces-flat_map f 64 shown zeros each ∙ ap (λ (zs : List (ℕ × CountedZone)). map f zs) (sym (take_min room found))));
      rest =
          sym (drop-drop (64 * min room (length found)) 64 given)
          ∙ (ap (λ (ys : List ℕ). drop (64 * min room (length found)) ys) back
          ∙ (drop_at (flat_map f shown) zeros (64 * min room (length found)) size_shown ∙ ap (λ (k : ℕ). replicate k 0) left));
    }

pub reports_give_what_matches : ReportsGiveWhatMatches
reports_give_what_matches bytes zones first size filter partial =
    let found = matching zones first filter in
    let same_length = length-report bytes zones first size filter partial in (
      same_length,
      λ long few.
          let few_found : length found < 2 ^ 64 = omega (arith, length-matching zones first filter) in
          tells bytes partial size found (report bytes zones first size filter partial) long few_found (report-parts bytes zones first size filter partial long) same_length,
    )
