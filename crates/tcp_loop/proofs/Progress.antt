-- How many operations are left until a loop waits or ends.
use Rattle.std.proofs.Common.{ℕ, ◌≡◌, ◌≢◌, ◌≤◌, ◌<◌, ◌+◌, ◌-◌, Bool, true, false, List, ◌∷◌, if◌then◌else◌, ap, ⊎_elim, arith}
use Rattle.std.specs.Prelude.{zero, suc, refl}
use Rattle.std.proofs.lemmas.Bool.{cases_lt}
use Rattle.tcp_loop.specs.Trace.{Made, Trace}
use Rattle.tcp_loop.specs.Rounds.{flag}
use Rattle.tcp_loop.specs.Stages.{operation_of_call, operation_of_part}
use Rattle.tcp_loop.specs.Progress.{EndsRounds, Falls, most, one_if, open_below, open_but, since_wait, since_wait_by, to_begin, to_call, to_close, to_commit, to_fail, to_print, to_read, to_take, to_time, to_write}
use Rattle.tcp_loop.specs.declared.operation.Operation.{Operation}
use Rattle.tcp_loop.specs.declared.operation.Operation.TheVariants.{Accept, Close, Create, Discard, End, Fsync, Ftruncate, Log}
use Rattle.tcp_loop.specs.declared.operation.Operation.TheVariants.{Now, Poll, Pwrite, Read, Rename, Signal, SyncFolder, Write}
use Rattle.tcp_loop.specs.declared.stage.Part.{Part}
use Rattle.tcp_loop.specs.declared.stage.Part.TheVariants as part
use Rattle.tcp_loop.specs.declared.target.Call.{Call}
use Rattle.tcp_loop.specs.declared.target.Call.TheVariants as call

-- ---- connections that are there

one_few : (b : Bool) → one_if b ≤ 1
one_few true = omega arith
one_few false = omega arith

pub open_few : (n : ℕ) (there : List Bool) → open_below n there ≤ n
open_few zero there = omega arith
open_few (suc n) there = let one = one_few (flag n there) in let rest = open_few n there in omega (arith, one, rest)

-- the same are
same_below : (n : ℕ) (a b : List Bool) → ((q : ℕ) → q < n → flag q b ≡ flag q a) → open_below n b ≡ open_below n a
same_below zero a b same = refl
same_below (suc n) a b same =
    let here : one_if (flag n b) ≡ one_if (flag n a) = ap (λ (f : Bool). one_if f) (same n (omega arith)) in
    let rest = same_below n a b (λ q less. same q (omega (arith, less))) in omega (arith, here, rest)

-- one is closed
pub cleared : (n place : ℕ) → place < n → (a b : List Bool) → flag place b ≡ false
    → ((q : ℕ) → q ≢ place → flag q b ≡ flag q a) → open_below n b + one_if (flag place a) ≡ open_below n a
cleared zero place less a b clear others = absurd (omega (arith, less))
cleared (suc n) place less a b clear others =
    ⊎_elim
    (λ (below : place < n). let here : one_if (flag n b) ≡ one_if (flag n a) = ap (λ (f : Bool). one_if f) (others n (λ is. omega (arith, below, is))) in
    let rest = cleared n place below a b clear others in omega (arith, here, rest))
    (λ (not_below : n ≤ place). let is : place ≡ n = omega (arith, less, not_below) in
    let old : one_if (flag place a) ≡ one_if (flag n a) = ap (λ (q : ℕ). one_if (flag q a)) is in
    let new : one_if (flag place b) ≡ one_if (flag n b) = ap (λ (q : ℕ). one_if (flag q b)) is in
    let none : one_if (flag place b) ≡ 0 = ap (λ (f : Bool). one_if f) clear in
    let rest = same_below n a b (λ q below. others q (λ e. omega (arith, below, e, is))) in omega (arith, old, new, none, rest))
    (cases_lt place n)

-- one is there
open_some : (n place : ℕ) → place < n → (there : List Bool) → flag place there ≡ true → 1 ≤ open_below n there
open_some zero place less there is = absurd (omega (arith, less))
open_some (suc n) place less there is =
    ⊎_elim
    (λ (below : place < n). let rest = open_some n place below there is in omega (arith, rest))
    (λ (not_below : n ≤ place). let same : place ≡ n = omega (arith, less, not_below) in
    let here : one_if (flag place there) ≡ one_if (flag n there) = ap (λ (q : ℕ). one_if (flag q there)) same in
    let one : one_if (flag place there) ≡ 1 = ap (λ (f : Bool). one_if f) is in omega (arith, here, one))
    (cases_lt place n)

-- it is to be closed
pub closing_one : (place : ℕ) (there : List Bool) → place < 40 → flag place there ≡ true
    → to_close (open_but place there) + 1 ≤ to_close (open_below 40 there)
closing_one place there low is =
    let some = open_some 40 place low there is in let one : one_if (flag place there) ≡ 1 = ap (λ (f : Bool). one_if f) is in
    omega (arith, some, one)

-- and is closed
pub closed_one : (place left : ℕ) (a b : List Bool) → place < 40 → flag place b ≡ false
    → ((q : ℕ) → q ≢ place → flag q b ≡ flag q a) → left ≤ to_close (open_below 40 b) → left ≤ to_close (open_but place a)
closed_one place left a b low clear others few = let fewer = cleared 40 place low a b clear others in omega (arith, fewer, few)

-- ---- bounds

pub same : (n : ℕ) → n ≤ n
same n = omega arith

pub next_read : (from place : ℕ) → from ≤ place → to_read place ≤ to_read from
next_read from place on = omega (arith, on)

pub next_write : (from place : ℕ) → from ≤ place → to_write place ≤ to_write from
next_write from place on = omega (arith, on)

pub fail_read : (place left : ℕ) → left ≤ to_fail → left ≤ to_read place
fail_read place left few = omega (arith, few)

pub read_most : (left : ℕ) → left ≤ to_read 0 → left ≤ most
read_most left few = omega (arith, few)

pub fail_commit : (left : ℕ) → left ≤ to_fail → left ≤ to_commit
fail_commit left few = omega (arith, few)

pub write_commit : (left : ℕ) → left ≤ to_write 0 → left ≤ to_commit
write_commit left few = omega (arith, few)

pub fail_begin : (left : ℕ) → left ≤ to_fail → left ≤ to_begin
fail_begin left few = omega (arith, few)

pub close_write : (from left : ℕ) (there : List Bool) → left ≤ to_close (open_below 40 there) → left ≤ to_write from
close_write from left there few = let least = open_few 40 there in omega (arith, few, least)

pub take_close : (left count : ℕ) → left ≤ to_take 40 → left ≤ to_close count
take_close left count few = omega (arith, few)

pub taken_one : (more : ℕ) → 0 < more → to_take (more - 1) + 2 ≤ to_take more
taken_one more some = omega (arith, some)

pub print_take : (left more : ℕ) → left ≤ to_take 0 → left ≤ to_take more
print_take left more few = omega (arith, few)

pub one_more : (left count : ℕ) → left ≤ count → left ≤ count + 1
one_more left count few = omega (arith, few)

pub printed : (lines lines' : ℕ) → lines' < lines → to_print lines' + 1 ≤ to_print lines
printed lines lines' fewer = omega (arith, fewer)

pub printed_few : (lines lines' : ℕ) → lines ≤ 257 → lines' < lines → to_print lines' + 1 ≤ to_take 0
printed_few lines lines' few fewer = omega (arith, few, fewer)

pub begin_print : (left lines : ℕ) → left ≤ to_begin → left ≤ to_print lines
begin_print left lines few = omega (arith, few)

pub begin_take : (left : ℕ) → left ≤ to_begin → left ≤ to_take 0
begin_take left few = omega (arith, few)

pub failed : (lines lines' : ℕ) → lines' < lines → lines' + 1 ≤ lines
failed lines lines' fewer = omega (arith, fewer)

pub failed_few : (lines lines' : ℕ) → lines ≤ 257 → lines' < lines → lines' + 1 ≤ to_fail
failed_few lines lines' few fewer = omega (arith, few, fewer)

pub below : (left count : ℕ) → left ≤ count → left < count + 1
below left count few = omega (arith, few)

pub below_two : (left count : ℕ) → left ≤ count + 1 → left < count + 2
below_two left count few = omega (arith, few)

pub below_most : (left : ℕ) → left ≤ to_read 0 → left < most
below_most left few = omega (arith, few)

pub below_read : (place left : ℕ) → place < 40 → left ≤ to_read (place + 1) → left < to_read place
below_read place left low few = omega (arith, low, few)

pub below_write : (place left : ℕ) → place < 40 → left ≤ to_write (place + 1) → left < to_write place
below_write place left low few = omega (arith, low, few)

-- ---- calls

pub fail_call : (finished : Bool) (left : ℕ) → left ≤ to_fail → left ≤ to_call finished
fail_call true left few = omega (arith, few)
fail_call false left few = omega (arith, few)

pub call_commit : (finished : Bool) (left : ℕ) → left ≤ to_call finished → left ≤ to_commit
call_commit true left few = omega (arith, few)
call_commit false left few = omega (arith, few)

pub call_most : (finished : Bool) (left : ℕ) → left ≤ to_call finished → left ≤ most
call_most true left few = omega (arith, few)
call_most false left few = omega (arith, few)

pub time_call : (finished : Bool) → to_time finished ≤ to_call finished
time_call true = omega arith
time_call false = omega arith

pub time_some : (finished : Bool) → 0 < to_time finished
time_some true = omega arith
time_some false = omega arith

pub write_time : (finished : Bool) (left : ℕ) → finished ≡ false → left ≤ to_write 0 → left < to_time finished
write_time true left is few = cc
write_time false left is few = omega (arith, few)

-- ---- operations

pub falls_call : (c : Call) (before after : ℕ) → after ≤ before → Falls (operation_of_call c) before after
falls_call (call.Write «at») before after few = few
falls_call (call.Renew «at») before after few = few
falls_call (call.Shorten len) before after few = few
falls_call call.Sync before after few = few
falls_call call.Replace before after few = few
falls_call call.Want before after few = few

pub falls_part : (p : Part) (before after : ℕ) → after ≤ before → Falls (operation_of_part p) before after
falls_part (part.Made wants) before after few = few
falls_part (part.Filled wants) before after few = few
falls_part (part.Flushed wants) before after few = few
falls_part part.Named before after few = few
falls_part part.Placed before after few = few
falls_part part.Discarded before after few = few

pub falls_told : (fails : Bool) (lines after : ℕ) → after ≤ (if fails then lines else to_print lines)
    → after < (if fails then lines + 1 else to_print lines + 1)
falls_told true lines after few = omega (arith, few)
falls_told false lines after few = omega (arith, few)

-- ---- traces

more_made : (asked : Operation) (before after made : ℕ) → Falls asked before after → made + before ≤ most
    → since_wait_by asked made + after ≤ most
more_made (Poll watched milliseconds) before after made falls few = omega (arith, falls, few)
more_made Signal before after made falls few = omega (arith, falls, few)
more_made Now before after made falls few = omega (arith, falls, few)
more_made (Accept place) before after made falls few = omega (arith, falls, few)
more_made (Read place) before after made falls few = omega (arith, falls, few)
more_made (Write place) before after made falls few = omega (arith, falls, few)
more_made (Close place) before after made falls few = omega (arith, falls, few)
more_made (Pwrite file «at») before after made falls few = omega (arith, falls, few)
more_made (Ftruncate len) before after made falls few = omega (arith, falls, few)
more_made (Fsync file) before after made falls few = omega (arith, falls, few)
more_made Create before after made falls few = omega (arith, falls, few)
more_made Rename before after made falls few = omega (arith, falls, few)
more_made SyncFolder before after made falls few = omega (arith, falls, few)
more_made Discard before after made falls few = omega (arith, falls, few)
more_made (Log cause) before after made falls few = omega (arith, falls, few)
more_made (End done) before after made falls few = omega (arith, falls, few)

pub ends_by : (made : Made) (trace : Trace) (before after : ℕ) → Falls made.asked before after → EndsRounds trace before
    → EndsRounds (made ∷ trace) after
ends_by made trace before after falls ends =
    let few = more_made made.asked before after (since_wait trace) falls ends.few in
    record { few = few; never_more = (omega (arith, few), ends.never_more) }
