-- What was told is read back.
use Rattle.std.proofs.Common.{◌≡◌, ℕ, Bool, true, false, List, [], ◌∷◌, ◌++◌, ◌≤◌, Some, drop, length, map, take, replicate, refl, sym, ap, ◌∙◌, arith}
use Rattle.std.proofs.lemmas.List.{append-nil, length-map, take_all}
use Rattle.device_library.specs.OperationAnswers.{answer_in}
use Rattle.device_library.specs.Flags.{byte_of, is_set, padded}
use Rattle.device_library.specs.LoopLaws.{HasPlaces, operation_in, said_of}
use Rattle.device_library.specs.Operations.{head_of, reads_of, writes_of}
use Rattle.tcp_loop.specs.declared.operation.Answer.{Answer}
use Rattle.tcp_loop.specs.declared.operation.Answer.TheVariants as answer
use Rattle.tcp_loop.specs.declared.operation.Operation.{Operation}
use Rattle.tcp_loop.specs.declared.operation.Operation.TheVariants as operation
use Rattle.tcp_loop.specs.declared.operation.Ready.{Ready}
use Rattle.tcp_loop.specs.declared.operation.Watched.{Watched}
use Rattle.tcp_loop.specs.declared.operation.Which.TheVariants as which

flag_read : (is : Bool) → is_set (byte_of is) ≡ is
flag_read true = refl
flag_read false = refl

flags_read : (flags : List Bool) → map is_set (map byte_of flags) ≡ flags
flags_read [] = refl
flags_read (is ∷ flags) =
    ap (λ (b : Bool). b ∷ map is_set (map byte_of flags)) (flag_read is) ∙ ap (λ (l : List Bool). is ∷ l) (flags_read flags)

padded_read : (flags : List Bool) → length flags ≡ 40 → map is_set (padded (map byte_of flags)) ≡ flags
padded_read flags size =
    let bytes = map byte_of flags in
    let long : length bytes ≡ 40 = length-map flags byte_of ∙ size in
    let none : drop (length bytes) (replicate 40 0) ≡ [] = ap (λ (n : ℕ). drop n (replicate 40 0)) long in
    ap (map is_set) (ap (λ (l : List ℕ). take 40 bytes ++ l) none ∙ append-nil (take 40 bytes) ∙ take_all 40 bytes (omega (arith, long))) ∙ flags_read flags

pub operation_read : (o : Operation) → operation_in (head_of o) (reads_of o) (writes_of o) ≡ Some o
operation_read (operation.Poll watched milliseconds) =
    ap (λ (reads : List Bool). Some (operation.Poll (record { reads = reads; writes = map is_set (map byte_of watched.writes); accepts = watched.accepts }) milliseconds)) (flags_read watched.reads)
    ∙ ap (λ (writes : List Bool). Some (operation.Poll (record { reads = watched.reads; writes = writes; accepts = watched.accepts }) milliseconds)) (flags_read watched.writes)
operation_read operation.Signal = refl
operation_read operation.Now = refl
operation_read (operation.Accept place) = refl
operation_read (operation.Read place) = refl
operation_read (operation.Write place) = refl
operation_read (operation.Close place) = refl
operation_read (operation.Pwrite which.Held «at») = refl
operation_read (operation.Pwrite which.Beside «at») = refl
operation_read (operation.Ftruncate len) = refl
operation_read (operation.Fsync which.Held) = refl
operation_read (operation.Fsync which.Beside) = refl
operation_read operation.Create = refl
operation_read operation.Rename = refl
operation_read operation.SyncFolder = refl
operation_read operation.Discard = refl
operation_read (operation.Log cause) = refl
operation_read (operation.End done) = refl

happened_read : (reads writes : List Bool) (accepts signals : Bool) → length reads ≡ 40 → length writes ≡ 40
    → answer_in (said_of (answer.Happened (record { reads = reads; writes = writes; accepts = accepts; signals = signals })))
    ≡ answer.Happened (record { reads = reads; writes = writes; accepts = accepts; signals = signals })
happened_read reads writes true true first second =
    ap (λ (r : List Bool). answer.Happened (record { reads = r; writes = map is_set (padded (map byte_of writes)); accepts = true; signals = true })) (padded_read reads first)
    ∙ ap (λ (w : List Bool). answer.Happened (record { reads = reads; writes = w; accepts = true; signals = true })) (padded_read writes second)
happened_read reads writes true false first second =
    ap (λ (r : List Bool). answer.Happened (record { reads = r; writes = map is_set (padded (map byte_of writes)); accepts = true; signals = false })) (padded_read reads first)
    ∙ ap (λ (w : List Bool). answer.Happened (record { reads = reads; writes = w; accepts = true; signals = false })) (padded_read writes second)
happened_read reads writes false true first second =
    ap (λ (r : List Bool). answer.Happened (record { reads = r; writes = map is_set (padded (map byte_of writes)); accepts = false; signals = true })) (padded_read reads first)
    ∙ ap (λ (w : List Bool). answer.Happened (record { reads = reads; writes = w; accepts = false; signals = true })) (padded_read writes second)
happened_read reads writes false false first second =
    ap (λ (r : List Bool). answer.Happened (record { reads = r; writes = map is_set (padded (map byte_of writes)); accepts = false; signals = false })) (padded_read reads first)
    ∙ ap (λ (w : List Bool). answer.Happened (record { reads = reads; writes = w; accepts = false; signals = false })) (padded_read writes second)

pub answer_read : (a : Answer) → HasPlaces a → answer_in (said_of a) ≡ a
answer_read answer.Done places = refl
answer_read answer.Came places = refl
answer_read (answer.Taken count) places = refl
answer_read answer.Again places = refl
answer_read answer.NoRoom places = refl
answer_read answer.Failed places = refl
answer_read (answer.Happened ready) places = happened_read ready.reads ready.writes ready.accepts ready.signals places.0 places.1
answer_read (answer.Time now) places = refl
answer_read (answer.Signal true) places = refl
answer_read (answer.Signal false) places = refl
