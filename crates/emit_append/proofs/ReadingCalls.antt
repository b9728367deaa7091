-- What a reading call gives, from the calls that it makes.
use Rattle.std.proofs.Common.{◌≡◌, ℕ, ◌+◌, ◌/◌, ◌≤◌, ◌<◌, List, [], length, take, drop, Result, Ok, Err, IfSome, ap, sym, ◌∙◌, arith}
use Rattle.std.proofs.lemmas.List.{append-nil, nil_from_length}
use Rattle.std.proofs.Math.Nat.{div-eq_of_lt}
use Rattle.common_definitions.specs.Gives.{Gives}
use Rattle.common_definitions.specs.Readings.{◌>>=◌, with_front}
use Rattle.emit_append.specs.declared.fault.UnpackFault.{UnpackFault}
use Rattle.emit_append.specs.declared.fault.UnpackFault.TheVariants.{At, Memory}
use Rattle.emit_append.specs.Unpacking.{Reading, output_block_at, output_blocks_at, byte_told}
use Rattle.emit_append.proofs.FramesRead.{read-err, more_blocks, no_more_blocks, part_of_block}

-- no more records come after these
pub gives_records : (given : Result Unit UnpackFault) (records : List (List ℕ)) (reading : Reading) → Gives byte_told (λ _. []) given reading → Gives byte_told (λ _. records) given (with_front records reading)
gives_records (Ok x) records reading is = ap (with_front records) is ∙ ap Ok (append-nil records)
gives_records (Err (At place)) records reading is = ap (with_front records) is
gives_records (Err Memory) records reading is = tt

-- a block's fault is that of the blocks
pub fails_on : (fault : UnpackFault) (records : List (List ℕ)) (first rest : Reading) → IfSome (byte_told fault) (λ place. with_front records first ≡ Err place) →
    IfSome (byte_told fault) (λ place. with_front records (first >>= λ more. with_front more rest) ≡ Err place)
fails_on (At place) records first rest is = read-err records first rest place is
fails_on Memory records first rest is = tt

-- blocks from a place on, after some records, where their reading is all
module _ (block at : ℕ) (records : List (List ℕ)) (all : Reading) (rest : List ℕ) (some : 0 < block)
    (read : with_front records (output_blocks_at (length rest / block) block at rest) ≡ all) where
  pub goes_on_with : (front back : List ℕ) → block ≤ length rest → front ≡ take block rest → back ≡ drop block rest →
      all ≡ with_front records (output_block_at at front >>= λ more. with_front more (output_blocks_at (length back / block) block (at + block) back))
  goes_on_with front back long first last = rw (first, last) (sym read ∙ ap (with_front records) (more_blocks block at rest some long))

  pub is_part : length rest < block → 0 < length rest → all ≡ Err at
  is_part short left =
      let none : length rest / block ≡ 0 = div-eq_of_lt short in
      sym read ∙ ap (λ count. with_front records (output_blocks_at count block at rest)) none ∙ ap (with_front records) (part_of_block block at rest left)

  pub is_end : length rest ≡ 0 → all ≡ Ok records
  is_end empty =
      let none : length rest / block ≡ 0 = div-eq_of_lt (omega arith) in
      let nothing = nil_from_length rest empty in
      sym read ∙ ap (λ count. with_front records (output_blocks_at count block at rest)) none
      ∙ ap (λ bytes. with_front records (output_blocks_at 0 block at bytes)) nothing
      ∙ ap (with_front records) (no_more_blocks block at) ∙ ap Ok (append-nil records)
