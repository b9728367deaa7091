-- What a new base with an empty journal stands for.
use Rattle.std.proofs.Common.{◌≡◌, arith, ◌+◌, ◌-◌, ◌≤◌, ℕ, Bool, List, [], ◌++◌, length, take, replicate, refl, sym, ◌∙◌, ap, append_assoc, length-append}
use Rattle.std.proofs.lemmas.List.{append-nil, take_all, length-replicate, replicate-append-replicate}
use Rattle.stored_file.specs.File.{FileState, IsOnDisk}
use Rattle.durable_machine.proofs.Steps.{at_rest}
use Rattle.durable_machine.specs.Journal.{closed_gate}
use Rattle.durable_machine.specs.Files.{IsFront, IsState, IsDurable, IsInBase, whole_sectors}
use Rattle.durable_machine.proofs.Files.{is_before}

-- a base, and zeros up to a length and a closed gate
zeros_behind : (base bytes : List ℕ) (front n : ℕ) → length base ≤ front → n ≡ length base → bytes ≡ take (front + 4096) base ++ replicate {A = ℕ} (front + 4096 - n) 0
    → bytes ≡ (base ++ replicate {A = ℕ} (front - length base) 0) ++ [] ++ closed_gate
unfolding closed_gate
zeros_behind base bytes front n long counted is =
    is
    ∙ ap (λ (k : ℕ). take (front + 4096) base ++ replicate {A = ℕ} (front + 4096 - k) 0) counted
    ∙ ap (λ (l : List ℕ). l ++ replicate {A = ℕ} (front + 4096 - length base) 0) (take_all (front + 4096) base (omega (arith, long)))
    ∙ ap (λ (k : ℕ). base ++ replicate {A = ℕ} k 0) zeros
    ∙ ap (λ (l : List ℕ). base ++ l) (sym (replicate-append-replicate {A = ℕ} (front - length base) 4096 0))
    ∙ sym (append_assoc base (replicate {A = ℕ} (front - length base) 0) (replicate {A = ℕ} 4096 0))
    ∙ ap (λ (l : List ℕ). l ++ replicate {A = ℕ} 4096 0) (sym (append-nil (base ++ replicate {A = ℕ} (front - length base) 0)))
  where
    zeros : front + 4096 - length base ≡ (front - length base) + 4096
    zeros = omega (arith, long)

module _ {S : Type 0} (loads : List ℕ → S → Type 0) (next : S → Bool → List ℕ → S) (base bytes : List ℕ) (s : S) (loaded : loads base s) (front n : ℕ) (size : front ≡ whole_sectors (length base)) (counted : n ≡ length base)
    (is : bytes ≡ take (front + 4096) base ++ replicate {A = ℕ} (front + 4096 - n) 0) where
  long : length base ≤ front
  long = omega (arith, size)

  length-padded : length (base ++ replicate {A = ℕ} (front - length base) 0) ≡ front
  length-padded = omega (arith, long, length-append base (replicate {A = ℕ} (front - length base) 0), length-replicate {A = ℕ} (front - length base) 0)

  begins : IsFront loads next (base ++ replicate {A = ℕ} (front - length base) 0) s
  begins = record { base = base; padding = replicate {A = ℕ} (front - length base) 0; loaded = loaded; parts = refl; size = length-padded ∙ size }

  pub based : (file : FileState) → file.seen ≡ bytes → IsOnDisk file → IsInBase loads next s front file
  based file sees durable = record {
    front = base ++ replicate {A = ℕ} (front - length base) 0;
    begins = begins;
    rests = record {
      whole = omega (arith, length-padded, size);
      frames = [];
      are = refl;
      room = [];
      parts =
          sees ∙ zeros_behind base bytes front n long counted is
          ∙ ap (λ (l : List ℕ). (base ++ replicate {A = ℕ} (front - length base) 0) ++ [] ++ l) (sym (append-nil closed_gate));
      ends = sym length-padded ∙ ap length (sym (append-nil (base ++ replicate {A = ℕ} (front - length base) 0)));
      durable = durable;
    };
  }

  pub folded : (file : FileState) → file.seen ≡ bytes → IsOnDisk file → IsDurable loads next s front file
  folded file sees durable =
      let is = based file sees durable in
      record { front = is.front; first = s; begins = is.begins; batches = []; rests = is.rests; leads = refl }

  -- such a file stands for the machine
  pub folded_state : (c : List ℕ) → c ≡ bytes → IsState loads next c s
  folded_state c is_bytes =
      let file : FileState = record { seen = c; moment = 0; left_since = λ t d. d ≡ c; once_synced = λ d. d ≡ c; faults = 0; made = [] } in
      let durable : IsDurable loads next s front file = folded file is_bytes (record { left = λ d left. left; synced = λ d is. is }) in
      is_before loads next s front file durable c (at_rest durable.front durable.batches front file durable.rests)
